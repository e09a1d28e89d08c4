use Rattle.yds_model.proofs.Common.{◌∙◌, ◌++◌, ◌∷◌, [], List, map, slice_index, sym, subst, ap, arith, below_more, range_with_len, get_or_read, map-range_with_len_more, All-from_get_or, Job, IsJob, no_job}
use Rattle.yds_edf.specs.declared.due_order.Due.{Due}
use Rattle.yds_edf.specs.DueOrder.{due_job}
use Rattle.yds_edf.proofs.due_order.in_list_order.Goals as goal

pub loop-number-preserved : goal.loop-number-preserved
loop-number-preserved c =
    let number = c.loop-number.number in
    let ties = c.args.ties.now in
    let row = c.row.view_is ∙ get_or_read c.args.rows.now number c.index-rows-number.result c.loop-number-test.true c.index-rows-number.is no_job in
    record {
      jobs = below_more _ _ c.loop-number.invariant.jobs (subst IsJob row c.row.invariant);
      order = c.in_ok-push.ensures.items
          ∙ ap (λ (dues : List Due). dues ++ record { release = c.row.inside.release; deadline = c.row.inside.deadline; tie = slice_index ties number; job = number } ∷ []) c.loop-number.invariant.order
          ∙ ap (λ (job : Job). map (due_job c.args.rows.now ties) (range_with_len 0 number) ++ record { release = job.release; deadline = job.deadline; tie = slice_index ties number; job = number } ∷ []) row
          ∙ sym (map-range_with_len_more (due_job c.args.rows.now ties) 0 number number (omega arith));
    }

pub returns-clause-jobs : goal.returns-clause-jobs
returns-clause-jobs c = All-from_get_or IsJob c.args.rows.now no_job
    (λ number within. c.loop-number.invariant.jobs number (omega (arith, within, c.loop-number-test.false)))
