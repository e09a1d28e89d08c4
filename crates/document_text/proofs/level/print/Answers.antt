use Rattle.yds_model.proofs.Common.{◌<◌, ◌∙◌, length, All, level_lines}
use Rattle.document_text.proofs.Batches.{part_put, part_failed, lines_of_both, lines_of_one, all_of_others}
use Rattle.document_text.proofs.level.print.Goals as goal

pub returns-in_err-print_level : goal.returns-in_err-print_level
returns-in_err-print_level g c =
    let lines = level_lines c.args.instance.now.names in
    part_failed _ (lines_of_both lines c.loop-rest.rest.now 1 (lines_of_one lines c.split_at.result.0.now c.index-first-0.result c.split_at.ensures.front_len c.index-first-0.is) c.split_at.ensures.front c.split_at.ensures.back) _
    c.from_residual.ensures.0 c.loop-rest.invariant.0 c.in_err-print_level.ensures

pub loop-rest-preserved-then-count-eq0 : goal.loop-rest-preserved-then-count-eq0
loop-rest-preserved-then-count-eq0 g c =
    let lines = level_lines c.args.instance.now.names in (
      part_put _ (lines_of_both lines c.loop-rest.rest.now 1 (lines_of_one lines c.split_at.result.0.now c.index-first-0.result c.split_at.ensures.front_len c.index-first-0.is) c.split_at.ensures.front c.split_at.ensures.back)
          c.loop-rest.invariant.0 c.in_ok-print_level.ensures,
      all_of_others (λ level. All (λ job. job < length c.args.instance.now.jobs) level.members) c.loop-rest.rest.now 1 c.split_at.ensures.back c.loop-rest.invariant.1,
    )

pub returns-in_err-write_all : goal.returns-in_err-write_all
returns-in_err-write_all g c =
    let lines = level_lines c.args.instance.now.names in
    part_failed _ (lines_of_both lines c.loop-rest.rest.now c.batch_len-count.result (c.as_bytes.ensures ∙ c.put_all.ensures) c.split_at-else-count-eq0.ensures.front c.split_at-else-count-eq0.ensures.back) _
    c.from_residual-in_err-write_all.ensures.0 c.loop-rest.invariant.0 c.in_err-write_all.ensures.puts

pub loop-rest-preserved : goal.loop-rest-preserved
loop-rest-preserved g c =
    let lines = level_lines c.args.instance.now.names in (
      part_put _ (lines_of_both lines c.loop-rest.rest.now c.batch_len-count.result (c.as_bytes.ensures ∙ c.put_all.ensures) c.split_at-else-count-eq0.ensures.front c.split_at-else-count-eq0.ensures.back)
          c.loop-rest.invariant.0 c.in_ok-write_all.ensures.puts,
      all_of_others (λ level. All (λ job. job < length c.args.instance.now.jobs) level.members) c.loop-rest.rest.now c.batch_len-count.result c.split_at-else-count-eq0.ensures.back c.loop-rest.invariant.1,
    )
