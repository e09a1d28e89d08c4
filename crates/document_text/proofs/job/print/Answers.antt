use Rattle.yds_model.proofs.Common.{◌++◌, ◌∙◌, ap, flat_map, drop_all, job_line}
use Rattle.document_text.specs.Job.{job_lines_from}
use Rattle.document_text.proofs.Batches.{part_put, part_failed, parts_put}
use Rattle.document_text.proofs.Named.{named_count}
use Rattle.document_text.proofs.job.print.Goals as goal

pub returns-in_err-write_all : goal.returns-in_err-write_all
returns-in_err-write_all g c =
    part_failed _ (ap (λ l. l ++ job_lines_from c.min-to.result c.args.instance.now) c.as_bytes.ensures ∙ c.put_all.ensures) _ c.from_residual.ensures.0 c.loop-from.invariant
    c.in_err-write_all.ensures.puts

pub loop-from-preserved : goal.loop-from-preserved
loop-from-preserved g c =
    part_put _ (ap (λ l. l ++ job_lines_from c.min-to.result c.args.instance.now) c.as_bytes.ensures ∙ c.put_all.ensures) c.loop-from.invariant c.in_ok-write_all.ensures.puts

pub returns : goal.returns
returns g c =
    let rows = c.rows-count.ensures in
    parts_put (ap (flat_map (λ named. job_line named.0 named.1)) (drop_all _ _ (named_count _ _ _ _ rows.kept.one_name_each rows.jobs c.loop-from-test.false))) c.loop-from.invariant
