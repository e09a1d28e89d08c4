use Rattle.yds_model.proofs.Common.{◌-◌, ◌<◌, ◌≤◌, ◌++◌, [], arith, length, ap, ◌∙◌, append_assoc, zip, job_line}
use Rattle.document_text.specs.Job.{job_lines_from}
use Rattle.document_text.proofs.Batches.{lines_before}
use Rattle.document_text.proofs.Named.{named_at, named_within}
use Rattle.document_text.proofs.job.put_all.Goals as goal

pub loop-job-preserved : goal.loop-job-preserved
loop-job-preserved c =
    let instance = c.args.instance.now in
    let rows = c.rows-rows.ensures in
    let row = c.index-rows-job.result in
    let name = c.name_of.result.now in
    let inside : c.loop-job.job - 1 < length c.rows-rows.result.now = omega (arith, ap length rows.jobs) in
    let named : c.loop-job.job - 1 < length (zip instance.names instance.jobs) = named_within _ _ _ _ rows.kept.one_name_each rows.jobs inside in
    let some : 1 ≤ c.loop-job.job = omega arith in
    let within : c.loop-job.job ≤ length (zip instance.names instance.jobs) = omega arith in
    let item = named_at _ _ _ _ _ _ rows.kept.one_name_each rows.jobs inside c.name_of.ensures.name c.index-rows-job.is in (
      ap (λ l. l ++ job_lines_from c.args.to instance) c.put.ensures.bytes ∙ append_assoc (job_line name row) c.loop-job.text (job_lines_from c.args.to instance)
          ∙ ap (λ l. job_line name row ++ l) c.loop-job.invariant.0
          ∙ lines_before (λ named. job_line named.0 named.1) (zip instance.names instance.jobs) c.loop-job.job ([], row) (name, row) some within item,
      omega (arith, c.put.ensures.short),
      omega arith,
    )
