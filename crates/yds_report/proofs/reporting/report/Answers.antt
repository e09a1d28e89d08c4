use Rattle.yds_model.proofs.Common.{ap, ◌∙◌, flat_map, enumerate_from, jobs_row, level_row, idle_row}
use Rattle.yds_port.proofs.Putting.{puts_whole, puts_text, puts_failed, puts_front, puts_after, whole_after}
use Rattle.yds_report.proofs.reporting.report.Goals as goal

pub returns-in_err-write_all-clause-puts : goal.returns-in_err-write_all-clause-puts
returns-in_err-write_all-clause-puts g c =
    let failed = c.from_residual.ensures.0 in
    puts_front _ _ failed (puts_front _ _ failed
    (puts_failed _ failed (c.as_bytes.ensures ∙ c.jobs_line.ensures ∙ ap jobs_row c.rows-rows.ensures.jobs) c.in_err-write_all.ensures.puts))

pub returns-in_err-write_levels-clause-puts : goal.returns-in_err-write_levels-clause-puts
returns-in_err-write_levels-clause-puts g c =
    let failed = c.from_residual-in_err-write_levels.ensures.0 in
    puts_front _ _ failed (puts_after _ (puts_whole (c.as_bytes.ensures ∙ c.jobs_line.ensures ∙ ap jobs_row c.rows-rows.ensures.jobs) c.in_ok-write_all.ensures.puts)
    (puts_failed _ failed (ap (λ l. flat_map level_row (enumerate_from 1 l)) c.levels-levels.ensures.value) c.in_err-write_levels.ensures))

pub returns-clause-puts : goal.returns-clause-puts
returns-clause-puts g c =
    let jobs = c.args.document.now.instance.jobs in
    puts_after _ (whole_after (puts_whole (c.as_bytes.ensures ∙ c.jobs_line.ensures ∙ ap jobs_row c.rows-rows.ensures.jobs) c.in_ok-write_all.ensures.puts)
    (puts_whole (ap (λ l. flat_map level_row (enumerate_from 1 l)) c.levels-levels.ensures.value) c.in_ok-write_levels.ensures))
    (puts_text (c.as_bytes-2.ensures ∙ c.idle_line.ensures ∙ ap (λ rows. idle_row rows c.levels-levels.result.now) c.rows-rows.ensures.jobs ∙ ap (idle_row jobs) c.levels-levels.ensures.value)
    c.write_all-2.ensures.puts)
