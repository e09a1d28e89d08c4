use Rattle.yds_model.proofs.Common.{ap, ap₂, length, ◌∙◌}
use Rattle.serde_json.specs.Read.{read}
use Rattle.yds_report.specs.JsonValue.{report_value}
use Rattle.yds_report.proofs.JsonRead.{reports_are_read}
use Rattle.yds_report.proofs.Sent.{same_numbers, sent_text}
use Rattle.yds_report.proofs.json_text.json.Goals as goal

pub returns-in_ok-push-in-Ok-clause-text : goal.returns-in_ok-push-in-Ok-clause-text
returns-in_ok-push-in-Ok-clause-text c =
    let sent = c.in-Ok.ensures.events in
    let is = same_numbers _ _ _ _ (length c.rows-rows.result.now) c.levels-levels.result.now _ _ _ _ (c.from.ensures ∙ c.first_release.ensures) c.idle_time.ensures
    (c.from-2.ensures ∙ c.last_deadline.ensures) c.total_work.ensures ∙ ap₂ report_value c.rows-rows.ensures.jobs c.levels-levels.ensures.value in
    c.in_ok-push-in-Ok.ensures.items
    ∙ sent_text c.args.document.now.instance.jobs c.args.certificate.now _ sent.0 c.in-Ok.text.items c.levels-levels.ensures.kept.each is sent.1 sent.2

pub returns-in_ok-push-in-Ok-clause-read : goal.returns-in_ok-push-in-Ok-clause-read
returns-in_ok-push-in-Ok-clause-read c =
    let kept = c.rows-rows.ensures.kept in
    ap read (returns-in_ok-push-in-Ok-clause-text c)
    ∙ reports_are_read c.args.document.now.instance.jobs c.args.certificate.now kept.jobs_fit kept.few c.levels-levels.ensures.kept.each
