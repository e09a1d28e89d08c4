-- What `report` writes is the table of a plan's levels, and what `report --json` writes is read as their report.
use Rattle.yds_model.proofs.Common.{ℕ, List, Some, AskReport, AskReportAsJson, OfDocument, AnswersRequest}
use Rattle.base.specs.declared.status.Status.TheVariants.{Done}
use Rattle.yds_texts.proofs.Answered.{answered, done_not_refused}
use Rattle.yds_texts.proofs.Within.{read_is_within_limits}
use Rattle.yds_report.specs.JsonText.{HoldsReport}
use Rattle.yds_report.proofs.JsonRead.{text_read}
use Rattle.yds_report.specs.TableText.{HoldsTable}

pub report_held : (input text : List ℕ) → AnswersRequest (Some (OfDocument AskReportAsJson)) input text Done → HoldsReport input text
report_held input text answers =
    let is = answered AskReportAsJson input text Done done_not_refused answers in
    let answer = is.answers in
    let jobs = is.document.jobs in
    let fits = read_is_within_limits input is.document is.read in (
      is.document,
      answer.slots,
      answer.levels,
      record {
        is_read = is.read;
        plan = answer.plan;
        value = text_read text jobs answer.levels answer.said fits.jobs.jobs_fit fits.jobs.few answer.fit;
      },
    )

pub table_held : (input text : List ℕ) → AnswersRequest (Some (OfDocument AskReport)) input text Done → HoldsTable input text
table_held input text answers =
    let is = answered AskReport input text Done done_not_refused answers in
    let answer = is.answers in
    (is.document, answer.slots, answer.levels, record { is_read = is.read; plan = answer.plan; written = answer.said })
