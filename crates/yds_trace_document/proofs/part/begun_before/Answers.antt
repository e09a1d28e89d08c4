use Rattle.base.proofs.Common.{◌∙◌, ap, rules}
use Rattle.std.proofs.lemmas.Fn.{filter_same}
use Rattle.yds_trace.specs.Parts.{is_before_end}
use Rattle.yds_trace_document.specs.declared.judged.Judged.{Judged as JudgedKept}
use Rattle.yds_trace_document.specs.Views.{judged_read, judged_list}
use Rattle.yds_trace_document.proofs.Waits.{filter_of_map}
use Rattle.yds_trace_document.proofs.part.begun_before.Goals as goal

pub returns : goal.returns
returns c =
    ap judged_list (filter_same _ (λ (judged : JudgedKept). is_before_end c.args.until (judged_read judged)) _ (λ x b f' k. search rules) _ _ c.retain.ensures.filtered)
    ∙ filter_of_map (is_before_end c.args.until) judged_read c.args.jobs.items
