use Rattle.base.proofs.Common.{◌∙◌, ℕ, List, length-map, sym, ap, ap₂, Option, Some, option_map}
use Rattle.yds_trace.specs.declared.reason.Reason.{Reason}
use Rattle.yds_trace.specs.Document.{Judged}
use Rattle.yds_trace_document.specs.declared.fault.LeftOut.{LeftOut}
use Rattle.yds_trace_document.specs.LeftOut.{first_frequent, left_out_for}
use Rattle.yds_trace_document.specs.Views.{judged_read, judged_list, count_in}
use Rattle.yds_trace_document.proofs.left_out.most_left_out.Goals as goal

-- what is told of these jobs by these counts
abbrev told_by : List Judged → (Reason → ℕ) → Option LeftOut
told_by judged counts = option_map (left_out_for judged counts) (first_frequent counts judged)

pub returns-in-Some : goal.returns-in-Some
returns-in-Some c =
    ap₂ (λ (count all : ℕ). let one : LeftOut = record { reason = c.in-Some.reason; count = count; all = all } in Some one) c.of.ensures
    (sym (length-map c.args.judged.now judged_read))
    ∙ ap (option_map (left_out_for (judged_list c.args.judged.now) (count_in c.new-counts.result))) (sym c.in-Some.is ∙ c.first_frequent.ensures)
    ∙ ap (told_by (judged_list c.args.judged.now)) c.new-counts.ensures

pub returns-in-None : goal.returns-in-None
returns-in-None c =
    ap (option_map (left_out_for (judged_list c.args.judged.now) (count_in c.new-counts.result))) (sym c.in-None.is ∙ c.first_frequent.ensures)
    ∙ ap (told_by (judged_list c.args.judged.now)) c.new-counts.ensures
