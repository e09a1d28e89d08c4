use Rattle.base.proofs.Common.{◌∙◌, map, ap, sym, rules, IsNonDecreasingBy-from_sort_by_key, answers_always}
use Rattle.yds_trace.specs.Document.{in_order}
use Rattle.yds_trace_document.specs.declared.judged.Judged.{Judged as JudgedKept}
use Rattle.yds_trace_document.specs.Kept.{begin_of}
use Rattle.yds_trace_document.specs.Views.{judged_read}
use Rattle.yds_trace_document.proofs.Sorting.{stably_sorted, in_order_map}
use Rattle.yds_trace_document.proofs.settlement.in_order_of_begins.Goals as goal

pub returns : goal.returns
returns c =
    ap (map judged_read) (stably_sorted (λ (judged : JudgedKept). judged.job.now.begin) c.in_ok-all.all.items c.sort_by_key.new.self.items
    (IsNonDecreasingBy-from_sort_by_key (λ (judged : JudgedKept). judged.job.now.begin) c.sort_by_key.new.self.items c.in_ok-sort_by_key.ensures.sorted (λ a r f k. search rules))
    (c.in_ok-sort_by_key.ensures.stable (λ (judged : JudgedKept). judged.job.now.begin) (answers_always _ _ _ (λ f a r f' k. search rules))))
    ∙ sym (in_order_map judged_read begin_of c.in_ok-all.all.items)
    ∙ ap (in_order begin_of) c.in_ok-all.ensures
