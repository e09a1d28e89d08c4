use Rattle.base.proofs.Common.{◌≡◌, ◌∙◌, ◌+◌, ◌*◌, ℕ, List, map, max, ap, ap₂, unwrap_or}
use Rattle.std.specs.Prelude.{Vec}
use Rattle.std.specs.declared.alloc.Global.{Global}
use Rattle.yds_trace.specs.Asked.{Asked}
use Rattle.yds_trace.specs.Views.{asked_read}
use Rattle.yds_trace.specs.Document.{in_order}
use Rattle.yds_trace.specs.Others.{spans_within}
use Rattle.yds_trace.specs.Parts.{part_until}
use Rattle.yds_trace_document.specs.Kept.{begin_of, together, capped_in}
use Rattle.yds_trace_document.specs.Part.{shift_from, shifted, part_by_task, others_until}
use Rattle.yds_trace_document.specs.declared.judged.Judged.{Judged as JudgedKept}
use Rattle.yds_trace_document.specs.declared.other.Other.{Other as OtherKept}
use Rattle.yds_trace_document.specs.Views.{judged_list, judged_lists, other_read}
use Rattle.yds_trace_document.proofs.Waits.{all_of_part}
use Rattle.yds_trace_document.proofs.Parted.{in_line, others_same, part_same, shift_same}
use Rattle.yds_trace_document.proofs.part.settle_part.Goals as goal

pub returns : goal.returns
returns c past cut is are =
    let asked : Asked = asked_read c.args.asked.now in
    let lists : judged_lists c.in_ok-by_task.by_task.items ≡ part_by_task asked past cut c.args.until =
    c.in_ok-by_task.ensures ∙ all_of_part asked past cut c.args.until c.args.waiting.by_task.items are.by_task in
    let line : judged_list c.in_ok-judged.judged.items ≡ part_until asked past cut c.args.until =
    c.in_ok-judged.ensures
    ∙ ap (λ (l : List (Vec JudgedKept Global)). in_order begin_of (together (judged_lists l))) c.deref.ensures.value
    ∙ in_line asked past cut c.args.until (judged_lists c.in_ok-by_task.by_task.items) lists in
    let shift : c.shift_from-shift.result ≡ shift_from (unwrap_or asked.from c.args.first) asked.unit (judged_list c.in_ok-judged.judged.items) =
    c.shift_from-shift.ensures.value
    ∙ ap₂ (λ (origin : ℕ) (judged : List JudgedKept). shift_from origin asked.unit (judged_list judged)) c.unwrap_or-zero.ensures c.deref-2.ensures.value in
    let others : map other_read c.in_ok-others.others.items ≡ others_until asked past cut c.args.until =
    c.in_ok-others.ensures
    ∙ ap₂ (λ (start : ℕ) (spans : List OtherKept). spans_within start c.args.until (map other_read spans)) c.max-start.ensures c.deref-3.ensures.value
    ∙ ap (λ (origin : ℕ). spans_within (max c.args.waiting.boundary (origin + c.shift_from-shift.result * asked.unit)) c.args.until
    (map other_read c.args.waiting.others.items)) c.unwrap_or-zero.ensures
    ∙ others_same asked past cut c.args.until c.args.first c.shift_from-shift.result c.args.waiting.boundary (judged_list c.in_ok-judged.judged.items)
    (map other_read c.args.waiting.others.items) is line shift are.boundary are.others in
    record {
      settled =
          c.in_ok-settled.ensures
          ∙ ap (λ (origin : ℕ). capped_in (shifted origin asked c.shift_from-shift.result) (judged_lists c.in_ok-by_task.by_task.items)
          (judged_list c.in_ok-judged.judged.items) (map other_read c.in_ok-others.others.items) c.args.waiting.tally) c.unwrap_or-zero.ensures
          ∙ part_same asked past cut c.args.until c.args.first c.shift_from-shift.result (judged_lists c.in_ok-by_task.by_task.items)
          (judged_list c.in_ok-judged.judged.items) (map other_read c.in_ok-others.others.items) c.args.waiting.tally is lists line shift others are.tally;
      shift = shift ∙ shift_same asked past cut c.args.until c.args.first (judged_list c.in_ok-judged.judged.items) is line;
    }
