use Rattle.base.proofs.Common.{◌≡◌, ◌∙◌, List, map, filter, ap, sym}
use Rattle.std.specs.Prelude.{Vec}
use Rattle.std.specs.declared.alloc.Global.{Global}
use Rattle.yds_trace.specs.declared.others.Span.{Span as SpanKept}
use Rattle.yds_trace.specs.Asked.{Asked}
use Rattle.yds_trace.specs.Others.{goes_behind, others_from}
use Rattle.yds_trace.specs.Views.{asked_read, span_read}
use Rattle.yds_trace_document.specs.Part.{waiting_by_task}
use Rattle.yds_trace_document.specs.declared.judged.Judged.{Judged as JudgedKept}
use Rattle.yds_trace_document.specs.Views.{judged_lists}
use Rattle.yds_trace_document.proofs.part.judge_waiting.Goals as goal

pub returns : goal.returns
returns c past cut at is =
    let asked : Asked = asked_read c.args.asked.now in
    let lists : judged_lists c.in_ok-by_task.by_task.items ≡ waiting_by_task asked past cut 0 asked.tasks = c.in_ok-by_task.ensures past cut at is in
    record {
      by_task = lists;
      judged = c.in_ok-judged.ensures asked past cut (ap (λ (l : List (Vec JudgedKept Global)). judged_lists l) c.deref.ensures.value ∙ lists);
      boundary = sym at;
      others =
          c.behind-others.ensures
          ∙ ap (filter (goes_behind c.args.boundary)) (c.in_ok-all_lent.ensures ∙ ap (λ (spans : List SpanKept). map span_read spans) c.deref-2.ensures.value)
          ∙ is.others
          ∙ ap (others_from asked past) (sym at);
      tally = is.tally;
    }
