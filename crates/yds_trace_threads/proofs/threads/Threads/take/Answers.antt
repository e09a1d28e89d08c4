use Rattle.base.proofs.Common.{◌≡◌, ◌∙◌, ℕ, List, ◌∷◌, sym, ap, subst, arith, Option, Some, length-map}
use Rattle.std.specs.Prelude.{nat_eq, slice_get}
use Rattle.std.specs.List.{IsDistinct, list_any}
use Rattle.yds_kernel.specs.Views.{thread_read}
use Rattle.std.specs.Vec.{with_item}
use Rattle.yds_trace_threads.specs.declared.threads.Threads.{Threads}
use Rattle.yds_trace_threads.specs.declared.limits.TheConstants.{MOST_THREADS}
use Rattle.yds_trace_threads.specs.Acts.{Act}
use Rattle.yds_trace_threads.specs.Threads.{threads_of, with_thread}
use Rattle.yds_trace_threads.specs.Kept.{IsPlace, facts_read, facts_of, facts_behind, rows_kept, no_more}
use Rattle.yds_trace_threads.proofs.Rows.{set_row, unkept_row, absent_row}
use Rattle.yds_trace_threads.proofs.Facts.{behind_act, behind_another, behind_front}
use Rattle.yds_trace_threads.proofs.threads.Threads.take.Goals as goal

pub returns-in_ok-take : goal.returns-in_ok-take
returns-in_ok-take c = λ acts at.
    let held = c.in_ok-place.ensures.holds acts at in
    let act : Act = record { thread = thread_read c.args.thread; deed = c.args.deed } in
    let pids : List ℕ = with_thread c.args.thread.pid (threads_of acts) in
    let threads : Threads = record { pids = c.place.new.self.pids; kept = with_item c.place.new.self.kept c.in-Some.place c.take.new.self } in
    behind_front (thread_read c.args.thread) c.args.deed acts threads c.if-thread-eq0.false
    (record {
      numbers = held.numbers;
      rows = set_row facts_read (facts_of acts no_more) (facts_of (act ∷ acts) no_more) c.args.thread.pid MOST_THREADS pids c.in-Some.place
          c.place.new.self.kept.items c.index_mut.result.now c.take.new.self (facts_behind c.args.thread.name.now c.args.deed) (behind_another act acts)
          (subst (λ (numbers : List ℕ). IsDistinct nat_eq numbers) held.numbers held.different)
          (subst (λ (numbers : List ℕ). slice_get numbers c.in-Some.place ≡ Some c.args.thread.pid) held.numbers
          (subst (λ (place : Option ℕ). IsPlace c.place.new.self.pids.keys c.args.thread.pid place) c.in-Some.is c.in_ok-place.ensures.place))
          held.rows (omega (arith, c.if-place-len.true, c.len.ensures, c.place.new.self.kept.ok.0)) c.index_mut.ensures.value c.in_ok-take.ensures
          (behind_act act acts);
      different = held.different;
    })

pub returns-else-place-len : goal.returns-else-place-len
returns-else-place-len c = λ acts at.
    let held = c.in_ok-place.ensures.holds acts at in
    let act : Act = record { thread = thread_read c.args.thread; deed = c.args.deed } in
    let pids : List ℕ = with_thread c.args.thread.pid (threads_of acts) in
    let threads : Threads = record { pids = c.place.new.self.pids; kept = c.place.new.self.kept } in
    behind_front (thread_read c.args.thread) c.args.deed acts threads c.if-thread-eq0.false
    (record {
      numbers = held.numbers;
      rows = unkept_row (facts_of acts no_more) (facts_of (act ∷ acts) no_more) c.args.thread.pid MOST_THREADS pids c.in-Some.place
          (rows_kept c.place.new.self.kept.items) (behind_another act acts)
          (subst (λ (numbers : List ℕ). IsDistinct nat_eq numbers) held.numbers held.different)
          (subst (λ (numbers : List ℕ). slice_get numbers c.in-Some.place ≡ Some c.args.thread.pid) held.numbers
          (subst (λ (place : Option ℕ). IsPlace c.place.new.self.pids.keys c.args.thread.pid place) c.in-Some.is c.in_ok-place.ensures.place))
          held.rows (omega (arith, c.if-place-len.false, c.len.ensures, c.place.new.self.kept.ok.0, length-map c.place.new.self.kept.items facts_read));
      different = held.different;
    })

pub returns-in_default : goal.returns-in_default
returns-in_default c = λ acts at.
    let held = c.in_ok-place.ensures.holds acts at in
    let act : Act = record { thread = thread_read c.args.thread; deed = c.args.deed } in
    let pids : List ℕ = with_thread c.args.thread.pid (threads_of acts) in
    let threads : Threads = c.place.new.self in
    behind_front (thread_read c.args.thread) c.args.deed acts threads c.if-thread-eq0.false
    (record {
      numbers = held.numbers;
      rows = held.rows ∙ sym (absent_row (facts_of acts no_more) (facts_of (act ∷ acts) no_more) c.args.thread.pid MOST_THREADS pids (behind_another act acts)
          (ap (list_any (nat_eq c.args.thread.pid)) (sym held.numbers)
          ∙ subst (λ (place : Option ℕ). IsPlace c.place.new.self.pids.keys c.args.thread.pid place) c.in_default.is c.in_ok-place.ensures.place));
      different = held.different;
    })
