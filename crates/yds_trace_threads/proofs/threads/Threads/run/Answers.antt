use Rattle.base.proofs.Common.{◌≡◌, ◌∙◌, ℕ, List, sym, ap, subst, arith, Some, length-map}
use Rattle.std.specs.Prelude.{nat_eq, slice_get}
use Rattle.std.specs.List.{IsDistinct, list_any}
use Rattle.yds_trace_threads.specs.declared.limits.TheConstants.{MOST_THREADS}
use Rattle.yds_trace_threads.specs.Threads.{threads_of}
use Rattle.yds_trace_threads.specs.Kept.{facts_read, facts_of, facts_with, rows_kept, more_for}
use Rattle.yds_trace_threads.proofs.Rows.{set_row, unkept_row, absent_row, some_place, no_place}
use Rattle.yds_trace_threads.proofs.Facts.{with_time, time_of_others}
use Rattle.yds_trace_threads.proofs.threads.Threads.run.Goals as goal

pub returns-then-place-len : goal.returns-then-place-len
returns-then-place-len c = λ acts more at. record {
  numbers = at.numbers;
  rows = set_row facts_read (facts_of acts more) (facts_of acts (more_for c.args.pid c.args.time more)) c.args.pid MOST_THREADS (threads_of acts) c.in-Some.place
      c.args.self.now.kept.items c.index_mut.result.now c.run.new.self (facts_with c.args.time) (time_of_others acts more c.args.pid c.args.time)
      (subst (λ (pids : List ℕ). IsDistinct nat_eq pids) at.numbers at.different)
      (subst (λ (pids : List ℕ). slice_get pids c.in-Some.place ≡ Some c.args.pid) at.numbers
      (some_place c.args.pid c.args.self.now.pids.keys c.in-Some.place (sym c.get_index_of.ensures.index ∙ c.in-Some.is)))
      at.rows (omega (arith, c.if-place-len.true, c.len.ensures, c.args.self.now.kept.ok.0)) c.index_mut.ensures.value c.run.ensures
      (with_time acts more c.args.pid c.args.time);
  different = at.different;
}

pub returns-else-place-len : goal.returns-else-place-len
returns-else-place-len c = λ acts more at. record {
  numbers = at.numbers;
  rows = unkept_row (facts_of acts more) (facts_of acts (more_for c.args.pid c.args.time more)) c.args.pid MOST_THREADS (threads_of acts) c.in-Some.place
      (rows_kept c.args.self.now.kept.items) (time_of_others acts more c.args.pid c.args.time)
      (subst (λ (pids : List ℕ). IsDistinct nat_eq pids) at.numbers at.different)
      (subst (λ (pids : List ℕ). slice_get pids c.in-Some.place ≡ Some c.args.pid) at.numbers
      (some_place c.args.pid c.args.self.now.pids.keys c.in-Some.place (sym c.get_index_of.ensures.index ∙ c.in-Some.is)))
      at.rows (omega (arith, c.if-place-len.false, c.len.ensures, c.args.self.now.kept.ok.0, length-map c.args.self.now.kept.items facts_read));
  different = at.different;
}

pub returns-in_default : goal.returns-in_default
returns-in_default c = λ acts more at. record {
  numbers = at.numbers;
  rows = at.rows ∙ sym (absent_row (facts_of acts more) (facts_of acts (more_for c.args.pid c.args.time more)) c.args.pid MOST_THREADS (threads_of acts)
      (time_of_others acts more c.args.pid c.args.time)
      (ap (list_any (nat_eq c.args.pid)) (sym at.numbers) ∙ no_place c.args.pid c.args.self.now.pids.keys (sym c.get_index_of.ensures.index ∙ c.in_default.is)));
  different = at.different;
}
