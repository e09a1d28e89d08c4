use Rattle.yds_model.proofs.Common.{◌≡◌, ◌++◌, take, drop, IsPermutation}
use Rattle.yds_admit.specs.State.{Decided}
use Rattle.yds_admit.proofs.state.State.admit_until.Given as goal

abbrev pub invariant-loop-number : goal.invariant-loop-number
invariant-loop-number l = record {
  decided : Decided l.board.rows.now l.board.top l.number l.self.taken.items l.self.jobs.items l.self.refused.items;
  same : IsPermutation l.self.jobs.items l.self.nearly_sorted.items;
  whole : l.self.jobs.items ++ drop l.number (take l.last l.board.rows.now) ≡ l.fn.self.jobs.items ++ drop l.fn.self.next (take l.last l.board.rows.now);
}
