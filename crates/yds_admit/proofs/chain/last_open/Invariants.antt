use Rattle.yds_model.proofs.Common.{◌≡◌, ℕ, ◌<◌, ◌≤◌, List, length, get_or}
use Rattle.yds_admit.specs.Chain.{AreLinks, AreEmpty}
use Rattle.yds_admit.proofs.chain.last_open.Given as goal

abbrev pub invariant-loop-links : goal.invariant-loop-links
invariant-loop-links l = record {
  within : l.at ≤ l.fn.place;
  as_long : length l.links ≡ length l.initial.links;
  back : (p : ℕ) → p < length l.links → get_or l.links p 0 ≤ p;
  kept : (gaps : List ℕ) → AreLinks gaps l.initial.links → AreLinks gaps l.links × AreEmpty gaps l.at l.fn.place;
}

abbrev pub decreases-loop-links : goal.decreases-loop-links
decreases-loop-links l = l.at
