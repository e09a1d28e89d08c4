use Rattle.yds_model.proofs.Common.{◌≡◌, ℕ, ◌<◌, ◌≤◌, length, get_or}
use Rattle.yds_admit.specs.Chain.{Takes, AreLinks}
use Rattle.yds_admit.proofs.chain.take.Given as goal

abbrev pub invariant-loop-left : goal.invariant-loop-left
invariant-loop-left l = record {
  takes : Takes l.initial.gaps l.fn.place l.units l.gaps l.place l.left;
  links : AreLinks l.gaps l.links;
  kept : (q : ℕ) → q < l.lowest → get_or l.gaps q 0 ≡ get_or l.initial.gaps q 0;
  within : l.place ≤ length l.initial.gaps;
}

abbrev pub decreases-loop-left : goal.decreases-loop-left
decreases-loop-left l = l.place
