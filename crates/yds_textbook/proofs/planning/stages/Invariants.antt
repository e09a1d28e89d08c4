use Rattle.yds_model.proofs.Common.{length}
use Rattle.yds_textbook.proofs.Chain.{LeadTo}
use Rattle.yds_textbook.proofs.Stands.{IsBetween}
use Rattle.yds_textbook.proofs.planning.stages.Given as goal

abbrev pub invariant-loop-stages : goal.invariant-loop-stages
invariant-loop-stages l = record {
  between : IsBetween l.rows l.taken l.waiting.items;
  lead : LeadTo l.rows l.initial.waiting.items l.stages.items l.taken l.waiting.items;
}

abbrev pub decreases-loop-stages : goal.decreases-loop-stages
decreases-loop-stages l = length l.waiting.items
