-- The program's judgement as the model's.
use Rattle.yds_model.specs.Judgement.{Judgement as ModelJudgement, Accepted, Slots, Pieces, Members, Sums, Order, Window, Speed}
use Rattle.yds_audit.specs.Verdict.{verdict_view}
use Rattle.yds_checker.specs.declared.judgement.Judgement.{Judgement}
use Rattle.yds_checker.specs.declared.judgement.Judgement.TheVariants as judgements

abbrev pub judgement_view : Judgement → ModelJudgement
judgement_view judgements.Accepted = Accepted
judgement_view (judgements.Slots verdict) = Slots (verdict_view verdict)
judgement_view (judgements.Pieces level) = Pieces level
judgement_view (judgements.Members job) = Members job
judgement_view (judgements.Sums level) = Sums level
judgement_view (judgements.Order level) = Order level
judgement_view (judgements.Window job) = Window job
judgement_view (judgements.Speed slot) = Speed slot
