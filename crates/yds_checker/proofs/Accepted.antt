-- What the program's judgement 'accepted' says.
use Rattle.yds_model.proofs.Common.{◌≡◌, ◌<◌, ◌≤◌, List, length, subst, refl, ◌↔◌, All, All-weaker, Job, WrittenSlot, Level, IsLeast, IsProper, AreLevels, AreSlots, Accepted, IsJudgement, IsLevel}
use Rattle.yds_laws.proofs.Bound.{explained_is_least}
use Rattle.yds_laws.proofs.Explained.{proper_explains}
use Rattle.yds_laws.proofs.Judgements.{judgement_is_exact}
use Rattle.yds_laws.proofs.OneJudgement.{judgement_is_unique}
use Rattle.yds_certificate.specs.Certificate.{IsCertificate}
use Rattle.yds_checker.specs.declared.judgement.Judgement.{Judgement}
use Rattle.yds_checker.specs.declared.judgement.Judgement.TheVariants as judgements
use Rattle.yds_checker.specs.Judgement.{judgement_view}

-- only one judgement is the model's 'accepted'
only_accepted : (judgement : Judgement) → judgement_view judgement ≡ Accepted → judgement ≡ judgements.Accepted
only_accepted judgements.Accepted is = refl
only_accepted (judgements.Slots verdict) is = cc
only_accepted (judgements.Pieces level) is = cc
only_accepted (judgements.Members job) is = cc
only_accepted (judgements.Sums level) is = cc
only_accepted (judgements.Order level) is = cc
only_accepted (judgements.Window job) is = cc
only_accepted (judgements.Speed slot) is = cc

-- levels within the limits have work and length
well_formed : (jobs : List Job) (levels : List Level) → IsCertificate levels →
    All (λ level. All (λ number. number < length jobs) level.members) levels → AreLevels jobs levels
well_formed jobs levels kept known = record {
  positive = All-weaker IsLevel (λ level. (1 ≤ level.work) × (1 ≤ level.length)) (λ level is. (is.has_work, is.has_length)) levels kept.each;
  known = known;
}

-- the certificate is proper
pub accepted_told : (jobs : List Job) (slots : List WrittenSlot) (levels : List Level) (judgement : Judgement) → AreSlots (length jobs) slots →
    IsCertificate levels → All (λ level. All (λ number. number < length jobs) level.members) levels →
    IsJudgement jobs slots levels (judgement_view judgement) → (judgement ≡ judgements.Accepted ↔ IsProper jobs slots levels)
accepted_told jobs slots levels judgement are kept known is =
    let exact = judgement_is_exact jobs slots levels are (well_formed jobs levels kept known) in (
      λ same. exact.0 (subst (λ (j : Judgement). IsJudgement jobs slots levels (judgement_view j)) same is),
      λ proper. only_accepted judgement (judgement_is_unique jobs slots levels (judgement_view judgement) Accepted is (exact.1 proper)),
    )

-- so the schedule is least
pub accepted_least : (jobs : List Job) (slots : List WrittenSlot) (levels : List Level) (judgement : Judgement) → AreSlots (length jobs) slots →
    IsCertificate levels → All (λ level. All (λ number. number < length jobs) level.members) levels →
    IsJudgement jobs slots levels (judgement_view judgement) → judgement ≡ judgements.Accepted → IsLeast jobs slots
accepted_least jobs slots levels judgement are kept known is same =
    explained_is_least jobs slots levels (proper_explains jobs slots levels ((accepted_told jobs slots levels judgement are kept known is).0 same))
