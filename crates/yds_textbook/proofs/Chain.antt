-- Stages, one after another.
use Rattle.yds_model.proofs.Common.{◌≡◌, ℕ, List, [], ◌∷◌, ◌++◌, refl, sym, subst, append_assoc, Option, Some, None, append-nil, Job, Piece}
use Rattle.yds_critical.specs.declared.interval.Interval.{Interval}
use Rattle.yds_critical.specs.Critical.{IsCritical, IsCriticalOf}
use Rattle.yds_contract.specs.Contracted.{Removes}
use Rattle.yds_textbook.specs.declared.stage.Stage.{Stage}
use Rattle.yds_textbook.specs.Waiting.{contracted_jobs, outside}
use Rattle.yds_textbook.specs.Stages.{IsStage, AreStages}
use Rattle.yds_textbook.proofs.Densest.{none_waits}

-- whatever stages follow from here on, they follow those before
abbrev pub LeadTo : List Job → List ℕ → List Stage → List Piece → List ℕ → Type 0
LeadTo jobs first stages removed waiting =
    (rest : List Stage) → AreStages jobs removed waiting rest → AreStages jobs [] first (stages ++ rest)

-- one stage more
pub one_more : (jobs : List Job) (first : List ℕ) (stages : List Stage) (removed changed : List Piece) (waiting others : List ℕ) (interval : Interval) (stage : Stage) →
    LeadTo jobs first stages removed waiting → IsCritical (contracted_jobs jobs removed waiting) interval →
    IsStage jobs removed interval waiting stage →
    Removes removed interval.start interval.end changed → others ≡ outside jobs removed interval waiting →
    LeadTo jobs first (stages ++ stage ∷ []) changed others
one_more jobs first stages removed changed waiting others interval stage so_far critical is removes same rest are =
    subst (λ (all : List Stage). AreStages jobs [] first all) (sym (append_assoc stages (stage ∷ []) rest))
    (so_far (stage ∷ rest) (interval, changed, critical, is, removes, subst (λ (numbers : List ℕ). AreStages jobs changed numbers rest) same are))

-- once none waits, these are the stages
pub last_stage : (jobs : List Job) (first : List ℕ) (stages : List Stage) (removed : List Piece) (waiting : List ℕ) (found : Option Interval) →
    IsCriticalOf (contracted_jobs jobs removed waiting) found → ((interval : Interval) → found ≡ Some interval → ⊥) → LeadTo jobs first stages removed waiting →
    AreStages jobs [] first stages
last_stage jobs first stages removed waiting None none other lead =
    subst (λ (all : List Stage). AreStages jobs [] first all) (append-nil stages) (lead [] (none_waits jobs removed waiting none))
last_stage jobs first stages removed waiting (Some interval) is other lead = absurd (other interval refl)

-- before the first stage
pub no_stage : (jobs : List Job) (first : List ℕ) (stages : List Stage) (removed : List Piece) → removed ≡ [] → stages ≡ [] → LeadTo jobs first stages removed first
no_stage jobs first stages removed nothing none rest are =
    subst (λ (front : List Stage). AreStages jobs [] first (front ++ rest)) (sym none) (subst (λ (pieces : List Piece). AreStages jobs pieces first rest) nothing are)
