-- A plan that is too fast for the points is answered by its first level.
use Rattle.yds_model.proofs.Common.{◌≡◌, ℕ, ◌≤◌, List, [], ◌∷◌, length, refl, ap, ◌∙◌, inl, codes, decimal, Document, WrittenSlot, Level, line, IsPlan, top_of, TooSlowAnswer, RoundAnswer, CompareAnswer, OnPoints}
use Rattle.base.specs.declared.status.Status.TheVariants as statuses
use Rattle.yds_texts.proofs.RoundText.{points_answer}
use Rattle.yds_round.specs.declared.fault.RoundFault.TheVariants as faults
use Rattle.yds_round.specs.Fault.{IsCauseOfRoundFault}

-- the fields of the fault are the level's
too_slow_answers : (document : Document) (slots : List WrittenSlot) (levels : List Level) (work long top : ℕ) (text : List ℕ) → IsPlan document.jobs slots levels →
    IsCauseOfRoundFault levels document.points (faults.TooSlow work long top) →
    text ≡ line (codes "too-slow" ∷ codes "work" ∷ decimal work ∷ codes "length" ∷ decimal long ∷ codes "top" ∷ decimal top ∷ []) →
    TooSlowAnswer document text statuses.No
too_slow_answers document slots [] work long top text plan cause said = absurd cause.0
too_slow_answers document slots (level ∷ others) work long top text plan cause said =
    let same = cause.1 in
    let is_work : work ≡ level.work = cc in
    let is_length : long ≡ level.length = cc in
    let is_top : top ≡ top_of document.points = cc in
    record {
      slots = slots;
      level = level;
      others = others;
      plan = plan;
      too_fast = cause.0;
      said = said
          ∙ ap (λ n. line (codes "too-slow" ∷ codes "work" ∷ decimal n ∷ codes "length" ∷ decimal long ∷ codes "top" ∷ decimal top ∷ [])) is_work
          ∙ ap (λ n. line (codes "too-slow" ∷ codes "work" ∷ decimal level.work ∷ codes "length" ∷ decimal n ∷ codes "top" ∷ decimal top ∷ [])) is_length
          ∙ ap (λ n. line (codes "too-slow" ∷ codes "work" ∷ decimal level.work ∷ codes "length" ∷ decimal level.length ∷ codes "top" ∷ decimal n ∷ [])) is_top;
      ended = refl;
    }

-- a document that has points is answered on them
pub too_slow_on_points : (document : Document) (slots : List WrittenSlot) (levels : List Level) (work long top : ℕ) (text : List ℕ) → 1 ≤ length document.points →
    IsPlan document.jobs slots levels → IsCauseOfRoundFault levels document.points (faults.TooSlow work long top) →
    text ≡ line (codes "too-slow" ∷ codes "work" ∷ decimal work ∷ codes "length" ∷ decimal long ∷ codes "top" ∷ decimal top ∷ []) →
    OnPoints (RoundAnswer document) document.points text statuses.No
too_slow_on_points document slots levels work long top text some plan cause said =
    points_answer (RoundAnswer document) document.points text statuses.No some (inl (too_slow_answers document slots levels work long top text plan cause said))

-- the same of a comparison
pub too_slow_compared : (document : Document) (grid : ℕ) (slots : List WrittenSlot) (levels : List Level) (work long top : ℕ) (text : List ℕ) → 1 ≤ length document.points →
    IsPlan document.jobs slots levels → IsCauseOfRoundFault levels document.points (faults.TooSlow work long top) →
    text ≡ line (codes "too-slow" ∷ codes "work" ∷ decimal work ∷ codes "length" ∷ decimal long ∷ codes "top" ∷ decimal top ∷ []) →
    OnPoints (CompareAnswer document grid) document.points text statuses.No
too_slow_compared document grid slots levels work long top text some plan cause said =
    points_answer (CompareAnswer document grid) document.points text statuses.No some (inl (too_slow_answers document slots levels work long top text plan cause said))
