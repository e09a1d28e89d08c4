-- The answer of `compare`: what a plan and the runs of both policies spend, at each operating point and together.
use Rattle.std.specs.Prelude.{◌≡◌, ℕ, List, [], ◌∷◌, ◌++◌, codes, decimal, ◌⊎◌}
use Rattle.std.specs.List.{All, flat_map, zip}
use Rattle.base.specs.declared.status.Status.{Status}
use Rattle.base.specs.declared.status.Status.TheVariants as statuses
use Rattle.yds_model.specs.Slot.{WrittenSlot}
use Rattle.yds_model.specs.Level.{Level}
use Rattle.yds_model.specs.Plan.{IsPlan}
use Rattle.yds_model.specs.Table.{Point}
use Rattle.yds_model.specs.Document.{Document}
use Rattle.base.specs.Lines.{line}
use Rattle.yds_model.specs.Text.{fraction_text}
use Rattle.yds_model.specs.AverageRate.{IsAverageRateRun}
use Rattle.yds_model.specs.OptimalAvailable.{IsOptimalAvailableRun}
use Rattle.yds_model.specs.Rounding.{top_of, IsTooFast}
use Rattle.yds_model.specs.RoundAnswer.{TooSlowAnswer}
use Rattle.yds_model.specs.Comparison.{Spent, IsSpent, Side, Spends, TooSlowFor, IsSide}

-- a line of the energy, and one for each point and its time
abbrev pub spent_lines : List ℕ → List Point → Spent → List ℕ
spent_lines side points spent =
    line (side ∷ codes "energy" ∷ fraction_text spent.energy ∷ [])
    ++ flat_map (λ timed. line (side ∷ codes "time" ∷ decimal timed.0.speed ∷ fraction_text timed.1 ∷ [])) (zip points spent.times)

abbrev pub side_lines : List ℕ → List Point → Side → List ℕ
side_lines side points (Spends spent) = spent_lines side points spent
side_lines side points (TooSlowFor units from to) =
    line (side ∷ codes "too-slow" ∷ codes "units" ∷ decimal units ∷ codes "from" ∷ decimal from ∷ codes "to" ∷ decimal to
    ∷ codes "top" ∷ decimal (top_of points) ∷ [])

abbrev pub rounded_line : List ℕ → ℕ → List ℕ
rounded_line side rounded = line (side ∷ codes "rounded" ∷ decimal rounded ∷ [])

pub record ComparedAnswer (document : Document) (grid : ℕ) (text : List ℕ) (status : Status) : Type 0 where
  pub planned : List WrittenSlot
  pub levels : List Level
  pub plan : IsPlan document.jobs planned levels
  pub fast_enough : All (λ level. IsTooFast document.points level → ⊥) levels
  pub plan_spent : Spent
  pub plan_spends : IsSpent document.jobs document.points planned plan_spent
  pub average_slots : List WrittenSlot
  pub average_rounded : ℕ
  pub average_run : IsAverageRateRun document.jobs grid average_rounded average_slots
  pub average_side : Side
  pub is_average : IsSide document.jobs document.points grid average_slots average_side
  pub optimal_slots : List WrittenSlot
  pub optimal_rounded : ℕ
  pub optimal_run : IsOptimalAvailableRun document.jobs grid optimal_rounded optimal_slots
  pub optimal_side : Side
  pub is_optimal : IsSide document.jobs document.points grid optimal_slots optimal_side
  pub said : text ≡ spent_lines (codes "plan") document.points plan_spent
      ++ side_lines (codes "avr") document.points average_side ++ rounded_line (codes "avr") average_rounded
      ++ side_lines (codes "oa") document.points optimal_side ++ rounded_line (codes "oa") optimal_rounded
  pub ended : status ≡ statuses.Done

-- where the top point is too slow for the plan, that is told as by `round`
abbrev pub CompareAnswer : Document → ℕ → List ℕ → Status → Type 0
CompareAnswer document grid text status = TooSlowAnswer document text status ⊎ ComparedAnswer document grid text status
