-- The least excess of jobs above each speed: what every feasible schedule has to do faster. Between the speeds of a plan's levels it goes in a
-- straight line.
use Rattle.std.specs.Prelude.{◌≡◌, ℕ, ◌-◌, ◌*◌, ◌≤◌, List, ◌∷◌, map, reverse, sum_by}
use Rattle.yds_model.specs.Job.{Job}
use Rattle.yds_model.specs.Scale.{Fraction, numerator}
use Rattle.yds_model.specs.Slot.{WholeSlot}
use Rattle.yds_model.specs.Feasible.{IsFeasibleAt}
use Rattle.yds_model.specs.Excess.{excess}
use Rattle.yds_model.specs.Level.{Level, levels_above}
use Rattle.yds_model.specs.Divisor.{in_lowest_terms}

-- The fraction is the least excess above the speed p/q, as work: every feasible schedule has at least that, and some has just that.
pub record IsLeastExcess (jobs : List Job) (p q : ℕ) (x : Fraction) : Type 0 where
  pub is_speed : 1 ≤ q
  pub has_parts : 1 ≤ x.den
  pub least : (scale : ℕ) (slots : List WholeSlot) → 1 ≤ scale → IsFeasibleAt jobs scale slots →
      numerator x * (q * scale) ≤ excess p q slots * x.den
  pub scale : ℕ
  pub positive : 1 ≤ scale
  pub slots : List WholeSlot
  pub feasible : IsFeasibleAt jobs scale slots
  pub attained : numerator x * (q * scale) ≡ excess p q slots * x.den

-- what a plan's levels do above the speed p/q: of each faster level its work less p/q times its length
abbrev pub least_above : ℕ → ℕ → List Level → Fraction
least_above p q levels = in_lowest_terms (sum_by (λ level. q * level.work - p * level.length) (levels_above p q levels)) q

-- a speed at which the curve bends, and the least excess above it
pub record Break : Type 0 where
  pub speed : Fraction
  pub excess : Fraction

abbrev pub break_at : List Level → ℕ → ℕ → Break
break_at levels p q = record { speed = in_lowest_terms p q; excess = least_above p q levels }

-- at the speed 0, and at each level's speed, rising
abbrev pub breaks_of : List Level → List Break
breaks_of levels = break_at levels 0 1 ∷ map (λ level. break_at levels level.work level.length) (reverse levels)
