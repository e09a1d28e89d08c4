-- What the answer of `curve` is worth, as a law of the relation of words, input, text and status.
use Rattle.std.specs.Prelude.{◌≡◌, ℕ, ◌+◌, ◌<◌, ◌≤◌, List, [], ◌∷◌, length, codes, Ok}
use Rattle.std.specs.List.{All, flat_map, slice_index_or}
use Rattle.base.specs.declared.status.Status.TheVariants.{Done}
use Rattle.yds_model.specs.Job.{Job}
use Rattle.yds_model.specs.Scale.{Fraction, Quotient, of_whole, numerator, IsLess, IsAtMost}
use Rattle.yds_model.specs.Curve.{IsLeastExcess, Break}
use Rattle.yds_model.specs.CurveAnswer.{break_line}
use Rattle.yds_model.specs.Divisor.{IsLowest}
use Rattle.yds_model.specs.Document.{Document}
use Rattle.yds_model.specs.Reading.{reading}
use Rattle.yds_model.specs.Answer.{Answers}
use Rattle.yds_laws.specs.CurveLaws.{IsOnLine}

-- the break at a place; `no_bend` stands where there is none
abbrev pub no_bend : Break
no_bend = record { speed = of_whole 0; excess = of_whole 0 }

abbrev pub bend_at : List Break → ℕ → Break
bend_at breaks i = slice_index_or breaks i no_bend

abbrev pub speed_at : List Break → ℕ → Fraction
speed_at breaks i = (bend_at breaks i).speed

-- a fraction as a quotient
abbrev pub as_quotient : Fraction → Quotient
as_quotient x = record { num = numerator x; den = x.den }

-- the fraction is the least excess of the jobs above this speed
abbrev pub IsLeastAbove : List Job → Fraction → Fraction → Type 0
IsLeastAbove jobs speed x = IsLeastExcess jobs (numerator speed) speed.den x

-- The least excess above this speed is on the line between the two breaks.
pub record GoesStraight (jobs : List Job) (slow fast : Break) (speed : Fraction) : Type 0 where
  pub excess : Fraction
  pub least : IsLeastAbove jobs speed excess
  pub on_line : IsOnLine (as_quotient slow.speed) (as_quotient speed) (as_quotient fast.speed) slow.excess excess fast.excess

-- Above a speed beyond the second of two neighbouring breaks the least excess isn't on the line through both: the curve bends there.
pub record LeavesLine (jobs : List Job) (slow bend : Break) (speed : Fraction) : Type 0 where
  pub excess : Fraction
  pub least : IsLeastAbove jobs speed excess
  pub off_line : IsOnLine (as_quotient slow.speed) (as_quotient bend.speed) (as_quotient speed) slow.excess bend.excess excess → ⊥

-- The curve of least excess: the input is a document, and what was written are the breaks of its jobs' curve, from the speed 0 on, by rising
-- speeds. At each break the excess is the least of any feasible schedule, between two neighbours the least excess goes in a
-- straight line, behind which it bends, and above the last break it is 0.
pub record LeastCurve (input text : List ℕ) (document : Document) (breaks : List Break) : Type 0 where
  pub read : reading input ≡ Ok document
  pub written : text ≡ flat_map break_line breaks
  pub lowest : All (λ bend. IsLowest bend.speed × IsLowest bend.excess) breaks
  pub some : 1 ≤ length breaks
  pub from_zero : speed_at breaks 0 ≡ of_whole 0
  pub rising : (i : ℕ) → i + 1 < length breaks → IsLess (speed_at breaks i) (speed_at breaks (i + 1))
  pub least : All (λ bend. IsLeastAbove document.jobs bend.speed bend.excess) breaks
  pub straight : (i : ℕ) (speed : Fraction) → i + 1 < length breaks → 1 ≤ speed.den → IsAtMost (speed_at breaks i) speed →
      IsAtMost speed (speed_at breaks (i + 1)) → GoesStraight document.jobs (bend_at breaks i) (bend_at breaks (i + 1)) speed
  pub bends : (i : ℕ) (speed : Fraction) → i + 1 < length breaks → 1 ≤ speed.den → IsLess (speed_at breaks (i + 1)) speed →
      LeavesLine document.jobs (bend_at breaks i) (bend_at breaks (i + 1)) speed
  pub none_above : (i : ℕ) (speed : Fraction) → i + 1 ≡ length breaks → 1 ≤ speed.den → IsAtMost (speed_at breaks i) speed →
      IsLeastAbove document.jobs speed (of_whole 0)

abbrev pub HoldsCurve : List ℕ → List ℕ → Type 0
HoldsCurve input text = (document : Document) × (breaks : List Break) × LeastCurve input text document breaks

-- The text that `curve` writes holds it.
abbrev pub CurvesAreLeast : Type 0
CurvesAreLeast = (input text : List ℕ) → Answers (codes "curve" ∷ []) input text Done → HoldsCurve input text
