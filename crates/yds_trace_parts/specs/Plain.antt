-- What a part needs to know of what is kept: it stands for lines without a fault, and for no more than can be counted.
use Rattle.std.specs.Prelude.{◌≡◌, ℕ, ◌<◌, ◌≤◌, List, length, None}
use Rattle.yds_kernel.specs.Event.{Said}
use Rattle.yds_trace.specs.declared.pass.Pass.{Pass}
use Rattle.yds_trace.specs.Asked.{Asked, IsAsked, IsWithin}
use Rattle.yds_trace.specs.Faults.{first_fault}
use Rattle.yds_trace.specs.Kept.{IsAtBehind}
use Rattle.yds_trace.specs.declared.shown.Shown.{Shown}
use Rattle.yds_trace.specs.Shown.{IsShown}
use Rattle.yds_trace_laws.specs.Laws.{IsReached}
use Rattle.yds_trace_parts.specs.declared.limits.TheConstants.{MOST_LINES}

-- What the words grant of what is asked: each unit is at least 1, and no deadline and no `to` is above its limit.
pub record IsGranted (asked : Asked) : Type 0 where
  pub plain : IsAsked asked
  pub within : IsWithin asked
  pub reached : IsReached asked.to

-- It stands for so many lines, of which none is refused. It is so of each source, one that doesn't tell its bytes, too.
pub record IsOfSome (number boundary : ℕ) (pass : Pass) : Type 0 where
  pub asked : Asked
  pub past : List Said
  pub granted : IsGranted asked
  pub sound : first_fault asked past ≡ None
  pub stands : IsAtBehind asked past boundary pass
  pub as_many : number ≡ length past

-- And they can be counted.
pub record IsPlainPass (boundary : ℕ) (pass : Pass) : Type 0 where
  pub number : ℕ
  pub of_some : IsOfSome number boundary pass
  pub few : number ≤ MOST_LINES

-- And one more can.
pub record HasRoom (boundary : ℕ) (pass : Pass) : Type 0 where
  pub number : ℕ
  pub of_some : IsOfSome number boundary pass
  pub room : number < MOST_LINES

-- And this is shown of it.
pub record IsPlainLook (pass : Pass) (shown : Shown) : Type 0 where
  pub number : ℕ
  pub boundary : ℕ
  pub of_some : IsOfSome number boundary pass
  pub few : number ≤ MOST_LINES
  pub shows : IsShown of_some.asked of_some.past boundary shown
