-- What one step of a reader gives: the next line, the end, or that it can't go on.
use Rattle.std.specs.Prelude.{◌≡◌, ℕ, ◌+◌, ◌^◌, ◌≤◌, ⊤, List, length, Option, Some, None, Result}
use Rattle.std.specs.Io.KnownBytes.{IsAtEnd}
use Rattle.base.specs.Fields.{Spot}
use Rattle.yds_port.specs.Count.{Rose}
use Rattle.yds_kernel.specs.declared.fault.Reason.{Reason}
use Rattle.yds_kernel.specs.Event.{Said}
use Rattle.yds_kernel.specs.Text.{then_says, trace_from}
use Rattle.yds_kernel_text.specs.declared.advance.Advance.{Advance}
use Rattle.yds_kernel_text.specs.declared.advance.Advance.TheVariants as advances
use Rattle.yds_kernel_text.specs.declared.limits.TheConstants.{ROOM}
use Rattle.yds_kernel_text.specs.Reading.{Reading, said_by, unread}

-- What was unread said what this line says, and after it what the bytes say that are unread now.
abbrev pub Gives : ℕ → Result Said (Spot Reason) → Option (List ℕ) → Option (List ℕ) → Type 0
Gives number said None now = ⊤
Gives number said (Some bytes) None = ⊥
Gives number said (Some bytes) (Some rest) = trace_from number bytes ≡ then_says number said (trace_from (number + 1) rest)

-- as many bytes as the source has fewer were taken
abbrev pub Counts : Option (List ℕ) → Option (List ℕ) → ℕ → ℕ → Type 0
Counts None now before after = ⊤
Counts (Some bytes) None before after = ⊥
Counts (Some bytes) (Some rest) before after = length bytes + before ≡ length rest + after

-- the next line was given
pub record GivesLine (old new : Reading) (before now : Option (List ℕ)) (faults_before faults_now : ℕ) : Type 0 where
  pub next : new.number ≡ old.number + 1
  pub says : Gives new.number (said_by new) (unread old before) (unread new now)
  pub no_fault : faults_now ≡ faults_before

-- nothing was unread, and the source has nothing left
pub record IsOver (old : Reading) (before now : Option (List ℕ)) (faults_before faults_now : ℕ) : Type 0 where
  pub at_end : IsAtEnd (unread old before)
  pub none_left : IsAtEnd now
  pub no_fault : faults_now ≡ faults_before

-- as many bytes were taken as can be counted, but for one buffer
pub record IsTooLong (new : Reading) (faults_before faults_now : ℕ) : Type 0 where
  pub counted : 2 ^ 64 ≤ new.taken + ROOM
  pub no_fault : faults_now ≡ faults_before

abbrev pub Advances : Advance → Reading → Reading → Option (List ℕ) → Option (List ℕ) → ℕ → ℕ → Type 0
Advances advances.Line old new before now faults_before faults_now = GivesLine old new before now faults_before faults_now
Advances advances.End old new before now faults_before faults_now = IsOver old before now faults_before faults_now
Advances advances.Failed old new before now faults_before faults_now = Rose faults_before faults_now
Advances advances.TooLong old new before now faults_before faults_now = IsTooLong new faults_before faults_now
