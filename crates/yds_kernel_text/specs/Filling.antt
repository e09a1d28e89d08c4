-- What the steps within a reader do.
use Rattle.std.specs.Prelude.{◌≡◌, ℕ, ◌+◌, ◌≤◌, List, [], ◌++◌, length, take, drop, true, false, Option}
use Rattle.std.specs.Io.KnownBytes.{Consumes, Keeps, IsAtEnd}
use Rattle.base.specs.Lines.{without_return}
use Rattle.yds_port.specs.Count.{Rose}
use Rattle.yds_port.specs.declared.source.Taken.{Taken}
use Rattle.yds_port.specs.declared.source.Taken.TheVariants.{Bytes, End, Failed}
use Rattle.yds_kernel.specs.declared.limits.TheConstants.{MAX_LINE}
use Rattle.yds_kernel_text.specs.Reading.{Reading}

-- the bytes before a line feed became the next line
pub record TakesLine (len : ℕ) (old new : Reading) : Type 0 where
  pub text : new.text ≡ without_return (take len old.left)
  pub left : new.left ≡ drop (len + 1) old.left
  pub ended : new.ended ≡ true
  pub number : new.number ≡ old.number + 1
  pub taken : new.taken ≡ old.taken

-- all bytes became the last line
pub record TakesRest (old new : Reading) : Type 0 where
  pub text : new.text ≡ without_return old.left
  pub left : new.left ≡ []
  pub ended : new.ended ≡ false
  pub number : new.number ≡ old.number + 1
  pub taken : new.taken ≡ old.taken

-- the front of all bytes became the next line, and the others are passed over
pub record TakesFront (old new : Reading) : Type 0 where
  pub text : new.text ≡ take (MAX_LINE + 1) old.left
  pub left : new.left ≡ []
  pub ended : new.ended ≡ true
  pub number : new.number ≡ old.number + 1
  pub taken : new.taken ≡ old.taken

-- the line that was given last stays
pub record KeepsText (old new : Reading) : Type 0 where
  pub text : new.text ≡ old.text
  pub ended : new.ended ≡ old.ended
  pub number : new.number ≡ old.number

-- so many bytes are passed over
pub record Skips (count : ℕ) (old new : Reading) : Type 0 where
  pub left : new.left ≡ drop count old.left
  pub kept : KeepsText old new
  pub taken : new.taken ≡ old.taken

-- bytes were taken behind those that were held
pub record FillsBytes (count : ℕ) (old new : Reading) (before now : Option (List ℕ)) (faults_before faults_now : ℕ) : Type 0 where
  pub some : 1 ≤ count
  pub grown : length new.left ≡ length old.left + count
  pub front : take (length old.left) new.left ≡ old.left
  pub consumed : Consumes before now (drop (length old.left) new.left)
  pub number : new.number ≡ old.number
  pub taken : new.taken ≡ old.taken + count
  pub no_fault : faults_now ≡ faults_before

-- nothing was taken, and the source keeps what it had
pub record FillsNothing (old new : Reading) (before now : Option (List ℕ)) : Type 0 where
  pub left : new.left ≡ old.left
  pub kept : Keeps before now
  pub number : new.number ≡ old.number
  pub taken : new.taken ≡ old.taken

abbrev pub Fills : Taken → Reading → Reading → Option (List ℕ) → Option (List ℕ) → ℕ → ℕ → Type 0
Fills (Bytes count) old new before now faults_before faults_now = FillsBytes count old new before now faults_before faults_now
Fills End old new before now faults_before faults_now = FillsNothing old new before now × IsAtEnd now × (faults_now ≡ faults_before)
Fills Failed old new before now faults_before faults_now = FillsNothing old new before now × Rose faults_before faults_now

-- bytes were taken behind the line that was given last
pub record ReadsPiece (count : ℕ) (old new : Reading) (before now : Option (List ℕ)) (faults_before faults_now : ℕ) : Type 0 where
  pub some : 1 ≤ count
  pub grown : length new.left ≡ count
  pub consumed : Consumes before now new.left
  pub kept : KeepsText old new
  pub taken : new.taken ≡ old.taken + count
  pub no_fault : faults_now ≡ faults_before

-- nothing was taken
pub record ReadsNoPiece (old new : Reading) (before now : Option (List ℕ)) : Type 0 where
  pub left : new.left ≡ []
  pub same : Keeps before now
  pub kept : KeepsText old new
  pub taken : new.taken ≡ old.taken

abbrev pub ReadsOn : Taken → Reading → Reading → Option (List ℕ) → Option (List ℕ) → ℕ → ℕ → Type 0
ReadsOn (Bytes count) old new before now faults_before faults_now = ReadsPiece count old new before now faults_before faults_now
ReadsOn End old new before now faults_before faults_now = ReadsNoPiece old new before now × IsAtEnd now × (faults_now ≡ faults_before)
ReadsOn Failed old new before now faults_before faults_now = ReadsNoPiece old new before now × Rose faults_before faults_now
