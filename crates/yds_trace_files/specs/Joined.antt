-- Files, one behind the other.
use Rattle.std.specs.Prelude.{◌≡◌, ℕ, ◌-◌, List, [], ◌∷◌, ◌++◌, codes, length, map, if◌then◌else◌, Option, Some, None}
use Rattle.std.specs.Borrow.{Bor}
use Rattle.std.specs.Str.{bytes_eq}
use Rattle.std.specs.Io.KnownBytes.{Keeps, IsAtEnd}
use Rattle.yds_port.specs.declared.source.Taken.{Taken}
use Rattle.yds_port.specs.declared.source.Taken.TheVariants as taken
use Rattle.yds_port.specs.Count.{Rose}
use Rattle.yds_port.specs.Source.{ReadsFront}
use Rattle.yds_trace_files.specs.declared.unread.FileFault.{FileFault}
use Rattle.yds_trace_files.specs.declared.unread.FileFault.TheVariants as faults
use Rattle.yds_trace_files.specs.declared.files.Files.{Files}
use Rattle.yds_trace_files.specs.declared.files.Step.{Step}
use Rattle.yds_trace_files.specs.declared.files.Step.TheVariants as steps
use Rattle.yds_trace_files.specs.Unread.{Unread, NoName, OfFile}

-- # The bytes that are left

-- these bytes and those, where both are told
abbrev pub joined : Option (List ℕ) → Option (List ℕ) → Option (List ℕ)
joined (Some these) (Some those) = Some (these ++ those)
joined (Some these) None = None
joined None those = None

-- what the files of these names hold, one behind the other, where each tells it
abbrev pub all_of : (List ℕ → Option (List ℕ)) → List (List ℕ) → Option (List ℕ)
all_of holds [] = Some []
all_of holds (name ∷ names) = joined (holds name) (all_of holds names)

-- what is left of the file that is open, if one is
abbrev pub left_of : {S : Type 0} → (S → Option (List ℕ)) → Option S → Option (List ℕ)
left_of left None = Some []
left_of left (Some opened) = left opened

-- # Files as they are read

abbrev pub opened_of : {O S : Type 0} → Files O S → Option S
opened_of files = files.opened

-- the names of those that aren't opened yet
abbrev pub ahead_of : {O S : Type 0} → Files O S → List (List ℕ)
ahead_of files = map (λ (name : Bor (List ℕ)). name.now) files.ahead.now

-- the last byte that was read of the one that is open, or a line feed
abbrev pub last_of : {O S : Type 0} → Files O S → ℕ
last_of files = files.last

abbrev pub faults_of : {O S : Type 0} → Files O S → ℕ
faults_of files = files.faults

-- what is left of the one that is open, and all of those ahead
abbrev pub all_left : {O S : Type 0} → (O → List ℕ → Option (List ℕ)) → (S → Option (List ℕ)) → Files O S → Option (List ℕ)
all_left holds left files = joined (left_of left files.opened) (all_of (holds files.opens) (ahead_of files))

-- # Which file a read failed of

-- that of this number; a hyphen is no name
abbrev pub named : ℕ → List ℕ → FileFault → Unread
named number name fault = if bytes_eq name (codes "-") then NoName else OfFile number name fault

-- The one that is open, or the first one ahead where that can't be opened. The files are so many.
abbrev pub failed_of : FileFault → ℕ → List ℕ → List (List ℕ) → Unread
failed_of faults.NotOpened count name [] = NoName
failed_of faults.NotOpened count name (next ∷ ahead) = OfFile (count - length ahead) next faults.NotOpened
failed_of faults.NotRead count name ahead = named (count - length ahead) name faults.NotRead
failed_of faults.NoLineFeed count name ahead = OfFile (count - length ahead) name faults.NoLineFeed

abbrev pub unread_of : {O S : Type 0} → Files O S → Unread
unread_of files = failed_of files.fault files.count files.name.now (ahead_of files)

-- # Reads

-- What a read of the file that is open does to what is left of all, by its answer: at its end nothing, and nothing is left of that one.
abbrev pub ReadsOpened : Taken → List ℕ → Option (List ℕ) → Option (List ℕ) → Option (List ℕ) → ℕ → ℕ → Type 0
ReadsOpened (taken.Bytes n) into opened old new before now = ReadsFront n into old new before now
ReadsOpened taken.End into opened old new before now = IsAtEnd opened × Keeps old new × (now ≡ before)
ReadsOpened taken.Failed into opened old new before now = Keeps old new × Rose before now

-- What the step to the next file does to it. A file is opened behind one that ended with its last line.
abbrev pub StepsOn : Step → Option (List ℕ) → Option (List ℕ) → ℕ → ℕ → Type 0
StepsOn steps.Opened old new before now = Keeps old new × (now ≡ before)
StepsOn steps.None old new before now = Keeps old new × (now ≡ before)
StepsOn steps.Failed old new before now = Keeps old new × Rose before now
