-- What the program writes where its words can't be taken.
use Rattle.std.specs.Prelude.{◌≡◌, ℕ, ◌⊎◌, List, codes, Option}
use Rattle.std.specs.Io.KnownBytes.{Appends}
use Rattle.std.specs.declared.io.ErrorKind.{ErrorKind}
use Rattle.std.specs.declared.io.ErrorKind.TheVariants.{OutOfMemory}
use Rattle.base.specs.declared.status.Status.TheVariants.{WriteFault}
use Rattle.base.specs.Status.{status_code}
use Rattle.yds_port.specs.Count.{Rose}
use Rattle.yds_port.specs.Sink.{AppendsFront, IsFlushed}

-- A comment with the cause, and the line that no reader of documents takes.
abbrev pub text_without_words : ErrorKind → List ℕ
text_without_words OutOfMemory = codes "# out of memory\nfailed\n"
text_without_words _ = codes "# a word isn't text; write the words in UTF-8\nfailed\n"

-- the text was written whole and flushed, and the exit status is the text's
pub record TellsWhole (text : List ℕ) (code ended : ℕ) (old new : Option (List ℕ)) (flushed : Option ℕ) : Type 0 where
  pub said : ended ≡ code
  pub whole : Appends old new text
  pub all_flushed : IsFlushed new flushed

-- a fault was counted and a front of the text was written, and the exit status says so
pub record TellsFront (text : List ℕ) (ended : ℕ) (old new : Option (List ℕ)) (faults_before faults_now : ℕ) : Type 0 where
  pub said : ended ≡ status_code WriteFault
  pub front : AppendsFront text old new
  pub counted : Rose faults_before faults_now

abbrev pub Tells : List ℕ → ℕ → ℕ → Option (List ℕ) → Option (List ℕ) → Option ℕ → ℕ → ℕ → Type 0
Tells text code ended old new flushed faults_before faults_now = TellsWhole text code ended old new flushed ⊎ TellsFront text ended old new faults_before faults_now
