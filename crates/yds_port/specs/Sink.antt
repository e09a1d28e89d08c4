-- What a write and a flush do to the bytes that were written, where the sink tells them, and to the count of faults.
use Rattle.std.specs.Prelude.{◌≡◌, ℕ, ◌≤◌, List, ◌++◌, length, take, ⊤, Option, Some, None, Result, Ok, Err}
use Rattle.std.specs.Io.KnownBytes.{Appends, Keeps}
use Rattle.yds_port.specs.declared.sink.Given.{Given}
use Rattle.yds_port.specs.declared.sink.Given.TheVariants.{Bytes, Failed}
use Rattle.yds_port.specs.declared.sink.Flushed.{Flushed}
use Rattle.yds_port.specs.declared.sink.Flushed.TheVariants.{Done, Failed as NotFlushed}
use Rattle.yds_port.specs.Count.{Rose}

-- the first n bytes of the piece were appended, and no fault was counted
pub record WritesFront (n : ℕ) (piece : List ℕ) (old new : Option (List ℕ)) (before now : ℕ) : Type 0 where
  pub some : 1 ≤ n
  pub within : n ≤ length piece
  pub appended : Appends old new (take n piece)
  pub no_fault : now ≡ before

-- One write of a piece, by its answer. A fault appends nothing.
abbrev pub Writes : Given → List ℕ → Option (List ℕ) → Option (List ℕ) → ℕ → ℕ → Type 0
Writes (Bytes n) piece old new before now = WritesFront n piece old new before now
Writes Failed piece old new before now = Keeps old new × Rose before now

-- all that was written is flushed, where both are told
abbrev pub IsFlushed : Option (List ℕ) → Option ℕ → Type 0
IsFlushed (Some written) (Some flushed) = flushed ≡ length written
IsFlushed (Some written) None = ⊤
IsFlushed None flushed = ⊤

-- One flush, by its answer, of what is written, of how much of it is flushed, and of the count.
abbrev pub Flushes : Flushed → Option (List ℕ) → Option ℕ → ℕ → ℕ → Type 0
Flushes Done written flushed before now = IsFlushed written flushed × (now ≡ before)
Flushes NotFlushed written flushed before now = Rose before now

-- a front of the text was appended: none of it, a part, or all
pub record AppendsFront (text : List ℕ) (old new : Option (List ℕ)) : Type 0 where
  pub front : List ℕ
  pub rest : List ℕ
  pub is_front : text ≡ front ++ rest
  pub appended : Appends old new front

-- The text was appended and no fault counted, or a fault was counted and a front of the text was appended.
abbrev pub Delivers : {T E : Type 0} → Result T E → List ℕ → Option (List ℕ) → Option (List ℕ) → ℕ → ℕ → Type 0
Delivers (Ok x) text old new before now = Appends old new text × (now ≡ before)
Delivers (Err e) text old new before now = AppendsFront text old new × Rose before now

-- A text was put into a sink, whose members stand first, by its answer: all of it, or after a counted fault a front of it. The sink
-- was not flushed.
pub record Puts {K T E : Type 0} (written : K → Option (List ℕ)) (flushed : K → Option ℕ) (flushes faults : K → ℕ) (result : Result T E) (text : List ℕ) (old new : K) : Type 0 where
  pub delivers : Delivers result text (written old) (written new) (faults old) (faults new)
  pub flushed_stays : flushed new ≡ flushed old
  pub flushes_stay : flushes new ≡ flushes old
