-- What a read does to the bytes that are left, where the source tells them, and to the count of faults.
use Rattle.std.specs.Prelude.{◌≡◌, ℕ, ◌+◌, ◌≤◌, List, length, take, Option, Result, Ok, Err, Vec}
use Rattle.std.specs.Io.KnownBytes.{Consumes, Keeps, IsAtEnd}
use Rattle.std.specs.declared.alloc.Global.{Global}
use Rattle.yds_port.specs.declared.source.Taken.{Taken}
use Rattle.yds_port.specs.declared.source.Taken.TheVariants.{Bytes, End, Failed}
use Rattle.yds_port.specs.declared.reading.ReadAllFault.{ReadAllFault}
use Rattle.yds_port.specs.declared.reading.ReadAllFault.TheVariants.{TooLong, ReadFault, Memory}
use Rattle.yds_port.specs.Count.{Rose}

-- the first n bytes of the buffer are the next bytes of what was left, and no fault was counted
pub record ReadsFront (n : ℕ) (into : List ℕ) (old new : Option (List ℕ)) (before now : ℕ) : Type 0 where
  pub some : 1 ≤ n
  pub within : n ≤ length into
  pub consumed : Consumes old new (take n into)
  pub no_fault : now ≡ before

-- nothing is left, as before, and no fault was counted
pub record ReadsNothing (old new : Option (List ℕ)) (before now : ℕ) : Type 0 where
  pub at_end : IsAtEnd new
  pub kept : Keeps old new
  pub no_fault : now ≡ before

-- One read into a buffer, by its answer. After a fault, all that was left is still left.
abbrev pub Reads : Taken → List ℕ → Option (List ℕ) → Option (List ℕ) → ℕ → ℕ → Type 0
Reads (Bytes n) into old new before now = ReadsFront n into old new before now
Reads End into old new before now = ReadsNothing old new before now
Reads Failed into old new before now = Keeps old new × Rose before now

-- these bytes were all that was left, at most so many, and no fault was counted
pub record ReadsWhole (bytes : List ℕ) (most : ℕ) (old new : Option (List ℕ)) (before now : ℕ) : Type 0 where
  pub consumed : Consumes old new bytes
  pub at_end : IsAtEnd new
  pub within : length bytes ≤ most
  pub no_fault : now ≡ before

-- exactly so many bytes were taken
pub record TakesExactly (count : ℕ) (old new : Option (List ℕ)) : Type 0 where
  pub taken : List ℕ
  pub consumed : Consumes old new taken
  pub exact : length taken ≡ count

-- at most so many bytes were taken
pub record TakesAtMost (count : ℕ) (old new : Option (List ℕ)) : Type 0 where
  pub taken : List ℕ
  pub consumed : Consumes old new taken
  pub within : length taken ≤ count

-- Reading to the end, by its answer: one byte too many was taken exactly where that is the answer.
abbrev pub ReadsAll : Result (Vec ℕ Global) ReadAllFault → ℕ → Option (List ℕ) → Option (List ℕ) → ℕ → ℕ → Type 0
ReadsAll (Ok bytes) most old new before now = ReadsWhole bytes.items most old new before now
ReadsAll (Err TooLong) most old new before now = TakesExactly (most + 1) old new × (now ≡ before)
ReadsAll (Err ReadFault) most old new before now = TakesAtMost most old new × Rose before now
ReadsAll (Err Memory) most old new before now = TakesAtMost most old new × (now ≡ before)
