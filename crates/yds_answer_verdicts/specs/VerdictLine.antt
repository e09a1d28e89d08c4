-- The words of a verdict's line.
use Rattle.std.specs.Prelude.{ℕ, ◌<◌, ◌≤◌, List, [], ◌∷◌, codes, length}
use Rattle.yds_model.specs.Document.{Document}
use Rattle.yds_model.specs.Audit.{Verdict, Feasible, Backward, Overlap, Early, Late, OffPoint, WrongWork}

-- the words after the first one
abbrev pub later_words : List (List ℕ) → List (List ℕ)
later_words [] = []
later_words (word ∷ words) = words

-- the first word of a verdict's line
abbrev pub verdict_word : Verdict → List ℕ
verdict_word Feasible = codes "feasible"
verdict_word (Backward i) = codes "backward"
verdict_word (Overlap i) = codes "overlap"
verdict_word (Early i) = codes "early"
verdict_word (Late i) = codes "late"
verdict_word (OffPoint i) = codes "off-point"
verdict_word (WrongWork job given wanted) = codes "work"

-- the slots and the job that a verdict names are of the document
abbrev pub NamesSlots : Document → Verdict → Type 0
NamesSlots document Feasible = Unit {0}
NamesSlots document (Backward i) = i < length document.slots
NamesSlots document (Overlap i) = (1 ≤ i) × (i < length document.slots)
NamesSlots document (Early i) = i < length document.slots
NamesSlots document (Late i) = i < length document.slots
NamesSlots document (OffPoint i) = i < length document.slots
NamesSlots document (WrongWork job given wanted) = job < length document.jobs
