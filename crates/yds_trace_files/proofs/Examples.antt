-- What is left of files, and which one a read failed of.
use Rattle.base.proofs.Common.{◌≡◌, ℕ, List, [], ◌∷◌, codes, if◌then◌else◌, Option, Some, None, refl}
use Rattle.std.specs.Str.{bytes_eq}
use Rattle.yds_trace_files.specs.declared.unread.FileFault.TheVariants as faults
use Rattle.yds_trace_files.specs.Joined.{all_of, failed_of}
use Rattle.yds_trace_files.specs.Unread.{NoName, OfFile}
use Rattle.yds_trace_words.specs.Texts.{shown_word}

-- two files, of which the first holds a line
two : List ℕ → Option (List ℕ)
two name = if bytes_eq name (codes "a") then Some (codes "x\n") else (if bytes_eq name (codes "b") then Some (codes "y") else None)

-- one behind the other, in the order of the names; twice the same is read twice
in_order : all_of two (codes "b" ∷ codes "a" ∷ codes "b" ∷ []) ≡ Some (codes "yx\ny")
unfolding two
in_order = refl

none : all_of two [] ≡ Some []
none = refl

-- Near miss: where one tells nothing of what it holds, nothing is told of all.
one_untold : all_of two (codes "a" ∷ codes "c" ∷ []) ≡ None
unfolding two
one_untold = refl

-- of three files the second is open, and can't be read; or the third can't be opened
second : failed_of faults.NotRead 3 (codes "b") (codes "c" ∷ []) ≡ OfFile 2 (codes "b") faults.NotRead
second = refl

third : failed_of faults.NotOpened 3 (codes "b") (codes "c" ∷ []) ≡ OfFile 3 (codes "c") faults.NotOpened
third = refl

-- Standard input has no name, but it may end within a line.
standard_input : failed_of faults.NotRead 1 (codes "-") [] ≡ NoName
standard_input = refl

cut : failed_of faults.NoLineFeed 2 (codes "-") (codes "b" ∷ []) ≡ OfFile 1 (codes "-") faults.NoLineFeed
cut = refl

-- No byte of a name ends the comment's line, or moves a terminal's cursor.
shown : shown_word (codes "a\nb\rc") ≡ codes "a?b?c"
shown = refl
