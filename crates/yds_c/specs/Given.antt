-- The words of a command line, as they come from C.
use Rattle.std.specs.Prelude.{ℕ, List, map, All}
use Rattle.std.specs.Borrow.{Bor}
use Rattle.std.specs.Str.{IsUtf8}

-- the bytes of each word
abbrev pub bytes_of : List (Bor (List ℕ)) → List (List ℕ)
bytes_of words = map (λ word. word.now) words

-- each word is UTF-8
abbrev pub AreText : List (Bor (List ℕ)) → Type 0
AreText words = All (λ word. IsUtf8 word.now) words
