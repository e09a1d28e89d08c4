-- The words of a line after its first one.
use Rattle.std.specs.Prelude.{ℕ, List, ◌∷◌, flat_map}

-- each word after a space
abbrev pub spaced : List (List ℕ) → List ℕ
spaced words = flat_map (λ word. 32 ∷ word) words
