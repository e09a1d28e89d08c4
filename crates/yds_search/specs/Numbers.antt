-- What is written at the numbers of a list.
use Rattle.std.specs.Prelude.{◌≡◌, ℕ, ◌<◌, List, length, slice_index}

-- At the first n numbers of the list stand values with a property, elsewhere what stood there before.
pub record AreWritten (P : ℕ → ℕ → Type 0) (numbers : List ℕ) (n : ℕ) (old new : List ℕ) : Type 0 where
  pub count : length new ≡ length old
  pub there : (p : ℕ) → p < n → P (slice_index numbers p) (slice_index new (slice_index numbers p))
  pub others : (i : ℕ) → ((p : ℕ) → p < n → slice_index numbers p ≡ i → ⊥) → slice_index new i ≡ slice_index old i
