-- What a text has in it.
use Rattle.std.specs.Prelude.{◌≡◌, ℕ, List, ◌++◌}

-- one text stands within the other
pub record Holds (text part : List ℕ) : Type 0 where
  pub before : List ℕ
  pub behind : List ℕ
  pub is : text ≡ before ++ part ++ behind
