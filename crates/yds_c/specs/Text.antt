-- A text that grows as it is written.
use Rattle.std.specs.Prelude.{ℕ, List}

-- the bytes that were written, how often they were flushed, and how many writes failed
pub record TextState : Type 0 where
  pub written : List ℕ
  pub flushes : ℕ
  pub faults : ℕ
