-- What a source and a sink in memory are, for a test that makes some of their calls fail.
use Rattle.std.specs.Prelude.{ℕ, List}

-- Bytes to be read. A read gives at most `piece` of them. The calls whose numbers, from 1, stand in
-- `failing` fail. `calls` is how many there were, and stays at the last value of 64 bits.
pub record SourceState : Type 0 where
  pub left : List ℕ
  pub piece : ℕ
  pub failing : List ℕ
  pub calls : ℕ
  pub faults : ℕ

-- Bytes that were written, at most `room`, and how many of them were flushed. A write takes at most
-- `piece` bytes. The calls of write and flush whose numbers, from 1 together, stand in `failing` fail.
-- `flushes` of the calls were flushes.
pub record SinkState : Type 0 where
  pub written : List ℕ
  pub flushed : ℕ
  pub room : ℕ
  pub piece : ℕ
  pub failing : List ℕ
  pub calls : ℕ
  pub flushes : ℕ
  pub faults : ℕ
