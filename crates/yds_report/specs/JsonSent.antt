-- What a member of an object sends to a writer.
use Rattle.std.specs.Prelude.{ℕ, List}
use Rattle.serde.specs.Event.{Log, Logs, field_key, unsigned}
use Rattle.serde.specs.declared.name.Case.TheVariants.{AsIs}

-- a key, and then a number
abbrev pub SendsNumber : List ℕ → ℕ → Log → Log → Type 0
SendsNumber key number old new = (named : Log) × Logs old named (field_key key AsIs) × Logs named new (unsigned number)
