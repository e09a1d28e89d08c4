-- How often a sink is flushed to which a trace is told in parts: behind each line with which parts are whole.
use Rattle.std.specs.Prelude.{◌≡◌, ℕ, zero, suc, ◌⊎◌, List, [], ◌∷◌, length, Bool, nat_lt, if◌then◌else◌, Option, Result, OnOk, IfErr}
use Rattle.yds_port.specs.Count.{next_count}
use Rattle.yds_port.specs.Sink.{IsFlushed, Delivers}
use Rattle.yds_kernel.specs.Event.{Said}
use Rattle.yds_trace.specs.Asked.{Asked}
use Rattle.yds_trace_parts.specs.declared.halt.Halt.{Halt as HaltKept}
use Rattle.yds_trace_parts.specs.declared.halt.Halt.TheVariants as kept
use Rattle.yds_trace_parts.specs.Told.{told_after}

-- the count of flushes with so many more
abbrev pub count_on : ℕ → ℕ → ℕ
count_on zero count = count
count_on (suc times) count = next_count (count_on times count)

-- With this line more text is told than with those before it.
abbrev pub adds_text : Asked → Bool → List Said → Said → Bool
adds_text asked strict past said = nat_lt (length (told_after asked strict past).text) (length (told_after asked strict (said ∷ past)).text)

-- how many of these lines add text
abbrev pub times_told : Asked → Bool → List Said → ℕ
times_told asked strict [] = 0
times_told asked strict (said ∷ past) = if adds_text asked strict past said then suc (times_told asked strict past) else times_told asked strict past

-- All that is written in a sink, whose members stand first, is flushed; or nothing was written since.
abbrev pub IsFlushedSince : {K : Type 0} → (K → Option (List ℕ)) → (K → Option ℕ) → K → K → Type 0
IsFlushedSince written flushed old new = IsFlushed (written new) (flushed new) ⊎ ((written new ≡ written old) × (flushed new ≡ flushed old))

-- the count behind a text, with which it is flushed if it has a byte
abbrev pub count_behind : List ℕ → ℕ → ℕ
count_behind [] count = count
count_behind (byte ∷ bytes) count = next_count count

-- A text was put into a sink, whose members stand first, and flushed, by the answer.
pub record PassesOn {K : Type 0} (written : K → Option (List ℕ)) (flushed : K → Option ℕ) (flushes faults : K → ℕ) (text : List ℕ) (result : Result (Unit {0}) HaltKept) (old new : K) : Type 0 where
  pub delivers : Delivers result text (written old) (written new) (faults old) (faults new)
  pub by_fault : IfErr result (λ halt. halt ≡ kept.WriteFault)
  pub all_flushed : OnOk result (IsFlushedSince written flushed old new)
  pub counted : OnOk result (flushes new ≡ count_behind text (flushes old))
