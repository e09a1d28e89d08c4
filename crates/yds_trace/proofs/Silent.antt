-- The longest silence is that of a processor with a line: which others are looked at doesn't matter.
use Rattle.base.proofs.Common.{◌≡◌, ◌∙◌, ℕ, zero, suc, ◌+◌, ◌-◌, ◌<◌, ◌≤◌, List, [], ◌∷◌, length, slice_index_or, Bool, true, false, ◌==◌, if◌then◌else◌, Option, Some, None, refl, sym, ap, arith, le-ltb, ne_eqb, ◌≢◌}
use Rattle.yds_kernel.specs.Event.{Said, Stamped, Lost, Nothing}
use Rattle.yds_trace.specs.Asked.{Asked}
use Rattle.yds_trace.specs.Past.{next_processor, processor_count, last_time_on}
use Rattle.yds_trace.specs.Tally.{is_idle, no_silence, silence_on, longer_silence, silence_below}
use Rattle.yds_trace.specs.declared.tally.Silence.{Silence}

-- None is longer than no silence.
longer_none : (silence : Silence) → longer_silence silence no_silence ≡ silence
longer_none silence = let none : 0 ≤ silence.lasted = omega arith in rw (le-ltb silence.lasted 0 none) refl

-- A processor without a line isn't silent.
none_on : (asked : Asked) (past : List Said) (processor : ℕ) → last_time_on processor past ≡ None → silence_on asked past processor ≡ no_silence
none_on asked past processor none = rw (silence_on, none) refl

-- Behind the processors with lines no other is looked at.
below_behind : (asked : Asked) (past : List Said) (n more : ℕ) → ((processor : ℕ) → n ≤ processor → last_time_on processor past ≡ None) →
    silence_below asked past (more + n) ≡ silence_below asked past n
below_behind asked past n zero none = ap (silence_below asked past) (let same : 0 + n ≡ n = omega arith in same)
below_behind asked past n (suc more) none =
    ap (silence_below asked past) (let next : suc more + n ≡ suc (more + n) = omega arith in next)
    ∙ ap (λ (here : Silence). longer_silence (silence_below asked past (more + n)) here) (none_on asked past (more + n) (none (more + n) (omega arith)))
    ∙ longer_none (silence_below asked past (more + n))
    ∙ below_behind asked past n more none

-- one processor more
pub below_next : (asked : Asked) (past : List Said) (n : ℕ) →
    silence_below asked past (n + 1) ≡ longer_silence (silence_below asked past n) (silence_on asked past n)
below_next asked past n = ap (silence_below asked past) (let next : n + 1 ≡ suc n = omega arith in next)

-- Two numbers of processors that have all those with lines.
pub below_same : (asked : Asked) (past : List Said) (n m : ℕ) → ((processor : ℕ) → n ≤ processor → last_time_on processor past ≡ None) →
    ((processor : ℕ) → m ≤ processor → last_time_on processor past ≡ None) → silence_below asked past n ≡ silence_below asked past m
below_same asked past n m first second =
    sym (below_behind asked past n m first)
    ∙ ap (silence_below asked past) (let same : m + n ≡ n + m = omega arith in same)
    ∙ below_behind asked past m n second

-- No line tells of a processor from this number on.
pub counted_none : (past : List Said) (processor : ℕ) → processor_count past ≤ processor → last_time_on processor past ≡ None
counted_none [] processor within = refl
counted_none (Stamped event ∷ past) processor within =
    let other : event.processor ≢ processor = omega (arith, within) in
    rw (ne_eqb event.processor processor other) (counted_none past processor (omega (arith, within)))
counted_none (Lost other reach ∷ past) processor within = counted_none past processor (omega (arith, within))
counted_none (Nothing ∷ past) processor within = counted_none past processor (omega (arith, within))

-- Behind the end of a list of times there is none.
pub past_end : (times : List (Option ℕ)) (processor : ℕ) → length times ≤ processor → slice_index_or times processor None ≡ None
past_end [] processor within = refl
past_end (time ∷ times) zero within = absurd (omega arith)
past_end (time ∷ times) (suc processor) within = past_end times processor (omega arith)
