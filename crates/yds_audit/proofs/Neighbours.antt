-- What a slot and the one before it, as they are read, say of their places.
use Rattle.yds_model.proofs.Common.{◌≡◌, ℕ, ◌+◌, ◌-◌, ◌<◌, ◌≤◌, List, length, get_or, Bool, subst, arith, MatchBool, get_or_read, IsLess, IsAtMost, WrittenSlot, no_written_slot, written_slot_at, IsAfterOthers}
use Rattle.model_lemmas.proofs.TestFacts.{told_more}

-- the two tell whether the slot overlaps the one before it
pub overlap_told : (slots : List WrittenSlot) (i : ℕ) (slot before : WrittenSlot) (told : Bool) → 1 ≤ i → i < length slots →
    slot ≡ get_or slots i slot → before ≡ get_or slots (i - 1) before →
    MatchBool told (IsLess slot.from before.to) (IsAtMost before.to slot.from) →
    MatchBool told ((n : ℕ) × (n + 1 ≡ i) × IsLess (written_slot_at slots i).from (written_slot_at slots n).to) (IsAfterOthers slots i)
overlap_told slots i slot before told some within is_slot is_before tells =
    let here : slot ≡ written_slot_at slots i = get_or_read slots i slot within is_slot no_written_slot in
    let there : before ≡ written_slot_at slots (i - 1) = get_or_read slots (i - 1) before (omega arith) is_before no_written_slot in
    told_more told (IsLess slot.from before.to) (IsAtMost before.to slot.from)
    ((n : ℕ) × (n + 1 ≡ i) × IsLess (written_slot_at slots i).from (written_slot_at slots n).to) (IsAfterOthers slots i)
    (λ less. (i - 1, omega arith, rw (← here, ← there) less))
    (λ after n next.
    let previous : i - 1 ≡ n = omega arith in
    rw (← here) (subst (λ (k : ℕ). IsAtMost (written_slot_at slots k).to slot.from) previous (rw (← there) after)))
    tells
