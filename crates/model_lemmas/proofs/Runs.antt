-- Slots that run one after another, by recursion on their list and by their places.
use Rattle.std.proofs.Common.{◌≡◌, ℕ, zero, suc, ◌<◌, ◌≤◌, List, [], ◌∷◌, ◌++◌, length, arith}
use Rattle.std.specs.List.{All}
use Rattle.std.proofs.lemmas.List.{get_or-map}
use Rattle.std.proofs.lemmas.List.Elements.{All-nil, All-cons, All-tail, All-head}
use Rattle.yds_model.specs.Slot.{WrittenSlot, WholeSlot, slot_at_scale, slots_at, no_slot, slot_at, no_written_slot, written_slot_at}
use Rattle.yds_model.specs.Feasible.{RunFrom}

-- the slot at a place of a schedule at a scale
pub slot_read : (scale : ℕ) (slots : List WrittenSlot) (i : ℕ) → i < length slots →
    slot_at (slots_at scale slots) i ≡ slot_at_scale scale (written_slot_at slots i)
slot_read scale slots i within = get_or-map (slot_at_scale scale) slots i no_written_slot no_slot within

-- slots that take time, each after the one before it, run one after another
pub run_from_places : (start : ℕ) (slots : List WholeSlot) → (0 < length slots → start ≤ (slot_at slots 0).from) →
    All (λ slot. slot.from < slot.to) slots →
    ((i : ℕ) → suc i < length slots → (slot_at slots i).to ≤ (slot_at slots (suc i)).from) → RunFrom start slots
run_from_places start [] begins forward after = tt
run_from_places start (slot ∷ slots) begins forward after = (
  begins (omega arith),
  forward 0 slot (omega arith),
  run_from_places slot.to slots (λ some. after 0 (omega arith)) (All-tail (λ one. one.from < one.to) slot slots forward)
      (λ i within. after (suc i) (omega arith)),
)

-- slots that run one after another take time
pub run_forward : (start : ℕ) (slots : List WholeSlot) → RunFrom start slots → All (λ slot. slot.from < slot.to) slots
run_forward start [] run = All-nil (λ slot. slot.from < slot.to)
run_forward start (slot ∷ slots) run = All-cons (λ one. one.from < one.to) slot slots run.1 (run_forward slot.to slots run.2)

-- the first slot begins at the start or later
pub run_begins : (start : ℕ) (slots : List WholeSlot) → RunFrom start slots → 0 < length slots → start ≤ (slot_at slots 0).from
run_begins start [] run some = absurd (omega arith)
run_begins start (slot ∷ slots) run some = run.0

-- and each begins after the one before it
pub run_after : (start : ℕ) (slots : List WholeSlot) → RunFrom start slots → (i : ℕ) → suc i < length slots →
    (slot_at slots i).to ≤ (slot_at slots (suc i)).from
run_after start [] run i within = absurd (omega arith)
run_after start (slot ∷ slots) run zero within = run_begins slot.to slots run.2 (omega arith)
run_after start (slot ∷ slots) run (suc i) within = run_after slot.to slots run.2 i (omega arith)

-- slots that run from a time on run from each earlier one
pub run_earlier : (earlier start : ℕ) (slots : List WholeSlot) → earlier ≤ start → RunFrom start slots → RunFrom earlier slots
run_earlier earlier start [] before run = tt
run_earlier earlier start (slot ∷ slots) before run = (omega (arith, before, run.0), run.1, run.2)

-- and from each time up to their start
pub run_later : (low start : ℕ) (slots : List WholeSlot) → RunFrom low slots → All (λ slot. start ≤ slot.from) slots → RunFrom start slots
run_later low start [] run later = tt
run_later low start (slot ∷ slots) run later = (later 0 slot (omega arith), run.1, run.2)

-- two parts, of which the second begins where the first has ended
pub run_joined : (start middle : ℕ) (slots others : List WholeSlot) → start ≤ middle → RunFrom start slots → All (λ slot. slot.to ≤ middle) slots →
    RunFrom middle others → RunFrom start (slots ++ others)
run_joined start middle [] others order run ends later = run_earlier start middle others order later
run_joined start middle (slot ∷ slots) others order run ends later = (
  run.0,
  run.1,
  run_joined slot.to middle slots others (All-head (λ one. one.to ≤ middle) slot slots ends) run.2 (All-tail (λ one. one.to ≤ middle) slot slots ends) later,
)
