-- Of slots that stand, a slot's work is at most its job's.
use Rattle.yds_model.proofs.Common.{◌≡◌, ℕ, ◌+◌, ◌*◌, ◌/◌, ◌<◌, ◌≤◌, List, length, sym, arith, None, length-map, get_or-le-sum_by, eq-eqb, le_of_mul-le-mul_right, Job, job_at, WrittenSlot, WholeSlot, slot_at, work_given, no_written_slot, slot_at_scale, slots_at, written_slot_at, AllStand, AreSlots}
use Rattle.model_lemmas.proofs.Scale.{scale_exists}
use Rattle.model_lemmas.proofs.Runs.{slot_read}
use Rattle.model_lemmas.proofs.Verdicts.{stand_is_feasible}

-- a slot's work at a scale is at most what its job is given
one_given : (slots : List WholeSlot) (i : ℕ) (slot : WholeSlot) → i < length slots → slot ≡ slot_at slots i → slot.work ≤ work_given slots slot.job
one_given slots i slot within is = grind (arith, eq-eqb, get_or-le-sum_by)

-- a whole part times the scale is at most the value
whole_small : (whole more work scale : ℕ) → 1 ≤ scale → whole * scale + more ≤ work * scale → whole ≤ work
whole_small whole more work scale some within = le_of_mul-le-mul_right {k = scale} (omega (arith, within)) some

pub slot_work_small : (jobs : List Job) (slots : List WrittenSlot) (i : ℕ) → AreSlots (length jobs) slots → AllStand jobs None slots → i < length slots →
    (written_slot_at slots i).work.whole ≤ (job_at jobs (written_slot_at slots i).job).work
slot_work_small jobs slots i are all within =
    let some = scale_exists slots are.solid in
    let slot = written_slot_at slots i in
    let feasible = stand_is_feasible jobs None slots some.0 are some.1 all in
    let served = feasible.served slot.job (are.known i no_written_slot within) in
    let given = one_given (slots_at some.0 slots) i (slot_at_scale some.0 slot) (omega (arith, within, length-map slots (slot_at_scale some.0)))
    (sym (slot_read some.0 slots i within)) in
    whole_small slot.work.whole (slot.work.num * (some.0 / slot.work.den)) (job_at jobs slot.job).work some.0 some.1.positive (omega (arith, given, served))
