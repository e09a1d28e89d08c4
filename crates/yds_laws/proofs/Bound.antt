-- The confinement bound, and what follows for a schedule that is explained, against each other schedule.
use Rattle.yds_model.proofs.Common.{ℕ, ◌+◌, ◌-◌, ◌*◌, ◌≤◌, List, [], ◌∷◌, ◌++◌, length, get_or, refl, arith, ap, take_at, drop_at, All-take, All-drop, mul-le-mul_left, le_of_mul-le-mul_left, count, WholeSlot, WrittenSlot, IsDivided, IsScale, slots_at, Piece, sum_by-add, sum_by-mul, sum_by_at_most, sum_by_zero}
use Rattle.model_lemmas.proofs.Time.{time_within}
use Rattle.yds_laws.specs.Laws.{ConfinementBound, ExplainedIsLeast, LeastAmongWritten, ServedAtSpeed}
use Rattle.yds_laws.proofs.Group.{work_served}

-- what a slot does above a speed, and what it does at that speed, is at least its work
slot_bound : (p q often work time : ℕ) → often ≤ 1 → q * (often * work) ≤ (q * work - p * time) + p * (often * time)
slot_bound p q often work time once = grind arith

-- summed over the slots, of which the members' take no longer than the pieces
pub confinement_bound : ConfinementBound
confinement_bound jobs scale p q slots members pieces positive different known confined feasible =
    let work = λ (slot : WholeSlot). count slot.job members * slot.work in
    let time = λ (slot : WholeSlot). count slot.job members * (slot.to - slot.from) in
    let term = λ (slot : WholeSlot). q * slot.work - p * (slot.to - slot.from) in
    omega (
      arith,
      sum_by_at_most (λ slot. q * work slot) (λ slot. term slot + p * time slot) slots
          (λ k d within. slot_bound p q (count (get_or slots k d).job members) (get_or slots k d).work
          ((get_or slots k d).to - (get_or slots k d).from) (different (get_or slots k d).job)),
      sum_by-add term (λ slot. p * time slot) slots,
      sum_by-mul p time slots,
      sum_by-mul q work slots,
      ap (λ n. q * n) (work_served jobs scale slots members feasible.served known),
      mul-le-mul_left p (time_within jobs scale members pieces slots positive different confined
          feasible.one_at_a_time feasible.in_windows),
    )

-- the bound of the jobs that explain a schedule holds of every other
pub explained_is_least : ExplainedIsLeast
explained_is_least jobs slots levels explains = grind (arith, confinement_bound)

-- a scale of two schedules is one of the first
pub scale_left : (scale : ℕ) (slots others : List WrittenSlot) → IsScale scale (slots ++ others) → IsScale scale slots
scale_left scale slots others is = record {
  positive = is.positive;
  divided = rw (take_at slots others (length slots) refl) at
      (All-take (IsDivided scale) (length slots) (slots ++ others) is.divided);
}

-- and of the other
pub scale_right : (scale : ℕ) (slots others : List WrittenSlot) → IsScale scale (slots ++ others) → IsScale scale others
scale_right scale slots others is = record {
  positive = is.positive;
  divided = rw (drop_at slots others (length slots) refl) at
      (All-drop (IsDivided scale) (length slots) (slots ++ others) is.divided);
}

-- at a scale of both, a written schedule is one of the others
pub least_among_written : LeastAmongWritten
least_among_written jobs slots others scale p q least feasible is positive =
    (least.holds scale (scale_left scale slots others is)).least p q positive (slots_at scale others)
    (feasible.holds scale (scale_right scale slots others is))

-- nothing runs faster than the speed, so the interval alone, as one piece, has the room for the jobs confined to it
pub served_at_speed : ServedAtSpeed
served_at_speed jobs scale top from to slots members positive forward feasible slow different known inside =
    let piece : Piece = record { from = from; to = to } in
    le_of_mul-le-mul_left {k = scale} (omega (
      arith,
      confinement_bound jobs scale top 1 slots members (piece ∷ []) positive different known
          (λ k d within time released due. (0, piece, omega arith, refl, (omega (arith, inside k d within), omega (arith, inside k d within)))) feasible,
      sum_by_zero (λ slot. 1 * slot.work - top * (slot.to - slot.from)) slots (λ k d within. omega (arith, slow k d within)),
    )) positive
