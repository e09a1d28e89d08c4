-- What isn't of the textbook: near misses of its slots and levels.
use Rattle.yds_model.proofs.Common.{◌≡◌, ℕ, ◌*◌, ◌≤◌, List, [], ◌∷◌, refl, arith, All, All-cons, All-nil, Job, IsJob, WrittenSlot, IsDivided, IsScale, slots_at, work_given, of_whole, one-dvd}
use Rattle.yds_model.specs.Level.{Level}
use Rattle.yds_textbook.specs.Theorem.{AreOfTextbook}
use Rattle.yds_textbook.proofs.Theorem.{stages_make_a_plan}

-- one job, from 0 to 2, of work 2
abbrev job : Job
job = record { release = 0; deadline = 2; work = 2 }

abbrev jobs : List Job
jobs = job ∷ []

-- slots that are of the textbook give it its work
gives_two : (slots : List WrittenSlot) (levels : List Level) → IsScale 1 slots → AreOfTextbook jobs slots levels → work_given (slots_at 1 slots) 0 ≡ 2
gives_two slots levels scale by =
    let proper : IsJob job = record { has_window = omega arith; time_in_range = omega arith; work_in_range = omega arith } in
    let plan = stages_make_a_plan jobs slots levels (All-cons IsJob job [] proper (All-nil IsJob)) (omega arith) by in
    (plan.proper.feasible.holds 1 scale).served 0 (omega arith)

-- No slot is none of it, whatever the stages and levels are.
no_slot : (levels : List Level) → AreOfTextbook jobs [] levels → ⊥
no_slot levels by = absurd (omega (arith, gives_two [] levels (record { positive = omega arith; divided = All-nil _ }) by))

-- Right stages beside the slots of another plan aren't: here that of the job with half its work.
abbrev half : WrittenSlot
half = record { job = 0; from = of_whole 0; to = of_whole 2; work = of_whole 1 }

another_plan : (levels : List Level) → AreOfTextbook jobs (half ∷ []) levels → ⊥
another_plan levels by =
    let divided : IsDivided 1 half = record { from = one-dvd 1; to = one-dvd 1; work = one-dvd 1 } in
    absurd (omega (arith, gives_two (half ∷ []) levels (record { positive = omega arith; divided = All-cons (IsDivided 1) half [] divided (All-nil (IsDivided 1)) }) by))
