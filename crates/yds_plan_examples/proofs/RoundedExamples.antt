-- That a plan is rounded in one way, tried on one job between two points: what isn't its rounding, and what `round` doesn't answer.
use Rattle.yds_model.proofs.Common.{◌≡◌, ℕ, List, [], ◌∷◌, refl, ap, arith, inr, codes, digits, nat_tests, Job, Fraction, of_whole, WrittenSlot, IsFeasible, Level, IsPlan, Point, IsTable, hull_of, stretches, SplitsStretch, RoundsStretches, IsEnergyOf, IsRounding, All, IsSlot, IsDocument, written_slot_at, Document, no_document, with_answer, canonical_text, Some, None, Answers}
use Rattle.base.specs.declared.status.Status.TheVariants.{Done}
use Rattle.yds_texts.proofs.Within.{read_is_within_limits}
use Rattle.yds_plan_laws.proofs.OnceRounded.{roundings_are_one, round_answers_once}
use Rattle.yds_examples.proofs.Tests.{proved, refuted, test_numbers}
use Rattle.yds_examples.proofs.TestedSchedules.{feasible_by_test}
use Rattle.yds_examples.proofs.TestedPlans.{proper_by_test, served_by_test, plan_by_test}
use Rattle.yds_examples.proofs.TestedRounding.{energy_by_test, slow_enough, splits_by_test, rounds_next}

-- a job from 0 to 2 of work 3
abbrev jobs : List Job
jobs = record { release = 0; deadline = 2; work = 3 } ∷ []

-- the points of the speeds 0, 1 and 2
abbrev points : List Point
points = record { speed = 0; power = 0 } ∷ record { speed = 1; power = 1 } ∷ record { speed = 2; power = 3 } ∷ []

table : IsTable points
table = record { some = omega arith; idle = refl; rising = (omega arith, (omega arith, tt)) }

-- a slot of the job
abbrev slot : Fraction → Fraction → ℕ → WrittenSlot
slot from to work = record { job = 0; from = from; to = to; work = of_whole work }

-- its plan: at 3/2 throughout
abbrev planned : List WrittenSlot
planned = slot (of_whole 0) (of_whole 2) 3 ∷ []

abbrev level : Level
level = record { work = 3; length = 2; pieces = record { from = 0; to = 2 } ∷ []; members = 0 ∷ [] }

plan : IsPlan jobs planned (level ∷ [])
plan = plan_by_test jobs planned (level ∷ []) (proper_by_test jobs planned (level ∷ []) refl refl refl) (served_by_test jobs planned 1 refl refl) refl

-- Rounded: at 2 until 1, and then at 1.
abbrev written : List WrittenSlot
written = slot (of_whole 0) (of_whole 1) 2 ∷ slot (of_whole 1) (of_whole 2) 1 ∷ []

split : SplitsStretch (hull_of points) level (record { from = 0; to = 2 }) planned written
split =
    splits_by_test 1 1 1 (hull_of points) level (record { from = 0; to = 2 }) planned (slot (of_whole 0) (of_whole 1) 2 ∷ []) (slot (of_whole 1) (of_whole 2) 1 ∷ [])
    refl refl refl (λ job. grind (arith, nat_tests))

rounds : RoundsStretches (hull_of points) (level ∷ []) (stretches jobs) planned written
rounds = rounds_next (level ∷ []) [] [] [] (0, omega arith, refl) refl split (refl, refl)

energy : IsEnergyOf jobs points written (of_whole 4)
energy = energy_by_test jobs points (2 ∷ 1 ∷ []) written (of_whole 4) 1 refl (omega arith) refl refl

rounding : IsRounding jobs points planned (level ∷ []) written (of_whole 4)
rounding = grind (arith, energy, proved, rounds, slow_enough)

-- # The answer

abbrev input : List ℕ
input = codes "job a 0 2 3\npoint 0 0\npoint 1 1\npoint 2 3\n"

abbrev text : List ℕ
text = codes "job a 0 2 3\npoint 0 0\npoint 1 1\npoint 2 3\nslot a 0 1 2\nslot a 1 2 1\nenergy 4\n"

abbrev document : Document
document = record no_document { names = codes "a" ∷ []; jobs = jobs; points = points }

its_text : text ≡ canonical_text (with_answer document written [] None (Some (of_whole 4)))
unfolding digits
its_text = refl

possible : IsDocument (with_answer document written [] None (Some (of_whole 4)))
possible = read_is_within_limits text (with_answer document written [] None (Some (of_whole 4))) refl

answer : Answers (codes "round" ∷ []) input text Done
answer = inr record {
  planned = planned;
  levels = level ∷ [];
  plan = plan;
  slots = written;
  energy = of_whole 4;
  rounded = rounding;
  said = record { possible = possible; written = its_text };
  ended = refl;
}

-- The slower point first is as good,
abbrev slower_first : List WrittenSlot
slower_first = slot (of_whole 0) (of_whole 1) 1 ∷ slot (of_whole 1) (of_whole 2) 2 ∷ []

as_good : IsFeasible jobs slower_first × IsEnergyOf jobs points slower_first (of_whole 4)
as_good = (feasible_by_test jobs slower_first 1 refl refl, energy_by_test jobs points (1 ∷ 2 ∷ []) slower_first (of_whole 4) 1 refl (omega arith) refl refl)

-- but another text, so `round` doesn't answer it.
abbrev slower_text : List ℕ
slower_text = codes "job a 0 2 3\npoint 0 0\npoint 1 1\npoint 2 3\nslot a 0 1 1\nslot a 1 2 2\nenergy 4\n"

not_slower_first : Answers (codes "round" ∷ []) input slower_text Done → ⊥
not_slower_first other = refuted (test_numbers text slower_text) refl (round_answers_once input text slower_text Done Done answer other).0

-- Nor are these slots a rounding of any plan of the job.
slower_possible : IsDocument (with_answer document slower_first [] None (Some (of_whole 4)))
slower_possible = read_is_within_limits slower_text (with_answer document slower_first [] None (Some (of_whole 4))) refl

no_rounding : (others : List WrittenSlot) (more : List Level) (energy : Fraction) → IsPlan jobs others more → IsRounding jobs points others more slower_first energy → ⊥
no_rounding others more energy next other =
    let same = (roundings_are_one jobs points planned others (level ∷ []) more written slower_first (of_whole 4) energy table plan next rounding other possible.slots.fit
    slower_possible.slots.fit).0 in
    absurd (omega (arith, ap (λ slots. (written_slot_at slots 0).work.whole) same))

-- # A spelling that no document has

-- The switch written as 4/4 is a rounding,
abbrev quarters : Fraction
quarters = record { whole = 0; num = 4; den = 4 }

abbrev unkept : List WrittenSlot
unkept = slot (of_whole 0) quarters 2 ∷ slot (of_whole 1) (of_whole 2) 1 ∷ []

unkept_split : SplitsStretch (hull_of points) level (record { from = 0; to = 2 }) planned unkept
unkept_split =
    splits_by_test 4 4 1 (hull_of points) level (record { from = 0; to = 2 }) planned (slot (of_whole 0) quarters 2 ∷ []) (slot (of_whole 1) (of_whole 2) 1 ∷ [])
    refl refl refl (λ job. grind (arith, nat_tests))

unkept_rounds : RoundsStretches (hull_of points) (level ∷ []) (stretches jobs) planned unkept
unkept_rounds = rounds_next (level ∷ []) [] [] [] (0, omega arith, refl) refl unkept_split (refl, refl)

unkept_energy : IsEnergyOf jobs points unkept (of_whole 4)
unkept_energy = energy_by_test jobs points (2 ∷ 1 ∷ []) unkept (of_whole 4) 4 refl (omega arith) refl refl

unkept_rounding : IsRounding jobs points planned (level ∷ []) unkept (of_whole 4)
unkept_rounding = grind (arith, unkept_energy, proved, unkept_rounds, slow_enough)

-- and other slots than those above,
other_spelling : written ≡ unkept → ⊥
other_spelling same = absurd (omega (arith, ap (λ slots. (written_slot_at slots 0).to.whole) same))

-- but no document keeps them.
not_kept : All IsSlot unkept → ⊥
not_kept fit = absurd (let first = fit 0 (slot (of_whole 0) quarters 2) (omega arith) in omega (arith, first.to.below_one))
