-- Cuts at which windows are open, tried on two jobs of work 2 that may run from 0 to 4 and from 1 to 6: what meets the laws, and near misses.
use Rattle.yds_model.proofs.Common.{rules, ◌≡◌, ℕ, ◌<◌, ◌≤◌, [], ◌∷◌, refl, arith, None, All, All-nil, All-cons, one-dvd, Job, of_whole, IsFeasible, Feasible, Late, WrongWork, IsVerdict, subst, Stands, GetsItsWork}
use Rattle.model_lemmas.proofs.Scale.{one_scale_decides}
use Rattle.yds_model.specs.Audit.{Overlap}
use Rattle.yds_parts.specs.Parts.{ArePartedAt}
use Rattle.yds_cuts.specs.Cuts.{Part, HasOwnSlots, all_jobs, all_slots, FollowInTurn}
use Rattle.yds_cuts.specs.VerdictOfParts.{verdicts_in_whole, first_cause}
use Rattle.yds_cuts.proofs.ServedParts.{feasible_in_each_part}
use Rattle.yds_cuts.proofs.OverlappingParts.{verdict_where_parts_overlap}

abbrev pub job : ℕ → ℕ → ℕ → Job
job release deadline work = record { release = release; deadline = deadline; work = work }

-- a part of one job with one slot
abbrev pub part : ℕ → ℕ → ℕ → ℕ → ℕ → Part
part release deadline from to work = record {
  jobs = job release deadline 2 ∷ [];
  slots = record { job = 0; from = of_whole from; to = of_whole to; work = of_whole work } ∷ [];
}

abbrev pub early : Part
early = part 0 4 0 2 2

abbrev pub late : Part
late = part 1 6 2 4 2

-- Both windows are open at 2, where the first slot ends and the second begins, and no time parts them.
open_there : (time : ℕ) → ArePartedAt time early.jobs late.jobs → ⊥
open_there time parted = absurd (omega (arith, parted.before 0 (job 0 4 2) (omega arith), parted.after 0 (job 1 6 2) (omega arith)))

-- The parts follow one another, and have their own slots,
follow : FollowInTurn (early ∷ late ∷ [])
follow = (omega arith, (omega arith, tt))

own : All HasOwnSlots (early ∷ late ∷ [])
own = search (arith, rules, All-cons, All-nil)

-- each is feasible,
alone : (release deadline from to : ℕ) → release ≤ from → from < to → to ≤ deadline →
    IsFeasible (job release deadline 2 ∷ []) (part release deadline from to 2).slots
alone release deadline from to released takes due =
    one_scale_decides (job release deadline 2 ∷ []) (part release deadline from to 2).slots 1 (search (arith, rules, All-cons, All-nil, one-dvd)) (grind arith)

-- and so both are together.
both_feasible : IsFeasible (all_jobs (early ∷ late ∷ [])) (all_slots (early ∷ late ∷ []))
both_feasible =
    (feasible_in_each_part (early ∷ late ∷ []) own).1 (
      follow,
      All-cons (λ part. IsFeasible part.jobs part.slots) early (late ∷ []) (alone 0 4 0 2 (omega arith) (omega arith) (omega arith))
          (All-cons (λ part. IsFeasible part.jobs part.slots) late [] (alone 1 6 2 4 (omega arith) (omega arith) (omega arith)) (All-nil (λ part. IsFeasible part.jobs part.slots))),
    )

-- One unit of time earlier the second part begins before the first has ended,
abbrev sooner : Part
sooner = part 1 6 1 3 2

too_soon : FollowInTurn (early ∷ sooner ∷ []) → ⊥
too_soon follow = absurd (omega (arith, follow.1.0))

-- and though each is feasible, the slots overlap.
overlaps : IsVerdict (all_jobs (early ∷ sooner ∷ [])) None (all_slots (early ∷ sooner ∷ [])) (Overlap 1)
overlaps = record {
  comes = record {
    within = omega arith;
    before = λ i earlier. subst (Stands (all_jobs (early ∷ sooner ∷ [])) None (all_slots (early ∷ sooner ∷ []))) (omega (arith, earlier)) first_stands;
  };
  forward = omega arith;
  before = 0;
  is_before = omega arith;
  overlaps = omega arith;
}
  where
    first_stands : Stands (all_jobs (early ∷ sooner ∷ [])) None (all_slots (early ∷ sooner ∷ [])) 0
    first_stands = record { forward = omega arith; after = λ before is. absurd (omega (arith, is)); released = omega arith; due = omega arith; on_table = tt }

-- It is found from the first part's verdict and the first slot behind.
early_stands : IsVerdict early.jobs None early.slots Feasible
early_stands = record {
  stand = λ i within. let first : 0 ≡ i = omega (arith, within) in
      subst (Stands early.jobs None early.slots) first (record { forward = omega arith; after = λ before is. absurd (omega (arith, is)); released = omega arith; due = omega arith; on_table = tt });
  served = λ i within. let first : 0 ≡ i = omega (arith, within) in subst (GetsItsWork early.jobs early.slots) first refl;
}

found : IsVerdict (all_jobs (early ∷ sooner ∷ [])) None (all_slots (early ∷ sooner ∷ [])) (Overlap 1)
found =
    verdict_where_parts_overlap None (early ∷ []) (sooner ∷ []) (Feasible ∷ []) (record { job = 0; from = of_whole 1; to = of_whole 3; work = of_whole 2 }) []
    (All-cons HasOwnSlots early [] (own 0 early (omega arith)) (All-nil HasOwnSlots)) (follow.0, tt) (early_stands, tt) refl (omega arith)

-- A slot of the second job in the first part isn't its own.
abbrev mixed : Part
mixed = record { jobs = job 0 4 2 ∷ []; slots = record { job = 1; from = of_whole 0; to = of_whole 2; work = of_whole 2 } ∷ [] }

not_own : HasOwnSlots mixed → ⊥
not_own own = absurd (omega (arith, own 0 (record { job = 1; from = of_whole 0; to = of_whole 2; work = of_whole 2 }) (omega arith)))

-- # Verdicts

-- A slot that is late comes before a work that is wrong, though its part is the second; its number among all is 1.
slot_first : first_cause (verdicts_in_whole 0 0 (early ∷ late ∷ []) (WrongWork 0 (of_whole 1) 2 ∷ Late 0 ∷ [])) ≡ Late 1
slot_first = refl

-- Of two wrong works the first part's is told,
first_work : first_cause (verdicts_in_whole 0 0 (early ∷ late ∷ []) (WrongWork 0 (of_whole 1) 2 ∷ WrongWork 0 (of_whole 3) 2 ∷ [])) ≡ WrongWork 0 (of_whole 1) 2
first_work = refl

-- and one of the second part with its job's number among all.
second_work : first_cause (verdicts_in_whole 0 0 (early ∷ late ∷ []) (Feasible ∷ WrongWork 0 (of_whole 3) 2 ∷ [])) ≡ WrongWork 1 (of_whole 3) 2
second_work = refl

none : first_cause (verdicts_in_whole 0 0 (early ∷ late ∷ []) (Feasible ∷ Feasible ∷ [])) ≡ Feasible
none = refl
