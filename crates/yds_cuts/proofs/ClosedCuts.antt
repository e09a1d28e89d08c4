-- Any number of cuts at which no window is open: feasible parts follow one another, and what is least in each part is least in all.
use Rattle.yds_model.proofs.Common.{ℕ, ◌+◌, ◌*◌, ◌≤◌, List, [], ◌∷◌, length, map, sym, subst, arith, All, AllZip, All-nil, All-cons, All-head, All-tail, All-append, All-weaker, mul-le-mul_right, one-dvd, of_whole, Job, no_job, IsSolid, slots_at, RunFrom, IsInWindow, IsFeasible, IsFeasibleAt, IsLeast, Level, IsPlan}
use Rattle.model_lemmas.proofs.Scale.{scale_exists}
use Rattle.model_lemmas.proofs.Runs.{run_joined, run_later, run_earlier}
use Rattle.yds_laws.proofs.Plans.{plans_are_least}
use Rattle.yds_energy.proofs.PlansEnergy.{least_is_cheapest_among_written}
use Rattle.yds_parts.specs.Parts.{ArePartedAt, moved}
use Rattle.yds_parts.proofs.PlansOfParts.{feasible_are_of}
use Rattle.yds_parts.proofs.WrittenParts.{together_is, least_in_parts}
use Rattle.yds_cuts.specs.Cuts.{Part, HasOwnSlots, all_jobs, all_slots, FollowInTurn}
use Rattle.yds_cuts.specs.ClosedCuts.{ArePartedFrom, AreParted, LeastInEachPart, PlansOfEachPart}
use Rattle.yds_cuts.proofs.CutEnergies.{feasible_parts_at}
use Rattle.yds_cuts.proofs.InTurn.{in_turn_from, solid_of_all}
use Rattle.yds_cuts.proofs.Renamed.{run_renamed}

-- # The cuts

-- all jobs are released at the time or later
pub later_releases : (time : ℕ) (parts : List Part) → ArePartedFrom time parts → All (λ job. time ≤ job.release) (all_jobs parts)
later_releases time [] parted = All-nil (λ (job : Job). time ≤ job.release)
later_releases time (part ∷ parts) (end, order, releases, deadlines, later) =
    All-append (λ job. time ≤ job.release) part.jobs (all_jobs parts) releases
    (All-weaker (λ (job : Job). end ≤ job.release) (λ job. time ≤ job.release) (λ job is. omega (arith, order, is)) (all_jobs parts) (later_releases end parts later))

-- so the first part and the others are cut where no window is open
pub parted_at : (time : ℕ) (part : Part) (parts : List Part) (parted : ArePartedFrom time (part ∷ parts)) → ArePartedAt parted.0 part.jobs (all_jobs parts)
parted_at time part parts (end, order, releases, deadlines, later) = record { before = deadlines; after = later_releases end parts later }

-- # Feasible parts follow one another

module _ (scale : ℕ) where
  abbrev IsFeasiblePart : Part → Type 0
  IsFeasiblePart part = IsFeasibleAt part.jobs scale (slots_at scale part.slots)

  run_parted : (time : ℕ) (parts : List Part) → ArePartedFrom time parts → All IsFeasiblePart parts → RunFrom (time * scale) (slots_at scale (all_slots parts))
  run_parted time [] parted feasible = tt
  run_parted time (part ∷ parts) (end, order, releases, deadlines, later) feasible =
      let here = All-head IsFeasiblePart part parts feasible in
      let slots = slots_at scale part.slots in
      let others = slots_at scale (all_slots parts) in
      subst (RunFrom (time * scale)) (sym (together_is scale part.jobs part.slots (all_slots parts)))
      (run_joined (time * scale) (end * scale) slots (map (moved (length part.jobs)) others) (mul-le-mul_right scale order)
      (run_later 0 (time * scale) slots here.one_at_a_time (λ k d within.
      let is = here.in_windows k d within in
      omega (arith, is.released, mul-le-mul_right scale (releases _ no_job is.known))))
      (λ k d within.
      let is = here.in_windows k d within in
      omega (arith, is.due, mul-le-mul_right scale (deadlines _ no_job is.known)))
      (run_renamed (λ place. length part.jobs + place) (end * scale) others (run_parted end parts later (All-tail IsFeasiblePart part parts feasible))))

pub parted_follow : (parts : List Part) → AreParted parts → All (λ part. IsFeasible part.jobs part.slots) parts → FollowInTurn parts
parted_follow parts parted feasible =
    let solid = solid_of_all parts (λ k d within. (feasible k d within).solid) in
    let scale = scale_exists (all_slots parts) solid in
    (in_turn_from scale.0 (of_whole 0) parts (one-dvd scale.0) scale.1
    (run_earlier _ _ _ (omega arith) (run_parted scale.0 0 parts parted (feasible_parts_at scale.0 parts scale.1 feasible)))).0

-- # Least

no_jobs_least : IsLeast [] []
no_jobs_least = record {
  solid = All-nil IsSolid;
  holds = λ scale is. record {
    feasible = record { one_at_a_time = tt; in_windows = All-nil (IsInWindow [] scale); served = λ number within. absurd (omega (arith, within)) };
    least = λ p q some others feasible. omega arith;
  };
}

least_from : (time : ℕ) (parts : List Part) → ArePartedFrom time parts → All HasOwnSlots parts → All (λ part. IsLeast part.jobs part.slots) parts →
    IsLeast (all_jobs parts) (all_slots parts)
least_from time [] parted own least = no_jobs_least
least_from time (part ∷ parts) parted own least =
    (least_in_parts parted.0 part.jobs (all_jobs parts) part.slots (all_slots parts) (parted_at time part parts parted) (All-head HasOwnSlots part parts own)).1 (
      All-head (λ part. IsLeast part.jobs part.slots) part parts least,
      least_from parted.0 parts parted.4 (All-tail HasOwnSlots part parts own) (All-tail (λ part. IsLeast part.jobs part.slots) part parts least),
    )

each_least : (time : ℕ) (parts : List Part) → ArePartedFrom time parts → All HasOwnSlots parts → IsLeast (all_jobs parts) (all_slots parts) →
    All (λ part. IsLeast part.jobs part.slots) parts
each_least time [] parted own least = All-nil (λ part. IsLeast part.jobs part.slots)
each_least time (part ∷ parts) parted own least =
    let both = (least_in_parts parted.0 part.jobs (all_jobs parts) part.slots (all_slots parts) (parted_at time part parts parted) (All-head HasOwnSlots part parts own)).0
    least in
    All-cons (λ part. IsLeast part.jobs part.slots) part parts both.0 (each_least parted.0 parts parted.4 (All-tail HasOwnSlots part parts own) both.1)

pub least_in_each_part : LeastInEachPart
least_in_each_part parts parted own = (each_least 0 parts parted own, least_from 0 parts parted own)

-- plans have their own slots, and are least
record ArePlanned (parts : List Part) : Type 0 where
  own : All HasOwnSlots parts
  least : All (λ part. IsLeast part.jobs part.slots) parts

planned : (parts : List Part) (certificates : List (List Level)) → AllZip (λ part levels. IsPlan part.jobs part.slots levels) parts certificates → ArePlanned parts
planned [] certificates plans = record { own = All-nil HasOwnSlots; least = All-nil (λ part. IsLeast part.jobs part.slots) }
planned (part ∷ parts) [] plans = absurd plans
planned (part ∷ parts) (levels ∷ certificates) plans =
    let rest = planned parts certificates plans.1 in
    record {
      own = All-cons HasOwnSlots part parts (feasible_are_of part.jobs part.slots plans.0.proper.feasible) rest.own;
      least = All-cons (λ part. IsLeast part.jobs part.slots) part parts (plans_are_least part.jobs part.slots levels plans.0).0 rest.least;
    }

pub plans_of_each_part : PlansOfEachPart
plans_of_each_part parts certificates parted plans =
    let are = planned parts certificates plans in
    let least : IsLeast (all_jobs parts) (all_slots parts) = least_from 0 parts parted are.own are.least in
    (least, least_is_cheapest_among_written (all_jobs parts) (all_slots parts) least)
