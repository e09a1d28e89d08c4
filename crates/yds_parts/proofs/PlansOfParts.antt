-- The plans of both parts are least for all jobs, and cost least.
use Rattle.yds_model.proofs.Common.{◌+◌, ◌≤◌, List, ◌++◌, length, arith, Job, WrittenSlot, slot_at_scale, IsFeasible, IsLeast}
use Rattle.model_lemmas.proofs.Scale.{scale_exists}
use Rattle.yds_laws.proofs.Plans.{plans_are_least}
use Rattle.yds_energy.proofs.PlansEnergy.{least_is_cheapest_among_written}
use Rattle.yds_parts.specs.Parts.{slots_in_turn, AreOf}
use Rattle.yds_parts.specs.PlansOfParts.{PlansOfParts}
use Rattle.yds_parts.proofs.TwoParts.{All-made}
use Rattle.yds_parts.proofs.WrittenParts.{least_in_parts}

-- slots that are feasible are slots of the jobs
pub feasible_are_of : (jobs : List Job) (slots : List WrittenSlot) → IsFeasible jobs slots → AreOf jobs slots
feasible_are_of jobs slots is =
    let scale = scale_exists slots is.solid in
    let known = All-made (λ slot. slot.job + 1 ≤ length jobs) (slot_at_scale scale.0) slots
    (λ k d within. omega (arith, ((is.holds scale.0 scale.1).in_windows k d within).known)) in
    λ k d within. known k d within

-- the law: plans are least together, and cost least
pub plans_of_parts : PlansOfParts
plans_of_parts time first second slots others levels later_levels parted plan later =
    let least : IsLeast (first ++ second) (slots_in_turn first slots others) =
    (least_in_parts time first second slots others parted (feasible_are_of first slots plan.proper.feasible)).1
    ((plans_are_least first slots levels plan).0, (plans_are_least second others later_levels later).0) in
    (least, least_is_cheapest_among_written (first ++ second) (slots_in_turn first slots others) least)
