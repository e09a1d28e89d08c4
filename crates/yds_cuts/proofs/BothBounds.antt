-- Where no window is open at the cuts, the bound from below is attained: both bounds are the least energy.
use Rattle.yds_model.proofs.Common.{List, [], ◌∷◌, refl, arith, All, AllZip, Job, jobs_with, IsFeasibleAt}
use Rattle.yds_cuts.specs.Bounds.{IsShortened, AreShortenedGroups, BoundsMeet}
use Rattle.yds_cuts.proofs.Above.{windows_in_turn_run_in_turn, shortened_groups_cost}
use Rattle.yds_cuts.proofs.Below.{groups_cost_at_most_all}

-- a window lies in itself
each_in_itself : (jobs : List Job) → AllZip IsShortened jobs jobs
each_in_itself [] = tt
each_in_itself (job ∷ jobs) = (record { released = omega arith; due = omega arith; work = refl }, each_in_itself jobs)

-- the law
pub bounds_meet : BoundsMeet
bounds_meet jobs points scale groups table convex are have windows =
    let feasible : All (λ group. IsFeasibleAt (jobs_with jobs group.numbers) scale group.slots) groups = λ k d within. (are.least k d within).feasible in
    let both : AreShortenedGroups jobs jobs scale groups = record {
      shortened = each_in_itself jobs;
      apart = are.apart;
      all = have;
      feasible = feasible;
      in_turn = windows_in_turn_run_in_turn jobs scale groups windows feasible;
    } in
    let cost = shortened_groups_cost jobs jobs points scale groups both in
    (cost.0, cost.1, λ others served. groups_cost_at_most_all jobs points scale groups others table convex are have served)
