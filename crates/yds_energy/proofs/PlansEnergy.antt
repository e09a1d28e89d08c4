-- The energy of written schedules that are least, and so of plans: at most that of every feasible schedule.
use Rattle.yds_model.proofs.Common.{List, ◌++◌, arith, All-append, IsSolid, slots_at, Point, IsTable, IsHullOf}
use Rattle.model_lemmas.proofs.Scale.{scale_exists}
use Rattle.yds_energy.specs.EnergyLaws.{LeastIsCheapestAmongWritten, FeasibleHaveACommonScale, PlansCostLeast, PlansCostLeastOnPoints}
use Rattle.yds_laws.proofs.Bound.{scale_left, scale_right}
use Rattle.yds_laws.proofs.Plans.{plans_are_least}
use Rattle.yds_energy.proofs.Differences.{at_most_in_turn}
use Rattle.yds_energy.proofs.Energy.{least_is_cheapest}
use Rattle.yds_energy.proofs.HullEnergy.{hull_first, hull_rising, points_cost_at_least_the_hull}

-- the law: at a scale of both, a least schedule costs at most what each feasible one does
pub least_is_cheapest_among_written : LeastIsCheapestAmongWritten
least_is_cheapest_among_written jobs slots least = record {
  feasible = record { solid = least.solid; holds = λ scale is. (least.holds scale is).feasible };
  at_most = λ points others scale table convex feasible is.
      least_is_cheapest jobs points scale (slots_at scale slots) (slots_at scale others) table convex (least.holds scale (scale_left scale slots others is))
      (feasible.holds scale (scale_right scale slots others is));
}

-- the law: there is such a scale, since both have denominators of at least 1
pub feasible_have_a_common_scale : FeasibleHaveACommonScale
feasible_have_a_common_scale jobs slots others feasible also = scale_exists (slots ++ others) (All-append IsSolid slots others feasible.solid also.solid)

-- the law: a plan costs at most what each feasible schedule does, by a convex table
pub plans_cost_least : PlansCostLeast
plans_cost_least jobs slots levels points scale others plan table convex is feasible =
    least_is_cheapest jobs points scale (slots_at scale slots) others table convex ((plans_are_least jobs slots levels plan).0.holds scale is) feasible

-- with a first point, idle, and rising
pub hull_table : (points hull : List Point) → IsTable points → IsHullOf points hull → IsTable hull
hull_table points hull table is_hull = grind (arith, hull_first, hull_rising)

-- by the hull the plan costs at most what the other schedule does, and that spends at least as much on the points
pub plans_cost_least_on_points : PlansCostLeastOnPoints
plans_cost_least_on_points jobs slots levels points hull scale energy others plan table is_hull is feasible spends =
    at_most_in_turn _ _ _
    (plans_cost_least jobs slots levels hull scale others plan (hull_table points hull table is_hull) is_hull.convex is feasible)
    (points_cost_at_least_the_hull jobs points hull scale energy others table.rising is_hull spends)
