use Rattle.yds_search.specs.Views.{found_view}
use Rattle.yds_plan.proofs.FoundPlan.{laid_plan}
use Rattle.yds_plan.proofs.planning.plan.Goals as goal

pub returns-clause-plan : goal.returns-clause-plan
returns-clause-plan c =
    laid_plan c.args.rows.now c.read_rows.ensures c.requires (found_view c.in_ok-found.found) (λ planned. planned.schedule) (λ planned. planned.certificate) c.lay_out.result
    c.in_ok-found.ensures c.lay_out.ensures.schedule c.lay_out.ensures.certificate
