use Rattle.yds_model.proofs.Common.{List, length, ap, arith}
use Rattle.yds_search.specs.Found.{IsFound}
use Rattle.yds_search.specs.Views.{found_view}
use Rattle.yds_plan.proofs.FoundPlan.{laid_plan}
use Rattle.yds_textbook.specs.declared.stage.Stage.{Stage}
use Rattle.yds_textbook.proofs.Theorem.{found_of_stages, laid_of_stages, stages_are_few}
use Rattle.yds_textbook.proofs.planning.textbook.Goals as goal

pub found_of-requires-clause-few_stages : goal.found_of-requires-clause-few_stages
found_of-requires-clause-few_stages c =
    let are = c.in_ok-stages.ensures in
    omega (
      arith,
      ap (λ (stages : List Stage). length stages) c.deref-3.ensures.value,
      stages_are_few c.args.rows.now are.0 c.in_ok-stages.stages.items c.read_rows.ensures c.requires are.1 are.2,
    )

pub lay_out-requires-clause-found : goal.lay_out-requires-clause-found
lay_out-requires-clause-found c =
    found_of_stages c.args.rows.now c.in_ok-stages.stages.items c.deref-3.result.now (found_view c.in_ok-found.found) c.read_rows.ensures c.requires c.in_ok-stages.ensures
    c.deref-3.ensures.value c.in_ok-found.ensures

pub returns-clause-plan : goal.returns-clause-plan
returns-clause-plan c =
    let found : IsFound c.args.rows.now (found_view c.in_ok-found.found) =
    found_of_stages c.args.rows.now c.in_ok-stages.stages.items c.deref-3.result.now (found_view c.in_ok-found.found) c.read_rows.ensures c.requires c.in_ok-stages.ensures
    c.deref-3.ensures.value c.in_ok-found.ensures in
    laid_plan c.args.rows.now c.read_rows.ensures c.requires (found_view c.in_ok-found.found) (λ planned. planned.schedule) (λ planned. planned.certificate) c.lay_out.result
    found c.lay_out.ensures.schedule c.lay_out.ensures.certificate

pub returns-clause-stages : goal.returns-clause-stages
returns-clause-stages c =
    laid_of_stages c.args.rows.now c.in_ok-stages.stages.items c.deref-3.result.now (found_view c.in_ok-found.found) (λ planned. planned.schedule) (λ planned. planned.certificate)
    c.lay_out.result c.in_ok-stages.ensures c.deref-3.ensures.value c.in_ok-found.ensures c.lay_out.ensures.schedule c.lay_out.ensures.certificate
