use Rattle.yds_model.proofs.Common.{ap, sym, ◌∙◌, Point}
use Rattle.yds_round.proofs.Paces.{one_point}
use Rattle.yds_round.proofs.level_pace.pace_of.Goals as goal

pub returns-then-low-high : goal.returns-then-low-high
returns-then-low-high c =
    one_point c.args.table.now c.args.level.now c.speed.result c.in-Some.low.now c.in-Some.high.now c.in-Some.ensures.around c.speed.ensures
    (ap (λ (p : Point). p.speed) (sym c.low.view_is) ∙ c.if-low-high.true ∙ ap (λ (p : Point). p.speed) c.high.view_is)
