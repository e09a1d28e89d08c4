use Rattle.yds_model.proofs.Common.{◌++◌, ◌∷◌, [], List, take, sym, ap, subst, ◌∙◌, AllZip, take_more, take_all, Level}
use Rattle.yds_round.specs.LevelPace.{RunsAs}
use Rattle.yds_timetable.proofs.Lists.{all_zip_push}
use Rattle.yds_round.proofs.rounding.paces_of.Goals as goal

pub loop-level-init : goal.loop-level-init
loop-level-init c = rw (c.in_ok-paces.ensures.items) tt

pub loop-level-preserved : goal.loop-level-preserved
loop-level-preserved c =
    let taken = take_more c.args.levels.now c.loop-level.level-index c.level-item.result c.loop-level-test.true
    ∙ ap (λ (level : Level). take c.loop-level.level-index c.args.levels.now ++ level ∷ []) (sym c.level-item.is) in
    rw (taken, c.in_ok-push.ensures.items)
    (all_zip_push (RunsAs c.args.table.now) (take c.loop-level.level-index c.args.levels.now) c.loop-level.paces.items c.level-item.result c.pace_of.result c.loop-level.invariant c.pace_of.ensures)

pub returns : goal.returns
returns c =
    subst (λ (levels : List Level). AllZip (RunsAs c.args.table.now) levels c.loop-level.paces.items)
    (take_all c.loop-level.level-index c.args.levels.now c.loop-level-test.false) c.loop-level.invariant
