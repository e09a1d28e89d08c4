use Rattle.yds_model.proofs.Common.{◌≡◌, ◌∙◌, ap, sym, take, get_or_read, Level, no_level, level_at, all_members}
use Rattle.yds_checker.proofs.Homes.{homes_level}
use Rattle.yds_checker.proofs.home.settle_all.Goals as goal

pub loop-i-preserved : goal.loop-i-preserved
loop-i-preserved c = λ none.
    let levels = c.args.levels.now in
    let here : c.index-levels-i.result ≡ level_at levels c.loop-i.i = get_or_read levels c.loop-i.i c.index-levels-i.result c.loop-i-test.true c.index-levels-i.is no_level in
    let same : (level_at levels c.loop-i.i).members ≡ c.deref.result.now =
    ap (λ (one : Level). one.members) (sym here) ∙ ap (λ (one : Level). one.members) (sym c.level.view_is) ∙ sym c.deref.ensures.value in
    homes_level levels c.loop-i.i c.settle.new.homes c.loop-i-test.true
    (rw same (c.settle.ensures levels (all_members (take c.loop-i.i levels)) c.loop-i-test.true same (c.loop-i.invariant none)))
