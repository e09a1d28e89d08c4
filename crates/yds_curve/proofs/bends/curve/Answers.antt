use Rattle.yds_model.proofs.Common.{◌≡◌, ◌∙◌, ap, reverse, arith, sum_by_more, Level, break_at, breaks_of}
use Rattle.yds_curve.proofs.Fronts.{falls, break_here, one_gathered, breaks_made}
use Rattle.yds_curve.proofs.bends.curve.Goals as goal

pub loop-level-preserved : goal.loop-level-preserved
loop-level-preserved c =
    let level = c.level-item.result in
    let levels = c.levels-levels.result.now in
    let within = c.loop-level-test.true in
    let here : c.level.inside.work ≡ level.work = cc in
    let here_long : c.level.inside.length ≡ level.length = cc in
    record {
      work = omega (arith, here, c.loop-level.invariant.work, ap (λ (one : Level). one.work) c.level-item.is, sum_by_more (λ (one : Level). one.work) levels c.loop-level.level-index level within);
      length = omega (arith, here_long, c.loop-level.invariant.length, ap (λ (one : Level). one.length) c.level-item.is, sum_by_more (λ (one : Level). one.length) levels c.loop-level.level-index level within);
      work_fits = omega (arith, c.loop-level.invariant.work_fits, c.level.invariant.work_in_range);
      length_fits = omega (arith, c.loop-level.invariant.length_fits, c.level.invariant.length_in_range);
      breaks = c.in_ok-push.ensures.items
          ∙ one_gathered (λ (one : Level). break_at levels one.work one.length) levels c.loop-level.level-index level c.loop-level.breaks.items _ within c.level-item.is
          c.loop-level.invariant.breaks
          (c.break_at.ensures ∙ break_here levels c.loop-level.level-index level _ _ (falls c.args.certificate.now levels c.levels-levels.ensures.value c.levels-levels.ensures.kept c.requires.falling) within c.level-item.is c.loop-level.invariant.work c.loop-level.invariant.length);
    }

pub returns : goal.returns
returns c =
    c.reverse.ensures.items ∙ ap reverse c.in_ok-push-2.ensures.items
    ∙ breaks_made c.levels-levels.result.now c.loop-level.level-index c.loop-level.work c.loop-level.breaks.items c.break_at_zero.result
    (falls c.args.certificate.now c.levels-levels.result.now c.levels-levels.ensures.value c.levels-levels.ensures.kept c.requires.falling)
    c.loop-level-test.false c.loop-level.invariant.work c.loop-level.invariant.breaks c.break_at_zero.ensures
    ∙ ap breaks_of c.levels-levels.ensures.value
