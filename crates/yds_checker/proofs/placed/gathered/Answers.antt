use Rattle.yds_model.proofs.Common.{◌≡◌, ◌∙◌, length, min, ap, refl, arith, get_or_read, All-nil, Level, no_level, level_at}
use Rattle.yds_checker.specs.Placed.{IsPlacedPiece}
use Rattle.yds_checker.proofs.Placing.{next_gathered}
use Rattle.yds_checker.proofs.placed.gathered.Goals as goal

pub place-requires : goal.place-requires
place-requires c =
    let levels = c.args.levels.now in
    let i = c.loop-i.i in
    let here : c.index-levels-i.result ≡ level_at levels i = get_or_read levels i c.index-levels-i.result c.loop-i-test.true c.index-levels-i.is no_level in
    let same : c.deref.result.now ≡ (level_at levels i).pieces =
    c.deref.ensures.value ∙ (ap (λ (one : Level). one.pieces) c.level.view_is ∙ ap (λ (one : Level). one.pieces) here) in
    rw same (c.requires.forward i no_level c.loop-i-test.true)

pub loop-i-init : goal.loop-i-init
loop-i-init c = rw c.new-placed.ensures.items (record {
  each = All-nil (IsPlacedPiece (length c.args.levels.now));
  same = λ n time within.
      let none : min n 0 ≡ 0 = omega arith in
      rw none refl;
})

pub loop-i-preserved : goal.loop-i-preserved
loop-i-preserved c =
    let levels = c.args.levels.now in
    let i = c.loop-i.i in
    let here : c.index-levels-i.result ≡ level_at levels i = get_or_read levels i c.index-levels-i.result c.loop-i-test.true c.index-levels-i.is no_level in
    let same : c.deref.result.now ≡ (level_at levels i).pieces =
    c.deref.ensures.value ∙ (ap (λ (one : Level). one.pieces) c.level.view_is ∙ ap (λ (one : Level). one.pieces) here) in
    next_gathered levels i c.loop-i.placed.items c.place.new.placed.items c.loop-i-test.true c.loop-i.invariant (rw same at c.in_ok-place.ensures)

pub returns : goal.returns
returns c = record {
  each = c.loop-i.invariant.each;
  same = λ n time within.
      let same : min n c.loop-i.i ≡ n = omega (arith, within, c.loop-i-test.false) in
      rw same at (c.loop-i.invariant.same n time within);
}
