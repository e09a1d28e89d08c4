use Rattle.yds_model.proofs.Common.{ℕ, List, ◌∙◌, sym, ap, refl, length, arith}
use Rattle.yds_textbook.specs.declared.stage.Stage.{Stage}
use Rattle.yds_textbook.specs.Together.{stands_among}
use Rattle.yds_textbook.proofs.Members.{fails_more, passes_here, none_passes}
use Rattle.yds_textbook.proofs.together.stage_of_job.Goals as goal

pub loop-place-preserved : goal.loop-place-preserved
loop-place-preserved c =
    fails_more (λ (stage : Stage). stands_among stage.members.items c.args.job) c.args.stages.now c.loop-place.place c.index-stages-place.result c.loop-place-test.true
    c.index-stages-place.is
    (sym (c.contains.ensures.value ∙ ap (λ (numbers : List ℕ). stands_among numbers c.args.job) c.deref.ensures.value) ∙ c.if-contains.false)
    c.loop-place.invariant

pub returns-then-contains : goal.returns-then-contains
returns-then-contains c =
    passes_here (λ (stage : Stage). stands_among stage.members.items c.args.job) c.args.stages.now c.loop-place.place c.index-stages-place.result c.loop-place-test.true
    c.index-stages-place.is
    (sym (c.contains.ensures.value ∙ ap (λ (numbers : List ℕ). stands_among numbers c.args.job) c.deref.ensures.value) ∙ c.if-contains.true)
    c.loop-place.invariant

pub returns : goal.returns
returns c =
    none_passes (λ (stage : Stage). stands_among stage.members.items c.args.job) c.args.stages.now (length c.args.stages.now) refl
    (λ k d below. c.loop-place.invariant k d (omega (arith, below, c.loop-place-test.false)))
