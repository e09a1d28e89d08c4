use Rattle.yds_model.proofs.Common.{ℕ, ◌*◌, ◌≤◌, All, All-nil, All-append, ◌≡◌, ◌∙◌, length, arith, ap, subst, get_or_read, Piece}
use Rattle.base.specs.declared.limits.TheConstants.{MAX_WORK}
use Rattle.yds_edf.specs.Engine.{TiedQueue}
use Rattle.yds_events.specs.Stretch.{no_stretch}
use Rattle.yds_edf.proofs.Filled.{Filling, begun, filled_after, all_filled}
use Rattle.yds_edf.proofs.filling.fill.Goals as goal

pub loop-number-init : goal.loop-number-init
loop-number-init c =
    let kept = rw c.in_ok-engine.ensures.made at c.in_ok-engine.ensures.kept in
    record {
      are = kept.jobs;
      works = rw c.new-shares.ensures.items (All-nil (λ share. share.units ≤ MAX_WORK * c.args.grain));
      filling = rw (c.in_ok-engine.ensures.made, c.in_ok-ties.ensures.items, c.new-shares.ensures.items)
          (begun c.args.rows.now c.args.ties.now c.args.grain c.args.stretches.now c.args.capacities.now);
    }

pub loop-number-preserved : goal.loop-number-preserved
loop-number-preserved c = record {
  are = c.loop-number.invariant.are;
  works = rw c.in_ok-append.ensures.items (All-append (λ share. share.units ≤ MAX_WORK * c.args.grain)
      c.loop-number.shares.items c.serve.new.shares.items c.loop-number.invariant.works
      (subst (λ (grain : ℕ). All (λ share. share.units ≤ MAX_WORK * grain) c.serve.new.shares.items)
      (ap (λ (tied : TiedQueue). tied.queue.grain) c.arrive.ensures ∙ c.loop-number.invariant.filling.same_grain)
      c.in_ok-serve.ensures.works));
  filling = filled_after c.requires.in_order c.loop-number-test.true c.loop-number.invariant.filling c.stretch.inside.from
      (ap (λ (stretch : Piece). stretch.from) (c.stretch.view_is
      ∙ get_or_read c.args.stretches.now c.loop-number.number c.index-stretches-number.result c.loop-number-test.true
      c.index-stretches-number.is no_stretch))
      c.arrive.new.self c.arrive.ensures c.in_ok-serve.ensures.ok c.in_ok-append.ensures.items;
}

pub returns-clause-filled : goal.returns-clause-filled
returns-clause-filled c =
    let all : c.loop-number.number ≡ length c.args.stretches.now = omega arith in
    all_filled c.loop-number.invariant.are c.requires.in_order c.requires.uncut c.requires.demand
    (subst (λ n. Filling c.args.rows.now c.args.ties.now c.args.grain c.args.stretches.now c.args.capacities.now n
    c.loop-number.engine c.loop-number.shares.items) all c.loop-number.invariant.filling)
