use Rattle.yds_model.proofs.Common.{◌≤◌, ◌<◌, ◌*◌, refl, arith}
use Rattle.yds_round.specs.Written.{turn}
use Rattle.yds_round.proofs.Turns.{fast_within, slow_within, surplus_done}
use Rattle.yds_round.proofs.Reaching.{time_kept, reached_before, reached_after}
use Rattle.yds_round.proofs.cut.Cut.reach.Goals as goal

pub moment-requires-clause-within : goal.moment-requires-clause-within
moment-requires-clause-within c =
    let below : c.args.units * c.args.self.now.split.gap ≤ turn c.args.self.now.split c.args.self.now.stretch =
    omega (arith, c.if-parts-turn.true, c.parts.ensures.value, c.turn.ensures.value) in
    rw (c.from.ensures, c.from-then-parts-turn.ensures) (fast_within c.args.self.now.split c.args.self.now.stretch c.requires.cut.kept c.args.units below)

pub returns-then-parts-turn-clause-reached : goal.returns-then-parts-turn-clause-reached
returns-then-parts-turn-clause-reached c =
    let below : c.args.units * c.args.self.now.split.gap ≤ turn c.args.self.now.split c.args.self.now.stretch =
    omega (arith, c.if-parts-turn.true, c.parts.ensures.value, c.turn.ensures.value) in
    reached_before c.args.self.now c.args.units _ c.moment.result c.requires.cut c.requires.within below
    (rw (c.from.ensures, c.from-then-parts-turn.ensures) refl) c.moment.ensures.value
    (time_kept c.moment.result c.moment.ensures.kept c.moment.ensures.in_range)

pub overflow_sub-units : goal.overflow_sub-units
overflow_sub-units c =
    let above : turn c.args.self.now.split c.args.self.now.stretch < c.args.units * c.args.self.now.split.gap =
    omega (arith, c.if-parts-turn.false, c.parts.ensures.value, c.turn.ensures.value) in
    omega (arith, c.requires.cut.is_surplus, surplus_done c.args.self.now.split c.args.self.now.stretch c.requires.cut.kept c.args.units c.requires.within above)

pub moment-requires-2-clause-within : goal.moment-requires-2-clause-within
moment-requires-2-clause-within c =
    rw (c.from-2.ensures, c.from-3.ensures, c.requires.cut.is_surplus)
    (slow_within c.args.self.now.split c.args.self.now.stretch c.requires.cut.kept c.args.units c.requires.within)

pub returns-clause-reached : goal.returns-clause-reached
returns-clause-reached c =
    let above : turn c.args.self.now.split c.args.self.now.stretch < c.args.units * c.args.self.now.split.gap =
    omega (arith, c.if-parts-turn.false, c.parts.ensures.value, c.turn.ensures.value) in
    reached_after c.args.self.now c.args.units _ c.moment-2.result c.requires.cut c.requires.within above
    (rw (c.from-2.ensures, c.from-3.ensures) refl) c.moment-2.ensures.value
    (time_kept c.moment-2.result c.moment-2.ensures.kept c.moment-2.ensures.in_range)
