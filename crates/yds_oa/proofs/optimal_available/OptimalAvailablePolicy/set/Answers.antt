use Rattle.yds_model.proofs.Common.{◌-◌, subst, ap, arith, Piece}
use Rattle.yds_edf.specs.Queue.{pending_in}
use Rattle.yds_oa.specs.Greatest.{IsGreatest}
use Rattle.yds_oa.proofs.Chosen.{is_greatest}
use Rattle.yds_oa.proofs.Greatest.{units_told, rounds_told, units_few}
use Rattle.yds_oa.proofs.optimal_available.OptimalAvailablePolicy.set.Goals as goal

pub overflow_cast-result : goal.overflow_cast-result
overflow_cast-result c =
    let jobs = c.args.queue.now.jobs in
    let greatest = c.greatest_quotient-greatest in
    let is = is_greatest jobs c.in_order.result.now (pending_in c.args.queue.now) c.args.stretch c.stretch.inside.from greatest.result
    c.in_order.ensures.order c.in_order.ensures.fresh (ap (λ (piece : Piece). piece.from) c.stretch.view_is) greatest.ensures in
    let few = units_few jobs (pending_in c.args.queue.now) c.args._number greatest.result.units greatest.result.time c.from.result c.from-2.result c.from-time.result
    c.requires.known (subst (λ (stretch : Piece). IsGreatest jobs (pending_in c.args.queue.now) stretch greatest.result.units greatest.result.time) c.requires.nth is)
    (omega arith) (omega (arith, c.length.ensures.length, ap (λ (stretch : Piece). stretch.to - stretch.from) c.requires.nth)) (omega arith) in
    omega (arith, few)

pub returns-clause-units : goal.returns-clause-units
returns-clause-units c =
    let greatest = c.greatest_quotient-greatest in
    let is = is_greatest c.args.queue.now.jobs c.in_order.result.now (pending_in c.args.queue.now) c.args.stretch c.stretch.inside.from greatest.result
    c.in_order.ensures.order c.in_order.ensures.fresh (ap (λ (piece : Piece). piece.from) c.stretch.view_is) greatest.ensures in
    units_told c.args.queue.now.jobs (pending_in c.args.queue.now) c.args.stretch greatest.result.units greatest.result.time
    c.from.result c.from-2.result c.from-time.result is c.length.ensures.kept.has_length (omega arith) (omega arith) (omega arith)

pub returns-clause-rounds : goal.returns-clause-rounds
returns-clause-rounds c =
    let greatest = c.greatest_quotient-greatest in
    let is = is_greatest c.args.queue.now.jobs c.in_order.result.now (pending_in c.args.queue.now) c.args.stretch c.stretch.inside.from greatest.result
    c.in_order.ensures.order c.in_order.ensures.fresh (ap (λ (piece : Piece). piece.from) c.stretch.view_is) greatest.ensures in
    rounds_told c.args.queue.now.jobs (pending_in c.args.queue.now) c.args.stretch greatest.result.units greatest.result.time
    c.from.result c.from-2.result c.from-time.result is c.length.ensures.kept.has_length (omega arith) (omega arith) (omega arith)
