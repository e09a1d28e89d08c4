use Rattle.yds_model.proofs.Common.{arith, refl, false≢true}
use Rattle.yds_checker.proofs.Units.{apart_in_none}
use Rattle.yds_checker.proofs.Apart.{some_level, next_not_apart}
use Rattle.yds_checker.proofs.placed.levels_apart.Goals as goal

pub returns-then-are_apart-clause-apart : goal.returns-then-are_apart-clause-apart
returns-then-are_apart-clause-apart c = c.if-are_apart.ensures.0 refl

pub loop-apart-init : goal.loop-apart-init
loop-apart-init c = (
  some_level c.args.placed.now c.args.levels (λ apart. false≢true (c.if-are_apart.ensures.1 apart)),
  omega arith,
  apart_in_none c.args.placed.now,
  λ apart. false≢true (c.if-are_apart.ensures.1 apart),
)

pub loop-apart-preserved-then-are_apart-2 : goal.loop-apart-preserved-then-are_apart-2
loop-apart-preserved-then-are_apart-2 c = (
  omega (arith, c.loop-apart.invariant.0),
  c.loop-apart.invariant.1,
  c.if-are_apart-2.ensures.0 refl,
  c.loop-apart.invariant.3,
)

pub returns-clause-greatest : goal.returns-clause-greatest
returns-clause-greatest c = λ less apart.
    next_not_apart c.args.placed.now c.loop-apart.apart c.loop-apart.not_apart (omega (arith, c.loop-apart.invariant.0, c.loop-apart-test.false)) c.loop-apart.invariant.3 apart
