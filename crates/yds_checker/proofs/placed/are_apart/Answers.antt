use Rattle.yds_model.proofs.Common.{◌≡◌, take, take_all, refl, false≢true}
use Rattle.yds_checker.proofs.Apart.{walk_begins, walked_by, walked_on, overlapping}
use Rattle.yds_checker.specs.Heights.{no_placed}
use Rattle.yds_checker.proofs.placed.are_apart.Goals as goal
use Rattle.yds_checker.proofs.placed.are_apart.Goals.{then-piece-levels+else-piece-end, else-piece-levels}

pub loop-piece-init : goal.loop-piece-init
loop-piece-init c = walk_begins c.args.placed.now c.args.levels

pub loop-piece-preserved : goal.loop-piece-preserved
loop-piece-preserved c = elim c.if-piece-levels.branch [
  | then-piece-levels+else-piece-end w ↦
      rw w.end-is
      (walked_on c.args.placed.now c.args.levels c.loop-piece.end c.loop-piece.piece-index c.loop-piece-test.true w.if-piece-levels.true w.if-piece-end.false
      (c.requires.each c.loop-piece.piece-index no_placed c.loop-piece-test.true) c.loop-piece.invariant)
  | else-piece-levels w ↦
      rw w.end-is
      (walked_by c.args.placed.now c.args.levels c.loop-piece.end c.loop-piece.piece-index c.loop-piece-test.true w.if-piece-levels.false c.loop-piece.invariant)
]

pub returns-then-piece-end : goal.returns-then-piece-end
returns-then-piece-end c = (
  λ no. absurd (false≢true no),
  λ apart. absurd (overlapping c.args.placed.now c.args.levels c.loop-piece.end c.loop-piece.piece-index c.requires.rising c.requires.each
      c.loop-piece-test.true c.if-piece-levels.true c.if-piece-end.true c.loop-piece.invariant apart),
)

pub returns : goal.returns
returns c =
    let all : take c.loop-piece.piece-index c.args.placed.now ≡ c.args.placed.now = take_all c.loop-piece.piece-index c.args.placed.now c.loop-piece-test.false in
    (λ so. rw all at c.loop-piece.invariant.apart, λ apart. refl)
