use Rattle.base.proofs.Common.{◌∙◌, arith}
use Rattle.yds_trace.proofs.Counting.{followed_lost}
use Rattle.yds_trace.proofs.counted.Counted.lose.Goals as goal

pub returns-clause-stands : goal.returns-clause-stands
returns-clause-stands c = λ asked counting wanted is. record {
  times = c.lose.ensures.stands asked.start counting c.args.processor c.args.since is.times;
  came = c.lose.ensures.came;
  as_many = c.lose_each.ensures.many ∙ is.as_many;
  tasks = λ number default within.
      followed_lost asked counting c.args.processor c.args.since c.args.self.now.boundary number c.lost_since-time.result _ _
      (c.lost_since-time.ensures asked.start counting is.times) (is.tasks number default within)
      (c.lose_each.ensures.each number default (omega (arith, is.as_many)));
  others = c.in_ok-lose_others.ensures asked counting c.args.self.now.boundary c.args.processor c.args.since wanted is.others is.times.last;
  touched = is.touched;
  few = is.few;
}
