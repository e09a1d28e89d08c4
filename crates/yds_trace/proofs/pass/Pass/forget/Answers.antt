use Rattle.base.proofs.Common.{◌∙◌, sym, ap, arith}
use Rattle.yds_trace.specs.Asked.{Asked}
use Rattle.yds_trace.specs.Past.{up_to}
use Rattle.yds_trace.proofs.Forgetting.{followed_forgets}
use Rattle.yds_trace.proofs.pass.Pass.forget.Goals as goal

pub returns-clause-stands : goal.returns-clause-stands
returns-clause-stands c = λ asked past before at later. record {
  same_asked = at.same_asked;
  lines = at.lines;
  counted = record {
    times = at.counted.times;
    came = at.counted.came;
    as_many = c.forget_each.ensures.many ∙ at.counted.as_many;
    tasks = λ number default within.
        followed_forgets asked (up_to asked.to past) c.args.self.now.counted.boundary c.args.boundary number _ _ (omega (arith, at.within, later))
        (at.counted.tasks number default within) (c.forget_each.ensures.each number default (omega (arith, at.counted.as_many)));
    others = c.forget_others.ensures asked (up_to asked.to past) c.args.self.now.counted.boundary (ap (λ (read : Asked). read.others) (sym at.same_asked)) at.counted.others
        (omega (arith, at.within, later));
    touched = at.counted.touched;
    few = at.counted.few;
  };
  within = omega arith;
}
