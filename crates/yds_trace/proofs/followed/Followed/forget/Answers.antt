use Rattle.base.proofs.Common.{refl}
use Rattle.yds_trace.proofs.followed.Followed.forget.Goals as goal

pub returns : goal.returns
returns c = record {
  count = c.forgettable-count.result;
  earlier = c.forgettable-count.ensures.earlier;
  last = c.forgettable-count.ensures.last;
  jobs = c.drop_first.ensures;
  on = refl;
  woken = refl;
  pid = refl;
  forgotten = refl;
  before = c.before_by-self.ensures;
}
