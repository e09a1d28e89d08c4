use Rattle.base.proofs.Common.{◌≡◌, ◌∙◌, ◌∷◌, ◌<◌, ℕ, List, length, get_or, vec_len, refl, ap, arith}
use Rattle.yds_kernel.specs.Event.{Said, Stamped}
use Rattle.yds_kernel.specs.Views.{event_read}
use Rattle.yds_trace.specs.declared.followed.Followed.{Followed}
use Rattle.yds_trace.specs.Asked.{Asked}
use Rattle.yds_trace.specs.Following.{some_waits}
use Rattle.yds_trace.specs.Kept.{IsFollowed}
use Rattle.yds_trace.specs.Views.{start_read, asked_read}
use Rattle.yds_trace.proofs.Counting.{too_long, not_too_long, followed_more, waits_is}
use Rattle.yds_trace.specs.Past.{who_has}
use Rattle.yds_trace.proofs.Tallying.{came_more}
use Rattle.yds_trace.proofs.counted.Counted.take.Goals as goal

pub returns-then-touched-gt-MAX_TOUCHES-clause-refused : goal.returns-then-touched-gt-MAX_TOUCHES-clause-refused
returns-then-touched-gt-MAX_TOUCHES-clause-refused c = λ counting is.
    too_long (asked_read c.args.asked.now) (Stamped (event_read c.args.event.now) ∷ counting) c.touched_by-touched.result
    (λ in_parts. omega (arith, c.touched_by-touched.ensures.not_counted in_parts, is.few))
    (λ counted. c.touched_by-touched.ensures.counted counting (event_read c.args.event.now) is c.requires.first c.requires.second
    (c.step-step.ensures counting is c.requires.first c.requires.second) counted)
    c.if-touched-gt-MAX_TOUCHES.true

pub returns-clause-few : goal.returns-clause-few
returns-clause-few c = λ counting is.
    not_too_long (asked_read c.args.asked.now) (Stamped (event_read c.args.event.now) ∷ counting) c.touched_by-touched.result
    (λ counted. c.touched_by-touched.ensures.counted counting (event_read c.args.event.now) is c.requires.first c.requires.second
    (c.step-step.ensures counting is c.requires.first c.requires.second) counted)
    c.if-touched-gt-MAX_TOUCHES.false

pub returns-clause-stands : goal.returns-clause-stands
returns-clause-stands c = λ counting is.
    let asked : Asked = asked_read c.args.asked.now in
    let lines : List Said = Stamped (event_read c.args.event.now) ∷ counting in
    let many : vec_len c.take_each.new.tasks ≡ length asked.tasks = c.in_ok-take_each.ensures.many ∙ is.as_many in
    let each : (number : ℕ) (default : Followed) → number < length asked.tasks →
    IsFollowed asked lines c.args.self.now.boundary number (get_or c.take_each.new.tasks.items number default) =
    λ number default within.
    followed_more asked counting (event_read c.args.event.now) c.args.self.now.boundary number _ _ c.args.first c.args.second c.step-step.result
    c.requires.first c.requires.second (c.step-step.ensures counting is c.requires.first c.requires.second)
    (is.tasks number default within)
    (rw c.deref.ensures.value at (c.in_ok-take_each.ensures.each number default (omega (arith, is.as_many)))) in
    record {
      times = c.in_ok-take.ensures.stands (start_read c.args.asked.now.start) counting is.times;
      came = λ processor.
          c.in_ok-take.ensures.came processor
          ∙ came_more asked.tasks processor (event_read c.args.event.now) (event_read c.args.event.now).happening (who_has processor counting) _ _
          c.args.second (c.unlisted.ensures asked.tasks) c.requires.second (is.came processor);
      as_many = many;
      tasks = each;
      others = c.in_ok-take_others.ensures asked counting c.args.self.now.boundary refl is.others c.requires.second
          (ap some_waits c.deref-2.ensures.value
          ∙ waits_is asked lines c.args.self.now.boundary c.take_each.new.tasks.items (omega (arith, many, c.take_each.new.tasks.ok.0)) each);
      touched = λ counted. c.touched_by-touched.ensures.counted counting (event_read c.args.event.now) is c.requires.first c.requires.second
          (c.step-step.ensures counting is c.requires.first c.requires.second) counted;
      few = c.if-touched-gt-MAX_TOUCHES.false;
    }
