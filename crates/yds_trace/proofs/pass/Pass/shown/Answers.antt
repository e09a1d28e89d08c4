use Rattle.base.proofs.Common.{◌∙◌, ◌<◌, filter, length, sym, ap, arith}
use Rattle.yds_trace.specs.Asked.{Asked}
use Rattle.yds_trace.specs.Past.{up_to}
use Rattle.yds_trace.specs.Others.{goes_behind}
use Rattle.yds_trace.specs.Following.{spans_at}
use Rattle.yds_trace.proofs.Showing.{task_shown, some_item}
use Rattle.yds_trace.proofs.Spans.{others_shown}
use Rattle.yds_trace.proofs.pass.Pass.shown.Goals as goal

pub returns : goal.returns
returns c = λ asked past boundary at. record {
  as_many = omega (
    arith,
    c.in_ok-tasks.ensures.many,
    c.in_ok-tasks.tasks.ok.0,
    ap length c.deref.ensures.value,
    at.counted.as_many,
    c.args.self.now.counted.tasks.ok.0,
  );
  tasks = λ number default within.
      let inside : number < length c.args.self.now.counted.tasks.items = omega (arith, at.counted.as_many, c.args.self.now.counted.tasks.ok.0) in
      some_item c.args.self.now.counted.tasks.items number inside
      (λ kept. task_shown asked past c.args.self.now.counted.boundary boundary number c.last_asked-until.result _ _ at.within (at.counted.tasks number kept within)
      (c.last_asked-until.ensures asked past (ap (λ (read : Asked). read.to) (sym at.same_asked)) at.lines.times.last)
      (rw c.deref.ensures.value at (c.in_ok-tasks.ensures.each asked.start (up_to asked.to past) at.counted.times number default kept
      (omega (arith, ap length c.deref.ensures.value, inside)))));
  others = ap (filter (goes_behind boundary))
      (c.in_ok-others.ensures ∙ ap (λ (known : Asked). spans_at known.others c.last_asked-until.result c.args.self.now.counted.others) at.same_asked)
      ∙ others_shown asked past c.args.self.now.counted.boundary boundary c.last_asked-until.result c.args.self.now.counted.others at.within
      (c.last_asked-until.ensures asked past (ap (λ (read : Asked). read.to) (sym at.same_asked)) at.lines.times.last) at.counted.others;
  first = c.unwrap_or.ensures ∙ sym (at.lines.times.first 0);
  last = sym at.lines.times.last;
  tally = c.tally.ensures asked past at.same_asked at.lines;
}
