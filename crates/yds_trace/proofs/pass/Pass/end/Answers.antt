use Rattle.base.proofs.Common.{◌≡◌, ◌∙◌, ℕ, sym, ap, subst, map, get_or, arith}
use Rattle.yds_trace.specs.Asked.{Asked}
use Rattle.yds_trace.specs.Past.{up_to}
use Rattle.yds_trace.specs.Document.{share_of}
use Rattle.yds_trace.specs.Ended.{in_order_of_begin}
use Rattle.yds_trace.specs.Following.{spans_at}
use Rattle.yds_trace.specs.Kept.{IsFollowed}
use Rattle.yds_trace.proofs.Ending.{jobs_are}
use Rattle.yds_trace.proofs.Spans.{others_ended}
use Rattle.yds_trace.proofs.pass.Pass.end.Goals as goal

pub returns-clause-ended : goal.returns-clause-ended
returns-clause-ended c = λ asked past at. record {
  same_asked = at.same_asked;
  jobs = c.share_all.ensures
      ∙ ap (λ (known : Asked). map (map (share_of known)) (map in_order_of_begin c.in_ok-jobs.jobs.items)) at.same_asked
      ∙ jobs_are asked past 0 c.last_asked-until.result asked.tasks c.args.self.counted.tasks.items c.in_ok-jobs.jobs.items
      (c.last_asked-until.ensures asked past (ap (λ (read : Asked). read.to) (sym at.same_asked)) at.lines.times.last)
      (omega (arith, at.counted.as_many, c.args.self.counted.tasks.ok.0))
      (λ k n d within is.
      let same : k ≡ n = omega arith in
      let none : c.args.self.counted.boundary ≡ 0 = omega (arith, at.within) in
      let kept = c.args.self.counted.tasks.items in
      let P : ℕ → Type 0 = λ m. IsFollowed asked (up_to asked.to past) c.args.self.counted.boundary m (get_or kept k d) in
      let Q : ℕ → Type 0 = λ boundary. IsFollowed asked (up_to asked.to past) boundary n (get_or kept k d) in
      subst Q none (subst P same (at.counted.tasks k d within)))
      (c.in_ok-jobs.ensures asked.start (up_to asked.to past) at.counted.times);
  others = c.in_ok-others.ensures
      ∙ ap (λ (known : Asked). spans_at known.others c.last_asked-until.result c.args.self.counted.others) at.same_asked
      ∙ others_ended asked past c.args.self.counted.boundary c.last_asked-until.result c.args.self.counted.others at.within
      (c.last_asked-until.ensures asked past (ap (λ (read : Asked). read.to) (sym at.same_asked)) at.lines.times.last) at.counted.others;
  first = c.unwrap_or.ensures ∙ sym (at.lines.times.first 0);
  last = sym at.lines.times.last;
  tally = c.tally-tally.ensures asked past at.same_asked at.lines;
}
