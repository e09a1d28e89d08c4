use Rattle.yds_trace.proofs.lines.Lines.lose.Goals as goal

pub returns : goal.returns
returns c = λ asked past is to. record {
  times = c.lose.ensures.stands asked.start past c.args.processor c.args.since is.times;
  lost = c.are_lost-self.ensures asked past is to;
  as_many = is.as_many;
  came = c.lose.ensures.came;
  tallied = record { losses = is.tallied.losses; missing = is.tallied.missing; markers = is.tallied.markers; pause = is.tallied.pause };
  seen = is.seen;
}
