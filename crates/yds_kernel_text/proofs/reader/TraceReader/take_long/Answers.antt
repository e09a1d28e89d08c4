use Rattle.base.proofs.Common.{ℕ, ◌+◌, length, refl, sym, ap, ◌∙◌}
use Rattle.yds_kernel_text.proofs.Given.{counts_same, counts_kept, counts_taken, counts_on}
use Rattle.yds_kernel_text.proofs.Passing.{passing_begins, passing_fits, passing_more, passing_ends, passing_stops}
use Rattle.yds_kernel_text.proofs.reader.TraceReader.take_long.Goals as goal

pub loop-self-init : goal.loop-self-init
loop-self-init g c = record {
  passing = passing_begins c.args.self.now c.take_front.new.self (g.S.Source.left c.args.source.now) c.requires.long c.requires.no_feed c.take_front.ensures;
  counts = counts_same (g.S.Source.left c.args.source.now) c.args.self.now.taken c.take_front.new.self.taken c.take_front.ensures.taken;
  no_fault = refl;
}

pub read_on-requires-clause-room : goal.read_on-requires-clause-room
read_on-requires-clause-room g c =
    passing_fits c.args.self.now c.loop-self.self (g.S.Source.left c.args.source.now) (g.S.Source.left c.loop-self.source) c.loop-self.invariant.passing

pub returns-in-Some-clause-advances : goal.returns-in-Some-clause-advances
returns-in-Some-clause-advances g c = record {
  next = c.skip.ensures.kept.number ∙ c.in-Bytes.ensures.kept.number ∙ c.loop-self.invariant.passing.number;
  says =
      passing_ends c.in-Bytes.field-0 c.in-Some.len c.args.self.now c.loop-self.self c.read_on.new.self c.skip.new.self
      (g.S.Source.left c.args.source.now) (g.S.Source.left c.loop-self.source) (g.S.Source.left c.read_on.new.source)
      (g.S.Source.faults c.loop-self.source) (g.S.Source.faults c.read_on.new.source)
      c.loop-self.invariant.passing c.in-Bytes.ensures c.in-Some.ensures.0.high c.in-Some.ensures.0.before c.in-Some.ensures.1 c.skip.ensures;
  no_fault = c.in-Bytes.ensures.no_fault ∙ c.loop-self.invariant.no_fault;
}

pub returns-in-Some-clause-counts : goal.returns-in-Some-clause-counts
returns-in-Some-clause-counts g c =
    counts_on (g.S.Source.left c.args.source.now) (g.S.Source.left c.loop-self.source) (g.S.Source.left c.read_on.new.source)
    c.args.self.now.taken c.loop-self.self.taken c.skip.new.self.taken c.loop-self.invariant.counts
    (counts_taken (g.S.Source.left c.loop-self.source) (g.S.Source.left c.read_on.new.source) c.read_on.new.self.left c.loop-self.self.taken c.skip.new.self.taken c.in-Bytes.ensures.consumed
    (c.skip.ensures.taken ∙ c.in-Bytes.ensures.taken ∙ ap (λ (n : ℕ). c.loop-self.self.taken + n) (sym c.in-Bytes.ensures.grown)))

pub loop-self-preserved : goal.loop-self-preserved
loop-self-preserved g c = record {
  passing =
      passing_more c.in-Bytes.field-0 c.args.self.now c.loop-self.self c.read_on.new.self
      (g.S.Source.left c.args.source.now) (g.S.Source.left c.loop-self.source) (g.S.Source.left c.read_on.new.source)
      (g.S.Source.faults c.loop-self.source) (g.S.Source.faults c.read_on.new.source)
      c.loop-self.invariant.passing c.in-Bytes.ensures c.in_default.ensures;
  counts =
      counts_on (g.S.Source.left c.args.source.now) (g.S.Source.left c.loop-self.source) (g.S.Source.left c.read_on.new.source)
      c.args.self.now.taken c.loop-self.self.taken c.read_on.new.self.taken c.loop-self.invariant.counts
      (counts_taken (g.S.Source.left c.loop-self.source) (g.S.Source.left c.read_on.new.source) c.read_on.new.self.left c.loop-self.self.taken c.read_on.new.self.taken c.in-Bytes.ensures.consumed
      (c.in-Bytes.ensures.taken ∙ ap (λ (n : ℕ). c.loop-self.self.taken + n) (sym c.in-Bytes.ensures.grown)));
  no_fault = c.in-Bytes.ensures.no_fault ∙ c.loop-self.invariant.no_fault;
}

pub returns-in-End-clause-advances : goal.returns-in-End-clause-advances
returns-in-End-clause-advances g c = record {
  next = c.in-End.ensures.0.kept.number ∙ c.loop-self.invariant.passing.number;
  says =
      passing_stops c.args.self.now c.loop-self.self c.read_on.new.self
      (g.S.Source.left c.args.source.now) (g.S.Source.left c.loop-self.source) (g.S.Source.left c.read_on.new.source)
      c.loop-self.invariant.passing c.in-End.ensures.0 c.in-End.ensures.1;
  no_fault = c.in-End.ensures.2 ∙ c.loop-self.invariant.no_fault;
}

pub returns-in-End-clause-counts : goal.returns-in-End-clause-counts
returns-in-End-clause-counts g c =
    counts_on (g.S.Source.left c.args.source.now) (g.S.Source.left c.loop-self.source) (g.S.Source.left c.read_on.new.source)
    c.args.self.now.taken c.loop-self.self.taken c.read_on.new.self.taken c.loop-self.invariant.counts
    (counts_kept (g.S.Source.left c.loop-self.source) (g.S.Source.left c.read_on.new.source) c.loop-self.self.taken c.read_on.new.self.taken c.in-End.ensures.0.same c.in-End.ensures.0.taken)

pub returns-in-Failed-clause-counts : goal.returns-in-Failed-clause-counts
returns-in-Failed-clause-counts g c =
    counts_on (g.S.Source.left c.args.source.now) (g.S.Source.left c.loop-self.source) (g.S.Source.left c.read_on.new.source)
    c.args.self.now.taken c.loop-self.self.taken c.read_on.new.self.taken c.loop-self.invariant.counts
    (counts_kept (g.S.Source.left c.loop-self.source) (g.S.Source.left c.read_on.new.source) c.loop-self.self.taken c.read_on.new.self.taken c.in-Failed.ensures.0.same c.in-Failed.ensures.0.taken)
