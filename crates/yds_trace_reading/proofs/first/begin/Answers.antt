use Rattle.base.proofs.Common.{[], sym, ◌∙◌}
use Rattle.yds_trace_reading.proofs.Beginning.{begins_uncounted, begins_none, begins_with, not_begins_with, given_with}
use Rattle.yds_trace_reading.proofs.first.begin.Goals as goal

pub returns-then-not-count_from_first-clause-given : goal.returns-then-not-count_from_first-clause-given
returns-then-not-count_from_first-clause-given g c = c.in_default.ensures.reads.given []

pub returns-then-not-count_from_first-clause-begun : goal.returns-then-not-count_from_first-clause-begun
returns-then-not-count_from_first-clause-begun g c = λ input is_given stands.
    begins_uncounted c.args.bounds input _ _ _ _ _ _ is_given stands c.in_default.ensures.reads (sym c.count_from_first.ensures ∙ c.if-not-count_from_first.true)

pub returns-in-Some-clause-given : goal.returns-in-Some-clause-given
returns-in-Some-clause-given g c = λ is_given. given_with c.read_on.new.self c.counted_from.result (c.in_default.ensures.reads.given [] is_given)

pub returns-in-Some-clause-begun : goal.returns-in-Some-clause-begun
returns-in-Some-clause-begun g c = λ input is_given stands.
    begins_with c.args.bounds input _ _ _ _ _ _ _ c.counted_from.result is_given stands c.in_default.ensures.reads (sym c.count_from_first.ensures ∙ c.if-not-count_from_first.false) c.in-Some.ensures c.counted_from.ensures.time

pub returns-in-Some-clause-not_begun : goal.returns-in-Some-clause-not_begun
returns-in-Some-clause-not_begun g c =
    not_begins_with c.args.bounds _ _ _ _ _ _ _ c.counted_from.result c.in_default.ensures.reads (sym c.count_from_first.ensures ∙ c.if-not-count_from_first.false) c.in-Some.ensures c.counted_from.ensures.lost

pub returns-in-None-clause-given : goal.returns-in-None-clause-given
returns-in-None-clause-given g c = c.in_default.ensures.reads.given []

pub returns-in-None-clause-begun : goal.returns-in-None-clause-begun
returns-in-None-clause-begun g c = λ input is_given stands.
    begins_none c.args.bounds input _ _ _ _ _ _ is_given stands c.in_default.ensures.reads (sym c.count_from_first.ensures ∙ c.if-not-count_from_first.false) c.in-None.ensures
