use Rattle.yds_model.proofs.Common.{refl, ap, rules, arith, below_more}
use Rattle.yds_edf.specs.declared.due_order.Due.{Due}
use Rattle.yds_edf.proofs.Arrivals.{within_later, due_read, job_known, place_read, now_within, arrived_read, all_come}
use Rattle.yds_edf.proofs.engine.Engine.arrive.Goals as goal
use Rattle.yds_edf.proofs.engine.Engine.arrive.Goals.{else-loop-self-test, then-loop-self-test+then-next-time}

pub loop-self-init : goal.loop-self-init
loop-self-init c = record {
  kept = c.self.invariant.kept;
  jobs = c.self.invariant.jobs;
  before = λ k less. within_later _ _ _ (rw (← c.self.view_is) at c.requires) (c.self.invariant.come.before k less);
  within = c.self.invariant.come.within;
  rows = refl;
  ties = refl;
  grain = refl;
  time = refl;
  served = refl;
}

pub index-requires : goal.index-requires
index-requires c = omega (arith, (job_known c.loop-self.invariant.kept c.loop-self.invariant.jobs (omega (arith, c.loop-self-test.true, c.len.ensures)) c.index-next.ensures).0)

pub index-requires-in-loop-self : goal.index-requires-in-loop-self
index-requires-in-loop-self c = omega (arith, (job_known c.loop-self.invariant.kept c.loop-self.invariant.jobs (omega (arith, c.loop-self-test.true, c.len.ensures)) c.index-next.ensures).1)

pub units_left-units-requires-clause-within : goal.units_left-units-requires-clause-within
units_left-units-requires-clause-within c =
    now_within c.loop-self.invariant.kept c.loop-self.invariant.jobs (omega (arith, c.loop-self-test.true, c.len.ensures)) c.index-next.ensures
    c.index.ensures c.index-in-loop-self.ensures

pub set-requires-clause-known : goal.set-requires-clause-known
set-requires-clause-known c = (place_read c.loop-self.invariant.kept c.loop-self.invariant.jobs (omega (arith, c.loop-self-test.true, c.len.ensures)) c.index-next.ensures).0

pub set-requires-clause-placed : goal.set-requires-clause-placed
set-requires-clause-placed c = (place_read c.loop-self.invariant.kept c.loop-self.invariant.jobs (omega (arith, c.loop-self-test.true, c.len.ensures)) c.index-next.ensures).1

pub loop-self-preserved : goal.loop-self-preserved
loop-self-preserved c = record {
  kept = c.loop-self.invariant.kept;
  jobs = arrived_read c.loop-self.invariant.kept c.loop-self.invariant.jobs (omega (arith, c.loop-self-test.true, c.len.ensures)) c.index-next.ensures
      c.index.ensures c.index-in-loop-self.ensures c.units_left-units.result c.set.new.self c.units_left-units.ensures.left c.set.ensures;
  before = below_more _ _ c.loop-self.invariant.before (omega (
    arith,
    c.if-next-time.false,
    ap (λ (due : Due). due.release)
        (due_read c.loop-self.invariant.kept c.loop-self.invariant.jobs (omega (arith, c.loop-self-test.true, c.len.ensures)) c.index-next.ensures),
  ));
  within = omega (arith, c.loop-self-test.true, c.len.ensures);
  rows = c.loop-self.invariant.rows;
  ties = c.loop-self.invariant.ties;
  grain = c.loop-self.invariant.grain;
  time = c.loop-self.invariant.time;
  served = c.loop-self.invariant.served;
}

pub invariant_of-self : goal.invariant_of-self
invariant_of-self c =
    let kept = c.loop-self.invariant in
    record {
      kept = search rules;
      jobs = record { ranked = kept.jobs.ranked; same = kept.jobs.same; rising = kept.jobs.rising; placed = kept.jobs.placed };
      come = all_come _ _ _ kept.jobs.rising kept.within kept.before (λ inside. elim c.loop-self-test.branch [
        | else-loop-self-test w ↦ absurd (omega (arith, inside, w.loop-self-test.false, c.len.ensures))
        | then-loop-self-test+then-next-time w ↦ omega (
          arith,
          w.if-next-time.true,
          ap (λ (due : Due). due.release) (due_read kept.kept kept.jobs inside w.index-next.ensures),
        )
      ]);
    }
