use Rattle.yds_checker.proofs.checker.judgement_of.Goals as goal

pub returns-in-Feasible-clause-exact : goal.returns-in-Feasible-clause-exact
returns-in-Feasible-clause-exact c = rw (← c.slots-slots.ensures.value, ← c.levels-levels.ensures.value) c.judgement_of_levels.ensures
