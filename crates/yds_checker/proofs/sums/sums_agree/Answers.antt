use Rattle.yds_checker.proofs.LevelParts.{few_in_level}
use Rattle.yds_checker.proofs.sums.sums_agree.Goals as goal

pub works_together-requires-clause-few : goal.works_together-requires-clause-few
works_together-requires-clause-few c =
    let few = few_in_level c.args.levels.now c.args.i c.index-levels-i.result c.requires.kept c.requires.within c.index-levels-i.is in
    rw c.deref.ensures.value (rw (← c.level.view_is) at few).1

pub lengths_together-requires : goal.lengths_together-requires
lengths_together-requires c =
    let few = few_in_level c.args.levels.now c.args.i c.index-levels-i.result c.requires.kept c.requires.within c.index-levels-i.is in
    record { few = rw c.deref-then-level-works_together.ensures.value (rw (← c.level.view_is) at few).0 }
