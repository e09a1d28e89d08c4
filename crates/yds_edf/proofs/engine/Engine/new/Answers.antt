use Rattle.yds_edf.proofs.Making.{made}
use Rattle.yds_edf.proofs.engine.Engine.new.Goals as goal

pub invariant_of-result : goal.invariant_of-result
invariant_of-result c =
    rw (c.in_ok-from_slice.ensures.items, c.in_ok-vec.ensures.items_if_clones_equal (λ y h. h))
    (made c.args.rows.now c.args.ties.items c.args.grain c.in_ok-by_release.field-0.items c.in_ok-new.field-0 c.in_ok-by_release.ensures.jobs
    c.requires.few c.requires.some_grain c.requires.grain_in_range c.requires.all_tied c.requires.told_apart
    (rw c.deref.ensures.value at c.in_ok-by_release.ensures.same) c.in_ok-by_release.ensures.rising
    (rw c.deref-2.ensures.value at c.in_ok-new.ensures.ranked) c.in_ok-new.ensures.none)

pub returns-clause-kept : goal.returns-clause-kept
returns-clause-kept c = (invariant_of-result c).kept
