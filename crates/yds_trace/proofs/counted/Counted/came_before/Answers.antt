use Rattle.base.proofs.Common.{◌∙◌, refl}
use Rattle.yds_trace.specs.Parts.{came_before}
use Rattle.yds_trace.proofs.Counting.{said_of_last}
use Rattle.yds_trace.proofs.counted.Counted.came_before.Goals as goal

pub returns-in-Some : goal.returns-in-Some
returns-in-Some c = λ asked counting is within.
    c.came_before.ensures
    ∙ said_of_last (came_before c.args.boundary) (λ job jobs others on woken. refl) asked counting c.args.self.now.boundary c.args.number c.in-Some.followed.now
    (rw (c.in-Some.ensures.lookup.1, c.deref.ensures.value) (is.tasks c.args.number _ within))
