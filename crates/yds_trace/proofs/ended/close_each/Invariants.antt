use Rattle.base.proofs.Common.{◌≡◌, List, ◌++◌, map}
use Rattle.yds_kernel.specs.Event.{Said}
use Rattle.yds_trace.specs.Asked.{Start}
use Rattle.yds_trace.specs.Kept.{IsPast}
use Rattle.yds_trace.specs.Passing.{closed_at}
use Rattle.yds_trace.specs.Views.{jobs_listed, known_read}
use Rattle.yds_trace.proofs.ended.close_each.Given as goal

abbrev pub invariant-loop-followed : goal.invariant-loop-followed
invariant-loop-followed l = (start : Start) (counting : List Said) → IsPast start counting l.past →
    (map (λ jobs. jobs_listed jobs.items) l.all.items ++ map (λ followed. closed_at l.until start counting (known_read followed.known)) l.followed-iterator.rest.items)
    ≡ map (λ followed. closed_at l.until start counting (known_read followed.known)) l.fn.tasks.items
