-- What is sorted and rid of repeats is the releases and deadlines of all rows.
use Rattle.yds_model.proofs.Common.{◌∙◌, ap, ◌==◌, dedup_is, rising_times}
use Rattle.yds_events.proofs.Rising.{sorted_times}
use Rattle.yds_events.proofs.event_points.rising_times.Goals as goal

pub returns-clause-times : goal.returns-clause-times
returns-clause-times c = dedup_is (λ x y. x == y) _ _ c.dedup.ensures.filtered
    ∙ sorted_times _ _ c.sort_unstable.ensures.permutation c.sort_unstable.ensures.sorted ∙ ap rising_times c.in_ok-times.ensures.ends
