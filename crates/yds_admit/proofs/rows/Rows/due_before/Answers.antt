use Rattle.yds_model.proofs.Common.{◌≡◌, ◌<◌, ℕ, List, length, get_or, arith, rules, ap, nat_lt, IsPartitionedBy, IsNonDecreasingBy, always_returns_same, ltb-true, ltb-false, lt-ltb, get_or_default, Job, no_job}
use Rattle.yds_admit.proofs.Listed.{IsListed, row_count, each_listed}
use Rattle.yds_admit.proofs.rows.Rows.due_before.Goals as goal

parted : (releases deadlines works : List ℕ) (jobs : List Job) (time : ℕ) → IsNonDecreasingBy (λ (job : Job). job.deadline) jobs → length jobs ≡ length deadlines →
    ((k : ℕ) → k < length deadlines → IsListed releases deadlines works jobs k) → IsPartitionedBy (λ deadline. nat_lt deadline time) deadlines
parted releases deadlines works jobs time rising count each i j d order within later = lt-ltb (get_or deadlines i d) time (omega (
  arith,
  ltb-true (get_or deadlines j d) time later,
  rising i j no_job order (omega (arith, within, count)),
  (each i (omega (arith, order, within))).deadline,
  (each j within).deadline,
  get_or_default deadlines i d 0 (omega (arith, order, within)),
  get_or_default deadlines j d 0 within,
))

pub returns-clause-within : goal.returns-clause-within
returns-clause-within c = omega (arith, c.partition_point.ensures.bound, c.self.invariant.due, row_count c.self.inside.releases.items c.self.inside.deadlines.items c.self.inside.works.items c.args.self.now c.self.invariant c.self.view_is)

pub returns-clause-before : goal.returns-clause-before
returns-clause-before c k less =
    let rows = c.self.inside in
    let each = each_listed rows.releases.items rows.deadlines.items rows.works.items c.args.self.now c.self.invariant c.self.view_is in
    let count = row_count rows.releases.items rows.deadlines.items rows.works.items c.args.self.now c.self.invariant c.self.view_is in
    let found = c.partition_point.ensures.partitioned (λ deadline. nat_lt deadline c.args.time) (always_returns_same _ _ _ (λ a r f' k. (search rules, search rules)))
    (rw c.deref.ensures.value (parted rows.releases.items rows.deadlines.items rows.works.items c.args.self.now c.args.time c.requires (omega (arith, count, c.self.invariant.due))
    (λ k below. each k (omega (arith, below, c.self.invariant.due))))) in
    let below : k < length rows.deadlines.items = omega (arith, less, c.partition_point.ensures.bound) in
    omega (
      arith,
      ltb-true (get_or c.deref.result.now k 0) c.args.time (found.0 k 0 (omega (arith, below)) less),
      ap (λ (some : List ℕ). get_or some k 0) c.deref.ensures.value,
      (each k (omega (arith, below, c.self.invariant.due))).deadline,
    )

pub returns-clause-after : goal.returns-clause-after
returns-clause-after c k behind within =
    let rows = c.self.inside in
    let each = each_listed rows.releases.items rows.deadlines.items rows.works.items c.args.self.now c.self.invariant c.self.view_is in
    let count = row_count rows.releases.items rows.deadlines.items rows.works.items c.args.self.now c.self.invariant c.self.view_is in
    let found = c.partition_point.ensures.partitioned (λ deadline. nat_lt deadline c.args.time) (always_returns_same _ _ _ (λ a r f' k. (search rules, search rules)))
    (rw c.deref.ensures.value (parted rows.releases.items rows.deadlines.items rows.works.items c.args.self.now c.args.time c.requires (omega (arith, count, c.self.invariant.due))
    (λ k below. each k (omega (arith, below, c.self.invariant.due))))) in
    let below : k < length rows.deadlines.items = omega (arith, within, count, c.self.invariant.due) in
    omega (
      arith,
      ltb-false (get_or c.deref.result.now k 0) c.args.time (found.1 k 0 behind (rw c.deref.ensures.value below)),
      ap (λ (some : List ℕ). get_or some k 0) c.deref.ensures.value,
      (each k (omega (arith, below, c.self.invariant.due))).deadline,
    )
