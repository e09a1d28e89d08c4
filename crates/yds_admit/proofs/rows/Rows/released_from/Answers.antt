use Rattle.yds_model.proofs.Common.{◌≡◌, ◌<◌, ℕ, List, length, get_or, arith, rules, ap, nat_le, IsPartitionedBy, always_returns_same, leb-true, leb-false, le-leb, get_or_default, Job}
use Rattle.yds_admit.specs.Chain.{IsFalling}
use Rattle.yds_admit.proofs.Listed.{IsListed, row_count, each_listed}
use Rattle.yds_admit.proofs.rows.Rows.released_from.Goals as goal

parted : (releases deadlines works : List ℕ) (jobs : List Job) (time : ℕ) → IsFalling jobs → length jobs ≡ length releases →
    ((k : ℕ) → k < length releases → IsListed releases deadlines works jobs k) → IsPartitionedBy (λ release. nat_le time release) releases
parted releases deadlines works jobs time falling count each i j d order within later = le-leb time (get_or releases i d) (omega (
  arith,
  leb-true time (get_or releases j d) later,
  falling i j order (omega (arith, within, count)),
  (each i (omega (arith, order, within))).release,
  (each j within).release,
  get_or_default releases i d 0 (omega (arith, order, within)),
  get_or_default releases j d 0 within,
))

pub returns-clause-within : goal.returns-clause-within
returns-clause-within c = omega (arith, c.partition_point.ensures.bound, row_count c.self.inside.releases.items c.self.inside.deadlines.items c.self.inside.works.items c.args.self.now c.self.invariant c.self.view_is)

pub returns-clause-early : goal.returns-clause-early
returns-clause-early c k less =
    let rows = c.self.inside in
    let each = each_listed rows.releases.items rows.deadlines.items rows.works.items c.args.self.now c.self.invariant c.self.view_is in
    let count = row_count rows.releases.items rows.deadlines.items rows.works.items c.args.self.now c.self.invariant c.self.view_is in
    let found = c.partition_point.ensures.partitioned (λ release. nat_le c.args.time release) (always_returns_same _ _ _ (λ a r f' k. (search rules, search rules)))
    (rw c.deref.ensures.value (parted rows.releases.items rows.deadlines.items rows.works.items c.args.self.now c.args.time c.requires count each)) in
    let below : k < length rows.releases.items = omega (arith, less, c.partition_point.ensures.bound) in
    omega (
      arith,
      leb-true c.args.time (get_or c.deref.result.now k 0) (found.0 k 0 (omega (arith, below)) less),
      ap (λ (some : List ℕ). get_or some k 0) c.deref.ensures.value,
      (each k below).release,
    )

pub returns-clause-late : goal.returns-clause-late
returns-clause-late c k behind within =
    let rows = c.self.inside in
    let each = each_listed rows.releases.items rows.deadlines.items rows.works.items c.args.self.now c.self.invariant c.self.view_is in
    let count = row_count rows.releases.items rows.deadlines.items rows.works.items c.args.self.now c.self.invariant c.self.view_is in
    let found = c.partition_point.ensures.partitioned (λ release. nat_le c.args.time release) (always_returns_same _ _ _ (λ a r f' k. (search rules, search rules)))
    (rw c.deref.ensures.value (parted rows.releases.items rows.deadlines.items rows.works.items c.args.self.now c.args.time c.requires count each)) in
    let below : k < length rows.releases.items = omega (arith, within, count) in
    omega (
      arith,
      leb-false c.args.time (get_or c.deref.result.now k 0) (found.1 k 0 behind (rw c.deref.ensures.value below)),
      ap (λ (some : List ℕ). get_or some k 0) c.deref.ensures.value,
      (each k below).release,
    )
