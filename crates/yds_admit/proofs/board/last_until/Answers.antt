use Rattle.yds_model.proofs.Common.{ℕ, ◌-◌, ◌<◌, ◌≤◌, List, length, get_or, arith, rules, inl, inr, nat_le, IsPartitionedBy-leb, always_returns_same, leb-true, leb-false, cases_lt}
use Rattle.yds_admit.proofs.board.last_until.Goals as goal

one : (times : List ℕ) (time bound : ℕ) → 1 ≤ length times → get_or times 0 0 ≤ time →
    ((k : ℕ) → bound ≤ k → k < length times → time < get_or times k 0) → 1 ≤ bound
one times time bound some begun late = elim (cases_lt 0 bound) [
  | inl more ↦ omega (arith, more)
  | inr none ↦ absurd (omega (arith, late 0 none (omega (arith, some)), begun))
]

pub overflow_sub-result : goal.overflow_sub-result
overflow_sub-result c =
    let found = c.partition_point.ensures.partitioned (λ other. nat_le other c.args.time)
    (always_returns_same _ _ _ (λ a r f' k. (search rules, search rules)))
    (IsPartitionedBy-leb (λ (other : ℕ). other) c.args.times.now c.args.time c.requires.rising) in
    omega (
      arith,
      one c.args.times.now c.args.time c.partition_point.result c.requires.some c.requires.begun
          (λ k behind within. leb-false (get_or c.args.times.now k 0) c.args.time (found.1 k 0 behind within)),
    )

pub returns : goal.returns
returns c =
    let found = c.partition_point.ensures.partitioned (λ other. nat_le other c.args.time)
    (always_returns_same _ _ _ (λ a r f' k. (search rules, search rules)))
    (IsPartitionedBy-leb (λ (other : ℕ). other) c.args.times.now c.args.time c.requires.rising) in
    let late = λ (k : ℕ) (behind : c.partition_point.result ≤ k) (within : k < length c.args.times.now).
    leb-false (get_or c.args.times.now k 0) c.args.time (found.1 k 0 behind within) in
    let some = one c.args.times.now c.args.time c.partition_point.result c.requires.some c.requires.begun late in
    record {
      within = omega (arith, some, c.partition_point.ensures.bound);
      until = leb-true (get_or c.args.times.now (c.partition_point.result - 1) 0) c.args.time
          (found.0 (c.partition_point.result - 1) 0 (omega (arith, some, c.partition_point.ensures.bound)) (omega (arith, some)));
      after = λ q later within. late q (omega (arith, later, some)) within;
    }
