-- The jobs in order of deadline: those whose deadlines sorted keys have.
use Rattle.yds_model.proofs.Common.{◌≡◌, ℕ, ◌+◌, ◌*◌, ◌%◌, ◌<◌, ◌≤◌, ◌⊎◌, List, ◌∙◌, length, get_or, map, true, ap, arith, All, filter, eq-eqb, eqb-true, get_or-map, get_or_default, length-map, All-filter, filter_passes, AllPairs-from_increasing, IsStrictlyIncreasing-filter, Job, job_at, contains_filter}
use Rattle.yds_events.specs.Keys.{ends_of, key_of, time_of_key, number_of_key, is_deadline, job_of_key, AreKeys}
use Rattle.yds_events.specs.ServingOrder.{IsOrder}
use Rattle.yds_events.proofs.Keys.{IsKey, all_keys, key_at, strictly}
use Rattle.yds_events.proofs.Times.{length_ends, deadline_end}

abbrev due_key : List Job → ℕ → ℕ
due_key jobs j = (job_at jobs j).deadline * 4294967296 + (2 * j + 1)

-- a deadline's key is that of its job
record IsDue (jobs : List Job) (key : ℕ) : Type 0 where
  known : job_of_key key < length jobs
  is : key ≡ due_key jobs (job_of_key key)

due : (jobs : List Job) (key : ℕ) → IsKey (ends_of jobs) key → is_deadline key ≡ true → IsDue jobs key
due jobs key is odd =
    let rest : key % 2 ≡ 1 = eqb-true (key % 2) 1 odd in
    let known : job_of_key key < length jobs = omega (arith, is.known, length_ends jobs) in
    let number : number_of_key key ≡ 2 * job_of_key key + 1 = omega arith in
    let time : time_of_key key ≡ (job_at jobs (job_of_key key)).deadline =
    is.same ∙ ap (λ n. get_or (ends_of jobs) n 0) number ∙ deadline_end jobs (job_of_key key) known in
    record { known = known; is = omega arith }

-- keys in order are jobs in order
keys_precede : (deadline j deadline' j' : ℕ) → deadline * 4294967296 + (2 * j + 1) < deadline' * 4294967296 + (2 * j' + 1) → 2 * j + 1 < 4294967296 → 2 * j' + 1 < 4294967296 →
    (deadline < deadline') ⊎ ((deadline ≡ deadline') × (j ≤ j'))
keys_precede deadline j deadline' j' before small small' = grind arith

pub keys_order : (jobs : List Job) (keys order : List ℕ) → AreKeys (ends_of jobs) keys → order ≡ map job_of_key (filter is_deadline keys) → IsOrder jobs order
keys_order jobs keys order are is =
    let kept = filter is_deadline keys in
    let few : 2 * length jobs < 4294967296 = omega (arith, are.few, length_ends jobs) in
    let all : All (IsDue jobs) kept = λ i d within.
    due jobs (get_or kept i d) (All-filter is_deadline (IsKey (ends_of jobs)) keys (all_keys (ends_of jobs) keys are) i d within) (filter_passes is_deadline keys i d within) in
    let count : length order ≡ length kept = ap (λ (xs : List ℕ). length xs) is ∙ length-map kept job_of_key in
    let job : (i : ℕ) → i < length order → get_or order i 0 ≡ job_of_key (get_or kept i 0) =
    λ i within. ap (λ (xs : List ℕ). get_or xs i 0) is ∙ get_or-map job_of_key kept i 0 0 (omega (arith, count)) in
    record {
      known = λ i within. omega (arith, job i within, (all i 0 (omega (arith, count))).known);
      rising = λ a b before within.
          let one = all a 0 (omega (arith, before, within, count)) in
          let other = all b 0 (omega (arith, within, count)) in
          let less = AllPairs-from_increasing kept (IsStrictlyIncreasing-filter is_deadline keys (strictly (ends_of jobs) keys are)) a b 0 before (omega (arith, within, count)) in
          rw (job a (omega arith), job b within) (
            (λ same. omega (arith, less, one.is, other.is, ap (due_key jobs) same)),
            keys_precede (job_at jobs (job_of_key (get_or kept a 0))).deadline (job_of_key (get_or kept a 0))
                (job_at jobs (job_of_key (get_or kept b 0))).deadline (job_of_key (get_or kept b 0))
                (omega (arith, less, one.is, other.is)) (omega (arith, one.known, few)) (omega (arith, other.known, few)),
          );
      each = λ j below.
          let key = key_of (ends_of jobs) (2 * j + 1) in
          let found = contains_filter is_deadline keys key (eq-eqb _ 1 (omega arith)) (key_at (ends_of jobs) keys are (2 * j + 1) (omega (arith, below, length_ends jobs))) in
          let own : job_of_key key ≡ j = omega (arith, below, few) in
          (found.0, omega (arith, count, found.1), job found.0 (omega (arith, count, found.1)) ∙ ap job_of_key (get_or_default kept found.0 0 key found.1 ∙ found.2) ∙ own);
    }
