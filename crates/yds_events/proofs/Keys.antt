-- Sorted keys of times: what their times are without repeats, and where each number's key stands.
use Rattle.yds_model.proofs.Common.{◌≡◌, ℕ, ◌+◌, ◌*◌, ◌<◌, ◌≤◌, ◌==◌, List, length, get_or, map, ◌∙◌, false, sym, ap, subst, arith, All, Contains, dedup, range_with_len, IsPermutation, IsStrictlyIncreasing, nat_cmp, is_lt, ne_eqb, nat_tests, nat_eq_equiv, get_or-map, length-map, All-map, length-range_with_len, get_or-range_with_len, length-map-range_with_len, get_or-map-range_with_len, fill_by_all, IsPermutation-map, All-permutation, Contains-permutation, length_permutation, IsDistinct-from_apart, IsDistinct-IsPermutation, IsStrictlyIncreasing-from_distinct, map-map, rising_times}
use Rattle.yds_events.specs.Keys.{key_of, time_of_key, number_of_key, AreKeys}
use Rattle.yds_events.proofs.Rising.{sorted_times}

-- a key has its time and its number
pub key_is : (time number : ℕ) → number < 4294967296 →
    (time_of_key (time * 4294967296 + number) ≡ time) × (number_of_key (time * 4294967296 + number) ≡ number)
key_is time number small = (omega arith, omega arith)

not_less : (x y : ℕ) → x ≤ y → is_lt (nat_cmp y x) ≡ false
not_less x y most = grind (arith, nat_tests)

-- the key's number is that of its time
pub record IsKey (times : List ℕ) (key : ℕ) : Type 0 where
  pub known : number_of_key key < length times
  pub same : time_of_key key ≡ get_or times (number_of_key key) 0

module _ (times keys : List ℕ) (are : AreKeys times keys) where
  -- the keys in order of number
  abbrev numbered : List ℕ
  numbered = map (key_of times) (range_with_len 0 (length times))

  count : length numbered ≡ length times
  count = length-map-range_with_len (key_of times) 0 (length times)

  pub as_many : length keys ≡ length times
  as_many = length_permutation numbered keys are.once ∙ count

  pub all_keys : All (IsKey times) keys
  all_keys = All-permutation (IsKey times) numbered keys are.once (All-map (IsKey times) (key_of times) (range_with_len 0 (length times)) (λ i d within.
      let number = get_or (range_with_len 0 (length times)) i d in
      let below : i < length times = omega (arith, within, length-range_with_len 0 (length times)) in
      let known : number < length times = omega (arith, below, get_or-range_with_len 0 (length times) i d below) in
      let is = key_is (get_or times number 0) number (omega (arith, are.few)) in
      record { known = omega (arith, is.1, known); same = is.0 ∙ ap (λ k. get_or times k 0) (sym is.1) }))

  -- each number's key is one of them
  pub key_at : (number : ℕ) → number < length times → Contains keys (key_of times number)
  key_at number known = Contains-permutation numbered keys (key_of times number) are.once (
    number,
    omega (arith, known, count),
    get_or-map-range_with_len (key_of times) 0 (length times) number number (key_of times number) known (omega arith),
  )

  -- and no two are the same
  pub strictly : IsStrictlyIncreasing keys
  strictly = IsStrictlyIncreasing-from_distinct keys are.rising (IsDistinct-IsPermutation (λ x y. x == y) nat_eq_equiv.symm numbered keys are.once
      (IsDistinct-from_apart (λ x y. x == y) numbered (λ i j d less within. ne_eqb (get_or numbered i d) (get_or numbered j d) (λ same. omega (
        arith,
        same,
        are.few,
        count,
        get_or-map-range_with_len (key_of times) 0 (length times) i i d (omega (arith, less, within, count)) (omega arith),
        get_or-map-range_with_len (key_of times) 0 (length times) j j d (omega (arith, within, count)) (omega arith),
      )))))

  -- their times are the times in order
  pub rising_keys : dedup (λ x y. x == y) (map time_of_key keys) ≡ rising_times times
  rising_keys =
      let back : map time_of_key numbered ≡ times = map-map time_of_key (key_of times) (range_with_len 0 (length times))
      ∙ sym (fill_by_all (λ k. time_of_key (key_of times k)) times (length times) 0 (omega arith)
      (λ k below. sym (key_is (get_or times k 0) k (omega (arith, are.few))).0)) in
      sorted_times times (map time_of_key keys)
      (subst (λ (xs : List ℕ). IsPermutation xs (map time_of_key keys)) back (IsPermutation-map time_of_key numbered keys are.once))
      (λ k d low within.
      let inside : k + 1 < length keys = omega (arith, within, length-map keys time_of_key) in
      rw (get_or-map time_of_key keys k 0 d (omega arith), get_or-map time_of_key keys (k + 1) 0 d inside)
      (not_less (time_of_key (get_or keys k 0)) (time_of_key (get_or keys (k + 1) 0)) (omega (arith, are.rising k (k + 1) 0 (omega arith) inside))))
