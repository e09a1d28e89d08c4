-- Nodes of which each is the greater of the two below it.
use Rattle.yds_model.proofs.Common.{◌≡◌, ℕ, ◌+◌, ◌-◌, ◌*◌, ◌/◌, ◌%◌, ◌<◌, ◌≤◌, List, [], ◌∷◌, ◌++◌, length, max, min, set, arith, inl, inr, subst, sym, get_or-set_other, get_or-set_same, slice_index, cases_lt, get_or_append_left, get_or_push}
use Rattle.yds_checker.specs.declared.placed.Placed.{Placed}
use Rattle.yds_checker.specs.Heights.{IsHeight, AreRaised, AreWithin}

-- where the nodes above are within the bound, and so are those at both ends, all are
pub within_below : (nodes : List ℕ) (leaves left right bound : ℕ) → AreRaised nodes leaves → 1 ≤ left → left < right → right ≤ length nodes →
    slice_index nodes left ≤ bound → slice_index nodes (right - 1) ≤ bound → AreWithin nodes ((left + 1) / 2) (right / 2) bound →
    AreWithin nodes left right bound
within_below nodes leaves left right bound raised some order few first last above k from to = elim (cases_lt (k / 2) ((left + 1) / 2)) [
  | inl before ↦
      let same : k ≡ left = omega arith in
      rw same first
  | inr after ↦ elim (cases_lt (k / 2) (right / 2)) [
    | inl inside ↦
        let high = above (k / 2) after inside in
        let size = raised.size in
        let great = raised.greater (k / 2) (omega arith) (omega arith) in
        elim (cases_lt (k % 2) 1) [
          | inl even ↦
              let same : k ≡ 2 * (k / 2) = omega arith in
              subst (λ (n : ℕ). slice_index nodes n ≤ bound) (sym same) (omega (arith, great, high))
          | inr odd ↦
              let same : k ≡ 2 * (k / 2) + 1 = omega arith in
              subst (λ (n : ℕ). slice_index nodes n ≤ bound) (sym same) (omega (arith, great, high))
        ]
    | inr past ↦
        let same : k ≡ right - 1 = omega arith in
        rw same last
  ]
]

-- and back
pub within_above : (nodes : List ℕ) (leaves left right bound : ℕ) → AreRaised nodes leaves → 1 ≤ left → left < right → right ≤ length nodes →
    AreWithin nodes left right bound → AreWithin nodes ((left + 1) / 2) (right / 2) bound
within_above nodes leaves left right bound raised some order few all k from to = grind arith

-- one node more is the greater of the two below it
pub raised_more : (nodes : List ℕ) (leaves k high : ℕ) → length nodes ≡ leaves + leaves → 1 ≤ k → k < leaves →
    high ≡ max (slice_index nodes (2 * k)) (slice_index nodes (2 * k + 1)) →
    ((j : ℕ) → k + 1 ≤ j → 1 ≤ j → j < leaves → slice_index nodes j ≡ max (slice_index nodes (2 * j)) (slice_index nodes (2 * j + 1))) →
    (j : ℕ) → k ≤ j → 1 ≤ j → j < leaves →
    slice_index (set nodes k high) j ≡ max (slice_index (set nodes k high) (2 * j)) (slice_index (set nodes k high) (2 * j + 1))
raised_more nodes leaves k high size some within is done j from positive to = grind (arith, cases_lt, get_or-set_other, get_or-set_same)

-- half a number, rounded up
pub half_up : (n : ℕ) → n / 2 + min 1 (n % 2) ≡ (n + 1) / 2
half_up n = omega arith

-- one height more behind the others
pub leaf_pushed : (placed : List Placed) (nodes : List ℕ) (before i high : ℕ) → length nodes ≡ before + i → IsHeight placed i high →
    ((j : ℕ) → j < i → IsHeight placed j (slice_index nodes (before + j))) →
    (j : ℕ) → j < i + 1 → IsHeight placed j (slice_index (nodes ++ high ∷ []) (before + j))
leaf_pushed placed nodes before i high size is done j within = elim (cases_lt j i) [
  | inl early ↦
      let inside : before + j < length nodes = omega arith in
      rw (get_or_append_left nodes (high ∷ []) 0 (before + j) inside) (done j early)
  | inr here ↦
      let same : j ≡ i = omega arith in
      let last : before + j ≡ length nodes = omega arith in
      rw (last, get_or_push nodes high 0, same) is
]
