-- The numbers of jobs have an order of their deadlines: each is put where it belongs.
use Rattle.yds_model.proofs.Common.{ℕ, suc, ◌⊎◌, List, [], ◌∷◌, arith, inl, inr, sym, ◌∙◌, All, AllPairs, All-cons, All-permutation, AllPairs-cons, IsPermutation, IsPermutation-refl, IsPermutation-trans, IsPermutation-middle, cases_order, cases_lt, Job, job_at, numbers_of, ComesFirst}
use Rattle.std.proofs.lemmas.List.Sorted.{IsPermutation-cons}
use Rattle.yds_intensity.specs.DeadlineOrder.{IsDeadlineOrder}

module _ (jobs : List Job) where
  -- of two jobs one comes first,
  comes_total : (x y : ℕ) → ComesFirst jobs x y ⊎ ComesFirst jobs y x
  comes_total x y = elim (cases_order (job_at jobs x).deadline (job_at jobs y).deadline) [
    | inr (inl less) ↦ inl (inl less)
    | inr (inr more) ↦ inr (inl more)
    | inl same ↦ elim (cases_lt y x) [ inl before ↦ inr (inr (sym same, omega (arith, before))) | inr after ↦ inl (inr (same, after)) ]
  ]

  -- and before those that come after the other
  comes_on : (x y z : ℕ) → ComesFirst jobs x y → ComesFirst jobs y z → ComesFirst jobs x z
  comes_on x y z (inl less) (inl more) = inl (omega (arith, less, more))
  comes_on x y z (inl less) (inr (same, order)) = inl (omega (arith, less, same))
  comes_on x y z (inr (same, order)) (inl more) = inl (omega (arith, same, more))
  comes_on x y z (inr (same, order)) (inr (equal, next)) = inr (same ∙ equal, omega (arith, order, next))

  -- a number put into its place
  put : (x : ℕ) (ys : List ℕ) → AllPairs (ComesFirst jobs) ys → (zs : List ℕ) × IsPermutation (x ∷ ys) zs × AllPairs (ComesFirst jobs) zs
  put x [] sorted = (x ∷ [], IsPermutation-refl (x ∷ []), λ i j d order within. absurd (omega (arith, order, within)))
  put x (y ∷ ys) sorted =
      let head : All (ComesFirst jobs y) ys = λ k d within. sorted 0 (suc k) d (omega arith) (omega (arith, within)) in
      let tail : AllPairs (ComesFirst jobs) ys = λ i j d order within. sorted (suc i) (suc j) d (omega (arith, order)) (omega (arith, within)) in
      elim (comes_total x y) [
        | inl first ↦ (
          x ∷ y ∷ ys,
          IsPermutation-refl (x ∷ y ∷ ys),
          AllPairs-cons (ComesFirst jobs) x (y ∷ ys)
              (All-cons (ComesFirst jobs x) y ys first (λ k d within. comes_on x y _ first (head k d within))) sorted,
        )
        | inr other ↦
            let (zs, same, rest) = put x ys tail in (
              y ∷ zs,
              IsPermutation-trans (x ∷ y ∷ ys) (y ∷ x ∷ ys) (y ∷ zs) (IsPermutation-middle (x ∷ []) y ys) (IsPermutation-cons y (x ∷ ys) zs same),
              AllPairs-cons (ComesFirst jobs) y zs (All-permutation (ComesFirst jobs y) (x ∷ ys) zs same (All-cons (ComesFirst jobs y) x ys other head)) rest,
            )
      ]

  -- all of them
  put_all : (xs : List ℕ) → (ys : List ℕ) × IsPermutation xs ys × AllPairs (ComesFirst jobs) ys
  put_all [] = ([], IsPermutation-refl [], λ i j d order within. absurd (omega (arith, order, within)))
  put_all (x ∷ xs) =
      let (ys, same, sorted) = put_all xs in
      let (zs, all, rest) = put x ys sorted in
      (zs, IsPermutation-trans (x ∷ xs) (x ∷ ys) zs (IsPermutation-cons x xs ys same) all, rest)

-- the order of deadlines
pub order_exists : (jobs : List Job) → (order : List ℕ) × IsDeadlineOrder jobs order
order_exists jobs =
    let (order, same, sorted) = put_all jobs (numbers_of jobs) in
    (order, record { once = same; rising = λ i j before within. sorted i j 0 before within })
