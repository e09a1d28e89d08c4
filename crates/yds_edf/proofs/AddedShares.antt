-- The shares in a stretch and in the stretches before it, as shares are added.
use Rattle.yds_model.proofs.Common.{◌≡◌, ℕ, suc, ◌+◌, ◌<◌, List, [], ◌∷◌, ◌++◌, refl, sym, arith, inl, inr, length, get_or, ◌≤◌, All, append-nil, sum_by-cons, get_or-le-sum_by, filter-append, cases_order, lt-ltb, le-ltb, eq-eqb, ne_eqb, filter_all, filter_none}
use Rattle.yds_timetable.specs.Shares.{JobShare, units_given, shares_in, shares_before}

module _ (shares part : List JobShare) (i : ℕ) (earlier : All (λ share. share.stretch < i) shares)
    (here : All (λ share. share.stretch ≡ i) part) where
  -- what is added is the stretch's, and what was there is what is before it
  pub in_added : shares_in (shares ++ part) i ≡ part
  in_added = grind (arith, eq-eqb, filter-append, filter_all, filter_none, ne_eqb)

  pub before_added : shares_before (shares ++ part) i ≡ shares
  before_added = grind (arith, append-nil, filter-append, filter_all, filter_none, le-ltb, lt-ltb)

  -- earlier stretches stay as they were
  pub in_kept : (k : ℕ) → k < i → shares_in (shares ++ part) k ≡ shares_in shares k
  in_kept k less = grind (arith, append-nil, filter-append, filter_none, ne_eqb)

  pub before_kept : (k : ℕ) → k < i → shares_before (shares ++ part) k ≡ shares_before shares k
  before_kept k less = grind (arith, append-nil, filter-append, filter_none, le-ltb)

-- before the next stretch stand the shares before this one and those in it
pub given_next : (shares : List JobShare) (i job : ℕ) →
    units_given (shares_before shares (suc i)) job ≡ units_given (shares_before shares i) job + units_given (shares_in shares i) job
given_next [] i job = refl
given_next (share ∷ shares) i job = elim (cases_order share.stretch i) [
  | inl same ↦ rw (lt-ltb share.stretch (suc i) (omega (arith, same)), le-ltb share.stretch i (omega (arith, same)), eq-eqb i share.stretch (sym same))
      (simp sum_by-cons (omega (arith, given_next shares i job)))
  | inr (inl less) ↦ rw (lt-ltb share.stretch (suc i) (omega (arith, less)), lt-ltb share.stretch i less, ne_eqb i share.stretch (omega arith))
      (simp sum_by-cons (omega (arith, given_next shares i job)))
  | inr (inr more) ↦ rw (le-ltb share.stretch (suc i) (omega (arith, more)), le-ltb share.stretch i (omega (arith, more)), ne_eqb i share.stretch (omega arith))
      (given_next shares i job)
]

-- a job gets at least what one of its shares has
pub share_given : (shares : List JobShare) (k : ℕ) (share : JobShare) → k < length shares →
    (get_or shares k share).units ≤ units_given shares (get_or shares k share).job
share_given shares k share within = grind (arith, eq-eqb, get_or-le-sum_by)
