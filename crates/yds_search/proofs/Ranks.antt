-- How many of the marks before a place are 1.
use Rattle.yds_model.proofs.Common.{◌≡◌, ℕ, zero, suc, ◌+◌, ◌-◌, ◌<◌, ◌≤◌, ◌∙◌, ◌⊎◌, inl, inr, Bool, List, length, take, drop, get_or, refl, ap, sym, subst, zero-add, add-zero, arith, All, filter, cases_lt, length-take, length-drop, length-append, take-append-drop, get_or-take, get_or-drop, get_or_default, get_or_append_left, get_or-append_right, All-filter, filter-append, sum_by_more}
use Rattle.yds_events.specs.Window.{IsPlace}
use Rattle.yds_search.specs.declared.own.OwnJob.{OwnJob}
use Rattle.yds_search.specs.Own.{HaveWindows}
use Rattle.yds_search.specs.Closure.{AreRanks}

-- the rank of the next place
pub rank_more : (marks ranks : List ℕ) (p : ℕ) → AreRanks marks ranks → p < length marks → get_or ranks (p + 1) 0 ≡ get_or ranks p 0 + get_or marks p 0
rank_more marks ranks p are within = omega (arith, are.each p (omega arith), are.each (p + 1) (omega arith), sum_by_more (λ x. x) marks p 0 within)

-- over some places ranks rise by the number of places at most
rank_over : (marks ranks : List ℕ) (p n : ℕ) → All (λ mark. mark ≤ 1) marks → AreRanks marks ranks → p + n ≤ length marks →
    (get_or ranks p 0 ≤ get_or ranks (p + n) 0) × (get_or ranks (p + n) 0 ≤ get_or ranks p 0 + n)
rank_over marks ranks p zero small are within = let same = ap (λ i. get_or ranks i 0) (add-zero p) in (omega arith, omega arith)
rank_over marks ranks p (suc n) small are within =
    let rest = rank_over marks ranks p n small are (omega arith) in
    let next = rank_more marks ranks (p + n) are (omega arith) in
    let mark = small (p + n) 0 (omega arith) in
    let same : get_or ranks (p + suc n) 0 ≡ get_or ranks (p + n + 1) 0 = ap (λ i. get_or ranks i 0) (omega arith) in
    (omega arith, omega arith)

-- and a rank is at most its place
rank_upto : (marks ranks : List ℕ) (p : ℕ) → All (λ mark. mark ≤ 1) marks → AreRanks marks ranks → p ≤ length marks → get_or ranks p 0 ≤ p
rank_upto marks ranks p small are within =
    omega (arith, are.each 0 (omega arith), ap (λ i. get_or ranks i 0) (zero-add p), (rank_over marks ranks 0 p small are (omega arith)).1)

-- the ranks of a job's window
pub record IsRanked (ranks : List ℕ) (own : OwnJob) : Type 0 where
  pub some : own.first < own.end
  pub within : own.end < length ranks
  pub rise : get_or ranks own.first 0 ≤ get_or ranks own.end 0
  pub slow : get_or ranks own.end 0 ≤ get_or ranks own.first 0 + (own.end - own.first)
  pub first : get_or ranks own.first 0 ≤ own.first
  pub end : get_or ranks own.end 0 ≤ own.end

-- ranks over a window rise by its length at most
is_ranked : (marks ranks : List ℕ) (own : OwnJob) → All (λ mark. mark ≤ 1) marks → AreRanks marks ranks → (own.first < own.end) × (own.end ≤ length marks) → IsRanked ranks own
is_ranked marks ranks own small are window =
    let gap : own.first + (own.end - own.first) ≡ own.end = omega arith in
    let over = subst (λ (i : ℕ). (get_or ranks own.first 0 ≤ get_or ranks i 0) × (get_or ranks i 0 ≤ get_or ranks own.first 0 + (own.end - own.first))) gap
    (rank_over marks ranks own.first (own.end - own.first) small are (omega arith)) in
    record {
      some = window.0;
      within = omega (arith, are.count);
      rise = over.0;
      slow = over.1;
      first = rank_upto marks ranks own.first small are (omega arith);
      end = rank_upto marks ranks own.end small are window.1;
    }

-- of each job
pub are_ranked : (marks ranks : List ℕ) (jobs : List OwnJob) → All (λ mark. mark ≤ 1) marks → AreRanks marks ranks → HaveWindows (length marks) jobs → All (IsRanked ranks) jobs
are_ranked marks ranks jobs small are windows i d within = is_ranked marks ranks (get_or jobs i d) small are (windows i d within)

-- a number's place among those that pass is how many before it pass
pub filtered_place : (p : ℕ → Bool) (numbers : List ℕ) (number place : ℕ) → IsPlace numbers number place → IsPlace (filter p numbers) number (length (filter p (take place numbers)))
filtered_place p numbers number place is =
    let before = filter p (take place numbers) in
    let after = filter p (drop place numbers) in
    let less : All (λ n. n < number) before = All-filter p (λ n. n < number) (take place numbers) (λ i d within. let less : (i < place) × (i < length numbers) =
    (omega (arith, length-take place numbers), omega (arith, length-take place numbers)) in
    omega (arith, is.before i less.0, get_or-take place numbers i d less.0, get_or_default numbers i d 0 less.1)) in
    let more : All (λ n. number ≤ n) after = All-filter p (λ n. number ≤ n) (drop place numbers) (λ i d within.
    omega (
      arith,
      is.from (place + i) (omega arith) (omega (arith, length-drop place numbers)),
      get_or-drop place numbers i d,
      get_or_default numbers (place + i) d 0 (omega (arith, length-drop place numbers)),
    )) in
    subst (λ (xs : List ℕ). IsPlace xs number (length before)) (sym (filter-append p (take place numbers) (drop place numbers)) ∙ ap (filter p) (take-append-drop place numbers)) record {
      within = omega (arith, length-append before after);
      before = λ i upto. omega (arith, less i 0 upto, get_or_append_left before after 0 i upto);
      from = λ i from upto. omega (arith, more (i - length before) 0 (omega (arith, upto, length-append before after)), get_or-append_right before after (length before) i 0 refl from);
    }

-- over some places either all are marked, and ranks rise by their number, or one is not, and ranks rise by less
pub over_cases : (marks ranks : List ℕ) (p n : ℕ) → All (λ mark. mark ≤ 1) marks → AreRanks marks ranks → p + n ≤ length marks →
    ((get_or ranks (p + n) 0 ≡ get_or ranks p 0 + n) × ((i : ℕ) → p ≤ i → i < p + n → get_or marks i 0 ≡ 1))
    ⊎ ((get_or ranks (p + n) 0 < get_or ranks p 0 + n) × ((i : ℕ) × (p ≤ i) × (i < p + n) × (get_or marks i 0 ≡ 0)))
over_cases marks ranks p zero small are within = inl (ap (λ i. get_or ranks i 0) (add-zero p) ∙ sym (add-zero (get_or ranks p 0)), λ i after before. absurd (omega arith))
over_cases marks ranks p (suc n) small are within =
    let next : get_or ranks (p + suc n) 0 ≡ get_or ranks (p + n) 0 + get_or marks (p + n) 0 =
    ap (λ i. get_or ranks i 0) (omega arith) ∙ rank_more marks ranks (p + n) are (omega arith) in
    let mark = small (p + n) 0 (omega arith) in
    elim (over_cases marks ranks p n small are (omega arith)) [
      | inl (rise, each) ↦ elim (cases_lt 0 (get_or marks (p + n) 0)) [
        | inl some ↦ inl (
          omega arith,
          λ i after before. elim (cases_lt i (p + n)) [
            | inl less ↦ each i after less
            | inr past ↦ let last : i ≡ p + n = omega arith in omega (arith, ap (λ k. get_or marks k 0) last)
          ],
        )
        | inr none ↦ inr (omega arith, (p + n, omega arith, omega arith, omega arith))
      ]
      | inr (rise, (i, after, before, bare)) ↦ inr (omega arith, (i, after, omega arith, bare))
    ]
