-- Shares and the units that they sum up to.
use Rattle.yds_model.proofs.Common.{◌≡◌, ℕ, suc, ◌<◌, ◌≤◌, ◌==◌, List, [], ◌∷◌, ◌∙◌, length, get_or, inl, inr, arith, if◌then◌else◌, All, filter, sum_by, All-filter, filter_passes, sum_by-cons, cases_lt, cases_eq, eqb-true, part_other, sum_by_same, sum_by-filter}
use Rattle.yds_timetable.specs.Shares.{JobShare, share_at, no_share}
use Rattle.yds_search.specs.Found.{units_of_job, units_in_stretch}
use Rattle.yds_search.specs.Waiting.{HasOne}
use Rattle.yds_search.proofs.KeySums.{sums_swap}
use Rattle.yds_search.proofs.Members.{AreApart, once}

-- the units of shares with this number, of a job or of a stretch
abbrev pub units_at : (JobShare → ℕ) → List JobShare → ℕ → ℕ
units_at key shares number = sum_by (λ share. if key share == number then share.units else 0) shares

-- where there are units there is a share
pub some_share : (key : JobShare → ℕ) (shares : List JobShare) (number : ℕ) → 1 ≤ units_at key shares number →
    (x : ℕ) × (x < length shares) × (key (share_at shares x) ≡ number)
some_share key [] number some = absurd (omega arith)
some_share key (share ∷ shares) number some = elim (cases_eq (key share) number) [
  | inl here ↦ (0, omega arith, here)
  | inr other ↦
      let found = some_share key shares number (omega (
        arith,
        some,
        sum_by-cons (λ one. if key one == number then one.units else 0) share shares,
        part_other (key share) number share.units other,
      )) in
      (suc found.0, omega (arith, found.1), found.2)
]

-- no units where there is no share
pub no_units : (key : JobShare → ℕ) (shares : List JobShare) (number : ℕ) →
    ((x : ℕ) → x < length shares → key (share_at shares x) ≡ number → ⊥) → units_at key shares number ≡ 0
no_units key shares number none = elim (cases_lt 0 (units_at key shares number)) [
  | inr nothing ↦ omega arith
  | inl some ↦ let found = some_share key shares number some in absurd (none found.0 found.1 found.2)
]

-- so many units of a job in a stretch
abbrev pub units_between : List JobShare → ℕ → ℕ → ℕ
units_between shares j k = units_in_stretch (filter (λ share. share.job == j) shares) k

-- they are a share's, which is as all shares are
pub between_some : (P : JobShare → Type 0) (shares : List JobShare) (j k : ℕ) → All P shares → 1 ≤ units_between shares j k → (share : JobShare) × P share × (share.job ≡ j) × (share.stretch ≡ k)
between_some P shares j k all some =
    let among = filter (λ share. share.job == j) shares in
    let found = some_share (λ share. share.stretch) among k some in (
      share_at among found.0,
      All-filter (λ share. share.job == j) P shares all found.0 no_share found.1,
      eqb-true (share_at among found.0).job j (filter_passes (λ share. share.job == j) shares found.0 no_share found.1),
      found.2,
    )

-- over stretches that have all shares, the units of a job are all that it has
pub over_stretches : {X : Type 0} (number : X → ℕ) (xs : List X) (shares : List JobShare) (j : ℕ) → AreApart number xs → All (λ share. HasOne (λ x. number x ≡ share.stretch) xs) shares →
    sum_by (λ x. units_between shares j (number x)) xs ≡ units_of_job shares j
over_stretches number xs shares j apart there =
    sums_swap (λ x share. if share.stretch == number x then share.units else 0) xs (filter (λ share. share.job == j) shares)
    ∙ sum_by_same (λ share. sum_by (λ x. if share.stretch == number x then share.units else 0) xs) (λ share. share.units) (filter (λ share. share.job == j) shares)
    (λ i d within. once number xs (get_or (filter (λ share. share.job == j) shares) i d).stretch (get_or (filter (λ share. share.job == j) shares) i d).units apart
    (All-filter (λ share. share.job == j) (λ share. HasOne (λ x. number x ≡ share.stretch) xs) shares there i d within))
    ∙ sum_by-filter (λ share. share.job == j) (λ share. share.units) shares

-- over jobs that have all shares, the units in a stretch are all that are done in it
pub over_jobs : {X : Type 0} (number : X → ℕ) (xs : List X) (shares : List JobShare) (k : ℕ) → AreApart number xs → All (λ share. HasOne (λ x. number x ≡ share.job) xs) shares →
    sum_by (λ x. units_between shares (number x) k) xs ≡ units_in_stretch shares k
over_jobs number xs shares k apart there =
    let here = λ (share : JobShare). if share.stretch == k then share.units else 0 in
    sum_by_same (λ x. units_between shares (number x) k) (λ x. sum_by (λ share. if share.job == number x then here share else 0) shares) xs
    (λ i d within. sum_by-filter (λ share. share.job == number (get_or xs i d)) here shares)
    ∙ sums_swap (λ x share. if share.job == number x then here share else 0) xs shares
    ∙ sum_by_same (λ share. sum_by (λ x. if share.job == number x then here share else 0) xs) here shares
    (λ i d within. once number xs (get_or shares i d).job (here (get_or shares i d)) apart (there i d within))
