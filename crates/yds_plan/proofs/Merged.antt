-- Pieces of which those that touch are one: they keep what the single pieces have.
use Rattle.yds_model.proofs.Common.{◌≡◌, ℕ, zero, suc, ◌+◌, ◌<◌, ◌≤◌, List, [], ◌∷◌, length, map, refl, arith, ◌-◌, ◌⊎◌, get_or, inl, inr, Bool, true, false, All, AllPairs, Any, flat_map, range_with_len, filter, All-nil, All-append, All-cons, All-head, All-tail, AllPairs-append, Any-append_left, Any-append_right, cond, cases_lt, cond_both, eqb-true, eqb-false, false≢true, sum_by-cons, Job, Piece, AreApart, PiecesFrom, Covers, total_length, DontTouch, stretches, stretch_at}
use Rattle.yds_plan.specs.Laid.{merge, merged}
use Rattle.yds_events.proofs.Neighbours.{stretch_forward, stretch_order}

-- what holds in each block holds in all
pub All-blocks : {Y : Type 0} (P : Y → Type 0) (f : ℕ → List Y) (a n : ℕ) → ((i : ℕ) → i < n → All P (f (a + i))) → All P (flat_map f (range_with_len a n))
All-blocks P f a zero each = All-nil P
All-blocks P f a (suc n) each =
    All-append P (f a) (flat_map f (range_with_len (a + 1) n))
    (let first : a + 0 ≡ a = omega arith in rw first at (each 0 (omega arith)))
    (All-blocks P f (a + 1) n (λ i below. let same : a + suc i ≡ a + 1 + i = omega arith in rw same at (each (suc i) (omega arith))))

pub AllPairs-blocks : {Y : Type 0} (R : Y → Y → Type 0) (f : ℕ → List Y) (a n : ℕ) → ((k : ℕ) → a ≤ k → k < a + n → AllPairs R (f k)) →
    ((k l : ℕ) → a ≤ k → k < l → l < a + n → All (λ y. All (λ x. R x y) (f k)) (f l)) → AllPairs R (flat_map f (range_with_len a n))
AllPairs-blocks R f a zero within across = λ i j d order inside. absurd (omega arith)
AllPairs-blocks R f a (suc n) within across =
    AllPairs-append R (f a) (flat_map f (range_with_len (a + 1) n)) (within a (omega arith) (omega arith))
    (AllPairs-blocks R f (a + 1) n (λ k from below. within k (omega arith) (omega arith))
    (λ k l from order below. across k l (omega arith) order (omega arith))) (All-blocks (λ y. All (λ x. R x y) (f a)) f (a + 1) n
    (λ i below. across a (a + 1 + i) (omega arith) (omega arith) (omega arith)))

-- the same for blocks from 0 on
pub all_of_blocks : {Y : Type 0} (P : Y → Type 0) (f : ℕ → List Y) (n : ℕ) → ((i : ℕ) → i < n → All P (f i)) → All P (flat_map f (range_with_len 0 n))
all_of_blocks P f n each = All-blocks P f 0 n (λ i below. let same : 0 + i ≡ i = omega arith in rw same (each i below))

pub pairs_of_blocks : {Y : Type 0} (R : Y → Y → Type 0) (f : ℕ → List Y) (n : ℕ) → ((k : ℕ) → k < n → AllPairs R (f k)) →
    ((k l : ℕ) → k < l → l < n → All (λ y. All (λ x. R x y) (f k)) (f l)) → AllPairs R (flat_map f (range_with_len 0 n))
pairs_of_blocks R f n within across =
    AllPairs-blocks R f 0 n (λ k from below. within k (omega arith)) (λ k l from order below. across k l order (omega arith))

any_block : {Y : Type 0} (P : Y → Type 0) (f : ℕ → List Y) (a n i : ℕ) → i < n → Any P (f (a + i)) → Any P (flat_map f (range_with_len a n))
any_block P f a zero i below some = absurd (omega arith)
any_block P f a (suc n) zero below some =
    let first : a + 0 ≡ a = omega arith in
    Any-append_left P (f a) (flat_map f (range_with_len (a + 1) n)) (rw first at some)
any_block P f a (suc n) (suc i) below some =
    let same : a + suc i ≡ a + 1 + i = omega arith in
    Any-append_right P (f a) (flat_map f (range_with_len (a + 1) n)) (any_block P f (a + 1) n i (omega arith) (rw same at some))

pub some_of_blocks : {Y : Type 0} (P : Y → Type 0) (f : ℕ → List Y) (n i : ℕ) → i < n → Any P (f i) → Any P (flat_map f (range_with_len 0 n))
some_of_blocks P f n i below some = let same : 0 + i ≡ i = omega arith in any_block P f 0 n i below (rw same some)

-- a fact of the merged list, from the two ways to merge
merge_cases : (P : List Piece → Type 0) (piece next : Piece) (pieces : List Piece) →
    (piece.to ≡ next.from → P (record { from = piece.from; to = next.to } ∷ pieces)) →
    ((piece.to ≡ next.from → ⊥) → P (piece ∷ next ∷ pieces)) → P (merge piece (next ∷ pieces))
merge_cases P piece next pieces touch apart = grind (arith, cond_both, eqb-false, eqb-true)

merge_run : (low : ℕ) (piece : Piece) (pieces : List Piece) → low ≤ piece.from → piece.from < piece.to → PiecesFrom piece.to pieces → PiecesFrom low (merge piece pieces)
merge_run low piece [] from forward run = (from, forward, tt)
merge_run low piece (next ∷ pieces) from forward run =
    merge_cases (PiecesFrom low) piece next pieces (λ same. (from, omega (arith, run.0, run.1), run.2)) (λ other. (from, forward, run))

pub merged_run : (low : ℕ) (pieces : List Piece) → PiecesFrom low pieces → PiecesFrom low (merged pieces)
merged_run low [] run = tt
merged_run low (piece ∷ pieces) run = merge_run low piece (merged pieces) run.0 run.1 (merged_run piece.to pieces run.2)

begin_earlier : (from : ℕ) (next : Piece) (pieces : List Piece) → DontTouch (next ∷ pieces) →
    DontTouch (record { from = from; to = next.to } ∷ pieces)
begin_earlier from next [] apart = tt
begin_earlier from next (piece ∷ pieces) apart = apart

merge_apart : (piece : Piece) (pieces : List Piece) → PiecesFrom piece.to pieces → DontTouch pieces → DontTouch (merge piece pieces)
merge_apart piece [] run apart = tt
merge_apart piece (next ∷ pieces) run apart =
    merge_cases DontTouch piece next pieces (λ same. begin_earlier piece.from next pieces apart) (λ other. (strictly piece.to next.from run.0 other, apart))
  where
    strictly : (a b : ℕ) → a ≤ b → (a ≡ b → ⊥) → a < b
    strictly a b h other = elim (cases_lt a b) [ inl below ↦ below | inr above ↦ absurd (other (omega arith)) ]

pub merged_apart : (low : ℕ) (pieces : List Piece) → PiecesFrom low pieces → DontTouch (merged pieces)
merged_apart low [] run = tt
merged_apart low (piece ∷ pieces) run =
    merge_apart piece (merged pieces) (merged_run piece.to pieces run.2) (merged_apart piece.to pieces run.2)

merge_total : (piece : Piece) (pieces : List Piece) → piece.from < piece.to → PiecesFrom piece.to pieces →
    total_length (merge piece pieces) ≡ (piece.to - piece.from) + total_length pieces
merge_total piece [] forward run = omega arith
merge_total piece (next ∷ pieces) forward run =
    let long = λ (one : Piece). one.to - one.from in
    merge_cases (λ all. total_length all ≡ (piece.to - piece.from) + total_length (next ∷ pieces)) piece next pieces
    (λ same. omega (
      arith,
      run.0,
      run.1,
      sum_by-cons long (record { from = piece.from; to = next.to }) pieces,
      sum_by-cons long next pieces,
    )) (λ other. sum_by-cons long piece (next ∷ pieces))

pub merged_total : (low : ℕ) (pieces : List Piece) → PiecesFrom low pieces → total_length (merged pieces) ≡ total_length pieces
merged_total low [] run = refl
merged_total low (piece ∷ pieces) run =
    omega (
      arith,
      merge_total piece (merged pieces) run.1 (merged_run piece.to pieces run.2),
      merged_total piece.to pieces run.2,
      sum_by-cons (λ (one : Piece). one.to - one.from) piece pieces,
    )

merge_length : (piece : Piece) (pieces : List Piece) → length (merge piece pieces) ≤ length pieces + 1
merge_length piece [] = omega arith
merge_length piece (next ∷ pieces) =
    merge_cases (λ all. length all ≤ length (next ∷ pieces) + 1) piece next pieces (λ same. omega arith) (λ other. omega arith)

pub merged_length : (pieces : List Piece) → length (merged pieces) ≤ length pieces
merged_length [] = omega arith
merged_length (piece ∷ pieces) = omega (arith, merge_length piece (merged pieces), merged_length pieces)

-- what is apart from both of two that touch is apart from the two together
apart_both : (from to a b c : ℕ) → from < to → (to ≤ a) ⊎ (b ≤ from) → (to ≤ b) ⊎ (c ≤ from) → (to ≤ a) ⊎ (c ≤ from)
apart_both from to a b c forward (inl early) other = inl early
apart_both from to a b c forward (inr late) (inl early) = absurd (omega arith)
apart_both from to a b c forward (inr late) (inr later) = inr later

merge_stays_apart : (one piece : Piece) (pieces : List Piece) → one.from < one.to → AreApart one piece → All (AreApart one) pieces →
    All (AreApart one) (merge piece pieces)
merge_stays_apart one piece [] forward first rest = All-cons (AreApart one) piece [] first rest
merge_stays_apart one piece (next ∷ pieces) forward first rest =
    merge_cases (All (AreApart one)) piece next pieces
    (λ same. All-cons (AreApart one) (record { from = piece.from; to = next.to }) pieces (apart_both one.from one.to piece.from piece.to next.to forward first
    (rw (← same) at (All-head (AreApart one) next pieces rest))) (All-tail (AreApart one) next pieces rest))
    (λ other. All-cons (AreApart one) piece (next ∷ pieces) first rest)

pub merged_stays_apart : (one : Piece) (pieces : List Piece) → one.from < one.to → All (AreApart one) pieces → All (AreApart one) (merged pieces)
merged_stays_apart one [] forward apart = All-nil (AreApart one)
merged_stays_apart one (piece ∷ pieces) forward apart =
    merge_stays_apart one piece (merged pieces) forward (All-head (AreApart one) piece pieces apart)
    (merged_stays_apart one pieces forward (All-tail (AreApart one) piece pieces apart))

-- what a piece covers, the merged one does
abbrev pub Holds : ℕ → Piece → Type 0
Holds time piece = (piece.from ≤ time) × (time < piece.to)

covers_head : (time : ℕ) (piece : Piece) (pieces : List Piece) → Holds time piece → Covers (piece ∷ pieces) time
covers_head time piece pieces holds = (0, piece, omega arith, refl, holds)

covers_tail : (time : ℕ) (piece : Piece) (pieces : List Piece) → Covers pieces time → Covers (piece ∷ pieces) time
covers_tail time piece pieces covers = (suc covers.0, covers.1, omega (arith, covers.2), covers.3, covers.4)

covers_at : (time k : ℕ) (piece x : Piece) (pieces : List Piece) → k < length (piece ∷ pieces) → get_or (piece ∷ pieces) k x ≡ x →
    Holds time x → Holds time piece ⊎ Covers pieces time
covers_at time zero piece x pieces within is holds = inl (rw is holds)
covers_at time (suc k) piece x pieces within is holds = inr (k, x, omega arith, is, holds)

covers_cases : (time : ℕ) (piece : Piece) (pieces : List Piece) → Covers (piece ∷ pieces) time → Holds time piece ⊎ Covers pieces time
covers_cases time piece pieces covers = covers_at time covers.0 piece covers.1 pieces covers.2 covers.3 covers.4

merge_covers : (time : ℕ) (piece : Piece) (pieces : List Piece) → piece.from < piece.to → PiecesFrom piece.to pieces →
    Holds time piece ⊎ Covers pieces time → Covers (merge piece pieces) time
merge_covers time piece [] forward run (inl holds) = covers_head time piece [] holds
merge_covers time piece [] forward run (inr covers) = covers_tail time piece [] covers
merge_covers time piece (next ∷ pieces) forward run (inl holds) =
    merge_cases (λ all. Covers all time) piece next pieces
    (λ same. covers_head time (record { from = piece.from; to = next.to }) pieces (holds.0, omega (arith, holds.1, run.0, run.1)))
    (λ other. covers_head time piece (next ∷ pieces) holds)
merge_covers time piece (next ∷ pieces) forward run (inr covers) =
    merge_cases (λ all. Covers all time) piece next pieces
    (λ same. elim (covers_cases time next pieces covers) [
      | inl holds ↦ covers_head time (record { from = piece.from; to = next.to }) pieces (omega (arith, holds.0, run.0), holds.1)
      | inr rest ↦ covers_tail time (record { from = piece.from; to = next.to }) pieces rest
    ]) (λ other. covers_tail time piece (next ∷ pieces) covers)

pub merged_covers : (time low : ℕ) (pieces : List Piece) → PiecesFrom low pieces → Covers pieces time → Covers (merged pieces) time
merged_covers time low [] run covers = covers
merged_covers time low (piece ∷ pieces) run covers =
    merge_covers time piece (merged pieces) run.1 (merged_run piece.to pieces run.2)
    (elim (covers_cases time piece pieces covers) [
      | inl holds ↦ inl holds
      | inr rest ↦ inr (merged_covers time piece.to pieces run.2 rest)
    ])

-- some of the stretches, in order, lie one after another
run_step : (jobs : List Job) (low a : ℕ) (ks : List ℕ) (p : Bool) → a < length (stretches jobs) → low ≤ (stretch_at jobs a).from →
    PiecesFrom (stretch_at jobs a).to (map (stretch_at jobs) ks) → PiecesFrom low (map (stretch_at jobs) ks) → PiecesFrom low (map (stretch_at jobs) (cond p (a ∷ ks) ks))
run_step jobs low a ks true within from run skipped = (from, stretch_forward jobs a within, run)
run_step jobs low a ks false within from run skipped = skipped

range_run : (jobs : List Job) (p : ℕ → Bool) (low a n : ℕ) → a + n ≤ length (stretches jobs) →
    ((k : ℕ) → a ≤ k → k < length (stretches jobs) → low ≤ (stretch_at jobs k).from) → PiecesFrom low (map (stretch_at jobs) (filter p (range_with_len a n)))
range_run jobs p low a zero within from = tt
range_run jobs p low a (suc n) within from =
    run_step jobs low a (filter p (range_with_len (a + 1) n)) (p a) (omega arith) (from a (omega arith) (omega arith))
    (range_run jobs p (stretch_at jobs a).to (a + 1) n (omega arith) (λ k above below. stretch_order jobs a k (omega arith) below))
    (range_run jobs p low (a + 1) n (omega arith) (λ k above below. from k (omega arith) below))

pub some_stretches_run : (jobs : List Job) (p : ℕ → Bool) → PiecesFrom 0 (map (stretch_at jobs) (filter p (range_with_len 0 (length (stretches jobs)))))
some_stretches_run jobs p = range_run jobs p 0 0 (length (stretches jobs)) (omega arith) (λ k above below. omega arith)

-- one of some of the stretches covers what it has
here_covers : (jobs : List Job) (time a : ℕ) (ks : List ℕ) (p : Bool) → p ≡ true → Holds time (stretch_at jobs a) →
    Covers (map (stretch_at jobs) (cond p (a ∷ ks) ks)) time
here_covers jobs time a ks true is holds = covers_head time (stretch_at jobs a) (map (stretch_at jobs) ks) holds
here_covers jobs time a ks false is holds = absurd (false≢true is)

later_covers : (jobs : List Job) (time a : ℕ) (ks : List ℕ) (p : Bool) → Covers (map (stretch_at jobs) ks) time → Covers (map (stretch_at jobs) (cond p (a ∷ ks) ks)) time
later_covers jobs time a ks true covers = covers_tail time (stretch_at jobs a) (map (stretch_at jobs) ks) covers
later_covers jobs time a ks false covers = covers

range_covers : (jobs : List Job) (p : ℕ → Bool) (time k a n : ℕ) → a ≤ k → k < a + n → p k ≡ true → Holds time (stretch_at jobs k) →
    Covers (map (stretch_at jobs) (filter p (range_with_len a n))) time
range_covers jobs p time k a zero from below passes holds = absurd (omega arith)
range_covers jobs p time k a (suc n) from below passes holds = elim (cases_lt a k) [
  | inl later ↦
      later_covers jobs time a (filter p (range_with_len (a + 1) n)) (p a) (range_covers jobs p time k (a + 1) n (omega arith) (omega arith) passes holds)
  | inr now ↦
      let same : k ≡ a = omega arith in
      here_covers jobs time a (filter p (range_with_len (a + 1) n)) (p a) (rw same at passes) (rw same at holds)
]

pub some_stretches_cover : (jobs : List Job) (p : ℕ → Bool) (time k : ℕ) → k < length (stretches jobs) → p k ≡ true → Holds time (stretch_at jobs k) →
    Covers (map (stretch_at jobs) (filter p (range_with_len 0 (length (stretches jobs))))) time
some_stretches_cover jobs p time k within passes holds =
    range_covers jobs p time k 0 (length (stretches jobs)) (omega arith) (omega arith) passes holds
