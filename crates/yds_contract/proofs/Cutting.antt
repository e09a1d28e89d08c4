-- Spans that are cut at times are the same time, in pieces that have no time strictly inside and meet at times alone.
use Rattle.yds_model.proofs.Common.{◌≡◌, ℕ, zero, suc, ◌-◌, ◌*◌, ◌<◌, ◌≤◌, ◌⊎◌, List, [], ◌∷◌, ◌++◌, ◌∙◌, length, get_or, map, take, drop, cond, true, false, ap, sym, subst, inl, inr, arith, refl, ◌↔◌, ◌/◌, ◌+◌, Bool, nat_lt, nat_le, ◌&&◌, filter, All, Contains, cases_lt, cases_Bool, cases_eq, le-leb, lt-leb, both_ways, cond-true, cond-false, lt-ltb, le-ltb, and_from, and_left, and_right, IsStrictlyIncreasing, IsNonDecreasingBy, IsPartitionedBy, mul-le-mul_right, AllPairs-from_increasing, IsPartitionedBy-leb, All-cons, All-nil, All-append, All-weaker, Piece, PiecesFrom, Covers}
use Rattle.yds_certificate.proofs.Cover.{Covers-cons, Covers-append}
use Rattle.yds_contract.specs.Contracted.{AreApartFrom}
use Rattle.yds_contract.specs.Spread.{MeetsOnlyAt, MeetOnlyAt, IsUncutAt}
use Rattle.yds_contract.specs.Cut.{AreUpto, comes_between, cut_between, cut_all}
use Rattle.yds_contract.proofs.Cells.{none_covered, apart_weaker}

pub cut_here : (from to time : ℕ) (times : List ℕ) → from < time → time < to →
    cut_between from to (time ∷ times) ≡ record { from = from; to = time } ∷ cut_between time to times
cut_here from to time times after before =
    cond-true (nat_lt from time && nat_lt time to) _ _ (and_from (nat_lt from time) (nat_lt time to) (lt-ltb from time after) (lt-ltb time to before))

pub cut_later : (from to time : ℕ) (times : List ℕ) → (time ≤ from) ⊎ (to ≤ time) → cut_between from to (time ∷ times) ≡ cut_between from to times
cut_later from to time times (inl early) = cond-false (nat_lt from time && nat_lt time to) _ _ (and_left (nat_lt from time) (nat_lt time to) (le-ltb from time early))
cut_later from to time times (inr late) = cond-false (nat_lt from time && nat_lt time to) _ _ (and_right (nat_lt from time) (nat_lt time to) (le-ltb time to late))

-- strictly inside, or not
data Stands (from to time : ℕ) : Type 0 where
  inside : from < time → time < to → Stands from to time
  outside : (time ≤ from) ⊎ (to ≤ time) → Stands from to time

stands : (from to time : ℕ) → Stands from to time
stands from to time = grind (arith, cases_lt)

cut_run : (start from to : ℕ) (times : List ℕ) (rest : List Piece) → start ≤ from → from < to → PiecesFrom to rest → PiecesFrom start (cut_between from to times ++ rest)
cut_run start from to [] rest first forward later = (first, forward, later)
cut_run start from to (time ∷ times) rest first forward later = elim (stands from to time) [
  | inside after before ↦ subst (λ (ps : List Piece). PiecesFrom start (ps ++ rest)) (sym (cut_here from to time times after before))
      (first, after, cut_run time time to times rest (omega arith) before later)
  | outside where_it_is ↦ subst (λ (ps : List Piece). PiecesFrom start (ps ++ rest)) (sym (cut_later from to time times where_it_is)) (cut_run start from to times rest first forward later)
]

cut_covers : (from to : ℕ) (times : List ℕ) (cell : ℕ) → from < to → Covers (cut_between from to times) cell ↔ ((from ≤ cell) × (cell < to))
cut_covers from to [] cell forward =
    let one = Covers-cons (record { from = from; to = to }) [] cell in (
      (λ covers. elim (one.0 covers) [ inl here ↦ here | inr none ↦ absurd (none_covered cell none) ]),
      (λ between. one.1 (inl between)),
    )
cut_covers from to (time ∷ times) cell forward = elim (stands from to time) [
  | outside where_it_is ↦ subst (λ (ps : List Piece). Covers ps cell ↔ ((from ≤ cell) × (cell < to))) (sym (cut_later from to time times where_it_is)) (cut_covers from to times cell forward)
  | inside after before ↦
      let one = Covers-cons (record { from = from; to = time }) (cut_between time to times) cell in
      let rest = cut_covers time to times cell before in
      subst (λ (ps : List Piece). Covers ps cell ↔ ((from ≤ cell) × (cell < to))) (sym (cut_here from to time times after before)) (
        (λ covers. elim (one.0 covers) [ inl here ↦ (here.0, omega (arith, here.1)) | inr later ↦ let between = rest.0 later in (omega (arith, between.0), between.1) ]),
        (λ between. elim (cases_lt cell time) [ inl early ↦ one.1 (inl (between.0, early)) | inr late ↦ one.1 (inr (rest.1 (late, between.1))) ]),
      )
]

cut_within : (from to : ℕ) (times : List ℕ) → All (λ piece. (from ≤ piece.from) × (piece.to ≤ to)) (cut_between from to times)
cut_within from to [] = All-cons (λ (p : Piece). (from ≤ p.from) × (p.to ≤ to)) (record { from = from; to = to }) [] (omega arith, omega arith) (All-nil (λ (p : Piece). (from ≤ p.from) × (p.to ≤ to)))
cut_within from to (time ∷ times) = elim (stands from to time) [
  | outside where_it_is ↦ subst (All (λ (p : Piece). (from ≤ p.from) × (p.to ≤ to))) (sym (cut_later from to time times where_it_is)) (cut_within from to times)
  | inside after before ↦ subst (All (λ (p : Piece). (from ≤ p.from) × (p.to ≤ to))) (sym (cut_here from to time times after before))
      (All-cons (λ (p : Piece). (from ≤ p.from) × (p.to ≤ to)) (record { from = from; to = time }) (cut_between time to times) (omega arith, omega arith)
      (All-weaker (λ (p : Piece). (time ≤ p.from) × (p.to ≤ to)) (λ (p : Piece). (from ≤ p.from) × (p.to ≤ to)) (λ p within. (omega (arith, within.0), within.1)) (cut_between time to times) (cut_within time to times)))
]

-- times that rise, from this one on
abbrev pub RiseFrom : ℕ → List ℕ → Type 0
RiseFrom least [] = Unit {0}
RiseFrom least (time ∷ times) = (least ≤ time) × RiseFrom time times

all_later : (least : ℕ) (times : List ℕ) → RiseFrom least times → All (λ time. least ≤ time) times
all_later least [] rise = All-nil (λ (t : ℕ). least ≤ t)
all_later least (time ∷ times) rise = All-cons (λ (t : ℕ). least ≤ t) time times rise.0
    (All-weaker (λ (t : ℕ). time ≤ t) (λ (t : ℕ). least ≤ t) (λ t later. omega (arith, rise.0)) times (all_later time times rise.1))

outside_all : (times : List ℕ) (from to time : ℕ) → (time ≤ from) ⊎ (to ≤ time) → (pieces : List Piece) → All (λ piece. (from ≤ piece.from) × (piece.to ≤ to)) pieces →
    All (IsUncutAt time) pieces
outside_all times from to time (inl early) pieces within = All-weaker (λ (p : Piece). (from ≤ p.from) × (p.to ≤ to)) (IsUncutAt time) (λ p in_it. inl (omega (arith, in_it.0))) pieces within
outside_all times from to time (inr late) pieces within = All-weaker (λ (p : Piece). (from ≤ p.from) × (p.to ≤ to)) (IsUncutAt time) (λ p in_it. inr (omega (arith, in_it.1))) pieces within

-- no time lies strictly inside a piece
cut_outside : (least from to : ℕ) (times : List ℕ) → RiseFrom least times → All (λ time. All (IsUncutAt time) (cut_between from to times)) times
cut_outside least from to [] rise = All-nil (λ (t : ℕ). All (IsUncutAt t) (cut_between from to []))
cut_outside least from to (time ∷ times) rise = elim (stands from to time) [
  | outside where_it_is ↦ subst (λ (ps : List Piece). All (λ (t : ℕ). All (IsUncutAt t) ps) (time ∷ times)) (sym (cut_later from to time times where_it_is))
      (All-cons (λ (t : ℕ). All (IsUncutAt t) (cut_between from to times)) time times
      (outside_all times from to time where_it_is (cut_between from to times) (cut_within from to times))
      (cut_outside time from to times rise.1))
  | inside after before ↦
      let first : Piece = record { from = from; to = time } in
      let rest : List Piece = cut_between time to times in
      subst (λ (ps : List Piece). All (λ (t : ℕ). All (IsUncutAt t) ps) (time ∷ times)) (sym (cut_here from to time times after before))
      (All-cons (λ (t : ℕ). All (IsUncutAt t) (first ∷ rest)) time times
      (All-cons (IsUncutAt time) first rest (inr (omega arith)) (outside_all times time to time (inl (omega arith)) rest (cut_within time to times)))
      (λ k d inside_it. All-cons (IsUncutAt (get_or times k d)) first rest (inr (all_later time times rise.1 k d inside_it)) (cut_outside time time to times rise.1 k d inside_it)))
]

contains_more : (first : ℕ) (rest : List ℕ) (t : ℕ) → Contains rest t → Contains (first ∷ rest) t
contains_more first rest t (k, within, is) = (suc k, omega arith, is)

-- pieces meet at times alone
cut_meets : (all : List ℕ) (end from to : ℕ) (times : List ℕ) (rest : List Piece) → ((t : ℕ) → Contains times t → Contains all t) → (end ≡ from → Contains all end) →
    MeetsOnlyAt all to rest → MeetsOnlyAt all end (cut_between from to times ++ rest)
cut_meets all end from to [] rest known first later = (first, later)
cut_meets all end from to (time ∷ times) rest known first later = elim (stands from to time) [
  | outside where_it_is ↦ subst (λ (ps : List Piece). MeetsOnlyAt all end (ps ++ rest)) (sym (cut_later from to time times where_it_is))
      (cut_meets all end from to times rest (λ t has. known t (contains_more time times t has)) first later)
  | inside after before ↦ subst (λ (ps : List Piece). MeetsOnlyAt all end (ps ++ rest)) (sym (cut_here from to time times after before))
      (first, cut_meets all time time to times rest (λ t has. known t (contains_more time times t has)) (λ same. known time (0, omega arith, refl)) later)
]

pub cut_all_run : (times : List ℕ) (start : ℕ) (spans : List Piece) → AreApartFrom start spans → PiecesFrom start (cut_all times spans)
cut_all_run times start [] apart = tt
cut_all_run times start (span ∷ spans) apart =
    cut_run start span.from span.to times (cut_all times spans) apart.0 apart.1
    (cut_all_run times span.to spans (apart_weaker span.to (suc span.to) spans (omega arith) apart.2))

pub cut_all_covers : (times : List ℕ) (start : ℕ) (spans : List Piece) (cell : ℕ) → AreApartFrom start spans → Covers (cut_all times spans) cell ↔ Covers spans cell
cut_all_covers times start [] cell apart = ((λ covers. covers), (λ covers. covers))
cut_all_covers times start (span ∷ spans) cell apart =
    let both = Covers-append (cut_between span.from span.to times) (cut_all times spans) cell in
    let one = cut_covers span.from span.to times cell apart.1 in
    let rest = cut_all_covers times (suc span.to) spans cell apart.2 in
    let whole = Covers-cons span spans cell in (
      (λ covers. elim (both.0 covers) [ inl here ↦ whole.1 (inl (one.0 here)) | inr later ↦ whole.1 (inr (rest.0 later)) ]),
      (λ covers. elim (whole.0 covers) [ inl here ↦ both.1 (inl (one.1 here)) | inr later ↦ both.1 (inr (rest.1 later)) ]),
    )

pub cut_all_outside : (times : List ℕ) (least : ℕ) (spans : List Piece) → RiseFrom least times → All (λ time. All (IsUncutAt time) (cut_all times spans)) times
cut_all_outside times least [] rise k d within = All-nil (IsUncutAt (get_or times k d))
cut_all_outside times least (span ∷ spans) rise k d within =
    All-append (IsUncutAt (get_or times k d)) (cut_between span.from span.to times) (cut_all times spans)
    (cut_outside least span.from span.to times rise k d within) (cut_all_outside times least spans rise k d within)

cut_all_meets : (times : List ℕ) (end : ℕ) (spans : List Piece) → AreApartFrom (suc end) spans → MeetsOnlyAt times end (cut_all times spans)
cut_all_meets times end [] apart = tt
cut_all_meets times end (span ∷ spans) apart =
    cut_meets times end span.from span.to times (cut_all times spans) (λ t has. has) (λ same. absurd (omega (arith, apart.0)))
    (cut_all_meets times span.to spans apart.2)

some_meets : (times : List ℕ) (end : ℕ) (pieces : List Piece) → MeetsOnlyAt times end pieces → MeetOnlyAt times pieces
some_meets times end [] meets = tt
some_meets times end (piece ∷ pieces) meets = meets.1

pub cut_all_meet : (times : List ℕ) (start : ℕ) (spans : List Piece) → AreApartFrom start spans → MeetOnlyAt times (cut_all times spans)
cut_all_meet times start [] apart = tt
cut_all_meet times start (span ∷ spans) apart =
    some_meets times (suc span.from) (cut_all times (span ∷ spans))
    (cut_meets times (suc span.from) span.from span.to times (cut_all times spans) (λ t has. has) (λ same. absurd (omega arith)) (cut_all_meets times span.to spans apart.2))

-- a test that passes each time strictly inside the span keeps its cuts
pub same_cuts : (parts low from to : ℕ) (p : ℕ → Bool) (times : List ℕ) → low ≤ from → ((time : ℕ) → p time ≡ false → (time * parts ≤ low) ⊎ (to ≤ time * parts)) →
    cut_between from to (map (λ time. time * parts) (filter p times)) ≡ cut_between from to (map (λ time. time * parts) times)
same_cuts parts low from to p [] first fails = refl
same_cuts parts low from to p (time ∷ times) first fails = elim (cases_Bool (p time)) [
  | inr off ↦
      let outside_it : (time * parts ≤ from) ⊎ (to ≤ time * parts) = elim (fails time off) [ inl early ↦ inl (omega (arith, early, first)) | inr late ↦ inr late ] in
      ap (λ (b : Bool). cut_between from to (map (λ t. t * parts) (cond b (time ∷ filter p times) (filter p times)))) off
      ∙ same_cuts parts low from to p times first fails
      ∙ sym (cut_later from to (time * parts) (map (λ t. t * parts) times) outside_it)
  | inl kept ↦
      ap (λ (b : Bool). cut_between from to (map (λ t. t * parts) (cond b (time ∷ filter p times) (filter p times)))) kept
      ∙ (let both : cut_between from to (time * parts ∷ map (λ t. t * parts) (filter p times)) ≡ cut_between from to (time * parts ∷ map (λ t. t * parts) times) =
      elim (stands from to (time * parts)) [
        | inside after before ↦
            cut_here from to (time * parts) (map (λ t. t * parts) (filter p times)) after before
            ∙ ap (λ (ps : List Piece). record { from = from; to = time * parts } ∷ ps) (same_cuts parts low (time * parts) to p times (omega (arith, first, after)) fails)
            ∙ sym (cut_here from to (time * parts) (map (λ t. t * parts) times) after before)
        | outside where_it_is ↦
            cut_later from to (time * parts) (map (λ t. t * parts) (filter p times)) where_it_is
            ∙ same_cuts parts low from to p times first fails
            ∙ sym (cut_later from to (time * parts) (map (λ t. t * parts) times) where_it_is)
      ] in both)
]

-- where none passes a test, none is kept
rest_fails : (p : ℕ → Bool) (times : List ℕ) → ((k : ℕ) → k < length times → p (get_or times k 0) ≡ false) → [] ≡ filter p times
rest_fails p [] none = refl
rest_fails p (time ∷ times) none =
    rest_fails p times (λ k below. none (suc k) (omega arith)) ∙ sym (ap (λ (b : Bool). cond b (time ∷ filter p times) (filter p times)) (none 0 (omega arith)))

-- the elements of a range that pass a test, where those before it and those after it don't
pub kept_range : (p : ℕ → Bool) (times : List ℕ) (first last : ℕ) → first ≤ last → last ≤ length times →
    ((k : ℕ) → k < first → p (get_or times k 0) ≡ false) → ((k : ℕ) → first ≤ k → k < last → p (get_or times k 0) ≡ true) →
    ((k : ℕ) → last ≤ k → k < length times → p (get_or times k 0) ≡ false) → take (last - first) (drop first times) ≡ filter p times
kept_range p [] first last order within before inside_it after =
    let none : last - first ≡ 0 = omega (arith, within) in
    ap (λ (n : ℕ). take n (drop first [])) none
kept_range p (time ∷ times) zero zero order within before inside_it after =
    rest_fails p (time ∷ times) (λ k below. after k (omega arith) below)
kept_range p (time ∷ times) zero (suc last) order within before inside_it after =
    let count : suc last - 0 ≡ suc (last - 0) = omega arith in
    ap (λ (n : ℕ). take n (time ∷ times)) count
    ∙ ap (λ (rest : List ℕ). time ∷ rest)
    (kept_range p times 0 last (omega arith) (omega (arith, within)) (λ k below. absurd (omega arith)) (λ k from below. inside_it (suc k) (omega arith) (omega arith))
    (λ k from below. after (suc k) (omega arith) (omega arith)))
    ∙ sym (ap (λ (b : Bool). cond b (time ∷ filter p times) (filter p times)) (inside_it 0 (omega arith) (omega arith)))
kept_range p (time ∷ times) (suc first) zero order within before inside_it after = absurd (omega (arith, order))
kept_range p (time ∷ times) (suc first) (suc last) order within before inside_it after =
    let count : suc last - suc first ≡ last - first = omega arith in
    ap (λ (n : ℕ). take n (drop first times)) count
    ∙ kept_range p times first last (omega (arith, order)) (omega (arith, within)) (λ k below. before (suc k) (omega arith))
    (λ k from below. inside_it (suc k) (omega arith) (omega arith)) (λ k from below. after (suc k) (omega arith) (omega arith))
    ∙ sym (ap (λ (b : Bool). cond b (time ∷ filter p times) (filter p times)) (before 0 (omega arith)))

-- rising times are parted by a time
rises_by : (times : List ℕ) → IsStrictlyIncreasing times → IsNonDecreasingBy (λ (time : ℕ). time) times
rises_by times rise i j d before within = grind (arith, AllPairs-from_increasing, cases_eq)

pub parted_upto : (times : List ℕ) (time : ℕ) → IsStrictlyIncreasing times → IsPartitionedBy (λ (t : ℕ). nat_le t time) times
parted_upto times time rise = IsPartitionedBy-leb (λ (t : ℕ). t) times time (rises_by times rise)

-- counts up to two times stand in their order
pub counts_rise : (times : List ℕ) (after upto first last : ℕ) → after ≤ upto → AreUpto times after first → AreUpto times upto last → first ≤ last
counts_rise times after upto first last forward one other = grind (arith, cases_lt)

-- the times between them are those that lie between
pub between_counts : (times : List ℕ) (after upto first last : ℕ) → after ≤ upto → AreUpto times after first → AreUpto times upto last →
    take (last - first) (drop first times) ≡ filter (comes_between after upto) times
between_counts times after upto first last forward one other =
    kept_range (comes_between after upto) times first last (counts_rise times after upto first last forward one other) other.within
    (λ k below. and_left (nat_lt after (get_or times k 0)) (nat_le (get_or times k 0) upto) (le-ltb after (get_or times k 0) (one.before k below)))
    (λ k from below. and_from (nat_lt after (get_or times k 0)) (nat_le (get_or times k 0) upto)
    (lt-ltb after (get_or times k 0) (one.after k from (omega (arith, below, other.within)))) (le-leb (get_or times k 0) upto (other.before k below)))
    (λ k from below. and_right (nat_lt after (get_or times k 0)) (nat_le (get_or times k 0) upto) (lt-leb (get_or times k 0) upto (other.after k from below)))

-- a time that isn't after the span's begin, in whole time units, or is after its last part, isn't strictly inside it
pub not_inside : (parts from to time : ℕ) → 1 ≤ parts → from < to → comes_between (from / parts) ((to - 1) / parts) time ≡ false →
    (time * parts ≤ from) ⊎ (to ≤ time * parts)
not_inside parts from to time some forward off = grind (arith, and_from, both_ways, cases_lt, le-leb, lt-ltb, mul-le-mul_right)

pub units_forward : (parts from to : ℕ) → 1 ≤ parts → from < to → from / parts ≤ (to - 1) / parts
units_forward parts from to some forward = grind (arith, cases_lt, mul-le-mul_right)
