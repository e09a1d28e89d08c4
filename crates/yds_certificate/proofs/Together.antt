-- The pieces and the members of two levels, together.
use Rattle.yds_model.proofs.Common.{◌≡◌, ℕ, suc, ◌+◌, ◌-◌, ◌<◌, ◌≤◌, inl, inr, List, [], ◌∷◌, ◌++◌, length, Bool, true, false, sym, ap, ◌∙◌, subst, arith, ◌↔◌, nat_lt, ◌&&◌, eqb, cond, All, AllByRecursion, IsDistinct, slice_index_or, IsPermutation, IsNonDecreasing, IsNonDecreasingBy, IsStrictlyIncreasing, lt-ltb, le-ltb, ne_eqb, eq-eqb, cases_lt, cases_eq, false≢true, and_left, and_right, and_comm, length-append, All-tail, All-append, recursion_from_All, All-from_recursion, All-permutation, sum_by-IsPermutation, length_permutation, Contains-permutation, IsPermutation-sym, sum_by-append, sum_by-cons, IsDistinct-IsPermutation, IsStrictlyIncreasing-from_distinct, count, Piece, IsForward, AreApart, PiecesFrom, Covers, Level}
use Rattle.model_lemmas.proofs.Front.{pieces_forward}
use Rattle.yds_certificate.specs.Merging.{IsOrderly, IsNewTo, IsJoined, AreTogether}
use Rattle.yds_certificate.proofs.Cover.{Covers-append}

-- # Pairs that pass no test

all_append : {X : Type 0} (P : X → Type 0) (xs ys : List X) → AllByRecursion P xs → AllByRecursion P ys → AllByRecursion P (xs ++ ys)
all_append P [] ys first second = second
all_append P (x ∷ xs) ys first second = (first.0, all_append P xs ys first.1 second)

all_weaker : {X : Type 0} (P Q : X → Type 0) (xs : List X) → ((x : X) → P x → Q x) → AllByRecursion P xs → AllByRecursion Q xs
all_weaker P Q [] step all = tt
all_weaker P Q (x ∷ xs) step all = (step x all.0, all_weaker P Q xs step all.1)

distinct_append : {X : Type 0} (e : X → X → Bool) (xs ys : List X) → IsDistinct e xs → IsDistinct e ys → AllByRecursion (λ x. AllByRecursion (λ y. e x y ≡ false) ys) xs →
    IsDistinct e (xs ++ ys)
unfolding IsDistinct
distinct_append e [] ys first second across = second
distinct_append e (x ∷ xs) ys first second across = (all_append (λ y. e x y ≡ false) xs ys first.0 across.0, distinct_append e xs ys first.1 second across.1)

-- # Pieces in order

abbrev overlaps : Piece → Piece → Bool
overlaps one other = nat_lt one.from other.to && nat_lt other.from one.to

overlaps_both : (one other : Piece) → overlaps one other ≡ overlaps other one
overlaps_both one other = and_comm (nat_lt one.from other.to) (nat_lt other.from one.to)

apart_passes : (one other : Piece) → AreApart one other → overlaps one other ≡ false
apart_passes one other (inl before) = and_right _ _ (le-ltb other.from one.to before)
apart_passes one other (inr after) = and_left _ _ (le-ltb one.from other.to after)

apart_of : (one other : Piece) → other.from < other.to → one.from ≤ other.from → overlaps one other ≡ false → one.to ≤ other.from
apart_of one other forward order none = grind (arith, cases_lt, false≢true, lt-ltb)

later_begin : (start : ℕ) (pieces : List Piece) → PiecesFrom start pieces → AllByRecursion (λ piece. start ≤ piece.from) pieces
later_begin start [] run = tt
later_begin start (piece ∷ pieces) run =
    (run.0, all_weaker (λ other. piece.to ≤ other.from) (λ other. start ≤ other.from) pieces (λ other after. omega arith) (later_begin piece.to pieces run.2))

distinct_pieces : (start : ℕ) (pieces : List Piece) → PiecesFrom start pieces → IsDistinct overlaps pieces
unfolding IsDistinct
distinct_pieces start [] run = tt
distinct_pieces start (piece ∷ pieces) run = (
  all_weaker (λ other. piece.to ≤ other.from) (λ other. overlaps piece other ≡ false) pieces (λ other after. apart_passes piece other (inl after)) (later_begin piece.to pieces run.2),
  distinct_pieces piece.to pieces run.2,
)

abbrev StartsBy : ℕ → List Piece → Type 0
StartsBy start [] = Unit {0}
StartsBy start (piece ∷ pieces) = start ≤ piece.from

next_starts : (piece : Piece) (pieces : List Piece) → All IsForward pieces → AllByRecursion (λ other. overlaps piece other ≡ false) pieces →
    IsNonDecreasingBy (λ p. p.from) (piece ∷ pieces) → StartsBy piece.to pieces
next_starts piece [] forward none rising = tt
next_starts piece (next ∷ pieces) forward none rising =
    apart_of piece next (forward 0 next (omega arith)) (rising 0 1 next (omega arith) (omega arith)) none.0

sorted_from : (start : ℕ) (pieces : List Piece) → All IsForward pieces → IsDistinct overlaps pieces → IsNonDecreasingBy (λ p. p.from) pieces → StartsBy start pieces →
    PiecesFrom start pieces
unfolding IsDistinct
sorted_from start [] forward none rising starts = tt
sorted_from start (piece ∷ pieces) forward none rising starts = (
  starts,
  forward 0 piece (omega arith),
  sorted_from piece.to pieces (All-tail IsForward piece pieces forward) none.1 (λ i j d order within. rising (suc i) (suc j) d (omega arith) (omega arith))
      (next_starts piece pieces (All-tail IsForward piece pieces forward) none.0 rising),
)

starts_at_all : (pieces : List Piece) → StartsBy 0 pieces
starts_at_all [] = tt
starts_at_all (piece ∷ pieces) = omega arith

-- pieces of both lists that lie one after another, and are apart, lie one after another once they are sorted
pub sorted_pieces : (first second sorted : List Piece) → PiecesFrom 0 first → PiecesFrom 0 second → All (λ piece. All (AreApart piece) first) second →
    IsPermutation (first ++ second) sorted → IsNonDecreasingBy (λ p. p.from) sorted → PiecesFrom 0 sorted
sorted_pieces first second sorted one two apart same rising =
    let across : AllByRecursion (λ x. AllByRecursion (λ y. overlaps x y ≡ false) second) first =
    recursion_from_All (λ x. AllByRecursion (λ y. overlaps x y ≡ false) second) first
    (λ i d within. recursion_from_All (λ y. overlaps (slice_index_or first i d) y ≡ false) second
    (λ j e inside. overlaps_both (slice_index_or first i d) (slice_index_or second j e) ∙ apart_passes (slice_index_or second j e) (slice_index_or first i d) (apart j e inside i d within))) in
    let none : IsDistinct overlaps sorted =
    IsDistinct-IsPermutation overlaps overlaps_both (first ++ second) sorted same
    (distinct_append overlaps first second (distinct_pieces 0 first one) (distinct_pieces 0 second two) across) in
    let forward : All IsForward sorted =
    All-permutation IsForward (first ++ second) sorted same (All-append IsForward first second (pieces_forward 0 first one) (pieces_forward 0 second two)) in
    sorted_from 0 sorted forward none rising (starts_at_all sorted)

covered_again : (pieces others : List Piece) (time : ℕ) → IsPermutation pieces others → Covers pieces time → Covers others time
covered_again pieces others time same found =
    let there = Contains-permutation pieces others found.1 same (found.0, found.2, found.3) in
    (there.0, found.1, there.1, there.2, found.4)

-- pieces in another order cover the same time
pub Covers-permutation : (pieces others : List Piece) (time : ℕ) → IsPermutation pieces others → Covers pieces time ↔ Covers others time
Covers-permutation pieces others time same =
    (covered_again pieces others time same, covered_again others pieces time (IsPermutation-sym pieces others same))

-- # Members in order

rising_rest : (x : ℕ) (xs : List ℕ) → IsStrictlyIncreasing (x ∷ xs) → IsStrictlyIncreasing xs
rising_rest x xs rising k within =
    let here : suc k + 1 ≡ suc (k + 1) = omega arith in
    let P : ℕ → Type 0 = λ n. slice_index_or xs k 0 < slice_index_or (x ∷ xs) n 0 in
    subst P here (rising (suc k) (omega arith))

rising_above : (x : ℕ) (xs : List ℕ) → IsStrictlyIncreasing (x ∷ xs) → AllByRecursion (λ y. x < y) xs
rising_above x [] rising = tt
rising_above x (y ∷ ys) rising =
    let here : x < y = rising 0 (omega arith) in
    (here, all_weaker (λ z. y < z) (λ z. x < z) ys (λ z above. omega arith) (rising_above y ys (rising_rest x (y ∷ ys) rising)))

rising_distinct : (xs : List ℕ) → IsStrictlyIncreasing xs → IsDistinct eqb xs
unfolding IsDistinct
rising_distinct [] rising = tt
rising_distinct (x ∷ xs) rising =
    (all_weaker (λ y. x < y) (λ y. eqb x y ≡ false) xs (λ y above. ne_eqb x y (λ same. absurd (omega arith))) (rising_above x xs rising), rising_distinct xs (rising_rest x xs rising))

not_counted : (number : ℕ) (numbers : List ℕ) → count number numbers ≡ 0 → AllByRecursion (λ other. eqb other number ≡ false) numbers
not_counted number [] none = tt
not_counted number (x ∷ xs) none =
    let split = sum_by-cons (λ other. cond (eqb number other) 1 0) x xs in (
      elim (cases_eq number x) [
        | inl same ↦ absurd (omega (arith, split, ap {B = ℕ} (λ b. cond b 1 0) (eq-eqb number x same)))
        | inr other ↦ ne_eqb x number (λ same. other (sym same))
      ],
      not_counted number xs (omega (arith, split)),
    )

eqb_both : (x y : ℕ) → eqb x y ≡ eqb y x
eqb_both x y = grind (arith, cases_eq, eq-eqb, ne_eqb)

-- rising members of both lists, of which none stands in both, rise once they are sorted
pub sorted_members : (first second sorted : List ℕ) → IsStrictlyIncreasing first → IsStrictlyIncreasing second → All (λ number. count number first ≡ 0) second →
    IsPermutation (first ++ second) sorted → IsNonDecreasing sorted → IsStrictlyIncreasing sorted
sorted_members first second sorted one two none same rising =
    let across : AllByRecursion (λ x. AllByRecursion (λ y. eqb x y ≡ false) second) first =
    recursion_from_All (λ x. AllByRecursion (λ y. eqb x y ≡ false) second) first
    (λ i d within. recursion_from_All (λ y. eqb (slice_index_or first i d) y ≡ false) second
    (λ j e inside. All-from_recursion (λ x. eqb x (slice_index_or second j e) ≡ false) first (not_counted (slice_index_or second j e) first (none j e inside)) i d within)) in
    IsStrictlyIncreasing-from_distinct sorted rising
    (IsDistinct-IsPermutation eqb eqb_both (first ++ second) sorted same
    (distinct_append eqb first second (rising_distinct first one) (rising_distinct second two) across))

-- # The two levels, together

pub together : (first second both : Level) (sorted : List Piece) → IsOrderly first → IsOrderly second → IsNewTo second first.pieces first.members →
    both.work ≡ first.work + second.work → both.length ≡ first.length + second.length →
    IsPermutation (first.pieces ++ second.pieces) sorted → IsJoined sorted both.pieces →
    IsPermutation (first.members ++ second.members) both.members → IsNonDecreasing both.members → AreTogether first second both
together first second both sorted one two new work length same joined members rising = record {
  work = work;
  length = length;
  time = λ time.
      let whole = Covers-append first.pieces second.pieces time in
      let moved = Covers-permutation (first.pieces ++ second.pieces) sorted time same in
      (λ found. whole.0 (moved.1 ((joined.time time).0 found)), λ found. (joined.time time).1 (moved.0 (whole.1 found)));
  separate = joined.separate;
  total = joined.total ∙ sum_by-IsPermutation (λ (p : Piece). p.to - p.from) (first.pieces ++ second.pieces) sorted same
      ∙ sum_by-append (λ (p : Piece). p.to - p.from) first.pieces second.pieces;
  members = members;
  rising = sorted_members first.members second.members both.members one.members two.members new.members members rising;
}

pub few_together : (first second sorted joined : List Piece) → IsPermutation (first ++ second) sorted → IsJoined sorted joined → length joined ≤ length first + length second
few_together first second sorted joined same is =
    omega (arith, is.few, length_permutation (first ++ second) sorted same, length-append first second)
