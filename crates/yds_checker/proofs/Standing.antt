-- Levels whose pieces stand, and the list of all their pieces.
use Rattle.yds_model.proofs.Common.{◌≡◌, ℕ, zero, suc, ◌+◌, ◌<◌, ◌≤◌, List, length, get_or, take, max, cond, arith, below_more, inl, inr, add-one, length-take, get_or-take, All, cases_lt, get_or_default, sum_by-append, Each, Piece, IsForward, AreApart, Level, no_level, level_at, all_pieces, PiecesStand, IsFirstFailure, flat_map-take, All-flat}
use Rattle.model_lemmas.proofs.Front.{pieces_forward}
use Rattle.yds_checker.specs.declared.placed.Placed.{Placed}
use Rattle.yds_checker.specs.Placed.{has_unit, covering, ArePlaced, AreByStart, AreApartBelow}
use Rattle.yds_checker.specs.Standing.{IsOrdered, AreInRun}
use Rattle.yds_checker.proofs.Units.{no_piece, covered_at, covered_where, in_order_once, apart_in_fewer}

-- of levels in order each piece takes time
pub front_forward : (levels : List Level) (count : ℕ) → count ≤ length levels → Each count (λ i. IsOrdered (level_at levels i)) →
    All (λ (level : Level). All IsForward level.pieces) (take count levels)
front_forward levels count few ordered i d within = grind (arith, get_or-take, get_or_default, length-take, pieces_forward)

-- the pieces of one level more cover each unit of time as often as those before and its own together
covering_more : (time : ℕ) (levels : List Level) (n : ℕ) → n < length levels →
    covering time (all_pieces (take (n + 1) levels)) ≡ covering time (all_pieces (take n levels)) + covering time (level_at levels n).pieces
covering_more time levels n within =
    rw (add-one, flat_map-take (λ (one : Level). one.pieces) levels n no_level within)
    (sum_by-append (λ (p : Piece). cond (has_unit time p.from p.to) 1 0) (all_pieces (take n levels)) (level_at levels n).pieces)

-- pieces that are apart have no unit of time in common
none_common : (one other : Piece) (time : ℕ) → AreApart one other → one.from ≤ time → time < one.to → other.from ≤ time → time < other.to → ⊥
none_common one other time (inl before) a b c d = absurd (omega arith)
none_common one other time (inr after) a b c d = absurd (omega arith)

-- of levels that stand no two pieces cover one unit of time
pub stand_once : (levels : List Level) (n : ℕ) → n ≤ length levels → Each n (PiecesStand levels) → (time : ℕ) →
    covering time (all_pieces (take n levels)) ≤ 1
stand_once levels zero within stand time = omega arith
stand_once levels (suc n) within stand time =
    let before = stand_once levels n (omega arith) (λ i less. stand i (omega arith)) time in
    let level = level_at levels n in
    let own = in_order_once 0 time level.pieces (stand n (omega arith)).in_order in
    let more = rw add-one at (covering_more time levels n (omega arith)) in
    elim (cases_lt 0 (covering time (all_pieces (take n levels)))) [
      | inl some ↦ elim (cases_lt 0 (covering time level.pieces)) [
        | inl here ↦
            let early = covered_where time (all_pieces (take n levels)) (omega (arith, some)) in
            let late = covered_where time level.pieces (omega (arith, here)) in
            absurd (none_common (get_or level.pieces late.0 no_piece) (get_or (all_pieces (take n levels)) early.0 no_piece) time
            ((stand n (omega arith)).apart late.0 no_piece late.1 early.0 no_piece early.1) late.2 late.3 early.2 early.3)
        | inr none ↦ omega (arith, more, before, none)
      ]
      | inr none ↦ omega (arith, more, own.0, none)
    ]

-- two pieces that have no unit of time in common are apart, if each takes time
apart_pieces : (one other : Piece) → IsForward one → IsForward other →
    ((time : ℕ) → one.from ≤ time → time < one.to → other.from ≤ time → time < other.to → ⊥) → AreApart one other
apart_pieces one other forward also none = grind (arith, cases_lt, max)

-- a level in order stands, where its pieces and those before cover no unit of time twice
pub level_stands : (levels : List Level) (i : ℕ) → i < length levels → Each (i + 1) (λ k. IsOrdered (level_at levels k)) →
    ((time : ℕ) → covering time (all_pieces (take (i + 1) levels)) ≤ 1) → PiecesStand levels i
level_stands levels i within ordered once =
    let level = level_at levels i in
    let early = all_pieces (take i levels) in
    let order = ordered i (omega arith) in
    let own = pieces_forward 0 level.pieces order.in_order in
    let earlier : All IsForward early =
    All-flat IsForward (λ (one : Level). one.pieces) (take i levels) (front_forward levels i (omega arith) (λ k less. ordered k (omega arith))) in
    record {
      some = order.some;
      in_order = order.in_order;
      apart = λ j d inside k e placed.
          apart_pieces (get_or level.pieces j d) (get_or early k e) (own j d inside) (earlier k e placed)
          (λ time a b a' b'.
          absurd (omega (
            arith,
            covering_more time levels i within,
            once time,
            covered_at time j level.pieces d inside a b,
            covered_at time k early e placed a' b',
          )));
    }

-- the levels stand of which the pieces are apart in the list
pub apart_stand : (levels : List Level) (ordered apart : ℕ) (placed : List Placed) → ordered ≤ length levels → Each ordered (λ i. IsOrdered (level_at levels i)) →
    ArePlaced levels ordered placed → apart ≤ ordered → AreApartBelow apart placed → Each apart (PiecesStand levels)
apart_stand levels ordered apart placed few order are less once i within =
    level_stands levels i (omega arith) (λ k before. order k (omega arith))
    (λ time. rw (← are.same (i + 1) time (omega arith)) (apart_in_fewer (i + 1) apart placed (omega arith) once time))

-- so where there are more levels, the next one is the first that doesn't stand
pub first_wrong : (levels : List Level) (ordered apart : ℕ) (placed : List Placed) → ordered ≤ length levels → Each ordered (λ i. IsOrdered (level_at levels i)) →
    (ordered < length levels → IsOrdered (level_at levels ordered) → ⊥) → ArePlaced levels ordered placed → apart ≤ ordered → AreApartBelow apart placed →
    (apart < ordered → AreApartBelow (apart + 1) placed → ⊥) → apart < length levels → IsFirstFailure (length levels) (PiecesStand levels) apart
first_wrong levels ordered apart placed few order wrong are less once not_once within = record {
  within = within;
  before = apart_stand levels ordered apart placed few order are less once;
  fails = λ stands. elim (cases_lt apart ordered) [
    | inl early ↦
        not_once early (λ time. rw (are.same (apart + 1) time (omega arith))
        (stand_once levels (apart + 1) (omega arith) (below_more _ _ (apart_stand levels ordered apart placed few order are less once) stands) time))
    | inr reached ↦
        let same : apart ≡ ordered = omega arith in
        wrong (omega arith) (rw (← same) (record { some = stands.some; in_order = stands.in_order }))
  ];
}

-- and where there are none, all stand, and the list is a run
pub all_in_run : (levels : List Level) (ordered apart : ℕ) (placed : List Placed) → ordered ≤ length levels → ArePlaced levels ordered placed →
    AreByStart placed → apart ≤ ordered → AreApartBelow apart placed → length levels ≤ apart → AreInRun levels placed
all_in_run levels ordered apart placed few are rising less once all =
    let same : ordered ≡ length levels = omega arith in
    let last : apart ≡ length levels = omega arith in
    record { kept = rw same at are; rising = rising; apart = rw last at once }
