-- Pieces one after another, and what they cover.
use Rattle.yds_model.proofs.Common.{◌≡◌, ℕ, zero, suc, ◌+◌, ◌-◌, ◌<◌, ◌≤◌, true, false, List, length, arith, inl, inr, ◌↔◌, nat_le, nat_lt, IsPartitionPoint, IsPartitionedBy, cases_lt, leb-true, leb-false, ltb-true, ltb-false, get_or_default, IsPartitionedBy-leb, IsPartitionedBy-ltb, Level}
use Rattle.yds_checker.specs.declared.placed.Placed.{Placed}
use Rattle.yds_checker.specs.Placed.{holding}
use Rattle.base.specs.declared.limits.TheConstants.{MAX_LEVELS}
use Rattle.yds_checker.specs.Heights.{no_placed, placed_at, AreHeights, AreWithin}
use Rattle.yds_checker.specs.PiecesInTurn.{AreInTurn, AreJoined}
use Rattle.yds_checker.specs.Standing.{AreInRun}
use Rattle.yds_checker.proofs.Units.{Holds, held_at, held_where, held_twice}

-- pieces in rising order of which no two overlap are in turn
pub run_in_turn : (levels : List Level) (placed : List Placed) → AreInRun levels placed → AreInTurn placed
run_in_turn levels placed run = record {
  forward = λ i within. (run.kept.each i no_placed within).1;
  later = λ i j order within. elim (cases_lt (placed_at placed j).from (placed_at placed i).to) [
    | inl early ↦
        let time = (placed_at placed j).from in
        let first : Holds (length levels) time (placed_at placed i) =
        ((run.kept.each i no_placed (omega arith)).0, (run.rising i j no_placed (omega arith) within, early)) in
        let second : Holds (length levels) time (placed_at placed j) =
        ((run.kept.each j no_placed within).0, (omega arith, (run.kept.each j no_placed within).1)) in
        absurd (omega (arith, held_twice (length levels) time i j placed order within first second, run.apart time))
    | inr after ↦ after
  ];
}

-- a place up to another has no later end
ends_rise_at : (placed : List Placed) (i j : ℕ) → AreInTurn placed → i ≤ j → j < length placed → (placed_at placed i).to ≤ (placed_at placed j).to
ends_rise_at placed i j turn order within = grind (arith, cases_lt)

starts_rise_at : (placed : List Placed) (i j : ℕ) → AreInTurn placed → i ≤ j → j < length placed → (placed_at placed i).from ≤ (placed_at placed j).from
starts_rise_at placed i j turn order within = grind (arith, cases_lt)

-- so those that have ended stand in front, and those that have begun
pub ends_partition : (placed : List Placed) (time : ℕ) → AreInTurn placed → IsPartitionedBy (λ piece. nat_le piece.to time) placed
ends_partition placed time turn = grind (arith, IsPartitionedBy-leb, ends_rise_at, get_or_default)

pub starts_partition : (placed : List Placed) (time : ℕ) → AreInTurn placed → IsPartitionedBy (λ piece. nat_lt piece.from time) placed
starts_partition placed time turn = grind (arith, IsPartitionedBy-ltb, get_or_default, starts_rise_at)

-- what a search for a window finds: the first piece that hasn't ended by its start, and the first that hasn't begun by its end
pub record Around (placed : List Placed) (from to first end : ℕ) : Type 0 where
  pub bound : end ≤ length placed
  pub ended : (i : ℕ) → i < first → i < length placed → (placed_at placed i).to ≤ from
  pub lasts : (i : ℕ) → first ≤ i → i < length placed → from < (placed_at placed i).to
  pub begun : (i : ℕ) → i < end → i < length placed → (placed_at placed i).from < to
  pub begins : (i : ℕ) → end ≤ i → i < length placed → to ≤ (placed_at placed i).from

pub around_found : (placed : List Placed) (from to first end : ℕ) → end ≤ length placed →
    IsPartitionPoint (λ piece. nat_le piece.to from ≡ true) (λ piece. nat_le piece.to from ≡ false) placed first →
    IsPartitionPoint (λ piece. nat_lt piece.from to ≡ true) (λ piece. nat_lt piece.from to ≡ false) placed end → Around placed from to first end
around_found placed from to first end bound ended begun = grind (arith, leb-false, leb-true, ltb-false, ltb-true)

-- each of pieces that are joined is of the level or of an earlier one
low_in : (placed : List Placed) (level first end i : ℕ) → first ≤ i → i < end → AreJoined placed level first end → (placed_at placed i).level < level + 1
low_in placed level first end i after before joined = grind (arith, cases_lt)

-- pieces that are joined hold each unit of time from the start up to the end of one of them
joined_hold : (placed : List Placed) (level from first end n : ℕ) → first + n < end → end ≤ length placed → (placed_at placed first).from ≤ from →
    AreJoined placed level first end → (time : ℕ) → from ≤ time → time < (placed_at placed (first + n)).to → 1 ≤ holding (level + 1) time placed
joined_hold placed level from first end zero inside bound begun joined time after before =
    let same : first + zero ≡ first = omega arith in
    let ends = rw same at before in
    held_at (level + 1) time first placed (omega arith) (low_in placed level first end first (omega arith) (omega arith) joined, (omega (arith, begun, after), ends))
joined_hold placed level from first end (suc n) inside bound begun joined time after before = elim (cases_lt time (placed_at placed (first + n)).to) [
  | inl early ↦ joined_hold placed level from first end n (omega arith) bound begun joined time after early
  | inr late ↦
      let next : first + suc n ≡ first + n + 1 = omega arith in
      let ends = rw next at before in
      let join = joined.joins (first + n) (omega arith) (omega arith) in
      held_at (level + 1) time (first + n + 1) placed (omega arith)
      (low_in placed level first end (first + n + 1) (omega arith) (omega arith) joined, (omega (arith, join.touches, late), ends))
]

-- so they cover the window, where the first has begun by its start and the last ends at its end or later
pub joined_cover : (placed : List Placed) (level from to first end : ℕ) → first < end → end ≤ length placed → (placed_at placed first).from ≤ from →
    to ≤ (placed_at placed (end - 1)).to → AreJoined placed level first end → (time : ℕ) → from ≤ time → time < to → 1 ≤ holding (level + 1) time placed
joined_cover placed level from to first end some bound begun ends joined time after before =
    let last : first + (end - 1 - first) ≡ end - 1 = omega arith in
    joined_hold placed level from first end (end - 1 - first) (omega arith) bound begun joined time after (rw last (omega (arith, before, ends)))

-- a unit of time that is held lies in the piece that has it, and in no other
held_there : (placed : List Placed) (level time i : ℕ) → AreInTurn placed → i < length placed → (placed_at placed i).from ≤ time →
    time < (placed_at placed i).to → 1 ≤ holding (level + 1) time placed → (placed_at placed i).level ≤ level
held_there placed level time i turn within begun before held =
    let found = held_where (level + 1) time placed held in
    let j = found.0 in
    elim (cases_lt i j) [
      | inl later ↦ absurd (omega (arith, turn.later i j later found.1, found.2.1.0, before))
      | inr not_later ↦ elim (cases_lt j i) [
        | inl earlier ↦ absurd (omega (arith, turn.later j i earlier within, found.2.1.1, begun))
        | inr same ↦
            let one : i ≡ j = omega arith in
            rw one (omega (arith, found.2.0))
      ]
    ]

-- a unit of time that is held just as a piece ends lies in the next one
held_next : (placed : List Placed) (level i : ℕ) → AreInTurn placed → i + 1 < length placed →
    1 ≤ holding (level + 1) (placed_at placed i).to placed → (placed_at placed (i + 1)).from ≡ (placed_at placed i).to
held_next placed level i turn within held =
    let time = (placed_at placed i).to in
    let found = held_where (level + 1) time placed held in
    let j = found.0 in
    let order = turn.later i (i + 1) (omega arith) within in
    elim (cases_lt i j) [
      | inl later ↦ omega (arith, order, starts_rise_at placed (i + 1) j turn (omega arith) found.1, found.2.1.0)
      | inr not_later ↦ absurd (omega (arith, ends_rise_at placed j i turn (omega arith) (omega arith), found.2.1.1))
    ]

-- a window that is covered begins in the first piece around it, ends in the last, and those between are joined
pub record Covered (placed : List Placed) (level from to first end : ℕ) : Type 0 where
  pub some : first < end
  pub begun : (placed_at placed first).from ≤ from
  pub ends : to ≤ (placed_at placed (end - 1)).to
  pub joined : AreJoined placed level first end

pub cover_joined : (placed : List Placed) (level from to first end : ℕ) → AreInTurn placed → Around placed from to first end → from < to →
    ((time : ℕ) → from ≤ time → time < to → 1 ≤ holding (level + 1) time placed) → Covered placed level from to first end
cover_joined placed level from to first end turn around order covers =
    let start = held_where (level + 1) from placed (covers from (omega arith) order) in
    let i = start.0 in
    let first_before : first ≤ i = elim (cases_lt i first) [
      | inl early ↦ absurd (omega (arith, around.ended i early start.1, start.2.1.1))
      | inr after ↦ after
    ] in
    let some : first < end = elim (cases_lt i end) [
      | inl inside ↦ omega arith
      | inr past ↦ absurd (omega (arith, around.begins i past start.1, start.2.1.0))
    ] in
    let bound = around.bound in
    let finish = held_where (level + 1) (to - 1) placed (covers (to - 1) (omega arith) (omega arith)) in
    let j = finish.0 in
    let last : j ≡ end - 1 = elim (cases_lt j (end - 1)) [
      | inl early ↦
          absurd (omega (arith, turn.later j (end - 1) early (omega arith), around.begun (end - 1) (omega arith) (omega arith), finish.2.1.1))
      | inr reached ↦ elim (cases_lt j end) [
        | inl inside ↦ omega arith
        | inr past ↦ absurd (omega (arith, around.begins j past finish.1, finish.2.1.0))
      ]
    ] in
    record {
      some = some;
      begun = omega (arith, starts_rise_at placed first i turn first_before start.1, start.2.1.0);
      ends = rw (← last) (omega (arith, finish.2.1.1));
      joined = record {
        last = rw (← last) (omega (arith, finish.2.0));
        joins = λ k after before.
            let ended = turn.forward k (omega arith) in
            let lasts = around.lasts k after (omega arith) in
            let next = turn.later k (k + 1) (omega arith) (omega arith) in
            let begun = around.begun (k + 1) (omega arith) (omega arith) in
            let piece = placed_at placed k in
            record {
              low = held_there placed level (piece.to - 1) k turn (omega arith) (omega arith) (omega arith)
                  (covers (piece.to - 1) (omega arith) (omega arith));
              more = omega arith;
              touches = held_next placed level k turn (omega arith) (covers piece.to (omega arith) (omega arith));
            };
      };
    }

-- by their heights it is told whether pieces are joined
pub heights_tell : (placed : List Placed) (nodes : List ℕ) (level first end : ℕ) → AreHeights placed nodes → first < end → end ≤ length placed →
    level < MAX_LEVELS → (placed_at placed (end - 1)).level ≤ level →
    (AreWithin nodes (length placed + first) (length placed + end - 1) level ↔ AreJoined placed level first end)
heights_tell placed nodes level first end are some bound low last = (
  λ within. record {
    last = last;
    joins = λ i after before. (are.leaf i (omega arith) level low).0 (within (length placed + i) (omega arith) (omega arith));
  },
  λ joined k after before.
      let i : ℕ = k - length placed in
      let same : k ≡ length placed + i = omega arith in
      rw same ((are.leaf i (omega arith) level low).1 (joined.joins i (omega arith) (omega arith))),
)
