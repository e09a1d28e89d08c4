-- Pieces that are apart begin at different event points, and none at the last one. So there are fewer of them than event points.
use Rattle.yds_model.proofs.Common.{◌≡◌, ℕ, suc, ◌+◌, ◌-◌, ◌<◌, ◌≤◌, ◌==◌, List, [], ◌∷◌, length, get_or, map, take_all, ap, ◌∙◌, arith, inl, inr, cond, All, AllPairs, Contains, All-cons, All-map, All-tail, cases_lt, cases_eq, eq-eqb, ne_eqb, get_or_default, get_or-le-sum_by, sum_by, sum_by-add, sum_by-le, sum_by_same, sum_by_zero, count, count-cons, AreDifferent, Job, WrittenSlot, Piece, IsForward, AreApart, Level, all_pieces, event_points, IsPlan, length-map}
use Rattle.model_lemmas.proofs.Front.{front_at}
use Rattle.yds_events.proofs.Times.{few_times, not_later}
use Rattle.yds_plan_laws.proofs.Ends.{pieces_end_at_events}
use Rattle.yds_plan_laws.specs.CountLaws.{PiecesAreFew}

-- # Numbers in a list

-- numbers that stand in a list are counted there
counted_all : (xs ys : List ℕ) → All (Contains ys) xs → length xs ≤ sum_by (λ y. count y xs) ys
counted_all [] ys all = omega arith
counted_all (x ∷ xs) ys all =
    let there = all 0 x (omega arith) in
    omega (
      arith,
      sum_by_same (λ y. count y (x ∷ xs)) (λ y. cond (y == x) 1 0 + count y xs) ys (λ k d within. count-cons (get_or ys k d) x xs),
      sum_by-add (λ y. cond (y == x) 1 0) (λ y. count y xs) ys,
      get_or-le-sum_by (λ y. cond (y == x) 1 0) ys there.0 x there.1,
      ap {B = ℕ} (λ b. cond b 1 0) (eq-eqb (get_or ys there.0 x) x there.2),
      counted_all xs ys (All-tail (Contains ys) x xs all),
    )

-- so different ones are no more than it has
different_few : (xs ys : List ℕ) → AreDifferent xs → All (Contains ys) xs → length xs ≤ length ys
different_few xs ys different all = omega (arith, counted_all xs ys all, sum_by-le (λ y. count y xs) 1 ys (λ k d within. different (get_or ys k d)))

-- a number that none of them is isn't counted
uncounted : (number : ℕ) (xs : List ℕ) → All (λ x. number ≡ x → ⊥) xs → count number xs ≡ 0
uncounted number xs none =
    sum_by_zero (λ other. cond (number == other) 1 0) xs (λ k d within. ap {B = ℕ} (λ b. cond b 1 0) (ne_eqb number (get_or xs k d) (none k d within)))

-- one that none of different ones is makes them no less different
pub different_more : (x : ℕ) (xs : List ℕ) → All (λ y. x ≡ y → ⊥) xs → AreDifferent xs → AreDifferent (x ∷ xs)
different_more x xs none different number = elim (cases_eq number x) [
  | inl same ↦ omega (
    arith,
    count-cons number x xs,
    ap {B = ℕ} (λ b. cond b 1 0) (eq-eqb number x same),
    ap (λ n. count n xs) same,
    uncounted x xs none,
  )
  | inr other ↦ omega (arith, count-cons number x xs, ap {B = ℕ} (λ b. cond b 1 0) (ne_eqb number x other), different number)
]

-- # Where pieces begin

-- pieces that are apart begin apart
begin_apart : (one other : Piece) → one.from < one.to → other.from < other.to → AreApart one other → one.from ≡ other.from → ⊥
begin_apart one other forward takes (inl before) same = absurd (omega (arith, before, forward, same))
begin_apart one other forward takes (inr after) same = absurd (omega (arith, after, takes, same))

-- so all of them begin at different times
different_begins : (pieces : List Piece) → All IsForward pieces → AllPairs AreApart pieces → AreDifferent (map (λ piece. piece.from) pieces)
different_begins [] forward apart = λ number. omega arith
different_begins (piece ∷ pieces) forward apart =
    different_more piece.from (map (λ one. one.from) pieces)
    (All-map (λ time. piece.from ≡ time → ⊥) (λ (one : Piece). one.from) pieces
    (λ k d within. begin_apart piece (get_or pieces k d) (forward 0 piece (omega arith)) (forward (suc k) d (omega (arith, within))) (apart 0 (suc k) d (omega arith) (omega (arith, within)))))
    (different_begins pieces (All-tail IsForward piece pieces forward) (λ i j d order within. apart (suc i) (suc j) d (omega (arith, order)) (omega (arith, within))))

-- # The law

-- each begins before the last event point
before_last : (jobs : List Job) (time later : ℕ) → time < later → Contains (event_points jobs) later → time < get_or (event_points jobs) (length (event_points jobs) - 1) 0
before_last jobs time later less (k, within, is) =
    omega (arith, less, not_later jobs k (length (event_points jobs) - 1) (omega (arith, within)) (omega (arith, within)), get_or_default (event_points jobs) k 0 later within ∙ is)

-- so with the last event point there are no more of them than event points
few_pieces : (jobs : List Job) (slots : List WrittenSlot) (levels : List Level) → IsPlan jobs slots levels → 1 ≤ length (all_pieces levels) →
    length (all_pieces levels) + 1 ≤ length (event_points jobs)
few_pieces jobs slots levels plan some =
    let pieces = all_pieces levels in
    let last = get_or (event_points jobs) (length (event_points jobs) - 1) 0 in
    let whole = take_all (length levels) levels (omega arith) in
    let front = front_at jobs levels plan.proper.well_formed plan.proper.pieces plan.proper.windows (length levels) (omega arith) in
    let forward = rw whole at front.forward in
    let ends = rw whole at (pieces_end_at_events jobs slots levels plan (length levels) (omega arith)) in
    let first = ends 0 (record { from = 0; to = 0 }) (omega (arith, some)) in
    omega (
      arith,
      length-map pieces (λ (piece : Piece). piece.from),
      different_few (last ∷ map (λ piece. piece.from) pieces) (event_points jobs)
          (different_more last (map (λ piece. piece.from) pieces)
          (All-map (λ time. last ≡ time → ⊥) (λ (piece : Piece). piece.from) pieces
          (λ k d within same. absurd (omega (arith, same, before_last jobs (get_or pieces k d).from (get_or pieces k d).to (forward k d within) (ends k d within).1))))
          (different_begins pieces forward (rw whole at front.apart)))
          (All-cons (Contains (event_points jobs)) last (map (λ piece. piece.from) pieces)
          (length (event_points jobs) - 1, omega (arith, first.0.1), get_or_default (event_points jobs) (length (event_points jobs) - 1) last 0 (omega (arith, first.0.1)))
          (All-map (Contains (event_points jobs)) (λ (piece : Piece). piece.from) pieces (λ k d within. (ends k d within).0))),
    )

-- which are at most twice as many as jobs
pub pieces_are_few : PiecesAreFew
pieces_are_few jobs slots levels plan = elim (cases_lt (length (all_pieces levels)) 1) [
  | inl none ↦ omega (arith, none)
  | inr some ↦ omega (arith, few_pieces jobs slots levels plan some, few_times jobs)
]
