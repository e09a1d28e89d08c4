-- A plan's pieces begin and end at event points: each unit of time of a level's pieces is one of a member's window, and a window that goes on
-- before or after a piece is covered by the pieces of earlier levels, which then end or begin there.
use Rattle.yds_model.proofs.Common.{◌≡◌, ℕ, zero, suc, ◌+◌, ◌-◌, ◌*◌, ◌<◌, ◌≤◌, ◌⊎◌, List, [], ◌∷◌, ◌++◌, length, get_or, take, refl, sym, ap, subst, ◌∙◌, arith, inl, inr, cond, Bool, true, false, true≢false, ◌&&◌, nat_le, nat_lt, All, Contains, All-nil, All-append, All-contains, Any-append_right, cases_lt, cases_order, cases_Bool, lt-ltb, le-leb, leb-true, ltb-true, and_parts, found_or_none, get_or_default, sum_by-cons, flat_map-take, Job, job_at, WrittenSlot, slots_at, Piece, Covers, AreApart, PiecesFrom, IsConfined, total_length, Level, no_level, level_at, all_members, all_pieces, event_points, DontTouch, IsPlan}
use Rattle.model_lemmas.proofs.Time.{time_within}
use Rattle.model_lemmas.proofs.Front.{front_at}
use Rattle.model_lemmas.proofs.Scale.{scale_exists}
use Rattle.yds_events.proofs.Times.{release_at, deadline_at}
use Rattle.yds_laws.proofs.Explained.{front_different}
use Rattle.yds_laws.proofs.Plans.{plans_are_least}
use Rattle.yds_plan_laws.proofs.Certified.{levels_fill}

-- # Pieces without a unit of time

-- the piece has the unit of time that begins at `time`
abbrev pub has : ℕ → Piece → Bool
has time piece = nat_le piece.from time && nat_lt time piece.to

-- the first piece that has it is parted there
abbrev pub without : ℕ → List Piece → List Piece
without time [] = []
without time (piece ∷ pieces) =
    cond (has time piece) (record { from = piece.from; to = time } ∷ record { from = time + 1; to = piece.to } ∷ pieces) (piece ∷ without time pieces)

-- as two comparisons
pub has_time : (time : ℕ) (piece : Piece) → has time piece ≡ true → (piece.from ≤ time) × (time < piece.to)
has_time time piece passes =
    let both = and_parts (nat_le piece.from time) (nat_lt time piece.to) passes in (leb-true piece.from time both.0, ltb-true time piece.to both.1)

-- what pieces cover they cover with one more before them
pub covers_later : (time : ℕ) (piece : Piece) (pieces : List Piece) → Covers pieces time → Covers (piece ∷ pieces) time
covers_later time piece pieces (k, one, within, is, holds) = (suc k, one, omega (arith, within), is, holds)

-- a time that the first piece hasn't is in the others
pub covers_rest : (time : ℕ) (piece : Piece) (pieces : List Piece) → has time piece ≡ false → Covers (piece ∷ pieces) time → Covers pieces time
covers_rest time piece pieces not (zero, one, within, is, holds) =
    absurd (true≢false (sym (grind (arith, le-leb, lt-ltb)) ∙ not))
covers_rest time piece pieces not (suc k, one, within, is, holds) = (k, one, omega (arith, within), is, holds)

-- it is one unit less
pub less_by_one : (time : ℕ) (pieces : List Piece) → Covers pieces time → total_length (without time pieces) + 1 ≡ total_length pieces
less_by_one time [] (k, one, within, is, holds) = absurd (omega (arith, within))
less_by_one time (piece ∷ pieces) covers = elim (cases_Bool (has time piece)) [
  | inl there ↦
      let both = has_time time piece there in
      rw there (omega (
        arith,
        both.0,
        both.1,
        sum_by-cons (λ (one : Piece). one.to - one.from) (record { from = piece.from; to = time }) (record { from = time + 1; to = piece.to } ∷ pieces),
        sum_by-cons (λ (one : Piece). one.to - one.from) (record { from = time + 1; to = piece.to }) pieces,
        sum_by-cons (λ (one : Piece). one.to - one.from) piece pieces,
      ))
  | inr not ↦ rw not (omega (
    arith,
    sum_by-cons (λ (one : Piece). one.to - one.from) piece (without time pieces),
    sum_by-cons (λ (one : Piece). one.to - one.from) piece pieces,
    less_by_one time pieces (covers_rest time piece pieces not covers),
  ))
]

-- another time that isn't before is one later at least
later : (time other : ℕ) → time ≤ other → (other ≡ time → ⊥) → time + 1 ≤ other
later time other after apart = elim (cases_order time other) [
  | inl same ↦ absurd (apart (sym same))
  | inr (inl less) ↦ omega (arith, less)
  | inr (inr more) ↦ absurd (omega (arith, after, more))
]

-- and has all other times as before
pub others_stay : (time other : ℕ) (pieces : List Piece) → (other ≡ time → ⊥) → Covers pieces other → Covers (without time pieces) other
others_stay time other [] apart (k, one, within, is, holds) = absurd (omega (arith, within))
others_stay time other (piece ∷ pieces) apart covers = elim (cases_Bool (has time piece)) [
  | inl there ↦ rw there (elim (cases_Bool (has other piece)) [
    | inr not ↦ covers_later other _ (record { from = time + 1; to = piece.to } ∷ pieces)
        (covers_later other _ pieces (covers_rest other piece pieces not covers))
    | inl here ↦ elim (cases_lt other time) [
      | inl before ↦ (0, record { from = piece.from; to = time }, omega arith, refl, ((has_time other piece here).0, before))
      | inr after ↦ (1, record { from = time + 1; to = piece.to }, omega arith, refl, (later time other after apart, (has_time other piece here).1))
    ]
  ])
  | inr not ↦ rw not (elim (cases_Bool (has other piece)) [
    | inl here ↦ (0, piece, omega arith, refl, has_time other piece here)
    | inr outside ↦ covers_later other piece (without time pieces) (others_stay time other pieces apart (covers_rest other piece pieces outside covers))
  ])
]

-- # Pieces of one level, and of others

-- what two lists of pieces cover one of them does
pub covers_either : (time : ℕ) (pieces others : List Piece) → Covers (pieces ++ others) time → Covers pieces time ⊎ Covers others time
covers_either time [] others covers = inr covers
covers_either time (piece ∷ pieces) others covers = elim (cases_Bool (has time piece)) [
  | inl here ↦ inl (0, piece, omega arith, refl, has_time time piece here)
  | inr not ↦ elim (covers_either time pieces others (covers_rest time piece (pieces ++ others) not covers)) [
    | inl first ↦ inl (covers_later time piece pieces first)
    | inr second ↦ inr second
  ]
]

-- where pieces don't touch, one of them begins after the end of each before it
pub ends_before : (start i k : ℕ) (pieces : List Piece) (d : Piece) → PiecesFrom start pieces → DontTouch pieces → i < k → k < length pieces →
    (get_or pieces i d).to < (get_or pieces k d).from
ends_before start i k [] d run apart order within = absurd (omega (arith, within))
ends_before start i k (piece ∷ []) d run apart order within = absurd (omega (arith, order, within))
ends_before start zero zero (piece ∷ next ∷ pieces) d run apart order within = absurd (omega (arith, order))
ends_before start zero (suc zero) (piece ∷ next ∷ pieces) d run apart order within = apart.0
ends_before start zero (suc (suc k)) (piece ∷ next ∷ pieces) d run apart order within =
    omega (arith, apart.0, run.2.1, ends_before piece.to 0 (suc k) (next ∷ pieces) d run.2 apart.1 (omega arith) (omega (arith, within)))
ends_before start (suc i) zero (piece ∷ next ∷ pieces) d run apart order within = absurd (omega (arith, order))
ends_before start (suc i) (suc k) (piece ∷ next ∷ pieces) d run apart order within =
    ends_before piece.to i k (next ∷ pieces) d run.2 apart.1 (omega (arith, order)) (omega (arith, within))

-- each takes time
takes_time : (start k : ℕ) (pieces : List Piece) (d : Piece) → PiecesFrom start pieces → k < length pieces → (get_or pieces k d).from < (get_or pieces k d).to
takes_time start k [] d run within = absurd (omega (arith, within))
takes_time start zero (piece ∷ pieces) d run within = run.1
takes_time start (suc k) (piece ∷ pieces) d run within = takes_time piece.to k pieces d run.2 (omega (arith, within))

-- so no other one has the time before one of them
none_before : (k time : ℕ) (pieces : List Piece) (d : Piece) → PiecesFrom 0 pieces → DontTouch pieces → k < length pieces →
    time + 1 ≡ (get_or pieces k d).from → Covers pieces time → ⊥
none_before k time pieces d run apart within is (j, one, inside, same, holds) =
    let there : get_or pieces j d ≡ one = get_or_default pieces j d one inside ∙ same in
    elim (cases_order j k) [
      | inl equal ↦ absurd (omega (arith, is, holds.0, ap (λ (piece : Piece). piece.from) there, ap (λ n. (get_or pieces n d).from) equal))
      | inr (inl less) ↦ absurd (omega (arith, is, holds.1, ap (λ (piece : Piece). piece.to) there, ends_before 0 j k pieces d run apart less within))
      | inr (inr more) ↦ absurd (omega (
        arith,
        is,
        holds.0,
        ap (λ (piece : Piece). piece.from) there,
        ends_before 0 k j pieces d run apart more inside,
        takes_time 0 k pieces d run within,
      ))
    ]

-- nor that after it
none_after : (k time : ℕ) (pieces : List Piece) (d : Piece) → PiecesFrom 0 pieces → DontTouch pieces → k < length pieces →
    time ≡ (get_or pieces k d).to → Covers pieces time → ⊥
none_after k time pieces d run apart within is (j, one, inside, same, holds) =
    let there : get_or pieces j d ≡ one = get_or_default pieces j d one inside ∙ same in
    elim (cases_order j k) [
      | inl equal ↦ absurd (omega (arith, is, holds.1, ap (λ (piece : Piece). piece.to) there, ap (λ n. (get_or pieces n d).to) equal))
      | inr (inl less) ↦ absurd (omega (
        arith,
        is,
        holds.1,
        ap (λ (piece : Piece). piece.to) there,
        ends_before 0 j k pieces d run apart less within,
        takes_time 0 k pieces d run within,
      ))
      | inr (inr more) ↦ absurd (omega (arith, is, holds.0, ap (λ (piece : Piece). piece.from) there, ends_before 0 k j pieces d run apart more inside))
    ]

-- # Each unit of time of the pieces is one of a window

-- the window has the unit of time
abbrev opens : List Job → ℕ → ℕ → Bool
opens jobs time number = nat_le (job_at jobs number).release time && nat_lt time (job_at jobs number).deadline

module _ (jobs : List Job) (planned : List WrittenSlot) (levels : List Level) (plan : IsPlan jobs planned levels) where
  -- the members of the first levels are confined to their pieces without a unit of time that no window of theirs has
  confined_without : (n time : ℕ) → n ≤ length levels →
      ((k : ℕ) → k < length (all_members (take n levels)) → opens jobs time (get_or (all_members (take n levels)) k 0) ≡ false) →
      All (λ number. IsConfined (job_at jobs number) (without time (all_pieces (take n levels)))) (all_members (take n levels))
  confined_without n time within none k d inside unit released due =
      let front = front_at jobs levels plan.proper.well_formed plan.proper.pieces plan.proper.windows n within in
      others_stay time unit (all_pieces (take n levels))
      (λ same. absurd (true≢false (sym (opens_then time unit (get_or (all_members (take n levels)) k d) same released due)
      ∙ ap (opens jobs time) (get_or_default (all_members (take n levels)) k d 0 inside) ∙ none k inside)))
      (front.confined k d inside unit released due)
    where
      -- the window has it
      opens_then : (time unit number : ℕ) → unit ≡ time → (job_at jobs number).release ≤ unit → unit < (job_at jobs number).deadline → opens jobs time number ≡ true
      opens_then time unit number same released due = grind (arith, le-leb, lt-ltb)

  -- so each unit of their pieces is one of a member's window: they fill the pieces
  pub window_with : (i time : ℕ) → i < length levels → Covers (all_pieces (take (suc i) levels)) time →
      (number : ℕ) × Contains (all_members (take (suc i) levels)) number × ((job_at jobs number).release ≤ time) × (time < (job_at jobs number).deadline)
  window_with i time within covers =
      let members = all_members (take (suc i) levels) in
      let pieces = all_pieces (take (suc i) levels) in
      elim (found_or_none (length members) (λ k. opens jobs time (get_or members k 0))) [
        | inl found ↦
            let number = get_or members found.0 0 in
            let both = and_parts (nat_le (job_at jobs number).release time) (nat_lt time (job_at jobs number).deadline) found.2 in
            (number, (found.0, found.1, get_or_default members found.0 number 0 found.1), leb-true _ _ both.0, ltb-true _ _ both.1)
        | inr none ↦
            let least = (plans_are_least jobs planned levels plan).0 in
            let scale = scale_exists planned plan.proper.feasible.solid in
            let feasible = plan.proper.feasible.holds scale.0 scale.1 in
            let front = front_at jobs levels plan.proper.well_formed plan.proper.pieces plan.proper.windows (suc i) within in
            absurd (omega (
              arith,
              levels_fill jobs planned levels plan planned least scale.0 scale.1 i within,
              time_within jobs scale.0 members (without time pieces) (slots_at scale.0 planned) scale.1.positive
                  (front_different jobs levels scale.0 (slots_at scale.0 planned) plan.proper.well_formed feasible plan.proper.members (suc i) front.known)
                  (confined_without (suc i) time within none) feasible.one_at_a_time feasible.in_windows,
              ap (λ n. scale.0 * n) (less_by_one time pieces covers),
              scale.1.positive,
            ))
      ]

  -- # Ends of pieces

  -- the time is a release or a deadline
  abbrev pub is_event : ℕ → Type 0
  is_event time = Contains (event_points jobs) time

  -- both ends are
  abbrev pub ends_at_events : Piece → Type 0
  ends_at_events piece = is_event piece.from × is_event piece.to

  -- each release is
  is_release : (number time : ℕ) → number < length jobs → (job_at jobs number).release ≡ time → is_event time
  is_release number time known is =
      let at = release_at jobs number known in (at.0, at.1, get_or_default (event_points jobs) at.0 time 0 at.1 ∙ at.2 ∙ is)

  -- and each deadline
  is_deadline : (number time : ℕ) → number < length jobs → (job_at jobs number).deadline ≡ time → is_event time
  is_deadline number time known is =
      let at = deadline_at jobs number known in (at.0, at.1, get_or_default (event_points jobs) at.0 time 0 at.1 ∙ at.2 ∙ is)

  module _ (i : ℕ) (within : i < length levels) (earlier : All ends_at_events (all_pieces (take i levels))) (k : ℕ) (d : Piece)
      (inside : k < length (level_at levels i).pieces) where
    -- the pieces up to a level's are the earlier ones and its own
    parts : all_pieces (take (suc i) levels) ≡ all_pieces (take i levels) ++ (level_at levels i).pieces
    parts = flat_map-take (λ (one : Level). one.pieces) levels i no_level within

    -- the level's own are in order
    order : PiecesFrom 0 (level_at levels i).pieces
    order = (plan.proper.pieces i within).in_order

    -- and don't touch
    touch : DontTouch (level_at levels i).pieces
    touch = plan.pieces_apart i no_level within

    -- the piece takes time
    takes : (get_or (level_at levels i).pieces k d).from < (get_or (level_at levels i).pieces k d).to
    takes = takes_time 0 k (level_at levels i).pieces d order inside

    -- a time of the piece is covered
    own_time : (time : ℕ) → (get_or (level_at levels i).pieces k d).from ≤ time → time < (get_or (level_at levels i).pieces k d).to →
        Covers (all_pieces (take (suc i) levels)) time
    own_time time from to = rw parts (Any-append_right (λ piece. (piece.from ≤ time) × (time < piece.to)) (all_pieces (take i levels)) (level_at levels i).pieces
        (k, get_or (level_at levels i).pieces k d, inside, get_or_default (level_at levels i).pieces k (get_or (level_at levels i).pieces k d) d inside, (from, to)))

    -- and so is each time of a member's window
    window_time : (number time : ℕ) → Contains (all_members (take (suc i) levels)) number → (job_at jobs number).release ≤ time →
        time < (job_at jobs number).deadline → Covers (all_pieces (take i levels)) time ⊎ Covers (level_at levels i).pieces time
    window_time number time has from to =
        let front = front_at jobs levels plan.proper.well_formed plan.proper.pieces plan.proper.windows (suc i) within in
        covers_either time (all_pieces (take i levels)) (level_at levels i).pieces
        (rw parts at (All-contains (λ one. IsConfined (job_at jobs one) (all_pieces (take (suc i) levels))) (all_members (take (suc i) levels)) number front.confined has time from to))

    -- the members are jobs
    member_known : (number : ℕ) → Contains (all_members (take (suc i) levels)) number → number < length jobs
    member_known number has =
        All-contains (λ one. one < length jobs) (all_members (take (suc i) levels)) number
        (front_at jobs levels plan.proper.well_formed plan.proper.pieces plan.proper.windows (suc i) within).known has

    -- an earlier piece is apart from it
    earlier_apart : (j : ℕ) (one : Piece) → j < length (all_pieces (take i levels)) → get_or (all_pieces (take i levels)) j one ≡ one →
        AreApart (get_or (level_at levels i).pieces k d) one
    earlier_apart j one there is = subst (AreApart (get_or (level_at levels i).pieces k d)) is ((plan.proper.pieces i within).apart k d inside j one there)

    -- the piece begins where a window does, or else where an earlier piece ends
    begins_at_event : is_event (get_or (level_at levels i).pieces k d).from
    begins_at_event =
        let piece = get_or (level_at levels i).pieces k d in
        let found = window_with i piece.from within (own_time piece.from (omega arith) takes) in
        elim (cases_lt (job_at jobs found.0).release piece.from) [
          | inr released ↦ is_release found.0 piece.from (member_known found.0 found.1) (omega (arith, released, found.2))
          | inl before ↦ elim (window_time found.0 (piece.from - 1) found.1 (omega (arith, before)) (omega (arith, before, found.3))) [
            | inr own ↦ absurd (none_before k (piece.from - 1) (level_at levels i).pieces d order touch inside (omega (arith, before)) own)
            | inl (j, one, there, is, holds) ↦ elim (earlier_apart j one there is) [
              | inl after ↦ absurd (omega (arith, after, takes, holds.0))
              | inr ends ↦
                  let same : one.to ≡ piece.from = omega (arith, ends, holds.1) in
                  subst is_event (ap (λ (p : Piece). p.to) is ∙ same) (earlier j one there).1
            ]
          ]
        ]

    -- and ends where a window does, or else where an earlier piece begins
    ends_at_event : is_event (get_or (level_at levels i).pieces k d).to
    ends_at_event =
        let piece = get_or (level_at levels i).pieces k d in
        let found = window_with i (piece.to - 1) within (own_time (piece.to - 1) (omega (arith, takes)) (omega (arith, takes))) in
        elim (cases_lt piece.to (job_at jobs found.0).deadline) [
          | inr due ↦ is_deadline found.0 piece.to (member_known found.0 found.1) (omega (arith, due, found.3, takes))
          | inl later ↦ elim (window_time found.0 piece.to found.1 (omega (arith, found.2)) later) [
            | inr own ↦ absurd (none_after k piece.to (level_at levels i).pieces d order touch inside refl own)
            | inl (j, one, there, is, holds) ↦ elim (earlier_apart j one there is) [
              | inr before ↦ absurd (omega (arith, before, takes, holds.1))
              | inl begins ↦
                  let same : one.from ≡ piece.to = omega (arith, begins, holds.0) in
                  subst is_event (ap (λ (p : Piece). p.from) is ∙ same) (earlier j one there).0
            ]
          ]
        ]

  -- so all of them do
  pub pieces_end_at_events : (n : ℕ) → n ≤ length levels → All ends_at_events (all_pieces (take n levels))
  pieces_end_at_events zero within = All-nil ends_at_events
  pieces_end_at_events (suc n) within =
      let earlier = pieces_end_at_events n (omega (arith, within)) in
      rw (flat_map-take (λ (one : Level). one.pieces) levels n no_level within)
      (All-append ends_at_events (all_pieces (take n levels)) (level_at levels n).pieces earlier
      (λ k d inside. (begins_at_event n within earlier k d inside, ends_at_event n within earlier k d inside)))
