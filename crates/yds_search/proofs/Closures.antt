-- What the late jobs close upon is full, and nobody outside has a share in it.
use Rattle.yds_model.proofs.Common.{◌≡◌, ℕ, ◌+◌, ◌-◌, ◌<◌, ◌≤◌, ◌⊎◌, min, List, length, get_or, set, zero, suc, refl, sym, ap, subst, inl, inr, arith, nat_le, if◌then◌else◌, get_or-set_same, get_or-set_other, length-set, cases_lt, cases_eq, nat_tests}
use Rattle.yds_events.specs.declared.window.Window.{Window}
use Rattle.yds_events.specs.Window.{window_at}
use Rattle.yds_timetable.specs.Shares.{JobShare, share_at, no_share}
use Rattle.yds_search.specs.Fill.{IsNotAfter, IsFill}
use Rattle.yds_search.specs.Closure.{reach_from, reach_over, AreLateReaches, AreShareReaches, AreMarksOf, AreClosing, IsMarked, AreClosed}

-- from one stretch to the next one on its left
pub reach_step : (late shared : List ℕ) (m p : ℕ) → p < m →
    reach_over late shared m (m - p) ≡ reach_from (reach_over late shared m (m - (p + 1))) (get_or late p 0) (get_or shared p 0) p
reach_step late shared m p within = grind arith

-- the stretches from p on are marked
pub record AreMarkedFrom (late shared : List ℕ) (m p reach : ℕ) (marks : List ℕ) : Type 0 where
  pub all : length marks ≡ m
  pub first : reach ≡ reach_over late shared m (m - p)
  pub each : (k : ℕ) → p ≤ k → k < m → get_or marks k 0 ≡ (if nat_le (reach_over late shared m (m - k)) k then 1 else 0)

-- and one more
pub marked_more : (late shared : List ℕ) (m place after : ℕ) (marks : List ℕ) (reach mark : ℕ) → AreMarkedFrom late shared m place after marks → 1 ≤ place → place ≤ m →
    reach ≡ reach_from after (get_or late (place - 1) 0) (get_or shared (place - 1) 0) (place - 1) → mark ≡ (if nat_le reach (place - 1) then 1 else 0) →
    AreMarkedFrom late shared m (place - 1) reach (set marks (place - 1) mark)
marked_more late shared m place after marks reach mark so_far some upto is marked = grind (arith, cases_eq, get_or-set_other, get_or-set_same, length-set, reach_step, set)

-- what is reached from the right up to stretch p, and before shares of stretch p are looked at
abbrev reach_at : List ℕ → List ℕ → ℕ → ℕ → ℕ
reach_at late shared m p = reach_over late shared m (m - p)

abbrev open_at : List ℕ → List ℕ → ℕ → ℕ → ℕ
open_at late shared m p = min (reach_at late shared m (p + 1)) (get_or late p 0)

step_cases : (after late shared k reach mark : ℕ) → reach ≡ reach_from after late shared k → mark ≡ (if nat_le reach k then 1 else 0) →
    ((min after late ≤ k) × (reach ≡ min (min after late) shared) × (1 ≤ mark)) ⊎ ((k < min after late) × (reach ≡ min after late) × (mark ≡ 0))
step_cases after late shared k reach mark is marked = grind arith

-- what one step from the right does
marks_step : {late shared : List ℕ} {m : ℕ} {marks : List ℕ} → AreMarksOf late shared m marks → (p : ℕ) → p < m →
    ((open_at late shared m p ≤ p) × (reach_at late shared m p ≡ min (open_at late shared m p) (get_or shared p 0)) × IsMarked marks p)
    ⊎ ((p < open_at late shared m p) × (reach_at late shared m p ≡ open_at late shared m p) × (get_or marks p 0 ≡ 0))
marks_step {late} {shared} {m} {marks} are p within = step_cases (reach_at late shared m (p + 1)) (get_or late p 0) (get_or shared p 0) p (reach_at late shared m p)
    (get_or marks p 0) (reach_step late shared m p within) (are.each p within)

reach_less : (after late shared k : ℕ) → reach_from after late shared k ≤ after
reach_less after late shared k = grind (arith, nat_tests)

-- further to the left nothing less is reached
reach_falls : (late shared : List ℕ) (m more count : ℕ) → count ≤ more → reach_over late shared m more ≤ reach_over late shared m count
reach_falls late shared m zero count upto = let none : count ≡ 0 = omega arith in omega (arith, ap (reach_over late shared m) none)
reach_falls late shared m (suc more) count upto = elim (cases_eq count (suc more)) [
  | inl same ↦ omega (arith, ap (reach_over late shared m) same)
  | inr other ↦ omega (
    arith,
    reach_less (reach_over late shared m more) (get_or late (m - suc more) 0) (get_or shared (m - suc more) 0) (m - suc more),
    reach_falls late shared m more count (omega arith),
  )
]

-- a group was filled, and its stretches are marked
record Known (windows : List Window) (wants rooms : List ℕ) (shares : List JobShare) (wants' rooms' late shared marks : List ℕ) : Type 0 where
  fill : IsFill IsNotAfter windows wants rooms shares wants' rooms'
  windows_are : (j : ℕ) → j < length windows → ((window_at windows j).first < (window_at windows j).end) × ((window_at windows j).end ≤ length rooms)
  ends : (i j : ℕ) → i ≤ j → j < length windows → (window_at windows i).end ≤ (window_at windows j).end
  lates : AreLateReaches windows wants' (length windows) (length rooms) late
  shareds : AreShareReaches windows shares (length shares) (length rooms) shared
  are : AreMarksOf late shared (length rooms) marks

-- The stretch is full, and who has a share in it has only marked stretches from p on.
record IsClosedOver (windows : List Window) (shares : List JobShare) (rooms marks : List ℕ) (p k : ℕ) : Type 0 where
  full : get_or rooms k 0 ≡ 0
  next : (x i : ℕ) → x < length shares → (share_at shares x).stretch ≡ k → p ≤ i → i < (window_at windows (share_at shares x).job).end → IsMarked marks i

-- what late jobs that end here reach, and what is reached over further right, is closed
closed_here : {windows : List Window} {wants rooms : List ℕ} {shares : List JobShare} {wants' rooms' late shared marks : List ℕ} →
    Known windows wants rooms shares wants' rooms' late shared marks → (p : ℕ) → p < length rooms → IsMarked marks p →
    ((k : ℕ) → k < p + 1 → reach_at late shared (length rooms) (p + 1) ≤ k → IsClosedOver windows shares rooms' marks (p + 1) k) →
    (k : ℕ) → k ≤ p → open_at late shared (length rooms) p ≤ k → IsClosedOver windows shares rooms' marks p k
closed_here {windows} {wants} {rooms} {shares} {wants'} {rooms'} {late} {shared} {marks} known p within here so_far k before reached =
    elim (cases_lt k (reach_at late shared (length rooms) (p + 1))) [
      | inr further ↦
          let closed = so_far k (omega arith) further in
          record {
            full = closed.full;
            next = λ x i in_range at from upto. elim (cases_eq i p) [
              | inl same ↦ subst (IsMarked marks) (sym same) here
              | inr other ↦ closed.next x i in_range at (omega arith) upto
            ];
          }
      | inl near ↦
          let found = known.lates.some p within (omega (arith, near, reached, before)) in
          let full = known.fill.late found.0 found.1 found.2 k (record { from = omega (arith, found.4); upto = omega (arith, found.3, known.windows_are found.0 found.1) }) in
          record {
            full = full.full;
            next = λ x i in_range at from upto.
                let same : i ≡ p = omega (arith, known.ends (share_at shares x).job found.0 (full.before x no_share in_range at) found.1, found.3) in
                subst (IsMarked marks) (sym same) here;
          }
    ]

-- all the way from the right
closed_from : {windows : List Window} {wants rooms : List ℕ} {shares : List JobShare} {wants' rooms' late shared marks : List ℕ} →
    Known windows wants rooms shares wants' rooms' late shared marks → (rest p : ℕ) → p + rest ≡ length rooms →
    (k : ℕ) → k < p → reach_at late shared (length rooms) p ≤ k → IsClosedOver windows shares rooms' marks p k
closed_from {windows} {wants} {rooms} {shares} {wants'} {rooms'} {late} {shared} {marks} known zero p end k before reached =
    let none : length rooms - p ≡ 0 = omega arith in
    absurd (omega (arith, ap (reach_over late shared (length rooms)) none))
closed_from {windows} {wants} {rooms} {shares} {wants'} {rooms'} {late} {shared} {marks} known (suc rest) p end k before reached =
    let within : p < length rooms = omega (arith, end) in
    elim (marks_step known.are p within) [
      | inr passed ↦ absurd (omega (arith, passed.0, passed.1))
      | inl marked ↦
          let closed = closed_here known p within marked.2 (closed_from known rest (p + 1) (omega (arith, end))) in
          elim (cases_lt k (open_at late shared (length rooms) p)) [
            | inr open_there ↦ closed k (omega arith) open_there
            | inl below ↦
                let found = known.shareds.some p within (omega (arith, marked.1)) in
                let full = known.fill.taken.early found.0 no_share found.1 k (omega (arith, found.4, marked.1)) (omega (arith, found.3)) in
                record {
                  full = full.full;
                  next = λ x i in_range at from upto. (closed p (omega arith) marked.0).next found.0 i found.1 found.3 from
                      (omega (
                        arith,
                        known.ends (share_at shares x).job (share_at shares found.0).job (full.before x no_share in_range at)
                            (known.fill.taken.parts found.0 no_share found.1).known,
                      ));
                }
          ]
    ]

-- what a fill's late jobs close upon
pub fill_closes : (windows : List Window) (wants rooms : List ℕ) (shares : List JobShare) (wants' rooms' marks : List ℕ) →
    IsFill IsNotAfter windows wants rooms shares wants' rooms' →
    ((j : ℕ) → j < length windows → ((window_at windows j).first < (window_at windows j).end) × ((window_at windows j).end ≤ length rooms)) →
    ((i j : ℕ) → i ≤ j → j < length windows → (window_at windows i).end ≤ (window_at windows j).end) →
    AreClosing windows wants' shares (length rooms) marks → AreClosed (λ p. p < length rooms) windows shares wants' rooms' marks
fill_closes windows wants rooms shares wants' rooms' marks fill windows_are ends closing =
    let m : ℕ = length rooms in
    let known : Known windows wants rooms shares wants' rooms' closing.late closing.shared marks =
    record { fill = fill; windows_are = windows_are; ends = ends; lates = closing.lates; shareds = closing.shareds; are = closing.are } in
    let reach : ℕ → ℕ = reach_at closing.late closing.shared m in
    let falls : (p q : ℕ) → p ≤ q → reach p ≤ reach q = λ p q upto. reach_falls closing.late closing.shared m (m - p) (m - q) (omega arith) in
    let marked_at : (p : ℕ) → p < m → reach p ≤ p → IsMarked marks p = λ p within reached. elim (marks_step closing.are p within) [
      | inl marked ↦ marked.2
      | inr passed ↦ absurd (omega (arith, reached, passed.0, passed.1))
    ] in
    let reached_at : (p : ℕ) → p < m → IsMarked marks p → (open_at closing.late closing.shared m p ≤ p) × (reach p ≤ get_or closing.shared p 0) =
    λ p within some. elim (marks_step closing.are p within) [ inl marked ↦ (marked.0, omega (arith, marked.1)) | inr passed ↦ absurd (omega (arith, some, passed.2)) ] in
    let closed : (p : ℕ) → p < m → IsMarked marks p → IsClosedOver windows shares rooms' marks p p =
    λ p within some. closed_here known p within some (closed_from known (m - (p + 1)) (p + 1) (omega arith)) p (omega arith) (reached_at p within some).0 in
    record {
      full = λ k one marked. (closed k one marked).full;
      shared = λ x k within marked inside one.
          let stretch : ℕ = (share_at shares x).stretch in
          let in_range : stretch < m = (fill.taken.parts x no_share within).known_stretch in
          elim (cases_lt stretch k) [
            | inl beyond ↦ (closed stretch in_range marked).next x k within refl (omega arith) inside.upto
            | inr before ↦ marked_at k one (omega (arith, falls k stretch before, (reached_at stretch in_range marked).1, closing.shareds.least x within tt, inside.from))
          ];
      late = λ j k within some inside one.
          let last : ℕ = (window_at windows j).end - 1 in
          let least = closing.lates.least j within some in
          marked_at k one (elim (marks_step closing.are last (omega (arith, windows_are j within))) [
            | inl marked ↦ omega (arith, falls k last (omega (arith, inside.upto)), marked.1, least, inside.from)
            | inr passed ↦ omega (arith, falls k last (omega (arith, inside.upto)), passed.1, least, inside.from)
          ]);
    }
