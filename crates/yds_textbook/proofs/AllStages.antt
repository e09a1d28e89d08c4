-- Stages together, one after another: what holds of those that follow holds with the one before them.
use Rattle.yds_model.proofs.Common.{◌≡◌, ℕ, zero, suc, ◌+◌, ◌*◌, ◌<◌, ◌≤◌, ◌⊎◌, ◌==◌, List, [], ◌∷◌, length, get_or, map, ◌∙◌, sym, ap, arith, inl, inr, cond, refl, true, false, subst, Bool, nat_lt, not, All, AllPairs, Contains, flat_map, range_with_len, cases_Bool, cases_eq, eq-eqb, ne_eqb, both_ways, not-true, not_from_false, lt-ltb, ltb-true, false_from_ne_true, length-append, sum_by-append, AllPairs-filter, length-range_with_len, get_or-range_with_len, length-filter_both, All-nil, All-append, All-weaker, All-contains, Contains-get_or, Job, job_at, Piece, stretches, stretch_at, AllPairs-append, sum_by_zero, contains_filter}
use Rattle.yds_events.specs.Window.{length_at, IsInWindow}
use Rattle.yds_timetable.specs.Shares.{JobShare}
use Rattle.yds_search.specs.Found.{Group, group_at, per_time, per_work, units_of_job, units_in_stretch}
use Rattle.yds_search.specs.Views.{group_view}
use Rattle.yds_search.proofs.KeySums.{over, over_same, count_all, All-range}
use Rattle.base.specs.Numbers.{sum_below}
use Rattle.model_lemmas.proofs.SumsBelow.{sum_below_at_most, sum_below-add, sum_numbers}
use Rattle.yds_critical.specs.declared.interval.Interval.{Interval}
use Rattle.yds_critical.specs.Critical.{IsCritical}
use Rattle.yds_contract.specs.Contracted.{place, Removes}
use Rattle.yds_textbook.specs.declared.stage.Stage.{Stage}
use Rattle.yds_textbook.specs.Waiting.{contracted_jobs, CanWait, lies_in, inside, outside, stretch_lies_in, stretches_inside}
use Rattle.yds_textbook.specs.Stages.{IsStage}
use Rattle.yds_textbook.specs.Together.{stands_among, stage_of_job, stage_of_stretch}
use Rattle.yds_textbook.proofs.Members.{stands_there, stands_if, stands_not, kept_from, first_passes, first_fails, over_is_below, sum_of_some}
use Rattle.yds_textbook.proofs.Left.{lies_inside}
use Rattle.yds_textbook.proofs.OneStage.{IsAhead, IsOwnShare, IsInTurn, IsEarliest, IsServed, served_in_real_time, members_work, lengths_inside, some_work, some_length}
use Rattle.yds_textbook.proofs.Stands.{IsBetween, IsLeft, count_left, left_before, left_outside, stays_left, window_in_interval}

abbrev pub groups_of : List Stage → List Group
groups_of stages = map (λ stage. group_view stage.group) stages

abbrev pub shares_of : List Stage → List JobShare
shares_of stages = flat_map (λ stage. stage.shares.items) stages

-- the group of a job, and of a stretch
abbrev pub group_of_job : List Stage → ℕ → Group
group_of_job stages j = group_at (groups_of stages) (stage_of_job stages j)

abbrev pub group_of_stretch : List Stage → ℕ → Group
group_of_stretch stages k = group_at (groups_of stages) (stage_of_stretch stages k)

-- a share of a job in a stretch of its window, both of the same stage
pub record IsShareOf (jobs : List Job) (stages : List Stage) (share : JobShare) : Type 0 where
  pub known : share.job < length jobs
  pub known_stretch : share.stretch < length (stretches jobs)
  pub some : 1 ≤ share.units
  pub in_window : IsInWindow jobs share.job share.stretch
  pub grouped : stage_of_job stages share.job < length stages
  pub same_stage : stage_of_stretch stages share.stretch ≡ stage_of_job stages share.job

-- of shares of one stage
pub record IsEarliestOfStage (jobs : List Job) (stages : List Stage) (late early : JobShare) : Type 0 where
  pub comes : stage_of_job stages late.job ≡ stage_of_job stages early.job → IsEarliest jobs late early

pub record AreTogether (jobs : List Job) (removed : List Piece) (waiting : List ℕ) (stages : List Stage) : Type 0 where
  pub job_in : (j : ℕ) → Contains waiting j → stage_of_job stages j < length stages
  pub job_waits : (j : ℕ) → stage_of_job stages j < length stages → Contains waiting j
  pub stretch_left : (k : ℕ) → stage_of_stretch stages k < length stages → (k < length (stretches jobs)) × IsLeft jobs removed k
  -- each window is covered by the stretches of its own stage and of earlier ones, but for what is removed
  pub windows : (j k : ℕ) → Contains waiting j → k < length (stretches jobs) → IsInWindow jobs j k → IsLeft jobs removed k →
      stage_of_stretch stages k ≤ stage_of_job stages j
  pub some : (i : ℕ) → i < length stages → (1 ≤ (group_at (groups_of stages) i).work) × (1 ≤ (group_at (groups_of stages) i).length)
  pub works : (i : ℕ) → i < length stages →
      (group_at (groups_of stages) i).work ≡ over (length jobs) (λ j. cond (stage_of_job stages j == i) (job_at jobs j).work 0)
  pub lengths : (i : ℕ) → i < length stages →
      (group_at (groups_of stages) i).length ≡ over (length (stretches jobs)) (λ k. cond (stage_of_stretch stages k == i) (length_at jobs k) 0)
  pub slowing : (i : ℕ) → i + 1 < length stages →
      (group_at (groups_of stages) (i + 1)).work * (group_at (groups_of stages) i).length ≤ (group_at (groups_of stages) i).work * (group_at (groups_of stages) (i + 1)).length
  pub own : All (IsShareOf jobs stages) (shares_of stages)
  pub served : (j : ℕ) → Contains waiting j → units_of_job (shares_of stages) j ≡ per_work (group_of_job stages j) * (job_at jobs j).work
  pub full : (k : ℕ) → stage_of_stretch stages k < length stages → units_in_stretch (shares_of stages) k ≡ per_time (group_of_stretch stages k) * length_at jobs k
  pub in_turn : AllPairs (IsInTurn jobs) (shares_of stages)
  pub earliest : All (λ late. All (IsEarliestOfStage jobs stages late) (shares_of stages)) (shares_of stages)
  pub few : length (shares_of stages) ≤ length waiting + count_left jobs removed

-- no stage, where none waits
pub none_together : (jobs : List Job) (removed : List Piece) (waiting : List ℕ) → waiting ≡ [] → AreTogether jobs removed waiting []
none_together jobs removed waiting none = grind (arith, All-nil)

-- a test against the first place, and against a later one
not_first : (at v : ℕ) → cond (suc at == 0) v 0 ≡ 0
not_first at v = ap (λ c. cond c v 0) (ne_eqb (suc at) 0 (λ same. omega (arith, same)))

later_is : (place at i v : ℕ) → (place ≡ 0) ⊎ (place ≡ suc at) → (place ≡ 0 → at ≡ i → ⊥) → cond (place == suc i) v 0 ≡ cond (at == i) v 0
later_is place at i v (inl first) none =
    ap (λ c. cond c v 0) (ne_eqb place (suc i) (λ same. omega (arith, first, same))) ∙ sym (ap (λ c. cond c v 0) (ne_eqb at i (none first)))
later_is place at i v (inr later) none = elim (cases_eq at i) [
  | inl same ↦ ap (λ c. cond c v 0) (eq-eqb place (suc i) (omega (arith, later, same))) ∙ sym (ap (λ c. cond c v 0) (eq-eqb at i same))
  | inr other ↦ ap (λ c. cond c v 0) (ne_eqb place (suc i) (λ is. other (omega (arith, is, later)))) ∙ sym (ap (λ c. cond c v 0) (ne_eqb at i other))
]

-- speeds that don't rise from the first stage to the next, nor later
slow_from : (stage : Stage) (stages : List Stage) →
    ((next : Stage) (more : List Stage) → stages ≡ next ∷ more →
    (group_view next.group).work * (group_view stage.group).length ≤ (group_view stage.group).work * (group_view next.group).length) →
    ((i : ℕ) → i + 1 < length stages → (group_at (groups_of stages) (i + 1)).work * (group_at (groups_of stages) i).length
    ≤ (group_at (groups_of stages) i).work * (group_at (groups_of stages) (i + 1)).length) →
    (i : ℕ) → i + 1 < length (stage ∷ stages) → (group_at (groups_of (stage ∷ stages)) (i + 1)).work * (group_at (groups_of (stage ∷ stages)) i).length
    ≤ (group_at (groups_of (stage ∷ stages)) i).work * (group_at (groups_of (stage ∷ stages)) (i + 1)).length
slow_from stage [] first later i below = absurd (omega (arith, below))
slow_from stage (next ∷ stages) first later zero below = first next stages refl
slow_from stage (next ∷ stages) first later (suc i) below =
    let same : suc i + 1 ≡ suc (i + 1) = omega arith in
    rw same (later i (omega (arith, below)))

-- what is counted before, and what after
counts_more : (one after before : Bool) → (one ≡ true → (before ≡ true) × (after ≡ false)) → (after ≡ true → before ≡ true) →
    cond one 1 0 + cond after 1 0 ≤ cond before 1 0
counts_more true after before first second = let is = first refl in rw (is.0, is.1) (omega arith)
counts_more false true before first second = rw (second refl) (omega arith)
counts_more false false before first second = omega arith

module _ (jobs : List Job) (removed changed : List Piece) (waiting : List ℕ) (interval : Interval) (stage : Stage) (stages : List Stage)
    (between : IsBetween jobs removed waiting) (critical : IsCritical (contracted_jobs jobs removed waiting) interval)
    (is : IsStage jobs removed interval waiting stage) (removes : Removes removed interval.start interval.end changed)
    (rest : AreTogether jobs changed (outside jobs removed interval waiting) stages)
    (slower : (next : Stage) (more : List Stage) → stages ≡ next ∷ more →
    (group_view next.group).work * (group_view stage.group).length ≤ (group_view stage.group).work * (group_view next.group).length) where
  abbrev members : List ℕ
  members = stage.members.items

  abbrev numbers : List ℕ
  numbers = stage.stretches.items

  abbrev own_shares : List JobShare
  own_shares = stage.shares.items

  abbrev all : List Stage
  all = stage ∷ stages

  abbrev served_stage : IsServed jobs (group_view stage.group) members numbers own_shares
  served_stage = served_in_real_time jobs removed interval waiting stage between.apart between.whole between.can_wait between.ahead critical is

  -- jobs: a member waits and lies in the interval
  member_from : (j : ℕ) → Contains members j → Contains waiting j × (lies_in jobs removed interval j ≡ true)
  member_from j here = kept_from (lies_in jobs removed interval) waiting j (subst (λ (ns : List ℕ). Contains ns j) is.members here)

  member_if : (j : ℕ) → Contains waiting j → lies_in jobs removed interval j ≡ true → Contains members j
  member_if j here lies = subst (λ (ns : List ℕ). Contains ns j) (sym is.members) (contains_filter (lies_in jobs removed interval) waiting j lies here)

  other_from : (j : ℕ) → Contains (outside jobs removed interval waiting) j → Contains waiting j × (lies_in jobs removed interval j ≡ false)
  other_from j here = let kept = kept_from (λ n. not (lies_in jobs removed interval n)) waiting j here in (kept.0, not-true (lies_in jobs removed interval j) kept.1)

  other_if : (j : ℕ) → Contains waiting j → lies_in jobs removed interval j ≡ false → Contains (outside jobs removed interval waiting) j
  other_if j here not_in =
      contains_filter (λ n. not (lies_in jobs removed interval n)) waiting j (not_from_false (lies_in jobs removed interval j) not_in) here

  not_both : (j : ℕ) → Contains members j → Contains (outside jobs removed interval waiting) j → ⊥
  not_both j one other = both_ways (lies_in jobs removed interval j) (other_from j other).1 (member_from j one).1

  job_here : (j : ℕ) → Contains members j → stage_of_job all j ≡ 0
  job_here j here = first_passes (λ (one : Stage). stands_among one.members.items j) stage stages (stands_if members j here)

  job_later : (j : ℕ) → (Contains members j → ⊥) → stage_of_job all j ≡ suc (stage_of_job stages j)
  job_later j none = first_fails (λ (one : Stage). stands_among one.members.items j) stage stages (stands_not members j none)

  later_job : (j : ℕ) → stage_of_job stages j < length stages → stage_of_job all j ≡ suc (stage_of_job stages j)
  later_job j below = job_later j (λ here. not_both j here (rest.job_waits j below))

  -- stretches: one of the stage is left and lies in the interval
  number_from : (k : ℕ) → Contains numbers k → (k < length (stretches jobs)) × (stretch_lies_in (stretches jobs) removed interval k ≡ true)
  number_from k here =
      let kept = kept_from (stretch_lies_in (stretches jobs) removed interval) (range_with_len 0 (length (stretches jobs))) k
      (subst (λ (ns : List ℕ). Contains ns k) is.own_stretches here) in (
        All-contains (λ x. x < length (stretches jobs)) (range_with_len 0 (length (stretches jobs))) k
            (All-range (λ x. x < length (stretches jobs)) 0 (length (stretches jobs)) (λ x below. omega (arith, below))) kept.0,
        kept.1,
      )

  number_if : (k : ℕ) → k < length (stretches jobs) → stretch_lies_in (stretches jobs) removed interval k ≡ true → Contains numbers k
  number_if k known lies =
      subst (λ (ns : List ℕ). Contains ns k) (sym is.own_stretches)
      (contains_filter (stretch_lies_in (stretches jobs) removed interval) (range_with_len 0 (length (stretches jobs))) k lies
      (k, omega (arith, known, length-range_with_len 0 (length (stretches jobs))), get_or-range_with_len 0 (length (stretches jobs)) k k known ∙ omega arith))

  number_left : (k : ℕ) → Contains numbers k → IsLeft jobs removed k
  number_left k here = (lies_inside jobs removed interval k (number_from k here).1).left

  stretch_here : (k : ℕ) → Contains numbers k → stage_of_stretch all k ≡ 0
  stretch_here k here = first_passes (λ (one : Stage). stands_among one.stretches.items k) stage stages (stands_if numbers k here)

  stretch_later : (k : ℕ) → (Contains numbers k → ⊥) → stage_of_stretch all k ≡ suc (stage_of_stretch stages k)
  stretch_later k none = first_fails (λ (one : Stage). stands_among one.stretches.items k) stage stages (stands_not numbers k none)

  later_outside : (k : ℕ) → stage_of_stretch stages k < length stages → Contains numbers k → ⊥
  later_outside k below here =
      both_ways (stretch_lies_in (stretches jobs) removed interval k)
      (left_outside jobs removed changed waiting interval between critical removes k (rest.stretch_left k below).1) (number_from k here).1

  later_stretch : (k : ℕ) → stage_of_stretch stages k < length stages → stage_of_stretch all k ≡ suc (stage_of_stretch stages k)
  later_stretch k below = stretch_later k (later_outside k below)

  -- a number that stands there, or doesn't
  in_members : (j : ℕ) → Contains members j ⊎ (Contains members j → ⊥)
  in_members j = elim (cases_Bool (stands_among members j)) [
    | inl stands ↦ inl (stands_there members j stands)
    | inr none ↦ inr (λ here. both_ways (stands_among members j) none (stands_if members j here))
  ]

  in_numbers : (k : ℕ) → Contains numbers k ⊎ (Contains numbers k → ⊥)
  in_numbers k = elim (cases_Bool (stands_among numbers k)) [
    | inl stands ↦ inl (stands_there numbers k stands)
    | inr none ↦ inr (λ here. both_ways (stands_among numbers k) none (stands_if numbers k here))
  ]

  job_in : (j : ℕ) → Contains waiting j → stage_of_job all j < length all
  job_in j waits = elim (cases_Bool (lies_in jobs removed interval j)) [
    | inl lies ↦ omega (arith, job_here j (member_if j waits lies))
    | inr other ↦ let below = rest.job_in j (other_if j waits other) in omega (arith, below, later_job j below)
  ]

  job_waits : (j : ℕ) → stage_of_job all j < length all → Contains waiting j
  job_waits j below = elim (in_members j) [
    | inl here ↦ (member_from j here).0
    | inr none ↦ (other_from j (rest.job_waits j (omega (arith, below, job_later j none)))).0
  ]

  stretch_left : (k : ℕ) → stage_of_stretch all k < length all → (k < length (stretches jobs)) × IsLeft jobs removed k
  stretch_left k below = elim (in_numbers k) [
    | inl here ↦ ((number_from k here).0, number_left k here)
    | inr none ↦
        let later = rest.stretch_left k (omega (arith, below, stretch_later k none)) in
        (later.0, left_before jobs removed changed waiting interval between critical removes k later.1)
  ]

  -- Each window is covered by the stretches of its own stage and of earlier ones.
  windows_covered : (j k : ℕ) → Contains waiting j → k < length (stretches jobs) → IsInWindow jobs j k → IsLeft jobs removed k → stage_of_stretch all k ≤ stage_of_job all j
  windows_covered j k waits known window left = elim (cases_Bool (stretch_lies_in (stretches jobs) removed interval k)) [
    | inl lies ↦ omega (arith, stretch_here k (number_if k known lies))
    | inr stays ↦ elim (cases_Bool (lies_in jobs removed interval j)) [
      | inl inside ↦ absurd (both_ways (stretch_lies_in (stretches jobs) removed interval k) stays
          (window_in_interval jobs removed changed waiting interval between critical removes j k inside window left))
      | inr other ↦
          let own = other_if j waits other in
          let left_on = stays_left jobs removed changed waiting interval between critical removes k known left stays in
          omega (
            arith,
            rest.windows j k own known window left_on,
            later_job j (rest.job_in j own),
            stretch_later k (λ here. both_ways (stretch_lies_in (stretches jobs) removed interval k) stays (number_from k here).1),
          )
    ]
  ]

  some : (i : ℕ) → i < length all → (1 ≤ (group_at (groups_of all) i).work) × (1 ≤ (group_at (groups_of all) i).length)
  some zero below = (
    some_work jobs removed interval waiting stage between.apart between.whole between.can_wait between.ahead critical is,
    some_length jobs removed interval waiting stage between.apart between.whole between.can_wait between.ahead critical is,
  )
  some (suc i) below = rest.some i (omega (arith, below))

  members_known : All (λ n. n < length jobs) members
  members_known k d within =
      (All-contains (CanWait jobs removed) waiting (get_or members k d) between.can_wait (member_from (get_or members k d) (Contains-get_or members k d within)).0).known

  members_differ : AllPairs (IsAhead jobs) members
  members_differ = subst (AllPairs (IsAhead jobs)) (sym is.members) (AllPairs-filter (IsAhead jobs) (lies_in jobs removed interval) waiting between.ahead)

  works : (i : ℕ) → i < length all → (group_at (groups_of all) i).work ≡ over (length jobs) (λ j. cond (stage_of_job all j == i) (job_at jobs j).work 0)
  works zero below =
      ap (λ (g : Group). g.work) is.group
      ∙ sym (members_work jobs removed interval waiting stage between.apart between.whole between.can_wait between.ahead critical is)
      ∙ sym (sum_of_some (IsAhead jobs) (λ x y ahead. ahead.differ) (λ j. (job_at jobs j).work) (length jobs) members members_differ members_known)
      ∙ over_same (λ j. cond (stands_among members j) (job_at jobs j).work 0) (λ j. cond (stage_of_job all j == 0) (job_at jobs j).work 0) (length jobs)
      (λ j known. elim (in_members j) [
        | inl here ↦ ap (λ b. cond b (job_at jobs j).work 0) (stands_if members j here) ∙ sym (ap (λ i. cond (i == 0) (job_at jobs j).work 0) (job_here j here))
        | inr none ↦ ap (λ b. cond b (job_at jobs j).work 0) (stands_not members j none)
            ∙ sym (ap (λ i. cond (i == 0) (job_at jobs j).work 0) (job_later j none) ∙ not_first (stage_of_job stages j) (job_at jobs j).work)
      ])
  works (suc i) below =
      rest.works i (omega (arith, below))
      ∙ sym (over_same (λ j. cond (stage_of_job all j == suc i) (job_at jobs j).work 0) (λ j. cond (stage_of_job stages j == i) (job_at jobs j).work 0) (length jobs)
      (λ j known. later_is (stage_of_job all j) (stage_of_job stages j) i (job_at jobs j).work
      (elim (in_members j) [ inl here ↦ inl (job_here j here) | inr none ↦ inr (job_later j none) ])
      (λ first same. omega (arith, first, later_job j (omega (arith, same, below))))))

  lengths : (i : ℕ) → i < length all → (group_at (groups_of all) i).length ≡ over (length (stretches jobs)) (λ k. cond (stage_of_stretch all k == i) (length_at jobs k) 0)
  lengths zero below =
      ap (λ (g : Group). g.length) is.group
      ∙ sym (lengths_inside jobs removed interval waiting stage between.apart between.whole between.can_wait between.ahead critical is)
      ∙ sym (over_is_below (length (stretches jobs)) (λ k. cond (stretch_lies_in (stretches jobs) removed interval k) (length_at jobs k) 0))
      ∙ over_same (λ k. cond (stretch_lies_in (stretches jobs) removed interval k) (length_at jobs k) 0) (λ k. cond (stage_of_stretch all k == 0) (length_at jobs k) 0)
      (length (stretches jobs))
      (λ k known. elim (cases_Bool (stretch_lies_in (stretches jobs) removed interval k)) [
        | inl lies ↦ rw (lies, stretch_here k (number_if k known lies)) refl
        | inr stays ↦ rw (stays, stretch_later k (λ here. both_ways (stretch_lies_in (stretches jobs) removed interval k) stays (number_from k here).1))
            (sym (not_first (stage_of_stretch stages k) (length_at jobs k)))
      ])
  lengths (suc i) below =
      rest.lengths i (omega (arith, below))
      ∙ sym (over_same (λ k. cond (stage_of_stretch all k == suc i) (length_at jobs k) 0) (λ k. cond (stage_of_stretch stages k == i) (length_at jobs k) 0) (length (stretches jobs))
      (λ k known. later_is (stage_of_stretch all k) (stage_of_stretch stages k) i (length_at jobs k)
      (elim (in_numbers k) [ inl here ↦ inl (stretch_here k here) | inr none ↦ inr (stretch_later k none) ])
      (λ first same. omega (arith, first, later_stretch k (omega (arith, same, below))))))

  -- shares
  job_known : (j : ℕ) → Contains members j → j < length jobs
  job_known j here = (All-contains (CanWait jobs removed) waiting j between.can_wait (member_from j here).0).known

  own_here : All (IsShareOf jobs all) own_shares
  own_here = All-weaker (IsOwnShare jobs members numbers) (IsShareOf jobs all) (λ share own. record {
    known = job_known share.job own.job;
    known_stretch = (number_from share.stretch own.stretch).0;
    some = own.some;
    in_window = own.in_window;
    grouped = omega (arith, job_here share.job own.job);
    same_stage = stretch_here share.stretch own.stretch ∙ sym (job_here share.job own.job);
  }) own_shares served_stage.own

  own_later : All (IsShareOf jobs all) (shares_of stages)
  own_later = grind (arith, All-weaker, later_job, later_stretch)

  own_shares_all : All (IsShareOf jobs all) (shares_of all)
  own_shares_all = All-append (IsShareOf jobs all) own_shares (shares_of stages) own_here own_later

  not_in_members : (share : JobShare) → IsShareOf jobs stages share → Contains members share.job → ⊥
  not_in_members share own here = not_both share.job here (rest.job_waits share.job own.grouped)

  not_in_numbers : (share : JobShare) → IsShareOf jobs stages share → Contains numbers share.stretch → ⊥
  not_in_numbers share own here = later_outside share.stretch (omega (arith, own.grouped, own.same_stage)) here

  served : (j : ℕ) → Contains waiting j → units_of_job (shares_of all) j ≡ per_work (group_of_job all j) * (job_at jobs j).work
  served j waits =
      let units = λ (share : JobShare). cond (share.job == j) share.units 0 in
      let both : units_of_job (shares_of all) j ≡ units_of_job own_shares j + units_of_job (shares_of stages) j = sum_by-append units own_shares (shares_of stages) in
      elim (cases_Bool (lies_in jobs removed interval j)) [
        | inl lies ↦
            let here = member_if j waits lies in
            let none : units_of_job (shares_of stages) j ≡ 0 =
            sum_by_zero units (shares_of stages) (All-weaker (IsShareOf jobs stages) (λ share. units share ≡ 0) (λ share own.
            ap (λ b. cond b share.units 0) (ne_eqb share.job j (λ same. not_in_members share own (subst (Contains members) (sym same) here)))) (shares_of stages) rest.own) in
            omega (arith, both, none, served_stage.served j here, ap (λ i. per_work (group_at (groups_of all) i) * (job_at jobs j).work) (job_here j here))
        | inr other ↦
            let there = other_if j waits other in
            let none : units_of_job own_shares j ≡ 0 =
            sum_by_zero units own_shares (All-weaker (IsOwnShare jobs members numbers) (λ share. units share ≡ 0) (λ share own.
            ap (λ b. cond b share.units 0) (ne_eqb share.job j (λ same. not_both j (subst (Contains members) same own.job) there))) own_shares served_stage.own) in
            omega (arith, both, none, rest.served j there, ap (λ i. per_work (group_at (groups_of all) i) * (job_at jobs j).work) (later_job j (rest.job_in j there)))
      ]

  full : (k : ℕ) → stage_of_stretch all k < length all → units_in_stretch (shares_of all) k ≡ per_time (group_of_stretch all k) * length_at jobs k
  full k below =
      let units = λ (share : JobShare). cond (share.stretch == k) share.units 0 in
      let both : units_in_stretch (shares_of all) k ≡ units_in_stretch own_shares k + units_in_stretch (shares_of stages) k = sum_by-append units own_shares (shares_of stages) in
      elim (in_numbers k) [
        | inl here ↦
            let none : units_in_stretch (shares_of stages) k ≡ 0 =
            sum_by_zero units (shares_of stages) (All-weaker (IsShareOf jobs stages) (λ share. units share ≡ 0) (λ share own.
            ap (λ b. cond b share.units 0) (ne_eqb share.stretch k (λ same. not_in_numbers share own (subst (Contains numbers) (sym same) here)))) (shares_of stages) rest.own) in
            omega (arith, both, none, served_stage.full k here, ap (λ i. per_time (group_at (groups_of all) i) * length_at jobs k) (stretch_here k here))
        | inr other ↦
            let none : units_in_stretch own_shares k ≡ 0 =
            sum_by_zero units own_shares (All-weaker (IsOwnShare jobs members numbers) (λ share. units share ≡ 0) (λ share own.
            ap (λ b. cond b share.units 0) (ne_eqb share.stretch k (λ same. other (subst (Contains numbers) same own.stretch)))) own_shares served_stage.own) in
            omega (
              arith,
              both,
              none,
              rest.full k (omega (arith, below, stretch_later k other)),
              ap (λ i. per_time (group_at (groups_of all) i) * length_at jobs k) (stretch_later k other),
            )
      ]

  in_turn : AllPairs (IsInTurn jobs) (shares_of all)
  in_turn =
      AllPairs-append (IsInTurn jobs) own_shares (shares_of stages) served_stage.in_turn rest.in_turn
      (All-weaker (IsShareOf jobs stages) (λ other. All (λ one. IsInTurn jobs one other) own_shares) (λ other later.
      All-weaker (IsOwnShare jobs members numbers) (λ one. IsInTurn jobs one other) (λ one own.
      record { turn = λ same. absurd (not_in_numbers other later (subst (Contains numbers) same own.stretch)) }) own_shares served_stage.own) (shares_of stages) rest.own)

  earliest_here : All (λ late. All (IsEarliestOfStage jobs all late) (shares_of all)) own_shares
  earliest_here k d within =
      let late = get_or own_shares k d in
      All-append (IsEarliestOfStage jobs all late) own_shares (shares_of stages)
      (All-weaker (IsEarliest jobs late) (IsEarliestOfStage jobs all late) (λ early comes. record { comes = λ same. comes }) own_shares (served_stage.earliest k d within))
      (All-weaker (IsShareOf jobs stages) (IsEarliestOfStage jobs all late) (λ early later. record {
        comes = λ same.
            absurd (omega (arith, same, job_here late.job (served_stage.own k d within).job, later_job early.job later.grouped));
      }) (shares_of stages) rest.own)

  earliest_later : All (λ late. All (IsEarliestOfStage jobs all late) (shares_of all)) (shares_of stages)
  earliest_later k d within =
      let late = get_or (shares_of stages) k d in
      let own = rest.own k d within in
      All-append (IsEarliestOfStage jobs all late) own_shares (shares_of stages)
      (All-weaker (IsOwnShare jobs members numbers) (IsEarliestOfStage jobs all late) (λ early first. record {
        comes = λ same.
            absurd (omega (arith, same, job_here early.job first.job, later_job late.job own.grouped));
      }) own_shares served_stage.own)
      (λ x e below. record {
        comes = λ same.
            let early = get_or (shares_of stages) x e in
            (rest.earliest k d within x e below).comes (omega (arith, same, later_job late.job own.grouped, later_job early.job (rest.own x e below).grouped));
      })

  earliest : All (λ late. All (IsEarliestOfStage jobs all late) (shares_of all)) (shares_of all)
  earliest = All-append (λ late. All (IsEarliestOfStage jobs all late) (shares_of all)) own_shares (shares_of stages) earliest_here earliest_later

  count_numbers : length numbers ≡ sum_below (length (stretches jobs)) (λ k. cond (stretch_lies_in (stretches jobs) removed interval k) 1 0)
  count_numbers =
      ap (λ (ns : List ℕ). length ns) is.own_stretches
      ∙ sym (count_all (stretches_inside (stretches jobs) removed interval))
      ∙ sum_numbers (stretch_lies_in (stretches jobs) removed interval) (λ k. 1) (length (stretches jobs))

  few_left : length numbers + count_left jobs changed ≤ count_left jobs removed
  few_left =
      let one : ℕ → ℕ = λ k. cond (stretch_lies_in (stretches jobs) removed interval k) 1 0 in
      let after : ℕ → ℕ = λ k. cond (nat_lt (place changed (stretch_at jobs k).from) (place changed (stretch_at jobs k).to)) 1 0 in
      let before : ℕ → ℕ = λ k. cond (nat_lt (place removed (stretch_at jobs k).from) (place removed (stretch_at jobs k).to)) 1 0 in
      omega (
        arith,
        count_numbers,
        sum_below-add (length (stretches jobs)) one after,
        sum_below_at_most (length (stretches jobs)) (λ k. one k + after k) before (λ k known.
            counts_more (stretch_lies_in (stretches jobs) removed interval k) _ _
            (λ lies. (
              lt-ltb _ _ (lies_inside jobs removed interval k lies).left,
              not_left k (λ left. both_ways (stretch_lies_in (stretches jobs) removed interval k) (left_outside jobs removed changed waiting interval between critical removes k left) lies),
            ))
            (λ left. lt-ltb _ _ (left_before jobs removed changed waiting interval between critical removes k (ltb-true _ _ left)))),
      )
    where
      not_left : (k : ℕ) → (IsLeft jobs changed k → ⊥) → nat_lt (place changed (stretch_at jobs k).from) (place changed (stretch_at jobs k).to) ≡ false
      not_left k none = false_from_ne_true _ (λ left. none (ltb-true _ _ left))

  few : length (shares_of all) ≤ length waiting + count_left jobs removed
  few = omega (
    arith,
    length-append own_shares (shares_of stages),
    served_stage.few,
    rest.few,
    few_left,
    ap (λ (ns : List ℕ). length ns) is.members,
    length-filter_both (lies_in jobs removed interval) (λ n. not (lies_in jobs removed interval n)) (λ n. refl) waiting,
  )

  -- the first two stages, and those that follow
  slowing : (i : ℕ) → i + 1 < length all →
      (group_at (groups_of all) (i + 1)).work * (group_at (groups_of all) i).length ≤ (group_at (groups_of all) i).work * (group_at (groups_of all) (i + 1)).length
  slowing i below = slow_from stage stages slower rest.slowing i below

  pub one_more_together : AreTogether jobs removed waiting all
  one_more_together = record {
    job_in = job_in;
    job_waits = job_waits;
    stretch_left = stretch_left;
    windows = windows_covered;
    some = some;
    works = works;
    lengths = lengths;
    slowing = slowing;
    own = own_shares_all;
    served = served;
    full = full;
    in_turn = in_turn;
    earliest = earliest;
    few = few;
  }
