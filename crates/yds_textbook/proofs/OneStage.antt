-- What a stage serves in the time that is left, in real time: each of its jobs gets all its units in its window, in stretches of the stage, and
-- each of these stretches is full, earliest deadline first.
use Rattle.yds_model.proofs.Common.{◌≡◌, ℕ, ◌+◌, ◌-◌, ◌*◌, ◌<◌, ◌≤◌, ◌⊎◌, ◌==◌, List, length, get_or, map, ◌∙◌, sym, ap, arith, inl, inr, cond, refl, subst, slice_index, All, AllPairs, Contains, range_with_len, sum_by, cases_lt, cases_eq, le-leb, eq-eqb, ne_eqb, get_or-map, length-map, get_or_default, AllPairs-filter, All-map, All-filter, All-contains, Contains-get_or, get_or-range_with_len, Job, no_job, job_at, work_of, Piece, stretches, ComesFirst, stretch_at, sum_by_same, sum_by-map, sum_by-filter}
use Rattle.model_lemmas.proofs.Confined.{part_within}
use Rattle.yds_events.specs.Stretch.{no_stretch, nth_stretch, length_of}
use Rattle.yds_events.specs.Window.{length_at, IsInWindow}
use Rattle.yds_events.proofs.Neighbours.{release_outside, deadline_outside}
use Rattle.yds_search.specs.Found.{Group, per_time, per_work, units_of_job, units_in_stretch}
use Rattle.yds_search.specs.Views.{group_view}
use Rattle.yds_search.proofs.LowestSpeed.{lowest}
use Rattle.yds_edf.specs.Pending.{units_wanted}
use Rattle.base.specs.Numbers.{sum_below}
use Rattle.yds_timetable.specs.Shares.{JobShare, units_given, total_units, shares_in, shares_before}
use Rattle.yds_edf.specs.Serving.{IsDueBefore}
use Rattle.yds_edf.specs.Filled.{pending_at_start}
use Rattle.yds_edf.specs.Demand.{capacity_at}
use Rattle.model_lemmas.proofs.SumsBelow.{sum_below_same, sum_by_grouped, sum_below-mul, sum_places, sum_numbers}
use Rattle.yds_edf.proofs.Filled.{stands_in}
use Rattle.yds_critical.specs.declared.interval.Interval.{Interval}
use Rattle.yds_critical.specs.Critical.{IsCritical}
use Rattle.yds_contract.specs.Contracted.{AreApartFrom, place}
use Rattle.yds_contract.proofs.ContractedPlaces.{place_rises}
use Rattle.yds_textbook.specs.declared.stage.Stage.{Stage}
use Rattle.yds_textbook.specs.Waiting.{contracted, contracted_jobs, CanWait, lies_in, contracted_stretch, contracted_stretches, stretch_lies_in, AreWhole}
use Rattle.yds_textbook.specs.Served.{capacity_of}
use Rattle.yds_textbook.specs.Stages.{IsStage, speed_of, share_of_members}
use Rattle.yds_textbook.proofs.Densest.{waits_at, as_many, has_work, from_events}
use Rattle.yds_textbook.proofs.Whole.{lengths_between}
use Rattle.yds_textbook.proofs.Left.{LiesInside, each_inside}
use Rattle.yds_textbook.proofs.Keys.{same_terms, pairs_of_key, range_rises, one_place, place_order, fewer_before}

-- another job, that comes after the first one
pub record IsAhead (jobs : List Job) (one other : ℕ) : Type 0 where
  pub differ : one ≡ other → ⊥
  pub first : ComesFirst jobs one other

-- a share of one of these jobs, in one of these stretches and in the job's window
pub record IsOwnShare (jobs : List Job) (members numbers : List ℕ) (share : JobShare) : Type 0 where
  pub job : Contains members share.job
  pub stretch : Contains numbers share.stretch
  pub some : 1 ≤ share.units
  pub in_window : IsInWindow jobs share.job share.stretch

-- in one stretch, the first is of another job, which comes first
pub record IsInTurn (jobs : List Job) (one other : JobShare) : Type 0 where
  pub turn : one.stretch ≡ other.stretch → IsAhead jobs one.job other.job

-- a share in an earlier stretch, in which the later one's job could run, is of a job that comes first
pub record IsEarliest (jobs : List Job) (late early : JobShare) : Type 0 where
  pub comes : (job_at jobs late.job).release ≤ (stretch_at jobs early.stretch).from → early.stretch < late.stretch → ComesFirst jobs early.job late.job

-- the stage serves its jobs
pub record IsServed (jobs : List Job) (group : Group) (members numbers : List ℕ) (shares : List JobShare) : Type 0 where
  pub own : All (IsOwnShare jobs members numbers) shares
  pub served : (j : ℕ) → Contains members j → units_of_job shares j ≡ per_work group * (job_at jobs j).work
  pub full : (k : ℕ) → Contains numbers k → units_in_stretch shares k ≡ per_time group * length_at jobs k
  pub in_turn : AllPairs (IsInTurn jobs) shares
  pub earliest : All (λ late. All (IsEarliest jobs late) shares) shares
  pub few : length shares ≤ length members + length numbers

-- a number that stands in a list, by its place
at_place : (numbers : List ℕ) (n : ℕ) (here : Contains numbers n) → get_or numbers here.0 0 ≡ n
at_place numbers n here = get_or_default numbers here.0 0 n here.1 ∙ here.2

in_lowest_terms : (work length num den divisor : ℕ) → num * divisor ≡ work → den * divisor ≡ length → den * work ≡ num * length
in_lowest_terms work length num den divisor first second = omega (arith, ap (λ n. den * n) first, ap (λ n. num * n) second)

module _ (jobs : List Job) (removed : List Piece) (interval : Interval) (waiting : List ℕ) (stage : Stage) (apart : AreApartFrom 0 removed)
    (whole : AreWhole (stretches jobs) removed) (can : All (CanWait jobs removed) waiting) (ahead : AllPairs (IsAhead jobs) waiting)
    (critical : IsCritical (contracted_jobs jobs removed waiting) interval) (is : IsStage jobs removed interval waiting stage) where
  abbrev members : List ℕ
  members = stage.members.items

  abbrev numbers : List ℕ
  numbers = stage.stretches.items

  abbrev own_jobs : List Job
  own_jobs = contracted_jobs jobs removed members

  abbrev own_stretches : List Piece
  own_stretches = contracted_stretches (stretches jobs) removed numbers

  abbrev group : Group
  group = group_view stage.group

  abbrev given : List JobShare
  given = is.served

  members_wait : All (CanWait jobs removed) members
  members_wait = subst (All (CanWait jobs removed)) (sym is.members) (All-filter (lies_in jobs removed interval) (CanWait jobs removed) waiting can)

  members_ahead : AllPairs (IsAhead jobs) members
  members_ahead = subst (AllPairs (IsAhead jobs)) (sym is.members) (AllPairs-filter (IsAhead jobs) (lies_in jobs removed interval) waiting ahead)

  numbers_rise : AllPairs (λ (x y : ℕ). x < y) numbers
  numbers_rise =
      subst (AllPairs (λ (x y : ℕ). x < y)) (sym is.own_stretches)
      (AllPairs-filter (λ (x y : ℕ). x < y) (stretch_lies_in (stretches jobs) removed interval) (range_with_len 0 (length (stretches jobs))) (range_rises (length (stretches jobs))))

  numbers_inside : All (λ k. (k < length (stretches jobs)) × LiesInside jobs removed interval k) numbers
  numbers_inside = subst (All (λ k. (k < length (stretches jobs)) × LiesInside jobs removed interval k)) (sym is.own_stretches) (each_inside jobs removed interval)

  one_member : (x y : ℕ) → x < length members → y < length members → get_or members x 0 ≡ get_or members y 0 → x ≡ y
  one_member x y = one_place (IsAhead jobs) (λ a b before. before.differ) members x y members_ahead

  one_number : (x y : ℕ) → x < length numbers → y < length numbers → get_or numbers x 0 ≡ get_or numbers y 0 → x ≡ y
  one_number x y = one_place (λ (a b : ℕ). a < b) (λ a b less same. omega (arith, less, same)) numbers x y numbers_rise

  own_job : (x : ℕ) → x < length members → job_at own_jobs x ≡ contracted removed (job_at jobs (get_or members x 0))
  own_job x within = waits_at jobs removed members x within

  own_stretch : (i : ℕ) → i < length numbers → nth_stretch own_stretches i ≡ contracted_stretch removed (stretch_at jobs (get_or numbers i 0))
  own_stretch i within = get_or-map (λ k. contracted_stretch removed (stretch_at jobs k)) numbers i 0 no_stretch within

  count_stretches : length own_stretches ≡ length numbers
  count_stretches = length-map numbers (λ k. contracted_stretch removed (stretch_at jobs k))

  in_stretches : All (λ (s : JobShare). s.stretch < length numbers) given
  in_stretches k d within = omega (arith, is.serves.known k d within, count_stretches)

  -- what a stretch's shares have, each of its shares has
  of_stretch : (P : JobShare → Type 0) → ((i : ℕ) → i < length own_stretches → All P (shares_in given i)) → All P given
  of_stretch P each k d within =
      All-contains P (shares_in given (get_or given k d).stretch) (get_or given k d) (each (get_or given k d).stretch (is.serves.known k d within))
      (stands_in given (get_or given k d) (Contains-get_or given k d within))

  of_members : All (λ (s : JobShare). s.job < length members) given
  of_members = of_stretch (λ s. s.job < length members) (λ i known k d within. omega (arith, (is.serves.serving i known).known k d within, as_many jobs removed members))

  of_own_jobs : All (λ (s : JobShare). s.job < length own_jobs) given
  of_own_jobs k d within = omega (arith, of_members k d within, as_many jobs removed members)

  -- in window
  released : (x i : ℕ) → x < length members → i < length numbers → (job_at own_jobs x).release ≤ (nth_stretch own_stretches i).from →
      (job_at jobs (get_or members x 0)).release ≤ (stretch_at jobs (get_or numbers i 0)).from
  released x i member number before = grind (arith, members_wait, numbers_inside, own_job, own_stretch, place_rises, release_outside)

  due : (x i : ℕ) → x < length members → i < length numbers → (nth_stretch own_stretches i).to ≤ (job_at own_jobs x).deadline →
      (stretch_at jobs (get_or numbers i 0)).to ≤ (job_at jobs (get_or members x 0)).deadline
  due x i member number after = grind (arith, deadline_outside, members_wait, numbers_inside, own_job, own_stretch, place_rises)

  abbrev by_number : JobShare → JobShare
  by_number = share_of_members members numbers

  all_own : All (IsOwnShare jobs members numbers) (map by_number given)
  all_own = All-map (IsOwnShare jobs members numbers) by_number given (λ k d within. record {
    job = Contains-get_or members (get_or given k d).job 0 (of_members k d within);
    stretch = Contains-get_or numbers (get_or given k d).stretch 0 (in_stretches k d within);
    some = of_stretch (λ s. 1 ≤ s.units) (λ i known. (is.serves.serving i known).some) k d within;
    in_window = record {
      released = released (get_or given k d).job (get_or given k d).stretch (of_members k d within) (in_stretches k d within) (is.serves.in_time k d within).released;
      due = due (get_or given k d).job (get_or given k d).stretch (of_members k d within) (in_stretches k d within) (is.serves.in_time k d within).due;
    };
  })

  -- units of a job
  units_are : (x : ℕ) → x < length members → units_of_job (map by_number given) (get_or members x 0) ≡ units_given given x
  units_are x within = grind (arith, cases_eq, eq-eqb, ne_eqb, of_members, one_member, sum_by-map, sum_by_same)

  all_served : (j : ℕ) → Contains members j → units_of_job (map by_number given) j ≡ per_work group * (job_at jobs j).work
  all_served j here =
      let member : get_or members here.0 0 ≡ j = at_place members j here in
      let wanted = is.serves.served here.0 (omega (arith, here.1, as_many jobs removed members)) in
      let work : (job_at own_jobs here.0).work ≡ (job_at jobs j).work =
      ap (λ (job : Job). job.work) (own_job here.0 here.1) ∙ ap (λ n. (job_at jobs n).work) member in
      omega (arith, ap (λ n. units_of_job (map by_number given) n) member, units_are here.0 here.1, wanted, ap (λ n. per_work group * n) work)

  -- units in a stretch
  units_in : (i : ℕ) → i < length numbers → units_in_stretch (map by_number given) (get_or numbers i 0) ≡ total_units (shares_in given i)
  units_in i within = grind (arith, cases_eq, eq-eqb, in_stretches, ne_eqb, one_number, sum_by-filter, sum_by-map, sum_by_same)

  -- the stage's jobs have the interval's work, and its stretches have the interval's length
  pub members_work : work_of jobs members ≡ interval.work
  members_work = grind (arith, part_within, sum_by-filter, sum_by-map)

  pub lengths_inside : sum_below (length (stretches jobs)) (λ k. cond (stretch_lies_in (stretches jobs) removed interval k) (length_at jobs k) 0) ≡ interval.end - interval.start
  lengths_inside = grind (arith, from_events, lengths_between)

  lengths_left : sum_by length_of own_stretches ≡ interval.end - interval.start
  lengths_left =
      sum_by-map (λ k. contracted_stretch removed (stretch_at jobs k)) length_of numbers
      ∙ sum_by_same (λ k. length_of (contracted_stretch removed (stretch_at jobs k))) (length_at jobs) numbers
      (λ x d within. let inside = numbers_inside x d within in elim (whole (get_or numbers x d) inside.0) [
        | inl gone ↦ absurd (omega (arith, gone, inside.1.left))
        | inr all ↦ omega (arith, all)
      ])
      ∙ ap (λ (ns : List ℕ). sum_by (length_at jobs) ns) is.own_stretches
      ∙ sum_numbers (stretch_lies_in (stretches jobs) removed interval) (length_at jobs) (length (stretches jobs))
      ∙ lengths_inside

  works_left : sum_below (length own_jobs) (λ x. units_wanted own_jobs (per_work group) x) ≡ per_work group * interval.work
  works_left =
      sum_below_same (length own_jobs) (λ x. (job_at own_jobs x).work * per_work group) (λ x. per_work group * (job_at own_jobs x).work) (λ x within. omega arith)
      ∙ sum_below-mul (length own_jobs) (per_work group) (λ x. (job_at own_jobs x).work)
      ∙ ap (λ n. per_work group * n) (sym (sum_places (λ (job : Job). job.work) own_jobs no_job)
      ∙ sum_by-map (λ n. contracted removed (job_at jobs n)) (λ (job : Job). job.work) members ∙ members_work)

  -- all units
  total_served : sum_below (length own_stretches) (λ i. total_units (shares_in given i)) ≡ per_work group * interval.work
  total_served =
      sum_below_same (length own_stretches) (λ i. total_units (shares_in given i)) (λ i. sum_by (λ (s : JobShare). cond (i == s.stretch) s.units 0) given)
      (λ i within. sum_by-filter (λ (s : JobShare). i == s.stretch) (λ s. s.units) given)
      ∙ sym (sum_by_grouped (length own_stretches) (λ (s : JobShare). s.stretch) (λ s. s.units) given is.serves.known)
      ∙ sum_by_grouped (length own_jobs) (λ (s : JobShare). s.job) (λ s. s.units) given of_own_jobs
      ∙ sum_below_same (length own_jobs) (λ x. units_given given x) (λ x. units_wanted own_jobs (per_work group) x) is.serves.served
      ∙ works_left

  capacity_is : (i : ℕ) → i < length own_stretches → capacity_at (map (capacity_of (speed_of group)) own_stretches) i ≡ per_time group * length_of (nth_stretch own_stretches i)
  capacity_is i within = get_or-map (capacity_of (speed_of group)) own_stretches i no_stretch 0 within

  total_capacity : sum_below (length own_stretches) (λ i. capacity_at (map (capacity_of (speed_of group)) own_stretches) i) ≡ per_time group * (interval.end - interval.start)
  total_capacity =
      sum_below_same (length own_stretches) (λ i. capacity_at (map (capacity_of (speed_of group)) own_stretches) i) (λ i. per_time group * length_of (nth_stretch own_stretches i)) capacity_is
      ∙ sum_below-mul (length own_stretches) (per_time group) (λ i. length_of (nth_stretch own_stretches i))
      ∙ ap (λ n. per_time group * n) (sym (sum_places length_of own_stretches no_stretch) ∙ lengths_left)

  pub some_work : 1 ≤ group.work
  some_work = omega (arith, ap (λ (g : Group). g.work) is.group, has_work jobs removed waiting interval can critical)

  pub some_length : 1 ≤ group.length
  some_length = omega (arith, ap (λ (g : Group). g.length) is.group, critical.candidate.forward)

  in_all : sum_below (length own_stretches) (λ i. total_units (shares_in given i))
      ≡ sum_below (length own_stretches) (λ i. capacity_at (map (capacity_of (speed_of group)) own_stretches) i)
  in_all =
      let low = lowest group.work group.length some_work some_length in
      omega (
        arith,
        total_served,
        total_capacity,
        in_lowest_terms group.work group.length (per_time group) (per_work group) _ low.first low.second,
        ap (λ (g : Group). per_work group * g.work) is.group,
        ap (λ (g : Group). per_time group * g.length) is.group,
      )

  all_full : (k : ℕ) → Contains numbers k → units_in_stretch (map by_number given) k ≡ per_time group * length_at jobs k
  all_full k here =
      let number : get_or numbers here.0 0 ≡ k = at_place numbers k here in
      let known : here.0 < length own_stretches = omega (arith, here.1, count_stretches) in
      let inside = numbers_inside here.0 0 here.1 in
      let full = same_terms (length own_stretches) here.0 (λ i. total_units (shares_in given i)) (λ i. capacity_at (map (capacity_of (speed_of group)) own_stretches) i) known
      (λ i within. omega (arith, (is.serves.serving i within).total)) in_all in
      let long : length_of (nth_stretch own_stretches here.0) ≡ length_at jobs k = elim (whole (get_or numbers here.0 0) inside.0) [
        | inl gone ↦ absurd (omega (arith, gone, inside.1.left))
        | inr all ↦ omega (arith, all, ap length_of (own_stretch here.0 here.1), ap (length_at jobs) number)
      ] in
      omega (
        arith,
        ap (λ n. units_in_stretch (map by_number given) n) number,
        units_in here.0 here.1,
        full,
        capacity_is here.0 known,
        ap (λ n. per_time group * n) long,
      )

  -- order
  due_first : (x y : ℕ) → x < length members → y < length members → IsDueBefore own_jobs (slice_index (range_with_len 0 (length members))) x y →
      IsAhead jobs (get_or members x 0) (get_or members y 0)
  due_first x y one other (inl earlier) =
      let places : place removed (job_at jobs (get_or members x 0)).deadline < place removed (job_at jobs (get_or members y 0)).deadline =
      omega (arith, earlier, ap (λ (job : Job). job.deadline) (own_job x one), ap (λ (job : Job). job.deadline) (own_job y other)) in
      elim (cases_lt (job_at jobs (get_or members x 0)).deadline (job_at jobs (get_or members y 0)).deadline) [
        | inl before ↦ record { differ = λ same. omega (arith, ap (λ n. (job_at jobs n).deadline) same, before); first = inl before }
        | inr late ↦ absurd (omega (arith, places, place_rises (job_at jobs (get_or members y 0)).deadline (job_at jobs (get_or members x 0)).deadline removed apart late))
      ]
  due_first x y one other (inr tied) =
      members_ahead x y 0 (omega (arith, tied.1, get_or-range_with_len 0 (length members) x 0 one, get_or-range_with_len 0 (length members) y 0 other)) other

  all_in_turn : AllPairs (IsInTurn jobs) (map by_number given)
  all_in_turn i j d order within =
      let count : length (map by_number given) ≡ length given = length-map given by_number in
      let empty : JobShare = record { stretch = 0; job = 0; units = 0 } in
      let first : i < length given = omega (arith, order, within, count) in
      let second : j < length given = omega (arith, within, count) in
      let one = get_or given i empty in
      let other = get_or given j empty in
      let stretch : one.stretch < length own_stretches = is.serves.known i empty first in
      rw (get_or-map by_number given i empty d first, get_or-map by_number given j empty d second) (record {
        turn = λ same.
            let same_place : one.stretch ≡ other.stretch = one_number one.stretch other.stretch (in_stretches i empty first) (in_stretches j empty second) same in
            due_first one.job other.job (of_members i empty first) (of_members j empty second)
            (pairs_of_key (λ (a b : JobShare). IsDueBefore own_jobs (slice_index (range_with_len 0 (length members))) a.job b.job) (λ (s : JobShare). s.stretch) one.stretch given
            (is.serves.serving one.stretch stretch).in_order i j empty order second refl same_place);
      })

  earliest_of : (late early : JobShare) → late.job < length members → early.job < length members → early.stretch < length numbers → late.stretch < length numbers →
      Contains given early → (x : ℕ) → x < length given → get_or given x late ≡ late → IsEarliest jobs (by_number late) (by_number early)
  earliest_of late early late_job early_job early_known late_known there x within is_late = record {
    comes = λ released_by earlier.
        let i = early.stretch in
        let known : i < length own_stretches = omega (arith, early_known, count_stretches) in
        let before : i < late.stretch = place_order numbers i late.stretch numbers_rise early_known late_known earlier in
        let arrives : (job_at own_jobs late.job).release ≤ (nth_stretch own_stretches i).from =
        omega (
          arith,
          place_rises (job_at jobs (get_or members late.job 0)).release (stretch_at jobs (get_or numbers i 0)).from removed apart released_by,
          ap (λ (job : Job). job.release) (own_job late.job late_job),
          ap (λ (piece : Piece). piece.from) (own_stretch i early_known),
        ) in
        let pending : pending_at_start own_jobs (per_work group) own_stretches given i late.job
        ≡ units_wanted own_jobs (per_work group) late.job - units_given (shares_before given i) late.job =
        ap (λ b. cond b (units_wanted own_jobs (per_work group) late.job - units_given (shares_before given i) late.job) 0) (le-leb _ _ arrives) in
        let own : late.job < length own_jobs = omega (arith, late_job, as_many jobs removed members) in
        let fewer : units_given (shares_before given i) late.job + units_given (shares_in given i) late.job + late.units ≤ units_given given late.job =
        subst (λ (s : JobShare). units_given (shares_before given i) s.job + units_given (shares_in given i) s.job + s.units ≤ units_given given s.job) is_late
        (fewer_before given i x late within (subst (λ (s : JobShare). i < s.stretch) (sym is_late) before)) in
        let some : 1 ≤ late.units = subst (λ (s : JobShare). 1 ≤ s.units) is_late (of_stretch (λ s. 1 ≤ s.units) (λ k below. (is.serves.serving k below).some) x late within) in
        let left : units_given (shares_in given i) late.job < pending_at_start own_jobs (per_work group) own_stretches given i late.job =
        omega (arith, pending, fewer, some, is.serves.served late.job own) in
        elim (All-contains (λ (s : JobShare). (s.job ≡ late.job) ⊎ IsDueBefore own_jobs (slice_index (range_with_len 0 (length members))) s.job late.job) (shares_in given i) early
        ((is.serves.serving i known).earliest late.job own left) (stands_in given early there)) [
          | inl same ↦ inr (ap (λ n. (job_at jobs (get_or members n 0)).deadline) same, omega (arith, ap (λ n. get_or members n 0) same))
          | inr first ↦ (due_first early.job late.job early_job late_job first).first
        ];
  }

  all_earliest : All (λ late. All (IsEarliest jobs late) (map by_number given)) (map by_number given)
  all_earliest =
      All-map (λ late. All (IsEarliest jobs late) (map by_number given)) by_number given (λ x d within.
      All-map (IsEarliest jobs (by_number (get_or given x d))) by_number given (λ y e below.
      earliest_of (get_or given x d) (get_or given y e) (of_members x d within) (of_members y e below) (in_stretches y e below) (in_stretches x d within)
      (Contains-get_or given y e below) x within (get_or_default given x (get_or given x d) d within)))

  pub served_in_real_time : IsServed jobs group members numbers stage.shares.items
  served_in_real_time =
      subst (IsServed jobs group members numbers) (sym is.shares) (record {
        own = all_own;
        served = all_served;
        full = all_full;
        in_turn = all_in_turn;
        earliest = all_earliest;
        few = omega (arith, length-map given by_number, is.serves.few, as_many jobs removed members, count_stretches);
      })
