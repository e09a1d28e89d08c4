-- The loop over the stretches: what a run has come to, and that in the end it is a run of the policy.
use Rattle.yds_model.proofs.Common.{rules, ◌≡◌, ℕ, suc, take, get_or, ap₂, None, ◌/◌, ◌+◌, ◌-◌, ◌*◌, ◌<◌, ◌≤◌, min, List, [], ◌∷◌, ◌++◌, length, slice_index, ◌∙◌, refl, sym, subst, arith, inl, inr, ap, cond, true, false, add-one, Bool, ◌==◌, All, AllPairs, Some, Option, MatchOption, Contains, from_bool, cases_lt, cases_eq, get_or-replicate, get_or-map, get_or_append_left, get_or_at, length-append, length-map, length-take-le, append-nil, map-append, take_all, take_more, flat_map-append, get_or-eq_default, All-nil, All-cons, All-append, All-weaker, All-contains, Contains-get_or, le_refl, sum_by-append, sum_by-cons, Each, common_divisor, Job, Piece, stretches, HasSpeed, HasRunDenominators, stretch_at, AllPairs-append, All-flat}
use Rattle.base.specs.declared.limits.TheConstants.{MAX_GRID, MAX_JOBS, MAX_SLOT_WORK, MAX_WORK}
use Rattle.yds_model.specs.Plan.{IsOver}
use Rattle.yds_slots.proofs.WorkParts.{of_parts_over}
use Rattle.yds_events.specs.Stretch.{IsStretch, no_stretch, length_of}
use Rattle.yds_events.proofs.Neighbours.{stretches_run, few_stretches}
use Rattle.yds_events.proofs.InOrder.{starts_rise}
use Rattle.yds_timetable.specs.Shares.{JobShare, units_given, total_units, shares_in}
use Rattle.yds_edf.specs.Pending.{pending_of_job}
use Rattle.base.specs.Numbers.{sum_below}
use Rattle.yds_edf.specs.Serving.{IsServing}
use Rattle.yds_edf.specs.Queue.{JobQueue, new_queue, IsNoEarlier, pending_in, units_left, unfinished, Adds, Serves}
use Rattle.yds_timetable.specs.declared.pace.Pace.{Pace}
use Rattle.yds_timetable.specs.Pace.{slot_of, lowest_pace}
use Rattle.yds_timetable.specs.Timetable.{Row, row_at, stretches_of, row_slots, shares_of, slots_of, IsFilledAt, IsRow, HasGrain}
use Rattle.yds_timetable.proofs.LowestPace.{lowest_fills}
use Rattle.yds_timetable.proofs.Paces.{lies_written, speed_written}
use Rattle.yds_timetable.specs.Room.{CanLay}
use Rattle.yds_timetable.proofs.Rows.{no_row, paced_all, rows_over}
use Rattle.yds_edf.specs.PolicyRun.{by_number, IsServedBefore, pending_before, IsLowest, AreRowsOf, IsPolicyRun, PutsRow}
use Rattle.model_lemmas.proofs.SumsBelow.{sum_below_same, sum_below_bound}
use Rattle.yds_edf.proofs.Filled.{stands_in}
use Rattle.yds_edf.proofs.AddedShares.{in_added, before_added, in_kept, before_kept}

-- the first stretches have been served
pub record Running (jobs : List Job) (grid : ℕ) (units : (ℕ → ℕ) → Piece → ℕ) (i : ℕ) (now : JobQueue) (shares : List JobShare) : Type 0 where
  pub same_jobs : now.jobs ≡ jobs
  pub same_grain : now.grain ≡ grid
  pub time : i < length (stretches jobs) → IsNoEarlier now.time (stretch_at jobs i).from
  pub given : Each (length jobs) (λ number. slice_index now.served number ≡ units_given shares number)
  pub in_order : AllPairs (IsServedBefore jobs) shares
  pub known : All (λ share. share.stretch < i) shares
  pub serving : Each i (λ k.
      IsServing jobs by_number (pending_before jobs grid shares k) (units (pending_before jobs grid shares k) (stretch_at jobs k)) (shares_in shares k))
  pub few : length shares + unfinished now ≤ length jobs + i

-- and stand in the timetable
pub record Tabled (jobs : List Job) (grid i : ℕ) (rows : List Row) : Type 0 where
  pub stretches_are : stretches_of rows ≡ take i (stretches jobs)
  pub filled : All IsRow rows
  pub grains : All (λ row. HasGrain grid row.pace) rows
  pub lowest : All (λ row. IsLowest row.pace row.stretch row.shares) rows
  pub numbered : Each (length rows) (λ k. shares_in (shares_of rows) k ≡ (row_at rows k).shares)

-- so many of the first stretches were rounded
abbrev pub count_rounded : List Job → ℕ → ((ℕ → ℕ) → Piece → Bool) → List JobShare → ℕ → ℕ
count_rounded jobs grid rounds shares i = sum_below i (λ k. cond (rounds (pending_before jobs grid shares k) (stretch_at jobs k)) 1 0)

pub begun : (jobs : List Job) (grid : ℕ) (units : (ℕ → ℕ) → Piece → ℕ) → Running jobs grid units 0 (new_queue jobs grid) []
begun jobs grid units = record {
  same_jobs = refl;
  same_grain = refl;
  time = λ within. tt;
  given = λ number within. get_or-replicate (length jobs) number 0 0 within;
  in_order = λ i j d order within. absurd (omega arith);
  known = All-nil (λ share. share.stretch < 0);
  serving = λ k within. absurd (omega arith);
  few = omega (
    arith,
    sum_below_bound (length jobs) 1 (λ number. min 1 (units_left (new_queue jobs grid) number)) (λ k within. omega arith),
  );
}

pub none_tabled : (jobs : List Job) (grid : ℕ) → Tabled jobs grid 0 []
none_tabled jobs grid = grind arith

-- # What is pending at a stretch's start

-- the same whichever way the units that were served are told
same_pending : (jobs : List Job) (grid : ℕ) (time : Option ℕ) (served other : ℕ → ℕ) →
    ((number : ℕ) → number < length jobs → served number ≡ other number) →
    pending_of_job jobs grid time served ≡ pending_of_job jobs grid time other
same_pending jobs grid time served other same = grind (arith, cases_lt, get_or-eq_default)

module _ (jobs : List Job) (grid : ℕ) (i : ℕ) (now : JobQueue) (shares : List JobShare) (known : All (λ share. share.stretch < i) shares)
    (given : Each (length jobs) (λ number. slice_index now.served number ≡ units_given shares number)) where
  -- what the queue holds is what the shares before have left, also once the stretch's own are there
  pub pending_now : (part : List JobShare) → All (λ share. share.stretch ≡ i) part →
      pending_of_job jobs grid (Some (stretch_at jobs i).from) (slice_index now.served) ≡ pending_before jobs grid (shares ++ part) i
  pending_now part here = search (arith, rules, before_added, same_pending, slice_index)

-- what a policy tells of the stretch is told of that
pub told_of : {X : Type 0} (tells : List Job → ℕ → (ℕ → ℕ) → Piece → X) (jobs : List Job) (grid i : ℕ) (now started : JobQueue) (stretch : Piece) (x : X) →
    now.jobs ≡ jobs → now.grain ≡ grid → stretch ≡ stretch_at jobs i → started ≡ record now { time = Some stretch.from } →
    x ≡ tells started.jobs started.grain (pending_in started) stretch →
    x ≡ tells jobs grid (pending_of_job jobs grid (Some (stretch_at jobs i).from) (slice_index now.served)) (stretch_at jobs i)
told_of tells jobs grid i now started stretch x same_jobs same_grain is starts told = grind arith

-- and it is served from there
pub served_from : (jobs : List Job) (i set : ℕ) (now started new : JobQueue) (stretch : Piece) (part : List JobShare) → stretch ≡ stretch_at jobs i →
    started ≡ record now { time = Some stretch.from } → Serves started new i set part → Serves (record now { time = Some (stretch_at jobs i).from }) new i set part
served_from jobs i set now started new stretch part is starts serves = grind arith

-- # One stretch more

-- shares of which each has units, and all together none
pub total_none : (shares : List JobShare) → All (λ share. 1 ≤ share.units) shares → total_units shares ≡ 0 → shares ≡ []
total_none [] some none = refl
total_none (share ∷ shares) some none = absurd (omega (arith, sum_by-cons (λ (s : JobShare). s.units) share shares, none, some 0 share (omega arith)))

-- the next stretch is served, once the jobs that are released by its start have arrived
module _ (jobs : List Job) (grid : ℕ) (units : (ℕ → ℕ) → Piece → ℕ) (some_grid : 1 ≤ grid) (i : ℕ) (here : i < length (stretches jobs)) (now new : JobQueue)
    (shares : List JobShare) (running : Running jobs grid units i now shares) (set : ℕ)
    (set_is : set ≡ units (pending_of_job jobs grid (Some (stretch_at jobs i).from) (slice_index now.served)) (stretch_at jobs i)) (part : List JobShare)
    (serves : Serves (record now { time = Some (stretch_at jobs i).from }) new i set part) where
  at : All (λ share. share.stretch ≡ i) part
  at = serves.in_stretch

  abbrev held : ℕ → ℕ
  held = pending_of_job jobs grid (Some (stretch_at jobs i).from) (slice_index now.served)

  held_is : held ≡ pending_before jobs grid (shares ++ part) i
  held_is = pending_now jobs grid i now shares running.known running.given part at

  serving_here : IsServing jobs by_number held set part
  serving_here =
      let queue : List Job → ℕ → JobQueue = λ js g. record { jobs = js; grain = g; time = Some (stretch_at jobs i).from; served = now.served } in
      subst (λ (js : List Job). IsServing js by_number (pending_in (queue js grid)) set part) running.same_jobs
      (subst (λ (g : ℕ). IsServing now.jobs by_number (pending_in (queue now.jobs g)) set part) running.same_grain serves.serving)

  serving_set : IsServing jobs by_number (pending_before jobs grid (shares ++ part) i) (units (pending_before jobs grid (shares ++ part) i) (stretch_at jobs i)) part
  serving_set = grind (arith, held_is, serving_here)

  -- what is pending before an earlier stretch stays as it was
  pub pending_kept : (k : ℕ) → k < i → pending_before jobs grid shares k ≡ pending_before jobs grid (shares ++ part) k
  pending_kept k less = ap (λ (some : List JobShare). pending_of_job jobs grid (Some (stretch_at jobs k).from) (units_given some))
      (sym (before_kept shares part i running.known at k less))

  serving_next : Each (suc i) (λ k. IsServing jobs by_number (pending_before jobs grid (shares ++ part) k)
      (units (pending_before jobs grid (shares ++ part) k) (stretch_at jobs k)) (shares_in (shares ++ part) k))
  serving_next k below = elim (cases_eq k i) [
    | inl same ↦ rw (same, in_added shares part i running.known at) serving_set
    | inr other ↦
        let less : k < i = omega (arith, below, other) in
        rw (in_kept shares part i running.known at k less)
        (subst (λ (pending : ℕ → ℕ). IsServing jobs by_number pending (units pending (stretch_at jobs k)) (shares_in shares k)) (pending_kept k less)
        (running.serving k less))
  ]

  pub running_next : Running jobs grid units (suc i) new (shares ++ part)
  running_next = record {
    same_jobs = serves.adds.jobs ∙ running.same_jobs;
    same_grain = serves.adds.grain ∙ running.same_grain;
    time = λ there. rw serves.adds.time (starts_rise i (suc i) (stretches jobs) (stretches_run jobs) (omega arith) there);
    given = λ number there. omega (
      arith,
      serves.adds.served number (omega (arith, there, ap (λ (js : List Job). length js) running.same_jobs)),
      running.given number there,
      sum_by-append (λ (share : JobShare). cond (number == share.job) share.units 0) shares part,
    );
    in_order = AllPairs-append (IsServedBefore jobs) shares part running.in_order
        (λ a b d less below. inr (at a d (omega (arith, less, below)) ∙ sym (at b d below), serving_here.in_order a b d less below))
        (λ k d below a e there. inl (omega (arith, at k d below, running.known a e there)));
    known = All-append (λ share. share.stretch < suc i) shares part (λ k d within. omega (arith, running.known k d within))
        (λ k d within. omega (arith, at k d within));
    serving = serving_next;
    few = omega (arith, running.few, serves.finishing, length-append shares part);
  }

  -- and it is counted where it was rounded
  pub count_next : (rounds : (ℕ → ℕ) → Piece → Bool) → count_rounded jobs grid rounds (shares ++ part) (suc i)
      ≡ count_rounded jobs grid rounds shares i + cond (rounds held (stretch_at jobs i)) 1 0
  count_next rounds = omega (
    arith,
    sum_below_same i (λ k. cond (rounds (pending_before jobs grid shares k) (stretch_at jobs k)) 1 0)
        (λ k. cond (rounds (pending_before jobs grid (shares ++ part) k) (stretch_at jobs k)) 1 0)
        (λ k less. ap {B = ℕ} (λ (pending : ℕ → ℕ). cond (rounds pending (stretch_at jobs k)) 1 0) (pending_kept k less)),
    ap {B = ℕ} (λ (pending : ℕ → ℕ). cond (rounds pending (stretch_at jobs i)) 1 0) held_is,
  )

-- it has so many stretches
pub tabled_many : {jobs : List Job} {grid i : ℕ} {rows : List Row} → Tabled jobs grid i rows → i ≤ length (stretches jobs) → length rows ≡ i
tabled_many {jobs = jobs} {i = i} {rows = rows} tabled most =
    sym (length-map rows (λ (one : Row). one.stretch)) ∙ ap (λ (pieces : List Piece). length pieces) tabled.stretches_are ∙ length-take-le i (stretches jobs) most

-- the timetable has the stretch then
pub tabled_next : (jobs : List Job) (grid i : ℕ) (rows next : List Row) (stretch : Piece) (part : List JobShare) → Tabled jobs grid i rows →
    i < length (stretches jobs) → stretch ≡ stretch_at jobs i → All (λ share. share.stretch < i) (shares_of rows) → All (λ share. share.stretch ≡ i) part →
    PutsRow grid stretch part rows next → (shares_of next ≡ shares_of rows ++ part) × Tabled jobs grid (i + 1) next
tabled_next jobs grid i rows next stretch part tabled here is earlier own puts =
    let row : Row = record { stretch = stretch; pace = puts.pace; shares = part } in
    let as_many : length rows ≡ i = tabled_many tabled (let most : i ≤ length (stretches jobs) = omega (arith, here) in most) in
    let joined : shares_of (rows ++ row ∷ []) ≡ shares_of rows ++ part =
    flat_map-append (λ (one : Row). one.shares) rows (row ∷ []) ∙ ap (λ (xs : List JobShare). shares_of rows ++ xs) (append-nil part) in
    rw (puts.after) (
      joined,
      record {
        stretches_are =
            map-append (λ (one : Row). one.stretch) rows (row ∷ [])
            ∙ ap₂ (λ (pieces : List Piece) (piece : Piece). pieces ++ piece ∷ []) tabled.stretches_are is
            ∙ sym (take_more (stretches jobs) i no_stretch here);
        filled = All-append IsRow rows (row ∷ []) tabled.filled (All-cons IsRow row [] puts.filled (All-nil IsRow));
        grains = All-append (λ one. HasGrain grid one.pace) rows (row ∷ []) tabled.grains
            (All-cons (λ (one : Row). HasGrain grid one.pace) row [] puts.grain_is (All-nil (λ (one : Row). HasGrain grid one.pace)));
        lowest = All-append (λ one. IsLowest one.pace one.stretch one.shares) rows (row ∷ []) tabled.lowest
            (All-cons (λ (one : Row). IsLowest one.pace one.stretch one.shares) row [] puts.lowest (All-nil (λ (one : Row). IsLowest one.pace one.stretch one.shares)));
        numbered = λ k within. elim (cases_eq k i) [
          | inl same ↦ rw (joined, same) (in_added (shares_of rows) part i earlier own ∙ ap (λ (one : Row). one.shares) (sym (get_or_at rows row [] no_row i as_many)))
          | inr other ↦
              let less : k < i = omega (arith, within, other, as_many, length-append rows (row ∷ [])) in
              rw (joined) (in_kept (shares_of rows) part i earlier own k less ∙ tabled.numbered k (omega (arith, less, as_many))
              ∙ ap (λ (one : Row). one.shares) (sym (get_or_append_left rows (row ∷ []) no_row k (omega (arith, less, as_many)))))
        ];
      },
    )

-- what is served of a stretch fills it at the pace that it makes
pub row_put : (pace : Option Pace) (grain served : ℕ) (stretch : Piece) (shares : List JobShare) →
    MatchOption pace (served ≡ 0) (λ p. (1 ≤ served) × (p ≡ lowest_pace served stretch grain)) → IsStretch stretch → served ≡ total_units shares →
    1 ≤ grain → grain ≤ MAX_GRID → served ≤ MAX_JOBS * (MAX_WORK * grain) → All (λ share. 1 ≤ share.units) shares →
    All (λ share. share.units ≤ MAX_WORK * grain) shares → IsFilledAt pace stretch shares × HasGrain grain pace × IsLowest pace stretch shares
row_put None grain served stretch shares made is total some_grain grid few some works =
    ((is, total_none shares some (sym total ∙ made)), tt, tt)
row_put (Some pace) grain served stretch shares made is total some_grain grid few some works =
    let most : MAX_JOBS * (MAX_WORK * grain) ≤ MAX_JOBS * (MAX_WORK * MAX_GRID) = omega (arith, grid) in
    rw (made.1) (
      lowest_fills served stretch grain shares is made.0 total some_grain (omega (arith, grid)) (omega (arith, few, most)) some
          (All-weaker (λ share. share.units ≤ MAX_WORK * grain) (λ share. share.units ≤ grain * MAX_SLOT_WORK) (λ share small. omega (arith, small)) shares works),
      refl,
      ap (λ n. n / common_divisor n (length_of stretch)) total,
    )

-- what the loop keeps once the stretch is served
pub stepped : (jobs : List Job) (grid : ℕ) (units : List Job → ℕ → (ℕ → ℕ) → Piece → ℕ) (rounds : List Job → ℕ → (ℕ → ℕ) → Piece → Bool) → 1 ≤ grid →
    (i : ℕ) → i < length (stretches jobs) → (now started new : JobQueue) (rows next : List Row) →
    Running jobs grid (units jobs grid) i now (shares_of rows) → Tabled jobs grid i rows →
    (stretch : Piece) → stretch ≡ stretch_at jobs i → started ≡ record now { time = Some stretch.from } →
    (set : ℕ) → set ≡ units started.jobs started.grain (pending_in started) stretch → (rounded : Bool) →
    rounded ≡ rounds started.jobs started.grain (pending_in started) stretch → (part : List JobShare) → Serves started new (length rows) set part →
    PutsRow started.grain stretch part rows next → (count : ℕ) → count ≡ count_rounded jobs grid (rounds jobs grid) (shares_of rows) i →
    Running jobs grid (units jobs grid) (i + 1) new (shares_of next) × Tabled jobs grid (i + 1) next
    × (count + cond rounded 1 0 ≡ count_rounded jobs grid (rounds jobs grid) (shares_of next) (i + 1))
stepped jobs grid units rounds some i here now started new rows next running tabled stretch is starts set set_is rounded rounded_is part serves puts count counted =
    let told = told_of units jobs grid i now started stretch set running.same_jobs running.same_grain is starts set_is in
    let told_rounded = told_of rounds jobs grid i now started stretch rounded running.same_jobs running.same_grain is starts rounded_is in
    let as_many = tabled_many tabled (let most : i ≤ length (stretches jobs) = omega (arith, here) in most) in
    let served = served_from jobs i set now started new stretch part is starts (subst (λ (n : ℕ). Serves started new n set part) as_many serves) in
    let grain_is : started.grain ≡ grid = ap (λ (queue : JobQueue). queue.grain) starts ∙ running.same_grain in
    let after = tabled_next jobs grid i rows next stretch part tabled here is running.known served.in_stretch
    (subst (λ (g : ℕ). PutsRow g stretch part rows next) grain_is puts) in
    rw (after.0, add-one) (
      running_next jobs grid (units jobs grid) some i here now new (shares_of rows) running set told part served,
      rw add-one at after.1,
      omega (
        arith,
        counted,
        ap {B = ℕ} (λ b. cond b 1 0) told_rounded,
        count_next jobs grid (units jobs grid) some i here now new (shares_of rows) running set told part served (rounds jobs grid),
      ),
    )

-- the slots of a timetable are written as those of a run
rows_written : (jobs : List Job) (grid : ℕ) (rows : List Row) → stretches_of rows ≡ stretches jobs → All IsRow rows → All (λ row. HasGrain grid row.pace) rows →
    All (λ row. IsLowest row.pace row.stretch row.shares) rows → All (HasRunDenominators jobs grid) (slots_of rows)
rows_written jobs grid rows are filled grains lowest = All-flat (HasRunDenominators jobs grid) row_slots rows (λ k d within.
    let row = get_or rows k d in
    let among : Contains (stretches jobs) row.stretch = subst (λ (pieces : List Piece). Contains pieces row.stretch) are
    (subst (Contains (stretches_of rows)) (get_or-map (λ (one : Row). one.stretch) rows k d no_stretch within)
    (Contains-get_or (stretches_of rows) k no_stretch (omega (arith, within, length-map rows (λ (one : Row). one.stretch))))) in
    paced_all (HasRunDenominators jobs grid) row.pace row.stretch row.shares (filled k d within) (λ pace at fills done share some enough.
    let grain_is : pace.grain ≡ grid = subst (λ (p : Option Pace). HasGrain grid p) at (grains k d within) in
    let slot = slot_of pace row.stretch.from done share in
    let lowest_is = subst (λ (p : Option Pace). IsLowest p row.stretch row.shares) at (lowest k d within) in
    record {
      stretch = row.stretch;
      is_stretch = among;
      lies = lies_written pace row.stretch (total_units row.shares) fills.own done share some enough;
      units = total_units row.shares;
      speed = subst (λ (g : ℕ). HasSpeed (total_units row.shares) (g * length_of row.stretch) slot) grain_is (speed_written pace row.stretch (total_units row.shares) fills.own done share some enough);
      work = subst (λ (g : ℕ). IsOver g slot.work) grain_is (of_parts_over share.units pace.grain);
      from = subst (λ (n : ℕ). IsOver n slot.from) lowest_is (of_parts_over (row.stretch.from * pace.units + done * pace.time) pace.units);
      to = subst (λ (n : ℕ). IsOver n slot.to) lowest_is (of_parts_over (row.stretch.from * pace.units + (done + share.units) * pace.time) pace.units);
    }))

-- once all stretches are served, the timetable is of them all, and it is a run of the policy
pub all_rows : {jobs : List Job} {grid : ℕ} {rows : List Row} → Tabled jobs grid (length (stretches jobs)) rows → AreRowsOf jobs grid rows
all_rows {jobs = jobs} tabled = record {
  stretches_are = tabled.stretches_are ∙ take_all (length (stretches jobs)) (stretches jobs) (le_refl (length (stretches jobs)));
  filled = tabled.filled;
  grains = tabled.grains;
  lowest = tabled.lowest;
  numbered = tabled.numbered;
}

pub all_run : {jobs : List Job} {grid : ℕ} {units : (ℕ → ℕ) → Piece → ℕ} {rounds : (ℕ → ℕ) → Piece → Bool} {now : JobQueue} {rows : List Row} {rounded : ℕ} →
    Running jobs grid units (length (stretches jobs)) now (shares_of rows) → Tabled jobs grid (length (stretches jobs)) rows →
    rounded ≡ count_rounded jobs grid rounds (shares_of rows) (length (stretches jobs)) → IsPolicyRun jobs grid units rounds rounded (slots_of rows)
all_run {jobs = jobs} {grid = grid} {rows = rows} running tabled counted =
    let are = all_rows tabled in
    record {
      shares = shares_of rows;
      served = record { in_order = running.in_order; known = running.known; serving = running.serving; few = omega (arith, running.few) };
      laid = record {
        rows = rows;
        are = are;
        shares_are = refl;
        slots_are = refl;
        denominators = rows_written jobs grid rows are.stretches_are are.filled are.grains are.lowest;
      };
      count = counted;
    }

-- its slots are within the limits
pub can_lay : {jobs : List Job} {grid : ℕ} {units : (ℕ → ℕ) → Piece → ℕ} {now : JobQueue} {rows : List Row} → length jobs ≤ MAX_JOBS →
    Running jobs grid units (length (stretches jobs)) now (shares_of rows) → Tabled jobs grid (length (stretches jobs)) rows → CanLay (length jobs) rows
can_lay {jobs = jobs} {grid = grid} {rows = rows} few running tabled = record {
  few = omega (arith, few, running.few, few_stretches jobs);
  known = λ k d within.
      let share = get_or (shares_of rows) k d in
      All-contains (λ (s : JobShare). s.job < length jobs) (shares_in (shares_of rows) share.stretch) share
      (running.serving share.stretch (running.known k d within)).known (stands_in (shares_of rows) share (Contains-get_or (shares_of rows) k d within));
  grains = (λ job. grid, rows_over grid rows tabled.filled tabled.grains);
}

-- a flag as a number: 1 or 0
pub one_or_none : (b : Bool) → from_bool b ≡ cond b 1 0
one_or_none true = refl
one_or_none false = refl

pub one_at_most : (b : Bool) → from_bool b ≤ 1
one_at_most true = omega arith
one_at_most false = omega arith

-- no more stretches are rounded than there are
pub few_rounded : (jobs : List Job) (grid : ℕ) (rounds : (ℕ → ℕ) → Piece → Bool) (shares : List JobShare) (i : ℕ) →
    count_rounded jobs grid rounds shares i ≤ i
few_rounded jobs grid rounds shares i =
    let most : (b : Bool) → cond b 1 0 ≤ 1 = elim [ true ↦ omega arith | false ↦ omega arith ] in
    omega (
      arith,
      sum_below_bound i 1 (λ k. cond (rounds (pending_before jobs grid shares k) (stretch_at jobs k)) 1 0)
          (λ k below. most (rounds (pending_before jobs grid shares k) (stretch_at jobs k))),
    )
