-- The slots of a run at a scale, each beside its share.
use Rattle.yds_model.proofs.Common.{◌≡◌, ℕ, ◌*◌, ◌<◌, ◌≤◌, List, [], ◌∷◌, length, get_or, ◌∙◌, sym, subst, arith, inl, inr, ap, cond, true, false, Bool, ◌==◌, nat_le, nat_lt, All, filter, AllZip, ◌∣◌, cases_lt, cases_eq, le-leb, lt-leb, lt-ltb, le-ltb, eq-eqb, ne_eqb, eqb-true, length-map, get_or-map, All-head, All-tail, All-contains, Contains-get_or, filter_passes, sum_by-cons, mul-le-mul_right, mul-add, Job, Fraction, at_scale, WrittenSlot, WholeSlot, IsDivided, IsScale, IsSolid, slot_at_scale, slots_at, work_given, Piece, PiecesFrom, RunFrom, stretches, stretch_at}
use Rattle.model_lemmas.proofs.Runs.{run_forward}
use Rattle.yds_slots.proofs.WorkParts.{of_parts_at}
use Rattle.yds_events.specs.Stretch.{no_stretch}
use Rattle.yds_events.proofs.Neighbours.{stretch_order, stretch_forward, stretches_run}
use Rattle.yds_timetable.specs.Shares.{JobShare, units_given, shares_before}
use Rattle.yds_timetable.specs.Timetable.{Row, row_at, stretches_of, row_slots, shares_of, slots_of}
use Rattle.yds_timetable.proofs.Lists.{AllZip-weaker, length_zipped}
use Rattle.yds_timetable.proofs.Paces.{IsFor}
use Rattle.yds_timetable.proofs.Rows.{no_row, rows_run, rows_solid, rows_for, zipped_work}
use Rattle.yds_edf.specs.PolicyRun.{IsServed, AreRowsOf, IsLaidOut}
use Rattle.yds_edf.proofs.Filled.{stands_in}

-- a share of a job that there is, in a stretch that there is
pub record IsShare (jobs : List Job) (share : JobShare) : Type 0 where
  pub known : share.job < length jobs
  pub some : 1 ≤ share.units
  pub within : share.stretch < length (stretches jobs)

-- the slot gives the share's units, in the share's stretch
pub record Stands (jobs : List Job) (grid scale : ℕ) (share : JobShare) (slot : WholeSlot) : Type 0 where
  pub share_is : IsShare jobs share
  pub job : slot.job ≡ share.job
  pub work : slot.work * grid ≡ share.units * scale
  pub from : (stretch_at jobs share.stretch).from * scale ≤ slot.from
  pub forward : slot.from < slot.to
  pub to : slot.to ≤ (stretch_at jobs share.stretch).to * scale

-- the slot gives the share's units to its job, within the share's stretch
abbrev IsForOwn : List Job → ℕ → JobShare → WrittenSlot → Type 0
IsForOwn jobs grid share slot = IsFor (stretch_at jobs share.stretch) grid share slot

zip_stands : (jobs : List Job) (grid scale : ℕ) → 1 ≤ scale → (shares : List JobShare) (slots : List WrittenSlot) → AllZip (IsForOwn jobs grid) shares slots →
    All (IsShare jobs) shares → All (IsDivided scale) slots → All (λ slot. slot.from < slot.to) (slots_at scale slots) →
    AllZip (Stands jobs grid scale) shares (slots_at scale slots)
zip_stands jobs grid scale some [] [] beside are divided forward = tt
zip_stands jobs grid scale some [] (slot ∷ slots) beside are divided forward = absurd beside
zip_stands jobs grid scale some (share ∷ shares) [] beside are divided forward = absurd beside
zip_stands jobs grid scale some (share ∷ shares) (slot ∷ slots) beside are divided forward =
    let here = All-head (IsDivided scale) slot slots divided in
    let lies = beside.0.lies_in scale some here in (
      record {
        share_is = All-head (IsShare jobs) share shares are;
        job = beside.0.job;
        work = subst (λ (x : Fraction). at_scale scale x * grid ≡ share.units * scale) (sym beside.0.work)
            (of_parts_at scale share.units grid (subst (λ (x : Fraction). x.den ∣ scale) beside.0.work here.work));
        from = lies.from;
        forward = All-head (λ (s : WholeSlot). s.from < s.to) (slot_at_scale scale slot) (slots_at scale slots) forward;
        to = lies.to;
      },
      zip_stands jobs grid scale some shares slots beside.1 (All-tail (IsShare jobs) share shares are) (All-tail (IsDivided scale) slot slots divided)
          (All-tail (λ (s : WholeSlot). s.from < s.to) (slot_at_scale scale slot) (slots_at scale slots) forward),
    )

-- # The timetable of a run

module _ (jobs : List Job) (grid : ℕ) (rows : List Row) (are : AreRowsOf jobs grid rows) where
  pub as_many_rows : length rows ≡ length (stretches jobs)
  as_many_rows = sym (length-map rows (λ (row : Row). row.stretch)) ∙ ap (λ (pieces : List Piece). length pieces) are.stretches_are

  pub row_stretch : (k : ℕ) → k < length rows → (row_at rows k).stretch ≡ stretch_at jobs k
  row_stretch k within =
      sym (get_or-map (λ (row : Row). row.stretch) rows k no_row no_stretch within) ∙ ap (λ (pieces : List Piece). get_or pieces k no_stretch) are.stretches_are

  pub rows_order : PiecesFrom 0 (stretches_of rows)
  rows_order = rw (are.stretches_are) (stretches_run jobs)

  -- the shares of a row are those of its stretch
  row_own : (k : ℕ) → k < length rows → All (λ share. share.stretch ≡ k) (row_at rows k).shares
  row_own k within = subst (λ (own : List JobShare). All (λ share. share.stretch ≡ k) own) (are.numbered k within)
      (λ i d there. sym (eqb-true k _ (filter_passes (λ (share : JobShare). k == share.stretch) (shares_of rows) i d there)))

  rows_beside : AllZip (IsForOwn jobs grid) (shares_of rows) (slots_of rows)
  rows_beside = rows_for (IsForOwn jobs grid) grid rows are.filled are.grains (λ k within zipped.
      AllZip-weaker (IsFor (row_at rows k).stretch grid) (IsForOwn jobs grid) (λ share. share.stretch ≡ k)
      (λ share slot at is. subst (λ (piece : Piece). IsFor piece grid share slot) (row_stretch k within ∙ ap (stretch_at jobs) (sym at)) is)
      (row_at rows k).shares (row_slots (row_at rows k)) (row_own k within) zipped)

module _ (jobs : List Job) (grid : ℕ) (shares : List JobShare) (slots : List WrittenSlot) (laid : IsLaidOut jobs grid shares slots) where
  beside : AllZip (IsForOwn jobs grid) shares slots
  beside = rw (laid.shares_are, laid.slots_are) (rows_beside jobs grid laid.rows laid.are)

  -- the slots run one after another
  pub one_at_a_time : (scale : ℕ) → IsScale scale slots → RunFrom 0 (slots_at scale slots)
  one_at_a_time scale is =
      let start : 0 * scale ≡ 0 = omega arith in
      let there : IsScale scale (slots_of laid.rows) = subst (IsScale scale) laid.slots_are is in
      rw (laid.slots_are) (subst (λ (n : ℕ). RunFrom n (slots_at scale (slots_of laid.rows))) start
      (rows_run scale is.positive 0 laid.rows (rows_order jobs grid laid.rows laid.are) laid.are.filled there.divided))

  -- denominators are at least 1
  pub laid_solid : All IsSolid slots
  laid_solid = rw (laid.slots_are) (rows_solid laid.rows laid.are.filled)

module _ (jobs : List Job) (grid : ℕ) (units : (ℕ → ℕ) → Piece → ℕ) (shares : List JobShare) (slots : List WrittenSlot)
    (served : IsServed jobs grid units shares) (laid : IsLaidOut jobs grid shares slots) where
  pub all_shares : All (IsShare jobs) shares
  all_shares k d within =
      let share = get_or shares k d in
      let known = served.known k d within in
      let serving = served.serving share.stretch known in
      let there = stands_in shares share (Contains-get_or shares k d within) in
      record {
        known = All-contains (λ s. s.job < length jobs) _ share serving.known there;
        some = All-contains (λ s. 1 ≤ s.units) _ share serving.some there;
        within = known;
      }

  module _ (scale : ℕ) (is : IsScale scale slots) where
    pub all_stand : AllZip (Stands jobs grid scale) shares (slots_at scale slots)
    all_stand = zip_stands jobs grid scale is.positive shares slots (beside jobs grid shares slots laid) all_shares is.divided
        (run_forward 0 (slots_at scale slots) (one_at_a_time jobs grid shares slots laid scale is))

    pub length_whole : length (slots_at scale slots) ≡ length shares
    length_whole = length_zipped (Stands jobs grid scale) shares (slots_at scale slots) all_stand

-- # Slots that pass a test, and shares that pass another

-- a share and its slot more, or not
one_more : (grid scale job : ℕ) (b : Bool) (share : JobShare) (slot : WholeSlot) (shares : List JobShare) (slots : List WholeSlot) →
    grid * cond (job == slot.job) slot.work 0 ≡ scale * cond (job == share.job) share.units 0 → grid * work_given slots job ≡ scale * units_given shares job →
    grid * work_given (cond b (slot ∷ slots) slots) job ≡ scale * units_given (cond b (share ∷ shares) shares) job
one_more grid scale job false share slot shares slots mine rest = rest
one_more grid scale job true share slot shares slots mine rest =
    let both : grid * work_given (slot ∷ slots) job ≡ scale * units_given (share ∷ shares) job = omega (
      arith,
      rest,
      mine,
      ap (λ n. grid * n) (sum_by-cons (λ (s : WholeSlot). cond (job == s.job) s.work 0) slot slots),
      ap (λ n. scale * n) (sum_by-cons (λ (s : JobShare). cond (job == s.job) s.units 0) share shares),
      mul-add grid (cond (job == slot.job) slot.work 0) (work_given slots job),
      mul-add scale (cond (job == share.job) share.units 0) (units_given shares job),
    ) in
    both

-- where the two agree, the slots that pass do the work of the shares that pass
filtered_work : (jobs : List Job) (grid scale : ℕ) (test : WholeSlot → Bool) (among : JobShare → Bool) →
    ((share : JobShare) (slot : WholeSlot) → Stands jobs grid scale share slot → test slot ≡ among share) → (shares : List JobShare) (slots : List WholeSlot) →
    AllZip (Stands jobs grid scale) shares slots → (job : ℕ) → grid * work_given (filter test slots) job ≡ scale * units_given (filter among shares) job
filtered_work jobs grid scale test among agree [] [] stand job = omega arith
filtered_work jobs grid scale test among agree [] (slot ∷ slots) stand job = absurd stand
filtered_work jobs grid scale test among agree (share ∷ shares) [] stand job = absurd stand
filtered_work jobs grid scale test among agree (share ∷ shares) (slot ∷ slots) stand job =
    let rest = filtered_work jobs grid scale test among agree shares slots stand.1 job in
    let mine : grid * cond (job == slot.job) slot.work 0 ≡ scale * cond (job == share.job) share.units 0 =
    rw (stand.0.job) (elim (cases_eq job share.job) [
      | inl same ↦ rw (eq-eqb job share.job same) (omega (arith, stand.0.work))
      | inr other ↦ rw (ne_eqb job share.job other) (omega arith)
    ]) in
    rw (agree share slot stand.0)
    (one_more grid scale job (among share) share slot (filter among shares) (filter test slots) mine rest)

-- which slots have ended when a stretch begins
ended_by : (jobs : List Job) (grid scale k : ℕ) → k < length (stretches jobs) → (share : JobShare) (slot : WholeSlot) → Stands jobs grid scale share slot →
    nat_le slot.to ((stretch_at jobs k).from * scale) ≡ nat_lt share.stretch k
ended_by jobs grid scale k within share slot stands = grind (arith, cases_eq, cases_lt, le-leb, le-ltb, lt-leb, lt-ltb, mul-le-mul_right, stretch_forward, stretch_order)

module _ (jobs : List Job) (grid : ℕ) (units : (ℕ → ℕ) → Piece → ℕ) (shares : List JobShare) (slots : List WrittenSlot)
    (served : IsServed jobs grid units shares) (laid : IsLaidOut jobs grid shares slots) (scale : ℕ) (is : IsScale scale slots) where
  -- the work that the slots that have ended by the start of a stretch have given a job, in units
  pub work_before : (k job : ℕ) → k < length (stretches jobs) →
      grid * work_given (filter (λ slot. nat_le slot.to ((stretch_at jobs k).from * scale)) (slots_at scale slots)) job
      ≡ scale * units_given (shares_before shares k) job
  work_before k job within =
      filtered_work jobs grid scale (λ slot. nat_le slot.to ((stretch_at jobs k).from * scale)) (λ share. nat_lt share.stretch k)
      (ended_by jobs grid scale k within) shares (slots_at scale slots) (all_stand jobs grid units shares slots served laid scale is) job

  -- and that of all the slots
  pub all_work : (job : ℕ) → grid * work_given (slots_at scale slots) job ≡ scale * units_given shares job
  all_work job = zipped_work (Stands jobs grid scale) grid scale job (λ share slot here. (here.job, λ same. here.work)) shares (slots_at scale slots) (all_stand jobs grid units shares slots served laid scale is)
