-- The timetable of what is found: each stretch is filled at its group's pace, or idle, and each slot stands beside its share.
use Rattle.yds_model.proofs.Common.{◌≡◌, ℕ, ◌+◌, ◌*◌, ◌<◌, ◌≤◌, ◌==◌, ◌⊎◌, List, [], Some, None, ◌∙◌, length, map, get_or, sym, refl, ap, ap₂, subst, arith, inl, inr, Option, slice_get, option_map, All, AllPairs, AllZip, Contains, filter, flat_map, sum_by, range_with_len, cases_eq, cases_lt, eq-eqb, eqb-true, ne_eqb, get_or_default, length-map, nil_from_length, slice_get-map, slice_get-get_or, slice_get_past, All-contains, All-contains_itself, All-filter, All-from_get_or, All-map, filter_agree, filter_passes, flat_map-map, AllPairs-filter, get_or-le-sum_by, div-le_self, mul-le-mul_left, mul-le-mul_right, Job, IsJob, job_at, WrittenSlot, Piece, common_divisor, stretches, ComesFirst, stretch_at, sum_by_same, sum_by-filter}
use Rattle.base.specs.declared.limits.TheConstants.{MAX_JOBS, MAX_SLOT_WORK, MAX_WORK}
use Rattle.yds_model.specs.Plan.{IsOver}
use Rattle.yds_slots.proofs.WorkParts.{of_parts_over}
use Rattle.yds_events.specs.Stretch.{IsStretch}
use Rattle.yds_events.specs.Window.{length_at}
use Rattle.yds_events.proofs.Neighbours.{few_stretches, stretch_forward, stretch_in_range}
use Rattle.yds_timetable.specs.declared.pace.Pace.{Pace}
use Rattle.yds_timetable.specs.Shares.{JobShare, no_share, total_units, shares_in, units_given}
use Rattle.yds_timetable.specs.Pace.{slot_of, IsPaceOf, Fills}
use Rattle.yds_timetable.specs.Timetable.{Row, rows_of, row_slots, shares_of, slots_at_pace, IsRow}
use Rattle.yds_timetable.specs.Room.{CanLay}
use Rattle.yds_timetable.proofs.Lists.{AllZip-flat, AllZip-weaker, all_second, length_zipped}
use Rattle.yds_timetable.proofs.Paces.{each_pair}
use Rattle.yds_search.specs.Found.{Group, Found, IsFound, IsShare, group_of, no_group, group_at, per_time, per_work, units_of_job}
use Rattle.yds_search.proofs.LowestSpeed.{Lowest, lowest}
use Rattle.yds_search.proofs.KeySums.{in_range, sum_by-flat_map, split_all, count_all}
use Rattle.yds_plan.specs.Laid.{pace_of_group, row_found, rows_found, laid_slots}
use Rattle.yds_plan.proofs.Merged.{all_of_blocks, pairs_of_blocks}
use Rattle.yds_plan.proofs.Bounds.{group_work, group_length}

-- a test of two numbers, the other way round
same_test : (a b : ℕ) → (a == b) ≡ (b == a)
same_test a b = grind (arith, cases_eq, eq-eqb, ne_eqb)

by_stretch : (shares : List JobShare) (k : ℕ) → shares_in shares k ≡ filter (λ share. share.stretch == k) shares
by_stretch shares k = filter_agree (λ (share : JobShare). k == share.stretch) (λ share. share.stretch == k) (λ share. same_test k share.stretch) shares

-- a job is another and comes first
abbrev pub IsBefore : List Job → ℕ → ℕ → Type 0
IsBefore jobs first other = (first ≡ other → ⊥) × ComesFirst jobs first other

-- one share stands in an earlier stretch, or before the other in the same
abbrev pub InOrder : List Job → JobShare → JobShare → Type 0
InOrder jobs one other = (one.stretch < other.stretch) ⊎ ((one.stretch ≡ other.stretch) × IsBefore jobs one.job other.job)

-- the shares, stretch by stretch
abbrev pub sorted_shares : List Job → Found → List JobShare
sorted_shares jobs found = flat_map (shares_in found.shares) (range_with_len 0 (length (stretches jobs)))

abbrev pub group_there : Found → ℕ → Group
group_there found k = group_at found.groups (group_of found.group_of_stretch k)

-- The slot is that of the share, after so many units of its stretch.
pub record IsLaid (jobs : List Job) (found : Found) (share : JobShare) (slot : WrittenSlot) : Type 0 where
  pub there : Contains found.shares share
  pub is_share : IsShare jobs found share
  pub done : ℕ
  pub enough : done + share.units ≤ total_units (shares_in found.shares share.stretch)
  pub slot_is : slot ≡ slot_of (pace_of_group (group_there found share.stretch)) (stretch_at jobs share.stretch).from done share

module _ (jobs : List Job) (found : Found) (is : IsFound jobs found) where
  -- # Shares

  all_there : (k : ℕ) → All (λ share. Contains found.shares share × (share.stretch ≡ k)) (shares_in found.shares k)
  all_there k i d within = (
    All-filter (λ (share : JobShare). k == share.stretch) (λ share. Contains found.shares share) found.shares (All-contains_itself found.shares) i d within,
    sym (eqb-true k _ (filter_passes (λ (share : JobShare). k == share.stretch) found.shares i d within)),
  )

  pub share_is : (share : JobShare) → Contains found.shares share → IsShare jobs found share
  share_is share there = All-contains (IsShare jobs found) found.shares share is.shares there

  in_order : AllPairs (λ one other. one.stretch ≡ other.stretch → IsBefore jobs one.job other.job) found.shares
  in_order i j d order within =
      rw (get_or_default found.shares i d no_share (omega arith), get_or_default found.shares j d no_share within) (λ same. is.in_order i j order within same)

  stretch_in_order : (k : ℕ) → AllPairs (InOrder jobs) (shares_in found.shares k)
  stretch_in_order k i j d order within =
      let same : (get_or (shares_in found.shares k) i d).stretch ≡ (get_or (shares_in found.shares k) j d).stretch =
      (all_there k i d (omega arith)).1 ∙ sym (all_there k j d within).1 in
      inr (
        same,
        AllPairs-filter (λ one other. one.stretch ≡ other.stretch → IsBefore jobs one.job other.job) (λ share. k == share.stretch)
            found.shares in_order i j d order within same,
      )

  pub sorted_in_order : AllPairs (InOrder jobs) (sorted_shares jobs found)
  sorted_in_order = pairs_of_blocks (InOrder jobs) (shares_in found.shares) (length (stretches jobs)) (λ k within. stretch_in_order k)
      (λ k l order within y e inside_y x d inside_x. inl (omega (arith, order, (all_there k x d inside_x).1, (all_there l y e inside_y).1)))

  -- they are all the shares
  sums_sorted : (f : JobShare → ℕ) → sum_by f (sorted_shares jobs found) ≡ sum_by f found.shares
  sums_sorted f =
      sum_by-flat_map (shares_in found.shares) f (range_with_len 0 (length (stretches jobs)))
      ∙ sum_by_same (λ k. sum_by f (shares_in found.shares k)) (λ k. sum_by f (filter (λ share. share.stretch == k) found.shares)) (range_with_len 0 (length (stretches jobs)))
      (λ i d within. ap (sum_by f) (by_stretch found.shares (get_or (range_with_len 0 (length (stretches jobs))) i d)))
      ∙ split_all (λ share. share.stretch) f (length (stretches jobs)) found.shares (λ i d within. (is.shares i d within).known_stretch)

  pub length_sorted : length (sorted_shares jobs found) ≡ length found.shares
  length_sorted = sym (count_all (sorted_shares jobs found)) ∙ sums_sorted (λ share. 1) ∙ count_all found.shares

  pub units_sorted : (job : ℕ) → units_given (sorted_shares jobs found) job ≡ units_of_job found.shares job
  units_sorted job = grind (arith, same_test, sum_by_same, sums_sorted)

  -- # Paces

  -- a job that is in a group has work
  pub has_work : (j : ℕ) → j < length jobs → group_of found.group_of_job j < length found.groups → 1 ≤ (job_at jobs j).work
  has_work j known grouped = grind (arith, cases_lt)

  pub terms : (g : ℕ) → g < length found.groups → Lowest (group_at found.groups g).work (group_at found.groups g).length
  terms g known = lowest (group_at found.groups g).work (group_at found.groups g).length (is.some_work g known) (is.some_length g known)

  abbrev is_grouped : ℕ → Type 0
  is_grouped k = group_of found.group_of_stretch k < length found.groups

  -- the pace of a stretch, where it has a group
  pub paced : (k : ℕ) → is_grouped k → slice_get (map pace_of_group found.groups) (group_of found.group_of_stretch k) ≡ Some (pace_of_group (group_there found k))
  paced k grouped = slice_get-map pace_of_group found.groups (group_of found.group_of_stretch k)
      ∙ ap (option_map pace_of_group) (slice_get-get_or found.groups (group_of found.group_of_stretch k) no_group grouped)

  pub unpaced : (k : ℕ) → length found.groups ≤ group_of found.group_of_stretch k → slice_get (map pace_of_group found.groups) (group_of found.group_of_stretch k) ≡ None
  unpaced k past = slice_get_past (map pace_of_group found.groups) (group_of found.group_of_stretch k) (omega (arith, past, length-map found.groups pace_of_group))

  -- a stretch of no group has no shares
  no_shares : (k : ℕ) → length found.groups ≤ group_of found.group_of_stretch k → shares_in found.shares k ≡ []
  no_shares k past = nil_from_length (shares_in found.shares k) (elim (cases_lt 0 (length (shares_in found.shares k))) [
    | inl some ↦
        let there = all_there k 0 no_share some in
        let share = share_is _ there.0 in
        absurd (omega (arith, past, share.same_group, share.grouped, ap (group_of found.group_of_stretch) there.1))
    | inr none ↦ omega arith
  ])

  -- # Rows

  module _ (proper : All IsJob jobs) (few : length jobs ≤ MAX_JOBS) where
    -- no share has more units than its job has work
    abbrev HasFewUnits : JobShare → Type 0
    HasFewUnits share = share.units ≤ per_work (group_at found.groups (group_of found.group_of_job share.job)) * MAX_WORK

    units_at_most : All HasFewUnits found.shares
    units_at_most = grind (arith, All-from_get_or, eq-eqb, get_or-le-sum_by, has_work, mul-le-mul_left)

    more_work : (q : ℕ) → q * MAX_WORK ≤ q * MAX_SLOT_WORK
    more_work q = let most : MAX_WORK ≤ MAX_SLOT_WORK = omega arith in mul-le-mul_left q most

    units_fit : (k : ℕ) → All (λ share. share.units ≤ per_work (group_there found k) * MAX_SLOT_WORK) (shares_in found.shares k)
    units_fit k i d within = grind (arith, All-contains, all_there, more_work, share_is, units_at_most)

    pub full : (k : ℕ) → k < length (stretches jobs) → is_grouped k → total_units (shares_in found.shares k) ≡ per_time (group_there found k) * length_at jobs k
    full k within grouped = ap total_units (by_stretch found.shares k) ∙ sum_by-filter (λ share. share.stretch == k) (λ share. share.units) found.shares
        ∙ is.full k within grouped

    module _ (k : ℕ) (within : k < length (stretches jobs)) where
      is_stretch : IsStretch (stretch_at jobs k)
      is_stretch = record { has_length = stretch_forward jobs k within; time_in_range = stretch_in_range jobs k proper within }

      time_small : is_grouped k → per_time (group_there found k) ≤ MAX_JOBS * MAX_WORK
      time_small grouped = grind (arith, div-le_self, group_work, mul-le-mul_right)

      pub own : is_grouped k → IsPaceOf (pace_of_group (group_there found k)) (stretch_at jobs k) (total_units (shares_in found.shares k))
      own grouped =
          let low = terms (group_of found.group_of_stretch k) grouped in
          record {
            is_stretch = is_stretch;
            times = length_at jobs k;
            length_is = omega arith;
            units_is = sym (full k within grouped);
            some_units = low.some_first;
            units_in_range = omega (arith, time_small grouped);
            some_grain = low.some_second;
            grain_in_range = omega (arith, div-le_self (group_there found k).length (common_divisor (group_there found k).work (group_there found k).length), group_length jobs proper found is (group_of found.group_of_stretch k) grouped);
          }

      pub fills : is_grouped k → Fills (pace_of_group (group_there found k)) (stretch_at jobs k) (shares_in found.shares k)
      fills grouped = grind (arith, all_there, full, is_stretch, mul-le-mul_left, mul-le-mul_right, own, share_is, time_small, units_fit)

      row_is : IsRow (row_found jobs found k)
      row_is = grind (arith, cases_lt, fills, is_stretch, no_shares, paced, unpaced)

      -- each slot stands beside its share
      abbrev IsNext : JobShare → WrittenSlot → Type 0
      IsNext share slot = (done : ℕ) × (done + share.units ≤ total_units (shares_in found.shares k))
          × (slot ≡ slot_of (pace_of_group (group_there found k)) (stretch_at jobs k).from done share)

      laid : (share : JobShare) (slot : WrittenSlot) → Contains found.shares share × (share.stretch ≡ k) → IsNext share slot → IsLaid jobs found share slot
      laid share slot there next = grind (arith, share_is)

      beside : AllZip (IsLaid jobs found) (shares_in found.shares k) (row_slots (row_found jobs found k))
      beside = elim (cases_lt (group_of found.group_of_stretch k) (length found.groups)) [
        | inl grouped ↦ subst (λ (pace : Option Pace). AllZip (IsLaid jobs found) (shares_in found.shares k) (slots_at_pace pace (stretch_at jobs k).from (shares_in found.shares k)))
            (sym (paced k grouped)) (AllZip-weaker IsNext (IsLaid jobs found) (λ share. Contains found.shares share × (share.stretch ≡ k)) laid (shares_in found.shares k) _ (all_there k)
            (each_pair (pace_of_group (group_there found k)) (stretch_at jobs k) (total_units (shares_in found.shares k)) (own grouped) IsNext
            (λ done share some enough. (done, enough, refl)) 0 (shares_in found.shares k) (fills grouped).some (omega arith)))
        | inr past ↦ subst (λ (shares : List JobShare). AllZip (IsLaid jobs found) shares (slots_at_pace (slice_get (map pace_of_group found.groups) (group_of found.group_of_stretch k)) (stretch_at jobs k).from shares))
            (sym (no_shares k past)) (subst (λ (pace : Option Pace). AllZip (IsLaid jobs found) [] (slots_at_pace pace (stretch_at jobs k).from [])) (sym (unpaced k past)) tt)
      ]

    pub rows_are : All IsRow (rows_found jobs found)
    rows_are = All-map IsRow (row_found jobs found) (range_with_len 0 (length (stretches jobs)))
        (λ i d within. let at = in_range (length (stretches jobs)) i d within in rw (at.1) (row_is i at.0))

    pub all_laid : AllZip (IsLaid jobs found) (sorted_shares jobs found) (laid_slots jobs found)
    all_laid =
        subst (λ (slots : List WrittenSlot). AllZip (IsLaid jobs found) (sorted_shares jobs found) slots)
        (sym (flat_map-map row_slots (row_found jobs found) (range_with_len 0 (length (stretches jobs)))))
        (AllZip-flat (IsLaid jobs found) (shares_in found.shares) (λ k. row_slots (row_found jobs found k))
        (range_with_len 0 (length (stretches jobs))) 0
        (λ i within. let at = in_range (length (stretches jobs)) i 0 within in rw (at.1) (beside i at.0)))

    pub slots_length : length (laid_slots jobs found) ≡ length found.shares
    slots_length = length_zipped (IsLaid jobs found) (sorted_shares jobs found) (laid_slots jobs found) all_laid ∙ length_sorted

    -- the slots can be laid
    pub can_lay : CanLay (length jobs) (rows_found jobs found)
    can_lay = record {
      few = omega (arith, ap (λ (shares : List JobShare). length shares) sorted_is, length_sorted, is.few, few_stretches jobs, few);
      known = subst (λ (shares : List JobShare). All (λ share. share.job < length jobs) shares) (sym sorted_is)
          (all_of_blocks (λ share. share.job < length jobs) (shares_in found.shares) (length (stretches jobs)) (λ k within i d inside. (share_is _ (all_there k i d inside).0).known));
      grains = (
        λ job. per_work (group_at found.groups (group_of found.group_of_job job)),
        all_second (IsLaid jobs found) (λ slot. IsOver (per_work (group_at found.groups (group_of found.group_of_job slot.job))) slot.work) over
            (sorted_shares jobs found) (laid_slots jobs found) all_laid,
      );
    } where
      sorted_is : shares_of (rows_found jobs found) ≡ sorted_shares jobs found
      sorted_is = flat_map-map (λ (row : Row). row.shares) (row_found jobs found) (range_with_len 0 (length (stretches jobs)))

      over : (share : JobShare) (slot : WrittenSlot) → IsLaid jobs found share slot →
          IsOver (per_work (group_at found.groups (group_of found.group_of_job slot.job))) slot.work
      over share slot laid = rw (laid.slot_is, ← laid.is_share.same_group) (of_parts_over share.units (per_work (group_there found share.stretch)))

    -- rows of the same lists
    pub rows_made : (timeline : List Piece) (own_paces : List Pace) (places : List ℕ) (shares : List JobShare) → timeline ≡ stretches jobs →
        own_paces ≡ map pace_of_group found.groups → places ≡ found.group_of_stretch → shares ≡ found.shares → rows_of timeline own_paces places shares ≡ rows_found jobs found
    rows_made timeline own_paces places shares same_timeline same_paces same_places same_shares = grind (arith, ap₂)
