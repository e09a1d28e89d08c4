-- The slots of what was found, at a scale: each lies in a stretch of its job's window, each follows those before it, and each job gets its work.
use Rattle.yds_model.proofs.Common.{◌≡◌, ℕ, zero, suc, ◌-◌, ◌*◌, ◌<◌, ◌≤◌, ◌==◌, List, [], ◌∷◌, ◌∙◌, length, sym, refl, ap, subst, arith, inl, inr, cond, All, AllPairs, AllZip, mul-pos, mul-le-mul_right, eq_of_mul-eq-mul_left, cases_lt, get_or_default, All-from_get_or, All-head, All-tail, All-weaker, Job, IsJob, job_at, ComesFirst, WrittenSlot, WholeSlot, no_slot, IsDivided, IsScale, slot_at_scale, slots_at, work_given, IsInWindow as IsSlotInWindow, IsFeasibleAt, RunFrom, Piece, PiecesFrom, LiesIn, IsUncut, stretches, IsServedInStretches, stretch_at, sum_by_zero}
use Rattle.base.specs.declared.limits.TheConstants.{MAX_JOBS}
use Rattle.yds_slots.proofs.WorkParts.{of_parts_at}
use Rattle.yds_events.specs.Stretch.{no_stretch}
use Rattle.yds_events.specs.Window.{length_at}
use Rattle.yds_events.proofs.Neighbours.{stretches_run, stretch_forward, stretch_order, release_outside}
use Rattle.yds_events.proofs.Following.{Follows, Works, earliest_after}
use Rattle.yds_timetable.specs.Shares.{JobShare, no_share, share_at, total_units, shares_in}
use Rattle.yds_timetable.proofs.Lists.{all_second, length_zipped, zipped_at}
use Rattle.yds_timetable.proofs.Paces.{runs}
use Rattle.yds_timetable.proofs.Rows.{rows_run, run_pairs, zipped_work}
use Rattle.yds_timetable.proofs.Made.{rows_stretches}
use Rattle.yds_search.specs.Found.{Found, IsFound, IsShare, group_of, group_at, per_time, per_work}
use Rattle.yds_search.proofs.KeySums.{not_here}
use Rattle.yds_plan.specs.Laid.{pace_of_group, rows_found, laid_slots}
use Rattle.yds_plan.proofs.Rows.{IsLaid, InOrder, group_there, sorted_shares, sorted_in_order, units_sorted, has_work, terms, full, own, all_laid, rows_are}

-- the slot serves the share's job in the share's stretch, at the speed of the stretch's group
pub record Stands (jobs : List Job) (found : Found) (scale : ℕ) (share : JobShare) (slot : WholeSlot) : Type 0 where
  pub place : ℕ
  pub within : place < length found.shares
  pub share_there : share_at found.shares place ≡ share
  pub is_share : IsShare jobs found share
  pub job : slot.job ≡ share.job
  pub work : slot.work * per_work (group_there found share.stretch) ≡ share.units * scale
  pub from : (stretch_at jobs share.stretch).from * scale ≤ slot.from
  pub forward : slot.from < slot.to
  pub to : slot.to ≤ (stretch_at jobs share.stretch).to * scale
  pub speed : slot.work * per_work (group_there found share.stretch) ≡ per_time (group_there found share.stretch) * (slot.to - slot.from)

-- at some speed some time does some work
some_work : (work q p time : ℕ) → work * q ≡ p * time → 1 ≤ p → 1 ≤ time → 1 ≤ work
some_work zero q p time speed some_p some_time = absurd (omega (arith, speed, mul-pos some_p some_time))
some_work (suc n) q p time speed some_p some_time = omega arith

-- the speed of all units of a stretch is the units' own
own_speed : (work q long scale all p time : ℕ) → 1 ≤ scale → 1 ≤ long → work * (q * long * scale) ≡ scale * all * time → all ≡ p * long → work * q ≡ p * time
own_speed work q long scale all p time some_scale some_length speed full =
    eq_of_mul-eq-mul_left (long * scale) (mul-pos some_length some_scale) _ _ (omega (arith, speed, ap (λ n. scale * n * time) full))

module _ (jobs : List Job) (found : Found) (is : IsFound jobs found) where
  -- what a job's share in a later stretch says
  earliest_of : (scale : ℕ) (one other : JobShare) (slot next : WholeSlot) → Stands jobs found scale one slot → Stands jobs found scale other next →
      group_of found.group_of_job other.job ≡ group_of found.group_of_job one.job → (job_at jobs other.job).release ≤ (stretch_at jobs one.stretch).from →
      one.stretch < other.stretch → ComesFirst jobs one.job other.job
  earliest_of scale one other slot next here there same released order = grind arith

  -- who runs in a stretch comes before those who run in a later one and are released
  first_of_two : (scale : ℕ) (one other : JobShare) (slot next : WholeSlot) → Stands jobs found scale one slot → Stands jobs found scale other next →
      one.stretch < other.stretch → (job_at jobs other.job).release ≤ (stretch_at jobs one.stretch).from → ComesFirst jobs one.job other.job
  first_of_two scale one other slot next here there order released = elim (cases_lt (job_at jobs one.job).deadline (job_at jobs other.job).deadline) [
    | inl earlier ↦ inl earlier
    | inr later ↦
        let after = stretch_order jobs one.stretch other.stretch order there.is_share.known_stretch in
        let long = stretch_forward jobs other.stretch there.is_share.known_stretch in
        let begun = stretch_forward jobs one.stretch here.is_share.known_stretch in
        let first : group_of found.group_of_stretch one.stretch ≤ group_of found.group_of_job other.job =
        is.windows other.job one.stretch there.is_share.known (has_work jobs found is other.job there.is_share.known there.is_share.grouped) here.is_share.known_stretch
        (record { released = released; due = omega (arith, there.is_share.in_window.due) }) in
        let second : group_of found.group_of_stretch other.stretch ≤ group_of found.group_of_job one.job =
        is.windows one.job other.stretch here.is_share.known (has_work jobs found is one.job here.is_share.known here.is_share.grouped) there.is_share.known_stretch
        (record { released = omega (arith, here.is_share.in_window.released); due = omega (arith, there.is_share.in_window.due) }) in
        earliest_of scale one other slot next here there (omega (arith, here.is_share.same_group, there.is_share.same_group)) released order
  ]

  module _ (proper : All IsJob jobs) (few : length jobs ≤ MAX_JOBS) (scale : ℕ) (divided : IsScale scale (laid_slots jobs found)) where
    stands : (share : JobShare) (slot : WrittenSlot) → IsLaid jobs found share slot → IsDivided scale slot → Stands jobs found scale share (slot_at_scale scale slot)
    stands share slot laid whole =
        let k = share.stretch in
        let facts = laid.is_share in
        let grouped : group_of found.group_of_stretch k < length found.groups = omega (arith, facts.same_group, facts.grouped) in
        let pace = own jobs found is proper few k facts.known_stretch grouped in
        let there = subst (IsDivided scale) laid.slot_is whole in
        let here = runs (pace_of_group (group_there found k)) (stretch_at jobs k) (total_units (shares_in found.shares k)) pace laid.done share facts.some laid.enough scale
        divided.positive there in
        rw (laid.slot_is) (record {
          place = laid.there.0;
          within = laid.there.1;
          share_there = get_or_default found.shares laid.there.0 no_share share laid.there.1 ∙ laid.there.2;
          is_share = facts;
          job = refl;
          work = of_parts_at scale share.units (per_work (group_there found k)) there.work;
          from = here.lies_in.from;
          forward = here.forward;
          to = here.lies_in.to;
          speed = own_speed _ (per_work (group_there found k)) (length_at jobs k) scale (total_units (shares_in found.shares k)) (per_time (group_there found k)) _
              divided.positive (omega (arith, stretch_forward jobs k facts.known_stretch)) here.speed (full jobs found is proper few k facts.known_stretch grouped);
        })

    all_at_scale : (shares : List JobShare) (slots : List WrittenSlot) → AllZip (IsLaid jobs found) shares slots → All (IsDivided scale) slots →
        AllZip (Stands jobs found scale) shares (slots_at scale slots)
    all_at_scale [] [] laid whole = tt
    all_at_scale [] (slot ∷ slots) laid whole = absurd laid
    all_at_scale (share ∷ shares) [] laid whole = absurd laid
    all_at_scale (share ∷ shares) (slot ∷ slots) laid whole = (
      stands share slot laid.0 (All-head (IsDivided scale) slot slots whole),
      all_at_scale shares slots laid.1 (All-tail (IsDivided scale) slot slots whole),
    )

    -- each slot stands beside its share
    pub all_stand : AllZip (Stands jobs found scale) (sorted_shares jobs found) (slots_at scale (laid_slots jobs found))
    all_stand = all_at_scale (sorted_shares jobs found) (laid_slots jobs found) (all_laid jobs found is proper few) divided.divided

    abbrev pub StandsSomewhere : WholeSlot → Type 0
    StandsSomewhere slot = (share : JobShare) × Stands jobs found scale share slot

    each_stands : All StandsSomewhere (slots_at scale (laid_slots jobs found))
    each_stands = all_second (Stands jobs found scale) StandsSomewhere (λ share slot here. (share, here)) (sorted_shares jobs found) (slots_at scale (laid_slots jobs found)) all_stand

    run : RunFrom 0 (slots_at scale (laid_slots jobs found))
    run =
        let start : 0 * scale ≡ 0 = omega arith in
        subst (λ (time : ℕ). RunFrom time (slots_at scale (laid_slots jobs found))) start
        (rows_run scale divided.positive 0 (rows_found jobs found)
        (subst (PiecesFrom 0) (sym (rows_stretches (stretches jobs) _ found.group_of_stretch found.shares)) (stretches_run jobs))
        (rows_are jobs found is proper few) divided.divided)

    -- a slot that lies in a stretch stands in no later one, nor in an earlier one
    not_later : (share : JobShare) (slot : WholeSlot) (q : ℕ) → q < length (stretches jobs) → Stands jobs found scale share slot →
        LiesIn scale slot (stretch_at jobs q) → q ≤ share.stretch
    not_later share slot q known here lies = grind (arith, cases_lt, mul-le-mul_right, stretch_order)

    not_earlier : (share : JobShare) (slot : WholeSlot) (q : ℕ) → q < length (stretches jobs) → Stands jobs found scale share slot →
        LiesIn scale slot (stretch_at jobs q) → share.stretch ≤ q
    not_earlier share slot q known here lies = grind (arith, cases_lt, mul-le-mul_right, stretch_order)

    follows : (one other : JobShare) (slot next : WholeSlot) → InOrder jobs one other → slot.to ≤ next.from → Stands jobs found scale one slot →
        Stands jobs found scale other next → Follows jobs scale slot next
    follows one other slot next (inr same) after here there = record {
      after = after;
      due = λ released. rw (here.job, there.job) same.1.1;
      apart = λ alike. absurd (same.1.0 (sym here.job ∙ alike ∙ there.job));
    }
    follows one other slot next (inl earlier) after here there = record {
      after = after;
      due = λ released.
          let at = subst (λ (job : ℕ). (job_at jobs job).release * scale ≤ slot.from) there.job released in
          rw (here.job, there.job) (elim (release_outside jobs other.job one.stretch there.is_share.known here.is_share.known_stretch) [
            | inl early ↦ first_of_two scale one other slot next here there earlier early
            | inr late ↦
                let apart = mul-le-mul_right scale late in
                absurd (omega (arith, here.to, here.forward, at))
          ]);
      apart = λ alike. All-from_get_or (λ (stretch : Piece). LiesIn scale slot stretch → LiesIn scale next stretch → ⊥) (stretches jobs) no_stretch
          (λ q known lies also. absurd (omega (arith, earlier, not_later one slot q known here lies, not_earlier other next q known there also)));
    }

    as_many : length (slots_at scale (laid_slots jobs found)) ≡ length (sorted_shares jobs found)
    as_many = length_zipped (Stands jobs found scale) (sorted_shares jobs found) (slots_at scale (laid_slots jobs found)) all_stand

    all_follow : AllPairs (Follows jobs scale) (slots_at scale (laid_slots jobs found))
    all_follow i j d order within =
        let slots = slots_at scale (laid_slots jobs found) in
        let last : j < length (sorted_shares jobs found) = omega (arith, within, as_many) in
        rw (get_or_default slots i d no_slot (omega arith), get_or_default slots j d no_slot within)
        (follows _ _ _ _ (sorted_in_order jobs found is i j no_share order last) (run_pairs 0 slots i j run order within)
        (zipped_at (Stands jobs found scale) (sorted_shares jobs found) slots i no_share no_slot all_stand (omega arith))
        (zipped_at (Stands jobs found scale) (sorted_shares jobs found) slots j no_share no_slot all_stand last))

    -- the work that a job gets, in units of its group
    job_served : (job : ℕ) → job < length jobs → 1 ≤ (job_at jobs job).work → work_given (slots_at scale (laid_slots jobs found)) job ≡ (job_at jobs job).work * scale
    job_served job known some =
        let q = per_work (group_at found.groups (group_of found.group_of_job job)) in
        let low = terms jobs found is (group_of found.group_of_job job) (is.with_work job known some) in
        eq_of_mul-eq-mul_left q low.some_second _ _ (omega (
          arith,
          zipped_work (Stands jobs found scale) q scale job
              (λ share slot here. (
                here.job,
                λ same. subst (λ (g : ℕ). slot.work * per_work (group_at found.groups g) ≡ share.units * scale)
                    (here.is_share.same_group ∙ ap (group_of found.group_of_job) same) here.work,
              )) (sorted_shares jobs found) (slots_at scale (laid_slots jobs found)) all_stand,
          ap (λ n. scale * n) (units_sorted jobs found is job),
          ap (λ n. scale * n) (is.served job known some),
        ))

    -- a job of no work has no slot
    no_work_given : (job : ℕ) → job < length jobs → (job_at jobs job).work < 1 → work_given (slots_at scale (laid_slots jobs found)) job ≡ 0
    no_work_given job known none =
        sum_by_zero (λ slot. cond (job == slot.job) slot.work 0) (slots_at scale (laid_slots jobs found)) (λ x d within.
        let here = (each_stands x d within).1 in
        not_here job _ _ (λ same. omega (arith, is.idle job known (omega arith), rw (← here.job, ← same) at here.is_share.grouped)))

    all_served : (job : ℕ) → job < length jobs → work_given (slots_at scale (laid_slots jobs found)) job ≡ (job_at jobs job).work * scale
    all_served job known = elim (cases_lt (job_at jobs job).work 1) [
      | inl none ↦
          let nothing : (job_at jobs job).work ≡ 0 = omega arith in
          omega (arith, no_work_given job known none, ap (λ n. n * scale) nothing)
      | inr some ↦ job_served job known some
    ]

    -- from the job's release to its deadline
    in_window : (slot : WholeSlot) → StandsSomewhere slot → IsSlotInWindow jobs scale slot
    in_window slot somewhere =
        let here = somewhere.1 in
        subst (λ (job : ℕ). IsSlotInWindow jobs scale (record { job = job; from = slot.from; to = slot.to; work = slot.work })) (sym here.job) (record {
          known = here.is_share.known;
          released = omega (arith, here.from, mul-le-mul_right scale here.is_share.in_window.released);
          due = omega (arith, here.to, mul-le-mul_right scale here.is_share.in_window.due);
        })

    pub feasible : IsFeasibleAt jobs scale (slots_at scale (laid_slots jobs found))
    feasible = record {
      one_at_a_time = run;
      in_windows = All-weaker StandsSomewhere (IsSlotInWindow jobs scale) in_window (slots_at scale (laid_slots jobs found)) each_stands;
      served = all_served;
    }

    pub served_in_stretches : IsServedInStretches jobs scale (slots_at scale (laid_slots jobs found))
    served_in_stretches = record {
      earliest_first = earliest_after jobs scale (slots_at scale (laid_slots jobs found)) [] (slots_at scale (laid_slots jobs found)) refl all_served
          (All-weaker StandsSomewhere (Works jobs scale) works (slots_at scale (laid_slots jobs found)) each_stands) all_follow;
      uncut = All-weaker StandsSomewhere (IsUncut jobs scale) uncut (slots_at scale (laid_slots jobs found)) each_stands;
      once = λ i j order within. (all_follow i j no_slot order within).apart;
    } where
      works : (slot : WholeSlot) → StandsSomewhere slot → Works jobs scale slot
      works slot somewhere =
          let share = somewhere.0 in
          let here = somewhere.1 in
          let window = in_window slot somewhere in
          let grouped : group_of found.group_of_stretch share.stretch < length found.groups = omega (arith, here.is_share.same_group, here.is_share.grouped) in
          let long : 1 ≤ slot.to - slot.from = omega (arith, here.forward) in
          record {
            known = window.known;
            released = window.released;
            some = some_work slot.work _ _ (slot.to - slot.from) here.speed (terms jobs found is (group_of found.group_of_stretch share.stretch) grouped).some_first long;
          }

      uncut : (slot : WholeSlot) → StandsSomewhere slot → IsUncut jobs scale slot
      uncut slot somewhere = grind (arith, get_or_default)
