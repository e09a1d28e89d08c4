-- A run of a policy at a scale. What is pending when a stretch begins is what its shares tell, and each stretch serves what the
-- policy sets. Where each share lies in its job's window and every job is served, the slots are a run by the definition.
use Rattle.yds_model.proofs.Common.{rules, ◌≡◌, ℕ, zero, suc, ◌+◌, ◌-◌, ◌*◌, ◌<◌, ◌≤◌, ◌⊎◌, List, [], length, ◌∙◌, refl, sym, subst, arith, inl, inr, ap, nat_le, All, AllPairs, filter, Contains, cases_lt, cases_Bool, le-leb, get_or_default, All-contains, All-from_get_or, Contains-get_or, mul-le-mul_right, mul-sub, mul-pos, eq_of_mul-eq-mul_left, Each, Job, job_at, WrittenSlot, WholeSlot, no_slot, IsScale, slots_at, slot_at, work_given, Piece, IsInWindow, IsFeasibleAt, stretches, LiesIn, IsUncut, ComesFirst, IsServedInStretches, pending_at, ServesCapacity, IsRunAt, stretch_at}
use Rattle.yds_events.specs.Stretch.{no_stretch}
use Rattle.yds_events.proofs.Neighbours.{stretch_order, release_outside, few_stretches}
use Rattle.yds_events.proofs.Following.{Follows, Works, earliest_after}
use Rattle.yds_timetable.specs.Shares.{JobShare, no_share, share_at, units_given, total_units, shares_in, shares_before}
use Rattle.yds_timetable.specs.Timetable.{row_at, slots_of}
use Rattle.yds_timetable.proofs.Lists.{zipped_at}
use Rattle.yds_timetable.proofs.Rows.{row_serves}
use Rattle.yds_edf.specs.Pending.{units_wanted}
use Rattle.yds_edf.specs.Serving.{IsDueBefore}
use Rattle.yds_edf.specs.Filled.{IsInTime}
use Rattle.yds_edf.specs.PolicyRun.{by_number, pending_before, IsServed, IsLaidOut}
use Rattle.yds_edf.proofs.AddedShares.{given_next, share_given}
use Rattle.yds_edf.proofs.Filled.{stands_in}
use Rattle.yds_timetable.proofs.Rows.{run_pairs}
use Rattle.yds_edf.proofs.Standing.{IsShare, Stands, as_many_rows, row_stretch, rows_order, one_at_a_time, all_shares, all_stand, length_whole, work_before, all_work}

module _ (jobs : List Job) (grid : ℕ) (units : (ℕ → ℕ) → Piece → ℕ) (shares : List JobShare) (slots : List WrittenSlot) (some_grid : 1 ≤ grid)
    (served : IsServed jobs grid units shares) (laid : IsLaidOut jobs grid shares slots) (scale : ℕ) (is : IsScale scale slots) where
  abbrev whole : List WholeSlot
  whole = slots_at scale slots

  -- the units of a job that are pending when a stretch begins, at the scale
  pub pending_scaled : (k number : ℕ) → k < length (stretches jobs) →
      grid * pending_at jobs scale whole (stretch_at jobs k).from number
      ≡ scale * (units_wanted jobs grid number - units_given (shares_before shares k) number)
  pending_scaled k number within =
      let given = work_given (filter (λ slot. nat_le slot.to ((stretch_at jobs k).from * scale)) whole) number in
      omega (
        arith,
        work_before jobs grid units shares slots served laid scale is k number within,
        mul-sub grid ((job_at jobs number).work * scale) given,
        mul-sub scale (units_wanted jobs grid number) (units_given (shares_before shares k) number),
      )

  -- each stretch serves what its shares have together
  pub stretch_served : (capacity : ℕ) (k : ℕ) → k < length (stretches jobs) → capacity ≡ scale * total_units (shares_in shares k) →
      ServesCapacity grid scale capacity (stretch_at jobs k) whole
  stretch_served capacity k within is_so =
      let rows = laid.rows in
      let there : k < length rows = omega (arith, within, as_many_rows jobs grid rows laid.are) in
      let own : scale * total_units (row_at rows k).shares ≡ capacity =
      ap (λ (own : List JobShare). scale * total_units own) (sym (laid.are.numbered k there) ∙ ap (λ (xs : List JobShare). shares_in xs k) (sym laid.shares_are)) ∙ sym is_so in
      subst (λ (xs : List WrittenSlot). ServesCapacity grid scale capacity (stretch_at jobs k) (slots_at scale xs)) (sym laid.slots_are)
      (subst (λ (piece : Piece). ServesCapacity grid scale capacity piece (slots_at scale (slots_of rows))) (row_stretch jobs grid rows laid.are k there)
      (subst (λ (n : ℕ). ServesCapacity grid scale n (row_at rows k).stretch (slots_at scale (slots_of rows))) own
      (row_serves rows (rows_order jobs grid rows laid.are) laid.are.filled scale (subst (IsScale scale) laid.slots_are is) grid laid.are.grains k there)))

-- the order of due jobs is that of the earliest deadline
first_of : (jobs : List Job) (a b : ℕ) → IsDueBefore jobs by_number a b → ComesFirst jobs a b
first_of jobs a b (inl less) = inl less
first_of jobs a b (inr (same, less)) = inr (same, omega (arith, less))

not_itself : (jobs : List Job) (a b : ℕ) → IsDueBefore jobs by_number a b → a ≡ b → ⊥
not_itself jobs a b (inl less) is = absurd (omega (arith, less, ap (λ job. (job_at jobs job).deadline) is))
not_itself jobs a b (inr (same, less)) is = absurd (omega (arith, less, is))

-- what is given before a later stretch is no less
given_grows : (shares : List JobShare) (k more number : ℕ) → units_given (shares_before shares k) number ≤ units_given (shares_before shares (k + more)) number
given_grows shares k zero number =
    let same : k + 0 ≡ k = omega arith in omega (arith, ap (λ i. units_given (shares_before shares i) number) same)
given_grows shares k (suc more) number =
    let next : k + suc more ≡ suc (k + more) = omega arith in
    omega (
      arith,
      given_grows shares k more number,
      given_next shares (k + more) number,
      ap (λ i. units_given (shares_before shares i) number) next,
    )

module _ (jobs : List Job) (grid : ℕ) (units : (ℕ → ℕ) → Piece → ℕ) (shares : List JobShare) (slots : List WrittenSlot) (some_grid : 1 ≤ grid)
    (served : IsServed jobs grid units shares) (laid : IsLaidOut jobs grid shares slots) (in_time : All (IsInTime jobs (stretches jobs)) shares)
    (full : Each (length jobs) (λ number. units_given shares number ≡ units_wanted jobs grid number)) where
  -- a job that may run when a share of another begins, and has one later, comes after it
  first_of_two : (one other : JobShare) → Contains shares one → Contains shares other → one.stretch < other.stretch →
      (job_at jobs other.job).release ≤ (stretch_at jobs one.stretch).from → ComesFirst jobs one.job other.job
  first_of_two one other there later order released =
      let k = one.stretch in
      let known_one = All-contains (IsShare jobs) shares one (all_shares jobs grid units shares slots served laid) there in
      let known_other = All-contains (IsShare jobs) shares other (all_shares jobs grid units shares slots served laid) later in
      let serving = served.serving k known_one.within in
      let serving_later = served.serving other.stretch known_other.within in
      let at = stands_in shares other later in
      let enough : other.units ≤ units_given (shares_in shares other.stretch) other.job =
      subst (λ (share : JobShare). share.units ≤ units_given (shares_in shares other.stretch) share.job) at.2
      (share_given (shares_in shares other.stretch) at.0 other at.1) in
      let apart : other.stretch ≡ suc k + (other.stretch - suc k) = omega (arith, order) in
      let left : units_given (shares_before shares other.stretch) other.job + 1 ≤ units_wanted jobs grid other.job =
      elim (cases_Bool (nat_le (job_at jobs other.job).release (stretch_at jobs other.stretch).from)) [
        | inl arrived ↦ omega (arith, enough, known_other.some, rw arrived at (serving_later.within other.job known_other.known))
        | inr not_yet ↦ absurd (omega (arith, enough, known_other.some, rw not_yet at (serving_later.within other.job known_other.known)))
      ] in
      let waits : units_given (shares_in shares k) other.job < pending_before jobs grid shares k other.job =
      rw (le-leb (job_at jobs other.job).release (stretch_at jobs k).from released)
      (omega (
        arith,
        left,
        given_grows shares (suc k) (other.stretch - suc k) other.job,
        ap (λ i. units_given (shares_before shares i) other.job) apart,
        given_next shares k other.job,
      )) in
      elim (All-contains (λ (share : JobShare). (share.job ≡ other.job) ⊎ IsDueBefore jobs by_number share.job other.job) (shares_in shares k) one
      (serving.earliest other.job known_other.known waits) (stands_in shares one there)) [
        | inl same ↦ inr (ap (λ job. (job_at jobs job).deadline) same, omega (arith, same))
        | inr before ↦ first_of jobs one.job other.job before
      ]

  module _ (scale : ℕ) (is : IsScale scale slots) where
    abbrev at_scale_slots : List WholeSlot
    at_scale_slots = slots_at scale slots

    as_many : length at_scale_slots ≡ length shares
    as_many = length_whole jobs grid units shares slots served laid scale is

    stands : (i : ℕ) → i < length shares → Stands jobs grid scale (share_at shares i) (slot_at at_scale_slots i)
    stands i within = zipped_at (Stands jobs grid scale) shares at_scale_slots i no_share no_slot (all_stand jobs grid units shares slots served laid scale is) within

    window : (i : ℕ) → i < length shares → IsInWindow jobs scale (slot_at at_scale_slots i)
    window i within =
        let here = stands i within in
        let lies = in_time i no_share within in
        record {
          known = omega (arith, here.job, here.share_is.known);
          released = omega (arith, here.from, mul-le-mul_right scale lies.released, ap (λ job. (job_at jobs job).release * scale) here.job);
          due = omega (arith, here.to, mul-le-mul_right scale lies.due, ap (λ job. (job_at jobs job).deadline * scale) here.job);
        }

    job_served : (number : ℕ) → number < length jobs → work_given at_scale_slots number ≡ (job_at jobs number).work * scale
    job_served number known = eq_of_mul-eq-mul_left grid some_grid _ _ (omega (
      arith,
      all_work jobs grid units shares slots served laid scale is number,
      ap (λ n. scale * n) (full number known),
    ))

    -- no slot lies in a stretch after its own, nor in one before it
    not_later : (i q : ℕ) → i < length shares → q < length (stretches jobs) → LiesIn scale (slot_at at_scale_slots i) (stretch_at jobs q) → q ≤ (share_at shares i).stretch
    not_later i q within known lies = grind (arith, cases_lt, mul-le-mul_right, stands, stretch_order)

    not_earlier : (i q : ℕ) → i < length shares → q < length (stretches jobs) → LiesIn scale (slot_at at_scale_slots i) (stretch_at jobs q) → (share_at shares i).stretch ≤ q
    not_earlier i q within known lies = grind (arith, cases_lt, mul-le-mul_right, stands, stretch_order)

    follows : (i j : ℕ) → i < j → j < length shares → Follows jobs scale (slot_at at_scale_slots i) (slot_at at_scale_slots j)
    follows i j order within =
        let earlier : i < length shares = omega (arith, order, within) in
        let one = stands i earlier in
        let other = stands j within in
        let first_there = Contains-get_or shares i no_share earlier in
        let other_there = Contains-get_or shares j no_share within in
        record {
          after = run_pairs 0 at_scale_slots i j (one_at_a_time jobs grid shares slots laid scale is) order (omega (arith, within, as_many));
          due = rw (one.job, other.job) (λ released. elim (served.in_order i j no_share order within) [
            | inr same ↦ first_of jobs (share_at shares i).job (share_at shares j).job same.1
            | inl less ↦ elim (release_outside jobs (share_at shares j).job (share_at shares i).stretch other.share_is.known one.share_is.within) [
              | inl arrived ↦ first_of_two (share_at shares i) (share_at shares j) first_there other_there less arrived
              | inr beyond ↦ absurd (omega (arith, one.to, one.forward, released, mul-le-mul_right scale beyond))
            ]
          ]);
          apart = rw (one.job, other.job) (λ same. elim (served.in_order i j no_share order within) [
            | inr here ↦ absurd (not_itself jobs (share_at shares i).job (share_at shares j).job here.1 same)
            | inl less ↦ All-from_get_or (λ (stretch : Piece). LiesIn scale (slot_at at_scale_slots i) stretch → LiesIn scale (slot_at at_scale_slots j) stretch → ⊥) (stretches jobs) no_stretch
                (λ q known lies also. absurd (omega (arith, less, not_later i q earlier known lies, not_earlier j q within known also)))
          ]);
        }

    all_follow : AllPairs (Follows jobs scale) at_scale_slots
    all_follow i j d order within =
        rw (get_or_default at_scale_slots i d no_slot (omega (arith, order, within)), get_or_default at_scale_slots j d no_slot within)
        (follows i j order (omega (arith, within, as_many)))

    works : (i : ℕ) → i < length shares → Works jobs scale (slot_at at_scale_slots i)
    works i within =
        let here = stands i within in
        let lies = window i within in
        record {
          known = lies.known;
          released = lies.released;
          some = elim (cases_lt (slot_at at_scale_slots i).work 1) [
            | inr done ↦ done
            | inl none ↦
                let nothing : (slot_at at_scale_slots i).work ≡ 0 = omega arith in
                absurd (omega (arith, here.work, mul-pos here.share_is.some is.positive, ap (λ n. n * grid) nothing))
          ];
        }

    each_slot : (P : WholeSlot → Type 0) → ((i : ℕ) → i < length shares → P (slot_at at_scale_slots i)) → All P at_scale_slots
    each_slot P each = All-from_get_or P at_scale_slots no_slot (λ i within. each i (omega (arith, within, as_many)))

    feasible : IsFeasibleAt jobs scale at_scale_slots
    feasible = search (arith, rules, each_slot, job_served, one_at_a_time, window)

    served_in_stretches : IsServedInStretches jobs scale at_scale_slots
    served_in_stretches = record {
      earliest_first = earliest_after jobs scale at_scale_slots [] at_scale_slots refl job_served (each_slot (Works jobs scale) works) all_follow;
      uncut = each_slot (IsUncut jobs scale) (λ i within.
          let here = stands i within in (
            (share_at shares i).stretch,
            stretch_at jobs (share_at shares i).stretch,
            here.share_is.within,
            get_or_default (stretches jobs) (share_at shares i).stretch (stretch_at jobs (share_at shares i).stretch) no_stretch here.share_is.within,
            record { from = here.from; to = here.to },
          ));
      once = λ i j order within. (all_follow i j no_slot order within).apart;
    }

    -- A run by the definition, where the capacity of each stretch at the scale is what its shares have together.
    pub run_at : (capacity : Piece → ℕ) →
        Each (length (stretches jobs)) (λ k. capacity (stretch_at jobs k) ≡ scale * total_units (shares_in shares k)) → IsRunAt jobs grid scale capacity at_scale_slots
    run_at capacity serves = record {
      feasible = feasible;
      served = served_in_stretches;
      few = omega (arith, as_many, served.few, few_stretches jobs);
      each = All-from_get_or (λ stretch. ServesCapacity grid scale (capacity stretch) stretch at_scale_slots) (stretches jobs) no_stretch
          (λ k known. stretch_served jobs grid units shares slots some_grid served laid scale is (capacity (stretch_at jobs k)) k known (serves k known));
    }
