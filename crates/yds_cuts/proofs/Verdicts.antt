-- The verdict on all slots is the first cause among the verdicts on the parts.
use Rattle.yds_model.proofs.Common.{◌≡◌, ℕ, suc, ◌+◌, ◌-◌, ◌*◌, ◌<◌, ◌≤◌, List, [], ◌∷◌, ◌++◌, length, map, refl, sym, ap, subst, ◌∙◌, arith, inl, inr, Option, All, AllZip, cases_lt, get_or-map, get_or_append_left, get_or-append-add, length-append, length-map, All-head, All-tail, Each, Job, no_job, job_at, Fraction, IsAtMost, WrittenSlot, no_written_slot, written_slot_at, Point, Verdict, Feasible, Backward, Overlap, Early, Late, OffPoint, WrongWork, IsVerdict, AllStand, ComesTo, Stands, IsOnTable, IsAfterOthers, GetsItsWork, ap₂, of_parts, of_whole, le_refl, false, Bool, zero-add, add-zero, cases_Bool}
use Rattle.std.proofs.Common.{add_assoc}
use Rattle.yds_model.specs.Audit.{IsBackward, IsOverlap, IsEarly, IsLate, IsOffPoint, IsWrongWork}
use Rattle.yds_parts.specs.Parts.{moved_written, slots_in_turn, AreOf}
use Rattle.yds_cuts.specs.Cuts.{Part, HasOwnSlots, all_jobs, all_slots, end_of_last, BeginsAt, FollowFrom}
use Rattle.yds_cuts.specs.VerdictOfParts.{moved_verdict, verdicts_in_whole, is_about_slot, is_about_work, first_that, first_cause, VerdictOfParts}
use Rattle.yds_cuts.proofs.OnTable.{on_moved, on_again}
use Rattle.yds_cuts.proofs.Works.{first_grain, second_grain, first_parts, second_parts}

-- the end of the last slot is that of the slot at the last place
pub last_end : (time : Fraction) (slots : List WrittenSlot) (before : ℕ) → before + 1 ≡ length slots → end_of_last time slots ≡ (written_slot_at slots before).to
last_end time [] before is = absurd (omega (arith, is))
last_end time (slot ∷ []) before is =
    let first : before ≡ 0 = omega (arith, is) in
    rw first refl
last_end time (slot ∷ next ∷ slots) before is =
    let later : suc (before - 1) ≡ before = omega (arith, is) in
    subst (λ (i : ℕ). end_of_last time (slot ∷ next ∷ slots) ≡ (written_slot_at (slot ∷ next ∷ slots) i).to) later
    (last_end slot.to (next ∷ slots) (before - 1) (omega (arith, is)))

-- the first of slots that begin at a time begins at it
begins_first : (time : Fraction) (slots : List WrittenSlot) → BeginsAt time slots → 0 < length slots → IsAtMost time (written_slot_at slots 0).from
begins_first time [] begins some = absurd (omega (arith, some))
begins_first time (slot ∷ slots) begins some = begins

-- # Two parts

module _ (table : Option (List Point)) (first second : List Job) (slots others : List WrittenSlot) (own : AreOf first slots) where
  abbrev n : ℕ
  n = length first

  abbrev m : ℕ
  m = length slots

  abbrev jobs : List Job
  jobs = first ++ second

  abbrev all : List WrittenSlot
  all = slots_in_turn first slots others

  first_job : (j : ℕ) → j < n → job_at jobs j ≡ job_at first j
  first_job j known = get_or_append_left first second no_job j known

  second_job : (j : ℕ) → job_at jobs (n + j) ≡ job_at second j
  second_job j = get_or-append-add first second j no_job

  pub first_slot : (i : ℕ) → i < m → written_slot_at all i ≡ written_slot_at slots i
  first_slot i within = get_or_append_left slots (map (moved_written n) others) no_written_slot i within

  first_known : (i : ℕ) → i < m → (written_slot_at slots i).job < n
  first_known i within = omega (arith, own i no_written_slot within)

  pub second_slot : (i : ℕ) → i < length others → written_slot_at all (m + i) ≡ moved_written n (written_slot_at others i)
  second_slot i within = get_or-append-add slots (map (moved_written n) others) i no_written_slot ∙ get_or-map (moved_written n) others i no_written_slot no_written_slot within

  -- a slot of the first part stands among all
  pub first_stands : (i : ℕ) → i < m → Stands first table slots i → Stands jobs table all i
  first_stands i within is = grind (arith, first_job, first_slot, first_known)

  -- so a cause in the first part is one among all
  first_comes : (i : ℕ) → ComesTo first table slots i → ComesTo jobs table all i
  first_comes i is = record {
    within = omega (arith, is.within, length-append slots (map (moved_written n) others));
    before = λ k earlier. first_stands k (omega (arith, earlier, is.within)) (is.before k earlier);
  }

  pub first_backward : (i : ℕ) → IsBackward first table slots i → IsBackward jobs table all i
  first_backward i is = let comes = first_comes i is.comes in grind (arith, first_slot)

  pub first_overlap : (i : ℕ) → IsOverlap first table slots i → IsOverlap jobs table all i
  first_overlap i is = let comes = first_comes i is.comes in grind (arith, first_slot)

  pub first_early : (i : ℕ) → IsEarly first table slots i → IsEarly jobs table all i
  first_early i is = let comes = first_comes i is.comes in grind (arith, first_job, first_slot, first_known)

  pub first_late : (i : ℕ) → IsLate first table slots i → IsLate jobs table all i
  first_late i is = let comes = first_comes i is.comes in grind (arith, first_job, first_slot, first_known)

  pub first_off : (i : ℕ) → IsOffPoint first table slots i → IsOffPoint jobs table all i
  first_off i is = let comes = first_comes i is.comes in grind (arith, first_job, first_slot, first_known)

  -- # The second part, whose slots begin when the first part's have ended

  module _ (time : Fraction) (seam : BeginsAt (end_of_last time slots) others) where
    second_after : (i : ℕ) → i < length others → IsAfterOthers others i → IsAfterOthers all (m + i)
    second_after i within after before next = elim (cases_lt before m) [
      | inl early ↦
          let first : i ≡ 0 = omega (arith, early, next) in
          let last : before + 1 ≡ m = omega (arith, first, next) in
          let read : written_slot_at all (m + i) ≡ moved_written n (written_slot_at others 0) = second_slot i within ∙ ap (λ k. moved_written n (written_slot_at others k)) first in
          rw (first_slot before early, read)
          (subst (λ (end : Fraction). IsAtMost end (written_slot_at others 0).from) (last_end time slots before last)
          (begins_first (end_of_last time slots) others seam (omega (arith, within))))
      | inr late ↦
          let place : m + (before - m) ≡ before = omega (arith, late) in
          let read : written_slot_at all before ≡ moved_written n (written_slot_at others (before - m)) =
          ap (written_slot_at all) (sym place) ∙ second_slot (before - m) (omega (arith, late, next, within)) in
          rw (read, second_slot i within) (after (before - m) (omega (arith, late, next)))
    ]

    second_on : (i : ℕ) → i < length others → IsOnTable table (written_slot_at others i) → IsOnTable table (written_slot_at all (m + i))
    second_on i within on = rw (second_slot i within) (on_moved table n (written_slot_at others i) on)

    second_stands : (i : ℕ) → i < length others → Stands second table others i → Stands jobs table all (m + i)
    second_stands i within is = grind (arith, second_job, second_slot, second_after, second_on)

  -- where all slots of the first part stand, a cause in the second part is one among all
  module _ (time : Fraction) (seam : BeginsAt (end_of_last time slots) others) (stand : Each m (Stands first table slots)) where
    all_before : (i : ℕ) → i ≤ length others → Each i (Stands second table others) → Each (m + i) (Stands jobs table all)
    all_before i within earlier k before = elim (cases_lt k m) [
      | inl early ↦ first_stands k early (stand k early)
      | inr late ↦
          let place : m + (k - m) ≡ k = omega (arith, late) in
          subst (Stands jobs table all) place
          (second_stands time seam (k - m) (omega (arith, late, before, within)) (earlier (k - m) (omega (arith, late, before))))
    ]

    second_comes : (i : ℕ) → ComesTo second table others i → ComesTo jobs table all (m + i)
    second_comes i is = record {
      within = omega (arith, is.within, length-append slots (map (moved_written n) others), length-map others (moved_written n));
      before = all_before i (omega (arith, is.within)) is.before;
    }

    second_backward : (i : ℕ) → IsBackward second table others i → IsBackward jobs table all (m + i)
    second_backward i is = let comes = second_comes i is.comes in grind (arith, second_slot)

    second_early : (i : ℕ) → IsEarly second table others i → IsEarly jobs table all (m + i)
    second_early i is =
        let comes = second_comes i is.comes in
        let after = second_after time seam i is.comes.within is.after in
        grind (arith, second_job, second_slot)

    second_late : (i : ℕ) → IsLate second table others i → IsLate jobs table all (m + i)
    second_late i is =
        let comes = second_comes i is.comes in
        let after = second_after time seam i is.comes.within is.after in
        grind (arith, second_job, second_slot)

    second_overlap : (i : ℕ) → IsOverlap second table others i → IsOverlap jobs table all (m + i)
    second_overlap i is = record {
      comes = second_comes i is.comes;
      forward = rw (second_slot i is.comes.within) is.forward;
      before = m + is.before;
      is_before = omega (arith, is.is_before);
      overlaps = rw (second_slot i is.comes.within, second_slot is.before (omega (arith, is.is_before, is.comes.within))) is.overlaps;
    }

    second_off : (i : ℕ) → IsOffPoint second table others i → IsOffPoint jobs table all (m + i)
    second_off i is = record {
      comes = second_comes i is.comes;
      forward = rw (second_slot i is.comes.within) is.forward;
      after = second_after time seam i is.comes.within is.after;
      released = rw (second_slot i is.comes.within, second_job (written_slot_at others i).job) is.released;
      due = rw (second_slot i is.comes.within, second_job (written_slot_at others i).job) is.due;
      off = λ on. is.off (on_again table n (written_slot_at others i) (subst (IsOnTable table) (second_slot i is.comes.within) on));
    }

  -- # Works

  first_gets : (j : ℕ) → j < n → GetsItsWork first slots j → GetsItsWork jobs all j
  first_gets j known gets =
      first_parts first slots others own j known ∙ gets
      ∙ ap₂ (λ (job : Job) (grain : ℕ). job.work * grain) (sym (first_job j known)) (sym (first_grain first slots others own j known))

  second_gets : (k : ℕ) → GetsItsWork second others k → GetsItsWork jobs all (n + k)
  second_gets k gets =
      second_parts first slots others own k ∙ gets
      ∙ ap₂ (λ (job : Job) (grain : ℕ). job.work * grain) (sym (second_job k)) (sym (second_grain first slots others own k))

  -- the jobs of the first part are served among all, and those of the second before this one
  all_served : (k : ℕ) → Each n (GetsItsWork first slots) → Each k (GetsItsWork second others) → Each (n + k) (GetsItsWork jobs all)
  all_served k served later number within = elim (cases_lt number n) [
    | inl early ↦ first_gets number early (served number early)
    | inr late ↦
        let place : n + (number - n) ≡ number = omega (arith, late) in
        subst (GetsItsWork jobs all) place (second_gets (number - n) (later (number - n) (omega (arith, late, within))))
  ]

  -- where all slots stand, a wrong work in the first part is one among all
  first_wrong : (j : ℕ) (given : Fraction) (wanted : ℕ) → Each (length all) (Stands jobs table all) → IsWrongWork first table slots j given wanted →
      IsWrongWork jobs table all j given wanted
  first_wrong j given wanted stand is = record {
    stand = stand;
    within = omega (arith, is.within, length-append first second);
    before = λ k earlier. first_gets k (omega (arith, earlier, is.within)) (is.before k earlier);
    wrong = λ same. is.wrong (sym (first_parts first slots others own j is.within) ∙ same
        ∙ ap₂ (λ (job : Job) (grain : ℕ). job.work * grain) (first_job j is.within) (first_grain first slots others own j is.within));
    is_given = is.is_given ∙ ap₂ (λ parts grain. of_parts parts grain) (sym (first_parts first slots others own j is.within)) (sym (first_grain first slots others own j is.within));
    is_wanted = is.is_wanted ∙ ap (λ (job : Job). job.work) (sym (first_job j is.within));
  }

  -- where the first part is feasible, so is one in the second
  second_wrong : (k : ℕ) (given : Fraction) (wanted : ℕ) → Each (length all) (Stands jobs table all) → Each n (GetsItsWork first slots) →
      IsWrongWork second table others k given wanted → IsWrongWork jobs table all (n + k) given wanted
  second_wrong k given wanted stand served is = record {
    stand = stand;
    within = omega (arith, is.within, length-append first second);
    before = all_served k served is.before;
    wrong = λ same. is.wrong (sym (second_parts first slots others own k) ∙ same
        ∙ ap₂ (λ (job : Job) (grain : ℕ). job.work * grain) (second_job k) (second_grain first slots others own k));
    is_given = is.is_given ∙ ap₂ (λ parts grain. of_parts parts grain) (sym (second_parts first slots others own k)) (sym (second_grain first slots others own k));
    is_wanted = is.is_wanted ∙ ap (λ (job : Job). job.work) (sym (second_job k));
  }

  -- # The verdict on both

  -- the earlier cause of both
  abbrev pub of_both : Verdict → Verdict → Verdict
  of_both verdict later = first_cause (verdict ∷ moved_verdict m n later ∷ [])

  module _ (time : Fraction) (seam : BeginsAt (end_of_last time slots) others) where
    all_stand : Each m (Stands first table slots) → Each (length others) (Stands second table others) → Each (length all) (Stands jobs table all)
    all_stand stand later i within =
        all_before time seam stand (length others) (le_refl (length others)) later i
        (omega (arith, within, length-append slots (map (moved_written n) others), length-map others (moved_written n)))

    both_stand : AllStand first table slots → AllStand second table others → AllStand jobs table all
    both_stand one other = record {
      stand = all_stand one.stand other.stand;
      served = λ number within. all_served (length second) one.served other.served number (omega (arith, within, length-append first second));
    }

    -- the verdict on both is the earlier cause
    pub verdict_of_both : (verdict later : Verdict) → IsVerdict first table slots verdict → IsVerdict second table others later →
        IsVerdict jobs table all (of_both verdict later)
    verdict_of_both (Backward i) later is other = first_backward i is
    verdict_of_both (Overlap i) later is other = first_overlap i is
    verdict_of_both (Early i) later is other = first_early i is
    verdict_of_both (Late i) later is other = first_late i is
    verdict_of_both (OffPoint i) later is other = first_off i is
    verdict_of_both Feasible Feasible is other = both_stand is other
    verdict_of_both Feasible (WrongWork job given wanted) is other = second_wrong job given wanted (all_stand is.stand other.stand) is.served other
    verdict_of_both Feasible (Backward i) is other = second_backward time seam is.stand i other
    verdict_of_both Feasible (Overlap i) is other = second_overlap time seam is.stand i other
    verdict_of_both Feasible (Early i) is other = second_early time seam is.stand i other
    verdict_of_both Feasible (Late i) is other = second_late time seam is.stand i other
    verdict_of_both Feasible (OffPoint i) is other = second_off time seam is.stand i other
    verdict_of_both (WrongWork job given wanted) Feasible is other = first_wrong job given wanted (all_stand is.stand other.stand) is
    verdict_of_both (WrongWork job given wanted) (WrongWork later more less) is other = first_wrong job given wanted (all_stand is.stand other.stand) is
    verdict_of_both (WrongWork job given wanted) (Backward i) is other = second_backward time seam is.stand i other
    verdict_of_both (WrongWork job given wanted) (Overlap i) is other = second_overlap time seam is.stand i other
    verdict_of_both (WrongWork job given wanted) (Early i) is other = second_early time seam is.stand i other
    verdict_of_both (WrongWork job given wanted) (Late i) is other = second_late time seam is.stand i other
    verdict_of_both (WrongWork job given wanted) (OffPoint i) is other = second_off time seam is.stand i other

-- # First causes

same_kind : (slots places : ℕ) (verdict : Verdict) → (is_about_slot (moved_verdict slots places verdict) ≡ is_about_slot verdict)
    × (is_about_work (moved_verdict slots places verdict) ≡ is_about_work verdict)
same_kind slots places Feasible = (refl, refl)
same_kind slots places (WrongWork job given wanted) = (refl, refl)
same_kind slots places (Backward i) = (refl, refl)
same_kind slots places (Overlap i) = (refl, refl)
same_kind slots places (Early i) = (refl, refl)
same_kind slots places (Late i) = (refl, refl)
same_kind slots places (OffPoint i) = (refl, refl)

moved_by_none : (verdict : Verdict) → moved_verdict 0 0 verdict ≡ verdict
moved_by_none Feasible = refl
moved_by_none (WrongWork job given wanted) = ap (λ i. WrongWork i given wanted) (zero-add job)
moved_by_none (Backward i) = ap Backward (zero-add i)
moved_by_none (Overlap i) = ap Overlap (zero-add i)
moved_by_none (Early i) = ap Early (zero-add i)
moved_by_none (Late i) = ap Late (zero-add i)
moved_by_none (OffPoint i) = ap OffPoint (zero-add i)

moved_twice : (slots places more_slots more_jobs : ℕ) (verdict : Verdict) →
    moved_verdict (slots + more_slots) (places + more_jobs) verdict ≡ moved_verdict slots places (moved_verdict more_slots more_jobs verdict)
moved_twice slots places more_slots more_jobs Feasible = refl
moved_twice slots places more_slots more_jobs (WrongWork job given wanted) = ap (λ i. WrongWork i given wanted) (add_assoc places more_jobs job)
moved_twice slots places more_slots more_jobs (Backward i) = ap Backward (add_assoc slots more_slots i)
moved_twice slots places more_slots more_jobs (Overlap i) = ap Overlap (add_assoc slots more_slots i)
moved_twice slots places more_slots more_jobs (Early i) = ap Early (add_assoc slots more_slots i)
moved_twice slots places more_slots more_jobs (Late i) = ap Late (add_assoc slots more_slots i)
moved_twice slots places more_slots more_jobs (OffPoint i) = ap OffPoint (add_assoc slots more_slots i)

-- verdicts behind so many slots and jobs more
whole_moved : (slots places more_slots more_jobs : ℕ) (parts : List Part) (verdicts : List Verdict) →
    verdicts_in_whole (slots + more_slots) (places + more_jobs) parts verdicts ≡ map (moved_verdict slots places) (verdicts_in_whole more_slots more_jobs parts verdicts)
whole_moved slots places more_slots more_jobs [] verdicts = refl
whole_moved slots places more_slots more_jobs (part ∷ parts) [] = refl
whole_moved slots places more_slots more_jobs (part ∷ parts) (verdict ∷ verdicts) =
    ap₂ (λ (one : Verdict) (rest : List Verdict). one ∷ rest) (moved_twice slots places more_slots more_jobs verdict)
    (ap₂ (λ a b. verdicts_in_whole a b parts verdicts) (add_assoc slots more_slots (length part.slots)) (add_assoc places more_jobs (length part.jobs))
    ∙ whole_moved slots places (more_slots + length part.slots) (more_jobs + length part.jobs) parts verdicts)

-- the first that passes a test, of verdicts that are moved
first_moved : (slots places : ℕ) (test : Verdict → Bool) → ((verdict : Verdict) → test (moved_verdict slots places verdict) ≡ test verdict) →
    (other : Verdict) (verdicts : List Verdict) → first_that test (moved_verdict slots places other) (map (moved_verdict slots places) verdicts)
    ≡ moved_verdict slots places (first_that test other verdicts)
first_moved slots places test same other [] = refl
first_moved slots places test same other (verdict ∷ verdicts) =
    let rest = first_moved slots places test same other verdicts in
    elim (cases_Bool (test verdict)) [
      | inl passes ↦ rw (same verdict, passes) refl
      | inr fails ↦ rw (same verdict, fails) rest
    ]

cause_moved : (slots places : ℕ) (verdicts : List Verdict) → first_cause (map (moved_verdict slots places) verdicts) ≡ moved_verdict slots places (first_cause verdicts)
cause_moved slots places verdicts =
    ap (λ other. first_that is_about_slot other (map (moved_verdict slots places) verdicts))
    (first_moved slots places is_about_work (λ verdict. (same_kind slots places verdict).1) Feasible verdicts)
    ∙ first_moved slots places is_about_slot (λ verdict. (same_kind slots places verdict).0) (first_that is_about_work Feasible verdicts) verdicts

-- the first about a work is about no slot
pub work_is_no_slot : (verdicts : List Verdict) → is_about_slot (first_that is_about_work Feasible verdicts) ≡ false
work_is_no_slot [] = refl
work_is_no_slot (Feasible ∷ verdicts) = work_is_no_slot verdicts
work_is_no_slot (WrongWork job given wanted ∷ verdicts) = refl
work_is_no_slot (Backward i ∷ verdicts) = work_is_no_slot verdicts
work_is_no_slot (Overlap i ∷ verdicts) = work_is_no_slot verdicts
work_is_no_slot (Early i ∷ verdicts) = work_is_no_slot verdicts
work_is_no_slot (Late i ∷ verdicts) = work_is_no_slot verdicts
work_is_no_slot (OffPoint i ∷ verdicts) = work_is_no_slot verdicts

-- the first about a slot, or another in place of one that is about none
pub slot_or : (none other : Verdict) (verdicts : List Verdict) → is_about_slot none ≡ false →
    first_that is_about_slot other (first_that is_about_slot none verdicts ∷ []) ≡ first_that is_about_slot other verdicts
slot_or none other [] isnt = rw isnt refl
slot_or none other (verdict ∷ verdicts) isnt =
    let rest = slot_or none other verdicts isnt in
    elim (cases_Bool (is_about_slot verdict)) [
      | inl passes ↦ rw (passes, passes) refl
      | inr fails ↦ rw fails rest
    ]

-- one verdict alone is its own first cause
cause_alone : (verdict : Verdict) → first_cause (Feasible ∷ verdict ∷ []) ≡ verdict
cause_alone Feasible = refl
cause_alone (WrongWork job given wanted) = refl
cause_alone (Backward i) = refl
cause_alone (Overlap i) = refl
cause_alone (Early i) = refl
cause_alone (Late i) = refl
cause_alone (OffPoint i) = refl

-- the first cause is the earlier of the first verdict and of the first cause of the others
cause_of_both : (verdict : Verdict) (verdicts : List Verdict) → first_cause (verdict ∷ verdicts) ≡ first_cause (verdict ∷ first_cause verdicts ∷ [])
cause_of_both Feasible verdicts = sym (cause_alone (first_cause verdicts))
cause_of_both (WrongWork job given wanted) verdicts =
    sym (slot_or (first_that is_about_work Feasible verdicts) (WrongWork job given wanted) verdicts (work_is_no_slot verdicts))
cause_of_both (Backward i) verdicts = refl
cause_of_both (Overlap i) verdicts = refl
cause_of_both (Early i) verdicts = refl
cause_of_both (Late i) verdicts = refl
cause_of_both (OffPoint i) verdicts = refl

-- # Any number of parts

-- slots that follow one another begin at the time from which they follow
begins_joined : (n : ℕ) (time : Fraction) (slots others : List WrittenSlot) → BeginsAt time slots → BeginsAt (end_of_last time slots) others →
    BeginsAt time (slots ++ map (moved_written n) others)
begins_joined n time [] [] begins later = tt
begins_joined n time [] (slot ∷ others) begins later = later
begins_joined n time (slot ∷ slots) others begins later = begins

pub follow_begins : (time : Fraction) (parts : List Part) → FollowFrom time parts → BeginsAt time (all_slots parts)
follow_begins time [] follow = tt
follow_begins time (part ∷ parts) follow =
    begins_joined (length part.jobs) time part.slots (all_slots parts) follow.0 (follow_begins (end_of_last time part.slots) parts follow.1)

abbrev IsPartVerdict : Option (List Point) → Part → Verdict → Type 0
IsPartVerdict table part verdict = IsVerdict part.jobs table part.slots verdict

verdict_from : (table : Option (List Point)) (time : Fraction) (parts : List Part) (verdicts : List Verdict) → All HasOwnSlots parts → FollowFrom time parts →
    AllZip (IsPartVerdict table) parts verdicts → IsVerdict (all_jobs parts) table (all_slots parts) (first_cause (verdicts_in_whole 0 0 parts verdicts))
verdict_from table time [] [] own follow are = record { stand = λ i within. absurd (omega (arith, within)); served = λ i within. absurd (omega (arith, within)) }
verdict_from table time [] (verdict ∷ verdicts) own follow are = absurd are
verdict_from table time (part ∷ parts) [] own follow are = absurd are
verdict_from table time (part ∷ parts) (verdict ∷ verdicts) own follow are =
    let slots = length part.slots in
    let jobs = length part.jobs in
    let rest = verdict_from table (end_of_last time part.slots) parts verdicts (All-tail HasOwnSlots part parts own) follow.1 are.1 in
    let both = verdict_of_both table part.jobs (all_jobs parts) part.slots (all_slots parts) (All-head HasOwnSlots part parts own) time
    (follow_begins (end_of_last time part.slots) parts follow.1) verdict (first_cause (verdicts_in_whole 0 0 parts verdicts)) are.0 rest in
    let told : first_cause (verdicts_in_whole 0 0 (part ∷ parts) (verdict ∷ verdicts))
    ≡ first_cause (verdict ∷ moved_verdict slots jobs (first_cause (verdicts_in_whole 0 0 parts verdicts)) ∷ []) =
    ap (λ (one : Verdict). first_cause (one ∷ verdicts_in_whole (0 + slots) (0 + jobs) parts verdicts)) (moved_by_none verdict)
    ∙ ap₂ (λ a b. first_cause (verdict ∷ verdicts_in_whole a b parts verdicts)) (zero-add slots ∙ sym (add-zero slots)) (zero-add jobs ∙ sym (add-zero jobs))
    ∙ ap (λ (others : List Verdict). first_cause (verdict ∷ others)) (whole_moved slots jobs 0 0 parts verdicts)
    ∙ cause_of_both verdict (map (moved_verdict slots jobs) (verdicts_in_whole 0 0 parts verdicts))
    ∙ ap (λ (later : Verdict). first_cause (verdict ∷ later ∷ [])) (cause_moved slots jobs (verdicts_in_whole 0 0 parts verdicts)) in
    subst (IsVerdict (all_jobs (part ∷ parts)) table (all_slots (part ∷ parts))) (sym told) both

-- the law
pub verdict_of_parts : VerdictOfParts
verdict_of_parts table parts verdicts own follow are = verdict_from table (of_whole 0) parts verdicts own follow are
