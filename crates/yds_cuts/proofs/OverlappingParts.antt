-- The verdict where a slot behind a cut begins before the last one in front of it has ended.
use Rattle.yds_model.proofs.Common.{◌≡◌, ℕ, ◌+◌, ◌-◌, ◌*◌, ◌<◌, ◌≤◌, List, [], ◌∷◌, ◌++◌, length, map, refl, sym, ap, ap₂, subst, ◌∙◌, arith, inl, inr, cases_lt, cases_Bool, ltb-true, ltb-false, Option, All, All-nil, All-head, All-tail, All-append, All-map, map-append, append_assoc, add-zero, zero-add, length-append, length-map, if◌then◌else◌, Each, Job, numerator, of_whole, IsLess, IsAtMost, WrittenSlot, written_slot_at, Point, Verdict, Feasible, Backward, Overlap, Early, Late, OffPoint, WrongWork, IsVerdict, ComesTo, Stands}
use Rattle.yds_model.specs.Audit.{IsBackward, IsOverlap}
use Rattle.std.proofs.Common.{add_assoc}
use Rattle.yds_parts.specs.Parts.{moved_written, slots_in_turn, AreOf}
use Rattle.yds_cuts.specs.Cuts.{Part, HasOwnSlots, all_jobs, all_slots, end_of_last}
use Rattle.yds_cuts.specs.VerdictOfParts.{verdicts_in_whole, is_about_slot, is_about_work, first_that, first_cause, is_forward, begun_too_soon, VerdictWherePartsOverlap}
use Rattle.yds_cuts.proofs.Verdicts.{last_end, slot_or, work_is_no_slot, first_slot, first_stands, second_slot, first_backward, first_overlap, first_early, first_late, first_off, verdict_of_parts}

-- # Parts in front and behind

-- the jobs of both
jobs_joined : (front back : List Part) → all_jobs (front ++ back) ≡ all_jobs front ++ all_jobs back
jobs_joined [] back = refl
jobs_joined (part ∷ front) back =
    ap (λ (rest : List Job). part.jobs ++ rest) (jobs_joined front back) ∙ sym (append_assoc part.jobs (all_jobs front) (all_jobs back))

moved_by_none : (slots : List WrittenSlot) → map (moved_written 0) slots ≡ slots
moved_by_none [] = refl
moved_by_none (slot ∷ slots) =
    ap₂ (λ job (rest : List WrittenSlot). record { job = job; from = slot.from; to = slot.to; work = slot.work } ∷ rest) (zero-add slot.job) (moved_by_none slots)

moved_twice : (n m : ℕ) (slots : List WrittenSlot) → map (moved_written n) (map (moved_written m) slots) ≡ map (moved_written (n + m)) slots
moved_twice n m [] = refl
moved_twice n m (slot ∷ slots) =
    ap₂ (λ job (rest : List WrittenSlot). record { job = job; from = slot.from; to = slot.to; work = slot.work } ∷ rest) (sym (add_assoc n m slot.job))
    (moved_twice n m slots)

-- and the slots
slots_joined : (front back : List Part) → all_slots (front ++ back) ≡ slots_in_turn (all_jobs front) (all_slots front) (all_slots back)
slots_joined [] back = sym (moved_by_none (all_slots back))
slots_joined (part ∷ front) back =
    let n = length part.jobs in
    let m = length (all_jobs front) in
    ap (λ (rest : List WrittenSlot). part.slots ++ map (moved_written n) rest) (slots_joined front back)
    ∙ ap (λ (rest : List WrittenSlot). part.slots ++ rest)
    (map-append (moved_written n) (all_slots front) (map (moved_written m) (all_slots back))
    ∙ ap (λ (rest : List WrittenSlot). map (moved_written n) (all_slots front) ++ rest)
    (moved_twice n m (all_slots back) ∙ ap (λ k. map (moved_written k) (all_slots back)) (sym (length-append part.jobs (all_jobs front)))))
    ∙ sym (append_assoc part.slots (map (moved_written n) (all_slots front)) (map (moved_written (length (part.jobs ++ all_jobs front))) (all_slots back)))

-- the slots in front are of the jobs in front
all_own : (parts : List Part) → All HasOwnSlots parts → AreOf (all_jobs parts) (all_slots parts)
all_own [] own = All-nil (λ (slot : WrittenSlot). slot.job + 1 ≤ 0)
all_own (part ∷ parts) own =
    let here = All-head HasOwnSlots part parts own in
    let later = all_own parts (All-tail HasOwnSlots part parts own) in
    let many = length-append part.jobs (all_jobs parts) in
    All-append (λ (slot : WrittenSlot). slot.job + 1 ≤ length (part.jobs ++ all_jobs parts)) part.slots (map (moved_written (length part.jobs)) (all_slots parts))
    (λ k d within. omega (arith, here k d within, many))
    (All-map (λ (slot : WrittenSlot). slot.job + 1 ≤ length (part.jobs ++ all_jobs parts)) (moved_written (length part.jobs)) (all_slots parts)
    (λ k d within. omega (arith, later k d within, many)))

-- # The slot behind

module _ (table : Option (List Point)) (first second : List Job) (slots others : List WrittenSlot) (own : AreOf first slots) (slot : WrittenSlot) (rest : List WrittenSlot)
    (are : others ≡ slot ∷ rest) (soon : IsLess slot.from (end_of_last (of_whole 0) slots)) where
  abbrev m : ℕ
  m = length slots

  abbrev all : List WrittenSlot
  all = slots_in_turn first slots others

  -- it stands behind all in front
  reads : written_slot_at all m ≡ moved_written (length first) slot
  reads =
      ap (written_slot_at all) (sym (add-zero m)) ∙ second_slot table first second slots others own 0 (omega (arith, ap length are))
      ∙ ap (λ (some : List WrittenSlot). moved_written (length first) (written_slot_at some 0)) are

  within : m < length all
  within = omega (arith, length-append slots (map (moved_written (length first)) others), length-map others (moved_written (length first)), ap length are)

  -- some slot stands in front
  some : 1 ≤ m
  some = elim (cases_lt 0 m) [
    | inl is ↦ is
    | inr none ↦ absurd (no_time slots soon (omega (arith, none)))
  ]
    where
      no_time : (slots : List WrittenSlot) → IsLess slot.from (end_of_last (of_whole 0) slots) → length slots ≡ 0 → ⊥
      no_time [] soon none = absurd (omega (arith, soon))
      no_time (one ∷ slots) soon none = absurd (omega (arith, none))

  too_soon : Each m (Stands first table slots) → IsVerdict (first ++ second) table all (begun_too_soon m slot)
  too_soon stand =
      let comes : ComesTo (first ++ second) table all m =
      record { within = within; before = λ k earlier. first_stands table first second slots others own k earlier (stand k earlier) } in
      let place : (m - 1) + 1 ≡ m = omega (arith, some) in
      let ended : end_of_last (of_whole 0) slots ≡ (written_slot_at all (m - 1)).to =
      last_end (of_whole 0) slots (m - 1) place ∙ ap (λ (one : WrittenSlot). one.to) (sym (first_slot table first second slots others own (m - 1) (omega (arith, some)))) in
      elim (cases_Bool (is_forward slot)) [
        | inl takes ↦ rw takes (overlap comes place ended (ltb-true (numerator slot.from * slot.to.den) (numerator slot.to * slot.from.den) takes))
        | inr isnt ↦ rw isnt (backward comes (ltb-false (numerator slot.from * slot.to.den) (numerator slot.to * slot.from.den) isnt))
      ]
    where
      overlap : ComesTo (first ++ second) table all m → (m - 1) + 1 ≡ m → end_of_last (of_whole 0) slots ≡ (written_slot_at all (m - 1)).to → IsLess slot.from slot.to →
          IsOverlap (first ++ second) table all m
      overlap comes place ended takes = record {
        comes = comes;
        forward = rw reads takes;
        before = m - 1;
        is_before = place;
        overlaps = rw (reads, ← ended) soon;
      }

      backward : ComesTo (first ++ second) table all m → IsAtMost slot.to slot.from → IsBackward (first ++ second) table all m
      backward comes isnt = record { comes = comes; backward = rw reads isnt }

  -- a cause in front that is about a slot, or that of the slot behind
  earlier : (verdict : Verdict) → IsVerdict first table slots verdict →
      IsVerdict (first ++ second) table all (if is_about_slot verdict then verdict else begun_too_soon m slot)
  earlier Feasible is = too_soon is.stand
  earlier (WrongWork job given wanted) is = too_soon is.stand
  earlier (Backward i) is = first_backward table first second slots others own i is
  earlier (Overlap i) is = first_overlap table first second slots others own i is
  earlier (Early i) is = first_early table first second slots others own i is
  earlier (Late i) is = first_late table first second slots others own i is
  earlier (OffPoint i) is = first_off table first second slots others own i is

-- the law
pub verdict_where_parts_overlap : VerdictWherePartsOverlap
verdict_where_parts_overlap table front back verdicts slot slots own follow are back_is soon =
    let told = verdicts_in_whole 0 0 front verdicts in
    let last = begun_too_soon (length (all_slots front)) slot in
    let verdict = earlier table (all_jobs front) (all_jobs back) (all_slots front) (all_slots back) (all_own front own) slot slots back_is soon (first_cause told)
    (verdict_of_parts table front verdicts own follow are) in
    let same = slot_or (first_that is_about_work Feasible told) last told (work_is_no_slot told) in
    let result : Verdict = first_that is_about_slot last told in
    subst (λ (jobs : List Job). IsVerdict jobs table (all_slots (front ++ back)) result) (sym (jobs_joined front back))
    (subst (λ (some : List WrittenSlot). IsVerdict (all_jobs front ++ all_jobs back) table some result) (sym (slots_joined front back))
    (subst (IsVerdict (all_jobs front ++ all_jobs back) table (slots_in_turn (all_jobs front) (all_slots front) (all_slots back))) same verdict))
