-- The auditor's verdict on all slots, found from its verdicts on the parts. The auditor goes through the slots before the works.
-- The law is the contract of a public function of this crate.
use Rattle.std.specs.Prelude.{◌≡◌, ℕ, ◌+◌, ◌*◌, nat_lt, ◌++◌, List, [], ◌∷◌, length, Bool, true, false, Option, if◌then◌else◌}
use Rattle.std.specs.List.{All, AllZip}
use Rattle.yds_model.specs.Scale.{of_whole, numerator, IsLess}
use Rattle.yds_model.specs.Slot.{WrittenSlot}
use Rattle.yds_model.specs.Table.{Point}
use Rattle.yds_model.specs.Audit.{Verdict, Feasible, Backward, Overlap, Early, Late, OffPoint, WrongWork, IsVerdict}
use Rattle.yds_cuts.specs.Cuts.{Part, HasOwnSlots, all_jobs, all_slots, end_of_last, FollowInTurn}

-- the same verdict where so many slots and jobs come before
abbrev pub moved_verdict : ℕ → ℕ → Verdict → Verdict
moved_verdict slots jobs Feasible = Feasible
moved_verdict slots jobs (Backward slot) = Backward (slots + slot)
moved_verdict slots jobs (Overlap slot) = Overlap (slots + slot)
moved_verdict slots jobs (Early slot) = Early (slots + slot)
moved_verdict slots jobs (Late slot) = Late (slots + slot)
moved_verdict slots jobs (OffPoint slot) = OffPoint (slots + slot)
moved_verdict slots jobs (WrongWork job given wanted) = WrongWork (jobs + job) given wanted

-- the verdicts of the parts, each with the numbers that its slot and job have among all, where so many come before the first part
abbrev pub verdicts_in_whole : ℕ → ℕ → List Part → List Verdict → List Verdict
verdicts_in_whole slots jobs [] verdicts = []
verdicts_in_whole slots jobs (part ∷ parts) [] = []
verdicts_in_whole slots jobs (part ∷ parts) (verdict ∷ verdicts) =
    moved_verdict slots jobs verdict ∷ verdicts_in_whole (slots + length part.slots) (jobs + length part.jobs) parts verdicts

abbrev pub is_about_slot : Verdict → Bool
is_about_slot Feasible = false
is_about_slot (WrongWork job given wanted) = false
is_about_slot (Backward slot) = true
is_about_slot (Overlap slot) = true
is_about_slot (Early slot) = true
is_about_slot (Late slot) = true
is_about_slot (OffPoint slot) = true

abbrev pub is_about_work : Verdict → Bool
is_about_work Feasible = false
is_about_work (WrongWork job given wanted) = true
is_about_work (Backward slot) = false
is_about_work (Overlap slot) = false
is_about_work (Early slot) = false
is_about_work (Late slot) = false
is_about_work (OffPoint slot) = false

-- the first verdict that passes the test, or another where none does
abbrev pub first_that : (Verdict → Bool) → Verdict → List Verdict → Verdict
first_that test other [] = other
first_that test other (verdict ∷ verdicts) = if test verdict then verdict else first_that test other verdicts

-- the first that is about a slot, else the first about a work, else feasible
abbrev pub first_cause : List Verdict → Verdict
first_cause verdicts = first_that is_about_slot (first_that is_about_work Feasible verdicts) verdicts

-- The verdict on all slots is the first cause among those of the parts, where the parts follow one another.
abbrev pub VerdictOfParts : Type 0
VerdictOfParts = (table : Option (List Point)) (parts : List Part) (verdicts : List Verdict) → All HasOwnSlots parts → FollowInTurn parts →
    AllZip (λ part verdict. IsVerdict part.jobs table part.slots verdict) parts verdicts →
    IsVerdict (all_jobs parts) table (all_slots parts) (first_cause (verdicts_in_whole 0 0 parts verdicts))

-- the slot takes time
abbrev pub is_forward : WrittenSlot → Bool
is_forward slot = nat_lt (numerator slot.from * slot.to.den) (numerator slot.to * slot.from.den)

-- the verdict about a slot that begins before the one before it has ended
abbrev pub begun_too_soon : ℕ → WrittenSlot → Verdict
begun_too_soon place slot = if is_forward slot then Overlap place else Backward place

-- Where the first slot behind a cut begins before the last one in front of it has ended, the verdict is the first one in front that is about a
-- slot, else that of the slot behind. Nothing is asked of the parts behind.
abbrev pub VerdictWherePartsOverlap : Type 0
VerdictWherePartsOverlap = (table : Option (List Point)) (front back : List Part) (verdicts : List Verdict) (slot : WrittenSlot) (slots : List WrittenSlot) →
    All HasOwnSlots front → FollowInTurn front → AllZip (λ part verdict. IsVerdict part.jobs table part.slots verdict) front verdicts →
    all_slots back ≡ slot ∷ slots → IsLess slot.from (end_of_last (of_whole 0) (all_slots front)) →
    IsVerdict (all_jobs (front ++ back)) table (all_slots (front ++ back))
    (first_that is_about_slot (begun_too_soon (length (all_slots front)) slot) (verdicts_in_whole 0 0 front verdicts))
