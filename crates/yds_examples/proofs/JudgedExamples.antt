-- What the answers of `audit` are worth, tried on a job from 0 to 4 of work 2 and a slot, with points and without. What those of `check`
-- are worth is tried on the plan of three jobs.
use Rattle.yds_model.proofs.Common.{◌≡◌, ℕ, List, Some, [], ◌∷◌, Ok, refl, subst, codes, Job, of_whole, WrittenSlot, Point, Document, no_document, reading}
use Rattle.base.specs.declared.status.Status.{Status}
use Rattle.base.specs.declared.status.Status.TheVariants.{Done, No}
use Rattle.yds_texts.specs.JudgedText.{TellsWhether, IsServed, IsServedOnPoints, HoldsVerdict, HoldsVerdictOnPoints}
use Rattle.yds_texts.proofs.JudgedText.{tells_yes, tells_no}
use Rattle.yds_examples.proofs.Tests.{proved, refuted, test_numbers, test_all}
use Rattle.yds_examples.proofs.TestedPlans.{on_table}
use Rattle.yds_examples.proofs.TestedSchedules.{feasible_by_test, not_feasible_by_test}

-- # What no answer may tell

-- 'done' of a document that isn't as wanted,
done_refused : (IsWanted : Document → Type 0) (line input text : List ℕ) (document : Document) → reading input ≡ Ok document →
    (IsWanted document → ⊥) → TellsWhether IsWanted line input text Done → ⊥
done_refused IsWanted line input text document read unwanted tells =
    let same : tells.document ≡ document = cc (read, tells.read) in unwanted (subst IsWanted same (tells.done.0 refl))

-- its line, whatever the status is,
line_refused : (IsWanted : Document → Type 0) (line input : List ℕ) (status : Status) (document : Document) → reading input ≡ Ok document →
    (IsWanted document → ⊥) → TellsWhether IsWanted line input line status → ⊥
line_refused IsWanted line input status document read unwanted tells =
    let same : tells.document ≡ document = cc (read, tells.read) in unwanted (subst IsWanted same (tells.told.0 refl))

-- and 'no' of one that is.
no_refused : (IsWanted : Document → Type 0) (line input text : List ℕ) (document : Document) → reading input ≡ Ok document →
    IsWanted document → TellsWhether IsWanted line input text No → ⊥
no_refused IsWanted line input text document read wanted tells =
    let same : document ≡ tells.document = cc (read, tells.read) in tells.no.0 refl (subst IsWanted same wanted)

-- # `audit`

abbrev job : List Job
job = record { release = 0; deadline = 4; work = 2 } ∷ []

abbrev slot : ℕ → ℕ → ℕ → WrittenSlot
slot from to work = record { job = 0; from = of_whole from; to = of_whole to; work = of_whole work }

-- the job with points and a slot
abbrev document : List Point → WrittenSlot → Document
document points one = record no_document { names = codes "a" ∷ []; jobs = job; points = points; slots = one ∷ [] }

-- from 1 to 3 it gets its work,
abbrev served_input : List ℕ
served_input = codes "job a 0 4 2\nslot a 1 3 2\n"

is_served : IsServed (document [] (slot 1 3 2))
is_served = feasible_by_test job (slot 1 3 2 ∷ []) 1 refl refl

-- which 'feasible' tells,
served : HoldsVerdict served_input (codes "feasible\n") Done
served = tells_yes IsServed (codes "feasible\n") served_input (codes "feasible\n") Done (document [] (slot 1 3 2)) refl is_served refl refl

-- and no line with the status 'no'.
served_no : (text : List ℕ) → HoldsVerdict served_input text No → ⊥
served_no text = no_refused IsServed (codes "feasible\n") served_input text (document [] (slot 1 3 2)) refl is_served

-- From 3 to 5 it is late,
abbrev late_input : List ℕ
late_input = codes "job a 0 4 2\nslot a 3 5 2\n"

is_late : IsServed (document [] (slot 3 5 2)) → ⊥
is_late = not_feasible_by_test job (slot 3 5 2 ∷ []) 1 refl refl

-- which a line other than 'feasible' tells, with the status 'no',
late : HoldsVerdict late_input (codes "late slot 1 a 5 deadline 4\n") No
late = tells_no IsServed (codes "feasible\n") late_input (codes "late slot 1 a 5 deadline 4\n") No (document [] (slot 3 5 2)) refl is_late refl
    (λ same. refuted (test_numbers (codes "late slot 1 a 5 deadline 4\n") (codes "feasible\n")) refl same)

-- and no line with the status 'done',
late_done : (text : List ℕ) → HoldsVerdict late_input text Done → ⊥
late_done text = done_refused IsServed (codes "feasible\n") late_input text (document [] (slot 3 5 2)) refl is_late

-- nor 'feasible' with any status.
late_feasible : (status : Status) → HoldsVerdict late_input (codes "feasible\n") status → ⊥
late_feasible status = line_refused IsServed (codes "feasible\n") late_input status (document [] (slot 3 5 2)) refl is_late

-- # `audit --points`

abbrev point : ℕ → ℕ → Point
point speed power = record { speed = speed; power = power }

-- on the points of the speeds 0 and 1 the slot from 1 to 3 has a point's speed,
abbrev on_input : List ℕ
on_input = codes "job a 0 4 2\npoint 0 0\npoint 1 1\nslot a 1 3 2\n"

on_document : IsServedOnPoints (document (point 0 0 ∷ point 1 1 ∷ []) (slot 1 3 2))
on_document = (is_served, proved (test_all (on_table (Some (point 0 0 ∷ point 1 1 ∷ []))) (slot 1 3 2 ∷ [])) refl)

on_points : HoldsVerdictOnPoints on_input (codes "feasible\n") Done
on_points = tells_yes IsServedOnPoints (codes "feasible\n") on_input (codes "feasible\n") Done (document (point 0 0 ∷ point 1 1 ∷ []) (slot 1 3 2)) refl on_document refl refl

-- and on those of 0 and 2 it hasn't.
abbrev off_input : List ℕ
off_input = codes "job a 0 4 2\npoint 0 0\npoint 2 3\nslot a 1 3 2\n"

off_document : IsServedOnPoints (document (point 0 0 ∷ point 2 3 ∷ []) (slot 1 3 2)) → ⊥
off_document is = refuted (test_all (on_table (Some (point 0 0 ∷ point 2 3 ∷ []))) (slot 1 3 2 ∷ [])) refl is.1

-- So 'feasible' is refused there, though the slot is feasible.
off_feasible : (status : Status) → HoldsVerdictOnPoints off_input (codes "feasible\n") status → ⊥
off_feasible status = line_refused IsServedOnPoints (codes "feasible\n") off_input status (document (point 0 0 ∷ point 2 3 ∷ []) (slot 1 3 2)) refl off_document
