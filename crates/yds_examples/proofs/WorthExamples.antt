-- What the answers of `curve`, `admit` and `expand` are worth, tried on three nested jobs, on a refused one and on two tasks: what meets each record,
-- and near misses.
use Rattle.yds_model.proofs.Common.{◌≡◌, ℕ, ◌*◌, ◌≤◌, List, [], ◌∷◌, length, refl, ap, subst, arith, codes, digits, Result, Ok, Err, Fraction, numerator, of_whole, Job, job_at, WrittenSlot, Document, Fault, IsAdmission, Refusal, IsLeastExcess, slots_at}
use Rattle.yds_model.specs.declared.reason.Reason.{Reason}
use Rattle.yds_laws.specs.AdmissionLaws.{IsForced}
use Rattle.yds_laws.proofs.Forced.{refusals_are_forced}
use Rattle.yds_texts.specs.CurveText.{LeastCurve, HoldsCurve}
use Rattle.yds_texts.proofs.CurveText.{curves_are_least}
use Rattle.yds_examples.proofs.Tests.{proved}
use Rattle.yds_examples.proofs.TestedSchedules.{feasible_at}
use Rattle.yds_examples.proofs.ThreeJobs.{jobs, slots, third}
use Rattle.yds_examples.proofs.CurveExamples.{bend, answer, five, feasible}
use Rattle.yds_texts.specs.AdmitText.{ReadAdmission, HoldsAdmission}
use Rattle.yds_texts.proofs.AdmitText.{admissions_are_read}
use Rattle.yds_texts.specs.TaskLaws.{IsExpansion, HoldsExpansion}
use Rattle.yds_texts.proofs.TaskTexts.{expansions_are_read}
use Rattle.yds_examples.proofs.AdmissionExamples.{jobs as three, refusal_of_c, third_refused, answer as admitted, only_first_taken}
use Rattle.yds_examples.proofs.TasksExamples.{two, expanded}

-- # `curve`

-- The text of the three jobs holds their curve.
curve_held : HoldsCurve (codes "job a 0 12 4\njob b 2 10 8\njob c 4 6 6\n") (codes "break 0 18\nbreak 1 6\nbreak 1+1/3 3+1/3\nbreak 3 0\n")
curve_held = curves_are_least _ _ answer

-- One that tells 5 in place of 6 above the speed 1 doesn't,
less_above_one : (input text : List ℕ) (document : Document) → document.jobs ≡ jobs →
    LeastCurve input text document (bend (of_whole 0) (of_whole 18) ∷ bend (of_whole 1) (of_whole 5) ∷ bend (third 1 1) (third 3 1) ∷ bend (of_whole 3) (of_whole 0) ∷ []) → ⊥
less_above_one input text document same curve =
    five (subst (λ all. IsLeastExcess all 1 1 (of_whole 5)) same (curve.least 1 (bend (of_whole 0) (of_whole 0)) (omega arith)))

-- nor one without the break at 1: a straight line from 0 to 4/3 would be at 7 there.
seven : (x : Fraction) → numerator x ≡ 7 * x.den → IsLeastExcess jobs 1 1 x → ⊥
seven x is least = absurd (omega (arith, is, least.has_parts, least.least 3 (slots_at 3 slots) (omega arith) feasible))

break_left_out : (input text : List ℕ) (document : Document) → document.jobs ≡ jobs →
    LeastCurve input text document (bend (of_whole 0) (of_whole 18) ∷ bend (third 1 1) (third 3 1) ∷ bend (of_whole 3) (of_whole 0) ∷ []) → ⊥
break_left_out input text document same curve =
    let goes = curve.straight 0 (of_whole 1) (omega arith) (omega arith) (omega arith) (omega arith) in
    seven goes.excess (omega (arith, goes.on_line)) (subst (λ all. IsLeastExcess all 1 1 goes.excess) same goes.least)

-- One of no break tells nothing.
no_breaks : (input text : List ℕ) (document : Document) → LeastCurve input text document [] → ⊥
no_breaks input text document curve = absurd (omega (arith, curve.some))

-- Without jobs nothing is above any speed, so a break at 1 beside that at 0 is none: behind it nothing leaves the line.
no_bend : (input text : List ℕ) (document : Document) → document.jobs ≡ [] →
    LeastCurve input text document (bend (of_whole 0) (of_whole 0) ∷ bend (of_whole 1) (of_whole 0) ∷ []) → ⊥
no_bend input text document none curve =
    let leaves = curve.bends 0 (of_whole 2) (omega arith) (omega arith) (omega arith) in
    let least : IsLeastExcess [] 2 1 leaves.excess = subst (λ all. IsLeastExcess all 2 1 leaves.excess) none leaves.least in
    let nothing : numerator leaves.excess ≡ 0 = omega (arith, least.least 1 [] (omega arith) (proved (feasible_at [] 1 []) refl)) in
    leaves.off_line (omega (arith, ap (λ n. n * 1) nothing))

-- # `admit`

-- The refusal of c is forced: a, b and c have 9 units of work from 0 to 4, where the top speed 2 does 8.
forced_c : IsForced three 2 (0 ∷ 1 ∷ []) refusal_of_c
forced_c = refusals_are_forced three 2 (0 ∷ 1 ∷ []) (refusal_of_c ∷ []) third_refused 0 refusal_of_c (omega arith)

-- With 8 units it wouldn't be, whatever jobs are told.
just_enough : (taken : List ℕ) → IsForced three 2 taken (record { job = 2; from = 0; to = 4; work = 8 }) → ⊥
just_enough taken forced = absurd (omega (arith, forced.too_much))

-- Nor is it where the refused job isn't among those whose windows lie in the interval: a's 9 units of work from 0 to 4 refuse a, and not b, whose
-- window is from 10 to 12.
abbrev apart : List Job
apart = record { release = 0; deadline = 4; work = 9 } ∷ record { release = 10; deadline = 12; work = 1 } ∷ []

without_itself : IsForced apart 2 (0 ∷ []) (record { job = 1; from = 0; to = 4; work = 9 }) → ⊥
without_itself forced =
    let (place, within, is) = forced.itself in
    let due : 12 ≤ 4 = subst (λ (number : ℕ). (job_at apart number).deadline ≤ 4) is (forced.inside place 1 within).1 in
    absurd (omega (arith, due))

-- What `admit 2` answers to the three jobs holds their admission.
admission_held : HoldsAdmission 2 (codes "job a 0 4 4\njob b 0 2 4\njob c 1 3 1\n")
    (codes "job a 0 4 4\njob b 0 2 4\nslot b 0 2 4\nslot a 2 4 4\n# refuse c from 0 to 4 work 9 top 2\n")
admission_held = admissions_are_read (codes "admit" ∷ codes "2" ∷ []) 2 refl _ _ admitted

-- One that takes a alone doesn't, whatever it writes: b can be served beside it.
only_a : (input text : List ℕ) (document : Document) (refused : List Refusal) (slots : List WrittenSlot) → document.jobs ≡ three →
    ReadAdmission 2 input text document (0 ∷ []) refused slots → ⊥
only_a input text document refused slots same held = only_first_taken refused (subst (λ all. IsAdmission all 2 (0 ∷ []) refused) same held.admission)

-- # `expand`

-- What `expand` answers to the two tasks is read as their jobs.
expansion_held : HoldsExpansion (codes "horizon 12\ntask a 0 4 4 2\ntask b 0 6 6 3\n")
    (codes "job a.0 0 4 2\njob a.1 4 8 2\njob a.2 8 12 2\njob b.0 0 6 3\njob b.1 6 12 3\n# one level 12 12\n")
expansion_held =
    expansions_are_read (codes "horizon 12\ntask a 0 4 4 2\ntask b 0 6 6 3\n")
    (codes "job a.0 0 4 2\njob a.1 4 8 2\njob a.2 8 12 2\njob b.0 0 6 3\njob b.1 6 12 3\n# one level 12 12\n") expanded

-- A text without the last job of b isn't, since it is read as four jobs.
abbrev jobs_read : Result Document (Fault Reason) → ℕ
jobs_read (Ok document) = length document.jobs
jobs_read (Err fault) = 0

job_left_out : IsExpansion two (codes "job a.0 0 4 2\njob a.1 4 8 2\njob a.2 8 12 2\njob b.0 0 6 3\n") → ⊥
unfolding digits
job_left_out held =
    let four : 4 ≡ 5 = ap jobs_read held.read in
    absurd (omega (arith, four))
