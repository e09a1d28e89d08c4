-- The words of the command line, tried: each of the fourteen forms of command, and words that are near them and ask for nothing.
use Rattle.yds_model.proofs.Common.{◌≡◌, List, ℕ, [], ◌∷◌, refl, codes, Some, None, AskPlan, AskRound, AskAverageRate, AskOptimalAvailable, AskCheck, AskAudit, AskAuditOnPoints, AskReport, AskReportAsJson, AskAdmit, AskCurve, AskCompare, OfDocument, OfTasks, OfTrial, request_of, usage_line, Answers}
use Rattle.base.specs.declared.status.Status.TheVariants.{Usage}

-- The commands of one word: `plan`,
plan : request_of (codes "plan" ∷ []) ≡ Some (OfDocument AskPlan)
plan = refl

-- `round`,
round : request_of (codes "round" ∷ []) ≡ Some (OfDocument AskRound)
round = refl

-- `check`,
check : request_of (codes "check" ∷ []) ≡ Some (OfDocument AskCheck)
check = refl

-- `audit`,
audit : request_of (codes "audit" ∷ []) ≡ Some (OfDocument AskAudit)
audit = refl

-- `report`,
report : request_of (codes "report" ∷ []) ≡ Some (OfDocument AskReport)
report = refl

-- `expand`, which reads tasks and no document,
expand : request_of (codes "expand" ∷ []) ≡ Some OfTasks
expand = refl

-- and `curve`.
curve : request_of (codes "curve" ∷ []) ≡ Some (OfDocument AskCurve)
curve = refl

-- Of two words: `audit` by the operating points,
audit_on_points : request_of (codes "audit" ∷ codes "--points" ∷ []) ≡ Some (OfDocument AskAuditOnPoints)
audit_on_points = refl

-- `report` as JSON,
report_as_json : request_of (codes "report" ∷ codes "--json" ∷ []) ≡ Some (OfDocument AskReportAsJson)
report_as_json = refl

-- and `admit` under the greatest top speed.
admit : request_of (codes "admit" ∷ codes "1000000" ∷ []) ≡ Some (OfDocument (AskAdmit 1000000))
admit = refl

-- Of three: the two policies,
average_rate : request_of (codes "avr" ∷ codes "--grid" ∷ codes "6" ∷ []) ≡ Some (OfDocument (AskAverageRate 6))
average_rate = refl

-- each on a grid,
optimal_available : request_of (codes "oa" ∷ codes "--grid" ∷ codes "6" ∷ []) ≡ Some (OfDocument (AskOptimalAvailable 6))
optimal_available = refl

-- what they and the plan spend,
compare : request_of (codes "compare" ∷ codes "--grid" ∷ codes "6" ∷ []) ≡ Some (OfDocument (AskCompare 6))
compare = refl

-- and a trial of the greatest seed and the most jobs.
trial : request_of (codes "trial" ∷ codes "4294967295" ∷ codes "1000" ∷ []) ≡ Some (OfTrial 4294967295 1000)
trial = refl

-- Words that ask for nothing: a top speed below its limit,
top_of_zero : request_of (codes "admit" ∷ codes "0" ∷ []) ≡ None
top_of_zero = refl

-- one above its limit,
top_too_fast : request_of (codes "admit" ∷ codes "1000001" ∷ []) ≡ None
top_too_fast = refl

-- one with a zero in front,
top_with_zero : request_of (codes "admit" ∷ codes "02" ∷ []) ≡ None
top_with_zero = refl

-- the option of `audit` at `report`,
report_on_points : request_of (codes "report" ∷ codes "--points" ∷ []) ≡ None
report_on_points = refl

-- a grid that isn't said,
compare_without_grid : request_of (codes "compare" ∷ codes "--grid" ∷ []) ≡ None
compare_without_grid = refl

-- a grid of 0,
compare_on_zero : request_of (codes "compare" ∷ codes "--grid" ∷ codes "0" ∷ []) ≡ None
compare_on_zero = refl

-- a grid for a command that has none,
plan_on_grid : request_of (codes "plan" ∷ codes "--grid" ∷ codes "6" ∷ []) ≡ None
plan_on_grid = refl

-- a word too many,
expand_more : request_of (codes "expand" ∷ codes "x" ∷ []) ≡ None
expand_more = refl

-- a trial of a job too many,
trial_of_more : request_of (codes "trial" ∷ codes "0" ∷ codes "1001" ∷ []) ≡ None
trial_of_more = refl

-- a command in capitals,
capitals : request_of (codes "Plan" ∷ []) ≡ None
capitals = refl

-- and no word.
no_word : request_of [] ≡ None
no_word = refl

-- They are answered by the line of all commands, whatever the input is,
usage : (input : List ℕ) → Answers (codes "admit" ∷ codes "0" ∷ []) input usage_line Usage
usage input = record { said = refl; ended = refl }

-- and by no other text.
nothing_said : (input : List ℕ) → Answers (codes "admit" ∷ codes "0" ∷ []) input [] Usage → ⊥
nothing_said input answer = absurd (cc answer.said)
