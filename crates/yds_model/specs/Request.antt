-- What the words of the command line ask for. Words are compared byte for byte, and numbers among them are spelled as in a
-- document.
use Rattle.std.specs.Prelude.{ℕ, List, [], ◌∷◌, codes, Option, Some, None, Result, Ok, Err, if◌then◌else◌}
use Rattle.std.specs.Str.{bytes_eq}
use Rattle.base.specs.declared.limits.TheConstants.{MAX_GRID, MAX_SEED, MAX_TRIAL_JOBS, MAX_TOP}
use Rattle.base.specs.declared.number_fault.NumberFault.{NumberFault}
use Rattle.base.specs.Spelling.{number_at}

-- what is asked of a document
pub data Question : Type 0 where
  AskPlan : Question
  AskRound : Question
  AskAverageRate : (grid : ℕ) → Question
  AskOptimalAvailable : (grid : ℕ) → Question
  AskCheck : Question
  AskAudit : Question
  AskAuditOnPoints : Question
  AskReport : Question
  AskReportAsJson : Question
  AskAdmit : (top : ℕ) → Question
  AskCurve : Question
  AskCompare : (grid : ℕ) → Question

-- A question about the document in the input, the jobs of the tasks in it, or a trial, for which nothing is read.
pub data Request : Type 0 where
  OfDocument : (question : Question) → Request
  OfTasks : Request
  OfTrial : (seed jobs : ℕ) → Request

-- one word
abbrev pub request_of_word : List ℕ → Option Request
request_of_word word =
    if bytes_eq word (codes "plan") then Some (OfDocument AskPlan)
    else (if bytes_eq word (codes "round") then Some (OfDocument AskRound)
    else (if bytes_eq word (codes "check") then Some (OfDocument AskCheck)
    else (if bytes_eq word (codes "audit") then Some (OfDocument AskAudit)
    else (if bytes_eq word (codes "report") then Some (OfDocument AskReport)
    else (if bytes_eq word (codes "expand") then Some OfTasks
    else (if bytes_eq word (codes "curve") then Some (OfDocument AskCurve)
    else None))))))

-- `admit TOP`
abbrev pub request_of_top : Result ℕ NumberFault → Option Request
request_of_top (Ok top) = Some (OfDocument (AskAdmit top))
request_of_top (Err fault) = None

-- `audit --points`, `report --json`, `admit TOP`
abbrev pub request_of_two : List ℕ → List ℕ → Option Request
request_of_two word next =
    if bytes_eq word (codes "audit") then (if bytes_eq next (codes "--points") then Some (OfDocument AskAuditOnPoints) else None)
    else (if bytes_eq word (codes "report") then (if bytes_eq next (codes "--json") then Some (OfDocument AskReportAsJson) else None)
    else (if bytes_eq word (codes "admit") then request_of_top (number_at 1 MAX_TOP next)
    else None))

-- `avr --grid G`, `oa --grid G`, `compare --grid G`
abbrev pub request_of_grid : List ℕ → Result ℕ NumberFault → Option Request
request_of_grid word (Err fault) = None
request_of_grid word (Ok grid) =
    if bytes_eq word (codes "avr") then Some (OfDocument (AskAverageRate grid))
    else (if bytes_eq word (codes "oa") then Some (OfDocument (AskOptimalAvailable grid))
    else (if bytes_eq word (codes "compare") then Some (OfDocument (AskCompare grid))
    else None))

-- `trial SEED JOBS`
abbrev pub request_of_trial : Result ℕ NumberFault → Result ℕ NumberFault → Option Request
request_of_trial (Ok seed) (Ok jobs) = Some (OfTrial seed jobs)
request_of_trial _ _ = None

abbrev pub request_of_three : List ℕ → List ℕ → List ℕ → Option Request
request_of_three word next last =
    if bytes_eq word (codes "trial") then request_of_trial (number_at 0 MAX_SEED next) (number_at 0 MAX_TRIAL_JOBS last)
    else (if bytes_eq next (codes "--grid") then request_of_grid word (number_at 1 MAX_GRID last) else None)

-- Every list of words that isn't listed asks for nothing.
abbrev pub request_of : List (List ℕ) → Option Request
request_of [] = None
request_of (word ∷ []) = request_of_word word
request_of (word ∷ next ∷ []) = request_of_two word next
request_of (word ∷ next ∷ last ∷ []) = request_of_three word next last
request_of (word ∷ next ∷ last ∷ more ∷ words) = None

-- the line that names every command
abbrev pub usage_line : List ℕ
usage_line = codes "usage: yds_cli plan | round | avr --grid G | oa --grid G | check | audit [--points] | report [--json] | trial SEED JOBS | expand | admit TOP | curve | compare --grid G\n"
