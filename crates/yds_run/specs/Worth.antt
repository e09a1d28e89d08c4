-- What an answer with its status is worth to whoever asked for it with these words, over this input. It is what `run` ensures over
-- a source and a sink that tell their bytes.
use Rattle.std.specs.Prelude.{◌≡◌, ℕ, ◌≤◌, ◌⊎◌, List, [], ◌∷◌, length, codes, Some, Ok}
use Rattle.base.specs.declared.limits.TheConstants.{MAX_INPUT}
use Rattle.base.specs.declared.status.Status.{Status}
use Rattle.base.specs.declared.status.Status.TheVariants as statuses
use Rattle.yds_model.specs.Request.{OfDocument, AskAverageRate, AskOptimalAvailable, AskAdmit, AskCompare}
use Rattle.yds_model.specs.Admission.{CanServe}
use Rattle.yds_model.specs.Rounding.{top_of}
use Rattle.yds_model.specs.Document.{Document}
use Rattle.yds_model.specs.Reading.{reading}
use Rattle.yds_model.specs.Tasks.{TaskSet}
use Rattle.yds_model.specs.TaskReading.{task_reading}
use Rattle.yds_report.specs.JsonText.{HoldsReport}
use Rattle.yds_texts.specs.AdmitText.{HoldsAdmission}
use Rattle.yds_texts.specs.CompareText.{HoldsComparison}
use Rattle.yds_texts.specs.CurveText.{HoldsCurve}
use Rattle.yds_texts.specs.JudgedText.{HoldsJudgement, HoldsVerdict, HoldsVerdictOnPoints}
use Rattle.yds_texts.specs.PlanText.{HoldsHeadline}
use Rattle.yds_texts.specs.RoundText.{HoldsLeastEnergy, HoldsTooSlow}
use Rattle.yds_texts.specs.RunText.{HoldsAverageRate, HoldsOptimalAvailable}
use Rattle.yds_texts.specs.TaskLaws.{HoldsExpansion}
use Rattle.yds_words.specs.Words.{asked}
use Rattle.yds_report.specs.TableText.{HoldsTable}

-- The input is within the limits, and is read as this document.
pub record IsInputOf (document : Document) (input : List ℕ) : Type 0 where
  pub short : length input ≤ MAX_INPUT
  pub read : reading input ≡ Ok document

pub record IsWorth (words : List (List ℕ)) (input text : List ℕ) (status : Status) : Type 0 where
  -- A plan is read again as the document with that plan, which gives every job its work in its window and, for every speed, does no more
  -- work above it than any feasible schedule. By every convex table of points it takes no more energy than any of them.
  pub headline : words ≡ codes "plan" ∷ [] → status ≡ statuses.Done → HoldsHeadline input text
  -- `check` is done and says 'accepted' exactly where the document's levels are a proper certificate of its slots, and says no exactly where
  -- they aren't. Where they are, the slots are as good as those of a plan: least above every speed and cheapest by every convex table.
  pub accepted : words ≡ codes "check" ∷ [] → (status ≡ statuses.Done) ⊎ (status ≡ statuses.No) → HoldsJudgement input text status
  -- `audit` is done and says 'feasible' exactly where the document's slots give every job its work inside its window, one job at a time, and
  -- says no exactly where they don't. With `--points` it is so where each also runs at a point's speed.
  pub feasible : words ≡ codes "audit" ∷ [] → (status ≡ statuses.Done) ⊎ (status ≡ statuses.No) → HoldsVerdict input text status
  pub feasible_on_points : words ≡ codes "audit" ∷ codes "--points" ∷ [] → (status ≡ statuses.Done) ⊎ (status ≡ statuses.No)
      → HoldsVerdictOnPoints input text status
  -- A rounded plan is read again as the document with slots at the speeds of its points, which give every job its work in its window, and no
  -- feasible schedule on the points takes less energy. Where it says no, the points are too slow: no feasible schedule stays at or below the
  -- top one, and the first level of a plan, whose work and length are told, is faster.
  pub least_energy : words ≡ codes "round" ∷ [] → status ≡ statuses.Done → HoldsLeastEnergy input text
  pub too_slow : words ≡ codes "round" ∷ [] → status ≡ statuses.No → HoldsTooSlow input text
  -- A policy's run is read again as the document with the run, which gives every job its work in its window. Where it says that it never
  -- rounded, it is the policy's own.
  pub average_rate : (grid : ℕ) → asked words ≡ Some (OfDocument (AskAverageRate grid)) → status ≡ statuses.Done → HoldsAverageRate grid input text
  pub optimal_available : (grid : ℕ) → asked words ≡ Some (OfDocument (AskOptimalAvailable grid)) → status ≡ statuses.Done
      → HoldsOptimalAvailable grid input text
  -- A comparison tells neither policy less energy than the plan, and the plan the energy that `round` writes for the same input. Where it
  -- says no, the points are too slow, as for `round`.
  pub comparison : (grid : ℕ) → asked words ≡ Some (OfDocument (AskCompare grid)) → status ≡ statuses.Done → HoldsComparison grid input text
  pub compared_too_slow : (grid : ℕ) → asked words ≡ Some (OfDocument (AskCompare grid)) → status ≡ statuses.No → HoldsTooSlow input text
  -- A curve tells at rising speeds, from 0 on, the least work that any feasible schedule does above them. Between two of them it goes in a
  -- straight line, and above the last it is 0.
  pub least_excess : words ≡ codes "curve" ∷ [] → status ≡ statuses.Done → HoldsCurve input text
  -- A report is the table of the numbers of the jobs and of a plan's levels.
  pub table : words ≡ codes "report" ∷ [] → status ≡ statuses.Done → HoldsTable input text
  -- A report of JSON is read by `serde_json` as the numbers of the jobs and of a plan's levels.
  pub json : words ≡ codes "report" ∷ codes "--json" ∷ [] → status ≡ statuses.Done → HoldsReport input text
  -- The jobs of periodic tasks are read again as a document with just these jobs, in their order and under different names.
  pub expansion : words ≡ codes "expand" ∷ [] → status ≡ statuses.Done → HoldsExpansion input text
  -- The admitted jobs, with a comment for each other job, are read again as a document of the admitted jobs with slots that give each of them
  -- its work in its window, nowhere faster than the top speed. In the interval of each comment lie the windows of that job and of admitted
  -- ones whose work is more than the top speed does there.
  pub admission : (top : ℕ) → asked words ≡ Some (OfDocument (AskAdmit top)) → status ≡ statuses.Done → HoldsAdmission top input text
  -- The headline, from the input on: where it is a document within the limits `plan` is done, and its text holds the headline.
  pub planned : (document : Document) → words ≡ codes "plan" ∷ [] → IsInputOf document input → (status ≡ statuses.Done) × HoldsHeadline input text
  -- Of such a document `check` and `audit` say yes or no, and `audit --points` does where there are points.
  pub checked : (document : Document) → words ≡ codes "check" ∷ [] → IsInputOf document input → (status ≡ statuses.Done) ⊎ (status ≡ statuses.No)
  pub audited : (document : Document) → words ≡ codes "audit" ∷ [] → IsInputOf document input → (status ≡ statuses.Done) ⊎ (status ≡ statuses.No)
  pub audited_on_points : (document : Document) → words ≡ codes "audit" ∷ codes "--points" ∷ [] → IsInputOf document input
      → 1 ≤ length document.points → (status ≡ statuses.Done) ⊎ (status ≡ statuses.No)
  -- Where there are points `round` and `compare` are done where the top point's speed suffices for the jobs, and say no where it doesn't.
  pub rounded_or_not : (document : Document) → words ≡ codes "round" ∷ [] → IsInputOf document input
      → 1 ≤ length document.points → (status ≡ statuses.Done) ⊎ (status ≡ statuses.No)
  pub rounded : (document : Document) → words ≡ codes "round" ∷ [] → IsInputOf document input
      → 1 ≤ length document.points → CanServe (top_of document.points) document.jobs → status ≡ statuses.Done
  pub not_rounded : (document : Document) → words ≡ codes "round" ∷ [] → IsInputOf document input
      → 1 ≤ length document.points → (CanServe (top_of document.points) document.jobs → ⊥) → status ≡ statuses.No
  pub compared_or_not : (grid : ℕ) (document : Document) → asked words ≡ Some (OfDocument (AskCompare grid)) → IsInputOf document input
      → 1 ≤ length document.points → (status ≡ statuses.Done) ⊎ (status ≡ statuses.No)
  pub compared : (grid : ℕ) (document : Document) → asked words ≡ Some (OfDocument (AskCompare grid)) → IsInputOf document input
      → 1 ≤ length document.points → CanServe (top_of document.points) document.jobs → status ≡ statuses.Done
  pub not_compared : (grid : ℕ) (document : Document) → asked words ≡ Some (OfDocument (AskCompare grid)) → IsInputOf document input
      → 1 ≤ length document.points → (CanServe (top_of document.points) document.jobs → ⊥) → status ≡ statuses.No
  -- The policies, the curve, both reports and the admission of such a document are done.
  pub average_rate_run : (grid : ℕ) (document : Document) → asked words ≡ Some (OfDocument (AskAverageRate grid)) → IsInputOf document input
      → status ≡ statuses.Done
  pub optimal_available_run : (grid : ℕ) (document : Document) → asked words ≡ Some (OfDocument (AskOptimalAvailable grid)) → IsInputOf document input
      → status ≡ statuses.Done
  pub curve_told : (document : Document) → words ≡ codes "curve" ∷ [] → IsInputOf document input → status ≡ statuses.Done
  pub reported : (document : Document) → words ≡ codes "report" ∷ [] → IsInputOf document input → status ≡ statuses.Done
  pub reported_as_json : (document : Document) → words ≡ codes "report" ∷ codes "--json" ∷ [] → IsInputOf document input → status ≡ statuses.Done
  pub admitted : (top : ℕ) (document : Document) → asked words ≡ Some (OfDocument (AskAdmit top)) → IsInputOf document input → status ≡ statuses.Done
  -- Where the input is a list of tasks within the limits `expand` is done.
  pub expanded : (set : TaskSet) → words ≡ codes "expand" ∷ [] → length input ≤ MAX_INPUT → task_reading input ≡ Ok set → status ≡ statuses.Done
