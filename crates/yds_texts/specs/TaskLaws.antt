-- The laws of periodic tasks. Each is the contract of a public function of this crate.
use Rattle.std.specs.Prelude.{◌≡◌, ℕ, ◌+◌, ◌*◌, ◌<◌, ◌≤◌, ◌↔◌, List, [], ◌∷◌, length, codes, Some, Ok}
use Rattle.base.specs.declared.limits.TheConstants.{MAX_INPUT}
use Rattle.base.specs.declared.status.Status.TheVariants.{Done}
use Rattle.yds_model.specs.Slot.{WrittenSlot}
use Rattle.yds_model.specs.Level.{Level, level_at}
use Rattle.yds_model.specs.Plan.{IsPlan}
use Rattle.yds_model.specs.Document.{Document, no_document}
use Rattle.yds_model.specs.Within.{IsDocument}
use Rattle.yds_model.specs.Reading.{reading}
use Rattle.yds_model.specs.Tasks.{Task, TaskSet, count_of_jobs, jobs_of_tasks, names_of_tasks, one_level}
use Rattle.yds_model.specs.TaskReading.{task_reading}
use Rattle.yds_model.specs.Answer.{Answers}

-- A task has just those jobs whose deadlines come by the horizon.
abbrev pub TaskJobsEndInTime : Type 0
TaskJobsEndInTime = (horizon : ℕ) (task : Task) (k : ℕ) → 1 ≤ task.period →
    ((k < count_of_jobs horizon task) ↔ (task.offset + k * task.period + task.deadline ≤ horizon))

-- the jobs of the tasks with their names, and nothing else
abbrev pub jobs_document : TaskSet → Document
jobs_document set = record no_document {
  names = names_of_tasks set;
  jobs = jobs_of_tasks set;
}

-- The text is read as a document with just the jobs of the tasks, in their order. That the document is possible says that no two
-- jobs have the same name. It may be read: it isn't too long.
pub record IsExpansion (set : TaskSet) (text : List ℕ) : Type 0 where
  pub possible : IsDocument (jobs_document set)
  pub read : reading text ≡ Ok (jobs_document set)
  pub short : length text ≤ MAX_INPUT

-- the input is read as tasks, and the text as their jobs
abbrev pub HoldsExpansion : List ℕ → List ℕ → Type 0
HoldsExpansion input text = (set : TaskSet) × (task_reading input ≡ Ok set) × IsExpansion set text

-- What `expand` writes is read so.
abbrev pub ExpansionsAreRead : Type 0
ExpansionsAreRead = (input text : List ℕ) → Answers (codes "expand" ∷ []) input text Done → HoldsExpansion input text

-- there is one level, of this work and length
pub record IsOneLevel (work long : ℕ) (levels : List Level) : Type 0 where
  pub one : length levels ≡ 1
  pub same_work : (level_at levels 0).work ≡ work
  pub same_length : (level_at levels 0).length ≡ long

-- Where one level is told of the tasks that were read, every plan of their jobs has just this one level.
abbrev pub OneLevelIsPlanned : Type 0
OneLevelIsPlanned = (input : List ℕ) (set : TaskSet) (work long : ℕ) (slots : List WrittenSlot) (levels : List Level) →
    task_reading input ≡ Ok set → one_level set ≡ Some (work, long) → IsPlan (jobs_of_tasks set) slots levels → IsOneLevel work long levels
