-- The answer of `expand`: the jobs of the tasks, line by line, and their one level where they have one.
use Rattle.std.specs.Prelude.{◌≡◌, ℕ, List, [], ◌∷◌, ◌++◌, codes, decimal, Option, Some, None}
use Rattle.base.specs.declared.status.Status.{Status}
use Rattle.base.specs.declared.status.Status.TheVariants as statuses
use Rattle.base.specs.Lines.{line}
use Rattle.yds_model.specs.Text.{job_lines}
use Rattle.yds_model.specs.Tasks.{TaskSet, names_of_tasks, jobs_of_tasks, one_level}

-- a comment: `# one level WORK LENGTH`
abbrev pub level_comment : Option (ℕ × ℕ) → List ℕ
level_comment None = []
level_comment (Some level) = line (codes "#" ∷ codes "one" ∷ codes "level" ∷ decimal level.0 ∷ decimal level.1 ∷ [])

abbrev pub expansion_text : TaskSet → List ℕ
expansion_text set = job_lines (names_of_tasks set) (jobs_of_tasks set) ++ level_comment (one_level set)

pub record ExpandAnswer (set : TaskSet) (text : List ℕ) (status : Status) : Type 0 where
  pub said : text ≡ expansion_text set
  pub ended : status ≡ statuses.Done
