-- What the line of a job says, by its fields and by the names of the jobs before it.
use Rattle.std.specs.Prelude.{ℕ, List, Result, Ok, nat_lt}
use Rattle.base.specs.declared.limits.TheConstants.{MAX_TIME, MAX_WORK}
use Rattle.yds_model.specs.declared.reason.Reason.{Reason}
use Rattle.yds_model.specs.declared.reason.Reason.TheVariants as reasons
use Rattle.base.specs.Lines.{Field}
use Rattle.yds_model.specs.Entry.{Entry, JobEntry}
use Rattle.base.specs.Fields.{Spot, ◌>>=◌, demand}
use Rattle.yds_model.specs.Reading.{number_in}
use Rattle.document_reader.specs.Fields.{new_name_of}

abbrev pub job_of : List (List ℕ) → Field → Field → Field → Field → Result Entry (Spot Reason)
job_of names a b c d = do
  name ← new_name_of names a
  release ← number_in 0 MAX_TIME b
  deadline ← number_in 0 MAX_TIME c
  work ← number_in 0 MAX_WORK d
  window ← demand (nat_lt release deadline) c.column reasons.EmptyWindow
  Ok (JobEntry name (record { release = release; deadline = deadline; work = work }))
