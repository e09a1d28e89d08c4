-- What the line of a member says, by its field and by the names of the jobs before it.
use Rattle.std.specs.Prelude.{ℕ, List, Result, Ok}
use Rattle.yds_model.specs.declared.reason.Reason.{Reason}
use Rattle.base.specs.Lines.{Field}
use Rattle.yds_model.specs.Entry.{Entry, MemberEntry}
use Rattle.base.specs.Fields.{Spot, ◌>>=◌}
use Rattle.document_reader.specs.Fields.{known_job_of}

abbrev pub member_of : List (List ℕ) → Field → Result Entry (Spot Reason)
member_of names a = do
  job ← known_job_of names a
  Ok (MemberEntry job)
