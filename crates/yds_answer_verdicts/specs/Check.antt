-- What the line of a judgement names.
use Rattle.std.specs.Prelude.{◌<◌, length}
use Rattle.yds_model.specs.Document.{Document}
use Rattle.yds_model.specs.Judgement.{Judgement, Slots, Members, Window}
use Rattle.yds_answer_verdicts.specs.VerdictLine.{NamesSlots}

-- the job and the slots that a judgement names are of the document
abbrev pub NamesPlaces : Document → Judgement → Type 0
NamesPlaces document (Slots verdict) = NamesSlots document verdict
NamesPlaces document (Members job) = job < length document.jobs
NamesPlaces document (Window job) = job < length document.jobs
NamesPlaces document _ = Unit {0}
