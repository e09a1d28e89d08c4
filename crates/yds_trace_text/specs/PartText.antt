-- The text of a part: its first line says which part it is, and what follows is the text of a document.
use Rattle.std.specs.Prelude.{ℕ, ◌+◌, List, [], ◌∷◌, ◌++◌, length, max, codes, decimal, Bool, nat_lt, if◌then◌else◌, Option, Some, None, is_none, unwrap_or}
use Rattle.yds_kernel.specs.Parts.{capped}
use Rattle.yds_kernel.specs.Event.{Said}
use Rattle.yds_trace.specs.Asked.{Asked}
use Rattle.yds_trace.specs.Document.{least_of, Written}
use Rattle.yds_trace.specs.declared.cut.Cut.{Cut}
use Rattle.yds_trace.specs.Parts.{part_until}
use Rattle.yds_trace_document.specs.Settled.{Settled}
use Rattle.yds_trace_document.specs.Part.{shift_of, part_of}
use Rattle.yds_trace_text.specs.Text.{comment, settled_text}

-- the first release and the last deadline of jobs; 0 where there is none
abbrev pub least_release : List Written → Option ℕ
least_release [] = None
least_release (job ∷ jobs) = Some (least_of (least_release jobs) job.release)

abbrev pub first_release : List Written → ℕ
first_release jobs = unwrap_or (least_release jobs) 0

abbrev pub last_deadline : List Written → ℕ
last_deadline [] = 0
last_deadline (job ∷ jobs) = max job.deadline (last_deadline jobs)

-- A job before the cut in front of this part may still run behind it, by its deadline.
abbrev pub windows_text : Cut → List ℕ
windows_text cut = if nat_lt cut.boundary cut.due then codes ", windows open" else []

-- where each processor has documents of its own
abbrev pub processor_text : Asked → List ℕ
processor_text asked = if asked.everywhere then codes ", cpu " ++ decimal asked.processor else []

abbrev pub last_text : Bool → List ℕ
last_text last = if last then codes ", the last" else []

-- Jobs are numbered from the first part on, and times are those of the whole.
abbrev pub part_line : Asked → Cut → Bool → ℕ → List Written → List ℕ
part_line asked cut last shift jobs =
    comment (codes "part " ∷ decimal (capped (cut.parts + 1)) ∷ codes ": jobs " ∷ decimal (capped (cut.jobs + 1))
    ∷ codes " to " ∷ decimal (capped (cut.jobs + length jobs)) ∷ codes ", from " ∷ decimal (capped (shift + first_release jobs))
    ∷ codes " to " ∷ decimal (capped (shift + last_deadline jobs))
    ∷ codes ", shift " ∷ decimal shift ∷ processor_text asked ∷ windows_text cut ∷ last_text last ∷ [])

abbrev pub part_settled_text : Asked → Cut → Bool → ℕ → Settled → List ℕ
part_settled_text asked cut last shift settled = part_line asked cut last shift settled.document.jobs ++ settled_text asked settled

-- the text of the part that ends at this time, or of the last one
abbrev pub part_text : Asked → List Said → Cut → Option ℕ → List ℕ
part_text asked past cut until =
    part_settled_text asked cut (is_none until) (shift_of asked past (part_until asked past cut until)) (part_of asked past cut until)
