-- The text of a trace's document is read again as just its jobs and its runs; so is that of some of its jobs.
use Rattle.yds_model.proofs.Common.{ℕ, ◌≤◌, List, [], ◌∷◌, ◌++◌, length, map, filter, flat_map, no_document, Entry}
use Rattle.base.specs.declared.limits.TheConstants.{MAX_INPUT}
use Rattle.yds_trace.specs.Asked.{Asked}
use Rattle.yds_trace.specs.Document.{all_judged, units_of, Written, Placed}
use Rattle.yds_trace_document.specs.Settled.{Settled, settled_of}
use Rattle.yds_trace_text.specs.Text.{name_of, head_line, units_line, job_text, ticks_text, run_text, document_text, comments_text, settled_text}
use Rattle.yds_texts.proofs.Brought.{Leads, Leads-nil, Leads-append, read_led}
use Rattle.yds_trace_again.specs.Again.{document_read, IsReadAs}
use Rattle.yds_trace_again.specs.Laws.{settled_where, SomeAreReadAgain, ReadAgain}
use Rattle.yds_trace_again.proofs.RowsRead.{SaysWith, nothing_said, some_jobs, some_runs, jobs_lead, ticks_lead, runs_lead}
use Rattle.yds_trace_again.proofs.Fits.{IsFit, passes_limits, all_are_some, those_are_some, fits, possible}
use Rattle.yds_trace_again.proofs.Comments.{Silent, ArePlain, all_plain, some_plain, head_silent, units_silent, comments_silent}

-- the document's own lines
rows_lead : (jobs : List Written) (runs : List Placed) → IsFit jobs runs →
    Leads (SaysWith [] no_document) (flat_map job_text jobs ++ ticks_text ++ flat_map (run_text (map name_of jobs)) runs) (SaysWith (1 ∷ []) (some_runs jobs runs))
rows_lead jobs runs fit =
    Leads-append (SaysWith [] no_document) (SaysWith (1 ∷ []) (some_jobs jobs)) (SaysWith (1 ∷ []) (some_runs jobs runs))
    (flat_map job_text jobs ++ ticks_text) (flat_map (run_text (map name_of jobs)) runs)
    (Leads-append (SaysWith [] no_document) (SaysWith [] (some_jobs jobs)) (SaysWith (1 ∷ []) (some_jobs jobs)) (flat_map job_text jobs) ticks_text
    (jobs_lead jobs fit.named) (ticks_lead (some_jobs jobs)))
    (runs_lead jobs runs fit.named fit.few fit.known fit.are)

text_leads : (asked : Asked) (settled : Settled) → ArePlain asked.tasks settled.by_task settled.judged → IsFit settled.document.jobs settled.document.runs →
    Leads (SaysWith [] no_document) (settled_text asked settled) (SaysWith (1 ∷ []) (document_read settled.document))
text_leads asked settled plain fit =
    let before : List Entry → Type 0 = SaysWith [] no_document in
    let after : List Entry → Type 0 = SaysWith (1 ∷ []) (document_read settled.document) in
    Leads-append before after after (head_line asked.processor settled.units ++ units_line settled.units ++ document_text settled) (comments_text asked settled)
    (Leads-append before before after (head_line asked.processor settled.units ++ units_line settled.units) (document_text settled)
    (Leads-append before before before (head_line asked.processor settled.units) (units_line settled.units)
    (head_silent before asked.processor settled.units) (units_silent before settled.units))
    (rows_lead settled.document.jobs settled.document.runs fit))
    (comments_silent after asked settled plain)

-- The text of what is settled is read as its document, also behind comments.
pub reads : (front : List ℕ) (asked : Asked) (settled : Settled) → Silent (SaysWith [] no_document) front → ArePlain asked.tasks settled.by_task settled.judged →
    IsFit settled.document.jobs settled.document.runs → length (front ++ settled_text asked settled) ≤ MAX_INPUT → IsReadAs settled.document (front ++ settled_text asked settled)
reads front asked settled silent plain fit short =
    let before : List Entry → Type 0 = SaysWith [] no_document in
    let after : List Entry → Type 0 = SaysWith (1 ∷ []) (document_read settled.document) in
    record {
      possible = possible settled.document.jobs settled.document.runs fit;
      read = read_led before after (front ++ settled_text asked settled) (document_read settled.document) nothing_said (λ entries says. says.document_is.said)
          (Leads-append before before after front (settled_text asked settled) silent (text_leads asked settled plain fit));
      short = short;
    }

-- # The laws

pub some_are_read_again : SomeAreReadAgain
some_are_read_again asked strict past units test others tally fit labelled time none_before none short =
    let settled : Settled = settled_where asked past units test others tally in
    reads [] asked settled (Leads-nil (SaysWith [] no_document)) (some_plain asked past test labelled)
    (fits asked units (filter test (all_judged asked past)) fit labelled (those_are_some asked past units test labelled time none_before) (passes_limits strict settled none)) short

pub read_again : ReadAgain
read_again asked strict past fit labelled none short =
    let settled : Settled = settled_of asked past in
    reads [] asked settled (Leads-nil (SaysWith [] no_document)) (all_plain asked past labelled)
    (fits asked (units_of asked past) (all_judged asked past) fit labelled (all_are_some asked past labelled) (passes_limits strict settled none)) short
