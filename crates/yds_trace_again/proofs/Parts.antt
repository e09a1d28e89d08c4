-- A part of a trace is some of its jobs, in units of its own; so its text is read again.
use Rattle.yds_model.proofs.Common.{◌≡◌, ◌∙◌, ℕ, ◌+◌, ◌-◌, ◌*◌, ◌/◌, ◌≤◌, ◌==◌, ◌&&◌, ◌||◌, List, [], ◌∷◌, ◌++◌, map, filter, length, get_or, Bool, true, false, nat_lt, if◌then◌else◌, Option, Some, None, is_none, unwrap_or, refl, sym, ap, ap₂, subst, arith, leb-true, and_parts, div-mul-le_self, codes, decimal, no_document, Entry, All, All-from_recursion, All-contains_itself, AllByRecursion, recursion_from_All, Contains}
use Rattle.yds_kernel.specs.Event.{Said}
use Rattle.yds_kernel.specs.Parts.{capped}
use Rattle.yds_trace.specs.declared.cut.Cut.{Cut}
use Rattle.yds_trace.specs.declared.tally.Tally.{Tally}
use Rattle.yds_trace.specs.Asked.{Task, Asked, IsAsked, is_after_from}
use Rattle.yds_trace.specs.Past.{first_time}
use Rattle.yds_trace.specs.Faults.{first_fault}
use Rattle.yds_trace.specs.WrittenTime.{Units}
use Rattle.yds_trace.specs.Document.{Judged, judged_of, all_judged, stands, Written}
use Rattle.yds_trace.specs.Others.{Span}
use Rattle.yds_trace.specs.Parts.{belongs, begin_of, begins_from, is_before_end, of_part, waiting, part_until}
use Rattle.yds_trace_laws.specs.InUnits.{document_in, AreOf, NoneBefore}
use Rattle.yds_trace_laws.proofs.Ordered.{filter-all}
use Rattle.yds_trace_laws.proofs.Judging.{all_are_judged}
use Rattle.yds_trace_laws.proofs.First.{none_begins_before}
use Rattle.yds_trace_document.specs.Settled.{Settled, judged_by_task}
use Rattle.yds_trace_document.specs.Part.{whole_zero, shift_from, shift_of, part_units, waiting_by_task, part_by_task, settled_in, part_of, part_limit_fault}
use Rattle.yds_trace_document.specs.Limits.{late_fault, limit_fault}
use Rattle.yds_trace_document.proofs.Sorting.{FromLow, Rises, rises_filter}
use Rattle.yds_trace_document.proofs.Waits.{filter_both, waiting_rises}
use Rattle.yds_trace_text.specs.PartText.{first_release, last_deadline, windows_text, processor_text, last_text, part_line}
use Rattle.yds_trace_again.specs.Laws.{AreLabelled, PartsAreReadAgain}
use Rattle.yds_trace_again.proofs.Plain.{Plain, plain_append, plain_if, plain_decimal}
use Rattle.yds_trace_again.proofs.RowsRead.{SaysWith}
use Rattle.yds_trace_again.proofs.Fits.{PassesLimits, passes_limits, no_jobs, AreSome, those_are_some, fits}
use Rattle.yds_trace_again.proofs.Comments.{Silent, silent_comment, ArePlain, some_plain}
use Rattle.yds_trace_again.proofs.Again.{reads}

-- # A part's jobs

-- they are those of the trace that pass a test
abbrev is_in_part : Asked → Cut → Option ℕ → Judged → Bool
is_in_part asked cut until one = (begins_from cut.boundary one && is_before_end until one) && belongs asked one

those_in_part : (asked : Asked) (cut : Cut) (until : Option ℕ) (jobs : List Judged) →
    filter (is_in_part asked cut until) jobs ≡ of_part asked until (filter (begins_from cut.boundary) jobs)
those_in_part asked cut until jobs =
    filter_both (λ one. begins_from cut.boundary one && is_before_end until one) (belongs asked) jobs
    ∙ ap (filter (belongs asked)) (filter_both (begins_from cut.boundary) (is_before_end until) jobs)

part_is : (asked : Asked) (past : List Said) (cut : Cut) (until : Option ℕ) → filter (is_in_part asked cut until) (all_judged asked past) ≡ part_until asked past cut until
part_is asked past cut until = those_in_part asked cut until (all_judged asked past)

tasks_are : (asked : Asked) (past : List Said) (cut : Cut) (until : Option ℕ) (number : ℕ) (tasks : List Task) →
    map (filter (is_in_part asked cut until)) (judged_by_task asked past number tasks) ≡ map (of_part asked until) (waiting_by_task asked past cut number tasks)
tasks_are asked past cut until number [] = refl
tasks_are asked past cut until number (task ∷ tasks) =
    ap₂ (λ (some : List Judged) (more : List (List Judged)). some ∷ more) (those_in_part asked cut until (judged_of asked past number))
    (tasks_are asked past cut until (number + 1) tasks)

-- what holds of each job of the trace holds of the part's
part-all : (P : Judged → Type 0) (asked : Asked) (past : List Said) (cut : Cut) (until : Option ℕ) → All P (all_judged asked past) → AllByRecursion P (part_until asked past cut until)
part-all P asked past cut until all =
    filter-all P (belongs asked) (filter (is_before_end until) (waiting asked past cut))
    (filter-all P (is_before_end until) (waiting asked past cut)
    (filter-all P (begins_from cut.boundary) (all_judged asked past) (recursion_from_All P (all_judged asked past) all)))

-- they stand in order of begin
pub part_rises : (asked : Asked) (past : List Said) (cut : Cut) (until : Option ℕ) → Rises begin_of (part_until asked past cut until)
part_rises asked past cut until =
    rises_filter begin_of (belongs asked) (filter (is_before_end until) (waiting asked past cut))
    (rises_filter begin_of (is_before_end until) (waiting asked past cut) (waiting_rises asked past cut))

pub part_is_of : (asked : Asked) (past : List Said) (cut : Cut) (until : Option ℕ) → AreOf asked past (part_until asked past cut until)
part_is_of asked past cut until =
    All-from_recursion (Contains (all_judged asked past)) (part_until asked past cut until)
    (part-all (Contains (all_judged asked past)) asked past cut until (All-contains_itself (all_judged asked past)))

-- # Time 0 of a part

-- one that stands as it is begins at this time or later
abbrev IsBehind : ℕ → Judged → Type 0
IsBehind time one = stands one ≡ true → time ≤ one.job.begin

-- None begins before time 0 of all parts together: that is `from`, or the trace's first line.
none_before_whole : (asked : Asked) (past : List Said) → IsAsked asked → first_fault asked past ≡ None → All (IsBehind (whole_zero asked past)) (all_judged asked past)
none_before_whole asked past fit none k d within stand =
    by asked.from ((all_are_judged asked past k d within).asked_for stand)
  where
    by : (from : Option ℕ) → is_after_from from (get_or (all_judged asked past) k d).job.begin ≡ true → unwrap_or from (first_time 0 past) ≤ (get_or (all_judged asked past) k d).job.begin
    by None after = none_begins_before asked past fit none k d within stand
    by (Some from) after = leb-true from (get_or (all_judged asked past) k d).job.begin after

behind_first : (origin low zero : ℕ) (ones : List Judged) → zero ≤ origin + (low - origin) → FromLow begin_of low ones → AllByRecursion (IsBehind origin) ones →
    AllByRecursion (IsBehind zero) ones
behind_first origin low zero [] early from all = tt
behind_first origin low zero (one ∷ ones) early from all =
    (λ stand. let behind = all.0 stand in omega (arith, early, from.0, behind), behind_first origin low zero ones early from.1 all.1)

-- So none begins before time 0 of a list in order of begin, which isn't after the first begin.
none_before_first : (origin unit : ℕ) (ones : List Judged) → Rises begin_of ones → AllByRecursion (IsBehind origin) ones →
    AllByRecursion (IsBehind (origin + shift_from origin unit ones * unit)) ones
none_before_first origin unit [] rising all = tt
none_before_first origin unit (first ∷ ones) rising all =
    let short : (first.job.begin - origin) / unit * unit ≤ first.job.begin - origin = div-mul-le_self (first.job.begin - origin) unit in
    let zero : ℕ = origin + shift_from origin unit (first ∷ ones) * unit in
    let early : zero ≤ origin + (first.job.begin - origin) = omega (arith, short) in (
      λ stand. let behind = all.0 stand in omega (arith, early, behind),
      behind_first origin first.job.begin zero ones early rising.0 all.1,
    )

pub part_not_before : (asked : Asked) (past : List Said) (cut : Cut) (until : Option ℕ) → IsAsked asked → first_fault asked past ≡ None →
    NoneBefore (part_units asked past (part_until asked past cut until)) (part_until asked past cut until)
part_not_before asked past cut until fit none =
    let part : List Judged = part_until asked past cut until in
    let units : Units = part_units asked past part in
    All-from_recursion (IsBehind units.zero) part
    (none_before_first (whole_zero asked past) asked.unit part (part_rises asked past cut until)
    (part-all (IsBehind (whole_zero asked past)) asked past cut until (none_before_whole asked past fit none)))

-- # A part's text

part_plain : (asked : Asked) (past : List Said) (cut : Cut) (until : Option ℕ) → AreLabelled asked.tasks →
    ArePlain asked.tasks (part_by_task asked past cut until) (part_until asked past cut until)
part_plain asked past cut until labelled =
    subst (λ (by_task : List (List Judged)). ArePlain asked.tasks by_task (part_until asked past cut until)) (tasks_are asked past cut until 0 asked.tasks)
    (subst (ArePlain asked.tasks (map (filter (is_in_part asked cut until)) (judged_by_task asked past 0 asked.tasks))) (part_is asked past cut until)
    (some_plain asked past (is_in_part asked cut until) labelled))

part_some : (asked : Asked) (past : List Said) (cut : Cut) (until : Option ℕ) → IsAsked asked → AreLabelled asked.tasks → first_fault asked past ≡ None →
    AreSome asked (part_units asked past (part_until asked past cut until)) (part_until asked past cut until)
part_some asked past cut until fit labelled none =
    let units : Units = part_units asked past (part_until asked past cut until) in
    subst (AreSome asked units) (part_is asked past cut until)
    (those_are_some asked past units (is_in_part asked cut until) labelled refl
    (subst (NoneBefore units) (sym (part_is asked past cut until)) (part_not_before asked past cut until fit none)))

-- a part without a job passes each limit
part_limits : (asked : Asked) (strict : Bool) (cut : Cut) (units : Units) (by_task : List (List Judged)) (part : List Judged) (others : List Span) (tally : Tally) →
    part_limit_fault asked strict cut (settled_in units by_task part others tally) ≡ None → PassesLimits (document_in units part).jobs (document_in units part).runs
part_limits asked strict cut units by_task part others tally none = by ((asked.everywhere || nat_lt 0 cut.parts) && (length (document_in units part).jobs == 0)) refl none
  where
    by : (b : Bool) → ((asked.everywhere || nat_lt 0 cut.parts) && (length (document_in units part).jobs == 0)) ≡ b →
        (if b then late_fault strict part else limit_fault strict (settled_in units by_task part others tally)) ≡ None →
        PassesLimits (document_in units part).jobs (document_in units part).runs
    by true is none =
        no_jobs (document_in units part).jobs (and_parts (asked.everywhere || nat_lt 0 cut.parts) (length (document_in units part).jobs == 0) is).1
    by false is none = passes_limits strict (settled_in units by_task part others tally) none

plain_windows : (cut : Cut) → Plain (windows_text cut)
plain_windows cut = plain_if (nat_lt cut.boundary cut.due) (codes ", windows open") [] refl refl

plain_processor : (asked : Asked) → Plain (processor_text asked)
plain_processor asked =
    plain_if asked.everywhere (codes ", cpu " ++ decimal asked.processor) [] (plain_append (codes ", cpu ") (decimal asked.processor) refl (plain_decimal asked.processor)) refl

plain_last : (last : Bool) → Plain (last_text last)
plain_last last = plain_if last (codes ", the last") [] refl refl

-- The line that says which part it is is passed over.
pub part_silent : (P : List Entry → Type 0) (asked : Asked) (cut : Cut) (last : Bool) (shift : ℕ) (jobs : List Written) → Silent P (part_line asked cut last shift jobs)
part_silent P asked cut last shift jobs =
    silent_comment P
    (codes "part " ∷ decimal (capped (cut.parts + 1)) ∷ codes ": jobs " ∷ decimal (capped (cut.jobs + 1))
    ∷ codes " to " ∷ decimal (capped (cut.jobs + length jobs)) ∷ codes ", from " ∷ decimal (capped (shift + first_release jobs))
    ∷ codes " to " ∷ decimal (capped (shift + last_deadline jobs))
    ∷ codes ", shift " ∷ decimal shift ∷ processor_text asked ∷ windows_text cut ∷ last_text last ∷ []) (
      refl,
      (
        plain_decimal (capped (cut.parts + 1)),
        (
          refl,
          (
            plain_decimal (capped (cut.jobs + 1)),
            (
              refl,
              (
                plain_decimal (capped (cut.jobs + length jobs)),
                (
                  refl,
                  (
                    plain_decimal (capped (shift + first_release jobs)),
                    (
                      refl,
                      (
                        plain_decimal (capped (shift + last_deadline jobs)),
                        (
                          refl,
                          (
                            plain_decimal shift,
                            (plain_processor asked, (plain_windows cut, (plain_last last, tt))),
                          ),
                        ),
                      ),
                    ),
                  ),
                ),
              ),
            ),
          ),
        ),
      ),
    )

-- the law
pub parts_are_read_again : PartsAreReadAgain
parts_are_read_again asked strict past cut until fit labelled none limits short =
    let part : List Judged = part_until asked past cut until in
    let settled : Settled = part_of asked past cut until in
    reads (part_line asked cut (is_none until) (shift_of asked past part) settled.document.jobs) asked settled
    (part_silent (SaysWith [] no_document) asked cut (is_none until) (shift_of asked past part) settled.document.jobs)
    (part_plain asked past cut until labelled)
    (fits asked settled.units part fit labelled (part_some asked past cut until fit labelled none)
    (part_limits asked strict cut settled.units (part_by_task asked past cut until) part settled.others settled.tally limits))
    short
