-- What is settled of the waiting jobs of each task is what the definitions say of a part.
use Rattle.base.proofs.Common.{◌≡◌, ℕ, ◌+◌, ◌*◌, List, max, ◌∙◌, ap, ap₂, Option, unwrap_or, filter_map}
use Rattle.yds_kernel.specs.Event.{Said}
use Rattle.yds_trace.specs.declared.cut.Cut.{Cut}
use Rattle.yds_trace.specs.declared.tally.Tally.{Tally}
use Rattle.yds_trace.specs.Tally.{tally_of}
use Rattle.yds_trace.specs.Asked.{Asked}
use Rattle.yds_trace.specs.Past.{first_time}
use Rattle.yds_trace.specs.WrittenTime.{Units}
use Rattle.yds_trace.specs.Document.{Judged, in_order, written_of, Placed, all_runs}
use Rattle.yds_trace.specs.Others.{Span, spans_within, others_from}
use Rattle.yds_trace.specs.Parts.{part_until}
use Rattle.yds_trace_document.specs.Settled.{Settled, with_capped_works}
use Rattle.yds_trace_document.specs.Kept.{capped_in, begin_of, together}
use Rattle.yds_trace_document.specs.Part.{whole_zero, shift_from, shift_of, shifted, part_by_task, others_until, settled_in, part_of}
use Rattle.yds_trace_document.proofs.Same.{jobs_same, runs_same, built}
use Rattle.yds_trace_document.proofs.Waits.{part_in_order}

capped_same : (units : Units) (by_task : List (List Judged)) (judged : List Judged) (others : List Span) (tally : Tally) →
    capped_in units by_task judged others tally ≡ with_capped_works (settled_in units by_task judged others tally)
capped_same units by_task judged others tally =
    ap₂ (built units by_task judged others tally) (jobs_same units judged)
    (ap all_runs (jobs_same units judged)
    ∙ ap (in_order (λ (placed : Placed). placed.run.from)) (runs_same 0 (filter_map (written_of units) judged)))

pub in_line : (asked : Asked) (past : List Said) (cut : Cut) (until : Option ℕ) (by_task : List (List Judged)) →
    by_task ≡ part_by_task asked past cut until → in_order begin_of (together by_task) ≡ part_until asked past cut until
in_line asked past cut until by_task are = ap (λ (l : List (List Judged)). in_order begin_of (together l)) are ∙ part_in_order asked past cut until

zero_same : (asked : Asked) (past : List Said) (first : ℕ) → first ≡ first_time 0 past → unwrap_or asked.from first ≡ whole_zero asked past
zero_same asked past first is = ap (unwrap_or asked.from) is

pub shift_same : (asked : Asked) (past : List Said) (cut : Cut) (until : Option ℕ) (first : ℕ) (judged : List Judged) → first ≡ first_time 0 past →
    judged ≡ part_until asked past cut until →
    shift_from (unwrap_or asked.from first) asked.unit judged ≡ shift_of asked past (part_until asked past cut until)
shift_same asked past cut until first judged is are =
    ap₂ (λ (origin : ℕ) (part : List Judged). shift_from origin asked.unit part) (zero_same asked past first is) are

pub others_same : (asked : Asked) (past : List Said) (cut : Cut) (until : Option ℕ) (first shift boundary : ℕ) (judged : List Judged) (others : List Span) →
    first ≡ first_time 0 past → judged ≡ part_until asked past cut until → shift ≡ shift_from (unwrap_or asked.from first) asked.unit judged →
    boundary ≡ cut.boundary → others ≡ others_from asked past cut.boundary →
    spans_within (max boundary (unwrap_or asked.from first + shift * asked.unit)) until others ≡ others_until asked past cut until
others_same asked past cut until first shift boundary judged others is are so at told =
    ap₂ (λ (edge : ℕ) (spans : List Span). spans_within (max edge (unwrap_or asked.from first + shift * asked.unit)) until spans) at told
    ∙ ap₂ (λ (origin units : ℕ). spans_within (max cut.boundary (origin + units * asked.unit)) until (others_from asked past cut.boundary))
    (zero_same asked past first is) (so ∙ shift_same asked past cut until first judged is are)

abbrev made_of : Asked → List (List Judged) → List Span → Tally → List Judged → ℕ → ℕ → Settled
made_of asked by_task others tally judged origin shift = with_capped_works (settled_in (shifted origin asked shift) by_task judged others tally)

pub part_same : (asked : Asked) (past : List Said) (cut : Cut) (until : Option ℕ) (first shift : ℕ) (by_task : List (List Judged)) (judged : List Judged)
    (others : List Span) (tally : Tally) → first ≡ first_time 0 past → by_task ≡ part_by_task asked past cut until → judged ≡ part_until asked past cut until →
    shift ≡ shift_from (unwrap_or asked.from first) asked.unit judged → others ≡ others_until asked past cut until →
    tally ≡ tally_of asked past →
    capped_in (shifted (unwrap_or asked.from first) asked shift) by_task judged others tally ≡ with_capped_works (part_of asked past cut until)
part_same asked past cut until first shift by_task judged others tally is lists are so told lacks =
    capped_same (shifted (unwrap_or asked.from first) asked shift) by_task judged others tally
    ∙ ap₂ (λ (l : List (List Judged)) (spans : List Span). made_of asked l spans tally judged (unwrap_or asked.from first) shift) lists told
    ∙ ap (λ (lack : Tally). made_of asked (part_by_task asked past cut until) (others_until asked past cut until) lack judged (unwrap_or asked.from first) shift) lacks
    ∙ ap (λ (part : List Judged). made_of asked (part_by_task asked past cut until) (others_until asked past cut until) (tally_of asked past) part (unwrap_or asked.from first) shift) are
    ∙ ap₂ (made_of asked (part_by_task asked past cut until) (others_until asked past cut until) (tally_of asked past) (part_until asked past cut until))
    (zero_same asked past first is) (so ∙ shift_same asked past cut until first judged is are)
