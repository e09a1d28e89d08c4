-- The head lines of parts count jobs on from part to part.
use Rattle.base.proofs.Common.{◌≡◌, ℕ, ◌+◌, ◌||◌, Bool, true, false, cond, List, [], ◌∷◌, length, ◌∙◌, refl, sym, ap, ap₂, arith, nat_le, leb-true, le-leb, Option, Some, None, is_some, codes, decimal, sum_by-cons, count_by, filter_map}
use Rattle.std.specs.List.{cons_option}
use Rattle.yds_kernel.specs.Event.{Said}
use Rattle.yds_kernel.specs.Parts.{capped}
use Rattle.yds_trace.specs.declared.cut.Cut.{Cut}
use Rattle.yds_trace.specs.Asked.{Asked}
use Rattle.yds_trace.specs.WrittenTime.{Units}
use Rattle.yds_trace.specs.Document.{Judged, stands, Written, with_runs, without_runs, written_of}
use Rattle.yds_trace.specs.Parts.{is_written, part_until, place_of, cut_at, cut_after}
use Rattle.yds_trace_document.specs.Part.{part_units}
use Rattle.yds_trace_text.specs.Text.{comment}
use Rattle.yds_trace_text.specs.PartText.{first_release, last_deadline, windows_text, processor_text, last_text, part_line}
use Rattle.yds_trace_text.specs.Laws.{jobs_of_part, jobs_of_parts, PartsCountOn}

-- # The jobs of one part

written_one : (standing lately : Bool) (with_runs without_runs : Written) (jobs : List Written) →
    length (cons_option (cond standing (Some with_runs) (cond lately (Some without_runs) None)) jobs) ≡ cond (standing || lately) 1 0 + length jobs
written_one true lately with_runs without_runs jobs = omega arith
written_one false true with_runs without_runs jobs = omega arith
written_one false false with_runs without_runs jobs = omega arith

written_count : (units : Units) (judged : List Judged) → length (filter_map (written_of units) judged) ≡ count_by is_written judged
written_count units [] = refl
written_count units (first ∷ more) =
    omega (
      arith,
      written_one (stands first) (is_some first.late) (with_runs units first) (without_runs units first) (filter_map (written_of units) more),
      written_count units more,
      sum_by-cons (λ (one : Judged). cond (is_written one) 1 0) first more,
    )

-- # All parts

capped_more : (n k : ℕ) → capped (capped n + k) ≡ capped (n + k)
capped_more n k = grind (arith, nat_le, leb-true, le-leb)

moved_on : (asked : Asked) (past : List Said) (cut : Cut) (time : ℕ) →
    (cut_at asked past cut (Some time)).jobs ≡ capped (cut.jobs + jobs_of_part asked past cut (Some time))
moved_on asked past cut time =
    ap (λ (n : ℕ). capped (cut.jobs + n))
    (sym (written_count (part_units asked past (part_until asked past cut (Some time))) (part_until asked past cut (Some time))))

counted_at : (asked : Asked) (past : List Said) (cut : Cut) (number : ℕ) (place : Option ℕ) → cut.jobs ≡ capped number →
    (cut_at asked past cut place).jobs ≡ capped (jobs_of_part asked past cut place + number)
counted_at asked past cut number None is = is ∙ ap capped (let e : number ≡ 0 + number = omega arith in e)
counted_at asked past cut number (Some time) is =
    moved_on asked past cut time
    ∙ ap (λ (n : ℕ). capped (n + jobs_of_part asked past cut (Some time))) is
    ∙ capped_more number (jobs_of_part asked past cut (Some time))
    ∙ ap capped (let e : number + jobs_of_part asked past cut (Some time) ≡ jobs_of_part asked past cut (Some time) + number = omega arith in e)

counted_after : (asked : Asked) (past : List Said) → (cut_after asked past).jobs ≡ capped (jobs_of_parts asked past)
counted_after asked [] = refl
counted_after asked (said ∷ past) =
    counted_at asked (said ∷ past) (cut_after asked past) (jobs_of_parts asked past) (place_of asked (said ∷ past) (cut_after asked past)) (counted_after asked past)

-- # Their head lines

abbrev numbered : Asked → Cut → Bool → ℕ → List Written → ℕ → ℕ → List ℕ
numbered asked cut last shift jobs first end =
    comment (codes "part " ∷ decimal (capped (cut.parts + 1)) ∷ codes ": jobs " ∷ decimal first
    ∷ codes " to " ∷ decimal end ∷ codes ", from " ∷ decimal (capped (shift + first_release jobs))
    ∷ codes " to " ∷ decimal (capped (shift + last_deadline jobs))
    ∷ codes ", shift " ∷ decimal shift ∷ processor_text asked ∷ windows_text cut ∷ last_text last ∷ [])

line_counts : (asked : Asked) (cut : Cut) (number : ℕ) (last : Bool) (shift : ℕ) (jobs : List Written) → cut.jobs ≡ capped number →
    part_line asked cut last shift jobs ≡ part_line asked (record cut { jobs = number }) last shift jobs
line_counts asked cut number last shift jobs is =
    ap₂ (numbered asked cut last shift jobs)
    (ap (λ (n : ℕ). capped (n + 1)) is ∙ capped_more number 1)
    (ap (λ (n : ℕ). capped (n + length jobs)) is ∙ capped_more number (length jobs))

pub parts_count_on : PartsCountOn
parts_count_on asked past = record {
  moved = moved_on asked past;
  before = counted_after asked past;
  line = λ last shift jobs. line_counts asked (cut_after asked past) (jobs_of_parts asked past) last shift jobs (counted_after asked past);
}
