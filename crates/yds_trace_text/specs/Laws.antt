-- What follows from the definition of the text: each job that was asked for has its place, and the head lines of parts count jobs.
use Rattle.std.specs.Prelude.{◌≡◌, ℕ, ◌+◌, List, [], ◌∷◌, length, sum_by, count_by, Bool, Option, Some, None}
use Rattle.yds_kernel.specs.Event.{Said}
use Rattle.yds_kernel.specs.Parts.{capped}
use Rattle.yds_trace.specs.declared.cut.Cut.{Cut}
use Rattle.yds_trace.specs.Asked.{Asked}
use Rattle.yds_trace.specs.Document.{stands, is_left_out, all_judged, Written, written_jobs}
use Rattle.yds_trace.specs.Parts.{place_of, cut_at, cut_after}
use Rattle.yds_trace_document.specs.Settled.{judged_by_task}
use Rattle.yds_trace_document.specs.Part.{part_of}
use Rattle.yds_trace_text.specs.PartText.{part_line}
use Rattle.yds_trace_text.specs.Text.{Group, all_groups, is_cut_off, is_without_runs}

abbrev pub count_of : Group → ℕ
count_of group = group.count

-- Each job is written or left out. Written are those that stand as they are, and the late ones without their runs.
-- The groups of tasks and reasons, and what `from` and `to` cut off, are together all that are left out.
pub record HasPlaces (asked : Asked) (past : List Said) : Type 0 where
  pub each : length (written_jobs asked past) + count_by is_left_out (all_judged asked past) ≡ length (all_judged asked past)
  pub written : length (written_jobs asked past) ≡ count_by stands (all_judged asked past) + count_by is_without_runs (all_judged asked past)
  pub told : sum_by count_of (all_groups asked.tasks (judged_by_task asked past 0 asked.tasks)) + count_by is_cut_off (all_judged asked past)
      ≡ count_by is_left_out (all_judged asked past)

abbrev pub EveryJobHasItsPlace : Type 0
EveryJobHasItsPlace = (asked : Asked) (past : List Said) → HasPlaces asked past

-- # The jobs of parts

-- how many jobs the part has that ends at this time, if one is written
abbrev pub jobs_of_part : Asked → List Said → Cut → Option ℕ → ℕ
jobs_of_part asked past cut None = 0
jobs_of_part asked past cut (Some time) = length (part_of asked past cut (Some time)).document.jobs

-- how many jobs there are in all parts that are written up to the last of these lines
abbrev pub jobs_of_parts : Asked → List Said → ℕ
jobs_of_parts asked [] = 0
jobs_of_parts asked (said ∷ past) =
    jobs_of_part asked (said ∷ past) (cut_after asked past) (place_of asked (said ∷ past) (cut_after asked past)) + jobs_of_parts asked past

-- Behind any parts, one more moves the count on by the jobs of its document. So the head line of the next part counts on from all jobs before it.
pub record CountsOn (asked : Asked) (past : List Said) : Type 0 where
  pub moved : (cut : Cut) (time : ℕ) →
      (cut_at asked past cut (Some time)).jobs ≡ capped (cut.jobs + length (part_of asked past cut (Some time)).document.jobs)
  pub before : (cut_after asked past).jobs ≡ capped (jobs_of_parts asked past)
  pub line : (last : Bool) (shift : ℕ) (jobs : List Written) → part_line asked (cut_after asked past) last shift jobs
      ≡ part_line asked (record (cut_after asked past) { jobs = jobs_of_parts asked past }) last shift jobs

abbrev pub PartsCountOn : Type 0
PartsCountOn = (asked : Asked) (past : List Said) → CountsOn asked past
