-- What the jobs of a trace have to do with its processors.
use Rattle.std.specs.Prelude.{◌≡◌, ◌≢◌, ℕ, ◌<◌, ◌≤◌, List, [], map, filter, true, false, Some, None}
use Rattle.std.specs.List.{All, Contains}
use Rattle.yds_kernel.specs.Event.{Said}
use Rattle.yds_trace.specs.declared.cut.Cut.{Cut}
use Rattle.yds_trace.specs.Asked.{Asked, on}
use Rattle.yds_trace.specs.declared.job.Stretch.{Stretch}
use Rattle.yds_trace.specs.declared.reason.Reason.TheVariants as reasons
use Rattle.yds_trace.specs.Jobs.{Job}
use Rattle.yds_trace.specs.Document.{Judged, jobs_of, has_run_on, shares_of, all_judged}
use Rattle.yds_trace.specs.Past.{processor_count}
use Rattle.yds_trace.specs.Parts.{belongs, processors_of, cut_after}

-- # Which jobs there are

-- all but the reason, which differs from processor to processor
abbrev pub without_reason : Judged → Judged
without_reason judged = record judged { reason = None }

-- all but that reason, and what the job ran, of which each processor may have its part
abbrev pub whole_job : Judged → Judged
whole_job judged = record judged { part = None; reason = None; job = record judged.job { stretches = []; shared = false } }

-- On each processor the same jobs are judged, and the same is said of them but for the reason why one isn't written as it stands, and for what a
-- job that moved ran there, where the documents of each processor have that.
pub record AreTheSame (asked : Asked) (past : List Said) (processor : ℕ) : Type 0 where
  pub jobs : map whole_job (all_judged (on processor asked) past) ≡ map whole_job (all_judged asked past)
  pub stretches : asked.moved_parts ≡ false →
      map without_reason (all_judged (on processor asked) past) ≡ map without_reason (all_judged asked past)

abbrev pub JobsAreTheSame : Type 0
JobsAreTheSame = (asked : Asked) (past : List Said) (processor : ℕ) → AreTheSame asked past processor

-- # What a job that moved ran

-- Each stretch of a task's job is in the job as the documents of its processor have it.
pub record HasItsShare (asked : Asked) (past : List Said) (number : ℕ) (job : Job) (stretch : Stretch) : Type 0 where
  pub share : Job
  pub is_there : Contains (shares_of (on stretch.processor asked) past number) share
  pub begins : share.begin ≡ job.begin
  pub ends : share.end ≡ job.end
  pub has : Contains share.stretches stretch

abbrev pub SharesAreTheWhole : Type 0
SharesAreTheWhole = (asked : Asked) (past : List Said) (number : ℕ) →
    All (λ job. All (HasItsShare asked past number job) job.stretches) (jobs_of asked past number)

-- And where that is asked for, a job has there no stretch of another processor.
abbrev pub OnlyItsOwn : Type 0
OnlyItsOwn = (asked : Asked) (past : List Said) → asked.moved_parts ≡ true →
    All (λ judged. has_run_on asked.processor judged.job ≡ true → All (λ stretch. stretch.processor ≡ asked.processor) judged.job.stretches) (all_judged asked past)

-- So no job is left out for having moved that ran on the processor.
abbrev pub NoneHasMoved : Type 0
NoneHasMoved = (asked : Asked) (past : List Said) → asked.moved_parts ≡ true →
    All (λ judged. has_run_on asked.processor judged.job ≡ true → judged.reason ≢ Some reasons.Moved) (all_judged asked past)

-- # To which processors they belong

-- each stretch of the job is on a processor of which a line tells
abbrev pub RanWhereTold : List Said → Judged → Type 0
RanWhereTold past judged = All (λ stretch. stretch.processor < processor_count past) judged.job.stretches

abbrev pub EachRanWhereTold : Type 0
EachRanWhereTold = (asked : Asked) (past : List Said) → All (RanWhereTold past) (all_judged asked past)

-- One of these processors has the job.
pub record BelongsTo (asked : Asked) (one : Judged) (processors : List ℕ) : Type 0 where
  pub processor : ℕ
  pub is_there : Contains processors processor
  pub has : belongs (on processor asked) one ≡ true

-- Each job of the trace belongs to a processor that has documents.
abbrev pub EachJobBelongs : Type 0
EachJobBelongs = (asked : Asked) (past : List Said) → All (λ judged. BelongsTo asked judged (processors_of asked past)) (all_judged asked past)

-- # Processors of which no line tells

-- Nothing is written of them: no cut but in time.
pub record IsIdle (cut : Cut) : Type 0 where
  pub parts : cut.parts ≡ 0
  pub jobs : cut.jobs ≡ 0
  pub due : cut.due ≡ 0

-- On two processors of which no line tells, the same is said of each job, no job belongs to either, and as much is written of both: nothing.
pub record AreUnseen (asked : Asked) (past : List Said) (processor other : ℕ) : Type 0 where
  pub judged : all_judged (on processor asked) past ≡ all_judged (on other asked) past
  pub none : filter (belongs (on processor asked)) (all_judged (on processor asked) past) ≡ []
  pub cut : cut_after (on processor asked) past ≡ cut_after (on other asked) past
  pub idle : IsIdle (cut_after (on processor asked) past)

abbrev pub UnseenAreTheSame : Type 0
UnseenAreTheSame = (asked : Asked) (past : List Said) (processor other : ℕ) → asked.everywhere ≡ true → processor_count past ≤ processor → processor_count past ≤ other →
    AreUnseen asked past processor other
