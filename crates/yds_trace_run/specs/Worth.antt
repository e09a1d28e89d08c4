-- What was written of a trace, as one document or as documents in parts, is worth to whoever reads it: no late job is hidden, it is read again, it is
-- faithful to the trace, and parts are the whole.
use Rattle.std.specs.Prelude.{◌≡◌, ◌≢◌, ℕ, ⊤, List, ◌++◌, filter, Bool, true, false, Option, Some, None, Result, Ok, IfSome}
use Rattle.std.specs.List.{All}
use Rattle.yds_kernel.specs.Event.{Said}
use Rattle.yds_kernel_order.specs.Order.{order_of}
use Rattle.yds_trace.specs.Asked.{Asked, on}
use Rattle.yds_trace.specs.declared.reason.Reason.TheVariants as reasons
use Rattle.yds_trace.specs.Document.{Judged, jobs_of, has_run_on, all_judged, units_of}
use Rattle.yds_trace.specs.Parts.{belongs, processors_of}
use Rattle.yds_trace_laws.specs.Processors.{BelongsTo, HasItsShare, AreTheSame}
use Rattle.yds_trace_bounds.specs.declared.bounds.Bounds.{Bounds}
use Rattle.yds_trace_bounds.specs.Bounds.{asked_in}
use Rattle.yds_trace_again.specs.Again.{IsReadAgain}
use Rattle.yds_trace_again.specs.Worth.{IsFaithfulText, NothingLate}
use Rattle.yds_trace_reading.specs.LineFault.{past_of}
use Rattle.yds_trace_words.specs.Words.{WordFault}
use Rattle.yds_trace_words.specs.Request.{Request, ReadTrace}
use Rattle.yds_trace_whole.specs.Parts.{parts_of, written_parts, parts_on, judged_in_parts}
use Rattle.yds_trace_whole.specs.Whole.{whole_document, put_together}
use Rattle.yds_trace_whole.specs.Worth.{NothingLateInTexts, ArePartsReadAgain, AreFaithfulPieces}

-- # Jobs that moved

-- It is not left out for having moved, where it ran on this processor.
abbrev pub HasNotMoved : ℕ → Judged → Type 0
HasNotMoved processor judged = has_run_on processor judged.job ≡ true → judged.reason ≢ Some reasons.Moved

-- It has nothing that it ran elsewhere, where it ran on this processor.
abbrev pub HasOnlyItsOwn : ℕ → Judged → Type 0
HasOnlyItsOwn processor judged = has_run_on processor judged.job ≡ true → All (λ stretch. stretch.processor ≡ processor) judged.job.stretches

-- Each stretch of a task's job is in the job as the documents of its processor have it, and in those of no other where it ran on that too.
-- And no processor leaves out a job for having moved that ran on it.
pub record AreSharedOut (asked : Asked) (past : List Said) : Type 0 where
  pub shares : (number : ℕ) → All (λ job. All (HasItsShare asked past number job) job.stretches) (jobs_of asked past number)
  pub only_own : (processor : ℕ) → All (HasOnlyItsOwn processor) (all_judged (on processor asked) past)
  pub none_moved : (processor : ℕ) → All (HasNotMoved processor) (all_judged (on processor asked) past)

-- That is so where it is asked for.
abbrev pub AreSharedIfAsked : Asked → List Said → Type 0
AreSharedIfAsked asked past = asked.moved_parts ≡ true → AreSharedOut asked past

-- # The whole

-- The text is read again as the one document, and where what a job ran is shared out among the processors, none of it is lost.
pub record IsWhole (asked : Asked) (past : List Said) (text : List ℕ) : Type 0 where
  pub read : IsReadAgain asked past text
  pub shared : AreSharedIfAsked asked past

-- Of the parts that are written, those of this processor are its parts by itself. Their jobs, one part after another, are those of the whole trace
-- that belong to it; and put together, they are the one document that it would have without limits.
pub record AreTheWhole (asked : Asked) (past : List Said) (processor : ℕ) : Type 0 where
  pub own : parts_on processor (written_parts asked past) ≡ parts_of (on processor asked) past
  pub same_jobs : judged_in_parts (parts_of (on processor asked) past) ≡ filter (belongs (on processor asked)) (all_judged (on processor asked) past)
  pub same_document : put_together (parts_of (on processor asked) past) ≡ whole_document (on processor asked) past

-- The text has all parts, each of which is read again, and it is so of each processor. On each the same jobs are judged, and each job belongs to one.
pub record AreWhole (asked : Asked) (past : List Said) (text : List ℕ) : Type 0 where
  pub read : ArePartsReadAgain (written_parts asked past) text
  pub each : All (AreTheWhole asked past) (processors_of asked past)
  pub same_jobs : (processor : ℕ) → AreTheSame asked past processor
  pub shared : AreSharedIfAsked asked past
  pub belong : All (λ judged. BelongsTo asked judged (processors_of asked past)) (all_judged asked past)

-- # By whether it is told in parts

abbrev pub HidesNothing : Bool → Asked → List Said → List ℕ → Type 0
HidesNothing false asked past text = NothingLate asked past text
HidesNothing true asked past text = NothingLateInTexts asked past (written_parts asked past) text

abbrev pub IsReadSo : Bool → Asked → List Said → List ℕ → Type 0
IsReadSo false asked past text = IsReadAgain asked past text
IsReadSo true asked past text = ArePartsReadAgain (written_parts asked past) text

abbrev pub IsFaithfulSo : Bool → Asked → List Said → List ℕ → Type 0
IsFaithfulSo false asked past text = IsFaithfulText asked (units_of asked past) (all_judged asked past) text
IsFaithfulSo true asked past text = AreFaithfulPieces asked past (written_parts asked past) text

abbrev pub IsWholeSo : Bool → Asked → List Said → List ℕ → Type 0
IsWholeSo false asked past text = IsWhole asked past text
IsWholeSo true asked past text = AreWhole asked past text

-- # All of it

-- What a text that tells these lines is worth.
pub record IsWorth (asked : Asked) (past : List Said) (text : List ℕ) : Type 0 where
  -- Where what the text is read as is feasible, or what each part of it is, each job that is known to be late is late by less than a unit of time,
  -- and a comment names it.
  pub nothing_late : HidesNothing asked.in_parts asked past text
  -- It is read again by the definition of documents, within the limits, as just its jobs and its runs, in their order; in parts, each part is.
  pub read_again : IsReadSo asked.in_parts asked past text
  -- No job and no run of what it is read as is invented: each run is stretches of time that the trace shows of its job. And none is missing.
  pub faithful : IsFaithfulSo asked.in_parts asked past text
  -- It is the whole. One document is that of the trace. In parts, no part is missing; one that was written long ago says of its jobs what the whole
  -- trace says of them; and put together they are the one document that the trace would have without limits. Where what a job ran is shared out
  -- among the processors, none of it is lost.
  pub whole : IsWholeSo asked.in_parts asked past text

-- # Of a run

-- Something is asked within bounds, and this holds of it.
abbrev pub HoldsWithin : Option Asked → (Asked → Type 0) → Type 0
HoldsWithin (Some asked) Q = Q asked
HoldsWithin None Q = ⊥

-- Where a trace is asked for and its bytes are known, something is asked within the bounds, and this holds of it and of the trace's lines.
abbrev pub OfTrace : Result Request WordFault → Option (List ℕ) → (Asked → Bool → List Said → Type 0) → Type 0
OfTrace request input Q = (asked : Asked) (bounds : Bounds) (strict : Bool) → request ≡ Ok (ReadTrace asked bounds strict)
    → IfSome input (λ bytes. HoldsWithin (asked_in bounds asked (order_of bytes)) (λ within. Q within strict (past_of (order_of bytes))))

-- Of a sink that tells its bytes: this holds of what was written behind those that it had.
abbrev pub OfAppended : Option (List ℕ) → Option (List ℕ) → (List ℕ → Type 0) → Type 0
OfAppended (Some old) (Some new) P = (text : List ℕ) → new ≡ old ++ text → P text
OfAppended old new P = ⊤
