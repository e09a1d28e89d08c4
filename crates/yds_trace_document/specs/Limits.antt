-- For which a document isn't written: the limits of the format, speeds that are too coarse, and jobs that had to be left out.
use Rattle.std.specs.Prelude.{ℕ, ◌+◌, ◌-◌, ◌*◌, ◌/◌, List, [], ◌∷◌, map, get_or, length, max, not, Bool, true, false, ◌==◌, ◌&&◌, ◌||◌, nat_lt, if◌then◌else◌, Option, Some, None, is_some, option_map, position, unwrap_or}
use Rattle.std.specs.List.{list_any}
use Rattle.base.specs.declared.limits.TheConstants.{MAX_JOBS, MAX_SLOTS, MAX_TIME, MAX_WORK, MAX_RUN_SPEED, MAX_NAME}
use Rattle.yds_kernel.specs.Parts.{capped, or_else}
use Rattle.yds_trace.specs.declared.job.Stretch.{Stretch}
use Rattle.yds_trace.specs.declared.reason.Reason.{Reason}
use Rattle.yds_trace.specs.declared.reason.Reason.TheVariants as reasons
use Rattle.yds_trace.specs.WrittenTime.{Units, Run, written_time, written_speed, is_coarse}
use Rattle.yds_trace.specs.Document.{Judged, stands, Written}
use Rattle.yds_trace_document.specs.declared.fault.DocumentFault.{DocumentFault}
use Rattle.yds_trace_document.specs.declared.fault.DocumentFault.TheVariants as faults
use Rattle.yds_trace_document.specs.LeftOut.{most_left_out}
use Rattle.yds_trace_document.specs.Settled.{Settled}

-- the fault where the test holds
abbrev pub fault_if : Bool → DocumentFault → Option DocumentFault
fault_if test fault = if test then Some fault else None

-- # The limits of the format

abbrev pub is_long_name : Written → Bool
is_long_name job = nat_lt MAX_NAME (length job.name)

abbrev pub ends_late : Run → Bool
ends_late run = nat_lt MAX_TIME run.to

-- its deadline, or the end of one of its runs, is above the greatest time of a document
abbrev pub is_beyond : Written → Bool
is_beyond job = nat_lt MAX_TIME job.deadline || list_any ends_late job.runs

abbrev pub is_heavy : Written → Bool
is_heavy job = nat_lt MAX_WORK job.work

-- # Units for a work that is too great

abbrev pub works_of : List Written → List ℕ
works_of jobs = map (λ job. job.work) jobs

abbrev pub greatest : List ℕ → ℕ
greatest [] = 0
greatest (number ∷ numbers) = max number (greatest numbers)

-- The least multiple of the unit of time in which so much work is no more than a job may have, in microseconds. The unit of speed stays.
abbrev pub unit_for : Units → ℕ → ℕ
unit_for units work = capped (units.time / 1000 * ((work - 1) / MAX_WORK + 1))

-- That the job at a place has so much work, and a unit that serves for the greatest work of all. Works are told as far as 64 bits tell them.
abbrev pub too_heavy : Units → ℕ → ℕ → ℕ → DocumentFault
too_heavy units place work most = faults.WorkTooGreat place (capped work) (unit_for units (capped most))

abbrev pub work_fault : Units → List Written → ℕ → DocumentFault
work_fault units jobs place = too_heavy units place (get_or (works_of jobs) place 0) (greatest (works_of jobs))

-- # Speeds

abbrev pub is_in_a_run : Units → Stretch → Bool
is_in_a_run units stretch = nat_lt (written_time units stretch.from) (written_time units stretch.to)

-- 0, or by more than a twentieth off in its unit
abbrev pub has_coarse_speed : Units → Stretch → Bool
has_coarse_speed units stretch = is_in_a_run units stretch && is_coarse units (unwrap_or stretch.khz 0)

abbrev pub has_great_speed : Units → Stretch → Bool
has_great_speed units stretch = is_in_a_run units stretch && nat_lt MAX_RUN_SPEED (written_speed units (unwrap_or stretch.khz 0))

abbrev pub runs_coarsely : Units → Judged → Bool
runs_coarsely units judged = stands judged && list_any (has_coarse_speed units) judged.job.stretches

abbrev pub runs_too_fast : Units → Judged → Bool
runs_too_fast units judged = stands judged && list_any (has_great_speed units) judged.job.stretches

-- # Jobs that are left out

-- for `from` or `to`
abbrev pub is_asked_for : Option Reason → Bool
is_asked_for (Some reasons.BeforeFrom) = true
is_asked_for (Some reasons.AfterTo) = true
is_asked_for _ = false

-- A job that doesn't stand as it is, where that isn't for `from` or `to`, or where it is late; or one with which its thread was over.
abbrev pub is_missed : Judged → Bool
is_missed judged = if stands judged then judged.job.exited else (is_some judged.late || not (is_asked_for judged.reason))

-- # The first fault

-- Places count from 0: of a job among those written, or among all that are judged, in order of begin. Names are told before times,
-- and times before works.
abbrev pub job_fault : Units → List Written → Option DocumentFault
job_fault units jobs =
    or_else (option_map (λ place. faults.NameTooLong place) (position is_long_name jobs))
    (or_else (option_map (λ place. faults.TimeTooGreat place) (position is_beyond jobs))
    (option_map (work_fault units jobs) (position is_heavy jobs)))

abbrev pub speed_fault : Units → List Judged → Option DocumentFault
speed_fault units judged =
    or_else (option_map (λ place. faults.SpeedTooCoarse place) (position (runs_coarsely units) judged))
    (option_map (λ place. faults.SpeedTooGreat place) (position (runs_too_fast units) judged))

abbrev pub missed_fault : List Judged → Option DocumentFault
missed_fault judged = option_map (λ place. faults.Missed place) (position is_missed judged)

-- It isn't known of a job whether it is late.
abbrev pub unsure_fault : List Judged → Option DocumentFault
unsure_fault judged = option_map (λ place. faults.NotKnown place) (position (λ one. one.unsure) judged)

-- Of each job it has to be known whether it is late, and with `strict` none may be missed.
abbrev pub late_fault : Bool → List Judged → Option DocumentFault
late_fault strict judged = or_else (unsure_fault judged) (if strict then missed_fault judged else None)

-- A document without a job is feasible, so none is written; why most jobs aren't is told.
abbrev pub limit_fault : Bool → Settled → Option DocumentFault
limit_fault strict settled =
    or_else (fault_if (nat_lt MAX_JOBS (length settled.document.jobs)) faults.TooManyJobs)
    (or_else (fault_if (nat_lt MAX_SLOTS (length settled.document.runs)) faults.TooManyRuns)
    (or_else (job_fault settled.units settled.document.jobs)
    (or_else (speed_fault settled.units settled.judged)
    (or_else (fault_if (length settled.document.jobs == 0) (faults.NoJob (most_left_out settled.judged)))
    (late_fault strict settled.judged)))))
