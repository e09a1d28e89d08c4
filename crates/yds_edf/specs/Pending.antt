-- The units of jobs, and which of them are pending. With the grain G a unit is one part in G of a unit of work.
use Rattle.std.specs.Prelude.{ℕ, ◌-◌, ◌*◌, nat_le, Bool, false, if◌then◌else◌, List, Option, Some, None}
use Rattle.yds_model.specs.Job.{Job, job_at}

-- the units that a job wants
abbrev pub units_wanted : List Job → ℕ → ℕ → ℕ
units_wanted jobs grain number = (job_at jobs number).work * grain

-- a time is at most the last time of arrival, where there is one
abbrev pub is_within : Option ℕ → ℕ → Bool
is_within None time = false
is_within (Some last) time = nat_le time last

-- a job has arrived where it was released by the last time of arrival
abbrev pub has_arrived : Option ℕ → Job → Bool
has_arrived last job = is_within last job.release

-- the units of a job that are pending: those of an arrived job that weren't served
abbrev pub pending_of_job : List Job → ℕ → Option ℕ → (ℕ → ℕ) → ℕ → ℕ
pending_of_job jobs grain time served number =
    if has_arrived time (job_at jobs number) then units_wanted jobs grain number - served number else 0
