-- A group's own jobs and stretches, by place in the group, and what stands for them by number.
use Rattle.std.specs.Prelude.{ℕ, ◌*◌, ◌<◌, ◌≤◌, List, map, slice_index}
use Rattle.std.specs.List.{All}
use Rattle.yds_events.specs.declared.window.Window.{Window}
use Rattle.yds_timetable.specs.Shares.{JobShare}
use Rattle.yds_search.specs.declared.own.OwnJob.{OwnJob}
use Rattle.yds_search.specs.declared.own.OwnStretch.{OwnStretch}

-- the numbers of the jobs and of the stretches
abbrev pub job_numbers : List OwnJob → List ℕ
job_numbers jobs = map (λ own. own.job) jobs

abbrev pub stretch_numbers : List OwnStretch → List ℕ
stretch_numbers stretches = map (λ own. own.stretch) stretches

-- the jobs' windows, by place
abbrev pub window_of : OwnJob → Window
window_of own = record { first = own.first; end = own.end }

abbrev pub own_windows : List OwnJob → List Window
own_windows jobs = map window_of jobs

-- each has a stretch, of m
abbrev pub HaveWindows : ℕ → List OwnJob → Type 0
HaveWindows m jobs = All (λ own. (own.first < own.end) × (own.end ≤ m)) jobs

-- what the jobs want and what room the stretches have, in units
abbrev pub wants_at : ℕ → List OwnJob → List ℕ
wants_at per_work jobs = map (λ own. per_work * own.work) jobs

abbrev pub rooms_at : ℕ → List OwnStretch → List ℕ
rooms_at per_time stretches = map (λ own. per_time * own.length) stretches

-- a share by place, as a share by number
abbrev pub share_by_number : List OwnJob → List OwnStretch → JobShare → JobShare
share_by_number jobs stretches share = record {
  job = slice_index (job_numbers jobs) share.job;
  stretch = slice_index (stretch_numbers stretches) share.stretch;
  units = share.units;
}

abbrev pub shares_by_number : List OwnJob → List OwnStretch → List JobShare → List JobShare
shares_by_number jobs stretches shares = map (share_by_number jobs stretches) shares

-- the first job gets all units of each stretch
abbrev pub full_share : ℕ → List OwnJob → OwnStretch → JobShare
full_share per_time jobs own = record { job = slice_index (job_numbers jobs) 0; stretch = own.stretch; units = per_time * own.length }

abbrev pub full_shares : ℕ → List OwnJob → List OwnStretch → List JobShare
full_shares per_time jobs stretches = map (full_share per_time jobs) stretches

-- the jobs and stretches of a group
pub record Part : Type 0 where
  pub jobs : List OwnJob
  pub stretches : List OwnStretch
