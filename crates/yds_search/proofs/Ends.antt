-- When no group waits any more, all has been found.
use Rattle.yds_model.proofs.Common.{◌≡◌, ℕ, ◌<◌, ◌≤◌, List, [], length, ap, sym, inl, inr, arith, cases_lt, Job, job_at, stretches, stretch_at}
use Rattle.yds_events.specs.declared.window.Window.{Window}
use Rattle.yds_events.specs.Window.{IsInWindow}
use Rattle.yds_events.proofs.Neighbours.{stretch_forward, stretch_order}
use Rattle.yds_timetable.specs.Shares.{share_at, no_share}
use Rattle.yds_search.specs.Found.{Found, group_of, IsFound}
use Rattle.yds_search.specs.Instance.{IsInstance}
use Rattle.yds_search.specs.Search.{IsSearch}

-- a stretch that ends before another one of a job's window, and in which the job is released, is one of its window
in_window_before : (jobs : List Job) (j k k' : ℕ) → k < k' → k' < length (stretches jobs) → (job_at jobs j).release ≤ (stretch_at jobs k).from →
    IsInWindow jobs j k' → IsInWindow jobs j k
in_window_before jobs j k k' before within released inside =
    record { released = released; due = omega (arith, stretch_order jobs k k' before within, stretch_forward jobs k' within, inside.due) }

-- what the groups are in the end
pub search_ends : (jobs : List Job) (windows : List Window) (found : Found) → IsInstance jobs windows → IsSearch jobs windows found [] → IsFound jobs found
search_ends jobs windows found are search =
    let grouped : (j : ℕ) → j < length jobs → 1 ≤ (job_at jobs j).work → group_of found.group_of_job j < length found.groups =
    λ j known some. elim (search.with_work j known some) [ inl finished ↦ finished | inr none ↦ absurd none ] in
    record {
      all_jobs = search.all_jobs;
      all_stretches = search.all_stretches;
      with_work = grouped;
      idle = λ j known none. omega (arith, search.idle j known none, search.few_groups, are.few_stretches);
      some_work = λ i within. (search.finished.groups i within).some_work;
      some_length = λ i within. (search.finished.groups i within).some_length;
      works = λ i within. (search.finished.groups i within).work_is;
      lengths = λ i within. (search.finished.groups i within).length_is;
      order = search.finished.order;
      windows = λ j k known some within inside.
          search.finished.not_after j k (record { known = known; some = some; inside = (are.windows_are.are j k known within).1 inside }) (grouped j known some);
      shares = search.finished.shares;
      served = λ j known some. search.finished.served j known (grouped j known some);
      full = search.finished.full;
      in_order = λ x y before within same. (search.finished.together x y no_share before within).0 same;
      earliest = λ x y within within' same released before.
          let one = search.finished.shares x no_share within in
          let other = search.finished.shares y no_share within' in
          let inside = (are.windows_are.are (share_at found.shares x).job (share_at found.shares y).stretch one.known other.known_stretch).1
          (in_window_before jobs (share_at found.shares x).job (share_at found.shares y).stretch (share_at found.shares x).stretch before one.known_stretch released one.in_window) in
          elim (cases_lt x y) [
            | inl less ↦ ((search.finished.together x y no_share less within').1 same).0 inside before
            | inr more ↦ elim (cases_lt y x) [
              | inl less ↦ ((search.finished.together y x no_share less within).1 (sym same)).1 inside before
              | inr least ↦ let here : x ≡ y = omega (arith, more, least) in absurd (omega (arith, before, ap (λ i. (share_at found.shares i).stretch) here))
            ]
          ];
      few = omega (arith, search.few);
    }
