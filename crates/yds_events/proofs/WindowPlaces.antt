-- Windows are found by the places of releases and deadlines among the event points.
use Rattle.yds_model.proofs.Common.{◌≡◌, ℕ, ◌+◌, ◌*◌, ◌/◌, ◌<◌, List, length, get_or, map, arith, ap, All, range_with_len, length-map-range_with_len, get_or-map-range_with_len, Job, IsJob, job_at, event_points}
use Rattle.yds_events.specs.declared.window.Window.{Window}
use Rattle.yds_events.specs.Keys.{ends_of, IsAt, ArePlaces, window_from}
use Rattle.yds_events.specs.Window.{no_window, window_at, AreWindows}
use Rattle.yds_events.proofs.Times.{not_later, place_before, place_not_after, length_ends, release_end, deadline_end}
use Rattle.yds_events.proofs.Neighbours.{stretch_begins, stretch_ends, stretch_next, count_stretches}

-- a window from the place of the release to that of the deadline
record IsWindowOf (jobs : List Job) (job : Job) (window : Window) : Type 0 where
  first : IsAt (event_points jobs) job.release window.first
  end : IsAt (event_points jobs) job.deadline window.end

-- each job's window is found
windows_found : (jobs : List Job) (windows : List Window) → All IsJob jobs → length windows ≡ length jobs →
    ((j : ℕ) → j < length jobs → IsWindowOf jobs (job_at jobs j) (window_at windows j)) → AreWindows jobs windows
windows_found jobs windows are count found = grind (arith, count_stretches, not_later, place_before, place_not_after, stretch_begins, stretch_ends, stretch_next)

-- from the places of their releases and deadlines among the event points
pub windows_placed : (jobs : List Job) (points places : List ℕ) (windows : List Window) → All IsJob jobs → points ≡ event_points jobs →
    ArePlaces (ends_of jobs) points places → windows ≡ map (window_from places) (range_with_len 0 (length places / 2)) → AreWindows jobs windows
windows_placed jobs points places windows are cut placed is =
    let half : length places / 2 ≡ length jobs = omega (arith, placed.all, length_ends jobs) in
    let at : (number : ℕ) → number < 2 * length jobs → IsAt (event_points jobs) (get_or (ends_of jobs) number 0) (get_or places number 0) =
    λ number within. rw cut at (placed.each number (omega (arith, length_ends jobs))) in
    windows_found jobs windows are (omega (arith, ap (λ (ws : List Window). length ws) is, length-map-range_with_len (window_from places) 0 (length places / 2), half))
    (λ j known. rw (is, get_or-map-range_with_len (window_from places) 0 (length places / 2) j j no_window (omega arith) (omega arith)) (record {
      first = rw (← release_end jobs j known) (at (2 * j) (omega arith));
      end = rw (← deadline_end jobs j known) (at (2 * j + 1) (omega arith));
    }))
