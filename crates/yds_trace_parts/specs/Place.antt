-- Where a part may end, by what is shown: one walk over the waiting jobs in order of begin.
use Rattle.std.specs.Prelude.{ℕ, ◌+◌, List, [], ◌∷◌, max, Bool, false, not, ◌&&◌, ◌||◌, nat_lt, nat_le, if◌then◌else◌, Option, Some, None, option_map}
use Rattle.std.specs.List.{find, list_any}
use Rattle.yds_kernel.specs.Parts.{or_else}
use Rattle.yds_trace.specs.declared.job.End.{End}
use Rattle.yds_trace.specs.declared.job.End.TheVariants as ends
use Rattle.yds_trace.specs.declared.shown.Shown.{Shown}
use Rattle.yds_trace.specs.Asked.{Asked, task_at}
use Rattle.yds_trace.specs.Document.{Judged, stands}
use Rattle.yds_trace.specs.Parts.{is_over, is_written, is_own}
use Rattle.yds_trace_document.specs.declared.judged.Judged.{Judged as JudgedKept}
use Rattle.yds_trace_document.specs.Kept.{last_of}
use Rattle.yds_trace_document.specs.Views.{judged_read}
use Rattle.yds_trace_parts.specs.Told.{first_of}
use Rattle.yds_trace_parts.specs.declared.place.Front.{Front as FrontKept}
use Rattle.yds_trace_parts.specs.declared.place.Places.{Places as PlacesKept}

abbrev pub judged_option : Option JudgedKept → Option Judged
judged_option judged = option_map judged_read judged

abbrev pub is_settled : Asked → Shown → Judged → Bool
is_settled asked shown judged =
    is_over (last_of asked.to shown.last) judged.due judged.job.end
    && nat_le (judged.job.begin + (task_at asked judged.task).apart) shown.last

-- # What is known of the jobs that begin before a time

pub record Front : Type 0 where
  pub some : Bool
  -- one of them is to be written here, or none of all that wait is
  pub own : Bool
  pub done : Option ℕ
  pub due : ℕ

abbrev pub front_read : FrontKept → Front
front_read front = record { some = front.some; own = front.own; done = front.done; due = front.due }

abbrev pub end_of : End → Option ℕ
end_of (ends.Ended end) = Some end
end_of _ = None

abbrev pub done_from : Bool → Judged → Option ℕ
done_from settled judged = if settled then (if stands judged then end_of judged.job.end else Some 0) else None

abbrev pub both : Option ℕ → Option ℕ → Option ℕ
both None second = None
both (Some first) None = None
both (Some first) (Some second) = Some (max first second)

abbrev pub with_job : Asked → Bool → Judged → Front → Front
with_job asked settled judged front = record {
  some = front.some || (asked.everywhere || is_written judged);
  own = front.own || is_own asked judged;
  done = both front.done (done_from settled judged);
  due = if is_own asked judged then max front.due judged.due else front.due;
}

-- that time has come
abbrev pub has_come : ℕ → Option ℕ → Bool
has_come time None = false
has_come time (Some done) = nat_le done time

abbrev pub is_quiet_at : ℕ → Front → Bool
is_quiet_at time front = front.some && has_come time front.done

-- # Places

pub record Places : Type 0 where
  pub quiet : Option ℕ
  pub closed : Option ℕ

abbrev pub places_read : PlacesKept → Places
places_read places = record { quiet = places.quiet; closed = places.closed }

abbrev pub with_place : Front → ℕ → Places → Places
with_place front time places =
    if is_quiet_at time front
    then record { quiet = Some time; closed = if front.own && nat_le front.due time then Some time else places.closed } else places

-- # The walk

pub record Walk : Type 0 where
  pub front : Front
  pub places : Places
  -- the last begin, or 0
  pub before : ℕ

-- before these jobs
abbrev pub start : Asked → List Judged → Walk
start asked jobs = record {
  front = record { some = false; own = not (list_any (is_own asked) jobs); done = Some 0; due = 0 };
  places = record { quiet = None; closed = None };
  before = 0;
}

-- Jobs that begin together are before none of each other.
abbrev pub stepped : Asked → Bool → Judged → Walk → Walk
stepped asked settled judged at = record {
  front = with_job asked settled judged at.front;
  places = if nat_lt at.before judged.job.begin then with_place at.front judged.job.begin at.places else at.places;
  before = if nat_lt at.before judged.job.begin then judged.job.begin else at.before;
}

abbrev pub walk : Asked → Shown → List Judged → Walk → Walk
walk asked shown [] at = at
walk asked shown (judged ∷ jobs) at = walk asked shown jobs (stepped asked (is_settled asked shown judged) judged at)

abbrev pub places_shown : Asked → Shown → List Judged → Places
places_shown asked shown jobs = (walk asked shown jobs (start asked jobs)).places

-- # The job that has been open longest

abbrev pub open_shown : Asked → Shown → List Judged → Option Judged
open_shown asked shown waiting = or_else (find (λ judged. not (is_settled asked shown judged)) waiting) (first_of waiting)
