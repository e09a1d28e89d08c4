-- The fastest part, which is taken off the stack, and the search after it is finished or split.
use Rattle.yds_model.proofs.Common.{◌≡◌, ℕ, Bool, true, false, ◌*◌, ◌^◌, ◌<◌, ◌≤◌, List, [], ◌∷◌, ◌++◌, ◌∙◌, length, map, sym, ap, subst, arith, All, sum_by, length-map, length-append, map_push, Job}
use Rattle.yds_timetable.specs.Shares.{JobShare}
use Rattle.yds_search.specs.declared.filling.Cell.{Cell}
use Rattle.yds_search.specs.declared.own.Own.{Own}
use Rattle.yds_search.specs.declared.own.OwnJob.{OwnJob}
use Rattle.yds_search.specs.declared.own.OwnStretch.{OwnStretch}
use Rattle.yds_search.specs.declared.stack.Size.{Size}
use Rattle.yds_search.specs.declared.search.Search.{Search}
use Rattle.yds_search.specs.declared.found.Group as groups
use Rattle.yds_search.specs.declared.found.TheConstants.{NO_GROUP}
use Rattle.yds_search.specs.Found.{Group, per_time, per_work}
use Rattle.yds_search.specs.Views.{found_view, group_view}
use Rattle.yds_search.specs.Numbers.{AreWritten}
use Rattle.yds_search.specs.Fill.{IsPart}
use Rattle.yds_search.specs.Closure.{AreMarksOf, AreClosing, AreRanks}
use Rattle.yds_search.specs.Cells.{rooms_of, shared_of, lates_of, IsFilled}
use Rattle.yds_search.specs.Own.{Part, HaveWindows, window_of, own_windows, wants_at, rooms_at, shares_by_number, full_shares, job_numbers, stretch_numbers}
use Rattle.yds_search.specs.Stack.{AreLaid, AreLast, staying_part, moving_part}
use Rattle.yds_search.specs.Waiting.{IsWaiting}
use Rattle.yds_search.specs.Search.{IsSearch, IsLaidOut}
use Rattle.yds_search.specs.Searching.{IsChosen, IsSearching}
use Rattle.yds_search.proofs.Filled.{windows_have, group_some, units_fit, rooms_some, single_laid_out, laid_out}
use Rattle.yds_search.proofs.Splits.{split_search}
use Rattle.yds_search.proofs.Finish.{finish_search}
use Rattle.yds_search.proofs.Laid.{last_part}

-- a part by what it has
pub same_part : (part : Part) (jobs : List OwnJob) (stretches : List OwnStretch) → jobs ≡ part.jobs → stretches ≡ part.stretches → part ≡ record { jobs = jobs; stretches = stretches }
same_part part jobs stretches same same' = grind arith

-- the chosen part by what the stack answers of it
abbrev pub chosen_as : (jobs : List Job) (size : Size) (search : Search) → IsChosen jobs size search → (own : Own) →
    ((parts : List Part) (part : Part) → AreLast parts part size search.stack → own.jobs.now ≡ part.jobs) →
    ((parts : List Part) (part : Part) → AreLast parts part size search.stack → own.stretches.now ≡ part.stretches) → IsChosen jobs size search
chosen_as jobs size search x own jobs_are stretches_are =
    let same = same_part x.part own.jobs.now own.stretches.now (jobs_are x.parts x.part x.last) (stretches_are x.parts x.part x.last) in
    record {
      windows = x.windows;
      parts = x.parts;
      part = record { jobs = own.jobs.now; stretches = own.stretches.now };
      instance = x.instance;
      groups = subst (λ (part : Part). IsSearch jobs x.windows (found_view search.found) (part ∷ x.parts)) same x.groups;
      last = subst (λ (part : Part). AreLast x.parts part size search.stack) same x.last;
    }

module _ (jobs : List Job) (size : Size) (search : Search) (x : IsChosen jobs size search) where
  pub chosen_waits : IsWaiting jobs x.windows (found_view search.found) x.part
  chosen_waits = x.groups.waiting.0

  -- it has no more jobs and stretches than there are
  pub chosen_few : (length x.part.jobs ≤ 4000) × (length x.part.stretches ≤ 8000)
  chosen_few = grind (arith, length-append)

  -- and its jobs have places for their windows
  pub chosen_windows : HaveWindows (length x.part.stretches) x.part.jobs
  chosen_windows = windows_have jobs x.windows (found_view search.found) x.part x.instance chosen_waits

  -- there is room for another group
  pub chosen_room : length search.found.groups.items < NO_GROUP
  chosen_room = omega (arith, x.groups.few_groups, x.instance.few_stretches, length-map search.found.groups.items group_view)

  -- its numbers are known to what is found
  pub chosen_known : All (λ own. own.job < length search.found.group_of_job.items) x.part.jobs × All (λ own. own.stretch < length search.found.group_of_stretch.items) x.part.stretches
  chosen_known = grind arith

  module _ (group : groups.Group) (work : group.work ≡ sum_by (λ own. own.work) x.part.jobs) (length_is : group.length ≡ sum_by (λ own. own.length) x.part.stretches) where
    pub chosen_some : (1 ≤ group.work) × (1 ≤ group.length)
    chosen_some = group_some jobs x.windows (found_view search.found) x.part x.instance chosen_waits (group_view group) work length_is

    -- and all units fit
    pub chosen_units : All (λ own. per_time (group_view group) * own.length < 2 ^ 64) x.part.stretches × All (λ own. per_work (group_view group) * own.work < 2 ^ 64) x.part.jobs
    chosen_units = units_fit jobs x.windows (found_view search.found) x.part x.instance chosen_waits (group_view group) work length_is chosen_few.0 chosen_few.1

    -- and there is room in each stretch
    pub chosen_rooms_some : All (λ own. 1 ≤ per_time (group_view group) * own.length) x.part.stretches
    chosen_rooms_some = rooms_some jobs x.windows (found_view search.found) x.part x.instance chosen_waits (group_view group) work length_is

    -- a single job gets all units of each stretch
    pub chosen_single : length x.part.jobs ≡ 1 → IsLaidOut jobs x.windows x.part (group_view group) (full_shares (per_time (group_view group)) x.part.jobs x.part.stretches)
    chosen_single = single_laid_out jobs x.windows (found_view search.found) x.part x.instance chosen_waits (group_view group) work length_is

    -- it is finished
    pub chosen_finished : (new : Search) (own_shares : List JobShare) → IsLaidOut jobs x.windows x.part (group_view group) own_shares → AreLaid x.parts new.stack → new.found.groups.items ≡ search.found.groups.items ++ group ∷ [] →
        new.found.shares.items ≡ search.found.shares.items ++ own_shares →
        AreWritten (λ j value. value ≡ length search.found.groups.items) (job_numbers x.part.jobs) (length x.part.jobs) search.found.group_of_job.items new.found.group_of_job.items →
        AreWritten (λ k value. value ≡ length search.found.groups.items) (stretch_numbers x.part.stretches) (length x.part.stretches)
        search.found.group_of_stretch.items new.found.group_of_stretch.items → IsSearching jobs new
    chosen_finished new own_shares is laid groups shares_are jobs_written stretches_written =
        let old = found_view search.found in
        let count = sym (length-map search.found.groups.items group_view) in
        let ended = finish_search jobs x.windows old x.part x.parts x.instance x.groups (group_view group) own_shares
        is new.found.group_of_job.items new.found.group_of_stretch.items
        (subst (λ (n : ℕ). AreWritten (λ j value. value ≡ n) (job_numbers x.part.jobs) (length x.part.jobs) search.found.group_of_job.items new.found.group_of_job.items) count jobs_written)
        (subst (λ (n : ℕ). AreWritten (λ k value. value ≡ n) (stretch_numbers x.part.stretches) (length x.part.stretches) search.found.group_of_stretch.items
        new.found.group_of_stretch.items) count stretches_written) in
        record {
          windows = x.windows;
          parts = x.parts;
          instance = x.instance;
          groups = subst (λ (xs : List Group). IsSearch jobs x.windows (record {
            groups = xs;
            group_of_job = new.found.group_of_job.items;
            group_of_stretch = new.found.group_of_stretch.items;
            shares = new.found.shares.items;
          }) x.parts)
              (sym (ap (map group_view) groups ∙ map_push group_view search.found.groups.items group))
              (subst (λ (xs : List JobShare). IsSearch jobs x.windows (record {
                groups = old.groups ++ group_view group ∷ [];
                group_of_job = new.found.group_of_job.items;
                group_of_stretch = new.found.group_of_stretch.items;
                shares = xs;
              }) x.parts) (sym shares_are) ended);
          laid = laid;
        }

    module _ (kept : List JobShare) (cells : List Cell) (late : Bool) (filled : IsFilled (own_windows x.part.jobs) (wants_at (per_work (group_view group)) x.part.jobs)
        (rooms_at (per_time (group_view group)) x.part.stretches) late kept cells) where
      pub chosen_cells : length cells ≡ length x.part.stretches
      chosen_cells = sym (length-map cells (λ cell. cell.room)) ∙ filled.fill.same_rooms ∙ length-map x.part.stretches (λ own. per_time (group_view group) * own.length)

      -- where nobody is late each share is of a job in a stretch of its window
      pub chosen_parts : late ≡ false → All (IsPart (own_windows x.part.jobs) (length x.part.jobs) (length x.part.stretches)) kept
      chosen_parts served = rw (filled.keeps served) (λ i d within.
          rw (sym (length-map x.part.jobs window_of), sym (length-map x.part.stretches (λ own. per_time (group_view group) * own.length))) (filled.fill.taken.parts i d within))

      -- and it is laid out
      pub chosen_laid_out : late ≡ false → IsLaidOut jobs x.windows x.part (group_view group) (shares_by_number x.part.jobs x.part.stretches kept)
      chosen_laid_out served = rw (filled.keeps served) (laid_out jobs x.windows (found_view search.found) x.part x.instance chosen_waits (group_view group) work length_is filled.shares filled.left
          (rooms_of cells) filled.fill (filled.none served))

      -- else it is split
      pub chosen_split : (new : Search) (marks ranks : List ℕ) → late ≡ true → AreMarksOf (lates_of cells) (shared_of cells) (length cells) marks →
          length marks ≡ length cells → All (λ mark. mark ≤ 1) marks → AreRanks marks ranks →
          AreLaid (moving_part marks ranks x.part ∷ staying_part marks ranks x.part ∷ x.parts) new.stack → found_view new.found ≡ found_view search.found → IsSearching jobs new
      chosen_split new marks ranks is_late are count small ranked laid same =
          let closing : AreClosing (own_windows x.part.jobs) filled.left filled.shares (length (rooms_of cells)) marks = rw filled.fill.same_rooms record {
            late = lates_of cells;
            shared = shared_of cells;
            lates = filled.lates;
            shareds = filled.shareds;
            are = subst (λ (m : ℕ). AreMarksOf (lates_of cells) (shared_of cells) m marks) (sym (length-map cells (λ cell. cell.room)) ∙ filled.fill.same_rooms) are;
          } in
          record {
            windows = x.windows;
            parts = moving_part marks ranks x.part ∷ staying_part marks ranks x.part ∷ x.parts;
            instance = x.instance;
            groups = rw same (split_search jobs x.windows (found_view search.found) x.part x.instance chosen_waits (group_view group) work length_is filled.shares filled.left (rooms_of cells)
                filled.fill marks ranks closing (count ∙ chosen_cells) small ranked (filled.some is_late) x.parts x.groups);
            laid = laid;
          }

-- the part on top of the stack is the fastest, when its size is taken off
pub choose : (jobs : List Job) (size : Size) (search new : Search) → IsSearching jobs search → search.stack.sizes.items ≡ new.stack.sizes.items ++ size ∷ [] →
    new.stack.jobs ≡ search.stack.jobs → new.stack.stretches ≡ search.stack.stretches → new.found ≡ search.found → IsChosen jobs size new
choose jobs size search new x sizes same same' found = grind (arith, last_part)
