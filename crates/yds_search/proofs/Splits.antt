-- A part with late jobs is split in two: the faster part has what they close upon.
use Rattle.yds_model.proofs.Common.{◌≡◌, ℕ, ◌+◌, ◌-◌, ◌*◌, ◌<◌, ◌≤◌, ◌⊎◌, Bool, true, false, not, List, [], ◌∷◌, ◌∙◌, length, get_or, refl, sym, ap, subst, inl, inr, eq-eqb, arith, All, filter, sum_by, cases_lt, ne_eqb, true≢false, not_from_false, get_or-map, length-map, length-append, All-cons, All-weaker, All-map, All-from_get_or, AllPairs-filter, Job, sum_by_zero}
use Rattle.yds_events.specs.declared.window.Window.{Window}
use Rattle.yds_events.specs.Window.{window_at, no_window, IsIn, IsPlace}
use Rattle.yds_timetable.specs.Shares.{JobShare, share_at, no_share}
use Rattle.yds_search.specs.declared.own.OwnJob.{OwnJob}
use Rattle.yds_search.specs.declared.own.OwnStretch.{OwnStretch}
use Rattle.yds_search.specs.Found.{Found, Group, per_time, per_work, units_of_job, units_in_stretch}
use Rattle.yds_events.specs.ServingOrder.{Precedes}
use Rattle.yds_search.specs.Own.{Part, stretch_numbers, window_of, own_windows, HaveWindows, wants_at, rooms_at, share_by_number}
use Rattle.yds_search.specs.Fill.{IsNotAfter, IsFill}
use Rattle.yds_search.specs.Closure.{IsMarked, AreClosing, AreClosed, AreRanks}
use Rattle.yds_search.specs.Instance.{IsInstance}
use Rattle.yds_search.specs.Stack.{moves, moving_part, staying_part, marked_with, jobs_of, own_stretches_of}
use Rattle.yds_search.specs.Waiting.{HasOne, HasJob, HasStretch, IsOwnJob, IsOwnStretch, IsWaiting, IsBefore, IsFast, IsSlow, IsBoundary, IsFollowed}
use Rattle.yds_search.specs.Search.{IsSearch}
use Rattle.yds_search.proofs.KeySums.{over_some, over_one}
use Rattle.yds_search.proofs.LowestSpeed.{lowest}
use Rattle.yds_search.proofs.Members.{one_at, at_one, same_place, all_pairs_map}
use Rattle.yds_search.proofs.Shares.{units_between, between_some, some_share}
use Rattle.yds_search.proofs.Closures.{fill_closes}
use Rattle.yds_search.proofs.Ranks.{are_ranked, over_cases}
use Rattle.yds_search.proofs.Filled.{no_own, no_own_stretch}
use Rattle.yds_search.proofs.Filled as filled
use Rattle.yds_search.proofs.Marked.{all_marked, one_marked, marked_from, pairs_marked, sum_marked, stretches_parted, place_moved, places_meet, placed, those, all_those, one_those, those_from, sum_jobs, jobs_parted}

-- what is of a part stands before the same parts
first_as : (windows : List Window) (part own slower : Part) → ((j : ℕ) → HasJob own j → HasJob part j) → ((k : ℕ) → HasStretch own k → HasStretch part k) →
    IsBefore windows part slower → IsBefore windows own slower
first_as windows part own slower jobs_of stretches_of before = record {
  jobs = λ j one other. before.jobs j (jobs_of j one) other;
  stretches = λ k one other. before.stretches k (stretches_of k one) other;
  beyond = λ j k one other is_in. before.beyond j k (jobs_of j one) other is_in;
}

-- all that is known of a split
module _ (jobs : List Job) (windows : List Window) (found : Found) (part : Part) (are : IsInstance jobs windows) (waits : IsWaiting jobs windows found part)
    (group : Group) (work_is : group.work ≡ sum_by (λ own. own.work) part.jobs) (length_is : group.length ≡ sum_by (λ own. own.length) part.stretches)
    (shares : List JobShare) (wants' rooms' : List ℕ)
    (fill : IsFill IsNotAfter (own_windows part.jobs) (wants_at (per_work group) part.jobs) (rooms_at (per_time group) part.stretches) shares wants' rooms')
    (marks ranks : List ℕ) (closing : AreClosing (own_windows part.jobs) wants' shares (length rooms') marks) (count : length marks ≡ length part.stretches)
    (small : All (λ mark. mark ≤ 1) marks) (ranked : AreRanks marks ranks) (late : (i : ℕ) × (i < length wants') × (1 ≤ get_or wants' i 0)) where
  -- what moves
  abbrev pub moving : Part
  moving = moving_part marks ranks part

  -- and what stays
  abbrev pub staying : Part
  staying = staying_part marks ranks part

  -- the job at a place
  abbrev job_in : ℕ → OwnJob
  job_in i = get_or part.jobs i no_own

  -- the stretch at a place
  abbrev stretch_in : ℕ → OwnStretch
  stretch_in p = get_or part.stretches p no_own_stretch

  -- the fill's own shares, by number
  abbrev own_shares : List JobShare
  own_shares = filled.own_shares jobs windows found part are waits group work_is length_is shares wants' rooms' fill

  -- so many units of a job in a stretch
  abbrev own_units : ℕ → ℕ → ℕ
  own_units = units_between own_shares

  -- each job has a want
  all_wants : length wants' ≡ length part.jobs
  all_wants = fill.same_wants ∙ length-map part.jobs (λ own. per_work group * own.work)

  -- each stretch has room
  all_rooms : length (rooms_at (per_time group) part.stretches) ≡ length part.stretches
  all_rooms = length-map part.stretches (λ own. per_time group * own.length)

  -- what late jobs close upon is closed
  closed : AreClosed (λ p. p < length part.stretches) (own_windows part.jobs) shares wants' rooms' marks
  closed =
      let own = filled.windows_have jobs windows found part are waits in
      subst (λ (n : ℕ). AreClosed (λ p. p < n) (own_windows part.jobs) shares wants' rooms' marks) all_rooms
      (fill_closes (own_windows part.jobs) (wants_at (per_work group) part.jobs) (rooms_at (per_time group) part.stretches) shares wants' rooms' marks fill
      (λ j inside.
      let below : j < length part.jobs = omega (arith, inside, length-map part.jobs window_of) in
      subst (λ (w : Window). (w.first < w.end) × (w.end ≤ length (rooms_at (per_time group) part.stretches))) (sym (get_or-map window_of part.jobs j no_own no_window below))
      (omega (arith, own j no_own below), omega (arith, own j no_own below, all_rooms)))
      (λ i j before inside. filled.ends_rise jobs windows found part are waits i j before (omega (arith, inside, length-map part.jobs window_of)))
      (subst (λ (n : ℕ). AreClosing (own_windows part.jobs) wants' shares n marks) fill.same_rooms closing))

  -- a job moves where all stretches of its window are marked, and otherwise has one that isn't
  move_cases : (i : ℕ) → i < length part.jobs →
      ((moves ranks (job_in i) ≡ true) × ((p : ℕ) → IsIn (own_windows part.jobs) i p → get_or marks p 0 ≡ 1))
      ⊎ ((moves ranks (job_in i) ≡ false) × ((p : ℕ) × (p < length part.stretches) × IsIn (own_windows part.jobs) i p × (get_or marks p 0 ≡ 0)))
  move_cases i inside =
      let own = job_in i in
      let window = get_or-map window_of part.jobs i no_own no_window inside in
      let rank = are_ranked marks ranks part.jobs small ranked
      (subst (λ (m : ℕ). HaveWindows m part.jobs) (sym count) (filled.windows_have jobs windows found part are waits)) i no_own inside in
      let gap : own.first + (own.end - own.first) ≡ own.end = omega (arith, rank.some) in
      let end : get_or ranks (own.first + (own.end - own.first)) 0 ≡ get_or ranks own.end 0 = ap (λ i. get_or ranks i 0) gap in
      elim (over_cases marks ranks own.first (own.end - own.first) small ranked (omega (arith, gap, rank.within, ranked.count))) [
        | inl (rise, each) ↦ inl (
          eq-eqb (get_or ranks own.end 0 - get_or ranks own.first 0) (own.end - own.first) (omega (arith, rise, end)),
          λ p is_in. each p (omega (arith, is_in.from, ap (λ (w : Window). w.first) window)) (omega (arith, is_in.upto, gap, ap (λ (w : Window). w.end) window)),
        )
        | inr (rise, (p, from, upto, bare)) ↦ inr (
          ne_eqb (get_or ranks own.end 0 - get_or ranks own.first 0) (own.end - own.first) (λ same. omega (arith, same, rank.rise, rise, end)),
          (
            p,
            omega (arith, upto, gap, rank.within, ranked.count, count),
            record { from = omega (arith, from, ap (λ (w : Window). w.first) window); upto = omega (arith, upto, gap, ap (λ (w : Window). w.end) window) },
            bare,
          ),
        )
      ]

  -- all stretches of who moves are marked
  moved_marks : (i p : ℕ) → i < length part.jobs → moves ranks (job_in i) ≡ true → IsIn (own_windows part.jobs) i p → get_or marks p 0 ≡ 1
  moved_marks i p inside moving is_in = grind (arith, move_cases, true≢false)

  -- who stays has one without a mark
  stayed_bare : (i : ℕ) → i < length part.jobs → not (moves ranks (job_in i)) ≡ true → (p : ℕ) × (p < length part.stretches) × IsIn (own_windows part.jobs) i p × (get_or marks p 0 ≡ 0)
  stayed_bare i inside staying = grind (arith, move_cases, true≢false)

  -- who has only marked stretches moves
  confined : (i : ℕ) → i < length part.jobs → ((p : ℕ) → p < length part.stretches → IsIn (own_windows part.jobs) i p → IsMarked marks p) → moves ranks (job_in i) ≡ true
  confined i inside marked = grind (arith, move_cases)

  -- so does who is late
  late_moves : (i : ℕ) → i < length part.jobs → 1 ≤ get_or wants' i 0 → moves ranks (job_in i) ≡ true
  late_moves i inside some = confined i inside (λ p upto is_in. closed.late i p (omega (arith, inside, length-map part.jobs window_of)) some is_in upto)

  -- and who has a share in a marked stretch
  shared_moves : (x : ℕ) → x < length shares → get_or marks (share_at shares x).stretch 0 ≡ 1 → moves ranks (job_in (share_at shares x).job) ≡ true
  shared_moves x below marked = confined (share_at shares x).job (omega (arith, (fill.taken.parts x no_share below).known, length-map part.jobs window_of))
      (λ p upto is_in. closed.shared x p below (omega (arith, marked)) is_in upto)

  -- a mark is 1 or 0
  mark_cases : (p : ℕ) → p < length part.stretches → (get_or marks p 0 ≡ 1) ⊎ (get_or marks p 0 ≡ 0)
  mark_cases p upto = grind arith

  -- units within windows: none of who moves in a stretch without a mark
  moved_none : (units : ℕ → ℕ → ℕ) → ((j k : ℕ) → 1 ≤ units j k → IsIn windows j k) → (i p : ℕ) → i < length part.jobs → p < length part.stretches →
      moves ranks (job_in i) ≡ true → get_or marks p 0 ≡ 0 → units (job_in i).job (stretch_in p).stretch ≡ 0
  moved_none units inside i p known upto moving bare = elim (cases_lt 0 (units (job_in i).job (stretch_in p).stretch)) [
    | inr none ↦ omega (arith, none)
    | inl some ↦ absurd (omega (
      arith,
      bare,
      moved_marks i p known moving (filled.in_place jobs windows found part are waits i p known upto (inside (job_in i).job (stretch_in p).stretch some)),
    ))
  ]

  -- the fill's own units: none of who stays in a stretch with a mark
  stayed_none : (i p : ℕ) → i < length part.jobs → p < length part.stretches → not (moves ranks (job_in i)) ≡ true → get_or marks p 0 ≡ 1 →
      own_units (job_in i).job (stretch_in p).stretch ≡ 0
  stayed_none i p known upto staying marked = elim (cases_lt 0 (own_units (job_in i).job (stretch_in p).stretch)) [
    | inr none ↦ omega (arith, none)
    | inl some ↦
        let one = between_some (λ share. (x : ℕ) × (x < length shares) × ((job_in (share_at shares x).job).job ≡ share.job) × ((stretch_in (share_at shares x).stretch).stretch ≡ share.stretch))
        own_shares (job_in i).job (stretch_in p).stretch
        (All-map (λ share. (x : ℕ) × (x < length shares) × ((job_in (share_at shares x).job).job ≡ share.job) × ((stretch_in (share_at shares x).stretch).stretch ≡ share.stretch))
        (share_by_number part.jobs part.stretches) shares
        (All-from_get_or (λ share. (x : ℕ) × (x < length shares) × ((job_in (share_at shares x).job).job ≡ (share_by_number part.jobs part.stretches share).job)
        × ((stretch_in (share_at shares x).stretch).stretch ≡ (share_by_number part.jobs part.stretches share).stretch)) shares no_share (λ x below. (
          x,
          below,
          sym (get_or-map (λ own. own.job) part.jobs (share_at shares x).job no_own 0 (omega (arith, (fill.taken.parts x no_share below).known, length-map part.jobs window_of))),
          sym (get_or-map (λ own. own.stretch) part.stretches (share_at shares x).stretch no_own_stretch 0 (omega (arith, (fill.taken.parts x no_share below).known_stretch, all_rooms))),
        )))) some in
        let x = one.1.0 in
        let part_of = fill.taken.parts x no_share one.1.1 in
        let here : (share_at shares x).job ≡ i = same_place (λ own. own.job) part.jobs (share_at shares x).job i no_own (filled.jobs_apart jobs windows found part are waits)
        (omega (arith, part_of.known, length-map part.jobs window_of)) known (one.1.2 ∙ one.2) in
        let there : (share_at shares x).stretch ≡ p = same_place (λ own. own.stretch) part.stretches (share_at shares x).stretch p no_own_stretch
        (filled.stretches_apart jobs windows found part are waits) (omega (arith, part_of.known_stretch, all_rooms)) upto (one.1.3 ∙ one.3) in
        let moving = shared_moves x one.1.1 (ap (λ n. get_or marks n 0) there ∙ marked) in
        absurd (true≢false (sym staying ∙ ap not (subst (λ (n : ℕ). moves ranks (job_in n) ≡ true) here moving)))
  ]

  -- sums over the two parts
  row_split : (f : ℕ → ℕ) → sum_by (λ own. f own.stretch) staying.stretches + sum_by (λ own. f own.stretch) moving.stretches ≡ sum_by (λ own. f own.stretch) part.stretches
  row_split f = sum_marked (λ own. f own.stretch) marks part.stretches small count

  -- over the jobs as well
  column_split : (f : ℕ → ℕ) → sum_by (λ own. f own.job) staying.jobs + sum_by (λ own. f own.job) moving.jobs ≡ sum_by (λ own. f own.job) part.jobs
  column_split f = sum_jobs f ranks part.jobs

  -- a sum over one part of what is nothing there
  row_none : (f : ℕ → ℕ) (mark : ℕ) → ((p : ℕ) → p < length part.stretches → get_or marks p 0 ≡ mark → f (stretch_in p).stretch ≡ 0) →
      sum_by (λ own. f own.stretch) (marked_with mark marks part.stretches) ≡ 0
  row_none f mark none = sum_by_zero (λ own. f own.stretch) (marked_with mark marks part.stretches) (all_marked (λ own. f own.stretch ≡ 0) mark marks part.stretches count none)

  -- a sum over one part's jobs of what is nothing there
  column_none : (f : ℕ → ℕ) (q : OwnJob → Bool) (place : ℕ → ℕ) → ((i : ℕ) → i < length part.jobs → q (job_in i) ≡ true → f (job_in i).job ≡ 0) →
      sum_by (λ own. f own.job) (those q place part.jobs) ≡ 0
  column_none f q place none = sum_by_zero (λ own. f own.job) (those q place part.jobs) (all_those (λ own. f own.job ≡ 0) q place part.jobs none)

  -- the faster part is as slow as the whole was
  upper_slow : (p q : ℕ) (units : ℕ → ℕ → ℕ) → ((j k : ℕ) → 1 ≤ units j k → IsIn windows j k) → IsSlow part p q units → IsSlow moving p q units
  upper_slow p q units inside slow = record {
    served = all_those (λ own. q * own.work ≤ sum_by (λ one. units own.job one.stretch) moving.stretches) (moves ranks) (λ n. get_or ranks n 0) part.jobs (λ i known moving. omega (
      arith,
      slow.served i no_own known,
      row_split (units (job_in i).job),
      row_none (units (job_in i).job) 0 (λ p upto bare. moved_none units inside i p known upto moving bare),
    ));
    room = all_marked (λ own. sum_by (λ one. units one.job own.stretch) moving.jobs ≤ p * own.length) 1 marks part.stretches count
        (λ k upto marked. omega (arith, slow.room k no_own_stretch upto, column_split (λ j. units j (stretch_in k).stretch)));
  }

  -- the lower part is as fast as the whole was
  lower_fast : (p q : ℕ) (units : ℕ → ℕ → ℕ) → ((j k : ℕ) → 1 ≤ units j k → IsIn windows j k) → IsFast part p q units → IsFast staying p q units
  lower_fast p q units inside fast = record {
    full = all_marked (λ own. p * own.length ≤ sum_by (λ one. units one.job own.stretch) staying.jobs) 0 marks part.stretches count (λ k upto bare. omega (
      arith,
      fast.full k no_own_stretch upto,
      column_split (λ j. units j (stretch_in k).stretch),
      column_none (λ j. units j (stretch_in k).stretch) (moves ranks) (λ n. get_or ranks n 0) (λ i known moving. moved_none units inside i k known upto moving bare),
    ));
    most = all_those (λ own. sum_by (λ one. units own.job one.stretch) staying.stretches ≤ q * own.work) (λ own. not (moves ranks own)) (λ n. n - get_or ranks n 0) part.jobs
        (λ i known staying. omega (arith, fast.most i no_own known, row_split (units (job_in i).job)));
  }

  -- the fill's units of a job and in a stretch
  job_units : (i : ℕ) → i < length part.jobs → units_of_job own_shares (job_in i).job + get_or wants' i 0 ≡ per_work group * (job_in i).work
  job_units = filled.job_units jobs windows found part are waits group work_is length_is shares wants' rooms' fill

  -- and in a stretch
  stretch_units : (p : ℕ) → p < length part.stretches → units_in_stretch own_shares (stretch_in p).stretch + get_or rooms' p 0 ≡ per_time group * (stretch_in p).length
  stretch_units = filled.stretch_units jobs windows found part are waits group work_is length_is shares wants' rooms' fill

  -- the units of a job, over the part's stretches
  row_units : (j : ℕ) → sum_by (λ one. own_units j one.stretch) part.stretches ≡ units_of_job own_shares j
  row_units = filled.row_units jobs windows found part are waits group work_is length_is shares wants' rooms' fill

  -- the units in a stretch, over the part's jobs
  column_units : (k : ℕ) → sum_by (λ one. own_units one.job k) part.jobs ≡ units_in_stretch own_shares k
  column_units = filled.column_units jobs windows found part are waits group work_is length_is shares wants' rooms' fill

  -- between the two parts stands the speed of the fill
  new_boundary : IsBoundary windows moving staying
  new_boundary = record {
    p = per_time group;
    q = per_work group;
    units = own_units;
    some = (lowest group.work group.length (filled.group_some jobs windows found part are waits group work_is length_is).0
        (filled.group_some jobs windows found part are waits group work_is length_is).1).some_second;
    inside = λ j k some.
        let one = between_some (λ share. IsIn windows share.job share.stretch) own_shares j k
        (filled.shares_inside jobs windows found part are waits group work_is length_is shares wants' rooms' fill) some in
        subst (λ (n : ℕ). IsIn windows n k) one.2 (subst (IsIn windows one.0.job) one.3 one.1);
    fast = record {
      full = all_marked (λ own. per_time group * own.length ≤ sum_by (λ one. own_units one.job own.stretch) moving.jobs) 1 marks part.stretches count (λ p upto marked. omega (
        arith,
        stretch_units p upto,
        closed.full p upto (omega (arith, marked)),
        column_units (stretch_in p).stretch,
        column_split (λ j. own_units j (stretch_in p).stretch),
        column_none (λ j. own_units j (stretch_in p).stretch) (λ own. not (moves ranks own)) (λ n. n - get_or ranks n 0) (λ i known staying. stayed_none i p known upto staying marked),
      ));
      most = all_those (λ own. sum_by (λ one. own_units own.job one.stretch) moving.stretches ≤ per_work group * own.work) (moves ranks) (λ n. get_or ranks n 0) part.jobs
          (λ i known moving. omega (arith, job_units i known, row_units (job_in i).job, row_split (own_units (job_in i).job)));
    };
    slow = record {
      served = all_those (λ own. per_work group * own.work ≤ sum_by (λ one. own_units own.job one.stretch) staying.stretches) (λ own. not (moves ranks own)) (λ n. n - get_or ranks n 0) part.jobs
          (λ i known staying. elim (cases_lt 0 (get_or wants' i 0)) [
            | inl late ↦ absurd (true≢false (sym staying ∙ ap not (late_moves i known late)))
            | inr none ↦ omega (
              arith,
              none,
              job_units i known,
              row_units (job_in i).job,
              row_split (own_units (job_in i).job),
              row_none (own_units (job_in i).job) 1 (λ p upto marked. stayed_none i p known upto staying marked),
            )
          ]);
      room = all_marked (λ own. sum_by (λ one. own_units one.job own.stretch) staying.jobs ≤ per_time group * own.length) 0 marks part.stretches count
          (λ p upto bare. omega (arith, stretch_units p upto, column_units (stretch_in p).stretch, column_split (λ j. own_units j (stretch_in p).stretch)));
    };
  }

  -- either part waits: its jobs keep their windows, as places among its own stretches
  part_waits : (mark : ℕ) (q : OwnJob → Bool) (place : ℕ → ℕ) →
      ((number n : ℕ) → IsPlace (stretch_numbers part.stretches) number n → IsPlace (stretch_numbers (marked_with mark marks part.stretches)) number (place n)) →
      ((i : ℕ) → i < length part.jobs → q (job_in i) ≡ true → (p : ℕ) × (p < length part.stretches) × IsIn (own_windows part.jobs) i p × (get_or marks p 0 ≡ mark)) →
      ((p : ℕ) → p < length part.stretches → get_or marks p 0 ≡ mark → (i : ℕ) × (i < length part.jobs) × IsIn (own_windows part.jobs) i p × (q (job_in i) ≡ true)) →
      (p : ℕ) × (p < length part.stretches) × (get_or marks p 0 ≡ mark) →
      IsWaiting jobs windows found (record { jobs = those q place part.jobs; stretches = marked_with mark marks part.stretches })
  part_waits mark q place places meets covered some = record {
    own_jobs = all_those (IsOwnJob jobs windows found.group_of_job (stretch_numbers (marked_with mark marks part.stretches))) q place part.jobs (λ i known passes.
        let own = waits.own_jobs i no_own known in
        let first = places (window_at windows (job_in i).job).first (job_in i).first own.first in
        let end = places (window_at windows (job_in i).job).end (job_in i).end own.end in
        let meet = meets i known passes in
        let is_in = filled.in_number jobs windows found part are waits i meet.0 known meet.1 meet.2 in
        record {
          known = own.known;
          some = own.some;
          work_is = own.work_is;
          free = own.free;
          first = first;
          end = end;
          meets = places_meet (marked_with mark marks part.stretches) (window_at windows (job_in i).job).first (window_at windows (job_in i).job).end (stretch_in meet.0).stretch
              (place (job_in i).first) (place (job_in i).end) first end
              (one_marked (λ own. own.stretch ≡ (stretch_in meet.0).stretch) mark marks part.stretches meet.0 count meet.1 meet.3 refl) is_in.from is_in.upto;
        });
    own_stretches = all_marked (IsOwnStretch jobs windows found.group_of_stretch (those q place part.jobs)) mark marks part.stretches count (λ p upto marked.
        let own = waits.own_stretches p no_own_stretch upto in
        let one = covered p upto marked in
        record {
          known = own.known;
          length_is = own.length_is;
          free = own.free;
          covered = one_those q place (λ one. IsIn windows one.job (stretch_in p).stretch) part.jobs one.0 one.1 one.3 (filled.in_number jobs windows found part are waits one.0 p one.1 upto one.2);
        });
    precede = all_pairs_map (λ one next. Precedes jobs one.job next.job) (placed place) (filter q part.jobs) (AllPairs-filter (λ one next. Precedes jobs one.job next.job) q part.jobs waits.precede);
    rise = pairs_marked (λ one next. one.stretch < next.stretch) mark marks part.stretches count waits.rise;
    some =
        let one = one_at (λ own. own.stretch ≡ (stretch_in some.0).stretch) (marked_with mark marks part.stretches)
        (one_marked (λ own. own.stretch ≡ (stretch_in some.0).stretch) mark marks part.stretches some.0 count some.1 some.2 refl) in
        omega (arith, one.1);
  }

  -- a job's first place is one of its window
  first_place : (i : ℕ) → i < length part.jobs → IsIn (own_windows part.jobs) i (job_in i).first × ((job_in i).first < length part.stretches)
  first_place i known =
      let own = filled.windows_have jobs windows found part are waits i no_own known in
      let window = get_or-map window_of part.jobs i no_own no_window known in (
        record { from = omega (arith, ap (λ (w : Window). w.first) window); upto = omega (arith, own, ap (λ (w : Window). w.end) window) },
        omega (arith, own),
      )

  -- the faster part waits: who moves has only marked stretches, and a full stretch has a share
  moving_waits : IsWaiting jobs windows found moving
  moving_waits = part_waits 1 (moves ranks) (λ n. get_or ranks n 0)
      (λ number n is. (place_moved marks ranks part.stretches small ranked count number n is).0)
      (λ i known moving. let first = first_place i known in ((job_in i).first, first.1, first.0, moved_marks i (job_in i).first known moving first.0))
      (λ p upto marked.
      let units = stretch_units p upto in
      let some = (lowest group.work group.length (filled.group_some jobs windows found part are waits group work_is length_is).0
      (filled.group_some jobs windows found part are waits group work_is length_is).1).some_first in
      let long : 1 ≤ per_time group * (stretch_in p).length = product_some (per_time group) (stretch_in p).length some
      (let own = waits.own_stretches p no_own_stretch upto in omega (arith, own.length_is, are.length_some (stretch_in p).stretch own.known)) in
      let x = some_share (λ share. share.stretch) shares p (omega (
        arith,
        fill.room p,
        get_or-map (λ own. per_time group * own.length) part.stretches p no_own_stretch 0 upto,
        closed.full p upto (omega (arith, marked)),
        long,
      )) in
      let taken = fill.taken.parts x.0 no_share x.1 in (
        (share_at shares x.0).job,
        omega (arith, taken.known, length-map part.jobs window_of),
        subst (IsIn (own_windows part.jobs) (share_at shares x.0).job) x.2 taken.inside,
        shared_moves x.0 x.1 (ap (λ n. get_or marks n 0) x.2 ∙ marked),
      ))
      (let known : late.0 < length part.jobs = omega (arith, late.1, all_wants) in
      let first = first_place late.0 known in ((job_in late.0).first, first.1, moved_marks late.0 (job_in late.0).first known (late_moves late.0 known late.2) first.0)) where
        -- a product of numbers that are some
        product_some : (a b : ℕ) → 1 ≤ a → 1 ≤ b → 1 ≤ a * b
        product_some a b one other = grind arith

  -- the slower part waits: who covers a stretch without a mark stays, and some room is left
  staying_waits : IsWaiting jobs windows found staying
  staying_waits = part_waits 0 (λ own. not (moves ranks own)) (λ n. n - get_or ranks n 0)
      (λ number n is. (place_moved marks ranks part.stretches small ranked count number n is).1)
      (λ i known staying. stayed_bare i known staying)
      (λ p upto bare.
      let one = one_at (λ one. IsIn windows one.job (stretch_in p).stretch) part.jobs (waits.own_stretches p no_own_stretch upto).covered in
      let is_in = filled.in_place jobs windows found part are waits one.0 p one.1 upto (one.2 no_own) in (
        one.0,
        one.1,
        is_in,
        elim (move_cases one.0 one.1) [
          | inl only ↦ absurd (omega (arith, bare, only.1 p is_in))
          | inr free ↦ not_from_false (moves ranks (job_in one.0)) free.0
        ],
      ))
      (let one = over_some (λ p. get_or rooms' p 0) (length part.stretches) (omega (
        arith,
        filled.balance jobs windows found part are waits group work_is length_is shares wants' rooms' fill,
        over_one (λ i. get_or wants' i 0) (length part.jobs) late.0 (omega (arith, late.1, all_wants)),
        late.2,
      )) in (
        one.0,
        one.1,
        elim (mark_cases one.0 one.1) [
          | inl marked ↦ absurd (omega (arith, closed.full one.0 one.1 (omega (arith, marked)), one.2))
          | inr bare ↦ bare
        ],
      ))

  -- who is of either part was of the whole
  moving_job : (j : ℕ) → HasJob moving j → (i : ℕ) × (i < length part.jobs) × ((job_in i).job ≡ j) × (moves ranks (job_in i) ≡ true)
  moving_job j one = those_from (moves ranks) (λ n. get_or ranks n 0) part.jobs j one

  -- so was who is of the slower part
  staying_job : (j : ℕ) → HasJob staying j → (i : ℕ) × (i < length part.jobs) × ((job_in i).job ≡ j) × (not (moves ranks (job_in i)) ≡ true)
  staying_job j one = those_from (λ own. not (moves ranks own)) (λ n. n - get_or ranks n 0) part.jobs j one

  -- a job at a place is one of the whole
  was_job : (j i : ℕ) → i < length part.jobs → (job_in i).job ≡ j → HasJob part j
  was_job j i known is = at_one (λ own. own.job ≡ j) part.jobs i no_own known is

  -- so is a stretch of either part
  was_stretch : (mark k : ℕ) → HasOne (λ own. own.stretch ≡ k) (marked_with mark marks part.stretches) → HasStretch part k
  was_stretch mark k one = grind (arith, at_one, marked_from, no_own_stretch)

  -- and is of one of the two
  job_parts : (j : ℕ) → HasJob part j → HasJob moving j ⊎ HasJob staying j
  job_parts j one =
      let own = one_at (λ own. own.job ≡ j) part.jobs one in
      elim (move_cases own.0 own.1) [
        | inl only ↦ inl (one_those (moves ranks) (λ n. get_or ranks n 0) (λ own. own.job ≡ j) part.jobs own.0 own.1 only.0 (own.2 no_own))
        | inr free ↦ inr (one_those (λ own. not (moves ranks own)) (λ n. n - get_or ranks n 0) (λ own. own.job ≡ j) part.jobs own.0 own.1
            (not_from_false (moves ranks (job_in own.0)) free.0) (own.2 no_own))
      ]

  -- so is a stretch
  stretch_parts : (k : ℕ) → HasStretch part k → HasStretch moving k ⊎ HasStretch staying k
  stretch_parts k one =
      let own = one_at (λ own. own.stretch ≡ k) part.stretches one in
      elim (mark_cases own.0 own.1) [
        | inl marked ↦ inl (one_marked (λ own. own.stretch ≡ k) 1 marks part.stretches own.0 count own.1 marked (own.2 no_own_stretch))
        | inr bare ↦ inr (one_marked (λ own. own.stretch ≡ k) 0 marks part.stretches own.0 count own.1 bare (own.2 no_own_stretch))
      ]

  -- but not of both
  moving_before : IsBefore windows moving staying
  moving_before = record {
    jobs = λ j one other.
        let moves' = moving_job j one in
        let stays = staying_job j other in
        let same : moves'.0 ≡ stays.0 = same_place (λ own. own.job) part.jobs moves'.0 stays.0 no_own (filled.jobs_apart jobs windows found part are waits) moves'.1 stays.1 (moves'.2 ∙ sym stays.2) in
        true≢false (sym stays.3 ∙ ap not (subst (λ (n : ℕ). moves ranks (job_in n) ≡ true) same moves'.3));
    stretches = λ k one other.
        let marked = marked_from (λ own. own.stretch ≡ k) 1 marks part.stretches count one in
        let bare = marked_from (λ own. own.stretch ≡ k) 0 marks part.stretches count other in
        let same : marked.0 ≡ bare.0 = same_place (λ own. own.stretch) part.stretches marked.0 bare.0 no_own_stretch (filled.stretches_apart jobs windows found part are waits) marked.1 bare.1
        (marked.2 ∙ sym bare.2) in
        omega (arith, marked.3, bare.3, ap (λ n. get_or marks n 0) same);
    beyond = λ j k one other is_in.
        let moves' = moving_job j one in
        let bare = marked_from (λ own. own.stretch ≡ k) 0 marks part.stretches count other in
        omega (
          arith,
          bare.3,
          moved_marks moves'.0 bare.0 moves'.1 moves'.3 (filled.in_place jobs windows found part are waits moves'.0 bare.0 moves'.1 bare.1
              (subst (λ (n : ℕ). IsIn windows n (stretch_in bare.0).stretch) (sym moves'.2) (subst (IsIn windows j) (sym bare.2) is_in))),
        );
  }

  -- the lower part is followed as the whole was
  staying_followed : (parts : List Part) → IsFollowed windows part parts → IsFollowed windows staying parts
  staying_followed [] followed = tt
  staying_followed (next ∷ parts) followed = record {
    p = followed.p;
    q = followed.q;
    units = followed.units;
    some = followed.some;
    inside = followed.inside;
    fast = lower_fast followed.p followed.q followed.units followed.inside followed.fast;
    slow = followed.slow;
  }

  -- after a split the search goes on with the faster part
  pub split_search : (parts : List Part) → IsSearch jobs windows found (part ∷ parts) → IsSearch jobs windows found (moving ∷ staying ∷ parts)
  split_search parts search = record {
    all_jobs = search.all_jobs;
    all_stretches = search.all_stretches;
    idle = search.idle;
    with_work = λ j known some. elim (search.with_work j known some) [
      | inl finished ↦ inl finished
      | inr later ↦ elim later [
        | inl mine ↦ elim (job_parts j mine) [ inl upper ↦ inr (inl upper) | inr lower ↦ inr (inr (inl lower)) ]
        | inr rest ↦ inr (inr (inr rest))
      ]
    ];
    job = search.job;
    stretch = search.stretch;
    covered = λ j k runs. elim (search.covered j k runs) [
      | inl finished ↦ inl finished
      | inr later ↦ elim later [
        | inl mine ↦ elim (stretch_parts k mine) [ inl upper ↦ inr (inl upper) | inr lower ↦ inr (inr (inl lower)) ]
        | inr rest ↦ inr (inr (inr rest))
      ]
    ];
    waiting = (
      moving_waits,
      All-cons (IsBefore windows moving) staying parts moving_before (first moving (λ j one. let own = moving_job j one in was_job j own.0 own.1 own.2) (was_stretch 1)),
      new_boundary,
      (
        staying_waits,
        first staying (λ j one. let own = staying_job j one in was_job j own.0 own.1 own.2) (was_stretch 0),
        staying_followed parts search.waiting.2,
        search.waiting.3,
      ),
    );
    led = λ i last.
        let lead = search.led i last in
        record {
          p = lead.p;
          q = lead.q;
          units = lead.units;
          some = lead.some;
          inside = lead.inside;
          fast = lead.fast;
          slow = upper_slow lead.p lead.q lead.units lead.inside lead.slow;
        };
    finished = search.finished;
    few = omega (arith, search.few, jobs_more, stretches_more);
    few_jobs = omega (arith, search.few_jobs, jobs_more);
    few_groups = omega (arith, search.few_groups, stretches_more);
  } where
    -- either part stands before the slower ones
    first : (own : Part) → ((j : ℕ) → HasJob own j → HasJob part j) → ((k : ℕ) → HasStretch own k → HasStretch part k) → All (IsBefore windows own) parts
    first own jobs_of stretches_of =
        All-weaker (IsBefore windows part) (IsBefore windows own) (λ slower before. first_as windows part own slower jobs_of stretches_of before) parts search.waiting.1

    -- all jobs still wait
    jobs_more : length (jobs_of (moving ∷ staying ∷ parts)) ≡ length (jobs_of (part ∷ parts))
    jobs_more = grind (arith, jobs_parted, length-append)

    -- and all stretches
    stretches_more : length (own_stretches_of (moving ∷ staying ∷ parts)) ≡ length (own_stretches_of (part ∷ parts))
    stretches_more = grind (arith, length-append, stretches_parted)
