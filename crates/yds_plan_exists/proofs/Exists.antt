-- Jobs within the limits have a plan. Each list of waiting jobs with work has a critical interval. Its jobs can be served at its intensity in the time
-- that is left, since no interval demands more. Once its time is removed fewer jobs wait. So the textbook's stages exist, and a plan is laid from them.
use Rattle.std.specs.Prelude.{Vec}
use denote.RawPtr.{null_ptr}
use Rattle.yds_model.proofs.Common.{ℕ, zero, suc, ◌-◌, ◌*◌, ◌<◌, ◌≤◌, List, [], ◌∷◌, length, map, filter, arith, refl, ap, range_with_len, get_or-range_with_len, length-map, All, All-filter, All-weaker, filter_passes, Job, Piece, stretches, Global}
use Rattle.base.specs.declared.limits.TheConstants.{MAX_JOBS}
use Rattle.yds_events.specs.Stretch.{nth_stretch}
use Rattle.yds_events.proofs.Neighbours.{few_stretches}
use Rattle.yds_timetable.specs.Shares.{JobShare}
use Rattle.yds_search.specs.Found.{Group, per_time, per_work}
use Rattle.yds_search.proofs.LowestSpeed.{lowest}
use Rattle.yds_edf.specs.Filled.{IsFilled}
use Rattle.yds_critical.specs.declared.interval.Interval.{Interval}
use Rattle.yds_critical.specs.Critical.{IsCritical}
use Rattle.yds_contract.proofs.Joined.{joined, joined_removes}
use Rattle.yds_plan.specs.Laid.{laid_slots, levels_of}
use Rattle.yds_textbook.specs.declared.stage.Stage.{Stage}
use Rattle.yds_textbook.specs.Served.{capacity_of}
use Rattle.yds_textbook.specs.Stages.{IsStage, AreStages, speed_of, share_of_members}
use Rattle.yds_textbook.specs.Together.{found_of}
use Rattle.yds_textbook.specs.Waiting.{contracted_jobs, contracted_stretch, contracted_stretches, CanWait, lies_in, inside, outside, stretches_inside, job_has_work}
use Rattle.yds_textbook.proofs.Densest.{are_jobs, have_work, as_many, few_inside, is_densest, fewer}
use Rattle.yds_textbook.proofs.Left.{each_inside, run_left, uncut_left, demand_left}
use Rattle.yds_textbook.proofs.Making.{few_left}
use Rattle.yds_textbook.proofs.Speeds.{fast_enough}
use Rattle.yds_textbook.proofs.Stands.{IsBetween, between_at_first, all_can_wait, between_next}
use Rattle.yds_textbook.proofs.Theorem.{stages_make_a_plan}
use Rattle.yds_plan_exists.specs.Exists.{StagesExist, PlansExist}
use Rattle.yds_plan_exists.proofs.Orders.{order_exists}
use Rattle.yds_plan_exists.proofs.Criticals.{critical_exists}
use Rattle.yds_plan_exists.proofs.Fills.{fill_exists}

-- a list as the program keeps it
abbrev kept_as : {X : Type 0} → Global → (xs : List X) → length xs ≤ 5 * MAX_JOBS → Vec X Global
kept_as alloc xs few = record { ptr = null_ptr; items = xs; len = length xs; cap = length xs; alloc = alloc; ok = (refl, omega arith); small = omega (arith, few) }

module _ (alloc : Global) (jobs : List Job) (few : length jobs ≤ MAX_JOBS) where
  module _ (removed : List Piece) (waiting : List ℕ) (interval : Interval) (between : IsBetween jobs removed waiting)
      (critical : IsCritical (contracted_jobs jobs removed waiting) interval) where
    abbrev members : List ℕ
    members = inside jobs removed interval waiting

    abbrev numbers : List ℕ
    numbers = stretches_inside (stretches jobs) removed interval

    abbrev group : Group
    group = record { work = interval.work; length = interval.end - interval.start }

    abbrev own_jobs : List Job
    own_jobs = contracted_jobs jobs removed members

    abbrev own_stretches : List Piece
    own_stretches = contracted_stretches (stretches jobs) removed numbers

    members_wait : All (CanWait jobs removed) members
    members_wait = All-filter (lies_in jobs removed interval) (CanWait jobs removed) waiting between.can_wait

    -- the interval's jobs can be served in it
    served_exists : (served : List JobShare) × IsFilled own_jobs (range_with_len 0 (length members)) (per_work group) own_stretches (map (capacity_of (speed_of group)) own_stretches) served
    served_exists =
        let densest = is_densest jobs removed waiting interval between.can_wait critical between.few in
        let terms = lowest interval.work (interval.end - interval.start) densest.has_work (omega (arith, densest.forward)) in
        let speed = speed_of group in
        let fast = fast_enough own_jobs interval (interval.end - interval.start) speed densest refl
        (omega (arith, ap (λ n. n * per_work group) terms.first, ap (λ n. per_time group * n) terms.second)) in
        fill_exists own_jobs (range_with_len 0 (length members)) (per_work group) own_stretches (map (capacity_of speed) own_stretches)
        (run_left jobs removed between.apart interval)
        (λ i j within beside same. omega (
          arith,
          same,
          get_or-range_with_len 0 (length members) i 0 (omega (arith, within, as_many jobs removed members)),
          get_or-range_with_len 0 (length members) j 0 (omega (arith, beside, as_many jobs removed members)),
        ))
        (are_jobs jobs removed members members_wait)
        (uncut_left jobs removed between.apart numbers members (λ k d within. (each_inside jobs removed interval k d within).0)
        (All-weaker (CanWait jobs removed) (λ (number : ℕ). number < length jobs) (λ number can. can.known) members members_wait))
        (demand_left jobs removed interval members speed between.apart between.whole members_wait (filter_passes (lies_in jobs removed interval) waiting) fast)

    -- so the interval has a stage
    stage_exists : (stage : Stage) × IsStage jobs removed interval waiting stage
    stage_exists =
        let (served, filled) = served_exists in
        let own : length members ≤ MAX_JOBS = omega (arith, few_inside jobs removed interval waiting, between.few) in
        let theirs : length own_stretches ≤ 2 * MAX_JOBS = omega (arith, few_left (stretches jobs) removed interval, few_stretches jobs, few) in
        let stage : Stage = record {
          group = record { work = interval.work; length = interval.end - interval.start };
          members = kept_as alloc members (omega (arith, own));
          stretches = kept_as alloc numbers (omega (arith, theirs, length-map numbers (λ k. contracted_stretch removed (nth_stretch (stretches jobs) k))));
          shares = kept_as alloc (map (share_of_members members numbers) served) (omega (
            arith,
            own,
            theirs,
            filled.few,
            as_many jobs removed members,
            length-map served (share_of_members members numbers),
          ));
        } in
        (stage, record { group = refl; members = refl; own_stretches = refl; served = served; serves = filled; shares = refl {A = List JobShare} })

  -- stage after stage, until none waits
  stages_from : (fuel : ℕ) (removed : List Piece) (waiting : List ℕ) → IsBetween jobs removed waiting → length waiting ≤ fuel →
      (stages : List Stage) × AreStages jobs removed waiting stages
  stages_from fuel removed [] between enough = ([], refl)
  stages_from zero removed (number ∷ waiting) between enough = absurd (omega (arith, enough))
  stages_from (suc fuel) removed (number ∷ waiting) between enough =
      let all : List ℕ = number ∷ waiting in
      let (interval, critical) = critical_exists (contracted_jobs jobs removed all) (are_jobs jobs removed all between.can_wait) (have_work jobs removed all between.can_wait)
      (omega (arith, as_many jobs removed all)) in
      let (stage, is) = stage_exists removed all interval between critical in
      let changed : List Piece = joined interval.start interval.end removed in
      let removes = joined_removes interval.start interval.end removed critical.candidate.forward between.apart in
      let (rest, are) = stages_from fuel changed (outside jobs removed interval all) (between_next jobs removed changed all interval between critical removes)
      (omega (arith, enough, fewer jobs removed all interval between.can_wait critical)) in
      (stage ∷ rest, (interval, changed, critical, is, removes, are))

-- slots and levels are laid from them
pub stages_exist : Global → StagesExist
stages_exist alloc jobs valid few =
    let (order, ordered) = order_exists jobs in
    let waiting : List ℕ = filter (job_has_work jobs) order in
    let between = between_at_first jobs order waiting [] few ordered refl refl (all_can_wait jobs order valid ordered) in
    let (stages, are) = stages_from alloc jobs few (length waiting) [] waiting between (omega arith) in (
      laid_slots jobs (found_of jobs stages),
      levels_of jobs (found_of jobs stages),
      record { order = order; ordered = ordered; stages = stages; are_stages = are; slots_laid = refl; levels_laid = refl },
    )

-- and are a plan
pub plans_exist : Global → PlansExist
plans_exist alloc jobs valid few =
    let (slots, levels, by) = stages_exist alloc jobs valid few in
    (slots, levels, stages_make_a_plan jobs slots levels valid few by)
