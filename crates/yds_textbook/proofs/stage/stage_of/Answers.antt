use Rattle.yds_model.proofs.Common.{rules, ◌≡◌, ℕ, ◌<◌, ◌≤◌, List, ◌∙◌, length, map, sym, subst, ap, arith, All, length-map, All-filter, All-weaker, filter_passes, Job, Piece, PiecesFrom, stretches}
use Rattle.yds_events.specs.Stretch.{nth_stretch}
use Rattle.yds_events.proofs.Neighbours.{few_stretches}
use Rattle.yds_timetable.specs.Shares.{JobShare}
use Rattle.yds_edf.specs.Demand.{AreUncut, IsWithinCapacity}
use Rattle.yds_textbook.specs.Waiting.{contracted_jobs, CanWait, lies_in, inside, contracted_stretch, contracted_stretches, stretches_inside}
use Rattle.yds_textbook.specs.Stages.{IsDensest, speed_of, share_of_members}
use Rattle.yds_textbook.specs.Served.{capacity_of}
use Rattle.yds_textbook.proofs.Densest.{is_densest, as_many, few_inside}
use Rattle.yds_textbook.proofs.Left.{each_inside, run_left, uncut_left, demand_left}
use Rattle.yds_textbook.proofs.Making.{stretches_are, left_are, numbers_known, numbers_left, few_left, speed_is, filled_as, jobs_known}
use Rattle.yds_textbook.proofs.Speeds.{fast_enough}
use Rattle.yds_textbook.proofs.stage.stage_of.Goals as goal
use Rattle.yds_textbook.proofs.stage.stage_of.Goals.{After-deref-4}

pub new-requires : goal.new-requires
new-requires c =
    let densest : IsDensest (contracted_jobs c.args.left.now.rows.now c.args.left.now.taken.now (inside c.args.left.now.rows.now c.args.left.now.taken.now c.args.interval.now c.args.left.now.waiting.now)) c.args.interval.now =
    is_densest c.args.left.now.rows.now c.args.left.now.taken.now c.args.left.now.waiting.now c.args.interval.now c.requires.left.can_wait c.requires.critical c.requires.left.few in
    search rules

pub contracted_rows-requires : goal.contracted_rows-requires
contracted_rows-requires c =
    subst (All (CanWait c.args.left.now.rows.now c.args.left.now.taken.now)) (sym (c.deref.ensures.value ∙ c.requires.members))
    (All-filter (lies_in c.args.left.now.rows.now c.args.left.now.taken.now c.args.interval.now) (CanWait c.args.left.now.rows.now c.args.left.now.taken.now) c.args.left.now.waiting.now c.requires.left.can_wait)

pub stretches_inside-requires : goal.stretches_inside-requires
stretches_inside-requires c = omega (arith, few_stretches c.args.left.now.rows.now, ap (λ (pieces : List Piece). length pieces) c.requires.left.all_stretches, c.requires.left.few_jobs)

pub contracted_stretches-requires-clause-known : goal.contracted_stretches-requires-clause-known
contracted_stretches-requires-clause-known c =
    numbers_known c.args.left.now.rows.now c.args.left.now.timeline.now c.args.left.now.taken.now c.args.interval.now c.deref-2.result.now c.requires.left.all_stretches
    (c.deref-2.ensures.value ∙ stretches_are c.args.left.now.rows.now c.args.left.now.timeline.now c.args.left.now.taken.now c.args.interval.now c.in_ok-stretches.stretches.items c.requires.left.all_stretches
    c.in_ok-stretches.ensures)

pub contracted_stretches-requires-clause-left : goal.contracted_stretches-requires-clause-left
contracted_stretches-requires-clause-left c =
    numbers_left c.args.left.now.rows.now c.args.left.now.timeline.now c.args.left.now.taken.now c.args.interval.now c.deref-2.result.now c.requires.left.all_stretches
    (c.deref-2.ensures.value ∙ stretches_are c.args.left.now.rows.now c.args.left.now.timeline.now c.args.left.now.taken.now c.args.interval.now c.in_ok-stretches.stretches.items c.requires.left.all_stretches
    c.in_ok-stretches.ensures)

-- the jobs and the stretches that are served
own_jobs : (c : After-deref-4) → c.deref-3.result.now ≡ contracted_jobs c.args.left.now.rows.now c.args.left.now.taken.now (inside c.args.left.now.rows.now c.args.left.now.taken.now c.args.interval.now c.args.left.now.waiting.now)
own_jobs c =
    c.deref-3.ensures.value ∙ c.in_ok-inside.ensures
    ∙ ap (λ (numbers : List ℕ). contracted_jobs c.args.left.now.rows.now c.args.left.now.taken.now numbers) (c.deref.ensures.value ∙ c.requires.members)

own_stretches : (c : After-deref-4) → c.deref-4.result.now
    ≡ contracted_stretches (stretches c.args.left.now.rows.now) c.args.left.now.taken.now (stretches_inside (stretches c.args.left.now.rows.now) c.args.left.now.taken.now c.args.interval.now)
own_stretches c =
    c.deref-4.ensures.value ∙ c.in_ok-pieces.ensures
    ∙ left_are c.args.left.now.rows.now c.args.left.now.timeline.now c.args.left.now.taken.now c.deref-2.result.now
    (stretches_inside (stretches c.args.left.now.rows.now) c.args.left.now.taken.now c.args.interval.now) c.requires.left.all_stretches
    (c.deref-2.ensures.value ∙ stretches_are c.args.left.now.rows.now c.args.left.now.timeline.now c.args.left.now.taken.now c.args.interval.now c.in_ok-stretches.stretches.items c.requires.left.all_stretches
    c.in_ok-stretches.ensures)

members_wait : (c : After-deref-4) → All (CanWait c.args.left.now.rows.now c.args.left.now.taken.now) (inside c.args.left.now.rows.now c.args.left.now.taken.now c.args.interval.now c.args.left.now.waiting.now)
members_wait c =
    All-filter (lies_in c.args.left.now.rows.now c.args.left.now.taken.now c.args.interval.now) (CanWait c.args.left.now.rows.now c.args.left.now.taken.now) c.args.left.now.waiting.now c.requires.left.can_wait

pub serve-requires-clause-few : goal.serve-requires-clause-few
serve-requires-clause-few c =
    let rows = c.args.left.now.rows.now in
    let removed = c.args.left.now.taken.now in
    omega (
      arith,
      ap (λ (jobs : List Job). length jobs) (own_jobs c),
      as_many rows removed (inside rows removed c.args.interval.now c.args.left.now.waiting.now),
      few_inside rows removed c.args.interval.now c.args.left.now.waiting.now,
      c.requires.left.few,
    )

pub serve-requires-clause-few_stretches : goal.serve-requires-clause-few_stretches
serve-requires-clause-few_stretches c =
    omega (
      arith,
      ap (λ (pieces : List Piece). length pieces) (own_stretches c),
      few_left (stretches c.args.left.now.rows.now) c.args.left.now.taken.now c.args.interval.now,
      few_stretches c.args.left.now.rows.now,
      c.requires.left.few_jobs,
    )

pub serve-requires-clause-in_order : goal.serve-requires-clause-in_order
serve-requires-clause-in_order c =
    subst (PiecesFrom 0) (sym (own_stretches c)) (run_left c.args.left.now.rows.now c.args.left.now.taken.now c.requires.left.apart c.args.interval.now)

pub serve-requires-clause-uncut : goal.serve-requires-clause-uncut
serve-requires-clause-uncut c =
    let rows = c.args.left.now.rows.now in
    let removed = c.args.left.now.taken.now in
    let members = inside rows removed c.args.interval.now c.args.left.now.waiting.now in
    let numbers = stretches_inside (stretches rows) removed c.args.interval.now in
    subst (λ (jobs : List Job). AreUncut jobs c.deref-4.result.now) (sym (own_jobs c))
    (subst (AreUncut (contracted_jobs rows removed members)) (sym (own_stretches c))
    (uncut_left rows removed c.requires.left.apart numbers members (λ k d within. (each_inside rows removed c.args.interval.now k d within).0)
    (All-weaker (CanWait rows removed) (λ (number : ℕ). number < length rows) (λ number can. can.known) members (members_wait c))))

pub serve-requires-clause-demand : goal.serve-requires-clause-demand
serve-requires-clause-demand c =
    let rows = c.args.left.now.rows.now in
    let removed = c.args.left.now.taken.now in
    let interval = c.args.interval.now in
    let speed = c.reduced-speed.result in
    let members = inside rows removed interval c.args.left.now.waiting.now in
    let densest = is_densest rows removed c.args.left.now.waiting.now interval c.requires.left.can_wait c.requires.critical c.requires.left.few in
    let fast = fast_enough (contracted_jobs rows removed members) interval c.from-length.result speed densest c.from-length.ensures
    (rw c.new.ensures.value at c.reduced-speed.ensures.same) in
    subst (λ (jobs : List Job). IsWithinCapacity jobs speed.den c.deref-4.result.now (map (capacity_of speed) c.deref-4.result.now)) (sym (own_jobs c))
    (subst (λ (pieces : List Piece). IsWithinCapacity (contracted_jobs rows removed members) speed.den pieces (map (capacity_of speed) pieces)) (sym (own_stretches c))
    (demand_left rows removed interval members speed c.requires.left.apart c.requires.left.whole (members_wait c)
    (filter_passes (lies_in rows removed interval) c.args.left.now.waiting.now) fast))

pub shares_by_number-requires-clause-members : goal.shares_by_number-requires-clause-members
shares_by_number-requires-clause-members c =
    let own = own_jobs (goal.at.shares_by_number-requires-clause-members c).After-deref-4 in
    subst (All (λ (share : JobShare). share.job < length c.deref-5.result.now)) (sym c.deref-7.ensures.value)
    (λ k d within. omega (
      arith,
      jobs_known c.deref-3.result.now _ _ c.deref-4.result.now _ c.in_ok-served.served.items c.in_ok-served.ensures k d within,
      ap (λ (jobs : List Job). length jobs) own,
      as_many c.args.left.now.rows.now c.args.left.now.taken.now (inside c.args.left.now.rows.now c.args.left.now.taken.now c.args.interval.now c.args.left.now.waiting.now),
      ap (λ (numbers : List ℕ). length numbers) c.deref-5.ensures.value,
      ap (λ (numbers : List ℕ). length numbers) c.requires.members,
    ))

pub shares_by_number-requires-clause-stretches : goal.shares_by_number-requires-clause-stretches
shares_by_number-requires-clause-stretches c =
    subst (All (λ (share : JobShare). share.stretch < length c.deref-6.result.now)) (sym c.deref-7.ensures.value)
    (λ k d within. omega (
      arith,
      c.in_ok-served.ensures.known k d within,
      ap (λ (pieces : List Piece). length pieces) (c.deref-4.ensures.value ∙ c.in_ok-pieces.ensures),
      length-map c.deref-2.result.now (λ k. contracted_stretch c.args.left.now.taken.now (nth_stretch c.args.left.now.timeline.now k)),
      ap (λ (numbers : List ℕ). length numbers) c.deref-2.ensures.value,
      ap (λ (numbers : List ℕ). length numbers) c.deref-6.ensures.value,
    ))

pub returns : goal.returns
returns c =
    let rows = c.args.left.now.rows.now in
    let removed = c.args.left.now.taken.now in
    let interval = c.args.interval.now in
    let members = c.args.members.items in
    let numbers = c.in_ok-stretches.stretches.items in
    let speed = c.reduced-speed.result in
    let served = c.in_ok-served.served.items in
    let jobs_are : c.deref-3.result.now ≡ contracted_jobs rows removed members =
    c.deref-3.ensures.value ∙ c.in_ok-inside.ensures ∙ ap (λ (ns : List ℕ). contracted_jobs rows removed ns) c.deref.ensures.value in
    let pieces_are : c.deref-4.result.now ≡ contracted_stretches (stretches rows) removed numbers =
    c.deref-4.ensures.value ∙ c.in_ok-pieces.ensures
    ∙ left_are rows c.args.left.now.timeline.now removed c.deref-2.result.now numbers c.requires.left.all_stretches c.deref-2.ensures.value in
    let densest = is_densest rows removed c.args.left.now.waiting.now interval c.requires.left.can_wait c.requires.critical c.requires.left.few in
    let some : 1 ≤ c.from-length.result = omega (arith, c.from-length.ensures, densest.forward) in
    let own_speed : speed ≡ speed_of (record { work = interval.work; length = c.from-length.result }) =
    speed_is interval.work c.from-length.result speed some c.reduced-speed.ensures.kept.has_parts (rw c.new.ensures.value at c.reduced-speed.ensures.same) c.reduced-speed.ensures.lowest in
    record {
      group = ap (λ (n : ℕ). record { work = interval.work; length = n }) c.from-length.ensures;
      members = c.requires.members;
      own_stretches = stretches_are rows c.args.left.now.timeline.now removed interval numbers c.requires.left.all_stretches c.in_ok-stretches.ensures;
      served = served;
      serves = filled_as c.deref-3.result.now (contracted_jobs rows removed members) c.deref-4.result.now (contracted_stretches (stretches rows) removed numbers) speed
          (speed_of (record { work = interval.work; length = c.from-length.result })) (length members) served jobs_are pieces_are own_speed (as_many rows removed members)
          c.in_ok-served.ensures;
      shares = c.in_ok-shares.ensures ∙ ap (λ (ns : List ℕ). map (share_of_members ns c.deref-6.result.now) c.deref-7.result.now) c.deref-5.ensures.value
          ∙ ap (λ (ns : List ℕ). map (share_of_members members ns) c.deref-7.result.now) c.deref-6.ensures.value
          ∙ ap (λ (shares : List JobShare). map (share_of_members members numbers) shares) c.deref-7.ensures.value;
    }
