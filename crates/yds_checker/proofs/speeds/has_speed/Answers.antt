use Rattle.yds_model.proofs.Common.{◌≡◌, ◌<◌, ℕ, length, true, refl, arith, get_or_read, no_written_slot, written_slot_at, no_job, job_at, no_level, level_at}
use Rattle.yds_slots.specs.contracts.slot.Slot.{the_view as view_of}
use Rattle.yds_checker.specs.Speed.{HasSpeedOf}
use Rattle.yds_checker.specs.Home.{home_at}
use Rattle.yds_checker.proofs.OneHome.{fact_in, fact_elsewhere}
use Rattle.yds_checker.proofs.Small.{slot_work_small}
use Rattle.yds_checker.proofs.speeds.has_speed.Goals as goal

pub prove-unreachable-requires : goal.prove-unreachable-requires
prove-unreachable-requires c =
    let rows = c.args.rows.now in
    let slots = c.args.slots.now in
    let here : c.index-slots-s.result ≡ written_slot_at slots c.args.s =
    get_or_read slots c.args.s c.index-slots-s.result c.requires.within c.index-slots-s.is no_written_slot in
    let known : c.slot.inside.job < length rows =
    rw (← c.slot.view_is) at (rw (← here) at (c.requires.agree.known c.args.s no_written_slot c.requires.within)) in
    let row : c.index-rows-slot.result ≡ job_at rows c.slot.inside.job =
    get_or_read rows c.slot.inside.job c.index-rows-slot.result known c.index-rows-slot.is no_job in
    let small = rw (← here, ← c.slot.view_is, ← row, ← c.row.view_is) at
    (slot_work_small rows slots c.args.s c.requires.agree c.requires.slots c.requires.within) in
    omega (arith, small)

pub has_speed_of-requires-clause-forward : goal.has_speed_of-requires-clause-forward
has_speed_of-requires-clause-forward c =
    let here : c.index-slots-s.result ≡ written_slot_at c.args.slots.now c.args.s =
    get_or_read c.args.slots.now c.args.s c.index-slots-s.result c.requires.within c.index-slots-s.is no_written_slot in
    rw here (c.requires.slots.stand c.args.s c.requires.within).forward

pub returns-in-In : goal.returns-in-In
returns-in-In c =
    let levels = c.args.levels.now in
    let slots = c.args.slots.now in
    let here : c.index-slots-s.result ≡ written_slot_at slots c.args.s =
    get_or_read slots c.args.s c.index-slots-s.result c.requires.within c.index-slots-s.is no_written_slot in
    let known : c.slot.inside.job < length c.args.homes.now =
    rw (← c.slot.view_is) at (rw (← here) at (rw (← c.requires.jobs) at (c.requires.agree.known c.args.s no_written_slot c.requires.within))) in
    let stands = c.requires.homes c.slot.inside.job known in
    let level : c.index-levels-level.result ≡ level_at levels c.in-In.level =
    get_or_read levels c.in-In.level c.index-levels-level.result (rw c.in-In.is at stands).1 c.index-levels-level.is no_level in
    rw (← here, ← c.slot.view_is)
    (fact_in levels c.slot.inside.job c.in-In.level (λ (i : ℕ). HasSpeedOf (level_at levels i) (view_of c.slot.inside)) c.has_speed_of.result
    (home_at c.args.homes.now c.slot.inside.job) c.in-In.is stands
    (rw (level, ← c.slot.view_is) at c.has_speed_of.ensures))

pub returns-in-Nowhere : goal.returns-in-Nowhere
returns-in-Nowhere c =
    let levels = c.args.levels.now in
    let slots = c.args.slots.now in
    let here : c.index-slots-s.result ≡ written_slot_at slots c.args.s =
    get_or_read slots c.args.s c.index-slots-s.result c.requires.within c.index-slots-s.is no_written_slot in
    let known : c.slot.inside.job < length c.args.rows.now =
    rw (← c.slot.view_is) at (rw (← here) at (c.requires.agree.known c.args.s no_written_slot c.requires.within)) in
    let stands = c.requires.homes c.slot.inside.job (rw c.requires.jobs known) in
    rw (← here, ← c.slot.view_is)
    (fact_elsewhere levels c.slot.inside.job (λ (i : ℕ). HasSpeedOf (level_at levels i) (view_of c.slot.inside)) true
    (home_at c.args.homes.now c.slot.inside.job) c.in-Nowhere.is stands (c.requires.once c.slot.inside.job known).at_most_once refl)
