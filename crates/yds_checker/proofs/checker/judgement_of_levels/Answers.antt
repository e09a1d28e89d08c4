use Rattle.yds_model.proofs.Common.{all_members, MembersHold, OrderHolds, WindowsHold}
use Rattle.yds_checker.specs.Home.{AreHomes, AreSettled}
use Rattle.yds_checker.specs.Standing.{AreInRun}
use Rattle.yds_checker.proofs.Turns.{run_in_turn}
use Rattle.yds_checker.proofs.checker.judgement_of_levels.Goals as goal
use Rattle.yds_checker.proofs.checker.judgement_of_levels.Goals.{After-first_wrong_sums, After-first_uncovered, After-first_wrong_speed}

-- where the jobs are noted
homes : (c : After-first_wrong_sums) → AreHomes c.args.levels.now (all_members c.args.levels.now) c.deref.result.now
homes c = rw c.deref.ensures.value c.in_ok-homes.ensures.homes

-- what holds before the sums are looked at
members : (c : After-first_wrong_sums) → MembersHold c.args.rows.now c.args.slots.now c.args.levels.now
members c =
    let found = rw c.in-Apart.is at c.in_ok-placed.ensures in
    ((c.requires.feasible, found.0), c.in_default.ensures c.args.levels.now (homes c))

-- where each job stands, and the pieces in rising order
settled : (c : After-first_uncovered) → AreSettled c.args.rows.now c.args.levels.now c.deref-2.result.now
settled c =
    let before = (goal.at.After-first_uncovered c).After-first_wrong_sums in
    record {
      few = c.requires.kept.few;
      noted = rw (c.deref-2.ensures.value, ← c.deref.ensures.value) (homes before);
      once = (members before).1;
    }

in_run : (c : After-first_uncovered) → AreInRun c.args.levels.now c.in_ok-run.run'
in_run c =
    let found = rw c.in-Apart.is at c.in_ok-placed.ensures in rw c.in_ok-run.ensures found.1

-- what holds before the windows are looked at
order : (c : After-first_uncovered) → OrderHolds c.args.rows.now c.args.slots.now c.args.levels.now
order c =
    ((members (goal.at.After-first_uncovered c).After-first_wrong_sums, c.in_default-first_wrong_sums.ensures), c.in_default-first_faster.ensures)

-- and before the speeds are
windows : (c : After-first_wrong_speed) → WindowsHold c.args.rows.now c.args.slots.now c.args.levels.now
windows c =
    let before = (goal.at.After-first_wrong_speed c).After-first_uncovered in
    (order before, c.in_default-first_uncovered.ensures c.args.levels.now (settled before) (in_run before))

pub returns-in-Some-first_wrong_sums : goal.returns-in-Some-first_wrong_sums
returns-in-Some-first_wrong_sums c =
    (members (goal.at.returns-in-Some-first_wrong_sums c).After-first_wrong_sums, c.in-Some-first_wrong_sums.ensures)

pub returns-in-Some-first_faster : goal.returns-in-Some-first_faster
returns-in-Some-first_faster c =
    ((members (goal.at.returns-in-Some-first_faster c).After-first_wrong_sums, c.in_default-first_wrong_sums.ensures), c.in-Some-first_faster.ensures)

pub new-requires : goal.new-requires
new-requires c =
    let found = rw c.in-Apart.is at c.in_ok-placed.ensures in
    run_in_turn c.args.levels.now c.in-Apart.placed.items found.1

pub returns-in-Some-first_uncovered : goal.returns-in-Some-first_uncovered
returns-in-Some-first_uncovered c =
    let before = (goal.at.returns-in-Some-first_uncovered c).After-first_uncovered in
    (order before, c.in-Some-first_uncovered.ensures c.args.levels.now (settled before) (in_run before))

pub first_wrong_speed-requires-clause-once : goal.first_wrong_speed-requires-clause-once
first_wrong_speed-requires-clause-once c = (members (goal.at.first_wrong_speed-requires-clause-once c).After-first_wrong_sums).1

pub returns-in-Some-first_wrong_speed : goal.returns-in-Some-first_wrong_speed
returns-in-Some-first_wrong_speed c =
    (windows (goal.at.returns-in-Some-first_wrong_speed c).After-first_wrong_speed, c.in-Some-first_wrong_speed.ensures)

pub returns : goal.returns
returns c = (windows (goal.at.returns c).After-first_wrong_speed, c.in_default-first_wrong_speed.ensures)
