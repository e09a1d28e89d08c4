use Rattle.yds_model.proofs.Common.{◌≡◌, ◌+◌, ◌-◌, ◌∙◌, sym, ap, arith, length, map, length-map}
use Rattle.yds_search.specs.Views.{group_view}
use Rattle.yds_plan.specs.Drafts.{empty_levels}
use Rattle.yds_plan.proofs.Drafts.{level_below, work_at, length_at, joining, work_within, length_within, empty_length, levels_next, count_next, numbers_next}
use Rattle.yds_plan.proofs.layout.levels.levels_of_groups.Goals as goal
use Rattle.yds_plan.proofs.layout.levels.levels_of_groups.Goals.{After-len}

pub add_group-requires-clause-some : goal.add_group-requires-clause-some
add_group-requires-clause-some c = λ joins.
    let groups = map group_view c.args.groups.now in
    omega (arith, joining groups c.loop-i.i (sym c.joins.ensures ∙ joins), empty_length groups c.loop-i.i, ap length c.loop-i.invariant.drafts)

pub add_group-requires-clause-some_work : goal.add_group-requires-clause-some_work
add_group-requires-clause-some_work c =
    omega (
      arith,
      c.requires.some_work c.loop-i.i (omega (arith, c.loop-i-test.true, length-map c.args.groups.now group_view)),
      work_at c.args.groups.now c.loop-i.i c.loop-i-test.true,
    )

pub add_group-requires-clause-some_length : goal.add_group-requires-clause-some_length
add_group-requires-clause-some_length c =
    omega (
      arith,
      c.requires.some_length c.loop-i.i (omega (arith, c.loop-i-test.true, length-map c.args.groups.now group_view)),
      length_at c.args.groups.now c.loop-i.i c.loop-i-test.true,
    )

pub add_group-requires-clause-work : goal.add_group-requires-clause-work
add_group-requires-clause-work c =
    let groups = map group_view c.args.groups.now in
    rw (c.loop-i.invariant.drafts) (omega (
      arith,
      work_within groups c.loop-i.i (length (empty_levels groups c.loop-i.i) - 1) (omega (arith, c.loop-i-test.true, length-map c.args.groups.now group_view)),
      work_at c.args.groups.now c.loop-i.i c.loop-i-test.true,
      c.requires.work_in_range,
    ))

pub add_group-requires-clause-length : goal.add_group-requires-clause-length
add_group-requires-clause-length c =
    let groups = map group_view c.args.groups.now in
    rw (c.loop-i.invariant.drafts) (omega (
      arith,
      length_within groups c.loop-i.i (length (empty_levels groups c.loop-i.i) - 1) (omega (arith, c.loop-i-test.true, length-map c.args.groups.now group_view)),
      length_at c.args.groups.now c.loop-i.i c.loop-i-test.true,
      c.requires.length_in_range,
    ))

next : (c : After-len) → c.add_group.new.levels.items ≡ empty_levels (map group_view c.args.groups.now) (c.loop-i.i + 1)
next c =
    levels_next c.args.groups.now c.loop-i.i _ c.loop-i.levels.items c.add_group.new.levels.items c.loop-i.numbers.items c.joins.result
    c.loop-i-test.true c.loop-i.invariant c.joins.ensures c.in_ok-add_group.ensures

pub overflow_cast-len : goal.overflow_cast-len
overflow_cast-len c =
    let groups = map group_view c.args.groups.now in
    omega (
      arith,
      c.len.ensures,
      count_next groups c.loop-i.i c.add_group.new.levels.items (next c),
      level_below groups c.loop-i.i,
      c.requires.few,
      length-map c.args.groups.now group_view,
      c.loop-i-test.true,
    )

pub overflow_sub-len : goal.overflow_sub-len
overflow_sub-len c =
    omega (arith, c.len.ensures, count_next (map group_view c.args.groups.now) c.loop-i.i c.add_group.new.levels.items (next c))

pub loop-i-preserved : goal.loop-i-preserved
loop-i-preserved c =
    let levels = next (goal.at.loop-i-preserved c).After-len in
    let groups = map group_view c.args.groups.now in
    record {
      drafts = levels;
      numbered = numbers_next groups c.loop-i.i c.loop-i.numbers.items c.push.new.self.items c.len.result c.loop-i.invariant.numbered
          (omega (arith, c.len.ensures, count_next groups c.loop-i.i c.add_group.new.levels.items levels)) c.in_ok-push.ensures.items;
    }
