use Rattle.yds_model.proofs.Common.{◌∙◌, ap, arith, refl, on_ok_weaker}
use Rattle.yds_search.proofs.Chosen.{chosen_as, chosen_waits, chosen_few, chosen_windows, chosen_known, chosen_some, chosen_units, chosen_rooms_some, chosen_single, chosen_laid_out, chosen_finished, chosen_split, chosen_cells, chosen_parts, chosen_room}
use Rattle.yds_search.proofs.Laid.{finish_nearer, split_nearer}
use Rattle.yds_search.specs.declared.stack.Size.{Size}
use Rattle.yds_search.proofs.search.Search.advance.Goals as goal

pub total-group-requires : goal.total-group-requires
total-group-requires c =
    let x = chosen_as c.requires.chosen.0 c.args.size c.args.self.now c.requires.chosen.1 c.last-own.result c.last-own.ensures.jobs c.last-own.ensures.stretches in
    let few = chosen_few c.requires.chosen.0 c.args.size c.args.self.now x in
    record { few_jobs = few.0; few_stretches = few.1 }

pub speed_of-speed-requires : goal.speed_of-speed-requires
speed_of-speed-requires c =
    let x = chosen_as c.requires.chosen.0 c.args.size c.args.self.now c.requires.chosen.1 c.last-own.result c.last-own.ensures.jobs c.last-own.ensures.stretches in
    let some = chosen_some c.requires.chosen.0 c.args.size c.args.self.now x c.total-group.result c.total-group.ensures.work c.total-group.ensures.length in
    record { some_work = some.0; some_length = some.1 }

pub fill-requires : goal.fill-requires
fill-requires c =
    let x = chosen_as c.requires.chosen.0 c.args.size c.args.self.now c.requires.chosen.1 c.last-own.result c.last-own.ensures.jobs c.last-own.ensures.stretches in
    let few = chosen_few c.requires.chosen.0 c.args.size c.args.self.now x in
    let units = chosen_units c.requires.chosen.0 c.args.size c.args.self.now x c.total-group.result c.total-group.ensures.work c.total-group.ensures.length in
    record {
      few_jobs = few.0;
      few = few.1;
      windows = chosen_windows c.requires.chosen.0 c.args.size c.args.self.now x;
      rooms_fit = rw c.speed_of-speed.ensures.per_time units.0;
      wants_fit = rw c.speed_of-speed.ensures.per_work units.1;
    }

pub close-requires : goal.close-requires
close-requires c =
    let x = chosen_as c.requires.chosen.0 c.args.size c.args.self.now c.requires.chosen.1 c.last-own.result c.last-own.ensures.jobs c.last-own.ensures.stretches in
    let filled = rw (c.speed_of-speed.ensures.per_time, c.speed_of-speed.ensures.per_work) at c.in_ok-late.ensures in
    let cells = chosen_cells c.requires.chosen.0 c.args.size c.args.self.now x c.total-group.result c.total-group.ensures.work c.total-group.ensures.length _ _ _ filled in
    rw c.deref.ensures.value (omega (arith, cells, (chosen_few c.requires.chosen.0 c.args.size c.args.self.now x).1))

pub split_last-requires : goal.split_last-requires
split_last-requires c =
    let x = chosen_as c.requires.chosen.0 c.args.size c.args.self.now c.requires.chosen.1 c.last-own.result c.last-own.ensures.jobs c.last-own.ensures.stretches in
    let filled = rw (c.speed_of-speed.ensures.per_time, c.speed_of-speed.ensures.per_work) at c.in_ok-late.ensures in
    let cells = chosen_cells c.requires.chosen.0 c.args.size c.args.self.now x c.total-group.result c.total-group.ensures.work c.total-group.ensures.length _ _ _ filled in
    record {
      marks = c.in_ok-close.ensures.marks;
      ranks = c.in_ok-close.ensures.ranks;
      last = (x.parts, x.part, x.last, (rw c.deref.ensures.value at c.in_ok-close.ensures.count) ∙ cells, chosen_windows c.requires.chosen.0 c.args.size c.args.self.now x);
    }

pub add-requires : goal.add-requires
add-requires c =
    let x = chosen_as c.requires.chosen.0 c.args.size c.args.self.now c.requires.chosen.1 c.last-own.result c.last-own.ensures.jobs c.last-own.ensures.stretches in
    let known = chosen_known c.requires.chosen.0 c.args.size c.args.self.now x in
    let filled = rw (c.speed_of-speed.ensures.per_time, c.speed_of-speed.ensures.per_work) at c.in_ok-late.ensures in
    let parts = chosen_parts c.requires.chosen.0 c.args.size c.args.self.now x c.total-group.result c.total-group.ensures.work c.total-group.ensures.length _ _ _ filled c.if-late.false in
    record {
      few = chosen_room c.requires.chosen.0 c.args.size c.args.self.now x;
      jobs = known.0;
      stretches = known.1;
      share_jobs = rw c.deref-else-late.ensures.value (λ i d within. (parts i d within).known);
      share_stretches = rw c.deref-else-late.ensures.value (λ i d within. (parts i d within).known_stretch);
    }

pub add_single-requires : goal.add_single-requires
add_single-requires c =
    let x = chosen_as c.requires.chosen.0 c.args.size c.args.self.now c.requires.chosen.1 c.last-own.result c.last-own.ensures.jobs c.last-own.ensures.stretches in
    let known = chosen_known c.requires.chosen.0 c.args.size c.args.self.now x in
    record {
      few = chosen_room c.requires.chosen.0 c.args.size c.args.self.now x;
      single = omega (arith, ap (λ (size : Size). size.jobs) x.last.size_is, c.if-size-eq1.true);
      fit = rw c.speed_of-speed.ensures.per_time (chosen_units c.requires.chosen.0 c.args.size c.args.self.now x c.total-group.result c.total-group.ensures.work c.total-group.ensures.length).0;
      some = rw c.speed_of-speed.ensures.per_time (chosen_rooms_some c.requires.chosen.0 c.args.size c.args.self.now x c.total-group.result c.total-group.ensures.work c.total-group.ensures.length);
      jobs = known.0;
      stretches = known.1;
    }

pub returns-then-size-eq1-clause-search : goal.returns-then-size-eq1-clause-search
returns-then-size-eq1-clause-search c jobs chosen =
    let x = chosen_as jobs c.args.size c.args.self.now chosen c.last-own.result c.last-own.ensures.jobs c.last-own.ensures.stretches in
    chosen_finished jobs c.args.size c.args.self.now x c.total-group.result c.total-group.ensures.work c.total-group.ensures.length _ _
    (chosen_single jobs c.args.size c.args.self.now x c.total-group.result c.total-group.ensures.work c.total-group.ensures.length
    (omega (arith, ap (λ (size : Size). size.jobs) x.last.size_is, c.if-size-eq1.true)))
    (c.drop_last.ensures x.parts x.part x.last) c.in_ok-add_single.ensures.groups (rw c.speed_of-speed.ensures.per_time at c.in_ok-add_single.ensures.shares)
    c.in_ok-add_single.ensures.job_numbers c.in_ok-add_single.ensures.stretch_numbers

pub returns-then-size-eq1-clause-nearer : goal.returns-then-size-eq1-clause-nearer
returns-then-size-eq1-clause-nearer c =
    let x = chosen_as c.requires.chosen.0 c.args.size c.args.self.now c.requires.chosen.1 c.last-own.result c.last-own.ensures.jobs c.last-own.ensures.stretches in
    finish_nearer x.parts x.part c.args.size c.args.self.now.stack c.drop_last.new.self x.last (c.drop_last.ensures x.parts x.part x.last)
    (chosen_waits c.requires.chosen.0 c.args.size c.args.self.now x).some

pub returns-in_ok-add-clause-search : goal.returns-in_ok-add-clause-search
returns-in_ok-add-clause-search c jobs chosen =
    let x = chosen_as jobs c.args.size c.args.self.now chosen c.last-own.result c.last-own.ensures.jobs c.last-own.ensures.stretches in
    let filled = rw (c.speed_of-speed.ensures.per_time, c.speed_of-speed.ensures.per_work) at c.in_ok-late.ensures in
    chosen_finished jobs c.args.size c.args.self.now x c.total-group.result c.total-group.ensures.work c.total-group.ensures.length _ _
    (chosen_laid_out jobs c.args.size c.args.self.now x c.total-group.result c.total-group.ensures.work c.total-group.ensures.length _ _ _ filled c.if-late.false)
    (c.drop_last-else-late.ensures x.parts x.part x.last) c.in_ok-add.ensures.groups (rw c.deref-else-late.ensures.value at c.in_ok-add.ensures.shares)
    c.in_ok-add.ensures.job_numbers c.in_ok-add.ensures.stretch_numbers

pub returns-in_ok-add-clause-nearer : goal.returns-in_ok-add-clause-nearer
returns-in_ok-add-clause-nearer c =
    let x = chosen_as c.requires.chosen.0 c.args.size c.args.self.now c.requires.chosen.1 c.last-own.result c.last-own.ensures.jobs c.last-own.ensures.stretches in
    finish_nearer x.parts x.part c.args.size c.args.self.now.stack c.drop_last-else-late.new.self x.last (c.drop_last-else-late.ensures x.parts x.part x.last)
    (chosen_waits c.requires.chosen.0 c.args.size c.args.self.now x).some

pub returns-in_ok-close-clause-search : goal.returns-in_ok-close-clause-search
returns-in_ok-close-clause-search c = on_ok_weaker c.split_last.result (λ laid jobs chosen.
    let x = chosen_as jobs c.args.size c.args.self.now chosen c.last-own.result c.last-own.ensures.jobs c.last-own.ensures.stretches in
    let filled = rw (c.speed_of-speed.ensures.per_time, c.speed_of-speed.ensures.per_work) at c.in_ok-late.ensures in
    let cells = chosen_cells jobs c.args.size c.args.self.now x c.total-group.result c.total-group.ensures.work c.total-group.ensures.length _ _ _ filled in
    chosen_split jobs c.args.size c.args.self.now x c.total-group.result c.total-group.ensures.work c.total-group.ensures.length _ _ _ filled _ _ _ c.if-late.true
    (rw c.deref.ensures.value at c.in_ok-close.ensures.closed) (rw c.deref.ensures.value at c.in_ok-close.ensures.count) c.in_ok-close.ensures.marks c.in_ok-close.ensures.ranks
    (laid x.parts x.part x.last ((rw c.deref.ensures.value at c.in_ok-close.ensures.count) ∙ cells)) refl) c.split_last.ensures

pub returns-in_ok-close-clause-nearer : goal.returns-in_ok-close-clause-nearer
returns-in_ok-close-clause-nearer c = on_ok_weaker c.split_last.result (λ laid.
    let x = chosen_as c.requires.chosen.0 c.args.size c.args.self.now c.requires.chosen.1 c.last-own.result c.last-own.ensures.jobs c.last-own.ensures.stretches in
    let filled = rw (c.speed_of-speed.ensures.per_time, c.speed_of-speed.ensures.per_work) at c.in_ok-late.ensures in
    let count = (rw c.deref.ensures.value at c.in_ok-close.ensures.count)
    ∙ chosen_cells c.requires.chosen.0 c.args.size c.args.self.now x c.total-group.result c.total-group.ensures.work c.total-group.ensures.length _ _ _ filled in
    split_nearer x.parts x.part c.args.size c.args.self.now.stack c.split_last.new.self c.close.new.self.marks.items c.close.new.self.ranks.items x.last
    (laid x.parts x.part x.last count) c.in_ok-close.ensures.marks count) c.split_last.ensures
