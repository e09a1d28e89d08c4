use Rattle.yds_model.proofs.Common.{ℕ, ◌<◌, [], ◌∷◌, arith, All-nil, All-cons, WrittenSlot}
use Rattle.yds_model.specs.Plan.{IsOver}
use Rattle.yds_slots.proofs.WorkParts.{of_parts_over}
use Rattle.yds_timetable.specs.Shares.{JobShare}
use Rattle.yds_timetable.specs.Pace.{slot_of}
use Rattle.yds_timetable.proofs.tests.lays_a_stretch.Goals as goal

abbrev first : JobShare
first = record { stretch = 1; job = 1; units = 6 }

abbrev last : JobShare
last = record { stretch = 1; job = 0; units = 1 }

abbrev one : ℕ → WrittenSlot
one start = slot_of (record { units = 7; time = 1; grain = 6 }) start 0 first

abbrev two : ℕ → WrittenSlot
two start = slot_of (record { units = 7; time = 1; grain = 6 }) start 6 last

abbrev Over : WrittenSlot → Type 0
Over slot = IsOver 6 slot.work

abbrev Known : JobShare → Type 0
Known share = share.job < 2

pub lay-requires : goal.lay-requires
lay-requires g c = rw (c.in_ok-push-2.ensures.ok, c.in_ok-push.ensures.ok, c.new-timetable.ensures) (record {
  few = omega arith;
  known = All-cons Known first (last ∷ []) (omega arith) (All-cons Known last [] (omega arith) (All-nil Known));
  grains = (
    λ job. 6,
    let start = c.new-stretch.result.from in All-cons Over (one start) (two start ∷ []) (of_parts_over 6 6) (All-cons Over (two start) [] (of_parts_over 1 6) (All-nil Over)),
  );
})
