use Rattle.yds_model.proofs.Common.{◌≡◌, length, drop}
use Rattle.yds_timetable.specs.Timetable.{slots_of}
use Rattle.yds_round.specs.Rounded.{written_to}
use Rattle.yds_round.proofs.rounding.round_slots.Given as goal

abbrev pub invariant-loop-number : goal.invariant-loop-number
invariant-loop-number l = record {
  written : l.rounded ≡ record { jobs = length l.rows; slots = written_to l.paces l.plan.timetable l.plan.level_of_stretch.items l.number };
  rest : l.rest ≡ slots_of (drop l.number l.plan.timetable);
}
