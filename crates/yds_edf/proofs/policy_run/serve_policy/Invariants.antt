use Rattle.yds_model.proofs.Common.{◌≡◌}
use Rattle.yds_timetable.specs.Timetable.{shares_of}
use Rattle.yds_edf.proofs.Running.{Running, Tabled, count_rounded}
use Rattle.yds_edf.proofs.policy_run.serve_policy.Given as goal

abbrev pub invariant-loop-number : goal.invariant-loop-number
invariant-loop-number g l = record {
  running : Running l.rows l.grid (g.P.Policy.units l.fn.policy l.rows l.grid) l.number l.queue (shares_of l.timetable);
  tabled : Tabled l.rows l.grid l.number l.timetable;
  counted : l.rounded ≡ count_rounded l.rows l.grid (g.P.Policy.rounds l.fn.policy l.rows l.grid) (shares_of l.timetable) l.number;
  keeps : g.P.Policy.keeps l.policy l.rows l.number;
  units_stay : g.P.Policy.units l.policy ≡ g.P.Policy.units l.fn.policy;
  rounds_stay : g.P.Policy.rounds l.policy ≡ g.P.Policy.rounds l.fn.policy;
}
