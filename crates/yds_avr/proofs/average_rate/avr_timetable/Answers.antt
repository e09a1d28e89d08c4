use Rattle.yds_avr.proofs.Terms.{ok_run}
use Rattle.yds_avr.proofs.average_rate.avr_timetable.Goals as goal

pub returns-clause-run : goal.returns-clause-run
returns-clause-run c =
    ok_run c.args.rows.now c.args.grid _ _ c.serve_policy.result c.requires.some_grid c.serve_policy.ensures.rows c.serve_policy.ensures.run

pub serve_policy-requires-clause-keeps : goal.serve_policy-requires-clause-keeps
serve_policy-requires-clause-keeps c = record {
  grid_in_range = c.requires.grid_in_range;
  same = c.in_ok-roster.ensures.same;
  stands = λ later from less. c.in_ok-roster.ensures.stands _;
}
