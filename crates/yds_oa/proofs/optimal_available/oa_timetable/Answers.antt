use Rattle.yds_oa.proofs.Available.{ok_run}
use Rattle.yds_oa.proofs.optimal_available.oa_timetable.Goals as goal

pub returns-clause-run : goal.returns-clause-run
returns-clause-run c =
    ok_run c.args.rows.now c.args.grid _ _ c.serve_policy.result c.requires.some_grid c.serve_policy.ensures.rows c.serve_policy.ensures.run
