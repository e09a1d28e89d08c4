use Rattle.yds_model.proofs.Common.{arith, last_deadline}
use Rattle.model_lemmas.proofs.Horizon.{releases_from}
use Rattle.yds_events.proofs.first_and_last.horizon.Goals as goal

pub overflow_sub-result : goal.overflow_sub-result
overflow_sub-result c =
    omega (arith, c.last_deadline.ensures, c.first_release.ensures, releases_from c.args.rows.now (last_deadline c.args.rows.now))
