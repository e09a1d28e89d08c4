use Rattle.yds_model.proofs.Common.{refl}
use Rattle.yds_port.proofs.Putting.{puts_whole, puts_failed, puts_front, puts_after, whole_after}
use Rattle.yds_answer_points.proofs.compare.write_sides.Goals as goal

pub returns-in_err-write_spent : goal.returns-in_err-write_spent
returns-in_err-write_spent g c =
    let failed = c.from_residual.ensures.0 in
    puts_front _ _ failed (puts_front _ _ failed (puts_failed _ failed refl c.in_err-write_spent.ensures))

pub returns-in_err-write_policy : goal.returns-in_err-write_policy
returns-in_err-write_policy g c =
    let failed = c.from_residual-in_err-write_policy.ensures.0 in
    puts_front _ _ failed (puts_after _ (puts_whole refl c.in_ok-write_spent.ensures) (puts_failed _ failed refl c.in_err-write_policy.ensures))

pub returns : goal.returns
returns g c =
    puts_after _ (whole_after (puts_whole refl c.in_ok-write_spent.ensures) (puts_whole refl c.in_ok-write_policy.ensures)) c.write_policy-2.ensures
