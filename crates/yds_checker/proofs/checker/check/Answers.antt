use Rattle.yds_checker.proofs.Accepted.{accepted_told, accepted_least}
use Rattle.yds_checker.proofs.checker.check.Goals as goal

pub returns-clause-accepted : goal.returns-clause-accepted
returns-clause-accepted c =
    accepted_told c.args.rows.now c.args.schedule.now.slots c.args.certificate.now c.in_ok-judgement.judgement
    (rw c.requires.jobs at c.in_ok-judgement.ensures.agree) c.in_ok-judgement.ensures.kept c.requires.known c.in_ok-judgement.ensures.exact

pub returns-clause-least : goal.returns-clause-least
returns-clause-least c =
    accepted_least c.args.rows.now c.args.schedule.now.slots c.args.certificate.now c.in_ok-judgement.judgement
    (rw c.requires.jobs at c.in_ok-judgement.ensures.agree) c.in_ok-judgement.ensures.kept c.requires.known c.in_ok-judgement.ensures.exact
