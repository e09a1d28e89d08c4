use Rattle.yds_model.proofs.Common.{◌≡◌, rules, option_copied}
use Rattle.yds_audit.proofs.Feasible.{feasible_told}
use Rattle.yds_audit.proofs.auditor.audit.Goals as goal

pub returns-clause-feasible : goal.returns-clause-feasible
returns-clause-feasible c =
    let same : option_copied c.map.result ≡ option_copied c.args.table = search rules in
    feasible_told c.args.rows.now (option_copied c.args.table) c.args.schedule.now.slots c.verdict_of.result
    (rw c.requires.jobs at c.verdict_of.ensures.agree) (rw same at c.verdict_of.ensures.exact)
