-- Of slots, jobs and a table just one verdict is so.
use Rattle.std.proofs.Common.{arith}
use Rattle.yds_model.specs.AuditLaws.{VerdictIsUnique}

-- two verdicts are of one first failure
pub verdict_is_unique : VerdictIsUnique
verdict_is_unique jobs table slots verdict other is is_other = grind arith
