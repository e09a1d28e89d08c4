use Rattle.base.proofs.Common.{◌<◌, length, None, arith}
use Rattle.yds_trace_document.specs.Views.{judged_read}
use Rattle.yds_trace_text.specs.Limit.{reason_in}
use Rattle.yds_trace_text.proofs.Read.{read_at}
use Rattle.yds_trace_text.proofs.limit.reason_at.Goals as goal

pub returns-in-Some : goal.returns-in-Some
returns-in-Some c =
    let within : c.args.place < length c.args.judged.now = let test = c.in-Some.ensures.lookup.0 in grind arith in
    read_at judged_read reason_in c.args.judged.now c.args.place None c.in-Some.one.now within c.in-Some.ensures.lookup.1
