use Rattle.yds_model.proofs.Common.{◌++◌, codes}
use Rattle.std.specs.Prelude.{decimal}
use Rattle.yds_trace_run.proofs.Joined.{behind, same_piece}
use Rattle.yds_trace_run.proofs.fault_text.push_us.Goals as goal

pub returns-clause-text : goal.returns-clause-text
returns-clause-text c =
    behind c.args.line.now.bytes c.push_str-2.new.self.bytes c.push_str-3.new.self.bytes (codes "give --us " ++ decimal c.args.us) (codes " and keep --khz, here and for yds-points: then it is the job line of that number")
    (behind c.args.line.now.bytes c.push_str.new.self.bytes c.push_str-2.new.self.bytes (codes "give --us ") (decimal c.args.us)
    c.push_str.ensures.bytes
    (same_piece c.push_str.new.self.bytes c.push_str-2.new.self.bytes c.format.result.now (decimal c.args.us) c.push_str-2.ensures.bytes c.format.ensures.text))
    c.push_str-3.ensures.bytes
