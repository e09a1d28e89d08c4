use Rattle.yds_model.proofs.Common.{◌+◌, ◌++◌, codes}
use Rattle.std.specs.Prelude.{decimal}
use Rattle.yds_trace_run.specs.FaultText.{units_text}
use Rattle.yds_trace_run.proofs.Joined.{behind, same_piece}
use Rattle.yds_trace_run.proofs.fault_text.push_work.Goals as goal

pub returns-clause-text : goal.returns-clause-text
returns-clause-text c =
    behind c.args.line.now.bytes c.push_place.new.line.bytes c.push_units.new.line.bytes (codes "written job " ++ decimal (c.args.place + 1)) (codes ": its work is " ++ decimal c.args.work ++ codes ", above 1000000; " ++ units_text c.args.us)
    (behind c.args.line.now.bytes c.push_str.new.self.bytes c.push_place.new.line.bytes (codes "written job ") (decimal (c.args.place + 1))
    c.push_str.ensures.bytes
    c.push_place.ensures.text)
    (behind c.push_place.new.line.bytes c.push_str-4.new.self.bytes c.push_units.new.line.bytes (codes ": its work is " ++ decimal c.args.work ++ codes ", above 1000000; ") (units_text c.args.us)
    (behind c.push_place.new.line.bytes c.push_str-3.new.self.bytes c.push_str-4.new.self.bytes (codes ": its work is " ++ decimal c.args.work) (codes ", above 1000000; ")
    (behind c.push_place.new.line.bytes c.push_str-2.new.self.bytes c.push_str-3.new.self.bytes (codes ": its work is ") (decimal c.args.work)
    c.push_str-2.ensures.bytes
    (same_piece c.push_str-2.new.self.bytes c.push_str-3.new.self.bytes c.format.result.now (decimal c.args.work) c.push_str-3.ensures.bytes c.format.ensures.text))
    c.push_str-4.ensures.bytes)
    c.push_units.ensures.text)
