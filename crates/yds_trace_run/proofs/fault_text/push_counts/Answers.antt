use Rattle.yds_model.proofs.Common.{◌++◌, codes}
use Rattle.std.specs.Prelude.{decimal}
use Rattle.yds_trace_run.proofs.Joined.{behind, same_piece}
use Rattle.yds_trace_run.proofs.fault_text.push_counts.Goals as goal

pub returns-clause-text : goal.returns-clause-text
returns-clause-text c =
    behind c.args.line.now.bytes c.push_str-3.new.self.bytes c.push_str-4.new.self.bytes (codes "no job can be written: " ++ decimal c.args.left.count ++ codes " of ") (decimal c.args.left.all)
    (behind c.args.line.now.bytes c.push_str-2.new.self.bytes c.push_str-3.new.self.bytes (codes "no job can be written: " ++ decimal c.args.left.count) (codes " of ")
    (behind c.args.line.now.bytes c.push_str.new.self.bytes c.push_str-2.new.self.bytes (codes "no job can be written: ") (decimal c.args.left.count)
    c.push_str.ensures.bytes
    (same_piece c.push_str.new.self.bytes c.push_str-2.new.self.bytes c.format.result.now (decimal c.args.left.count) c.push_str-2.ensures.bytes c.format.ensures.text))
    c.push_str-3.ensures.bytes)
    (same_piece c.push_str-3.new.self.bytes c.push_str-4.new.self.bytes c.format-2.result.now (decimal c.args.left.all) c.push_str-4.ensures.bytes c.format-2.ensures.text)
