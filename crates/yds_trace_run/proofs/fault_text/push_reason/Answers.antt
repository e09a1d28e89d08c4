use Rattle.yds_model.proofs.Common.{◌++◌, codes, Some}
use Rattle.yds_trace_text.specs.Text.{reason_text}
use Rattle.yds_trace_run.specs.FaultText.{remedy}
use Rattle.yds_trace_run.proofs.Joined.{behind, same_piece}
use Rattle.yds_trace_run.proofs.fault_text.push_reason.Goals as goal

pub returns-clause-text : goal.returns-clause-text
returns-clause-text c =
    behind c.args.line.now.bytes c.push_str-2.new.self.bytes c.push_str-3.new.self.bytes (reason_text (Some c.args.reason) ++ codes "); ") (remedy c.args.reason)
    (behind c.args.line.now.bytes c.push_str.new.self.bytes c.push_str-2.new.self.bytes (reason_text (Some c.args.reason)) (codes "); ")
    (same_piece c.args.line.now.bytes c.push_str.new.self.bytes c.reason_words.result.now (reason_text (Some c.args.reason)) c.push_str.ensures.bytes c.reason_words.ensures.text)
    c.push_str-2.ensures.bytes)
    (same_piece c.push_str-2.new.self.bytes c.push_str-3.new.self.bytes c.remedy.result.now (remedy c.args.reason) c.push_str-3.ensures.bytes c.remedy.ensures.text)
