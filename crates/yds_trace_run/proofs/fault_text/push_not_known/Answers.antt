use Rattle.yds_model.proofs.Common.{◌+◌, ◌++◌, codes}
use Rattle.std.specs.Prelude.{decimal}
use Rattle.yds_trace_words.specs.Texts.{shown_word}
use Rattle.yds_trace_run.specs.FaultText.{unsure_text}
use Rattle.yds_trace_run.proofs.Joined.{behind}
use Rattle.yds_trace_run.proofs.fault_text.push_not_known.Goals as goal

pub returns-clause-text : goal.returns-clause-text
returns-clause-text c =
    behind c.args.line.now.bytes c.push_place.new.line.bytes c.push_unsure.new.line.bytes (codes "found job " ++ decimal (c.args.place + 1)) (codes ": it isn't known whether " ++ shown_word c.args.name.now ++ codes " is late (" ++ unsure_text c.args.reason)
    (behind c.args.line.now.bytes c.push_str.new.self.bytes c.push_place.new.line.bytes (codes "found job ") (decimal (c.args.place + 1))
    c.push_str.ensures.bytes
    c.push_place.ensures.text)
    (behind c.push_place.new.line.bytes c.push_str-3.new.self.bytes c.push_unsure.new.line.bytes (codes ": it isn't known whether " ++ shown_word c.args.name.now ++ codes " is late (") (unsure_text c.args.reason)
    (behind c.push_place.new.line.bytes c.push_shown.new.line.bytes c.push_str-3.new.self.bytes (codes ": it isn't known whether " ++ shown_word c.args.name.now) (codes " is late (")
    (behind c.push_place.new.line.bytes c.push_str-2.new.self.bytes c.push_shown.new.line.bytes (codes ": it isn't known whether ") (shown_word c.args.name.now)
    c.push_str-2.ensures.bytes
    c.push_shown.ensures.shown)
    c.push_str-3.ensures.bytes)
    c.push_unsure.ensures.text)
