use Rattle.yds_model.proofs.Common.{◌++◌, ◌∙◌, sym, ap}
use Rattle.yds_trace.specs.declared.fault.Cause.{Cause}
use Rattle.yds_trace_run.specs.FaultText.{cause_text}
use Rattle.yds_trace_run.proofs.fault_text.push_cause.Goals as goal

pub returns-in-Unseen-clause-text : goal.returns-in-Unseen-clause-text
returns-in-Unseen-clause-text c = c.push_placed.ensures.text ∙ ap (λ (fault : Cause). c.args.line.now.bytes ++ cause_text fault) (sym c.in-Unseen.is)

pub returns-in-ProcessorTooGreat-clause-text : goal.returns-in-ProcessorTooGreat-clause-text
returns-in-ProcessorTooGreat-clause-text c = c.push_str.ensures.bytes ∙ ap (λ (fault : Cause). c.args.line.now.bytes ++ cause_text fault) (sym c.in-ProcessorTooGreat.is)

pub returns-in-TimeTooGreat-clause-text : goal.returns-in-TimeTooGreat-clause-text
returns-in-TimeTooGreat-clause-text c = c.push_str-in-TimeTooGreat.ensures.bytes ∙ ap (λ (fault : Cause). c.args.line.now.bytes ++ cause_text fault) (sym c.in-TimeTooGreat.is)

pub returns-in-TimeGoesBack-clause-text : goal.returns-in-TimeGoesBack-clause-text
returns-in-TimeGoesBack-clause-text c = c.push_str-in-TimeGoesBack.ensures.bytes ∙ ap (λ (fault : Cause). c.args.line.now.bytes ++ cause_text fault) (sym c.in-TimeGoesBack.is)

pub returns-in-EventsLost-clause-text : goal.returns-in-EventsLost-clause-text
returns-in-EventsLost-clause-text c = c.push_str-in-EventsLost.ensures.bytes ∙ ap (λ (fault : Cause). c.args.line.now.bytes ++ cause_text fault) (sym c.in-EventsLost.is)

pub returns-in-UnknownState-clause-text : goal.returns-in-UnknownState-clause-text
returns-in-UnknownState-clause-text c = c.push_str-in-UnknownState.ensures.bytes ∙ ap (λ (fault : Cause). c.args.line.now.bytes ++ cause_text fault) (sym c.in-UnknownState.is)

pub returns-in-TwoThreads-clause-text : goal.returns-in-TwoThreads-clause-text
returns-in-TwoThreads-clause-text c = c.push_str-in-TwoThreads.ensures.bytes ∙ ap (λ (fault : Cause). c.args.line.now.bytes ++ cause_text fault) (sym c.in-TwoThreads.is)

pub returns-in-TwoTasks-clause-text : goal.returns-in-TwoTasks-clause-text
returns-in-TwoTasks-clause-text c = c.push_str-in-TwoTasks.ensures.bytes ∙ ap (λ (fault : Cause). c.args.line.now.bytes ++ cause_text fault) (sym c.in-TwoTasks.is)

pub returns-in-TooLong-clause-text : goal.returns-in-TooLong-clause-text
returns-in-TooLong-clause-text c = c.push_str-in-TooLong.ensures.bytes ∙ ap (λ (fault : Cause). c.args.line.now.bytes ++ cause_text fault) (sym c.in-TooLong.is)

pub returns-in-NoLine-clause-text : goal.returns-in-NoLine-clause-text
returns-in-NoLine-clause-text c = c.push_str-in-NoLine.ensures.bytes ∙ ap (λ (fault : Cause). c.args.line.now.bytes ++ cause_text fault) (sym c.in-NoLine.is)

pub returns-in-LineMissing-clause-text : goal.returns-in-LineMissing-clause-text
returns-in-LineMissing-clause-text c = c.push_str-in-LineMissing.ensures.bytes ∙ ap (λ (fault : Cause). c.args.line.now.bytes ++ cause_text fault) (sym c.in-LineMissing.is)

pub returns-in-SpeedChanged-clause-text : goal.returns-in-SpeedChanged-clause-text
returns-in-SpeedChanged-clause-text c = c.push_str-in-SpeedChanged.ensures.bytes ∙ ap (λ (fault : Cause). c.args.line.now.bytes ++ cause_text fault) (sym c.in-SpeedChanged.is)

pub returns-in-Exited-clause-text : goal.returns-in-Exited-clause-text
returns-in-Exited-clause-text c = c.push_str-in-Exited.ensures.bytes ∙ ap (λ (fault : Cause). c.args.line.now.bytes ++ cause_text fault) (sym c.in-Exited.is)

pub returns-in-NotWoken-clause-text : goal.returns-in-NotWoken-clause-text
returns-in-NotWoken-clause-text c = c.push_str-in-NotWoken.ensures.bytes ∙ ap (λ (fault : Cause). c.args.line.now.bytes ++ cause_text fault) (sym c.in-NotWoken.is)

pub returns-in-Renamed-clause-text : goal.returns-in-Renamed-clause-text
returns-in-Renamed-clause-text c = c.push_str-in-Renamed.ensures.bytes ∙ ap (λ (fault : Cause). c.args.line.now.bytes ++ cause_text fault) (sym c.in-Renamed.is)
