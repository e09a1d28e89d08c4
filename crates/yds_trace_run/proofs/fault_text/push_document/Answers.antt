use Rattle.yds_model.proofs.Common.{◌++◌, ◌∙◌, sym, ap}
use Rattle.yds_trace_document.specs.declared.fault.DocumentFault.{DocumentFault}
use Rattle.yds_trace_run.specs.FaultText.{document_text}
use Rattle.yds_trace_run.proofs.fault_text.push_document.Goals as goal

pub returns-in-TooManyJobs-clause-text : goal.returns-in-TooManyJobs-clause-text
returns-in-TooManyJobs-clause-text c = c.push_str.ensures.bytes ∙ ap (λ (fault : DocumentFault). c.args.line.now.bytes ++ document_text fault) (sym c.in-TooManyJobs.is)

pub returns-in-TooManyRuns-clause-text : goal.returns-in-TooManyRuns-clause-text
returns-in-TooManyRuns-clause-text c = c.push_str-in-TooManyRuns.ensures.bytes ∙ ap (λ (fault : DocumentFault). c.args.line.now.bytes ++ document_text fault) (sym c.in-TooManyRuns.is)

pub returns-in-NameTooLong-clause-text : goal.returns-in-NameTooLong-clause-text
returns-in-NameTooLong-clause-text c = c.push_placed.ensures.text ∙ ap (λ (fault : DocumentFault). c.args.line.now.bytes ++ document_text fault) (sym c.in-NameTooLong.is)

pub returns-in-TimeTooGreat-clause-text : goal.returns-in-TimeTooGreat-clause-text
returns-in-TimeTooGreat-clause-text c = c.push_placed-in-TimeTooGreat.ensures.text ∙ ap (λ (fault : DocumentFault). c.args.line.now.bytes ++ document_text fault) (sym c.in-TimeTooGreat.is)

pub returns-in-WorkTooGreat-clause-text : goal.returns-in-WorkTooGreat-clause-text
returns-in-WorkTooGreat-clause-text c = c.push_work.ensures.text ∙ ap (λ (fault : DocumentFault). c.args.line.now.bytes ++ document_text fault) (sym c.in-WorkTooGreat.is)

pub returns-in-SpeedTooCoarse-clause-text : goal.returns-in-SpeedTooCoarse-clause-text
returns-in-SpeedTooCoarse-clause-text c = c.push_placed-in-SpeedTooCoarse.ensures.text ∙ ap (λ (fault : DocumentFault). c.args.line.now.bytes ++ document_text fault) (sym c.in-SpeedTooCoarse.is)

pub returns-in-SpeedTooGreat-clause-text : goal.returns-in-SpeedTooGreat-clause-text
returns-in-SpeedTooGreat-clause-text c = c.push_placed-in-SpeedTooGreat.ensures.text ∙ ap (λ (fault : DocumentFault). c.args.line.now.bytes ++ document_text fault) (sym c.in-SpeedTooGreat.is)

pub returns-in-NoJob-clause-text : goal.returns-in-NoJob-clause-text
returns-in-NoJob-clause-text c = c.push_no_job.ensures.text ∙ ap (λ (fault : DocumentFault). c.args.line.now.bytes ++ document_text fault) (sym c.in-NoJob.is)

pub returns-in-NoJobAnywhere-clause-text : goal.returns-in-NoJobAnywhere-clause-text
returns-in-NoJobAnywhere-clause-text c = c.push_str-in-NoJobAnywhere.ensures.bytes ∙ ap (λ (fault : DocumentFault). c.args.line.now.bytes ++ document_text fault) (sym c.in-NoJobAnywhere.is)

pub returns-in-NotKnown-clause-text : goal.returns-in-NotKnown-clause-text
returns-in-NotKnown-clause-text c = c.push_placed-in-NotKnown.ensures.text ∙ ap (λ (fault : DocumentFault). c.args.line.now.bytes ++ document_text fault) (sym c.in-NotKnown.is)

pub returns-in-Missed-clause-text : goal.returns-in-Missed-clause-text
returns-in-Missed-clause-text c = c.push_placed-in-Missed.ensures.text ∙ ap (λ (fault : DocumentFault). c.args.line.now.bytes ++ document_text fault) (sym c.in-Missed.is)
