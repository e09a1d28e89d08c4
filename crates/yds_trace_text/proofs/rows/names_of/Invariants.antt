use Rattle.base.proofs.Common.{◌≡◌, take, map}
use Rattle.yds_trace_document.specs.Views.{written_list}
use Rattle.yds_trace_text.specs.Text.{name_of}
use Rattle.yds_trace_text.specs.Views.{names_read}
use Rattle.yds_trace_text.proofs.rows.names_of.Given as goal

abbrev pub invariant-loop-job : goal.invariant-loop-job
invariant-loop-job l = names_read l.names.items ≡ map name_of (written_list (take l.job-index l.jobs))
