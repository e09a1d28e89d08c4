use Rattle.yds_trace_text.proofs.Places.{every_job_has_its_place}
use Rattle.yds_trace_text.proofs.laws.every_job_has_its_place.Goals as goal

pub returns : goal.returns
returns c = every_job_has_its_place
