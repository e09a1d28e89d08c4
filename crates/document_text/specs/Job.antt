-- The lines of the jobs from a place on.
use Rattle.std.specs.Prelude.{ℕ, List, drop}
use Rattle.std.specs.List.{flat_map, zip}
use Rattle.yds_model.specs.Text.{job_line}
use Rattle.yds_instance.specs.Named.{Named}

abbrev pub job_lines_from : ℕ → Named → List ℕ
job_lines_from place instance = flat_map (λ named. job_line named.0 named.1) (drop place (zip instance.names instance.jobs))
