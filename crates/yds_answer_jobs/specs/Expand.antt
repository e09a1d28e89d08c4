-- The text of the jobs of periodic tasks.
use Rattle.std.specs.Prelude.{ℕ, List}
use Rattle.yds_model.specs.ExpandAnswer.{expansion_text}
use Rattle.yds_answer_jobs.specs.declared.expand.Expansion.{Expansion}

abbrev pub expanded_text : Expansion → List ℕ
expanded_text expansion = expansion_text expansion.tasks
