use Rattle.yds_texts.proofs.Within.{read_is_within_limits}
use Rattle.yds_texts.proofs.reading_laws.read_is_within_limits.Goals as goal

pub returns : goal.returns
returns c = read_is_within_limits
