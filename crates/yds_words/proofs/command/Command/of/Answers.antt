use Rattle.yds_model.proofs.Common.{arith}
use Rattle.yds_words.proofs.AskedWords.{four_or_more}
use Rattle.yds_words.proofs.command.Command.of.Goals as goal

pub returns-in_default-2-clause-asked : goal.returns-in_default-2-clause-asked
returns-in_default-2-clause-asked c = four_or_more c.args.words.now (omega (arith, c.in_default.len_at_least))
