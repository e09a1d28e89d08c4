use Rattle.base.proofs.Common.{◌∙◌, sym, arith}
use Rattle.yds_kernel.proofs.Names.{is_whole}
use Rattle.yds_kernel.proofs.kind.is_name.Goals as goal

pub returns-then-word : goal.returns-then-word
returns-then-word g c = λ yes. is_whole c.args.word.now c.args.name.now (omega arith) (sym c.begins.ensures ∙ yes)
