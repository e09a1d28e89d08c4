use Rattle.base.proofs.Common.{◌==◌, rules}
use Rattle.std.proofs.lemmas.Fn.{filter_same}
use Rattle.yds_trace.specs.declared.job.Stretch.{Stretch}
use Rattle.yds_trace.proofs.share.keep_on.Goals as goal

pub returns : goal.returns
returns c = filter_same _ (λ (stretch : Stretch). stretch.processor == c.args.processor) _ (λ x b f' k. search rules) _ _ c.retain.ensures.filtered
