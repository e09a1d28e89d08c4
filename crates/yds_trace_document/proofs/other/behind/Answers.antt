use Rattle.base.proofs.Common.{◌∙◌, ap, map, rules}
use Rattle.std.proofs.lemmas.Fn.{filter_same}
use Rattle.yds_trace.specs.Others.{goes_behind}
use Rattle.yds_trace_document.specs.declared.other.Other.{Other as OtherKept}
use Rattle.yds_trace_document.specs.Views.{other_read}
use Rattle.yds_trace_document.proofs.Waits.{filter_of_map}
use Rattle.yds_trace_document.proofs.other.behind.Goals as goal

pub returns : goal.returns
returns c =
    ap (map other_read) (filter_same _ (λ (other : OtherKept). goes_behind c.args.time (other_read other)) _ (λ x b f' k. search rules) _ _ c.retain.ensures.filtered)
    ∙ filter_of_map (goes_behind c.args.time) other_read c.args.others.items
