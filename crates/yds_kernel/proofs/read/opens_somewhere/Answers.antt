use Rattle.base.proofs.Common.{◌∙◌, sym, ap, arith}
use Rattle.yds_kernel.specs.Line.{opens}
use Rattle.yds_kernel.proofs.Places.{whole_rest, opens_more}
use Rattle.yds_kernel.proofs.read.opens_somewhere.Goals as goal

pub loop-place-preserved : goal.loop-place-preserved
loop-place-preserved c =
    sym (opens_more c.args.bytes.now c.loop-place.place (omega arith)
    (ap opens (sym (whole_rest c.args.bytes.now c.loop-place.place)) ∙ sym c.opens.ensures ∙ c.if-opens.false))
    ∙ c.loop-place.invariant
