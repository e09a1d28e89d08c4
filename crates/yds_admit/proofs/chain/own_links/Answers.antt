use Rattle.yds_model.proofs.Common.{arith, refl, items_from_collect, YieldsList-from_range}
use Rattle.yds_admit.proofs.chain.own_links.Goals as goal

pub returns : goal.returns
returns c = items_from_collect _ c.collect.ensures.ran
    (YieldsList-from_range 0 c.args.count c.args.count refl (omega arith))
