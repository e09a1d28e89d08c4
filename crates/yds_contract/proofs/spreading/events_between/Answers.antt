use Rattle.yds_contract.proofs.Cutting.{counts_rise, between_counts}
use Rattle.yds_contract.proofs.spreading.events_between.Goals as goal

pub slice_bounds-result-count : goal.slice_bounds-result-count
slice_bounds-result-count c =
    counts_rise c.args.events.now c.args.after c.args.upto c.count_upto-first.result c.count_upto-last.result c.requires.forward c.count_upto-first.ensures c.count_upto-last.ensures

pub returns : goal.returns
returns c =
    between_counts c.args.events.now c.args.after c.args.upto c.count_upto-first.result c.count_upto-last.result c.requires.forward c.count_upto-first.ensures
    c.count_upto-last.ensures
