use Rattle.base.proofs.Common.{map, sym, arith}
use Rattle.yds_trace.specs.Document.{share_of}
use Rattle.yds_trace.specs.Ended.{in_order_of_begin}
use Rattle.yds_trace.specs.Views.{asked_read}
use Rattle.yds_trace.proofs.Shares.{changed_by_places, all_alone}
use Rattle.yds_trace.proofs.share.share_all.Goals as goal

pub returns-then-not-asked : goal.returns-then-not-asked
returns-then-not-asked c = sym (all_alone (asked_read c.args.asked.now) (map in_order_of_begin c.args.tasks.now.items) c.if-not-asked.true)

pub returns : goal.returns
returns c =
    changed_by_places in_order_of_begin (map (share_of (asked_read c.args.asked.now))) c.args.tasks.now.items c.loop-number.tasks.items
    (omega (arith, c.loop-number.invariant.many, c.loop-number.tasks.ok.0, c.args.tasks.now.ok.0))
    (λ k d within. c.loop-number.invariant.below k d (omega arith))
