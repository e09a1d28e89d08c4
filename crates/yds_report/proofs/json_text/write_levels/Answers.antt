use Rattle.yds_model.proofs.Common.{on_ok_weaker}
use Rattle.yds_report.proofs.Sent.{sent_next, sent_all}
use Rattle.yds_report.proofs.json_text.write_levels.Goals as goal

pub loop-level-preserved : goal.loop-level-preserved
loop-level-preserved g c =
    λ last rest. c.loop-level.invariant last
    (sent_next c.args.levels.now c.loop-level.level-index c.level-item.result _ _ last c.loop-level-test.true c.level-item.is c.in_ok-write_level.ensures rest)

pub returns : goal.returns
returns g c =
    on_ok_weaker c.end_seq.result
    (sent_all c.args.levels.now c.loop-level.level-index _ _ _ _ c.loop-level-test.false c.in_ok-begin_seq.ensures c.loop-level.invariant)
    c.end_seq.ensures
