use Rattle.yds_model.proofs.Common.{on_ok_weaker}
use Rattle.yds_edf.proofs.Serving.{by_number}
use Rattle.yds_edf.proofs.queue.Queue.serve_into.Goals as goal

pub returns-clause-ok : goal.returns-clause-ok
returns-clause-ok c = rw (← c.self.view_is)
    (on_ok_weaker c.serve.result (λ serves. by_number _ _ _ _ _ c.self.invariant serves) c.serve.ensures.ok)
