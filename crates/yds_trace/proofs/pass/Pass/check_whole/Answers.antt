use Rattle.base.proofs.Common.{◌≡◌, subst}
use Rattle.yds_trace.specs.Asked.{Asked}
use Rattle.yds_trace.specs.Faults.{whole_fault}
use Rattle.yds_trace.specs.Kept.{IsLines}
use Rattle.yds_trace.specs.Passing.{fault_in}
use Rattle.yds_trace.proofs.pass.Pass.check_whole.Goals as goal

pub returns : goal.returns
returns c = λ asked past boundary at.
    let P : Asked → Type 0 = λ one. IsLines one past c.args.self.now.lines → fault_in c.check_whole.result ≡ whole_fault one past in
    subst P at.same_asked (λ lines. c.check_whole.ensures past lines) at.lines
