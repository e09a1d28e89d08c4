use Rattle.base.proofs.Common.{◌≡◌, subst}
use Rattle.yds_kernel.specs.Views.{said_read}
use Rattle.yds_trace.specs.Asked.{Asked}
use Rattle.yds_trace.specs.Kept.{IsLines, IsCounted}
use Rattle.yds_trace.specs.Parts.{part_fault}
use Rattle.yds_trace.specs.Passing.{fault_in}
use Rattle.yds_trace.specs.Past.{up_to}
use Rattle.yds_trace.proofs.pass.Pass.check_parts.Goals as goal

pub returns : goal.returns
returns c = λ asked past at.
    let P : Asked → Type 0 = λ one. IsLines one past c.args.self.now.lines → IsCounted one (up_to one.to past) c.args.self.now.counted →
    fault_in c.check_parts.result ≡ part_fault one past c.args.cut (said_read c.args.said.now) in
    subst P at.same_asked (λ lines counted. c.check_parts.ensures past lines counted) at.lines at.counted
