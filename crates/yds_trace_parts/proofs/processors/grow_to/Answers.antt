use Rattle.base.proofs.Common.{◌≡◌, ℕ, ◌∷◌, ◌++◌, [], length, ◌∙◌, ap, arith}
use Rattle.yds_trace_parts.specs.declared.processors.Processor.{Processor}
use Rattle.yds_trace_parts.proofs.Loops.{grows_first, grows_more, grows_last}
use Rattle.yds_trace_parts.proofs.processors.grow_to.Goals as goal

pub loop-cut-init : goal.loop-cut-init
loop-cut-init c = grows_first c.args.processors.now.items c.args.cut c.args.last

pub loop-cut-preserved : goal.loop-cut-preserved
loop-cut-preserved c =
    let many : c.len-number.result ≡ length c.loop-cut.processors.items = omega (arith, c.len-number.ensures) in
    grows_more c.args.processors.now.items c.loop-cut.processors.items c.push.new.self.items c.args.cut c.args.last (omega (arith, c.len.ensures, c.loop-cut-test.true))
    (c.in_ok-push.ensures.items ∙ ap (λ (n : ℕ). let one : Processor = record { number = n; cut = c.args.cut } in c.loop-cut.processors.items ++ one ∷ []) many)
    c.loop-cut.invariant

pub returns : goal.returns
returns c cuts count is same =
    grows_last c.args.processors.now.items c.loop-cut.processors.items c.args.cut c.args.last (omega (arith, c.len.ensures, c.loop-cut-test.false)) c.loop-cut.invariant
    cuts count is same
