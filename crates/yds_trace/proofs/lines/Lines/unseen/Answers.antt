use Rattle.base.proofs.Common.{◌≡◌, ◌∙◌, ℕ, not, is_some, arith, ap}
use Rattle.std.specs.List.{position_from}
use Rattle.std.proofs.lemmas.Iterator.Adapters.{position_from-zero}
use Rattle.yds_trace.specs.Faults.{pid_before}
use Rattle.yds_trace.proofs.Seeing.{unseen_is}
use Rattle.yds_trace.proofs.lines.Lines.unseen.Goals as goal

pub returns : goal.returns
returns c = λ asked past is.
    c.first_unset.ensures
    ∙ position_from-zero not c.deref.result.now
    ∙ ap (position_from not 0) c.deref.ensures.value
    ∙ unseen_is asked past 0 asked.tasks c.args.self.now.seen.items (omega (arith, is.as_many, c.args.self.now.seen.ok.0))
    (λ k n within here.
    let same : k ≡ n = omega arith in
    is.seen k within ∙ ap (λ (number : ℕ). is_some (pid_before asked number past)) same)
