use Rattle.yds_trace_parts.proofs.Still.{still_kept}
use Rattle.yds_trace_parts.proofs.telling.looks.Goals as goal

pub returns-then-number-eq0-clause-still : goal.returns-then-number-eq0-clause-still
returns-then-number-eq0-clause-still c = λ asked past boundary at counted is.
    still_kept asked past boundary c.args.pass.now c.kept.result c.is_little.result at
    (λ words lines time processor stands. c.kept.ensures words lines time processor stands)
    (λ words lines time enough little. c.is_little.ensures words lines time enough little) is
