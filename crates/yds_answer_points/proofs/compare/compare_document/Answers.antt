use Rattle.yds_model.proofs.Common.{◌≤◌, List, length, sym, ap, subst, Job, IsPlan, Point}
use Rattle.document_value.specs.Documents.{document_view, points_of}
use Rattle.yds_round.specs.declared.fault.RoundFault.TheVariants as faults
use Rattle.yds_round.specs.Fault.{IsCauseOfRoundFault, HasFastLevel}
use Rattle.yds_answer_points.proofs.TooSlow.{too_slow_compared}
use Rattle.yds_answer_points.proofs.Compared.{compared_answers}
use Rattle.yds_answer_points.proofs.compare.compare_document.Goals as goal

pub returns-in-Ok : goal.returns-in-Ok
returns-in-Ok c =
    let points = sym (ap points_of c.in-Some.is) in
    let slow : HasFastLevel c.in_ok-certificate.certificate c.in-Some.table → ⊥ = λ fast. absurd (let error = c.in-Ok.ensures.too_slow fast in cc) in
    compared_answers (document_view c.args.document) c.args.grid c.in_ok-certificate.ensures.0 c.in_ok-certificate.certificate c.in-Ok.comparison
    c.rows-rows.result.now c.in-Some.table c.rows-rows.ensures.jobs points c.points-points.ensures.kept.table.some c.in_ok-certificate.ensures.1 slow
    (c.in-Ok.ensures.plan c.in_ok-certificate.ensures.0 c.in_ok-certificate.ensures.1) c.in-Ok.ensures.average_rate c.in-Ok.ensures.optimal_available

pub returns-in-Err-TooSlow : goal.returns-in-Err-TooSlow
returns-in-Err-TooSlow c =
    let points = sym (ap points_of c.in-Some.is) in
    let cause = rw c.in-Err-TooSlow.field-0-is at c.in-Err-TooSlow.ensures.cause in
    too_slow_compared (document_view c.args.document) c.args.grid c.in_ok-certificate.ensures.0 c.in_ok-certificate.certificate c.in-Err-TooSlow.work c.in-Err-TooSlow.length
    c.in-Err-TooSlow.top _ (subst (λ (points : List Point). 1 ≤ length points) points c.points-points.ensures.kept.table.some)
    (subst (λ (jobs : List Job). IsPlan jobs c.in_ok-certificate.ensures.0 c.in_ok-certificate.certificate) c.rows-rows.ensures.jobs c.in_ok-certificate.ensures.1)
    (subst (λ (points : List Point). IsCauseOfRoundFault c.in_ok-certificate.certificate points (faults.TooSlow c.in-Err-TooSlow.work c.in-Err-TooSlow.length c.in-Err-TooSlow.top)) points cause)
    (rw (c.in-Err-TooSlow.work-is, c.in-Err-TooSlow.length-is, c.in-Err-TooSlow.top-is) at c.too_slow_line-line.ensures)
