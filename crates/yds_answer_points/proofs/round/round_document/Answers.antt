use Rattle.yds_model.proofs.Common.{◌≡◌, ◌≤◌, List, [], length, sym, refl, ap, subst, ◌∙◌, inr, Some, None, Job, Fraction, WrittenSlot, Level, IsPlan, IsRounding, Point, with_answer, canonical_text, IsDocument, RoundAnswer}
use Rattle.base.specs.declared.status.Status.TheVariants as statuses
use Rattle.yds_texts.proofs.RoundText.{points_answer}
use Rattle.document_value.specs.Documents.{document_view, points_of}
use Rattle.yds_round.specs.declared.fault.RoundFault.TheVariants as faults
use Rattle.yds_round.specs.Fault.{IsCauseOfRoundFault}
use Rattle.yds_answer_points.proofs.TooSlow.{too_slow_on_points}
use Rattle.yds_answer_points.proofs.round.round_document.Goals as goal

pub returns-in-Err-TooSlow : goal.returns-in-Err-TooSlow
returns-in-Err-TooSlow c =
    let points = sym (ap points_of c.in-Some.is) in
    let cause = rw c.in-Err-TooSlow.field-0-is at c.in-Err-TooSlow.ensures.cause in
    too_slow_on_points (document_view c.args.document) c.in_ok-planned.planned.schedule.slots c.in_ok-planned.planned.certificate c.in-Err-TooSlow.work c.in-Err-TooSlow.length
    c.in-Err-TooSlow.top _ (subst (λ (points : List Point). 1 ≤ length points) points c.points-points.ensures.kept.table.some)
    (subst (λ (jobs : List Job). IsPlan jobs c.in_ok-planned.planned.schedule.slots c.in_ok-planned.planned.certificate) c.rows-rows.ensures.jobs c.in_ok-planned.ensures.plan)
    (subst (λ (points : List Point). IsCauseOfRoundFault c.in_ok-planned.planned.certificate points (faults.TooSlow c.in-Err-TooSlow.work c.in-Err-TooSlow.length c.in-Err-TooSlow.top)) points cause)
    (rw (c.in-Err-TooSlow.work-is, c.in-Err-TooSlow.length-is, c.in-Err-TooSlow.top-is) at c.too_slow_line-line.ensures)

-- a rounding of the same jobs on the same points
rounding_of : (jobs others : List Job) (points same : List Point) (planned : List WrittenSlot) (levels : List Level) (slots : List WrittenSlot) (energy : Fraction) →
    jobs ≡ others → points ≡ same → IsRounding jobs points planned levels slots energy → IsRounding others same planned levels slots energy
rounding_of jobs others points same planned levels slots energy jobs_are points_are rounding =
    subst (λ (ps : List Point). IsRounding others ps planned levels slots energy) points_are
    (subst (λ (js : List Job). IsRounding js points planned levels slots energy) jobs_are rounding)

pub returns-in-Ok : goal.returns-in-Ok
returns-in-Ok c =
    let document = document_view c.args.document in
    let planned = c.in_ok-planned.planned in
    let slots = c.in-Ok.rounded.schedule.slots in
    let energy = c.in-Ok.rounded.energy in
    let points = sym (ap points_of c.in-Some.is) in
    let shown : document_view c.with_answer-document.result ≡ with_answer document slots [] None (Some energy) =
    c.with_answer-document.ensures.shown ∙ ap (λ (levels : List Level). with_answer document slots levels None (Some energy)) c.new-levels.ensures in
    points_answer (RoundAnswer document) document.points (canonical_text (document_view c.with_answer-document.result)) statuses.Done
    (subst (λ (points : List Point). 1 ≤ length points) points c.points-points.ensures.kept.table.some) (inr (record {
      planned = planned.schedule.slots;
      levels = planned.certificate;
      plan = subst (λ (jobs : List Job). IsPlan jobs planned.schedule.slots planned.certificate) c.rows-rows.ensures.jobs c.in_ok-planned.ensures.plan;
      slots = slots;
      energy = energy;
      rounded = rounding_of _ _ _ _ planned.schedule.slots planned.certificate slots energy c.rows-rows.ensures.jobs points c.in-Ok.ensures.rounding;
      said = record {
        possible = subst IsDocument shown c.with_answer-document.ensures.possible;
        written = ap canonical_text shown;
      };
      ended = refl;
    }))
