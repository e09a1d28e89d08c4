use Rattle.yds_model.proofs.Common.{ℕ, List, ◌∙◌, ap, subst, sym, Job, Document, no_document, jobs_with, IsAdmission, IsAdmittedRun, with_taken}
use Rattle.yds_answer_jobs.specs.Admit.{RiseFrom}
use Rattle.yds_instance.specs.Named.{Named}
use Rattle.document_value.specs.Documents.{document_view, points_of}
use Rattle.yds_answer_jobs.proofs.Admitting.{admit_answered, admitted_rise}
use Rattle.yds_answer_jobs.proofs.admit.admit_document.Goals as goal

pub returns : goal.returns
returns c =
    let admission = c.in_ok-admission.admission in
    let of_named : Named → Document = λ named. record no_document {
      names = named.names;
      jobs = named.jobs;
      points = points_of c.args.document.table;
      slots = admission.schedule.slots;
    } in
    let of_taken : List ℕ → Document = λ taken. with_taken (document_view c.args.document) taken admission.schedule.slots in
    admit_answered (document_view c.args.document) c.args.top admission.taken.items admission.refused.items admission.schedule.slots (document_view c.of_slots.result)
    (subst (λ (jobs : List Job). IsAdmission jobs c.args.top admission.taken.items admission.refused.items) c.rows.ensures.jobs c.in_ok-admission.ensures.admission)
    (subst (λ (jobs : List Job). IsAdmittedRun (jobs_with jobs admission.taken.items) c.args.top admission.schedule.slots) c.rows.ensures.jobs c.in_ok-admission.ensures.run)
    c.of_slots.ensures.possible
    (c.of_slots.ensures.shown ∙ ap of_named c.in_ok-instance.ensures ∙ ap of_taken c.deref.ensures.value)

pub chosen-requires-clause-rising : goal.chosen-requires-clause-rising
chosen-requires-clause-rising c =
    subst (RiseFrom 0) (sym c.deref.ensures.value) (admitted_rise _ c.args.top c.in_ok-admission.admission.taken.items c.in_ok-admission.admission.refused.items c.in_ok-admission.ensures.admission)
