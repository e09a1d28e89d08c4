use Rattle.base.proofs.Common.{◌≡◌, ◌∙◌, ◌<◌, ℕ, List, map, length, length-map, get_or, get_or-map, sym, ap, subst, arith}
use Rattle.yds_trace.specs.Document.{Written}
use Rattle.yds_trace_document.specs.declared.written.Written.{Written as WrittenKept}
use Rattle.yds_trace_document.specs.Limits.{works_of}
use Rattle.yds_trace_document.specs.Views.{written_read, written_list}
use Rattle.yds_trace_document.proofs.limits.work_at.Goals as goal

work_read : (jobs : List WrittenKept) (place : ℕ) (job : WrittenKept) → place < length jobs → job ≡ get_or jobs place job →
    job.work ≡ get_or (works_of (written_list jobs)) place 0
work_read jobs place job within is =
    ap (λ (one : WrittenKept). one.work) is
    ∙ ap (λ (one : Written). one.work) (sym (get_or-map written_read jobs place job (written_read job) within))
    ∙ sym (get_or-map (λ (one : Written). one.work) (map written_read jobs) place (written_read job) 0
    (subst (λ (n : ℕ). place < n) (sym (length-map jobs written_read)) within))

pub returns-in-Some : goal.returns-in-Some
returns-in-Some c =
    let within : c.args.place < length c.args.jobs.now = let test = c.in-Some.ensures.lookup.0 in grind arith in
    work_read c.args.jobs.now c.args.place c.in-Some.job.now within c.in-Some.ensures.lookup.1
