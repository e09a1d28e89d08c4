use Rattle.base.proofs.Common.{◌+◌, ◌∙◌, ℕ, Option, Some, subst, sym, ap, fun_ext, add-zero}
use Rattle.yds_trace_threads.specs.declared.act.Holder.{Holder}
use Rattle.yds_trace.specs.Past.{last_time}
use Rattle.yds_trace_threads.specs.declared.threads.Threads.{Threads}
use Rattle.yds_trace_threads.specs.Acts.{acts, had}
use Rattle.yds_trace_threads.specs.Kept.{IsThreads, more_for}
use Rattle.yds_trace_threads.proofs.Facts.{has_still}
use Rattle.yds_trace_threads.proofs.tally.close_one.Goals as goal

pub returns-in-Some : goal.returns-in-Some
returns-in-Some c = λ past more held at.
    let threads : Threads = c.run.new.self in
    subst (λ (time : ℕ → ℕ). IsThreads (acts past) time threads)
    (fun_ext (λ pid. ap (λ (time : ℕ). more_for c.in-Some.holder.pid time more pid) c.saturating_sub.ensures
    ∙ has_still c.in-Some.holder c.args.processors.now.last more pid
    ∙ ap (λ (last : ℕ). more pid + had pid last (Some c.in-Some.holder)) held.last
    ∙ ap (λ (holder : Option Holder). more pid + had pid (last_time past) holder) (c.in-Some.ensures past held)))
    (c.run.ensures (acts past) more at)

pub returns-in_default : goal.returns-in_default
returns-in_default c = λ past more held at.
    let threads : Threads = c.args.threads.now in
    subst (λ (time : ℕ → ℕ). IsThreads (acts past) time threads)
    (fun_ext (λ pid. sym (ap (λ (holder : Option Holder). more pid + had pid (last_time past) holder) (sym (c.in_default.ensures past held)) ∙ add-zero (more pid)))) at
