use Rattle.base.proofs.Common.{ℕ, subst, arith}
use Rattle.yds_trace_threads.specs.declared.threads.Threads.{Threads}
use Rattle.yds_trace_threads.specs.Acts.{acts}
use Rattle.yds_trace_threads.specs.Kept.{IsThreads}
use Rattle.yds_trace_threads.proofs.Facts.{still_on, still_more, still_all}
use Rattle.yds_trace_threads.proofs.tally.close.Goals as goal

pub loop-number-preserved : goal.loop-number-preserved
loop-number-preserved c = λ past at held.
    let threads : Threads = c.close_one.new.threads in
    subst (λ (time : ℕ → ℕ). IsThreads (acts past) time threads) (still_more past c.loop-number.number)
    (c.close_one.ensures past (still_on past c.loop-number.number) held (c.loop-number.invariant past at held))

pub returns : goal.returns
returns c = λ past at held.
    let threads : Threads = c.loop-number.threads in
    subst (λ (time : ℕ → ℕ). IsThreads (acts past) time threads)
    (still_all past c.loop-number.number (omega (arith, c.loop-number-test.false, c.loop-number.auto.number-end)))
    (c.loop-number.invariant past at held)
