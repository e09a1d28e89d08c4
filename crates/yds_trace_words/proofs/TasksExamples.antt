-- Tasks by the word `--tasks`, with what stands behind a deadline, and near misses.
use Rattle.base.proofs.Common.{◌≡◌, ℕ, List, [], ◌∷◌, codes, Some, Ok, refl}
use Rattle.yds_trace.specs.Asked.{Task, Named}
use Rattle.yds_trace_words.specs.declared.fault.Reason.TheVariants as reasons
use Rattle.yds_trace_words.specs.Decimal.{decimal_at}
use Rattle.yds_trace_words.specs.Tasks.{tasks_asked, refuse_task}

-- a task of 16 milliseconds
abbrev paced : ℕ → ℕ → List Task
paced apart period = record { label = codes "a"; thread = Named (codes "a"); deadline = 16000000; apart = apart; period = period } ∷ []

-- its deadline alone, with an APART, and with a period behind that
alone : tasks_asked 10000 (Some (codes "a:16")) ≡ Ok (paced 0 0)
unfolding decimal_at
alone = refl

apart : tasks_asked 10000 (Some (codes "a:16:15")) ≡ Ok (paced 15000000 0)
unfolding decimal_at
apart = refl

both : tasks_asked 10000 (Some (codes "a:16:15:20")) ≡ Ok (paced 15000000 20000000)
unfolding decimal_at
both = refl

-- An empty APART is 0 where a period stands behind it.
period : tasks_asked 10000 (Some (codes "a:16::20")) ≡ Ok (paced 0 20000000)
unfolding decimal_at
period = refl

-- Near misses: without one, it is no time, and a period is above 0.
no_apart : tasks_asked 10000 (Some (codes "a:16:")) ≡ refuse_task 1 reasons.Apart
unfolding decimal_at
no_apart = refl

no_period : tasks_asked 10000 (Some (codes "a:16::")) ≡ refuse_task 1 reasons.Period
unfolding decimal_at
no_period = refl

period_of_nothing : tasks_asked 10000 (Some (codes "a:16::0")) ≡ refuse_task 1 reasons.Period
unfolding decimal_at
period_of_nothing = refl

-- The least one, and what stands behind it.
least : tasks_asked 10000 (Some (codes "a:16::0.000001")) ≡ Ok (paced 0 1)
unfolding decimal_at
least = refl

one_more : tasks_asked 10000 (Some (codes "a:16::20:1")) ≡ refuse_task 1 reasons.Period
unfolding decimal_at
one_more = refl

-- What comes first is refused first.
apart_first : tasks_asked 10000 (Some (codes "a:16:x:0")) ≡ refuse_task 1 reasons.Apart
unfolding decimal_at
apart_first = refl
