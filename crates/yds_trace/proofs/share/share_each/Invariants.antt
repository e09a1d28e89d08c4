use Rattle.base.proofs.Common.{◌≡◌, ℕ, ◌<◌, ◌≤◌, get_or, vec_len}
use Rattle.yds_trace.specs.declared.job.Job.{Job as JobKept}
use Rattle.yds_trace.specs.Document.{share_of}
use Rattle.yds_trace.specs.Views.{asked_read, job_read}
use Rattle.yds_trace.proofs.share.share_each.Given as goal

abbrev pub invariant-loop-number : goal.invariant-loop-number
invariant-loop-number l = record {
  many : vec_len l.jobs ≡ vec_len l.initial.jobs;
  below : (k : ℕ) (default : JobKept) → k < l.number → job_read (get_or l.jobs.items k default) ≡ share_of (asked_read l.asked) (job_read (get_or l.initial.jobs.items k default));
  above : (k : ℕ) (default : JobKept) → l.number ≤ k → get_or l.jobs.items k default ≡ get_or l.initial.jobs.items k default;
}
