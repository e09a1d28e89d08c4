use Rattle.base.proofs.Common.{◌≡◌, ℕ, ◌<◌, ◌≤◌, Global, map, get_or, vec_len}
use Rattle.std.specs.Prelude.{Vec}
use Rattle.yds_trace.specs.declared.job.Job.{Job as JobKept}
use Rattle.yds_trace.specs.Document.{share_of}
use Rattle.yds_trace.specs.Ended.{in_order_of_begin}
use Rattle.yds_trace.specs.Views.{asked_read}
use Rattle.yds_trace.proofs.share.share_all.Given as goal

abbrev pub invariant-loop-number : goal.invariant-loop-number
invariant-loop-number l = record {
  many : vec_len l.tasks ≡ vec_len l.initial.tasks;
  below : (k : ℕ) (default : Vec JobKept Global) → k < l.number → in_order_of_begin (get_or l.tasks.items k default) ≡ map (share_of (asked_read l.asked)) (in_order_of_begin (get_or l.initial.tasks.items k default));
  above : (k : ℕ) (default : Vec JobKept Global) → l.number ≤ k → get_or l.tasks.items k default ≡ get_or l.initial.tasks.items k default;
}
