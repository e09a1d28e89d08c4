-- How an engine is made: nobody has arrived, and nothing is served.
use Rattle.yds_model.proofs.Common.{◌≡◌, ℕ, ◌≤◌, List, length, slice_index, replicate, arith, All, IsPermutation, IsNonDecreasingBy, le-ltb, length-replicate, Job, IsJob}
use Rattle.base.specs.declared.limits.TheConstants.{MAX_JOBS}
use Rattle.yds_edf.specs.declared.due_order.Due.{Due}
use Rattle.yds_edf.specs.declared.pending.PendingJobs.{PendingJobs}
use Rattle.yds_edf.specs.declared.limits.TheConstants.{MAX_GRAIN}
use Rattle.yds_edf.specs.DueOrder.{due_jobs}
use Rattle.yds_edf.specs.Serving.{AreTies}
use Rattle.yds_edf.specs.Queue.{new_queue}
use Rattle.yds_edf.specs.Ranked.{AreRanked}
use Rattle.yds_edf.specs.Engine.{IsEngine}
use Rattle.yds_edf.proofs.PlacedSums.{none_at}

pub made : (jobs : List Job) (ties : List ℕ) (grain : ℕ) (arrivals : List Due) (pending : PendingJobs) → All IsJob jobs →
    length jobs ≤ MAX_JOBS → 1 ≤ grain → grain ≤ MAX_GRAIN → length ties ≡ length jobs → AreTies ties →
    IsPermutation (due_jobs jobs ties) arrivals → IsNonDecreasingBy (λ due. due.release) arrivals → AreRanked jobs ties pending →
    pending.units ≡ replicate (length jobs) 0 → IsEngine (record { queue = new_queue jobs grain; ties = ties }) arrivals 0 pending
made jobs ties grain arrivals pending are few some small as_many apart same rising ranked none = grind (arith, le-ltb, length-replicate, none_at, slice_index)
