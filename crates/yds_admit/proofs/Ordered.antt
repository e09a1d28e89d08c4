-- One job more among jobs that stand in an order.
use Rattle.yds_model.proofs.Common.{ℕ, List, [], ◌∷◌, ◌++◌, insert, IsNonDecreasingBy, IsPermutation-insert, IsPermutation-trans, IsPermutation-to_front, IsPermutation-append_left, Job}
use Rattle.yds_admit.specs.Orders.{AreOrdered}

-- the order with one job more
pub ordered_more : (jobs by_deadline : List Job) (place : ℕ) (row : Job) → AreOrdered jobs by_deadline →
    IsNonDecreasingBy (λ (job : Job). job.deadline) (insert by_deadline place row) → AreOrdered (jobs ++ row ∷ []) (insert by_deadline place row)
ordered_more jobs by_deadline place row ordered rising = record {
  deadlines = IsPermutation-trans (jobs ++ row ∷ []) (by_deadline ++ row ∷ []) (insert by_deadline place row) (IsPermutation-append_left (row ∷ []) jobs by_deadline ordered.deadlines)
      (IsPermutation-trans (by_deadline ++ row ∷ []) (row ∷ by_deadline) (insert by_deadline place row) (IsPermutation-to_front by_deadline row)
      (IsPermutation-insert by_deadline place row));
  rising = rising;
}
