-- The slots of the jobs that are counted in a list, and the work of all slots.
use Rattle.yds_model.proofs.Common.{◌≡◌, ℕ, suc, ◌+◌, ◌*◌, ◌<◌, List, length, get_or, ap, arith, sum_by, All, get_or-le-sum_by, count, WholeSlot, work_given, sum_by_same}
use Rattle.model_lemmas.proofs.Horizon.{work_by_jobs}
use Rattle.yds_laws.proofs.Group.{group}

-- slots whose jobs are counted once are all of a group
pub group_once : (f : WholeSlot → ℕ) (members : List ℕ) (slots : List WholeSlot) → All (λ slot. count slot.job members ≡ 1) slots →
    group f members slots ≡ sum_by f slots
group_once f members slots once =
    sum_by_same (λ slot. count slot.job members * f slot) f slots (λ k d inside. omega (arith, ap (λ n. n * f (get_or slots k d)) (once k d inside)))

-- slots that give each job the same do the same work
pub same_work : (slots others : List WholeSlot) → ((job : ℕ) → work_given slots job ≡ work_given others job) →
    sum_by (λ slot. slot.work) slots ≡ sum_by (λ slot. slot.work) others
same_work slots others same =
    let jobs = sum_by (λ (slot : WholeSlot). slot.job) in
    let n : ℕ = suc (jobs slots + jobs others) in
    let known = λ (all : List WholeSlot) (few : jobs all < n) (k : ℕ) (d : WholeSlot) (inside : k < length all).
    let less : (get_or all k d).job < n = omega (arith, few, get_or-le-sum_by (λ (slot : WholeSlot). slot.job) all k d inside) in less in
    work_by_jobs slots others n (known slots (omega arith)) (known others (omega arith)) (λ job below. same job)
