-- The jobs that wait at first, one after another.
use Rattle.yds_model.proofs.Common.{◌≡◌, ℕ, ◌+◌, ◌<◌, ◌≤◌, List, [], ◌∷◌, ◌++◌, length, take, get_or, cond, ◌∙◌, refl, sym, subst, ap, arith, true, false, Bool, filter, not, All, le-leb, lt-leb, append-nil, length-filter_both, All-append, All-cons, All-nil, filter_more, Job, IsJob, job_at}
use Rattle.yds_intensity.specs.DeadlineOrder.{IsDeadlineOrder}
use Rattle.yds_intensity.proofs.Sweeps.{order_length}
use Rattle.yds_textbook.specs.Waiting.{CanWait, job_has_work}

-- the next job has work
pub with_next : (jobs : List Job) (order : List ℕ) (i number : ℕ) (waiting : List ℕ) → i < length order → number ≡ get_or order i 0 →
    number < length jobs → IsJob (job_at jobs number) → 1 ≤ (job_at jobs number).work → waiting ≡ filter (job_has_work jobs) (take i order) →
    All (CanWait jobs []) waiting →
    (waiting ++ number ∷ [] ≡ filter (job_has_work jobs) (take (i + 1) order)) × All (CanWait jobs []) (waiting ++ number ∷ [])
with_next jobs order i number waiting within is known valid work so_far can =
    let passes : job_has_work jobs (get_or order i 0) ≡ true =
    subst (λ (n : ℕ). job_has_work jobs n ≡ true) is (le-leb 1 (job_at jobs number).work work) in
    let next : filter (job_has_work jobs) (take (i + 1) order) ≡ filter (job_has_work jobs) (take i order) ++ get_or order i 0 ∷ [] =
    filter_more (job_has_work jobs) order i 0 within
    ∙ ap (λ (b : Bool). filter (job_has_work jobs) (take i order) ++ cond b (get_or order i 0 ∷ []) []) passes in
    let can_next : CanWait jobs [] number = record { known = known; valid = valid; has_work = work; has_window = omega (arith, valid.has_window) } in (
      ap (λ (xs : List ℕ). xs ++ number ∷ []) so_far ∙ ap (λ (n : ℕ). filter (job_has_work jobs) (take i order) ++ n ∷ []) is ∙ sym next,
      All-append (CanWait jobs []) waiting (number ∷ []) can (All-cons (CanWait jobs []) number [] can_next (All-nil (CanWait jobs []))),
    )

-- or it has none
pub without_next : (jobs : List Job) (order : List ℕ) (i number : ℕ) (waiting : List ℕ) → i < length order → number ≡ get_or order i 0 →
    (job_at jobs number).work ≤ 0 → waiting ≡ filter (job_has_work jobs) (take i order) → waiting ≡ filter (job_has_work jobs) (take (i + 1) order)
without_next jobs order i number waiting within is none so_far =
    let fails : job_has_work jobs (get_or order i 0) ≡ false =
    subst (λ (n : ℕ). job_has_work jobs n ≡ false) is (lt-leb 1 (job_at jobs number).work (omega arith)) in
    so_far ∙ sym (append-nil (filter (job_has_work jobs) (take i order)))
    ∙ sym (filter_more (job_has_work jobs) order i 0 within
    ∙ ap (λ (b : Bool). filter (job_has_work jobs) (take i order) ++ cond b (get_or order i 0 ∷ []) []) fails)

-- no more jobs wait than there are
pub few_wait : (jobs : List Job) (order : List ℕ) → IsDeadlineOrder jobs order → length (filter (job_has_work jobs) order) ≤ length jobs
few_wait jobs order is = omega (
  arith,
  order_length jobs order is,
  length-filter_both (job_has_work jobs) (λ number. not (job_has_work jobs number)) (λ number. refl) order,
)
