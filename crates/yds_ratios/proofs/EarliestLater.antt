-- Earliest deadline first, told of two slots: where the later slot's job was released when the earlier slot began, it isn't due before
-- the earlier slot's job.
use Rattle.yds_model.proofs.Common.{ℕ, zero, suc, ◌*◌, ◌<◌, ◌≤◌, List, [], ◌∷◌, ◌++◌, length, ap, subst, arith, inl, inr, append_assoc, All, sum_by-append, All-nil, All-cons, All-tail, cases_order, if◌then◌else◌, ◌==◌, Job, job_at, WholeSlot, slot_at, no_slot, work_given, RunFrom, MayRun, ComesFirst, EarliestAfter, IsEarliestFirst, IsFeasibleAt}
use Rattle.model_lemmas.proofs.Runs.{run_forward}

-- the slot's job, if it is released by this time, isn't due before
abbrev IsDueLater : List Job → ℕ → ℕ → ℕ → WholeSlot → Type 0
IsDueLater jobs scale time deadline slot = (job_at jobs slot.job).release * scale ≤ time → deadline ≤ (job_at jobs slot.job).deadline

-- what slots give a job, more slots give it too
given_more : (slots others : List WholeSlot) (j : ℕ) → work_given slots j ≤ work_given (slots ++ others) j
given_more slots others j = omega (arith, sum_by-append (λ slot. if j == slot.job then slot.work else 0) slots others)

-- the slots after one that runs now
after_one : (jobs : List Job) (scale : ℕ) (before : List WholeSlot) (time deadline : ℕ) (more slots : List WholeSlot) →
    ((other : ℕ) → other < length jobs → MayRun jobs scale time before other → deadline ≤ (job_at jobs other).deadline) →
    All (λ slot. slot.job < length jobs) slots → EarliestAfter jobs scale (before ++ more) slots → All (IsDueLater jobs scale time deadline) slots
after_one jobs scale before time deadline more [] first known earliest = All-nil (IsDueLater jobs scale time deadline)
after_one jobs scale before time deadline more (slot ∷ slots) first known earliest =
    All-cons (IsDueLater jobs scale time deadline) slot slots
    (λ released. first slot.job (known 0 slot (omega arith)) (record {
      released = released;
      pending = omega (arith, earliest.0.may_run.pending, given_more before more slot.job);
    }))
    (after_one jobs scale before time deadline (more ++ slot ∷ []) slots first (All-tail (λ one. one.job < length jobs) slot slots known)
    (subst (λ (done : List WholeSlot). EarliestAfter jobs scale done slots) (append_assoc before more (slot ∷ [])) earliest.1))

-- who comes first isn't due later
due_first : (jobs : List Job) (first other : ℕ) → ComesFirst jobs first other → (job_at jobs first).deadline ≤ (job_at jobs other).deadline
due_first jobs first other (inl less) = omega (arith, less)
due_first jobs first other (inr same) = omega (arith, same)

-- of two slots at places
by_places : (jobs : List Job) (scale : ℕ) (before slots : List WholeSlot) → All (λ slot. slot.job < length jobs) slots → EarliestAfter jobs scale before slots →
    (s t : ℕ) → s < t → t < length slots → (job_at jobs (slot_at slots t).job).release * scale ≤ (slot_at slots s).from →
    (job_at jobs (slot_at slots s).job).deadline ≤ (job_at jobs (slot_at slots t).job).deadline
by_places jobs scale before [] known earliest s t order within = absurd (omega arith)
by_places jobs scale before (slot ∷ slots) known earliest s zero order within = absurd (omega arith)
by_places jobs scale before (slot ∷ slots) known earliest zero (suc t) order within =
    after_one jobs scale before slot.from (job_at jobs slot.job).deadline (slot ∷ []) slots
    (λ other there may. due_first jobs slot.job other (earliest.0.first other there may))
    (All-tail (λ one. one.job < length jobs) slot slots known) earliest.1 t no_slot (omega arith)
by_places jobs scale before (slot ∷ slots) known earliest (suc s) (suc t) order within =
    by_places jobs scale (before ++ slot ∷ []) slots (All-tail (λ one. one.job < length jobs) slot slots known) earliest.1 s t (omega arith) (omega arith)

-- slots that run from a time on begin then or later
begins_after : (start : ℕ) (slots : List WholeSlot) → RunFrom start slots → (t : ℕ) → t < length slots → start ≤ (slot_at slots t).from
begins_after start [] run t within = absurd (omega arith)
begins_after start (slot ∷ slots) run zero within = run.0
begins_after start (slot ∷ slots) run (suc t) within = omega (arith, run.0, run.1, begins_after slot.to slots run.2 t (omega arith))

-- slots that run one after another: a later place begins when an earlier one has ended
ends_before : (start : ℕ) (slots : List WholeSlot) → RunFrom start slots → (s t : ℕ) → s < t → t < length slots → (slot_at slots s).to ≤ (slot_at slots t).from
ends_before start [] run s t order within = absurd (omega arith)
ends_before start (slot ∷ slots) run s zero order within = absurd (omega arith)
ends_before start (slot ∷ slots) run zero (suc t) order within = begins_after slot.to slots run.2 t (omega arith)
ends_before start (slot ∷ slots) run (suc s) (suc t) order within = ends_before slot.to slots run.2 s t (omega arith) (omega arith)

-- The fact: where one slot begins after another has ended, and its job was released when the other began, it isn't due before the other's job.
pub due_later : (jobs : List Job) (scale : ℕ) (slots : List WholeSlot) → IsFeasibleAt jobs scale slots → IsEarliestFirst jobs scale slots →
    (s t : ℕ) → s < length slots → t < length slots → (slot_at slots s).to ≤ (slot_at slots t).from →
    (job_at jobs (slot_at slots t).job).release * scale ≤ (slot_at slots s).from → (job_at jobs (slot_at slots s).job).deadline ≤ (job_at jobs (slot_at slots t).job).deadline
due_later jobs scale slots feasible earliest s t within inside after released =
    let takes = run_forward 0 slots feasible.one_at_a_time s no_slot within in
    let lasts = run_forward 0 slots feasible.one_at_a_time t no_slot inside in
    elim (cases_order s t) [
      | inl same ↦ absurd (omega (arith, takes, after, ap (λ n. (slot_at slots n).from) same))
      | inr (inl before) ↦ by_places jobs scale [] slots (λ i d there. (feasible.in_windows i d there).known) earliest s t before inside released
      | inr (inr later) ↦ absurd (omega (arith, takes, lasts, after, ends_before 0 slots feasible.one_at_a_time t s later within))
    ]
