-- Slots of which each follows those before it: they run one at a time, and by the earliest deadline.
use Rattle.yds_model.proofs.Common.{◌≡◌, ℕ, zero, suc, ◌*◌, ◌<◌, ◌≤◌, ◌==◌, List, [], ◌∷◌, ◌++◌, ◌∙◌, length, sym, refl, ap, arith, inl, inr, cond, All, AllPairs, cases_eq, eq-eqb, ne_eqb, append_assoc, sum_by-cons, sum_by-append, All-head, All-tail, Job, job_at, WholeSlot, slot_at, work_given, LiesIn, stretches, ComesFirst, EarliestAfter}

-- what a slot and a later one are to each other
pub record Follows (jobs : List Job) (scale : ℕ) (one other : WholeSlot) : Type 0 where
  pub after : one.to ≤ other.from
  pub due : (job_at jobs other.job).release * scale ≤ one.from → ComesFirst jobs one.job other.job
  pub apart : one.job ≡ other.job → All (λ stretch. LiesIn scale one stretch → LiesIn scale other stretch → ⊥) (stretches jobs)

abbrev pub StartsFrom : ℕ → WholeSlot → Type 0
StartsFrom start slot = (start ≤ slot.from) × (slot.from < slot.to)

-- a job that slots give work has one of them
abbrev Given : List WholeSlot → ℕ → Type 0
Given slots job = (k : ℕ) × (k < length slots) × ((slot_at slots k).job ≡ job)

given_slot : (slots : List WholeSlot) (job : ℕ) → 1 ≤ work_given slots job → Given slots job
given_slot [] job some = absurd (omega arith)
given_slot (slot ∷ slots) job some = elim (cases_eq job slot.job) [
  | inl same ↦ (0, omega arith, sym same)
  | inr other ↦
      let rest = given_slot slots job (omega (
        arith,
        sum_by-cons (λ (one : WholeSlot). cond (job == one.job) one.work 0) slot slots,
        ap (λ b. cond b slot.work 0) (ne_eqb job slot.job other),
      )) in
      (suc rest.0, omega (arith, rest.1), rest.2)
]

comes_itself : (jobs : List Job) (job : ℕ) → ComesFirst jobs job job
comes_itself jobs job = inr (refl, omega arith)

first_due : (jobs : List Job) (scale : ℕ) (slot : WholeSlot) (slots : List WholeSlot) (other k : ℕ) →
    AllPairs (Follows jobs scale) (slot ∷ slots) → k < length (slot ∷ slots) → (slot_at (slot ∷ slots) k).job ≡ other →
    (job_at jobs other).release * scale ≤ slot.from → ComesFirst jobs slot.job other
first_due jobs scale slot slots other zero pairs within is released = rw (← is) (comes_itself jobs slot.job)
first_due jobs scale slot slots other (suc k) pairs within is released =
    rw (← is) ((pairs 0 (suc k) _ (omega arith) within).due (rw is released))

-- a slot of a released job, in which work is done
pub record Works (jobs : List Job) (scale : ℕ) (slot : WholeSlot) : Type 0 where
  pub known : slot.job < length jobs
  pub released : (job_at jobs slot.job).release * scale ≤ slot.from
  pub some : 1 ≤ slot.work

-- before a slot in which work is done, its job isn't done
pending_before : (before slots : List WholeSlot) (slot : WholeSlot) (whole : ℕ) → 1 ≤ slot.work →
    work_given (before ++ slot ∷ slots) slot.job ≡ whole → work_given before slot.job < whole
pending_before before slots slot whole some served =
    let work = λ (one : WholeSlot). cond (slot.job == one.job) one.work 0 in
    omega (
      arith,
      some,
      served,
      sum_by-append work before (slot ∷ slots),
      sum_by-cons work slot slots,
      ap (λ b. cond b slot.work 0) (eq-eqb slot.job slot.job refl),
    )

pub earliest_after : (jobs : List Job) (scale : ℕ) (all before slots : List WholeSlot) → before ++ slots ≡ all →
    ((other : ℕ) → other < length jobs → work_given all other ≡ (job_at jobs other).work * scale) →
    All (Works jobs scale) slots → AllPairs (Follows jobs scale) slots → EarliestAfter jobs scale before slots
earliest_after jobs scale all before [] is served works pairs = tt
earliest_after jobs scale all before (slot ∷ slots) is served works pairs =
    let here = All-head (Works jobs scale) slot slots works in (
      record {
        may_run = record {
          released = here.released;
          pending = pending_before before slots slot ((job_at jobs slot.job).work * scale) here.some
              (ap (λ some. work_given some slot.job) is ∙ served slot.job here.known);
        };
        first = λ other known may_run.
            let work = λ (one : WholeSlot). cond (other == one.job) one.work 0 in
            let left = given_slot (slot ∷ slots) other (omega (
              arith,
              may_run.pending,
              served other known,
              ap (λ some. work_given some other) is,
              sum_by-append work before (slot ∷ slots),
            )) in
            first_due jobs scale slot slots other left.0 pairs left.1 left.2 may_run.released;
      },
      earliest_after jobs scale all (before ++ slot ∷ []) slots (append_assoc before (slot ∷ []) slots ∙ is) served
          (All-tail (Works jobs scale) slot slots works)
          (λ i j d order within. pairs (suc i) (suc j) d (omega arith) (omega arith)),
    )
