-- `admit` answers once: each job is admitted or isn't, the first interval that is overfull is one, and so is the run of the admitted jobs.
use Rattle.yds_model.proofs.Common.{◌≡◌, ℕ, ◌-◌, ◌*◌, List, [], ◌∷◌, ◌++◌, filter, flat_map, min, sum_by, nat_le, sym, ap, subst, ◌∙◌, arith, inl, inr, Option, All-append, numbers_of, Job, job_at, WrittenSlot, WholeSlot, IsSolid, slots_at, Piece, Document, canonical_text, reading, AskAverageRate, AskOptimalAvailable, AskAdmit, AnswersRequest, is_too_long, Request, Refusal, IsRefusal, IsFirstOverfull, AdmitsAfter, IsAdmittedRun, jobs_with, confined_work, top_capacity, AdmitAnswer, refusal_comment, with_taken}
use Rattle.model_lemmas.proofs.Runs.{run_forward}
use Rattle.model_lemmas.proofs.Scale.{scale_exists}
use Rattle.yds_laws.proofs.Bound.{scale_left, scale_right}
use Rattle.yds_plan_laws.specs.RunsOnce.{RunsAnswerOnce}
use Rattle.yds_plan_laws.proofs.Once.{IsOnce, question_once}
use Rattle.yds_plan_laws.proofs.OneRun.{pending_of, runs_same}
use Rattle.yds_plan_laws.proofs.OnceCompared.{compares_once}
use Rattle.yds_plan_laws.proofs.OnceRun.{average_once, optimal_once, run_written}
use Rattle.yds_plan_laws.proofs.RunsAlong.{ended_by}

-- # Who is admitted

-- the first overfull interval is one
interval_once : (jobs : List Job) (top : ℕ) (numbers : List ℕ) (from to begin end : ℕ) → IsFirstOverfull jobs top numbers from to → IsFirstOverfull jobs top numbers begin end →
    (from ≡ begin) × (to ≡ end)
interval_once jobs top numbers from to begin end first second = elim (first.first begin end second.overfull) [
  | inl before ↦ elim (second.first from to first.overfull) [
    | inl after ↦ absurd (omega (arith, before, after))
    | inr same ↦ absurd (omega (arith, before, same.0))
  ]
  | inr same ↦ elim (second.first from to first.overfull) [
    | inl after ↦ absurd (omega (arith, same.0, after))
    | inr equal ↦ (same.0, omega (arith, same.1, equal.1))
  ]
]

-- a refusal by its parts
abbrev refusal_of : ℕ → ℕ → ℕ → ℕ → Refusal
refusal_of job from to work = record { job = job; from = from; to = to; work = work }

-- so is the refusal of a job
refusal_once : (jobs : List Job) (top : ℕ) (competing : List ℕ) (number : ℕ) (one other : Refusal) → IsRefusal jobs top competing number one → IsRefusal jobs top competing number other →
    one ≡ other
refusal_once jobs top competing number one other first second =
    let interval = interval_once jobs top competing one.from one.to other.from other.to first.interval second.interval in
    let job : one.job ≡ other.job = first.is_job ∙ sym second.is_job in
    let work : one.work ≡ other.work =
    first.is_work ∙ ap (λ n. confined_work jobs competing n one.to) interval.0 ∙ ap (confined_work jobs competing other.from) interval.1 ∙ sym second.is_work in
    ap (λ (n : ℕ). refusal_of n one.from one.to one.work) job ∙ ap (λ (n : ℕ). refusal_of other.job n one.to one.work) interval.0
    ∙ ap (λ (n : ℕ). refusal_of other.job other.from n one.work) interval.1 ∙ ap (λ (n : ℕ). refusal_of other.job other.from other.to n) work

-- and so are all decisions
admission_once : (jobs : List Job) (top : ℕ) (before numbers taken others : List ℕ) (refused more : List Refusal) → AdmitsAfter jobs top before numbers taken refused →
    AdmitsAfter jobs top before numbers others more → (taken ≡ others) × (refused ≡ more)
admission_once jobs top before [] taken others refused more first second = (first.0 ∙ sym second.0, first.1 ∙ sym second.1)
admission_once jobs top before (number ∷ numbers) taken others refused more (inl (serves, later, is, rest)) (inl (serve, next, same, left)) =
    let both = admission_once jobs top (before ++ number ∷ []) numbers later next refused more rest left in
    (is ∙ ap (λ (some : List ℕ). number ∷ some) both.0 ∙ sym same, both.1)
admission_once jobs top before (number ∷ numbers) taken others refused more (inl (serves, later, is, rest)) (inr (fails, refusal, next, same, refuses, left)) = absurd (fails serves)
admission_once jobs top before (number ∷ numbers) taken others refused more (inr (fails, refusal, next, same, refuses, left)) (inl (serves, later, is, rest)) = absurd (fails serves)
admission_once jobs top before (number ∷ numbers) taken others refused more (inr (fails, refusal, next, same, refuses, left)) (inr (none, other, later, is, tells, rest)) =
    let both = admission_once jobs top before numbers taken others next later left rest in
    let one : refusal ≡ other = refusal_once jobs top (before ++ number ∷ []) number refusal other refuses tells in
    (both.0, same ∙ ap (λ (some : List Refusal). refusal ∷ some) both.1 ∙ ap (λ (some : Refusal). some ∷ later) one ∙ sym is)

-- # Their run

-- what is served of it is a function of what is pending
abbrev top_of_pending : List Job → ℕ → ℕ → Piece → List WholeSlot → ℕ
top_of_pending jobs top scale stretch ended =
    min (1 * sum_by (pending_of jobs scale ended) (filter (λ job. nat_le (job_at jobs job).release stretch.from) (numbers_of jobs))) (scale * (top * (stretch.to - stretch.from)))

-- so it is set the same where the same has ended
top_local : (jobs : List Job) (top scale : ℕ) (all same : List WholeSlot) (stretch : Piece) → ended_by (stretch.from * scale) all ≡ ended_by (stretch.from * scale) same →
    top_capacity jobs top scale all stretch ≡ top_capacity jobs top scale same stretch
top_local jobs top scale all same stretch equal = ap (top_of_pending jobs top scale stretch) equal

-- the text of the admitted jobs
abbrev text_of_taken : Document → List ℕ → List WrittenSlot → List ℕ
text_of_taken document taken slots = canonical_text (with_taken document taken slots)

-- so the answer is one
admit_once : (document : Document) (top : ℕ) → IsOnce (AdmitAnswer document top)
admit_once document top text other status end first second =
    let both = admission_once document.jobs top [] (numbers_of document.jobs) first.taken second.taken first.refused second.refused first.admission second.admission in
    let jobs = jobs_with document.jobs first.taken in
    let next : IsAdmittedRun jobs top second.slots =
    subst (λ (taken : List ℕ). IsAdmittedRun (jobs_with document.jobs taken) top second.slots) (sym both.0) second.run in
    let scale = scale_exists (first.slots ++ second.slots) (All-append IsSolid first.slots second.slots first.run.run.solid next.run.solid) in
    let left = scale_left scale.0 first.slots second.slots scale.1 in
    let right = scale_right scale.0 first.slots second.slots scale.1 in
    let whole = runs_same jobs 1 scale.0 scale.1.positive (top_capacity jobs top scale.0) (top_local jobs top scale.0) (slots_at scale.0 first.slots) (slots_at scale.0 second.slots)
    (first.run.run.holds scale.0 left) (next.run.holds scale.0 right) in
    let slots = run_written jobs 1 scale.0 first.slots second.slots left right first.is_admitted.possible.slots.fit second.is_admitted.possible.slots.fit
    first.run.denominators next.denominators (run_forward 0 (slots_at scale.0 first.slots) (first.run.run.holds scale.0 left).feasible.one_at_a_time) whole in
    let admitted : first.admitted ≡ second.admitted =
    first.is_admitted.written ∙ ap (λ (taken : List ℕ). text_of_taken document taken first.slots) both.0 ∙ ap (text_of_taken document second.taken) slots ∙ sym second.is_admitted.written in (
      first.said ∙ ap (λ (some : List ℕ). some ++ flat_map (refusal_comment document top) first.refused) admitted
          ∙ ap (λ (some : List Refusal). second.admitted ++ flat_map (refusal_comment document top) some) both.1 ∙ sym second.said,
      first.ended ∙ sym second.ended,
    )

-- # The law

-- what goes by a policy's run, and `admit`, which has one of its own
pub runs_answer_once : RunsAnswerOnce
runs_answer_once = record {
  average_rate = λ words grid asked input text other status end first second.
      question_once (AskAverageRate grid) (λ document. average_once document grid) (is_too_long input) (reading input) text other status end
      (subst (λ (request : Option Request). AnswersRequest request input text status) asked first)
      (subst (λ (request : Option Request). AnswersRequest request input other end) asked second);
  optimal_available = λ words grid asked input text other status end first second.
      question_once (AskOptimalAvailable grid) (λ document. optimal_once document grid) (is_too_long input) (reading input) text other status end
      (subst (λ (request : Option Request). AnswersRequest request input text status) asked first)
      (subst (λ (request : Option Request). AnswersRequest request input other end) asked second);
  compare = compares_once;
  admit = λ words top asked input text other status end first second.
      question_once (AskAdmit top) (λ document. admit_once document top) (is_too_long input) (reading input) text other status end
      (subst (λ (request : Option Request). AnswersRequest request input text status) asked first)
      (subst (λ (request : Option Request). AnswersRequest request input other end) asked second);
}
