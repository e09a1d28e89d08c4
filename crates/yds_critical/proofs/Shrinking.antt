-- An interval shrinks to a release and a deadline, and loses none of the work confined to it.
use Rattle.yds_model.proofs.Common.{◌≡◌, ℕ, zero, suc, ◌-◌, ◌<◌, ◌≤◌, ◌≢◌, ◌⊎◌, List, [], ◌∷◌, ◌∙◌, get_or, map, inl, inr, sym, subst, refl, arith, All, Contains, cases_lt, cases_eq, All-cons, All-nil, get_or-map, length-map, Job, IsJob, sum_by_same, sum_by_zero, work_within}
use Rattle.model_lemmas.proofs.Confined.{part_within, part_inside, part_early, part_late}

-- a number stands in a list or differs from each
stands_or_not : (numbers : List ℕ) (number : ℕ) → Contains numbers number ⊎ All (λ other. other ≢ number) numbers
stands_or_not [] number = inr (All-nil (λ other. other ≢ number))
stands_or_not (n ∷ numbers) number = elim (cases_eq n number) [
  | inl same ↦ inl (0, omega arith, same)
  | inr differs ↦ elim (stands_or_not numbers number) [
    | inl (k, within, is) ↦ inl (suc k, omega arith, is)
    | inr none ↦ inr (All-cons (λ other. other ≢ number) n numbers differs none)
  ]
]

no_share : (from to : ℕ) (job : Job) → to ≤ from → job.release < job.deadline → part_within from to job ≡ 0
no_share from to job empty window = elim (cases_lt job.release from) [
  | inl early ↦ part_early from to job early
  | inr late ↦ part_late from to job (omega arith)
]

-- an interval without length confines nothing
pub nothing_within : (jobs : List Job) (from to : ℕ) → All IsJob jobs → to ≤ from → work_within jobs from to ≡ 0
nothing_within jobs from to valid empty = sum_by_zero (part_within from to) jobs (λ k d within. no_share from to (get_or jobs k d) empty (valid k d within).has_window)

-- an interval that ends with a deadline and begins with a release, inside the first one, to which the same work is confined
pub record IsShrunk (jobs : List Job) (from to : ℕ) (start end : ℕ) : Type 0 where
  pub forward : start < end
  pub begins : from ≤ start
  pub ends : end ≤ to
  pub is_release : Contains (map (λ job. job.release) jobs) start
  pub is_deadline : Contains (map (λ job. job.deadline) jobs) end
  pub same : work_within jobs from to ≡ work_within jobs start end

abbrev pub Shrinks : List Job → ℕ → ℕ → Type 0
Shrinks jobs from to = (work_within jobs from to ≡ 0) ⊎ ((start : ℕ) × (end : ℕ) × IsShrunk jobs from to start end)

begins_later : (job : Job) (from to : ℕ) → job.release ≢ from → part_within from to job ≡ part_within (suc from) to job
begins_later job from to differs = elim (cases_lt job.release from) [
  | inl early ↦ part_early from to job early ∙ sym (part_early (suc from) to job (omega arith))
  | inr late ↦ elim (cases_lt to job.deadline) [
    | inl after ↦ part_late from to job after ∙ sym (part_late (suc from) to job after)
    | inr due ↦ part_inside from to job late due ∙ sym (part_inside (suc from) to job (omega arith) due)
  ]
]

ends_earlier : (job : Job) (from to : ℕ) → job.deadline ≢ suc to → part_within from (suc to) job ≡ part_within from to job
ends_earlier job from to differs = elim (cases_lt (suc to) job.deadline) [
  | inl after ↦ part_late from (suc to) job after ∙ sym (part_late from to job (omega arith))
  | inr due ↦ elim (cases_lt job.release from) [
    | inl early ↦ part_early from (suc to) job early ∙ sym (part_early from to job early)
    | inr late ↦ part_inside from (suc to) job late due ∙ sym (part_inside from to job late (omega arith))
  ]
]

wider : (jobs : List Job) (from to from' to' : ℕ) → from ≤ from' → to' ≤ to → work_within jobs from to ≡ work_within jobs from' to' → Shrinks jobs from' to' → Shrinks jobs from to
wider jobs from to from' to' first last same (inl none) = inl (same ∙ none)
wider jobs from to from' to' first last same (inr (start, end, shrunk)) = inr (
  start,
  end,
  record {
    forward = shrunk.forward;
    begins = omega (arith, shrunk.begins);
    ends = omega (arith, shrunk.ends);
    is_release = shrunk.is_release;
    is_deadline = shrunk.is_deadline;
    same = same ∙ shrunk.same;
  },
)

releases_differ : (jobs : List Job) (number : ℕ) → All (λ other. other ≢ number) (map (λ job. job.release) jobs) → All (λ job. job.release ≢ number) jobs
releases_differ jobs number all k d within = subst (λ (n : ℕ). n ≢ number) (get_or-map (λ (job : Job). job.release) jobs k d number within)
    (all k number (omega (arith, length-map jobs (λ (job : Job). job.release))))

deadlines_differ : (jobs : List Job) (number : ℕ) → All (λ other. other ≢ number) (map (λ job. job.deadline) jobs) → All (λ job. job.deadline ≢ number) jobs
deadlines_differ jobs number all k d within = subst (λ (n : ℕ). n ≢ number) (get_or-map (λ (job : Job). job.deadline) jobs k d number within)
    (all k number (omega (arith, length-map jobs (λ (job : Job). job.deadline))))

-- the last end is a deadline, or the interval ends earlier
shrink_end : (jobs : List Job) (from to : ℕ) → All IsJob jobs → Contains (map (λ job. job.release) jobs) from → Shrinks jobs from to
shrink_end jobs from zero valid begins = inl (nothing_within jobs from zero valid (omega arith))
shrink_end jobs from (suc to) valid begins = elim (cases_lt from (suc to)) [
  | inr empty ↦ inl (nothing_within jobs from (suc to) valid empty)
  | inl forward ↦ elim (stands_or_not (map (λ job. job.deadline) jobs) (suc to)) [
    | inl ends ↦ inr (from, suc to, record { forward = forward; begins = omega arith; ends = omega arith; is_release = begins; is_deadline = ends; same = refl })
    | inr none ↦ wider jobs from (suc to) from to (omega arith) (omega arith)
        (sum_by_same (part_within from (suc to)) (part_within from to) jobs (λ k d within. ends_earlier (get_or jobs k d) from to (deadlines_differ jobs (suc to) none k d within)))
        (shrink_end jobs from to valid begins)
  ]
]

shrink_within : (n : ℕ) (jobs : List Job) (from to : ℕ) → All IsJob jobs → to - from ≤ n → Shrinks jobs from to
shrink_within zero jobs from to valid short = inl (nothing_within jobs from to valid (omega arith))
shrink_within (suc n) jobs from to valid short = elim (stands_or_not (map (λ job. job.release) jobs) from) [
  | inl begins ↦ shrink_end jobs from to valid begins
  | inr none ↦ wider jobs from to (suc from) to (omega arith) (omega arith)
      (sum_by_same (part_within from to) (part_within (suc from) to) jobs (λ k d within. begins_later (get_or jobs k d) from to (releases_differ jobs from none k d within)))
      (shrink_within n jobs (suc from) to valid (omega arith))
]

-- each interval confines nothing, or shrinks to a release and a deadline
pub shrinks : (jobs : List Job) (from to : ℕ) → All IsJob jobs → Shrinks jobs from to
shrinks jobs from to valid = shrink_within (to - from) jobs from to valid (omega arith)
