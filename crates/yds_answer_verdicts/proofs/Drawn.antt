-- The jobs that a trial draws.
use Rattle.yds_model.proofs.Common.{◌≡◌, ℕ, zero, suc, ◌+◌, ◌-◌, ◌<◌, ◌≤◌, List, [], ◌∷◌, ◌++◌, length, ap, ◌∙◌, sym, append_assoc, refl, arith, append-nil, Job, next_state, drawn_job, drawn_jobs}
use Rattle.base.specs.declared.limits.TheConstants.{MAX_JOBS, MAX_TRIAL_JOBS}

-- as many jobs are drawn as are asked for
pub length-drawn_jobs : (n state : ℕ) → length (drawn_jobs n state) ≡ n
length-drawn_jobs zero state = refl
length-drawn_jobs (suc n) state = omega (arith, length-drawn_jobs n (next_state (next_state (next_state state))))

-- one more job was drawn
pub drawn_more : (jobs i state next : ℕ) (job : Job) (old new all : List Job) → i < jobs → job ≡ drawn_job state
    → next ≡ next_state (next_state (next_state state)) → new ≡ old ++ job ∷ [] → old ++ drawn_jobs (jobs - i) state ≡ all
    → new ++ drawn_jobs (jobs - (i + 1)) next ≡ all
drawn_more jobs i state next job old new all within is_job is_next is_new drawn =
    let left : suc (jobs - (i + 1)) ≡ jobs - i = omega arith in
    ap (λ l. l ++ drawn_jobs (jobs - (i + 1)) next) is_new ∙ append_assoc old (job ∷ []) (drawn_jobs (jobs - (i + 1)) next)
    ∙ ap (λ j. old ++ j ∷ drawn_jobs (jobs - (i + 1)) next) is_job ∙ ap (λ s. old ++ drawn_job state ∷ drawn_jobs (jobs - (i + 1)) s) is_next
    ∙ ap (λ n. old ++ drawn_jobs n state) left ∙ drawn

-- all jobs were drawn
pub drawn_all : (jobs i state : ℕ) (rows all : List Job) → jobs ≤ i → rows ++ drawn_jobs (jobs - i) state ≡ all → rows ≡ all
drawn_all jobs i state rows all done drawn =
    let none : 0 ≡ jobs - i = omega arith in sym (append-nil rows) ∙ ap (λ n. rows ++ drawn_jobs n state) none ∙ drawn

-- they are few enough to be planned
pub few_drawn : (rows : List Job) (jobs seed : ℕ) → rows ≡ drawn_jobs jobs seed → jobs ≤ MAX_TRIAL_JOBS → length rows ≤ MAX_JOBS
few_drawn rows jobs seed drawn few = omega (arith, ap length drawn, length-drawn_jobs jobs seed)
