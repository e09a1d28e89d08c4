-- Slots in windows, and works: what is asked of all slots is asked of each part's, whatever windows are open at the cuts.
use Rattle.yds_model.proofs.Common.{◌≡◌, ℕ, ◌+◌, ◌-◌, ◌*◌, ◌<◌, List, [], ◌∷◌, ◌++◌, length, map, sym, ap, subst, ◌∙◌, arith, inl, inr, All, cases_lt, get_or_append_left, get_or-append-add, length-append, All-nil, All-cons, All-head, All-tail, All-append, All-map, Job, no_job, job_at, WholeSlot, slot_at_scale, slots_at, of_whole, one-dvd, work_given, IsInWindow, All-front, All-back}
use Rattle.model_lemmas.proofs.Scale.{one_scale_decides, scale_exists}
use Rattle.model_lemmas.proofs.Runs.{run_earlier}
use Rattle.yds_energy.proofs.PlanParts.{given_joined}
use Rattle.yds_parts.specs.Parts.{moved, together_at}
use Rattle.yds_parts.proofs.TwoParts.{All-made}
use Rattle.yds_parts.proofs.WrittenParts.{together_is}
use Rattle.yds_cuts.specs.Cuts.{Part, HasOwnSlots, all_jobs, all_slots}
use Rattle.yds_cuts.specs.CutLaws.{FeasibleInEachPart}
use Rattle.yds_cuts.proofs.Renamed.{window_renamed, window_with_own_name, given_renamed, given_none}
use Rattle.yds_cuts.proofs.InTurn.{in_turn_from, run_in_turn, scale_of_each, solid_of_all}

-- at a scale: each slot lies in its job's window, and each job gets its work
pub record IsServed (jobs : List Job) (scale : ℕ) (slots : List WholeSlot) : Type 0 where
  pub in_windows : All (IsInWindow jobs scale) slots
  pub served : (number : ℕ) → number < length jobs → work_given slots number ≡ (job_at jobs number).work * scale

-- # Two parts

module _ (scale : ℕ) (first second : List Job) where
  abbrev n : ℕ
  n = length first

  abbrev jobs : List Job
  jobs = first ++ second

  -- the place of a job of the second part among all
  abbrev place : ℕ → ℕ
  place j = n + j

  first_job : (j : ℕ) → j < n → job_at jobs j ≡ job_at first j
  first_job j known = get_or_append_left first second no_job j known

  second_job : (j : ℕ) → job_at jobs (n + j) ≡ job_at second j
  second_job j = get_or-append-add first second j no_job

  -- a job gets its work from its own part
  only_first : (slots others : List WholeSlot) (number : ℕ) → number < n → work_given (together_at first slots others) number ≡ work_given slots number
  only_first slots others number known = omega (
    arith,
    given_joined slots (map (moved n) others) number,
    given_none number (map (moved n) others) (All-map (λ slot. number ≡ slot.job → ⊥) (moved n) others (λ k d within is. omega (arith, known, is))),
  )

  only_second : (slots others : List WholeSlot) (k : ℕ) → All (λ slot. slot.job < n) slots → work_given (together_at first slots others) (n + k) ≡ work_given others k
  only_second slots others k known = omega (
    arith,
    given_joined slots (map (moved n) others) (n + k),
    given_renamed place (n + k) k others (λ i d within. (λ is. omega (arith, is), λ is. omega (arith, is))),
    given_none (n + k) slots (λ i d within is. omega (arith, known i d within, is)),
  )

  served_together : (slots others : List WholeSlot) → IsServed first scale slots → IsServed second scale others → IsServed jobs scale (together_at first slots others)
  served_together slots others one other = record {
    in_windows = All-append (IsInWindow jobs scale) slots (map (moved n) others)
        (λ k d within. let is = one.in_windows k d within in
        window_renamed (λ j. j) first jobs scale _ (omega (arith, is.known, length-append first second)) (first_job _ is.known) is)
        (All-map (IsInWindow jobs scale) (moved n) others (λ k d within. let is = other.in_windows k d within in
        window_renamed place second jobs scale _ (omega (arith, is.known, length-append first second)) (second_job _) is));
    served = λ number within. elim (cases_lt number n) [
      | inl early ↦ only_first slots others number early ∙ one.served number early ∙ ap (λ (job : Job). job.work * scale) (sym (first_job number early))
      | inr late ↦
          let is : n + (number - n) ≡ number = omega (arith, late) in
          subst (λ i. work_given (together_at first slots others) i ≡ (job_at jobs i).work * scale) is
          (only_second slots others (number - n) (λ k d within. (one.in_windows k d within).known)
          ∙ other.served (number - n) (omega (arith, late, within, length-append first second))
          ∙ ap (λ (job : Job). job.work * scale) (sym (second_job (number - n))))
    ];
  }

  served_first : (slots others : List WholeSlot) → All (λ slot. slot.job < n) slots → IsServed jobs scale (together_at first slots others) → IsServed first scale slots
  served_first slots others known all = record {
    in_windows = λ k d within. window_with_own_name (λ j. j) first jobs scale _ (known k d within) (first_job _ (known k d within))
        (All-front (IsInWindow jobs scale) slots (map (moved n) others) all.in_windows k d within);
    served = λ number within. sym (only_first slots others number within) ∙ all.served number (omega (arith, within, length-append first second))
        ∙ ap (λ (job : Job). job.work * scale) (first_job number within);
  }

  served_second : (slots others : List WholeSlot) → All (λ slot. slot.job < n) slots → IsServed jobs scale (together_at first slots others) → IsServed second scale others
  served_second slots others known all = record {
    in_windows = λ k d within.
        let is = All-made (IsInWindow jobs scale) (moved n) others (All-back (IsInWindow jobs scale) slots (map (moved n) others) all.in_windows) k d within in
        window_with_own_name place second jobs scale _ (omega (arith, is.known, length-append first second)) (second_job _) is;
    served = λ number within. sym (only_second slots others number known) ∙ all.served (n + number) (omega (arith, within, length-append first second))
        ∙ ap (λ (job : Job). job.work * scale) (second_job number);
  }

-- # Any number of parts

-- the slots of a part are so at a scale
own_at : (scale : ℕ) (part : Part) → HasOwnSlots part → All (λ slot. slot.job < length part.jobs) (slots_at scale part.slots)
own_at scale part own = All-map (λ (slot : WholeSlot). slot.job < length part.jobs) (slot_at_scale scale) part.slots (λ k d within. omega (arith, own k d within))

abbrev IsServedPart : ℕ → Part → Type 0
IsServedPart scale part = IsServed part.jobs scale (slots_at scale part.slots)

all_served : (scale : ℕ) (parts : List Part) → All (IsServedPart scale) parts → IsServed (all_jobs parts) scale (slots_at scale (all_slots parts))
all_served scale [] each = record { in_windows = All-nil (IsInWindow [] scale); served = λ number within. absurd (omega (arith, within)) }
all_served scale (part ∷ parts) each =
    subst (IsServed (part.jobs ++ all_jobs parts) scale) (sym (together_is scale part.jobs part.slots (all_slots parts)))
    (served_together scale part.jobs (all_jobs parts) (slots_at scale part.slots) (slots_at scale (all_slots parts)) (All-head (IsServedPart scale) part parts each)
    (all_served scale parts (All-tail (IsServedPart scale) part parts each)))

each_served : (scale : ℕ) (parts : List Part) → All HasOwnSlots parts → IsServed (all_jobs parts) scale (slots_at scale (all_slots parts)) →
    All (IsServedPart scale) parts
each_served scale [] own all = All-nil (IsServedPart scale)
each_served scale (part ∷ parts) own all =
    let known = own_at scale part (All-head HasOwnSlots part parts own) in
    let both = subst (IsServed (part.jobs ++ all_jobs parts) scale) (together_is scale part.jobs part.slots (all_slots parts)) all in
    All-cons (IsServedPart scale) part parts (served_first scale part.jobs (all_jobs parts) (slots_at scale part.slots) (slots_at scale (all_slots parts)) known both)
    (each_served scale parts (All-tail HasOwnSlots part parts own)
    (served_second scale part.jobs (all_jobs parts) (slots_at scale part.slots) (slots_at scale (all_slots parts)) known both))

-- # The law

pub feasible_in_each_part : FeasibleInEachPart
feasible_in_each_part parts own = (
  λ all.
      let scale = scale_exists (all_slots parts) all.solid in
      let whole = all.holds scale.0 scale.1 in
      let run = in_turn_from scale.0 (of_whole 0) parts (one-dvd scale.0) scale.1 (run_earlier _ _ _ (omega arith) whole.one_at_a_time) in
      let served = each_served scale.0 parts own (record { in_windows = whole.in_windows; served = whole.served }) in
      let scales = scale_of_each scale.0 parts scale.1 in (
        run.0,
        λ k d within. one_scale_decides _ _ scale.0 (scales k d within)
            (record { one_at_a_time = run.1 k d within; in_windows = (served k d within).in_windows; served = (served k d within).served }),
      ),
  λ both.
      let solid = solid_of_all parts (λ k d within. (both.1 k d within).solid) in
      let scale = scale_exists (all_slots parts) solid in
      let scales = scale_of_each scale.0 parts scale.1 in
      let each = λ (k : ℕ) (d : Part) (within : k < length parts). (both.1 k d within).holds scale.0 (scales k d within) in
      let served = all_served scale.0 parts (λ k d within. record { in_windows = (each k d within).in_windows; served = (each k d within).served }) in
      one_scale_decides (all_jobs parts) (all_slots parts) scale.0 scale.1 (record {
        one_at_a_time = run_earlier 0 _ _ (omega arith) (run_in_turn scale.0 (of_whole 0) parts (one-dvd scale.0) scale.1 both.0 (λ k d within. (each k d within).one_at_a_time));
        in_windows = served.in_windows;
        served = served.served;
      }),
)
