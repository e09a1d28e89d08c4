-- Deciding job by job: what has been decided of the first jobs, and that it goes on as the definition says.
use Rattle.yds_model.proofs.Common.{◌≡◌, ℕ, ◌+◌, take, ◌<◌, ◌≤◌, List, [], ◌∷◌, ◌++◌, length, get_or, drop, ◌∙◌, refl, sym, subst, arith, inl, inr, ap, append_assoc, All, map-append, append-nil, get_or-take, length-take-le, drop_more, drop_all, length_push, All-nil, All-push, get_or-range_with_len, length-range_with_len, Job, IsJob, no_job, job_at, numbers_of, CanServe, jobs_with, IsFirstOverfull, Refusal, IsRefusal, AdmitsAfter, IsAdmission, work_within}
use Rattle.yds_laws.specs.AdmissionLaws.{HasRoom}
use Rattle.yds_laws.proofs.Served.{served_where_room}
use Rattle.yds_admit.specs.State.{IsDecision, Decided}
use Rattle.yds_admit.proofs.Overfull.{numbers_work, first_numbers, room_front}

pub begun : (rows : List Job) (top : ℕ) → Decided rows top 0 [] [] []
begun rows top = grind (arith, All-nil)

module _ (rows : List Job) (top i : ℕ) (taken : List ℕ) (jobs : List Job) (refused : List Refusal) (some_top : 1 ≤ top)
    (within : i < length rows) (decided : Decided rows top i taken jobs refused) (row : Job) (is : row ≡ job_at rows i) (is_job : IsJob row) where
  with_job : jobs ++ row ∷ [] ≡ jobs_with rows (taken ++ i ∷ [])
  with_job = ap (λ (some : List Job). some ++ row ∷ []) decided.same
      ∙ (ap (λ (one : Job). jobs_with rows taken ++ one ∷ []) is ∙ sym (map-append (job_at rows) taken (i ∷ [])))

  next_number : drop i (numbers_of rows) ≡ i ∷ drop (i + 1) (numbers_of rows)
  next_number = drop_more (numbers_of rows) i 0 (omega (arith, length-range_with_len 0 (length rows)))
      ∙ ap (λ n. n ∷ drop (i + 1) (numbers_of rows)) (let it : get_or (numbers_of rows) i 0 ≡ i = omega (arith, get_or-range_with_len 0 (length rows) i 0 within) in it)

  all_jobs : All IsJob (jobs ++ row ∷ [])
  all_jobs = All-push IsJob jobs row decided.are is_job

  served_with : HasRoom top (jobs ++ row ∷ []) → CanServe top (jobs_with rows (taken ++ i ∷ []))
  served_with room = subst (CanServe top) with_job ((served_where_room top (jobs ++ row ∷ []) some_top all_jobs).1 room)

  -- the job is admitted
  pub takes : HasRoom top (jobs ++ row ∷ []) → Decided rows top (i + 1) (taken ++ i ∷ []) (jobs ++ row ∷ []) refused
  takes room = record {
    same = with_job;
    few = omega (arith, decided.few, length_push jobs row);
    are = all_jobs;
    room = room;
    taken_known = All-push (λ number. number < i + 1) taken i (λ k d below. omega (arith, decided.taken_known k d below)) (omega arith);
    refused_known = λ k d below. omega (arith, decided.refused_known k d below);
    goes_on = λ later others rest.
        subst (λ (some : List ℕ). IsAdmission rows top some (refused ++ others)) (sym (append_assoc taken (i ∷ []) later))
        (decided.goes_on (i ∷ later) others
        (subst (λ (some : List ℕ). AdmitsAfter rows top taken some (i ∷ later) others) (sym next_number) (inl (served_with room, later, refl, rest))));
  }

  -- or it is refused
  pub refuses : (from to work : ℕ) → IsFirstOverfull (jobs ++ row ∷ []) top (numbers_of (jobs ++ row ∷ [])) from to → work ≡ work_within (jobs ++ row ∷ []) from to →
      Decided rows top (i + 1) taken jobs (refused ++ record { job = i; from = from; to = to; work = work } ∷ [])
  refuses from to work first is_work =
      let refusal : Refusal = record { job = i; from = from; to = to; work = work } in
      let not_served : CanServe top (jobs_with rows (taken ++ i ∷ [])) → ⊥ =
      λ serve. (served_where_room top (jobs ++ row ∷ []) some_top all_jobs).0 (subst (CanServe top) (sym with_job) serve) from to first.overfull in
      let refuses : IsRefusal rows top (taken ++ i ∷ []) i refusal = record {
        is_job = refl;
        interval = first_numbers rows top (taken ++ i ∷ []) from to
            (subst (λ (some : List Job). IsFirstOverfull some top (numbers_of some) from to) with_job first);
        is_work = is_work ∙ (ap (λ (some : List Job). work_within some from to) with_job ∙ sym (numbers_work rows (taken ++ i ∷ []) from to));
      } in
      record {
        same = decided.same;
        few = omega (arith, decided.few);
        are = decided.are;
        room = decided.room;
        taken_known = λ k d below. omega (arith, decided.taken_known k d below);
        refused_known = All-push (λ (one : Refusal). one.job < i + 1) refused refusal (λ k d below. omega (arith, decided.refused_known k d below)) (omega arith);
        goes_on = λ later others rest.
            subst (λ (some : List Refusal). IsAdmission rows top (taken ++ later) some) (sym (append_assoc refused (refusal ∷ []) others))
            (decided.goes_on later (refusal ∷ others)
            (subst (λ (some : List ℕ). AdmitsAfter rows top taken some later (refusal ∷ others)) (sym next_number)
            (inr (not_served, refusal, others, refl, refuses, rest))));
      }

-- where the jobs up to the last leave no interval overfull together, the first of them is admitted
pub takes_first : (rows : List Job) (top i last : ℕ) (taken : List ℕ) (jobs : List Job) (refused : List Refusal) (whole : List Job) → 1 ≤ top → i < last → last ≤ length rows →
    Decided rows top i taken jobs refused → jobs ++ drop i (take last rows) ≡ whole → HasRoom top whole → (row : Job) → row ≡ job_at rows i → IsJob row →
    Decided rows top (i + 1) (taken ++ i ∷ []) (jobs ++ row ∷ []) refused × ((jobs ++ row ∷ []) ++ drop (i + 1) (take last rows) ≡ whole)
takes_first rows top i last taken jobs refused whole some_top less within decided is_whole room row is is_job =
    let rest : List Job = drop (i + 1) (take last rows) in
    let next : drop i (take last rows) ≡ row ∷ rest =
    drop_more (take last rows) i no_job (omega (arith, less, length-take-le last rows within))
    ∙ ap (λ (one : Job). one ∷ rest) (get_or-take last rows i no_job less ∙ sym is) in
    let same : (jobs ++ row ∷ []) ++ rest ≡ whole = append_assoc jobs (row ∷ []) rest ∙ ap (λ (some : List Job). jobs ++ some) (sym next) ∙ is_whole in (
      takes rows top i taken jobs refused some_top (omega (arith, less, within)) decided row is is_job
          (room_front top (jobs ++ row ∷ []) rest (subst (HasRoom top) (sym same) room)),
      same,
    )

-- all jobs have been decided
pub all_decided : (rows : List Job) (top i : ℕ) (taken : List ℕ) (jobs : List Job) (refused : List Refusal) → length rows ≤ i →
    Decided rows top i taken jobs refused → IsAdmission rows top taken refused
all_decided rows top i taken jobs refused all decided =
    let none : drop i (numbers_of rows) ≡ [] = drop_all i (numbers_of rows) (omega (arith, length-range_with_len 0 (length rows))) in
    subst (λ (some : List ℕ). IsAdmission rows top some refused) (append-nil taken)
    (subst (λ (some : List Refusal). IsAdmission rows top (taken ++ []) some) (append-nil refused)
    (decided.goes_on [] [] (subst (λ (some : List ℕ). AdmitsAfter rows top taken some [] []) (sym none) (refl, refl))))

-- the same of what is decided, where the last ones are numbered below the number of jobs
pub is_decision : (rows : List Job) (top i : ℕ) (taken : List ℕ) (jobs : List Job) (refused : List Refusal) → length rows ≤ i → i ≤ length rows →
    Decided rows top i taken jobs refused → IsDecision rows top taken jobs refused
is_decision rows top i taken jobs refused all within decided = grind (arith, all_decided)
