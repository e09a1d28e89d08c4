-- A walk over jobs in order of their deadlines: the sums of those seen so far.
use Rattle.yds_model.proofs.Common.{◌≡◌, ℕ, ◌+◌, ◌-◌, ◌*◌, ◌<◌, ◌≤◌, ◌≢◌, ◌⊎◌, List, [], ◌∷◌, ◌++◌, ◌∙◌, length, get_or, take, map, refl, sym, ap, subst, inl, inr, arith, All, Contains, IsPermutation, map-append, get_or_append_left, get_or_push, length_push, length-map, get_or-map, same_lists, get_or_default, get_or-take, length-take-le, map_more, length-range_with_len, get_or-range_with_len, length-map-range_with_len, get_or-map-range_with_len, Contains-append_left, Contains-append_right, Contains-append_cases, All-push, All-map, IsPermutation-map, IsPermutation-sym, Contains-permutation, sum_by-IsPermutation, All-permutation, length_permutation, cases_lt, Job, IsJob, job_at, no_job, numbers_of, All-front, work_within, released_work}
use Rattle.model_lemmas.proofs.Confined.{part_within, part_early, part_late, released_more, released_due, within_push}
use Rattle.base.specs.declared.limits.TheConstants.{MAX_WORK}
use Rattle.yds_intensity.specs.declared.sweeping.Sum.{Sum}
use Rattle.yds_intensity.specs.Sums.{no_sum, sum_at, HaveRisingEnds, AreSums}
use Rattle.yds_intensity.specs.Put.{IsPut}
use Rattle.yds_intensity.specs.DeadlineOrder.{IsDeadlineOrder}

abbrev pub ends_of : List Sum → List ℕ
ends_of sums = map (λ sum. sum.end) sums

abbrev pub deadlines_of : List Job → List ℕ
deadlines_of jobs = map (λ job. job.deadline) jobs

one_contains : (x y : ℕ) → Contains (x ∷ []) y → y ≡ x
one_contains x y (k, within, is) = let first : k ≡ 0 = omega arith in sym (rw first at is)

pub contains_one : (x : ℕ) → Contains (x ∷ []) x
contains_one x = (0, omega arith, refl)

-- a list of ends with one more has that one, or what it had
ends_cases : (sums : List Sum) (sum : Sum) (end : ℕ) → Contains (ends_of (sums ++ sum ∷ [])) end → Contains (ends_of sums) end ⊎ (end ≡ sum.end)
ends_cases sums sum end has = elim (Contains-append_cases (ends_of sums) (sum.end ∷ []) end (subst (λ (xs : List ℕ). Contains xs end) (map-append (λ (s : Sum). s.end) sums (sum ∷ [])) has)) [
  | inl before ↦ inl before
  | inr last ↦ inr (one_contains sum.end end last)
]

ends_before : (sums : List Sum) (sum : Sum) (end : ℕ) → Contains (ends_of sums) end → Contains (ends_of (sums ++ sum ∷ [])) end
ends_before sums sum end has = subst (λ (xs : List ℕ). Contains xs end) (sym (map-append (λ (s : Sum). s.end) sums (sum ∷ []))) (Contains-append_left (ends_of sums) (sum.end ∷ []) end has)

ends_last : (sums : List Sum) (sum : Sum) → Contains (ends_of (sums ++ sum ∷ [])) sum.end
ends_last sums sum = subst (λ (xs : List ℕ). Contains xs sum.end) (sym (map-append (λ (s : Sum). s.end) sums (sum ∷ []))) (Contains-append_right (ends_of sums) (sum.end ∷ []) sum.end (contains_one sum.end))

due_cases : (jobs : List Job) (job : Job) (end : ℕ) → Contains (deadlines_of (jobs ++ job ∷ [])) end → Contains (deadlines_of jobs) end ⊎ (end ≡ job.deadline)
due_cases jobs job end has = elim (Contains-append_cases (deadlines_of jobs) (job.deadline ∷ []) end (subst (λ (xs : List ℕ). Contains xs end) (map-append (λ (j : Job). j.deadline) jobs (job ∷ [])) has)) [
  | inl before ↦ inl before
  | inr last ↦ inr (one_contains job.deadline end last)
]

due_before : (jobs : List Job) (job : Job) (end : ℕ) → Contains (deadlines_of jobs) end → Contains (deadlines_of (jobs ++ job ∷ [])) end
due_before jobs job end has = subst (λ (xs : List ℕ). Contains xs end) (sym (map-append (λ (j : Job). j.deadline) jobs (job ∷ []))) (Contains-append_left (deadlines_of jobs) (job.deadline ∷ []) end has)

due_last : (jobs : List Job) (job : Job) → Contains (deadlines_of (jobs ++ job ∷ [])) job.deadline
due_last jobs job = subst (λ (xs : List ℕ). Contains xs job.deadline) (sym (map-append (λ (j : Job). j.deadline) jobs (job ∷ []))) (Contains-append_right (deadlines_of jobs) (job.deadline ∷ []) job.deadline (contains_one job.deadline))

end_at : (sums : List Sum) (k : ℕ) → k < length sums → Contains (ends_of sums) (sum_at sums k).end
end_at sums k within = (k, omega (arith, length-map sums (λ (s : Sum). s.end)), get_or-map (λ (s : Sum). s.end) sums k no_sum (sum_at sums k).end within)

-- a deadline that stands in the list is one of a job that has P
due_has : (jobs : List Job) (most end : ℕ) → All (λ job. job.deadline ≤ most) jobs → Contains (deadlines_of jobs) end → end ≤ most
due_has jobs most end all (k, within, is) =
    omega (arith, all k no_job (omega (arith, length-map jobs (λ (j : Job). j.deadline))), is, get_or-map (λ (j : Job). j.deadline) jobs k no_job end (omega (arith, length-map jobs (λ (j : Job). j.deadline))))

-- a job that is due by the start adds nothing
pub sweep_kept : (seen : List Job) (job : Job) (start : ℕ) (sums : List Sum) → AreSums seen start sums → job.release < job.deadline → job.deadline ≤ start →
    AreSums (seen ++ job ∷ []) start sums
sweep_kept seen job start sums are window past = record {
  rising = are.rising;
  ends = λ end. (
    (λ has. let known = (are.ends end).0 has in (known.0, due_before seen job end known.1)),
    (λ (after, has). elim (due_cases seen job end has) [
      | inl before ↦ (are.ends end).1 (after, before)
      | inr here ↦ absurd (omega arith)
    ]),
  );
  works = λ k d within. are.works k d within ∙ omega (arith, within_push seen job start (get_or sums k d).end, part_early start (get_or sums k d).end job (omega arith));
}

-- what is left of the sums where one is put after them
record Kept (sums : List Sum) (end : ℕ) (kept : List Sum) : Type 0 where
  rising : HaveRisingEnds kept
  below : (k : ℕ) → k < length kept → (sum_at kept k).end < end
  works : (jobs : List Job) (start : ℕ) → All (λ sum. sum.work ≡ work_within jobs start sum.end) sums → All (λ sum. sum.work ≡ work_within jobs start sum.end) kept
  stays : (other : ℕ) → Contains (ends_of kept) other → Contains (ends_of sums) other
  stood : (other : ℕ) → Contains (ends_of sums) other → Contains (ends_of kept) other ⊎ (other ≡ end)

put_kept : (seen : List Job) (start : ℕ) (sums put : List Sum) (sum : Sum) → AreSums seen start sums → All (λ job. job.deadline ≤ sum.end) seen →
    (is : IsPut sums sum put) → Kept sums sum.end is.0
put_kept seen start sums put sum are due (kept, is, inl (same, other)) =
    let most : (k : ℕ) → k < length sums → (sum_at sums k).end ≤ sum.end =
    λ k within. due_has seen sum.end (sum_at sums k).end due ((are.ends (sum_at sums k).end).0 (end_at sums k within)).1 in
    record {
      rising = subst HaveRisingEnds same are.rising;
      below = λ k within.
          let inside : k < length sums = omega (arith, ap (λ (xs : List Sum). length xs) same) in
          let here : (sum_at kept k).end ≡ (sum_at sums k).end = ap (λ (xs : List Sum). (sum_at xs k).end) (sym same) in
          elim (cases_lt k (length sums - 1)) [
            | inl before ↦ omega (arith, here, are.rising k (length sums - 1) before (omega arith), most (length sums - 1) (omega arith))
            | inr last ↦
                let place : k ≡ length sums - 1 = omega arith in
                let differs : (sum_at sums k).end ≢ sum.end = rw place (other (omega arith)) in
                omega (arith, here, most k inside, differs)
          ];
      works = λ jobs from all. subst (All (λ (s : Sum). s.work ≡ work_within jobs from s.end)) same all;
      stays = λ e has. subst (λ (xs : List Sum). Contains (ends_of xs) e) (sym same) has;
      stood = λ e has. inl (subst (λ (xs : List Sum). Contains (ends_of xs) e) same has);
    }
put_kept seen start sums put sum are due (kept, is, inr (last, same, was)) =
    let rising : HaveRisingEnds (kept ++ last ∷ []) = subst HaveRisingEnds was are.rising in
    let at : (k : ℕ) → k < length kept → sum_at (kept ++ last ∷ []) k ≡ sum_at kept k = λ k within. get_or_append_left kept (last ∷ []) no_sum k within in
    let last_at : sum_at (kept ++ last ∷ []) (length kept) ≡ last = get_or_push kept last no_sum (length kept) refl in
    let count = length_push kept last in
    record {
      rising = λ i j before within. omega (arith, rising i j before (omega (arith, count)), ap (λ (s : Sum). s.end) (at i (omega arith)), ap (λ (s : Sum). s.end) (at j within));
      below = λ k within. omega (arith, rising k (length kept) within (omega (arith, count)), ap (λ (s : Sum). s.end) (at k within), ap (λ (s : Sum). s.end) last_at, same);
      works = λ jobs from all. All-front (λ (s : Sum). s.work ≡ work_within jobs from s.end) kept (last ∷ []) (subst (All (λ (s : Sum). s.work ≡ work_within jobs from s.end)) was all);
      stays = λ e has. subst (λ (xs : List Sum). Contains (ends_of xs) e) (sym was) (ends_before kept last e has);
      stood = λ e has. elim (ends_cases kept last e (subst (λ (xs : List Sum). Contains (ends_of xs) e) was has)) [
        | inl before ↦ inl before
        | inr here ↦ inr (here ∙ same)
      ];
    }

-- a job that is due later, and not before any seen, ends a sum
pub sweep_put : (seen : List Job) (job : Job) (start work : ℕ) (sums put : List Sum) → AreSums seen start sums → All (λ j. j.deadline ≤ job.deadline) seen →
    start < job.deadline → work ≡ released_work (seen ++ job ∷ []) start → IsPut sums (record { end = job.deadline; work = work }) put →
    AreSums (seen ++ job ∷ []) start put
sweep_put seen job start work sums put are due after running is =
    let sum : Sum = record { end = job.deadline; work = work } in
    let kept : List Sum = is.0 in
    let rest : Kept sums job.deadline kept = put_kept seen start sums put sum are due is in
    let all_due : All (λ j. j.deadline ≤ job.deadline) (seen ++ job ∷ []) = All-push (λ (j : Job). j.deadline ≤ job.deadline) seen job due (omega arith) in
    subst (AreSums (seen ++ job ∷ []) start) (sym is.1) (record {
      rising = λ i j before within.
          let at_i : sum_at (kept ++ sum ∷ []) i ≡ sum_at kept i = get_or_append_left kept (sum ∷ []) no_sum i (omega (arith, length_push kept sum)) in
          elim (cases_lt j (length kept)) [
            | inl inside ↦ omega (arith, rest.rising i j before inside, ap (λ (s : Sum). s.end) at_i, ap (λ (s : Sum). s.end) (get_or_append_left kept (sum ∷ []) no_sum j inside))
            | inr last ↦ omega (
              arith,
              rest.below i (omega (arith, length_push kept sum)),
              ap (λ (s : Sum). s.end) at_i,
              ap (λ (s : Sum). s.end) (get_or_push kept sum no_sum j (omega (arith, length_push kept sum))),
            )
          ];
      ends = λ end. (
        (λ has. elim (ends_cases kept sum end has) [
          | inl before ↦ let known = (are.ends end).0 (rest.stays end before) in (known.0, due_before seen job end known.1)
          | inr here ↦ (omega arith, subst (Contains (deadlines_of (seen ++ job ∷ []))) (sym here) (due_last seen job))
        ]),
        (λ (late, has). elim (due_cases seen job end has) [
          | inl before ↦ elim (rest.stood end ((are.ends end).1 (late, before))) [
            | inl stays ↦ ends_before kept sum end stays
            | inr here ↦ subst (Contains (ends_of (kept ++ sum ∷ []))) (sym here) (ends_last kept sum)
          ]
          | inr here ↦ subst (Contains (ends_of (kept ++ sum ∷ []))) (sym here) (ends_last kept sum)
        ]),
      );
      works = All-push (λ (s : Sum). s.work ≡ work_within (seen ++ job ∷ []) start s.end) kept sum
          (λ k d within.
          let end_d : get_or kept k d ≡ sum_at kept k = get_or_default kept k d no_sum within in
          rest.works seen start are.works k d within
          ∙ omega (arith, within_push seen job start (get_or kept k d).end, part_late start (get_or kept k d).end job (omega (arith, rest.below k within, ap (λ (s : Sum). s.end) end_d))))
          (running ∙ released_due (seen ++ job ∷ []) start job.deadline all_due);
    })

-- what the walk knows of the jobs seen
pub record SweptSoFar (seen : List Job) (start work : ℕ) (sums : List Sum) : Type 0 where
  pub are : AreSums seen start sums
  pub running : work ≡ released_work seen start
  pub fits : work ≤ MAX_WORK * length seen

-- each number in order is a row's
pub number_known : (jobs : List Job) (order : List ℕ) (i : ℕ) → IsDeadlineOrder jobs order → i < length order → get_or order i 0 < length jobs
number_known jobs order i ordered within =
    All-permutation (λ n. n < length jobs) (numbers_of jobs) order ordered.once
    (λ k d inside. omega (arith, get_or-range_with_len 0 (length jobs) k d (omega (arith, length-range_with_len 0 (length jobs))), length-range_with_len 0 (length jobs)))
    i 0 within

pub order_length : (jobs : List Job) (order : List ℕ) → IsDeadlineOrder jobs order → length order ≡ length jobs
order_length jobs order ordered = length_permutation (numbers_of jobs) order ordered.once ∙ length-range_with_len 0 (length jobs)

-- how the walk goes on at a job: it adds its work where it is released in time, and puts a sum where it is due later than the start
pub record Goes (job : Job) (start work more : ℕ) (sums put : List Sum) : Type 0 where
  pub adds : ((start ≤ job.release) × (more ≡ work + job.work)) ⊎ ((job.release < start) × (more ≡ work))
  pub puts : ((start < job.deadline) × IsPut sums (record { end = job.deadline; work = more }) put) ⊎ ((job.deadline ≤ start) × (put ≡ sums))

jobs_before : (jobs : List Job) (order : List ℕ) (i : ℕ) → IsDeadlineOrder jobs order → i < length order →
    All (λ job. job.deadline ≤ (job_at jobs (get_or order i 0)).deadline) (map (job_at jobs) (take i order))
jobs_before jobs order i ordered within = All-map (λ (job : Job). job.deadline ≤ (job_at jobs (get_or order i 0)).deadline) (job_at jobs) (take i order)
    (λ k d inside.
    let before : k < i = omega (arith, length-take-le i order (omega arith)) in
    let same : get_or (take i order) k d ≡ get_or order k 0 = get_or-take i order k d before ∙ get_or_default order k d 0 (omega arith) in
    rw same (elim (ordered.rising k i before within) [ inl less ↦ omega arith | inr equal ↦ omega arith ]))

pub swept_more : (jobs : List Job) (order : List ℕ) (i start work more : ℕ) (sums put : List Sum) (job : Job) → IsDeadlineOrder jobs order → i < length order →
    job ≡ job_at jobs (get_or order i 0) → IsJob job → Goes job start work more sums put → SweptSoFar (map (job_at jobs) (take i order)) start work sums →
    SweptSoFar (map (job_at jobs) (take (i + 1) order)) start more put
swept_more jobs order i start work more sums put job ordered within is valid goes so_far =
    let seen : List Job = map (job_at jobs) (take i order) in
    let due : All (λ (j : Job). j.deadline ≤ job.deadline) seen = subst (λ (other : Job). All (λ (j : Job). j.deadline ≤ other.deadline) seen) (sym is) (jobs_before jobs order i ordered within) in
    let running : more ≡ released_work (seen ++ job ∷ []) start = released_more seen job start work more so_far.running goes.adds in
    subst (λ (xs : List Job). SweptSoFar xs start more put)
    (ap (λ (j : Job). seen ++ j ∷ []) is ∙ sym (map_more (job_at jobs) order i 0 within))
    (record {
      are = elim goes.puts [
        | inl (after, puts) ↦ sweep_put seen job start more sums put so_far.are due after running puts
        | inr (past, same) ↦ subst (AreSums (seen ++ job ∷ []) start) (sym same) (sweep_kept seen job start sums so_far.are valid.has_window past)
      ];
      running = running;
      fits = elim goes.adds [
        | inl (released, adds) ↦ omega (arith, so_far.fits, valid.work_in_range, length_push seen job)
        | inr (early, stays) ↦ omega (arith, so_far.fits, length_push seen job)
      ];
    })

-- the rows in order are the rows
in_order : (jobs : List Job) → map (job_at jobs) (numbers_of jobs) ≡ jobs
in_order jobs = same_lists (map (job_at jobs) (numbers_of jobs)) jobs (length-map-range_with_len (job_at jobs) 0 (length jobs))
    (λ k d within.
    let below : k < length jobs = omega (arith, within, length-map-range_with_len (job_at jobs) 0 (length jobs)) in
    get_or-map-range_with_len (job_at jobs) 0 (length jobs) k k d below (omega arith) ∙ get_or_default jobs k no_job d below)

-- sums don't depend on the order of the jobs
pub sums_reordered : (jobs : List Job) (order : List ℕ) (start : ℕ) (sums : List Sum) → IsDeadlineOrder jobs order →
    AreSums (map (job_at jobs) order) start sums → AreSums jobs start sums
sums_reordered jobs order start sums ordered are =
    let same : IsPermutation jobs (map (job_at jobs) order) =
    subst (λ (xs : List Job). IsPermutation xs (map (job_at jobs) order)) (in_order jobs) (IsPermutation-map (job_at jobs) (numbers_of jobs) order ordered.once) in
    let back = IsPermutation-sym jobs (map (job_at jobs) order) same in
    let due : IsPermutation (deadlines_of jobs) (deadlines_of (map (job_at jobs) order)) = IsPermutation-map (λ (job : Job). job.deadline) jobs (map (job_at jobs) order) same in
    let undue = IsPermutation-sym (deadlines_of jobs) (deadlines_of (map (job_at jobs) order)) due in
    record {
      rising = are.rising;
      ends = λ end. (
        (λ has. let known = (are.ends end).0 has in (known.0, Contains-permutation (deadlines_of (map (job_at jobs) order)) (deadlines_of jobs) end undue known.1)),
        (λ (after, has). (are.ends end).1 (after, Contains-permutation (deadlines_of jobs) (deadlines_of (map (job_at jobs) order)) end due has)),
      );
      works = λ k d within. are.works k d within ∙ sum_by-IsPermutation (part_within start (get_or sums k d).end) jobs (map (job_at jobs) order) same;
    }
