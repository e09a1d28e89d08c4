-- Marks of jobs, one job more.
use Rattle.yds_model.proofs.Common.{◌≡◌, ℕ, ◌+◌, ◌<◌, ◌≤◌, Bool, true, false, List, [], ◌∷◌, ◌++◌, length, get_or, set, take, drop, ◌∙◌, sym, arith, ap, cond, get_or-set_same, get_or-set_other, length-set, Any, sum_by, range_with_len, get_or_default, take_more, drop-append-le, length-take-le, map-id, All-push, All-nil, sum_by_push, get_or-range_with_len, length-range_with_len, map-range_with_len_more, Job, no_job, job_at, numbers_of}
use Rattle.base.specs.Numbers.{sum_below}
use Rattle.model_lemmas.proofs.SumsBelow.{sum_below_same, sum_below_zero, sum_below_change, sum_places}
use Rattle.yds_admit.specs.Board.{IsMarked, AreMarked, NoneFrom, if_marked}

numbers_sum : (rows : List Job) (g : ℕ → ℕ) → sum_by g (numbers_of rows) ≡ sum_below (length rows) g
numbers_sum rows g =
    let n : ℕ = length rows in
    sum_places g (numbers_of rows) 0
    ∙ ap (λ k. sum_below k (λ i. g (get_or (numbers_of rows) i 0))) (length-range_with_len 0 n)
    ∙ sum_below_same n (λ i. g (get_or (numbers_of rows) i 0)) g
    (λ k below. ap g (let it : get_or (numbers_of rows) k 0 ≡ k = omega (arith, get_or-range_with_len 0 n k 0 below) in it))

is_marked : (marks : List Bool) (f : ℕ → ℕ) (i : ℕ) → get_or marks i false ≡ true → if_marked marks f i ≡ f i
is_marked marks f i is = ap {B = ℕ} (λ b. cond b (f i) 0) is

not_marked : (marks : List Bool) (f : ℕ → ℕ) (i : ℕ) → get_or marks i false ≡ false → if_marked marks f i ≡ 0
not_marked marks f i is = ap {B = ℕ} (λ b. cond b (f i) 0) is

-- no job is marked
pub none_marked : (rows : List Job) (marks : List Bool) → length marks ≡ length rows → NoneFrom marks 0 → IsMarked rows 0 marks []
none_marked rows marks long none = grind (arith, All-nil, not_marked, numbers_sum, sum_below_zero)

-- one that was not marked
pub one_marked : (rows : List Job) (marks : List Bool) (jobs : List Job) (i : ℕ) (row : Job) → length marks ≡ length rows → i < length rows → row ≡ job_at rows i →
    get_or marks i false ≡ false → AreMarked rows marks jobs → AreMarked rows (set marks i true) (jobs ++ row ∷ [])
one_marked rows marks jobs i row long within is not_yet marked = record {
  sums = λ f.
      let F : ℕ → ℕ = λ number. f (job_at rows number) in
      let there : i < length marks = omega (arith, long, within) in
      omega (
        arith,
        numbers_sum rows (if_marked (set marks i true) F),
        numbers_sum rows (if_marked marks F),
        sum_below_change (length rows) i (if_marked (set marks i true) F) (if_marked marks F) within
            (λ j below other. ap {B = ℕ} (λ b. cond b (F j) 0) (get_or-set_other marks i j true false other)),
        is_marked (set marks i true) F i (get_or-set_same marks i true false there),
        not_marked marks F i not_yet,
        marked.sums f,
        sum_by_push f jobs row,
        ap f is,
      );
  known = All-push (λ job. Any (λ one. one ≡ job) rows) jobs row marked.known (i, job_at rows i, within, get_or_default rows i (job_at rows i) no_job within, sym is);
}

pub none_later : (marks : List Bool) (i : ℕ) → NoneFrom marks i → NoneFrom (set marks i true) (i + 1)
none_later marks i none k later = get_or-set_other marks i k true false (λ e. omega (arith, e, later)) ∙ none k (omega (arith, later))

-- the rows from one number up to the next one after another
pub run_more : (rows : List Job) (first i : ℕ) → first ≤ i → i < length rows → drop first (take (i + 1) rows) ≡ drop first (take i rows) ++ job_at rows i ∷ []
run_more rows first i order within =
    ap (drop first) (take_more rows i no_job within)
    ∙ drop-append-le first (take i rows) (job_at rows i ∷ []) (omega (arith, order, length-take-le i rows (omega (arith, within))))

-- one mark more
pub one_more : (rows : List Job) (marks : List Bool) (jobs : List Job) (i : ℕ) (row : Job) → i < length rows → row ≡ job_at rows i →
    IsMarked rows i marks jobs → IsMarked rows (i + 1) (set marks i true) (jobs ++ row ∷ [])
one_more rows marks jobs i row within is marked = record {
  as_long = length-set marks i true ∙ marked.as_long;
  marked = one_marked rows marks jobs i row marked.as_long within is (marked.none i (omega arith)) marked.marked;
  none = none_later marks i marked.none;
}

-- the numbers below n, and n
pub numbers_more : (n : ℕ) → range_with_len 0 n ++ n ∷ [] ≡ range_with_len 0 (n + 1)
numbers_more n =
    ap (λ (some : List ℕ). some ++ n ∷ []) (sym (map-id (range_with_len 0 n)))
    ∙ sym (map-range_with_len_more (λ (k : ℕ). k) 0 n n (omega arith))
    ∙ map-id (range_with_len 0 (n + 1))

-- a refused job is not marked
pub later_none : (rows : List Job) (marks : List Bool) (jobs : List Job) (i : ℕ) → IsMarked rows i marks jobs → IsMarked rows (i + 1) marks jobs
later_none rows marks jobs i marked = grind arith
