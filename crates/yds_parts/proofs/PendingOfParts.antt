-- What is pending of both parts is what is pending of each, and from the cut on nothing of the first.
use Rattle.yds_model.proofs.Common.{rules, ◌≡◌, ℕ, zero, suc, ◌+◌, ◌-◌, ◌*◌, ◌<◌, ◌≤◌, Bool, List, [], ◌∷◌, ◌++◌, length, map, get_or, refl, ap, ◌∙◌, arith, sum_by, nat_le, nat_lt, ◌&&◌, mul-le-mul_right, All, filter, range_with_len, le-leb, lt-leb, map-append, length-append, All-head, All-tail, All-filter, All-weaker, filter-append, get_or-range_with_len, length-range_with_len, sum_by-append, false-and, and-false, Job, no_job, job_at, WholeSlot, work_given, Piece, IsFeasibleAt, pending_at, numbers_of, pending_units, pending_jobs, due_units, pending_deadlines, sum_by_same, sum_by_zero, sum_by-map, filter_none, filter_all}
use Rattle.yds_parts.specs.Parts.{ArePartedAt, together_at}
use Rattle.yds_parts.proofs.TwoParts.{first_job, second_job, only_first, only_second}
use Rattle.yds_parts.proofs.EventsOfParts.{IsGap, EndsBy, BeginsFrom}
use Rattle.yds_parts.proofs.StretchesOfParts.{filter_made}

-- # Numbers of jobs

-- numbers in turn, in two parts
range_joined : (from n m : ℕ) → range_with_len from (n + m) ≡ range_with_len from n ++ range_with_len (from + n) m
range_joined from zero m =
    let none : 0 + m ≡ m = omega arith in
    let here : from ≡ from + 0 = omega arith in
    ap (range_with_len from) none ∙ ap (λ k. range_with_len k m) here
range_joined from (suc n) m =
    let longer : suc n + m ≡ suc (n + m) = omega arith in
    let later : from + 1 + n ≡ from + suc n = omega arith in
    ap (range_with_len from) longer
    ∙ ap (λ (rest : List ℕ). from ∷ rest) (range_joined (from + 1) n m ∙ ap (λ k. range_with_len (from + 1) n ++ range_with_len k m) later)

-- numbers in turn, each some greater
range_moved : (n from m : ℕ) → range_with_len (n + from) m ≡ map (λ k. n + k) (range_with_len from m)
range_moved n from zero = refl
range_moved n from (suc m) =
    let next : n + from + 1 ≡ n + (from + 1) = omega arith in
    ap (λ (rest : List ℕ). (n + from) ∷ rest) (ap (λ k. range_with_len k m) next ∙ range_moved n (from + 1) m)

-- the numbers of all jobs are those of the first, and those of the second moved
numbers_joined : (first second : List Job) → numbers_of (first ++ second) ≡ numbers_of first ++ map (λ k. length first + k) (numbers_of second)
numbers_joined first second =
    ap (range_with_len 0) (length-append first second)
    ∙ range_joined 0 (length first) (length second)
    ∙ ap (λ (rest : List ℕ). numbers_of first ++ rest)
    (let place : 0 + length first ≡ length first + 0 = omega arith in
    ap (λ k. range_with_len k (length second)) place ∙ range_moved (length first) 0 (length second))

-- each number is of a job
numbers_known : (jobs : List Job) → All (λ number. number < length jobs) (numbers_of jobs)
numbers_known jobs k d within = search (arith, rules, get_or-range_with_len, length-range_with_len)

-- tests that agree on a list
filter_agree_on : {X : Type 0} (p q : X → Bool) (xs : List X) → All (λ x. p x ≡ q x) xs → filter p xs ≡ filter q xs
filter_agree_on p q [] same = refl
filter_agree_on p q (x ∷ xs) same = rw (All-head (λ x. p x ≡ q x) x xs same, filter_agree_on p q xs (All-tail (λ x. p x ≡ q x) x xs same)) refl

-- functions that agree on a list
map_agree_on : {X Y : Type 0} (f g : X → Y) (xs : List X) → All (λ x. f x ≡ g x) xs → map f xs ≡ map g xs
map_agree_on f g [] same = refl
map_agree_on f g (x ∷ xs) same = rw (All-head (λ x. f x ≡ g x) x xs same, map_agree_on f g xs (All-tail (λ x. f x ≡ g x) x xs same)) refl

-- two functions, one after the other
map_made : {X Y Z : Type 0} (f : X → Y) (g : Y → Z) (xs : List X) → map g (map f xs) ≡ map (λ x. g (f x)) xs
map_made f g [] = refl
map_made f g (x ∷ xs) = ap (λ (rest : List _). g (f x) ∷ rest) (map_made f g xs)

-- the numbers of all jobs that pass a test: those of the first, and those of the second
numbers_kept : (first second : List Job) (test one other : ℕ → Bool) → ((j : ℕ) → j < length first → test j ≡ one j) →
    ((k : ℕ) → k < length second → test (length first + k) ≡ other k) →
    filter test (numbers_of (first ++ second)) ≡ filter one (numbers_of first) ++ map (λ k. length first + k) (filter other (numbers_of second))
numbers_kept first second test one other agree also =
    ap (filter test) (numbers_joined first second)
    ∙ filter-append test (numbers_of first) (map (λ k. length first + k) (numbers_of second))
    ∙ ap (λ (front : List ℕ). front ++ filter test (map (λ k. length first + k) (numbers_of second)))
    (filter_agree_on test one (numbers_of first) (λ k d within. agree (get_or (numbers_of first) k d) (numbers_known first k d within)))
    ∙ ap (λ (back : List ℕ). filter one (numbers_of first) ++ back)
    (filter_made (λ k. length first + k) test other (numbers_of second) (λ k d within. also (get_or (numbers_of second) k d) (numbers_known second k d within)))

-- and a sum over such numbers
sum_kept : (n m : ℕ) (f one other : ℕ → ℕ) (front back : List ℕ) → All (λ j. j < n) front → All (λ k. k < m) back → ((j : ℕ) → j < n → f j ≡ one j) →
    ((k : ℕ) → k < m → f (n + k) ≡ other k) → sum_by f (front ++ map (λ k. n + k) back) ≡ sum_by one front + sum_by other back
sum_kept n m f one other front back known also same moved_same = grind (arith, sum_by-append, sum_by-map, sum_by_same)

-- # Pending work

module _ (time scale : ℕ) (first second : List Job) (parted : ArePartedAt time first second) (slots others : List WholeSlot) (one : IsFeasibleAt first scale slots)
    (other : IsFeasibleAt second scale others) where
  abbrev jobs : List Job
  jobs = first ++ second

  abbrev all : List WholeSlot
  all = together_at first slots others

  -- the slot ends by this time
  abbrev is_done : ℕ → WholeSlot → Bool
  is_done at slot = nat_le slot.to (at * scale)

  -- what ends by a time, of both parts
  done_together : (at : ℕ) → filter (is_done at) all ≡ together_at first (filter (is_done at) slots) (filter (is_done at) others)
  done_together at = search (arith, rules, filter-append, filter_made)

  -- of a first job as much is pending as in its part
  pending_first : (at j : ℕ) → j < length first → pending_at jobs scale all at j ≡ pending_at first scale slots at j
  pending_first at j known =
      ap (λ (job : Job). job.work * scale - work_given (filter (is_done at) all) j) (first_job time scale first second parted j known)
      ∙ ap (λ n. (job_at first j).work * scale - n) (ap (λ (some : List WholeSlot). work_given some j) (done_together at)
      ∙ only_first time scale first second parted (filter (is_done at) slots) (filter (is_done at) others) j known)

  -- and so it is of a second job
  pending_second : (at k : ℕ) → pending_at jobs scale all at (length first + k) ≡ pending_at second scale others at k
  pending_second at k =
      ap (λ (job : Job). job.work * scale - work_given (filter (is_done at) all) (length first + k)) (second_job time scale first second parted k)
      ∙ ap (λ n. (job_at second k).work * scale - n) (ap (λ (some : List WholeSlot). work_given some (length first + k)) (done_together at)
      ∙ only_second time scale first second parted (filter (is_done at) slots) (filter (is_done at) others) k
      (All-filter (is_done at) (λ slot. slot.job < length first) slots (λ i d within. (one.in_windows i d within).known)))

  -- a time by which the windows of the first jobs are over, and one at which none of the second is released
  abbrev pub IsAfter : ℕ → Type 0
  IsAfter at = (j : ℕ) → j < length first → (job_at first j).deadline ≤ at

  abbrev pub IsBefore : ℕ → Type 0
  IsBefore at = (k : ℕ) → k < length second → at < (job_at second k).release

  -- the stretch between begins at such a time
  pub after_gap : (stretch : Piece) → IsGap first second stretch → IsAfter stretch.from
  after_gap stretch gap j known = gap.ended j known

  -- which comes before the second releases
  pub before_gap : (stretch : Piece) → IsGap first second stretch → IsBefore stretch.from
  before_gap stretch gap k known = let ahead = gap.ahead k known in omega (arith, ahead, gap.forward)

  -- a stretch of the second jobs begins after the first windows
  pub after_first : (stretch : Piece) → BeginsFrom time stretch → IsAfter stretch.from
  after_first stretch begins j known = let ended = parted.before j no_job known in omega (arith, ended, begins.begins)

  -- and one of the first begins before the second releases
  pub before_second : (stretch : Piece) → EndsBy time stretch → IsBefore stretch.from
  before_second stretch ends k known = let ahead = parted.after k no_job known in omega (arith, ahead, ends.ends, ends.forward)

  -- when the windows of the first jobs are over, nothing of them is pending
  pending_over : (at j : ℕ) → IsAfter at → j < length first → pending_at first scale slots at j ≡ 0
  pending_over at j over known = grind (arith, filter_all, le-leb, mul-le-mul_right)

  -- # Average Rate's pending units

  -- the job is released by this time
  abbrev is_released : List Job → ℕ → ℕ → Bool
  is_released some at number = nat_le (job_at some number).release at

  -- the released jobs of both parts
  released_kept : (at : ℕ) → filter (is_released jobs at) (numbers_of jobs)
      ≡ filter (is_released first at) (numbers_of first) ++ map (λ k. length first + k) (filter (is_released second at) (numbers_of second))
  released_kept at =
      numbers_kept first second (is_released jobs at) (is_released first at) (is_released second at)
      (λ j known. ap (λ (job : Job). nat_le job.release at) (first_job time scale first second parted j known))
      (λ k known. ap (λ (job : Job). nat_le job.release at) (second_job time scale first second parted k))

  -- the pending units add
  pub units_together : (grid : ℕ) (stretch : Piece) →
      pending_units jobs grid scale all stretch ≡ pending_units first grid scale slots stretch + pending_units second grid scale others stretch
  units_together grid stretch =
      let at : ℕ = stretch.from in
      omega (
        arith,
        ap (λ n. grid * n) (ap (sum_by (λ job. pending_at jobs scale all at job)) (released_kept at)
            ∙ sum_kept (length first) (length second) (λ job. pending_at jobs scale all at job) (λ job. pending_at first scale slots at job)
            (λ job. pending_at second scale others at job) (filter (is_released first at) (numbers_of first)) (filter (is_released second at) (numbers_of second))
            (All-filter (is_released first at) (λ j. j < length first) (numbers_of first) (numbers_known first))
            (All-filter (is_released second at) (λ k. k < length second) (numbers_of second) (numbers_known second))
            (λ j known. pending_first at j known) (λ k known. pending_second at k)),
      )

  -- before their releases no second job is released
  none_released : (at : ℕ) → IsBefore at → filter (is_released second at) (numbers_of second) ≡ []
  none_released at before = search (arith, rules, filter_none, lt-leb, numbers_known)

  -- so none of their units is pending
  pub second_units_none : (grid : ℕ) (stretch : Piece) → IsBefore stretch.from → pending_units second grid scale others stretch ≡ 0
  second_units_none grid stretch before =
      omega (arith, ap (λ n. grid * n) (ap (sum_by (λ job. pending_at second scale others stretch.from job)) (none_released stretch.from before)))

  -- and none of the first, after their windows
  pub first_units_none : (grid : ℕ) (stretch : Piece) → IsAfter stretch.from → pending_units first grid scale slots stretch ≡ 0
  first_units_none grid stretch over =
      omega (
        arith,
        ap (λ n. grid * n) (sum_by_zero (λ job. pending_at first scale slots stretch.from job) (filter (is_released first stretch.from) (numbers_of first))
            (All-weaker (λ j. j < length first) (λ j. pending_at first scale slots stretch.from j ≡ 0) (λ j known. pending_over stretch.from j over known)
            (filter (is_released first stretch.from) (numbers_of first))
            (All-filter (is_released first stretch.from) (λ j. j < length first) (numbers_of first) (numbers_known first)))),
      )

  -- # Optimal Available's pending jobs

  -- the job is released, and has pending work
  abbrev waits : List Job → List WholeSlot → ℕ → ℕ → Bool
  waits some its at number = nat_le (job_at some number).release at && nat_lt 0 (pending_at some scale its at number)

  -- the jobs that wait are those of both parts
  waiting_kept : (stretch : Piece) →
      pending_jobs jobs scale all stretch ≡ pending_jobs first scale slots stretch ++ map (λ k. length first + k) (pending_jobs second scale others stretch)
  waiting_kept stretch =
      let at : ℕ = stretch.from in
      numbers_kept first second (waits jobs all at) (waits first slots at) (waits second others at)
      (λ j known. ap (λ (job : Job). nat_le job.release at && nat_lt 0 (pending_at jobs scale all at j)) (first_job time scale first second parted j known)
      ∙ ap (λ n. nat_le (job_at first j).release at && nat_lt 0 n) (pending_first at j known))
      (λ k known. ap (λ (job : Job). nat_le job.release at && nat_lt 0 (pending_at jobs scale all at (length first + k))) (second_job time scale first second parted k)
      ∙ ap (λ n. nat_le (job_at second k).release at && nat_lt 0 n) (pending_second at k))

  -- they are jobs of the first part
  waiting_first : (stretch : Piece) → All (λ j. j < length first) (pending_jobs first scale slots stretch)
  waiting_first stretch = All-filter (waits first slots stretch.from) (λ j. j < length first) (numbers_of first) (numbers_known first)

  -- and of the second
  waiting_second : (stretch : Piece) → All (λ k. k < length second) (pending_jobs second scale others stretch)
  waiting_second stretch = All-filter (waits second others stretch.from) (λ k. k < length second) (numbers_of second) (numbers_known second)

  -- and so are their deadlines
  pub deadlines_together : (stretch : Piece) →
      pending_deadlines jobs scale all stretch ≡ pending_deadlines first scale slots stretch ++ pending_deadlines second scale others stretch
  deadlines_together stretch =
      let due : ℕ → ℕ = λ number. (job_at jobs number).deadline in
      let front = pending_jobs first scale slots stretch in
      let back = pending_jobs second scale others stretch in
      ap (map due) (waiting_kept stretch)
      ∙ map-append due front (map (λ k. length first + k) back)
      ∙ ap (λ (some : List ℕ). some ++ map due (map (λ k. length first + k) back))
      (map_agree_on due (λ j. (job_at first j).deadline) front
      (λ i d within. ap (λ (job : Job). job.deadline) (first_job time scale first second parted (get_or front i d) (waiting_first stretch i d within))))
      ∙ ap (λ (some : List ℕ). pending_deadlines first scale slots stretch ++ some)
      (map_made (λ k. length first + k) due back
      ∙ map_agree_on (λ k. due (length first + k)) (λ k. (job_at second k).deadline) back
      (λ i d within. ap (λ (job : Job). job.deadline) (second_job time scale first second parted (get_or back i d))))

  -- the pending jobs that are due by a deadline
  pub due_together : (grid : ℕ) (stretch : Piece) (deadline : ℕ) → due_units jobs grid scale all stretch deadline
      ≡ due_units first grid scale slots stretch deadline + due_units second grid scale others stretch deadline
  due_together grid stretch deadline =
      let pending : ℕ → ℕ = λ number. pending_at jobs scale all stretch.from number in
      let due : ℕ → Bool = λ number. nat_le (job_at jobs number).deadline deadline in
      let first_due : ℕ → Bool = λ number. nat_le (job_at first number).deadline deadline in
      let second_due : ℕ → Bool = λ number. nat_le (job_at second number).deadline deadline in
      let front = pending_jobs first scale slots stretch in
      let back = pending_jobs second scale others stretch in
      let kept : filter due (pending_jobs jobs scale all stretch) ≡ filter first_due front ++ map (λ k. length first + k) (filter second_due back) =
      ap (filter due) (waiting_kept stretch)
      ∙ filter-append due front (map (λ k. length first + k) back)
      ∙ ap (λ (some : List ℕ). some ++ filter due (map (λ k. length first + k) back))
      (filter_agree_on due first_due front
      (λ i d within. ap (λ (job : Job). nat_le job.deadline deadline) (first_job time scale first second parted (get_or front i d) (waiting_first stretch i d within))))
      ∙ ap (λ (some : List ℕ). filter first_due front ++ some)
      (filter_made (λ k. length first + k) due second_due back
      (λ i d within. ap (λ (job : Job). nat_le job.deadline deadline) (second_job time scale first second parted (get_or back i d)))) in
      omega (
        arith,
        ap (λ n. grid * n) (ap (sum_by pending) kept
            ∙ sum_kept (length first) (length second) pending (λ number. pending_at first scale slots stretch.from number)
            (λ number. pending_at second scale others stretch.from number) (filter first_due front) (filter second_due back)
            (All-filter first_due (λ j. j < length first) front (waiting_first stretch)) (All-filter second_due (λ k. k < length second) back (waiting_second stretch))
            (λ j known. pending_first stretch.from j known) (λ k known. pending_second stretch.from k)),
      )

  -- before their releases no second job waits
  pub none_waiting_second : (stretch : Piece) → IsBefore stretch.from → pending_jobs second scale others stretch ≡ []
  none_waiting_second stretch before = grind (arith, false-and, filter_none, lt-leb, nat_lt, numbers_known)

  -- and after their windows no first one
  pub none_waiting_first : (stretch : Piece) → IsAfter stretch.from → pending_jobs first scale slots stretch ≡ []
  none_waiting_first stretch over = grind (arith, and-false, filter_none, nat_le, nat_lt, numbers_known, pending_over)
