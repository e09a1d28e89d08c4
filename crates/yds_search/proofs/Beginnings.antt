-- How the search begins.
use Rattle.yds_model.proofs.Common.{◌≡◌, ℕ, ◌<◌, ◌≤◌, List, [], ◌∷◌, ◌++◌, ◌∙◌, ◌+◌, true, not, max, zero, suc, take, map, length, get_or, sym, ap, subst, inl, inr, refl, arith, Bool, nat_lt, ◌==◌, All, filter, range_with_len, take_more, get_or-take, length-take, get_or_past, map-id, get_or_default, length-map, length-replicate, get_or-replicate, nil_from_length, All-nil, All-map, All-filter, All-contains, filter_passes, length-filter_both, length-range_with_len, get_or-range_with_len, take-map-range_with_len, get_or-map-range_with_len, AllPairs-filter, IsDistinct-from_apart, length-le_from_distinct_below, Contains-from_any, map-map, cases_lt, lt-ltb, ltb-true, eqb-true, ne_eqb, Job, IsJob, job_at, stretches, Piece}
use Rattle.yds_events.specs.declared.window.Window.{Window}
use Rattle.yds_events.specs.Window.{window_at, IsIn, IsPlace, AreWindows}
use Rattle.yds_events.proofs.Neighbours.{few_stretches, stretch_long, stretch_in_range}
use Rattle.yds_search.specs.declared.found.TheConstants.{NO_GROUP}
use Rattle.yds_search.specs.declared.own.OwnJob.{OwnJob}
use Rattle.yds_search.specs.declared.own.OwnStretch.{OwnStretch}
use Rattle.yds_search.specs.declared.stack.Stack.{Stack}
use Rattle.yds_events.specs.ServingOrder.{Precedes, IsOrder}
use Rattle.yds_search.specs.Own.{Part, stretch_numbers}
use Rattle.yds_search.specs.Instance.{IsInstance}
use Rattle.yds_search.specs.Stack.{size_of, jobs_of, own_stretches_of}
use Rattle.yds_search.specs.Beginning.{IsReached, AreFarthest, greatest_end, is_reached, reached_before, first_job, first_jobs, first_stretch, first_stretches}
use Rattle.yds_search.specs.Waiting.{HasOne, HasJob, HasStretch, IsOwnJob, IsOwnStretch, IsWaiting, IsBefore, AreWaiting}
use Rattle.yds_search.specs.Search.{MayTake, IsFinished, IsLed, IsSearch}
use Rattle.yds_search.specs.Searching.{IsBegun, nothing_found}
use Rattle.yds_search.proofs.KeySums.{in_range}
use Rattle.yds_search.proofs.Members.{one_at, at_one, one_map, one_filter, all_pairs_map}
use Rattle.yds_search.proofs.Ranks.{filtered_place}
use Rattle.yds_search.proofs.Filled.{no_own, no_own_stretch}
use Rattle.yds_search.proofs.Marked.{places_meet}

-- # Reached stretches

greatest_most : (ends : List ℕ) (i : ℕ) → i < length ends → get_or ends i 0 ≤ greatest_end ends
greatest_most [] i within = absurd (omega arith)
greatest_most (end ∷ ends) zero within = omega arith
greatest_most (end ∷ ends) (suc i) within = omega (arith, greatest_most ends i (omega arith))

greatest_one : (ends : List ℕ) → 1 ≤ greatest_end ends → (i : ℕ) × (i < length ends) × (get_or ends i 0 ≡ greatest_end ends)
greatest_one [] some = absurd (omega arith)
greatest_one (end ∷ ends) some = elim (cases_lt end (greatest_end ends)) [
  | inl less ↦ let one = greatest_one ends (omega arith) in (suc one.0, omega (arith, one.1), omega (arith, one.2, less))
  | inr more ↦ (0, omega arith, omega (arith, more))
]

greatest_push : (ends : List ℕ) (end : ℕ) → greatest_end (ends ++ end ∷ []) ≡ max (greatest_end ends) end
greatest_push [] end = omega arith
greatest_push (first ∷ ends) end = omega (arith, greatest_push ends end)

pub greatest_more : (ends : List ℕ) (k : ℕ) → k < length ends → greatest_end (take (k + 1) ends) ≡ max (greatest_end (take k ends)) (get_or ends k 0)
greatest_more ends k within = ap greatest_end (take_more ends k 0 within) ∙ greatest_push (take k ends) (get_or ends k 0)

-- the test tells them
reaches : (ends : List ℕ) (k : ℕ) → IsReached ends k → is_reached ends k ≡ true
reaches ends k reached = elim (cases_lt reached.0 (length ends)) [
  | inr past ↦ absurd (omega (arith, reached.2, get_or_past ends reached.0 0 past))
  | inl within ↦ lt-ltb k (greatest_end (take (k + 1) ends)) (omega (
    arith,
    reached.2,
    get_or-take (k + 1) ends reached.0 0 (omega (arith, reached.1)),
    greatest_most (take (k + 1) ends) reached.0 (omega (arith, reached.1, length-take (k + 1) ends)),
  ))
]

reached_by : (ends : List ℕ) (k : ℕ) → is_reached ends k ≡ true → IsReached ends k
reached_by ends k passes =
    let far = ltb-true k (greatest_end (take (k + 1) ends)) passes in
    let one = greatest_one (take (k + 1) ends) (omega (arith, far)) in
    let before : one.0 < k + 1 = omega (arith, one.1, length-take (k + 1) ends) in
    (one.0, omega (arith, before), omega (arith, far, one.2, get_or-take (k + 1) ends one.0 0 before))

-- the numbers of the first stretches
begun_stretches : (timeline : List Piece) (ends : List ℕ) → stretch_numbers (first_stretches timeline ends) ≡ filter (is_reached ends) (range_with_len 0 (length timeline))
begun_stretches timeline ends =
    map-map (λ (own : OwnStretch). own.stretch) (first_stretch timeline) (filter (is_reached ends) (range_with_len 0 (length timeline)))
    ∙ map-id (filter (is_reached ends) (range_with_len 0 (length timeline)))

-- a number is its own place in a range
range_place : (m k : ℕ) → k ≤ m → IsPlace (range_with_len 0 m) k k
range_place m k within = grind (arith, get_or-range_with_len, length-range_with_len)

-- a stretch's place among those that are reached is how many before it are
begun_place : (timeline : List Piece) (ends : List ℕ) (k : ℕ) → k ≤ length timeline → IsPlace (stretch_numbers (first_stretches timeline ends)) k (reached_before ends k)
begun_place timeline ends k within =
    let numbers = range_with_len 0 (length timeline) in
    let front : take k numbers ≡ range_with_len 0 k =
    ap (take k) (sym (map-id numbers)) ∙ take-map-range_with_len (λ x. x) 0 (length timeline) k within ∙ map-id (range_with_len 0 k) in
    subst (λ (xs : List ℕ). IsPlace xs k (reached_before ends k)) (sym (begun_stretches timeline ends))
    (subst (λ (xs : List ℕ). IsPlace (filter (is_reached ends) numbers) k (length (filter (is_reached ends) xs))) front
    (filtered_place (is_reached ends) numbers k k (range_place (length timeline) k within)))

-- each number of an order is a job's
pub known_all : (jobs : List Job) (order : List ℕ) → IsOrder jobs order → All (λ j. j < length jobs) order
known_all jobs order ordered i d within = subst (λ (j : ℕ). j < length jobs) (get_or_default order i 0 d within) (ordered.known i within)

-- and so there are no more than jobs
order_few : (jobs : List Job) (order : List ℕ) → IsOrder jobs order → length order ≤ length jobs
order_few jobs order ordered = length-le_from_distinct_below order (length jobs)
    (IsDistinct-from_apart (λ x y. x == y) order (λ i j d less within. ne_eqb (get_or order i d) (get_or order j d) (λ same.
    (ordered.rising i j less within).0 (get_or_default order i 0 d (omega (arith, less, within)) ∙ same ∙ get_or_default order j d 0 within))))
    (λ q found. All-contains (λ j. j < length jobs) order q (known_all jobs order ordered) (Contains-from_any eqb-true q order found))

-- what stays the same is known from the beginning
pub instance_is : (jobs : List Job) (windows : List Window) → length jobs ≤ 4000 → All IsJob jobs → AreWindows jobs windows → IsInstance jobs windows
instance_is jobs windows few are windows_are = grind (arith, few_stretches, stretch_in_range, stretch_long)

-- nothing is finished
nothing_finished : (jobs : List Job) (windows : List Window) → IsFinished jobs windows (nothing_found jobs)
nothing_finished jobs windows = grind arith

-- the first part: the jobs with work, and the stretches in which one of them may run
abbrev pub begun_part : List Job → List Window → List ℕ → List ℕ → List ℕ → Part
begun_part jobs windows order ends ranks = record { jobs = first_jobs jobs windows ranks order; stretches = first_stretches (stretches jobs) ends }

module _ (jobs : List Job) (windows : List Window) (order ends ranks : List ℕ) (are : IsInstance jobs windows) (ordered : IsOrder jobs order)
    (farthest : AreFarthest jobs windows (length jobs) (length (stretches jobs)) ends) (ranked : ranks ≡ map (reached_before ends) (range_with_len 0 (length (stretches jobs) + 1))) where
  abbrev part : Part
  part = begun_part jobs windows order ends ranks

  -- the job has work
  abbrev works : ℕ → Bool
  works j = nat_lt 0 (job_at jobs j).work

  -- a job with work may run in the stretch
  abbrev marked : ℕ → Bool
  marked = is_reached ends

  -- the stretches' numbers
  abbrev numbers : List ℕ
  numbers = range_with_len 0 (length (stretches jobs))

  -- a job with work is one of the part
  has_job : (P : OwnJob → Type 0) (j : ℕ) → j < length jobs → 1 ≤ (job_at jobs j).work → P (first_job jobs windows ranks j) → HasOne P part.jobs
  has_job P j known some is =
      let place = ordered.each j known in
      one_map P (first_job jobs windows ranks) (filter works order) (one_filter (λ j. P (first_job jobs windows ranks j)) works order
      (at_one (λ j. P (first_job jobs windows ranks j) × (works j ≡ true)) order place.0 0 place.1
      (subst (λ (n : ℕ). P (first_job jobs windows ranks n) × (works n ≡ true)) (sym place.2) (is, lt-ltb 0 (job_at jobs j).work some))))

  -- and a stretch in which one may run
  has_stretch : (k : ℕ) → k < length (stretches jobs) → marked k ≡ true → HasStretch part k
  has_stretch k known some =
      let here : get_or numbers k 0 ≡ k = (in_range (length (stretches jobs)) k 0 (omega (arith, known, length-range_with_len 0 (length (stretches jobs))))).1 in
      one_map (λ own. own.stretch ≡ k) (first_stretch (stretches jobs)) (filter marked numbers) (one_filter (λ n. n ≡ k) marked numbers
      (at_one (λ n. (n ≡ k) × (marked n ≡ true)) numbers k 0 (omega (arith, known, length-range_with_len 0 (length (stretches jobs))))
      (here, subst (λ (n : ℕ). marked n ≡ true) (sym here) some)))

  -- where a job may run the stretch is marked
  runs_marked : (j k : ℕ) → MayTake jobs windows j k → HasStretch part k
  runs_marked j k runs = grind (arith, has_stretch, reaches)

  -- the rank is the place among the marked stretches, also of the number after the last one
  place : (k : ℕ) → k ≤ length (stretches jobs) → IsPlace (stretch_numbers part.stretches) k (get_or ranks k 0)
  place k within = rw (ranked, get_or-map-range_with_len (reached_before ends) 0 (length (stretches jobs) + 1) k k 0 (omega arith) (omega arith))
      (begun_place (stretches jobs) ends k within)

  -- what a job of the part is
  own_job : (j : ℕ) → j < length jobs → 1 ≤ (job_at jobs j).work → IsOwnJob jobs windows (nothing_found jobs).group_of_job (stretch_numbers part.stretches) (first_job jobs windows ranks j)
  own_job j known some =
      let window = are.windows_are.some j known in
      let inside = are.windows_are.inside j known in
      let first = place (window_at windows j).first (omega (arith, window, inside)) in
      let end = place (window_at windows j).end inside in
      record {
        known = known;
        some = some;
        work_is = refl;
        free = get_or-replicate (length jobs) j NO_GROUP 0 known;
        first = first;
        end = end;
        meets = places_meet part.stretches (window_at windows j).first (window_at windows j).end (window_at windows j).first
            (get_or ranks (window_at windows j).first 0) (get_or ranks (window_at windows j).end 0) first end
            (runs_marked j (window_at windows j).first (record { known = known; some = some; inside = record { from = omega arith; upto = window } })) (omega arith) window;
      }

  -- what a stretch of the part is
  own_stretch : (k : ℕ) → k < length (stretches jobs) → marked k ≡ true → IsOwnStretch jobs windows (nothing_found jobs).group_of_stretch part.jobs (first_stretch (stretches jobs) k)
  own_stretch k known some = record {
    known = known;
    length_is = refl;
    free = get_or-replicate (length (stretches jobs)) k NO_GROUP 0 known;
    covered =
        let reached = reached_by ends k some in
        let one = farthest.some reached.0 (omega (arith, reached.2)) in
        has_job (λ own. IsIn windows own.job k) one.0 one.1 one.2 (record { from = omega (arith, one.3, reached.1); upto = omega (arith, one.4, reached.2) });
  }

  -- the part waits
  begun_waits : 1 ≤ length part.stretches → IsWaiting jobs windows (nothing_found jobs) part
  begun_waits some = record {
    own_jobs = All-map (IsOwnJob jobs windows (nothing_found jobs).group_of_job (stretch_numbers part.stretches)) (first_job jobs windows ranks) (filter works order)
        (λ i d within. own_job (get_or (filter works order) i d) (All-filter works (λ j. j < length jobs) order (known_all jobs order ordered) i d within)
        (ltb-true 0 (job_at jobs (get_or (filter works order) i d)).work (filter_passes works order i d within)));
    own_stretches = All-map (IsOwnStretch jobs windows (nothing_found jobs).group_of_stretch part.jobs) (first_stretch (stretches jobs)) (filter marked numbers)
        (λ i d within. own_stretch (get_or (filter marked numbers) i d)
        (All-filter marked (λ k. k < length (stretches jobs)) numbers (λ i d within. let here = in_range (length (stretches jobs)) i d within in omega (arith, here.0, here.1)) i d within)
        (filter_passes marked numbers i d within));
    precede = all_pairs_map (λ one next. Precedes jobs one.job next.job) (first_job jobs windows ranks) (filter works order) (AllPairs-filter (Precedes jobs) works order
        (λ a b d before within. subst (λ (n : ℕ). Precedes jobs n (get_or order b d)) (get_or_default order a 0 d (omega (arith, before, within)))
        (subst (Precedes jobs (get_or order a 0)) (get_or_default order b 0 d within) (ordered.rising a b before within))));
    rise = all_pairs_map (λ one next. one.stretch < next.stretch) (first_stretch (stretches jobs)) (filter marked numbers) (AllPairs-filter (λ a b. a < b) marked numbers
        (λ a b d before within. omega (
          arith,
          before,
          (in_range (length (stretches jobs)) a d (omega (arith, before, within))).1,
          (in_range (length (stretches jobs)) b d within).1,
        )));
    some = some;
  }

  -- there are no more than all
  few_jobs : length part.jobs ≤ length jobs
  few_jobs = omega (
    arith,
    length-map (filter works order) (first_job jobs windows ranks),
    length-filter_both works (λ j. not (works j)) (λ j. refl) order,
    order_few jobs order ordered,
  )

  -- nor of the stretches
  few_own : length part.stretches ≤ length (stretches jobs)
  few_own = omega (
    arith,
    length-map (filter marked numbers) (first_stretch (stretches jobs)),
    length-filter_both marked (λ k. not (marked k)) (λ k. refl) numbers,
    length-range_with_len 0 (length (stretches jobs)),
  )

  -- all wait in the parts where each job with work and each of its stretches is
  begun_search : (parts : List Part) → ((j : ℕ) → j < length jobs → 1 ≤ (job_at jobs j).work → HasOne (λ part. HasJob part j) parts) →
      ((j k : ℕ) → MayTake jobs windows j k → HasOne (λ part. HasStretch part k) parts) → AreWaiting jobs windows (nothing_found jobs) parts → IsLed windows [] parts →
      length (jobs_of parts) ≤ length jobs → length (own_stretches_of parts) ≤ length (stretches jobs) → IsSearch jobs windows (nothing_found jobs) parts
  begun_search parts there runs waiting led few few' = grind (arith, few_jobs, get_or-replicate, length-replicate, nothing_finished)

  -- one part waits, where some job has work
  pub one_begun : (stack : Stack) → 1 ≤ length part.jobs → stack.jobs.items ≡ part.jobs → stack.stretches.items ≡ part.stretches → stack.sizes.items ≡ size_of part ∷ [] → IsBegun jobs stack
  one_begun stack some own own' sizes =
      let j = (get_or part.jobs 0 no_own).job in
      let work = All-map (λ own. (own.job < length jobs) × (1 ≤ (job_at jobs own.job).work)) (first_job jobs windows ranks) (filter works order)
      (λ i d within. (
        All-filter works (λ j. j < length jobs) order (known_all jobs order ordered) i d within,
        ltb-true 0 (job_at jobs (get_or (filter works order) i d)).work (filter_passes works order i d within),
      )) 0 no_own some in
      let stretch = one_at (λ own. own.stretch ≡ (window_at windows j).first) part.stretches (runs_marked j (window_at windows j).first
      (record { known = work.0; some = work.1; inside = record { from = omega arith; upto = are.windows_are.some j work.0 } })) in
      record {
        windows = windows;
        parts = part ∷ [];
        instance = are;
        groups = begun_search (part ∷ []) (λ j known some. inl (has_job (λ own. own.job ≡ j) j known some refl)) (λ j k runs. inl (runs_marked j k runs))
            (begun_waits (omega (arith, stretch.1)), All-nil (IsBefore windows part), tt, tt) (λ i is. absurd (omega (arith, is))) few_jobs few_own;
        laid = record { sizes = sizes; jobs = own; stretches = own' };
      }

  -- where no job has work there is no stretch in which one may run
  pub none_begun : (stack : Stack) → length part.jobs ≡ 0 → stack.jobs.items ≡ part.jobs → stack.stretches.items ≡ part.stretches → stack.sizes.items ≡ [] → IsBegun jobs stack
  none_begun stack none own own' sizes =
      let idle : (j : ℕ) → j < length jobs → 1 ≤ (job_at jobs j).work → ⊥ = λ j known some.
      let one = one_at (λ own. own.job ≡ j) part.jobs (has_job (λ own. own.job ≡ j) j known some refl) in omega (arith, one.1, none) in
      let free : length part.stretches ≡ 0 = elim (cases_lt 0 (length part.stretches)) [
        | inr less ↦ omega (arith, less)
        | inl some ↦
            let one = one_at (λ one. IsIn windows one.job (get_or part.stretches 0 no_own_stretch).stretch) part.jobs ((begun_waits some).own_stretches 0 no_own_stretch some).covered in
            absurd (omega (arith, one.1, none))
      ] in
      record {
        windows = windows;
        parts = [];
        instance = are;
        groups = begun_search [] (λ j known some. absurd (idle j known some)) (λ j k runs. absurd (idle j runs.known runs.some)) tt tt (omega arith) (omega arith);
        laid = record { sizes = sizes; jobs = own ∙ nil_from_length part.jobs none; stretches = own' ∙ nil_from_length part.stretches free };
      }
