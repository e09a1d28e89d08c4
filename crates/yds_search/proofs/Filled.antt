-- A part by place and by number: its windows, its work and length, and how it is filled.
use Rattle.yds_model.proofs.Common.{◌≡◌, ℕ, ◌+◌, ◌*◌, ◌^◌, ◌<◌, ◌≤◌, ◌==◌, List, [], ◌∷◌, ◌∙◌, length, map, get_or, refl, sym, ap, subst, inl, inr, arith, if◌then◌else◌, nat_lt, All, sum_by, div-le_self, cases_lt, cases_eq, get_or-map, length-map, All-map, All-from_get_or, sum_by-le, sum_by-cons, get_or-le-sum_by, count_by-le-length, mul-le, Job, job_at, common_divisor, ComesFirst, part_own, part_other, sum_by_same, sum_by-mul, sum_by-map}
use Rattle.yds_events.specs.declared.window.Window.{Window}
use Rattle.yds_events.specs.Window.{window_at, no_window, IsIn, IsPlace}
use Rattle.yds_timetable.specs.Shares.{JobShare}
use Rattle.yds_search.specs.declared.own.OwnJob.{OwnJob}
use Rattle.yds_search.specs.declared.own.OwnStretch.{OwnStretch}
use Rattle.yds_search.specs.Found.{Found, Group, per_time, per_work, units_of_job, units_in_stretch}
use Rattle.yds_events.specs.ServingOrder.{Precedes}
use Rattle.yds_search.specs.Own.{Part, job_numbers, stretch_numbers, window_of, own_windows, HaveWindows, wants_at, rooms_at, share_by_number, shares_by_number, full_share, full_shares}
use Rattle.yds_search.specs.Fill.{IsNotAfter, IsFill}
use Rattle.yds_search.specs.Instance.{IsInstance}
use Rattle.yds_search.specs.Waiting.{HasJob, HasStretch, IsWaiting}
use Rattle.yds_search.specs.Search.{IsEarly, IsLaidOut}
use Rattle.yds_search.proofs.KeySums.{over, over_same, over_add, sum_of_all, over_one, over_zero, sums_swap}
use Rattle.yds_search.proofs.LowestSpeed.{lowest}
use Rattle.yds_search.proofs.Members.{AreApart, one_at, at_one, over_alone, same_place, all_pairs_map}
use Rattle.yds_search.proofs.Shares.{units_between, over_stretches, over_jobs}

-- what stands where no job does
abbrev pub no_own : OwnJob
no_own = record { job = 0; work = 0; first = 0; end = 0 }

-- what stands where no stretch does
abbrev pub no_own_stretch : OwnStretch
no_own_stretch = record { stretch = 0; length = 0 }

-- a member's place is i where its number is that of i
place_counts : {X : Type 0} (number : X → ℕ) (xs : List X) (a i units : ℕ) (d : X) → AreApart number xs → a < length xs → i < length xs →
    (if get_or (map number xs) a 0 == number (get_or xs i d) then units else 0) ≡ (if a == i then units else 0)
place_counts number xs a i units d apart within within' =
    let here : get_or (map number xs) a 0 ≡ number (get_or xs a d) = get_or-map number xs a d 0 within in
    elim (cases_eq a i) [
      | inl same ↦ part_own (get_or (map number xs) a 0) (number (get_or xs i d)) units (here ∙ ap (λ k. number (get_or xs k d)) same) ∙ sym (part_own a i units same)
      | inr other ↦ part_other (get_or (map number xs) a 0) (number (get_or xs i d)) units (λ is. other (same_place number xs a i d apart within within' (sym here ∙ is)))
          ∙ sym (part_other a i units other)
    ]

-- what is left, place by place, is what one sum leaves of the other
left_over : {X : Type 0} (f g : X → ℕ) (xs : List X) (d : X) (left : List ℕ) → ((i : ℕ) → i < length xs → f (get_or xs i d) + get_or left i 0 ≡ g (get_or xs i d)) →
    sum_by f xs + over (length xs) (λ i. get_or left i 0) ≡ sum_by g xs
left_over f g xs d left each = omega (
  arith,
  sum_of_all f xs d,
  sum_of_all g xs d,
  over_add (λ i. f (get_or xs i d)) (λ i. get_or left i 0) (length xs),
  over_same (λ i. f (get_or xs i d) + get_or left i 0) (λ i. g (get_or xs i d)) (length xs) each,
)

-- of a single item the sum is its own
sum_alone : {X : Type 0} (f : X → ℕ) (xs : List X) (d : X) → length xs ≡ 1 → f (get_or xs 0 d) ≡ sum_by f xs
sum_alone f [] d single = absurd (omega (arith, single))
sum_alone f (x ∷ xs) d single = omega (arith, sum_by-cons f x xs, ap (sum_by f) (no_items xs (omega (arith, single)))) where
  no_items : {X : Type 0} (xs : List X) → length xs ≡ 0 → xs ≡ []
  no_items [] none = refl
  no_items (x ∷ xs) none = absurd (omega (arith, none))

module _ (jobs : List Job) (windows : List Window) (found : Found) (part : Part) (are : IsInstance jobs windows) (waits : IsWaiting jobs windows found part) where
  abbrev pub job_in : ℕ → OwnJob
  job_in i = get_or part.jobs i no_own

  -- the stretch at a place
  abbrev pub stretch_in : ℕ → OwnStretch
  stretch_in p = get_or part.stretches p no_own_stretch

  -- each job has a number of its own
  pub jobs_apart : AreApart (λ own. own.job) part.jobs
  jobs_apart a b d before within = (waits.precede a b d before within).0

  -- and so has each stretch
  pub stretches_apart : AreApart (λ own. own.stretch) part.stretches
  stretches_apart a b d before within same = omega (arith, waits.rise a b d before within, same)

  -- in order of deadline and number
  comes_first : (a b : ℕ) → a ≤ b → b < length part.jobs → ComesFirst jobs (job_in a).job (job_in b).job
  comes_first a b upto inside = elim (cases_lt a b) [
    | inl before ↦ (waits.precede a b no_own before inside).1
    | inr after ↦
        let same : a ≡ b = omega arith in
        inr (ap (λ i. (job_at jobs (job_in i).job).deadline) same, omega (arith, ap (λ i. (job_in i).job) same))
  ]

  -- a stretch's number, and how many there are
  number_at : (p : ℕ) → p < length part.stretches → get_or (stretch_numbers part.stretches) p 0 ≡ (stretch_in p).stretch
  number_at p upto = get_or-map (λ own. own.stretch) part.stretches p no_own_stretch 0 upto

  -- as many numbers as stretches
  stretch_count : length (stretch_numbers part.stretches) ≡ length part.stretches
  stretch_count = length-map part.stretches (λ own. own.stretch)

  -- a window by place is that by number
  first_is : (i : ℕ) → i < length part.jobs → IsPlace (stretch_numbers part.stretches) (window_at windows (job_in i).job).first (window_at (own_windows part.jobs) i).first
  first_is i inside = rw (get_or-map window_of part.jobs i no_own no_window inside) (waits.own_jobs i no_own inside).first

  -- so is the place after its last stretch
  end_is : (i : ℕ) → i < length part.jobs → IsPlace (stretch_numbers part.stretches) (window_at windows (job_in i).job).end (window_at (own_windows part.jobs) i).end
  end_is i inside = rw (get_or-map window_of part.jobs i no_own no_window inside) (waits.own_jobs i no_own inside).end

  -- a place in a window is a number in it
  pub in_number : (i p : ℕ) → i < length part.jobs → p < length part.stretches → IsIn (own_windows part.jobs) i p → IsIn windows (job_in i).job (stretch_in p).stretch
  in_number i p inside upto is_in = record {
    from = omega (arith, (first_is i inside).from p is_in.from (omega (arith, upto, stretch_count)), number_at p upto);
    upto = omega (arith, (end_is i inside).before p is_in.upto, number_at p upto);
  }

  -- and a number in a window is a place in it
  pub in_place : (i p : ℕ) → i < length part.jobs → p < length part.stretches → IsIn windows (job_in i).job (stretch_in p).stretch → IsIn (own_windows part.jobs) i p
  in_place i p inside upto is_in = record {
    from = elim (cases_lt p (window_at (own_windows part.jobs) i).first) [
      | inl before ↦ absurd (omega (arith, is_in.from, (first_is i inside).before p before, number_at p upto))
      | inr after ↦ after
    ];
    upto = elim (cases_lt p (window_at (own_windows part.jobs) i).end) [
      | inl before ↦ before
      | inr after ↦ absurd (omega (arith, is_in.upto, (end_is i inside).from p after (omega (arith, upto, stretch_count)), number_at p upto))
    ];
  }

  -- each window has a place
  pub windows_have : HaveWindows (length part.stretches) part.jobs
  windows_have i d inside = let own = waits.own_jobs i d inside in (own.meets, omega (arith, own.end.within, stretch_count))

  -- each stretch has a job, so there is one
  pub some_job : 1 ≤ length part.jobs
  some_job = let one = one_at _ part.jobs (waits.own_stretches 0 no_own_stretch waits.some).covered in omega (arith, one.1)

  -- jobs in order have ends in order
  pub ends_rise : (i j : ℕ) → i ≤ j → j < length part.jobs → (window_at (own_windows part.jobs) i).end ≤ (window_at (own_windows part.jobs) j).end
  ends_rise i j upto inside =
      let before : i < length part.jobs = omega (arith, upto, inside) in
      let due : (job_at jobs (job_in i).job).deadline ≤ (job_at jobs (job_in j).job).deadline =
      elim (comes_first i j upto inside) [ inl less ↦ omega (arith, less) | inr same ↦ omega (arith, same.0) ] in
      let rise = are.windows_are.ends (job_in i).job (job_in j).job (waits.own_jobs i no_own before).known (waits.own_jobs j no_own inside).known due in
      let one = end_is i before in
      let other = end_is j inside in
      elim (cases_lt (window_at (own_windows part.jobs) j).end (window_at (own_windows part.jobs) i).end) [
        | inr least ↦ least
        | inl less ↦ absurd (omega (
          arith,
          rise,
          one.before (window_at (own_windows part.jobs) j).end less,
          other.from (window_at (own_windows part.jobs) j).end (omega arith) (omega (arith, less, one.within)),
        ))
      ]

  -- each work and each length is small, and some
  job_work : (i : ℕ) (d : OwnJob) → i < length part.jobs → (1 ≤ (get_or part.jobs i d).work) × ((get_or part.jobs i d).work ≤ 1000000)
  job_work i d inside = grind arith

  -- so is each length
  stretch_length : (i : ℕ) (d : OwnStretch) → i < length part.stretches → (1 ≤ (get_or part.stretches i d).length) × ((get_or part.stretches i d).length ≤ 1000000000)
  stretch_length i d inside = grind arith

  -- a group with the work and the length of the part
  module _ (group : Group) (work_is : group.work ≡ sum_by (λ own. own.work) part.jobs) (length_is : group.length ≡ sum_by (λ own. own.length) part.stretches) where
    pub group_some : (1 ≤ group.work) × (1 ≤ group.length)
    group_some = (
      omega (arith, work_is, get_or-le-sum_by (λ own. own.work) part.jobs 0 no_own some_job, (job_work 0 no_own some_job).0),
      omega (arith, length_is, get_or-le-sum_by (λ own. own.length) part.stretches 0 no_own_stretch waits.some, (stretch_length 0 no_own_stretch waits.some).0),
    )

    -- its units fit 64 bits
    pub units_fit : length part.jobs ≤ 4000 → length part.stretches ≤ 8000 →
        All (λ own. per_time group * own.length < 2 ^ 64) part.stretches × All (λ own. per_work group * own.work < 2 ^ 64) part.jobs
    units_fit few few_stretches =
        let small : per_time group ≤ 4000000000 = omega (
          arith,
          div-le_self group.work (common_divisor group.work group.length),
          work_is,
          sum_by-le (λ own. own.work) 1000000 part.jobs (λ i d inside. (job_work i d inside).1),
          few,
        ) in
        let small' : per_work group ≤ 8000000000000 = omega (
          arith,
          div-le_self group.length (common_divisor group.work group.length),
          length_is,
          sum_by-le (λ own. own.length) 1000000000 part.stretches (λ i d inside. (stretch_length i d inside).1),
          few_stretches,
        ) in (
          λ i d inside. omega (arith, mul-le (per_time group) (get_or part.stretches i d).length 4000000000 1000000000 small (stretch_length i d inside).1),
          λ i d inside. omega (arith, mul-le (per_work group) (get_or part.jobs i d).work 8000000000000 1000000 small' (job_work i d inside).1),
        )

    -- and each stretch has some room
    pub rooms_some : All (λ own. 1 ≤ per_time group * own.length) part.stretches
    rooms_some p d within =
        mul-le 1 1 (per_time group) (get_or part.stretches p d).length (lowest group.work group.length group_some.0 group_some.1).some_first (stretch_length p d within).0

    -- a single job gets all units of each stretch
    pub single_laid_out : length part.jobs ≡ 1 → IsLaidOut jobs windows part group (full_shares (per_time group) part.jobs part.stretches)
    single_laid_out single =
        let terms = lowest group.work group.length group_some.0 group_some.1 in
        let give : OwnStretch → JobShare = full_share (per_time group) part.jobs in
        let shares : List JobShare = full_shares (per_time group) part.jobs part.stretches in
        let job : get_or (job_numbers part.jobs) 0 0 ≡ (job_in 0).job = get_or-map (λ own. own.job) part.jobs 0 no_own 0 some_job in
        let units : ℕ → ℕ = λ p. per_time group * (stretch_in p).length in
        record {
          work_is = work_is;
          length_is = length_is;
          some_work = group_some.0;
          some_length = group_some.1;
          jobs_of = All-map (λ share. HasJob part share.job) give part.stretches
              (λ p d within. at_one (λ own. own.job ≡ get_or (job_numbers part.jobs) 0 0) part.jobs 0 no_own some_job (sym job));
          stretches_of = All-map (λ share. HasStretch part share.stretch) give part.stretches
              (λ p d within. at_one (λ own. own.stretch ≡ (get_or part.stretches p d).stretch) part.stretches p d within refl);
          inside = All-map (λ share. IsIn windows share.job share.stretch) give part.stretches (λ p d within.
              let one = one_at (λ one. IsIn windows one.job (get_or part.stretches p d).stretch) part.jobs (waits.own_stretches p d within).covered in
              let first : 0 ≡ one.0 = omega (arith, one.1, single) in
              rw (job ∙ ap (λ i. (job_in i).job) first) (one.2 no_own));
          some = All-map (λ share. 1 ≤ share.units) give part.stretches rooms_some;
          served = All-from_get_or (λ own. units_of_job shares own.job ≡ per_work group * own.work) part.jobs no_own (λ i inside.
              let first : 0 ≡ i = omega (arith, inside, single) in
              subst (λ (i : ℕ). units_of_job shares (job_in i).job ≡ per_work group * (job_in i).work) first (omega (
                arith,
                sum_by-map give (λ share. if share.job == (job_in 0).job then share.units else 0) part.stretches,
                sum_by_same (λ own. if get_or (job_numbers part.jobs) 0 0 == (job_in 0).job then per_time group * own.length else 0) (λ own. per_time group * own.length) part.stretches
                    (λ p d within. part_own (get_or (job_numbers part.jobs) 0 0) (job_in 0).job (per_time group * (get_or part.stretches p d).length) job),
                sum_by-mul (per_time group) (λ own. own.length) part.stretches,
                ap (λ n. per_time group * n) (sym length_is ∙ sym terms.second),
                ap (λ n. per_work group * n) (sum_alone (λ own. own.work) part.jobs no_own single ∙ sym work_is ∙ sym terms.first),
              )));
          full = All-from_get_or (λ own. units_in_stretch shares own.stretch ≡ per_time group * own.length) part.stretches no_own_stretch (λ p upto.
              sum_by-map give (λ share. if share.stretch == (stretch_in p).stretch then share.units else 0) part.stretches
              ∙ sym (sum_of_all (λ own. if own.stretch == (stretch_in p).stretch then per_time group * own.length else 0) part.stretches no_own_stretch)
              ∙ over_same (λ i. if (stretch_in i).stretch == (stretch_in p).stretch then units i else 0) (λ i. if p == i then units p else 0) (length part.stretches) (λ i within.
              elim (cases_eq i p) [
                | inl same ↦ part_own (stretch_in i).stretch (stretch_in p).stretch (units i) (ap (λ k. (stretch_in k).stretch) same) ∙ ap units same ∙ sym (part_own p i (units p) (sym same))
                | inr other ↦ part_other (stretch_in i).stretch (stretch_in p).stretch (units i)
                    (λ is. other (same_place (λ own. own.stretch) part.stretches i p no_own_stretch stretches_apart within upto is))
                    ∙ sym (part_other p i (units p) (λ same. other (sym same)))
              ])
              ∙ over_alone (units p) (length part.stretches) p upto);
          in_order = all_pairs_map (λ one next. one.stretch ≡ next.stretch → Precedes jobs one.job next.job) give part.stretches
              (λ a b d before within same. absurd (stretches_apart a b d before within same));
          early = All-map (λ share. All (IsEarly jobs windows share) shares) give part.stretches
              (λ p d within. All-map (IsEarly jobs windows (give (get_or part.stretches p d))) give part.stretches (λ q e within' is_in before. inr (refl, omega arith)));
          few = omega (arith, length-map part.stretches give, single);
        }

    -- that is filled at its average speed
    module _ (shares : List JobShare) (wants' rooms' : List ℕ)
        (fill : IsFill IsNotAfter (own_windows part.jobs) (wants_at (per_work group) part.jobs) (rooms_at (per_time group) part.stretches) shares wants' rooms') where
      abbrev pub own_shares : List JobShare
      own_shares = shares_by_number part.jobs part.stretches shares

      -- a share's job and stretch are places of the part
      job_place : (x : ℕ) (d : JobShare) → x < length shares → (get_or shares x d).job < length part.jobs
      job_place x d below = omega (arith, (fill.taken.parts x d below).known, length-map part.jobs window_of)

      -- a share's stretch is a place of the part
      stretch_place : (x : ℕ) (d : JobShare) → x < length shares → (get_or shares x d).stretch < length part.stretches
      stretch_place x d below = omega (arith, (fill.taken.parts x d below).known_stretch, length-map part.stretches (λ own. per_time group * own.length))

      -- the number that a place stands for
      job_is : (x : ℕ) (d : JobShare) → x < length shares → get_or (job_numbers part.jobs) (get_or shares x d).job 0 ≡ (job_in (get_or shares x d).job).job
      job_is x d below = get_or-map (λ own. own.job) part.jobs (get_or shares x d).job no_own 0 (job_place x d below)

      -- so has the stretch
      stretch_is : (x : ℕ) (d : JobShare) → x < length shares → get_or (stretch_numbers part.stretches) (get_or shares x d).stretch 0 ≡ (stretch_in (get_or shares x d).stretch).stretch
      stretch_is x d below = number_at (get_or shares x d).stretch (stretch_place x d below)

      -- the units by number with what is left are what a job wants and what room a stretch has
      pub job_units : (i : ℕ) → i < length part.jobs → units_of_job own_shares (job_in i).job + get_or wants' i 0 ≡ per_work group * (job_in i).work
      job_units i inside = omega (
        arith,
        sum_by-map (share_by_number part.jobs part.stretches) (λ share. if share.job == (job_in i).job then share.units else 0) shares,
        sum_by_same (λ share. if get_or (job_numbers part.jobs) share.job 0 == (job_in i).job then share.units else 0) (λ share. if share.job == i then share.units else 0) shares
            (λ x d below. place_counts (λ own. own.job) part.jobs (get_or shares x d).job i (get_or shares x d).units no_own jobs_apart (job_place x d below) inside),
        fill.want i,
        get_or-map (λ own. per_work group * own.work) part.jobs i no_own 0 inside,
      )

      -- so it is of a stretch
      pub stretch_units : (p : ℕ) → p < length part.stretches → units_in_stretch own_shares (stretch_in p).stretch + get_or rooms' p 0 ≡ per_time group * (stretch_in p).length
      stretch_units p upto = omega (
        arith,
        sum_by-map (share_by_number part.jobs part.stretches) (λ share. if share.stretch == (stretch_in p).stretch then share.units else 0) shares,
        sum_by_same (λ share. if get_or (stretch_numbers part.stretches) share.stretch 0 == (stretch_in p).stretch then share.units else 0)
            (λ share. if share.stretch == p then share.units else 0) shares
            (λ x d below. place_counts (λ own. own.stretch) part.stretches (get_or shares x d).stretch p (get_or shares x d).units no_own_stretch stretches_apart (stretch_place x d below) upto),
        fill.room p,
        get_or-map (λ own. per_time group * own.length) part.stretches p no_own_stretch 0 upto,
      )

      -- each share is of a job and in a stretch of the part
      pub shares_jobs : All (λ share. HasJob part share.job) own_shares
      shares_jobs = All-map (λ share. HasJob part share.job) (share_by_number part.jobs part.stretches) shares
          (λ x d below. at_one (λ own. own.job ≡ get_or (job_numbers part.jobs) (get_or shares x d).job 0) part.jobs (get_or shares x d).job no_own (job_place x d below) (sym (job_is x d below)))

      -- and in a stretch of the part
      pub shares_stretches : All (λ share. HasStretch part share.stretch) own_shares
      shares_stretches = All-map (λ share. HasStretch part share.stretch) (share_by_number part.jobs part.stretches) shares
          (λ x d below. at_one (λ own. own.stretch ≡ get_or (stretch_numbers part.stretches) (get_or shares x d).stretch 0) part.stretches (get_or shares x d).stretch no_own_stretch
          (stretch_place x d below) (sym (stretch_is x d below)))

      -- and in the job's window
      pub shares_inside : All (λ share. IsIn windows share.job share.stretch) own_shares
      shares_inside = All-map (λ share. IsIn windows share.job share.stretch) (share_by_number part.jobs part.stretches) shares
          (λ x d below. rw (job_is x d below, stretch_is x d below)
          (in_number (get_or shares x d).job (get_or shares x d).stretch (job_place x d below) (stretch_place x d below) (fill.taken.parts x d below).inside))

      -- row by row and column by column
      pub row_units : (j : ℕ) → sum_by (λ one. units_between own_shares j one.stretch) part.stretches ≡ units_of_job own_shares j
      row_units j = over_stretches (λ own. own.stretch) part.stretches own_shares j stretches_apart shares_stretches

      -- the units in a stretch, over the part's jobs
      pub column_units : (k : ℕ) → sum_by (λ one. units_between own_shares one.job k) part.jobs ≡ units_in_stretch own_shares k
      column_units k = over_jobs (λ own. own.job) part.jobs own_shares k jobs_apart shares_jobs

      -- what is left of the wants is what is left of the room
      pub balance : over (length part.jobs) (λ i. get_or wants' i 0) ≡ over (length part.stretches) (λ p. get_or rooms' p 0)
      balance =
          let terms = lowest group.work group.length group_some.0 group_some.1 in
          omega (
            arith,
            left_over (λ own. units_of_job own_shares own.job) (λ own. per_work group * own.work) part.jobs no_own wants' job_units,
            left_over (λ own. units_in_stretch own_shares own.stretch) (λ own. per_time group * own.length) part.stretches no_own_stretch rooms' stretch_units,
            sum_by-mul (per_work group) (λ own. own.work) part.jobs,
            sum_by-mul (per_time group) (λ own. own.length) part.stretches,
            sum_by_same (λ own. sum_by (λ one. units_between own_shares own.job one.stretch) part.stretches) (λ own. units_of_job own_shares own.job) part.jobs
                (λ i d within. row_units (get_or part.jobs i d).job),
            sum_by_same (λ own. sum_by (λ one. units_between own_shares one.job own.stretch) part.jobs) (λ own. units_in_stretch own_shares own.stretch) part.stretches
                (λ p d within. column_units (get_or part.stretches p d).stretch),
            sums_swap (λ (own : OwnJob) (one : OwnStretch). units_between own_shares own.job one.stretch) part.jobs part.stretches,
            ap (λ n. per_time group * n) (sym length_is ∙ sym terms.second),
            ap (λ n. per_work group * n) (sym work_is ∙ sym terms.first),
          )

      -- where nobody wants more the part is laid out
      pub laid_out : ((i : ℕ) → get_or wants' i 0 ≡ 0) → IsLaidOut jobs windows part group own_shares
      laid_out none =
          let full : (p : ℕ) → p < length part.stretches → get_or rooms' p 0 ≡ 0 = λ p upto.
          omega (arith, balance, over_zero (λ i. get_or wants' i 0) (length part.jobs) (λ i inside. none i), over_one (λ p. get_or rooms' p 0) (length part.stretches) p upto) in
          record {
            work_is = work_is;
            length_is = length_is;
            some_work = group_some.0;
            some_length = group_some.1;
            jobs_of = shares_jobs;
            stretches_of = shares_stretches;
            inside = shares_inside;
            some = All-map (λ share. 1 ≤ share.units) (share_by_number part.jobs part.stretches) shares (λ x d below. (fill.taken.parts x d below).some);
            served = All-from_get_or (λ own. units_of_job own_shares own.job ≡ per_work group * own.work) part.jobs no_own (λ i inside. omega (arith, job_units i inside, none i));
            full = All-from_get_or (λ own. units_in_stretch own_shares own.stretch ≡ per_time group * own.length) part.stretches no_own_stretch
                (λ p upto. omega (arith, stretch_units p upto, full p upto));
            in_order = all_pairs_map (λ one next. one.stretch ≡ next.stretch → Precedes jobs one.job next.job) (share_by_number part.jobs part.stretches) shares
                (λ a b d before within same.
                let below : a < length shares = omega (arith, before, within) in
                let order = fill.taken.ordered a b d before within (same_place (λ own. own.stretch) part.stretches (get_or shares a d).stretch (get_or shares b d).stretch no_own_stretch
                stretches_apart (stretch_place a d below) (stretch_place b d within) (sym (stretch_is a d below) ∙ same ∙ stretch_is b d within)) in
                rw (job_is a d below, job_is b d within) (waits.precede (get_or shares a d).job (get_or shares b d).job no_own (less order.0 order.1) (job_place b d within)));
            early = All-map (λ share. All (IsEarly jobs windows share) own_shares) (share_by_number part.jobs part.stretches) shares
                (λ x d below. All-map (IsEarly jobs windows (share_by_number part.jobs part.stretches (get_or shares x d))) (share_by_number part.jobs part.stretches) shares (early x d below));
            few = omega (
              arith,
              fill.few,
              length-map shares (share_by_number part.jobs part.stretches),
              count_by-le-length (λ want. nat_lt 0 want) (wants_at (per_work group) part.jobs),
              count_by-le-length (λ room. room == 0) rooms',
              fill.same_rooms,
              length-map part.stretches (λ own. per_time group * own.length),
              length-map part.jobs (λ own. per_work group * own.work),
            );
          } where
            less : {a b : ℕ} → (a ≡ b → ⊥) → a ≤ b → a < b
            less {a} {b} differ upto = elim (cases_eq a b) [ inl same ↦ absurd (differ same) | inr other ↦ omega (arith, other, upto) ]

            -- a job with a share found what is before it in its window taken by jobs before it
            early : (x : ℕ) (d : JobShare) → x < length shares → (y : ℕ) (e : JobShare) → y < length shares →
                IsEarly jobs windows (share_by_number part.jobs part.stretches (get_or shares x d)) (share_by_number part.jobs part.stretches (get_or shares y e))
            early x d below y e below' is_in before =
                let one = get_or shares x d in
                let other = get_or shares y e in
                let place = in_place one.job other.stretch (job_place x d below) (stretch_place y e below') (rw (job_is x d below, stretch_is y e below') at is_in) in
                let earlier : other.stretch < one.stretch = elim (cases_lt other.stretch one.stretch) [
                  | inl less ↦ less
                  | inr more ↦ elim (cases_eq one.stretch other.stretch) [
                    | inl same ↦ absurd (omega (arith, before, ap (λ p. get_or (stretch_numbers part.stretches) p 0) same))
                    | inr differ ↦ absurd (omega (
                      arith,
                      before,
                      stretch_is x d below,
                      stretch_is y e below',
                      waits.rise one.stretch other.stretch no_own_stretch (omega (arith, more, differ)) (stretch_place y e below'),
                    ))
                  ]
                ] in
                rw (job_is x d below, job_is y e below') (comes_first other.job one.job ((fill.taken.early x d below other.stretch place.from earlier).before y e below' refl) (job_place x d below))
