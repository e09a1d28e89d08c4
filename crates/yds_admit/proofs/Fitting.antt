-- The walk by falling releases over all deadlines: marked jobs that each find their room after their release leave no interval overfull.
use Rattle.yds_model.proofs.Common.{◌≡◌, ℕ, ◌+◌, ◌-◌, ◌*◌, ◌<◌, ◌≤◌, Bool, true, false, List, length, get_or, map, take, ◌∙◌, refl, sym, subst, arith, inl, inr, ap, cond, nat_le, ◌&&◌, ◌==◌, Any, cases_lt, cases_eq, get_or-map, get_or_default, length-map, sum_by-IsPermutation, Contains-permutation, IsPermutation-refl, get_or-range_with_len, length-range_with_len, mul-sub, mul-le-mul_left, Job, no_job, job_at, numbers_of, sum_by_same, sum_by-map, work_within}
use Rattle.model_lemmas.proofs.Confined.{part_within}
use Rattle.yds_laws.specs.AdmissionLaws.{HasRoom}
use Rattle.yds_admit.specs.declared.board.Board.{Board}
use Rattle.yds_admit.specs.declared.board.Spot.{Spot}
use Rattle.yds_admit.specs.Chain.{IsFalling, AreTimes, due_work, IsChain, Takes}
use Rattle.yds_admit.specs.Board.{IsSpot, IsBoard, AreMarked, if_marked}
use Rattle.yds_admit.proofs.Overfull.{jobs_work, any_of_all}
use Rattle.yds_admit.proofs.Sweep.{reach, due_units, no_more, none_before, step_is, goes_through, last_with, work_of_front}

abbrev pub no_spot : Spot
no_spot = record { number = 0; release = 0; work = 0; begin = 0; end = 0 }

abbrev pub spot_at : List Spot → ℕ → Spot
spot_at spots k = get_or spots k no_spot

-- the spot's job, with no work if it isn't marked
abbrev pub masked : List ℕ → List Bool → Spot → Job
masked times marks spot = record { release = spot.release; deadline = get_or times spot.end 0; work = if_marked marks (λ n. spot.work) spot.number }

no_work : (b : Bool) → ◌≡◌ {A = ℕ} (cond b 0 0) 0
no_work true = refl
no_work false = refl

-- The walk over the spots, with m gaps.
module _ (top : ℕ) (times full : List ℕ) (spots : List Spot) (marks : List Bool) (m : ℕ) where
  abbrev pub masked_jobs : List Job
  masked_jobs = map (masked times marks) spots

  -- no interval from the release of this spot has too much work
  abbrev pub HoldsAt : ℕ → Type 0
  HoldsAt k = (q : ℕ) → (spot_at spots k).begin < q → q ≤ m →
      due_units top 0 masked_jobs times m (k + 1) q + top * (spot_at spots k).release ≤ reach top 0 masked_jobs times m q

  -- it has come to the n-th spot
  pub record Walking (n : ℕ) (gaps : List ℕ) : Type 0 where
    pub done : ℕ → ℕ
    pub chain : IsChain m (reach top 0 masked_jobs times m) (due_units top 0 masked_jobs times m n) done gaps 0 0
    pub none : done 0 ≡ 0
    pub kept : (k : ℕ) → n ≤ k → k < length spots → (q : ℕ) → q < (spot_at spots k).begin → get_or gaps q 0 ≡ get_or full q 0
    pub holds : (k : ℕ) → k < n → HoldsAt k

module _ (board : Board) (valid : IsBoard board) (marks : List Bool) (m : ℕ) (long : length board.times.items ≡ m + 1) where
  abbrev rows : List Job
  rows = board.rows.now

  abbrev top : ℕ
  top = board.top

  abbrev times : List ℕ
  times = board.times.items

  abbrev full : List ℕ
  full = board.gaps.items

  abbrev spots : List Spot
  spots = board.spots.items

  abbrev all : List Job
  all = masked_jobs top times full spots marks m

  abbrev Holds : ℕ → Type 0
  Holds = HoldsAt top times full spots marks m

  as_many : length all ≡ length spots
  as_many = length-map spots (masked times marks)

  masked_at : (k : ℕ) (d : Job) → k < length spots → get_or all k d ≡ masked times marks (spot_at spots k)
  masked_at k d below = get_or-map (masked times marks) spots k no_spot d below

  pub is_spot : (k : ℕ) → k < length spots → IsSpot rows times (spot_at spots k)
  is_spot k below = valid.are_spots.each k no_spot below

  pub falls : IsFalling all
  falls i j order below = grind (arith, as_many, masked_at)

  pub are_times : AreTimes 0 all times
  are_times = record {
    some = valid.are_times.some;
    first = valid.are_times.first;
    rising = valid.are_times.rising;
    all = λ k d below later.
        let there : k < length spots = omega (arith, below, as_many) in
        let end : ℕ = (spot_at spots k).end in (
          end,
          (is_spot k there).within,
          get_or_default times end _ 0 (is_spot k there).within ∙ ap (λ (job : Job). job.deadline) (sym (masked_at k d there)),
        );
  }

  abbrev goes : ℕ → ℕ
  goes = reach top 0 all times m

  abbrev due : ℕ → ℕ → ℕ
  due = due_units top 0 all times m

  full_each : (q : ℕ) → q < m → get_or full q 0 + goes q ≡ goes (q + 1)
  full_each q below = valid.are_gaps.each q (omega (arith, long, below))

  pub begun : Walking top times full spots marks m 0 full
  begun = record {
    done = λ q. 0;
    chain = record {
      as_long = omega (arith, valid.are_gaps.as_long, long);
      steps = λ q below. omega (arith, full_each q below, no_carried q);
      most = λ q below. omega arith;
      exact = λ q below some. refl;
      last = refl;
    };
    none = refl;
    kept = λ k from below q less. refl;
    holds = λ k below. absurd (omega arith);
  } where
    no_carried : (q : ℕ) → ◌≡◌ {A = ℕ} (cond (q + 1 == 0) 0 0) 0
    no_carried q = no_work (q + 1 == 0)

  -- a spot's place of its release isn't after that of one before it
  begins_later : (n k : ℕ) → n ≤ k → k < length spots → (spot_at spots k).begin ≤ (spot_at spots n).begin
  begins_later n k order below = grind (arith, cases_lt, is_spot)

  module _ (n : ℕ) (within : n < length spots) (gaps new : List ℕ) (walking : Walking top times full spots marks m n gaps)
      (takes : Takes gaps (spot_at spots n).end (if_marked marks (λ k. (spot_at spots n).work) (spot_at spots n).number) new 0 0)
      (kept : (q : ℕ) → q < (spot_at spots n).begin → get_or new q 0 ≡ get_or gaps q 0)
      (enough : top * ((spot_at spots n).release - get_or times (spot_at spots n).begin 0) ≤ get_or new (spot_at spots n).begin 0) where
    abbrev spot : Spot
    spot = spot_at spots n

    here : IsSpot rows times spot
    here = is_spot n within

    still : (q : ℕ) → q < spot.begin → get_or new q 0 ≡ get_or full q 0
    still q less = kept q less ∙ walking.kept n (omega arith) within q less

    pub walks : Walking top times full spots marks m (n + 1) new
    walks =
        let went = goes_through top 0 all times m long n (omega (arith, within, as_many)) (masked times marks spot) (sym (masked_at n no_job within)) spot.end
        (omega (arith, here.within, long)) here.earlier (λ q after below. valid.are_times.rising spot.end q 0 after below)
        walking.done gaps new 0 0 walking.chain (sym walking.none) takes in
        let begins : spot.begin < m = omega (arith, here.in_order, here.within, long) in
        let before = none_before m goes (due (n + 1)) went.done new went.chain full spot.begin (omega (arith, begins)) full_each still in
        let step = step_is m goes (due (n + 1)) went.done new went.chain spot.begin begins in
        let after : went.done (spot.begin + 1) + top * spot.release ≤ goes (spot.begin + 1) = omega (
          arith,
          before,
          step,
          went.passed_is,
          enough,
          mul-sub top spot.release (get_or times spot.begin 0),
          mul-le-mul_left top here.until,
        ) in
        record {
          done = went.done;
          chain = went.chain;
          none = omega (arith, went.passed_is);
          kept = λ k from below q less. still q (omega (arith, less, begins_later n k (omega (arith, from)) below));
          holds = λ k below. elim (cases_eq k n) [
            | inr other ↦ walking.holds k (omega (arith, below, other))
            | inl same ↦ subst Holds (sym same) (λ q later most.
                let whole : spot.begin + 1 + (q - (spot.begin + 1)) ≡ q = omega (arith, later) in
                omega (
                  arith,
                  went.chain.most q most,
                  subst (λ (p : ℕ). went.done p + goes (spot.begin + 1) ≤ went.done (spot.begin + 1) + goes p) whole
                      (no_more m goes (due (n + 1)) went.done new went.chain (spot.begin + 1) (q - (spot.begin + 1)) (omega (arith, whole, most))),
                  after,
                ))
          ];
        }

  -- # What was found

  -- the spot of a job
  spot_of : (number : ℕ) → number < length rows → (k : ℕ) × (k < length spots) × ((spot_at spots k).number ≡ number)
  spot_of number below =
      let there = Contains-permutation (numbers_of rows) (map (λ (spot : Spot). spot.number) spots) number valid.are_spots.same (
        number,
        omega (arith, length-range_with_len 0 (length rows), below),
        omega (arith, get_or-range_with_len 0 (length rows) number number below),
      ) in
      let short : there.0 < length spots = omega (arith, there.1, length-map spots (λ (spot : Spot). spot.number)) in
      (there.0, short, sym (get_or-map (λ (spot : Spot). spot.number) spots there.0 no_spot number short) ∙ there.2)

  same_term : (from to : ℕ) (spot : Spot) → IsSpot rows times spot →
      if_marked marks (λ n. part_within from to (job_at rows n)) spot.number ≡ part_within from to (masked times marks spot)
  same_term from to spot is = by_mark (get_or marks spot.number false) where
    by_mark : (b : Bool) → cond b (part_within from to (job_at rows spot.number)) 0 ≡
        cond (nat_le from spot.release && nat_le (get_or times spot.end 0) to) (cond b spot.work 0) 0
    by_mark false = sym (no_work (nat_le from spot.release && nat_le (get_or times spot.end 0) to))
    by_mark true = rw (is.release, is.work, is.deadline) refl

  module _ (jobs : List Job) (marked : AreMarked rows marks jobs) where
    same_work : (from to : ℕ) → work_within jobs from to ≡ work_within all from to
    same_work from to =
        let g : ℕ → ℕ = if_marked marks (λ n. part_within from to (job_at rows n)) in
        sym (marked.sums (part_within from to))
        ∙ sym (sum_by-IsPermutation g (numbers_of rows) (map (λ (spot : Spot). spot.number) spots) valid.are_spots.same)
        ∙ sum_by-map (λ (spot : Spot). spot.number) g spots
        ∙ sum_by_same (λ (spot : Spot). g spot.number) (λ (spot : Spot). part_within from to (masked times marks spot)) spots
        (λ k d below. same_term from to (get_or spots k d) (valid.are_spots.each k d below))
        ∙ sym (sum_by-map (masked times marks) (part_within from to) spots)

    -- a job has a spot with its window
    spot_for : (P : Job → Type 0) → Any P jobs → (k : ℕ) × (k < length spots) × P (job_at rows (spot_at spots k).number)
    spot_for P some =
        let known = marked.known some.0 some.1 some.2 in
        let there = spot_of known.0 known.2 in (
          there.0,
          there.1,
          subst P (sym some.3 ∙ sym known.4 ∙ sym known.3 ∙ get_or_default rows known.0 known.1 no_job known.2 ∙ sym (ap (job_at rows) there.2)) some.4,
        )

    -- an interval from the release of a spot to the deadline of another has room
    pub has_room : (n : ℕ) → length spots ≤ n → ((k : ℕ) → k < n → Holds k) → HasRoom top jobs
    has_room n whole holds from to full =
        let begins = spot_for (λ job. job.release ≡ from) (any_of_all (λ job. job.release ≡ from) jobs full.is_release) in
        let ends = spot_for (λ job. job.deadline ≡ to) (any_of_all (λ job. job.deadline ≡ to) jobs full.is_deadline) in
        let release : (spot_at spots begins.0).release ≡ from = (is_spot begins.0 begins.1).release ∙ begins.2 in
        let q : ℕ = (spot_at spots ends.0).end in
        let end = is_spot ends.0 ends.1 in
        let deadline : get_or times q 0 ≡ to = end.deadline ∙ ends.2 in
        let last = last_with top 0 all all times m long are_times (IsPermutation-refl all) falls from (
          begins.0,
          job_at all begins.0,
          omega (arith, begins.1, as_many),
          get_or_default all begins.0 (job_at all begins.0) no_job (omega (arith, begins.1, as_many)),
          ap (λ (job : Job). job.release) (masked_at begins.0 no_job begins.1) ∙ release,
        ) in
        let k : ℕ = last.0 in
        let short : k < length spots = omega (arith, last.1, as_many) in
        let at : (job_at all k).release ≡ (spot_at spots k).release = ap (λ (job : Job). job.release) (masked_at k no_job short) in
        let later : (spot_at spots k).begin < q = elim (cases_lt (spot_at spots k).begin q) [
          | inl less ↦ less
          | inr most ↦ absurd (omega (
            arith,
            full.forward,
            deadline,
            last.2,
            at,
            (is_spot k short).until,
            valid.are_times.rising q (spot_at spots k).begin 0 most (omega (arith, (is_spot k short).in_order, (is_spot k short).within)),
          ))
        ] in
        omega (
          arith,
          full.too_much,
          jobs_work jobs from to,
          same_work from to,
          work_of_front top 0 all all times m long are_times (IsPermutation-refl all) falls k from to last.1 (omega (arith, last.2)) last.3,
          holds k (omega (arith, short, whole)) q later (omega (arith, end.within, long)),
          ap (λ n. due_work (take (k + 1) all) n) deadline,
          ap (λ n. top * n) deadline,
          ap (λ n. top * n) last.2,
          ap (λ n. top * n) at,
          mul-sub top to from,
        )
