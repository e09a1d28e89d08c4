-- What is idle between the times, jobs that take it, and what a cut leaves of it.
use Rattle.yds_model.proofs.Common.{◌≡◌, ℕ, zero, suc, ◌+◌, ◌-◌, ◌*◌, ◌<◌, ◌≤◌, List, [], ◌∷◌, ◌++◌, length, get_or, take, drop, set, ◌∙◌, subst, arith, inl, inr, ap, cond, nat_le, get_or-set_same, get_or-set_other, All, sum_by, IsNonDecreasing, cases_lt, cases_eq, le-leb, lt-leb, get_or_default, drop_all, append-nil, take_all, sum_by_push, mul-sub, mul-le-mul_left, Job, IsJob, job_at, work_within}
use Rattle.model_lemmas.proofs.Confined.{part_within, part_inside, part_early, part_late}
use Rattle.model_lemmas.proofs.SumsBelow.{sum_below_same, sum_below_front}
use Rattle.yds_laws.specs.AdmissionLaws.{HasRoom}
use Rattle.yds_admit.specs.Chain.{IsFalling, due_work}
use Rattle.yds_admit.specs.Board.{AreGaps}
use Rattle.yds_admit.specs.Pieces.{went, IsCount, IsCutting, AreDue}
use Rattle.yds_admit.specs.Idle.{HasIdle, IsIdleFrom, IsTakenFrom, Fits, idle_before}
use Rattle.yds_admit.proofs.Overfull.{jobs_work, any_of_all}
use Rattle.yds_admit.proofs.Sweep.{step_is}
use Rattle.yds_admit.proofs.Cutting.{next_went}
use Rattle.yds_admit.proofs.Least.{work_of_first, first_at_most, room_to}

-- # All of a vector was lent

-- what it holds then
pub lent : (len : ℕ) (items new : List ℕ) → len ≡ length items → length new ≡ length items → take len (new ++ drop (length new) items) ≡ new
lent len items new is as_long = grind (arith, append-nil, drop_all, take_all)

-- # Sums of what is idle

pub next_idle : (idle : List ℕ) (q : ℕ) → idle_before idle (q + 1) ≡ idle_before idle q + get_or idle q 0
next_idle idle q = let e : q + 1 ≡ suc q = omega arith in ap (λ k. idle_before idle k) e

-- a later place has no less before it
pub later_idle : (idle : List ℕ) (a b : ℕ) → a ≤ b → idle_before idle a ≤ idle_before idle b
later_idle idle a b = sum_below_front a b (λ k. get_or idle k 0)

-- one gap has another number
set_early : (idle : List ℕ) (at v q : ℕ) → q ≤ at → idle_before (set idle at v) q ≡ idle_before idle q
set_early idle at v q most = sum_below_same q (λ k. get_or (set idle at v) k 0) (λ k. get_or idle k 0)
    (λ k below. get_or-set_other idle at k v 0 (λ e. omega (arith, e, below, most)))

set_more : (idle : List ℕ) (at v more : ℕ) → at < length idle →
    idle_before (set idle at v) (at + 1 + more) + get_or idle at 0 ≡ idle_before idle (at + 1 + more) + v
set_more idle at v zero within =
    let e : at + 1 + zero ≡ suc at = omega arith in
    omega (
      arith,
      set_early idle at v at (omega arith),
      get_or-set_same idle at v 0 within,
      ap (λ k. idle_before (set idle at v) k) e,
      ap (λ k. idle_before idle k) e,
    )
set_more idle at v (suc more) within =
    let e : at + 1 + suc more ≡ suc (at + 1 + more) = omega arith in
    omega (
      arith,
      set_more idle at v more within,
      get_or-set_other idle at (at + 1 + more) v 0 (λ same. omega (arith, same)),
      ap (λ k. idle_before (set idle at v) k) e,
      ap (λ k. idle_before idle k) e,
    )

pub set_late : (idle : List ℕ) (at v q : ℕ) → at < length idle → at < q → idle_before (set idle at v) q + get_or idle at 0 ≡ idle_before idle q + v
set_late idle at v q within later =
    let e : at + 1 + (q - (at + 1)) ≡ q = omega (arith, later) in
    omega (
      arith,
      set_more idle at v (q - (at + 1)) within,
      ap (λ k. idle_before (set idle at v) k) e,
      ap (λ k. idle_before idle k) e,
    )

-- where no gap has more idle, there is no more between two places
fewer_more : (old new : List ℕ) → ((q : ℕ) → get_or new q 0 ≤ get_or old q 0) → (a more : ℕ) →
    idle_before new (a + more) + idle_before old a ≤ idle_before new a + idle_before old (a + more)
fewer_more old new less a zero =
    let e : a + zero ≡ a = omega arith in
    omega (arith, ap (λ k. idle_before new k) e, ap (λ k. idle_before old k) e)
fewer_more old new less a (suc more) =
    let e : a + suc more ≡ suc (a + more) = omega arith in
    omega (arith, fewer_more old new less a more, ap (λ k. idle_before new k) e, ap (λ k. idle_before old k) e, less (a + more))

pub fewer_between : (old new : List ℕ) → ((q : ℕ) → get_or new q 0 ≤ get_or old q 0) → (a b : ℕ) → a ≤ b →
    idle_before new b + idle_before old a ≤ idle_before new a + idle_before old b
fewer_between old new less a b forward =
    let e : a + (b - a) ≡ b = omega (arith, forward) in
    omega (arith, fewer_more old new less a (b - a), ap (λ k. idle_before new k) e, ap (λ k. idle_before old k) e)

-- where nothing is idle, later places have no more before them
nothing_more : (idle : List ℕ) (a more : ℕ) → ((q : ℕ) → a ≤ q → q < a + more → get_or idle q 0 ≡ 0) → idle_before idle (a + more) ≡ idle_before idle a
nothing_more idle a zero none = let e : a + zero ≡ a = omega arith in ap (λ k. idle_before idle k) e
nothing_more idle a (suc more) none =
    let e : a + suc more ≡ suc (a + more) = omega arith in
    omega (
      arith,
      nothing_more idle a more (λ q behind less. none q behind (omega (arith, less))),
      none (a + more) (omega arith) (omega arith),
      ap (λ k. idle_before idle k) e,
    )

pub nothing_between : (idle : List ℕ) (a b : ℕ) → a ≤ b → ((q : ℕ) → a ≤ q → q < b → get_or idle q 0 ≡ 0) → idle_before idle b ≡ idle_before idle a
nothing_between idle a b forward none =
    let e : a + (b - a) ≡ b = omega (arith, forward) in
    omega (arith, nothing_more idle a (b - a) (λ q behind less. none q behind (omega (arith, less, e))), ap (λ k. idle_before idle k) e)

-- # One job more

-- one job more, where an interval that holds its window leaves as much
module _ (top : ℕ) (times : List ℕ) (jobs : List Job) (old : List ℕ) (rising : IsNonDecreasing times) (has : HasIdle top times jobs old) (row : Job) (end : ℕ) (new : List ℕ)
    (within : end < length times) (is_end : get_or times end 0 ≡ row.deadline) (as_long : length new ≡ length old) (less : (q : ℕ) → get_or new q 0 ≤ get_or old q 0)
    (holds : (from a b : ℕ) → end ≤ b → b < length times → a ≤ b → from ≤ row.release → from ≤ get_or times a 0 →
    work_within jobs from (get_or times b 0) + row.work + idle_before new b ≤ top * (get_or times b 0 - from) + idle_before new a) where
  has_with : HasIdle top times (jobs ++ row ∷ []) new
  has_with = grind (arith, cases_lt, fewer_between, later_idle, part_early, part_inside, part_late, part_within, sum_by_push)

-- what is idle before a place where no gap before it changed
pub same_before : (old new : List ℕ) (place : ℕ) → ((q : ℕ) → q < place → get_or new q 0 ≡ get_or old q 0) → idle_before new place ≡ idle_before old place
same_before old new place same = sum_below_same place (λ k. get_or new k 0) (λ k. get_or old k 0) same

-- one that takes what is idle before its deadline, as far back as it needs
module _ (top : ℕ) (times : List ℕ) (jobs : List Job) (old : List ℕ) (rising : IsNonDecreasing times) (has : HasIdle top times jobs old) (row : Job) (end : ℕ) (new : List ℕ) (after : ℕ)
    (taken : IsTakenFrom old new end row.work after) (within : end < length times) (is_end : get_or times end 0 ≡ row.deadline)
    (fits : (from : ℕ) → from ≤ row.release → Fits top times jobs row end old from) where
  holds_before : (from a b : ℕ) → end ≤ b → b < length times → a ≤ b → from ≤ row.release → from ≤ get_or times a 0 →
      work_within jobs from (get_or times b 0) + row.work + idle_before new b ≤ top * (get_or times b 0 - from) + idle_before new a
  holds_before from a b later below forward counts ahead = elim (cases_lt a after) [
    | inl less ↦ omega (
      arith,
      has.room from a b forward below ahead,
      taken.sum (omega (arith, less)),
      same_before old new a (λ q under. taken.early q (omega (arith, under, less))),
      fewer_between old new taken.less end b later,
    )
    | inr more ↦ elim (cases_lt a end) [
      | inl soon ↦ omega (
        arith,
        fits from counts b later below,
        nothing_between new a end (omega (arith, soon)) (λ q behind less. taken.none q (omega (arith, behind, more)) less),
        fewer_between old new taken.less end b later,
      )
      | inr behind ↦ omega (arith, fits from counts b later below, later_idle old end a behind, fewer_between old new taken.less a b forward)
    ]
  ]

  pub has_before : HasIdle top times (jobs ++ row ∷ []) new
  has_before = has_with top times jobs old rising has row end new within is_end taken.as_long taken.less holds_before

-- One job more fits where so much is idle, from a place that isn't before its release, as it takes.
pub fits_inside : (top : ℕ) (times : List ℕ) (jobs : List Job) (idle : List ℕ) → HasIdle top times jobs idle → (row : Job) (begin end : ℕ) →
    IsIdleFrom idle end row.work begin → row.release ≤ get_or times begin 0 → (from : ℕ) → from ≤ row.release → Fits top times jobs row end idle from
fits_inside top times jobs idle has row begin end is inside from before b later below = omega (
  arith,
  has.room from begin b (omega (arith, is.order, later)) below (omega (arith, before, inside)),
  is.enough,
)

-- # Room

-- jobs that leave something idle leave no interval overfull
pub idle_room : (top : ℕ) (times : List ℕ) (jobs : List Job) (idle : List ℕ) → AreDue times jobs → HasIdle top times jobs idle → HasRoom top jobs
idle_room top times jobs idle due has from to full =
    let ends = any_of_all (λ job. job.deadline ≡ to) jobs full.is_deadline in
    let there = due ends.0 ends.1 ends.2 in
    let b : ℕ = there.0 in
    let is : get_or times b 0 ≡ to =
    get_or_default times b 0 (get_or jobs ends.0 ends.1).deadline there.1 ∙ there.2 ∙ ap (λ (job : Job). job.deadline) ends.3 ∙ ends.4 in
    absurd (omega (
      arith,
      full.too_much,
      jobs_work jobs from to,
      subst (λ (end : ℕ). work_within jobs from end + idle_before idle b ≤ top * (end - from) + idle_before idle b) is
          (has.room from b b (omega arith) there.1 (omega (arith, is, full.forward))),
    ))

-- jobs with the same sums
pub same_idle : (top : ℕ) (times : List ℕ) (jobs others : List Job) (idle : List ℕ) → ((g : Job → ℕ) → sum_by g others ≡ sum_by g jobs) → HasIdle top times others idle →
    HasIdle top times jobs idle
same_idle top times jobs others idle same has = record {
  as_long = has.as_long;
  room = λ from a b forward below ahead. omega (arith, has.room from a b forward below ahead, same (part_within from (get_or times b 0)));
}

-- # What a cut leaves

-- the gaps before a place are all that the top speed does by then
pub full_before : (top : ℕ) (times full : List ℕ) → AreGaps top times full → get_or times 0 0 ≡ 0 → (q : ℕ) → q ≤ length full → idle_before full q ≡ top * get_or times q 0
full_before top times full are first zero within = omega (arith, ap (λ t. top * t) first)
full_before top times full are first (suc q) within =
    let e : q + 1 ≡ suc q = omega arith in
    omega (
      arith,
      full_before top times full are first q (omega (arith, within)),
      next_idle full q,
      are.each q (omega (arith, within, are.as_long)),
      ap (λ k. idle_before full k) e,
      ap (λ k. top * get_or times k 0) e,
    )

-- the first n pieces take no more of a gap than all do
more_units : (jobs : List Job) (places : List ℕ) (n more q : ℕ) → went n jobs places (q + 1) + went (n + more) jobs places q ≤ went n jobs places q + went (n + more) jobs places (q + 1)
more_units jobs places n zero q =
    let e : n + zero ≡ n = omega arith in
    omega (arith, ap (λ k. went k jobs places q) e, ap (λ k. went k jobs places (q + 1)) e)
more_units jobs places n (suc more) q =
    let e : n + suc more ≡ n + more + 1 = omega arith in
    omega (
      arith,
      more_units jobs places n more q,
      ap (λ k. went k jobs places q) e,
      ap (λ k. went k jobs places (q + 1)) e,
      next_went (n + more) jobs places q,
      next_went (n + more) jobs places (q + 1),
      later_place (get_or places (n + more) 0) q (job_at jobs (n + more)).work,
    )
  where
    later_place : (place q x : ℕ) → cond (nat_le place q) x 0 ≤ cond (nat_le place (q + 1)) x 0
    later_place place q x = elim (cases_lt q place) [
      | inl less ↦ omega (arith, ap {B = ℕ} (λ b. cond b x 0) (lt-leb place q less))
      | inr most ↦ omega (
        arith,
        ap {B = ℕ} (λ b. cond b x 0) (le-leb place q most),
        ap {B = ℕ} (λ b. cond b x 0) (le-leb place (q + 1) (omega (arith, most))),
      )
    ]

-- so many of the first k pieces are released at a time or later
pub count_from : (jobs : List Job) → IsFalling jobs → (from k : ℕ) → k ≤ length jobs →
    (n : ℕ) × (n ≤ k) × ((i : ℕ) → i < n → from ≤ (job_at jobs i).release) × ((i : ℕ) → n ≤ i → i < k → (job_at jobs i).release < from)
count_from jobs falling from zero within = (0, omega arith, λ i below. absurd (omega (arith, below)), λ i behind below. absurd (omega (arith, below)))
count_from jobs falling from (suc k) within =
    let found = count_from jobs falling from k (omega (arith, within)) in
    elim (cases_lt (job_at jobs k).release from) [
      | inl less ↦ (
        found.0,
        omega (arith, found.1),
        found.2,
        λ i behind below. elim (cases_eq i k) [
          | inl same ↦ omega (arith, less, ap (λ j. (job_at jobs j).release) same)
          | inr other ↦ found.3 i behind (omega (arith, below, other))
        ],
      )
      | inr more ↦ (
        suc k,
        omega arith,
        λ i below. omega (arith, more, falling i k (omega (arith, below)) (omega (arith, within))),
        λ i behind below. absurd (omega (arith, behind, below)),
      )
    ]

module _ (top : ℕ) (times full : List ℕ) (all jobs : List Job) (places gaps : List ℕ) (cutting : IsCutting top times jobs places gaps) (are_gaps : AreGaps top times full)
    (same : (from to : ℕ) → work_within jobs from to ≡ work_within all from to) (falling : IsFalling jobs) (are : All IsJob all) (room : HasRoom top all)
    (rising : IsNonDecreasing times) (long : length gaps + 1 ≡ length times) where
  abbrev m : ℕ
  m = length gaps

  abbrev reach : ℕ → ℕ
  reach q = top * get_or times q 0

  abbrev done : ℕ → ℕ
  done q = went (length jobs) jobs places q

  -- units of pieces from a release on find their room after it
  units_before : (n from a : ℕ) → n ≤ length jobs → ((i : ℕ) → i < n → from ≤ (job_at jobs i).release) →
      ((i : ℕ) → n ≤ i → i < length jobs → (job_at jobs i).release < from) → a ≤ m → from ≤ get_or times a 0 → went n jobs places a + top * from ≤ reach a
  units_before n from a few early late below first =
      let greatest = cutting.greatest n few a below in
      let to : ℕ = get_or times greatest.at 0 in
      let later : get_or times a 0 ≤ to = rising a greatest.at 0 greatest.later (omega (arith, greatest.within, long)) in
      omega (
        arith,
        greatest.exact,
        work_of_first jobs n from to few early late,
        same from to,
        room_to top all are room from to,
        mul-sub top to from,
        mul-le-mul_left top (let less : from ≤ to = omega (arith, first, later) in less),
      )

  step : (q : ℕ) → q < m → done q + reach (q + 1) ≡ done (q + 1) + reach q + get_or gaps q 0
  step q below = step_is m reach (λ q. due_work jobs (get_or times q 0)) done gaps cutting.chain q below

  more_done : (n q : ℕ) → n ≤ length jobs → went n jobs places (q + 1) + done q ≤ went n jobs places q + done (q + 1)
  more_done n q few =
      let e : n + (length jobs - n) ≡ length jobs = omega (arith, few) in
      omega (
        arith,
        more_units jobs places n (length jobs - n) q,
        ap (λ k. went k jobs places q) e,
        ap (λ k. went k jobs places (q + 1)) e,
      )

  units_between : (n a more : ℕ) → n ≤ length jobs → a + more ≤ m →
      went n jobs places (a + more) + idle_before gaps (a + more) + reach a ≤ went n jobs places a + idle_before gaps a + reach (a + more)
  units_between n a zero few within =
      let e : a + zero ≡ a = omega arith in
      omega (arith, ap (λ k. went n jobs places k + idle_before gaps k) e, ap reach e)
  units_between n a (suc more) few within =
      let e : a + suc more ≡ a + more + 1 = omega arith in
      omega (
        arith,
        units_between n a more few (omega (arith, within)),
        more_done n (a + more) few,
        step (a + more) (omega (arith, within)),
        next_idle gaps (a + more),
        ap (λ k. went n jobs places k) e,
        ap (λ k. idle_before gaps k) e,
        ap reach e,
      )

  -- the jobs that are released at a time or later want no more than their pieces have before a place, and the top speed does after it beside what is left
  pub left_most : (from n a b : ℕ) → IsCount jobs n from → a ≤ b → b < length times →
      work_within all from (get_or times b 0) + top * get_or times a 0 + idle_before gaps b ≤ went n jobs places a + top * get_or times b 0 + idle_before gaps a
  left_most from n a b count forward below =
      let time : ℕ = get_or times b 0 in
      let e : a + (b - a) ≡ b = omega (arith, forward) in
      let within : b ≤ m = omega (arith, below, long) in
      omega (
        arith,
        same from time,
        work_of_first jobs n from time count.within count.early count.late,
        (cutting.greatest n count.within b within).all b (omega arith) within,
        units_between n a (b - a) count.within (omega (arith, e, within)),
        ap (λ k. went n jobs places k) e,
        ap (λ k. idle_before gaps k) e,
        ap reach e,
      )

  -- and by some later time no less
  pub left_tight : (n from q : ℕ) → n ≤ length jobs → ((i : ℕ) → i < n → from ≤ (job_at jobs i).release) → q < length times →
      (p : ℕ) × (q ≤ p) × (p < length times) × (went n jobs places q + top * get_or times p 0 ≤ work_within all from (get_or times p 0) + top * get_or times q 0)
  left_tight n from q few early below =
      let greatest = cutting.greatest n few q (omega (arith, below, long)) in (
        greatest.at,
        greatest.later,
        omega (arith, greatest.within, long),
        omega (
          arith,
          greatest.exact,
          first_at_most jobs n from (get_or times greatest.at 0) few early,
          same from (get_or times greatest.at 0),
        ),
      )

  pub left_idle : HasIdle top times all gaps
  left_idle = record {
    as_long = long;
    room = λ from a b forward below ahead.
        let count = count_from jobs falling from (length jobs) (omega arith) in
        let n : ℕ = count.0 in
        let time : ℕ = get_or times b 0 in
        let e : a + (b - a) ≡ b = omega (arith, forward) in
        let within : b ≤ m = omega (arith, below, long) in
        let later : get_or times a 0 ≤ time = rising a b 0 forward below in
        omega (
          arith,
          same from time,
          work_of_first jobs n from time count.1 count.2 count.3,
          (cutting.greatest n count.1 b within).all b (omega arith) within,
          units_between n a (b - a) count.1 (omega (arith, e, within)),
          ap (λ k. went n jobs places k) e,
          ap (λ k. idle_before gaps k) e,
          ap reach e,
          units_before n from a count.1 count.2 count.3 (omega (arith, forward, within)) ahead,
          mul-sub top time from,
          mul-le-mul_left top (let less : from ≤ time = omega (arith, ahead, later) in less),
        );
  }

  pub less_left : (q : ℕ) → q < length full → get_or gaps q 0 ≤ get_or full q 0
  less_left q below = omega (
    arith,
    step q (omega (arith, below, are_gaps.as_long, long)),
    are_gaps.each q (omega (arith, below, are_gaps.as_long)),
    more_done 0 q (omega arith),
  )

  pub is_rest : get_or times 0 0 ≡ 0 → (q : ℕ) → q ≤ m → idle_before gaps q + done q ≡ reach q
  is_rest first zero within =
      let none = units_before (length jobs) 0 0 (omega arith) (λ i below. omega arith) (λ i behind below. absurd (omega (arith, behind, below))) (omega arith) (omega arith) in
      omega (arith, none, ap (λ t. top * t) first)
  is_rest first (suc q) within =
      let e : q + 1 ≡ suc q = omega arith in
      omega (arith, is_rest first q (omega (arith, within)), step q (omega (arith, within)), next_idle gaps q, ap done e, ap reach e, ap (λ k. idle_before gaps k) e)
