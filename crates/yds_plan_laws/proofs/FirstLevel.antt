-- The first level of a plan of jobs that are all released at one time. No deadline has more work due by it than the level does until then at its
-- speed, since no slot is faster, and the latest deadline of its members has that much.
use Rattle.yds_model.proofs.Common.{◌≡◌, ℕ, zero, suc, ◌-◌, ◌*◌, ◌<◌, ◌≤◌, List, [], ◌∷◌, length, get_or, take, filter, refl, sym, ap, subst, ◌∙◌, arith, inl, inr, cond, Bool, true, false, ◌==◌, nat_le, All, Contains, All-nil, All-cons, All-weaker, All-filter, All-contains, cases_lt, le-leb, leb-true, contains_filter, filter_passes, numbers_of, sum_by, sum_by-cons, sum_by-filter, sum_by_at_most, mul-pos, mul-le-mul_right, mul-le-mul_left, le_of_mul-le-mul_left, count, count-cons, counted_contains, AreDifferent, Job, job_at, work_of, WrittenSlot, WholeSlot, slots_at, excess, flat_map-take, Piece, Covers, IsConfined, total_length, Level, no_level, level_at, all_members, all_pieces, IsScale, IsInWindow, IsPlan}
use Rattle.model_lemmas.proofs.Time.{time_within}
use Rattle.model_lemmas.proofs.Counted.{contained_counted}
use Rattle.model_lemmas.proofs.Scale.{scale_exists}
use Rattle.yds_laws.proofs.Bound.{confinement_bound}
use Rattle.yds_laws.proofs.Curve.{IsSlowFirst, curve_slow}
use Rattle.yds_laws.proofs.Group.{work_served}
use Rattle.yds_laws.proofs.JobNumbers.{sum_by_number}
use Rattle.yds_laws.proofs.Plans.{plan_falls, plan_excess}
use Rattle.yds_laws.proofs.Served.{all_numbers, is_number, kept_different}
use Rattle.yds_plan_laws.proofs.Ends.{window_with}
use Rattle.yds_plan_laws.proofs.OneCertificate.{pieces_same}
use Rattle.yds_plan_laws.proofs.MoreJobs.{members_once}

-- # Greatest

-- one of some numbers at which a function is greatest
greatest_of : (f : ℕ → ℕ) (numbers : List ℕ) → 1 ≤ length numbers → (n : ℕ) × Contains numbers n × All (λ m. f m ≤ f n) numbers
greatest_of f [] some = absurd (omega (arith, some))
greatest_of f (number ∷ []) some = (number, (0, omega arith, refl), All-cons (λ m. f m ≤ f number) number [] (omega arith) (All-nil (λ m. f m ≤ f number)))
greatest_of f (number ∷ next ∷ numbers) some =
    let (n, has, most) = greatest_of f (next ∷ numbers) (omega arith) in
    elim (cases_lt (f n) (f number)) [
      | inl less ↦ (
        number,
        (0, omega arith, refl),
        All-cons (λ m. f m ≤ f number) number (next ∷ numbers) (omega arith)
            (All-weaker (λ m. f m ≤ f n) (λ m. f m ≤ f number) (λ m it. omega (arith, it, less)) (next ∷ numbers) most),
      )
      | inr more ↦ (n, (suc has.0, omega (arith, has.1), has.2), All-cons (λ m. f m ≤ f n) number (next ∷ numbers) more most)
    ]

-- # Windows

-- pieces to which a job is confined are at least as long as its window
window_short : (job : Job) (pieces : List Piece) → IsConfined job pieces → job.deadline - job.release ≤ total_length pieces
window_short job pieces confined = elim (cases_lt job.release job.deadline) [
  | inr none ↦ omega (arith, none)
  | inl some ↦
      let slot : WholeSlot = record { job = 0; from = job.release; to = job.deadline; work = 0 } in
      omega (
        arith,
        time_within (job ∷ []) 1 (0 ∷ []) pieces (slot ∷ []) (omega arith)
            (λ number. omega (arith, count-cons number 0 [], at_most_one (number == 0)))
            (All-cons (λ number. IsConfined (job_at (job ∷ []) number) pieces) 0 [] confined (All-nil (λ number. IsConfined (job_at (job ∷ []) number) pieces)))
            (omega arith, some, tt)
            (All-cons (IsInWindow (job ∷ []) 1) slot [] (record { known = omega arith; released = omega arith; due = omega arith }) (All-nil (IsInWindow (job ∷ []) 1))),
        sum_by-cons (λ (one : WholeSlot). count one.job (0 ∷ []) * (one.to - one.from)) slot [],
        count-cons 0 0 [],
      )
]
  where
    -- what is counted by a test is at most one
    at_most_one : (b : Bool) → cond b 1 0 ≤ 1
    at_most_one true = omega arith
    at_most_one false = omega arith

-- # The first level

-- the work of the jobs that are due by a time
abbrev pub due_by : List Job → ℕ → ℕ
due_by jobs time = sum_by (λ job. cond (nat_le job.deadline time) job.work 0) jobs

-- the numbers of these jobs
abbrev due_numbers : List Job → ℕ → List ℕ
due_numbers jobs time = filter (λ number. nat_le (job_at jobs number).deadline time) (numbers_of jobs)

-- have that work
due_work : (jobs : List Job) (time : ℕ) → due_by jobs time ≡ work_of jobs (due_numbers jobs time)
due_work jobs time =
    sym (sum_by_number (λ job. cond (nat_le job.deadline time) job.work 0) jobs)
    ∙ sym (sum_by-filter (λ number. nat_le (job_at jobs number).deadline time) (λ number. (job_at jobs number).work) (numbers_of jobs))

module _ (jobs : List Job) (planned : List WrittenSlot) (levels : List Level) (plan : IsPlan jobs planned levels) (some : 0 < length levels) (start : ℕ)
    (released : (number : ℕ) → number < length jobs → (job_at jobs number).release ≡ start) where
  -- no slot of the plan is faster than the first level
  none_above : (scale : ℕ) → IsScale scale planned → excess (level_at levels 0).work (level_at levels 0).length (slots_at scale planned) ≡ 0
  none_above scale is =
      let level = level_at levels 0 in
      omega (
        arith,
        plan_excess jobs planned levels scale level.work level.length plan is (plan.proper.well_formed.positive 0 no_level some).1,
        ap (λ n. scale * n) (curve_slow level.work level.length levels (plan_falls jobs planned levels plan) (first_slow levels)),
      )
    where
      -- nor is a level
      first_slow : (some : List Level) → IsSlowFirst (level_at some 0).work (level_at some 0).length some
      first_slow [] = tt
      first_slow (level ∷ rest) = omega arith

  -- so no time has more work due by it than the level does until then
  pub none_denser : (time : ℕ) → due_by jobs time * (level_at levels 0).length ≤ (level_at levels 0).work * (time - start)
  none_denser time =
      let level = level_at levels 0 in
      let piece : Piece = record { from = start; to = time } in
      let test = λ (number : ℕ). nat_le (job_at jobs number).deadline time in
      let scale = scale_exists planned plan.proper.feasible.solid in
      let known : All (λ number. number < length jobs) (due_numbers jobs time) =
      All-filter test (λ number. number < length jobs) (numbers_of jobs) (all_numbers (λ number. number < length jobs) jobs (λ i below. below)) in
      let confined : All (λ number. IsConfined (job_at jobs number) (piece ∷ [])) (due_numbers jobs time) = λ k d within unit from to.
      let number = get_or (due_numbers jobs time) k d in (
        0,
        piece,
        omega arith,
        refl,
        (
          omega (arith, from, released number (known k d within)),
          omega (arith, to, leb-true (job_at jobs number).deadline time (filter_passes test (numbers_of jobs) k d within)),
        ),
      ) in
      le_of_mul-le-mul_left {k = scale.0} (omega (
        arith,
        confinement_bound jobs scale.0 level.work level.length (slots_at scale.0 planned) (due_numbers jobs time) (piece ∷ []) scale.1.positive (kept_different jobs test) known confined
            (plan.proper.feasible.holds scale.0 scale.1),
        none_above scale.0 scale.1,
        ap (λ n. scale.0 * n * level.length) (due_work jobs time),
        ap (λ n. level.work * scale.0 * n) (sum_by-cons (λ (one : Piece). one.to - one.from) piece []),
      )) scale.1.positive

  -- the level's pieces and members are those of the first levels up to it
  front_pieces : all_pieces (take 1 levels) ≡ (level_at levels 0).pieces
  front_pieces = flat_map-take (λ (one : Level). one.pieces) levels 0 no_level some

  front_members : all_members (take 1 levels) ≡ (level_at levels 0).members
  front_members = flat_map-take (λ (one : Level). one.members) levels 0 no_level some

  -- a member of the level none of whose others is due later
  pub record IsLatest (number : ℕ) : Type 0 where
    pub known : number < length jobs
    pub member : Contains (level_at levels 0).members number
    pub latest : All (λ other. (job_at jobs other).deadline ≤ (job_at jobs number).deadline) (level_at levels 0).members

  -- there is one
  pub latest_member : (number : ℕ) × IsLatest number
  latest_member =
      let level = level_at levels 0 in
      let work = (plan.proper.sums 0 some).work in
      let (number, has, most) = greatest_of (λ one. (job_at jobs one).deadline) level.members
      (some_members level.members (omega (arith, work, (plan.proper.well_formed.positive 0 no_level some).0))) in
      (number, record { known = All-contains (λ one. one < length jobs) level.members number (plan.proper.well_formed.known 0 no_level some) has; member = has; latest = most })
    where
      -- members that have work are some
      some_members : (members : List ℕ) → 1 ≤ work_of jobs members → 1 ≤ length members
      some_members [] works = works
      some_members (member ∷ members) works = omega arith

  module _ (number : ℕ) (is : IsLatest number) where
    -- all members are due by then
    members_due : (level_at levels 0).work ≤ due_by jobs (job_at jobs number).deadline
    members_due =
        let level = level_at levels 0 in
        let time = (job_at jobs number).deadline in
        let test = λ (one : ℕ). nat_le (job_at jobs one).deadline time in
        let scale = scale_exists planned plan.proper.feasible.solid in
        let whole = slots_at scale.0 planned in
        let feasible = plan.proper.feasible.holds scale.0 scale.1 in
        let known = plan.proper.well_formed.known 0 no_level some in
        let once : AreDifferent level.members = subst AreDifferent front_members (members_once jobs planned levels plan 1 some) in
        let among : (one : ℕ) → count one level.members ≤ count one (due_numbers jobs time) = λ one. elim (cases_lt (count one level.members) 1) [
          | inl none ↦ omega (arith, none)
          | inr there ↦
              let has = counted_contains one level.members there in
              omega (
                arith,
                once one,
                contained_counted (due_numbers jobs time) one (contains_filter test (numbers_of jobs) one
                    (le-leb (job_at jobs one).deadline time (All-contains (λ other. (job_at jobs other).deadline ≤ time) level.members one is.latest has))
                    (is_number jobs one (All-contains (λ other. other < length jobs) level.members one known has))),
              )
        ] in
        le_of_mul-le-mul_left {k = scale.0} (omega (
          arith,
          ap (λ n. scale.0 * n) (plan.proper.sums 0 some).work,
          ap (λ n. scale.0 * n) (due_work jobs time),
          work_served jobs scale.0 whole level.members feasible.served known,
          work_served jobs scale.0 whole (due_numbers jobs time) feasible.served
              (All-filter test (λ one. one < length jobs) (numbers_of jobs) (all_numbers (λ one. one < length jobs) jobs (λ i below. below))),
          sum_by_at_most (λ slot. count slot.job level.members * slot.work) (λ slot. count slot.job (due_numbers jobs time) * slot.work) whole
              (λ k d within. mul-le-mul_right (get_or whole k d).work (among (get_or whole k d).job)),
        )) scale.1.positive

    -- it is confined to the level's pieces
    stays : IsConfined (job_at jobs number) (level_at levels 0).pieces
    stays = subst (IsConfined (job_at jobs number)) front_pieces (plan.proper.windows number is.known 0 some is.member)

    -- So by then as much is due as the level does until then at its speed,
    pub attained : (level_at levels 0).work * ((job_at jobs number).deadline - start) ≤ due_by jobs (job_at jobs number).deadline * (level_at levels 0).length
    attained =
        let level = level_at levels 0 in
        let time = (job_at jobs number).deadline in
        omega (
          arith,
          mul-le-mul_right level.length members_due,
          mul-le-mul_left level.work (window_short (job_at jobs number) level.pieces stays),
          ap (λ n. level.work * n) (plan.proper.sums 0 some).length,
          ap (λ n. level.work * (time - n)) (released number is.known),
        )

    -- and that is later than the start
    pub later : start < (job_at jobs number).deadline
    later =
        let level = level_at levels 0 in
        let size = plan.proper.well_formed.positive 0 no_level some in
        omega (
          arith,
          some_time (due_by jobs (job_at jobs number).deadline) level.work level.length ((job_at jobs number).deadline - start) size.0 size.1 members_due
              (none_denser (job_at jobs number).deadline),
        )
      where
        -- what has work has time
        some_time : (due work size long : ℕ) → 1 ≤ work → 1 ≤ size → work ≤ due → due * size ≤ work * long → 1 ≤ long
        some_time due work size zero works takes all does = absurd (omega (arith, does, mul-pos {m = due} {n = size} (omega (arith, works, all)) takes))
        some_time due work size (suc long) works takes all does = omega arith

    -- The level's pieces are one, from the start to then.
    pub one_piece : (level_at levels 0).pieces ≡ record { from = start; to = (job_at jobs number).deadline } ∷ []
    one_piece =
        let level = level_at levels 0 in
        let time = (job_at jobs number).deadline in
        let piece : Piece = record { from = start; to = time } in
        pieces_same 0 0 level.pieces (piece ∷ [])
        (record { run = (plan.proper.pieces 0 some).in_order; apart = plan.pieces_apart 0 no_level some }) (record { run = (omega arith, later, tt); apart = tt })
        (λ unit covers.
        let found = window_with jobs planned levels plan 0 unit some (subst (λ (pieces : List Piece). Covers pieces unit) (sym front_pieces) covers) in
        let member : Contains level.members found.0 = subst (λ (members : List ℕ). Contains members found.0) front_members found.1 in
        let known = All-contains (λ one. one < length jobs) level.members found.0 (plan.proper.well_formed.known 0 no_level some) member in (
          0,
          piece,
          omega arith,
          refl,
          (
            omega (arith, found.2, released found.0 known),
            omega (arith, found.3, All-contains (λ other. (job_at jobs other).deadline ≤ time) level.members found.0 is.latest member),
          ),
        ))
        (λ unit covers.
        let (from, to) = in_piece piece unit covers in
        stays unit (omega (arith, from, released number is.known)) to)
      where
        -- a time of one piece
        in_piece : (piece : Piece) (unit : ℕ) → Covers (piece ∷ []) unit → (piece.from ≤ unit) × (unit < piece.to)
        in_piece piece unit (zero, one, within, same, holds) = subst (λ (p : Piece). (p.from ≤ unit) × (unit < p.to)) (sym same) holds
        in_piece piece unit (suc k, one, within, same, holds) = absurd (omega (arith, within))
