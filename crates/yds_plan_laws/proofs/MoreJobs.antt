-- More jobs never slow any instant. Take a level of the plan of some jobs, and of the plan of these and more the levels that are at least as fast.
-- Suppose that the pieces of the first plan up to the level have units that the pieces of those levels haven't. In the first plan the jobs of both
-- run only where both have pieces, so the first plan's other jobs fill at least those units, at the level's speed or more. In the second plan they
-- have no more than those units, and are slower. So they would have less work than they have.
use Rattle.yds_model.proofs.Common.{◌≡◌, ℕ, zero, suc, ◌+◌, ◌-◌, ◌*◌, ◌/◌, ◌<◌, ◌≤◌, ◌==◌, List, [], ◌∷◌, ◌++◌, length, get_or, take, take_all, get_or_default, filter, refl, sym, ap, subst, ◌∙◌, arith, inl, inr, cond, Bool, true, true≢false, nat_lt, nat_le, not, All, Contains, Contains-get_or, All-filter, All-append, All-weaker, All-contains, All-map, Any-append_left, Any-append_right, cases_lt, cases_order, cases_Bool, ltb-true, lt-ltb, leb-true, leb-false, filter_passes, prefix_len, prefix_len_passes, prefix_len_stops, prefix_len-le-length, length-append, get_or_append_left, length-map, sum_by, sum_by-cons, sum_by-append, sum_by-add, sum_by-mul, sum_by_same, sum_by_at_most, sum_by-filter_both, mul-le-mul_left, mul-lt-mul_of_pos_left, le_of_mul-le-mul_left, lt_of_mul-lt-mul_right, flat_map-take, count, counted_contains, AreDifferent, Job, no_job, job_at, work_of, WrittenSlot, WholeSlot, IsScale, no_slot, slot_at, slot_at_scale, slots_at, Piece, Covers, IsConfined, total_length, Level, no_level, level_at, all_members, all_pieces, IsPlan}
use Rattle.model_lemmas.proofs.Time.{none_times, time_within}
use Rattle.model_lemmas.proofs.Front.{front_at}
use Rattle.model_lemmas.proofs.Counted.{contained_counted, count_joined, member_counted}
use Rattle.model_lemmas.proofs.Runs.{run_forward}
use Rattle.model_lemmas.proofs.Scale.{scale_exists}
use Rattle.yds_laws.proofs.Group.{group-append, work_served}
use Rattle.yds_laws.proofs.Bound.{scale_left, scale_right}
use Rattle.yds_laws.proofs.Curve.{AreFalling}
use Rattle.yds_laws.proofs.Explained.{front_different}
use Rattle.yds_laws.proofs.Plans.{plan_falls, plans_are_least, plans_serve_work}
use Rattle.yds_energy.proofs.FullStretches.{level_of_member}
use Rattle.yds_plan_laws.specs.InstantLaws.{MoreJobsNeverSlow}
use Rattle.yds_plan_laws.proofs.Certified.{levels_fill}
use Rattle.yds_plan_laws.proofs.OneCertificate.{speeds_fall}
use Rattle.yds_plan_laws.proofs.Instants.{level_of_time, level_in_front, level_runs, runs_level, fast_slot, slot_fast, level_as_fast, slot_as_fast}
use Rattle.yds_plan_laws.proofs.Units.{covers_time, time_covered, shared, apart, parted_long, shared_covers, apart_covers, some_length}

-- # Jobs that others have, and the others

-- the number is one of these
abbrev pub is_one_of : List ℕ → ℕ → Bool
is_one_of others number = nat_lt 0 (count number others)

-- those of some numbers that are among others
abbrev both : List ℕ → List ℕ → List ℕ
both others numbers = filter (is_one_of others) numbers

-- and those that aren't
abbrev alone : List ℕ → List ℕ → List ℕ
alone others numbers = filter (λ number. not (is_one_of others number)) numbers

-- each is counted in one of the two
counted_apart : (others numbers : List ℕ) (number : ℕ) → count number (both others numbers) + count number (alone others numbers) ≡ count number numbers
counted_apart others numbers number =
    sum_by-filter_both (is_one_of others) (λ one. not (is_one_of others one)) (λ one. refl) (λ (other : ℕ). cond (number == other) 1 0) numbers

-- one that is alone is none of the others
alone_none : (others numbers : List ℕ) (number : ℕ) → 1 ≤ count number (alone others numbers) → count number others < 1
alone_none others numbers number some =
    let passes = All-contains (λ one. not (is_one_of others one) ≡ true) (alone others numbers) number (filter_passes (λ one. not (is_one_of others one)) numbers)
    (counted_contains number (alone others numbers) some) in
    elim (cases_lt (count number others) 1) [
      | inl none ↦ none
      | inr there ↦ absurd (true≢false (sym passes ∙ ap not (lt-ltb 0 (count number others) (omega (arith, there)))))
    ]

-- so others with those that are alone are different, where both are
joined_different : (others numbers : List ℕ) → AreDifferent others → AreDifferent numbers → AreDifferent (others ++ alone others numbers)
joined_different others numbers once different number = elim (cases_lt (count number (alone others numbers)) 1) [
  | inl none ↦ omega (arith, none, once number, count_joined number others (alone others numbers))
  | inr some ↦ omega (
    arith,
    alone_none others numbers number some,
    counted_apart others numbers number,
    different number,
    count_joined number others (alone others numbers),
  )
]

-- # Sums over slots

-- what is counted and at most another, where it is counted, is at most that
counted_at_most : (often some more : ℕ) → (1 ≤ often → some ≤ more) → often * some ≤ often * more
counted_at_most zero some more holds = omega arith
counted_at_most (suc often) some more holds = mul-le-mul_left (suc often) (holds (omega arith))

-- where jobs do some work there is a slot of one
some_counted : (members : List ℕ) (slots : List WholeSlot) → 1 ≤ sum_by (λ slot. count slot.job members * slot.work) slots →
    1 ≤ sum_by (λ slot. count slot.job members) slots
some_counted members [] works = works
some_counted members (slot ∷ slots) works = elim (cases_lt (count slot.job members) 1) [
  | inl none ↦ omega (
    arith,
    some_counted members slots (omega (
      arith,
      works,
      none_times (count slot.job members) slot.work none,
      sum_by-cons (λ (one : WholeSlot). count one.job members * one.work) slot slots,
    )),
    sum_by-cons (λ (one : WholeSlot). count one.job members) slot slots,
  )
  | inr some ↦ omega (arith, some, sum_by-cons (λ (one : WholeSlot). count one.job members) slot slots)
]

-- # Levels of at least a speed

-- a member of one of the first levels is counted among theirs
front_counted : (levels : List Level) (n i number : ℕ) → n ≤ length levels → i < n → Contains (level_at levels i).members number →
    1 ≤ count number (all_members (take n levels))
front_counted levels zero i number within inside has = absurd (omega (arith, inside))
front_counted levels (suc n) i number within inside has =
    let parts = ap (count number) (flat_map-take (λ (one : Level). one.members) levels n no_level within) ∙ count_joined number (all_members (take n levels)) (level_at levels n).members in
    elim (cases_lt i n) [
      | inl before ↦ omega (arith, parts, front_counted levels n i number (omega (arith, within)) before has)
      | inr last ↦
          let same : i ≡ n = omega (arith, last, inside) in
          omega (arith, parts, contained_counted (level_at levels n).members number (subst (λ (k : ℕ). Contains (level_at levels k).members number) same has))
    ]

-- The first levels are at least as fast as a speed, and the others slower.
record AreParted (levels : List Level) (work size n : ℕ) : Type 0 where
  within : n ≤ length levels
  fast : (i : ℕ) → i < n → work * (level_at levels i).length ≤ (level_at levels i).work * size
  slow : (i : ℕ) → n ≤ i → i < length levels → (level_at levels i).work * size < work * (level_at levels i).length

-- what is slower than a slower one is
slower_still : (work size all long less wide : ℕ) → 1 ≤ size → all * size < work * long → less * long < all * wide → less * size < work * wide
slower_still work size all long less wide some slow slower =
    lt_of_mul-lt-mul_right long (omega (arith, mul-lt-mul_of_pos_left slower some, mul-le-mul_left wide slow))

-- there are such first levels
parted : (levels : List Level) (work size : ℕ) → AreFalling levels → 1 ≤ size →
    (n : ℕ) × AreParted levels work size n
parted levels work size falling some =
    let test = λ (level : Level). nat_le (work * level.length) (level.work * size) in
    let n : ℕ = prefix_len test levels in
    let first : n < length levels → (level_at levels n).work * size < work * (level_at levels n).length = λ stops.
    leb-false (work * (level_at levels n).length) ((level_at levels n).work * size) (prefix_len_stops test levels no_level stops) in (
      n,
      record {
        within = prefix_len-le-length test levels;
        fast = λ i inside. leb-true (work * (level_at levels i).length) ((level_at levels i).work * size) (prefix_len_passes test levels i no_level inside);
        slow = λ i later inside. elim (cases_order n i) [
          | inl same ↦ subst (λ (k : ℕ). (level_at levels k).work * size < work * (level_at levels k).length) same (first (omega (arith, same, inside)))
          | inr (inl before) ↦ slower_still work size (level_at levels n).work (level_at levels n).length (level_at levels i).work (level_at levels i).length some
              (first (omega (arith, before, inside))) (speeds_fall levels n i falling before inside)
          | inr (inr after) ↦ absurd (omega (arith, later, after))
        ];
      },
    )

-- # One plan

module _ (jobs : List Job) (planned : List WrittenSlot) (levels : List Level) (plan : IsPlan jobs planned levels) where
  -- the members of the first levels are different
  pub members_once : (n : ℕ) → n ≤ length levels → AreDifferent (all_members (take n levels))
  members_once n within =
      let scale = scale_exists planned plan.proper.feasible.solid in
      front_different jobs levels scale.0 (slots_at scale.0 planned) plan.proper.well_formed (plan.proper.feasible.holds scale.0 scale.1) plan.proper.members n
      (front_at jobs levels plan.proper.well_formed plan.proper.pieces plan.proper.windows n within).known

  -- they fill the first levels' pieces
  members_fill : (scale : ℕ) → IsScale scale planned → (n : ℕ) → n ≤ length levels → scale * total_length (all_pieces (take n levels))
      ≤ sum_by (λ slot. count slot.job (all_members (take n levels)) * (slot.to - slot.from)) (slots_at scale planned)
  members_fill scale is zero within = omega arith
  members_fill scale is (suc n) within = levels_fill jobs planned levels plan planned (plans_are_least jobs planned levels plan).0 scale is n within

  -- a slot of a member of a level or of an earlier one is as fast as the level
  slot_of_front : (i scale s : ℕ) → i < length levels → IsScale scale planned → s < length (slots_at scale planned) →
      1 ≤ count (slot_at (slots_at scale planned) s).job (all_members (take (suc i) levels)) →
      (level_at levels i).work * ((slot_at (slots_at scale planned) s).to - (slot_at (slots_at scale planned) s).from)
      ≤ (level_at levels i).length * (slot_at (slots_at scale planned) s).work
  slot_of_front i scale s within is inside some =
      let slot = slot_at (slots_at scale planned) s in
      let found = level_of_member levels (suc i) slot.job within some in
      let below : found.0 < length levels = omega (arith, found.1, within) in
      slot_as_fast (level_at levels i).work (level_at levels i).length (level_at levels found.0).work (level_at levels found.0).length slot.work (slot.to - slot.from)
      (plan.proper.well_formed.positive found.0 no_level below).1
      (plan.proper.speeds scale is s (omega (arith, inside, length-map planned (slot_at_scale scale))) found.0 below found.2)
      (no_faster found.0 (omega (arith, found.1)))
    where
      -- the level isn't faster than an earlier one
      no_faster : (k : ℕ) → k ≤ i → (level_at levels i).work * (level_at levels k).length ≤ (level_at levels i).length * (level_at levels k).work
      no_faster k before = elim (cases_lt k i) [
        | inl less ↦ omega (arith, speeds_fall levels k i (plan_falls jobs planned levels plan) less within)
        | inr same ↦
            let equal : i ≡ k = omega (arith, same, before) in
            subst (λ (n : ℕ). (level_at levels i).work * (level_at levels n).length ≤ (level_at levels i).length * (level_at levels n).work) equal (omega arith)
      ]

  -- Of the members of the levels up to one, and their pieces: where some are confined to a part of the pieces, the others fill the rest, at the
  -- level's speed or more.
  alone_work : (i : ℕ) (numbers : List ℕ) (pieces : List Piece) → i < length levels →
      All (λ number. IsConfined (job_at jobs number) (shared pieces (all_pieces (take (suc i) levels)))) (both numbers (all_members (take (suc i) levels))) →
      (level_at levels i).work * total_length (apart pieces (all_pieces (take (suc i) levels)))
      ≤ (level_at levels i).length * work_of jobs (alone numbers (all_members (take (suc i) levels)))
  alone_work i numbers pieces within confined =
      let level = level_at levels i in
      let members = all_members (take (suc i) levels) in
      let all = all_pieces (take (suc i) levels) in
      let scale = scale_exists planned plan.proper.feasible.solid in
      let whole = slots_at scale.0 planned in
      let feasible = plan.proper.feasible.holds scale.0 scale.1 in
      let known = (front_at jobs levels plan.proper.well_formed plan.proper.pieces plan.proper.windows (suc i) within).known in
      let once = members_once (suc i) within in
      let one = both numbers members in
      let two = alone numbers members in
      let time = λ (slot : WholeSlot). slot.to - slot.from in
      let fewer : AreDifferent one = λ number. omega (arith, counted_apart numbers members number, once number) in
      le_of_mul-le-mul_left {k = scale.0} (omega (
        arith,
        mul-le-mul_left level.work (members_fill scale.0 scale.1 (suc i) within),
        ap (λ n. level.work * (scale.0 * n)) (parted_long pieces all),
        mul-le-mul_left level.work (time_within jobs scale.0 one (shared pieces all) whole scale.1.positive fewer confined feasible.one_at_a_time feasible.in_windows),
        ap (λ n. level.work * n) (sum_by_same (λ slot. count slot.job members * time slot) (λ slot. count slot.job one * time slot + count slot.job two * time slot) whole
            (λ k d inside. omega (arith, ap (λ n. n * time (get_or whole k d)) (counted_apart numbers members (get_or whole k d).job)))),
        ap (λ n. level.work * n) (sum_by-add (λ slot. count slot.job one * time slot) (λ slot. count slot.job two * time slot) whole),
        sum_by-mul level.work (λ slot. count slot.job two * time slot) whole,
        sum_by-mul level.length (λ slot. count slot.job two * slot.work) whole,
        sum_by_at_most (λ slot. level.work * (count slot.job two * time slot)) (λ slot. level.length * (count slot.job two * slot.work)) whole (λ k d inside.
            all_as_fast scale.0 k d scale.1 inside),
        ap (λ n. level.length * n) (work_served jobs scale.0 whole two feasible.served (All-filter (λ number. not (is_one_of numbers number)) (λ number. number < length jobs) members known)),
      )) scale.1.positive
    where
      -- a slot of theirs, as often as its job is counted
      all_as_fast : (scale k : ℕ) (d : WholeSlot) → IsScale scale planned → k < length (slots_at scale planned) →
          (level_at levels i).work
          * (count (get_or (slots_at scale planned) k d).job (alone numbers (all_members (take (suc i) levels)))
          * ((get_or (slots_at scale planned) k d).to - (get_or (slots_at scale planned) k d).from))
          ≤ (level_at levels i).length
          * (count (get_or (slots_at scale planned) k d).job (alone numbers (all_members (take (suc i) levels))) * (get_or (slots_at scale planned) k d).work)
      all_as_fast scale k d is inside =
          let level = level_at levels i in
          let members = all_members (take (suc i) levels) in
          let slot = slot_at (slots_at scale planned) k in
          let often = count slot.job (alone numbers members) in
          rw (get_or_default (slots_at scale planned) k d no_slot inside)
          (omega (
            arith,
            counted_at_most often (level.work * (slot.to - slot.from)) (level.length * slot.work) (λ some.
                slot_of_front i scale k within is inside (omega (arith, some, counted_apart numbers members slot.job))),
          ))

  -- A member of a level from the nth on, as each job with work is that is no member of an earlier one, runs slower than a speed that is above theirs.
  slot_behind : (work size n scale s : ℕ) → AreParted levels work size n → IsScale scale planned → s < length (slots_at scale planned) →
      count (slot_at (slots_at scale planned) s).job (all_members (take n levels)) < 1 → 1 ≤ (job_at jobs (slot_at (slots_at scale planned) s).job).work →
      size * (slot_at (slots_at scale planned) s).work < work * ((slot_at (slots_at scale planned) s).to - (slot_at (slots_at scale planned) s).from)
  slot_behind work size n scale s parts is inside none some =
      let whole = slots_at scale planned in
      let slot = slot_at whole s in
      let feasible = plan.proper.feasible.holds scale is in
      let known = (feasible.in_windows s no_slot inside).known in
      let takes = run_forward 0 whole feasible.one_at_a_time s no_slot inside in
      let found = level_of_member levels (length levels) slot.job (omega arith)
      (omega (arith, (plan.proper.members slot.job known).with_work some, ap (λ front. count slot.job (all_members front)) (take_all (length levels) levels (omega arith)))) in
      let level = level_at levels found.0 in
      let behind : n ≤ found.0 = elim (cases_lt found.0 n) [
        | inl before ↦ absurd (omega (arith, none, front_counted levels n found.0 slot.job parts.within before found.2))
        | inr later ↦ later
      ] in
      slower_slot level.work level.length slot.work (slot.to - slot.from) (omega (arith, takes)) (parts.slow found.0 behind found.1)
      (plan.proper.speeds scale is s (omega (arith, inside, length-map planned (slot_at_scale scale))) found.0 found.1 found.2)
    where
      -- a slot is slower than what its level is slower than
      slower_slot : (all long given time : ℕ) → 1 ≤ time → all * size < work * long → given * long ≡ all * time → size * given < work * time
      slower_slot all long given time takes slow same =
          lt_of_mul-lt-mul_right long (omega (arith, mul-lt-mul_of_pos_left slow takes, ap (λ n. size * n) same))

  -- Where jobs with work that are none of the first levels' members are confined to those levels' pieces and some others, they do less there than at a
  -- speed that is above theirs.
  others_work : (work size n : ℕ) (numbers : List ℕ) (pieces : List Piece) → AreParted levels work size n → AreDifferent (all_members (take n levels) ++ numbers) →
      All (λ number. number < length jobs) numbers → All (λ number. 1 ≤ (job_at jobs number).work) numbers →
      All (λ number. IsConfined (job_at jobs number) (all_pieces (take n levels) ++ pieces)) numbers → 1 ≤ work_of jobs numbers →
      size * work_of jobs numbers < work * total_length pieces
  others_work work size n numbers pieces parts different known works confined some =
      let first = take n levels in
      let members = all_members first in
      let scale = scale_exists planned plan.proper.feasible.solid in
      let whole = slots_at scale.0 planned in
      let feasible = plan.proper.feasible.holds scale.0 scale.1 in
      let front = front_at jobs levels plan.proper.well_formed plan.proper.pieces plan.proper.windows n parts.within in
      let time = λ (slot : WholeSlot). slot.to - slot.from in
      let stay : All (λ number. IsConfined (job_at jobs number) (all_pieces first ++ pieces)) members =
      All-weaker (λ number. IsConfined (job_at jobs number) (all_pieces first)) (λ number. IsConfined (job_at jobs number) (all_pieces first ++ pieces))
      (λ number is unit released due. Any-append_left (λ piece. (piece.from ≤ unit) × (unit < piece.to)) (all_pieces first) pieces (is unit released due)) members front.confined in
      let served = work_served jobs scale.0 whole numbers feasible.served known in
      lt_of_mul-lt-mul_right scale.0 (omega (
        arith,
        mul-le-mul_left work (time_within jobs scale.0 (members ++ numbers) (all_pieces first ++ pieces) whole scale.1.positive different
            (All-append (λ number. IsConfined (job_at jobs number) (all_pieces first ++ pieces)) members numbers stay confined) feasible.one_at_a_time feasible.in_windows),
        ap (λ n. work * n) (group-append time members numbers whole),
        ap (λ n. work * (scale.0 * n)) (sum_by-append (λ (piece : Piece). piece.to - piece.from) (all_pieces first) pieces),
        mul-le-mul_left work (members_fill scale.0 scale.1 n parts.within),
        sum_by_at_most (λ slot. size * (count slot.job numbers * slot.work) + count slot.job numbers) (λ slot. work * (count slot.job numbers * time slot)) whole
            (λ k d inside. all_slower scale.0 k d scale.1 inside),
        sum_by-add (λ slot. size * (count slot.job numbers * slot.work)) (λ slot. count slot.job numbers) whole,
        sum_by-mul size (λ slot. count slot.job numbers * slot.work) whole,
        sum_by-mul work (λ slot. count slot.job numbers * time slot) whole,
        ap (λ n. size * n) served,
        some_counted numbers whole (omega (arith, served, mul-le-mul_left scale.0 some, scale.1.positive)),
      ))
    where
      -- a slot of theirs, as often as its job is counted
      all_slower : (scale k : ℕ) (d : WholeSlot) → IsScale scale planned → k < length (slots_at scale planned) →
          size * (count (get_or (slots_at scale planned) k d).job numbers * (get_or (slots_at scale planned) k d).work)
          + count (get_or (slots_at scale planned) k d).job numbers
          ≤ work * (count (get_or (slots_at scale planned) k d).job numbers * ((get_or (slots_at scale planned) k d).to - (get_or (slots_at scale planned) k d).from))
      all_slower scale k d is inside =
          let slot = slot_at (slots_at scale planned) k in
          let often = count slot.job numbers in
          rw (get_or_default (slots_at scale planned) k d no_slot inside)
          (omega (
            arith,
            counted_at_most often (size * slot.work + 1) (work * (slot.to - slot.from)) (λ once.
                omega (
                  arith,
                  slot_behind work size n scale k parts is inside
                      (omega (arith, once, different slot.job, count_joined slot.job (all_members (take n levels)) numbers))
                      (All-contains (λ number. 1 ≤ (job_at jobs number).work) numbers slot.job works (counted_contains slot.job numbers once)),
                )),
          ))

-- # Two plans

module _ (jobs more : List Job) (slots others : List WrittenSlot) (levels faster : List Level) (plan : IsPlan jobs slots levels)
    (other : IsPlan (jobs ++ more) others faster) where
  -- the jobs of the one list are those of the other
  same_job : (number : ℕ) → number < length jobs → job_at (jobs ++ more) number ≡ job_at jobs number
  same_job number known = get_or_append_left jobs more no_job number known

  -- a member of a level has work
  members_work : (n : ℕ) → n ≤ length levels → All (λ number. 1 ≤ (job_at jobs number).work) (all_members (take n levels))
  members_work n within k d inside =
      let number = get_or (all_members (take n levels)) k d in
      let found = level_of_member levels n number within (contained_counted (all_members (take n levels)) number (Contains-get_or (all_members (take n levels)) k d inside)) in
      All-contains (λ one. 1 ≤ (job_at jobs one).work) (all_members levels) number plan.members_work
      (counted_contains number (all_members levels) (member_counted levels found.0 number (omega (arith, found.1, within)) found.2))

  -- # A level, and the second plan's levels that are at least as fast

  module _ (i n : ℕ) (within : i < length levels) (parts : AreParted faster (level_at levels i).work (level_at levels i).length n) where
    -- the members of both run where both have pieces
    both_stay : All (λ number. IsConfined (job_at jobs number) (shared (all_pieces (take n faster)) (all_pieces (take (suc i) levels))))
        (both (all_members (take n faster)) (all_members (take (suc i) levels)))
    both_stay k d inside unit released due =
        let members = all_members (take (suc i) levels) in
        let pieces = all_pieces (take (suc i) levels) in
        let firsts = all_members (take n faster) in
        let theirs = all_pieces (take n faster) in
        let front = front_at jobs levels plan.proper.well_formed plan.proper.pieces plan.proper.windows (suc i) within in
        let back = front_at (jobs ++ more) faster other.proper.well_formed other.proper.pieces other.proper.windows n parts.within in
        let number = get_or (both firsts members) k d in
        let known = All-filter (is_one_of firsts) (λ one. one < length jobs) members front.known k d inside in
        let same = same_job number known in
        shared_covers theirs pieces unit
        (All-filter (is_one_of firsts) (λ one. IsConfined (job_at jobs one) pieces) members front.confined k d inside unit released due)
        (All-contains (λ one. IsConfined (job_at (jobs ++ more) one) theirs) firsts number back.confined
        (counted_contains number firsts (ltb-true 0 (count number firsts) (filter_passes (is_one_of firsts) members k d inside))) unit
        (omega (arith, released, ap (λ (job : Job). job.release) same)) (omega (arith, due, ap (λ (job : Job). job.deadline) same)))

    -- the first plan's others run there or in pieces that the second plan's levels haven't
    alone_stay : All (λ number. IsConfined (job_at (jobs ++ more) number)
        (all_pieces (take n faster) ++ apart (all_pieces (take n faster)) (all_pieces (take (suc i) levels))))
        (alone (all_members (take n faster)) (all_members (take (suc i) levels)))
    alone_stay k d inside unit released due =
        let members = all_members (take (suc i) levels) in
        let pieces = all_pieces (take (suc i) levels) in
        let firsts = all_members (take n faster) in
        let theirs = all_pieces (take n faster) in
        let front = front_at jobs levels plan.proper.well_formed plan.proper.pieces plan.proper.windows (suc i) within in
        let number = get_or (alone firsts members) k d in
        let known = All-filter (λ one. not (is_one_of firsts one)) (λ one. one < length jobs) members front.known k d inside in
        let same = same_job number known in
        let covers = All-filter (λ one. not (is_one_of firsts one)) (λ one. IsConfined (job_at jobs one) pieces) members front.confined k d inside unit
        (omega (arith, released, ap (λ (job : Job). job.release) same)) (omega (arith, due, ap (λ (job : Job). job.deadline) same)) in
        elim (cases_Bool (covers_time theirs unit)) [
          | inl there ↦ Any-append_left (λ piece. (piece.from ≤ unit) × (unit < piece.to)) theirs (apart theirs pieces) (time_covered theirs unit there)
          | inr missing ↦ Any-append_right (λ piece. (piece.from ≤ unit) × (unit < piece.to)) theirs (apart theirs pieces) (apart_covers theirs pieces unit covers missing)
        ]

    -- Each unit of the pieces up to the level is one of those levels.
    covered_too : (time : ℕ) → Covers (all_pieces (take (suc i) levels)) time → Covers (all_pieces (take n faster)) time
    covered_too time covers = elim (cases_Bool (covers_time (all_pieces (take n faster)) time)) [
      | inl there ↦ time_covered (all_pieces (take n faster)) time there
      | inr missing ↦
          let level = level_at levels i in
          let members = all_members (take (suc i) levels) in
          let pieces = all_pieces (take (suc i) levels) in
          let firsts = all_members (take n faster) in
          let theirs = all_pieces (take n faster) in
          let others_too = λ (number : ℕ). not (is_one_of firsts number) in
          let front = front_at jobs levels plan.proper.well_formed plan.proper.pieces plan.proper.windows (suc i) within in
          let some : 1 ≤ total_length (apart theirs pieces) = some_length (apart theirs pieces) time (apart_covers theirs pieces time covers missing) in
          let size = plan.proper.well_formed.positive i no_level within in
          let known : All (λ number. number < length jobs) (alone firsts members) = All-filter others_too (λ number. number < length jobs) members front.known in
          let works : All (λ number. 1 ≤ (job_at jobs number).work) (alone firsts members) =
          All-filter others_too (λ number. 1 ≤ (job_at jobs number).work) members (members_work (suc i) within) in
          let first = alone_work jobs slots levels plan i firsts theirs within both_stay in
          let same : work_of (jobs ++ more) (alone firsts members) ≡ work_of jobs (alone firsts members) =
          sum_by_same (λ number. (job_at (jobs ++ more) number).work) (λ number. (job_at jobs number).work) (alone firsts members)
          (λ k d inside. ap (λ (job : Job). job.work) (same_job (get_or (alone firsts members) k d) (known k d inside))) in
          let second = others_work (jobs ++ more) others faster other level.work level.length n (alone firsts members) (apart theirs pieces) parts
          (joined_different firsts members (members_once (jobs ++ more) others faster other n parts.within) (members_once jobs slots levels plan (suc i) within))
          (λ k d inside. omega (arith, known k d inside, length-append jobs more))
          (λ k d inside. omega (arith, works k d inside, ap (λ (job : Job). job.work) (same_job (get_or (alone firsts members) k d) (known k d inside))))
          alone_stay (omega (arith, same, some_work level.work (total_length (apart theirs pieces)) level.length (work_of jobs (alone firsts members)) size.0 some first)) in
          absurd (omega (arith, first, second, ap (λ n. level.length * n) same))
    ]
      where
        -- what does some work has some
        some_work : (work long size all : ℕ) → 1 ≤ work → 1 ≤ long → work * long ≤ size * all → 1 ≤ all
        some_work work long size zero some lasts does = absurd (omega (arith, does, some, mul-le-mul_left work lasts))
        some_work work long size (suc all) some lasts does = omega arith

-- # The law

-- a level that is as fast as another is as fast as what that is
faster_still : (p q all size work long : ℕ) → 1 ≤ size → p * size ≤ q * all → all * long ≤ work * size → p * long ≤ q * work
faster_still p q all size work long some fast more =
    le_of_mul-le-mul_left {k = size} (omega (arith, mul-le-mul_left long fast, mul-le-mul_left q more)) some

-- what runs in the first plan is of a level, and where the second plan has as fast a level, a slot of it runs
pub more_jobs_never_slow : MoreJobsNeverSlow
more_jobs_never_slow jobs more slots others levels faster scale time p q plan other is fast =
    let left = scale_left scale slots others is in
    let right = scale_right scale slots others is in
    let first = slots_at scale slots in
    let second = slots_at scale others in
    let (s, within, runs, speed) = fast_slot p q time first fast in
    let slot = slot_at first s in
    let works = All-map (λ (one : WholeSlot). 1 ≤ (job_at jobs one.job).work) (slot_at_scale scale) slots (λ k d inside. plans_serve_work jobs slots levels plan k d inside) in
    let found = runs_level jobs slots levels plan slots (plans_are_least jobs slots levels plan).0 scale left s time within runs (works s no_slot within) in
    let level = level_at levels found.0 in
    let size = (plan.proper.well_formed.positive found.0 no_level found.1).1 in
    let (n, parts) = parted faster level.work level.length (plan_falls (jobs ++ more) others faster other) size in
    let there = level_of_time faster n (time / scale) parts.within
    (covered_too jobs more slots others levels faster plan other found.0 n found.1 parts (time / scale)
    (level_in_front levels (suc found.0) found.0 (time / scale) found.1 (omega arith) found.3)) in
    let below : there.0 < length faster = omega (arith, there.1, parts.within) in
    let their = level_at faster there.0 in
    let run = level_runs (jobs ++ more) others faster other others (plans_are_least (jobs ++ more) others faster other).0 scale right there.0 time below there.2 in
    let next = slot_at second run.place in
    slot_fast p q time second run.place run.within run.runs
    (slot_as_fast p q their.work their.length next.work (next.to - next.from) (other.proper.well_formed.positive there.0 no_level below).1
    (other.proper.speeds scale right run.place (omega (arith, run.within, length-map others (slot_at_scale scale))) there.0 below run.member)
    (faster_still p q level.work level.length their.work their.length size
    (level_as_fast p q level.work level.length slot.work (slot.to - slot.from) (omega (arith, runs.0, runs.1))
    (plan.proper.speeds scale left s (omega (arith, within, length-map slots (slot_at_scale scale))) found.0 found.1 found.2) speed)
    (parts.fast there.0 there.1)))
