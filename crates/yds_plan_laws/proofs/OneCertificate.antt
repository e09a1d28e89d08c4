-- Two plans of the same jobs have the same levels. Their works and lengths are the same. A job runs at the speed of its level in both, so it is
-- a member of the same level. And the pieces of the first levels have just the time of the windows of their members.
use Rattle.yds_model.proofs.Common.{◌≡◌, ℕ, zero, suc, ◌-◌, ◌*◌, ◌<◌, ◌≤◌, ◌==◌, ◌⊎◌, List, [], ◌∷◌, ◌++◌, length, get_or, take, take_all, refl, sym, ap, subst, ◌∙◌, arith, inl, inr, if◌then◌else◌, nat_lt, All, Contains, All-nil, All-cons, All-weaker, cases_lt, cases_eq, cases_order, ltb-true, prefix_len, prefix_len_passes, prefix_len-le-length, length-take-le, same_lists, get_or_default, sum_by-cons, ne_eqb, mul-pos, eq_of_mul-eq-mul_left, flat_map-take, Any-append_right, count, counted_contains, Job, job_at, WrittenSlot, WholeSlot, no_slot, slot_at, slot_at_scale, slots_at, length-map, work_given, Piece, Covers, AreApart, PiecesFrom, IsConfined, Level, no_level, level_at, all_members, all_pieces, DontTouch, Rise, IsPlan, All-contains}
use Rattle.model_lemmas.proofs.Front.{pieces_begin, front_at}
use Rattle.model_lemmas.proofs.Counted.{member_counted}
use Rattle.model_lemmas.proofs.Runs.{run_forward}
use Rattle.model_lemmas.proofs.Scale.{scale_exists}
use Rattle.yds_laws.proofs.Curve.{AreFalling}
use Rattle.yds_laws.proofs.LeastAbove.{front_above}
use Rattle.yds_laws.proofs.Plans.{plan_falls, plans_are_least, plans_have_the_same_levels}
use Rattle.yds_energy.proofs.FullStretches.{level_of_member}
use Rattle.yds_plan_laws.specs.OneLaws.{LevelsAreOne}
use Rattle.yds_plan_laws.proofs.Certified.{levels_certify_the_least}
use Rattle.yds_plan_laws.proofs.Ends.{covers_later, covers_either, ends_before, has, window_with}

-- # Speeds

-- a later level is slower
pub speeds_fall : (levels : List Level) (i k : ℕ) → AreFalling levels → i < k → k < length levels →
    (level_at levels k).work * (level_at levels i).length < (level_at levels i).work * (level_at levels k).length
speeds_fall levels i k falling before within =
    let level = level_at levels k in
    let above = λ (one : Level). nat_lt (level.work * one.length) (one.work * level.length) in
    let many : prefix_len above levels ≡ k = omega (
      arith,
      ap length (front_above levels k falling within),
      length-take-le (prefix_len above levels) levels (prefix_len-le-length above levels),
      length-take-le k levels (omega (arith, within)),
    ) in
    ltb-true (level.work * (level_at levels i).length) ((level_at levels i).work * level.length)
    (prefix_len_passes above levels i no_level (omega (arith, before, many)))

-- one slot has the speed of one level at most
one_speed_one_level : (levels : List Level) (i k work time : ℕ) → AreFalling levels → i < length levels → k < length levels → 1 ≤ time →
    work * (level_at levels i).length ≡ (level_at levels i).work * time → work * (level_at levels k).length ≡ (level_at levels k).work * time → i ≡ k
one_speed_one_level levels i k work time falling within inside some first second =
    let one = level_at levels i in
    let other = level_at levels k in
    let same : one.work * other.length ≡ other.work * one.length =
    eq_of_mul-eq-mul_left time some (one.work * other.length) (other.work * one.length)
    (omega (arith, ap (λ n. n * other.length) first, ap (λ n. n * one.length) second)) in
    elim (cases_order i k) [
      | inl equal ↦ equal
      | inr (inl before) ↦ absurd (omega (arith, same, speeds_fall levels i k falling before inside))
      | inr (inr after) ↦ absurd (omega (arith, same, speeds_fall levels k i falling after within))
    ]

-- # Lists in order

-- what comes after the first of rising numbers is greater
rise_above : (number : ℕ) (numbers : List ℕ) → Rise (number ∷ numbers) → All (λ one. number < one) numbers
rise_above number [] rise = All-nil (λ one. number < one)
rise_above number (next ∷ numbers) rise =
    All-cons (λ one. number < one) next numbers rise.0
    (All-weaker (λ one. next < one) (λ one. number < one) (λ one greater. omega (arith, rise.0, greater)) numbers (rise_above next numbers rise.1))

-- and rises too
rise_rest : (number : ℕ) (numbers : List ℕ) → Rise (number ∷ numbers) → Rise numbers
rise_rest number [] rise = tt
rise_rest number (next ∷ numbers) rise = rise.1

-- a number of a list is the first or one of the rest
first_or_rest : (number one : ℕ) (numbers : List ℕ) → Contains (number ∷ numbers) one → (number ≡ one) ⊎ Contains numbers one
first_or_rest number one numbers (zero, within, is) = inl is
first_or_rest number one numbers (suc k, within, is) = inr (k, omega (arith, within), is)

-- so the first of rising numbers is at most each of them
first_least : (number one : ℕ) (numbers : List ℕ) → Rise (number ∷ numbers) → Contains (number ∷ numbers) one → number ≤ one
first_least number one numbers rise has = elim (first_or_rest number one numbers has) [
  | inl same ↦ omega (arith, same)
  | inr rest ↦ omega (arith, All-contains (λ other. number < other) numbers one (rise_above number numbers rise) rest)
]

-- each number of the one list is one of the other
abbrev StandIn : List ℕ → List ℕ → Type 0
StandIn numbers others = (one : ℕ) → Contains numbers one → Contains others one

-- without their first ones, where these are the same
stand_in_rest : (number other : ℕ) (numbers others : List ℕ) → number ≡ other → Rise (number ∷ numbers) → StandIn (number ∷ numbers) (other ∷ others) →
    StandIn numbers others
stand_in_rest number other numbers others same rise stand one has =
    elim (first_or_rest other one others (stand one (suc has.0, omega (arith, has.1), has.2))) [
      | inl equal ↦ absurd (omega (arith, same, equal, All-contains (λ next. number < next) numbers one (rise_above number numbers rise) has))
      | inr rest ↦ rest
    ]

-- rising lists of the same numbers are one list
rising_same : (numbers others : List ℕ) → Rise numbers → Rise others → StandIn numbers others → StandIn others numbers → numbers ≡ others
rising_same [] [] rise rises there back = refl
rising_same [] (other ∷ others) rise rises there back = absurd (let none = back other (0, omega arith, refl) in omega (arith, none.1))
rising_same (number ∷ numbers) [] rise rises there back = absurd (let none = there number (0, omega arith, refl) in omega (arith, none.1))
rising_same (number ∷ numbers) (other ∷ others) rise rises there back =
    let same : number ≡ other = omega (
      arith,
      first_least number other numbers rise (back other (0, omega arith, refl)),
      first_least other number others rises (there number (0, omega arith, refl)),
    ) in
    cc (
      same,
      rising_same numbers others (rise_rest number numbers rise) (rise_rest other others rises) (stand_in_rest number other numbers others same rise there)
          (stand_in_rest other number others numbers (sym same) rises back),
    )

-- each time of the one pieces is one of the others
abbrev CoveredBy : List Piece → List Piece → Type 0
CoveredBy pieces others = (time : ℕ) → Covers pieces time → Covers others time

-- in order, from a time on, and without touching
pub record AreInOrder (start : ℕ) (pieces : List Piece) : Type 0 where
  pub run : PiecesFrom start pieces
  pub apart : DontTouch pieces

-- the first one begins before each of their times
first_begins : (start time : ℕ) (piece : Piece) (pieces : List Piece) → PiecesFrom start (piece ∷ pieces) → Covers (piece ∷ pieces) time → piece.from ≤ time
first_begins start time piece pieces run (zero, one, within, is, holds) = omega (arith, holds.0, ap (λ (p : Piece). p.from) is)
first_begins start time piece pieces run (suc k, one, within, is, holds) =
    omega (arith, run.1, holds.0, ap (λ (p : Piece). p.from) is, pieces_begin piece.to pieces run.2 k one (omega (arith, within)))

-- a time of theirs is one of the first, or later than its end, and one of the others
first_or_later : (start time : ℕ) (piece : Piece) (pieces : List Piece) → AreInOrder start (piece ∷ pieces) → Covers (piece ∷ pieces) time →
    (time < piece.to) ⊎ ((piece.to < time) × Covers pieces time)
first_or_later start time piece pieces order (zero, one, within, is, holds) = inl (omega (arith, holds.1, ap (λ (p : Piece). p.to) is))
first_or_later start time piece pieces order (suc k, one, within, is, holds) =
    inr (omega (arith, holds.0, ap (λ (p : Piece). p.from) is, ends_before start 0 (suc k) (piece ∷ pieces) one order.run order.apart (omega arith) within), (k, one, omega (arith, within), is, holds))

-- the rest is in order too
order_rest : (start : ℕ) (piece : Piece) (pieces : List Piece) → AreInOrder start (piece ∷ pieces) → AreInOrder piece.to pieces
order_rest start piece [] order = record { run = order.run.2; apart = tt }
order_rest start piece (next ∷ pieces) order = record { run = order.run.2; apart = order.apart.1 }

-- the first piece is no longer than that of others that cover it
first_short : (start low : ℕ) (piece other : Piece) (pieces others : List Piece) → AreInOrder start (piece ∷ pieces) → AreInOrder low (other ∷ others) →
    piece.from ≡ other.from → CoveredBy (piece ∷ pieces) (other ∷ others) → piece.to ≤ other.to
first_short start low piece other pieces others order orders same covered = elim (cases_lt other.to piece.to) [
  | inr enough ↦ enough
  | inl longer ↦
      let forward = orders.run.1 in
      elim (first_or_later low other.to other others orders (covered other.to (0, piece, omega arith, refl, (omega (arith, same, forward), longer)))) [
        | inl before ↦ absurd (omega (arith, before))
        | inr after ↦ absurd (omega (arith, after.0))
      ]
]

-- without the first ones, where these are the same
covered_rest : (start low : ℕ) (piece other : Piece) (pieces others : List Piece) → AreInOrder start (piece ∷ pieces) → AreInOrder low (other ∷ others) →
    piece.to ≡ other.to → CoveredBy (piece ∷ pieces) (other ∷ others) → CoveredBy pieces others
covered_rest start low piece other pieces others order orders same covered time covers =
    let late : piece.to ≤ time = later_time piece.to time pieces order.run.2 covers in
    elim (first_or_later low time other others orders (covered time (covers_later time piece pieces covers))) [
      | inl before ↦ absurd (omega (arith, late, same, before))
      | inr after ↦ after.1
    ]
  where
    -- times of pieces from a time on are not before it
    later_time : (start time : ℕ) (pieces : List Piece) → PiecesFrom start pieces → Covers pieces time → start ≤ time
    later_time start time pieces run (k, one, within, is, holds) =
        omega (arith, holds.0, ap (λ (p : Piece). p.from) is, pieces_begin start pieces run k one within)

-- a piece by its ends
abbrev from_to : ℕ → ℕ → Piece
from_to from to = record { from = from; to = to }

-- pieces in order that have the same times are one list
pub pieces_same : (start low : ℕ) (pieces others : List Piece) → AreInOrder start pieces → AreInOrder low others → CoveredBy pieces others → CoveredBy others pieces →
    pieces ≡ others
pieces_same start low [] [] order orders there back = refl
pieces_same start low [] (other ∷ others) order orders there back =
    absurd (let none = back other.from (0, other, omega arith, refl, (omega arith, orders.run.1)) in omega (arith, none.2))
pieces_same start low (piece ∷ pieces) [] order orders there back =
    absurd (let none = there piece.from (0, piece, omega arith, refl, (omega arith, order.run.1)) in omega (arith, none.2))
pieces_same start low (piece ∷ pieces) (other ∷ others) order orders there back =
    let begins : piece.from ≡ other.from = omega (
      arith,
      first_begins start other.from piece pieces order.run (back other.from (0, other, omega arith, refl, (omega arith, orders.run.1))),
      first_begins low piece.from other others orders.run (there piece.from (0, piece, omega arith, refl, (omega arith, order.run.1))),
    ) in
    let ends : piece.to ≡ other.to = omega (
      arith,
      first_short start low piece other pieces others order orders begins there,
      first_short low start other piece others pieces orders order (sym begins) back,
    ) in
    let rest = pieces_same piece.to other.to pieces others (order_rest start piece pieces order) (order_rest low other others orders)
    (covered_rest start low piece other pieces others order orders ends there) (covered_rest low start other piece others pieces orders order (sym ends) back) in
    let first : piece ≡ other = ap (λ (time : ℕ). from_to time piece.to) begins ∙ ap (λ (time : ℕ). from_to other.from time) ends in
    cc (first, rest)

-- # Members

-- a job that slots give work has one of them
some_slot : (slots : List WholeSlot) (job : ℕ) → 1 ≤ work_given slots job → (k : ℕ) × (k < length slots) × ((slot_at slots k).job ≡ job)
some_slot [] job some = absurd (omega (arith, some))
some_slot (slot ∷ slots) job some = elim (cases_eq job slot.job) [
  | inl same ↦ (0, omega arith, sym same)
  | inr other ↦
      let rest = some_slot slots job (omega (
        arith,
        some,
        sum_by-cons (λ (one : WholeSlot). if job == one.job then one.work else 0) slot slots,
        ap {B = ℕ} (λ b. if b then slot.work else 0) (ne_eqb job slot.job other),
      )) in
      (suc rest.0, omega (arith, rest.1), rest.2)
]

module _ (jobs : List Job) (slots others : List WrittenSlot) (levels more : List Level) (plan : IsPlan jobs slots levels) (other : IsPlan jobs others more) where
  -- a member of a level is one of the same level of the other plan
  member_too : (i number : ℕ) → i < length levels → Contains (level_at levels i).members number → Contains (level_at more i).members number
  member_too i number within has =
      let same = plans_have_the_same_levels jobs slots others levels more plan other in
      let known = plan.proper.well_formed.known i no_level within in
      let below : number < length jobs = All-contains (λ one. one < length jobs) (level_at levels i).members number known has in
      let some : 1 ≤ (job_at jobs number).work =
      All-contains (λ one. 1 ≤ (job_at jobs one).work) (all_members levels) number plan.members_work (counted_contains number (all_members levels) (member_counted levels i number within has)) in
      let found = level_of_member more (length more) number (omega arith)
      (omega (arith, (other.proper.members number below).with_work some, ap (λ front. count number (all_members front)) (take_all (length more) more (omega arith)))) in
      let k : ℕ = found.0 in
      let scale = scale_exists slots plan.proper.feasible.solid in
      let whole = slots_at scale.0 slots in
      let feasible = plan.proper.feasible.holds scale.0 scale.1 in
      let least = (plans_are_least jobs slots levels plan).0 in
      let certified = (levels_certify_the_least jobs others slots more other).1 least in
      let given : 1 ≤ work_given whole number = omega (arith, feasible.served number below, mul-pos some scale.1.positive) in
      let one = some_slot whole number given in
      let slot = slot_at whole one.0 in
      let written : one.0 < length slots = omega (arith, one.1, length-map slots (slot_at_scale scale.0)) in
      let takes = run_forward 0 whole feasible.one_at_a_time one.0 no_slot one.1 in
      let first = plan.proper.speeds scale.0 scale.1 one.0 written i within (subst (Contains (level_at levels i).members) (sym one.2) has) in
      let second = certified.speeds scale.0 scale.1 one.0 written k found.1 (subst (Contains (level_at more k).members) (sym one.2) found.2) in
      let there : k < length levels = omega (arith, found.1, same.0) in
      let equal : i ≡ k = one_speed_one_level levels i k slot.work (slot.to - slot.from) (plan_falls jobs slots levels plan) within there (omega (arith, takes)) first
      (omega (arith, second, ap (λ n. slot.work * n) (same.1 k there).1, ap (λ n. n * (slot.to - slot.from)) (same.1 k there).0)) in
      subst (λ (n : ℕ). Contains (level_at more n).members number) (sym equal) found.2

-- the same the other way round
module _ (jobs : List Job) (slots others : List WrittenSlot) (levels more : List Level) (plan : IsPlan jobs slots levels) (other : IsPlan jobs others more) where
  -- both plans have as many levels
  as_many : length levels ≡ length more
  as_many = (plans_have_the_same_levels jobs slots others levels more plan other).0

  -- so the members of a level are one list
  members_same : (i : ℕ) → i < length levels → (level_at levels i).members ≡ (level_at more i).members
  members_same i within =
      let inside : i < length more = omega (arith, within, as_many) in
      rising_same (level_at levels i).members (level_at more i).members (plan.members_rise i no_level within) (other.members_rise i no_level inside)
      (λ number has. member_too jobs slots others levels more plan other i number within has)
      (λ number has. member_too jobs others slots more levels other plan i number inside has)

  -- and those of the first levels
  front_members : (n : ℕ) → n ≤ length levels → all_members (take n levels) ≡ all_members (take n more)
  front_members zero within = refl
  front_members (suc n) within =
      let inside : n < length more = omega (arith, within, as_many) in
      flat_map-take (λ (one : Level). one.members) levels n no_level within
      ∙ ap (λ (numbers : List ℕ). numbers ++ (level_at levels n).members) (front_members n (omega (arith, within)))
      ∙ ap (λ (numbers : List ℕ). all_members (take n more) ++ numbers) (members_same n within)
      ∙ sym (flat_map-take (λ (one : Level). one.members) more n no_level inside)

  -- a time of the first levels' pieces is one of the other plan's: it is in a window of a member, which is confined to these
  front_covered : (n : ℕ) → n ≤ length levels → CoveredBy (all_pieces (take n levels)) (all_pieces (take n more))
  front_covered zero within time (k, one, inside, is, holds) = absurd (omega (arith, inside))
  front_covered (suc n) within time covers =
      let found = window_with jobs slots levels plan n time within covers in
      let front = front_at jobs more other.proper.well_formed other.proper.pieces other.proper.windows (suc n) (omega (arith, within, as_many)) in
      All-contains (λ number. IsConfined (job_at jobs number) (all_pieces (take (suc n) more))) (all_members (take (suc n) more)) found.0 front.confined
      (subst (λ (numbers : List ℕ). Contains numbers found.0) (front_members (suc n) within) found.1) time found.2 found.3

-- a time of a level's pieces is none of an earlier level's
pub none_earlier : (jobs : List Job) (slots : List WrittenSlot) (levels : List Level) → IsPlan jobs slots levels → (i time : ℕ) → i < length levels →
    Covers (level_at levels i).pieces time → Covers (all_pieces (take i levels)) time → ⊥
none_earlier jobs slots levels plan i time within (k, piece, inside, is, holds) (j, one, there, same, has) =
    let apart = (plan.proper.pieces i within).apart k piece inside j one there in
    elim (subst (λ (p : Piece). AreApart p one) is (subst (AreApart (get_or (level_at levels i).pieces k piece)) same apart)) [
      | inl before ↦ absurd (omega (arith, before, holds.1, has.0))
      | inr after ↦ absurd (omega (arith, after, has.1, holds.0))
    ]

module _ (jobs : List Job) (slots others : List WrittenSlot) (levels more : List Level) (plan : IsPlan jobs slots levels) (other : IsPlan jobs others more) where
  -- so a time of a level's pieces is one of the same level's of the other plan
  level_covered : (i : ℕ) → i < length levels → CoveredBy (level_at levels i).pieces (level_at more i).pieces
  level_covered i within time covers =
      let inside : i < length more = omega (arith, within, as_many jobs slots others levels more plan other) in
      let all : Covers (all_pieces (take (suc i) levels)) time = rw (flat_map-take (λ (one : Level). one.pieces) levels i no_level within)
      (Any-append_right (λ piece. (piece.from ≤ time) × (time < piece.to)) (all_pieces (take i levels)) (level_at levels i).pieces covers) in
      let there = front_covered jobs slots others levels more plan other (suc i) within time all in
      let parted : Covers (all_pieces (take i more) ++ (level_at more i).pieces) time = rw (flat_map-take (λ (one : Level). one.pieces) more i no_level inside) at there in
      elim (covers_either time (all_pieces (take i more)) (level_at more i).pieces parted) [
        | inr own ↦ own
        | inl earlier ↦ absurd (none_earlier jobs slots levels plan i time within covers
            (front_covered jobs others slots more levels other plan i (omega (arith, inside)) time earlier))
      ]

-- a level by its parts
abbrev of_parts_of : ℕ → ℕ → List Piece → List ℕ → Level
of_parts_of work length pieces members = record { work = work; length = length; pieces = pieces; members = members }

-- the law: so each level is the other plan's
pub levels_are_one : LevelsAreOne
levels_are_one jobs slots others levels more plan other =
    let both = plans_have_the_same_levels jobs slots others levels more plan other in
    same_lists levels more both.0 (λ i d within.
    let inside : i < length more = omega (arith, within, both.0) in
    let one = level_at levels i in
    let next = level_at more i in
    let pieces : one.pieces ≡ next.pieces =
    pieces_same 0 0 one.pieces next.pieces (record { run = (plan.proper.pieces i within).in_order; apart = plan.pieces_apart i no_level within })
    (record { run = (other.proper.pieces i inside).in_order; apart = other.pieces_apart i no_level inside })
    (level_covered jobs slots others levels more plan other i within) (level_covered jobs others slots more levels other plan i inside) in
    let level : one ≡ next =
    ap (λ (work : ℕ). of_parts_of work one.length one.pieces one.members) (both.1 i within).0
    ∙ ap (λ (long : ℕ). of_parts_of next.work long one.pieces one.members) (both.1 i within).1
    ∙ ap (λ (some : List Piece). of_parts_of next.work next.length some one.members) pieces
    ∙ ap (λ (some : List ℕ). of_parts_of next.work next.length next.pieces some) (members_same jobs slots others levels more plan other i within) in
    get_or_default levels i d no_level within ∙ level ∙ get_or_default more i no_level d inside)
