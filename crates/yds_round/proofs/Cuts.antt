-- The slots of a stretch that is cut: those of one more share, their number and the grains of their jobs.
use Rattle.yds_model.proofs.Common.{◌≡◌, ℕ, ◌+◌, ◌-◌, ◌*◌, ◌<◌, ◌≤◌, ◌⊎◌, List, [], ◌∷◌, ◌++◌, length, refl, sym, ap, ◌∙◌, subst, arith, inl, inr, Bool, append_assoc, if◌then◌else◌, Option, Some, None, IfSome, All, cases_lt, lt-ltb, le-ltb, append-nil, length-append, All-nil, All-cons, All-append, sum_by-cons, mul-le-mul_right, of_parts, WrittenSlot, Piece}
use Rattle.yds_model.specs.Plan.{IsOver}
use Rattle.yds_slots.specs.Schedule.{FitsGrain}
use Rattle.yds_slots.proofs.WorkParts.{of_parts_over}
use Rattle.yds_round.specs.declared.split.Split.{Split}
use Rattle.yds_timetable.specs.Shares.{JobShare, total_units}
use Rattle.yds_timetable.proofs.Grains.{fits_own}
use Rattle.yds_round.specs.Written.{Course, turn, moment, fast_course, slow_course, slot_between, slots_after, cut_slots, FitsJob, listed}

-- # One slot of a part

-- the slot that a part has between two numbers of units
abbrev pub piece_between : Course → Piece → ℕ → ℕ → ℕ → WrittenSlot
piece_between course stretch job from to = record {
  job = job;
  from = moment stretch (course.time from) course.den;
  to = moment stretch (course.time to) course.den;
  work = of_parts (course.work to - course.work from) course.grain;
}

-- it has one where some work is done there
pub some_between : (course : Course) (stretch : Piece) (job from to : ℕ) → course.work from < course.work to →
    slot_between course stretch job from to ≡ piece_between course stretch job from to ∷ []
some_between course stretch job from to less =
    ap (λ (b : Bool). if b then piece_between course stretch job from to ∷ [] else []) (lt-ltb (course.work from) (course.work to) less)

-- and none elsewhere
pub none_between : (course : Course) (stretch : Piece) (job from to : ℕ) → course.work to ≤ course.work from →
    slot_between course stretch job from to ≡ []
none_between course stretch job from to none =
    ap (λ (b : Bool). if b then piece_between course stretch job from to ∷ [] else []) (le-ltb (course.work from) (course.work to) none)

-- so what holds of that slot holds of all there
pub all_between : (P : WrittenSlot → Type 0) (course : Course) (stretch : Piece) (job from to : ℕ) → (course.work from < course.work to → P (piece_between course stretch job from to)) →
    All P (slot_between course stretch job from to)
all_between P course stretch job from to has = grind (arith, All-cons, All-nil, cases_lt, none_between, some_between)

pub few_between : (course : Course) (stretch : Piece) (job from to : ℕ) → length (slot_between course stretch job from to) ≤ 1
few_between course stretch job from to = grind (arith, cases_lt, none_between, some_between)

-- # The slots of a part

-- one share more
pub slots_push : (course : Course) (stretch : Piece) (done : ℕ) (shares : List JobShare) (share : JobShare) →
    slots_after course stretch done (shares ++ share ∷ [])
    ≡ slots_after course stretch done shares
    ++ slot_between course stretch share.job (done + total_units shares) (done + total_units shares + share.units)
slots_push course stretch done [] share =
    let start : done ≡ done + 0 = omega arith in
    append-nil (slot_between course stretch share.job done (done + share.units))
    ∙ ap (λ n. slot_between course stretch share.job n (n + share.units)) start
slots_push course stretch done (first ∷ shares) share =
    let more : done + first.units + total_units shares ≡ done + total_units (first ∷ shares) =
    omega (arith, sum_by-cons (λ (s : JobShare). s.units) first shares) in
    ap (λ slots. slot_between course stretch first.job done (done + first.units) ++ slots)
    (slots_push course stretch (done + first.units) shares share
    ∙ ap (λ n. slots_after course stretch (done + first.units) shares ++ slot_between course stretch share.job n (n + share.units)) more)
    ∙ sym (append_assoc (slot_between course stretch first.job done (done + first.units)) (slots_after course stretch (done + first.units) shares) _)

pub all_after : (P : WrittenSlot → Type 0) (course : Course) (stretch : Piece) (done : ℕ) (shares : List JobShare) →
    ((job from to : ℕ) → course.work from < course.work to → P (piece_between course stretch job from to)) → All P (slots_after course stretch done shares)
all_after P course stretch done [] has = All-nil P
all_after P course stretch done (share ∷ shares) has =
    All-append P (slot_between course stretch share.job done (done + share.units)) (slots_after course stretch (done + share.units) shares)
    (all_between P course stretch share.job done (done + share.units) (has share.job done (done + share.units)))
    (all_after P course stretch (done + share.units) shares has)

pub few_after : (course : Course) (stretch : Piece) (done : ℕ) (shares : List JobShare) → length (slots_after course stretch done shares) ≤ length shares
few_after course stretch done [] = omega arith
few_after course stretch done (share ∷ shares) = omega (
  arith,
  few_between course stretch share.job done (done + share.units),
  few_after course stretch (done + share.units) shares,
  length-append (slot_between course stretch share.job done (done + share.units)) (slots_after course stretch (done + share.units) shares),
)

-- where the work stays the same there are none
pub none_after : (course : Course) (stretch : Piece) (done : ℕ) (shares : List JobShare) (most : ℕ) →
    ((from to : ℕ) → done ≤ from → from ≤ to → to ≤ most → course.work to ≤ course.work from) → done + total_units shares ≤ most →
    slots_after course stretch done shares ≡ []
none_after course stretch done [] most same within = refl
none_after course stretch done (share ∷ shares) most same within =
    let sum = sum_by-cons (λ (s : JobShare). s.units) share shares in
    rw (none_between course stretch share.job done (done + share.units) (same done (done + share.units) (omega arith) (omega arith) (omega (arith, within, sum))))
    (none_after course stretch (done + share.units) shares most (λ from to after order below. same from to (omega (arith, after)) order below) (omega (arith, within, sum)))

-- # Both parts

-- up to the switch nothing is done at the slower point
pub none_slow : (split : Split) (stretch : Piece) (shares : List JobShare) → total_units shares * split.gap ≤ turn split stretch →
    slots_after (slow_course split stretch) stretch 0 shares ≡ []
none_slow split stretch shares within =
    none_after (slow_course split stretch) stretch 0 shares (total_units shares)
    (λ from to after order below. omega (arith, within, mul-le-mul_right split.gap order, mul-le-mul_right split.gap below)) (omega arith)

-- from there on nothing at the faster
pub none_fast : (split : Split) (stretch : Piece) (job from to : ℕ) → turn split stretch ≤ from * split.gap → from ≤ to →
    slot_between (fast_course split stretch) stretch job from to ≡ []
none_fast split stretch job from to after order =
    none_between (fast_course split stretch) stretch job from to (omega (arith, after, mul-le-mul_right split.gap order))

-- lists in the middle of which nothing stands
joined_by : {X : Type 0} (front fast back slow : List X) → (back ≡ []) ⊎ (fast ≡ []) →
    (front ++ fast) ++ (back ++ slow) ≡ ((front ++ back) ++ fast) ++ slow
joined_by front fast back slow (inl none) = rw (none, append-nil front) refl
joined_by front fast back slow (inr none) = rw (none, append-nil front, append-nil (front ++ back)) (sym (append_assoc front back slow))

-- one share more is served at the faster point, and then at the slower
pub cut_push : (split : Split) (stretch : Piece) (shares : List JobShare) (share : JobShare) →
    cut_slots split stretch (shares ++ share ∷ [])
    ≡ (cut_slots split stretch shares
    ++ slot_between (fast_course split stretch) stretch share.job (total_units shares) (total_units shares + share.units))
    ++ slot_between (slow_course split stretch) stretch share.job (total_units shares) (total_units shares + share.units)
cut_push split stretch shares share =
    let done = total_units shares in
    let more = done + share.units in
    let start : 0 + done ≡ done = omega arith in
    let fast : slots_after (fast_course split stretch) stretch 0 (shares ++ share ∷ []) ≡ slots_after (fast_course split stretch) stretch 0 shares
    ++ slot_between (fast_course split stretch) stretch share.job done more =
    slots_push (fast_course split stretch) stretch 0 shares share
    ∙ ap (λ n. slots_after (fast_course split stretch) stretch 0 shares ++ slot_between (fast_course split stretch) stretch share.job n (n + share.units)) start in
    let slow : slots_after (slow_course split stretch) stretch 0 (shares ++ share ∷ []) ≡ slots_after (slow_course split stretch) stretch 0 shares
    ++ slot_between (slow_course split stretch) stretch share.job done more =
    slots_push (slow_course split stretch) stretch 0 shares share
    ∙ ap (λ n. slots_after (slow_course split stretch) stretch 0 shares ++ slot_between (slow_course split stretch) stretch share.job n (n + share.units)) start in
    rw (fast, slow) (joined_by (slots_after (fast_course split stretch) stretch 0 shares) (slot_between (fast_course split stretch) stretch share.job done more)
    (slots_after (slow_course split stretch) stretch 0 shares) (slot_between (slow_course split stretch) stretch share.job done more)
    (elim (cases_lt (turn split stretch) (done * split.gap)) [
      | inl after ↦ inr (none_fast split stretch share.job done more (omega (arith, after)) (omega arith))
      | inr before ↦ inl (none_slow split stretch shares before)
    ]))

pub few_cut : (split : Split) (stretch : Piece) (shares : List JobShare) → length (cut_slots split stretch shares) ≤ 2 * length shares
few_cut split stretch shares = omega (
  arith,
  few_after (fast_course split stretch) stretch 0 shares,
  few_after (slow_course split stretch) stretch 0 shares,
  length-append (slots_after (fast_course split stretch) stretch 0 shares) (slots_after (slow_course split stretch) stretch 0 shares),
)

-- # Grains

-- the slot's work is whole, or over this denominator
abbrev pub WorksOver : ℕ → WrittenSlot → Type 0
WorksOver grain slot = IsOver grain slot.work

pub cut_over : (split : Split) (stretch : Piece) (shares : List JobShare) → All (WorksOver (split.den * split.gap)) (cut_slots split stretch shares)
cut_over split stretch shares =
    All-append (WorksOver (split.den * split.gap)) (slots_after (fast_course split stretch) stretch 0 shares) (slots_after (slow_course split stretch) stretch 0 shares)
    (all_after (WorksOver (split.den * split.gap)) (fast_course split stretch) stretch 0 shares (λ job from to some. of_parts_over _ (split.den * split.gap)))
    (all_after (WorksOver (split.den * split.gap)) (slow_course split stretch) stretch 0 shares (λ job from to some. of_parts_over _ (split.den * split.gap)))

-- works over the grain keep it
pub fits_more : (grain : ℕ) (slots more : List WrittenSlot) (job : ℕ) → FitsJob grain slots job → All (WorksOver grain) more → FitsJob grain (slots ++ more) job
fits_more grain slots more job fits over =
    All-append (λ slot. slot.job ≡ job → WorksOver grain slot) slots more fits (λ k d within same. over k d within)

-- # Slots that may be there

pub if_listed : (P : WrittenSlot → Type 0) (slot : Option WrittenSlot) (slots : List WrittenSlot) → listed slot ≡ slots → All P slots → IfSome slot P
if_listed P None slots is all = tt
if_listed P (Some slot) slots is all =
    let there : All P (slot ∷ []) = subst (λ (xs : List WrittenSlot). All P xs) (sym is) all in there 0 slot (omega arith)

-- it has the job, and fits the job's grain
pub known_listed : (course : Course) (stretch : Piece) (job from to jobs : ℕ) (slot : Option WrittenSlot) → job < jobs →
    listed slot ≡ slot_between course stretch job from to → IfSome slot (λ s. s.job < jobs)
known_listed course stretch job from to jobs slot within is =
    if_listed (λ s. s.job < jobs) slot (slot_between course stretch job from to) is (all_between (λ s. s.job < jobs) course stretch job from to (λ some. within))

pub over_between : (course : Course) (stretch : Piece) (job from to : ℕ) → All (WorksOver course.grain) (slot_between course stretch job from to)
over_between course stretch job from to = all_between (WorksOver course.grain) course stretch job from to (λ some. of_parts_over _ course.grain)

pub grain_listed : (course : Course) (stretch : Piece) (job from to : ℕ) (slots : List WrittenSlot) (slot : Option WrittenSlot) → FitsJob course.grain slots job →
    listed slot ≡ slot_between course stretch job from to → IfSome slot (λ s. FitsGrain slots s)
grain_listed course stretch job from to slots slot fits is =
    if_listed (λ s. FitsGrain slots s) slot (slot_between course stretch job from to) is
    (all_between (λ s. FitsGrain slots s) course stretch job from to
    (λ some. fits_own course.grain slots (piece_between course stretch job from to) fits (of_parts_over _ course.grain)))
