-- A part of a stretch that is cut, at a scale: its slots run at one point's speed without a gap.
use Rattle.yds_model.proofs.Common.{◌≡◌, ℕ, ◌+◌, ◌-◌, ◌*◌, ◌<◌, ◌≤◌, ◌==◌, List, [], ◌∷◌, ◌++◌, refl, sym, ap, ◌∙◌, subst, arith, inl, inr, if◌then◌else◌, All, cases_lt, nat_tests, sum_by-cons, All-tail, mul-pos, mul-le-mul_right, eq_of_mul-eq-mul_right, eq_of_mul-eq-mul_left, WrittenSlot, WholeSlot, IsDivided, slot_at_scale, slots_at, work_given, Piece, RunsAtPoint}
use Rattle.yds_slots.proofs.WorkParts.{of_parts_at}
use Rattle.yds_timetable.specs.Shares.{JobShare, total_units}
use Rattle.yds_round.specs.Written.{Course, slots_after}
use Rattle.yds_round.proofs.Cuts.{piece_between, some_between, none_between}

-- While up to so many units are done the part runs at this speed: its time and work stand as a constant more tells.
pub record RunsAt (course : Course) (speed most held : ℕ) : Type 0 where
  pub some_speed : 1 ≤ speed
  pub some_den : 1 ≤ course.den
  pub some_grain : 1 ≤ course.grain
  pub rises : (from to : ℕ) → from ≤ to → course.work from ≤ course.work to
  pub pace : (units : ℕ) → units ≤ most → speed * course.grain * course.time units + held ≡ course.work units * course.den

-- # In plain numbers

-- at the scale M, a slot from a to b with work w: it begins when Va of the work is done, at the time Ta, and ends at Vb and Tb
module _ (speed grain den start scale first last before after held a b w : ℕ) (some_speed : 1 ≤ speed) (some_grain : 1 ≤ grain) (some_den : 1 ≤ den) (positive : 1 ≤ scale)
    (begins : a * den ≡ (start * den + first) * scale) (ends : b * den ≡ (start * den + last) * scale) (works : w * grain ≡ (after - before) * scale)
    (one : speed * grain * first + held ≡ before * den) (two : speed * grain * last + held ≡ after * den) (less : before < after) where
  -- speed times the end is speed times the begin, and the work
  spent : speed * b ≡ speed * a + w
  spent =
      let more : after ≡ before + (after - before) = omega (arith, less) in
      eq_of_mul-eq-mul_right (grain * den) (mul-pos some_grain some_den) (speed * b) (speed * a + w) (omega (
        arith,
        ap (λ n. speed * grain * n) begins,
        ap (λ n. speed * grain * n) ends,
        ap (λ n. n * den) works,
        ap (λ n. n * scale) one,
        ap (λ n. n * scale) two,
        ap (λ n. n * den * scale) more,
      ))

  some_work : 1 ≤ w
  some_work = grind (arith, cases_lt, mul-pos)

  pub piece_forward : a < b
  piece_forward = grind (arith, cases_lt, mul-le-mul_right, some_work, spent)

  pub piece_speed : w ≡ speed * (b - a)
  piece_speed =
      let time : b ≡ a + (b - a) = omega (arith, piece_forward) in
      omega (arith, spent, ap (λ n. speed * n) time)

-- where no work is done no time passes
same_time : (speed grain den first last before after held : ℕ) → 1 ≤ speed → 1 ≤ grain → speed * grain * first + held ≡ before * den →
    speed * grain * last + held ≡ after * den → before ≡ after → first ≡ last
same_time speed grain den first last before after held some_speed some_grain one two same =
    eq_of_mul-eq-mul_left (speed * grain) (mul-pos some_speed some_grain) first last (omega (arith, one, two, ap (λ n. n * den) same))

-- # The slots of a part

-- the work that the part does for a job, in parts of its grain
abbrev pub parts_for : Course → ℕ → List JobShare → ℕ → ℕ
parts_for course done [] job = 0
parts_for course done (share ∷ shares) job =
    (if job == share.job then course.work (done + share.units) - course.work done else 0)
    + parts_for course (done + share.units) shares job

-- where a part begins and ends
pub record RunsTo (course : Course) (stretch : Piece) (speed scale start units : ℕ) (slots : List WrittenSlot) : Type 0 where
  pub end : ℕ
  pub runs : RunsAtPoint speed start end (slots_at scale slots)
  pub ends : end * course.den ≡ (stretch.from * course.den + course.time units) * scale

module _ (course : Course) (stretch : Piece) (speed most held scale : ℕ) (at : RunsAt course speed most held) (positive : 1 ≤ scale) where
  pub runs_after : (shares : List JobShare) (done start : ℕ) → done + total_units shares ≤ most →
      start * course.den ≡ (stretch.from * course.den + course.time done) * scale → All (IsDivided scale) (slots_after course stretch done shares) →
      RunsTo course stretch speed scale start (done + total_units shares) (slots_after course stretch done shares)
  runs_after [] done start within begins divided =
      let none : done ≡ done + 0 = omega arith in
      record { end = start; runs = refl; ends = begins ∙ ap (λ n. (stretch.from * course.den + course.time n) * scale) none }
  runs_after (share ∷ shares) done start within begins divided =
      let next = done + share.units in
      let sum = sum_by-cons (λ (s : JobShare). s.units) share shares in
      let all : next + total_units shares ≡ done + total_units (share ∷ shares) = omega (arith, sum) in
      let fits : next + total_units shares ≤ most = omega (arith, all, within) in
      let order = at.rises done next (omega arith) in
      elim (cases_lt (course.work done) (course.work next)) [
        | inl some ↦
            let piece = piece_between course stretch share.job done next in
            let is = some_between course stretch share.job done next some in
            let parts : All (IsDivided scale) (piece ∷ slots_after course stretch next shares) =
            subst (λ (xs : List WrittenSlot). All (IsDivided scale) (xs ++ slots_after course stretch next shares)) is divided in
            let mine = parts 0 piece (omega arith) in
            let from = of_parts_at scale (stretch.from * course.den + course.time done) course.den mine.from in
            let to = of_parts_at scale (stretch.from * course.den + course.time next) course.den mine.to in
            let work = of_parts_at scale (course.work next - course.work done) course.grain mine.work in
            let one = at.pace done (omega (arith, fits)) in
            let two = at.pace next (omega (arith, fits)) in
            let whole = slot_at_scale scale piece in
            let rest = runs_after shares next whole.to fits to (All-tail (IsDivided scale) piece (slots_after course stretch next shares) parts) in
            let same : whole.from ≡ start = eq_of_mul-eq-mul_right course.den at.some_den whole.from start (from ∙ sym begins) in
            rw is (record {
              end = rest.end;
              runs = (
                same,
                piece_forward speed course.grain course.den stretch.from scale (course.time done) (course.time next) (course.work done) (course.work next) held
                    whole.from whole.to whole.work at.some_speed at.some_grain at.some_den positive from to work one two some,
                piece_speed speed course.grain course.den stretch.from scale (course.time done) (course.time next) (course.work done) (course.work next) held
                    whole.from whole.to whole.work at.some_speed at.some_grain at.some_den positive from to work one two some,
                rest.runs,
              );
              ends = rest.ends ∙ ap (λ n. (stretch.from * course.den + course.time n) * scale) all;
            })
        | inr none ↦
            let is = none_between course stretch share.job done next none in
            let parts : All (IsDivided scale) (slots_after course stretch next shares) =
            subst (λ (xs : List WrittenSlot). All (IsDivided scale) (xs ++ slots_after course stretch next shares)) is divided in
            let time : course.time done ≡ course.time next =
            same_time speed course.grain course.den (course.time done) (course.time next) (course.work done) (course.work next) held at.some_speed at.some_grain
            (at.pace done (omega (arith, fits))) (at.pace next (omega (arith, fits))) (omega (arith, none, order)) in
            let rest = runs_after shares next start fits (begins ∙ ap (λ n. (stretch.from * course.den + n) * scale) time) parts in
            rw is (record {
              end = rest.end;
              runs = rest.runs;
              ends = rest.ends ∙ ap (λ n. (stretch.from * course.den + course.time n) * scale) all;
            })
      ]

-- # The work of each job

-- a job's part of one slot
pub own_work : (job other work grain parts scale : ℕ) → work * grain ≡ parts * scale →
    (if job == other then work else 0) * grain ≡ (if job == other then parts else 0) * scale
own_work job other work grain parts scale is = grind (arith, nat_tests)

-- and of none
none_of : (job other parts : ℕ) → parts ≡ 0 → (if job == other then parts else 0) ≡ 0
none_of job other parts none = grind (arith, nat_tests)

pub given_after : (course : Course) (stretch : Piece) (scale : ℕ) (shares : List JobShare) (done job : ℕ) →
    ((from to : ℕ) → from ≤ to → course.work from ≤ course.work to) → All (IsDivided scale) (slots_after course stretch done shares) →
    work_given (slots_at scale (slots_after course stretch done shares)) job * course.grain ≡ parts_for course done shares job * scale
given_after course stretch scale [] done job rises divided = omega arith
given_after course stretch scale (share ∷ shares) done job rises divided =
    let next = done + share.units in
    let order = rises done next (omega arith) in
    elim (cases_lt (course.work done) (course.work next)) [
      | inl some ↦
          let piece = piece_between course stretch share.job done next in
          let is = some_between course stretch share.job done next some in
          let parts : All (IsDivided scale) (piece ∷ slots_after course stretch next shares) =
          subst (λ (xs : List WrittenSlot). All (IsDivided scale) (xs ++ slots_after course stretch next shares)) is divided in
          let work = of_parts_at scale (course.work next - course.work done) course.grain (parts 0 piece (omega arith)).work in
          rw is (omega (
            arith,
            ap (λ n. n * course.grain) (sum_by-cons (λ (s : WholeSlot). if job == s.job then s.work else 0) (slot_at_scale scale piece) (slots_at scale (slots_after course stretch next shares))),
            own_work job share.job (slot_at_scale scale piece).work course.grain (course.work next - course.work done) scale work,
            given_after course stretch scale shares next job rises (All-tail (IsDivided scale) piece (slots_after course stretch next shares) parts),
          ))
      | inr none ↦
          let is = none_between course stretch share.job done next none in
          let parts : All (IsDivided scale) (slots_after course stretch next shares) =
          subst (λ (xs : List WrittenSlot). All (IsDivided scale) (xs ++ slots_after course stretch next shares)) is divided in
          let nothing : course.work next - course.work done ≡ 0 = omega (arith, none, order) in
          rw is (omega (
            arith,
            ap (λ n. n * scale) (none_of job share.job (course.work next - course.work done) nothing),
            given_after course stretch scale shares next job rises parts,
          ))
    ]
