-- What a stretch that is cut gives each job: as much as the plan.
use Rattle.yds_model.proofs.Common.{◌≡◌, ℕ, ◌+◌, ◌-◌, ◌*◌, ◌≤◌, ◌==◌, ◌∙◌, min, max, List, [], ◌∷◌, ap, sym, arith, if◌then◌else◌, All, nat_tests, sum_by-cons, All-tail, eq_of_mul-eq-mul_right, mul-pos, mul-le-mul_right, WholeSlot, IsDivided, slot_at_scale, slots_at, work_given, Piece}
use Rattle.yds_slots.proofs.WorkParts.{of_parts_at}
use Rattle.yds_timetable.specs.declared.pace.Pace.{Pace}
use Rattle.yds_timetable.specs.Shares.{JobShare, units_given}
use Rattle.yds_timetable.specs.Pace.{slot_of, slots_from}
use Rattle.yds_round.specs.declared.split.Split.{Split}
use Rattle.yds_round.specs.Written.{turn, fast_course, slow_course, slots_after}
use Rattle.yds_round.proofs.Courses.{own_work, parts_for, given_after}

-- the work that a plan's slots give a job
pub given_planned : (pace : Pace) (start done scale : ℕ) (shares : List JobShare) (job : ℕ) → All (IsDivided scale) (slots_from pace start done shares) →
    work_given (slots_at scale (slots_from pace start done shares)) job * pace.grain ≡ units_given shares job * scale
given_planned pace start done scale [] job divided = omega arith
given_planned pace start done scale (share ∷ shares) job divided =
    let slot = slot_of pace start done share in
    let rest = slots_from pace start (done + share.units) shares in
    omega (
      arith,
      ap (λ n. n * pace.grain) (sum_by-cons (λ (s : WholeSlot). if job == s.job then s.work else 0) (slot_at_scale scale slot) (slots_at scale rest)),
      ap (λ n. n * scale) (sum_by-cons (λ (s : JobShare). if job == s.job then s.units else 0) share shares),
      own_work job share.job (slot_at_scale scale slot).work pace.grain share.units scale
          (of_parts_at scale share.units pace.grain (divided 0 slot (omega arith)).work),
      given_planned pace start (done + share.units) scale shares job (All-tail (IsDivided scale) slot rest divided),
    )

-- what is done at the faster point and at the slower is all
both_work : (done units gap turn : ℕ) →
    (min ((done + units) * gap) turn - min (done * gap) turn) + (max ((done + units) * gap) turn - max (done * gap) turn) ≡ units * gap
both_work done units gap turn = by (done * gap) (units * gap) ((done + units) * gap) (omega arith) where
  -- of plain numbers
  by : (a b c : ℕ) → c ≡ a + b → (min c turn - min a turn) + (max c turn - max a turn) ≡ b
  by a b c sum = omega (arith, sum)

-- of one slot
both_own : (job other fast slow units gap : ℕ) → fast + slow ≡ units * gap →
    (if job == other then fast else 0) + (if job == other then slow else 0) ≡ (if job == other then units else 0) * gap
both_own job other fast slow units gap sum = grind (arith, nat_tests)

pub both_parts : (split : Split) (stretch : Piece) (shares : List JobShare) (done job : ℕ) →
    parts_for (fast_course split stretch) done shares job + parts_for (slow_course split stretch) done shares job ≡ units_given shares job * split.gap
both_parts split stretch [] done job = omega arith
both_parts split stretch (share ∷ shares) done job = omega (
  arith,
  both_own job share.job _ _ share.units split.gap (both_work done share.units split.gap (turn split stretch)),
  both_parts split stretch shares (done + share.units) job,
  ap (λ n. n * split.gap) (sum_by-cons (λ (s : JobShare). if job == s.job then s.units else 0) share shares),
)

-- of works in parts of 1/(unit * gap)
same_by : (fast slow planned unit gap first second units scale : ℕ) → 1 ≤ unit → 1 ≤ gap → fast * (unit * gap) ≡ first * scale → slow * (unit * gap) ≡ second * scale →
    first + second ≡ units * gap → planned * unit ≡ units * scale → fast + slow ≡ planned
same_by fast slow planned unit gap first second units scale some_unit some_gap one two both is =
    eq_of_mul-eq-mul_right (unit * gap) (mul-pos some_unit some_gap) (fast + slow) planned (omega (
      arith,
      one,
      two,
      ap (λ n. n * scale) both,
      ap (λ n. n * gap) is,
    ))

-- the work does not fall while units are done
pub fast_rises : (split : Split) (stretch : Piece) (from to : ℕ) → from ≤ to → (fast_course split stretch).work from ≤ (fast_course split stretch).work to
fast_rises split stretch from to order = omega (arith, mul-le-mul_right split.gap order)

pub slow_rises : (split : Split) (stretch : Piece) (from to : ℕ) → from ≤ to → (slow_course split stretch).work from ≤ (slow_course split stretch).work to
slow_rises split stretch from to order = omega (arith, mul-le-mul_right split.gap order)

-- so both parts give each job what the plan does
pub same_given : (split : Split) (stretch : Piece) (pace : Pace) (shares : List JobShare) (scale job : ℕ) → pace.grain ≡ split.den → 1 ≤ split.den → 1 ≤ split.gap →
    All (IsDivided scale) (slots_from pace stretch.from 0 shares) →
    All (IsDivided scale) (slots_after (fast_course split stretch) stretch 0 shares) → All (IsDivided scale) (slots_after (slow_course split stretch) stretch 0 shares) →
    work_given (slots_at scale (slots_after (fast_course split stretch) stretch 0 shares)) job
    + work_given (slots_at scale (slots_after (slow_course split stretch) stretch 0 shares)) job ≡ work_given (slots_at scale (slots_from pace stretch.from 0 shares)) job
same_given split stretch pace shares scale job grain some_den some_gap divided fast slow =
    same_by _ _ _ split.den split.gap (parts_for (fast_course split stretch) 0 shares job) (parts_for (slow_course split stretch) 0 shares job)
    (units_given shares job) scale some_den some_gap
    (given_after (fast_course split stretch) stretch scale shares 0 job (fast_rises split stretch) fast)
    (given_after (slow_course split stretch) stretch scale shares 0 job (slow_rises split stretch) slow)
    (both_parts split stretch shares 0 job)
    (ap (λ n. work_given (slots_at scale (slots_from pace stretch.from 0 shares)) job * n) (sym grain) ∙ given_planned pace stretch.from 0 scale shares job divided)
