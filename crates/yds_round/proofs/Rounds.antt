-- What is written for each stretch rounds what the plan has there, and can be put after what is written before.
use Rattle.yds_model.proofs.Common.{◌≡◌, ℕ, zero, suc, ◌+◌, ◌-◌, ◌*◌, ◌<◌, ◌≤◌, max, List, ◌++◌, length, refl, sym, ap, ◌∙◌, subst, arith, inl, inr, Option, Some, None, All, Contains, length-append, All-nil, All-append, mul-pos, of_parts, WrittenSlot, IsSolid, Piece, Level, common_multiple, Point, hull_of, speed_num, speed_den, HasSplitDenominators, SplitsStretch, RoundsStretch}
use Rattle.fraction_lemmas.proofs.Fractions.{parts_den}
use Rattle.base.specs.declared.limits.TheConstants.{MAX_SLOTS, MAX_SLOT_WORK}
use Rattle.yds_model.specs.Plan.{IsOver}
use Rattle.yds_events.specs.Stretch.{length_of}
use Rattle.yds_laws.proofs.Bound.{scale_left, scale_right}
use Rattle.yds_slots.proofs.WorkParts.{of_parts_over}
use Rattle.yds_timetable.specs.Shares.{JobShare, total_units}
use Rattle.yds_timetable.specs.Pace.{slots_from, Fills}
use Rattle.yds_timetable.proofs.Filling.{length_from}
use Rattle.yds_timetable.proofs.Rows.{row_solid, row_over}
use Rattle.yds_plan.specs.Timetabled.{pace_of_level}
use Rattle.yds_round.specs.declared.split.Split.{Split}
use Rattle.yds_round.specs.Split.{IsSplitOf}
use Rattle.yds_round.specs.LevelPace.{RunsAtTwo, RunsAs}
use Rattle.yds_round.specs.Written.{Course, all_units, fast_course, slow_course, slots_after, cut_slots, written_at, FitsJob}
use Rattle.yds_round.specs.Cut.{CanRound}
use Rattle.yds_round.proofs.Cuts.{WorksOver, piece_between, all_after, cut_over}
use Rattle.yds_round.proofs.InTurn.{share_jobs, jobs_back, jobs_planned, jobs_after, count_after, count_once, one_more}
use Rattle.yds_round.proofs.SplitAt.{split_at, no_slow}
use Rattle.yds_round.proofs.Held.{IsHeld, units_held}

-- # A split as it is written

-- the denominators of parts are at least 1
solid_parts : (parts den : ℕ) → 1 ≤ den → 1 ≤ (of_parts parts den).den
solid_parts parts den some = elim (parts_den parts den) [ inl plain ↦ omega (arith, plain) | inr is ↦ omega (arith, is, some) ]

solid_after : (course : Course) (stretch : Piece) (shares : List JobShare) → 1 ≤ course.den → 1 ≤ course.grain → All IsSolid (slots_after course stretch 0 shares)
solid_after course stretch shares some_den some_grain = all_after IsSolid course stretch 0 shares (λ job from to some. record {
  from = solid_parts (stretch.from * course.den + course.time from) course.den some_den;
  to = solid_parts (stretch.from * course.den + course.time to) course.den some_den;
  work = solid_parts (course.work to - course.work from) course.grain some_grain;
})

dens_after : (level : Level) (gap speed : ℕ) (course : Course) (stretch : Piece) (shares : List JobShare) → course.den ≡ speed_den level * common_multiple speed gap →
    course.grain ≡ speed_den level * gap → All (HasSplitDenominators level gap speed) (slots_after course stretch 0 shares)
dens_after level gap speed course stretch shares den grain = all_after (HasSplitDenominators level gap speed) course stretch 0 shares (λ job from to some. record {
  from = subst (λ (n : ℕ). IsOver n (piece_between course stretch job from to).from) den (of_parts_over (stretch.from * course.den + course.time from) course.den);
  to = subst (λ (n : ℕ). IsOver n (piece_between course stretch job from to).to) den (of_parts_over (stretch.from * course.den + course.time to) course.den);
  work = subst (λ (n : ℕ). IsOver n (piece_between course stretch job from to).work) grain (of_parts_over (course.work to - course.work from) course.grain);
})

-- the work of the level in the stretch, by its split
all_of_level : (level : Level) (low high : Point) (split : Split) (stretch : Piece) → IsSplitOf level low high split →
    all_units split stretch ≡ speed_num level * length_of stretch
all_of_level level low high split stretch is = grind arith

-- what a stretch serves, as the code meets it
pub full_of : (level : Level) (low high : Point) (split : Split) (stretch : Piece) (shares : List JobShare) → IsSplitOf level low high split →
    Fills (pace_of_level level) stretch shares → total_units shares ≡ all_units split stretch
full_of level low high split stretch shares is fills = units_held level stretch shares fills ∙ sym (all_of_level level low high split stretch is)

module _ (points : List Point) (levels : List Level) (level : Level) (split : Split) (stretch : Piece) (shares : List JobShare)
    (at : RunsAtTwo points level split) (held : IsHeld levels level stretch shares) where
  abbrev here : List WrittenSlot
  here = slots_from (pace_of_level level) stretch.from 0 shares

  abbrev fast : List WrittenSlot
  fast = slots_after (fast_course split stretch) stretch 0 shares

  abbrev slow : List WrittenSlot
  slow = slots_after (slow_course split stretch) stretch 0 shares

  full : total_units shares ≡ all_units split stretch
  full = full_of level at.low at.high split stretch shares at.numbers held.fills

  gap : split.gap ≡ at.high.speed - at.low.speed
  gap = omega (arith, at.numbers.kept.is_gap, at.numbers.is_low, at.numbers.is_high)

  grain : split.den * split.gap ≡ speed_den level * (at.high.speed - at.low.speed)
  grain = ap (λ n. n * split.gap) at.numbers.is_den ∙ ap (λ n. speed_den level * n) gap

  some_grain : 1 ≤ split.den * split.gap
  some_grain = mul-pos at.numbers.kept.some_den at.numbers.kept.some_gap

  -- by whether the slower point is the idle one
  slow_dens : (low : ℕ) → low ≡ split.low → All (HasSplitDenominators level (at.high.speed - at.low.speed) at.low.speed) slow
  slow_dens zero idle =
      subst (λ (xs : List WrittenSlot). All (HasSplitDenominators level (at.high.speed - at.low.speed) at.low.speed) xs)
      (sym (no_slow split stretch at.numbers.kept (sym idle) shares full)) (All-nil (HasSplitDenominators level (at.high.speed - at.low.speed) at.low.speed))
  slow_dens (suc low) runs =
      let kept = at.numbers.kept in
      let plain : max split.low 1 ≡ split.low = omega (arith, runs) in
      dens_after level (at.high.speed - at.low.speed) at.low.speed (slow_course split stretch) stretch shares
      (kept.slow.is_den ∙ ap (λ n. n * common_multiple (max split.low 1) split.gap) at.numbers.is_den
      ∙ ap (λ n. speed_den level * common_multiple n split.gap) (plain ∙ at.numbers.is_low) ∙ ap (λ n. speed_den level * common_multiple at.low.speed n) gap) grain

  splits : SplitsStretch (hull_of points) level stretch here (cut_slots split stretch shares)
  splits =
      let is = at.numbers in
      let kept = is.kept in
      let solid : All IsSolid here = row_solid (record { stretch = stretch; pace = Some (pace_of_level level); shares = shares }) held.fills in
      record {
        low = at.low;
        high = at.high;
        around = at.around;
        fast = fast;
        slow = slow;
        parts = refl;
        split = record {
          solid = All-append IsSolid (here ++ fast) slow
              (All-append IsSolid here fast solid (solid_after (fast_course split stretch) stretch shares kept.fast.some some_grain))
              (solid_after (slow_course split stretch) stretch shares kept.slow.some some_grain);
          holds = λ scale divided.
              let front = scale_left scale (here ++ fast) slow divided in
              split_at level at.low at.high split stretch shares scale is held.some_length held.fills.own.is_stretch.has_length divided.positive full held.apart
              held.fills.some (scale_left scale here fast front).divided (scale_right scale here fast front).divided
              (scale_right scale (here ++ fast) slow divided).divided;
        };
        fast_once = λ number. omega (arith, count_after (fast_course split stretch) stretch 0 shares number, count_once (share_jobs shares) held.apart number);
        slow_once = λ number. omega (arith, count_after (slow_course split stretch) stretch 0 shares number, count_once (share_jobs shares) held.apart number);
        fast_denominators = dens_after level (at.high.speed - at.low.speed) at.high.speed (fast_course split stretch) stretch shares
            (kept.fast.is_den ∙ ap (λ n. n * common_multiple split.high split.gap) is.is_den ∙ ap (λ n. speed_den level * common_multiple n split.gap) is.is_high
            ∙ ap (λ n. speed_den level * common_multiple at.high.speed n) gap) grain;
        slow_denominators = slow_dens split.low refl;
      }

-- # One stretch

-- the slots of a stretch at its level's speed
abbrev pub level_slots : Level → Piece → List JobShare → List WrittenSlot
level_slots level stretch shares = slots_from (pace_of_level level) stretch.from 0 shares

pub rounds_by : (points : List Point) (levels : List Level) (level : Level) (split : Option Split) (stretch : Piece) (shares : List JobShare) →
    RunsAs points level split → IsHeld levels level stretch shares →
    RoundsStretch (hull_of points) levels stretch (level_slots level stretch shares) (written_at stretch shares (level_slots level stretch shares) split)
rounds_by points levels level None stretch shares at held =
    inr (
      level,
      held.has,
      jobs_planned (λ job. Contains level.members job) (pace_of_level level) stretch.from 0 shares held.members,
      inl (record { at_point = at; kept = refl }),
    )
rounds_by points levels level (Some split) stretch shares at held =
    inr (
      level,
      held.has,
      jobs_planned (λ job. Contains level.members job) (pace_of_level level) stretch.from 0 shares held.members,
      inr (splits points levels level split stretch shares at held),
    )

-- the denominator of a level's works
abbrev pub pace_grain : Level → Option Split → ℕ
pace_grain level None = speed_den level
pace_grain level (Some split) = split.den * split.gap

-- the plan's works are over that of the speed
pub over_planned : (levels : List Level) (level : Level) (stretch : Piece) (shares : List JobShare) → IsHeld levels level stretch shares →
    All (WorksOver (speed_den level)) (level_slots level stretch shares)
over_planned levels level stretch shares held =
    row_over (speed_den level) (record { stretch = stretch; pace = Some (pace_of_level level); shares = shares }) held.fills refl

pub over_by : (levels : List Level) (level : Level) (split : Option Split) (stretch : Piece) (shares : List JobShare) → IsHeld levels level stretch shares →
    All (WorksOver (pace_grain level split)) (written_at stretch shares (level_slots level stretch shares) split)
over_by levels level None stretch shares held = over_planned levels level stretch shares held
over_by levels level (Some split) stretch shares held = cut_over split stretch shares

-- of jobs of the plan alone
pub jobs_by : (P : ℕ → Type 0) (level : Level) (split : Option Split) (stretch : Piece) (shares : List JobShare) → All P (share_jobs shares) →
    All (λ slot. P slot.job) (written_at stretch shares (level_slots level stretch shares) split)
jobs_by P level None stretch shares each = jobs_planned P (pace_of_level level) stretch.from 0 shares each
jobs_by P level (Some split) stretch shares each =
    All-append (λ slot. P slot.job) (slots_after (fast_course split stretch) stretch 0 shares) (slots_after (slow_course split stretch) stretch 0 shares)
    (jobs_after P (fast_course split stretch) stretch 0 shares each) (jobs_after P (slow_course split stretch) stretch 0 shares each)

-- at most one slot more than the plan has
pub more_by : (points : List Point) (level : Level) (split : Option Split) (stretch : Piece) (shares : List JobShare) → RunsAs points level split →
    length (written_at stretch shares (level_slots level stretch shares) split) ≤ length (level_slots level stretch shares) + 1
more_by points level None stretch shares at = omega arith
more_by points level (Some split) stretch shares at = omega (
  arith,
  one_more split stretch at.numbers.kept.some_gap 0 shares,
  length_from (pace_of_level level) stretch.from 0 shares,
  length-append (slots_after (fast_course split stretch) stretch 0 shares) (slots_after (slow_course split stretch) stretch 0 shares),
)

-- the slots can be put after others
pub can_round_by : (points : List Point) (levels : List Level) (level : Level) (split : Option Split) (stretch : Piece) (jobs : ℕ) (before : List WrittenSlot)
    (shares : List JobShare) → RunsAs points level split → IsHeld levels level stretch shares → All (λ job. job < jobs) (share_jobs shares) →
    All (λ job. FitsJob (pace_grain level split) before job) (share_jobs shares) → length before + 2 * length shares ≤ MAX_SLOTS →
    CanRound split stretch jobs before shares (level_slots level stretch shares)
can_round_by points levels level None stretch jobs before shares at held known fits room = record {
  grain = speed_den level;
  works = over_planned levels level stretch shares held;
  known = jobs_planned (λ job. job < jobs) (pace_of_level level) stretch.from 0 shares known;
  grains = jobs_planned (λ job. FitsJob (speed_den level) before job) (pace_of_level level) stretch.from 0 shares fits;
  room = omega (arith, room, length_from (pace_of_level level) stretch.from 0 shares);
}
can_round_by points levels level (Some split) stretch jobs before shares at held known fits room = (
  at.numbers.kept,
  record {
    full = full_of level at.low at.high split stretch shares at.numbers held.fills;
    works = subst (λ (n : ℕ). All (λ (share : JobShare). share.units ≤ n * MAX_SLOT_WORK) shares) (sym at.numbers.is_den) held.fills.works;
    known = jobs_back (λ job. job < jobs) shares known;
    grains = jobs_back (λ job. FitsJob (split.den * split.gap) before job) shares fits;
    room = room;
  },
)
