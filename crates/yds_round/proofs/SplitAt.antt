-- A stretch that is cut is split as the definition says, at each scale.
use Rattle.yds_model.proofs.Common.{◌≡◌, ℕ, zero, suc, ◌+◌, ◌-◌, ◌*◌, ◌<◌, ◌≤◌, min, max, List, [], refl, sym, ap, ◌∙◌, subst, arith, inl, inr, All, cases_lt, mul-pos, mul-le-mul_right, le_of_mul-le-mul_right, eq_of_mul-eq-mul_right, common_divisor, common_multiple, IsDivided, slots_at, Piece, Level, Point, speed_num, RunsAtPoint, RunsOn, IsSplitAt}
use Rattle.yds_energy.proofs.PlanParts.{given_joined}
use Rattle.yds_events.specs.Stretch.{length_of}
use Rattle.yds_timetable.specs.Shares.{JobShare, total_units}
use Rattle.yds_timetable.specs.Pace.{slots_from}
use Rattle.yds_plan.specs.Timetabled.{pace_of_level}
use Rattle.yds_round.specs.declared.split.Split.{Split}
use Rattle.yds_round.specs.Split.{IsSplit, IsSplitOf}
use Rattle.yds_round.specs.Written.{all_units, surplus_of, turn, fast_course, slow_course, slots_after}
use Rattle.yds_round.proofs.Splits.{work_over, length_over}
use Rattle.yds_round.proofs.Turns.{fast_before, fast_after, slow_before, slow_after, surplus_done, slow_switch_within}
use Rattle.yds_round.proofs.Cuts.{none_slow}
use Rattle.yds_round.proofs.Courses.{RunsAt, runs_after}
use Rattle.yds_round.proofs.Shares.{same_given, fast_rises, slow_rises}
use Rattle.yds_round.proofs.InTurn.{AreApart, DoesWork, share_jobs, turns_cut, turns_planned}

-- nothing is done at first
nothing_before : (surplus step : ℕ) → (0 - surplus) * step ≡ 0
nothing_before surplus step = grind arith

module _ (split : Split) (stretch : Piece) (kept : IsSplit split) where
  -- # The two parts run at their points' speeds

  fast_pace : (units : ℕ) → split.high * (split.den * split.gap) * min (units * split.fast.step) (surplus_of split stretch * split.fast.switch) + 0
      ≡ min (units * split.gap) (turn split stretch) * split.fast.den
  fast_pace units = elim (cases_lt (turn split stretch) (units * split.gap)) [
    | inl after ↦
        let late : turn split stretch ≤ units * split.gap = omega (arith, after) in
        let time : min (units * split.fast.step) (surplus_of split stretch * split.fast.switch) ≡ surplus_of split stretch * split.fast.switch =
        omega (arith, fast_after split stretch kept units late) in
        let work : min (units * split.gap) (turn split stretch) ≡ turn split stretch = omega (arith, after) in
        rw (time, work) (omega (
          arith,
          ap (λ n. split.high * split.den * surplus_of split stretch * n) kept.fast.is_switch,
          ap (λ n. split.high * surplus_of split stretch * n) kept.fast.is_den,
        ))
    | inr before ↦
        let time : min (units * split.fast.step) (surplus_of split stretch * split.fast.switch) ≡ units * split.fast.step =
        omega (arith, fast_before split stretch kept units before) in
        let work : min (units * split.gap) (turn split stretch) ≡ units * split.gap = omega (arith, before) in
        rw (time, work) (omega (
          arith,
          ap (λ n. split.den * split.gap * units * n) kept.fast.is_step,
          ap (λ n. units * split.gap * n) kept.fast.is_den,
        ))
  ]

  some_high : 1 ≤ split.high
  some_high = omega (arith, kept.is_gap, kept.some_gap)

  fast_runs : (most : ℕ) → RunsAt (fast_course split stretch) split.high most 0
  fast_runs most = grind (arith, fast_pace, fast_rises, mul-pos, some_high)

  slow_pace : 1 ≤ split.low → (units : ℕ) → units ≤ all_units split stretch →
      split.low * (split.den * split.gap) * max ((units - surplus_of split stretch) * split.slow.step) (surplus_of split stretch * split.slow.switch)
      + split.gap * surplus_of split stretch * split.slow.den ≡ max (units * split.gap) (turn split stretch) * split.slow.den
  slow_pace some units within = elim (cases_lt (turn split stretch) (units * split.gap)) [
    | inl after ↦
        let time : max ((units - surplus_of split stretch) * split.slow.step) (surplus_of split stretch * split.slow.switch)
        ≡ (units - surplus_of split stretch) * split.slow.step = omega (arith, slow_after split stretch kept units within after) in
        let work : max (units * split.gap) (turn split stretch) ≡ units * split.gap = omega (arith, after) in
        let plain : max split.low 1 ≡ split.low = omega (arith, some) in
        let step : split.slow.step * split.low ≡ common_multiple (max split.low 1) split.gap = ap (λ n. split.slow.step * n) (sym plain) ∙ kept.slow.is_step in
        let parts : units ≡ surplus_of split stretch + (units - surplus_of split stretch) = omega (arith, surplus_done split stretch kept units within after) in
        rw (time, work) (omega (
          arith,
          ap (λ n. split.den * split.gap * (units - surplus_of split stretch) * n) step,
          ap (λ n. split.gap * (units - surplus_of split stretch) * n) kept.slow.is_den,
          ap (λ n. split.gap * n * split.slow.den) parts,
        ))
    | inr before ↦
        let time : max ((units - surplus_of split stretch) * split.slow.step) (surplus_of split stretch * split.slow.switch) ≡ surplus_of split stretch * split.slow.switch =
        omega (arith, slow_before split stretch kept units before) in
        let work : max (units * split.gap) (turn split stretch) ≡ turn split stretch = omega (arith, before) in
        rw (time, work) (omega (
          arith,
          ap (λ n. split.low * split.den * surplus_of split stretch * n) kept.slow.is_switch,
          ap (λ n. split.low * surplus_of split stretch * n) kept.slow.is_den,
          ap (λ n. n * surplus_of split stretch * split.slow.den) kept.is_gap,
        ))
  ]

  slow_runs : 1 ≤ split.low → RunsAt (slow_course split stretch) split.low (all_units split stretch) (split.gap * surplus_of split stretch * split.slow.den)
  slow_runs some = grind (arith, mul-pos, slow_pace, slow_rises)

  -- # The switch, in plain numbers at a scale

  -- all work is beyond the switch
  all_parts : all_units split stretch ≡ surplus_of split stretch + split.low * (split.den * length_of stretch)
  all_parts = omega arith

  turned : turn split stretch ≤ all_units split stretch * split.gap
  turned =
      let some : split.surplus ≤ split.den * split.gap = omega (arith, kept.below_high) in
      omega (
        arith,
        ap (λ n. n * surplus_of split stretch) kept.is_gap,
        ap (λ n. n * split.gap) all_parts,
        mul-le-mul_right (split.low * length_of stretch) some,
      )

  fast_last : (fast_course split stretch).time (all_units split stretch) ≡ surplus_of split stretch * split.fast.switch
  fast_last = omega (arith, fast_after split stretch kept (all_units split stretch) turned)

  slow_first : (slow_course split stretch).time 0 ≡ surplus_of split stretch * split.slow.switch
  slow_first = grind (arith, max, nothing_before)

  fast_first : (fast_course split stretch).time 0 ≡ 0
  fast_first = grind (arith, min)

  slow_last : 1 ≤ split.low → (slow_course split stretch).time (all_units split stretch) ≡ split.slow.den * length_of stretch
  slow_last some =
      let plain : max split.low 1 ≡ split.low = omega (arith, some) in
      let step : split.slow.step * split.low ≡ common_multiple (max split.low 1) split.gap = ap (λ n. split.slow.step * n) (sym plain) ∙ kept.slow.is_step in
      let rest : all_units split stretch - surplus_of split stretch ≡ split.low * (split.den * length_of stretch) = omega (arith, all_parts) in
      let time : (all_units split stretch - surplus_of split stretch) * split.slow.step ≡ split.slow.den * length_of stretch = omega (
        arith,
        ap (λ n. n * split.slow.step) rest,
        ap (λ n. split.den * length_of stretch * n) step,
        ap (λ n. n * length_of stretch) kept.slow.is_den,
      ) in
      omega (arith, time, slow_switch_within split stretch kept)

  module _ (scale switch : ℕ) (positive : 1 ≤ scale)
      (ends : switch * split.fast.den ≡ (stretch.from * split.fast.den + surplus_of split stretch * split.fast.switch) * scale) where
    -- the switch is after the start
    pub switch_after : stretch.from * scale ≤ switch
    switch_after = le_of_mul-le-mul_right {k = split.fast.den} (omega (arith, ends)) kept.fast.some

    time : ℕ
    time = switch - stretch.from * scale

    -- so long after the start, times the denominator of the level's speed and the gap
    pub switch_time : (switch - stretch.from * scale) * (split.den * split.gap) ≡ surplus_of split stretch * scale
    switch_time =
        let parts : switch ≡ stretch.from * scale + (switch - stretch.from * scale) = omega (arith, switch_after) in
        let multiple : 1 ≤ common_multiple split.high split.gap = some_multiple split.den (common_multiple split.high split.gap) (omega (arith, kept.fast.some, kept.fast.is_den)) in
        eq_of_mul-eq-mul_right (common_multiple split.high split.gap) multiple _ (surplus_of split stretch * scale) (omega (
          arith,
          ap (λ n. n * split.gap) ends,
          ap (λ n. n * split.fast.den * split.gap) parts,
          ap (λ n. (switch - stretch.from * scale) * n * split.gap) kept.fast.is_den,
          ap (λ n. surplus_of split stretch * scale * n) kept.fast.is_switch,
        ))
      where
        -- a product that isn't 0 has no factor 0
        some_multiple : (a b : ℕ) → 1 ≤ a * b → 1 ≤ b
        some_multiple a zero some = omega (arith, some)
        some_multiple a (suc b) some = omega arith

    -- the same in the denominator of the slower part
    pub switch_slow : switch * split.slow.den ≡ (stretch.from * split.slow.den + surplus_of split stretch * split.slow.switch) * scale
    switch_slow =
        let parts : switch ≡ stretch.from * scale + (switch - stretch.from * scale) = omega (arith, switch_after) in
        eq_of_mul-eq-mul_right split.gap kept.some_gap _ ((stretch.from * split.slow.den + surplus_of split stretch * split.slow.switch) * scale) (omega (
          arith,
          ap (λ n. n * split.slow.den * split.gap) parts,
          ap (λ n. (switch - stretch.from * scale) * n * split.gap) kept.slow.is_den,
          ap (λ n. n * common_multiple (max split.low 1) split.gap) switch_time,
          ap (λ n. surplus_of split stretch * scale * n) kept.slow.is_switch,
        ))

  -- # The slower part

  -- where the slower point is the idle one nothing runs there
  pub no_slow : split.low ≡ 0 → (shares : List JobShare) → total_units shares ≡ all_units split stretch →
      slots_after (slow_course split stretch) stretch 0 shares ≡ []
  no_slow idle shares full = grind (arith, all_parts, none_slow)

  runs_slow : (low scale switch : ℕ) (shares : List JobShare) → low ≡ split.low → 1 ≤ scale → stretch.from < stretch.to →
      total_units shares ≡ all_units split stretch →
      switch * split.slow.den ≡ (stretch.from * split.slow.den + surplus_of split stretch * split.slow.switch) * scale →
      All (IsDivided scale) (slots_after (slow_course split stretch) stretch 0 shares) →
      RunsOn low switch (stretch.to * scale) (slots_at scale (slots_after (slow_course split stretch) stretch 0 shares))
  runs_slow zero scale switch shares is positive forward full begins divided = ap (slots_at scale) (no_slow (sym is) shares full)
  runs_slow (suc low) scale switch shares is positive forward full begins divided =
      let some : 1 ≤ split.low = omega (arith, is) in
      let all : 0 + total_units shares ≡ all_units split stretch = omega (arith, full) in
      let runs = runs_after (slow_course split stretch) stretch split.low (all_units split stretch) (split.gap * surplus_of split stretch * split.slow.den) scale
      (slow_runs some) positive shares 0 switch (omega (arith, all)) (begins ∙ ap (λ n. (stretch.from * split.slow.den + n) * scale) (sym slow_first)) divided in
      let whole : stretch.to ≡ stretch.from + length_of stretch = omega (arith, forward) in
      let last : runs.end * split.slow.den ≡ (stretch.from * split.slow.den + split.slow.den * length_of stretch) * scale =
      runs.ends ∙ ap (λ n. (stretch.from * split.slow.den + (slow_course split stretch).time n) * scale) all
      ∙ ap (λ n. (stretch.from * split.slow.den + n) * scale) (slow_last some) in
      let end : runs.end ≡ stretch.to * scale =
      eq_of_mul-eq-mul_right split.slow.den kept.slow.some runs.end (stretch.to * scale) (omega (arith, last, ap (λ n. n * scale * split.slow.den) whole)) in
      subst (λ (n : ℕ). RunsAtPoint (suc low) switch n (slots_at scale (slots_after (slow_course split stretch) stretch 0 shares))) end
      (subst (λ (n : ℕ). RunsAtPoint n switch runs.end (slots_at scale (slots_after (slow_course split stretch) stretch 0 shares))) (sym is) runs.runs)

-- # The split

-- the time of the switch, by the level's work and length
level_time : (time scale work long low high den over gap length d : ℕ) → over * d ≡ work → den * d ≡ long → (surplus : ℕ) → surplus + low * den ≡ over →
    low + gap ≡ high → time * (den * gap) ≡ surplus * length * scale → time * (long * (high - low)) ≡ (work - low * long) * (length * scale)
level_time time scale work long low high den over gap length d of_work of_length surplus parts is_gap is =
    let difference : high - low ≡ gap = omega (arith, is_gap) in
    let above : work - low * long ≡ surplus * d = omega (arith, of_work, ap (λ n. n * d) parts, ap (λ n. low * n) of_length) in
    omega (
      arith,
      ap (λ n. time * (long * n)) difference,
      ap (λ n. n * (length * scale)) above,
      ap (λ n. n * d) is,
      ap (λ n. time * gap * n) of_length,
    )

-- the start in parts of a denominator
begin_at : (from den scale time : ℕ) → time ≡ 0 → from * scale * den ≡ (from * den + time) * scale
begin_at from den scale time none = omega (arith, ap (λ n. n * scale) none)

pub split_at : (level : Level) (low high : Point) (split : Split) (stretch : Piece) (shares : List JobShare) (scale : ℕ) → IsSplitOf level low high split →
    1 ≤ level.length → stretch.from < stretch.to → 1 ≤ scale → total_units shares ≡ all_units split stretch → AreApart (share_jobs shares) →
    All DoesWork shares → All (IsDivided scale) (slots_from (pace_of_level level) stretch.from 0 shares) →
    All (IsDivided scale) (slots_after (fast_course split stretch) stretch 0 shares) → All (IsDivided scale) (slots_after (slow_course split stretch) stretch 0 shares) →
    IsSplitAt scale level low high stretch (slots_at scale (slots_from (pace_of_level level) stretch.from 0 shares)) (slots_at scale (slots_after (fast_course split stretch) stretch 0 shares))
    (slots_at scale (slots_after (slow_course split stretch) stretch 0 shares))
split_at level low high split stretch shares scale is some_length forward positive full apart does divided fast_divided slow_divided =
    let kept = is.kept in
    let fast = slots_after (fast_course split stretch) stretch 0 shares in
    let slow = slots_after (slow_course split stretch) stretch 0 shares in
    let start : ℕ = stretch.from * scale in
    let all : 0 + total_units shares ≡ all_units split stretch = omega (arith, full) in
    let first : start * split.fast.den ≡ (stretch.from * split.fast.den + (fast_course split stretch).time 0) * scale =
    begin_at stretch.from split.fast.den scale ((fast_course split stretch).time 0) (fast_first split stretch kept) in
    let runs = runs_after (fast_course split stretch) stretch split.high (all_units split stretch) 0 scale (fast_runs split stretch kept (all_units split stretch)) positive
    shares 0 start (omega (arith, all)) first fast_divided in
    let ends : runs.end * split.fast.den ≡ (stretch.from * split.fast.den + surplus_of split stretch * split.fast.switch) * scale =
    runs.ends ∙ ap (λ n. (stretch.from * split.fast.den + (fast_course split stretch).time n) * scale) all
    ∙ ap (λ n. (stretch.from * split.fast.den + n) * scale) (fast_last split stretch kept) in
    let after = switch_after split stretch kept scale runs.end positive ends in
    let switch : runs.end ≡ start + (runs.end - start) = omega (arith, after) in
    let gap : split.low + split.gap ≡ split.high = kept.is_gap in
    record {
      time = runs.end - start;
      is_time = level_time (runs.end - start) scale level.work level.length low.speed high.speed split.den (speed_num level) split.gap (length_of stretch)
          (common_divisor level.work level.length) (work_over level.work level.length (common_divisor level.work level.length) some_length refl)
          (ap (λ n. n * common_divisor level.work level.length) is.is_den ∙ length_over level.work level.length (common_divisor level.work level.length) some_length refl)
          split.surplus (ap (λ n. split.surplus + low.speed * n) is.is_den ∙ is.is_surplus)
          (omega (arith, gap, is.is_low, is.is_high)) (switch_time split stretch kept scale runs.end positive ends);
      first = subst (λ (n : ℕ). RunsAtPoint high.speed start n (slots_at scale fast)) switch
          (subst (λ (n : ℕ). RunsAtPoint n start runs.end (slots_at scale fast)) is.is_high runs.runs);
      then_slow = subst (λ (n : ℕ). RunsOn low.speed n (stretch.to * scale) (slots_at scale slow)) switch
          (runs_slow split stretch kept low.speed scale runs.end shares (sym is.is_low) positive forward full (switch_slow split stretch kept scale runs.end positive ends) slow_divided);
      same_order = turns_cut split stretch kept.some_gap scale 0 shares apart does ∙ sym (turns_planned scale (pace_of_level level) stretch.from 0 shares apart);
      same_work = λ job. given_joined (slots_at scale fast) (slots_at scale slow) job
          ∙ same_given split stretch (pace_of_level level) shares scale job (sym is.is_den) kept.some_den kept.some_gap divided fast_divided slow_divided;
    }
