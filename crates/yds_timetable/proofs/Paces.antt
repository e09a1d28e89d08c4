-- The slots of shares that fill a stretch at a pace, at a scale and as they are written.
use Rattle.yds_model.proofs.Common.{◌≡◌, ℕ, ◌+◌, ◌-◌, ◌*◌, ◌<◌, ◌≤◌, List, [], ◌∷◌, ◌∙◌, refl, sym, subst, arith, inl, inr, ap, sum_by, All, AllZip, All-nil, All-cons, All-head, All-tail, sum_by-cons, eq_of_mul-eq-mul_left, le_of_mul-le-mul_right, lt_of_mul-lt-mul_right, mul-le-mul_right, mul-pos, mul-sub, le_refl, Fraction, at_scale, numerator, of_whole, of_parts, WrittenSlot, WholeSlot, IsDivided, IsSolid, slot_at_scale, slots_at, Piece, RunFrom, LiesIn, LiesWritten, HasSpeed, FillsAtSpeed}
use Rattle.fraction_lemmas.proofs.Fractions.{factors}
use Rattle.yds_model.specs.Plan.{IsOver}
use Rattle.yds_slots.proofs.WorkParts.{of_parts_at, of_parts_over, of_parts_value}
use Rattle.yds_events.specs.Stretch.{length_of}
use Rattle.yds_timetable.specs.declared.pace.Pace.{Pace}
use Rattle.yds_timetable.specs.Shares.{JobShare, total_units}
use Rattle.yds_timetable.specs.Pace.{time_after, slot_of, slots_from, IsPaceOf}
use Rattle.yds_timetable.proofs.Filling.{whole_parts}

-- # In plain numbers

-- The numbers of one share: its slot runs from F/e to T/d and gets the work W/v, where K units were done before it and it has u. The
-- stretch begins at f and has the length len = L * g, its units are C = D * g.
module _ (F e T d W v f K u L D g len grain C : ℕ) (begins : F * D ≡ (f * D + K * L) * e)
    (ends : T * D ≡ (f * D + (K + u) * L) * d) (work : W * grain ≡ u * v) (some_parts : 1 ≤ D)
    (length_is : L * g ≡ len) (units_is : D * g ≡ C) (enough : K + u ≤ C) where
  begins_within : f * e ≤ F
  begins_within = le_of_mul-le-mul_right (omega (arith, begins)) some_parts

  ends_within : T ≤ (f + len) * d
  ends_within =
      let most : (K + u) * L ≤ D * len = omega (
        arith,
        mul-le-mul_right L enough,
        ap (λ n. n * L) units_is,
        ap (λ n. D * n) length_is,
      ) in
      le_of_mul-le-mul_right (omega (arith, ends, mul-le-mul_right d most)) some_parts

  at_speed : W * (grain * len) * (e * d) ≡ C * (T * e - F * d) * v
  at_speed =
      let lasts : (T * e - F * d) * D ≡ u * L * e * d = omega (
        arith,
        mul-sub D (T * e) (F * d),
        ap (λ n. n * e) ends,
        ap (λ n. n * d) begins,
      ) in
      omega (
        arith,
        ap (λ n. n * (len * e * d)) work,
        ap (λ n. u * v * e * d * n) length_is,
        ap (λ n. n * g * v) lasts,
        ap (λ n. n * (T * e - F * d) * v) units_is,
      )

-- at a scale it takes time
forward : (a b scale f K u L D : ℕ) → a * D ≡ (f * D + K * L) * scale → b * D ≡ (f * D + (K + u) * L) * scale → 1 ≤ scale → 1 ≤ L → 1 ≤ u → a < b
forward a b scale f K u L D begins ends some_scale some_length some_units =
    lt_of_mul-lt-mul_right D (omega (arith, begins, ends, mul-pos (mul-pos some_units some_length) some_scale))

-- and the speed is that in time units
scaled_speed : (a b w scale per C : ℕ) → 1 ≤ scale → w * per * (scale * scale) ≡ C * (b * scale - a * scale) * scale → w * (per * scale) ≡ scale * C * (b - a)
scaled_speed a b w scale per C some is =
    let same : b * scale - a * scale ≡ scale * (b - a) = omega (arith, mul-sub scale b a) in
    lesser (b - a) (is ∙ ap (λ n. C * n * scale) same)
  where
    lesser : (time : ℕ) → w * per * (scale * scale) ≡ C * (scale * time) * scale → w * (per * scale) ≡ scale * C * time
    lesser time whole = eq_of_mul-eq-mul_left scale some _ _ (omega (arith, whole))

-- # One share

-- at a scale: the slot lies in the stretch, takes time, and runs at the speed units / (grain * length), by cross products
pub record RunsIn (scale : ℕ) (stretch : Piece) (units grain : ℕ) (slot : WholeSlot) : Type 0 where
  pub lies_in : LiesIn scale slot stretch
  pub forward : slot.from < slot.to
  pub speed : slot.work * (grain * length_of stretch * scale) ≡ scale * units * (slot.to - slot.from)

-- the slot gives the share's units to its job, within the stretch
pub record IsFor (stretch : Piece) (grain : ℕ) (share : JobShare) (slot : WrittenSlot) : Type 0 where
  pub job : slot.job ≡ share.job
  pub work : slot.work ≡ of_parts share.units grain
  pub lies_in : (scale : ℕ) → 1 ≤ scale → IsDivided scale slot → LiesIn scale (slot_at_scale scale slot) stretch

module _ (pace : Pace) (stretch : Piece) (all : ℕ) (is : IsPaceOf pace stretch all) where
  some_time : 1 ≤ pace.time
  some_time = (factors pace.time is.times (length_of stretch) is.length_is (omega (arith, is.is_stretch.has_length))).0

  pub some_times : 1 ≤ is.times
  some_times = (factors pace.time is.times (length_of stretch) is.length_is (omega (arith, is.is_stretch.has_length))).1

  to_is : stretch.to ≡ stretch.from + length_of stretch
  to_is = omega (arith, is.is_stretch.has_length)

  -- the last share ends with the stretch
  pub time_ends : time_after pace stretch.from all ≡ of_whole stretch.to
  time_ends =
      let last : stretch.from * pace.units + all * pace.time ≡ stretch.to * pace.units = omega (
        arith,
        ap (λ n. n * pace.units) to_is,
        ap (λ n. n * pace.time) is.units_is,
        ap (λ n. pace.units * n) is.length_is,
      ) in
      ap (λ n. of_parts n pace.units) last ∙ whole_parts stretch.to pace.units is.some_units

  module _ (done : ℕ) (share : JobShare) (some : 1 ≤ share.units) (enough : done + share.units ≤ all) where
    abbrev slot : WrittenSlot
    slot = slot_of pace stretch.from done share

    pub runs : (scale : ℕ) → 1 ≤ scale → IsDivided scale slot → RunsIn scale stretch all pace.grain (slot_at_scale scale slot)
    runs scale positive divided =
        let begins = of_parts_at scale (stretch.from * pace.units + done * pace.time) pace.units divided.from in
        let ends = of_parts_at scale (stretch.from * pace.units + (done + share.units) * pace.time) pace.units divided.to in
        let work = of_parts_at scale share.units pace.grain divided.work in
        record {
          lies_in = record {
            from = begins_within _ scale _ scale _ scale _ _ _ _ _ is.times _ _ _ begins ends work is.some_units is.length_is is.units_is enough;
            to = subst (λ n. at_scale scale slot.to ≤ n * scale) (sym to_is)
                (ends_within _ scale _ scale _ scale _ _ _ _ _ is.times _ _ _ begins ends work is.some_units is.length_is is.units_is enough);
          };
          forward = forward _ _ scale _ _ _ _ _ begins ends positive some_time some;
          speed = scaled_speed _ _ _ scale _ all positive
              (at_speed _ scale _ scale _ scale _ _ _ _ _ is.times _ _ _ begins ends work is.some_units is.length_is is.units_is enough);
        }

    pub is_for : IsFor stretch pace.grain share slot
    is_for = record { job = refl; work = refl; lies_in = λ scale positive divided. (runs scale positive divided).lies_in }

    -- its denominators are at least 1
    pub solid : IsSolid slot
    solid = record {
      from = some_den pace.units slot.from is.some_units (of_parts_over (stretch.from * pace.units + done * pace.time) pace.units);
      to = some_den pace.units slot.to is.some_units (of_parts_over (stretch.from * pace.units + (done + share.units) * pace.time) pace.units);
      work = some_den pace.grain slot.work is.some_grain (of_parts_over share.units pace.grain);
    } where
      some_den : (den : ℕ) (x : Fraction) → 1 ≤ den → IsOver den x → 1 ≤ x.den
      some_den den x some (inl whole) = omega (arith, ap (λ (one : Fraction). one.den) whole)
      some_den den x some (inr same) = omega (arith, same)

    -- as it is written, it lies in the stretch and has its speed
    begins : numerator slot.from * pace.units ≡ (stretch.from * pace.units + done * pace.time) * slot.from.den
    begins = of_parts_value (stretch.from * pace.units + done * pace.time) pace.units

    ends : numerator slot.to * pace.units ≡ (stretch.from * pace.units + (done + share.units) * pace.time) * slot.to.den
    ends = of_parts_value (stretch.from * pace.units + (done + share.units) * pace.time) pace.units

    work : numerator slot.work * pace.grain ≡ share.units * slot.work.den
    work = of_parts_value share.units pace.grain

    pub lies_written : LiesWritten slot stretch
    lies_written = record {
      from = begins_within _ _ _ _ _ _ _ _ _ _ _ is.times _ _ _ begins ends work is.some_units is.length_is is.units_is enough;
      to = subst (λ n. numerator slot.to ≤ n * slot.to.den) (sym to_is)
          (ends_within _ _ _ _ _ _ _ _ _ _ _ is.times _ _ _ begins ends work is.some_units is.length_is is.units_is enough);
    }

    pub speed_written : HasSpeed all (pace.grain * length_of stretch) slot
    speed_written = at_speed _ _ _ _ _ _ _ _ _ _ _ is.times _ _ _ begins ends work is.some_units is.length_is is.units_is enough

  -- # All of them

  -- what holds of the slot of each share that fits
  pub each_slot : (P : WrittenSlot → Type 0) →
      ((done : ℕ) (share : JobShare) → 1 ≤ share.units → done + share.units ≤ all → P (slot_of pace stretch.from done share)) →
      (done : ℕ) (shares : List JobShare) → All (λ share. 1 ≤ share.units) shares → done + total_units shares ≤ all →
      All P (slots_from pace stretch.from done shares)
  each_slot P one done [] some enough = All-nil P
  each_slot P one done (share ∷ shares) some enough =
      let more = sum_by-cons (λ (s : JobShare). s.units) share shares in
      All-cons P (slot_of pace stretch.from done share) (slots_from pace stretch.from (done + share.units) shares)
      (one done share (some 0 share (omega arith)) (omega (arith, enough, more)))
      (each_slot P one (done + share.units) shares (All-tail (λ s. 1 ≤ s.units) share shares some) (omega (arith, enough, more)))

  -- what holds of each share that fits and its slot
  pub each_pair : (R : JobShare → WrittenSlot → Type 0) →
      ((done : ℕ) (share : JobShare) → 1 ≤ share.units → done + share.units ≤ all → R share (slot_of pace stretch.from done share)) →
      (done : ℕ) (shares : List JobShare) → All (λ share. 1 ≤ share.units) shares → done + total_units shares ≤ all →
      AllZip R shares (slots_from pace stretch.from done shares)
  each_pair R one done [] some enough = tt
  each_pair R one done (share ∷ shares) some enough =
      let more = sum_by-cons (λ (s : JobShare). s.units) share shares in (
        one done share (some 0 share (omega arith)) (omega (arith, enough, more)),
        each_pair R one (done + share.units) shares (All-tail (λ s. 1 ≤ s.units) share shares some) (omega (arith, enough, more)),
      )

  module _ (scale : ℕ) (positive : 1 ≤ scale) where
    -- they run one after another
    pub slots_run : (done : ℕ) (shares : List JobShare) → All (λ share. 1 ≤ share.units) shares → done + total_units shares ≤ all →
        All (IsDivided scale) (slots_from pace stretch.from done shares) →
        RunFrom (at_scale scale (time_after pace stretch.from done)) (slots_at scale (slots_from pace stretch.from done shares))
    slots_run done [] some enough divided = tt
    slots_run done (share ∷ shares) some enough divided =
        let more = sum_by-cons (λ (s : JobShare). s.units) share shares in
        let rest = slots_from pace stretch.from (done + share.units) shares in (
          le_refl (at_scale scale (time_after pace stretch.from done)),
          (runs done share (some 0 share (omega arith)) (omega (arith, enough, more)) scale positive
              (All-head (IsDivided scale) (slot_of pace stretch.from done share) rest divided)).forward,
          slots_run (done + share.units) shares (All-tail (λ s. 1 ≤ s.units) share shares some) (omega (arith, enough, more))
              (All-tail (IsDivided scale) (slot_of pace stretch.from done share) rest divided),
        )

    -- and fill the time until the last one ends, at the stretch's speed
    pub slots_fill : (done : ℕ) (shares : List JobShare) → All (λ share. 1 ≤ share.units) shares → done + total_units shares ≤ all →
        All (IsDivided scale) (slots_from pace stretch.from done shares) →
        FillsAtSpeed (scale * all) (pace.grain * length_of stretch * scale) (at_scale scale (time_after pace stretch.from done))
        (at_scale scale (time_after pace stretch.from (done + total_units shares))) (slots_at scale (slots_from pace stretch.from done shares))
    slots_fill done [] some enough divided =
        let same : done ≡ done + 0 = omega arith in ap (λ n. at_scale scale (time_after pace stretch.from n)) same
    slots_fill done (share ∷ shares) some enough divided =
        let more = sum_by-cons (λ (s : JobShare). s.units) share shares in
        let rest = slots_from pace stretch.from (done + share.units) shares in
        let last : done + share.units + total_units shares ≡ done + total_units (share ∷ shares) = omega (arith, more) in (
          refl,
          (runs done share (some 0 share (omega arith)) (omega (arith, enough, more)) scale positive
              (All-head (IsDivided scale) (slot_of pace stretch.from done share) rest divided)).speed,
          subst (λ (n : ℕ). FillsAtSpeed (scale * all) (pace.grain * length_of stretch * scale) (at_scale scale (time_after pace stretch.from (done + share.units)))
              (at_scale scale (time_after pace stretch.from n)) (slots_at scale rest)) last
              (slots_fill (done + share.units) shares (All-tail (λ s. 1 ≤ s.units) share shares some) (omega (arith, enough, more))
              (All-tail (IsDivided scale) (slot_of pace stretch.from done share) rest divided)),
        )

-- the work of slots at a scale, in units
pub slots_work : (pace : Pace) (start scale done : ℕ) (shares : List JobShare) → All (IsDivided scale) (slots_from pace start done shares) →
    pace.grain * sum_by (λ slot. slot.work) (slots_at scale (slots_from pace start done shares)) ≡ scale * total_units shares
slots_work pace start scale done [] divided = omega arith
slots_work pace start scale done (share ∷ shares) divided =
    let slot = slot_of pace start done share in
    let rest = slots_from pace start (done + share.units) shares in
    omega (
      arith,
      of_parts_at scale share.units pace.grain (All-head (IsDivided scale) slot rest divided).work,
      slots_work pace start scale (done + share.units) shares (All-tail (IsDivided scale) slot rest divided),
      ap (λ n. pace.grain * n) (sum_by-cons (λ (s : WholeSlot). s.work) (slot_at_scale scale slot) (slots_at scale rest)),
      ap (λ n. scale * n) (sum_by-cons (λ (s : JobShare). s.units) share shares),
    )
