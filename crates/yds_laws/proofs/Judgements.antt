-- What the judgement 'accepted' says: that the certificate is proper.
use Rattle.yds_model.proofs.Common.{◌≡◌, ℕ, ◌-◌, ◌*◌, ◌<◌, ◌≤◌, List, length, ap, subst, sym, arith, ◌↔◌, Contains, mul-sub, mul-pos, at_scale, numerator, WrittenSlot, WholeSlot, IsDivided, IsScale, slots_at, no_written_slot, written_slot_at, Level, level_at, HasLevelSpeed, crossed_length, HasWrittenSpeed}
use Rattle.fraction_lemmas.proofs.Fractions.{den_positive, value-den, multiple_over, tied_equality}
use Rattle.model_lemmas.proofs.Scale.{scale_exists}
use Rattle.model_lemmas.proofs.Runs.{slot_read}
use Rattle.model_lemmas.proofs.Verdicts.{verdict_is_exact}
use Rattle.yds_laws.specs.Laws.{JudgementIsExact}

-- a slot's length at a scale, over the denominators `d` and `e` of its ends `u` and `v`
crossed_scaled : (u v a b d e scale : ℕ) → u * d ≡ a * scale → v * e ≡ b * scale → (v - u) * (d * e) ≡ (b * d - a * e) * scale
crossed_scaled u v a b d e scale f g =
    omega (arith, mul-sub (d * e) v u, mul-sub scale (b * d) (a * e), ap (λ n. n * e) f, ap (λ n. n * d) g)

-- a slot's work times the level's length, over all three denominators
work_over : (w c f g scale long : ℕ) → w * f ≡ c * scale → w * long * (g * f) ≡ c * long * g * scale
work_over w c f g scale long e = omega (arith, ap (λ n. n * (long * g)) e)

-- a slot has a level's speed by cross products exactly where it has it at a scale
pub speed_of_values : (all long scale : ℕ) (slot : WrittenSlot) → 1 ≤ scale → IsDivided scale slot →
    ((numerator slot.work * long * (slot.from.den * slot.to.den) ≡ all * crossed_length slot.from slot.to * slot.work.den)
    ↔ (at_scale scale slot.work * long ≡ all * (at_scale scale slot.to - at_scale scale slot.from)))
speed_of_values all long scale slot positive divided =
    let ends = slot.from.den * slot.to.den in
    tied_equality (numerator slot.work * long * ends) (all * crossed_length slot.from slot.to * slot.work.den) (ends * slot.work.den) scale
    (at_scale scale slot.work * long) (all * (at_scale scale slot.to - at_scale scale slot.from)) positive
    (mul-pos (mul-pos (den_positive scale slot.from.den positive divided.from) (den_positive scale slot.to.den positive divided.to))
    (den_positive scale slot.work.den positive divided.work))
    (work_over (at_scale scale slot.work) (numerator slot.work) slot.work.den ends scale long (value-den scale slot.work divided.work))
    (multiple_over all (at_scale scale slot.to - at_scale scale slot.from) (crossed_length slot.from slot.to) ends slot.work.den scale
    (crossed_scaled (at_scale scale slot.from) (at_scale scale slot.to) (numerator slot.from) (numerator slot.to) slot.from.den slot.to.den scale
    (value-den scale slot.from divided.from) (value-den scale slot.to divided.to)))

-- the slot has the speeds of its job's levels
abbrev HasSpeeds : List Level → WholeSlot → Type 0
HasSpeeds levels slot = (i : ℕ) → i < length levels → Contains (level_at levels i).members slot.job →
    slot.work * (level_at levels i).length ≡ (level_at levels i).work * (slot.to - slot.from)

-- a written slot that has them has them at a scale
pub speeds_at_scale : (levels : List Level) (slots : List WrittenSlot) (scale : ℕ) → IsScale scale slots → (s : ℕ) → s < length slots →
    HasWrittenSpeed levels slots s → HasLevelSpeed levels (slots_at scale slots) s
speeds_at_scale levels slots scale is s within has =
    subst (HasSpeeds levels) (sym (slot_read scale slots s within))
    (λ i inside member.
    (speed_of_values (level_at levels i).work (level_at levels i).length scale (written_slot_at slots s) is.positive
    (is.divided s no_written_slot within)).0 (has i inside member))

-- and back
speeds_written : (levels : List Level) (slots : List WrittenSlot) (scale : ℕ) → IsScale scale slots → (s : ℕ) → s < length slots →
    HasLevelSpeed levels (slots_at scale slots) s → HasWrittenSpeed levels slots s
speeds_written levels slots scale is s within has i inside member =
    (speed_of_values (level_at levels i).work (level_at levels i).length scale (written_slot_at slots s) is.positive
    (is.divided s no_written_slot within)).1 (subst (HasSpeeds levels) (slot_read scale slots s within) has i inside member)

-- the other conditions are the same on both sides
pub judgement_is_exact : JudgementIsExact
judgement_is_exact jobs slots levels are are_levels = (
  λ accepted. record {
    well_formed = are_levels;
    feasible = (verdict_is_exact jobs slots are).0 accepted.0.0.0.0.0.0;
    pieces = accepted.0.0.0.0.0.1;
    members = accepted.0.0.0.0.1;
    sums = accepted.0.0.0.1;
    order = accepted.0.0.1;
    windows = accepted.0.1;
    speeds = λ scale is s within. speeds_at_scale levels slots scale is s within (accepted.1 s within);
  },
  λ proper.
      let some = scale_exists slots are.solid in (
        ((((((verdict_is_exact jobs slots are).1 proper.feasible, proper.pieces), proper.members), proper.sums), proper.order), proper.windows),
        λ s within. speeds_written levels slots some.0 some.1 s within (proper.speeds some.0 some.1 s within),
      ),
)
