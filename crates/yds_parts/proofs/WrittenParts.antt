-- Written schedules of both parts: feasible and least exactly where each part is.
use Rattle.yds_model.proofs.Common.{◌≡◌, ℕ, ◌*◌, ◌<◌, ◌≤◌, List, [], ◌∷◌, ◌++◌, length, map, refl, sym, ap, subst, ◌∙◌, arith, mul_comm, All, map-append, All-append, All-map, le_of_mul-le-mul_left, Job, WrittenSlot, WholeSlot, IsDivided, IsScale, IsSolid, slot_at_scale, slots_at, IsFeasibleAt, IsLeastAt, All-front, All-back}
use Rattle.model_lemmas.proofs.Scale.{finer, finer_excess, excess_scaled, feasible_scaled, feasible_finer, one_scale_decides, scale_exists}
use Rattle.yds_laws.proofs.Bound.{scale_left, scale_right}
use Rattle.yds_energy.proofs.PlanParts.{scale_joined, scale_times}
use Rattle.yds_parts.specs.Parts.{moved, moved_written, slots_in_turn, together_at, AreOf}
use Rattle.yds_parts.specs.PartsLaws.{FeasibleInParts, LeastInParts}
use Rattle.yds_parts.proofs.TwoParts.{All-made, feasible_together, feasible_first, feasible_second, least_together, least_first, least_second}

-- # At a scale

moved_at : (n scale : ℕ) (slots : List WrittenSlot) → slots_at scale (map (moved_written n) slots) ≡ map (moved n) (slots_at scale slots)
moved_at n scale [] = refl
moved_at n scale (slot ∷ slots) = ap (λ (rest : List WholeSlot). moved n (slot_at_scale scale slot) ∷ rest) (moved_at n scale slots)

pub together_is : (scale : ℕ) (first : List Job) (slots others : List WrittenSlot) →
    slots_at scale (slots_in_turn first slots others) ≡ together_at first (slots_at scale slots) (slots_at scale others)
together_is scale first slots others =
    map-append (slot_at_scale scale) slots (map (moved_written (length first)) others)
    ∙ ap (λ (rest : List WholeSlot). slots_at scale slots ++ rest) (moved_at (length first) scale others)

-- a scale of all is one of each part
pub scale_of_first : (scale : ℕ) (first : List Job) (slots others : List WrittenSlot) → IsScale scale (slots_in_turn first slots others) → IsScale scale slots
scale_of_first scale first slots others is = scale_left scale slots (map (moved_written (length first)) others) is

pub scale_of_second : (scale : ℕ) (first : List Job) (slots others : List WrittenSlot) → IsScale scale (slots_in_turn first slots others) → IsScale scale others
scale_of_second scale first slots others is =
    let later = scale_right scale slots (map (moved_written (length first)) others) is in
    let divided = All-made (IsDivided scale) (moved_written (length first)) others later.divided in
    record { positive = is.positive; divided = λ k d within. let one = divided k d within in record { from = one.from; to = one.to; work = one.work } }

-- and the other way round
scale_of_both : (scale : ℕ) (first : List Job) (slots others : List WrittenSlot) → IsScale scale slots → IsScale scale others → IsScale scale (slots_in_turn first slots others)
scale_of_both scale first slots others one other =
    scale_joined scale slots (map (moved_written (length first)) others) one (record {
      positive = other.positive;
      divided = All-map (IsDivided scale) (moved_written (length first)) others
          (λ k d within. let divided = other.divided k d within in record { from = divided.from; to = divided.to; work = divided.work });
    })

pub solid_of_both : (first : List Job) (slots others : List WrittenSlot) → All IsSolid slots → All IsSolid others → All IsSolid (slots_in_turn first slots others)
solid_of_both first slots others one other =
    All-append IsSolid slots (map (moved_written (length first)) others) one
    (All-map IsSolid (moved_written (length first)) others
    (λ k d within. let solid = other k d within in record { from = solid.from; to = solid.to; work = solid.work }))

solid_of_second : (first : List Job) (slots others : List WrittenSlot) → All IsSolid (slots_in_turn first slots others) → All IsSolid others
solid_of_second first slots others all =
    let solid = All-made IsSolid (moved_written (length first)) others (All-back IsSolid slots (map (moved_written (length first)) others) all) in
    λ k d within. let one = solid k d within in record { from = one.from; to = one.to; work = one.work }

-- slots of the first jobs are so at a scale
known_at : (scale : ℕ) (first : List Job) (slots : List WrittenSlot) → AreOf first slots → All (λ slot. slot.job < length first) (slots_at scale slots)
known_at scale first slots are =
    All-map (λ (slot : WholeSlot). slot.job < length first) (slot_at_scale scale) slots (λ k d within. omega (arith, are k d within))

-- # Feasible

pub feasible_in_parts : FeasibleInParts
feasible_in_parts time first second slots others parted are = (
  λ all.
      let first_solid = All-front IsSolid slots (map (moved_written (length first)) others) all.solid in
      let scale = scale_exists (slots_in_turn first slots others) all.solid in
      let whole = subst (IsFeasibleAt (first ++ second) scale.0) (together_is scale.0 first slots others) (all.holds scale.0 scale.1) in
      let known = known_at scale.0 first slots are in (
        one_scale_decides first slots scale.0 (scale_of_first scale.0 first slots others scale.1)
            (feasible_first time scale.0 first second parted (slots_at scale.0 slots) (slots_at scale.0 others) known whole),
        one_scale_decides second others scale.0 (scale_of_second scale.0 first slots others scale.1)
            (feasible_second time scale.0 first second parted (slots_at scale.0 slots) (slots_at scale.0 others) known whole),
      ),
  λ parts.
      let solid = solid_of_both first slots others parts.0.solid parts.1.solid in
      let scale = scale_exists (slots_in_turn first slots others) solid in
      one_scale_decides (first ++ second) (slots_in_turn first slots others) scale.0 scale.1
      (subst (IsFeasibleAt (first ++ second) scale.0) (sym (together_is scale.0 first slots others))
      (feasible_together time scale.0 first second parted (slots_at scale.0 slots) (slots_at scale.0 others)
      (parts.0.holds scale.0 (scale_of_first scale.0 first slots others scale.1)) (parts.1.holds scale.0 (scale_of_second scale.0 first slots others scale.1)))),
)

-- # Least

-- a multiple of a scale is one, also from the other side
multiple_of : (scale k : ℕ) (slots : List WrittenSlot) → 1 ≤ k → IsScale scale slots → IsScale (k * scale) slots
multiple_of scale k slots some is = subst (λ n. IsScale n slots) (mul_comm scale k) (scale_times scale k slots some is)

-- what is least at a multiple of a scale is so at the scale
least_coarser : (jobs : List Job) (slots : List WrittenSlot) (scale k : ℕ) → 1 ≤ k → IsScale scale slots → IsLeastAt jobs (k * scale) (slots_at (k * scale) slots) →
    IsLeastAt jobs scale (slots_at scale slots)
least_coarser jobs slots scale k some is multiple = record {
  feasible = (feasible_scaled jobs slots scale k is some).1 multiple.feasible;
  least = λ p q positive others feasible.
      le_of_mul-le-mul_left {k = k} (omega (
        arith,
        multiple.least p q positive (map (finer k) others) (feasible_finer jobs k scale others some feasible),
        excess_scaled slots scale k p q is,
        finer_excess k p q others,
      )) some;
}

pub least_in_parts : LeastInParts
least_in_parts time first second slots others parted are = (
  λ all.
      let first_solid = All-front IsSolid slots (map (moved_written (length first)) others) all.solid in
      let second_solid = solid_of_second first slots others all.solid in
      let one = scale_exists slots first_solid in
      let other = scale_exists others second_solid in
      let all_at = λ (scale : ℕ) (is : IsScale scale slots) (also : IsScale scale others).
      subst (IsLeastAt (first ++ second) scale) (together_is scale first slots others) (all.holds scale (scale_of_both scale first slots others is also)) in (
        record {
          solid = first_solid;
          holds = λ scale is.
              let both : IsScale (other.0 * scale) slots = multiple_of scale other.0 slots other.1.positive is in
              least_coarser first slots scale other.0 other.1.positive is
              (least_first time (other.0 * scale) first second parted _ _ (known_at (other.0 * scale) first slots are)
              (all_at (other.0 * scale) both (scale_times other.0 scale others is.positive other.1)));
        },
        record {
          solid = second_solid;
          holds = λ scale is.
              let both : IsScale (one.0 * scale) others = multiple_of scale one.0 others one.1.positive is in
              least_coarser second others scale one.0 one.1.positive is
              (least_second time (one.0 * scale) first second parted _ _ (known_at (one.0 * scale) first slots are)
              (all_at (one.0 * scale) (scale_times one.0 scale slots is.positive one.1) both));
        },
      ),
  λ parts. record {
    solid = solid_of_both first slots others parts.0.solid parts.1.solid;
    holds = λ scale is. subst (IsLeastAt (first ++ second) scale) (sym (together_is scale first slots others))
        (least_together time scale first second parted (slots_at scale slots) (slots_at scale others)
        (parts.0.holds scale (scale_of_first scale first slots others is)) (parts.1.holds scale (scale_of_second scale first slots others is)));
  },
)
