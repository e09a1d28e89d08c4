-- Slots of parts run one at a time exactly where each part's do and the parts follow one another, whatever windows are open.
use Rattle.yds_model.proofs.Common.{◌≡◌, ℕ, ◌+◌, ◌*◌, ◌≤◌, List, [], ◌∷◌, ◌++◌, length, map, refl, sym, subst, arith, fold, All, ◌∣◌, one-dvd, All-nil, All-cons, All-head, All-tail, mul-zero, le_of_mul-le-mul_left, mul-le-mul_left, mul-lt-mul_of_pos_left, Fraction, of_whole, at_scale, WrittenSlot, WholeSlot, IsScale, IsSolid, IsDivided, slots_at, RunFrom}
use Rattle.model_lemmas.proofs.Scale.{finer, finer_slots, IsKept, one_scale_of, scale_exists}
use Rattle.fraction_lemmas.proofs.Fractions.{at_most_of_values}
use Rattle.model_lemmas.proofs.Runs.{run_earlier}
use Rattle.std.proofs.Math.Nat.{lt_of_mul-lt-mul_left}
use Rattle.model_lemmas.proofs.Scale.{run_finer, run_coarser}
use Rattle.yds_parts.specs.Parts.{moved}
use Rattle.yds_parts.proofs.WrittenParts.{together_is, scale_of_first, scale_of_second, solid_of_both}
use Rattle.yds_cuts.specs.Cuts.{Part, all_slots, end_of_last, BeginsAt, FollowFrom}
use Rattle.yds_cuts.specs.CutLaws.{OneAtATimeInEachPart}
use Rattle.yds_cuts.proofs.Renamed.{run_renamed, run_with_own_names}

-- # Slots at a scale

-- the end of the last slot, or this time
abbrev last_end : ℕ → List WholeSlot → ℕ
last_end time slots = fold (λ time slot. slot.to) time slots

-- two lists one after another
run_parts : (start : ℕ) (slots others : List WholeSlot) → RunFrom start (slots ++ others) → RunFrom start slots × RunFrom (last_end start slots) others
run_parts start [] others run = (tt, run)
run_parts start (slot ∷ slots) others run = let rest = run_parts slot.to slots others run.2 in ((run.0, run.1, rest.0), rest.1)

run_on : (start : ℕ) (slots others : List WholeSlot) → RunFrom start slots → RunFrom (last_end start slots) others → RunFrom start (slots ++ others)
run_on start [] others run later = later
run_on start (slot ∷ slots) others run later = (run.0, run.1, run_on slot.to slots others run.2 later)

-- the last end of written slots at a scale
last_end_at : (scale : ℕ) (time : Fraction) (slots : List WrittenSlot) → last_end (at_scale scale time) (slots_at scale slots) ≡ at_scale scale (end_of_last time slots)
last_end_at scale time [] = refl
last_end_at scale time (slot ∷ slots) = last_end_at scale slot.to slots

-- the scale is one of it
last_end_divides : (scale : ℕ) (time : Fraction) (slots : List WrittenSlot) → time.den ∣ scale → All (IsDivided scale) slots → (end_of_last time slots).den ∣ scale
last_end_divides scale time [] divides divided = divides
last_end_divides scale time (slot ∷ slots) divides divided =
    last_end_divides scale slot.to slots (All-head (IsDivided scale) slot slots divided).to (All-tail (IsDivided scale) slot slots divided)

-- slots that run from a time on begin at it
begins_at : (scale : ℕ) (time : Fraction) (slots : List WrittenSlot) → time.den ∣ scale → IsScale scale slots → RunFrom (at_scale scale time) (slots_at scale slots) →
    BeginsAt time slots
begins_at scale time [] divides is run = tt
begins_at scale time (slot ∷ slots) divides is run =
    (at_most_of_values time slot.from scale is.positive divides (All-head (IsDivided scale) slot slots is.divided).from).1 run.0

-- and slots that begin at it, and run one at a time, run from it on
run_from : (scale : ℕ) (time : Fraction) (slots : List WrittenSlot) → time.den ∣ scale → IsScale scale slots → BeginsAt time slots → RunFrom 0 (slots_at scale slots) →
    RunFrom (at_scale scale time) (slots_at scale slots)
run_from scale time [] divides is begins run = tt
run_from scale time (slot ∷ slots) divides is begins run =
    ((at_most_of_values time slot.from scale is.positive divides (All-head (IsDivided scale) slot slots is.divided).from).0 begins, run.1, run.2)

-- # Parts at a scale

-- at a scale of all slots, what follows from a time on
pub in_turn_from : (scale : ℕ) (time : Fraction) (parts : List Part) → time.den ∣ scale → IsScale scale (all_slots parts) →
    RunFrom (at_scale scale time) (slots_at scale (all_slots parts)) → FollowFrom time parts × All (λ part. RunFrom 0 (slots_at scale part.slots)) parts
in_turn_from scale time [] divides is run = (tt, All-nil (λ part. RunFrom 0 (slots_at scale part.slots)))
in_turn_from scale time (part ∷ parts) divides is run =
    let first = scale_of_first scale part.jobs part.slots (all_slots parts) is in
    let second = scale_of_second scale part.jobs part.slots (all_slots parts) is in
    let both = run_parts (at_scale scale time) (slots_at scale part.slots) (map (moved (length part.jobs)) (slots_at scale (all_slots parts)))
    (subst (RunFrom (at_scale scale time)) (together_is scale part.jobs part.slots (all_slots parts)) run) in
    let later = run_with_own_names (λ job. length part.jobs + job) (last_end (at_scale scale time) (slots_at scale part.slots)) (slots_at scale (all_slots parts)) both.1 in
    let rest = in_turn_from scale (end_of_last time part.slots) parts (last_end_divides scale time part.slots divides first.divided) second
    (subst (λ start. RunFrom start (slots_at scale (all_slots parts))) (last_end_at scale time part.slots) later) in (
      (begins_at scale time part.slots divides first both.0, rest.0),
      All-cons (λ part. RunFrom 0 (slots_at scale part.slots)) part parts (run_earlier 0 (at_scale scale time) (slots_at scale part.slots) (omega arith) both.0) rest.1,
    )

-- and the other way round
pub run_in_turn : (scale : ℕ) (time : Fraction) (parts : List Part) → time.den ∣ scale → IsScale scale (all_slots parts) → FollowFrom time parts →
    All (λ part. RunFrom 0 (slots_at scale part.slots)) parts → RunFrom (at_scale scale time) (slots_at scale (all_slots parts))
run_in_turn scale time [] divides is follow each = tt
run_in_turn scale time (part ∷ parts) divides is follow each =
    let first = scale_of_first scale part.jobs part.slots (all_slots parts) is in
    let second = scale_of_second scale part.jobs part.slots (all_slots parts) is in
    let later = run_in_turn scale (end_of_last time part.slots) parts (last_end_divides scale time part.slots divides first.divided) second follow.1
    (All-tail (λ part. RunFrom 0 (slots_at scale part.slots)) part parts each) in
    subst (RunFrom (at_scale scale time)) (sym (together_is scale part.jobs part.slots (all_slots parts)))
    (run_on (at_scale scale time) (slots_at scale part.slots) (map (moved (length part.jobs)) (slots_at scale (all_slots parts)))
    (run_from scale time part.slots divides first follow.0 (All-head (λ part. RunFrom 0 (slots_at scale part.slots)) part parts each))
    (run_renamed (λ job. length part.jobs + job) (last_end (at_scale scale time) (slots_at scale part.slots)) (slots_at scale (all_slots parts))
    (subst (λ start. RunFrom start (slots_at scale (all_slots parts))) (sym (last_end_at scale time part.slots)) later)))

-- a scale of all slots is one of each part's
pub scale_of_each : (scale : ℕ) (parts : List Part) → IsScale scale (all_slots parts) → All (λ part. IsScale scale part.slots) parts
scale_of_each scale [] is = All-nil (λ part. IsScale scale part.slots)
scale_of_each scale (part ∷ parts) is =
    All-cons (λ part. IsScale scale part.slots) part parts (scale_of_first scale part.jobs part.slots (all_slots parts) is)
    (scale_of_each scale parts (scale_of_second scale part.jobs part.slots (all_slots parts) is))

-- the denominators of all slots are at least 1 where those of each part's are
pub solid_of_all : (parts : List Part) → All (λ part. All IsSolid part.slots) parts → All IsSolid (all_slots parts)
solid_of_all [] each = All-nil IsSolid
solid_of_all (part ∷ parts) each =
    solid_of_both part.jobs part.slots (all_slots parts) (All-head (λ part. All IsSolid part.slots) part parts each)
    (solid_of_all parts (All-tail (λ part. All IsSolid part.slots) part parts each))

-- # One scale decides

-- slots that run one at a time at a scale do so at each multiple of it, and back
run_kept : (slots : List WrittenSlot) → IsKept slots (λ scale whole. RunFrom 0 whole)
run_kept slots scale k is some =
    let same = finer_slots k scale slots is in (
      λ run. subst (RunFrom 0) (sym same) (subst (λ start. RunFrom start (map (finer k) (slots_at scale slots))) (mul-zero k) (run_finer k 0 (slots_at scale slots) some run)),
      λ run. run_coarser k 0 (slots_at scale slots) some
          (subst (λ start. RunFrom start (map (finer k) (slots_at scale slots))) (sym (mul-zero k)) (subst (RunFrom 0) same run)),
    )

-- the law
pub one_at_a_time_in_each_part : OneAtATimeInEachPart
one_at_a_time_in_each_part parts = (
  λ all.
      let scale = scale_exists (all_slots parts) all.solid in
      let both = in_turn_from scale.0 (of_whole 0) parts (one-dvd scale.0) scale.1 (run_earlier _ _ _ (omega arith) (all.holds scale.0 scale.1)) in
      let scales = scale_of_each scale.0 parts scale.1 in
      (both.0, λ k d within. one_scale_of _ (λ scale whole. RunFrom 0 whole) (run_kept _) scale.0 (scales k d within) (both.1 k d within)),
  λ both. record {
    solid = solid_of_all parts (λ k d within. (both.1 k d within).solid);
    holds = λ scale is.
        let scales = scale_of_each scale parts is in
        run_earlier 0 _ _ (omega arith)
        (run_in_turn scale (of_whole 0) parts (one-dvd scale) is both.0 (λ k d within. (both.1 k d within).holds scale (scales k d within)));
  },
)
