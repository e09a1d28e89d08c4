-- The sides of a comparison: the first stretch for which the top point is too slow is found part by part.
use Rattle.yds_model.proofs.Common.{◌≡◌, ℕ, ◌+◌, ◌-◌, ◌*◌, ◌<◌, ◌≤◌, List, [], ◌∷◌, ◌++◌, length, get_or, sym, ap, subst, ◌∙◌, arith, inl, inr, All, AllZip, cases_lt, get_or_append_left, get_or-append-add, length-append, All-nil, All-head, All-tail, All-append, sum_by, sum_by-map, Each, Job, WrittenSlot, WholeSlot, IsScale, IsSolid, AtEachScale, slots_at, IsFeasible, Piece, stretches, slots_in, Point, HoldsStretch, IsSide, IsSpent, IsTooSlowFor, Side, Spends, Spent, stretch_at, TooSlowFor, work_in}
use Rattle.model_lemmas.proofs.Scale.{scale_exists}
use Rattle.yds_parts.specs.Parts.{ArePartedAt, WindowsAreForward, moved, slots_in_turn}
use Rattle.yds_parts.proofs.EventsOfParts.{stretches_between, IsGap, EndsBy, BeginsFrom, stretches_joined, gaps_are, first_stretches, second_stretches}
use Rattle.yds_parts.proofs.StretchesOfParts.{in_first, in_second, in_gap}
use Rattle.yds_parts.proofs.WrittenParts.{together_is, scale_of_first, scale_of_second}
use Rattle.yds_cuts.specs.Cuts.{Part, all_jobs, all_slots}
use Rattle.yds_cuts.specs.ClosedCuts.{ArePartedFrom, IsScheduledPart, first_too_slow, SidesOfParts}
use Rattle.yds_cuts.proofs.ClosedCuts.{parted_at}
use Rattle.yds_cuts.proofs.SpentParts.{all_windows, all_scheduled}

abbrev no_stretch : Piece
no_stretch = record { from = 0; to = 0 }

-- what a side says of the stretches
abbrev pub Holds : List Point → ℕ → List Job → List WrittenSlot → Side → Type 0
Holds points grid jobs slots (Spends spent) = AtEachScale slots (λ scale whole. All (HoldsStretch points scale whole) (stretches jobs))
Holds points grid jobs slots (TooSlowFor units from to) = IsTooSlowFor jobs points grid slots units from to

-- # Two parts

module _ (points : List Point) (grid time : ℕ) (first second : List Job) (slots others : List WrittenSlot) (parted : ArePartedAt time first second)
    (first_windows : WindowsAreForward first) (second_windows : WindowsAreForward second) (one : IsFeasible first slots) (other : IsFeasible second others)
    (solid : All IsSolid (slots_in_turn first slots others)) where
  abbrev all : List WrittenSlot
  all = slots_in_turn first slots others

  abbrev gaps : List Piece
  gaps = stretches_between first second

  abbrev early : List Piece
  early = stretches first

  abbrev late : List Piece
  late = stretches second

  abbrev both : List Piece
  both = stretches (first ++ second)

  abbrev are_joined : both ≡ early ++ (gaps ++ late)
  are_joined = stretches_joined time first second parted first_windows second_windows

  -- # Works

  module _ (scale : ℕ) (is : IsScale scale all) where
    abbrev one_at : List WholeSlot
    one_at = slots_at scale slots

    abbrev other_at : List WholeSlot
    other_at = slots_at scale others

    first_work : (stretch : Piece) → EndsBy time stretch → work_in scale stretch (slots_at scale all) ≡ work_in scale stretch one_at
    first_work stretch ends =
        ap (work_in scale stretch) (together_is scale first slots others)
        ∙ ap (sum_by (λ (slot : WholeSlot). slot.work)) (in_first time scale first second parted one_at other_at (one.holds scale (scale_of_first scale first slots others is))
        (other.holds scale (scale_of_second scale first slots others is)) stretch ends)

    second_work : (stretch : Piece) → BeginsFrom time stretch → work_in scale stretch (slots_at scale all) ≡ work_in scale stretch other_at
    second_work stretch begins =
        ap (work_in scale stretch) (together_is scale first slots others)
        ∙ ap (sum_by (λ (slot : WholeSlot). slot.work)) (in_second time scale first second parted one_at other_at (one.holds scale (scale_of_first scale first slots others is))
        (other.holds scale (scale_of_second scale first slots others is)) stretch begins)
        ∙ sum_by-map (moved (length first)) (λ (slot : WholeSlot). slot.work) (slots_in scale stretch other_at)

    gap_work : (stretch : Piece) → IsGap first second stretch → work_in scale stretch (slots_at scale all) ≡ 0
    gap_work stretch gap =
        ap (work_in scale stretch) (together_is scale first slots others)
        ∙ ap (sum_by (λ (slot : WholeSlot). slot.work)) (in_gap time scale first second parted one_at other_at (one.holds scale (scale_of_first scale first slots others is))
        (other.holds scale (scale_of_second scale first slots others is)) stretch gap)

    -- # The stretches hold what they do

    first_holds : (stretch : Piece) → EndsBy time stretch → HoldsStretch points scale one_at stretch → HoldsStretch points scale (slots_at scale all) stretch
    first_holds stretch ends holds = omega (arith, first_work stretch ends, holds)

    first_held : (stretch : Piece) → EndsBy time stretch → HoldsStretch points scale (slots_at scale all) stretch → HoldsStretch points scale one_at stretch
    first_held stretch ends holds = omega (arith, first_work stretch ends, holds)

    second_holds : (stretch : Piece) → BeginsFrom time stretch → HoldsStretch points scale other_at stretch → HoldsStretch points scale (slots_at scale all) stretch
    second_holds stretch begins holds = omega (arith, second_work stretch begins, holds)

    second_held : (stretch : Piece) → BeginsFrom time stretch → HoldsStretch points scale (slots_at scale all) stretch → HoldsStretch points scale other_at stretch
    second_held stretch begins holds = omega (arith, second_work stretch begins, holds)

    gap_holds : (stretch : Piece) → IsGap first second stretch → HoldsStretch points scale (slots_at scale all) stretch
    gap_holds stretch gap = omega (arith, gap_work stretch gap)

    all_hold : All (HoldsStretch points scale one_at) early → All (HoldsStretch points scale other_at) late → All (HoldsStretch points scale (slots_at scale all)) both
    all_hold holds later =
        subst (All (HoldsStretch points scale (slots_at scale all))) (sym are_joined)
        (All-append (HoldsStretch points scale (slots_at scale all)) early (gaps ++ late)
        (λ k d within. first_holds (get_or early k d) (first_stretches time first second parted first_windows second_windows k d within) (holds k d within))
        (All-append (HoldsStretch points scale (slots_at scale all)) gaps late
        (λ k d within. gap_holds (get_or gaps k d) (gaps_are time first second parted first_windows second_windows k d within))
        (λ k d within. second_holds (get_or late k d) (second_stretches time first second parted first_windows second_windows k d within) (later k d within))))

  -- # The places of the stretches

  early_at : (i : ℕ) → i < length early → stretch_at (first ++ second) i ≡ stretch_at first i
  early_at i within = ap (λ (pieces : List Piece). get_or pieces i no_stretch) are_joined ∙ get_or_append_left early (gaps ++ late) no_stretch i within

  late_at : (k : ℕ) → stretch_at (first ++ second) (length early + (length gaps + k)) ≡ stretch_at second k
  late_at k =
      ap (λ (pieces : List Piece). get_or pieces (length early + (length gaps + k)) no_stretch) are_joined
      ∙ get_or-append-add early (gaps ++ late) (length gaps + k) no_stretch
      ∙ get_or-append-add gaps late k no_stretch

  how_many : length both ≡ length early + (length gaps + length late)
  how_many = ap length are_joined ∙ length-append early (gaps ++ late) ∙ ap (λ n. length early + n) (length-append gaps late)

  early_ends : (i : ℕ) → i < length early → EndsBy time (stretch_at first i)
  early_ends i within = first_stretches time first second parted first_windows second_windows i no_stretch within

  late_begins : (k : ℕ) → k < length late → BeginsFrom time (stretch_at second k)
  late_begins k within = second_stretches time first second parted first_windows second_windows k no_stretch within

  -- # Too slow

  -- a stretch of the first part
  first_slow : (units from to : ℕ) → IsTooSlowFor first points grid slots units from to → IsTooSlowFor (first ++ second) points grid all units from to
  first_slow units from to slow =
      let some = scale_exists all solid in
      let within : slow.place < length early = (slow.first.holds some.0 (scale_of_first some.0 first slots others some.1)).within in
      let at = early_at slow.place within in
      record {
        place = slow.place;
        is_stretch = at ∙ slow.is_stretch;
        first = record {
          solid = solid;
          holds = λ scale is.
              let fails = slow.first.holds scale (scale_of_first scale first slots others is) in
              record {
                within = omega (arith, within, how_many);
                before = λ i earlier.
                    let inside : i < length early = omega (arith, earlier, within) in
                    subst (HoldsStretch points scale (slots_at scale all)) (sym (early_at i inside))
                    (first_holds scale is (stretch_at first i) (early_ends i inside) (fails.before i earlier));
                fails = λ holds. fails.fails (first_held scale is (stretch_at first slow.place) (early_ends slow.place within)
                    (subst (HoldsStretch points scale (slots_at scale all)) at holds));
              };
        };
        is_units = record {
          solid = solid;
          holds = λ scale is.
              slow.is_units.holds scale (scale_of_first scale first slots others is)
              ∙ ap (λ n. grid * n) (sym (first_work scale is (stretch_at first slow.place) (early_ends slow.place within))
              ∙ ap (λ stretch. work_in scale stretch (slots_at scale all)) (sym at));
        };
      }

  -- the stretches before one of the second part
  before_late : (scale : ℕ) (is : IsScale scale all) (k : ℕ) → k ≤ length late → All (HoldsStretch points scale (slots_at scale slots)) early →
      Each k (λ i. HoldsStretch points scale (slots_at scale others) (stretch_at second i)) →
      Each (length early + (length gaps + k)) (λ i. HoldsStretch points scale (slots_at scale all) (stretch_at (first ++ second) i))
  before_late scale is k inside holds earlier i within = elim (cases_lt i (length early)) [
    | inl soon ↦
        subst (HoldsStretch points scale (slots_at scale all)) (sym (early_at i soon))
        (first_holds scale is (stretch_at first i) (early_ends i soon) (holds i no_stretch soon))
    | inr not_soon ↦ elim (cases_lt i (length early + length gaps)) [
      | inl between ↦
          let place : length early + (i - length early) ≡ i = omega (arith, not_soon) in
          let gap_place : i - length early < length gaps = omega (arith, not_soon, between) in
          let read : stretch_at (first ++ second) i ≡ get_or gaps (i - length early) no_stretch =
          ap (λ (pieces : List Piece). get_or pieces i no_stretch) are_joined
          ∙ ap (λ j. get_or (early ++ (gaps ++ late)) j no_stretch) (sym place)
          ∙ get_or-append-add early (gaps ++ late) (i - length early) no_stretch
          ∙ get_or_append_left gaps late no_stretch (i - length early) gap_place in
          subst (HoldsStretch points scale (slots_at scale all)) (sym read)
          (gap_holds scale is (get_or gaps (i - length early) no_stretch)
          (gaps_are time first second parted first_windows second_windows (i - length early) no_stretch gap_place))
      | inr after ↦
          let j : ℕ = i - (length early + length gaps) in
          let place : length early + (length gaps + j) ≡ i = omega (arith, after) in
          let less : j < k = omega (arith, within, after) in
          let read : stretch_at (first ++ second) i ≡ stretch_at second j = ap (stretch_at (first ++ second)) (sym place) ∙ late_at j in
          subst (HoldsStretch points scale (slots_at scale all)) (sym read)
          (second_holds scale is (stretch_at second j) (late_begins j (omega (arith, less, inside))) (earlier j less))
    ]
  ]

  -- a stretch of the second part, where the first part's all hold
  second_slow : (units from to : ℕ) → AtEachScale slots (λ scale whole. All (HoldsStretch points scale whole) early) →
      IsTooSlowFor second points grid others units from to → IsTooSlowFor (first ++ second) points grid all units from to
  second_slow units from to holds slow =
      let some = scale_exists all solid in
      let within : slow.place < length late = (slow.first.holds some.0 (scale_of_second some.0 first slots others some.1)).within in
      let at = late_at slow.place in
      record {
        place = length early + (length gaps + slow.place);
        is_stretch = at ∙ slow.is_stretch;
        first = record {
          solid = solid;
          holds = λ scale is.
              let fails = slow.first.holds scale (scale_of_second scale first slots others is) in
              record {
                within = omega (arith, within, how_many);
                before = before_late scale is slow.place (omega (arith, within)) (holds.holds scale (scale_of_first scale first slots others is)) fails.before;
                fails = λ held. fails.fails (second_held scale is (stretch_at second slow.place) (late_begins slow.place within)
                    (subst (HoldsStretch points scale (slots_at scale all)) at held));
              };
        };
        is_units = record {
          solid = solid;
          holds = λ scale is.
              slow.is_units.holds scale (scale_of_second scale first slots others is)
              ∙ ap (λ n. grid * n) (sym (second_work scale is (stretch_at second slow.place) (late_begins slow.place within))
              ∙ ap (λ stretch. work_in scale stretch (slots_at scale all)) (sym at));
        };
      }

  -- so what a side says of the second part it says of both
  both_hold : (side : Side) → AtEachScale slots (λ scale whole. All (HoldsStretch points scale whole) early) → Holds points grid second others side →
      Holds points grid (first ++ second) all side
  both_hold (Spends spent) holds later = record {
    solid = solid;
    holds = λ scale is. all_hold scale is (holds.holds scale (scale_of_first scale first slots others is)) (later.holds scale (scale_of_second scale first slots others is));
  }
  both_hold (TooSlowFor units from to) holds later = second_slow units from to holds later

-- # Any number of parts

sides_from : (points : List Point) (grid time : ℕ) (parts : List Part) (sides : List Side) (spent : Spent) → ArePartedFrom time parts → All IsScheduledPart parts →
    AllZip (λ part side. IsSide part.jobs points grid part.slots side) parts sides → Holds points grid (all_jobs parts) (all_slots parts) (first_too_slow spent sides)
sides_from points grid time [] [] spent parted are is = record { solid = All-nil IsSolid; holds = λ scale is. All-nil (HoldsStretch points scale []) }
sides_from points grid time [] (side ∷ sides) spent parted are is = absurd is
sides_from points grid time (part ∷ parts) [] spent parted are is = absurd is
sides_from points grid time (part ∷ parts) (Spends own ∷ sides) spent parted are is =
    let here = All-head IsScheduledPart part parts are in
    let later = All-tail IsScheduledPart part parts are in
    both_hold points grid parted.0 part.jobs (all_jobs parts) part.slots (all_slots parts) (parted_at time part parts parted) here.windows (all_windows parts later)
    here.feasible (all_scheduled parted.0 parts parted.4 later) (all_scheduled time (part ∷ parts) parted are).solid (first_too_slow spent sides) is.0.holds
    (sides_from points grid parted.0 parts sides spent parted.4 later is.1)
sides_from points grid time (part ∷ parts) (TooSlowFor units from to ∷ sides) spent parted are is =
    let here = All-head IsScheduledPart part parts are in
    let later = All-tail IsScheduledPart part parts are in
    first_slow points grid parted.0 part.jobs (all_jobs parts) part.slots (all_slots parts) (parted_at time part parts parted) here.windows (all_windows parts later)
    here.feasible (all_scheduled parted.0 parts parted.4 later) (all_scheduled time (part ∷ parts) parted are).solid units from to is.0

-- with what all slots spend it is a side
with_spent : (points : List Point) (grid : ℕ) (jobs : List Job) (slots : List WrittenSlot) (spent : Spent) (sides : List Side) → IsSpent jobs points slots spent →
    Holds points grid jobs slots (first_too_slow spent sides) → IsSide jobs points grid slots (first_too_slow spent sides)
with_spent points grid jobs slots spent [] spends holds = record { holds = holds; is_spent = spends }
with_spent points grid jobs slots spent (Spends own ∷ sides) spends holds = with_spent points grid jobs slots spent sides spends holds
with_spent points grid jobs slots spent (TooSlowFor units from to ∷ sides) spends holds = holds

pub sides_of_parts : SidesOfParts
sides_of_parts points grid parts sides spent parted are is spends =
    with_spent points grid (all_jobs parts) (all_slots parts) spent sides spends (sides_from points grid 0 parts sides spent parted are is)
