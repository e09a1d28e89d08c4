-- `round` answers once: the slots of a plan are rounded in one way, and what they spend is one fraction in lowest terms.
use Rattle.yds_model.proofs.Common.{◌≡◌, ℕ, ◌<◌, List, [], ◌∷◌, ◌++◌, length, get_or, refl, sym, ap, subst, ◌∙◌, arith, inl, inr, All, All-append, All-from_get_or, All-contains, Contains, get_or_default, Some, None, Job, Fraction, numerator, WrittenSlot, IsSolid, IsScale, no_written_slot, written_slot_at, slots_at, Piece, Level, level_at, stretches, Point, IsTable, hull_of, IsPlan, IsEnergyOf, IsRounding, IsSlot, Document, with_answer, canonical_text, reading, AskRound, OnPoints, RoundAnswer, RoundedAnswer, is_too_long, HasLevelDenominators}
use Rattle.base.specs.declared.status.Status.{Status}
use Rattle.model_lemmas.proofs.Counted.{one_level}
use Rattle.model_lemmas.proofs.HullExists.{hull_exists}
use Rattle.model_lemmas.proofs.Runs.{run_forward}
use Rattle.model_lemmas.proofs.Scale.{scale_exists}
use Rattle.fraction_lemmas.proofs.LowestTerms.{lowest_is, lowest_same}
use Rattle.yds_events.proofs.Neighbours.{stretches_run}
use Rattle.yds_laws.proofs.Bound.{scale_left, scale_right}
use Rattle.yds_energy.proofs.HullEnergy.{hull_rising}
use Rattle.yds_energy.proofs.OneEnergy.{energy_is_one}
use Rattle.yds_energy.proofs.PlanParts.{level_found}
use Rattle.yds_energy.proofs.RoundedOnPoints.{rounded_is_feasible}
use Rattle.yds_plan_laws.specs.RoundOnce.{RoundingsAreOne, RoundAnswersOnce}
use Rattle.yds_plan_laws.proofs.Once.{IsOnce, question_once}
use Rattle.yds_plan_laws.proofs.OnceCompared.{fast_or_not, no_once}
use Rattle.yds_plan_laws.proofs.OneCertificate.{levels_are_one}
use Rattle.yds_plan_laws.proofs.OnePlan.{slots_are_one}
use Rattle.yds_plan_laws.proofs.OneRounding.{IsByLevels, IsPart, rounds_same}
use Rattle.yds_plan_laws.proofs.OneStretch.{once_each}

-- # A plan's slots

module _ (jobs : List Job) (slots : List WrittenSlot) (levels : List Level) (plan : IsPlan jobs slots levels) where
  -- a job is a member of one level
  single : (level other : Level) (number : ℕ) → Contains levels level → Contains levels other → Contains level.members number → Contains other.members number → level ≡ other
  single level other number has also member same =
      let first = level_found levels level has in
      let second = level_found levels other also in
      let mine : Contains (level_at levels has.0).members number = subst (λ (one : Level). Contains one.members number) (sym first) member in
      let its : Contains (level_at levels also.0).members number = subst (λ (one : Level). Contains one.members number) (sym second) same in
      let known : number < length jobs = All-contains (λ n. n < length jobs) level.members number
      (All-contains (λ one. All (λ n. n < length jobs) one.members) levels level plan.proper.well_formed.known has) member in
      let place = one_level levels has.0 also.0 number (plan.proper.members number known).at_most_once has.1 also.1 mine its in
      sym first ∙ ap (level_at levels) place ∙ second

  -- its slots are spelled by its level
  by_levels : All (IsByLevels levels) slots
  by_levels = All-from_get_or (IsByLevels levels) slots no_written_slot (λ k within level has member.
      let found = level_found levels level has in
      subst (λ (one : Level). HasLevelDenominators one (written_slot_at slots k)) found
      (plan.denominators has.0 k has.1 within (subst (λ (one : Level). Contains one.members (written_slot_at slots k).job) (sym found) member)))

  -- so all of them are a part, with what is written for them
  whole_part : (written : List WrittenSlot) (scale : ℕ) → IsScale scale slots → IsScale scale written → All IsSlot written → IsPart jobs levels scale slots written
  whole_part written scale is is_written fits = record {
    is = is;
    is_written = is_written;
    fits = fits;
    by_levels = by_levels;
    takes = run_forward 0 (slots_at scale slots) (plan.proper.feasible.holds scale is).one_at_a_time;
    once = once_each jobs scale (slots_at scale slots) (plan.served scale is).once;
  }

-- # What is rounded

-- each stretch is one
contains_all : (pieces : List Piece) → All (Contains pieces) pieces
contains_all pieces k d within = (k, within, get_or_default pieces k (get_or pieces k d) d within)

-- two plans of the same jobs and levels are rounded to the same slots
slots_once : (jobs : List Job) (points : List Point) (planned others written made : List WrittenSlot) (levels : List Level) (energy other : Fraction) → IsTable points →
    IsPlan jobs planned levels → IsPlan jobs others levels → IsRounding jobs points planned levels written energy → IsRounding jobs points others levels made other →
    All IsSlot written → All IsSlot made → written ≡ made
slots_once jobs points planned others written made levels energy other table plan next first second fits fit =
    let both = scale_exists ((planned ++ others) ++ (written ++ made)) (All-append IsSolid (planned ++ others) (written ++ made)
    (All-append IsSolid planned others plan.proper.feasible.solid next.proper.feasible.solid)
    (All-append IsSolid written made first.energy_of.at_scales.solid second.energy_of.at_scales.solid)) in
    let scale = both.0 in
    let plans = scale_left scale (planned ++ others) (written ++ made) both.1 in
    let rounded = scale_right scale (planned ++ others) (written ++ made) both.1 in
    let is_hull = hull_exists points table.rising in
    rounds_same jobs (hull_of points) levels scale (hull_rising points (hull_of points) table.rising is_hull)
    (λ k d within. (plan.proper.well_formed.positive k d within).1) (single jobs planned levels plan) 0 (stretches jobs) planned others written made (stretches_run jobs)
    (contains_all (stretches jobs)) (whole_part jobs planned levels plan written scale (scale_left scale planned others plans) (scale_left scale written made rounded) fits)
    (whole_part jobs others levels next made scale (scale_right scale planned others plans) (scale_right scale written made rounded) fit)
    (slots_are_one jobs planned others levels levels scale plan next plans) first.rounds second.rounds

-- and spend the same
energy_once : (jobs : List Job) (points : List Point) (planned others written made : List WrittenSlot) (levels : List Level) (energy other : Fraction) → IsTable points →
    IsPlan jobs planned levels → IsRounding jobs points planned levels written energy → IsRounding jobs points others levels made other → written ≡ made → energy ≡ other
energy_once jobs points planned others written made levels energy other table plan first second same =
    let value = energy_is_one jobs points written energy other table.rising (rounded_is_feasible jobs points planned levels written energy plan table first).feasible first.energy_of
    (subst (λ (slots : List WrittenSlot). IsEnergyOf jobs points slots other) (sym same) second.energy_of) in
    sym (lowest_is energy first.lowest) ∙ lowest_same (numerator energy) energy.den (numerator other) other.den first.energy_of.has_parts second.energy_of.has_parts value
    ∙ lowest_is other second.lowest

-- so roundings are one
pub roundings_are_one : RoundingsAreOne
roundings_are_one jobs points planned others levels more written made energy other table plan next first second fits fit =
    let same = levels_are_one jobs planned others levels more plan next in
    let also : IsPlan jobs others levels = subst (IsPlan jobs others) (sym same) next in
    let rounding = subst (λ (some : List Level). IsRounding jobs points others some made other) (sym same) second in
    let slots = slots_once jobs points planned others written made levels energy other table plan also first rounding fits fit in
    (slots, energy_once jobs points planned others written made levels energy other table plan first rounding slots)

-- # The answer

-- the text of a rounding
abbrev text_of_rounding : Document → List WrittenSlot → Fraction → List ℕ
text_of_rounding document slots energy = canonical_text (with_answer document slots [] None (Some energy))

-- rounded slots are told once
rounded_once : (document : Document) → IsTable document.points → IsOnce (RoundedAnswer document)
rounded_once document table text other status end first second =
    let both = roundings_are_one document.jobs document.points first.planned second.planned first.levels second.levels first.slots second.slots first.energy second.energy table
    first.plan second.plan first.rounded second.rounded first.said.possible.slots.fit second.said.possible.slots.fit in (
      first.said.written ∙ ap (λ (some : List WrittenSlot). text_of_rounding document some first.energy) both.0 ∙ ap (text_of_rounding document second.slots) both.1 ∙ sym second.said.written,
      first.ended ∙ sym second.ended,
    )

-- the points of a document that is told, where there are some, are a table
points_table : (document : Document) (point : Point) (points : List Point) → document.points ≡ point ∷ points → (text : List ℕ) (status : Status) → RoundedAnswer document text status →
    IsTable document.points
points_table document point points is text status answer = elim answer.said.possible.points.table [
  | inl none ↦ absurd (omega (arith, ap length none, ap length is))
  | inr table ↦ table
]

-- a no or a yes
round_once : (document : Document) (point : Point) (points : List Point) → document.points ≡ point ∷ points → IsOnce (RoundAnswer document)
round_once document point points is text other status end (inl first) (inl second) = no_once document text other status end first second
round_once document point points is text other status end (inr first) (inr second) =
    rounded_once document (points_table document point points is text status first) text other status end first second
round_once document point points is text other status end (inl first) (inr second) =
    absurd (fast_or_not document.jobs document.points first.slots second.planned first.level first.others second.levels first.plan second.plan first.too_fast second.rounded.fast_enough)
round_once document point points is text other status end (inr first) (inl second) =
    absurd (fast_or_not document.jobs document.points second.slots first.planned second.level second.others first.levels second.plan first.plan second.too_fast first.rounded.fast_enough)

-- also where there are no points
on_points : (document : Document) (points : List Point) → document.points ≡ points → IsOnce (OnPoints (RoundAnswer document) points)
on_points document [] is text other status end first second = (first.said ∙ sym second.said, first.ended ∙ sym second.ended)
on_points document (point ∷ points) is text other status end first second = round_once document point points is text other status end first second

-- the law
pub round_answers_once : RoundAnswersOnce
round_answers_once input = question_once AskRound (λ document. on_points document document.points refl) (is_too_long input) (reading input)
