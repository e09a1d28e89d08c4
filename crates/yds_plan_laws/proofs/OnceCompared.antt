-- What schedules spend is told once: it goes by their slots at a scale, which are one.
use Rattle.yds_model.proofs.Common.{◌≡◌, ℕ, ◌*◌, List, [], ◌∷◌, ◌++◌, length, map, sym, ap, subst, ◌∙◌, arith, inl, inr, Some, Option, All, All-append, cases_order, eq_of_mul-eq-mul_right, IsFirstFailure, Job, Fraction, WrittenSlot, WholeSlot, IsScale, IsSolid, slots_at, Piece, Level, Point, stretches, stretch_at, work_in, all_energy, all_time_at, in_parts, Spent, IsSpent, HoldsStretch, IsTooSlowFor, Side, Spends, TooSlowFor, HoldsAll, IsSide, spent_lines, side_lines, rounded_line, Document, codes, line, decimal, top_of, level_at, IsTooFast, IsPlan, reading, AskCompare, OfDocument, Request, request_of, OnPoints, AnswersRequest, is_too_long}
use Rattle.yds_events.specs.Stretch.{no_stretch}
use Rattle.yds_model.specs.RoundAnswer.{TooSlowAnswer}
use Rattle.yds_model.specs.CompareAnswer.{CompareAnswer, ComparedAnswer}
use Rattle.yds_laws.specs.AnswerLaws.{AnswerOnce}
use Rattle.model_lemmas.proofs.Scale.{scale_exists}
use Rattle.yds_laws.proofs.Bound.{scale_left, scale_right}
use Rattle.yds_plan_laws.proofs.Once.{IsOnce, question_once}
use Rattle.yds_plan_laws.proofs.OneCertificate.{levels_are_one}
use Rattle.yds_plan_laws.proofs.OnePlan.{slots_are_one}
use Rattle.yds_plan_laws.proofs.OneRun.{runs_are_one}

-- an energy with its times
abbrev spent_of : Fraction → List Fraction → Spent
spent_of energy times = record { energy = energy; times = times }

-- slots that are the same at a scale spend the same
spent_once : (jobs : List Job) (points : List Point) (slots others : List WrittenSlot) (scale : ℕ) (one other : Spent) → IsScale scale slots → IsScale scale others →
    slots_at scale slots ≡ slots_at scale others → IsSpent jobs points slots one → IsSpent jobs points others other → one ≡ other
spent_once jobs points slots others scale one other left right same first second =
    let mine = first.holds scale left in
    let its = second.holds scale right in
    let energy : one.energy ≡ other.energy = mine.energy ∙ ap (λ (whole : List WholeSlot). in_parts points scale (all_energy jobs points scale whole)) same ∙ sym its.energy in
    let times : one.times ≡ other.times =
    mine.times ∙ ap (λ (whole : List WholeSlot). map (λ (point : Point). in_parts points scale (all_time_at jobs points scale whole point.speed)) points) same ∙ sym its.times in
    ap (λ (f : Fraction). spent_of f one.times) energy ∙ ap (λ (some : List Fraction). spent_of other.energy some) times

-- there is one first failure
one_failure : (n : ℕ) (P : ℕ → Type 0) (i k : ℕ) → IsFirstFailure n P i → IsFirstFailure n P k → i ≡ k
one_failure n P i k first second = elim (cases_order i k) [
  | inl same ↦ same
  | inr (inl before) ↦ absurd (first.fails (second.before i before))
  | inr (inr after) ↦ absurd (second.fails (first.before k after))
]

-- the stretch for which the top is too slow, with its units, is one
too_slow_once : (jobs : List Job) (points : List Point) (grid : ℕ) (slots others : List WrittenSlot) (scale units from to more begin end : ℕ) → IsScale scale slots →
    IsScale scale others → slots_at scale slots ≡ slots_at scale others → IsTooSlowFor jobs points grid slots units from to → IsTooSlowFor jobs points grid others more begin end →
    TooSlowFor units from to ≡ TooSlowFor more begin end
too_slow_once jobs points grid slots others scale units from to more begin end left right same first second =
    let whole = slots_at scale slots in
    let place : first.place ≡ second.place = one_failure (length (stretches jobs)) (λ i. HoldsStretch points scale whole (stretch_at jobs i)) first.place second.place
    (first.first.holds scale left)
    (subst (λ (some : List WholeSlot). IsFirstFailure (length (stretches jobs)) (λ i. HoldsStretch points scale some (stretch_at jobs i)) second.place) (sym same)
    (second.first.holds scale right)) in
    let stretch = sym first.is_stretch ∙ ap (stretch_at jobs) place ∙ second.is_stretch in
    let one : from ≡ begin = ap (λ (piece : Piece). piece.from) stretch in
    let other : to ≡ end = ap (λ (piece : Piece). piece.to) stretch in
    let count : units ≡ more = eq_of_mul-eq-mul_right scale left.positive units more
    (first.is_units.holds scale left ∙ ap (λ n. grid * work_in scale (stretch_at jobs n) whole) place
    ∙ ap (λ (some : List WholeSlot). grid * work_in scale (stretch_at jobs second.place) some) same ∙ sym (second.is_units.holds scale right)) in
    ap (λ (n : ℕ). TooSlowFor n from to) count ∙ ap (λ (n : ℕ). TooSlowFor more n to) one ∙ ap (λ (n : ℕ). TooSlowFor more begin n) other

-- where the top holds all stretches, it is too slow for none
holds_or_not : (jobs : List Job) (points : List Point) (grid : ℕ) (slots others : List WrittenSlot) (scale units from to : ℕ) (spent : Spent) → IsScale scale slots →
    IsScale scale others → slots_at scale slots ≡ slots_at scale others → HoldsAll jobs points slots spent → IsTooSlowFor jobs points grid others units from to → ⊥
holds_or_not jobs points grid slots others scale units from to spent left right same holds slow =
    let failure = slow.first.holds scale right in
    failure.fails (subst (λ (some : List WholeSlot). HoldsStretch points scale some (stretch_at jobs slow.place)) same
    (holds.holds.holds scale left slow.place no_stretch failure.within))

-- so a side is one
side_once : (jobs : List Job) (points : List Point) (grid : ℕ) (slots others : List WrittenSlot) (scale : ℕ) (one other : Side) → IsScale scale slots → IsScale scale others →
    slots_at scale slots ≡ slots_at scale others → IsSide jobs points grid slots one → IsSide jobs points grid others other → one ≡ other
side_once jobs points grid slots others scale (Spends spent) (Spends more) left right same first second =
    ap Spends (spent_once jobs points slots others scale spent more left right same first.is_spent second.is_spent)
side_once jobs points grid slots others scale (Spends spent) (TooSlowFor units from to) left right same first second =
    absurd (holds_or_not jobs points grid slots others scale units from to spent left right same first second)
side_once jobs points grid slots others scale (TooSlowFor units from to) (Spends spent) left right same first second =
    absurd (holds_or_not jobs points grid others slots scale units from to spent right left (sym same) second first)
side_once jobs points grid slots others scale (TooSlowFor units from to) (TooSlowFor more begin end) left right same first second =
    too_slow_once jobs points grid slots others scale units from to more begin end left right same first second

-- # The answer

-- a first level that is too fast isn't among levels of which none is
pub fast_or_not : (jobs : List Job) (points : List Point) (slots others : List WrittenSlot) (level : Level) (levels more : List Level) → IsPlan jobs slots (level ∷ levels) →
    IsPlan jobs others more → IsTooFast points level → All (λ one. IsTooFast points one → ⊥) more → ⊥
fast_or_not jobs points slots others level levels more plan other fast enough =
    subst (All (λ one. IsTooFast points one → ⊥)) (sym (levels_are_one jobs slots others (level ∷ levels) more plan other)) enough 0 level (omega arith) fast

-- the line of a level that is too fast
abbrev too_slow_text : List Point → Level → List ℕ
too_slow_text points level =
    line (codes "too-slow" ∷ codes "work" ∷ decimal level.work ∷ codes "length" ∷ decimal level.length ∷ codes "top" ∷ decimal (top_of points) ∷ [])

-- a no, with the first level of a plan
pub no_once : (document : Document) → IsOnce (TooSlowAnswer document)
no_once document text other status end first second =
    let levels = levels_are_one document.jobs first.slots second.slots (first.level ∷ first.others) (second.level ∷ second.others) first.plan second.plan in
    let level : first.level ≡ second.level = ap (λ (some : List Level). level_at some 0) levels in (
      first.said ∙ ap (too_slow_text document.points) level ∙ sym second.said,
      first.ended ∙ sym second.ended,
    )

-- the lines of a plan and of two runs
abbrev compared_text : List Point → Spent → Side → ℕ → Side → ℕ → List ℕ
compared_text points plan average rounded optimal more =
    spent_lines (codes "plan") points plan ++ side_lines (codes "avr") points average ++ rounded_line (codes "avr") rounded
    ++ side_lines (codes "oa") points optimal ++ rounded_line (codes "oa") more

-- a scale of the slots of two schedules
abbrev both_at : (slots others : List WrittenSlot) → All IsSolid slots → All IsSolid others → (scale : ℕ) × IsScale scale (slots ++ others)
both_at slots others solid also = scale_exists (slots ++ others) (All-append IsSolid slots others solid also)

-- so a yes is told once
compared_once : (document : Document) (grid : ℕ) → IsOnce (ComparedAnswer document grid)
compared_once document grid text other status end first second =
    let jobs = document.jobs in
    let points = document.points in
    let plans = both_at first.planned second.planned first.plan.proper.feasible.solid second.plan.proper.feasible.solid in
    let plan : first.plan_spent ≡ second.plan_spent = spent_once jobs points first.planned second.planned plans.0 first.plan_spent second.plan_spent
    (scale_left plans.0 first.planned second.planned plans.1) (scale_right plans.0 first.planned second.planned plans.1)
    (slots_are_one jobs first.planned second.planned first.levels second.levels plans.0 first.plan second.plan plans.1) first.plan_spends second.plan_spends in
    let rates = both_at first.average_slots second.average_slots first.average_run.run.solid second.average_run.run.solid in
    let rate = runs_are_one.average_rate jobs grid first.average_rounded second.average_rounded rates.0 first.average_slots second.average_slots first.average_run second.average_run rates.1 in
    let average : first.average_side ≡ second.average_side = side_once jobs points grid first.average_slots second.average_slots rates.0 first.average_side second.average_side
    (scale_left rates.0 first.average_slots second.average_slots rates.1) (scale_right rates.0 first.average_slots second.average_slots rates.1) rate.1 first.is_average second.is_average in
    let runs = both_at first.optimal_slots second.optimal_slots first.optimal_run.run.solid second.optimal_run.run.solid in
    let run = runs_are_one.optimal_available jobs grid first.optimal_rounded second.optimal_rounded runs.0 first.optimal_slots second.optimal_slots first.optimal_run second.optimal_run runs.1 in
    let optimal : first.optimal_side ≡ second.optimal_side = side_once jobs points grid first.optimal_slots second.optimal_slots runs.0 first.optimal_side second.optimal_side
    (scale_left runs.0 first.optimal_slots second.optimal_slots runs.1) (scale_right runs.0 first.optimal_slots second.optimal_slots runs.1) run.1 first.is_optimal second.is_optimal in (
      first.said
          ∙ ap (λ (spent : Spent). compared_text points spent first.average_side first.average_rounded first.optimal_side first.optimal_rounded) plan
          ∙ ap (λ (side : Side). compared_text points second.plan_spent side first.average_rounded first.optimal_side first.optimal_rounded) average
          ∙ ap (λ (n : ℕ). compared_text points second.plan_spent second.average_side n first.optimal_side first.optimal_rounded) rate.0
          ∙ ap (λ (side : Side). compared_text points second.plan_spent second.average_side second.average_rounded side first.optimal_rounded) optimal
          ∙ ap (λ (n : ℕ). compared_text points second.plan_spent second.average_side second.average_rounded second.optimal_side n) run.0
          ∙ sym second.said,
      first.ended ∙ sym second.ended,
    )

-- a no or a yes
compare_once : (document : Document) (grid : ℕ) → IsOnce (CompareAnswer document grid)
compare_once document grid text other status end (inl first) (inl second) = no_once document text other status end first second
compare_once document grid text other status end (inr first) (inr second) = compared_once document grid text other status end first second
compare_once document grid text other status end (inl first) (inr second) =
    absurd (fast_or_not document.jobs document.points first.slots second.planned first.level first.others second.levels first.plan second.plan first.too_fast second.fast_enough)
compare_once document grid text other status end (inr first) (inl second) =
    absurd (fast_or_not document.jobs document.points second.slots first.planned second.level second.others first.levels second.plan first.plan second.too_fast first.fast_enough)

-- also where there are no points
on_points : (document : Document) (grid : ℕ) (points : List Point) → IsOnce (OnPoints (CompareAnswer document grid) points)
on_points document grid [] text other status end first second = (first.said ∙ sym second.said, first.ended ∙ sym second.ended)
on_points document grid (point ∷ points) text other status end first second = compare_once document grid text other status end first second

-- so `compare` answers once
pub compares_once : (words : List (List ℕ)) (grid : ℕ) → request_of words ≡ Some (OfDocument (AskCompare grid)) → AnswerOnce words
compares_once words grid asked input text other status end first second =
    question_once (AskCompare grid) (λ document. on_points document grid document.points) (is_too_long input) (reading input) text other status end
    (subst (λ (request : Option Request). AnswersRequest request input text status) asked first)
    (subst (λ (request : Option Request). AnswersRequest request input other end) asked second)
