-- What the answer of `compare` is worth: it ends as `round` does and tells the same energy of a plan, and no policy's energy is less.
use Rattle.yds_model.proofs.Common.{top_of, CanServe, IsLowest, Job, All-map, length-map, ◌≡◌, ℕ, ◌*◌, ◌≤◌, length, Bool, true, false, List, [], ◌∷◌, ◌++◌, Some, Result, Ok, Err, sym, ap, subst, ◌∙◌, append_assoc, inl, inr, mul-pos, codes, decimal, flat_map, zip, All, Fraction, WrittenSlot, WholeSlot, AtEachScale, slots_at, Piece, Point, IsTable, hull_multiple, IsPlan, IsRounding, IsRunAt, average_rate, optimal_available, Document, Fault, reading, line, fraction_text, canonical_text, Side, Spends, TooSlowFor, IsSide, Spent, IsSpent, in_parts, all_time_at, side_lines, rounded_line, ComparedAnswer, CompareAnswer, TooSlowAnswer, RoundedAnswer, RoundAnswer, AskRound, AskCompare, OfDocument, OnPoints, AnswersReading, UnlessTooLong, is_too_long, AnswersRequest}
use Rattle.fraction_lemmas.proofs.LowestTerms.{lowest_is_lowest}
use Rattle.model_lemmas.proofs.Scale.{scale_exists}
use Rattle.yds_model.specs.declared.reason.Reason.{Reason}
use Rattle.base.specs.declared.status.Status.{Status}
use Rattle.base.specs.declared.status.Status.TheVariants.{Done, No}
use Rattle.yds_texts.specs.CompareText.{plan_energy_line, TellOneEnergy, ComparedAsRounded, CostsNoLess, ComparedPlanIsCheapest, HoldsComparison, ComparedIsTooSlow, AreTold, IsToldSide}
use Rattle.yds_texts.specs.RoundText.{with_energy}
use Rattle.yds_energy.proofs.Compared.{plan_spends_its_rounding, plan_spends_least, hull_some_multiple}
use Rattle.yds_texts.proofs.Answered.{done_not_no, done_not_refused, no_not_refused, answered, on_points}
use Rattle.yds_texts.proofs.RoundText.{points_table, IsRounded, round_read, slow_answer}
use Rattle.yds_energy.proofs.TooSlow.{too_slow_is_exact}
use Rattle.yds_texts.proofs.Within.{read_is_within_limits}

-- # What `compare` writes

-- the answer of `compare` to a document with a table
record IsCompared (grid : ℕ) (input text : List ℕ) : Type 0 where
  document : Document
  read : reading input ≡ Ok document
  table : IsTable document.points
  answer : ComparedAnswer document grid text Done

-- it is one of two
compared_answer : (grid : ℕ) (text : List ℕ) (document : Document) → CompareAnswer document grid text Done → ComparedAnswer document grid text Done
compared_answer grid text document (inl slow) = absurd (done_not_no slow.ended)
compared_answer grid text document (inr answer) = answer

-- so its text is that of a comparison
compare_read : (grid : ℕ) (input text : List ℕ) → AnswersRequest (Some (OfDocument (AskCompare grid))) input text Done → IsCompared grid input text
compare_read grid input text answers =
    let is = answered (AskCompare grid) input text Done done_not_refused answers in
    let points = on_points (CompareAnswer is.document grid) is.document.points text Done done_not_refused is.answers in
    record {
      document = is.document;
      read = is.read;
      table = points_table is.document.points (read_is_within_limits input is.document is.read).points points.0;
      answer = compared_answer grid text is.document points.1;
    }

-- # The plan is the cheapest

-- what a policy's run spends isn't less than what the plan does
side_costs : (grid : ℕ) (input text : List ℕ) (is : IsCompared grid input text) (capacity : ℕ → List WholeSlot → Piece → ℕ) (slots : List WrittenSlot) (side : Side) →
    AtEachScale slots (λ scale whole. IsRunAt is.document.jobs grid scale (capacity scale whole) whole) → IsSide is.document.jobs is.document.points grid slots side →
    CostsNoLess is.answer.plan_spent.energy side
side_costs grid input text is capacity slots (Spends spent) run side =
    plan_spends_least is.document.jobs is.document.points is.answer.planned is.answer.levels is.answer.plan_spent grid capacity slots spent is.table is.answer.plan
    is.answer.plan_spends run side
side_costs grid input text is capacity slots (TooSlowFor units from to) run side = tt

-- the numbers are in lowest terms, with a time for each point
are_told : (jobs : List Job) (points : List Point) (slots : List WrittenSlot) (spent : Spent) → IsTable points → IsSpent jobs points slots spent → AreTold points spent
are_told jobs points slots spent table spends =
    let common = scale_exists slots spends.solid in
    let is = spends.holds common.0 common.1 in
    let some : 1 ≤ common.0 * hull_multiple points = mul-pos common.1.positive (hull_some_multiple points table) in
    let time : Point → Fraction = λ point. in_parts points common.0 (all_time_at jobs points common.0 (slots_at common.0 slots) point.speed) in
    record {
      energy = subst IsLowest (sym is.energy) (lowest_is_lowest _ _ some);
      a_time_each = ap (λ (times : List Fraction). length times) is.times ∙ length-map points time;
      times = subst (All IsLowest) (sym is.times) (All-map (λ (x : Fraction). IsLowest x) time points (λ k d within. lowest_is_lowest _ _ some));
    }

side_told : (jobs : List Job) (points : List Point) (grid : ℕ) (slots : List WrittenSlot) (side : Side) → IsTable points → IsSide jobs points grid slots side → IsToldSide points side
side_told jobs points grid slots (Spends spent) table is = are_told jobs points slots spent table is.is_spent
side_told jobs points grid slots (TooSlowFor units from to) table is = tt

-- the law of it
pub compared_plan_is_cheapest : ComparedPlanIsCheapest
compared_plan_is_cheapest grid input text answers =
    let is = compare_read grid input text answers in
    let jobs = is.document.jobs in
    let points = is.document.points in
    let answer = is.answer in
    record {
      document = is.document;
      read = is.read;
      answer = answer;
      plan_told = are_told jobs points answer.planned answer.plan_spent is.table answer.plan_spends;
      average_told = side_told jobs points grid answer.average_slots answer.average_side is.table answer.is_average;
      optimal_told = side_told jobs points grid answer.optimal_slots answer.optimal_side is.table answer.is_optimal;
      average_rate = side_costs grid input text is (average_rate jobs grid) answer.average_slots answer.average_side answer.average_run.run answer.is_average;
      optimal_available = side_costs grid input text is (optimal_available jobs grid) answer.optimal_slots answer.optimal_side answer.optimal_run.run answer.is_optimal;
    }

-- # As `round` tells it

-- the first line and all others
first_line : (first others average average_line optimal optimal_line : List ℕ) →
    (first ++ others) ++ average ++ average_line ++ optimal ++ optimal_line ≡ first ++ (others ++ average ++ average_line ++ optimal ++ optimal_line)
first_line first others average average_line optimal optimal_line = simp append_assoc

-- a point with its time
abbrev Timed : Type 0
Timed = Point × Fraction

-- both texts tell one energy
one_energy : (grid : ℕ) (input compared rounded : List ℕ) → IsCompared grid input compared → IsRounded input rounded → TellOneEnergy input compared rounded
one_energy grid input compared rounded is round =
    let document = is.document in
    let answer = is.answer in
    let same : round.document ≡ document = let read = is.read in let other = round.read in cc in
    let points = document.points in
    let spent = answer.plan_spent in
    let other_plan = subst (λ (d : Document). IsPlan d.jobs round.answer.planned round.answer.levels) same round.answer.plan in
    let rounding = subst (λ (d : Document). IsRounding d.jobs d.points round.answer.planned round.answer.levels round.answer.slots round.answer.energy) same round.answer.rounded in
    let energy : spent.energy ≡ round.answer.energy =
    plan_spends_its_rounding document.jobs points answer.planned round.answer.planned answer.levels round.answer.levels spent round.answer.slots round.answer.energy
    (read_is_within_limits input document is.read).jobs.jobs_fit is.table answer.plan answer.plan_spends other_plan rounding in
    let times = flat_map (λ (timed : Timed). line (codes "plan" ∷ codes "time" ∷ decimal timed.0.speed ∷ fraction_text timed.1 ∷ [])) (zip points spent.times) in
    let average = side_lines (codes "avr") points answer.average_side in
    let optimal = side_lines (codes "oa") points answer.optimal_side in
    let average_line = rounded_line (codes "avr") answer.average_rounded in
    let optimal_line = rounded_line (codes "oa") answer.optimal_rounded in
    record {
      document = document;
      slots = round.answer.slots;
      energy = round.answer.energy;
      other_lines = times ++ average ++ average_line ++ optimal ++ optimal_line;
      read = is.read;
      by_round = subst (λ (d : Document). rounded ≡ canonical_text (with_energy d round.answer.slots round.answer.energy)) same round.answer.said.written;
      by_compare = answer.said ∙ first_line (plan_energy_line spent.energy) times average average_line optimal optimal_line
          ∙ ap (λ x. plan_energy_line x ++ (times ++ average ++ average_line ++ optimal ++ optimal_line)) energy;
    }

-- # It ends as `round` does

-- an answer that says no and one that is done don't stand together
slow_and_done : (document : Document) (text other : List ℕ) (status end : Status) → TooSlowAnswer document text status → RoundedAnswer document other end → ⊥
slow_and_done document text other status end slow rounded =
    (too_slow_is_exact.first document.jobs document.points slow.slots slow.level slow.others slow.plan).0 slow.too_fast
    ((too_slow_is_exact.none document.jobs document.points rounded.planned rounded.levels rounded.plan).0 rounded.rounded.fast_enough)

done_and_slow : (document : Document) (grid : ℕ) (text other : List ℕ) (status end : Status) → ComparedAnswer document grid text status → TooSlowAnswer document other end → ⊥
done_and_slow document grid text other status end compared slow =
    (too_slow_is_exact.first document.jobs document.points slow.slots slow.level slow.others slow.plan).0 slow.too_fast
    ((too_slow_is_exact.none document.jobs document.points compared.planned compared.levels compared.plan).0 compared.fast_enough)

-- a comparison says no where no schedule stays at or below the top speed
pub compare_refuses : (document : Document) (grid : ℕ) (text : List ℕ) (status : Status) → CompareAnswer document grid text status → (CanServe (top_of document.points) document.jobs → ⊥) →
    status ≡ No
compare_refuses document grid text status (inl slow) unserved = slow.ended
compare_refuses document grid text status (inr compared) unserved =
    absurd (unserved ((too_slow_is_exact.none document.jobs document.points compared.planned compared.levels compared.plan).0 compared.fast_enough))

-- the answers about a document
ends_alike : (document : Document) (grid : ℕ) (text other : List ℕ) (status end : Status) → CompareAnswer document grid text status → RoundAnswer document other end → status ≡ end
ends_alike document grid text other status end (inl slow) (inl also) = slow.ended ∙ sym also.ended
ends_alike document grid text other status end (inl slow) (inr rounded) = absurd (slow_and_done document text other status end slow rounded)
ends_alike document grid text other status end (inr compared) (inl slow) = absurd (done_and_slow document grid text other status end compared slow)
ends_alike document grid text other status end (inr compared) (inr rounded) = compared.ended ∙ sym rounded.ended

-- also without points
points_alike : (document : Document) (points : List Point) (grid : ℕ) (text other : List ℕ) (status end : Status) → OnPoints (CompareAnswer document grid) points text status →
    OnPoints (RoundAnswer document) points other end → status ≡ end
points_alike document [] grid text other status end compared rounded = compared.ended ∙ sym rounded.ended
points_alike document (point ∷ points) grid text other status end compared rounded = ends_alike document grid text other status end compared rounded

-- and of what isn't read
reading_alike : (grid : ℕ) (read : Result Document (Fault Reason)) (text other : List ℕ) (status end : Status) → AnswersReading (AskCompare grid) read text status →
    AnswersReading AskRound read other end → status ≡ end
reading_alike grid (Ok document) text other status end compared rounded = points_alike document document.points grid text other status end compared rounded
reading_alike grid (Err fault) text other status end compared rounded = compared.ended ∙ sym rounded.ended

-- or too long
input_alike : (grid : ℕ) (input text other : List ℕ) (long : Bool) (status end : Status) → UnlessTooLong long (AnswersReading (AskCompare grid) (reading input)) text status →
    UnlessTooLong long (AnswersReading AskRound (reading input)) other end → status ≡ end
input_alike grid input text other true status end compared rounded = compared.ended ∙ sym rounded.ended
input_alike grid input text other false status end compared rounded = reading_alike grid (reading input) text other status end compared rounded

-- the law of both
pub compared_as_rounded : ComparedAsRounded
compared_as_rounded = record {
  energy = λ grid input compared rounded answers others. one_energy grid input compared rounded (compare_read grid input compared answers) (round_read input rounded others);
  status = λ grid input compared rounded one other answers others. input_alike grid input compared rounded (is_too_long input) one other answers others;
}

-- so what `compare` writes can be relied on
pub comparison_holds : (grid : ℕ) (input text : List ℕ) → AnswersRequest (Some (OfDocument (AskCompare grid))) input text Done → HoldsComparison grid input text
comparison_holds grid input text answers = record {
  cheapest = compared_plan_is_cheapest grid input text answers;
  as_rounded = λ rounded others. compared_as_rounded.energy grid input text rounded answers others;
}

-- # Where it says no

-- an answer that says no is that the points are too slow
slow_compared : (document : Document) (grid : ℕ) (text : List ℕ) → CompareAnswer document grid text No → TooSlowAnswer document text No
slow_compared document grid text (inl slow) = slow
slow_compared document grid text (inr compared) = absurd (done_not_no (sym compared.ended))

-- the law of it
pub compared_is_too_slow : ComparedIsTooSlow
compared_is_too_slow grid input text answers =
    let is = answered (AskCompare grid) input text No no_not_refused answers in
    let points = on_points (CompareAnswer is.document grid) is.document.points text No no_not_refused is.answers in
    slow_answer input text is.document is.read (inl (slow_compared is.document grid text points.1))
