-- What the answer of `round` is worth: its text is read again as the document with the least energy, and `audit` answers it with
-- 'feasible', with the points and without. Where it says no, no schedule stays at or below the top speed.
use Rattle.yds_model.proofs.Common.{◌≡◌, ℕ, ◌≤◌, List, [], ◌∷◌, length, Some, Ok, refl, sym, arith, inl, inr, codes, Point, IsTable, top_of, CanServe, Feasible, Document, reading, ArePoints, RoundedAnswer, RoundAnswer, AuditAnswer, AskRound, AskAuditOnPoints, OfDocument, OnPoints, AnswersRequest}
use Rattle.model_lemmas.proofs.Verdicts.{table_verdict_is_exact}
use Rattle.base.specs.declared.limits.TheConstants.{MAX_JOBS}
use Rattle.base.specs.declared.status.Status.{Status}
use Rattle.base.specs.declared.status.Status.TheVariants.{Done, No}
use Rattle.yds_energy.specs.RoundingLaws.{IsFeasibleOnPoints}
use Rattle.yds_texts.specs.RoundText.{with_energy, LeastEnergy, RoundedHoldsLeastEnergy, RoundedIsAudited, HoldsTooSlow, RefusedIsTooSlow}
use Rattle.yds_texts.proofs.Answered.{done_not_no, no_not_refused, answered, on_points, text_read, slots_agree, answers_document, audited}
use Rattle.yds_energy.proofs.RoundedOnPoints.{rounded_is_feasible}
use Rattle.yds_energy.proofs.RoundedCheapest.{rounded_is_cheapest}
use Rattle.yds_energy.proofs.TooSlow.{too_slow_is_exact}

-- a question that asks for points is answered where there are some
pub points_answer : (Answered : List ℕ → Status → Type 0) (points : List Point) (text : List ℕ) (status : Status) → 1 ≤ length points → Answered text status →
    OnPoints Answered points text status
points_answer Answered [] text status some answers = absurd (omega (arith, some))
points_answer Answered (point ∷ points) text status some answers = answers

-- points of a document of which there are some are a table
pub points_table : (points : List Point) → ArePoints points → 1 ≤ length points → IsTable points
points_table points are some = grind arith

-- # What `round` writes

-- a plan of a document's jobs, rounded to its points, with the text of it
pub record IsRounded (input text : List ℕ) : Type 0 where
  pub document : Document
  pub read : reading input ≡ Ok document
  pub some : 1 ≤ length document.points
  pub answer : RoundedAnswer document text Done

-- so its text is that of a rounded plan
pub round_read : (input text : List ℕ) → AnswersRequest (Some (OfDocument AskRound)) input text Done → IsRounded input text
round_read input text answers = grind arith

-- whose table has the document's points
table_of : (input text : List ℕ) → (is : IsRounded input text) → IsTable is.document.points
table_of input text is = points_table is.document.points is.answer.said.possible.points is.some

-- so its slots are a feasible schedule on them
feasible_of : (input text : List ℕ) → (is : IsRounded input text) → IsFeasibleOnPoints is.document.jobs is.document.points is.answer.slots
feasible_of input text is =
    rounded_is_feasible is.document.jobs is.document.points is.answer.planned is.answer.levels is.answer.slots is.answer.energy is.answer.plan (table_of input text is) is.answer.rounded

-- and it is read again, with the least energy
least_of : (input text : List ℕ) → (is : IsRounded input text) → LeastEnergy input text is.document is.answer.slots is.answer.energy
least_of input text is =
    let answer = is.answer in
    let few : length is.document.jobs ≤ MAX_JOBS = answer.said.possible.jobs.few in
    let again = text_read (with_energy is.document answer.slots answer.energy) text answer.said (omega (arith, few, answer.rounded.few_slots)) (omega arith) (omega arith) (omega arith) in
    let feasible = feasible_of input text is in
    record {
      read = is.read;
      written = answer.said.written;
      short = again.short;
      read_again = again.read_again;
      feasible = feasible.feasible;
      on_points = feasible.on_points;
      spent = answer.rounded.energy_of;
      lowest = answer.rounded.lowest;
      least = rounded_is_cheapest is.document.jobs is.document.points answer.planned answer.levels answer.slots answer.energy answer.plan (table_of input text is) answer.rounded;
    }

-- the law of it
pub rounded_holds_least_energy : RoundedHoldsLeastEnergy
rounded_holds_least_energy input text answers =
    let is = round_read input text answers in (is.document, is.answer.slots, is.answer.energy, least_of input text is)

-- # What `audit` answers to it

-- 'feasible' with the points
audited_on_points : (input text : List ℕ) → IsRounded input text → AnswersRequest (Some (OfDocument AskAuditOnPoints)) text (codes "feasible\n") Done
audited_on_points input text is =
    let least = least_of input text is in
    let whole = with_energy is.document is.answer.slots is.answer.energy in
    answers_document AskAuditOnPoints text (codes "feasible\n") whole least.short least.read_again
    (points_answer (AuditAnswer whole (Some is.document.points)) is.document.points (codes "feasible\n") Done is.some record {
      verdict = Feasible;
      is_verdict = (table_verdict_is_exact is.document.jobs is.document.points is.answer.slots (slots_agree whole is.answer.said.possible)).1 (least.feasible, least.on_points);
      said = refl;
      ended = refl;
    })

-- the law: also without
pub rounded_is_audited : RoundedIsAudited
rounded_is_audited = record {
  feasible = λ input text answers.
      let (document, slots, energy, least) = rounded_holds_least_energy input text answers in
      audited text (with_energy document slots energy) least.short least.read_again least.feasible;
  on_points = λ input text answers. audited_on_points input text (round_read input text answers);
}

-- # Too slow

-- the answer of `round` where it says no
pub slow_answer : (input text : List ℕ) (document : Document) → reading input ≡ Ok document → RoundAnswer document text No → HoldsTooSlow input text
slow_answer input text document read (inl slow) = (
  document,
  slow.slots,
  slow.level ∷ slow.others,
  record {
    read = read;
    plan = slow.plan;
    some = omega arith;
    faster = slow.too_fast;
    written = slow.said;
    unserved = (too_slow_is_exact.first document.jobs document.points slow.slots slow.level slow.others slow.plan).0 slow.too_fast;
  },
)
slow_answer input text document read (inr answer) = absurd (done_not_no (sym answer.ended))

-- it says no where no schedule stays at or below the top speed
pub round_refuses : (document : Document) (text : List ℕ) (status : Status) → RoundAnswer document text status → (CanServe (top_of document.points) document.jobs → ⊥) → status ≡ No
round_refuses document text status (inl slow) unserved = slow.ended
round_refuses document text status (inr answer) unserved =
    absurd (unserved ((too_slow_is_exact.none document.jobs document.points answer.planned answer.levels answer.plan).0 answer.rounded.fast_enough))

-- the law of it
pub refused_is_too_slow : RefusedIsTooSlow
refused_is_too_slow input text answers =
    let is = answered AskRound input text No no_not_refused answers in
    let points = on_points (RoundAnswer is.document) is.document.points text No no_not_refused is.answers in
    slow_answer input text is.document is.read points.1
