-- What the answers of `avr` and `oa` are worth: their texts are read again as the document with the run, and `audit` answers them with
-- 'feasible'.
use Rattle.yds_model.proofs.Common.{◌≡◌, ℕ, ◌*◌, ◌≤◌, List, length, Some, Ok, subst, arith, length-map, Job, WrittenSlot, WholeSlot, AtEachScale, slot_at_scale, Piece, IsFeasible, IsRunAt, average_rate, IsAverageRateRun, optimal_available, IsOptimalAvailableRun, Document, reading, IsTextOf, AskAverageRate, AskOptimalAvailable, OfDocument, AnswersRequest}
use Rattle.model_lemmas.proofs.Scale.{scale_exists}
use Rattle.base.specs.declared.status.Status.TheVariants.{Done}
use Rattle.yds_laws.specs.RunLaws.{IsExactAverageRate, IsExactOptimalAvailable}
use Rattle.yds_laws.proofs.ExactRates.{average_rate_is_exact}
use Rattle.yds_laws.proofs.ExactRuns.{optimal_available_is_exact}
use Rattle.yds_texts.specs.RunText.{with_run, ReadRun, HoldsAverageRate, HoldsOptimalAvailable, RunsAreRead, RunsAreFeasible}
use Rattle.yds_texts.proofs.Answered.{done_not_refused, answered, text_read, audited}

-- the slots of a run are feasible, and at most three for a job
pub run_feasible : (jobs : List Job) (grid : ℕ) (capacity : ℕ → List WholeSlot → Piece → ℕ) (slots : List WrittenSlot) →
    AtEachScale slots (λ scale whole. IsRunAt jobs grid scale (capacity scale whole) whole) → IsFeasible jobs slots
run_feasible jobs grid capacity slots run = record { solid = run.solid; holds = λ scale is. (run.holds scale is).feasible }

pub run_few : (jobs : List Job) (grid : ℕ) (capacity : ℕ → List WholeSlot → Piece → ℕ) (slots : List WrittenSlot) →
    AtEachScale slots (λ scale whole. IsRunAt jobs grid scale (capacity scale whole) whole) → length slots ≤ 3 * length jobs
run_few jobs grid capacity slots run =
    let scale = scale_exists slots run.solid in
    omega (arith, (run.holds scale.0 scale.1).few, length-map slots (slot_at_scale scale.0))

-- a run whose text is that of the document with it
read_run : (IsRun : List Job → ℕ → ℕ → List WrittenSlot → Type 0) (IsExact : List Job → ℕ → List WrittenSlot → Type 0) (grid : ℕ) (input text : List ℕ) (document : Document) (slots : List WrittenSlot) (rounded : ℕ) →
    reading input ≡ Ok document → IsTextOf (with_run document slots grid rounded) text → IsRun document.jobs grid rounded slots → IsFeasible document.jobs slots →
    length slots ≤ 3 * length document.jobs → (1 ≤ grid → rounded ≡ 0 → IsExact document.jobs grid slots) → ReadRun IsRun IsExact grid input text
read_run IsRun IsExact grid input text document slots rounded read said run feasible few exact =
    let again = text_read (with_run document slots grid rounded) text said (omega (arith, few, said.possible.jobs.few)) (omega arith) (omega arith) (omega arith) in record {
      document = document;
      slots = slots;
      rounded = rounded;
      read = read;
      written = said.written;
      short = again.short;
      read_again = again.read_again;
      run = run;
      feasible = feasible;
      exact = exact said.possible.grid.some;
    }

average_rate_read : (grid : ℕ) (input text : List ℕ) → AnswersRequest (Some (OfDocument (AskAverageRate grid))) input text Done →
    HoldsAverageRate grid input text
average_rate_read grid input text answers =
    let is = answered (AskAverageRate grid) input text Done done_not_refused answers in
    let jobs = is.document.jobs in
    let answer = is.answers in
    read_run IsAverageRateRun IsExactAverageRate grid input text is.document answer.slots answer.rounded is.read answer.said answer.run
    (run_feasible jobs grid (average_rate jobs grid) answer.slots answer.run.run) (run_few jobs grid (average_rate jobs grid) answer.slots answer.run.run)
    (λ some none. average_rate_is_exact jobs grid answer.slots some (subst (λ rounded. IsAverageRateRun jobs grid rounded answer.slots) none answer.run))

optimal_available_read : (grid : ℕ) (input text : List ℕ) → AnswersRequest (Some (OfDocument (AskOptimalAvailable grid))) input text Done →
    HoldsOptimalAvailable grid input text
optimal_available_read grid input text answers =
    let is = answered (AskOptimalAvailable grid) input text Done done_not_refused answers in
    let jobs = is.document.jobs in
    let answer = is.answers in
    read_run IsOptimalAvailableRun IsExactOptimalAvailable grid input text is.document answer.slots answer.rounded is.read answer.said answer.run
    (run_feasible jobs grid (optimal_available jobs grid) answer.slots answer.run.run) (run_few jobs grid (optimal_available jobs grid) answer.slots answer.run.run)
    (λ some none. optimal_available_is_exact jobs grid answer.slots some (subst (λ rounded. IsOptimalAvailableRun jobs grid rounded answer.slots) none answer.run))

-- the law: the texts are read again
pub runs_are_read : RunsAreRead
runs_are_read = record { average_rate = average_rate_read; optimal_available = optimal_available_read }

-- the law: `audit` answers such a text with 'feasible'
pub runs_are_feasible : RunsAreFeasible
runs_are_feasible = record {
  average_rate = λ grid input text answers.
      let is = average_rate_read grid input text answers in audited text (with_run is.document is.slots grid is.rounded) is.short is.read_again is.feasible;
  optimal_available = λ grid input text answers.
      let is = optimal_available_read grid input text answers in audited text (with_run is.document is.slots grid is.rounded) is.short is.read_again is.feasible;
}
