-- What the answers of `audit` and `check` are worth, as laws of the relation of words, input, text and status.
use Rattle.std.specs.Prelude.{◌≡◌, ◌⊎◌, ◌↔◌, ℕ, List, [], ◌∷◌, codes, Some, Ok}
use Rattle.std.specs.List.{All}
use Rattle.base.specs.declared.status.Status.{Status}
use Rattle.base.specs.declared.status.Status.TheVariants.{Done, No}
use Rattle.yds_model.specs.Job.{Job}
use Rattle.yds_model.specs.Slot.{WrittenSlot}
use Rattle.yds_model.specs.Level.{Level}
use Rattle.yds_model.specs.Feasible.{IsFeasible}
use Rattle.yds_model.specs.Excess.{IsLeast}
use Rattle.yds_model.specs.Explains.{Explains}
use Rattle.yds_model.specs.Proper.{IsProper}
use Rattle.yds_model.specs.Audit.{IsOnTable}
use Rattle.yds_model.specs.Document.{Document}
use Rattle.yds_model.specs.Reading.{reading}
use Rattle.yds_model.specs.Answer.{Answers}
use Rattle.yds_energy.specs.EnergyLaws.{IsCheapest}

-- The input is a document, and the answer tells whether it is as wanted: the status is 'done' exactly where it is, and 'no' exactly where
-- it isn't, and the text is this line exactly where it is.
pub record TellsWhether (IsWanted : Document → Type 0) (line input text : List ℕ) (status : Status) : Type 0 where
  pub document : Document
  pub read : reading input ≡ Ok document
  pub done : (status ≡ Done) ↔ IsWanted document
  pub no : (status ≡ No) ↔ (IsWanted document → ⊥)
  pub told : (text ≡ line) ↔ IsWanted document

-- the levels are a proper certificate of the slots
abbrev pub IsCertified : Document → Type 0
IsCertified document = IsProper document.jobs document.slots document.levels

-- What a proper certificate is worth: the slots give every job its work inside its window and, for every speed, do no more work above it
-- than any feasible schedule, as the levels show. By every convex table of points they take no more energy than any feasible schedule.
pub record AreBestSlots (jobs : List Job) (slots : List WrittenSlot) (levels : List Level) : Type 0 where
  pub feasible : IsFeasible jobs slots
  pub least : IsLeast jobs slots
  pub explained : Explains jobs slots levels
  pub cheapest : IsCheapest jobs slots

-- The judgement of `check`: it tells whether the document's levels are a proper certificate of its slots. Where they are, the slots are as good
-- as that shows.
pub record HoldsJudgement (input text : List ℕ) (status : Status) : Type 0 where
  pub tells : TellsWhether IsCertified (codes "accepted\n") input text status
  pub worth : IsCertified tells.document → AreBestSlots tells.document.jobs tells.document.slots tells.document.levels

-- the slots give every job its work inside its window, one job at a time
abbrev pub IsServed : Document → Type 0
IsServed document = IsFeasible document.jobs document.slots

-- and each runs at the speed of one of the points
abbrev pub IsServedOnPoints : Document → Type 0
IsServedOnPoints document = IsFeasible document.jobs document.slots × All (IsOnTable (Some document.points)) document.slots

-- The verdict of `audit`: it tells whether the document's slots are feasible.
abbrev pub HoldsVerdict : List ℕ → List ℕ → Status → Type 0
HoldsVerdict input text status = TellsWhether IsServed (codes "feasible\n") input text status

-- That of `audit --points`: it tells whether besides each runs at the speed of a point.
abbrev pub HoldsVerdictOnPoints : List ℕ → List ℕ → Status → Type 0
HoldsVerdictOnPoints input text status = TellsWhether IsServedOnPoints (codes "feasible\n") input text status

-- the answer is a yes or a no
abbrev pub IsJudged : Status → Type 0
IsJudged status = (status ≡ Done) ⊎ (status ≡ No)

-- so it holds of each answer to the words that is a yes or a no
abbrev pub AreJudged : List (List ℕ) → (List ℕ → List ℕ → Status → Type 0) → Type 0
AreJudged words Holds = (input text : List ℕ) (status : Status) → IsJudged status → Answers words input text status → Holds input text status

-- Where `check` says yes or no, its answer holds the judgement,
abbrev pub JudgementsTellProper : Type 0
JudgementsTellProper = AreJudged (codes "check" ∷ []) HoldsJudgement

-- and where `audit` does, with the points or without, it holds the verdict.
pub record VerdictsTellFeasible : Type 0 where
  pub audit : AreJudged (codes "audit" ∷ []) HoldsVerdict
  pub on_points : AreJudged (codes "audit" ∷ codes "--points" ∷ []) HoldsVerdictOnPoints
