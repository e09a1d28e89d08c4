-- The law of answers. It is the contract of a public function of this crate.
use Rattle.std.specs.Prelude.{◌≡◌, ℕ, List, [], ◌∷◌, codes}
use Rattle.base.specs.declared.status.Status.{Status}
use Rattle.yds_model.specs.Answer.{Answers}

-- to each input these words have at most one text and status
abbrev pub AnswerOnce : List (List ℕ) → Type 0
AnswerOnce words = (input text other : List ℕ) (status end : Status) → Answers words input text status → Answers words input other end →
    (text ≡ other) × (status ≡ end)

-- `audit` and `check` have one answer to each input.
pub record AuditAndCheckAnswerOnce : Type 0 where
  pub audit : AnswerOnce (codes "audit" ∷ [])
  pub audit_on_points : AnswerOnce (codes "audit" ∷ codes "--points" ∷ [])
  pub check : AnswerOnce (codes "check" ∷ [])
