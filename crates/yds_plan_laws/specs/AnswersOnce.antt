-- That what goes by a plan has one answer. The law is the contract of a public function of this crate.
use Rattle.std.specs.Prelude.{◌≡◌, ℕ, List, [], ◌∷◌, codes, Some}
use Rattle.yds_model.specs.Request.{OfTrial, request_of}
use Rattle.yds_laws.specs.AnswerLaws.{AnswerOnce}

-- To each input these forms of command have one text and status.
pub record PlansAnswerOnce : Type 0 where
  pub plan : AnswerOnce (codes "plan" ∷ [])
  pub report : AnswerOnce (codes "report" ∷ [])
  pub report_as_json : AnswerOnce (codes "report" ∷ codes "--json" ∷ [])
  pub curve : AnswerOnce (codes "curve" ∷ [])
  pub expand : AnswerOnce (codes "expand" ∷ [])
  pub trial : (words : List (List ℕ)) (seed jobs : ℕ) → request_of words ≡ Some (OfTrial seed jobs) → AnswerOnce words
