-- What `run` says of an answer's worth, as a caller gets it, and a near miss.
use Rattle.yds_model.proofs.Common.{◌≡◌, ℕ, List, [], ◌∷◌, Option, Some, None, codes, digits, refl, arith, sym, subst, IfSome, Appends, Document, no_document}
use Rattle.base.specs.declared.status.Status.{Status}
use Rattle.base.specs.declared.status.Status.TheVariants as statuses
use Rattle.yds_texts.specs.PlanText.{HoldsHeadline}
use Rattle.yds_answer.specs.Endings.{IsWhole}
use Rattle.yds_run.specs.Worth.{IsInputOf, IsWorth}

-- # A field of the clause

-- What `run` ensures of the words, the status, the input and what was written. So a plan that was written holds the headline.
headline_told : (words : List (List ℕ)) (result : Status) (left old new : Option (List ℕ))
    → (IsWhole result → IfSome left (λ input. (text : List ℕ) × Appends old new text × IsWorth words input text result))
    → words ≡ codes "plan" ∷ [] → result ≡ statuses.Done → IfSome left (λ input. (text : List ℕ) × Appends old new text × HoldsHeadline input text)
headline_told words result None old new worth plan done = tt
headline_told words result (Some input) old new worth plan done =
    let told = worth (subst IsWhole (sym done) tt) in
    (told.0, told.1, told.2.headline plan done)

-- # An input within the limits, and a run that refuses it

abbrev input : List ℕ
input = codes "job a 0 4 8\n"

abbrev document : Document
document = record no_document { names = codes "a" ∷ []; jobs = record { release = 0; deadline = 4; work = 8 } ∷ [] }

given : IsInputOf document input
unfolding digits
given = record { short = omega arith; read = refl }

-- a run that always answers 'refused' isn't worth what `plan` promises
refused_has_no_worth : (text : List ℕ) → IsWorth (codes "plan" ∷ []) input text statuses.Refused → ⊥
refused_has_no_worth text worth =
    let done = (worth.planned document refl given).0 in
    absurd cc
