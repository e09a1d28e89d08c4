-- What was read before what is still to come.
use Rattle.base.proofs.Common.{◌≡◌, List, [], ◌∷◌, ◌++◌, Result, Ok, Err, refl, sym, ap, append_assoc}
use Rattle.yds_trace_words.specs.Words.{WordFault, before}

abbrev pub ahead : {A : Type 0} → List A → Result (List A) WordFault → Result (List A) WordFault
ahead done (Ok xs) = Ok (done ++ xs)
ahead done (Err fault) = Err fault

pub ahead_more : {A : Type 0} (done : List A) (x : A) (more : Result (List A) WordFault) → ahead done (before x more) ≡ ahead (done ++ x ∷ []) more
ahead_more done x (Ok xs) = ap Ok (sym (append_assoc done (x ∷ []) xs))
ahead_more done x (Err fault) = refl
