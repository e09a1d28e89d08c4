-- Numbers by their first digits, and names as text.
use Rattle.yds_model.proofs.Common.{◌≡◌, ℕ, ◌≤◌, List, length, take, Option, Result, Ok, Err, MatchResult, IfNone, sym, subst, arith, result_ok, digits_value, digits_value-take-le}
use Rattle.yds_text.proofs.Digits.{front_of_part}

-- the first digits of a text write no more than all those at its front
pub front_above : (text : List ℕ) (few len : ℕ) → few ≤ len → len ≤ length text → digits_value 10 (take few text) ≤ digits_value 10 (take len text)
front_above text few len fewer within =
    rw (sym (front_of_part text few len fewer within)) (digits_value-take-le 10 (take len text) few (omega arith))

-- reading bytes that are text as text gives one
pub some_text : {T E : Type 0} (P Q : Type 0) (IsSame : T → Type 0) (IsFault : E → Type 0) (read : Result T E) (result : Option T) →
    result ≡ result_ok read → MatchResult read IsSame (λ error. ¬ P × IsFault error) → P → IfNone result Q
some_text P Q IsSame IsFault (Ok value) result same cases here = subst (λ result. IfNone result Q) (sym same) tt
some_text P Q IsSame IsFault (Err error) result same cases here = absurd (cases.0 here)
