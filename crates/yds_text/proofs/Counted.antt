-- A count of fields that is right is so whatever reason stands for a wrong one.
use Rattle.yds_model.proofs.Common.{◌≡◌, ℕ, ◌+◌, ◌-◌, List, length, Bool, true, false, Result, Ok, refl, nat_lt, ◌==◌, if◌then◌else◌, Field, Spot, refuse, demand, field_at, past_end, count_fields}
use Rattle.yds_text.specs.Count.{no_reason}

abbrev counted_by : {R : Type 0} → R → Bool → Bool → ℕ → ℕ → Result Bool (Spot R)
counted_by reason many just high low = if many then refuse high reason else demand just low reason

taken_by : {R : Type 0} (reason : R) (many just : Bool) (high low : ℕ) → counted_by no_reason many just high low ≡ Ok true → counted_by reason many just high low ≡ Ok true
taken_by reason true just high low is = cc
taken_by reason false true high low is = refl
taken_by reason false false high low is = cc

pub counted_for : {R : Type 0} (reason : R) (wanted : ℕ) (fields : List Field) → count_fields no_reason wanted fields ≡ Ok true → count_fields reason wanted fields ≡ Ok true
counted_for reason wanted fields is =
    taken_by reason (nat_lt (wanted + 1) (length fields)) (length fields == wanted + 1) (field_at fields (wanted + 1)).column (past_end (field_at fields (length fields - 1))) is
