use Rattle.yds_model.proofs.Common.{◌≡◌, ◌∙◌, Err, true, sym, ap, arith, err_from_is_err_and, is_number}
use Rattle.base.specs.declared.limits.TheConstants.{MAX_DENOMINATOR}
use Rattle.yds_text.specs.FractionParts.{is_bad}
use Rattle.yds_text.proofs.Digits.{Told, is_told}
use Rattle.yds_text.proofs.Fractions.{good_spelling, too_large, parts_out, parts_told, whole_bad, num_bad, den_bad}
use Rattle.yds_text.proofs.fraction.fraction_of_parts.Goals as goal
use Rattle.yds_text.proofs.fraction.fraction_of_parts.Goals.{then-is_bad-via-then-is_bad, then-is_bad-via-else-is_bad+then-is_bad-2, then-is_bad-via-else-is_bad+else-is_bad-2+then-is_bad-3}

pub returns-then-is_bad : goal.returns-then-is_bad
returns-then-is_bad c = λ most front above below whole num den. elim c.then-is_bad.branch [
  | then-is_bad-via-then-is_bad w ↦ sym (whole_bad most front above below (ap is_bad (sym whole) ∙ sym c.is_bad.ensures ∙ w.if-is_bad.true))
  | then-is_bad-via-else-is_bad+then-is_bad-2 w ↦ sym (num_bad most front above below (ap is_bad (sym num) ∙ sym w.is_bad-else-is_bad.ensures ∙ w.if-is_bad-2.true))
  | then-is_bad-via-else-is_bad+else-is_bad-2+then-is_bad-3 w ↦ sym (den_bad most front above below (ap is_bad (sym den) ∙ sym w.is_bad-else-is_bad-2.ensures ∙ w.if-is_bad-3.true))
]

pub returns-in_err-whole : goal.returns-in_err-whole
returns-in_err-whole c = λ most front above below whole num den.
    let p = err_from_is_err_and c.from_residual.result c.from_residual.ensures.1 in
    let first : is_number front ≡ true = good_spelling most front (ap is_bad (sym whole) ∙ sym c.is_bad.ensures ∙ c.if-is_bad.false) in
    let second : is_number above ≡ true = good_spelling MAX_DENOMINATOR above (ap is_bad (sym num) ∙ sym c.is_bad-else-is_bad.ensures ∙ c.if-is_bad-2.false) in
    let third : is_number below ≡ true = good_spelling MAX_DENOMINATOR below (ap is_bad (sym den) ∙ sym c.is_bad-else-is_bad-2.ensures ∙ c.if-is_bad-3.false) in
    let out = too_large most front c.in_err-whole.field-0.0 (sym whole ∙ c.in_err-whole.was) first in
    rw (p.1, p.2) (ap Err out.0 ∙ sym (parts_out most front above below first second third (λ small fine proper. omega (arith, out.1))))

pub returns-in_err-num : goal.returns-in_err-num
returns-in_err-num c = λ most front above below whole num den.
    let p = err_from_is_err_and c.from_residual-in_err-num.result c.from_residual-in_err-num.ensures.1 in
    let first : is_number front ≡ true = good_spelling most front (ap is_bad (sym whole) ∙ sym c.is_bad.ensures ∙ c.if-is_bad.false) in
    let second : is_number above ≡ true = good_spelling MAX_DENOMINATOR above (ap is_bad (sym num) ∙ sym c.is_bad-else-is_bad.ensures ∙ c.if-is_bad-2.false) in
    let third : is_number below ≡ true = good_spelling MAX_DENOMINATOR below (ap is_bad (sym den) ∙ sym c.is_bad-else-is_bad-2.ensures ∙ c.if-is_bad-3.false) in
    let out = too_large MAX_DENOMINATOR above c.in_err-num.field-0.0 (sym num ∙ c.in_err-num.was) second in
    rw (p.1, p.2) (ap Err out.0 ∙ sym (parts_out most front above below first second third (λ small fine proper. omega (arith, out.1))))

pub returns-in_err-den : goal.returns-in_err-den
returns-in_err-den c = λ most front above below whole num den.
    let p = err_from_is_err_and c.from_residual-in_err-den.result c.from_residual-in_err-den.ensures.1 in
    let first : is_number front ≡ true = good_spelling most front (ap is_bad (sym whole) ∙ sym c.is_bad.ensures ∙ c.if-is_bad.false) in
    let second : is_number above ≡ true = good_spelling MAX_DENOMINATOR above (ap is_bad (sym num) ∙ sym c.is_bad-else-is_bad.ensures ∙ c.if-is_bad-2.false) in
    let third : is_number below ≡ true = good_spelling MAX_DENOMINATOR below (ap is_bad (sym den) ∙ sym c.is_bad-else-is_bad-2.ensures ∙ c.if-is_bad-3.false) in
    let out = too_large MAX_DENOMINATOR below c.in_err-den.field-0.0 (sym den ∙ c.in_err-den.was) third in
    rw (p.1, p.2) (ap Err out.0 ∙ sym (parts_out most front above below first second third (λ small fine proper. omega (arith, out.1))))

pub returns : goal.returns
returns c = λ most front above below whole num den.
    let first : Told most front c.in_ok-whole.whole = is_told most front c.in_ok-whole.whole (sym whole ∙ c.in_ok-whole.was) in
    let second : Told MAX_DENOMINATOR above c.in_ok-num.num = is_told MAX_DENOMINATOR above c.in_ok-num.num (sym num ∙ c.in_ok-num.was) in
    let third : Told MAX_DENOMINATOR below c.in_ok-den.den = is_told MAX_DENOMINATOR below c.in_ok-den.den (sym den ∙ c.in_ok-den.was) in
    parts_told most front above below c.in_ok-whole.whole c.in_ok-num.num c.in_ok-den.den c.fraction_of.result first second third (c.fraction_of.ensures most first.within)
