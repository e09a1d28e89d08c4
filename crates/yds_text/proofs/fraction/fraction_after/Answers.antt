use Rattle.yds_model.proofs.Common.{ℕ, List, ◌+◌, ◌-◌, ◌∙◌, length, take, drop, get_or, sym, ap, arith, ne_eqb}
use Rattle.yds_text.specs.FractionParts.{fraction_of_parts}
use Rattle.yds_text.proofs.Fractions.{whole_rest, slash_fraction, unslashed_fraction, ended_fraction}
use Rattle.yds_text.proofs.fraction.fraction_after.Goals as goal

pub returns-then-len-text : goal.returns-then-len-text
returns-then-len-text c = λ most front whole. sym (ended_fraction most front c.args.text.now c.leading_number-num.result.1 c.leading_number-num.ensures.count (omega arith))

pub returns-then-text-len-ne47 : goal.returns-then-text-len-ne47
returns-then-text-len-ne47 c = λ most front whole.
    sym (unslashed_fraction most front c.args.text.now c.leading_number-num.result.1 (omega arith) c.leading_number-num.ensures.count
    (ne_eqb (get_or c.args.text.now c.leading_number-num.result.1 0) 47 c.if-text-len-ne47.true))

pub returns : goal.returns
returns c = λ most front whole.
    let front_part : List ℕ = take c.leading_number-num.result.1 c.args.text.now in
    let rest : List ℕ = drop (c.leading_number-num.result.1 + 1) c.args.text.now in
    c.fraction_of_parts.ensures most front front_part (take (length c.args.text.now - (c.leading_number-num.result.1 + 1)) rest) whole c.leading_number-num.ensures.value c.number_of-den.ensures.value
    ∙ ap (fraction_of_parts most front front_part) (whole_rest c.args.text.now (c.leading_number-num.result.1 + 1))
    ∙ sym (slash_fraction most front c.args.text.now c.leading_number-num.result.1 (omega arith) c.leading_number-num.ensures.count c.if-text-len-ne47.false)
