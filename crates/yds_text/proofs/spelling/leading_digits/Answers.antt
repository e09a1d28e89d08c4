use Rattle.yds_model.proofs.Common.{inl, inr, arith, cases_lt}
use Rattle.yds_text.proofs.Digits.{digits_of_part}
use Rattle.yds_text.proofs.spelling.leading_digits.Goals as goal

pub returns-then-len-lt-SHORT-clause-count : goal.returns-then-len-lt-SHORT-clause-count
returns-then-len-lt-SHORT-clause-count c =
    digits_of_part c.args.text.now c.min.result c.few_digits-value.result.1 (omega (arith, c.min.ensures)) c.few_digits-value.ensures.count
    (elim (cases_lt c.few_digits-value.result.1 c.min.result) [ inl less ↦ inl less | inr more ↦ inr (omega (arith, c.min.ensures, c.few_digits-value.ensures.within)) ])
