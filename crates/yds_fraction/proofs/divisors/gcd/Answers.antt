use Rattle.yds_model.proofs.Common.{◌*◌, ◌^◌, ◌<◌, subst, arith, IsGcd, trailing_zeros, w64, mod-eq_of_lt, IsGcd-from_zero, IsGcd-swap, le_of_dvd, same_from_IsGcd}
use Rattle.fraction_lemmas.proofs.Divisor.{divisor_is_greatest}
use Rattle.yds_fraction.proofs.Halves.{divisor_of_parts}
use Rattle.yds_fraction.proofs.divisors.gcd.Goals as goal

pub returns-then-a-eq0-clause-value : goal.returns-then-a-eq0-clause-value
returns-then-a-eq0-clause-value c =
    same_from_IsGcd _ _ _ _ (IsGcd-swap c.args.b c.args.a c.args.b (IsGcd-from_zero c.args.b c.args.a (omega arith))) (divisor_is_greatest c.args.a c.args.b)

pub returns-clause-greatest : goal.returns-clause-greatest
returns-clause-greatest c =
    let whole : IsGcd c.args.a c.args.b (2 ^ c.min.result * c.odd_gcd.result) =
    divisor_of_parts _ _ (trailing_zeros w64 c.args.a) (trailing_zeros w64 c.args.b) c.min.result _ _ c.odd_gcd.result
    c.odd_part.ensures.parts c.odd_part-2.ensures.parts c.min.ensures c.odd_part.ensures.odd c.odd_part-2.ensures.odd c.odd_gcd.ensures in
    let within : 2 ^ c.min.result * c.odd_gcd.result < 18446744073709551616 = omega (arith, le_of_dvd {n = c.args.a} (omega arith) whole.0) in
    subst (IsGcd c.args.a c.args.b) (let kept = mod-eq_of_lt within in omega (arith, kept)) whole

pub returns-clause-value : goal.returns-clause-value
returns-clause-value c = same_from_IsGcd _ _ _ _ (returns-clause-greatest c) (divisor_is_greatest c.args.a c.args.b)
