use Rattle.base.proofs.Common.{◌≡◌, ◌<◌, ◌^◌, ◌∙◌, ℕ, sym, ap, subst, arith, take, take-take, digits_value}
use Rattle.yds_kernel.specs.Parts.{capped}
use Rattle.yds_kernel.proofs.Digits.{few_digits}
use Rattle.yds_kernel.proofs.parts.front_number.Goals as goal

pub returns-clause-value : goal.returns-clause-value
returns-clause-value c =
    let found = c.in-Some-short_number.found in
    let front : take found.1 c.in-Some.front.now ≡ take found.1 c.args.bytes.now =
    ap (take found.1) c.in-Some.ensures.cases.same ∙ take-take found.1 8 c.args.bytes.now (omega (arith, c.in-Some-short_number.ensures.within)) in
    sym (few_digits found.0 found.1 c.in-Some-short_number.ensures.below (omega (arith, c.in-Some-short_number.ensures.within)))
    ∙ ap capped (c.in-Some-short_number.ensures.value ∙ ap (digits_value 10) front)

pub returns-clause-below : goal.returns-clause-below
returns-clause-below c =
    let found = c.in-Some-short_number.found in
    let front : take found.1 c.in-Some.front.now ≡ take found.1 c.args.bytes.now =
    ap (take found.1) c.in-Some.ensures.cases.same ∙ take-take found.1 8 c.args.bytes.now (omega (arith, c.in-Some-short_number.ensures.within)) in
    subst (λ (value : ℕ). value < 10 ^ found.1) (c.in-Some-short_number.ensures.value ∙ ap (digits_value 10) front) c.in-Some-short_number.ensures.below
