-- Fractions that are alike pass the test by which a line is read.
use Rattle.std.proofs.Common.{◌≡◌, ◌⊎◌, Bool, true, false, refl, inl, inr, eq-eqb}
use Rattle.std.specs.Prelude.{◌==◌, ◌||◌}
use Rattle.yds_model.specs.Scale.{Fraction, AreAlike}
use Rattle.yds_model.specs.Reading.{are_alike}

-- one of three tests that passes makes their disjunction pass
one_of_three : (a b c : Bool) → (a ≡ true) ⊎ ((b ≡ true) ⊎ (c ≡ true)) → (a || b || c) ≡ true
one_of_three true b c some = refl
one_of_three false true c some = refl
one_of_three false false true some = refl
one_of_three false false false (inl one) = one
one_of_three false false false (inr (inl one)) = one
one_of_three false false false (inr (inr one)) = one

-- fractions of one denominator pass, and so do two of which one is whole
pub alike_test : (x y : Fraction) → AreAlike x y → are_alike x y ≡ true
alike_test x y (inl same) = one_of_three (x.den == y.den) (x.den == 1) (y.den == 1) (inl (eq-eqb x.den y.den same))
alike_test x y (inr (inl one)) = one_of_three (x.den == y.den) (x.den == 1) (y.den == 1) (inr (inl (eq-eqb x.den 1 one)))
alike_test x y (inr (inr one)) = one_of_three (x.den == y.den) (x.den == 1) (y.den == 1) (inr (inr (eq-eqb y.den 1 one)))
