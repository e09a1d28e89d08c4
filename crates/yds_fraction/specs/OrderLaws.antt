-- The laws of the order by cross products.
use Rattle.std.proofs.Common.{◌≡◌, ℕ, ◌*◌, ◌<◌, ◌≤◌, ap, sym, ◌∙◌, refl, arith}
use Rattle.std.specs.declared.cmp.Ordering.{Ordering}
use Rattle.std.specs.declared.cmp.Ordering.TheVariants.{Less, Equal, Greater}
use Rattle.std.specs.Ordering.{MatchOrdering, nat_cmp}
use Rattle.std.specs.Cmp.{IsTotalOrder, IsEquivalence, IsPartialOrder, po, nat_cmp_is}
use Rattle.std.specs.Prelude.{Some}
use Rattle.std.proofs.lemmas.Cmp.{ranked, on_total, eq_by_cmp_equiv, nat_cmp_total}
use Rattle.std.proofs.Math.Nat.{mul-lt-mul_of_pos_left}
use Rattle.yds_model.specs.Scale.{Quotient}
use Rattle.yds_fraction.specs.ValueOrder.{parts, quotient_cmp, quotient_same, quotient_of, fraction_cmp, fraction_same}

-- a positive factor keeps the answer
scaled_by : (k m n : ℕ) → 1 ≤ k → (r : Ordering) → MatchOrdering r (m < n) (m ≡ n) (n < m) → MatchOrdering r (k * m < k * n) (k * m ≡ k * n) (k * n < k * m)
scaled_by k m n some Less p = mul-lt-mul_of_pos_left p some
scaled_by k m n some Equal p = ap (λ x. k * x) p
scaled_by k m n some Greater p = mul-lt-mul_of_pos_left p some

pub nat_cmp-scaled : (k m n : ℕ) → 1 ≤ k → nat_cmp m n ≡ nat_cmp (k * m) (k * n)
nat_cmp-scaled k m n some = nat_cmp_is (k * m) (k * n) (nat_cmp m n) (scaled_by k m n some (nat_cmp m n) (ranked m n (nat_cmp m n) refl))

some_parts : (den : ℕ) → 1 ≤ parts den
some_parts den = omega arith

-- the comparison over the parts of a third quotient too
over : (x y z : Quotient) (a b : ℕ) → parts z.den * (x.num * parts y.den) ≡ a → parts z.den * (y.num * parts x.den) ≡ b → quotient_cmp x y ≡ nat_cmp a b
over x y z a b e f =
    nat_cmp-scaled (parts z.den) (x.num * parts y.den) (y.num * parts x.den) (some_parts z.den)
    ∙ ap (λ t. nat_cmp t (parts z.den * (y.num * parts x.den))) e ∙ ap (λ t. nat_cmp a t) f

pub quotient_total : IsTotalOrder quotient_cmp
quotient_total = record {
  antisymm = λ x y. nat_cmp_total.antisymm (x.num * parts y.den) (y.num * parts x.den);
  trans = λ x y z p q.
      let a = x.num * (parts y.den * parts z.den) in let b = y.num * (parts x.den * parts z.den) in let c = z.num * (parts x.den * parts y.den) in
      over x z y a c (omega arith) (omega arith) ∙ nat_cmp_total.trans a b c (sym (over x y z a b (omega arith) (omega arith)) ∙ p) (sym (over y z x b c (omega arith) (omega arith)) ∙ q);
  congr = λ x y z p.
      let a = x.num * (parts y.den * parts z.den) in let b = y.num * (parts x.den * parts z.den) in let c = z.num * (parts x.den * parts y.den) in
      over x z y a c (omega arith) (omega arith) ∙ nat_cmp_total.congr a b c (sym (over x y z a b (omega arith) (omega arith)) ∙ p) ∙ sym (over y z x b c (omega arith) (omega arith));
}

pub quotient_equivalence : IsEquivalence quotient_same
quotient_equivalence = eq_by_cmp_equiv quotient_total

pub quotient_order : IsPartialOrder quotient_same (λ x y. Some (quotient_cmp x y))
quotient_order = po quotient_total (λ _ _. refl)

pub fraction_total : IsTotalOrder fraction_cmp
fraction_total = on_total quotient_of quotient_total

pub fraction_equivalence : IsEquivalence fraction_same
fraction_equivalence = eq_by_cmp_equiv fraction_total

pub fraction_order : IsPartialOrder fraction_same (λ x y. Some (fraction_cmp x y))
fraction_order = po fraction_total (λ _ _. refl)
