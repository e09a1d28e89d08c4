-- Units that go on before gaps, one gap after another.
use Rattle.yds_model.proofs.Common.{◌≡◌, ℕ, suc, ◌+◌, ◌-◌, ◌<◌, ◌⊎◌, min, List, length, get_or, set, ◌∙◌, sym, arith, inl, inr, ap, cond, ◌==◌, get_or-set_same, get_or-set_other, length-set, cases_eq, eq-eqb, ne_eqb}
use Rattle.yds_admit.specs.Chain.{IsChain, Takes}

-- a number at one place alone
here : (q place x : ℕ) → q ≡ place → cond (q == place) x 0 ≡ x
here q place x same = ap {B = ℕ} (λ b. cond b x 0) (eq-eqb q place same)

elsewhere : (q place x : ℕ) → (q ≡ place → ⊥) → cond (q == place) x 0 ≡ 0
elsewhere q place x other = ap {B = ℕ} (λ b. cond b x 0) (ne_eqb q place other)

nothing_there : (q place : ℕ) → ◌≡◌ {A = ℕ} (cond (q == place) 0 0) 0
nothing_there q place = elim (cases_eq q place) [ inl same ↦ here q place 0 same | inr other ↦ elsewhere q place 0 other ]

-- units that go on before the gap before their place
module _ (m : ℕ) (reach due_by before : ℕ → ℕ) (gaps : List ℕ) (at left taken : ℕ) (chain : IsChain m reach due_by before gaps (suc at) left) (within : at < m)
    (is : taken ≡ min left (get_or gaps at 0)) where
  abbrev gone_on : ℕ → ℕ
  gone_on q = before q + cond (q == at) (left - taken) 0

  next_gap : get_or (set gaps at (get_or gaps at 0 - taken)) at 0 ≡ get_or gaps at 0 - taken
  next_gap = let there : at < length gaps = omega (arith, chain.as_long) in get_or-set_same gaps at (get_or gaps at 0 - taken) 0 there

  other_gap : (q : ℕ) → (q ≡ at → ⊥) → get_or (set gaps at (get_or gaps at 0 - taken)) q 0 ≡ get_or gaps q 0
  other_gap q other = get_or-set_other gaps at q (get_or gaps at 0 - taken) 0 other

  goes_on : IsChain m reach due_by gone_on (set gaps at (get_or gaps at 0 - taken)) at (left - taken)
  goes_on = grind (arith, cases_eq, elsewhere, here, length-set, next_gap, other_gap, set)

first_gets : (at left : ℕ) → (left ≡ 0) ⊎ (at ≡ 0) → cond (at == 0) left 0 ≡ left
first_gets at left (inl none) = ap {B = ℕ} (λ n. cond (at == 0) n 0) none ∙ nothing_there at 0 ∙ sym none
first_gets at left (inr first) = here at 0 left first

-- none goes on any more, or there is no gap more
pub ended : (m : ℕ) (reach due_by before : ℕ → ℕ) (gaps : List ℕ) (at left rest : ℕ) → IsChain m reach due_by before gaps at left →
    (left ≡ 0) ⊎ (at ≡ 0) → IsChain m reach due_by before gaps 0 rest
ended m reach due_by before gaps at left rest chain over = grind (arith, elsewhere)

either_way : (at x : ℕ) → cond (0 == at) x 0 ≡ cond (at == 0) x 0
either_way at x = grind (arith, cases_eq, elsewhere, here)

-- # Taking units from the gaps before a place

pub none_taken : (gaps : List ℕ) (place units : ℕ) → Takes gaps place units gaps place units
none_taken gaps place units = grind arith

pub some_taken : (old new : List ℕ) (place units at left taken : ℕ) → Takes old place units new (suc at) left → at < length old →
    taken ≡ min left (get_or new at 0) → Takes old place units (set new at (get_or new at 0 - taken)) at (left - taken)
some_taken old new place units at left taken takes below is = record {
  as_long = length-set new at (get_or new at 0 - taken) ∙ takes.as_long;
  within = omega (arith, takes.within);
  chain = λ m reach due_by before chain.
      let reached = takes.chain m reach due_by before chain in
      let short : at < m = omega (arith, below, takes.as_long, reached.1.as_long) in (
        gone_on m reach due_by reached.0 new at left taken reached.1 short is,
        goes_on m reach due_by reached.0 new at left taken reached.1 short is,
        omega (arith, reached.2, elsewhere (suc at) 0 left (λ e. omega (arith, e)), either_way at (left - taken)),
      );
}

pub all_taken : (old new : List ℕ) (place units at left : ℕ) → Takes old place units new at left → (left ≡ 0) ⊎ (at ≡ 0) → Takes old place units new 0 left
all_taken old new place units at left takes over = record {
  as_long = takes.as_long;
  within = takes.within;
  chain = λ m reach due_by before chain.
      let reached = takes.chain m reach due_by before chain in (
        reached.0,
        ended m reach due_by reached.0 new at left left reached.1 over,
        omega (arith, reached.2, first_gets at left over),
      );
}
