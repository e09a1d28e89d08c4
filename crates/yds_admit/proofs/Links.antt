-- Links between places, over gaps of which nothing is left.
use Rattle.yds_model.proofs.Common.{◌≡◌, ℕ, zero, suc, ◌+◌, ◌-◌, ◌<◌, ◌≤◌, List, length, get_or, set, ◌∙◌, subst, arith, ap, get_or-set_same, get_or-set_other, length-set, range_with_len, cases_lt, cases_eq, set-get_or, get_or-range_with_len, length-range_with_len}
use Rattle.yds_admit.specs.Chain.{Takes, AreLinks, AreEmpty}
use Rattle.yds_admit.proofs.GoingOn.{some_taken}

-- a link that is led on by the link at its end
pub shorter : (gaps links : List ℕ) (at : ℕ) → AreLinks gaps links → at < length links → get_or links at 0 < at →
    AreLinks gaps (set links at (get_or links (get_or links at 0) 0))
shorter gaps links at are below less = grind (arith, cases_eq, cases_lt, get_or-set_other, get_or-set_same, length-set, set)

-- a gap that gets less
pub less_left : (gaps links : List ℕ) (at taken : ℕ) → AreLinks gaps links → at < length gaps → AreLinks (set gaps at (get_or gaps at 0 - taken)) links
less_left gaps links at taken are below = grind (arith, cases_eq, get_or-set_other, get_or-set_same, length-set, set)

-- a link to the place before, over a gap of which nothing is left, or to the place itself
pub linked : (gaps links : List ℕ) (at link : ℕ) → AreLinks gaps links → at < length gaps → at ≤ link → link ≤ at + 1 → (link ≡ at → get_or gaps at 0 ≡ 0) →
    AreLinks gaps (set links (at + 1) link)
linked gaps links at link are below from_at to_next empty = grind (arith, cases_eq, get_or-set_other, get_or-set_same, length-set, set)

-- units go on over gaps of which nothing is left
pub slides : (old new : List ℕ) (place units to : ℕ) (left more : ℕ) → Takes old place units new (to + more) left → to + more ≤ length old →
    AreEmpty new to (to + more) → Takes old place units new to left
slides old new place units to left zero takes within empty = subst (λ (at : ℕ). Takes old place units new at left) (let e : to + zero ≡ to = omega arith in e) takes
slides old new place units to left (suc more) takes within empty =
    let at : ℕ = to + more in
    let none : get_or new at 0 ≡ 0 = empty at (omega arith) (omega arith) in
    let step = some_taken old new place units at left 0 (subst (λ (n : ℕ). Takes old place units new n left) (let e : to + suc more ≡ suc (to + more) = omega arith in e) takes)
    (omega arith) (omega (arith, none)) in
    let whole : set new at (get_or new at 0 - 0) ≡ new = ap (set new at) (let e : get_or new at 0 - 0 ≡ get_or new at 0 = omega arith in e) ∙ set-get_or new at 0 in
    slides old new place units to left more
    (subst (λ (n : ℕ). Takes old place units new at n) (let e : left - 0 ≡ left = omega arith in e)
    (subst (λ (gaps : List ℕ). Takes old place units gaps at (left - 0)) whole step))
    (omega arith) (λ q from below. empty q from (omega arith))

-- links of each place to itself
pub own_are : (gaps : List ℕ) (n : ℕ) → length gaps + 1 ≡ n → AreLinks gaps (range_with_len 0 n)
own_are gaps n long = grind (arith, get_or-range_with_len, length-range_with_len)

-- # Following the links

pub still_back : (links : List ℕ) (at : ℕ) → ((p : ℕ) → p < length links → get_or links p 0 ≤ p) → at < length links → get_or links at 0 < at →
    (p : ℕ) → p < length (set links at (get_or links (get_or links at 0) 0)) → get_or (set links at (get_or links (get_or links at 0) 0)) p 0 ≤ p
still_back links at back below less p within = grind (arith, cases_eq, get_or-set_other, get_or-set_same, length-set, set)

pub emptier : (gaps links : List ℕ) (at place : ℕ) → AreLinks gaps links → at < length links → get_or links at 0 < at → AreEmpty gaps at place →
    AreEmpty gaps (get_or links (get_or links at 0) 0) place
emptier gaps links at place are below less empty q from to = grind (arith, cases_lt)
