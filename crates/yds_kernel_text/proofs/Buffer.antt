-- A range of a buffer, its front and what is left of it.
use Rattle.base.proofs.Common.{◌≡◌, ℕ, ◌+◌, ◌-◌, ◌≤◌, List, length, take, drop, sym, ap, ◌∙◌, arith, inl, inr, length-drop, length-take-le, take-take, drop-drop, take_all, drop_all, cases_lt, le_refl}
use Rattle.std.proofs.lemmas.List.{drop-take}

pub range_len : (bytes : List ℕ) (start end : ℕ) → start ≤ end → end ≤ length bytes → length (take (end - start) (drop start bytes)) ≡ end - start
range_len bytes start end ordered within = length-take-le (end - start) (drop start bytes) (omega (arith, length-drop start bytes))

-- the front of a range
pub range_front : (bytes : List ℕ) (start end count : ℕ) → count ≤ end - start → take count (take (end - start) (drop start bytes)) ≡ take (start + count - start) (drop start bytes)
range_front bytes start end count within =
    let same : count ≡ start + count - start = omega arith in
    take-take count (end - start) (drop start bytes) within ∙ ap (λ (n : ℕ). take n (drop start bytes)) same

-- what is left of a range behind its first bytes
pub range_rest : (bytes : List ℕ) (start end count : ℕ) → start + count ≤ end → take (end - (start + count)) (drop (start + count) bytes) ≡ drop count (take (end - start) (drop start bytes))
range_rest bytes start end count within =
    let parts : end - start ≡ count + (end - (start + count)) = omega arith in
    sym (ap (λ (n : ℕ). drop count (take n (drop start bytes))) parts
    ∙ drop-take count (end - (start + count)) (drop start bytes)
    ∙ ap (take (end - (start + count))) (drop-drop count start bytes))

-- a part of a range from its begin on, and its front
pub front_of_range : (bytes : List ℕ) (start len count : ℕ) → count ≤ len → take (start + count - start) (drop start bytes) ≡ take count (take (start + len - start) (drop start bytes))
front_of_range bytes start len count within =
    let more : start + len - start ≡ len = omega arith in
    let same : start + count - start ≡ count = omega arith in
    ap (λ (n : ℕ). take n (drop start bytes)) same ∙ sym (take-take count len (drop start bytes) within) ∙ ap (λ (n : ℕ). take count (take n (drop start bytes))) (sym more)
