-- Texts that are compared by two halves, which may overlap.
use Rattle.base.proofs.Common.{◌≡◌, ℕ, ◌+◌, ◌-◌, ◌≤◌, ◌++◌, List, length, take, drop, true, sym, ap, ap₂, ◌∙◌, arith, take-append-drop, drop-drop}
use Rattle.std.specs.Str.{bytes_eq}
use Rattle.std.proofs.lemmas.Slice.Eq.{bytes_eq-Decides}
use Rattle.std.proofs.lemmas.Bool.Decides.{same_from_decides}

-- what is behind a half is in the other one
behind : (text : List ℕ) (half : ℕ) → half ≤ length text → length text ≤ half + half → drop half text ≡ drop (half + half - length text) (drop (length text - half) text)
behind text half long short =
    let place : length text - half + (half + half - length text) ≡ half = omega (arith, long, short) in
    sym (drop-drop (half + half - length text) (length text - half) text ∙ ap (λ (from : ℕ). drop from text) place)

-- texts are the same where both halves are
pub halves_same : (one other : List ℕ) (half : ℕ) → length one ≡ length other → half ≤ length one → length one ≤ half + half → bytes_eq (take half one) (take half other) ≡ true →
    bytes_eq (drop (length one - half) one) (drop (length other - half) other) ≡ bytes_eq one other
halves_same one other half same_len long short front =
    let begin : take half one ≡ take half other = (bytes_eq-Decides (take half one) (take half other)).0 front in
    let joined : drop (length one - half) one ≡ drop (length other - half) other → one ≡ other =
    λ end. sym (take-append-drop half one)
    ∙ ap₂ ◌++◌ begin
    (behind one half long short
    ∙ ap₂ (λ (len : ℕ) (text : List ℕ). drop (half + half - len) text) same_len end
    ∙ sym (behind other half (omega (arith, same_len, long)) (omega (arith, same_len, short))))
    ∙ take-append-drop half other in
    let apart : one ≡ other → drop (length one - half) one ≡ drop (length other - half) other = ap (λ (text : List ℕ). drop (length text - half) text) in
    let ends = bytes_eq-Decides (drop (length one - half) one) (drop (length other - half) other) in
    let whole = bytes_eq-Decides one other in
    same_from_decides (bytes_eq (drop (length one - half) one) (drop (length other - half) other)) (bytes_eq one other)
    ((λ yes. joined (ends.0 yes)), (λ same. ends.1 (apart same))) whole
