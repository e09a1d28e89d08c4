-- The first line of bytes, by where their first line feed stands.
use Rattle.yds_model.proofs.Common.{◌≡◌, ◌≢◌, ℕ, ◌+◌, ◌<◌, ◌≤◌, List, [], ◌∷◌, ◌++◌, length, get_or, take, drop, All, sym, ap, ◌∙◌, arith, eq-eqb, eqb-true, take-append-drop, length-take-le, get_or-take, le_refl, drop_more, drop_all, All-from_get_or, lines_from, lines_from-front, lines_from-last}
use Rattle.memchr.specs.Find.{Nowhere, Passes, is_byte}

no_feed_before : (bytes : List ℕ) (end : ℕ) → end ≤ length bytes → Nowhere (Passes (is_byte 10) bytes) 0 end →
    All (λ byte. byte ≢ 10) (take end bytes)
no_feed_before bytes end within nowhere =
    All-from_get_or (λ byte. byte ≢ 10) (take end bytes) 0 (λ i below same.
    let here : i < end = omega (arith, length-take-le end bytes within) in
    nowhere i (omega arith) here (eq-eqb (get_or bytes i 0) 10 (sym (get_or-take end bytes i 0 here) ∙ same)))

pub lines_from-feed : (number start : ℕ) (bytes : List ℕ) (end : ℕ) → end < length bytes →
    Nowhere (Passes (is_byte 10) bytes) 0 end → Passes (is_byte 10) bytes end →
    lines_from number start bytes ≡ record { number = number; start = start; text = take end bytes } ∷ lines_from (number + 1) (start + (end + 1)) (drop (end + 1) bytes)
lines_from-feed number start bytes end within nowhere feed =
    let parts : bytes ≡ take end bytes ++ 10 ∷ drop (end + 1) bytes =
    sym (take-append-drop end bytes) ∙ ap (λ rest. take end bytes ++ rest) (drop_more bytes end 0 within)
    ∙ ap (λ (byte : ℕ). take end bytes ++ byte ∷ drop (end + 1) bytes) (eqb-true (get_or bytes end 0) 10 feed) in
    let place : start + length (take end bytes) + 1 ≡ start + (end + 1) = omega (arith, length-take-le end bytes (omega arith)) in
    ap (lines_from number start) parts
    ∙ lines_from-front number start (take end bytes) (drop (end + 1) bytes) (no_feed_before bytes end (omega arith) nowhere)
    ∙ ap (λ (place : ℕ). record { number = number; start = start; text = take end bytes } ∷ lines_from (number + 1) place (drop (end + 1) bytes)) place

pub lines_from-no_feed : (number start : ℕ) (bytes : List ℕ) → 0 < length bytes → Nowhere (Passes (is_byte 10) bytes) 0 (length bytes) →
    lines_from number start bytes ≡ record { number = number; start = start; text = bytes } ∷ lines_from (number + 1) (start + length bytes) (drop (length bytes) bytes)
lines_from-no_feed number start [] some nowhere = absurd (omega arith)
lines_from-no_feed number start (byte ∷ bytes) some nowhere =
    lines_from-last number start byte bytes (All-from_get_or (λ byte. byte ≢ 10) (byte ∷ bytes) 0 (λ i below same.
    nowhere i (omega arith) below (eq-eqb (get_or (byte ∷ bytes) i 0) 10 same)))
    ∙ ap (λ rest. record { number = number; start = start; text = byte ∷ bytes } ∷ lines_from (number + 1) (start + length (byte ∷ bytes)) rest)
    (sym (drop_all (length bytes) bytes (le_refl (length bytes))))
