-- Bits that mark the places of a byte.
use Rattle.std.proofs.Common.{◌≡◌, ◌↔◌, ℕ, zero, suc, ◌%◌, ◌^◌, ◌<◌, List, [], ◌∷◌, Bool, true, false, cond, eqb, length, get_or, map, replicate, refl, sym, ap, ◌∙◌, arith, true≢false, w8, w64, ◌≤◌, ◌⊎◌, inl, inr, ◌==◌, ◌||◌, max, take}
use Rattle.std.specs.Int.{bit_at, trailing_zeros}
use Rattle.std.specs.Simd.Lanes.{zip2, mask_l, top}
use Rattle.std.proofs.lemmas.List.{get_or-replicate}
use Rattle.std.specs.Int.Bits.{bit_or}
use Rattle.std.specs.List.{position_or_len}
use Rattle.std.proofs.Math.Bool.{or-true}
use Rattle.std.proofs.lemmas.List.Sums.{position_or_len_is}
use Rattle.std.proofs.lemmas.Nat.Bits.{bit_at-trailing_zeros, bit_at_or, bit_at-lt}
use Rattle.base.specs.Lines.{is_blank}
use Rattle.yds_kernel.proofs.Places.{first_in_front, not_true}
use Rattle.std.proofs.lemmas.Simd.{length-zip2, get_or-zip2, bit_mask_l, tops_compared, mask_l-mod}
use Rattle.memchr.specs.Find.{NoneBefore, Passes, is_byte}

is_set : (bit : Bool) → cond {A = ℕ} bit 1 0 ≡ 1 → bit ≡ true
is_set true one = refl
is_set false one = absurd (omega arith)

is_within : (bits : List Bool) (k : ℕ) → get_or bits k false ≡ true → k < length bits
is_within [] k same = absurd (true≢false (sym same))
is_within (bit ∷ bits) zero same = omega arith
is_within (bit ∷ bits) (suc k) same = let more = is_within bits k same in omega arith

-- the bits of the places at which a byte stands
abbrev pub places_of : ℕ → List ℕ → List Bool
places_of byte bytes = zip2 eqb bytes (replicate 32 byte)

pub marked_by : (byte : ℕ) (bytes : List ℕ) → length bytes ≡ 32
    → mask_l (map (top 7) (zip2 (λ a b. cond (eqb a b) 255 0) bytes (replicate 32 byte))) % 2 ^ 64 ≡ mask_l (places_of byte bytes)
marked_by byte bytes long =
    ap (λ bits. mask_l bits % 2 ^ 64) (tops_compared w8 eqb bytes (replicate 32 byte))
    ∙ mask_l-mod (places_of byte bytes) 64 (omega (arith, length-zip2 eqb bytes (replicate 32 byte) long, long))

pub marked_where : (byte : ℕ) (bytes : List ℕ) → length bytes ≡ 32 → (k : ℕ) → (bit_at (mask_l (places_of byte bytes)) k ≡ 1) ↔ ((k < 32) × Passes (is_byte byte) bytes k)
marked_where byte bytes long k =
    let says : bit_at (mask_l (places_of byte bytes)) k ≡ cond (get_or (places_of byte bytes) k false) 1 0 = bit_mask_l (places_of byte bytes) k in
    let many : length (places_of byte bytes) ≡ 32 = length-zip2 eqb bytes (replicate 32 byte) long ∙ long in
    let at : k < 32 → get_or (places_of byte bytes) k false ≡ eqb (get_or bytes k 0) byte =
    λ below. get_or-zip2 eqb bytes (replicate 32 byte) k 0 0 false (omega (arith, below, long)) below ∙ ap (eqb (get_or bytes k 0)) (get_or-replicate 32 k byte 0 below) in (
      λ one. let is_there = is_set (get_or (places_of byte bytes) k false) (sym says ∙ one) in
          let below : k < 32 = omega (arith, many, is_within (places_of byte bytes) k is_there) in
          (below, sym (at below) ∙ is_there),
      λ found. says ∙ ap (λ bit. cond bit 1 0) (at found.0 ∙ found.1),
    )

-- the lowest bit marks the first place
pub lowest_first : (test : ℕ → Bool) (bytes : List ℕ) (marks : ℕ) → length bytes ≡ 32 → 0 < marks → marks < 2 ^ 64 → ((k : ℕ) → (bit_at marks k ≡ 1) ↔ ((k < 32) × Passes test bytes k)) →
    NoneBefore (Passes test bytes) 0 (length bytes) (trailing_zeros w64 marks) × Passes test bytes (trailing_zeros w64 marks)
lowest_first test bytes marks long some fits marked =
    let lowest = bit_at-trailing_zeros w64 marks some fits in
    let found = (marked (trailing_zeros w64 marks)).0 lowest.1 in (
      record {
        low = omega arith;
        high = omega (arith, found.0, long);
        before = λ k low high same. let one = (marked k).1 (omega (arith, high, found.0), same) in let none = lowest.2 k high in absurd (omega (arith, one, none));
      },
      found.1,
    )

one_of : (one other : ℕ) → max one other ≡ 1 → (one ≡ 1) ⊎ (other ≡ 1)
one_of zero other most = inr (omega arith)
one_of (suc zero) other most = inl refl
one_of (suc (suc one)) other most = absurd (omega arith)

either : (one other : Bool) → (one || other) ≡ true → (one ≡ true) ⊎ (other ≡ true)
either true other is_one = inl refl
either false other is_one = inr is_one

-- the bits of the places at which a blank stands
pub blanks_marked : (spaces tabs : ℕ) (bytes : List ℕ) → ((k : ℕ) → (bit_at spaces k ≡ 1) ↔ ((k < 32) × Passes (is_byte 32) bytes k)) → ((k : ℕ) → (bit_at tabs k ≡ 1) ↔ ((k < 32) × Passes (is_byte 9) bytes k)) →
    (k : ℕ) → (bit_at (bit_or spaces tabs) k ≡ 1) ↔ ((k < 32) × Passes is_blank bytes k)
blanks_marked spaces tabs bytes spaced tabbed k = (
  λ one. stands (one_of (bit_at spaces k) (bit_at tabs k) (sym (bit_at_or spaces tabs k) ∙ one)),
  λ found. bit_at_or spaces tabs k ∙ marked found.0 (either (get_or bytes k 0 == 32) (get_or bytes k 0 == 9) found.1),
)
  where
    stands : (bit_at spaces k ≡ 1) ⊎ (bit_at tabs k ≡ 1) → (k < 32) × Passes is_blank bytes k
    stands (inl space) = let found = (spaced k).0 space in (found.0, ap (λ test. test || (get_or bytes k 0 == 9)) found.1)
    stands (inr tab) = let found = (tabbed k).0 tab in (found.0, ap (λ test. (get_or bytes k 0 == 32) || test) found.1 ∙ or-true (get_or bytes k 0 == 32))

    marked : k < 32 → ((get_or bytes k 0 == 32) ≡ true) ⊎ ((get_or bytes k 0 == 9) ≡ true) → max (bit_at spaces k) (bit_at tabs k) ≡ 1
    marked below (inl space) = let one = (spaced k).1 (below, space) in omega (arith, one, bit_at-lt tabs k)
    marked below (inr tab) = let one = (tabbed k).1 (below, tab) in omega (arith, one, bit_at-lt spaces k)

-- how many bytes stand before the first of them
pub first_blank : (bytes : List ℕ) (count k : ℕ) → count ≤ length bytes → NoneBefore (Passes is_blank (take count bytes)) 0 (length (take count bytes)) k → Passes is_blank (take count bytes) k →
    position_or_len is_blank bytes ≡ k
first_blank bytes count k within none found =
    let first = first_in_front is_blank bytes count k within none found in
    position_or_len_is is_blank bytes k 0 (omega (arith, first.0.high)) (λ at below. not_true (is_blank (get_or bytes at 0)) (first.0.before at (omega arith) below)) (λ here. first.1)
