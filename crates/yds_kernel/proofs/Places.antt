-- What stands at the first of a line's places, as a loop over the places looks for it.
use Rattle.base.proofs.Common.{◌≡◌, ℕ, zero, suc, ◌+◌, ◌<◌, ◌≤◌, List, [], ◌∷◌, length, codes, get_or, take, drop, Bool, true, false, ◌==◌, ◌&&◌, ◌||◌, nat_le, if◌then◌else◌, Option, Some, None, sym, ap, ◌∙◌, arith, refl, drop_more, drop_all, le_refl, ◌-◌, take_all, length-drop, length-take-le, get_or-take}
use Rattle.std.specs.Str.{bytes_eq}
use Rattle.memchr.specs.Find.{Nowhere, NoneBefore, Passes, is_byte}
use Rattle.yds_kernel.specs.declared.mark.Mark.{Mark}
use Rattle.yds_kernel.specs.declared.mark.Mark.TheVariants as marks
use Rattle.yds_kernel.specs.Parts.{or_else, after}
use Rattle.yds_kernel.specs.Stamp.{Stamp, stamp_at, first_stamp}
use Rattle.yds_kernel.specs.Form.{Marked, marked, placed, first_byte, first_marked, last_marked, leaves, comes, wakes, short, short_leaves, short_comes}
use Rattle.yds_kernel.specs.Line.{opens, opens_somewhere}

-- the bytes from a place on, as a slice has them
pub whole_rest : (text : List ℕ) (place : ℕ) → take (length text - place) (drop place text) ≡ drop place text
whole_rest text place = take_all (length text - place) (drop place text) (omega (arith, length-drop place text))

-- the first place among the first bytes is the first among all
pub first_in_front : (test : ℕ → Bool) (bytes : List ℕ) (count k : ℕ) → count ≤ length bytes → NoneBefore (Passes test (take count bytes)) 0 (length (take count bytes)) k → Passes test (take count bytes) k →
    NoneBefore (Passes test bytes) 0 (length bytes) k × Passes test bytes k
first_in_front test bytes count k within none found =
    let below : k < count = omega (arith, none.high, length-take-le count bytes within) in
    let same : (at : ℕ) → at ≤ k → test (get_or (take count bytes) at 0) ≡ test (get_or bytes at 0) = λ at up_to. ap test (get_or-take count bytes at 0 (omega (arith, up_to, below))) in (
      record { low = none.low; high = omega (arith, below, within); before = λ at low high yes. none.before at low high (same at (omega (arith, high)) ∙ yes) },
      sym (same k (le_refl k)) ∙ found,
    )

-- # Stamps

taken_if : {A : Type 0} (long same : Bool) (x : A) → same ≡ false → (if long && same then Some x else None) ≡ None
taken_if true same x other = ap (λ (test : Bool). if test then Some x else None) other
taken_if false same x other = refl

no_bracket : (byte : ℕ) (bytes : List ℕ) → (byte == 91) ≡ false → after (codes "[") (byte ∷ bytes) ≡ None
no_bracket byte bytes other =
    taken_if (nat_le (length (codes "[")) (length (byte ∷ bytes))) (bytes_eq (take (length (codes "[")) (byte ∷ bytes)) (codes "[")) (drop (length (codes "[")) (byte ∷ bytes))
    (ap (λ test. test && true) other)

-- no stamp begins with another byte
no_stamp : (byte : ℕ) (bytes : List ℕ) → (byte == 91) ≡ false → stamp_at (byte ∷ bytes) ≡ None
unfolding stamp_at
no_stamp byte bytes other = rw (no_bracket byte bytes other) refl

stamp_more : (bytes : List ℕ) (i : ℕ) → i < length bytes → stamp_at (drop i bytes) ≡ None → first_stamp (drop i bytes) ≡ first_stamp (drop (i + 1) bytes)
unfolding first_stamp
stamp_more bytes i within none =
    ap first_stamp (drop_more bytes i 0 within)
    ∙ ap (λ found. or_else found (first_stamp (drop (i + 1) bytes))) (ap stamp_at (sym (drop_more bytes i 0 within)) ∙ none)

stamp_here : (bytes : List ℕ) (i : ℕ) (stamp : Stamp) → i < length bytes → stamp_at (drop i bytes) ≡ Some stamp → first_stamp (drop i bytes) ≡ Some stamp
unfolding first_stamp
stamp_here bytes i stamp within some =
    ap first_stamp (drop_more bytes i 0 within)
    ∙ ap (λ found. or_else found (first_stamp (drop (i + 1) bytes))) (ap stamp_at (sym (drop_more bytes i 0 within)) ∙ some)

pub not_true : (test : Bool) → (test ≡ true → ⊥) → test ≡ false
not_true true never = absurd (never refl)
not_true false never = refl

-- bytes without a bracket are passed over
pub stamps_from : (bytes : List ℕ) (i : ℕ) → i ≤ length bytes → Nowhere (Passes (is_byte 91) bytes) 0 i → first_stamp bytes ≡ first_stamp (drop i bytes)
stamps_from bytes zero within nowhere = refl
stamps_from bytes (suc i) within nowhere =
    let before : Nowhere (Passes (is_byte 91) bytes) 0 i = λ k low below. nowhere k low (omega arith) in
    let other : (get_or bytes i 0 == 91) ≡ false = not_true (get_or bytes i 0 == 91) (nowhere i (omega arith) (omega arith)) in
    let next : i + 1 ≡ suc i = omega arith in
    stamps_from bytes i (omega arith) before
    ∙ stamp_more bytes i (omega arith) (ap stamp_at (drop_more bytes i 0 (omega arith)) ∙ no_stamp (get_or bytes i 0) (drop (i + 1) bytes) other)
    ∙ ap (λ (place : ℕ). first_stamp (drop place bytes)) next

pub stamps_none : (bytes : List ℕ) → Nowhere (Passes (is_byte 91) bytes) 0 (length bytes) → first_stamp bytes ≡ None
unfolding first_stamp
stamps_none bytes nowhere =
    stamps_from bytes (length bytes) (le_refl (length bytes)) nowhere ∙ ap first_stamp (drop_all (length bytes) bytes (le_refl (length bytes)))

pub stamps_at : (bytes : List ℕ) (i : ℕ) (stamp : Stamp) → i < length bytes → Nowhere (Passes (is_byte 91) bytes) 0 i → stamp_at (drop i bytes) ≡ Some stamp → first_stamp bytes ≡ Some stamp
stamps_at bytes i stamp within nowhere some = stamps_from bytes i (omega arith) nowhere ∙ stamp_here bytes i stamp within some

pub stamps_after : (bytes : List ℕ) (i : ℕ) → i < length bytes → Nowhere (Passes (is_byte 91) bytes) 0 i → stamp_at (drop i bytes) ≡ None → first_stamp bytes ≡ first_stamp (drop (i + 1) bytes)
stamps_after bytes i within nowhere none = stamps_from bytes i (omega arith) nowhere ∙ stamp_more bytes i within none

-- # Marks

mark_more : (at : ℕ) (mark : Mark) (bytes : List ℕ) (i : ℕ) → i < length bytes → marked mark (drop i bytes) ≡ None → first_marked at mark (drop i bytes) ≡ first_marked (at + 1) mark (drop (i + 1) bytes)
unfolding first_marked
mark_more at mark bytes i within none =
    ap (first_marked at mark) (drop_more bytes i 0 within)
    ∙ ap (λ found. or_else (placed at found) (first_marked (at + 1) mark (drop (i + 1) bytes))) (ap (marked mark) (sym (drop_more bytes i 0 within)) ∙ none)

mark_here : (at : ℕ) (mark : Mark) (bytes : List ℕ) (i : ℕ) (found : Marked) → i < length bytes → marked mark (drop i bytes) ≡ Some found → first_marked at mark (drop i bytes) ≡ Some (at, found)
unfolding first_marked
mark_here at mark bytes i found within some =
    ap (first_marked at mark) (drop_more bytes i 0 within)
    ∙ ap (λ found. or_else (placed at found) (first_marked (at + 1) mark (drop (i + 1) bytes))) (ap (marked mark) (sym (drop_more bytes i 0 within)) ∙ some)

-- a text doesn't stand where its first byte doesn't
not_after : (first : ℕ) (text : List ℕ) (byte : ℕ) (bytes : List ℕ) → (byte == first) ≡ false → after (first ∷ text) (byte ∷ bytes) ≡ None
not_after first text byte bytes other =
    taken_if (nat_le (length (first ∷ text)) (length (byte ∷ bytes))) (bytes_eq (take (length (first ∷ text)) (byte ∷ bytes)) (first ∷ text)) (drop (length (first ∷ text)) (byte ∷ bytes))
    (ap (λ test. test && bytes_eq (take (length text) bytes) text) other)

-- no mark begins with another byte
no_mark : (mark : Mark) (byte : ℕ) (bytes : List ℕ) → (byte == first_byte mark) ≡ false → marked mark (byte ∷ bytes) ≡ None
unfolding leaves comes wakes short short_leaves short_comes
no_mark marks.Leaves byte bytes other = rw (not_after 32 (codes "prev_pid=") byte bytes other) refl
no_mark marks.Comes byte bytes other = rw (not_after 32 (codes "next_pid=") byte bytes other) refl
no_mark marks.Wakes byte bytes other = rw (not_after 32 (codes "pid=") byte bytes other) refl
no_mark marks.ShortLeaves byte bytes other = rw (not_after 58 [] byte bytes other) refl
no_mark marks.ShortComes byte bytes other = rw (not_after 58 [] byte bytes other) refl
no_mark marks.ShortWakes byte bytes other = rw (not_after 58 [] byte bytes other) refl

-- bytes without the first byte of a mark are passed over
marks_from : (at : ℕ) (mark : Mark) (bytes : List ℕ) (i : ℕ) → i ≤ length bytes → Nowhere (Passes (is_byte (first_byte mark)) bytes) 0 i → first_marked at mark bytes ≡ first_marked (at + i) mark (drop i bytes)
marks_from at mark bytes zero within nowhere = ap (λ (place : ℕ). first_marked place mark bytes) (omega arith)
marks_from at mark bytes (suc i) within nowhere =
    let before : Nowhere (Passes (is_byte (first_byte mark)) bytes) 0 i = λ k low below. nowhere k low (omega arith) in
    let other : (get_or bytes i 0 == first_byte mark) ≡ false = not_true (get_or bytes i 0 == first_byte mark) (nowhere i (omega arith) (omega arith)) in
    let next : i + 1 ≡ suc i = omega arith in
    let place : at + i + 1 ≡ at + suc i = omega arith in
    marks_from at mark bytes i (omega arith) before
    ∙ mark_more (at + i) mark bytes i (omega arith) (ap (marked mark) (drop_more bytes i 0 (omega arith)) ∙ no_mark mark (get_or bytes i 0) (drop (i + 1) bytes) other)
    ∙ ap (λ (place : ℕ). first_marked (at + i + 1) mark (drop place bytes)) next
    ∙ ap (λ (place : ℕ). first_marked place mark (drop (suc i) bytes)) place

pub marks_none : (at : ℕ) (mark : Mark) (bytes : List ℕ) → Nowhere (Passes (is_byte (first_byte mark)) bytes) 0 (length bytes) → first_marked at mark bytes ≡ None
unfolding first_marked
marks_none at mark bytes nowhere =
    marks_from at mark bytes (length bytes) (le_refl (length bytes)) nowhere ∙ ap (first_marked (at + length bytes) mark) (drop_all (length bytes) bytes (le_refl (length bytes)))

pub marks_at : (at : ℕ) (mark : Mark) (bytes : List ℕ) (i : ℕ) (found : Marked) → i < length bytes → Nowhere (Passes (is_byte (first_byte mark)) bytes) 0 i → marked mark (drop i bytes) ≡ Some found →
    first_marked at mark bytes ≡ Some (at + i, found)
marks_at at mark bytes i found within nowhere some = marks_from at mark bytes i (omega arith) nowhere ∙ mark_here (at + i) mark bytes i found within some

pub marks_after : (at : ℕ) (mark : Mark) (bytes : List ℕ) (i : ℕ) → i < length bytes → Nowhere (Passes (is_byte (first_byte mark)) bytes) 0 i → marked mark (drop i bytes) ≡ None →
    first_marked at mark bytes ≡ first_marked (at + i + 1) mark (drop (i + 1) bytes)
marks_after at mark bytes i within nowhere none = marks_from at mark bytes i (omega arith) nowhere ∙ mark_more (at + i) mark bytes i within none

-- ---- the last one

last_step : (at : ℕ) (mark : Mark) (bytes : List ℕ) (i : ℕ) → i < length bytes →
    last_marked at mark (drop i bytes) ≡ or_else (last_marked (at + 1) mark (drop (i + 1) bytes)) (placed at (marked mark (drop i bytes)))
unfolding last_marked
last_step at mark bytes i within =
    ap (last_marked at mark) (drop_more bytes i 0 within)
    ∙ ap (λ found. or_else (last_marked (at + 1) mark (drop (i + 1) bytes)) (placed at found)) (ap (marked mark) (sym (drop_more bytes i 0 within)))

-- behind the last byte there is none
pub last_behind : (at : ℕ) (mark : Mark) (bytes : List ℕ) → last_marked at mark (drop (length bytes) bytes) ≡ None
unfolding last_marked
last_behind at mark bytes = ap (last_marked at mark) (drop_all (length bytes) bytes (le_refl (length bytes)))

-- Behind this place there is none. So it is the last one, where it is one.
pub last_here : (at : ℕ) (mark : Mark) (bytes : List ℕ) (i : ℕ) (found : Option Marked) → i < length bytes →
    last_marked (at + 1) mark (drop (i + 1) bytes) ≡ None → marked mark (drop i bytes) ≡ found → last_marked at mark (drop i bytes) ≡ placed at found
last_here at mark bytes i found within none is =
    last_step at mark bytes i within
    ∙ ap (λ behind. or_else behind (placed at (marked mark (drop i bytes)))) none
    ∙ ap (placed at) is

-- what is the last from a place on, is the last of all
pub last_from : (at : ℕ) (mark : Mark) (bytes : List ℕ) (i : ℕ) (found : ℕ × Marked) → i ≤ length bytes →
    last_marked (at + i) mark (drop i bytes) ≡ Some found → last_marked at mark bytes ≡ Some found
last_from at mark bytes zero found within some = ap (λ (place : ℕ). last_marked place mark bytes) (omega arith) ∙ some
last_from at mark bytes (suc i) found within some =
    let next : i + 1 ≡ suc i = omega arith in
    let place : at + i + 1 ≡ at + suc i = omega arith in
    let behind : last_marked (at + i + 1) mark (drop (i + 1) bytes) ≡ Some found =
    ap (λ (n : ℕ). last_marked n mark (drop (i + 1) bytes)) place ∙ ap (λ (n : ℕ). last_marked (at + suc i) mark (drop n bytes)) next ∙ some in
    last_from at mark bytes i found (omega arith)
    (last_step (at + i) mark bytes i (omega arith) ∙ ap (λ found. or_else found (placed (at + i) (marked mark (drop i bytes)))) behind)

-- # Processors

pub opens_more : (bytes : List ℕ) (i : ℕ) → i < length bytes → opens (drop i bytes) ≡ false → opens_somewhere (drop i bytes) ≡ opens_somewhere (drop (i + 1) bytes)
opens_more bytes i within other =
    ap opens_somewhere (drop_more bytes i 0 within)
    ∙ ap (λ found. found || opens_somewhere (drop (i + 1) bytes)) (ap opens (sym (drop_more bytes i 0 within)) ∙ other)
