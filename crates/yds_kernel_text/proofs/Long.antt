-- A line that is too long says what its front says.
use Rattle.base.proofs.Common.{◌≡◌, ℕ, zero, suc, ◌+◌, ◌<◌, ◌≤◌, List, [], ◌∷◌, length, take, nat_le, false, Bool, ◌&&◌, if◌then◌else◌, refl, sym, ap, ◌∙◌, arith, take-take, length-take-le, without_return, lt-leb}
use Rattle.yds_kernel.specs.declared.limits.TheConstants.{MAX_LINE}
use Rattle.yds_kernel.specs.Stamp.{first_stamp}
use Rattle.yds_kernel.specs.Line.{line_of, last_line_of, long_line, short_line, ends_in_stamp}

-- a carriage return is one byte at the end
return_is_one : (bytes : List ℕ) → length bytes ≤ length (without_return bytes) + 1
return_is_one [] = omega arith
return_is_one (byte ∷ []) = omega arith
return_is_one (byte ∷ next ∷ bytes) = omega (arith, return_is_one (next ∷ bytes))

return_is_last : (count : ℕ) (bytes : List ℕ) → count < length bytes → take count (without_return bytes) ≡ take count bytes
return_is_last zero bytes within = refl
return_is_last (suc count) [] within = absurd (omega arith)
return_is_last (suc count) (byte ∷ []) within = absurd (omega arith)
return_is_last (suc count) (byte ∷ next ∷ bytes) within = ap (λ rest. byte ∷ rest) (return_is_last count (next ∷ bytes) (omega arith))

too_long : (line : List ℕ) → MAX_LINE < length line → nat_le (length line) MAX_LINE ≡ false
too_long line long = lt-leb (length line) MAX_LINE long

is_long : (line : List ℕ) → MAX_LINE < length line → line_of line ≡ long_line line
unfolding line_of
is_long line long = ap (λ (test : Bool). if test then short_line line else long_line line) (too_long line long)

isnt_cut : (line : List ℕ) → MAX_LINE < length line → last_line_of line ≡ line_of line
unfolding last_line_of
isnt_cut line long = rw (too_long line long) refl

fronts_say : (line other : List ℕ) → take MAX_LINE line ≡ take MAX_LINE other → long_line line ≡ long_line other
unfolding long_line
fronts_say line other same = rw (same, long_line) refl

-- the line without its carriage return says what its first bytes say
pub front_is_enough : (front : List ℕ) → MAX_LINE + 1 < length front → line_of (without_return front) ≡ line_of (take (MAX_LINE + 1) front)
front_is_enough front long =
    let kept : length (take (MAX_LINE + 1) front) ≡ MAX_LINE + 1 = length-take-le (MAX_LINE + 1) front (omega arith) in
    is_long (without_return front) (omega (arith, return_is_one front))
    ∙ fronts_say (without_return front) (take (MAX_LINE + 1) front) (return_is_last MAX_LINE front (omega arith) ∙ sym (take-take MAX_LINE (MAX_LINE + 1) front (omega arith)))
    ∙ sym (is_long (take (MAX_LINE + 1) front) (omega arith))

-- the same where no line feed ends it
pub last_front_is_enough : (front : List ℕ) → MAX_LINE + 1 < length front → last_line_of (without_return front) ≡ line_of (take (MAX_LINE + 1) front)
last_front_is_enough front long = isnt_cut (without_return front) (omega (arith, return_is_one front)) ∙ front_is_enough front long
