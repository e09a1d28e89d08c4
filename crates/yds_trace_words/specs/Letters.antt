-- The letters of a list of tasks: bytes of a text, and the signs between texts.
use Rattle.std.specs.Prelude.{ℕ, List, [], ◌∷◌, map, Bool, true, false, ◌==◌, ◌&&◌, ◌||◌, if◌then◌else◌}
use Rattle.yds_trace_words.specs.declared.letter.Letter.{Letter}
use Rattle.yds_trace_words.specs.declared.letter.Letter.TheVariants.{Text, Parting}
use Rattle.yds_trace_words.specs.declared.letter.Sign.{Sign}
use Rattle.yds_trace_words.specs.declared.letter.Sign.TheVariants.{Comma, Colon, Equals}

-- a comma, a colon or an equals sign
abbrev pub is_sign : ℕ → Bool
is_sign byte = (byte == 44) || (byte == 58) || (byte == 61)

abbrev pub letter_of : ℕ → Letter
letter_of byte =
    if byte == 44 then Parting Comma else (if byte == 58 then Parting Colon else (if byte == 61 then Parting Equals else Text byte))

-- a sign, or a backslash
abbrev pub is_meant : ℕ → Bool
is_meant byte = is_sign byte || (byte == 92)

-- A backslash before a sign, or before another backslash, makes that a byte of a text. Before anything else, and at the end, it is a backslash.
abbrev pub letters_of : List ℕ → List Letter
letters_of [] = []
letters_of (byte ∷ []) = letter_of byte ∷ []
letters_of (byte ∷ next ∷ bytes) =
    if (byte == 92) && is_meant next then Text next ∷ letters_of bytes else letter_of byte ∷ letters_of (next ∷ bytes)

-- whether the letter is this sign
abbrev pub is_at : Sign → Letter → Bool
is_at sign (Text byte) = false
is_at Comma (Parting Comma) = true
is_at Comma (Parting Colon) = false
is_at Comma (Parting Equals) = false
is_at Colon (Parting Comma) = false
is_at Colon (Parting Colon) = true
is_at Colon (Parting Equals) = false
is_at Equals (Parting Comma) = false
is_at Equals (Parting Colon) = false
is_at Equals (Parting Equals) = true

abbrev pub byte_of : Letter → ℕ
byte_of (Text byte) = byte
byte_of (Parting Comma) = 44
byte_of (Parting Colon) = 58
byte_of (Parting Equals) = 61

abbrev pub text_of : List Letter → List ℕ
text_of letters = map byte_of letters
