-- The first field of bytes, by its parts: the blanks before it, its bytes, and the rest.
use Rattle.yds_model.proofs.Common.{◌≡◌, ℕ, ◌+◌, ◌<◌, List, [], ◌∷◌, length, take, drop, sym, ap, ap₂, ◌∙◌, arith, prefix_len, position_or_len, is_blank, fields_from, fields_from-blanks, fields_from-first, drop_blanks-none}

pub fields_from-parts : (column blanks : ℕ) (bytes middle text rest : List ℕ) → blanks ≡ prefix_len is_blank bytes → middle ≡ drop blanks bytes →
    text ≡ take (position_or_len is_blank middle) middle → rest ≡ drop (position_or_len is_blank middle) middle → length text ≡ position_or_len is_blank middle →
    0 < length text → fields_from column bytes ≡ record { column = column + blanks; text = text } ∷ fields_from (column + blanks + length text) rest
fields_from-parts column blanks bytes middle text rest skipped from front back long some = grind (arith, ap₂, fields_from-blanks, fields_from-first)

-- with no bytes before the next blank, nothing is left after the blanks at the front
pub rest-none : (bytes middle : List ℕ) → middle ≡ drop (prefix_len is_blank bytes) bytes → position_or_len is_blank middle ≡ 0 → middle ≡ []
rest-none bytes middle from none = from ∙ drop_blanks-none bytes (ap (position_or_len is_blank) (sym from) ∙ none)

pub fields_from-none : (column : ℕ) (bytes middle : List ℕ) → middle ≡ drop (prefix_len is_blank bytes) bytes → position_or_len is_blank middle ≡ 0 →
    fields_from column bytes ≡ []
fields_from-none column bytes middle from none =
    fields_from-blanks column bytes ∙ ap (fields_from (column + prefix_len is_blank bytes)) (sym from ∙ rest-none bytes middle from none)
