-- How many lines the levels before a place and from it on have.
use Rattle.yds_model.proofs.Common.{◌≡◌, ℕ, zero, suc, ◌+◌, ◌-◌, ◌<◌, ◌≤◌, List, [], ◌∷◌, ◌++◌, ◌∙◌, ap, sym, arith, length, take, drop, get_or, drop-cons, take_more, Level}
use Rattle.document_text.specs.Level.{line_count, line_total}

line_total-push : (levels : List Level) (level : Level) → line_total (levels ++ level ∷ []) ≡ line_total levels + line_count level
line_total-push [] level = omega arith
line_total-push (first ∷ levels) level = omega (arith, line_total-push levels level)

-- the lines before the next place
pub line_total-more : (levels : List Level) (place : ℕ) (level : Level) → place < length levels → level ≡ get_or levels place level
    → line_total (take (place + 1) levels) ≡ line_total (take place levels) + line_count level
line_total-more levels place level within is =
    ap line_total (take_more levels place level within) ∙ line_total-push (take place levels) (get_or levels place level)
    ∙ ap (λ l. line_total (take place levels) + line_count l) (sym is)

-- the lines from a place on are no more than all
pub line_total-drop : (levels : List Level) (place : ℕ) → line_total (drop place levels) ≤ line_total levels
line_total-drop [] zero = omega arith
line_total-drop [] (suc place) = omega arith
line_total-drop (level ∷ levels) zero = omega arith
line_total-drop (level ∷ levels) (suc place) = omega (arith, line_total-drop levels place)

-- the lines from the place before on
pub line_total-before : (levels : List Level) (place : ℕ) (level : Level) → 1 ≤ place → place ≤ length levels → level ≡ get_or levels (place - 1) level
    → line_total (drop (place - 1) levels) ≡ line_count level + line_total (drop place levels)
line_total-before levels place level some within is = grind (arith, drop-cons)
