-- The line of a comment, field by field.
use Rattle.yds_model.proofs.Common.{◌≡◌, ℕ, List, [], ◌∷◌, ◌++◌, ◌∙◌, sym, ap, append_assoc, append-nil, line}
use Rattle.yds_answer.specs.Spaced.{spaced}
use Rattle.yds_answer.proofs.SpacedLine.{spaced_line, next_field}

pub comment_line : (sign verb name first from second to third work fourth top : List ℕ) →
    ((((((((((sign ++ 32 ∷ verb) ++ 32 ∷ name) ++ 32 ∷ first) ++ 32 ∷ from) ++ 32 ∷ second) ++ 32 ∷ to) ++ 32 ∷ third) ++ 32 ∷ work) ++ 32 ∷ fourth) ++ 32 ∷ top) ++ 10 ∷ []
    ≡ line (sign ∷ verb ∷ name ∷ first ∷ from ∷ second ∷ to ∷ third ∷ work ∷ fourth ∷ top ∷ [])
comment_line sign verb name first from second to third work fourth top =
    ap (λ l. l ++ 10 ∷ [])
    (next_field sign (verb ∷ name ∷ first ∷ from ∷ second ∷ to ∷ third ∷ work ∷ fourth ∷ []) top _
    (next_field sign (verb ∷ name ∷ first ∷ from ∷ second ∷ to ∷ third ∷ work ∷ []) fourth _
    (next_field sign (verb ∷ name ∷ first ∷ from ∷ second ∷ to ∷ third ∷ []) work _
    (next_field sign (verb ∷ name ∷ first ∷ from ∷ second ∷ to ∷ []) third _
    (next_field sign (verb ∷ name ∷ first ∷ from ∷ second ∷ []) to _
    (next_field sign (verb ∷ name ∷ first ∷ from ∷ []) second _
    (next_field sign (verb ∷ name ∷ first ∷ []) from _
    (next_field sign (verb ∷ name ∷ []) first _
    (next_field sign (verb ∷ []) name _
    (next_field sign [] verb sign (sym (append-nil sign))))))))))))
    ∙ spaced_line sign (verb ∷ name ∷ first ∷ from ∷ second ∷ to ∷ third ∷ work ∷ fourth ∷ top ∷ [])
