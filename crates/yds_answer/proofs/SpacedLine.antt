-- The lines of verdicts and judgements: their first word, and the other words each after a space.
use Rattle.yds_model.proofs.Common.{◌≡◌, ℕ, List, [], ◌∷◌, ◌++◌, ◌∙◌, sym, ap, append_assoc, join_with_byte, append-nil, line}
use Rattle.yds_answer.specs.Spaced.{spaced}

joined : (word : List ℕ) (words : List (List ℕ)) → join_with_byte 32 (word ∷ words) ≡ word ++ spaced words
joined word [] = sym (append-nil word)
joined word (next ∷ words) = ap (λ l. word ++ 32 ∷ l) (joined next words)

pub spaced_line : (word : List ℕ) (words : List (List ℕ)) → (word ++ spaced words) ++ 10 ∷ [] ≡ line (word ∷ words)
spaced_line word words = ap (λ l. l ++ 10 ∷ []) (sym (joined word words))

-- one word more
pub spaced_more : (words : List (List ℕ)) (word : List ℕ) → spaced words ++ 32 ∷ word ≡ spaced (words ++ word ∷ [])
spaced_more [] word = ap (λ l. 32 ∷ l) (sym (append-nil word))
spaced_more (first ∷ words) word =
    ap (λ l. 32 ∷ l) (append_assoc first (spaced words) (32 ∷ word) ∙ ap (λ l. first ++ l) (spaced_more words word))

-- one field more
pub next_field : (first : List ℕ) (words : List (List ℕ)) (word text : List ℕ) → text ≡ first ++ spaced words → text ++ 32 ∷ word ≡ first ++ spaced (words ++ word ∷ [])
next_field first words word text is =
    ap (λ l. l ++ 32 ∷ word) is ∙ append_assoc first (spaced words) (32 ∷ word) ∙ ap (λ l. first ++ l) (spaced_more words word)
