-- What words ask for.
use Rattle.yds_model.proofs.Common.{◌≡◌, ◌≤◌, length, arith, List, [], ◌∷◌, Option, Some, None, refl, ap, sym, ◌∙◌, String, Global, Request}
use Rattle.yds_words.specs.declared.command.Command.{Command}
use Rattle.yds_words.specs.Words.{words_of, asked, request_view}

-- what a command that was named asks for
pub named : (command found : Command) (request : Option Request) → found ≡ command → Some (request_view found) ≡ request → Some (request_view command) ≡ request
named command found request is asks = ap (λ other. Some (request_view other)) (sym is) ∙ asks

-- no command has more than three words
pub four_or_more : (words : List (String Global)) → 4 ≤ length words → None ≡ asked (words_of words)
four_or_more [] many = absurd (omega (arith, many))
four_or_more (a ∷ []) many = absurd (omega (arith, many))
four_or_more (a ∷ b ∷ []) many = absurd (omega (arith, many))
four_or_more (a ∷ b ∷ c ∷ []) many = absurd (omega (arith, many))
four_or_more (a ∷ b ∷ c ∷ d ∷ words) many = refl
