-- Pieces of a line, one behind the other.
use Rattle.yds_model.proofs.Common.{◌≡◌, ℕ, List, ◌++◌, ◌∙◌, ap, append_assoc}

-- a piece behind what was put before it
pub behind : (old mid new front piece : List ℕ) → mid ≡ old ++ front → new ≡ mid ++ piece → new ≡ old ++ (front ++ piece)
behind old mid new front piece first second = second ∙ ap (λ (text : List ℕ). text ++ piece) first ∙ append_assoc old front piece

-- a piece that is known by another name
pub same_piece : (old new piece text : List ℕ) → new ≡ old ++ piece → piece ≡ text → new ≡ old ++ text
same_piece old new piece text adds same = adds ∙ ap (λ (more : List ℕ). old ++ more) same
