-- What follows from the facts that a test tells.
use Rattle.yds_model.proofs.Common.{Bool, true, false, MatchBool}

-- of two facts told by a test, each says more
pub told_more : (b : Bool) (P Q R S : Type 0) → (P → R) → (Q → S) → MatchBool b P Q → MatchBool b R S
told_more true P Q R S first second h = first h
told_more false P Q R S first second h = second h
