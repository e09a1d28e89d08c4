-- What a read into the tail of a buffer adds to what was taken before.
use Rattle.base.proofs.Common.{◌≡◌, ℕ, ◌+◌, List, ◌++◌, ◌∙◌, ap, sym, subst, take, drop, Some, take-add, chunk-drop, Consumes, Option}
use Rattle.std.proofs.KnownBytes.{Consumes-trans}

-- the front of the buffer stayed, and the next n bytes of it are the next that were consumed
pub Consumes-next : (a b c : Option (List ℕ)) (old new : List ℕ) (filled n : ℕ) → Consumes a b (take filled old)
    → take filled new ≡ take filled old → Consumes b c (take n (drop filled new)) → Consumes a c (take (filled + n) new)
Consumes-next a b c old new filled n before front next =
    let same : take (filled + n) new ≡ take filled old ++ take n (drop filled new) =
    take-add filled n new ∙ ap (λ l. l ++ take n (drop filled new)) front in
    subst (Consumes a c) (sym same) (Consumes-trans a b c _ _ before next)

-- the next n bytes were copied, and the place from which the next are read moved on by n
pub Consumes-copied : (xs into : List ℕ) (at n : ℕ) → take n into ≡ take n (drop at xs)
    → Consumes (Some (drop at xs)) (Some (drop (at + n) xs)) (take n into)
Consumes-copied xs into at n copied =
    chunk-drop at n xs ∙ ap (λ l. l ++ drop (at + n) xs) (sym copied)
