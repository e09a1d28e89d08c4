-- A name at the front of the room for it.
use Rattle.base.proofs.Common.{◌≡◌, ℕ, ◌≤◌, List, ◌++◌, length, take, ◌∙◌, take-take, take-append-le}

-- what was copied to the front stands there
pub front_kept : (len : ℕ) (name new rest : List ℕ) → take (length name) new ≡ name → length name ≤ length new → length name ≤ len →
    take (length name) (take len (new ++ rest)) ≡ name
front_kept len name new rest same fits within = take-take (length name) len (new ++ rest) within ∙ take-append-le (length name) new rest fits ∙ same
