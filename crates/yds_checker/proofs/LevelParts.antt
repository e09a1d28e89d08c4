-- The parts of levels that are joined.
use Rattle.yds_model.proofs.Common.{◌≡◌, ℕ, ◌<◌, ◌≤◌, List, length, get_or, arith, flat_map, length-flat_map, get_or-le-sum_by, Level}
use Rattle.base.specs.declared.limits.TheConstants.{MAX_PIECES, MAX_MEMBERS}
use Rattle.yds_certificate.specs.Certificate.{IsCertificate}

-- a part is no longer than all parts together
pub length_part : {X A : Type 0} (f : X → List A) (xs : List X) (i : ℕ) (d : X) → i < length xs →
    length (f (get_or xs i d)) ≤ length (flat_map f xs)
length_part f xs i d within = rw (length-flat_map f xs) (get_or-le-sum_by (λ x. length (f x)) xs i d within)

-- of levels within the limits, each has no more pieces and members than the limits say
pub few_in_level : (levels : List Level) (i : ℕ) (level : Level) → IsCertificate levels → i < length levels → level ≡ get_or levels i level →
    (length level.pieces ≤ MAX_PIECES) × (length level.members ≤ MAX_MEMBERS)
few_in_level levels i level kept within is = (
  rw is (omega (arith, length_part (λ (one : Level). one.pieces) levels i level within, kept.few_pieces)),
  rw is (omega (arith, length_part (λ (one : Level). one.members) levels i level within, kept.few_members)),
)
