-- Removed stretches, one put after another, each with the removed time before it.
use Rattle.yds_model.proofs.Common.{◌≡◌, ℕ, ◌+◌, ◌-◌, ◌<◌, List, [], ◌∷◌, ◌++◌, ◌∙◌, length, take, ap, sym, arith, cases_lt, get_or_append_left, get_or_push, length_push, map_push, take_all, take_at, take-append-le, take_more, sum_by_push, Piece, total_length}
use Rattle.yds_contract.specs.declared.removed.Removed.{Removed}
use Rattle.yds_contract.specs.Removed.{removed_at, removed_stretches, AreSummed}
use Rattle.yds_contract.specs.Removing.{IsAppended}
use Rattle.yds_contract.proofs.Cells.{piece_at}
use Rattle.yds_contract.proofs.RemovedStretches.{count, stretch_at}

-- all that is removed, by the last stretch
pub total_by_last : (removed : List Removed) → AreSummed removed → 0 < length removed →
    total_length (removed_stretches removed) ≡ (removed_at removed (length removed - 1)).before + ((removed_at removed (length removed - 1)).to - (removed_at removed (length removed - 1)).from)
total_by_last removed summed some =
    let last : ℕ = length removed - 1 in
    let within : last < length (removed_stretches removed) = omega (arith, count removed) in
    let whole : take (last + 1) (removed_stretches removed) ≡ removed_stretches removed = take_all (last + 1) (removed_stretches removed) (omega (arith, count removed)) in
    omega (
      arith,
      ap (λ (ps : List Piece). total_length ps) (sym whole ∙ take_more (removed_stretches removed) last (record { from = 0; to = 0 }) within),
      sum_by_push (λ (p : Piece). p.to - p.from) (take last (removed_stretches removed)) (piece_at (removed_stretches removed) last),
      ap (λ (p : Piece). p.to - p.from) (stretch_at removed last (omega arith)),
      summed last (omega arith),
    )

-- one stretch more, with all that is removed before it
pub appended : (removed : List Removed) (from to before : ℕ) → AreSummed removed → before ≡ total_length (removed_stretches removed) →
    IsAppended removed (record { from = from; to = to }) (removed ++ record { from = from; to = to; before = before } ∷ [])
appended removed from to before summed is = grind (arith, cases_lt, count, get_or_append_left, get_or_push, length_push, map_push, take-append-le, take_at)
