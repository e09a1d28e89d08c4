use Rattle.yds_model.proofs.Common.{◌≡◌, ℕ, zero, suc, ◌+◌, ◌-◌, ◌<◌, List, [], ◌∷◌, ◌++◌, ◌∙◌, length, get_or, take, refl, sym, ap, arith, Piece, neighbours}
use Rattle.yds_events.proofs.stretch.between.Goals as goal

-- one time more of a list makes one stretch more
neighbours_more : (times : List ℕ) (k : ℕ) → suc k < length times →
    neighbours (take (suc (suc k)) times) ≡ neighbours (take (suc k) times) ++ record { from = get_or times k 0; to = get_or times (suc k) 0 } ∷ []
neighbours_more [] k within = absurd (omega arith)
neighbours_more (time ∷ []) k within = absurd (omega arith)
neighbours_more (time ∷ next ∷ times) zero within = refl
neighbours_more (time ∷ next ∷ times) (suc k) within =
    ap (λ (pieces : List Piece). record { from = time; to = next } ∷ pieces) (neighbours_more (next ∷ times) k (omega arith))

next_piece : (times : List ℕ) (next k : ℕ) → next ≡ suc k → next < length times → (pieces all : List Piece) → pieces ≡ neighbours (take next times) →
    all ≡ pieces ++ record { from = get_or times (next - 1) 0; to = get_or times next 0 } ∷ [] → all ≡ neighbours (take (next + 1) times)
next_piece times next k is within pieces all so_far more =
    let before : next - 1 ≡ k = omega arith in
    let after : next + 1 ≡ suc (suc k) = omega arith in
    more
    ∙ ap (λ (xs : List Piece). xs ++ record { from = get_or times (next - 1) 0; to = get_or times next 0 } ∷ []) so_far
    ∙ rw (before, after, is) (sym (neighbours_more times k (omega arith)))

pub loop-next-preserved : goal.loop-next-preserved
loop-next-preserved c =
    next_piece c.args.times.now c.loop-next.next (c.loop-next.next - 1) (omega (arith, c.loop-next.auto.next)) c.loop-next-test.true
    c.loop-next.stretches.items c.push.new.self.items c.loop-next.invariant (grind (arith, c.new.ensures, c.in_ok-push.ensures.items))
