-- Each line between neighbours of a table, against the greatest of all.
use Rattle.yds_model.proofs.Common.{◌≡◌, ℕ, zero, suc, ◌+◌, ◌-◌, ◌*◌, ◌<◌, List, [], ◌∷◌, length, refl, subst, arith, ap, add-one, ℤ, pos, ◌*ℤ◌, ◌≤ℤ◌, mul-le-mul_left, int_max, ints, clamps, Point, point_at, gaps_of, product, on_lines, greatest}
use borrow.Author.Differences.{up, down}
use Rattle.yds_model.specs.Energy.{on_line}
use Rattle.yds_energy.specs.EnergyLaws.{LinesAreAtMostEnergy}
use Rattle.yds_energy.proofs.Differences.{difference_times, difference_at_most, at_most_in_turn, greatest-cons}
use Rattle.yds_energy.proofs.Hinges.{product-cons}

-- a multiple of a number is at most that of the greater of it and another
times_first : (n : ℕ) (x y : ℤ) → (pos n *ℤ x) ≤ℤ (pos n *ℤ int_max x y)
times_first n x y = grind (arith, clamps, ints, mul-le-mul_left)

-- and so is what is at most a multiple of the other
times_second : (n : ℕ) (x y z : ℤ) → z ≤ℤ (pos n *ℤ y) → z ≤ℤ (pos n *ℤ int_max x y)
times_second n x y z under = grind (arith, clamps, ints, mul-le-mul_left)

-- the product of all gaps is that of the others, times its own
own_gap : (all gap others : ℕ) (line : ℤ) → all ≡ gap * others → (pos all *ℤ line) ≤ℤ (pos gap *ℤ (pos others *ℤ line))
own_gap all gap others line is =
    difference_at_most (all * up line) (all * down line) (gap * (others * up line)) (gap * (others * down line)) _ _
    (difference_times all (up line) (down line) line refl)
    (difference_times gap (others * up line) (others * down line) _ (difference_times others (up line) (down line) line refl))
    (omega (arith, ap (λ n. n * up line) is, ap (λ n. n * down line) is))

-- an equal factor may take the place of one
same_times : (a b : ℕ) (line z : ℤ) → a ≡ b → (pos a *ℤ line) ≤ℤ z → (pos b *ℤ line) ≤ℤ z
same_times a b line z same under = subst (λ n. (pos n *ℤ line) ≤ℤ z) same under

-- each line, times all gaps, is at most its own gap times the greatest number of the lines
lines_at_most : (before : ℕ) (low high : Point) (points : List Point) (k time work : ℕ) → k + 1 < length (low ∷ high ∷ points) →
    (pos (before * product (gaps_of (low ∷ high ∷ points))) *ℤ on_line (point_at (low ∷ high ∷ points) k) (point_at (high ∷ points) k) time work)
    ≤ℤ (pos ((point_at (high ∷ points) k).speed - (point_at (low ∷ high ∷ points) k).speed) *ℤ
    greatest (pos (before * product (gaps_of (high ∷ points))) *ℤ on_line low high time work)
    (on_lines (before * (high.speed - low.speed)) (high ∷ points) time work))
lines_at_most before low high [] zero time work within =
    own_gap (before * product (gaps_of (low ∷ high ∷ []))) (high.speed - low.speed) (before * product (gaps_of (high ∷ []))) (on_line low high time work)
    (omega (arith, ap (λ n. before * n) (product-cons (high.speed - low.speed) [])))
lines_at_most before low high [] (suc k) time work within = absurd (omega arith)
lines_at_most before low high (next ∷ points) zero time work within =
    let gap : ℕ = high.speed - low.speed in
    let front : ℤ = pos (before * product (gaps_of (high ∷ next ∷ points))) *ℤ on_line low high time work in
    let later : ℤ = pos (before * gap * product (gaps_of (next ∷ points))) *ℤ on_line high next time work in
    let last = on_lines (before * gap * (next.speed - high.speed)) (next ∷ points) time work in
    rw (greatest-cons front later last)
    (at_most_in_turn _ _ _
    (own_gap (before * product (gaps_of (low ∷ high ∷ next ∷ points))) gap (before * product (gaps_of (high ∷ next ∷ points))) (on_line low high time work)
    (omega (arith, ap (λ n. before * n) (product-cons gap (gaps_of (high ∷ next ∷ points))))))
    (times_first gap front (greatest later last)))
lines_at_most before low high (next ∷ points) (suc k) time work within =
    let gap : ℕ = high.speed - low.speed in
    let front : ℤ = pos (before * product (gaps_of (high ∷ next ∷ points))) *ℤ on_line low high time work in
    let later : ℤ = pos (before * gap * product (gaps_of (next ∷ points))) *ℤ on_line high next time work in
    let last = on_lines (before * gap * (next.speed - high.speed)) (next ∷ points) time work in
    rw (greatest-cons front later last)
    (times_second ((point_at (next ∷ points) k).speed - (point_at (high ∷ next ∷ points) k).speed) front (greatest later last) _
    (same_times (before * gap * product (gaps_of (high ∷ next ∷ points))) (before * product (gaps_of (low ∷ high ∷ next ∷ points))) _ _
    (omega (arith, ap (λ n. before * n) (product-cons gap (gaps_of (high ∷ next ∷ points)))))
    (lines_at_most (before * gap) high next points k time work (omega arith))))

-- the law: the energy is at least what each line gives
pub lines_are_at_most_energy : LinesAreAtMostEnergy
lines_are_at_most_energy [] k time work within = absurd (omega arith)
lines_are_at_most_energy (point ∷ []) k time work within = absurd (omega arith)
lines_are_at_most_energy (low ∷ high ∷ points) k time work within =
    rw add-one (same_times (1 * product (gaps_of (low ∷ high ∷ points))) (product (gaps_of (low ∷ high ∷ points))) _ _ (omega arith)
    (lines_at_most 1 low high points k time work (omega arith)))
