-- A table with one more point.
use Rattle.yds_model.proofs.Common.{◌≡◌, ℕ, ◌-◌, ◌<◌, ◌≤◌, inl, inr, List, [], ◌∷◌, ◌++◌, length, take, suc, ap, ◌∙◌, subst, arith, cases_lt, length-append, take_all, take-append-le, get_or_append_left, All-push, multiple_of_all, Point, no_point, point_at, AreRising, gaps_of, hull_multiple, IsTable, IsPoint, ArePoints}
use Rattle.base.specs.declared.limits.TheConstants.{MAX_POINTS, MAX_GAPS}
use Rattle.yds_table.specs.Table.{IsPointTable, last_of}
use Rattle.yds_table.specs.Gaps.{IsMultipleOf}
use Rattle.yds_table.specs.KeptTable.{IsLowerHull, IsKept}

pub rising_pushed : (points : List Point) (point : Point) → AreRising points → (last_of points).speed < point.speed → AreRising (points ++ point ∷ [])
rising_pushed [] point rising above = tt
rising_pushed (only ∷ []) point rising above = (above, tt)
rising_pushed (first ∷ next ∷ points) point rising above =
    let here : suc (suc (length points)) - 1 ≡ suc (suc (length points) - 1) = omega arith in
    let P : ℕ → Type 0 = λ i. (point_at (first ∷ next ∷ points) i).speed < point.speed in
    (rising.0, rising_pushed (next ∷ points) point rising.1 (subst P here above))

-- each front of the points and one more is a front of the points, or all of them
gaps_pushed : (points : List Point) (point : Point) → ArePoints points → hull_multiple (points ++ point ∷ []) ≤ MAX_GAPS →
    (n : ℕ) → hull_multiple (take n (points ++ point ∷ [])) ≤ MAX_GAPS
gaps_pushed points point within last n = elim (cases_lt (length points) n) [
  | inl whole ↦ rw (take_all n (points ++ point ∷ []) (omega (arith, length-append points (point ∷ [])))) last
  | inr front ↦ rw (take-append-le n points (point ∷ []) front) (within.gaps_in_range n)
]

pub table_pushed : (points : List Point) (point : Point) → IsPointTable points → IsPoint point → (last_of points).speed < point.speed → length points < MAX_POINTS →
    hull_multiple (points ++ point ∷ []) ≤ MAX_GAPS → IsPointTable (points ++ point ∷ [])
table_pushed points point table limits above room last =
    let more : IsTable (points ++ point ∷ []) = record {
      some = omega (arith, length-append points (point ∷ []));
      idle = rw (get_or_append_left points (point ∷ []) no_point 0 table.table.some) table.table.idle;
      rising = rising_pushed points point table.table.rising above;
    } in
    record {
      table = more;
      within = record {
        few = omega (arith, length-append points (point ∷ []));
        fit = All-push IsPoint points point table.within.fit limits;
        table = inr more;
        gaps_in_range = gaps_pushed points point table.within last;
      };
    }

-- the fields of the table with the point
pub kept_pushed : (points : List Point) (point : Point) (hull : List Point) (gaps : ℕ) → IsPointTable points → IsPoint point → (last_of points).speed < point.speed →
    length points < MAX_POINTS → IsLowerHull (points ++ point ∷ []) hull → IsMultipleOf hull gaps → IsKept (points ++ point ∷ []) hull gaps
kept_pushed points point hull gaps table limits above room lower multiple =
    let whole : gaps ≡ hull_multiple (points ++ point ∷ []) = multiple.is ∙ ap (λ (all : List Point). multiple_of_all (gaps_of all)) lower.computed in
    record {
      table = table_pushed points point table limits above room (rw (← whole) multiple.within);
      lower = lower;
      is_multiple = whole;
      some = multiple.some;
      within = multiple.within;
    }
