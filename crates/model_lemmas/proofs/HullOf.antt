-- A hull is the one that `hull_of` computes: a point is in it just where it lies above no line between an earlier and a later point.
use Rattle.std.proofs.Common.{◌≡◌, ℕ, suc, ◌+◌, ◌-◌, ◌*◌, ◌<◌, ◌≤◌, inl, inr, List, [], ◌∷◌, ◌++◌, length, Bool, true, false, refl, sym, ap, ◌∙◌, subst, arith, append_assoc, add-one}
use Rattle.std.specs.Prelude.{if◌then◌else◌}
use Rattle.std.specs.List.{All, Contains}
use Rattle.std.proofs.lemmas.Bool.{lt-ltb, le-ltb}
use Rattle.std.proofs.lemmas.List.Folds.{list_any_none, list_any_at}
use Rattle.std.proofs.lemmas.List.Elements.{All-push, Contains-push, All-weaker, All-tail, All-nil, All-cons}
use Rattle.std.proofs.lemmas.List.{length-append, get_or_append_left}
use Rattle.std.proofs.Math.Nat.{le_refl, mul-le-mul_left, le_of_mul-le-mul_left}
use Rattle.yds_model.specs.HullLaws.{HullIsComputed}
use Rattle.yds_model.specs.Table.{Point, point_at, IsAbove, GoesOn, is_left_out, hull_after}
use Rattle.base.proofs.Lists.{All-front, All-back}
use Rattle.model_lemmas.proofs.Hull.{IsOver, RisesFrom, rises_from, hull_under}

-- # A point of the hull

-- The points at a before and b after the end of an edge of length g lie over its line, so the line between them passes above that end.
under_by : (s e t u g a b L H P Q : ℕ) → 0 < g → s + g ≡ e → t + a ≡ e → e + b ≡ u →
    L * e + H * t + P * s ≤ P * e + L * t + H * s →
    L * e + H * u + Q * s ≤ Q * e + L * u + H * s →
    H * (a + b) ≤ P * b + Q * a
under_by s e t u g a b L H P Q some edge at to before after =
    let first : L * a + H * g ≤ P * g + H * a =
    omega (arith, ap (λ n. L * n) at, ap (λ n. H * n) at, ap (λ n. L * n) edge, ap (λ n. H * n) edge, ap (λ n. P * n) edge) in
    let second : H * g + H * b ≤ Q * g + L * b =
    omega (arith, ap (λ n. L * n) to, ap (λ n. H * n) to, ap (λ n. L * n) edge, ap (λ n. H * n) edge, ap (λ n. Q * n) edge) in
    le_of_mul-le-mul_left {k = g} (omega (arith, mul-le-mul_left b first, mul-le-mul_left a second)) some

-- the same for points of the table
under : (low high l h : Point) → low.speed < high.speed → l.speed < high.speed → high.speed < h.speed → IsOver low high l → IsOver low high h →
    high.power * (h.speed - l.speed) ≤ l.power * (h.speed - high.speed) + h.power * (high.speed - l.speed)
under low high l h edge before after over_l over_h =
    let gap : (high.speed - l.speed) + (h.speed - high.speed) ≡ h.speed - l.speed = omega arith in
    rw (← gap)
    (under_by low.speed high.speed l.speed h.speed (high.speed - low.speed) (high.speed - l.speed) (h.speed - high.speed) low.power high.power l.power h.power
    (omega arith) (omega arith) (omega arith) (omega arith) over_l over_h)

-- a point of the hull isn't left out
pub stays_in : (earlier later : List Point) (low high : Point) → low.speed < high.speed → All (λ l. l.speed < high.speed) earlier →
    All (λ h. high.speed < h.speed) later → All (IsOver low high) earlier → All (IsOver low high) later → is_left_out earlier high later ≡ false
stays_in earlier later low high edge before after over_earlier over_later = grind (arith, le-ltb, list_any_none, under)

-- # A point that is left out of the hull

-- the hull's next point is one of the points that are left
pub goes_to : (low high : Point) (points hull : List Point) → GoesOn low points (high ∷ hull) → Contains points high
goes_to low high [] hull goes = absurd goes
goes_to low high (point ∷ points) hull (inl reached) = (0, omega arith, reached.0)
goes_to low high (point ∷ points) hull (inr left) = let rest = goes_to low high points hull left.1 in (suc rest.0, omega (arith, rest.1), rest.2)

-- a point above a line between an earlier and a later one is left out
pub goes_out : (earlier later : List Point) (low high point : Point) → Contains earlier low → Contains later high → IsAbove low high point →
    is_left_out earlier point later ≡ true
goes_out earlier later low high point first last above = grind (arith, list_any_at, lt-ltb)

-- # The whole hull

-- all points lie over each line from one point of the hull to the next
abbrev EdgesUnder : List Point → Point → List Point → Type 0
EdgesUnder all low [] = Unit {0}
EdgesUnder all low (high ∷ hull) = All (IsOver low high) all × EdgesUnder all high hull

-- so for the hull's edges by their places
edges_under : (all : List Point) (low : Point) (hull : List Point) → ((k : ℕ) → k < length hull → All (IsOver (point_at (low ∷ hull) k) (point_at hull k)) all) →
    EdgesUnder all low hull
edges_under all low [] each = tt
edges_under all low (high ∷ hull) each = (each 0 (omega arith), edges_under all high hull (λ k within. each (suc k) (omega arith)))

-- later points are faster
pub later_rise : (speed : ℕ) (points : List Point) → RisesFrom speed points → All (λ point. speed < point.speed) points
later_rise speed [] rises = All-nil (λ point. speed < point.speed)
later_rise speed (point ∷ points) rises =
    All-cons (λ other. speed < other.speed) point points rises.0
    (All-weaker (λ other. point.speed < other.speed) (λ other. speed < other.speed) (λ other after. omega arith) points (later_rise point.speed points rises.1))

-- what a list has, it has with one more
contains_pushed : (xs : List Point) (y x : Point) → Contains xs x → Contains (xs ++ y ∷ []) x
contains_pushed xs y x found =
    (found.0, omega (arith, found.1, length-append xs (y ∷ [])), get_or_append_left xs (y ∷ []) x found.0 found.1 ∙ found.2)

-- from the points that are left on, of which the last one of the hull before them is `low`
computed : (earlier points : List Point) (speed : ℕ) (low : Point) (hull : List Point) → Contains earlier low → All (λ l. l.speed ≤ speed) earlier →
    low.speed ≤ speed → RisesFrom speed points → GoesOn low points hull → EdgesUnder (earlier ++ points) low hull → hull_after earlier points ≡ hull
computed earlier [] speed low [] first before edge rises goes edges = refl
computed earlier [] speed low (high ∷ hull) first before edge rises goes edges = absurd goes
computed earlier (point ∷ points) speed low [] first before edge rises goes edges = absurd goes
computed earlier (point ∷ points) speed low (high ∷ hull) first before edge rises (inl reached) edges =
    let e = reached.0 in
    let same : point.speed ≡ high.speed = ap (λ (x : Point). x.speed) e in
    let after : All (λ h. high.speed < h.speed) points =
    let P : Point → Type 0 = λ x. All (λ h. x.speed < h.speed) points in subst P e (later_rise point.speed points rises.1) in
    let stays : is_left_out earlier high points ≡ false =
    stays_in earlier points low high (omega arith)
    (All-weaker (λ l. l.speed ≤ speed) (λ l. l.speed < high.speed) (λ l at. omega arith) earlier before) after
    (All-front (IsOver low high) earlier (point ∷ points) edges.0)
    (All-tail (IsOver low high) point points (All-back (IsOver low high) earlier (point ∷ points) edges.0)) in
    let rest : hull_after (earlier ++ point ∷ []) points ≡ hull =
    computed (earlier ++ point ∷ []) points point.speed high hull (subst (Contains (earlier ++ point ∷ [])) e (Contains-push earlier point))
    (All-push (λ l. l.speed ≤ point.speed) earlier point
    (All-weaker (λ l. l.speed ≤ speed) (λ l. l.speed ≤ point.speed) (λ l at. omega arith) earlier before) (le_refl point.speed))
    (omega arith) rises.1 reached.1 (subst (λ (all : List Point). EdgesUnder all high hull) (sym (append_assoc earlier (point ∷ []) points)) edges.1) in
    ap (λ (out : Bool). if out then hull_after (earlier ++ point ∷ []) points else point ∷ hull_after (earlier ++ point ∷ []) points)
    (ap (λ (x : Point). is_left_out earlier x points) e ∙ stays)
    ∙ ap (λ (x : Point). x ∷ hull_after (earlier ++ point ∷ []) points) e ∙ ap (λ (more : List Point). high ∷ more) rest
computed earlier (point ∷ points) speed low (high ∷ hull) first before edge rises (inr left) edges =
    ap (λ (out : Bool). if out then hull_after (earlier ++ point ∷ []) points else point ∷ hull_after (earlier ++ point ∷ []) points)
    (goes_out earlier points low high point first (goes_to low high points hull left.1) left.0)
    ∙ computed (earlier ++ point ∷ []) points point.speed low (high ∷ hull) (contains_pushed earlier point low first)
    (All-push (λ l. l.speed ≤ point.speed) earlier point
    (All-weaker (λ l. l.speed ≤ speed) (λ l. l.speed ≤ point.speed) (λ l at. omega arith) earlier before) (le_refl point.speed))
    (omega arith) rises.1 left.1 (subst (λ (all : List Point). EdgesUnder all low (high ∷ hull)) (sym (append_assoc earlier (point ∷ []) points)) edges)

-- the law: a table has one hull, the one that is computed
pub hull_is_computed : HullIsComputed
hull_is_computed [] [] rising is_hull = refl
hull_is_computed [] (low ∷ hull) rising is_hull = absurd is_hull.part
hull_is_computed (point ∷ points) [] rising is_hull = absurd is_hull.part
hull_is_computed (point ∷ points) (low ∷ hull) rising is_hull =
    let e = is_hull.part.0 in
    let same : point.speed ≡ low.speed = ap (λ (x : Point). x.speed) e in
    let rest : hull_after (point ∷ []) points ≡ hull =
    computed (point ∷ []) points point.speed low hull (0, omega arith, e) (All-cons (λ l. l.speed ≤ point.speed) point [] (le_refl point.speed) (All-nil (λ l. l.speed ≤ point.speed)))
    (omega arith) (rises_from point points rising) is_hull.part.1
    (edges_under (point ∷ points) low hull (λ k within. rw add-one at (hull_under (point ∷ points) (low ∷ hull) k rising is_hull (omega arith)))) in
    ap (λ (x : Point). x ∷ hull) (sym e) ∙ ap (λ (more : List Point). point ∷ more) (sym rest)
