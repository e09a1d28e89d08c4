-- Whether a point may stand after those of a table.
use Rattle.yds_model.proofs.Common.{◌≡◌, ℕ, suc, ◌-◌, ◌<◌, ◌≤◌, List, [], ◌∷◌, ◌++◌, length, Bool, true, false, Ok, refl, ap, subst, arith, lt-ltb, inl, inr, nat_lt, nat_le, if◌then◌else◌, take-length, le-leb, leb-true, ltb-true, cases_Bool, Point, point_at, AreRising, hull_multiple, PointEntry, refuse}
use Rattle.base.specs.declared.limits.TheConstants.{MAX_GAPS}
use Rattle.yds_model.specs.declared.reason.Reason.TheVariants as reasons
use Rattle.yds_table.specs.Table.{IsPointTable, last_of}
use Rattle.yds_table.specs.Fault.{IsCause}
use Rattle.yds_table.specs.declared.fault.TableFault.{TableFault}
use Rattle.yds_table.specs.declared.fault.TableFault.TheVariants.{NoIdle, NotRising, GapsTooFine, Memory}
use Rattle.document_reader.specs.Fields.{Fails}
use Rattle.document_reader.specs.Point.{point_after, table_fault}

not_less : (a b : ℕ) → b ≤ a → nat_lt a b ≡ false
not_less a b most = elim (cases_Bool (nat_lt a b)) [ inl less ↦ absurd (omega (arith, ltb-true a b less)) | inr not ↦ not ]

not_most : (a b : ℕ) → b < a → nat_le a b ≡ false
not_most a b more = elim (cases_Bool (nat_le a b)) [ inl most ↦ absurd (omega (arith, leb-true a b most)) | inr not ↦ not ]

rising_last : (first : Point) (others : List Point) (point : Point) → AreRising (first ∷ (others ++ point ∷ [])) → (point_at (first ∷ others) (length others)).speed < point.speed
rising_last first [] point rising = rising.0
rising_last first (next ∷ others) point rising = rising_last next others point rising.1

last_is : (first : Point) (others : List Point) → last_of (first ∷ others) ≡ point_at (first ∷ others) (length others)
last_is first others = let same : suc (length others) - 1 ≡ length others = omega arith in ap (point_at (first ∷ others)) same

point_by : (first : Point) (others : List Point) (point : Point) (column : ℕ) (rising fine : Bool) → nat_lt (point_at (first ∷ others) (length others)).speed point.speed ≡ rising
    → nat_le (hull_multiple (first ∷ (others ++ point ∷ []))) MAX_GAPS ≡ fine
    → point_after (first ∷ others) point column ≡ (if rising then (if fine then Ok (PointEntry point) else refuse column reasons.GapsTooFine) else refuse column reasons.NotRising)
point_by first others point column true true is fits = rw (is, fits) refl
point_by first others point column true false is fits = rw (is, fits) refl
point_by first others point column false fine is fits = rw is refl

pub point_ok : (points new : List Point) (point : Point) (column : ℕ) → IsPointTable points → new ≡ points ++ point ∷ [] → IsPointTable new → point_after points point column ≡ Ok (PointEntry point)
point_ok [] new point column old is table = absurd (omega (arith, old.table.some))
point_ok (first ∷ others) new point column old is table =
    let more : IsPointTable (first ∷ (others ++ point ∷ [])) = subst IsPointTable is table in
    let all = first ∷ (others ++ point ∷ []) in
    let fine : hull_multiple all ≤ MAX_GAPS = subst (λ (l : List Point). hull_multiple l ≤ MAX_GAPS) (take-length all) (more.within.gaps_in_range (length all)) in
    point_by first others point column true true (lt-ltb _ _ (rising_last first others point more.table.rising)) (le-leb _ _ fine)

pub point_err : (points : List Point) (point : Point) (column : ℕ) (fault : TableFault) → IsPointTable points → IsCause points point fault
    → Fails (table_fault column fault) (point_after points point column)
point_err [] point column fault old cause = absurd (omega (arith, old.table.some))
point_err (first ∷ others) point column NoIdle old cause = absurd cause
point_err (first ∷ others) point column NotRising old cause =
    point_by first others point column false _ (not_less _ _ (subst (λ (p : Point). point.speed ≤ p.speed) (last_is first others) cause)) refl
point_err (first ∷ others) point column GapsTooFine old cause =
    point_by first others point column true false (lt-ltb _ _ (subst (λ (p : Point). p.speed < point.speed) (last_is first others) cause.0)) (not_most _ _ cause.1)
point_err (first ∷ others) point column Memory old cause = tt
