-- Where a line is put, by how many lines it is put before.
use Rattle.base.proofs.Common.{◌≡◌, ℕ, zero, suc, ◌<◌, ◌≤◌, List, [], ◌∷◌, ◌++◌, length, Bool, true, false, not, ◌||◌, if◌then◌else◌, Option, Some, None, option_map, refl, ap, ◌∙◌, arith, subst}
use Rattle.yds_kernel.specs.Event.{Event, Said, Stamped, Lost, Nothing}
use Rattle.yds_kernel_order.specs.declared.limits.TheConstants.{MAX_STEP_BACK}
use Rattle.yds_kernel_order.specs.Order.{Placed, is_before_by, is_behind, put, with_last}
use Rattle.yds_kernel_order.specs.Ring.{is_later_by, stands_before, passed_in}

-- the lines with this one before so many of them
abbrev pub inserted : ℕ → Placed → List Placed → List Placed
inserted zero line past = line ∷ past
inserted (suc count) line [] = line ∷ []
inserted (suc count) line (last ∷ past) = last ∷ inserted count line past

-- an event is before what was said if that is later than its time
pub before_is_later : (step : ℕ) (event : Event) (said : Said) → is_before_by step (Stamped event) said ≡ is_later_by step event.time said
before_is_later step event (Stamped other) = refl
before_is_later step event (Lost processor since) = refl
before_is_later step event Nothing = refl

behind_stands : (number : ℕ) (stays : Bool) (event : Event) (last : Placed) →
    is_behind (record { number = number; said = Stamped event; stays = stays }) last ≡ stands_before event.time last
behind_stands number stays event last = ap (λ (later : Bool). last.stays || not later) (before_is_later 0 event last.said)

placed_more : (line last : Placed) (past : List Placed) (found : Option ℕ) →
    with_last last (option_map (λ count. inserted count line past) found) ≡ option_map (λ count. inserted count line (last ∷ past)) (option_map suc found)
placed_more line last past None = refl
placed_more line last past (Some count) = refl

last_stage : (line last : Placed) (past : List Placed) (stands : Bool) →
    (if stands then Some (line ∷ last ∷ past) else None) ≡ option_map (λ count. inserted count line (last ∷ past)) (if stands then Some 0 else None)
last_stage line last past true = refl
last_stage line last past false = refl

next_stage : (line last : Placed) (past : List Placed) (stands far : Bool) (rest : Option (List Placed)) (found : Option ℕ) →
    rest ≡ option_map (λ count. inserted count line past) found →
    (if stands then Some (line ∷ last ∷ past) else (if far then None else with_last last rest))
    ≡ option_map (λ count. inserted count line (last ∷ past)) (if stands then Some 0 else (if far then None else option_map suc found))
next_stage line last past true far rest found same = refl
next_stage line last past false true rest found same = refl
next_stage line last past false false rest found same = ap (with_last last) same ∙ placed_more line last past found

-- the line is put before as many as are passed
pub put_passed : (most number : ℕ) (stays : Bool) (event : Event) (past : List Placed) →
    put most (record { number = number; said = Stamped event; stays = stays }) past
    ≡ option_map (λ count. inserted count (record { number = number; said = Stamped event; stays = stays }) past) (passed_in most event.time past)
put_passed zero number stays event [] = refl
put_passed (suc most) number stays event [] = refl
put_passed zero number stays event (last ∷ past) =
    rw (behind_stands number stays event last) (last_stage (record { number = number; said = Stamped event; stays = stays }) last past (stands_before event.time last))
put_passed (suc most) number stays event (last ∷ past) =
    rw (behind_stands number stays event last, before_is_later MAX_STEP_BACK event last.said)
    (next_stage (record { number = number; said = Stamped event; stays = stays }) last past (stands_before event.time last) (is_later_by MAX_STEP_BACK event.time last.said)
    (put most (record { number = number; said = Stamped event; stays = stays }) past) (passed_in most event.time past) (put_passed most number stays event past))

-- # A front of the lines

-- lines beyond those that may be passed say nothing of how many are
passed_stage : (stands far : Bool) (found other : Option ℕ) → found ≡ other →
    (if stands then Some 0 else (if far then None else option_map suc found)) ≡ (if stands then Some 0 else (if far then None else option_map suc other))
passed_stage stands far found other same = ap (λ (result : Option ℕ). if stands then Some 0 else (if far then None else option_map suc result)) same

pub passed_in_front : (most time : ℕ) (front rest : List Placed) → most < length front → passed_in most time (front ++ rest) ≡ passed_in most time front
passed_in_front most time [] rest within = absurd (omega arith)
passed_in_front zero time (last ∷ front) rest within = refl
passed_in_front (suc most) time (last ∷ front) rest within =
    passed_stage (stands_before time last) (is_later_by MAX_STEP_BACK time last.said) (passed_in most time (front ++ rest)) (passed_in most time front)
    (passed_in_front most time front rest (omega arith))

pub inserted_front : (count : ℕ) (line : Placed) (front rest : List Placed) → count ≤ length front → inserted count line (front ++ rest) ≡ inserted count line front ++ rest
inserted_front zero line front rest within = refl
inserted_front (suc count) line [] rest within = absurd (omega arith)
inserted_front (suc count) line (last ∷ front) rest within = ap (λ (lines : List Placed). last ∷ lines) (inserted_front count line front rest (omega arith))

-- as many as are passed are there, and are not more than may be
abbrev pub IsAtMost : ℕ → Option ℕ → Type 0
IsAtMost most None = Unit {0}
IsAtMost most (Some count) = count ≤ most

counted_more : (most : ℕ) (stands far : Bool) (found : Option ℕ) → IsAtMost most found → IsAtMost (suc most) (if stands then Some 0 else (if far then None else option_map suc found))
counted_more most true far found fits = omega arith
counted_more most false true found fits = tt
counted_more most false false None fits = tt
counted_more most false false (Some count) fits = omega (arith, fits)

counted_last : (stands : Bool) → IsAtMost 0 (if stands then Some 0 else None)
counted_last true = omega arith
counted_last false = tt

-- no more are passed than may be
pub passed_at_most : (most time : ℕ) (past : List Placed) → IsAtMost most (passed_in most time past)
passed_at_most most time [] = omega arith
passed_at_most zero time (last ∷ past) = counted_last (stands_before time last)
passed_at_most (suc most) time (last ∷ past) =
    counted_more most (stands_before time last) (is_later_by MAX_STEP_BACK time last.said) (passed_in most time past) (passed_at_most most time past)

-- no more are passed than are there
pub passed_within : (most time : ℕ) (past : List Placed) → IsAtMost (length past) (passed_in most time past)
passed_within most time [] = omega arith
passed_within zero time (last ∷ past) = counted_none (length past) (stands_before time last) where
  counted_none : (len : ℕ) (stands : Bool) → IsAtMost (suc len) (if stands then Some 0 else None)
  counted_none len true = omega arith
  counted_none len false = tt
passed_within (suc most) time (last ∷ past) =
    counted_more (length past) (stands_before time last) (is_later_by MAX_STEP_BACK time last.said) (passed_in most time past) (passed_within most time past)

-- as many as are passed are there
pub passed_count : (most time : ℕ) (past : List Placed) (count : ℕ) → passed_in most time past ≡ Some count → count ≤ length past
passed_count most time past count is = subst (IsAtMost (length past)) is (passed_within most time past)
