-- What was given stays: lines that still come stand behind it, and it keeps its numbers.
use Rattle.base.proofs.Common.{◌≡◌, ◌≢◌, ℕ, zero, suc, ◌+◌, ◌≤◌, List, [], ◌∷◌, ◌++◌, length, reverse, Bool, true, false, if◌then◌else◌, Option, Some, None, unwrap_or, refl, sym, ap, ◌∙◌, arith, subst, append-nil, length-append, length-map, map-append, eq-eqb, ne_eqb}
use Rattle.std.proofs.lemmas.List.{reverse-reverse}
use Rattle.yds_kernel.specs.Event.{Said, Stamped, Lost, Nothing}
use Rattle.yds_kernel.specs.Text.{Trace, trace_of, trace_from}
use Rattle.yds_kernel_order.specs.declared.limits.TheConstants.{MAX_PASSED, MAX_STEP_BACK}
use Rattle.yds_kernel_order.specs.Order.{Placed, is_before_by, is_behind, put, with_last, with_line, next_placed, placed_from, placed_of, said_in, in_order, number_at}
use Rattle.yds_kernel_order.specs.Ordering.{Order, Ordering, Stop, AtEnd, AtFault, IsGiven, IsOrderOf, IsReadTo, IsCounted, HoldsEnough, order_at}

-- # Before the first line

-- A new reader stands for the order of what its source has left.
pub first_order : (input : List ℕ) (ordering : Ordering) → ordering.stop ≡ None → ordering.lines ≡ 0 → ordering.waiting ≡ [] → ordering.reader.left ≡ [] →
    ordering.reader.number ≡ 0 → IsOrderOf input ordering [] (Some input)
first_order input ordering stop lines waiting left number = record {
  order =
      ap (λ (n : ℕ). record { placed = placed_of (trace_of input); lines = n; fault = (trace_of input).fault }) (omega arith)
      ∙ ap (λ (bytes : List ℕ). order_at None 0 [] (bytes ++ input)) (sym left)
      ∙ ap (λ (placed : List Placed). order_at None 0 (placed ++ []) (ordering.reader.left ++ input)) (sym waiting)
      ∙ ap (λ (n : ℕ). order_at None n (ordering.waiting ++ []) (ordering.reader.left ++ input)) (sym lines)
      ∙ ap (λ (s : Option Stop). order_at s ordering.lines (ordering.waiting ++ []) (ordering.reader.left ++ input)) (sym stop);
  read_to = subst (λ (s : Option Stop). IsReadTo s input) (sym stop) tt;
  counted = subst (λ (s : Option Stop). IsCounted s ordering.lines ordering.reader.number) (sym stop) (lines ∙ sym number);
}

-- # Lines that come stand behind what was given

-- these lines stand behind those, and are no fewer than so many
pub record Behind (most : ℕ) (all given : List Placed) : Type 0 where
  pub behind : List Placed
  pub parts : all ≡ behind ++ given
  pub enough : most ≤ length behind

abbrev pub PutBehind : ℕ → Option (List Placed) → List Placed → Type 0
PutBehind most None given = Unit {0}
PutBehind most (Some all) given = Behind most all given

first_behind : (line last : Placed) (given : List Placed) (stands : Bool) → PutBehind 0 (if stands then Some (line ∷ last ∷ given) else None) (last ∷ given)
first_behind line last given true = record { behind = line ∷ []; parts = refl; enough = omega arith }
first_behind line last given false = tt

last_behind : (line last : Placed) (waiting given : List Placed) (stands : Bool) →
    PutBehind 0 (if stands then Some (line ∷ last ∷ (waiting ++ given)) else None) given
last_behind line last waiting given true = record { behind = line ∷ last ∷ waiting; parts = refl; enough = omega arith }
last_behind line last waiting given false = tt

next_behind : (most : ℕ) (line last : Placed) (waiting given : List Placed) (stands far : Bool) (rest : Option (List Placed)) → most ≤ length waiting →
    PutBehind most rest given →
    PutBehind (suc most) (if stands then Some (line ∷ last ∷ (waiting ++ given)) else (if far then None else with_last last rest)) given
next_behind most line last waiting given true far rest enough put = record { behind = line ∷ last ∷ waiting; parts = refl; enough = omega arith }
next_behind most line last waiting given false true rest enough put = tt
next_behind most line last waiting given false false None enough put = tt
next_behind most line last waiting given false false (Some all) enough put = record {
  behind = last ∷ put.behind;
  parts = ap (λ (lines : List Placed). last ∷ lines) put.parts;
  enough = omega (arith, put.enough);
}

put_behind : (most : ℕ) (line : Placed) (waiting given : List Placed) → most ≤ length waiting → PutBehind most (put most line (waiting ++ given)) given
put_behind zero line [] [] enough = record { behind = line ∷ []; parts = refl; enough = omega arith }
put_behind zero line [] (last ∷ given) enough = first_behind line last given (is_behind line last)
put_behind zero line (last ∷ waiting) given enough = last_behind line last waiting given (is_behind line last)
put_behind (suc most) line [] given enough = absurd (omega arith)
put_behind (suc most) line (last ∷ waiting) given enough =
    next_behind most line last waiting given (is_behind line last) (is_before_by MAX_STEP_BACK line.said last.said) (put most line (waiting ++ given)) (omega arith)
    (put_behind most line waiting given (omega arith))

unwrapped_behind : (stays : Placed) (waiting given : List Placed) (found : Option (List Placed)) → MAX_PASSED ≤ length waiting → PutBehind MAX_PASSED found given →
    Behind MAX_PASSED (unwrap_or found (stays ∷ (waiting ++ given))) given
unwrapped_behind stays waiting given None enough put = record { behind = stays ∷ waiting; parts = refl; enough = omega arith }
unwrapped_behind stays waiting given (Some all) enough put = put

with_line_behind : (line : Placed) (waiting given : List Placed) → MAX_PASSED ≤ length waiting → Behind MAX_PASSED (with_line line (waiting ++ given)) given
with_line_behind line waiting given enough =
    unwrapped_behind (record { number = line.number; said = line.said; stays = true }) waiting given (put MAX_PASSED line (waiting ++ given)) enough
    (put_behind MAX_PASSED line waiting given enough)

pub next_placed_behind : (number : ℕ) (said : Said) (waiting given : List Placed) → MAX_PASSED ≤ length waiting →
    Behind MAX_PASSED (next_placed number said (waiting ++ given)) given
next_placed_behind number (Stamped event) waiting given enough =
    with_line_behind (record { number = number; said = Stamped event; stays = false }) waiting given enough
next_placed_behind number (Lost processor since) waiting given enough =
    with_line_behind (record { number = number; said = Lost processor since; stays = true }) waiting given enough
next_placed_behind number Nothing waiting given enough = record { behind = waiting; parts = refl; enough = enough }

placed_from_behind : (number : ℕ) (said : List Said) (waiting given : List Placed) → MAX_PASSED ≤ length waiting →
    Behind MAX_PASSED (placed_from number said (waiting ++ given)) given
placed_from_behind number [] waiting given enough = record { behind = waiting; parts = refl; enough = enough }
placed_from_behind number (first ∷ said) waiting given enough =
    let next : Behind MAX_PASSED (next_placed number first (waiting ++ given)) given = next_placed_behind number first waiting given enough in
    subst (λ (past : List Placed). Behind MAX_PASSED (placed_from (number + 1) said past) given) (sym next.parts)
    (placed_from_behind (number + 1) said next.behind given next.enough)

fewer : {all given : List Placed} → Behind MAX_PASSED all given → Behind 0 all given
fewer behind = record { behind = behind.behind; parts = behind.parts; enough = omega arith }

none_behind : (all : List Placed) → Behind 0 all []
none_behind all = record { behind = all; parts = sym (append-nil all); enough = omega arith }

order_behind_given : (ordering : Ordering) (given : List Placed) (bytes : List ℕ) → IsGiven ordering given →
    Behind 0 (order_at ordering.stop ordering.lines (ordering.waiting ++ given) bytes).placed given
order_behind_given ordering [] bytes is_given = none_behind (order_at ordering.stop ordering.lines (ordering.waiting ++ []) bytes).placed
order_behind_given ordering (line ∷ before) bytes is_given =
    stopped ordering.stop ordering.lines ordering.waiting (line ∷ before) bytes is_given.1 where
      stopped : (stop : Option Stop) (lines : ℕ) (waiting given : List Placed) (bytes : List ℕ) → HoldsEnough stop waiting →
          Behind 0 (order_at stop lines (waiting ++ given) bytes).placed given
      stopped None lines waiting given bytes enough = fewer (placed_from_behind (lines + 1) (trace_from (lines + 1) bytes).said waiting given enough)
      stopped (Some AtEnd) lines waiting given bytes enough = record { behind = waiting; parts = refl; enough = omega arith }
      stopped (Some (AtFault fault)) lines waiting given bytes enough = record { behind = waiting; parts = refl; enough = omega arith }

-- All lines are those that were given, with others behind them.
pub given_front : (input : List ℕ) (ordering : Ordering) (given : List Placed) (left : Option (List ℕ)) → IsGiven ordering given → IsOrderOf input ordering given left →
    Behind 0 (placed_of (trace_of input)) given
given_front input ordering given None is_given stands = absurd stands
given_front input ordering given (Some left) is_given stands =
    subst (λ (order : Order). Behind 0 order.placed given) (sym stands.order) (order_behind_given ordering given (ordering.reader.left ++ left) is_given)

-- # Numbers

-- a place that was given has the same number behind more lines
pub number_behind : (lines : ℕ) (behind given : List Placed) (place : ℕ) → place ≤ length given → number_at lines (behind ++ given) place ≡ number_at lines given place
number_behind lines [] given place within = refl
number_behind lines (last ∷ behind) given place within =
    let other : place ≢ length (behind ++ given) + 1 = λ same. omega (arith, same, length-append behind given) in
    rw (ne_eqb place (length (behind ++ given) + 1) other) (number_behind lines behind given place within)

-- the line that is given next has its number
pub number_of_next : (lines : ℕ) (behind given : List Placed) (line : Placed) → number_at lines (behind ++ line ∷ given) (length given + 1) ≡ line.number
number_of_next lines behind given line =
    number_behind lines behind (line ∷ given) (length given + 1) (omega arith)
    ∙ rw (eq-eqb (length given + 1) (length given + 1) refl) refl

-- # How many lines are placed

abbrev pub PutLength : ℕ → Option (List Placed) → Type 0
PutLength count None = Unit {0}
PutLength count (Some all) = length all ≡ count

last_length : (line last : Placed) (past : List Placed) (stands : Bool) →
    PutLength (suc (suc (length past))) (if stands then Some (line ∷ last ∷ past) else None)
last_length line last past true = omega arith
last_length line last past false = tt

next_length : (line last : Placed) (past : List Placed) (stands far : Bool) (rest : Option (List Placed)) → PutLength (suc (length past)) rest →
    PutLength (suc (suc (length past))) (if stands then Some (line ∷ last ∷ past) else (if far then None else with_last last rest))
next_length line last past true far rest put = omega arith
next_length line last past false true rest put = tt
next_length line last past false false None put = tt
next_length line last past false false (Some all) put = omega (arith, put)

put_length : (most : ℕ) (line : Placed) (past : List Placed) → PutLength (suc (length past)) (put most line past)
put_length zero line [] = refl
put_length (suc most) line [] = refl
put_length zero line (last ∷ past) = last_length line last past (is_behind line last)
put_length (suc most) line (last ∷ past) =
    next_length line last past (is_behind line last) (is_before_by MAX_STEP_BACK line.said last.said) (put most line past) (put_length most line past)

unwrapped_length : (stays : Placed) (past : List Placed) (found : Option (List Placed)) → PutLength (suc (length past)) found →
    length (unwrap_or found (stays ∷ past)) ≡ suc (length past)
unwrapped_length stays past None put = omega arith
unwrapped_length stays past (Some all) put = put

with_line_length : (line : Placed) (past : List Placed) → length (with_line line past) ≡ suc (length past)
with_line_length line past =
    unwrapped_length (record { number = line.number; said = line.said; stays = true }) past (put MAX_PASSED line past) (put_length MAX_PASSED line past)

next_placed_length : (number : ℕ) (said : Said) (past : List Placed) → length (next_placed number said past) ≤ suc (length past)
next_placed_length number (Stamped event) past = omega (arith, with_line_length (record { number = number; said = Stamped event; stays = false }) past)
next_placed_length number (Lost processor since) past = omega (arith, with_line_length (record { number = number; said = Lost processor since; stays = true }) past)
next_placed_length number Nothing past = omega arith

placed_from_length : (number : ℕ) (said : List Said) (past : List Placed) → length (placed_from number said past) ≤ length said + length past
placed_from_length number [] past = omega arith
placed_from_length number (first ∷ said) past =
    omega (arith, placed_from_length (number + 1) said (next_placed number first past), next_placed_length number first past)

-- No more lines were given than the text has up to its first fault.
pub given_within : (input : List ℕ) (ordering : Ordering) (given : List Placed) (left : Option (List ℕ)) → IsGiven ordering given → IsOrderOf input ordering given left →
    length given ≤ length (trace_of input).said
given_within input ordering given left is_given stands =
    let front : Behind 0 (placed_of (trace_of input)) given = given_front input ordering given left is_given stands in
    omega (arith, placed_from_length 1 (trace_of input).said [], ap length front.parts, length-append front.behind given)

-- # What was said

-- what a trace's lines say in order of time, the last one first
pub past_in_order : (trace : Trace) → reverse (in_order trace).said ≡ said_in (placed_of trace)
past_in_order trace = reverse-reverse (said_in (placed_of trace))

-- as much is said as lines are placed
pub length-said_in : (placed : List Placed) → length (said_in placed) ≡ length placed
length-said_in placed = length-map placed (λ line. line.said)

pub said_behind : (behind given : List Placed) → said_in (behind ++ given) ≡ said_in behind ++ said_in given
said_behind behind given = map-append (λ line. line.said) behind given
