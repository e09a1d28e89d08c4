-- What a ring holds after a line was put into it.
use Rattle.base.proofs.Common.{◌≡◌, ℕ, zero, suc, ◌+◌, ◌-◌, ◌<◌, ◌≤◌, List, [], ◌∷◌, ◌++◌, length, set, get_or, Bool, true, false, not, or-true, Option, Some, None, option_map, unwrap_or, is_none, is_some, false≢true, true≢false, refl, sym, ap, ◌∙◌, arith, subst, append-nil, append_assoc, take, drop, drop_all, take_all, get_or-set_same, get_or-set_other, ◌⊎◌, inl, inr}
use Rattle.std.proofs.lemmas.Option.{none-some, same_Some}
use Rattle.yds_kernel.specs.declared.loss.Since.{Since}
use Rattle.yds_kernel.specs.Event.{Event, Said, Stamped, Lost}
use Rattle.yds_kernel_order.specs.declared.limits.TheConstants.{MAX_PASSED}
use Rattle.yds_kernel_order.specs.declared.ring.TheConstants.{SLOTS}
use Rattle.yds_kernel_order.specs.Order.{Placed, put, next_placed}
use Rattle.yds_kernel_order.specs.Ring.{Held, no_line, wrapped, slot_at, held_from, given_at, passed_in, IsMovedDown, IsBehind, Places, GivesFirst}
use Rattle.yds_kernel_order.proofs.Placing.{inserted, put_passed, passed_in_front, inserted_front, passed_at_most, passed_count, IsAtMost}
use Rattle.yds_kernel_order.proofs.Places.{length-held_from, at_place, held_join, held_set, held_moved, held_wrapped, wrapped_low, wrapped_within, wrapped_apart}

-- # One more line

-- an event of this number
abbrev pub event_line : ℕ → Event → Bool → Placed
event_line number event stays = record { number = number; said = Stamped event; stays = stays }

-- the slots after an event was put before so many of those that are held, or behind all where it stays
abbrev pub IsPut : ℕ → ℕ → ℕ → Event → Option ℕ → List Placed → List Placed → Type 0
IsPut first held number event found slots new =
    IsMovedDown first held (unwrap_or found 0) (set slots (wrapped (first + held)) (event_line number event (is_none found))) new

written : (slots : List Placed) (line : Placed) (first held : ℕ) → first < SLOTS → held < SLOTS → length slots ≡ SLOTS →
    slot_at (set slots (wrapped (first + held)) line) (first + held) ≡ line
written slots line first held low fits len =
    get_or-set_same slots (wrapped (first + held)) line no_line (omega (arith, wrapped_within (first + held) (omega arith)))

-- as many are passed as are held
pub count_held : (slots : List Placed) (first held time : ℕ) (found : Option ℕ) → found ≡ passed_in MAX_PASSED time (held_from slots first held) →
    unwrap_or found 0 ≤ held
count_held slots first held time None is = omega arith
count_held slots first held time (Some count) is =
    omega (arith, passed_count MAX_PASSED time (held_from slots first held) count (sym is), length-held_from slots first held)

put_behind_all : (slots : List Placed) (line : Placed) (first held : ℕ) → first < SLOTS → held < SLOTS → length slots ≡ SLOTS →
    held_from (set slots (wrapped (first + held)) line) first (suc held) ≡ line ∷ held_from slots first held
put_behind_all slots line first held low fits len =
    ap (λ (here : Placed). here ∷ held_from (set slots (wrapped (first + held)) line) first held) (written slots line first held low fits len)
    ∙ ap (λ (lines : List Placed). line ∷ lines) (held_set slots line first held low fits len)

-- what an event becomes, by how many lines it is put before
event_placed : (number : ℕ) (event : Event) (past : List Placed) (found : Option ℕ) → passed_in MAX_PASSED event.time past ≡ found →
    next_placed number (Stamped event) past ≡ unwrap_or (option_map (λ count. inserted count (event_line number event false) past) found) (event_line number event true ∷ past)
event_placed number event past found same =
    ap (λ (put : Option (List Placed)). unwrap_or put (event_line number event true ∷ past))
    (put_passed MAX_PASSED number false event past ∙ ap (option_map (λ count. inserted count (event_line number event false) past)) same)

found_placed : (number : ℕ) (event : Event) (past : List Placed) (found : Option ℕ) →
    inserted (unwrap_or found 0) (event_line number event (is_none found)) past
    ≡ unwrap_or (option_map (λ count. inserted count (event_line number event false) past) found) (event_line number event true ∷ past)
found_placed number event past None = refl
found_placed number event past (Some count) = refl

-- the lines that are held after an event was put among them, before those that were given earlier
pub event_held : (slots new : List Placed) (first held number : ℕ) (event : Event) (found : Option ℕ) (before : List Placed) →
    first < SLOTS → held < SLOTS → length slots ≡ SLOTS → found ≡ passed_in MAX_PASSED event.time (held_from slots first held) →
    passed_in MAX_PASSED event.time (held_from slots first held ++ before) ≡ passed_in MAX_PASSED event.time (held_from slots first held) →
    IsPut first held number event found slots new →
    held_from new first (suc held) ++ before ≡ next_placed number (Stamped event) (held_from slots first held ++ before)
event_held slots new first held number event found before low fits len is_found front put =
    let stays : Bool = is_none found in
    let count : ℕ = unwrap_or found 0 in
    let line : Placed = event_line number event stays in
    let written_slots : List Placed = set slots (wrapped (first + held)) line in
    let below : ℕ = held - count in
    let parts : below + count ≡ held = omega (arith, count_held slots first held event.time found is_found) in
    let moved : held_from new first (suc held) ≡ inserted count (slot_at written_slots (first + held)) (held_from written_slots first held) =
    subst (λ (n : ℕ). held_from new first (suc n) ≡ inserted count (slot_at written_slots (first + n)) (held_from written_slots first n)) parts
    (held_moved written_slots new first below count (subst (λ (n : ℕ). IsMovedDown first n count written_slots new) (sym parts) put)) in
    ap (λ (lines : List Placed). lines ++ before)
    (moved ∙ ap (λ (here : Placed). inserted count here (held_from written_slots first held)) (written slots line first held low fits len)
    ∙ ap (inserted count line) (held_set slots line first held low fits len))
    ∙ sym (inserted_front count line (held_from slots first held) before
    (omega (arith, count_held slots first held event.time found is_found, length-held_from slots first held)))
    ∙ found_placed number event (held_from slots first held ++ before) found
    ∙ sym (event_placed number event (held_from slots first held ++ before) found (front ∙ sym is_found))

-- a line that tells of lost events stands behind all
pub loss_placed : (number processor : ℕ) (since : Since) (past : List Placed) →
    next_placed number (Lost processor since) past ≡ record { number = number; said = Lost processor since; stays = true } ∷ past
loss_placed number processor since [] = refl
loss_placed number processor since (last ∷ past) = rw (or-true last.stays) refl

-- # The ring

-- the ring of these slots
abbrev pub ring_of : List Placed → ℕ → ℕ → ℕ → Held
ring_of slots first given waiting = record { waiting = held_from slots (first + given) waiting; given = given_at slots first given }

-- nothing was given earlier, or a line isn't put before all that are held
abbrev pub IsApart : ℕ → List Placed → Type 0
IsApart held before = (before ≡ []) ⊎ (MAX_PASSED < held)

-- the lines that wait stand behind the given one
one_given : (slots : List Placed) (first waiting : ℕ) (line : Placed) (before : List Placed) → slot_at slots first ≡ line →
    held_from slots first (1 + waiting) ++ before ≡ held_from slots (first + 1) waiting ++ line ∷ before
one_given slots first waiting line before given =
    let here : slot_at slots (first + 0) ≡ line = at_place slots (first + 0) first (omega arith) ∙ given in
    ap (λ (lines : List Placed). lines ++ before) (held_join slots first 1 waiting)
    ∙ append_assoc (held_from slots (first + 1) waiting) (held_from slots first 1) before
    ∙ ap (λ (first_line : Placed). held_from slots (first + 1) waiting ++ first_line ∷ before) here

no_given : (slots : List Placed) (first waiting : ℕ) → held_from slots first (0 + waiting) ≡ held_from slots (first + 0) waiting
no_given slots first waiting =
    let from : first ≡ first + 0 = omega arith in
    let count : 0 + waiting ≡ waiting = omega arith in
    ap (λ (n : ℕ). held_from slots n (0 + waiting)) from ∙ ap (held_from slots (first + 0)) count

-- The ring whose slots became these, where the lines that are held became those.
pub ring_places : (slots new : List Placed) (first given waiting number : ℕ) (said : Said) → given ≤ 1 →
    (MAX_PASSED < given + waiting → slot_at new first ≡ slot_at slots first) →
    ((before : List Placed) → IsApart (given + waiting) before →
    held_from new first (suc (given + waiting)) ++ before ≡ next_placed number said (held_from slots first (given + waiting) ++ before)) →
    Places number said (ring_of slots first given waiting) (ring_of new first given (waiting + 1))
ring_places slots new first zero waiting number said few stays placed = record {
  behind = kept;
  placed = put;
} where
  kept : (lines : List Placed) → IsBehind (ring_of slots first 0 waiting) lines → IsBehind (ring_of new first 0 (waiting + 1)) lines
  kept [] behind = refl
  kept (line ∷ before) behind = absurd (none-some line behind.0)

  put : (lines : List Placed) → IsBehind (ring_of slots first 0 waiting) lines →
      held_from new (first + 0) (waiting + 1) ++ lines ≡ next_placed number said (held_from slots (first + 0) waiting ++ lines)
  put [] behind =
      let more : 0 + (waiting + 1) ≡ suc (0 + waiting) = omega arith in
      ap (λ (lines : List Placed). lines ++ []) (sym (no_given new first (waiting + 1)) ∙ ap (held_from new first) more)
      ∙ placed [] (inl refl)
      ∙ ap (λ (lines : List Placed). next_placed number said (lines ++ [])) (no_given slots first waiting)
  put (line ∷ before) behind = absurd (none-some line behind.0)
ring_places slots new first (suc zero) waiting number said few stays placed = record {
  behind = kept;
  placed = put;
} where
  kept : (lines : List Placed) → IsBehind (ring_of slots first 1 waiting) lines → IsBehind (ring_of new first 1 (waiting + 1)) lines
  kept [] behind = absurd (none-some (slot_at slots first) (sym behind))
  kept (line ∷ before) behind = (
    ap Some (stays (omega (arith, behind.1, length-held_from slots (first + 1) waiting))) ∙ behind.0,
    omega (arith, behind.1, length-held_from slots (first + 1) waiting, length-held_from new (first + 1) (waiting + 1)),
  )

  put : (lines : List Placed) → IsBehind (ring_of slots first 1 waiting) lines →
      held_from new (first + 1) (waiting + 1) ++ lines ≡ next_placed number said (held_from slots (first + 1) waiting ++ lines)
  put [] behind = absurd (none-some (slot_at slots first) (sym behind))
  put (line ∷ before) behind =
      let enough : MAX_PASSED ≤ waiting = omega (arith, behind.1, length-held_from slots (first + 1) waiting) in
      let old_line : slot_at slots first ≡ line = same_Some (slot_at slots first) line behind.0 in
      let more : 1 + (waiting + 1) ≡ suc (1 + waiting) = omega arith in
      sym (one_given new first (waiting + 1) line before (stays (omega (arith, enough)) ∙ old_line))
      ∙ ap (λ (n : ℕ). held_from new first n ++ before) more
      ∙ placed before (inr (omega arith))
      ∙ ap (next_placed number said) (one_given slots first waiting line before old_line)
ring_places slots new first (suc (suc given)) waiting number said few stays placed = absurd (omega arith)

-- # An event

apart_front : (time held : ℕ) (lines before : List Placed) → length lines ≡ held → IsApart held before →
    passed_in MAX_PASSED time (lines ++ before) ≡ passed_in MAX_PASSED time lines
apart_front time held lines before len (inl none) =
    ap (λ (more : List Placed). passed_in MAX_PASSED time (lines ++ more)) none ∙ ap (passed_in MAX_PASSED time) (append-nil lines)
apart_front time held lines before len (inr more) = passed_in_front MAX_PASSED time lines before (omega arith)

other_stays : (slots : List Placed) (line : Placed) (first held : ℕ) → first < SLOTS → 0 < held → held < SLOTS →
    slot_at (set slots (wrapped (first + held)) line) first ≡ slot_at slots first
other_stays slots line first held low some fits =
    get_or-set_other slots (wrapped (first + held)) (wrapped first) line no_line (wrapped_apart first (first + held) (omega arith) (omega arith) (omega arith))

event_stays : (slots new : List Placed) (first held number : ℕ) (event : Event) (found : Option ℕ) → first < SLOTS → held < SLOTS → MAX_PASSED < held →
    unwrap_or found 0 ≤ MAX_PASSED → IsPut first held number event found slots new → slot_at new first ≡ slot_at slots first
event_stays slots new first held number event found low fits enough most put =
    let written_slots : List Placed = set slots (wrapped (first + held)) (event_line number event (is_none found)) in
    at_place new first (first + 0) (omega arith) ∙ put.below 0 (omega (arith, most)) ∙ at_place written_slots (first + 0) first (omega arith)
    ∙ other_stays slots (event_line number event (is_none found)) first held low (omega arith) fits

at_most : (most time : ℕ) (past : List Placed) (found : Option ℕ) → found ≡ passed_in most time past → unwrap_or found 0 ≤ most
at_most most time past None is = omega arith
at_most most time past (Some count) is = subst (IsAtMost most) (sym is) (passed_at_most most time past)

-- The ring after an event: its slots became these.
pub event_places : (slots new : List Placed) (first given waiting number : ℕ) (event : Event) (found : Option ℕ) →
    first < SLOTS → given ≤ 1 → waiting ≤ MAX_PASSED → length slots ≡ SLOTS →
    found ≡ passed_in MAX_PASSED event.time (held_from slots first (given + waiting)) →
    IsPut first (given + waiting) number event found slots new →
    Places number (Stamped event) (ring_of slots first given waiting) (ring_of new first given (waiting + 1))
event_places slots new first given waiting number event found low few room len is_found put =
    let fits : given + waiting < SLOTS = omega (arith, few, room) in
    let most : unwrap_or found 0 ≤ MAX_PASSED = at_most MAX_PASSED event.time (held_from slots first (given + waiting)) found is_found in
    ring_places slots new first given waiting number (Stamped event) few
    (λ more. event_stays slots new first (given + waiting) number event found low fits more most put)
    (λ before apart. event_held slots new first (given + waiting) number event found before low fits len is_found
    (apart_front event.time (given + waiting) (held_from slots first (given + waiting)) before (length-held_from slots first (given + waiting)) apart) put)

-- # A line that tells of lost events

loss_held : (slots : List Placed) (first held number processor : ℕ) (since : Since) (before : List Placed) → first < SLOTS → held < SLOTS → length slots ≡ SLOTS →
    held_from (set slots (wrapped (first + held)) (record { number = number; said = Lost processor since; stays = true })) first (suc held) ++ before
    ≡ next_placed number (Lost processor since) (held_from slots first held ++ before)
loss_held slots first held number processor since before low fits len =
    ap (λ (lines : List Placed). lines ++ before)
    (put_behind_all slots (record { number = number; said = Lost processor since; stays = true }) first held low fits len)
    ∙ sym (loss_placed number processor since (held_from slots first held ++ before))

-- The ring after such a line.
pub loss_places : (slots : List Placed) (first given waiting number processor : ℕ) (since : Since) → first < SLOTS → given ≤ 1 → waiting ≤ MAX_PASSED → length slots ≡ SLOTS →
    Places number (Lost processor since) (ring_of slots first given waiting)
    (ring_of (set slots (wrapped (first + (given + waiting))) (record { number = number; said = Lost processor since; stays = true })) first given (waiting + 1))
loss_places slots first given waiting number processor since low few room len =
    let fits : given + waiting < SLOTS = omega (arith, few, room) in
    ring_places slots (set slots (wrapped (first + (given + waiting))) (record { number = number; said = Lost processor since; stays = true })) first given waiting number
    (Lost processor since) few
    (λ more. other_stays slots (record { number = number; said = Lost processor since; stays = true }) first (given + waiting) low (omega arith) fits)
    (λ before apart. loss_held slots first (given + waiting) number processor since before low fits len)

-- # The first line that waits

-- the first of the lines that wait, and those behind it
pub first_waits : (slots : List Placed) (first given waiting : ℕ) → first < SLOTS → given ≤ 1 → waiting < SLOTS → 0 < waiting →
    held_from slots (first + given) waiting ≡ held_from slots (wrapped (first + given) + 1) (waiting - 1) ++ slot_at slots (first + given) ∷ []
first_waits slots first given waiting low few room some =
    let all : waiting ≡ 1 + (waiting - 1) = omega arith in
    let here : slot_at slots (first + given + 0) ≡ slot_at slots (first + given) = at_place slots (first + given + 0) (first + given) (omega arith) in
    ap (held_from slots (first + given)) all
    ∙ held_join slots (first + given) 1 (waiting - 1)
    ∙ ap (λ (line : Placed). held_from slots (first + given + 1) (waiting - 1) ++ line ∷ []) here
    ∙ ap (λ (lines : List Placed). lines ++ slot_at slots (first + given) ∷ []) (sym (held_wrapped slots (first + given) 1 (waiting - 1) (omega arith)))

-- The ring after the first line that waits was given.
pub first_given : (slots : List Placed) (first given waiting : ℕ) → first < SLOTS → given ≤ 1 → waiting < SLOTS → 0 < waiting →
    GivesFirst (ring_of slots first given waiting) (ring_of slots (wrapped (first + given)) 1 (waiting - 1))
first_given slots first given waiting low few room some = record {
  line = slot_at slots (first + given);
  first = first_waits slots first given waiting low few room some;
  given = ap Some (ap (λ (n : ℕ). get_or slots n no_line) (wrapped_low (wrapped (first + given)) (wrapped_within (first + given) (omega arith))));
}

-- Where a ring has room, as many lines wait.
pub waiting_len : (slots : List Placed) (first given waiting : ℕ) (held : Held) → ring_of slots first given waiting ≡ held → length held.waiting ≤ MAX_PASSED →
    waiting ≤ MAX_PASSED
waiting_len slots first given waiting held is room =
    omega (arith, room, ap (λ (h : Held). length h.waiting) is, length-held_from slots (first + given) waiting)

-- What is written to all of a list's places is the list then.
pub lent : {X : Type 0} (len : ℕ) (items new : List X) → len ≡ length items → length new ≡ length items → take len (new ++ drop (length new) items) ≡ new
lent len items new whole same =
    ap (λ (rest : List _). take len (new ++ rest)) (drop_all (length new) items (omega (arith, same)))
    ∙ ap (take len) (append-nil new) ∙ take_all len new (omega (arith, whole, same))

-- The slots after an event was written behind the lines that are held, and moved before as many as it passes.
pub event_written : (slots now new : List Placed) (first held number place count : ℕ) (event : Event) (found : Option ℕ) (line : Placed) (stays : Bool) →
    place ≡ wrapped (first + held) → stays ≡ is_none found → line ≡ event_line number event stays → now ≡ set slots place line → count ≡ unwrap_or found 0 →
    IsMovedDown first held count now new → IsPut first held number event found slots new
event_written slots now new first held number place count event found line stays here staying is written counted moved =
    let same : now ≡ set slots (wrapped (first + held)) (event_line number event (is_none found)) =
    written ∙ ap (set slots place) (is ∙ ap (event_line number event) staying)
    ∙ ap (λ (n : ℕ). set slots n (event_line number event (is_none found))) here in
    subst (λ (items : List Placed). IsMovedDown first held (unwrap_or found 0) items new) same
    (subst (λ (n : ℕ). IsMovedDown first held n now new) counted moved)

-- whether there is none, by whether there is one
pub none_is : (found : Option ℕ) (result : Bool) → is_some found ≡ not result → result ≡ is_none found
none_is None true same = refl
none_is None false same = absurd (false≢true same)
none_is (Some count) true same = absurd (true≢false same)
none_is (Some count) false same = refl
