-- A text that is put into a sink in parts, each of the lines of some items; and the lines of a part, from the last to the first.
use Rattle.yds_model.proofs.Common.{◌≡◌, ℕ, ◌-◌, ◌≤◌, List, [], ◌∷◌, ◌++◌, ◌∙◌, ap, sym, subst, append_assoc, Option, Result, Ok, Err, IsErr, refl, length, take, drop, get_or, drop-cons, take-append-drop, arith, flat_map, All, flat_map-append, append-nil, All-drop}
use Rattle.yds_port.specs.Sink.{Puts}
use Rattle.yds_port.proofs.Putting.{PutsWhole, puts_whole, puts_done, puts_text, puts_failed, puts_front, puts_after, whole_after}

-- what comes before this rest of the text was put whole
pub record PutsUpTo {K : Type 0} (written : K → Option (List ℕ)) (flushed : K → Option ℕ) (flushes faults : K → ℕ) (rest text : List ℕ) (old new : K) : Type 0 where
  pub front : List ℕ
  pub put : PutsWhole written flushed flushes faults front old new
  pub parts : front ++ rest ≡ text

-- one more part was put
pub part_put : {K T E : Type 0} {written : K → Option (List ℕ)} {flushed : K → Option ℕ} {flushes faults : K → ℕ} {part rest text : List ℕ} {y : T} {a b c : K}
    → (after : List ℕ) → part ++ after ≡ rest → PutsUpTo written flushed flushes faults rest text a b → Puts {E = E} written flushed flushes faults (Ok y) part b c
    → PutsUpTo written flushed flushes faults after text a c
part_put {part = part} after is before done = record {
  front = before.front ++ part;
  put = whole_after before.put (puts_whole refl done);
  parts = append_assoc before.front part after ∙ ap (λ rest. before.front ++ rest) is ∙ before.parts;
}

-- a part failed, and so did the whole
pub part_failed : {K T E S F : Type 0} {written : K → Option (List ℕ)} {flushed : K → Option ℕ} {flushes faults : K → ℕ} {part rest text : List ℕ} {e : E} {a b c : K}
    → (after : List ℕ) → part ++ after ≡ rest → (s : Result S F) → IsErr s → PutsUpTo written flushed flushes faults rest text a b
    → Puts {T = T} written flushed flushes faults (Err e) part b c → Puts written flushed flushes faults s text a c
part_failed {part = part} after is s failed before done =
    puts_text (append_assoc before.front part after ∙ ap (λ rest. before.front ++ rest) is ∙ before.parts)
    (puts_front after s failed (puts_after s before.put (puts_failed s failed refl done)))

-- the parts were put, and nothing is left
pub parts_put : {K T E : Type 0} {written : K → Option (List ℕ)} {flushed : K → Option ℕ} {flushes faults : K → ℕ} {rest text : List ℕ} {y : T} {a b : K}
    → rest ≡ [] → PutsUpTo written flushed flushes faults rest text a b → Puts {E = E} written flushed flushes faults (Ok y) text a b
parts_put is before = puts_text (sym (append-nil before.front) ∙ ap (λ rest. before.front ++ rest) (sym is) ∙ before.parts) (puts_done before.put)

-- # The lines of some items

-- a text before no text
pub before_none : {text part old : List ℕ} → text ≡ part ++ old → old ≡ [] → text ≡ part
before_none {part = part} is none = is ∙ ap (λ old. part ++ old) none ∙ append-nil part

-- the lines of the first items, and then those of the others
pub lines_of_both : {X : Type 0} {text : List ℕ} {front back : List X} (lines : X → List ℕ) (xs : List X) (n : ℕ) → text ≡ flat_map lines front → front ≡ take n xs → back ≡ drop n xs
    → text ++ flat_map lines back ≡ flat_map lines xs
lines_of_both {front = front} {back = back} lines xs n is is_front is_back =
    ap (λ l. l ++ flat_map lines back) is ∙ sym (flat_map-append lines front back)
    ∙ ap (flat_map lines) (ap (λ l. l ++ back) is_front ∙ ap (λ l. take n xs ++ l) is_back ∙ take-append-drop n xs)

-- the lines of the only item
pub lines_of_one : {X : Type 0} (lines : X → List ℕ) (xs : List X) (x : X) → length xs ≡ 1 → x ≡ get_or xs 0 x → lines x ≡ flat_map lines xs
lines_of_one lines [] x one is = cc
lines_of_one lines (y ∷ []) x one is = ap lines is ∙ sym (append-nil (lines y))
lines_of_one lines (y ∷ z ∷ xs) x one is = absurd (omega (arith, one))

-- what holds of each item holds of each of the others
pub all_of_others : {X : Type 0} (P : X → Type 0) (xs : List X) {back : List X} (n : ℕ) → back ≡ drop n xs → All P xs → All P back
all_of_others P xs n is all = subst (All P) (sym is) (All-drop P n xs all)

-- the lines of the item before stand before those of the items from a place on
pub lines_before : {X : Type 0} (lines : X → List ℕ) (xs : List X) (place : ℕ) (d x : X) → 1 ≤ place → place ≤ length xs → get_or xs (place - 1) d ≡ x
    → lines x ++ flat_map lines (drop place xs) ≡ flat_map lines (drop (place - 1) xs)
lines_before lines xs place d x some within item = grind (arith, drop-cons)
