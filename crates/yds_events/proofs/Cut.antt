-- How sorted keys cut time: a time more behind others, and the places of the keys' times.
use Rattle.yds_model.proofs.Common.{◌≡◌, ℕ, ◌+◌, ◌-◌, ◌<◌, ◌≤◌, List, [], ◌∷◌, ◌++◌, length, get_or, set, map, take, ◌∙◌, refl, sym, ap, inl, inr, arith, ◌==◌, Bool, true, false, cond, All, dedup, dedup_from, cases_Bool, cases_eq, and_parts, ltb-true, eqb-true, get_or_append_left, get_or_default, get_or_push, get_or-set_same, get_or-set_other, length_push, map_more, place_cases}
use Rattle.yds_events.specs.Keys.{key_of, time_of_key, number_of_key, AreKeys, IsAt, ArePlaces, ends_with, with_end}
use Rattle.yds_events.proofs.Keys.{IsKey, key_is, as_many, key_at}

-- a time more, which stands last; the others stay
pub record Added (times : List ℕ) (time : ℕ) (more : List ℕ) : Type 0 where
  pub last : IsAt more time (length more - 1)
  pub kept : (other place : ℕ) → IsAt times other place → IsAt more other place
  pub few : length more ≤ length times + 1

pub added : (times : List ℕ) (time : ℕ) → Added times time (with_end times time)
added times time = grind (arith, and_parts, cases_Bool, eqb-true, get_or_append_left, get_or_push, length_push, ltb-true)

-- # What stays without repeats

cond_after : (first : ℕ) (b : Bool) (xs ys : List ℕ) → first ∷ cond b xs ys ≡ cond b (first ∷ xs) (first ∷ ys)
cond_after first true xs ys = refl
cond_after first false xs ys = refl

-- a time before others
same_end : (first next time : ℕ) (times : List ℕ) → ends_with (first ∷ next ∷ times) time ≡ ends_with (next ∷ times) time
same_end first next time times = grind arith

last_cons : (first : ℕ) (times : List ℕ) (time : ℕ) → 1 ≤ length times → first ∷ with_end times time ≡ with_end (first ∷ times) time
last_cons first [] time some = absurd (omega arith)
last_cons first (next ∷ times) time some =
    ap (λ b. first ∷ cond b (next ∷ times) ((next ∷ times) ++ time ∷ [])) (sym (same_end first next time times))
    ∙ cond_after first (ends_with (first ∷ next ∷ times) time) (next ∷ times) ((next ∷ times) ++ time ∷ [])

dedup_more : (first : ℕ) (times : List ℕ) (time : ℕ) →
    (1 ≤ length (dedup_from (λ x y. x == y) first times))
    × (dedup_from (λ x y. x == y) first (times ++ time ∷ []) ≡ with_end (dedup_from (λ x y. x == y) first times) time)
dedup_more first [] time = (omega arith, elim (cases_Bool (time == first)) [ inl same ↦ rw same refl | inr new ↦ rw new refl ])
dedup_more first (next ∷ times) time = elim (cases_Bool (next == first)) [
  | inl same ↦ rw same (dedup_more first times time)
  | inr new ↦
      let more = dedup_more next times time in
      rw new (omega arith, ap (λ (xs : List ℕ). first ∷ xs) more.1 ∙ last_cons first (dedup_from (λ x y. x == y) next times) time more.0)
]

dedup_push : (times : List ℕ) (time : ℕ) → dedup (λ x y. x == y) (times ++ time ∷ []) ≡ with_end (dedup (λ x y. x == y) times) time
dedup_push [] time = refl
dedup_push (first ∷ times) time = (dedup_more first times time).1

pub times_more : (keys : List ℕ) (i : ℕ) → i < length keys →
    with_end (dedup (λ x y. x == y) (map time_of_key (take i keys))) (time_of_key (get_or keys i 0)) ≡ dedup (λ x y. x == y) (map time_of_key (take (i + 1) keys))
times_more keys i within = sym (ap (dedup (λ x y. x == y)) (map_more time_of_key keys i 0 within) ∙ dedup_push (map time_of_key (take i keys)) (time_of_key (get_or keys i 0)))

-- # Places

-- at the numbers of the first n keys stand the places of their times
abbrev pub ArePlaced : List ℕ → ℕ → List ℕ → List ℕ → Type 0
ArePlaced keys n points places = (i : ℕ) → i < n → IsAt points (time_of_key (get_or keys i 0)) (get_or places (number_of_key (get_or keys i 0)) 0)

pub placed_more : (times keys points places : List ℕ) (n : ℕ) → All (IsKey times) keys → length keys ≡ length times → length places ≡ length keys → n < length keys →
    ArePlaced keys n points places → ArePlaced keys (n + 1) (with_end points (time_of_key (get_or keys n 0)))
    (set places (number_of_key (get_or keys n 0)) (length (with_end points (time_of_key (get_or keys n 0))) - 1))
placed_more times keys points places n are count all within placed i below =
    let key = get_or keys n 0 in
    let place = length (with_end points (time_of_key key)) - 1 in
    let here = are n 0 within in
    elim (cases_eq (number_of_key (get_or keys i 0)) (number_of_key key)) [
      | inl same ↦
          let time : time_of_key (get_or keys i 0) ≡ time_of_key key = (are i 0 (omega arith)).same ∙ ap (λ k. get_or times k 0) same ∙ sym here.same in
          rw (time, same, get_or-set_same places (number_of_key key) place 0 (omega (arith, here.known))) (added points (time_of_key key)).last
      | inr other ↦
          let before : i < n = elim (place_cases i n below) [
            | inl less ↦ less
            | inr is ↦ absurd (other (ap (λ k. number_of_key (get_or keys k 0)) is))
          ] in
          rw (get_or-set_other places (number_of_key key) (number_of_key (get_or keys i 0)) place 0 other)
          ((added points (time_of_key key)).kept (time_of_key (get_or keys i 0)) (get_or places (number_of_key (get_or keys i 0)) 0) (placed i before))
    ]

-- then each number has its place
pub all_placed : (times keys points places : List ℕ) → AreKeys times keys → length places ≡ length keys → ArePlaced keys (length keys) points places →
    ArePlaces times points places
all_placed times keys points places are count placed = record {
  all = count ∙ as_many times keys are;
  each = λ number known.
      let found = key_at times keys are number known in
      let is = key_is (get_or times number 0) number (omega (arith, known, are.few)) in
      let here : get_or keys found.0 0 ≡ key_of times number = get_or_default keys found.0 0 (key_of times number) found.1 ∙ found.2 in
      rw (here, is.0, is.1) at (placed found.0 found.1);
}
