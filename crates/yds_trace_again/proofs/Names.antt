-- The names of a trace's jobs: a task's label, a dot and a number or a word without a dot; of what a job that moved ran on a processor, `@` and its
-- number behind that. So no two of one document that are told whole are the same.
use Rattle.yds_model.proofs.Common.{◌≡◌, ◌≢◌, ℕ, zero, suc, ◌<◌, ◌≤◌, ◌⊎◌, inl, inr, Bool, true, false, List, [], ◌∷◌, ◌++◌, length, decimal, refl, sym, ap, ◌∙◌, arith, codes, append_assoc, length-append, append-nil, Option, Some, None, if◌then◌else◌, All, All-nil, All-cons, All-append, All-head, All-tail, digits_value}
use Rattle.std.proofs.lemmas.Fmt.{decimal_is_IsNumeral_wide}
use Rattle.std.proofs.lemmas.List.{append_cancel_right}
use Rattle.yds_trace.specs.Document.{named, name_in_parts}
use Rattle.yds_texts.proofs.TaskNames.{parted}
use Rattle.yds_trace_again.proofs.Plain.{Plain, all_other, plain_append, plain_decimal, Digits, decimal_digits, few_digits}

-- what stands behind the label and the dot
abbrev tail : Bool → ℕ → List ℕ
tail true zero = codes "before"
tail true (suc k) = decimal k
tail false k = decimal k

named_is : (label : List ℕ) (before : Bool) (k : ℕ) → named label before k ≡ label ++ 46 ∷ tail before k
named_is label true zero = refl
named_is label true (suc k) = append_assoc label (codes ".") (decimal k)
named_is label false k = append_assoc label (codes ".") (decimal k)

-- what stands behind that, of a job that moved
abbrev at_part : Option ℕ → List ℕ
at_part None = []
at_part (Some processor) = codes "@" ++ decimal processor

in_parts_is : (name : List ℕ) (part : Option ℕ) → name_in_parts name part ≡ name ++ at_part part
in_parts_is name None = sym (append-nil name)
in_parts_is name (Some processor) = append_assoc name (codes "@") (decimal processor)

name_is : (label : List ℕ) (before : Bool) (k : ℕ) (part : Option ℕ) → name_in_parts (named label before k) part ≡ label ++ 46 ∷ (tail before k ++ at_part part)
name_is label before k part =
    in_parts_is (named label before k) part ∙ ap (λ (name : List ℕ). name ++ at_part part) (named_is label before k)
    ∙ append_assoc label (46 ∷ tail before k) (at_part part)

-- Digits have neither a dot nor an `@`.
digits_without : (other : ℕ) (text : List ℕ) → (other < 48) ⊎ (57 < other) → Digits text → All (λ byte. byte ≢ other) text
digits_without other [] none all = All-nil (λ byte. byte ≢ other)
digits_without other (byte ∷ text) none all =
    All-cons (λ byte. byte ≢ other) byte text (λ same. by none same all.0.0 all.0.1) (digits_without other text none all.1)
  where
    by : (other < 48) ⊎ (57 < other) → byte ≡ other → 48 ≤ byte → byte ≤ 57 → ⊥
    by (inl low) same least most = omega (arith, low, same, least)
    by (inr high) same least most = omega (arith, high, same, most)

tail_without : (other : ℕ) (before : Bool) (k : ℕ) → (other < 48) ⊎ (57 < other) → All (λ byte. byte ≢ other) (codes "before") → All (λ byte. byte ≢ other) (tail before k)
tail_without other true zero none word = word
tail_without other true (suc k) none word = digits_without other (decimal k) none (decimal_digits k)
tail_without other false k none word = digits_without other (decimal k) none (decimal_digits k)

tail_undotted : (before : Bool) (k : ℕ) → All (λ byte. byte ≢ 46) (tail before k)
tail_undotted before k = tail_without 46 before k (inl (omega arith)) (all_other 46 (codes "before") refl)

part_undotted : (part : Option ℕ) → All (λ byte. byte ≢ 46) (at_part part)
part_undotted None = All-nil (λ byte. byte ≢ 46)
part_undotted (Some processor) =
    All-cons (λ byte. byte ≢ 46) 64 (decimal processor) (λ same. omega (arith, same)) (digits_without 46 (decimal processor) (inl (omega arith)) (decimal_digits processor))

-- The names of two jobs tell their labels, and what stands behind the dot.
names_tell : (label other : List ℕ) (before also : Bool) (k j : ℕ) (part next : Option ℕ) → name_in_parts (named label before k) part ≡ name_in_parts (named other also j) next →
    (label ≡ other) × (tail before k ++ at_part part ≡ tail also j ++ at_part next)
names_tell label other before also k j part next same =
    parted label (tail before k ++ at_part part) other (tail also j ++ at_part next)
    (All-append (λ byte. byte ≢ 46) (tail before k) (at_part part) (tail_undotted before k) (part_undotted part))
    (All-append (λ byte. byte ≢ 46) (tail also j) (at_part next) (tail_undotted also j) (part_undotted next))
    (sym (name_is label before k part) ∙ same ∙ name_is other also j next)

-- A text with an `@` isn't one without.
no_mark : (front behind text : List ℕ) → All (λ byte. byte ≢ 64) text → front ++ 64 ∷ behind ≡ text → ⊥
no_mark front behind [] none same = none_there front same
  where
    none_there : (front : List ℕ) → front ++ 64 ∷ behind ≡ [] → ⊥
    none_there [] same = cc
    none_there (byte ∷ front) same = cc
no_mark [] behind (byte ∷ text) none same = let first : byte ≡ 64 = cc in All-head (λ byte. byte ≢ 64) byte text none first
no_mark (one ∷ front) behind (byte ∷ text) none same =
    let rest : front ++ 64 ∷ behind ≡ text = cc in no_mark front behind text (All-tail (λ byte. byte ≢ 64) byte text none) rest

unmarked : (before : Bool) (k : ℕ) → All (λ byte. byte ≢ 64) (tail before k)
unmarked before k = tail_without 64 before k (inr (omega arith)) (all_other 64 (codes "before") refl)

-- What stands before the processor, in the documents of one processor.
tails_tell : (before also : Bool) (k j processor : ℕ) (moved other : Bool) →
    tail before k ++ at_part (if moved then Some processor else None) ≡ tail also j ++ at_part (if other then Some processor else None) → tail before k ≡ tail also j
tails_tell before also k j processor true true same = append_cancel_right (tail before k) (tail also j) (at_part (Some processor)) same
tails_tell before also k j processor true false same =
    absurd (no_mark (tail before k) (decimal processor) (tail also j) (unmarked also j) (same ∙ append-nil (tail also j)))
tails_tell before also k j processor false true same =
    absurd (no_mark (tail also j) (decimal processor) (tail before k) (unmarked before k) (sym same ∙ append-nil (tail before k)))
tails_tell before also k j processor false false same = append_cancel_right (tail before k) (tail also j) [] same

-- # Jobs of one task

-- two names that are short are not the same
abbrev pub Other : List ℕ → List ℕ → Type 0
Other x y = length x ≤ 64 → length y ≤ 64 → x ≢ y

pub other_back : (x y : List ℕ) → Other x y → Other y x
other_back x y other short small same = other small short (sym same)

same_number : (k j : ℕ) → length (decimal k) < 64 → length (decimal j) < 64 → decimal k ≡ decimal j → k ≡ j
same_number k j short small same =
    sym (decimal_is_IsNumeral_wide k (few_digits k short)).1 ∙ ap (digits_value 10) same ∙ (decimal_is_IsNumeral_wide j (few_digits j small)).1

no_letter : (text rest : List ℕ) → Digits text → 98 ∷ rest ≡ text → ⊥
no_letter [] rest all same = cc
no_letter (byte ∷ text) rest all same = let first : 98 ≡ byte = cc in omega (arith, first, all.0.1)

same_place : (before : Bool) (k j : ℕ) → length (tail before k) < 64 → length (tail before j) < 64 → tail before k ≡ tail before j → k ≡ j
same_place true zero zero short small same = refl
same_place true zero (suc j) short small same = absurd (no_letter (decimal j) _ (decimal_digits j) same)
same_place true (suc k) zero short small same = absurd (no_letter (decimal k) _ (decimal_digits k) (sym same))
same_place true (suc k) (suc j) short small same = ap (λ (n : ℕ). suc n) (same_number k j short small same)
same_place false k j short small same = same_number k j short small same

tail_short : (label : List ℕ) (before : Bool) (k : ℕ) (part : Option ℕ) → length (name_in_parts (named label before k) part) ≤ 64 → length (tail before k) < 64
tail_short label before k part short =
    omega (arith, short, ap {B = ℕ} length (name_is label before k part), length-append label (46 ∷ (tail before k ++ at_part part)), length-append (tail before k) (at_part part))

-- Each may be what a job that moved ran on this processor.
pub one_task : (label : List ℕ) (before : Bool) (k j processor : ℕ) (moved other : Bool) → k < j →
    Other (name_in_parts (named label before k) (if moved then Some processor else None)) (name_in_parts (named label before j) (if other then Some processor else None))
one_task label before k j processor moved other order short small same =
    let part : Option ℕ = if moved then Some processor else None in
    let next : Option ℕ = if other then Some processor else None in
    let place : k ≡ j =
    same_place before k j (tail_short label before k part short) (tail_short label before j next small)
    (tails_tell before before k j processor moved other (names_tell label label before before k j part next same).1) in
    omega (arith, order, place)

pub two_tasks : (label other : List ℕ) (before also : Bool) (k j : ℕ) (part next : Option ℕ) → label ≢ other →
    Other (name_in_parts (named label before k) part) (name_in_parts (named other also j) next)
two_tasks label other before also k j part next apart short small same = apart (names_tell label other before also k j part next same).0

-- # Plain names

pub named_plain : (label : List ℕ) (before : Bool) (k : ℕ) → Plain label → Plain (named label before k)
named_plain label true zero plain = plain_append label (codes ".before") plain refl
named_plain label true (suc k) plain = plain_append (label ++ codes ".") (decimal k) (plain_append label (codes ".") plain refl) (plain_decimal k)
named_plain label false k plain = plain_append (label ++ codes ".") (decimal k) (plain_append label (codes ".") plain refl) (plain_decimal k)

pub in_parts_plain : (name : List ℕ) (part : Option ℕ) → Plain name → Plain (name_in_parts name part)
in_parts_plain name None plain = plain
in_parts_plain name (Some processor) plain = plain_append (name ++ codes "@") (decimal processor) (plain_append name (codes "@") plain refl) (plain_decimal processor)
