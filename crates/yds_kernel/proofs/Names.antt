-- Names that stand at the front of bytes.
use Rattle.base.proofs.Common.{◌≡◌, ◌≤◌, ℕ, ◌++◌, ◌&&◌, nat_le, leb-true, List, length, codes, take, drop, true, Some, sym, ap, subst, ◌∙◌, refl, take_all, take-append-drop, le_refl}
use Rattle.std.specs.Str.{bytes_eq}
use Rattle.std.proofs.lemmas.Bool.{and_parts}
use Rattle.std.proofs.lemmas.Slice.Eq.{bytes_eq-Decides}
use Rattle.yds_kernel.specs.Stamp.{word_at}

-- what begins with a text is that text and what comes after it
pub begins_with : (bytes text : List ℕ) → (nat_le (length text) (length bytes) && bytes_eq (take (length text) bytes) text) ≡ true → bytes ≡ text ++ drop (length text) bytes
begins_with bytes text begins =
    let same = (and_parts (nat_le (length text) (length bytes)) (bytes_eq (take (length text) bytes) text) begins).1 in
    sym (take-append-drop (length text) bytes) ∙ ap (λ (front : List ℕ). front ++ drop (length text) bytes) ((bytes_eq-Decides (take (length text) bytes) text).0 same)

-- what begins with a text of its length is that text
pub is_whole : (bytes text : List ℕ) → length bytes ≡ length text → (nat_le (length text) (length bytes) && bytes_eq (take (length text) bytes) text) ≡ true → bytes ≡ text
is_whole bytes text same_len begins =
    let same = (and_parts (nat_le (length text) (length bytes)) (bytes_eq (take (length text) bytes) text) begins).1 in
    sym (ap (λ (len : ℕ). take len bytes) (sym same_len) ∙ take_all (length bytes) bytes (le_refl (length bytes)))
    ∙ (bytes_eq-Decides (take (length text) bytes) text).0 same

-- it is as long at least
pub begins_within : (bytes text : List ℕ) → (nat_le (length text) (length bytes) && bytes_eq (take (length text) bytes) text) ≡ true → length text ≤ length bytes
begins_within bytes text begins =
    leb-true (length text) (length bytes) (and_parts (nat_le (length text) (length bytes)) (bytes_eq (take (length text) bytes) text) begins).0

-- the commonest names, and a blank behind them
pub switch_word : (rest : List ℕ) → word_at (codes "sched_switch: " ++ rest) ≡ Some (take 13 (codes "sched_switch: " ++ rest), drop 13 (codes "sched_switch: " ++ rest))
unfolding word_at
switch_word rest = refl

pub waking_word : (rest : List ℕ) → word_at (codes "sched_waking: " ++ rest) ≡ Some (take 13 (codes "sched_waking: " ++ rest), drop 13 (codes "sched_waking: " ++ rest))
unfolding word_at
waking_word rest = refl

pub wakeup_word : (rest : List ℕ) → word_at (codes "sched_wakeup: " ++ rest) ≡ Some (take 13 (codes "sched_wakeup: " ++ rest), drop 13 (codes "sched_wakeup: " ++ rest))
unfolding word_at
wakeup_word rest = refl

-- what is known of each text that begins so is known of this one
pub known_word : (bytes text : List ℕ) → bytes ≡ text ++ drop (length text) bytes → ((rest : List ℕ) → word_at (text ++ rest) ≡ Some (take 13 (text ++ rest), drop 13 (text ++ rest))) →
    word_at bytes ≡ Some (take 13 bytes, drop 13 bytes)
known_word bytes text begins word =
    subst (λ (whole : List ℕ). word_at whole ≡ Some (take 13 whole, drop 13 whole)) (sym begins) (word (drop (length text) bytes))
