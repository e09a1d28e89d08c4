-- The parts of all processors: those of one are what it has by itself, and so is what is known of them.
use Rattle.yds_model.proofs.Common.{◌≡◌, ◌≢◌, ◌∙◌, ℕ, zero, suc, ◌+◌, ◌<◌, ◌≤◌, ◌⊎◌, inl, inr, ◌==◌, ◌||◌, List, [], ◌∷◌, ◌++◌, map, filter, flat_map, get_or, Bool, true, false, if◌then◌else◌, Option, Some, None, refl, sym, ap, ap₂, subst, arith, cases_lt, eq-eqb, ne_eqb, or_parts, append-nil, filter-append, flat_map-append, list_any, filter_all, filter_none, contains_filter, All, All-nil, All-cons, All-push, All-from_recursion, recursion_from_All, All-filter, All-contains_itself, AllByRecursion, Contains, Contains-get_or}
use Rattle.std.proofs.lemmas.List.Folds.{list_any-append}
use Rattle.yds_kernel.specs.Event.{Said}
use Rattle.yds_trace.specs.declared.cut.Cut.{Cut}
use Rattle.yds_trace.specs.declared.fault.Cause.TheVariants as causes
use Rattle.yds_trace.specs.Asked.{Asked, IsAsked, on}
use Rattle.yds_trace.specs.Faults.{first_fault}
use Rattle.yds_trace.specs.Document.{Judged, all_judged}
use Rattle.yds_trace.specs.Past.{processor_count}
use Rattle.yds_trace.specs.Parts.{belongs, place_of, cut_after, changes_parts, first_numbers, processors_of, watched_of, changes_one, parts_fault}
use Rattle.yds_trace.proofs.OnProcessor.{first_fault_on, changes_parts_on}
use Rattle.yds_trace_laws.specs.Processors.{whole_job, BelongsTo}
use Rattle.yds_trace_laws.proofs.Ordered.{append-all, append-all_left, map-all}
use Rattle.yds_trace_laws.proofs.Runs.{all_weaker, contained}
use Rattle.yds_trace_laws.proofs.Processors.{each_job_belongs, part_unseen, cut_unseen}
use Rattle.yds_trace_again.proofs.Parts.{parts_are_read_again}
use Rattle.yds_trace_again.proofs.Worth.{feasible_read, faithful_read}
use Rattle.yds_trace_whole.specs.Parts.{Part, made, made_with, made_at, parts_behind, parts_of, made_behind, written_behind, last_made, written_parts, parts_on, KeepsParts, KeepsAllParts}
use Rattle.yds_trace_whole.specs.Laws.{PartsAreOfProcessors, AllPartsAreKept}
use Rattle.yds_trace_whole.specs.Worth.{IsPartFeasible, IsNamedIn, IsToldLateIn, NothingLateInParts, IsFaithfulPart, IsReadPart, NothingLateInTexts, ArePartsReadAgain, AreFaithfulPieces}
use Rattle.yds_trace_whole.specs.WorthLaws.{NothingIsLateAnywhere, EachPartIsRead}
use Rattle.yds_trace_whole.proofs.Holding.{kept_for}
use Rattle.yds_trace_whole.proofs.Shared.{one_by_one, all_both}
use Rattle.yds_trace_whole.proofs.Worth.{IsKeptBefore, none_before, at_place, nothing_is_late_in_parts, parts_are_faithful}

-- # Each part that is written

flat-all : {A B : Type 0} (P : B → Type 0) (f : A → List B) (xs : List A) → ((x : A) → AllByRecursion P (f x)) → AllByRecursion P (flat_map f xs)
flat-all P f [] each = tt
flat-all P f (x ∷ xs) each = append-all P (f x) (flat_map f xs) (each x) (flat-all P f xs each)

-- what is written behind a line of this processor
abbrev piece_on : Asked → List Said → Said → ℕ → List Part
piece_on asked past said processor =
    made_at (on processor asked) (said ∷ past) (cut_after (on processor asked) past) (place_of (on processor asked) (said ∷ past) (cut_after (on processor asked) past))

module _ (P : Part → Type 0) (asked : Asked) (Q : List Said → Type 0) (kept : IsKeptBefore Q)
    (each : (processor : ℕ) (lines : List Said) (cut : Cut) (until : Option ℕ) → Q lines → P (made (on processor asked) lines cut until)) where
  each_written : (past : List Said) → Q past → AllByRecursion P (written_behind asked past)
  each_written [] holds = tt
  each_written (said ∷ past) holds =
      append-all P (written_behind asked past) (made_behind asked past said (processors_of asked (said ∷ past))) (each_written past (kept said past holds))
      (flat-all P (piece_on asked past said) (processors_of asked (said ∷ past))
      (λ processor. at_place P (on processor asked) (said ∷ past) (cut_after (on processor asked) past)
      (place_of (on processor asked) (said ∷ past) (cut_after (on processor asked) past))
      (λ until. each processor (said ∷ past) (cut_after (on processor asked) past) until holds)))

-- What holds of each part that is made of such lines holds of all that are written.
pub of_each_written : (P : Part → Type 0) (asked : Asked) (Q : List Said → Type 0) (past : List Said) → IsKeptBefore Q → Q past →
    ((processor : ℕ) (lines : List Said) (cut : Cut) (until : Option ℕ) → Q lines → P (made (on processor asked) lines cut until)) → All P (written_parts asked past)
of_each_written P asked Q past kept holds each =
    All-from_recursion P (written_parts asked past)
    (append-all P (written_behind asked past) (map (last_made asked past) (processors_of asked past)) (each_written P asked Q kept each past holds)
    (map-all P (last_made asked past) (processors_of asked past) (λ processor. each processor past (cut_after (on processor asked) past) None holds)))

-- Whoever asks for another processor asks for as much.
asked_on : (asked : Asked) (processor : ℕ) → IsAsked asked → IsAsked (on processor asked)
asked_on asked processor fit = record { has_unit = fit.has_unit; has_speed_unit = fit.has_speed_unit; deadlines = fit.deadlines }

-- the law
pub each_part_is_read : EachPartIsRead
each_part_is_read asked strict past fit labelled none =
    of_each_written (IsReadPart asked strict) asked (λ lines. first_fault asked lines ≡ None) past (none_before asked) none
    (λ processor lines cut until whole limits short.
    parts_are_read_again (on processor asked) strict lines cut until (asked_on asked processor fit) labelled (first_fault_on asked processor lines ∙ whole) limits short)

-- # Pieces of several processors

abbrev AreOn : ℕ → List Part → Type 0
AreOn processor parts = AllByRecursion (λ part. part.processor ≡ processor) parts

piece_is_on : (asked : Asked) (past : List Said) (said : Said) (processor : ℕ) → AreOn processor (piece_on asked past said processor)
piece_is_on asked past said processor =
    at_place (λ part. part.processor ≡ processor) (on processor asked) (said ∷ past) (cut_after (on processor asked) past)
    (place_of (on processor asked) (said ∷ past) (cut_after (on processor asked) past)) (λ until. refl)

own_parts : (processor : ℕ) (parts : List Part) → AreOn processor parts → parts_on processor parts ≡ parts
own_parts processor parts own =
    filter_all (λ part. part.processor == processor) parts
    (All-from_recursion (λ part. (part.processor == processor) ≡ true) parts
    (all_weaker (λ part. part.processor ≡ processor) (λ part. (part.processor == processor) ≡ true) (λ part is. eq-eqb part.processor processor is) parts own))

other_parts : (processor other : ℕ) (parts : List Part) → other ≢ processor → AreOn other parts → parts_on processor parts ≡ []
other_parts processor other parts apart own =
    filter_none (λ part. part.processor == processor) parts
    (All-from_recursion (λ part. (part.processor == processor) ≡ false) parts
    (all_weaker (λ part. part.processor ≡ other) (λ part. (part.processor == processor) ≡ false)
    (λ part is. ne_eqb part.processor processor (λ same. apart (sym is ∙ same))) parts own))

module _ (piece : ℕ → List Part) (are_on : (processor : ℕ) → AreOn processor (piece processor)) where
  one_more : (processor n : ℕ) → parts_on processor (flat_map piece (first_numbers (suc n))) ≡ parts_on processor (flat_map piece (first_numbers n)) ++ parts_on processor (piece n)
  one_more processor n =
      ap (parts_on processor) (flat_map-append piece (first_numbers n) (n ∷ []) ∙ ap (λ (l : List Part). flat_map piece (first_numbers n) ++ l) (append-nil (piece n)))
      ∙ filter-append (λ part. part.processor == processor) (flat_map piece (first_numbers n)) (piece n)

  -- Of the first processors it isn't one.
  none_on : (processor n : ℕ) → n ≤ processor → parts_on processor (flat_map piece (first_numbers n)) ≡ []
  none_on processor zero beyond = refl
  none_on processor (suc n) beyond =
      one_more processor n
      ∙ ap₂ (λ (first second : List Part). first ++ second) (none_on processor n (omega (arith, beyond)))
      (other_parts processor n (piece n) (λ same. omega (arith, beyond, same)) (are_on n))

  -- Or it is one, once.
  once_on : (processor n : ℕ) → processor < n → parts_on processor (flat_map piece (first_numbers n)) ≡ piece processor
  once_on processor zero within = absurd (omega (arith, within))
  once_on processor (suc n) within = one_more processor n ∙ by (cases_lt processor n) (once_on processor n)
    where
      by : (processor < n) ⊎ (n ≤ processor) → (processor < n → parts_on processor (flat_map piece (first_numbers n)) ≡ piece processor) →
          parts_on processor (flat_map piece (first_numbers n)) ++ parts_on processor (piece n) ≡ piece processor
      by (inl before) rest =
          ap₂ (λ (first second : List Part). first ++ second) (rest before) (other_parts processor n (piece n) (λ same. omega (arith, before, same)) (are_on n))
          ∙ append-nil (piece processor)
      by (inr late) rest =
          ap₂ (λ (first second : List Part). first ++ second) (none_on processor n late) (own_parts processor (piece n) (subst (λ (k : ℕ). AreOn k (piece n)) (same_number late) (are_on n)))
          ∙ ap piece (same_number late)
        where
          same_number : n ≤ processor → n ≡ processor
          same_number late = omega (arith, within, late)

-- # A processor of which no line tells

-- It has no part.
none_made : (asked : Asked) (past : List Said) (processor : ℕ) (cut : Cut) (place : Option ℕ) → asked.everywhere ≡ true → processor_count past ≤ processor →
    made_at (on processor asked) past cut place ≡ []
none_made asked past processor cut None everywhere unseen = refl
none_made asked past processor cut (Some time) everywhere unseen =
    ap (made_with (on processor asked) past cut time) (part_unseen asked past processor cut (Some time) everywhere unseen)

-- # The parts of a processor

module _ (asked : Asked) (processor : ℕ) where
  abbrev IsOwnPiece : List Said → Said → Type 0
  IsOwnPiece past said = parts_on processor (made_behind asked past said (processors_of asked (said ∷ past))) ≡ piece_on asked past said processor

  behind_on : ((past : List Said) (said : Said) → IsOwnPiece past said) → (past : List Said) → parts_on processor (written_behind asked past) ≡ parts_behind (on processor asked) past
  behind_on each [] = refl
  behind_on each (said ∷ past) =
      filter-append (λ part. part.processor == processor) (written_behind asked past) (made_behind asked past said (processors_of asked (said ∷ past)))
      ∙ ap₂ (λ (first second : List Part). first ++ second) (behind_on each past) (each past said)

  all_on : (past : List Said) → ((past : List Said) (said : Said) → IsOwnPiece past said) →
      parts_on processor (map (last_made asked past) (processors_of asked past)) ≡ last_made asked past processor ∷ [] →
      parts_on processor (written_parts asked past) ≡ parts_of (on processor asked) past
  all_on past each last =
      filter-append (λ part. part.processor == processor) (written_behind asked past) (map (last_made asked past) (processors_of asked past))
      ∙ ap₂ (λ (first second : List Part). first ++ second) (behind_on each past) last

map_is_flat : {A B : Type 0} (f : A → B) (xs : List A) → map f xs ≡ flat_map (λ x. f x ∷ []) xs
map_is_flat f [] = refl
map_is_flat {A} {B} f (x ∷ xs) = ap (λ (l : List B). f x ∷ l) (map_is_flat f xs)

every_piece : (asked : Asked) (past : List Said) (said : Said) (processor : ℕ) → asked.everywhere ≡ true → IsOwnPiece asked processor past said
every_piece asked past said processor everywhere =
    ap (λ (b : Bool). parts_on processor (made_behind asked past said (if b then first_numbers n else asked.processor ∷ []))) everywhere ∙ by (cases_lt processor n)
  where
    n : ℕ
    n = processor_count (said ∷ past)

    by : (processor < n) ⊎ (n ≤ processor) → parts_on processor (flat_map (piece_on asked past said) (first_numbers n)) ≡ piece_on asked past said processor
    by (inl within) = once_on (piece_on asked past said) (piece_is_on asked past said) processor n within
    by (inr beyond) =
        none_on (piece_on asked past said) (piece_is_on asked past said) processor n beyond
        ∙ sym (none_made asked (said ∷ past) processor (cut_after (on processor asked) past) (place_of (on processor asked) (said ∷ past) (cut_after (on processor asked) past)) everywhere beyond)

every_last : (asked : Asked) (past : List Said) (processor : ℕ) → asked.everywhere ≡ true → processor < processor_count past →
    parts_on processor (map (last_made asked past) (processors_of asked past)) ≡ last_made asked past processor ∷ []
every_last asked past processor everywhere within =
    ap (λ (b : Bool). parts_on processor (map (last_made asked past) (if b then first_numbers (processor_count past) else asked.processor ∷ []))) everywhere
    ∙ ap (parts_on processor) (map_is_flat (last_made asked past) (first_numbers (processor_count past)))
    ∙ once_on (λ other. last_made asked past other ∷ []) (λ other. (refl, tt)) processor (processor_count past) within

alone_piece : (asked : Asked) (past : List Said) (said : Said) → asked.everywhere ≡ false → IsOwnPiece asked asked.processor past said
alone_piece asked past said alone =
    ap (λ (b : Bool). parts_on asked.processor (made_behind asked past said (if b then first_numbers (processor_count (said ∷ past)) else asked.processor ∷ []))) alone
    ∙ ap (parts_on asked.processor) (append-nil (piece_on asked past said asked.processor))
    ∙ own_parts asked.processor (piece_on asked past said asked.processor) (piece_is_on asked past said asked.processor)

alone_last : (asked : Asked) (past : List Said) → asked.everywhere ≡ false →
    parts_on asked.processor (map (last_made asked past) (processors_of asked past)) ≡ last_made asked past asked.processor ∷ []
alone_last asked past alone =
    ap (λ (b : Bool). parts_on asked.processor (map (last_made asked past) (if b then first_numbers (processor_count past) else asked.processor ∷ []))) alone
    ∙ own_parts asked.processor (last_made asked past asked.processor ∷ []) (refl, tt)

-- what holds of each of the first numbers, or of the processor that is asked for, holds of all that have documents
first_all : (P : ℕ → Type 0) (n : ℕ) → ((number : ℕ) → number < n → P number) → All P (first_numbers n)
first_all P zero each = All-nil P
first_all P (suc n) each = All-push P (first_numbers n) n (first_all P n (λ number within. each number (omega (arith, within)))) (each n (omega arith))

each_processor : (P : ℕ → Type 0) (asked : Asked) (past : List Said) → (asked.everywhere ≡ true → (processor : ℕ) → processor < processor_count past → P processor) →
    (asked.everywhere ≡ false → P asked.processor) → All P (processors_of asked past)
each_processor P asked past every alone = by asked.everywhere refl
  where
    by : (b : Bool) → asked.everywhere ≡ b → All P (if b then first_numbers (processor_count past) else asked.processor ∷ [])
    by true is = first_all P (processor_count past) (every is)
    by false is = All-cons P asked.processor [] (alone is) (All-nil P)

-- the law
pub parts_are_of_processors : PartsAreOfProcessors
parts_are_of_processors asked past =
    each_processor (λ processor. parts_on processor (written_parts asked past) ≡ parts_of (on processor asked) past) asked past
    (λ everywhere processor within.
    all_on asked processor past (λ lines said. every_piece asked lines said processor everywhere) (every_last asked past processor everywhere within))
    (λ alone. all_on asked asked.processor past (λ lines said. alone_piece asked lines said alone) (alone_last asked past alone))

-- # No line is refused behind the parts of one

-- the line changes a part that was written of this processor
abbrev changes_on : Asked → List Said → Said → ℕ → Bool
changes_on asked past said processor = changes_parts (on processor asked) past (cut_after (on processor asked) past) said

any_none : (test : ℕ → Bool) (n number : ℕ) → number < n → list_any test (first_numbers n) ≡ false → test number ≡ false
any_none test zero number within none = absurd (omega (arith, within))
any_none test (suc n) number within none =
    let parts = or_parts (list_any test (first_numbers n)) (test n || false) (sym (list_any-append test (first_numbers n) (n ∷ [])) ∙ none) in
    by (cases_lt number n) (λ before. any_none test n number before parts.0) (or_parts (test n) false parts.1).0
  where
    by : (number < n) ⊎ (n ≤ number) → (number < n → test number ≡ false) → test n ≡ false → test number ≡ false
    by (inl before) rest last = rest before
    by (inr late) rest last = subst (λ (k : ℕ). test k ≡ false) (let e : n ≡ number = omega (arith, within, late) in e) last

-- Processors of which no line tells yet are alike.
unseen_alike : (asked : Asked) (past : List Said) (said : Said) (processor other : ℕ) → asked.everywhere ≡ true → processor_count past ≤ processor → processor_count past ≤ other →
    changes_on asked past said processor ≡ changes_on asked past said other
unseen_alike asked past said processor other everywhere one two =
    changes_parts_on asked processor past (cut_after (on processor asked) past) said
    ∙ ap (λ (cut : Cut). changes_parts asked past cut said) (cut_unseen asked past processor other everywhere one two)
    ∙ sym (changes_parts_on asked other past (cut_after (on other asked) past) said)

every_kept : (asked : Asked) (processor : ℕ) → asked.everywhere ≡ true → (past : List Said) (said : Said) → parts_fault asked past said ≡ None → changes_on asked past said processor ≡ false
every_kept asked processor everywhere past said none = by (cases_lt processor (n + 1))
  where
    n : ℕ
    n = processor_count (said ∷ past)

    all_kept : list_any (changes_on asked past said) (first_numbers (n + 1)) ≡ false
    all_kept =
        sym (ap (λ (b : Bool). list_any (changes_on asked past said) (if b then first_numbers (n + 1) else asked.processor ∷ [])) everywhere)
        ∙ kept_for (changes_one asked past said (watched_of asked (said ∷ past))) none

    more : processor_count past ≤ n
    more = omega arith

    by : (processor < n + 1) ⊎ (n + 1 ≤ processor) → changes_on asked past said processor ≡ false
    by (inl watched) = any_none (changes_on asked past said) (n + 1) processor watched all_kept
    by (inr beyond) =
        unseen_alike asked past said processor n everywhere (omega (arith, beyond, more)) more ∙ any_none (changes_on asked past said) (n + 1) n (omega arith) all_kept

alone_kept : (asked : Asked) → asked.everywhere ≡ false → (past : List Said) (said : Said) → parts_fault asked past said ≡ None → changes_on asked past said asked.processor ≡ false
alone_kept asked alone past said none =
    (or_parts (changes_on asked past said asked.processor) false
    (sym (ap (λ (b : Bool). list_any (changes_on asked past said) (if b then first_numbers (processor_count (said ∷ past) + 1) else asked.processor ∷ [])) alone)
    ∙ kept_for (changes_one asked past said (watched_of asked (said ∷ past))) none)).0

kept_on : (asked : Asked) (processor : ℕ) → ((past : List Said) (said : Said) → parts_fault asked past said ≡ None → changes_on asked past said processor ≡ false) →
    (past : List Said) → KeepsAllParts asked past → KeepsParts (on processor asked) past
kept_on asked processor each [] keeps = tt
kept_on asked processor each (said ∷ past) keeps =
    (ap (λ (b : Bool). if b then Some causes.PartWritten else None) (each past said keeps.0), kept_on asked processor each past keeps.1)

-- the law
pub all_parts_are_kept : AllPartsAreKept
all_parts_are_kept asked past keeps =
    each_processor (λ processor. KeepsParts (on processor asked) past) asked past
    (λ everywhere processor within. kept_on asked processor (every_kept asked processor everywhere) past keeps)
    (λ alone. kept_on asked asked.processor (alone_kept asked alone) past keeps)

-- # Each part that is written is of a processor that has documents

-- what holds of the first numbers holds of fewer
fewer : (P : ℕ → Type 0) (n m : ℕ) → n ≤ m → AllByRecursion P (first_numbers m) → AllByRecursion P (first_numbers n)
fewer P n zero few all = subst (λ (k : ℕ). AllByRecursion P (first_numbers k)) (let e : zero ≡ n = omega (arith, few) in e) tt
fewer P n (suc m) few all = by (cases_lt m n) (λ less. fewer P n m less (append-all_left P (first_numbers m) (m ∷ []) all))
  where
    by : (m < n) ⊎ (n ≤ m) → (n ≤ m → AllByRecursion P (first_numbers n)) → AllByRecursion P (first_numbers n)
    by (inl more) rest = subst (λ (k : ℕ). AllByRecursion P (first_numbers k)) (let e : suc m ≡ n = omega (arith, few, more) in e) all
    by (inr less) rest = rest less

-- Those that had documents before a line have some behind it.
had_before : (P : ℕ → Type 0) (asked : Asked) (said : Said) (past : List Said) → AllByRecursion P (processors_of asked (said ∷ past)) → AllByRecursion P (processors_of asked past)
had_before P asked said past all = by asked.everywhere all
  where
    by : (b : Bool) → AllByRecursion P (if b then first_numbers (processor_count (said ∷ past)) else asked.processor ∷ []) →
        AllByRecursion P (if b then first_numbers (processor_count past) else asked.processor ∷ [])
    by true all = fewer P (processor_count past) (processor_count (said ∷ past)) (omega arith) all
    by false all = all

abbrev IsOf : (ℕ → Type 0) → Part → Type 0
IsOf P part = P part.processor

pieces_of : (P : ℕ → Type 0) (asked : Asked) (past : List Said) (said : Said) (processors : List ℕ) → AllByRecursion P processors → AllByRecursion (IsOf P) (made_behind asked past said processors)
pieces_of P asked past said [] all = tt
pieces_of P asked past said (processor ∷ processors) all =
    append-all (IsOf P) (piece_on asked past said processor) (made_behind asked past said processors)
    (all_weaker (λ part. part.processor ≡ processor) (IsOf P) (λ part is. subst P (sym is) all.0) (piece_on asked past said processor) (piece_is_on asked past said processor))
    (pieces_of P asked past said processors all.1)

behind_of : (P : ℕ → Type 0) (asked : Asked) (past : List Said) → AllByRecursion P (processors_of asked past) → AllByRecursion (IsOf P) (written_behind asked past)
behind_of P asked [] all = tt
behind_of P asked (said ∷ past) all =
    append-all (IsOf P) (written_behind asked past) (made_behind asked past said (processors_of asked (said ∷ past))) (behind_of P asked past (had_before P asked said past all))
    (pieces_of P asked past said (processors_of asked (said ∷ past)) all)

last_of : (P : ℕ → Type 0) (asked : Asked) (past : List Said) (processors : List ℕ) → AllByRecursion P processors → AllByRecursion (IsOf P) (map (last_made asked past) processors)
last_of P asked past [] all = tt
last_of P asked past (processor ∷ processors) all = (all.0, last_of P asked past processors all.1)

-- So what holds of each of these processors holds of that of each part.
of_processors : (P : ℕ → Type 0) (asked : Asked) (past : List Said) → All P (processors_of asked past) → All (IsOf P) (written_parts asked past)
of_processors P asked past all =
    let each = recursion_from_All P (processors_of asked past) all in
    All-from_recursion (IsOf P) (written_parts asked past)
    (append-all (IsOf P) (written_behind asked past) (map (last_made asked past) (processors_of asked past)) (behind_of P asked past each)
    (last_of P asked past (processors_of asked past) each))

-- What holds of each part that a processor has by itself holds of each part that is written.
each_is_own : (P : ℕ → Part → Type 0) (asked : Asked) (past : List Said) → All (λ processor. All (P processor) (parts_of (on processor asked) past)) (processors_of asked past) →
    All (λ part. P part.processor part) (written_parts asked past)
each_is_own P asked past own i d within =
    let parts : List Part = written_parts asked past in
    let part : Part = get_or parts i d in
    let there : Contains (parts_on part.processor parts) part =
    contains_filter (λ (other : Part). other.processor == part.processor) parts part (eq-eqb part.processor part.processor refl) (All-contains_itself parts i d within) in
    contained (P part.processor) (parts_on part.processor parts) part there
    (subst (All (P part.processor)) (sym (of_processors (λ processor. parts_on processor parts ≡ parts_of (on processor asked) past) asked past (parts_are_of_processors asked past) i d within))
    (of_processors (λ processor. All (P processor) (parts_of (on processor asked) past)) asked past own i d within))

-- # Each part is faithful

-- as what its processor has by itself
written_are_faithful : (asked : Asked) (past : List Said) → IsAsked asked → first_fault asked past ≡ None → KeepsAllParts asked past →
    All (λ part. IsFaithfulPart (on part.processor asked) past part) (written_parts asked past)
written_are_faithful asked past fit none keeps =
    each_is_own (λ processor part. IsFaithfulPart (on processor asked) past part) asked past
    (λ i d within.
    let processor : ℕ = get_or (processors_of asked past) i d in
    parts_are_faithful (on processor asked) past (asked_on asked processor fit) (first_fault_on asked processor past ∙ none) (all_parts_are_kept asked past keeps i d within))

-- # No late job is hidden

-- a job that one of a processor's parts names, one of those that are written names
named_among : (asked : Asked) (past : List Said) (processor : ℕ) (one : Judged) → parts_on processor (written_parts asked past) ≡ parts_of (on processor asked) past →
    IsNamedIn (parts_of (on processor asked) past) one → IsNamedIn (written_parts asked past) one
named_among asked past processor one own is =
    let parts : List Part = written_parts asked past in
    record {
      part = is.part;
      is_there = contained (Contains parts) (parts_on processor parts) is.part (subst (λ (some : List Part). Contains some is.part) (sym own) is.is_there)
          (All-filter (λ part. part.processor == processor) (Contains parts) parts (All-contains_itself parts));
      has = is.has;
      named = is.named;
    }

-- the law
pub nothing_is_late_anywhere : NothingIsLateAnywhere
nothing_is_late_anywhere asked past fit none keeps feasible i d within by late =
    let one : Judged = get_or (all_judged asked past) i d in
    let home : BelongsTo asked one (processors_of asked past) = each_job_belongs asked past i d within in
    let processor : ℕ = home.processor in
    let here : Asked = on processor asked in
    let parts : List Part = written_parts asked past in
    let both = one_by_one asked processor (all_judged asked past) (all_judged here past) (all_both asked processor past) i d within in
    let there : Judged = get_or (all_judged here past) i d in
    let same : whole_job there ≡ whole_job one = both.1.same in
    let kept : KeepsParts here past =
    contained (λ (p : ℕ). KeepsParts (on p asked) past) (processors_of asked past) processor home.is_there (all_parts_are_kept asked past keeps) in
    let are_own : parts_on processor parts ≡ parts_of here past =
    contained (λ (p : ℕ). parts_on p parts ≡ parts_of (on p asked) past) (processors_of asked past) processor home.is_there (parts_are_of_processors asked past) in
    let own : NothingLateInParts here past =
    nothing_is_late_in_parts here past (asked_on asked processor fit) (first_fault_on asked processor past ∙ none) kept in
    let told = contained (IsToldLateIn here (parts_of here past)) (filter (belongs here) (all_judged here past)) there
    (contains_filter (belongs here) (all_judged here past) there (both.1.has home.has) (Contains-get_or (all_judged here past) i d both.0))
    (own (subst (All IsPartFeasible) are_own (All-filter (λ part. part.processor == processor) IsPartFeasible parts feasible)))
    by (ap (λ (judged : Judged). judged.late) same ∙ late) in
    (told.0, record { there = there; same_job = same; named = named_among asked past processor there are_own told.1 })

-- # Their texts

-- Where each part is read again, their texts hide no late job.
pub pieces_hide_nothing : (asked : Asked) (past : List Said) (text : List ℕ) → IsAsked asked → first_fault asked past ≡ None → KeepsAllParts asked past →
    ArePartsReadAgain (written_parts asked past) text → NothingLateInTexts asked past (written_parts asked past) text
pieces_hide_nothing asked past text fit none keeps again = record {
  says = again.says;
  told = λ feasible.
      nothing_is_late_anywhere asked past fit none keeps
      (λ i d within. let part : Part = get_or (written_parts asked past) i d in feasible_read part.settled.document part.text (again.read i d within) (feasible i d within));
}

-- And what they are read as is faithful.
pub pieces_are_faithful : (asked : Asked) (past : List Said) (text : List ℕ) → IsAsked asked → first_fault asked past ≡ None → KeepsAllParts asked past →
    ArePartsReadAgain (written_parts asked past) text → AreFaithfulPieces asked past (written_parts asked past) text
pieces_are_faithful asked past text fit none keeps again = record {
  says = again.says;
  each = λ i d within.
      let part : Part = get_or (written_parts asked past) i d in
      let faithful = written_are_faithful asked past fit none keeps i d within in
      record {
        of_trace = faithful.of_trace;
        faithful = faithful_read (on part.processor asked) part.settled.units part.settled.judged part.settled.document part.text (again.read i d within) faithful.faithful;
      };
}
