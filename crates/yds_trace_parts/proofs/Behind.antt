-- A line behind which it is looked for parts: what was written then of all processors.
use Rattle.base.proofs.Common.{◌≡◌, ℕ, ◌≤◌, Bool, true, false, List, [], ◌∷◌, map, length, Option, Some, None, refl, sym, ap, subst, ◌∙◌, arith, le_refl, length-map}
use Rattle.yds_kernel.specs.Event.{Said}
use Rattle.yds_trace.specs.declared.cut.Cut.{Cut}
use Rattle.yds_trace.specs.Asked.{Asked, on}
use Rattle.yds_trace.specs.Document.{Judged}
use Rattle.yds_trace.specs.Past.{processor_count}
use Rattle.yds_trace.specs.Parts.{place_of, with_part, cut_at, processors_of}
use Rattle.yds_trace_laws.proofs.Processors.{some_processor, part_unseen, cut_unseen}
use Rattle.yds_trace_parts.specs.declared.processors.Processor.{Processor}
use Rattle.yds_trace_parts.specs.declared.processors.Pieces.{Pieces}
use Rattle.yds_trace_parts.specs.Told.{pieces}
use Rattle.yds_trace_parts.specs.Telling.{text_alone, pieces_at, with_piece_at, ArePieces, without_job_at, unseen_at, cut_on, told_on, IsUnseen, cuts_of, NoneEndsBefore, IsWritten}
use Rattle.yds_trace_parts.proofs.Joined.{pieces_are}
use Rattle.yds_trace_parts.proofs.Numbers.{length-first_numbers}
use Rattle.yds_trace_parts.proofs.Steps.{place_behind}
use Rattle.yds_trace_parts.proofs.Unseen.{cut_in, cuts_are, numbers_where, one_where, more_processors}

-- # What is written

moved : (asked : Asked) (past : List Said) (said : Said) (numbers : List ℕ) →
    map (with_piece_at asked (said ∷ past)) (map (told_on asked past) numbers) ≡ map (told_on asked (said ∷ past)) numbers
moved asked past said [] = refl
moved asked past said (number ∷ numbers) = ap (λ (more : List Processor). told_on asked (said ∷ past) number ∷ more) (moved asked past said numbers)

pub pieces_written : (asked : Asked) (strict : Bool) (past : List Said) (said : Said) (processors : List Processor) (made : Pieces) →
    processors ≡ map (told_on asked past) (processors_of asked (said ∷ past)) → ArePieces asked strict (said ∷ past) processors made →
    pieces asked strict past said (processors_of asked (said ∷ past)) ≡ text_alone made.text.items
pieces_written asked strict past said processors made are is =
    sym (pieces_are asked strict past said (processors_of asked (said ∷ past))) ∙ ap (pieces_at asked strict (said ∷ past)) (sym are) ∙ is.written

pub processors_moved : (asked : Asked) (strict : Bool) (past : List Said) (said : Said) (processors : List Processor) (made : Pieces) →
    processors ≡ map (told_on asked past) (processors_of asked (said ∷ past)) → ArePieces asked strict (said ∷ past) processors made →
    made.processors.items ≡ map (told_on asked (said ∷ past)) (processors_of asked (said ∷ past))
processors_moved asked strict past said processors made are is =
    is.processors_are ∙ ap (map (with_piece_at asked (said ∷ past))) are ∙ moved asked past said (processors_of asked (said ∷ past))

-- # The processors of which no line tells

no_job : (asked : Asked) (past : List Said) (processor : ℕ) (cut : Cut) (place : Option ℕ) → asked.everywhere ≡ true → processor_count past ≤ processor →
    cut_at (on processor asked) past cut place ≡ without_job_at past cut place
no_job asked past processor cut None everywhere beyond = refl
no_job asked past processor cut (Some time) everywhere beyond =
    ap (λ (part : List Judged). with_part past time part cut) (part_unseen asked past processor cut (Some time) everywhere beyond)

unseen_some : (asked : Asked) (past : List Said) (said : Said) (processor : ℕ) (cut : Cut) → processor ≡ processor_count (said ∷ past) → IsUnseen asked past (Some cut) →
    IsUnseen asked (said ∷ past) (Some (without_job_at (said ∷ past) cut (place_of (on processor asked) (said ∷ past) cut)))
unseen_some asked past said processor cut is unseen = (
  unseen.0,
  λ other beyond.
      let here : processor_count (said ∷ past) ≤ processor = omega (arith, is) in
      let before : processor_count past ≤ processor = omega (arith, here, more_processors past said) in
      cut_unseen asked (said ∷ past) other processor unseen.0 beyond here
      ∙ ap (λ (one : Cut). cut_at (on processor asked) (said ∷ past) one (place_of (on processor asked) (said ∷ past) one)) (unseen.1 processor before)
      ∙ no_job asked (said ∷ past) processor cut (place_of (on processor asked) (said ∷ past) cut) unseen.0 here,
)

unseen_by : (asked : Asked) (past : List Said) (said : Said) (processor : ℕ) (unseen : Option Cut) → (asked.everywhere ≡ true → processor ≡ processor_count (said ∷ past)) →
    IsUnseen asked past unseen → IsUnseen asked (said ∷ past) (unseen_at (on processor asked) (said ∷ past) unseen)
unseen_by asked past said processor None is one = one
unseen_by asked past said processor (Some cut) is unseen = unseen_some asked past said processor cut (is unseen.0) unseen

-- the number behind the last one
behind_last : (asked : Asked) (past : List Said) (processors : List Processor) → processors ≡ map (told_on asked past) (processors_of asked past) →
    asked.everywhere ≡ true → length processors ≡ processor_count past
behind_last asked past processors are everywhere =
    ap length are ∙ length-map (processors_of asked past) (told_on asked past) ∙ ap length (numbers_where asked past everywhere)
    ∙ length-first_numbers (processor_count past)

-- # No cut goes back

grows_by : (asked : Asked) (past : List Said) (cut : Cut) (place : Option ℕ) → place_of asked past cut ≡ place → cut.boundary ≤ (cut_at asked past cut place).boundary
grows_by asked past cut None is = le_refl cut.boundary
grows_by asked past cut (Some time) is = place_behind asked past cut time is

all_grow : (asked : Asked) (past : List Said) (said : Said) (time : ℕ) (numbers : List ℕ) → NoneEndsBefore time (map (cut_on asked past) numbers) →
    NoneEndsBefore time (map (cut_on asked (said ∷ past)) numbers)
all_grow asked past said time [] none = tt
all_grow asked past said time (number ∷ numbers) none = (
  omega (arith, none.0, grows_by (on number asked) (said ∷ past) (cut_on asked past number) (place_of (on number asked) (said ∷ past) (cut_on asked past number)) refl),
  all_grow asked past said time numbers none.1,
)

without_grows : (asked : Asked) (past : List Said) (cut : Cut) (place : Option ℕ) → place_of asked past cut ≡ place → cut.boundary ≤ (without_job_at past cut place).boundary
without_grows asked past cut None is = le_refl cut.boundary
without_grows asked past cut (Some time) is = place_behind asked past cut time is

-- those of the processors of which lines tell
pub of_told : (time : ℕ) (processors : List Processor) (unseen : Option Cut) → NoneEndsBefore time (cuts_of processors unseen) → NoneEndsBefore time (map cut_in processors)
of_told time processors None none = none
of_told time processors (Some cut) none = none.1

-- those of the others
pub of_unseen : (time : ℕ) (processors : List Processor) (unseen : Option Cut) → NoneEndsBefore time (cuts_of processors unseen) → NoneEndsBefore time (cuts_of [] unseen)
of_unseen time processors None none = tt
of_unseen time processors (Some cut) none = (none.0, tt)

with_unseen : (asked : Asked) (past : List Said) (time : ℕ) (old new : List Processor) (unseen : Option Cut) → NoneEndsBefore time (cuts_of old unseen) →
    NoneEndsBefore time (map cut_in new) → NoneEndsBefore time (cuts_of new (unseen_at asked past unseen))
with_unseen asked past time old new None none all = all
with_unseen asked past time old new (Some cut) none all =
    (omega (arith, none.0, without_grows asked past cut (place_of asked past cut) refl), all)

-- There is one at least.
some_number : (asked : Asked) (past : List Said) (b : Bool) → asked.everywhere ≡ b → 1 ≤ length (processors_of asked past)
some_number asked past true is =
    subst (λ (n : ℕ). 1 ≤ n) (sym (ap length (numbers_where asked past is) ∙ length-first_numbers (processor_count past))) (some_processor past)
some_number asked past false is = subst (λ (n : ℕ). 1 ≤ n) (sym (ap length (one_where asked past is))) (le_refl 1)

some_cut : (processors : List Processor) (unseen : Option Cut) → 1 ≤ length processors → 1 ≤ length (cuts_of processors unseen)
some_cut processors None some = subst (λ (n : ℕ). 1 ≤ n) (sym (length-map processors cut_in)) some
some_cut processors (Some cut) some = omega arith

-- # All of it

-- what is known where the pieces are made
pub record IsBehindLine (asked : Asked) (past : List Said) (time : ℕ) (processors : List Processor) (unseen : Option Cut) : Type 0 where
  pub processors_are : processors ≡ map (told_on asked past) (processors_of asked past)
  pub unseen_is : IsUnseen asked past unseen
  pub later : NoneEndsBefore time (cuts_of processors unseen)
  pub some : 1 ≤ length (cuts_of processors unseen)

pub behind_line : (asked : Asked) (strict : Bool) (past : List Said) (said : Said) (time : ℕ) (processors : List Processor) (unseen : Option Cut) (latest : Cut) (made : Pieces)
    (next : ℕ) (then_unseen : Option Cut) → IsWritten asked past (said ∷ past) time processors unseen latest → ArePieces asked strict (said ∷ past) processors made →
    next ≡ length made.processors.items → then_unseen ≡ unseen_at (on next asked) (said ∷ past) unseen →
    IsBehindLine asked (said ∷ past) time made.processors.items then_unseen
behind_line asked strict past said time processors unseen latest made next then_unseen is are counted then_is =
    let now : made.processors.items ≡ map (told_on asked (said ∷ past)) (processors_of asked (said ∷ past)) =
    processors_moved asked strict past said processors made is.processors_are are in
    let before : NoneEndsBefore time (map (cut_on asked past) (processors_of asked (said ∷ past))) =
    subst (NoneEndsBefore time) (ap (map cut_in) is.processors_are ∙ cuts_are asked past (processors_of asked (said ∷ past)))
    (of_told time processors unseen is.later.1) in
    let after : NoneEndsBefore time (map cut_in made.processors.items) =
    subst (NoneEndsBefore time) (sym (ap (map cut_in) now ∙ cuts_are asked (said ∷ past) (processors_of asked (said ∷ past))))
    (all_grow asked past said time (processors_of asked (said ∷ past)) before) in
    record {
      processors_are = now;
      unseen_is = subst (IsUnseen asked (said ∷ past)) (sym then_is)
          (unseen_by asked past said next unseen (λ everywhere. counted ∙ behind_last asked (said ∷ past) made.processors.items now everywhere) is.unseen_is);
      later = subst (λ (one : Option Cut). NoneEndsBefore time (cuts_of made.processors.items one)) (sym then_is)
          (with_unseen (on next asked) (said ∷ past) time processors made.processors.items unseen is.later.1 after);
      some = some_cut made.processors.items then_unseen
          (subst (λ (ones : List Processor). 1 ≤ length ones) (sym now)
          (subst (λ (n : ℕ). 1 ≤ n) (sym (length-map (processors_of asked (said ∷ past)) (told_on asked (said ∷ past)))) (some_number asked (said ∷ past) asked.everywhere refl)));
    }
