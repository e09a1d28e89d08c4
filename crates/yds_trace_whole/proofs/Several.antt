-- The texts of two parts or more are no document: the second line of ticks is refused, if not a line before it.
use Rattle.yds_model.proofs.Common.{◌≡◌, ℕ, ◌+◌, ◌≤◌, ◌==◌, Bool, true, false, if◌then◌else◌, List, [], ◌∷◌, ◌++◌, length, map, flat_map, filter_map, Result, Ok, Err, Option, Some, None, is_none, refl, sym, ap, ap₂, subst, ◌∙◌, inl, inr, arith, codes, decimal, join_with_byte, cases_Bool, eqb-true, append_assoc, append-nil, length-append, map-append, AllByRecursion, recursion_from_All, Line, trimmed, in_front, lines_from, lines_from-written, is_skipped, live_lines, read_line, read_after, reading, document_said, Document, Entry, TicksEntry, ticks_said}
use Rattle.model_lemmas.proofs.Said.{more_said}
use Rattle.std.specs.Bool.{⊤}
use Rattle.std.proofs.lemmas.List.Elements.{filter_map-append}
use Rattle.yds_model.specs.declared.reason.Reason.{Reason}
use Rattle.yds_model.specs.declared.reason.Reason.TheVariants as reasons
use Rattle.base.specs.Fields.{Fault}
use Rattle.yds_kernel.specs.Event.{Said}
use Rattle.yds_trace.specs.declared.cut.Cut.{Cut}
use Rattle.yds_trace.specs.Asked.{Asked, on}
use Rattle.yds_trace.specs.Document.{Written}
use Rattle.yds_texts.proofs.Brought.{live_from}
use Rattle.yds_trace_text.specs.Text.{comment, told, name_of, head_line, units_line, job_text, ticks_text, run_text, comments_text}
use Rattle.yds_trace_text.specs.PartText.{part_line}
use Rattle.yds_trace_again.proofs.Plain.{all_other}
use Rattle.yds_trace_whole.specs.Parts.{Part, made, written_parts}
use Rattle.yds_trace_whole.specs.WorthLaws.{text_of, SeveralAreRefused}
use Rattle.yds_trace_whole.proofs.Everywhere.{of_each_written}

-- # Lines

-- it ends with a line feed
record EndsLine (text : List ℕ) : Type 0 where
  body : List ℕ
  is : body ++ 10 ∷ [] ≡ text

ends_behind : (front text : List ℕ) → EndsLine text → EndsLine (front ++ text)
ends_behind front text ends = record {
  body = front ++ ends.body;
  is = append_assoc front ends.body (10 ∷ []) ∙ ap (λ (l : List ℕ). front ++ l) ends.is;
}

ends_each : {X : Type 0} (text : X → List ℕ) (front : List ℕ) (xs : List X) → ((x : X) → EndsLine (text x)) → EndsLine front → EndsLine (front ++ flat_map text xs)
ends_each text front [] each ends = subst EndsLine (sym (append-nil front)) ends
ends_each text front (x ∷ xs) each ends =
    subst EndsLine (append_assoc front (text x) (flat_map text xs)) (ends_each text (front ++ text x) xs each (ends_behind front (text x) (each x)))

-- The lines up to a line feed are some, and those after it are those of what comes after it.
abbrev SplitsAt : ℕ → ℕ → List ℕ → List ℕ → Type 0
SplitsAt number start front rest =
    (first : Line) × (more : List Line) × (next : ℕ) × (place : ℕ) × (lines_from number start (front ++ 10 ∷ rest) ≡ (first ∷ more) ++ lines_from next place rest)

split : (number start : ℕ) (front rest : List ℕ) → SplitsAt number start front rest
split number start [] rest = (record { number = number; start = start; text = [] }, [], number + 1, start + 1, refl)
split number start (byte ∷ front) rest =
    by (byte == 10) refl (split (number + 1) (start + 1) front rest) (split number (start + 1) front rest)
  where
    by : (b : Bool) → (byte == 10) ≡ b → SplitsAt (number + 1) (start + 1) front rest → SplitsAt number (start + 1) front rest → SplitsAt number start (byte ∷ front) rest
    by true feed ends goes_on = (
      record { number = number; start = start; text = [] },
      ends.0 ∷ ends.1,
      ends.2,
      ends.3,
      ap (λ (b : Bool). if b then record { number = number; start = start; text = [] } ∷ lines_from (number + 1) (start + 1) (front ++ 10 ∷ rest)
          else in_front number start byte (lines_from number (start + 1) (front ++ 10 ∷ rest))) feed
          ∙ ap (λ (lines : List Line). let one : Line = record { number = number; start = start; text = [] } in one ∷ lines) ends.4,
    )
    by false other ends goes_on = (
      record { number = number; start = start; text = byte ∷ goes_on.0.text },
      goes_on.1,
      goes_on.2,
      goes_on.3,
      ap (λ (b : Bool). if b then record { number = number; start = start; text = [] } ∷ lines_from (number + 1) (start + 1) (front ++ 10 ∷ rest)
          else in_front number start byte (lines_from number (start + 1) (front ++ 10 ∷ rest))) other
          ∙ ap (in_front number start byte) goes_on.4,
    )

live_split : (number start : ℕ) (front rest : List ℕ) →
    (lines : List Line) × (next : ℕ) × (place : ℕ) × (live_from number start (front ++ 10 ∷ rest) ≡ lines ++ live_from next place rest)
live_split number start front rest =
    let some = split number start front rest in (
      live_lines (map trimmed (some.0 ∷ some.1)),
      some.2,
      some.3,
      ap (λ (lines : List Line). live_lines (map trimmed lines)) some.4
          ∙ ap live_lines (map-append trimmed (some.0 ∷ some.1) (lines_from some.2 some.3 rest))
          ∙ filter_map-append (λ line. if is_skipped line then None else Some line) (map trimmed (some.0 ∷ some.1)) (map trimmed (lines_from some.2 some.3 rest)),
    )

-- # What is read of them

-- what the lines behind one say, by what that one says
abbrev after_line : List Entry → List Line → Result Entry (Fault Reason) → Result (List Entry) (Fault Reason)
after_line earlier lines (Ok entry) = read_after (earlier ++ entry ∷ []) lines
after_line earlier lines (Err fault) = Err fault

-- All that is read before is read: it says something more, or is refused.
abbrev ReadOn : List Entry → List Line → List Entry → Type 0
ReadOn earlier lines entries = (said : List Entry) × (read_after (earlier ++ said) lines ≡ Ok entries)

read_over : (earlier : List Entry) (lines rest : List Line) (entries : List Entry) → read_after earlier (lines ++ rest) ≡ Ok entries → ReadOn earlier rest entries
read_over earlier [] rest entries is = ([], subst (λ (e : List Entry). read_after e rest ≡ Ok entries) (sym (append-nil earlier)) is)
read_over earlier (line ∷ lines) rest entries is = by (read_line earlier line) (λ e. read_over e lines rest entries) is
  where
    by : (said : Result Entry (Fault Reason)) → ((e : List Entry) → read_after e (lines ++ rest) ≡ Ok entries → ReadOn e rest entries) →
        after_line earlier (lines ++ rest) said ≡ Ok entries → ReadOn earlier rest entries
    by (Ok entry) again is =
        let more = again (earlier ++ entry ∷ []) is in
        (entry ∷ more.0, subst (λ (e : List Entry). read_after e rest ≡ Ok entries) (append_assoc earlier (entry ∷ []) more.0) more.1)
    by (Err fault) again is = cc

over : (front rest : List ℕ) → EndsLine front → (earlier entries : List Entry) (number start : ℕ) → read_after earlier (live_from number start (front ++ rest)) ≡ Ok entries →
    (said : List Entry) × (next : ℕ) × (place : ℕ) × (read_after (earlier ++ said) (live_from next place rest) ≡ Ok entries)
over front rest ends earlier entries number start is =
    let lines = live_split number start ends.body rest in
    let same : front ++ rest ≡ ends.body ++ 10 ∷ rest = ap (λ (l : List ℕ). l ++ rest) (sym ends.is) ∙ append_assoc ends.body (10 ∷ []) rest in
    let more = read_over earlier lines.0 (live_from lines.1 lines.2 rest) entries
    (sym (ap (λ (l : List ℕ). read_after earlier (live_from number start l)) same ∙ ap (read_after earlier) lines.3) ∙ is) in
    (more.0, lines.1, lines.2, more.1)

-- # A line of ticks

abbrev ticks_at : ℕ → ℕ → Line
ticks_at number start = record { number = number; start = start; text = codes "ticks 1" }

ticks_line : (number start : ℕ) (rest : List ℕ) → live_from number start (ticks_text ++ rest) ≡ ticks_at number start ∷ live_from (number + 1) (start + length (codes "ticks 1") + 1) rest
ticks_line number start rest =
    ap (λ (lines : List Line). live_lines (map trimmed lines)) (lines_from-written number start (codes "ticks 1") rest (all_other 10 (codes "ticks 1") refl))

first_ticks : (earlier : List Entry) (number start : ℕ) → (length (filter_map ticks_said earlier) == 0) ≡ true → read_line earlier (ticks_at number start) ≡ Ok (TicksEntry 1)
first_ticks earlier number start none = rw none refl

second_ticks : (earlier : List Entry) (number start : ℕ) → (length (filter_map ticks_said earlier) == 0) ≡ false →
    read_line earlier (ticks_at number start) ≡ Err (record { line = number; column = 1; reason = reasons.Misplaced })
second_ticks earlier number start some = rw some refl

abbrev IsRefused : Result (List Entry) (Fault Reason) → Type 0
IsRefused (Ok entries) = ⊥
IsRefused (Err fault) = ⊤

-- It is read where there was none before.
at_ticks : (rest : List ℕ) (earlier entries : List Entry) (number start : ℕ) → read_after earlier (live_from number start (ticks_text ++ rest)) ≡ Ok entries →
    (none : length (filter_map ticks_said earlier) ≡ 0) × (next : ℕ) × (place : ℕ) × (read_after (earlier ++ TicksEntry 1 ∷ []) (live_from next place rest) ≡ Ok entries)
at_ticks rest earlier entries number start is =
    let lines : List Line = live_from (number + 1) (start + length (codes "ticks 1") + 1) rest in
    let here : after_line earlier lines (read_line earlier (ticks_at number start)) ≡ Ok entries = sym (ap (read_after earlier) (ticks_line number start rest)) ∙ is in
    elim (cases_Bool (length (filter_map ticks_said earlier) == 0)) [
      | inl none ↦ (
        eqb-true (length (filter_map ticks_said earlier)) 0 none,
        number + 1,
        start + length (codes "ticks 1") + 1,
        sym (ap (after_line earlier lines) (first_ticks earlier number start none)) ∙ here,
      )
      | inr some ↦
          let refused : Err (record { line = number; column = 1; reason = reasons.Misplaced }) ≡ Ok entries =
          sym (ap (after_line earlier lines) (second_ticks earlier number start some)) ∙ here in
          absurd (subst IsRefused refused tt)
    ]

was_read : (said : Result (List Entry) (Fault Reason)) (document : Document) →
    (elim said as (λ _. Result Document (Fault Reason)) [ Ok entries ↦ Ok (document_said entries) | Err fault ↦ Err fault ]) ≡ Ok document →
    (entries : List Entry) × (said ≡ Ok entries)
was_read (Ok entries) document is = (entries, refl)
was_read (Err fault) document is = cc

-- A text with two such lines isn't read.
two_ticks : (front middle back : List ℕ) (document : Document) → EndsLine front → EndsLine middle →
    reading (front ++ (ticks_text ++ (middle ++ (ticks_text ++ back)))) ≡ Ok document → ⊥
two_ticks front middle back document first second is =
    let all = was_read (read_after [] (live_from 1 0 (front ++ (ticks_text ++ (middle ++ (ticks_text ++ back)))))) document is in
    let before = over front (ticks_text ++ (middle ++ (ticks_text ++ back))) first [] all.0 1 0 all.1 in
    let ticks = at_ticks (middle ++ (ticks_text ++ back)) ([] ++ before.0) all.0 before.1 before.2 before.3 in
    let earlier : List Entry = [] ++ before.0 ++ TicksEntry 1 ∷ [] in
    let between = over middle (ticks_text ++ back) second earlier all.0 ticks.1 ticks.2 ticks.3 in
    let again = at_ticks back (earlier ++ between.0) all.0 between.1 between.2 between.3 in
    omega (
      arith,
      again.0,
      ap {B = ℕ} length (filter_map-append ticks_said earlier between.0),
      length-append (filter_map ticks_said earlier) (filter_map ticks_said between.0),
      ap {B = ℕ} length (more_said ticks_said ([] ++ before.0) (TicksEntry 1) 1 refl),
      length-append (filter_map ticks_said ([] ++ before.0)) (1 ∷ []),
    )

-- # The texts of parts

-- a line of ticks stands in it, behind whole lines
record HasTicks (text : List ℕ) : Type 0 where
  front : List ℕ
  behind : List ℕ
  ends : EndsLine front
  is : front ++ (ticks_text ++ behind) ≡ text

comment_end : (texts : List (List ℕ)) → EndsLine (comment texts)
unfolding comment
comment_end texts = record { body = told (codes "# " ∷ texts); is = refl }

job_end : (job : Written) → EndsLine (job_text job)
job_end job = record {
  body = join_with_byte 32 (codes "job" ∷ job.name ∷ decimal job.release ∷ decimal job.deadline ∷ decimal job.work ∷ []);
  is = refl;
}

regrouped : (p h u j t r c : List ℕ) → (p ++ ((h ++ u) ++ j)) ++ (t ++ (r ++ c)) ≡ p ++ (h ++ u ++ (j ++ t ++ r) ++ c)
regrouped p h u j t r c = simp append_assoc refl

made_ticks : (asked : Asked) (past : List Said) (cut : Cut) (until : Option ℕ) → HasTicks (made asked past cut until).text
made_ticks asked past cut until =
    let part : Part = made asked past cut until in
    let jobs : List Written = part.settled.document.jobs in
    let first : List ℕ = part_line asked cut (is_none until) part.shift jobs in
    let head : List ℕ = head_line asked.processor part.settled.units in
    let units : List ℕ = units_line part.settled.units in
    let runs : List ℕ = flat_map (run_text (map name_of jobs)) part.settled.document.runs in
    let comments : List ℕ = comments_text asked part.settled in
    record {
      front = first ++ ((head ++ units) ++ flat_map job_text jobs);
      behind = runs ++ comments;
      ends = ends_behind first ((head ++ units) ++ flat_map job_text jobs)
          (ends_each job_text (head ++ units) jobs job_end (ends_behind head units (comment_end _)));
      is = regrouped first head units (flat_map job_text jobs) ticks_text runs comments;
    }

two_regrouped : (f t b g t2 c m : List ℕ) → f ++ (t ++ ((b ++ g) ++ (t2 ++ (c ++ m)))) ≡ (f ++ (t ++ b)) ++ ((g ++ (t2 ++ c)) ++ m)
two_regrouped f t b g t2 c m = simp append_assoc refl

several : (parts : List Part) (document : Document) → 2 ≤ length parts → AllByRecursion (λ part. HasTicks part.text) parts → reading (flat_map text_of parts) ≡ Ok document → ⊥
several [] document many all is = omega (arith, many)
several (one ∷ []) document many all is = omega (arith, many)
several (one ∷ next ∷ more) document many all is =
    let rest : List ℕ = flat_map text_of more in
    let texts : (all.0.front ++ (ticks_text ++ all.0.behind)) ++ ((all.1.0.front ++ (ticks_text ++ all.1.0.behind)) ++ rest) ≡ one.text ++ (next.text ++ rest) =
    ap₂ (λ (first second : List ℕ). first ++ (second ++ rest)) all.0.is all.1.0.is in
    two_ticks all.0.front (all.0.behind ++ all.1.0.front) (all.1.0.behind ++ rest) document all.0.ends (ends_behind all.0.behind all.1.0.front all.1.0.ends)
    (ap reading (two_regrouped all.0.front ticks_text all.0.behind all.1.0.front ticks_text all.1.0.behind rest ∙ texts) ∙ is)

-- the law
pub several_are_refused : SeveralAreRefused
several_are_refused asked past many document is =
    several (written_parts asked past) document many
    (recursion_from_All (λ (part : Part). HasTicks part.text) (written_parts asked past)
    (of_each_written (λ part. HasTicks part.text) asked (λ lines. ⊤) past (λ said lines holds. tt) tt
    (λ processor lines cut until holds. made_ticks (on processor asked) lines cut until))) is
