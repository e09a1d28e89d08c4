-- What the loops over the processors keep.
use Rattle.base.proofs.Common.{◌≡◌, ℕ, ◌+◌, ◌<◌, ◌≤◌, ◌||◌, ◌⊎◌, inl, inr, Bool, true, false, List, [], ◌∷◌, ◌++◌, map, max, min, length, list_any, Option, Some, None, unwrap_or, refl, sym, ap, ap₂, subst, ◌∙◌, arith, append_assoc, append-nil, le_refl, le-ltb, nat_lt, get_or, drop, drop-cons, add-one, not, is_some, is_none, ◌&&◌, length-append, length-map}
use Rattle.std.proofs.lemmas.List.{drop_all}
use Rattle.yds_kernel.specs.declared.loss.Since.TheVariants as since
use Rattle.yds_kernel.specs.Event.{Said, Stamped, Lost, Nothing, Event, Happening, Switch, WakeUp, Speed, Loss, Marker, Other}
use Rattle.yds_trace.specs.declared.cut.Cut.{Cut}
use Rattle.yds_trace.specs.declared.pass.Pass.{Pass}
use Rattle.yds_trace.specs.declared.shown.Shown.{Shown}
use Rattle.yds_trace.specs.Asked.{Asked, on, task_of}
use Rattle.yds_trace.specs.Kept.{IsAtBehind}
use Rattle.yds_trace.specs.Faults.{missing_at}
use Rattle.yds_trace.specs.Jobs.{Known, known_after}
use Rattle.yds_trace.specs.Parts.{last_begin, no_cut, later, was_there_before, has_ended, sleeps_before, woken_before, came_before, is_known_so, wakes_at, leaves_at, came_back, reaches_back_so, changes_parts, is_due}
use Rattle.yds_trace.specs.Past.{is_loss, lost_since, lines_since, has_switched, up_to}
use Rattle.yds_trace.specs.Shown.{IsShown}
use Rattle.yds_trace.proofs.Later.{later_changes}
use Rattle.yds_trace.proofs.OnProcessor.{shown_on}
use Rattle.yds_trace_text.specs.PartText.{part_text}
use Rattle.yds_trace_parts.specs.declared.halt.Halt.{Halt as HaltKept}
use Rattle.yds_trace_parts.specs.declared.part.Last.{Last}
use Rattle.yds_trace_parts.specs.declared.part.Piece.{Piece}
use Rattle.yds_trace_parts.specs.declared.processors.Processor.{Processor}
use Rattle.yds_trace_parts.specs.declared.processors.Pieces.{Pieces}
use Rattle.yds_trace_parts.specs.Plain.{IsPlainLook}
use Rattle.yds_trace_parts.specs.Told.{Halt, part_halt, piece_unless}
use Rattle.yds_trace_parts.specs.Telling.{IsHaltFor, IsPiece, HaltsBehind, IsLast, told_behind, pieces_at, with_piece_at, ArePieces, told_at_last, last_at, one_has_written, AreLast, IsTurned, each_of, cuts_of, boundary_before, IsLatest, NoneEndsBefore}
use Rattle.yds_trace_parts.proofs.Joined.{IsSoFar, joined_first, joined_more, joined_halts, joined_last}
use Rattle.yds_trace_parts.proofs.Numbers.{length-each_of, each_push}
use Rattle.yds_trace_parts.proofs.Plain.{look_turned}
use Rattle.yds_trace_parts.proofs.Taking.{halts_as}
use Rattle.yds_trace_parts.proofs.Unseen.{cut_in}

-- # The rest

pub rest_at : {A : Type 0} (xs : List A) (i : ℕ) (d : A) → i < length xs → drop i xs ≡ get_or xs i d ∷ drop (i + 1) xs
rest_at xs i d within = drop-cons xs i d within ∙ ap (λ (n : ℕ). get_or xs i d ∷ drop n xs) (sym (add-one i))

-- # The pass, as it is turned from one to the next

pub turned_first : (asked : Asked) (past : List Said) (boundary : ℕ) (pass : Pass) → IsAtBehind asked past boundary pass → IsTurned asked past boundary pass
turned_first asked past boundary pass at = record { processor = asked.processor; stands = at }

-- # Behind a line

pub record NextSoFar (asked : Asked) (strict : Bool) (past : List Said) (boundary : ℕ) (all rest : List Processor) (made : Pieces) : Type 0 where
  pub written : IsSoFar (told_behind asked strict past) made.text.items rest (pieces_at asked strict past all)
  pub moved : made.processors.items ++ map (with_piece_at asked past) rest ≡ map (with_piece_at asked past) all
  pub later : NoneEndsBefore boundary (map cut_in rest)

-- what is made of the first processors, and these are the rest
pub record AreNext (strict : Bool) (before pass : Pass) (shown : Shown) (all rest : List Processor) (made : Pieces) : Type 0 where
  pub look : IsPlainLook pass shown
  pub turned : (asked : Asked) (past : List Said) (boundary : ℕ) → IsAtBehind asked past boundary before → IsTurned asked past boundary pass
  pub far : (asked : Asked) (past : List Said) (boundary : ℕ) → IsAtBehind asked past boundary before → IsShown asked past boundary shown →
      NoneEndsBefore boundary (map cut_in all) → is_due past ≡ true → NextSoFar asked strict past boundary all rest made

pub next_first : (strict : Bool) (pass : Pass) (shown : Shown) (all : List Processor) (made : Pieces) → IsPlainLook pass shown → made.text.items ≡ [] →
    made.processors.items ≡ [] → AreNext strict pass pass shown all all made
next_first strict pass shown all made look text none = record {
  look = look;
  turned = λ asked past boundary at. turned_first asked past boundary pass at;
  far = λ asked past boundary at shows later due. record {
    written = subst (λ (one : List ℕ). IsSoFar (told_behind asked strict past) one all (pieces_at asked strict past all)) (sym text)
        (joined_first (map (told_behind asked strict past) all));
    moved = ap (λ (ones : List Processor). ones ++ map (with_piece_at asked past) all) none;
    later = later;
  };
}

-- what the pieces of a processor are made by
abbrev pub Turns : ℕ → Pass → Pass → Type 0
Turns processor old new = (asked : Asked) (past : List Said) (boundary : ℕ) → IsAtBehind asked past boundary old → IsAtBehind (on processor asked) past boundary new

abbrev pub Makes : Bool → Pass → Shown → Processor → Piece → Type 0
Makes strict pass shown one piece = (asked : Asked) (past : List Said) (boundary : ℕ) → IsAtBehind asked past boundary pass → IsShown asked past boundary shown →
    boundary ≤ one.cut.boundary → is_due past ≡ true → IsPiece (on one.number asked) strict past one.cut piece

turned_on : (asked : Asked) (past : List Said) (boundary processor : ℕ) (old new : Pass) → Turns processor old new → IsTurned asked past boundary old →
    IsTurned asked past boundary new
turned_on asked past boundary processor old new turns turned =
    record { processor = processor; stands = turns (on turned.processor asked) past boundary turned.stands }

made_on : (asked : Asked) (strict : Bool) (past : List Said) (boundary : ℕ) (pass : Pass) (shown : Shown) (one : Processor) (piece : Piece) →
    Makes strict pass shown one piece → IsTurned asked past boundary pass → IsShown asked past boundary shown → boundary ≤ one.cut.boundary →
    is_due past ≡ true → IsPiece (on one.number asked) strict past one.cut piece
made_on asked strict past boundary pass shown one piece makes turned shows later due =
    makes (on turned.processor asked) past boundary turned.stands (shown_on asked turned.processor past boundary boundary shown (le_refl boundary) shows) later due

moved_more : (asked : Asked) (past : List Said) (ones rest : List Processor) (one next : Processor) (all : List Processor) → next ≡ with_piece_at asked past one →
    ones ++ map (with_piece_at asked past) (one ∷ rest) ≡ map (with_piece_at asked past) all →
    (ones ++ next ∷ []) ++ map (with_piece_at asked past) rest ≡ map (with_piece_at asked past) all
moved_more asked past ones rest one next all is moved =
    append_assoc ones (next ∷ []) (map (with_piece_at asked past) rest)
    ∙ ap (λ (first : Processor). ones ++ first ∷ map (with_piece_at asked past) rest) is ∙ moved

pub next_more : (strict : Bool) (before pass new : Pass) (shown : Shown) (all rest : List Processor) (one : Processor) (piece : Piece) (made more : Pieces) →
    Turns one.number pass new → Makes strict pass shown one piece → more.text.items ≡ made.text.items ++ piece.text.items →
    more.processors.items ≡ made.processors.items ++ record { number = one.number; cut = piece.cut } ∷ [] →
    AreNext strict before pass shown all (one ∷ rest) made → AreNext strict before new shown all rest more
next_more strict before pass new shown all rest one piece made more turns makes text ones next = record {
  look = look_turned one.number pass new shown next.look turns;
  turned = λ asked past boundary at. turned_on asked past boundary one.number pass new turns (next.turned asked past boundary at);
  far = λ asked past boundary at shows later due.
      let far : NextSoFar asked strict past boundary all (one ∷ rest) made = next.far asked past boundary at shows later due in
      let is : IsPiece (on one.number asked) strict past one.cut piece =
      made_on asked strict past boundary pass shown one piece makes (next.turned asked past boundary at) shows far.later.0 due in
      record {
        written = subst (λ (all_text : List ℕ). IsSoFar (told_behind asked strict past) all_text rest (pieces_at asked strict past all)) (sym text)
            (joined_more (told_behind asked strict past) made.text.items piece.text.items one rest (pieces_at asked strict past all) is.written far.written);
        moved = subst (λ (list : List Processor). list ++ map (with_piece_at asked past) rest ≡ map (with_piece_at asked past) all) (sym ones)
            (moved_more asked past made.processors.items rest one (record { number = one.number; cut = piece.cut }) all
            (ap (λ (cut : Cut). let made_one : Processor = record { number = one.number; cut = cut } in made_one) is.cut_is) far.moved);
        later = far.later.1;
      };
}

abbrev pub HaltsOn : Bool → Pass → Shown → Processor → HaltKept → Type 0
HaltsOn strict pass shown one halt = (asked : Asked) (past : List Said) (boundary : ℕ) → IsAtBehind asked past boundary pass → IsShown asked past boundary shown →
    boundary ≤ one.cut.boundary → is_due past ≡ true → HaltsBehind (on one.number asked) strict past one.cut halt

pub next_halts : (asked : Asked) (strict : Bool) (past : List Said) (boundary : ℕ) (before pass : Pass) (shown : Shown) (all rest : List Processor) (one : Processor)
    (made : Pieces) (halt : HaltKept) → AreNext strict before pass shown all (one ∷ rest) made → HaltsOn strict pass shown one halt →
    IsAtBehind asked past boundary before → IsShown asked past boundary shown → NoneEndsBefore boundary (map cut_in all) → is_due past ≡ true →
    IsHaltFor (pieces_at asked strict past all).halt halt
next_halts asked strict past boundary before pass shown all rest one made halt next halts at shows later due =
    let far : NextSoFar asked strict past boundary all (one ∷ rest) made = next.far asked past boundary at shows later due in
    let turned : IsTurned asked past boundary pass = next.turned asked past boundary at in
    halts_as (told_behind asked strict past one).halt (pieces_at asked strict past all).halt halt
    (λ found is. joined_halts (told_behind asked strict past) made.text.items one rest (pieces_at asked strict past all) found is far.written)
    (halts (on turned.processor asked) past boundary turned.stands (shown_on asked turned.processor past boundary boundary shown (le_refl boundary) shows) far.later.0 due)

pub next_last : (asked : Asked) (strict : Bool) (past : List Said) (boundary : ℕ) (all : List Processor) (made : Pieces) → NextSoFar asked strict past boundary all [] made →
    ArePieces asked strict past all made
next_last asked strict past boundary all made far = record {
  written = joined_last (told_behind asked strict past) made.text.items (pieces_at asked strict past all) far.written;
  processors_are = sym (append-nil made.processors.items) ∙ far.moved;
}

-- # The last parts

pub record LastSoFar (asked : Asked) (strict : Bool) (past : List Said) (boundary : ℕ) (all rest : List Processor) (text : List ℕ) (has_job : Bool) : Type 0 where
  pub written : IsSoFar (told_at_last asked strict past) text rest (last_at asked strict past all)
  pub some : (has_job || one_has_written asked past rest) ≡ one_has_written asked past all
  pub later : NoneEndsBefore boundary (map cut_in rest)

pub record AreLastOf (strict : Bool) (before pass : Pass) (shown : Shown) (all rest : List Processor) (text : List ℕ) (has_job : Bool) : Type 0 where
  pub look : IsPlainLook pass shown
  pub turned : (asked : Asked) (past : List Said) (boundary : ℕ) → IsAtBehind asked past boundary before → IsTurned asked past boundary pass
  pub far : (asked : Asked) (past : List Said) (boundary : ℕ) → IsAtBehind asked past boundary before → IsShown asked past boundary shown →
      NoneEndsBefore boundary (map cut_in all) → LastSoFar asked strict past boundary all rest text has_job

pub last_first : (strict : Bool) (pass : Pass) (shown : Shown) (all : List Processor) (text : List ℕ) → IsPlainLook pass shown → text ≡ [] →
    AreLastOf strict pass pass shown all all text false
last_first strict pass shown all text look none = record {
  look = look;
  turned = λ asked past boundary at. turned_first asked past boundary pass at;
  far = λ asked past boundary at shows later. record {
    written = subst (λ (one : List ℕ). IsSoFar (told_at_last asked strict past) one all (last_at asked strict past all)) (sym none)
        (joined_first (map (told_at_last asked strict past) all));
    some = refl;
    later = later;
  };
}

abbrev pub Ends : Bool → Pass → Shown → Processor → Last → Type 0
Ends strict pass shown one last = (asked : Asked) (past : List Said) (boundary : ℕ) → IsAtBehind asked past boundary pass → IsShown asked past boundary shown →
    boundary ≤ one.cut.boundary → IsLast (on one.number asked) strict past one.cut last

or_assoc : (a b c : Bool) → ((a || b) || c) ≡ (a || (b || c))
or_assoc true b c = refl
or_assoc false b c = refl

pub last_more : (strict : Bool) (before pass new : Pass) (shown : Shown) (all rest : List Processor) (one : Processor) (last : Last) (text more : List ℕ) (has_job also : Bool) →
    Turns one.number pass new → Ends strict pass shown one last → more ≡ text ++ last.text.items → also ≡ (has_job || last.has_job) →
    AreLastOf strict before pass shown all (one ∷ rest) text has_job → AreLastOf strict before new shown all rest more also
last_more strict before pass new shown all rest one last text more has_job also turns ends longer or_is now = record {
  look = look_turned one.number pass new shown now.look turns;
  turned = λ asked past boundary at. turned_on asked past boundary one.number pass new turns (now.turned asked past boundary at);
  far = λ asked past boundary at shows later.
      let far : LastSoFar asked strict past boundary all (one ∷ rest) text has_job = now.far asked past boundary at shows later in
      let turned : IsTurned asked past boundary pass = now.turned asked past boundary at in
      let is : IsLast (on one.number asked) strict past one.cut last =
      ends (on turned.processor asked) past boundary turned.stands (shown_on asked turned.processor past boundary boundary shown (le_refl boundary) shows) far.later.0 in
      record {
        written = subst (λ (all_text : List ℕ). IsSoFar (told_at_last asked strict past) all_text rest (last_at asked strict past all)) (sym longer)
            (joined_more (told_at_last asked strict past) text last.text.items one rest (last_at asked strict past all) is.written far.written);
        some = ap (λ (b : Bool). b || one_has_written asked past rest) or_is ∙ or_assoc has_job last.has_job (one_has_written asked past rest)
            ∙ ap (λ (b : Bool). has_job || (b || one_has_written asked past rest)) is.some ∙ far.some;
        later = far.later.1;
      };
}

abbrev pub EndHalts : Bool → Pass → Shown → Processor → HaltKept → Type 0
EndHalts strict pass shown one halt = (asked : Asked) (past : List Said) (boundary : ℕ) → IsAtBehind asked past boundary pass → IsShown asked past boundary shown →
    boundary ≤ one.cut.boundary → IsHaltFor (part_halt (on one.number asked) strict past one.cut None) halt

unless_by : (halt : Option Halt) (text : List ℕ) (found : Halt) → halt ≡ Some found → (piece_unless halt text).halt ≡ Some found
unless_by (Some one) text found is = is
unless_by None text found is = cc

unless_halts : (asked : Asked) (strict : Bool) (past : List Said) (one : Processor) (found : Halt) → part_halt (on one.number asked) strict past one.cut None ≡ Some found →
    (told_at_last asked strict past one).halt ≡ Some found
unless_halts asked strict past one found is =
    unless_by (part_halt (on one.number asked) strict past one.cut None) (part_text (on one.number asked) past one.cut None) found is

pub last_halts : (asked : Asked) (strict : Bool) (past : List Said) (boundary : ℕ) (before pass : Pass) (shown : Shown) (all rest : List Processor) (one : Processor)
    (text : List ℕ) (has_job : Bool) (halt : HaltKept) → AreLastOf strict before pass shown all (one ∷ rest) text has_job → EndHalts strict pass shown one halt →
    IsAtBehind asked past boundary before → IsShown asked past boundary shown → NoneEndsBefore boundary (map cut_in all) → IsHaltFor (last_at asked strict past all).halt halt
last_halts asked strict past boundary before pass shown all rest one text has_job halt now halts at shows later =
    let far : LastSoFar asked strict past boundary all (one ∷ rest) text has_job = now.far asked past boundary at shows later in
    let turned : IsTurned asked past boundary pass = now.turned asked past boundary at in
    halts_as (part_halt (on one.number asked) strict past one.cut None) (last_at asked strict past all).halt halt
    (λ found is. joined_halts (told_at_last asked strict past) text one rest (last_at asked strict past all) found (unless_halts asked strict past one found is) far.written)
    (halts (on turned.processor asked) past boundary turned.stands (shown_on asked turned.processor past boundary boundary shown (le_refl boundary) shows) far.later.0)

pub last_last : (asked : Asked) (strict : Bool) (past : List Said) (boundary : ℕ) (all : List Processor) (last : Last) →
    LastSoFar asked strict past boundary all [] last.text.items last.has_job → AreLast asked strict past all last
last_last asked strict past boundary all last far = record {
  written = joined_last (told_at_last asked strict past) last.text.items (last_at asked strict past all) far.written;
  some = sym (or_none last.has_job) ∙ far.some;
}
  where
    or_none : (b : Bool) → (b || false) ≡ b
    or_none true = refl
    or_none false = refl

-- # The last of all cuts

pub record LatestSoFar (all : List Cut) (rest : List Processor) (latest : Cut) : Type 0 where
  pub changes : (asked : Asked) (past : List Said) (said : Said) →
      (changes_parts asked past latest said || list_any (λ cut. changes_parts asked past cut said) (map cut_in rest)) ≡ list_any (λ cut. changes_parts asked past cut said) all
  pub behind : (time : ℕ) → NoneEndsBefore time all → 1 ≤ length all → NoneEndsBefore time (map cut_in rest) × ((time ≤ latest.boundary) ⊎ (1 ≤ length rest))

none_under : (time : ℕ) → nat_lt time 0 ≡ false
none_under time = le-ltb time 0 (omega arith)

and_false : (a b : Bool) → b ≡ false → (a && b) ≡ false
and_false true b is = is
and_false false b is = refl

was_there : (asked : Asked) (past : List Said) (event : Event) (happening : Happening) → was_there_before asked past no_cut event happening ≡ false
was_there asked past event (Switch previous state next) =
    and_false (is_some (task_of asked.tasks previous) && not (has_switched event.processor (up_to asked.to past))) (nat_lt (lines_since event.processor event.time (up_to asked.to past)) 0)
    (none_under (lines_since event.processor event.time (up_to asked.to past)))
was_there asked past event (WakeUp thread starts) = refl
was_there asked past event (Speed processor khz) = refl
was_there asked past event Loss = refl
was_there asked past event Marker = refl
was_there asked past event Other = refl

sleeps_never : (known : Known) → sleeps_before 0 known ≡ false
sleeps_never known = and_false (known.woken.seen && has_ended known.jobs) (nat_lt (last_begin known.jobs) 0) (none_under (last_begin known.jobs))

woken_never : (known : Known) → woken_before 0 known ≡ false
woken_never known = and_false (is_some known.woken.started) (sleeps_before 0 known) (sleeps_never known)

came_never : (known : Known) → came_before 0 known ≡ false
came_never known = and_false (is_none known.on) (woken_before 0 known) (woken_never known)

never_so : (asked : Asked) (past : List Said) (test : Known → Bool) → ((known : Known) → test known ≡ false) → (found : Option ℕ) →
    (elim found as (λ _. Bool) [ None ↦ false | Some number ↦ test (known_after asked number (up_to asked.to past)) ]) ≡ false
never_so asked past test none None = refl
never_so asked past test none (Some number) = none (known_after asked number (up_to asked.to past))

came_back_never : (asked : Asked) (past : List Said) (event : Event) (happening : Happening) → came_back asked past no_cut event happening ≡ false
came_back_never asked past event (Switch previous state next) =
    ap₂ (λ (a b : Bool). a || b)
    (and_false (leaves_at asked past event) (is_known_so asked past previous (came_before 0))
    (never_so asked past (came_before 0) came_never (task_of asked.tasks previous)))
    (and_false (wakes_at asked event) (is_known_so asked past next (sleeps_before 0)) (never_so asked past (sleeps_before 0) sleeps_never (task_of asked.tasks next)))
came_back_never asked past event (WakeUp thread starts) =
    and_false (wakes_at asked event) (not starts && is_known_so asked past thread (woken_before 0))
    (and_false (not starts) (is_known_so asked past thread (woken_before 0))
    (never_so asked past (woken_before 0) woken_never (task_of asked.tasks thread)))
came_back_never asked past event (Speed processor khz) = refl
came_back_never asked past event Loss = refl
came_back_never asked past event Marker = refl
came_back_never asked past event Other = refl

missing_never : (time : Option ℕ) → reaches_back_so no_cut time ≡ false
missing_never None = refl
missing_never (Some time) = none_under time

-- no line changes a part where there is none
not_before_0 : (asked : Asked) (past : List Said) (said : Said) → changes_parts asked past no_cut said ≡ false
not_before_0 asked past (Stamped event) =
    ap₂ (λ (a b : Bool). a || b)
    (and_false (is_loss event.happening) (nat_lt (lost_since event.processor since.ItsLastLine past) 0) (none_under (lost_since event.processor since.ItsLastLine past)))
    (ap₂ (λ (a b : Bool). a || b) (missing_never (missing_at asked past event))
    (ap₂ (λ (a b : Bool). a || b) (was_there asked past event event.happening) (came_back_never asked past event event.happening)))
not_before_0 asked past (Lost processor reach) = none_under (lost_since processor reach past)
not_before_0 asked past Nothing = refl

pub latest_first : (processors : List Processor) (unseen : Option Cut) (latest : Cut) → latest ≡ unwrap_or unseen no_cut →
    LatestSoFar (cuts_of processors unseen) processors latest
latest_first processors None latest is = record {
  changes = λ asked past said. ap (λ (b : Bool). b || list_any (λ cut. changes_parts asked past cut said) (map cut_in processors))
      (ap (λ (cut : Cut). changes_parts asked past cut said) is ∙ not_before_0 asked past said);
  behind = λ time none some. (none, inr (subst (λ (n : ℕ). 1 ≤ n) (length-map processors cut_in) some));
}
latest_first processors (Some cut) latest is = record {
  changes = λ asked past said. ap (λ (one : Cut). changes_parts asked past one said || list_any (λ other. changes_parts asked past other said) (map cut_in processors)) is;
  behind = λ time none some. (none.1, inl (subst (λ (one : Cut). time ≤ one.boundary) (sym is) none.0));
}

pub latest_more : (all : List Cut) (rest : List Processor) (one : Processor) (latest next : Cut) → next ≡ later latest one.cut → LatestSoFar all (one ∷ rest) latest →
    LatestSoFar all rest next
latest_more all rest one latest next is far = record {
  changes = λ asked past said.
      ap (λ (b : Bool). b || list_any (λ cut. changes_parts asked past cut said) (map cut_in rest))
      (ap (λ (cut : Cut). changes_parts asked past cut said) is ∙ later_changes asked past latest one.cut said)
      ∙ or_assoc (changes_parts asked past latest said) (changes_parts asked past one.cut said) (list_any (λ cut. changes_parts asked past cut said) (map cut_in rest))
      ∙ far.changes asked past said;
  behind = λ time none some.
      let known : NoneEndsBefore time (map cut_in (one ∷ rest)) × ((time ≤ latest.boundary) ⊎ (1 ≤ length (one ∷ rest))) = far.behind time none some in
      let behind : time ≤ (later latest one.cut).boundary = omega (arith, known.0.0) in
      (known.0.1, inl (subst (λ (cut : Cut). time ≤ cut.boundary) (sym is) behind));
}

or_none : (b : Bool) → (b || false) ≡ b
or_none true = refl
or_none false = refl

pub latest_last : (all : List Cut) (latest : Cut) → LatestSoFar all [] latest → IsLatest all latest
latest_last all latest far asked past said = sym (or_none (changes_parts asked past latest said)) ∙ far.changes asked past said

pub latest_behind : (all : List Cut) (latest : Cut) (time : ℕ) → LatestSoFar all [] latest → NoneEndsBefore time all → 1 ≤ length all → time ≤ latest.boundary
latest_behind all latest time far none some = elim (far.behind time none some).1 [ inl is ↦ is | inr more ↦ absurd (omega (arith, more)) ]

-- # The first boundary

pub record LeastSoFar (all : List Cut) (rest : List Processor) (limit least : ℕ) : Type 0 where
  pub within : least ≤ limit
  pub each : (time : ℕ) → time ≤ least → NoneEndsBefore time (map cut_in rest) → NoneEndsBefore time all
  pub first : (time : ℕ) → NoneEndsBefore time all → time ≤ limit → (time ≤ least) × NoneEndsBefore time (map cut_in rest)

least_none : (processors : List Processor) (limit : ℕ) → LeastSoFar (cuts_of processors None) processors limit limit
least_none processors limit = record {
  within = le_refl limit;
  each = λ time less none. none;
  first = λ time none less. (less, none);
}

least_some : (processors : List Processor) (cut : Cut) (limit : ℕ) → LeastSoFar (cuts_of processors (Some cut)) processors limit (min cut.boundary limit)
least_some processors cut limit = record {
  within = omega arith;
  each = λ time less none. (omega (arith, less), none);
  first = λ time none less. (omega (arith, none.0, less), none.1);
}

pub least_first : (processors : List Processor) (unseen : Option Cut) (limit least : ℕ) → least ≡ boundary_before unseen limit →
    LeastSoFar (cuts_of processors unseen) processors limit least
least_first processors None limit least is = subst (LeastSoFar (cuts_of processors None) processors limit) (sym is) (least_none processors limit)
least_first processors (Some cut) limit least is = subst (LeastSoFar (cuts_of processors (Some cut)) processors limit) (sym is) (least_some processors cut limit)

pub least_more : (all : List Cut) (rest : List Processor) (one : Processor) (limit least : ℕ) → LeastSoFar all (one ∷ rest) limit least →
    LeastSoFar all rest limit (min least one.cut.boundary)
least_more all rest one limit least far = record {
  within = omega (arith, far.within);
  each = λ time less none. far.each time (omega (arith, less)) (omega (arith, less), none);
  first = λ time none less. let known = far.first time none less in (omega (arith, known.0, known.1.0), known.1.1);
}

pub least_last : (all : List Cut) (limit least : ℕ) → LeastSoFar all [] limit least → NoneEndsBefore least all
least_last all limit least far = far.each least (le_refl least) tt

-- # More processors

abbrev pub GrowsTo : List Processor → List Processor → Cut → ℕ → Type 0
GrowsTo old now cut last = (cuts : ℕ → Cut) (count : ℕ) → old ≡ each_of cuts count → ((number : ℕ) → count ≤ number → cuts number ≡ cut) →
    (now ≡ each_of cuts (length now)) × (count ≤ length now) × (length now ≤ max (last + 1) count)

pub grows_first : (old : List Processor) (cut : Cut) (last : ℕ) → GrowsTo old old cut last
grows_first old cut last = λ cuts count is same.
    let many : length old ≡ count = ap length is ∙ length-each_of cuts count in
    (is ∙ ap (each_of cuts) (sym many), omega (arith, many), omega (arith, many))

pub grows_more : (old now next : List Processor) (cut : Cut) (last : ℕ) → length now ≤ last → next ≡ now ++ record { number = length now; cut = cut } ∷ [] →
    GrowsTo old now cut last → GrowsTo old next cut last
grows_more old now next cut last less is grows = λ cuts count old_is same.
    let known = grows cuts count old_is same in
    let many : length next ≡ length now + 1 = ap length is ∙ length-append now (record { number = length now; cut = cut } ∷ []) in (
      is ∙ ap₂ (λ (front : List Processor) (one : Cut). front ++ record { number = length now; cut = one } ∷ []) known.0 (sym (same (length now) known.1))
          ∙ each_push cuts (length now) ∙ ap (each_of cuts) (sym many),
      omega (arith, many, known.1),
      omega (arith, many, less),
    )

pub grows_last : (old now : List Processor) (cut : Cut) (last : ℕ) → last < length now → GrowsTo old now cut last → (cuts : ℕ → Cut) (count : ℕ) → old ≡ each_of cuts count →
    ((number : ℕ) → count ≤ number → cuts number ≡ cut) → now ≡ each_of cuts (max (last + 1) count)
grows_last old now cut last more grows cuts count is same =
    let known = grows cuts count is same in
    let many : length now ≡ max (last + 1) count = omega (arith, more, known.1, known.2) in
    known.0 ∙ ap (each_of cuts) many

-- # By their place

-- the processor at this place, and the rest behind it
pub next_at : (strict : Bool) (before pass new : Pass) (shown : Shown) (all : List Processor) (i : ℕ) (d : Processor) (piece : Piece) (made more : Pieces) →
    i < length all → Turns (get_or all i d).number pass new → Makes strict pass shown (get_or all i d) piece → more.text.items ≡ made.text.items ++ piece.text.items →
    more.processors.items ≡ made.processors.items ++ record { number = (get_or all i d).number; cut = piece.cut } ∷ [] →
    AreNext strict before pass shown all (drop i all) made → AreNext strict before new shown all (drop (i + 1) all) more
next_at strict before pass new shown all i d piece made more within turns makes text ones next =
    next_more strict before pass new shown all (drop (i + 1) all) (get_or all i d) piece made more turns makes text ones
    (subst (λ (rest : List Processor). AreNext strict before pass shown all rest made) (rest_at all i d within) next)

pub next_halts_at : (asked : Asked) (strict : Bool) (past : List Said) (boundary : ℕ) (before pass : Pass) (shown : Shown) (all : List Processor) (i : ℕ) (d : Processor)
    (made : Pieces) (halt : HaltKept) → i < length all → AreNext strict before pass shown all (drop i all) made → HaltsOn strict pass shown (get_or all i d) halt →
    IsAtBehind asked past boundary before → IsShown asked past boundary shown → NoneEndsBefore boundary (map cut_in all) → is_due past ≡ true →
    IsHaltFor (pieces_at asked strict past all).halt halt
next_halts_at asked strict past boundary before pass shown all i d made halt within next halts at shows later due =
    next_halts asked strict past boundary before pass shown all (drop (i + 1) all) (get_or all i d) made halt
    (subst (λ (rest : List Processor). AreNext strict before pass shown all rest made) (rest_at all i d within) next) halts at shows later due

pub next_end : (asked : Asked) (strict : Bool) (past : List Said) (boundary : ℕ) (all : List Processor) (i : ℕ) (made : Pieces) → length all ≤ i →
    NextSoFar asked strict past boundary all (drop i all) made → ArePieces asked strict past all made
next_end asked strict past boundary all i made over far =
    next_last asked strict past boundary all made (subst (λ (rest : List Processor). NextSoFar asked strict past boundary all rest made) (drop_all i all over) far)

pub last_at_place : (strict : Bool) (before pass new : Pass) (shown : Shown) (all : List Processor) (i : ℕ) (d : Processor) (last : Last) (text more : List ℕ) (has_job also : Bool) →
    i < length all → Turns (get_or all i d).number pass new → Ends strict pass shown (get_or all i d) last → more ≡ text ++ last.text.items → also ≡ (has_job || last.has_job) →
    AreLastOf strict before pass shown all (drop i all) text has_job → AreLastOf strict before new shown all (drop (i + 1) all) more also
last_at_place strict before pass new shown all i d last text more has_job also within turns ends longer or_is now =
    last_more strict before pass new shown all (drop (i + 1) all) (get_or all i d) last text more has_job also turns ends longer or_is
    (subst (λ (rest : List Processor). AreLastOf strict before pass shown all rest text has_job) (rest_at all i d within) now)

pub last_halts_at : (asked : Asked) (strict : Bool) (past : List Said) (boundary : ℕ) (before pass : Pass) (shown : Shown) (all : List Processor) (i : ℕ) (d : Processor)
    (text : List ℕ) (has_job : Bool) (halt : HaltKept) → i < length all → AreLastOf strict before pass shown all (drop i all) text has_job →
    EndHalts strict pass shown (get_or all i d) halt → IsAtBehind asked past boundary before → IsShown asked past boundary shown → NoneEndsBefore boundary (map cut_in all) →
    IsHaltFor (last_at asked strict past all).halt halt
last_halts_at asked strict past boundary before pass shown all i d text has_job halt within now halts at shows later =
    last_halts asked strict past boundary before pass shown all (drop (i + 1) all) (get_or all i d) text has_job halt
    (subst (λ (rest : List Processor). AreLastOf strict before pass shown all rest text has_job) (rest_at all i d within) now) halts at shows later

pub last_end : (asked : Asked) (strict : Bool) (past : List Said) (boundary : ℕ) (all : List Processor) (i : ℕ) (last : Last) → length all ≤ i →
    LastSoFar asked strict past boundary all (drop i all) last.text.items last.has_job → AreLast asked strict past all last
last_end asked strict past boundary all i last over far =
    last_last asked strict past boundary all last
    (subst (λ (rest : List Processor). LastSoFar asked strict past boundary all rest last.text.items last.has_job) (drop_all i all over) far)

pub latest_at : (cuts : List Cut) (all : List Processor) (i : ℕ) (d : Processor) (latest next : Cut) → i < length all → next ≡ later latest (get_or all i d).cut →
    LatestSoFar cuts (drop i all) latest → LatestSoFar cuts (drop (i + 1) all) next
latest_at cuts all i d latest next within is far =
    latest_more cuts (drop (i + 1) all) (get_or all i d) latest next is
    (subst (λ (rest : List Processor). LatestSoFar cuts rest latest) (rest_at all i d within) far)

pub latest_end : (cuts : List Cut) (all : List Processor) (i : ℕ) (latest : Cut) → length all ≤ i → LatestSoFar cuts (drop i all) latest → LatestSoFar cuts [] latest
latest_end cuts all i latest over far = subst (λ (rest : List Processor). LatestSoFar cuts rest latest) (drop_all i all over) far

pub least_at : (cuts : List Cut) (all : List Processor) (i : ℕ) (d : Processor) (limit least next : ℕ) → i < length all → next ≡ min least (get_or all i d).cut.boundary →
    LeastSoFar cuts (drop i all) limit least → LeastSoFar cuts (drop (i + 1) all) limit next
least_at cuts all i d limit least next within is far =
    subst (LeastSoFar cuts (drop (i + 1) all) limit) (sym is) (least_more cuts (drop (i + 1) all) (get_or all i d) limit least
    (subst (λ (rest : List Processor). LeastSoFar cuts rest limit least) (rest_at all i d within) far))

pub least_end : (cuts : List Cut) (all : List Processor) (i limit least : ℕ) → length all ≤ i → LeastSoFar cuts (drop i all) limit least → LeastSoFar cuts [] limit least
least_end cuts all i limit least over far = subst (λ (rest : List Processor). LeastSoFar cuts rest limit least) (drop_all i all over) far
