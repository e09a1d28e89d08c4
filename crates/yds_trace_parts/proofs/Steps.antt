-- A line more: what is told behind it, and where the last part ends.
use Rattle.base.proofs.Common.{◌≡◌, ℕ, ◌<◌, ◌≤◌, ◌⊎◌, inl, inr, ◌%◌, ◌==◌, List, [], ◌∷◌, ◌++◌, length, map, filter, cond, Bool, true, false, ◌&&◌, not, Option, Some, None, refl, ap, subst, ◌∙◌, arith, leb-true, mod-eq_of_lt, ne_eqb, eqb-true, false≢true, append-nil, ap₂, ◌||◌, list_any, if◌then◌else◌}
use Rattle.yds_kernel.specs.Event.{Said}
use Rattle.yds_kernel.specs.Parts.{or_else}
use Rattle.yds_trace.specs.declared.cut.Cut.{Cut}
use Rattle.yds_trace.specs.declared.limits.TheConstants.{LOOK_EVERY}
use Rattle.yds_trace.specs.Asked.{Asked}
use Rattle.yds_trace.specs.Others.{others_from}
use Rattle.yds_trace.specs.Past.{processor_count}
use Rattle.yds_trace.specs.Document.{Judged, has_run_on}
use Rattle.yds_trace.specs.Parts.{belongs, begin_of, begins_from, begins_before, is_written, waiting, of_part, part_until, is_before_end, is_much, is_due, has_job, is_done_by, is_closed_by, has_own_job, each_before, is_quiet, is_closed, last_where, place_among, place_of, first_numbers, processors_of, cut_at, cut_after, no_cut}
use Rattle.yds_trace_text.specs.PartText.{part_text}
use Rattle.yds_trace_parts.specs.Told.{Halt, Told, no_piece, both, piece_unless, piece_with, piece_at, pieces, with_piece, line_halt, part_halt, told_with, told_next, told_after}
use Rattle.yds_trace_parts.specs.Telling.{text_alone}
use Rattle.yds_trace_parts.proofs.Placed.{chosen}

-- # What is told behind a line

goes_by : (asked : Asked) (strict : Bool) (past : List Said) (said : Said) (text : List ℕ) (halt : Option Halt) → halt ≡ None →
    told_next asked strict past said (record { text = text; halt = halt }) ≡ told_with asked strict past said text (line_halt asked past said)
goes_by asked strict past said text None is = refl
goes_by asked strict past said text (Some found) is = cc

-- where nothing was refused before
pub next_is : (asked : Asked) (strict : Bool) (past : List Said) (said : Said) → (told_after asked strict past).halt ≡ None →
    told_after asked strict (said ∷ past) ≡ told_with asked strict past said (told_after asked strict past).text (line_halt asked past said)
next_is asked strict past said goes = goes_by asked strict past said (told_after asked strict past).text (told_after asked strict past).halt goes

-- the line is refused
pub refused_is : (asked : Asked) (strict : Bool) (past : List Said) (said : Said) (halt : Halt) → (told_after asked strict past).halt ≡ None →
    line_halt asked past said ≡ Some halt → (told_after asked strict (said ∷ past)).halt ≡ Some halt
refused_is asked strict past said halt goes is =
    ap (λ (told : Told). told.halt) (next_is asked strict past said goes ∙ ap (told_with asked strict past said (told_after asked strict past).text) is)

-- it isn't, and the pieces are written
pub taken_is : (asked : Asked) (strict : Bool) (past : List Said) (said : Said) → (told_after asked strict past).halt ≡ None → line_halt asked past said ≡ None →
    told_after asked strict (said ∷ past) ≡ with_piece (told_after asked strict past).text (pieces asked strict past said (processors_of asked (said ∷ past)))
taken_is asked strict past said goes sound =
    next_is asked strict past said goes ∙ ap (told_with asked strict past said (told_after asked strict past).text) sound

-- or it halts as they do
pub halts_behind : (asked : Asked) (strict : Bool) (past : List Said) (said : Said) → (told_after asked strict past).halt ≡ None → line_halt asked past said ≡ None →
    (told_after asked strict (said ∷ past)).halt ≡ (pieces asked strict past said (processors_of asked (said ∷ past))).halt
halts_behind asked strict past said goes sound = ap (λ (told : Told). told.halt) (taken_is asked strict past said goes sound)

pub told_more : (asked : Asked) (strict : Bool) (past : List Said) (said : Said) (text : List ℕ) → (told_after asked strict past).halt ≡ None → line_halt asked past said ≡ None →
    pieces asked strict past said (processors_of asked (said ∷ past)) ≡ text_alone text →
    told_after asked strict (said ∷ past) ≡ record { text = (told_after asked strict past).text ++ text; halt = None }
told_more asked strict past said text goes sound is =
    taken_is asked strict past said goes sound ∙ ap (with_piece (told_after asked strict past).text) is

pub same_cut : (asked : Asked) (past : List Said) (said : Said) → place_of asked (said ∷ past) (cut_after asked past) ≡ None →
    cut_after asked (said ∷ past) ≡ cut_after asked past
same_cut asked past said place = ap (cut_at asked (said ∷ past) (cut_after asked past)) place

-- # Few lines

not_due : (past : List Said) → 1 ≤ length past → length past < LOOK_EVERY → is_due past ≡ false
not_due past some few =
    let same : length past % LOOK_EVERY ≡ length past = mod-eq_of_lt few in
    ap (λ (n : ℕ). n == 0) same ∙ ne_eqb (length past) 0 (λ (none : length past ≡ 0). omega (arith, none, some))

-- it isn't looked for a place, or little waits
pub none_if : (due much : Bool) (place : Option ℕ) → (due ≡ false) ⊎ (much ≡ false) → (if due && much then place else None) ≡ None
none_if due much place (inl is) = ap (λ (b : Bool). if b && much then place else None) is
none_if true much place (inr is) = ap (λ (b : Bool). if b then place else None) is
none_if false much place (inr is) = refl

-- behind them it isn't looked for a place
pub few_lines : (asked : Asked) (past : List Said) → length past < LOOK_EVERY → cut_after asked past ≡ no_cut
few_lines asked [] few = refl
few_lines asked (said ∷ past) few =
    same_cut asked past said
    (none_if (is_due (said ∷ past))
    (is_much (waiting asked (said ∷ past) (cut_after asked past)) (others_from asked (said ∷ past) (cut_after asked past).boundary))
    (place_among asked (said ∷ past) (waiting asked (said ∷ past) (cut_after asked past))) (inl (not_due (said ∷ past) (omega arith) few)))
    ∙ few_lines asked past (omega (arith, few))

-- # A part ends behind those before it

-- a time among these
abbrev IsFrom : ℕ → Option ℕ → Type 0
IsFrom low None = Unit {0}
IsFrom low (Some time) = low ≤ time

either_from : (low : ℕ) (one other : Option ℕ) → IsFrom low one → IsFrom low other → IsFrom low (or_else one other)
either_from low (Some time) other first second = first
either_from low None other first second = second

here_from : (low time : ℕ) (b : Bool) → low ≤ time → IsFrom low (if b then Some time else None)
here_from low time true order = order
here_from low time false order = tt

more_from : (low : ℕ) (test : ℕ → Bool) (judged : Judged) (jobs : List Judged) (b : Bool) → begins_from low judged ≡ b →
    IsFrom low (last_where test (map begin_of jobs)) → IsFrom low (last_where test (map begin_of (cond b (judged ∷ jobs) jobs)))
more_from low test judged jobs true is rest =
    either_from low (last_where test (map begin_of jobs)) (if test judged.job.begin then Some judged.job.begin else None) rest
    (here_from low judged.job.begin (test judged.job.begin) (leb-true low judged.job.begin is))
more_from low test judged jobs false is rest = rest

last_from : (low : ℕ) (test : ℕ → Bool) (jobs : List Judged) → IsFrom low (last_where test (map begin_of (filter (begins_from low) jobs)))
last_from low test [] = tt
last_from low test (judged ∷ jobs) = more_from low test judged (filter (begins_from low) jobs) (begins_from low judged) refl (last_from low test jobs)

chosen_from : (low : ℕ) (b : Bool) (place : Option ℕ) → IsFrom low place → IsFrom low (if b then place else None)
chosen_from low true place from = from
chosen_from low false place from = tt

place_from : (asked : Asked) (past : List Said) (cut : Cut) → IsFrom cut.boundary (place_of asked past cut)
place_from asked past cut =
    chosen_from cut.boundary (is_due past && is_much (waiting asked past cut) (others_from asked past cut.boundary))
    (place_among asked past (waiting asked past cut))
    (either_from cut.boundary (last_where (is_closed asked past (waiting asked past cut)) (map begin_of (waiting asked past cut)))
    (last_where (is_quiet asked past (waiting asked past cut)) (map begin_of (waiting asked past cut)))
    (last_from cut.boundary (is_closed asked past (waiting asked past cut)) _) (last_from cut.boundary (is_quiet asked past (waiting asked past cut)) _))

pub place_behind : (asked : Asked) (past : List Said) (cut : Cut) (time : ℕ) → place_of asked past cut ≡ Some time → cut.boundary ≤ time
place_behind asked past cut time is = subst (IsFrom cut.boundary) is (place_from asked past cut)

-- # A place is there

-- some time
abbrev IsThere : Option ℕ → Type 0
IsThere found = (time : ℕ) × (found ≡ Some time)

there_first : (one other : Option ℕ) → IsThere one → IsThere (or_else one other)
there_first (Some time) other there = (time, refl)
there_first None other there = absurd (cc (there.1))

there_second : (one other : Option ℕ) → IsThere other → IsThere (or_else one other)
there_second (Some time) other there = (time, refl)
there_second None other there = there

there_if : (b : Bool) (time : ℕ) → b ≡ true → IsThere (if b then Some time else None)
there_if b time is = (time, chosen b time None is)

last_there : (test : ℕ → Bool) (times : List ℕ) (time : ℕ) → test time ≡ true → list_any (λ other. other == time) times ≡ true → IsThere (last_where test times)
last_there test [] time held any = absurd (false≢true any)
last_there test (other ∷ times) time held any = by (other == time) refl any (last_there test times time held)
  where
    by : (same : Bool) → (other == time) ≡ same → (same || list_any (λ one. one == time) times) ≡ true →
        (list_any (λ one. one == time) times ≡ true → IsThere (last_where test times)) → IsThere (last_where test (other ∷ times))
    by true is one rest = there_second (last_where test times) (if test other then Some other else None)
        (there_if (test other) other (ap test (eqb-true other time is) ∙ held))
    by false is one rest = there_first (last_where test times) (if test other then Some other else None) (rest one)

-- where it is looked for one and much waits, a quiet begin is enough
pub place_there : (asked : Asked) (past : List Said) (cut : Cut) (time : ℕ) → is_due past ≡ true →
    is_much (waiting asked past cut) (others_from asked past cut.boundary) ≡ true →
    list_any (λ begin. begin == time) (map begin_of (waiting asked past cut)) ≡ true → is_quiet asked past (waiting asked past cut) time ≡ true →
    (place : ℕ) × (place_of asked past cut ≡ Some place)
place_there asked past cut time due much any quiet =
    let there : IsThere (place_among asked past (waiting asked past cut)) =
    there_second (last_where (is_closed asked past (waiting asked past cut)) (map begin_of (waiting asked past cut)))
    (last_where (is_quiet asked past (waiting asked past cut)) (map begin_of (waiting asked past cut)))
    (last_there (is_quiet asked past (waiting asked past cut)) (map begin_of (waiting asked past cut)) time quiet any) in (
      there.0,
      ap₂ (λ (one other : Bool). if one && other then place_among asked past (waiting asked past cut) else None) due much ∙ there.1,
    )

-- # A part with a job

-- the test holds there
abbrev IsHeld : (ℕ → Bool) → Option ℕ → Type 0
IsHeld test None = Unit {0}
IsHeld test (Some time) = test time ≡ true

held_either : (test : ℕ → Bool) (one other : Option ℕ) → IsHeld test one → IsHeld test other → IsHeld test (or_else one other)
held_either test (Some time) other first second = first
held_either test None other first second = second

held_if : (test : ℕ → Bool) (time : ℕ) (b : Bool) → test time ≡ b → IsHeld test (if b then Some time else None)
held_if test time true is = is
held_if test time false is = tt

last_held : (test : ℕ → Bool) (times : List ℕ) → IsHeld test (last_where test times)
last_held test [] = tt
last_held test (time ∷ times) =
    held_either test (last_where test times) (if test time then Some time else None) (last_held test times) (held_if test time (test time) refl)

first_true : (b c : Bool) → (b && c) ≡ true → b ≡ true
first_true true c is = refl
first_true false c is = is

first_of_three : (a b c : Bool) → (a && b && c) ≡ true → a ≡ true
first_of_three true b c is = refl
first_of_three false b c is = is

weaker_held : (test other : ℕ → Bool) (place : Option ℕ) → ((time : ℕ) → test time ≡ true → other time ≡ true) → IsHeld test place → IsHeld other place
weaker_held test other None weaker held = tt
weaker_held test other (Some time) weaker held = weaker time held

held_chosen : (test : ℕ → Bool) (b : Bool) (place : Option ℕ) → IsHeld test place → IsHeld test (if b then place else None)
held_chosen test true place held = held
held_chosen test false place held = tt

-- at a place the processor is quiet
place_quiet : (asked : Asked) (past : List Said) (cut : Cut) → IsHeld (is_quiet asked past (waiting asked past cut)) (place_of asked past cut)
place_quiet asked past cut =
    held_chosen (is_quiet asked past (waiting asked past cut))
    (is_due past && is_much (waiting asked past cut) (others_from asked past cut.boundary)) (place_among asked past (waiting asked past cut))
    (held_either (is_quiet asked past (waiting asked past cut)) (last_where (is_closed asked past (waiting asked past cut)) (map begin_of (waiting asked past cut)))
    (last_where (is_quiet asked past (waiting asked past cut)) (map begin_of (waiting asked past cut)))
    (weaker_held (is_closed asked past (waiting asked past cut)) (is_quiet asked past (waiting asked past cut))
    (last_where (is_closed asked past (waiting asked past cut)) (map begin_of (waiting asked past cut)))
    (λ time held. first_of_three (is_quiet asked past (waiting asked past cut) time) (has_own_job asked time (waiting asked past cut))
    (each_before (is_closed_by asked time) time (waiting asked past cut)) held)
    (last_held (is_closed asked past (waiting asked past cut)) (map begin_of (waiting asked past cut))))
    (last_held (is_quiet asked past (waiting asked past cut)) (map begin_of (waiting asked past cut))))

-- one and more
pub record IsSome (jobs : List Judged) : Type 0 where
  pub first : Judged
  pub more : List Judged
  pub are : jobs ≡ first ∷ more

of_one : (asked : Asked) (judged : Judged) (jobs : List Judged) → asked.everywhere ≡ false → IsSome (filter (belongs asked) (judged ∷ jobs))
of_one asked judged jobs one = record {
  first = judged;
  more = filter (belongs asked) jobs;
  are = ap (λ (everywhere : Bool). cond (not everywhere || has_run_on asked.processor judged.job || (asked.processor == 0 && length judged.job.stretches == 0))
      (judged ∷ filter (belongs asked) jobs) (filter (belongs asked) jobs)) one;
}

-- With one processor a place has a job before it.
some_before : (asked : Asked) (time : ℕ) (jobs : List Judged) → asked.everywhere ≡ false → has_job asked time jobs ≡ true → IsSome (of_part asked (Some time) jobs)
some_before asked time [] one has = absurd (false≢true has)
some_before asked time (judged ∷ jobs) one has = by (begins_before time judged) has (some_before asked time jobs one)
  where
    by : (b : Bool) → ((b && (asked.everywhere || is_written judged)) || has_job asked time jobs) ≡ true →
        (has_job asked time jobs ≡ true → IsSome (of_part asked (Some time) jobs)) →
        IsSome (filter (belongs asked) (cond b (judged ∷ filter (is_before_end (Some time)) jobs) (filter (is_before_end (Some time)) jobs)))
    by true is rest = of_one asked judged (filter (is_before_end (Some time)) jobs) one
    by false is rest = rest is

pub part_some : (asked : Asked) (past : List Said) (cut : Cut) (time : ℕ) → asked.everywhere ≡ false → place_of asked past cut ≡ Some time →
    IsSome (part_until asked past cut (Some time))
part_some asked past cut time one place =
    some_before asked time (waiting asked past cut) one
    (first_true (has_job asked time (waiting asked past cut)) (each_before (is_done_by asked past time) time (waiting asked past cut))
    (subst (IsHeld (is_quiet asked past (waiting asked past cut))) place (place_quiet asked past cut)))

piece_some : (asked : Asked) (strict : Bool) (past : List Said) (cut : Cut) (time : ℕ) (part : List Judged) → IsSome part → part_halt asked strict past cut (Some time) ≡ None →
    piece_with asked strict past cut time part ≡ text_alone (part_text asked past cut (Some time))
piece_some asked strict past cut time [] some fits = cc (some.are)
piece_some asked strict past cut time (judged ∷ part) some fits =
    ap (λ (halt : Option Halt). piece_unless halt (part_text asked past cut (Some time))) fits

-- a part that passes no limit follows the parts before it
pub part_follows : (asked : Asked) (strict : Bool) (past : List Said) (said : Said) (time : ℕ) → asked.everywhere ≡ false → (told_after asked strict past).halt ≡ None →
    line_halt asked past said ≡ None → place_of asked (said ∷ past) (cut_after asked past) ≡ Some time → part_halt asked strict (said ∷ past) (cut_after asked past) (Some time) ≡ None →
    told_after asked strict (said ∷ past)
    ≡ record { text = (told_after asked strict past).text ++ part_text asked (said ∷ past) (cut_after asked past) (Some time); halt = None }
part_follows asked strict past said time one goes line place fits =
    told_more asked strict past said (part_text asked (said ∷ past) (cut_after asked past) (Some time)) goes line
    (ap (λ (everywhere : Bool). pieces asked strict past said (if everywhere then first_numbers (processor_count (said ∷ past)) else asked.processor ∷ [])) one
    ∙ ap (λ (piece : Told). both piece no_piece)
    (ap (piece_at asked strict (said ∷ past) (cut_after asked past)) place
    ∙ piece_some asked strict (said ∷ past) (cut_after asked past) time (part_until asked (said ∷ past) (cut_after asked past) (Some time))
    (part_some asked (said ∷ past) (cut_after asked past) time one place) fits)
    ∙ ap text_alone (append-nil (part_text asked (said ∷ past) (cut_after asked past) (Some time))))
