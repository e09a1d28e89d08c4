-- A line changes the parts behind two cuts where it changes those behind one of them.
use Rattle.base.proofs.Common.{◌≡◌, ◌∙◌, ℕ, ◌<◌, ◌≤◌, List, max, Bool, true, false, not, ◌&&◌, ◌||◌, nat_lt, Option, Some, None, is_some, is_none, refl, ap, ap₂, arith, lt-ltb}
use Rattle.std.proofs.lemmas.Bool.{ltb-true, ltb-false, le-ltb}
use Rattle.yds_kernel.specs.declared.loss.Since.TheVariants as since
use Rattle.yds_kernel.specs.Event.{Happening, Switch, WakeUp, Speed, Loss, Marker, Other, Event, Said, Stamped, Lost, Nothing}
use Rattle.yds_trace.specs.declared.cut.Cut.{Cut}
use Rattle.yds_trace.specs.Asked.{Asked, task_of}
use Rattle.yds_trace.specs.Jobs.{Known, known_after}
use Rattle.yds_trace.specs.Faults.{missing_at}
use Rattle.yds_trace.specs.Past.{is_loss, lost_since, has_switched, lines_since, up_to}
use Rattle.yds_trace.specs.Parts.{last_begin, later, reaches_back, reaches_back_so, was_there_before, has_ended, sleeps_before, woken_before, came_before, is_known_so, wakes_at, leaves_at, came_back, changes_parts}

before_by : (time a b : ℕ) (first second : Bool) → nat_lt time a ≡ first → nat_lt time b ≡ second → nat_lt time (max a b) ≡ (first || second)
before_by time a b true second first_is second_is = lt-ltb time (max a b) (let early : time < a = ltb-true time a first_is in omega (arith, early))
before_by time a b false true first_is second_is = lt-ltb time (max a b) (let early : time < b = ltb-true time b second_is in omega (arith, early))
before_by time a b false false first_is second_is =
    le-ltb time (max a b) (let first : a ≤ time = ltb-false time a first_is in let second : b ≤ time = ltb-false time b second_is in omega (arith, first, second))

-- before one of two times
before_either : (time a b : ℕ) → nat_lt time (max a b) ≡ (nat_lt time a || nat_lt time b)
before_either time a b = before_by time a b (nat_lt time a) (nat_lt time b) refl refl

and_either : (x p q : Bool) → (x && (p || q)) ≡ ((x && p) || (x && q))
and_either true p q = refl
and_either false p q = refl

ands_either : (x y p q : Bool) → (x && y && (p || q)) ≡ ((x && y && p) || (x && y && q))
ands_either true true p q = refl
ands_either true false p q = refl
ands_either false y p q = refl

crossed : (p q r s : Bool) → ((p || q) || (r || s)) ≡ ((p || r) || (q || s))
crossed true q r s = refl
crossed false true true s = refl
crossed false true false s = refl
crossed false false r s = refl

there_either : (asked : Asked) (past : List Said) (cut other : Cut) (event : Event) (happening : Happening) →
    was_there_before asked past (later cut other) event happening ≡ (was_there_before asked past cut event happening || was_there_before asked past other event happening)
there_either asked past cut other event (Switch previous state next) =
    ap (λ (early : Bool). is_some (task_of asked.tasks previous) && not (has_switched event.processor (up_to asked.to past)) && early)
    (before_either (lines_since event.processor event.time (up_to asked.to past)) cut.boundary other.boundary)
    ∙ ands_either (is_some (task_of asked.tasks previous)) (not (has_switched event.processor (up_to asked.to past)))
    (nat_lt (lines_since event.processor event.time (up_to asked.to past)) cut.boundary) (nat_lt (lines_since event.processor event.time (up_to asked.to past)) other.boundary)
there_either asked past cut other event (WakeUp thread starts) = refl
there_either asked past cut other event (Speed processor khz) = refl
there_either asked past cut other event Loss = refl
there_either asked past cut other event Marker = refl
there_either asked past cut other event Other = refl

-- what is known of a thread meets this behind the later of two boundaries
so_either : (asked : Asked) (past : List Said) (first second both : Known → Bool) → ((known : Known) → both known ≡ (first known || second known)) → (found : Option ℕ) →
    (elim found as (λ _. Bool) [ None ↦ false | Some number ↦ both (known_after asked number (up_to asked.to past)) ])
    ≡ ((elim found as (λ _. Bool) [ None ↦ false | Some number ↦ first (known_after asked number (up_to asked.to past)) ])
    || (elim found as (λ _. Bool) [ None ↦ false | Some number ↦ second (known_after asked number (up_to asked.to past)) ]))
so_either asked past first second both each None = refl
so_either asked past first second both each (Some number) = each (known_after asked number (up_to asked.to past))

sleeps_either : (a b : ℕ) (known : Known) → sleeps_before (max a b) known ≡ (sleeps_before a known || sleeps_before b known)
sleeps_either a b known =
    ap (λ (early : Bool). known.woken.seen && has_ended known.jobs && early) (before_either (last_begin known.jobs) a b)
    ∙ ands_either known.woken.seen (has_ended known.jobs) (nat_lt (last_begin known.jobs) a) (nat_lt (last_begin known.jobs) b)

woken_either : (a b : ℕ) (known : Known) → woken_before (max a b) known ≡ (woken_before a known || woken_before b known)
woken_either a b known =
    ap (λ (sleeps : Bool). is_some known.woken.started && sleeps) (sleeps_either a b known)
    ∙ and_either (is_some known.woken.started) (sleeps_before a known) (sleeps_before b known)

came_either : (a b : ℕ) (known : Known) → came_before (max a b) known ≡ (came_before a known || came_before b known)
came_either a b known =
    ap (λ (woken : Bool). is_none known.on && woken) (woken_either a b known) ∙ and_either (is_none known.on) (woken_before a known) (woken_before b known)

missing_either : (cut other : Cut) (missing : Option ℕ) →
    reaches_back_so (later cut other) missing ≡ (reaches_back_so cut missing || reaches_back_so other missing)
missing_either cut other None = refl
missing_either cut other (Some time) = before_either time cut.decided other.decided

back_either : (asked : Asked) (past : List Said) (cut other : Cut) (event : Event) (happening : Happening) →
    came_back asked past (later cut other) event happening ≡ (came_back asked past cut event happening || came_back asked past other event happening)
back_either asked past cut other event (Switch previous state next) =
    let a : Bool = is_known_so asked past previous (came_before cut.boundary) in
    let b : Bool = is_known_so asked past previous (came_before other.boundary) in
    let c : Bool = is_known_so asked past next (sleeps_before cut.boundary) in
    let d : Bool = is_known_so asked past next (sleeps_before other.boundary) in
    ap₂ (λ (back so : Bool). (leaves_at asked past event && back) || (wakes_at asked event && so))
    (so_either asked past (came_before cut.boundary) (came_before other.boundary) (came_before (max cut.boundary other.boundary))
    (came_either cut.boundary other.boundary) (task_of asked.tasks previous))
    (so_either asked past (sleeps_before cut.boundary) (sleeps_before other.boundary) (sleeps_before (max cut.boundary other.boundary))
    (sleeps_either cut.boundary other.boundary) (task_of asked.tasks next))
    ∙ ap₂ (λ (back so : Bool). back || so) (and_either (leaves_at asked past event) a b) (and_either (wakes_at asked event) c d)
    ∙ crossed (leaves_at asked past event && a) (leaves_at asked past event && b) (wakes_at asked event && c) (wakes_at asked event && d)
back_either asked past cut other event (WakeUp thread starts) =
    ap (λ (so : Bool). wakes_at asked event && (not starts && so))
    (so_either asked past (woken_before cut.boundary) (woken_before other.boundary) (woken_before (max cut.boundary other.boundary))
    (woken_either cut.boundary other.boundary) (task_of asked.tasks thread))
    ∙ ap (λ (so : Bool). wakes_at asked event && so)
    (and_either (not starts) (is_known_so asked past thread (woken_before cut.boundary)) (is_known_so asked past thread (woken_before other.boundary)))
    ∙ and_either (wakes_at asked event) (not starts && is_known_so asked past thread (woken_before cut.boundary))
    (not starts && is_known_so asked past thread (woken_before other.boundary))
back_either asked past cut other event (Speed processor khz) = refl
back_either asked past cut other event Loss = refl
back_either asked past cut other event Marker = refl
back_either asked past cut other event Other = refl

pub later_changes : (asked : Asked) (past : List Said) (cut other : Cut) (said : Said) →
    changes_parts asked past (later cut other) said ≡ (changes_parts asked past cut said || changes_parts asked past other said)
later_changes asked past cut other (Stamped event) =
    let time : ℕ = lost_since event.processor since.ItsLastLine past in
    let missing : Option ℕ = missing_at asked past event in
    let there : Cut → Bool = λ one. was_there_before asked past one event event.happening in
    let back : Cut → Bool = λ one. came_back asked past one event event.happening in
    ap₂ (λ (lost rest : Bool). lost || rest)
    (ap (λ (early : Bool). is_loss event.happening && early) (before_either time cut.decided other.decided)
    ∙ and_either (is_loss event.happening) (reaches_back cut time) (reaches_back other time))
    (ap₂ (λ (torn rest : Bool). torn || rest) (missing_either cut other missing)
    (ap₂ (λ (here so : Bool). here || so) (there_either asked past cut other event event.happening) (back_either asked past cut other event event.happening)
    ∙ crossed (there cut) (there other) (back cut) (back other))
    ∙ crossed (reaches_back_so cut missing) (reaches_back_so other missing) (there cut || back cut) (there other || back other))
    ∙ crossed (is_loss event.happening && reaches_back cut time) (is_loss event.happening && reaches_back other time)
    (reaches_back_so cut missing || (there cut || back cut)) (reaches_back_so other missing || (there other || back other))
later_changes asked past cut other (Lost processor reach) = before_either (lost_since processor reach past) cut.decided other.decided
later_changes asked past cut other Nothing = refl
