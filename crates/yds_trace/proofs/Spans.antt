-- Who was in the way: the spans that are kept, and those that are forgotten before them.
use Rattle.base.proofs.Common.{◌≡◌, ◌∙◌, ℕ, ◌+◌, ◌<◌, ◌≤◌, List, [], ◌∷◌, ◌++◌, map, reverse, length, take, drop, filter, min, Bool, true, false, if◌then◌else◌, nat_lt, Option, Some, None, option_map, is_some, All, All-head, All-tail, All-cons, All-nil, All-append, All-weaker, All-map, refl, sym, ap, ap₂, subst, arith, append_assoc, map-append, reverse-append, filter-append, length-map, length-reverse, length-filter, count_by-le-length, All-permutation, ltb-true, le-ltb}
use Rattle.std.proofs.lemmas.List.{reverse-reverse, take-append-drop, take_min}
use Rattle.std.proofs.lemmas.List.Sorted.{IsPermutation-reverse}
use Rattle.yds_kernel.specs.declared.loss.Since.{Since}
use Rattle.yds_kernel.specs.Event.{Thread, Event, Said, Stamped, Lost, Nothing}
use Rattle.yds_trace.specs.declared.others.Others.{Others as OthersKept}
use Rattle.yds_trace.specs.declared.others.Span.{Span as SpanKept}
use Rattle.yds_trace.specs.Asked.{Asked}
use Rattle.yds_trace.specs.Past.{last_time, up_to, who_has}
use Rattle.yds_trace.specs.Late.{last_asked}
use Rattle.yds_trace.specs.Others.{Span, Spans, Going, any_waits, other_of, in_the_way, shortened, is_same, span_until, ended_at, going_from, spans_by, spans_after, spans_on, others_of, goes_behind, others_from}
use Rattle.yds_trace.specs.Following.{spans_kept, spans_at}
use Rattle.yds_trace.specs.Kept.{AreOthers, AreOthersOf}
use Rattle.yds_trace.specs.Views.{another_read, going_read, span_read}

pub spans_push : (spans : List SpanKept) (span : SpanKept) → reverse (map span_read (spans ++ span ∷ [])) ≡ span_read span ∷ reverse (map span_read spans)
spans_push spans span = rw (map-append, reverse-append)

-- the first bytes of a name
pub first_bytes : (most count : ℕ) (name : List ℕ) → count ≡ min (length name) most → take count name ≡ take most name
first_bytes most count name is = ap (λ (n : ℕ). take n name) (omega arith) ∙ take_min most name

-- # The forgotten spans before those that are kept

abbrev pub behind_spans : List Span → Spans → Spans
behind_spans forgotten spans = record { ended = spans.ended ++ forgotten; going = spans.going }

ended_behind : (time : ℕ) (forgotten ended : List Span) (going : Option Going) →
    ended_at time (record { ended = ended ++ forgotten; going = going }) ≡ ended_at time (record { ended = ended; going = going }) ++ forgotten
ended_behind time forgotten ended None = refl
ended_behind time forgotten ended (Some going) = by (nat_lt going.since time)
  where
    by : (b : Bool) → (if b then span_until time going ∷ (ended ++ forgotten) else ended ++ forgotten) ≡ (if b then span_until time going ∷ ended else ended) ++ forgotten
    by true = refl
    by false = refl

by_behind : (time : ℕ) (now : Option Thread) (forgotten : List Span) (spans : Spans) →
    spans_by time now (behind_spans forgotten spans) ≡ behind_spans forgotten (spans_by time now spans)
by_behind time now forgotten spans = by (is_same now spans.going)
  where
    by : (b : Bool) →
        (if b then behind_spans forgotten spans else record { ended = ended_at time (behind_spans forgotten spans); going = going_from time now })
        ≡ behind_spans forgotten (if b then spans else record { ended = ended_at time spans; going = going_from time now })
    by true = refl
    by false = ap (λ (ended : List Span). record { ended = ended; going = going_from time now }) (ended_behind time forgotten spans.ended spans.going)

whole_spans : (spans : Spans) (forgotten kept : List Span) (going : Option Going) → going ≡ spans.going → reverse spans.ended ≡ forgotten ++ reverse kept →
    spans ≡ behind_spans (reverse forgotten) (record { ended = kept; going = going })
whole_spans spans forgotten kept going going_is spans_is =
    ap₂ {C = Spans} (λ (ended : List Span) (going : Option Going). record { ended = ended; going = going })
    (sym (reverse-reverse spans.ended) ∙ ap reverse spans_is ∙ reverse-append forgotten (reverse kept) ∙ ap (λ (rest : List Span). rest ++ reverse forgotten) (reverse-reverse kept))
    (sym going_is)

listed_again : (spans : List SpanKept) → map span_read spans ≡ reverse (reverse (map span_read spans))
listed_again spans = sym (reverse-reverse (map span_read spans))

pub whole_others : (asked : Asked) (counting : List Said) (boundary processor : ℕ) (kept : OthersKept) (is : AreOthers asked counting boundary processor kept) →
    spans_after asked processor counting ≡ behind_spans (reverse is.forgotten) (spans_kept kept)
whole_others asked counting boundary processor kept is =
    whole_spans (spans_after asked processor counting) is.forgotten (reverse (map span_read kept.spans.items)) (option_map going_read kept.going) is.going
    (is.spans ∙ ap (λ (rest : List Span). is.forgotten ++ rest) (listed_again kept.spans.items))

-- what is kept stands for lines whose spans these are
kept_others : (asked : Asked) (counting : List Said) (boundary processor : ℕ) (forgotten : List Span) (kept : OthersKept) →
    option_map another_read kept.holder ≡ option_map shortened (other_of asked.tasks (who_has processor counting)) →
    spans_after asked processor counting ≡ behind_spans (reverse forgotten) (spans_kept kept) → All (λ span. span.to ≤ boundary) forgotten →
    AreOthers asked counting boundary processor kept
kept_others asked counting boundary processor forgotten kept holder spans earlier = record {
  holder = holder;
  going = ap (λ (all : Spans). all.going) (sym spans);
  forgotten = forgotten;
  spans = ap (λ (all : Spans). reverse all.ended) spans
      ∙ reverse-append (reverse (map span_read kept.spans.items)) (reverse forgotten)
      ∙ ap₂ (λ (first rest : List Span). first ++ rest) (reverse-reverse forgotten) (reverse-reverse (map span_read kept.spans.items));
  earlier = earlier;
}

-- # One line more

pub others_more : (asked : Asked) (counting : List Said) (event : Event) (boundary processor : ℕ) (was now : OthersKept) (waits : Bool) →
    AreOthers asked counting boundary processor was → waits ≡ any_waits asked (Stamped event ∷ counting) →
    option_map another_read now.holder ≡ option_map shortened (other_of asked.tasks (who_has processor (Stamped event ∷ counting))) →
    spans_kept now ≡ spans_by event.time (if waits then other_of asked.tasks (who_has processor (Stamped event ∷ counting)) else None) (spans_kept was) →
    AreOthers asked (Stamped event ∷ counting) boundary processor now
others_more asked counting event boundary processor was now waits is waits_is holder spans =
    let way : Option Thread = in_the_way asked processor (Stamped event ∷ counting) in
    kept_others asked (Stamped event ∷ counting) boundary processor is.forgotten now holder
    (ap (spans_by event.time way) (whole_others asked counting boundary processor was is)
    ∙ by_behind event.time way (reverse is.forgotten) (spans_kept was)
    ∙ ap (behind_spans (reverse is.forgotten))
    (ap (λ (b : Bool). spans_by event.time (if b then other_of asked.tasks (who_has processor (Stamped event ∷ counting)) else None) (spans_kept was)) (sym waits_is) ∙ sym spans))
    is.earlier

none_by : (time : ℕ) (ended : List Span) (going : Option Going) →
    spans_by time None (record { ended = ended; going = going }) ≡ record { ended = ended_at time (record { ended = ended; going = going }); going = None }
none_by time ended None = refl
none_by time ended (Some going) = refl

pub others_lost : (asked : Asked) (counting : List Said) (other : ℕ) (since : Since) (boundary processor time : ℕ) (was now : OthersKept) →
    AreOthers asked counting boundary processor was → last_time counting ≡ time → option_map another_read now.holder ≡ None →
    spans_kept now ≡ record { ended = ended_at time (spans_kept was); going = None } → AreOthers asked (Lost other since ∷ counting) boundary processor now
others_lost asked counting other since boundary processor time was now is time_is holder spans =
    kept_others asked (Lost other since ∷ counting) boundary processor is.forgotten now holder
    (ap₂ (λ (by : ℕ) (all : Spans). spans_by by None all) time_is (whole_others asked counting boundary processor was is)
    ∙ by_behind time None (reverse is.forgotten) (spans_kept was)
    ∙ ap (behind_spans (reverse is.forgotten)) (none_by time (spans_kept was).ended (spans_kept was).going ∙ sym spans))
    is.earlier

-- # Where it is asked for

abbrev of_wanted : Asked → List Said → ℕ → OthersKept → Option ℕ → Type 0
of_wanted asked counting boundary kept others = elim others as (λ _. Type 0) [ None ↦ Unit {0} | Some processor ↦ AreOthers asked counting boundary processor kept ]

pub unwanted : (asked : Asked) (counting : List Said) (boundary : ℕ) (kept : OthersKept) → asked.others ≡ None → AreOthersOf asked counting boundary kept
unwanted asked counting boundary kept none = subst (of_wanted asked counting boundary kept) (sym none) tt

pub wanted_are : (asked : Asked) (counting : List Said) (boundary processor : ℕ) (kept : OthersKept) → asked.others ≡ Some processor →
    AreOthersOf asked counting boundary kept → AreOthers asked counting boundary processor kept
wanted_are asked counting boundary processor kept some are = subst (of_wanted asked counting boundary kept) some are

pub are_wanted : (asked : Asked) (counting : List Said) (boundary processor : ℕ) (kept : OthersKept) → asked.others ≡ Some processor →
    AreOthers asked counting boundary processor kept → AreOthersOf asked counting boundary kept
are_wanted asked counting boundary processor kept some are = subst (of_wanted asked counting boundary kept) (sym some) are

-- # The first ones are forgotten

pub others_forget : (asked : Asked) (counting : List Said) (before boundary processor count : ℕ) (was now : OthersKept) →
    AreOthers asked counting before processor was → before ≤ boundary → All (λ span. span.to ≤ boundary) (take count was.spans.items) →
    now.holder ≡ was.holder → now.going ≡ was.going → now.spans.items ≡ drop count was.spans.items → AreOthers asked counting boundary processor now
others_forget asked counting before boundary processor count was now is later early holder going spans = record {
  holder = ap (option_map another_read) holder ∙ is.holder;
  going = ap (option_map going_read) going ∙ is.going;
  forgotten = is.forgotten ++ map span_read (take count was.spans.items);
  spans = is.spans
      ∙ ap (λ (all : List SpanKept). is.forgotten ++ map span_read all) (sym (take-append-drop count was.spans.items))
      ∙ ap (λ (all : List Span). is.forgotten ++ all) (map-append span_read (take count was.spans.items) (drop count was.spans.items))
      ∙ sym (append_assoc is.forgotten (map span_read (take count was.spans.items)) (map span_read (drop count was.spans.items)))
      ∙ ap (λ (all : List SpanKept). (is.forgotten ++ map span_read (take count was.spans.items)) ++ map span_read all) (sym spans);
  earlier = All-append (λ (span : Span). span.to ≤ boundary) is.forgotten (map span_read (take count was.spans.items))
      (All-weaker (λ (span : Span). span.to ≤ before) (λ (span : Span). span.to ≤ boundary) (λ span soon. omega (arith, soon)) is.forgotten is.earlier)
      (All-map (λ (span : Span). span.to ≤ boundary) span_read (take count was.spans.items) early);
}

-- # What is shown

none_behind : (boundary : ℕ) (spans : List Span) → All (λ span. span.to ≤ boundary) spans → filter (goes_behind boundary) spans ≡ []
none_behind boundary [] all = refl
none_behind boundary (span ∷ spans) all =
    let P : Span → Type 0 = λ (one : Span). one.to ≤ boundary in
    rw (le-ltb boundary span.to (All-head P span spans all)) (none_behind boundary spans (All-tail P span spans all))

-- All spans are the forgotten ones and those that are kept.
closed_spans : (asked : Asked) (counting : List Said) (boundary processor until : ℕ) (kept : OthersKept) (is : AreOthers asked counting boundary processor kept) →
    reverse (ended_at until (spans_after asked processor counting)) ≡ is.forgotten ++ reverse (ended_at until (spans_kept kept))
closed_spans asked counting boundary processor until kept is =
    ap (λ (all : Spans). reverse (ended_at until all)) (whole_others asked counting boundary processor kept is)
    ∙ ap reverse (ended_behind until (reverse is.forgotten) (spans_kept kept).ended (spans_kept kept).going)
    ∙ reverse-append (ended_at until (spans_kept kept)) (reverse is.forgotten)
    ∙ ap (λ (first : List Span). first ++ reverse (ended_at until (spans_kept kept))) (reverse-reverse is.forgotten)

shown_of : (asked : Asked) (past : List Said) (behind boundary until : ℕ) (kept : OthersKept) (others : Option ℕ) → behind ≤ boundary → until ≡ last_asked asked past →
    of_wanted asked (up_to asked.to past) behind kept others →
    filter (goes_behind boundary) (spans_at others until kept)
    ≡ filter (goes_behind boundary) (elim others as (λ _. List Span) [ None ↦ [] | Some processor ↦ spans_on asked past processor ])
shown_of asked past behind boundary until kept None within until_is is = refl
shown_of asked past behind boundary until kept (Some processor) within until_is is =
    let later : All (λ span. span.to ≤ boundary) is.forgotten =
    All-weaker (λ (span : Span). span.to ≤ behind) (λ (span : Span). span.to ≤ boundary) (λ span soon. omega (arith, soon)) is.forgotten is.earlier in
    ap (λ (time : ℕ). filter (goes_behind boundary) (reverse (ended_at time (spans_kept kept)))) until_is
    ∙ ap (λ (first : List Span). first ++ filter (goes_behind boundary) (reverse (ended_at (last_asked asked past) (spans_kept kept))))
    (sym (none_behind boundary is.forgotten later))
    ∙ sym (filter-append (goes_behind boundary) is.forgotten (reverse (ended_at (last_asked asked past) (spans_kept kept))))
    ∙ ap (filter (goes_behind boundary)) (sym (closed_spans asked (up_to asked.to past) behind processor (last_asked asked past) kept is))

pub others_shown : (asked : Asked) (past : List Said) (behind boundary until : ℕ) (kept : OthersKept) → behind ≤ boundary → until ≡ last_asked asked past →
    AreOthersOf asked (up_to asked.to past) behind kept → filter (goes_behind boundary) (spans_at asked.others until kept) ≡ others_from asked past boundary
others_shown asked past behind boundary until kept within until_is is = shown_of asked past behind boundary until kept asked.others within until_is is

-- # How much is kept

closed_length : (until : ℕ) (ended : List Span) (going : Option Going) →
    length (ended_at until (record { ended = ended; going = going })) ≤ length ended + (if is_some going then 1 else 0)
closed_length until ended None = omega arith
closed_length until ended (Some going) = by (nat_lt going.since until)
  where
    by : (b : Bool) → length (if b then span_until until going ∷ ended else ended) ≤ length ended + 1
    by true = omega arith
    by false = omega arith

abbrev one_if : Bool → ℕ
one_if b = if b then 1 else 0

some_mapped : {A B : Type 0} (f : A → B) (x : Option A) → is_some (option_map f x) ≡ is_some x
some_mapped f None = refl
some_mapped f (Some x) = refl

at_length : (until : ℕ) (kept : OthersKept) (others : Option ℕ) → length (spans_at others until kept) ≤ length kept.spans.items + (if is_some kept.going then 1 else 0)
at_length until kept None = omega arith
at_length until kept (Some processor) =
    let count : length (reverse (map span_read kept.spans.items)) ≡ length kept.spans.items =
    length-reverse (map span_read kept.spans.items) ∙ length-map kept.spans.items span_read in
    let one : one_if (is_some (option_map going_read kept.going)) ≡ one_if (is_some kept.going) = ap one_if (some_mapped going_read kept.going) in
    omega (
      arith,
      length-reverse (ended_at until (spans_kept kept)),
      closed_length until (reverse (map span_read kept.spans.items)) (option_map going_read kept.going),
      count,
      one,
    )

pub few_others : (asked : Asked) (past : List Said) (behind boundary : ℕ) (kept : OthersKept) → behind ≤ boundary → AreOthersOf asked (up_to asked.to past) behind kept →
    length (others_from asked past boundary) ≤ length kept.spans.items + (if is_some kept.going then 1 else 0)
few_others asked past behind boundary kept within is =
    let shown : length (filter (goes_behind boundary) (spans_at asked.others (last_asked asked past) kept)) ≡ length (others_from asked past boundary) =
    ap (λ (all : List Span). length all) (others_shown asked past behind boundary (last_asked asked past) kept within refl is) in
    omega (
      arith,
      shown,
      length-filter (goes_behind boundary) (spans_at asked.others (last_asked asked past) kept),
      count_by-le-length (goes_behind boundary) (spans_at asked.others (last_asked asked past) kept),
      at_length (last_asked asked past) kept asked.others,
    )

-- # At the end

-- A span takes time, so it ends after 0.
abbrev EndsLater : List Span → Type 0
EndsLater spans = All (λ (span : Span). 1 ≤ span.to) spans

later_end : (time : ℕ) (ended : List Span) (going : Option Going) → EndsLater ended → EndsLater (ended_at time (record { ended = ended; going = going }))
later_end time ended None all = all
later_end time ended (Some going) all = by (nat_lt going.since time) refl
  where
    by : (b : Bool) → nat_lt going.since time ≡ b → EndsLater (if b then span_until time going ∷ ended else ended)
    by true so =
        All-cons (λ (span : Span). 1 ≤ span.to) (span_until time going) ended (let after : going.since < time = ltb-true going.since time so in omega arith) all
    by false so = all

later_by : (time : ℕ) (now : Option Thread) (spans : Spans) → EndsLater spans.ended → EndsLater (spans_by time now spans).ended
later_by time now spans all = by (is_same now spans.going)
  where
    by : (b : Bool) → EndsLater (if b then spans else record { ended = ended_at time spans; going = going_from time now }).ended
    by true = all
    by false = later_end time spans.ended spans.going all

later_after : (asked : Asked) (processor : ℕ) (past : List Said) → EndsLater (spans_after asked processor past).ended
later_after asked processor [] = All-nil (λ (span : Span). 1 ≤ span.to)
later_after asked processor (Stamped event ∷ past) =
    later_by event.time (in_the_way asked processor (Stamped event ∷ past)) (spans_after asked processor past) (later_after asked processor past)
later_after asked processor (Lost other since ∷ past) = later_by (last_time past) None (spans_after asked processor past) (later_after asked processor past)
later_after asked processor (Nothing ∷ past) = later_after asked processor past

none_forgotten : (forgotten rest ended : List Span) → reverse ended ≡ forgotten ++ rest → EndsLater ended → All (λ span. span.to ≤ 0) forgotten → forgotten ≡ []
none_forgotten [] rest ended same later early = refl
none_forgotten (span ∷ forgotten) rest ended same later early =
    let all : EndsLater (span ∷ (forgotten ++ rest)) =
    subst EndsLater same (All-permutation (λ (one : Span). 1 ≤ one.to) ended (reverse ended) (IsPermutation-reverse ended) later) in
    let first : 1 ≤ span.to = All-head (λ (one : Span). 1 ≤ one.to) span (forgotten ++ rest) all in
    let none : span.to ≤ 0 = All-head (λ (one : Span). one.to ≤ 0) span forgotten early in
    absurd (omega (arith, first, none))

ended_of : (asked : Asked) (past : List Said) (boundary until : ℕ) (kept : OthersKept) (others : Option ℕ) → boundary ≤ 0 → until ≡ last_asked asked past →
    of_wanted asked (up_to asked.to past) boundary kept others →
    spans_at others until kept ≡ (elim others as (λ _. List Span) [ None ↦ [] | Some processor ↦ spans_on asked past processor ])
ended_of asked past boundary until kept None none until_is is = refl
ended_of asked past boundary until kept (Some processor) none until_is is =
    let early : All (λ span. span.to ≤ 0) is.forgotten =
    All-weaker (λ (span : Span). span.to ≤ boundary) (λ (span : Span). span.to ≤ 0) (λ span soon. omega (arith, soon)) is.forgotten is.earlier in
    let nothing : is.forgotten ≡ [] =
    none_forgotten is.forgotten (map span_read kept.spans.items) (spans_after asked processor (up_to asked.to past)).ended is.spans
    (later_after asked processor (up_to asked.to past)) early in
    ap (λ (time : ℕ). reverse (ended_at time (spans_kept kept))) until_is
    ∙ ap (λ (first : List Span). first ++ reverse (ended_at (last_asked asked past) (spans_kept kept))) (sym nothing)
    ∙ sym (closed_spans asked (up_to asked.to past) boundary processor (last_asked asked past) kept is)

pub others_ended : (asked : Asked) (past : List Said) (boundary until : ℕ) (kept : OthersKept) → boundary ≤ 0 → until ≡ last_asked asked past →
    AreOthersOf asked (up_to asked.to past) boundary kept → spans_at asked.others until kept ≡ others_of asked past
others_ended asked past boundary until kept none until_is is = ended_of asked past boundary until kept asked.others none until_is is
