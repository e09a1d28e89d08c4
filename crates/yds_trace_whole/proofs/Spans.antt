-- Who else had the processor: what a part tells of it stays so behind all further lines.
use Rattle.yds_model.proofs.Common.{◌≡◌, ◌∙◌, ℕ, ◌<◌, ◌≤◌, ◌⊎◌, inl, inr, List, [], ◌∷◌, ◌++◌, filter, filter_map, reverse, max, min, cond, Bool, true, false, nat_lt, nat_le, if◌then◌else◌, Option, Some, None, refl, sym, ap, subst, arith, le-ltb, lt-ltb, le-leb, ltb-true, ltb-false, leb-false, append-nil, reverse-append, filter_map-append, All-from_recursion, AllByRecursion, cases_lt, cond_both}
use Rattle.std.specs.List.{cons_option}
use Rattle.yds_kernel.specs.declared.loss.Since.TheVariants as since
use Rattle.yds_kernel.specs.Event.{Thread, Event, Said, Stamped, Lost, Nothing}
use Rattle.yds_trace.specs.declared.cut.Cut.{Cut}
use Rattle.yds_trace.specs.Asked.{Asked, is_within_to}
use Rattle.yds_trace.specs.Past.{last_time, lost_since, is_loss, is_first_switch, stayed, up_to_time, up_to}
use Rattle.yds_trace.specs.Late.{last_asked}
use Rattle.yds_trace.specs.Document.{Judged}
use Rattle.yds_trace.specs.Others.{Span, Going, Spans, shortened, spans_on, in_the_way, is_same, span_until, ended_at, going_from, spans_by, spans_after, others_of, goes_behind, earlier_of, span_within, spans_within}
use Rattle.yds_trace.specs.Parts.{part_until, place_of, with_part, cut_at, cut_after, no_cut, part_fault}
use Rattle.yds_trace.proofs.UpTo.{up_to_lost}
use Rattle.yds_trace_laws.proofs.Ordered.{append-all}
use Rattle.yds_trace_laws.proofs.Runs.{all_weaker}
use Rattle.yds_trace_laws.proofs.Sharing.{GoesOn, lines_go_on}
use Rattle.yds_trace_whole.specs.Parts.{Part, made, made_with, made_at, parts_behind, parts_of, KeepsParts}
use Rattle.yds_trace_whole.specs.Whole.{begin_of_part, HasItsSpans}
use Rattle.yds_trace_whole.specs.Laws.{SpansAreTheWhole}
use Rattle.yds_trace_whole.proofs.Lines.{until as until_to, lost_by_time}
use Rattle.yds_trace_whole.proofs.Holding.{staying, by_counting, now_is, now_goes_on, goes_behind as goes_before, lost_kept}
use Rattle.yds_trace_whole.proofs.Parting.{IsPlace, place_is, Stands, at_first, part_more, line_more, own_nothing}

-- # Lists

back : {A B : Type 0} (f : A → Option B) (xs : List A) → filter_map f (reverse xs) ≡ reverse (filter_map f xs)
back f [] = refl
back {A} {B} f (x ∷ xs) =
    ap (filter_map f) (reverse-append (x ∷ []) xs) ∙ filter_map-append f (reverse xs) (x ∷ [])
    ∙ ap (λ (l : List B). l ++ filter_map f (x ∷ [])) (back f xs) ∙ by (f x)
  where
    by : (o : Option B) → reverse (filter_map f xs) ++ cons_option o [] ≡ reverse (cons_option o (filter_map f xs))
    by None = append-nil (reverse (filter_map f xs))
    by (Some y) = sym (reverse-append (y ∷ []) (filter_map f xs))

-- # What is told of spans up to a time

-- What of one that goes on is told, where it goes on until then.
abbrev until_then : ℕ → ℕ → Going → Option Span
until_then from until going =
    if nat_lt (max from going.since) until then Some (record { name = going.name; pid = going.pid; from = max from going.since; to = until }) else None

abbrev told : ℕ → ℕ → Option Going → List Span → List Span
told from until None ended = spans_within from (Some until) ended
told from until (Some going) ended = cons_option (until_then from until going) (spans_within from (Some until) ended)

-- one that begins at that time or later isn't told
none_then : (from until : ℕ) (going : Going) → until ≤ going.since → until_then from until going ≡ None
none_then from until going late =
    ap (λ (b : Bool). if b then Some (record { name = going.name; pid = going.pid; from = max from going.since; to = until }) else None)
    (let e : nat_lt (max from going.since) until ≡ false = le-ltb (max from going.since) until (omega (arith, late)) in e)

span_then : (from until time : ℕ) (going : Going) → until ≤ time → span_within from (Some until) (span_until time going) ≡ until_then from until going
span_then from until time going late =
    ap (λ (end : ℕ). if nat_lt (max from going.since) end then Some (record { name = going.name; pid = going.pid; from = max from going.since; to = end }) else None)
    (let e : min until time ≡ until = omega (arith, late) in e)

going_told : (from until time : ℕ) (going : Going) (ended : List Span) → until ≤ time →
    spans_within from (Some until) (if nat_lt going.since time then span_until time going ∷ ended else ended) ≡ told from until (Some going) ended
going_told from until time going ended late = by (nat_lt going.since time) refl
  where
    by : (b : Bool) → nat_lt going.since time ≡ b → spans_within from (Some until) (if b then span_until time going ∷ ended else ended) ≡ told from until (Some going) ended
    by true is = ap (λ (o : Option Span). cons_option o (spans_within from (Some until) ended)) (span_then from until time going late)
    by false is =
        ap (λ (o : Option Span). cons_option o (spans_within from (Some until) ended))
        (sym (none_then from until going (let since : time ≤ going.since = ltb-false going.since time is in omega (arith, late, since))))

-- It doesn't depend on when they are looked at.
ended_told : (from until time : ℕ) (spans : Spans) → until ≤ time → spans_within from (Some until) (ended_at time spans) ≡ told from until spans.going spans.ended
ended_told from until time spans late = by spans.going
  where
    by : (o : Option Going) → spans_within from (Some until) (elim o as (λ _. List Span) [
      | None ↦ spans.ended
      | Some going ↦ if nat_lt going.since time then span_until time going ∷ spans.ended else spans.ended
    ]) ≡ told from until o spans.ended
    by None = refl
    by (Some going) = going_told from until time going spans.ended late

-- Nor on a line that isn't before that time.
next_told : (from until time now : ℕ) (here : Option Thread) (spans : Spans) → until ≤ time → until ≤ now →
    spans_within from (Some until) (ended_at now (spans_by time here spans)) ≡ told from until spans.going spans.ended
next_told from until time now here spans late on =
    cond_both (is_same here spans.going) spans (record { ended = ended_at time spans; going = going_from time here })
    (λ (next : Spans). spans_within from (Some until) (ended_at now next) ≡ told from until spans.going spans.ended)
    (λ same. ended_told from until now spans on) (λ other. by here)
  where
    by : (thread : Option Thread) →
        spans_within from (Some until) (ended_at now (record { ended = ended_at time spans; going = going_from time thread })) ≡ told from until spans.going spans.ended
    by None = ended_told from until time spans late
    by (Some thread) =
        let going : Going = record { name = (shortened thread).name; pid = thread.pid; since = time } in
        going_told from until now going (ended_at time spans) on
        ∙ ap (λ (o : Option Span). cons_option o (spans_within from (Some until) (ended_at time spans))) (none_then from until going late)
        ∙ ended_told from until time spans late

-- # One line more

-- An event isn't before the time up to which it is asked.
event_late : (to : Option ℕ) (event : Event) (past : List Said) → GoesOn to (Stamped event ∷ past) → until_to to (last_time past) ≤ event.time
event_late None event past goes = goes.0 refl
event_late (Some to) event past goes = by (nat_le event.time to) refl
  where
    by : (b : Bool) → nat_le event.time to ≡ b → min to (last_time past) ≤ event.time
    by true is = omega (arith, goes.0 is)
    by false is = omega (arith, leb-false event.time to is)

until_end : (to : Option ℕ) (end time : ℕ) → to ≡ Some end → until_to to time ≤ end
until_end None end time is = cc
until_end (Some other) end time is = let same : other ≡ end = cc in omega (arith, same)

-- What was cut off is before the last line that counts, or `to` was reached when it was.
abbrev pub IsReached : Option ℕ → List Said → Cut → Type 0
IsReached None counting cut = cut.boundary ≤ last_time counting
IsReached (Some to) counting cut = (cut.boundary ≤ last_time counting) ⊎ (to ≤ cut.decided)

reached_by : (to : Option ℕ) (counting : List Said) (cut : Cut) → cut.boundary ≤ last_time counting → IsReached to counting cut
reached_by None counting cut by = by
reached_by (Some to) counting cut by = inl by

reached_still : (to : Option ℕ) (counting more : List Said) (cut : Cut) → last_time more ≡ last_time counting → IsReached to counting cut → IsReached to more cut
reached_still None counting more cut same reached = omega (arith, same, reached)
reached_still (Some to) counting more cut same (inl reached) = inl (omega (arith, same, reached))
reached_still (Some to) counting more cut same (inr decided) = inr decided

-- so a loss that counts comes behind it
lost_late : (to : Option ℕ) (counting : List Said) (cut : Cut) (since : ℕ) → IsReached to counting cut → is_within_to to since ≡ true → cut.decided ≤ since →
    cut.boundary ≤ last_time counting
lost_late None counting cut since reached within kept = reached
lost_late (Some to) counting cut since (inl reached) within kept = reached
lost_late (Some to) counting cut since (inr decided) within kept = omega (arith, decided, kept, ltb-true since to within)

module _ (asked : Asked) (processor from until : ℕ) where
  -- what is told up to that time, behind some lines of which these count
  abbrev told_by : ℕ → List Said → List Span
  told_by now counting = spans_within from (Some until) (ended_at now (spans_after asked processor counting))

  abbrev as_told : List Said → List Span
  as_told counting = told from until (spans_after asked processor counting).going (spans_after asked processor counting).ended

  line_told : (said : Said) (past : List Said) (cut : Cut) → GoesOn asked.to (said ∷ past) → part_fault asked past cut said ≡ None → until ≤ cut.boundary →
      cut.boundary ≤ last_asked asked past → IsReached asked.to (up_to asked.to past) cut →
      told_by (last_asked asked (said ∷ past)) (up_to asked.to (said ∷ past)) ≡ as_told (up_to asked.to past)
  line_told (Stamped event) past cut goes none early begun reached =
      let counting : List Said = up_to asked.to past in
      let now : ℕ = last_asked asked (Stamped event ∷ past) in
      let on : until ≤ now = omega (arith, early, begun, now_goes_on asked (Stamped event) past goes) in
      let late : until ≤ event.time = omega (arith, early, begun, now_is asked past, event_late asked.to event past goes) in
      by_counting asked.to event past (λ (lines : List Said). told_by now lines ≡ as_told counting)
      (λ loss other. next_told from until event.time now (in_the_way asked processor (Stamped event ∷ counting)) (spans_after asked processor counting) late on)
      (λ end previous state next is later happening first.
      next_told from until end now (in_the_way asked processor (Stamped (staying event.processor end previous) ∷ counting)) (spans_after asked processor counting)
      (omega (arith, early, begun, now_is asked past, until_end asked.to end (last_time past) is)) on)
      (ended_told from until now (spans_after asked processor counting) on)
  line_told (Lost other reach) past cut goes none early begun reached =
      let counting : List Said = up_to asked.to past in
      let now : ℕ = last_asked asked (Lost other reach ∷ past) in
      let on : until ≤ now = omega (arith, early, begun, now_goes_on asked (Lost other reach) past goes) in
      subst (λ (lines : List Said). told_by now lines ≡ as_told counting) (sym (up_to_lost asked.to other reach past))
      (cond_both (is_within_to asked.to (lost_since other reach past)) (Lost other reach ∷ counting) counting (λ (lines : List Said). told_by now lines ≡ as_told counting)
      (λ within. next_told from until (last_time counting) now None (spans_after asked processor counting)
      (let end : cut.boundary ≤ last_time counting = lost_late asked.to counting cut (lost_since other reach past) reached within (lost_kept asked past cut other reach none) in
      omega (arith, early, end)) on)
      (λ beyond. ended_told from until now (spans_after asked processor counting) on))
  line_told Nothing past cut goes none early begun reached =
      let now : ℕ = last_asked asked (Nothing ∷ past) in
      let on : until ≤ now = omega (arith, early, begun, now_goes_on asked Nothing past goes) in
      ap (λ (spans : Spans). spans_within from (Some until) (ended_at now spans)) (nothing_said asked.to)
      ∙ ended_told from until now (spans_after asked processor (up_to asked.to past)) on
    where
      nothing_said : (to : Option ℕ) → spans_after asked processor (up_to to (Nothing ∷ past)) ≡ spans_after asked processor (up_to to past)
      nothing_said None = refl
      nothing_said (Some to) = refl

-- So all that is told up to the cut stays.
others_same : (asked : Asked) (said : Said) (past : List Said) (cut : Cut) (from until : ℕ) → GoesOn asked.to (said ∷ past) → part_fault asked past cut said ≡ None →
    until ≤ cut.boundary → cut.boundary ≤ last_asked asked past → IsReached asked.to (up_to asked.to past) cut →
    spans_within from (Some until) (others_of asked (said ∷ past)) ≡ spans_within from (Some until) (others_of asked past)
others_same asked said past cut from until goes none early begun reached = by asked.others
  where
    by : (o : Option ℕ) → spans_within from (Some until) (elim o as (λ _. List Span) [ None ↦ [] | Some processor ↦ spans_on asked (said ∷ past) processor ])
        ≡ spans_within from (Some until) (elim o as (λ _. List Span) [ None ↦ [] | Some processor ↦ spans_on asked past processor ])
    by None = refl
    by (Some processor) =
        let counting : List Said = up_to asked.to past in
        back (span_within from (Some until)) (ended_at (last_asked asked (said ∷ past)) (spans_after asked processor (up_to asked.to (said ∷ past))))
        ∙ ap reverse (line_told asked processor from until said past cut goes none early begun reached
        ∙ sym (ended_told from until (last_asked asked past) (spans_after asked processor counting) (omega (arith, early, begun))))
        ∙ sym (back (span_within from (Some until)) (ended_at (last_asked asked past) (spans_after asked processor counting)))

reached_more : (asked : Asked) (said : Said) (past : List Said) (cut : Cut) → GoesOn asked.to (said ∷ past) → cut.boundary ≤ last_asked asked past →
    IsReached asked.to (up_to asked.to past) cut → IsReached asked.to (up_to asked.to (said ∷ past)) cut
reached_more asked (Stamped event) past cut goes begun reached =
    by_counting asked.to event past (λ (lines : List Said). IsReached asked.to lines cut)
    (λ loss other. reached_by asked.to (Stamped event ∷ up_to asked.to past) cut (omega (arith, begun, now_is asked past, event_late asked.to event past goes)))
    (λ end previous state next is later happening first.
    reached_by asked.to (Stamped (staying event.processor end previous) ∷ up_to asked.to past) cut
    (omega (arith, begun, now_is asked past, until_end asked.to end (last_time past) is)))
    reached
reached_more asked (Lost other reach) past cut goes begun reached =
    subst (λ (lines : List Said). IsReached asked.to lines cut) (sym (up_to_lost asked.to other reach past))
    (cond_both (is_within_to asked.to (lost_since other reach past)) (Lost other reach ∷ up_to asked.to past) (up_to asked.to past) (λ (lines : List Said). IsReached asked.to lines cut)
    (λ within. reached_still asked.to (up_to asked.to past) (Lost other reach ∷ up_to asked.to past) cut refl reached) (λ beyond. reached))
reached_more asked Nothing past cut goes begun reached = by asked.to reached
  where
    by : (to : Option ℕ) → IsReached to (up_to to past) cut → IsReached to (up_to to (Nothing ∷ past)) cut
    by None reached = reached
    by (Some to) reached = reached

-- # A cut

-- Before `to` each line with a stamp counts.
all_count : (to : ℕ) (past : List Said) → GoesOn (Some to) past → last_time past < to → last_time past ≤ last_time (up_to_time to past)
all_count to [] goes before = omega arith
all_count to (Stamped event ∷ past) goes before =
    let within : nat_le event.time to ≡ true = le-leb event.time to (omega (arith, before)) in
    let lost : lost_since event.processor since.ItsLastLine past ≤ event.time =
    lost_by_time (Some to) past event.processor event.time since.ItsLastLine goes.1 (goes.0 within) within in
    subst (λ (b : Bool). event.time ≤ last_time (if b then Stamped event ∷ up_to_time to past
    else (if is_first_switch event (up_to_time to past) then stayed to event.processor event.happening ∷ up_to_time to past else up_to_time to past)))
    (sym (counts_so (is_loss event.happening) lost within)) (omega arith)
  where
    counts_so : (b : Bool) → lost_since event.processor since.ItsLastLine past ≤ event.time → nat_le event.time to ≡ true →
        (if b then nat_lt (lost_since event.processor since.ItsLastLine past) to else nat_le event.time to) ≡ true
    counts_so true lost within = lt-ltb (lost_since event.processor since.ItsLastLine past) to (omega (arith, lost, before))
    counts_so false lost within = within
all_count to (Lost other reach ∷ past) goes before =
    cond_both (nat_lt (lost_since other reach past) to) (Lost other reach ∷ up_to_time to past) (up_to_time to past) (λ (lines : List Said). last_time past ≤ last_time lines)
    (λ within. all_count to past goes before) (λ beyond. all_count to past goes before)
all_count to (Nothing ∷ past) goes before = all_count to past goes before

new_reached : (to : Option ℕ) (past : List Said) (time : ℕ) (cut : Cut) → GoesOn to past → time ≤ until_to to (last_time past) → cut.boundary ≡ time →
    cut.decided ≡ last_time past → IsReached to (up_to to past) cut
new_reached None past time cut goes by at decided = omega (arith, by, at)
new_reached (Some to) past time cut goes by at decided = which (cases_lt (last_time past) to)
  where
    which : (last_time past < to) ⊎ (to ≤ last_time past) → IsReached (Some to) (up_to (Some to) past) cut
    which (inl before) = inl (omega (arith, by, at, all_count to past goes before))
    which (inr beyond) = inr (omega (arith, beyond, decided))

-- Spans that end by the cut are in no part behind it.
behind_cut : (boundary from : ℕ) (until : Option ℕ) (spans : List Span) → boundary ≤ from →
    spans_within from until (filter (goes_behind boundary) spans) ≡ spans_within from until spans
behind_cut boundary from until [] on = refl
behind_cut boundary from until (span ∷ spans) on = by (nat_lt boundary span.to) refl (behind_cut boundary from until spans on)
  where
    ends : (o : Option ℕ) → earlier_of o span.to ≤ span.to
    ends None = omega arith
    ends (Some time) = omega arith

    by : (b : Bool) → nat_lt boundary span.to ≡ b → spans_within from until (filter (goes_behind boundary) spans) ≡ spans_within from until spans →
        spans_within from until (cond b (span ∷ filter (goes_behind boundary) spans) (filter (goes_behind boundary) spans)) ≡ spans_within from until (span ∷ spans)
    by true is rest = ap (λ (l : List Span). cons_option (span_within from until span) l) rest
    by false is rest =
        rest ∙ ap (λ (b : Bool). cons_option (if b then Some (record span { from = max from span.from; to = earlier_of until span.to }) else None) (spans_within from until spans))
        (let e : false ≡ nat_lt (max from span.from) (earlier_of until span.to) =
        sym (le-ltb (max from span.from) (earlier_of until span.to) (let end : span.to ≤ boundary = ltb-false boundary span.to is in omega (arith, end, on, ends until))) in e)

-- # All lines

-- a part that was written
record HasSpansBy (asked : Asked) (past : List Said) (boundary : ℕ) (part : Part) : Type 0 where
  end : ℕ
  ends : part.until ≡ Some end
  early : end ≤ boundary
  are : part.settled.others ≡ spans_within (begin_of_part part) (Some end) (others_of asked past)

record Spanned (asked : Asked) (past : List Said) (cut : Cut) (parts : List Part) : Type 0 where
  stands : Stands asked past cut parts
  reached : IsReached asked.to (up_to asked.to past) cut
  spans : AllByRecursion (HasSpansBy asked past cut.boundary) parts

line_spanned : (asked : Asked) (said : Said) (past : List Said) (cut : Cut) (parts : List Part) → GoesOn asked.to (said ∷ past) → part_fault asked past cut said ≡ None →
    Spanned asked past cut parts → Spanned asked (said ∷ past) cut parts
line_spanned asked said past cut parts goes none spanned = record {
  stands = line_more asked said past cut parts goes none spanned.stands;
  reached = reached_more asked said past cut goes spanned.stands.begun spanned.reached;
  spans = all_weaker (HasSpansBy asked past cut.boundary) (HasSpansBy asked (said ∷ past) cut.boundary)
      (λ part is. record {
        end = is.end;
        ends = is.ends;
        early = is.early;
        are = is.are ∙ sym (others_same asked said past cut (begin_of_part part) is.end goes none is.early spanned.stands.begun spanned.reached);
      }) parts spanned.spans;
}

part_spanned : (asked : Asked) (past : List Said) (cut : Cut) (parts : List Part) (o : Option ℕ) → GoesOn asked.to past → place_of asked past cut ≡ o →
    Spanned asked past cut parts → Spanned asked past (cut_at asked past cut o) (parts ++ made_at asked past cut o)
part_spanned asked past cut parts None goes none spanned = record {
  stands = part_more asked past cut parts None none spanned.stands;
  reached = spanned.reached;
  spans = append-all (HasSpansBy asked past cut.boundary) parts [] spanned.spans tt;
}
part_spanned asked past cut parts (Some time) goes some spanned =
    let place : IsPlace asked past cut time = place_is asked past cut time spanned.stands.holds some in
    let now : Cut = with_part past time (part_until asked past cut (Some time)) cut in
    record {
      stands = part_more asked past cut parts (Some time) some spanned.stands;
      reached = new_reached asked.to past time now goes (omega (arith, place.by, now_is asked past)) refl refl;
      spans = append-all (HasSpansBy asked past time) parts (made_at asked past cut (Some time))
          (all_weaker (HasSpansBy asked past cut.boundary) (HasSpansBy asked past time)
          (λ part is. record { end = is.end; ends = is.ends; early = omega (arith, is.early, place.from); are = is.are }) parts spanned.spans)
          (by (part_until asked past cut (Some time)));
    }
  where
    by : (part : List Judged) → AllByRecursion (HasSpansBy asked past time) (made_with asked past cut time part)
    by [] = tt
    by (one ∷ part) = (
      record {
        end = time;
        ends = refl;
        early = omega arith;
        are = behind_cut cut.boundary (begin_of_part (made asked past cut (Some time))) (Some time) (others_of asked past) (omega arith);
      },
      tt,
    )

no_spans_yet : (asked : Asked) → Spanned asked [] no_cut []
no_spans_yet asked = record {
  stands = record { holds = λ number within. at_first asked number; begun = omega arith; decided = omega arith; same = own_nothing asked [] };
  reached = reached_by asked.to (up_to asked.to []) no_cut (omega arith);
  spans = tt;
}

all_spanned : (asked : Asked) (past : List Said) → GoesOn asked.to past → KeepsParts asked past → Spanned asked past (cut_after asked past) (parts_behind asked past)
all_spanned asked [] goes kept = no_spans_yet asked
all_spanned asked (said ∷ past) goes kept =
    let cut : Cut = cut_after asked past in
    part_spanned asked (said ∷ past) cut (parts_behind asked past) (place_of asked (said ∷ past) cut) goes refl
    (line_spanned asked said past cut (parts_behind asked past) goes kept.0 (all_spanned asked past (goes_before asked.to said past goes) kept.1))

-- the law
pub spans_are_the_whole : SpansAreTheWhole
spans_are_the_whole asked past none kept =
    let cut : Cut = cut_after asked past in
    let last : Part = made asked past cut None in
    All-from_recursion (HasItsSpans asked past) (parts_of asked past)
    (append-all (HasItsSpans asked past) (parts_behind asked past) (last ∷ [])
    (all_weaker (HasSpansBy asked past cut.boundary) (HasItsSpans asked past)
    (λ part is. record { are = is.are ∙ ap (λ (end : Option ℕ). spans_within (begin_of_part part) end (others_of asked past)) (sym is.ends) }) (parts_behind asked past)
    (all_spanned asked past (lines_go_on asked past none) kept).spans)
    (record { are = behind_cut cut.boundary (begin_of_part last) None (others_of asked past) (omega arith) }, tt))
