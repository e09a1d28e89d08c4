-- One line more: times go on, and what a loss reaches back to is the same among the lines that count.
use Rattle.yds_model.proofs.Common.{◌≡◌, ◌∙◌, ℕ, ◌+◌, ◌<◌, ◌≤◌, ◌==◌, ◌&&◌, List, [], ◌∷◌, min, Bool, true, false, nat_lt, nat_le, if◌then◌else◌, Option, Some, None, unwrap_or, refl, sym, ap, arith, ltb-true, leb-true, leb-false, lt-ltb, le-leb, cond_both}
use Rattle.yds_kernel.specs.declared.loss.Since.{Since}
use Rattle.yds_kernel.specs.declared.loss.Since.TheVariants as since
use Rattle.yds_kernel.specs.Event.{Happening, Switch, WakeUp, Speed, Loss, Marker, Other, Event, Said, Stamped, Lost, Nothing}
use Rattle.yds_trace.specs.Asked.{is_before_to, is_within_to}
use Rattle.yds_trace.specs.Past.{first_time, last_time, last_time_on, lost_since, is_loss, is_switch, last_switch, lines_since, counts, is_first_switch, stayed, up_to_time, up_to}
use Rattle.yds_trace_laws.proofs.Sharing.{AreBy, GoesOn, all_by, counted_by}

-- # Up to when it is asked

-- a time, but `to` where that is before it
abbrev pub until : Option ℕ → ℕ → ℕ
until None time = time
until (Some to) time = min to time

-- a time, but one after `to` where that is before it
abbrev pub beyond : Option ℕ → ℕ → ℕ
beyond None time = time
beyond (Some to) time = min (to + 1) time

abbrev GoesFrom : Option ℕ → ℕ → ℕ → Type 0
GoesFrom to before time = is_before_to to time ≡ true → before ≤ time

pub until_goes_on : (to : Option ℕ) (before time : ℕ) → GoesFrom to before time → until to before ≤ until to time
until_goes_on None before time goes = goes refl
until_goes_on (Some to) before time goes = by (nat_le time to) refl
  where
    by : (b : Bool) → nat_le time to ≡ b → min to before ≤ min to time
    by true is = omega (arith, goes is)
    by false is = omega (arith, leb-false time to is)

pub beyond_goes_on : (to : Option ℕ) (before time least : ℕ) → GoesFrom to before time → beyond to least ≤ before → beyond to least ≤ time
beyond_goes_on None before time least goes reached = omega (arith, goes refl, reached)
beyond_goes_on (Some to) before time least goes reached = by (nat_le time to) refl
  where
    by : (b : Bool) → nat_le time to ≡ b → min (to + 1) least ≤ time
    by true is = omega (arith, goes is, reached)
    by false is = omega (arith, leb-false time to is)

pub beyond_reached : (to : Option ℕ) (least time : ℕ) → is_before_to to time ≡ true → beyond to least ≤ time → least ≤ time
beyond_reached None least time before reached = reached
beyond_reached (Some to) least time before reached = omega (arith, leb-true time to before, reached)

pub until_before : (to : Option ℕ) (time : ℕ) → is_before_to to time ≡ true → until to time ≡ time
until_before None time before = refl
until_before (Some to) time before = omega (arith, leb-true time to before)

pub until_most : (to : Option ℕ) (time : ℕ) → until to time ≤ time
until_most None time = omega arith
until_most (Some to) time = omega arith

-- # What lies in the past

-- a time before another that isn't after `to`
earlier : (to : Option ℕ) (one time : ℕ) → one ≤ time → is_before_to to time ≡ true → is_before_to to one ≡ true
earlier None one time within before = refl
earlier (Some to) one time within before = le-leb one to (omega (arith, within, leb-true time to before))

-- No time of these lines is after the last one, as far as that isn't after `to`.
pub first_by : (to : Option ℕ) (past : List Said) (here time : ℕ) → GoesOn to past → last_time past ≤ time → here ≤ time → is_before_to to time ≡ true →
    first_time here past ≤ time
first_by to [] here time goes last within before = within
first_by to (Stamped event ∷ past) here time goes last within before =
    first_by to past event.time time goes.1 (omega (arith, last, goes.0 (earlier to event.time time last before))) last before
first_by to (Lost other reach ∷ past) here time goes last within before = first_by to past here time goes last within before
first_by to (Nothing ∷ past) here time goes last within before = first_by to past here time goes last within before

if_by : (b : Bool) (time one : ℕ) (o : Option ℕ) → one ≤ time → unwrap_or o 0 ≤ time → unwrap_or (if b then Some one else o) 0 ≤ time
if_by true time one o first second = first
if_by false time one o first second = second

on_by : (to : Option ℕ) (past : List Said) (processor time : ℕ) → GoesOn to past → last_time past ≤ time → is_before_to to time ≡ true →
    unwrap_or (last_time_on processor past) 0 ≤ time
on_by to [] processor time goes last before = omega arith
on_by to (Stamped event ∷ past) processor time goes last before =
    if_by (event.processor == processor) time event.time (last_time_on processor past) last
    (on_by to past processor time goes.1 (omega (arith, last, goes.0 (earlier to event.time time last before))) before)
on_by to (Lost other reach ∷ past) processor time goes last before = on_by to past processor time goes last before
on_by to (Nothing ∷ past) processor time goes last before = on_by to past processor time goes last before

option_by : (time other : ℕ) (o : Option ℕ) → unwrap_or o 0 ≤ time → other ≤ time → unwrap_or o other ≤ time
option_by time other None first second = second
option_by time other (Some one) first second = first

pub lost_by_time : (to : Option ℕ) (past : List Said) (processor time : ℕ) (reach : Since) → GoesOn to past → last_time past ≤ time → is_before_to to time ≡ true →
    lost_since processor reach past ≤ time
lost_by_time to past processor time since.ItsLastLine goes last before =
    option_by time (first_time 0 past) (last_time_on processor past) (on_by to past processor time goes last before)
    (first_by to past 0 time goes last (omega arith) before)
lost_by_time to past processor time since.TheBegin goes last before = first_by to past 0 time goes last (omega arith) before

-- What is lost within what is asked for is lost since a time of that.
pub lost_by : (to : Option ℕ) (past : List Said) (processor : ℕ) (reach : Since) → GoesOn to past → is_within_to to (lost_since processor reach past) ≡ true →
    lost_since processor reach past ≤ until to (last_time past)
lost_by None past processor reach goes within = lost_by_time None past processor (last_time past) reach goes (omega arith) refl
lost_by (Some to) past processor reach goes within = by (nat_le (last_time past) to) refl
  where
    by : (b : Bool) → nat_le (last_time past) to ≡ b → lost_since processor reach past ≤ min to (last_time past)
    by true is = omega (arith, lost_by_time (Some to) past processor (last_time past) reach goes (omega arith) is, ltb-true (lost_since processor reach past) to within)
    by false is = omega (arith, leb-false (last_time past) to is, ltb-true (lost_since processor reach past) to within)

-- # Losses among the lines that count

-- the time of the first line with a stamp
abbrev pub or_this : ℕ → Option ℕ → Option ℕ
or_this time None = Some time
or_this time (Some first) = Some first

abbrev pub first_stamp : List Said → Option ℕ
first_stamp [] = None
first_stamp (Stamped event ∷ past) = or_this event.time (first_stamp past)
first_stamp (Lost processor reach ∷ past) = first_stamp past
first_stamp (Nothing ∷ past) = first_stamp past

this_first : (here time : ℕ) (o : Option ℕ) → unwrap_or o time ≡ unwrap_or (or_this time o) here
this_first here time None = refl
this_first here time (Some first) = refl

pub first_is : (here : ℕ) (past : List Said) → first_time here past ≡ unwrap_or (first_stamp past) here
first_is here [] = refl
first_is here (Stamped event ∷ past) = first_is event.time past ∙ this_first here event.time (first_stamp past)
first_is here (Lost processor reach ∷ past) = first_is here past
first_is here (Nothing ∷ past) = first_is here past

pub no_stamp : (past : List Said) (time : ℕ) → or_this time (first_stamp past) ≡ None → ⊥
no_stamp past time none = by (first_stamp past) none
  where
    by : (o : Option ℕ) → or_this time o ≡ None → ⊥
    by None none = cc none
    by (Some first) none = cc none

pub none_stamped : (to : ℕ) (past : List Said) → first_stamp past ≡ None → first_stamp (up_to_time to past) ≡ None
none_stamped to [] none = refl
none_stamped to (Stamped event ∷ past) none = absurd (no_stamp past event.time none)
none_stamped to (Lost processor reach ∷ past) none =
    cond_both (nat_lt (lost_since processor reach past) to) (Lost processor reach ∷ up_to_time to past) (up_to_time to past) (λ (l : List Said). first_stamp l ≡ None)
    (λ is. none_stamped to past none) (λ is. none_stamped to past none)
none_stamped to (Nothing ∷ past) none = none_stamped to past none

-- without a line with a stamp there is none of any processor
none_on : (processor : ℕ) (past : List Said) → first_stamp past ≡ None → last_time_on processor past ≡ None
none_on processor [] none = refl
none_on processor (Stamped event ∷ past) none = absurd (no_stamp past event.time none)
none_on processor (Lost other reach ∷ past) none = none_on processor past none
none_on processor (Nothing ∷ past) none = none_on processor past none

this_some : (time : ℕ) (o : Option ℕ) (first : ℕ) → o ≡ Some first → or_this time o ≡ Some first
this_some time o first is = ap (or_this time) is

-- a stamp in front changes nothing where there was one
stayed_first : (to processor : ℕ) (happening : Happening) (counting : List Said) (first : ℕ) → first_stamp counting ≡ Some first →
    first_stamp (stayed to processor happening ∷ counting) ≡ Some first
stayed_first to processor (Switch previous state next) counting first is = this_some to (first_stamp counting) first is
stayed_first to processor (WakeUp thread starts) counting first is = is
stayed_first to processor (Speed other khz) counting first is = is
stayed_first to processor Loss counting first is = is
stayed_first to processor Marker counting first is = is
stayed_first to processor Other counting first is = is

-- the first line with a stamp counts where it is before `to`
counts_first : (to : ℕ) (event : Event) (past : List Said) → first_stamp past ≡ None → event.time < to → counts to event past ≡ true
counts_first to event past none within =
    let from_none : lost_since event.processor since.ItsLastLine past ≡ 0 =
    ap (λ (o : Option ℕ). unwrap_or o (first_time 0 past)) (none_on event.processor past none) ∙ first_is 0 past ∙ ap (λ (o : Option ℕ). unwrap_or o 0) none in
    by (is_loss event.happening) (lost_since event.processor since.ItsLastLine past) from_none
  where
    by : (b : Bool) (lost : ℕ) → lost ≡ 0 → (if b then nat_lt lost to else nat_le event.time to) ≡ true
    by true lost is = lt-ltb lost to (omega (arith, is, within))
    by false lost is = le-leb event.time to (omega (arith, within))

first_counted : (to first : ℕ) (past : List Said) → first_stamp past ≡ Some first → first < to → first_stamp (up_to_time to past) ≡ Some first
first_counted to first [] is within = cc is
first_counted to first (Stamped event ∷ past) is within = by (first_stamp past) refl (λ some. first_counted to first past some within)
  where
    by : (o : Option ℕ) → first_stamp past ≡ o → (first_stamp past ≡ Some first → first_stamp (up_to_time to past) ≡ Some first) →
        first_stamp (up_to_time to (Stamped event ∷ past)) ≡ Some first
    by None none again =
        let mine : or_this event.time None ≡ Some first = ap (or_this event.time) (sym none) ∙ is in
        let time : event.time ≡ first = cc mine in
        ap (λ (b : Bool). first_stamp (if b then Stamped event ∷ up_to_time to past else
        (if is_first_switch event (up_to_time to past) then stayed to event.processor event.happening ∷ up_to_time to past else up_to_time to past)))
        (counts_first to event past none (omega (arith, time, within)))
        ∙ ap (or_this event.time) (none_stamped to past none) ∙ ap Some time
    by (Some other) some again =
        let mine : or_this event.time (Some other) ≡ Some first = ap (or_this event.time) (sym some) ∙ is in
        let same : first_stamp past ≡ Some first = some ∙ mine in
        let rest : first_stamp (up_to_time to past) ≡ Some first = again same in
        cond_both (counts to event past) (Stamped event ∷ up_to_time to past)
        (if is_first_switch event (up_to_time to past) then stayed to event.processor event.happening ∷ up_to_time to past else up_to_time to past)
        (λ (l : List Said). first_stamp l ≡ Some first)
        (λ yes. this_some event.time (first_stamp (up_to_time to past)) first rest)
        (λ no. cond_both (is_first_switch event (up_to_time to past)) (stayed to event.processor event.happening ∷ up_to_time to past) (up_to_time to past) (λ (l : List Said). first_stamp l ≡ Some first)
        (λ yes. stayed_first to event.processor event.happening (up_to_time to past) first rest) (λ other. rest))
first_counted to first (Lost processor reach ∷ past) is within =
    cond_both (nat_lt (lost_since processor reach past) to) (Lost processor reach ∷ up_to_time to past) (up_to_time to past) (λ (l : List Said). first_stamp l ≡ Some first)
    (λ yes. first_counted to first past is within) (λ no. first_counted to first past is within)
first_counted to first (Nothing ∷ past) is within = first_counted to first past is within

first_same : (to : ℕ) (past : List Said) → first_time 0 past < to → first_time 0 (up_to_time to past) ≡ first_time 0 past
first_same to past within = by (first_stamp past) refl
  where
    by : (o : Option ℕ) → first_stamp past ≡ o → first_time 0 (up_to_time to past) ≡ first_time 0 past
    by None none =
        first_is 0 (up_to_time to past) ∙ ap (λ (o : Option ℕ). unwrap_or o 0) (none_stamped to past none ∙ sym none) ∙ sym (first_is 0 past)
    by (Some first) some =
        let time : first_time 0 past ≡ first = first_is 0 past ∙ ap (λ (o : Option ℕ). unwrap_or o 0) some in
        first_is 0 (up_to_time to past)
        ∙ ap (λ (o : Option ℕ). unwrap_or o 0) (first_counted to first past some (omega (arith, time, within)) ∙ sym some)
        ∙ sym (first_is 0 past)

-- ---- a processor's last line

stayed_on : (to processor on : ℕ) (happening : Happening) (counting : List Said) → (on == processor) ≡ false →
    last_time_on processor (stayed to on happening ∷ counting) ≡ last_time_on processor counting
stayed_on to processor on (Switch previous state next) counting other = ap (λ (b : Bool). if b then Some to else last_time_on processor counting) other
stayed_on to processor on (WakeUp thread starts) counting other = refl
stayed_on to processor on (Speed one khz) counting other = refl
stayed_on to processor on Loss counting other = refl
stayed_on to processor on Marker counting other = refl
stayed_on to processor on Other counting other = refl

-- a line of another processor
other_on : (to processor : ℕ) (event : Event) (past : List Said) → (event.processor == processor) ≡ false →
    last_time_on processor (up_to_time to (Stamped event ∷ past)) ≡ last_time_on processor (up_to_time to past)
other_on to processor event past other =
    cond_both (counts to event past) (Stamped event ∷ up_to_time to past)
    (if is_first_switch event (up_to_time to past) then stayed to event.processor event.happening ∷ up_to_time to past else up_to_time to past)
    (λ (l : List Said). last_time_on processor l ≡ last_time_on processor (up_to_time to past))
    (λ yes. ap (λ (b : Bool). if b then Some event.time else last_time_on processor (up_to_time to past)) other)
    (λ no. cond_both (is_first_switch event (up_to_time to past)) (stayed to event.processor event.happening ∷ up_to_time to past) (up_to_time to past) (λ (l : List Said). last_time_on processor l ≡ last_time_on processor (up_to_time to past))
    (λ yes. stayed_on to processor event.processor event.happening (up_to_time to past) other) (λ none. refl))

lost_on : (to processor : ℕ) (reach : Since) (on : ℕ) (past : List Said) → last_time_on on (up_to_time to (Lost processor reach ∷ past)) ≡ last_time_on on (up_to_time to past)
lost_on to processor reach on past =
    cond_both (nat_lt (lost_since processor reach past) to) (Lost processor reach ∷ up_to_time to past) (up_to_time to past)
    (λ (l : List Said). last_time_on on l ≡ last_time_on on (up_to_time to past)) (λ yes. refl) (λ no. refl)

-- a line before `to` counts
counts_before : (to : ℕ) (event : Event) (past : List Said) → GoesOn (Some to) past → (nat_le event.time to ≡ true → last_time past ≤ event.time) → event.time < to →
    counts to event past ≡ true
counts_before to event past goes on within =
    let before : nat_le event.time to ≡ true = le-leb event.time to (omega (arith, within)) in
    by (is_loss event.happening) (lost_since event.processor since.ItsLastLine past)
    (lost_by_time (Some to) past event.processor event.time since.ItsLastLine goes (on before) before)
  where
    by : (b : Bool) (lost : ℕ) → lost ≤ event.time → (if b then nat_lt lost to else nat_le event.time to) ≡ true
    by true lost is = lt-ltb lost to (omega (arith, is, within))
    by false lost is = le-leb event.time to (omega (arith, within))

on_counted : (to processor time : ℕ) (past : List Said) → GoesOn (Some to) past → last_time_on processor past ≡ Some time → time < to →
    last_time_on processor (up_to_time to past) ≡ Some time
on_counted to processor time [] goes is within = cc is
on_counted to processor time (Stamped event ∷ past) goes is within = by (event.processor == processor) refl (λ some. on_counted to processor time past goes.1 some within)
  where
    by : (b : Bool) → (event.processor == processor) ≡ b → (last_time_on processor past ≡ Some time → last_time_on processor (up_to_time to past) ≡ Some time) →
        last_time_on processor (up_to_time to (Stamped event ∷ past)) ≡ Some time
    by true mine again =
        let last : Some event.time ≡ Some time = sym (ap (λ (b : Bool). if b then Some event.time else last_time_on processor past) mine) ∙ is in
        let same : event.time ≡ time = cc last in
        ap (λ (b : Bool). last_time_on processor (if b then Stamped event ∷ up_to_time to past else
        (if is_first_switch event (up_to_time to past) then stayed to event.processor event.happening ∷ up_to_time to past else up_to_time to past)))
        (counts_before to event past goes.1 goes.0 (omega (arith, same, within)))
        ∙ ap (λ (b : Bool). if b then Some event.time else last_time_on processor (up_to_time to past)) mine ∙ last
    by false other again =
        other_on to processor event past other ∙ again (sym (ap (λ (b : Bool). if b then Some event.time else last_time_on processor past) other) ∙ is)
on_counted to processor time (Lost other reach ∷ past) goes is within = lost_on to other reach processor past ∙ on_counted to processor time past goes is within
on_counted to processor time (Nothing ∷ past) goes is within = on_counted to processor time past goes is within

none_counted : (to processor : ℕ) (past : List Said) → last_time_on processor past ≡ None → last_time_on processor (up_to_time to past) ≡ None
none_counted to processor [] none = refl
none_counted to processor (Stamped event ∷ past) none = by (event.processor == processor) refl (none_counted to processor past)
  where
    by : (b : Bool) → (event.processor == processor) ≡ b → (last_time_on processor past ≡ None → last_time_on processor (up_to_time to past) ≡ None) →
        last_time_on processor (up_to_time to (Stamped event ∷ past)) ≡ None
    by true mine again =
        let both : Some event.time ≡ None = sym (ap (λ (b : Bool). if b then Some event.time else last_time_on processor past) mine) ∙ none in cc both
    by false other again =
        other_on to processor event past other ∙ again (sym (ap (λ (b : Bool). if b then Some event.time else last_time_on processor past) other) ∙ none)
none_counted to processor (Lost other reach ∷ past) none = lost_on to other reach processor past ∙ none_counted to processor past none
none_counted to processor (Nothing ∷ past) none = none_counted to processor past none

last_line_same : (to processor : ℕ) (past : List Said) → GoesOn (Some to) past → lost_since processor since.ItsLastLine past < to →
    lost_since processor since.ItsLastLine (up_to_time to past) ≡ lost_since processor since.ItsLastLine past
last_line_same to processor past goes within = by (last_time_on processor past) refl
  where
    by : (o : Option ℕ) → last_time_on processor past ≡ o →
        lost_since processor since.ItsLastLine (up_to_time to past) ≡ lost_since processor since.ItsLastLine past
    by None none =
        let first : lost_since processor since.ItsLastLine past ≡ first_time 0 past = ap (λ (o : Option ℕ). unwrap_or o (first_time 0 past)) none in
        ap (λ (o : Option ℕ). unwrap_or o (first_time 0 (up_to_time to past))) (none_counted to processor past none)
        ∙ first_same to past (omega (arith, first, within)) ∙ sym first
    by (Some time) some =
        let last : lost_since processor since.ItsLastLine past ≡ time = ap (λ (o : Option ℕ). unwrap_or o (first_time 0 past)) some in
        ap (λ (o : Option ℕ). unwrap_or o (first_time 0 (up_to_time to past))) (on_counted to processor time past goes some (omega (arith, last, within)))
        ∙ sym last

lost_since_same : (to processor : ℕ) (reach : Since) (past : List Said) → GoesOn (Some to) past → lost_since processor reach past < to →
    lost_since processor reach (up_to_time to past) ≡ lost_since processor reach past
lost_since_same to processor since.ItsLastLine past goes within = last_line_same to processor past goes within
lost_since_same to processor since.TheBegin past goes within = first_same to past within

-- A loss that counts reaches back as far among the lines that count as among all.
pub lost_same : (to : Option ℕ) (processor : ℕ) (reach : Since) (past : List Said) → GoesOn to past → is_within_to to (lost_since processor reach past) ≡ true →
    lost_since processor reach (up_to to past) ≡ lost_since processor reach past
lost_same None processor reach past goes within = refl
lost_same (Some to) processor reach past goes within = lost_since_same to processor reach past goes (ltb-true (lost_since processor reach past) to within)

-- # Since when a processor's lines are whole

-- It is no later than all lines.
pub lines_by : (time processor here : ℕ) (past : List Said) → here ≤ time → AreBy time past → lines_since processor here past ≤ time
lines_by time processor here [] within by = within
lines_by time processor here (Stamped event ∷ past) within by =
    which (is_loss event.happening) refl
    (λ other. lines_by time processor (if event.processor == processor then event.time else here) past (either (event.processor == processor) (by.0 other)) by.1)
  where
    either : (b : Bool) → event.time ≤ time → (if b then event.time else here) ≤ time
    either true now = now
    either false now = within

    which : (b : Bool) → is_loss event.happening ≡ b →
        (is_loss event.happening ≡ false → lines_since processor (if event.processor == processor then event.time else here) past ≤ time) →
        (if b then here else lines_since processor (if event.processor == processor then event.time else here) past) ≤ time
    which true loss rest = within
    which false other rest = rest other
lines_by time processor here (Lost other reach ∷ past) within by = within
lines_by time processor here (Nothing ∷ past) within by = lines_by time processor here past within by

-- A processor's last switch is no later than all lines.
switch_by : (time processor : ℕ) (past : List Said) → AreBy time past → unwrap_or (last_switch processor past) 0 ≤ time
switch_by time processor [] by = omega arith
switch_by time processor (Stamped event ∷ past) by =
    which (is_loss event.happening) refl (is_switch event.happening && (event.processor == processor)) (switch_by time processor past by.1)
  where
    which : (b : Bool) → is_loss event.happening ≡ b → (c : Bool) → unwrap_or (last_switch processor past) 0 ≤ time →
        unwrap_or (if b then None else (if c then Some event.time else last_switch processor past)) 0 ≤ time
    which true loss c rest = omega arith
    which false other true rest = by.0 other
    which false other false rest = rest
switch_by time processor (Lost other reach ∷ past) by = omega arith
switch_by time processor (Nothing ∷ past) by = switch_by time processor past by

-- Nor is the time since when it tells.
pub told_by : (time processor here : ℕ) (past : List Said) → here ≤ time → AreBy time past →
    unwrap_or (last_switch processor past) (lines_since processor here past) ≤ time
told_by time processor here past within by =
    option_by time (lines_since processor here past) (last_switch processor past) (switch_by time processor past by) (lines_by time processor here past within by)

-- Behind a line that isn't after `to` all that count are by its time.
pub counting_by : (to : Option ℕ) (past : List Said) (time : ℕ) → GoesOn to past → last_time past ≤ time → is_before_to to time ≡ true → AreBy time (up_to to past)
counting_by None past time goes last before = all_by past time goes last
counting_by (Some to) past time goes last before = counted_by to time past goes (leb-true time to before) last

-- It isn't earlier from an earlier time on, unless that is earlier still.
pub lines_from : (boundary processor here later : ℕ) (past : List Said) → boundary ≤ here → boundary ≤ lines_since processor later past →
    boundary ≤ lines_since processor here past
lines_from boundary processor here later [] low from = low
lines_from boundary processor here later (Stamped event ∷ past) low from =
    which (is_loss event.happening) from (λ rest. same (event.processor == processor) (λ other. lines_from boundary processor here later past low other) rest)
  where
    same : (b : Bool) → (boundary ≤ lines_since processor later past → boundary ≤ lines_since processor here past) →
        boundary ≤ lines_since processor (if b then event.time else later) past → boundary ≤ lines_since processor (if b then event.time else here) past
    same true passes from = from
    same false passes from = passes from

    which : (b : Bool) → boundary ≤ (if b then later else lines_since processor (if event.processor == processor then event.time else later) past) →
        (boundary ≤ lines_since processor (if event.processor == processor then event.time else later) past →
        boundary ≤ lines_since processor (if event.processor == processor then event.time else here) past) →
        boundary ≤ (if b then here else lines_since processor (if event.processor == processor then event.time else here) past)
    which true from passes = low
    which false from passes = passes from
lines_from boundary processor here later (Lost other reach ∷ past) low from = low
lines_from boundary processor here later (Nothing ∷ past) low from = lines_from boundary processor here later past low from
