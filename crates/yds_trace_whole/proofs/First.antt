-- The trace's first line stays the first, and no job begins before it, unless it is after `to`.
use Rattle.yds_model.proofs.Common.{◌≡◌, ◌∙◌, ℕ, ◌<◌, ◌≤◌, ◌⊎◌, inl, inr, List, [], ◌∷◌, min, Option, Some, None, unwrap_or, refl, sym, ap, subst, arith, recursion_from_All, le-leb, cases_lt}
use Rattle.std.specs.List.{AllByRecursion}
use Rattle.yds_kernel.specs.Event.{Said, Stamped, Lost, Nothing}
use Rattle.yds_trace.specs.Asked.{Asked}
use Rattle.yds_trace.specs.Past.{first_time, last_time, up_to}
use Rattle.yds_trace.specs.Jobs.{Job}
use Rattle.yds_trace.specs.Late.{last_asked}
use Rattle.yds_trace.specs.Document.{jobs_of}
use Rattle.yds_trace_laws.proofs.Begins.{HasBegin, begin_kept, begin_allowed, begin_ends}
use Rattle.yds_trace_laws.proofs.Holding.{AllowsEach, WhereCounts, counting_allows, each_job}
use Rattle.yds_trace_laws.proofs.Runs.{all_weaker}
use Rattle.yds_trace_laws.proofs.Sharing.{GoesOn, counts_by}
use Rattle.yds_trace_whole.proofs.Lines.{first_by, first_stamp, first_is, no_stamp, none_stamped}

-- The first line stays, and the job begins behind it, or it is after all that is asked for.
abbrev pub IsFrom : Asked → List Said → List Said → Job → Type 0
IsFrom asked past next job =
    (first_time 0 next ≡ first_time 0 past) × ((first_time 0 past ≤ job.begin) ⊎ (last_asked asked next < first_time 0 past))

-- One line more leaves the first line as it is.
first_stays : (said : Said) (past : List Said) (first : ℕ) → first_stamp past ≡ Some first → first_time 0 (said ∷ past) ≡ first_time 0 past
first_stays (Stamped event) past first some =
    first_is event.time past ∙ ap (λ (o : Option ℕ). unwrap_or o event.time) some
    ∙ sym (first_is 0 past ∙ ap (λ (o : Option ℕ). unwrap_or o 0) some)
first_stays (Lost processor reach) past first some = refl
first_stays Nothing past first some = refl

-- # What begins where

-- its begin isn't before this time
abbrev IsBehind : ℕ → Job → Type 0
IsBehind first = HasBegin (λ begin. first ≤ begin)

-- Without `to` no line is before the first one.
lines_allow : (here first : ℕ) (past : List Said) → GoesOn None past → first ≤ first_time here past → AllowsEach (IsBehind first) past
lines_allow here first [] goes from = tt
lines_allow here first (Stamped event ∷ past) goes from =
    let behind : first ≤ event.time = omega (arith, from, first_by None past event.time event.time goes.1 (goes.0 refl) (omega arith) refl) in (
      (λ loss. begin_allowed (λ begin. first ≤ begin) event.time behind, begin_ends (λ begin. first ≤ begin) event.happening),
      lines_allow event.time first past goes.1 from,
    )
lines_allow here first (Lost processor reach ∷ past) goes from = (tt, lines_allow here first past goes from)
lines_allow here first (Nothing ∷ past) goes from = (tt, lines_allow here first past goes from)

-- With `to` none is that counts.
counting_from : (to here first : ℕ) (past : List Said) → GoesOn (Some to) past → first ≤ first_time here past → WhereCounts (IsBehind first) to past
counting_from to here first [] goes from = tt
counting_from to here first (Stamped event ∷ past) goes from = (
  λ counting. (
    λ other.
        let before = le-leb event.time to (counts_by to event past counting other) in
        begin_allowed (λ begin. first ≤ begin) event.time (omega (arith, from, first_by (Some to) past event.time event.time goes.1 (goes.0 before) (omega arith) before)),
    begin_ends (λ begin. first ≤ begin) event.happening,
  ),
  counting_from to event.time first past goes.1 from,
)
counting_from to here first (Lost processor reach ∷ past) goes from = counting_from to here first past goes from
counting_from to here first (Nothing ∷ past) goes from = counting_from to here first past goes from

-- Without a line with a stamp no job begins.
none_allow : (P : Job → Type 0) (past : List Said) → first_stamp past ≡ None → AllowsEach P past
none_allow P [] none = tt
none_allow P (Stamped event ∷ past) none = absurd (no_stamp past event.time none)
none_allow P (Lost processor reach ∷ past) none = (tt, none_allow P past none)
none_allow P (Nothing ∷ past) none = (tt, none_allow P past none)

-- nor is there one among the lines that count
none_counts : (to : Option ℕ) (past : List Said) → first_stamp past ≡ None → first_stamp (up_to to past) ≡ None
none_counts None past none = none
none_counts (Some to) past none = none_stamped to past none

-- # Each job

-- what each job is that begins at such a time
each_from : (asked : Asked) (said : Said) (past : List Said) (number : ℕ) (P : ℕ → Type 0) → ((job : Job) → P job.begin → IsFrom asked past (said ∷ past) job) →
    AllowsEach (HasBegin P) (up_to asked.to past) → AllByRecursion (IsFrom asked past (said ∷ past)) (jobs_of asked past number)
each_from asked said past number P so each =
    all_weaker (HasBegin P) (IsFrom asked past (said ∷ past)) so (jobs_of asked past number)
    (recursion_from_All (HasBegin P) (jobs_of asked past number) (each_job (HasBegin P) (begin_kept P) asked past number each))

-- Each job begins behind the first line, which one line more leaves as it is.
pub jobs_from : (asked : Asked) (said : Said) (past : List Said) (number : ℕ) → GoesOn asked.to past → AllByRecursion (IsFrom asked past (said ∷ past)) (jobs_of asked past number)
jobs_from asked said past number goes = by (first_stamp past) refl
  where
    Each : Type 0
    Each = AllByRecursion (IsFrom asked past (said ∷ past)) (jobs_of asked past number)

    first : ℕ
    first = first_time 0 past

    behind : (first_time 0 (said ∷ past) ≡ first_time 0 past) → AllowsEach (IsBehind first) (up_to asked.to past) → Each
    behind stays each = each_from asked said past number (λ begin. first ≤ begin) (λ job is. (stays, inl is)) each

    always : (first_time 0 (said ∷ past) ≡ first_time 0 past) → last_asked asked (said ∷ past) < first → (jobs : List Job) →
        AllByRecursion (IsFrom asked past (said ∷ past)) jobs
    always stays less [] = tt
    always stays less (job ∷ jobs) = ((stays, inr less), always stays less jobs)

    asked_to : (to : Option ℕ) → asked.to ≡ to → (first_time 0 (said ∷ past) ≡ first_time 0 past) → Each
    asked_to None is stays =
        behind stays (subst (λ (to : Option ℕ). AllowsEach (IsBehind first) (up_to to past)) (sym is)
        (lines_allow 0 first past (subst (λ (to : Option ℕ). GoesOn to past) is goes) (omega arith)))
    asked_to (Some to) is stays = which (cases_lt to first)
      where
        which : (to < first) ⊎ (first ≤ to) → Each
        which (inl less) =
            let most : last_asked asked (said ∷ past) ≤ to =
            subst (λ (o : Option ℕ). (elim o as (λ _. ℕ) [ None ↦ last_time (said ∷ past) | Some end ↦ min end (last_time (said ∷ past)) ]) ≤ to) (sym is) (omega arith) in
            always stays (omega (arith, most, less)) (jobs_of asked past number)
        which (inr reached) =
            behind stays (subst (λ (o : Option ℕ). AllowsEach (IsBehind first) (up_to o past)) (sym is)
            (counting_allows (IsBehind first) to past (begin_allowed (λ begin. first ≤ begin) to reached)
            (counting_from to 0 first past (subst (λ (o : Option ℕ). GoesOn o past) is goes) (omega arith))))

    by : (o : Option ℕ) → first_stamp past ≡ o → Each
    by None none =
        each_from asked said past number (λ begin. ⊥) (λ job none. absurd none) (none_allow (HasBegin (λ begin. ⊥)) (up_to asked.to past) (none_counts asked.to past none))
    by (Some time) some = asked_to asked.to refl (first_stays said past time some)
