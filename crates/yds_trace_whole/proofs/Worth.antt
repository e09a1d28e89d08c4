-- No late job is hidden in the parts of a trace, and each part is faithful to the trace.
use Rattle.yds_model.proofs.Common.{◌≡◌, ℕ, ◌+◌, ◌<◌, List, [], ◌∷◌, filter, length, get_or, Option, Some, None, is_none, refl, sym, subst, All, All-from_recursion, All-contains_itself, AllByRecursion, recursion_from_All, Contains}
use Rattle.yds_kernel.specs.Event.{Said}
use Rattle.yds_trace.specs.declared.cut.Cut.{Cut}
use Rattle.yds_trace.specs.Asked.{Asked, IsAsked}
use Rattle.yds_trace.specs.Faults.{first_fault, numbered, said_fault}
use Rattle.yds_trace.specs.Document.{Judged, all_judged}
use Rattle.yds_trace.specs.Parts.{belongs, part_until, place_of, cut_after}
use Rattle.yds_trace_laws.specs.Faithful.{AreFaithful}
use Rattle.yds_trace_laws.specs.InUnits.{AreOf, document_in}
use Rattle.yds_trace_laws.proofs.Ordered.{filter-all, append-all, append-all_left, append-all_right}
use Rattle.yds_trace_laws.proofs.Runs.{all_weaker, contained}
use Rattle.yds_trace_laws.proofs.Begins.{or_none}
use Rattle.yds_trace_laws.proofs.Seen.{some_are_in_time}
use Rattle.yds_trace_laws.proofs.Faithful.{some_are_faithful}
use Rattle.yds_trace_document.specs.Part.{part_units}
use Rattle.yds_trace_text.specs.Text.{late_comment, settled_text}
use Rattle.yds_trace_text.specs.PartText.{part_line}
use Rattle.yds_trace_again.specs.Holds.{Holds}
use Rattle.yds_trace_again.proofs.Holding.{on_the_right, late_jobs_are_named}
use Rattle.yds_trace_again.proofs.Parts.{part_is_of, part_not_before}
use Rattle.yds_trace_whole.specs.Parts.{Part, made, made_with, made_at, parts_behind, parts_of, judged_in_parts}
use Rattle.yds_trace_whole.specs.Worth.{IsPartFeasible, NothingLateInParts, IsFaithfulPart}
use Rattle.yds_trace_whole.specs.WorthLaws.{NothingIsLateInParts, PartsAreFaithful}
use Rattle.yds_trace_whole.proofs.Parting.{parts_are_the_whole}

-- # Each part that is made

-- It holds of fewer lines where it holds of more.
abbrev pub IsKeptBefore : (List Said → Type 0) → Type 0
IsKeptBefore Q = (said : Said) (past : List Said) → Q (said ∷ past) → Q past

-- as that no line is refused
pub none_before : (asked : Asked) → IsKeptBefore (λ lines. first_fault asked lines ≡ None)
none_before asked said lines none = (or_none (first_fault asked lines) (numbered (length lines + 1) (said_fault asked lines said)) none).0

-- What holds of each part that is made holds of the one that is written, if one is.
pub at_place : (P : Part → Type 0) (asked : Asked) (past : List Said) (cut : Cut) (place : Option ℕ) → ((until : Option ℕ) → P (made asked past cut until)) →
    AllByRecursion P (made_at asked past cut place)
at_place P asked past cut None each = tt
at_place P asked past cut (Some time) each = by (part_until asked past cut (Some time))
  where
    by : (part : List Judged) → AllByRecursion P (made_with asked past cut time part)
    by [] = tt
    by (one ∷ part) = (each (Some time), tt)

-- where none of the lines has a fault
module _ (P : Part → Type 0) (asked : Asked) (each : (lines : List Said) (cut : Cut) (until : Option ℕ) → first_fault asked lines ≡ None → P (made asked lines cut until)) where
  each_behind : (past : List Said) → first_fault asked past ≡ None → AllByRecursion P (parts_behind asked past)
  each_behind [] none = tt
  each_behind (said ∷ past) none =
      append-all P (parts_behind asked past) (made_at asked (said ∷ past) (cut_after asked past) (place_of asked (said ∷ past) (cut_after asked past)))
      (each_behind past (none_before asked said past none))
      (at_place P asked (said ∷ past) (cut_after asked past) (place_of asked (said ∷ past) (cut_after asked past))
      (λ until. each (said ∷ past) (cut_after asked past) until none))

-- So it holds of all parts of a trace.
of_each_part : (P : Part → Type 0) (asked : Asked) (past : List Said) → first_fault asked past ≡ None →
    ((lines : List Said) (cut : Cut) (until : Option ℕ) → first_fault asked lines ≡ None → P (made asked lines cut until)) → All P (parts_of asked past)
of_each_part P asked past none each =
    All-from_recursion P (parts_of asked past)
    (append-all P (parts_behind asked past) (made asked past (cut_after asked past) None ∷ []) (each_behind P asked each past none)
    (each past (cut_after asked past) None none, tt))

-- # The jobs of parts

-- the list of parts has one with this job
record IsIn (parts : List Part) (one : Judged) : Type 0 where
  part : Part
  is_there : Contains parts part
  has : Contains part.settled.judged one

in_some : (all parts : List Part) → AllByRecursion (Contains all) parts → AllByRecursion (IsIn all) (judged_in_parts parts)
in_some all [] there = tt
in_some all (part ∷ parts) there =
    append-all (IsIn all) part.settled.judged (judged_in_parts parts)
    (all_weaker (Contains part.settled.judged) (IsIn all) (λ one has. record { part = part; is_there = there.0; has = has }) part.settled.judged
    (recursion_from_All (Contains part.settled.judged) part.settled.judged (All-contains_itself part.settled.judged)))
    (in_some all parts there.1)

-- Each job of the whole trace that belongs to the processor is in a part.
in_parts : (asked : Asked) (past : List Said) → judged_in_parts (parts_of asked past) ≡ filter (belongs asked) (all_judged asked past) →
    All (IsIn (parts_of asked past)) (filter (belongs asked) (all_judged asked past))
in_parts asked past whole =
    let parts : List Part = parts_of asked past in
    subst (λ (ones : List Judged). All (IsIn parts) ones) whole
    (All-from_recursion (IsIn parts) (judged_in_parts parts) (in_some parts parts (recursion_from_All (Contains parts) parts (All-contains_itself parts))))

-- what holds of each job of parts holds of those of each part
of_parts : (P : Judged → Type 0) (parts : List Part) → AllByRecursion P (judged_in_parts parts) → AllByRecursion (λ part. All P part.settled.judged) parts
of_parts P [] all = tt
of_parts P (part ∷ parts) all = (
  All-from_recursion P part.settled.judged (append-all_left P part.settled.judged (judged_in_parts parts) all),
  of_parts P parts (append-all_right P part.settled.judged (judged_in_parts parts) all),
)

-- So the jobs of each part are jobs of the whole trace.
parts_are_of : (asked : Asked) (past : List Said) → judged_in_parts (parts_of asked past) ≡ filter (belongs asked) (all_judged asked past) →
    All (λ part. AreOf asked past part.settled.judged) (parts_of asked past)
parts_are_of asked past whole =
    let parts : List Part = parts_of asked past in
    let all : List Judged = all_judged asked past in
    All-from_recursion (λ (part : Part). AreOf asked past part.settled.judged) parts
    (of_parts (Contains all) parts
    (subst (λ (ones : List Judged). AllByRecursion (Contains all) ones) (sym whole)
    (filter-all (Contains all) (belongs asked) all (recursion_from_All (Contains all) all (All-contains_itself all)))))

-- # No late job is hidden

-- late by less than a unit of time
abbrev IsNearlyInTime : Asked → Judged → Type 0
IsNearlyInTime asked one = (by : ℕ) → one.late ≡ Some by → by < asked.unit

abbrev IsInTimePart : Asked → Part → Type 0
IsInTimePart asked part = IsPartFeasible part → All (IsNearlyInTime asked) part.settled.judged

abbrev IsNamingPart : Part → Type 0
IsNamingPart part = All (λ one. Holds part.text (late_comment part.settled.units one)) part.settled.judged

in_time_parts : (asked : Asked) (past : List Said) → IsAsked asked → first_fault asked past ≡ None → All (IsInTimePart asked) (parts_of asked past)
in_time_parts asked past fit none =
    of_each_part (IsInTimePart asked) asked past none
    (λ lines cut until whole feasible.
    some_are_in_time asked lines (part_units asked lines (part_until asked lines cut until)) (part_until asked lines cut until) fit.has_unit (part_is_of asked lines cut until)
    (part_not_before asked lines cut until fit whole) feasible)

naming_parts : (asked : Asked) (past : List Said) → first_fault asked past ≡ None → All IsNamingPart (parts_of asked past)
naming_parts asked past none =
    of_each_part IsNamingPart asked past none
    (λ lines cut until whole i d within.
    let part : Part = made asked lines cut until in
    on_the_right (part_line asked cut (is_none until) part.shift part.settled.document.jobs) (settled_text asked part.settled)
    (late_comment part.settled.units (get_or part.settled.judged i d)) (late_jobs_are_named asked part.settled i d within))

nothing_late : (asked : Asked) (past : List Said) → IsAsked asked → first_fault asked past ≡ None →
    judged_in_parts (parts_of asked past) ≡ filter (belongs asked) (all_judged asked past) → NothingLateInParts asked past
nothing_late asked past fit none whole feasible i d within by late =
    let parts : List Part = parts_of asked past in
    let one : Judged = get_or (filter (belongs asked) (all_judged asked past)) i d in
    let found : IsIn parts one = in_parts asked past whole i d within in
    let part : Part = found.part in
    let in_time : All (IsNearlyInTime asked) part.settled.judged =
    contained (IsInTimePart asked) parts part found.is_there (in_time_parts asked past fit none) (contained IsPartFeasible parts part found.is_there feasible) in
    let named : Holds part.text (late_comment part.settled.units one) =
    contained (λ (job : Judged). Holds part.text (late_comment part.settled.units job)) part.settled.judged one found.has
    (contained IsNamingPart parts part found.is_there (naming_parts asked past none)) in (
      contained (IsNearlyInTime asked) part.settled.judged one found.has in_time by late,
      record { part = part; is_there = found.is_there; has = found.has; named = named },
    )

-- # Each part is faithful

abbrev IsOwnDocument : Asked → Part → Type 0
IsOwnDocument asked part =
    (part.settled.document ≡ document_in part.settled.units part.settled.judged) × AreFaithful asked part.settled.units part.settled.judged part.settled.document

own_documents : (asked : Asked) (past : List Said) → IsAsked asked → first_fault asked past ≡ None → All (IsOwnDocument asked) (parts_of asked past)
own_documents asked past fit none =
    of_each_part (IsOwnDocument asked) asked past none
    (λ lines cut until whole. (
      refl,
      some_are_faithful asked lines (part_units asked lines (part_until asked lines cut until)) (part_until asked lines cut until) fit.has_unit (part_is_of asked lines cut until),
    ))

faithful_parts : (asked : Asked) (past : List Said) → IsAsked asked → first_fault asked past ≡ None →
    judged_in_parts (parts_of asked past) ≡ filter (belongs asked) (all_judged asked past) →
    All (IsFaithfulPart asked past) (parts_of asked past)
faithful_parts asked past fit none whole i d within =
    let own = own_documents asked past fit none i d within in
    record { of_trace = parts_are_of asked past whole i d within; document_is = own.0; faithful = own.1 }

-- # The laws

pub nothing_is_late_in_parts : NothingIsLateInParts
nothing_is_late_in_parts asked past fit none keeps = nothing_late asked past fit none (parts_are_the_whole asked past none keeps)

pub parts_are_faithful : PartsAreFaithful
parts_are_faithful asked past fit none keeps = faithful_parts asked past fit none (parts_are_the_whole asked past none keeps)
