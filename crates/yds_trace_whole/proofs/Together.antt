-- The documents of the parts, put together, are the one document of the whole.
use Rattle.yds_model.proofs.Common.{◌≡◌, ◌∙◌, ℕ, zero, suc, ◌+◌, ◌-◌, ◌*◌, ◌/◌, ◌<◌, ◌≤◌, ◌⊎◌, inl, inr, ◌==◌, ◌&&◌, ◌||◌, List, [], ◌∷◌, ◌++◌, map, filter, flat_map, filter_map, length, get_or, reverse, Bool, true, false, not, nat_lt, if◌then◌else◌, Option, Some, None, is_some, unwrap_or, option_map, refl, sym, ap, ap₂, subst, arith, le-ltb, ltb-true, leb-true, and_parts, true≢false, append-nil, append_assoc, length-append, flat_map-append, filter_map-append, filter_all, recursion_from_All, All-from_recursion, add-mul-div_right, div-mul-le_self, le-div_iff_mul-le, mul-le-mul_right, zero-mul, ltb-false}
use Rattle.std.specs.List.{AllByRecursion, cons_option}
use Rattle.yds_kernel.specs.Event.{Said, Stamped, Lost, Nothing}
use Rattle.yds_trace.specs.declared.cut.Cut.{Cut}
use Rattle.yds_trace.specs.declared.job.End.{End}
use Rattle.yds_trace.specs.declared.job.End.TheVariants as ends
use Rattle.yds_trace.specs.declared.job.Standing.{Standing}
use Rattle.yds_trace.specs.declared.job.Stretch.{Stretch}
use Rattle.yds_trace.specs.Asked.{Asked, IsAsked, no_task, task_at}
use Rattle.yds_trace.specs.Past.{first_time, last_time}
use Rattle.yds_trace.specs.Jobs.{Job, Known, changed_last, ran}
use Rattle.yds_trace.specs.Late.{last_asked, due}
use Rattle.yds_trace.specs.WrittenTime.{Units, Run, written_time, run_of, before, runs_of}
use Rattle.yds_trace.specs.Document.{closed, jobs_of, share_of, shares_of, has_run_on, began_before, Judged, judged, judged_from, all_judged, stands, Written, written_runs, with_runs, without_runs, written_of, Placed, Document}
use Rattle.yds_trace.specs.Parts.{belongs, begin_of, begins_from, begins_before, is_written, has_job, each_before, is_settled, ended_by, is_done_by, no_cut, waiting, is_before_end, part_until, place_of, cut_at, cut_after, part_fault}
use Rattle.yds_trace_document.specs.Part.{whole_zero, shift_of, part_units}
use Rattle.yds_trace_document.proofs.Sorting.{FromLow, Rises}
use Rattle.yds_trace_laws.specs.InUnits.{document_in}
use Rattle.yds_trace_laws.proofs.Faithful.{whole_job}
use Rattle.yds_trace_laws.proofs.Ordered.{either_all, append-all, in_order-all, filter-all, filter_map-all}
use Rattle.yds_trace_laws.proofs.Runs.{all_weaker, reverse-all, IsForward, runs_forward}
use Rattle.yds_trace_laws.proofs.Shares.{share_kept}
use Rattle.yds_trace_laws.proofs.Sharing.{GoesOn, lines_go_on}
use Rattle.yds_trace_laws.proofs.Times.{order_is_kept, ends_are_kept}
use Rattle.yds_trace_again.proofs.Parts.{part_rises}
use Rattle.yds_trace_whole.specs.Parts.{Part, made, made_with, made_at, parts_behind, parts_of, KeepsParts}
use Rattle.yds_trace_whole.specs.Whole.{whole_units, job_later, jobs_of_part, placed_later, runs_of_parts}
use Rattle.yds_trace_whole.specs.Laws.{PartsMakeTheDocument, WholeIsTheDocument}
use Rattle.yds_trace_whole.proofs.Going.{latest, IsSpan, IsSound, AreSound, StandsBy}
use Rattle.yds_trace_whole.proofs.Lines.{until, until_most, or_this, first_stamp, first_is, no_stamp}
use Rattle.yds_trace_whole.proofs.Holding.{counted, Holds, now_is, goes_behind}
use Rattle.yds_trace_whole.proofs.Parting.{closing, filter_all_of, own_before, own_nothing, next_own, last_own, numbered_all, shares_all, from_all, IsPlace, place_is, DoneJudged, judged_done, Stands, at_first, part_more, line_more}
use Rattle.yds_trace_whole.proofs.Later.{AreLater, IsTimed, written_later, part_jobs_later}
use Rattle.yds_trace_whole.proofs.Ranked.{runs_at, HaveRuns, runs_append, HaveRunsLater, later_length, runs_are_later}

abbrev in_units : Asked → ℕ → Units
in_units asked start = record { zero = start; time = asked.unit; speed = asked.khz }

abbrev a_document : List Written → List Placed → Document
a_document jobs runs = record { jobs = jobs; runs = runs }

-- # What is known of each judged job

-- Where it stands, or its begin isn't known, its deadline is at least a unit after its begin.
abbrev HasWindow : Asked → Judged → Type 0
HasWindow asked one = (stands one ≡ true) ⊎ (one.job.begin_known ≡ false) → one.job.begin + asked.unit ≤ one.due

-- And its stretches lie between its begin and its end.
abbrev IsClocked : Asked → ℕ → Judged → Type 0
IsClocked asked now one = HasWindow asked one × IsSound now one.job

-- who still has its processor has had it until now
closed_sound : (asked : Asked) (past : List Said) (known : Known) → AreSound (last_asked asked past) known.jobs → StandsBy (last_asked asked past) known.on known.jobs →
    AreSound (last_asked asked past) (closed asked past known)
closed_sound asked past known sound stands = by known.on stands
  where
    more : (standing : Standing) (jobs : List Job) → AreSound (last_asked asked past) jobs → StandsBy (last_asked asked past) (Some standing) jobs →
        AreSound (last_asked asked past) (changed_last (ran (closing asked past standing)) jobs)
    more standing [] sound stands = tt
    more standing (job ∷ jobs) sound stands =
        let whole : last_asked asked past ≡ latest (last_asked asked past) job.end =
        subst (λ (end : End). last_asked asked past ≡ latest (last_asked asked past) end) (sym stands.1) refl in
        ((sound.0.0, sound.0.1, sound.0.2, ((stands.2, stands.3, omega (arith, whole)), sound.0.3), sound.0.4, sound.0.5), sound.1)

    by : (on : Option Standing) → StandsBy (last_asked asked past) on known.jobs →
        AreSound (last_asked asked past) (elim on [ None ↦ known.jobs | Some standing ↦ changed_last (ran (closing asked past standing)) known.jobs ])
    by None stands = sound
    by (Some standing) stands = more standing known.jobs sound stands

-- what a sound job ran on the processor
share_sound : (asked : Asked) (now : ℕ) (job : Job) → IsSound now job → IsSound now (share_of asked job)
share_sound asked now job sound =
    share_kept (IsSound now)
    (λ processor job is. (is.0, is.1, is.2, filter-all (IsSpan job.begin (latest now job.end)) (λ stretch. stretch.processor == processor) job.stretches is.3, is.4, is.5)) asked job
    sound

-- A job that stands isn't due before, and one whose begin isn't known is due by no earlier time than that.
window_of : (asked : Asked) (past : List Said) (number place : ℕ) (before : Bool) (now : ℕ) (job : Job) → asked.unit ≤ (task_at asked number).deadline → IsSound now job →
    HasWindow asked (judged asked past number before (place, job))
window_of asked past number place before now job enough sound (inl so) =
    ltb-false (due (task_at asked number) job) (job.begin + asked.unit) (whole_job asked past (task_at asked number) job so).1
window_of asked past number place before now job enough sound (inr unknown) = omega (arith, enough, sound.5 unknown)

all_clocked : (asked : Asked) (past : List Said) (cut : Cut) → IsAsked asked → ((number : ℕ) → number < length asked.tasks → Holds asked past cut number) →
    AllByRecursion (IsClocked asked (last_asked asked past)) (all_judged asked past)
all_clocked asked past cut words holds =
    let now : ℕ = last_asked asked past in
    in_order-all (IsClocked asked now) begin_of (judged_from asked past 0 asked.tasks)
    (from_all asked past (IsClocked asked now) 0 asked.tasks (λ number within.
    let known : Known = counted asked past number in
    let held : Holds asked past cut number = holds number (omega (arith, within)) in
    let enough : asked.unit ≤ (task_at asked number).deadline = words.deadlines number no_task (omega (arith, within)) in
    let before : Bool = began_before (jobs_of asked past number) in
    numbered_all asked past (IsClocked asked now) number before (IsSound now) (λ place job sound. (window_of asked past number place before now job enough sound, sound)) 0
    (shares_of asked past number)
    (shares_all (IsSound now) asked (share_sound asked now) (jobs_of asked past number)
    (reverse-all (IsSound now) (closed asked past known) (closed_sound asked past known held.keeps.sound held.keeps.stands)))))

-- # A part's units

-- the times of a part whose first job begins here
shift_time : (origin unit first time : ℕ) → 1 ≤ unit → first ≤ time →
    (time - origin) / unit ≡ (time - (origin + ((first - origin) / unit) * unit)) / unit + (first - origin) / unit
shift_time origin unit first time positive from =
    let shift : ℕ = (first - origin) / unit in
    let within : shift * unit ≤ first - origin = div-mul-le_self (first - origin) unit in
    let apart : time - origin ≡ (time - (origin + shift * unit)) + shift * unit = omega (arith, within, from) in
    ap (λ (n : ℕ). n / unit) apart ∙ add-mul-div_right (time - (origin + shift * unit)) shift positive

-- the begin of the first job, or 0
abbrev low_of : List Judged → ℕ
low_of [] = 0
low_of (one ∷ judged) = one.job.begin

-- in both units time goes on
order_of : (asked : Asked) (past : List Said) (part : List Judged) → 1 ≤ asked.unit → (time other : ℕ) → time ≤ other →
    (written_time (part_units asked past part) time ≤ written_time (part_units asked past part) other)
    × (written_time (whole_units asked past) time ≤ written_time (whole_units asked past) other)
order_of asked past part positive time other on =
    (order_is_kept (part_units asked past part) time other positive on, order_is_kept (whole_units asked past) time other positive on)

part_is_later : (asked : Asked) (past : List Said) (part : List Judged) → 1 ≤ asked.unit →
    AreLater (part_units asked past part) (whole_units asked past) (shift_of asked past part) (low_of part)
part_is_later asked past [] positive = record {
  times = λ time from.
      let none : (whole_zero asked past) + 0 * asked.unit ≡ whole_zero asked past = omega (arith, zero-mul asked.unit) in
      ap (λ (start : ℕ). (time - start) / asked.unit) (sym none) ∙
      (let e : (time - (whole_zero asked past + 0 * asked.unit)) / asked.unit ≡ (time - (whole_zero asked past + 0 * asked.unit)) / asked.unit + 0 = omega arith in e);
  speed = refl;
  order = order_of asked past [] positive;
}
part_is_later asked past (one ∷ part) positive =
    record { times = λ time from. shift_time (whole_zero asked past) asked.unit one.job.begin time positive from; speed = refl; order = order_of asked past (one ∷ part) positive }

-- A deadline comes a unit after its part's first begin, or nothing is taken off.
window_is : (origin unit first begin due : ℕ) → 1 ≤ unit → first ≤ begin → begin + unit ≤ due →
    ((first - origin) / unit ≡ 0) ⊎ (1 ≤ (due - (origin + ((first - origin) / unit) * unit)) / unit)
window_is origin unit first begin due positive from window = by ((first - origin) / unit) (div-mul-le_self (first - origin) unit)
  where
    by : (shift : ℕ) → shift * unit ≤ first - origin → (shift ≡ 0) ⊎ (1 ≤ (due - (origin + shift * unit)) / unit)
    by zero within = inl refl
    by (suc shift) within =
        let least : 1 * unit ≤ suc shift * unit = mul-le-mul_right unit (let e : 1 ≤ suc shift = omega arith in e) in
        inr ((le-div_iff_mul-le {k = unit} {x = 1} {y = due - (origin + suc shift * unit)} (omega arith)).1 (omega (arith, least, within)))

clocked_end : (now low time : ℕ) (end : End) → low ≤ latest now end → end ≡ ends.Ended time → low ≤ time
clocked_end now low time end within is = subst (λ (e : End). low ≤ latest now e) is within

one_timed : (asked : Asked) (past : List Said) (now : ℕ) (part : List Judged) (one : Judged) → 1 ≤ asked.unit → low_of part ≤ one.job.begin → IsClocked asked now one →
    IsTimed (part_units asked past part) (shift_of asked past part) (low_of part) one
one_timed asked past now part one positive from clocked = record {
  begin = from;
  due = λ so. omega (arith, from, clocked.0 (inl so));
  window = λ unknown. (omega (arith, from, clocked.0 (inr unknown)), window_at part from (clocked.0 (inr unknown)));
  end = λ time is. clocked_end now (low_of part) time one.job.end (omega (arith, from, clocked.1.2)) is;
  stretches = all_weaker (IsSpan one.job.begin (latest now one.job.end)) (λ (s : Stretch). (low_of part ≤ s.from) × (low_of part ≤ s.to))
      (λ s is. (omega (arith, is.0, from), omega (arith, is.0, is.1, from))) one.job.stretches clocked.1.3;
}
  where
    window_at : (jobs : List Judged) → low_of jobs ≤ one.job.begin → one.job.begin + asked.unit ≤ one.due →
        (shift_of asked past jobs ≡ 0) ⊎ (1 ≤ written_time (part_units asked past jobs) one.due)
    window_at [] low window = inl refl
    window_at (first ∷ jobs) low window = window_is (whole_zero asked past) asked.unit first.job.begin one.job.begin one.due positive low window

-- the first job begins first
low_first : (part : List Judged) → Rises begin_of part → FromLow begin_of (low_of part) part
low_first [] rises = tt
low_first (one ∷ part) rises = (omega arith, rises.0)

all_timed : (asked : Asked) (past : List Said) (now : ℕ) (part judged : List Judged) → 1 ≤ asked.unit → FromLow begin_of (low_of part) judged →
    AllByRecursion (IsClocked asked now) judged → AllByRecursion (IsTimed (part_units asked past part) (shift_of asked past part) (low_of part)) judged
all_timed asked past now part [] positive low clocked = tt
all_timed asked past now part (one ∷ judged) positive low clocked =
    (one_timed asked past now part one positive low.0 clocked.0, all_timed asked past now part judged positive low.1 clocked.1)

-- # A part

have_later : (units whole : Units) (shift low : ℕ) → AreLater units whole shift low → (judged : List Judged) → AllByRecursion (IsTimed units shift low) judged →
    HaveRunsLater shift (filter_map (written_of units) judged) (filter_map (written_of whole) judged)
have_later units whole shift low later [] timed = tt
have_later units whole shift low later (one ∷ judged) timed =
    subst (λ (o : Option Written). HaveRunsLater shift (filter_map (written_of units) (one ∷ judged)) (cons_option o (filter_map (written_of whole) judged)))
    (written_later units whole shift low later one timed.0) (by (written_of units one) (have_later units whole shift low later judged timed.1))
  where
    by : (o : Option Written) → HaveRunsLater shift (filter_map (written_of units) judged) (filter_map (written_of whole) judged) →
        HaveRunsLater shift (cons_option o (filter_map (written_of units) judged)) (cons_option (option_map (job_later shift one) o) (filter_map (written_of whole) judged))
    by None rest = rest
    by (Some job) rest = (refl, rest)

-- what a part is to the whole
record IsPartOf (whole : Units) (part : Part) : Type 0 where
  jobs : jobs_of_part part ≡ filter_map (written_of whole) part.settled.judged
  runs : (before : ℕ) → map (placed_later before part.shift) part.settled.document.runs ≡ runs_at before (filter_map (written_of whole) part.settled.judged)
  many : length part.settled.document.jobs ≡ length (filter_map (written_of whole) part.settled.judged)

part_of_whole : (asked : Asked) (past : List Said) (cut : Cut) (until : Option ℕ) → 1 ≤ asked.unit → Rises begin_of (part_until asked past cut until) →
    AllByRecursion (IsClocked asked (last_asked asked past)) (part_until asked past cut until) → IsPartOf (whole_units asked past) (made asked past cut until)
part_of_whole asked past cut until positive rises clocked =
    let part : List Judged = part_until asked past cut until in
    let units : Units = part_units asked past part in
    let whole : Units = whole_units asked past in
    let shift : ℕ = shift_of asked past part in
    let later : AreLater units whole shift (low_of part) = part_is_later asked past part positive in
    let timed : AllByRecursion (IsTimed units shift (low_of part)) part = all_timed asked past (last_asked asked past) part part positive (low_first part rises) clocked in
    let runs : HaveRunsLater shift (filter_map (written_of units) part) (filter_map (written_of whole) part) = have_later units whole shift (low_of part) later part timed in
    record {
      jobs = part_jobs_later units whole shift (low_of part) later part timed;
      runs = λ before. runs_are_later before shift (filter_map (written_of units) part) (filter_map (written_of whole) part) runs;
      many = later_length shift (filter_map (written_of units) part) (filter_map (written_of whole) part) runs;
    }

-- # When runs begin

from_before : (time : ℕ) (run : Run) (runs : List Run) → time ≤ run.from → AllByRecursion (λ one. time ≤ one.from) runs → AllByRecursion (λ one. time ≤ one.from) (before run runs)
from_before time run [] here all = (here, tt)
from_before time run (next ∷ runs) here all =
    either_all (λ (one : Run). time ≤ one.from) ((run.to == next.from) && (run.speed == next.speed)) (record { from = run.from; to = next.to; speed = run.speed } ∷ runs)
    (run ∷ next ∷ runs) (here, all.1) (here, all)

-- Runs of stretches from a time on begin from it on.
runs_from : (units : Units) (time : ℕ) (stretches : List Stretch) → 1 ≤ units.time → AllByRecursion (λ s. time ≤ s.from) stretches →
    AllByRecursion (λ run. written_time units time ≤ run.from) (runs_of units stretches)
runs_from units time [] positive all = tt
runs_from units time (stretch ∷ stretches) positive all =
    let P : Run → Type 0 = λ run. written_time units time ≤ run.from in
    let rest : AllByRecursion P (runs_of units stretches) = runs_from units time stretches positive all.1 in
    either_all P (nat_lt (run_of units stretch).from (run_of units stretch).to) (before (run_of units stretch) (runs_of units stretches)) (runs_of units stretches)
    (from_before (written_time units time) (run_of units stretch) (runs_of units stretches) (order_is_kept units time stretch.from positive all.0) rest) rest

-- Runs of stretches that end by a time begin by it.
runs_by : (units : Units) (time : ℕ) (stretches : List Stretch) → 1 ≤ units.time → AllByRecursion (λ s. s.to ≤ time) stretches →
    AllByRecursion (λ run. run.from ≤ written_time units time) (runs_of units stretches)
runs_by units time stretches positive all =
    both_weaker (runs_of units stretches) (runs_forward units stretches)
    (recursion_from_All (λ run. run.to ≤ written_time units time) (runs_of units stretches)
    (ends_are_kept units stretches time positive (All-from_recursion (λ s. s.to ≤ time) stretches all)))
  where
    both_weaker : (runs : List Run) → AllByRecursion IsForward runs → AllByRecursion (λ run. run.to ≤ written_time units time) runs →
        AllByRecursion (λ run. run.from ≤ written_time units time) runs
    both_weaker [] first second = tt
    both_weaker (run ∷ runs) first second = (omega (arith, first.0, second.0), both_weaker runs first.1 second.1)

-- the runs of what is written of jobs that stand
written_runs_all : (units : Units) (P : Run → Type 0) (Q : Judged → Type 0) → ((one : Judged) → Q one → stands one ≡ true → AllByRecursion P (written_runs units one.job)) →
    (judged : List Judged) → AllByRecursion Q judged → HaveRuns P (filter_map (written_of units) judged)
written_runs_all units P Q each judged all =
    filter_map-all (written_of units) Q (λ (job : Written). AllByRecursion P job.runs) (λ one job is so. by one job is (stands one) refl so) judged all
  where
    late : (one : Judged) (job : Written) (b : Bool) → (if b then Some (without_runs units one) else None) ≡ Some job → AllByRecursion P job.runs
    late one job true is = let same : without_runs units one ≡ job = cc is in subst (λ (j : Written). AllByRecursion P j.runs) same tt
    late one job false is = cc is

    by : (one : Judged) (job : Written) → Q one → (b : Bool) → stands one ≡ b →
        (if b then Some (with_runs units one) else (if is_some one.late then Some (without_runs units one) else None)) ≡ Some job → AllByRecursion P job.runs
    by one job is true so given = let same : with_runs units one ≡ job = cc given in subst (λ (j : Written). AllByRecursion P j.runs) same (each one is so)
    by one job is false so given = late one job (is_some one.late) given

-- those of a part begin from its first cut on, and those of a part that was cut end by that
part_runs_from : (whole : Units) (asked : Asked) (now boundary : ℕ) (judged : List Judged) → 1 ≤ whole.time →
    AllByRecursion (λ one. IsClocked asked now one × (boundary ≤ one.job.begin)) judged → HaveRuns (λ run. written_time whole boundary ≤ run.from) (filter_map (written_of whole) judged)
part_runs_from whole asked now boundary judged positive all =
    written_runs_all whole (λ run. written_time whole boundary ≤ run.from) (λ one. IsClocked asked now one × (boundary ≤ one.job.begin))
    (λ one is so.
    runs_from whole boundary (reverse one.job.stretches) positive
    (reverse-all (λ (s : Stretch). boundary ≤ s.from) one.job.stretches
    (all_weaker (IsSpan one.job.begin (latest now one.job.end)) (λ (s : Stretch). boundary ≤ s.from) (λ s span. omega (arith, span.0, is.1)) one.job.stretches is.0.1.3)))
    judged all

ended_so : (now time : ℕ) (end : End) → ended_by time end ≡ true → latest now end ≤ time
ended_so now time ends.Open is = cc is
ended_so now time (ends.Ended end) is = leb-true end time is
ended_so now time (ends.Lost since) is = cc is

part_runs_by : (whole : Units) (asked : Asked) (now time : ℕ) (judged : List Judged) → 1 ≤ whole.time →
    AllByRecursion (λ one. IsClocked asked now one × ((not (stands one) || ended_by time one.job.end) ≡ true)) judged →
    HaveRuns (λ run. run.from ≤ written_time whole time) (filter_map (written_of whole) judged)
part_runs_by whole asked now time judged positive all =
    written_runs_all whole (λ run. run.from ≤ written_time whole time) (λ one. IsClocked asked now one × ((not (stands one) || ended_by time one.job.end) ≡ true))
    (λ one is so.
    let done : ended_by time one.job.end ≡ true = subst (λ (b : Bool). (not b || ended_by time one.job.end) ≡ true) so is.1 in
    runs_by whole time (reverse one.job.stretches) positive
    (reverse-all (λ (s : Stretch). s.to ≤ time) one.job.stretches
    (all_weaker (IsSpan one.job.begin (latest now one.job.end)) (λ (s : Stretch). s.to ≤ time) (λ s span. omega (arith, span.2, ended_so now time one.job.end done))
    one.job.stretches is.0.1.3)))
    judged all

-- # Parts put together

abbrev count_of : List Part → ℕ
count_of [] = 0
count_of (part ∷ parts) = length part.settled.document.jobs + count_of parts

runs_of_more : (before : ℕ) (parts more : List Part) → runs_of_parts before (parts ++ more) ≡ runs_of_parts before parts ++ runs_of_parts (before + count_of parts) more
runs_of_more before [] more = ap (λ (n : ℕ). runs_of_parts n more) (let e : before ≡ before + 0 = omega arith in e)
runs_of_more before (part ∷ parts) more =
    let own : List Placed = map (placed_later before part.shift) part.settled.document.runs in
    ap (λ (rest : List Placed). own ++ rest)
    (runs_of_more (before + length part.settled.document.jobs) parts more
    ∙ ap (λ (n : ℕ). runs_of_parts (before + length part.settled.document.jobs) parts ++ runs_of_parts n more)
    (let e : before + length part.settled.document.jobs + count_of parts ≡ before + (length part.settled.document.jobs + count_of parts) = omega arith in e))
    ∙ sym (append_assoc own (runs_of_parts (before + length part.settled.document.jobs) parts)
    (runs_of_parts (before + (length part.settled.document.jobs + count_of parts)) more))

count_more : (parts more : List Part) → count_of (parts ++ more) ≡ count_of parts + count_of more
count_more [] more = omega arith
count_more (part ∷ parts) more = omega (arith, count_more parts more)

-- These parts have these judged jobs, in the times of the whole.
record Joined (whole : Units) (judged : List Judged) (parts : List Part) : Type 0 where
  jobs : flat_map jobs_of_part parts ≡ filter_map (written_of whole) judged
  runs : runs_of_parts 0 parts ≡ runs_at 0 (filter_map (written_of whole) judged)
  many : count_of parts ≡ length (filter_map (written_of whole) judged)

-- One part more, whose runs begin no earlier than those before.
join_part : (whole : Units) (middle : ℕ) (judged : List Judged) (parts : List Part) (part : Part) → Joined whole judged parts → IsPartOf whole part →
    HaveRuns (λ run. run.from ≤ middle) (filter_map (written_of whole) judged) → HaveRuns (λ run. middle ≤ run.from) (filter_map (written_of whole) part.settled.judged) →
    Joined whole (judged ++ part.settled.judged) (parts ++ part ∷ [])
join_part whole middle judged parts part joined is first second =
    let front : List Written = filter_map (written_of whole) judged in
    let more : List Written = filter_map (written_of whole) part.settled.judged in
    let both : filter_map (written_of whole) (judged ++ part.settled.judged) ≡ front ++ more = filter_map-append (written_of whole) judged part.settled.judged in
    record {
      jobs = flat_map-append jobs_of_part parts (part ∷ [])
          ∙ ap₂ (λ (some rest : List Written). some ++ rest) joined.jobs (append-nil (jobs_of_part part) ∙ is.jobs)
          ∙ sym both;
      runs = runs_of_more 0 parts (part ∷ [])
          ∙ ap₂ (λ (some rest : List Placed). some ++ rest) joined.runs (append-nil (map (placed_later (0 + count_of parts) part.shift) part.settled.document.runs)
          ∙ is.runs (0 + count_of parts)
          ∙ ap (λ (n : ℕ). runs_at n more) (let e : 0 + count_of parts ≡ 0 + length front = omega (arith, joined.many) in e))
          ∙ sym (runs_append 0 middle front more first second)
          ∙ ap (runs_at 0) (sym both);
      many = omega (arith, count_more parts (part ∷ []), joined.many, is.many, length-append front more, ap length both);
    }

-- # All lines

record Together (asked : Asked) (past : List Said) (cut : Cut) (parts : List Part) : Type 0 where
  stands : Stands asked past cut parts
  joined : Joined (whole_units asked past) (own_before asked past cut.boundary) parts
  early : HaveRuns (λ run. run.from ≤ written_time (whole_units asked past) cut.boundary)
      (filter_map (written_of (whole_units asked past)) (own_before asked past cut.boundary))
  none : first_stamp past ≡ None → (parts ≡ []) × (cut.boundary ≡ 0)

at_start : (asked : Asked) → Together asked [] no_cut []
at_start asked =
    let nothing : [] ≡ own_before asked [] 0 = own_nothing asked [] in
    record {
      stands = record { holds = λ number within. at_first asked number; begun = omega arith; decided = omega arith; same = nothing };
      joined = subst (λ (l : List Judged). Joined (whole_units asked []) l []) nothing (record { jobs = refl; runs = refl; many = refl });
      early = subst (λ (l : List Judged). HaveRuns (λ run. run.from ≤ written_time (whole_units asked []) 0) (filter_map (written_of (whole_units asked [])) l)) nothing tt;
      none = λ is. (refl, refl);
    }

-- ---- a line

or_this_some : (time first : ℕ) (o : Option ℕ) → o ≡ Some first → or_this time o ≡ None → ⊥
or_this_some time first None is none = cc is
or_this_some time first (Some other) is none = cc none

stamped_still : (said : Said) (past : List Said) (first : ℕ) → first_stamp past ≡ Some first → first_stamp (said ∷ past) ≡ None → ⊥
stamped_still (Stamped event) past first is none = or_this_some event.time first (first_stamp past) is none
stamped_still (Lost processor reach) past first is none = let both : Some first ≡ None = sym is ∙ none in cc both
stamped_still Nothing past first is none = let both : Some first ≡ None = sym is ∙ none in cc both

first_still : (said : Said) (past : List Said) (first : ℕ) → first_stamp past ≡ Some first → first_time 0 (said ∷ past) ≡ first_time 0 past
first_still (Stamped event) past first is =
    first_is event.time past ∙ ap (λ (o : Option ℕ). unwrap_or o event.time) is ∙ sym (first_is 0 past ∙ ap (λ (o : Option ℕ). unwrap_or o 0) is)
first_still (Lost processor reach) past first is = refl
first_still Nothing past first is = refl

line_together : (asked : Asked) (said : Said) (past : List Said) (cut : Cut) (parts : List Part) → GoesOn asked.to (said ∷ past) → part_fault asked past cut said ≡ None →
    Together asked past cut parts → Together asked (said ∷ past) cut parts
line_together asked said past cut parts goes fault together = by (first_stamp past) refl
  where
    now : Stands asked (said ∷ past) cut parts
    now = line_more asked said past cut parts goes fault together.stands

    by : (o : Option ℕ) → first_stamp past ≡ o → Together asked (said ∷ past) cut parts
    by None unstamped =
        let empty = together.none unstamped in
        let nothing : [] ≡ own_before asked (said ∷ past) cut.boundary =
        own_nothing asked (said ∷ past) ∙ ap (own_before asked (said ∷ past)) (sym empty.1) in
        let whole : Units = whole_units asked (said ∷ past) in
        record {
          stands = now;
          joined = subst (λ (l : List Judged). Joined whole l parts) nothing
              (subst (λ (l : List Part). Joined whole [] l) (sym empty.0) (record { jobs = refl; runs = refl; many = refl }));
          early = subst (λ (l : List Judged). HaveRuns (λ run. run.from ≤ written_time whole cut.boundary) (filter_map (written_of whole) l)) nothing tt;
          none = λ is. empty;
        }
    by (Some first) stamped =
        let same : own_before asked past cut.boundary ≡ own_before asked (said ∷ past) cut.boundary = sym together.stands.same ∙ now.same in
        let units : whole_units asked past ≡ whole_units asked (said ∷ past) =
        ap (λ (time : ℕ). in_units asked (unwrap_or asked.from time)) (sym (first_still said past first stamped)) in
        record {
          stands = now;
          joined = subst (λ (l : List Judged). Joined (whole_units asked (said ∷ past)) l parts) same
              (subst (λ (whole : Units). Joined whole (own_before asked past cut.boundary) parts) units together.joined);
          early = subst (λ (l : List Judged). HaveRuns (λ run. run.from ≤ written_time (whole_units asked (said ∷ past)) cut.boundary) (filter_map (written_of (whole_units asked (said ∷ past))) l)) same
              (subst (λ (whole : Units). HaveRuns (λ run. run.from ≤ written_time whole cut.boundary) (filter_map (written_of whole) (own_before asked past cut.boundary))) units
              together.early);
          none = λ is. absurd (stamped_still said past first stamped is);
        }

-- ---- a part

both_all : {A : Type 0} (P Q : A → Type 0) (xs : List A) → AllByRecursion P xs → AllByRecursion Q xs → AllByRecursion (λ x. P x × Q x) xs
both_all P Q [] first second = tt
both_all P Q (x ∷ xs) first second = ((first.0, second.0), both_all P Q xs first.1 second.1)

-- before the first line with a stamp there is no time, and no job
no_time : (past : List Said) → first_stamp past ≡ None → last_time past ≡ 0
no_time [] none = refl
no_time (Stamped event ∷ past) none = absurd (no_stamp past event.time none)
no_time (Lost processor reach ∷ past) none = no_time past none
no_time (Nothing ∷ past) none = no_time past none

none_begun : (asked : Asked) (jobs : List Judged) → has_job asked 0 jobs ≡ false
none_begun asked [] = refl
none_begun asked (one ∷ jobs) =
    ap (λ (b : Bool). (b && (asked.everywhere || is_written one)) || has_job asked 0 jobs) (le-ltb one.job.begin 0 (omega arith)) ∙ none_begun asked jobs

no_place : (asked : Asked) (past : List Said) (cut : Cut) (time : ℕ) → IsPlace asked past cut time → first_stamp past ≡ None → ⊥
no_place asked past cut time place none =
    let nothing : time ≡ 0 = omega (arith, place.by, now_is asked past, until_most asked.to (last_time past), no_time past none) in
    let begun : has_job asked time (waiting asked past cut) ≡ true =
    (and_parts (has_job asked time (waiting asked past cut)) (each_before (is_done_by asked past time) time (waiting asked past cut)) place.quiet).0 in
    true≢false (sym begun ∙ ap (λ (t : ℕ). has_job asked t (waiting asked past cut)) nothing ∙ none_begun asked (waiting asked past cut))

-- what is known of the jobs of a part that is cut
abbrev IsOfPart : Asked → List Said → ℕ → ℕ → Judged → Type 0
IsOfPart asked past boundary time one =
    IsClocked asked (last_asked asked past) one × (boundary ≤ one.job.begin) × ((not (stands one) || ended_by time one.job.end) ≡ true)

part_done : (asked : Asked) (past : List Said) (cut : Cut) (time : ℕ) → AllByRecursion (IsClocked asked (last_asked asked past)) (all_judged asked past) →
    IsPlace asked past cut time → AllByRecursion (IsOfPart asked past cut.boundary time) (part_until asked past cut (Some time))
part_done asked past cut time clocked place =
    let P : Judged → Type 0 = λ one. IsClocked asked (last_asked asked past) one × DoneJudged asked past cut.boundary time one in
    let Q : Judged → Type 0 = λ one. P one × (begins_from cut.boundary one ≡ true) in
    filter-all (IsOfPart asked past cut.boundary time) (belongs asked) (filter (begins_before time) (waiting asked past cut))
    (all_weaker (λ (one : Judged). Q one × (begins_before time one ≡ true)) (IsOfPart asked past cut.boundary time)
    (λ one is.
    let from : cut.boundary ≤ one.job.begin = leb-true cut.boundary one.job.begin is.0.1 in (
      is.0.0.0,
      from,
      (and_parts (is_settled asked past one) (not (stands one) || ended_by time one.job.end) (is.0.0.1 from (ltb-true one.job.begin time is.1))).1,
    ))
    (filter (begins_before time) (waiting asked past cut))
    (filter_all_of Q (begins_before time) (waiting asked past cut)
    (filter_all_of P (begins_from cut.boundary) (all_judged asked past)
    (both_all (IsClocked asked (last_asked asked past)) (DoneJudged asked past cut.boundary time) (all_judged asked past) clocked (judged_done asked past cut time place.quiet)))))

-- one part more, or none where it has no job
join_made : (asked : Asked) (past : List Said) (cut : Cut) (time : ℕ) (whole : Units) (front : List Judged) (parts : List Part) (part : List Judged) →
    part_until asked past cut (Some time) ≡ part → Joined whole front parts →
    Joined whole (front ++ part_until asked past cut (Some time)) (parts ++ made asked past cut (Some time) ∷ []) →
    Joined whole (front ++ part_until asked past cut (Some time)) (parts ++ made_with asked past cut time part)
join_made asked past cut time whole front parts [] is before now =
    subst (λ (l : List Part). Joined whole (front ++ part_until asked past cut (Some time)) l) (sym (append-nil parts))
    (subst (λ (l : List Judged). Joined whole l parts) (sym (ap (λ (l : List Judged). front ++ l) is ∙ append-nil front)) before)
join_made asked past cut time whole front parts (one ∷ part) is before now = now

part_together : (asked : Asked) (past : List Said) (cut : Cut) (parts : List Part) (o : Option ℕ) → IsAsked asked → place_of asked past cut ≡ o → Together asked past cut parts →
    Together asked past (cut_at asked past cut o) (parts ++ made_at asked past cut o)
part_together asked past cut parts None words none together =
    subst (λ (l : List Part). Together asked past cut l) (sym (append-nil parts)) together
part_together asked past cut parts (Some time) words some together =
    let stands_now = part_more asked past cut parts (Some time) some together.stands in
    let place : IsPlace asked past cut time = place_is asked past cut time together.stands.holds some in
    let whole : Units = whole_units asked past in
    let now : ℕ = last_asked asked past in
    let front : List Judged = own_before asked past cut.boundary in
    let part : List Judged = part_until asked past cut (Some time) in
    let is : AllByRecursion (IsOfPart asked past cut.boundary time) part = part_done asked past cut time (all_clocked asked past cut words together.stands.holds) place in
    let both : front ++ part ≡ own_before asked past time = next_own asked past cut time place.from in
    let joined : Joined whole (front ++ part) (parts ++ made_with asked past cut time part) =
    join_made asked past cut time whole front parts part refl together.joined (
    join_part whole (written_time whole cut.boundary) front parts (made asked past cut (Some time)) together.joined
    (part_of_whole asked past cut (Some time) words.has_unit (part_rises asked past cut (Some time))
    (all_weaker (IsOfPart asked past cut.boundary time) (IsClocked asked now) (λ one so. so.0) part is)) together.early
    (part_runs_from whole asked now cut.boundary part words.has_unit
    (all_weaker (IsOfPart asked past cut.boundary time) (λ (one : Judged). IsClocked asked now one × (cut.boundary ≤ one.job.begin)) (λ one so. (so.0, so.1)) part is))) in
    let Early : List Written → Type 0 = HaveRuns (λ run. run.from ≤ written_time whole time) in
    let first : Early (filter_map (written_of whole) front) =
    all_weaker (λ (job : Written). AllByRecursion (λ run. run.from ≤ written_time whole cut.boundary) job.runs)
    (λ (job : Written). AllByRecursion (λ run. run.from ≤ written_time whole time) job.runs)
    (λ job runs. all_weaker (λ (run : Run). run.from ≤ written_time whole cut.boundary) (λ (run : Run). run.from ≤ written_time whole time)
    (λ run by. omega (arith, by, order_is_kept whole cut.boundary time words.has_unit place.from)) job.runs runs)
    (filter_map (written_of whole) front) together.early in
    let second : Early (filter_map (written_of whole) part) =
    part_runs_by whole asked now time part words.has_unit
    (all_weaker (IsOfPart asked past cut.boundary time) (λ (one : Judged). IsClocked asked now one × ((not (stands one) || ended_by time one.job.end) ≡ true)) (λ one so. (so.0, so.2)) part is) in
    record {
      stands = stands_now;
      joined = subst (λ (l : List Judged). Joined whole l (parts ++ made_with asked past cut time part)) both joined;
      early = subst (λ (l : List Judged). Early (filter_map (written_of whole) l)) both
          (subst Early (sym (filter_map-append (written_of whole) front part))
          (append-all (λ (job : Written). AllByRecursion (λ run. run.from ≤ written_time whole time) job.runs) (filter_map (written_of whole) front) (filter_map (written_of whole) part) first second));
      none = λ unstamped. absurd (no_place asked past cut time place unstamped);
    }

all_together : (asked : Asked) (past : List Said) → IsAsked asked → GoesOn asked.to past → KeepsParts asked past → Together asked past (cut_after asked past) (parts_behind asked past)
all_together asked [] words goes kept = at_start asked
all_together asked (said ∷ past) words goes kept =
    let cut : Cut = cut_after asked past in
    part_together asked (said ∷ past) cut (parts_behind asked past) (place_of asked (said ∷ past) cut) words refl
    (line_together asked said past cut (parts_behind asked past) goes kept.0 (all_together asked past words (goes_behind asked.to said past goes) kept.1))

-- the law
pub parts_make_the_document : PartsMakeTheDocument
parts_make_the_document asked past words none kept =
    let together : Together asked past (cut_after asked past) (parts_behind asked past) = all_together asked past words (lines_go_on asked past none) kept in
    let cut : Cut = cut_after asked past in
    let whole : Units = whole_units asked past in
    let now : ℕ = last_asked asked past in
    let front : List Judged = own_before asked past cut.boundary in
    let part : List Judged = part_until asked past cut None in
    let Waits : Judged → Type 0 = λ one. IsClocked asked now one × (cut.boundary ≤ one.job.begin) in
    let is : AllByRecursion Waits part =
    filter-all Waits (belongs asked) (filter (is_before_end None) (waiting asked past cut))
    (filter-all Waits (is_before_end None) (waiting asked past cut)
    (all_weaker (λ (one : Judged). IsClocked asked now one × (begins_from cut.boundary one ≡ true)) Waits
    (λ one so. (so.0, leb-true cut.boundary one.job.begin so.1)) (waiting asked past cut)
    (filter_all_of (IsClocked asked now) (begins_from cut.boundary) (all_judged asked past) (all_clocked asked past cut words together.stands.holds)))) in
    let joined : Joined whole (front ++ part) (parts_of asked past) =
    join_part whole (written_time whole cut.boundary) front (parts_behind asked past) (made asked past cut None) together.joined
    (part_of_whole asked past cut None words.has_unit (part_rises asked past cut None)
    (all_weaker (λ (one : Judged). IsClocked asked now one × (cut.boundary ≤ one.job.begin)) (IsClocked asked now) (λ one so. so.0) part is)) together.early
    (part_runs_from whole asked now cut.boundary part words.has_unit is) in
    let done : Joined whole (filter (belongs asked) (all_judged asked past)) (parts_of asked past) =
    subst (λ (l : List Judged). Joined whole l (parts_of asked past)) (last_own asked past cut) joined in
    ap₂ (λ (jobs : List Written) (runs : List Placed). a_document jobs runs) done.jobs done.runs

-- # With a begin that is asked for

zero_from : (o : Option ℕ) (from first other : ℕ) → o ≡ Some from → unwrap_or o first ≡ (elim o [ Some time ↦ time | None ↦ other ])
zero_from None from first other is = cc is
zero_from (Some time) from first other is = refl

-- with one processor each job belongs
all_belong : (asked : Asked) (jobs : List Judged) → asked.everywhere ≡ false → filter (belongs asked) jobs ≡ jobs
all_belong asked jobs alone =
    filter_all (belongs asked) jobs
    (λ k d within. ap (λ (b : Bool). not b || has_run_on asked.processor (get_or jobs k d).job || (asked.processor == 0 && length (get_or jobs k d).job.stretches == 0)) alone)

pub whole_is_the_document : WholeIsTheDocument
whole_is_the_document asked past from alone is =
    ap₂ (λ (start : ℕ) (jobs : List Judged). document_in (in_units asked start) jobs) (zero_from asked.from from (first_time 0 past) _ is)
    (all_belong asked (all_judged asked past) alone)
