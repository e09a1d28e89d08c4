-- Where a task's first jobs are forgotten: each event acts on its last job, which is kept. Of those before it only a loss changes the end.
use Rattle.base.proofs.Common.{◌≡◌, ◌≢◌, ◌∙◌, ℕ, suc, ◌+◌, ◌<◌, List, [], ◌∷◌, ◌++◌, map, reverse, Bool, true, false, not, ◌==◌, ◌&&◌, ◌||◌, nat_lt, if◌then◌else◌, Option, Some, None, is_some, is_none, All, refl, sym, ap, subst, append-nil, map-append, length-map, All-map, arith, ne_eqb}
use Rattle.yds_kernel.specs.declared.state.State.{State}
use Rattle.yds_kernel.specs.declared.state.State.TheVariants as states
use Rattle.yds_kernel.specs.Event.{Said}
use Rattle.yds_trace.specs.declared.followed.Followed.{Followed}
use Rattle.yds_trace.specs.declared.job.End.{End}
use Rattle.yds_trace.specs.declared.job.End.TheVariants as ends
use Rattle.yds_trace.specs.declared.job.Leaving.{Leaving}
use Rattle.yds_trace.specs.declared.job.Pace.{Pace}
use Rattle.yds_trace.specs.declared.job.Standing.{Standing}
use Rattle.yds_trace.specs.declared.job.Woken.{Woken}
use Rattle.yds_trace.specs.declared.step.Step.{Step}
use Rattle.yds_trace.specs.declared.step.Step.TheVariants as steps
use Rattle.yds_trace.specs.Asked.{Asked}
use Rattle.yds_trace.specs.Document.{began_before}
use Rattle.yds_trace.specs.Jobs.{Job, Known, began, began_behind, reopened, woken_after, counted, woken_jobs, back_jobs, come_jobs, running_jobs, found_jobs, changed_last, ended, exits, missing, ran, comes, begun_at_most, begun_by, stretch_of, left_unseen, left_from, left_in, left_started, leaves, woken_at, wakes_up, speeds, has_open_job, lost_job, loses, torn_jobs, torn, torn_if, left_if, after_switch, known_after}
use Rattle.yds_trace.specs.Kept.{behind, KeepsLast, AreForgotten, IsFollowed}
use Rattle.yds_trace.specs.Views.{known_read}
use Rattle.yds_trace.specs.Steps.{stepped}
use Rattle.yds_trace.proofs.Listed.{map_reverse}

-- # Jobs

-- The last job is among those kept, if any is forgotten, and these stand behind them.
pub record Split (forgotten whole kept : List Job) : Type 0 where
  pub is : whole ≡ kept ++ forgotten
  pub last : KeepsLast kept forgotten

keeps_none : (jobs : List Job) → KeepsLast jobs []
keeps_none [] = refl
keeps_none (job ∷ jobs) = tt

at_last : (forgotten : List Job) (job : Job) (jobs : List Job) → Split forgotten (job ∷ (jobs ++ forgotten)) (job ∷ jobs)
at_last forgotten job jobs = record { is = refl; last = tt }

-- what acts on the last job
on_last : (act : List Job → List Job) → ((job : Job) (jobs forgotten : List Job) → Split forgotten (act (job ∷ (jobs ++ forgotten))) (act (job ∷ jobs))) →
    (kept forgotten : List Job) → KeepsLast kept forgotten → Split forgotten (act (kept ++ forgotten)) (act kept)
on_last act each [] forgotten none =
    subst (λ (rest : List Job). Split rest (act rest) (act [])) (sym none) (record { is = sym (append-nil (act [])); last = keeps_none (act []) })
on_last act each (job ∷ jobs) forgotten last = each job jobs forgotten

acts : (act : List Job → List Job) → ((job : Job) (jobs forgotten : List Job) → Split forgotten (act (job ∷ (jobs ++ forgotten))) (act (job ∷ jobs))) →
    (forgotten whole kept : List Job) → Split forgotten whole kept → Split forgotten (act whole) (act kept)
acts act each forgotten whole kept split =
    subst (λ (jobs : List Job). Split forgotten (act jobs) (act kept)) (sym split.is) (on_last act each kept forgotten split.last)

split_if : (forgotten : List Job) (b c : Bool) (whole kept other_whole other_kept : List Job) → b ≡ c → Split forgotten whole kept → Split forgotten other_whole other_kept →
    Split forgotten (if b then whole else other_whole) (if c then kept else other_kept)
split_if forgotten true true whole kept other_whole other_kept same split other = split
split_if forgotten true false whole kept other_whole other_kept same split other = absurd cc
split_if forgotten false true whole kept other_whole other_kept same split other = absurd cc
split_if forgotten false false whole kept other_whole other_kept same split other = other

split_end : (forgotten : List Job) (end : End) (whole kept : List Job) (ended_whole ended_kept lost_whole lost_kept : ℕ → List Job) →
    Split forgotten whole kept → ((time : ℕ) → Split forgotten (ended_whole time) (ended_kept time)) →
    ((time : ℕ) → Split forgotten (lost_whole time) (lost_kept time)) →
    Split forgotten
    (elim end [ ends.Open ↦ whole | ends.Ended time ↦ ended_whole time | ends.Lost time ↦ lost_whole time ])
    (elim end [ ends.Open ↦ kept | ends.Ended time ↦ ended_kept time | ends.Lost time ↦ lost_kept time ])
split_end forgotten ends.Open whole kept ew ek lw lk a b c = a
split_end forgotten (ends.Ended time) whole kept ew ek lw lk a b c = b time
split_end forgotten (ends.Lost time) whole kept ew ek lw lk a b c = c time

pub changed_split : (change : Job → Job) (forgotten whole kept : List Job) → Split forgotten whole kept →
    Split forgotten (changed_last change whole) (changed_last change kept)
changed_split change = acts (changed_last change) (λ job jobs forgotten. record { is = refl; last = tt })

woken_after_split : (pace : Pace) (time : ℕ) (job : Job) (jobs forgotten : List Job) →
    Split forgotten (woken_after pace time job (jobs ++ forgotten)) (woken_after pace time job jobs)
woken_after_split pace time job jobs forgotten =
    split_if forgotten (not (nat_lt time (job.begin + pace.apart))) (not (nat_lt time (job.begin + pace.apart))) (began_behind pace.period time job (jobs ++ forgotten)) (began_behind pace.period time job jobs)
    (if job.begin_known then reopened job ∷ (jobs ++ forgotten) else began time false (job ∷ (jobs ++ forgotten)))
    (if job.begin_known then reopened job ∷ jobs else began time false (job ∷ jobs)) refl
    (record { is = refl; last = tt })
    (split_if forgotten job.begin_known job.begin_known (reopened job ∷ (jobs ++ forgotten)) (reopened job ∷ jobs)
    (began time false (job ∷ (jobs ++ forgotten))) (began time false (job ∷ jobs)) refl (record { is = refl; last = tt }) (record { is = refl; last = tt }))

woken_split : (pace : Pace) (time : ℕ) (again : Bool) (forgotten whole kept : List Job) → Split forgotten whole kept →
    Split forgotten (woken_jobs pace time again whole) (woken_jobs pace time again kept)
woken_split pace time again = acts (woken_jobs pace time again) (λ job jobs forgotten.
    split_end forgotten job.end (counted again job ∷ (jobs ++ forgotten)) (counted again job ∷ jobs)
    (λ end. woken_after pace time job (jobs ++ forgotten)) (λ end. woken_after pace time job jobs)
    (λ last. began time true (job ∷ (jobs ++ forgotten))) (λ last. began time true (job ∷ jobs))
    (record { is = refl; last = tt }) (λ end. woken_after_split pace time job jobs forgotten)
    (λ last. record { is = refl; last = tt }))

-- Its thread comes back: the last job goes on, or another one begins, or the last one has no known end.
back_split : (pace : Pace) (time end : ℕ) (ever : Bool) (started : Option ℕ) (job : Job) (jobs forgotten : List Job) →
    Split forgotten (back_jobs pace time end ever started job (jobs ++ forgotten)) (back_jobs pace time end ever started job jobs)
back_split pace time end ever None job jobs forgotten =
    split_if forgotten (ever && is_none job.slept) (ever && is_none job.slept) _ _ _ _ refl (record { is = refl; last = tt }) (record { is = refl; last = tt })
back_split pace time end ever (Some woken) job jobs forgotten = woken_after_split pace woken job jobs forgotten

come_split : (pace : Pace) (time : ℕ) (woken : Woken) (forgotten whole kept : List Job) → Split forgotten whole kept →
    Split forgotten (come_jobs pace time woken whole) (come_jobs pace time woken kept)
come_split pace time woken = acts (come_jobs pace time woken) (λ job jobs forgotten.
    split_end forgotten job.end (job ∷ (jobs ++ forgotten)) (job ∷ jobs)
    (λ end. if woken.seen then back_jobs pace time end woken.ever woken.started job (jobs ++ forgotten) else began time false (job ∷ (jobs ++ forgotten)))
    (λ end. if woken.seen then back_jobs pace time end woken.ever woken.started job jobs else began time false (job ∷ jobs))
    (λ last. began time false (job ∷ (jobs ++ forgotten))) (λ last. began time false (job ∷ jobs))
    (record { is = refl; last = tt })
    (λ end. split_if forgotten woken.seen woken.seen (back_jobs pace time end woken.ever woken.started job (jobs ++ forgotten)) (back_jobs pace time end woken.ever woken.started job jobs)
    (began time false (job ∷ (jobs ++ forgotten))) (began time false (job ∷ jobs)) refl (back_split pace time end woken.ever woken.started job jobs forgotten) (record { is = refl; last = tt }))
    (λ last. record { is = refl; last = tt }))

running_split : (pace : Pace) (time : ℕ) (forgotten whole kept : List Job) → Split forgotten whole kept →
    Split forgotten (running_jobs pace time whole) (running_jobs pace time kept)
running_split pace time = acts (running_jobs pace time) (λ job jobs forgotten.
    split_end forgotten job.end (job ∷ (jobs ++ forgotten)) (job ∷ jobs)
    (λ end. woken_after pace time job (jobs ++ forgotten)) (λ end. woken_after pace time job jobs)
    (λ last. began time false (job ∷ (jobs ++ forgotten))) (λ last. began time false (job ∷ jobs))
    (record { is = refl; last = tt }) (λ end. woken_after_split pace time job jobs forgotten)
    (λ last. record { is = refl; last = tt }))

begun_split : (time : ℕ) (forgotten whole kept : List Job) → Split forgotten whole kept → Split forgotten (begun_by time whole) (begun_by time kept)
begun_split time = acts (begun_by time) (λ job jobs forgotten.
    split_end forgotten job.end (begun_at_most time job ∷ (jobs ++ forgotten)) (begun_at_most time job ∷ jobs)
    (λ end. began time false (job ∷ (jobs ++ forgotten))) (λ end. began time false (job ∷ jobs))
    (λ last. began time false (job ∷ (jobs ++ forgotten))) (λ last. began time false (job ∷ jobs))
    (record { is = refl; last = tt }) (λ end. record { is = refl; last = tt })
    (λ last. record { is = refl; last = tt }))

found_split : (time : ℕ) (certain : Bool) (forgotten whole kept : List Job) → Split forgotten whole kept →
    Split forgotten (found_jobs time certain whole) (found_jobs time certain kept)
found_split time certain = acts (found_jobs time certain) (λ job jobs forgotten.
    split_end forgotten job.end (job ∷ (jobs ++ forgotten)) (job ∷ jobs)
    (λ end. began time certain (job ∷ (jobs ++ forgotten))) (λ end. began time certain (job ∷ jobs))
    (λ last. began time certain (job ∷ (jobs ++ forgotten))) (λ last. began time certain (job ∷ jobs))
    (record { is = refl; last = tt }) (λ end. record { is = refl; last = tt }) (λ last. record { is = refl; last = tt }))

lost_split : (time : ℕ) (kept forgotten : List Job) → KeepsLast kept forgotten →
    Split (map (lost_job time) forgotten) (map (lost_job time) (kept ++ forgotten)) (map (lost_job time) kept)
lost_split time [] forgotten none =
    subst (λ (rest : List Job). Split (map (lost_job time) rest) (map (lost_job time) rest) []) (sym none) (record { is = refl; last = refl })
lost_split time (job ∷ jobs) forgotten last =
    record { is = ap (λ (rest : List Job). lost_job time job ∷ rest) (map-append (lost_job time) jobs forgotten); last = tt }

-- a job begins behind others
begun_more : (time : ℕ) (certain : Bool) (forgotten whole kept : List Job) → Split forgotten whole kept →
    Split forgotten (began time certain whole) (began time certain kept)
begun_more time certain forgotten whole kept split = record { is = ap (began time certain) split.is; last = tt }

-- # What is known of a task

pub record IsBehind (forgotten : List Job) (whole kept : Known) : Type 0 where
  pub is : whole ≡ behind forgotten kept
  pub last : KeepsLast kept.jobs forgotten

of_jobs : (forgotten whole kept : List Job) (on : Option Standing) (woken : Woken) → Split forgotten whole kept →
    IsBehind forgotten (record { jobs = whole; on = on; woken = woken }) (record { jobs = kept; on = on; woken = woken })
of_jobs forgotten whole kept on woken split =
    record { is = ap (λ (jobs : List Job). record { jobs = jobs; on = on; woken = woken }) split.is; last = split.last }

jobs_of : (forgotten : List Job) (whole kept : Known) → IsBehind forgotten whole kept → Split forgotten whole.jobs kept.jobs
jobs_of forgotten whole kept split = record { is = ap (λ (known : Known). known.jobs) split.is; last = split.last }

pub kept_jobs : (forgotten kept : List Job) → KeepsLast kept forgotten → Split forgotten (kept ++ forgotten) kept
kept_jobs forgotten kept last = record { is = refl; last = last }

after : (act : Known → Known) (forgotten : List Job) → ((kept : Known) → KeepsLast kept.jobs forgotten → IsBehind forgotten (act (behind forgotten kept)) (act kept)) →
    (whole kept : Known) → IsBehind forgotten whole kept → IsBehind forgotten (act whole) (act kept)
after act forgotten each whole kept split =
    subst (λ (known : Known). IsBehind forgotten (act known) (act kept)) (sym split.is) (each kept split.last)

known_if : (forgotten : List Job) (b : Bool) (whole kept other_whole other_kept : Known) → IsBehind forgotten whole kept → IsBehind forgotten other_whole other_kept →
    IsBehind forgotten (if b then whole else other_whole) (if b then kept else other_kept)
known_if forgotten true whole kept other_whole other_kept split other = split
known_if forgotten false whole kept other_whole other_kept split other = other

comes_behind : (forgotten : List Job) (pace : Pace) (wakes : Bool) (processor time : ℕ) (kept : Known) → KeepsLast kept.jobs forgotten →
    IsBehind forgotten (comes pace wakes processor time (behind forgotten kept)) (comes pace wakes processor time kept)
comes_behind forgotten pace wakes processor time kept last =
    of_jobs forgotten _ _ (Some (record { processor = processor; came = time; since = time })) _
    (split_if forgotten wakes wakes (come_jobs pace time kept.woken (kept.jobs ++ forgotten)) (come_jobs pace time kept.woken kept.jobs)
    (running_jobs pace time (kept.jobs ++ forgotten)) (running_jobs pace time kept.jobs) refl
    (come_split pace time kept.woken forgotten _ _ (kept_jobs forgotten kept.jobs last))
    (running_split pace time forgotten _ _ (kept_jobs forgotten kept.jobs last)))

unseen_split : (forgotten : List Job) (pace : Pace) (wakes torn : Bool) (leaving : Leaving) (kept : Known) → KeepsLast kept.jobs forgotten →
    Split forgotten (left_unseen pace wakes torn leaving (behind forgotten kept)) (left_unseen pace wakes torn leaving kept)
unseen_split forgotten pace wakes torn leaving kept last =
    let all : Split forgotten (kept.jobs ++ forgotten) kept.jobs = kept_jobs forgotten kept.jobs last in
    split_if forgotten leaving.renamed leaving.renamed _ _ _ _ refl
    (found_split leaving.time true forgotten _ _ all)
    (split_if forgotten (not torn && is_none leaving.switched && not kept.woken.seen) (not torn && is_none leaving.switched && not kept.woken.seen) _ _ _ _ refl
    (changed_split (ran (stretch_of leaving leaving.lines_since)) forgotten _ _ (begun_split leaving.lines_since forgotten _ _ all))
    (changed_split missing forgotten _ _
    (split_if forgotten wakes wakes (come_jobs pace leaving.time kept.woken (kept.jobs ++ forgotten)) (come_jobs pace leaving.time kept.woken kept.jobs)
    (found_jobs leaving.time false (kept.jobs ++ forgotten)) (found_jobs leaving.time false kept.jobs) refl
    (come_split pace leaving.time kept.woken forgotten _ _ all)
    (found_split leaving.time false forgotten _ _ all))))

left_from_on : (forgotten : List Job) (pace : Pace) (wakes torn : Bool) (leaving : Leaving) (on : Option Standing) (jobs : List Job) (woken : Woken) →
    KeepsLast jobs forgotten →
    Split forgotten (left_from pace wakes torn leaving (record { jobs = jobs ++ forgotten; on = on; woken = woken }))
    (left_from pace wakes torn leaving (record { jobs = jobs; on = on; woken = woken }))
left_from_on forgotten pace wakes torn leaving None jobs woken last =
    unseen_split forgotten pace wakes torn leaving (record { jobs = jobs; on = None; woken = woken }) last
left_from_on forgotten pace wakes torn leaving (Some standing) jobs woken last =
    changed_split (ran (stretch_of leaving standing.since)) forgotten (jobs ++ forgotten) jobs (kept_jobs forgotten jobs last)

left_in_split : (forgotten : List Job) (state : State) (time : ℕ) (whole kept : List Job) → Split forgotten whole kept →
    Split forgotten (left_in state time whole) (left_in state time kept)
left_in_split forgotten states.GoesOn time whole kept split = split
left_in_split forgotten states.Sleeps time whole kept split = changed_split (ended time) forgotten whole kept split
left_in_split forgotten states.Exits time whole kept split = changed_split (exits time) forgotten whole kept split
left_in_split forgotten states.Unknown time whole kept split = changed_split (lost_job time) forgotten whole kept split

leaves_behind : (forgotten : List Job) (pace : Pace) (wakes torn : Bool) (state : State) (leaving : Leaving) (kept : Known) → KeepsLast kept.jobs forgotten →
    IsBehind forgotten (leaves pace wakes torn state leaving (behind forgotten kept)) (leaves pace wakes torn state leaving kept)
leaves_behind forgotten pace wakes torn state leaving kept last =
    of_jobs forgotten _ _ None _ (left_in_split forgotten state leaving.time _ _ (left_from_on forgotten pace wakes torn leaving kept.on kept.jobs kept.woken last))

-- Whether a job is open is seen of the last one, which is kept.
pub open_behind : (jobs forgotten : List Job) → KeepsLast jobs forgotten → has_open_job (jobs ++ forgotten) ≡ has_open_job jobs
open_behind [] forgotten none = ap has_open_job none
open_behind (job ∷ jobs) forgotten last = refl

-- what is known of wake-ups behind one, where a job was open before it, or wasn't
abbrev woken_by : Bool → ℕ → Bool → Woken → Woken
woken_by starts time has_open woken =
    record { came = true; started = if starts && (has_open || not woken.seen) then Some time else None; seen = woken.seen; ever = true }

wakes_behind : (forgotten : List Job) (pace : Pace) (starts : Bool) (time : ℕ) (kept : Known) → KeepsLast kept.jobs forgotten →
    IsBehind forgotten (wakes_up pace starts time (behind forgotten kept)) (wakes_up pace starts time kept)
wakes_behind forgotten pace starts time kept last =
    let begin : ℕ = woken_at starts time kept.woken.started in
    let whole : List Job = woken_jobs pace begin kept.woken.came (kept.jobs ++ forgotten) in
    let P : Bool → Type 0 = λ has_open.
    IsBehind forgotten (record { jobs = whole; on = kept.on; woken = woken_by starts time has_open kept.woken }) (wakes_up pace starts time kept) in
    subst P (sym (open_behind kept.jobs forgotten last))
    (of_jobs forgotten _ _ kept.on _ (woken_split pace begin kept.woken.came forgotten _ _ (kept_jobs forgotten kept.jobs last)))

speeds_on : (forgotten : List Job) (processor time : ℕ) (khz : Option ℕ) (on : Option Standing) (jobs : List Job) (woken : Woken) → KeepsLast jobs forgotten →
    IsBehind forgotten (speeds processor time khz (record { jobs = jobs ++ forgotten; on = on; woken = woken }))
    (speeds processor time khz (record { jobs = jobs; on = on; woken = woken }))
speeds_on forgotten processor time khz None jobs woken last = record { is = refl; last = last }
speeds_on forgotten processor time khz (Some standing) jobs woken last =
    known_if forgotten (standing.processor == processor) _ _ _ _
    (of_jobs forgotten _ _ (Some (record standing { since = time })) woken
    (changed_split (ran (record { processor = processor; from = standing.since; to = time; khz = khz })) forgotten _ _ (kept_jobs forgotten jobs last)))
    (record { is = refl; last = last })

pub lost_behind : (forgotten : List Job) (time : ℕ) (kept : Known) → KeepsLast kept.jobs forgotten →
    IsBehind (map (lost_job time) forgotten) (loses time (behind forgotten kept)) (loses time kept)
lost_behind forgotten time kept last = of_jobs (map (lost_job time) forgotten) _ _ None _ (lost_split time kept.jobs forgotten last)

-- # Switches that are missing

-- whether these switches are a loss to a thread's earlier jobs
abbrev pub loses_jobs : Bool → Bool → ℕ → ℕ → Option Standing → Bool
loses_jobs left came processor since None = true
loses_jobs left came processor since (Some standing) = (left || came || (standing.processor == processor)) || nat_lt since standing.came

abbrev pub forgotten_if : Bool → ℕ → List Job → List Job
forgotten_if b since forgotten = if b then map (lost_job since) forgotten else forgotten

elsewhere_behind : (forgotten : List Job) (since : ℕ) (before : Bool) (standing : Standing) (jobs : List Job) (woken : Woken) → KeepsLast jobs forgotten →
    nat_lt since standing.came ≡ before →
    IsBehind (forgotten_if before since forgotten)
    (record { jobs = torn_jobs since standing.came (jobs ++ forgotten); on = Some standing; woken = woken })
    (record { jobs = torn_jobs since standing.came jobs; on = Some standing; woken = woken })
elsewhere_behind forgotten since true standing jobs woken last is =
    of_jobs (map (lost_job since) forgotten) _ _ (Some standing) woken (rw is (begun_more standing.came false (map (lost_job since) forgotten) _ _ (lost_split since jobs forgotten last)))
elsewhere_behind forgotten since false standing jobs woken last is =
    of_jobs forgotten _ _ (Some standing) woken (rw is (kept_jobs forgotten jobs last))

torn_on : (forgotten : List Job) (left came : Bool) (processor since : ℕ) (on : Option Standing) (jobs : List Job) (woken : Woken) → KeepsLast jobs forgotten →
    IsBehind (forgotten_if (loses_jobs left came processor since on) since forgotten)
    (torn left came processor since (record { jobs = jobs ++ forgotten; on = on; woken = woken }))
    (torn left came processor since (record { jobs = jobs; on = on; woken = woken }))
torn_on forgotten left came processor since None jobs woken last = lost_behind forgotten since (record { jobs = jobs; on = None; woken = woken }) last
torn_on forgotten left came processor since (Some standing) jobs woken last = by (left || came || (standing.processor == processor)) refl
  where
    by : (b : Bool) → (left || came || (standing.processor == processor)) ≡ b →
        IsBehind (forgotten_if (b || nat_lt since standing.came) since forgotten)
        (if b then loses since (record { jobs = jobs ++ forgotten; on = Some standing; woken = woken })
        else record { jobs = torn_jobs since standing.came (jobs ++ forgotten); on = Some standing; woken = woken })
        (if b then loses since (record { jobs = jobs; on = Some standing; woken = woken })
        else record { jobs = torn_jobs since standing.came jobs; on = Some standing; woken = woken })
    by true is = lost_behind forgotten since (record { jobs = jobs; on = Some standing; woken = woken }) last
    by false is = elsewhere_behind forgotten since (nat_lt since standing.came) standing jobs woken last refl

-- the forgotten jobs behind them
abbrev pub forgotten_torn : Bool → Bool → ℕ → Option ℕ → Option Standing → List Job → List Job
forgotten_torn left came processor None on forgotten = forgotten
forgotten_torn left came processor (Some since) on forgotten = forgotten_if (loses_jobs left came processor since on) since forgotten

torn_behind : (forgotten : List Job) (left came : Bool) (processor : ℕ) (since : Option ℕ) (kept : Known) → KeepsLast kept.jobs forgotten →
    IsBehind (forgotten_torn left came processor since kept.on forgotten)
    (torn_if left came processor since (behind forgotten kept)) (torn_if left came processor since kept)
torn_behind forgotten left came processor None kept last = record { is = refl; last = last }
torn_behind forgotten left came processor (Some since) kept last = torn_on forgotten left came processor since kept.on kept.jobs kept.woken last

switch_behind : (forgotten : List Job) (pace : Pace) (wakes left came : Bool) (state : State) (leaving : Leaving) (since : Option ℕ) (kept : Known) →
    KeepsLast kept.jobs forgotten →
    IsBehind (forgotten_torn left came leaving.processor since kept.on forgotten)
    (after_switch pace wakes left came state leaving since (behind forgotten kept)) (after_switch pace wakes left came state leaving since kept)
switch_behind forgotten pace wakes left came state leaving since kept last =
    let next : List Job = forgotten_torn left came leaving.processor since kept.on forgotten in
    let torn : IsBehind next (torn_if left came leaving.processor since (behind forgotten kept)) (torn_if left came leaving.processor since kept) =
    torn_behind forgotten left came leaving.processor since kept last in
    let gone : IsBehind next (left_if pace wakes (is_some since) left state leaving (torn_if left came leaving.processor since (behind forgotten kept)))
    (left_if pace wakes (is_some since) left state leaving (torn_if left came leaving.processor since kept)) =
    known_if next left _ _ _ _
    (after (leaves pace wakes (is_some since) state leaving) next (leaves_behind next pace wakes (is_some since) state leaving) _ _ torn) torn in
    known_if next came _ _ _ _
    (after (comes pace wakes leaving.processor leaving.time) next (comes_behind next pace wakes leaving.processor leaving.time) _ _ gone) gone

-- # Steps

-- the forgotten jobs after an event, by which their thread leaves, or comes, or another one does
abbrev pub forgotten_after : Bool → Bool → Step → Option Standing → List Job → List Job
forgotten_after first second (steps.Switch state leaving missing) on forgotten = forgotten_torn first second leaving.processor missing on forgotten
forgotten_after first second (steps.WakeUp time starts) on forgotten = forgotten
forgotten_after first second (steps.Speed processor time khz) on forgotten = forgotten
forgotten_after first second (steps.Loss since) on forgotten = map (lost_job since) forgotten
forgotten_after first second steps.Nothing on forgotten = forgotten

-- What an event is to the whole it is to what is kept.
pub stepped_behind : (forgotten : List Job) (pace : Pace) (wakes first second : Bool) (step : Step) (kept : Known) → KeepsLast kept.jobs forgotten →
    IsBehind (forgotten_after first second step kept.on forgotten)
    (stepped pace wakes first second step (behind forgotten kept)) (stepped pace wakes first second step kept)
stepped_behind forgotten pace wakes first second (steps.Switch state leaving missing) kept last =
    switch_behind forgotten pace wakes first second state leaving missing kept last
stepped_behind forgotten pace wakes first second (steps.WakeUp time starts) kept last =
    known_if forgotten (first && wakes) _ _ _ _ (wakes_behind forgotten pace starts time kept last) (record { is = refl; last = last })
stepped_behind forgotten pace wakes first second (steps.Speed processor time khz) kept last =
    speeds_on forgotten processor time khz kept.on kept.jobs kept.woken last
stepped_behind forgotten pace wakes first second (steps.Loss since) kept last = lost_behind forgotten since kept last
stepped_behind forgotten pace wakes first second steps.Nothing kept last = record { is = refl; last = last }

-- # What is kept of the forgotten jobs

first_lost : (time : ℕ) (jobs : List Job) → began_before (map (lost_job time) jobs) ≡ began_before jobs
first_lost time [] = refl
first_lost time (job ∷ jobs) = refl

-- It stays where events were lost.
pub lost_are_forgotten : (time boundary : ℕ) (forgotten : List Job) (count : ℕ) (before : Bool) → AreForgotten boundary forgotten count before →
    AreForgotten boundary (map (lost_job time) forgotten) count before
lost_are_forgotten time boundary forgotten count before are = record {
  earlier = All-map (λ (job : Job). job.begin < boundary) (lost_job time) forgotten are.earlier;
  as_many = are.as_many ∙ sym (length-map forgotten (lost_job time));
  before = are.before ∙ sym (first_lost time forgotten);
}

torn_are_forgotten : (b : Bool) (time boundary : ℕ) (forgotten : List Job) (count : ℕ) (before : Bool) → AreForgotten boundary forgotten count before →
    AreForgotten boundary (forgotten_if b time forgotten) count before
torn_are_forgotten true time boundary forgotten count before are = lost_are_forgotten time boundary forgotten count before are
torn_are_forgotten false time boundary forgotten count before are = are

pub are_forgotten_after : (first second : Bool) (step : Step) (on : Option Standing) (boundary : ℕ) (forgotten : List Job) (count : ℕ) (before : Bool) →
    AreForgotten boundary forgotten count before → AreForgotten boundary (forgotten_after first second step on forgotten) count before
are_forgotten_after first second (steps.Switch state leaving None) on boundary forgotten count before are = are
are_forgotten_after first second (steps.Switch state leaving (Some since)) on boundary forgotten count before are =
    torn_are_forgotten (loses_jobs first second leaving.processor since on) since boundary forgotten count before are
are_forgotten_after first second (steps.WakeUp time starts) on boundary forgotten count before are = are
are_forgotten_after first second (steps.Speed processor time khz) on boundary forgotten count before are = are
are_forgotten_after first second (steps.Loss since) on boundary forgotten count before are = lost_are_forgotten since boundary forgotten count before are
are_forgotten_after first second steps.Nothing on boundary forgotten count before are = are

torn_reverse : (b : Bool) (since : ℕ) (forgotten : List Job) → forgotten_if b since (reverse forgotten) ≡ reverse (forgotten_if b since forgotten)
torn_reverse true since forgotten = map_reverse (lost_job since) forgotten
torn_reverse false since forgotten = refl

pub forgotten_reverse : (first second : Bool) (step : Step) (on : Option Standing) (forgotten : List Job) →
    forgotten_after first second step on (reverse forgotten) ≡ reverse (forgotten_after first second step on forgotten)
forgotten_reverse first second (steps.Switch state leaving None) on forgotten = refl
forgotten_reverse first second (steps.Switch state leaving (Some since)) on forgotten =
    torn_reverse (loses_jobs first second leaving.processor since on) since forgotten
forgotten_reverse first second (steps.WakeUp time starts) on forgotten = refl
forgotten_reverse first second (steps.Speed processor time khz) on forgotten = refl
forgotten_reverse first second (steps.Loss since) on forgotten = map_reverse (lost_job since) forgotten
forgotten_reverse first second steps.Nothing on forgotten = refl

pub forgotten_kept : (boundary : ℕ) (forgotten : List Job) (was now : ℕ) (before after : Bool) → now ≡ was → after ≡ before →
    AreForgotten boundary forgotten was before → AreForgotten boundary forgotten now after
forgotten_kept boundary forgotten was now before after same_number same are =
    record { earlier = are.earlier; as_many = same_number ∙ are.as_many; before = same ∙ are.before }

-- # Without a boundary

-- No job begins before time 0.
pub none_before : (forgotten : List Job) → All (λ (job : Job). job.begin < 0) forgotten → forgotten ≡ []
none_before [] all = refl
none_before (job ∷ jobs) all = absurd (omega (arith, all 0 job (omega arith)))

-- With boundary 0 nothing is forgotten.
pub known_whole : (asked : Asked) (counting : List Said) (number : ℕ) (followed : Followed) → IsFollowed asked counting 0 number followed →
    known_read followed.known ≡ known_after asked number counting
known_whole asked counting number followed is =
    let none : is.forgotten ≡ [] = none_before is.forgotten is.are_forgotten.earlier in
    sym (ap (λ (jobs : List Job). record { jobs = jobs; on = followed.known.on; woken = followed.known.woken }) (append-nil (known_read followed.known).jobs))
    ∙ ap (λ (jobs : List Job). behind (reverse jobs) (known_read followed.known)) (sym none)
    ∙ is.known

pub suc_not_zero : (n : ℕ) → (suc n == 0) ≡ false
suc_not_zero n = let other : suc n ≢ 0 = omega arith in ne_eqb (suc n) 0 other
