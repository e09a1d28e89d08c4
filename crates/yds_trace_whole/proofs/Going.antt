-- What an event does to the jobs that are told: nothing, where these are settled. And what is known of each job's times stays so.
use Rattle.yds_model.proofs.Common.{◌≡◌, ◌∙◌, ℕ, ◌+◌, ◌<◌, ◌≤◌, ◌⊎◌, inl, inr, ◌==◌, ◌&&◌, List, [], ◌∷◌, map, min, Bool, true, false, not, nat_lt, if◌then◌else◌, Option, Some, None, is_none, refl, sym, ap, subst, arith, ltb-true, le-ltb, le_refl, and_parts, cond_both, not-true, unwrap_or, ◌||◌, is_some, ltb-false, false≢true, true≢false}
use Rattle.std.specs.List.{AllByRecursion}
use Rattle.yds_kernel.specs.declared.state.State.{State}
use Rattle.yds_kernel.specs.declared.state.State.TheVariants as states
use Rattle.yds_trace.specs.declared.job.End.{End}
use Rattle.yds_trace.specs.declared.job.End.TheVariants as ends
use Rattle.yds_trace.specs.declared.job.Stretch.{Stretch}
use Rattle.yds_trace.specs.declared.job.Standing.{Standing}
use Rattle.yds_trace.specs.declared.job.Leaving.{Leaving}
use Rattle.yds_trace.specs.declared.job.Woken.{Woken}
use Rattle.yds_trace.specs.declared.job.Pace.{Pace}
use Rattle.yds_trace.specs.Jobs.{Job, Known, new_job, began, due_behind, began_behind, reopened, woken_after, counted, woken_jobs, went_on, unended, back_jobs, come_jobs, running_jobs, found_jobs, changed_last, ended, exits, missing, ran, is_open_or_woken, is_awake, is_there, torn_jobs, torn, torn_if, comes, begun_at_most, begun_by, stretch_of, left_unseen, left_from, left_in, leaves, not_seen, may_run, wakes_up, speeds, open_until, lost_end, lost_job, loses, after_switch}
use Rattle.yds_trace_laws.proofs.Runs.{all_weaker}
use Rattle.yds_trace_whole.proofs.Told.{Told, told, new_told, changed_told, AreAlike, alike_told, Each}

-- # What holds of each job

-- Its end is no later than a time.
abbrev pub IsSoundEnd : ℕ → End → Type 0
IsSoundEnd now ends.Open = Unit {0}
IsSoundEnd now (ends.Ended end) = end ≤ now
IsSoundEnd now (ends.Lost since) = since ≤ now

-- up to when a job may have run
abbrev pub latest : ℕ → End → ℕ
latest now (ends.Ended end) = end
latest now _ = now

-- A stretch lies between two times.
abbrev pub IsSpan : ℕ → ℕ → Stretch → Type 0
IsSpan from to stretch = (from ≤ stretch.from) × (stretch.from ≤ stretch.to) × (stretch.to ≤ to)

abbrev pub AreSpans : ℕ → ℕ → List Stretch → Type 0
AreSpans from to stretches = AllByRecursion (IsSpan from to) stretches

-- Where a job's begin isn't known, its deadline counts from no earlier time.
abbrev pub IsDueOn : Job → Type 0
IsDueOn job = job.begin_known ≡ false → job.begin ≤ job.due_from

-- And its stretches lie between its begin and its end, and so does its first sleep from which it went on.
abbrev pub IsSound : ℕ → Job → Type 0
IsSound now job =
    (job.begin ≤ now) × IsSoundEnd now job.end × (job.begin ≤ latest now job.end) × AreSpans job.begin (latest now job.end) job.stretches × (unwrap_or job.slept 0 ≤ now)
    × IsDueOn job

abbrev pub AreSound : ℕ → List Job → Type 0
AreSound now jobs = AllByRecursion (IsSound now) jobs

later_end : (now later : ℕ) (end : End) → now ≤ later → IsSoundEnd now end → IsSoundEnd later end
later_end now later ends.Open on sound = tt
later_end now later (ends.Ended end) on sound = omega (arith, on, sound)
later_end now later (ends.Lost since) on sound = omega (arith, on, sound)

latest_by : (now : ℕ) (end : End) → IsSoundEnd now end → latest now end ≤ now
latest_by now ends.Open sound = omega arith
latest_by now (ends.Ended end) sound = sound
latest_by now (ends.Lost since) sound = omega arith

latest_later : (now later : ℕ) (end : End) → now ≤ later → latest now end ≤ latest later end
latest_later now later ends.Open on = on
latest_later now later (ends.Ended end) on = omega arith
latest_later now later (ends.Lost since) on = on

pub wider : (from to more : ℕ) (stretches : List Stretch) → to ≤ more → AreSpans from to stretches → AreSpans from more stretches
wider from to more stretches on spans =
    all_weaker (IsSpan from to) (IsSpan from more) (λ stretch is. (is.0, is.1, omega (arith, is.2, on))) stretches spans

-- a sound job whose end is another one, up to which it may have run
other_end : (now : ℕ) (job : Job) (end : End) → IsSound now job → IsSoundEnd now end → now ≤ latest now end → IsSound now (record job { end = end })
other_end now job end sound now_sound on =
    let most : latest now job.end ≤ now = latest_by now job.end sound.1 in
    (sound.0, now_sound, omega (arith, sound.0, on), wider job.begin (latest now job.end) (latest now end) job.stretches (omega (arith, most, on)) sound.3, sound.4, sound.5)

pub later_sound : (now later : ℕ) (jobs : List Job) → now ≤ later → AreSound now jobs → AreSound later jobs
later_sound now later jobs on sound =
    all_weaker (IsSound now) (IsSound later) (λ job is. (
      omega (arith, on, is.0),
      later_end now later job.end on is.1,
      omega (arith, is.2, latest_later now later job.end on),
      wider job.begin (latest now job.end) (latest later job.end) job.stretches (latest_later now later job.end on) is.3,
      omega (arith, on, is.4),
      is.5,
    )) jobs sound

-- a job of which nothing more is known from its first sleep without a wake-up on
unended_sound : (now end : ℕ) (job : Job) → job.end ≡ ends.Ended end → IsSound now job → IsSound now (unended end job)
unended_sound now end job is sound =
    other_end now job (ends.Lost (unwrap_or job.slept end)) sound (by job.slept sound.4) (omega arith)
  where
    over : end ≤ now
    over = subst (IsSoundEnd now) is sound.1

    by : (slept : Option ℕ) → unwrap_or slept 0 ≤ now → unwrap_or slept end ≤ now
    by None first = over
    by (Some first) early = early

-- # What holds of the last job

-- There is one, and it is open.
abbrev pub IsLastOpen : List Job → Type 0
IsLastOpen [] = ⊥
IsLastOpen (job ∷ jobs) = job.end ≡ ends.Open

-- It began by this time.
abbrev pub IsLastBy : ℕ → List Job → Type 0
IsLastBy time [] = Unit {0}
IsLastBy time (job ∷ jobs) = job.begin ≤ time

-- Its thread runs, and came by this time; and the job began before it ran.
abbrev pub StandsBy : ℕ → Option Standing → List Job → Type 0
StandsBy now None jobs = Unit {0}
StandsBy now (Some standing) jobs = (standing.came ≤ standing.since) × IsLastOpen jobs × IsLastBy standing.since jobs × (standing.since ≤ now)

abbrev pub IsOff : Option Standing → Type 0
IsOff None = Unit {0}
IsOff (Some standing) = ⊥

-- A job with this end ends so, unless a wake-up goes on with it.
abbrev pub IsDone : End → Type 0
IsDone ends.Open = ⊥
IsDone (ends.Ended end) = Unit {0}
IsDone (ends.Lost since) = Unit {0}

-- It doesn't begin before the boundary.
abbrev pub IsFree : ℕ → List Job → Type 0
IsFree boundary [] = Unit {0}
IsFree boundary (job ∷ jobs) = boundary ≤ job.begin

-- Or nothing changes it.
abbrev pub IsLeft : ℕ → Option Standing → List Job → Type 0
IsLeft boundary on [] = Unit {0}
IsLeft boundary on (job ∷ jobs) = (boundary ≤ job.begin) ⊎ (IsDone job.end × IsOff on)

-- No wake-up at this time goes on with it.
abbrev pub IsRipeEnd : ℕ → ℕ → End → Type 0
IsRipeEnd until time ends.Open = Unit {0}
IsRipeEnd until time (ends.Ended end) = until ≤ time
IsRipeEnd until time (ends.Lost since) = Unit {0}

abbrev pub IsRipe : ℕ → ℕ → ℕ → List Job → Type 0
IsRipe boundary apart time [] = Unit {0}
IsRipe boundary apart time (job ∷ jobs) = (boundary ≤ job.begin) ⊎ IsRipeEnd (job.begin + apart) time job.end

pub free_left : (boundary : ℕ) (on : Option Standing) (jobs : List Job) → IsFree boundary jobs → IsLeft boundary on jobs
free_left boundary on [] free = tt
free_left boundary on (job ∷ jobs) free = inl free

pub free_ripe : (boundary apart time : ℕ) (jobs : List Job) → IsFree boundary jobs → IsRipe boundary apart time jobs
free_ripe boundary apart time [] free = tt
free_ripe boundary apart time (job ∷ jobs) free = inl free

-- who runs has a job that may change
pub standing_free : (boundary : ℕ) (standing : Standing) (jobs : List Job) → IsLeft boundary (Some standing) jobs → IsFree boundary jobs
standing_free boundary standing [] left = tt
standing_free boundary standing (job ∷ jobs) (inl free) = free
standing_free boundary standing (job ∷ jobs) (inr done) = absurd done.1

-- A job whose thread may have such a wake-up: it is open, or its end was seen.
abbrev pub IsAwaited : Bool → End → Type 0
IsAwaited seen ends.Open = Unit {0}
IsAwaited seen (ends.Ended end) = seen ≡ true
IsAwaited seen (ends.Lost since) = ⊥

-- It began before that wake-up; or it is known to have begun behind it, as another name's job.
abbrev pub IsBegunBy : ℕ → Bool → Job → Type 0
IsBegunBy at seen job = (job.begin ≤ at) ⊎ ((job.begin_known ≡ true) × (seen ≡ true))

abbrev pub IsLastAwaited : ℕ → Bool → List Job → Type 0
IsLastAwaited at seen [] = ⊥
IsLastAwaited at seen (job ∷ jobs) = IsBegunBy at seen job × IsAwaited seen job.end

-- its thread came to its processor by then, where it has one
abbrev pub HasCome : ℕ → Option Standing → Type 0
HasCome at None = Unit {0}
HasCome at (Some standing) = standing.came ≤ at

-- A wake-up that was started came by now, behind its thread's coming.
abbrev pub IsStarted : ℕ → Woken → Option Standing → List Job → Type 0
IsStarted now woken on jobs = (at : ℕ) → woken.started ≡ Some at → IsLastAwaited at woken.seen jobs × (at ≤ now) × HasCome at on

-- Where its thread comes behind a sleep of which all is told, the last job isn't before the boundary.
abbrev pub IsBack : ℕ → Woken → List Job → Type 0
IsBack boundary woken [] = Unit {0}
IsBack boundary woken (job ∷ jobs) = (end : ℕ) → job.end ≡ ends.Ended end → woken.seen ≡ true → boundary ≤ job.begin

pub free_back : (boundary : ℕ) (woken : Woken) (jobs : List Job) → IsFree boundary jobs → IsBack boundary woken jobs
free_back boundary woken [] free = tt
free_back boundary woken (job ∷ jobs) free = λ end is seen. free

-- # The jobs of a task, where `all` are told

pub record Keeps (boundary now : ℕ) (all : List Told) (known : Known) : Type 0 where
  pub told : told boundary known.jobs ≡ all
  pub sound : AreSound now known.jobs
  pub last : IsLeft boundary known.on known.jobs
  pub stands : StandsBy now known.on known.jobs
  pub started : IsStarted now known.woken known.on known.jobs

-- and the last one may change
record Fresh (boundary now : ℕ) (all : List Told) (jobs : List Job) : Type 0 where
  told : told boundary jobs ≡ all
  sound : AreSound now jobs
  free : IsFree boundary jobs

-- and it is open
record Going (boundary now : ℕ) (all : List Told) (jobs : List Job) : Type 0 where
  told : told boundary jobs ≡ all
  sound : AreSound now jobs
  free : IsFree boundary jobs
  last_open : IsLastOpen jobs

fresh_keeps : (boundary now : ℕ) (all : List Told) (jobs : List Job) (woken : Woken) → Fresh boundary now all jobs → IsStarted now woken None jobs →
    Keeps boundary now all (record { jobs = jobs; on = None; woken = woken })
fresh_keeps boundary now all jobs woken fresh started =
    record { told = fresh.told; sound = fresh.sound; last = free_left boundary None jobs fresh.free; stands = tt; started = started }

-- no wake-up was started
none_started : (now : ℕ) (seen : Bool) (on : Option Standing) (jobs : List Job) (at : ℕ) → ◌≡◌ {A = Option ℕ} None (Some at) →
    IsLastAwaited at seen jobs × (at ≤ now) × HasCome at on
none_started now seen on jobs at none = absurd (cc none)

-- Of an open job, which began by now.
going_started : (boundary now at : ℕ) (all : List Told) (seen : Bool) (jobs : List Job) → now ≤ at → Going boundary now all jobs → IsLastAwaited at seen jobs
going_started boundary now at all seen [] on going = absurd going.last_open
going_started boundary now at all seen (job ∷ jobs) on going =
    (inl (let begun : job.begin ≤ now = going.sound.0.0 in omega (arith, on, begun)), subst (IsAwaited seen) (sym going.last_open) tt)

going_fresh : (boundary now : ℕ) (all : List Told) (jobs : List Job) → Going boundary now all jobs → Fresh boundary now all jobs
going_fresh boundary now all jobs going = record { told = going.told; sound = going.sound; free = going.free }

by_end : (P : List Job → Type 0) (end : End) (whole : List Job) (ended : ℕ → List Job) (lost : ℕ → List Job) →
    (end ≡ ends.Open → P whole) → ((time : ℕ) → end ≡ ends.Ended time → P (ended time)) → ((time : ℕ) → end ≡ ends.Lost time → P (lost time)) →
    P (elim end [ ends.Open ↦ whole | ends.Ended time ↦ ended time | ends.Lost time ↦ lost time ])
by_end P ends.Open whole ended lost a b c = a refl
by_end P (ends.Ended time) whole ended lost a b c = b time refl
by_end P (ends.Lost time) whole ended lost a b c = c time refl

either : {A : Type 0} (P : A → Type 0) (b : Bool) (x y : A) → P x → P y → P (if b then x else y)
either P true x y first second = first
either P false x y first second = second

-- # Losses

-- A job whose end is known by the time since when events were lost.
abbrev pub IsKnownBy : ℕ → End → Type 0
IsKnownBy since ends.Open = ⊥
IsKnownBy since (ends.Ended end) = end ≤ since
IsKnownBy since (ends.Lost last) = last ≤ since

lost_end_same : (since : ℕ) (slept : Option ℕ) (end : End) → IsKnownBy since end → lost_end since slept end ≡ end
lost_end_same since slept ends.Open known = absurd known
lost_end_same since slept (ends.Ended end) known = ap (λ (b : Bool). if b then ends.Lost (open_until since slept) else ends.Ended end) (le-ltb since end known)
lost_end_same since slept (ends.Lost last) known = ap ends.Lost (let e : min since last ≡ last = omega (arith, known) in e)

with_end : (job : Job) (end : End) → end ≡ job.end → record job { end = end } ≡ job
with_end job end is = ap (λ (e : End). record job { end = e }) is

lost_alike : (boundary since : ℕ) (jobs : List Job) → Each (λ job. IsKnownBy since job.end) boundary jobs → AreAlike boundary jobs (map (lost_job since) jobs)
lost_alike boundary since [] known = tt
lost_alike boundary since (job ∷ jobs) known = (
  record { begin = refl; known = refl; same = λ early. with_end job (lost_end since job.slept job.end) (lost_end_same since job.slept job.end (known.0 early)) },
  lost_alike boundary since jobs known.1,
)

-- a sound job whose end is lost, or stays
sound_if : (now since : ℕ) (job : Job) (b : Bool) (end : End) → since ≤ now → job.end ≡ end → IsSound now job → IsSound now (record job { end = if b then ends.Lost since else end })
sound_if now since job true end by is sound = other_end now job (ends.Lost since) sound by (omega arith)
sound_if now since job false end by is sound = subst (λ (e : End). IsSound now (record job { end = e })) is sound

lost_end_sound : (now since : ℕ) (slept : Option ℕ) (job : Job) (end : End) → since ≤ now → job.end ≡ end → IsSound now job →
    IsSound now (record job { end = lost_end since slept end })
lost_end_sound now since slept job ends.Open by is sound = other_end now job (ends.Lost (open_until since slept)) sound (omega (arith, by)) (omega arith)
lost_end_sound now since slept job (ends.Ended end) by is sound =
    sound_if now (open_until since slept) job (nat_lt since end) (ends.Ended end) (omega (arith, by)) is sound
lost_end_sound now since slept job (ends.Lost last) by is sound = other_end now job (ends.Lost (min since last)) sound (omega (arith, by)) (omega arith)

lost_sound : (now since : ℕ) (jobs : List Job) → since ≤ now → AreSound now jobs → AreSound now (map (lost_job since) jobs)
lost_sound now since [] by sound = tt
lost_sound now since (job ∷ jobs) by sound = (lost_end_sound now since job.slept job job.end by refl sound.0, lost_sound now since jobs by sound.1)

done_if : (since : ℕ) (b : Bool) (end : End) → IsDone end → IsDone (if b then ends.Lost since else end)
done_if since true end done = tt
done_if since false end done = done

lost_done : (since : ℕ) (slept : Option ℕ) (end : End) → IsDone (lost_end since slept end)
lost_done since slept ends.Open = tt
lost_done since slept (ends.Ended end) = done_if (open_until since slept) (nat_lt since end) (ends.Ended end) tt
lost_done since slept (ends.Lost last) = tt

lost_left : (boundary since : ℕ) (on : Option Standing) (jobs : List Job) → IsLeft boundary on jobs → IsLeft boundary None (map (lost_job since) jobs)
lost_left boundary since on [] last = tt
lost_left boundary since on (job ∷ jobs) (inl free) = inl free
lost_left boundary since on (job ∷ jobs) (inr done) = inr (lost_done since job.slept job.end, tt)

-- what is told stays, where all its ends are known by then
lost_told : (boundary since : ℕ) (jobs : List Job) → Each (λ job. IsKnownBy since job.end) boundary jobs → told boundary (map (lost_job since) jobs) ≡ told boundary jobs
lost_told boundary since jobs known = alike_told boundary jobs (map (lost_job since) jobs) (lost_alike boundary since jobs known)

-- A loss since a time by which all ends are known that are told.
pub loses_keeps : (boundary now : ℕ) (all : List Told) (since : ℕ) (known : Known) → since ≤ now → Each (λ job. IsKnownBy since job.end) boundary known.jobs →
    Keeps boundary now all known → Keeps boundary now all (loses since known)
loses_keeps boundary now all since known by ends_known keeps = record {
  told = lost_told boundary since known.jobs ends_known ∙ keeps.told;
  sound = lost_sound now since known.jobs by keeps.sound;
  last = lost_left boundary since known.on known.jobs keeps.last;
  stands = tt;
  started = none_started now false None _;
}

-- What is lost is ripe where it was.
ripe_if : (until time since : ℕ) (b : Bool) (end : End) → IsRipeEnd until time end → IsRipeEnd until time (if b then ends.Lost since else end)
ripe_if until time since true end ripe = tt
ripe_if until time since false end ripe = ripe

-- an end that is lost, or stays
lost_ripe_end : (until time since : ℕ) (slept : Option ℕ) (end : End) → IsRipeEnd until time end → IsRipeEnd until time (lost_end since slept end)
lost_ripe_end until time since slept ends.Open ripe = tt
lost_ripe_end until time since slept (ends.Ended end) ripe = ripe_if until time (open_until since slept) (nat_lt since end) (ends.Ended end) ripe
lost_ripe_end until time since slept (ends.Lost last) ripe = tt

-- the last job of those that are lost
lost_ripe : (boundary apart time since : ℕ) (jobs : List Job) → IsRipe boundary apart time jobs → IsRipe boundary apart time (map (lost_job since) jobs)
lost_ripe boundary apart time since [] ripe = tt
lost_ripe boundary apart time since (job ∷ jobs) (inl free) = inl free
lost_ripe boundary apart time since (job ∷ jobs) (inr ripe) = inr (lost_ripe_end (job.begin + apart) time since job.slept job.end ripe)

-- Of what is lost nothing was seen.
lost_back : (boundary since : ℕ) (known : Known) → IsBack boundary not_seen (map (lost_job since) known.jobs)
lost_back boundary since known = by (map (lost_job since) known.jobs)
  where
    by : (jobs : List Job) → IsBack boundary not_seen jobs
    by [] = tt
    by (job ∷ jobs) = λ end is seen. absurd (false≢true seen)

module _ (boundary now : ℕ) (all : List Told) where
  changed_going : (change : Job → Job) → ((job : Job) → boundary ≤ job.begin → IsSound now job → job.end ≡ ends.Open →
      (boundary ≤ (change job).begin) × IsSound now (change job) × ((change job).end ≡ ends.Open)) →
      (jobs : List Job) → Going boundary now all jobs → Going boundary now all (changed_last change jobs)
  changed_going change each [] going = going
  changed_going change each (job ∷ jobs) going =
      let still = each job going.free going.sound.0 going.last_open in
      record {
        told = changed_told boundary job (change job) jobs going.free still.0 ∙ going.told;
        sound = (still.1, going.sound.1);
        free = still.0;
        last_open = still.2;
      }

  changed_fresh : (change : Job → Job) → ((job : Job) → boundary ≤ job.begin → IsSound now job → (boundary ≤ (change job).begin) × IsSound now (change job)) →
      (jobs : List Job) → Fresh boundary now all jobs → Fresh boundary now all (changed_last change jobs)
  changed_fresh change each [] fresh = fresh
  changed_fresh change each (job ∷ jobs) fresh =
      let still = each job fresh.free fresh.sound.0 in
      record {
        told = changed_told boundary job (change job) jobs fresh.free still.0 ∙ fresh.told;
        sound = (still.1, fresh.sound.1);
        free = still.0;
      }

  -- a stretch since a time by which the job began
  ran_going : (stretch : Stretch) (jobs : List Job) → IsLastBy stretch.from jobs → stretch.from ≤ stretch.to → stretch.to ≤ now → Going boundary now all jobs →
      Fresh boundary now all (changed_last (ran stretch) jobs)
  ran_going stretch [] from forward by going = record { told = going.told; sound = going.sound; free = going.free }
  ran_going stretch (job ∷ jobs) from forward by going =
      let whole : now ≡ latest now job.end = subst (λ (end : End). now ≡ latest now end) (sym going.last_open) refl in
      record {
        told = changed_told boundary job (ran stretch job) jobs going.free going.free ∙ going.told;
        sound = ((going.sound.0.0, going.sound.0.1, going.sound.0.2, ((from, forward, omega (arith, by, whole)), going.sound.0.3), going.sound.0.4, going.sound.0.5), going.sound.1);
        free = going.free;
      }

  missing_going : (jobs : List Job) → Going boundary now all jobs → Going boundary now all (changed_last missing jobs)
  missing_going =
      changed_going missing (λ job late sound last_open. (late, sound, last_open))

  -- a job that begins not before the boundary
  first_going : (time due_from : ℕ) (certain : Bool) (jobs : List Job) → (certain ≡ false → time ≤ due_from) → boundary ≤ time → time ≤ now → told boundary jobs ≡ all →
      AreSound now jobs → Going boundary now all (new_job time due_from certain ∷ jobs)
  first_going time due_from certain jobs due late by is sound =
      record { told = new_told boundary (new_job time due_from certain) jobs late ∙ is; sound = ((by, tt, by, tt, omega arith, due), sound); free = late; last_open = refl }

  new_going : (time : ℕ) (certain : Bool) (jobs : List Job) → boundary ≤ time → time ≤ now → told boundary jobs ≡ all → AreSound now jobs →
      Going boundary now all (began time certain jobs)
  new_going time certain jobs late by is sound = first_going time time certain jobs (λ unknown. le_refl time) late by is sound

  reopened_going : (job : Job) (jobs : List Job) → boundary ≤ job.begin → told boundary (job ∷ jobs) ≡ all → AreSound now (job ∷ jobs) →
      Going boundary now all (reopened job ∷ jobs)
  reopened_going job jobs late is sound =
      record {
        told = changed_told boundary job (reopened job) jobs late late ∙ is;
        sound = (other_end now job ends.Open sound.0 tt (omega arith), sound.1);
        free = late;
        last_open = refl;
      }

  -- the last job, where it has this end that isn't done
  undone : (on : Option Standing) (job : Job) (end : End) → job.end ≡ end → (IsDone end → ⊥) → (boundary ≤ job.begin) ⊎ (IsDone job.end × IsOff on) → boundary ≤ job.begin
  undone on job end is not_done (inl late) = late
  undone on job end is not_done (inr done) = absurd (not_done (subst IsDone is done.0))

  open_going : (on : Option Standing) (job : Job) (jobs : List Job) → job.end ≡ ends.Open → told boundary (job ∷ jobs) ≡ all → AreSound now (job ∷ jobs) →
      (boundary ≤ job.begin) ⊎ (IsDone job.end × IsOff on) → Going boundary now all (job ∷ jobs)
  open_going on job jobs last_open is sound last =
      record { told = is; sound = sound; free = undone on job ends.Open last_open (λ done. done) last; last_open = last_open }

  -- # A wake-up, a run

  -- A wake-up at a time that may be before the boundary, behind a last job that may change.
  woken_late_going : (pace : Pace) (at : ℕ) (job : Job) (jobs : List Job) → at ≤ now → boundary ≤ job.begin → (job.begin ≤ at) ⊎ (job.begin_known ≡ true) →
      told boundary (job ∷ jobs) ≡ all → AreSound now (job ∷ jobs) → Going boundary now all (woken_after pace at job jobs)
  woken_late_going pace at job jobs by free begun is sound = which (nat_lt at (job.begin + pace.apart)) refl
    where
      unknown : (b : Bool) → job.begin_known ≡ b → (job.begin ≤ at) ⊎ (job.begin_known ≡ true) →
          Going boundary now all (if b then reopened job ∷ jobs else began at false (job ∷ jobs))
      unknown true known begun = reopened_going job jobs free is sound
      unknown false known (inl early) = new_going at false (job ∷ jobs) (omega (arith, free, early)) by is sound
      unknown false known (inr certain) = absurd (let no : false ≡ true = sym known ∙ certain in false≢true no)

      which : (b : Bool) → nat_lt at (job.begin + pace.apart) ≡ b →
          Going boundary now all (if not b then began_behind pace.period at job jobs else (if job.begin_known then reopened job ∷ jobs else began at false (job ∷ jobs)))
      which true soon = unknown job.begin_known refl begun
      which false soon =
          let over : job.begin + pace.apart ≤ at = ltb-false at (job.begin + pace.apart) soon in
          first_going at (due_behind pace.period at job) true (job ∷ jobs) (λ unknown. absurd (true≢false unknown)) (omega (arith, free, over)) by is sound

  -- a wake-up more of the last job
  counted_going : (again : Bool) (job : Job) (jobs : List Job) → Going boundary now all (job ∷ jobs) → Going boundary now all (counted again job ∷ jobs)
  counted_going true job jobs going = going
  counted_going false job jobs going =
      record { told = changed_told boundary job (counted false job) jobs going.free going.free ∙ going.told; sound = going.sound; free = going.free; last_open = going.last_open }

  module _ (time : ℕ) (late : boundary ≤ time) (by : time ≤ now) where
    woken_after_going : (pace : Pace) (job : Job) (jobs : List Job) → told boundary (job ∷ jobs) ≡ all → AreSound now (job ∷ jobs) →
        (boundary ≤ job.begin) ⊎ (job.begin + pace.apart ≤ time) → Going boundary now all (woken_after pace time job jobs)
    woken_after_going pace job jobs is sound ripe = which (nat_lt time (job.begin + pace.apart)) refl
      where
        free : time < job.begin + pace.apart → (boundary ≤ job.begin) ⊎ (job.begin + pace.apart ≤ time) → boundary ≤ job.begin
        free soon (inl before) = before
        free soon (inr over) = absurd (omega (arith, soon, over))

        which : (b : Bool) → nat_lt time (job.begin + pace.apart) ≡ b →
            Going boundary now all (if not b then began_behind pace.period time job jobs else (if job.begin_known then reopened job ∷ jobs else began time false (job ∷ jobs)))
        which true soon =
            either (Going boundary now all) job.begin_known (reopened job ∷ jobs) (began time false (job ∷ jobs))
            (reopened_going job jobs (free (ltb-true time (job.begin + pace.apart) soon) ripe) is sound) (new_going time false (job ∷ jobs) late by is sound)
        which false soon = first_going time (due_behind pace.period time job) true (job ∷ jobs) (λ unknown. absurd (true≢false unknown)) late by is sound

    over : (pace : Pace) (job : Job) (end : ℕ) → job.end ≡ ends.Ended end → (boundary ≤ job.begin) ⊎ IsRipeEnd (job.begin + pace.apart) time job.end →
        (boundary ≤ job.begin) ⊎ (job.begin + pace.apart ≤ time)
    over pace job end is (inl free) = inl free
    over pace job end is (inr ripe) = inr (subst (IsRipeEnd (job.begin + pace.apart) time) is ripe)

    running_going : (on : Option Standing) (pace : Pace) (jobs : List Job) → told boundary jobs ≡ all → AreSound now jobs → IsLeft boundary on jobs →
        IsRipe boundary pace.apart time jobs → Going boundary now all (running_jobs pace time jobs)
    running_going on pace [] is sound last ripe = new_going time false [] late by is sound
    running_going on pace (job ∷ jobs) is sound last ripe =
        by_end (Going boundary now all) job.end (job ∷ jobs) (λ end. woken_after pace time job jobs) (λ since. began time false (job ∷ jobs))
        (λ last_open. open_going on job jobs last_open is sound last)
        (λ end is_ended. woken_after_going pace job jobs is sound (over pace job end is_ended ripe))
        (λ since lost. new_going time false (job ∷ jobs) late by is sound)

    found_going : (on : Option Standing) (certain : Bool) (jobs : List Job) → told boundary jobs ≡ all → AreSound now jobs → IsLeft boundary on jobs →
        Going boundary now all (found_jobs time certain jobs)
    found_going on certain [] is sound last = new_going time certain [] late by is sound
    found_going on certain (job ∷ jobs) is sound last =
        by_end (Going boundary now all) job.end (job ∷ jobs) (λ end. began time certain (job ∷ jobs)) (λ since. began time certain (job ∷ jobs))
        (λ last_open. open_going on job jobs last_open is sound last)
        (λ end is_ended. new_going time certain (job ∷ jobs) late by is sound)
        (λ since lost. new_going time certain (job ∷ jobs) late by is sound)

    woken_going : (on : Option Standing) (pace : Pace) (again : Bool) (jobs : List Job) → told boundary jobs ≡ all → AreSound now jobs → IsLeft boundary on jobs →
        IsRipe boundary pace.apart time jobs → Going boundary now all (woken_jobs pace time again jobs)
    woken_going on pace again [] is sound last ripe = new_going time true [] late by is sound
    woken_going on pace again (job ∷ jobs) is sound last ripe =
        by_end (Going boundary now all) job.end (counted again job ∷ jobs) (λ end. woken_after pace time job jobs) (λ since. began time true (job ∷ jobs))
        (λ last_open. counted_going again job jobs (open_going on job jobs last_open is sound last))
        (λ end is_ended. woken_after_going pace job jobs is sound (over pace job end is_ended ripe))
        (λ since lost. new_going time true (job ∷ jobs) late by is sound)

    begun_least : (job : Job) → (begun_at_most time job).begin ≤ time
    begun_least job = by_least (nat_lt time job.begin) refl
      where
        by_least : (b : Bool) → nat_lt time job.begin ≡ b → (if b then record job { begin = time; begin_known = false; due_from = time } else job).begin ≤ time
        by_least true is = omega arith
        by_least false is = ltb-false time job.begin is

    begun_last : (jobs : List Job) → IsLastBy time (begun_by time jobs)
    begun_last [] = omega arith
    begun_last (job ∷ jobs) =
        by_end (IsLastBy time) job.end (begun_at_most time job ∷ jobs) (λ end. began time false (job ∷ jobs)) (λ since. began time false (job ∷ jobs))
        (λ is. begun_least job) (λ end is. le_refl time) (λ since is. le_refl time)

    -- an open job that began by then
    begun_open : (job : Job) (jobs : List Job) → Going boundary now all (job ∷ jobs) → Going boundary now all (begun_at_most time job ∷ jobs)
    begun_open job jobs going = by_begin (nat_lt time job.begin) refl
      where
        by_begin : (b : Bool) → nat_lt time job.begin ≡ b →
            Going boundary now all ((if b then record job { begin = time; begin_known = false; due_from = time } else job) ∷ jobs)
        by_begin true later =
            let before : time < job.begin = ltb-true time job.begin later in
            record {
              told = changed_told boundary job (record job { begin = time; begin_known = false; due_from = time }) jobs going.free late ∙ going.told;
              sound = (
                (
                  by,
                  going.sound.0.1,
                  omega (arith, before, going.sound.0.2),
                  all_weaker (IsSpan job.begin (latest now job.end)) (IsSpan time (latest now job.end)) (λ stretch is. (omega (arith, before, is.0), is.1, is.2)) job.stretches
                      going.sound.0.3,
                  going.sound.0.4,
                  λ unknown. le_refl time,
                ),
                going.sound.1,
              );
              free = late;
              last_open = going.last_open;
            }
        by_begin false later = going

    begun_going : (on : Option Standing) (jobs : List Job) → told boundary jobs ≡ all → AreSound now jobs → IsLeft boundary on jobs → Going boundary now all (begun_by time jobs)
    begun_going on [] is sound last = new_going time false [] late by is sound
    begun_going on (job ∷ jobs) is sound last =
        by_end (Going boundary now all) job.end (begun_at_most time job ∷ jobs) (λ end. began time false (job ∷ jobs)) (λ since. began time false (job ∷ jobs))
        (λ last_open. begun_open job jobs (open_going on job jobs last_open is sound last))
        (λ end is_ended. new_going time false (job ∷ jobs) late by is sound)
        (λ since lost. new_going time false (job ∷ jobs) late by is sound)

    -- # Who comes back

    went_going : (end : ℕ) (job : Job) (jobs : List Job) → job.end ≡ ends.Ended end → boundary ≤ job.begin → told boundary (job ∷ jobs) ≡ all → AreSound now (job ∷ jobs) →
        Going boundary now all (went_on end job ∷ jobs)
    went_going end job jobs is_ended free is sound =
        let most : latest now job.end ≤ now = latest_by now job.end sound.0.1 in
        let before : end ≤ now = subst (IsSoundEnd now) is_ended sound.0.1 in
        record {
          told = changed_told boundary job (went_on end job) jobs free free ∙ is;
          sound = ((sound.0.0, tt, sound.0.0, wider job.begin (latest now job.end) now job.stretches most sound.0.3, before, sound.0.5), sound.1);
          free = free;
          last_open = refl;
        }

    back_going : (pace : Pace) (end : ℕ) (ever : Bool) (started : Option ℕ) (job : Job) (jobs : List Job) → job.end ≡ ends.Ended end → boundary ≤ job.begin →
        ((at : ℕ) → started ≡ Some at → ((job.begin ≤ at) ⊎ (job.begin_known ≡ true)) × (at ≤ now)) → told boundary (job ∷ jobs) ≡ all → AreSound now (job ∷ jobs) →
        Going boundary now all (back_jobs pace time end ever started job jobs)
    back_going pace end ever None job jobs is_ended free starts is sound =
        either (Going boundary now all) (ever && is_none job.slept) (went_on end job ∷ jobs) (began time false (unended end job ∷ jobs))
        (went_going end job jobs is_ended free is sound)
        (new_going time false (unended end job ∷ jobs) late by (changed_told boundary job (unended end job) jobs free free ∙ is)
        (unended_sound now end job is_ended sound.0, sound.1))
    back_going pace end ever (Some at) job jobs is_ended free starts is sound =
        woken_late_going pace at job jobs (starts at refl).1 free (starts at refl).0 is sound

    come_going : (on : Option Standing) (pace : Pace) (woken : Woken) (jobs : List Job) → told boundary jobs ≡ all → AreSound now jobs → IsLeft boundary on jobs →
        IsStarted now woken on jobs → IsBack boundary woken jobs → Going boundary now all (come_jobs pace time woken jobs)
    come_going on pace woken [] is sound last starts back = new_going time false [] late by is sound
    come_going on pace woken (job ∷ jobs) is sound last starts back =
        by_end (Going boundary now all) job.end (job ∷ jobs)
        (λ end. if woken.seen then back_jobs pace time end woken.ever woken.started job jobs else began time false (job ∷ jobs)) (λ since. began time false (job ∷ jobs))
        (λ last_open. open_going on job jobs last_open is sound last)
        (λ end is_ended. cond_both woken.seen (back_jobs pace time end woken.ever woken.started job jobs) (began time false (job ∷ jobs)) (Going boundary now all)
        (λ seen. back_going pace end woken.ever woken.started job jobs is_ended (back end is_ended seen)
        (λ at begun. (first_of at (starts at begun).0.0, (starts at begun).1)) is sound)
        (λ unknown. new_going time false (job ∷ jobs) late by is sound))
        (λ since lost. new_going time false (job ∷ jobs) late by is sound)
      where
        first_of : (at : ℕ) → IsBegunBy at woken.seen job → (job.begin ≤ at) ⊎ (job.begin_known ≡ true)
        first_of at (inl early) = inl early
        first_of at (inr known) = inr known.0

  -- # A thread's switches

  -- each job began by now
  last_by : (time : ℕ) (jobs : List Job) → now ≤ time → AreSound now jobs → IsLastBy time jobs
  last_by time [] at sound = tt
  last_by time (job ∷ jobs) at sound = omega (arith, at, sound.0.0)

  comes_keeps : (pace : Pace) (wakes : Bool) (processor time : ℕ) (known : Known) → boundary ≤ time → time ≤ now → now ≤ time → Keeps boundary now all known →
      IsRipe boundary pace.apart time known.jobs → (wakes ≡ true → IsBack boundary known.woken known.jobs) → Keeps boundary now all (comes pace wakes processor time known)
  comes_keeps pace wakes processor time known late by at keeps ripe back =
      let going : Going boundary now all (if wakes then come_jobs pace time known.woken known.jobs else running_jobs pace time known.jobs) =
      cond_both wakes (come_jobs pace time known.woken known.jobs) (running_jobs pace time known.jobs) (Going boundary now all)
      (λ woken. come_going time late by known.on pace known.woken known.jobs keeps.told keeps.sound keeps.last keeps.started (back woken))
      (λ at_run. running_going time late by known.on pace known.jobs keeps.told keeps.sound keeps.last ripe) in
      record {
        told = going.told;
        sound = going.sound;
        last = free_left boundary (Some (record { processor = processor; came = time; since = time })) _ going.free;
        stands = (omega arith, going.last_open, last_by time _ at going.sound, by);
        started = none_started now true (Some (record { processor = processor; came = time; since = time })) _;
      }

  -- it leaves, and wasn't seen to come
  left_unseen_fresh : (pace : Pace) (wakes torn : Bool) (leaving : Leaving) (known : Known) → boundary ≤ leaving.time → leaving.time ≤ now → now ≤ leaving.time →
      leaving.lines_since ≤ now → (is_none leaving.switched ≡ true → boundary ≤ leaving.lines_since) →
      (wakes ≡ true → leaving.renamed ≡ false → (not torn && is_none leaving.switched && not known.woken.seen) ≡ false → IsBack boundary known.woken known.jobs) →
      Keeps boundary now all known → Fresh boundary now all (left_unseen pace wakes torn leaving known)
  left_unseen_fresh pace wakes torn leaving known late by at since whole back keeps =
      let first : Bool = not torn && is_none leaving.switched && not known.woken.seen in
      let there : List Job = changed_last (ran (stretch_of leaving leaving.lines_since)) (begun_by leaving.lines_since known.jobs) in
      let come : List Job = if wakes then come_jobs pace leaving.time known.woken known.jobs else found_jobs leaving.time false known.jobs in
      cond_both leaving.renamed (found_jobs leaving.time true known.jobs) (if first then there else changed_last missing come) (Fresh boundary now all)
      (λ renamed. going_fresh boundary now all (found_jobs leaving.time true known.jobs)
      (found_going leaving.time late by known.on true known.jobs keeps.told keeps.sound keeps.last))
      (λ listed. cond_both first there (changed_last missing come) (Fresh boundary now all)
      (λ is.
      let low : boundary ≤ leaving.lines_since =
      whole (and_parts (not torn) (is_none leaving.switched) (and_parts (not torn && is_none leaving.switched) (not known.woken.seen) is).0).1 in
      ran_going (stretch_of leaving leaving.lines_since) (begun_by leaving.lines_since known.jobs) (begun_last leaving.lines_since low since known.jobs)
      (omega (arith, since, at)) by (begun_going leaving.lines_since low since known.on known.jobs keeps.told keeps.sound keeps.last))
      (λ other. going_fresh boundary now all (changed_last missing come)
      (missing_going come (cond_both wakes (come_jobs pace leaving.time known.woken known.jobs) (found_jobs leaving.time false known.jobs) (Going boundary now all)
      (λ woken. come_going leaving.time late by known.on pace known.woken known.jobs keeps.told keeps.sound keeps.last keeps.started (back woken listed other))
      (λ at_run. found_going leaving.time late by known.on false known.jobs keeps.told keeps.sound keeps.last)))))

  left_from_fresh : (pace : Pace) (wakes torn : Bool) (leaving : Leaving) (known : Known) → boundary ≤ leaving.time → leaving.time ≤ now → now ≤ leaving.time →
      leaving.lines_since ≤ now → (is_none leaving.switched ≡ true → boundary ≤ leaving.lines_since) →
      (known.on ≡ None → wakes ≡ true → leaving.renamed ≡ false → (not torn && is_none leaving.switched && not known.woken.seen) ≡ false → IsBack boundary known.woken known.jobs) →
      Keeps boundary now all known → Fresh boundary now all (left_from pace wakes torn leaving known)
  left_from_fresh pace wakes torn leaving known late by at since whole back keeps = from known.on refl
    where
      from : (on : Option Standing) → known.on ≡ on → Fresh boundary now all (elim on [
        | None ↦ left_unseen pace wakes torn leaving known
        | Some standing ↦ changed_last (ran (stretch_of leaving standing.since)) known.jobs
      ])
      from None is = left_unseen_fresh pace wakes torn leaving known late by at since whole (back is) keeps
      from (Some standing) is =
          let last : IsLeft boundary (Some standing) known.jobs = subst (λ (on : Option Standing). IsLeft boundary on known.jobs) is keeps.last in
          let stands : StandsBy now (Some standing) known.jobs = subst (λ (on : Option Standing). StandsBy now on known.jobs) is keeps.stands in
          ran_going (stretch_of leaving standing.since) known.jobs stands.2 (omega (arith, stands.3, at)) by
          (record { told = keeps.told; sound = keeps.sound; free = standing_free boundary standing known.jobs last; last_open = stands.1 })

  left_in_fresh : (state : State) (time : ℕ) (jobs : List Job) → time ≤ now → now ≤ time → Fresh boundary now all jobs → Fresh boundary now all (left_in state time jobs)
  left_in_fresh states.GoesOn time jobs by at fresh = fresh
  left_in_fresh states.Sleeps time jobs by at fresh =
      changed_fresh (ended time) (λ job late sound. (late, other_end now job (ends.Ended time) sound by at)) jobs fresh
  left_in_fresh states.Exits time jobs by at fresh =
      changed_fresh (exits time) (λ job late sound. (late, other_end now job (ends.Ended time) sound by at)) jobs fresh
  left_in_fresh states.Unknown time jobs by at fresh =
      changed_fresh (lost_job time) (λ job late sound. (late, lost_end_sound now time job.slept job job.end by refl sound)) jobs fresh

  -- # A wake-up that was started before it leaves

  -- a job that began before a wake-up, where its thread was seen
  seen_begun : (at : ℕ) (seen : Bool) (job : Job) → IsBegunBy at seen job → IsBegunBy at true job
  seen_begun at seen job (inl early) = inl early
  seen_begun at seen job (inr known) = inr (known.0, refl)

  -- who leaves has a last job that began before that wake-up, or by another name
  abbrev HasBegun : ℕ → List Job → Type 0
  HasBegun at [] = ⊥
  HasBegun at (job ∷ jobs) = IsBegunBy at true job

  -- the last job before such a wake-up began so
  last_begun : (at : ℕ) (seen : Bool) (jobs : List Job) → IsLastAwaited at seen jobs → HasBegun at jobs
  last_begun at seen [] last = absurd last
  last_begun at seen (job ∷ jobs) last = seen_begun at seen job last.0

  -- also where it is changed
  changed_begun : (change : Job → Job) → ((at : ℕ) (job : Job) → IsBegunBy at true job → IsBegunBy at true (change job)) → (at : ℕ) (jobs : List Job) → HasBegun at jobs →
      HasBegun at (changed_last change jobs)
  changed_begun change keeps at [] begun = absurd begun
  changed_begun change keeps at (job ∷ jobs) begun = keeps at job begun

  -- also where its thread is found to run
  found_begun : (at time : ℕ) (seen : Bool) (jobs : List Job) → IsLastAwaited at seen jobs → HasBegun at (found_jobs time true jobs)
  found_begun at time seen [] last = absurd last
  found_begun at time seen (job ∷ jobs) last =
      by_end (HasBegun at) job.end (job ∷ jobs) (λ end. began time true (job ∷ jobs)) (λ since. began time true (job ∷ jobs))
      (λ is. seen_begun at seen job last.0) (λ end is. inr (refl, refl)) (λ since is. inr (refl, refl))

  -- also where it began by a time at which its thread was there
  by_begun : (at time : ℕ) (seen : Bool) (jobs : List Job) → seen ≡ false → IsLastAwaited at seen jobs → HasBegun at (begun_by time jobs)
  by_begun at time seen [] unseen last = absurd last
  by_begun at time seen (job ∷ jobs) unseen last =
      by_end (HasBegun at) job.end (begun_at_most time job ∷ jobs) (λ end. began time false (job ∷ jobs)) (λ since. began time false (job ∷ jobs))
      (λ is. inl (least (nat_lt time job.begin) refl (early last.0)))
      (λ end is. absurd (let no : false ≡ true = sym unseen ∙ subst (IsAwaited seen) is last.1 in false≢true no))
      (λ since is. absurd (subst (IsAwaited seen) is last.1))
    where
      early : IsBegunBy at seen job → job.begin ≤ at
      early (inl before) = before
      early (inr known) = absurd (let no : false ≡ true = sym unseen ∙ known.1 in false≢true no)

      least : (b : Bool) → nat_lt time job.begin ≡ b → job.begin ≤ at → (if b then record job { begin = time; begin_known = false; due_from = time } else job).begin ≤ at
      least true is before = let less : time < job.begin = ltb-true time job.begin is in omega (arith, less, before)
      least false is before = before

  -- also where that wake-up goes on with it, or begins another
  woken_begun : (pace : Pace) (at : ℕ) (job : Job) (jobs : List Job) → IsBegunBy at true job → HasBegun at (woken_after pace at job jobs)
  woken_begun pace at job jobs begun =
      either (HasBegun at) (not (nat_lt at (job.begin + pace.apart))) (began_behind pace.period at job jobs)
      (if job.begin_known then reopened job ∷ jobs else began at false (job ∷ jobs)) (inl (omega arith))
      (either (HasBegun at) job.begin_known (reopened job ∷ jobs) (began at false (job ∷ jobs)) begun (inl (omega arith)))

  -- also where its thread comes
  come_begun : (pace : Pace) (at time : ℕ) (woken : Woken) (jobs : List Job) → woken.started ≡ Some at → IsLastAwaited at woken.seen jobs → HasBegun at (come_jobs pace time woken jobs)
  come_begun pace at time woken [] is last = absurd last
  come_begun pace at time woken (job ∷ jobs) is last =
      by_end (HasBegun at) job.end (job ∷ jobs) (λ end. if woken.seen then back_jobs pace time end woken.ever woken.started job jobs else began time false (job ∷ jobs))
      (λ since. began time false (job ∷ jobs)) (λ still. seen_begun at woken.seen job last.0)
      (λ end is_ended. cond_both woken.seen (back_jobs pace time end woken.ever woken.started job jobs) (began time false (job ∷ jobs)) (HasBegun at)
      (λ seen. subst (λ (started : Option ℕ). HasBegun at (back_jobs pace time end woken.ever started job jobs)) (sym is)
      (woken_begun pace at job jobs (seen_begun at woken.seen job last.0)))
      (λ unseen. absurd (let no : false ≡ true = sym unseen ∙ subst (IsAwaited woken.seen) is_ended last.1 in false≢true no)))
      (λ since is_lost. absurd (subst (IsAwaited woken.seen) is_lost last.1))

  -- also where its thread leaves
  left_begun : (pace : Pace) (wakes torn : Bool) (leaving : Leaving) (known : Known) (at : ℕ) → (wakes ≡ false → known.woken.started ≡ None) → known.woken.started ≡ Some at →
      IsLastAwaited at known.woken.seen known.jobs → HasBegun at (left_from pace wakes torn leaving known)
  left_begun pace wakes torn leaving known at none is last = from known.on
    where
      from : (on : Option Standing) → HasBegun at (elim on [
        | None ↦ left_unseen pace wakes torn leaving known
        | Some standing ↦ changed_last (ran (stretch_of leaving standing.since)) known.jobs
      ])
      from (Some standing) =
          changed_begun (ran (stretch_of leaving standing.since)) (λ at job begun. begun) at known.jobs (last_begun at known.woken.seen known.jobs last)
      from None =
          let first : Bool = not torn && is_none leaving.switched && not known.woken.seen in
          let there : List Job = changed_last (ran (stretch_of leaving leaving.lines_since)) (begun_by leaving.lines_since known.jobs) in
          let come : List Job = if wakes then come_jobs pace leaving.time known.woken known.jobs else found_jobs leaving.time false known.jobs in
          either (HasBegun at) leaving.renamed (found_jobs leaving.time true known.jobs) (if first then there else changed_last missing come)
          (found_begun at leaving.time known.woken.seen known.jobs last)
          (cond_both first there (changed_last missing come) (HasBegun at)
          (λ unseen. changed_begun (ran (stretch_of leaving leaving.lines_since)) (λ at job begun. begun) at (begun_by leaving.lines_since known.jobs)
          (by_begun at leaving.lines_since known.woken.seen known.jobs
          (not-true known.woken.seen (and_parts (not torn && is_none leaving.switched) (not known.woken.seen) unseen).1) last))
          (λ other. changed_begun missing (λ at job begun. begun) at come
          (cond_both wakes (come_jobs pace leaving.time known.woken known.jobs) (found_jobs leaving.time false known.jobs) (HasBegun at)
          (λ woken. come_begun pace at leaving.time known.woken known.jobs is last)
          (λ at_run. absurd (let no : None ≡ Some at = sym (none at_run) ∙ is in cc no)))))

  -- such a job that ends then still waits for that wake-up
  ended_awaited : (at time : ℕ) (jobs : List Job) → HasBegun at jobs → IsLastAwaited at true (changed_last (ended time) jobs)
  ended_awaited at time [] begun = absurd begun
  ended_awaited at time (job ∷ jobs) begun = (begun, refl)

  leaves_started : (pace : Pace) (wakes torn : Bool) (state : State) (leaving : Leaving) (known : Known) → (wakes ≡ false → known.woken.started ≡ None) →
      IsStarted now known.woken known.on known.jobs → IsStarted now (leaves pace wakes torn state leaving known).woken None (leaves pace wakes torn state leaving known).jobs
  leaves_started pace wakes torn states.Sleeps leaving known none started = λ at is. (
    ended_awaited at leaving.time (left_from pace wakes torn leaving known) (left_begun pace wakes torn leaving known at none is (started at is).0),
    (started at is).1,
    tt,
  )
  leaves_started pace wakes torn states.GoesOn leaving known none started = none_started now true None _
  leaves_started pace wakes torn states.Exits leaving known none started = none_started now true None _
  leaves_started pace wakes torn states.Unknown leaving known none started = none_started now true None _

  -- # A switch

  -- who has another processor, where switches are missing
  torn_jobs_keeps : (since : ℕ) (standing : Standing) (known : Known) → known.on ≡ Some standing → boundary ≤ since → since ≤ now →
      Each (λ job. IsKnownBy since job.end) boundary known.jobs → Keeps boundary now all known →
      Keeps boundary now all (record known { jobs = torn_jobs since standing.came known.jobs })
  torn_jobs_keeps since standing known on low by ends_known keeps = which (nat_lt since standing.came) refl
    where
      stands : StandsBy now (Some standing) known.jobs
      stands = subst (λ (on : Option Standing). StandsBy now on known.jobs) on keeps.stands

      come : (at : ℕ) → HasCome at known.on → standing.came ≤ at
      come at has = subst (HasCome at) on has

      which : (b : Bool) → nat_lt since standing.came ≡ b →
          Keeps boundary now all (record known { jobs = if b then began standing.came false (map (lost_job since) known.jobs) else known.jobs })
      which true later =
          let after : since < standing.came = ltb-true since standing.came later in
          let going : Going boundary now all (began standing.came false (map (lost_job since) known.jobs)) =
          new_going standing.came false (map (lost_job since) known.jobs) (omega (arith, low, after)) (omega (arith, stands.0, stands.3))
          (lost_told boundary since known.jobs ends_known ∙ keeps.told) (lost_sound now since known.jobs by keeps.sound) in
          record {
            told = going.told;
            sound = going.sound;
            last = free_left boundary known.on (began standing.came false (map (lost_job since) known.jobs)) going.free;
            stands = subst (λ (on : Option Standing). StandsBy now on (began standing.came false (map (lost_job since) known.jobs))) (sym on)
                (stands.0, going.last_open, stands.0, stands.3);
            started = λ at is. ((inl (come at (keeps.started at is).2), tt), (keeps.started at is).1, (keeps.started at is).2);
          }
      which false other = keeps

  -- what is known behind the switches that are missing
  torn_if_keeps : (left came : Bool) (processor : ℕ) (since : Option ℕ) (known : Known) →
      ((s : ℕ) → since ≡ Some s → (boundary ≤ s) × (s ≤ now) × Each (λ job. IsKnownBy s job.end) boundary known.jobs) →
      Keeps boundary now all known → Keeps boundary now all (torn_if left came processor since known)
  torn_if_keeps left came processor None known known_by keeps = keeps
  torn_if_keeps left came processor (Some since) known known_by keeps = from known.on refl
    where
      lost : Keeps boundary now all (loses since known)
      lost = loses_keeps boundary now all since known (known_by since refl).1 (known_by since refl).2 keeps

      from : (on : Option Standing) → known.on ≡ on → (let after : Known = elim on [
        | None ↦ loses since known
        | Some standing ↦ if left || came || (standing.processor == processor) then loses since known
            else record known { jobs = torn_jobs since standing.came known.jobs }
      ] in Keeps boundary now all after)
      from None is = lost
      from (Some standing) is =
          either (Keeps boundary now all) (left || came || (standing.processor == processor)) (loses since known)
          (record known { jobs = torn_jobs since standing.came known.jobs }) lost
          (torn_jobs_keeps since standing known is (known_by since refl).0 (known_by since refl).1 (known_by since refl).2 keeps)

  -- a thread that leaves or comes is lost
  torn_own : (P : Known → Type 0) (left came : Bool) (processor since : ℕ) (known : Known) → (left || came) ≡ true → P (loses since known) →
      P (torn left came processor since known)
  torn_own P left came processor since known mine is = from known.on
    where
      other : (standing : Standing) (b : Bool) → b ≡ true →
          P (if b || (standing.processor == processor) then loses since known else record known { jobs = torn_jobs since standing.came known.jobs })
      other standing true own = is
      other standing false own = absurd (false≢true own)

      from : (on : Option Standing) → (let after : Known = elim on [
        | None ↦ loses since known
        | Some standing ↦ if left || came || (standing.processor == processor) then loses since known
            else record known { jobs = torn_jobs since standing.came known.jobs }
      ] in P after)
      from None = is
      from (Some standing) = other standing (left || came) mine

  -- What a thread that is there, and wasn't seen to come, slept in: a wake-up was started before it.
  called_back : (wakes : Bool) (leaving : Leaving) (known : Known) → is_there wakes leaving known ≡ true → wakes ≡ true → leaving.renamed ≡ false →
      (is_none leaving.switched && not known.woken.seen) ≡ false → ((at : ℕ) → known.woken.started ≡ Some at → IsBack boundary known.woken known.jobs) →
      IsBack boundary known.woken known.jobs
  called_back wakes leaving known there woken listed other back =
      awake (is_awake known) refl (fourth leaving.renamed (is_none leaving.switched && not known.woken.seen) (not wakes) (is_awake known) there listed other (ap not woken))
    where
      fourth : (a b c d : Bool) → (a || b || c || d) ≡ true → a ≡ false → b ≡ false → c ≡ false → d ≡ true
      fourth true b c d one first second third = absurd (let no : false ≡ true = sym first in false≢true no)
      fourth false true c d one first second third = absurd (let no : false ≡ true = sym second in false≢true no)
      fourth false false true d one first second third = absurd (let no : false ≡ true = sym third in false≢true no)
      fourth false false false d one first second third = one

      is_called : (started : Option ℕ) → known.woken.started ≡ started → is_some started ≡ true → IsBack boundary known.woken known.jobs
      is_called None is some = absurd (false≢true some)
      is_called (Some at) is some = back at is

      of_jobs : (jobs : List Job) → known.jobs ≡ jobs → (elim jobs as (λ _. Bool) [ [] ↦ false | job ∷ more ↦ is_open_or_woken known.woken job.end ]) ≡ true →
          IsBack boundary known.woken jobs
      of_jobs [] is is_so = tt
      of_jobs (job ∷ jobs) is is_so = λ end ended seen.
          let both : (known.woken.seen && is_some known.woken.started) ≡ true = subst (λ (e : End). is_open_or_woken known.woken e ≡ true) ended is_so in
          subst (IsBack boundary known.woken) is
          (is_called known.woken.started refl (and_parts known.woken.seen (is_some known.woken.started) both).1) end ended seen

      awake : (b : Bool) → is_awake known ≡ b → b ≡ true → IsBack boundary known.woken known.jobs
      awake b is so = of_jobs known.jobs refl (is ∙ so)

  -- It leaves, behind the switches that are missing before.
  leaves_keeps : (pace : Pace) (wakes torn : Bool) (state : State) (leaving : Leaving) (known : Known) → boundary ≤ leaving.time → leaving.time ≤ now → now ≤ leaving.time →
      leaving.lines_since ≤ now → (is_none leaving.switched ≡ true → boundary ≤ leaving.lines_since) →
      (known.on ≡ None → wakes ≡ true → leaving.renamed ≡ false → (not torn && is_none leaving.switched && not known.woken.seen) ≡ false → IsBack boundary known.woken known.jobs) →
      (wakes ≡ false → known.woken.started ≡ None) → Keeps boundary now all known →
      Keeps boundary now all (leaves pace wakes torn state leaving known) × IsFree boundary (leaves pace wakes torn state leaving known).jobs
  leaves_keeps pace wakes torn state leaving known late by at since whole back none keeps =
      let after : Known = leaves pace wakes torn state leaving known in
      let fresh : Fresh boundary now all after.jobs =
      left_in_fresh state leaving.time (left_from pace wakes torn leaving known) by at (left_from_fresh pace wakes torn leaving known late by at since whole back keeps) in
      (fresh_keeps boundary now all after.jobs after.woken fresh (leaves_started pace wakes torn state leaving known none keeps.started), fresh.free)

  -- Who leaves, and who comes. Only where the thread comes that didn't leave just before, no wake-up may go on with its last job.
  pub switch_keeps : (pace : Pace) (wakes left came : Bool) (state : State) (leaving : Leaving) (since : Option ℕ) (known : Known) → boundary ≤ leaving.time →
      leaving.time ≤ now → now ≤ leaving.time → leaving.lines_since ≤ now → (left ≡ true → is_none leaving.switched ≡ true → boundary ≤ leaving.lines_since) →
      ((s : ℕ) → since ≡ Some s → (boundary ≤ s) × (s ≤ now) × Each (λ job. IsKnownBy s job.end) boundary known.jobs) →
      (since ≡ None → left ≡ true → known.on ≡ None → is_there wakes leaving known ≡ true) →
      (left ≡ true → wakes ≡ true → known.on ≡ None → (at : ℕ) → known.woken.started ≡ Some at → IsBack boundary known.woken known.jobs) →
      (left ≡ false → came ≡ true → IsRipe boundary pace.apart leaving.time known.jobs) → (left ≡ false → came ≡ true → wakes ≡ true → IsBack boundary known.woken known.jobs) →
      (wakes ≡ false → known.woken.started ≡ None) →
      Keeps boundary now all known → Keeps boundary now all (after_switch pace wakes left came state leaving since known)
  switch_keeps pace wakes true came state leaving since known late by at lines whole known_by there own_back ripe back none keeps =
      let after : Known = leaves pace wakes (is_some since) state leaving (torn_if true came leaving.processor since known) in
      let gone : Keeps boundary now all after × IsFree boundary after.jobs = leave since known_by there in
      either (Keeps boundary now all) came (comes pace wakes leaving.processor leaving.time after) after
      (comes_keeps pace wakes leaving.processor leaving.time after late by at gone.0 (free_ripe boundary pace.apart leaving.time after.jobs gone.1)
      (λ woken. free_back boundary after.woken after.jobs gone.1)) gone.0
    where
      leave : (since : Option ℕ) → ((s : ℕ) → since ≡ Some s → (boundary ≤ s) × (s ≤ now) × Each (λ job. IsKnownBy s job.end) boundary known.jobs) →
          (since ≡ None → true ≡ true → known.on ≡ None → is_there wakes leaving known ≡ true) →
          (let after : Known = leaves pace wakes (is_some since) state leaving (torn_if true came leaving.processor since known) in
          Keeps boundary now all after × IsFree boundary after.jobs)
      leave None known_by there =
          leaves_keeps pace wakes false state leaving known late by at lines (whole refl)
          (λ off woken listed other. called_back wakes leaving known (there refl refl off) woken listed other (own_back refl woken off)) none keeps
      leave (Some s) known_by there =
          torn_own (λ (before : Known). let after : Known = leaves pace wakes true state leaving before in Keeps boundary now all after × IsFree boundary after.jobs)
          true came leaving.processor s known refl
          (leaves_keeps pace wakes true state leaving (loses s known) late by at lines (whole refl) (λ off woken listed other. lost_back boundary s known) (λ at_run. refl)
          (loses_keeps boundary now all s known (known_by s refl).1 (known_by s refl).2 keeps))
  switch_keeps pace wakes false true state leaving since known late by at lines whole known_by there own_back ripe back none keeps = come since known_by
    where
      come : (since : Option ℕ) → ((s : ℕ) → since ≡ Some s → (boundary ≤ s) × (s ≤ now) × Each (λ job. IsKnownBy s job.end) boundary known.jobs) →
          Keeps boundary now all (comes pace wakes leaving.processor leaving.time (torn_if false true leaving.processor since known))
      come None known_by = comes_keeps pace wakes leaving.processor leaving.time known late by at keeps (ripe refl refl) (back refl refl)
      come (Some s) known_by =
          torn_own (λ (before : Known). Keeps boundary now all (comes pace wakes leaving.processor leaving.time before)) false true leaving.processor s known refl
          (comes_keeps pace wakes leaving.processor leaving.time (loses s known) late by at
          (loses_keeps boundary now all s known (known_by s refl).1 (known_by s refl).2 keeps)
          (lost_ripe boundary pace.apart leaving.time s known.jobs (ripe refl refl)) (λ woken. lost_back boundary s known))
  switch_keeps pace wakes false false state leaving since known late by at lines whole known_by there own_back ripe back none keeps =
      torn_if_keeps false false leaving.processor since known known_by keeps

  -- # Other events

  -- what a wake-up does to a job that is open
  woken_open : (pace : Pace) (time : ℕ) (again : Bool) (job : Job) (jobs : List Job) → job.end ≡ ends.Open → woken_jobs pace time again (job ∷ jobs) ≡ counted again job ∷ jobs
  woken_open pace time again job jobs is = ap (λ (end : End). elim end [
    | ends.Open ↦ counted again job ∷ jobs
    | ends.Ended end ↦ woken_after pace time job jobs
    | ends.Lost last ↦ began time true (job ∷ jobs)
  ]) is

  woken_stands : (on : Option Standing) (pace : Pace) (time : ℕ) (again : Bool) (jobs : List Job) → StandsBy now on jobs → StandsBy now on (woken_jobs pace time again jobs)
  woken_stands None pace time again jobs stands = tt
  woken_stands (Some standing) pace time again [] stands = absurd stands.1
  woken_stands (Some standing) pace time again (job ∷ jobs) stands =
      subst (StandsBy now (Some standing)) (sym (woken_open pace time again job jobs stands.1)) (still again)
    where
      still : (b : Bool) → StandsBy now (Some standing) (counted b job ∷ jobs)
      still true = stands
      still false = stands

  -- A wake-up that was started before is done: it begins a job, or goes on with one, behind the last job.
  half_going : (pace : Pace) (again : Bool) (at : ℕ) (woken : Woken) (on : Option Standing) (jobs : List Job) → IsLastAwaited at woken.seen jobs → at ≤ now →
      IsBack boundary woken jobs → told boundary jobs ≡ all → AreSound now jobs → IsLeft boundary on jobs → Going boundary now all (woken_jobs pace at again jobs)
  half_going pace again at woken on [] awaited by back is sound last = absurd awaited
  half_going pace again at woken on (job ∷ jobs) awaited by back is sound last =
      by_end (Going boundary now all) job.end (counted again job ∷ jobs) (λ end. woken_after pace at job jobs) (λ since. began at true (job ∷ jobs))
      (λ last_open. counted_going again job jobs (open_going on job jobs last_open is sound last))
      (λ end is_ended.
      woken_late_going pace at job jobs by (back end is_ended (subst (IsAwaited woken.seen) is_ended awaited.1)) (begun awaited.0) is sound)
      (λ since is_lost. absurd (subst (IsAwaited woken.seen) is_lost awaited.1))
    where
      begun : IsBegunBy at woken.seen job → (job.begin ≤ at) ⊎ (job.begin_known ≡ true)
      begun (inl early) = inl early
      begun (inr known) = inr known.0

  -- What a wake-up begins at a time.
  wakes_from : (pace : Pace) (begin : ℕ) (woken : Woken) (known : Known) → Going boundary now all (woken_jobs pace begin known.woken.came known.jobs) →
      (let jobs : List Job = woken_jobs pace begin known.woken.came known.jobs in IsStarted now woken known.on jobs) → Keeps boundary now all known →
      Keeps boundary now all (record { jobs = woken_jobs pace begin known.woken.came known.jobs; on = known.on; woken = woken })
  wakes_from pace begin woken known going started keeps = record {
    told = going.told;
    sound = going.sound;
    last = free_left boundary known.on (woken_jobs pace begin known.woken.came known.jobs) going.free;
    stands = woken_stands known.on pace begin known.woken.came known.jobs keeps.stands;
    started = started;
  }

  wakes_keeps : (pace : Pace) (starts : Bool) (time : ℕ) (known : Known) → boundary ≤ time → time ≤ now → now ≤ time → IsRipe boundary pace.apart time known.jobs →
      (starts ≡ false → (at : ℕ) → known.woken.started ≡ Some at → IsBack boundary known.woken known.jobs) →
      Keeps boundary now all known → Keeps boundary now all (wakes_up pace starts time known)
  wakes_keeps pace true time known late by at ripe back keeps =
      wakes_from pace time (record { came = true; started = if may_run known then Some time else None; seen = known.woken.seen; ever = true }) known going
      (begins (may_run known)) keeps
    where
      going : Going boundary now all (woken_jobs pace time known.woken.came known.jobs)
      going = woken_going time late by known.on pace known.woken.came known.jobs keeps.told keeps.sound keeps.last ripe

      come : (on : Option Standing) → StandsBy now on known.jobs → HasCome time on
      come None stands = tt
      come (Some standing) stands = omega (arith, stands.0, stands.3, at)

      begins : (b : Bool) → IsStarted now (record { came = true; started = if b then Some time else None; seen = known.woken.seen; ever = true }) known.on
          (woken_jobs pace time known.woken.came known.jobs)
      begins true = λ started is.
          let same : time ≡ started = cc is in
          subst (λ (when : ℕ). IsLastAwaited when known.woken.seen (woken_jobs pace time known.woken.came known.jobs) × (when ≤ now) × HasCome when known.on) same
          (going_started boundary now time all known.woken.seen (woken_jobs pace time known.woken.came known.jobs) at going, by, come known.on keeps.stands)
      begins false = none_started now known.woken.seen known.on _
  wakes_keeps pace false time known late by at ripe back keeps = which known.woken.started refl
    where
      which : (started : Option ℕ) → known.woken.started ≡ started →
          Keeps boundary now all (record {
            jobs = woken_jobs pace (unwrap_or started time) known.woken.came known.jobs;
            on = known.on;
            woken = record { came = true; started = None; seen = known.woken.seen; ever = true };
          })
      which None is =
          wakes_from pace time (record { came = true; started = None; seen = known.woken.seen; ever = true }) known
          (woken_going time late by known.on pace known.woken.came known.jobs keeps.told keeps.sound keeps.last ripe) (none_started now known.woken.seen known.on _) keeps
      which (Some begin) is =
          wakes_from pace begin (record { came = true; started = None; seen = known.woken.seen; ever = true }) known
          (half_going pace known.woken.came begin known.woken known.on known.jobs (keeps.started begin is).0 (keeps.started begin is).1 (back refl begin is)
          keeps.told keeps.sound keeps.last) (none_started now known.woken.seen known.on _) keeps

  pub woken_keeps : (b : Bool) (pace : Pace) (starts : Bool) (time : ℕ) (known : Known) → boundary ≤ time → time ≤ now → now ≤ time → IsRipe boundary pace.apart time known.jobs →
      (b ≡ true → starts ≡ false → (at : ℕ) → known.woken.started ≡ Some at → IsBack boundary known.woken known.jobs) →
      Keeps boundary now all known → Keeps boundary now all (if b then wakes_up pace starts time known else known)
  woken_keeps true pace starts time known late by at ripe back keeps = wakes_keeps pace starts time known late by at ripe (back refl) keeps
  woken_keeps false pace starts time known late by at ripe back keeps = keeps

  ran_open : (stretch : Stretch) (jobs : List Job) → IsLastOpen jobs → IsLastOpen (changed_last (ran stretch) jobs)
  ran_open stretch [] last_open = last_open
  ran_open stretch (job ∷ jobs) last_open = last_open

  speeds_on : (processor time : ℕ) (khz : Option ℕ) (on : Option Standing) (known : Known) → time ≤ now → now ≤ time → known.on ≡ on → Keeps boundary now all known →
      (let after : Known = elim on [
        | None ↦ known
        | Some standing ↦ if standing.processor == processor then record {
          jobs = changed_last (ran (record { processor = processor; from = standing.since; to = time; khz = khz })) known.jobs;
          on = Some (record standing { since = time });
          woken = known.woken;
        } else known
      ] in Keeps boundary now all after)
  speeds_on processor time khz None known by at is keeps = keeps
  speeds_on processor time khz (Some standing) known by at is keeps =
      let stretch : Stretch = record { processor = processor; from = standing.since; to = time; khz = khz } in
      let last : IsLeft boundary (Some standing) known.jobs = subst (λ (on : Option Standing). IsLeft boundary on known.jobs) is keeps.last in
      let stands : StandsBy now (Some standing) known.jobs = subst (λ (on : Option Standing). StandsBy now on known.jobs) is keeps.stands in
      let fresh : Fresh boundary now all (changed_last (ran stretch) known.jobs) =
      ran_going stretch known.jobs stands.2 (omega (arith, stands.3, at)) by
      (record { told = keeps.told; sound = keeps.sound; free = standing_free boundary standing known.jobs last; last_open = stands.1 }) in
      either (Keeps boundary now all) (standing.processor == processor)
      (record { jobs = changed_last (ran stretch) known.jobs; on = Some (record standing { since = time }); woken = known.woken }) known
      (record {
        told = fresh.told;
        sound = fresh.sound;
        last = free_left boundary (Some (record standing { since = time })) (changed_last (ran stretch) known.jobs) fresh.free;
        stands = (omega (arith, stands.0, stands.3, at), ran_open stretch known.jobs stands.1, last_by time (changed_last (ran stretch) known.jobs) at fresh.sound, by);
        started = λ begun has. (still begun known.jobs (keeps.started begun has).0, (keeps.started begun has).1, subst (HasCome begun) is (keeps.started begun has).2);
      })
      keeps
    where
      still : (at : ℕ) (jobs : List Job) → IsLastAwaited at known.woken.seen jobs →
          IsLastAwaited at known.woken.seen (changed_last (ran (record { processor = processor; from = standing.since; to = time; khz = khz })) jobs)
      still at [] last = absurd last
      still at (job ∷ jobs) last = last

  pub speeds_keeps : (processor time : ℕ) (khz : Option ℕ) (known : Known) → time ≤ now → now ≤ time → Keeps boundary now all known → Keeps boundary now all
      (speeds processor time khz known)
  speeds_keeps processor time khz known by at keeps = speeds_on processor time khz known.on known by at refl keeps
