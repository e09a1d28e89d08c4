-- What is told of a task's jobs is judged alike behind all further lines.
use Rattle.yds_model.proofs.Common.{◌≡◌, ◌∙◌, ℕ, ◌+◌, ◌-◌, ◌<◌, ◌≤◌, ◌⊎◌, inl, inr, ◌==◌, ◌&&◌, ◌||◌, List, [], ◌∷◌, ◌++◌, map, filter, length, min, max, Bool, true, false, not, nat_lt, nat_le, if◌then◌else◌, Option, Some, None, is_none, unwrap_or, refl, sym, ap, ap₂, subst, arith, lt-ltb, le-leb, lt-leb, ltb-true, leb-true, eqb-true, cases_lt, and_parts, or_parts, filter-append, list_any, and-false}
use Rattle.std.specs.List.{AllByRecursion}
use Rattle.yds_kernel.specs.Event.{Said}
use Rattle.yds_trace.specs.declared.cut.Cut.{Cut}
use Rattle.yds_trace.specs.declared.job.End.{End}
use Rattle.yds_trace.specs.declared.job.End.TheVariants as ends
use Rattle.yds_trace.specs.declared.job.Standing.{Standing}
use Rattle.yds_trace.specs.declared.reason.Reason.{Reason}
use Rattle.yds_trace.specs.declared.reason.Reason.TheVariants as reasons
use Rattle.yds_trace.specs.Asked.{Task, Asked, task_at, is_after_from, is_behind_from}
use Rattle.yds_trace.specs.Past.{first_time, last_time, up_to, speed_after}
use Rattle.yds_trace.specs.Jobs.{Job, Known, changed_last, ran}
use Rattle.yds_trace.specs.Late.{last_asked, due, is_open, is_judged, late_by, lateness, over_by, earliest, may_be_late, is_unsure}
use Rattle.yds_trace.specs.Document.{closed, is_lost, is_elsewhere, is_of_unknown_speed, reaches_to, share_of, Judged, judged, judged_of, judged_from, in_order, all_judged}
use Rattle.yds_trace.specs.Parts.{begins_before}
use Rattle.yds_trace_document.proofs.Sorting.{filter_in_order}
use Rattle.yds_trace_laws.proofs.Runs.{all_weaker, reverse-all_back}
use Rattle.yds_trace_laws.proofs.Shares.{share_kept}
use Rattle.yds_trace_laws.proofs.Sharing.{GoesOn}
use Rattle.yds_trace_whole.proofs.Told.{Told, with_number, told, changed_told, OfTold, each_told, judge, judged_told}
use Rattle.yds_trace_whole.proofs.Going.{IsSoundEnd, IsDueOn, IsSound, IsLeft, Keeps, standing_free}
use Rattle.yds_trace_whole.proofs.First.{IsFrom, jobs_from}
use Rattle.yds_trace_whole.proofs.Holding.{IsFirmEnd, ripe_from, IsFirm, counted, told_of, Holds}

-- # Lateness

abbrev some_if : Bool → ℕ → Option ℕ
some_if b n = if b then Some n else None

-- a job that is shown up to a time
abbrev late_at : Option ℕ → ℕ → ℕ → ℕ → Bool → Option ℕ
late_at from last deadline shown unended =
    if is_judged from last deadline shown && (nat_lt deadline shown || ((deadline == shown) && unended)) then Some (shown - deadline) else None

judged_same : (from : Option ℕ) (last next deadline shown : ℕ) → deadline ≤ last → deadline ≤ next → is_judged from last deadline shown ≡ is_judged from next deadline shown
judged_same from last next deadline shown here there =
    ap (λ (b : Bool). is_behind_from from shown && b) (le-leb deadline last here ∙ sym (le-leb deadline next there))

due_by : (deadline shown : ℕ) (unended : Bool) → (nat_lt deadline shown || ((deadline == shown) && unended)) ≡ true → deadline ≤ shown
due_by deadline shown unended is = by (nat_lt deadline shown) refl is
  where
    by : (b : Bool) → nat_lt deadline shown ≡ b → (b || ((deadline == shown) && unended)) ≡ true → deadline ≤ shown
    by true less is = omega (arith, ltb-true deadline shown less)
    by false other is = omega (arith, eqb-true deadline shown (and_parts (deadline == shown) unended is).0)

late_at_same : (from : Option ℕ) (last next deadline shown : ℕ) (unended : Bool) → shown ≤ last → shown ≤ next →
    late_at from last deadline shown unended ≡ late_at from next deadline shown unended
late_at_same from last next deadline shown unended here there = by (nat_lt deadline shown || ((deadline == shown) && unended)) refl
  where
    by : (b : Bool) → (nat_lt deadline shown || ((deadline == shown) && unended)) ≡ b →
        ◌≡◌ {A = Option ℕ} (if is_judged from last deadline shown && b then Some (shown - deadline) else None) (if is_judged from next deadline shown && b then Some (shown - deadline) else None)
    by true is =
        ap (λ (b : Bool). some_if (b && true) (shown - deadline))
        (judged_same from last next deadline shown (omega (arith, due_by deadline shown unended is, here)) (omega (arith, due_by deadline shown unended is, there)))
    by false is = ap (λ (b : Bool). some_if b (shown - deadline)) (and-false (is_judged from last deadline shown) ∙ sym (and-false (is_judged from next deadline shown)))

late_same : (from : Option ℕ) (last next deadline decided line ripe over : ℕ) (end : End) → last ≤ next → IsSoundEnd last end → IsFirmEnd last decided line ripe over end →
    late_by from next deadline end ≡ late_by from last deadline end
late_same from last next deadline decided line ripe over ends.Open on sound firm = absurd firm
late_same from last next deadline decided line ripe over (ends.Ended end) on sound firm = late_at_same from next last deadline end false (omega (arith, on, sound)) sound
late_same from last next deadline decided line ripe over (ends.Lost since) on sound firm =
    ap (λ (shown : ℕ). late_at from next deadline shown true) (let e : min next since ≡ since = omega (arith, on, sound) in e)
    ∙ late_at_same from next last deadline since true (omega (arith, on, sound)) sound
    ∙ ap (λ (shown : ℕ). late_at from last deadline shown true) (let e : since ≡ min last since = omega (arith, sound) in e)

-- # Reasons

abbrev reason_with : Asked → List Said → Task → Job → End → Option Reason
reason_with asked past task job end =
    if not (is_after_from asked.from job.begin) then Some reasons.BeforeFrom
    else (if is_lost (last_asked asked past) end then Some reasons.EventsLost
    else (if job.switch_missing then Some reasons.SwitchMissing
    else (if is_open end && is_none (late_by asked.from (last_asked asked past) (due task job) end)
    then Some (if reaches_to asked past then reasons.AfterTo else reasons.NotEnded)
    else (if not job.begin_known then Some reasons.BeginUnseen
    else (if nat_lt (due task job) (job.begin + asked.unit) then Some reasons.DueBefore
    else (if list_any (is_elsewhere asked.processor) job.stretches then Some reasons.Moved
    else (if list_any is_of_unknown_speed job.stretches then Some reasons.SpeedUnknown else None)))))))

reason_same : (asked : Asked) (past next : List Said) (task : Task) (job : Job) (decided line ripe over : ℕ) (end : End) → last_asked asked past ≤ last_asked asked next →
    IsSoundEnd (last_asked asked past) end → IsFirmEnd (last_asked asked past) decided line ripe over end →
    reason_with asked next task job end ≡ reason_with asked past task job end
reason_same asked past next task job decided line ripe over ends.Open on sound firm = absurd firm
reason_same asked past next task job decided line ripe over (ends.Ended end) on sound firm = refl
reason_same asked past next task job decided line ripe over (ends.Lost since) on sound firm =
    lost next (lt-ltb since (last_asked asked next) (omega (arith, firm.1, on))) ∙ sym (lost past (lt-ltb since (last_asked asked past) firm.1))
  where
    lost : (lines : List Said) → nat_lt since (last_asked asked lines) ≡ true →
        reason_with asked lines task job (ends.Lost since) ≡ (if not (is_after_from asked.from job.begin) then Some reasons.BeforeFrom else Some reasons.EventsLost)
    lost lines is = rw is refl

-- # Where it isn't known whether a job is late

-- a job that is late so, and that may be late
abbrev unsure_with : Asked → Bool → Option ℕ → Bool → Bool
unsure_with asked after late may = not asked.cut_losses && after && is_none late && may

-- of a job that isn't done by a time that is over, or isn't reached
may_same : (last next deadline decided line ripe over : ℕ) (end : End) → last ≤ next → IsSoundEnd last end → IsFirmEnd last decided line ripe over end →
    (over ≤ last → (deadline ≤ last) ⊎ (next < deadline)) →
    (nat_le deadline next && not (over_by deadline end)) ≡ (nat_le deadline last && not (over_by deadline end))
may_same last next deadline decided line ripe over ends.Open on sound firm when = absurd firm
may_same last next deadline decided line ripe over (ends.Ended end) on sound firm when = by (cases_lt last deadline)
  where
    by : (last < deadline) ⊎ (deadline ≤ last) → (nat_le deadline next && not (nat_le end deadline)) ≡ (nat_le deadline last && not (nat_le end deadline))
    by (inl less) =
        let done : nat_le end deadline ≡ true = le-leb end deadline (omega (arith, less, sound)) in
        ap (λ (b : Bool). nat_le deadline next && not b) done ∙ and-false (nat_le deadline next)
        ∙ sym (ap (λ (b : Bool). nat_le deadline last && not b) done ∙ and-false (nat_le deadline last))
    by (inr reached) =
        ap (λ (b : Bool). b && not (nat_le end deadline)) (le-leb deadline next (omega (arith, reached, on)) ∙ sym (le-leb deadline last reached))
may_same last next deadline decided line ripe over (ends.Lost since) on sound firm when = by (when firm.2)
  where
    by : (deadline ≤ last) ⊎ (next < deadline) → (nat_le deadline next && true) ≡ (nat_le deadline last && true)
    by (inl reached) = ap (λ (b : Bool). b && true) (le-leb deadline next (omega (arith, reached, on)) ∙ sym (le-leb deadline last reached))
    by (inr before) = ap (λ (b : Bool). b && true) (lt-leb deadline next before ∙ sym (lt-leb deadline last (omega (arith, before, on))))

-- no job that begins from `from` on is due before its earliest deadline, where the trace's first line isn't after it
earliest_by : (asked : Asked) (first next : ℕ) (job : Job) → is_after_from asked.from job.begin ≡ true → IsDueOn job → (first ≤ job.begin) ⊎ (next < first) →
    (earliest asked first job ≤ job.due_from) ⊎ (next < earliest asked first job)
earliest_by asked first next job after due_on from = by (job.begin_known || asked.begin_at_run) refl
  where
    begun : (from : Option ℕ) → is_after_from from job.begin ≡ true → unwrap_or from 0 ≤ job.begin
    begun None after = omega arith
    begun (Some from) after = leb-true from job.begin after

    unseen : job.begin_known ≡ false → (first ≤ job.begin) ⊎ (next < first) →
        (max first (unwrap_or asked.from 0) ≤ job.due_from) ⊎ (next < max first (unwrap_or asked.from 0))
    unseen unknown (inl behind) = inl (omega (arith, behind, begun asked.from after, due_on unknown))
    unseen unknown (inr before) = inr (omega (arith, before))

    by : (b : Bool) → (job.begin_known || asked.begin_at_run) ≡ b → (let time : ℕ = if b then job.due_from else max first (unwrap_or asked.from 0) in
        (time ≤ job.due_from) ⊎ (next < time))
    by true is = inl (omega arith)
    by false is = unseen (or_parts job.begin_known asked.begin_at_run is).0 from

-- So it is as sure or unsure as it was.
unsure_same : (asked : Asked) (task : Task) (first last next decided line ripe : ℕ) (job : Job) → last ≤ next → IsSoundEnd last job.end →
    IsFirmEnd last decided line ripe (due task job) job.end → IsDueOn job → (first ≤ job.begin) ⊎ (next < first) →
    is_unsure asked task first next job ≡ is_unsure asked task first last job
unsure_same asked task first last next decided line ripe job on sound firm due_on from = by (is_after_from asked.from job.begin) refl
  where
    when : (earliest asked first job ≤ job.due_from) ⊎ (next < earliest asked first job) → due task job ≤ last →
        (earliest asked first job + task.deadline ≤ last) ⊎ (next < earliest asked first job + task.deadline)
    when (inl early) over = inl (omega (arith, early, over))
    when (inr behind) over = inr (omega (arith, behind))

    by : (b : Bool) → is_after_from asked.from job.begin ≡ b → unsure_with asked b (lateness asked task next job) (may_be_late asked task first next job)
        ≡ unsure_with asked b (lateness asked task last job) (may_be_late asked task first last job)
    by true is =
        ap₂ (unsure_with asked true) (late_same asked.from last next (due task job) decided line ripe (due task job) job.end on sound firm)
        (may_same last next (earliest asked first job + task.deadline) decided line ripe (due task job) job.end on sound firm
        (when (earliest_by asked first next job is due_on from)))
    by false is =
        ap (λ (b : Bool). b && is_none (lateness asked task next job) && may_be_late asked task first next job) (and-false (not asked.cut_losses))
        ∙ sym (ap (λ (b : Bool). b && is_none (lateness asked task last job) && may_be_late asked task first last job) (and-false (not asked.cut_losses)))

-- # A job

-- what is known of a job that is settled
abbrev IsStill : Asked → List Said → List Said → ℕ → ℕ → Job → Type 0
IsStill asked past next decided number job = IsSoundEnd (last_asked asked past) job.end × IsFirm asked past decided number job × IsDueOn job × IsFrom asked past next job

-- of a job, and of what it ran on the processor
job_same : (asked : Asked) (past next : List Said) (number decided place : ℕ) (before : Bool) (job : Job) → last_asked asked past ≤ last_asked asked next →
    IsStill asked past next decided number job →
    judged asked next number before (with_number place job) ≡ judged asked past number before (with_number place job)
job_same asked past next number decided place before job on is =
    let was : Judged = judged asked past number before (with_number place job) in
    let task : Task = task_at asked number in
    let last : ℕ = last_asked asked past in
    let later : ℕ = last_asked asked next in
    ap₂ (λ (late : Option ℕ) (reason : Option Reason). record was {
      late = late;
      unsure = is_unsure asked task (first_time 0 next) later job;
      reason = reason;
    })
    (late_same asked.from last later (due task job) decided (last_time past) (ripe_from asked number job) (due task job) job.end on is.0 is.1)
    (reason_same asked past next task job decided (last_time past) (ripe_from asked number job) (due task job) job.end on is.0 is.1)
    ∙ ap (λ (unsure : Bool). record was { unsure = unsure })
    (ap (λ (first : ℕ). is_unsure asked task first later job) is.3.0
    ∙ unsure_same asked task (first_time 0 past) last later decided (last_time past) (ripe_from asked number job) job on is.0 is.1 is.2 is.3.1)

-- so of what is told, as the processor's documents have it
judge_same : (asked : Asked) (past next : List Said) (number decided : ℕ) (one : Told) → last_asked asked past ≤ last_asked asked next →
    OfTold (IsStill asked past next decided number) one → judge asked next number one ≡ judge asked past number one
judge_same asked past next number decided one on is =
    let P : Job → Type 0 = IsStill asked past next decided number in
    job_same asked past next number decided one.numbered.0 one.before (share_of asked one.numbered.1) on
    (share_kept P (λ processor job so. so) asked one.numbered.1 is)

map_each : {A B : Type 0} (P : A → Type 0) (f g : A → B) (xs : List A) → ((x : A) → P x → f x ≡ g x) → AllByRecursion P xs → map f xs ≡ map g xs
map_each P f g [] each all = refl
map_each {A} {B} P f g (x ∷ xs) each all = ap₂ (λ (y : B) (ys : List B). y ∷ ys) (each x all.0) (map_each P f g xs each all.1)

-- two properties of each
both : {A : Type 0} (P Q : A → Type 0) (xs : List A) → AllByRecursion P xs → AllByRecursion Q xs → AllByRecursion (λ x. P x × Q x) xs
both P Q [] first second = tt
both P Q (x ∷ xs) first second = ((first.0, second.0), both P Q xs first.1 second.1)

-- # All jobs

-- who still has its processor has a job that isn't told
pub closed_told : (asked : Asked) (past : List Said) (boundary : ℕ) (known : Known) → IsLeft boundary known.on known.jobs →
    told boundary (closed asked past known) ≡ told boundary known.jobs
closed_told asked past boundary known last = by known.on last
  where
    more : (standing : Standing) (jobs : List Job) → IsLeft boundary (Some standing) jobs → (change : Job → Job) → ((job : Job) → boundary ≤ job.begin → boundary ≤ (change job).begin) →
        told boundary (changed_last change jobs) ≡ told boundary jobs
    more standing [] last change keeps = refl
    more standing (job ∷ jobs) last change keeps =
        let free : boundary ≤ job.begin = standing_free boundary standing (job ∷ jobs) last in changed_told boundary job (change job) jobs free (keeps job free)

    by : (on : Option Standing) → IsLeft boundary on known.jobs → told boundary (elim on [
      | None ↦ known.jobs
      | Some standing ↦ changed_last (ran (record {
        processor = standing.processor;
        from = standing.since;
        to = last_asked asked past;
        khz = speed_after asked.start standing.processor (up_to asked.to past);
      })) known.jobs
    ]) ≡ told boundary known.jobs
    by None last = refl
    by (Some standing) last = more standing known.jobs last _ (λ job late. late)

task_told : (asked : Asked) (past : List Said) (boundary number : ℕ) → IsLeft boundary (counted asked past number).on (counted asked past number).jobs →
    filter (begins_before boundary) (judged_of asked past number) ≡ map (judge asked past number) (told boundary (counted asked past number).jobs)
task_told asked past boundary number last =
    judged_told asked past number boundary (closed asked past (counted asked past number))
    ∙ ap (map (judge asked past number)) (closed_told asked past boundary (counted asked past number) last)

-- No job that is told begins before the trace's first line, which one line more leaves as it is.
pub told_from : (asked : Asked) (said : Said) (past : List Said) (cut : Cut) (number : ℕ) → GoesOn asked.to past → Holds asked past cut number →
    AllByRecursion (OfTold (IsFrom asked past (said ∷ past))) (told_of asked past cut number)
told_from asked said past cut number goes holds =
    let P : Job → Type 0 = IsFrom asked past (said ∷ past) in
    let jobs : List Job = closed asked past (counted asked past number) in
    subst (AllByRecursion (OfTold P)) (closed_told asked past cut.boundary (counted asked past number) holds.keeps.last)
    (each_told P cut.boundary jobs
    (all_weaker P (λ (job : Job). job.begin < cut.boundary → P job) (λ job is early. is) jobs (reverse-all_back P jobs (jobs_from asked said past number goes))))

-- Where the told jobs are the same, they are judged the same.
task_same : (asked : Asked) (past next : List Said) (cut : Cut) (number : ℕ) → last_asked asked past ≤ last_asked asked next → Holds asked past cut number →
    AllByRecursion (OfTold (IsFrom asked past next)) (told_of asked past cut number) →
    Keeps cut.boundary (last_asked asked next) (told_of asked past cut number) (counted asked next number) →
    filter (begins_before cut.boundary) (judged_of asked next number) ≡ filter (begins_before cut.boundary) (judged_of asked past number)
task_same asked past next cut number on holds from keeps =
    let Firm : Job → Type 0 = IsFirm asked past cut.decided number in
    let From : Job → Type 0 = IsFrom asked past next in
    let Sound : Job → Type 0 = IsSound (last_asked asked past) in
    let jobs : List Job = (counted asked past number).jobs in
    let all : List Told = told_of asked past cut number in
    task_told asked next cut.boundary number keeps.last
    ∙ ap (map (judge asked next number)) keeps.told
    ∙ map_each (λ one. (OfTold Firm one × OfTold Sound one) × OfTold From one) (judge asked next number) (judge asked past number) all
    (λ one is. judge_same asked past next number cut.decided one on (is.0.1.1, is.0.0, is.0.1.5, is.1))
    (both (λ one. OfTold Firm one × OfTold Sound one) (OfTold From) all
    (both (OfTold Firm) (OfTold Sound) all (each_told Firm cut.boundary jobs holds.firm)
    (each_told Sound cut.boundary jobs (all_weaker Sound (λ (job : Job). job.begin < cut.boundary → Sound job) (λ job is early. is) jobs holds.keeps.sound))) from)
    ∙ sym (task_told asked past cut.boundary number holds.keeps.last)

tasks_same : (asked : Asked) (past next : List Said) (boundary number : ℕ) (tasks : List Task) →
    ((k : ℕ) → k < number + length tasks → filter (begins_before boundary) (judged_of asked next k) ≡ filter (begins_before boundary) (judged_of asked past k)) →
    filter (begins_before boundary) (judged_from asked next number tasks) ≡ filter (begins_before boundary) (judged_from asked past number tasks)
tasks_same asked past next boundary number [] each = refl
tasks_same asked past next boundary number (task ∷ tasks) each =
    filter-append (begins_before boundary) (judged_of asked next number) (judged_from asked next (number + 1) tasks)
    ∙ ap₂ (λ (some rest : List Judged). some ++ rest) (each number (omega arith))
    (tasks_same asked past next boundary (number + 1) tasks (λ k within. each k (omega (arith, within))))
    ∙ sym (filter-append (begins_before boundary) (judged_of asked past number) (judged_from asked past (number + 1) tasks))

pub all_same : (asked : Asked) (past next : List Said) (cut : Cut) → last_asked asked past ≤ last_asked asked next →
    ((number : ℕ) → number < length asked.tasks → Holds asked past cut number) →
    ((number : ℕ) → number < length asked.tasks → AllByRecursion (OfTold (IsFrom asked past next)) (told_of asked past cut number)) →
    ((number : ℕ) → number < length asked.tasks → Keeps cut.boundary (last_asked asked next) (told_of asked past cut number) (counted asked next number)) →
    filter (begins_before cut.boundary) (all_judged asked next) ≡ filter (begins_before cut.boundary) (all_judged asked past)
all_same asked past next cut on holds from keeps =
    let key : Judged → ℕ = λ judged. judged.job.begin in
    filter_in_order key (begins_before cut.boundary) (judged_from asked next 0 asked.tasks)
    ∙ ap (in_order key) (tasks_same asked past next cut.boundary 0 asked.tasks
    (λ number within. task_same asked past next cut number on (holds number (omega (arith, within))) (from number (omega (arith, within))) (keeps number (omega (arith, within)))))
    ∙ sym (filter_in_order key (begins_before cut.boundary) (judged_from asked past 0 asked.tasks))
