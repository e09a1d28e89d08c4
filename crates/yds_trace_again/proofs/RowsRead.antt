-- The lines of a trace's document are read one after another: its jobs, its ticks and its runs.
use Rattle.yds_model.proofs.Common.{◌≡◌, ℕ, suc, ◌+◌, ◌-◌, ◌*◌, ◌/◌, ◌<◌, ◌≤◌, ◌==◌, true, List, [], ◌∷◌, ◌++◌, length, map, decimal, Some, None, Ok, refl, sym, ap, subst, ◌∙◌, arith, inl, codes, if◌then◌else◌, All, All-cons, All-nil, AllByRecursion, list_all, filter_map, flat_map, position, bytes_eq, lt-ltb, le-leb, mul-le-mul_right, div-one, length-append, map-append, length-map, IsJob, Fraction, of_whole, of_parts, AreAlike, Document, no_document, name_at, is_name, Entry, JobEntry, SlotEntry, TicksEntry, name_said, slot_said, ticks_said, job_named, read_fields, fits_grain, are_alike, spaced, number_at-decimal, AreNamedJobs}
use Rattle.model_lemmas.proofs.Said.{with_job, with_slot, says-job, says-slot, says_other, said-ticks, none_said, more_said}
use Rattle.std.proofs.Math.Nat.{mod-one}
use Rattle.base.specs.declared.limits.TheConstants.{MAX_JOBS, MAX_TIME, MAX_WORK, MAX_SLOTS, MAX_SLOT_WORK, MAX_RUN_SPEED}
use Rattle.model_lemmas.proofs.Said.{Says}
use Rattle.yds_trace.specs.WrittenTime.{Run, work_of_run}
use Rattle.yds_trace.specs.Document.{Written, Placed}
use Rattle.yds_trace_laws.specs.AsSlots.{job_read, slot_read, jobs_read, slots_read}
use Rattle.yds_trace_text.specs.Text.{name_of, job_text, ticks_text, run_text}
use Rattle.yds_texts.proofs.Brought.{IsWord, Leads, Leads-line, Leads-each}
use Rattle.yds_texts.proofs.JobNames.{name_new, name_known}
use Rattle.yds_texts.proofs.KindsRead.{job_texts, job_words, job_read as job_line_read, grain_test}
use Rattle.yds_texts.proofs.Printed.{decimal_word, name_word}

-- what was said: this document, and these ticks
pub record SaysWith (ticks : List ℕ) (document : Document) (entries : List Entry) : Type 0 where
  pub document_is : Says entries document
  pub ticks_are : filter_map ticks_said entries ≡ ticks

pub nothing_said : SaysWith [] no_document []
nothing_said = record { document_is = record { said = refl; pieces = refl; members = refl }; ticks_are = refl }

-- # One element of a list

length_before : {X : Type 0} (all before : List X) (x : X) (after : List X) → before ++ x ∷ after ≡ all → length all ≡ length before + 1 + length after
length_before all before x after is =
    let long : length all ≡ length before + length (x ∷ after) = ap length (sym is) ∙ length-append before (x ∷ after) in omega arith

All-there : {X : Type 0} (P : X → Type 0) (before : List X) (x : X) (after : List X) → All P (before ++ x ∷ after) → P x
All-there P [] x after all = all 0 x (omega arith)
All-there P (first ∷ before) x after all = All-there P before x after (λ k d within. all (suc k) d (omega (arith, within)))

All-middle : {X : Type 0} (P : X → Type 0) (all before : List X) (x : X) (after : List X) → before ++ x ∷ after ≡ all → All P all → P x
All-middle P all before x after is holds = All-there P before x after (subst (All P) (sym is) holds)

map-middle : {X Y : Type 0} (f : X → Y) (all before : List X) (x : X) (after : List X) → before ++ x ∷ after ≡ all → map f before ++ f x ∷ map f after ≡ map f all
map-middle f all before x after is = sym (map-append f before (x ∷ after)) ∙ ap (map f) is

-- # Jobs

abbrev pub some_jobs : List Written → Document
some_jobs jobs = record no_document { names = map name_of jobs; jobs = jobs_read jobs }

one_more_job : (before : List Written) (job : Written) → with_job (name_of job) (job_read job) (some_jobs before) ≡ some_jobs (before ++ job ∷ [])
one_more_job before job = rw (map-append name_of before (job ∷ []), map-append job_read before (job ∷ [])) refl

pub jobs_lead : (jobs : List Written) → AreNamedJobs (map name_of jobs) (jobs_read jobs) →
    Leads (SaysWith [] no_document) (flat_map job_text jobs) (SaysWith [] (some_jobs jobs))
jobs_lead jobs fits = Leads-each (λ some. SaysWith [] (some_jobs some)) job_text jobs each
  where
    each : (before : List Written) (job : Written) (after : List Written) → before ++ job ∷ after ≡ jobs →
        Leads (SaysWith [] (some_jobs before)) (job_text job) (SaysWith [] (some_jobs (before ++ job ∷ [])))
    each before job after is =
        let names = map-middle name_of jobs before job after is in
        let named : is_name job.name ≡ true = All-middle (λ name. is_name name ≡ true) (map name_of jobs) (map name_of before) job.name (map name_of after) names fits.names_fit in
        let fit : IsJob (job_read job) = All-middle IsJob (jobs_read jobs) (jobs_read before) (job_read job) (jobs_read after) (map-middle job_read jobs before job after is) fits.jobs_fit in
        let few : length (map name_of before) < MAX_JOBS =
        omega (arith, length_before jobs before job after is, fits.few, length-map jobs job_read, length-map before name_of) in
        Leads-line (SaysWith [] (some_jobs before)) (SaysWith [] (some_jobs (before ++ job ∷ []))) (job_texts job.name (job_read job)) (job_words job.name (job_read job) named fit) refl
        (λ earlier says.
        let known : filter_map name_said earlier ≡ map name_of before = ap (λ (d : Document). d.names) says.document_is.said in
        let new : job_named earlier job.name ≡ None =
        ap (λ names. position (λ other. bytes_eq other job.name) names) known ∙ name_new (map name_of jobs) (map name_of before) job.name (map name_of after) fits.different names in
        let room : length (filter_map name_said earlier) < MAX_JOBS = omega (arith, ap {B = ℕ} length known, few) in (
          JobEntry job.name (job_read job),
          job_line_read earlier job.name (job_read job) fit named new room,
          record {
            document_is = subst (Says (earlier ++ JobEntry job.name (job_read job) ∷ [])) (one_more_job before job) (says-job earlier job.name (job_read job) (some_jobs before) says.document_is);
            ticks_are = none_said ticks_said earlier (JobEntry job.name (job_read job)) refl ∙ says.ticks_are;
          },
        ))

-- # Ticks

abbrev ticks_texts : List (List ℕ)
ticks_texts = codes "ticks" ∷ codes "1" ∷ []

ticks_words : AllByRecursion IsWord ticks_texts
ticks_words = (name_word (codes "ticks") refl, (name_word (codes "1") refl, tt))

ticks_read : (earlier : List Entry) → filter_map ticks_said earlier ≡ [] → read_fields earlier (spaced 1 ticks_texts) ≡ Ok (TicksEntry 1)
ticks_read earlier none = rw none refl

pub ticks_lead : (d : Document) → Leads (SaysWith [] d) ticks_text (SaysWith (1 ∷ []) d)
ticks_lead d =
    Leads-line (SaysWith [] d) (SaysWith (1 ∷ []) d) ticks_texts ticks_words refl
    (λ earlier says. (
      TicksEntry 1,
      ticks_read earlier says.ticks_are,
      record {
        document_is = says_other earlier (TicksEntry 1) d d refl refl refl (said-ticks earlier 1 ∙ says.document_is.said) says.document_is;
        ticks_are = more_said ticks_said earlier (TicksEntry 1) 1 refl ∙ ap (λ xs. xs ++ 1 ∷ []) says.ticks_are;
      },
    ))

-- # Runs

-- a run within the limits of a document
pub record IsRun (run : Run) : Type 0 where
  pub forward : run.from < run.to
  pub time_in_range : run.to ≤ MAX_TIME
  pub work_in_range : work_of_run run ≤ MAX_WORK

speed_in_range : (speed long most : ℕ) → 1 ≤ long → speed * long ≤ most → speed ≤ most
speed_in_range speed long most positive within = omega (arith, within, mul-le-mul_right speed positive)

whole_parts : (n : ℕ) → of_parts n 1 ≡ of_whole n
whole_parts n = rw (mod-one n, div-one n) refl

abbrev run_texts : List ℕ → Run → List (List ℕ)
run_texts name run = codes "run" ∷ name ∷ decimal run.from ∷ decimal run.to ∷ decimal run.speed ∷ []

run_words : (name : List ℕ) (run : Run) → is_name name ≡ true → IsRun run → AllByRecursion IsWord (run_texts name run)
run_words name run named fits =
    let speed : run.speed ≤ MAX_WORK = speed_in_range run.speed (run.to - run.from) MAX_WORK (omega (arith, fits.forward)) fits.work_in_range in
    (name_word (codes "run") refl, (name_word name named, (decimal_word run.from (omega (arith, fits.forward, fits.time_in_range)), (decimal_word run.to (omega (arith, fits.time_in_range)), (decimal_word run.speed (omega (arith, speed)), tt)))))

run_read : (earlier : List Entry) (name : List ℕ) (placed : Placed) → IsRun placed.run → is_name name ≡ true → job_named earlier name ≡ Some placed.job →
    filter_map ticks_said earlier ≡ 1 ∷ [] → fits_grain earlier placed.job (of_whole (work_of_run placed.run)) ≡ true → length (filter_map slot_said earlier) < MAX_SLOTS →
    read_fields earlier (spaced 1 (run_texts name placed.run)) ≡ Ok (SlotEntry (slot_read placed))
run_read earlier name placed fits named known ticks grain room =
    let speed : placed.run.speed ≤ MAX_RUN_SPEED = speed_in_range placed.run.speed (placed.run.to - placed.run.from) MAX_RUN_SPEED (omega (arith, fits.forward)) (omega (arith, fits.work_in_range)) in
    let from : placed.run.from ≤ MAX_TIME * 1 = omega (arith, fits.forward, fits.time_in_range) in
    let to : placed.run.to ≤ MAX_TIME * 1 = omega (arith, fits.time_in_range) in
    let work : work_of_run placed.run / 1 ≤ MAX_SLOT_WORK = omega (arith, div-one (work_of_run placed.run), fits.work_in_range) in
    rw (
      ticks,
      lt-ltb (length (filter_map slot_said earlier)) MAX_SLOTS room,
      named,
      known,
      number_at-decimal 0 (MAX_TIME * 1) placed.run.from (omega (arith, from)) (omega arith) from,
      number_at-decimal 0 (MAX_TIME * 1) placed.run.to (omega (arith, to)) (omega arith) to,
      number_at-decimal 0 MAX_RUN_SPEED placed.run.speed (omega (arith, speed)) (omega arith) speed,
      le-leb (work_of_run placed.run / 1) MAX_SLOT_WORK work,
      whole_parts placed.run.from,
      whole_parts placed.run.to,
      whole_parts (work_of_run placed.run),
      grain,
    ) refl

-- the document of the jobs, with the first runs
abbrev pub some_runs : List Written → List Placed → Document
some_runs jobs runs = record (some_jobs jobs) { slots = slots_read runs }

one_more_run : (jobs : List Written) (before : List Placed) (placed : Placed) → with_slot (slot_read placed) (some_runs jobs before) ≡ some_runs jobs (before ++ placed ∷ [])
one_more_run jobs before placed = rw (map-append slot_read before (placed ∷ [])) refl

whole_works : (job : ℕ) (work : ℕ) (before : List Placed) → All (λ slot. slot.job ≡ job → AreAlike (of_whole work) slot.work) (slots_read before)
whole_works job work [] = All-nil (λ slot. slot.job ≡ job → AreAlike (of_whole work) slot.work)
whole_works job work (placed ∷ before) =
    All-cons (λ slot. slot.job ≡ job → AreAlike (of_whole work) slot.work) (slot_read placed) (slots_read before) (λ same. inl refl) (whole_works job work before)

pub runs_lead : (jobs : List Written) (runs : List Placed) → AreNamedJobs (map name_of jobs) (jobs_read jobs) → length runs ≤ MAX_SLOTS →
    All (λ placed. placed.job < length (map name_of jobs)) runs → All (λ placed. IsRun placed.run) runs →
    Leads (SaysWith (1 ∷ []) (some_jobs jobs)) (flat_map (run_text (map name_of jobs)) runs) (SaysWith (1 ∷ []) (some_runs jobs runs))
runs_lead jobs runs fits few known are = Leads-each (λ some. SaysWith (1 ∷ []) (some_runs jobs some)) (run_text (map name_of jobs)) runs each
  where
    each : (before : List Placed) (placed : Placed) (after : List Placed) → before ++ placed ∷ after ≡ runs →
        Leads (SaysWith (1 ∷ []) (some_runs jobs before)) (run_text (map name_of jobs) placed) (SaysWith (1 ∷ []) (some_runs jobs (before ++ placed ∷ [])))
    each before placed after is =
        let name : List ℕ = name_at (map name_of jobs) placed.job in
        let there : placed.job < length (map name_of jobs) = All-middle (λ placed. placed.job < length (map name_of jobs)) runs before placed after is known in
        let named : is_name name ≡ true = fits.names_fit placed.job [] there in
        let run : IsRun placed.run = All-middle (λ placed. IsRun placed.run) runs before placed after is are in
        let room : length (slots_read before) < MAX_SLOTS = omega (arith, length_before runs before placed after is, few, length-map before slot_read) in
        Leads-line (SaysWith (1 ∷ []) (some_runs jobs before)) (SaysWith (1 ∷ []) (some_runs jobs (before ++ placed ∷ []))) (run_texts name placed.run) (run_words name placed.run named run) refl
        (λ earlier says.
        let number : job_named earlier name ≡ Some placed.job =
        ap (λ (d : Document). position (λ other. bytes_eq other name) d.names) says.document_is.said ∙ name_known (map name_of jobs) placed.job fits.different there in
        let slots : filter_map slot_said earlier ≡ slots_read before = ap (λ (d : Document). d.slots) says.document_is.said in
        let work : Fraction = of_whole (work_of_run placed.run) in
        let grain : fits_grain earlier placed.job work ≡ true =
        ap (λ slots. list_all (are_alike work) (filter_map (λ other. if other.job == placed.job then Some other.work else None) slots)) slots
        ∙ grain_test placed.job work (slots_read before) (whole_works placed.job (work_of_run placed.run) before) in (
          SlotEntry (slot_read placed),
          run_read earlier name placed run named number says.ticks_are grain (omega (arith, ap {B = ℕ} length slots, room)),
          record {
            document_is = subst (Says (earlier ++ SlotEntry (slot_read placed) ∷ [])) (one_more_run jobs before placed) (says-slot earlier (slot_read placed) (some_runs jobs before) says.document_is);
            ticks_are = none_said ticks_said earlier (SlotEntry (slot_read placed)) refl ∙ says.ticks_are;
          },
        ))
