-- What the answer of `admit` is worth: its text is read again as the document of the admitted jobs with their slots, and `audit`
-- answers it with 'feasible'. The comments of the refused jobs are short, and bring nothing.
use Rattle.yds_model.proofs.Common.{◌≡◌, ℕ, zero, suc, ◌+◌, ◌*◌, ◌<◌, ◌≤◌, Bool, true, false, List, [], ◌∷◌, ◌++◌, length, decimal, Option, Some, Result, Ok, Err, refl, sym, ap, subst, ◌∙◌, arith, inl, inr, codes, if◌then◌else◌, bytes_eq, All, AllByRecursion, flat_map, filter, length-decimal-le, length-append, All-nil, All-cons, All-head, All-tail, All-weaker, length-range_with_len, sum_by-le, length-filter, count_by-le-length, Job, IsJob, job_at, numbers_of, jobs_with, lies_within, confined_work, Refusal, IsRefusal, AdmitsAfter, top_capacity, with_taken, refusal_comment, AdmitAnswer, Document, name_at, no_document, canonical_text, is_name, number_at, reading, IsDocument, Request, AskAdmit, OfDocument, request_of_word, request_of_top, request_of_two, request_of_grid, request_of_trial, request_of_three, request_of, AnswersRequest}
use Rattle.base.specs.declared.limits.TheConstants.{MAX_JOBS, MAX_TIME, MAX_WORK, MAX_TOP, MAX_NAME}
use Rattle.base.specs.declared.number_fault.NumberFault.{NumberFault}
use Rattle.base.specs.declared.status.Status.TheVariants.{Done}
use Rattle.yds_texts.specs.AdmitText.{ReadAdmission, HoldsAdmission, AdmissionsAreRead, AdmissionsAreFeasible}
use Rattle.yds_laws.proofs.Forced.{refusals_are_forced}
use Rattle.yds_laws.proofs.AdmittedRuns.{admitted_runs_within_top}
use Rattle.yds_texts.proofs.Brought.{IsWord, Brings, Brings-nil, Brings-append, Brings-comment, read_whole}
use Rattle.yds_texts.proofs.Inverse.{number_at_ok}
use Rattle.yds_texts.proofs.Printed.{decimal_word, name_word}
use Rattle.yds_texts.proofs.Answered.{done_not_refused, answered, audited}
use Rattle.yds_texts.proofs.RoundTrip.{text_brought}
use Rattle.yds_texts.proofs.RunText.{run_feasible, run_few}
use Rattle.yds_laws.proofs.Served.{all_numbers}
use Rattle.yds_texts.proofs.Short.{line_length, lines_short, names_short, text_length}
use Rattle.yds_texts.proofs.Within.{read_is_within_limits}

-- # The words

-- where `admit` is asked for, the top speed is in range
abbrev TopFits : Option Request → Type 0
TopFits (Some (OfDocument (AskAdmit top))) = top ≤ MAX_TOP
TopFits _ = Unit {0}

either_fits : (test : Bool) (one other : Option Request) → TopFits one → TopFits other → TopFits (if test then one else other)
either_fits true one other first second = first
either_fits false one other first second = second

word_fits : (word : List ℕ) → TopFits (request_of_word word)
word_fits word = grind arith

top_fits : (text : List ℕ) (read : Result ℕ NumberFault) → number_at 1 MAX_TOP text ≡ read → TopFits (request_of_top read)
top_fits text (Ok top) is = (number_at_ok 1 MAX_TOP text top is).1
top_fits text (Err fault) is = tt

two_fit : (word next : List ℕ) → TopFits (request_of_two word next)
two_fit word next =
    either_fits (bytes_eq word (codes "audit")) _ _ (either_fits (bytes_eq next (codes "--points")) _ _ tt tt)
    (either_fits (bytes_eq word (codes "report")) _ _ (either_fits (bytes_eq next (codes "--json")) _ _ tt tt)
    (either_fits (bytes_eq word (codes "admit")) _ _ (top_fits next (number_at 1 MAX_TOP next) refl) tt))

grid_fits : (word : List ℕ) (read : Result ℕ NumberFault) → TopFits (request_of_grid word read)
grid_fits word (Err fault) = tt
grid_fits word (Ok grid) =
    either_fits (bytes_eq word (codes "avr")) _ _ tt
    (either_fits (bytes_eq word (codes "oa")) _ _ tt (either_fits (bytes_eq word (codes "compare")) _ _ tt tt))

trial_fits : (seed jobs : Result ℕ NumberFault) → TopFits (request_of_trial seed jobs)
trial_fits (Ok seed) (Ok jobs) = tt
trial_fits (Ok seed) (Err fault) = tt
trial_fits (Err fault) jobs = tt

three_fit : (word next last : List ℕ) → TopFits (request_of_three word next last)
three_fit word next last =
    either_fits (bytes_eq word (codes "trial")) _ _ (trial_fits _ _) (either_fits (bytes_eq next (codes "--grid")) _ _ (grid_fits word _) tt)

request_fits : (words : List (List ℕ)) → TopFits (request_of words)
request_fits [] = tt
request_fits (word ∷ []) = word_fits word
request_fits (word ∷ next ∷ []) = two_fit word next
request_fits (word ∷ next ∷ last ∷ []) = three_fit word next last
request_fits (word ∷ next ∷ last ∷ more ∷ words) = tt

-- # The refusals

-- a refusal of one of so many jobs, with numbers that documents have
record IsSmall (count : ℕ) (refusal : Refusal) : Type 0 where
  known : refusal.job < count
  from : refusal.from ≤ MAX_TIME
  to : refusal.to ≤ MAX_TIME
  work : refusal.work ≤ MAX_JOBS * MAX_WORK

-- a job's numbers are within the limits, also where there is none
record IsInRange (job : Job) : Type 0 where
  release : job.release ≤ MAX_TIME
  deadline : job.deadline ≤ MAX_TIME
  work : job.work ≤ MAX_WORK

job_in_range : (jobs : List Job) → All IsJob jobs → (number : ℕ) → IsInRange (job_at jobs number)
job_in_range [] fit number = record { release = omega arith; deadline = omega arith; work = omega arith }
job_in_range (job ∷ jobs) fit zero =
    let is = All-head IsJob job jobs fit in
    record { release = omega (arith, is.has_window, is.time_in_range); deadline = is.time_in_range; work = is.work_in_range }
job_in_range (job ∷ jobs) fit (suc number) = job_in_range jobs (All-tail IsJob job jobs fit) number

module _ (jobs : List Job) (top : ℕ) (fit : All IsJob jobs) where
  -- the work confined to an interval, of no more jobs than a document has
  confined_small : (competing : List ℕ) (from to : ℕ) → length competing ≤ MAX_JOBS → confined_work jobs competing from to ≤ MAX_JOBS * MAX_WORK
  confined_small competing from to few =
      omega (
        arith,
        sum_by-le (λ number. (job_at jobs number).work) MAX_WORK (filter (lies_within jobs from to) competing) (λ k d within. (job_in_range jobs fit _).work),
        length-filter (lies_within jobs from to) competing,
        count_by-le-length (lies_within jobs from to) competing,
        few,
      )

  refusal_small : (competing : List ℕ) (number : ℕ) (refusal : Refusal) → length competing ≤ MAX_JOBS → number < length jobs →
      IsRefusal jobs top competing number refusal → IsSmall (length jobs) refusal
  refusal_small competing number refusal few known is =
      let full = is.interval.overfull in
      let begins = full.is_release in
      let ends = full.is_deadline in
      record {
        known = omega (arith, known, is.is_job);
        from = omega (arith, begins.4, (job_in_range jobs fit begins.1).release);
        to = omega (arith, ends.4, (job_in_range jobs fit ends.1).deadline);
        work = omega (arith, is.is_work, confined_small competing refusal.from refusal.to few);
      }

  -- a list of them, no longer than that of the jobs that were looked at
  record AreSmall (numbers : List ℕ) (refused : List Refusal) : Type 0 where
    small : All (IsSmall (length jobs)) refused
    few : length refused ≤ length numbers

  refusals_small : (before numbers taken : List ℕ) (refused : List Refusal) → length before + length numbers ≤ MAX_JOBS → All (λ number. number < length jobs) numbers →
      AdmitsAfter jobs top before numbers taken refused → AreSmall numbers refused
  refusals_small before [] taken refused few known (none, done) =
      subst (AreSmall []) (sym done) (record { small = All-nil (IsSmall (length jobs)); few = omega arith })
  refusals_small before (number ∷ numbers) taken refused few known (inl (serves, later, is, rest)) =
      let others = refusals_small (before ++ number ∷ []) numbers later refused (omega (arith, few, length-append before (number ∷ [])))
      (All-tail (λ number. number < length jobs) number numbers known) rest in
      record { small = others.small; few = omega (arith, others.few) }
  refusals_small before (number ∷ numbers) taken refused few known (inr (overfull, refusal, others, is, refuses, rest)) =
      let more = refusals_small before numbers taken others (omega (arith, few)) (All-tail (λ number. number < length jobs) number numbers known) rest in
      let one = refusal_small (before ++ number ∷ []) number refusal (omega (arith, few, length-append before (number ∷ [])))
      (All-head (λ number. number < length jobs) number numbers known) refuses in
      subst (AreSmall (number ∷ numbers)) (sym is) (record {
        small = All-cons (IsSmall (length jobs)) refusal others one more.small;
        few = omega (arith, more.few);
      })

-- # Their comments

abbrev comment_texts : Document → ℕ → Refusal → List (List ℕ)
comment_texts document top refusal =
    codes "#" ∷ codes "refuse" ∷ name_at document.names refusal.job ∷ codes "from" ∷ decimal refusal.from ∷ codes "to" ∷ decimal refusal.to
    ∷ codes "work" ∷ decimal refusal.work ∷ codes "top" ∷ decimal top ∷ []

comment_words : (document : Document) (top : ℕ) (refusal : Refusal) → is_name (name_at document.names refusal.job) ≡ true → top ≤ MAX_TOP →
    IsSmall (length document.jobs) refusal → AllByRecursion IsWord (comment_texts document top refusal)
comment_words document top refusal named within small = grind (arith, decimal_word, name_word)

comment_short : (document : Document) (top : ℕ) (refusal : Refusal) → length (name_at document.names refusal.job) ≤ MAX_NAME → top ≤ MAX_TOP →
    IsSmall (length document.jobs) refusal → length (refusal_comment document top refusal) ≤ 140
comment_short document top refusal named within small =
    let from : length (decimal refusal.from) ≤ 10 = length-decimal-le 10 refusal.from (omega arith) (omega (arith, small.from)) (omega (arith, small.from)) in
    let to : length (decimal refusal.to) ≤ 10 = length-decimal-le 10 refusal.to (omega arith) (omega (arith, small.to)) (omega (arith, small.to)) in
    let work : length (decimal refusal.work) ≤ 10 = length-decimal-le 10 refusal.work (omega arith) (omega (arith, small.work)) (omega (arith, small.work)) in
    let speed : length (decimal top) ≤ 7 = length-decimal-le 7 top (omega arith) (omega (arith, within)) (omega (arith, within)) in
    omega (
      arith,
      line_length (codes "#") (codes "refuse" ∷ name_at document.names refusal.job ∷ codes "from" ∷ decimal refusal.from ∷ codes "to" ∷ decimal refusal.to
          ∷ codes "work" ∷ decimal refusal.work ∷ codes "top" ∷ decimal top ∷ []),
      named,
      from,
      to,
      work,
      speed,
    )

-- the comments bring nothing to a document that was read
comments_brought : (shown document : Document) (top : ℕ) (refused : List Refusal) → IsDocument document → top ≤ MAX_TOP → All (IsSmall (length document.jobs)) refused →
    Brings shown (flat_map (refusal_comment document top) refused) shown
comments_brought shown document top [] fits within small = Brings-nil shown
comments_brought shown document top (refusal ∷ refused) fits within small =
    let one = All-head (IsSmall (length document.jobs)) refusal refused small in
    let named : is_name (name_at document.names refusal.job) ≡ true = fits.jobs.names_fit refusal.job [] (omega (arith, one.known, fits.jobs.one_name_each)) in
    Brings-append shown shown shown (refusal_comment document top refusal) (flat_map (refusal_comment document top) refused)
    (Brings-comment shown (comment_texts document top refusal) (comment_words document top refusal named within one) refl)
    (comments_brought shown document top refused fits within (All-tail (IsSmall (length document.jobs)) refusal refused small))

-- # The text

-- an answer of `admit` to an input that is read as a document
admission_read : (top : ℕ) (input text : List ℕ) (document : Document) → top ≤ MAX_TOP → reading input ≡ Ok document → (answer : AdmitAnswer document top text Done) →
    ReadAdmission top input text document answer.taken answer.refused answer.slots
admission_read top input text document within read answer =
    let jobs = jobs_with document.jobs answer.taken in
    let shown = with_taken document answer.taken answer.slots in
    let comments = flat_map (refusal_comment document top) answer.refused in
    let fits : IsDocument document = read_is_within_limits input document read in
    let possible : IsDocument shown = answer.is_admitted.possible in
    let small = refusals_small document.jobs top fits.jobs.jobs_fit [] (numbers_of document.jobs) answer.taken answer.refused
    (omega (arith, fits.jobs.few, length-range_with_len 0 (length document.jobs))) (all_numbers (λ number. number < length document.jobs) document.jobs (λ number below. below)) answer.admission in
    let written : text ≡ canonical_text shown ++ comments = answer.said ∙ ap (λ (admitted : List ℕ). admitted ++ comments) answer.is_admitted.written in
    let short : length comments ≤ 140 * length answer.refused = lines_short (refusal_comment document top) 140 answer.refused
    (All-weaker (IsSmall (length document.jobs)) (λ refusal. length (refusal_comment document top refusal) ≤ 140)
    (λ refusal one. comment_short document top refusal (names_short document.names fits.jobs.names_fit refusal.job) within one) answer.refused small.small) in
    let few = run_few jobs 1 (top_capacity jobs top) answer.slots answer.run.run in
    record {
      read = read;
      admission = answer.admission;
      written = written;
      short = omega (
        arith,
        ap length written,
        length-append (canonical_text shown) comments,
        text_length shown possible,
        possible.jobs.few,
        possible.points.few,
        few,
        short,
        small.few,
        length-range_with_len 0 (length document.jobs),
        fits.jobs.few,
      );
      read_again = ap reading written
          ∙ read_whole (canonical_text shown ++ comments) shown
          (Brings-append no_document shown shown (canonical_text shown) comments (text_brought shown possible)
          (comments_brought shown document top answer.refused fits within small.small));
      run = answer.run;
      feasible = run_feasible jobs 1 (top_capacity jobs top) answer.slots answer.run.run;
      within_top = admitted_runs_within_top jobs top answer.slots answer.run;
      forced = refusals_are_forced document.jobs top answer.taken answer.refused answer.admission;
    }

-- the answer to words that ask for it
pub admission_held : (words : List (List ℕ)) (top : ℕ) → request_of words ≡ Some (OfDocument (AskAdmit top)) → (input text : List ℕ) →
    AnswersRequest (Some (OfDocument (AskAdmit top))) input text Done → HoldsAdmission top input text
admission_held words top asks input text answers =
    let is = answered (AskAdmit top) input text Done done_not_refused answers in
    let within : top ≤ MAX_TOP = subst TopFits asks (request_fits words) in
    (is.document, is.answers.taken, is.answers.refused, is.answers.slots, admission_read top input text is.document within is.read is.answers)

-- the law: the text is read again
pub admissions_are_read : AdmissionsAreRead
admissions_are_read words top asks input text answers =
    admission_held words top asks input text (subst (λ request. AnswersRequest request input text Done) asks answers)

-- the law: `audit` answers it with 'feasible'
pub admission_texts_are_feasible : AdmissionsAreFeasible
admission_texts_are_feasible words top asks input text answers =
    let (document, taken, refused, slots, is) = admissions_are_read words top asks input text answers in
    audited text (with_taken document taken slots) is.short is.read_again is.feasible
