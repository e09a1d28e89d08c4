-- What holds of what is asked of a trace, from the words that ask for it.
use Rattle.std.specs.Prelude.{IfSome}
use Rattle.base.proofs.Common.{◌≡◌, ◌≢◌, ℕ, ◌+◌, ◌*◌, ◌^◌, ◌≤◌, ◌⊎◌, inl, inr, List, [], ◌∷◌, length, All, All-cons, All-nil, Bool, true, false, nat_le, nat_lt, Option, Some, None, option_map, is_none, unwrap_or, ◌||◌, ◌==◌, Result, Ok, Err, refl, ap, subst, AllPairs, AllPairs-cons, get_or, list_any_at, bytes_eq, bytes_eq-Decides, cases_Bool, ◌∙◌, arith, if◌then◌else◌, leb-true, ltb-false, codes, and_parts, ◌&&◌, digits_value}
use Rattle.std.specs.List.{slice_split, list_any, before_first, after_first}
use Rattle.std.specs.Result.{result_ok}
use Rattle.std.proofs.lemmas.List.Splits.{length-slice_split}
use Rattle.base.specs.Spelling.{number_at, is_number}
use Rattle.base.specs.declared.number_fault.NumberFault.{NumberFault}
use Rattle.base.specs.declared.number_fault.NumberFault.TheVariants.{BadNumber, OutOfRange}
use Rattle.yds_kernel.specs.Parts.{◌>>=◌ as ◌>>?◌}
use Rattle.yds_kernel.specs.declared.limits.TheConstants.{MAX_NUMBER}
use Rattle.yds_trace.specs.declared.limits.TheConstants.{MAX_TIME, MAX_DEADLINE}
use Rattle.yds_trace.specs.declared.job.Pace.{Pace}
use Rattle.yds_trace.specs.Asked.{Task, Start, Asked, Numbered, Named}
use Rattle.yds_trace_bounds.specs.declared.bounds.Moment.{Moment}
use Rattle.yds_trace_bounds.specs.declared.bounds.Moment.TheVariants.{Clock, AfterFirst}
use Rattle.yds_trace_bounds.specs.declared.bounds.Bounds.{Bounds}
use Rattle.yds_trace_bounds.specs.Bounds.{within_clock, time_at}
use Rattle.yds_trace_words.specs.declared.limits.TheConstants.{MAX_UNIT, MAX_TASKS}
use Rattle.yds_trace_words.specs.declared.fault.Reason.{Reason}
use Rattle.yds_trace_words.specs.declared.fault.Reason.TheVariants as reasons
use Rattle.yds_trace_words.specs.declared.fault.Place.TheVariants as places
use Rattle.yds_trace_words.specs.declared.letter.Letter.{Letter}
use Rattle.yds_trace_words.specs.declared.letter.Sign.TheVariants as signs
use Rattle.yds_trace_words.specs.Words.{WordFault, refuse, ◌>>=◌, before, and_behind, Setting, settings_of, value_of, is_given, other_than, given_twice}
use Rattle.yds_trace_words.specs.Decimal.{decimal_at, at_most, fraction_at, behind_point, is_point}
use Rattle.yds_trace_words.specs.Letters.{letters_of, is_at, text_of}
use Rattle.yds_trace_words.specs.Tasks.{known, is_label, refuse_task, label_at, Called, pid_at, numbered_at, named_at, called_at, milliseconds_at, deadline_at, Times, pace_at, paced_at, alone_at, times_at, task_of_parts, task_at, tasks_from, tasks_of, tasks_asked, is_same_label, is_same_thread, again_in, different_from, unless}
use Rattle.yds_trace_words.specs.Request.{Request, ShowHelp, ShowVersion, ReadTrace, ListThreads, whole_or_refused, whole_or, moment_of, time_or_refused, time_of, ordered, bounds_by, only, processor_of, others_asked, speeds_asked, trace_by, threads_alone, threads_or_trace, is_question, asked_once, request_by, request_of, IsFitRequest}

-- # Steps

-- a step that went on, with what it gave
record Went {A B : Type 0} (first : Result A WordFault) (next : A → Result B WordFault) (b : B) : Type 0 where
  pub value : A
  pub was : first ≡ Ok value
  pub is : next value ≡ Ok b

went : {A B : Type 0} (first : Result A WordFault) (next : A → Result B WordFault) (b : B) → (first >>= next) ≡ Ok b → Went first next b
went (Ok x) next b is = record { value = x; was = refl; is = is }
went (Err fault) next b is = absurd cc

either : {A : Type 0} (b : Bool) (one other : Result A WordFault) (x : A) → (if b then one else other) ≡ Ok x → (one ≡ Ok x) ⊎ (other ≡ Ok x)
either true one other x is = inl is
either false one other x is = inr is

-- a test that passed, and what it gave
passed : {A : Type 0} (b : Bool) (x y : A) (fault : WordFault) → (if b then Ok x else Err fault) ≡ Ok y → (b ≡ true) × (x ≡ y)
passed true x y fault is = (refl, cc)
passed false x y fault is = absurd cc

-- # Numbers

some_most : (most value given : ℕ) → at_most most value ≡ Some given → given ≤ most
some_most most value given is = by (nat_le value most) refl is
  where
    by : (b : Bool) → nat_le value most ≡ b → (if b then Some value else None) ≡ Some given → given ≤ most
    by true small same = let even : value ≡ given = cc in omega (arith, even, leb-true value most small)
    by false great same = absurd cc

joined_most : (whole parts : Option ℕ) (most : ℕ) (join : ℕ → ℕ → ℕ) (given : ℕ)
    → (whole >>? (λ w. parts >>? (λ p. at_most most (join w p)))) ≡ Some given → given ≤ most
joined_most None parts most join given is = absurd cc
joined_most (Some w) None most join given is = absurd cc
joined_most (Some w) (Some p) most join given is = some_most most (join w p) given is

-- a decimal is at most so many parts
decimal_most : (places most : ℕ) (text : List ℕ) (given : ℕ) → decimal_at places most text ≡ Some given → given ≤ most
unfolding decimal_at
decimal_most places most text given is =
    joined_most (result_ok (number_at 0 most (before_first is_point text))) (fraction_at places (behind_point text)) most (λ w p. w * 10 ^ places + p) given is

known_most : (place : ℕ) (reason : Reason) (places most : ℕ) (text : List ℕ) (given : ℕ) → known place reason (decimal_at places most text) ≡ Ok given → given ≤ most
known_most place reason places most text given is = by (decimal_at places most text) refl is
  where
    by : (found : Option ℕ) → decimal_at places most text ≡ found → known place reason found ≡ Ok given → given ≤ most
    by None was same = absurd cc
    by (Some x) was same = let even : x ≡ given = cc in decimal_most places most text given (was ∙ ap Some even)

-- # Tasks

record IsFine (unit : ℕ) (task : Task) : Type 0 where
  pub long : unit ≤ task.deadline
  pub short : task.deadline ≤ MAX_DEADLINE
  pub label : is_label task.label ≡ true

label_fits : (place : ℕ) (text label : List ℕ) → label_at place text ≡ Ok label → is_label label ≡ true
label_fits place text label is = let given = passed (is_label text) text label _ is in subst (λ t. is_label t ≡ true) given.1 given.0

numbered_by : (pid : Result ℕ WordFault) (label : Result (List ℕ) WordFault) (called : Called)
    → (pid >>= (λ p. label >>= (λ l. Ok (record { thread = Numbered p; label = l })))) ≡ Ok called → label ≡ Ok called.label
numbered_by (Err fault) label called is = absurd cc
numbered_by (Ok p) (Err fault) called is = absurd cc
numbered_by (Ok p) (Ok l) called is = cc

named_by : (label : Result (List ℕ) WordFault) (called : Called) → (label >>= (λ l. Ok (record { thread = Named l; label = l }))) ≡ Ok called → label ≡ Ok called.label
named_by (Err fault) called is = absurd cc
named_by (Ok l) called is = cc

numbered_fits : (place : ℕ) (number name : List Letter) (called : Called) → numbered_at place number name ≡ Ok called → is_label called.label ≡ true
numbered_fits place number name called is =
    label_fits place (text_of name) called.label (numbered_by (pid_at place number) (label_at place (text_of name)) called is)

named_fits : (place : ℕ) (name : List Letter) (called : Called) → named_at place name ≡ Ok called → is_label called.label ≡ true
named_fits place name called is = label_fits place (text_of name) called.label (named_by (label_at place (text_of name)) called is)

called_fits : (place : ℕ) (letters : List Letter) (called : Called) → called_at place letters ≡ Ok called → is_label called.label ≡ true
called_fits place letters called is = elim (either (list_any (is_at signs.Equals) letters)
    (numbered_at place (before_first (is_at signs.Equals) letters) (after_first (is_at signs.Equals) letters)) (named_at place letters) called is) [
      | inl numbered ↦ numbered_fits place (before_first (is_at signs.Equals) letters) (after_first (is_at signs.Equals) letters) called numbered
      | inr named ↦ named_fits place letters called named
    ]

deadline_fits : (unit place : ℕ) (letters : List Letter) (deadline : ℕ) → deadline_at unit place letters ≡ Ok deadline → (unit ≤ deadline) × (deadline ≤ MAX_DEADLINE)
deadline_fits unit place letters deadline is =
    let time = went (milliseconds_at place reasons.Deadline letters) (λ (time : ℕ). if nat_le unit time then Ok time else refuse_task place reasons.ShortDeadline) deadline is in
    let given = passed (nat_le unit time.value) time.value deadline _ time.is in
    let most : time.value ≤ MAX_DEADLINE = known_most place reasons.Deadline 6 MAX_DEADLINE (text_of letters) time.value time.was in
    (omega (arith, given.1, leb-true unit time.value given.0), omega (arith, given.1, most))

paced_by : (deadline : Result ℕ WordFault) (pace : Result Pace WordFault) (times : Times) → (deadline >>= (λ d. pace >>= (λ p. Ok (record { deadline = d; pace = p })))) ≡ Ok times → deadline ≡ Ok times.deadline
paced_by (Err fault) pace times is = absurd cc
paced_by (Ok d) (Err fault) times is = absurd cc
paced_by (Ok d) (Ok p) times is = cc

alone_by : (deadline : Result ℕ WordFault) (times : Times) → (deadline >>= (λ d. Ok (record { deadline = d; pace = record { apart = 0; period = 0 } }))) ≡ Ok times → deadline ≡ Ok times.deadline
alone_by (Err fault) times is = absurd cc
alone_by (Ok d) times is = cc

paced_fits : (unit place : ℕ) (first second : List Letter) (times : Times) → paced_at unit place first second ≡ Ok times → (unit ≤ times.deadline) × (times.deadline ≤ MAX_DEADLINE)
paced_fits unit place first second times is =
    deadline_fits unit place first times.deadline (paced_by (deadline_at unit place first) (pace_at place second) times is)

alone_fits : (unit place : ℕ) (letters : List Letter) (times : Times) → alone_at unit place letters ≡ Ok times → (unit ≤ times.deadline) × (times.deadline ≤ MAX_DEADLINE)
alone_fits unit place letters times is = deadline_fits unit place letters times.deadline (alone_by (deadline_at unit place letters) times is)

times_fit : (unit place : ℕ) (letters : List Letter) (times : Times) → times_at unit place letters ≡ Ok times → (unit ≤ times.deadline) × (times.deadline ≤ MAX_DEADLINE)
times_fit unit place letters times is = elim (either (list_any (is_at signs.Colon) letters)
    (paced_at unit place (before_first (is_at signs.Colon) letters) (after_first (is_at signs.Colon) letters)) (alone_at unit place letters) times is) [
      | inl both ↦ paced_fits unit place (before_first (is_at signs.Colon) letters) (after_first (is_at signs.Colon) letters) times both
      | inr one ↦ alone_fits unit place letters times one
    ]

record TaskParts (called : Result Called WordFault) (times : Result Times WordFault) (task : Task) : Type 0 where
  pub name : Called
  pub window : Times
  pub name_is : called ≡ Ok name
  pub window_is : times ≡ Ok window
  pub label_is : name.label ≡ task.label
  pub deadline_is : window.deadline ≡ task.deadline

task_by : (called : Result Called WordFault) (times : Result Times WordFault) (task : Task)
    → (called >>= (λ c. times >>= (λ t. Ok (record { label = c.label; thread = c.thread; deadline = t.deadline; apart = t.pace.apart; period = t.pace.period })))) ≡ Ok task → TaskParts called times task
task_by (Err fault) times task is = absurd cc
task_by (Ok c) (Err fault) task is = absurd cc
task_by (Ok c) (Ok t) task is = record { name = c; window = t; name_is = refl; window_is = refl; label_is = cc; deadline_is = cc }

parts_fit : (unit place : ℕ) (name window : List Letter) (task : Task) → task_of_parts unit place name window ≡ Ok task → IsFine unit task
parts_fit unit place name window task is =
    let parts = task_by (called_at place name) (times_at unit place window) task is in
    let fit = times_fit unit place window parts.window parts.window_is in
    record {
      long = subst (λ t. unit ≤ t) parts.deadline_is fit.0;
      short = subst (λ t. t ≤ MAX_DEADLINE) parts.deadline_is fit.1;
      label = subst (λ t. is_label t ≡ true) parts.label_is (called_fits place name parts.name parts.name_is);
    }

task_fits : (unit place : ℕ) (letters : List Letter) (task : Task) → task_at unit place letters ≡ Ok task → IsFine unit task
task_fits unit place letters task is = elim (either (list_any (is_at signs.Colon) letters)
    (task_of_parts unit place (before_first (is_at signs.Colon) letters) (after_first (is_at signs.Colon) letters)) (refuse_task place reasons.TaskForm) task is) [
      | inl both ↦ parts_fit unit place (before_first (is_at signs.Colon) letters) (after_first (is_at signs.Colon) letters) task both
      | inr refused ↦ absurd cc
    ]

record AreFine (unit count : ℕ) (tasks : List Task) : Type 0 where
  pub all : All (IsFine unit) tasks
  pub as_many : length tasks ≡ count

tasks_fit : (unit place : ℕ) (pieces : List (List Letter)) (tasks : List Task) → tasks_from unit place pieces ≡ Ok tasks → AreFine unit (length pieces) tasks
tasks_fit unit place [] tasks is = let even : [] ≡ tasks = cc in subst (AreFine unit 0) even (record { all = All-nil _; as_many = refl })
tasks_fit unit place (letters ∷ more) tasks is =
    first (task_at unit place letters) refl (tasks_from unit (place + 1) more) (tasks_fit unit (place + 1) more) is
  where
    second : (task : Task) → IsFine unit task → (rest : Result (List Task) WordFault) → ((others : List Task) → rest ≡ Ok others → AreFine unit (length more) others)
        → before task rest ≡ Ok tasks → AreFine unit (length (letters ∷ more)) tasks
    second task fine (Err fault) others same = absurd cc
    second task fine (Ok found) others same =
        let even : task ∷ found ≡ tasks = cc in
        let behind = others found refl in
        subst (AreFine unit (length (letters ∷ more))) even
        (record { all = All-cons (IsFine unit) task found fine behind.all; as_many = omega (arith, behind.as_many) })

    first : (one : Result Task WordFault) → task_at unit place letters ≡ one → (rest : Result (List Task) WordFault)
        → ((others : List Task) → rest ≡ Ok others → AreFine unit (length more) others)
        → and_behind one rest ≡ Ok tasks → AreFine unit (length (letters ∷ more)) tasks
    first (Err fault) was rest others same = absurd cc
    first (Ok task) was rest others same = second task (task_fits unit place letters task was) rest others same

-- # Numbers among the settings

record IsBetween (least most number : ℕ) : Type 0 where
  pub low : least ≤ number
  pub high : number ≤ most

spelled : (b : Bool) (found : Result ℕ NumberFault) (fault : NumberFault) (number : ℕ) → (if b then found else Err fault) ≡ Ok number → found ≡ Ok number
spelled true found fault number is = is
spelled false found fault number is = absurd cc

ranged : (b : Bool) (value number : ℕ) (fault : NumberFault) → (if b then Ok value else Err fault) ≡ Ok number → (b ≡ true) × (value ≡ number)
ranged true value number fault is = (refl, cc)
ranged false value number fault is = absurd cc

number_between : (least most : ℕ) (text : List ℕ) (number : ℕ) → number_at least most text ≡ Ok number → IsBetween least most number
number_between least most text number is =
    let found = spelled (is_number text) (if nat_le least (digits_value 10 text) && nat_le (digits_value 10 text) most then Ok (digits_value 10 text) else Err OutOfRange) BadNumber number is in
    let given = ranged (nat_le least (digits_value 10 text) && nat_le (digits_value 10 text) most) (digits_value 10 text) number OutOfRange found in
    let both = and_parts (nat_le least (digits_value 10 text)) (nat_le (digits_value 10 text) most) given.0 in
    record {
      low = subst (λ n. least ≤ n) given.1 (leb-true least (digits_value 10 text) both.0);
      high = subst (λ n. n ≤ most) given.1 (leb-true (digits_value 10 text) most both.1);
    }

default_between : (default least most : ℕ) (name : List ℕ) (reason : Reason) (value : Option (List ℕ)) (number : ℕ) → least ≤ default → default ≤ most
    → whole_or default least most name reason value ≡ Ok number → IsBetween least most number
default_between default least most name reason None number low high is = let even : default ≡ number = cc in record { low = omega (arith, even); high = omega (arith, even) }
default_between default least most name reason (Some text) number low high is = by (number_at least most text) refl is
  where
    by : (found : Result ℕ NumberFault) → number_at least most text ≡ found → whole_or_refused name reason found ≡ Ok number → IsBetween least most number
    by (Ok x) was same = let even : x ≡ number = cc in number_between least most text number (was ∙ ap Ok even)
    by (Err fault) was same = absurd cc

unit_between : (value : Option (List ℕ)) (number : ℕ) → whole_or 10 1 MAX_UNIT (codes "--us") reasons.Unit value ≡ Ok number → IsBetween 1 MAX_UNIT number
unit_between value number is = default_between 10 1 MAX_UNIT (codes "--us") reasons.Unit value number (omega arith) (omega arith) is

speed_between : (value : Option (List ℕ)) (number : ℕ) → whole_or 10000 1 MAX_NUMBER (codes "--khz") reasons.Speed value ≡ Ok number → IsBetween 1 MAX_NUMBER number
speed_between value number is = default_between 10000 1 MAX_NUMBER (codes "--khz") reasons.Speed value number (omega arith) (omega arith) is

thousand : (number : ℕ) → 1 ≤ number → 1 ≤ number * 1000
thousand number some = omega (arith, some)

-- # What is asked

unless_same : (fault : Option WordFault) (tasks given : List Task) → unless fault tasks ≡ Ok given → tasks ≡ given
unless_same None tasks given is = cc
unless_same (Some fault) tasks given is = absurd cc

unless_none : (fault : Option WordFault) (tasks given : List Task) → unless fault tasks ≡ Ok given → fault ≡ None
unless_none None tasks given is = refl
unless_none (Some fault) tasks given is = absurd cc

-- where no task stands there again each label is another
same_bytes : (one other : List ℕ) → one ≡ other → bytes_eq one other ≡ true
same_bytes one other same = grind (arith, bytes_eq, bytes_eq-Decides, cases_Bool)

label_once : (task : Task) (others : List Task) → again_in task others ≡ None → All (λ other. task.label ≢ other.label) others
label_once task others once k d within same =
    by (list_any (is_same_label task) others) once
    (list_any_at (is_same_label task) others k d within (same_bytes task.label (get_or others k d).label same))
  where
    by : (b : Bool) → (if b then Some reasons.LabelTwice else (if list_any (is_same_thread task) others then Some reasons.ThreadTwice else None)) ≡ None → b ≡ true → ⊥
    by true none again = cc
    by false none again = cc

labels_differ : (place : ℕ) (tasks : List Task) → different_from place tasks ≡ None → AllPairs (λ task other. task.label ≢ other.label) tasks
labels_differ place [] none = λ i j d order within. absurd (omega (arith, within))
labels_differ place (task ∷ tasks) none = by (again_in task tasks) refl none (λ rest. labels_differ (place + 1) tasks rest)
  where
    by : (again : Option Reason) → again_in task tasks ≡ again
        → (elim again as (λ _. Option WordFault) [
          | Some reason ↦ Some (record { word = codes "--tasks"; place = Some (places.Task place); reason = reason })
          | None ↦ different_from (place + 1) tasks
        ]) ≡ None
        → (different_from (place + 1) tasks ≡ None → AllPairs (λ task other. task.label ≢ other.label) tasks) → AllPairs (λ task other. task.label ≢ other.label) (task ∷ tasks)
    by (Some reason) was same rest = cc
    by None was same rest = AllPairs-cons (λ task other. task.label ≢ other.label) task tasks (label_once task tasks was) (rest same)

record AreAsked (unit : ℕ) (tasks : List Task) : Type 0 where
  pub all : All (IsFine unit) tasks
  pub different : AllPairs (λ task other. task.label ≢ other.label) tasks
  pub some : 1 ≤ length tasks
  pub few : length tasks ≤ MAX_TASKS

pieces_asked : (unit : ℕ) (pieces : List (List Letter)) (tasks : List Task) → 1 ≤ length pieces → tasks_of unit pieces ≡ Ok tasks → AreAsked unit tasks
pieces_asked unit pieces tasks some is = by (nat_lt MAX_TASKS (length pieces)) refl is
  where
    by : (b : Bool) → nat_lt MAX_TASKS (length pieces) ≡ b
        → (if b then refuse (codes "--tasks") reasons.TooManyTasks else (tasks_from unit 1 pieces >>= (λ found. unless (different_from 1 found) found))) ≡ Ok tasks → AreAsked unit tasks
    by true many same = absurd cc
    by false few same =
        let found = went (tasks_from unit 1 pieces) (λ found. unless (different_from 1 found) found) tasks same in
        let even = unless_same (different_from 1 found.value) found.value tasks found.is in
        let fine = tasks_fit unit 1 pieces found.value found.was in
        subst (AreAsked unit) even
        (record { all = fine.all; different = labels_differ 1 found.value (unless_none (different_from 1 found.value) found.value tasks found.is); some = omega (arith, fine.as_many, some); few = omega (arith, fine.as_many, ltb-false MAX_TASKS (length pieces) few) })

are_asked : (unit : ℕ) (value : Option (List ℕ)) (tasks : List Task) → tasks_asked unit value ≡ Ok tasks → AreAsked unit tasks
are_asked unit None tasks is = absurd cc
are_asked unit (Some text) tasks is =
    pieces_asked unit (slice_split (is_at signs.Comma) (letters_of text)) tasks (omega (arith, length-slice_split (is_at signs.Comma) (letters_of text))) is

record AskedParts (unit khz : ℕ) (given : Bounds) (found : Result (List Task) WordFault) (asked : Asked) (bounds : Bounds) : Type 0 where
  pub unit_is : unit ≡ asked.unit
  pub khz_is : khz ≡ asked.khz
  pub bounds_is : given ≡ bounds
  pub tasks_is : found ≡ Ok asked.tasks

last_parts : (begin lost moved : Result Bool WordFault) (others : Result (Option ℕ) WordFault) (parts every : Bool) (found : Result (List Task) WordFault) (cpu unit khz : ℕ) (start : Start) (given : Bounds) (strictly : Bool) (asked : Asked) (bounds : Bounds) (strict : Bool)
    → (begin >>= (λ b. lost >>= (λ l. moved >>= (λ m. others >>= (λ w. found >>= (λ t. Ok (ReadTrace (record {
      tasks = t;
      processor = cpu;
      unit = unit;
      khz = khz;
      start = start;
      from = None;
      to = None;
      begin_at_run = b;
      cut_losses = l;
      in_parts = parts;
      everywhere = every;
      moved_parts = m;
      others = w;
    }) given strictly)))))))
    ≡ Ok (ReadTrace asked bounds strict) → AskedParts unit khz given found asked bounds
last_parts (Err fault) lost moved others parts every found cpu unit khz start given strictly asked bounds strict is = absurd cc
last_parts (Ok b) (Err fault) moved others parts every found cpu unit khz start given strictly asked bounds strict is = absurd cc
last_parts (Ok b) (Ok l) (Err fault) others parts every found cpu unit khz start given strictly asked bounds strict is = absurd cc
last_parts (Ok b) (Ok l) (Ok m) (Err fault) parts every found cpu unit khz start given strictly asked bounds strict is = absurd cc
last_parts (Ok b) (Ok l) (Ok m) (Ok w) parts every (Err fault) cpu unit khz start given strictly asked bounds strict is = absurd cc
last_parts (Ok b) (Ok l) (Ok m) (Ok w) parts every (Ok t) cpu unit khz start given strictly asked bounds strict is = record { unit_is = cc; khz_is = cc; bounds_is = cc; tasks_is = cc }

record AllParts (us khz : Result ℕ WordFault) (given : Result Bounds WordFault) (tasks : ℕ → Result (List Task) WordFault) (asked : Asked) (bounds : Bounds) : Type 0 where
  pub number : ℕ
  pub speed : ℕ
  pub us_is : us ≡ Ok number
  pub khz_is : khz ≡ Ok speed
  pub ends : Bounds
  pub ends_is : given ≡ Ok ends
  pub rest : AskedParts (number * 1000) speed ends (tasks (number * 1000)) asked bounds

all_parts : (cpu : Result (Option ℕ) WordFault) (us khz : Result ℕ WordFault) (start : Result Start WordFault) (given : Result Bounds WordFault) (begin lost moved : Result Bool WordFault) (others : Option ℕ → Result (Option ℕ) WordFault) (parts : Bool)
    (tasks : ℕ → Result (List Task) WordFault) (strictly : Bool) (asked : Asked) (bounds : Bounds) (strict : Bool)
    → (cpu >>= (λ c. us >>= (λ u. khz >>= (λ k. start >>= (λ s. given >>= (λ g. begin >>= (λ b. lost >>= (λ l. moved >>= (λ m. others c >>= (λ w. tasks (u * 1000) >>= (λ t. Ok (ReadTrace (record {
      tasks = t;
      processor = unwrap_or c 0;
      unit = u * 1000;
      khz = k;
      start = s;
      from = None;
      to = None;
      begin_at_run = b;
      cut_losses = l;
      in_parts = is_none c || parts;
      everywhere = is_none c;
      moved_parts = m;
      others = w;
    }) g strictly))))))))))))
    ≡ Ok (ReadTrace asked bounds strict) → AllParts us khz given tasks asked bounds
all_parts (Err fault) us khz start given begin lost moved others parts tasks strictly asked bounds strict is = absurd cc
all_parts (Ok c) (Err fault) khz start given begin lost moved others parts tasks strictly asked bounds strict is = absurd cc
all_parts (Ok c) (Ok u) (Err fault) start given begin lost moved others parts tasks strictly asked bounds strict is = absurd cc
all_parts (Ok c) (Ok u) (Ok k) (Err fault) given begin lost moved others parts tasks strictly asked bounds strict is = absurd cc
all_parts (Ok c) (Ok u) (Ok k) (Ok s) (Err fault) begin lost moved others parts tasks strictly asked bounds strict is = absurd cc
all_parts (Ok c) (Ok u) (Ok k) (Ok s) (Ok g) begin lost moved others parts tasks strictly asked bounds strict is =
    record { number = u; speed = k; us_is = refl; khz_is = refl; ends = g; ends_is = refl; rest = last_parts begin lost moved (others c) (is_none c || parts) (is_none c) (tasks (u * 1000)) (unwrap_or c 0) (u * 1000) k s g strictly asked bounds strict is }

-- # Times

-- no such time is behind the clock's last one
within_most : (time : ℕ) → within_clock time ≤ MAX_TIME
within_most time = by (nat_le time MAX_TIME) refl
  where
    by : (b : Bool) → nat_le time MAX_TIME ≡ b → (if b then time else MAX_TIME) ≤ MAX_TIME
    by true small = leb-true time MAX_TIME small
    by false great = omega arith

-- what counts from the first event is no time of the clock
no_clock : (found : Option ℕ) (time : ℕ) → option_map AfterFirst found ≡ Some (Clock time) → ⊥
no_clock None time is = cc
no_clock (Some x) time is = cc

by_clock : (found : Option ℕ) (time : ℕ) → option_map Clock found ≡ Some (Clock time) → found ≡ Some time
by_clock None time is = absurd cc
by_clock (Some x) time is = cc

-- a time of the clock is at most its last one
clock_most : (text : List ℕ) (time : ℕ) → moment_of text ≡ Some (Clock time) → time ≤ MAX_TIME
clock_most [] time is = absurd cc
clock_most (byte ∷ bytes) time is = by (byte == 43) is
  where
    by : (b : Bool) → (if b then option_map AfterFirst (decimal_at 9 MAX_TIME bytes) else option_map Clock (decimal_at 9 MAX_TIME (byte ∷ bytes))) ≡ Some (Clock time) → time ≤ MAX_TIME
    by true same = absurd (no_clock (decimal_at 9 MAX_TIME bytes) time same)
    by false same = decimal_most 9 MAX_TIME (byte ∷ bytes) time (by_clock (decimal_at 9 MAX_TIME (byte ∷ bytes)) time same)

moment_told : (name : List ℕ) (found : Option Moment) (moment : Moment) → time_or_refused name found ≡ Ok (Some moment) → found ≡ Some moment
moment_told name None moment is = absurd cc
moment_told name (Some x) moment is = cc

-- the same of each time that is given, whenever the first event was
time_most : (name : List ℕ) (value : Option (List ℕ)) (to : Option Moment) (first : ℕ) → time_of name value ≡ Ok to → IfSome (option_map (time_at first) to) (λ time. time ≤ MAX_TIME)
time_most name value None first is = tt
time_most name value (Some (AfterFirst time)) first is = within_most (first + time)
time_most name None (Some (Clock time)) first is = absurd cc
time_most name (Some text) (Some (Clock time)) first is = clock_most text time (moment_told name (moment_of text) (Clock time) is)

-- up to when it is asked, whenever the first event was
to_most : (given : List Setting) (bounds : Bounds) (first : ℕ) → bounds_by given ≡ Ok bounds → IfSome (option_map (time_at first) bounds.to) (λ time. time ≤ MAX_TIME)
to_most given bounds first is =
    let last = time_of (codes "--to") (value_of (codes "--to") given) in
    let from = went (time_of (codes "--from") (value_of (codes "--from") given))
    (λ (from : Option Moment). last >>= (λ (to : Option Moment). ordered from to >>= (λ (in_order : Bool). Ok (record { from = from; to = to })))) bounds is in
    let to = went last (λ (to : Option Moment). ordered from.value to >>= (λ (in_order : Bool). Ok (record { from = from.value; to = to }))) bounds from.is in
    let both = went (ordered from.value to.value) (λ (in_order : Bool). Ok (record { from = from.value; to = to.value })) bounds to.is in
    let even : to.value ≡ bounds.to = cc in
    subst (λ (to : Option Moment). IfSome (option_map (time_at first) to) (λ time. time ≤ MAX_TIME)) even
    (time_most (codes "--to") (value_of (codes "--to") given) to.value first to.was)

-- # Requests

weaker : (P Q : Task → Type 0) (tasks : List Task) → ((task : Task) → P task → Q task) → All P tasks → All Q tasks
weaker P Q tasks so all = λ i d within. so _ (all i d within)

-- what is asked by these settings
trace_fits : (given : List Setting) (asked : Asked) (bounds : Bounds) (strict : Bool) → trace_by given ≡ Ok (ReadTrace asked bounds strict) → IsFitRequest (ReadTrace asked bounds strict)
trace_fits given asked bounds strict is first =
    let value = λ (name : List ℕ). value_of name given in
    let parts = all_parts (processor_of (value (codes "--cpu"))) (whole_or 10 1 MAX_UNIT (codes "--us") reasons.Unit (value (codes "--us")))
    (whole_or 10000 1 MAX_NUMBER (codes "--khz") reasons.Speed (value (codes "--khz"))) (speeds_asked (value (codes "--start")) (value (codes "--fixed"))) (bounds_by given)
    (only (codes "--begin") (codes "run") reasons.Begin (value (codes "--begin")))
    (only (codes "--lost") (codes "cut") reasons.Lost (value (codes "--lost"))) (only (codes "--moved") (codes "parts") reasons.Moved (value (codes "--moved")))
    (λ (cpu : Option ℕ). others_asked cpu (value (codes "--others"))) (is_given (codes "--parts") given) (λ (unit : ℕ). tasks_asked unit (value (codes "--tasks")))
    (is_given (codes "--strict") given) asked bounds strict is in
    let unit = unit_between (value (codes "--us")) parts.number parts.us_is in
    let speed = speed_between (value (codes "--khz")) parts.speed parts.khz_is in
    let fine = subst (λ u. AreAsked u asked.tasks) parts.rest.unit_is (are_asked (parts.number * 1000) (value (codes "--tasks")) asked.tasks parts.rest.tasks_is) in
    record {
      plain = record {
        has_unit = subst (λ u. 1 ≤ u) parts.rest.unit_is (thousand parts.number unit.low);
        has_speed_unit = subst (λ k. 1 ≤ k) parts.rest.khz_is speed.low;
        deadlines = weaker (IsFine asked.unit) (λ (task : Task). asked.unit ≤ task.deadline) asked.tasks (λ task one. one.long) fine.all;
      };
      within = record { deadlines = weaker (IsFine asked.unit) (λ (task : Task). task.deadline ≤ MAX_DEADLINE) asked.tasks (λ task one. one.short) fine.all };
      reached = to_most given bounds first (parts.ends_is ∙ ap Ok parts.rest.bounds_is);
      some = fine.some;
      few = fine.few;
      labels = weaker (IsFine asked.unit) (λ (task : Task). is_label task.label ≡ true) asked.tasks (λ task one. one.label) fine.all;
      different = fine.different;
    }

-- What holds of each request that words make.
pub request_fits : (words : List (List ℕ)) (request : Request) → request_of words ≡ Ok request → IsFitRequest request
request_fits words ShowHelp is = tt
request_fits words ShowVersion is = tt
request_fits words ListThreads is = tt
request_fits words (ReadTrace asked bounds strict) is =
    let given = went (settings_of words) request_by (ReadTrace asked bounds strict) is in
    by_help (is_given (codes "--help") given.value) given.value given.is
  where
    by_threads : (name : Option (List ℕ)) → threads_alone name ≡ Ok (ReadTrace asked bounds strict) → IsFitRequest (ReadTrace asked bounds strict)
    by_threads None same = absurd cc
    by_threads (Some name) same = absurd cc

    by_question : (b : Bool) (settings : List Setting) → threads_or_trace b settings ≡ Ok (ReadTrace asked bounds strict) → IsFitRequest (ReadTrace asked bounds strict)
    by_question true settings same = by_threads (other_than (codes "--tasks") settings) same
    by_question false settings same = trace_fits settings asked bounds strict same

    by_twice : (name : Option (List ℕ)) (settings : List Setting) → asked_once name settings ≡ Ok (ReadTrace asked bounds strict) → IsFitRequest (ReadTrace asked bounds strict)
    by_twice (Some again) settings same = absurd cc
    by_twice None settings same = by_question (is_question (value_of (codes "--tasks") settings)) settings same

    by_version : (b : Bool) (settings : List Setting) → (if b then Ok ShowVersion else asked_once (given_twice settings) settings) ≡ Ok (ReadTrace asked bounds strict) → IsFitRequest (ReadTrace asked bounds strict)
    by_version true settings same = absurd cc
    by_version false settings same = by_twice (given_twice settings) settings same

    by_help : (b : Bool) (settings : List Setting)
        → (if b then Ok ShowHelp else (if is_given (codes "--version") settings then Ok ShowVersion else asked_once (given_twice settings) settings)) ≡ Ok (ReadTrace asked bounds strict) → IsFitRequest (ReadTrace asked bounds strict)
    by_help true settings same = absurd cc
    by_help false settings same = by_version (is_given (codes "--version") settings) settings same
