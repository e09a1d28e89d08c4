-- What a line is told to say, by what the draft holds.
use Rattle.yds_model.proofs.Common.{◌≡◌, ℕ, ◌<◌, Bool, true, false, not, List, [], ◌∷◌, ◌++◌, length, Option, Some, None, Result, Ok, Err, refl, sym, ap, ◌∙◌, subst, arith, eqb-true, inl, inr, is_some, nat_lt, nat_le, ◌==◌, OnOk, IfErr, filter_map, cases_Bool, lt-ltb, first_of_them, Field, Spot, ◌>>=◌, demand, count_fields, field_at, Task, TaskSet, TaskEntry, HorizonEntry, TaskEntryOf, horizon_said, task_said, tasks_said, task_number_in, is_task_name, count_of_all, new_task_name, read_horizon, read_task}
use Rattle.base.specs.declared.limits.TheConstants.{MAX_JOBS, MAX_TASKS, MAX_TIME, MAX_WORK}
use Rattle.yds_model.specs.declared.task_reason.TaskReason.{TaskReason}
use Rattle.yds_model.specs.declared.task_reason.TaskReason.TheVariants as reasons
use Rattle.yds_text.specs.Count.{no_reason}
use Rattle.yds_text.proofs.Counted.{counted_for}
use Rattle.yds_laws.proofs.TasksSaid.{task_more}
use Rattle.yds_tasks.specs.declared.draft.Draft.{Draft}
use Rattle.yds_tasks.specs.declared.field_fault.FieldFault.{FieldFault}
use Rattle.yds_tasks.specs.declared.line_fault.LineFault.{LineFault}
use Rattle.yds_tasks.specs.declared.line_fault.LineFault.TheVariants as faults
use Rattle.yds_tasks.specs.Fields.{Fails, task_fault_of, has_name, task_name_of, task_of, task_within}
use Rattle.yds_tasks.specs.Lines.{Holds, Takes, Tells}

-- # The horizon and the tasks that were said

some_first : {A : Type 0} (xs : List A) → nat_lt 0 (length xs) ≡ is_some (first_of_them xs)
some_first [] = refl
some_first (x ∷ xs) = lt-ltb 0 (length (x ∷ xs)) (omega arith)

none_first : {A : Type 0} (xs : List A) → (length xs == 0) ≡ not (is_some (first_of_them xs))
none_first [] = refl
none_first (x ∷ xs) = elim (cases_Bool (length (x ∷ xs) == 0)) [ inl none ↦ absurd (omega (arith, eqb-true (length (x ∷ xs)) 0 none)) | inr some ↦ some ]

pub not_some : {A : Type 0} (o : Option A) → is_some o ≡ false → o ≡ None
not_some None none = refl
not_some (Some x) none = cc

pub horizon_held : (earlier : List TaskEntry) (set : TaskSet) → tasks_said earlier ≡ set → nat_lt 0 (length (filter_map horizon_said earlier)) ≡ is_some set.horizon
horizon_held earlier set holds = some_first (filter_map horizon_said earlier) ∙ ap (λ (s : TaskSet). is_some s.horizon) holds

pub no_horizon_held : (earlier : List TaskEntry) (set : TaskSet) → tasks_said earlier ≡ set → (length (filter_map horizon_said earlier) == 0) ≡ not (is_some set.horizon)
no_horizon_held earlier set holds = none_first (filter_map horizon_said earlier) ∙ ap (λ (s : TaskSet). not (is_some s.horizon)) holds

pub tasks_held : (earlier : List TaskEntry) (set : TaskSet) → tasks_said earlier ≡ set → nat_lt (length (filter_map task_said earlier)) MAX_TASKS ≡ nat_lt (length set.tasks) MAX_TASKS
tasks_held earlier set holds = ap (λ (s : TaskSet). nat_lt (length s.tasks) MAX_TASKS) holds

-- # The line of the horizon

abbrev horizon_after : List Field → Bool → Result TaskEntry (Spot TaskReason)
horizon_after fields first = do
  placed ← demand first (field_at fields 0).column reasons.Misplaced
  counted ← count_fields reasons.FieldCount 1 fields
  horizon ← task_number_in 1 MAX_TIME (field_at fields 1)
  Ok (HorizonEntry horizon)

horizon_counted : (fields : List Field) (a b : Field) → (fields ≡ a ∷ b ∷ []) × (count_fields no_reason 1 fields ≡ Ok true) →
    horizon_after fields true ≡ (task_number_in 1 MAX_TIME b >>= (λ horizon. Ok (HorizonEntry horizon)))
horizon_counted fields a b counted = grind (arith, counted_for)

-- what the line says, once its fields are counted
pub horizon_fields : (earlier : List TaskEntry) (fields : List Field) (set : TaskSet) (a b : Field) → tasks_said earlier ≡ set → is_some set.horizon ≡ false →
    (fields ≡ a ∷ b ∷ []) × (count_fields no_reason 1 fields ≡ Ok true) →
    read_horizon earlier fields ≡ (task_number_in 1 MAX_TIME b >>= (λ horizon. Ok (HorizonEntry horizon)))
horizon_fields earlier fields set a b holds none counted =
    ap (horizon_after fields) (no_horizon_held earlier set holds ∙ ap not none) ∙ horizon_counted fields a b counted

-- # A name

-- a name that a task has already
pub name_taken : (set : TaskSet) (field : Field) (name : List ℕ) → name ≡ field.text → is_task_name name ≡ true → has_name set name ≡ true →
    task_name_of set field ≡ Err (record { column = field.column; reason = reasons.DuplicateName })
name_taken set field name same named taken = rw (← same, named, taken) refl

-- and one that is new
pub name_fresh : (set : TaskSet) (field : Field) (name : List ℕ) → name ≡ field.text → is_task_name name ≡ true → has_name set name ≡ false →
    task_name_of set field ≡ Ok name
name_fresh set field name same named new = rw (← same, named, new) refl

-- # The line of a task

-- what the definition does with the fields, by what they say one by one
abbrev parts : {X : Type 0} → Result (List ℕ) (Spot TaskReason) → Result ℕ (Spot TaskReason) → Result ℕ (Spot TaskReason) → Result ℕ (Spot TaskReason) → Result ℕ (Spot TaskReason)
    → (Task → Result X (Spot TaskReason)) → Result X (Spot TaskReason)
parts n o p d w next =
    n >>= (λ name. o >>= (λ offset. p >>= (λ period. d >>= (λ deadline. w >>= (λ work.
    next (record { name = name; offset = offset; period = period; deadline = deadline; work = work }))))))

abbrev entry_of : Result Task (Spot TaskReason) → Result TaskEntry (Spot TaskReason)
entry_of read = read >>= (λ task. Ok (TaskEntryOf task))

same_parts : (n : Result (List ℕ) (Spot TaskReason)) (o p d w : Result ℕ (Spot TaskReason)) (f : Task → Result TaskEntry (Spot TaskReason)) (g : Task → Result Task (Spot TaskReason))
    → ((task : Task) → f task ≡ entry_of (g task)) → parts n o p d w f ≡ entry_of (parts n o p d w g)
same_parts (Ok n) (Ok o) (Ok p) (Ok d) (Ok w) f g same = same (record { name = n; offset = o; period = p; deadline = d; work = w })
same_parts (Ok n) (Ok o) (Ok p) (Ok d) (Err e) f g same = refl
same_parts (Ok n) (Ok o) (Ok p) (Err e) w f g same = refl
same_parts (Ok n) (Ok o) (Err e) d w f g same = refl
same_parts (Ok n) (Err e) p d w f g same = refl
same_parts (Err e) o p d w f g same = refl

-- the entry, where its jobs have room
abbrev entry_within : List TaskEntry → Field → Task → Result TaskEntry (Spot TaskReason)
entry_within earlier period task =
    demand (nat_le (count_of_all (tasks_said (earlier ++ TaskEntryOf task ∷ []))) MAX_JOBS) period.column reasons.TooManyJobs >>= (λ few. Ok (TaskEntryOf task))

within_same : (earlier : List TaskEntry) (set : TaskSet) (period : Field) (task : Task) → tasks_said earlier ≡ set →
    entry_within earlier period task ≡ entry_of (task_within set period task)
within_same earlier set period task holds = grind (arith, task_more)

abbrev task_fields : List TaskEntry → List Field → Result TaskEntry (Spot TaskReason)
task_fields earlier fields =
    parts (new_task_name earlier (field_at fields 1)) (task_number_in 0 MAX_TIME (field_at fields 2)) (task_number_in 1 MAX_TIME (field_at fields 3))
    (task_number_in 1 MAX_TIME (field_at fields 4)) (task_number_in 0 MAX_WORK (field_at fields 5)) (entry_within earlier (field_at fields 3))

fields_same : (earlier : List TaskEntry) (set : TaskSet) (k a b c d e : Field) → tasks_said earlier ≡ set →
    task_fields earlier (k ∷ a ∷ b ∷ c ∷ d ∷ e ∷ []) ≡ entry_of (task_of set a b c d e)
fields_same earlier set k a b c d e holds =
    ap (λ (s : TaskSet). parts (task_name_of s a) (task_number_in 0 MAX_TIME b) (task_number_in 1 MAX_TIME c) (task_number_in 1 MAX_TIME d) (task_number_in 0 MAX_WORK e) (entry_within earlier c)) holds
    ∙ same_parts (task_name_of set a) (task_number_in 0 MAX_TIME b) (task_number_in 1 MAX_TIME c) (task_number_in 1 MAX_TIME d) (task_number_in 0 MAX_WORK e)
    (entry_within earlier c) (task_within set c) (λ task. within_same earlier set c task holds)

abbrev task_after : List TaskEntry → List Field → Bool → Bool → Result TaskEntry (Spot TaskReason)
task_after earlier fields some room = do
  placed ← demand some (field_at fields 0).column reasons.Misplaced
  few ← demand room (field_at fields 0).column reasons.TooMany
  counted ← count_fields reasons.FieldCount 5 fields
  task_fields earlier fields

task_by : (earlier : List TaskEntry) (fields : List Field) (set : TaskSet) (some room : Bool) → tasks_said earlier ≡ set → is_some set.horizon ≡ some → nat_lt (length set.tasks) MAX_TASKS ≡ room →
    read_task earlier fields ≡ task_after earlier fields some room
task_by earlier fields set some room holds placed few = grind (arith, horizon_held, tasks_held)

-- what the line says, by the count of its fields
abbrev pub task_counted : List TaskEntry → List Field → Result TaskEntry (Spot TaskReason)
task_counted earlier fields = task_after earlier fields true true

pub task_placed : (earlier : List TaskEntry) (fields : List Field) (set : TaskSet) → tasks_said earlier ≡ set → is_some set.horizon ≡ true → length set.tasks < MAX_TASKS →
    read_task earlier fields ≡ task_counted earlier fields
task_placed earlier fields set holds some few = task_by earlier fields set true true holds some (lt-ltb (length set.tasks) MAX_TASKS few)

pub task_read_from : (earlier : List TaskEntry) (fields : List Field) (set : TaskSet) (k a b c d e : Field) → tasks_said earlier ≡ set →
    (fields ≡ k ∷ a ∷ b ∷ c ∷ d ∷ e ∷ []) × (count_fields no_reason 5 fields ≡ Ok true) → task_counted earlier fields ≡ entry_of (task_of set a b c d e)
task_read_from earlier fields set k a b c d e holds counted =
    ap (λ (r : Result Bool (Spot TaskReason)). r >>= (λ all. task_fields earlier fields)) (counted_for reasons.FieldCount 5 fields counted.1)
    ∙ ap (task_fields earlier) counted.0 ∙ fields_same earlier set k a b c d e holds

-- # What was returned

pub refused_at : {Y : Type 0} (fault : FieldFault) (read : Result Y (Spot TaskReason)) (column : ℕ) (reason : TaskReason) → fault ≡ record { column = column; reason = reason } →
    read ≡ Err (record { column = column; reason = reason }) → read ≡ Err (record { column = fault.column; reason = fault.reason })
refused_at fault read column reason is refused = refused ∙ ap (λ (f : FieldFault). Err (record { column = f.column; reason = f.reason })) (sym is)

-- an error that is passed on
pub passed : (r : Result (Unit {0}) LineFault) (e : LineFault) (read : Result TaskEntry (Spot TaskReason)) (draft : Draft) (es : List TaskEntry)
    → (y : LineFault) × (r ≡ Err y) × (y ≡ e) → Fails e read → Tells r read draft es
passed r e read draft es told failed =
    subst (λ (t : Result (Unit {0}) LineFault). Tells t read draft es) (sym told.1) (subst (λ (f : LineFault). Fails f read) (sym told.2) failed)

-- one of a field
pub passed_on : (r : Result (Unit {0}) LineFault) (field : FieldFault) (read : Result TaskEntry (Spot TaskReason)) (draft : Draft) (es : List TaskEntry)
    → (y : LineFault) × (r ≡ Err y) × (y ≡ task_fault_of field) → read ≡ Err (record { column = field.column; reason = field.reason }) → Tells r read draft es
passed_on r field read draft es told refused = passed r (task_fault_of field) read draft es told refused

-- the fields of a task are refused
pub task_refused : (earlier : List TaskEntry) (fields : List Field) (set : TaskSet) (k a b c d e : Field) (spot : Spot TaskReason) → tasks_said earlier ≡ set → is_some set.horizon ≡ true →
    length set.tasks < MAX_TASKS → (fields ≡ k ∷ a ∷ b ∷ c ∷ d ∷ e ∷ []) × (count_fields no_reason 5 fields ≡ Ok true) → task_of set a b c d e ≡ Err spot →
    read_task earlier fields ≡ Err spot
task_refused earlier fields set k a b c d e spot holds some few counted refused =
    task_placed earlier fields set holds some few ∙ task_read_from earlier fields set k a b c d e holds counted ∙ ap entry_of refused

memory_alone : (fault : LineFault) (read : Result TaskEntry (Spot TaskReason)) → fault ≡ faults.Memory → Fails fault read
memory_alone fault read is = subst (λ (f : LineFault). Fails f read) (sym is) tt

-- the task that they say was added, unless memory ran out
pub task_added : (result : Result (Unit {0}) LineFault) (earlier : List TaskEntry) (fields : List Field) (old new : Draft) (k a b c d e : Field) (task : Task) → Holds old earlier →
    is_some old.set.horizon ≡ true → length old.set.tasks < MAX_TASKS → (fields ≡ k ∷ a ∷ b ∷ c ∷ d ∷ e ∷ []) × (count_fields no_reason 5 fields ≡ Ok true) →
    task_of old.set a b c d e ≡ Ok task → OnOk result (Takes old new (TaskEntryOf task)) → IfErr result (λ fault. fault ≡ faults.Memory) → Tells result (read_task earlier fields) new earlier
task_added (Ok done) earlier fields old new k a b c d e task holds some few counted said takes memory = record {
  entry = TaskEntryOf task;
  said = task_placed earlier fields old.set holds some few ∙ task_read_from earlier fields old.set k a b c d e holds counted ∙ ap entry_of said;
  holds = takes earlier holds;
}
task_added (Err fault) earlier fields old new k a b c d e task holds some few counted said takes memory = memory_alone fault (read_task earlier fields) memory
