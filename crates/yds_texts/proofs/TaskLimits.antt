-- Tasks that are read keep their limits, and no two have the same name.
use Rattle.yds_model.proofs.Common.{◌≡◌, ◌≢◌, ℕ, ◌<◌, ◌≤◌, Bool, true, false, not, nat_le, nat_lt, ◌==◌, List, [], ◌∷◌, ◌++◌, length, Some, None, Result, Ok, Err, refl, sym, ap, subst, ◌∙◌, arith, codes, if◌then◌else◌, All, AllPairs, filter_map, list_any, bytes_eq, leb-true, ltb-true, false≢true, or_parts, All-nil, All-cons, All-push, bytes_eq-Decides, Line, Field, lines_of, fields_of, number_at, Spot, ◌>>=◌, demand, refuse, count_fields, field_at, first_of_them, live_lines, Task, TaskSet, TaskEntry, HorizonEntry, TaskEntryOf, horizon_said, task_said, tasks_said, task_reason_of, task_number_in, is_task_name, has_task_named, new_task_name, count_of_all, read_horizon, read_task, read_task_fields, read_task_line, read_tasks_after, task_reading, AllPairs-append}
use Rattle.base.specs.declared.limits.TheConstants.{MAX_JOBS, MAX_TIME, MAX_WORK, MAX_TASKS}
use Rattle.yds_model.specs.declared.task_reason.TaskReason.{TaskReason}
use Rattle.yds_model.specs.declared.task_reason.TaskReason.TheVariants as reasons
use Rattle.yds_texts.proofs.Inverse.{demand_ok, one_step, two_steps, four_steps, in_field_ok, number_at_ok, no_first, on_line_ok, read_of, lines_keep}
use Rattle.yds_laws.proofs.TasksSaid.{horizon_more, one_more, task_more}

-- what a task that was read keeps
pub record IsTask (task : Task) : Type 0 where
  pub named : is_task_name task.name ≡ true
  pub has_period : 1 ≤ task.period
  pub has_deadline : 1 ≤ task.deadline
  pub work_in_range : task.work ≤ MAX_WORK

-- two tasks have different names
abbrev pub HaveOtherNames : Task → Task → Type 0
HaveOtherNames one other = one.name ≢ other.name

-- what all keep together
pub record AreTasks (set : TaskSet) : Type 0 where
  pub has_horizon : (horizon : ℕ) → set.horizon ≡ Some horizon → (1 ≤ horizon) × (horizon ≤ MAX_TIME)
  pub horizon_first : set.horizon ≡ None → set.tasks ≡ []
  pub few_jobs : count_of_all set ≤ MAX_JOBS
  pub fit : All IsTask set.tasks
  pub different : AllPairs HaveOtherNames set.tasks

-- # A number, a name

task_number_ok : (least most : ℕ) (field : Field) (x : ℕ) → task_number_in least most field ≡ Ok x → (least ≤ x) × (x ≤ most)
task_number_ok least most field x is = number_at_ok least most field.text x (in_field_ok task_reason_of field (number_at least most field.text) x is)

-- where both demands on a name are met, it is the field's text
name_from : (text x : List ℕ) (named taken : Bool) (column : ℕ) →
    (demand named column reasons.BadName >>= (λ one. demand (not taken) column reasons.DuplicateName >>= (λ two. Ok text))) ≡ Ok x → (named ≡ true) × (taken ≡ false) × (text ≡ x)
name_from text x true true column is = absurd (cc)
name_from text x true false column is = (refl, refl, cc)
name_from text x false taken column is = absurd (cc)

task_name_ok : (earlier : List TaskEntry) (field : Field) (name : List ℕ) → new_task_name earlier field ≡ Ok name → (is_task_name name ≡ true) × (has_task_named earlier name ≡ false)
task_name_ok earlier field name is =
    let parts = name_from field.text name (is_task_name field.text) (has_task_named earlier field.text) field.column is in
    (subst (λ name. is_task_name name ≡ true) parts.2 parts.0, subst (λ name. has_task_named earlier name ≡ false) parts.2 parts.1)

-- a name that no task has is another than each one's
other_names : (tasks : List Task) (name : List ℕ) → list_any (λ task. bytes_eq task.name name) tasks ≡ false → All (λ task. task.name ≢ name) tasks
other_names [] name none = All-nil (λ task. task.name ≢ name)
other_names (task ∷ tasks) name none =
    let parts = or_parts (bytes_eq task.name name) (list_any (λ task. bytes_eq task.name name) tasks) none in
    All-cons (λ task. task.name ≢ name) task tasks (λ same. false≢true (sym parts.0 ∙ (bytes_eq-Decides task.name name).1 same)) (other_names tasks name parts.1)

-- # A line

-- what was made is the entry
entry_made : (read : Result TaskEntry (Spot TaskReason)) (made entry : TaskEntry) → read ≡ Ok made → read ≡ Ok entry → made ≡ entry
entry_made read made entry one other = cc

-- the line of the horizon
horizon_line : (earlier : List TaskEntry) (fields : List Field) (entry : TaskEntry) → AreTasks (tasks_said earlier) → read_horizon earlier fields ≡ Ok entry → AreTasks (tasks_said (earlier ++ entry ∷ []))
horizon_line earlier fields entry are is =
    let set : TaskSet = tasks_said earlier in
    let two = two_steps (demand (length (filter_map horizon_said earlier) == 0) (field_at fields 0).column reasons.Misplaced) (count_fields reasons.FieldCount 1 fields)
    (λ placed counted. task_number_in 1 MAX_TIME (field_at fields 1) >>= (λ horizon. Ok (HorizonEntry horizon))) entry is in
    let one = one_step (task_number_in 1 MAX_TIME (field_at fields 1)) (λ horizon. Ok (HorizonEntry horizon)) entry two.4 in
    let first : set.horizon ≡ None = no_first (filter_map horizon_said earlier) (demand_ok (length (filter_map horizon_said earlier) == 0) (field_at fields 0).column reasons.Misplaced two.0 two.2) in
    let none : set.tasks ≡ [] = are.horizon_first first in
    let made : HorizonEntry one.0 ≡ entry = entry_made (Ok (HorizonEntry one.0)) (HorizonEntry one.0) entry refl one.2 in
    let now : TaskSet = record { horizon = Some one.0; tasks = set.tasks } in
    let empty : count_of_all now ≡ 0 = ap (λ (tasks : List Task). count_of_all (record { horizon = Some one.0; tasks = tasks })) none in
    subst (λ e. AreTasks (tasks_said (earlier ++ e ∷ []))) made (subst AreTasks (sym (horizon_more earlier set one.0 refl first)) (record {
      has_horizon = λ horizon said. let same : one.0 ≡ horizon = cc in subst (λ h. (1 ≤ h) × (h ≤ MAX_TIME)) same (task_number_ok 1 MAX_TIME (field_at fields 1) one.0 one.1);
      horizon_first = λ said. absurd (some_none one.0 said);
      few_jobs = omega (arith, empty);
      fit = are.fit;
      different = are.different;
    }))
  where
    some_none : (x : ℕ) → Some x ≡ None → ⊥
    some_none x same = absurd (cc)

-- what the line of a task says after its name, and after its numbers
abbrev task_within : List TaskEntry → List Field → Task → Result TaskEntry (Spot TaskReason)
task_within earlier fields task =
    demand (nat_le (count_of_all (tasks_said (earlier ++ TaskEntryOf task ∷ []))) MAX_JOBS) (field_at fields 3).column reasons.TooManyJobs >>= (λ few. Ok (TaskEntryOf task))

abbrev task_numbers : List TaskEntry → List Field → List ℕ → Result TaskEntry (Spot TaskReason)
task_numbers earlier fields name =
    task_number_in 0 MAX_TIME (field_at fields 2) >>= (λ offset. task_number_in 1 MAX_TIME (field_at fields 3) >>= (λ period. task_number_in 1 MAX_TIME (field_at fields 4) >>= (λ deadline.
    task_number_in 0 MAX_WORK (field_at fields 5) >>= (λ work. task_within earlier fields (record { name = name; offset = offset; period = period; deadline = deadline; work = work })))))

abbrev task_parts : List TaskEntry → List Field → Result TaskEntry (Spot TaskReason)
task_parts earlier fields = new_task_name earlier (field_at fields 1) >>= (λ name. task_numbers earlier fields name)

-- the line of a task
task_line : (earlier : List TaskEntry) (fields : List Field) (entry : TaskEntry) → AreTasks (tasks_said earlier) → read_task earlier fields ≡ Ok entry → AreTasks (tasks_said (earlier ++ entry ∷ []))
task_line earlier fields entry are is =
    let set : TaskSet = tasks_said earlier in
    let placed = two_steps (demand (nat_lt 0 (length (filter_map horizon_said earlier))) (field_at fields 0).column reasons.Misplaced)
    (demand (nat_lt (length (filter_map task_said earlier)) MAX_TASKS) (field_at fields 0).column reasons.TooMany)
    (λ placed room. count_fields reasons.FieldCount 5 fields >>= (λ counted. task_parts earlier fields)) entry is in
    let counted = two_steps (count_fields reasons.FieldCount 5 fields) (new_task_name earlier (field_at fields 1)) (λ counted name. task_numbers earlier fields name) entry placed.4 in
    let name : List ℕ = counted.1 in
    let numbers = four_steps (task_number_in 0 MAX_TIME (field_at fields 2)) (task_number_in 1 MAX_TIME (field_at fields 3)) (task_number_in 1 MAX_TIME (field_at fields 4)) (task_number_in 0 MAX_WORK (field_at fields 5))
    (λ offset period deadline work. task_within earlier fields (record { name = name; offset = offset; period = period; deadline = deadline; work = work })) entry counted.4 in
    let task : Task = record { name = name; offset = numbers.0; period = numbers.1; deadline = numbers.2; work = numbers.3 } in
    let few = one_step (demand (nat_le (count_of_all (tasks_said (earlier ++ TaskEntryOf task ∷ []))) MAX_JOBS) (field_at fields 3).column reasons.TooManyJobs) (λ few. Ok (TaskEntryOf task)) entry numbers.8 in
    let made : TaskEntryOf task ≡ entry = entry_made (Ok (TaskEntryOf task)) (TaskEntryOf task) entry refl few.2 in
    let grown : tasks_said (earlier ++ TaskEntryOf task ∷ []) ≡ one_more set task = task_more earlier set task refl in
    let room : count_of_all (one_more set task) ≤ MAX_JOBS =
    subst (λ s. count_of_all s ≤ MAX_JOBS) grown (leb-true (count_of_all (tasks_said (earlier ++ TaskEntryOf task ∷ []))) MAX_JOBS
    (demand_ok (nat_le (count_of_all (tasks_said (earlier ++ TaskEntryOf task ∷ []))) MAX_JOBS) (field_at fields 3).column reasons.TooManyJobs few.0 few.1)) in
    let named = task_name_ok earlier (field_at fields 1) name counted.3 in
    let some : 0 < length (filter_map horizon_said earlier) =
    ltb-true 0 (length (filter_map horizon_said earlier)) (demand_ok (nat_lt 0 (length (filter_map horizon_said earlier))) (field_at fields 0).column reasons.Misplaced placed.0 placed.2) in
    let fits : IsTask task = record {
      named = named.0;
      has_period = (task_number_ok 1 MAX_TIME (field_at fields 3) task.period numbers.5).0;
      has_deadline = (task_number_ok 1 MAX_TIME (field_at fields 4) task.deadline numbers.6).0;
      work_in_range = (task_number_ok 0 MAX_WORK (field_at fields 5) task.work numbers.7).1;
    } in
    subst (λ e. AreTasks (tasks_said (earlier ++ e ∷ []))) made (subst AreTasks (sym grown) (record {
      has_horizon = are.has_horizon;
      horizon_first = λ none. absurd (some_first (filter_map horizon_said earlier) some none);
      few_jobs = room;
      fit = All-push IsTask set.tasks task are.fit fits;
      different = AllPairs-append HaveOtherNames set.tasks (task ∷ []) are.different (alone task)
          (All-cons (λ other. All (λ one. HaveOtherNames one other) set.tasks) task [] (other_names set.tasks name named.1) (All-nil (λ other. All (λ one. HaveOtherNames one other) set.tasks)));
    }))
  where
    some_first : {X : Type 0} (xs : List X) → 0 < length xs → first_of_them xs ≡ None → ⊥
    some_first [] some none = absurd (omega arith)
    some_first (x ∷ xs) some none = absurd (cc)

    -- one task has no other beside it
    alone : (task : Task) → AllPairs HaveOtherNames (task ∷ [])
    alone task i j d order within = absurd (omega (arith, order, within))

-- a line of either kind
either_line : (horizon task : Bool) (one other none : Result TaskEntry (Spot TaskReason)) (entry : TaskEntry) (column : ℕ) → none ≡ Err (record { column = column; reason = reasons.UnknownKind }) →
    (if horizon then one else (if task then other else none)) ≡ Ok entry → (P : Type 0) → (one ≡ Ok entry → P) → (other ≡ Ok entry → P) → P
either_line true task one other none entry column refused is P first second = first is
either_line false true one other none entry column refused is P first second = second is
either_line false false one other none entry column refused is P first second = absurd (cc)

fields_keep : (earlier : List TaskEntry) (fields : List Field) (entry : TaskEntry) → AreTasks (tasks_said earlier) → read_task_fields earlier fields ≡ Ok entry → AreTasks (tasks_said (earlier ++ entry ∷ []))
fields_keep earlier fields entry are is =
    either_line (bytes_eq (field_at fields 0).text (codes "horizon")) (bytes_eq (field_at fields 0).text (codes "task")) (read_horizon earlier fields) (read_task earlier fields)
    (refuse (field_at fields 0).column reasons.UnknownKind) entry (field_at fields 0).column refl is (AreTasks (tasks_said (earlier ++ entry ∷ [])))
    (horizon_line earlier fields entry are) (task_line earlier fields entry are)

-- # All lines

line_keeps : (earlier : List TaskEntry) (line : Line) (entry : TaskEntry) → AreTasks (tasks_said earlier) → read_task_line earlier line ≡ Ok entry → AreTasks (tasks_said (earlier ++ entry ∷ []))
line_keeps earlier line entry are is =
    fields_keep earlier (fields_of line.text) entry are (on_line_ok line.number (read_task_fields earlier (fields_of line.text)) entry is)

-- no lines say no tasks
no_lines : AreTasks (tasks_said [])
no_lines = record {
  has_horizon = λ horizon said. absurd (none_some horizon said);
  horizon_first = λ none. refl;
  few_jobs = omega arith;
  fit = All-nil IsTask;
  different = λ i j d order within. absurd (omega (arith, within));
} where
  none_some : (x : ℕ) → None ≡ Some x → ⊥
  none_some x same = absurd (cc)

-- Tasks that are read keep their limits.
pub tasks_keep : (bytes : List ℕ) (set : TaskSet) → task_reading bytes ≡ Ok set → AreTasks set
tasks_keep bytes set is =
    let lines = live_lines (lines_of bytes) in
    let all = read_of (λ entries. Ok (tasks_said entries)) (read_tasks_after [] lines) set is in
    let kept = lines_keep read_task_line read_tasks_after (λ entries. AreTasks (tasks_said entries)) (λ earlier. refl) (λ earlier line lines. refl) line_keeps [] lines all.0 no_lines all.1 in
    let same : tasks_said all.0 ≡ set = cc all.2 in
    subst AreTasks same kept
