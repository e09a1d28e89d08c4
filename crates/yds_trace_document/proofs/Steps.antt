-- What one step of a loop adds.
use Rattle.base.proofs.Common.{◌≡◌, ℕ, suc, ◌+◌, ◌-◌, ◌<◌, List, [], ◌∷◌, ◌++◌, map, reverse, length, get_or, take, take_more, ◌∙◌, refl, sym, ap, ap₂, arith, Option, Some, None, option_to_list, enumerate_from, flat_map, flat_map-append, append-nil, map-append, map_more, length-map, filter_map, filter_map-append, option_map}
use Rattle.std.proofs.lemmas.List.{reverse-reverse, length-take-le}
use Rattle.std.specs.Prelude.{Vec, Bool}
use Rattle.std.specs.List.{cons_option}
use Rattle.std.specs.declared.alloc.Global.{Global}
use Rattle.yds_trace.specs.declared.job.Job.{Job as JobKept}
use Rattle.yds_trace.specs.declared.job.Stretch.{Stretch}
use Rattle.yds_trace.specs.declared.asked.Task.{Task as TaskKept}
use Rattle.yds_trace.specs.declared.shown.ShownTask.{ShownTask}
use Rattle.yds_trace.specs.Asked.{Task}
use Rattle.yds_trace.specs.Jobs.{Job}
use Rattle.yds_trace.specs.Ended.{in_order_of_begin}
use Rattle.yds_trace.specs.Views.{job_read, task_read}
use Rattle.yds_trace.specs.WrittenTime.{runs_end}
use Rattle.yds_trace.specs.Document.{Judged, Placed, placed_runs}
use Rattle.yds_trace_document.specs.declared.run.Run.{Run as RunKept}
use Rattle.yds_trace_document.specs.declared.written.Written.{Written as WrittenKept}
use Rattle.yds_trace_document.specs.Kept.{Within, placed_of, judged_at, judged_task, judged_tasks, shown_task, shown_tasks}
use Rattle.yds_trace_document.specs.Views.{runs_read, written_read, written_list}
use Rattle.yds_trace_document.proofs.Lists.{enumerate_push}

-- # Numbered lists

length_taken : {A B : Type 0} (g : A → B) (xs : List A) (i : ℕ) → i < length xs → length (map g (take i xs)) ≡ i
length_taken g xs i within = length-map (take i xs) g ∙ length-take-le i xs (omega arith)

numbered_more : {A B : Type 0} (g : A → B) (first : ℕ) (xs : List A) (i : ℕ) (d : A) → i < length xs →
    enumerate_from first (map g (take (i + 1) xs)) ≡ enumerate_from first (map g (take i xs)) ++ (first + i, g (get_or xs i d)) ∷ []
numbered_more {A} {B} g first xs i d within =
    ap (enumerate_from first) (map_more g xs i d within)
    ∙ enumerate_push first (map g (take i xs)) (g (get_or xs i d))
    ∙ ap (λ (n : ℕ). let pair : ℕ × B = (n, g (get_or xs i d)) in enumerate_from first (map g (take i xs)) ++ pair ∷ [])
    (let e : first + length (map g (take i xs)) ≡ first + i = omega (arith, length_taken g xs i within) in e)

pub judged_more : (within : Within) (number : ℕ) (task : Task) (before : Bool) (first : ℕ) (jobs : List JobKept) (i : ℕ) (d : JobKept) → i < length jobs →
    map (judged_at within number task before) (enumerate_from first (map job_read (take (i + 1) jobs)))
    ≡ map (judged_at within number task before) (enumerate_from first (map job_read (take i jobs)))
    ++ judged_at within number task before (first + i, job_read (get_or jobs i d)) ∷ []
judged_more within number task before first jobs i d inside =
    ap (map (judged_at within number task before)) (numbered_more job_read first jobs i d inside)
    ∙ map-append (judged_at within number task before) (enumerate_from first (map job_read (take i jobs))) ((first + i, job_read (get_or jobs i d)) ∷ [])

pub placed_more : (jobs : List WrittenKept) (i : ℕ) (d : WrittenKept) → i < length jobs →
    flat_map placed_runs (enumerate_from 0 (written_list (take (i + 1) jobs)))
    ≡ flat_map placed_runs (enumerate_from 0 (written_list (take i jobs))) ++ placed_of i (written_read (get_or jobs i d)).runs
placed_more jobs i d within =
    ap (flat_map placed_runs) (numbered_more written_read 0 jobs i d within)
    ∙ flat_map-append placed_runs (enumerate_from 0 (written_list (take i jobs))) ((0 + i, written_read (get_or jobs i d)) ∷ [])
    ∙ ap (λ (n : ℕ). flat_map placed_runs (enumerate_from 0 (written_list (take i jobs))) ++ flat_map placed_runs ((n, written_read (get_or jobs i d)) ∷ []))
    (let e : 0 + i ≡ i = omega arith in e)
    ∙ ap (λ (l : List Placed). flat_map placed_runs (enumerate_from 0 (written_list (take i jobs))) ++ l) (append-nil (placed_runs (i, written_read (get_or jobs i d))))

-- # Tasks

task_more : (within : Within) (n : ℕ) (tasks : List Task) (jobs : List (List Job)) (task : Task) (more : List Job) → length tasks ≡ length jobs →
    judged_tasks within n (tasks ++ task ∷ []) (jobs ++ more ∷ []) ≡ judged_tasks within n tasks jobs ++ judged_task within (n + length tasks) task more ∷ []
task_more within n [] [] task more same =
    ap (λ (m : ℕ). let one : List Judged = judged_task within m task more in one ∷ []) (let e : n ≡ n + 0 = omega arith in e)
task_more within n [] (j ∷ jobs) task more same = absurd (omega arith)
task_more within n (t ∷ tasks) [] task more same = absurd (omega arith)
task_more within n (t ∷ tasks) (j ∷ jobs) task more same =
    ap (λ (rest : List (List Judged)). judged_task within n t j ∷ rest)
    (task_more within (n + 1) tasks jobs task more (omega arith)
    ∙ ap (λ (m : ℕ). let one : List Judged = judged_task within m task more in judged_tasks within (n + 1) tasks jobs ++ one ∷ [])
    (let e : n + 1 + length tasks ≡ n + suc (length tasks) = omega arith in e))

pub tasks_more : (within : Within) (tasks : List TaskKept) (jobs : List (Vec JobKept Global)) (i : ℕ) (t : TaskKept) (j : Vec JobKept Global) →
    i < length tasks → i < length jobs →
    judged_tasks within 0 (map task_read (take (i + 1) tasks)) (map in_order_of_begin (take (i + 1) jobs))
    ≡ judged_tasks within 0 (map task_read (take i tasks)) (map in_order_of_begin (take i jobs))
    ++ judged_task within i (task_read (get_or tasks i t)) (in_order_of_begin (get_or jobs i j)) ∷ []
tasks_more within tasks jobs i t j inside also =
    ap₂ (judged_tasks within 0) (map_more task_read tasks i t inside) (map_more in_order_of_begin jobs i j also)
    ∙ task_more within 0 (map task_read (take i tasks)) (map in_order_of_begin (take i jobs)) (task_read (get_or tasks i t)) (in_order_of_begin (get_or jobs i j))
    (length_taken task_read tasks i inside ∙ sym (length_taken in_order_of_begin jobs i also))
    ∙ ap (λ (m : ℕ). let one : List Judged = judged_task within m (task_read (get_or tasks i t)) (in_order_of_begin (get_or jobs i j)) in
    judged_tasks within 0 (map task_read (take i tasks)) (map in_order_of_begin (take i jobs)) ++ one ∷ [])
    (let e : 0 + length (map task_read (take i tasks)) ≡ i = omega (arith, length_taken task_read tasks i inside) in e)

-- # What is shown of tasks

one_shown : (within : Within) (boundary n : ℕ) (tasks : List Task) (shown : List ShownTask) (task : Task) (one : ShownTask) → length tasks ≡ length shown →
    shown_tasks within boundary n (tasks ++ task ∷ []) (shown ++ one ∷ [])
    ≡ shown_tasks within boundary n tasks shown ++ shown_task within boundary (n + length tasks) task one ∷ []
one_shown within boundary n [] [] task one same =
    ap (λ (m : ℕ). let some : List Judged = shown_task within boundary m task one in some ∷ []) (let e : n ≡ n + 0 = omega arith in e)
one_shown within boundary n [] (s ∷ shown) task one same = absurd (omega arith)
one_shown within boundary n (t ∷ tasks) [] task one same = absurd (omega arith)
one_shown within boundary n (t ∷ tasks) (s ∷ shown) task one same =
    ap (λ (rest : List (List Judged)). shown_task within boundary n t s ∷ rest)
    (one_shown within boundary (n + 1) tasks shown task one (omega arith)
    ∙ ap (λ (m : ℕ). let some : List Judged = shown_task within boundary m task one in shown_tasks within boundary (n + 1) tasks shown ++ some ∷ [])
    (let e : n + 1 + length tasks ≡ n + suc (length tasks) = omega arith in e))

pub shown_more : (within : Within) (boundary : ℕ) (tasks : List TaskKept) (shown : List ShownTask) (i : ℕ) (t : TaskKept) (s : ShownTask) →
    i < length tasks → i < length shown →
    shown_tasks within boundary 0 (map task_read (take (i + 1) tasks)) (take (i + 1) shown)
    ≡ shown_tasks within boundary 0 (map task_read (take i tasks)) (take i shown)
    ++ shown_task within boundary i (task_read (get_or tasks i t)) (get_or shown i s) ∷ []
shown_more within boundary tasks shown i t s inside also =
    ap₂ (shown_tasks within boundary 0) (map_more task_read tasks i t inside) (take_more shown i s also)
    ∙ one_shown within boundary 0 (map task_read (take i tasks)) (take i shown) (task_read (get_or tasks i t)) (get_or shown i s)
    (length_taken task_read tasks i inside ∙ sym (length-take-le i shown (omega arith)))
    ∙ ap (λ (m : ℕ). let one : List Judged = shown_task within boundary m (task_read (get_or tasks i t)) (get_or shown i s) in
    shown_tasks within boundary 0 (map task_read (take i tasks)) (take i shown) ++ one ∷ [])
    (let e : 0 + length (map task_read (take i tasks)) ≡ i = omega (arith, length_taken task_read tasks i inside) in e)

-- # What is made of some of the items of a list

listed : {B : Type 0} (o : Option B) → cons_option o [] ≡ option_to_list o
listed None = refl
listed (Some x) = refl

made_more : {A B D : Type 0} (read : A → B) (make : B → Option D) (xs : List A) (i : ℕ) (d : A) → i < length xs →
    filter_map make (map read (take (i + 1) xs)) ≡ filter_map make (map read (take i xs)) ++ option_to_list (make (read (get_or xs i d)))
made_more {A} {B} {D} read make xs i d within =
    ap (filter_map make) (map_more read xs i d within)
    ∙ filter_map-append make (map read (take i xs)) (read (get_or xs i d) ∷ [])
    ∙ ap (λ (l : List D). filter_map make (map read (take i xs)) ++ l) (listed (make (read (get_or xs i d))))

option_read : {C D : Type 0} (shown : C → D) (o : Option C) → map shown (option_to_list o) ≡ option_to_list (option_map shown o)
option_read shown None = refl
option_read shown (Some x) = refl

pub made_step : {A B C D : Type 0} (read : A → B) (make : B → Option D) (shown : C → D) (xs : List A) (i : ℕ) (d : A) (some after : List C) (one : Option C) →
    i < length xs → map shown some ≡ filter_map make (map read (take i xs)) → option_map shown one ≡ make (read (get_or xs i d)) →
    after ≡ some ++ option_to_list one → map shown after ≡ filter_map make (map read (take (i + 1) xs))
made_step {A} {B} {C} {D} read make shown xs i d some after one within before made put =
    ap (map shown) put
    ∙ map-append shown some (option_to_list one)
    ∙ ap₂ (λ (front rest : List D). front ++ rest) before (option_read shown one ∙ ap option_to_list made)
    ∙ sym (made_more read make xs i d within)

pub read_back : (stretches : List Stretch) → reverse (reverse stretches) ≡ stretches
read_back stretches = reverse-reverse stretches

-- # The last run

pub last_end : (runs : List RunKept) (d : RunKept) → 0 < length runs → runs_end (runs_read runs) ≡ (get_or runs (length runs - 1) d).to
last_end [] d some = absurd (omega arith)
last_end (run ∷ []) d some = refl
last_end (run ∷ next ∷ runs) d some =
    last_end (next ∷ runs) d (omega arith)
    ∙ ap (λ (n : ℕ). (get_or (run ∷ next ∷ runs) n d).to) (let e : suc (length (next ∷ runs) - 1) ≡ length (run ∷ next ∷ runs) - 1 = omega arith in e)
