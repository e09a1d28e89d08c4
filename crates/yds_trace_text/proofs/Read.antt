-- Lists as they are kept and as they are read.
use Rattle.base.proofs.Common.{◌≡◌, ℕ, zero, suc, ◌+◌, ◌-◌, ◌<◌, ◌≤◌, List, [], ◌∷◌, ◌++◌, map, reverse, length, length-map, get_or, get_or-map, take, ◌∙◌, refl, sym, ap, ap₂, subst, arith, append-nil, append_assoc, flat_map, min, zip}
use Rattle.std.proofs.lemmas.List.{reverse-reverse}
use Rattle.yds_trace.specs.declared.job.Stretch.{Stretch}
use Rattle.yds_trace_document.specs.declared.judged.Judged.{Judged as JudgedKept}
use Rattle.std.specs.Prelude.{Vec}
use Rattle.std.specs.declared.alloc.Global.{Global}
use Rattle.yds_trace.specs.declared.asked.Task.{Task as TaskKept}
use Rattle.yds_trace.specs.Asked.{Task}
use Rattle.yds_trace.specs.Views.{task_read}
use Rattle.yds_trace.specs.Document.{Judged}
use Rattle.yds_trace_document.specs.Views.{name_read, judged_list, judged_items, judged_lists}
use Rattle.yds_trace_text.specs.Text.{last_name, last_of}

pub read_back : (stretches : List Stretch) → reverse (reverse stretches) ≡ stretches
read_back stretches = reverse-reverse stretches

pub last_name_is : (jobs : List JudgedKept) (d : JudgedKept) → 0 < length jobs →
    last_name (judged_list jobs) ≡ name_read (get_or jobs (length jobs - 1) d).name
last_name_is [] d some = absurd (omega arith)
last_name_is (job ∷ []) d some = refl
last_name_is (job ∷ next ∷ jobs) d some =
    last_name_is (next ∷ jobs) d (omega arith)
    ∙ ap (λ (n : ℕ). name_read (get_or (job ∷ next ∷ jobs) n d).name) (let e : suc (length (next ∷ jobs) - 1) ≡ length (job ∷ next ∷ jobs) - 1 = omega arith in e)

last_of_is : (first : ℕ) (numbers : List ℕ) (d : ℕ) → 0 < length numbers → last_of first numbers ≡ get_or numbers (length numbers - 1) d
last_of_is first [] d some = absurd (omega arith)
last_of_is first (next ∷ []) d some = refl
last_of_is first (next ∷ more ∷ numbers) d some =
    last_of_is next (more ∷ numbers) d (omega arith)
    ∙ ap (λ (n : ℕ). get_or (next ∷ more ∷ numbers) n d) (let e : suc (length (more ∷ numbers) - 1) ≡ length (next ∷ more ∷ numbers) - 1 = omega arith in e)

pub last_at : (first : ℕ) (numbers : List ℕ) → 0 < length numbers → last_of first numbers ≡ get_or numbers (length numbers - 1) 0
last_at first numbers some = last_of_is first numbers 0 some

-- what is made of the item at a place, as it is read
pub read_at : {A B C : Type 0} (read : A → B) (make : B → C) (xs : List A) (place : ℕ) (d : C) (x : A) → place < length xs → x ≡ get_or xs place x →
    make (read x) ≡ get_or (map make (map read xs)) place d
read_at {A} read make xs place d x within is =
    ap (λ (y : A). make (read y)) is
    ∙ ap make (sym (get_or-map read xs place x (read x) within))
    ∙ sym (get_or-map make (map read xs) place (read x) d (subst (λ (n : ℕ). place < n) (sym (length-map xs read)) within))

-- # Texts

pub next_same : {x y : List ℕ} {xs ys : List (List ℕ)} → x ≡ y → xs ≡ ys → x ∷ xs ≡ y ∷ ys
next_same one more = ap₂ (λ (text : List ℕ) (texts : List (List ℕ)). text ∷ texts) one more

-- # Groups

-- # Tasks and their jobs

abbrev pub paired : List TaskKept → List (Vec JudgedKept Global) → List (Task × List Judged)
paired tasks by_task = zip (map task_read tasks) (judged_lists by_task)

paired_next : {C : Type 0} (f : Task × List Judged → List C) (tasks : List TaskKept) (by_task : List (Vec JudgedKept Global)) (i : ℕ)
    (t : TaskKept) (j : Vec JudgedKept Global) → i < length tasks → i < length by_task →
    flat_map f (take (suc i) (paired tasks by_task))
    ≡ flat_map f (take i (paired tasks by_task)) ++ f (task_read (get_or tasks i t), judged_items (get_or by_task i j))
paired_next f [] by_task i t j inside also = absurd (omega arith)
paired_next f (task ∷ tasks) [] i t j inside also = absurd (omega arith)
paired_next f (task ∷ tasks) (judged ∷ by_task) zero t j inside also = append-nil (f (task_read task, judged_items judged))
paired_next {C} f (task ∷ tasks) (judged ∷ by_task) (suc i) t j inside also =
    ap (λ (more : List C). f (task_read task, judged_items judged) ++ more) (paired_next f tasks by_task i t j (omega arith) (omega arith))
    ∙ sym (append_assoc (f (task_read task, judged_items judged)) (flat_map f (take i (paired tasks by_task)))
    (f (task_read (get_or tasks i t), judged_items (get_or by_task i j))))

pub paired_more : {C : Type 0} (f : Task × List Judged → List C) (tasks : List TaskKept) (by_task : List (Vec JudgedKept Global)) (i : ℕ)
    (t : TaskKept) (j : Vec JudgedKept Global) → i < length tasks → i < length by_task →
    flat_map f (take (i + 1) (paired tasks by_task))
    ≡ flat_map f (take i (paired tasks by_task)) ++ f (task_read (get_or tasks i t), judged_items (get_or by_task i j))
paired_more {C} f tasks by_task i t j inside also =
    ap (λ (n : ℕ). flat_map f (take n (paired tasks by_task))) (let e : i + 1 ≡ suc i = omega arith in e) ∙ paired_next f tasks by_task i t j inside also

pub paired_all : (n : ℕ) (tasks : List TaskKept) (by_task : List (Vec JudgedKept Global)) → min (length tasks) (length by_task) ≤ n →
    take n (paired tasks by_task) ≡ paired tasks by_task
paired_all zero [] by_task all = refl
paired_all zero (task ∷ tasks) [] all = refl
paired_all zero (task ∷ tasks) (judged ∷ by_task) all = absurd (omega arith)
paired_all (suc n) [] by_task all = refl
paired_all (suc n) (task ∷ tasks) [] all = refl
paired_all (suc n) (task ∷ tasks) (judged ∷ by_task) all =
    ap (λ (more : List (Task × List Judged)). let pair : Task × List Judged = (task_read task, judged_items judged) in pair ∷ more)
    (paired_all n tasks by_task (omega arith))
