-- The names of the tasks, by the set that is kept beside them.
use Rattle.yds_model.proofs.Common.{◌≡◌, ℕ, Bool, true, false, cond, ◌||◌, List, [], ◌∷◌, ◌++◌, map, refl, sym, ap, ◌∙◌, ⊎_elim, cases_Bool, Bor, list_any, bytes_eq, Task, TaskSet}
use Rattle.indexmap.specs.IndexSet.{IndexSet, Updates, contains_by}
use Rattle.yds_tasks.specs.Fields.{has_name}
use Rattle.yds_tasks.specs.KeptTasks.{with_task}

-- some image passes a test
pub list_any-map : {X Y : Type 0} (p : Y → Bool) (f : X → Y) (xs : List X) → list_any p (map f xs) ≡ list_any (λ x. p (f x)) xs
list_any-map p f [] = refl
list_any-map p f (x ∷ xs) = ap (λ b. p (f x) || b) (list_any-map p f xs)

either_passed : (new one rest : Bool) → cond new true (one || rest) ≡ one || cond new true rest
either_passed new true rest = ⊎_elim (λ yes. rw yes refl) (λ no. rw no refl) (cases_Bool new)
either_passed new false rest = refl

one_more : (tasks : List Task) (task : Task) (name : List ℕ) →
    cond (bytes_eq task.name name) true (list_any (λ task. bytes_eq task.name name) tasks) ≡ list_any (λ task. bytes_eq task.name name) (tasks ++ task ∷ [])
one_more [] task name = ⊎_elim (λ yes. rw yes refl) (λ no. rw no refl) (cases_Bool (bytes_eq task.name name))
one_more (first ∷ rest) task name =
    either_passed (bytes_eq task.name name) (bytes_eq first.name name) (list_any (λ task. bytes_eq task.name name) rest)
    ∙ ap (λ b. bytes_eq first.name name || b) (one_more rest task name)

-- once a task's name has come to the set of those of the others, it is the set of all
pub names_pushed : {S : Type 0} (old new : IndexSet (Bor (List ℕ)) S) (name : Bor (List ℕ)) (set : TaskSet) (task : Task) → task.name ≡ name.now →
    Updates (λ one other. bytes_eq one.now other.now) old new name true →
    ((other : List ℕ) → contains_by (λ key. bytes_eq other key.now) old ≡ has_name set other) →
    (other : List ℕ) → contains_by (λ key. bytes_eq other key.now) new ≡ has_name (with_task set task) other
names_pushed old new name set task named updates kept other =
    let key : Bor (List ℕ) = record { ref_ptr = name.ref_ptr; now = other } in
    updates.0 key
    ∙ ap (cond (bytes_eq name.now other) true) (kept other)
    ∙ ap (λ text. cond (bytes_eq text other) true (has_name set other)) (sym named)
    ∙ one_more set.tasks task other
