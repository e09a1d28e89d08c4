-- What the lines of tasks said together, as one more line says something.
use Rattle.yds_model.proofs.Common.{◌≡◌, ℕ, List, [], ◌∷◌, ◌++◌, Some, None, ap, ◌∙◌, filter_map, append-nil, filter_map-append, first_of_them, Task, TaskSet, TaskEntry, HorizonEntry, TaskEntryOf, horizon_said, task_said, tasks_said}
use Rattle.model_lemmas.proofs.Said.{none_first}

-- the first line of a horizon
pub horizon_more : (earlier : List TaskEntry) (set : TaskSet) (horizon : ℕ) → tasks_said earlier ≡ set → set.horizon ≡ None →
    tasks_said (earlier ++ HorizonEntry horizon ∷ []) ≡ record { horizon = Some horizon; tasks = set.tasks }
horizon_more earlier set horizon holds none =
    let no_horizon : filter_map horizon_said earlier ≡ [] = none_first (filter_map horizon_said earlier) (ap (λ (s : TaskSet). s.horizon) holds ∙ none) in
    ap (λ hs. record { horizon = first_of_them hs; tasks = filter_map task_said (earlier ++ HorizonEntry horizon ∷ []) })
    (filter_map-append horizon_said earlier (HorizonEntry horizon ∷ []) ∙ ap (λ hs. hs ++ horizon ∷ []) no_horizon)
    ∙ ap (λ ts. record { horizon = Some horizon; tasks = ts })
    (filter_map-append task_said earlier (HorizonEntry horizon ∷ []) ∙ append-nil (filter_map task_said earlier) ∙ ap (λ (s : TaskSet). s.tasks) holds)

-- the same with one task more
abbrev pub one_more : TaskSet → Task → TaskSet
one_more set task = record { horizon = set.horizon; tasks = set.tasks ++ task ∷ [] }

-- a line of a task
pub task_more : (earlier : List TaskEntry) (set : TaskSet) (task : Task) → tasks_said earlier ≡ set → tasks_said (earlier ++ TaskEntryOf task ∷ []) ≡ one_more set task
task_more earlier set task holds =
    ap (λ hs. record { horizon = first_of_them hs; tasks = filter_map task_said (earlier ++ TaskEntryOf task ∷ []) })
    (filter_map-append horizon_said earlier (TaskEntryOf task ∷ []) ∙ append-nil (filter_map horizon_said earlier))
    ∙ ap (λ ts. record { horizon = first_of_them (filter_map horizon_said earlier); tasks = ts }) (filter_map-append task_said earlier (TaskEntryOf task ∷ []))
    ∙ ap (λ (s : TaskSet). one_more s task) holds
