-- The names of tasks' jobs: the last dot parts a task's name and a job's number, so no two are the same.
use Rattle.yds_model.proofs.Common.{◌≡◌, ◌≢◌, ℕ, suc, ◌+◌, ◌<◌, ◌≤◌, true, ◌&&◌, nat_le, List, [], ◌∷◌, ◌++◌, length, get_or, map, decimal, refl, sym, ap, subst, ◌∙◌, append_assoc, arith, codes, All, AllPairs, flat_map, list_all, range_with_len, digits_value, get_or-append_seam, and_parts, and_from, leb-true, le-leb, length-decimal-le, length-append, All-head, All-tail, list_all-append, get_or-map-range_with_len, length-map-range_with_len, is_digit, is_visible, is_name, Task, nth_name, count_of_jobs, numbers_of_jobs, is_task_name, AreDifferentNames, AllPairs-append, All-flat, decimal_digits, decimal_without, digit_range, digits_value-decimal}
use Rattle.base.specs.declared.limits.TheConstants.{MAX_JOBS, MAX_NAME, MAX_TASK_NAME}
use Rattle.yds_texts.proofs.TaskLimits.{HaveOtherNames}

-- # Lists over the numbers of jobs

-- what holds for each number below a limit holds of what the numbers stand for
pub All-numbers : {X : Type 0} (P : X → Type 0) (f : ℕ → X) (n : ℕ) → ((k : ℕ) → k < n → P (f k)) → All P (map f (range_with_len 0 n))
All-numbers P f n each k d within =
    let below : k < n = omega (arith, within, length-map-range_with_len f 0 n) in
    subst P (sym (get_or-map-range_with_len f 0 n k k d below (omega arith))) (each k below)

-- # The last dot

-- a list without dots has none in its middle
no_middle : (front back : List ℕ) → All (λ byte. byte ≢ 46) (front ++ 46 ∷ back) → ⊥
no_middle front back none = none (length front) 0 (omega (arith, length-append front (46 ∷ back))) (get_or-append_seam front 46 back 0)

-- what stands before and after the last dot
pub parted : (a b c d : List ℕ) → All (λ byte. byte ≢ 46) b → All (λ byte. byte ≢ 46) d → a ++ 46 ∷ b ≡ c ++ 46 ∷ d → (a ≡ c) × (b ≡ d)
parted [] b [] d without_b without_d same = (refl, cc)
parted [] b (y ∷ c) d without_b without_d same =
    let rest : b ≡ c ++ 46 ∷ d = cc in absurd (no_middle c d (subst (All (λ byte. byte ≢ 46)) rest without_b))
parted (x ∷ a) b [] d without_b without_d same =
    let rest : a ++ 46 ∷ b ≡ d = cc in absurd (no_middle a b (subst (All (λ byte. byte ≢ 46)) (sym rest) without_d))
parted (x ∷ a) b (y ∷ c) d without_b without_d same =
    let first : x ≡ y = cc in
    let rest : a ++ 46 ∷ b ≡ c ++ 46 ∷ d = cc in
    let others = parted a b c d without_b without_d rest in
    (ap (λ one. one ∷ a) first ∙ ap (λ l. y ∷ l) others.0, others.1)

-- the name of a task's job, with its dot
dotted : (task : Task) (k : ℕ) → nth_name task k ≡ task.name ++ 46 ∷ decimal k
dotted task k = append_assoc task.name (codes ".") (decimal k)

-- so it tells the task's name and the job's number
name_tells : (one other : Task) (k j : ℕ) → k < MAX_JOBS → j < MAX_JOBS → nth_name one k ≡ nth_name other j → (one.name ≡ other.name) × (k ≡ j)
name_tells one other k j few fewer same =
    let parts = parted one.name (decimal k) other.name (decimal j) (decimal_without 46 k (omega (arith, few)) (omega arith)) (decimal_without 46 j (omega (arith, fewer)) (omega arith))
    (sym (dotted one k) ∙ same ∙ dotted other j) in
    (parts.0, sym (digits_value-decimal k (omega (arith, few))) ∙ ap (digits_value 10) parts.1 ∙ digits_value-decimal j (omega (arith, fewer)))

-- # Names that fit

-- digits are visible
digits_seen : (text : List ℕ) → All (λ byte. is_digit byte ≡ true) text → list_all is_visible text ≡ true
digits_seen [] digits = refl
digits_seen (byte ∷ text) digits =
    let range = digit_range byte (All-head (λ byte. is_digit byte ≡ true) byte text digits) in
    and_from (is_visible byte) (list_all is_visible text)
    (and_from (nat_le 33 byte) (nat_le byte 126) (le-leb 33 byte (omega (arith, range.0))) (le-leb byte 126 (omega (arith, range.1))))
    (digits_seen text (All-tail (λ byte. is_digit byte ≡ true) byte text digits))

-- the name of a job is a name
pub nth_name_fits : (task : Task) (k : ℕ) → is_task_name task.name ≡ true → k < MAX_JOBS → is_name (nth_name task k) ≡ true
nth_name_fits task k named few =
    let parts = and_parts (is_name task.name) (nat_le (length task.name) MAX_TASK_NAME) named in
    let name = and_parts (nat_le 1 (length task.name) && nat_le (length task.name) MAX_NAME) (list_all is_visible task.name) parts.0 in
    let some : 1 ≤ length task.name = leb-true 1 (length task.name) (and_parts (nat_le 1 (length task.name)) (nat_le (length task.name) MAX_NAME) name.0).0 in
    let short : length task.name ≤ MAX_TASK_NAME = leb-true (length task.name) MAX_TASK_NAME parts.1 in
    let digits : length (decimal k) ≤ 4 = length-decimal-le 4 k (omega arith) (omega (arith, few)) (omega (arith, few)) in
    let long : length (nth_name task k) ≡ length task.name + 1 + length (decimal k) =
    omega (arith, length-append (task.name ++ codes ".") (decimal k), length-append task.name (codes ".")) in
    let seen : list_all is_visible (nth_name task k) ≡ true =
    list_all-append is_visible (task.name ++ codes ".") (decimal k)
    ∙ and_from (list_all is_visible (task.name ++ codes ".")) (list_all is_visible (decimal k))
    (list_all-append is_visible task.name (codes ".")
    ∙ and_from (list_all is_visible task.name) (list_all is_visible (codes ".")) name.1 refl)
    (digits_seen (decimal k) (decimal_digits k (omega (arith, few)))) in
    and_from (nat_le 1 (length (nth_name task k)) && nat_le (length (nth_name task k)) MAX_NAME) (list_all is_visible (nth_name task k))
    (and_from (nat_le 1 (length (nth_name task k))) (nat_le (length (nth_name task k)) MAX_NAME) (le-leb 1 (length (nth_name task k)) (omega (arith, long, some)))
    (le-leb (length (nth_name task k)) MAX_NAME (omega (arith, long, short, digits)))) seen

-- # Names that differ

-- the names of a task's jobs, and of all
abbrev pub names_of_task : ℕ → Task → List (List ℕ)
names_of_task horizon task = map (nth_name task) (numbers_of_jobs horizon task)

-- those of one task
own_differ : (horizon : ℕ) (task : Task) → count_of_jobs horizon task ≤ MAX_JOBS → AllPairs (λ x y. x ≢ y) (names_of_task horizon task)
own_differ horizon task few i j d order within = grind (arith, get_or-map-range_with_len, length-map-range_with_len, name_tells)

-- those of one task and of another
two_differ : (horizon : ℕ) (one other : Task) → one.name ≢ other.name → count_of_jobs horizon one ≤ MAX_JOBS → count_of_jobs horizon other ≤ MAX_JOBS →
    All (λ y. All (λ x. x ≢ y) (names_of_task horizon one)) (names_of_task horizon other)
two_differ horizon one other apart few fewer =
    All-numbers (λ y. All (λ x. x ≢ y) (names_of_task horizon one)) (nth_name other) (count_of_jobs horizon other)
    (λ j below. All-numbers (λ x. x ≢ nth_name other j) (nth_name one) (count_of_jobs horizon one)
    (λ k within same. apart (name_tells one other k j (omega (arith, within, few)) (omega (arith, below, fewer)) same).0))

all_differ : (horizon : ℕ) (tasks : List Task) → AllPairs HaveOtherNames tasks → All (λ task. count_of_jobs horizon task ≤ MAX_JOBS) tasks → AllPairs (λ x y. x ≢ y) (flat_map (names_of_task horizon) tasks)
all_differ horizon [] different few = λ i j d order within. absurd (omega (arith, within))
all_differ horizon (task ∷ tasks) different few =
    let own = All-head (λ task. count_of_jobs horizon task ≤ MAX_JOBS) task tasks few in
    let rest = All-tail (λ task. count_of_jobs horizon task ≤ MAX_JOBS) task tasks few in
    AllPairs-append (λ x y. x ≢ y) (names_of_task horizon task) (flat_map (names_of_task horizon) tasks) (own_differ horizon task own)
    (all_differ horizon tasks (λ i j d order within. different (suc i) (suc j) d (omega (arith, order)) (omega (arith, within))) rest)
    (All-flat (λ y. All (λ x. x ≢ y) (names_of_task horizon task)) (names_of_task horizon) tasks
    (λ k d within. two_differ horizon task (get_or tasks k d) (different 0 (suc k) d (omega arith) (omega (arith, within))) own (rest k d within)))

-- So no two places have the same name.
pub different_places : (names : List (List ℕ)) → AllPairs (λ x y. x ≢ y) names → AreDifferentNames names
different_places names differ i j i_within j_within same = grind arith

pub names_differ : (horizon : ℕ) (tasks : List Task) → AllPairs HaveOtherNames tasks → All (λ task. count_of_jobs horizon task ≤ MAX_JOBS) tasks →
    AreDifferentNames (flat_map (names_of_task horizon) tasks)
names_differ horizon tasks different few = different_places (flat_map (names_of_task horizon) tasks) (all_differ horizon tasks different few)
