-- The event points of both parts are those of each, and the stretches are those of each and at most one between them.
use Rattle.yds_model.proofs.Common.{rules, ◌≡◌, ℕ, suc, ◌<◌, ◌≤◌, ◌==◌, List, [], ◌∷◌, ◌++◌, length, get_or, refl, sym, ap, subst, ◌∙◌, inl, inr, arith, if◌then◌else◌, All, flat_map, cases_eq, cases_lt, cases_order, lt-ltb, le-ltb, eq-eqb, ne_eqb, All-nil, All-cons, All-head, All-tail, Job, job_at, Piece, with_time, event_points, neighbours, stretches}
use Rattle.model_lemmas.proofs.Front.{pieces_forward}
use Rattle.yds_events.proofs.Rising.{Rises, rises_times, rising_all}
use Rattle.yds_events.proofs.Times.{release_at, deadline_at}
use Rattle.yds_events.proofs.Neighbours.{stretches_run}
use Rattle.yds_parts.specs.Parts.{ArePartedAt, WindowsAreForward}

-- # Times that are joined

-- rising times and later ones, in which the last of the former may be the first of the latter
abbrev joined : List ℕ → List ℕ → List ℕ
joined [] later = later
joined (time ∷ []) [] = time ∷ []
joined (time ∷ []) (next ∷ later) = if time == next then next ∷ later else time ∷ next ∷ later
joined (time ∷ other ∷ times) later = time ∷ joined (other ∷ times) later

-- where a time goes
with_before : (time first : ℕ) (times : List ℕ) → time < first → with_time time (first ∷ times) ≡ time ∷ first ∷ times
with_before time first times less = rw (lt-ltb time first less) refl

-- at the first
with_same : (time : ℕ) (times : List ℕ) → with_time time (time ∷ times) ≡ time ∷ times
with_same time times = rw (le-ltb time time (omega arith), eq-eqb time time refl) refl

-- after the first
with_after : (time first : ℕ) (times : List ℕ) → first < time → with_time time (first ∷ times) ≡ first ∷ with_time time times
with_after time first times more = rw (le-ltb time first (omega arith), ne_eqb time first (omega arith)) refl

-- and there is then a time
with_some : (time : ℕ) (times : List ℕ) → 1 ≤ length (with_time time times)
with_some time [] = omega arith
with_some time (first ∷ times) = elim (cases_order time first) [
  | inl same ↦ rw (le-ltb time first (omega (arith, same)), eq-eqb time first same) (omega arith)
  | inr (inl less) ↦ rw (with_before time first times less) (omega arith)
  | inr (inr more) ↦ rw (with_after time first times more) (omega arith)
]

-- a last time and the later ones
joined_shared : (time next : ℕ) (later : List ℕ) → time ≡ next → joined (time ∷ []) (next ∷ later) ≡ next ∷ later
joined_shared time next later same = rw (eq-eqb time next same) refl

-- where they differ, both stand
joined_apart : (time next : ℕ) (later : List ℕ) → (time ≡ next → ⊥) → joined (time ∷ []) (next ∷ later) ≡ time ∷ next ∷ later
joined_apart time next later other = rw (ne_eqb time next other) refl

-- an earlier time stays first
joined_more : (time : ℕ) (times later : List ℕ) → 1 ≤ length times → joined (time ∷ times) later ≡ time ∷ joined times later
joined_more time [] later some = absurd (omega (arith, some))
joined_more time (other ∷ times) later some = refl

-- joined times begin as the first do
joined_begins : (time : ℕ) (times later : List ℕ) → (rest : List ℕ) × (joined (time ∷ times) later ≡ time ∷ rest)
joined_begins time [] [] = ([], refl)
joined_begins time [] (next ∷ later) = elim (cases_eq time next) [
  | inl same ↦ (later, joined_shared time next later same ∙ ap (λ n. n ∷ later) (sym same))
  | inr other ↦ (next ∷ later, joined_apart time next later other)
]
joined_begins time (other ∷ times) later = (joined (other ∷ times) later, refl)

-- a time before the first of them, and the first itself
joined_with_before : (time first : ℕ) (times later : List ℕ) → time < first → with_time time (joined (first ∷ times) later) ≡ time ∷ joined (first ∷ times) later
joined_with_before time first times later less = search (arith, rules, with_before)

-- the first is there already
joined_with_first : (first : ℕ) (times later : List ℕ) → with_time first (joined (first ∷ times) later) ≡ joined (first ∷ times) later
joined_with_first first times later = search (arith, rules, with_same)

-- a time that isn't after the later ones
with_later : (time : ℕ) (later : List ℕ) → All (λ next. time ≤ next) later → with_time time later ≡ joined (time ∷ []) later
with_later time [] early = refl
with_later time (next ∷ later) early = elim (cases_lt time next) [
  | inl less ↦ with_before time next later less ∙ sym (joined_apart time next later (omega (arith, less)))
  | inr more ↦
      let same : time ≡ next = omega (arith, more, All-head (λ one. time ≤ one) next later early) in
      subst (λ n. with_time time (n ∷ later) ≡ joined (time ∷ []) (n ∷ later)) same (with_same time later ∙ sym (joined_shared time time later refl))
]

-- one time more among the first ones
with_joined : (cut time : ℕ) (times later : List ℕ) → time ≤ cut → All (λ one. one ≤ cut) times → All (λ one. cut ≤ one) later →
    with_time time (joined times later) ≡ joined (with_time time times) later
with_joined cut time [] later early before after = with_later time later (λ k d within. omega (arith, early, after k d within))
with_joined cut time (first ∷ times) later early before after = elim (cases_order time first) [
  | inl same ↦
      subst (λ n. with_time n (joined (first ∷ times) later) ≡ joined (with_time n (first ∷ times)) later) (sym same)
      (joined_with_first first times later ∙ sym (ap (λ all. joined all later) (with_same first times)))
  | inr (inl less) ↦ joined_with_before time first times later less ∙ sym (ap (λ all. joined all later) (with_before time first times less))
  | inr (inr more) ↦ goes_on cut time first times later more early before after (with_joined cut time times later early (All-tail (λ one. one ≤ cut) first times before) after)
]
  where
    goes_on : (cut time first : ℕ) (times later : List ℕ) → first < time → time ≤ cut → All (λ one. one ≤ cut) (first ∷ times) → All (λ one. cut ≤ one) later →
        with_time time (joined times later) ≡ joined (with_time time times) later → with_time time (joined (first ∷ times) later) ≡ joined (with_time time (first ∷ times)) later
    goes_on cut time first [] [] more early before after rest = rw (with_after time first [] more) refl
    goes_on cut time first [] (next ∷ later) more early before after rest =
        ap (with_time time) (joined_apart first next later (omega (arith, more, early, All-head (λ one. cut ≤ one) next later after)))
        ∙ with_after time first (next ∷ later) more
        ∙ ap (λ (all : List ℕ). first ∷ all) rest
        ∙ sym (ap (λ all. joined all (next ∷ later)) (with_after time first [] more))
    goes_on cut time first (other ∷ times) later more early before after rest =
        with_after time first (joined (other ∷ times) later) more
        ∙ ap (λ (all : List ℕ). first ∷ all) rest
        ∙ sym (joined_more first (with_time time (other ∷ times)) later (with_some time (other ∷ times)))
        ∙ sym (ap (λ all. joined all later) (with_after time first (other ∷ times) more))

-- # Event points

-- the releases and deadlines in the jobs' order
abbrev ends_of : List Job → List ℕ
ends_of jobs = flat_map (λ job. job.release ∷ job.deadline ∷ []) jobs

-- what holds of each release and deadline holds of all of them
ends_all : (P : ℕ → Type 0) (jobs : List Job) → All (λ job. P job.release × P job.deadline) jobs → All P (ends_of jobs)
ends_all P [] each = All-nil P
ends_all P (job ∷ jobs) each =
    let here = All-head (λ (job : Job). P job.release × P job.deadline) job jobs each in
    All-cons P job.release (job.deadline ∷ ends_of jobs) here.0
    (All-cons P job.deadline (ends_of jobs) here.1 (ends_all P jobs (All-tail (λ (job : Job). P job.release × P job.deadline) job jobs each)))

-- and so of the event points
events_all : (P : ℕ → Type 0) (jobs : List Job) → All (λ job. P job.release × P job.deadline) jobs → All P (event_points jobs)
events_all P jobs each = rising_all P (ends_of jobs) (ends_all P jobs each)

-- jobs whose windows are over by a time, and those whose windows haven't begun
abbrev AreOver : ℕ → List Job → Type 0
AreOver time jobs = All (λ job. (job.release ≤ time) × (job.deadline ≤ time)) jobs

abbrev AreAhead : ℕ → List Job → Type 0
AreAhead time jobs = All (λ job. (time ≤ job.release) × (time ≤ job.deadline)) jobs

-- the event points of all jobs are those of the first, and then those of the second
events_joined : (cut : ℕ) (first second : List Job) → AreOver cut first → AreAhead cut second →
    event_points (first ++ second) ≡ joined (event_points first) (event_points second)
events_joined cut [] second over ahead = refl
events_joined cut (job ∷ first) second over ahead =
    let here = All-head (λ (job : Job). (job.release ≤ cut) × (job.deadline ≤ cut)) job first over in
    let rest = All-tail (λ (job : Job). (job.release ≤ cut) × (job.deadline ≤ cut)) job first over in
    let later = events_all (λ one. cut ≤ one) second ahead in
    ap (λ times. with_time job.release (with_time job.deadline times)) (events_joined cut first second rest ahead)
    ∙ ap (with_time job.release) (with_joined cut job.deadline (event_points first) (event_points second) here.1 (events_all (λ one. one ≤ cut) first rest) later)
    ∙ with_joined cut job.release (with_time job.deadline (event_points first)) (event_points second) here.0
    (rising_all (λ one. one ≤ cut) (job.deadline ∷ ends_of first) (All-cons (λ one. one ≤ cut) job.deadline (ends_of first) here.1 (ends_all (λ one. one ≤ cut) first rest)))
    later

-- # Stretches

-- the stretch between the first times and the later ones, where they don't share one
abbrev between_times : List ℕ → List ℕ → List Piece
between_times [] later = []
between_times (time ∷ []) [] = []
between_times (time ∷ []) (next ∷ later) = if time == next then [] else record { from = time; to = next } ∷ []
between_times (time ∷ other ∷ times) later = between_times (other ∷ times) later

-- so the stretches are those of both, and the one between
neighbours_joined : (times later : List ℕ) → neighbours (joined times later) ≡ neighbours times ++ (between_times times later ++ neighbours later)
neighbours_joined [] later = refl
neighbours_joined (time ∷ []) [] = refl
neighbours_joined (time ∷ []) (next ∷ later) = elim (cases_eq time next) [
  | inl same ↦ rw (eq-eqb time next same) refl
  | inr other ↦ rw (ne_eqb time next other) refl
]
neighbours_joined (time ∷ other ∷ times) later =
    let begins = joined_begins other times later in
    ap (λ (all : List ℕ). neighbours (time ∷ all)) begins.1
    ∙ ap (λ (pieces : List Piece). record { from = time; to = other } ∷ pieces) (sym (ap neighbours begins.1) ∙ neighbours_joined (other ∷ times) later)

-- a stretch from the last of some times to the first of others
record IsBetweenTimes (times later : List ℕ) (stretch : Piece) : Type 0 where
  ended : All (λ time. time ≤ stretch.from) times
  ahead : All (λ time. stretch.to ≤ time) later
  forward : stretch.from < stretch.to

-- rising times are none before their first
rises_all : (low : ℕ) (times : List ℕ) → Rises low times → All (λ time. low ≤ time) times
rises_all low [] rises = All-nil (λ time. low ≤ time)
rises_all low (time ∷ times) rises =
    All-cons (λ time. low ≤ time) time times rises.0 (λ k d within. omega (arith, rises.0, rises_all (suc time) times rises.1 k d within))

-- the stretch between is such a one
between_is : (cut low high : ℕ) (times later : List ℕ) → Rises low times → Rises high later → All (λ one. one ≤ cut) times → All (λ one. cut ≤ one) later →
    All (IsBetweenTimes times later) (between_times times later)
between_is cut low high [] later rises rise before after = All-nil (IsBetweenTimes [] later)
between_is cut low high (time ∷ []) [] rises rise before after = All-nil (IsBetweenTimes (time ∷ []) [])
between_is cut low high (time ∷ []) (next ∷ later) rises rise before after = elim (cases_eq time next) [
  | inl same ↦ rw (eq-eqb time next same) (All-nil (IsBetweenTimes (time ∷ []) (next ∷ later)))
  | inr other ↦ rw (ne_eqb time next other) (All-cons (IsBetweenTimes (time ∷ []) (next ∷ later)) (record { from = time; to = next }) [] (record {
    ended = All-cons (λ one. one ≤ time) time [] (omega arith) (All-nil (λ one. one ≤ time));
    ahead = All-cons (λ one. next ≤ one) next later (omega arith) (λ k d within. omega (arith, rises_all (suc next) later rise.1 k d within));
    forward = omega (arith, other, All-head (λ one. one ≤ cut) time [] before, All-head (λ one. cut ≤ one) next later after);
  }) (All-nil (IsBetweenTimes (time ∷ []) (next ∷ later))))
]
between_is cut low high (time ∷ other ∷ times) later rises rise before after =
    let rest = between_is cut (suc time) high (other ∷ times) later rises.1 rise (All-tail (λ one. one ≤ cut) time (other ∷ times) before) after in
    λ k d within.
    let one = rest k d within in
    let from : ℕ = (get_or (between_times (other ∷ times) later) k d).from in
    record {
      ended = All-cons (λ one. one ≤ from) time (other ∷ times) (omega (arith, rises.1.0, All-head (λ one. one ≤ from) other times one.ended)) one.ended;
      ahead = one.ahead;
      forward = one.forward;
    }

-- what holds of each time holds of the ends of each stretch
neighbours_all : (P : ℕ → Type 0) (times : List ℕ) → All P times → All (λ stretch. P stretch.from × P stretch.to) (neighbours times)
neighbours_all P [] each = All-nil (λ (stretch : Piece). P stretch.from × P stretch.to)
neighbours_all P (time ∷ []) each = All-nil (λ (stretch : Piece). P stretch.from × P stretch.to)
neighbours_all P (time ∷ next ∷ times) each =
    let later = All-tail P time (next ∷ times) each in
    All-cons (λ (stretch : Piece). P stretch.from × P stretch.to) (record { from = time; to = next }) (neighbours (next ∷ times))
    (All-head P time (next ∷ times) each, All-head P next times later) (neighbours_all P (next ∷ times) later)

-- the stretch between the event points of the first jobs and those of the second, if there is one
abbrev pub stretches_between : List Job → List Job → List Piece
stretches_between first second = between_times (event_points first) (event_points second)

-- a stretch that begins when the windows of the first jobs are over, and ends before those of the second begin
pub record IsGap (first second : List Job) (stretch : Piece) : Type 0 where
  pub ended : (number : ℕ) → number < length first → (job_at first number).deadline ≤ stretch.from
  pub ahead : (number : ℕ) → number < length second → stretch.to ≤ (job_at second number).release
  pub forward : stretch.from < stretch.to

-- a stretch by a time, and one from it on
pub record EndsBy (cut : ℕ) (stretch : Piece) : Type 0 where
  pub ends : stretch.to ≤ cut
  pub forward : stretch.from < stretch.to

pub record BeginsFrom (cut : ℕ) (stretch : Piece) : Type 0 where
  pub begins : cut ≤ stretch.from
  pub forward : stretch.from < stretch.to

module _ (cut : ℕ) (first second : List Job) (parted : ArePartedAt cut first second) (first_windows : WindowsAreForward first) (second_windows : WindowsAreForward second) where
  over : AreOver cut first
  over k d within = (omega (arith, parted.before k d within, first_windows k d within), parted.before k d within)

  -- the second jobs come later
  ahead : AreAhead cut second
  ahead k d within = (parted.after k d within, omega (arith, parted.after k d within, second_windows k d within))

  -- the stretches of all jobs
  pub stretches_joined : stretches (first ++ second) ≡ stretches first ++ (stretches_between first second ++ stretches second)
  stretches_joined = ap neighbours (events_joined cut first second over ahead) ∙ neighbours_joined (event_points first) (event_points second)

  -- the stretch between begins after the first windows and ends before the second
  pub gaps_are : All (IsGap first second) (stretches_between first second)
  gaps_are k d within =
      let is = between_is cut 0 0 (event_points first) (event_points second) (rises_times (ends_of first)) (rises_times (ends_of second))
      (events_all (λ one. one ≤ cut) first over) (events_all (λ one. cut ≤ one) second ahead) k d within in
      record {
        ended = λ number known. let event = deadline_at first number known in omega (arith, event.2, is.ended event.0 0 event.1);
        ahead = λ number known. let event = release_at second number known in omega (arith, event.2, is.ahead event.0 0 event.1);
        forward = is.forward;
      }

  -- the stretches of the first jobs end by the cut
  pub first_stretches : All (EndsBy cut) (stretches first)
  first_stretches k d within = record {
    ends = (neighbours_all (λ one. one ≤ cut) (event_points first) (events_all (λ one. one ≤ cut) first over) k d within).1;
    forward = pieces_forward 0 (stretches first) (stretches_run first) k d within;
  }

  -- and those of the second begin from it on
  pub second_stretches : All (BeginsFrom cut) (stretches second)
  second_stretches k d within = record {
    begins = (neighbours_all (λ one. cut ≤ one) (event_points second) (events_all (λ one. cut ≤ one) second ahead) k d within).0;
    forward = pieces_forward 0 (stretches second) (stretches_run second) k d within;
  }
