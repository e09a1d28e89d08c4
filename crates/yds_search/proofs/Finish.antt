-- A part without late jobs becomes a finished group.
use Rattle.yds_model.proofs.Common.{◌≡◌, ℕ, ◌+◌, ◌*◌, ◌<◌, ◌≤◌, ◌⊎◌, ◌==◌, List, [], ◌∷◌, ◌++◌, ◌∙◌, length, map, get_or, refl, sym, ap, subst, inl, inr, arith, if◌then◌else◌, All, AllPairs, sum_by, le_of_mul-le-mul_left, mul-le-mul_right, length_push, length-append, get_or_append_left, get_or_push, All-append, All-tail, sum_by-append, cases_lt, Job, job_at, stretches, sum_by_same, sum_by_at_most, sum_by-mul}
use Rattle.yds_events.specs.declared.window.Window.{Window}
use Rattle.yds_events.specs.Window.{length_at}
use Rattle.yds_timetable.specs.Shares.{JobShare, no_share}
use Rattle.yds_search.specs.declared.found.TheConstants.{NO_GROUP}
use Rattle.yds_search.specs.declared.own.OwnJob.{OwnJob}
use Rattle.yds_search.specs.declared.own.OwnStretch.{OwnStretch}
use Rattle.yds_search.specs.Found.{Found, Group, group_at, no_group, group_of, per_time, per_work, units_of_job, units_in_stretch, IsShare}
use Rattle.yds_search.specs.Numbers.{AreWritten}
use Rattle.yds_search.specs.Own.{Part, job_numbers, stretch_numbers}
use Rattle.yds_search.specs.Instance.{IsInstance}
use Rattle.yds_search.specs.Stack.{jobs_of, own_stretches_of}
use Rattle.yds_search.specs.Waiting.{HasOne, HasJob, HasStretch, IsWaiting, IsBefore, IsFast, IsSlow, IsFollowed, AreWaiting}
use Rattle.yds_search.specs.Search.{MayTake, IsGroup, StandTogether, IsFinished, IsLed, IsSearch, IsLaidOut}
use Rattle.yds_search.proofs.KeySums.{over_same, sums_swap}
use Rattle.yds_search.proofs.Members.{one_at, at_one, one_or_none, all_pairs_append, over_members, written_at, written_off}
use Rattle.yds_search.proofs.Shares.{no_units}
use Rattle.yds_search.proofs.Filled.{no_own, no_own_stretch, jobs_apart, stretches_apart}

-- a part that is filled at p / q is not slower than that
fast_speed : (part : Part) (p q : ℕ) (units : ℕ → ℕ → ℕ) → IsFast part p q units → p * sum_by (λ own. own.length) part.stretches ≤ q * sum_by (λ own. own.work) part.jobs
fast_speed part p q units fast = omega (
  arith,
  sum_by-mul p (λ own. own.length) part.stretches,
  sum_by_at_most (λ own. p * own.length) (λ own. sum_by (λ one. units one.job own.stretch) part.jobs) part.stretches fast.full,
  sums_swap (λ (own : OwnStretch) (one : OwnJob). units one.job own.stretch) part.stretches part.jobs,
  sum_by_at_most (λ own. sum_by (λ one. units own.job one.stretch) part.stretches) (λ own. q * own.work) part.jobs fast.most,
  sum_by-mul q (λ own. own.work) part.jobs,
)

-- a part that is served at p / q is not faster than that
slow_speed : (part : Part) (p q : ℕ) (units : ℕ → ℕ → ℕ) → IsSlow part p q units → q * sum_by (λ own. own.work) part.jobs ≤ p * sum_by (λ own. own.length) part.stretches
slow_speed part p q units slow = omega (
  arith,
  sum_by-mul q (λ own. own.work) part.jobs,
  sum_by_at_most (λ own. q * own.work) (λ own. sum_by (λ one. units own.job one.stretch) part.stretches) part.jobs slow.served,
  sums_swap (λ (own : OwnJob) (one : OwnStretch). units own.job one.stretch) part.jobs part.stretches,
  sum_by_at_most (λ own. sum_by (λ one. units one.job own.stretch) part.jobs) (λ own. p * own.length) part.stretches slow.room,
  sum_by-mul p (λ own. own.length) part.stretches,
)

-- in lowest or any terms: speeds that p / q stands between
speed_order : (work length work' length' p q : ℕ) → 1 ≤ q → p * length ≤ q * work → q * work' ≤ p * length' → work' * length ≤ work * length'
speed_order work length work' length' p q some fast slow = le_of_mul-le-mul_left {k = q} (omega (arith, mul-le-mul_right length slow, mul-le-mul_right length' fast)) some

-- a member's number is that of the new group, any other one is what it was
number_cases : {X : Type 0} (number : X → ℕ) (xs : List X) (group : ℕ) (old new : List ℕ) → AreWritten (λ i value. value ≡ group) (map number xs) (length xs) old new →
    ((k : ℕ) → HasOne (λ x. number x ≡ k) xs → group_of old k ≡ NO_GROUP) → (k : ℕ) →
    (HasOne (λ x. number x ≡ k) xs × (group_of old k ≡ NO_GROUP) × (group_of new k ≡ group)) ⊎ ((HasOne (λ x. number x ≡ k) xs → ⊥) × (group_of new k ≡ group_of old k))
number_cases number xs group old new written free k = elim (one_or_none number xs k) [
  | inl one ↦ inl (one, free k one, written_at number xs group old new k written one)
  | inr none ↦ inr (none, written_off number xs group old new k written none)
]

-- a finished group's members count as before
same_chosen : {None One : Type 0} (old new group i value : ℕ) → (One × (old ≡ NO_GROUP) × (new ≡ group)) ⊎ (None × (new ≡ old)) → i < group → group < NO_GROUP →
    (if old == i then value else 0) ≡ (if new == i then value else 0)
same_chosen old new group i value cases finished few = grind arith

-- all that is known when a part is finished
module _ (jobs : List Job) (windows : List Window) (found : Found) (part : Part) (parts : List Part) (are : IsInstance jobs windows) (search : IsSearch jobs windows found (part ∷ parts))
    (group : Group) (own_shares : List JobShare) (laid : IsLaidOut jobs windows part group own_shares) (new_jobs new_stretches : List ℕ)
    (jobs_written : AreWritten (λ j number. number ≡ length found.groups) (job_numbers part.jobs) (length part.jobs) found.group_of_job new_jobs)
    (stretches_written : AreWritten (λ k number. number ≡ length found.groups) (stretch_numbers part.stretches) (length part.stretches) found.group_of_stretch new_stretches) where
  -- what is found then
  abbrev pub ended : Found
  ended = record { groups = found.groups ++ group ∷ []; group_of_job = new_jobs; group_of_stretch = new_stretches; shares = found.shares ++ own_shares }

  -- the part is in order
  waits : IsWaiting jobs windows found part
  waits = search.waiting.0

  -- there is one group more
  count : length (found.groups ++ group ∷ []) ≡ length found.groups + 1
  count = length_push found.groups group

  -- no finished group has the number of none
  few_groups : length found.groups < NO_GROUP
  few_groups = omega (arith, search.few_groups, are.few_stretches)

  -- a job of the part, and any other one
  job_cases : (j : ℕ) → (HasJob part j × (group_of found.group_of_job j ≡ NO_GROUP) × (group_of new_jobs j ≡ length found.groups))
      ⊎ ((HasJob part j → ⊥) × (group_of new_jobs j ≡ group_of found.group_of_job j))
  job_cases = number_cases (λ own. own.job) part.jobs (length found.groups) found.group_of_job new_jobs jobs_written (λ j one.
      let own = one_at (λ own. own.job ≡ j) part.jobs one in
      subst (λ (n : ℕ). group_of found.group_of_job n ≡ NO_GROUP) (own.2 no_own) (waits.own_jobs own.0 no_own own.1).free)

  -- a stretch of the part, and any other one
  stretch_cases : (k : ℕ) → (HasStretch part k × (group_of found.group_of_stretch k ≡ NO_GROUP) × (group_of new_stretches k ≡ length found.groups))
      ⊎ ((HasStretch part k → ⊥) × (group_of new_stretches k ≡ group_of found.group_of_stretch k))
  stretch_cases = number_cases (λ own. own.stretch) part.stretches (length found.groups) found.group_of_stretch new_stretches stretches_written (λ k one.
      let own = one_at (λ own. own.stretch ≡ k) part.stretches one in
      subst (λ (n : ℕ). group_of found.group_of_stretch n ≡ NO_GROUP) (own.2 no_own_stretch) (waits.own_stretches own.0 no_own_stretch own.1).free)

  -- who was in a finished group is in it, and who is in one was in it or is one of the part
  old_job : (j : ℕ) → group_of found.group_of_job j < length found.groups → group_of new_jobs j ≡ group_of found.group_of_job j
  old_job j finished = elim (job_cases j) [ inl mine ↦ absurd (omega (arith, mine.1, finished, few_groups)) | inr other ↦ other.1 ]

  -- so are the stretches
  old_stretch : (k : ℕ) → group_of found.group_of_stretch k < length found.groups → group_of new_stretches k ≡ group_of found.group_of_stretch k
  old_stretch k finished = elim (stretch_cases k) [ inl mine ↦ absurd (omega (arith, mine.1, finished, few_groups)) | inr other ↦ other.1 ]

  -- a job of the part is in the new group
  new_job : (j : ℕ) → HasJob part j → group_of new_jobs j ≡ length found.groups
  new_job j one = written_at (λ own. own.job) part.jobs (length found.groups) found.group_of_job new_jobs j jobs_written one

  -- so is a stretch of the part
  new_stretch : (k : ℕ) → HasStretch part k → group_of new_stretches k ≡ length found.groups
  new_stretch k one = written_at (λ own. own.stretch) part.stretches (length found.groups) found.group_of_stretch new_stretches k stretches_written one

  -- any other job that is in a group was in it
  was_job : (j : ℕ) → j < length jobs → group_of new_jobs j < length (found.groups ++ group ∷ []) → group_of new_jobs j ≡ group_of found.group_of_job j →
      group_of found.group_of_job j < length found.groups
  was_job j known grouped same = elim (search.job j known) [ inl finished ↦ finished | inr none ↦ absurd (omega (arith, grouped, count, same, none, few_groups)) ]

  -- so was any other stretch
  was_stretch : (k : ℕ) → k < length (stretches jobs) → group_of new_stretches k < length (found.groups ++ group ∷ []) → group_of new_stretches k ≡ group_of found.group_of_stretch k →
      group_of found.group_of_stretch k < length found.groups
  was_stretch k known grouped same = elim (search.stretch k known) [ inl finished ↦ finished | inr none ↦ absurd (omega (arith, grouped, count, same, none, few_groups)) ]

  -- the groups before the new one, and the new one
  group_before : (i : ℕ) → i < length found.groups → group_at (found.groups ++ group ∷ []) i ≡ group_at found.groups i
  group_before i within = get_or_append_left found.groups (group ∷ []) no_group i within

  -- the new group stands last
  group_here : (i : ℕ) → i ≡ length found.groups → group_at (found.groups ++ group ∷ []) i ≡ group
  group_here i is = get_or_push found.groups group no_group i (sym is)

  -- a fact of each group, from that of each one before and that of the new one
  each_group : (P : ℕ → Group → Type 0) → ((i : ℕ) → i < length found.groups → P i (group_at found.groups i)) →
      P (length found.groups) group → (i : ℕ) → i < length (found.groups ++ group ∷ []) → P i (group_at (found.groups ++ group ∷ []) i)
  each_group P before here i within = grind (arith, cases_lt, count, group_before, group_here)

  -- each group has work and length, those of its members
  all_groups : (i : ℕ) → i < length (found.groups ++ group ∷ []) → IsGroup jobs ended i (group_at (found.groups ++ group ∷ []) i)
  all_groups = each_group (IsGroup jobs ended)
      (λ i within.
      let old = search.finished.groups i within in
      record {
        some_work = old.some_work;
        some_length = old.some_length;
        work_is = old.work_is ∙ over_same (λ j. if group_of found.group_of_job j == i then (job_at jobs j).work else 0) (λ j. if group_of new_jobs j == i then (job_at jobs j).work else 0)
            (length jobs) (λ j below. same_chosen (group_of found.group_of_job j) (group_of new_jobs j) (length found.groups) i (job_at jobs j).work (job_cases j) within few_groups);
        length_is = old.length_is ∙ over_same (λ k. if group_of found.group_of_stretch k == i then length_at jobs k else 0) (λ k. if group_of new_stretches k == i then length_at jobs k else 0)
            (length (stretches jobs)) (λ k below. same_chosen (group_of found.group_of_stretch k) (group_of new_stretches k) (length found.groups) i (length_at jobs k) (stretch_cases k) within few_groups);
      })
      (record {
        some_work = laid.some_work;
        some_length = laid.some_length;
        work_is = laid.work_is ∙ sum_by_same (λ own. own.work) (λ own. (job_at jobs own.job).work) part.jobs (λ i d within. (waits.own_jobs i d within).work_is)
            ∙ sym (over_members (λ own. own.job) part.jobs (λ j. (job_at jobs j).work) new_jobs (length found.groups) (length jobs) (jobs_apart jobs windows found part are waits)
            (λ i d within. (waits.own_jobs i d within).known) (λ j below one. new_job j one) (λ j below none is. elim (job_cases j) [
              | inl mine ↦ none mine.0
              | inr other ↦ elim (search.job j below) [ inl finished ↦ omega (arith, is, other.1, finished) | inr free ↦ omega (arith, is, other.1, free, few_groups) ]
            ]));
        length_is = laid.length_is ∙ sum_by_same (λ own. own.length) (λ own. length_at jobs own.stretch) part.stretches (λ i d within. (waits.own_stretches i d within).length_is)
            ∙ sym (over_members (λ own. own.stretch) part.stretches (λ k. length_at jobs k) new_stretches (length found.groups) (length (stretches jobs)) (stretches_apart jobs windows found part are waits)
            (λ i d within. (waits.own_stretches i d within).known) (λ k below one. new_stretch k one) (λ k below none is. elim (stretch_cases k) [
              | inl mine ↦ none mine.0
              | inr other ↦ elim (search.stretch k below) [ inl finished ↦ omega (arith, is, other.1, finished) | inr free ↦ omega (arith, is, other.1, free, few_groups) ]
            ]));
      })

  -- the group is not faster than the one before it
  new_order : (i : ℕ) → i + 1 ≡ length found.groups → group.work * (group_at found.groups i).length ≤ (group_at found.groups i).work * group.length
  new_order i last =
      let lead = search.led i last in
      speed_order (group_at found.groups i).work (group_at found.groups i).length group.work group.length lead.p lead.q lead.some lead.fast
      (omega (arith, slow_speed part lead.p lead.q lead.units lead.slow, ap (λ n. lead.q * n) laid.work_is, ap (λ n. lead.p * n) laid.length_is))

  -- so none is faster than the one before it
  each_order : (i : ℕ) → i + 1 < length (found.groups ++ group ∷ []) →
      (group_at (found.groups ++ group ∷ []) (i + 1)).work * (group_at (found.groups ++ group ∷ []) i).length
      ≤ (group_at (found.groups ++ group ∷ []) i).work * (group_at (found.groups ++ group ∷ []) (i + 1)).length
  each_order i within =
      let before : i < length found.groups = omega (arith, within, count) in
      subst (λ (g : Group). (group_at (found.groups ++ group ∷ []) (i + 1)).work * g.length ≤ g.work * (group_at (found.groups ++ group ∷ []) (i + 1)).length)
      (sym (group_before i before)) (each_group (λ n g. n ≡ i + 1 → g.work * (group_at found.groups i).length ≤ (group_at found.groups i).work * g.length)
      (λ n old is. subst (λ (n : ℕ). (group_at found.groups n).work * (group_at found.groups i).length ≤ (group_at found.groups i).work * (group_at found.groups n).length)
      (sym is) (search.finished.order i (omega (arith, old, is)))) (λ is. new_order i (sym is)) (i + 1) within refl)

  -- a stretch of a job's window is in the job's group or in one before it
  all_not_after : (j k : ℕ) → MayTake jobs windows j k → group_of new_jobs j < length (found.groups ++ group ∷ []) → group_of new_stretches k ≤ group_of new_jobs j
  all_not_after j k runs grouped = elim (job_cases j) [
    | inl mine ↦ elim (search.covered j k runs) [
      | inl finished ↦ omega (arith, old_stretch k finished, finished, mine.2)
      | inr later ↦ elim later [
        | inl own ↦ omega (arith, new_stretch k own, mine.2)
        | inr slower ↦
            let next = one_at (λ one. HasStretch one k) parts slower in
            absurd ((search.waiting.1 next.0 part next.1).beyond j k mine.0 (next.2 part) runs.inside)
      ]
    ]
    | inr other ↦
        let finished = was_job j runs.known grouped other.1 in
        let before = search.finished.not_after j k runs finished in
        omega (arith, other.1, before, old_stretch k (omega (arith, before, finished)))
  ]

  -- an old share is of a finished group, a new one of the part
  share_of : (x : ℕ) (d : JobShare) → x < length found.shares →
      (group_of found.group_of_job (get_or found.shares x d).job < length found.groups) × (group_of found.group_of_stretch (get_or found.shares x d).stretch < length found.groups)
  share_of x d within = let share = search.finished.shares x d within in (share.grouped, omega (arith, share.grouped, share.same_group))

  -- each share is of its job's group
  all_shares : All (IsShare jobs ended) (found.shares ++ own_shares)
  all_shares = All-append (IsShare jobs ended) found.shares own_shares
      (λ x d within.
      let share = search.finished.shares x d within in
      let groups = share_of x d within in
      record {
        known = share.known;
        known_stretch = share.known_stretch;
        some = share.some;
        in_window = share.in_window;
        grouped = omega (arith, groups.0, old_job (get_or found.shares x d).job groups.0, count);
        same_group = old_stretch (get_or found.shares x d).stretch groups.1 ∙ share.same_group ∙ sym (old_job (get_or found.shares x d).job groups.0);
      }) (λ x d within.
      let one = get_or own_shares x d in
      let job = one_at (λ own. own.job ≡ one.job) part.jobs (laid.jobs_of x d within) in
      let stretch = one_at (λ own. own.stretch ≡ one.stretch) part.stretches (laid.stretches_of x d within) in
      let known : one.job < length jobs = omega (arith, (waits.own_jobs job.0 no_own job.1).known, job.2 no_own) in
      let known_stretch : one.stretch < length (stretches jobs) = omega (arith, (waits.own_stretches stretch.0 no_own_stretch stretch.1).known, stretch.2 no_own_stretch) in
      record {
        known = known;
        known_stretch = known_stretch;
        some = laid.some x d within;
        in_window = (are.windows_are.are one.job one.stretch known known_stretch).0 (laid.inside x d within);
        grouped = omega (arith, new_job one.job (laid.jobs_of x d within), count);
        same_group = new_stretch one.stretch (laid.stretches_of x d within) ∙ sym (new_job one.job (laid.jobs_of x d within));
      })

  -- the units of a job are those before and those of the part
  all_served : (j : ℕ) → j < length jobs → group_of new_jobs j < length (found.groups ++ group ∷ []) →
      units_of_job (found.shares ++ own_shares) j ≡ per_work (group_at (found.groups ++ group ∷ []) (group_of new_jobs j)) * (job_at jobs j).work
  all_served j known grouped = elim (job_cases j) [
    | inl mine ↦
        let own = one_at (λ own. own.job ≡ j) part.jobs mine.0 in
        omega (
          arith,
          sum_by-append (λ share. if share.job == j then share.units else 0) found.shares own_shares,
          no_units (λ share. share.job) found.shares j (λ x within is. omega (arith, (share_of x no_share within).0, ap (λ n. group_of found.group_of_job n) is, mine.1, few_groups)),
          laid.served own.0 no_own own.1,
          ap (λ n. units_of_job own_shares n) (own.2 no_own),
          ap (λ n. per_work group * n) ((waits.own_jobs own.0 no_own own.1).work_is ∙ ap (λ n. (job_at jobs n).work) (own.2 no_own)),
          ap (λ g. per_work g * (job_at jobs j).work) (group_here (group_of new_jobs j) mine.2),
        )
    | inr other ↦
        let old = was_job j known grouped other.1 in
        omega (
          arith,
          sum_by-append (λ share. if share.job == j then share.units else 0) found.shares own_shares,
          no_units (λ share. share.job) own_shares j (λ x within is. other.0 (subst (HasJob part) is (laid.jobs_of x no_share within))),
          search.finished.served j known old,
          ap (λ g. per_work g * (job_at jobs j).work) (ap (group_at (found.groups ++ group ∷ [])) other.1 ∙ group_before (group_of found.group_of_job j) old),
        )
  ]

  -- and so are the units in a stretch
  all_full : (k : ℕ) → k < length (stretches jobs) → group_of new_stretches k < length (found.groups ++ group ∷ []) →
      units_in_stretch (found.shares ++ own_shares) k ≡ per_time (group_at (found.groups ++ group ∷ []) (group_of new_stretches k)) * length_at jobs k
  all_full k known grouped = elim (stretch_cases k) [
    | inl mine ↦
        let own = one_at (λ own. own.stretch ≡ k) part.stretches mine.0 in
        omega (
          arith,
          sum_by-append (λ share. if share.stretch == k then share.units else 0) found.shares own_shares,
          no_units (λ share. share.stretch) found.shares k (λ x within is. omega (arith, (share_of x no_share within).1, ap (λ n. group_of found.group_of_stretch n) is, mine.1, few_groups)),
          laid.full own.0 no_own_stretch own.1,
          ap (λ n. units_in_stretch own_shares n) (own.2 no_own_stretch),
          ap (λ n. per_time group * n) ((waits.own_stretches own.0 no_own_stretch own.1).length_is ∙ ap (λ n. length_at jobs n) (own.2 no_own_stretch)),
          ap (λ g. per_time g * length_at jobs k) (group_here (group_of new_stretches k) mine.2),
        )
    | inr other ↦
        let old = was_stretch k known grouped other.1 in
        omega (
          arith,
          sum_by-append (λ share. if share.stretch == k then share.units else 0) found.shares own_shares,
          no_units (λ share. share.stretch) own_shares k (λ x within is. other.0 (subst (HasStretch part) is (laid.stretches_of x no_share within))),
          search.finished.full k known old,
          ap (λ g. per_time g * length_at jobs k) (ap (group_at (found.groups ++ group ∷ [])) other.1 ∙ group_before (group_of found.group_of_stretch k) old),
        )
  ]

  -- shares of old groups and of the new one have no stretch and no group in common
  all_together : AllPairs (StandTogether jobs windows new_jobs) (found.shares ++ own_shares)
  all_together = all_pairs_append (StandTogether jobs windows new_jobs) found.shares own_shares
      (λ x y d before within.
      let old = search.finished.together x y d before within in
      let first = old_job (get_or found.shares x d).job (share_of x d (omega (arith, before, within))).0 in
      let second = old_job (get_or found.shares y d).job (share_of y d within).0 in
      (old.0, λ same. old.1 (sym first ∙ same ∙ second)))
      (λ x y d before within. (laid.in_order x y d before within, λ same. (laid.early x d (omega (arith, before, within)) y d within, laid.early y d within x d (omega (arith, before, within)))))
      (λ x d within y e within'.
      let old = share_of x d within in (
        λ same. absurd (omega (
          arith,
          old.1,
          old_stretch (get_or found.shares x d).stretch old.1,
          new_stretch (get_or own_shares y e).stretch (laid.stretches_of y e within'),
          ap (λ n. group_of new_stretches n) same,
        )),
        λ same. absurd (omega (arith, old.0, old_job (get_or found.shares x d).job old.0, new_job (get_or own_shares y e).job (laid.jobs_of y e within'), same)),
      ))

  -- what holds of the finished groups, with the new one
  all_finished : IsFinished jobs windows ended
  all_finished = record {
    groups = all_groups;
    order = each_order;
    not_after = all_not_after;
    shares = all_shares;
    served = all_served;
    full = all_full;
    together = all_together;
  }

  -- the slower parts wait as before
  still_waiting : (rest : List Part) → All (IsBefore windows part) rest → AreWaiting jobs windows found rest → AreWaiting jobs windows ended rest
  still_waiting [] before waiting = tt
  still_waiting (next ∷ rest) before waiting =
      let first = before 0 next (omega arith) in (
        record {
          own_jobs = λ i d within.
              let own = waiting.0.own_jobs i d within in
              record {
                known = own.known;
                some = own.some;
                work_is = own.work_is;
                free = elim (job_cases (get_or next.jobs i d).job) [
                  | inl mine ↦ absurd (first.jobs (get_or next.jobs i d).job mine.0 (at_one (λ one. one.job ≡ (get_or next.jobs i d).job) next.jobs i d within refl))
                  | inr other ↦ other.1 ∙ own.free
                ];
                first = own.first;
                end = own.end;
                meets = own.meets;
              };
          own_stretches = λ i d within.
              let own = waiting.0.own_stretches i d within in
              record {
                known = own.known;
                length_is = own.length_is;
                free = elim (stretch_cases (get_or next.stretches i d).stretch) [
                  | inl mine ↦ absurd (first.stretches (get_or next.stretches i d).stretch mine.0 (at_one (λ one. one.stretch ≡ (get_or next.stretches i d).stretch) next.stretches i d within refl))
                  | inr other ↦ other.1 ∙ own.free
                ];
                covered = own.covered;
              };
          precede = waiting.0.precede;
          rise = waiting.0.rise;
          some = waiting.0.some;
        },
        waiting.1,
        waiting.2,
        still_waiting rest (All-tail (IsBefore windows part) next rest before) waiting.3,
      )

  -- and the finished group is not slower than the next part
  new_led : (rest : List Part) → IsFollowed windows part rest → IsLed windows (found.groups ++ group ∷ []) rest
  new_led [] followed = tt
  new_led (next ∷ rest) followed = λ i is. record {
    p = followed.p;
    q = followed.q;
    units = followed.units;
    some = followed.some;
    inside = followed.inside;
    fast = subst (λ (g : Group). followed.p * g.length ≤ followed.q * g.work) (sym (group_here i (omega (arith, is, count)))) (omega (
      arith,
      fast_speed part followed.p followed.q followed.units followed.fast,
      ap (λ n. followed.q * n) laid.work_is,
      ap (λ n. followed.p * n) laid.length_is,
    ));
    slow = followed.slow;
  }

  -- after a group is finished the search goes on with the next one
  pub finish_search : IsSearch jobs windows ended parts
  finish_search = record {
    all_jobs = jobs_written.count ∙ search.all_jobs;
    all_stretches = stretches_written.count ∙ search.all_stretches;
    idle = λ j known none. elim (job_cases j) [
      | inl mine ↦
          let own = one_at (λ own. own.job ≡ j) part.jobs mine.0 in
          let is = waits.own_jobs own.0 no_own own.1 in
          absurd (omega (arith, is.some, is.work_is, ap (λ n. (job_at jobs n).work) (own.2 no_own), none))
      | inr other ↦ other.1 ∙ search.idle j known none
    ];
    with_work = λ j known some. elim (job_cases j) [
      | inl mine ↦ inl (omega (arith, mine.2, count))
      | inr other ↦ elim (search.with_work j known some) [
        | inl finished ↦ inl (omega (arith, other.1, finished, count))
        | inr later ↦ elim later [ inl mine ↦ absurd (other.0 mine) | inr rest ↦ inr rest ]
      ]
    ];
    job = λ j known. elim (job_cases j) [
      | inl mine ↦ inl (omega (arith, mine.2, count))
      | inr other ↦ elim (search.job j known) [ inl finished ↦ inl (omega (arith, other.1, finished, count)) | inr none ↦ inr (other.1 ∙ none) ]
    ];
    stretch = λ k known. elim (stretch_cases k) [
      | inl mine ↦ inl (omega (arith, mine.2, count))
      | inr other ↦ elim (search.stretch k known) [ inl finished ↦ inl (omega (arith, other.1, finished, count)) | inr none ↦ inr (other.1 ∙ none) ]
    ];
    covered = λ j k runs. elim (stretch_cases k) [
      | inl mine ↦ inl (omega (arith, mine.2, count))
      | inr other ↦ elim (search.covered j k runs) [
        | inl finished ↦ inl (omega (arith, other.1, finished, count))
        | inr later ↦ elim later [ inl mine ↦ absurd (other.0 mine) | inr rest ↦ inr rest ]
      ]
    ];
    waiting = still_waiting parts search.waiting.1 search.waiting.3;
    led = new_led parts search.waiting.2;
    finished = all_finished;
    few = omega (
      arith,
      search.few,
      laid.few,
      length-append found.shares own_shares,
      length-append (jobs_of parts) part.jobs,
      length-append (own_stretches_of parts) part.stretches,
    );
    few_jobs = omega (arith, search.few_jobs, length-append (jobs_of parts) part.jobs);
    few_groups = omega (arith, search.few_groups, count, length-append (own_stretches_of parts) part.stretches, waits.some);
  }
