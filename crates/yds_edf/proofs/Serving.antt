-- Serving a stretch job by job: what has been served so far, and that it is what the stretch serves in the end.
use Rattle.yds_model.proofs.Common.{◌≡◌, ◌≢◌, ℕ, ◌+◌, ◌-◌, ◌<◌, ◌≤◌, ◌⊎◌, min, List, [], ◌∷◌, ◌++◌, length, get_or, slice_index, ◌∙◌, refl, sym, subst, arith, inl, inr, ap, length-set, ◌*◌, All, AllPairs, length-append, sum_by_push, All-push, All-nil, All-cons, All-get_or, cases_eq, cases_Bool, eq-eqb, ne_eqb, mul-le-mul_right, Job, AllPairs-append}
use Rattle.base.specs.declared.limits.TheConstants.{MAX_WORK}
use Rattle.yds_timetable.specs.Shares.{JobShare, units_given, total_units}
use Rattle.yds_edf.specs.Pending.{units_wanted}
use Rattle.base.specs.Numbers.{sum_below}
use Rattle.yds_edf.specs.Serving.{IsDueBefore}
use Rattle.yds_edf.specs.Queue.{JobQueue, pending_in, all_pending, units_left, unfinished, Adds, Serves}
use Rattle.yds_edf.specs.Engine.{TiedQueue, IsTiedQueue, with_served, ServesFirst, ServesTied}
use Rattle.model_lemmas.proofs.SumsBelow.{sum_below_same, sum_below-add, sum_below_bound, sum_below_change, sum_below_term, sum_by_grouped}
use Rattle.yds_edf.proofs.AddedShares.{share_given}
use Rattle.yds_edf.proofs.Steps.{changed_here, changed_elsewhere}

-- how many of the first jobs have units left
abbrev pub unfinished_of : ℕ → JobQueue → ℕ
unfinished_of n queue = sum_below n (λ number. min 1 (units_left queue number))

-- what is served so far, with so much room left
pub record Progress (start now : TiedQueue) (stretch capacity room : ℕ) (shares : List JobShare) : Type 0 where
  pub ties : now.ties ≡ start.ties
  pub adds : Adds start.queue now.queue shares
  pub as_long : length now.queue.served ≡ length start.queue.jobs
  pub in_stretch : All (λ share. share.stretch ≡ stretch) shares
  pub known : All (λ share. share.job < length start.queue.jobs) shares
  pub some : All (λ share. 1 ≤ share.units) shares
  pub in_order : AllPairs (λ one other. IsDueBefore start.queue.jobs (slice_index start.ties) one.job other.job) shares
  pub given : (number : ℕ) → number < length start.queue.jobs →
      units_given shares number + pending_in now.queue number ≡ pending_in start.queue number
  pub total : total_units shares + room ≡ capacity
  pub finished : 1 ≤ room → All (λ share. pending_in now.queue share.job < 1) shares
  pub earliest : (number : ℕ) → number < length start.queue.jobs → 1 ≤ pending_in now.queue number →
      All (λ share. (share.job ≡ number) ⊎ IsDueBefore start.queue.jobs (slice_index start.ties) share.job number) shares
  pub few : 1 ≤ room → length shares + unfinished_of (length start.queue.jobs) now.queue ≤ unfinished start.queue
  pub finishing : length shares + unfinished_of (length start.queue.jobs) now.queue ≤ unfinished start.queue + 1

pub begin : (start : TiedQueue) (stretch capacity : ℕ) → IsTiedQueue start → Progress start start stretch capacity capacity []
begin start stretch capacity kept = grind arith

-- the units pending of a job, once one was served so many more
pending_here : (tied : TiedQueue) (job units : ℕ) → job < length tied.queue.served → 1 ≤ pending_in tied.queue job →
    units ≤ pending_in tied.queue job →
    units + pending_in (with_served tied job units).queue job ≡ pending_in tied.queue job
pending_here tied job units within some enough = grind (arith, cases_Bool, changed_here, slice_index)

-- no more is pending than is wanted
pub pending_wanted : (queue : JobQueue) (number : ℕ) → pending_in queue number ≤ units_wanted queue.jobs queue.grain number
pending_wanted queue number = grind arith

-- all that is left of a job of which units are pending is pending
some_pending : (queue : JobQueue) (number : ℕ) → 1 ≤ pending_in queue number → pending_in queue number ≡ units_left queue number
some_pending queue number some = grind arith

left_here : (tied : TiedQueue) (job units : ℕ) → job < length tied.queue.served → units ≤ units_left tied.queue job →
    units + units_left (with_served tied job units).queue job ≡ units_left tied.queue job
left_here tied job units within enough = grind (arith, changed_here, slice_index)

left_elsewhere : (tied : TiedQueue) (job units number : ℕ) → number ≢ job →
    units_left (with_served tied job units).queue number ≡ units_left tied.queue number
left_elsewhere tied job units number other =
    rw (changed_elsewhere tied.queue.served job number (slice_index tied.queue.served job + units) other) refl

pending_elsewhere : (tied : TiedQueue) (job units number : ℕ) → number ≢ job →
    pending_in (with_served tied job units).queue number ≡ pending_in tied.queue number
pending_elsewhere tied job units number other =
    rw (changed_elsewhere tied.queue.served job number (slice_index tied.queue.served job + units) other) refl

-- one share more gives its job its units
given_here : (shares : List JobShare) (share : JobShare) (number : ℕ) → number ≡ share.job →
    units_given (shares ++ share ∷ []) number ≡ units_given shares number + share.units
given_here shares share number is = grind (arith, eq-eqb, sum_by_push)

given_elsewhere : (shares : List JobShare) (share : JobShare) (number : ℕ) → number ≢ share.job →
    units_given (shares ++ share ∷ []) number ≡ units_given shares number
given_elsewhere shares share number other = grind (arith, ne_eqb, sum_by_push)

-- the next job is served
module _ (start now : TiedQueue) (stretch capacity room : ℕ) (shares : List JobShare)
    (progress : Progress start now stretch capacity room shares) (room_left : 1 ≤ room) (job units : ℕ)
    (known : job < length start.queue.jobs) (some : 1 ≤ units) (lesser : units ≡ min room (pending_in now.queue job))
    (first : (other : ℕ) → other < length start.queue.jobs → 1 ≤ pending_in now.queue other →
    (job ≡ other) ⊎ IsDueBefore start.queue.jobs (slice_index start.ties) job other) where
  abbrev pub share : JobShare
  share = record { stretch = stretch; job = job; units = units }

  here : units + pending_in (with_served now job units).queue job ≡ pending_in now.queue job
  here = pending_here now job units (omega (arith, known, progress.as_long)) (omega (arith, some, lesser)) (omega (arith, lesser))

  elsewhere : (number : ℕ) → number ≢ job → pending_in (with_served now job units).queue number ≡ pending_in now.queue number
  elsewhere number other = pending_elsewhere now job units number other

  no_more : (number : ℕ) → pending_in (with_served now job units).queue number ≤ pending_in now.queue number
  no_more number = grind (arith, cases_eq, elsewhere, here)

  -- a job that was served before is finished, so it is another
  pub before_it : All (λ earlier. IsDueBefore start.queue.jobs (slice_index start.ties) earlier.job job) shares
  before_it k d within = grind arith

  all_left : pending_in now.queue job ≡ units_left now.queue job
  all_left = some_pending now.queue job (omega (arith, some, lesser))

  here_left : units + units_left (with_served now job units).queue job ≡ units_left now.queue job
  here_left = left_here now job units (omega (arith, known, progress.as_long)) (omega (arith, lesser, all_left))

  few_after : length shares + 1 + unfinished_of (length start.queue.jobs) (with_served now job units).queue
      ≤ unfinished start.queue + min 1 (units_left (with_served now job units).queue job)
  few_after = omega (
    arith,
    progress.few room_left,
    some,
    here_left,
    sum_below_change (length start.queue.jobs) job (λ number. min 1 (units_left now.queue number))
        (λ number. min 1 (units_left (with_served now job units).queue number)) known
        (λ number within other. ap (λ n. min 1 n) (sym (left_elsewhere now job units number other))),
  )

  -- there is room for its share
  pub share_fits : length shares < length start.queue.jobs
  share_fits = omega (
    arith,
    progress.few room_left,
    some,
    here_left,
    sum_below_term (length start.queue.jobs) job (λ number. min 1 (units_left now.queue number)) known,
    sum_below_bound (length start.queue.jobs) 1 (λ number. min 1 (units_left start.queue number)) (λ k within. omega arith),
  )

  pub go_on : Progress start (with_served now job units) stretch capacity (room - units) (shares ++ share ∷ [])
  go_on = record {
    ties = progress.ties;
    adds = record {
      jobs = progress.adds.jobs;
      grain = progress.adds.grain;
      time = progress.adds.time;
      as_long = length-set _ _ _ ∙ progress.adds.as_long;
      served = λ number within. elim (cases_eq number job) [
        | inl is ↦ omega (
          arith,
          ap (slice_index (with_served now job units).queue.served) is,
          ap (slice_index now.queue.served) is,
          changed_here now.queue.served job (slice_index now.queue.served job + units)
              (omega (arith, known, progress.as_long)),
          given_here shares share number is,
          progress.adds.served number within,
        )
        | inr other ↦ omega (
          arith,
          changed_elsewhere now.queue.served job number (slice_index now.queue.served job + units) other,
          given_elsewhere shares share number other,
          progress.adds.served number within,
        )
      ];
    };
    as_long = length-set _ _ _ ∙ progress.as_long;
    in_stretch = All-push (λ s. s.stretch ≡ stretch) shares share progress.in_stretch refl;
    known = All-push (λ s. s.job < length start.queue.jobs) shares share progress.known known;
    some = All-push (λ s. 1 ≤ s.units) shares share progress.some some;
    in_order = AllPairs-append (λ one other. IsDueBefore start.queue.jobs (slice_index start.ties) one.job other.job) shares
        (share ∷ []) progress.in_order (λ i j d order within. absurd (omega arith))
        (λ k d within. All-get_or (λ s. All (λ earlier. IsDueBefore start.queue.jobs (slice_index start.ties) earlier.job s.job) shares)
        (share ∷ []) k d within (All-cons (λ s. All (λ earlier. IsDueBefore start.queue.jobs (slice_index start.ties) earlier.job s.job) shares)
        share [] before_it (All-nil _)));
    given = λ number within. elim (cases_eq number job) [
      | inl is ↦ omega (
        arith,
        given_here shares share number is,
        progress.given number within,
        here,
        ap (pending_in (with_served now job units).queue) is,
        ap (pending_in now.queue) is,
      )
      | inr other ↦ omega (
        arith,
        given_elsewhere shares share number other,
        progress.given number within,
        elsewhere number other,
      )
    ];
    total = omega (arith, progress.total, lesser, sum_by_push (λ (s : JobShare). s.units) shares share);
    finished = λ more. All-push (λ s. pending_in (with_served now job units).queue s.job < 1) shares share
        (λ k d within. omega (arith, no_more (get_or shares k d).job, progress.finished room_left k d within))
        (omega (arith, more, lesser, here));
    earliest = λ number within pending. All-push
        (λ s. (s.job ≡ number) ⊎ IsDueBefore start.queue.jobs (slice_index start.ties) s.job number) shares share
        (progress.earliest number within (omega (arith, no_more number, pending)))
        (first number within (omega (arith, no_more number, pending)));
    few = λ more. omega (arith, more, lesser, all_left, here_left, few_after, length-append shares (share ∷ []));
    finishing = omega (arith, few_after, length-append shares (share ∷ []));
  }

-- the same by what the step ensures
module _ {start now new : TiedQueue} {stretch capacity room : ℕ} {shares : List JobShare}
    (progress : Progress start now stretch capacity room shares) (room_left : 1 ≤ room) {job units : ℕ}
    (serves : ServesFirst now new room job units) where
  known_there : job < length start.queue.jobs
  known_there = omega (arith, serves.known, ap (λ (jobs : List Job). length jobs) progress.adds.jobs)

  first_there : (other : ℕ) → other < length start.queue.jobs → 1 ≤ pending_in now.queue other →
      (job ≡ other) ⊎ IsDueBefore start.queue.jobs (slice_index start.ties) job other
  first_there other within pending = grind arith

  pub next_fits : length shares < length start.queue.jobs
  next_fits = share_fits start now stretch capacity room shares progress room_left job units known_there serves.some serves.lesser first_there

  pub next : Progress start new stretch capacity (room - units) (shares ++ record { stretch = stretch; job = job; units = units } ∷ [])
  next = subst (λ after. Progress start after stretch capacity (room - units) (shares ++ record { stretch = stretch; job = job; units = units } ∷ []))
      (sym serves.after)
      (go_on start now stretch capacity room shares progress room_left job units known_there serves.some serves.lesser
      first_there)

-- in the end the stretch has been served: no room is left, or no units are pending
pub end : (start now : TiedQueue) (stretch capacity room : ℕ) (shares : List JobShare) →
    Progress start now stretch capacity room shares → (room < 1) ⊎ (all_pending now.queue ≡ 0) →
    ServesTied start now stretch capacity shares
end start now stretch capacity room shares progress over =
    let given = sum_by_grouped (length start.queue.jobs) (λ (s : JobShare). s.job) (λ s. s.units) shares progress.known in
    let sums = sum_below-add (length start.queue.jobs) (units_given shares) (pending_in now.queue)
    in
    let wanted = sum_below_same (length start.queue.jobs)
    (λ number. units_given shares number + pending_in now.queue number) (pending_in start.queue) progress.given in
    record {
      serving = record {
        known = progress.known;
        some = progress.some;
        in_order = progress.in_order;
        within = λ number within. omega (arith, progress.given number within);
        total = elim over [
          | inl none ↦ omega (arith, none, progress.total, given, sums, wanted)
          | inr idle ↦ omega (arith, rw (ap (λ (jobs : List Job). length jobs) progress.adds.jobs) at idle, progress.total, given, sums, wanted)
        ];
        earliest = λ number within less. progress.earliest number within (omega (arith, less, progress.given number within));
      };
      in_stretch = progress.in_stretch;
      finishing = omega (
        arith,
        progress.finishing,
        ap (λ (jobs : List Job). unfinished_of (length jobs) now.queue) progress.adds.jobs,
      );
      ties = progress.ties;
      adds = progress.adds;
    }

-- where each job's tie is its number, jobs of the same deadline are served in order of their numbers
before_by_number : (jobs : List Job) (ties : List ℕ) (one other : ℕ) → slice_index ties one ≡ one → slice_index ties other ≡ other →
    IsDueBefore jobs (slice_index ties) one other → IsDueBefore jobs (λ number. number) one other
before_by_number jobs ties one other first second (inl less) = inl less
before_by_number jobs ties one other first second (inr (same, less)) = inr (same, omega (arith, first, second, less))

pub by_number : (old new : TiedQueue) (stretch capacity : ℕ) (shares : List JobShare) →
    ((number : ℕ) → number < length old.queue.jobs → slice_index old.ties number ≡ number) →
    ServesTied old new stretch capacity shares → Serves old.queue new.queue stretch capacity shares
by_number old new stretch capacity shares numbers serves =
    let known = serves.serving.known in
    record {
      serving = record {
        known = known;
        some = serves.serving.some;
        in_order = λ i j d order within.
            before_by_number old.queue.jobs old.ties (get_or shares i d).job (get_or shares j d).job
            (numbers (get_or shares i d).job (known i d (omega (arith, order, within))))
            (numbers (get_or shares j d).job (known j d within)) (serves.serving.in_order i j d order within);
        within = serves.serving.within;
        total = serves.serving.total;
        earliest = λ number there less k d within. elim (serves.serving.earliest number there less k d within) [
          | inl is ↦ inl is
          | inr before ↦ inr (before_by_number old.queue.jobs old.ties (get_or shares k d).job number
              (numbers (get_or shares k d).job (known k d within)) (numbers number there) before)
        ];
      };
      in_stretch = serves.in_stretch;
      finishing = serves.finishing;
      adds = serves.adds;
    }

-- no share is of more units than the greatest work has
pub works : (old new : TiedQueue) (stretch capacity : ℕ) (shares : List JobShare) → IsTiedQueue old →
    ServesTied old new stretch capacity shares → All (λ share. share.units ≤ MAX_WORK * old.queue.grain) shares
works old new stretch capacity shares kept serves = grind (arith, mul-le-mul_right, pending_wanted, share_given)
