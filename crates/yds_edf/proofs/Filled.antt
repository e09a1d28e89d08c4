-- Filling stretches one by one: what has been filled so far, and that in the end all is.
use Rattle.yds_model.proofs.Common.{◌≡◌, ℕ, suc, ◌+◌, ◌-◌, ◌<◌, ◌≤◌, min, List, [], ◌++◌, length, get_or, slice_index, ◌∙◌, refl, sym, subst, arith, inl, inr, ap, cond, add-one, ◌==◌, nat_le, All, AllPairs, Contains, Some, All-nil, All-append, All-contains, Contains-get_or, sum_by-append, get_or-replicate, length-append, cases_eq, eq-eqb, Each, Job, IsJob, job_at, Piece, PiecesFrom, AllPairs-append, contains_filter}
use Rattle.yds_timetable.specs.Shares.{JobShare, units_given, shares_in}
use Rattle.yds_edf.specs.Pending.{units_wanted, pending_of_job}
use Rattle.yds_edf.specs.Serving.{IsServing}
use Rattle.yds_events.specs.Stretch.{nth_stretch}
use Rattle.yds_edf.specs.Demand.{capacity_at, IsWithinCapacity, AreUncut}
use Rattle.yds_edf.specs.Filled.{pending_at_start, IsFilled}
use Rattle.yds_edf.specs.Queue.{JobQueue, new_queue, IsNoEarlier, pending_in, units_left, unfinished}
use Rattle.yds_edf.specs.Engine.{TiedQueue, ServesTied}
use Rattle.model_lemmas.proofs.SumsBelow.{sum_below_same, sum_below_bound}
use Rattle.yds_edf.proofs.AddedShares.{in_added, before_added, in_kept, before_kept}
use Rattle.yds_events.proofs.InOrder.{starts_rise}
use Rattle.yds_edf.proofs.Demand.{in_window, in_full}

-- serving goes by the pending units of the jobs there are
serving_same : (jobs : List Job) (tie pending other : ℕ → ℕ) (capacity : ℕ) (shares : List JobShare) →
    ((number : ℕ) → number < length jobs → pending number ≡ other number) →
    IsServing jobs tie pending capacity shares → IsServing jobs tie other capacity shares
serving_same jobs tie pending other capacity shares same serves = grind (arith, min, sum_below_same)

-- the first stretches have been filled
pub record Filling (jobs : List Job) (ties : List ℕ) (grain : ℕ) (stretches : List Piece) (capacities : List ℕ) (i : ℕ)
    (now : TiedQueue) (shares : List JobShare) : Type 0 where
  pub same_ties : now.ties ≡ ties
  pub same_jobs : now.queue.jobs ≡ jobs
  pub same_grain : now.queue.grain ≡ grain
  pub time : i < length stretches → IsNoEarlier now.queue.time (nth_stretch stretches i).from
  pub given : Each (length jobs) (λ number. slice_index now.queue.served number ≡ units_given shares number)
  pub in_order : AllPairs (λ one other. one.stretch ≤ other.stretch) shares
  pub known : All (λ share. share.stretch < i) shares
  pub serving : Each i (λ k.
      IsServing jobs (slice_index ties) (pending_at_start jobs grain stretches shares k) (capacity_at capacities k) (shares_in shares k))
  pub few : length shares + unfinished now.queue ≤ length jobs + i

pub begun : (jobs : List Job) (ties : List ℕ) (grain : ℕ) (stretches : List Piece) (capacities : List ℕ) →
    Filling jobs ties grain stretches capacities 0 (record { queue = new_queue jobs grain; ties = ties }) []
begun jobs ties grain stretches capacities = record {
  same_ties = refl;
  same_jobs = refl;
  same_grain = refl;
  time = λ within. tt;
  given = λ number within. get_or-replicate (length jobs) number 0 0 within;
  in_order = λ i j d order within. absurd (omega arith);
  known = All-nil (λ share. share.stretch < 0);
  serving = λ k within. absurd (omega arith);
  few = omega (
    arith,
    sum_below_bound (length jobs) 1 (λ number. min 1 (units_left (new_queue jobs grain) number)) (λ k within. omega arith),
  );
}

-- the next stretch is filled, once the jobs that are released by its start have arrived
pub filled_next : {jobs : List Job} {ties : List ℕ} {grain : ℕ} {stretches : List Piece} {capacities : List ℕ} {i : ℕ}
    {now new : TiedQueue} {shares part : List JobShare} → PiecesFrom 0 stretches → i < length stretches →
    Filling jobs ties grain stretches capacities i now shares →
    ServesTied (record { queue = record now.queue { time = Some (nth_stretch stretches i).from }; ties = now.ties }) new i
    (capacity_at capacities i) part →
    Filling jobs ties grain stretches capacities (suc i) new (shares ++ part)
filled_next {jobs = jobs} {ties = ties} {grain = grain} {stretches = stretches} {capacities = capacities} {i = i} {now = now}
    {new = new} {shares = shares} {part = part} order within filling serves =
    let start : ℕ = (nth_stretch stretches i).from in
    let queue : List Job → ℕ → JobQueue = λ js g. record { jobs = js; grain = g; time = Some start; served = now.queue.served } in
    let here : IsServing jobs (slice_index ties) (pending_in (queue jobs grain)) (capacity_at capacities i) part =
    subst (λ js. IsServing js (slice_index ties) (pending_in (queue js grain)) (capacity_at capacities i) part) filling.same_jobs
    (subst (λ g. IsServing now.queue.jobs (slice_index ties) (pending_in (queue now.queue.jobs g)) (capacity_at capacities i) part)
    filling.same_grain
    (subst (λ ts. IsServing now.queue.jobs (slice_index ts) (pending_in (queue now.queue.jobs now.queue.grain)) (capacity_at capacities i) part)
    filling.same_ties serves.serving)) in
    record {
      same_ties = serves.ties ∙ filling.same_ties;
      same_jobs = serves.adds.jobs ∙ filling.same_jobs;
      same_grain = serves.adds.grain ∙ filling.same_grain;
      time = λ there. rw serves.adds.time (starts_rise i (suc i) stretches order (omega arith) there);
      given = λ number there. omega (
        arith,
        serves.adds.served number (omega (arith, there, ap (λ (js : List Job). length js) filling.same_jobs)),
        filling.given number there,
        sum_by-append (λ (share : JobShare). cond (number == share.job) share.units 0) shares part,
      );
      in_order = AllPairs-append (λ one other. one.stretch ≤ other.stretch) shares part filling.in_order
          (λ a b d less below. omega (arith, serves.in_stretch a d (omega (arith, less, below)), serves.in_stretch b d below))
          (λ k d below a e there. omega (arith, serves.in_stretch k d below, filling.known a e there));
      known = All-append (λ share. share.stretch < suc i) shares part
          (λ k d below. omega (arith, filling.known k d below))
          (λ k d below. omega (arith, serves.in_stretch k d below));
      serving = λ k below. elim (cases_eq k i) [
        | inl same ↦ subst (λ at. IsServing jobs (slice_index ties) (pending_at_start jobs grain stretches (shares ++ part) at)
            (capacity_at capacities at) (shares_in (shares ++ part) at)) (sym same)
            (subst (λ (xs : List JobShare). IsServing jobs (slice_index ties) (pending_at_start jobs grain stretches (shares ++ part) i)
            (capacity_at capacities i) xs) (sym (in_added shares part i filling.known serves.in_stretch))
            (serving_same jobs (slice_index ties) (pending_in (queue jobs grain)) (pending_at_start jobs grain stretches (shares ++ part) i)
            (capacity_at capacities i) part
            (λ number there. ap (λ n. cond (nat_le (job_at jobs number).release start) (units_wanted jobs grain number - n) 0)
            (filling.given number there ∙ ap (λ (xs : List JobShare). units_given xs number)
            (sym (before_added shares part i filling.known serves.in_stretch)))) here))
        | inr other ↦
            let less : k < i = omega (arith, below, other) in
            subst (λ (xs : List JobShare). IsServing jobs (slice_index ties) (pending_at_start jobs grain stretches (shares ++ part) k)
            (capacity_at capacities k) xs) (sym (in_kept shares part i filling.known serves.in_stretch k less))
            (serving_same jobs (slice_index ties) (pending_at_start jobs grain stretches shares k)
            (pending_at_start jobs grain stretches (shares ++ part) k) (capacity_at capacities k) (shares_in shares k)
            (λ number there. ap (λ (xs : List JobShare). pending_of_job jobs grain (Some (nth_stretch stretches k).from) (units_given xs) number)
            (sym (before_kept shares part i filling.known serves.in_stretch k less))) (filling.serving k less))
      ];
      few = omega (arith, filling.few, serves.finishing, length-append shares part);
    }

-- the same by what the calls ensure
pub filled_after : {jobs : List Job} {ties : List ℕ} {grain : ℕ} {stretches : List Piece} {capacities : List ℕ} {i : ℕ}
    {now new : TiedQueue} {shares part joined : List JobShare} → PiecesFrom 0 stretches → i < length stretches →
    Filling jobs ties grain stretches capacities i now shares → (from : ℕ) → from ≡ (nth_stretch stretches i).from →
    (started : TiedQueue) → started ≡ record { queue = record now.queue { time = Some from }; ties = now.ties } →
    ServesTied started new i (capacity_at capacities i) part → joined ≡ shares ++ part →
    Filling jobs ties grain stretches capacities (i + 1) new joined
filled_after {stretches = stretches} {capacities = capacities} {i = i} {now = now} {new = new} {part = part}
    order within filling from at started is serves joins =
    rw (add-one, joins) (filled_next order within filling
    (subst (λ (start : TiedQueue). ServesTied start new i (capacity_at capacities i) part)
    (is ∙ ap (λ (t : ℕ). record { queue = record now.queue { time = Some t }; ties = now.ties }) at) serves))

-- a share stands among those of its stretch
pub stands_in : (shares : List JobShare) (share : JobShare) → Contains shares share → Contains (shares_in shares share.stretch) share
stands_in shares share there =
    contains_filter (λ other. share.stretch == other.stretch) shares share (eq-eqb share.stretch share.stretch refl) there

-- once all stretches are filled, every job has been served in time
pub all_filled : {jobs : List Job} {ties : List ℕ} {grain : ℕ} {stretches : List Piece} {capacities : List ℕ} {now : TiedQueue}
    {shares : List JobShare} → All IsJob jobs → PiecesFrom 0 stretches → AreUncut jobs stretches →
    IsWithinCapacity jobs grain stretches capacities →
    Filling jobs ties grain stretches capacities (length stretches) now shares →
    IsFilled jobs ties grain stretches capacities shares
all_filled {jobs = jobs} {ties = ties} {grain = grain} {stretches = stretches} {capacities = capacities} {shares = shares}
    are order uncut enough filling = record {
      in_order = filling.in_order;
      known = filling.known;
      serving = filling.serving;
      in_time = λ k d within.
          let share = get_or shares k d in
          let here = filling.known k d within in
          let window = All-contains
          (λ s. ((job_at jobs s.job).release ≤ (nth_stretch stretches share.stretch).from)
          × ((nth_stretch stretches share.stretch).to ≤ (job_at jobs s.job).deadline))
          (shares_in shares share.stretch) share
          (λ j e below. in_window jobs (slice_index ties) grain stretches capacities shares are order uncut enough filling.serving
          share.stretch j e here below)
          (stands_in shares share (Contains-get_or shares k d within)) in
          record { released = window.0; due = window.1 };
      few = omega (arith, filling.few);
      served = in_full jobs (slice_index ties) grain stretches capacities shares are order uncut enough filling.serving filling.known;
    }
