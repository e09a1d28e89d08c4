-- What is kept of threads, behind an act and behind more time.
use Rattle.base.proofs.Common.{◌≡◌, ℕ, suc, ◌+◌, ◌-◌, ◌<◌, ◌==◌, ◌&&◌, Bool, true, false, not, cond, List, [], ◌∷◌, ◌++◌, length, take, refl, sym, ap, ◌∙◌, arith, eq-eqb, ne_eqb, true≢false, or_parts, cond_both, ltb-true, ltb-false, ◌||◌, nat_lt, nat_tests, sum_by-cons, lt-ltb, add-zero, add-one, Some, fun_ext, subst}
use Rattle.std.specs.Prelude.{nat_eq}
use Rattle.std.specs.List.{list_any}
use Rattle.std.proofs.lemmas.List.Folds.{list_any-append}
use Rattle.indexmap.specs.IndexSet.{insert_key}
use Rattle.yds_kernel.specs.Parts.{capped}
use Rattle.yds_kernel.specs.Event.{Thread, Said}
use Rattle.base.specs.Numbers.{sum_below}
use Rattle.yds_trace.specs.Past.{last_time}
use Rattle.yds_trace_threads.specs.declared.limits.TheConstants.{PROCESSORS, MOST_COUNTED, MOST_NAME}
use Rattle.yds_trace_threads.specs.declared.act.Deed.{Deed}
use Rattle.yds_trace_threads.specs.declared.act.Deed.TheVariants as deeds
use Rattle.yds_trace_threads.specs.Acts.{Act, act_of, holder, had}
use Rattle.yds_trace_threads.specs.declared.act.Holder.{Holder}
use Rattle.yds_trace_threads.specs.declared.threads.Threads.{Threads}
use Rattle.yds_trace_threads.specs.Table.{processors, still}
use Rattle.yds_trace_threads.specs.Threads.{with_thread, threads_of, own, time_in, ran_in, is_coming, switches_in, is_waking, is_woken, wake_ups_in}
use Rattle.yds_trace_threads.specs.Kept.{facts_from, facts_of, facts_behind, facts_with, one_more_if, time_behind, more_for, no_more, nothing_of, Holds}
use Rattle.yds_trace_threads.proofs.Rows.{AgreeBut, turned}

-- # Numbers that stay within 64 bits

capped_sum : (number more : ℕ) → capped (number + more) ≡ capped (capped number + more)
capped_sum number more = grind (arith, nat_tests)

capped_one : (counts : Bool) (number : ℕ) → capped (cond counts (suc number) number) ≡ one_more_if counts (capped number)
capped_one true number = grind (arith, nat_tests)
capped_one false number = refl

counts_on : (counts : Bool) (number all : ℕ) → all ≡ cond counts 1 0 + number → capped all ≡ one_more_if counts (capped number)
counts_on true number all is = grind (arith, nat_tests)
counts_on false number all is = let same : all ≡ number = omega (arith, is) in ap capped same

time_on : (deed : Deed) (number all : ℕ) → all ≡ time_in deed + number → capped all ≡ time_behind deed (capped number)
time_on (deeds.Leaves time) number all is = let same : all ≡ number + time = omega (arith, is) in ap capped same ∙ capped_sum number time
time_on deeds.Comes number all is = let same : all ≡ number = omega (arith, is) in ap capped same
time_on deeds.Wakes number all is = let same : all ≡ number = omega (arith, is) in ap capped same

-- # An act

-- of the thread itself
behind_own : (pid : ℕ) (act : Act) (mine : List Act) → facts_from pid 0 (act ∷ mine) ≡ facts_behind act.thread.name act.deed (facts_from pid 0 mine)
behind_own pid act mine =
    let ran : capped (ran_in (act ∷ mine) + 0) ≡ time_behind act.deed (capped (ran_in mine + 0)) =
    time_on act.deed (ran_in mine + 0) (ran_in (act ∷ mine) + 0) (omega (arith, sum_by-cons (λ (one : Act). time_in one.deed) act mine)) in
    let woken : capped (wake_ups_in (act ∷ mine)) ≡ one_more_if (is_waking act.deed && not (is_woken mine)) (capped (wake_ups_in mine)) =
    capped_one (is_waking act.deed && not (is_woken mine)) (wake_ups_in mine) in
    let came : capped (switches_in (act ∷ mine)) ≡ one_more_if (is_coming act.deed) (capped (switches_in mine)) =
    counts_on (is_coming act.deed) (switches_in mine) (switches_in (act ∷ mine)) (sum_by-cons (λ (one : Act). cond (is_coming one.deed) 1 0) act mine) in
    λ j. record {
      pid = pid;
      name = take MOST_NAME act.thread.name;
      ran = ran j;
      wake_ups = woken j;
      switches = came j;
      woken = is_waking act.deed;
    }

pub behind_act : (act : Act) (acts : List Act)
    → facts_of (act ∷ acts) no_more act.thread.pid ≡ facts_behind act.thread.name act.deed (facts_of acts no_more act.thread.pid)
behind_act act acts =
    ap (λ (mine : Bool). facts_from act.thread.pid 0 (cond mine (act ∷ own act.thread.pid acts) (own act.thread.pid acts))) (eq-eqb act.thread.pid act.thread.pid refl)
    ∙ behind_own act.thread.pid act (own act.thread.pid acts)

-- of another one
pub behind_another : (act : Act) (acts : List Act) → AgreeBut act.thread.pid (facts_of acts no_more) (facts_of (act ∷ acts) no_more)
behind_another act acts other apart =
    ap (λ (mine : Bool). facts_from other 0 (cond mine (act ∷ own other acts) (own other acts))) apart

-- # More time

pub with_time : (acts : List Act) (more : ℕ → ℕ) (pid time : ℕ) → facts_of acts (more_for pid time more) pid ≡ facts_with time (facts_of acts more pid)
with_time acts more pid time =
    let same : ran_in (own pid acts) + (more pid + time) ≡ ran_in (own pid acts) + more pid + time = omega arith in
    let ran : capped (ran_in (own pid acts) + more_for pid time more pid) ≡ capped (capped (ran_in (own pid acts) + more pid) + time) =
    ap (λ (mine : Bool). capped (ran_in (own pid acts) + (cond mine (more pid + time) (more pid)))) (eq-eqb pid pid refl)
    ∙ ap capped same ∙ capped_sum (ran_in (own pid acts) + more pid) time in
    λ j. record (facts_of acts more pid) { ran = ran j }

pub time_of_others : (acts : List Act) (more : ℕ → ℕ) (pid time : ℕ) → AgreeBut pid (facts_of acts more) (facts_of acts (more_for pid time more))
time_of_others acts more pid time other apart =
    ap (λ (mine : Bool). facts_from other (cond mine (more other + time) (more other)) (own other acts)) apart

-- # A new thread

-- it isn't among those before, and the act wasn't its
record IsNewBehind (pid first : ℕ) (before : List ℕ) : Type 0 where
  pub few : length before < MOST_COUNTED
  pub none : list_any (nat_eq pid) before ≡ false
  pub apart : (first == pid) ≡ false

apart_from : (pid first : ℕ) (before : List ℕ) → list_any (nat_eq first) before ≡ true → list_any (nat_eq pid) before ≡ false → (first == pid) ≡ false
apart_from pid first before there none =
    ne_eqb first pid (λ same. true≢false (sym there ∙ ap (λ (number : ℕ). list_any (nat_eq number) before) same ∙ none))

new_behind : (pid first : ℕ) (before : List ℕ) → length (with_thread first before) < MOST_COUNTED → list_any (nat_eq pid) (with_thread first before) ≡ false → IsNewBehind pid first before
new_behind pid first before =
    cond_both (nat_lt (length before) MOST_COUNTED) (insert_key nat_eq before first) before
    (λ (all : List ℕ). length all < MOST_COUNTED → list_any (nat_eq pid) all ≡ false → IsNewBehind pid first before)
    (λ room. cond_both (list_any (nat_eq first) before) before (before ++ first ∷ [])
    (λ (all : List ℕ). length all < MOST_COUNTED → list_any (nat_eq pid) all ≡ false → IsNewBehind pid first before)
    (λ there few none. record { few = few; none = none; apart = apart_from pid first before there none })
    (λ new few none.
    let parts = or_parts (list_any (nat_eq pid) before) ((pid == first) || false) (sym (list_any-append (nat_eq pid) before (first ∷ [])) ∙ none) in
    record { few = ltb-true (length before) MOST_COUNTED room; none = parts.0; apart = turned pid first (or_parts (pid == first) false parts.1).0 }))
    (λ full few none. absurd (omega (arith, ltb-false (length before) MOST_COUNTED full, few)))

pub no_acts : (pid : ℕ) (acts : List Act) → length (threads_of acts) < MOST_COUNTED → list_any (nat_eq pid) (threads_of acts) ≡ false → own pid acts ≡ []
no_acts pid [] few none = refl
no_acts pid (act ∷ acts) few none =
    let new = new_behind pid act.thread.pid (threads_of acts) few none in
    ap (λ (mine : Bool). cond mine (act ∷ own pid acts) (own pid acts)) new.apart ∙ no_acts pid acts new.few new.none

pub nothing_yet : (pid : ℕ) (acts : List Act) → length (threads_of acts) < MOST_COUNTED → list_any (nat_eq pid) (threads_of acts) ≡ false
    → nothing_of pid ≡ facts_of acts no_more pid
nothing_yet pid acts few none = ap (facts_from pid 0) (sym (no_acts pid acts few none))

-- # The threads that are counted

pub with_room : (pid : ℕ) (pids : List ℕ) → length pids < MOST_COUNTED → with_thread pid pids ≡ insert_key nat_eq pids pid
with_room pid pids room = ap (λ (b : Bool). cond b (insert_key nat_eq pids pid) pids) (lt-ltb (length pids) MOST_COUNTED room)

pub with_new : (pid : ℕ) (pids : List ℕ) → length pids < MOST_COUNTED → list_any (nat_eq pid) pids ≡ false → with_thread pid pids ≡ pids ++ pid ∷ []
with_new pid pids room none = with_room pid pids room ∙ ap (λ (b : Bool). cond b pids (pids ++ pid ∷ [])) none

pub with_old : (pid : ℕ) (pids : List ℕ) → length pids < MOST_COUNTED → list_any (nat_eq pid) pids ≡ true → with_thread pid pids ≡ pids
with_old pid pids room there = with_room pid pids room ∙ ap (λ (b : Bool). cond b pids (pids ++ pid ∷ [])) there

-- # The end

choose : (b : Bool) (more time : ℕ) → cond b (more + time) more ≡ more + cond b time 0
choose true more time = refl
choose false more time = sym (add-zero more)

pub has_still : (holder : Holder) (time : ℕ) (more : ℕ → ℕ) (pid : ℕ) → more_for holder.pid (time - holder.since) more pid ≡ more pid + had pid time (Some holder)
has_still holder time more pid = choose (holder.pid == pid) (more pid) (time - holder.since)

pub processors_are : processors ≡ PROCESSORS
unfolding processors
processors_are = refl

-- the time that the holders of so many processors have had them at the end
abbrev pub still_on : List Said → ℕ → ℕ → ℕ
still_on past number pid = sum_below number (λ processor. had pid (last_time past) (holder processor past))

pub still_more : (past : List Said) (number : ℕ)
    → ◌≡◌ {A = ℕ → ℕ} (λ pid. still_on past number pid + had pid (last_time past) (holder number past)) (still_on past (number + 1))
still_more past number = fun_ext (λ pid. ap (λ (n : ℕ). still_on past n pid) (sym (add-one number)))

pub still_all : (past : List Said) (number : ℕ) → number ≡ PROCESSORS → ◌≡◌ {A = ℕ → ℕ} (still_on past number) (λ pid. still pid past)
still_all past number is = ap (λ (n : ℕ). still_on past n) (is ∙ sym processors_are)

-- # An act at the front

pub behind_front : (thread : Thread) (deed : Deed) (earlier : List Act) (threads : Threads) → (thread.pid ≡ 0 → ⊥)
    → Holds (with_thread thread.pid (threads_of earlier)) (record { thread = thread; deed = deed } ∷ earlier) no_more threads
    → Holds (threads_of (act_of thread deed ++ earlier)) (act_of thread deed ++ earlier) no_more threads
behind_front thread deed earlier threads some held =
    subst (λ (front : List Act). Holds (threads_of (front ++ earlier)) (front ++ earlier) no_more threads)
    (sym (ap (λ (idle : Bool). cond idle [] (record { thread = thread; deed = deed } ∷ [])) (ne_eqb thread.pid 0 some))) held
