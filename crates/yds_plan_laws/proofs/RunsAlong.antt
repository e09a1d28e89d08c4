-- Two runs of a policy go along with each other. What a stretch serves depends on the slots that have ended by its start. So behind slots that
-- both runs have, both serve the same in the next stretch in which one of them runs, and fill it at the same speed.
use Rattle.yds_model.proofs.Common.{◌≡◌, ℕ, zero, suc, ◌-◌, ◌*◌, ◌<◌, ◌≤◌, List, [], ◌∷◌, ◌++◌, length, get_or, filter, refl, sym, ap, subst, ◌∙◌, arith, inl, inr, Bool, true, ◌&&◌, nat_le, All, Any, Contains, All-nil, All-cons, All-contains, cases_lt, cases_Bool, le-leb, lt-leb, filter-append, filter_none, contains_filter, get_or-append_seam, length-append, append-nil, mul-le-mul_right, mul-pos, eq_of_mul-eq-mul_right, Job, WholeSlot, RunFrom, Piece, LiesIn, stretches, stretch_at, slots_in, FillsAtSpeed, ServesCapacity}
use Rattle.fraction_lemmas.proofs.Fractions.{factors}
use Rattle.yds_events.specs.Stretch.{no_stretch}
use Rattle.yds_events.proofs.Neighbours.{stretch_order, stretch_starts_rise}
use Rattle.yds_laws.proofs.ExactRates.{stretch_of_slot}
use Rattle.yds_plan_laws.proofs.Running.{RunsAt}
use Rattle.yds_plan_laws.proofs.OneSchedule.{GoesAlong, HasSpeedOf, IsRest, runs_behind, runs_from, stretch_same}

-- # A stretch that is filled

-- at each time of it something runs,
fills_run : (capacity per from to time : ℕ) (slots : List WholeSlot) → FillsAtSpeed capacity per from to slots → from ≤ time → time < to → Any (RunsAt time) slots
fills_run capacity per from to time [] fills begin end = absurd (omega (arith, fills, begin, end))
fills_run capacity per from to time (slot ∷ slots) fills begin end = elim (cases_lt time slot.to) [
  | inl now ↦ (0, slot, omega arith, refl, (omega (arith, fills.0, begin), now))
  | inr later ↦
      let rest = fills_run capacity per slot.to to time slots fills.2 later end in (suc rest.0, rest.1, omega (arith, rest.2), rest.3, rest.4)
]

-- and each slot has the speed
pub fills_speed : (capacity per from to : ℕ) (slots : List WholeSlot) → FillsAtSpeed capacity per from to slots → All (λ slot. slot.work * per ≡ capacity * (slot.to - slot.from)) slots
fills_speed capacity per from to [] fills = All-nil (λ slot. slot.work * per ≡ capacity * (slot.to - slot.from))
fills_speed capacity per from to (slot ∷ slots) fills =
    All-cons (λ one. one.work * per ≡ capacity * (one.to - one.from)) slot slots fills.1 (fills_speed capacity per slot.to to slots fills.2)

-- of a slot and others it is the slot, or one of those that stand for the others
kept_behind : (P : WholeSlot → Type 0) (slot : WholeSlot) (kept slots : List WholeSlot) → (Any P kept → Any P slots) → Any P (slot ∷ kept) → Any P (slot ∷ slots)
kept_behind P slot kept slots stand (zero, one, within, is, holds) = (0, one, omega arith, is, holds)
kept_behind P slot kept slots stand (suc k, one, within, is, holds) =
    let found = stand (k, one, omega (arith, within), is, holds) in (suc found.0, found.1, omega (arith, found.2), found.3, found.4)

-- so what runs among some of the slots runs
any_kept : (P : WholeSlot → Type 0) (p : WholeSlot → Bool) (slots : List WholeSlot) → Any P (filter p slots) → Any P slots
any_kept P p [] some = some
any_kept P p (slot ∷ slots) some = elim (cases_Bool (p slot)) [
  | inl passes ↦ kept_behind P slot (filter p slots) slots (λ kept. any_kept P p slots kept) (rw passes at some)
  | inr fails ↦
      let found = any_kept P p slots (rw fails at some) in (suc found.0, found.1, omega (arith, found.2), found.3, found.4)
]

-- # What a stretch serves

-- those that have ended by a time
abbrev pub ended_by : ℕ → List WholeSlot → List WholeSlot
ended_by time slots = filter (λ slot. nat_le slot.to time) slots

-- later ones are none of them
later_ends : (end time : ℕ) (slot : WholeSlot) (slots : List WholeSlot) → RunFrom end (slot ∷ slots) → time < slot.to → All (λ one. time < one.to) (slot ∷ slots)
later_ends end time slot [] run later = All-cons (λ one. time < one.to) slot [] later (All-nil (λ one. time < one.to))
later_ends end time slot (next ∷ slots) run later =
    All-cons (λ one. time < one.to) slot (next ∷ slots) later (later_ends slot.to time next slots run.2 (omega (arith, later, run.2.0, run.2.1)))

-- so those that have ended are among the slots before them
ended_before : (before slots : List WholeSlot) (time : ℕ) → All (λ one. time < one.to) slots → ended_by time (before ++ slots) ≡ ended_by time before
ended_before before slots time later =
    filter-append (λ slot. nat_le slot.to time) before slots
    ∙ ap (λ (some : List WholeSlot). ended_by time before ++ some) (filter_none (λ slot. nat_le slot.to time) slots (λ k d within. lt-leb (get_or slots k d).to time (later k d within)))
    ∙ append-nil (ended_by time before)

-- a slot that lies in the stretch is one of those that it has
slot_in : (scale : ℕ) (stretch : Piece) (slot : WholeSlot) (all : List WholeSlot) → LiesIn scale slot stretch → Contains all slot → Contains (slots_in scale stretch all) slot
slot_in scale stretch slot all lies has =
    contains_filter (λ one. nat_le (stretch.from * scale) one.from && nat_le one.to (stretch.to * scale)) all slot (passes scale stretch slot lies) has
  where
    -- it passes the test
    passes : (scale : ℕ) (stretch : Piece) (slot : WholeSlot) → LiesIn scale slot stretch → (nat_le (stretch.from * scale) slot.from && nat_le slot.to (stretch.to * scale)) ≡ true
    passes scale stretch slot lies = rw (le-leb (stretch.from * scale) slot.from lies.from, le-leb slot.to (stretch.to * scale) lies.to) refl

module _ (grid scale : ℕ) (stretch : Piece) (all : List WholeSlot) where
  -- a stretch that has a slot serves something,
  pub serves_some : (capacity : ℕ) (slot : WholeSlot) → ServesCapacity grid scale capacity stretch all → Contains all slot → LiesIn scale slot stretch → 1 ≤ capacity
  serves_some zero slot serves has lies =
      let none = subst (λ (some : List WholeSlot). Contains some slot) serves (slot_in scale stretch slot all lies has) in absurd (omega (arith, none.1))
  serves_some (suc capacity) slot serves has lies = omega arith

  -- in all of its time,
  serves_run : (capacity time : ℕ) → ServesCapacity grid scale capacity stretch all → 1 ≤ capacity → stretch.from * scale ≤ time → time < stretch.to * scale → Any (RunsAt time) all
  serves_run zero time serves some from to = absurd (omega (arith, some))
  serves_run (suc capacity) time serves some from to =
      any_kept (RunsAt time) (λ one. nat_le (stretch.from * scale) one.from && nat_le one.to (stretch.to * scale)) all
      (fills_run (suc capacity) (grid * (stretch.to - stretch.from) * scale) (stretch.from * scale) (stretch.to * scale) time (slots_in scale stretch all) serves from to)

  -- each slot at one speed
  pub serves_speed : (capacity : ℕ) (slot : WholeSlot) → ServesCapacity grid scale capacity stretch all → Contains all slot → LiesIn scale slot stretch →
      slot.work * (grid * (stretch.to - stretch.from) * scale) ≡ capacity * (slot.to - slot.from)
  serves_speed zero slot serves has lies = absurd (omega (arith, serves_some zero slot serves has lies))
  serves_speed (suc capacity) slot serves has lies =
      All-contains (λ one. one.work * (grid * (stretch.to - stretch.from) * scale) ≡ suc capacity * (one.to - one.from)) (slots_in scale stretch all) slot
      (fills_speed (suc capacity) (grid * (stretch.to - stretch.from) * scale) (stretch.from * scale) (stretch.to * scale) (slots_in scale stretch all) serves)
      (slot_in scale stretch slot all lies has)

-- works in one proportion to their times are so to one another
one_proportion : (work time other long per capacity : ℕ) → 1 ≤ capacity → 1 ≤ time → work * per ≡ capacity * time → other * per ≡ capacity * long → work * long ≡ other * time
one_proportion work time other long per capacity some takes first second =
    let positive : 1 ≤ per = (factors work per (capacity * time) first (mul-pos some takes)).1 in
    eq_of_mul-eq-mul_right per positive (work * long) (other * time) (omega (arith, ap (λ n. n * long) first, ap (λ n. n * time) second))

-- # Two runs

module _ (jobs : List Job) (grid scale : ℕ) (capacity : List WholeSlot → Piece → ℕ)
    (local : (all same : List WholeSlot) (stretch : Piece) → ended_by (stretch.from * scale) all ≡ ended_by (stretch.from * scale) same → capacity all stretch ≡ capacity same stretch) where
  -- each stretch serves so much
  abbrev pub Serves : List WholeSlot → Type 0
  Serves all = All (λ stretch. ServesCapacity grid scale (capacity all stretch) stretch all) (stretches jobs)

  -- a slot behind others is one of all
  behind_has : (all before slots : List WholeSlot) (slot : WholeSlot) → all ≡ before ++ slot ∷ slots → Contains all slot
  behind_has all before slots slot is =
      subst (λ (some : List WholeSlot). Contains some slot) (sym is) (length before, omega (arith, length-append before (slot ∷ slots)), get_or-append_seam before slot slots slot)

  -- behind the same slots, where all others end after the start of a stretch, both serve the same there
  serve_same : (all same before slots others : List WholeSlot) (k : ℕ) → all ≡ before ++ slots → same ≡ before ++ others →
      All (λ one. (stretch_at jobs k).from * scale < one.to) slots → All (λ one. (stretch_at jobs k).from * scale < one.to) others →
      capacity all (stretch_at jobs k) ≡ capacity same (stretch_at jobs k)
  serve_same all same before slots others k is also late later =
      local all same (stretch_at jobs k)
      (ap (λ (some : List WholeSlot). ended_by ((stretch_at jobs k).from * scale) some) is ∙ ended_before before slots ((stretch_at jobs k).from * scale) late
      ∙ sym (ended_before before others ((stretch_at jobs k).from * scale) later) ∙ sym (ap (λ (some : List WholeSlot). ended_by ((stretch_at jobs k).from * scale) some) also))

  -- while the first run's next slot runs the second run does, where both serve the same in its stretch
  runs_there : (all same before slots others : List WholeSlot) (slot : WholeSlot) (end k time : ℕ) → Serves all → Serves same → IsRest jobs scale before end (slot ∷ slots) →
      IsRest jobs scale before end others → all ≡ before ++ slot ∷ slots → same ≡ before ++ others → k < length (stretches jobs) → LiesIn scale slot (stretch_at jobs k) →
      capacity all (stretch_at jobs k) ≡ capacity same (stretch_at jobs k) → slot.from ≤ time → time < slot.to → Any (RunsAt time) others
  runs_there all same before slots others slot end k time serves also left next is is_other within lies equal from to =
      let some = serves_some grid scale (stretch_at jobs k) all (capacity all (stretch_at jobs k)) slot (serves k no_stretch within) (behind_has all before slots slot is) lies in
      runs_behind before others end time next.ended (omega (arith, left.run.0, from))
      (subst (λ (all : List WholeSlot). Any (RunsAt time) all) is_other
      (serves_run grid scale (stretch_at jobs k) same (capacity same (stretch_at jobs k)) time (also k no_stretch within) (omega (arith, some, equal)) (omega (arith, lies.from, from))
      (omega (arith, lies.to, to))))

  -- so it does in any case
  runs_along : (all same before slots others : List WholeSlot) (slot : WholeSlot) (end time : ℕ) → Serves all → Serves same → IsRest jobs scale before end (slot ∷ slots) →
      IsRest jobs scale before end others → all ≡ before ++ slot ∷ slots → same ≡ before ++ others → slot.from ≤ time → time < slot.to → Any (RunsAt time) others
  runs_along all same before slots [] slot end time serves also left next is is_other from to =
      let place = stretch_of_slot jobs scale slot (left.uncut 0 slot (omega arith)) in
      runs_there all same before slots [] slot end place.0 time serves also left next is is_other place.1 place.2
      (serve_same all same before (slot ∷ slots) [] place.0 is is_other (later_ends end ((stretch_at jobs place.0).from * scale) slot slots left.run (omega (arith, place.2.from, left.run.1)))
      (All-nil (λ one. (stretch_at jobs place.0).from * scale < one.to))) from to
  runs_along all same before slots (other ∷ others) slot end time serves also left next is is_other from to =
      let place = stretch_of_slot jobs scale slot (left.uncut 0 slot (omega arith)) in
      let there = stretch_of_slot jobs scale other (next.uncut 0 other (omega arith)) in
      elim (cases_lt there.0 place.0) [
        | inr after ↦ runs_there all same before slots (other ∷ others) slot end place.0 time serves also left next is is_other place.1 place.2
            (serve_same all same before (slot ∷ slots) (other ∷ others) place.0 is is_other
            (later_ends end ((stretch_at jobs place.0).from * scale) slot slots left.run (omega (arith, place.2.from, left.run.1)))
            (later_ends end ((stretch_at jobs place.0).from * scale) other others next.run
            (omega (arith, mul-le-mul_right scale (stretch_starts_rise jobs place.0 there.0 after there.1), there.2.from, next.run.1)))) from to
        | inl before_it ↦
            let equal = serve_same all same before (slot ∷ slots) (other ∷ others) there.0 is is_other
            (later_ends end ((stretch_at jobs there.0).from * scale) slot slots left.run
            (omega (arith, mul-le-mul_right scale (stretch_starts_rise jobs there.0 place.0 (omega (arith, before_it)) place.1), place.2.from, left.run.1)))
            (later_ends end ((stretch_at jobs there.0).from * scale) other others next.run (omega (arith, there.2.from, next.run.1))) in
            let runs = runs_there same all before others (slot ∷ slots) other end there.0 other.from also serves next left is_other is there.1 there.2 (sym equal) (omega arith) next.run.1 in
            absurd (omega (
              arith,
              runs_from end other.from slot slots left.run runs,
              mul-le-mul_right scale (stretch_order jobs there.0 place.0 before_it place.1),
              place.2.from,
              there.2.to,
              next.run.1,
            ))
      ]

  -- and slots that begin together have one speed
  speeds_along : (all same before slots others : List WholeSlot) (slot other : WholeSlot) (end : ℕ) → Serves all → Serves same → IsRest jobs scale before end (slot ∷ slots) →
      IsRest jobs scale before end (other ∷ others) → all ≡ before ++ slot ∷ slots → same ≡ before ++ other ∷ others → slot.from ≡ other.from → HasSpeedOf slot other
  speeds_along all same before slots others slot other end serves also left next is is_other begin =
      let place = stretch_of_slot jobs scale slot (left.uncut 0 slot (omega arith)) in
      let positive : 1 ≤ scale = (factors (stretch_at jobs place.0).to scale ((stretch_at jobs place.0).to * scale) refl (omega (arith, place.2.to, left.run.1))).1 in
      let lies = stretch_same jobs scale positive place.0 other place.1 (next.uncut 0 other (omega arith)) next.run.1 (omega (arith, place.2.from, begin)) (omega (arith, place.2.to, left.run.1, begin)) in
      let equal = serve_same all same before (slot ∷ slots) (other ∷ others) place.0 is is_other
      (later_ends end ((stretch_at jobs place.0).from * scale) slot slots left.run (omega (arith, place.2.from, left.run.1)))
      (later_ends end ((stretch_at jobs place.0).from * scale) other others next.run (omega (arith, lies.from, next.run.1))) in
      let stretch = stretch_at jobs place.0 in
      let has = behind_has all before slots slot is in
      one_proportion slot.work (slot.to - slot.from) other.work (other.to - other.from) (grid * (stretch.to - stretch.from) * scale) (capacity all stretch)
      (serves_some grid scale stretch all (capacity all stretch) slot (serves place.0 no_stretch place.1) has place.2) (omega (arith, left.run.1))
      (serves_speed grid scale stretch all (capacity all stretch) slot (serves place.0 no_stretch place.1) has place.2)
      (serves_speed grid scale stretch same (capacity same stretch) other (also place.0 no_stretch place.1) (behind_has same before others other is_other) lies
      ∙ ap (λ n. n * (other.to - other.from)) (sym equal))

  -- so the one goes along with the other
  pub goes_along : (all same : List WholeSlot) → Serves all → Serves same → GoesAlong jobs scale all same
  goes_along all same serves also = record {
    runs = λ before slots others slot end left next is is_other time from to. runs_along all same before slots others slot end time serves also left next is is_other from to;
    speeds = λ before slots others slot other end left next is is_other begin job. speeds_along all same before slots others slot other end serves also left next is is_other begin;
  }
