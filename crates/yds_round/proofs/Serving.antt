-- How far a stretch is served.
use Rattle.yds_model.proofs.Common.{◌≡◌, ℕ, ◌+◌, ◌*◌, ◌<◌, ◌≤◌, List, [], ◌∷◌, ◌++◌, length, get_or, take, refl, sym, ap, ap₂, ◌∙◌, arith, subst, append_assoc, ◌^◌, All, take_more, length-append, length-take, sum_by_push, sum_by_more_le, mul-le-mul, WrittenSlot, Piece}
use Rattle.base.specs.declared.limits.TheConstants.{MAX_SLOTS, MAX_SLOT_WORK}
use Rattle.yds_slots.specs.Schedule.{WrittenSchedule}
use Rattle.yds_events.specs.Stretch.{IsStretch}
use Rattle.yds_timetable.specs.Shares.{JobShare, total_units}
use Rattle.yds_round.specs.declared.split.Split.{Split}
use Rattle.yds_round.specs.declared.cut.Cut.{Cut}
use Rattle.yds_round.specs.declared.cut.Reached.{Reached}
use Rattle.yds_round.specs.Split.{IsSplit}
use Rattle.yds_round.specs.Written.{all_units, fast_course, slow_course, slot_between, cut_slots, FitsJob}
use Rattle.yds_round.specs.Cut.{IsReached, CanServe}
use Rattle.yds_round.proofs.Cuts.{cut_push, few_cut, cut_over, fits_more, over_between, WorksOver}

-- these shares have been served
pub record IsServed (cut : Cut) (before : WrittenSchedule) (shares : List JobShare) (reached : Reached) (rounded : WrittenSchedule) : Type 0 where
  pub times : IsReached cut reached
  pub units : reached.units ≡ total_units shares
  pub written : rounded ≡ record { jobs = before.jobs; slots = before.slots ++ cut_slots cut.split cut.stretch shares }

-- the level's work in a stretch fits
pub all_fit : (split : Split) (stretch : Piece) → IsSplit split → IsStretch stretch → all_units split stretch < 2 ^ 64
all_fit split stretch kept lasts = grind (arith, mul-le-mul)

-- there is room for two slots more
pub room_for : (split : Split) (stretch : Piece) (before : List WrittenSlot) (shares : List JobShare) (k : ℕ) → k < length shares →
    length before + 2 * length shares ≤ MAX_SLOTS → length (before ++ cut_slots split stretch (take k shares)) + 2 ≤ MAX_SLOTS
room_for split stretch before shares k within room = grind (arith, few_cut, length-append, length-take)

-- four lists, joined
joined : {X : Type 0} (old made fast slow : List X) → ((old ++ made) ++ fast) ++ slow ≡ old ++ ((made ++ fast) ++ slow)
joined old made fast slow = simp append_assoc

-- the share that is read
module _ (shares : List JobShare) (k : ℕ) (share default : JobShare) (within : k < length shares) (is : share ≡ get_or shares k default) where
  taken : take (k + 1) shares ≡ take k shares ++ share ∷ []
  taken = take_more shares k default within ∙ ap (λ (s : JobShare). take k shares ++ s ∷ []) (sym is)

  -- its units and those before it are no more than the whole
  pub step_within : (done : ℕ) → done ≡ total_units (take k shares) → done + share.units ≤ total_units shares
  step_within done sum = grind (arith, sum_by_more_le)

  units_taken : (done : ℕ) → done ≡ total_units (take k shares) → done + share.units ≡ total_units (take (k + 1) shares)
  units_taken done sum = rw taken (omega (arith, sum, sum_by_push (λ (s : JobShare). s.units) (take k shares) share))

  -- it is of a job that is known, and fits what is written
  module _ (split : Split) (stretch : Piece) (jobs : ℕ) (before : List WrittenSlot) (fits : CanServe split stretch jobs before shares) where
    pub few_served : share.units ≤ split.den * MAX_SLOT_WORK
    few_served = omega (arith, fits.works k default within, ap (λ (s : JobShare). s.units) is)

    pub known_served : (rounded : WrittenSchedule) → rounded.jobs ≡ jobs → share.job < rounded.jobs
    known_served rounded same = omega (arith, fits.known k default within, ap (λ (s : JobShare). s.job) is, same)

    pub fits_served : (rounded : WrittenSchedule) → rounded.slots ≡ before ++ cut_slots split stretch (take k shares) → FitsJob (split.den * split.gap) rounded.slots share.job
    fits_served rounded same =
        rw same (fits_more (split.den * split.gap) before (cut_slots split stretch (take k shares)) share.job
        (subst (λ (s : JobShare). FitsJob (split.den * split.gap) before s.job) (sym is) (fits.grains k default within)) (cut_over split stretch (take k shares)))

    pub fits_middle : (rounded middle : WrittenSchedule) (fast : List WrittenSlot) (from to : ℕ) → rounded.slots ≡ before ++ cut_slots split stretch (take k shares) →
        fast ≡ slot_between (fast_course split stretch) stretch share.job from to → middle.slots ≡ rounded.slots ++ fast → FitsJob (split.den * split.gap) middle.slots share.job
    fits_middle rounded middle fast from to same is_fast more =
        rw more (fits_more (split.den * split.gap) rounded.slots fast share.job (fits_served rounded same)
        (subst (λ (xs : List WrittenSlot). All (WorksOver (split.den * split.gap)) xs) (sym is_fast) (over_between (fast_course split stretch) stretch share.job from to)))

  -- one share more
  pub served_more : (cut : Cut) (before : WrittenSchedule) (reached next : Reached) (rounded middle after : WrittenSchedule) (fast slow : List WrittenSlot) →
      IsServed cut before (take k shares) reached rounded → IsReached cut next → next.units ≡ reached.units + share.units →
      fast ≡ slot_between (fast_course cut.split cut.stretch) cut.stretch share.job reached.units next.units →
      slow ≡ slot_between (slow_course cut.split cut.stretch) cut.stretch share.job reached.units next.units →
      middle ≡ record { jobs = rounded.jobs; slots = rounded.slots ++ fast } → after ≡ record { jobs = middle.jobs; slots = middle.slots ++ slow } →
      IsServed cut before (take (k + 1) shares) next after
  served_more cut before reached next rounded middle after fast slow served times units is_fast is_slow first second =
      let old = before.slots in
      let done = total_units (take k shares) in
      let made = cut_slots cut.split cut.stretch (take k shares) in
      let next_is : next.units ≡ done + share.units = units ∙ ap (λ n. n + share.units) served.units in
      let fast_is : fast ≡ slot_between (fast_course cut.split cut.stretch) cut.stretch share.job done (done + share.units) =
      is_fast ∙ ap₂ (λ from to. slot_between (fast_course cut.split cut.stretch) cut.stretch share.job from to) served.units next_is in
      let slow_is : slow ≡ slot_between (slow_course cut.split cut.stretch) cut.stretch share.job done (done + share.units) =
      is_slow ∙ ap₂ (λ from to. slot_between (slow_course cut.split cut.stretch) cut.stretch share.job from to) served.units next_is in
      let list : ((old ++ made) ++ fast) ++ slow ≡ old ++ cut_slots cut.split cut.stretch (take k shares ++ share ∷ []) =
      joined old made fast slow ∙ ap (λ xs. old ++ xs) (ap₂ (λ f s. (made ++ f) ++ s) fast_is slow_is ∙ sym (cut_push cut.split cut.stretch (take k shares) share)) in
      record {
        times = times;
        units = units ∙ units_taken reached.units served.units;
        written = rw (taken, ← list) (rw (second, first, served.written) refl);
      }
