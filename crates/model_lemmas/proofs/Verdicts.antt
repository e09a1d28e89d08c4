-- What the verdict 'feasible' says: that the schedule is feasible, and that each slot has a point's speed.
use Rattle.std.proofs.Common.{◌≡◌, ℕ, suc, ◌*◌, ◌<◌, ◌≤◌, List, length, ap, subst, sym, ◌∙◌, arith, Option, Some, None, add-one}
use Rattle.std.specs.Prelude.{◌↔◌}
use Rattle.std.specs.List.{All}
use Rattle.std.proofs.lemmas.List.{length-map}
use Rattle.std.proofs.lemmas.List.Elements.{All-from_get_or, All-map}
use Rattle.std.proofs.Math.Nat.{one-dvd, eq_of_mul-eq-mul_left}
use Rattle.base.specs.Numbers.{Each}
use Rattle.yds_model.specs.Job.{Job, job_at}
use Rattle.yds_model.specs.Scale.{IsAtMost}
use Rattle.yds_model.specs.Slot.{WrittenSlot, WholeSlot, IsDivided, IsScale, slot_at_scale, slots_at, work_given, no_slot, no_written_slot, written_slot_at}
use Rattle.yds_model.specs.Feasible.{IsInWindow, IsFeasibleAt, IsFeasible}
use Rattle.yds_model.specs.Table.{Point}
use Rattle.yds_model.specs.Audit.{grain_of, parts_given, IsOnTable, release_of, deadline_of, Stands, GetsItsWork, AllStand, AreSlots}
use Rattle.yds_model.specs.AuditLaws.{VerdictIsExact, TableVerdictIsExact}
use Rattle.fraction_lemmas.proofs.Fractions.{order_of_values, at_most_of_values}
use Rattle.model_lemmas.proofs.Scale.{scale_exists}
use Rattle.model_lemmas.proofs.Grain.{grain_positive, given_scaled}
use Rattle.model_lemmas.proofs.Runs.{slot_read, run_from_places, run_forward, run_after}

-- a work in parts of a grain and at a scale is the same multiple of both
given_from_parts : (grain given scale parts work : ℕ) → 1 ≤ grain → grain * given ≡ scale * parts → parts ≡ work * grain → given ≡ work * scale
given_from_parts grain given scale parts work some e f =
    eq_of_mul-eq-mul_left grain some given (work * scale) (omega (arith, e, ap (λ n. scale * n) f))

-- and back
parts_from_given : (grain given scale parts work : ℕ) → 1 ≤ scale → grain * given ≡ scale * parts → given ≡ work * scale → parts ≡ work * grain
parts_from_given grain given scale parts work some e f =
    eq_of_mul-eq-mul_left scale some parts (work * grain) (omega (arith, e, ap (λ n. grain * n) f))

-- written slots at one of their scales
module _ (jobs : List Job) (table : Option (List Point)) (slots : List WrittenSlot) (scale : ℕ) (are : AreSlots (length jobs) slots)
    (is : IsScale scale slots) where
  -- the scale is one of each slot
  divided_at : (i : ℕ) → i < length slots → IsDivided scale (written_slot_at slots i)
  divided_at i within = is.divided i no_written_slot within

  -- a slot that stands is one of a feasible schedule
  forward_at_scale : (i : ℕ) → i < length slots → Stands jobs table slots i →
      (slot_at_scale scale (written_slot_at slots i)).from < (slot_at_scale scale (written_slot_at slots i)).to
  forward_at_scale i within stands = grind (arith, divided_at, order_of_values)

  -- it begins after the one before it
  after_at_scale : (i : ℕ) → suc i < length slots → Stands jobs table slots (suc i) →
      (slot_at_scale scale (written_slot_at slots i)).to ≤ (slot_at_scale scale (written_slot_at slots (suc i))).from
  after_at_scale i within stands = grind (arith, at_most_of_values, divided_at)

  -- within its job's window
  window_at_scale : (i : ℕ) → i < length slots → Stands jobs table slots i →
      IsInWindow jobs scale (slot_at_scale scale (written_slot_at slots i))
  window_at_scale i within stands =
      let slot = written_slot_at slots i in
      let divided = divided_at i within in
      record {
        known = are.known i no_written_slot within;
        released = omega (arith, (at_most_of_values (release_of jobs slot) slot.from scale is.positive (one-dvd scale) divided.from).0 stands.released);
        due = omega (arith, (at_most_of_values slot.to (deadline_of jobs slot) scale is.positive divided.to (one-dvd scale)).0 stands.due);
      }

  -- a job that gets its work by parts of its grain gets it at the scale
  served_at_scale : (number : ℕ) → GetsItsWork jobs slots number → work_given (slots_at scale slots) number ≡ (job_at jobs number).work * scale
  served_at_scale number gets =
      given_from_parts (grain_of slots number) (work_given (slots_at scale slots) number) scale (parts_given slots number)
      (job_at jobs number).work (grain_positive slots number) (given_scaled (length jobs) scale slots number are is) gets

  -- so slots and jobs that stand are a feasible schedule
  pub stand_is_feasible : AllStand jobs table slots → IsFeasibleAt jobs scale (slots_at scale slots)
  stand_is_feasible all = record {
    one_at_a_time = run_from_places 0 (slots_at scale slots) (λ some. omega arith)
        (All-map (λ slot. slot.from < slot.to) (slot_at_scale scale) slots
        (All-from_get_or (λ slot. (slot_at_scale scale slot).from < (slot_at_scale scale slot).to) slots no_written_slot
        (λ i within. forward_at_scale i within (all.stand i within))))
        (λ i within.
        let inside : suc i < length slots = omega (arith, length-map slots (slot_at_scale scale)) in
        rw (slot_read scale slots i (omega arith), slot_read scale slots (suc i) inside)
        (after_at_scale i inside (all.stand (suc i) inside)));
    in_windows = All-map (IsInWindow jobs scale) (slot_at_scale scale) slots
        (All-from_get_or (λ slot. IsInWindow jobs scale (slot_at_scale scale slot)) slots no_written_slot
        (λ i within. window_at_scale i within (all.stand i within)));
    served = λ number known. served_at_scale number (all.served number known);
  }

  -- what holds of each slot at the scale holds of the written slot at a place
  at_place : (P : WholeSlot → Type 0) → All P (slots_at scale slots) → (i : ℕ) → i < length slots →
      P (slot_at_scale scale (written_slot_at slots i))
  at_place P all i within =
      subst P (slot_read scale slots i within) (all i no_slot (omega (arith, within, length-map slots (slot_at_scale scale))))

  -- a slot of a feasible schedule stands
  after_written : IsFeasibleAt jobs scale (slots_at scale slots) → (before : ℕ) → suc before < length slots →
      IsAtMost (written_slot_at slots before).to (written_slot_at slots (suc before)).from
  after_written feasible before within =
      let earlier : IsDivided scale (written_slot_at slots before) = divided_at before (omega arith) in
      (at_most_of_values (written_slot_at slots before).to (written_slot_at slots (suc before)).from scale is.positive earlier.to
      (divided_at (suc before) within).from).1
      (rw (slot_read scale slots before (omega arith), slot_read scale slots (suc before) within) at
      (run_after 0 (slots_at scale slots) feasible.one_at_a_time before (omega (arith, length-map slots (slot_at_scale scale)))))

  -- with a point's speed
  stands_at : IsFeasibleAt jobs scale (slots_at scale slots) → All (IsOnTable table) slots → Each (length slots) (Stands jobs table slots)
  stands_at feasible on_table i within =
      let slot = written_slot_at slots i in
      let divided = divided_at i within in
      let window = at_place (IsInWindow jobs scale) feasible.in_windows i within in
      record {
        forward = (order_of_values slot.from slot.to scale is.positive divided.from divided.to).1
            (at_place (λ one. one.from < one.to) (run_forward 0 (slots_at scale slots) feasible.one_at_a_time) i within);
        after = λ before next. subst (λ (n : ℕ). IsAtMost (written_slot_at slots before).to (written_slot_at slots n).from)
            (sym (add-one before) ∙ next) (after_written feasible before (omega arith));
        released = (at_most_of_values (release_of jobs slot) slot.from scale is.positive (one-dvd scale) divided.from).1 (omega (arith, window.released));
        due = (at_most_of_values slot.to (deadline_of jobs slot) scale is.positive divided.to (one-dvd scale)).1 (omega (arith, window.due));
        on_table = on_table i no_written_slot within;
      }

  -- so a feasible schedule on the table's points stands
  pub feasible_stand : IsFeasibleAt jobs scale (slots_at scale slots) → All (IsOnTable table) slots → AllStand jobs table slots
  feasible_stand feasible on_table = record {
    stand = stands_at feasible on_table;
    served = λ number known.
        parts_from_given (grain_of slots number) (work_given (slots_at scale slots) number) scale (parts_given slots number)
        (job_at jobs number).work is.positive (given_scaled (length jobs) scale slots number are is) (feasible.served number known);
  }

-- with a table or without, slots and jobs stand exactly where the schedule is feasible and on the table's points
all_stand_exactly : (jobs : List Job) (table : Option (List Point)) (slots : List WrittenSlot) → AreSlots (length jobs) slots →
    (AllStand jobs table slots ↔ (IsFeasible jobs slots × All (IsOnTable table) slots))
all_stand_exactly jobs table slots are = (
  λ all. (
    record { solid = are.solid; holds = λ scale is. stand_is_feasible jobs table slots scale are is all },
    All-from_get_or (IsOnTable table) slots no_written_slot (λ i within. (all.stand i within).on_table),
  ),
  λ both.
      let some = scale_exists slots are.solid in
      feasible_stand jobs table slots some.0 are some.1 (both.0.holds some.0 some.1) both.1,
)

-- with a table
pub table_verdict_is_exact : TableVerdictIsExact
table_verdict_is_exact jobs points slots are = all_stand_exactly jobs (Some points) slots are

-- without one, where a slot may run at any speed
pub verdict_is_exact : VerdictIsExact
verdict_is_exact jobs slots are =
    let exact = all_stand_exactly jobs None slots are in
    (λ all. (exact.0 all).0, λ feasible. exact.1 (feasible, λ i d within. tt))
