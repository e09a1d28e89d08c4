-- A policy's run is written once: its slots are one, and so are their denominators, which go by the stretch and the units that it serves.
use Rattle.yds_model.proofs.Common.{◌≡◌, ℕ, ◌-◌, ◌*◌, ◌/◌, ◌<◌, ◌≤◌, List, [], ◌∷◌, ◌++◌, length, get_or, sym, ap, subst, ◌∙◌, arith, inl, inr, Some, None, All, All-nil, All-cons, All-append, Contains, same_lists, get_or-map, get_or_default, length-map, cases_order, mul-le-mul_right, eq_of_mul-eq-mul_right, Job, WrittenSlot, WholeSlot, IsDivided, IsScale, IsSolid, no_slot, written_slot_at, no_written_slot, slot_at_scale, slots_at, Piece, LiesIn, LiesWritten, stretches, stretch_at, common_divisor, Document, with_answer, canonical_text, HasRunDenominators}
use Rattle.yds_model.specs.Plan.{IsOver}
use Rattle.yds_model.specs.Within.{IsSlot}
use Rattle.yds_model.specs.PolicyAnswer.{AverageRateAnswer, OptimalAvailableAnswer}
use Rattle.model_lemmas.proofs.Runs.{run_forward}
use Rattle.model_lemmas.proofs.Scale.{scale_exists}
use Rattle.yds_events.specs.Stretch.{no_stretch}
use Rattle.yds_events.proofs.Neighbours.{stretch_order}
use Rattle.yds_laws.proofs.Bound.{scale_left, scale_right}
use Rattle.yds_laws.proofs.Judgements.{speed_of_values}
use Rattle.yds_energy.proofs.RoundedFeasible.{all_lie}
use Rattle.yds_plan_laws.proofs.OneRun.{runs_are_one}
use Rattle.yds_plan_laws.proofs.Once.{IsOnce}
use Rattle.yds_plan_laws.proofs.Spelled.{slot_spelled_once}

-- a slot that takes time lies in one stretch
one_stretch : (jobs : List Job) (scale : ℕ) (slot : WholeSlot) (one other : Piece) → slot.from < slot.to → Contains (stretches jobs) one → Contains (stretches jobs) other →
    LiesIn scale slot one → LiesIn scale slot other → one ≡ other
one_stretch jobs scale slot one other takes (i, within, is) (k, inside, same) lies there =
    let first : stretch_at jobs i ≡ one = get_or_default (stretches jobs) i no_stretch one within ∙ is in
    let second : stretch_at jobs k ≡ other = get_or_default (stretches jobs) k no_stretch other inside ∙ same in
    elim (cases_order i k) [
      | inl equal ↦ sym first ∙ ap (stretch_at jobs) equal ∙ second
      | inr (inl before) ↦ absurd (omega (
        arith,
        mul-le-mul_right scale (stretch_order jobs i k before inside),
        lies.to,
        there.from,
        takes,
        ap (λ (piece : Piece). piece.to * scale) first,
        ap (λ (piece : Piece). piece.from * scale) second,
      ))
      | inr (inr after) ↦ absurd (omega (
        arith,
        mul-le-mul_right scale (stretch_order jobs k i after within),
        lies.from,
        there.to,
        takes,
        ap (λ (piece : Piece). piece.from * scale) first,
        ap (λ (piece : Piece). piece.to * scale) second,
      ))
    ]

-- a written slot of a stretch lies in it at a scale
lies_at : (scale : ℕ) (x : WrittenSlot) (stretch : Piece) → 1 ≤ scale → IsDivided scale x → LiesWritten x stretch → LiesIn scale (slot_at_scale scale x) stretch
lies_at scale x stretch positive is lies =
    all_lie scale (x ∷ []) stretch (record { positive = positive; divided = All-cons (IsDivided scale) x [] is (All-nil (IsDivided scale)) })
    (All-cons (λ slot. LiesWritten slot stretch) x [] lies (All-nil (λ slot. LiesWritten slot stretch))) 0 no_slot (omega arith)

-- two written slots of a run that are the same at a scale are one
run_slot_same : (jobs : List Job) (grid scale : ℕ) (x y : WrittenSlot) → 1 ≤ scale → IsDivided scale x → IsDivided scale y → IsSlot x → IsSlot y →
    HasRunDenominators jobs grid x → HasRunDenominators jobs grid y → slot_at_scale scale x ≡ slot_at_scale scale y →
    (slot_at_scale scale x).from < (slot_at_scale scale x).to → x ≡ y
run_slot_same jobs grid scale x y positive is also fits fit dens others same takes =
    let stretch : dens.stretch ≡ others.stretch =
    one_stretch jobs scale (slot_at_scale scale x) dens.stretch others.stretch takes dens.is_stretch others.is_stretch (lies_at scale x dens.stretch positive is dens.lies)
    (subst (λ (slot : WholeSlot). LiesIn scale slot others.stretch) (sym same) (lies_at scale y others.stretch positive also others.lies)) in
    let long : dens.stretch.to - dens.stretch.from ≡ others.stretch.to - others.stretch.from = ap (λ (piece : Piece). piece.to - piece.from) stretch in
    let first = (speed_of_values dens.units (grid * (dens.stretch.to - dens.stretch.from)) scale x positive is).0 dens.speed in
    let second = (speed_of_values others.units (grid * (others.stretch.to - others.stretch.from)) scale y positive also).0 others.speed in
    let units : dens.units ≡ others.units =
    eq_of_mul-eq-mul_right ((slot_at_scale scale x).to - (slot_at_scale scale x).from) (omega (arith, takes)) dens.units others.units
    (sym first ∙ ap (λ (slot : WholeSlot). slot.work * (grid * (dens.stretch.to - dens.stretch.from))) same ∙ ap (λ n. (slot_at_scale scale y).work * (grid * n)) long ∙ second
    ∙ sym (ap (λ (slot : WholeSlot). others.units * (slot.to - slot.from)) same)) in
    let over : others.units / common_divisor others.units (others.stretch.to - others.stretch.from) ≡ dens.units / common_divisor dens.units (dens.stretch.to - dens.stretch.from) =
    ap (λ n. n / common_divisor n (others.stretch.to - others.stretch.from)) (sym units) ∙ ap (λ n. dens.units / common_divisor dens.units n) (sym long) in
    slot_spelled_once scale _ grid x y positive is also fits fit dens.from (subst (λ n. IsOver n y.from) over others.from) dens.to (subst (λ n. IsOver n y.to) over others.to)
    dens.work others.work same

-- so are all, where they are the same at a scale
pub run_written : (jobs : List Job) (grid scale : ℕ) (slots others : List WrittenSlot) → IsScale scale slots → IsScale scale others → All IsSlot slots → All IsSlot others →
    All (HasRunDenominators jobs grid) slots → All (HasRunDenominators jobs grid) others → All (λ slot. slot.from < slot.to) (slots_at scale slots) →
    slots_at scale slots ≡ slots_at scale others → slots ≡ others
run_written jobs grid scale slots others left right fits fit dens also takes whole =
    let many : length slots ≡ length others = omega (arith, ap length whole, length-map slots (slot_at_scale scale), length-map others (slot_at_scale scale)) in
    same_lists slots others many (λ k d within.
    let inside : k < length others = omega (arith, within, many) in
    let read = get_or-map (slot_at_scale scale) slots k no_written_slot no_slot within in
    let same : slot_at_scale scale (written_slot_at slots k) ≡ slot_at_scale scale (written_slot_at others k) =
    sym read ∙ ap (λ (some : List WholeSlot). get_or some k no_slot) whole ∙ get_or-map (slot_at_scale scale) others k no_written_slot no_slot inside in
    let forward = subst (λ (slot : WholeSlot). slot.from < slot.to) read (takes k no_slot (omega (arith, within, length-map slots (slot_at_scale scale)))) in
    let equal = run_slot_same jobs grid scale (written_slot_at slots k) (written_slot_at others k) left.positive (left.divided k no_written_slot within)
    (right.divided k no_written_slot inside) (fits k no_written_slot within) (fit k no_written_slot inside) (dens k no_written_slot within) (also k no_written_slot inside) same forward in
    get_or_default slots k d no_written_slot within ∙ equal ∙ get_or_default others k no_written_slot d inside)

-- the text of a run
abbrev text_of_run : Document → ℕ → List WrittenSlot → ℕ → List ℕ
text_of_run document grid slots rounded = canonical_text (with_answer document slots [] (Some (record { grid = grid; rounded = rounded })) None)

-- of Average Rate
pub average_once : (document : Document) (grid : ℕ) → IsOnce (AverageRateAnswer document grid)
average_once document grid text other status end first second =
    let scale = scale_exists (first.slots ++ second.slots) (All-append IsSolid first.slots second.slots first.run.run.solid second.run.run.solid) in
    let left = scale_left scale.0 first.slots second.slots scale.1 in
    let both = runs_are_one.average_rate document.jobs grid first.rounded second.rounded scale.0 first.slots second.slots first.run second.run scale.1 in
    let slots = run_written document.jobs grid scale.0 first.slots second.slots left (scale_right scale.0 first.slots second.slots scale.1) first.said.possible.slots.fit
    second.said.possible.slots.fit first.denominators second.denominators (run_forward 0 (slots_at scale.0 first.slots) (first.run.run.holds scale.0 left).feasible.one_at_a_time) both.1 in (
      first.said.written ∙ ap (λ (some : List WrittenSlot). text_of_run document grid some first.rounded) slots ∙ ap (text_of_run document grid second.slots) both.0 ∙ sym second.said.written,
      first.ended ∙ sym second.ended,
    )

-- and of Optimal Available
pub optimal_once : (document : Document) (grid : ℕ) → IsOnce (OptimalAvailableAnswer document grid)
optimal_once document grid text other status end first second =
    let scale = scale_exists (first.slots ++ second.slots) (All-append IsSolid first.slots second.slots first.run.run.solid second.run.run.solid) in
    let left = scale_left scale.0 first.slots second.slots scale.1 in
    let both = runs_are_one.optimal_available document.jobs grid first.rounded second.rounded scale.0 first.slots second.slots first.run second.run scale.1 in
    let slots = run_written document.jobs grid scale.0 first.slots second.slots left (scale_right scale.0 first.slots second.slots scale.1) first.said.possible.slots.fit
    second.said.possible.slots.fit first.denominators second.denominators (run_forward 0 (slots_at scale.0 first.slots) (first.run.run.holds scale.0 left).feasible.one_at_a_time) both.1 in (
      first.said.written ∙ ap (λ (some : List WrittenSlot). text_of_run document grid some first.rounded) slots ∙ ap (text_of_run document grid second.slots) both.0 ∙ sym second.said.written,
      first.ended ∙ sym second.ended,
    )
