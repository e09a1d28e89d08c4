-- No slot of the admitted jobs' schedule is faster than the top speed: a stretch that serves something is filled at one speed, by which
-- it serves at most what the top speed does there.
use Rattle.yds_model.proofs.Common.{◌≡◌, ℕ, zero, suc, ◌-◌, ◌*◌, ◌<◌, ◌≤◌, List, [], ◌∷◌, length, get_or, subst, arith, ap, true, ◌&&◌, nat_le, All, Contains, le-leb, and_from, All-nil, All-cons, All-contains, Contains-get_or, mul-le-mul_right, le_of_mul-le-mul_right, mul-pos, WholeSlot, slots_at, Piece, LiesIn, slots_in, FillsAtSpeed, ServesCapacity, IsWithinTop, top_capacity, contains_filter}
use Rattle.model_lemmas.proofs.Runs.{run_forward}
use Rattle.yds_laws.specs.AdmissionLaws.{AdmittedRunsAreWithinTop}

-- a slot that lies in a stretch takes some of its time, and is one of those that do
in_stretch : (scale : ℕ) (slot : WholeSlot) (stretch : Piece) → LiesIn scale slot stretch →
    (nat_le (stretch.from * scale) slot.from && nat_le slot.to (stretch.to * scale)) ≡ true
in_stretch scale slot stretch lies =
    and_from (nat_le (stretch.from * scale) slot.from) (nat_le slot.to (stretch.to * scale)) (le-leb (stretch.from * scale) slot.from lies.from)
    (le-leb slot.to (stretch.to * scale) lies.to)

some_length : (scale : ℕ) (slot : WholeSlot) (stretch : Piece) → LiesIn scale slot stretch → slot.from < slot.to → 1 ≤ stretch.to - stretch.from
some_length scale slot stretch lies forward = grind arith

-- slots that fill a stretch at a speed each have it
fill_speed : (capacity per from to : ℕ) (slots : List WholeSlot) → FillsAtSpeed capacity per from to slots →
    All (λ slot. slot.work * per ≡ capacity * (slot.to - slot.from)) slots
fill_speed capacity per from to [] fills = All-nil (λ slot. slot.work * per ≡ capacity * (slot.to - slot.from))
fill_speed capacity per from to (slot ∷ slots) fills =
    All-cons (λ (one : WholeSlot). one.work * per ≡ capacity * (one.to - one.from)) slot slots fills.1 (fill_speed capacity per slot.to to slots fills.2)

-- a speed that is at most the top speed, by cross products
slower : (work long scale capacity top time : ℕ) → 1 ≤ long → 1 ≤ scale → work * (1 * long * scale) ≡ capacity * time →
    capacity ≤ scale * (top * long) → work ≤ top * time
slower work long scale capacity top time some_length some_scale is most =
    le_of_mul-le-mul_right {k = long * scale} (omega (arith, is, mul-le-mul_right time most)) (mul-pos some_length some_scale)

-- a slot of a stretch that serves at most what the top speed does there
serves_within : (top scale : ℕ) (stretch : Piece) (slots : List WholeSlot) (slot : WholeSlot) (capacity : ℕ) → 1 ≤ scale →
    capacity ≤ scale * (top * (stretch.to - stretch.from)) → ServesCapacity 1 scale capacity stretch slots → Contains slots slot →
    LiesIn scale slot stretch → slot.from < slot.to → IsWithinTop top slot
serves_within top scale stretch slots slot zero some most serves there lies forward =
    let here = contains_filter (λ one. nat_le (stretch.from * scale) one.from && nat_le one.to (stretch.to * scale)) slots slot (in_stretch scale slot stretch lies) there in
    absurd (omega (arith, here.1, ap (λ (part : List WholeSlot). length part) serves))
serves_within top scale stretch slots slot (suc capacity) some most serves there lies forward =
    slower slot.work (stretch.to - stretch.from) scale (suc capacity) top (slot.to - slot.from) (some_length scale slot stretch lies forward) some
    (All-contains (λ (one : WholeSlot). one.work * (1 * (stretch.to - stretch.from) * scale) ≡ suc capacity * (one.to - one.from)) (slots_in scale stretch slots) slot
    (fill_speed (suc capacity) (1 * (stretch.to - stretch.from) * scale) (stretch.from * scale) (stretch.to * scale) (slots_in scale stretch slots) serves)
    (contains_filter (λ one. nat_le (stretch.from * scale) one.from && nat_le one.to (stretch.to * scale)) slots slot (in_stretch scale slot stretch lies) there))
    most

pub admitted_runs_within_top : AdmittedRunsAreWithinTop
admitted_runs_within_top jobs top slots run = record {
  solid = run.run.solid;
  holds = λ scale is k d within.
      let whole = slots_at scale slots in
      let at = run.run.holds scale is in
      let slot = get_or whole k d in
      let there = at.served.uncut k d within in
      let serves = subst (λ (stretch : Piece). ServesCapacity 1 scale (top_capacity jobs top scale whole stretch) stretch whole) there.3 (at.each there.0 there.1 there.2) in
      serves_within top scale there.1 whole slot (top_capacity jobs top scale whole there.1) is.positive (omega arith) serves (Contains-get_or whole k d within) there.4
      (run_forward 0 whole at.feasible.one_at_a_time k d within);
}
