-- At each part of time of its pieces a plan runs a job: else all its slots lay in pieces without that part, and these are shorter than the slots
-- are together. Slots are taken here as jobs whose windows they fill.
use Rattle.yds_model.proofs.Common.{◌≡◌, ℕ, suc, ◌+◌, ◌-◌, ◌*◌, ◌/◌, ◌<◌, ◌≤◌, List, [], ◌∷◌, ◌++◌, length, get_or, map, take, take_all, refl, sym, ap, subst, ◌∙◌, arith, inl, inr, Bool, true, false, true≢false, All, Any, All-nil, All-cons, All-contains, All-map, le-leb, lt-ltb, found_or_none, length-map, get_or-map, get_or-append_seam, get_or_default, get_or-range_with_len, length-range_with_len, range_with_len, append_assoc, length-append, sum_by, sum_by-cons, sum_by-mul, sum_by-map, sum_by_same, le-div_iff_mul-le, div-lt_iff_lt-mul, mul-sub, mul-le-mul_right, count, counted_contains, Job, no_job, job_at, WrittenSlot, WholeSlot, IsScale, no_slot, slot_at, slot_at_scale, slots_at, RunFrom, IsInWindow, Piece, Covers, IsConfined, total_length, Level, all_members, all_pieces, busy, IsPlan}
use Rattle.model_lemmas.proofs.Time.{time_within}
use Rattle.model_lemmas.proofs.Front.{front_at}
use Rattle.model_lemmas.proofs.Counted.{contained_counted}
use Rattle.yds_laws.proofs.Group.{group_at_most}
use Rattle.yds_laws.proofs.Served.{counted_once}
use Rattle.yds_laws.proofs.Explained.{front_different}
use Rattle.yds_laws.proofs.Plans.{plans_are_least, plans_serve_work}
use Rattle.yds_plan_laws.proofs.Certified.{levels_fill}
use Rattle.yds_plan_laws.proofs.Ends.{has, has_time, without, less_by_one, others_stay}

-- # Slots as jobs

-- the job that a slot fills
abbrev filled_by : WholeSlot → Job
filled_by slot = record { release = slot.from; deadline = slot.to; work = slot.work }

-- slots that are numbered in their order
abbrev numbered : ℕ → List WholeSlot → List WholeSlot
numbered n [] = []
numbered n (slot ∷ slots) = record { job = n; from = slot.from; to = slot.to; work = slot.work } ∷ numbered (suc n) slots

-- run as before
numbered_run : (start n : ℕ) (slots : List WholeSlot) → RunFrom start slots → RunFrom start (numbered n slots)
numbered_run start n [] run = tt
numbered_run start n (slot ∷ slots) run = (run.0, run.1, numbered_run slot.to (suc n) slots run.2)

-- each in the window of its own job
numbered_windows : (all before slots : List WholeSlot) → before ++ slots ≡ all → All (IsInWindow (map filled_by all) 1) (numbered (length before) slots)
numbered_windows all before [] same = All-nil (IsInWindow (map filled_by all) 1)
numbered_windows all before (slot ∷ slots) same =
    let few : length before < length all = omega (arith, ap length same, length-append before (slot ∷ slots)) in
    let there : job_at (map filled_by all) (length before) ≡ filled_by slot =
    get_or-map filled_by all (length before) no_slot no_job few
    ∙ ap (λ (some : List WholeSlot). filled_by (get_or some (length before) no_slot)) (sym same)
    ∙ ap filled_by (get_or-append_seam before slot slots no_slot) in
    All-cons (IsInWindow (map filled_by all) 1) (record { job = length before; from = slot.from; to = slot.to; work = slot.work }) (numbered (suc (length before)) slots)
    (record {
      known = omega (arith, few, length-map all filled_by);
      released = omega (arith, ap (λ (job : Job). job.release) there);
      due = omega (arith, ap (λ (job : Job). job.deadline) there);
    })
    (subst (λ (n : ℕ). All (IsInWindow (map filled_by all) 1) (numbered n slots)) (omega (arith, length-append before (slot ∷ [])))
    (numbered_windows all (before ++ slot ∷ []) slots (append_assoc before (slot ∷ []) slots ∙ same)))

-- with their time, where the numbers are among those that are counted
numbered_time : (n many : ℕ) (slots : List WholeSlot) → n + length slots ≤ many →
    busy slots ≤ sum_by (λ slot. count slot.job (range_with_len 0 many) * (slot.to - slot.from)) (numbered n slots)
numbered_time n many [] enough = omega arith
numbered_time n many (slot ∷ slots) enough =
    let one : WholeSlot = record { job = n; from = slot.from; to = slot.to; work = slot.work } in
    let counted : 1 ≤ count n (range_with_len 0 many) =
    contained_counted (range_with_len 0 many) n (n, omega (arith, enough, length-range_with_len 0 many), get_or-range_with_len 0 many n n (omega (arith, enough)) ∙ omega arith) in
    omega (
      arith,
      sum_by-cons (λ (s : WholeSlot). s.to - s.from) slot slots,
      sum_by-cons (λ (s : WholeSlot). count s.job (range_with_len 0 many) * (s.to - s.from)) one (numbered (suc n) slots),
      mul-le-mul_right (slot.to - slot.from) counted,
      numbered_time (suc n) many slots (omega (arith, enough)),
    )

-- # What runs

-- the slot has the part of time
abbrev pub RunsAt : ℕ → WholeSlot → Type 0
RunsAt time slot = (slot.from ≤ time) × (time < slot.to)

-- each part of time of slots is one of the pieces
abbrev pub LieIn : List Piece → List WholeSlot → Type 0
LieIn pieces slots = All (λ slot. (time : ℕ) → slot.from ≤ time → time < slot.to → Covers pieces time) slots

-- whether the slot at a place has it
abbrev has_at : List WholeSlot → ℕ → ℕ → Bool
has_at slots time k = has time (record { from = (slot_at slots k).from; to = (slot_at slots k).to })

-- where none has, they lie in the pieces without that part
confined_without : (slots : List WholeSlot) (pieces : List Piece) (time : ℕ) → LieIn pieces slots → ((k : ℕ) → k < length slots → has_at slots time k ≡ false) →
    All (λ number. IsConfined (job_at (map filled_by slots) number) (without time pieces)) (range_with_len 0 (length slots))
confined_without slots pieces time lie none k d within unit released due =
    let inside : k < length slots = omega (arith, within, length-range_with_len 0 (length slots)) in
    let number : get_or (range_with_len 0 (length slots)) k d ≡ k = get_or-range_with_len 0 (length slots) k d inside ∙ omega arith in
    let there : job_at (map filled_by slots) (get_or (range_with_len 0 (length slots)) k d) ≡ filled_by (slot_at slots k) =
    ap (job_at (map filled_by slots)) number ∙ get_or-map filled_by slots k no_slot no_job inside in
    let from : (slot_at slots k).from ≤ unit = omega (arith, released, ap (λ (job : Job). job.release) there) in
    let to : unit < (slot_at slots k).to = omega (arith, due, ap (λ (job : Job). job.deadline) there) in
    others_stay time unit pieces (λ same. absurd (true≢false (sym (has_it time unit (slot_at slots k) same from to) ∙ none k inside))) (lie k no_slot inside unit from to)
  where
    -- a slot that has a part of time passes the test
    has_it : (time unit : ℕ) (slot : WholeSlot) → unit ≡ time → slot.from ≤ unit → unit < slot.to → has time (record { from = slot.from; to = slot.to }) ≡ true
    has_it time unit slot same from to = grind (arith, le-leb, lt-ltb)

-- where slots lie in pieces and are together as long, one of them has each part of time
pub runs_in : (slots : List WholeSlot) (pieces : List Piece) (time : ℕ) → RunFrom 0 slots → LieIn pieces slots → total_length pieces ≤ busy slots →
    Covers pieces time → Any (RunsAt time) slots
runs_in slots pieces time run lie long covers =
    elim (found_or_none (length slots) (has_at slots time)) [
      | inl found ↦ (
        found.0,
        slot_at slots found.0,
        found.1,
        get_or_default slots found.0 (slot_at slots found.0) no_slot found.1,
        has_time time (record { from = (slot_at slots found.0).from; to = (slot_at slots found.0).to }) found.2,
      )
      | inr none ↦ absurd (omega (
        arith,
        long,
        less_by_one time pieces covers,
        numbered_time 0 (length slots) slots (omega arith),
        time_within (map filled_by slots) 1 (range_with_len 0 (length slots)) (without time pieces) (numbered 0 slots) (omega arith)
            (λ number. counted_once number 0 (length slots)) (confined_without slots pieces time lie none) (numbered_run 0 0 slots run)
            (numbered_windows slots [] slots refl),
      ))
    ]

-- # The slots of a plan

-- pieces in parts of a scale
abbrev pub in_parts_of : ℕ → Piece → Piece
in_parts_of scale piece = record { from = piece.from * scale; to = piece.to * scale }

-- and all of them
abbrev pub at_parts : ℕ → List Piece → List Piece
at_parts scale pieces = map (in_parts_of scale) pieces

-- are so many times as long
pub parts_long : (scale : ℕ) (pieces : List Piece) → total_length (at_parts scale pieces) ≡ scale * total_length pieces
parts_long scale pieces =
    sum_by-map (in_parts_of scale) (λ (piece : Piece). piece.to - piece.from) pieces
    ∙ sum_by_same (λ (piece : Piece). piece.to * scale - piece.from * scale) (λ piece. scale * (piece.to - piece.from)) pieces
    (λ k d within. omega (arith, mul-sub scale (get_or pieces k d).to (get_or pieces k d).from))
    ∙ sum_by-mul scale (λ (piece : Piece). piece.to - piece.from) pieces

-- and have the parts of the units that these have
pub parts_cover : (scale time : ℕ) (pieces : List Piece) → 1 ≤ scale → Covers pieces (time / scale) → Covers (at_parts scale pieces) time
parts_cover scale time pieces positive (k, piece, within, is, holds) = (
  k,
  in_parts_of scale piece,
  omega (arith, within, length-map pieces (in_parts_of scale)),
  get_or-map (in_parts_of scale) pieces k piece (in_parts_of scale piece) within ∙ ap (in_parts_of scale) is,
  ((le-div_iff_mul-le positive).0 holds.0, (div-lt_iff_lt-mul positive).0 holds.1),
)

module _ (jobs : List Job) (planned : List WrittenSlot) (levels : List Level) (plan : IsPlan jobs planned levels) (scale : ℕ) (is : IsScale scale planned) where
  -- what runs, runs in the pieces
  pub runs_in_pieces : LieIn (at_parts scale (all_pieces levels)) (slots_at scale planned)
  runs_in_pieces k d within time from to =
      let slot = get_or (slots_at scale planned) k d in
      let feasible = plan.proper.feasible.holds scale is in
      let window = feasible.in_windows k d within in
      let works = All-map (λ (s : WholeSlot). 1 ≤ (job_at jobs s.job).work) (slot_at_scale scale) planned (λ i e inside. plans_serve_work jobs planned levels plan i e inside) in
      let some : 1 ≤ (job_at jobs slot.job).work = works k d within in
      let front = front_at jobs levels plan.proper.well_formed plan.proper.pieces plan.proper.windows (length levels) (omega arith) in
      let confined = rw (take_all (length levels) levels (omega arith)) at front.confined in
      parts_cover scale time (all_pieces levels) is.positive
      (All-contains (λ number. IsConfined (job_at jobs number) (all_pieces levels)) (all_members levels) slot.job confined
      (counted_contains slot.job (all_members levels) (omega (arith, (plan.proper.members slot.job window.known).with_work some)))
      (time / scale) ((le-div_iff_mul-le is.positive).1 (omega (arith, window.released, from))) ((div-lt_iff_lt-mul is.positive).1 (omega (arith, window.due, to))))

  -- and at each part of their time something does
  pub pieces_run : (time : ℕ) → Covers (at_parts scale (all_pieces levels)) time → Any (RunsAt time) (slots_at scale planned)
  pieces_run time covers =
      let feasible = plan.proper.feasible.holds scale is in
      runs_in (slots_at scale planned) (at_parts scale (all_pieces levels)) time feasible.one_at_a_time runs_in_pieces
      (long levels refl) covers
    where
      -- the slots are as long as the pieces
      long : (some : List Level) → some ≡ levels → total_length (at_parts scale (all_pieces levels)) ≤ busy (slots_at scale planned)
      long [] same = rw (sym same) (omega arith)
      long (level ∷ rest) same =
          let n : ℕ = length rest in
          let last : n < length levels = omega (arith, ap length same) in
          let whole : take (suc n) levels ≡ levels = take_all (suc n) levels (omega (arith, ap length same)) in
          let feasible = plan.proper.feasible.holds scale is in
          let front = front_at jobs levels plan.proper.well_formed plan.proper.pieces plan.proper.windows (suc n) last in
          omega (
            arith,
            parts_long scale (all_pieces levels),
            ap (λ (some : List Level). scale * total_length (all_pieces some)) whole,
            levels_fill jobs planned levels plan planned (plans_are_least jobs planned levels plan).0 scale is n last,
            group_at_most (λ slot. slot.to - slot.from) (all_members (take (suc n) levels)) (slots_at scale planned)
                (front_different jobs levels scale (slots_at scale planned) plan.proper.well_formed feasible plan.proper.members (suc n) front.known),
          )
