-- Slots over spans that are cut at events.
use Rattle.yds_model.proofs.Common.{◌≡◌, ℕ, suc, ◌+◌, ◌-◌, ◌*◌, ◌/◌, ◌<◌, ◌≤◌, ◌⊎◌, List, [], ◌∷◌, ◌++◌, ◌∙◌, length, get_or, take, drop, map, min, max, ap, sym, subst, inl, inr, add-one, arith, refl, All, ◌∣◌, IsStrictlyIncreasing, append_assoc, at_drop_more, get_or-map, length-map, map-append, All-map, All-cons, All-nil, All-append, All-from_get_or, get_or-le-sum_by, sum_by-cons, cases_eq, eq-eqb, ne_eqb, dvd_refl, mul-le-mul_right, one-dvd, eq_of_mul-eq-mul_right, le-div_iff_mul-le, div-mul-le_self, Fraction, Quotient, at_scale, of_parts, WrittenSlot, Piece, PiecesFrom, Covers, total_length, flat_map-take}
use Rattle.fraction_lemmas.proofs.Fractions.{parts_den}
use Rattle.base.specs.declared.limits.TheConstants.{MAX_TIME, MAX_SLOT_WORK}
use Rattle.yds_slots.proofs.WorkParts.{of_parts_at}
use Rattle.yds_contract.specs.Contracted.{AreApartFrom, ArePieces}
use Rattle.yds_contract.specs.Clipped.{clipped, pieces_after}
use Rattle.yds_contract.specs.Cut.{cut_between, cut_all}
use Rattle.yds_contract.specs.Spread.{piece_in_parts, span_of, spans_of, slot_over, CanRunOver, IsUncutAt, MeetOnlyAt, IsSpread}
use Rattle.yds_contract.proofs.Cells.{piece_at, no_piece, forward_at, apart_weaker}
use Rattle.yds_contract.proofs.Cutting.{RiseFrom, cut_here, cut_later, cut_all_run, cut_all_covers, cut_all_outside, cut_all_meet}
use Rattle.yds_contract.proofs.Pieces.{clipped_cases, pieces_found}
use Rattle.yds_contract.proofs.Scaled.{parts_apart}

-- so many parts of so many are as they were
parts_back : (parts n : ℕ) → 1 ≤ parts → at_scale parts (of_parts n parts) ≡ n
parts_back parts n some =
    let divides : (of_parts n parts).den ∣ parts = elim (parts_den n parts) [
      | inl plain ↦ subst (λ (d : ℕ). d ∣ parts) (sym plain) (one-dvd parts)
      | inr same ↦ subst (λ (d : ℕ). d ∣ parts) (sym same) (dvd_refl parts)
    ] in
    eq_of_mul-eq-mul_right parts some (at_scale parts (of_parts n parts)) n (of_parts_at parts n parts divides)

span_back : (job : ℕ) (speed : Quotient) (span : Piece) → 1 ≤ speed.num → span_of speed.num (slot_over job speed span) ≡ span
span_back job speed span some = grind (arith, parts_back)

spans_back : (job : ℕ) (speed : Quotient) (spans : List Piece) → 1 ≤ speed.num → spans_of speed.num (map (slot_over job speed) spans) ≡ spans
spans_back job speed [] some = refl
spans_back job speed (span ∷ spans) some =
    ap (λ (p : Piece). p ∷ spans_of speed.num (map (slot_over job speed) spans)) (span_back job speed span some)
    ∙ ap (λ (ps : List Piece). span ∷ ps) (spans_back job speed spans some)

-- events that rise do so in parts
events_rise : (parts least : ℕ) (events : List ℕ) → (0 < length events → least ≤ get_or events 0 0) → IsStrictlyIncreasing events → RiseFrom (least * parts) (map (λ event. event * parts) events)
events_rise parts least [] first rise = tt
events_rise parts least (event ∷ events) first rise = (
  mul-le-mul_right parts (first (omega arith)),
  events_rise parts event events (λ some. omega (arith, rise 0 (omega arith))) (λ k within. let next : suc k + 1 ≡ suc (k + 1) = omega arith in rw next at (rise (suc k) (omega arith))),
)

-- slots over cut spans make up the slot
pub spread : (removed : List Piece) (slot : WrittenSlot) (speed : Quotient) (events : List ℕ) (spans : List Piece) (slots : List WrittenSlot) → 1 ≤ speed.num →
    ArePieces (map (piece_in_parts speed.num) removed) (at_scale speed.num slot.from) (at_scale speed.num slot.to) spans → IsStrictlyIncreasing events →
    slots ≡ map (slot_over slot.job speed) (cut_all (map (λ event. event * speed.num) events) spans) → IsSpread removed slot speed events slots
spread removed slot speed events spans slots some are rise is =
    let times : List ℕ = map (λ event. event * speed.num) events in
    let cuts : List Piece = cut_all times spans in
    let back : spans_of speed.num slots ≡ cuts = ap (spans_of speed.num) is ∙ spans_back slot.job speed cuts some in
    let covers = λ (time : ℕ). cut_all_covers times 0 spans time are.apart in
    record {
      each = subst (All (λ (real : WrittenSlot). real ≡ slot_over slot.job speed (span_of speed.num real))) (sym is)
          (All-map (λ (real : WrittenSlot). real ≡ slot_over slot.job speed (span_of speed.num real)) (slot_over slot.job speed) cuts
          (λ k d within. sym (ap (slot_over slot.job speed) (span_back slot.job speed (get_or cuts k d) some))));
      in_order = subst (PiecesFrom 0) (sym back) (cut_all_run times 0 spans are.apart);
      time = λ time. (
        (λ has. (are.time time).0 ((covers time).0 (subst (λ (ps : List Piece). Covers ps time) back has))),
        (λ has. subst (λ (ps : List Piece). Covers ps time) (sym back) ((covers time).1 ((are.time time).1 has))),
      );
      uncut = subst (λ (ps : List Piece). All (λ (event : ℕ). All (IsUncutAt (event * speed.num)) ps) events) (sym back)
          (λ k d within. subst (λ (t : ℕ). All (IsUncutAt t) cuts) (get_or-map (λ event. event * speed.num) events k d (d * speed.num) within)
          (cut_all_outside times (0 * speed.num) spans (events_rise speed.num 0 events (λ n. omega arith) rise) k (d * speed.num)
          (omega (arith, length-map events (λ event. event * speed.num)))));
      cut_at_events = subst (MeetOnlyAt times) (sym back) (cut_all_meet times 0 spans are.apart);
    }

-- a walk over events that cuts one span
pub record CutSoFar (speed : Quotient) (job : ℕ) (before : List WrittenSlot) (start to : ℕ) (times : List ℕ) (i from : ℕ) (slots : List WrittenSlot) : Type 0 where
  pub are : slots ++ map (slot_over job speed) (cut_between from to (drop i times)) ≡ before ++ map (slot_over job speed) (cut_between start to times)
  pub begun : start ≤ from
  pub forward : from < to

next_cut : (from to : ℕ) (times : List ℕ) (i time : ℕ) → i < length times → time ≡ get_or times i 0 → cut_between from to (drop i times) ≡ cut_between from to (time ∷ drop (i + 1) times)
next_cut from to times i time within is = at_drop_more (cut_between from to) times i 0 within ∙ ap (λ (t : ℕ). cut_between from to (t ∷ drop (i + 1) times)) (sym is)

pub cut_more : (speed : Quotient) (job : ℕ) (before : List WrittenSlot) (start to : ℕ) (times : List ℕ) (i from time : ℕ) (slots more : List WrittenSlot) → i < length times →
    time ≡ get_or times i 0 → from < time → time < to → more ≡ slots ++ slot_over job speed (record { from = from; to = time }) ∷ [] →
    CutSoFar speed job before start to times i from slots → CutSoFar speed job before start to times (i + 1) time more
cut_more speed job before start to times i from time slots more within is after inside adds so_far = record {
  are =
      ap (λ (ss : List WrittenSlot). ss ++ map (slot_over job speed) (cut_between time to (drop (i + 1) times))) adds
      ∙ append_assoc slots (slot_over job speed (record { from = from; to = time }) ∷ []) (map (slot_over job speed) (cut_between time to (drop (i + 1) times)))
      ∙ ap (λ (ps : List Piece). slots ++ map (slot_over job speed) ps) (sym (next_cut from to times i time within is ∙ cut_here from to time (drop (i + 1) times) after inside))
      ∙ so_far.are;
  begun = omega (arith, so_far.begun);
  forward = inside;
}

pub cut_kept : (speed : Quotient) (job : ℕ) (before : List WrittenSlot) (start to : ℕ) (times : List ℕ) (i from time : ℕ) (slots : List WrittenSlot) → i < length times →
    time ≡ get_or times i 0 → (time ≤ from) ⊎ (to ≤ time) → CutSoFar speed job before start to times i from slots → CutSoFar speed job before start to times (i + 1) from slots
cut_kept speed job before start to times i from time slots within is outside so_far = record {
  are =
      ap (λ (ps : List Piece). slots ++ map (slot_over job speed) ps) (sym (next_cut from to times i time within is ∙ cut_later from to time (drop (i + 1) times) outside))
      ∙ so_far.are;
  begun = so_far.begun;
  forward = so_far.forward;
}

clipped_limit : (most from to : ℕ) → to ≤ most → All (λ piece. piece.to ≤ most) (clipped from to)
clipped_limit most from to fits = grind (arith, All-cons, All-nil, clipped_cases)

-- no piece ends later than what leaves room for all that is removed
pub pieces_limit : (most start end from before : ℕ) (removed : List Piece) → end + before + total_length removed ≤ most → All (λ piece. piece.to ≤ most) (pieces_after start end from before removed)
pieces_limit most start end from before [] fits = clipped_limit most (max from (start + before)) (end + before) (omega (arith, fits))
pieces_limit most start end from before (stretch ∷ removed) fits =
    let sum = sum_by-cons (λ (p : Piece). p.to - p.from) stretch removed in
    All-append (λ (p : Piece). p.to ≤ most) (clipped (max from (start + before)) (min stretch.from (end + before))) (pieces_after start end stretch.to (before + (stretch.to - stretch.from)) removed)
    (clipped_limit most (max from (start + before)) (min stretch.from (end + before)) (omega (arith, fits)))
    (pieces_limit most start end stretch.to (before + (stretch.to - stretch.from)) removed (omega (arith, fits, sum)))

-- each piece takes no more time than all together
piece_short : (pieces : List Piece) (i : ℕ) → i < length pieces → (piece_at pieces i).to - (piece_at pieces i).from ≤ total_length pieces
piece_short pieces i within = get_or-le-sum_by (λ (p : Piece). p.to - p.from) pieces i no_piece within

-- a shorter span has no more work
pub less_work : (short long den : ℕ) → 1 ≤ den → short ≤ long → short / den ≤ long / den
less_work short long den some less = (le-div_iff_mul-le some).1 (omega (arith, div-mul-le_self short den))

-- the whole part of so many parts
of_parts_whole : (p den : ℕ) → (of_parts p den).whole ≡ p / den
of_parts_whole p den = grind (arith, cases_eq, eq-eqb, ne_eqb)

-- a part of a slot's time has no more work than the slot
work_within : (long short den most : ℕ) (work : Fraction) → 1 ≤ den → work ≡ of_parts long den → work.whole ≤ most → short ≤ long → short / den ≤ most
work_within long short den most work some is fits less =
    omega (arith, less_work short long den some less, of_parts_whole long den, ap (λ (x : Fraction). x.whole) is)

-- the spans that are found in parts
pub spans_same : (removed : List Piece) (parts start end p s e : ℕ) (spans : List Piece) → p ≡ parts → s ≡ start → e ≡ end →
    spans ≡ pieces_after s e 0 0 (map (piece_in_parts p) removed) → spans ≡ pieces_after start end 0 0 (map (piece_in_parts parts) removed)
spans_same removed parts start end p s e spans same_p same_s same_e is = grind arith

pub spans_found : (removed : List Piece) (parts start end : ℕ) (spans : List Piece) → AreApartFrom 0 removed → 1 ≤ parts →
    spans ≡ pieces_after start end 0 0 (map (piece_in_parts parts) removed) → ArePieces (map (piece_in_parts parts) removed) start end spans
spans_found removed parts start end spans apart some is =
    subst (ArePieces (map (piece_in_parts parts) removed) start end) (sym is)
    (pieces_found start end (map (piece_in_parts parts) removed) (apart_weaker 0 (0 * parts) (map (piece_in_parts parts) removed) (omega arith) (parts_apart parts 0 removed some apart)))

spans_end : (removed : List Piece) (most parts start end : ℕ) (spans : List Piece) (i : ℕ) → end + total_length (map (piece_in_parts parts) removed) ≤ most →
    spans ≡ pieces_after start end 0 0 (map (piece_in_parts parts) removed) → i < length spans → (piece_at spans i).to ≤ most
spans_end removed most parts start end spans i fits is within =
    (subst (All (λ (p : Piece). p.to ≤ most)) (sym is) (pieces_limit most start end 0 0 (map (piece_in_parts parts) removed) (omega (arith, fits)))) i no_piece within

-- so a slot may run over each of them
pub spans_can : (removed : List Piece) (speed : Quotient) (start end : ℕ) (work : Fraction) (spans : List Piece) → AreApartFrom 0 removed → 1 ≤ speed.num → 1 ≤ speed.den →
    end + total_length (map (piece_in_parts speed.num) removed) ≤ MAX_TIME * speed.num → work ≡ of_parts (end - start) speed.den → work.whole ≤ MAX_SLOT_WORK →
    spans ≡ pieces_after start end 0 0 (map (piece_in_parts speed.num) removed) → All (CanRunOver speed) spans
spans_can removed speed start end work spans apart some some_den fits at_speed work_fits is =
    let are = spans_found removed speed.num start end spans apart some is in
    All-from_get_or (CanRunOver speed) spans no_piece (λ i within. record {
      forward = forward_at 0 spans i are.apart within;
      within = spans_end removed (MAX_TIME * speed.num) speed.num start end spans i fits is within;
      work_fits = work_within (end - start) ((piece_at spans i).to - (piece_at spans i).from) speed.den MAX_SLOT_WORK work some_den at_speed work_fits
          (omega (arith, piece_short spans i within, are.total));
    })

-- what a slot can run over at each place
pub can_here : (speed : Quotient) (spans all : List Piece) (i : ℕ) (span : Piece) → all ≡ spans → All (CanRunOver speed) spans → i < length all → span ≡ get_or all i span →
    CanRunOver speed span
can_here speed spans all i span same can within is = subst (CanRunOver speed) (sym is) (subst (All (CanRunOver speed)) (sym same) can i span within)

-- the cuts of one span more, at the events inside it
pub cuts_next : (speed : Quotient) (job num : ℕ) (events inside : List ℕ) (spans : List Piece) (i : ℕ) (span : Piece) (old new : List WrittenSlot) → num ≡ speed.num →
    i < length spans → span ≡ get_or spans i span →
    cut_between span.from span.to (map (λ event. event * num) inside) ≡ cut_between span.from span.to (map (λ event. event * num) events) →
    new ≡ old ++ map (slot_over job speed) (cut_between span.from span.to (map (λ event. event * speed.num) inside)) →
    old ≡ map (slot_over job speed) (cut_all (map (λ event. event * speed.num) events) (take i spans)) →
    new ≡ map (slot_over job speed) (cut_all (map (λ event. event * speed.num) events) (take (i + 1) spans))
cuts_next speed job num events inside spans i span old new is_num within is same next so_far =
    let times : List ℕ = map (λ event. event * speed.num) events in
    let cuts : cut_between span.from span.to (map (λ event. event * speed.num) inside) ≡ cut_between span.from span.to times =
    subst (λ (n : ℕ). cut_between span.from span.to (map (λ event. event * n) inside) ≡ cut_between span.from span.to (map (λ event. event * n) events)) is_num same in
    next
    ∙ ap (λ (slots : List WrittenSlot). slots ++ map (slot_over job speed) (cut_between span.from span.to (map (λ event. event * speed.num) inside))) so_far
    ∙ ap (λ (ps : List Piece). map (slot_over job speed) (cut_all times (take i spans)) ++ map (slot_over job speed) ps) cuts
    ∙ sym (map-append (slot_over job speed) (cut_all times (take i spans)) (cut_between span.from span.to times))
    ∙ ap (λ (p : Piece). map (slot_over job speed) (cut_all times (take i spans) ++ cut_between p.from p.to times)) is
    ∙ ap (map (slot_over job speed)) (sym (rw add-one (flat_map-take (λ (p : Piece). cut_between p.from p.to times) spans i span within)))
