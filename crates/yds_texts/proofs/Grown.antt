-- The parts of a document stay within the limits as one more job, point, slot, level, piece or member comes.
use Rattle.yds_model.proofs.Common.{◌≡◌, ℕ, ◌+◌, ◌/◌, ◌<◌, ◌≤◌, ◌⊎◌, Bool, true, false, nat_lt, ◌==◌, List, [], ◌∷◌, ◌++◌, length, Some, None, Ok, refl, sym, subst, ◌∙◌, arith, inl, inr, eqb-true, append-nil, if◌then◌else◌, All, list_all, filter_map, position, bytes_eq, and_parts, ltb-true, ltb-false, cases_lt, cases_eq, eq-eqb, ne_eqb, false≢true, bytes_eq-Decides, length-append, length_push, get_or_push, get_or_append_left, take_all, take-append-le, flat_map_more, All-nil, All-cons, All-push, All-weaker, All-append, fails_before_first, Job, IsJob, Fraction, of_parts, WrittenSlot, Level, all_pieces, all_members, Point, point_at, AreRising, IsTable, hull_multiple, name_at, is_name, Entry, piece_said, member_said, are_alike, follows_points, IsFraction, AreDifferentNames, IsPoint, IsSlot, IsPiece, IsLevel, AreNamedJobs, ArePoints, AreSlotsOf, AreLevelsOf, AreInGrain, AreAlike, place_cases, All-front, All-last}
use Rattle.model_lemmas.proofs.Said.{empty_level, with_entry, last_longer}
use Rattle.base.specs.declared.limits.TheConstants.{MAX_JOBS, MAX_POINTS, MAX_GAPS, MAX_DENOMINATOR, MAX_SLOTS, MAX_LEVELS, MAX_PIECES, MAX_MEMBERS}
use Rattle.yds_model.specs.declared.reason.Reason.TheVariants as reasons
use Rattle.yds_texts.proofs.Inverse.{demand_ok}

-- ---- jobs

-- where nothing is chosen, the test failed
chosen : (found : Bool) (n : ℕ) → (if found then Some n else None) ≡ None → found ≡ false
chosen true n none = absurd (cc)
chosen false n none = refl

-- a name without a number is none of the others
other_name : (names : List (List ℕ)) (name : List ℕ) (i : ℕ) → position (λ other. bytes_eq other name) names ≡ None → i < length names → name_at names i ≡ name → ⊥
other_name names name i none within is = grind (arith, bytes_eq-Decides, fails_before_first, false≢true, ltb-false, nat_lt)

-- so it is different from them
different_more : (names : List (List ℕ)) (name : List ℕ) → AreDifferentNames names → position (λ other. bytes_eq other name) names ≡ None → AreDifferentNames (names ++ name ∷ [])
different_more names name different none i j i_within j_within same = grind (arith, get_or_append_left, get_or_push, length_push, other_name, place_cases)

-- jobs with their names stay within the limits with one more
pub jobs_more : (names : List (List ℕ)) (jobs : List Job) (name : List ℕ) (job : Job) → AreNamedJobs names jobs → length names < MAX_JOBS → is_name name ≡ true →
    position (λ other. bytes_eq other name) names ≡ None → IsJob job → AreNamedJobs (names ++ name ∷ []) (jobs ++ job ∷ [])
jobs_more names jobs name job are room named new fits = record {
  one_name_each = omega (arith, length_push names name, length_push jobs job, are.one_name_each);
  few = omega (arith, length_push jobs job, are.one_name_each, room);
  names_fit = All-push (λ name. is_name name ≡ true) names name are.names_fit named;
  different = different_more names name are.different new;
  jobs_fit = All-push IsJob jobs job are.jobs_fit fits;
}

-- ---- points

-- points that rise still do with a faster one
rising_more : (first : Point) (others : List Point) (point : Point) → AreRising (first ∷ others) → (point_at (first ∷ others) (length others)).speed < point.speed →
    AreRising (first ∷ others ++ point ∷ [])
rising_more first [] point rising faster = (faster, tt)
rising_more first (next ∷ others) point rising faster = (rising.0, rising_more next others point rising.1 faster)

-- a table with one more point that follows it is a table
table_more : (points : List Point) (point : Point) (column : ℕ) (follows : Bool) → (points ≡ []) ⊎ IsTable points →
    follows_points points point.speed column ≡ Ok follows → IsTable (points ++ point ∷ [])
table_more [] point column follows table is = record { some = omega arith; idle = eqb-true point.speed 0 (demand_ok (point.speed == 0) column reasons.NoIdle follows is); rising = tt }
table_more (first ∷ others) point column follows (inl none) is = absurd (cc)
table_more (first ∷ others) point column follows (inr table) is =
    let faster : (point_at (first ∷ others) (length others)).speed < point.speed =
    ltb-true (point_at (first ∷ others) (length others)).speed point.speed
    (demand_ok (nat_lt (point_at (first ∷ others) (length others)).speed point.speed) column reasons.NotRising follows is) in
    record { some = omega arith; idle = table.idle; rising = rising_more first others point table.rising faster }

-- and points stay within the limits
pub points_more : (points : List Point) (point : Point) (column : ℕ) (follows : Bool) → ArePoints points → length points < MAX_POINTS → IsPoint point →
    follows_points points point.speed column ≡ Ok follows → hull_multiple (points ++ point ∷ []) ≤ MAX_GAPS → ArePoints (points ++ point ∷ [])
points_more points point column follows are room fits rises gaps = record {
  few = omega (arith, length_push points point, room);
  fit = All-push IsPoint points point are.fit fits;
  table = inr (table_more points point column follows are.table rises);
  gaps_in_range = λ n. elim (cases_lt (length points) n) [
    | inl past ↦ subst (λ points. hull_multiple points ≤ MAX_GAPS) (sym (take_all n (points ++ point ∷ []) (omega (arith, past, length_push points point)))) gaps
    | inr within ↦ subst (λ points. hull_multiple points ≤ MAX_GAPS) (sym (take-append-le n points (point ∷ []) within)) (are.gaps_in_range n)
  ];
}

-- ---- slots

-- parts of one time unit are a fraction within its limits, and any two are alike
pub parts_fit : (most parts den : ℕ) → 1 ≤ den → den ≤ MAX_DENOMINATOR → parts / den ≤ most → IsFraction most (of_parts parts den)
parts_fit most parts den some in_range within = grind arith

-- works that pass the test of it are alike
pub alike_from_test : (x y : Fraction) → are_alike x y ≡ true → AreAlike x y
alike_from_test x y alike = grind arith

-- the work is alike with the works of its job so far
grain_alike : (job : ℕ) (work : Fraction) (slots : List WrittenSlot) →
    list_all (are_alike work) (filter_map (λ slot. if slot.job == job then Some slot.work else None) slots) ≡ true →
    All (λ slot. slot.job ≡ job → AreAlike work slot.work) slots
grain_alike job work [] alike = All-nil (λ slot. slot.job ≡ job → AreAlike work slot.work)
grain_alike job work (slot ∷ slots) alike = elim (cases_eq slot.job job) [
  | inl same ↦
      let works : List Fraction = filter_map (λ slot. if slot.job == job then Some slot.work else None) slots in
      let parts = and_parts (are_alike work slot.work) (list_all (are_alike work) works) (rw (eq-eqb slot.job job same) at alike) in
      All-cons (λ slot. slot.job ≡ job → AreAlike work slot.work) slot slots (λ this. alike_from_test work slot.work parts.0) (grain_alike job work slots parts.1)
  | inr other ↦
      All-cons (λ slot. slot.job ≡ job → AreAlike work slot.work) slot slots (λ this. absurd (other this)) (grain_alike job work slots (rw (ne_eqb slot.job job other) at alike))
]

-- works of one job stay alike with one more
grains_more : (slots : List WrittenSlot) (slot : WrittenSlot) → AreInGrain slots → All (λ other. other.job ≡ slot.job → AreAlike slot.work other.work) slots →
    AreInGrain (slots ++ slot ∷ [])
grains_more slots slot grains alike i j i_within j_within same = grind (arith, get_or_append_left, get_or_push, length_push, place_cases)

-- slots stay within the limits with one more
pub slots_more : (count : ℕ) (slots : List WrittenSlot) (slot : WrittenSlot) → AreSlotsOf count slots → length slots < MAX_SLOTS → IsSlot slot → slot.job < count →
    list_all (are_alike slot.work) (filter_map (λ other. if other.job == slot.job then Some other.work else None) slots) ≡ true →
    AreSlotsOf count (slots ++ slot ∷ [])
slots_more count slots slot are room fits known alike = record {
  few = omega (arith, length_push slots slot, room);
  fit = All-push IsSlot slots slot are.fit fits;
  known = All-push (λ slot. slot.job < count) slots slot are.known known;
  grains = grains_more slots slot are.grains (grain_alike slot.job slot.work slots alike);
}

-- the slots of some jobs are slots of more jobs
pub slots_of_more : (few many : ℕ) (slots : List WrittenSlot) → few ≤ many → AreSlotsOf few slots → AreSlotsOf many slots
slots_of_more few many slots more are =
    assumption (All-weaker (λ slot. slot.job < few) (λ slot. slot.job < many) (λ slot (known : slot.job < few). omega (arith, known, more)) slots are.known)

-- ---- levels

-- levels of so many jobs are levels of more jobs
pub levels_of_more : (few many : ℕ) (levels : List Level) → few ≤ many → AreLevelsOf few levels → AreLevelsOf many levels
levels_of_more few many levels more are =
    assumption (All-weaker (λ job. job < few) (λ job. job < many) (λ job (known : job < few). omega (arith, known, more)) (all_members levels) are.known)

-- levels stay within the limits with one more that is empty
pub levels_more : (count : ℕ) (levels : List Level) (work long : ℕ) → AreLevelsOf count levels → length levels < MAX_LEVELS → IsLevel (empty_level work long) →
    AreLevelsOf count (levels ++ empty_level work long ∷ [])
levels_more count levels work long are room fits =
    let pieces : all_pieces levels ≡ all_pieces (levels ++ empty_level work long ∷ []) =
    sym (append-nil (all_pieces levels)) ∙ flat_map_more (λ level. level.pieces) [] levels (empty_level work long) in
    let members : all_members levels ≡ all_members (levels ++ empty_level work long ∷ []) =
    sym (append-nil (all_members levels)) ∙ flat_map_more (λ level. level.members) [] levels (empty_level work long) in
    record {
      few = omega (arith, length_push levels (empty_level work long), room);
      few_pieces = subst (λ pieces. length pieces ≤ MAX_PIECES) pieces are.few_pieces;
      few_members = subst (λ members. length members ≤ MAX_MEMBERS) members are.few_members;
      fit = All-push IsLevel levels (empty_level work long) are.fit fits;
      known = subst (All (λ job. job < count)) members are.known;
    }

-- the last level gets a piece or a member
pub last_level_more : (count : ℕ) (before : List Level) (level : Level) (entry : Entry) → AreLevelsOf count (before ++ level ∷ []) →
    All IsPiece (filter_map piece_said (entry ∷ [])) → All (λ job. job < count) (filter_map member_said (entry ∷ [])) →
    length (all_pieces (before ++ level ∷ [])) + length (filter_map piece_said (entry ∷ [])) ≤ MAX_PIECES →
    length (all_members (before ++ level ∷ [])) + length (filter_map member_said (entry ∷ [])) ≤ MAX_MEMBERS →
    AreLevelsOf count (before ++ with_entry entry level ∷ [])
last_level_more count before level entry are pieces members few_pieces few_members =
    let all_of_pieces : all_pieces (before ++ level ∷ []) ++ filter_map piece_said (entry ∷ []) ≡ all_pieces (before ++ with_entry entry level ∷ []) =
    last_longer (λ level. level.pieces) before level (with_entry entry level) (filter_map piece_said (entry ∷ [])) refl in
    let all_of_members : all_members (before ++ level ∷ []) ++ filter_map member_said (entry ∷ []) ≡ all_members (before ++ with_entry entry level ∷ []) =
    last_longer (λ level. level.members) before level (with_entry entry level) (filter_map member_said (entry ∷ [])) refl in
    let this : IsLevel level = All-last IsLevel before level are.fit in
    record {
      few = omega (arith, length_push before level, length_push before (with_entry entry level), are.few);
      few_pieces = subst (λ pieces. length pieces ≤ MAX_PIECES) all_of_pieces
          (omega (arith, few_pieces, length-append (all_pieces (before ++ level ∷ [])) (filter_map piece_said (entry ∷ []))));
      few_members = subst (λ members. length members ≤ MAX_MEMBERS) all_of_members
          (omega (arith, few_members, length-append (all_members (before ++ level ∷ [])) (filter_map member_said (entry ∷ []))));
      fit = All-push IsLevel before (with_entry entry level) (All-front IsLevel before (level ∷ []) are.fit)
          (assumption (All-append IsPiece level.pieces (filter_map piece_said (entry ∷ [])) this.pieces pieces));
      known = subst (All (λ job. job < count)) all_of_members
          (All-append (λ job. job < count) (all_members (before ++ level ∷ [])) (filter_map member_said (entry ∷ [])) are.known members);
    }
