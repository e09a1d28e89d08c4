-- What is printed is read back: each part of the text brings the document that was read so far to a longer one.
use Rattle.yds_model.proofs.Common.{◌≡◌, ℕ, ◌+◌, ◌<◌, ◌≤◌, List, [], ◌∷◌, ◌++◌, length, get_or, take, true, map, ◌⊎◌, Option, Some, None, Ok, refl, sym, ap, subst, ◌∙◌, arith, inl, inr, append-nil, append_assoc, ◌==◌, if◌then◌else◌, MatchOption, All, list_all, filter_map, flat_map, zip, position, bytes_eq, get_or-append_seam, take-append-add, length-append, map-append, get_or_append_left, flat_map_more, flat_map-append, All-from_get_or, firsts-zip, seconds-zip, Job, IsJob, Fraction, WrittenSlot, no_written_slot, written_slot_at, Piece, Level, all_pieces, all_members, Point, IsTable, hull_multiple, Document, Grid, name_at, no_document, is_name, JobEntry, PointEntry, SlotEntry, LevelEntry, PieceEntry, MemberEntry, GridEntry, EnergyEntry, name_said, point_said, slot_said, piece_said, member_said, grid_said, energy_said, levels_said, job_named, line, job_line, job_lines, point_line, slot_line, piece_line, member_line, level_lines, grid_lines, energy_lines, canonical_text, follows_points, are_alike, fits_grain, IsFraction, IsDocument, IsPoint, IsSlot, IsLevel, IsPiece, IsGrid, AreInGrain, AreAlike}
use Rattle.model_lemmas.proofs.Said.{with_job, says-job, says-point, says-slot, says-level, of_piece, of_member, says-last, says-grid, says-energy, none_first}
use Rattle.base.specs.declared.limits.TheConstants.{MAX_JOBS, MAX_POINTS, MAX_GAPS, MAX_SLOTS, MAX_LEVELS, MAX_PIECES, MAX_MEMBERS, MAX_ENERGY}
use Rattle.yds_texts.specs.RoundTrip.{JobsAndSlotsAreRead, PrintedIsRead}
use Rattle.model_lemmas.proofs.Said.{Says}
use Rattle.yds_texts.proofs.Brought.{Brings, Brings-nil, Brings-append, Brings-line, Brings-each, read_whole}
use Rattle.yds_texts.proofs.JobNames.{name_new, name_known}
use Rattle.yds_texts.proofs.KindsRead.{job_texts, job_words, job_read, point_texts, point_words, point_read, follows_front, slot_texts, slot_words, slot_read, grain_test, level_texts, level_words, level_read, piece_texts, piece_words, piece_read, member_texts, member_words, member_read, grid_texts, grid_words, grid_read, energy_texts, energy_words, energy_read}

-- ---- an element of a list, and those before it

-- the list is as long as its three parts
length_before : {X : Type 0} (all before : List X) (x : X) (after : List X) → before ++ x ∷ after ≡ all → length all ≡ length before + 1 + length after
length_before all before x after is =
    let long : length all ≡ length before + length (x ∷ after) = ap length (sym is) ∙ length-append before (x ∷ after) in omega arith

-- what holds of each element of the list holds of this one
All-middle : {X : Type 0} (P : X → Type 0) (all before : List X) (x : X) (after : List X) → before ++ x ∷ after ≡ all → All P all → P x
All-middle P all before x after is holds =
    let long = length_before all before x after is in
    let here : get_or all (length before) x ≡ x = ap (λ xs. get_or xs (length before) x) (sym is) ∙ get_or-append_seam before x after x in
    subst P here (holds (length before) x (omega (arith, long)))

-- ---- what was read after each part

-- after the jobs: they and their names
abbrev pub after_jobs : Document → Document
after_jobs d = record no_document { names = d.names; jobs = d.jobs }

-- after the points: besides them the points
abbrev after_points : Document → Document
after_points d = record (after_jobs d) { points = d.points }

-- after the slots: besides them the slots
abbrev after_slots : Document → Document
after_slots d = record (after_points d) { slots = d.slots }

-- ---- jobs

-- the first jobs with their names
abbrev some_jobs : List (List ℕ × Job) → Document
some_jobs named = record no_document {
  names = map (λ (one : List ℕ × Job). one.0) named;
  jobs = map (λ (one : List ℕ × Job). one.1) named;
}

-- the lines of the jobs bring nothing to all of them
pub jobs_brought : (d : Document) → IsDocument d → Brings no_document (job_lines d.names d.jobs) (after_jobs d)
jobs_brought d fits =
    subst (λ after. Brings no_document (job_lines d.names d.jobs) after) whole (Brings-each some_jobs (λ named. job_line named.0 named.1) (zip d.names d.jobs) each)
  where
    -- there are as many names as jobs
    same : length d.jobs ≡ length d.names
    same = sym fits.jobs.one_name_each

    -- all pairs of them are the document's
    whole : some_jobs (zip d.names d.jobs) ≡ after_jobs d
    whole = rw (firsts-zip d.names d.jobs same, seconds-zip d.names d.jobs same) refl

    -- each job's line brings those before it to those with it
    each : (before : List (List ℕ × Job)) (x : List ℕ × Job) (after : List (List ℕ × Job)) → before ++ x ∷ after ≡ zip d.names d.jobs →
        Brings (some_jobs before) (job_line x.0 x.1) (some_jobs (before ++ x ∷ []))
    each before x after is =
        let names_before : List (List ℕ) = map (λ (one : List ℕ × Job). one.0) before in
        let names : names_before ++ x.0 ∷ map (λ (one : List ℕ × Job). one.0) after ≡ d.names =
        sym (map-append (λ (one : List ℕ × Job). one.0) before (x ∷ after)) ∙ ap (map (λ (one : List ℕ × Job). one.0)) is ∙ firsts-zip d.names d.jobs same in
        let jobs : map (λ (one : List ℕ × Job). one.1) before ++ x.1 ∷ map (λ (one : List ℕ × Job). one.1) after ≡ d.jobs =
        sym (map-append (λ (one : List ℕ × Job). one.1) before (x ∷ after)) ∙ ap (map (λ (one : List ℕ × Job). one.1)) is ∙ seconds-zip d.names d.jobs same in
        let named : is_name x.0 ≡ true = All-middle (λ name. is_name name ≡ true) d.names names_before x.0 _ names fits.jobs.names_fit in
        let job : IsJob x.1 = All-middle IsJob d.jobs _ x.1 _ jobs fits.jobs.jobs_fit in
        let few : length names_before < MAX_JOBS =
        omega (arith, length_before d.names names_before x.0 (map (λ (one : List ℕ × Job). one.0) after) names, fits.jobs.few, same) in
        let more : with_job x.0 x.1 (some_jobs before) ≡ some_jobs (before ++ x ∷ []) =
        rw (map-append (λ (one : List ℕ × Job). one.0) before (x ∷ []), map-append (λ (one : List ℕ × Job). one.1) before (x ∷ [])) refl in
        Brings-line (some_jobs before) (some_jobs (before ++ x ∷ [])) (job_texts x.0 x.1) (job_words x.0 x.1 named job) refl
        (λ earlier says.
        let known : filter_map name_said earlier ≡ names_before = ap (λ (d : Document). d.names) says.said in
        let new : job_named earlier x.0 ≡ None =
        ap (λ names. position (λ other. bytes_eq other x.0) names) known ∙ name_new d.names names_before x.0 _ fits.jobs.different names in
        let room : length (filter_map name_said earlier) < MAX_JOBS = omega (arith, ap {B = ℕ} length known, few) in
        (JobEntry x.0 x.1, job_read earlier x.0 x.1 job named new room, subst (Says (earlier ++ JobEntry x.0 x.1 ∷ [])) more (says-job earlier x.0 x.1 (some_jobs before) says)))

-- ---- slots

-- the document after the points, with the first slots
abbrev some_slots : Document → List WrittenSlot → Document
some_slots d slots = record (after_points d) { slots = slots }

-- the works that its job has before are alike with it
alike_before : (slots before : List WrittenSlot) (slot : WrittenSlot) (after : List WrittenSlot) → AreInGrain slots → before ++ slot ∷ after ≡ slots →
    All (λ other. other.job ≡ slot.job → AreAlike slot.work other.work) before
alike_before slots before slot after grains is =
    All-from_get_or (λ other. other.job ≡ slot.job → AreAlike slot.work other.work) before no_written_slot (λ k within same.
    let long = length_before slots before slot after is in
    let here : written_slot_at slots (length before) ≡ slot =
    ap (λ slots. written_slot_at slots (length before)) (sym is) ∙ get_or-append_seam before slot after no_written_slot in
    let there : written_slot_at slots k ≡ get_or before k no_written_slot =
    ap (λ slots. written_slot_at slots k) (sym is) ∙ get_or_append_left before (slot ∷ after) no_written_slot k within in
    let alike = grains (length before) k (omega (arith, long)) (omega (arith, long, within)) (ap (λ slot. slot.job) here ∙ sym same ∙ sym (ap (λ slot. slot.job) there)) in
    subst (λ slot. AreAlike slot.work (get_or before k no_written_slot).work) here
    (subst (λ other. AreAlike (written_slot_at slots (length before)).work other.work) there alike))

-- the lines of the slots bring the points to all of the slots
slots_brought : (d : Document) → IsDocument d → Brings (after_points d) (flat_map (slot_line d.names) d.slots) (after_slots d)
slots_brought d fits = Brings-each (some_slots d) (slot_line d.names) d.slots each
  where
    -- each slot's line brings those before it to those with it
    each : (before : List WrittenSlot) (slot : WrittenSlot) (after : List WrittenSlot) → before ++ slot ∷ after ≡ d.slots →
        Brings (some_slots d before) (slot_line d.names slot) (some_slots d (before ++ slot ∷ []))
    each before slot after is =
        let name : List ℕ = name_at d.names slot.job in
        let known : slot.job < length d.names = All-middle (λ slot. slot.job < length d.names) d.slots before slot after is fits.slots.known in
        let named : is_name name ≡ true = fits.jobs.names_fit slot.job [] known in
        let slot_fits : IsSlot slot = All-middle IsSlot d.slots before slot after is fits.slots.fit in
        let few : length before < MAX_SLOTS = omega (arith, length_before d.slots before slot after is, fits.slots.few) in
        Brings-line (some_slots d before) (some_slots d (before ++ slot ∷ [])) (slot_texts name slot) (slot_words name slot named slot_fits) refl
        (λ earlier says.
        let number : job_named earlier name ≡ Some slot.job =
        ap (λ (d : Document). position (λ other. bytes_eq other name) d.names) says.said ∙ name_known d.names slot.job fits.jobs.different known in
        let slots : filter_map slot_said earlier ≡ before = ap (λ (d : Document). d.slots) says.said in
        let grain : fits_grain earlier slot.job slot.work ≡ true =
        ap (λ slots. list_all (are_alike slot.work) (filter_map (λ other. if other.job == slot.job then Some other.work else None) slots)) slots
        ∙ grain_test slot.job slot.work before (alike_before d.slots before slot after fits.slots.grains is) in
        let room : length (filter_map slot_said earlier) < MAX_SLOTS = omega (arith, ap {B = ℕ} length slots, few) in
        (SlotEntry slot, slot_read earlier name slot slot_fits named number grain room, says-slot earlier slot (some_slots d before) says))

-- ---- points

-- the document after the jobs, with the first points
abbrev some_points : Document → List Point → Document
some_points d points = record (after_jobs d) { points = points }

-- there is a point, so the points are a table
table_of : (points before : List Point) (point : Point) (after : List Point) → before ++ point ∷ after ≡ points → (points ≡ []) ⊎ IsTable points →
    IsTable (before ++ point ∷ after)
table_of points before point after is (inl none) = absurd (middle_is_some before point after (is ∙ none))
  where
    -- a list with this element isn't empty
    middle_is_some : (before : List Point) (point : Point) (after : List Point) → before ++ point ∷ after ≡ [] → ⊥
    middle_is_some [] point after none = cc
    middle_is_some (first ∷ before) point after none = cc
table_of points before point after is (inr table) = subst IsTable (sym is) table

-- the lines of the points bring the jobs to all of the points
points_brought : (d : Document) → IsDocument d → Brings (after_jobs d) (flat_map point_line d.points) (after_points d)
points_brought d fits = Brings-each (some_points d) point_line d.points each
  where
    -- each point's line brings those before it to those with it
    each : (before : List Point) (point : Point) (after : List Point) → before ++ point ∷ after ≡ d.points →
        Brings (some_points d before) (point_line point) (some_points d (before ++ point ∷ []))
    each before point after is =
        let point_fits : IsPoint point = All-middle IsPoint d.points before point after is fits.points.fit in
        let few : length before < MAX_POINTS = omega (arith, length_before d.points before point after is, fits.points.few) in
        let front : take (length before + 1) d.points ≡ before ++ point ∷ [] =
        ap (take (length before + 1)) (sym is) ∙ take-append-add before (point ∷ after) 1 in
        let gaps : hull_multiple (before ++ point ∷ []) ≤ MAX_GAPS = subst (λ points. hull_multiple points ≤ MAX_GAPS) front (fits.points.gaps_in_range (length before + 1)) in
        let table : IsTable (before ++ point ∷ after) = table_of d.points before point after is fits.points.table in
        Brings-line (some_points d before) (some_points d (before ++ point ∷ [])) (point_texts point) (point_words point point_fits) refl
        (λ earlier says.
        let points : filter_map point_said earlier ≡ before = ap (λ (d : Document). d.points) says.said in
        let room : length (filter_map point_said earlier) < MAX_POINTS = omega (arith, ap {B = ℕ} length points, few) in
        let follows : (column : ℕ) → follows_points (filter_map point_said earlier) point.speed column ≡ Ok true =
        λ column. ap (λ points. follows_points points point.speed column) points ∙ follows_front before point after table column in
        let fine : hull_multiple (filter_map point_said earlier ++ point ∷ []) ≤ MAX_GAPS = subst (λ points. hull_multiple (points ++ point ∷ []) ≤ MAX_GAPS) (sym points) gaps in
        (PointEntry point, point_read earlier point point_fits room follows fine, says-point earlier point (some_points d before) says))

-- ---- levels

-- the document after the slots, with the first levels
abbrev some_levels : Document → List Level → Document
some_levels d levels = record (after_slots d) { levels = levels }

-- up to these pieces and members of a level
abbrev within_level : Document → List Level → Level → List Piece → List ℕ → Document
within_level d before level pieces members = some_levels d (before ++ record { work = level.work; length = level.length; pieces = pieces; members = members } ∷ [])

-- an element of the list of one of some elements, in the lists of all of them
joined_middle : {X A : Type 0} (f : X → List A) (all before : List X) (x : X) (after : List X) → before ++ x ∷ after ≡ all →
    (front : List A) (a : A) (back : List A) → front ++ a ∷ back ≡ f x → (flat_map f before ++ front) ++ a ∷ (back ++ flat_map f after) ≡ flat_map f all
joined_middle f all before x after is front a back here =
    append_assoc (flat_map f before) front (a ∷ (back ++ flat_map f after))
    ∙ ap (λ xs. flat_map f before ++ xs) (sym (append_assoc front (a ∷ back) (flat_map f after)) ∙ ap (λ xs. xs ++ flat_map f after) here)
    ∙ sym (flat_map-append f before (x ∷ after))
    ∙ ap (flat_map f) is

-- a piece's line brings its level's pieces before it to those with it
piece_brought : (d : Document) → IsDocument d → (before : List Level) (level : Level) (after : List Level) → before ++ level ∷ after ≡ d.levels →
    (front : List Piece) (piece : Piece) (back : List Piece) → front ++ piece ∷ back ≡ level.pieces →
    Brings (within_level d before level front []) (piece_line piece) (within_level d before level (front ++ piece ∷ []) [])
piece_brought d fits before level after is front piece back here =
    let so_far : Level = record { work = level.work; length = level.length; pieces = front; members = [] } in
    let level_fits : IsLevel level = All-middle IsLevel d.levels before level after is fits.levels.fit in
    let piece_fits : IsPiece piece = All-middle IsPiece level.pieces front piece back here level_fits.pieces in
    let middle = joined_middle (λ level. level.pieces) d.levels before level after is front piece back here in
    let few : length (all_pieces before ++ front) < MAX_PIECES =
    omega (arith, length_before (all_pieces d.levels) (all_pieces before ++ front) piece (back ++ all_pieces after) middle, fits.levels.few_pieces) in
    Brings-line (within_level d before level front []) (within_level d before level (front ++ piece ∷ []) []) (piece_texts piece) (piece_words piece piece_fits) refl
    (λ earlier says.
    let levels : levels_said earlier ≡ before ++ so_far ∷ [] = ap (λ (d : Document). d.levels) says.said in
    let some : 0 < length (levels_said earlier) = omega (arith, ap {B = ℕ} length levels, length-append before (so_far ∷ [])) in
    let pieces : filter_map piece_said earlier ≡ all_pieces before ++ front = says.pieces ∙ sym (flat_map_more (λ level. level.pieces) [] before so_far) in
    let room : length (filter_map piece_said earlier) < MAX_PIECES = omega (arith, ap {B = ℕ} length pieces, few) in
    let kind = of_piece piece in (
      PieceEntry piece,
      piece_read earlier piece piece_fits some room,
      says-last earlier before so_far (PieceEntry piece) (within_level d before level front []) refl kind refl says,
    ))

-- a member's line brings its level's members before it to those with it
member_brought : (d : Document) → IsDocument d → (before : List Level) (level : Level) (after : List Level) → before ++ level ∷ after ≡ d.levels →
    (front : List ℕ) (member : ℕ) (back : List ℕ) → front ++ member ∷ back ≡ level.members →
    Brings (within_level d before level level.pieces front) (member_line d.names member) (within_level d before level level.pieces (front ++ member ∷ []))
member_brought d fits before level after is front member back here =
    let so_far : Level = record { work = level.work; length = level.length; pieces = level.pieces; members = front } in
    let name : List ℕ = name_at d.names member in
    let middle = joined_middle (λ level. level.members) d.levels before level after is front member back here in
    let known : member < length d.names =
    All-middle (λ job. job < length d.names) (all_members d.levels) (all_members before ++ front) member (back ++ all_members after) middle fits.levels.known in
    let named : is_name name ≡ true = fits.jobs.names_fit member [] known in
    let few : length (all_members before ++ front) < MAX_MEMBERS =
    omega (arith, length_before (all_members d.levels) (all_members before ++ front) member (back ++ all_members after) middle, fits.levels.few_members) in
    Brings-line (within_level d before level level.pieces front) (within_level d before level level.pieces (front ++ member ∷ [])) (member_texts name) (member_words name named) refl
    (λ earlier says.
    let levels : levels_said earlier ≡ before ++ so_far ∷ [] = ap (λ (d : Document). d.levels) says.said in
    let some : 0 < length (levels_said earlier) = omega (arith, ap {B = ℕ} length levels, length-append before (so_far ∷ [])) in
    let members : filter_map member_said earlier ≡ all_members before ++ front = says.members ∙ sym (flat_map_more (λ level. level.members) [] before so_far) in
    let room : length (filter_map member_said earlier) < MAX_MEMBERS = omega (arith, ap {B = ℕ} length members, few) in
    let number : job_named earlier name ≡ Some member =
    ap (λ (d : Document). position (λ other. bytes_eq other name) d.names) says.said ∙ name_known d.names member fits.jobs.different known in
    let kind = of_member member in
    let said : Says (earlier ++ MemberEntry member ∷ []) (within_level d before level (level.pieces ++ []) (front ++ member ∷ [])) =
    says-last earlier before so_far (MemberEntry member) (within_level d before level level.pieces front) refl kind refl says in (
      MemberEntry member,
      member_read earlier name member named number some room,
      subst (λ pieces. Says (earlier ++ MemberEntry member ∷ []) (within_level d before level pieces (front ++ member ∷ []))) (append-nil level.pieces) said,
    ))

-- so the lines of a level bring those before it to those with it
level_brought : (d : Document) → IsDocument d → (before : List Level) (level : Level) (after : List Level) → before ++ level ∷ after ≡ d.levels →
    Brings (some_levels d before) (level_lines d.names level) (some_levels d (before ++ level ∷ []))
level_brought d fits before level after is =
    let level_fits : IsLevel level = All-middle IsLevel d.levels before level after is fits.levels.fit in
    let few : length before < MAX_LEVELS = omega (arith, length_before d.levels before level after is, fits.levels.few) in
    let head : Brings (some_levels d before) (line (level_texts level)) (within_level d before level [] []) =
    Brings-line (some_levels d before) (within_level d before level [] []) (level_texts level) (level_words level level_fits) refl
    (λ earlier says.
    let levels : levels_said earlier ≡ before = ap (λ (d : Document). d.levels) says.said in
    let room : length (levels_said earlier) < MAX_LEVELS = omega (arith, ap {B = ℕ} length levels, few) in (
      LevelEntry level.work level.length,
      level_read earlier level level_fits room,
      says-level earlier level.work level.length (some_levels d before) says,
    )) in
    let pieces : Brings (within_level d before level [] []) (flat_map piece_line level.pieces) (within_level d before level level.pieces []) =
    Brings-each (λ pieces. within_level d before level pieces []) piece_line level.pieces (piece_brought d fits before level after is) in
    let members : Brings (within_level d before level level.pieces []) (flat_map (member_line d.names) level.members) (some_levels d (before ++ level ∷ [])) =
    Brings-each (within_level d before level level.pieces) (member_line d.names) level.members (member_brought d fits before level after is) in
    Brings-append (some_levels d before) (within_level d before level level.pieces []) (some_levels d (before ++ level ∷ []))
    (line (level_texts level) ++ flat_map piece_line level.pieces) (flat_map (member_line d.names) level.members)
    (Brings-append (some_levels d before) (within_level d before level [] []) (within_level d before level level.pieces []) (line (level_texts level)) (flat_map piece_line level.pieces) head pieces)
    members

-- and the lines of the levels bring the slots to all of the levels
levels_brought : (d : Document) → IsDocument d → Brings (after_slots d) (flat_map (level_lines d.names) d.levels) (some_levels d d.levels)
levels_brought d fits = Brings-each (some_levels d) (level_lines d.names) d.levels (level_brought d fits)

-- ---- the grid and the energy

-- the document after the levels, with a grid and an energy
abbrev with_both : Document → Option Grid → Option Fraction → Document
with_both d grid energy = record (some_levels d d.levels) { grid = grid; energy = energy }

-- the grid's line, where there is one, brings the grid
grid_brought : (d : Document) (grid : Option Grid) → MatchOption grid (Unit {0}) IsGrid → Brings (some_levels d d.levels) (grid_lines grid) (with_both d grid None)
grid_brought d None fits = Brings-nil (some_levels d d.levels)
grid_brought d (Some grid) fits =
    Brings-line (some_levels d d.levels) (with_both d (Some grid) None) (grid_texts grid) (grid_words grid fits) refl
    (λ earlier says.
    let none : filter_map grid_said earlier ≡ [] = none_first (filter_map grid_said earlier) (ap (λ (d : Document). d.grid) says.said) in
    (GridEntry grid, grid_read earlier grid fits none, says-grid earlier grid (some_levels d d.levels) refl says))

-- the energy's line, where there is one, brings the energy
energy_brought : (d : Document) (energy : Option Fraction) → MatchOption energy (Unit {0}) (IsFraction MAX_ENERGY) →
    Brings (with_both d d.grid None) (energy_lines energy) (with_both d d.grid energy)
energy_brought d None fits = Brings-nil (with_both d d.grid None)
energy_brought d (Some energy) fits =
    Brings-line (with_both d d.grid None) (with_both d d.grid (Some energy)) (energy_texts energy) (energy_words energy fits) refl
    (λ earlier says.
    let none : filter_map energy_said earlier ≡ [] = none_first (filter_map energy_said earlier) (ap (λ (d : Document). d.energy) says.said) in
    (EnergyEntry energy, energy_read earlier energy fits none, says-energy earlier energy (with_both d d.grid None) refl says))

-- ---- the whole

-- the text of a document within the limits brings the document
pub text_brought : (d : Document) → IsDocument d → Brings no_document (canonical_text d) d
text_brought d fits =
    let jobs : List ℕ = job_lines d.names d.jobs in
    let points : List ℕ = flat_map point_line d.points in
    let slots : List ℕ = flat_map (slot_line d.names) d.slots in
    let levels : List ℕ = flat_map (level_lines d.names) d.levels in
    let grid : List ℕ = grid_lines d.grid in
    let energy : List ℕ = energy_lines d.energy in
    let after_levels : Document = some_levels d d.levels in
    let after_grid : Document = with_both d d.grid None in
    let two = Brings-append no_document (after_jobs d) (after_points d) jobs points (jobs_brought d fits) (points_brought d fits) in
    let three = Brings-append no_document (after_points d) (after_slots d) (jobs ++ points) slots two (slots_brought d fits) in
    let four = Brings-append no_document (after_slots d) after_levels (jobs ++ points ++ slots) levels three (levels_brought d fits) in
    let five = Brings-append no_document after_levels after_grid (jobs ++ points ++ slots ++ levels) grid four (grid_brought d d.grid fits.grid) in
    Brings-append no_document after_grid d (jobs ++ points ++ slots ++ levels ++ grid) energy five (energy_brought d d.energy fits.energy)

-- the law: so it is read as the document
pub printed_is_read : PrintedIsRead
printed_is_read d fits = read_whole (canonical_text d) d (text_brought d fits)

-- the law: the same of jobs and slots alone
pub jobs_and_slots_are_read : JobsAndSlotsAreRead
jobs_and_slots_are_read d fits only = printed_is_read d fits
