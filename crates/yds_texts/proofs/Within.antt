-- What is read keeps the limits: each line that is read brings a document within them to another.
use Rattle.yds_model.proofs.Common.{◌≡◌, ℕ, ◌+◌, ◌-◌, ◌*◌, ◌/◌, ◌<◌, ◌≤◌, true, false, nat_le, nat_lt, ◌==◌, List, [], ◌∷◌, ◌++◌, length, Some, None, Ok, refl, sym, ap, subst, ◌∙◌, arith, if◌then◌else◌, All, list_all, filter_map, position, slice_index_or, bytes_eq, div-le_of_le-mul, leb-true, ltb-true, length_push, All-nil, All-cons, All-push, All-head, Job, IsJob, of_parts, WrittenSlot, Piece, Level, all_pieces, all_members, Point, hull_multiple, Document, Grid, no_document, Line, Field, lines_of, fields_of, Entry, JobEntry, PointEntry, SlotEntry, LevelEntry, PieceEntry, MemberEntry, TicksEntry, GridEntry, EnergyEntry, name_said, point_said, slot_said, piece_said, member_said, ticks_said, grid_said, energy_said, is_level, document_said, ◌>>=◌, demand, field_at, Kind, JobLine, PointLine, SlotLine, LevelLine, PieceLine, MemberLine, TicksLine, RunLine, GridLine, EnergyLine, may_follow, has_room, number_in, fraction_in, new_name, known_job, are_alike, fits_grain, follows_points, read_job, read_point, read_slot, read_level, read_piece, read_member, read_ticks, read_run_at, read_grid, read_energy, read_kind, read_fields, read_line, live_lines, read_after, IsFraction, IsDocument, AreLevelsOf, IsPoint, IsSlot, IsPiece, IsLevel, IsGrid, AreNamedJobs}
use Rattle.model_lemmas.proofs.Said.{says_other, none_said, more_said, with_job, says-job, with_point, says-point, with_slot, says-slot, with_levels, empty_level, says-level, with_entry, IsOfLevels, of_piece, of_member, says-last, with_grid, says-grid, with_energy, says-energy, said-ticks, levels_counted}
use Rattle.fraction_lemmas.proofs.Fractions.{parts_alike}
use Rattle.base.specs.declared.limits.TheConstants.{MAX_JOBS, MAX_TIME, MAX_WORK, MAX_RUN_SPEED, MAX_POINTS, MAX_POINT_SPEED, MAX_POINT_POWER, MAX_GAPS, MAX_SLOTS, MAX_SLOT_WORK, MAX_LEVELS, MAX_LEVEL_WORK, MAX_LEVEL_LENGTH, MAX_PIECES, MAX_MEMBERS, MAX_TICKS, MAX_DENOMINATOR, MAX_GRID, MAX_ROUNDED, MAX_ENERGY}
use Rattle.yds_model.specs.declared.reason.Reason.TheVariants as reasons
use Rattle.yds_texts.specs.RoundTrip.{ReadIsWithinLimits, CanonicalTextIsRead}
use Rattle.model_lemmas.proofs.Said.{Says}
use Rattle.yds_texts.proofs.Inverse.{demand_ok, one_step, two_steps, four_steps, entry_made, number_ok, fraction_ok, name_ok, known_ok, fields_ok, no_first, on_line_ok, read_of, lines_keep}
use Rattle.yds_texts.proofs.Grown.{jobs_more, points_more, slots_more, slots_of_more, levels_of_more, levels_more, last_level_more, alike_from_test, parts_fit}
use Rattle.yds_texts.proofs.RoundTrip.{printed_is_read}

-- a number of ticks within its limits
pub record IsTicks (ticks : ℕ) : Type 0 where
  pub some : 1 ≤ ticks
  pub in_range : ticks ≤ MAX_TICKS

-- these entries say this document, which is within the limits
pub record IsRead (entries : List Entry) (d : Document) : Type 0 where
  pub says : Says entries d
  pub fits : IsDocument d
  pub ticks : All IsTicks (filter_map ticks_said entries)

-- some document within the limits
pub record IsSaid (entries : List Entry) : Type 0 where
  pub document : Document
  pub is : IsRead entries document

-- an entry that says no ticks
no_ticks : (entries : List Entry) (entry : Entry) (d after : Document) → IsRead entries d → ticks_said entry ≡ None → Says (entries ++ entry ∷ []) after → IsDocument after →
    IsSaid (entries ++ entry ∷ [])
no_ticks entries entry d after read none says fits = record {
  document = after;
  is = record { says = says; fits = fits; ticks = subst (All IsTicks) (sym (none_said ticks_said entries entry none)) read.ticks };
}

-- ---- each kind of line

-- a job's line
job_within : (entries : List Entry) (d : Document) (fields : List Field) (entry : Entry) → IsRead entries d → has_room JobLine entries ≡ true →
    read_job entries fields ≡ Ok entry → IsSaid (entries ++ entry ∷ [])
job_within entries d fields entry read room is =
    let parts =
    four_steps (new_name entries (field_at fields 1)) (number_in 0 MAX_TIME (field_at fields 2)) (number_in 0 MAX_TIME (field_at fields 3)) (number_in 0 MAX_WORK (field_at fields 4))
    (λ name release deadline work. demand (nat_lt release deadline) (field_at fields 3).column reasons.EmptyWindow >>= (λ window. Ok (JobEntry name (record { release = release; deadline = deadline; work = work }))))
    entry is in
    let job : Job = record { release = parts.1; deadline = parts.2; work = parts.3 } in
    let last = one_step (demand (nat_lt parts.1 parts.2) (field_at fields 3).column reasons.EmptyWindow) (λ window. Ok (JobEntry parts.0 job)) entry parts.8 in
    let made : JobEntry parts.0 job ≡ entry = entry_made (JobEntry parts.0 job) entry last.2 in
    let named = name_ok entries (field_at fields 1) parts.0 parts.4 in
    let names : filter_map name_said entries ≡ d.names = ap (λ (d : Document). d.names) read.says.said in
    let fits : IsJob job = record {
      has_window = ltb-true parts.1 parts.2 (demand_ok (nat_lt parts.1 parts.2) (field_at fields 3).column reasons.EmptyWindow last.0 last.1);
      time_in_range = (number_ok 0 MAX_TIME (field_at fields 3) parts.2 parts.6).1;
      work_in_range = (number_ok 0 MAX_WORK (field_at fields 4) parts.3 parts.7).1;
    } in
    let few : length d.names < MAX_JOBS = omega (arith, ltb-true (length (filter_map name_said entries)) MAX_JOBS room, ap {B = ℕ} length names) in
    let new : position (λ other. bytes_eq other parts.0) d.names ≡ None = subst (λ names. position (λ other. bytes_eq other parts.0) names ≡ None) names named.1 in
    let more : length d.names ≤ length (d.names ++ parts.0 ∷ []) = omega (arith, length_push d.names parts.0) in
    subst (λ entry. IsSaid (entries ++ entry ∷ [])) made
    (no_ticks entries (JobEntry parts.0 job) d (with_job parts.0 job d) read refl (says-job entries parts.0 job d read.says) (assumption (
      jobs_more d.names d.jobs parts.0 job read.fits.jobs few named.0 new fits,
      slots_of_more (length d.names) (length (d.names ++ parts.0 ∷ [])) d.slots more read.fits.slots,
      levels_of_more (length d.names) (length (d.names ++ parts.0 ∷ [])) d.levels more read.fits.levels,
    )))

-- a point's line
point_within : (entries : List Entry) (d : Document) (fields : List Field) (entry : Entry) → IsRead entries d → has_room PointLine entries ≡ true →
    read_point entries fields ≡ Ok entry → IsSaid (entries ++ entry ∷ [])
point_within entries d fields entry read room is =
    let column : ℕ = (field_at fields 1).column in
    let parts =
    two_steps (number_in 0 MAX_POINT_SPEED (field_at fields 1)) (number_in 0 MAX_POINT_POWER (field_at fields 2))
    (λ speed power. follows_points (filter_map point_said entries) speed (field_at fields 1).column
    >>= (λ rising. demand (nat_le (hull_multiple (filter_map point_said entries ++ record { speed = speed; power = power } ∷ [])) MAX_GAPS) (field_at fields 1).column reasons.GapsTooFine
    >>= (λ coarse. Ok (PointEntry (record { speed = speed; power = power }))))) entry is in
    let point : Point = record { speed = parts.0; power = parts.1 } in
    let last =
    two_steps (follows_points (filter_map point_said entries) parts.0 (field_at fields 1).column)
    (demand (nat_le (hull_multiple (filter_map point_said entries ++ point ∷ [])) MAX_GAPS) (field_at fields 1).column reasons.GapsTooFine)
    (λ rising coarse. Ok (PointEntry point)) entry parts.4 in
    let made : PointEntry point ≡ entry = entry_made (PointEntry point) entry last.4 in
    let points : filter_map point_said entries ≡ d.points = ap (λ (d : Document). d.points) read.says.said in
    let fits : IsPoint point =
    assumption (number_ok 0 MAX_POINT_SPEED (field_at fields 1) parts.0 parts.2, number_ok 0 MAX_POINT_POWER (field_at fields 2) parts.1 parts.3) in
    let few : length d.points < MAX_POINTS = omega (arith, ltb-true (length (filter_map point_said entries)) MAX_POINTS room, ap {B = ℕ} length points) in
    let follows : follows_points d.points point.speed column ≡ Ok last.0 = subst (λ points. follows_points points parts.0 column ≡ Ok last.0) points last.2 in
    let gaps : hull_multiple (filter_map point_said entries ++ point ∷ []) ≤ MAX_GAPS =
    leb-true (hull_multiple (filter_map point_said entries ++ point ∷ [])) MAX_GAPS
    (demand_ok (nat_le (hull_multiple (filter_map point_said entries ++ point ∷ [])) MAX_GAPS) (field_at fields 1).column reasons.GapsTooFine last.1 last.3) in
    subst (λ entry. IsSaid (entries ++ entry ∷ [])) made
    (no_ticks entries (PointEntry point) d (with_point point d) read refl (says-point entries point d read.says)
    (assumption (points_more d.points point column last.0 read.fits.points few fits follows (subst (λ points. hull_multiple (points ++ point ∷ []) ≤ MAX_GAPS) points gaps))))

-- a slot, of a slot's line or of a run's
one_slot : (entries : List Entry) (d : Document) (slot : WrittenSlot) → IsRead entries d → IsSlot slot → slot.job < length (filter_map name_said entries) →
    fits_grain entries slot.job slot.work ≡ true → length (filter_map slot_said entries) < MAX_SLOTS → IsSaid (entries ++ SlotEntry slot ∷ [])
one_slot entries d slot read fits known alike room =
    let names : filter_map name_said entries ≡ d.names = ap (λ (d : Document). d.names) read.says.said in
    let slots : filter_map slot_said entries ≡ d.slots = ap (λ (d : Document). d.slots) read.says.said in
    let grain : list_all (are_alike slot.work) (filter_map (λ other. if other.job == slot.job then Some other.work else None) d.slots) ≡ true =
    subst (λ slots. list_all (are_alike slot.work) (filter_map (λ other. if other.job == slot.job then Some other.work else None) slots) ≡ true) slots alike in
    no_ticks entries (SlotEntry slot) d (with_slot slot d) read refl (says-slot entries slot d read.says)
    (assumption (slots_more (length d.names) d.slots slot read.fits.slots (omega (arith, room, ap {B = ℕ} length slots)) fits (omega (arith, known, ap {B = ℕ} length names)) grain))

-- a slot's line
slot_within : (entries : List Entry) (d : Document) (fields : List Field) (entry : Entry) → IsRead entries d → has_room SlotLine entries ≡ true →
    read_slot entries fields ≡ Ok entry → IsSaid (entries ++ entry ∷ [])
slot_within entries d fields entry read room is =
    let parts =
    four_steps (known_job entries (field_at fields 1)) (fraction_in MAX_TIME (field_at fields 2)) (fraction_in MAX_TIME (field_at fields 3)) (fraction_in MAX_SLOT_WORK (field_at fields 4))
    (λ job from to work. demand (are_alike from to) (field_at fields 3).column reasons.MixedEnds
    >>= (λ ends. demand (fits_grain entries job work) (field_at fields 4).column reasons.MixedGrain
    >>= (λ grain. Ok (SlotEntry (record { job = job; from = from; to = to; work = work }))))) entry is in
    let slot : WrittenSlot = record { job = parts.0; from = parts.1; to = parts.2; work = parts.3 } in
    let last =
    two_steps (demand (are_alike parts.1 parts.2) (field_at fields 3).column reasons.MixedEnds) (demand (fits_grain entries parts.0 parts.3) (field_at fields 4).column reasons.MixedGrain)
    (λ ends grain. Ok (SlotEntry slot)) entry parts.8 in
    let made : SlotEntry slot ≡ entry = entry_made (SlotEntry slot) entry last.4 in
    let fits : IsSlot slot = record {
      from = fraction_ok MAX_TIME (field_at fields 2) parts.1 parts.5;
      to = fraction_ok MAX_TIME (field_at fields 3) parts.2 parts.6;
      work = fraction_ok MAX_SLOT_WORK (field_at fields 4) parts.3 parts.7;
      ends_alike = alike_from_test parts.1 parts.2 (demand_ok (are_alike parts.1 parts.2) (field_at fields 3).column reasons.MixedEnds last.0 last.2);
    } in
    subst (λ entry. IsSaid (entries ++ entry ∷ [])) made
    (one_slot entries d slot read fits (known_ok entries (field_at fields 1) parts.0 parts.4)
    (demand_ok (fits_grain entries parts.0 parts.3) (field_at fields 4).column reasons.MixedGrain last.1 last.3)
    (ltb-true (length (filter_map slot_said entries)) MAX_SLOTS room))

-- the ticks that hold, 1 where no line says any
first_ticks : (ticks : List ℕ) → All IsTicks ticks → IsTicks (slice_index_or ticks 0 1)
first_ticks [] all = record { some = omega arith; in_range = omega arith }
first_ticks (first ∷ others) all = All-head IsTicks first others all

-- the line of a run, in parts of the ticks that hold
run_within : (entries : List Entry) (d : Document) (fields : List Field) (entry : Entry) (ticks : ℕ) → IsRead entries d → IsTicks ticks → has_room RunLine entries ≡ true →
    read_run_at ticks entries fields ≡ Ok entry → IsSaid (entries ++ entry ∷ [])
run_within entries d fields entry ticks read grain_of_time room is =
    let parts =
    four_steps (known_job entries (field_at fields 1)) (number_in 0 (MAX_TIME * ticks) (field_at fields 2)) (number_in 0 (MAX_TIME * ticks) (field_at fields 3)) (number_in 0 MAX_RUN_SPEED (field_at fields 4))
    (λ job from to speed. demand (nat_le (speed * (to - from) / ticks) MAX_SLOT_WORK) (field_at fields 4).column reasons.OutOfRange
    >>= (λ small. demand (fits_grain entries job (of_parts (speed * (to - from)) ticks)) (field_at fields 4).column reasons.MixedGrain
    >>= (λ grain. Ok (SlotEntry (record { job = job; from = of_parts from ticks; to = of_parts to ticks; work = of_parts (speed * (to - from)) ticks }))))) entry is in
    let slot : WrittenSlot = record { job = parts.0; from = of_parts parts.1 ticks; to = of_parts parts.2 ticks; work = of_parts (parts.3 * (parts.2 - parts.1)) ticks } in
    let last =
    two_steps (demand (nat_le (parts.3 * (parts.2 - parts.1) / ticks) MAX_SLOT_WORK) (field_at fields 4).column reasons.OutOfRange)
    (demand (fits_grain entries parts.0 (of_parts (parts.3 * (parts.2 - parts.1)) ticks)) (field_at fields 4).column reasons.MixedGrain)
    (λ small grain. Ok (SlotEntry slot)) entry parts.8 in
    let made : SlotEntry slot ≡ entry = entry_made (SlotEntry slot) entry last.4 in
    let from : parts.1 ≤ ticks * MAX_TIME = omega (arith, (number_ok 0 (MAX_TIME * ticks) (field_at fields 2) parts.1 parts.5).1) in
    let to : parts.2 ≤ ticks * MAX_TIME = omega (arith, (number_ok 0 (MAX_TIME * ticks) (field_at fields 3) parts.2 parts.6).1) in
    let small : parts.3 * (parts.2 - parts.1) / ticks ≤ MAX_SLOT_WORK =
    leb-true (parts.3 * (parts.2 - parts.1) / ticks) MAX_SLOT_WORK
    (demand_ok (nat_le (parts.3 * (parts.2 - parts.1) / ticks) MAX_SLOT_WORK) (field_at fields 4).column reasons.OutOfRange last.0 last.2) in
    let den : ticks ≤ MAX_DENOMINATOR = omega (arith, grain_of_time.in_range) in
    let fits : IsSlot slot = record {
      from = parts_fit MAX_TIME parts.1 ticks grain_of_time.some den (div-le_of_le-mul ticks from);
      to = parts_fit MAX_TIME parts.2 ticks grain_of_time.some den (div-le_of_le-mul ticks to);
      work = parts_fit MAX_SLOT_WORK (parts.3 * (parts.2 - parts.1)) ticks grain_of_time.some den small;
      ends_alike = parts_alike parts.1 parts.2 ticks;
    } in
    subst (λ entry. IsSaid (entries ++ entry ∷ [])) made
    (one_slot entries d slot read fits (known_ok entries (field_at fields 1) parts.0 parts.4)
    (demand_ok (fits_grain entries parts.0 (of_parts (parts.3 * (parts.2 - parts.1)) ticks)) (field_at fields 4).column reasons.MixedGrain last.1 last.3)
    (ltb-true (length (filter_map slot_said entries)) MAX_SLOTS room))

-- the document with other levels
levels_within : (entries : List Entry) (d : Document) (levels : List Level) (entry : Entry) → IsRead entries d → ticks_said entry ≡ None →
    Says (entries ++ entry ∷ []) (with_levels levels d) → AreLevelsOf (length d.names) levels → IsSaid (entries ++ entry ∷ [])
levels_within entries d levels entry read none says fits =
    no_ticks entries entry d (with_levels levels d) read none says (assumption fits)

-- as many levels are said as the document has
levels_are : (entries : List Entry) (d : Document) → IsRead entries d → length (filter_map (λ entry. if is_level entry then Some entry else None) entries) ≡ length d.levels
levels_are entries d read = levels_counted entries ∙ ap (λ (d : Document). length d.levels) read.says.said

-- a level's line
level_within : (entries : List Entry) (d : Document) (fields : List Field) (entry : Entry) → IsRead entries d → has_room LevelLine entries ≡ true →
    read_level fields ≡ Ok entry → IsSaid (entries ++ entry ∷ [])
level_within entries d fields entry read room is =
    let parts =
    two_steps (number_in 1 MAX_LEVEL_WORK (field_at fields 1)) (number_in 1 MAX_LEVEL_LENGTH (field_at fields 2)) (λ work long. Ok (LevelEntry work long)) entry is in
    let work = number_ok 1 MAX_LEVEL_WORK (field_at fields 1) parts.0 parts.2 in
    let long = number_ok 1 MAX_LEVEL_LENGTH (field_at fields 2) parts.1 parts.3 in
    let fits : IsLevel (empty_level parts.0 parts.1) = record { has_work = work.0; work_in_range = work.1; has_length = long.0; length_in_range = long.1; pieces = All-nil IsPiece } in
    let few : length d.levels < MAX_LEVELS =
    omega (arith, levels_are entries d read, ltb-true (length (filter_map (λ entry. if is_level entry then Some entry else None) entries)) MAX_LEVELS room) in
    subst (λ entry. IsSaid (entries ++ entry ∷ [])) (entry_made (LevelEntry parts.0 parts.1) entry parts.4)
    (levels_within entries d (d.levels ++ empty_level parts.0 parts.1 ∷ []) (LevelEntry parts.0 parts.1) read refl (says-level entries parts.0 parts.1 d read.says)
    (levels_more (length d.names) d.levels parts.0 parts.1 read.fits.levels few fits))

-- some levels have a last one
record HasLast (levels : List Level) : Type 0 where
  before : List Level
  last : Level
  is : levels ≡ before ++ last ∷ []

-- and levels of which there are some have one
has_last : (levels : List Level) → 0 < length levels → HasLast levels
has_last [] some = absurd (omega arith)
has_last (level ∷ []) some = record { before = []; last = level; is = refl }
has_last (level ∷ next ∷ levels) some =
    let rest = has_last (next ∷ levels) (omega arith) in record { before = level ∷ rest.before; last = rest.last; is = ap (λ levels. level ∷ levels) rest.is }

-- a piece or a member, after a level
last_within : (entries : List Entry) (d : Document) (entry : Entry) → IsRead entries d → 0 < length d.levels → is_level entry ≡ false → IsOfLevels entry → ticks_said entry ≡ None →
    All IsPiece (filter_map piece_said (entry ∷ [])) → All (λ job. job < length d.names) (filter_map member_said (entry ∷ [])) →
    length (filter_map piece_said entries) + length (filter_map piece_said (entry ∷ [])) ≤ MAX_PIECES →
    length (filter_map member_said entries) + length (filter_map member_said (entry ∷ [])) ≤ MAX_MEMBERS → IsSaid (entries ++ entry ∷ [])
last_within entries d entry read some other kind none pieces members few_pieces few_members =
    let last = has_last d.levels some in
    let all : AreLevelsOf (length d.names) (last.before ++ last.last ∷ []) = subst (AreLevelsOf (length d.names)) last.is read.fits.levels in
    let all_of_pieces : filter_map piece_said entries ≡ all_pieces (last.before ++ last.last ∷ []) = read.says.pieces ∙ ap all_pieces last.is in
    let all_of_members : filter_map member_said entries ≡ all_members (last.before ++ last.last ∷ []) = read.says.members ∙ ap all_members last.is in
    levels_within entries d (last.before ++ with_entry entry last.last ∷ []) entry read none (says-last entries last.before last.last entry d other kind last.is read.says)
    (last_level_more (length d.names) last.before last.last entry all pieces members
    (omega (arith, few_pieces, ap {B = ℕ} length all_of_pieces)) (omega (arith, few_members, ap {B = ℕ} length all_of_members)))

-- where an entry of a level was read, the document has a level
some_level : (entries : List Entry) (d : Document) → IsRead entries d → nat_lt 0 (length (filter_map (λ entry. if is_level entry then Some entry else None) entries)) ≡ true → 0 < length d.levels
some_level entries d read after =
    omega (arith, levels_are entries d read, ltb-true 0 (length (filter_map (λ entry. if is_level entry then Some entry else None) entries)) after)

-- a piece's line
piece_within : (entries : List Entry) (d : Document) (fields : List Field) (entry : Entry) → IsRead entries d → may_follow PieceLine entries ≡ true → has_room PieceLine entries ≡ true →
    read_piece fields ≡ Ok entry → IsSaid (entries ++ entry ∷ [])
piece_within entries d fields entry read after room is =
    let parts = two_steps (number_in 0 MAX_TIME (field_at fields 1)) (number_in 0 MAX_TIME (field_at fields 2)) (λ from to. Ok (PieceEntry (record { from = from; to = to }))) entry is in
    let piece : Piece = record { from = parts.0; to = parts.1 } in
    let fits : IsPiece piece = assumption (number_ok 0 MAX_TIME (field_at fields 1) parts.0 parts.2, number_ok 0 MAX_TIME (field_at fields 2) parts.1 parts.3) in
    let kind = of_piece piece in
    let members : filter_map member_said entries ≡ all_members d.levels = read.says.members in
    subst (λ entry. IsSaid (entries ++ entry ∷ [])) (entry_made (PieceEntry piece) entry parts.4)
    (last_within entries d (PieceEntry piece) read (some_level entries d read after) refl kind refl (All-cons IsPiece piece [] fits (All-nil IsPiece)) (All-nil (λ job. job < length d.names))
    (omega (arith, ltb-true (length (filter_map piece_said entries)) MAX_PIECES room))
    (omega (arith, ap {B = ℕ} length members, read.fits.levels.few_members)))

-- a member's line
member_within : (entries : List Entry) (d : Document) (fields : List Field) (entry : Entry) → IsRead entries d → may_follow MemberLine entries ≡ true → has_room MemberLine entries ≡ true →
    read_member entries fields ≡ Ok entry → IsSaid (entries ++ entry ∷ [])
member_within entries d fields entry read after room is =
    let parts = one_step (known_job entries (field_at fields 1)) (λ job. Ok (MemberEntry job)) entry is in
    let names : filter_map name_said entries ≡ d.names = ap (λ (d : Document). d.names) read.says.said in
    let known : parts.0 < length d.names = omega (arith, known_ok entries (field_at fields 1) parts.0 parts.1, ap {B = ℕ} length names) in
    let kind = of_member parts.0 in
    let pieces : filter_map piece_said entries ≡ all_pieces d.levels = read.says.pieces in
    subst (λ entry. IsSaid (entries ++ entry ∷ [])) (entry_made (MemberEntry parts.0) entry parts.2)
    (last_within entries d (MemberEntry parts.0) read (some_level entries d read after) refl kind refl (All-nil IsPiece)
    (All-cons (λ job. job < length d.names) parts.0 [] known (All-nil (λ job. job < length d.names)))
    (omega (arith, ap {B = ℕ} length pieces, read.fits.levels.few_pieces))
    (omega (arith, ltb-true (length (filter_map member_said entries)) MAX_MEMBERS room)))

-- a line of ticks
ticks_within : (entries : List Entry) (d : Document) (fields : List Field) (entry : Entry) → IsRead entries d → read_ticks fields ≡ Ok entry → IsSaid (entries ++ entry ∷ [])
ticks_within entries d fields entry read is =
    let parts = one_step (number_in 1 MAX_TICKS (field_at fields 1)) (λ ticks. Ok (TicksEntry ticks)) entry is in
    let range = number_ok 1 MAX_TICKS (field_at fields 1) parts.0 parts.1 in
    let fits : IsTicks parts.0 = record { some = range.0; in_range = range.1 } in
    subst (λ entry. IsSaid (entries ++ entry ∷ [])) (entry_made (TicksEntry parts.0) entry parts.2) (record {
      document = d;
      is = record {
        says = says_other entries (TicksEntry parts.0) d d refl refl refl (said-ticks entries parts.0 ∙ read.says.said) read.says;
        fits = read.fits;
        ticks = subst (All IsTicks) (sym (more_said ticks_said entries (TicksEntry parts.0) parts.0 refl)) (All-push IsTicks (filter_map ticks_said entries) parts.0 read.ticks fits);
      };
    })

-- the grid's line
grid_within : (entries : List Entry) (d : Document) (fields : List Field) (entry : Entry) → IsRead entries d → may_follow GridLine entries ≡ true →
    read_grid fields ≡ Ok entry → IsSaid (entries ++ entry ∷ [])
grid_within entries d fields entry read first is =
    let parts = two_steps (number_in 1 MAX_GRID (field_at fields 1)) (number_in 0 MAX_ROUNDED (field_at fields 2)) (λ grid rounded. Ok (GridEntry (record { grid = grid; rounded = rounded }))) entry is in
    let grid : Grid = record { grid = parts.0; rounded = parts.1 } in
    let one = number_ok 1 MAX_GRID (field_at fields 1) parts.0 parts.2 in
    let fits : IsGrid grid = record { some = one.0; grid_in_range = one.1; rounded_in_range = (number_ok 0 MAX_ROUNDED (field_at fields 2) parts.1 parts.3).1 } in
    let none : d.grid ≡ None = sym (ap (λ (d : Document). d.grid) read.says.said) ∙ no_first (filter_map grid_said entries) first in
    subst (λ entry. IsSaid (entries ++ entry ∷ [])) (entry_made (GridEntry grid) entry parts.4)
    (no_ticks entries (GridEntry grid) d (with_grid grid d) read refl (says-grid entries grid d none read.says) (assumption fits))

-- the energy's line
energy_within : (entries : List Entry) (d : Document) (fields : List Field) (entry : Entry) → IsRead entries d → may_follow EnergyLine entries ≡ true →
    read_energy fields ≡ Ok entry → IsSaid (entries ++ entry ∷ [])
energy_within entries d fields entry read first is =
    let parts = one_step (fraction_in MAX_ENERGY (field_at fields 1)) (λ energy. Ok (EnergyEntry energy)) entry is in
    let fits : IsFraction MAX_ENERGY parts.0 = fraction_ok MAX_ENERGY (field_at fields 1) parts.0 parts.1 in
    let none : d.energy ≡ None = sym (ap (λ (d : Document). d.energy) read.says.said) ∙ no_first (filter_map energy_said entries) first in
    subst (λ entry. IsSaid (entries ++ entry ∷ [])) (entry_made (EnergyEntry parts.0) entry parts.2)
    (no_ticks entries (EnergyEntry parts.0) d (with_energy parts.0 d) read refl (says-energy entries parts.0 d none read.says) (assumption fits))

-- so a line of each kind keeps the limits
kind_within : (kind : Kind) (entries : List Entry) (d : Document) (fields : List Field) (entry : Entry) → IsRead entries d → may_follow kind entries ≡ true → has_room kind entries ≡ true →
    read_kind kind entries fields ≡ Ok entry → IsSaid (entries ++ entry ∷ [])
kind_within JobLine entries d fields entry read after room is = job_within entries d fields entry read room is
kind_within PointLine entries d fields entry read after room is = point_within entries d fields entry read room is
kind_within SlotLine entries d fields entry read after room is = slot_within entries d fields entry read room is
kind_within LevelLine entries d fields entry read after room is = level_within entries d fields entry read room is
kind_within PieceLine entries d fields entry read after room is = piece_within entries d fields entry read after room is
kind_within MemberLine entries d fields entry read after room is = member_within entries d fields entry read after room is
kind_within TicksLine entries d fields entry read after room is = ticks_within entries d fields entry read is
kind_within RunLine entries d fields entry read after room is =
    run_within entries d fields entry (slice_index_or (filter_map ticks_said entries) 0 1) read (first_ticks (filter_map ticks_said entries) read.ticks) room is
kind_within GridLine entries d fields entry read after room is = grid_within entries d fields entry read after is
kind_within EnergyLine entries d fields entry read after room is = energy_within entries d fields entry read after is

-- ---- the lines

-- a line that is read keeps the limits
line_within : (entries : List Entry) (d : Document) (line : Line) (entry : Entry) → IsRead entries d → read_line entries line ≡ Ok entry → IsSaid (entries ++ entry ∷ [])
line_within entries d line entry read is =
    let parts = fields_ok entries (fields_of line.text) entry (on_line_ok line.number (read_fields entries (fields_of line.text)) entry is) in
    kind_within parts.0 entries d (fields_of line.text) entry read parts.1 parts.2 parts.3

-- without points the multiple of the gaps is within its limit
no_gaps : (points : List Point) → points ≡ [] → hull_multiple points ≤ MAX_GAPS
no_gaps [] none = omega arith
no_gaps (point ∷ points) none = absurd (cc)

-- a document of jobs alone, with their names, is within the limits
pub only_jobs : (names : List (List ℕ)) (jobs : List Job) → AreNamedJobs names jobs → IsDocument (record no_document { names = names; jobs = jobs })
only_jobs names jobs are = grind arith

-- no lines say an empty document, which is within the limits
no_lines : IsSaid []
no_lines = grind arith

-- the law: a document that is read is within the limits
pub read_is_within_limits : ReadIsWithinLimits
read_is_within_limits bytes d is =
    let lines = live_lines (lines_of bytes) in
    let all = read_of (λ entries. Ok (document_said entries)) (read_after [] lines) d is in
    let said = lines_keep read_line read_after IsSaid (λ earlier. refl) (λ earlier line lines. refl) (λ earlier line entry said. line_within earlier said.document line entry said.is)
    [] lines all.0 no_lines all.1 in
    let same : document_said all.0 ≡ d = cc all.2 in
    subst IsDocument (sym said.is.says.said ∙ same) said.is.fits

-- the law: its canonical text is read as the document
pub canonical_text_is_read : CanonicalTextIsRead
canonical_text_is_read bytes d is = printed_is_read d (read_is_within_limits bytes d is)
