-- How long the lines of a text are, and the text.
use Rattle.yds_model.proofs.Common.{◌≡◌, ℕ, zero, suc, ◌+◌, ◌*◌, ◌<◌, ◌≤◌, ◌^◌, true, ◌==◌, List, [], ◌∷◌, ◌++◌, length, get_or, All, decimal, Option, Some, None, arith, inl, inr, codes, MatchOption, join_with_byte, flat_map, mul-suc, and_parts, leb-true, cases_Bool, length-decimal-le, length-append, All-head, All-tail, All-weaker, Job, IsJob, Fraction, WrittenSlot, Piece, Level, all_pieces, all_members, Point, Document, Grid, name_at, is_name, line, fraction_text, job_line, job_lines, point_line, slot_line, piece_line, member_line, level_lines, grid_lines, energy_lines, canonical_text, IsFraction, IsPoint, IsSlot, IsLevel, IsPiece, IsGrid, IsDocument}
use Rattle.base.specs.declared.limits.TheConstants.{MAX_NAME, MAX_TIME, MAX_SLOT_WORK, MAX_ENERGY}
use Rattle.yds_texts.specs.RoundTrip.{LinesAreShort, TextIsShort}
use Rattle.yds_texts.proofs.KindsRead.{level_texts}

-- ---- fields

-- a name has at most its greatest length
name_short : (name : List ℕ) → is_name name ≡ true → length name ≤ MAX_NAME
name_short name named =
    let parts = and_parts _ _ named in
    leb-true (length name) MAX_NAME (and_parts _ _ parts.0).1

-- and so has the name of each number, or none
pub names_short : (names : List (List ℕ)) → All (λ name. is_name name ≡ true) names → (job : ℕ) → length (name_at names job) ≤ MAX_NAME
names_short [] named job = omega arith
names_short (name ∷ names) named zero = name_short name (All-head (λ name. is_name name ≡ true) name names named)
names_short (name ∷ names) named (suc job) = names_short names (All-tail (λ name. is_name name ≡ true) name names named) job

-- a fraction whose whole part has at most so many digits
fraction_short : (digits most : ℕ) (x : Fraction) → 0 < digits → most < 10 ^ digits → most < 2 ^ 64 → IsFraction most x → length (fraction_text x) ≤ digits + 40
fraction_short digits most x some large small fits =
    let whole : length (decimal x.whole) ≤ digits = length-decimal-le digits x.whole some (omega (arith, fits.whole_in_range, large)) (omega (arith, fits.whole_in_range, small)) in
    let num : length (decimal x.num) ≤ 19 = length-decimal-le 19 x.num (omega arith) (omega (arith, fits.below_one, fits.den_in_range)) (omega (arith, fits.below_one, fits.den_in_range)) in
    let den : length (decimal x.den) ≤ 19 = length-decimal-le 19 x.den (omega arith) (omega (arith, fits.den_in_range)) (omega (arith, fits.den_in_range)) in
    elim (cases_Bool (x.num == 0)) [
      | inl none ↦ rw none (omega (arith, whole))
      | inr other ↦ rw other (omega (
        arith,
        whole,
        num,
        den,
        length-append (decimal x.whole ++ codes "+" ++ decimal x.num ++ codes "/") (decimal x.den),
        length-append (decimal x.whole ++ codes "+" ++ decimal x.num) (codes "/"),
        length-append (decimal x.whole ++ codes "+") (decimal x.num),
        length-append (decimal x.whole) (codes "+"),
      ))
    ]

-- ---- lines

-- the fields, with one byte more for each
abbrev pub fields_length : List (List ℕ) → ℕ
fields_length [] = 0
fields_length (text ∷ texts) = length text + 1 + fields_length texts

-- a line is as long as that
pub line_length : (text : List ℕ) (texts : List (List ℕ)) → length (line (text ∷ texts)) ≡ fields_length (text ∷ texts)
line_length text [] = omega (arith, length-append text (10 ∷ []))
line_length text (next ∷ texts) =
    omega (
      arith,
      line_length next texts,
      length-append (text ++ (32 ∷ join_with_byte 32 (next ∷ texts))) (10 ∷ []),
      length-append text (32 ∷ join_with_byte 32 (next ∷ texts)),
      length-append (join_with_byte 32 (next ∷ texts)) (10 ∷ []),
    )

-- a job's line, by its fields
job_short : (name : List ℕ) (job : Job) → is_name name ≡ true → IsJob job → length (job_line name job) ≤ 99
job_short name job named fits =
    let release : length (decimal job.release) ≤ 10 = length-decimal-le 10 job.release (omega arith) (omega (arith, fits.has_window, fits.time_in_range)) (omega (arith, fits.has_window, fits.time_in_range)) in
    let deadline : length (decimal job.deadline) ≤ 10 = length-decimal-le 10 job.deadline (omega arith) (omega (arith, fits.time_in_range)) (omega (arith, fits.time_in_range)) in
    let work : length (decimal job.work) ≤ 7 = length-decimal-le 7 job.work (omega arith) (omega (arith, fits.work_in_range)) (omega (arith, fits.work_in_range)) in
    omega (arith, line_length (codes "job") (name ∷ decimal job.release ∷ decimal job.deadline ∷ decimal job.work ∷ []), name_short name named, release, deadline, work)

-- a point's line
point_short : (point : Point) → IsPoint point → length (point_line point) ≤ 19
point_short point fits =
    let speed : length (decimal point.speed) ≤ 4 = length-decimal-le 4 point.speed (omega arith) (omega (arith, fits.speed_in_range)) (omega (arith, fits.speed_in_range)) in
    let power : length (decimal point.power) ≤ 7 = length-decimal-le 7 point.power (omega arith) (omega (arith, fits.power_in_range)) (omega (arith, fits.power_in_range)) in
    omega (arith, line_length (codes "point") (decimal point.speed ∷ decimal point.power ∷ []), speed, power)

-- a slot's line
slot_short : (names : List (List ℕ)) (slot : WrittenSlot) → length (name_at names slot.job) ≤ MAX_NAME → IsSlot slot → length (slot_line names slot) ≤ 226
slot_short names slot named fits =
    let name : List ℕ = name_at names slot.job in
    let from : length (fraction_text slot.from) ≤ 50 = fraction_short 10 MAX_TIME slot.from (omega arith) (omega arith) (omega arith) fits.from in
    let to : length (fraction_text slot.to) ≤ 50 = fraction_short 10 MAX_TIME slot.to (omega arith) (omega arith) (omega arith) fits.to in
    let work : length (fraction_text slot.work) ≤ 53 = fraction_short 13 MAX_SLOT_WORK slot.work (omega arith) (omega arith) (omega arith) fits.work in
    omega (arith, line_length (codes "slot") (name ∷ fraction_text slot.from ∷ fraction_text slot.to ∷ fraction_text slot.work ∷ []), named, from, to, work)

-- a level's line
level_short : (level : Level) → IsLevel level → length (line (level_texts level)) ≤ 28
level_short level fits =
    let work : length (decimal level.work) ≤ 10 = length-decimal-le 10 level.work (omega arith) (omega (arith, fits.work_in_range)) (omega (arith, fits.work_in_range)) in
    let long : length (decimal level.length) ≤ 10 = length-decimal-le 10 level.length (omega arith) (omega (arith, fits.length_in_range)) (omega (arith, fits.length_in_range)) in
    omega (arith, line_length (codes "level") (decimal level.work ∷ decimal level.length ∷ []), work, long)

-- a piece's line
piece_short : (piece : Piece) → IsPiece piece → length (piece_line piece) ≤ 28
piece_short piece fits =
    let from : length (decimal piece.from) ≤ 10 = length-decimal-le 10 piece.from (omega arith) (omega (arith, fits.from_in_range)) (omega (arith, fits.from_in_range)) in
    let to : length (decimal piece.to) ≤ 10 = length-decimal-le 10 piece.to (omega arith) (omega (arith, fits.to_in_range)) (omega (arith, fits.to_in_range)) in
    omega (arith, line_length (codes "piece") (decimal piece.from ∷ decimal piece.to ∷ []), from, to)

-- a member's line
member_short : (names : List (List ℕ)) (job : ℕ) → length (name_at names job) ≤ MAX_NAME → length (member_line names job) ≤ 72
member_short names job named = omega (arith, line_length (codes "member") (name_at names job ∷ []), named)

-- the grid's line
grid_short : (grid : Grid) → IsGrid grid → length (grid_lines (Some grid)) ≤ 21
grid_short grid fits =
    let one : length (decimal grid.grid) ≤ 7 = length-decimal-le 7 grid.grid (omega arith) (omega (arith, fits.grid_in_range)) (omega (arith, fits.grid_in_range)) in
    let rounded : length (decimal grid.rounded) ≤ 7 = length-decimal-le 7 grid.rounded (omega arith) (omega (arith, fits.rounded_in_range)) (omega (arith, fits.rounded_in_range)) in
    omega (arith, line_length (codes "grid") (decimal grid.grid ∷ decimal grid.rounded ∷ []), one, rounded)

-- the energy's line
energy_short : (energy : Fraction) → IsFraction MAX_ENERGY energy → length (energy_lines (Some energy)) ≤ 67
energy_short energy fits =
    omega (arith, line_length (codes "energy") (fraction_text energy ∷ []), fraction_short 19 MAX_ENERGY energy (omega arith) (omega arith) (omega arith) fits)

-- the law: the lines of each kind are at most so long
pub lines_are_short : LinesAreShort
lines_are_short = grind (arith, energy_short, grid_short, job_short, length-append, level_short, level_texts, member_short, name_short, piece_short, point_short, slot_short)

-- ---- the text

-- texts of at most so many bytes each
pub lines_short : {X : Type 0} (text : X → List ℕ) (most : ℕ) (xs : List X) → All (λ x. length (text x) ≤ most) xs → length (flat_map text xs) ≤ most * length xs
lines_short text most [] short = omega arith
lines_short text most (x ∷ xs) short =
    omega (
      arith,
      length-append (text x) (flat_map text xs),
      All-head (λ x. length (text x) ≤ most) x xs short,
      lines_short text most xs (All-tail (λ x. length (text x) ≤ most) x xs short),
      mul-suc most (length xs),
    )

-- the lines of the jobs together
pub jobs_short : (names : List (List ℕ)) (jobs : List Job) → All (λ name. is_name name ≡ true) names → All IsJob jobs → length (job_lines names jobs) ≤ 99 * length jobs
jobs_short [] jobs named fit = omega arith
jobs_short (name ∷ names) [] named fit = omega arith
jobs_short (name ∷ names) (job ∷ jobs) named fit =
    omega (
      arith,
      length-append (job_line name job) (job_lines names jobs),
      job_short name job (All-head (λ name. is_name name ≡ true) name names named) (All-head IsJob job jobs fit),
      jobs_short names jobs (All-tail (λ name. is_name name ≡ true) name names named) (All-tail IsJob job jobs fit),
    )

-- the lines of the levels, their pieces and their members
levels_short : (names : List (List ℕ)) (levels : List Level) → ((job : ℕ) → length (name_at names job) ≤ MAX_NAME) → All IsLevel levels →
    length (flat_map (level_lines names) levels) ≤ 28 * length levels + 28 * length (all_pieces levels) + 72 * length (all_members levels)
levels_short names [] named fit = omega arith
levels_short names (level ∷ levels) named fit =
    let this : IsLevel level = All-head IsLevel level levels fit in
    let pieces : length (flat_map piece_line level.pieces) ≤ 28 * length level.pieces =
    lines_short piece_line 28 level.pieces (All-weaker IsPiece (λ piece. length (piece_line piece) ≤ 28) piece_short level.pieces this.pieces) in
    let members : length (flat_map (member_line names) level.members) ≤ 72 * length level.members =
    lines_short (member_line names) 72 level.members (λ k d within. member_short names (get_or level.members k d) (named (get_or level.members k d))) in
    omega (
      arith,
      level_short level this,
      pieces,
      members,
      levels_short names levels named (All-tail IsLevel level levels fit),
      length-append (level_lines names level) (flat_map (level_lines names) levels),
      length-append (line (level_texts level) ++ flat_map piece_line level.pieces) (flat_map (member_line names) level.members),
      length-append (line (level_texts level)) (flat_map piece_line level.pieces),
      length-append level.pieces (all_pieces levels),
      length-append level.members (all_members levels),
    )

-- the grid's line, where there is one
grid_lines_short : (grid : Option Grid) → MatchOption grid (Unit {0}) IsGrid → length (grid_lines grid) ≤ 21
grid_lines_short None fits = omega arith
grid_lines_short (Some grid) fits = grid_short grid fits

-- the energy's line, where there is one
energy_lines_short : (energy : Option Fraction) → MatchOption energy (Unit {0}) (IsFraction MAX_ENERGY) → length (energy_lines energy) ≤ 67
energy_lines_short None fits = omega arith
energy_lines_short (Some energy) fits = energy_short energy fits

-- so the whole text, by how many parts of each kind the document has
pub text_length : (d : Document) → IsDocument d → length (canonical_text d) ≤ 99 * length d.jobs + 19 * length d.points + 226 * length d.slots
    + (28 * length d.levels + 28 * length (all_pieces d.levels) + 72 * length (all_members d.levels)) + 88
text_length d fits =
    let names : (job : ℕ) → length (name_at d.names job) ≤ MAX_NAME = names_short d.names fits.jobs.names_fit in
    let jobs : List ℕ = job_lines d.names d.jobs in
    let points : List ℕ = flat_map point_line d.points in
    let slots : List ℕ = flat_map (slot_line d.names) d.slots in
    let levels : List ℕ = flat_map (level_lines d.names) d.levels in
    let grid : List ℕ = grid_lines d.grid in
    let energy : List ℕ = energy_lines d.energy in
    let points_length : length points ≤ 19 * length d.points =
    lines_short point_line 19 d.points (All-weaker IsPoint (λ point. length (point_line point) ≤ 19) point_short d.points fits.points.fit) in
    let slots_length : length slots ≤ 226 * length d.slots =
    lines_short (slot_line d.names) 226 d.slots
    (All-weaker IsSlot (λ slot. length (slot_line d.names slot) ≤ 226) (λ slot. slot_short d.names slot (names slot.job)) d.slots fits.slots.fit) in
    omega (
      arith,
      jobs_short d.names d.jobs fits.jobs.names_fit fits.jobs.jobs_fit,
      points_length,
      slots_length,
      levels_short d.names d.levels names fits.levels.fit,
      grid_lines_short d.grid fits.grid,
      energy_lines_short d.energy fits.energy,
      length-append (jobs ++ points ++ slots ++ levels ++ grid) energy,
      length-append (jobs ++ points ++ slots ++ levels) grid,
      length-append (jobs ++ points ++ slots) levels,
      length-append (jobs ++ points) slots,
      length-append jobs points,
    )

-- the law: it may be read where the parts are few
pub text_is_short : TextIsShort
text_is_short d fits few_slots few_levels few_pieces few_members =
    omega (arith, text_length d fits, fits.jobs.few, fits.points.few, few_slots, few_levels, few_pieces, few_members)
