-- The printed line of each kind is read as what it says, after lines that leave room for it.
use Rattle.yds_model.proofs.Common.{◌≡◌, ℕ, ◌^◌, ◌<◌, ◌≤◌, true, ◌==◌, List, [], ◌∷◌, ◌++◌, length, Some, None, Ok, decimal, refl, arith, inl, inr, eq-eqb, codes, if◌then◌else◌, All, AllByRecursion, filter_map, list_all, lt-ltb, le-leb, cases_eq, ne_eqb, and_from, All-head, All-tail, Job, IsJob, Fraction, WrittenSlot, Piece, Level, Point, point_at, AreRising, IsTable, hull_multiple, Grid, is_name, fraction_text, Entry, JobEntry, PointEntry, SlotEntry, LevelEntry, PieceEntry, MemberEntry, GridEntry, EnergyEntry, name_said, point_said, slot_said, piece_said, member_said, grid_said, energy_said, levels_said, job_named, read_fields, follows_points, are_alike, fits_grain, IsFraction, IsPoint, IsSlot, IsLevel, IsPiece, IsGrid, AreAlike, spaced, number_at-decimal}
use Rattle.model_lemmas.proofs.Said.{levels_counted}
use Rattle.model_lemmas.proofs.Alike.{alike_test}
use Rattle.base.specs.declared.limits.TheConstants.{MAX_JOBS, MAX_TIME, MAX_POINTS, MAX_POINT_SPEED, MAX_POINT_POWER, MAX_GAPS, MAX_SLOTS, MAX_SLOT_WORK, MAX_LEVELS, MAX_PIECES, MAX_MEMBERS, MAX_ENERGY}
use Rattle.yds_texts.proofs.Brought.{IsWord}
use Rattle.yds_texts.proofs.Printed.{decimal_word, name_word, fraction_word, fraction_read}

-- a kind's word and two numbers are words
two_numbers_words : (kind : List ℕ) (first second : ℕ) → is_name kind ≡ true → first < 2 ^ 64 → second < 2 ^ 64 →
    AllByRecursion IsWord (kind ∷ decimal first ∷ decimal second ∷ [])
two_numbers_words kind first second named one two = (name_word kind named, (decimal_word first one, (decimal_word second two, tt)))

-- ---- jobs

-- the fields of a job's line
abbrev pub job_texts : List ℕ → Job → List (List ℕ)
job_texts name job = codes "job" ∷ name ∷ decimal job.release ∷ decimal job.deadline ∷ decimal job.work ∷ []

-- they are read as the job
pub job_read : (earlier : List Entry) (name : List ℕ) (job : Job) → IsJob job → is_name name ≡ true → job_named earlier name ≡ None →
    length (filter_map name_said earlier) < MAX_JOBS → read_fields earlier (spaced 1 (job_texts name job)) ≡ Ok (JobEntry name job)
job_read earlier name job fits named new room = grind (arith, lt-ltb, number_at-decimal)

-- and each is a word
pub job_words : (name : List ℕ) (job : Job) → is_name name ≡ true → IsJob job → AllByRecursion IsWord (job_texts name job)
job_words name job named fits = grind (arith, codes, decimal, decimal_word, name_word)

-- ---- slots

-- the work is alike with each earlier work of the job
pub grain_test : (job : ℕ) (work : Fraction) (slots : List WrittenSlot) → All (λ slot. slot.job ≡ job → AreAlike work slot.work) slots →
    list_all (are_alike work) (filter_map (λ slot. if slot.job == job then Some slot.work else None) slots) ≡ true
grain_test job work [] alike = refl
grain_test job work (slot ∷ slots) alike =
    let rest = grain_test job work slots (All-tail (λ slot. slot.job ≡ job → AreAlike work slot.work) slot slots alike) in
    elim (cases_eq slot.job job) [
      | inl same ↦
          rw (eq-eqb slot.job job same)
          (and_from (are_alike work slot.work) _ (alike_test work slot.work (All-head (λ slot. slot.job ≡ job → AreAlike work slot.work) slot slots alike same)) rest)
      | inr other ↦ rw (ne_eqb slot.job job other) rest
    ]

-- the fields of a slot's line
abbrev pub slot_texts : List ℕ → WrittenSlot → List (List ℕ)
slot_texts name slot = codes "slot" ∷ name ∷ fraction_text slot.from ∷ fraction_text slot.to ∷ fraction_text slot.work ∷ []

-- they are read as the slot
pub slot_read : (earlier : List Entry) (name : List ℕ) (slot : WrittenSlot) → IsSlot slot → is_name name ≡ true → job_named earlier name ≡ Some slot.job →
    fits_grain earlier slot.job slot.work ≡ true → length (filter_map slot_said earlier) < MAX_SLOTS →
    read_fields earlier (spaced 1 (slot_texts name slot)) ≡ Ok (SlotEntry slot)
slot_read earlier name slot fits named known grain room = grind (arith, alike_test, fraction_read, lt-ltb)

-- and each is a word
pub slot_words : (name : List ℕ) (slot : WrittenSlot) → is_name name ≡ true → IsSlot slot → AllByRecursion IsWord (slot_texts name slot)
slot_words name slot named fits =
    let from : IsWord (fraction_text slot.from) = fraction_word MAX_TIME slot.from (omega arith) fits.from in
    let to : IsWord (fraction_text slot.to) = fraction_word MAX_TIME slot.to (omega arith) fits.to in
    let work : IsWord (fraction_text slot.work) = fraction_word MAX_SLOT_WORK slot.work (omega arith) fits.work in
    (name_word (codes "slot") refl, (name_word name named, (from, (to, (work, tt)))))

-- ---- points

-- the fields of a point's line
abbrev pub point_texts : Point → List (List ℕ)
point_texts point = codes "point" ∷ decimal point.speed ∷ decimal point.power ∷ []

-- they are read as the point
pub point_read : (earlier : List Entry) (point : Point) → IsPoint point → length (filter_map point_said earlier) < MAX_POINTS →
    ((column : ℕ) → follows_points (filter_map point_said earlier) point.speed column ≡ Ok true) →
    hull_multiple (filter_map point_said earlier ++ point ∷ []) ≤ MAX_GAPS → read_fields earlier (spaced 1 (point_texts point)) ≡ Ok (PointEntry point)
point_read earlier point fits room follows gaps =
    rw (
      lt-ltb (length (filter_map point_said earlier)) MAX_POINTS room,
      number_at-decimal 0 MAX_POINT_SPEED point.speed (omega (arith, fits.speed_in_range)) (omega arith) fits.speed_in_range,
      number_at-decimal 0 MAX_POINT_POWER point.power (omega (arith, fits.power_in_range)) (omega arith) fits.power_in_range,
      follows 7,
      le-leb (hull_multiple (filter_map point_said earlier ++ point ∷ [])) MAX_GAPS gaps,
    ) refl

-- and each is a word
pub point_words : (point : Point) → IsPoint point → AllByRecursion IsWord (point_texts point)
point_words point fits =
    two_numbers_words (codes "point") point.speed point.power refl (omega (arith, fits.speed_in_range)) (omega (arith, fits.power_in_range))

-- the last point of a front is slower than the next one
rising_front : (first : Point) (others : List Point) (point : Point) (after : List Point) → AreRising (first ∷ others ++ point ∷ after) →
    (point_at (first ∷ others) (length others)).speed < point.speed
rising_front first [] point after rising = rising.0
rising_front first (next ∷ others) point after rising = rising_front next others point after rising.1

-- so a point of a table follows those before it
pub follows_front : (before : List Point) (point : Point) (after : List Point) → IsTable (before ++ point ∷ after) → (column : ℕ) →
    follows_points before point.speed column ≡ Ok true
follows_front [] point after table column = rw (eq-eqb point.speed 0 table.idle) refl
follows_front (first ∷ others) point after table column =
    rw (lt-ltb (point_at (first ∷ others) (length others)).speed point.speed (rising_front first others point after table.rising)) refl

-- ---- levels, their pieces and their members

-- the fields of a level's line
abbrev pub level_texts : Level → List (List ℕ)
level_texts level = codes "level" ∷ decimal level.work ∷ decimal level.length ∷ []

-- they are read as the level's work and length
pub level_read : (earlier : List Entry) (level : Level) → IsLevel level → length (levels_said earlier) < MAX_LEVELS →
    read_fields earlier (spaced 1 (level_texts level)) ≡ Ok (LevelEntry level.work level.length)
level_read earlier level fits room = grind (arith, levels_counted, lt-ltb, number_at-decimal)

-- and each is a word
pub level_words : (level : Level) → IsLevel level → AllByRecursion IsWord (level_texts level)
level_words level fits =
    two_numbers_words (codes "level") level.work level.length refl (omega (arith, fits.work_in_range)) (omega (arith, fits.length_in_range))

-- the fields of a piece's line
abbrev pub piece_texts : Piece → List (List ℕ)
piece_texts piece = codes "piece" ∷ decimal piece.from ∷ decimal piece.to ∷ []

-- they are read as the piece
pub piece_read : (earlier : List Entry) (piece : Piece) → IsPiece piece → 0 < length (levels_said earlier) → length (filter_map piece_said earlier) < MAX_PIECES →
    read_fields earlier (spaced 1 (piece_texts piece)) ≡ Ok (PieceEntry piece)
piece_read earlier piece fits some room = grind (arith, levels_counted, lt-ltb, number_at-decimal)

-- and each is a word
pub piece_words : (piece : Piece) → IsPiece piece → AllByRecursion IsWord (piece_texts piece)
piece_words piece fits =
    two_numbers_words (codes "piece") piece.from piece.to refl (omega (arith, fits.from_in_range)) (omega (arith, fits.to_in_range))

-- the fields of a member's line
abbrev pub member_texts : List ℕ → List (List ℕ)
member_texts name = codes "member" ∷ name ∷ []

-- they are read as the member's number
pub member_read : (earlier : List Entry) (name : List ℕ) (job : ℕ) → is_name name ≡ true → job_named earlier name ≡ Some job →
    0 < length (levels_said earlier) → length (filter_map member_said earlier) < MAX_MEMBERS →
    read_fields earlier (spaced 1 (member_texts name)) ≡ Ok (MemberEntry job)
member_read earlier name job named known some room = grind (arith, levels_counted, lt-ltb)

-- and each is a word
pub member_words : (name : List ℕ) → is_name name ≡ true → AllByRecursion IsWord (member_texts name)
member_words name named = (name_word (codes "member") refl, (name_word name named, tt))

-- ---- the grid and the energy

-- the fields of the grid's line
abbrev pub grid_texts : Grid → List (List ℕ)
grid_texts grid = codes "grid" ∷ decimal grid.grid ∷ decimal grid.rounded ∷ []

-- they are read as the grid
pub grid_read : (earlier : List Entry) (grid : Grid) → IsGrid grid → filter_map grid_said earlier ≡ [] →
    read_fields earlier (spaced 1 (grid_texts grid)) ≡ Ok (GridEntry grid)
grid_read earlier grid fits none = grind (arith, number_at-decimal)

-- and each is a word
pub grid_words : (grid : Grid) → IsGrid grid → AllByRecursion IsWord (grid_texts grid)
grid_words grid fits =
    two_numbers_words (codes "grid") grid.grid grid.rounded refl (omega (arith, fits.grid_in_range)) (omega (arith, fits.rounded_in_range))

-- the fields of the energy's line
abbrev pub energy_texts : Fraction → List (List ℕ)
energy_texts energy = codes "energy" ∷ fraction_text energy ∷ []

-- they are read as the energy
pub energy_read : (earlier : List Entry) (energy : Fraction) → IsFraction MAX_ENERGY energy → filter_map energy_said earlier ≡ [] →
    read_fields earlier (spaced 1 (energy_texts energy)) ≡ Ok (EnergyEntry energy)
energy_read earlier energy fits none = rw (none, fraction_read MAX_ENERGY energy (omega arith) fits) refl

-- and each is a word
pub energy_words : (energy : Fraction) → IsFraction MAX_ENERGY energy → AllByRecursion IsWord (energy_texts energy)
energy_words energy fits = (name_word (codes "energy") refl, (fraction_word MAX_ENERGY energy (omega arith) fits, tt))
