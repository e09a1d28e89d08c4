-- What the lines said together, as one more line says something.
use Rattle.std.proofs.Common.{◌≡◌, ℕ, false, cond, not, List, [], ◌∷◌, ◌++◌, length, Option, Some, None, refl, sym, ap, ◌∙◌, arith, inl, inr, append-nil, append_assoc}
use Rattle.std.specs.Prelude.{if◌then◌else◌}
use Rattle.std.specs.List.{filter_map, flat_map, cons_option}
use Rattle.std.proofs.lemmas.Bool.{cases_Bool, true≢false}
use Rattle.std.proofs.lemmas.List.{flat_map_more}
use Rattle.std.proofs.lemmas.List.Elements.{filter_map-append}
use Rattle.std.proofs.lemmas.List.Sums.{take_while-cons}
use Rattle.yds_model.specs.Job.{Job}
use Rattle.yds_model.specs.Scale.{Fraction}
use Rattle.yds_model.specs.Slot.{WrittenSlot}
use Rattle.yds_model.specs.Piece.{Piece}
use Rattle.yds_model.specs.Level.{Level, all_pieces, all_members}
use Rattle.yds_model.specs.Table.{Point}
use Rattle.yds_model.specs.Document.{Document, Grid}
use Rattle.yds_model.specs.Entry.{Entry, JobEntry, PointEntry, SlotEntry, LevelEntry, PieceEntry, MemberEntry, TicksEntry, GridEntry, EnergyEntry, name_said, job_said, point_said, slot_said, piece_said, member_said, grid_said, energy_said, first_of_them, is_level, until_level, levels_said, document_said}

-- ---- the lists

-- an entry that says one more
pub more_said : {X : Type 0} (said : Entry → Option X) (entries : List Entry) (entry : Entry) (x : X) → said entry ≡ Some x →
    filter_map said (entries ++ entry ∷ []) ≡ filter_map said entries ++ x ∷ []
more_said said entries entry x is = filter_map-append said entries (entry ∷ []) ∙ ap (λ xs. filter_map said entries ++ xs) (rw is refl)

-- an entry that says none
pub none_said : {X : Type 0} (said : Entry → Option X) (entries : List Entry) (entry : Entry) → said entry ≡ None →
    filter_map said (entries ++ entry ∷ []) ≡ filter_map said entries
none_said said entries entry is =
    filter_map-append said entries (entry ∷ []) ∙ ap (λ xs. filter_map said entries ++ xs) (rw is refl) ∙ append-nil (filter_map said entries)

-- ---- the levels

-- the entries until a level, with one more at the front
until_level-cons : (first : Entry) (entries : List Entry) → until_level (first ∷ entries) ≡ cond (not (is_level first)) (first ∷ until_level entries) []
until_level-cons first entries = take_while-cons (λ entry. not (is_level entry)) first entries

-- an entry that says none of these adds none to them up to the next level
until_level-none : {X : Type 0} (said : Entry → Option X) (entries : List Entry) (entry : Entry) → said entry ≡ None →
    filter_map said (until_level (entries ++ entry ∷ [])) ≡ filter_map said (until_level entries)
until_level-none said [] entry is = elim (cases_Bool (is_level entry)) [
  | inl level ↦ rw (until_level-cons entry [], level) refl
  | inr other ↦ rw (until_level-cons entry [], other, is) refl
]
until_level-none said (first ∷ entries) entry is = elim (cases_Bool (is_level first)) [
  | inl level ↦ rw (until_level-cons first (entries ++ entry ∷ []), until_level-cons first entries, level) refl
  | inr other ↦
      rw (until_level-cons first (entries ++ entry ∷ []), until_level-cons first entries, other)
      (ap (cons_option (said first)) (until_level-none said entries entry is))
]

-- an entry that is no level says no more levels than the others
pub levels_said-other : (entry : Entry) (entries : List Entry) → is_level entry ≡ false → levels_said (entry ∷ entries) ≡ levels_said entries
levels_said-other (LevelEntry work length) entries other = absurd (true≢false other)
levels_said-other _ entries other = refl

-- an entry that is no level, piece or member leaves the levels as they are
levels_said-same : (entries : List Entry) (entry : Entry) → is_level entry ≡ false → piece_said entry ≡ None → member_said entry ≡ None →
    levels_said (entries ++ entry ∷ []) ≡ levels_said entries
levels_said-same [] entry other no_piece no_member = levels_said-other entry [] other
levels_said-same (LevelEntry work length ∷ entries) entry other no_piece no_member =
    rw (
      until_level-none piece_said entries entry no_piece,
      until_level-none member_said entries entry no_member,
      levels_said-same entries entry other no_piece no_member,
    ) refl
levels_said-same (_ ∷ entries) entry other no_piece no_member = levels_said-same entries entry other no_piece no_member

-- one more level, with no pieces and no members yet
abbrev pub empty_level : ℕ → ℕ → Level
empty_level work length = record { work = work; length = length; pieces = []; members = [] }

-- the line of a level says one more, which is empty
levels_said-level : (entries : List Entry) (work length : ℕ) → levels_said (entries ++ LevelEntry work length ∷ []) ≡ levels_said entries ++ empty_level work length ∷ []
levels_said-level [] work length = refl
levels_said-level (LevelEntry first_work first_length ∷ entries) work length =
    rw (
      until_level-none piece_said entries (LevelEntry work length) refl,
      until_level-none member_said entries (LevelEntry work length) refl,
      levels_said-level entries work length,
    ) refl
levels_said-level (_ ∷ entries) work length = levels_said-level entries work length

-- where no level is said, an entry that is no level comes before any
no_level-until : (entries : List Entry) (entry : Entry) → is_level entry ≡ false → levels_said entries ≡ [] →
    (until_level entries ≡ entries) × (until_level (entries ++ entry ∷ []) ≡ entries ++ entry ∷ []) × (levels_said (entries ++ entry ∷ []) ≡ [])
no_level-until [] entry other none = (refl, rw (until_level-cons entry [], other) refl, levels_said-other entry [] other)
no_level-until (LevelEntry work length ∷ entries) entry other none = absurd (cc)
no_level-until (first ∷ entries) entry other none =
    let rest = no_level-until entries entry other none in (
      until_level-cons first entries ∙ ap (λ es. first ∷ es) rest.0,
      until_level-cons first (entries ++ entry ∷ []) ∙ ap (λ es. first ∷ es) rest.1,
      rest.2,
    )

-- where one is, an entry at the end comes after it
some_level-until : (entries : List Entry) (entry : Entry) → (levels_said entries ≡ [] → ⊥) → until_level (entries ++ entry ∷ []) ≡ until_level entries
some_level-until [] entry some = absurd (some refl)
some_level-until (LevelEntry work length ∷ entries) entry some =
    until_level-cons (LevelEntry work length) (entries ++ entry ∷ []) ∙ sym (until_level-cons (LevelEntry work length) entries)
some_level-until (first ∷ entries) entry some =
    until_level-cons first (entries ++ entry ∷ []) ∙ ap (λ es. first ∷ es) (some_level-until entries entry some) ∙ sym (until_level-cons first entries)

-- the level with what the entry says of a piece or a member
abbrev pub with_entry : Entry → Level → Level
with_entry entry level = record {
  work = level.work;
  length = level.length;
  pieces = level.pieces ++ filter_map piece_said (entry ∷ []);
  members = level.members ++ filter_map member_said (entry ∷ []);
}

-- a list with a last element isn't empty
end_is_some : (before : List Level) (level : Level) → before ++ level ∷ [] ≡ [] → ⊥
end_is_some [] level none = cc
end_is_some (first ∷ before) level none = cc

-- a piece or a member is that of the last level
levels_said-last : (entries : List Entry) (before : List Level) (level : Level) (entry : Entry) → is_level entry ≡ false →
    levels_said entries ≡ before ++ level ∷ [] → levels_said (entries ++ entry ∷ []) ≡ before ++ with_entry entry level ∷ []
levels_said-last [] before level entry other is = absurd (end_is_some before level (sym is))
levels_said-last (LevelEntry work length ∷ entries) [] level entry other is =
    let none : levels_said entries ≡ [] = cc in
    let this : record { work = work; length = length; pieces = filter_map piece_said (until_level entries); members = filter_map member_said (until_level entries) } ≡ level = cc in
    let until = no_level-until entries entry other none in
    rw (until.1, until.2, filter_map-append piece_said entries (entry ∷ []), filter_map-append member_said entries (entry ∷ []), ← this, until.0) refl
levels_said-last (LevelEntry work length ∷ entries) (first ∷ before) level entry other is =
    let rest : levels_said entries ≡ before ++ level ∷ [] = cc in
    let this : record { work = work; length = length; pieces = filter_map piece_said (until_level entries); members = filter_map member_said (until_level entries) } ≡ first = cc in
    let some : levels_said entries ≡ [] → ⊥ = λ none. end_is_some before level (sym rest ∙ none) in
    rw (some_level-until entries entry some, levels_said-last entries before level entry other rest, this) refl
levels_said-last (_ ∷ entries) before level entry other is = levels_said-last entries before level entry other is

-- how many levels are said
pub levels_counted : (entries : List Entry) → length (filter_map (λ entry. if is_level entry then Some entry else None) entries) ≡ length (levels_said entries)
levels_counted [] = refl
levels_counted (LevelEntry work level_length ∷ entries) = omega (arith, levels_counted entries)
levels_counted (_ ∷ entries) = levels_counted entries

-- ---- the document

-- These entries say the document, and no piece and no member but those of its levels.
pub record Says (entries : List Entry) (d : Document) : Type 0 where
  pub said : document_said entries ≡ d
  pub pieces : filter_map piece_said entries ≡ all_pieces d.levels
  pub members : filter_map member_said entries ≡ all_members d.levels

-- an entry that is no level, piece or member
pub says_other : (entries : List Entry) (entry : Entry) (d after : Document) → piece_said entry ≡ None → member_said entry ≡ None → after.levels ≡ d.levels →
    document_said (entries ++ entry ∷ []) ≡ after → Says entries d → Says (entries ++ entry ∷ []) after
says_other entries entry d after no_piece no_member same said says = grind (arith, none_said)

-- the document with one more job, one more point or one more slot
abbrev pub with_job : List ℕ → Job → Document → Document
with_job name job d = record d { names = d.names ++ name ∷ []; jobs = d.jobs ++ job ∷ [] }

abbrev pub with_point : Point → Document → Document
with_point point d = record d { points = d.points ++ point ∷ [] }

abbrev pub with_slot : WrittenSlot → Document → Document
with_slot slot d = record d { slots = d.slots ++ slot ∷ [] }

-- the document with a grid, with an energy, or with other levels
abbrev pub with_grid : Grid → Document → Document
with_grid grid d = record d { grid = Some grid }

abbrev pub with_energy : Fraction → Document → Document
with_energy energy d = record d { energy = Some energy }

abbrev pub with_levels : List Level → Document → Document
with_levels levels d = record d { levels = levels }

-- a list with what an entry says of its kind, if it says one
abbrev with_more : {X : Type 0} → List X → Option X → List X
with_more xs None = xs
with_more xs (Some x) = xs ++ x ∷ []

-- so what was said of a kind is more by it
said_of_kind : {X : Type 0} (said : Entry → Option X) (entries : List Entry) (entry : Entry) →
    filter_map said (entries ++ entry ∷ []) ≡ with_more (filter_map said entries) (said entry)
said_of_kind {X} said entries entry = by (said entry) refl where
  -- by what the entry says
  by : (o : Option X) → said entry ≡ o → filter_map said (entries ++ entry ∷ []) ≡ with_more (filter_map said entries) (said entry)
  by None is = rw is (none_said said entries entry is)
  by (Some x) is = rw is (more_said said entries entry x is)

-- the first of a kind, where one more may be said
abbrev first_or : {X : Type 0} → Option X → Option X → Option X
first_or first None = first
first_or None (Some x) = Some x
first_or (Some first) (Some x) = Some first

-- the document with what one more entry says, besides levels
abbrev with_said : Entry → Document → Document
with_said entry d = record {
  names = with_more d.names (name_said entry);
  jobs = with_more d.jobs (job_said entry);
  points = with_more d.points (point_said entry);
  slots = with_more d.slots (slot_said entry);
  levels = d.levels;
  grid = first_or d.grid (grid_said entry);
  energy = first_or d.energy (energy_said entry);
}

-- what the entries say with one more
said_with : (entries : List Entry) (entry : Entry) (levels : List Level) → levels_said (entries ++ entry ∷ []) ≡ levels →
    document_said (entries ++ entry ∷ []) ≡ with_levels levels (with_said entry (document_said entries))
said_with entries entry levels are = grind (arith, said_of_kind)

-- the same for an entry that is no level, piece or member
said_same : (entries : List Entry) (entry : Entry) → is_level entry ≡ false → piece_said entry ≡ None → member_said entry ≡ None →
    document_said (entries ++ entry ∷ []) ≡ with_said entry (document_said entries)
said_same entries entry other no_piece no_member =
    said_with entries entry (levels_said entries) (levels_said-same entries entry other no_piece no_member)

-- so the line of a job says one more job,
pub says-job : (entries : List Entry) (name : List ℕ) (job : Job) (d : Document) → Says entries d → Says (entries ++ JobEntry name job ∷ []) (with_job name job d)
says-job entries name job d says =
    says_other entries (JobEntry name job) d (with_job name job d) refl refl refl
    (said_same entries (JobEntry name job) refl refl refl ∙ ap (with_job name job) says.said) says

-- that of a point one more point,
pub says-point : (entries : List Entry) (point : Point) (d : Document) → Says entries d → Says (entries ++ PointEntry point ∷ []) (with_point point d)
says-point entries point d says =
    says_other entries (PointEntry point) d (with_point point d) refl refl refl
    (said_same entries (PointEntry point) refl refl refl ∙ ap (with_point point) says.said) says

-- that of a slot one more slot,
pub says-slot : (entries : List Entry) (slot : WrittenSlot) (d : Document) → Says entries d → Says (entries ++ SlotEntry slot ∷ []) (with_slot slot d)
says-slot entries slot d says =
    says_other entries (SlotEntry slot) d (with_slot slot d) refl refl refl
    (said_same entries (SlotEntry slot) refl refl refl ∙ ap (with_slot slot) says.said) says

-- that of a grid the grid, where there was none,
pub says-grid : (entries : List Entry) (grid : Grid) (d : Document) → d.grid ≡ None → Says entries d → Says (entries ++ GridEntry grid ∷ []) (with_grid grid d)
says-grid entries grid d none says =
    says_other entries (GridEntry grid) d (with_grid grid d) refl refl refl
    (said_same entries (GridEntry grid) refl refl refl ∙ ap (with_said (GridEntry grid)) says.said ∙ rw none refl) says

-- that of an energy the energy,
pub says-energy : (entries : List Entry) (energy : Fraction) (d : Document) → d.energy ≡ None → Says entries d →
    Says (entries ++ EnergyEntry energy ∷ []) (with_energy energy d)
says-energy entries energy d none says =
    says_other entries (EnergyEntry energy) d (with_energy energy d) refl refl refl
    (said_same entries (EnergyEntry energy) refl refl refl ∙ ap (with_said (EnergyEntry energy)) says.said ∙ rw none refl) says

-- and that of ticks nothing of a document
pub said-ticks : (entries : List Entry) (ticks : ℕ) → document_said (entries ++ TicksEntry ticks ∷ []) ≡ document_said entries
said-ticks entries ticks = said_same entries (TicksEntry ticks) refl refl refl

-- of a grid or an energy there is none, where there is no first one
pub none_first : {X : Type 0} (xs : List X) → first_of_them xs ≡ None → xs ≡ []
none_first [] none = refl
none_first (x ∷ xs) none = cc

-- ---- the levels of the document

-- an entry of a level says nothing but of levels
pub record IsOfLevels (entry : Entry) : Type 0 where
  pub names : name_said entry ≡ None
  pub jobs : job_said entry ≡ None
  pub points : point_said entry ≡ None
  pub slots : slot_said entry ≡ None
  pub grid : grid_said entry ≡ None
  pub energy : energy_said entry ≡ None

-- as the line of a level, of a piece and of a member
of_level : (work length : ℕ) → IsOfLevels (LevelEntry work length)
of_level work length = record { names = refl; jobs = refl; points = refl; slots = refl; grid = refl; energy = refl }

pub of_piece : (piece : Piece) → IsOfLevels (PieceEntry piece)
of_piece piece = record { names = refl; jobs = refl; points = refl; slots = refl; grid = refl; energy = refl }

pub of_member : (job : ℕ) → IsOfLevels (MemberEntry job)
of_member job = record { names = refl; jobs = refl; points = refl; slots = refl; grid = refl; energy = refl }

-- so what is said with it differs in the levels alone
said-levels : (entries : List Entry) (entry : Entry) (levels : List Level) → IsOfLevels entry → levels_said (entries ++ entry ∷ []) ≡ levels →
    document_said (entries ++ entry ∷ []) ≡ with_levels levels (document_said entries)
said-levels entries entry levels kind are =
    said_with entries entry levels are ∙ rw (kind.names, kind.jobs, kind.points, kind.slots, kind.grid, kind.energy) refl

-- the line of a level makes one more level, which is empty
pub says-level : (entries : List Entry) (work length : ℕ) (d : Document) → Says entries d →
    Says (entries ++ LevelEntry work length ∷ []) (with_levels (d.levels ++ empty_level work length ∷ []) d)
says-level entries work length d says =
    let entry : Entry = LevelEntry work length in
    let levels : List Level = d.levels ++ empty_level work length ∷ [] in
    let are : levels_said (entries ++ entry ∷ []) ≡ levels =
    levels_said-level entries work length ∙ ap (λ (d : Document). d.levels ++ empty_level work length ∷ []) says.said in
    record {
      said = said-levels entries entry levels (of_level work length) are ∙ ap (with_levels levels) says.said;
      pieces = none_said piece_said entries entry refl ∙ says.pieces ∙ sym (append-nil (all_pieces d.levels)) ∙ flat_map_more (λ level. level.pieces) [] d.levels (empty_level work length);
      members = none_said member_said entries entry refl ∙ says.members ∙ sym (append-nil (all_members d.levels)) ∙ flat_map_more (λ level. level.members) [] d.levels (empty_level work length);
    }

-- a list of each level, as the last level gets more of it
pub last_longer : {X : Type 0} (f : Level → List X) (before : List Level) (level longer : Level) (more : List X) → f longer ≡ f level ++ more →
    flat_map f (before ++ level ∷ []) ++ more ≡ flat_map f (before ++ longer ∷ [])
last_longer f before level longer more is =
    ap (λ xs. xs ++ more) (sym (flat_map_more f [] before level)) ∙ append_assoc (flat_map f before) (f level) more
    ∙ ap (λ xs. flat_map f before ++ xs) (sym is) ∙ flat_map_more f [] before longer

-- a piece or a member, after a level
pub says-last : (entries : List Entry) (before : List Level) (level : Level) (entry : Entry) (d : Document) → is_level entry ≡ false → IsOfLevels entry →
    d.levels ≡ before ++ level ∷ [] → Says entries d → Says (entries ++ entry ∷ []) (with_levels (before ++ with_entry entry level ∷ []) d)
says-last entries before level entry d other kind is says =
    let levels : List Level = before ++ with_entry entry level ∷ [] in
    let are : levels_said (entries ++ entry ∷ []) ≡ levels =
    levels_said-last entries before level entry other (ap (λ (d : Document). d.levels) says.said ∙ is) in
    record {
      said = said-levels entries entry levels kind are ∙ ap (with_levels levels) says.said;
      pieces = filter_map-append piece_said entries (entry ∷ []) ∙ ap (λ xs. xs ++ filter_map piece_said (entry ∷ [])) (says.pieces ∙ ap all_pieces is)
          ∙ last_longer (λ level. level.pieces) before level (with_entry entry level) (filter_map piece_said (entry ∷ [])) refl;
      members = filter_map-append member_said entries (entry ∷ []) ∙ ap (λ xs. xs ++ filter_map member_said (entry ∷ [])) (says.members ∙ ap all_members is)
          ∙ last_longer (λ level. level.members) before level (with_entry entry level) (filter_map member_said (entry ∷ [])) refl;
    }
