-- What a draft holds after one more entry.
use Rattle.yds_model.proofs.Common.{◌≡◌, ℕ, false, ◌+◌, ◌≤◌, List, [], ◌∷◌, ◌++◌, length, Option, Some, None, refl, sym, ap, ◌∙◌, subst, append-nil, Job, Fraction, WrittenSlot, Piece, Level, Point, Grid, Entry, JobEntry, PointEntry, SlotEntry, LevelEntry, PieceEntry, MemberEntry, TicksEntry, GridEntry, EnergyEntry, ticks_said, is_level}
use Rattle.model_lemmas.proofs.Said.{IsOfLevels, of_piece, of_member, says_other, said-ticks, says-job, says-point, says-slot, says-level, says-last, says-grid, says-energy, with_entry, more_said, none_said}
use Rattle.model_lemmas.proofs.Said.{Says}
use Rattle.yds_certificate.specs.Certificate.{with_last}
use Rattle.yds_certificate.specs.Level.{with_piece, with_member}
use Rattle.yds_instance.specs.Named.{Named}
use Rattle.yds_slots.specs.Schedule.{WrittenSchedule}
use Rattle.document_reader.specs.declared.draft.Draft.{Draft}
use Rattle.document_value.specs.Documents.{points_of}
use Rattle.document_reader.specs.Draft.{Holds, Takes, document_of, items_of}
use Rattle.document_reader.proofs.LevelGrown.{ended}

-- as the model says it
says : (d : Draft) (es : List Entry) → Holds d es → Says es (document_of d)
says d es holds = record { said = holds.said; pieces = holds.pieces; members = holds.members }

-- an entry that leaves the ticks, and after which the entries say the new draft's document
held : (old new : Draft) (es : List Entry) (e : Entry) → ticks_said e ≡ None → new.ticks ≡ old.ticks → Holds old es → Says (es ++ e ∷ []) (document_of new) → Holds new (es ++ e ∷ [])
held old new es e none same holds more = record {
  said = more.said;
  pieces = more.pieces;
  members = more.members;
  ticks = none_said ticks_said es e none ∙ holds.ticks ∙ ap items_of (sym same);
}

pub holds_grid : (d : Draft) (grid : Grid) → d.grid ≡ None → Takes d (record d { grid = Some grid }) (GridEntry grid)
holds_grid d grid first = λ es holds. held d (record d { grid = Some grid }) es (GridEntry grid) refl refl holds (says-grid es grid (document_of d) first (says d es holds))

pub holds_energy : (d : Draft) (energy : Fraction) → d.energy ≡ None → Takes d (record d { energy = Some energy }) (EnergyEntry energy)
holds_energy d energy first = λ es holds. held d (record d { energy = Some energy }) es (EnergyEntry energy) refl refl holds (says-energy es energy (document_of d) first (says d es holds))

pub holds_ticks : (d : Draft) (ticks : ℕ) → d.ticks ≡ None → Takes d (record d { ticks = Some ticks }) (TicksEntry ticks)
holds_ticks d ticks first = λ es holds.
    let more = says_other es (TicksEntry ticks) (document_of d) (document_of d) refl refl refl (said-ticks es ticks ∙ holds.said) (says d es holds) in
    record {
      said = more.said;
      pieces = more.pieces;
      members = more.members;
      ticks = more_said ticks_said es (TicksEntry ticks) ticks refl ∙ ap (λ l. l ++ ticks ∷ []) (holds.ticks ∙ ap items_of first);
    }

pub holds_job : (d : Draft) (instance : Named) (schedule : WrittenSchedule) (name : List ℕ) (job : Job) → instance ≡ record { names = d.instance.names ++ name ∷ []; jobs = d.instance.jobs ++ job ∷ [] }
    → schedule.slots ≡ d.schedule.slots → Takes d (record d { instance = instance; schedule = schedule }) (JobEntry name job)
holds_job d instance schedule name job named same = λ es holds.
    held d (record d { instance = instance; schedule = schedule }) es (JobEntry name job) refl refl holds
    (subst (Says (es ++ JobEntry name job ∷ [])) (ap (λ (i : Named). record (document_of d) { names = i.names; jobs = i.jobs }) (sym named)
    ∙ ap (λ (slots : List WrittenSlot). record (document_of d) { names = instance.names; jobs = instance.jobs; slots = slots }) (sym same))
    (says-job es name job (document_of d) (says d es holds)))

pub holds_slot : (d : Draft) (schedule : WrittenSchedule) (slot : WrittenSlot) → schedule.slots ≡ d.schedule.slots ++ slot ∷ [] → Takes d (record d { schedule = schedule }) (SlotEntry slot)
holds_slot d schedule slot more = λ es holds.
    held d (record d { schedule = schedule }) es (SlotEntry slot) refl refl holds
    (subst (λ (slots : List WrittenSlot). Says (es ++ SlotEntry slot ∷ []) (record (document_of d) { slots = slots })) (sym more) (says-slot es slot (document_of d) (says d es holds)))

pub holds_point : (d : Draft) (table : Option (List Point)) (point : Point) → points_of table ≡ points_of d.table ++ point ∷ [] → Takes d (record d { table = table }) (PointEntry point)
holds_point d table point more = λ es holds.
    held d (record d { table = table }) es (PointEntry point) refl refl holds
    (subst (λ (points : List Point). Says (es ++ PointEntry point ∷ []) (record (document_of d) { points = points })) (sym more) (says-point es point (document_of d) (says d es holds)))

-- # Levels

-- an entry of the levels
held_levels : (d new : Draft) (es : List Entry) (e : Entry) (levels : List Level) → ticks_said e ≡ None → new.ticks ≡ d.ticks → Holds d es
    → document_of new ≡ record (document_of d) { levels = new.certificate } → new.certificate ≡ levels → Says (es ++ e ∷ []) (record (document_of d) { levels = levels }) → Holds new (es ++ e ∷ [])
held_levels d new es e levels none same holds is more told =
    held d new es e none same holds
    (subst (Says (es ++ e ∷ [])) (sym (is ∙ ap (λ (l : List Level). record (document_of d) { levels = l }) more)) told)

pub holds_level : (d : Draft) (levels : List Level) (work len : ℕ) → levels ≡ d.certificate ++ record { work = work; length = len; pieces = []; members = [] } ∷ []
    → Takes d (record d { certificate = levels }) (LevelEntry work len)
holds_level d levels work len more = λ es holds.
    held_levels d (record d { certificate = levels }) es (LevelEntry work len) _ refl refl holds refl more (says-level es work len (document_of d) (says d es holds))

-- an entry of the last level, which changes it so
last_says : (d : Draft) (es : List Entry) (e : Entry) (change : Level → Level) → 1 ≤ length d.certificate → is_level e ≡ false → IsOfLevels e
    → ((level : Level) → with_entry e level ≡ change level) → Holds d es → Says (es ++ e ∷ []) (record (document_of d) { levels = with_last change d.certificate })
last_says d es e change some other kind same holds =
    let end = ended d.certificate some in
    subst (λ (l : List Level). Says (es ++ e ∷ []) (record (document_of d) { levels = l }))
    (ap (λ (level : Level). end.before ++ level ∷ []) (same end.last) ∙ sym (end.changed change))
    (says-last es end.before end.last e (document_of d) other kind end.is (says d es holds))

pub holds_piece : (d : Draft) (levels : List Level) (piece : Piece) → 1 ≤ length d.certificate → levels ≡ with_last (with_piece piece) d.certificate
    → Takes d (record d { certificate = levels; pieces = d.pieces + 1 }) (PieceEntry piece)
holds_piece d levels piece some more = λ es holds.
    held_levels d (record d { certificate = levels; pieces = d.pieces + 1 }) es (PieceEntry piece) _ refl refl holds refl more
    (last_says d es (PieceEntry piece) (with_piece piece) some refl (of_piece piece)
    (λ level. ap (λ (l : List ℕ). record { work = level.work; length = level.length; pieces = level.pieces ++ piece ∷ []; members = l }) (append-nil level.members)) holds)

pub holds_member : (d : Draft) (levels : List Level) (job : ℕ) → 1 ≤ length d.certificate → levels ≡ with_last (with_member job) d.certificate
    → Takes d (record d { certificate = levels; members = d.members + 1 }) (MemberEntry job)
holds_member d levels job some more = λ es holds.
    held_levels d (record d { certificate = levels; members = d.members + 1 }) es (MemberEntry job) _ refl refl holds refl more
    (last_says d es (MemberEntry job) (with_member job) some refl (of_member job)
    (λ level. ap (λ (l : List Piece). record { work = level.work; length = level.length; pieces = l; members = level.members ++ job ∷ [] }) (append-nil level.pieces)) holds)
