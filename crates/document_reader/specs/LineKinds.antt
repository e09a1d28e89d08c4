-- The kinds of line of the code, as those of the definition.
use Rattle.std.specs.Prelude.{Option, Some, None, is_some, is_none, Bool, true, nat_lt, length}
use Rattle.yds_model.specs.Reading.{Kind, JobLine, PointLine, SlotLine, LevelLine, PieceLine, MemberLine, TicksLine, RunLine, GridLine, EnergyLine}
use Rattle.base.specs.declared.limits.TheConstants.{MAX_JOBS, MAX_POINTS, MAX_SLOTS, MAX_LEVELS, MAX_PIECES, MAX_MEMBERS}
use Rattle.document_reader.specs.declared.draft.Draft.{Draft}
use Rattle.document_reader.specs.declared.line_kind.LineKind.{LineKind}
use Rattle.document_reader.specs.declared.line_kind.LineKind.TheVariants as kinds
use Rattle.document_value.specs.Documents.{points_of}

abbrev pub line_kind : LineKind → Kind
line_kind kinds.Job = JobLine
line_kind kinds.Point = PointLine
line_kind kinds.Slot = SlotLine
line_kind kinds.Level = LevelLine
line_kind kinds.Piece = PieceLine
line_kind kinds.Member = MemberLine
line_kind kinds.Ticks = TicksLine
line_kind kinds.Run = RunLine
line_kind kinds.Grid = GridLine
line_kind kinds.Energy = EnergyLine

abbrev pub kind_told : Option LineKind → Option Kind
kind_told None = None
kind_told (Some kind) = Some (line_kind kind)

-- the line may stand after those that the draft holds
abbrev pub follows_draft : LineKind → Draft → Bool
follows_draft kinds.Piece draft = nat_lt 0 (length draft.certificate)
follows_draft kinds.Member draft = nat_lt 0 (length draft.certificate)
follows_draft kinds.Run draft = is_some draft.ticks
follows_draft kinds.Ticks draft = is_none draft.ticks
follows_draft kinds.Grid draft = is_none draft.grid
follows_draft kinds.Energy draft = is_none draft.energy
follows_draft _ draft = true

-- one more line of the kind may stand there
abbrev pub has_room_in : LineKind → Draft → Bool
has_room_in kinds.Job draft = nat_lt (length draft.instance.names) MAX_JOBS
has_room_in kinds.Point draft = nat_lt (length (points_of draft.table)) MAX_POINTS
has_room_in kinds.Slot draft = nat_lt (length draft.schedule.slots) MAX_SLOTS
has_room_in kinds.Run draft = nat_lt (length draft.schedule.slots) MAX_SLOTS
has_room_in kinds.Level draft = nat_lt (length draft.certificate) MAX_LEVELS
has_room_in kinds.Piece draft = nat_lt draft.pieces MAX_PIECES
has_room_in kinds.Member draft = nat_lt draft.members MAX_MEMBERS
has_room_in _ draft = true
