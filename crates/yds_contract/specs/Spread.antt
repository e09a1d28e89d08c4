-- A slot of contracted time, spread over real time. Times are in parts, of which a time unit has as many as the speed's numerator:
-- each end of a slot at that speed is a whole number of them.
use Rattle.std.specs.Prelude.{◌≡◌, ℕ, ◌-◌, ◌*◌, ◌/◌, ◌<◌, ◌≤◌, ◌↔◌, ◌⊎◌, List, [], ◌∷◌, map}
use Rattle.std.specs.List.{All, Contains}
use Rattle.base.specs.declared.limits.TheConstants.{MAX_TIME, MAX_SLOT_WORK}
use Rattle.yds_model.specs.Scale.{Quotient, at_scale, of_parts}
use Rattle.yds_model.specs.Slot.{WrittenSlot}
use Rattle.yds_model.specs.Piece.{Piece, PiecesFrom, Covers}
use Rattle.yds_contract.specs.Contracted.{HasPlace}

-- the piece in parts, of which each time unit has so many
abbrev pub piece_in_parts : ℕ → Piece → Piece
piece_in_parts parts piece = record { from = piece.from * parts; to = piece.to * parts }

-- the slot's time in parts
abbrev pub span_of : ℕ → WrittenSlot → Piece
span_of parts slot = record { from = at_scale parts slot.from; to = at_scale parts slot.to }

abbrev pub spans_of : ℕ → List WrittenSlot → List Piece
spans_of parts slots = map (span_of parts) slots

-- the slot of a job at this speed over a span of parts: its work is the speed's times the span
abbrev pub slot_over : ℕ → Quotient → Piece → WrittenSlot
slot_over job speed span = record {
  job = job;
  from = of_parts span.from speed.num;
  to = of_parts span.to speed.num;
  work = of_parts (span.to - span.from) speed.den;
}

-- a slot at this speed may run over the span: it takes time, ends in time, and gives no more work than a slot may
pub record CanRunOver (speed : Quotient) (span : Piece) : Type 0 where
  pub forward : span.from < span.to
  pub within : span.to ≤ MAX_TIME * speed.num
  pub work_fits : (span.to - span.from) / speed.den ≤ MAX_SLOT_WORK

-- after a piece that ends at `end`, each piece that begins where the one before it ends does so at one of the times
abbrev pub MeetsOnlyAt : List ℕ → ℕ → List Piece → Type 0
MeetsOnlyAt times end [] = Unit {0}
MeetsOnlyAt times end (piece ∷ pieces) = (end ≡ piece.from → Contains times end) × MeetsOnlyAt times piece.to pieces

abbrev pub MeetOnlyAt : List ℕ → List Piece → Type 0
MeetOnlyAt times [] = Unit {0}
MeetOnlyAt times (piece ∷ pieces) = MeetsOnlyAt times piece.to pieces

-- the time isn't strictly inside the piece
abbrev pub IsUncutAt : ℕ → Piece → Type 0
IsUncutAt time piece = (time ≤ piece.from) ⊎ (piece.to ≤ time)

-- The real slots that make up a slot of contracted time: of the same job and at the same speed, one after another, over just
-- the time that isn't removed and has its place in the slot; no event lies strictly inside one, and where one begins at the end of
-- another there is an event.
pub record IsSpread (removed : List Piece) (slot : WrittenSlot) (speed : Quotient) (events : List ℕ) (slots : List WrittenSlot) : Type 0 where
  pub each : All (λ real. real ≡ slot_over slot.job speed (span_of speed.num real)) slots
  pub in_order : PiecesFrom 0 (spans_of speed.num slots)
  pub time : (time : ℕ) → Covers (spans_of speed.num slots) time
      ↔ HasPlace (map (piece_in_parts speed.num) removed) (at_scale speed.num slot.from) (at_scale speed.num slot.to) time
  pub uncut : All (λ event. All (IsUncutAt (event * speed.num)) (spans_of speed.num slots)) events
  pub cut_at_events : MeetOnlyAt (map (λ event. event * speed.num) events) (spans_of speed.num slots)
