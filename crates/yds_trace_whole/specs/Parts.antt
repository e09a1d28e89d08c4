-- The parts of a trace, one after another, as they are written.
use Rattle.std.specs.Prelude.{◌≡◌, ℕ, ⊤, List, [], ◌∷◌, ◌++◌, map, filter, ◌==◌, Option, Some, None}
use Rattle.std.specs.List.{flat_map}
use Rattle.yds_kernel.specs.Event.{Said}
use Rattle.yds_trace.specs.declared.cut.Cut.{Cut}
use Rattle.yds_trace.specs.Asked.{Asked, on}
use Rattle.yds_trace.specs.Document.{Judged}
use Rattle.yds_trace.specs.Parts.{part_until, place_of, cut_after, part_fault, processors_of, parts_fault}
use Rattle.yds_trace_document.specs.Settled.{Settled}
use Rattle.yds_trace_document.specs.Part.{shift_of, part_of}
use Rattle.yds_trace_text.specs.PartText.{part_text}

-- a part as it is written
pub record Part : Type 0 where
  -- of this processor
  pub processor : ℕ
  -- what was written before it
  pub cut : Cut
  -- where it ends; the last one goes on to the trace's end
  pub until : Option ℕ
  -- so many units are taken off each of its times
  pub shift : ℕ
  pub settled : Settled
  pub text : List ℕ

-- the part that ends at this time, or the last one
abbrev pub made : Asked → List Said → Cut → Option ℕ → Part
made asked past cut until = record {
  processor = asked.processor;
  cut = cut;
  until = until;
  shift = shift_of asked past (part_until asked past cut until);
  settled = part_of asked past cut until;
  text = part_text asked past cut until;
}

-- A part without a job isn't written.
abbrev pub made_with : Asked → List Said → Cut → ℕ → List Judged → List Part
made_with asked past cut time [] = []
made_with asked past cut time (judged ∷ part) = made asked past cut (Some time) ∷ []

-- the part that is written behind these lines, if one is
abbrev pub made_at : Asked → List Said → Cut → Option ℕ → List Part
made_at asked past cut None = []
made_at asked past cut (Some time) = made_with asked past cut time (part_until asked past cut (Some time))

-- # Of one processor

-- The parts that are written before the trace's end.
abbrev pub parts_behind : Asked → List Said → List Part
parts_behind asked [] = []
parts_behind asked (said ∷ past) =
    parts_behind asked past
    ++ made_at asked (said ∷ past) (cut_after asked past) (place_of asked (said ∷ past) (cut_after asked past))

-- all parts of the processor that is asked for, with the last one
abbrev pub parts_of : Asked → List Said → List Part
parts_of asked past = parts_behind asked past ++ made asked past (cut_after asked past) None ∷ []

-- the judged jobs of parts, one part after another
abbrev pub judged_in_parts : List Part → List Judged
judged_in_parts parts = flat_map (λ part. part.settled.judged) parts

-- No line is refused behind the parts of the processor that were written before it.
abbrev pub KeepsParts : Asked → List Said → Type 0
KeepsParts asked [] = ⊤
KeepsParts asked (said ∷ past) = (part_fault asked past (cut_after asked past) said ≡ None) × KeepsParts asked past

-- # Of all processors

-- the parts that are written behind this line, of these processors
abbrev pub made_behind : Asked → List Said → Said → List ℕ → List Part
made_behind asked past said processors = flat_map (λ processor. made_at (on processor asked) (said ∷ past) (cut_after (on processor asked) past)
    (place_of (on processor asked) (said ∷ past) (cut_after (on processor asked) past))) processors

abbrev pub written_behind : Asked → List Said → List Part
written_behind asked [] = []
written_behind asked (said ∷ past) = written_behind asked past ++ made_behind asked past said (processors_of asked (said ∷ past))

abbrev pub last_made : Asked → List Said → ℕ → Part
last_made asked past processor = made (on processor asked) past (cut_after (on processor asked) past) None

-- all parts of a trace in the order in which they are written
abbrev pub written_parts : Asked → List Said → List Part
written_parts asked past = written_behind asked past ++ map (last_made asked past) (processors_of asked past)

-- those of them that are of this processor
abbrev pub parts_on : ℕ → List Part → List Part
parts_on processor parts = filter (λ part. part.processor == processor) parts

-- No line is refused behind the parts of all processors.
abbrev pub KeepsAllParts : Asked → List Said → Type 0
KeepsAllParts asked [] = ⊤
KeepsAllParts asked (said ∷ past) = (parts_fault asked past said ≡ None) × KeepsAllParts asked past
