-- Slots at speeds of a table: all are exactly where each part's are.
use Rattle.yds_model.proofs.Common.{ℕ, List, [], ◌∷◌, length, map, Option, Some, None, All, All-nil, All-cons, All-head, All-tail, All-append, All-map, WrittenSlot, Point, IsOnTable, All-front, All-back}
use Rattle.yds_parts.specs.Parts.{moved_written}
use Rattle.yds_parts.proofs.TwoParts.{All-made}
use Rattle.yds_cuts.specs.Cuts.{Part, all_slots}
use Rattle.yds_cuts.specs.CutLaws.{OnTableInEachPart}

-- the slot of a job some places later is on the table too
pub on_moved : (table : Option (List Point)) (n : ℕ) (slot : WrittenSlot) → IsOnTable table slot → IsOnTable table (moved_written n slot)
on_moved None n slot on = tt
on_moved (Some points) n slot on = on

-- and was before
pub on_again : (table : Option (List Point)) (n : ℕ) (slot : WrittenSlot) → IsOnTable table (moved_written n slot) → IsOnTable table slot
on_again None n slot on = tt
on_again (Some points) n slot on = on

abbrev IsPartOnTable : Option (List Point) → Part → Type 0
IsPartOnTable table part = All (IsOnTable table) part.slots

all_on_table : (table : Option (List Point)) (parts : List Part) → All (IsPartOnTable table) parts → All (IsOnTable table) (all_slots parts)
all_on_table table [] each = All-nil (IsOnTable table)
all_on_table table (part ∷ parts) each =
    All-append (IsOnTable table) part.slots (map (moved_written (length part.jobs)) (all_slots parts)) (All-head (IsPartOnTable table) part parts each)
    (All-map (IsOnTable table) (moved_written (length part.jobs)) (all_slots parts)
    (λ k d within. on_moved table (length part.jobs) _ (all_on_table table parts (All-tail (IsPartOnTable table) part parts each) k d within)))

each_on_table : (table : Option (List Point)) (parts : List Part) → All (IsOnTable table) (all_slots parts) → All (IsPartOnTable table) parts
each_on_table table [] all = All-nil (IsPartOnTable table)
each_on_table table (part ∷ parts) all =
    let later = All-made (IsOnTable table) (moved_written (length part.jobs)) (all_slots parts)
    (All-back (IsOnTable table) part.slots (map (moved_written (length part.jobs)) (all_slots parts)) all) in
    All-cons (IsPartOnTable table) part parts (All-front (IsOnTable table) part.slots (map (moved_written (length part.jobs)) (all_slots parts)) all)
    (each_on_table table parts (λ k d within. on_again table (length part.jobs) _ (later k d within)))

-- the law
pub on_table_in_each_part : OnTableInEachPart
on_table_in_each_part table parts = (each_on_table table parts, all_on_table table parts)
