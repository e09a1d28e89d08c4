-- What holds of what a trace is told as.
use Rattle.std.specs.Prelude.{◌≡◌, ◌<◌, List, ◌∷◌, ◌++◌, map, length, Bool, true, false, ◌==◌, ℕ, Some, None}
use Rattle.std.specs.List.{list_any}
use Rattle.yds_kernel.specs.Event.{Said}
use Rattle.yds_trace.specs.declared.limits.TheConstants.{LOOK_EVERY}
use Rattle.yds_trace.specs.Asked.{Asked}
use Rattle.yds_trace.specs.Others.{others_from}
use Rattle.yds_trace.specs.declared.cut.Cut.{Cut}
use Rattle.yds_trace.specs.Parts.{cut_after, no_cut, place_of, is_due, is_much, waiting, begin_of, is_quiet}
use Rattle.yds_trace_text.specs.PartText.{part_text}
use Rattle.yds_trace_parts.specs.Told.{Halt, line_halt, part_halt, told_after}

-- the first text, and more
pub record Begins (front text : List ℕ) : Type 0 where
  pub more : List ℕ
  pub is : text ≡ front ++ more

-- What is told of more lines begins with what is told of fewer.
abbrev pub ToldGrows : Type 0
ToldGrows = (asked : Asked) (strict : Bool) (more past : List Said) → Begins (told_after asked strict past).text (told_after asked strict (more ++ past)).text

-- Where it halts, that stays, and no text is told of the lines behind.
abbrev pub HaltsStay : Type 0
HaltsStay = (asked : Asked) (strict : Bool) (more past : List Said) (halt : Halt) → (told_after asked strict past).halt ≡ Some halt →
    told_after asked strict (more ++ past) ≡ told_after asked strict past

-- The line at which it halts adds no text: the parts before it stay.
abbrev pub HaltsWriteNothing : Type 0
HaltsWriteNothing = (asked : Asked) (strict : Bool) (past : List Said) (said : Said) (halt : Halt) → (told_after asked strict (said ∷ past)).halt ≡ Some halt →
    (told_after asked strict (said ∷ past)).text ≡ (told_after asked strict past).text

-- With one processor a part follows the parts before it, where there is a place behind a line that is taken, and the part passes no limit.
abbrev pub PartsFollow : Type 0
PartsFollow = (asked : Asked) (strict : Bool) (past : List Said) (said : Said) (time : ℕ) → asked.everywhere ≡ false → (told_after asked strict past).halt ≡ None →
    line_halt asked past said ≡ None → place_of asked (said ∷ past) (cut_after asked past) ≡ Some time → part_halt asked strict (said ∷ past) (cut_after asked past) (Some time) ≡ None →
    told_after asked strict (said ∷ past)
    ≡ record { text = (told_after asked strict past).text ++ part_text asked (said ∷ past) (cut_after asked past) (Some time); halt = None }

-- Where it is looked for a part and much waits, a quiet begin of a waiting job is enough for one.
abbrev pub PartsEnd : Type 0
PartsEnd = (asked : Asked) (past : List Said) (cut : Cut) (time : ℕ) → is_due past ≡ true →
    is_much (waiting asked past cut) (others_from asked past cut.boundary) ≡ true →
    list_any (λ begin. begin == time) (map begin_of (waiting asked past cut)) ≡ true → is_quiet asked past (waiting asked past cut) time ≡ true →
    (place : ℕ) × (place_of asked past cut ≡ Some place)

-- A trace of few lines is one part.
abbrev pub FewLinesAreOnePart : Type 0
FewLinesAreOnePart = (asked : Asked) (past : List Said) → length past < LOOK_EVERY → cut_after asked past ≡ no_cut
