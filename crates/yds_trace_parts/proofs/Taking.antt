-- What a line makes of what is kept, and what is written at the end.
use Rattle.base.proofs.Common.{◌≡◌, ◌≤◌, ◌+◌, ◌&&◌, ◌||◌, ℕ, List, [], ◌∷◌, ◌++◌, map, max, length, Bool, true, false, not, list_any, Option, Some, None, is_some, Result, Ok, Err, OnOk, IfErr, refl, sym, ap, ap₂, subst, ◌∙◌, append-nil, if◌then◌else◌}
use Rattle.yds_kernel.specs.Event.{Said}
use Rattle.yds_kernel.specs.Parts.{or_else}
use Rattle.yds_trace.specs.declared.cut.Cut.{Cut}
use Rattle.yds_trace.specs.declared.fault.Cause.{Cause}
use Rattle.yds_trace.specs.declared.pass.Pass.{Pass}
use Rattle.yds_trace.specs.Asked.{Asked, on}
use Rattle.yds_trace.specs.Faults.{said_fault, whole_fault}
use Rattle.yds_trace.specs.Kept.{IsAtBehind, told_to_forget}
use Rattle.yds_trace.specs.Past.{next_processor}
use Rattle.yds_trace.specs.Parts.{part_fault, parts_fault, cut_after, processors_of}
use Rattle.yds_trace_document.specs.declared.fault.DocumentFault.TheVariants as faults
use Rattle.yds_trace_parts.specs.declared.halt.Halt.{Halt as HaltKept}
use Rattle.yds_trace_parts.specs.declared.halt.Halt.TheVariants as kept
use Rattle.yds_trace_parts.specs.declared.part.Last.{Last}
use Rattle.yds_trace_parts.specs.declared.processors.Processor.{Processor}
use Rattle.yds_trace_parts.specs.declared.processors.Pieces.{Pieces}
use Rattle.yds_trace_parts.specs.declared.telling.Telling.{Telling}
use Rattle.yds_trace_text.specs.Limit.{Beyond}
use Rattle.yds_trace_parts.specs.Told.{Halt, OfDocument, Told, at_line, both, piece_unless, has_written, line_halt, last_pieces, no_job_halt, last_piece, told_after}
use Rattle.yds_trace_parts.specs.Telling.{IsHaltFor, text_alone, next_of, each_of, pieces_at, ArePieces, last_at, one_has_written, AreLast, cut_on, told_on, IsUnseen, cuts_of, IsLatest, NoneEndsBefore, IsWritten, IsTelling, IsTaken, IsStill, Adds, IsEnd}
use Rattle.yds_trace_parts.proofs.Joined.{pieces_are, last_are}
use Rattle.yds_trace_parts.proofs.Steps.{refused_is, halts_behind, told_more}
use Rattle.yds_trace_parts.proofs.Unseen.{cut_in, cuts_are, IsGrown, fault_same, written_grown}
use Rattle.yds_trace_parts.proofs.Still.{still_pieces, still_told, still_unseen, behind_later}
use Rattle.yds_trace_parts.proofs.Behind.{IsBehindLine, of_told, pieces_written}

-- # The line is taken

-- by what is kept, as by the definition
sound_so : (asked : Asked) (past : List Said) (said : Said) (part : Option Cause) → said_fault asked past said ≡ None → part ≡ None → part ≡ parts_fault asked past said →
    line_halt asked past said ≡ None
sound_so asked past said part taken unchanged same =
    ap₂ (λ (one other : Option Cause). at_line (length past + 1) (or_else one other)) taken (sym same ∙ unchanged)

pub taken_so : (asked : Asked) (strict : Bool) (past : List Said) (said : Said) (telling next : Telling) → IsTelling asked strict past telling →
    IsAtBehind asked (said ∷ past) (told_to_forget telling.pass) next.pass → told_to_forget next.pass ≡ told_to_forget telling.pass →
    said_fault asked past said ≡ None → part_fault asked past telling.latest said ≡ None →
    IsGrown telling.processors.items next.processors.items telling.unseen (next_processor said) → next.unseen ≡ telling.unseen → next.latest ≡ telling.latest →
    next.strict ≡ telling.strict → IsTaken asked strict past said next
taken_so asked strict past said telling next is stands forgets taken unchanged grown unseen latest strictness = record {
  stands = subst (λ (time : ℕ). IsAtBehind asked (said ∷ past) time next.pass) (sym forgets) stands;
  is_written = subst (λ (time : ℕ). IsWritten asked past (said ∷ past) time next.processors.items next.unseen next.latest) (sym forgets)
      (subst (λ (one : Option Cut). IsWritten asked past (said ∷ past) (told_to_forget telling.pass) next.processors.items one next.latest) (sym unseen)
      (subst (λ (one : Cut). IsWritten asked past (said ∷ past) (told_to_forget telling.pass) next.processors.items telling.unseen one) (sym latest)
      (written_grown asked past said (told_to_forget telling.pass) telling.processors.items next.processors.items telling.unseen telling.latest is.is_written grown)));
  same_strict = strictness ∙ is.same_strict;
  goes_on = is.goes_on;
  sound = sound_so asked past said (part_fault asked past telling.latest said) taken unchanged
      (fault_same asked past said (told_to_forget telling.pass) telling.processors.items telling.unseen telling.latest is.is_written);
}

-- What is kept stands for the last cut of all too.
pub at_latest : (asked : Asked) (strict : Bool) (past : List Said) (telling : Telling) → IsTelling asked strict past telling → IsAtBehind asked past telling.latest.boundary telling.pass
at_latest asked strict past telling is =
    behind_later asked past (told_to_forget telling.pass) telling.latest.boundary telling.pass is.is_written.later.0 is.stands

-- what `grow` says of the processors
pub grown_of : (old new : List Processor) (unseen : Option Cut) (told : Option ℕ) (count : ℕ) → next_of told ≡ count → (unseen ≡ None → new ≡ old) →
    ((cut : Cut) (cuts : ℕ → Cut) (before : ℕ) → unseen ≡ Some cut → old ≡ each_of cuts before → ((number : ℕ) → before ≤ number → cuts number ≡ cut) →
    new ≡ each_of cuts (max (next_of told) before)) → IsGrown old new unseen count
grown_of old new unseen told count is same grown = record {
  same = same;
  grown = λ cut cuts before some are alike. grown cut cuts before some are alike ∙ ap (λ (n : ℕ). each_of cuts (max n before)) is;
}

-- # Nothing is written behind it

still_before : (asked : Asked) (strict : Bool) (past : List Said) (said : Said) (telling : Telling) → IsTaken asked strict past said telling →
    NoneEndsBefore (told_to_forget telling.pass) (map (cut_on asked past) (processors_of asked (said ∷ past)))
still_before asked strict past said telling is =
    subst (NoneEndsBefore (told_to_forget telling.pass)) (ap (map cut_in) is.is_written.processors_are ∙ cuts_are asked past (processors_of asked (said ∷ past)))
    (of_told (told_to_forget telling.pass) telling.processors.items telling.unseen is.is_written.later.1)

still_none : (asked : Asked) (strict : Bool) (past : List Said) (said : Said) (telling : Telling) → IsTaken asked strict past said telling →
    IsStill asked (said ∷ past) (told_to_forget telling.pass) → told_after asked strict (said ∷ past) ≡ record { text = (told_after asked strict past).text ++ []; halt = None }
still_none asked strict past said telling is still =
    told_more asked strict past said [] is.goes_on is.sound
    (still_pieces asked strict past said (told_to_forget telling.pass) still (processors_of asked (said ∷ past)) (still_before asked strict past said telling is))

unseen_still : (asked : Asked) (past : List Said) (said : Said) (time : ℕ) (processors : List Processor) (unseen : Option Cut) → IsStill asked (said ∷ past) time →
    NoneEndsBefore time (cuts_of processors unseen) → IsUnseen asked past unseen → IsUnseen asked (said ∷ past) unseen
unseen_still asked past said time processors None still none one = one
unseen_still asked past said time processors (Some cut) still none is = still_unseen asked past said time still cut none.0 is

pub still_taken : (asked : Asked) (strict : Bool) (past : List Said) (said : Said) (telling : Telling) → IsTaken asked strict past said telling →
    IsStill asked (said ∷ past) (told_to_forget telling.pass) → IsTelling asked strict (said ∷ past) telling
still_taken asked strict past said telling is still = record {
  stands = is.stands;
  is_written = record {
    processors_are = is.is_written.processors_are
        ∙ still_told asked past said (told_to_forget telling.pass) still (processors_of asked (said ∷ past)) (still_before asked strict past said telling is);
    unseen_is = unseen_still asked past said (told_to_forget telling.pass) telling.processors.items telling.unseen still is.is_written.later.1 is.is_written.unseen_is;
    latest_is = is.is_written.latest_is;
    later = is.is_written.later;
  };
  same_strict = is.same_strict;
  goes_on = ap (λ (told : Told). told.halt) (still_none asked strict past said telling is still);
}

pub still_adds : (asked : Asked) (strict : Bool) (past : List Said) (said : Said) (telling : Telling) → IsTaken asked strict past said telling →
    IsStill asked (said ∷ past) (told_to_forget telling.pass) → Adds asked strict past (said ∷ past) []
still_adds asked strict past said telling is still = ap (λ (told : Told). told.text) (still_none asked strict past said telling is still)

-- # Parts are written behind it

made_strict : (asked : Asked) (strict : Bool) (past : List Said) (said : Said) (telling : Telling) (made : Pieces) → IsTaken asked strict past said telling →
    ArePieces asked telling.strict (said ∷ past) telling.processors.items made → ArePieces asked strict (said ∷ past) telling.processors.items made
made_strict asked strict past said telling made is are = subst (λ (b : Bool). ArePieces asked b (said ∷ past) telling.processors.items made) is.same_strict are

pieces_told : (asked : Asked) (strict : Bool) (past : List Said) (said : Said) (telling : Telling) (made : Pieces) → IsTaken asked strict past said telling →
    ArePieces asked telling.strict (said ∷ past) telling.processors.items made →
    told_after asked strict (said ∷ past) ≡ record { text = (told_after asked strict past).text ++ made.text.items; halt = None }
pieces_told asked strict past said telling made is are =
    told_more asked strict past said made.text.items is.goes_on is.sound
    (pieces_written asked strict past said telling.processors.items made is.is_written.processors_are (made_strict asked strict past said telling made is are))

pub pieces_add : (asked : Asked) (strict : Bool) (past : List Said) (said : Said) (telling : Telling) (made : Pieces) → IsTaken asked strict past said telling →
    ArePieces asked telling.strict (said ∷ past) telling.processors.items made → Adds asked strict past (said ∷ past) made.text.items
pieces_add asked strict past said telling made is are = ap (λ (told : Told). told.text) (pieces_told asked strict past said telling made is are)

pub pieces_taken : (asked : Asked) (strict : Bool) (past : List Said) (said : Said) (telling next : Telling) (made : Pieces) → IsTaken asked strict past said telling →
    ArePieces asked telling.strict (said ∷ past) telling.processors.items made →
    IsBehindLine asked (said ∷ past) (told_to_forget telling.pass) next.processors.items next.unseen → IsLatest (cuts_of next.processors.items next.unseen) next.latest →
    IsAtBehind asked (said ∷ past) (told_to_forget next.pass) next.pass → NoneEndsBefore (told_to_forget next.pass) (next.latest ∷ cuts_of next.processors.items next.unseen) →
    next.strict ≡ telling.strict → IsTelling asked strict (said ∷ past) next
pieces_taken asked strict past said telling next made is are behind latest stands later strictness = record {
  stands = stands;
  is_written = record { processors_are = behind.processors_are; unseen_is = behind.unseen_is; latest_is = latest; later = later };
  same_strict = strictness ∙ is.same_strict;
  goes_on = ap (λ (told : Told). told.halt) (pieces_told asked strict past said telling made is are);
}

-- what is kept when what comes before the first cut is forgotten
pub pieces_forgotten : (asked : Asked) (strict : Bool) (past : List Said) (said : Said) (telling next : Telling) (made : Pieces) (pass : Pass) (least : ℕ) →
    IsTaken asked strict past said telling → ArePieces asked telling.strict (said ∷ past) telling.processors.items made →
    IsBehindLine asked (said ∷ past) (told_to_forget telling.pass) next.processors.items next.unseen → IsLatest (cuts_of next.processors.items next.unseen) next.latest →
    IsAtBehind asked (said ∷ past) (told_to_forget telling.pass) pass →
    ((time : ℕ) → NoneEndsBefore time (cuts_of next.processors.items next.unseen) → 1 ≤ length (cuts_of next.processors.items next.unseen) → time ≤ next.latest.boundary) →
    NoneEndsBefore least (cuts_of next.processors.items next.unseen) → least ≤ next.latest.boundary →
    ((time : ℕ) → NoneEndsBefore time (cuts_of next.processors.items next.unseen) → time ≤ next.latest.boundary → time ≤ least) →
    ((words : Asked) (lines : List Said) (before : ℕ) → IsAtBehind words lines before pass → before ≤ least → IsAtBehind words lines least next.pass) →
    told_to_forget next.pass ≡ least → next.strict ≡ telling.strict → IsTelling asked strict (said ∷ past) next
pieces_forgotten asked strict past said telling next made pass least is are behind latest stands last none within first forgets told strictness =
    let before : told_to_forget telling.pass ≤ next.latest.boundary = last (told_to_forget telling.pass) behind.later behind.some in
    pieces_taken asked strict past said telling next made is are behind latest
    (subst (λ (time : ℕ). IsAtBehind asked (said ∷ past) time next.pass) (sym told)
    (forgets asked (said ∷ past) (told_to_forget telling.pass) stands (first (told_to_forget telling.pass) behind.later before)))
    (subst (λ (time : ℕ). NoneEndsBefore time (next.latest ∷ cuts_of next.processors.items next.unseen)) (sym told) (within, none)) strictness

-- # It isn't

-- the reason for one is the reason for the other
pub halts_as : (found other : Option Halt) (halt : HaltKept) → ((one : Halt) → found ≡ Some one → other ≡ Some one) → IsHaltFor found halt → IsHaltFor other halt
halts_as found other kept.Memory same is = tt
halts_as found other kept.NoFirst same is = absurd is
halts_as found other kept.Endless same is = absurd is
halts_as found other kept.ReadFault same is = absurd is
halts_as found other kept.WriteFault same is = absurd is
halts_as found other (kept.InForm number fault) same is = same _ is
halts_as found other (kept.AtLine number cause) same is = same _ is
halts_as found other (kept.Limit processor part fault) same is = same _ is
halts_as found other (kept.NotKnown processor part place name reason) same is = same _ is
halts_as found other (kept.TooLong processor part) same is = same _ is
halts_as found other (kept.NoPlace name begin late) same is = same _ is

-- want of memory alone is a reason for no halt
pub halts_for_none : (other : Option Halt) (halt : HaltKept) → IsHaltFor None halt → IsHaltFor other halt
halts_for_none other halt is = halts_as None other halt (λ one same. cc) is

pub line_halted : (asked : Asked) (strict : Bool) (past : List Said) (said : Said) (telling : Telling) (number : ℕ) (halt : HaltKept) → IsTelling asked strict past telling →
    number ≡ length past + 1 → IsHaltFor (at_line number (or_else (said_fault asked past said) (part_fault asked past telling.latest said))) halt →
    IsHaltFor (told_after asked strict (said ∷ past)).halt halt
line_halted asked strict past said telling number halt is at halts =
    halts_as (line_halt asked past said) (told_after asked strict (said ∷ past)).halt halt (λ one found. refused_is asked strict past said one is.goes_on found)
    (subst (λ (fault : Option Cause). IsHaltFor (at_line (length past + 1) (or_else (said_fault asked past said) fault)) halt)
    (fault_same asked past said (told_to_forget telling.pass) telling.processors.items telling.unseen telling.latest is.is_written)
    (subst (λ (n : ℕ). IsHaltFor (at_line n (or_else (said_fault asked past said) (part_fault asked past telling.latest said))) halt) at halts))

pub pieces_halted : (asked : Asked) (strict : Bool) (past : List Said) (said : Said) (telling : Telling) (halt : HaltKept) → IsTaken asked strict past said telling →
    IsHaltFor (pieces_at asked telling.strict (said ∷ past) telling.processors.items).halt halt → IsHaltFor (told_after asked strict (said ∷ past)).halt halt
pieces_halted asked strict past said telling halt is halts =
    subst (λ (found : Option Halt). IsHaltFor found halt)
    (ap₂ (λ (b : Bool) (processors : List Processor). (pieces_at asked b (said ∷ past) processors).halt) is.same_strict is.is_written.processors_are
    ∙ ap (λ (told : Told). told.halt) (pieces_are asked strict past said (processors_of asked (said ∷ past)))
    ∙ sym (halts_behind asked strict past said is.goes_on is.sound)) halts

-- # The end

any_written : (asked : Asked) (past : List Said) (numbers : List ℕ) →
    one_has_written asked past (map (told_on asked past) numbers) ≡ list_any (λ number. has_written (on number asked) past (cut_after (on number asked) past)) numbers
any_written asked past [] = refl
any_written asked past (number ∷ numbers) =
    ap (λ (b : Bool). has_written (on number asked) past (cut_after (on number asked) past) || b) (any_written asked past numbers)

everywhere_is : (asked : Asked) (past : List Said) (unseen : Option Cut) → IsUnseen asked past unseen → is_some unseen ≡ asked.everywhere
everywhere_is asked past None one = sym one
everywhere_is asked past (Some cut) unseen = sym unseen.0

-- what the last parts halt for, beside their own reasons
job_halt : (asked : Asked) (strict : Bool) (past : List Said) (telling : Telling) (last : Last) → IsTelling asked strict past telling →
    AreLast asked telling.strict past telling.processors.items last →
    no_job_halt asked past (processors_of asked past) ≡ (if is_some telling.unseen && not last.has_job then Some (OfDocument None 1 (Beyond faults.NoJobAnywhere)) else None)
job_halt asked strict past telling last is are =
    ap₂ (λ (everywhere has : Bool). if everywhere && not has then Some (OfDocument None 1 (Beyond faults.NoJobAnywhere)) else None)
    (sym (everywhere_is asked past telling.unseen is.is_written.unseen_is))
    (sym (are.some ∙ ap (one_has_written asked past) is.is_written.processors_are ∙ any_written asked past (processors_of asked past)))

last_written : (asked : Asked) (strict : Bool) (past : List Said) (telling : Telling) → IsTelling asked strict past telling →
    last_at asked telling.strict past telling.processors.items ≡ last_pieces asked strict past (processors_of asked past)
last_written asked strict past telling is =
    ap₂ (λ (b : Bool) (processors : List Processor). last_at asked b past processors) is.same_strict is.is_written.processors_are
    ∙ last_are asked strict past (processors_of asked past)

last_is : (asked : Asked) (strict : Bool) (past : List Said) (telling : Telling) (last : Last) (b : Bool) → IsTelling asked strict past telling →
    AreLast asked telling.strict past telling.processors.items last → (is_some telling.unseen && not last.has_job) ≡ b →
    last_piece asked strict past (processors_of asked past)
    ≡ both (text_alone last.text.items) (piece_unless (if b then Some (OfDocument None 1 (Beyond faults.NoJobAnywhere)) else None) [])
last_is asked strict past telling last b is are no_job =
    ap₂ (λ (first : Told) (halt : Option Halt). both first (piece_unless halt [])) (sym (last_written asked strict past telling is) ∙ are.written)
    (job_halt asked strict past telling last is are ∙ ap (λ (one : Bool). if one then Some (OfDocument None 1 (Beyond faults.NoJobAnywhere)) else None) no_job)

pub last_told : (asked : Asked) (strict : Bool) (past : List Said) (telling : Telling) (last : Last) → IsTelling asked strict past telling →
    AreLast asked telling.strict past telling.processors.items last → (is_some telling.unseen && not last.has_job) ≡ false → IsEnd asked strict past last.text.items
last_told asked strict past telling last is are no_job =
    last_is asked strict past telling last false is are no_job ∙ ap text_alone (append-nil last.text.items)

pub last_no_job : (asked : Asked) (strict : Bool) (past : List Said) (telling : Telling) (last : Last) → IsTelling asked strict past telling →
    AreLast asked telling.strict past telling.processors.items last → (is_some telling.unseen && not last.has_job) ≡ true →
    (last_piece asked strict past (processors_of asked past)).halt ≡ Some (OfDocument None 1 (Beyond faults.NoJobAnywhere))
last_no_job asked strict past telling last is are no_job = ap (λ (told : Told). told.halt) (last_is asked strict past telling last true is are no_job)

first_halts : (text : List ℕ) (halt : Option Halt) (second : Told) (found : Halt) → halt ≡ Some found → (both (record { text = text; halt = halt }) second).halt ≡ Some found
first_halts text (Some one) second found is = is
first_halts text None second found is = cc

pub last_halted : (asked : Asked) (strict : Bool) (past : List Said) (telling : Telling) (halt : HaltKept) → IsTelling asked strict past telling →
    IsHaltFor (last_at asked telling.strict past telling.processors.items).halt halt → IsHaltFor (last_piece asked strict past (processors_of asked past)).halt halt
last_halted asked strict past telling halt is halts =
    halts_as (last_pieces asked strict past (processors_of asked past)).halt (last_piece asked strict past (processors_of asked past)).halt halt
    (λ one found. first_halts (last_pieces asked strict past (processors_of asked past)).text (last_pieces asked strict past (processors_of asked past)).halt
    (piece_unless (no_job_halt asked past (processors_of asked past)) []) one found)
    (subst (λ (told : Told). IsHaltFor told.halt halt) (last_written asked strict past telling is) halts)

-- # The whole trace

-- it isn't refused, but its last parts
pub end_halted : {A : Type 0} (asked : Asked) (strict : Bool) (past : List Said) (number : ℕ) (result : Result A HaltKept) → whole_fault asked past ≡ None →
    IfErr result (IsHaltFor (last_piece asked strict past (processors_of asked past)).halt) →
    IfErr result (IsHaltFor (or_else (at_line number (whole_fault asked past)) (last_piece asked strict past (processors_of asked past)).halt))
end_halted asked strict past number (Ok x) sound halts = tt
end_halted asked strict past number (Err halt) sound halts =
    subst (λ (fault : Option Cause). IsHaltFor (or_else (at_line number fault) (last_piece asked strict past (processors_of asked past)).halt) halt) (sym sound) halts

pub last_sound : {A E : Type 0} (P : Type 0) (result : Result A E) → P → OnOk result P
last_sound P (Ok x) sound = sound
last_sound P (Err e) sound = tt

pub whole_halted : (asked : Asked) (strict : Bool) (past : List Said) (number : ℕ) (cause : Cause) → whole_fault asked past ≡ Some cause →
    IsHaltFor (or_else (at_line number (whole_fault asked past)) (last_piece asked strict past (processors_of asked past)).halt) (kept.AtLine number cause)
whole_halted asked strict past number cause is =
    ap (λ (fault : Option Cause). or_else (at_line number fault) (last_piece asked strict past (processors_of asked past)).halt) is
