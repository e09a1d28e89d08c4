-- A line behind which it isn't looked for parts, or behind which little waits, leaves what was written as it is.
use Rattle.base.proofs.Common.{◌≡◌, ℕ, ◌≤◌, ◌⊎◌, inl, inr, ◌&&◌, ◌||◌, Bool, true, false, not, nat_lt, nat_tests, List, [], ◌∷◌, map, length, Option, Some, None, refl, sym, ap, ap₂, subst, ◌∙◌, arith, if◌then◌else◌}
use Rattle.yds_kernel.specs.Event.{Said}
use Rattle.yds_trace.specs.declared.cut.Cut.{Cut}
use Rattle.yds_trace.specs.declared.limits.TheConstants.{PART_JOBS, PART_STRETCHES, PART_OTHERS, WAITING_JOBS, WAITING_STRETCHES, WAITING_OTHERS}
use Rattle.yds_trace.specs.declared.kept.Kept.{Kept}
use Rattle.yds_trace.specs.declared.pass.Pass.{Pass}
use Rattle.yds_trace.specs.Asked.{Asked, on}
use Rattle.yds_trace.specs.Kept.{IsAtBehind, IsEnough}
use Rattle.yds_trace.specs.Document.{Judged}
use Rattle.yds_trace.specs.Others.{Span, others_from}
use Rattle.yds_trace.specs.Past.{processor_count}
use Rattle.yds_trace.specs.Parts.{waiting, waiting_from, stretches_of, is_much, is_too_much, is_due, place_among, place_of}
use Rattle.yds_trace_parts.specs.declared.processors.Processor.{Processor}
use Rattle.yds_trace_parts.specs.Told.{Halt, Told, no_piece, both, piece_at, piece_of, no_place as no_place_halt, open_longest, waiting_halt, pieces}
use Rattle.yds_trace_parts.specs.Telling.{cut_on, told_on, IsUnseen, NoneEndsBefore, IsStill}
use Rattle.yds_trace_parts.proofs.Steps.{none_if, same_cut}
use Rattle.yds_trace_parts.proofs.Unseen.{more_processors}

-- # Nothing is written

less_much : (jobs stretches others : ℕ) → (nat_lt PART_JOBS jobs || nat_lt PART_STRETCHES stretches || nat_lt PART_OTHERS others) ≡ false →
    (nat_lt WAITING_JOBS jobs || nat_lt WAITING_STRETCHES stretches || nat_lt WAITING_OTHERS others) ≡ false
less_much jobs stretches others is = grind (arith, nat_tests)

no_halt : (due much : Bool) (halt : Option Halt) → (due ≡ false) ⊎ (much ≡ false) → (if due && much then halt else None) ≡ None
no_halt due much halt (inl is) = ap (λ (b : Bool). if b && much then halt else None) is
no_halt true much halt (inr is) = ap (λ (b : Bool). if b then halt else None) is
no_halt false much halt (inr is) = refl

-- it isn't looked for a place, or little waits
abbrev IsIdle : Asked → List Said → Cut → Type 0
IsIdle asked past cut = (is_due past ≡ false) ⊎ (is_much (waiting asked past cut) (others_from asked past cut.boundary) ≡ false)

still_here : (asked : Asked) (past : List Said) (processor time : ℕ) (cut : Cut) → IsStill asked past time → time ≤ cut.boundary →
    IsIdle (on processor asked) past cut
still_here asked past processor time cut (inl is) later = inl is
still_here asked past processor time cut (inr is) later = inr (is cut.boundary later processor)

too_much_here : (jobs : List Judged) (others : List Span) (due : Bool) → (due ≡ false) ⊎ (is_much jobs others ≡ false) → (due ≡ false) ⊎ (is_too_much jobs others ≡ false)
too_much_here jobs others due (inl is) = inl is
too_much_here jobs others due (inr is) = inr (less_much (length jobs) (stretches_of jobs) (length others) is)

little_place : (asked : Asked) (past : List Said) (cut : Cut) → IsIdle asked past cut → place_of asked past cut ≡ None
little_place asked past cut still =
    none_if (is_due past) (is_much (waiting asked past cut) (others_from asked past cut.boundary))
    (place_among asked past (waiting asked past cut)) still

little_halt : (asked : Asked) (past : List Said) (cut : Cut) → IsIdle asked past cut → waiting_halt asked past cut ≡ None
little_halt asked past cut still =
    no_halt (is_due past) (is_too_much (waiting asked past cut) (others_from asked past cut.boundary))
    (no_place_halt (open_longest asked past (waiting asked past cut)))
    (too_much_here (waiting asked past cut) (others_from asked past cut.boundary) (is_due past) still)

still_place : (asked : Asked) (past : List Said) (processor time : ℕ) (cut : Cut) → IsStill asked past time → time ≤ cut.boundary → place_of (on processor asked) past cut ≡ None
still_place asked past processor time cut still later = little_place (on processor asked) past cut (still_here asked past processor time cut still later)

still_halt : (asked : Asked) (past : List Said) (processor time : ℕ) (cut : Cut) → IsStill asked past time → time ≤ cut.boundary → waiting_halt (on processor asked) past cut ≡ None
still_halt asked past processor time cut still later = little_halt (on processor asked) past cut (still_here asked past processor time cut still later)

still_piece : (asked : Asked) (strict : Bool) (past : List Said) (processor time : ℕ) (cut : Cut) → IsStill asked past time → time ≤ cut.boundary →
    piece_of (on processor asked) strict past cut ≡ no_piece
still_piece asked strict past processor time cut still later =
    ap (piece_at (on processor asked) strict past cut) (still_place asked past processor time cut still later)
    ∙ ap (λ (halt : Option Halt). let piece : Told = record { text = []; halt = halt } in piece) (still_halt asked past processor time cut still later)

still_cut : (asked : Asked) (past : List Said) (said : Said) (time processor : ℕ) → IsStill asked (said ∷ past) time → time ≤ (cut_on asked past processor).boundary →
    cut_on asked (said ∷ past) processor ≡ cut_on asked past processor
still_cut asked past said time processor still later =
    same_cut (on processor asked) past said (still_place asked (said ∷ past) processor time (cut_on asked past processor) still later)

pub still_pieces : (asked : Asked) (strict : Bool) (past : List Said) (said : Said) (time : ℕ) → IsStill asked (said ∷ past) time → (numbers : List ℕ) →
    NoneEndsBefore time (map (cut_on asked past) numbers) → pieces asked strict past said numbers ≡ no_piece
still_pieces asked strict past said time still [] none = refl
still_pieces asked strict past said time still (number ∷ numbers) none =
    ap₂ both (still_piece asked strict (said ∷ past) number time (cut_on asked past number) still none.0)
    (still_pieces asked strict past said time still numbers none.1)

pub still_told : (asked : Asked) (past : List Said) (said : Said) (time : ℕ) → IsStill asked (said ∷ past) time → (numbers : List ℕ) →
    NoneEndsBefore time (map (cut_on asked past) numbers) → map (told_on asked past) numbers ≡ map (told_on asked (said ∷ past)) numbers
still_told asked past said time still [] none = refl
still_told asked past said time still (number ∷ numbers) none =
    ap₂ (λ (cut : Cut) (more : List Processor). record { number = number; cut = cut } ∷ more) (sym (still_cut asked past said time number still none.0))
    (still_told asked past said time still numbers none.1)

pub still_unseen : (asked : Asked) (past : List Said) (said : Said) (time : ℕ) → IsStill asked (said ∷ past) time → (cut : Cut) → time ≤ cut.boundary →
    IsUnseen asked past (Some cut) → IsUnseen asked (said ∷ past) (Some cut)
still_unseen asked past said time still cut later is = (
  is.0,
  λ processor beyond.
      let before : processor_count past ≤ processor = omega (arith, beyond, more_processors past said) in
      let same : cut_on asked past processor ≡ cut = is.1 processor before in
      still_cut asked past said time processor still (subst (λ (one : Cut). time ≤ one.boundary) (sym same) later) ∙ same,
)

-- # The pass

pub behind_later : (asked : Asked) (past : List Said) (before boundary : ℕ) (pass : Pass) → before ≤ boundary → IsAtBehind asked past before pass → IsAtBehind asked past boundary pass
behind_later asked past before boundary pass later at =
    record { same_asked = at.same_asked; lines = at.lines; counted = at.counted; within = omega (arith, at.within, later) }

not_little : (b : Bool) → not b ≡ false → b ≡ true
not_little true is = refl
not_little false is = sym is

-- So little is kept, whatever processor is asked for, that none is to be written.
pub still_kept : (asked : Asked) (past : List Said) (boundary : ℕ) (pass : Pass) (amount : Kept) (little : Bool) → IsAtBehind asked past boundary pass →
    ((words : Asked) (lines : List Said) (time processor : ℕ) → IsAtBehind words lines time pass → IsEnough (on processor words) lines time amount) →
    ((words : Asked) (lines : List Said) (time : ℕ) → IsEnough words lines time amount → little ≡ true →
    is_much (waiting_from words lines time) (others_from words lines time) ≡ false) → not little ≡ false → IsStill asked past boundary
still_kept asked past boundary pass amount little at enough none is =
    inr (λ time later processor.
    none (on processor asked) past time (enough asked past time processor (behind_later asked past boundary time pass later at)) (not_little little is))
