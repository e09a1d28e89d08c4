-- What the code finds of a part is what the definitions say of it.
use Rattle.base.proofs.Common.{◌≡◌, ◌<◌, ◌≤◌, ◌+◌, ℕ, List, [], ◌∷◌, length, Bool, true, false, nat_lt, nat_le, Option, Some, None, option_map, Ok, Err, if◌then◌else◌, refl, sym, ap, subst, ◌∙◌, arith, nat_tests, leb-true, le-leb}
use Rattle.std.specs.Prelude.{Vec}
use Rattle.std.specs.declared.alloc.Global.{Global}
use Rattle.base.specs.declared.limits.TheConstants.{MAX_INPUT}
use Rattle.yds_kernel.specs.Event.{Said}
use Rattle.yds_kernel.specs.Parts.{or_else, capped}
use Rattle.yds_trace.specs.declared.cut.Cut.{Cut}
use Rattle.yds_trace.specs.Asked.{Asked}
use Rattle.yds_trace.specs.Document.{Judged}
use Rattle.yds_trace_document.specs.Part.{part_of}
use Rattle.yds_trace_text.specs.Limit.{Limit, limit_of}
use Rattle.yds_trace_document.specs.declared.fault.DocumentFault.{DocumentFault}
use Rattle.yds_trace_text.specs.declared.fault.NoText.{NoText}
use Rattle.yds_trace_text.specs.declared.fault.NoText.TheVariants as texts
use Rattle.yds_trace_text.specs.PartText.{part_text}
use Rattle.yds_trace_text.specs.Writing.{WritesPart}
use Rattle.yds_trace_parts.specs.Told.{Halt, OfText, next_number, part_processor, of_document, of_text, part_halt, piece_unless, piece_with, part_piece}
use Rattle.yds_trace_parts.specs.declared.halt.Halt.{Halt as HaltKept}
use Rattle.yds_trace_parts.specs.declared.halt.Halt.TheVariants as kept
use Rattle.yds_trace_parts.specs.Telling.{halt_of_text, IsHaltFor, IsText, text_alone}

-- # A text

-- memory may be wanting at any time
pub memory_halts : (found : Option Halt) (halt : HaltKept) → halt ≡ kept.Memory → IsHaltFor found halt
memory_halts found halt is = subst (λ (one : HaltKept). IsHaltFor found one) (sym is) tt

-- not longer than it may be
short_test : (a b : ℕ) → b ≤ a → nat_lt a b ≡ false
short_test a b short = grind (arith, nat_tests)

-- what is told of a fault of the part
abbrev told_limit : Asked → List Said → Cut → Option ℕ → Option DocumentFault → Option Limit
told_limit asked past cut until fault = option_map (limit_of (part_of asked past cut until).judged) fault

-- A text that was written is the one that the definitions say.
pub text_is : (asked : Asked) (strict : Bool) (past : List Said) (cut : Cut) (until : Option ℕ) (text : Vec ℕ Global) → WritesPart strict asked past cut until (Ok text) →
    IsText asked strict past cut until text.items
text_is asked strict past cut until text is = record {
  fits = ap (λ (fault : Option DocumentFault). or_else (of_document (part_processor asked) (next_number cut) (told_limit asked past cut until fault))
      (of_text (part_processor asked) (next_number cut) (part_text asked past cut until))) is.without_fault
      ∙ ap (λ (long : Bool). if long then Some (OfText (part_processor asked) (next_number cut)) else None)
      (short_test MAX_INPUT (length (part_text asked past cut until)) (subst (λ (one : List ℕ). length one ≤ MAX_INPUT) is.exact is.short));
  says = is.exact;
}

long_test : (a b : ℕ) → a < b → nat_lt a b ≡ true
long_test a b long = grind (arith, nat_tests)

-- One that wasn't is missing for the reason that they say.
pub text_halts : (asked : Asked) (strict : Bool) (past : List Said) (cut : Cut) (until : Option ℕ) (fault : NoText) → WritesPart strict asked past cut until (Err fault) →
    IsHaltFor (part_halt asked strict past cut until) (halt_of_text (part_processor asked) (next_number cut) fault)
text_halts asked strict past cut until (texts.Limit fault) is =
    ap (λ (found : Option Limit). or_else (of_document (part_processor asked) (next_number cut) found)
    (of_text (part_processor asked) (next_number cut) (part_text asked past cut until))) is
text_halts asked strict past cut until (texts.NotKnown place name reason) is =
    ap (λ (found : Option Limit). or_else (of_document (part_processor asked) (next_number cut) found)
    (of_text (part_processor asked) (next_number cut) (part_text asked past cut until))) is
text_halts asked strict past cut until texts.TooLong is =
    ap (λ (fault : Option DocumentFault). or_else (of_document (part_processor asked) (next_number cut) (told_limit asked past cut until fault))
    (of_text (part_processor asked) (next_number cut) (part_text asked past cut until))) is.without_fault
    ∙ ap (λ (long : Bool). if long then Some (OfText (part_processor asked) (next_number cut)) else None)
    (long_test MAX_INPUT (length (part_text asked past cut until)) is.long)
text_halts asked strict past cut until texts.Memory is = tt

-- it is a piece of its own
pub text_alone_is : (asked : Asked) (strict : Bool) (past : List Said) (cut : Cut) (until : Option ℕ) (text : List ℕ) → IsText asked strict past cut until text →
    part_piece asked strict past cut until ≡ text_alone text
text_alone_is asked strict past cut until text is =
    ap (λ (halt : Option Halt). piece_unless halt (part_text asked past cut until)) is.fits ∙ ap text_alone (sym is.says)

unless_halts : (halt : Option Halt) (text : List ℕ) → (piece_unless halt text).halt ≡ halt
unless_halts None text = refl
unless_halts (Some halt) text = refl

-- Where a part has a job, nothing is written for the reason that its text isn't.
pub with_job_halts : (asked : Asked) (strict : Bool) (past : List Said) (cut : Cut) (time : ℕ) (jobs : List Judged) → 1 ≤ length jobs →
    (piece_with asked strict past cut time jobs).halt ≡ part_halt asked strict past cut (Some time)
with_job_halts asked strict past cut time [] some = absurd (omega (arith, some))
with_job_halts asked strict past cut time (judged ∷ jobs) some =
    unless_halts (part_halt asked strict past cut (Some time)) (part_text asked past cut (Some time))

-- A count that was capped before is capped once.
pub capped_twice : (a b : ℕ) → capped (a + capped b) ≡ capped (a + b)
capped_twice a b = grind (arith, nat_le, leb-true, le-leb)
