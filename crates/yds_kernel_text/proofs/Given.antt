-- That a line is given as the definitions say, whatever the source has left.
use Rattle.base.proofs.Common.{◌≡◌, ◌≢◌, ℕ, ◌+◌, ◌<◌, ◌≤◌, List, [], ◌∷◌, ◌++◌, length, take, drop, true, false, Option, Some, None, Result, All, refl, sym, ap, ap₂, ◌∙◌, arith, append_assoc, append-nil, take-append-drop, length-append, length-drop, subst, without_return, Spot, Consumes}
use Rattle.std.specs.Io.KnownBytes.{Keeps, IsAtEnd, prepend_known}
use Rattle.memchr.specs.Find.{Nowhere, Passes, is_byte}
use Rattle.yds_port.specs.Count.{Rose}
use Rattle.yds_kernel.specs.declared.fault.Reason.{Reason}
use Rattle.yds_kernel.specs.Event.{Said}
use Rattle.yds_kernel.specs.Line.{line_of, last_line_of}
use Rattle.yds_kernel.specs.Text.{Trace, no_line, then_says, trace_from}
use Rattle.yds_kernel_text.specs.declared.advance.Advance.{Advance}
use Rattle.yds_kernel_text.specs.declared.advance.Advance.TheVariants as advances
use Rattle.yds_kernel_text.specs.Reading.{Reading, said_by, unread}
use Rattle.yds_kernel_text.specs.Advancing.{Gives, Counts, GivesLine, IsOver, IsTooLong, Advances}
use Rattle.yds_kernel_text.specs.Filling.{TakesLine, TakesRest}
use Rattle.yds_kernel_text.proofs.Lines.{no_feed, at_feed, front_says, rest_says}

-- # Bytes that are counted

pub counts_same : (left : Option (List ℕ)) (count more : ℕ) → more ≡ count → Counts left left count more
counts_same None count more same = tt
counts_same (Some bytes) count more same = ap (λ (n : ℕ). length bytes + n) (sym same)

pub counts_kept : (before now : Option (List ℕ)) (count more : ℕ) → Keeps before now → more ≡ count → Counts before now count more
counts_kept None now count more kept same = tt
counts_kept (Some bytes) None count more kept same = absurd kept
counts_kept (Some bytes) (Some rest) count more kept same = omega (arith, ap length kept, same)

pub counts_taken : (before now : Option (List ℕ)) (bytes : List ℕ) (count more : ℕ) → Consumes before now bytes → more ≡ count + length bytes → Counts before now count more
counts_taken None now bytes count more consumed sum = tt
counts_taken (Some all) None bytes count more consumed sum = absurd consumed
counts_taken (Some all) (Some rest) bytes count more consumed sum = omega (arith, ap length consumed, length-append bytes rest)

pub counts_on : (before middle now : Option (List ℕ)) (first second third : ℕ) → Counts before middle first second → Counts middle now second third → Counts before now first third
counts_on None middle now first second third one other = tt
counts_on (Some bytes) None now first second third one other = absurd one
counts_on (Some bytes) (Some rest) None first second third one other = absurd other
counts_on (Some bytes) (Some rest) (Some last) first second third one other = omega arith

-- # Bytes that stay unread

-- bytes went from the source to those that are held
pub unread_kept : (before now : Option (List ℕ)) (held more : List ℕ) → take (length held) more ≡ held → Consumes before now (drop (length held) more) →
    Keeps (prepend_known held before) (prepend_known more now)
unread_kept None now held more front consumed = tt
unread_kept (Some bytes) None held more front consumed = absurd consumed
unread_kept (Some bytes) (Some rest) held more front consumed =
    ap (λ l. l ++ rest) (sym (take-append-drop (length held) more) ∙ ap (λ l. l ++ drop (length held) more) front)
    ∙ append_assoc held (drop (length held) more) rest ∙ ap (λ l. held ++ l) (sym consumed)

pub unread_same : (before now : Option (List ℕ)) (held more : List ℕ) → more ≡ held → Keeps before now → Keeps (prepend_known held before) (prepend_known more now)
unread_same None now held more same kept = tt
unread_same (Some bytes) None held more same kept = absurd kept
unread_same (Some bytes) (Some rest) held more same kept = ap₂ (λ (l : List ℕ) (r : List ℕ). l ++ r) same kept

pub ends_kept : (before now : Option (List ℕ)) → Keeps before now → IsAtEnd now → IsAtEnd before
ends_kept None now kept end = tt
ends_kept (Some bytes) None kept end = absurd kept
ends_kept (Some bytes) (Some rest) kept end = sym kept ∙ end

gives_kept : (number : ℕ) (said : Result Said (Spot Reason)) (before middle now : Option (List ℕ)) → Keeps before middle → Gives number said middle now → Gives number said before now
gives_kept number said None middle now kept gives = tt
gives_kept number said (Some bytes) None now kept gives = absurd kept
gives_kept number said (Some bytes) (Some same) None kept gives = absurd gives
gives_kept number said (Some bytes) (Some same) (Some rest) kept gives = ap (trace_from number) (sym kept) ∙ gives

-- what is given after bytes went from the source to the reader is given before that
pub advances_kept : (result : Advance) (old middle new : Reading) (before between now : Option (List ℕ)) (first second third : ℕ) →
    Keeps (unread old before) (unread middle between) → middle.number ≡ old.number → second ≡ first →
    Advances result middle new between now second third → Advances result old new before now first third
advances_kept advances.Line old middle new before between now first second third kept number no_fault given = record {
  next = given.next ∙ ap (λ (n : ℕ). n + 1) number;
  says = gives_kept new.number (said_by new) (unread old before) (unread middle between) (unread new now) kept given.says;
  no_fault = given.no_fault ∙ no_fault;
}
advances_kept advances.End old middle new before between now first second third kept number no_fault given = record {
  at_end = ends_kept (unread old before) (unread middle between) kept given.at_end;
  none_left = given.none_left;
  no_fault = given.no_fault ∙ no_fault;
}
advances_kept advances.Failed old middle new before between now first second third kept number no_fault given =
    subst (λ (faults : ℕ). Rose faults third) no_fault given
advances_kept advances.TooLong old middle new before between now first second third kept number no_fault given = record {
  counted = given.counted;
  no_fault = given.no_fault ∙ no_fault;
}

-- # Lines

-- a line that says so stands before these bytes
pub gives_front : (new : Reading) (front rest : List ℕ) → All (λ byte. byte ≢ 10) front → said_by new ≡ line_of (without_return front) →
    trace_from new.number (front ++ 10 ∷ rest) ≡ then_says new.number (said_by new) (trace_from (new.number + 1) rest)
gives_front new front rest none said =
    front_says new.number front rest none ∙ ap (λ (says : Result Said (Spot Reason)). then_says new.number says (trace_from (new.number + 1) rest)) (sym said)

takes_line : (len : ℕ) (old new : Reading) (rest : List ℕ) → len < length old.left → Nowhere (Passes (is_byte 10) old.left) 0 len → Passes (is_byte 10) old.left len →
    TakesLine len old new → trace_from new.number (old.left ++ rest) ≡ then_says new.number (said_by new) (trace_from (new.number + 1) (new.left ++ rest))
takes_line len old new rest within nowhere feed takes =
    let said : said_by new ≡ line_of (without_return (take len old.left)) = rw (takes.ended, takes.text) refl in
    ap (λ l. trace_from new.number (l ++ rest)) (at_feed old.left len within feed)
    ∙ ap (trace_from new.number) (append_assoc (take len old.left) (10 ∷ drop (len + 1) old.left) rest)
    ∙ gives_front new (take len old.left) (drop (len + 1) old.left ++ rest) (no_feed old.left len (omega arith) nowhere) said
    ∙ ap (λ l. then_says new.number (said_by new) (trace_from (new.number + 1) (l ++ rest))) (sym takes.left)

pub gives_line : (len : ℕ) (old new : Reading) (left : Option (List ℕ)) → len < length old.left → Nowhere (Passes (is_byte 10) old.left) 0 len → Passes (is_byte 10) old.left len →
    TakesLine len old new → Gives new.number (said_by new) (unread old left) (unread new left)
gives_line len old new None within nowhere feed takes = tt
gives_line len old new (Some rest) within nowhere feed takes = takes_line len old new rest within nowhere feed takes

takes_rest : (old new : Reading) → 0 < length old.left → All (λ byte. byte ≢ 10) old.left → TakesRest old new →
    trace_from new.number old.left ≡ then_says new.number (said_by new) no_line
takes_rest old new some none takes =
    let said : said_by new ≡ last_line_of (without_return old.left) = rw (takes.ended, takes.text) refl in
    rest_says new.number old.left some none ∙ ap (λ (says : Result Said (Spot Reason)). then_says new.number says no_line) (sym said)

pub gives_rest : (old new : Reading) (left : Option (List ℕ)) → 0 < length old.left → All (λ byte. byte ≢ 10) old.left → IsAtEnd left →
    TakesRest old new → Gives new.number (said_by new) (unread old left) (unread new left)
gives_rest old new None some none end takes = tt
gives_rest old new (Some rest) some none end takes =
    ap (λ l. trace_from new.number (old.left ++ l)) end ∙ ap (trace_from new.number) (append-nil old.left)
    ∙ takes_rest old new some none takes
    ∙ ap (λ l. then_says new.number (said_by new) (trace_from (new.number + 1) l)) (sym (ap₂ (λ (l : List ℕ) (r : List ℕ). l ++ r) takes.left end))
