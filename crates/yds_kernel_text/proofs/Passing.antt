-- A line that is too long is given by its front, and the rest of it is passed over.
use Rattle.base.proofs.Common.{◌≡◌, ◌≢◌, ℕ, ◌+◌, ◌<◌, ◌≤◌, List, [], ◌∷◌, ◌++◌, length, take, drop, true, Option, Some, None, Result, All, refl, sym, ap, ap₂, ◌∙◌, arith, append_assoc, append-nil, length-append, length-take-le, take-append-le, All-append, take_all, le_refl, without_return, Spot, Consumes, subst}
use Rattle.std.specs.Io.KnownBytes.{Keeps, IsAtEnd, prepend_known}
use Rattle.std.proofs.KnownBytes.{Consumes-trans, Consumes-kept}
use Rattle.memchr.specs.Find.{Nowhere, Passes, is_byte}
use Rattle.yds_kernel.specs.declared.limits.TheConstants.{MAX_LINE}
use Rattle.yds_kernel.specs.declared.fault.Reason.{Reason}
use Rattle.yds_kernel.specs.Event.{Said}
use Rattle.yds_kernel.specs.Line.{line_of, last_line_of}
use Rattle.yds_kernel.specs.Text.{no_line, then_says, trace_from}
use Rattle.yds_kernel_text.specs.declared.limits.TheConstants.{ROOM}
use Rattle.yds_kernel_text.specs.Reading.{Reading, said_by, unread}
use Rattle.yds_kernel_text.specs.Advancing.{Gives}
use Rattle.yds_kernel_text.specs.Filling.{TakesFront, KeepsText, ReadsPiece, ReadsNoPiece, Skips}
use Rattle.yds_kernel_text.proofs.Lines.{no_feed, at_feed, rest_says}
use Rattle.yds_kernel_text.proofs.Long.{front_is_enough, last_front_is_enough}
use Rattle.yds_kernel_text.proofs.Given.{gives_front}

-- bytes without a line feed were passed over, and the reader gives the front of them
pub record Passing (old reader : Reading) (before now : Option (List ℕ)) : Type 0 where
  pub passed : List ℕ
  pub none : All (λ byte. byte ≢ 10) passed
  pub long : MAX_LINE + 1 < length passed
  pub text : reader.text ≡ take (MAX_LINE + 1) passed
  pub ended : reader.ended ≡ true
  pub number : reader.number ≡ old.number + 1
  pub consumed : Consumes (unread old before) now passed

held_consumed : (held : List ℕ) (left : Option (List ℕ)) → Consumes (prepend_known held left) left held
held_consumed held None = tt
held_consumed held (Some rest) = refl

-- all that was found has no line feed
pub none_found : (bytes : List ℕ) → Nowhere (Passes (is_byte 10) bytes) 0 (length bytes) → All (λ byte. byte ≢ 10) bytes
none_found bytes nowhere = subst (All (λ byte. byte ≢ 10)) (take_all (length bytes) bytes (le_refl (length bytes))) (no_feed bytes (length bytes) (le_refl (length bytes)) nowhere)

pub passing_begins : (old new : Reading) (left : Option (List ℕ)) → MAX_LINE + 1 < length old.left → Nowhere (Passes (is_byte 10) old.left) 0 (length old.left) →
    TakesFront old new → Passing old new left left
passing_begins old new left long nowhere takes = record {
  passed = old.left;
  none = none_found old.left nowhere;
  long = long;
  text = takes.text;
  ended = takes.ended;
  number = takes.number;
  consumed = held_consumed old.left left;
}

-- a read finds room behind the front
pub passing_fits : (old reader : Reading) (before now : Option (List ℕ)) → Passing old reader before now → length reader.text < ROOM
passing_fits old reader before now passing =
    let kept : length (take (MAX_LINE + 1) passing.passed) ≡ MAX_LINE + 1 = length-take-le (MAX_LINE + 1) passing.passed (omega (arith, passing.long)) in
    omega (arith, ap length passing.text, kept)

-- a piece without a line feed is passed over too
pub passing_more : (count : ℕ) (old middle new : Reading) (before between now : Option (List ℕ)) (first second : ℕ) → Passing old middle before between →
    ReadsPiece count middle new between now first second → Nowhere (Passes (is_byte 10) new.left) 0 (length new.left) → Passing old new before now
passing_more count old middle new before between now first second passing reads nowhere = record {
  passed = passing.passed ++ new.left;
  none = All-append (λ byte. byte ≢ 10) passing.passed new.left passing.none (none_found new.left nowhere);
  long = omega (arith, passing.long, length-append passing.passed new.left);
  text = reads.kept.text ∙ passing.text ∙ sym (take-append-le (MAX_LINE + 1) passing.passed new.left (omega (arith, passing.long)));
  ended = reads.kept.ended ∙ passing.ended;
  number = reads.kept.number ∙ passing.number;
  consumed = Consumes-trans (unread old before) between now passing.passed new.left passing.consumed reads.consumed;
}

says_by_front : (new : Reading) (front : List ℕ) → MAX_LINE + 1 < length front → new.ended ≡ true → new.text ≡ take (MAX_LINE + 1) front → said_by new ≡ line_of (without_return front)
says_by_front new front long ended text = rw (ended, text) (sym (front_is_enough front long))

says_by_last : (new : Reading) (front : List ℕ) → MAX_LINE + 1 < length front → new.ended ≡ true → new.text ≡ take (MAX_LINE + 1) front → said_by new ≡ last_line_of (without_return front)
says_by_last new front long ended text = rw (ended, text) (sym (last_front_is_enough front long))

feed_gives : (new : Reading) (all now : Option (List ℕ)) (passed piece : List ℕ) (len : ℕ) → Consumes all now (passed ++ piece) → All (λ byte. byte ≢ 10) passed → MAX_LINE + 1 < length passed →
    new.ended ≡ true → new.text ≡ take (MAX_LINE + 1) passed → new.left ≡ drop (len + 1) piece →
    len < length piece → Nowhere (Passes (is_byte 10) piece) 0 len → Passes (is_byte 10) piece len → Gives new.number (said_by new) all (unread new now)
feed_gives new None now passed piece len consumed none long ended text left within nowhere feed = tt
feed_gives new (Some all) None passed piece len consumed none long ended text left within nowhere feed = absurd consumed
feed_gives new (Some all) (Some rest) passed piece len consumed none long ended text left within nowhere feed =
    let front : List ℕ = passed ++ take len piece in
    let after : List ℕ = drop (len + 1) piece in
    let longer : MAX_LINE + 1 < length front = omega (arith, length-append passed (take len piece)) in
    let begins : new.text ≡ take (MAX_LINE + 1) front = text ∙ sym (take-append-le (MAX_LINE + 1) passed (take len piece) (omega arith)) in
    let parts : passed ++ piece ≡ front ++ 10 ∷ after =
    ap (λ l. passed ++ l) (at_feed piece len within feed) ∙ sym (append_assoc passed (take len piece) (10 ∷ after)) in
    ap (trace_from new.number) (consumed ∙ ap (λ l. l ++ rest) parts ∙ append_assoc front (10 ∷ after) rest)
    ∙ gives_front new front (after ++ rest) (All-append (λ byte. byte ≢ 10) passed (take len piece) none (no_feed piece len (omega arith) nowhere)) (says_by_front new front longer ended begins)
    ∙ ap (λ l. then_says new.number (said_by new) (trace_from (new.number + 1) (l ++ rest))) (sym left)

-- the piece has the line feed that ends the line
pub passing_ends : (count len : ℕ) (old middle read new : Reading) (before between now : Option (List ℕ)) (first second : ℕ) → Passing old middle before between →
    ReadsPiece count middle read between now first second → len < length read.left → Nowhere (Passes (is_byte 10) read.left) 0 len → Passes (is_byte 10) read.left len →
    Skips (len + 1) read new → Gives new.number (said_by new) (unread old before) (unread new now)
passing_ends count len old middle read new before between now first second passing reads within nowhere feed skips =
    feed_gives new (unread old before) now passing.passed read.left len
    (Consumes-trans (unread old before) between now passing.passed read.left passing.consumed reads.consumed)
    passing.none passing.long
    (skips.kept.ended ∙ reads.kept.ended ∙ passing.ended) (skips.kept.text ∙ reads.kept.text ∙ passing.text) skips.left
    within nowhere feed

last_gives : (new : Reading) (all now : Option (List ℕ)) (passed : List ℕ) → Consumes all now passed → IsAtEnd now → All (λ byte. byte ≢ 10) passed → MAX_LINE + 1 < length passed →
    new.ended ≡ true → new.text ≡ take (MAX_LINE + 1) passed → new.left ≡ [] → Gives new.number (said_by new) all (unread new now)
last_gives new None now passed consumed end none long ended text left = tt
last_gives new (Some all) None passed consumed end none long ended text left = absurd consumed
last_gives new (Some all) (Some rest) passed consumed end none long ended text left =
    ap (trace_from new.number) (consumed ∙ ap (λ l. passed ++ l) end ∙ append-nil passed)
    ∙ rest_says new.number passed (omega arith) none
    ∙ ap (λ (says : Result Said (Spot Reason)). then_says new.number says no_line) (sym (says_by_last new passed long ended text))
    ∙ ap (λ l. then_says new.number (said_by new) (trace_from (new.number + 1) l)) (sym (ap₂ (λ (l : List ℕ) (r : List ℕ). l ++ r) left end))

-- the input has no more
pub passing_stops : (old middle new : Reading) (before between now : Option (List ℕ)) → Passing old middle before between →
    ReadsNoPiece middle new between now → IsAtEnd now → Gives new.number (said_by new) (unread old before) (unread new now)
passing_stops old middle new before between now passing reads end =
    last_gives new (unread old before) now passing.passed (Consumes-kept (unread old before) between now passing.passed passing.consumed reads.same) end
    passing.none passing.long (reads.kept.ended ∙ passing.ended) (reads.kept.text ∙ passing.text) reads.left
