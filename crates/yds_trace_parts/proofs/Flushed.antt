-- How often a sink was flushed behind some lines, step by step.
use Rattle.base.proofs.Common.{◌≡◌, ℕ, suc, inl, inr, List, [], ◌∷◌, ◌++◌, length, length-append, append-nil, Bool, true, false, nat_lt, lt-ltb, ltb-true, if◌then◌else◌, Option, Some, None, refl, sym, ap, subst, ◌∙◌, arith}
use Rattle.std.specs.Prelude.{IfSome}
use Rattle.yds_port.specs.Sink.{IsFlushed}
use Rattle.yds_kernel.specs.Event.{Said}
use Rattle.yds_kernel_order.specs.Order.{Placed, order_of}
use Rattle.yds_kernel_order.specs.Ordering.{Ordering, said_now}
use Rattle.yds_kernel_order.specs.Advancing.{IsOver}
use Rattle.yds_trace.specs.Asked.{Asked}
use Rattle.yds_trace_reading.specs.LineFault.{past_of}
use Rattle.yds_trace_parts.specs.declared.telling.Telling.{Telling}
use Rattle.yds_trace_parts.specs.Told.{told_after}
use Rattle.yds_trace_parts.specs.Telling.{Adds}
use Rattle.yds_trace_parts.specs.Flushing.{count_on, count_behind, times_told, IsFlushedSince}
use Rattle.yds_trace_parts.proofs.Ahead.{IsCounted, lines_whole}

-- # A line more

not_less : (a b : ℕ) → b ≡ a → nat_lt a b ≡ false
not_less a b same = by (nat_lt a b) refl
  where
    by : (less : Bool) → nat_lt a b ≡ less → less ≡ false
    by false is = refl
    by true is = absurd (omega (arith, same, ltb-true a b is))

-- With this piece more, it is flushed once more if that has a byte.
pub one_counted : (asked : Asked) (strict : Bool) (past : List Said) (said : Said) (piece : List ℕ) (count : ℕ) → Adds asked strict past (said ∷ past) piece →
    count_on (times_told asked strict (said ∷ past)) count ≡ count_behind piece (count_on (times_told asked strict past) count)
one_counted asked strict past said [] count adds =
    let same : length (told_after asked strict (said ∷ past)).text ≡ length (told_after asked strict past).text =
    ap length adds ∙ ap length (append-nil (told_after asked strict past).text) in
    ap (λ (more : Bool). count_on (if more then suc (times_told asked strict past) else times_told asked strict past) count)
    (not_less (length (told_after asked strict past).text) (length (told_after asked strict (said ∷ past)).text) same)
one_counted asked strict past said (byte ∷ bytes) count adds =
    let longer : length (told_after asked strict (said ∷ past)).text ≡ length ((told_after asked strict past).text ++ byte ∷ bytes) = ap length adds in
    ap (λ (more : Bool). count_on (if more then suc (times_told asked strict past) else times_told asked strict past) count)
    (lt-ltb (length (told_after asked strict past).text) (length (told_after asked strict (said ∷ past)).text)
    (omega (arith, longer, length-append (told_after asked strict past).text (byte ∷ bytes))))

-- # What was written

-- of a line more, which adds this piece
pub counted_more : (asked : Asked) (strict : Bool) (new : Ordering) (line : Placed) (past : List Said) (piece : List ℕ) (before mid after : ℕ) →
    said_now new ≡ line.said → Adds asked strict past (said_now new ∷ past) piece → mid ≡ count_on (times_told asked strict past) before → after ≡ count_behind piece mid →
    after ≡ count_on (times_told asked strict (line.said ∷ past)) before
counted_more asked strict new line past piece before mid after says adds counted behind =
    behind ∙ ap (count_behind piece) counted
    ∙ sym (one_counted asked strict past line.said piece before (subst (λ (said : Said). Adds asked strict past (said ∷ past) piece) says adds))

-- All lines were given: a flush behind each that adds text.
pub counted_whole : (asked : Asked) (strict : Bool) (input : Option (List ℕ)) (telling : Telling) (old new : Ordering) (before left : Option (List ℕ)) (count faults_before faults_now : ℕ)
    (written now : Option (List ℕ)) (first last : ℕ) → (told : IsCounted asked strict input telling old before count written now first last) →
    IsOver old new before left faults_before faults_now → IfSome input (λ bytes. last ≡ count_on (times_told asked strict (past_of (order_of bytes))) first)
counted_whole asked strict None telling old new before left count faults_before faults_now written now first last told over = tt
counted_whole asked strict (Some bytes) telling old new before left count faults_before faults_now written now first last told over =
    let known = told.behind.known in
    told.counted ∙ ap (λ (past : List Said). count_on (times_told asked strict past) first)
    (sym (lines_whole bytes told.behind.given new.lines None (over.whole bytes told.behind.given known.last known.in_order)))

-- The last parts aren't flushed.
pub counted_end : (input : Option (List ℕ)) (asked : Asked) (strict : Bool) (first last now : ℕ) → now ≡ last →
    IfSome input (λ bytes. last ≡ count_on (times_told asked strict (past_of (order_of bytes))) first) →
    IfSome input (λ bytes. now ≡ count_on (times_told asked strict (past_of (order_of bytes))) first)
counted_end None asked strict first last now same counted = tt
counted_end (Some bytes) asked strict first last now same counted = same ∙ counted

-- what was flushed before, and then a text that was passed on
pub flushed_on : {K : Type 0} (written : K → Option (List ℕ)) (flushed : K → Option ℕ) (old mid new : K) → IsFlushedSince written flushed old mid → IsFlushedSince written flushed mid new →
    IsFlushedSince written flushed old new
flushed_on written flushed old mid new first (inl all) = inl all
flushed_on written flushed old mid new (inl all) (inr same) =
    inl (subst (λ (bytes : Option (List ℕ)). IsFlushed bytes (flushed new)) (sym same.0) (subst (λ (much : Option ℕ). IsFlushed (written mid) much) (sym same.1) all))
flushed_on written flushed old mid new (inr same) (inr later) = inr (later.0 ∙ same.0, later.1 ∙ same.1)
