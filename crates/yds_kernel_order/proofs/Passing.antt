-- How many lines an event is put before, counted one after another.
use Rattle.base.proofs.Common.{◌≡◌, ℕ, zero, suc, ◌+◌, ◌-◌, ◌<◌, List, ◌∷◌, length, true, false, Option, Some, None, option_map, get_or, get_or_read, refl, sym, ap, ◌∙◌, arith}
use Rattle.yds_kernel_order.specs.declared.ring.TheConstants.{SLOTS}
use Rattle.yds_kernel_order.specs.declared.limits.TheConstants.{MAX_PASSED, MAX_STEP_BACK}
use Rattle.yds_kernel_order.specs.Order.{Placed}
use Rattle.yds_kernel_order.proofs.Places.{wrapped_within}
use Rattle.yds_kernel_order.specs.Ring.{no_line, wrapped, slot_at, held_from, is_later_by, stands_before, passed_in}

-- what stands in a place
pub slot_read : (slots : List Placed) (read place : ℕ) (line : Placed) → line ≡ get_or slots read line → read ≡ wrapped place → place < SLOTS + SLOTS →
    length slots ≡ SLOTS → line ≡ slot_at slots place
slot_read slots read place line is same within len =
    get_or_read slots read line (omega (arith, same, len, wrapped_within place within)) is no_line ∙ ap (λ (n : ℕ). get_or slots n no_line) same

-- so many more
abbrev pub plus : ℕ → Option ℕ → Option ℕ
plus count None = None
plus count (Some more) = Some (count + more)

-- An event of this time is put before the first `count` of the lines that are held, and then before as many of the others.
abbrev pub HasPassed : List Placed → ℕ → ℕ → ℕ → ℕ → Type 0
HasPassed slots first held time count =
    passed_in MAX_PASSED time (held_from slots first held) ≡ plus count (passed_in (MAX_PASSED - count) time (held_from slots first (held - count)))

plus_suc : (count : ℕ) (found : Option ℕ) → plus count (option_map suc found) ≡ plus (count + 1) found
plus_suc count None = refl
plus_suc count (Some more) = ap Some (omega arith)

last_of : (slots : List Placed) (first held count : ℕ) (last : Placed) → count < held → last ≡ slot_at slots (first + (held - 1 - count)) →
    held_from slots first (held - count) ≡ last ∷ held_from slots first (held - 1 - count)
last_of slots first held count last within is =
    let all : held - count ≡ suc (held - 1 - count) = omega arith in
    ap (held_from slots first) all ∙ ap (λ (line : Placed). line ∷ held_from slots first (held - 1 - count)) (sym is)

stands_here : (most time : ℕ) (last : Placed) (past : List Placed) → stands_before time last ≡ true → passed_in most time (last ∷ past) ≡ Some 0
stands_here zero time last past stands = rw stands refl
stands_here (suc most) time last past stands = rw stands refl

no_more : (time : ℕ) (last : Placed) (past : List Placed) → stands_before time last ≡ false → passed_in 0 time (last ∷ past) ≡ None
no_more time last past stands = rw stands refl

too_far : (most time : ℕ) (last : Placed) (past : List Placed) → stands_before time last ≡ false → is_later_by MAX_STEP_BACK time last.said ≡ true →
    passed_in most time (last ∷ past) ≡ None
too_far zero time last past stands far = rw stands refl
too_far (suc most) time last past stands far = rw (stands, far) refl

next_passed : (most time : ℕ) (last : Placed) (past : List Placed) → stands_before time last ≡ false → is_later_by MAX_STEP_BACK time last.said ≡ false →
    passed_in (suc most) time (last ∷ past) ≡ option_map suc (passed_in most time past)
next_passed most time last past stands far = rw (stands, far) refl

-- the event stands behind this line
pub passes_here : (slots : List Placed) (first held time count : ℕ) (last : Placed) → count < held → last ≡ slot_at slots (first + (held - 1 - count)) →
    stands_before time last ≡ true → HasPassed slots first held time count → passed_in MAX_PASSED time (held_from slots first held) ≡ Some count
passes_here slots first held time count last within is stands passed =
    passed ∙ ap (plus count) (ap (passed_in (MAX_PASSED - count) time) (last_of slots first held count last within is)
    ∙ stands_here (MAX_PASSED - count) time last (held_from slots first (held - 1 - count)) stands)
    ∙ ap Some (omega arith)

-- as many were passed as may be
pub passes_too_many : (slots : List Placed) (first held time count : ℕ) (last : Placed) → count < held → last ≡ slot_at slots (first + (held - 1 - count)) →
    stands_before time last ≡ false → count ≡ MAX_PASSED → HasPassed slots first held time count → passed_in MAX_PASSED time (held_from slots first held) ≡ None
passes_too_many slots first held time count last within is stands most passed =
    let none : MAX_PASSED - count ≡ 0 = omega (arith, most) in
    passed ∙ ap (plus count) (ap (λ (n : ℕ). passed_in n time (held_from slots first (held - count))) none
    ∙ ap (passed_in 0 time) (last_of slots first held count last within is)
    ∙ no_more time last (held_from slots first (held - 1 - count)) stands)

-- the event is too far behind
pub passes_too_far : (slots : List Placed) (first held time count : ℕ) (last : Placed) → count < held → last ≡ slot_at slots (first + (held - 1 - count)) →
    stands_before time last ≡ false → is_later_by MAX_STEP_BACK time last.said ≡ true → HasPassed slots first held time count →
    passed_in MAX_PASSED time (held_from slots first held) ≡ None
passes_too_far slots first held time count last within is stands far passed =
    passed ∙ ap (plus count) (ap (passed_in (MAX_PASSED - count) time) (last_of slots first held count last within is)
    ∙ too_far (MAX_PASSED - count) time last (held_from slots first (held - 1 - count)) stands far)

-- the event is put before this line too
pub passes_on : (slots : List Placed) (first held time count : ℕ) (last : Placed) → count < held → last ≡ slot_at slots (first + (held - 1 - count)) →
    stands_before time last ≡ false → is_later_by MAX_STEP_BACK time last.said ≡ false → count < MAX_PASSED → HasPassed slots first held time count →
    HasPassed slots first held time (count + 1)
passes_on slots first held time count last within is stands far less passed =
    let most : MAX_PASSED - count ≡ suc (MAX_PASSED - (count + 1)) = omega arith in
    let rest : held - 1 - count ≡ held - (count + 1) = omega arith in
    passed ∙ ap (plus count) (ap (λ (n : ℕ). passed_in n time (held_from slots first (held - count))) most
    ∙ ap (passed_in (suc (MAX_PASSED - (count + 1))) time) (last_of slots first held count last within is)
    ∙ next_passed (MAX_PASSED - (count + 1)) time last (held_from slots first (held - 1 - count)) stands far)
    ∙ plus_suc count (passed_in (MAX_PASSED - (count + 1)) time (held_from slots first (held - 1 - count)))
    ∙ ap (λ (n : ℕ). plus (count + 1) (passed_in (MAX_PASSED - (count + 1)) time (held_from slots first n))) rest
