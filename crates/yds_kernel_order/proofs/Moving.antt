-- A line that changes places with those before it, one after another.
use Rattle.base.proofs.Common.{◌≡◌, ℕ, ◌+◌, ◌-◌, ◌<◌, List, length, get_or, sym, ◌∙◌, arith, inl, inr, cases_lt}
use Rattle.std.specs.List.{swap}
use Rattle.std.proofs.lemmas.List.Edits.{Swapped, swapped_from_swap}
use Rattle.yds_kernel_order.specs.declared.ring.TheConstants.{SLOTS}
use Rattle.yds_kernel_order.specs.Order.{Placed}
use Rattle.yds_kernel_order.specs.Ring.{no_line, wrapped, IsMovedDown}
use Rattle.yds_kernel_order.proofs.Places.{at_place, wrapped_within, wrapped_apart}

-- it was put before one more
pub moves_one : (old now new : List Placed) (first held count place : ℕ) → first < SLOTS → held < SLOTS → count < held → place + count ≡ first + held →
    length now ≡ SLOTS → new ≡ swap now (wrapped (place - 1)) (wrapped place) → IsMovedDown first held count old now → IsMovedDown first held (count + 1) old new
moves_one old now new first held count place low fits less here len swapped moved =
    let both : Swapped (λ i. get_or now i no_line) (λ i. get_or new i no_line) (wrapped (place - 1)) (wrapped place) =
    swapped_from_swap now new (wrapped (place - 1)) (wrapped place) no_line
    (omega (arith, len, wrapped_within (place - 1) (omega arith))) (omega (arith, len, wrapped_within place (omega arith))) swapped in record {
      below = λ at within.
          both.2 (wrapped (first + at)) (wrapped_apart (first + at) (place - 1) (omega arith) (omega arith) (omega arith))
          (wrapped_apart (first + at) place (omega arith) (omega arith) (omega arith))
          ∙ moved.below at (omega arith);
      moved = λ at same.
          at_place new (first + at) (place - 1) (omega (arith, same)) ∙ both.0 ∙ at_place now place (first + (at + 1)) (omega (arith, same))
          ∙ moved.moved (at + 1) (omega (arith, same));
      above = λ at beyond within. elim (cases_lt (first + at) place) [
        | inl last ↦ at_place new (first + at + 1) place (omega arith) ∙ both.1 ∙ at_place now (place - 1) (first + at) (omega arith) ∙ moved.below at (omega arith)
        | inr later ↦
            both.2 (wrapped (first + at + 1)) (λ same. wrapped_apart (place - 1) (first + at + 1) (omega arith) (omega arith) (omega arith) (sym same))
            (λ same. wrapped_apart place (first + at + 1) (omega arith) (omega arith) (omega arith) (sym same))
            ∙ moved.above at (omega arith) within
      ];
    }
