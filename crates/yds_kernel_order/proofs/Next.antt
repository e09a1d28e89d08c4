-- What the next line shows of the whole trace, before any line is given.
use Rattle.base.proofs.Common.{◌≡◌, List, [], ◌∷◌, reverse, false, Option, Some, None, refl, sym, ap, ◌∙◌, subst, ℕ, length, true≢false}
use Rattle.std.proofs.lemmas.List.{reverse-append}
use Rattle.std.proofs.lemmas.Option.{same_Some}
use Rattle.yds_kernel.specs.Event.{Said}
use Rattle.yds_kernel.specs.Text.{trace_of}
use Rattle.yds_kernel_order.specs.Order.{Placed, said_in, placed_of, order_of}
use Rattle.yds_kernel_order.specs.Ordering.{Order, Ordering, Stop, IsGiven, IsOrderOf}
use Rattle.yds_kernel_order.specs.Advancing.{GivesLine}
use Rattle.yds_kernel_order.specs.Taking.{ReadsAhead, IsNext, may_come}
use Rattle.yds_kernel_order.proofs.Given.{Behind, given_front, said_behind}
use Rattle.yds_kernel_order.proofs.Steps.{gives_line, stopped_order}

-- the same with its first line given
abbrev with_given : Ordering → List Placed → Placed → Ordering
with_given ordering waiting line = record { reader = ordering.reader; lines = ordering.lines; waiting = waiting; given = Some line; stop = ordering.stop }

-- The next line is the first of the trace in order of time.
pub next_is_first : (input : List ℕ) (old now : Ordering) (before left : Option (List ℕ)) (first second : ℕ) (said : Said) → IsGiven old [] → IsOrderOf input old [] before
    → ReadsAhead old now before left first second → IsNext said now → (behind : List Said) × ((order_of input).said ≡ said ∷ behind)
next_is_first input old now before left first second said is_given stands reads next =
    let new : Ordering = with_given now next.is_first.behind next.line in
    let gives : GivesLine old new before left first second =
    gives_line old now new before left first second reads (record { line = next.line; first = next.is_first.is; given = refl; reader = refl; lines = refl; stop = refl }) in
    let front : Behind 0 (placed_of (trace_of input)) (gives.line ∷ []) =
    given_front input new (gives.line ∷ []) left (gives.is_given [] is_given) (gives.in_order input [] is_given stands) in
    let says : gives.line.said ≡ said = ap (λ (line : Placed). line.said) (sym (same_Some next.line gives.line gives.is_last)) ∙ next.says in (
      reverse (said_in front.behind),
      ap (λ (placed : List Placed). reverse (said_in placed)) front.parts
          ∙ ap reverse (said_behind front.behind (gives.line ∷ []))
          ∙ reverse-append (said_in front.behind) (gives.line.said ∷ [])
          ∙ ap (λ (one : Said). one ∷ reverse (said_in front.behind)) says,
    )

-- the reading stopped where no more lines may come and none waits
has_stopped : (stop : Option Stop) → may_come stop 0 ≡ false → (at : Stop) × (stop ≡ Some at)
has_stopped None more = absurd (true≢false more)
has_stopped (Some at) more = (at, refl)

-- Where none waits, the trace has no line.
pub none_is_first : (input : List ℕ) (old now : Ordering) (before left : Option (List ℕ)) (first second : ℕ) → IsGiven old [] → IsOrderOf input old [] before
    → ReadsAhead old now before left first second → now.waiting ≡ [] → (order_of input).said ≡ []
none_is_first input old now before left first second is_given stands reads none =
    let stopped = has_stopped now.stop (subst (λ (waiting : List Placed). may_come now.stop (length waiting) ≡ false) none reads.enough) in
    ap (λ (order : Order). reverse (said_in order.placed)) (stopped_order input now [] left stopped.0 none stopped.1 (reads.order input [] is_given stands))
