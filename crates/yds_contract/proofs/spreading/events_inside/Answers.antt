use Rattle.yds_model.proofs.Common.{ℕ, ◌-◌, ◌*◌, ◌/◌, ◌≤◌, List, ◌∙◌, map, ap, sym, subst, arith, filter, Piece}
use Rattle.yds_contract.specs.Cut.{comes_between, cut_between}
use Rattle.yds_contract.proofs.Cutting.{same_cuts, not_inside, units_forward}
use Rattle.yds_contract.proofs.spreading.events_inside.Goals as goal

pub events_between-requires-clause-forward : goal.events_between-requires-clause-forward
events_between-requires-clause-forward c =
    subst (λ (span : Piece). span.from / c.args.parts ≤ (span.to - 1) / c.args.parts) (sym c.span.view_is)
    (units_forward c.args.parts c.args.span.from c.args.span.to c.requires.some c.requires.forward)

pub returns : goal.returns
returns c =
    let from = c.args.span.from in
    let to = c.args.span.to in
    let parts = c.args.parts in
    let events = c.args.events.now in
    ap (λ (inside : List ℕ). cut_between from to (map (λ event. event * parts) inside))
    (c.events_between.ensures ∙ ap (λ (span : Piece). filter (comes_between (span.from / parts) ((span.to - 1) / parts)) events) c.span.view_is)
    ∙ same_cuts parts from from to (comes_between (from / parts) ((to - 1) / parts)) events (omega arith)
    (λ time off. not_inside parts from to time c.requires.some c.requires.forward off)
