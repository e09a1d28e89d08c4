use Rattle.yds_model.proofs.Common.{◌≡◌, ◌∙◌, ℕ, [], List, length, replicate, ap, sym, subst, arith, stretches, Piece}
use Rattle.yds_events.proofs.Neighbours.{few_stretches}
use Rattle.yds_search.specs.declared.found.TheConstants.{NO_GROUP}
use Rattle.yds_search.specs.Found.{Found}
use Rattle.yds_search.specs.Search.{IsSearch}
use Rattle.yds_search.proofs.search.Search.new.Goals as goal

pub new-requires-clause-few_stretches : goal.new-requires-clause-few_stretches
new-requires-clause-few_stretches c = omega (arith, ap (λ (pieces : List Piece). length pieces) c.requires.timeline.cut, few_stretches c.args.rows.now, c.requires.few)

pub returns : goal.returns
returns c =
    let begun = c.in_ok-first_group.ensures in
    let all : c.len-stretches.result ≡ length (stretches c.args.rows.now) =
    omega (arith, c.len-stretches.ensures, c.args.timeline.now.stretches.ok, ap (λ (pieces : List Piece). length pieces) c.requires.timeline.cut) in
    let none = λ (n : ℕ). let found : Found =
    record { groups = []; group_of_job = replicate (length c.args.rows.now) NO_GROUP; group_of_stretch = replicate n NO_GROUP; shares = [] } in found in
    record {
      windows = begun.windows;
      parts = begun.parts;
      instance = begun.instance;
      groups = subst (λ (found : Found). IsSearch c.args.rows.now begun.windows found begun.parts)
          (sym (c.in_ok-new.ensures ∙ ap none all)) begun.groups;
      laid = begun.laid;
    }
