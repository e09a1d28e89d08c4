use Rattle.yds_model.proofs.Common.{List, length, ap, subst, refl, arith, length_push}
use Rattle.yds_search.specs.declared.own.OwnStretch.{OwnStretch}
use Rattle.yds_search.specs.declared.stack.Size.{Size}
use Rattle.yds_search.specs.Views.{found_view}
use Rattle.yds_search.specs.Search.{IsSearch}
use Rattle.yds_search.proofs.Chosen.{choose}
use Rattle.yds_search.proofs.Ends.{search_ends}
use Rattle.yds_search.proofs.Laid.{parts_few, no_parts}
use Rattle.yds_search.proofs.search.find.Goals as goal

pub advance-requires : goal.advance-requires
advance-requires c = record { chosen = (c.args.rows.now, choose c.args.rows.now c.in-Some.size c.loop-size.search _ c.loop-size.invariant c.in-Some.ensures.items refl refl refl) }

pub loop-size-smaller : goal.loop-size-smaller
loop-size-smaller c = omega (
  arith,
  c.in_ok-advance.ensures.nearer,
  parts_few c.args.rows.now c.loop-size.invariant.windows (found_view c.loop-size.search.found) c.loop-size.invariant.parts c.loop-size.invariant.groups.waiting,
  ap (λ (xs : List Size). length xs) c.loop-size.invariant.laid.sizes,
  ap (λ (xs : List OwnStretch). length xs) c.loop-size.invariant.laid.stretches,
  ap (λ (xs : List Size). length xs) c.in-Some.ensures.items,
  length_push c.pop.new.self.items c.in-Some.size,
)

pub loop-size-preserved : goal.loop-size-preserved
loop-size-preserved c =
    c.in_ok-advance.ensures.search c.args.rows.now (choose c.args.rows.now c.in-Some.size c.loop-size.search _ c.loop-size.invariant c.in-Some.ensures.items refl refl refl)

pub returns : goal.returns
returns c =
    let x = c.loop-size.invariant in
    search_ends c.args.rows.now x.windows (found_view c.loop-size.search.found) x.instance (subst (IsSearch c.args.rows.now x.windows (found_view c.loop-size.search.found))
    (no_parts x.parts (omega (arith, c.in_default.ensures.cases.0, c.loop-size.search.stack.sizes.ok, ap (λ (xs : List Size). length xs) x.laid.sizes))) x.groups)
