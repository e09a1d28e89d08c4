use Rattle.yds_model.proofs.Common.{◌∙◌, arith, ap, Piece}
use Rattle.yds_avr.proofs.Terms.{deadlines_outside}
use Rattle.yds_events.proofs.Neighbours.{stretch_starts_rise}
use Rattle.yds_avr.proofs.Standing.{all_rates, live_few, are_live, live_terms_are, live_rounds_are, stands_later}
use Rattle.yds_avr.proofs.average_rate.AverageRatePolicy.set.Goals as goal

pub go_to-requires-clause-rates : goal.go_to-requires-clause-rates
go_to-requires-clause-rates c = all_rates _ _ _ c.requires.keeps.grid_in_range (rw c.rows-rows.ensures.jobs at c.rows-rows.ensures.kept) (rw c.rows-rows.ensures.jobs at c.rows-rows.ensures.few) c.requires.keeps.same

pub terms-requires-clause-few : goal.terms-requires-clause-few
terms-requires-clause-few c = rw c.deref.ensures.value (omega (
  arith,
  rw c.go_to.ensures.same at (live_few _ _ _ _ _ _ c.go_to.ensures.stands.parts),
  (all_rates _ _ _ c.requires.keeps.grid_in_range (rw c.rows-rows.ensures.jobs at c.rows-rows.ensures.kept) (rw c.rows-rows.ensures.jobs at c.rows-rows.ensures.few) c.requires.keeps.same).few,
))

pub terms-requires-clause-live : goal.terms-requires-clause-live
terms-requires-clause-live c = rw c.deref.ensures.value
    (are_live c.args.queue.now.jobs c.args.self.now.grid _ _ _ _ _ _ c.args.stretch c.go_to.ensures.stands.parts (ap (λ (piece : Piece). piece.from) c.stretch.view_is)
    (rw c.go_to.ensures.same c.requires.keeps.same) c.go_to.ensures.coming c.go_to.ensures.live c.requires.keeps.grid_in_range
    (rw c.rows-rows.ensures.jobs at c.rows-rows.ensures.kept) (rw c.requires.nth (deadlines_outside c.args.queue.now.jobs c.args._number c.requires.known)))

pub returns-clause-units : goal.returns-clause-units
returns-clause-units c =
    c.terms.ensures.units ∙ rw c.deref.ensures.value (live_terms_are c.args.queue.now.jobs c.args.self.now.grid _ _ _ _ _ _ c.args.stretch c.go_to.ensures.stands.parts (ap (λ (piece : Piece). piece.from) c.stretch.view_is)
    (rw c.go_to.ensures.same c.requires.keeps.same) c.go_to.ensures.coming c.go_to.ensures.live)

pub returns-clause-rounds : goal.returns-clause-rounds
returns-clause-rounds c =
    c.terms.ensures.rounds ∙ rw c.deref.ensures.value (live_rounds_are c.args.queue.now.jobs c.args.self.now.grid _ _ _ _ _ _ c.args.stretch c.go_to.ensures.stands.parts (ap (λ (piece : Piece). piece.from) c.stretch.view_is)
    (rw c.go_to.ensures.same c.requires.keeps.same) c.go_to.ensures.coming c.go_to.ensures.live)

pub returns-clause-keeps : goal.returns-clause-keeps
returns-clause-keeps c = record {
  grid_in_range = c.requires.keeps.grid_in_range;
  same = rw c.go_to.ensures.same c.requires.keeps.same;
  stands = λ later from less. stands_later _ _ _ _ _ _ _ c.go_to.ensures.stands
      (omega (arith, stretch_starts_rise c.args.queue.now.jobs c.args._number later (omega (arith, from)) less, ap (λ (piece : Piece). piece.from) c.stretch.view_is, ap (λ (piece : Piece). piece.from) c.requires.nth));
}
