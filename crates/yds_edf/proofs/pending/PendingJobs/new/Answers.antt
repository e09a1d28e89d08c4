use Rattle.yds_model.proofs.Common.{◌≡◌, ℕ, ◌<◌, List, length, slice_index, ◌∙◌, sym, subst, ap, arith, All, length-replicate, get_or_default, Each}
use Rattle.yds_edf.specs.declared.due_order.Due.{Due}
use Rattle.yds_edf.specs.DueOrder.{due_at}
use Rattle.yds_edf.proofs.JobPlaces.{all_placed, deadlines_rise, in_turn}
use Rattle.yds_edf.proofs.pending.PendingJobs.new.Goals as goal

pub returns-clause-ranked : goal.returns-clause-ranked
returns-clause-ranked c =
    let jobs = c.args.rows.now in
    let ties = c.args.ties.now in
    let order = c.in_ok-order.order.items in
    let same = c.in_ok-order.ensures.same in
    let small : All (λ tie. tie < 4294967296) ties = λ k d within. omega (arith, c.type_inv.ties k, get_or_default ties k d 0 within) in
    let lent : c.deref.result.now ≡ order = c.deref.ensures.value in
    let long : length order ≡ length jobs = all_placed jobs ties order same in
    record {
      order = record { same = same; rising = deadlines_rise jobs ties order same small c.requires.all_tied c.in_ok-order.ensures.rising; few = omega (arith, long, c.requires.few) };
      in_turn = in_turn jobs ties order same small c.requires.all_tied c.in_ok-order.ensures.rising c.requires.told_apart;
      places = subst (λ (dues : List Due). Each (length dues) (λ place. slice_index c.in_ok-places.places.items (due_at dues place).job ≡ place)) lent c.in_ok-places.ensures.places;
      all_places = c.in_ok-places.ensures.long ∙ ap (λ (dues : List Due). length dues) lent;
      all_units = ap (λ (units : List ℕ). length units) c.in_ok-units.ensures ∙ length-replicate {A = ℕ} (length jobs) 0 ∙ sym long;
    }
