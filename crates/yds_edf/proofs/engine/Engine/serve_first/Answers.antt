use Rattle.yds_model.proofs.Common.{◌∙◌, sym, refl, arith}
use Rattle.yds_edf.proofs.Ranked.{units_tell}
use Rattle.yds_edf.proofs.Steps.{job_read, now_fits, kept_read, serves_read}
use Rattle.yds_edf.proofs.engine.Engine.serve_first.Goals as goal

pub returns-in_err-place : goal.returns-in_err-place
returns-in_err-place c = rw (c.from_residual.ensures, ← c.self.view_is) (sym (units_tell c.self.invariant) ∙ c.in_err-place.ensures.first, refl)

pub index_mut-requires : goal.index_mut-requires
index_mut-requires c = omega (arith, (job_read c.self.invariant c.in_ok-place.ensures.first c.index.result.now c.index.ensures).1)

pub overflow_add-index_mut : goal.overflow_add-index_mut
overflow_add-index_mut c = omega (
  arith,
  now_fits c.self.invariant (record {
    first = c.in_ok-place.ensures.first;
    some = c.requires;
    due_is = c.index.ensures;
    left_is = rw c.in_ok-place.ensures.same at c.at-left.ensures.units;
    more_is = c.min-units.ensures;
    now_is = c.index_mut.ensures.value;
    units_are = refl;
  }),
)

pub invariant_of-self-2 : goal.invariant_of-self-2
invariant_of-self-2 c = kept_read c.self.invariant (record {
  first = c.in_ok-place.ensures.first;
  some = c.requires;
  due_is = c.index.ensures;
  left_is = rw c.in_ok-place.ensures.same at c.at-left.ensures.units;
  more_is = c.min-units.ensures;
  now_is = c.index_mut.ensures.value;
  units_are = rw c.in_ok-place.ensures.same at c.set.ensures;
})

pub returns : goal.returns
returns c = rw (← c.self.view_is) (serves_read c.self.invariant (record {
  first = c.in_ok-place.ensures.first;
  some = c.requires;
  due_is = c.index.ensures;
  left_is = rw c.in_ok-place.ensures.same at c.at-left.ensures.units;
  more_is = c.min-units.ensures;
  now_is = c.index_mut.ensures.value;
  units_are = rw c.in_ok-place.ensures.same at c.set.ensures;
}))
