use Rattle.yds_model.proofs.Common.{◌++◌, ◌∷◌, [], ◌∙◌, ℕ, List, map, take, get_or, sym, ap, ap₂, Option, slice_get, map-append, take_more}
use Rattle.yds_timetable.proofs.Lists.{copied_read}
use Rattle.yds_plan.proofs.layout.timetable.levels_of_stretches.Goals as goal

pub loop-place-preserved : goal.loop-place-preserved
loop-place-preserved c =
    let places = c.args.places.now in
    let i = c.loop-place.place-index in
    let read = slice_get c.args.numbers.now in
    c.in_ok-push.ensures.items
    ∙ ap₂ (λ (levels : List (Option ℕ)) (level : Option ℕ). levels ++ level ∷ []) c.loop-place.invariant
    (c.copied.ensures ∙ copied_read c.args.numbers.now (get_or places i 0) c.get.result c.get.ensures.lookup)
    ∙ sym (ap (map read) (take_more places i 0 c.loop-place-test.true) ∙ map-append read (take i places) (get_or places i 0 ∷ []))
