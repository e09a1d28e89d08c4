use Rattle.yds_model.proofs.Common.{ℕ, List, length, map, take, ap, ◌∙◌, arith, length-map, length-take-le, job_at, name_at}
use Rattle.yds_instance.specs.Named.{Named, number_of}
use Rattle.yds_answer_jobs.proofs.Admitting.{rise_places, next_is_new}
use Rattle.yds_answer_jobs.proofs.admit.chosen.Goals as goal

pub add_new-requires-clause-new : goal.add_new-requires-clause-new
add_new-requires-clause-new c =
    let names = c.args.instance.now.names in
    let numbers = c.args.numbers.now in
    let i = c.loop-number.number-index in
    let kept = c.name.ensures.kept in
    ap (λ (named : Named). number_of named.names c.name.result.now) c.loop-number.invariant
    ∙ ap (λ (name : List ℕ). number_of (map (name_at names) (take i numbers)) name) c.name.ensures.name
    ∙ next_is_new names numbers i kept.different (λ k d within. omega (arith, c.requires.known k d within, kept.one_name_each)) c.requires.rising c.loop-number-test.true

pub add_new-requires-clause-room : goal.add_new-requires-clause-room
add_new-requires-clause-room c =
    let numbers = c.args.numbers.now in
    let i = c.loop-number.number-index in
    omega (
      arith,
      ap (λ (named : Named). length named.jobs) c.loop-number.invariant,
      length-map (take i numbers) (job_at c.args.instance.now.jobs),
      length-take-le i numbers c.loop-number.auto.number-index-end,
      rise_places 0 numbers i c.requires.rising c.loop-number-test.true,
      c.requires.known i 0 c.loop-number-test.true,
      c.name.ensures.kept.few,
    )
