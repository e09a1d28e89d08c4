use Rattle.yds_model.proofs.Common.{◌*◌, ◌∙◌, ◌≡◌, ap}
use Rattle.yds_round.proofs.Turns.{fast_switch_within, slow_switch_within}
use Rattle.yds_round.specs.Written.{surplus_of}
use Rattle.yds_round.proofs.cut.Cut.of.Goals as goal

pub moment-requires-clause-within : goal.moment-requires-clause-within
moment-requires-clause-within c =
    let surplus : c.from-2.result ≡ surplus_of c.args.split c.args.stretch = c.from-2.ensures ∙ ap (λ n. c.args.split.surplus * n) (c.from.ensures ∙ c.length.ensures.length) in
    rw (surplus, c.from-3.ensures) (fast_switch_within c.args.split c.args.stretch c.requires)

pub moment-requires-2-clause-within : goal.moment-requires-2-clause-within
moment-requires-2-clause-within c =
    let surplus : c.from-4.result ≡ surplus_of c.args.split c.args.stretch = c.from-4.ensures ∙ ap (λ n. c.args.split.surplus * n) (c.from.ensures ∙ c.length.ensures.length) in
    rw (surplus, c.from-5.ensures) (slow_switch_within c.args.split c.args.stretch c.requires)
