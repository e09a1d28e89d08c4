use Rattle.yds_model.proofs.Common.{◌≡◌, min, ◌∙◌, ap, sym, arith, List, ◌++◌, ◌∷◌, [], on_ok_weaker}
use Rattle.yds_timetable.specs.Shares.{JobShare}
use Rattle.yds_edf.proofs.Running.{row_put}
use Rattle.yds_edf.proofs.policy_run.serve_stretch.Goals as goal

pub push-requires : goal.push-requires
push-requires c =
    let put = row_put c.filling-pace.result c.args.queue.now.grain c.min-served.result c.args.stretch c.serve_into.new.shares.items
    (rw (c.grain-grain.ensures.grain) at c.filling-pace.ensures.pace) c.filling-pace.ensures.kept
    (c.min-served.ensures ∙ ap (λ n. min c.args.units n) c.pending.ensures.units ∙ sym c.in_ok-serve_into.ensures.ok.serving.total)
    (omega (arith, c.grain-grain.ensures.some, c.grain-grain.ensures.grain)) c.requires.grid_in_range
    (omega (arith, c.min-served.ensures, c.pending.ensures.in_range)) c.in_ok-serve_into.ensures.ok.serving.some c.in_ok-serve_into.ensures.works in
    rw (c.deref.ensures.value) (put.0)

pub returns-clause-puts : goal.returns-clause-puts
returns-clause-puts c =
    let put = row_put c.filling-pace.result c.args.queue.now.grain c.min-served.result c.args.stretch c.serve_into.new.shares.items
    (rw (c.grain-grain.ensures.grain) at c.filling-pace.ensures.pace) c.filling-pace.ensures.kept
    (c.min-served.ensures ∙ ap (λ n. min c.args.units n) c.pending.ensures.units ∙ sym c.in_ok-serve_into.ensures.ok.serving.total)
    (omega (arith, c.grain-grain.ensures.some, c.grain-grain.ensures.grain)) c.requires.grid_in_range
    (omega (arith, c.min-served.ensures, c.pending.ensures.in_range)) c.in_ok-serve_into.ensures.ok.serving.some c.in_ok-serve_into.ensures.works in
    on_ok_weaker c.push.result (λ (after : c.push.new.self ≡ c.args.timetable.now ++ record { stretch = c.args.stretch; pace = c.filling-pace.result; shares = c.deref.result.now } ∷ []).
    record {
      pace = c.filling-pace.result;
      filled = put.0;
      grain_is = put.1;
      lowest = put.2;
      after = after ∙ ap (λ (own : List JobShare). c.args.timetable.now ++ record { stretch = c.args.stretch; pace = c.filling-pace.result; shares = own } ∷ []) c.deref.ensures.value;
    }) c.push.ensures.ok
