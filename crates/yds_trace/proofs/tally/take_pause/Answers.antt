use Rattle.base.proofs.Common.{◌≡◌, ◌∙◌, ◌-◌, ◌≤◌, ◌<◌, ℕ, sym, ap, arith}
use Rattle.yds_trace.specs.declared.tally.Pause.{Pause}
use Rattle.yds_trace.specs.Past.{last_time}
use Rattle.yds_trace.specs.Tally.{has_pause}
use Rattle.yds_trace.proofs.Tallying.{is_longer, not_longer, none_longer}
use Rattle.yds_trace.proofs.tally.take_pause.Goals as goal
use Rattle.yds_trace.proofs.tally.take_pause.Goals.{else-pause-lasted-via-then-pause-lasted+else-has_pause, else-pause-lasted-via-else-pause-lasted}

abbrev pause_from : ℕ → ℕ → Pause
pause_from since lasted = record { since = since; lasted = lasted }

pub returns-then-has_pause : goal.returns-then-has_pause
returns-then-has_pause c = λ start lines times.
    let last : c.args.past.now.last ≡ last_time lines = sym times.last in
    let lasted : c.saturating_sub-lasted.result ≡ c.args.time - last_time lines =
    c.saturating_sub-lasted.ensures ∙ ap (λ (since : ℕ). c.args.time - since) last in
    let less : c.args.pause.now.lasted < c.args.time - last_time lines = omega (arith, lasted, c.if-pause-lasted.true) in
    ap (λ (since : ℕ). pause_from since c.saturating_sub-lasted.result) last
    ∙ ap (pause_from (last_time lines)) lasted
    ∙ sym (is_longer c.args.pause.now (has_pause c.args.from c.args.to lines c.args.time) (last_time lines) (c.args.time - last_time lines)
    less (sym (c.has_pause.ensures start lines times) ∙ c.if-has_pause.true))

pub returns-else-pause-lasted : goal.returns-else-pause-lasted
returns-else-pause-lasted c = λ start lines times.
    let lasted : c.saturating_sub-lasted.result ≡ c.args.time - last_time lines =
    c.saturating_sub-lasted.ensures ∙ ap (λ (since : ℕ). c.args.time - since) (sym times.last) in
    elim c.else-pause-lasted.branch [
      | else-pause-lasted-via-then-pause-lasted+else-has_pause w ↦
          sym (none_longer c.args.pause.now (has_pause c.args.from c.args.to lines c.args.time) (last_time lines) (c.args.time - last_time lines)
          (sym (w.has_pause.ensures start lines times) ∙ w.if-has_pause.false))
      | else-pause-lasted-via-else-pause-lasted w ↦
          (let most : c.args.time - last_time lines ≤ c.args.pause.now.lasted = omega (arith, lasted, w.if-pause-lasted.false) in
          sym (not_longer c.args.pause.now (has_pause c.args.from c.args.to lines c.args.time) (last_time lines) (c.args.time - last_time lines) most))
    ]
