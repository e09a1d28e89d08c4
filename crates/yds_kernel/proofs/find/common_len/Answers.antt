use Rattle.base.proofs.Common.{codes, ◌∙◌, sym, arith}
use Rattle.yds_kernel.proofs.Names.{begins_with, begins_within, known_word, switch_word, waking_word, wakeup_word}
use Rattle.yds_kernel.proofs.find.common_len.Goals as goal

pub returns-then-begins : goal.returns-then-begins
returns-then-begins c =
    let begins = sym c.begins.ensures ∙ c.if-begins.true in
    let long = begins_within c.args.bytes.now (codes "sched_switch: ") begins in
    (omega (arith, long), known_word c.args.bytes.now (codes "sched_switch: ") (begins_with c.args.bytes.now (codes "sched_switch: ") begins) switch_word)

pub returns-then-begins-2 : goal.returns-then-begins-2
returns-then-begins-2 c =
    let begins = sym c.begins-2.ensures ∙ c.if-begins-2.true in
    let long = begins_within c.args.bytes.now (codes "sched_waking: ") begins in
    (omega (arith, long), known_word c.args.bytes.now (codes "sched_waking: ") (begins_with c.args.bytes.now (codes "sched_waking: ") begins) waking_word)

pub returns-then-begins-3 : goal.returns-then-begins-3
returns-then-begins-3 c =
    let begins = sym c.begins-3.ensures ∙ c.if-begins-3.true in
    let long = begins_within c.args.bytes.now (codes "sched_wakeup: ") begins in
    (omega (arith, long), known_word c.args.bytes.now (codes "sched_wakeup: ") (begins_with c.args.bytes.now (codes "sched_wakeup: ") begins) wakeup_word)
