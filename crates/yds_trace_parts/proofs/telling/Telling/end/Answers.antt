use Rattle.base.proofs.Common.{sym}
use Rattle.yds_trace.specs.Kept.{told_to_forget}
use Rattle.yds_trace_parts.proofs.Taking.{last_sound, end_halted, whole_halted}
use Rattle.yds_trace_parts.proofs.telling.Telling.end.Goals as goal

pub returns-in-Ok-clause-sound : goal.returns-in-Ok-clause-sound
returns-in-Ok-clause-sound c asked strict past is many =
    last_sound _ c.write_last.result (sym (c.in-Ok.ensures asked past (told_to_forget c.args.self.now.pass) is.stands))

pub returns-in-Ok-clause-halts : goal.returns-in-Ok-clause-halts
returns-in-Ok-clause-halts c asked strict past is many =
    end_halted asked strict past c.args.number c.write_last.result (sym (c.in-Ok.ensures asked past (told_to_forget c.args.self.now.pass) is.stands))
    (c.write_last.ensures.halts asked strict past is)

pub returns-in-Err-clause-halts : goal.returns-in-Err-clause-halts
returns-in-Err-clause-halts c = λ asked strict past is many.
    whole_halted asked strict past c.args.number c.in-Err.cause (sym (c.in-Err.ensures asked past (told_to_forget c.args.self.now.pass) is.stands))
