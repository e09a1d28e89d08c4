use Rattle.yds_model.proofs.Common.{◌<◌, ◌≤◌, length, ap, arith}
use Rattle.std.specs.Prelude.{decimal}
use Rattle.std.proofs.lemmas.Fmt.{decimal_nonempty}
use Rattle.std.proofs.lemmas.Str.{IsCharBoundary-from_ascii}
use Rattle.yds_trace_run.proofs.fault_text.push_behind_first.Goals as goal

pub range_from-requires : goal.range_from-requires
range_from-requires c =
    let some : 0 < length (decimal c.args.number) = decimal_nonempty c.args.number (omega arith) in
    let first : 1 ≤ length c.format-digits.result.now = omega (arith, some, ap length c.format-digits.ensures.text) in
    λ _. IsCharBoundary-from_ascii c.format-digits.result.now 1 c.format-digits.ensures.ascii first
