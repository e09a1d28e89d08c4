use Rattle.yds_model.proofs.Common.{◌≡◌, ◌+◌, ◌*◌, drop, nat_lt, prefix_len, Level}
use Rattle.yds_certificate.proofs.certificate.Certificate.prefix.Given as goal

abbrev pub invariant-loop-level : goal.invariant-loop-level
invariant-loop-level l = record {
  here : l.end ≡ l.level-index;
  rest : l.end + prefix_len (λ (level : Level). nat_lt (l.threshold.num * level.length) (level.work * l.threshold.den)) (drop l.level-index l.self-inside.levels.items)
      ≡ prefix_len (λ (level : Level). nat_lt (l.threshold.num * level.length) (level.work * l.threshold.den)) l.self-inside.levels.items;
}
