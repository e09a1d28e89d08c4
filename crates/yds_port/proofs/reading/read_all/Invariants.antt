use Rattle.base.proofs.Common.{◌≡◌, ◌+◌, ◌-◌, ◌≤◌, take, vec_len, Consumes}
use Rattle.yds_port.proofs.reading.read_all.Given as goal

-- the filled front of the vector is what was taken
abbrev pub invariant-loop-filled : goal.invariant-loop-filled
invariant-loop-filled g l = record {
  within : l.filled ≤ vec_len l.bytes;
  room : vec_len l.bytes ≤ l.most + 1;
  consumed : Consumes (g.S.Source.left l.fn.source) (g.S.Source.left l.source) (take l.filled l.bytes.items);
  no_fault : g.S.Source.faults l.source ≡ g.S.Source.faults l.fn.source;
}

abbrev pub decreases-loop-filled : goal.decreases-loop-filled
decreases-loop-filled g l = l.most + 1 - l.filled
