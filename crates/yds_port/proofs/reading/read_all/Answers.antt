use Rattle.base.proofs.Common.{◌∙◌, arith, length-drop}
use Rattle.yds_port.proofs.Read.{Consumes-next}
use Rattle.yds_port.proofs.reading.read_all.Goals as goal

pub loop-filled-preserved : goal.loop-filled-preserved
loop-filled-preserved g c = record {
  within = omega (arith, length-drop c.loop-filled.filled c.read_into.new.bytes.items, c.in-Bytes.ensures.reads.within, c.in_ok-make_room.ensures.room);
  room = omega (arith, c.in_ok-make_room.ensures.short);
  consumed = Consumes-next _ _ _ _ _ _ _ c.loop-filled.invariant.consumed
      (c.read_into.ensures.front ∙ c.make_room.ensures.front) c.in-Bytes.ensures.reads.consumed;
  no_fault = c.in-Bytes.ensures.reads.no_fault ∙ c.loop-filled.invariant.no_fault;
}
