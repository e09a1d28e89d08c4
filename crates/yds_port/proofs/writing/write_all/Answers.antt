use Rattle.base.proofs.Common.{◌≡◌, ◌++◌, take, drop, sym, ap, ◌∙◌, append_assoc, take-append-drop, List, ℕ}
use Rattle.std.proofs.KnownBytes.{Appends-trans}
use Rattle.yds_port.proofs.writing.write_all.Goals as goal

-- the front of the rest goes over to what is done
front_taken : (done rest others : List ℕ) (n : ℕ) → others ≡ drop n rest → done ++ rest ≡ (done ++ take n rest) ++ others
front_taken done rest others n back =
    ap (λ l. done ++ l) (sym (take-append-drop n rest)) ∙ sym (append_assoc done (take n rest) (drop n rest))
    ∙ ap (λ l. (done ++ take n rest) ++ l) (sym back)

pub loop-rest-preserved : goal.loop-rest-preserved
loop-rest-preserved g c = record {
  done = c.loop-rest.invariant.done ++ take c.in-Bytes.count c.loop-rest.rest.now;
  whole = c.loop-rest.invariant.whole ∙ front_taken c.loop-rest.invariant.done c.loop-rest.rest.now c.split_at.result.1.now c.in-Bytes.count c.split_at.ensures.back;
  appended = Appends-trans _ _ _ _ _ c.loop-rest.invariant.appended c.in-Bytes.ensures.writes.appended;
  flushed_stays = c.write.ensures.flushed_stays ∙ c.loop-rest.invariant.flushed_stays;
  flushes_stay = c.write.ensures.flushes_stay ∙ c.loop-rest.invariant.flushes_stay;
  no_fault = c.in-Bytes.ensures.writes.no_fault ∙ c.loop-rest.invariant.no_fault;
}
