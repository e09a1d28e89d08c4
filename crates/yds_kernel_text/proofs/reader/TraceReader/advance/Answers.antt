use Rattle.base.proofs.Common.{◌≢◌, ℕ, ◌+◌, ◌<◌, length, drop, All, refl, sym, ◌∙◌, arith, rules, subst, length-drop, common_steps}
use Rattle.std.proofs.KnownBytes.{Keeps-trans}
use Rattle.yds_kernel_text.specs.declared.advance.Advance.TheVariants as advances
use Rattle.yds_kernel_text.specs.Reading.{unread}
use Rattle.yds_kernel_text.proofs.Given.{counts_taken, counts_on, unread_kept, unread_same, advances_kept, gives_line, gives_rest}
use Rattle.yds_kernel_text.proofs.Passing.{none_found}
use Rattle.yds_kernel_text.proofs.reader.TraceReader.advance.Goals as goal

pub returns-in-Some-clause-advances : goal.returns-in-Some-clause-advances
returns-in-Some-clause-advances g c =
    advances_kept advances.Line c.args.self.now c.loop-self.self c.take_line.new.self
    (g.S.Source.left c.args.source.now) (g.S.Source.left c.loop-self.source) (g.S.Source.left c.loop-self.source)
    (g.S.Source.faults c.args.source.now) (g.S.Source.faults c.loop-self.source) (g.S.Source.faults c.loop-self.source)
    c.loop-self.invariant.kept c.loop-self.invariant.number c.loop-self.invariant.no_fault
    (record {
      next = c.take_line.ensures.number;
      says = gives_line c.in-Some.len c.loop-self.self c.take_line.new.self (g.S.Source.left c.loop-self.source) c.in-Some.ensures.0.high c.in-Some.ensures.0.before c.in-Some.ensures.1 c.take_line.ensures;
      no_fault = refl;
    })

pub loop-self-preserved : goal.loop-self-preserved
loop-self-preserved g c = record {
  kept =
      Keeps-trans (unread c.args.self.now (g.S.Source.left c.args.source.now)) (unread c.loop-self.self (g.S.Source.left c.loop-self.source)) (unread c.fill.new.self (g.S.Source.left c.fill.new.source))
      c.loop-self.invariant.kept
      (unread_kept (g.S.Source.left c.loop-self.source) (g.S.Source.left c.fill.new.source) c.loop-self.self.left c.fill.new.self.left c.in-Bytes.ensures.front c.in-Bytes.ensures.consumed);
  number = c.in-Bytes.ensures.number ∙ c.loop-self.invariant.number;
  counts =
      counts_on (g.S.Source.left c.args.source.now) (g.S.Source.left c.loop-self.source) (g.S.Source.left c.fill.new.source)
      c.args.self.now.taken c.loop-self.self.taken c.fill.new.self.taken c.loop-self.invariant.counts
      (counts_taken (g.S.Source.left c.loop-self.source) (g.S.Source.left c.fill.new.source) (drop (length c.loop-self.self.left) c.fill.new.self.left) c.loop-self.self.taken c.fill.new.self.taken c.in-Bytes.ensures.consumed
      (omega (arith, c.in-Bytes.ensures.taken, c.in-Bytes.ensures.grown, length-drop (length c.loop-self.self.left) c.fill.new.self.left)));
  no_fault = c.in-Bytes.ensures.no_fault ∙ c.loop-self.invariant.no_fault;
}

pub returns-in-End-2-clause-advances : goal.returns-in-End-2-clause-advances
returns-in-End-2-clause-advances g c =
    let some : 0 < length c.fill.new.self.left = first_of (search rules, grind (arith, common_steps)) in
    let none : All (λ byte. byte ≢ 10) c.fill.new.self.left =
    subst (All (λ byte. byte ≢ 10)) (sym c.in-End.ensures.0.left) (none_found c.loop-self.self.left c.in_default.ensures) in
    advances_kept advances.Line c.args.self.now c.loop-self.self c.take_rest.new.self
    (g.S.Source.left c.args.source.now) (g.S.Source.left c.loop-self.source) (g.S.Source.left c.fill.new.source)
    (g.S.Source.faults c.args.source.now) (g.S.Source.faults c.loop-self.source) (g.S.Source.faults c.fill.new.source)
    c.loop-self.invariant.kept c.loop-self.invariant.number c.loop-self.invariant.no_fault
    (advances_kept advances.Line c.loop-self.self c.fill.new.self c.take_rest.new.self
    (g.S.Source.left c.loop-self.source) (g.S.Source.left c.fill.new.source) (g.S.Source.left c.fill.new.source)
    (g.S.Source.faults c.loop-self.source) (g.S.Source.faults c.fill.new.source) (g.S.Source.faults c.fill.new.source)
    (unread_same (g.S.Source.left c.loop-self.source) (g.S.Source.left c.fill.new.source) c.loop-self.self.left c.fill.new.self.left c.in-End.ensures.0.left c.in-End.ensures.0.kept)
    c.in-End.ensures.0.number c.in-End.ensures.2
    (record {
      next = c.take_rest.ensures.number;
      says = gives_rest c.fill.new.self c.take_rest.new.self (g.S.Source.left c.fill.new.source) some none c.in-End.ensures.1 c.take_rest.ensures;
      no_fault = refl;
    }))
