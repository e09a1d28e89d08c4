use Rattle.yds_model.proofs.Common.{◌+◌, ap, ◌∙◌, sym, subst, length, All, length_push, all_pieces, all_members}
use Rattle.document_reader.proofs.Held.{holds_piece}
use Rattle.document_reader.proofs.LevelGrown.{AreKnown, pieces_more, members_stay, known_stay}
use Rattle.document_reader.proofs.piece.add.Goals as goal

pub returns-clause-takes : goal.returns-clause-takes
returns-clause-takes c = holds_piece c.args.draft.now _ _ c.requires.some c.in_ok-piece.ensures.ok

pub returns-clause-kept : goal.returns-clause-kept
returns-clause-kept c =
    let more = c.in_ok-piece.ensures.ok in
    let kept = c.requires.kept in
    let levels = c.args.draft.now.certificate in
    record {
      scheduled = kept.scheduled;
      pieces = ap (λ n. n + 1) kept.pieces ∙ sym (length_push _ _) ∙ ap length (sym (pieces_more levels c.args.piece c.requires.some)) ∙ ap (λ l. length (all_pieces l)) (sym more);
      members = kept.members ∙ ap length (sym (members_stay levels c.args.piece)) ∙ ap (λ l. length (all_members l)) (sym more);
      known = subst (All (AreKnown (length c.args.draft.now.instance.jobs))) (sym more) (known_stay levels (length c.args.draft.now.instance.jobs) c.args.piece kept.known);
      ticks = kept.ticks;
      energy = kept.energy;
    }
