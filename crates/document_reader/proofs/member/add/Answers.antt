use Rattle.yds_model.proofs.Common.{◌+◌, ap, ◌∙◌, sym, subst, length, All, length_push, all_pieces, all_members}
use Rattle.document_reader.proofs.Held.{holds_member}
use Rattle.document_reader.proofs.LevelGrown.{AreKnown, members_more, pieces_stay, known_more}
use Rattle.document_reader.proofs.member.add.Goals as goal

pub returns-clause-takes : goal.returns-clause-takes
returns-clause-takes c = holds_member c.args.draft.now _ _ c.requires.some c.in_ok-member.ensures.ok

pub returns-clause-kept : goal.returns-clause-kept
returns-clause-kept c =
    let more = c.in_ok-member.ensures.ok in
    let kept = c.requires.kept in
    let levels = c.args.draft.now.certificate in
    record {
      scheduled = kept.scheduled;
      pieces = kept.pieces ∙ ap length (sym (pieces_stay levels c.args.job)) ∙ ap (λ l. length (all_pieces l)) (sym more);
      members = ap (λ n. n + 1) kept.members ∙ sym (length_push _ _) ∙ ap length (sym (members_more levels c.args.job c.requires.some)) ∙ ap (λ l. length (all_members l)) (sym more);
      known = subst (All (AreKnown (length c.args.draft.now.instance.jobs))) (sym more) (known_more levels (length c.args.draft.now.instance.jobs) c.args.job c.requires.known kept.known);
      ticks = kept.ticks;
      energy = kept.energy;
    }
