use Rattle.document_reader.proofs.PlainLine.{says_member}
use Rattle.document_reader.proofs.member.plain_member.Goals as goal

pub returns-then-at_end-clause-says : goal.returns-then-at_end-clause-says
returns-then-at_end-clause-says c =
    says_member c.args.instance.now.names _ _ _ c.in-Ok.job c.in_ok-next.ensures.steps.first (c.at_end.ensures.0 c.if-at_end.true) c.in-Ok.ensures.gives
