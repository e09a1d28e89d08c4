use Rattle.yds_text.proofs.FirstLine.{lines_from-feed, lines_from-no_feed}
use Rattle.yds_text.proofs.line.first_line.Goals as goal

pub returns-in-Some-clause-first : goal.returns-in-Some-clause-first
returns-in-Some-clause-first c number start =
    lines_from-feed number start c.args.bytes.now c.in-Some.end c.in-Some.ensures.0.high c.in-Some.ensures.0.before c.in-Some.ensures.1

pub returns-in-None-clause-first : goal.returns-in-None-clause-first
returns-in-None-clause-first c number start = lines_from-no_feed number start c.args.bytes.now c.requires c.in-None.ensures
