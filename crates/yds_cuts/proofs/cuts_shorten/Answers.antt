use Rattle.yds_cuts.proofs.Above.{cuts_shorten}
use Rattle.yds_cuts.proofs.cuts_shorten.Goals as goal

pub returns : goal.returns
returns c = cuts_shorten
