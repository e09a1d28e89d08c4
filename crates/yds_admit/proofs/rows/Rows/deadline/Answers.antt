use Rattle.yds_model.proofs.Common.{◌<◌, length, ◌∙◌, arith, get_or_read}
use Rattle.yds_admit.proofs.Listed.{row_count, each_listed}
use Rattle.yds_admit.proofs.rows.Rows.deadline.Goals as goal

pub index-requires : goal.index-requires
index-requires c = omega (arith, c.requires, c.self.invariant.due, row_count c.self.inside.releases.items c.self.inside.deadlines.items c.self.inside.works.items c.args.self.now c.self.invariant c.self.view_is)

pub returns : goal.returns
returns c =
    let rows = c.self.inside in
    let below : c.args.number < length rows.releases.items = omega (arith, c.requires, row_count rows.releases.items rows.deadlines.items rows.works.items c.args.self.now c.self.invariant c.self.view_is) in
    get_or_read rows.deadlines.items c.args.number c.index.result.now (omega (arith, below, c.self.invariant.due)) c.index.ensures 0
    ∙ (each_listed rows.releases.items rows.deadlines.items rows.works.items c.args.self.now c.self.invariant c.self.view_is c.args.number below).deadline
