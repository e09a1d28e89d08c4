use Rattle.yds_model.proofs.Common.{◌≡◌, ◌<◌, length, sym, ◌∙◌, subst, All, AreSlotsOf}
use Rattle.document_value.proofs.Limits.{levels_fit}
use Rattle.document_value.proofs.document.Document.show_limits.Goals as goal

pub returns : goal.returns
returns c =
    let d = c.args.self.now in
    let names = d.instance.names in
    let jobs = c.rows-rows.ensures.kept in
    let many : d.schedule.jobs ≡ length names = d.scheduled ∙ sym jobs.one_name_each in
    record {
      jobs = jobs;
      points = c.points_in-points.ensures.kept;
      slots = subst (λ n. AreSlotsOf n d.schedule.slots) many c.slots-slots.ensures.kept;
      levels = levels_fit (length names) d.certificate c.levels-levels.ensures.kept
          (subst (λ n. All (λ level. All (λ job. job < n) level.members) d.certificate) (sym jobs.one_name_each) d.members_known);
      grid = c.show_limits.ensures;
      energy = c.show_limits-2.ensures;
    }
