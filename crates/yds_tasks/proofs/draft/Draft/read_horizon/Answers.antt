use Rattle.yds_model.proofs.Common.{◌∙◌, ◌∷◌, ap, sym, Ok, ◌>>=◌, HorizonEntry}
use Rattle.yds_text.specs.Read.{field_read}
use Rattle.yds_laws.proofs.TasksSaid.{horizon_more}
use Rattle.yds_tasks.proofs.Told.{horizon_fields, not_some}
use Rattle.yds_tasks.proofs.draft.Draft.read_horizon.Goals as goal

pub returns-clause-reads : goal.returns-clause-reads
returns-clause-reads c = λ earlier holds.
    let set = c.args.self.now.set in
    let none = sym c.has_horizon.ensures ∙ c.if-has_horizon.false in
    record {
      entry = HorizonEntry c.in_ok-horizon.horizon;
      said = horizon_fields earlier (field_read c.args.first ∷ c.args.rest.fields) set _ _ holds none c.in_ok-field.ensures
          ∙ ap (λ read. read >>= (λ horizon. Ok (HorizonEntry horizon))) c.in_ok-horizon.ensures.gives;
      holds = horizon_more earlier set c.in_ok-horizon.horizon holds (not_some set.horizon none) ∙ sym c.begin.ensures;
    }
