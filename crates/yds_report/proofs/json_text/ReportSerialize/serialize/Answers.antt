use Rattle.yds_model.proofs.Common.{on_ok_weaker}
use Rattle.serde.specs.Event.{Logs, map_ends}
use Rattle.yds_report.proofs.json_text.ReportSerialize.serialize.Goals as goal

pub returns : goal.returns
returns g c =
    let written = g.S.Serializer.written in
    let from = c.in_ok-write_number.ensures in
    let idle = c.in_ok-write_number-2.ensures in
    let jobs = c.in_ok-write_number-3.ensures in
    let to = c.in_ok-write_number-4.ensures in
    let work = c.in_ok-write_number-5.ensures in
    on_ok_weaker c.end_map.result
    (λ (ended : Logs (written c.write_number-5.new.out) (written c.end_map.new.self) map_ends). (
      written c.begin_map.new.self,
      c.in_ok-begin_map.ensures,
      (
        from.0,
        written c.write_number.new.out,
        from.1,
        from.2,
        (
          idle.0,
          written c.write_number-2.new.out,
          idle.1,
          idle.2,
          (
            jobs.0,
            written c.write_number-3.new.out,
            jobs.1,
            jobs.2,
            (
              written c.key.new.self,
              written c.write_levels.new.out,
              c.in_ok-key.ensures,
              c.in_ok-write_levels.ensures,
              (
                to.0,
                written c.write_number-4.new.out,
                to.1,
                to.2,
                (work.0, written c.write_number-5.new.out, work.1, work.2, ended),
              ),
            ),
          ),
        ),
      ),
    )) c.end_map.ensures
