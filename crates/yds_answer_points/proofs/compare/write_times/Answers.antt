use Rattle.yds_model.proofs.Common.{◌≡◌, ◌<◌, ◌∙◌, ◌∷◌, [], List, length, get_or, ap, arith, inl, inr, true, false, codes, decimal, zip, Point, line, fraction_text}
use Rattle.yds_port.proofs.Putting.{item_put, item_failed, all_put}
use Rattle.yds_answer_points.specs.Compare.{time_line}
use Rattle.yds_answer_points.proofs.Compared.{timed_within, timed_at, timed_few}
use Rattle.yds_answer_points.proofs.compare.write_times.Goals as goal

pub returns-in_default : goal.returns-in_default
returns-in_default g c =
    all_put (time_line c.args.name.now) (zip c.args.table.now c.args.times.now)
    (timed_few c.args.table.now c.args.times.now c.loop-place.place (inr (let test = c.in_default.ensures.lookup.0 in grind arith))) c.loop-place.invariant

pub returns-in_err-write_all : goal.returns-in_err-write_all
returns-in_err-write_all g c =
    let in_table : c.loop-place.place < length c.args.table.now = omega (arith, c.loop-place-test.true, ap (λ (xs : List Point). length xs) c.points-point-items.ensures.value) in
    let in_times : c.loop-place.place < length c.args.times.now = let test = c.in-Some.ensures.lookup.0 in grind arith in
    let is_point : c.point-item.result ≡ get_or c.args.table.now c.loop-place.place c.point-item.result =
    c.point-item.is ∙ ap (λ (xs : List Point). get_or xs c.loop-place.place c.point-item.result) c.points-point-items.ensures.value in
    item_failed (time_line c.args.name.now) (zip c.args.table.now c.args.times.now) (c.point-item.result, c.in-Some.time.now) c.from_residual.result c.from_residual.ensures.0
    (timed_within c.args.table.now c.args.times.now c.loop-place.place in_table in_times)
    (timed_at c.args.table.now c.args.times.now c.loop-place.place c.point-item.result c.in-Some.time.now in_table in_times is_point c.in-Some.ensures.lookup.1)
    (c.as_bytes.ensures ∙ c.time_line.ensures ∙ ap (λ (p : Point). line (c.args.name.now ∷ codes "time" ∷ decimal p.speed ∷ fraction_text c.in-Some.time.now ∷ [])) c.point.view_is)
    c.loop-place.invariant c.in_err-write_all.ensures.puts

pub loop-place-preserved : goal.loop-place-preserved
loop-place-preserved g c =
    let in_table : c.loop-place.place < length c.args.table.now = omega (arith, c.loop-place-test.true, ap (λ (xs : List Point). length xs) c.points-point-items.ensures.value) in
    let in_times : c.loop-place.place < length c.args.times.now = let test = c.in-Some.ensures.lookup.0 in grind arith in
    let is_point : c.point-item.result ≡ get_or c.args.table.now c.loop-place.place c.point-item.result =
    c.point-item.is ∙ ap (λ (xs : List Point). get_or xs c.loop-place.place c.point-item.result) c.points-point-items.ensures.value in
    item_put (time_line c.args.name.now) (zip c.args.table.now c.args.times.now) (c.point-item.result, c.in-Some.time.now)
    (timed_within c.args.table.now c.args.times.now c.loop-place.place in_table in_times)
    (timed_at c.args.table.now c.args.times.now c.loop-place.place c.point-item.result c.in-Some.time.now in_table in_times is_point c.in-Some.ensures.lookup.1)
    (c.as_bytes.ensures ∙ c.time_line.ensures ∙ ap (λ (p : Point). line (c.args.name.now ∷ codes "time" ∷ decimal p.speed ∷ fraction_text c.in-Some.time.now ∷ [])) c.point.view_is)
    c.loop-place.invariant c.in_ok-write_all.ensures.puts

pub returns : goal.returns
returns g c =
    all_put (time_line c.args.name.now) (zip c.args.table.now c.args.times.now)
    (timed_few c.args.table.now c.args.times.now c.loop-place.place (inl (omega (arith, c.loop-place-test.false, ap (λ (xs : List Point). length xs) c.points-point-items.ensures.value))))
    c.loop-place.invariant
