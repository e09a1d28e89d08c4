use Rattle.yds_model.proofs.Common.{◌≡◌, ℕ, ◌+◌, ◌-◌, ◌<◌, ◌≤◌, ◌⊎◌, ◌∙◌, length, get_or, set, refl, subst, arith, inl, inr, ap, get_or-set_same, get_or-set_other, length-set, cases_lt, cases_eq, Job}
use Rattle.yds_admit.specs.Chain.{AreLinks}
use Rattle.yds_admit.proofs.Links.{less_left, linked}
use Rattle.yds_admit.proofs.Cutting.{IsCutSoFar, none_yet, one_piece_more, cut_more, cut_last}
use Rattle.yds_admit.proofs.pieces.cut.Goals as goal
use Rattle.yds_admit.proofs.pieces.cut.Goals.{then-left-gt0, else-left-gt0, then-loop-left-test+else-place-gt0, else-loop-left-test, then-left-gt0-2-via-then-left-gt0-2, then-left-gt0-2-via-else-left-gt0-2+then-job-eq0}

pub loop-left-init : goal.loop-left-init
loop-left-init c =
    let kept = c.last_open-place.ensures.kept c.args.gaps.now c.requires.links in
    record {
      cutting = λ top times long at cutting. cutting;
      links = kept.0;
      within = c.last_open-place.ensures.within;
      empty = λ some. kept.1;
      into = subst (λ (job : Job). IsCutSoFar job c.args.pieces.now.jobs c.args.pieces.now.jobs c.job.inside.work) c.job.view_is
          (none_yet (record { release = c.job.inside.release; deadline = c.job.inside.deadline; work = c.job.inside.work }) c.args.pieces.now.jobs);
    }

pub loop-left-preserved : goal.loop-left-preserved
loop-left-preserved c =
    let held = c.loop-left.invariant in
    let before = c.loop-left.gaps in
    let place : ℕ = c.loop-left.place in
    let gap : ℕ = place - 1 in
    let units : ℕ = c.min-units.result in
    let taken : ℕ = c.from-in-loop-left.result in
    let new = set before gap (get_or before gap 0 - taken) in
    let next : gap + 1 ≡ place = omega (arith, c.if-place-gt0.true) in
    let piece : Job = record { release = c.job.inside.release; deadline = c.job.inside.deadline; work = units } in
    let as_many : length before ≡ length c.args.gaps.now = c.loop-left.auto.gaps in
    let below : gap < length before = omega (arith, next, held.within, c.requires.within, as_many) in
    let deadline = ap (λ (job : Job). job.deadline) c.job.view_is in
    let release = ap (λ (job : Job). job.release) c.job.view_is in
    let empty = held.empty (inl (omega (arith, c.loop-left-test.true))) in
    let link : ℕ = c.if-left-gt0.links in
    let less : AreLinks new c.loop-left.links = less_left before c.loop-left.links gap taken held.links below in
    let within : gap < length new = omega (arith, below, length-set before gap (get_or before gap 0 - taken)) in
    let led : AreLinks new (set c.loop-left.links (gap + 1) link) = elim c.if-left-gt0.branch [
      | then-left-gt0 w ↦ linked new c.loop-left.links gap link less within (omega (arith, w.links-is)) (omega (arith, w.links-is))
          (λ same. get_or-set_same before gap (get_or before gap 0 - taken) 0 below
          ∙ (let e : get_or before gap 0 - taken ≡ 0 = omega (arith, c.min-units.ensures, c.from.ensures, c.from-in-loop-left.ensures, w.if-left-gt0.true) in e))
      | else-left-gt0 w ↦ linked new c.loop-left.links gap link less within (omega (arith, w.links-is, next)) (omega (arith, w.links-is, next))
          (λ same. absurd (omega (arith, same, w.links-is, next)))
    ] in
    let kept = c.last_open-place-in-loop-left.ensures.kept new (subst (λ (n : ℕ). AreLinks new (set c.loop-left.links n link)) next led) in
    record {
      cutting = λ top times long at cutting. rw (c.in_ok-push.ensures, c.in_ok-push-2.ensures.items, c.new.ensures)
          (one_piece_more top times c.loop-left.pieces.jobs c.loop-left.pieces.places.items before new (held.cutting top times long at cutting) piece c.args.end place
          (omega (arith, c.requires.within, as_many))
          (λ q early. omega (arith, at.before q early, deadline))
          (λ q late most. omega (arith, at.after q late (omega (arith, most, as_many, long)), deadline))
          held.within empty (length-set before gap (get_or before gap 0 - taken))
          (λ q same. let here : q ≡ gap = omega (arith, same, next) in omega (
            arith,
            ap (λ n. get_or new n 0) here,
            ap (λ n. get_or before n 0) here,
            get_or-set_same before gap (get_or before gap 0 - taken) 0 below,
            c.min-units.ensures,
            c.from-in-loop-left.ensures,
          ))
          (λ q other. get_or-set_other before gap q (get_or before gap 0 - taken) 0 (λ e. other (omega (arith, e, next)))));
      links = kept.0;
      within = omega (arith, c.last_open-place-in-loop-left.ensures.within, held.within, next);
      empty = λ some q from to. elim some [
        | inr none ↦ absurd (omega (arith, none, held.into.work, c.loop-left-test.true))
        | inl left ↦ elim (cases_lt q gap) [
          | inl early ↦ kept.1 q from early
          | inr late ↦ elim (cases_eq q gap) [
            | inl same ↦ omega (
              arith,
              ap (λ n. get_or new n 0) same,
              get_or-set_same before gap (get_or before gap 0 - taken) 0 below,
              c.min-units.ensures,
              c.from.ensures,
              c.from-in-loop-left.ensures,
              left,
            )
            | inr other ↦ get_or-set_other before gap q (get_or before gap 0 - taken) 0 other ∙ empty q (omega (arith, late, other, next)) to
          ]
        ]
      ];
      into = rw (c.in_ok-push.ensures, c.new.ensures)
          (cut_more c.args.job.now c.args.pieces.now.jobs c.loop-left.pieces.jobs c.loop-left.left units piece held.into
          (omega (arith, c.min-units.ensures, c.from.ensures)) release deadline refl);
    }

pub returns-in_ok-push-4-clause-cutting : goal.returns-in_ok-push-4-clause-cutting
returns-in_ok-push-4-clause-cutting c top times long at cutting =
    let held = c.loop-left.invariant in
    let gaps = c.loop-left.gaps in
    let piece : Job = record { release = c.job.inside.release; deadline = c.job.inside.deadline; work = c.loop-left.left } in
    let as_many : length gaps ≡ length c.args.gaps.now = c.loop-left.auto.gaps in
    let deadline = ap (λ (job : Job). job.deadline) c.job.view_is in
    let work = ap (λ (job : Job). job.work) c.job.view_is in
    let idle : (1 ≤ c.loop-left.left) ⊎ (c.args.job.now.work ≡ 0) = elim c.then-left-gt0-2.branch [
      | then-left-gt0-2-via-then-left-gt0-2 w ↦ inl (omega (arith, w.if-left-gt0-2.true))
      | then-left-gt0-2-via-else-left-gt0-2+then-job-eq0 w ↦ inr (omega (arith, w.if-job-eq0.true, work))
    ] in
    -- units are left only where no gap is
    let none : (q : ℕ) → q + 1 ≡ c.loop-left.place → c.loop-left.left ≡ 0 = λ q same. elim c.loop-left-test.branch [
      | then-loop-left-test+else-place-gt0 w ↦ absurd (omega (arith, same, w.if-place-gt0.false))
      | else-loop-left-test w ↦ omega (arith, w.loop-left-test.false)
    ] in
    rw (c.in_ok-push-3.ensures, c.in_ok-push-4.ensures.items, c.new-then-left-gt0-2.ensures)
    (one_piece_more top times c.loop-left.pieces.jobs c.loop-left.pieces.places.items gaps gaps (held.cutting top times long at cutting) piece c.args.end c.loop-left.place
    (omega (arith, c.requires.within, as_many))
    (λ q early. omega (arith, at.before q early, deadline))
    (λ q late most. omega (arith, at.after q late (omega (arith, most, as_many, long)), deadline))
    held.within (held.empty idle) refl (λ q same. omega (arith, none q same)) (λ q other. refl))

pub returns-in_ok-push-4-clause-into : goal.returns-in_ok-push-4-clause-into
returns-in_ok-push-4-clause-into c =
    let piece : Job = record { release = c.job.inside.release; deadline = c.job.inside.deadline; work = c.loop-left.left } in
    rw (c.in_ok-push-3.ensures, c.new-then-left-gt0-2.ensures)
    (cut_last c.args.job.now c.args.pieces.now.jobs c.loop-left.pieces.jobs c.loop-left.left piece c.loop-left.invariant.into
    (ap (λ (job : Job). job.release) c.job.view_is) (ap (λ (job : Job). job.deadline) c.job.view_is) refl)

pub last_open-place-requires-in-loop-left-clause-back : goal.last_open-place-requires-in-loop-left-clause-back
last_open-place-requires-in-loop-left-clause-back c p within =
    let held = c.loop-left.invariant in
    let links = c.loop-left.links in
    let place : ℕ = c.loop-left.place in
    let link : ℕ = c.if-left-gt0.links in
    let short : link ≤ place = elim c.if-left-gt0.branch [ then-left-gt0 w ↦ omega (arith, w.links-is) | else-left-gt0 w ↦ omega (arith, w.links-is) ] in
    let there : place < length links = omega (arith, held.links.as_long, held.within, c.requires.within, c.loop-left.auto.gaps) in
    elim (cases_eq p place) [
      | inl same ↦ omega (arith, same, short, ap (λ n. get_or (set links place link) n 0) same, get_or-set_same links place link 0 there)
      | inr other ↦ omega (arith, get_or-set_other links place p link 0 other, held.links.back p (omega (arith, within, length-set links place link)))
    ]
