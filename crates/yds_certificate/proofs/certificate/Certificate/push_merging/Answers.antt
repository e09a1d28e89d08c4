use Rattle.yds_model.proofs.Common.{◌≡◌, ◌∙◌, length, refl, arith, get_or_read, no_level}
use Rattle.yds_certificate.specs.Merging.{HasSpeedOfLast, last_level}
use Rattle.yds_certificate.proofs.LastLevel.{last_set, merged_kept, new_to_last}
use Rattle.yds_certificate.proofs.certificate.Certificate.push_merging.Goals as goal

pub with-requires-clause-apart : goal.with-requires-clause-apart
with-requires-clause-apart c =
    let speed : HasSpeedOfLast c.self.inside.levels.items c.args.level = rw (← c.deref.ensures.value) (c.if-not-has_speed_of_last.ensures.0 refl) in
    let place : c.len-place.result ≡ length c.self.inside.levels.items = c.len-place.ensures ∙ c.self.inside.levels.ok.0 in
    let last : c.index.result.now ≡ last_level c.self.inside.levels.items =
    get_or_read c.self.inside.levels.items _ c.index.result.now (omega (arith, speed.some)) (rw place at c.index.ensures) no_level in
    rw last (new_to_last c.self.inside.levels.items c.args.level speed.some (rw (← c.self.view_is) at c.requires.new))

pub invariant_of-self : goal.invariant_of-self
invariant_of-self c =
    let speed : HasSpeedOfLast c.self.inside.levels.items c.args.level = rw (← c.deref.ensures.value) (c.if-not-has_speed_of_last.ensures.0 refl) in
    let place : c.len-place.result ≡ length c.self.inside.levels.items = c.len-place.ensures ∙ c.self.inside.levels.ok.0 in
    rw place
    (merged_kept c.self.inside.levels.items c.index.result.now c.args.level c.in_ok-both.both speed.some (rw place at c.index.ensures) c.self.invariant
    (rw (← c.both.view_is) c.both.invariant) c.in_ok-both.ensures.together c.in_ok-both.ensures.few_pieces
    (rw (← c.self.view_is) at c.requires.room_for_pieces) (rw (← c.self.view_is) at c.requires.room_for_members))

pub returns-clause-same_speed : goal.returns-clause-same_speed
returns-clause-same_speed c =
    let speed : HasSpeedOfLast c.self.inside.levels.items c.args.level = rw (← c.deref.ensures.value) (c.if-not-has_speed_of_last.ensures.0 refl) in
    let place : c.len-place.result ≡ length c.self.inside.levels.items = c.len-place.ensures ∙ c.self.inside.levels.ok.0 in
    let last : c.index.result.now ≡ last_level c.self.inside.levels.items =
    get_or_read c.self.inside.levels.items _ c.index.result.now (omega (arith, speed.some)) (rw place at c.index.ensures) no_level in
    rw (← c.self.view_is) (λ _. (
      c.in_ok-both.both,
      rw (← last) c.in_ok-both.ensures.together,
      rw place
          (last_set c.self.inside.levels.items c.index.result.now c.in_ok-both.both (λ _. c.in_ok-both.both) speed.some (rw place at c.index.ensures) refl),
    ))
