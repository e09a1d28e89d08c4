use Rattle.yds_model.proofs.Common.{◌≡◌, ◌∙◌, length, refl}
use Rattle.yds_certificate.specs.Level.{with_member}
use Rattle.yds_certificate.proofs.LastLevel.{last_set, member_kept}
use Rattle.yds_certificate.proofs.certificate.Certificate.member.Goals as goal

pub invariant_of-self-2 : goal.invariant_of-self-2
invariant_of-self-2 c =
    let last : c.len-last.result ≡ length c.self.inside.levels.items = c.len-last.ensures ∙ c.self.inside.levels.ok.0 in
    let is = rw (← c.level.view_is, last) at c.index_mut-level.ensures.value in
    rw (last, c.in_ok-push.ensures.items)
    (member_kept c.self.inside.levels.items _ _ (rw (← c.self.view_is) at c.requires.some) is c.self.invariant c.level.invariant (rw (← c.self.view_is) at c.requires.room))

pub returns-clause-ok : goal.returns-clause-ok
returns-clause-ok c =
    let last : c.len-last.result ≡ length c.self.inside.levels.items = c.len-last.ensures ∙ c.self.inside.levels.ok.0 in
    let is = rw (← c.level.view_is, last) at c.index_mut-level.ensures.value in
    rw (last, c.in_ok-push.ensures.items, ← c.self.view_is)
    (last_set c.self.inside.levels.items _ _ (with_member c.args.job) (rw (← c.self.view_is) at c.requires.some) is refl)
