use Rattle.yds_model.proofs.Common.{◌≡◌, ◌-◌, ◌++◌, ◌∷◌, [], ℕ, List, rules, arith, sym, subst, ap, length, take_all, All-cons, IsNonDecreasingBy-from_sort_by_key, All-permutation, IsPermutation-push_more, IsPermutation-refl, All, IsPermutation, All-front, All-last}
use Rattle.yds_avr.specs.declared.rate.Rate.{Rate}
use Rattle.yds_avr.specs.Rate.{IsRate}
use Rattle.yds_avr.specs.Roster.{HaveFallingDeadlines}
use Rattle.yds_avr.proofs.Standing.{falls_by}
use Rattle.yds_avr.proofs.roster.settle.Goals as goal

pub returns-then-added-gt1-clause-falling : goal.returns-then-added-gt1-clause-falling
returns-then-added-gt1-clause-falling c =
    falls_by c.sort_unstable_by_key.new.self.items (All-permutation IsRate c.args.live.now.items c.sort_unstable_by_key.new.self.items c.sort_unstable_by_key.ensures.permutation c.requires.rates)
    (IsNonDecreasingBy-from_sort_by_key (λ (rate : Rate). 4294967295 - rate.deadline) _ c.sort_unstable_by_key.ensures.sorted (λ a r f k. search rules))

pub returns-then-added-eq0-clause-falling : goal.returns-then-added-eq0-clause-falling
returns-then-added-eq0-clause-falling c =
    subst HaveFallingDeadlines (take_all c.args.before c.args.live.now.items (omega (arith, c.if-added-eq0.true, c.len.ensures, c.args.live.now.ok.0))) c.requires.falling

pub put_in-requires-clause-rates : goal.put_in-requires-clause-rates
put_in-requires-clause-rates c =
    let all : All IsRate (c.pop.new.self.items ++ c.in-Some.last ∷ []) = subst (λ (rates : List Rate). All IsRate rates) c.in-Some.ensures.items c.requires.rates in
    All-cons IsRate c.in-Some.last c.pop.new.self.items (All-last IsRate c.pop.new.self.items c.in-Some.last all) (All-front IsRate c.pop.new.self.items (c.in-Some.last ∷ []) all)

pub returns-clause-same : goal.returns-clause-same
returns-clause-same c =
    subst (λ (rates : List Rate). IsPermutation rates c.put_in.new.live.items) (sym c.in-Some.ensures.items)
    (IsPermutation-push_more c.pop.new.self.items c.pop.new.self.items c.put_in.new.live.items c.in-Some.last (IsPermutation-refl c.pop.new.self.items) c.put_in.ensures.same)
