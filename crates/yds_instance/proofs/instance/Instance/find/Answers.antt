use Rattle.yds_model.proofs.Common.{◌∙◌, subst, ap, Some, None, AreNamedJobs}
use Rattle.yds_instance.specs.Named.{Named, number_of}
use Rattle.yds_instance.proofs.Names.{number_of_key, number_says}
use Rattle.yds_instance.proofs.instance.Instance.find.Goals as goal

pub returns-in-Some-clause-number : goal.returns-in-Some-clause-number
returns-in-Some-clause-number c =
    c.in-Some.ensures.index ∙ number_of_key c.self.inside.names.keys c.args.name.now ∙ ap (λ (named : Named). number_of named.names c.args.name.now) c.self.view_is

pub returns-in-Some-clause-found : goal.returns-in-Some-clause-found
returns-in-Some-clause-found c =
    number_says _ _ (Some c.in-Some.number) (subst (λ (named : Named). AreNamedJobs named.names named.jobs) c.self.view_is c.self.invariant) (returns-in-Some-clause-number c)

pub returns-in-None-clause-number : goal.returns-in-None-clause-number
returns-in-None-clause-number c =
    c.in-None.ensures.index ∙ number_of_key c.self.inside.names.keys c.args.name.now ∙ ap (λ (named : Named). number_of named.names c.args.name.now) c.self.view_is

pub returns-in-None-clause-found : goal.returns-in-None-clause-found
returns-in-None-clause-found c =
    number_says _ _ None (subst (λ (named : Named). AreNamedJobs named.names named.jobs) c.self.view_is c.self.invariant) (returns-in-None-clause-number c)
