use Rattle.yds_model.proofs.Common.{◌≡◌, ◌∙◌, ◌<◌, [], sym, subst, ap, ℕ, List, Bor, length, arith, slice_index_or, bytes_eq-Decides, length-map, name_at}
use Rattle.yds_instance.specs.Named.{Named, number_of}
use Rattle.yds_instance.proofs.Names.{number_at, named_at, name_of_key, texts}
use Rattle.yds_instance.proofs.instance.Instance.find_at_once.Goals as goal

within : (c : goal.Then-eq) → c.number_at_end-number.result < length c.self.inside.names.keys
within c = subst (λ (keys : List (Bor (List ℕ))). c.number_at_end-number.result < length keys) c.as_slice-names.ensures.keys c.if-number-names.true

is_there : (c : goal.Then-eq) → name_at (texts c.self.inside.names.keys) c.number_at_end-number.result ≡ c.args.name.now
is_there c =
    name_of_key c.self.inside.names.keys c.number_at_end-number.result _ (within c)
    ∙ ap (λ (keys : List (Bor (List ℕ))). (slice_index_or keys c.number_at_end-number.result (record { ref_ptr = (0, 0); now = [] })).now) (sym c.as_slice-names.ensures.keys)
    ∙ sym c.as_bytes.ensures.value ∙ (bytes_eq-Decides c.as_bytes.result.now c.args.name.now).0 (sym c.eq.ensures ∙ c.if-eq.true)

named : (c : goal.Then-eq) → c.number_at_end-number.result < length (texts c.self.inside.names.keys)
named c = omega (arith, within c, length-map c.self.inside.names.keys (λ (key : Bor (List ℕ)). key.now))

pub returns-then-eq-clause-number : goal.returns-then-eq-clause-number
returns-then-eq-clause-number c =
    ap (λ (named : Named). number_of named.names c.args.name.now) (sym c.self.view_is)
    ∙ number_at (texts c.self.inside.names.keys) c.args.name.now _ c.self.invariant.different (named c) (is_there c)

pub returns-then-eq-clause-named : goal.returns-then-eq-clause-named
returns-then-eq-clause-named c = named_at (texts c.self.inside.names.keys) _ c.args.name.now _ c.self.invariant (named c) (is_there c)
