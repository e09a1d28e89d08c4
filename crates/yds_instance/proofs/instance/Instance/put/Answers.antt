use Rattle.yds_model.proofs.Common.{◌≡◌, ◌<◌, ◌∷◌, [], ◌++◌, None, Some, false, Bool, List, Bor, ℕ, if◌then◌else◌, sym, ap, ◌∙◌, subst, length, list_any, bytes_eq, map-append, length-map, IsJob, Job}
use Rattle.base.specs.declared.limits.TheConstants.{MAX_JOBS}
use Rattle.yds_instance.specs.Named.{Named, number_of}
use Rattle.yds_instance.proofs.Names.{named_pushed, number_of_none, number_of_some, place_of_none, added_none, added_some, texts}
use Rattle.yds_instance.proofs.instance.Instance.put.Goals as goal

pub returns-then-not-is_new-clause-duplicate : goal.returns-then-not-is_new-clause-duplicate
returns-then-not-is_new-clause-duplicate c = λ earlier is.
    let keys = c.self.inside.names.keys in
    let name = c.args.name.now in
    ap (λ (named : Named). number_of named.names name) (sym (c.self.view_is ∙ c.in_ok-make_room.ensures.same))
    ∙ number_of_some keys name (added_some keys name _ c.in_ok-number.ensures.added c.if-not-is_new.true)
    ∙ ap Some (sym c.in_ok-number.ensures.index) ∙ (cc)

held : (c : goal.After-push_reserved) → list_any (λ key. bytes_eq c.args.name.now key.now) c.self.inside.names.keys ≡ false
held c = added_none c.self.inside.names.keys c.args.name.now _ c.in_ok-number.ensures.added c.if-not-is_new.false

is_new : (c : goal.After-push_reserved) → number_of (texts c.self.inside.names.keys) c.args.name.now ≡ None
is_new c = number_of_none c.self.inside.names.keys c.args.name.now (held c)

names_grow : (c : goal.After-push_reserved) → texts c.insert_full.new.self.keys ≡ texts c.self.inside.names.keys ++ c.args.name.now ∷ []
names_grow c =
    ap texts (c.in_ok-number.ensures.keys ∙ ap (λ (b : Bool). if b then c.self.inside.names.keys else c.self.inside.names.keys ++ c.args.name ∷ []) (held c))
    ∙ map-append _ _ _

rows_grow : (c : goal.After-push_reserved) → c.push_reserved.new.self.items ≡ c.self.inside.rows.items ++ c.args.row ∷ []
rows_grow c = c.push_reserved.ensures.items ∙ ap (λ (xs : List Job). xs ++ c.args.row ∷ []) c.in_ok-reserve.ensures.items

pub invariant_of-self-2 : goal.invariant_of-self-2
invariant_of-self-2 c =
    let room : length c.self.inside.rows.items < MAX_JOBS = subst (λ (n : Named). length n.jobs < MAX_JOBS) (sym (c.self.view_is ∙ c.in_ok-make_room.ensures.same)) c.requires.room in
    rw (names_grow c, rows_grow c) (named_pushed _ _ _ _ c.self.invariant room c.requires.named (subst IsJob c.row.view_is c.row.invariant) (is_new c))

pub returns-clause-number : goal.returns-clause-number
returns-clause-number c =
    let keys = c.self.inside.names.keys in
    let one_each : length (texts keys) ≡ length c.self.inside.rows.items = c.self.invariant.one_name_each in
    c.in_ok-number.ensures.index ∙ place_of_none keys c.args.name.now (held c) ∙ sym (length-map keys (λ (key : Bor (List ℕ)). key.now)) ∙ one_each
    ∙ ap (λ (named : Named). length named.jobs) (c.self.view_is ∙ c.in_ok-make_room.ensures.same)

pub returns-clause-new : goal.returns-clause-new
returns-clause-new c = ap (λ (named : Named). number_of named.names c.args.name.now) (sym (c.self.view_is ∙ c.in_ok-make_room.ensures.same)) ∙ is_new c
