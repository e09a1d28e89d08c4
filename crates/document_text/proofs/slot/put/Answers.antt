use Rattle.yds_model.proofs.Common.{◌≡◌, ◌∷◌, ◌++◌, [], List, ℕ, ◌∙◌, ap, ap₂, append_assoc, refl, codes, name_at, fraction_text}
use Rattle.document_text.proofs.slot.put.Goals as goal

-- the end of a line after its last field, or after all of them, and a text after the line
in_parts : (kind name from to work rest : List ℕ) → kind ++ (32 ∷ (name ++ (32 ∷ (from ++ (32 ∷ (to ++ (32 ∷ (work ++ 10 ∷ rest))))))))
    ≡ ((kind ++ (32 ∷ (name ++ (32 ∷ (from ++ (32 ∷ (to ++ (32 ∷ work)))))))) ++ 10 ∷ []) ++ rest
in_parts kind name from to work rest = simp append_assoc refl

pub returns-clause-bytes : goal.returns-clause-bytes
returns-clause-bytes c =
    let slot = c.args.slot.now in
    let numbers = c.put.ensures.bytes ∙ ap (λ end. 32 ∷ (fraction_text slot.from ++ (32 ∷ (fraction_text slot.to ++ (32 ∷ (fraction_text slot.work ++ end)))))) c.put_byte.ensures in
    let named = c.name_of.ensures.name ∙ ap (λ s. name_at c.args.instance.now.names s.job) c.slot.view_is in
    c.put_kind.ensures ∙ ap (λ rest. codes "slot" ++ rest) (c.put_field.ensures.bytes ∙ ap₂ (λ name rest. 32 ∷ (name ++ rest)) named numbers)
    ∙ in_parts (codes "slot") (name_at c.args.instance.now.names slot.job) (fraction_text slot.from) (fraction_text slot.to) (fraction_text slot.work) c.args.text.now
