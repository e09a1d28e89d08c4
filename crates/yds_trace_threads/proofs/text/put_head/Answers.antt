use Rattle.base.proofs.Common.{◌≡◌, ◌∙◌, ◌++◌, List, ℕ, [], ◌∷◌, codes, decimal, sym, ap, append_assoc, append-nil}
use Rattle.yds_trace_threads.specs.Table.{told}
use Rattle.yds_trace_threads.proofs.text.put_head.Goals as goal

three : (text a b d : List ℕ) → text ++ a ++ b ++ d ≡ text ++ told (a ∷ b ∷ d ∷ [])
three text a b d =
    append_assoc (text ++ a) b d ∙ append_assoc text a (b ++ d) ∙ ap (λ (rest : List ℕ). text ++ (a ++ (b ++ rest))) (sym (append-nil d))

pub returns : goal.returns
returns c =
    c.in_ok-put-2.ensures
    ∙ ap (λ (text : List ℕ). text ++ codes "\n# pid\tran_ms\twake_ups\tswitches\tname\n")
    (c.in_ok-put_number.ensures ∙ ap (λ (text : List ℕ). text ++ decimal c.args.number) c.in_ok-put.ensures)
    ∙ three c.args.text.now.items (codes "threads ") (decimal c.args.number) (codes "\n# pid\tran_ms\twake_ups\tswitches\tname\n")
