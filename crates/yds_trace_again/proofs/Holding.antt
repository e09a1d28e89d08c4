-- A text stands within another one; so does each late job's comment in the text of a document.
use Rattle.yds_model.proofs.Common.{ℕ, zero, suc, ◌<◌, List, [], ◌∷◌, ◌++◌, length, get_or, flat_map, sym, ap, ◌∙◌, arith, append_assoc, append-nil}
use Rattle.yds_trace_text.specs.Text.{late_comment}
use Rattle.yds_trace_again.specs.Holds.{Holds}
use Rattle.yds_trace_again.specs.Laws.{LateJobsAreNamed}

pub on_the_left : (text more part : List ℕ) → Holds text part → Holds (text ++ more) part
on_the_left text more part held = record {
  before = held.before;
  behind = held.behind ++ more;
  is = ap (λ (one : List ℕ). one ++ more) held.is ∙ append_assoc (held.before ++ part) held.behind more;
}

pub on_the_right : (front text part : List ℕ) → Holds text part → Holds (front ++ text) part
on_the_right front text part held = record {
  before = front ++ held.before;
  behind = held.behind;
  is = ap (λ (one : List ℕ). front ++ one) held.is ∙ sym (append_assoc front (held.before ++ part) held.behind)
      ∙ ap (λ (one : List ℕ). one ++ held.behind) (sym (append_assoc front held.before part));
}

here : (part : List ℕ) → Holds part part
here part = record { before = []; behind = []; is = sym (append-nil part) }

pub in_each : {X : Type 0} (told : X → List ℕ) (all : List X) (i : ℕ) (d : X) → i < length all → Holds (flat_map told all) (told (get_or all i d))
in_each told [] i d within = absurd (omega arith)
in_each told (one ∷ all) zero d within = on_the_left (told one) (flat_map told all) (told one) (here (told one))
in_each told (one ∷ all) (suc i) d within = on_the_right (told one) (flat_map told all) (told (get_or all i d)) (in_each told all i d (omega arith))

-- the law
pub late_jobs_are_named : LateJobsAreNamed
late_jobs_are_named asked settled i d within =
    on_the_right _ _ _ (on_the_left _ _ _ (on_the_left _ _ _ (on_the_left _ _ _ (on_the_left _ _ _ (on_the_left _ _ _ (on_the_left _ _ _ (on_the_left _ _ _ (on_the_left _ _ _
    (in_each (late_comment settled.units) settled.judged i d within)))))))))
