-- What the parts of a document keep is all that the model asks of a document within the limits.
use Rattle.yds_model.proofs.Common.{ℕ, ◌<◌, ◌≤◌, List, [], ◌∷◌, take, take_all, refl, sym, subst, arith, inl, All, All-nil, All-append, All-head, All-tail, Level, all_members, Point, hull_multiple, IsPoint, ArePoints, AreLevelsOf}
use Rattle.base.specs.declared.limits.TheConstants.{MAX_GAPS}
use Rattle.yds_certificate.specs.Certificate.{IsCertificate}

no_gaps : (n : ℕ) → hull_multiple (take n []) ≤ MAX_GAPS
no_gaps n = subst (λ (l : List Point). hull_multiple l ≤ MAX_GAPS) (sym (take_all n [] (omega arith))) (omega arith)

-- no points at all
pub no_points_fit : ArePoints []
no_points_fit = record { few = omega arith; fit = All-nil IsPoint; table = inl refl; gaps_in_range = no_gaps }

known_members : (count : ℕ) (levels : List Level) → All (λ level. All (λ job. job < count) level.members) levels → All (λ job. job < count) (all_members levels)
known_members count [] known = All-nil _
known_members count (level ∷ levels) known =
    All-append (λ job. job < count) level.members (all_members levels) (All-head (λ level. All (λ job. job < count) level.members) level levels known)
    (known_members count levels (All-tail (λ level. All (λ job. job < count) level.members) level levels known))

-- the levels of a certificate whose members are all known
pub levels_fit : (count : ℕ) (levels : List Level) → IsCertificate levels → All (λ level. All (λ job. job < count) level.members) levels → AreLevelsOf count levels
levels_fit count levels kept known = record {
  few = kept.few;
  few_pieces = kept.few_pieces;
  few_members = kept.few_members;
  fit = kept.each;
  known = known_members count levels known;
}
