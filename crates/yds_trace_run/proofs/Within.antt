-- What is asked within bounds, and what it has of what is asked without them.
use Rattle.yds_model.proofs.Common.{◌≡◌, ℕ, Option, Some, None, refl}
use Rattle.std.specs.Prelude.{IfSome, option_map}
use Rattle.yds_kernel.specs.Text.{Trace}
use Rattle.yds_trace.specs.Asked.{Asked}
use Rattle.yds_trace_bounds.specs.declared.bounds.Bounds.{Bounds}
use Rattle.yds_trace_bounds.specs.Bounds.{asked_from, first_of, asked_in}
use Rattle.yds_trace_words.specs.Request.{IsFit}
use Rattle.yds_trace_run.specs.Worth.{HoldsWithin}

-- What holds of it whenever the first event was holds of it.
pub within_holds : (Q : Asked → Type 0) (bounds : Bounds) (asked : Asked) (trace : Trace) → ((first : ℕ) → Q (asked_from first bounds asked)) → IfSome (asked_in bounds asked trace) Q
within_holds Q bounds asked trace each = by (first_of bounds trace)
  where
    by : (first : Option ℕ) → IfSome (option_map (λ (one : ℕ). asked_from one bounds asked) first) Q
    by None = tt
    by (Some first) = each first

-- Bounds say nothing of whether it is told in parts.
pub same_parts : (bounds : Bounds) (asked : Asked) (trace : Trace) → IfSome (asked_in bounds asked trace) (λ within. within.in_parts ≡ asked.in_parts)
same_parts bounds asked trace = within_holds (λ within. within.in_parts ≡ asked.in_parts) bounds asked trace (λ first. refl)

pub fit_within : (bounds : Bounds) (asked : Asked) (trace : Trace) → ((first : ℕ) → IsFit (asked_from first bounds asked)) → IfSome (asked_in bounds asked trace) IsFit
fit_within bounds asked trace fit = within_holds IsFit bounds asked trace fit

-- what holds besides, whatever is asked
pub besides : (A : Type 0) (Q : Asked → Type 0) (within : Option Asked) → HoldsWithin within (λ one. Q one × A) → A
besides A Q None holds = absurd holds
besides A Q (Some one) holds = holds.1
