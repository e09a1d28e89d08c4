-- What a run leaves of a trace.
use Rattle.yds_model.proofs.Common.{◌≡◌, ◌≢◌, ℕ, ◌⊎◌, inl, inr, List, [], Option, Some, None, refl, sym, subst, ◌∙◌}
use Rattle.std.specs.Prelude.{IfSome}
use Rattle.base.specs.declared.status.Status.{Status}
use Rattle.base.specs.declared.status.Status.TheVariants as statuses
use Rattle.yds_trace_reading.specs.declared.stopped.Stopped.{Stopped}
use Rattle.yds_trace_reading.specs.declared.stopped.Stopped.TheVariants as stops
use Rattle.yds_trace_reading.specs.Reading.{IsReadOut}
use Rattle.yds_trace_run.specs.Endings.{Leaves, stopped_status}

-- The trace was read whole.
pub leaves_nothing : (input left : Option (List ℕ)) (ended : Status) (faults_before faults_now : ℕ) → IfSome input (λ bytes. left ≡ Some [])
    → IfSome input (λ bytes. Leaves ended bytes left faults_before faults_now)
leaves_nothing None left ended faults_before faults_now none = tt
leaves_nothing (Some bytes) left statuses.Done faults_before faults_now none = none
leaves_nothing (Some bytes) left statuses.Refused faults_before faults_now none = inl none
leaves_nothing (Some bytes) left statuses.No faults_before faults_now none = tt
leaves_nothing (Some bytes) left statuses.Usage faults_before faults_now none = tt
leaves_nothing (Some bytes) left statuses.ReadFault faults_before faults_now none = tt
leaves_nothing (Some bytes) left statuses.WriteFault faults_before faults_now none = tt
leaves_nothing (Some bytes) left statuses.Memory faults_before faults_now none = tt

-- It wasn't read to what is known at its end.
pub not_done : (stopped : Stopped) (ended : Status) → (ended ≡ stopped_status stopped) ⊎ (ended ≡ statuses.WriteFault) → ended ≢ statuses.Done
not_done stopped ended (inr write) done = let both : statuses.Done ≡ statuses.WriteFault = sym done ∙ write in absurd cc
not_done (stops.InForm number fault) ended (inl same) done = let both : statuses.Done ≡ statuses.Refused = sym done ∙ same in absurd cc
not_done (stops.AtLine number cause) ended (inl same) done = let both : statuses.Done ≡ statuses.Refused = sym done ∙ same in absurd cc
not_done stops.NoFirst ended (inl same) done = let both : statuses.Done ≡ statuses.Refused = sym done ∙ same in absurd cc
not_done stops.TooLong ended (inl same) done = let both : statuses.Done ≡ statuses.Refused = sym done ∙ same in absurd cc
not_done stops.ReadFault ended (inl same) done = let both : statuses.Done ≡ statuses.ReadFault = sym done ∙ same in absurd cc
not_done stops.Memory ended (inl same) done = let both : statuses.Done ≡ statuses.Memory = sym done ∙ same in absurd cc

leaves_out : (bytes : List ℕ) (left : Option (List ℕ)) (ended : Status) (faults_before faults_now : ℕ) → ended ≢ statuses.Done → IsReadOut bytes left faults_before faults_now
    → Leaves ended bytes left faults_before faults_now
leaves_out bytes left statuses.Done faults_before faults_now other out = absurd (other refl)
leaves_out bytes left statuses.Refused faults_before faults_now other out = out
leaves_out bytes left statuses.No faults_before faults_now other out = tt
leaves_out bytes left statuses.Usage faults_before faults_now other out = tt
leaves_out bytes left statuses.ReadFault faults_before faults_now other out = tt
leaves_out bytes left statuses.WriteFault faults_before faults_now other out = tt
leaves_out bytes left statuses.Memory faults_before faults_now other out = tt

pub leaves_as_stopped : (input left : Option (List ℕ)) (stopped : Stopped) (ended : Status) (faults_before faults_now : ℕ) → (ended ≡ stopped_status stopped) ⊎ (ended ≡ statuses.WriteFault)
    → IfSome input (λ bytes. IsReadOut bytes left faults_before faults_now) → IfSome input (λ bytes. Leaves ended bytes left faults_before faults_now)
leaves_as_stopped None left stopped ended faults_before faults_now said out = tt
leaves_as_stopped (Some bytes) left stopped ended faults_before faults_now said out = leaves_out bytes left ended faults_before faults_now (not_done stopped ended said) out

-- It wasn't read to its end, but read out.
pub leaves_read_out : (input left : Option (List ℕ)) (ended : Status) (faults_before faults_now : ℕ) → ended ≢ statuses.Done
    → IfSome input (λ bytes. IsReadOut bytes left faults_before faults_now) → IfSome input (λ bytes. Leaves ended bytes left faults_before faults_now)
leaves_read_out None left ended faults_before faults_now other out = tt
leaves_read_out (Some bytes) left ended faults_before faults_now other out = leaves_out bytes left ended faults_before faults_now other out

-- A write failed.
pub leaves_failed : (input left : Option (List ℕ)) (ended : Status) (faults_before faults_now : ℕ) → ended ≡ statuses.WriteFault
    → IfSome input (λ bytes. Leaves ended bytes left faults_before faults_now)
leaves_failed None left ended faults_before faults_now failed = tt
leaves_failed (Some bytes) left ended faults_before faults_now failed = subst (λ (one : Status). Leaves one bytes left faults_before faults_now) (sym failed) tt
