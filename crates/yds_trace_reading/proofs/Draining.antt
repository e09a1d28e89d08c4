-- What is left of a source behind the end of a reading.
use Rattle.base.proofs.Common.{◌≡◌, ℕ, ◌+◌, ◌^◌, ◌≤◌, inl, inr, List, [], length, take, Option, Some, None, ap, subst, arith, le_refl, length-append, length-take-le, Consumes}
use Rattle.std.specs.Prelude.{⊤, IfSome}
use Rattle.std.specs.Io.KnownBytes.{Keeps, IsAtEnd}
use Rattle.yds_port.specs.Count.{Rose}
use Rattle.yds_kernel_text.specs.Advancing.{Counts}
use Rattle.yds_trace_reading.specs.Reading.{IsRest, IsReadOut}

-- # Behind some lines

pub rest_same : (left : Option (List ℕ)) → IsRest left left
rest_same None = tt
rest_same (Some bytes) = le_refl (length bytes)

pub rest_of : (input left : Option (List ℕ)) (taken : ℕ) → Counts input left 0 taken → IsRest input left
rest_of None left taken counts = tt
rest_of (Some bytes) None taken counts = absurd counts
rest_of (Some bytes) (Some rest) taken counts = omega (arith, counts)

-- # Behind some reads

-- No more is left of the input than it has, less so many bytes.
abbrev pub IsBehind : Option (List ℕ) → Option (List ℕ) → ℕ → Type 0
IsBehind None now count = ⊤
IsBehind (Some input) None count = ⊥
IsBehind (Some input) (Some rest) count = length rest + count ≤ length input

pub behind_nothing : (left : Option (List ℕ)) → IsBehind left left 0
behind_nothing None = tt
behind_nothing (Some bytes) = omega arith

pub behind_a_read : (input before now : Option (List ℕ)) (piece : List ℕ) (n count : ℕ) → IsBehind input before count → Consumes before now (take n piece) → 1 ≤ n → n ≤ length piece
    → IsBehind input now (count + 1)
behind_a_read None before now piece n count behind consumed some within = tt
behind_a_read (Some bytes) None now piece n count behind consumed some within = absurd behind
behind_a_read (Some bytes) (Some rest) None piece n count behind consumed some within = absurd consumed
behind_a_read (Some bytes) (Some rest) (Some more) piece n count behind consumed some within =
    omega (arith, behind, some, ap length consumed, length-append (take n piece) more, length-take-le n piece within)

pub read_to_end : (input before now : Option (List ℕ)) (count faults_before faults_now : ℕ) → IsBehind input before count → Keeps before now → IsAtEnd now
    → IfSome input (λ bytes. IsReadOut bytes now faults_before faults_now)
read_to_end None before now count faults_before faults_now behind kept over = tt
read_to_end (Some bytes) None now count faults_before faults_now behind kept over = absurd behind
read_to_end (Some bytes) (Some rest) None count faults_before faults_now behind kept over = absurd kept
read_to_end (Some bytes) (Some rest) (Some more) count faults_before faults_now behind kept over = inl (ap Some over)

pub read_to_a_fault : (input now : Option (List ℕ)) (faults_before faults_between faults_now : ℕ) → faults_between ≡ faults_before → Rose faults_between faults_now
    → IfSome input (λ bytes. IsReadOut bytes now faults_before faults_now)
read_to_a_fault None now faults_before faults_between faults_now same rose = tt
read_to_a_fault (Some bytes) now faults_before faults_between faults_now same rose = inr (inl (subst (λ (faults : ℕ). Rose faults faults_now) same rose))

pub read_as_much : (input now : Option (List ℕ)) (count faults_before faults_now : ℕ) → IsBehind input now count → 2 ^ 64 ≤ count + 1
    → IfSome input (λ bytes. IsReadOut bytes now faults_before faults_now)
read_as_much None now count faults_before faults_now behind much = tt
read_as_much (Some bytes) None count faults_before faults_now behind much = absurd behind
read_as_much (Some bytes) (Some rest) count faults_before faults_now behind much = inr (inr (omega (arith, behind, much)))

-- # Lines, and then reads

later_rose : (first second third : ℕ) → first ≤ second → Rose second third → Rose first third
later_rose first second third later rose = (omega (arith, later, rose.0), omega (arith, later, rose.1))

pub read_out_behind : (input before now : Option (List ℕ)) (first second third : ℕ) → IsRest input before → first ≤ second
    → IfSome before (λ rest. IsReadOut rest now second third) → IfSome input (λ bytes. IsReadOut bytes now first third)
read_out_behind None before now first second third rest later out = tt
read_out_behind (Some bytes) None now first second third rest later out = absurd rest
read_out_behind (Some bytes) (Some held) now first second third rest later (inl none) = inl none
read_out_behind (Some bytes) (Some held) now first second third rest later (inr (inl rose)) = inr (inl (later_rose first second third later rose))
read_out_behind (Some bytes) (Some held) now first second third rest later (inr (inr much)) = inr (inr (omega (arith, rest, much)))

pub read_out_whole : (input now : Option (List ℕ)) (faults_before faults_now : ℕ) → IfSome input (λ bytes. now ≡ Some [])
    → IfSome input (λ bytes. IsReadOut bytes now faults_before faults_now)
read_out_whole None now faults_before faults_now none = tt
read_out_whole (Some bytes) now faults_before faults_now none = inl none
