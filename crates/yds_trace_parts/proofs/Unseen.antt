-- What was written of each processor, of which lines tell or not, and the last of all of it.
use Rattle.base.proofs.Common.{◌≡◌, ℕ, ◌+◌, ◌≤◌, ◌||◌, Bool, true, false, List, [], ◌∷◌, map, max, list_any, Option, Some, None, refl, sym, ap, ap₂, subst, ◌∙◌, arith, add-one, if◌then◌else◌}
use Rattle.yds_kernel.specs.Event.{Said}
use Rattle.yds_trace.specs.declared.cut.Cut.{Cut}
use Rattle.yds_trace.specs.declared.fault.Cause.TheVariants as causes
use Rattle.yds_trace.specs.Asked.{Asked}
use Rattle.yds_trace.specs.Past.{next_processor, processor_count}
use Rattle.yds_trace.specs.Parts.{changes_parts, changes_one, first_numbers, processors_of, watched_of, part_fault, parts_fault}
use Rattle.yds_trace.proofs.OnProcessor.{changes_parts_on}
use Rattle.yds_trace_parts.specs.declared.processors.Processor.{Processor}
use Rattle.yds_trace_parts.specs.Telling.{each_of, cut_on, told_on, IsUnseen, cuts_of, IsLatest, NoneEndsBefore, IsWritten}
use Rattle.yds_trace_parts.proofs.Numbers.{alike, none_more}
use Rattle.yds_trace_parts.proofs.Placed.{any_push}

-- # Which processors there are

pub numbers_where : (asked : Asked) (past : List Said) → asked.everywhere ≡ true → processors_of asked past ≡ first_numbers (processor_count past)
numbers_where asked past is = ap (λ (b : Bool). if b then first_numbers (processor_count past) else asked.processor ∷ []) is

pub one_where : (asked : Asked) (past : List Said) → asked.everywhere ≡ false → processors_of asked past ≡ asked.processor ∷ []
one_where asked past is = ap (λ (b : Bool). if b then first_numbers (processor_count past) else asked.processor ∷ []) is

pub more_processors : (past : List Said) (said : Said) → processor_count past ≤ processor_count (said ∷ past)
more_processors past said = let all : processor_count past ≤ max (next_processor said) (processor_count past) = omega arith in all

-- # Their cuts

abbrev pub cut_in : Processor → Cut
cut_in one = one.cut

pub cuts_are : (asked : Asked) (past : List Said) (numbers : List ℕ) → map cut_in (map (told_on asked past) numbers) ≡ map (cut_on asked past) numbers
cuts_are asked past [] = refl
cuts_are asked past (number ∷ numbers) = ap (λ (cuts : List Cut). cut_on asked past number ∷ cuts) (cuts_are asked past numbers)

any_map : (test : Cut → Bool) (cuts : ℕ → Cut) (numbers : List ℕ) → list_any test (map cuts numbers) ≡ list_any (λ number. test (cuts number)) numbers
any_map test cuts [] = refl
any_map test cuts (number ∷ numbers) = ap (λ (b : Bool). test (cuts number) || b) (any_map test cuts numbers)

any_told : (test : Cut → Bool) (asked : Asked) (past : List Said) (numbers : List ℕ) →
    list_any test (map cut_in (map (told_on asked past) numbers)) ≡ list_any (λ number. test (cut_on asked past number)) numbers
any_told test asked past numbers = ap (list_any test) (cuts_are asked past numbers) ∙ any_map test (cut_on asked past) numbers

-- # A line changes one of them just where it changes the last of all

any_on : (asked : Asked) (past : List Said) (said : Said) (numbers : List ℕ) →
    list_any (λ number. changes_parts asked past (cut_on asked past number) said) numbers ≡ changes_one asked past said numbers
any_on asked past said [] = refl
any_on asked past said (number ∷ numbers) =
    ap₂ (λ (b c : Bool). b || c) (sym (changes_parts_on asked number past (cut_on asked past number) said)) (any_on asked past said numbers)

swapped : (a b : Bool) → (a || b) ≡ (b || a)
swapped true true = refl
swapped true false = refl
swapped false true = refl
swapped false false = refl

-- the processors of which lines tell, and one of which none does
watched_are : (asked : Asked) (past : List Said) (said : Said) (cut : Cut) → asked.everywhere ≡ true →
    ((number : ℕ) → processor_count past ≤ number → cut_on asked past number ≡ cut) →
    (changes_parts asked past cut said || list_any (λ number. changes_parts asked past (cut_on asked past number) said) (first_numbers (processor_count past)))
    ≡ list_any (λ number. changes_parts asked past (cut_on asked past number) said) (watched_of asked (said ∷ past))
watched_are asked past said cut everywhere same =
    let test : ℕ → Bool = λ number. changes_parts asked past (cut_on asked past number) said in
    let count : ℕ = processor_count (said ∷ past) in
    let as_one : (number : ℕ) → processor_count past ≤ number → test number ≡ changes_parts asked past cut said =
    λ number beyond. ap (λ (one : Cut). changes_parts asked past one said) (same number beyond) in
    sym (alike test (changes_parts asked past cut said) (processor_count past) as_one count (more_processors past said))
    ∙ swapped (changes_parts asked past cut said) (list_any test (first_numbers count))
    ∙ ap (λ (b : Bool). list_any test (first_numbers count) || b) (sym (as_one count (more_processors past said)))
    ∙ sym (any_push test (first_numbers count) count)
    ∙ ap (λ (n : ℕ). list_any test (first_numbers n)) (sym (add-one count))
    ∙ ap (λ (b : Bool). list_any test (if b then first_numbers (count + 1) else asked.processor ∷ [])) (sym everywhere)

latest_by : (asked : Asked) (past : List Said) (said : Said) (unseen : Option Cut) (latest : Cut) → IsUnseen asked past unseen →
    IsLatest (cuts_of (map (told_on asked past) (processors_of asked past)) unseen) latest →
    changes_parts asked past latest said ≡ changes_one asked past said (watched_of asked (said ∷ past))
latest_by asked past said None latest one is =
    is asked past said
    ∙ any_told (λ cut. changes_parts asked past cut said) asked past (processors_of asked past)
    ∙ any_on asked past said (processors_of asked past)
    ∙ ap (changes_one asked past said) (one_where asked past one
    ∙ ap (λ (b : Bool). if b then first_numbers (processor_count (said ∷ past) + 1) else asked.processor ∷ []) (sym one))
latest_by asked past said (Some cut) latest unseen is =
    is asked past said
    ∙ ap (λ (b : Bool). changes_parts asked past cut said || b)
    (any_told (λ one. changes_parts asked past one said) asked past (processors_of asked past)
    ∙ ap (list_any (λ number. changes_parts asked past (cut_on asked past number) said)) (numbers_where asked past unseen.0))
    ∙ watched_are asked past said cut unseen.0 unseen.1
    ∙ any_on asked past said (watched_of asked (said ∷ past))

pub fault_same : (asked : Asked) (past : List Said) (said : Said) (time : ℕ) (processors : List Processor) (unseen : Option Cut) (latest : Cut) →
    IsWritten asked past past time processors unseen latest → part_fault asked past latest said ≡ parts_fault asked past said
fault_same asked past said time processors unseen latest is =
    ap (λ (b : Bool). if b then Some causes.PartWritten else None)
    (latest_by asked past said unseen latest is.unseen_is (subst (λ (ones : List Processor). IsLatest (cuts_of ones unseen) latest) is.processors_are is.latest_is))

-- # A line tells of more

-- none of those that are new was written of
latest_more : (asked : Asked) (past seen : List Said) (cut latest : Cut) → asked.everywhere ≡ true → processor_count past ≤ processor_count seen →
    ((number : ℕ) → processor_count past ≤ number → cut_on asked past number ≡ cut) →
    IsLatest (cuts_of (map (told_on asked past) (processors_of asked past)) (Some cut)) latest →
    IsLatest (cuts_of (map (told_on asked past) (processors_of asked seen)) (Some cut)) latest
latest_more asked past seen cut latest everywhere more same is = λ words lines line.
    let test : Cut → Bool = λ one. changes_parts words lines one line in
    is words lines line
    ∙ ap (λ (b : Bool). test cut || b) (any_told test asked past (processors_of asked past)
    ∙ ap (list_any (λ number. test (cut_on asked past number))) (numbers_where asked past everywhere))
    ∙ sym (alike (λ number. test (cut_on asked past number)) (test cut) (processor_count past) (λ number beyond. ap test (same number beyond)) (processor_count seen) more)
    ∙ ap (λ (b : Bool). test cut || b) (ap (list_any (λ number. test (cut_on asked past number))) (sym (numbers_where asked seen everywhere))
    ∙ sym (any_told test asked past (processors_of asked seen)))

before_more : (asked : Asked) (past seen : List Said) (time : ℕ) (cut : Cut) → asked.everywhere ≡ true → processor_count past ≤ processor_count seen →
    ((number : ℕ) → processor_count past ≤ number → cut_on asked past number ≡ cut) → time ≤ cut.boundary →
    NoneEndsBefore time (map cut_in (map (told_on asked past) (processors_of asked past))) →
    NoneEndsBefore time (map cut_in (map (told_on asked past) (processors_of asked seen)))
before_more asked past seen time cut everywhere more same later none =
    subst (NoneEndsBefore time) (sym (cuts_are asked past (processors_of asked seen) ∙ ap (map (cut_on asked past)) (numbers_where asked seen everywhere)))
    (none_more time (cut_on asked past) cut (processor_count past) same later
    (subst (NoneEndsBefore time) (cuts_are asked past (processors_of asked past) ∙ ap (map (cut_on asked past)) (numbers_where asked past everywhere)) none)
    (processor_count seen) more)

-- what `grow` makes of the processors
pub record IsGrown (old new : List Processor) (unseen : Option Cut) (count : ℕ) : Type 0 where
  pub same : unseen ≡ None → new ≡ old
  pub grown : (cut : Cut) (cuts : ℕ → Cut) (before : ℕ) → unseen ≡ Some cut → old ≡ each_of cuts before → ((number : ℕ) → before ≤ number → cuts number ≡ cut) →
      new ≡ each_of cuts (max count before)

grown_by : (asked : Asked) (past : List Said) (said : Said) (old new : List Processor) (unseen : Option Cut) → IsUnseen asked past unseen →
    IsGrown old new unseen (next_processor said) → old ≡ map (told_on asked past) (processors_of asked past) →
    new ≡ map (told_on asked past) (processors_of asked (said ∷ past))
grown_by asked past said old new None one grown is =
    grown.same refl ∙ is ∙ ap (map (told_on asked past)) (one_where asked past one ∙ sym (one_where asked (said ∷ past) one))
grown_by asked past said old new (Some cut) unseen grown is =
    grown.grown cut (cut_on asked past) (processor_count past) refl (is ∙ ap (map (told_on asked past)) (numbers_where asked past unseen.0)) unseen.1
    ∙ ap (map (told_on asked past)) (sym (numbers_where asked (said ∷ past) unseen.0))

latest_grown : (asked : Asked) (past : List Said) (said : Said) (unseen : Option Cut) (latest : Cut) → IsUnseen asked past unseen →
    IsLatest (cuts_of (map (told_on asked past) (processors_of asked past)) unseen) latest →
    IsLatest (cuts_of (map (told_on asked past) (processors_of asked (said ∷ past))) unseen) latest
latest_grown asked past said None latest one is =
    subst (λ (numbers : List ℕ). IsLatest (map cut_in (map (told_on asked past) numbers)) latest) (one_where asked past one ∙ sym (one_where asked (said ∷ past) one)) is
latest_grown asked past said (Some cut) latest unseen is = latest_more asked past (said ∷ past) cut latest unseen.0 (more_processors past said) unseen.1 is

before_grown : (asked : Asked) (past : List Said) (said : Said) (time : ℕ) (unseen : Option Cut) → IsUnseen asked past unseen →
    NoneEndsBefore time (cuts_of (map (told_on asked past) (processors_of asked past)) unseen) →
    NoneEndsBefore time (cuts_of (map (told_on asked past) (processors_of asked (said ∷ past))) unseen)
before_grown asked past said time None one none =
    subst (λ (numbers : List ℕ). NoneEndsBefore time (map cut_in (map (told_on asked past) numbers))) (one_where asked past one ∙ sym (one_where asked (said ∷ past) one)) none
before_grown asked past said time (Some cut) unseen none =
    (none.0, before_more asked past (said ∷ past) time cut unseen.0 (more_processors past said) unseen.1 none.0 none.1)

-- What was written of all processors, with those of which a line more tells.
pub written_grown : (asked : Asked) (past : List Said) (said : Said) (time : ℕ) (old new : List Processor) (unseen : Option Cut) (latest : Cut) →
    IsWritten asked past past time old unseen latest → IsGrown old new unseen (next_processor said) → IsWritten asked past (said ∷ past) time new unseen latest
written_grown asked past said time old new unseen latest is grown =
    let are : new ≡ map (told_on asked past) (processors_of asked (said ∷ past)) = grown_by asked past said old new unseen is.unseen_is grown is.processors_are in
    record {
      processors_are = are;
      unseen_is = is.unseen_is;
      latest_is = subst (λ (ones : List Processor). IsLatest (cuts_of ones unseen) latest) (sym are)
          (latest_grown asked past said unseen latest is.unseen_is (subst (λ (ones : List Processor). IsLatest (cuts_of ones unseen) latest) is.processors_are is.latest_is));
      later = (
        is.later.0,
        subst (λ (ones : List Processor). NoneEndsBefore time (cuts_of ones unseen)) (sym are)
            (before_grown asked past said time unseen is.unseen_is (subst (λ (ones : List Processor). NoneEndsBefore time (cuts_of ones unseen)) is.processors_are is.later.1)),
      );
    }
