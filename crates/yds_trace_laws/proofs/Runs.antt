-- The runs of stretches: each is some of them, and each stretch that ends in a later unit of time is in one.
use Rattle.yds_model.proofs.Common.{All, Contains, get_or, ◌≡◌, ℕ, ◌<◌, ◌⊎◌, inl, inr, ◌==◌, ◌&&◌, List, [], ◌∷◌, ◌++◌, reverse, true, nat_lt, refl, sym, ap₂, subst, ◌∙◌, arith, and_parts, cond_both, eqb-true, ltb-true, ltb-false, reverse-append}
use Rattle.std.specs.List.{AllByRecursion}
use Rattle.yds_trace.specs.declared.job.Stretch.{Stretch}
use Rattle.yds_trace.specs.WrittenTime.{Units, Run, run_of, before, runs_of}
use Rattle.yds_trace_laws.specs.Faithful.{IsRounded, IsWithinRun}
use Rattle.yds_trace_laws.proofs.Ordered.{append-all, append-all_left, append-all_right}

-- # Lists

pub all_weaker : {A : Type 0} (P Q : A → Type 0) → ((x : A) → P x → Q x) → (xs : List A) → AllByRecursion P xs → AllByRecursion Q xs
all_weaker P Q each [] all = tt
all_weaker P Q each (x ∷ xs) all = (each x all.0, all_weaker P Q each xs all.1)

pub reverse-all : {A : Type 0} (P : A → Type 0) (xs : List A) → AllByRecursion P xs → AllByRecursion P (reverse xs)
reverse-all P [] all = tt
reverse-all P (x ∷ xs) all =
    subst (AllByRecursion P) (sym (reverse-append (x ∷ []) xs)) (append-all P (reverse xs) (x ∷ []) (reverse-all P xs all.1) (all.0, tt))

pub reverse-all_back : {A : Type 0} (P : A → Type 0) (xs : List A) → AllByRecursion P (reverse xs) → AllByRecursion P xs
reverse-all_back P [] all = tt
reverse-all_back P (x ∷ xs) all =
    let parts : AllByRecursion P (reverse xs ++ x ∷ []) = subst (AllByRecursion P) (reverse-append (x ∷ []) xs) all in
    ((append-all_right P (reverse xs) (x ∷ []) parts).0, reverse-all_back P xs (append-all_left P (reverse xs) (x ∷ []) parts))

pub contained : {A : Type 0} (P : A → Type 0) (xs : List A) (x : A) → Contains xs x → All P xs → P x
contained P xs x has all = subst P has.2 (all has.0 x has.1)

-- what holds of each of a list holds of some of them
pub each_of_these : {A : Type 0} (P : A → Type 0) (xs ys : List A) → All (Contains xs) ys → All P xs → All P ys
each_of_these P xs ys are all k d within = contained P xs (get_or ys k d) (are k d within) all

-- # Each run takes time

-- it ends in a later unit of time than it begins
abbrev pub IsForward : Run → Type 0
IsForward run = run.from < run.to

forward_before : (run : Run) (runs : List Run) → IsForward run → AllByRecursion IsForward runs → AllByRecursion IsForward (before run runs)
forward_before run [] first rest = (first, tt)
forward_before run (next ∷ runs) first rest =
    cond_both ((run.to == next.from) && (run.speed == next.speed)) (record { from = run.from; to = next.to; speed = run.speed } ∷ runs) (run ∷ next ∷ runs)
    (AllByRecursion IsForward)
    (λ meet. (omega (arith, first, rest.0, eqb-true run.to next.from (and_parts (run.to == next.from) (run.speed == next.speed) meet).0), rest.1))
    (λ apart. (first, rest))

pub runs_forward : (units : Units) (stretches : List Stretch) → AllByRecursion IsForward (runs_of units stretches)
runs_forward units [] = tt
runs_forward units (stretch ∷ stretches) =
    cond_both (nat_lt (run_of units stretch).from (run_of units stretch).to) (before (run_of units stretch) (runs_of units stretches)) (runs_of units stretches)
    (AllByRecursion IsForward)
    (λ takes. forward_before (run_of units stretch) (runs_of units stretches) (ltb-true (run_of units stretch).from (run_of units stretch).to takes) (runs_forward units stretches))
    (λ none. runs_forward units stretches)

-- # Each run is some stretches

-- a run that is stretches of which each has Q
pub record IsRunOf (units : Units) (Q : Stretch → Type 0) (run : Run) : Type 0 where
  pub stretches : List Stretch
  pub each : AllByRecursion Q stretches
  pub rounded : IsRounded units run stretches

one_more : (units : Units) (stretch : Stretch) (next : Run) (stretches : List Stretch) → (run_of units stretch).to ≡ next.from → (run_of units stretch).speed ≡ next.speed →
    IsRounded units next stretches → IsRounded units (record { from = (run_of units stretch).from; to = next.to; speed = (run_of units stretch).speed }) (stretch ∷ stretches)
one_more units stretch next [] meet same rounded = absurd rounded
one_more units stretch next (first ∷ more) meet same rounded =
    let begins : next ≡ record { from = (run_of units stretch).to; to = next.to; speed = (run_of units stretch).speed } =
    ap₂ (λ (from speed : ℕ). record { from = from; to = next.to; speed = speed }) (sym meet) (sym same) in
    (refl, refl, subst (λ (run : Run). IsRounded units run (first ∷ more)) begins rounded)

run_before : (units : Units) (Q : Stretch → Type 0) (stretch : Stretch) (runs : List Run) → Q stretch → AllByRecursion (IsRunOf units Q) runs →
    AllByRecursion (IsRunOf units Q) (before (run_of units stretch) runs)
run_before units Q stretch [] has rest = (record { stretches = stretch ∷ []; each = (has, tt); rounded = refl }, tt)
run_before units Q stretch (next ∷ runs) has rest =
    let run : Run = run_of units stretch in
    cond_both ((run.to == next.from) && (run.speed == next.speed)) (record { from = run.from; to = next.to; speed = run.speed } ∷ runs) (run ∷ next ∷ runs)
    (AllByRecursion (IsRunOf units Q))
    (λ meet.
    let parts = and_parts (run.to == next.from) (run.speed == next.speed) meet in (
      record {
        stretches = stretch ∷ rest.0.stretches;
        each = (has, rest.0.each);
        rounded = one_more units stretch next rest.0.stretches (eqb-true run.to next.from parts.0) (eqb-true run.speed next.speed parts.1) rest.0.rounded;
      },
      rest.1,
    ))
    (λ apart. (record { stretches = stretch ∷ []; each = (has, tt); rounded = refl }, rest))

-- what is known of a stretch that takes time
abbrev pub WhereForward : Units → (Stretch → Type 0) → Stretch → Type 0
WhereForward units Q stretch = IsForward (run_of units stretch) → Q stretch

pub runs_are_stretches : (units : Units) (Q : Stretch → Type 0) (stretches : List Stretch) → AllByRecursion (WhereForward units Q) stretches →
    AllByRecursion (IsRunOf units Q) (runs_of units stretches)
runs_are_stretches units Q [] all = tt
runs_are_stretches units Q (stretch ∷ stretches) all =
    cond_both (nat_lt (run_of units stretch).from (run_of units stretch).to) (before (run_of units stretch) (runs_of units stretches)) (runs_of units stretches)
    (AllByRecursion (IsRunOf units Q))
    (λ takes. run_before units Q stretch (runs_of units stretches) (all.0 (ltb-true (run_of units stretch).from (run_of units stretch).to takes)) (runs_are_stretches units Q stretches all.1))
    (λ none. runs_are_stretches units Q stretches all.1)

-- # Each stretch is in a run

-- one of the runs has the stretch
abbrev pub IsInSome : Units → Stretch → List Run → Type 0
IsInSome units stretch [] = ⊥
IsInSome units stretch (run ∷ runs) = IsWithinRun units stretch run ⊎ IsInSome units stretch runs

itself : (units : Units) (stretch : Stretch) → IsWithinRun units stretch (run_of units stretch)
itself units stretch = record { not_before = omega arith; not_after = omega arith; same_speed = refl }

in_front : (units : Units) (stretch : Stretch) (runs : List Run) → AllByRecursion IsForward runs → IsInSome units stretch (before (run_of units stretch) runs)
in_front units stretch [] forward = inl (itself units stretch)
in_front units stretch (next ∷ runs) forward =
    let run : Run = run_of units stretch in
    cond_both ((run.to == next.from) && (run.speed == next.speed)) (record { from = run.from; to = next.to; speed = run.speed } ∷ runs) (run ∷ next ∷ runs)
    (IsInSome units stretch)
    (λ meet. inl (record {
      not_before = omega arith;
      not_after = omega (arith, forward.0, eqb-true run.to next.from (and_parts (run.to == next.from) (run.speed == next.speed) meet).0);
      same_speed = refl;
    }))
    (λ apart. inl (itself units stretch))

still_there : (units : Units) (stretch : Stretch) (run : Run) (runs : List Run) → IsForward run → IsInSome units stretch runs → IsInSome units stretch (before run runs)
still_there units stretch run [] forward there = absurd there
still_there units stretch run (next ∷ runs) forward there =
    cond_both ((run.to == next.from) && (run.speed == next.speed)) (record { from = run.from; to = next.to; speed = run.speed } ∷ runs) (run ∷ next ∷ runs)
    (IsInSome units stretch)
    (λ meet. joined (and_parts (run.to == next.from) (run.speed == next.speed) meet).0 (and_parts (run.to == next.from) (run.speed == next.speed) meet).1 there)
    (λ apart. inr there)
  where
    joined : (run.to == next.from) ≡ true → (run.speed == next.speed) ≡ true → IsWithinRun units stretch next ⊎ IsInSome units stretch runs →
        IsWithinRun units stretch (record { from = run.from; to = next.to; speed = run.speed }) ⊎ IsInSome units stretch runs
    joined meet same (inl within) = inl (record {
      not_before = omega (arith, forward, within.not_before, eqb-true run.to next.from meet);
      not_after = within.not_after;
      same_speed = within.same_speed ∙ sym (eqb-true run.speed next.speed same);
    })
    joined meet same (inr more) = inr more

abbrev HasRunAmong : Units → List Run → Stretch → Type 0
HasRunAmong units runs stretch = IsForward (run_of units stretch) → IsInSome units stretch runs

pub stretches_have_runs : (units : Units) (stretches : List Stretch) → AllByRecursion (λ stretch. IsForward (run_of units stretch) → IsInSome units stretch (runs_of units stretches)) stretches
stretches_have_runs units [] = tt
stretches_have_runs units (stretch ∷ stretches) =
    let runs : List Run = runs_of units stretches in
    cond_both (nat_lt (run_of units stretch).from (run_of units stretch).to) (before (run_of units stretch) runs) runs
    (λ (some : List Run). (HasRunAmong units some stretch) × AllByRecursion (HasRunAmong units some) stretches)
    (λ takes. (
      λ forward. in_front units stretch runs (runs_forward units stretches),
      all_weaker (HasRunAmong units runs) (HasRunAmong units (before (run_of units stretch) runs))
          (λ other has forward. still_there units other (run_of units stretch) runs (ltb-true (run_of units stretch).from (run_of units stretch).to takes) (has forward)) stretches
          (stretches_have_runs units stretches),
    ))
    (λ none. (
      λ forward. absurd (omega (arith, forward, ltb-false (run_of units stretch).from (run_of units stretch).to none)),
      stretches_have_runs units stretches,
    ))
