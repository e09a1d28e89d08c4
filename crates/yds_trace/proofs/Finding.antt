-- Which task a thread is, in code and in the definitions.
use Rattle.base.proofs.Common.{◌≡◌, ℕ, ◌+◌, List, [], ◌∷◌, map, Bool, not, cond, nat_lt, Some, None, position, refl, ap, ap₂, sym, length-map}
use Rattle.std.specs.List.{prefix_len}
use Rattle.yds_kernel.specs.Event.{Happening, Switch, WakeUp, Speed, Loss, Marker, Other}
use Rattle.yds_trace.specs.Asked.{Task}
use Rattle.yds_trace.specs.Finding.{first_found, second_found, whose_found}
use Rattle.yds_trace.specs.Steps.{first_in, second_in}

prefix_len_map : {A B : Type 0} (f : A → B) (p : B → Bool) (xs : List A) → prefix_len (λ x. p (f x)) xs ≡ prefix_len p (map f xs)
prefix_len_map f p [] = refl
prefix_len_map f p (x ∷ xs) = ap (λ n. cond (p (f x)) (1 + n) 0) (prefix_len_map f p xs)

pub position_map : {A B : Type 0} (f : A → B) (p : B → Bool) (xs : List A) → position (λ x. p (f x)) xs ≡ position p (map f xs)
position_map f p xs =
    ap₂ (λ (place len : ℕ). cond (nat_lt place len) (Some place) None) (prefix_len_map f (λ y. not (p y)) xs) (sym (length-map xs f))

-- # Who it is

pub first_is : (tasks : List Task) (happening : Happening) → whose_found (first_found tasks happening) ≡ first_in tasks happening
first_is tasks (Switch previous state next) = refl
first_is tasks (WakeUp thread starts) = refl
first_is tasks (Speed processor khz) = refl
first_is tasks Loss = refl
first_is tasks Marker = refl
first_is tasks Other = refl

pub second_is : (tasks : List Task) (happening : Happening) → whose_found (second_found tasks happening) ≡ second_in tasks happening
second_is tasks (Switch previous state next) = refl
second_is tasks (WakeUp thread starts) = refl
second_is tasks (Speed processor khz) = refl
second_is tasks Loss = refl
second_is tasks Marker = refl
second_is tasks Other = refl
