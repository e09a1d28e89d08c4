-- Where jobs stand when one more member is met.
use Rattle.yds_model.proofs.Common.{◌≡◌, ◌≢◌, ℕ, ◌+◌, ◌<◌, List, [], ◌∷◌, ◌++◌, length, get_or, set, take, ap, sym, ◌∙◌, arith, inl, inr, append_assoc, add-zero, add-one, length-set, get_or-set_same, get_or-set_other, take_more, sum_by_push, cases_eq, ne_eqb, count, Level, no_level, level_at, all_members, flat_map-take}
use Rattle.yds_checker.specs.declared.home.Home.{Home}
use Rattle.yds_checker.specs.declared.home.Home.TheVariants.{Nowhere, In, Often}
use Rattle.yds_checker.specs.Home.{IsHome, home_at, AreHomes}

-- and another isn't
pub count-other : (job x : ℕ) (members : List ℕ) → job ≢ x → count job (members ++ x ∷ []) ≡ count job members
count-other job x members other = grind (arith, add-zero, ne_eqb, sum_by_push)

-- where a job stands depends on how often it is counted
home_same : (levels : List Level) (members more : List ℕ) (job : ℕ) (home : Home) → count job more ≡ count job members →
    IsHome levels members job home → IsHome levels more job home
home_same levels members more job Nowhere same is = same ∙ is
home_same levels members more job (In level) same is = (same ∙ is.0, is.1, is.2)
home_same levels members more job Often same is = omega (arith, same, is)

-- places that are right stay right when the job at one of them is met once more
pub homes_more : (levels : List Level) (before members : List ℕ) (i : ℕ) (homes : List Home) (home : Home) → i < length members →
    AreHomes levels (before ++ take i members) homes →
    IsHome levels ((before ++ take i members) ++ get_or members i 0 ∷ []) (get_or members i 0) home →
    AreHomes levels (before ++ take (i + 1) members) (set homes (get_or members i 0) home)
homes_more levels before members i homes home within are is job inside =
    let x = get_or members i 0 in
    let met = before ++ take i members in
    let known : job < length homes = omega (arith, inside, length-set homes x home) in
    let joined : before ++ take (i + 1) members ≡ met ++ x ∷ [] =
    ap (λ front. before ++ front) (take_more members i 0 within) ∙ sym (append_assoc before (take i members) (x ∷ [])) in
    rw joined
    (elim (cases_eq job x) [
      | inl same ↦
          let here : x < length homes = omega (arith, known, same) in
          rw (same, get_or-set_same homes x home Nowhere here) is
      | inr other ↦
          rw (get_or-set_other homes x job home Nowhere other)
          (home_same levels met (met ++ x ∷ []) job (home_at homes job) (count-other job x met other) (are job known))
    ])

-- a front of the levels, with one level more
pub homes_level : (levels : List Level) (i : ℕ) (homes : List Home) → i < length levels →
    AreHomes levels (all_members (take i levels) ++ (level_at levels i).members) homes → AreHomes levels (all_members (take (i + 1) levels)) homes
homes_level levels i homes within are =
    rw (add-one, flat_map-take (λ (one : Level). one.members) levels i no_level within) are
