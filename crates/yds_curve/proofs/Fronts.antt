-- Sums of fronts of levels, and breaks gathered from the fastest level on.
use Rattle.yds_model.proofs.Common.{◌≡◌, ℕ, ◌+◌, ◌-◌, ◌*◌, ◌/◌, ◌<◌, ◌≤◌, List, [], ◌∷◌, ◌++◌, length, get_or, take, map, reverse, ap, ap₂, sym, subst, ◌∙◌, refl, arith, sum_by, nat_lt, map-append, reverse-append, get_or_read, take_more, take_all, length-take-le, prefix_len-le-length, reverse_onto, div-le_of_le-mul, Each, Fraction, Level, no_level, level_at, levels_above, in_lowest_terms, IsSlower, Break, break_at, breaks_of}
use Rattle.yds_certificate.specs.Certificate.{IsCertificate}
use Rattle.yds_laws.proofs.Curve.{AreFalling, are_falling}
use Rattle.yds_laws.proofs.LeastAbove.{level_excess, zero_excess}
use Rattle.base.specs.declared.limits.TheConstants.{MAX_LEVELS, MAX_LEVEL_WORK, MAX_WHOLE}

-- a map of a list from its end
map-reverse : {X Y : Type 0} (f : X → Y) (xs : List X) → map f (reverse xs) ≡ reverse (map f xs)
map-reverse f [] = refl
map-reverse f (x ∷ xs) =
    ap (map f) (reverse_onto xs x []) ∙ map-append f (reverse xs) (x ∷ []) ∙ ap (λ l. l ++ f x ∷ []) (map-reverse f xs)
    ∙ sym (reverse_onto (map f xs) (f x) [])

-- what was gathered with a last one, from its end
pub gathered : {X Y : Type 0} (f : X → Y) (xs : List X) (last : Y) → reverse (map f xs ++ last ∷ []) ≡ last ∷ map f (reverse xs)
gathered f xs last = reverse-append (map f xs) (last ∷ []) ∙ ap (λ l. last ∷ l) (sym (map-reverse f xs))

-- what so many levels do above a speed is in range as work
pub work_in_range : (parts den count : ℕ) → parts ≤ den * (count * MAX_LEVEL_WORK) → count ≤ MAX_LEVELS → parts / den ≤ MAX_WHOLE
work_in_range parts den count few enough =
    let most : parts / den ≤ count * MAX_LEVEL_WORK = div-le_of_le-mul den few in
    omega (arith, most, enough)

-- the levels of a certificate have work and length; here they fall in speed
pub falls : (certificate levels : List Level) → levels ≡ certificate → IsCertificate certificate → Each (length certificate) (IsSlower certificate) → AreFalling levels
falls certificate levels is kept fall =
    subst AreFalling (sym is) (are_falling certificate (λ k d within. let fit = kept.each k d within in (fit.has_work, fit.has_length)) fall)

-- the break at a level's speed, from the sums of the levels before it
pub break_here : (levels : List Level) (i : ℕ) (level : Level) (work long : ℕ) → AreFalling levels → i < length levels → level ≡ get_or levels i level →
    work ≡ sum_by (λ level. level.work) (take i levels) → long ≡ sum_by (λ level. level.length) (take i levels) →
    (let bend : Break = record {
      speed = in_lowest_terms level.work level.length;
      excess = in_lowest_terms (level.length * work - level.work * long) level.length;
    } in bend) ≡ break_at levels level.work level.length
break_here levels i level work long falling within is of_work of_length =
    let at : level ≡ level_at levels i = get_or_read levels i level within is no_level in
    rw (at, of_work, of_length) (ap (λ x. let bend : Break = record { speed = in_lowest_terms (level_at levels i).work (level_at levels i).length; excess = x } in bend)
    (sym (level_excess levels i falling within)))

-- one more item was gathered
pub one_gathered : {X Y : Type 0} (f : X → Y) (xs : List X) (i : ℕ) (x : X) (ys : List Y) (y : Y) → i < length xs → x ≡ get_or xs i x →
    ys ≡ map f (take i xs) → y ≡ f x → ys ++ y ∷ [] ≡ map f (take (i + 1) xs)
one_gathered f xs i x ys y within is before here =
    ap (λ l. l ++ y ∷ []) before ∙ ap (λ z. map f (take i xs) ++ z ∷ []) (here ∙ ap f is)
    ∙ sym (ap (map f) (take_more xs i x within) ∙ map-append f (take i xs) (get_or xs i x ∷ []))

-- a front above a speed has no more levels than a certificate may have
pub few_above : (p q i : ℕ) (front levels : List Level) → front ≡ levels_above p q levels → IsCertificate levels → i ≤ length front → i ≤ MAX_LEVELS
few_above p q i front levels is kept within =
    omega (
      arith,
      within,
      ap length is,
      length-take-le _ levels (prefix_len-le-length (λ (level : Level). nat_lt (p * level.length) (level.work * q)) levels),
      kept.few,
      prefix_len-le-length (λ (level : Level). nat_lt (p * level.length) (level.work * q)) levels,
    )

-- the breaks of all levels and the one at the speed 0, from the end
pub breaks_made : (levels : List Level) (i work : ℕ) (breaks : List Break) (first : Break) → AreFalling levels → length levels ≤ i →
    work ≡ sum_by (λ level. level.work) (take i levels) → breaks ≡ map (λ level. break_at levels level.work level.length) (take i levels) →
    first ≡ (let bend : Break = record { speed = in_lowest_terms 0 1; excess = in_lowest_terms work 1 } in bend) → reverse (breaks ++ first ∷ []) ≡ breaks_of levels
breaks_made levels i work breaks first falling all of_work of_breaks of_first =
    let bend : Fraction → Break = λ excess. record { speed = in_lowest_terms 0 1; excess = excess } in
    let whole : work ≡ sum_by (λ level. level.work) levels = of_work ∙ ap (sum_by (λ (level : Level). level.work)) (take_all i levels all) in
    let zero : first ≡ break_at levels 0 1 = of_first ∙ ap (λ n. bend (in_lowest_terms n 1)) whole ∙ ap bend (sym (zero_excess levels falling)) in
    ap₂ (λ l x. reverse (l ++ x ∷ [])) (of_breaks ∙ ap (map (λ level. break_at levels level.work level.length)) (take_all i levels all)) zero
    ∙ gathered (λ level. break_at levels level.work level.length) levels (break_at levels 0 1)
