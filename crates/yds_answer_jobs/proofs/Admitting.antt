-- From an admission to the answer of `admit`.
use Rattle.yds_model.proofs.Common.{◌≡◌, ℕ, zero, suc, ◌+◌, ◌<◌, ◌≤◌, List, [], ◌∷◌, ◌++◌, length, get_or, take, map, Option, None, Some, refl, sym, ap, subst, ◌∙◌, arith, inl, inr, get_or-map, get_or-take, length-map, length-take-le, le_refl, All, flat_map, range_with_len, Job, name_at, AreDifferentNames, WrittenSlot, Document, canonical_text, IsDocument, Refusal, jobs_with, AdmitsAfter, IsAdmission, IsAdmittedRun, with_taken, refusal_comment, AdmitAnswer}
use Rattle.yds_instance.specs.Named.{number_of}
use Rattle.yds_instance.proofs.Names.{has_name}
use Rattle.yds_answer_jobs.specs.Admit.{RiseFrom}
use Rattle.base.specs.declared.status.Status.TheVariants as statuses

pub admit_answered : (document : Document) (top : ℕ) (taken : List ℕ) (refused : List Refusal) (slots : List WrittenSlot) (shown : Document) →
    IsAdmission document.jobs top taken refused → IsAdmittedRun (jobs_with document.jobs taken) top slots → IsDocument shown →
    shown ≡ with_taken document taken slots →
    AdmitAnswer document top (canonical_text shown ++ flat_map (refusal_comment document top) refused) statuses.Done
admit_answered document top taken refused slots shown admission run possible is = record {
  taken = taken;
  refused = refused;
  admission = admission;
  slots = slots;
  run = run;
  admitted = canonical_text shown;
  is_admitted = rw (← is) (record { possible = possible; written = refl });
  said = refl;
  ended = refl;
}

-- # The numbers of the admitted jobs

-- what is admitted of rising numbers rises
taken_rise : (jobs : List Job) (top start count : ℕ) (before taken : List ℕ) (refused : List Refusal) → AdmitsAfter jobs top before (range_with_len start count) taken refused →
    RiseFrom start taken
taken_rise jobs top start zero before taken refused (none, done) = subst (RiseFrom start) (sym none) tt
taken_rise jobs top start (suc count) before taken refused (inl (serves, later, is, rest)) =
    subst (RiseFrom start) (sym is) (le_refl start, taken_rise jobs top (start + 1) count (before ++ start ∷ []) later refused rest)
taken_rise jobs top start (suc count) before taken refused (inr (overfull, refusal, others, is, refuses, rest)) =
    rise_lower start (start + 1) taken (omega arith) (taken_rise jobs top (start + 1) count before taken others rest) where
      rise_lower : (low least : ℕ) (numbers : List ℕ) → low ≤ least → RiseFrom least numbers → RiseFrom low numbers
      rise_lower low least [] lower rise = tt
      rise_lower low least (number ∷ numbers) lower rise = (omega (arith, lower, rise.0), rise.1)

pub admitted_rise : (jobs : List Job) (top : ℕ) (taken : List ℕ) (refused : List Refusal) → IsAdmission jobs top taken refused → RiseFrom 0 taken
admitted_rise jobs top taken refused admission = taken_rise jobs top 0 (length jobs) [] taken refused admission

-- rising numbers are at least their places, and above those before them
pub rise_places : (least : ℕ) (numbers : List ℕ) (i : ℕ) → RiseFrom least numbers → i < length numbers → least + i ≤ get_or numbers i 0
rise_places least [] i rise within = absurd (omega (arith, within))
rise_places least (number ∷ numbers) zero rise within = omega (arith, rise.0)
rise_places least (number ∷ numbers) (suc i) rise within = omega (arith, rise.0, rise_places (number + 1) numbers i rise.1 (omega (arith, within)))

pub rise_apart : (least : ℕ) (numbers : List ℕ) (i j : ℕ) → RiseFrom least numbers → i < j → j < length numbers → get_or numbers i 0 < get_or numbers j 0
rise_apart least [] i j rise before within = absurd (omega (arith, within))
rise_apart least (number ∷ numbers) i zero rise before within = absurd (omega (arith, before))
rise_apart least (number ∷ numbers) zero (suc j) rise before within = omega (arith, rise_places (number + 1) numbers j rise.1 (omega (arith, within)))
rise_apart least (number ∷ numbers) (suc i) (suc j) rise before within = rise_apart (number + 1) numbers i j rise.1 (omega (arith, before)) (omega (arith, within))

-- so the name of the next isn't among the names of those before it
next_is_new_by : (names : List (List ℕ)) (numbers : List ℕ) (i : ℕ) (found : Option ℕ) → AreDifferentNames names → All (λ number. number < length names) numbers → RiseFrom 0 numbers →
    i < length numbers → number_of (map (name_at names) (take i numbers)) (name_at names (get_or numbers i 0)) ≡ found →
    number_of (map (name_at names) (take i numbers)) (name_at names (get_or numbers i 0)) ≡ None
next_is_new_by names numbers i None different known rise within is = is
next_is_new_by names numbers i (Some n) different known rise within is =
    let before = take i numbers in
    let has = has_name (map (name_at names) before) (name_at names (get_or numbers i 0)) n is in
    let count : length before ≡ i = length-take-le i numbers (omega (arith, within)) in
    let earlier : n < i = omega (arith, has.0, count, length-map before (name_at names)) in
    let named : name_at names (get_or numbers n 0) ≡ name_at names (get_or numbers i 0) =
    ap (name_at names) (sym (get_or-take i numbers n 0 earlier)) ∙ sym (get_or-map (name_at names) before n 0 [] (omega (arith, earlier, count))) ∙ has.1 in
    let same = different (get_or numbers n 0) (get_or numbers i 0) (known n 0 (omega (arith, earlier, within))) (known i 0 within) named in
    absurd (omega (arith, same, rise_apart 0 numbers n i rise earlier within))

pub next_is_new : (names : List (List ℕ)) (numbers : List ℕ) (i : ℕ) → AreDifferentNames names → All (λ number. number < length names) numbers → RiseFrom 0 numbers →
    i < length numbers → number_of (map (name_at names) (take i numbers)) (name_at names (get_or numbers i 0)) ≡ None
next_is_new names numbers i different known rise within =
    next_is_new_by names numbers i (number_of (map (name_at names) (take i numbers)) (name_at names (get_or numbers i 0))) different known rise within refl
