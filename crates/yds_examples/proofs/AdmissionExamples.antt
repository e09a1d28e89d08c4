-- The definitions of admission, tried on the worked rows of `admit`, on intervals that are and aren't the first to be overfull, and on
-- answers that take or refuse the wrong job.
use Rattle.yds_model.proofs.Common.{◌≡◌, ℕ, ◌*◌, ◌-◌, List, [], ◌∷◌, map, refl, arith, inl, inr, codes, Contains, digits, All-from_recursion, Job, job_at, of_whole, WrittenSlot, WholeSlot, IsScale, slots_at, Piece, stretches, LiesWritten, HasSpeed, Document, no_document, IsTextOf, IsRunAt, HasRunDenominators, CanServe, jobs_with, IsOverfull, IsFirstOverfull, Refusal, IsRefusal, AdmitsAfter, IsAdmission, top_capacity, IsAdmittedRun, with_taken, Answers}
use Rattle.base.specs.declared.status.Status.TheVariants.{Done, Refused}
use Rattle.yds_examples.proofs.Tests.{proved, refuted, test_eq, test_any}
use Rattle.yds_examples.proofs.TestedSchedules.{is_scale, run_at}
use Rattle.yds_examples.proofs.TestedRounding.{can_serve, cant_serve, overfull, first_overfull}
use Rattle.yds_energy.proofs.Finer.{each_scale_of}
use Rattle.yds_energy.proofs.RunScale.{admitted_run_free}
use Rattle.yds_texts.proofs.Within.{read_is_within_limits}
use Rattle.yds_texts.proofs.AdmitText.{admission_texts_are_feasible}

abbrev job : ℕ → ℕ → ℕ → Job
job release deadline work = record { release = release; deadline = deadline; work = work }

abbrev slot : ℕ → ℕ → ℕ → ℕ → WholeSlot
slot number from to work = record { job = number; from = from; to = to; work = work }

-- # The third job is refused

-- a from 0 to 4 with work 4, b from 0 to 2 with work 4, c from 1 to 3 with work 1; the top speed is 2
abbrev pub jobs : List Job
jobs = job 0 4 4 ∷ job 0 2 4 ∷ job 1 3 1 ∷ []

-- a alone is served at the speed 1,
serves_a : CanServe 2 (jobs_with jobs (0 ∷ []))
serves_a = can_serve 2 (jobs_with jobs (0 ∷ [])) (slot 0 0 4 4 ∷ []) refl refl

-- and a and b both at 2.
serves_b : CanServe 2 (jobs_with jobs (0 ∷ 1 ∷ []))
serves_b = can_serve 2 (jobs_with jobs (0 ∷ 1 ∷ [])) (slot 1 0 2 4 ∷ slot 0 2 4 4 ∷ []) refl refl

-- With c the interval from 0 to 4 has 9 units of work and room for 8, so the three can't be served.
no_room_for_c : CanServe 2 (jobs_with jobs (0 ∷ 1 ∷ 2 ∷ [])) → ⊥
no_room_for_c = cant_serve 2 0 4 (jobs_with jobs (0 ∷ 1 ∷ 2 ∷ [])) (0 ∷ 1 ∷ 2 ∷ []) (omega arith) refl (omega arith)

-- No other interval is overfull.
interval_of_c : IsFirstOverfull jobs 2 (0 ∷ 1 ∷ 2 ∷ []) 0 4
interval_of_c = proved (first_overfull jobs 2 (0 ∷ 1 ∷ 2 ∷ []) 0 4) refl

-- The refusal of c tells that interval and its work.
abbrev pub refusal_of_c : Refusal
refusal_of_c = record { job = 2; from = 0; to = 4; work = 9 }

is_refusal_of_c : IsRefusal jobs 2 (0 ∷ 1 ∷ 2 ∷ []) 2 refusal_of_c
is_refusal_of_c = record { is_job = refl; interval = interval_of_c; is_work = refl }

-- So a and b are admitted, and c is refused.
pub third_refused : IsAdmission jobs 2 (0 ∷ 1 ∷ []) (refusal_of_c ∷ [])
third_refused = inl (serves_a, 1 ∷ [], refl, inl (serves_b, [], refl, inr (no_room_for_c, refusal_of_c, [], refl, is_refusal_of_c, (refl, refl))))

-- A refusal that tells another interval isn't one: from 1 to 3 there is room for c.
other_interval : IsRefusal jobs 2 (0 ∷ 1 ∷ 2 ∷ []) 2 (record { job = 2; from = 1; to = 3; work = 1 }) → ⊥
other_interval refusal = absurd (omega (arith, refusal.interval.overfull.too_much))

-- Nor is one that tells less work.
other_work : IsRefusal jobs 2 (0 ∷ 1 ∷ 2 ∷ []) 2 (record { job = 2; from = 0; to = 4; work = 8 }) → ⊥
other_work refusal = absurd (omega (arith, refusal.is_work))

-- An answer that refuses none of the three is wrong, whatever it takes,
none_refused : (taken : List ℕ) → IsAdmission jobs 2 taken [] → ⊥
none_refused taken (inl (_, _, _, inl (_, _, _, inl third))) = no_room_for_c third.0
none_refused taken (inl (_, _, _, inl (_, _, _, inr third))) = absurd (cc third.3)
none_refused taken (inl (_, _, _, inr second)) = absurd (cc second.3)
none_refused taken (inr first) = absurd (cc first.3)

-- and so is one that takes a alone, since b can be served beside it.
pub only_first_taken : (refused : List Refusal) → IsAdmission jobs 2 (0 ∷ []) refused → ⊥
only_first_taken refused (inl (_, later, is, inl second)) = absurd (cc (is, second.2))
only_first_taken refused (inl (_, later, is, inr second)) = second.0 serves_b
only_first_taken refused (inr first) = first.0 serves_a

-- # The first job is refused

-- a from 0 to 2 with work 3, b with work 0 and c with work 1, under the top speed 1
abbrev with_idle : List Job
with_idle = job 0 2 3 ∷ job 0 2 0 ∷ job 0 2 1 ∷ []

-- a wants more than 2 units of time can give,
no_room_for_a : CanServe 1 (jobs_with with_idle (0 ∷ [])) → ⊥
no_room_for_a = cant_serve 1 0 2 (jobs_with with_idle (0 ∷ [])) (0 ∷ []) (omega arith) refl (omega arith)

-- so it is refused, for its own interval.
abbrev refusal_of_a : Refusal
refusal_of_a = record { job = 0; from = 0; to = 2; work = 3 }

is_refusal_of_a : IsRefusal with_idle 1 (0 ∷ []) 0 refusal_of_a
is_refusal_of_a = record { is_job = refl; interval = proved (first_overfull with_idle 1 (0 ∷ []) 0 2) refl; is_work = refl }

-- b wants nothing, and needs no slot.
serves_nothing : CanServe 1 (jobs_with with_idle (1 ∷ []))
serves_nothing = can_serve 1 (jobs_with with_idle (1 ∷ [])) [] refl refl

-- c beside it has half the top speed.
serves_c : CanServe 1 (jobs_with with_idle (1 ∷ 2 ∷ []))
serves_c = can_serve 1 (jobs_with with_idle (1 ∷ 2 ∷ [])) (slot 1 0 2 1 ∷ []) refl refl

-- So the first job is refused, and the others are admitted.
first_refused : IsAdmission with_idle 1 (1 ∷ 2 ∷ []) (refusal_of_a ∷ [])
first_refused = inr (no_room_for_a, refusal_of_a, [], refl, is_refusal_of_a, inl (serves_nothing, 2 ∷ [], refl, inl (serves_c, [], refl, (refl, refl))))

-- The job of no work can't be refused.
no_work_refused : (taken : List ℕ) (refused : List Refusal) → AdmitsAfter with_idle 1 [] (1 ∷ 2 ∷ []) (2 ∷ taken) refused → ⊥
no_work_refused taken refused (inl second) = absurd (cc second.2)
no_work_refused taken refused (inr second) = second.0 serves_nothing

-- # Which interval is told

-- Of overfull intervals the one that begins first: here 0 to 4 with 9 units, and not 1 to 3 with 5.
abbrev nested : List Job
nested = job 0 4 4 ∷ job 1 3 5 ∷ []

outer_is_overfull : IsOverfull nested 2 (0 ∷ 1 ∷ []) 0 4
outer_is_overfull = proved (overfull nested 2 (0 ∷ 1 ∷ []) 0 4) refl

inner_is_overfull : IsOverfull nested 2 (0 ∷ 1 ∷ []) 1 3
inner_is_overfull = proved (overfull nested 2 (0 ∷ 1 ∷ []) 1 3) refl

outer_is_first : IsFirstOverfull nested 2 (0 ∷ 1 ∷ []) 0 4
outer_is_first = proved (first_overfull nested 2 (0 ∷ 1 ∷ []) 0 4) refl

inner_is_not_first : IsFirstOverfull nested 2 (0 ∷ 1 ∷ []) 1 3 → ⊥
inner_is_not_first first = elim (first.first 0 4 outer_is_overfull) [ inl after ↦ absurd (omega arith) | inr here ↦ absurd (omega arith) ]

-- Of those that begin together the one that ends first: here 0 to 2 with 5 units, and not 0 to 4 with 14.
abbrev together : List Job
together = job 0 4 9 ∷ job 0 2 5 ∷ []

short_is_overfull : IsOverfull together 2 (0 ∷ 1 ∷ []) 0 2
short_is_overfull = proved (overfull together 2 (0 ∷ 1 ∷ []) 0 2) refl

short_is_first : IsFirstOverfull together 2 (0 ∷ 1 ∷ []) 0 2
short_is_first = proved (first_overfull together 2 (0 ∷ 1 ∷ []) 0 2) refl

long_is_not_first : IsFirstOverfull together 2 (0 ∷ 1 ∷ []) 0 4 → ⊥
long_is_not_first first = elim (first.first 0 2 short_is_overfull) [ inl after ↦ absurd (omega arith) | inr here ↦ absurd (omega arith) ]

-- An interval that holds just the work confined to it isn't overfull,
just_fits : IsOverfull (job 0 2 4 ∷ []) 2 (0 ∷ []) 0 2 → ⊥
just_fits full = absurd (omega (arith, full.too_much))

-- nor is one that ends at no deadline.
at_no_deadline : IsOverfull together 2 (0 ∷ 1 ∷ []) 0 3 → ⊥
at_no_deadline full =
    refuted (test_any (λ number. test_eq (job_at together number).deadline 3) (0 ∷ 1 ∷ [])) refl full.is_deadline

-- # The schedule of the admitted jobs

-- The admitted a and b: b at the top speed, and then a.
abbrev admitted : List Job
admitted = jobs_with jobs (0 ∷ 1 ∷ [])

abbrev slots : List WrittenSlot
slots =
    record { job = 1; from = of_whole 0; to = of_whole 2; work = of_whole 4 }
    ∷ record { job = 0; from = of_whole 2; to = of_whole 4; work = of_whole 4 } ∷ []

-- At 0 the top speed holds 4 of the 8 units that are pending, and at 2 all 4 that are left.
capacities : map (top_capacity admitted 2 1 (slots_at 1 slots)) (stretches admitted) ≡ 4 ∷ 4 ∷ []
capacities = refl

-- The slots are a run that serves that,
run : IsRunAt admitted 1 1 (top_capacity admitted 2 1 (slots_at 1 slots)) (slots_at 1 slots)
run = proved (run_at admitted 1 1 (top_capacity admitted 2 1 (slots_at 1 slots)) (slots_at 1 slots)) refl

-- at scale 1.
whole : IsScale 1 slots
whole = proved (is_scale 1 slots) refl

-- A slot of whole ends and work that serves so many units of its stretch has a run's denominators.
has_denominators : (slot : WrittenSlot) (stretch : Piece) (units : ℕ) → Contains (stretches admitted) stretch → LiesWritten slot stretch →
    HasSpeed units (1 * (stretch.to - stretch.from)) slot → slot.work ≡ of_whole slot.work.whole → slot.from ≡ of_whole slot.from.whole →
    slot.to ≡ of_whole slot.to.whole → HasRunDenominators admitted 1 slot
has_denominators slot stretch units is lies speed work from to =
    record { stretch = stretch; is_stretch = is; lies = lies; units = units; speed = speed; work = inl work; from = inl from; to = inl to }

-- So they are a run at each scale, with whole ends and works.
admitted_run : IsAdmittedRun admitted 2 slots
admitted_run = record {
  run = each_scale_of _ (admitted_run_free admitted 2) slots 1 whole run;
  denominators = All-from_recursion (HasRunDenominators admitted 1) slots (
    has_denominators _ (record { from = 0; to = 2 }) 4 (0, omega arith, refl) (record { from = omega arith; to = omega arith }) refl refl refl refl,
    (has_denominators _ (record { from = 2; to = 4 }) 4 (1, omega arith, refl) (record { from = omega arith; to = omega arith }) refl refl refl refl, tt),
  );
}

-- Under another top speed they are none: 3 holds more in the first stretch.
other_top : IsAdmittedRun admitted 3 slots → ⊥
other_top is =
    let capacity = top_capacity admitted 3 1 (slots_at 1 slots) in
    refuted (run_at admitted 1 1 capacity (slots_at 1 slots)) refl (is.run.holds 1 whole)

-- # The answer

-- the document of the three jobs
abbrev document : Document
document = record no_document { names = codes "a" ∷ codes "b" ∷ codes "c" ∷ []; jobs = jobs }

-- The text of the admitted jobs and their slots: it is read as that document.
abbrev written : List ℕ
written = codes "job a 0 4 4\njob b 0 2 4\nslot b 0 2 4\nslot a 2 4 4\n"

is_written : IsTextOf (with_taken document (0 ∷ 1 ∷ []) slots) written
unfolding digits
is_written = record { possible = read_is_within_limits written (with_taken document (0 ∷ 1 ∷ []) slots) refl; written = refl }

-- So this is the answer of `admit`.
pub answer : Answers (codes "admit" ∷ codes "2" ∷ []) (codes "job a 0 4 4\njob b 0 2 4\njob c 1 3 1\n")
    (codes "job a 0 4 4\njob b 0 2 4\nslot b 0 2 4\nslot a 2 4 4\n# refuse c from 0 to 4 work 9 top 2\n") Done
unfolding digits
answer = record {
  taken = 0 ∷ 1 ∷ [];
  refused = refusal_of_c ∷ [];
  admission = third_refused;
  slots = slots;
  run = admitted_run;
  admitted = written;
  is_admitted = is_written;
  said = refl;
  ended = refl;
}

-- By the law `audit` answers that text with 'feasible': the comment is passed over.
audited : Answers (codes "audit" ∷ []) (codes "job a 0 4 4\njob b 0 2 4\nslot b 0 2 4\nslot a 2 4 4\n# refuse c from 0 to 4 work 9 top 2\n") (codes "feasible\n") Done
unfolding digits
audited = admission_texts_are_feasible (codes "admit" ∷ codes "2" ∷ []) 2 refl (codes "job a 0 4 4\njob b 0 2 4\njob c 1 3 1\n")
    (codes "job a 0 4 4\njob b 0 2 4\nslot b 0 2 4\nslot a 2 4 4\n# refuse c from 0 to 4 work 9 top 2\n") answer

-- Without its sign the same line is refused.
no_comment : Answers (codes "audit" ∷ []) (codes "job a 0 4 4\njob b 0 2 4\nslot b 0 2 4\nslot a 2 4 4\nrefuse c from 0 to 4 work 9 top 2\n")
    (codes "refused 5 1 UnknownKind\n") Refused
unfolding digits
no_comment = record { said = refl; ended = refl }
