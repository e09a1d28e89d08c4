-- What the fields of a line say where they were read in one pass.
use Rattle.yds_model.proofs.Common.{◌≡◌, ℕ, ◌<◌, ◌*◌, ◌-◌, ◌/◌, Bool, true, false, List, [], ◌∷◌, None, Result, Ok, refl, sym, ap, ◌∙◌, nat_lt, nat_le, unwrap_or, lt-ltb, Field, Entry, JobEntry, SlotEntry, MemberEntry, Spot, ◌>>=◌, demand, count_fields, SlotLine, RunLine, are_alike, fraction_in, Fraction, of_parts, WrittenSlot, is_name, number_at, fraction_at}
use Rattle.base.specs.declared.limits.TheConstants.{MAX_TIME, MAX_WORK, MAX_SLOT_WORK, MAX_RUN_SPEED}
use Rattle.yds_model.specs.declared.reason.Reason.{Reason}
use Rattle.yds_model.specs.declared.reason.Reason.TheVariants as reasons
use Rattle.yds_instance.specs.Named.{number_of}
use Rattle.yds_text.specs.Count.{no_reason}
use Rattle.yds_text.specs.Plain.{ReadsText}
use Rattle.document_reader.specs.declared.draft.Draft.{Draft}
use Rattle.document_reader.specs.Draft.{Holds, HoldsMore, Takes, count_and_read}
use Rattle.document_reader.specs.Fields.{known_job_of}
use Rattle.document_reader.specs.Job.{job_of}
use Rattle.document_reader.specs.Slot.{fits_among, slot_of}
use Rattle.document_reader.specs.Run.{run_between, run_after, run_of, run_slot}
use Rattle.document_reader.specs.Plain.{SaysOne, SaysFour}
use Rattle.document_reader.specs.Member.{member_of}
use Rattle.document_reader.proofs.Told.{holds_more, slot_same, run_same}

-- a name that is new, and three numbers
pub says_job : (names : List (List ℕ)) (fields rest two one none : List Field) (name : List ℕ) (from to work : ℕ) → ReadsText (λ text. text ≡ name) fields rest →
    ReadsText (λ text. number_at 0 MAX_TIME text ≡ Ok from) rest two → ReadsText (λ text. number_at 0 MAX_TIME text ≡ Ok to) two one →
    ReadsText (λ text. number_at 0 MAX_WORK text ≡ Ok work) one none → none ≡ [] → is_name name ≡ true → number_of names name ≡ None → from < to →
    SaysFour (job_of names) fields (JobEntry name (record { release = from; deadline = to; work = work }))
says_job names fields rest two one none name from to work a b c d last named new before = record {
  first = a.field;
  second = b.field;
  third = c.field;
  fourth = d.field;
  are = a.first ∙ ap (λ l. a.field ∷ l) (b.first ∙ ap (λ l. b.field ∷ l) (c.first ∙ ap (λ l. c.field ∷ l) (d.first ∙ ap (λ l. d.field ∷ l) last)));
  says =
      let text : is_name a.field.text ≡ true = ap is_name a.says ∙ named in
      let unknown : number_of names a.field.text ≡ None = ap (number_of names) a.says ∙ new in
      let less : nat_lt from to ≡ true = lt-ltb from to before in
      rw (text, unknown, b.says, c.says, d.says, less) (ap (λ said. Ok (JobEntry said (record { release = from; deadline = to; work = work }))) a.says);
}

-- what the line of a slot says, once its job is known
abbrev slot_after : List WrittenSlot → ℕ → Field → Field → Field → Result Entry (Spot Reason)
slot_after slots job b c d = do
  from ← fraction_in MAX_TIME b
  to ← fraction_in MAX_TIME c
  work ← fraction_in MAX_SLOT_WORK d
  ends ← demand (are_alike from to) c.column reasons.MixedEnds
  grain ← demand (fits_among slots job work) d.column reasons.MixedGrain
  Ok (SlotEntry (record { job = job; from = from; to = to; work = work }))

-- a name that is known, and three fractions
pub says_slot : (names : List (List ℕ)) (slots : List WrittenSlot) (fields rest two one none : List Field) (a : Field) (job most : ℕ) (from to work : Fraction) →
    fields ≡ a ∷ rest → most ≡ MAX_TIME → ReadsText (λ text. fraction_at most text ≡ Ok from) rest two → ReadsText (λ text. fraction_at most text ≡ Ok to) two one →
    ReadsText (λ text. fraction_at MAX_SLOT_WORK text ≡ Ok work) one none → none ≡ [] → known_job_of names a ≡ Ok job →
    are_alike from to ≡ true → fits_among slots job work ≡ true →
    SaysFour (slot_of names slots) fields (SlotEntry (record { job = job; from = from; to = to; work = work }))
says_slot names slots fields rest two one none a job most from to work first limit b c d last known alike fits = record {
  first = a;
  second = b.field;
  third = c.field;
  fourth = d.field;
  are = first ∙ ap (λ l. a ∷ l) (b.first ∙ ap (λ l. b.field ∷ l) (c.first ∙ ap (λ l. c.field ∷ l) (d.first ∙ ap (λ l. d.field ∷ l) last)));
  says =
      let start : fraction_at MAX_TIME b.field.text ≡ Ok from = ap (λ m. fraction_at m b.field.text) (sym limit) ∙ b.says in
      let end : fraction_at MAX_TIME c.field.text ≡ Ok to = ap (λ m. fraction_at m c.field.text) (sym limit) ∙ c.says in
      let rest : slot_after slots job b.field c.field d.field ≡ Ok (SlotEntry (record { job = job; from = from; to = to; work = work })) = rw (start, end, d.says, alike, fits) refl in
      ap (λ (r : Result ℕ (Spot Reason)). r >>= (λ job. slot_after slots job b.field c.field d.field)) known ∙ rest;
}

-- where a run has no fault, its column doesn't matter
any_column : (slots : List WrittenSlot) (ticks job from to speed column other : ℕ) (entry : Entry) → run_between slots ticks job from to speed column ≡ Ok entry →
    run_between slots ticks job from to speed other ≡ Ok entry
any_column slots ticks job from to speed column other entry = by_tests (nat_le (speed * (to - from) / ticks) MAX_SLOT_WORK) (fits_among slots job (of_parts (speed * (to - from)) ticks)) where
  by_tests : (small grain : Bool) →
      (demand small column reasons.OutOfRange >>= (λ _. demand grain column reasons.MixedGrain >>= (λ _. Ok (SlotEntry (run_slot ticks job from to speed))))) ≡ Ok entry →
      (demand small other reasons.OutOfRange >>= (λ _. demand grain other reasons.MixedGrain >>= (λ _. Ok (SlotEntry (run_slot ticks job from to speed))))) ≡ Ok entry
  by_tests true true is = is
  by_tests true false is = cc
  by_tests false grain is = cc

-- a name that is known, and three numbers
pub says_run : (names : List (List ℕ)) (slots : List WrittenSlot) (ticks : ℕ) (fields rest two one none : List Field) (a : Field) (job most fastest from to speed column : ℕ) (entry : Entry) →
    fields ≡ a ∷ rest → most ≡ MAX_TIME * ticks → fastest ≡ MAX_RUN_SPEED → ReadsText (λ text. number_at 0 most text ≡ Ok from) rest two →
    ReadsText (λ text. number_at 0 most text ≡ Ok to) two one → ReadsText (λ text. number_at 0 fastest text ≡ Ok speed) one none → none ≡ [] →
    known_job_of names a ≡ Ok job → run_between slots ticks job from to speed column ≡ Ok entry → SaysFour (run_of names slots ticks) fields entry
says_run names slots ticks fields rest two one none a job most fastest from to speed column entry first limit greatest b c d last known is = record {
  first = a;
  second = b.field;
  third = c.field;
  fourth = d.field;
  are = first ∙ ap (λ l. a ∷ l) (b.first ∙ ap (λ l. b.field ∷ l) (c.first ∙ ap (λ l. c.field ∷ l) (d.first ∙ ap (λ l. d.field ∷ l) last)));
  says =
      let start : number_at 0 (MAX_TIME * ticks) b.field.text ≡ Ok from = ap (λ m. number_at 0 m b.field.text) (sym limit) ∙ b.says in
      let end : number_at 0 (MAX_TIME * ticks) c.field.text ≡ Ok to = ap (λ m. number_at 0 m c.field.text) (sym limit) ∙ c.says in
      let rate : number_at 0 MAX_RUN_SPEED d.field.text ≡ Ok speed = ap (λ m. number_at 0 m d.field.text) (sym greatest) ∙ d.says in
      let rest : run_after slots ticks job b.field c.field d.field ≡ Ok entry = rw (start, end, rate) (any_column slots ticks job from to speed column d.field.column entry is) in
      ap (λ (r : Result ℕ (Spot Reason)). r >>= (λ job. run_after slots ticks job b.field c.field d.field)) known ∙ rest;
}

-- a name that is known
pub says_member : (names : List (List ℕ)) (fields rest : List Field) (a : Field) (job : ℕ) → fields ≡ a ∷ rest → rest ≡ [] → known_job_of names a ≡ Ok job →
    SaysOne (member_of names) fields (MemberEntry job)
says_member names fields rest a job first last known = record {
  only = a;
  are = first ∙ ap (λ l. a ∷ l) last;
  says = ap (λ (r : Result ℕ (Spot Reason)). r >>= (λ job. Ok (MemberEntry job))) known;
}

-- # Such a line is held

four_counted : (kind a b c d : Field) (fields : List Field) → fields ≡ a ∷ b ∷ c ∷ d ∷ [] →
    (kind ∷ fields ≡ kind ∷ a ∷ b ∷ c ∷ d ∷ []) × (count_fields no_reason 4 (kind ∷ fields) ≡ Ok true)
four_counted kind a b c d fields are = (ap (λ l. kind ∷ l) are, ap (λ l. count_fields no_reason 4 (kind ∷ l)) are)

pub holds_slot_line : (old new : Draft) (earlier : List Entry) (kind : Field) (fields : List Field) (entry : Entry) → SaysFour (slot_of old.instance.names old.schedule.slots) fields entry →
    Holds old earlier → Takes old new entry → HoldsMore (count_and_read SlotLine earlier (kind ∷ fields)) new earlier
holds_slot_line old new earlier kind fields entry said holds takes =
    holds_more SlotLine earlier (kind ∷ fields) _ entry old new (four_counted kind said.first said.second said.third said.fourth fields said.are)
    (sym (slot_same old earlier kind said.first said.second said.third said.fourth holds) ∙ said.says) holds takes

pub holds_run_line : (old new : Draft) (earlier : List Entry) (ticks : ℕ) (kind : Field) (fields : List Field) (entry : Entry) → SaysFour (run_of old.instance.names old.schedule.slots ticks) fields entry →
    Holds old earlier → ticks ≡ unwrap_or old.ticks 1 → Takes old new entry → HoldsMore (count_and_read RunLine earlier (kind ∷ fields)) new earlier
holds_run_line old new earlier ticks kind fields entry said holds is takes =
    holds_more RunLine earlier (kind ∷ fields) _ entry old new (four_counted kind said.first said.second said.third said.fourth fields said.are)
    (sym (run_same old earlier ticks kind said.first said.second said.third said.fourth holds is) ∙ said.says) holds takes
