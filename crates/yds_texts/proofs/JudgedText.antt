-- What the answers of `audit` and `check` are worth: a yes exactly where the document is as wanted, a no exactly where it isn't.
use Rattle.yds_model.proofs.Common.{◌≡◌, ℕ, ◌<◌, List, [], ◌∷◌, ◌++◌, length, get_or, Ok, refl, sym, ap, subst, ◌∙◌, arith, inl, inr, codes, ◌≤◌, ◌↔◌, Option, Some, None, All, take_at, drop_at, All-nil, All-cons, All-take, All-drop, All-weaker, Job, WrittenSlot, Level, all_members, IsProper, AreLevels, Verdict, Feasible, Backward, Overlap, Early, Late, OffPoint, WrongWork, IsVerdict, Judgement, Accepted, Slots, IsJudgement, Document, Point, line, reading, IsLevel, IsDocument, AuditAnswer, verdict_words, verdict_status, judgement_words, judgement_status, AskCheck, AskAudit, AskAuditOnPoints}
use Rattle.model_lemmas.proofs.Verdicts.{verdict_is_exact, table_verdict_is_exact}
use Rattle.model_lemmas.proofs.OneVerdict.{verdict_is_unique}
use Rattle.base.specs.declared.status.Status.{Status}
use Rattle.base.specs.declared.status.Status.TheVariants.{Done, No, Refused}
use Rattle.yds_texts.specs.JudgedText.{TellsWhether, IsCertified, AreBestSlots, IsServed, IsServedOnPoints, IsJudged, JudgementsTellProper, VerdictsTellFeasible}
use Rattle.yds_laws.proofs.Bound.{explained_is_least}
use Rattle.yds_laws.proofs.Explained.{proper_explains}
use Rattle.yds_laws.proofs.Judgements.{judgement_is_exact}
use Rattle.yds_laws.proofs.OneJudgement.{judgement_is_unique}
use Rattle.yds_energy.proofs.PlansEnergy.{least_is_cheapest_among_written}
use Rattle.yds_texts.proofs.Within.{read_is_within_limits}
use Rattle.yds_texts.proofs.Answered.{done_not_refused, no_not_refused, answered, on_points, slots_agree}

-- # A yes or a no

-- an answer that is a yes
pub tells_yes : (IsWanted : Document → Type 0) (line input text : List ℕ) (status : Status) (document : Document) → reading input ≡ Ok document →
    IsWanted document → status ≡ Done → text ≡ line → TellsWhether IsWanted line input text status
tells_yes IsWanted line input text status document read wanted ended said = grind arith

-- and one that is a no
pub tells_no : (IsWanted : Document → Type 0) (line input text : List ℕ) (status : Status) (document : Document) → reading input ≡ Ok document →
    (IsWanted document → ⊥) → status ≡ No → (text ≡ line → ⊥) → TellsWhether IsWanted line input text status
tells_no IsWanted line input text status document read unwanted ended other = grind arith

-- the first byte of a text
abbrev first_byte : List ℕ → ℕ
first_byte text = get_or text 0 0

-- a yes or a no isn't a refusal
judged_not_refused : (status : Status) → IsJudged status → status ≡ Refused → ⊥
judged_not_refused status (inl is) refused = done_not_refused (sym is ∙ refused)
judged_not_refused status (inr is) refused = no_not_refused (sym is ∙ refused)

-- # What the program keeps of slots and levels

-- what holds of the members of all levels holds of each level's
members_known : (count : ℕ) (levels : List Level) → All (λ job. job < count) (all_members levels) → All (λ level. All (λ job. job < count) level.members) levels
members_known count [] known = All-nil (λ (level : Level). All (λ job. job < count) level.members)
members_known count (level ∷ levels) known =
    All-cons (λ (level : Level). All (λ job. job < count) level.members) level levels
    (rw (take_at level.members (all_members levels) (length level.members) refl) at
    (All-take (λ job. job < count) (length level.members) (level.members ++ all_members levels) known))
    (members_known count levels
    (rw (drop_at level.members (all_members levels) (length level.members) refl) at
    (All-drop (λ job. job < count) (length level.members) (level.members ++ all_members levels) known)))

-- so its levels are as the checker wants them
levels_read : (document : Document) → IsDocument document → AreLevels document.jobs document.levels
levels_read document fits = record {
  positive = All-weaker IsLevel (λ level. (1 ≤ level.work) × (1 ≤ level.length)) (λ level is. (is.has_work, is.has_length)) document.levels fits.levels.fit;
  known = members_known (length document.jobs) document.levels
      (subst (λ count. All (λ job. job < count) (all_members document.levels)) fits.jobs.one_name_each fits.levels.known);
}

-- # `check`

-- what a proper certificate is worth
proper_worth : (jobs : List Job) (slots : List WrittenSlot) (levels : List Level) → IsProper jobs slots levels → AreBestSlots jobs slots levels
proper_worth jobs slots levels proper =
    let explained = proper_explains jobs slots levels proper in
    let least = explained_is_least jobs slots levels explained in
    record { feasible = proper.feasible; least = least; explained = explained; cheapest = least_is_cheapest_among_written jobs slots least }

-- a line whose first word is this begins with a K
slots_line : (fields : List (List ℕ)) → first_byte (line (codes "K1" ∷ fields)) ≡ 75
slots_line [] = refl
slots_line (field ∷ fields) = refl

-- a judgement other than 'accepted' is a no, in a line that begins with a K
other_judgement : (document : Document) (judgement : Judgement) → (judgement ≡ Accepted → ⊥) →
    (judgement_status judgement ≡ No) × (line (judgement_words document judgement) ≡ codes "accepted\n" → ⊥)
other_judgement document Accepted other = absurd (other refl)
other_judgement document (Slots verdict) other =
    (refl, λ same. let bytes : 75 ≡ 97 = sym (slots_line (verdict_words document verdict)) ∙ ap first_byte same in absurd (omega (arith, bytes)))
other_judgement document judgement other = (refl, λ same. let bytes : 75 ≡ 97 = ap first_byte same in absurd (omega (arith, bytes)))

-- there is one judgement, so one of those isn't made of what is accepted
not_accepted : (document : Document) (judgement : Judgement) → IsJudgement document.jobs document.slots document.levels judgement →
    IsJudgement document.jobs document.slots document.levels Accepted → (judgement ≡ Accepted → ⊥) → ⊥
not_accepted document judgement is accepted other =
    other (judgement_is_unique document.jobs document.slots document.levels judgement Accepted is accepted)

-- so a judgement tells whether the certificate is proper
judgement_tells : (input text : List ℕ) (status : Status) (document : Document) (judgement : Judgement) → reading input ≡ Ok document →
    IsJudgement document.jobs document.slots document.levels judgement → text ≡ line (judgement_words document judgement) →
    status ≡ judgement_status judgement → TellsWhether IsCertified (codes "accepted\n") input text status
judgement_tells input text status document Accepted read is said ended =
    let fits = read_is_within_limits input document read in
    tells_yes IsCertified (codes "accepted\n") input text status document read
    ((judgement_is_exact document.jobs document.slots document.levels (slots_agree document fits) (levels_read document fits)).0 is) ended said
judgement_tells input text status document judgement read is said ended =
    let fits = read_is_within_limits input document read in
    let exact = judgement_is_exact document.jobs document.slots document.levels (slots_agree document fits) (levels_read document fits) in
    let other = other_judgement document judgement (λ same. absurd cc) in
    tells_no IsCertified (codes "accepted\n") input text status document read
    (λ proper. (not_accepted document judgement is (exact.1 proper) (λ same. absurd cc)))
    (ended ∙ other.0) (λ told. other.1 (sym said ∙ told))

-- the law: `check` tells whether it is, and a proper one is worth so much
pub judgements_tell_proper : JudgementsTellProper
judgements_tell_proper input text status judged answers =
    let is = answered AskCheck input text status (judged_not_refused status judged) answers in
    let answer = is.answers in
    record {
      tells = judgement_tells input text status is.document answer.judgement is.read answer.is_judgement answer.said answer.ended;
      worth = λ proper. proper_worth _ _ _ proper;
    }

-- # `audit`

-- a verdict other than 'feasible' is a no, in a line that begins with another letter
other_verdict : (document : Document) (verdict : Verdict) → (verdict ≡ Feasible → ⊥) →
    (verdict_status verdict ≡ No) × (line (verdict_words document verdict) ≡ codes "feasible\n" → ⊥)
other_verdict document Feasible other = absurd (other refl)
other_verdict document (Backward slot) other = (refl, λ same. let bytes : 98 ≡ 102 = ap first_byte same in absurd (omega (arith, bytes)))
other_verdict document (Overlap slot) other = (refl, λ same. let bytes : 111 ≡ 102 = ap first_byte same in absurd (omega (arith, bytes)))
other_verdict document (Early slot) other = (refl, λ same. let bytes : 101 ≡ 102 = ap first_byte same in absurd (omega (arith, bytes)))
other_verdict document (Late slot) other = (refl, λ same. let bytes : 108 ≡ 102 = ap first_byte same in absurd (omega (arith, bytes)))
other_verdict document (OffPoint slot) other = (refl, λ same. let bytes : 111 ≡ 102 = ap first_byte same in absurd (omega (arith, bytes)))
other_verdict document (WrongWork job given wanted) other = (refl, λ same. let bytes : 119 ≡ 102 = ap first_byte same in absurd (omega (arith, bytes)))

-- there is one verdict, so one of those isn't given of what is feasible
not_feasible : (document : Document) (table : Option (List Point)) (verdict : Verdict) → IsVerdict document.jobs table document.slots verdict →
    IsVerdict document.jobs table document.slots Feasible → (verdict ≡ Feasible → ⊥) → ⊥
not_feasible document table verdict is feasible other = other (verdict_is_unique document.jobs table document.slots verdict Feasible is feasible)

-- so a verdict tells whether the document is as wanted, where 'feasible' is said of just such
verdict_tells : (IsWanted : Document → Type 0) (table : Option (List Point)) (input text : List ℕ) (status : Status) (document : Document) (verdict : Verdict) →
    reading input ≡ Ok document → (IsVerdict document.jobs table document.slots Feasible ↔ IsWanted document) →
    IsVerdict document.jobs table document.slots verdict → text ≡ line (verdict_words document verdict) →
    status ≡ verdict_status verdict → TellsWhether IsWanted (codes "feasible\n") input text status
verdict_tells IsWanted table input text status document Feasible read exact is said ended =
    tells_yes IsWanted (codes "feasible\n") input text status document read (exact.0 is) ended said
verdict_tells IsWanted table input text status document verdict read exact is said ended =
    let other = other_verdict document verdict (λ same. absurd cc) in
    tells_no IsWanted (codes "feasible\n") input text status document read
    (λ wanted. not_feasible document table verdict is (exact.1 wanted) (λ same. absurd cc))
    (ended ∙ other.0) (λ told. other.1 (sym said ∙ told))

-- what `audit` tells by a table, or without
audit_tells : (IsWanted : Document → Type 0) (table : Option (List Point)) (input text : List ℕ) (status : Status) (document : Document) →
    reading input ≡ Ok document → (IsVerdict document.jobs table document.slots Feasible ↔ IsWanted document) →
    AuditAnswer document table text status → TellsWhether IsWanted (codes "feasible\n") input text status
audit_tells IsWanted table input text status document read exact answer =
    verdict_tells IsWanted table input text status document answer.verdict read exact answer.is_verdict answer.said answer.ended

-- the law of both
pub verdicts_tell_feasible : VerdictsTellFeasible
verdicts_tell_feasible = record {
  audit = λ input text status judged answers.
      let is = answered AskAudit input text status (judged_not_refused status judged) answers in
      audit_tells IsServed None input text status is.document is.read
      (verdict_is_exact is.document.jobs is.document.slots (slots_agree is.document (read_is_within_limits input is.document is.read))) is.answers;
  on_points = λ input text status judged answers.
      let is = answered AskAuditOnPoints input text status (judged_not_refused status judged) answers in
      let points = on_points (AuditAnswer is.document (Some is.document.points)) is.document.points text status (judged_not_refused status judged) is.answers in
      audit_tells IsServedOnPoints (Some is.document.points) input text status is.document is.read
      (table_verdict_is_exact is.document.jobs is.document.points is.document.slots (slots_agree is.document (read_is_within_limits input is.document is.read)))
      points.1;
}
