-- The answer of `plan` to the document of three nested jobs, as a fact of the one relation; what follows of it; and a text that is none.
use Rattle.yds_model.proofs.Common.{◌≡◌, ℕ, List, [], ◌∷◌, length, Ok, refl, sym, ap, subst, arith, inl, codes, digits, Document, no_document, Job, IsProper, IsPlan, canonical_text, reading, IsDocument, with_plan, Answers}
use Rattle.base.specs.declared.status.Status.{Status}
use Rattle.base.specs.declared.status.Status.TheVariants.{Done, No}
use Rattle.yds_texts.specs.PlanText.{HoldsHeadline}
use Rattle.yds_texts.specs.JudgedText.{IsCertified, HoldsJudgement}
use Rattle.yds_texts.proofs.Within.{read_is_within_limits}
use Rattle.yds_texts.proofs.JudgedText.{judgements_tell_proper}
use Rattle.yds_laws.proofs.Plans.{plans_have_the_same_levels}
use Rattle.yds_texts.proofs.PlanText.{plan_read, plans_hold_the_headline, plan_texts_are_accepted}
use Rattle.yds_examples.proofs.ThreeJobs.{jobs, slots, levels, level_c, level_b, proper, plan}

-- the three jobs
abbrev input : List ℕ
input = codes "job a 0 12 4\njob b 2 10 8\njob c 4 6 6\n"

-- the document without slots
abbrev document : Document
document = record no_document { names = codes "a" ∷ codes "b" ∷ codes "c" ∷ []; jobs = jobs }

-- the text is read as it
its_document : reading input ≡ Ok document
its_document = refl

-- the jobs with their plan
abbrev text : List ℕ
text = codes "job a 0 12 4\njob b 2 10 8\njob c 4 6 6\nslot a 0 2 2\nslot b 2 4 2+2/3\nslot c 4 6 6\nslot b 6 10 5+1/3\nslot a 10 12 2\nlevel 6 2\npiece 4 6\nmember c\nlevel 8 6\npiece 2 4\npiece 6 10\nmember b\nlevel 4 4\npiece 0 2\npiece 10 12\nmember a\n"

-- it is a possible document
pub possible : IsDocument (with_plan document slots levels)
possible = read_is_within_limits text (with_plan document slots levels) refl

-- it is read as that
its_text : reading text ≡ Ok (with_plan document slots levels)
its_text = refl

-- and its canonical text
written : text ≡ canonical_text (with_plan document slots levels)
unfolding digits
written = refl

-- So `plan` may answer it,
answer : Answers (codes "plan" ∷ []) input text Done
answer = record { slots = slots; levels = levels; plan = plan; said = record { possible = possible; written = written }; ended = refl }

-- it holds the headline,
headline : HoldsHeadline input text
headline = plans_hold_the_headline input text answer

-- and `check` accepts it.
accepted : Answers (codes "check" ∷ []) text (codes "accepted\n") Done
accepted = plan_texts_are_accepted input text answer

-- That tells that its levels are a proper certificate, which is worth as much as a plan.
judged : HoldsJudgement text (codes "accepted\n") Done
judged = judgements_tell_proper text (codes "accepted\n") Done (inl refl) accepted

-- An answer that says no to it isn't worth that, whatever its line is.
no_refused : (line : List ℕ) → HoldsJudgement text line No → ⊥
no_refused line holds =
    let same : with_plan document slots levels ≡ holds.tells.document = cc (its_text, holds.tells.read) in
    holds.tells.no.0 refl (subst IsCertified same proper)

-- The same without a's level is no answer: each plan of these jobs has three levels.
abbrev shorter : List ℕ
shorter = codes "job a 0 12 4\njob b 2 10 8\njob c 4 6 6\nslot a 0 2 2\nslot b 2 4 2+2/3\nslot c 4 6 6\nslot b 6 10 5+1/3\nslot a 10 12 2\nlevel 6 2\npiece 4 6\nmember c\nlevel 8 6\npiece 2 4\npiece 6 10\nmember b\n"

-- it is read as a document with two levels
its_levels : reading shorter ≡ Ok (with_plan document slots (level_c ∷ level_b ∷ []))
its_levels = refl

-- which aren't a proper certificate, since a is a member of none.
not_proper : IsProper jobs slots (level_c ∷ level_b ∷ []) → ⊥
not_proper proper = absurd (omega (arith, (proper.members 0 (omega arith)).with_work (omega arith)))

-- So an answer that says 'accepted' to it isn't worth that, whatever it ends with,
accepted_refused : (status : Status) → HoldsJudgement shorter (codes "accepted\n") status → ⊥
accepted_refused status holds =
    let same : with_plan document slots (level_c ∷ level_b ∷ []) ≡ holds.tells.document = cc (its_levels, holds.tells.read) in
    not_proper (subst IsCertified (sym same) (holds.tells.told.0 refl))

-- nor one that is done, whatever its line is.
done_refused : (line : List ℕ) → HoldsJudgement shorter line Done → ⊥
done_refused line holds =
    let same : with_plan document slots (level_c ∷ level_b ∷ []) ≡ holds.tells.document = cc (its_levels, holds.tells.read) in
    not_proper (subst IsCertified (sym same) (holds.tells.done.0 refl))

-- And it would have to have three levels.
no_answer : Answers (codes "plan" ∷ []) input shorter Done → ⊥
no_answer answers =
    let read = plan_read input shorter answers in
    let again = read.3 in
    let one : document ≡ read.0 = cc (its_document, again.read) in
    let two : with_plan document slots (level_c ∷ level_b ∷ []) ≡ with_plan read.0 read.1 read.2 = cc (its_levels, again.read_again) in
    let jobs_same : jobs ≡ read.0.jobs = ap (λ (d : Document). d.jobs) one in
    let levels_same : 2 ≡ length read.2 = ap (λ (d : Document). length d.levels) two in
    let plan_again : IsPlan jobs read.1 read.2 = subst (λ (jobs : List Job). IsPlan jobs read.1 read.2) (sym jobs_same) again.plan in
    absurd (omega (arith, levels_same, (plans_have_the_same_levels jobs slots read.1 levels read.2 plan plan_again).0))
