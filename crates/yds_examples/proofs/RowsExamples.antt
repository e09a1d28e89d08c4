-- Whole answers by the one relation of words, input, text and status: the worked rows of `audit` and `check`, and refusals.
use Rattle.yds_model.proofs.Common.{◌≡◌, ℕ, List, [], ◌∷◌, None, true, refl, codes, digits, of_whole, line, Document, Verdict, Feasible, Backward, Overlap, Early, Late, WrongWork, IsVerdict, Judgement, Accepted, Slots, Pieces, Members, Sums, Order, Window, Speed, IsJudgement, verdict_words, verdict_status, AuditAnswer, judgement_words, judgement_status, CheckAnswer, usage_line, Answers}
use Rattle.base.specs.declared.status.Status.{Status}
use Rattle.base.specs.declared.status.Status.TheVariants as statuses
use Rattle.yds_laws.proofs.AnsweredOnce.{audit_and_check_answer_once}
use Rattle.yds_examples.proofs.Tests.{Test, tests, proved, refuted, test_numbers}
use Rattle.yds_examples.proofs.TestedPlans.{is_verdict, is_judgement}

-- a row: words, an input, and the text and the status that answer them
record Row (words : List (List ℕ)) (input text : List ℕ) (status : Status) : Type 0 where
  answers : Answers words input text status

-- # Tests of an answer

-- the verdict is so, and the text is its line
abbrev is_audit : (document : Document) (text : List ℕ) (verdict : Verdict) →
    Test (IsVerdict document.jobs None document.slots verdict × (text ≡ line (verdict_words document verdict)))
is_audit document text verdict = hlevel (tests, is_verdict)

-- then `audit` answers so
audited : {document : Document} {text : List ℕ} {status : Status} (verdict : Verdict) → (is_audit document text verdict).passes ≡ true → status ≡ verdict_status verdict →
    AuditAnswer document None text status
audited {document} {text} verdict passed ended =
    let told = proved (is_audit document text verdict) passed in record { verdict = verdict; is_verdict = told.0; said = told.1; ended = ended }

-- the judgement is so, and the text is its line
abbrev is_check : (document : Document) (text : List ℕ) (judgement : Judgement) →
    Test (IsJudgement document.jobs document.slots document.levels judgement × (text ≡ line (judgement_words document judgement)))
is_check document text judgement = hlevel (tests, is_judgement)

-- then `check` answers so
checked : {document : Document} {text : List ℕ} {status : Status} (judgement : Judgement) → (is_check document text judgement).passes ≡ true →
    status ≡ judgement_status judgement → CheckAnswer document text status
checked {document} {text} judgement passed ended =
    let told = proved (is_check document text judgement) passed in record { judgement = judgement; is_judgement = told.0; said = told.1; ended = ended }

-- # Verdicts

-- slots that give each job its work
is_feasible : Row (codes "audit" ∷ []) (codes "job a 0 4 2\nslot a 1 3 2\n") (codes "feasible\n") statuses.Done
is_feasible = record { answers = audited Feasible refl refl }

-- a slot that takes no time
backward : Row (codes "audit" ∷ []) (codes "job a 0 4 2\nslot a 2 2 2\n") (codes "backward slot 1 a 2 2\n") statuses.No
unfolding digits
backward = record { answers = audited (Backward 0) refl refl }

-- and no other answer
backward_only : Row (codes "audit" ∷ []) (codes "job a 0 4 2\nslot a 2 2 2\n") (codes "feasible\n") statuses.Done → ⊥
unfolding digits
backward_only row =
    absurd (cc ((audit_and_check_answer_once.audit (codes "job a 0 4 2\nslot a 2 2 2\n") _ _ _ _ row.answers backward.answers).1))

-- a slot that begins before the one before it has ended
overlap : Row (codes "audit" ∷ []) (codes "job a 0 4 2\njob b 0 4 2\nslot a 0 2 2\nslot b 1 3 2\n") (codes "overlap slot 2 b 1 previous 2\n") statuses.No
unfolding digits
overlap = record { answers = audited (Overlap 1) refl refl }

-- before its job's release
early : Row (codes "audit" ∷ []) (codes "job a 1 4 2\nslot a 0 2 2\n") (codes "early slot 1 a 0 release 1\n") statuses.No
unfolding digits
early = record { answers = audited (Early 0) refl refl }

-- after its deadline
late : Row (codes "audit" ∷ []) (codes "job a 0 4 2\nslot a 3 5 2\n") (codes "late slot 1 a 5 deadline 4\n") statuses.No
unfolding digits
late = record { answers = audited (Late 0) refl refl }

-- too little work for one of two jobs
one_short : Row (codes "audit" ∷ []) (codes "job a 0 10 10\njob b 4 6 6\nslot a 0 4 5\nslot b 4 6 5\nslot a 6 10 5\n") (codes "work b given 5 wanted 6\n") statuses.No
unfolding digits
one_short = record { answers = audited (WrongWork 1 (of_whole 5) 6) refl refl }

-- the same told of the other job is no answer
other_short : Row (codes "audit" ∷ []) (codes "job a 0 10 10\njob b 4 6 6\nslot a 0 4 5\nslot b 4 6 5\nslot a 6 10 5\n") (codes "work a given 5 wanted 6\n") statuses.No → ⊥
unfolding digits
other_short row =
    let same = (audit_and_check_answer_once.audit (codes "job a 0 10 10\njob b 4 6 6\nslot a 0 4 5\nslot b 4 6 5\nslot a 6 10 5\n") _ _ _ _ row.answers one_short.answers).0 in
    refuted (test_numbers (codes "work a given 5 wanted 6\n") (codes "work b given 5 wanted 6\n")) refl same

-- a third of a unit of work too little
too_little : Row (codes "audit" ∷ []) (codes "job a 0 4 4\nslot a 0 4 3+2/3\n") (codes "work a given 3+2/3 wanted 4\n") statuses.No
unfolding digits
too_little = record { answers = audited (WrongWork 0 (record { whole = 3; num = 2; den = 3 }) 4) refl refl }

-- no jobs and no slots
nothing : Row (codes "audit" ∷ []) (codes "") (codes "feasible\n") statuses.Done
nothing = record { answers = audited Feasible refl refl }

-- # Judgements

-- three levels, slower and slower
three_levels : Row (codes "check" ∷ [])
    (codes "job a 0 12 4\njob b 2 10 8\njob c 4 6 6\nslot a 0 2 2\nslot b 2 4 2+2/3\nslot c 4 6 6\nslot b 6 10 5+1/3\nslot a 10 12 2\nlevel 6 2\npiece 4 6\nmember c\nlevel 8 6\npiece 2 4\npiece 6 10\nmember b\nlevel 4 4\npiece 0 2\npiece 10 12\nmember a\n")
    (codes "accepted\n") statuses.Done
three_levels = record { answers = checked Accepted refl refl }

-- slots that aren't feasible
slots_fail : Row (codes "check" ∷ []) (codes "job a 1 4 2\nslot a 0 2 2\nlevel 2 3\npiece 1 4\nmember a\n") (codes "K1 early slot 1 a 0 release 1\n") statuses.No
unfolding digits
slots_fail = record { answers = checked (Slots (Early 0)) refl refl }

-- a level without a piece
no_piece : Row (codes "check" ∷ []) (codes "job a 0 4 4\nslot a 0 4 4\nlevel 4 4\nmember a\n") (codes "K2 level 1\n") statuses.No
unfolding digits
no_piece = record { answers = checked (Pieces 0) refl refl }

-- a job that is a member twice
member_twice : Row (codes "check" ∷ []) (codes "job a 0 4 4\nslot a 0 4 4\nlevel 4 4\npiece 0 4\nmember a\nmember a\n") (codes "K3 job a\n") statuses.No
member_twice = record { answers = checked (Members 0) refl refl }

-- each job a member of the other's level
members_exchanged : Row (codes "check" ∷ [])
    (codes "job a 0 10 10\njob b 4 6 6\nslot a 0 4 5\nslot b 4 6 6\nslot a 6 10 5\nlevel 6 2\npiece 4 6\nmember a\nlevel 10 8\npiece 0 4\npiece 6 10\nmember b\n")
    (codes "K4 level 1\n") statuses.No
unfolding digits
members_exchanged = record { answers = checked (Sums 0) refl refl }

-- the slower level first
slower_first : Row (codes "check" ∷ [])
    (codes "job a 0 10 10\njob b 4 6 6\nslot a 0 4 5\nslot b 4 6 6\nslot a 6 10 5\nlevel 10 8\npiece 0 4\npiece 6 10\nmember a\nlevel 6 2\npiece 4 6\nmember b\n")
    (codes "K5 level 2\n") statuses.No
unfolding digits
slower_first = record { answers = checked (Order 1) refl refl }

-- a window that isn't covered
not_covered : Row (codes "check" ∷ []) (codes "job a 0 4 4\nslot a 0 2 4\nlevel 4 2\npiece 0 2\nmember a\n") (codes "K6 job a\n") statuses.No
not_covered = record { answers = checked (Window 0) refl refl }

-- a slot at another speed than its level
other_speed : Row (codes "check" ∷ []) (codes "job a 0 4 4\nslot a 0 2 3\nslot a 2 4 1\nlevel 4 4\npiece 0 4\nmember a\n") (codes "K7 slot 1\n") statuses.No
unfolding digits
other_speed = record { answers = checked (Speed 0) refl refl }

-- and no other judgement
speed_only : Row (codes "check" ∷ []) (codes "job a 0 4 4\nslot a 0 2 3\nslot a 2 4 1\nlevel 4 4\npiece 0 4\nmember a\n") (codes "accepted\n") statuses.Done → ⊥
unfolding digits
speed_only row =
    absurd (cc ((audit_and_check_answer_once.check (codes "job a 0 4 4\nslot a 0 2 3\nslot a 2 4 1\nlevel 4 4\npiece 0 4\nmember a\n") _ _ _ _
    row.answers other_speed.answers).1))

-- a job without work that is a member of no level
no_work : Row (codes "check" ∷ []) (codes "job a 0 4 4\njob b 2 6 0\nslot a 0 4 4\nlevel 4 4\npiece 0 4\nmember a\n") (codes "accepted\n") statuses.Done
no_work = record { answers = checked Accepted refl refl }

-- # Refusals

-- a line of an unknown kind, at its line and column
refused : Row (codes "audit" ∷ []) (codes "job a 0 4 4\n  jobs\n") (codes "refused 2 3 UnknownKind\n") statuses.Refused
unfolding digits
refused = record { answers = record { said = refl; ended = refl } }

-- a question that needs points, for a document without any
no_points : Row (codes "round" ∷ []) (codes "job a 0 4 4\n") (codes "refused no-table\n") statuses.Refused
no_points = record { answers = record { said = refl; ended = refl } }

-- words that ask for nothing
usage : Row (codes "audit" ∷ codes "--point" ∷ []) (codes "job") usage_line statuses.Usage
usage = record { answers = record { said = refl; ended = refl } }
