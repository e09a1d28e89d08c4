-- What reports are worth, tried on the plan of three nested jobs.
use Rattle.yds_model.proofs.Common.{◌≡◌, ℕ, ◌<◌, List, [], ◌∷◌, length, codes, Some, Ok, refl, sym, ap, subst, ◌∙◌, arith, digits, slice_index_or, WrittenSlot, Document, no_document, reading, Level, level_at, IsPlan}
use Rattle.yds_model.specs.ReportAnswer.{report_text}
use Rattle.serde_json.specs.Read.{read}
use Rattle.serde_json.proofs.OnLiterals.{serde_json_on_literals}
use Rattle.yds_laws.proofs.Plans.{plans_have_the_same_levels}
use Rattle.yds_report.specs.JsonText.{HoldsReport}
use Rattle.yds_report.specs.JsonValue.{numbers_value, report_value}
use Rattle.yds_report.specs.TableText.{HoldsTable}
use Rattle.yds_examples.proofs.ThreeJobs.{jobs, slots, levels, level_a, level_b, level_c, plan}

abbrev input : List ℕ
input = codes "job a 0 12 4\njob b 2 10 8\njob c 4 6 6\n"

abbrev document : Document
document = record no_document { names = codes "a" ∷ codes "b" ∷ codes "c" ∷ []; jobs = jobs }

is_read : reading input ≡ Ok document
unfolding digits
is_read = refl

-- # What the levels of every plan of these jobs say

-- a level of this work and length
abbrev of_numbers : ℕ → ℕ → Level
of_numbers work long = record { work = work; length = long; pieces = []; members = [] }

-- levels of the works and lengths of the plan's
abbrev AreTheseNumbers : List Level → Type 0
AreTheseNumbers others =
    (length levels ≡ length others)
    × ((i : ℕ) → i < length levels → ((level_at levels i).work ≡ (level_at others i).work) × ((level_at levels i).length ≡ (level_at others i).length))

-- tell what the plan's do, where only these numbers are told
same_told : {X : Type 0} (told : List Level → X) →
    ((x y z : Level) → told (x ∷ y ∷ z ∷ []) ≡ told (of_numbers x.work x.length ∷ of_numbers y.work y.length ∷ of_numbers z.work z.length ∷ [])) →
    (others : List Level) → AreTheseNumbers others → told others ≡ told levels
same_told told only [] same = absurd (omega (arith, same.0))
same_told told only (x ∷ []) same = absurd (omega (arith, same.0))
same_told told only (x ∷ y ∷ []) same = absurd (omega (arith, same.0))
same_told told only (x ∷ y ∷ z ∷ more ∷ others) same = absurd (omega (arith, same.0))
same_told {X} told only (x ∷ y ∷ z ∷ []) same =
    let numbers : ℕ → ℕ → ℕ → ℕ → ℕ → ℕ → X = λ a b c d e f. told (of_numbers a b ∷ of_numbers c d ∷ of_numbers e f ∷ []) in
    let x_work : x.work ≡ 6 = sym (same.1 0 (omega arith)).0 in
    let x_length : x.length ≡ 2 = sym (same.1 0 (omega arith)).1 in
    let y_work : y.work ≡ 8 = sym (same.1 1 (omega arith)).0 in
    let y_length : y.length ≡ 6 = sym (same.1 1 (omega arith)).1 in
    let z_work : z.work ≡ 4 = sym (same.1 2 (omega arith)).0 in
    let z_length : z.length ≡ 4 = sym (same.1 2 (omega arith)).1 in
    let these : numbers x.work x.length y.work y.length z.work z.length ≡ numbers 6 2 8 6 4 4 = rw (x_work, x_length, y_work, y_length, z_work, z_length) refl in
    only x y z ∙ these ∙ sym (only level_c level_b level_a)

-- the levels of a plan of a document that the input is
levels_told : (other : Document) (written : List WrittenSlot) (others : List Level) → reading input ≡ Ok other → IsPlan other.jobs written others →
    (other ≡ document) × AreTheseNumbers others
levels_told other written others read is_plan =
    let both = sym is_read ∙ read in
    let same : other ≡ document = cc in
    (same, plans_have_the_same_levels jobs slots written levels others plan (subst (λ (d : Document). IsPlan d.jobs written others) same is_plan))

-- # A table

abbrev table : List ℕ
table = codes "jobs 3 work 18 from 0 to 12\n    1          6          2 3\n    2          8          6 1+1/3\n    3          4          4 1\nidle 0\n"

its_text : table ≡ report_text jobs levels
unfolding digits
its_text = refl

-- These bytes are the table of the three jobs,
table_met : HoldsTable input table
table_met = (document, slots, levels, record { is_read = is_read; plan = plan; written = its_text })

-- and no others are,
table_alone : (text : List ℕ) → HoldsTable input text → text ≡ table
table_alone text (other, written, others, is) =
    let told = levels_told other written others is.is_read is.plan in
    is.written ∙ ap (λ (d : Document). report_text d.jobs others) told.0 ∙ same_told (report_text jobs) (λ x y z. refl) others told.1 ∙ sym its_text

-- so not those that tell another idle time,
idle_one_row : HoldsTable input (codes "jobs 3 work 18 from 0 to 12\n    1          6          2 3\n    2          8          6 1+1/3\n    3          4          4 1\nidle 1\n") → ⊥
idle_one_row holds = absurd (omega (arith, ap (λ text. slice_index_or text 127 0) (table_alone _ holds)))

-- nor those of one level of all work over the whole time.
one_level_row : HoldsTable input (codes "jobs 3 work 18 from 0 to 12\n    1         18         12 1+1/2\nidle 0\n") → ⊥
one_level_row holds = absurd (omega (arith, ap length (table_alone _ holds)))

-- # A report of JSON

abbrev json_text : List ℕ
json_text = codes "{\"from\":0,\"idle\":0,\"jobs\":3,\"levels\":[{\"length\":2,\"speed\":\"3\",\"work\":6},{\"length\":6,\"speed\":\"1+1/3\",\"work\":8},{\"length\":4,\"speed\":\"1\",\"work\":4}],\"to\":12,\"work\":18}\n"

-- The text that is written is read as the report of the three jobs,
json_met : HoldsReport input json_text
unfolding digits serde_json_on_literals
json_met = (document, slots, levels, record { is_read = is_read; plan = plan; value = refl })

-- and so is one with blanks, in another order, with a key that stands twice: what the reader makes of it is the same.
json_of_another_order : HoldsReport input (codes "{ \"work\":7, \"work\":18,\"to\":12,\"levels\":[{\"work\":6,\"speed\":\"3\",\"length\":2},{\"length\":6,\"speed\":\"1+1/3\",\"work\":8},{\"length\":4,\"speed\":\"1\",\"work\":4}],\"jobs\":3,\"idle\":0,\"from\":0}")
unfolding digits serde_json_on_literals
json_of_another_order = (document, slots, levels, record { is_read = is_read; plan = plan; value = refl })

-- What is read as another value is no report of the three jobs:
value_alone : (text : List ℕ) → HoldsReport input text → read text ≡ Some (report_value jobs levels)
value_alone text (other, written, others, is) =
    let told = levels_told other written others is.is_read is.plan in
    is.value ∙ ap (λ (d : Document). Some (report_value d.jobs others)) told.0 ∙ ap Some (same_told (report_value jobs) (λ x y z. refl) others told.1)

-- the same text with an idle time of 1.
abbrev idle_one_text : List ℕ
idle_one_text = codes "{\"from\":0,\"idle\":1,\"jobs\":3,\"levels\":[{\"length\":2,\"speed\":\"3\",\"work\":6},{\"length\":6,\"speed\":\"1+1/3\",\"work\":8},{\"length\":4,\"speed\":\"1\",\"work\":4}],\"to\":12,\"work\":18}\n"

idle_one_value : read idle_one_text ≡ Some (numbers_value 0 1 3 levels 12 18)
unfolding digits serde_json_on_literals
idle_one_value = refl

idle_one : HoldsReport input idle_one_text → ⊥
idle_one holds =
    let both : Some (numbers_value 0 1 3 levels 12 18) ≡ Some (report_value jobs levels) = sym idle_one_value ∙ value_alone idle_one_text holds in
    let idle : ◌≡◌ {A = ℕ} 1 0 = cc in
    absurd (omega (arith, idle))
