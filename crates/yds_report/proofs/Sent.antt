-- What the levels of a report send to a writer, one after another.
use Rattle.yds_model.proofs.Common.{◌≡◌, ℕ, ◌+◌, ◌<◌, ◌≤◌, List, [], ◌∷◌, ◌++◌, length, map, drop, get_or, refl, sym, subst, add-one, Some, ap, ◌∙◌, arith, All, drop-cons, drop_all, Job, report_json, Level, IsLevel}
use Rattle.serde.specs.Event.{Log, Logs, seq_begins, seq_ends}
use Rattle.serde_json.specs.Data.{Data, array}
use Rattle.serde_json.specs.Events.{items_len, SendsValue, SendsItems}
use Rattle.serde_json.specs.Sent.{IsTextOf}
use Rattle.serde_json.specs.View.{items_of}
use Rattle.serde_json.specs.Written.{has_float, compact_text}
use Rattle.serde_json.proofs.FreeTexts.{text_of_value}
use Rattle.yds_report.specs.JsonValue.{level_value, numbers_value, report_value}
use Rattle.yds_report.proofs.JsonText.{no_float, report_text}

-- as many items as levels
items_count : (levels : List Level) → items_len (items_of (map level_value levels)) ≡ length levels
items_count [] = refl
items_count (level ∷ levels) = omega (arith, items_count levels)

-- the levels from a place on, with the end
abbrev pub SendsFrom : List Level → ℕ → Log → Log → Type 0
SendsFrom levels i old new = SendsItems (items_of (map level_value (drop i levels))) old new

-- a level, and then those after it
pub sent_next : (levels : List Level) (i : ℕ) (level : Level) (old mid last : Log) → i < length levels → level ≡ get_or levels i level →
    SendsValue (level_value level) old mid → SendsFrom levels (i + 1) mid last → SendsFrom levels i old last
sent_next levels i level old mid last within is one rest = grind (arith, add-one, drop-cons)

-- at the end nothing but the end
sent_end : (levels : List Level) (i : ℕ) (old last : Log) → length levels ≤ i → Logs old last seq_ends → SendsFrom levels i old last
sent_end levels i old last beyond ended = grind (arith, drop_all)

-- all of them, between the marks of an array
pub sent_all : (levels : List Level) (i : ℕ) (old begun here last : Log) → length levels ≤ i → Logs old begun (seq_begins (Some (length levels))) →
    ((last : Log) → SendsFrom levels i here last → SendsFrom levels 0 begun last) → Logs here last seq_ends →
    SendsValue (array (items_of (map level_value levels))) old last
sent_all levels i old begun here last beyond began carried ended =
    let B : ℕ → Type 0 = λ n. Logs old begun (seq_begins (Some n)) in
    (begun, subst B (sym (items_count levels)) began, carried last (sent_end levels i here last beyond ended))

-- # The whole text

-- a report of the same numbers
pub same_numbers : (from from' idle idle' count : ℕ) (levels : List Level) (to to' work work' : ℕ) → from ≡ from' → idle ≡ idle' → to ≡ to' → work ≡ work' →
    numbers_value from idle count levels to work ≡ numbers_value from' idle' count levels to' work'
same_numbers from from' idle idle' count levels to to' work work' first second third fourth = cc

-- what was sent as a report is its text, but for the line feed
pub sent_text : (jobs : List Job) (levels : List Level) (sent : Data) (log : Log) (text : List ℕ) → All IsLevel levels → sent ≡ report_value jobs levels →
    SendsValue sent (Some []) log → IsTextOf log text → text ++ 10 ∷ [] ≡ report_json jobs levels
sent_text jobs levels sent log text fit is logged written =
    ap (λ l. l ++ 10 ∷ []) (text_of_value sent log text logged written (ap has_float is ∙ no_float jobs levels) ∙ ap compact_text is)
    ∙ report_text jobs levels fit
