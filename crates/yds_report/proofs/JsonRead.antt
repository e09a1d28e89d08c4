-- The text of a report is read with its line feed as it is without: after the last token a line feed is no token.
use Rattle.yds_model.proofs.Common.{◌≡◌, ℕ, ◌-◌, ◌^◌, ◌<◌, length, ◌≤◌, Bool, true, false, cond, ◌&&◌, List, [], ◌∷◌, ◌++◌, refl, sym, ap, ap₂, subst, ◌∙◌, append_assoc, append-nil, arith, map, Some, option_and_then, Job, IsJob, Level, sum_by, All, All-tail, IsLevel, first_release, last_deadline, horizon, report_json}
use Rattle.model_lemmas.proofs.Horizon.{last_within, releases_from, works_few}
use Rattle.json.specs.Token.{Token, begin_object, end_object, begin_array, end_array, key, string, number, boolean, null, bad}
use Rattle.json.specs.Word.{ends_word, word}
use Rattle.json.specs.Lex.{token, comma, string_token, lex, between, fresh, punctuate, tokens}
use Rattle.json.specs.Print.{escape, quoted, token_text, begins, ends, print_from, IsPrintable, ArePrintable}
use Rattle.json.specs.Json.{value, if_last}
use Rattle.json.specs.Tree.{json_tokens, HasNumbers}
use Rattle.json.specs.Tree as trees
use Rattle.json.proofs.Printed.Strings.{content-escape, lex-escape}
use Rattle.json.proofs.Printed.Numbers.{lex-number, in_word-ended}
use Rattle.json.proofs.Printed.Trees.{value-json_tokens, ArePrintable-json_tokens}
use Rattle.json.proofs.Printed.Decimals.{IsNumber-decimal}
use Rattle.json.proofs.Printed.Tokens.{tokens-print}
use Rattle.serde_json.proofs.Numbers.{number_of-decimal}
use Rattle.serde_json.specs.Data.{Data}
use Rattle.serde_json.specs.Read.{read, of_json, of_items, max_depth}
use Rattle.serde_json.specs.View.{items_of}
use Rattle.serde_json.specs.Written.{compact_text, outline, items_outline}
use Rattle.serde_json.proofs.Texts.{print-outline}
use Rattle.base.specs.declared.limits.TheConstants.{MAX_JOBS}
use Rattle.yds_report.proofs.JsonText.{report_text}
use Rattle.yds_report.specs.JsonValue.{level_value, report_value, ReportsAreRead}

-- # Tokens before a text

-- after a value stands a comma, a closing bracket or what comes after all
value_ends : (ts : List Token) (r : List ℕ) → ends_word r ≡ true → ends_word (print_from true ts ++ r) ≡ true
unfolding print_from
value_ends [] r ended = ended
value_ends (begin_object ∷ ts) r ended = refl
value_ends (end_object ∷ ts) r ended = refl
value_ends (begin_array ∷ ts) r ended = refl
value_ends (end_array ∷ ts) r ended = refl
value_ends (key s ∷ ts) r ended = refl
value_ends (string s ∷ ts) r ended = refl
value_ends (number s ∷ ts) r ended = refl
value_ends (boolean b ∷ ts) r ended = refl
value_ends (null ∷ ts) r ended = refl
value_ends (bad ∷ ts) r ended = refl

quoted_lexed : (s r : List ℕ) → lex between (quoted s ++ r) ≡ token (string s) ∷ lex between r
unfolding lex
quoted_lexed s r =
    ap (λ l. lex between (34 ∷ l)) (append_assoc (escape s) (34 ∷ []) r) ∙ ap₂ (λ o l. token (string_token o) ∷ l) (content-escape s r) (lex-escape s r)

-- a text that is lexed as another is so after a token too
token_before : (t : Token) (r s : List ℕ) → IsPrintable t → (ends t ≡ true → ends_word r ≡ true) → (ends t ≡ true → ends_word s ≡ true) →
    lex between r ≡ lex between s → lex between (token_text t ++ r) ≡ lex between (token_text t ++ s)
unfolding lex word
token_before begin_object r s printable r_ends s_ends same = ap (λ l. token begin_object ∷ l) same
token_before end_object r s printable r_ends s_ends same = ap (λ l. token end_object ∷ l) same
token_before begin_array r s printable r_ends s_ends same = ap (λ l. token begin_array ∷ l) same
token_before end_array r s printable r_ends s_ends same = ap (λ l. token end_array ∷ l) same
token_before (key k) r s printable r_ends s_ends same =
    ap (lex between) (append_assoc (quoted k) (58 ∷ []) r) ∙ quoted_lexed k (58 ∷ r) ∙ ap (λ l. token (string k) ∷ lex between (58 ∷ []) ++ l) same
    ∙ sym (ap (lex between) (append_assoc (quoted k) (58 ∷ []) s) ∙ quoted_lexed k (58 ∷ s))
token_before (string k) r s printable r_ends s_ends same = quoted_lexed k r ∙ ap (λ l. token (string k) ∷ l) same ∙ sym (quoted_lexed k s)
token_before (number n) r s printable r_ends s_ends same =
    lex-number n r printable (r_ends refl) ∙ ap (λ l. token (number n) ∷ l) same ∙ sym (lex-number n s printable (s_ends refl))
token_before (boolean true) r s printable r_ends s_ends same =
    ap₂ (λ b l. token (cond b (boolean true) bad) ∷ l) (r_ends refl ∙ sym (s_ends refl)) (in_word-ended r (r_ends refl) ∙ same ∙ sym (in_word-ended s (s_ends refl)))
token_before (boolean false) r s printable r_ends s_ends same =
    ap₂ (λ b l. token (cond b (boolean false) bad) ∷ l) (r_ends refl ∙ sym (s_ends refl)) (in_word-ended r (r_ends refl) ∙ same ∙ sym (in_word-ended s (s_ends refl)))
token_before null r s printable r_ends s_ends same =
    ap₂ (λ b l. token (cond b null bad) ∷ l) (r_ends refl ∙ sym (s_ends refl)) (in_word-ended r (r_ends refl) ∙ same ∙ sym (in_word-ended s (s_ends refl)))
token_before bad r s printable r_ends s_ends same = absurd printable

-- and after a comma
comma_before : (b : Bool) (r s : List ℕ) → lex between r ≡ lex between s → lex between (cond b (44 ∷ []) [] ++ r) ≡ lex between (cond b (44 ∷ []) [] ++ s)
unfolding lex
comma_before true r s same = ap (λ l. comma ∷ l) same
comma_before false r s same = same

-- # The line feed

line_feed_lexed : (c : Bool) (ts : List Token) → ArePrintable ts → lex between (print_from c ts ++ 10 ∷ []) ≡ lex between (print_from c ts)
unfolding lex print_from ArePrintable
line_feed_lexed c [] printable = refl
line_feed_lexed c (t ∷ ts) printable =
    let rest = print_from (ends t) ts in
    let separator = cond (c && begins t) (44 ∷ []) [] in
    ap (lex between) (append_assoc separator (token_text t ++ rest) (10 ∷ []) ∙ ap (λ l. separator ++ l) (append_assoc (token_text t) rest (10 ∷ [])))
    ∙ comma_before (c && begins t) (token_text t ++ (rest ++ 10 ∷ [])) (token_text t ++ rest)
    (token_before t (rest ++ 10 ∷ []) rest printable.0 (λ ended. ap (λ b. ends_word (print_from b ts ++ 10 ∷ [])) ended ∙ value_ends ts (10 ∷ []) refl)
    (λ ended. ap (λ b. ends_word (print_from b ts)) ended ∙ ap ends_word (sym (append-nil (print_from true ts))) ∙ value_ends ts [] refl)
    (line_feed_lexed (ends t) ts printable.1))

-- a value whose numbers are numbers is read from its text with a line feed as from its text
pub line_feed_read : (d : Data) → HasNumbers (outline d) → read (compact_text d ++ 10 ∷ []) ≡ read (compact_text d)
line_feed_read d numbers =
    let ts = json_tokens (outline d) in
    let lexed : lex between (compact_text d ++ 10 ∷ []) ≡ lex between (compact_text d) =
    subst (λ (text : List ℕ). lex between (text ++ 10 ∷ []) ≡ lex between text) (print-outline d) (line_feed_lexed false ts (ArePrintable-json_tokens (outline d) numbers)) in
    ap (λ lexemes. option_and_then of_json (option_and_then (λ p. if_last p.0 p.1) (value max_depth (punctuate fresh lexemes)))) lexed

-- # The report

depth_levels : (levels : List Level) → trees.items_depth (items_outline (items_of (map level_value levels))) ≤ 1
depth_levels [] = omega arith
depth_levels (level ∷ levels) = let rest = depth_levels levels in grind arith

-- the numbers of levels are numbers of JSON
levels_numbers : (levels : List Level) → All IsLevel levels → trees.ItemsHaveNumbers (items_outline (items_of (map level_value levels)))
levels_numbers [] fit = tt
levels_numbers (level ∷ levels) fit =
    let one = fit 0 level (omega arith) in
    let small_length = one.length_in_range in
    let small_work = one.work_in_range in (
      (IsNumber-decimal level.length (omega arith), (tt, (IsNumber-decimal level.work (omega arith), tt))),
      levels_numbers levels (All-tail IsLevel level levels fit),
    )

-- and are read as what they are
level_back : (level : Level) → IsLevel level → of_json (outline (level_value level)) ≡ Some (level_value level)
level_back level one = grind (arith, number_of-decimal)

levels_back : (levels : List Level) → All IsLevel levels → of_items (items_outline (items_of (map level_value levels))) ≡ Some (items_of (map level_value levels))
levels_back [] fit = refl
levels_back (level ∷ levels) fit =
    rw (level_back level (fit 0 level (omega arith)), levels_back levels (All-tail IsLevel level levels fit)) refl

-- the other numbers of a report are below 2 to the power of 64
record AreSmall (jobs : List Job) (levels : List Level) : Type 0 where
  first : first_release jobs < 2 ^ 64
  idle : horizon jobs - sum_by (λ level. level.length) levels < 2 ^ 64
  count : length jobs < 2 ^ 64
  last : last_deadline jobs < 2 ^ 64
  work : sum_by (λ job. job.work) jobs < 2 ^ 64

-- so the report's numbers are numbers of JSON, and are read as what they are
report_numbers : (jobs : List Job) (levels : List Level) → All IsLevel levels → AreSmall jobs levels → HasNumbers (outline (report_value jobs levels))
report_numbers jobs levels fit small = (
  IsNumber-decimal (first_release jobs) small.first,
  (
    IsNumber-decimal (horizon jobs - sum_by (λ level. level.length) levels) small.idle,
    (
      IsNumber-decimal (length jobs) small.count,
      (
        levels_numbers levels fit,
        (
          IsNumber-decimal (last_deadline jobs) small.last,
          (IsNumber-decimal (sum_by (λ job. job.work) jobs) small.work, tt),
        ),
      ),
    ),
  ),
)

report_back : (jobs : List Job) (levels : List Level) → All IsLevel levels → AreSmall jobs levels → of_json (outline (report_value jobs levels)) ≡ Some (report_value jobs levels)
report_back jobs levels fit small =
    rw (
      number_of-decimal (first_release jobs) small.first,
      number_of-decimal (horizon jobs - sum_by (λ level. level.length) levels) small.idle,
      number_of-decimal (length jobs) small.count,
      levels_back levels fit,
      number_of-decimal (last_deadline jobs) small.last,
      number_of-decimal (sum_by (λ job. job.work) jobs) small.work,
    ) refl

-- what is written for a value whose numbers are numbers, and are read as what they are, is read as it
written_read : (d : Data) → HasNumbers (outline d) → trees.depth (outline d) ≤ max_depth → of_json (outline d) ≡ Some d → read (compact_text d) ≡ Some d
written_read d numbers shallow back =
    let ts = json_tokens (outline d) in
    let lexed : tokens (compact_text d) ≡ ts ++ [] =
    ap tokens (sym (print-outline d)) ∙ tokens-print ts (ArePrintable-json_tokens (outline d) numbers) ∙ sym (append-nil ts) in
    ap (λ ts. option_and_then of_json (option_and_then (λ p. if_last p.0 p.1) (value max_depth ts))) lexed
    ∙ ap (λ parsed. option_and_then of_json (option_and_then (λ p. if_last p.0 p.1) parsed)) (value-json_tokens (outline d) max_depth [] shallow)
    ∙ back

-- the text of a report is read as the report
report_read : (jobs : List Job) (levels : List Level) → All IsLevel levels → AreSmall jobs levels → read (report_json jobs levels) ≡ Some (report_value jobs levels)
report_read jobs levels fit small =
    let d = report_value jobs levels in
    let numbers = report_numbers jobs levels fit small in
    let shallow : trees.depth (outline d) ≤ max_depth = let most = depth_levels levels in grind arith in
    ap read (sym (report_text jobs levels fit)) ∙ line_feed_read d numbers ∙ written_read d numbers shallow (report_back jobs levels fit small)

-- the numbers of jobs within their limits are small
small_numbers : (jobs : List Job) (levels : List Level) → All IsJob jobs → length jobs ≤ MAX_JOBS → AreSmall jobs levels
small_numbers jobs levels fit few = grind (arith, last_within, releases_from, works_few)

-- the law of it
pub reports_are_read : ReportsAreRead
reports_are_read jobs levels fit few levels_fit = report_read jobs levels levels_fit (small_numbers jobs levels fit few)

-- so a text that is one is read as the report
pub text_read : (text : List ℕ) (jobs : List Job) (levels : List Level) → text ≡ report_json jobs levels → All IsJob jobs → length jobs ≤ MAX_JOBS → All IsLevel levels →
    read text ≡ Some (report_value jobs levels)
text_read text jobs levels is fit few levels_fit = ap read is ∙ reports_are_read jobs levels fit few levels_fit
