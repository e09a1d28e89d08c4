-- The text that `serde_json` writes for the value of a report is the one of the definition.
use Rattle.yds_model.proofs.Common.{◌≡◌, ℕ, ◌-◌, ◌/◌, ◌%◌, ◌^◌, ◌<◌, List, [], ◌∷◌, ◌++◌, length, map, ap, sym, ◌∙◌, refl, arith, append_assoc, Bool, true, false, codes, decimal, ◌==◌, if◌then◌else◌, sum_by, All, join_with_byte, All-tail, All-append, All-cons, All-nil, Job, of_whole, common_divisor, in_lowest_terms, first_release, last_deadline, horizon, div-le_self, mod-le, Level, IsLevel, speed_text, level_json, report_json, is_digit, decimal_digits}
use Rattle.json.specs.Print.{escape_byte, escape}
use Rattle.json.proofs.Printed.Strings.{escape_byte_plain}
use Rattle.serde_json.specs.View.{items_of}
use Rattle.serde_json.specs.Written.{compact_text, items_text, has_float, items_have_float}
use Rattle.yds_report.specs.JsonValue.{level_value, report_value}

-- # Strings without escapes

-- the byte stands in a string as it is
abbrev IsPlain : ℕ → Type 0
IsPlain byte = escape_byte byte ≡ byte ∷ []

digit_plain : (byte : ℕ) → is_digit byte ≡ true → IsPlain byte
digit_plain byte digit = escape_byte_plain byte (grind arith) (grind arith) (grind arith)

decimal_plain : (n : ℕ) → n < 2 ^ 64 → All IsPlain (decimal n)
decimal_plain n fits k d within = digit_plain _ (decimal_digits n fits k d within)

escape_plain : (bytes : List ℕ) → All IsPlain bytes → escape bytes ≡ bytes
escape_plain [] plain = refl
escape_plain (byte ∷ bytes) plain =
    ap (λ l. l ++ escape bytes) (plain 0 byte (omega arith)) ∙ ap (λ l. byte ∷ l) (escape_plain bytes (All-tail IsPlain byte bytes plain))

-- so do fractions
fraction_plain_by : (none : Bool) (whole num den : ℕ) → whole < 2 ^ 64 → num < 2 ^ 64 → den < 2 ^ 64 →
    All IsPlain (if none then decimal whole else decimal whole ++ codes "+" ++ decimal num ++ codes "/" ++ decimal den)
unfolding escape_byte
fraction_plain_by true whole num den fits_whole fits_num fits_den = decimal_plain whole fits_whole
fraction_plain_by false whole num den fits_whole fits_num fits_den =
    All-append IsPlain (decimal whole ++ codes "+" ++ decimal num ++ codes "/") (decimal den)
    (All-append IsPlain (decimal whole ++ codes "+" ++ decimal num) (codes "/")
    (All-append IsPlain (decimal whole ++ codes "+") (decimal num)
    (All-append IsPlain (decimal whole) (codes "+") (decimal_plain whole fits_whole) (All-cons IsPlain 43 [] refl (All-nil IsPlain))) (decimal_plain num fits_num))
    (All-cons IsPlain 47 [] refl (All-nil IsPlain))) (decimal_plain den fits_den)

-- # The texts of the parts

-- a text in seven parts
seven : (a b c d e f g : List ℕ) → a ++ b ++ c ++ d ++ e ++ f ++ g ≡ a ++ (b ++ (c ++ (d ++ (e ++ (f ++ g)))))
seven a b c d e f g = simp append_assoc refl

-- a level
level_text : (level : Level) → escape (speed_text level) ≡ speed_text level → compact_text (level_value level) ≡ level_json level
unfolding escape_byte
level_text level plain =
    let speed = speed_text level in
    let rest = codes ",\"work\":" ++ (decimal level.work ++ codes "}") in
    ap (λ s. codes "{\"length\":" ++ (decimal level.length ++ (codes ",\"speed\":" ++ (34 ∷ ((s ++ 34 ∷ []) ++ rest))))) plain
    ∙ ap (λ l. codes "{\"length\":" ++ (decimal level.length ++ (codes ",\"speed\":" ++ (34 ∷ l)))) (append_assoc speed (34 ∷ []) rest)
    ∙ sym (seven (codes "{\"length\":") (decimal level.length) (codes ",\"speed\":\"") speed (codes "\",\"work\":") (decimal level.work) (codes "}"))

-- the levels, with the closing bracket
levels_text : (levels : List Level) → All (λ level. escape (speed_text level) ≡ speed_text level) levels →
    items_text false (items_of (map level_value levels)) ≡ join_with_byte 44 (map level_json levels) ++ 93 ∷ []
levels_text [] plain = refl
levels_text (level ∷ []) plain = ap (λ l. l ++ 93 ∷ []) (level_text level (plain 0 level (omega arith)))
levels_text (level ∷ next ∷ levels) plain =
    ap (λ l. l ++ (44 ∷ items_text false (items_of (map level_value (next ∷ levels))))) (level_text level (plain 0 level (omega arith)))
    ∙ ap (λ l. level_json level ++ (44 ∷ l)) (levels_text (next ∷ levels) (All-tail (λ one. escape (speed_text one) ≡ speed_text one) level (next ∷ levels) plain))
    ∙ sym (append_assoc (level_json level) (44 ∷ join_with_byte 44 (map level_json (next ∷ levels))) (93 ∷ []))

-- # What the writer asks of the value

no_float_levels : (levels : List Level) → items_have_float (items_of (map level_value levels)) ≡ false
no_float_levels [] = refl
no_float_levels (level ∷ levels) = no_float_levels levels

pub no_float : (jobs : List Job) (levels : List Level) → has_float (report_value jobs levels) ≡ false
no_float jobs levels = rw (no_float_levels levels) refl

-- # The whole text

-- a line in parts, of which one has its end for itself, and the end of the line
in_parts : (a F b I c J d L h e T f W g end : List ℕ) →
    (a ++ (F ++ (b ++ (I ++ (c ++ (J ++ (d ++ ((L ++ h) ++ (e ++ (T ++ (f ++ (W ++ g)))))))))))) ++ end
    ≡ a ++ F ++ b ++ I ++ c ++ J ++ d ++ L ++ (h ++ e) ++ T ++ f ++ W ++ (g ++ end)
in_parts a F b I c J d L h e T f W g end = simp append_assoc refl

-- a part of a number over its divisor is no greater
fits_by : (none : Bool) (parts den : ℕ) → parts < 2 ^ 64 → den < 2 ^ 64 →
    (let x = if none then of_whole (parts / den) else record { whole = parts / den; num = parts % den; den = den } in (x.whole < 2 ^ 64) × (x.num < 2 ^ 64) × (x.den < 2 ^ 64))
fits_by true parts den small small_den = let least = div-le_self parts den in (omega arith, omega arith, omega arith)
fits_by false parts den small small_den = let least = div-le_self parts den in let rest = mod-le parts den in (omega arith, omega arith, small_den)

-- so a level's speed has no escapes
speed_plain : (level : Level) → IsLevel level → escape (speed_text level) ≡ speed_text level
speed_plain level fits =
    let g = common_divisor level.work level.length in
    let of_work = div-le_self level.work g in
    let of_length = div-le_self level.length g in
    let small_work = fits.work_in_range in
    let small_length = fits.length_in_range in
    let small = fits_by ((level.work / g) % (level.length / g) == 0) (level.work / g) (level.length / g) (omega arith) (omega arith) in
    let x = in_lowest_terms level.work level.length in
    escape_plain (speed_text level) (fraction_plain_by (x.num == 0) x.whole x.num x.den small.0 small.1 small.2)

-- the text of a report, with its line feed
pub report_text : (jobs : List Job) (levels : List Level) → All IsLevel levels → compact_text (report_value jobs levels) ++ 10 ∷ [] ≡ report_json jobs levels
unfolding escape_byte
report_text jobs levels fit =
    let from = decimal (first_release jobs) in
    let idle = decimal (horizon jobs - sum_by (λ level. level.length) levels) in
    let count = decimal (length jobs) in
    let to = decimal (last_deadline jobs) in
    let work = decimal (sum_by (λ job. job.work) jobs) in
    ap (λ items. (codes "{\"from\":" ++ (from ++ (codes ",\"idle\":" ++ (idle ++ (codes ",\"jobs\":" ++ (count ++ (codes ",\"levels\":[" ++ (items ++ (codes ",\"to\":" ++ (to ++ (codes ",\"work\":" ++ (work ++ codes "}")))))))))))) ++ 10 ∷ [])
    (levels_text levels (λ k d within. speed_plain _ (fit k d within)))
    ∙ in_parts (codes "{\"from\":") from (codes ",\"idle\":") idle (codes ",\"jobs\":") count (codes ",\"levels\":[") (join_with_byte 44 (map level_json levels)) (93 ∷ []) (codes ",\"to\":") to
    (codes ",\"work\":") work (codes "}") (10 ∷ [])
