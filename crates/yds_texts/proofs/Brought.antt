-- Reading in parts: bytes that bring a document that was read so far to a longer one.
use Rattle.yds_model.proofs.Common.{◌≡◌, ◌≢◌, ℕ, ◌+◌, ◌<◌, ◌≤◌, true, false, ◌==◌, List, [], ◌∷◌, ◌++◌, length, map, Ok, refl, sym, ap, subst, ◌∙◌, arith, append-nil, append_assoc, Bool, if◌then◌else◌, All, All-cons, AllByRecursion, join_with_byte, flat_map, All-weaker, or_from, ne_eqb, Document, no_document, Line, Field, is_blank, joined, fields_from, document_said, lines_from, without_return, trimmed, fields_of, lines_of, Entry, read_fields, begins_comment, is_skipped, read_line, live_lines, read_after, reading, line, IsFull, spaced, fields_from-join, lines_from-written, without_return-none, All-join}
use Rattle.model_lemmas.proofs.Said.{Says}

-- ---- one line

-- bytes that are a field of a line: some, and each of them visible
pub record IsWord (text : List ℕ) : Type 0 where
  pub some : 0 < length text
  pub visible : All (λ byte. 33 ≤ byte) text

-- a visible byte is no blank
visible_full : (byte : ℕ) → 33 ≤ byte → is_blank byte ≡ false
visible_full byte visible =
    or_from (byte == 32) (byte == 9) (ne_eqb byte 32 (λ (same : byte ≡ 32). omega arith)) (ne_eqb byte 9 (λ (same : byte ≡ 9). omega arith))

-- so a word is a field without a blank in it
word_full : (text : List ℕ) → IsWord text → IsFull text
word_full text word = grind arith

-- and so are words
words_full : (texts : List (List ℕ)) → AllByRecursion IsWord texts → AllByRecursion IsFull texts
words_full [] words = tt
words_full (text ∷ texts) words = (word_full text words.0, words_full texts words.1)

-- no byte of words with one space between is this one, as a line feed or a carriage return
words_without : (other : ℕ) → other < 32 → (texts : List (List ℕ)) → AllByRecursion IsWord texts → All (λ byte. byte ≢ other) (join_with_byte 32 texts)
words_without other low texts words =
    All-weaker (λ byte. 32 ≤ byte) (λ byte. byte ≢ other) (λ byte (high : 32 ≤ byte) (same : byte ≡ other). omega arith) (join_with_byte 32 texts)
    (All-join (λ byte. 32 ≤ byte) texts (omega arith) (high texts words))
  where
    -- each byte of words is a space or greater
    high : (texts : List (List ℕ)) → AllByRecursion IsWord texts → AllByRecursion (All (λ byte. 32 ≤ byte)) texts
    high [] words = tt
    high (text ∷ texts) words =
        (All-weaker (λ byte. 33 ≤ byte) (λ byte. 32 ≤ byte) (λ byte (visible : 33 ≤ byte). omega arith) text words.0.visible, high texts words.1)

-- the lines that are read of these bytes, from a line's number and a place on
abbrev pub live_from : ℕ → ℕ → List ℕ → List Line
live_from number start bytes = live_lines (map trimmed (lines_from number start bytes))

-- a line that isn't skipped is read
live_lines-line : (line : Line) (lines : List Line) → is_skipped line ≡ false → live_lines (line ∷ lines) ≡ line ∷ live_lines lines
live_lines-line line lines live = rw live refl

-- the entry of a line is read before those of the lines after it
read_after-line : (earlier : List Entry) (line : Line) (lines : List Line) (entry : Entry) → read_line earlier line ≡ Ok entry →
    read_after earlier (line ∷ lines) ≡ read_after (earlier ++ entry ∷ []) lines
read_after-line earlier first lines entry is = rw (is, read_after) refl

-- a line is read as its fields are
read_line-fields : (earlier : List Entry) (line : Line) (fields : List Field) (entry : Entry) → fields_of line.text ≡ fields →
    read_fields earlier fields ≡ Ok entry → read_line earlier line ≡ Ok entry
read_line-fields earlier line fields entry same is = rw (same, is) refl

-- a written line says its entry
line_says : (earlier : List Entry) (texts : List (List ℕ)) (entry : Entry) (number start : ℕ) (rest : List ℕ) → AllByRecursion IsWord texts →
    begins_comment (spaced 1 texts) ≡ false → read_fields earlier (spaced 1 texts) ≡ Ok entry →
    read_after earlier (live_from number start (line texts ++ rest))
    ≡ read_after (earlier ++ entry ∷ []) (live_from (number + 1) (start + length (join_with_byte 32 texts) + 1) rest)
line_says earlier texts entry number start rest words live is =
    let text : List ℕ = join_with_byte 32 texts in
    let kept : without_return text ≡ text = without_return-none text (words_without 13 (omega arith) texts words) in
    let fields : fields_of text ≡ spaced 1 texts = fields_from-join 1 texts (words_full texts words) in
    let first : Line = record { number = number; start = start; text = text } in
    let others : List Line = map trimmed (lines_from (number + 1) (start + length text + 1) rest) in
    let shown : is_skipped first ≡ false = ap begins_comment fields ∙ live in
    ap (λ lines. read_after earlier (live_lines (map trimmed lines))) (lines_from-written number start text rest (words_without 10 (omega arith) texts words))
    ∙ ap (λ (text : List ℕ). read_after earlier (live_lines (record { number = number; start = start; text = text } ∷ others))) kept
    ∙ ap (read_after earlier) (live_lines-line first others shown)
    ∙ read_after-line earlier first (live_lines others) entry (read_line-fields earlier first (spaced 1 texts) entry fields is)

-- ---- a comment, whatever it says

-- a field in front of others, by its first byte
first_of_joined : (byte : ℕ) (same : Bool) (fields : List Field) (field : Field) → (byte == 35) ≡ true →
    begins_comment (if same then record { column = 1; text = byte ∷ field.text } ∷ fields else record { column = 1; text = byte ∷ [] } ∷ field ∷ fields) ≡ true
first_of_joined byte true fields field hash = hash
first_of_joined byte false fields field hash = hash

hash_joined : (fields : List Field) → begins_comment (joined 1 35 fields) ≡ true
hash_joined [] = refl
hash_joined (field ∷ fields) = first_of_joined 35 (field.column == 2) fields field refl

-- a line that begins with `#` is skipped, also where a carriage return ends it
hash_skipped : (number start : ℕ) (text : List ℕ) → is_skipped (trimmed (record { number = number; start = start; text = 35 ∷ text })) ≡ true
hash_skipped number start [] = refl
hash_skipped number start (byte ∷ text) = hash_joined (fields_from 2 (without_return (byte ∷ text)))

-- a line that is skipped isn't read
live_lines-skipped : (line : Line) (lines : List Line) → is_skipped line ≡ true → live_lines (line ∷ lines) ≡ live_lines lines
live_lines-skipped line lines skipped = rw skipped refl

-- ---- parts of a text

-- Where P holds of what earlier lines said, these bytes are read, and Q holds of all that was said then.
abbrev pub Leads : (List Entry → Type 0) → List ℕ → (List Entry → Type 0) → Type 0
Leads P bytes Q = (earlier : List Entry) → P earlier → (number start : ℕ) (rest : List ℕ) →
    (entries : List Entry) × (next : ℕ) × (place : ℕ) × Q entries
    × (read_after earlier (live_from number start (bytes ++ rest)) ≡ read_after entries (live_from next place rest))

-- no byte leads nowhere
pub Leads-nil : (P : List Entry → Type 0) → Leads P [] P
Leads-nil P earlier said number start rest = (earlier, number, start, said, refl)

-- bytes that lead on, and others that lead on from there
pub Leads-append : (P Q R : List Entry → Type 0) (front back : List ℕ) → Leads P front Q → Leads Q back R → Leads P (front ++ back) R
Leads-append P Q R front back first second earlier said number start rest =
    let one = first earlier said number start (back ++ rest) in
    let two = second one.0 one.3 one.1 one.2 rest in
    (two.0, two.1, two.2, two.3, ap (λ bytes. read_after earlier (live_from number start bytes)) (append_assoc front back rest) ∙ one.4 ∙ two.4)

-- one line
pub Leads-line : (P Q : List Entry → Type 0) (texts : List (List ℕ)) → AllByRecursion IsWord texts → begins_comment (spaced 1 texts) ≡ false →
    ((earlier : List Entry) → P earlier → (entry : Entry) × (read_fields earlier (spaced 1 texts) ≡ Ok entry) × Q (earlier ++ entry ∷ [])) →
    Leads P (line texts) Q
Leads-line P Q texts words live says earlier said number start rest =
    let one = says earlier said in (
      earlier ++ one.0 ∷ [],
      number + 1,
      start + length (join_with_byte 32 texts) + 1,
      one.2,
      line_says earlier texts one.0 number start rest words live one.1,
    )

-- a comment, without a line feed in it
pub Leads-comment : (P : List Entry → Type 0) (text : List ℕ) → All (λ byte. byte ≢ 10) text → Leads P (35 ∷ text ++ 10 ∷ []) P
Leads-comment P text none earlier said number start rest =
    let first : Line = record { number = number; start = start; text = 35 ∷ text } in
    let others : List Line = map trimmed (lines_from (number + 1) (start + length (35 ∷ text) + 1) rest) in
    let without : All (λ byte. byte ≢ 10) (35 ∷ text) = All-cons (λ byte. byte ≢ 10) 35 text (λ same. omega (arith, same)) none in (
      earlier,
      number + 1,
      start + length (35 ∷ text) + 1,
      said,
      ap (λ lines. read_after earlier (live_lines (map trimmed lines))) (lines_from-written number start (35 ∷ text) rest without)
          ∙ ap (read_after earlier) (live_lines-skipped (trimmed first) others (hash_skipped number start text)),
    )

-- the lines of each element of a list, one after another
Leads-rest : {X : Type 0} (state : List X → List Entry → Type 0) (text : X → List ℕ) (all before after : List X) → before ++ after ≡ all →
    ((before : List X) (x : X) (after : List X) → before ++ x ∷ after ≡ all → Leads (state before) (text x) (state (before ++ x ∷ []))) →
    Leads (state before) (flat_map text after) (state all)
Leads-rest state text all before [] is each = subst (λ xs. Leads (state before) [] (state xs)) (sym (append-nil before) ∙ is) (Leads-nil (state before))
Leads-rest state text all before (x ∷ after) is each =
    Leads-append (state before) (state (before ++ x ∷ [])) (state all) (text x) (flat_map text after)
    (each before x after is)
    (Leads-rest state text all (before ++ x ∷ []) after (append_assoc before (x ∷ []) after ∙ is) each)

-- where the text of each element leads from what is said of those before it to what is said with it, the text of all leads to all
pub Leads-each : {X : Type 0} (state : List X → List Entry → Type 0) (text : X → List ℕ) (all : List X) →
    ((before : List X) (x : X) (after : List X) → before ++ x ∷ after ≡ all → Leads (state before) (text x) (state (before ++ x ∷ []))) →
    Leads (state []) (flat_map text all) (state all)
Leads-each state text all each = Leads-rest state text all [] all refl each

-- the whole
pub read_led : (P Q : List Entry → Type 0) (bytes : List ℕ) (document : Document) → P [] → ((entries : List Entry) → Q entries → document_said entries ≡ document) →
    Leads P bytes Q → reading bytes ≡ Ok document
read_led P Q bytes document begins ends leads =
    let all = leads [] begins 1 0 [] in
    let read : read_after [] (live_lines (lines_of bytes)) ≡ Ok all.0 =
    ap (λ bytes. read_after [] (live_from 1 0 bytes)) (sym (append-nil bytes)) ∙ all.4 in
    rw (read, reading) (ap Ok (ends all.0 all.3))

-- ---- parts of a document's text

-- these entries say this document
abbrev pub IsSaid : Document → List Entry → Type 0
IsSaid document entries = Says entries document

-- after lines that said `before`, these bytes are read, and what was said is `after`
abbrev pub Brings : Document → List ℕ → Document → Type 0
Brings before bytes after = Leads (IsSaid before) bytes (IsSaid after)

-- no byte brings nothing
pub Brings-nil : (before : Document) → Brings before [] before
Brings-nil before = Leads-nil (IsSaid before)

-- bytes that bring a document to a second one, and that to a third, bring it there together
pub Brings-append : (before middle after : Document) (front back : List ℕ) → Brings before front middle → Brings middle back after →
    Brings before (front ++ back) after
Brings-append before middle after front back first second = Leads-append (IsSaid before) (IsSaid middle) (IsSaid after) front back first second

-- one line
pub Brings-line : (before after : Document) (texts : List (List ℕ)) → AllByRecursion IsWord texts → begins_comment (spaced 1 texts) ≡ false →
    ((earlier : List Entry) → Says earlier before →
    (entry : Entry) × (read_fields earlier (spaced 1 texts) ≡ Ok entry) × Says (earlier ++ entry ∷ []) after) →
    Brings before (line texts) after
Brings-line before after texts words live says = Leads-line (IsSaid before) (IsSaid after) texts words live says

-- a comment's line brings nothing
pub Brings-comment : (before : Document) (texts : List (List ℕ)) → AllByRecursion IsWord texts → begins_comment (spaced 1 texts) ≡ true → Brings before (line texts) before
Brings-comment before texts words comment earlier said number start rest =
    let text : List ℕ = join_with_byte 32 texts in
    let kept : without_return text ≡ text = without_return-none text (words_without 13 (omega arith) texts words) in
    let fields : fields_of text ≡ spaced 1 texts = fields_from-join 1 texts (words_full texts words) in
    let others : List Line = map trimmed (lines_from (number + 1) (start + length text + 1) rest) in (
      earlier,
      number + 1,
      start + length text + 1,
      said,
      ap (λ lines. read_after earlier (live_lines (map trimmed lines))) (lines_from-written number start text rest (words_without 10 (omega arith) texts words))
          ∙ ap (λ (text : List ℕ). read_after earlier (live_lines (record { number = number; start = start; text = text } ∷ others))) kept
          ∙ ap (read_after earlier) (live_lines-skipped (record { number = number; start = start; text = text }) others (ap begins_comment fields ∙ comment)),
    )

-- where the text of each element brings what is said of those before it to what is said with it, the text of all brings it to all
pub Brings-each : {X : Type 0} (state : List X → Document) (text : X → List ℕ) (all : List X) →
    ((before : List X) (x : X) (after : List X) → before ++ x ∷ after ≡ all → Brings (state before) (text x) (state (before ++ x ∷ []))) →
    Brings (state []) (flat_map text all) (state all)
Brings-each state text all each = Leads-each (λ some. IsSaid (state some)) text all each

-- the whole
pub read_whole : (bytes : List ℕ) (document : Document) → Brings no_document bytes document → reading bytes ≡ Ok document
read_whole bytes document brings =
    read_led (IsSaid no_document) (IsSaid document) bytes document (record { said = refl; pieces = refl; members = refl }) (λ entries is. is.said) brings
