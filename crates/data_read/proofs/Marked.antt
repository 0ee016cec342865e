-- The printed text of a database as marks: lexemes, with the blanks between them.
use Rattle.std.proofs.Common.{◌≡◌, ℕ, ℤ, pos, negsuc, true, false, List, [], ◌∷◌, ◌++◌, map, refl, sym, ◌∙◌, ap, append_assoc, append-nil, codes}
use Rattle.std.specs.Fmt.{signed_decimal}
use Rattle.std.specs.List.{flat_map, join_by}
use Rattle.std.specs.Option.{option_map_or}
use Rattle.text_lexer.specs.declared.token.TokenKind.TheVariants as k
use Rattle.text_print.specs.Exprs.{commas, joined}
use Rattle.text_print.specs.Marks.{Mark, blank, digits, lower, newline, number, sign, sp, text, text_of_marks, upper, mark_bytes}
use Rattle.type_schema.specs.Schema.{FieldInfo, ModelInfo, Schema}
use Rattle.data_meaning.specs.Values.{Value, Flag, Num, Str, Id, Ids, Nothing, Just}
use Rattle.data_meaning.specs.Database.{Slot, Record, Table, Database, table_of, records_of}
use Rattle.data_print.specs.Texts.{id_text, value_text, slot_text, record_text, table_text, database_text}
use Rattle.data_read.specs.Spelled.{held}

abbrev pub id_marks : ℕ → List Mark
id_marks id = sign k.At ∷ digits id ∷ []

abbrev pub value_marks : Value → List Mark
value_marks (Flag true) = lower (codes "true") ∷ []
value_marks (Flag false) = lower (codes "false") ∷ []
value_marks (Num n) = number n
value_marks (Str bytes) = text bytes ∷ []
value_marks (Id id) = id_marks id
value_marks (Ids ids) = sign k.BracketOpen ∷ (commas (map id_marks ids) ++ sign k.BracketClose ∷ [])
value_marks Nothing = lower (codes "none") ∷ []
value_marks (Just v) = lower (codes "some") ∷ sign k.ParenOpen ∷ (value_marks v ++ sign k.ParenClose ∷ [])

abbrev pub slot_marks : List Slot → FieldInfo → List Mark
slot_marks slots f = lower f.name ∷ sign k.Colon ∷ sp ∷ value_marks (held slots f.number)

abbrev pub record_marks : ModelInfo → Record → List Mark
record_marks m r =
    blank (codes "  ") ∷ sign k.At ∷ digits r.id ∷ sp ∷ sign k.BraceOpen ∷ (commas (map (slot_marks r.slots) m.fields) ++ sign k.BraceClose ∷ newline ∷ [])

-- the next id of a model
abbrev pub next_in : Database → ℕ → ℕ
next_in d m = option_map_or (λ (t : Table). t.next) (table_of d m) 1

abbrev pub table_marks : Database → ModelInfo → List Mark
table_marks d m =
    upper m.name ∷ sp ∷ sign k.At ∷ digits (next_in d m.number) ∷ sp ∷ sign k.BraceOpen ∷ newline
    ∷ (flat_map (record_marks m) (records_of d m.number) ++ sign k.BraceClose ∷ newline ∷ [])

abbrev pub data_marks : Schema → Database → List Mark
data_marks s d = flat_map (table_marks d) s.models

-- ---- their text

text-append : (a b : List Mark) → text_of_marks (a ++ b) ≡ text_of_marks a ++ text_of_marks b
text-append [] b = refl
text-append (x ∷ a) b = ap (λ z. mark_bytes x ++ z) (text-append a b) ∙ sym (append_assoc (mark_bytes x) (text_of_marks a) (text_of_marks b))

text-flat : {A : Type 0} (m : A → List Mark) (f : A → List ℕ) → ((x : A) → text_of_marks (m x) ≡ f x) → (xs : List A) → text_of_marks (flat_map m xs) ≡ flat_map f xs
text-flat m f same [] = refl
text-flat m f same (x ∷ xs) =
    text-append (m x) (flat_map m xs) ∙ ap (λ z. z ++ text_of_marks (flat_map m xs)) (same x) ∙ ap (λ z. f x ++ z) (text-flat m f same xs)

-- behind a comma
text-joined : {A : Type 0} (m : A → List Mark) (f : A → List ℕ) → ((x : A) → text_of_marks (m x) ≡ f x) → (xs : List A)
    → text_of_marks (joined (sign k.Comma ∷ sp ∷ []) (map m xs)) ≡ flat_map (λ x. codes ", " ++ f x) xs
text-joined m f same [] = refl
text-joined m f same (x ∷ xs) =
    ap (λ z. codes ", " ++ z)
    (text-append (m x) (joined (sign k.Comma ∷ sp ∷ []) (map m xs)) ∙ ap (λ z. z ++ text_of_marks (joined (sign k.Comma ∷ sp ∷ []) (map m xs))) (same x)
    ∙ ap (λ z. f x ++ z) (text-joined m f same xs))

text-commas : {A : Type 0} (m : A → List Mark) (f : A → List ℕ) → ((x : A) → text_of_marks (m x) ≡ f x) → (xs : List A)
    → text_of_marks (commas (map m xs)) ≡ join_by f (codes ", ") xs
text-commas m f same [] = refl
text-commas m f same (x ∷ xs) =
    text-append (m x) (joined (sign k.Comma ∷ sp ∷ []) (map m xs)) ∙ ap (λ z. z ++ text_of_marks (joined (sign k.Comma ∷ sp ∷ []) (map m xs))) (same x)
    ∙ ap (λ z. f x ++ z) (text-joined m f same xs)

id-text : (id : ℕ) → text_of_marks (id_marks id) ≡ id_text id
id-text id = ap (λ z. codes "@" ++ z) (append-nil _)

number-text : (n : ℤ) → text_of_marks (number n) ≡ signed_decimal n
number-text (pos n) = append-nil _
number-text (negsuc n) = ap (λ z. 45 ∷ z) (append-nil _)

value-text : (v : Value) → text_of_marks (value_marks v) ≡ value_text v
value-text (Flag true) = refl
value-text (Flag false) = refl
value-text (Num n) = number-text n
value-text (Str bytes) = append-nil _
value-text (Id id) = id-text id
value-text (Ids ids) =
    ap (λ z. codes "[" ++ z)
    (text-append (commas (map id_marks ids)) (sign k.BracketClose ∷ []) ∙ ap (λ z. z ++ codes "]") (text-commas id_marks id_text id-text ids))
value-text Nothing = refl
value-text (Just v) = ap (λ z. codes "some(" ++ z) (text-append (value_marks v) (sign k.ParenClose ∷ []) ∙ ap (λ z. z ++ codes ")") (value-text v))

slot-text : (r : Record) (f : FieldInfo) → text_of_marks (slot_marks r.slots f) ≡ slot_text r f
slot-text r f = ap (λ z. f.name ++ (codes ": " ++ z)) (value-text (held r.slots f.number) ∙ sym (append-nil (value_text (held r.slots f.number))))

record-text : (m : ModelInfo) (r : Record) → text_of_marks (record_marks m r) ≡ record_text m r
record-text m r =
    let fields = commas (map (slot_marks r.slots) m.fields) in
    ap (λ z. codes "  " ++ z)
    (ap (λ z. id_text r.id ++ (codes " {" ++ z))
    (text-append fields (sign k.BraceClose ∷ newline ∷ []) ∙ ap (λ z. z ++ codes "}\n") (text-commas (slot_marks r.slots) (slot_text r) (slot-text r) m.fields)))

table-text : (d : Database) (m : ModelInfo) → text_of_marks (table_marks d m) ≡ table_text m.name d m
table-text d m =
    let rows = flat_map (record_marks m) (records_of d m.number) in
    ap (λ z. m.name ++ (codes " " ++ (id_text (next_in d m.number) ++ (codes " {\n" ++ z))))
    (text-append rows (sign k.BraceClose ∷ newline ∷ []) ∙ ap (λ z. z ++ codes "}\n") (text-flat (record_marks m) (record_text m) (record-text m) (records_of d m.number)))

pub data-text : (s : Schema) (d : Database) → text_of_marks (data_marks s d) ≡ database_text s d
data-text s d = text-flat (table_marks d) (λ m. table_text m.name d m) (table-text d) s.models
