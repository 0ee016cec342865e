-- Tables, as they are printed, spell trees that write them.
use Rattle.std.proofs.Common.{◌≤◌, ℕ, suc, List, [], ◌∷◌, ◌++◌, map, refl, ◌∙◌, ap}
use Rattle.std.specs.List.{AllByRecursion, AllZip, flat_map}
use Rattle.text_lexer.specs.declared.limits.TheConstants.{LARGEST_NUMBER}
use Rattle.text_lexer.specs.declared.token.TokenKind.TheVariants as k
use Rattle.text_lexer.specs.Lexeme.{Lexeme, sign_of}
use Rattle.text_tree.specs.ExprGrammar.{named}
use Rattle.text_tree.specs.Forms.{AnyNumber, Lower, Sign, Spells, Upper, both, each, part, token}
use Rattle.text_tree.specs.Levels.{SpellsPart}
use Rattle.text_print.specs.Exprs.{commas}
use Rattle.text_print.specs.Marks.{lexemes_of_marks, newline, sign as mark}
use Rattle.type_schema.specs.Schema.{FieldInfo, ModelInfo, Schema}
use Rattle.data_meaning.specs.Values.{IsValueOf}
use Rattle.data_meaning.specs.Database.{Slot, Record, Database, records_of}
use Rattle.data_tree.specs.Grammar.{Value, behind, data_form, field_form, id_form, listed, record_form, rule, sign, table_form}
use Rattle.text_print.proofs.Tokens.{at, part_of}
use Rattle.data_read.specs.Spelled.{IsFieldLitOf, IsRecordLitOf, IsTableLitOf, held}
use Rattle.data_read.specs.Words.{HasWordsIn, IsFieldName}
use Rattle.data_read.proofs.Forms.{Any, Pieces, Told, told-as, told-behind, told-both, told-each, told-mapped, told-sign}
use Rattle.data_read.proofs.Listed.{lexemes-append, lexemes-flat, told-listed}
use Rattle.data_read.proofs.Marked.{data_marks, id_marks, next_in, record_marks, slot_marks, table_marks}
use Rattle.data_read.proofs.TokensTold.{told-field-name, told-model-name}
use Rattle.data_read.proofs.ValuesTold.{told-id-form, value-told}

module _ (S : Pieces) where
  brace-open : Told Any (Spells S (sign k.BraceOpen)) (at k.BraceOpen (sign_of k.BraceOpen) ∷ [])
  brace-open = told-sign S k.BraceOpen (part_of (at k.BraceOpen (sign_of k.BraceOpen)) (record { form = refl; limits = tt }) refl)

  brace-close : Told Any (Spells S (sign k.BraceClose)) (at k.BraceClose (sign_of k.BraceClose) ∷ [])
  brace-close = told-sign S k.BraceClose (part_of (at k.BraceClose (sign_of k.BraceClose)) (record { form = refl; limits = tt }) refl)

  told-colon : Told Any (Spells S (sign k.Colon)) (at k.Colon (sign_of k.Colon) ∷ [])
  told-colon = told-sign S k.Colon (part_of (at k.Colon (sign_of k.Colon)) (record { form = refl; limits = tt }) refl)

-- a field whose name is a word, with a value of its type
abbrev pub IsSlotIn : List Slot → FieldInfo → Type 0
IsSlotIn slots f = IsFieldName f.name × IsValueOf f.ty (held slots f.number)

abbrev levels : ℕ → Pieces
levels n = SpellsPart rule (suc (suc n))

field-told : (n : ℕ) (slots : List Slot) (f : FieldInfo) → IsSlotIn slots f → Told (IsFieldLitOf slots f) (Spells (levels n) field_form) (lexemes_of_marks (slot_marks slots f))
unfolding field_form
field-told n slots f (name, value) =
    let S = levels n in
    told-mapped S (λ v. record { name = named v.0; value = v.1 }) (both (token Lower) (behind (sign k.Colon) (part Value))) (IsFieldLitOf slots f)
    (λ v is. record { name = is.0; value = is.1 })
    (told-both S (token Lower) (behind (sign k.Colon) (part Value)) (told-field-name S f.name name)
    (told-behind S (Sign k.Colon) (at k.Colon (sign_of k.Colon)) (part Value) (told-colon S) (value-told n f.ty (held slots f.number) value)))

-- a record with an id that can be written, of such fields
pub record IsRowIn (m : ModelInfo) (r : Record) : Type 0 where
  pub id : r.id ≤ LARGEST_NUMBER
  pub slots : AllByRecursion (IsSlotIn r.slots) m.fields

record-told : (n : ℕ) (m : ModelInfo) (r : Record) → IsRowIn m r → Told (IsRecordLitOf m r) (Spells (levels n) record_form) (lexemes_of_marks (record_marks m r))
unfolding record_form
record-told n m r is =
    let S = levels n in
    let fields = commas (map (slot_marks r.slots) m.fields) in
    let front = λ (z : List Lexeme). lexemes_of_marks (id_marks r.id) ++ (at k.BraceOpen (sign_of k.BraceOpen) ∷ z) in
    told-as (ap front (lexemes-append fields (mark k.BraceClose ∷ newline ∷ [])))
    (told-mapped S (λ v. record { id = v.0.1; fields = v.1.1.0; «end» = v.1.1.1.at })
    (both id_form (both (sign k.BraceOpen) (both (listed field_form) (sign k.BraceClose)))) (IsRecordLitOf m r) (λ v are. record { id = are.0; fields = are.1.1.0 })
    (told-both S id_form (both (sign k.BraceOpen) (both (listed field_form) (sign k.BraceClose))) (told-id-form S r.id is.id)
    (told-both S (sign k.BraceOpen) (both (listed field_form) (sign k.BraceClose)) (brace-open S)
    (told-both S (listed field_form) (sign k.BraceClose)
    (told-listed S field_form (IsFieldLitOf r.slots) (IsSlotIn r.slots) (slot_marks r.slots) (field-told n r.slots) m.fields is.slots) (brace-close S)))))

-- a model whose table can be written
pub record IsModelIn (d : Database) (m : ModelInfo) : Type 0 where
  pub words : HasWordsIn m
  pub next : next_in d m.number ≤ LARGEST_NUMBER
  pub rows : AllByRecursion (IsRowIn m) (records_of d m.number)

table-told : (n : ℕ) (d : Database) (m : ModelInfo) → IsModelIn d m → Told (IsTableLitOf d m) (Spells (levels n) table_form) (lexemes_of_marks (table_marks d m))
unfolding table_form
table-told n d m is =
    let S = levels n in
    let rows = flat_map (record_marks m) (records_of d m.number) in
    let front = λ (z : List Lexeme). at k.Upper m.name ∷ (lexemes_of_marks (id_marks (next_in d m.number)) ++ (at k.BraceOpen (sign_of k.BraceOpen) ∷ z)) in
    let end = lexemes_of_marks (mark k.BraceClose ∷ newline ∷ []) in
    told-as (ap front (lexemes-append rows (mark k.BraceClose ∷ newline ∷ []) ∙ ap (λ z. z ++ end) (lexemes-flat (record_marks m) (records_of d m.number))))
    (told-mapped S (λ v. record { name = named v.0; next = v.1.0.1; records = v.1.1.1.0 })
    (both (token Upper) (both id_form (both (sign k.BraceOpen) (both (each AnyNumber record_form) (sign k.BraceClose))))) (IsTableLitOf d m)
    (λ v are. record { name = are.0; next = are.1.0; records = are.1.1.1.0 })
    (told-both S (token Upper) (both id_form (both (sign k.BraceOpen) (both (each AnyNumber record_form) (sign k.BraceClose)))) (told-model-name S m.name is.words.model)
    (told-both S id_form (both (sign k.BraceOpen) (both (each AnyNumber record_form) (sign k.BraceClose))) (told-id-form S (next_in d m.number) is.next)
    (told-both S (sign k.BraceOpen) (both (each AnyNumber record_form) (sign k.BraceClose)) (brace-open S)
    (told-both S (each AnyNumber record_form) (sign k.BraceClose)
    (told-each S record_form (IsRecordLitOf m) (IsRowIn m) (λ r. lexemes_of_marks (record_marks m r)) (record-told n m) (records_of d m.number) is.rows) (brace-close S))))))

pub data-told : (n : ℕ) (s : Schema) (d : Database) → AllByRecursion (IsModelIn d) s.models
    → Told (AllZip (IsTableLitOf d) s.models) (Spells (levels n) data_form) (lexemes_of_marks (data_marks s d))
unfolding data_form
data-told n s d all =
    told-as (lexemes-flat (table_marks d) s.models)
    (told-each (levels n) table_form (IsTableLitOf d) (IsModelIn d) (λ m. lexemes_of_marks (table_marks d m)) (table-told n d) s.models all)
