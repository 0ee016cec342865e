-- The printed text of a database spells its tables.
use Rattle.std.proofs.Common.{◌≡◌, ℕ, refl, sym, ◌∙◌, ap, subst, List, [], ◌∷◌, None}
use Rattle.std.specs.List.{All}
use Rattle.text_lexer.specs.declared.token.Token.{Token}
use Rattle.text_lexer.specs.Lexes.{Lexes}
use Rattle.text_lexer.specs.Token.{lexeme_of, lexemes_of}
use Rattle.text_lexer.specs.Written.{IsPart, lexemes as parts_lexemes, places, text_of_lexemes}
use Rattle.text_lexer.proofs.WrittenTexts.{written_lexes, written_lexemes}
use Rattle.text_ast.specs.Pieces.{pieces_of}
use Rattle.text_tree.specs.Forms.{Spells}
use Rattle.text_tree.specs.Levels.{SpellsPart}
use Rattle.text_print.specs.Marks.{Mark, lexemes_of_marks, text_of_marks}
use Rattle.type_schema.specs.Schema.{Schema}
use Rattle.type_schema.specs.Proper.{IsProper}
use Rattle.data_meaning.specs.Database.{Database, IsDatabase}
use Rattle.data_print.specs.Texts.{database_text}
use Rattle.data_tree.specs.declared.tables.TableLit.{TableLit}
use Rattle.data_tree.specs.Grammar.{G, data_form, rule}
use Rattle.data_tree.specs.Texts.{IsDataText, IsTextOf}
use Rattle.text_print.proofs.Canonical.{lexemes}
use Rattle.text_print.proofs.Neat.{Neat}
use Rattle.text_print.proofs.TextTokens.{all_parts, apart, end_blank, end_of, lexemes_are, parts_of, text_is}
use Rattle.data_read.specs.Spelled.{AreTableLitsOf}
use Rattle.data_read.specs.Words.{HasWords}
use Rattle.data_read.proofs.Forms.{Told}
use Rattle.data_read.proofs.Looked.{kept-models, models-in}
use Rattle.data_read.proofs.Marked.{data-text, data_marks}
use Rattle.data_read.proofs.Quiet.{neat-data}
use Rattle.data_read.proofs.TablesTold.{data-told}

piece-lexemes : (text : List ℕ) (tokens : List Token) → lexemes (pieces_of text tokens) ≡ lexemes_of text tokens
piece-lexemes text [] = refl
piece-lexemes text (t ∷ tokens) = ap (λ z. lexeme_of text t ∷ z) (piece-lexemes text tokens)

-- the text of marks that do not run together
text-told : {A : Type 0} (f : G A) {R : A → Type 0} (marks : List Mark) → Told R (Spells (SpellsPart rule 64) f) (lexemes_of_marks marks) → Neat None marks
    → (x : A) × IsTextOf f (text_of_marks marks) x × R x
text-told {A} f {R} marks h neat =
    let parts = parts_of [] marks in
    let end = end_of [] marks in
    let fine = apart [] marks None refl neat h.parts in
    let all : All IsPart (parts_lexemes parts) = subst (All IsPart) (sym (lexemes_are [] marks)) (all_parts (lexemes_of_marks marks) h.parts) in
    let text = text_of_lexemes end parts in
    let tokens = places 0 parts in
    let lexed : Lexes text tokens = written_lexes end (end_blank [] marks None refl neat) parts fine all in
    let of : lexemes (pieces_of text tokens) ≡ lexemes_of_marks marks = piece-lexemes text tokens ∙ written_lexemes end parts ∙ lexemes_are [] marks in
    let (x, is, spells) = h.reads (pieces_of text tokens) of in
    let same : text ≡ text_of_marks marks = text_is [] marks in
    (x, subst (λ (z : List ℕ). IsTextOf f z x) same (tokens, lexed, spells), is)

pub printed-spelled : (s : Schema) (d : Database) → IsProper s → HasWords s → IsDatabase s d → (ts : List TableLit) × IsDataText (database_text s d) ts × AreTableLitsOf s d ts
printed-spelled s d proper words is =
    let kept = kept-models d s.next_field s.models proper.fields is.tables in
    let (ts, text, are) = text-told data_form (data_marks s d) (data-told 62 s d (models-in d s.models words kept)) (neat-data s d) in
    (ts, subst (λ z. IsDataText z ts) (data-text s d) text, are)
