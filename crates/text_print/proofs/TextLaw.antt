-- The text of a canonical spelling spells its tree.
use Rattle.std.proofs.Common.{◌≡◌, ◌-◌, ℕ, Bool, true, lit<, arith, List, [], ◌∷◌, ◌++◌, take, drop, refl, sym, ◌∙◌, ap, subst, append_assoc, None}
use Rattle.std.specs.Prelude.{nat_lt}
use Rattle.std.specs.Char.{is_ascii_digit, is_ascii_lowercase, is_ascii_uppercase}
use Rattle.std.specs.List.{All, list_all, slice_range}
use Rattle.std.specs.Str.{IsUtf8}
use Rattle.std.proofs.lemmas.Bool.Decides.{nat_tests}
use Rattle.std.proofs.lemmas.List.{take-append-drop}
use Rattle.std.proofs.lemmas.List.Elements.{All-head, All-tail}
use Rattle.std.proofs.lemmas.Str.{IsUtf8-append}
use Rattle.text_lexer.specs.declared.token.Token.{Token}
use Rattle.text_lexer.specs.declared.token.TokenKind.{TokenKind}
use Rattle.text_lexer.specs.declared.token.TokenKind.TheVariants as k
use Rattle.text_lexer.specs.Lexeme.{HasForm, IsLexeme, is_run, is_word_byte, sign_of}
use Rattle.text_lexer.specs.Lexes.{Lexes}
use Rattle.text_lexer.specs.Literal.{IsLiteral}
use Rattle.text_lexer.specs.Token.{lexeme_of, lexemes_of}
use Rattle.text_lexer.specs.Written.{IsPart, lexemes as parts_lexemes, places, text_of_lexemes}
use Rattle.text_lexer.proofs.TokenLists.{each_lexeme}
use Rattle.text_lexer.proofs.Values.{ascii_first}
use Rattle.text_lexer.proofs.WrittenTexts.{written_lexes, written_lexemes}
use Rattle.text_ast.specs.Pieces.{pieces_of}
use Rattle.text_tree.specs.Forms.{Spells}
use Rattle.text_tree.specs.Levels.{SpellsPart}
use Rattle.text_tree.specs.ExprGrammar.{G, rule}
use Rattle.text_tree.specs.Grammar.{most_levels}
use Rattle.text_tree.specs.Texts.{IsTextOf}
use Rattle.text_print.specs.Marks.{Mark, lexemes_of_marks, text_of_marks}
use Rattle.text_print.specs.Reprinted.{IsPrinted}
use Rattle.text_print.proofs.Canonical.{AreGood, Canonical, lexemes}
use Rattle.text_print.proofs.Literals.{cut_after, cut_before}
use Rattle.text_print.proofs.Neat.{Neat}
use Rattle.text_print.proofs.TextTokens.{all_parts, apart, end_blank, end_of, lexemes_are, parts_of, text_is}
use Rattle.text_print.proofs.Tokens.{and_true, ascii_utf8, both_true, is_ascii}

-- ---- tokens of a text that is UTF-8

low_word : (b : ℕ) → is_word_byte b ≡ true → nat_lt b 128 ≡ true
low_word b h = grind (arith, nat_tests)

low_upper : (b : ℕ) → is_ascii_uppercase b ≡ true → nat_lt b 128 ≡ true
low_upper b h = grind (arith, nat_tests)

low_lower : (b : ℕ) → is_ascii_lowercase b ≡ true → nat_lt b 128 ≡ true
low_lower b h = grind (arith, nat_tests)

low_digit : (b : ℕ) → is_ascii_digit b ≡ true → nat_lt b 128 ≡ true
low_digit b h = grind (arith, nat_tests)

all_low : (p : ℕ → Bool) (bytes : List ℕ) → ((b : ℕ) → p b ≡ true → nat_lt b 128 ≡ true) → list_all p bytes ≡ true → is_ascii bytes ≡ true
all_low p [] low h = refl
all_low p (b ∷ bytes) low h =
    let parts = both_true (p b) (list_all p bytes) h in
    and_true (nat_lt b 128) (is_ascii bytes) (low b parts.0) (all_low p bytes low parts.1)

run_low : (p q : ℕ → Bool) (bytes : List ℕ) → ((b : ℕ) → p b ≡ true → nat_lt b 128 ≡ true) → ((b : ℕ) → q b ≡ true → nat_lt b 128 ≡ true) → is_run p q bytes ≡ true
    → is_ascii bytes ≡ true
run_low p q [] low next h = refl
run_low p q (b ∷ bytes) low next h =
    let parts = both_true (p b) (list_all q bytes) h in
    and_true (nat_lt b 128) (is_ascii bytes) (low b parts.0) (all_low q bytes next parts.1)

-- a literal between other bytes
literal_within : (text : List ℕ) (from to : ℕ) (value : List ℕ) → IsUtf8 text → IsLiteral (slice_range text from to) value → IsUtf8 (slice_range text from to)
literal_within text from to value utf8 (inside, is, writes) =
    let rest = drop from text in
    let after = drop (to - from) rest in
    let parts : text ≡ take from text ++ 34 ∷ (inside ++ 34 ∷ after) =
    sym (take-append-drop from text) ∙ ap (λ (z : List ℕ). take from text ++ z) (sym (take-append-drop (to - from) rest) ∙ ap (λ (z : List ℕ). z ++ after) is ∙ ap (λ (z : List ℕ). 34 ∷ z) (append_assoc inside (34 ∷ []) after)) in
    let literal = cut_before (take from text) (inside ++ 34 ∷ after) 34 (lit< tt) (subst IsUtf8 parts utf8) in
    let begun = cut_after 34 (inside ++ 34 ∷ after) (lit< tt) literal.1 in
    let middle = cut_before inside after 34 (lit< tt) begun in
    subst IsUtf8 (sym is) (ascii_first 34 (inside ++ 34 ∷ []) (lit< tt) (IsUtf8-append inside (34 ∷ []) middle.0 (ascii_utf8 (34 ∷ []) refl)))

ascii_sign : (bytes known : List ℕ) → bytes ≡ known → is_ascii known ≡ true → IsUtf8 bytes
ascii_sign bytes known is h = subst IsUtf8 (sym is) (ascii_utf8 known h)

form_utf8 : (kind : TokenKind) (text : List ℕ) (from to : ℕ) → IsUtf8 text → HasForm kind (slice_range text from to) → IsUtf8 (slice_range text from to)
form_utf8 k.Upper text from to utf8 h = ascii_utf8 (slice_range text from to) (run_low is_ascii_uppercase is_word_byte (slice_range text from to) low_upper low_word h)
form_utf8 k.Lower text from to utf8 h = ascii_utf8 (slice_range text from to) (run_low is_ascii_lowercase is_word_byte (slice_range text from to) low_lower low_word h)
form_utf8 k.Number text from to utf8 h = ascii_utf8 (slice_range text from to) (run_low is_ascii_digit is_ascii_digit (slice_range text from to) low_digit low_digit h)
form_utf8 k.Text text from to utf8 h = literal_within text from to h.0 utf8 h.1
form_utf8 k.ParenOpen text from to utf8 h = ascii_sign (slice_range text from to) (sign_of k.ParenOpen) h refl
form_utf8 k.ParenClose text from to utf8 h = ascii_sign (slice_range text from to) (sign_of k.ParenClose) h refl
form_utf8 k.BracketOpen text from to utf8 h = ascii_sign (slice_range text from to) (sign_of k.BracketOpen) h refl
form_utf8 k.BracketClose text from to utf8 h = ascii_sign (slice_range text from to) (sign_of k.BracketClose) h refl
form_utf8 k.BraceOpen text from to utf8 h = ascii_sign (slice_range text from to) (sign_of k.BraceOpen) h refl
form_utf8 k.BraceClose text from to utf8 h = ascii_sign (slice_range text from to) (sign_of k.BraceClose) h refl
form_utf8 k.Comma text from to utf8 h = ascii_sign (slice_range text from to) (sign_of k.Comma) h refl
form_utf8 k.Colon text from to utf8 h = ascii_sign (slice_range text from to) (sign_of k.Colon) h refl
form_utf8 k.ColonColon text from to utf8 h = ascii_sign (slice_range text from to) (sign_of k.ColonColon) h refl
form_utf8 k.Dot text from to utf8 h = ascii_sign (slice_range text from to) (sign_of k.Dot) h refl
form_utf8 k.Arrow text from to utf8 h = ascii_sign (slice_range text from to) (sign_of k.Arrow) h refl
form_utf8 k.Minus text from to utf8 h = ascii_sign (slice_range text from to) (sign_of k.Minus) h refl
form_utf8 k.Plus text from to utf8 h = ascii_sign (slice_range text from to) (sign_of k.Plus) h refl
form_utf8 k.EqEq text from to utf8 h = ascii_sign (slice_range text from to) (sign_of k.EqEq) h refl
form_utf8 k.NotEq text from to utf8 h = ascii_sign (slice_range text from to) (sign_of k.NotEq) h refl
form_utf8 k.Less text from to utf8 h = ascii_sign (slice_range text from to) (sign_of k.Less) h refl
form_utf8 k.LessEq text from to utf8 h = ascii_sign (slice_range text from to) (sign_of k.LessEq) h refl
form_utf8 k.Greater text from to utf8 h = ascii_sign (slice_range text from to) (sign_of k.Greater) h refl
form_utf8 k.GreaterEq text from to utf8 h = ascii_sign (slice_range text from to) (sign_of k.GreaterEq) h refl
form_utf8 k.Not text from to utf8 h = ascii_sign (slice_range text from to) (sign_of k.Not) h refl
form_utf8 k.AndAnd text from to utf8 h = ascii_sign (slice_range text from to) (sign_of k.AndAnd) h refl
form_utf8 k.OrOr text from to utf8 h = ascii_sign (slice_range text from to) (sign_of k.OrOr) h refl
form_utf8 k.Bar text from to utf8 h = ascii_sign (slice_range text from to) (sign_of k.Bar) h refl
form_utf8 k.At text from to utf8 h = ascii_sign (slice_range text from to) (sign_of k.At) h refl

part_of_text : (text : List ℕ) (t : Token) → IsUtf8 text → IsLexeme (lexeme_of text t) → IsPart (lexeme_of text t)
part_of_text text t utf8 is = record { lexeme = is; utf8 = form_utf8 t.kind text t.at t.end utf8 is.form }

good_tokens : (text : List ℕ) (tokens : List Token) → IsUtf8 text → All (λ t. IsLexeme (lexeme_of text t)) tokens → AreGood (pieces_of text tokens)
good_tokens text [] utf8 h = tt
good_tokens text (t ∷ tokens) utf8 h =
    (part_of_text text t utf8 (All-head (λ s. IsLexeme (lexeme_of text s)) t tokens h), good_tokens text tokens utf8 (All-tail (λ s. IsLexeme (lexeme_of text s)) t tokens h))

pub good_text : (text : List ℕ) (tokens : List Token) → Lexes text tokens → AreGood (pieces_of text tokens)
good_text text tokens h = good_tokens text tokens h.0 (each_lexeme text tokens h)

piece_lexemes : (text : List ℕ) (tokens : List Token) → lexemes (pieces_of text tokens) ≡ lexemes_of text tokens
piece_lexemes text [] = refl
piece_lexemes text (t ∷ tokens) = ap (λ z. lexeme_of text t ∷ z) (piece_lexemes text tokens)

-- ---- the text of marks

pub text_again : {A : Type 0} (f : G A) (stripped : A → A) (x : A) (n : ℕ) (marks : List Mark)
    → Canonical (λ y. stripped y ≡ stripped x) (Spells (SpellsPart rule most_levels) f) (lexemes_of_marks marks) n → Neat None marks
    → IsPrinted f stripped x (text_of_marks marks)
text_again {A} f stripped x n marks h neat =
    let parts = parts_of [] marks in
    let end = end_of [] marks in
    let known = h.parts in
    let fine = apart [] marks None refl neat known in
    let all : All IsPart (parts_lexemes parts) = subst (All IsPart) (sym (lexemes_are [] marks)) (all_parts (lexemes_of_marks marks) known) in
    let text = text_of_lexemes end parts in
    let tokens = places 0 parts in
    let lexed : Lexes text tokens = written_lexes end (end_blank [] marks None refl neat) parts fine all in
    let of : lexemes (pieces_of text tokens) ≡ lexemes_of_marks marks = piece_lexemes text tokens ∙ written_lexemes end parts ∙ lexemes_are [] marks in
    let r = h.reads (pieces_of text tokens) of in
    let same : text ≡ text_of_marks marks = text_is [] marks in
    record { tree = r.value; spells = subst (λ (z : List ℕ). IsTextOf f z r.value) same (tokens, lexed, r.spells); same = r.is }
