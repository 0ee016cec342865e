-- What the parsers give for the tokens of a text is what holds of the text.
use Rattle.std.proofs.Common.{◌≡◌, ◌≢◌, ℕ, List, [], ◌∷◌, length, refl, ap, sym, ◌∙◌, subst, Result, Ok, Err}
use Rattle.std.specs.Prelude.{IfOk, IfErr}
use Rattle.text_lexer.specs.Lexes.{Lexes}
use Rattle.text_lexer.specs.Refused.{Refuses}
use Rattle.text_lexer.specs.declared.lex_err.LexErr.{LexErr}
use Rattle.text_lexer.specs.declared.lex_err.LexErr.TheVariants as lex
use Rattle.text_lexer.specs.declared.token.Token.{Token}
use Rattle.text_ast.specs.Pieces.{Piece, pieces_of}
use Rattle.text_tree.specs.Forms.{Cause, NotGrammar, TooDeep, TooManyTokens, TooManyStatics, TooManyModels, TooManyFields, TooManyCommands}
use Rattle.door_requests.specs.Grammar.{G}
use Rattle.door_requests.specs.Texts.{IsTextOf}
use Rattle.door_requests.specs.Answers.{answer}
use Rattle.door_requests.specs.Causes.{IsLimitAt}
use Rattle.door_requests.proofs.Refusals.{OneAnswer}
use Rattle.text_syntax.specs.declared.stop.Stop.{Stop}
use Rattle.text_syntax.specs.declared.stop.Stop.TheVariants as stop
use Rattle.text_syntax.specs.Reads.{Reads}
use Rattle.text_parse.specs.Refused.{of_lex}
use Rattle.door_requests.specs.Refused.{IsRefusedAs}
use Rattle.text_parse.specs.Judged.{IsPlaced, Judges}
use Rattle.text_parse.specs.declared.syntax_err.SyntaxErr.{SyntaxErr}
use Rattle.text_parse.specs.declared.syntax_err.SyntaxErr.TheVariants as err
use Rattle.door_requests.proofs.OneText.{one_text, one_tree, rest_size, lex_refused, cause_refused}

-- ---- a form that was not read

limit_placed : {A : Type 0} (f : G A) (c : Cause) (ls rest : List Piece) → IsLimitAt c f ls rest → rest ≢ []
limit_placed f c ls rest (m, o) nil = let no : [] ≡ o.last ∷ o.more = sym nil ∙ o.stands in cc

pub placed : {A : Type 0} (f : G A) → OneAnswer f → (text : List ℕ) (tokens : List Token) (s : Stop) (rest : List Piece) → Reads (answer f (pieces_of text tokens)) (Err s) rest → IsPlaced s (length tokens) rest
placed f a text tokens stop.NotGrammar rest h =
    let e = (a.stuck NotGrammar (pieces_of text tokens) rest (h NotGrammar refl)).stands in rest_size text tokens e.front rest e.glued
placed f a text tokens stop.TooDeep rest h = limit_placed f TooDeep (pieces_of text tokens) rest (a.stuck TooDeep (pieces_of text tokens) rest (h TooDeep refl)).stands
placed f a text tokens stop.TooManyTokens rest h = limit_placed f TooManyTokens (pieces_of text tokens) rest (a.stuck TooManyTokens (pieces_of text tokens) rest (h TooManyTokens refl)).stands
placed f a text tokens stop.TooManyStatics rest h = limit_placed f TooManyStatics (pieces_of text tokens) rest (a.stuck TooManyStatics (pieces_of text tokens) rest (h TooManyStatics refl)).stands
placed f a text tokens stop.TooManyModels rest h = limit_placed f TooManyModels (pieces_of text tokens) rest (a.stuck TooManyModels (pieces_of text tokens) rest (h TooManyModels refl)).stands
placed f a text tokens stop.TooManyFields rest h = limit_placed f TooManyFields (pieces_of text tokens) rest (a.stuck TooManyFields (pieces_of text tokens) rest (h TooManyFields refl)).stands
placed f a text tokens stop.TooManyCommands rest h = limit_placed f TooManyCommands (pieces_of text tokens) rest (a.stuck TooManyCommands (pieces_of text tokens) rest (h TooManyCommands refl)).stands
placed f a text tokens stop.OutOfMemory rest h = tt

pub all_placed : {A : Type 0} (f : G A) → OneAnswer f → (text : List ℕ) (tokens : List Token) (r : Result A Stop) (rest : List Piece) → Reads (answer f (pieces_of text tokens)) r rest
    → IfErr r (λ s. IsPlaced s (length tokens) rest)
all_placed f a text tokens (Ok x) rest h = tt
all_placed f a text tokens (Err s) rest h = placed f a text tokens s rest h

-- ---- the whole text

-- what the tokens come to, and what the text comes to
pub ok_of : {A : Type 0} (f : G A) → OneAnswer f → (text : List ℕ) (tokens slice : List Token) → slice ≡ tokens → Lexes text tokens → (r : Result A SyntaxErr) → Judges (answer f (pieces_of text slice)) (length slice) r
    → IfOk r (λ x. IsTextOf f text x)
ok_of f a text tokens slice same lexes (Ok x) (rest, is) = (slice, subst (Lexes text) (sym same) lexes, (a.got x (pieces_of text slice) rest is).1)
ok_of f a text tokens slice same lexes (Err e) j = tt

pub only_of : {A : Type 0} (f : G A) → OneAnswer f → (text : List ℕ) (tokens slice : List Token) → slice ≡ tokens → Lexes text tokens → (r : Result A SyntaxErr) → Judges (answer f (pieces_of text slice)) (length slice) r
    → IfOk r (λ x. (other : A) → IsTextOf f text other → other ≡ x)
only_of {A} f a text tokens slice same lexes (Ok x) j = λ other t. one_tree f a text other x t (let r : Result A SyntaxErr = Ok x in ok_of f a text tokens slice same lexes r j)
only_of f a text tokens slice same lexes (Err e) j = tt

pub refused_of : {A : Type 0} (f : G A) → OneAnswer f → (text : List ℕ) (tokens slice : List Token) → slice ≡ tokens → Lexes text tokens → (r : Result A SyntaxErr) → Judges (answer f (pieces_of text slice)) (length slice) r
    → IfErr r (λ e. e ≢ err.OutOfMemory → IsRefusedAs f text e)
refused_of f a text tokens slice same lexes (Ok x) j = tt
refused_of f a text tokens slice same lexes (Err e) j = λ some.
    let (c, rest, is, at) = j some in
    subst (IsRefusedAs f text) (sym at) (cause_refused f text slice c rest (subst (Lexes text) (sym same) lexes, a.stuck c (pieces_of text slice) rest is))

pub none_of : {A : Type 0} (f : G A) → OneAnswer f → (text : List ℕ) (tokens slice : List Token) → slice ≡ tokens → Lexes text tokens → (r : Result A SyntaxErr) → Judges (answer f (pieces_of text slice)) (length slice) r
    → IfErr r (λ e. e ≢ err.OutOfMemory → (x : A) → ¬ (IsTextOf f text x))
none_of f a text tokens slice same lexes (Ok x) j = tt
none_of {A} f a text tokens slice same lexes (Err e) j = λ some x t.
    (one_text f a).tree text x e t ((let r : Result A SyntaxErr = Err e in refused_of f a text tokens slice same lexes r j) some)

-- a text without tokens
pub lexed_refused : {A : Type 0} (f : G A) (text : List ℕ) (e : LexErr) (refusal : SyntaxErr) → (e ≢ lex.OutOfMemory → Refuses text e) → refusal ≡ of_lex e → refusal ≢ err.OutOfMemory → IsRefusedAs f text refusal
lexed_refused f text e refusal h is some = subst (IsRefusedAs f text) (sym is) (lex_refused f text e (h (λ same. some (is ∙ ap of_lex same))))

pub lexed_none : {A : Type 0} (f : G A) → OneAnswer f → (text : List ℕ) (e : LexErr) (refusal : SyntaxErr) → (e ≢ lex.OutOfMemory → Refuses text e) → refusal ≡ of_lex e → refusal ≢ err.OutOfMemory
    → (x : A) → ¬ (IsTextOf f text x)
lexed_none f a text e refusal h is some x t = (one_text f a).tree text x refusal t (lexed_refused f text e refusal h is some)
