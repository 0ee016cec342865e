-- A text spells one tree of a form, or it is refused for one cause at one place.
use Rattle.std.proofs.Common.{◌≡◌, ◌⊎◌, inl, inr, ℕ, ◌-◌, ◌≤◌, arith, List, ◌∷◌, ◌++◌, length, length-append, refl, ap, sym, ◌∙◌, subst}
use Rattle.std.proofs.lemmas.List.{length-map}
use Rattle.text_lexer.specs.Lexes.{Lexes}
use Rattle.text_lexer.specs.Refused.{Refuses}
use Rattle.text_lexer.specs.declared.lex_err.LexErr.{LexErr}
use Rattle.text_lexer.specs.declared.lex_err.LexErr.TheVariants as lex
use Rattle.text_lexer.specs.declared.token.Token.{Token}
use Rattle.text_lexer.proofs.OneAnswer.{answered, one_refusal, tokens_or_refusal}
use Rattle.text_lexer.proofs.TokenLists.{one_list}
use Rattle.text_ast.specs.Pieces.{Piece, piece_of, pieces_of}
use Rattle.text_tree.specs.Forms.{Cause, NotGrammar, TooDeep, TooManyTokens, TooManyStatics, TooManyModels, TooManyFields, TooManyCommands}
use Rattle.door_requests.specs.Grammar.{G}
use Rattle.door_requests.specs.Texts.{IsTextOf, IsSpelled}
use Rattle.door_requests.specs.Causes.{IsRefused, IsLimitAt, IsEnd}
use Rattle.door_requests.proofs.Refusals.{OneAnswer}
use Rattle.text_parse.specs.Refused.{of_lex, offset, refusal_for}
use Rattle.door_requests.specs.Refused.{HasCause, HasCauseAt, HasCauseAfter, IsRefusedAs}
use Rattle.text_parse.specs.declared.syntax_err.SyntaxErr.{SyntaxErr}
use Rattle.text_parse.specs.declared.syntax_err.SyntaxErr.TheVariants as err
use Rattle.text_parse.specs.declared.syntax_err.What.TheVariants as what

pub lex_refused : {A : Type 0} (f : G A) (text : List ℕ) (e : LexErr) → Refuses text e → IsRefusedAs f text (of_lex e)
lex_refused f text (lex.NotText at) r = r
lex_refused f text (lex.BadByte at) r = r
lex_refused f text (lex.BadNumber at) r = r
lex_refused f text (lex.Unfinished at) r = r
lex_refused f text (lex.TooManyNameBytes at) r = r
lex_refused f text (lex.TooManyTextBytes at) r = r
lex_refused f text lex.OutOfMemory r = r

-- ---- the place of a cause

pub rest_size : (text : List ℕ) (tokens : List Token) (front rest : List Piece) → pieces_of text tokens ≡ front ++ rest → length rest ≤ length tokens
rest_size text tokens front rest e = omega (arith, ap length e, length-map tokens (piece_of text), length-append front rest)

at_token : {A : Type 0} (f : G A) (text : List ℕ) (tokens : List Token) (c : Cause) (rest : List Piece) → HasCause f text tokens c rest → IsLimitAt c f (pieces_of text tokens) rest → HasCauseAt f text c (offset rest)
at_token f text tokens c rest h (m, o) =
    (tokens, o.last, o.more, subst (HasCause f text tokens c) o.stands h, sym (ap offset o.stands))

after_tokens : {A : Type 0} (f : G A) (text : List ℕ) (tokens : List Token) (rest : List Piece) → HasCause f text tokens NotGrammar rest → IsEnd f (pieces_of text tokens) rest
    → HasCauseAfter f text NotGrammar (length tokens - length rest)
after_tokens f text tokens rest h e =
    (tokens, rest, h, (let le = rest_size text tokens e.front rest e.glued in omega (arith, le)))

pub cause_refused : {A : Type 0} (f : G A) (text : List ℕ) (tokens : List Token) (c : Cause) (rest : List Piece) → HasCause f text tokens c rest
    → IsRefusedAs f text (refusal_for (length tokens) c rest)
cause_refused f text tokens NotGrammar rest h = after_tokens f text tokens rest h h.1.stands
cause_refused f text tokens TooDeep rest h = at_token f text tokens TooDeep rest h h.1.stands
cause_refused f text tokens TooManyTokens rest h = at_token f text tokens TooManyTokens rest h h.1.stands
cause_refused f text tokens TooManyStatics rest h = at_token f text tokens TooManyStatics rest h h.1.stands
cause_refused f text tokens TooManyModels rest h = at_token f text tokens TooManyModels rest h h.1.stands
cause_refused f text tokens TooManyFields rest h = at_token f text tokens TooManyFields rest h h.1.stands
cause_refused f text tokens TooManyCommands rest h = at_token f text tokens TooManyCommands rest h h.1.stands

-- ---- a refusal is that of the lexer, or of a cause

record OfLexer (text : List ℕ) (e : SyntaxErr) : Type 0 where
  lexer : LexErr
  is : e ≡ of_lex lexer
  refuses : Refuses text lexer

record OfCause {A : Type 0} (f : G A) (text : List ℕ) (e : SyntaxErr) : Type 0 where
  tokens : List Token
  cause : Cause
  rest : List Piece
  has : HasCause f text tokens cause rest
  is : e ≡ refusal_for (length tokens) cause rest

abbrev Origin : {A : Type 0} → G A → List ℕ → SyntaxErr → Type 0
Origin f text e = OfLexer text e ⊎ OfCause f text e

origin_at : {A : Type 0} (f : G A) (text : List ℕ) (c : Cause) (at : ℕ) (make : ℕ → SyntaxErr) → ((count : ℕ) (l : Piece) (more : List Piece) → refusal_for count c (l ∷ more) ≡ make l.at)
    → HasCauseAt f text c at → Origin f text (make at)
origin_at f text c at make same (tokens, l, more, h, e) =
    inr (record { tokens = tokens; cause = c; rest = l ∷ more; has = h; is = ap make (sym e) ∙ sym (same (length tokens) l more) })

origin : {A : Type 0} (f : G A) (text : List ℕ) (e : SyntaxErr) → IsRefusedAs f text e → Origin f text e
origin f text (err.NotText at) r = inl (record { lexer = lex.NotText at; is = refl; refuses = r })
origin f text (err.BadByte at) r = inl (record { lexer = lex.BadByte at; is = refl; refuses = r })
origin f text (err.BadNumber at) r = inl (record { lexer = lex.BadNumber at; is = refl; refuses = r })
origin f text (err.Unfinished at) r = inl (record { lexer = lex.Unfinished at; is = refl; refuses = r })
origin f text (err.NotGrammar token) (tokens, rest, h, e) =
    inr (record { tokens = tokens; cause = NotGrammar; rest = rest; has = h; is = ap err.NotGrammar (let place : token ≡ length tokens - length rest = omega (arith, e) in place) })
origin f text (err.TooDeep at) r = origin_at f text TooDeep at err.TooDeep (λ count l more. refl) r
origin f text (err.TooManyTokens at) r = origin_at f text TooManyTokens at err.TooManyTokens (λ count l more. refl) r
origin f text (err.TooMany what.Statics at) r = origin_at f text TooManyStatics at (err.TooMany what.Statics) (λ count l more. refl) r
origin f text (err.TooMany what.Models at) r = origin_at f text TooManyModels at (err.TooMany what.Models) (λ count l more. refl) r
origin f text (err.TooMany what.Fields at) r = origin_at f text TooManyFields at (err.TooMany what.Fields) (λ count l more. refl) r
origin f text (err.TooMany what.Commands at) r = origin_at f text TooManyCommands at (err.TooMany what.Commands) (λ count l more. refl) r
origin f text (err.TooMany what.NameBytes at) r = inl (record { lexer = lex.TooManyNameBytes at; is = refl; refuses = r })
origin f text (err.TooMany what.TextBytes at) r = inl (record { lexer = lex.TooManyTextBytes at; is = refl; refuses = r })
origin f text err.OutOfMemory r = absurd r

-- ---- one answer

pub one_tree : {A : Type 0} (f : G A) → OneAnswer f → (text : List ℕ) (x y : A) → IsTextOf f text x → IsTextOf f text y → x ≡ y
one_tree f a text x y (tokens, lexes, s) (others, relexes, t) =
    a.one x y (pieces_of text tokens) s (subst (λ z. IsSpelled f y (pieces_of text z)) (sym (one_list text tokens others lexes relexes)) t)

tree_origin : {A : Type 0} (f : G A) → OneAnswer f → (text : List ℕ) (x : A) (e : SyntaxErr) → IsTextOf f text x → Origin f text e → ⊥
tree_origin f a text x e (tokens, lexes, s) (inl o) = tokens_or_refusal text tokens o.lexer lexes o.refuses
tree_origin {A} f a text x e (tokens, lexes, s) (inr o) =
    let same : tokens ≡ o.tokens = one_list text tokens o.tokens lexes o.has.0 in
    a.tree x o.cause (pieces_of text tokens) o.rest s (subst (λ z. IsRefused f o.cause (pieces_of text z) o.rest) (sym same) o.has.1).stands

same_cause : {A : Type 0} (f : G A) → OneAnswer f → (text : List ℕ) (e other : SyntaxErr) → OfCause f text e → OfCause f text other → e ≡ other
same_cause f a text e other o p =
    let same : o.tokens ≡ p.tokens = one_list text o.tokens p.tokens o.has.0 p.has.0 in
    let one = a.refusal o.cause p.cause (pieces_of text p.tokens) o.rest p.rest (subst (λ z. IsRefused f o.cause (pieces_of text z) o.rest) same o.has.1) p.has.1 in
    o.is ∙ ap (λ z. refusal_for (length z) o.cause o.rest) same ∙ ap (λ z. refusal_for (length p.tokens) z o.rest) one.0 ∙ ap (refusal_for (length p.tokens) p.cause) one.1 ∙ sym p.is

same_origin : {A : Type 0} (f : G A) → OneAnswer f → (text : List ℕ) (e other : SyntaxErr) → Origin f text e → Origin f text other → e ≡ other
same_origin f a text e other (inl o) (inl p) = o.is ∙ ap of_lex (one_refusal text o.lexer p.lexer o.refuses p.refuses) ∙ sym p.is
same_origin f a text e other (inl o) (inr p) = absurd (tokens_or_refusal text p.tokens o.lexer p.has.0 o.refuses)
same_origin f a text e other (inr o) (inl p) = absurd (tokens_or_refusal text o.tokens p.lexer o.has.0 p.refuses)
same_origin f a text e other (inr o) (inr p) = same_cause f a text e other o p

some_cause : {A : Type 0} (f : G A) (text : List ℕ) (tokens : List Token) → Lexes text tokens
    → ((x : A) × IsTextOf f text x) ⊎ ((c : Cause) × (rest : List Piece) × IsRefused f c (pieces_of text tokens) rest)
    → ((x : A) × IsTextOf f text x) ⊎ ((e : SyntaxErr) × IsRefusedAs f text e)
some_cause f text tokens lexes (inl s) = inl s
some_cause f text tokens lexes (inr (c, rest, r)) = inr (refusal_for (length tokens) c rest, cause_refused f text tokens c rest (lexes, r))

some_answer : {A : Type 0} (f : G A) → OneAnswer f → (text : List ℕ) → ((tokens : List Token) × Lexes text tokens) ⊎ ((e : LexErr) × Refuses text e)
    → ((x : A) × IsTextOf f text x) ⊎ ((e : SyntaxErr) × IsRefusedAs f text e)
some_answer f a text (inl (tokens, lexes)) =
    some_cause f text tokens lexes (elim (a.some (pieces_of text tokens)) [ inl s ↦ inl (s.0, (tokens, lexes, s.1)) | inr r ↦ inr r ])
some_answer f a text (inr (e, r)) = inr (of_lex e, lex_refused f text e r)

pub record OneText {A : Type 0} (f : G A) : Type 0 where
  pub some : (text : List ℕ) → ((x : A) × IsTextOf f text x) ⊎ ((e : SyntaxErr) × IsRefusedAs f text e)
  pub one : (text : List ℕ) (x y : A) → IsTextOf f text x → IsTextOf f text y → x ≡ y
  pub tree : (text : List ℕ) (x : A) (e : SyntaxErr) → IsTextOf f text x → ¬ (IsRefusedAs f text e)
  pub refusal : (text : List ℕ) (e other : SyntaxErr) → IsRefusedAs f text e → IsRefusedAs f text other → e ≡ other

pub one_text : {A : Type 0} (f : G A) → OneAnswer f → OneText f
one_text f a = record {
  some = λ text. some_answer f a text (answered text);
  one = λ text x y t u. one_tree f a text x y t u;
  tree = λ text x e t r. tree_origin f a text x e t (origin f text e r);
  refusal = λ text e other r s. same_origin f a text e other (origin f text e r) (origin f text other s);
}
