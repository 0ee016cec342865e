-- Marks that fit are the tokens of their text.
use Rattle.std.proofs.Common.{◌≡◌, ◌<◌, ◌&&◌, not, ℕ, Bool, true, false, arith, List, [], ◌∷◌, ◌++◌, refl, sym, ◌∙◌, ap, subst, append_assoc, append-nil, Some, None}
use Rattle.std.specs.Prelude.{Option}
use Rattle.std.specs.Char.{is_ascii_digit, is_ascii_lowercase, is_ascii_uppercase}
use Rattle.std.specs.List.{All, list_all}
use Rattle.std.proofs.lemmas.Bool.Decides.{nat_tests}
use Rattle.std.proofs.lemmas.List.Elements.{All-cons, All-nil}
use Rattle.std.proofs.lemmas.List.Folds.{list_all-append}
use Rattle.text_lexer.specs.declared.token.TokenKind.{TokenKind}
use Rattle.text_lexer.specs.declared.token.TokenKind.TheVariants as k
use Rattle.text_lexer.specs.Lexeme.{Lexeme, is_run, is_word_byte, sign_of}
use Rattle.text_lexer.specs.Lexes.{is_blank}
use Rattle.text_lexer.specs.Written.{IsPart, Spaced, are_apart, ends_before, goes_on, lexemes, text_of_lexemes}
use Rattle.text_print.specs.Marks.{Mark, blank, lexemes_of_marks, text_of_marks, written}
use Rattle.text_print.proofs.Canonical.{AreParts}
use Rattle.text_print.proofs.Neat.{Neat, fits, is_number, starts, tight}
use Rattle.text_print.proofs.Tokens.{and_true, both_true}

-- ---- lexemes with the blanks before them

abbrev pub parts_of : List ℕ → List Mark → List Spaced
parts_of before [] = []
parts_of before (blank b ∷ ms) = parts_of (before ++ b) ms
parts_of before (written l ∷ ms) = record { before = before; lexeme = l } ∷ parts_of [] ms

abbrev pub end_of : List ℕ → List Mark → List ℕ
end_of before [] = before
end_of before (blank b ∷ ms) = end_of (before ++ b) ms
end_of before (written l ∷ ms) = end_of [] ms

pub text_is : (before : List ℕ) (ms : List Mark) → text_of_lexemes (end_of before ms) (parts_of before ms) ≡ before ++ text_of_marks ms
text_is before [] = sym (append-nil before)
text_is before (blank b ∷ ms) = text_is (before ++ b) ms ∙ append_assoc before b (text_of_marks ms)
text_is before (written l ∷ ms) = ap (λ (z : List ℕ). before ++ (l.bytes ++ z)) (text_is [] ms)

pub lexemes_are : (before : List ℕ) (ms : List Mark) → lexemes (parts_of before ms) ≡ lexemes_of_marks ms
lexemes_are before [] = refl
lexemes_are before (blank b ∷ ms) = lexemes_are (before ++ b) ms
lexemes_are before (written l ∷ ms) = ap (λ z. l ∷ z) (lexemes_are [] ms)

all_append : (a b : List ℕ) → list_all is_blank a ≡ true → list_all is_blank b ≡ true → list_all is_blank (a ++ b) ≡ true
all_append a b h j = list_all-append is_blank a b ∙ and_true (list_all is_blank a) (list_all is_blank b) h j

pub end_blank : (before : List ℕ) (ms : List Mark) (prev : Option TokenKind) → list_all is_blank before ≡ true → Neat prev ms → list_all is_blank (end_of before ms) ≡ true
end_blank before [] prev h n = h
end_blank before (blank b ∷ ms) prev h n = end_blank (before ++ b) ms None (all_append before b h n.0) n.2
end_blank before (written l ∷ ms) prev h n = end_blank [] ms (Some l.kind) refl n.1

-- ---- no lexeme goes on with what follows

blank_stops : (kind : TokenKind) (b : ℕ) → is_blank b ≡ true → not (goes_on kind b) ≡ true
blank_stops k.Upper b h = grind (arith, nat_tests)
blank_stops k.Lower b h = grind (arith, nat_tests)
blank_stops k.Number b h = grind (arith, nat_tests)
blank_stops k.Text b h = refl
blank_stops k.ParenOpen b h = refl
blank_stops k.ParenClose b h = refl
blank_stops k.BracketOpen b h = refl
blank_stops k.BracketClose b h = refl
blank_stops k.BraceOpen b h = refl
blank_stops k.BraceClose b h = refl
blank_stops k.Comma b h = refl
blank_stops k.Colon b h = grind (arith, nat_tests)
blank_stops k.ColonColon b h = refl
blank_stops k.Dot b h = refl
blank_stops k.Arrow b h = refl
blank_stops k.Minus b h = grind (arith, nat_tests)
blank_stops k.Plus b h = refl
blank_stops k.EqEq b h = refl
blank_stops k.NotEq b h = refl
blank_stops k.Less b h = grind (arith, nat_tests)
blank_stops k.LessEq b h = refl
blank_stops k.Greater b h = grind (arith, nat_tests)
blank_stops k.GreaterEq b h = refl
blank_stops k.Not b h = grind (arith, nat_tests)
blank_stops k.AndAnd b h = refl
blank_stops k.OrOr b h = refl
blank_stops k.Bar b h = grind (arith, nat_tests)
blank_stops k.At b h = refl

-- after a blank
pub blank_before : (kind : TokenKind) (b : ℕ) (before : List ℕ) (ms : List Mark) → is_blank b ≡ true → ends_before kind (text_of_lexemes [] (parts_of (b ∷ before) ms)) ≡ true
blank_before kind b before [] h = refl
blank_before kind b before (blank c ∷ ms) h = blank_before kind b (before ++ c) ms h
blank_before kind b before (written l ∷ ms) h = blank_stops kind b h

any_end : (kind : TokenKind) → ((b : ℕ) → not (goes_on kind b) ≡ true) → (bytes : List ℕ) → ends_before kind bytes ≡ true
any_end kind h [] = refl
any_end kind h (b ∷ bytes) = h b

-- the first byte of a word, a number or a text
first_is : (p q : ℕ → Bool) (bytes more : List ℕ) (kind : TokenKind) → is_run p q bytes ≡ true → ((b : ℕ) → p b ≡ true → not (goes_on kind b) ≡ true)
    → ends_before kind (bytes ++ more) ≡ true
first_is p q [] more kind h stops = absurd (no h)
  where
    no : false ≡ true → ⊥
    no e = cc
first_is p q (b ∷ bytes) more kind h stops = stops b (both_true (p b) (list_all q bytes) h).0

at : (kind n : TokenKind) (bytes more : List ℕ) → bytes ≡ sign_of n → ends_before kind (sign_of n ++ more) ≡ true → ends_before kind (bytes ++ more) ≡ true
at kind n bytes more is h = subst (λ (z : List ℕ). ends_before kind (z ++ more) ≡ true) (sym is) h

quote_at : (kind : TokenKind) (bytes more value inside : List ℕ) → bytes ≡ 34 ∷ (inside ++ 34 ∷ []) → not (goes_on kind 34) ≡ true → ends_before kind (bytes ++ more) ≡ true
quote_at kind bytes more value inside is h = subst (λ (z : List ℕ). ends_before kind (z ++ more) ≡ true) (sym is) h

upper_stops : (n : TokenKind) (bytes more : List ℕ) → tight n ≡ true → IsPart (record { kind = n; bytes = bytes }) → ends_before k.Upper (bytes ++ more) ≡ true
upper_stops k.Upper bytes more t p = cc
upper_stops k.Lower bytes more t p = cc
upper_stops k.Number bytes more t p = cc
upper_stops k.Text bytes more t p = quote_at k.Upper bytes more p.lexeme.form.0 p.lexeme.form.1.0 p.lexeme.form.1.1 refl
upper_stops k.ParenOpen bytes more t p = at k.Upper k.ParenOpen bytes more p.lexeme.form refl
upper_stops k.ParenClose bytes more t p = at k.Upper k.ParenClose bytes more p.lexeme.form refl
upper_stops k.BracketOpen bytes more t p = at k.Upper k.BracketOpen bytes more p.lexeme.form refl
upper_stops k.BracketClose bytes more t p = at k.Upper k.BracketClose bytes more p.lexeme.form refl
upper_stops k.BraceOpen bytes more t p = at k.Upper k.BraceOpen bytes more p.lexeme.form refl
upper_stops k.BraceClose bytes more t p = at k.Upper k.BraceClose bytes more p.lexeme.form refl
upper_stops k.Comma bytes more t p = at k.Upper k.Comma bytes more p.lexeme.form refl
upper_stops k.Colon bytes more t p = at k.Upper k.Colon bytes more p.lexeme.form refl
upper_stops k.ColonColon bytes more t p = at k.Upper k.ColonColon bytes more p.lexeme.form refl
upper_stops k.Dot bytes more t p = at k.Upper k.Dot bytes more p.lexeme.form refl
upper_stops k.Arrow bytes more t p = at k.Upper k.Arrow bytes more p.lexeme.form refl
upper_stops k.Minus bytes more t p = at k.Upper k.Minus bytes more p.lexeme.form refl
upper_stops k.Plus bytes more t p = at k.Upper k.Plus bytes more p.lexeme.form refl
upper_stops k.EqEq bytes more t p = at k.Upper k.EqEq bytes more p.lexeme.form refl
upper_stops k.NotEq bytes more t p = at k.Upper k.NotEq bytes more p.lexeme.form refl
upper_stops k.Less bytes more t p = at k.Upper k.Less bytes more p.lexeme.form refl
upper_stops k.LessEq bytes more t p = at k.Upper k.LessEq bytes more p.lexeme.form refl
upper_stops k.Greater bytes more t p = at k.Upper k.Greater bytes more p.lexeme.form refl
upper_stops k.GreaterEq bytes more t p = at k.Upper k.GreaterEq bytes more p.lexeme.form refl
upper_stops k.Not bytes more t p = at k.Upper k.Not bytes more p.lexeme.form refl
upper_stops k.AndAnd bytes more t p = at k.Upper k.AndAnd bytes more p.lexeme.form refl
upper_stops k.OrOr bytes more t p = at k.Upper k.OrOr bytes more p.lexeme.form refl
upper_stops k.Bar bytes more t p = at k.Upper k.Bar bytes more p.lexeme.form refl
upper_stops k.At bytes more t p = at k.Upper k.At bytes more p.lexeme.form refl

lower_stops : (n : TokenKind) (bytes more : List ℕ) → tight n ≡ true → IsPart (record { kind = n; bytes = bytes }) → ends_before k.Lower (bytes ++ more) ≡ true
lower_stops k.Upper bytes more t p = cc
lower_stops k.Lower bytes more t p = cc
lower_stops k.Number bytes more t p = cc
lower_stops k.Text bytes more t p = quote_at k.Lower bytes more p.lexeme.form.0 p.lexeme.form.1.0 p.lexeme.form.1.1 refl
lower_stops k.ParenOpen bytes more t p = at k.Lower k.ParenOpen bytes more p.lexeme.form refl
lower_stops k.ParenClose bytes more t p = at k.Lower k.ParenClose bytes more p.lexeme.form refl
lower_stops k.BracketOpen bytes more t p = at k.Lower k.BracketOpen bytes more p.lexeme.form refl
lower_stops k.BracketClose bytes more t p = at k.Lower k.BracketClose bytes more p.lexeme.form refl
lower_stops k.BraceOpen bytes more t p = at k.Lower k.BraceOpen bytes more p.lexeme.form refl
lower_stops k.BraceClose bytes more t p = at k.Lower k.BraceClose bytes more p.lexeme.form refl
lower_stops k.Comma bytes more t p = at k.Lower k.Comma bytes more p.lexeme.form refl
lower_stops k.Colon bytes more t p = at k.Lower k.Colon bytes more p.lexeme.form refl
lower_stops k.ColonColon bytes more t p = at k.Lower k.ColonColon bytes more p.lexeme.form refl
lower_stops k.Dot bytes more t p = at k.Lower k.Dot bytes more p.lexeme.form refl
lower_stops k.Arrow bytes more t p = at k.Lower k.Arrow bytes more p.lexeme.form refl
lower_stops k.Minus bytes more t p = at k.Lower k.Minus bytes more p.lexeme.form refl
lower_stops k.Plus bytes more t p = at k.Lower k.Plus bytes more p.lexeme.form refl
lower_stops k.EqEq bytes more t p = at k.Lower k.EqEq bytes more p.lexeme.form refl
lower_stops k.NotEq bytes more t p = at k.Lower k.NotEq bytes more p.lexeme.form refl
lower_stops k.Less bytes more t p = at k.Lower k.Less bytes more p.lexeme.form refl
lower_stops k.LessEq bytes more t p = at k.Lower k.LessEq bytes more p.lexeme.form refl
lower_stops k.Greater bytes more t p = at k.Lower k.Greater bytes more p.lexeme.form refl
lower_stops k.GreaterEq bytes more t p = at k.Lower k.GreaterEq bytes more p.lexeme.form refl
lower_stops k.Not bytes more t p = at k.Lower k.Not bytes more p.lexeme.form refl
lower_stops k.AndAnd bytes more t p = at k.Lower k.AndAnd bytes more p.lexeme.form refl
lower_stops k.OrOr bytes more t p = at k.Lower k.OrOr bytes more p.lexeme.form refl
lower_stops k.Bar bytes more t p = at k.Lower k.Bar bytes more p.lexeme.form refl
lower_stops k.At bytes more t p = at k.Lower k.At bytes more p.lexeme.form refl

number_stops : (n : TokenKind) (bytes more : List ℕ) → tight n ≡ true → IsPart (record { kind = n; bytes = bytes }) → ends_before k.Number (bytes ++ more) ≡ true
number_stops k.Upper bytes more t p = cc
number_stops k.Lower bytes more t p = cc
number_stops k.Number bytes more t p = cc
number_stops k.Text bytes more t p = quote_at k.Number bytes more p.lexeme.form.0 p.lexeme.form.1.0 p.lexeme.form.1.1 refl
number_stops k.ParenOpen bytes more t p = at k.Number k.ParenOpen bytes more p.lexeme.form refl
number_stops k.ParenClose bytes more t p = at k.Number k.ParenClose bytes more p.lexeme.form refl
number_stops k.BracketOpen bytes more t p = at k.Number k.BracketOpen bytes more p.lexeme.form refl
number_stops k.BracketClose bytes more t p = at k.Number k.BracketClose bytes more p.lexeme.form refl
number_stops k.BraceOpen bytes more t p = at k.Number k.BraceOpen bytes more p.lexeme.form refl
number_stops k.BraceClose bytes more t p = at k.Number k.BraceClose bytes more p.lexeme.form refl
number_stops k.Comma bytes more t p = at k.Number k.Comma bytes more p.lexeme.form refl
number_stops k.Colon bytes more t p = at k.Number k.Colon bytes more p.lexeme.form refl
number_stops k.ColonColon bytes more t p = at k.Number k.ColonColon bytes more p.lexeme.form refl
number_stops k.Dot bytes more t p = at k.Number k.Dot bytes more p.lexeme.form refl
number_stops k.Arrow bytes more t p = at k.Number k.Arrow bytes more p.lexeme.form refl
number_stops k.Minus bytes more t p = at k.Number k.Minus bytes more p.lexeme.form refl
number_stops k.Plus bytes more t p = at k.Number k.Plus bytes more p.lexeme.form refl
number_stops k.EqEq bytes more t p = at k.Number k.EqEq bytes more p.lexeme.form refl
number_stops k.NotEq bytes more t p = at k.Number k.NotEq bytes more p.lexeme.form refl
number_stops k.Less bytes more t p = at k.Number k.Less bytes more p.lexeme.form refl
number_stops k.LessEq bytes more t p = at k.Number k.LessEq bytes more p.lexeme.form refl
number_stops k.Greater bytes more t p = at k.Number k.Greater bytes more p.lexeme.form refl
number_stops k.GreaterEq bytes more t p = at k.Number k.GreaterEq bytes more p.lexeme.form refl
number_stops k.Not bytes more t p = at k.Number k.Not bytes more p.lexeme.form refl
number_stops k.AndAnd bytes more t p = at k.Number k.AndAnd bytes more p.lexeme.form refl
number_stops k.OrOr bytes more t p = at k.Number k.OrOr bytes more p.lexeme.form refl
number_stops k.Bar bytes more t p = at k.Number k.Bar bytes more p.lexeme.form refl
number_stops k.At bytes more t p = at k.Number k.At bytes more p.lexeme.form refl

not_stops : (n : TokenKind) (bytes more : List ℕ) → starts n ≡ true → IsPart (record { kind = n; bytes = bytes }) → ends_before k.Not (bytes ++ more) ≡ true
not_stops k.Upper bytes more t p = first_is is_ascii_uppercase is_word_byte bytes more k.Not p.lexeme.form (λ b h. grind (arith, nat_tests))
not_stops k.Lower bytes more t p = first_is is_ascii_lowercase is_word_byte bytes more k.Not p.lexeme.form (λ b h. grind (arith, nat_tests))
not_stops k.Number bytes more t p = first_is is_ascii_digit is_ascii_digit bytes more k.Not p.lexeme.form (λ b h. grind (arith, nat_tests))
not_stops k.Text bytes more t p = quote_at k.Not bytes more p.lexeme.form.0 p.lexeme.form.1.0 p.lexeme.form.1.1 refl
not_stops k.ParenOpen bytes more t p = at k.Not k.ParenOpen bytes more p.lexeme.form refl
not_stops k.ParenClose bytes more t p = cc
not_stops k.BracketOpen bytes more t p = at k.Not k.BracketOpen bytes more p.lexeme.form refl
not_stops k.BracketClose bytes more t p = cc
not_stops k.BraceOpen bytes more t p = cc
not_stops k.BraceClose bytes more t p = cc
not_stops k.Comma bytes more t p = cc
not_stops k.Colon bytes more t p = cc
not_stops k.ColonColon bytes more t p = cc
not_stops k.Dot bytes more t p = cc
not_stops k.Arrow bytes more t p = cc
not_stops k.Minus bytes more t p = at k.Not k.Minus bytes more p.lexeme.form refl
not_stops k.Plus bytes more t p = cc
not_stops k.EqEq bytes more t p = cc
not_stops k.NotEq bytes more t p = cc
not_stops k.Less bytes more t p = cc
not_stops k.LessEq bytes more t p = cc
not_stops k.Greater bytes more t p = cc
not_stops k.GreaterEq bytes more t p = cc
not_stops k.Not bytes more t p = at k.Not k.Not bytes more p.lexeme.form refl
not_stops k.AndAnd bytes more t p = cc
not_stops k.OrOr bytes more t p = cc
not_stops k.Bar bytes more t p = cc
not_stops k.At bytes more t p = cc

minus_stops : (n : TokenKind) (bytes more : List ℕ) → is_number n ≡ true → IsPart (record { kind = n; bytes = bytes }) → ends_before k.Minus (bytes ++ more) ≡ true
minus_stops k.Upper bytes more t p = cc
minus_stops k.Lower bytes more t p = cc
minus_stops k.Number bytes more t p = first_is is_ascii_digit is_ascii_digit bytes more k.Minus p.lexeme.form (λ b h. grind (arith, nat_tests))
minus_stops k.Text bytes more t p = cc
minus_stops k.ParenOpen bytes more t p = cc
minus_stops k.ParenClose bytes more t p = cc
minus_stops k.BracketOpen bytes more t p = cc
minus_stops k.BracketClose bytes more t p = cc
minus_stops k.BraceOpen bytes more t p = cc
minus_stops k.BraceClose bytes more t p = cc
minus_stops k.Comma bytes more t p = cc
minus_stops k.Colon bytes more t p = cc
minus_stops k.ColonColon bytes more t p = cc
minus_stops k.Dot bytes more t p = cc
minus_stops k.Arrow bytes more t p = cc
minus_stops k.Minus bytes more t p = cc
minus_stops k.Plus bytes more t p = cc
minus_stops k.EqEq bytes more t p = cc
minus_stops k.NotEq bytes more t p = cc
minus_stops k.Less bytes more t p = cc
minus_stops k.LessEq bytes more t p = cc
minus_stops k.Greater bytes more t p = cc
minus_stops k.GreaterEq bytes more t p = cc
minus_stops k.Not bytes more t p = cc
minus_stops k.AndAnd bytes more t p = cc
minus_stops k.OrOr bytes more t p = cc
minus_stops k.Bar bytes more t p = cc
minus_stops k.At bytes more t p = cc

-- directly before a lexeme that fits
direct : (kind : TokenKind) (l : Lexeme) (more : List ℕ) → fits kind l.kind ≡ true → IsPart l → ends_before kind (l.bytes ++ more) ≡ true
direct k.Upper l more f p = upper_stops l.kind l.bytes more f p
direct k.Lower l more f p = lower_stops l.kind l.bytes more f p
direct k.Number l more f p = number_stops l.kind l.bytes more f p
direct k.Text l more f p = any_end k.Text (λ b. refl) (l.bytes ++ more)
direct k.ParenOpen l more f p = any_end k.ParenOpen (λ b. refl) (l.bytes ++ more)
direct k.ParenClose l more f p = any_end k.ParenClose (λ b. refl) (l.bytes ++ more)
direct k.BracketOpen l more f p = any_end k.BracketOpen (λ b. refl) (l.bytes ++ more)
direct k.BracketClose l more f p = any_end k.BracketClose (λ b. refl) (l.bytes ++ more)
direct k.BraceOpen l more f p = any_end k.BraceOpen (λ b. refl) (l.bytes ++ more)
direct k.BraceClose l more f p = any_end k.BraceClose (λ b. refl) (l.bytes ++ more)
direct k.Comma l more f p = any_end k.Comma (λ b. refl) (l.bytes ++ more)
direct k.Colon l more f p = cc
direct k.ColonColon l more f p = any_end k.ColonColon (λ b. refl) (l.bytes ++ more)
direct k.Dot l more f p = any_end k.Dot (λ b. refl) (l.bytes ++ more)
direct k.Arrow l more f p = any_end k.Arrow (λ b. refl) (l.bytes ++ more)
direct k.Minus l more f p = minus_stops l.kind l.bytes more f p
direct k.Plus l more f p = any_end k.Plus (λ b. refl) (l.bytes ++ more)
direct k.EqEq l more f p = any_end k.EqEq (λ b. refl) (l.bytes ++ more)
direct k.NotEq l more f p = any_end k.NotEq (λ b. refl) (l.bytes ++ more)
direct k.Less l more f p = cc
direct k.LessEq l more f p = any_end k.LessEq (λ b. refl) (l.bytes ++ more)
direct k.Greater l more f p = cc
direct k.GreaterEq l more f p = any_end k.GreaterEq (λ b. refl) (l.bytes ++ more)
direct k.Not l more f p = not_stops l.kind l.bytes more f p
direct k.AndAnd l more f p = any_end k.AndAnd (λ b. refl) (l.bytes ++ more)
direct k.OrOr l more f p = any_end k.OrOr (λ b. refl) (l.bytes ++ more)
direct k.Bar l more f p = cc
direct k.At l more f p = any_end k.At (λ b. refl) (l.bytes ++ more)

-- before the rest of the marks
pub ends_here : (kind : TokenKind) (ms : List Mark) → Neat (Some kind) ms → AreParts (lexemes_of_marks ms) → ends_before kind (text_of_lexemes [] (parts_of [] ms)) ≡ true
ends_here kind [] n p = refl
ends_here kind (blank [] ∷ ms) n p = let none : 0 < 0 = n.1 in absurd (omega arith)
ends_here kind (blank (b ∷ bytes) ∷ ms) n p = blank_before kind b bytes ms (both_true (is_blank b) (list_all is_blank bytes) n.0).0
ends_here kind (written l ∷ ms) n p = direct kind l (text_of_lexemes [] (parts_of [] ms)) n.0 p.0

pub apart : (before : List ℕ) (ms : List Mark) (prev : Option TokenKind) → list_all is_blank before ≡ true → Neat prev ms → AreParts (lexemes_of_marks ms)
    → are_apart (parts_of before ms) ≡ true
apart before [] prev h n p = refl
apart before (blank b ∷ ms) prev h n p = apart (before ++ b) ms None (all_append before b h n.0) n.2 p
apart before (written l ∷ ms) prev h n p =
    let rest = text_of_lexemes [] (parts_of [] ms) in
    and_true (list_all is_blank before && ends_before l.kind rest) (are_apart (parts_of [] ms))
    (and_true (list_all is_blank before) (ends_before l.kind rest) h (ends_here l.kind ms n.1 p.1)) (apart [] ms (Some l.kind) refl n.1 p.1)

pub all_parts : (ws : List Lexeme) → AreParts ws → All IsPart ws
all_parts [] p = All-nil IsPart
all_parts (w ∷ ws) p = All-cons IsPart w ws p.0 (all_parts ws p.1)
