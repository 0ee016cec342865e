-- Tokens, as they are printed.
use Rattle.std.proofs.Common.{◌≡◌, ◌<◌, ℕ, Bool, true, false, ◌&&◌, not, List, [], ◌∷◌, length, refl, sym, ap, subst}
use Rattle.std.specs.Prelude.{nat_lt, nat_le}
use Rattle.std.specs.Char.{is_ascii_lowercase, is_ascii_uppercase}
use Rattle.std.specs.Str.{IsUtf8}
use Rattle.std.proofs.lemmas.Bool.{leb-true, ltb-true}
use Rattle.std.proofs.lemmas.Str.{IsUtf8-from_ascii}
use Rattle.std.proofs.lemmas.Str.Ascii.{IsAscii-nil}
use Rattle.text_lexer.proofs.Values.{ascii_first}
use Rattle.std.specs.Str.{bytes_eq}
use Rattle.std.proofs.lemmas.Slice.Eq.{bytes_eq-Decides}
use denote.Enum.Bare.{same_true, true_same}
use Rattle.text_lexer.specs.contracts.token.TokenKind.{the_type}
use Rattle.text_lexer.specs.declared.token.TokenKind.{TokenKind}
use Rattle.text_lexer.specs.declared.token.TokenKind.TheVariants as k
use Rattle.text_lexer.specs.Lexeme.{Lexeme, IsLexeme, is_run, is_word_byte, sign_of}
use Rattle.text_lexer.specs.Written.{IsPart}
use Rattle.text_ast.specs.Pieces.{Piece}
use Rattle.text_ast.specs.Words.{is_reserved_upper, is_reserved_lower}
use Rattle.text_tree.specs.Forms.{Want, Sign, Word, Upper, Lower, Spells, same_kind, admits, token}
use Rattle.text_tree.specs.ExprGrammar.{Part, tree_of}
use Rattle.text_print.proofs.Canonical.{Canonical, lexeme, one}

pub kind_is : (kind : TokenKind) → same_kind kind kind ≡ true
unfolding same_kind
kind_is kind = true_same the_type kind kind refl

pub word_is : (bytes : List ℕ) → bytes_eq bytes bytes ≡ true
word_is bytes = (bytes_eq-Decides bytes bytes).1 refl

pub both_true : (a b : Bool) → (a && b) ≡ true → (a ≡ true) × (b ≡ true)
both_true true b e = (refl, e)
both_true false b e = cc

pub and_true : (a b : Bool) → a ≡ true → b ≡ true → (a && b) ≡ true
and_true a b e f = rw (e, f) refl

abbrev pub at : TokenKind → List ℕ → Lexeme
at kind bytes = record { kind = kind; bytes = bytes }

pub kind_of : (l : Piece) (kind : TokenKind) (bytes : List ℕ) → lexeme l ≡ at kind bytes → l.kind ≡ kind
kind_of l kind bytes e = ap (λ z. z.kind) e

pub bytes_of : (l : Piece) (kind : TokenKind) (bytes : List ℕ) → lexeme l ≡ at kind bytes → l.bytes ≡ bytes
bytes_of l kind bytes e = ap (λ z. z.bytes) e

pub same_kind_as : (l : Piece) (kind : TokenKind) (bytes : List ℕ) → lexeme l ≡ at kind bytes → same_kind l.kind kind ≡ true
same_kind_as l kind bytes e = subst (λ z. same_kind z kind ≡ true) (sym (kind_of l kind bytes e)) (kind_is kind)

-- a piece of this kind is a lexeme of this kind
pub as_kind : (l : Piece) (kind : TokenKind) → same_kind l.kind kind ≡ true → IsPart (lexeme l) → IsPart (at kind l.bytes)
unfolding same_kind
as_kind l kind e part = subst (λ z. IsPart (at z l.bytes)) (same_true the_type tt l.kind kind e) part

-- the pieces of the forms of parts
abbrev pub Pieces : Type 1
Pieces = (p : Part) → tree_of p → List Piece → Type 0

-- a token whose piece matters for its place alone
abbrev pub Any : Piece → Type 0
Any l = Unit {0}

abbrev pub Bytes : List ℕ → Piece → Type 0
Bytes bytes l = l.bytes ≡ bytes

abbrev pub Tok : Pieces → Want → Piece → List Piece → Type 0
Tok S w = Spells S (token w)

pub sign_token : (S : Pieces) (kind : TokenKind) → IsPart (at kind (sign_of kind)) → Canonical Any (Tok S (Sign kind)) (at kind (sign_of kind) ∷ []) 1
unfolding admits
sign_token S kind part = one (at kind (sign_of kind)) part (λ l e. (l, tt, (refl, same_kind_as l kind (sign_of kind) e)))

pub word_token : (S : Pieces) (kind : TokenKind) (word : List ℕ) → IsPart (at kind word) → Canonical Any (Tok S (Word kind word)) (at kind word ∷ []) 1
unfolding admits
word_token S kind word part =
    one (at kind word) part
    (λ l e. (
      l,
      tt,
      (
        refl,
        and_true (same_kind l.kind kind) (bytes_eq l.bytes word) (same_kind_as l kind word e)
            (subst (λ z. bytes_eq z word ≡ true) (sym (bytes_of l kind word e)) (word_is word)),
      ),
    ))

pub lower_token : (S : Pieces) (l : Piece) → IsPart (lexeme l) → admits Lower l ≡ true → Canonical (Bytes l.bytes) (Tok S Lower) (at k.Lower l.bytes ∷ []) 1
unfolding admits
lower_token S l part h =
    one (at k.Lower l.bytes) (as_kind l k.Lower (both_true (same_kind l.kind k.Lower) (not (is_reserved_lower l.bytes)) h).0 part)
    (λ m e. (
      m,
      bytes_of m k.Lower l.bytes e,
      (
        refl,
        and_true (same_kind m.kind k.Lower) (not (is_reserved_lower m.bytes)) (same_kind_as m k.Lower l.bytes e)
            (subst (λ z. not (is_reserved_lower z) ≡ true) (sym (bytes_of m k.Lower l.bytes e))
            (both_true (same_kind l.kind k.Lower) (not (is_reserved_lower l.bytes)) h).1),
      ),
    ))

pub upper_token : (S : Pieces) (l : Piece) → IsPart (lexeme l) → admits Upper l ≡ true → Canonical (Bytes l.bytes) (Tok S Upper) (at k.Upper l.bytes ∷ []) 1
unfolding admits
upper_token S l part h =
    one (at k.Upper l.bytes) (as_kind l k.Upper (both_true (same_kind l.kind k.Upper) (not (is_reserved_upper l.bytes)) h).0 part)
    (λ m e. (
      m,
      bytes_of m k.Upper l.bytes e,
      (
        refl,
        and_true (same_kind m.kind k.Upper) (not (is_reserved_upper m.bytes)) (same_kind_as m k.Upper l.bytes e)
            (subst (λ z. not (is_reserved_upper z) ≡ true) (sym (bytes_of m k.Upper l.bytes e))
            (both_true (same_kind l.kind k.Upper) (not (is_reserved_upper l.bytes)) h).1),
      ),
    ))

-- ---- signs and words

-- every byte is below 128
abbrev pub is_ascii : List ℕ → Bool
is_ascii [] = true
is_ascii (b ∷ bytes) = nat_lt b 128 && is_ascii bytes

pub ascii_utf8 : (bytes : List ℕ) → is_ascii bytes ≡ true → IsUtf8 bytes
ascii_utf8 [] e = IsUtf8-from_ascii [] IsAscii-nil
ascii_utf8 (b ∷ bytes) e =
    let low : b < 128 = ltb-true b 128 (both_true (nat_lt b 128) (is_ascii bytes) e).0 in
    ascii_first b bytes low (ascii_utf8 bytes (both_true (nat_lt b 128) (is_ascii bytes) e).1)

pub part_of : (w : Lexeme) → IsLexeme w → is_ascii w.bytes ≡ true → IsPart w
part_of w is ascii = record { lexeme = is; utf8 = ascii_utf8 w.bytes ascii }

pub open_token : (S : Pieces) → Canonical Any (Tok S (Sign k.ParenOpen)) (at k.ParenOpen (sign_of k.ParenOpen) ∷ []) 1
open_token S = sign_token S k.ParenOpen (part_of (at k.ParenOpen (sign_of k.ParenOpen)) (record { form = refl; limits = tt }) refl)

pub close_token : (S : Pieces) → Canonical Any (Tok S (Sign k.ParenClose)) (at k.ParenClose (sign_of k.ParenClose) ∷ []) 1
close_token S = sign_token S k.ParenClose (part_of (at k.ParenClose (sign_of k.ParenClose)) (record { form = refl; limits = tt }) refl)

pub list_open_token : (S : Pieces) → Canonical Any (Tok S (Sign k.BracketOpen)) (at k.BracketOpen (sign_of k.BracketOpen) ∷ []) 1
list_open_token S = sign_token S k.BracketOpen (part_of (at k.BracketOpen (sign_of k.BracketOpen)) (record { form = refl; limits = tt }) refl)

pub list_close_token : (S : Pieces) → Canonical Any (Tok S (Sign k.BracketClose)) (at k.BracketClose (sign_of k.BracketClose) ∷ []) 1
list_close_token S = sign_token S k.BracketClose (part_of (at k.BracketClose (sign_of k.BracketClose)) (record { form = refl; limits = tt }) refl)

pub brace_open_token : (S : Pieces) → Canonical Any (Tok S (Sign k.BraceOpen)) (at k.BraceOpen (sign_of k.BraceOpen) ∷ []) 1
brace_open_token S = sign_token S k.BraceOpen (part_of (at k.BraceOpen (sign_of k.BraceOpen)) (record { form = refl; limits = tt }) refl)

pub brace_close_token : (S : Pieces) → Canonical Any (Tok S (Sign k.BraceClose)) (at k.BraceClose (sign_of k.BraceClose) ∷ []) 1
brace_close_token S = sign_token S k.BraceClose (part_of (at k.BraceClose (sign_of k.BraceClose)) (record { form = refl; limits = tt }) refl)

pub comma_token : (S : Pieces) → Canonical Any (Tok S (Sign k.Comma)) (at k.Comma (sign_of k.Comma) ∷ []) 1
comma_token S = sign_token S k.Comma (part_of (at k.Comma (sign_of k.Comma)) (record { form = refl; limits = tt }) refl)

pub colon_token : (S : Pieces) → Canonical Any (Tok S (Sign k.Colon)) (at k.Colon (sign_of k.Colon) ∷ []) 1
colon_token S = sign_token S k.Colon (part_of (at k.Colon (sign_of k.Colon)) (record { form = refl; limits = tt }) refl)

pub colons_token : (S : Pieces) → Canonical Any (Tok S (Sign k.ColonColon)) (at k.ColonColon (sign_of k.ColonColon) ∷ []) 1
colons_token S = sign_token S k.ColonColon (part_of (at k.ColonColon (sign_of k.ColonColon)) (record { form = refl; limits = tt }) refl)

pub dot_token : (S : Pieces) → Canonical Any (Tok S (Sign k.Dot)) (at k.Dot (sign_of k.Dot) ∷ []) 1
dot_token S = sign_token S k.Dot (part_of (at k.Dot (sign_of k.Dot)) (record { form = refl; limits = tt }) refl)

pub arrow_token : (S : Pieces) → Canonical Any (Tok S (Sign k.Arrow)) (at k.Arrow (sign_of k.Arrow) ∷ []) 1
arrow_token S = sign_token S k.Arrow (part_of (at k.Arrow (sign_of k.Arrow)) (record { form = refl; limits = tt }) refl)

pub minus_token : (S : Pieces) → Canonical Any (Tok S (Sign k.Minus)) (at k.Minus (sign_of k.Minus) ∷ []) 1
minus_token S = sign_token S k.Minus (part_of (at k.Minus (sign_of k.Minus)) (record { form = refl; limits = tt }) refl)

pub plus_token : (S : Pieces) → Canonical Any (Tok S (Sign k.Plus)) (at k.Plus (sign_of k.Plus) ∷ []) 1
plus_token S = sign_token S k.Plus (part_of (at k.Plus (sign_of k.Plus)) (record { form = refl; limits = tt }) refl)

pub not_sign_token : (S : Pieces) → Canonical Any (Tok S (Sign k.Not)) (at k.Not (sign_of k.Not) ∷ []) 1
not_sign_token S = sign_token S k.Not (part_of (at k.Not (sign_of k.Not)) (record { form = refl; limits = tt }) refl)

pub and_sign_token : (S : Pieces) → Canonical Any (Tok S (Sign k.AndAnd)) (at k.AndAnd (sign_of k.AndAnd) ∷ []) 1
and_sign_token S = sign_token S k.AndAnd (part_of (at k.AndAnd (sign_of k.AndAnd)) (record { form = refl; limits = tt }) refl)

pub or_sign_token : (S : Pieces) → Canonical Any (Tok S (Sign k.OrOr)) (at k.OrOr (sign_of k.OrOr) ∷ []) 1
or_sign_token S = sign_token S k.OrOr (part_of (at k.OrOr (sign_of k.OrOr)) (record { form = refl; limits = tt }) refl)

pub bar_token : (S : Pieces) → Canonical Any (Tok S (Sign k.Bar)) (at k.Bar (sign_of k.Bar) ∷ []) 1
bar_token S = sign_token S k.Bar (part_of (at k.Bar (sign_of k.Bar)) (record { form = refl; limits = tt }) refl)

pub lower_word : (S : Pieces) (word : List ℕ) → is_run is_ascii_lowercase is_word_byte word ≡ true → nat_le (length word) 64 ≡ true → is_ascii word ≡ true
    → Canonical Any (Tok S (Word k.Lower word)) (at k.Lower word ∷ []) 1
lower_word S word run few ascii =
    word_token S k.Lower word (part_of (at k.Lower word) (record { form = run; limits = leb-true (length word) 64 few }) ascii)

pub upper_word : (S : Pieces) (word : List ℕ) → is_run is_ascii_uppercase is_word_byte word ≡ true → nat_le (length word) 64 ≡ true → is_ascii word ≡ true
    → Canonical Any (Tok S (Word k.Upper word)) (at k.Upper word ∷ []) 1
upper_word S word run few ascii =
    word_token S k.Upper word (part_of (at k.Upper word) (record { form = run; limits = leb-true (length word) 64 few }) ascii)
