-- Pieces with given lexemes that spell a value which is as it should be: how such facts go together.
use Rattle.std.proofs.Common.{◌≡◌, inl, inr, true, List, [], ◌∷◌, ◌++◌, refl, sym, subst}
use Rattle.std.specs.List.{AllByRecursion, AllZip, flat_map}
use Rattle.text_lexer.specs.declared.token.TokenKind.{TokenKind}
use Rattle.text_lexer.specs.Lexeme.{Lexeme, sign_of}
use Rattle.text_lexer.specs.Written.{IsPart}
use Rattle.text_ast.specs.Pieces.{Piece}
use Rattle.text_tree.specs.Forms.{AnyNumber, Sign, Spells, Want, admits, both, each, either, mapped, token}
use Rattle.data_tree.specs.Grammar.{G, Part, behind, sign, tree_of}
use Rattle.text_print.proofs.Canonical.{AreParts, cut, lexeme, lexemes, parts_append}
use Rattle.text_print.proofs.Tokens.{at, same_kind_as}

-- The lexemes may be tokens. All pieces with them are of the form F with a value that is as it should be.
pub record Told {A : Type 0} (R : A → Type 0) (F : A → List Piece → Type 0) (m : List Lexeme) : Type 0 where
  pub parts : AreParts m
  pub reads : (ls : List Piece) → lexemes ls ≡ m → (x : A) × R x × F x ls

-- the same of lexemes that are equal
pub told-as : {A : Type 0} {R : A → Type 0} {F : A → List Piece → Type 0} {m k : List Lexeme} → k ≡ m → Told R F m → Told R F k
told-as {A} {R} {F} {m} {k} same h = subst (Told R F) (sym same) h

no-cons : (x : Lexeme) (m : List Lexeme) → [] ≡ x ∷ m → ⊥
no-cons x m e = cc

cons-no : (x : Lexeme) (m : List Lexeme) → x ∷ m ≡ [] → ⊥
cons-no x m e = cc

head-of : (x y : Lexeme) (a b : List Lexeme) → x ∷ a ≡ y ∷ b → x ≡ y
head-of x y a b e = cc

tail-of : (x y : Lexeme) (a b : List Lexeme) → x ∷ a ≡ y ∷ b → a ≡ b
tail-of x y a b e = cc

-- no pieces
pub told-none : {A : Type 0} {R : A → Type 0} {F : A → List Piece → Type 0} (x : A) → R x → F x [] → Told R F []
told-none {A} {R} {F} x is spells = record { parts = tt; reads = go }
  where
    go : (ls : List Piece) → lexemes ls ≡ [] → (y : A) × R y × F y ls
    go [] e = (x, is, spells)
    go (l ∷ ls) e = absurd (cons-no (lexeme l) (lexemes ls) e)

-- one piece
pub told-one : {A : Type 0} {R : A → Type 0} {F : A → List Piece → Type 0} (w : Lexeme) → IsPart w → ((l : Piece) → lexeme l ≡ w → (x : A) × R x × F x (l ∷ [])) → Told R F (w ∷ [])
told-one {A} {R} {F} w part reads = record { parts = (part, tt); reads = go }
  where
    go : (ls : List Piece) → lexemes ls ≡ w ∷ [] → (y : A) × R y × F y ls
    go [] e = absurd (no-cons w [] e)
    go (l ∷ []) e = reads l (head-of (lexeme l) w [] [] e)
    go (l ∷ n ∷ ls) e = absurd (cons-no (lexeme n) (lexemes ls) (tail-of (lexeme l) w (lexeme n ∷ lexemes ls) [] e))

abbrev pub Pieces : Type 1
Pieces = (p : Part) → tree_of p → List Piece → Type 0

abbrev pub Pair : {A B : Type 0} → (A → Type 0) → (B → Type 0) → A × B → Type 0
Pair R Q v = R v.0 × Q v.1

-- a piece that matters for its place alone
abbrev pub Any : Piece → Type 0
Any l = Unit {0}

module _ (S : Pieces) where
  pub told-both : {A B : Type 0} (f : G A) (g : G B) {R : A → Type 0} {Q : B → Type 0} {m n : List Lexeme} → Told R (Spells S f) m → Told Q (Spells S g) n
      → Told (Pair R Q) (Spells S (both f g)) (m ++ n)
  told-both f g {R} {Q} {m} {n} a b = record {
    parts = parts_append m n a.parts b.parts;
    reads = λ ls e. (
        let c = cut m n ls e in
        let (x, is, spells) = a.reads c.front c.front_is in
        let (y, also, more) = b.reads c.back c.back_is in
        ((x, y), (is, also), (c.front, c.back, c.glue, spells, more)));
  }

  pub told-mapped : {A B : Type 0} (make : A → B) (f : G A) {R : A → Type 0} (Q : B → Type 0) {m : List Lexeme} → ((x : A) → R x → Q (make x)) → Told R (Spells S f) m
      → Told Q (Spells S (mapped make f)) m
  told-mapped make f {R} Q {m} keeps a = record {
    parts = a.parts;
    reads = λ ls e. (let (x, is, spells) = a.reads ls e in (make x, keeps x is, (x, refl, spells)));
  }

  pub told-left : {A : Type 0} (f g : G A) {R : A → Type 0} {m : List Lexeme} → Told R (Spells S f) m → Told R (Spells S (either f g)) m
  told-left f g a = record { parts = a.parts; reads = λ ls e. (let (x, is, spells) = a.reads ls e in (x, is, inl spells)) }

  pub told-right : {A : Type 0} (f g : G A) {R : A → Type 0} {m : List Lexeme} → Told R (Spells S g) m → Told R (Spells S (either f g)) m
  told-right f g a = record { parts = a.parts; reads = λ ls e. (let (x, is, spells) = a.reads ls e in (x, is, inr spells)) }

  -- ---- tokens

  pub told-token : (w : Want) (l : Lexeme) (R : Piece → Type 0) → IsPart l → ((p : Piece) → lexeme p ≡ l → R p × (admits w p ≡ true)) → Told R (Spells S (token w)) (l ∷ [])
  told-token w l R part is = told-one l part (λ p e. (let (q, a) = is p e in (p, q, (refl, a))))

  pub told-sign : (kind : TokenKind) → IsPart (at kind (sign_of kind)) → Told Any (Spells S (sign kind)) (at kind (sign_of kind) ∷ [])
  unfolding admits
  told-sign kind part = told-token (Sign kind) (at kind (sign_of kind)) Any part (λ p e. (tt, same_kind_as p kind (sign_of kind) e))

  -- ---- forms in brackets, and in rows

  pub told-behind : {A : Type 0} (w : Want) (b : Lexeme) (f : G A) {R : A → Type 0} {m : List Lexeme} → Told Any (Spells S (token w)) (b ∷ []) → Told R (Spells S f) m
      → Told R (Spells S (behind (token w) f)) (b ∷ m)
  told-behind w b f {R} a h = told-mapped (λ v. v.1) (both (token w) f) R (λ v is. is.1) (told-both (token w) f a h)

  pub told-each : {A B : Type 0} (f : G B) (R : A → B → Type 0) (P : A → Type 0) (m : A → List Lexeme) → ((x : A) → P x → Told (R x) (Spells S f) (m x))
      → (xs : List A) → AllByRecursion P xs → Told (AllZip R xs) (Spells S (each AnyNumber f)) (flat_map m xs)
  told-each f R P m h [] all = told-none [] tt (refl, tt)
  told-each {A} {B} f R P m h (x ∷ xs) all =
      let one = h x all.0 in
      let more = told-each f R P m h xs all.1 in
      record {
        parts = parts_append (m x) (flat_map m xs) one.parts more.parts;
        reads = λ ls e. (
            let c = cut (m x) (flat_map m xs) ls e in
            let (y, is, spells) = one.reads c.front c.front_is in
            let (ys, are, others) = more.reads c.back c.back_is in
            (y ∷ ys, (is, are), ((c.front, c.back, c.glue, spells, others.0), tt)));
      }
