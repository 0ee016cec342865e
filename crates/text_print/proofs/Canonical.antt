-- Pieces with given lexemes that spell a value: how such facts go together.
use Rattle.std.proofs.Common.{◌≡◌, ◌≤◌, ◌+◌, ℕ, arith, List, [], ◌∷◌, ◌++◌, length, refl, sym, ◌∙◌, ap, subst, length-append}
use Rattle.text_lexer.specs.Lexeme.{Lexeme}
use Rattle.text_lexer.specs.Written.{IsPart}
use Rattle.text_ast.specs.Pieces.{Piece}
use Rattle.text_tree.specs.Forms.{◌then◌, SpellsEach}

-- a piece without its place
abbrev pub lexeme : Piece → Lexeme
lexeme l = record { kind = l.kind; bytes = l.bytes }

abbrev pub lexemes : List Piece → List Lexeme
lexemes [] = []
lexemes (l ∷ ls) = lexeme l ∷ lexemes ls

-- Each may be a token in a text that is UTF-8.
abbrev pub AreParts : List Lexeme → Type 0
AreParts [] = Unit {0}
AreParts (w ∷ ws) = IsPart w × AreParts ws

abbrev pub AreGood : List Piece → Type 0
AreGood ls = AreParts (lexemes ls)

-- a value with which pieces are of the form F, and which is as it should be
pub record Read {A : Type 0} (R : A → Type 0) (F : A → List Piece → Type 0) (ls : List Piece) (most : ℕ) : Type 0 where
  pub value : A
  pub is : R value
  pub spells : F value ls
  pub short : length ls ≤ most

-- The lexemes may be tokens. All pieces with them are of the form F with such a value, and they are at most so many.
pub record Canonical {A : Type 0} (R : A → Type 0) (F : A → List Piece → Type 0) (m : List Lexeme) (most : ℕ) : Type 0 where
  pub parts : AreParts m
  pub reads : (ls : List Piece) → lexemes ls ≡ m → Read R F ls most

-- ---- lists in two

pub parts_append : (a b : List Lexeme) → AreParts a → AreParts b → AreParts (a ++ b)
parts_append [] b h k = k
parts_append (w ∷ a) b h k = (h.0, parts_append a b h.1 k)

pub good_front : (ls p q : List Piece) → ls ≡ p ++ q → AreGood ls → AreGood p
good_front ls p q e h = go p (subst AreGood e h)
  where
    go : (p : List Piece) → AreGood (p ++ q) → AreGood p
    go [] h = tt
    go (l ∷ p) h = (h.0, go p h.1)

pub good_back : (ls p q : List Piece) → ls ≡ p ++ q → AreGood ls → AreGood q
good_back ls p q e h = go p (subst AreGood e h)
  where
    go : (p : List Piece) → AreGood (p ++ q) → AreGood q
    go [] h = h
    go (l ∷ p) h = go p h.1

pub good_one : (ls : List Piece) (l : Piece) → ls ≡ l ∷ [] → AreGood ls → IsPart (lexeme l)
good_one ls l e h = let both : AreGood (l ∷ []) = subst AreGood e h in both.0

pub size_of : (ls p q : List Piece) → ls ≡ p ++ q → length ls ≡ length p + length q
size_of ls p q e = ap length e ∙ length-append p q

pub size_one : (ls : List Piece) (l : Piece) → ls ≡ l ∷ [] → length ls ≡ 1
size_one ls l e = ap length e

pub record Cut (a b : List Lexeme) (ls : List Piece) : Type 0 where
  pub front : List Piece
  pub back : List Piece
  pub glue : ls ≡ front ++ back
  pub front_is : lexemes front ≡ a
  pub back_is : lexemes back ≡ b

no_cons : (x : Lexeme) (m : List Lexeme) → [] ≡ x ∷ m → ⊥
no_cons x m e = cc

cons_no : (x : Lexeme) (m : List Lexeme) → x ∷ m ≡ [] → ⊥
cons_no x m e = cc

head_of : (x y : Lexeme) (a b : List Lexeme) → x ∷ a ≡ y ∷ b → x ≡ y
head_of x y a b e = cc

tail_of : (x y : Lexeme) (a b : List Lexeme) → x ∷ a ≡ y ∷ b → a ≡ b
tail_of x y a b e = cc

pub cut : (a b : List Lexeme) (ls : List Piece) → lexemes ls ≡ a ++ b → Cut a b ls
cut [] b ls e = record { front = []; back = ls; glue = refl; front_is = refl; back_is = e }
cut (x ∷ a) b [] e = absurd (no_cons x (a ++ b) e)
cut (x ∷ a) b (l ∷ ls) e =
    let rest = cut a b ls (tail_of (lexeme l) x (lexemes ls) (a ++ b) e) in
    record {
      front = l ∷ rest.front;
      back = rest.back;
      glue = ap (λ z. l ∷ z) rest.glue;
      front_is = ap (λ z. z ∷ lexemes rest.front) (head_of (lexeme l) x (lexemes ls) (a ++ b) e) ∙ ap (λ z. x ∷ z) rest.front_is;
      back_is = rest.back_is;
    }

-- ---- facts together

abbrev pub Pair : {A B : Type 0} → (A → Type 0) → (B → Type 0) → A × B → Type 0
Pair R Q v = R v.0 × Q v.1

abbrev pub Then : {A B : Type 0} → (A → List Piece → Type 0) → (B → List Piece → Type 0) → A × B → List Piece → Type 0
Then F G v ls = (F v.0 then G v.1) ls

pub both : {A B : Type 0} {R : A → Type 0} {Q : B → Type 0} {F : A → List Piece → Type 0} {G : B → List Piece → Type 0} {m k : List Lexeme} {p q : ℕ}
    → Canonical R F m p → Canonical Q G k q → Canonical (Pair R Q) (Then F G) (m ++ k) (p + q)
both {A} {B} {R} {Q} {F} {G} {m} {k} {p} {q} f g = record {
  parts = parts_append m k f.parts g.parts;
  reads = λ ls e. (
      let c = cut m k ls e in
      let a = f.reads c.front c.front_is in
      let b = g.reads c.back c.back_is in
      let whole : length ls ≡ length c.front + length c.back = size_of ls c.front c.back c.glue in
      let one : length c.front ≤ p = a.short in
      let two : length c.back ≤ q = b.short in
      record {
        value = (a.value, b.value);
        is = (a.is, b.is);
        spells = (c.front, c.back, c.glue, a.spells, b.spells);
        short = omega arith;
      });
}

-- the same pieces in another form, with another value
pub moved : {A B : Type 0} {R : A → Type 0} {Q : B → Type 0} {F : A → List Piece → Type 0} {G : B → List Piece → Type 0} {m : List Lexeme} {p : ℕ}
    → (make : A → B) → ((x : A) → R x → Q (make x)) → ((x : A) (ls : List Piece) → F x ls → G (make x) ls) → Canonical R F m p → Canonical Q G m p
moved {A} {B} {R} {Q} {F} {G} {m} {p} make keeps reads f = record {
  parts = f.parts;
  reads = λ ls e. (
      let a = f.reads ls e in record { value = make a.value; is = keeps a.value a.is; spells = reads a.value ls a.spells; short = a.short });
}

pub found : {A B : Type 0} {R : A → Type 0} {Q : B → Type 0} {F : A → List Piece → Type 0} {G : B → List Piece → Type 0} {m : List Lexeme} {p : ℕ}
    → ((x : A) (ls : List Piece) → R x → F x ls → (y : B) × Q y × G y ls) → Canonical R F m p → Canonical Q G m p
found {A} {B} {R} {Q} {F} {G} {m} {p} reads f = record {
  parts = f.parts;
  reads = λ ls e. (
      let a = f.reads ls e in
      let b = reads a.value ls a.is a.spells in
      record { value = b.0; is = b.1; spells = b.2; short = a.short });
}

pub rewritten : {A : Type 0} {R : A → Type 0} {F : A → List Piece → Type 0} {m k : List Lexeme} {p q : ℕ}
    → k ≡ m → p ≤ q → Canonical R F m p → Canonical R F k q
rewritten {A} {R} {F} {m} {k} {p} {q} same le f = record {
  parts = subst AreParts (sym same) f.parts;
  reads = λ ls e. (
      let a = f.reads ls (e ∙ same) in
      let one : length ls ≤ p = a.short in
      record { value = a.value; is = a.is; spells = a.spells; short = omega arith });
}

-- no pieces
pub none : {A : Type 0} {R : A → Type 0} {F : A → List Piece → Type 0} (x : A) → R x → F x [] → Canonical R F [] 0
none {A} {R} {F} x keeps reads = record { parts = tt; reads = go }
  where
    go : (ls : List Piece) → lexemes ls ≡ [] → Read R F ls 0
    go [] e = record { value = x; is = keeps; spells = reads; short = omega arith }
    go (l ∷ ls) e = absurd (cons_no (lexeme l) (lexemes ls) e)

-- one piece
pub one : {A : Type 0} {R : A → Type 0} {F : A → List Piece → Type 0} (w : Lexeme) → IsPart w
    → ((l : Piece) → lexeme l ≡ w → (x : A) × R x × F x (l ∷ [])) → Canonical R F (w ∷ []) 1
one {A} {R} {F} w part reads = record { parts = (part, tt); reads = go }
  where
    go : (ls : List Piece) → lexemes ls ≡ w ∷ [] → Read R F ls 1
    go [] e = absurd (no_cons w [] e)
    go (l ∷ []) e =
        let r = reads l (head_of (lexeme l) w [] [] e) in record { value = r.0; is = r.1; spells = r.2; short = omega arith }
    go (l ∷ n ∷ ls) e = absurd (cons_no (lexeme n) (lexemes ls) (tail_of (lexeme l) w (lexeme n ∷ lexemes ls) [] e))

-- ---- a form again and again

-- each value is as the one at its place
abbrev pub Same : {A : Type 0} → (A → A → Type 0) → List A → List A → Type 0
Same R [] [] = Unit {0}
Same R [] (y ∷ ys) = ⊥
Same R (x ∷ xs) [] = ⊥
Same R (x ∷ xs) (y ∷ ys) = R x y × Same R xs ys

abbrev pub flat : {A : Type 0} → (A → List Lexeme) → List A → List Lexeme
flat m [] = []
flat m (x ∷ xs) = m x ++ flat m xs

pub each_same : {A : Type 0} (R : A → A → Type 0) (F : A → List Piece → Type 0) (m : A → List Lexeme)
    → ((x : A) (ls : List Piece) → AreGood ls → F x ls → Canonical (R x) F (m x) (length ls)) → (xs : List A) (ls : List Piece)
    → AreGood ls → SpellsEach F xs ls → Canonical (Same R xs) (SpellsEach F) (flat m xs) (length ls)
each_same {A} R F m f [] ls good h = rewritten refl (omega arith) (none [] tt refl)
each_same {A} R F m f (x ∷ xs) ls good (front, back, glue, first, more) =
    let whole : length ls ≡ length front + length back = size_of ls front back glue in
    rewritten refl (omega arith)
    (moved (λ v. v.0 ∷ v.1) (λ v r. r) (λ v ks d. d)
    (both (f x front (good_front ls front back glue good) first) (each_same R F m f xs back (good_back ls front back glue good) more)))
