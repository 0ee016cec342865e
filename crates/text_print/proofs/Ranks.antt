-- Expressions by how tightly they hold together.
use Rattle.std.proofs.Common.{◌≡◌, ◌≤◌, ◌<◌, ◌+◌, ◌⊎◌, inl, inr, ℕ, zero, suc, Bool, true, false, leb, arith, List, [], ◌∷◌, ◌++◌, refl, sym, ◌∙◌, ap, subst}
use Rattle.std.proofs.lemmas.Bool.{leb-true, leb-false}
use Rattle.text_lexer.specs.declared.token.TokenKind.TheVariants as k
use Rattle.text_lexer.specs.Lexeme.{Lexeme, sign_of}
use Rattle.text_ast.specs.Pieces.{Piece}
use Rattle.text_tree.specs.declared.exprs.Expr.{Expr}
use Rattle.text_tree.specs.Forms.{Spells}
use Rattle.text_tree.specs.ExprGrammar.{G, Expression, path_root, path, atom, unary, comparison, compared, conjunction, disjunction, expression}
use Rattle.text_tree.specs.Placed.{placed_expr}
use Rattle.text_tree.specs.Stripped.{stripped_expr}
use Rattle.text_print.specs.Exprs.{Spelling, at_least, spelled_expr}
use Rattle.text_print.specs.Marks.{Mark, blank, written, lexemes_of_marks, sign}
use Rattle.text_print.proofs.Joined.{at_least_more}
use Rattle.text_print.proofs.Parts.{at_least_tight}
use Rattle.text_print.proofs.Canonical as c
use Rattle.text_print.proofs.Canonical.{Canonical, Read, moved}
use Rattle.text_print.proofs.Layers.{stripped_placed_expr}
use Rattle.text_print.proofs.Tokens.{Pieces, at, open_token, close_token}

pub nil_right : (ls : List Piece) → ls ≡ ls ++ []
nil_right [] = refl
nil_right (l ∷ ls) = ap (λ z. l ∷ z) (nil_right ls)

pub decide : (a b : ℕ) → (a ≤ b) ⊎ (b < a)
decide a b =
    elim (leb a b) as (λ (t : Bool). leb a b ≡ t → (a ≤ b) ⊎ (b < a))
    [ true ↦ λ e. inl (leb-true a b e) | false ↦ λ e. inr (omega (arith, leb-false a b e)) ] refl

pub lexemes_append : (a b : List Mark) → lexemes_of_marks (a ++ b) ≡ lexemes_of_marks a ++ lexemes_of_marks b
lexemes_append [] b = refl
lexemes_append (blank bytes ∷ a) b = lexemes_append a b
lexemes_append (written l ∷ a) b = ap (λ z. l ∷ z) (lexemes_append a b)

-- ---- the forms

abbrev pub form_at : ℕ → G Expr
form_at zero = expression
form_at (suc zero) = disjunction
form_at (suc (suc zero)) = conjunction
form_at (suc (suc (suc zero))) = compared
form_at (suc (suc (suc (suc zero)))) = unary
form_at (suc (suc (suc (suc (suc zero))))) = atom
form_at (suc (suc (suc (suc (suc (suc n)))))) = path

one_down : (S : Pieces) (r : ℕ) (x : Expr) (ls : List Piece) → Spells S (form_at (suc r)) x ls → Spells S (form_at r) x ls
unfolding expression disjunction conjunction compared comparison unary atom
one_down S zero x ls h = inr (inr h)
one_down S (suc zero) x ls h = ((x, []), refl, (ls, [], nil_right ls, h, (refl, tt)))
one_down S (suc (suc zero)) x ls h = ((x, []), refl, (ls, [], nil_right ls, h, (refl, tt)))
one_down S (suc (suc (suc zero))) x ls h = ((x, λ left. left), refl, (ls, [], nil_right ls, h, inr (inr (refl, refl))))
one_down S (suc (suc (suc (suc zero)))) x ls h = inr h
one_down S (suc (suc (suc (suc (suc zero))))) x ls h = inr (inr (inr (inr h)))
one_down S (suc (suc (suc (suc (suc (suc r)))))) x ls h = h

pub down : (S : Pieces) (r m : ℕ) → r ≤ m → (x : Expr) (ls : List Piece) → Spells S (form_at m) x ls → Spells S (form_at r) x ls
down S r zero le x ls h = let same : zero ≡ r = omega arith in subst (λ z. Spells S (form_at z) x ls) same h
down S r (suc m) le x ls h = elim (decide r m) [
  | inl below ↦ down S r m below x ls (one_down S m x ls h)
  | inr above ↦ (let same : suc m ≡ r = omega arith in subst (λ z. Spells S (form_at z) x ls) same h)
]

pub path_of_root : (S : Pieces) (x : Expr) (ls : List Piece) → Spells S path_root x ls → Spells S path x ls
unfolding path
path_of_root S x ls h = ((x, []), refl, (ls, [], nil_right ls, h, (refl, tt)))

-- ---- what is known of an expression

abbrev pub AsExpr : Expr → Expr → Type 0
AsExpr x y = stripped_expr y ≡ stripped_expr x

abbrev pub expr_lexemes : Expr → List Lexeme
expr_lexemes x = lexemes_of_marks (spelled_expr x).marks

-- What is printed spells the expression without parentheses.
abbrev pub Tight : Pieces → Expr → ℕ → Type 0
Tight S x most = Canonical (AsExpr x) (Spells S (form_at (spelled_expr x).rank)) (expr_lexemes x) most

-- It spells it as a part, too.
abbrev pub Deep : Pieces → Expr → ℕ → Type 0
Deep S x most = Canonical (AsExpr x) (S Expression) (expr_lexemes x) most

-- The expression stands in parentheses, one level deeper.
pub record Enclosed (S : Pieces) (x : Expr) (most : ℕ) : Type 0 where
  pub inside : ℕ
  pub fewer : inside + 2 ≤ most
  pub tight : Tight S x inside
  pub deep : Deep S x inside

-- The expression stands where the grammar asks for so tight a form.
abbrev pub Held : Pieces → ℕ → Expr → ℕ → Type 0
Held S r x most = (Tight S x most × (r ≤ (spelled_expr x).rank)) ⊎ Enclosed S x most

pub held : (S : Pieces) (r : ℕ) (x : Expr) (s : Spelling) (most : ℕ) → spelled_expr x ≡ s → r ≤ s.rank
    → Canonical (AsExpr x) (Spells S (form_at s.rank)) (lexemes_of_marks s.marks) most → Held S r x most
held S r x s most is le t =
    inl (subst (λ z. Canonical (AsExpr x) (Spells S (form_at z.rank)) (lexemes_of_marks z.marks) most) (sym is) t, subst (λ (z : Spelling). r ≤ z.rank) (sym is) le)

pub looser : (S : Pieces) (r q : ℕ) (x : Expr) (most : ℕ) → r ≤ q → Held S q x most → Held S r x most
looser S r q x most le (inl (t, high)) = inl (t, omega arith)
looser S r q x most le (inr e) = inr e

pub larger : (S : Pieces) (r : ℕ) (x : Expr) (few most : ℕ) → few ≤ most → Held S r x few → Held S r x most
larger S r x few most le (inl (t, high)) = inl (c.rewritten refl le t, high)
larger S r x few most le (inr e) =
    let few : e.inside + 2 ≤ few = e.fewer in
    inr (record { inside = e.inside; fewer = omega arith; tight = e.tight; deep = e.deep })

pub tight_of : (S : Pieces) (r : ℕ) (x : Expr) (most : ℕ) → Held S r x most → Tight S x most
tight_of S r x most (inl (t, high)) = t
tight_of S r x most (inr e) = let few : e.inside + 2 ≤ most = e.fewer in c.rewritten refl (omega arith) e.tight

-- ---- parentheses

pub in_parens : (S : Pieces) (x : Expr) (m : List Lexeme) (most : ℕ) → Canonical (AsExpr x) (S Expression) m most
    → Canonical (AsExpr x) (Spells S path) (at k.ParenOpen (sign_of k.ParenOpen) ∷ (m ++ at k.ParenClose (sign_of k.ParenClose) ∷ [])) (most + 2)
unfolding path_root
in_parens S x m most f =
    c.rewritten refl (omega arith)
    (moved (λ v. placed_expr v.0.at v.1.0) (λ v r. stripped_placed_expr v.0.at v.1.0 ∙ r.1.0)
    (λ v ls d. path_of_root S (placed_expr v.0.at v.1.0) ls (inr (v, refl, d)))
    (c.both (open_token S) (c.both f (close_token S))))

pub held_at : (S : Pieces) (r : ℕ) → r ≤ 6 → (x : Expr) (most : ℕ) → Held S r x most
    → Canonical (AsExpr x) (Spells S (form_at r)) (lexemes_of_marks (at_least r (spelled_expr x))) most
held_at S r six x most (inl (t, high)) = c.rewritten (ap lexemes_of_marks (at_least_tight r (spelled_expr x) high)) (omega arith)
    (moved (λ y. y) (λ y e. e) (down S r (spelled_expr x).rank high) t)
held_at S r six x most (inr e) =
    let few : e.inside + 2 ≤ most = e.fewer in
    elim (decide r (spelled_expr x).rank) [
      | inl high ↦ c.rewritten (ap lexemes_of_marks (at_least_tight r (spelled_expr x) high)) (omega arith) (moved (λ y. y) (λ y e. e) (down S r (spelled_expr x).rank high) e.tight)
      | inr low ↦ c.rewritten
          (ap lexemes_of_marks (at_least_more r (spelled_expr x) low) ∙ ap (λ z. at k.ParenOpen (sign_of k.ParenOpen) ∷ z) (lexemes_append (spelled_expr x).marks (sign k.ParenClose ∷ [])))
          few (moved (λ y. y) (λ y e. e) (down S r 6 six) (in_parens S x (expr_lexemes x) e.inside e.deep))
    ]

-- An expression that differs in its places alone is held the same.
pub tight_as : (S : Pieces) (x y : Expr) (most : ℕ) → spelled_expr x ≡ spelled_expr y → stripped_expr x ≡ stripped_expr y → Tight S y most → Tight S x most
tight_as S x y most same plain t =
    moved (λ v. v) (λ v r. r ∙ sym plain) (λ v ls d. subst (λ z. Spells S (form_at z.rank) v ls) (sym same) d)
    (c.rewritten (ap (λ z. lexemes_of_marks z.marks) same) (omega arith) t)

pub deep_as : (S : Pieces) (x y : Expr) (most : ℕ) → spelled_expr x ≡ spelled_expr y → stripped_expr x ≡ stripped_expr y → Deep S y most → Deep S x most
deep_as S x y most same plain t =
    moved (λ v. v) (λ v r. r ∙ sym plain) (λ v ls d. d) (c.rewritten (ap (λ z. lexemes_of_marks z.marks) same) (omega arith) t)
