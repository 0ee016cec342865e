-- Sets by how tightly they hold together.
use Rattle.std.proofs.Common.{◌≡◌, ◌≢◌, ◌≤◌, ◌+◌, ◌⊎◌, inl, inr, ℕ, zero, suc, arith, List, [], ◌∷◌, ◌++◌, length, refl, sym, ◌∙◌, ap, subst}
use Rattle.std.specs.List.{fold}
use Rattle.text_lexer.specs.declared.token.TokenKind.TheVariants as k
use Rattle.text_lexer.specs.Lexeme.{Lexeme, sign_of}
use Rattle.text_ast.specs.Pieces.{Piece}
use Rattle.text_tree.specs.declared.exprs.Expr.{Expr}
use Rattle.text_tree.specs.declared.exprs.SetExpr.{SetExpr, out-SetExpr, out-roll-SetExpr}
use Rattle.text_tree.specs.declared.exprs.SetExpr.TheVariants as s
use Rattle.text_tree.specs.declared.exprs.Expr.TheOpen.{SetExpr-F}
use Rattle.text_tree.specs.Forms.{Spells, IsToken, ◌then◌, AnyNumber, Sign, Lower, token, each, mapped}
use Rattle.text_tree.specs.ExprGrammar.{G, Expression, Set, ◌⨾◌, behind, sign, get, var_of, path_root, path, container, path_chain, set_term, sum, set}
use Rattle.text_tree.specs.Placed.{expr_at, placed_set, set_layer_moved}
use Rattle.text_tree.specs.Stripped.{stripped_set}
use Rattle.text_print.specs.Exprs.{Spelling, at_least, container as container_marks, spelled_expr, spelled_set}
use Rattle.text_print.specs.Marks.{lexemes_of_marks}
use Rattle.text_print.specs.Marks as mark
use Rattle.text_print.proofs.Joined.{at_least_more, container_more}
use Rattle.text_print.proofs.Parts.{at_least_tight}
use Rattle.text_print.proofs.Canonical as c
use Rattle.text_print.proofs.Canonical.{AreGood, Canonical, moved, found}
use Rattle.text_print.proofs.Layers as layer
use Rattle.text_print.proofs.More.{each_more}
use Rattle.text_print.proofs.Ranks.{AsExpr, Deep, Tight, decide, lexemes_append, nil_right}
use Rattle.text_print.proofs.Tokens.{Pieces, at, open_token, close_token, brace_open_token, brace_close_token}

-- ---- the forms

abbrev pub set_form_at : ℕ → G SetExpr
set_form_at zero = set
set_form_at (suc zero) = sum
set_form_at (suc (suc n)) = set_term

one_set_down : (S : Pieces) (r : ℕ) (x : SetExpr) (ls : List Piece) → Spells S (set_form_at (suc r)) x ls → Spells S (set_form_at r) x ls
unfolding set sum
one_set_down S zero x ls h = inr (inr h)
one_set_down S (suc zero) x ls h = ((x, []), refl, (ls, [], nil_right ls, h, (refl, tt)))
one_set_down S (suc (suc r)) x ls h = h

pub set_down : (S : Pieces) (r m : ℕ) → r ≤ m → (x : SetExpr) (ls : List Piece) → Spells S (set_form_at m) x ls → Spells S (set_form_at r) x ls
set_down S r zero le x ls h = let same : zero ≡ r = omega arith in subst (λ z. Spells S (set_form_at z) x ls) same h
set_down S r (suc m) le x ls h = elim (decide r m) [
  | inl below ↦ set_down S r m below x ls (one_set_down S m x ls h)
  | inr above ↦ (let same : suc m ≡ r = omega arith in subst (λ z. Spells S (set_form_at z) x ls) same h)
]

-- a variable and its fields
abbrev pub fields : G Expr
fields = mapped (λ v. fold get (var_of v.0) v.1) (token Lower ⨾ each AnyNumber (behind (sign k.Dot) (token Lower)))

pub path_of_fields : (S : Pieces) (x : Expr) (ls : List Piece) → Spells S fields x ls → Spells S path x ls
unfolding path path_root
path_of_fields S x ls (v, is, (p, q, glue, name, rest)) = ((var_of v.0, v.1), is, (p, q, glue, inl (v.0, refl, name), rest))

dotted : (S : Pieces) (x : Piece) (ls : List Piece) → Spells S (behind (sign k.Dot) (token Lower)) x ls → (IsToken (Sign k.Dot) then Spells S (token Lower) x) ls
dotted S x ls (v, is, (p, q, glue, (dot, admits), h)) = (p, q, glue, (v.0, dot, admits), subst (λ z. Spells S (token Lower) z q) (sym is) h)

pub chain_of_fields : (S : Pieces) (x : Expr) (ls : List Piece) → Spells S fields x ls → (at : ℕ) × Spells S path_chain (s.Path at x) ls
unfolding path_chain
chain_of_fields S x ls (v, is, (p, q, glue, name, (rest, t))) = (
  v.0.at,
  (
    (v.0, (v.1, λ of. of)),
    ap (λ z. s.Path v.0.at z) is,
    (
      p,
      q,
      glue,
      name,
      ((q, [], nil_right q, each_more (Spells S (behind (sign k.Dot) (token Lower))) (λ y. IsToken (Sign k.Dot) then Spells S (token Lower) y) (dotted S) v.1 q rest, inr (refl, refl)), tt),
    ),
  ),
)

-- ---- what is known of a set

abbrev pub AsSet : SetExpr → SetExpr → Type 0
AsSet x y = stripped_set y ≡ stripped_set x

abbrev pub set_lexemes : SetExpr → List Lexeme
set_lexemes x = lexemes_of_marks (spelled_set x).marks

pub path_as : (y x : Expr) (at place : ℕ) → AsExpr x y → AsSet (s.Path place x) (s.Path at y)
path_as y x at place r = layer.Path_stripped y at ∙ ap (λ z. s.Path 0 z) r ∙ sym (layer.Path_stripped x place)

-- It is a variable with its fields, and what is printed spells that.
pub record Bare (S : Pieces) (x : SetExpr) (most : ℕ) : Type 0 where
  pub inner : Expr
  pub place : ℕ
  pub is : x ≡ s.Path place inner
  pub reads : Canonical (AsExpr inner) (Spells S fields) (lexemes_of_marks (at_least 6 (spelled_expr inner))) most

-- What is printed spells the set without parentheses.
abbrev pub Firm : Pieces → SetExpr → ℕ → Type 0
Firm S x most =
    Bare S x most ⊎ (((spelled_set x).rank ≤ 2) × Canonical (AsSet x) (Spells S (set_form_at (spelled_set x).rank)) (set_lexemes x) most)

abbrev pub SetDeep : Pieces → SetExpr → ℕ → Type 0
SetDeep S x most = Canonical (AsSet x) (S Set) (set_lexemes x) most

pub record EnclosedSet (S : Pieces) (x : SetExpr) (most : ℕ) : Type 0 where
  pub inside : ℕ
  pub fewer : inside + 2 ≤ most
  pub firm : Firm S x inside
  pub deep : SetDeep S x inside

abbrev pub HeldSet : Pieces → ℕ → SetExpr → ℕ → Type 0
HeldSet S r x most = (Firm S x most × (r ≤ (spelled_set x).rank)) ⊎ EnclosedSet S x most

-- what is known of the parts
pub record Knows (S : Pieces) : Type 0 where
  pub expr : (x : Expr) (ls : List Piece) → AreGood ls → S Expression x ls → Tight S x (length ls) × Deep S x (length ls)
  pub set : (x : SetExpr) (ls : List Piece) → AreGood ls → S Set x ls → Firm S x (length ls) × SetDeep S x (length ls)

pub held_set : (S : Pieces) (r : ℕ) (x : SetExpr) (f : Spelling) (most : ℕ) → spelled_set x ≡ f → r ≤ f.rank → f.rank ≤ 2
    → Canonical (AsSet x) (Spells S (set_form_at f.rank)) (lexemes_of_marks f.marks) most → HeldSet S r x most
held_set S r x f most is high low t =
    inl (
      inr (subst (λ (z : Spelling). z.rank ≤ 2) (sym is) low, subst (λ z. Canonical (AsSet x) (Spells S (set_form_at z.rank)) (lexemes_of_marks z.marks) most) (sym is) t),
      subst (λ (z : Spelling). r ≤ z.rank) (sym is) high,
    )

pub firm_larger : (S : Pieces) (x : SetExpr) (few most : ℕ) → few ≤ most → Firm S x few → Firm S x most
firm_larger S x few most le (inl b) = inl (record { inner = b.inner; place = b.place; is = b.is; reads = c.rewritten refl le b.reads })
firm_larger S x few most le (inr (low, t)) = inr (low, c.rewritten refl le t)

pub set_looser : (S : Pieces) (r q : ℕ) (x : SetExpr) (most : ℕ) → r ≤ q → HeldSet S q x most → HeldSet S r x most
set_looser S r q x most le (inl (t, high)) = inl (t, omega arith)
set_looser S r q x most le (inr e) = inr e

pub set_larger : (S : Pieces) (r : ℕ) (x : SetExpr) (few most : ℕ) → few ≤ most → HeldSet S r x few → HeldSet S r x most
set_larger S r x few most le (inl (t, high)) = inl (firm_larger S x few most le t, high)
set_larger S r x few most le (inr e) =
    let few : e.inside + 2 ≤ few = e.fewer in
    inr (record { inside = e.inside; fewer = omega arith; firm = e.firm; deep = e.deep })

pub firm_of : (S : Pieces) (r : ℕ) (x : SetExpr) (most : ℕ) → HeldSet S r x most → Firm S x most
firm_of S r x most (inl (t, high)) = t
firm_of S r x most (inr e) = let few : e.inside + 2 ≤ most = e.fewer in firm_larger S x e.inside most (omega arith) e.firm

bare_at : (S : Pieces) (x : SetExpr) (most : ℕ) → Bare S x most → Canonical (AsSet x) (Spells S set_term) (set_lexemes x) most
unfolding set_term
bare_at S x most b =
    subst (λ z. Canonical (AsSet z) (Spells S set_term) (set_lexemes z) most) (sym b.is)
    (c.rewritten (ap (λ z. lexemes_of_marks z.marks) (layer.Path_spelled b.inner b.place)) (omega arith)
    (found (λ y ls r d. (let chain = chain_of_fields S y ls d in
    (s.Path chain.0 y, path_as y b.inner chain.0 b.place r, inr (inr (inr (inr (inr chain.1))))))) b.reads))

pub firm_at : (S : Pieces) (r : ℕ) → r ≤ 2 → (x : SetExpr) (most : ℕ) → r ≤ (spelled_set x).rank → Firm S x most
    → Canonical (AsSet x) (Spells S (set_form_at r)) (set_lexemes x) most
firm_at S r two x most high (inl b) = moved (λ y. y) (λ y e. e) (set_down S r 2 two) (bare_at S x most b)
firm_at S r two x most high (inr (low, t)) = moved (λ y. y) (λ y e. e) (set_down S r (spelled_set x).rank high) t

pub set_in_parens : (S : Pieces) (x : SetExpr) (m : List Lexeme) (most : ℕ) → Canonical (AsSet x) (S Set) m most
    → Canonical (AsSet x) (Spells S set_term) (at k.ParenOpen (sign_of k.ParenOpen) ∷ (m ++ at k.ParenClose (sign_of k.ParenClose) ∷ [])) (most + 2)
unfolding set_term
set_in_parens S x m most f =
    c.rewritten refl (omega arith)
    (moved (λ v. placed_set v.0.at v.1.0) (λ v r. layer.stripped_placed_set v.0.at v.1.0 ∙ r.1.0)
    (λ v ls d. inr (inr (inr (inl (v, refl, d)))))
    (c.both (open_token S) (c.both f (close_token S))))

pub set_held_at : (S : Pieces) (r : ℕ) → r ≤ 2 → (x : SetExpr) (most : ℕ) → HeldSet S r x most
    → Canonical (AsSet x) (Spells S (set_form_at r)) (lexemes_of_marks (at_least r (spelled_set x))) most
set_held_at S r two x most (inl (t, high)) =
    c.rewritten (ap lexemes_of_marks (at_least_tight r (spelled_set x) high)) (omega arith) (firm_at S r two x most high t)
set_held_at S r two x most (inr e) =
    let few : e.inside + 2 ≤ most = e.fewer in
    elim (decide r (spelled_set x).rank) [
      | inl high ↦ c.rewritten (ap lexemes_of_marks (at_least_tight r (spelled_set x) high)) (omega arith) (firm_at S r two x e.inside high e.firm)
      | inr low ↦ c.rewritten
          (ap lexemes_of_marks (at_least_more r (spelled_set x) low) ∙ ap (λ z. at k.ParenOpen (sign_of k.ParenOpen) ∷ z) (lexemes_append (spelled_set x).marks (mark.sign k.ParenClose ∷ [])))
          few (moved (λ y. y) (λ y e. e) (set_down S r 2 two) (set_in_parens S x (set_lexemes x) e.inside e.deep))
    ]

-- A set with another place is held the same.
moved_path : (at : ℕ) (inner : Expr) (place : ℕ) → placed_set at (s.Path place inner) ≡ s.Path at inner
unfolding placed_set
moved_path at inner place =
    ap (λ z. set_layer_moved at (out-SetExpr z)) (sym (s.rolls-Path place inner)) ∙ ap (set_layer_moved at) (out-roll-SetExpr (SetExpr-F.Path place inner))

pub firm_as : (S : Pieces) (y : SetExpr) (at most : ℕ) → Firm S y most → Firm S (placed_set at y) most
firm_as S y at most (inl b) =
    inl (record { inner = b.inner; place = at; is = ap (placed_set at) b.is ∙ moved_path at b.inner b.place; reads = b.reads })
firm_as S y at most (inr (low, t)) =
    let same = layer.spelled_placed_set at y in
    inr (
      subst (λ (z : Spelling). z.rank ≤ 2) (sym same) low,
      moved (λ v. v) (λ v r. r ∙ sym (layer.stripped_placed_set at y)) (λ v ls d. subst (λ z. Spells S (set_form_at z.rank) v ls) (sym same) d)
          (c.rewritten (ap (λ z. lexemes_of_marks z.marks) same) (omega arith) t),
    )

pub set_deep_as : (S : Pieces) (y : SetExpr) (at most : ℕ) → SetDeep S y most → SetDeep S (placed_set at y) most
set_deep_as S y at most t =
    moved (λ v. v) (λ v r. r ∙ sym (layer.stripped_placed_set at y)) (λ v ls d. d)
    (c.rewritten (ap (λ z. lexemes_of_marks z.marks) (layer.spelled_placed_set at y)) (omega arith) t)

-- ---- the set after `in`

not_three : (a : ℕ) → a ≤ 2 → a ≢ 3
not_three a le e = omega (arith, e)

pub firm_container : (S : Pieces) (x : SetExpr) (most : ℕ) → Firm S x most → SetDeep S x most
    → Canonical (AsSet x) (Spells S container) (lexemes_of_marks (container_marks (spelled_set x))) (most + 2)
unfolding container
firm_container S x most (inl b) deep =
    subst (λ z. Canonical (AsSet z) (Spells S container) (lexemes_of_marks (container_marks (spelled_set z))) (most + 2)) (sym b.is)
    (c.rewritten (ap (λ z. lexemes_of_marks (container_marks z)) (layer.Path_spelled b.inner b.place)) (omega arith)
    (moved (λ y. s.Path (expr_at y) y) (λ y r. path_as y b.inner (expr_at y) b.place r) (λ y ls d. inl (y, refl, path_of_fields S y ls d)) b.reads))
firm_container S x most (inr (low, t)) deep =
    c.rewritten
    (ap lexemes_of_marks (container_more (spelled_set x) (not_three (spelled_set x).rank low))
    ∙ ap (λ z. at k.BraceOpen (sign_of k.BraceOpen) ∷ z) (lexemes_append (spelled_set x).marks (mark.sign k.BraceClose ∷ [])))
    (omega arith)
    (moved (λ v. v.1.0) (λ v r. r.1.0) (λ v ls d. inr (v, refl, d)) (c.both (brace_open_token S) (c.both deep (brace_close_token S))))
