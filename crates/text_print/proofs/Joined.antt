-- What the parts of a tree spell, level by level.
use Rattle.std.proofs.Common.{◌≡◌, ◌≢◌, ◌<◌, arith, ℕ, Bool, true, false, leb, eqb, List, [], ◌∷◌, ◌++◌, map, refl, sym, ◌∙◌, ap, append_assoc, codes}
use Rattle.text_tree.specs.declared.named.Named.{Named}
use Rattle.text_tree.specs.declared.exprs.CmpOp.{CmpOp}
use Rattle.text_tree.specs.declared.exprs.Expr.{Expr}
use Rattle.text_tree.specs.declared.exprs.SetExpr.{SetExpr}
use Rattle.text_tree.specs.declared.exprs.Item.{Item}
use Rattle.text_tree.specs.declared.exprs.Filter.{Filter}
use Rattle.text_tree.specs.declared.exprs.Expr.TheVariants as e
use Rattle.text_tree.specs.declared.exprs.SetExpr.TheVariants as s
use Rattle.text_tree.specs.declared.exprs.Expr.TheOpen.{Expr-F, SetExpr-F}
use Rattle.text_tree.specs.declared.exprs.Expr.TheFolds.{fold-roll-Expr, fold-roll-SetExpr}
use Rattle.std.proofs.lemmas.Bool.{leb-true, ne_eqb}
use Rattle.text_lexer.specs.declared.token.TokenKind.TheVariants as k
use Rattle.text_print.specs.Exprs.{Spelling, at_least, cases, container, expr_spelling, filter_spelling, item_spelling, set_spelling, spelled_expr, spelled_filter, spelled_item, spelled_set}
use Rattle.text_print.specs.Marks.{Mark, mark_bytes, sign, text_of_marks}

pub text-append : (a b : List Mark) → text_of_marks (a ++ b) ≡ text_of_marks a ++ text_of_marks b
text-append [] b = refl
text-append (m ∷ a) b = ap (λ (z : List ℕ). mark_bytes m ++ z) (text-append a b) ∙ sym (append_assoc (mark_bytes m) (text_of_marks a) (text_of_marks b))

pub SomeLit_is : (a : Expr) (at : ℕ) → spelled_expr (e.SomeLit at a) ≡ expr_spelling (Expr-F.SomeLit at (spelled_expr a))
SomeLit_is a at = ap spelled_expr (sym (e.rolls-SomeLit at a)) ∙ fold-roll-Expr Spelling (List Mark) Spelling (List Mark) expr_spelling item_spelling set_spelling filter_spelling (Expr-F.SomeLit at a)

pub Get_is : (a : Expr) (f : Named) (at : ℕ) → spelled_expr (e.Get at a f) ≡ expr_spelling (Expr-F.Get at (spelled_expr a) f)
Get_is a f at = ap spelled_expr (sym (e.rolls-Get at a f)) ∙ fold-roll-Expr Spelling (List Mark) Spelling (List Mark) expr_spelling item_spelling set_spelling filter_spelling (Expr-F.Get at a f)

pub Cmp_is : (op : CmpOp) (a b : Expr) (at : ℕ) → spelled_expr (e.Cmp at op a b) ≡ expr_spelling (Expr-F.Cmp at op (spelled_expr a) (spelled_expr b))
Cmp_is op a b at = ap spelled_expr (sym (e.rolls-Cmp at op a b)) ∙ fold-roll-Expr Spelling (List Mark) Spelling (List Mark) expr_spelling item_spelling set_spelling filter_spelling (Expr-F.Cmp at op a b)

pub Member_is : (a : Expr) (s : SetExpr) (at : ℕ) → spelled_expr (e.Member at a s) ≡ expr_spelling (Expr-F.Member at (spelled_expr a) (spelled_set s))
Member_is a s at = ap spelled_expr (sym (e.rolls-Member at a s)) ∙ fold-roll-Expr Spelling (List Mark) Spelling (List Mark) expr_spelling item_spelling set_spelling filter_spelling (Expr-F.Member at a s)

pub Not_is : (a : Expr) (at : ℕ) → spelled_expr (e.Not at a) ≡ expr_spelling (Expr-F.Not at (spelled_expr a))
Not_is a at = ap spelled_expr (sym (e.rolls-Not at a)) ∙ fold-roll-Expr Spelling (List Mark) Spelling (List Mark) expr_spelling item_spelling set_spelling filter_spelling (Expr-F.Not at a)

pub And_is : (a b : Expr) (at : ℕ) → spelled_expr (e.And at a b) ≡ expr_spelling (Expr-F.And at (spelled_expr a) (spelled_expr b))
And_is a b at = ap spelled_expr (sym (e.rolls-And at a b)) ∙ fold-roll-Expr Spelling (List Mark) Spelling (List Mark) expr_spelling item_spelling set_spelling filter_spelling (Expr-F.And at a b)

pub Or_is : (a b : Expr) (at : ℕ) → spelled_expr (e.Or at a b) ≡ expr_spelling (Expr-F.Or at (spelled_expr a) (spelled_expr b))
Or_is a b at = ap spelled_expr (sym (e.rolls-Or at a b)) ∙ fold-roll-Expr Spelling (List Mark) Spelling (List Mark) expr_spelling item_spelling set_spelling filter_spelling (Expr-F.Or at a b)

pub IfE_is : (a b d : Expr) (at : ℕ) → spelled_expr (e.IfE at a b d) ≡ expr_spelling (Expr-F.IfE at (spelled_expr a) (spelled_expr b) (spelled_expr d))
IfE_is a b d at = ap spelled_expr (sym (e.rolls-IfE at a b d)) ∙ fold-roll-Expr Spelling (List Mark) Spelling (List Mark) expr_spelling item_spelling set_spelling filter_spelling (Expr-F.IfE at a b d)

pub MatchE_is : (a b : Expr) (x : Named) (d : Expr) (at : ℕ) → spelled_expr (e.MatchE at a b (x, d)) ≡ expr_spelling (Expr-F.MatchE at (spelled_expr a) (spelled_expr b) (x, spelled_expr d))
MatchE_is a b x d at = ap spelled_expr (sym (e.rolls-MatchE at a b (x, d))) ∙ fold-roll-Expr Spelling (List Mark) Spelling (List Mark) expr_spelling item_spelling set_spelling filter_spelling (Expr-F.MatchE at a b (x, d))

pub List_is : (xs : List Item) (at : ℕ) → spelled_set (s.List at xs) ≡ set_spelling (SetExpr-F.List at (map spelled_item xs))
List_is xs at = ap spelled_set (sym (s.rolls-List at xs)) ∙ fold-roll-SetExpr Spelling (List Mark) Spelling (List Mark) expr_spelling item_spelling set_spelling filter_spelling (SetExpr-F.List at xs)

pub Sum_is : (a b : SetExpr) (at : ℕ) → spelled_set (s.Sum at a b) ≡ set_spelling (SetExpr-F.Sum at (spelled_set a) (spelled_set b))
Sum_is a b at = ap spelled_set (sym (s.rolls-Sum at a b)) ∙ fold-roll-SetExpr Spelling (List Mark) Spelling (List Mark) expr_spelling item_spelling set_spelling filter_spelling (SetExpr-F.Sum at a b)

pub Less_is : (a b : SetExpr) (at : ℕ) → spelled_set (s.Less at a b) ≡ set_spelling (SetExpr-F.Less at (spelled_set a) (spelled_set b))
Less_is a b at = ap spelled_set (sym (s.rolls-Less at a b)) ∙ fold-roll-SetExpr Spelling (List Mark) Spelling (List Mark) expr_spelling item_spelling set_spelling filter_spelling (SetExpr-F.Less at a b)

pub Find_is : (m : Named) (xs : List Filter) (at : ℕ) → spelled_set (s.Find at m xs) ≡ set_spelling (SetExpr-F.Find at m (map spelled_filter xs))
Find_is m xs at = ap spelled_set (sym (s.rolls-Find at m xs)) ∙ fold-roll-SetExpr Spelling (List Mark) Spelling (List Mark) expr_spelling item_spelling set_spelling filter_spelling (SetExpr-F.Find at m xs)

pub MapS_is : (a : SetExpr) (x : Named) (b : Expr) (at : ℕ) → spelled_set (s.MapS at a x b) ≡ set_spelling (SetExpr-F.MapS at (spelled_set a) x (spelled_expr b))
MapS_is a x b at = ap spelled_set (sym (s.rolls-MapS at a x b)) ∙ fold-roll-SetExpr Spelling (List Mark) Spelling (List Mark) expr_spelling item_spelling set_spelling filter_spelling (SetExpr-F.MapS at a x b)

pub FlatS_is : (a : SetExpr) (x : Named) (b : SetExpr) (at : ℕ) → spelled_set (s.FlatS at a x b) ≡ set_spelling (SetExpr-F.FlatS at (spelled_set a) x (spelled_set b))
FlatS_is a x b at = ap spelled_set (sym (s.rolls-FlatS at a x b)) ∙ fold-roll-SetExpr Spelling (List Mark) Spelling (List Mark) expr_spelling item_spelling set_spelling filter_spelling (SetExpr-F.FlatS at a x b)

pub IfS_is : (a : Expr) (b d : SetExpr) (at : ℕ) → spelled_set (s.IfS at a b d) ≡ set_spelling (SetExpr-F.IfS at (spelled_expr a) (spelled_set b) (spelled_set d))
IfS_is a b d at = ap spelled_set (sym (s.rolls-IfS at a b d)) ∙ fold-roll-SetExpr Spelling (List Mark) Spelling (List Mark) expr_spelling item_spelling set_spelling filter_spelling (SetExpr-F.IfS at a b d)

pub MatchS_is : (a : Expr) (b : SetExpr) (x : Named) (d : SetExpr) (at : ℕ) → spelled_set (s.MatchS at a b x d) ≡ set_spelling (SetExpr-F.MatchS at (spelled_expr a) (spelled_set b) x (spelled_set d))
MatchS_is a b x d at = ap spelled_set (sym (s.rolls-MatchS at a b x d)) ∙ fold-roll-SetExpr Spelling (List Mark) Spelling (List Mark) expr_spelling item_spelling set_spelling filter_spelling (SetExpr-F.MatchS at a b x d)

pub at_least_more : (rank : ℕ) (s : Spelling) → s.rank < rank → at_least rank s ≡ sign k.ParenOpen ∷ (s.marks ++ sign k.ParenClose ∷ [])
at_least_more rank s low = go (leb rank s.rank) refl
  where
    go : (test : Bool) → leb rank s.rank ≡ test → at_least rank s ≡ sign k.ParenOpen ∷ (s.marks ++ sign k.ParenClose ∷ [])
    go true h = absurd (omega (arith, leb-true rank s.rank h))
    go false h = rw h refl

pub cases_text : (of none : List Mark) (x : List ℕ) (some : List Mark) → text_of_marks (cases of none x some) ≡ codes "match " ++ (text_of_marks of ++ (codes " with none -> " ++ (text_of_marks none ++ (codes " | some " ++ (x ++ (codes " -> " ++ text_of_marks some))))))
cases_text of none x some = simp text-append

pub assoc8 : (o a b c d e f g h : List ℕ) → (((((((o ++ a) ++ b) ++ c) ++ d) ++ e) ++ f) ++ g) ++ h ≡ o ++ (a ++ (b ++ (c ++ (d ++ (e ++ (f ++ (g ++ h)))))))
assoc8 o a b c d e f g h = simp append_assoc

pub container_more : (s : Spelling) → s.rank ≢ 3 → container s ≡ sign k.BraceOpen ∷ (s.marks ++ sign k.BraceClose ∷ [])
container_more s other = let test : eqb s.rank 3 ≡ false = ne_eqb s.rank 3 other in rw test refl
