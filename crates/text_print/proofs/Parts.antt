-- The texts of the parts, piece by piece.
use Rattle.std.proofs.Common.{◌≡◌, ◌≤◌, arith, ℕ, Bool, true, false, leb, List, [], ◌∷◌, ◌++◌, map, refl, sym, ◌∙◌, ap, append_assoc, append-nil, codes}
use Rattle.std.proofs.lemmas.Bool.{leb-false}
use Rattle.std.specs.List.{flat_map}
use Rattle.text_lexer.specs.declared.token.TokenKind.TheVariants as k
use Rattle.text_tree.specs.declared.named.Named.{Named}
use Rattle.text_tree.specs.declared.models.FieldDef.{FieldDef}
use Rattle.text_tree.specs.declared.models.ModelDef.{ModelDef}
use Rattle.text_tree.specs.declared.policies.Init.{Init}
use Rattle.text_tree.specs.declared.exprs.CmpOp.{CmpOp}
use Rattle.text_tree.specs.declared.exprs.Expr.{Expr}
use Rattle.text_tree.specs.declared.exprs.SetExpr.{SetExpr}
use Rattle.text_tree.specs.declared.exprs.Item.{Item}
use Rattle.text_tree.specs.declared.exprs.Filter.{Filter}
use Rattle.text_tree.specs.declared.exprs.Item.TheVariants as i
use Rattle.text_tree.specs.declared.exprs.Expr.TheOpen.{SetExpr-F, Item-F}
use Rattle.text_tree.specs.declared.exprs.Expr.TheFolds.{fold-roll-SetExpr, fold-roll-Item, fold_out-Filter}
use Rattle.text_tree.specs.declared.exprs.Expr.TheVariants as e
use Rattle.text_tree.specs.declared.exprs.SetExpr.TheVariants as s
use Rattle.text_print.specs.Exprs.{Spelling, at_least, between, cmp_sign, commas, container, expr_spelling, filter_sign, filter_spelling, item_spelling, joined, set_spelling, spelled_expr, spelled_filter, spelled_item, spelled_set}
use Rattle.text_print.specs.Marks.{Mark, newline, sign, sp, text_of_marks}
use Rattle.text_print.specs.Models.{braced, entry_line, field_line, lambda, model_head, model_lines, right, rights_of_field, spelled_field, spelled_model, spelled_type}
use Rattle.text_print.specs.Commands.{added, spelled_init}
use Rattle.text_print.proofs.Joined.{text-append, SomeLit_is, Get_is, Cmp_is, Member_is, Not_is, And_is, Or_is, IfE_is, MatchE_is, List_is, Sum_is, Less_is, Find_is, MapS_is, FlatS_is, IfS_is, MatchS_is}

pub at_least_tight : (rank : ℕ) (s : Spelling) → rank ≤ s.rank → at_least rank s ≡ s.marks
at_least_tight rank s high = go (leb rank s.rank) refl
  where
    go : (test : Bool) → leb rank s.rank ≡ test → at_least rank s ≡ s.marks
    go true h = rw h refl
    go false h = absurd (omega (arith, leb-false rank s.rank h))

pub SomeLit_text : (a : Expr) (at : ℕ)
    → text_of_marks (spelled_expr (e.SomeLit at a)).marks ≡ codes "some(" ++ (text_of_marks (spelled_expr a).marks ++ (codes ")"))
SomeLit_text a at = rw (SomeLit_is a at) (simp text-append)

pub Get_text : (a : Expr) (f : Named) (at : ℕ)
    → text_of_marks (spelled_expr (e.Get at a f)).marks ≡ text_of_marks (at_least 6 (spelled_expr a)) ++ (codes "." ++ (f.name))
Get_text a f at = rw (Get_is a f at) (simp (text-append, append-nil))

pub Cmp_text : (op : CmpOp) (a b : Expr) (at : ℕ)
    → text_of_marks (spelled_expr (e.Cmp at op a b)).marks ≡ text_of_marks (at_least 4 (spelled_expr a)) ++ (text_of_marks (between (cmp_sign op)) ++ (text_of_marks (at_least 4 (spelled_expr b))))
Cmp_text op a b at = rw (Cmp_is op a b at) (simp text-append)

pub Member_text : (a : Expr) (set : SetExpr) (at : ℕ)
    → text_of_marks (spelled_expr (e.Member at a set)).marks ≡ text_of_marks (at_least 4 (spelled_expr a)) ++ (codes " in " ++ (text_of_marks (container (spelled_set set))))
Member_text a set at = rw (Member_is a set at) (simp text-append)

pub Not_text : (a : Expr) (at : ℕ)
    → text_of_marks (spelled_expr (e.Not at a)).marks ≡ codes "!" ++ (text_of_marks (at_least 5 (spelled_expr a)))
Not_text a at = rw (Not_is a at) refl

pub And_text : (a b : Expr) (at : ℕ)
    → text_of_marks (spelled_expr (e.And at a b)).marks ≡ text_of_marks (at_least 2 (spelled_expr a)) ++ (codes " && " ++ (text_of_marks (at_least 3 (spelled_expr b))))
And_text a b at = rw (And_is a b at) (simp text-append)

pub Or_text : (a b : Expr) (at : ℕ)
    → text_of_marks (spelled_expr (e.Or at a b)).marks ≡ text_of_marks (at_least 1 (spelled_expr a)) ++ (codes " || " ++ (text_of_marks (at_least 2 (spelled_expr b))))
Or_text a b at = rw (Or_is a b at) (simp text-append)

pub IfE_text : (a b d : Expr) (at : ℕ)
    → text_of_marks (spelled_expr (e.IfE at a b d)).marks ≡ codes "if " ++ (text_of_marks (spelled_expr a).marks ++ (codes " then " ++ (text_of_marks (spelled_expr b).marks ++ (codes " else " ++ (text_of_marks (spelled_expr d).marks)))))
IfE_text a b d at = rw (IfE_is a b d at) (simp text-append)

pub MatchE_text : (a b : Expr) (some : Named × Expr) (at : ℕ)
    → text_of_marks (spelled_expr (e.MatchE at a b some)).marks ≡ codes "match " ++ (text_of_marks (spelled_expr a).marks ++ (codes " with none -> " ++ (text_of_marks (spelled_expr b).marks ++ (codes " | some " ++ (some.0.name ++ (codes " -> " ++ (text_of_marks (spelled_expr some.1).marks)))))))
MatchE_text a b some at = rw (MatchE_is a b some.0 some.1 at) (simp text-append)

pub List_text : (xs : List Item) (at : ℕ)
    → text_of_marks (spelled_set (s.List at xs)).marks ≡ codes "[" ++ (text_of_marks (commas (map spelled_item xs)) ++ (codes "]"))
List_text xs at = rw (List_is xs at) (simp text-append)

pub Sum_text : (a b : SetExpr) (at : ℕ)
    → text_of_marks (spelled_set (s.Sum at a b)).marks ≡ text_of_marks (at_least 1 (spelled_set a)) ++ (codes " + " ++ (text_of_marks (at_least 2 (spelled_set b))))
Sum_text a b at = rw (Sum_is a b at) (simp text-append)

pub Less_text : (a b : SetExpr) (at : ℕ)
    → text_of_marks (spelled_set (s.Less at a b)).marks ≡ text_of_marks (at_least 1 (spelled_set a)) ++ (codes " - " ++ (text_of_marks (at_least 2 (spelled_set b))))
Less_text a b at = rw (Less_is a b at) (simp text-append)

pub Find_text : (m : Named) (xs : List Filter) (at : ℕ)
    → text_of_marks (spelled_set (s.Find at m xs)).marks ≡ m.name ++ (codes "::Find({" ++ (text_of_marks (commas (map spelled_filter xs)) ++ (codes "})")))
Find_text m xs at = rw (Find_is m xs at) (simp text-append)

pub MapS_text : (a : SetExpr) (x : Named) (b : Expr) (at : ℕ)
    → text_of_marks (spelled_set (s.MapS at a x b)).marks ≡ text_of_marks (spelled_set a).marks ++ (codes ".map(" ++ (x.name ++ (codes " -> " ++ (text_of_marks (spelled_expr b).marks ++ (codes ")")))))
MapS_text a x b at = rw (MapS_is a x b at) (simp text-append)

pub FlatS_text : (a : SetExpr) (x : Named) (b : SetExpr) (at : ℕ)
    → text_of_marks (spelled_set (s.FlatS at a x b)).marks ≡ text_of_marks (spelled_set a).marks ++ (codes ".flat_map(" ++ (x.name ++ (codes " -> " ++ (text_of_marks (spelled_set b).marks ++ (codes ")")))))
FlatS_text a x b at = rw (FlatS_is a x b at) (simp text-append)

pub IfS_text : (a : Expr) (b d : SetExpr) (at : ℕ)
    → text_of_marks (spelled_set (s.IfS at a b d)).marks ≡ codes "if " ++ (text_of_marks (spelled_expr a).marks ++ (codes " then " ++ (text_of_marks (spelled_set b).marks ++ (codes " else " ++ (text_of_marks (spelled_set d).marks)))))
IfS_text a b d at = rw (IfS_is a b d at) (simp text-append)

pub MatchS_text : (a : Expr) (b : SetExpr) (x : Named) (d : SetExpr) (at : ℕ)
    → text_of_marks (spelled_set (s.MatchS at a b x d)).marks ≡ codes "match " ++ (text_of_marks (spelled_expr a).marks ++ (codes " with none -> " ++ (text_of_marks (spelled_set b).marks ++ (codes " | some " ++ (x.name ++ (codes " -> " ++ (text_of_marks (spelled_set d).marks)))))))
MatchS_text a b x d at = rw (MatchS_is a b x d at) (simp text-append)

pub Path_text : (a : Expr) (at : ℕ) → text_of_marks (spelled_set (s.Path at a)).marks ≡ text_of_marks (at_least 6 (spelled_expr a))
Path_text a at =
    ap (λ z. text_of_marks (spelled_set z).marks) (sym (s.rolls-Path at a))
    ∙ ap (λ z. text_of_marks z.marks) (fold-roll-SetExpr Spelling (List Mark) Spelling (List Mark) expr_spelling item_spelling set_spelling filter_spelling (SetExpr-F.Path at a))

pub One_text : (a : Expr) → text_of_marks (spelled_item (i.One a)) ≡ text_of_marks (spelled_expr a).marks
One_text a =
    ap (λ z. text_of_marks (spelled_item z)) (sym (i.rolls-One a))
    ∙ ap text_of_marks (fold-roll-Item Spelling (List Mark) Spelling (List Mark) expr_spelling item_spelling set_spelling filter_spelling (Item-F.One a))

pub Filter_text : (f : Filter) → text_of_marks (spelled_filter f) ≡ f.field.name ++ (text_of_marks (filter_sign f.op) ++ text_of_marks (spelled_expr f.value).marks)
Filter_text f =
    ap text_of_marks (fold_out-Filter Spelling (List Mark) Spelling (List Mark) expr_spelling item_spelling set_spelling filter_spelling f)
    ∙ ap (λ z. f.field.name ++ z) (text-append (filter_sign f.op) (spelled_expr f.value).marks)

pub container_tight : (s : Spelling) → s.rank ≡ 3 → container s ≡ s.marks
container_tight s e = rw e refl

-- ---- policies, models and commands

grown_at : (o n m a b : List ℕ) → n ≡ o ++ a → m ≡ n ++ b → m ≡ o ++ (a ++ b)
grown_at o n m a b e f = f ∙ ap (λ (z : List ℕ). z ++ b) e ∙ append_assoc o a b

pub grown2 : (o n1 n2 a1 a2 w : List ℕ) → n1 ≡ o ++ a1 → n2 ≡ n1 ++ a2 → w ≡ a1 ++ a2 → n2 ≡ o ++ w
grown2 o n1 n2 a1 a2 w e1 e2 is = grown_at o n1 n2 a1 a2 e1 e2 ∙ ap (λ (z : List ℕ). o ++ z) (sym is)

pub grown3 : (o n1 n2 n3 a1 a2 a3 w : List ℕ) → n1 ≡ o ++ a1 → n2 ≡ n1 ++ a2 → n3 ≡ n2 ++ a3 → w ≡ a1 ++ (a2 ++ (a3)) → n3 ≡ o ++ w
grown3 o n1 n2 n3 a1 a2 a3 w e1 e2 e3 is =
    grown2 o n2 n3 (a1 ++ a2) a3 w (grown_at o n1 n2 a1 a2 e1 e2) e3 (is ∙ sym (append_assoc a1 a2 (a3)))

pub grown4 : (o n1 n2 n3 n4 a1 a2 a3 a4 w : List ℕ) → n1 ≡ o ++ a1 → n2 ≡ n1 ++ a2 → n3 ≡ n2 ++ a3 → n4 ≡ n3 ++ a4 → w ≡ a1 ++ (a2 ++ (a3 ++ (a4))) → n4 ≡ o ++ w
grown4 o n1 n2 n3 n4 a1 a2 a3 a4 w e1 e2 e3 e4 is =
    grown3 o n2 n3 n4 (a1 ++ a2) a3 a4 w (grown_at o n1 n2 a1 a2 e1 e2) e3 e4 (is ∙ sym (append_assoc a1 a2 (a3 ++ (a4))))

pub grown5 : (o n1 n2 n3 n4 n5 a1 a2 a3 a4 a5 w : List ℕ) → n1 ≡ o ++ a1 → n2 ≡ n1 ++ a2 → n3 ≡ n2 ++ a3 → n4 ≡ n3 ++ a4 → n5 ≡ n4 ++ a5 → w ≡ a1 ++ (a2 ++ (a3 ++ (a4 ++ (a5)))) → n5 ≡ o ++ w
grown5 o n1 n2 n3 n4 n5 a1 a2 a3 a4 a5 w e1 e2 e3 e4 e5 is =
    grown4 o n2 n3 n4 n5 (a1 ++ a2) a3 a4 a5 w (grown_at o n1 n2 a1 a2 e1 e2) e3 e4 e5 (is ∙ sym (append_assoc a1 a2 (a3 ++ (a4 ++ (a5)))))

pub grown6 : (o n1 n2 n3 n4 n5 n6 a1 a2 a3 a4 a5 a6 w : List ℕ) → n1 ≡ o ++ a1 → n2 ≡ n1 ++ a2 → n3 ≡ n2 ++ a3 → n4 ≡ n3 ++ a4 → n5 ≡ n4 ++ a5 → n6 ≡ n5 ++ a6 → w ≡ a1 ++ (a2 ++ (a3 ++ (a4 ++ (a5 ++ (a6))))) → n6 ≡ o ++ w
grown6 o n1 n2 n3 n4 n5 n6 a1 a2 a3 a4 a5 a6 w e1 e2 e3 e4 e5 e6 is =
    grown5 o n2 n3 n4 n5 n6 (a1 ++ a2) a3 a4 a5 a6 w (grown_at o n1 n2 a1 a2 e1 e2) e3 e4 e5 e6 (is ∙ sym (append_assoc a1 a2 (a3 ++ (a4 ++ (a5 ++ (a6))))))

pub grown7 : (o n1 n2 n3 n4 n5 n6 n7 a1 a2 a3 a4 a5 a6 a7 w : List ℕ) → n1 ≡ o ++ a1 → n2 ≡ n1 ++ a2 → n3 ≡ n2 ++ a3 → n4 ≡ n3 ++ a4 → n5 ≡ n4 ++ a5 → n6 ≡ n5 ++ a6 → n7 ≡ n6 ++ a7 → w ≡ a1 ++ (a2 ++ (a3 ++ (a4 ++ (a5 ++ (a6 ++ (a7)))))) → n7 ≡ o ++ w
grown7 o n1 n2 n3 n4 n5 n6 n7 a1 a2 a3 a4 a5 a6 a7 w e1 e2 e3 e4 e5 e6 e7 is =
    grown6 o n2 n3 n4 n5 n6 n7 (a1 ++ a2) a3 a4 a5 a6 a7 w (grown_at o n1 n2 a1 a2 e1 e2) e3 e4 e5 e6 e7 (is ∙ sym (append_assoc a1 a2 (a3 ++ (a4 ++ (a5 ++ (a6 ++ (a7)))))))

pub text3 : (a b d : List Mark) → text_of_marks (a ++ (b ++ d)) ≡ text_of_marks a ++ (text_of_marks b ++ text_of_marks d)
text3 a b d = text-append a (b ++ d) ∙ ap (λ (z : List ℕ). text_of_marks a ++ z) (text-append b d)

pub text4 : (a b d e : List Mark)
    → text_of_marks (a ++ (b ++ (d ++ e))) ≡ text_of_marks a ++ (text_of_marks b ++ (text_of_marks d ++ text_of_marks e))
text4 a b d e = text-append a (b ++ (d ++ e)) ∙ ap (λ (z : List ℕ). text_of_marks a ++ z) (text3 b d e)

braced_text : (a : List Mark) → text_of_marks (braced a) ≡ codes "{" ++ (text_of_marks a ++ codes "}")
braced_text a = ap (λ (z : List ℕ). codes "{" ++ z) (text-append a (sign k.BraceClose ∷ []))

pub rights_of_field_text : (f : FieldDef)
    → text_of_marks (rights_of_field f)
    ≡ codes "{" ++ (text_of_marks (right (codes "read") f.read) ++ (codes ", " ++ (text_of_marks (right (codes "write") f.write) ++ codes "}")))
rights_of_field_text f =
    let one = right (codes "read") f.read in
    let other = right (codes "write") f.write in
    braced_text (one ++ sign k.Comma ∷ sp ∷ other) ∙ ap (λ (z : List ℕ). codes "{" ++ (z ++ codes "}")) (text-append one (sign k.Comma ∷ sp ∷ other))
    ∙ ap (λ (z : List ℕ). codes "{" ++ z) (append_assoc (text_of_marks one) (codes ", " ++ text_of_marks other) (codes "}"))

pub field_text : (f : FieldDef)
    → text_of_marks (spelled_field f) ≡ f.name.name ++ (codes ": " ++ (text_of_marks (spelled_type f.ty) ++ (codes " " ++ text_of_marks (rights_of_field f))))
field_text f = ap (λ (z : List ℕ). f.name.name ++ (codes ": " ++ z)) (text-append (spelled_type f.ty) (sp ∷ rights_of_field f))

pub model_text : (m : ModelDef)
    → text_of_marks (spelled_model m)
    ≡ text_of_marks (model_head m) ++ (codes "{" ++ (text_of_marks (right (codes "create") m.create) ++ (codes ", " ++ (text_of_marks (right (codes "delete") m.delete)
    ++ (text_of_marks (joined (sign k.Comma ∷ sp ∷ []) (map spelled_field m.fields)) ++ codes "}")))))
model_text m =
    let one = right (codes "create") m.create in
    let other = right (codes "delete") m.delete in
    let rest = joined (sign k.Comma ∷ sp ∷ []) (map spelled_field m.fields) in
    let inner = one ++ sign k.Comma ∷ sp ∷ (other ++ rest) in
    text-append (model_head m) (braced inner)
    ∙ ap (λ (z : List ℕ). text_of_marks (model_head m) ++ z)
    (braced_text inner
    ∙ ap (λ (z : List ℕ). codes "{" ++ (z ++ codes "}"))
    (text-append one (sign k.Comma ∷ sp ∷ (other ++ rest)) ∙ ap (λ (z : List ℕ). text_of_marks one ++ (codes ", " ++ z)) (text-append other rest))
    ∙ ap (λ (z : List ℕ). codes "{" ++ z)
    (append_assoc (text_of_marks one) (codes ", " ++ (text_of_marks other ++ text_of_marks rest)) (codes "}")
    ∙ ap (λ (z : List ℕ). text_of_marks one ++ (codes ", " ++ z)) (append_assoc (text_of_marks other) (text_of_marks rest) (codes "}"))))

pub entry_line_text : (a : List Mark) → text_of_marks (entry_line a) ≡ codes "  " ++ (text_of_marks a ++ 44 ∷ 10 ∷ [])
entry_line_text a = ap (λ (z : List ℕ). codes "  " ++ z) (text-append a (sign k.Comma ∷ newline ∷ []))

pub model_lines_text : (m : ModelDef)
    → text_of_marks (model_lines m)
    ≡ text_of_marks (model_head m) ++ (123 ∷ 10 ∷ [] ++ (text_of_marks (entry_line (right (codes "create") m.create))
    ++ (text_of_marks (entry_line (right (codes "delete") m.delete)) ++ (text_of_marks (flat_map field_line m.fields) ++ 125 ∷ 10 ∷ []))))
model_lines_text m =
    let one = entry_line (right (codes "create") m.create) in
    let other = entry_line (right (codes "delete") m.delete) in
    let rest = flat_map field_line m.fields in
    let end = sign k.BraceClose ∷ newline ∷ [] in
    text-append (model_head m) (sign k.BraceOpen ∷ newline ∷ (one ++ (other ++ (rest ++ end))))
    ∙ ap (λ (z : List ℕ). text_of_marks (model_head m) ++ 123 ∷ 10 ∷ z) (text4 one other rest end)

pub added_text : (field : FieldDef) (x : Named) (init : Init)
    → text_of_marks (added field x init) ≡ text_of_marks (spelled_field field) ++ (codes ", " ++ (x.name ++ (codes " -> " ++ text_of_marks (spelled_init init))))
added_text field x init = text-append (spelled_field field) (sign k.Comma ∷ sp ∷ lambda x.name (spelled_init init))
