-- The parts of what is typed are typed.
use Rattle.std.proofs.Common.{◌≡◌, ℕ, List, refl, sym, ◌∙◌}
use Rattle.std.specs.Prelude.{Option, Some, None, Ok, Err}
use Rattle.text_tree.specs.declared.named.Named.{Named}
use Rattle.text_tree.specs.declared.exprs.CmpOp.{CmpOp}
use Rattle.text_tree.specs.declared.exprs.Expr.{Expr}
use Rattle.text_tree.specs.declared.exprs.SetExpr.{SetExpr}
use Rattle.text_tree.specs.declared.exprs.Item.{Item}
use Rattle.text_tree.specs.declared.exprs.Filter.{Filter, roll-Filter}
use Rattle.text_tree.specs.declared.exprs.FilterOp.{FilterOp}
use Rattle.text_tree.specs.declared.exprs.Expr.TheVariants as e
use Rattle.text_tree.specs.declared.exprs.SetExpr.TheVariants as se
use Rattle.text_tree.specs.declared.exprs.Item.TheVariants as i
use Rattle.type_schema.specs.declared.types.TBase.{TBase}
use Rattle.type_schema.specs.declared.types.TBase.TheVariants as base
use Rattle.type_schema.specs.declared.types.TTy.{TTy}
use Rattle.type_schema.specs.declared.types.TTy.TheVariants.{Plain, Opt}
use Rattle.type_schema.specs.declared.trees.TExpr.TheVariants as t
use Rattle.type_schema.specs.declared.trees.TSet.{TSet}
use Rattle.type_schema.specs.declared.trees.TSet.TheVariants as ts
use Rattle.type_schema.specs.declared.trees.TItem.{TItem}
use Rattle.type_schema.specs.declared.trees.TItem.TheVariants as ti
use Rattle.type_schema.specs.declared.trees.TFilter.{TFilter}
use Rattle.type_schema.specs.declared.trees.TFilter.TheVariants as tf
use Rattle.type_schema.specs.Schema.{Schema}
use Rattle.type_typing.specs.declared.asked.Content.{Content}
use Rattle.type_typing.specs.declared.asked.Content.TheVariants.{Records}
use Rattle.type_typing.specs.declared.asked.Source.{Source}
use Rattle.type_typing.specs.declared.asked.Typed.{Typed}
use Rattle.type_typing.specs.declared.vars.Var.{Var}
use Rattle.type_typing.specs.declared.type_err.TypeErr.TheVariants.{Unknown}
use Rattle.type_typing.specs.Names.{field_named, model_named, static_named, var_named}
use Rattle.type_typing.specs.Asked.{among_principals, base_of, field_of_record, fits, id_asked, id_of, inner_asked, may_hold, option_of, of_type, set_of_ids, source, truth, under}
use Rattle.type_typing.specs.Compared.{compared, left_asked, tested}
use Rattle.type_typing.specs.Exprs.{bool, typed_expr, typed_set, typed_source, typed_item, typed_items, typed_filter, typed_filters}
use Rattle.type_typing.specs.Outcome.{Checked, ◌>>=◌, or_else}
use Rattle.type_typing.proofs.Forms as form

abbrev ok : {A : Type 0} → A → Checked A
ok a = Ok a

pub ok_same : {A : Type 0} (a b : A) → ok a ≡ ok b → a ≡ b
ok_same a b h = cc

-- what a typed whole is made of
pub first_part : {A B : Type 0} (o : Checked A) (f : A → Checked B) (b : B) → (o >>= f) ≡ Ok b → (a : A) × (o ≡ Ok a) × (f a ≡ Ok b)
first_part (Ok a) f b h = (a, refl, h)
first_part (Err e) f b h = let never : ⊥ = cc in absurd never

pub Var_parts : (s : Schema) (vars : List Var) (asked : Option TTy) (x : Named) (at : ℕ) (r : Typed) → typed_expr s vars asked (e.Var at x) ≡ Ok r
    → (var : ℕ × TTy)
    × (or_else (var_named vars x.name) (Unknown x.at) ≡ Ok var) × (fits (of_type at var.1 (t.Var var.0 x.name)) asked ≡ Ok r)
Var_parts s vars asked x at r h =
    let rest0 : (ℕ × TTy) → Checked (Typed) = λ var. fits (of_type at var.1 (t.Var var.0 x.name)) asked in
    let p0 = first_part (or_else (var_named vars x.name) (Unknown x.at)) rest0 r (sym (form.Var_is s vars asked x at) ∙ h) in
    (p0.0, p0.1, p0.2)

pub SomeLit_parts : (s : Schema) (vars : List Var) (asked : Option TTy) (x : Expr) (at : ℕ) (r : Typed) → typed_expr s vars asked (e.SomeLit at x) ≡ Ok r
    → (inner : Typed) × (b : TBase)
    × (typed_expr s vars (inner_asked asked) x ≡ Ok inner) × (base_of inner.ty inner.at ≡ Ok b) × (fits (of_type at (Opt b) (t.SomeLit inner.tree)) asked ≡ Ok r)
SomeLit_parts s vars asked x at r h =
    let rest0 : (Typed) → Checked (Typed) = λ inner. (base_of inner.ty inner.at >>= (λ b. fits (of_type at (Opt b) (t.SomeLit inner.tree)) asked)) in
    let p0 = first_part (typed_expr s vars (inner_asked asked) x) rest0 r (sym (form.SomeLit_is s vars asked x at) ∙ h) in
    let rest1 : (TBase) → Checked (Typed) = λ b. fits (of_type at (Opt b) (t.SomeLit p0.0.tree)) asked in
    let p1 = first_part (base_of p0.0.ty p0.0.at) rest1 r p0.2 in
    (p0.0, p1.0, p0.1, p1.1, p1.2)

pub Get_parts : (s : Schema) (vars : List Var) (asked : Option TTy) (x : Expr) (f : Named) (at : ℕ) (r : Typed) → typed_expr s vars asked (e.Get at x f) ≡ Ok r
    → (of : Typed) × (field : ℕ × ℕ × TTy)
    × (typed_expr s vars None x ≡ Ok of) × (field_of_record s of.ty of.at f ≡ Ok field) × (fits (of_type at field.2 (t.Get of.tree field.0 field.1)) asked ≡ Ok r)
Get_parts s vars asked x f at r h =
    let rest0 : (Typed) → Checked (Typed) = λ of. (field_of_record s of.ty of.at f >>= (λ field. fits (of_type at field.2 (t.Get of.tree field.0 field.1)) asked)) in
    let p0 = first_part (typed_expr s vars None x) rest0 r (sym (form.Get_is s vars asked x f at) ∙ h) in
    let rest1 : (ℕ × ℕ × TTy) → Checked (Typed) = λ field. fits (of_type at field.2 (t.Get p0.0.tree field.0 field.1)) asked in
    let p1 = first_part (field_of_record s p0.0.ty p0.0.at f) rest1 r p0.2 in
    (p0.0, p1.0, p0.1, p1.1, p1.2)

pub Cmp_parts : (s : Schema) (vars : List Var) (asked : Option TTy) (op : CmpOp) (x y : Expr) (at : ℕ) (r : Typed) → typed_expr s vars asked (e.Cmp at op x y) ≡ Ok r
    → (left : Typed) × (by : TBase) × (right : Typed)
    × (typed_expr s vars (left_asked op) x ≡ Ok left) × (base_of left.ty left.at ≡ Ok by) × (typed_expr s vars (Some left.ty) y ≡ Ok right) × (fits (truth at (compared op by left.tree right.tree)) asked ≡ Ok r)
Cmp_parts s vars asked op x y at r h =
    let rest0 : (Typed) → Checked (Typed) = λ left. (base_of left.ty left.at >>= (λ by. (typed_expr s vars (Some left.ty) y >>= (λ right. fits (truth at (compared op by left.tree right.tree)) asked)))) in
    let p0 = first_part (typed_expr s vars (left_asked op) x) rest0 r (sym (form.Cmp_is s vars asked op x y at) ∙ h) in
    let rest1 : (TBase) → Checked (Typed) = λ by. (typed_expr s vars (Some p0.0.ty) y >>= (λ right. fits (truth at (compared op by p0.0.tree right.tree)) asked)) in
    let p1 = first_part (base_of p0.0.ty p0.0.at) rest1 r p0.2 in
    let rest2 : (Typed) → Checked (Typed) = λ right. fits (truth at (compared op p1.0 p0.0.tree right.tree)) asked in
    let p2 = first_part (typed_expr s vars (Some p0.0.ty) y) rest2 r p1.2 in
    (p0.0, p1.0, p2.0, p0.1, p1.1, p2.1, p2.2)

pub Member_parts : (s : Schema) (vars : List Var) (asked : Option TTy) (x : Expr) (set : SetExpr) (at : ℕ) (r : Typed) → typed_expr s vars asked (e.Member at x set) ≡ Ok r
    → (of : Typed) × (m : ℕ) × (all : TSet)
    × (typed_expr s vars None x ≡ Ok of) × (id_of of.ty of.at ≡ Ok m) × (typed_set s vars (Records m) set ≡ Ok all) × (fits (truth at (t.Member of.tree m all)) asked ≡ Ok r)
Member_parts s vars asked x set at r h =
    let rest0 : (Typed) → Checked (Typed) = λ of. (id_of of.ty of.at >>= (λ m. (typed_set s vars (Records m) set >>= (λ all. fits (truth at (t.Member of.tree m all)) asked)))) in
    let p0 = first_part (typed_expr s vars None x) rest0 r (sym (form.Member_is s vars asked x set at) ∙ h) in
    let rest1 : (ℕ) → Checked (Typed) = λ m. (typed_set s vars (Records m) set >>= (λ all. fits (truth at (t.Member p0.0.tree m all)) asked)) in
    let p1 = first_part (id_of p0.0.ty p0.0.at) rest1 r p0.2 in
    let rest2 : (TSet) → Checked (Typed) = λ all. fits (truth at (t.Member p0.0.tree p1.0 all)) asked in
    let p2 = first_part (typed_set s vars (Records p1.0) set) rest2 r p1.2 in
    (p0.0, p1.0, p2.0, p0.1, p1.1, p2.1, p2.2)

pub Not_parts : (s : Schema) (vars : List Var) (asked : Option TTy) (x : Expr) (at : ℕ) (r : Typed) → typed_expr s vars asked (e.Not at x) ≡ Ok r
    → (inner : Typed)
    × (typed_expr s vars bool x ≡ Ok inner) × (fits (truth at (t.Not inner.tree)) asked ≡ Ok r)
Not_parts s vars asked x at r h =
    let rest0 : (Typed) → Checked (Typed) = λ inner. fits (truth at (t.Not inner.tree)) asked in
    let p0 = first_part (typed_expr s vars bool x) rest0 r (sym (form.Not_is s vars asked x at) ∙ h) in
    (p0.0, p0.1, p0.2)

pub And_parts : (s : Schema) (vars : List Var) (asked : Option TTy) (x y : Expr) (at : ℕ) (r : Typed) → typed_expr s vars asked (e.And at x y) ≡ Ok r
    → (left : Typed) × (right : Typed)
    × (typed_expr s vars bool x ≡ Ok left) × (typed_expr s vars bool y ≡ Ok right) × (fits (truth at (t.And left.tree right.tree)) asked ≡ Ok r)
And_parts s vars asked x y at r h =
    let rest0 : (Typed) → Checked (Typed) = λ left. (typed_expr s vars bool y >>= (λ right. fits (truth at (t.And left.tree right.tree)) asked)) in
    let p0 = first_part (typed_expr s vars bool x) rest0 r (sym (form.And_is s vars asked x y at) ∙ h) in
    let rest1 : (Typed) → Checked (Typed) = λ right. fits (truth at (t.And p0.0.tree right.tree)) asked in
    let p1 = first_part (typed_expr s vars bool y) rest1 r p0.2 in
    (p0.0, p1.0, p0.1, p1.1, p1.2)

pub Or_parts : (s : Schema) (vars : List Var) (asked : Option TTy) (x y : Expr) (at : ℕ) (r : Typed) → typed_expr s vars asked (e.Or at x y) ≡ Ok r
    → (left : Typed) × (right : Typed)
    × (typed_expr s vars bool x ≡ Ok left) × (typed_expr s vars bool y ≡ Ok right) × (fits (truth at (t.Or left.tree right.tree)) asked ≡ Ok r)
Or_parts s vars asked x y at r h =
    let rest0 : (Typed) → Checked (Typed) = λ left. (typed_expr s vars bool y >>= (λ right. fits (truth at (t.Or left.tree right.tree)) asked)) in
    let p0 = first_part (typed_expr s vars bool x) rest0 r (sym (form.Or_is s vars asked x y at) ∙ h) in
    let rest1 : (Typed) → Checked (Typed) = λ right. fits (truth at (t.Or p0.0.tree right.tree)) asked in
    let p1 = first_part (typed_expr s vars bool y) rest1 r p0.2 in
    (p0.0, p1.0, p0.1, p1.1, p1.2)

pub IfE_parts : (s : Schema) (vars : List Var) (asked : Option TTy) (c x y : Expr) (at : ℕ) (r : Typed) → typed_expr s vars asked (e.IfE at c x y) ≡ Ok r
    → (test : Typed) × (one : Typed) × (other : Typed)
    × (typed_expr s vars bool c ≡ Ok test) × (typed_expr s vars asked x ≡ Ok one) × (typed_expr s vars (Some one.ty) y ≡ Ok other) × (of_type at one.ty (t.IfE test.tree one.tree other.tree) ≡ r)
IfE_parts s vars asked c x y at r h =
    let rest0 : (Typed) → Checked (Typed) = λ test. (typed_expr s vars asked x >>= (λ one. (typed_expr s vars (Some one.ty) y >>= (λ other. Ok (of_type at one.ty (t.IfE test.tree one.tree other.tree)))))) in
    let p0 = first_part (typed_expr s vars bool c) rest0 r (sym (form.IfE_is s vars asked c x y at) ∙ h) in
    let rest1 : (Typed) → Checked (Typed) = λ one. (typed_expr s vars (Some one.ty) y >>= (λ other. Ok (of_type at one.ty (t.IfE p0.0.tree one.tree other.tree)))) in
    let p1 = first_part (typed_expr s vars asked x) rest1 r p0.2 in
    let rest2 : (Typed) → Checked (Typed) = λ other. Ok (of_type at p1.0.ty (t.IfE p0.0.tree p1.0.tree other.tree)) in
    let p2 = first_part (typed_expr s vars (Some p1.0.ty) y) rest2 r p1.2 in
    (p0.0, p1.0, p2.0, p0.1, p1.1, p2.1, ok_same (of_type at p1.0.ty (t.IfE p0.0.tree p1.0.tree p2.0.tree)) r p2.2)

pub MatchE_parts : (s : Schema) (vars : List Var) (asked : Option TTy) (x y : Expr) (v : Named) (z : Expr) (at : ℕ) (r : Typed) → typed_expr s vars asked (e.MatchE at x y (v, z)) ≡ Ok r
    → (of : Typed) × (inside : TBase) × (none : Typed) × (inner : List Var) × (some : Typed)
    × (typed_expr s vars None x ≡ Ok of) × (option_of of.ty of.at ≡ Ok inside) × (typed_expr s vars asked y ≡ Ok none) × (under vars v (Plain inside) ≡ Ok inner) × (typed_expr s inner (Some none.ty) z ≡ Ok some) × (of_type at none.ty (t.MatchE of.tree none.tree v.name some.tree) ≡ r)
MatchE_parts s vars asked x y v z at r h =
    let rest0 : (Typed) → Checked (Typed) = λ of. (option_of of.ty of.at >>= (λ inside. (typed_expr s vars asked y >>= (λ none. (under vars v (Plain inside) >>= (λ inner. (typed_expr s inner (Some none.ty) z >>= (λ some. Ok (of_type at none.ty (t.MatchE of.tree none.tree v.name some.tree)))))))))) in
    let p0 = first_part (typed_expr s vars None x) rest0 r (sym (form.MatchE_is s vars asked x y v z at) ∙ h) in
    let rest1 : (TBase) → Checked (Typed) = λ inside. (typed_expr s vars asked y >>= (λ none. (under vars v (Plain inside) >>= (λ inner. (typed_expr s inner (Some none.ty) z >>= (λ some. Ok (of_type at none.ty (t.MatchE p0.0.tree none.tree v.name some.tree)))))))) in
    let p1 = first_part (option_of p0.0.ty p0.0.at) rest1 r p0.2 in
    let rest2 : (Typed) → Checked (Typed) = λ none. (under vars v (Plain p1.0) >>= (λ inner. (typed_expr s inner (Some none.ty) z >>= (λ some. Ok (of_type at none.ty (t.MatchE p0.0.tree none.tree v.name some.tree)))))) in
    let p2 = first_part (typed_expr s vars asked y) rest2 r p1.2 in
    let rest3 : (List Var) → Checked (Typed) = λ inner. (typed_expr s inner (Some p2.0.ty) z >>= (λ some. Ok (of_type at p2.0.ty (t.MatchE p0.0.tree p2.0.tree v.name some.tree)))) in
    let p3 = first_part (under vars v (Plain p1.0)) rest3 r p2.2 in
    let rest4 : (Typed) → Checked (Typed) = λ some. Ok (of_type at p2.0.ty (t.MatchE p0.0.tree p2.0.tree v.name some.tree)) in
    let p4 = first_part (typed_expr s p3.0 (Some p2.0.ty) z) rest4 r p3.2 in
    (p0.0, p1.0, p2.0, p3.0, p4.0, p0.1, p1.1, p2.1, p3.1, p4.1, ok_same (of_type at p2.0.ty (t.MatchE p0.0.tree p2.0.tree v.name p4.0.tree)) r p4.2)

pub Everyone_parts : (s : Schema) (vars : List Var) (content : Content) (word at : ℕ) (r : TSet) → typed_set s vars content (se.Everyone at word) ≡ Ok r
    → (only : Unit {0})
    × (among_principals content word ≡ Ok only) × (ts.Everyone ≡ r)
Everyone_parts s vars content word at r h =
    let rest0 : (Unit {0}) → Checked (TSet) = λ only. Ok (ts.Everyone) in
    let p0 = first_part (among_principals content word) rest0 r (sym (form.Everyone_is s vars content word at) ∙ h) in
    (p0.0, p0.1, ok_same (ts.Everyone) r p0.2)

pub Sum_parts : (s : Schema) (vars : List Var) (content : Content) (x y : SetExpr) (at : ℕ) (r : TSet) → typed_set s vars content (se.Sum at x y) ≡ Ok r
    → (left : TSet) × (right : TSet)
    × (typed_set s vars content x ≡ Ok left) × (typed_set s vars content y ≡ Ok right) × (ts.Sum left right ≡ r)
Sum_parts s vars content x y at r h =
    let rest0 : (TSet) → Checked (TSet) = λ left. (typed_set s vars content y >>= (λ right. Ok (ts.Sum left right))) in
    let p0 = first_part (typed_set s vars content x) rest0 r (sym (form.Sum_is s vars content x y at) ∙ h) in
    let rest1 : (TSet) → Checked (TSet) = λ right. Ok (ts.Sum p0.0 right) in
    let p1 = first_part (typed_set s vars content y) rest1 r p0.2 in
    (p0.0, p1.0, p0.1, p1.1, ok_same (ts.Sum p0.0 p1.0) r p1.2)

pub Less_parts : (s : Schema) (vars : List Var) (content : Content) (x y : SetExpr) (at : ℕ) (r : TSet) → typed_set s vars content (se.Less at x y) ≡ Ok r
    → (left : TSet) × (right : TSet)
    × (typed_set s vars content x ≡ Ok left) × (typed_set s vars content y ≡ Ok right) × (ts.Less left right ≡ r)
Less_parts s vars content x y at r h =
    let rest0 : (TSet) → Checked (TSet) = λ left. (typed_set s vars content y >>= (λ right. Ok (ts.Less left right))) in
    let p0 = first_part (typed_set s vars content x) rest0 r (sym (form.Less_is s vars content x y at) ∙ h) in
    let rest1 : (TSet) → Checked (TSet) = λ right. Ok (ts.Less p0.0 right) in
    let p1 = first_part (typed_set s vars content y) rest1 r p0.2 in
    (p0.0, p1.0, p0.1, p1.1, ok_same (ts.Less p0.0 p1.0) r p1.2)

pub List_parts : (s : Schema) (vars : List Var) (content : Content) (xs : List Item) (at : ℕ) (r : TSet) → typed_set s vars content (se.List at xs) ≡ Ok r
    → (all : List TItem)
    × (typed_items s vars content xs ≡ Ok all) × (ts.List all ≡ r)
List_parts s vars content xs at r h =
    let rest0 : (List TItem) → Checked (TSet) = λ all. Ok (ts.List all) in
    let p0 = first_part (typed_items s vars content xs) rest0 r (sym (form.List_is s vars content xs at) ∙ h) in
    (p0.0, p0.1, ok_same (ts.List p0.0) r p0.2)

pub Find_parts : (s : Schema) (vars : List Var) (content : Content) (model : Named) (fs : List Filter) (at : ℕ) (r : TSet) → typed_set s vars content (se.Find at model fs) ≡ Ok r
    → (of : Source) × (held : Unit {0})
    × (typed_source s vars (se.Find at model fs) ≡ Ok of) × (may_hold s content of.model of.at ≡ Ok held) × (of.set ≡ r)
Find_parts s vars content model fs at r h =
    let rest0 : (Source) → Checked (TSet) = λ of. (may_hold s content of.model of.at >>= (λ held. Ok (of.set))) in
    let p0 = first_part (typed_source s vars (se.Find at model fs)) rest0 r (sym (form.Find_is s vars content model fs at) ∙ h) in
    let rest1 : (Unit {0}) → Checked (TSet) = λ held. Ok (p0.0.set) in
    let p1 = first_part (may_hold s content p0.0.model p0.0.at) rest1 r p0.2 in
    (p0.0, p1.0, p0.1, p1.1, ok_same (p0.0.set) r p1.2)

pub Path_parts : (s : Schema) (vars : List Var) (content : Content) (x : Expr) (at : ℕ) (r : TSet) → typed_set s vars content (se.Path at x) ≡ Ok r
    → (of : Source) × (held : Unit {0})
    × (typed_source s vars (se.Path at x) ≡ Ok of) × (may_hold s content of.model of.at ≡ Ok held) × (of.set ≡ r)
Path_parts s vars content x at r h =
    let rest0 : (Source) → Checked (TSet) = λ of. (may_hold s content of.model of.at >>= (λ held. Ok (of.set))) in
    let p0 = first_part (typed_source s vars (se.Path at x)) rest0 r (sym (form.Path_is s vars content x at) ∙ h) in
    let rest1 : (Unit {0}) → Checked (TSet) = λ held. Ok (p0.0.set) in
    let p1 = first_part (may_hold s content p0.0.model p0.0.at) rest1 r p0.2 in
    (p0.0, p1.0, p0.1, p1.1, ok_same (p0.0.set) r p1.2)

pub MapS_parts : (s : Schema) (vars : List Var) (content : Content) (x : SetExpr) (v : Named) (y : Expr) (at : ℕ) (r : TSet) → typed_set s vars content (se.MapS at x v y) ≡ Ok r
    → (of : Source) × (held : Unit {0})
    × (typed_source s vars (se.MapS at x v y) ≡ Ok of) × (may_hold s content of.model of.at ≡ Ok held) × (of.set ≡ r)
MapS_parts s vars content x v y at r h =
    let rest0 : (Source) → Checked (TSet) = λ of. (may_hold s content of.model of.at >>= (λ held. Ok (of.set))) in
    let p0 = first_part (typed_source s vars (se.MapS at x v y)) rest0 r (sym (form.MapS_is s vars content x v y at) ∙ h) in
    let rest1 : (Unit {0}) → Checked (TSet) = λ held. Ok (p0.0.set) in
    let p1 = first_part (may_hold s content p0.0.model p0.0.at) rest1 r p0.2 in
    (p0.0, p1.0, p0.1, p1.1, ok_same (p0.0.set) r p1.2)

pub FlatS_parts : (s : Schema) (vars : List Var) (content : Content) (x : SetExpr) (v : Named) (y : SetExpr) (at : ℕ) (r : TSet) → typed_set s vars content (se.FlatS at x v y) ≡ Ok r
    → (over : Source) × (inner : List Var) × (each : TSet)
    × (typed_source s vars x ≡ Ok over) × (under vars v (Plain (base.Id over.model)) ≡ Ok inner) × (typed_set s inner content y ≡ Ok each) × (ts.FlatS over.set over.model v.name each ≡ r)
FlatS_parts s vars content x v y at r h =
    let rest0 : (Source) → Checked (TSet) = λ over. (under vars v (Plain (base.Id over.model)) >>= (λ inner. (typed_set s inner content y >>= (λ each. Ok (ts.FlatS over.set over.model v.name each))))) in
    let p0 = first_part (typed_source s vars x) rest0 r (sym (form.FlatS_is s vars content x v y at) ∙ h) in
    let rest1 : (List Var) → Checked (TSet) = λ inner. (typed_set s inner content y >>= (λ each. Ok (ts.FlatS p0.0.set p0.0.model v.name each))) in
    let p1 = first_part (under vars v (Plain (base.Id p0.0.model))) rest1 r p0.2 in
    let rest2 : (TSet) → Checked (TSet) = λ each. Ok (ts.FlatS p0.0.set p0.0.model v.name each) in
    let p2 = first_part (typed_set s p1.0 content y) rest2 r p1.2 in
    (p0.0, p1.0, p2.0, p0.1, p1.1, p2.1, ok_same (ts.FlatS p0.0.set p0.0.model v.name p2.0) r p2.2)

pub IfS_parts : (s : Schema) (vars : List Var) (content : Content) (c : Expr) (x y : SetExpr) (at : ℕ) (r : TSet) → typed_set s vars content (se.IfS at c x y) ≡ Ok r
    → (test : Typed) × (one : TSet) × (other : TSet)
    × (typed_expr s vars bool c ≡ Ok test) × (typed_set s vars content x ≡ Ok one) × (typed_set s vars content y ≡ Ok other) × (ts.IfS test.tree one other ≡ r)
IfS_parts s vars content c x y at r h =
    let rest0 : (Typed) → Checked (TSet) = λ test. (typed_set s vars content x >>= (λ one. (typed_set s vars content y >>= (λ other. Ok (ts.IfS test.tree one other))))) in
    let p0 = first_part (typed_expr s vars bool c) rest0 r (sym (form.IfS_is s vars content c x y at) ∙ h) in
    let rest1 : (TSet) → Checked (TSet) = λ one. (typed_set s vars content y >>= (λ other. Ok (ts.IfS p0.0.tree one other))) in
    let p1 = first_part (typed_set s vars content x) rest1 r p0.2 in
    let rest2 : (TSet) → Checked (TSet) = λ other. Ok (ts.IfS p0.0.tree p1.0 other) in
    let p2 = first_part (typed_set s vars content y) rest2 r p1.2 in
    (p0.0, p1.0, p2.0, p0.1, p1.1, p2.1, ok_same (ts.IfS p0.0.tree p1.0 p2.0) r p2.2)

pub MatchS_parts : (s : Schema) (vars : List Var) (content : Content) (x : Expr) (y : SetExpr) (v : Named) (z : SetExpr) (at : ℕ) (r : TSet) → typed_set s vars content (se.MatchS at x y v z) ≡ Ok r
    → (of : Typed) × (inside : TBase) × (none : TSet) × (inner : List Var) × (some : TSet)
    × (typed_expr s vars None x ≡ Ok of) × (option_of of.ty of.at ≡ Ok inside) × (typed_set s vars content y ≡ Ok none) × (under vars v (Plain inside) ≡ Ok inner) × (typed_set s inner content z ≡ Ok some) × (ts.MatchS of.tree none v.name some ≡ r)
MatchS_parts s vars content x y v z at r h =
    let rest0 : (Typed) → Checked (TSet) = λ of. (option_of of.ty of.at >>= (λ inside. (typed_set s vars content y >>= (λ none. (under vars v (Plain inside) >>= (λ inner. (typed_set s inner content z >>= (λ some. Ok (ts.MatchS of.tree none v.name some))))))))) in
    let p0 = first_part (typed_expr s vars None x) rest0 r (sym (form.MatchS_is s vars content x y v z at) ∙ h) in
    let rest1 : (TBase) → Checked (TSet) = λ inside. (typed_set s vars content y >>= (λ none. (under vars v (Plain inside) >>= (λ inner. (typed_set s inner content z >>= (λ some. Ok (ts.MatchS p0.0.tree none v.name some))))))) in
    let p1 = first_part (option_of p0.0.ty p0.0.at) rest1 r p0.2 in
    let rest2 : (TSet) → Checked (TSet) = λ none. (under vars v (Plain p1.0) >>= (λ inner. (typed_set s inner content z >>= (λ some. Ok (ts.MatchS p0.0.tree none v.name some))))) in
    let p2 = first_part (typed_set s vars content y) rest2 r p1.2 in
    let rest3 : (List Var) → Checked (TSet) = λ inner. (typed_set s inner content z >>= (λ some. Ok (ts.MatchS p0.0.tree p2.0 v.name some))) in
    let p3 = first_part (under vars v (Plain p1.0)) rest3 r p2.2 in
    let rest4 : (TSet) → Checked (TSet) = λ some. Ok (ts.MatchS p0.0.tree p2.0 v.name some) in
    let p4 = first_part (typed_set s p3.0 content z) rest4 r p3.2 in
    (p0.0, p1.0, p2.0, p3.0, p4.0, p0.1, p1.1, p2.1, p3.1, p4.1, ok_same (ts.MatchS p0.0.tree p2.0 v.name p4.0) r p4.2)

pub Find_source_parts : (s : Schema) (vars : List Var) (model : Named) (fs : List Filter) (at : ℕ) (r : Source) → typed_source s vars (se.Find at model fs) ≡ Ok r
    → (m : ℕ) × (tests : List TFilter)
    × (or_else (model_named s model.name) (Unknown model.at) ≡ Ok m) × (typed_filters s vars m fs ≡ Ok tests) × (source model.at m (ts.Find m tests) ≡ r)
Find_source_parts s vars model fs at r h =
    let rest0 : (ℕ) → Checked (Source) = λ m. (typed_filters s vars m fs >>= (λ tests. Ok (source model.at m (ts.Find m tests)))) in
    let p0 = first_part (or_else (model_named s model.name) (Unknown model.at)) rest0 r (sym (form.Find_source s vars model fs at) ∙ h) in
    let rest1 : (List TFilter) → Checked (Source) = λ tests. Ok (source model.at p0.0 (ts.Find p0.0 tests)) in
    let p1 = first_part (typed_filters s vars p0.0 fs) rest1 r p0.2 in
    (p0.0, p1.0, p0.1, p1.1, ok_same (source model.at p0.0 (ts.Find p0.0 p1.0)) r p1.2)

pub Path_source_parts : (s : Schema) (vars : List Var) (x : Expr) (at : ℕ) (r : Source) → typed_source s vars (se.Path at x) ≡ Ok r
    → (of : Typed) × (m : ℕ)
    × (typed_expr s vars None x ≡ Ok of) × (set_of_ids of.ty of.at ≡ Ok m) × (source of.at m (ts.Path m of.tree) ≡ r)
Path_source_parts s vars x at r h =
    let rest0 : (Typed) → Checked (Source) = λ of. (set_of_ids of.ty of.at >>= (λ m. Ok (source of.at m (ts.Path m of.tree)))) in
    let p0 = first_part (typed_expr s vars None x) rest0 r (sym (form.Path_source s vars x at) ∙ h) in
    let rest1 : (ℕ) → Checked (Source) = λ m. Ok (source p0.0.at m (ts.Path m p0.0.tree)) in
    let p1 = first_part (set_of_ids p0.0.ty p0.0.at) rest1 r p0.2 in
    (p0.0, p1.0, p0.1, p1.1, ok_same (source p0.0.at p1.0 (ts.Path p1.0 p0.0.tree)) r p1.2)

pub MapS_source_parts : (s : Schema) (vars : List Var) (x : SetExpr) (v : Named) (y : Expr) (at : ℕ) (r : Source) → typed_source s vars (se.MapS at x v y) ≡ Ok r
    → (over : Source) × (inner : List Var) × (each : Typed) × (m : ℕ)
    × (typed_source s vars x ≡ Ok over) × (under vars v (Plain (base.Id over.model)) ≡ Ok inner) × (typed_expr s inner None y ≡ Ok each) × (id_of each.ty each.at ≡ Ok m) × (source over.at m (ts.MapS over.set over.model v.name m each.tree) ≡ r)
MapS_source_parts s vars x v y at r h =
    let rest0 : (Source) → Checked (Source) = λ over. (under vars v (Plain (base.Id over.model)) >>= (λ inner. (typed_expr s inner None y >>= (λ each. (id_of each.ty each.at >>= (λ m. Ok (source over.at m (ts.MapS over.set over.model v.name m each.tree)))))))) in
    let p0 = first_part (typed_source s vars x) rest0 r (sym (form.MapS_source s vars x v y at) ∙ h) in
    let rest1 : (List Var) → Checked (Source) = λ inner. (typed_expr s inner None y >>= (λ each. (id_of each.ty each.at >>= (λ m. Ok (source p0.0.at m (ts.MapS p0.0.set p0.0.model v.name m each.tree)))))) in
    let p1 = first_part (under vars v (Plain (base.Id p0.0.model))) rest1 r p0.2 in
    let rest2 : (Typed) → Checked (Source) = λ each. (id_of each.ty each.at >>= (λ m. Ok (source p0.0.at m (ts.MapS p0.0.set p0.0.model v.name m each.tree)))) in
    let p2 = first_part (typed_expr s p1.0 None y) rest2 r p1.2 in
    let rest3 : (ℕ) → Checked (Source) = λ m. Ok (source p0.0.at m (ts.MapS p0.0.set p0.0.model v.name m p2.0.tree)) in
    let p3 = first_part (id_of p2.0.ty p2.0.at) rest3 r p2.2 in
    (p0.0, p1.0, p2.0, p3.0, p0.1, p1.1, p2.1, p3.1, ok_same (source p0.0.at p3.0 (ts.MapS p0.0.set p0.0.model v.name p3.0 p2.0.tree)) r p3.2)

pub Static_parts : (s : Schema) (vars : List Var) (content : Content) (x : Named) (r : TItem) → typed_item s vars content (i.Static x) ≡ Ok r
    → (only : Unit {0}) × (n : ℕ)
    × (among_principals content x.at ≡ Ok only) × (or_else (static_named s x.name) (Unknown x.at) ≡ Ok n) × (ti.Static n ≡ r)
Static_parts s vars content x r h =
    let rest0 : (Unit {0}) → Checked (TItem) = λ only. (or_else (static_named s x.name) (Unknown x.at) >>= (λ n. Ok (ti.Static n))) in
    let p0 = first_part (among_principals content x.at) rest0 r (sym (form.Static_is s vars content x) ∙ h) in
    let rest1 : (ℕ) → Checked (TItem) = λ n. Ok (ti.Static n) in
    let p1 = first_part (or_else (static_named s x.name) (Unknown x.at)) rest1 r p0.2 in
    (p0.0, p1.0, p0.1, p1.1, ok_same (ti.Static p1.0) r p1.2)

pub One_parts : (s : Schema) (vars : List Var) (content : Content) (x : Expr) (r : TItem) → typed_item s vars content (i.One x) ≡ Ok r
    → (of : Typed) × (m : ℕ) × (held : Unit {0})
    × (typed_expr s vars (id_asked content) x ≡ Ok of) × (id_of of.ty of.at ≡ Ok m) × (may_hold s content m of.at ≡ Ok held) × (ti.One m of.tree ≡ r)
One_parts s vars content x r h =
    let rest0 : (Typed) → Checked (TItem) = λ of. (id_of of.ty of.at >>= (λ m. (may_hold s content m of.at >>= (λ held. Ok (ti.One m of.tree))))) in
    let p0 = first_part (typed_expr s vars (id_asked content) x) rest0 r (sym (form.One_is s vars content x) ∙ h) in
    let rest1 : (ℕ) → Checked (TItem) = λ m. (may_hold s content m p0.0.at >>= (λ held. Ok (ti.One m p0.0.tree))) in
    let p1 = first_part (id_of p0.0.ty p0.0.at) rest1 r p0.2 in
    let rest2 : (Unit {0}) → Checked (TItem) = λ held. Ok (ti.One p1.0 p0.0.tree) in
    let p2 = first_part (may_hold s content p1.0 p0.0.at) rest2 r p1.2 in
    (p0.0, p1.0, p2.0, p0.1, p1.1, p2.1, ok_same (ti.One p1.0 p0.0.tree) r p2.2)

pub Filter_parts : (s : Schema) (vars : List Var) (m : ℕ) (f : Named) (op : FilterOp) (x : Expr) (r : TFilter) → typed_filter s vars m (roll-Filter (record { field = f; op = op; value = x })) ≡ Ok r
    → (field : ℕ × TTy) × (asked : TTy) × (value : Typed)
    × (or_else (field_named s m f.name) (Unknown f.at) ≡ Ok field) × (tested op field.1 f.at ≡ Ok asked) × (typed_expr s vars (Some asked) x ≡ Ok value) × (tf.Test field.0 op value.tree ≡ r)
Filter_parts s vars m f op x r h =
    let rest0 : (ℕ × TTy) → Checked (TFilter) = λ field. (tested op field.1 f.at >>= (λ asked. (typed_expr s vars (Some asked) x >>= (λ value. Ok (tf.Test field.0 op value.tree))))) in
    let p0 = first_part (or_else (field_named s m f.name) (Unknown f.at)) rest0 r (sym (form.rolled_filter s vars m f op x) ∙ h) in
    let rest1 : (TTy) → Checked (TFilter) = λ asked. (typed_expr s vars (Some asked) x >>= (λ value. Ok (tf.Test p0.0.0 op value.tree))) in
    let p1 = first_part (tested op p0.0.1 f.at) rest1 r p0.2 in
    let rest2 : (Typed) → Checked (TFilter) = λ value. Ok (tf.Test p0.0.0 op value.tree) in
    let p2 = first_part (typed_expr s vars (Some p1.0) x) rest2 r p1.2 in
    (p0.0, p1.0, p2.0, p0.1, p1.1, p2.1, ok_same (tf.Test p0.0.0 op p2.0.tree) r p2.2)
