-- The typing of each form of expression, set, item and filter, by that of its parts.
use Rattle.std.proofs.Common.{◌≡◌, ℕ, ℤ, Bool, List, [], ◌∷◌, map, refl, sym, ◌∙◌, ap}
use Rattle.std.specs.Prelude.{Option, Some, None, Ok, Err}
use Rattle.text_tree.specs.declared.named.Named.{Named}
use Rattle.text_tree.specs.declared.exprs.CmpOp.{CmpOp}
use Rattle.text_tree.specs.declared.exprs.Expr.{Expr}
use Rattle.text_tree.specs.declared.exprs.SetExpr.{SetExpr}
use Rattle.text_tree.specs.declared.exprs.Item.{Item}
use Rattle.text_tree.specs.declared.exprs.Filter.{Filter, roll-Filter}
use Rattle.text_tree.specs.declared.exprs.FilterOp.{FilterOp}
use Rattle.text_tree.specs.declared.exprs.Expr.TheVariants as e
use Rattle.text_tree.specs.declared.exprs.SetExpr.TheVariants as se
use Rattle.text_tree.specs.declared.exprs.Item.TheVariants as i
use Rattle.text_tree.specs.declared.exprs.Expr.TheOpen.{Expr-F, SetExpr-F, Item-F}
use Rattle.text_tree.specs.declared.exprs.Expr.TheFolds.{fold-roll-Expr, fold-roll-SetExpr, fold-roll-Item, fold-roll-Filter, fold_out-Filter}
use Rattle.type_schema.specs.declared.types.TBase.TheVariants as base
use Rattle.type_schema.specs.declared.types.TTy.{TTy}
use Rattle.type_schema.specs.declared.types.TTy.TheVariants.{Plain, Opt}
use Rattle.type_schema.specs.declared.trees.TExpr.TheVariants as t
use Rattle.type_schema.specs.declared.trees.TSet.TheVariants as ts
use Rattle.type_schema.specs.declared.trees.TItem.TheVariants as ti
use Rattle.type_schema.specs.declared.trees.TFilter.TheVariants as tf
use Rattle.type_schema.specs.Schema.{Schema}
use Rattle.type_typing.specs.declared.asked.Content.{Content}
use Rattle.type_typing.specs.declared.asked.Content.TheVariants.{Records}
use Rattle.type_schema.specs.declared.trees.TFilter.{TFilter}
use Rattle.type_typing.specs.declared.asked.Source.{Source}
use Rattle.type_typing.specs.declared.vars.Var.{Var}
use Rattle.type_typing.specs.declared.type_err.TypeErr.TheVariants.{Unknown, WrongType}
use Rattle.type_typing.specs.Names.{field_named, model_named, static_named, var_named}
use Rattle.type_typing.specs.Asked.{among_principals, base_of, field_of_record, fits, id_asked, id_of, inner_asked, may_hold, none_of, option_of, of_type, set_of_ids, source, truth, under}
use Rattle.type_typing.specs.Compared.{compared, left_asked, tested}
use Rattle.type_typing.specs.Exprs.{ExprTyping, SetTyping, ItemTyping, FilterTyping, bool, expr_layer, item_layer, set_layer, filter_layer, expr_typing, set_typing, item_typing, filter_typing, typed_expr, typed_set, typed_source, typed_item, typed_items, typed_filter, typed_filters}
use Rattle.type_typing.specs.Outcome.{Checked, ◌>>=◌, all_checked, or_else}

map-map : {A B C : Type 0} (f : A → B) (g : B → C) (xs : List A) → map g (map f xs) ≡ map (λ x. g (f x)) xs
map-map f g [] = refl
map-map f g (x ∷ xs) = ap (λ ys. g (f x) ∷ ys) (map-map f g xs)

abbrev found : Named → ℕ → List (Checked TFilter) → Checked Source
found model m tests = all_checked tests >>= (λ done. Ok (source model.at m (ts.Find m done)))

filters_fused : (s : Schema) (vars : List Var) (model : Named) (fs : List Filter) (o : Checked ℕ)
    → (o >>= (λ m. found model m (map (λ (z : FilterTyping). z vars m) (map (filter_typing s) fs)))) ≡ (o >>= (λ m. found model m (map (λ f. filter_typing s f vars m) fs)))
filters_fused s vars model fs (Ok m) = ap (found model m) (map-map (filter_typing s) (λ (z : FilterTyping). z vars m) fs)
filters_fused s vars model fs (Err e) = refl

pub Flag_is : (s : Schema) (vars : List Var) (asked : Option TTy) (value : Bool) (at : ℕ) → typed_expr s vars asked (e.Flag at value) ≡ fits (truth at (t.Flag value)) asked
unfolding typed_expr typed_set typed_source typed_item typed_filter
Flag_is s vars asked value at =
    ap (λ z. expr_typing s z vars asked) (sym (e.rolls-Flag at value))
    ∙ ap (λ (z : ExprTyping). z vars asked) (fold-roll-Expr ExprTyping ItemTyping SetTyping FilterTyping (expr_layer s) (item_layer s) (set_layer s) (filter_layer s) (Expr-F.Flag at value))

pub Num_is : (s : Schema) (vars : List Var) (asked : Option TTy) (value : ℤ) (at : ℕ) → typed_expr s vars asked (e.Num at value) ≡ fits (of_type at (Plain base.Int) (t.Num value)) asked
unfolding typed_expr typed_set typed_source typed_item typed_filter
Num_is s vars asked value at =
    ap (λ z. expr_typing s z vars asked) (sym (e.rolls-Num at value))
    ∙ ap (λ (z : ExprTyping). z vars asked) (fold-roll-Expr ExprTyping ItemTyping SetTyping FilterTyping (expr_layer s) (item_layer s) (set_layer s) (filter_layer s) (Expr-F.Num at value))

pub Str_is : (s : Schema) (vars : List Var) (asked : Option TTy) (text : List ℕ) (at : ℕ) → typed_expr s vars asked (e.Str at text) ≡ fits (of_type at (Plain base.Text) (t.Str text)) asked
unfolding typed_expr typed_set typed_source typed_item typed_filter
Str_is s vars asked text at =
    ap (λ z. expr_typing s z vars asked) (sym (e.rolls-Str at text))
    ∙ ap (λ (z : ExprTyping). z vars asked) (fold-roll-Expr ExprTyping ItemTyping SetTyping FilterTyping (expr_layer s) (item_layer s) (set_layer s) (filter_layer s) (Expr-F.Str at text))

pub Var_is : (s : Schema) (vars : List Var) (asked : Option TTy) (x : Named) (at : ℕ) → typed_expr s vars asked (e.Var at x) ≡ (or_else (var_named vars x.name) (Unknown x.at) >>= (λ var. fits (of_type at var.1 (t.Var var.0 x.name)) asked))
unfolding typed_expr typed_set typed_source typed_item typed_filter
Var_is s vars asked x at =
    ap (λ z. expr_typing s z vars asked) (sym (e.rolls-Var at x))
    ∙ ap (λ (z : ExprTyping). z vars asked) (fold-roll-Expr ExprTyping ItemTyping SetTyping FilterTyping (expr_layer s) (item_layer s) (set_layer s) (filter_layer s) (Expr-F.Var at x))

pub NoneLit_is : (s : Schema) (vars : List Var) (asked : Option TTy) (at : ℕ) → typed_expr s vars asked (e.NoneLit at) ≡ none_of asked at
unfolding typed_expr typed_set typed_source typed_item typed_filter
NoneLit_is s vars asked at =
    ap (λ z. expr_typing s z vars asked) (sym (e.rolls-NoneLit at))
    ∙ ap (λ (z : ExprTyping). z vars asked) (fold-roll-Expr ExprTyping ItemTyping SetTyping FilterTyping (expr_layer s) (item_layer s) (set_layer s) (filter_layer s) (Expr-F.NoneLit at))

pub SomeLit_is : (s : Schema) (vars : List Var) (asked : Option TTy) (x : Expr) (at : ℕ) → typed_expr s vars asked (e.SomeLit at x) ≡ (typed_expr s vars (inner_asked asked) x >>= (λ inner. base_of inner.ty inner.at >>= (λ b.
    fits (of_type at (Opt b) (t.SomeLit inner.tree)) asked)))
unfolding typed_expr typed_set typed_source typed_item typed_filter
SomeLit_is s vars asked x at =
    ap (λ z. expr_typing s z vars asked) (sym (e.rolls-SomeLit at x))
    ∙ ap (λ (z : ExprTyping). z vars asked) (fold-roll-Expr ExprTyping ItemTyping SetTyping FilterTyping (expr_layer s) (item_layer s) (set_layer s) (filter_layer s) (Expr-F.SomeLit at x))

pub Get_is : (s : Schema) (vars : List Var) (asked : Option TTy) (x : Expr) (f : Named) (at : ℕ) → typed_expr s vars asked (e.Get at x f) ≡ (typed_expr s vars None x >>= (λ of. field_of_record s of.ty of.at f >>= (λ field.
    fits (of_type at field.2 (t.Get of.tree field.0 field.1)) asked)))
unfolding typed_expr typed_set typed_source typed_item typed_filter
Get_is s vars asked x f at =
    ap (λ z. expr_typing s z vars asked) (sym (e.rolls-Get at x f))
    ∙ ap (λ (z : ExprTyping). z vars asked) (fold-roll-Expr ExprTyping ItemTyping SetTyping FilterTyping (expr_layer s) (item_layer s) (set_layer s) (filter_layer s) (Expr-F.Get at x f))

pub Cmp_is : (s : Schema) (vars : List Var) (asked : Option TTy) (op : CmpOp) (x y : Expr) (at : ℕ) → typed_expr s vars asked (e.Cmp at op x y) ≡ (typed_expr s vars (left_asked op) x >>= (λ left. base_of left.ty left.at >>= (λ by.
    typed_expr s vars (Some left.ty) y >>= (λ right. fits (truth at (compared op by left.tree right.tree)) asked))))
unfolding typed_expr typed_set typed_source typed_item typed_filter
Cmp_is s vars asked op x y at =
    ap (λ z. expr_typing s z vars asked) (sym (e.rolls-Cmp at op x y))
    ∙ ap (λ (z : ExprTyping). z vars asked) (fold-roll-Expr ExprTyping ItemTyping SetTyping FilterTyping (expr_layer s) (item_layer s) (set_layer s) (filter_layer s) (Expr-F.Cmp at op x y))

pub Member_is : (s : Schema) (vars : List Var) (asked : Option TTy) (x : Expr) (set : SetExpr) (at : ℕ) → typed_expr s vars asked (e.Member at x set) ≡ (typed_expr s vars None x >>= (λ of. id_of of.ty of.at >>= (λ m.
    typed_set s vars (Records m) set >>= (λ all. fits (truth at (t.Member of.tree m all)) asked))))
unfolding typed_expr typed_set typed_source typed_item typed_filter
Member_is s vars asked x set at =
    ap (λ z. expr_typing s z vars asked) (sym (e.rolls-Member at x set))
    ∙ ap (λ (z : ExprTyping). z vars asked) (fold-roll-Expr ExprTyping ItemTyping SetTyping FilterTyping (expr_layer s) (item_layer s) (set_layer s) (filter_layer s) (Expr-F.Member at x set))

pub Not_is : (s : Schema) (vars : List Var) (asked : Option TTy) (x : Expr) (at : ℕ) → typed_expr s vars asked (e.Not at x) ≡ (typed_expr s vars bool x >>= (λ inner. fits (truth at (t.Not inner.tree)) asked))
unfolding typed_expr typed_set typed_source typed_item typed_filter
Not_is s vars asked x at =
    ap (λ z. expr_typing s z vars asked) (sym (e.rolls-Not at x))
    ∙ ap (λ (z : ExprTyping). z vars asked) (fold-roll-Expr ExprTyping ItemTyping SetTyping FilterTyping (expr_layer s) (item_layer s) (set_layer s) (filter_layer s) (Expr-F.Not at x))

pub And_is : (s : Schema) (vars : List Var) (asked : Option TTy) (x y : Expr) (at : ℕ) → typed_expr s vars asked (e.And at x y) ≡ (typed_expr s vars bool x >>= (λ left. typed_expr s vars bool y >>= (λ right.
    fits (truth at (t.And left.tree right.tree)) asked)))
unfolding typed_expr typed_set typed_source typed_item typed_filter
And_is s vars asked x y at =
    ap (λ z. expr_typing s z vars asked) (sym (e.rolls-And at x y))
    ∙ ap (λ (z : ExprTyping). z vars asked) (fold-roll-Expr ExprTyping ItemTyping SetTyping FilterTyping (expr_layer s) (item_layer s) (set_layer s) (filter_layer s) (Expr-F.And at x y))

pub Or_is : (s : Schema) (vars : List Var) (asked : Option TTy) (x y : Expr) (at : ℕ) → typed_expr s vars asked (e.Or at x y) ≡ (typed_expr s vars bool x >>= (λ left. typed_expr s vars bool y >>= (λ right.
    fits (truth at (t.Or left.tree right.tree)) asked)))
unfolding typed_expr typed_set typed_source typed_item typed_filter
Or_is s vars asked x y at =
    ap (λ z. expr_typing s z vars asked) (sym (e.rolls-Or at x y))
    ∙ ap (λ (z : ExprTyping). z vars asked) (fold-roll-Expr ExprTyping ItemTyping SetTyping FilterTyping (expr_layer s) (item_layer s) (set_layer s) (filter_layer s) (Expr-F.Or at x y))

pub IfE_is : (s : Schema) (vars : List Var) (asked : Option TTy) (c x y : Expr) (at : ℕ) → typed_expr s vars asked (e.IfE at c x y) ≡ (typed_expr s vars bool c >>= (λ test. typed_expr s vars asked x >>= (λ one.
    typed_expr s vars (Some one.ty) y >>= (λ other. Ok (of_type at one.ty (t.IfE test.tree one.tree other.tree))))))
unfolding typed_expr typed_set typed_source typed_item typed_filter
IfE_is s vars asked c x y at =
    ap (λ z. expr_typing s z vars asked) (sym (e.rolls-IfE at c x y))
    ∙ ap (λ (z : ExprTyping). z vars asked) (fold-roll-Expr ExprTyping ItemTyping SetTyping FilterTyping (expr_layer s) (item_layer s) (set_layer s) (filter_layer s) (Expr-F.IfE at c x y))

pub MatchE_is : (s : Schema) (vars : List Var) (asked : Option TTy) (x y : Expr) (v : Named) (z : Expr) (at : ℕ) → typed_expr s vars asked (e.MatchE at x y (v, z)) ≡ (typed_expr s vars None x >>= (λ of. option_of of.ty of.at >>= (λ inside.
    typed_expr s vars asked y >>= (λ none. under vars v (Plain inside) >>= (λ inner.
    typed_expr s inner (Some none.ty) z >>= (λ some. Ok (of_type at none.ty (t.MatchE of.tree none.tree v.name some.tree))))))))
unfolding typed_expr typed_set typed_source typed_item typed_filter
MatchE_is s vars asked x y v z at =
    ap (λ z. expr_typing s z vars asked) (sym (e.rolls-MatchE at x y (v, z)))
    ∙ ap (λ (z : ExprTyping). z vars asked) (fold-roll-Expr ExprTyping ItemTyping SetTyping FilterTyping (expr_layer s) (item_layer s) (set_layer s) (filter_layer s) (Expr-F.MatchE at x y (v, z)))

pub Everyone_is : (s : Schema) (vars : List Var) (content : Content) (word at : ℕ) → typed_set s vars content (se.Everyone at word) ≡ (among_principals content word >>= (λ _. Ok ts.Everyone))
unfolding typed_expr typed_set typed_source typed_item typed_filter
Everyone_is s vars content word at =
    ap (λ z. (set_typing s z).type vars content) (sym (se.rolls-Everyone at word))
    ∙ ap (λ (z : SetTyping). z.type vars content) (fold-roll-SetExpr ExprTyping ItemTyping SetTyping FilterTyping (expr_layer s) (item_layer s) (set_layer s) (filter_layer s) (SetExpr-F.Everyone at word))

pub Nobody_is : (s : Schema) (vars : List Var) (content : Content) (at : ℕ) → typed_set s vars content (se.Nobody at) ≡ Ok ts.Nobody
unfolding typed_expr typed_set typed_source typed_item typed_filter
Nobody_is s vars content at =
    ap (λ z. (set_typing s z).type vars content) (sym (se.rolls-Nobody at))
    ∙ ap (λ (z : SetTyping). z.type vars content) (fold-roll-SetExpr ExprTyping ItemTyping SetTyping FilterTyping (expr_layer s) (item_layer s) (set_layer s) (filter_layer s) (SetExpr-F.Nobody at))

pub Sum_is : (s : Schema) (vars : List Var) (content : Content) (x y : SetExpr) (at : ℕ) → typed_set s vars content (se.Sum at x y) ≡ (typed_set s vars content x >>= (λ left. typed_set s vars content y >>= (λ right. Ok (ts.Sum left right))))
unfolding typed_expr typed_set typed_source typed_item typed_filter
Sum_is s vars content x y at =
    ap (λ z. (set_typing s z).type vars content) (sym (se.rolls-Sum at x y))
    ∙ ap (λ (z : SetTyping). z.type vars content) (fold-roll-SetExpr ExprTyping ItemTyping SetTyping FilterTyping (expr_layer s) (item_layer s) (set_layer s) (filter_layer s) (SetExpr-F.Sum at x y))

pub Less_is : (s : Schema) (vars : List Var) (content : Content) (x y : SetExpr) (at : ℕ) → typed_set s vars content (se.Less at x y) ≡ (typed_set s vars content x >>= (λ left. typed_set s vars content y >>= (λ right. Ok (ts.Less left right))))
unfolding typed_expr typed_set typed_source typed_item typed_filter
Less_is s vars content x y at =
    ap (λ z. (set_typing s z).type vars content) (sym (se.rolls-Less at x y))
    ∙ ap (λ (z : SetTyping). z.type vars content) (fold-roll-SetExpr ExprTyping ItemTyping SetTyping FilterTyping (expr_layer s) (item_layer s) (set_layer s) (filter_layer s) (SetExpr-F.Less at x y))

pub FlatS_is : (s : Schema) (vars : List Var) (content : Content) (x : SetExpr) (v : Named) (y : SetExpr) (at : ℕ) → typed_set s vars content (se.FlatS at x v y) ≡ (typed_source s vars x >>= (λ over. under vars v (Plain (base.Id over.model)) >>= (λ inner.
    typed_set s inner content y >>= (λ each. Ok (ts.FlatS over.set over.model v.name each)))))
unfolding typed_expr typed_set typed_source typed_item typed_filter
FlatS_is s vars content x v y at =
    ap (λ z. (set_typing s z).type vars content) (sym (se.rolls-FlatS at x v y))
    ∙ ap (λ (z : SetTyping). z.type vars content) (fold-roll-SetExpr ExprTyping ItemTyping SetTyping FilterTyping (expr_layer s) (item_layer s) (set_layer s) (filter_layer s) (SetExpr-F.FlatS at x v y))

pub IfS_is : (s : Schema) (vars : List Var) (content : Content) (c : Expr) (x y : SetExpr) (at : ℕ) → typed_set s vars content (se.IfS at c x y) ≡ (typed_expr s vars bool c >>= (λ test. typed_set s vars content x >>= (λ one.
    typed_set s vars content y >>= (λ other. Ok (ts.IfS test.tree one other)))))
unfolding typed_expr typed_set typed_source typed_item typed_filter
IfS_is s vars content c x y at =
    ap (λ z. (set_typing s z).type vars content) (sym (se.rolls-IfS at c x y))
    ∙ ap (λ (z : SetTyping). z.type vars content) (fold-roll-SetExpr ExprTyping ItemTyping SetTyping FilterTyping (expr_layer s) (item_layer s) (set_layer s) (filter_layer s) (SetExpr-F.IfS at c x y))

pub MatchS_is : (s : Schema) (vars : List Var) (content : Content) (x : Expr) (y : SetExpr) (v : Named) (z : SetExpr) (at : ℕ) → typed_set s vars content (se.MatchS at x y v z) ≡ (typed_expr s vars None x >>= (λ of. option_of of.ty of.at >>= (λ inside.
    typed_set s vars content y >>= (λ none. under vars v (Plain inside) >>= (λ inner.
    typed_set s inner content z >>= (λ some. Ok (ts.MatchS of.tree none v.name some)))))))
unfolding typed_expr typed_set typed_source typed_item typed_filter
MatchS_is s vars content x y v z at =
    ap (λ z. (set_typing s z).type vars content) (sym (se.rolls-MatchS at x y v z))
    ∙ ap (λ (z : SetTyping). z.type vars content) (fold-roll-SetExpr ExprTyping ItemTyping SetTyping FilterTyping (expr_layer s) (item_layer s) (set_layer s) (filter_layer s) (SetExpr-F.MatchS at x y v z))

pub List_is : (s : Schema) (vars : List Var) (content : Content) (xs : List Item) (at : ℕ) → typed_set s vars content (se.List at xs) ≡ (typed_items s vars content xs >>= (λ all. Ok (ts.List all)))
unfolding typed_expr typed_set typed_source typed_item typed_filter
List_is s vars content xs at =
    ap (λ z. (set_typing s z).type vars content) (sym (se.rolls-List at xs))
    ∙ ap (λ (z : SetTyping). z.type vars content) (fold-roll-SetExpr ExprTyping ItemTyping SetTyping FilterTyping (expr_layer s) (item_layer s) (set_layer s) (filter_layer s) (SetExpr-F.List at xs))
    ∙ ap (λ zs. all_checked zs >>= (λ all. Ok (ts.List all))) (map-map (item_typing s) (λ (z : ItemTyping). z vars content) xs)

pub Find_is : (s : Schema) (vars : List Var) (content : Content) (model : Named) (fs : List Filter) (at : ℕ) → typed_set s vars content (se.Find at model fs) ≡ (typed_source s vars (se.Find at model fs) >>= (λ of. may_hold s content of.model of.at >>= (λ _. Ok of.set)))
unfolding typed_expr typed_set typed_source typed_item typed_filter
Find_is s vars content model fs at =
    ap (λ z. (set_typing s z).type vars content) (sym (se.rolls-Find at model fs))
    ∙ ap (λ (z : SetTyping). z.type vars content) (fold-roll-SetExpr ExprTyping ItemTyping SetTyping FilterTyping (expr_layer s) (item_layer s) (set_layer s) (filter_layer s) (SetExpr-F.Find at model fs))
    ∙ ap (λ (z : SetTyping). z.source vars >>= (λ of. may_hold s content of.model of.at >>= (λ _. Ok of.set))) (sym (fold-roll-SetExpr ExprTyping ItemTyping SetTyping FilterTyping (expr_layer s) (item_layer s) (set_layer s) (filter_layer s) (SetExpr-F.Find at model fs)))
    ∙ ap (λ z. (set_typing s z).source vars >>= (λ of. may_hold s content of.model of.at >>= (λ _. Ok of.set))) (se.rolls-Find at model fs)

pub Path_is : (s : Schema) (vars : List Var) (content : Content) (x : Expr) (at : ℕ) → typed_set s vars content (se.Path at x) ≡ (typed_source s vars (se.Path at x) >>= (λ of. may_hold s content of.model of.at >>= (λ _. Ok of.set)))
unfolding typed_expr typed_set typed_source typed_item typed_filter
Path_is s vars content x at =
    ap (λ z. (set_typing s z).type vars content) (sym (se.rolls-Path at x))
    ∙ ap (λ (z : SetTyping). z.type vars content) (fold-roll-SetExpr ExprTyping ItemTyping SetTyping FilterTyping (expr_layer s) (item_layer s) (set_layer s) (filter_layer s) (SetExpr-F.Path at x))
    ∙ ap (λ (z : SetTyping). z.source vars >>= (λ of. may_hold s content of.model of.at >>= (λ _. Ok of.set))) (sym (fold-roll-SetExpr ExprTyping ItemTyping SetTyping FilterTyping (expr_layer s) (item_layer s) (set_layer s) (filter_layer s) (SetExpr-F.Path at x)))
    ∙ ap (λ z. (set_typing s z).source vars >>= (λ of. may_hold s content of.model of.at >>= (λ _. Ok of.set))) (se.rolls-Path at x)

pub MapS_is : (s : Schema) (vars : List Var) (content : Content) (x : SetExpr) (v : Named) (y : Expr) (at : ℕ) → typed_set s vars content (se.MapS at x v y) ≡ (typed_source s vars (se.MapS at x v y) >>= (λ of. may_hold s content of.model of.at >>= (λ _. Ok of.set)))
unfolding typed_expr typed_set typed_source typed_item typed_filter
MapS_is s vars content x v y at =
    ap (λ z. (set_typing s z).type vars content) (sym (se.rolls-MapS at x v y))
    ∙ ap (λ (z : SetTyping). z.type vars content) (fold-roll-SetExpr ExprTyping ItemTyping SetTyping FilterTyping (expr_layer s) (item_layer s) (set_layer s) (filter_layer s) (SetExpr-F.MapS at x v y))
    ∙ ap (λ (z : SetTyping). z.source vars >>= (λ of. may_hold s content of.model of.at >>= (λ _. Ok of.set))) (sym (fold-roll-SetExpr ExprTyping ItemTyping SetTyping FilterTyping (expr_layer s) (item_layer s) (set_layer s) (filter_layer s) (SetExpr-F.MapS at x v y)))
    ∙ ap (λ z. (set_typing s z).source vars >>= (λ of. may_hold s content of.model of.at >>= (λ _. Ok of.set))) (se.rolls-MapS at x v y)

pub Everyone_no_source : (s : Schema) (vars : List Var) (word at : ℕ) → typed_source s vars (se.Everyone at word) ≡ Err (WrongType at)
unfolding typed_expr typed_set typed_source typed_item typed_filter
Everyone_no_source s vars word at =
    ap (λ z. (set_typing s z).source vars) (sym (se.rolls-Everyone at word))
    ∙ ap (λ (z : SetTyping). z.source vars) (fold-roll-SetExpr ExprTyping ItemTyping SetTyping FilterTyping (expr_layer s) (item_layer s) (set_layer s) (filter_layer s) (SetExpr-F.Everyone at word))

pub Nobody_no_source : (s : Schema) (vars : List Var) (at : ℕ) → typed_source s vars (se.Nobody at) ≡ Err (WrongType at)
unfolding typed_expr typed_set typed_source typed_item typed_filter
Nobody_no_source s vars at =
    ap (λ z. (set_typing s z).source vars) (sym (se.rolls-Nobody at))
    ∙ ap (λ (z : SetTyping). z.source vars) (fold-roll-SetExpr ExprTyping ItemTyping SetTyping FilterTyping (expr_layer s) (item_layer s) (set_layer s) (filter_layer s) (SetExpr-F.Nobody at))

pub List_no_source : (s : Schema) (vars : List Var) (xs : List Item) (at : ℕ) → typed_source s vars (se.List at xs) ≡ Err (WrongType at)
unfolding typed_expr typed_set typed_source typed_item typed_filter
List_no_source s vars xs at =
    ap (λ z. (set_typing s z).source vars) (sym (se.rolls-List at xs))
    ∙ ap (λ (z : SetTyping). z.source vars) (fold-roll-SetExpr ExprTyping ItemTyping SetTyping FilterTyping (expr_layer s) (item_layer s) (set_layer s) (filter_layer s) (SetExpr-F.List at xs))

pub Sum_no_source : (s : Schema) (vars : List Var) (x y : SetExpr) (at : ℕ) → typed_source s vars (se.Sum at x y) ≡ Err (WrongType at)
unfolding typed_expr typed_set typed_source typed_item typed_filter
Sum_no_source s vars x y at =
    ap (λ z. (set_typing s z).source vars) (sym (se.rolls-Sum at x y))
    ∙ ap (λ (z : SetTyping). z.source vars) (fold-roll-SetExpr ExprTyping ItemTyping SetTyping FilterTyping (expr_layer s) (item_layer s) (set_layer s) (filter_layer s) (SetExpr-F.Sum at x y))

pub Less_no_source : (s : Schema) (vars : List Var) (x y : SetExpr) (at : ℕ) → typed_source s vars (se.Less at x y) ≡ Err (WrongType at)
unfolding typed_expr typed_set typed_source typed_item typed_filter
Less_no_source s vars x y at =
    ap (λ z. (set_typing s z).source vars) (sym (se.rolls-Less at x y))
    ∙ ap (λ (z : SetTyping). z.source vars) (fold-roll-SetExpr ExprTyping ItemTyping SetTyping FilterTyping (expr_layer s) (item_layer s) (set_layer s) (filter_layer s) (SetExpr-F.Less at x y))

pub FlatS_no_source : (s : Schema) (vars : List Var) (x : SetExpr) (v : Named) (y : SetExpr) (at : ℕ) → typed_source s vars (se.FlatS at x v y) ≡ Err (WrongType at)
unfolding typed_expr typed_set typed_source typed_item typed_filter
FlatS_no_source s vars x v y at =
    ap (λ z. (set_typing s z).source vars) (sym (se.rolls-FlatS at x v y))
    ∙ ap (λ (z : SetTyping). z.source vars) (fold-roll-SetExpr ExprTyping ItemTyping SetTyping FilterTyping (expr_layer s) (item_layer s) (set_layer s) (filter_layer s) (SetExpr-F.FlatS at x v y))

pub IfS_no_source : (s : Schema) (vars : List Var) (c : Expr) (x y : SetExpr) (at : ℕ) → typed_source s vars (se.IfS at c x y) ≡ Err (WrongType at)
unfolding typed_expr typed_set typed_source typed_item typed_filter
IfS_no_source s vars c x y at =
    ap (λ z. (set_typing s z).source vars) (sym (se.rolls-IfS at c x y))
    ∙ ap (λ (z : SetTyping). z.source vars) (fold-roll-SetExpr ExprTyping ItemTyping SetTyping FilterTyping (expr_layer s) (item_layer s) (set_layer s) (filter_layer s) (SetExpr-F.IfS at c x y))

pub MatchS_no_source : (s : Schema) (vars : List Var) (x : Expr) (y : SetExpr) (v : Named) (z : SetExpr) (at : ℕ) → typed_source s vars (se.MatchS at x y v z) ≡ Err (WrongType at)
unfolding typed_expr typed_set typed_source typed_item typed_filter
MatchS_no_source s vars x y v z at =
    ap (λ z. (set_typing s z).source vars) (sym (se.rolls-MatchS at x y v z))
    ∙ ap (λ (z : SetTyping). z.source vars) (fold-roll-SetExpr ExprTyping ItemTyping SetTyping FilterTyping (expr_layer s) (item_layer s) (set_layer s) (filter_layer s) (SetExpr-F.MatchS at x y v z))

pub Find_source : (s : Schema) (vars : List Var) (model : Named) (fs : List Filter) (at : ℕ) → typed_source s vars (se.Find at model fs) ≡ (or_else (model_named s model.name) (Unknown model.at) >>= (λ m.
    typed_filters s vars m fs >>= (λ tests. Ok (source model.at m (ts.Find m tests)))))
unfolding typed_expr typed_set typed_source typed_item typed_filter
Find_source s vars model fs at =
    ap (λ z. (set_typing s z).source vars) (sym (se.rolls-Find at model fs))
    ∙ ap (λ (z : SetTyping). z.source vars) (fold-roll-SetExpr ExprTyping ItemTyping SetTyping FilterTyping (expr_layer s) (item_layer s) (set_layer s) (filter_layer s) (SetExpr-F.Find at model fs))
    ∙ filters_fused s vars model fs (or_else (model_named s model.name) (Unknown model.at))

pub Path_source : (s : Schema) (vars : List Var) (x : Expr) (at : ℕ) → typed_source s vars (se.Path at x) ≡ (typed_expr s vars None x >>= (λ of. set_of_ids of.ty of.at >>= (λ m. Ok (source of.at m (ts.Path m of.tree)))))
unfolding typed_expr typed_set typed_source typed_item typed_filter
Path_source s vars x at =
    ap (λ z. (set_typing s z).source vars) (sym (se.rolls-Path at x))
    ∙ ap (λ (z : SetTyping). z.source vars) (fold-roll-SetExpr ExprTyping ItemTyping SetTyping FilterTyping (expr_layer s) (item_layer s) (set_layer s) (filter_layer s) (SetExpr-F.Path at x))

pub MapS_source : (s : Schema) (vars : List Var) (x : SetExpr) (v : Named) (y : Expr) (at : ℕ) → typed_source s vars (se.MapS at x v y) ≡ (typed_source s vars x >>= (λ over. under vars v (Plain (base.Id over.model)) >>= (λ inner.
    typed_expr s inner None y >>= (λ each. id_of each.ty each.at >>= (λ m.
    Ok (source over.at m (ts.MapS over.set over.model v.name m each.tree)))))))
unfolding typed_expr typed_set typed_source typed_item typed_filter
MapS_source s vars x v y at =
    ap (λ z. (set_typing s z).source vars) (sym (se.rolls-MapS at x v y))
    ∙ ap (λ (z : SetTyping). z.source vars) (fold-roll-SetExpr ExprTyping ItemTyping SetTyping FilterTyping (expr_layer s) (item_layer s) (set_layer s) (filter_layer s) (SetExpr-F.MapS at x v y))

pub Static_is : (s : Schema) (vars : List Var) (content : Content) (x : Named) → typed_item s vars content (i.Static x) ≡ (among_principals content x.at >>= (λ _.
    or_else (static_named s x.name) (Unknown x.at) >>= (λ n. Ok (ti.Static n))))
unfolding typed_expr typed_set typed_source typed_item typed_filter
Static_is s vars content x =
    ap (λ z. item_typing s z vars content) (sym (i.rolls-Static x)) ∙ ap (λ (z : ItemTyping). z vars content) (fold-roll-Item ExprTyping ItemTyping SetTyping FilterTyping (expr_layer s) (item_layer s) (set_layer s) (filter_layer s) (Item-F.Static x))

pub One_is : (s : Schema) (vars : List Var) (content : Content) (x : Expr) → typed_item s vars content (i.One x) ≡ (typed_expr s vars (id_asked content) x >>= (λ of. id_of of.ty of.at >>= (λ m.
    may_hold s content m of.at >>= (λ _. Ok (ti.One m of.tree)))))
unfolding typed_expr typed_set typed_source typed_item typed_filter
One_is s vars content x =
    ap (λ z. item_typing s z vars content) (sym (i.rolls-One x)) ∙ ap (λ (z : ItemTyping). z vars content) (fold-roll-Item ExprTyping ItemTyping SetTyping FilterTyping (expr_layer s) (item_layer s) (set_layer s) (filter_layer s) (Item-F.One x))

pub Filter_is : (s : Schema) (vars : List Var) (m : ℕ) (f : Filter) → typed_filter s vars m f ≡ (or_else (field_named s m f.field.name) (Unknown f.field.at) >>= (λ field. tested f.op field.1 f.field.at >>= (λ asked.
    typed_expr s vars (Some asked) f.value >>= (λ value. Ok (tf.Test field.0 f.op value.tree)))))
unfolding typed_expr typed_set typed_source typed_item typed_filter
Filter_is s vars m f = ap (λ (z : FilterTyping). z vars m) (fold_out-Filter ExprTyping ItemTyping SetTyping FilterTyping (expr_layer s) (item_layer s) (set_layer s) (filter_layer s) f)

pub rolled_filter : (s : Schema) (vars : List Var) (m : ℕ) (f : Named) (op : FilterOp) (x : Expr) → typed_filter s vars m (roll-Filter (record { field = f; op = op; value = x })) ≡ (or_else (field_named s m f.name) (Unknown f.at) >>= (λ field. tested op field.1 f.at >>= (λ asked.
    typed_expr s vars (Some asked) x >>= (λ value. Ok (tf.Test field.0 op value.tree)))))
unfolding typed_expr typed_set typed_source typed_item typed_filter
rolled_filter s vars m f op x =
    ap (λ (z : FilterTyping). z vars m) (fold-roll-Filter ExprTyping ItemTyping SetTyping FilterTyping (expr_layer s) (item_layer s) (set_layer s) (filter_layer s) (record { field = f; op = op; value = x }))
