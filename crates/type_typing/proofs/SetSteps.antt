-- What is answered of a set, an item and a filter, by what was found of its parts so far.
use Rattle.std.proofs.Common.{◌≡◌, ◌≢◌, ℕ, List, ◌∙◌, ap}
use Rattle.std.specs.Prelude.{Some, None, Ok, Err}
use Rattle.text_tree.specs.declared.named.Named.{Named}
use Rattle.text_tree.specs.declared.exprs.Expr.{Expr}
use Rattle.text_tree.specs.declared.exprs.SetExpr.{SetExpr}
use Rattle.text_tree.specs.declared.exprs.Item.{Item}
use Rattle.text_tree.specs.declared.exprs.Filter.{Filter}
use Rattle.text_tree.specs.declared.exprs.SetExpr.TheVariants as se
use Rattle.text_tree.specs.declared.exprs.Item.TheVariants as i
use Rattle.type_schema.specs.declared.types.TBase.{TBase}
use Rattle.type_schema.specs.declared.types.TBase.TheVariants as base
use Rattle.type_schema.specs.declared.types.TTy.{TTy}
use Rattle.type_schema.specs.declared.types.TTy.TheVariants.{Plain}
use Rattle.type_schema.specs.declared.trees.TSet.{TSet}
use Rattle.type_schema.specs.declared.trees.TSet.TheVariants as ts
use Rattle.type_schema.specs.declared.trees.TItem.{TItem}
use Rattle.type_schema.specs.declared.trees.TItem.TheVariants as ti
use Rattle.type_schema.specs.declared.trees.TFilter.{TFilter}
use Rattle.type_schema.specs.declared.trees.TFilter.TheVariants as tf
use Rattle.type_schema.specs.Schema.{Schema}
use Rattle.type_typing.specs.declared.asked.Content.{Content}
use Rattle.type_typing.specs.declared.asked.Source.{Source}
use Rattle.type_typing.specs.declared.asked.Typed.{Typed}
use Rattle.type_typing.specs.declared.vars.Var.{Var}
use Rattle.type_typing.specs.declared.type_err.TypeErr.{TypeErr}
use Rattle.type_typing.specs.declared.type_err.TypeErr.TheVariants.{OutOfMemory, Unknown}
use Rattle.type_typing.specs.Names.{field_named, model_named, static_named}
use Rattle.type_typing.specs.Asked.{among_principals, id_asked, id_of, may_hold, option_of, set_of_ids, source, under}
use Rattle.type_typing.specs.Compared.{tested}
use Rattle.type_typing.specs.Exprs.{bool, typed_expr, typed_set, typed_source, typed_item, typed_items, typed_filter, typed_filters}
use Rattle.type_typing.specs.Outcome.{Checked, Gives, ◌>>=◌, or_else}
use Rattle.type_typing.proofs.Forms as form
use Rattle.type_typing.proofs.Steps.{goes_on, stops, same_gives}

pub SetNobody_last : (s : Schema) (vars : List Var) (content : Content) (at : ℕ) (w : SetExpr) (r : Checked TSet) → w ≡ se.Nobody at → Gives (Ok (ts.Nobody)) r
    → Gives (typed_set s vars content w) r
SetNobody_last s vars content at w r is done =
    same_gives (typed_set s vars content w) (Ok (ts.Nobody)) r
    ((ap (λ z. typed_set s vars content z) is ∙ form.Nobody_is s vars content at)) done

pub SetEveryone_last : (s : Schema) (vars : List Var) (content : Content) (word at : ℕ) (w : SetExpr) (r : Checked TSet) → w ≡ se.Everyone at word → Gives (among_principals content word >>= (λ only. Ok (ts.Everyone))) r
    → Gives (typed_set s vars content w) r
SetEveryone_last s vars content word at w r is done =
    same_gives (typed_set s vars content w) (among_principals content word >>= (λ only. Ok (ts.Everyone))) r
    ((ap (λ z. typed_set s vars content z) is ∙ form.Everyone_is s vars content word at)) done

pub SetSum_fault0 : (s : Schema) (vars : List Var) (content : Content) (x y : SetExpr) (at : ℕ) (w : SetExpr) (err : TypeErr) → w ≡ se.Sum at x y → (err ≢ OutOfMemory → typed_set s vars content x ≡ Err err)
    → err ≢ OutOfMemory → typed_set s vars content w ≡ Err err
SetSum_fault0 s vars content x y at w err is fault ne =
    (ap (λ z. typed_set s vars content z) is ∙ form.Sum_is s vars content x y at)
    ∙ stops (typed_set s vars content x) (λ left. (typed_set s vars content y >>= (λ right. Ok (ts.Sum left right)))) err (fault ne)

pub SetSum_fault1 : (s : Schema) (vars : List Var) (content : Content) (x y : SetExpr) (at : ℕ) (w : SetExpr) (left : TSet) (err : TypeErr) → w ≡ se.Sum at x y → typed_set s vars content x ≡ Ok left → (err ≢ OutOfMemory → typed_set s vars content y ≡ Err err)
    → err ≢ OutOfMemory → typed_set s vars content w ≡ Err err
SetSum_fault1 s vars content x y at w left err is found0 fault ne =
    (ap (λ z. typed_set s vars content z) is ∙ form.Sum_is s vars content x y at)
    ∙ goes_on (typed_set s vars content x) (λ left. (typed_set s vars content y >>= (λ right. Ok (ts.Sum left right)))) left found0
    ∙ stops (typed_set s vars content y) (λ right. Ok (ts.Sum left right)) err (fault ne)

pub SetSum_last : (s : Schema) (vars : List Var) (content : Content) (x y : SetExpr) (at : ℕ) (w : SetExpr) (left : TSet) (right : TSet) (r : Checked TSet) → w ≡ se.Sum at x y → typed_set s vars content x ≡ Ok left → typed_set s vars content y ≡ Ok right → Gives (Ok (ts.Sum left right)) r
    → Gives (typed_set s vars content w) r
SetSum_last s vars content x y at w left right r is found0 found1 done =
    same_gives (typed_set s vars content w) (Ok (ts.Sum left right)) r
    ((ap (λ z. typed_set s vars content z) is ∙ form.Sum_is s vars content x y at)
    ∙ goes_on (typed_set s vars content x) (λ left. (typed_set s vars content y >>= (λ right. Ok (ts.Sum left right)))) left found0
    ∙ goes_on (typed_set s vars content y) (λ right. Ok (ts.Sum left right)) right found1) done

pub SetLess_fault0 : (s : Schema) (vars : List Var) (content : Content) (x y : SetExpr) (at : ℕ) (w : SetExpr) (err : TypeErr) → w ≡ se.Less at x y → (err ≢ OutOfMemory → typed_set s vars content x ≡ Err err)
    → err ≢ OutOfMemory → typed_set s vars content w ≡ Err err
SetLess_fault0 s vars content x y at w err is fault ne =
    (ap (λ z. typed_set s vars content z) is ∙ form.Less_is s vars content x y at)
    ∙ stops (typed_set s vars content x) (λ left. (typed_set s vars content y >>= (λ right. Ok (ts.Less left right)))) err (fault ne)

pub SetLess_fault1 : (s : Schema) (vars : List Var) (content : Content) (x y : SetExpr) (at : ℕ) (w : SetExpr) (left : TSet) (err : TypeErr) → w ≡ se.Less at x y → typed_set s vars content x ≡ Ok left → (err ≢ OutOfMemory → typed_set s vars content y ≡ Err err)
    → err ≢ OutOfMemory → typed_set s vars content w ≡ Err err
SetLess_fault1 s vars content x y at w left err is found0 fault ne =
    (ap (λ z. typed_set s vars content z) is ∙ form.Less_is s vars content x y at)
    ∙ goes_on (typed_set s vars content x) (λ left. (typed_set s vars content y >>= (λ right. Ok (ts.Less left right)))) left found0
    ∙ stops (typed_set s vars content y) (λ right. Ok (ts.Less left right)) err (fault ne)

pub SetLess_last : (s : Schema) (vars : List Var) (content : Content) (x y : SetExpr) (at : ℕ) (w : SetExpr) (left : TSet) (right : TSet) (r : Checked TSet) → w ≡ se.Less at x y → typed_set s vars content x ≡ Ok left → typed_set s vars content y ≡ Ok right → Gives (Ok (ts.Less left right)) r
    → Gives (typed_set s vars content w) r
SetLess_last s vars content x y at w left right r is found0 found1 done =
    same_gives (typed_set s vars content w) (Ok (ts.Less left right)) r
    ((ap (λ z. typed_set s vars content z) is ∙ form.Less_is s vars content x y at)
    ∙ goes_on (typed_set s vars content x) (λ left. (typed_set s vars content y >>= (λ right. Ok (ts.Less left right)))) left found0
    ∙ goes_on (typed_set s vars content y) (λ right. Ok (ts.Less left right)) right found1) done

pub SetList_fault0 : (s : Schema) (vars : List Var) (content : Content) (xs : List Item) (at : ℕ) (w : SetExpr) (err : TypeErr) → w ≡ se.List at xs → (err ≢ OutOfMemory → typed_items s vars content xs ≡ Err err)
    → err ≢ OutOfMemory → typed_set s vars content w ≡ Err err
SetList_fault0 s vars content xs at w err is fault ne =
    (ap (λ z. typed_set s vars content z) is ∙ form.List_is s vars content xs at)
    ∙ stops (typed_items s vars content xs) (λ all. Ok (ts.List all)) err (fault ne)

pub SetList_last : (s : Schema) (vars : List Var) (content : Content) (xs : List Item) (at : ℕ) (w : SetExpr) (all : List TItem) (r : Checked TSet) → w ≡ se.List at xs → typed_items s vars content xs ≡ Ok all → Gives (Ok (ts.List all)) r
    → Gives (typed_set s vars content w) r
SetList_last s vars content xs at w all r is found0 done =
    same_gives (typed_set s vars content w) (Ok (ts.List all)) r
    ((ap (λ z. typed_set s vars content z) is ∙ form.List_is s vars content xs at)
    ∙ goes_on (typed_items s vars content xs) (λ all. Ok (ts.List all)) all found0) done

pub SetFind_fault0 : (s : Schema) (vars : List Var) (content : Content) (model : Named) (fs : List Filter) (at : ℕ) (w : SetExpr) (err : TypeErr) → w ≡ se.Find at model fs → (err ≢ OutOfMemory → typed_source s vars (se.Find at model fs) ≡ Err err)
    → err ≢ OutOfMemory → typed_set s vars content w ≡ Err err
SetFind_fault0 s vars content model fs at w err is fault ne =
    (ap (λ z. typed_set s vars content z) is ∙ form.Find_is s vars content model fs at)
    ∙ stops (typed_source s vars (se.Find at model fs)) (λ of. may_hold s content of.model of.at >>= (λ held. Ok (of.set))) err (fault ne)

pub SetFind_last : (s : Schema) (vars : List Var) (content : Content) (model : Named) (fs : List Filter) (at : ℕ) (w : SetExpr) (of : Source) (r : Checked TSet) → w ≡ se.Find at model fs → typed_source s vars (se.Find at model fs) ≡ Ok of → Gives (may_hold s content of.model of.at >>= (λ held. Ok (of.set))) r
    → Gives (typed_set s vars content w) r
SetFind_last s vars content model fs at w of r is found0 done =
    same_gives (typed_set s vars content w) (may_hold s content of.model of.at >>= (λ held. Ok (of.set))) r
    ((ap (λ z. typed_set s vars content z) is ∙ form.Find_is s vars content model fs at)
    ∙ goes_on (typed_source s vars (se.Find at model fs)) (λ of. may_hold s content of.model of.at >>= (λ held. Ok (of.set))) of found0) done

pub SetPath_fault0 : (s : Schema) (vars : List Var) (content : Content) (x : Expr) (at : ℕ) (w : SetExpr) (err : TypeErr) → w ≡ se.Path at x → (err ≢ OutOfMemory → typed_source s vars (se.Path at x) ≡ Err err)
    → err ≢ OutOfMemory → typed_set s vars content w ≡ Err err
SetPath_fault0 s vars content x at w err is fault ne =
    (ap (λ z. typed_set s vars content z) is ∙ form.Path_is s vars content x at)
    ∙ stops (typed_source s vars (se.Path at x)) (λ of. may_hold s content of.model of.at >>= (λ held. Ok (of.set))) err (fault ne)

pub SetPath_last : (s : Schema) (vars : List Var) (content : Content) (x : Expr) (at : ℕ) (w : SetExpr) (of : Source) (r : Checked TSet) → w ≡ se.Path at x → typed_source s vars (se.Path at x) ≡ Ok of → Gives (may_hold s content of.model of.at >>= (λ held. Ok (of.set))) r
    → Gives (typed_set s vars content w) r
SetPath_last s vars content x at w of r is found0 done =
    same_gives (typed_set s vars content w) (may_hold s content of.model of.at >>= (λ held. Ok (of.set))) r
    ((ap (λ z. typed_set s vars content z) is ∙ form.Path_is s vars content x at)
    ∙ goes_on (typed_source s vars (se.Path at x)) (λ of. may_hold s content of.model of.at >>= (λ held. Ok (of.set))) of found0) done

pub SetMapS_fault0 : (s : Schema) (vars : List Var) (content : Content) (x : SetExpr) (v : Named) (y : Expr) (at : ℕ) (w : SetExpr) (err : TypeErr) → w ≡ se.MapS at x v y → (err ≢ OutOfMemory → typed_source s vars (se.MapS at x v y) ≡ Err err)
    → err ≢ OutOfMemory → typed_set s vars content w ≡ Err err
SetMapS_fault0 s vars content x v y at w err is fault ne =
    (ap (λ z. typed_set s vars content z) is ∙ form.MapS_is s vars content x v y at)
    ∙ stops (typed_source s vars (se.MapS at x v y)) (λ of. may_hold s content of.model of.at >>= (λ held. Ok (of.set))) err (fault ne)

pub SetMapS_last : (s : Schema) (vars : List Var) (content : Content) (x : SetExpr) (v : Named) (y : Expr) (at : ℕ) (w : SetExpr) (of : Source) (r : Checked TSet) → w ≡ se.MapS at x v y → typed_source s vars (se.MapS at x v y) ≡ Ok of → Gives (may_hold s content of.model of.at >>= (λ held. Ok (of.set))) r
    → Gives (typed_set s vars content w) r
SetMapS_last s vars content x v y at w of r is found0 done =
    same_gives (typed_set s vars content w) (may_hold s content of.model of.at >>= (λ held. Ok (of.set))) r
    ((ap (λ z. typed_set s vars content z) is ∙ form.MapS_is s vars content x v y at)
    ∙ goes_on (typed_source s vars (se.MapS at x v y)) (λ of. may_hold s content of.model of.at >>= (λ held. Ok (of.set))) of found0) done

pub SetFlatS_fault0 : (s : Schema) (vars : List Var) (content : Content) (x : SetExpr) (v : Named) (y : SetExpr) (at : ℕ) (w : SetExpr) (err : TypeErr) → w ≡ se.FlatS at x v y → (err ≢ OutOfMemory → typed_source s vars x ≡ Err err)
    → err ≢ OutOfMemory → typed_set s vars content w ≡ Err err
SetFlatS_fault0 s vars content x v y at w err is fault ne =
    (ap (λ z. typed_set s vars content z) is ∙ form.FlatS_is s vars content x v y at)
    ∙ stops (typed_source s vars x) (λ over. (under vars v (Plain (base.Id over.model)) >>= (λ inner. (typed_set s inner content y >>= (λ each. Ok (ts.FlatS over.set over.model v.name each)))))) err (fault ne)

pub SetFlatS_fault1 : (s : Schema) (vars : List Var) (content : Content) (x : SetExpr) (v : Named) (y : SetExpr) (at : ℕ) (w : SetExpr) (over : Source) (err : TypeErr) → w ≡ se.FlatS at x v y → typed_source s vars x ≡ Ok over → (err ≢ OutOfMemory → under vars v (Plain (base.Id over.model)) ≡ Err err)
    → err ≢ OutOfMemory → typed_set s vars content w ≡ Err err
SetFlatS_fault1 s vars content x v y at w over err is found0 fault ne =
    (ap (λ z. typed_set s vars content z) is ∙ form.FlatS_is s vars content x v y at)
    ∙ goes_on (typed_source s vars x) (λ over. (under vars v (Plain (base.Id over.model)) >>= (λ inner. (typed_set s inner content y >>= (λ each. Ok (ts.FlatS over.set over.model v.name each)))))) over found0
    ∙ stops (under vars v (Plain (base.Id over.model))) (λ inner. (typed_set s inner content y >>= (λ each. Ok (ts.FlatS over.set over.model v.name each)))) err (fault ne)

pub SetFlatS_fault2 : (s : Schema) (vars : List Var) (content : Content) (x : SetExpr) (v : Named) (y : SetExpr) (at : ℕ) (w : SetExpr) (over : Source) (inner : List Var) (err : TypeErr) → w ≡ se.FlatS at x v y → typed_source s vars x ≡ Ok over → under vars v (Plain (base.Id over.model)) ≡ Ok inner → (err ≢ OutOfMemory → typed_set s inner content y ≡ Err err)
    → err ≢ OutOfMemory → typed_set s vars content w ≡ Err err
SetFlatS_fault2 s vars content x v y at w over inner err is found0 found1 fault ne =
    (ap (λ z. typed_set s vars content z) is ∙ form.FlatS_is s vars content x v y at)
    ∙ goes_on (typed_source s vars x) (λ over. (under vars v (Plain (base.Id over.model)) >>= (λ inner. (typed_set s inner content y >>= (λ each. Ok (ts.FlatS over.set over.model v.name each)))))) over found0
    ∙ goes_on (under vars v (Plain (base.Id over.model))) (λ inner. (typed_set s inner content y >>= (λ each. Ok (ts.FlatS over.set over.model v.name each)))) inner found1
    ∙ stops (typed_set s inner content y) (λ each. Ok (ts.FlatS over.set over.model v.name each)) err (fault ne)

pub SetFlatS_last : (s : Schema) (vars : List Var) (content : Content) (x : SetExpr) (v : Named) (y : SetExpr) (at : ℕ) (w : SetExpr) (over : Source) (inner : List Var) (each : TSet) (r : Checked TSet) → w ≡ se.FlatS at x v y → typed_source s vars x ≡ Ok over → under vars v (Plain (base.Id over.model)) ≡ Ok inner → typed_set s inner content y ≡ Ok each → Gives (Ok (ts.FlatS over.set over.model v.name each)) r
    → Gives (typed_set s vars content w) r
SetFlatS_last s vars content x v y at w over inner each r is found0 found1 found2 done =
    same_gives (typed_set s vars content w) (Ok (ts.FlatS over.set over.model v.name each)) r
    ((ap (λ z. typed_set s vars content z) is ∙ form.FlatS_is s vars content x v y at)
    ∙ goes_on (typed_source s vars x) (λ over. (under vars v (Plain (base.Id over.model)) >>= (λ inner. (typed_set s inner content y >>= (λ each. Ok (ts.FlatS over.set over.model v.name each)))))) over found0
    ∙ goes_on (under vars v (Plain (base.Id over.model))) (λ inner. (typed_set s inner content y >>= (λ each. Ok (ts.FlatS over.set over.model v.name each)))) inner found1
    ∙ goes_on (typed_set s inner content y) (λ each. Ok (ts.FlatS over.set over.model v.name each)) each found2) done

pub SetIfS_fault0 : (s : Schema) (vars : List Var) (content : Content) (c : Expr) (x y : SetExpr) (at : ℕ) (w : SetExpr) (err : TypeErr) → w ≡ se.IfS at c x y → (err ≢ OutOfMemory → typed_expr s vars bool c ≡ Err err)
    → err ≢ OutOfMemory → typed_set s vars content w ≡ Err err
SetIfS_fault0 s vars content c x y at w err is fault ne =
    (ap (λ z. typed_set s vars content z) is ∙ form.IfS_is s vars content c x y at)
    ∙ stops (typed_expr s vars bool c) (λ test. (typed_set s vars content x >>= (λ one. (typed_set s vars content y >>= (λ other. Ok (ts.IfS test.tree one other)))))) err (fault ne)

pub SetIfS_fault1 : (s : Schema) (vars : List Var) (content : Content) (c : Expr) (x y : SetExpr) (at : ℕ) (w : SetExpr) (test : Typed) (err : TypeErr) → w ≡ se.IfS at c x y → typed_expr s vars bool c ≡ Ok test → (err ≢ OutOfMemory → typed_set s vars content x ≡ Err err)
    → err ≢ OutOfMemory → typed_set s vars content w ≡ Err err
SetIfS_fault1 s vars content c x y at w test err is found0 fault ne =
    (ap (λ z. typed_set s vars content z) is ∙ form.IfS_is s vars content c x y at)
    ∙ goes_on (typed_expr s vars bool c) (λ test. (typed_set s vars content x >>= (λ one. (typed_set s vars content y >>= (λ other. Ok (ts.IfS test.tree one other)))))) test found0
    ∙ stops (typed_set s vars content x) (λ one. (typed_set s vars content y >>= (λ other. Ok (ts.IfS test.tree one other)))) err (fault ne)

pub SetIfS_fault2 : (s : Schema) (vars : List Var) (content : Content) (c : Expr) (x y : SetExpr) (at : ℕ) (w : SetExpr) (test : Typed) (one : TSet) (err : TypeErr) → w ≡ se.IfS at c x y → typed_expr s vars bool c ≡ Ok test → typed_set s vars content x ≡ Ok one → (err ≢ OutOfMemory → typed_set s vars content y ≡ Err err)
    → err ≢ OutOfMemory → typed_set s vars content w ≡ Err err
SetIfS_fault2 s vars content c x y at w test one err is found0 found1 fault ne =
    (ap (λ z. typed_set s vars content z) is ∙ form.IfS_is s vars content c x y at)
    ∙ goes_on (typed_expr s vars bool c) (λ test. (typed_set s vars content x >>= (λ one. (typed_set s vars content y >>= (λ other. Ok (ts.IfS test.tree one other)))))) test found0
    ∙ goes_on (typed_set s vars content x) (λ one. (typed_set s vars content y >>= (λ other. Ok (ts.IfS test.tree one other)))) one found1
    ∙ stops (typed_set s vars content y) (λ other. Ok (ts.IfS test.tree one other)) err (fault ne)

pub SetIfS_last : (s : Schema) (vars : List Var) (content : Content) (c : Expr) (x y : SetExpr) (at : ℕ) (w : SetExpr) (test : Typed) (one : TSet) (other : TSet) (r : Checked TSet) → w ≡ se.IfS at c x y → typed_expr s vars bool c ≡ Ok test → typed_set s vars content x ≡ Ok one → typed_set s vars content y ≡ Ok other → Gives (Ok (ts.IfS test.tree one other)) r
    → Gives (typed_set s vars content w) r
SetIfS_last s vars content c x y at w test one other r is found0 found1 found2 done =
    same_gives (typed_set s vars content w) (Ok (ts.IfS test.tree one other)) r
    ((ap (λ z. typed_set s vars content z) is ∙ form.IfS_is s vars content c x y at)
    ∙ goes_on (typed_expr s vars bool c) (λ test. (typed_set s vars content x >>= (λ one. (typed_set s vars content y >>= (λ other. Ok (ts.IfS test.tree one other)))))) test found0
    ∙ goes_on (typed_set s vars content x) (λ one. (typed_set s vars content y >>= (λ other. Ok (ts.IfS test.tree one other)))) one found1
    ∙ goes_on (typed_set s vars content y) (λ other. Ok (ts.IfS test.tree one other)) other found2) done

pub SetMatchS_fault0 : (s : Schema) (vars : List Var) (content : Content) (x : Expr) (y : SetExpr) (v : Named) (z : SetExpr) (at : ℕ) (w : SetExpr) (err : TypeErr) → w ≡ se.MatchS at x y v z → (err ≢ OutOfMemory → typed_expr s vars None x ≡ Err err)
    → err ≢ OutOfMemory → typed_set s vars content w ≡ Err err
SetMatchS_fault0 s vars content x y v z at w err is fault ne =
    (ap (λ z. typed_set s vars content z) is ∙ form.MatchS_is s vars content x y v z at)
    ∙ stops (typed_expr s vars None x) (λ of. (option_of of.ty of.at >>= (λ inside. (typed_set s vars content y >>= (λ none. (under vars v (Plain inside) >>= (λ inner. (typed_set s inner content z >>= (λ some. Ok (ts.MatchS of.tree none v.name some)))))))))) err (fault ne)

pub SetMatchS_fault1 : (s : Schema) (vars : List Var) (content : Content) (x : Expr) (y : SetExpr) (v : Named) (z : SetExpr) (at : ℕ) (w : SetExpr) (of : Typed) (err : TypeErr) → w ≡ se.MatchS at x y v z → typed_expr s vars None x ≡ Ok of → (err ≢ OutOfMemory → option_of of.ty of.at ≡ Err err)
    → err ≢ OutOfMemory → typed_set s vars content w ≡ Err err
SetMatchS_fault1 s vars content x y v z at w of err is found0 fault ne =
    (ap (λ z. typed_set s vars content z) is ∙ form.MatchS_is s vars content x y v z at)
    ∙ goes_on (typed_expr s vars None x) (λ of. (option_of of.ty of.at >>= (λ inside. (typed_set s vars content y >>= (λ none. (under vars v (Plain inside) >>= (λ inner. (typed_set s inner content z >>= (λ some. Ok (ts.MatchS of.tree none v.name some)))))))))) of found0
    ∙ stops (option_of of.ty of.at) (λ inside. (typed_set s vars content y >>= (λ none. (under vars v (Plain inside) >>= (λ inner. (typed_set s inner content z >>= (λ some. Ok (ts.MatchS of.tree none v.name some)))))))) err (fault ne)

pub SetMatchS_fault2 : (s : Schema) (vars : List Var) (content : Content) (x : Expr) (y : SetExpr) (v : Named) (z : SetExpr) (at : ℕ) (w : SetExpr) (of : Typed) (inside : TBase) (err : TypeErr) → w ≡ se.MatchS at x y v z → typed_expr s vars None x ≡ Ok of → option_of of.ty of.at ≡ Ok inside → (err ≢ OutOfMemory → typed_set s vars content y ≡ Err err)
    → err ≢ OutOfMemory → typed_set s vars content w ≡ Err err
SetMatchS_fault2 s vars content x y v z at w of inside err is found0 found1 fault ne =
    (ap (λ z. typed_set s vars content z) is ∙ form.MatchS_is s vars content x y v z at)
    ∙ goes_on (typed_expr s vars None x) (λ of. (option_of of.ty of.at >>= (λ inside. (typed_set s vars content y >>= (λ none. (under vars v (Plain inside) >>= (λ inner. (typed_set s inner content z >>= (λ some. Ok (ts.MatchS of.tree none v.name some)))))))))) of found0
    ∙ goes_on (option_of of.ty of.at) (λ inside. (typed_set s vars content y >>= (λ none. (under vars v (Plain inside) >>= (λ inner. (typed_set s inner content z >>= (λ some. Ok (ts.MatchS of.tree none v.name some)))))))) inside found1
    ∙ stops (typed_set s vars content y) (λ none. (under vars v (Plain inside) >>= (λ inner. (typed_set s inner content z >>= (λ some. Ok (ts.MatchS of.tree none v.name some)))))) err (fault ne)

pub SetMatchS_fault3 : (s : Schema) (vars : List Var) (content : Content) (x : Expr) (y : SetExpr) (v : Named) (z : SetExpr) (at : ℕ) (w : SetExpr) (of : Typed) (inside : TBase) (none : TSet) (err : TypeErr) → w ≡ se.MatchS at x y v z → typed_expr s vars None x ≡ Ok of → option_of of.ty of.at ≡ Ok inside → typed_set s vars content y ≡ Ok none → (err ≢ OutOfMemory → under vars v (Plain inside) ≡ Err err)
    → err ≢ OutOfMemory → typed_set s vars content w ≡ Err err
SetMatchS_fault3 s vars content x y v z at w of inside none err is found0 found1 found2 fault ne =
    (ap (λ z. typed_set s vars content z) is ∙ form.MatchS_is s vars content x y v z at)
    ∙ goes_on (typed_expr s vars None x) (λ of. (option_of of.ty of.at >>= (λ inside. (typed_set s vars content y >>= (λ none. (under vars v (Plain inside) >>= (λ inner. (typed_set s inner content z >>= (λ some. Ok (ts.MatchS of.tree none v.name some)))))))))) of found0
    ∙ goes_on (option_of of.ty of.at) (λ inside. (typed_set s vars content y >>= (λ none. (under vars v (Plain inside) >>= (λ inner. (typed_set s inner content z >>= (λ some. Ok (ts.MatchS of.tree none v.name some)))))))) inside found1
    ∙ goes_on (typed_set s vars content y) (λ none. (under vars v (Plain inside) >>= (λ inner. (typed_set s inner content z >>= (λ some. Ok (ts.MatchS of.tree none v.name some)))))) none found2
    ∙ stops (under vars v (Plain inside)) (λ inner. (typed_set s inner content z >>= (λ some. Ok (ts.MatchS of.tree none v.name some)))) err (fault ne)

pub SetMatchS_fault4 : (s : Schema) (vars : List Var) (content : Content) (x : Expr) (y : SetExpr) (v : Named) (z : SetExpr) (at : ℕ) (w : SetExpr) (of : Typed) (inside : TBase) (none : TSet) (inner : List Var) (err : TypeErr) → w ≡ se.MatchS at x y v z → typed_expr s vars None x ≡ Ok of → option_of of.ty of.at ≡ Ok inside → typed_set s vars content y ≡ Ok none → under vars v (Plain inside) ≡ Ok inner → (err ≢ OutOfMemory → typed_set s inner content z ≡ Err err)
    → err ≢ OutOfMemory → typed_set s vars content w ≡ Err err
SetMatchS_fault4 s vars content x y v z at w of inside none inner err is found0 found1 found2 found3 fault ne =
    (ap (λ z. typed_set s vars content z) is ∙ form.MatchS_is s vars content x y v z at)
    ∙ goes_on (typed_expr s vars None x) (λ of. (option_of of.ty of.at >>= (λ inside. (typed_set s vars content y >>= (λ none. (under vars v (Plain inside) >>= (λ inner. (typed_set s inner content z >>= (λ some. Ok (ts.MatchS of.tree none v.name some)))))))))) of found0
    ∙ goes_on (option_of of.ty of.at) (λ inside. (typed_set s vars content y >>= (λ none. (under vars v (Plain inside) >>= (λ inner. (typed_set s inner content z >>= (λ some. Ok (ts.MatchS of.tree none v.name some)))))))) inside found1
    ∙ goes_on (typed_set s vars content y) (λ none. (under vars v (Plain inside) >>= (λ inner. (typed_set s inner content z >>= (λ some. Ok (ts.MatchS of.tree none v.name some)))))) none found2
    ∙ goes_on (under vars v (Plain inside)) (λ inner. (typed_set s inner content z >>= (λ some. Ok (ts.MatchS of.tree none v.name some)))) inner found3
    ∙ stops (typed_set s inner content z) (λ some. Ok (ts.MatchS of.tree none v.name some)) err (fault ne)

pub SetMatchS_last : (s : Schema) (vars : List Var) (content : Content) (x : Expr) (y : SetExpr) (v : Named) (z : SetExpr) (at : ℕ) (w : SetExpr) (of : Typed) (inside : TBase) (none : TSet) (inner : List Var) (some : TSet) (r : Checked TSet) → w ≡ se.MatchS at x y v z → typed_expr s vars None x ≡ Ok of → option_of of.ty of.at ≡ Ok inside → typed_set s vars content y ≡ Ok none → under vars v (Plain inside) ≡ Ok inner → typed_set s inner content z ≡ Ok some → Gives (Ok (ts.MatchS of.tree none v.name some)) r
    → Gives (typed_set s vars content w) r
SetMatchS_last s vars content x y v z at w of inside none inner some r is found0 found1 found2 found3 found4 done =
    same_gives (typed_set s vars content w) (Ok (ts.MatchS of.tree none v.name some)) r
    ((ap (λ z. typed_set s vars content z) is ∙ form.MatchS_is s vars content x y v z at)
    ∙ goes_on (typed_expr s vars None x) (λ of. (option_of of.ty of.at >>= (λ inside. (typed_set s vars content y >>= (λ none. (under vars v (Plain inside) >>= (λ inner. (typed_set s inner content z >>= (λ some. Ok (ts.MatchS of.tree none v.name some)))))))))) of found0
    ∙ goes_on (option_of of.ty of.at) (λ inside. (typed_set s vars content y >>= (λ none. (under vars v (Plain inside) >>= (λ inner. (typed_set s inner content z >>= (λ some. Ok (ts.MatchS of.tree none v.name some)))))))) inside found1
    ∙ goes_on (typed_set s vars content y) (λ none. (under vars v (Plain inside) >>= (λ inner. (typed_set s inner content z >>= (λ some. Ok (ts.MatchS of.tree none v.name some)))))) none found2
    ∙ goes_on (under vars v (Plain inside)) (λ inner. (typed_set s inner content z >>= (λ some. Ok (ts.MatchS of.tree none v.name some)))) inner found3
    ∙ goes_on (typed_set s inner content z) (λ some. Ok (ts.MatchS of.tree none v.name some)) some found4) done

pub SourceFind_fault0 : (s : Schema) (vars : List Var) (model : Named) (fs : List Filter) (at : ℕ) (w : SetExpr) (err : TypeErr) → w ≡ se.Find at model fs → (err ≢ OutOfMemory → or_else (model_named s model.name) (Unknown model.at) ≡ Err err)
    → err ≢ OutOfMemory → typed_source s vars w ≡ Err err
SourceFind_fault0 s vars model fs at w err is fault ne =
    (ap (λ z. typed_source s vars z) is ∙ form.Find_source s vars model fs at)
    ∙ stops (or_else (model_named s model.name) (Unknown model.at)) (λ m. (typed_filters s vars m fs >>= (λ tests. Ok (source model.at m (ts.Find m tests))))) err (fault ne)

pub SourceFind_fault1 : (s : Schema) (vars : List Var) (model : Named) (fs : List Filter) (at : ℕ) (w : SetExpr) (m : ℕ) (err : TypeErr) → w ≡ se.Find at model fs → or_else (model_named s model.name) (Unknown model.at) ≡ Ok m → (err ≢ OutOfMemory → typed_filters s vars m fs ≡ Err err)
    → err ≢ OutOfMemory → typed_source s vars w ≡ Err err
SourceFind_fault1 s vars model fs at w m err is found0 fault ne =
    (ap (λ z. typed_source s vars z) is ∙ form.Find_source s vars model fs at)
    ∙ goes_on (or_else (model_named s model.name) (Unknown model.at)) (λ m. (typed_filters s vars m fs >>= (λ tests. Ok (source model.at m (ts.Find m tests))))) m found0
    ∙ stops (typed_filters s vars m fs) (λ tests. Ok (source model.at m (ts.Find m tests))) err (fault ne)

pub SourceFind_last : (s : Schema) (vars : List Var) (model : Named) (fs : List Filter) (at : ℕ) (w : SetExpr) (m : ℕ) (tests : List TFilter) (r : Checked Source) → w ≡ se.Find at model fs → or_else (model_named s model.name) (Unknown model.at) ≡ Ok m → typed_filters s vars m fs ≡ Ok tests → Gives (Ok (source model.at m (ts.Find m tests))) r
    → Gives (typed_source s vars w) r
SourceFind_last s vars model fs at w m tests r is found0 found1 done =
    same_gives (typed_source s vars w) (Ok (source model.at m (ts.Find m tests))) r
    ((ap (λ z. typed_source s vars z) is ∙ form.Find_source s vars model fs at)
    ∙ goes_on (or_else (model_named s model.name) (Unknown model.at)) (λ m. (typed_filters s vars m fs >>= (λ tests. Ok (source model.at m (ts.Find m tests))))) m found0
    ∙ goes_on (typed_filters s vars m fs) (λ tests. Ok (source model.at m (ts.Find m tests))) tests found1) done

pub SourcePath_fault0 : (s : Schema) (vars : List Var) (x : Expr) (at : ℕ) (w : SetExpr) (err : TypeErr) → w ≡ se.Path at x → (err ≢ OutOfMemory → typed_expr s vars None x ≡ Err err)
    → err ≢ OutOfMemory → typed_source s vars w ≡ Err err
SourcePath_fault0 s vars x at w err is fault ne =
    (ap (λ z. typed_source s vars z) is ∙ form.Path_source s vars x at)
    ∙ stops (typed_expr s vars None x) (λ of. set_of_ids of.ty of.at >>= (λ m. Ok (source of.at m (ts.Path m of.tree)))) err (fault ne)

pub SourcePath_last : (s : Schema) (vars : List Var) (x : Expr) (at : ℕ) (w : SetExpr) (of : Typed) (r : Checked Source) → w ≡ se.Path at x → typed_expr s vars None x ≡ Ok of → Gives (set_of_ids of.ty of.at >>= (λ m. Ok (source of.at m (ts.Path m of.tree)))) r
    → Gives (typed_source s vars w) r
SourcePath_last s vars x at w of r is found0 done =
    same_gives (typed_source s vars w) (set_of_ids of.ty of.at >>= (λ m. Ok (source of.at m (ts.Path m of.tree)))) r
    ((ap (λ z. typed_source s vars z) is ∙ form.Path_source s vars x at)
    ∙ goes_on (typed_expr s vars None x) (λ of. set_of_ids of.ty of.at >>= (λ m. Ok (source of.at m (ts.Path m of.tree)))) of found0) done

pub SourceMapS_fault0 : (s : Schema) (vars : List Var) (x : SetExpr) (v : Named) (y : Expr) (at : ℕ) (w : SetExpr) (err : TypeErr) → w ≡ se.MapS at x v y → (err ≢ OutOfMemory → typed_source s vars x ≡ Err err)
    → err ≢ OutOfMemory → typed_source s vars w ≡ Err err
SourceMapS_fault0 s vars x v y at w err is fault ne =
    (ap (λ z. typed_source s vars z) is ∙ form.MapS_source s vars x v y at)
    ∙ stops (typed_source s vars x) (λ over. (under vars v (Plain (base.Id over.model)) >>= (λ inner. (typed_expr s inner None y >>= (λ each. id_of each.ty each.at >>= (λ m. Ok (source over.at m (ts.MapS over.set over.model v.name m each.tree)))))))) err (fault ne)

pub SourceMapS_fault1 : (s : Schema) (vars : List Var) (x : SetExpr) (v : Named) (y : Expr) (at : ℕ) (w : SetExpr) (over : Source) (err : TypeErr) → w ≡ se.MapS at x v y → typed_source s vars x ≡ Ok over → (err ≢ OutOfMemory → under vars v (Plain (base.Id over.model)) ≡ Err err)
    → err ≢ OutOfMemory → typed_source s vars w ≡ Err err
SourceMapS_fault1 s vars x v y at w over err is found0 fault ne =
    (ap (λ z. typed_source s vars z) is ∙ form.MapS_source s vars x v y at)
    ∙ goes_on (typed_source s vars x) (λ over. (under vars v (Plain (base.Id over.model)) >>= (λ inner. (typed_expr s inner None y >>= (λ each. id_of each.ty each.at >>= (λ m. Ok (source over.at m (ts.MapS over.set over.model v.name m each.tree)))))))) over found0
    ∙ stops (under vars v (Plain (base.Id over.model))) (λ inner. (typed_expr s inner None y >>= (λ each. id_of each.ty each.at >>= (λ m. Ok (source over.at m (ts.MapS over.set over.model v.name m each.tree)))))) err (fault ne)

pub SourceMapS_fault2 : (s : Schema) (vars : List Var) (x : SetExpr) (v : Named) (y : Expr) (at : ℕ) (w : SetExpr) (over : Source) (inner : List Var) (err : TypeErr) → w ≡ se.MapS at x v y → typed_source s vars x ≡ Ok over → under vars v (Plain (base.Id over.model)) ≡ Ok inner → (err ≢ OutOfMemory → typed_expr s inner None y ≡ Err err)
    → err ≢ OutOfMemory → typed_source s vars w ≡ Err err
SourceMapS_fault2 s vars x v y at w over inner err is found0 found1 fault ne =
    (ap (λ z. typed_source s vars z) is ∙ form.MapS_source s vars x v y at)
    ∙ goes_on (typed_source s vars x) (λ over. (under vars v (Plain (base.Id over.model)) >>= (λ inner. (typed_expr s inner None y >>= (λ each. id_of each.ty each.at >>= (λ m. Ok (source over.at m (ts.MapS over.set over.model v.name m each.tree)))))))) over found0
    ∙ goes_on (under vars v (Plain (base.Id over.model))) (λ inner. (typed_expr s inner None y >>= (λ each. id_of each.ty each.at >>= (λ m. Ok (source over.at m (ts.MapS over.set over.model v.name m each.tree)))))) inner found1
    ∙ stops (typed_expr s inner None y) (λ each. id_of each.ty each.at >>= (λ m. Ok (source over.at m (ts.MapS over.set over.model v.name m each.tree)))) err (fault ne)

pub SourceMapS_last : (s : Schema) (vars : List Var) (x : SetExpr) (v : Named) (y : Expr) (at : ℕ) (w : SetExpr) (over : Source) (inner : List Var) (each : Typed) (r : Checked Source) → w ≡ se.MapS at x v y → typed_source s vars x ≡ Ok over → under vars v (Plain (base.Id over.model)) ≡ Ok inner → typed_expr s inner None y ≡ Ok each → Gives (id_of each.ty each.at >>= (λ m. Ok (source over.at m (ts.MapS over.set over.model v.name m each.tree)))) r
    → Gives (typed_source s vars w) r
SourceMapS_last s vars x v y at w over inner each r is found0 found1 found2 done =
    same_gives (typed_source s vars w) (id_of each.ty each.at >>= (λ m. Ok (source over.at m (ts.MapS over.set over.model v.name m each.tree)))) r
    ((ap (λ z. typed_source s vars z) is ∙ form.MapS_source s vars x v y at)
    ∙ goes_on (typed_source s vars x) (λ over. (under vars v (Plain (base.Id over.model)) >>= (λ inner. (typed_expr s inner None y >>= (λ each. id_of each.ty each.at >>= (λ m. Ok (source over.at m (ts.MapS over.set over.model v.name m each.tree)))))))) over found0
    ∙ goes_on (under vars v (Plain (base.Id over.model))) (λ inner. (typed_expr s inner None y >>= (λ each. id_of each.ty each.at >>= (λ m. Ok (source over.at m (ts.MapS over.set over.model v.name m each.tree)))))) inner found1
    ∙ goes_on (typed_expr s inner None y) (λ each. id_of each.ty each.at >>= (λ m. Ok (source over.at m (ts.MapS over.set over.model v.name m each.tree)))) each found2) done

pub ItemStatic_last : (s : Schema) (vars : List Var) (content : Content) (x : Named) (w : Item) (r : Checked TItem) → w ≡ i.Static x → Gives (among_principals content x.at >>= (λ only. (or_else (static_named s x.name) (Unknown x.at) >>= (λ n. Ok (ti.Static n))))) r
    → Gives (typed_item s vars content w) r
ItemStatic_last s vars content x w r is done =
    same_gives (typed_item s vars content w) (among_principals content x.at >>= (λ only. (or_else (static_named s x.name) (Unknown x.at) >>= (λ n. Ok (ti.Static n))))) r
    ((ap (λ z. typed_item s vars content z) is ∙ form.Static_is s vars content x)) done

pub ItemOne_fault0 : (s : Schema) (vars : List Var) (content : Content) (x : Expr) (w : Item) (err : TypeErr) → w ≡ i.One x → (err ≢ OutOfMemory → typed_expr s vars (id_asked content) x ≡ Err err)
    → err ≢ OutOfMemory → typed_item s vars content w ≡ Err err
ItemOne_fault0 s vars content x w err is fault ne =
    (ap (λ z. typed_item s vars content z) is ∙ form.One_is s vars content x)
    ∙ stops (typed_expr s vars (id_asked content) x) (λ of. id_of of.ty of.at >>= (λ m. (may_hold s content m of.at >>= (λ held. Ok (ti.One m of.tree))))) err (fault ne)

pub ItemOne_last : (s : Schema) (vars : List Var) (content : Content) (x : Expr) (w : Item) (of : Typed) (r : Checked TItem) → w ≡ i.One x → typed_expr s vars (id_asked content) x ≡ Ok of → Gives (id_of of.ty of.at >>= (λ m. (may_hold s content m of.at >>= (λ held. Ok (ti.One m of.tree))))) r
    → Gives (typed_item s vars content w) r
ItemOne_last s vars content x w of r is found0 done =
    same_gives (typed_item s vars content w) (id_of of.ty of.at >>= (λ m. (may_hold s content m of.at >>= (λ held. Ok (ti.One m of.tree))))) r
    ((ap (λ z. typed_item s vars content z) is ∙ form.One_is s vars content x)
    ∙ goes_on (typed_expr s vars (id_asked content) x) (λ of. id_of of.ty of.at >>= (λ m. (may_hold s content m of.at >>= (λ held. Ok (ti.One m of.tree))))) of found0) done

pub Filter_fault0 : (s : Schema) (vars : List Var) (m : ℕ) (f : Filter) (err : TypeErr) → (err ≢ OutOfMemory → or_else (field_named s m f.field.name) (Unknown f.field.at) ≡ Err err)
    → err ≢ OutOfMemory → typed_filter s vars m f ≡ Err err
Filter_fault0 s vars m f err fault ne =
    (form.Filter_is s vars m f)
    ∙ stops (or_else (field_named s m f.field.name) (Unknown f.field.at)) (λ field. (tested f.op field.1 f.field.at >>= (λ asked. (typed_expr s vars (Some asked) f.value >>= (λ value. Ok (tf.Test field.0 f.op value.tree)))))) err (fault ne)

pub Filter_fault1 : (s : Schema) (vars : List Var) (m : ℕ) (f : Filter) (field : ℕ × TTy) (err : TypeErr) → or_else (field_named s m f.field.name) (Unknown f.field.at) ≡ Ok field → (err ≢ OutOfMemory → tested f.op field.1 f.field.at ≡ Err err)
    → err ≢ OutOfMemory → typed_filter s vars m f ≡ Err err
Filter_fault1 s vars m f field err found0 fault ne =
    (form.Filter_is s vars m f)
    ∙ goes_on (or_else (field_named s m f.field.name) (Unknown f.field.at)) (λ field. (tested f.op field.1 f.field.at >>= (λ asked. (typed_expr s vars (Some asked) f.value >>= (λ value. Ok (tf.Test field.0 f.op value.tree)))))) field found0
    ∙ stops (tested f.op field.1 f.field.at) (λ asked. (typed_expr s vars (Some asked) f.value >>= (λ value. Ok (tf.Test field.0 f.op value.tree)))) err (fault ne)

pub Filter_fault2 : (s : Schema) (vars : List Var) (m : ℕ) (f : Filter) (field : ℕ × TTy) (asked : TTy) (err : TypeErr) → or_else (field_named s m f.field.name) (Unknown f.field.at) ≡ Ok field → tested f.op field.1 f.field.at ≡ Ok asked → (err ≢ OutOfMemory → typed_expr s vars (Some asked) f.value ≡ Err err)
    → err ≢ OutOfMemory → typed_filter s vars m f ≡ Err err
Filter_fault2 s vars m f field asked err found0 found1 fault ne =
    (form.Filter_is s vars m f)
    ∙ goes_on (or_else (field_named s m f.field.name) (Unknown f.field.at)) (λ field. (tested f.op field.1 f.field.at >>= (λ asked. (typed_expr s vars (Some asked) f.value >>= (λ value. Ok (tf.Test field.0 f.op value.tree)))))) field found0
    ∙ goes_on (tested f.op field.1 f.field.at) (λ asked. (typed_expr s vars (Some asked) f.value >>= (λ value. Ok (tf.Test field.0 f.op value.tree)))) asked found1
    ∙ stops (typed_expr s vars (Some asked) f.value) (λ value. Ok (tf.Test field.0 f.op value.tree)) err (fault ne)

pub Filter_last : (s : Schema) (vars : List Var) (m : ℕ) (f : Filter) (field : ℕ × TTy) (asked : TTy) (value : Typed) (r : Checked TFilter) → or_else (field_named s m f.field.name) (Unknown f.field.at) ≡ Ok field → tested f.op field.1 f.field.at ≡ Ok asked → typed_expr s vars (Some asked) f.value ≡ Ok value → Gives (Ok (tf.Test field.0 f.op value.tree)) r
    → Gives (typed_filter s vars m f) r
Filter_last s vars m f field asked value r found0 found1 found2 done =
    same_gives (typed_filter s vars m f) (Ok (tf.Test field.0 f.op value.tree)) r
    ((form.Filter_is s vars m f)
    ∙ goes_on (or_else (field_named s m f.field.name) (Unknown f.field.at)) (λ field. (tested f.op field.1 f.field.at >>= (λ asked. (typed_expr s vars (Some asked) f.value >>= (λ value. Ok (tf.Test field.0 f.op value.tree)))))) field found0
    ∙ goes_on (tested f.op field.1 f.field.at) (λ asked. (typed_expr s vars (Some asked) f.value >>= (λ value. Ok (tf.Test field.0 f.op value.tree)))) asked found1
    ∙ goes_on (typed_expr s vars (Some asked) f.value) (λ value. Ok (tf.Test field.0 f.op value.tree)) value found2) done
