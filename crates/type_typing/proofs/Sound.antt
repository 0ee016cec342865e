-- By induction on the tree: what is typed is well typed.
use Rattle.std.proofs.Common.{◌≡◌, ℕ, ℤ, Bool, List, [], ◌∷◌, ◌++◌, map, refl, sym, ◌∙◌, ap, subst}
use Rattle.std.specs.Prelude.{Option, Some, None, Ok, Err}
use Rattle.text_tree.specs.declared.named.Named.{Named}
use Rattle.text_tree.specs.declared.exprs.CmpOp.{CmpOp}
use Rattle.text_tree.specs.declared.exprs.CmpOp.TheVariants.{Eq, Ne, Lt, Le, Gt, Ge}
use Rattle.text_tree.specs.declared.exprs.FilterOp.{FilterOp}
use Rattle.text_tree.specs.declared.exprs.FilterOp.TheVariants.{Cmp, Has}
use Rattle.text_tree.specs.declared.exprs.Expr as tree
use Rattle.text_tree.specs.declared.exprs.Expr.{map-Expr, roll-Expr}
use Rattle.text_tree.specs.declared.exprs.SetExpr as tree_set
use Rattle.text_tree.specs.declared.exprs.SetExpr.{map-SetExpr, roll-SetExpr}
use Rattle.text_tree.specs.declared.exprs.Item.{Item, map-Item, roll-Item}
use Rattle.text_tree.specs.declared.exprs.Filter.{Filter, map-Filter, roll-Filter}
use Rattle.text_tree.specs.declared.exprs.Expr.TheOpen.{Expr-F, SetExpr-F, Item-F, Filter-F}
use Rattle.text_tree.specs.declared.exprs.Expr.TheFolds.{ind-Expr, ind-SetExpr}
use Rattle.text_tree.specs.declared.exprs.Expr.TheVariants as e
use Rattle.text_tree.specs.declared.exprs.SetExpr.TheVariants as se
use Rattle.text_tree.specs.declared.exprs.Item.TheVariants as i
use Rattle.text_tree.specs.declared.policies.Policy.TheVariants as p
use Rattle.text_tree.specs.declared.policies.Init as tree_init
use Rattle.text_tree.specs.declared.policies.Init.TheVariants as pi
use Rattle.type_schema.specs.declared.types.TBase.{TBase}
use Rattle.type_schema.specs.declared.types.TBase.TheVariants as base
use Rattle.type_schema.specs.declared.types.TTy.{TTy}
use Rattle.type_schema.specs.declared.types.TTy.TheVariants.{Plain, Set, Opt}
use Rattle.type_schema.specs.declared.trees.TExpr.{TExpr}
use Rattle.type_schema.specs.declared.trees.TExpr.TheVariants as t
use Rattle.type_schema.specs.declared.trees.TSet.{TSet}
use Rattle.type_schema.specs.declared.trees.TSet.TheVariants as ts
use Rattle.type_schema.specs.declared.trees.TItem.{TItem}
use Rattle.type_schema.specs.declared.trees.TFilter.{TFilter}
use Rattle.type_schema.specs.declared.trees.TPolicy.{TPolicy}
use Rattle.type_schema.specs.declared.trees.TPolicy.TheVariants as tp
use Rattle.type_schema.specs.declared.trees.TInit.{TInit}
use Rattle.type_schema.specs.declared.trees.TInit.TheVariants as tin
use Rattle.type_schema.specs.Trees.{Expr, flag, num, str, var, just, get, within, negation, both, either, if_expr, match_expr, SetExpr, everyone, nobody, listed, union, minus, flat_mapped, if_set, match_set, Items, Filters, static_item, record_item, filter_and}
use Rattle.type_schema.specs.Schema.{Schema}
use Rattle.type_schema.specs.Typing as typing
use Rattle.type_schema.specs.Typing.{HasModel, MayHold, MayTest, IsExpr, IsSet, AreItems, AreFilters, IsPolicy, IsInit, IsType}
use Rattle.type_schema.specs.Views.{expr_of, set_of, item_of, filter_of, items_of, filters_of, policy_of, init_of}
use Rattle.type_typing.specs.declared.asked.Content.{Content}
use Rattle.type_typing.specs.declared.asked.Content.TheVariants.{Principals, Records}
use Rattle.type_typing.specs.declared.asked.Source.{Source}
use Rattle.type_typing.specs.declared.asked.Typed.{Typed}
use Rattle.type_typing.specs.declared.vars.Var.{Var}
use Rattle.type_typing.specs.declared.type_err.TypeErr.TheVariants.{Unknown, WrongType}
use Rattle.type_typing.specs.Names.{field_named, model_named, static_named, var_named}
use Rattle.type_typing.specs.Asked.{among_principals, id_asked, inner_asked, may_hold, none_of, of_type, source}
use Rattle.type_typing.specs.Compared.{compared, left_asked}
use Rattle.type_typing.specs.Exprs.{bool, typed_expr, typed_set, typed_source, typed_item, typed_filter}
use Rattle.type_typing.specs.Policies.{plain_init, record_var, set_init}
use Rattle.type_typing.specs.Outcome.{Checked}
use Rattle.type_typing.specs.WellTyped.{HasLiterals, SetHasLiterals, ItemsHaveLiterals, FiltersHaveLiterals, PolicyHasLiterals, InitHasLiterals, HaveFields, PoliciesAreTyped, InitsAreTyped, TypedIsWellTyped}
use Rattle.type_typing.proofs.Fitted.{IsOf, at_type, base_is, content_of, field_is, fitted, held_is, id_is, inner_scope, inner_typed, known, literals_of, model_is, of_this, option_is, record_field_is, scope_of, set_is, static_is, var_is}
use Rattle.type_typing.proofs.Forms as form
use Rattle.type_typing.proofs.Parts as part
use Rattle.type_typing.proofs.Parts.{ok_same}
use Rattle.type_typing.proofs.Seen as seen
use Rattle.type_typing.proofs.Shown.{AskedIs, ContentIs, ExprGood, IsSource, SourceGood, SetGood, ItemGood, FilterGood, EachOk, each_ok, SureItem, SureFilter, items_good, filters_good, compared_good, compared_literals, ordered_left, tested_is}

-- ---- each form, of its parts

module _ (s : Schema) (fields : HaveFields s) where
  inner_expr : (vars : List Var) (x : Named) (ty : TTy) (inner : List Var) (t : TTy) (a : Expr) → scope_of inner ≡ scope_of vars ++ ty ∷ [] → IsExpr s (scope_of inner) t a
      → IsExpr s (scope_of vars ++ ty ∷ []) t a
  inner_expr vars x ty inner t a is good = subst (λ z. IsExpr s z t a) is good

  inner_set : (vars : List Var) (x : Named) (ty : TTy) (inner : List Var) (w : typing.Content) (a : SetExpr) → scope_of inner ≡ scope_of vars ++ ty ∷ [] → IsSet s (scope_of inner) w a
      → IsSet s (scope_of vars ++ ty ∷ []) w a
  inner_set vars x ty inner w a is good = subst (λ z. IsSet s z w a) is good

  opt_type : (ty : TTy) (b : TBase) → IsType s ty → ty ≡ Opt b → IsType s (Plain b)
  opt_type ty b ok e = subst (λ z. IsType s z) e ok

  id_type : (ty : TTy) (m : ℕ) → IsType s ty → ty ≡ Plain (base.Id m) → HasModel s m
  id_type ty m ok e = subst (λ z. IsType s z) e ok

  set_type : (ty : TTy) (m : ℕ) → IsType s ty → ty ≡ Set m → HasModel s m
  set_type ty m ok e = subst (λ z. IsType s z) e ok

  Flag_good : (value : Bool) (at : ℕ) → ExprGood s (e.Flag at value)
  Flag_good value at vars ok asked is r h lit =
      fitted s vars asked at (Plain base.Bool) (t.Flag value) (flag value) r (seen.Flag_seen value) (sym (form.Flag_is s vars asked value at) ∙ h) refl tt

  Num_good : (value : ℤ) (at : ℕ) → ExprGood s (e.Num at value)
  Num_good value at vars ok asked is r h lit =
      let there = sym (form.Num_is s vars asked value at) ∙ h in
      fitted s vars asked at (Plain base.Int) (t.Num value) (num value) r (seen.Num_seen value) there
      (refl, literals_of asked at (Plain base.Int) (t.Num value) (num value) r (seen.Num_seen value) there lit) tt

  Str_good : (text : List ℕ) (at : ℕ) → ExprGood s (e.Str at text)
  Str_good text at vars ok asked is r h lit =
      let there = sym (form.Str_is s vars asked text at) ∙ h in
      fitted s vars asked at (Plain base.Text) (t.Str text) (str text) r (seen.Str_seen text) there
      (refl, literals_of asked at (Plain base.Text) (t.Str text) (str text) r (seen.Str_seen text) there lit) tt

  Var_good : (x : Named) (at : ℕ) → ExprGood s (e.Var at x)
  Var_good x at vars ok asked is r h lit =
      let k = part.Var_parts s vars asked x at r h in
      let there = var_is s vars x.name k.0 ok (known (var_named vars x.name) (Unknown x.at) k.0 k.1) in
      fitted s vars asked at k.0.1 (t.Var k.0.0 x.name) (var k.0.0 x.name) r (seen.Var_seen k.0.0 x.name) k.2 there.0 there.1

  none_good : (vars : List Var) (at : ℕ) (asked : Option TTy) (r : Typed) → AskedIs s asked → none_of asked at ≡ Ok r → IsOf s vars asked r
  unfolding none_of
  none_good vars at None r is h = let never : ⊥ = cc in absurd never
  none_good vars at (Some (Plain b)) r is h = let never : ⊥ = cc in absurd never
  none_good vars at (Some (Set m)) r is h = let never : ⊥ = cc in absurd never
  none_good vars at (Some (Opt b)) r is h =
      let made : IsOf s vars (Some (Opt b)) (of_type at (Opt b) t.NoneLit) = record { expr = rw seen.NoneLit_seen (b, refl); type = is; same = refl } in
      subst (λ z. IsOf s vars (Some (Opt b)) z) (ok_same (of_type at (Opt b) t.NoneLit) r h) made

  NoneLit_good : (at : ℕ) → ExprGood s (e.NoneLit at)
  NoneLit_good at vars ok asked is r h lit = none_good vars at asked r is (sym (form.NoneLit_is s vars asked at) ∙ h)

  inner_is : (asked : Option TTy) → AskedIs s asked → AskedIs s (inner_asked asked)
  unfolding inner_asked
  inner_is None is = tt
  inner_is (Some (Plain b)) is = tt
  inner_is (Some (Set m)) is = tt
  inner_is (Some (Opt b)) is = is

  SomeLit_good : (x : tree.Expr) (at : ℕ) → ExprGood s x → ExprGood s (e.SomeLit at x)
  SomeLit_good x at gx vars ok asked is r h lit =
      let k = part.SomeLit_parts s vars asked x at r h in
      let saw = seen.SomeLit_seen k.0.tree in
      let lits = literals_of asked at (Opt k.1) (t.SomeLit k.0.tree) (just (expr_of k.0.tree)) r saw k.4 lit in
      let a = gx vars ok (inner_asked asked) (inner_is asked is) k.0 k.2 lits in
      let e = base_is k.0.ty k.0.at k.1 k.3 in
      let there : IsType s (Plain k.1) = subst (λ z. IsType s z) e a.type in
      fitted s vars asked at (Opt k.1) (t.SomeLit k.0.tree) (just (expr_of k.0.tree)) r saw k.4 (k.1, refl, of_this s vars (inner_asked asked) (Plain k.1) k.0 a e) there

  Get_good : (x : tree.Expr) (f : Named) (at : ℕ) → ExprGood s x → ExprGood s (e.Get at x f)
  Get_good x f at gx vars ok asked is r h lit =
      let k = part.Get_parts s vars asked x f at r h in
      let saw = seen.Get_seen k.0.tree k.1.0 k.1.1 in
      let lits = literals_of asked at k.1.2 (t.Get k.0.tree k.1.0 k.1.1) (get (expr_of k.0.tree) k.1.0 k.1.1) r saw k.4 lit in
      let a = gx vars ok None tt k.0 k.2 lits in
      let field = record_field_is s k.0.ty k.0.at f k.1 fields k.3 in
      fitted s vars asked at k.1.2 (t.Get k.0.tree k.1.0 k.1.1) (get (expr_of k.0.tree) k.1.0 k.1.1) r saw k.4
      (field.1, of_this s vars None (Plain (base.Id k.1.0)) k.0 a field.0) field.2

  left_is : (op : CmpOp) → AskedIs s (left_asked op)
  unfolding left_asked
  left_is Eq = tt
  left_is Ne = tt
  left_is Lt = tt
  left_is Le = tt
  left_is Gt = tt
  left_is Ge = tt

  Cmp_good : (op : CmpOp) (x y : tree.Expr) (at : ℕ) → ExprGood s x → ExprGood s y → ExprGood s (e.Cmp at op x y)
  Cmp_good op x y at gx gy vars ok asked is r h lit =
      let k = part.Cmp_parts s vars asked op x y at r h in
      let whole : TExpr = compared op k.1 k.0.tree k.2.tree in
      let lits = compared_literals s vars op k.1 k.0.tree k.2.tree (literals_of asked at (Plain base.Bool) whole (expr_of whole) r refl k.6 lit) in
      let a = gx vars ok (left_asked op) (left_is op) k.0 k.3 lits.0 in
      let b = gy vars ok (Some k.0.ty) a.type k.2 k.5 lits.1 in
      let e = base_is k.0.ty k.0.at k.1 k.4 in
      let right : IsExpr s (scope_of vars) (Plain k.1) (expr_of k.2.tree) = subst (λ z. IsExpr s (scope_of vars) z (expr_of k.2.tree)) e (at_type s vars k.0.ty k.2 b) in
      fitted s vars asked at (Plain base.Bool) whole (expr_of whole) r refl k.6
      (compared_good s vars op k.1 k.0.tree k.2.tree (ordered_left s vars op k.1 k.0 a e) (of_this s vars (left_asked op) (Plain k.1) k.0 a e) right) tt

  Member_good : (x : tree.Expr) (set : tree_set.SetExpr) (at : ℕ) → ExprGood s x → SetGood s set → ExprGood s (e.Member at x set)
  Member_good x set at gx gset vars ok asked is r h lit =
      let k = part.Member_parts s vars asked x set at r h in
      let saw = seen.Member_seen k.0.tree k.1 k.2 in
      let lits = literals_of asked at (Plain base.Bool) (t.Member k.0.tree k.1 k.2) (within (expr_of k.0.tree) k.1 (set_of k.2)) r saw k.6 lit in
      let a = gx vars ok None tt k.0 k.3 lits.0 in
      let e = id_is k.0.ty k.0.at k.1 k.4 in
      let all = gset.0 vars ok (Records k.1) (id_type k.0.ty k.1 a.type e) k.2 k.5 lits.1 in
      fitted s vars asked at (Plain base.Bool) (t.Member k.0.tree k.1 k.2) (within (expr_of k.0.tree) k.1 (set_of k.2)) r saw k.6
      (refl, of_this s vars None (Plain (base.Id k.1)) k.0 a e, all) tt

  Not_good : (x : tree.Expr) (at : ℕ) → ExprGood s x → ExprGood s (e.Not at x)
  Not_good x at gx vars ok asked is r h lit =
      let k = part.Not_parts s vars asked x at r h in
      let saw = seen.Not_seen k.0.tree in
      let lits = literals_of asked at (Plain base.Bool) (t.Not k.0.tree) (negation (expr_of k.0.tree)) r saw k.2 lit in
      let a = gx vars ok bool tt k.0 k.1 lits in
      fitted s vars asked at (Plain base.Bool) (t.Not k.0.tree) (negation (expr_of k.0.tree)) r saw k.2 (refl, at_type s vars (Plain base.Bool) k.0 a) tt

  And_good : (x y : tree.Expr) (at : ℕ) → ExprGood s x → ExprGood s y → ExprGood s (e.And at x y)
  And_good x y at gx gy vars ok asked is r h lit =
      let k = part.And_parts s vars asked x y at r h in
      let saw = seen.And_seen k.0.tree k.1.tree in
      let lits = literals_of asked at (Plain base.Bool) (t.And k.0.tree k.1.tree) (both (expr_of k.0.tree) (expr_of k.1.tree)) r saw k.4 lit in
      let a = gx vars ok bool tt k.0 k.2 lits.0 in
      let b = gy vars ok bool tt k.1 k.3 lits.1 in
      fitted s vars asked at (Plain base.Bool) (t.And k.0.tree k.1.tree) (both (expr_of k.0.tree) (expr_of k.1.tree)) r saw k.4
      (refl, at_type s vars (Plain base.Bool) k.0 a, at_type s vars (Plain base.Bool) k.1 b) tt

  Or_good : (x y : tree.Expr) (at : ℕ) → ExprGood s x → ExprGood s y → ExprGood s (e.Or at x y)
  Or_good x y at gx gy vars ok asked is r h lit =
      let k = part.Or_parts s vars asked x y at r h in
      let saw = seen.Or_seen k.0.tree k.1.tree in
      let lits = literals_of asked at (Plain base.Bool) (t.Or k.0.tree k.1.tree) (either (expr_of k.0.tree) (expr_of k.1.tree)) r saw k.4 lit in
      let a = gx vars ok bool tt k.0 k.2 lits.0 in
      let b = gy vars ok bool tt k.1 k.3 lits.1 in
      fitted s vars asked at (Plain base.Bool) (t.Or k.0.tree k.1.tree) (either (expr_of k.0.tree) (expr_of k.1.tree)) r saw k.4
      (refl, at_type s vars (Plain base.Bool) k.0 a, at_type s vars (Plain base.Bool) k.1 b) tt

  -- the type of a first branch is the one that was asked
  same_asked : (vars : List Var) (asked : Option TTy) (one : Typed) (at : ℕ) (tree : TExpr) (x : Expr) → IsOf s vars asked one → expr_of tree ≡ x → IsExpr s (scope_of vars) one.ty x → IsOf s vars asked (of_type at one.ty tree)
  same_asked vars asked one at tree x a saw good = record { expr = subst (λ z. IsExpr s (scope_of vars) one.ty z) (sym saw) good; type = a.type; same = a.same }

  IfE_good : (c x y : tree.Expr) (at : ℕ) → ExprGood s c → ExprGood s x → ExprGood s y → ExprGood s (e.IfE at c x y)
  IfE_good c x y at gc gx gy vars ok asked is r h lit =
      let k = part.IfE_parts s vars asked c x y at r h in
      let whole : TExpr = t.IfE k.0.tree k.1.tree k.2.tree in
      let saw = seen.IfE_seen k.0.tree k.1.tree k.2.tree in
      let made = k.6 in
      let whole_lits : HasLiterals (expr_of whole) = subst (λ (z : Typed). HasLiterals (expr_of z.tree)) (sym made) lit in
      let lits = subst HasLiterals saw whole_lits in
      let a = gc vars ok bool tt k.0 k.3 lits.0 in
      let b = gx vars ok asked is k.1 k.4 lits.1 in
      let d = gy vars ok (Some k.1.ty) b.type k.2 k.5 lits.2 in
      subst (λ z. IsOf s vars asked z) made
      (same_asked vars asked k.1 at whole (if_expr (expr_of k.0.tree) (expr_of k.1.tree) (expr_of k.2.tree)) b saw
      (at_type s vars (Plain base.Bool) k.0 a, b.expr, at_type s vars k.1.ty k.2 d))

  MatchE_good : (x y : tree.Expr) (v : Named) (z : tree.Expr) (at : ℕ) → ExprGood s x → ExprGood s y → ExprGood s z → ExprGood s (e.MatchE at x y (v, z))
  MatchE_good x y v z at gx gy gz vars ok asked is r h lit =
      let k = part.MatchE_parts s vars asked x y v z at r h in
      let whole : TExpr = t.MatchE k.0.tree k.2.tree v.name k.4.tree in
      let saw = seen.MatchE_seen k.0.tree k.2.tree v.name k.4.tree in
      let made = k.10 in
      let whole_lits : HasLiterals (expr_of whole) = subst (λ (z : Typed). HasLiterals (expr_of z.tree)) (sym made) lit in
      let lits = subst HasLiterals saw whole_lits in
      let a = gx vars ok None tt k.0 k.5 lits.0 in
      let e = option_is k.0.ty k.0.at k.1 k.6 in
      let inside : IsType s (Plain k.1) = opt_type k.0.ty k.1 a.type e in
      let b = gy vars ok asked is k.2 k.7 lits.1 in
      let scope = inner_scope vars v (Plain k.1) k.3 k.8 in
      let d = gz k.3 (inner_typed s vars v (Plain k.1) k.3 k.8 ok inside) (Some k.2.ty) b.type k.4 k.9 lits.2 in
      subst (λ z. IsOf s vars asked z) made
      (same_asked vars asked k.2 at whole (match_expr (expr_of k.0.tree) (expr_of k.2.tree) v.name (expr_of k.4.tree)) b saw
      (k.1, of_this s vars None (Opt k.1) k.0 a e, b.expr, inner_expr vars v (Plain k.1) k.3 k.2.ty (expr_of k.4.tree) scope (at_type s k.3 k.2.ty k.4 d)))

  -- ---- sets

  -- a set as what it stands for
  as_seen : (vars : List Var) (w : typing.Content) (a r : TSet) (x : SetExpr) → set_of a ≡ x → a ≡ r → IsSet s (scope_of vars) w x → IsSet s (scope_of vars) w (set_of r)
  as_seen vars w a r x saw e good = subst (λ (z : TSet). IsSet s (scope_of vars) w (set_of z)) e (subst (λ z. IsSet s (scope_of vars) w z) (sym saw) good)

  set_literals : (a r : TSet) (x : SetExpr) → set_of a ≡ x → a ≡ r → SetHasLiterals (set_of r) → SetHasLiterals x
  set_literals a r x saw e lit = subst SetHasLiterals saw (subst (λ (z : TSet). SetHasLiterals (set_of z)) (sym e) lit)

  no_source : (vars : List Var) (x : tree_set.SetExpr) (at : ℕ) (r : Source) → typed_source s vars x ≡ Err (WrongType at) → typed_source s vars x ≡ Ok r → IsSource s vars r
  no_source vars x at r none h = let never : ⊥ = cc in absurd never

  principals_is : (content : Content) (at : ℕ) (u : Unit {0}) → among_principals content at ≡ Ok u → content_of content ≡ typing.principals
  unfolding among_principals
  principals_is Principals at u h = refl
  principals_is (Records n) at u h = cc

  Everyone_good : (word at : ℕ) → SetGood s (se.Everyone at word)
  Everyone_good word at = (
    λ vars ok content is r h lit.
        let k = part.Everyone_parts s vars content word at r h in
        as_seen vars (content_of content) ts.Everyone r everyone seen.Everyone_seen k.2 (principals_is content word k.0 k.1),
    λ vars ok r h lit. no_source vars (se.Everyone at word) at r (form.Everyone_no_source s vars word at) h,
  )

  Nobody_good : (at : ℕ) → SetGood s (se.Nobody at)
  Nobody_good at = (
    λ vars ok content is r h lit.
        as_seen vars (content_of content) ts.Nobody r nobody seen.Nobody_seen (ok_same ts.Nobody r (sym (form.Nobody_is s vars content at) ∙ h)) tt,
    λ vars ok r h lit. no_source vars (se.Nobody at) at r (form.Nobody_no_source s vars at) h,
  )

  List_good : (xs : List (SureItem s)) (at : ℕ) → SetGood s (se.List at (map (λ (x : SureItem s). x.0) xs))
  List_good xs at =
      let plain : List Item = map (λ (x : SureItem s). x.0) xs in (
        λ vars ok content is r h lit.
            let k = part.List_parts s vars content plain at r h in
            let made = k.2 in
            let saw = seen.List_seen k.0 in
            let each = each_ok (typed_item s vars content) plain [] k.0 k.1 in
            let all : EachOk (typed_item s vars content) plain k.0 = subst (EachOk (typed_item s vars content) plain) each.1 each.2 in
            as_seen vars (content_of content) (ts.List k.0) r (listed (items_of (map item_of k.0))) saw made
            (items_good s vars ok content is xs k.0 all (set_literals (ts.List k.0) r (listed (items_of (map item_of k.0))) saw made lit)),
        λ vars ok r h lit. no_source vars (se.List at plain) at r (form.List_no_source s vars plain at) h,
      )

  Sum_good : (x y : tree_set.SetExpr) (at : ℕ) → SetGood s x → SetGood s y → SetGood s (se.Sum at x y)
  Sum_good x y at gx gy = (
    λ vars ok content is r h lit.
        let k = part.Sum_parts s vars content x y at r h in
        let made = k.4 in
        let lits = set_literals (ts.Sum k.0 k.1) r (union (set_of k.0) (set_of k.1)) (seen.Sum_seen k.0 k.1) made lit in
        as_seen vars (content_of content) (ts.Sum k.0 k.1) r (union (set_of k.0) (set_of k.1)) (seen.Sum_seen k.0 k.1) made
        (gx.0 vars ok content is k.0 k.2 lits.0, gy.0 vars ok content is k.1 k.3 lits.1),
    λ vars ok r h lit. no_source vars (se.Sum at x y) at r (form.Sum_no_source s vars x y at) h,
  )

  Less_good : (x y : tree_set.SetExpr) (at : ℕ) → SetGood s x → SetGood s y → SetGood s (se.Less at x y)
  Less_good x y at gx gy = (
    λ vars ok content is r h lit.
        let k = part.Less_parts s vars content x y at r h in
        let made = k.4 in
        let lits = set_literals (ts.Less k.0 k.1) r (minus (set_of k.0) (set_of k.1)) (seen.Minus_seen k.0 k.1) made lit in
        as_seen vars (content_of content) (ts.Less k.0 k.1) r (minus (set_of k.0) (set_of k.1)) (seen.Minus_seen k.0 k.1) made
        (gx.0 vars ok content is k.0 k.2 lits.0, gy.0 vars ok content is k.1 k.3 lits.1),
    λ vars ok r h lit. no_source vars (se.Less at x y) at r (form.Less_no_source s vars x y at) h,
  )

  -- a chain where it holds what is asked
  chain_good : (vars : List Var) (content : Content) (of : Source) (u : Unit {0}) (r : TSet) → IsSource s vars of → may_hold s content of.model of.at ≡ Ok u → of.set ≡ r
      → IsSet s (scope_of vars) (content_of content) (set_of r)
  chain_good vars content of u r good held h =
      subst (λ (z : TSet). IsSet s (scope_of vars) (content_of content) (set_of z)) h
      (good.set (content_of content) (held_is s content of.model of.at u held good.model))

  chain_literals : (of : Source) (r : TSet) → of.set ≡ r → SetHasLiterals (set_of r) → SetHasLiterals (set_of of.set)
  chain_literals of r h lit = subst (λ (z : TSet). SetHasLiterals (set_of z)) (sym h) lit

  -- a source as what it stands for
  source_seen : (vars : List Var) (at m : ℕ) (a : TSet) (r : Source) → source at m a ≡ r → HasModel s m
      → ((w : typing.Content) → MayHold s w m → IsSet s (scope_of vars) w (set_of a)) → IsSource s vars r
  source_seen vars at m a r h has good =
      let made : IsSource s vars (source at m a) = record { model = has; set = good } in
      subst (IsSource s vars) h made

  source_literals : (at m : ℕ) (a : TSet) (r : Source) → source at m a ≡ r → SetHasLiterals (set_of r.set) → SetHasLiterals (set_of a)
  source_literals at m a r h lit = subst (λ (z : Source). SetHasLiterals (set_of z.set)) (sym h) lit

  Find_source_good : (model : Named) (xs : List (SureFilter s)) (at : ℕ) → SourceGood s (se.Find at model (map (λ (x : SureFilter s). x.0) xs))
  Find_source_good model xs at vars ok r h lit =
      let plain : List Filter = map (λ (x : SureFilter s). x.0) xs in
      let k = part.Find_source_parts s vars model plain at r h in
      let saw = seen.Find_seen k.0 k.1 in
      let has = model_is s model.name k.0 (known (model_named s model.name) (Unknown model.at) k.0 k.2) in
      let each = each_ok (typed_filter s vars k.0) plain [] k.1 k.3 in
      let all : EachOk (typed_filter s vars k.0) plain k.1 = subst (EachOk (typed_filter s vars k.0) plain) each.1 each.2 in
      let lits : FiltersHaveLiterals (filters_of (map filter_of k.1)) = subst SetHasLiterals saw (source_literals model.at k.0 (ts.Find k.0 k.1) r k.4 lit) in
      let good = filters_good s vars ok k.0 xs k.1 all lits in
      source_seen vars model.at k.0 (ts.Find k.0 k.1) r k.4 has
      (λ w held. subst (λ z. IsSet s (scope_of vars) w z) (sym saw) (held, has, good))

  Path_source_good : (x : tree.Expr) (at : ℕ) → ExprGood s x → SourceGood s (se.Path at x)
  Path_source_good x at gx vars ok r h lit =
      let k = part.Path_source_parts s vars x at r h in
      let saw = seen.Path_seen k.1 k.0.tree in
      let lits : HasLiterals (expr_of k.0.tree) = subst SetHasLiterals saw (source_literals k.0.at k.1 (ts.Path k.1 k.0.tree) r k.4 lit) in
      let a = gx vars ok None tt k.0 k.2 lits in
      let e = set_is k.0.ty k.0.at k.1 k.3 in
      let good = of_this s vars None (Set k.1) k.0 a e in
      source_seen vars k.0.at k.1 (ts.Path k.1 k.0.tree) r k.4 (set_type k.0.ty k.1 a.type e)
      (λ w held. subst (λ z. IsSet s (scope_of vars) w z) (sym saw) (held, good))

  MapS_source_good : (x : tree_set.SetExpr) (v : Named) (y : tree.Expr) (at : ℕ) → SetGood s x → ExprGood s y → SourceGood s (se.MapS at x v y)
  MapS_source_good x v y at gx gy vars ok r h lit =
      let k = part.MapS_source_parts s vars x v y at r h in
      let whole : TSet = ts.MapS k.0.set k.0.model v.name k.3 k.2.tree in
      let saw = seen.MapS_seen k.0.set k.0.model v.name k.3 k.2.tree in
      let lits : SetHasLiterals (set_of k.0.set) × HasLiterals (expr_of k.2.tree) = subst SetHasLiterals saw (source_literals k.0.at k.3 whole r k.8 lit) in
      let over = gx.1 vars ok k.0 k.4 lits.0 in
      let scope = inner_scope vars v (Plain (base.Id k.0.model)) k.1 k.5 in
      let a = gy k.1 (inner_typed s vars v (Plain (base.Id k.0.model)) k.1 k.5 ok over.model) None tt k.2 k.6 lits.1 in
      let e = id_is k.2.ty k.2.at k.3 k.7 in
      let good = inner_expr vars v (Plain (base.Id k.0.model)) k.1 (Plain (base.Id k.3)) (expr_of k.2.tree) scope (of_this s k.1 None (Plain (base.Id k.3)) k.2 a e) in
      let from = over.set (typing.records k.0.model) (over.model, refl) in
      source_seen vars k.0.at k.3 whole r k.8 (id_type k.2.ty k.3 a.type e)
      (λ w held. subst (λ z. IsSet s (scope_of vars) w z) (sym saw) (held, over.model, from, good))

  Find_good : (model : Named) (xs : List (SureFilter s)) (at : ℕ) → SetGood s (se.Find at model (map (λ (x : SureFilter s). x.0) xs))
  Find_good model xs at =
      let source = Find_source_good model xs at in (
        λ vars ok content is r h lit.
            let k = part.Find_parts s vars content model (map (λ (x : SureFilter s). x.0) xs) at r h in
            chain_good vars content k.0 k.1 r (source vars ok k.0 k.2 (chain_literals k.0 r k.4 lit)) k.3 k.4,
        source,
      )

  Path_good : (x : tree.Expr) (at : ℕ) → ExprGood s x → SetGood s (se.Path at x)
  Path_good x at gx =
      let source = Path_source_good x at gx in (
        λ vars ok content is r h lit.
            let k = part.Path_parts s vars content x at r h in
            chain_good vars content k.0 k.1 r (source vars ok k.0 k.2 (chain_literals k.0 r k.4 lit)) k.3 k.4,
        source,
      )

  MapS_good : (x : tree_set.SetExpr) (v : Named) (y : tree.Expr) (at : ℕ) → SetGood s x → ExprGood s y → SetGood s (se.MapS at x v y)
  MapS_good x v y at gx gy =
      let source = MapS_source_good x v y at gx gy in (
        λ vars ok content is r h lit.
            let k = part.MapS_parts s vars content x v y at r h in
            chain_good vars content k.0 k.1 r (source vars ok k.0 k.2 (chain_literals k.0 r k.4 lit)) k.3 k.4,
        source,
      )

  FlatS_good : (x : tree_set.SetExpr) (v : Named) (y : tree_set.SetExpr) (at : ℕ) → SetGood s x → SetGood s y → SetGood s (se.FlatS at x v y)
  FlatS_good x v y at gx gy = (
    λ vars ok content is r h lit.
        let k = part.FlatS_parts s vars content x v y at r h in
        let whole : TSet = ts.FlatS k.0.set k.0.model v.name k.2 in
        let saw = seen.FlatS_seen k.0.set k.0.model v.name k.2 in
        let made = k.6 in
        let lits = set_literals whole r (flat_mapped (set_of k.0.set) k.0.model v.name (set_of k.2)) saw made lit in
        let over = gx.1 vars ok k.0 k.3 lits.0 in
        let scope = inner_scope vars v (Plain (base.Id k.0.model)) k.1 k.4 in
        let each = gy.0 k.1 (inner_typed s vars v (Plain (base.Id k.0.model)) k.1 k.4 ok over.model) content is k.2 k.5 lits.1 in
        as_seen vars (content_of content) whole r (flat_mapped (set_of k.0.set) k.0.model v.name (set_of k.2)) saw made
        (over.model, over.set (typing.records k.0.model) (over.model, refl), inner_set vars v (Plain (base.Id k.0.model)) k.1 (content_of content) (set_of k.2) scope each),
    λ vars ok r h lit. no_source vars (se.FlatS at x v y) at r (form.FlatS_no_source s vars x v y at) h,
  )

  IfS_good : (c : tree.Expr) (x y : tree_set.SetExpr) (at : ℕ) → ExprGood s c → SetGood s x → SetGood s y → SetGood s (se.IfS at c x y)
  IfS_good c x y at gc gx gy = (
    λ vars ok content is r h lit.
        let k = part.IfS_parts s vars content c x y at r h in
        let whole : TSet = ts.IfS k.0.tree k.1 k.2 in
        let saw = seen.IfS_seen k.0.tree k.1 k.2 in
        let made = k.6 in
        let lits = set_literals whole r (if_set (expr_of k.0.tree) (set_of k.1) (set_of k.2)) saw made lit in
        as_seen vars (content_of content) whole r (if_set (expr_of k.0.tree) (set_of k.1) (set_of k.2)) saw made
        (at_type s vars (Plain base.Bool) k.0 (gc vars ok bool tt k.0 k.3 lits.0), gx.0 vars ok content is k.1 k.4 lits.1, gy.0 vars ok content is k.2 k.5 lits.2),
    λ vars ok r h lit. no_source vars (se.IfS at c x y) at r (form.IfS_no_source s vars c x y at) h,
  )

  MatchS_good : (x : tree.Expr) (y : tree_set.SetExpr) (v : Named) (z : tree_set.SetExpr) (at : ℕ) → ExprGood s x → SetGood s y → SetGood s z → SetGood s (se.MatchS at x y v z)
  MatchS_good x y v z at gx gy gz = (
    λ vars ok content is r h lit.
        let k = part.MatchS_parts s vars content x y v z at r h in
        let whole : TSet = ts.MatchS k.0.tree k.2 v.name k.4 in
        let saw = seen.MatchS_seen k.0.tree k.2 v.name k.4 in
        let made = k.10 in
        let lits = set_literals whole r (match_set (expr_of k.0.tree) (set_of k.2) v.name (set_of k.4)) saw made lit in
        let a = gx vars ok None tt k.0 k.5 lits.0 in
        let e = option_is k.0.ty k.0.at k.1 k.6 in
        let inside : IsType s (Plain k.1) = opt_type k.0.ty k.1 a.type e in
        let scope = inner_scope vars v (Plain k.1) k.3 k.8 in
        let some = gz.0 k.3 (inner_typed s vars v (Plain k.1) k.3 k.8 ok inside) content is k.4 k.9 lits.2 in
        as_seen vars (content_of content) whole r (match_set (expr_of k.0.tree) (set_of k.2) v.name (set_of k.4)) saw made
        (k.1, of_this s vars None (Opt k.1) k.0 a e, gy.0 vars ok content is k.2 k.7 lits.1, inner_set vars v (Plain k.1) k.3 (content_of content) (set_of k.4) scope some),
    λ vars ok r h lit. no_source vars (se.MatchS at x y v z) at r (form.MatchS_no_source s vars x y v z at) h,
  )

  -- ---- items and filters

  Static_good : (x : Named) → ItemGood s (i.Static x)
  Static_good x vars ok content is r h rest lit =
      let k = part.Static_parts s vars content x r h in
      let made = k.4 in
      let there : item_of r rest ≡ static_item k.1 rest = sym (ap (λ (z : TItem). item_of z rest) made) ∙ ap (λ (f : Items → Items). f rest) (seen.Static_seen k.1) in
      let lits : ItemsHaveLiterals rest = subst ItemsHaveLiterals there lit in
      let n = static_is s x.name k.1 (known (static_named s x.name) (Unknown x.at) k.1 k.3) in
      (lits, λ good. subst (AreItems s (scope_of vars) (content_of content)) (sym there) (principals_is content x.at k.0 k.2, n, good))

  asked_is : (content : Content) → ContentIs s content → AskedIs s (id_asked content)
  unfolding id_asked
  asked_is Principals is = tt
  asked_is (Records n) is = is

  One_good : (x : tree.Expr) → ExprGood s x → ItemGood s (i.One x)
  One_good x gx vars ok content is r h rest lit =
      let k = part.One_parts s vars content x r h in
      let made = k.6 in
      let there : item_of r rest ≡ record_item k.1 (expr_of k.0.tree) rest
      = sym (ap (λ (z : TItem). item_of z rest) made) ∙ ap (λ (f : Items → Items). f rest) (seen.One_seen k.1 k.0.tree) in
      let lits : HasLiterals (expr_of k.0.tree) × ItemsHaveLiterals rest = subst ItemsHaveLiterals there lit in
      let a = gx vars ok (id_asked content) (asked_is content is) k.0 k.3 lits.0 in
      let e = id_is k.0.ty k.0.at k.1 k.4 in
      let held = held_is s content k.1 k.0.at k.2 k.5 (id_type k.0.ty k.1 a.type e) in
      (lits.1, λ good. subst (AreItems s (scope_of vars) (content_of content)) (sym there) (held, of_this s vars (id_asked content) (Plain (base.Id k.1)) k.0 a e, good))

  test_type : (op : FilterOp) (held asked : TTy) → MayTest s op held asked → IsType s held → IsType s asked
  test_type (Cmp op) (Plain b) asked may ok = subst (λ z. IsType s z) (sym may.1) ok
  test_type (Cmp op) (Set m) asked may ok = absurd may
  test_type (Cmp op) (Opt b) asked may ok = absurd may
  test_type Has (Plain b) asked may ok = absurd may
  test_type Has (Set m) asked may ok = subst (λ z. IsType s z) (sym may) ok
  test_type Has (Opt b) asked may ok = absurd may

  Filter_good : (f : Named) (op : FilterOp) (x : tree.Expr) → ExprGood s x → FilterGood s (roll-Filter (record { field = f; op = op; value = x }))
  Filter_good f op x gx vars ok m r h rest lit =
      let k = part.Filter_parts s vars m f op x r h in
      let made = k.6 in
      let there : filter_of r rest ≡ filter_and k.0.0 op (expr_of k.2.tree) rest
      = sym (ap (λ (z : TFilter). filter_of z rest) made) ∙ ap (λ (g : Filters → Filters). g rest) (seen.Test_seen k.0.0 op k.2.tree) in
      let lits : HasLiterals (expr_of k.2.tree) × FiltersHaveLiterals rest = subst FiltersHaveLiterals there lit in
      let field = field_is s m f.name k.0 fields (known (field_named s m f.name) (Unknown f.at) k.0 k.3) in
      let may = tested_is s op k.0.1 f.at k.1 k.4 in
      let a = gx vars ok (Some k.1) (test_type op k.0.1 k.1 may field.1) k.2 k.5 lits.0 in
      (lits.1, λ good. subst (AreFilters s (scope_of vars) m) (sym there) ((k.0.1, k.1, field.0, may, at_type s vars k.1 k.2 a), good))

  -- ---- whole trees

  abbrev SureExpr : Type 0
  SureExpr = (x : tree.Expr) × ExprGood s x

  abbrev SureSet : Type 0
  SureSet = (x : tree_set.SetExpr) × SetGood s x

  expr_step : (y : Expr-F SureExpr (SureItem s) SureSet (SureFilter s))
      → ExprGood s (roll-Expr (map-Expr SureExpr (SureItem s) SureSet (SureFilter s) tree.Expr Item tree_set.SetExpr Filter (λ e. e.0) (λ e. e.0) (λ e. e.0) (λ e. e.0) y))
  expr_step (Expr-F.Flag at value) = subst (ExprGood s) (sym (e.rolls-Flag at value)) (Flag_good value at)
  expr_step (Expr-F.Num at value) = subst (ExprGood s) (sym (e.rolls-Num at value)) (Num_good value at)
  expr_step (Expr-F.Str at text) = subst (ExprGood s) (sym (e.rolls-Str at text)) (Str_good text at)
  expr_step (Expr-F.Var at x) = subst (ExprGood s) (sym (e.rolls-Var at x)) (Var_good x at)
  expr_step (Expr-F.NoneLit at) = subst (ExprGood s) (sym (e.rolls-NoneLit at)) (NoneLit_good at)
  expr_step (Expr-F.SomeLit at x) = subst (ExprGood s) (sym (e.rolls-SomeLit at x.0)) (SomeLit_good x.0 at x.1)
  expr_step (Expr-F.Get at x f) = subst (ExprGood s) (sym (e.rolls-Get at x.0 f)) (Get_good x.0 f at x.1)
  expr_step (Expr-F.Cmp at op x y) = subst (ExprGood s) (sym (e.rolls-Cmp at op x.0 y.0)) (Cmp_good op x.0 y.0 at x.1 y.1)
  expr_step (Expr-F.Member at x set) = subst (ExprGood s) (sym (e.rolls-Member at x.0 set.0)) (Member_good x.0 set.0 at x.1 set.1)
  expr_step (Expr-F.Not at x) = subst (ExprGood s) (sym (e.rolls-Not at x.0)) (Not_good x.0 at x.1)
  expr_step (Expr-F.And at x y) = subst (ExprGood s) (sym (e.rolls-And at x.0 y.0)) (And_good x.0 y.0 at x.1 y.1)
  expr_step (Expr-F.Or at x y) = subst (ExprGood s) (sym (e.rolls-Or at x.0 y.0)) (Or_good x.0 y.0 at x.1 y.1)
  expr_step (Expr-F.IfE at c x y) = subst (ExprGood s) (sym (e.rolls-IfE at c.0 x.0 y.0)) (IfE_good c.0 x.0 y.0 at c.1 x.1 y.1)
  expr_step (Expr-F.MatchE at x y (v, z)) = subst (ExprGood s) (sym (e.rolls-MatchE at x.0 y.0 (v, z.0))) (MatchE_good x.0 y.0 v z.0 at x.1 y.1 z.1)

  set_step : (y : SetExpr-F SureExpr (SureItem s) SureSet (SureFilter s))
      → SetGood s (roll-SetExpr (map-SetExpr SureExpr (SureItem s) SureSet (SureFilter s) tree.Expr Item tree_set.SetExpr Filter (λ e. e.0) (λ e. e.0) (λ e. e.0) (λ e. e.0) y))
  set_step (SetExpr-F.Everyone at word) = subst (SetGood s) (sym (se.rolls-Everyone at word)) (Everyone_good word at)
  set_step (SetExpr-F.Nobody at) = subst (SetGood s) (sym (se.rolls-Nobody at)) (Nobody_good at)
  set_step (SetExpr-F.Sum at x y) = subst (SetGood s) (sym (se.rolls-Sum at x.0 y.0)) (Sum_good x.0 y.0 at x.1 y.1)
  set_step (SetExpr-F.Less at x y) = subst (SetGood s) (sym (se.rolls-Less at x.0 y.0)) (Less_good x.0 y.0 at x.1 y.1)
  set_step (SetExpr-F.Path at x) = subst (SetGood s) (sym (se.rolls-Path at x.0)) (Path_good x.0 at x.1)
  set_step (SetExpr-F.MapS at x v y) = subst (SetGood s) (sym (se.rolls-MapS at x.0 v y.0)) (MapS_good x.0 v y.0 at x.1 y.1)
  set_step (SetExpr-F.FlatS at x v y) = subst (SetGood s) (sym (se.rolls-FlatS at x.0 v y.0)) (FlatS_good x.0 v y.0 at x.1 y.1)
  set_step (SetExpr-F.IfS at c x y) = subst (SetGood s) (sym (se.rolls-IfS at c.0 x.0 y.0)) (IfS_good c.0 x.0 y.0 at c.1 x.1 y.1)
  set_step (SetExpr-F.MatchS at x y v z) = subst (SetGood s) (sym (se.rolls-MatchS at x.0 y.0 v z.0)) (MatchS_good x.0 y.0 v z.0 at x.1 y.1 z.1)
  set_step (SetExpr-F.List at xs) = subst (SetGood s) (sym (se.rolls-List at (map (λ (x : SureItem s). x.0) xs))) (List_good xs at)
  set_step (SetExpr-F.Find at model xs) = subst (SetGood s) (sym (se.rolls-Find at model (map (λ (x : SureFilter s). x.0) xs))) (Find_good model xs at)

  item_step : (y : Item-F SureExpr (SureItem s) SureSet (SureFilter s))
      → ItemGood s (roll-Item (map-Item SureExpr (SureItem s) SureSet (SureFilter s) tree.Expr Item tree_set.SetExpr Filter (λ e. e.0) (λ e. e.0) (λ e. e.0) (λ e. e.0) y))
  item_step (Item-F.Static x) = subst (ItemGood s) (sym (i.rolls-Static x)) (Static_good x)
  item_step (Item-F.One x) = subst (ItemGood s) (sym (i.rolls-One x.0)) (One_good x.0 x.1)

  filter_step : (y : Filter-F SureExpr (SureItem s) SureSet (SureFilter s))
      → FilterGood s (roll-Filter (map-Filter SureExpr (SureItem s) SureSet (SureFilter s) tree.Expr Item tree_set.SetExpr Filter (λ e. e.0) (λ e. e.0) (λ e. e.0) (λ e. e.0) y))
  filter_step y = Filter_good y.field y.op y.value.0 y.value.1

  pub expr_good : (x : tree.Expr) → ExprGood s x
  expr_good =
      ind-Expr (ExprGood s) (ItemGood s) (SetGood s) (FilterGood s) (λ x y is. subst (λ z. ExprGood s (roll-Expr z)) is (expr_step y)) (λ x y is. subst (λ z. ItemGood s (roll-Item z)) is (item_step y))
      (λ x y is. subst (λ z. SetGood s (roll-SetExpr z)) is (set_step y)) (λ x y is. subst (λ z. FilterGood s (roll-Filter z)) is (filter_step y))

  pub set_good : (x : tree_set.SetExpr) → SetGood s x
  set_good =
      ind-SetExpr (ExprGood s) (ItemGood s) (SetGood s) (FilterGood s) (λ x y is. subst (λ z. ExprGood s (roll-Expr z)) is (expr_step y)) (λ x y is. subst (λ z. ItemGood s (roll-Item z)) is (item_step y))
      (λ x y is. subst (λ z. SetGood s (roll-SetExpr z)) is (set_step y)) (λ x y is. subst (λ z. FilterGood s (roll-Filter z)) is (filter_step y))

-- ---- policies and initialisers

policies : PoliciesAreTyped
policies s m (p.Everyone at) typed fields has h lit = subst (λ (z : TPolicy). IsPolicy s m (policy_of z)) (ok_same tp.Everyone typed h) tt
policies s m (p.Nobody at) typed fields has h lit = subst (λ (z : TPolicy). IsPolicy s m (policy_of z)) (ok_same tp.Nobody typed h) tt
policies s m (p.Fun x set) typed fields has h lit =
    let rest : TSet → Checked TPolicy = λ z. Ok (tp.Fun x.name z) in
    let k = part.first_part (typed_set s (record_var m x) Principals set) rest typed h in
    let made = ok_same (tp.Fun x.name k.0) typed k.2 in
    let lits : SetHasLiterals (set_of k.0) = subst (λ (z : TPolicy). PolicyHasLiterals (policy_of z)) (sym made) lit in
    let good = (set_good s fields set).0 (record_var m x) (has, tt) Principals tt k.0 k.1 lits in
    subst (λ (z : TPolicy). IsPolicy s m (policy_of z)) made good

inits_plain : (s : Schema) (m : ℕ) (ty : TTy) (x : Named) (init : tree_init.Init) (typed : TInit) (expr : (y : tree.Expr) → ExprGood s y) → HasModel s m → IsType s ty
    → plain_init s (record_var m x) ty init ≡ Ok typed → InitHasLiterals (init_of typed)
    → ((z : TExpr) → IsExpr s (Plain (base.Id m) ∷ []) ty (expr_of z) → IsInit s m ty (init_of (tin.Plain z))) → IsInit s m ty (init_of typed)
inits_plain s m ty x (pi.Plain y) typed expr has ok h lit last =
    let rest : Typed → Checked TInit = λ z. Ok (tin.Plain z.tree) in
    let k = part.first_part (typed_expr s (record_var m x) (Some ty) y) rest typed h in
    let made = ok_same (tin.Plain k.0.tree) typed k.2 in
    let lits : HasLiterals (expr_of k.0.tree) = subst (λ (z : TInit). InitHasLiterals (init_of z)) (sym made) lit in
    let good = expr y (record_var m x) (has, tt) (Some ty) ok k.0 k.1 lits in
    subst (λ (z : TInit). IsInit s m ty (init_of z)) made (last k.0.tree (at_type s (record_var m x) ty k.0 good))
inits_plain s m ty x (pi.OfSet set) typed expr has ok h lit last = let never : ⊥ = cc in absurd never

inits_set : (s : Schema) (m n : ℕ) (x : Named) (init : tree_init.Init) (typed : TInit) → HaveFields s → HasModel s m → HasModel s n
    → set_init s (record_var m x) n init ≡ Ok typed → InitHasLiterals (init_of typed) → IsInit s m (Set n) (init_of typed)
inits_set s m n x (pi.Plain y) typed fields has there h lit = let never : ⊥ = cc in absurd never
inits_set s m n x (pi.OfSet set) typed fields has there h lit =
    let rest : TSet → Checked TInit = λ z. Ok (tin.OfSet n z) in
    let k = part.first_part (typed_set s (record_var m x) (Records n) set) rest typed h in
    let made = ok_same (tin.OfSet n k.0) typed k.2 in
    let lits : SetHasLiterals (set_of k.0) = subst (λ (z : TInit). InitHasLiterals (init_of z)) (sym made) lit in
    let good = (set_good s fields set).0 (record_var m x) (has, tt) (Records n) there k.0 k.1 lits in
    subst (λ (z : TInit). IsInit s m (Set n) (init_of z)) made (refl, good)

inits : InitsAreTyped
inits s m (Plain b) x init typed fields has ok h lit = inits_plain s m (Plain b) x init typed (expr_good s fields) has ok h lit (λ z good. (tt, good))
inits s m (Set n) x init typed fields has ok h lit = inits_set s m n x init typed fields has ok h lit
inits s m (Opt b) x init typed fields has ok h lit = inits_plain s m (Opt b) x init typed (expr_good s fields) has ok h lit (λ z good. (tt, good))

pub typed_is_well_typed : TypedIsWellTyped
typed_is_well_typed = record { policies = policies; inits = inits }
