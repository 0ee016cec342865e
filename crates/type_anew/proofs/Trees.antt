-- By induction on the tree: what is typed is written as the tree that was typed, offsets aside.
use Rattle.std.proofs.Common.{◌≡◌, ℕ, ℤ, Bool, false, List, [], ◌∷◌, map, refl, sym, ◌∙◌, ap, subst}
use Rattle.std.specs.Prelude.{Option, Some, None, Ok, Err, if◌then◌else◌}
use Rattle.std.specs.Option.{option_map}
use Rattle.text_tree.specs.declared.named.Named.{Named}
use Rattle.text_tree.specs.declared.exprs.CmpOp.{CmpOp}
use Rattle.text_tree.specs.declared.exprs.CmpOp.TheVariants.{Eq, Ne, Lt, Le, Gt, Ge}
use Rattle.text_tree.specs.declared.exprs.FilterOp.{FilterOp}
use Rattle.text_tree.specs.declared.exprs.Expr as tree
use Rattle.text_tree.specs.declared.exprs.Expr.{map-Expr, roll-Expr}
use Rattle.text_tree.specs.declared.exprs.SetExpr as tree_set
use Rattle.text_tree.specs.declared.exprs.SetExpr.{map-SetExpr, roll-SetExpr}
use Rattle.text_tree.specs.declared.exprs.Item.{Item, map-Item, roll-Item}
use Rattle.text_tree.specs.declared.exprs.Filter.{Filter, map-Filter, roll-Filter}
use Rattle.text_tree.specs.declared.exprs.Expr.TheOpen.{Expr-F, SetExpr-F, Item-F, Filter-F}
use Rattle.text_tree.specs.declared.exprs.Expr.TheFolds.{ind-Expr, ind-SetExpr}
use Rattle.text_tree.specs.declared.exprs.Expr.TheVariants as e
use Rattle.text_tree.specs.declared.exprs.SetExpr.TheVariants as se
use Rattle.text_tree.specs.declared.exprs.Item.TheVariants as i
use Rattle.text_tree.specs.declared.policies.Policy as tree_policy
use Rattle.text_tree.specs.declared.policies.Policy.TheVariants as p
use Rattle.type_schema.specs.declared.types.TBase.{TBase}
use Rattle.type_schema.specs.declared.types.TBase.TheVariants as base
use Rattle.type_schema.specs.declared.types.TTy.{TTy}
use Rattle.type_schema.specs.declared.types.TTy.TheVariants.{Plain, Set, Opt}
use Rattle.type_schema.specs.declared.trees.TExpr.{TExpr}
use Rattle.type_schema.specs.declared.trees.TExpr.TheVariants as t
use Rattle.type_schema.specs.declared.trees.TSet.{TSet}
use Rattle.type_schema.specs.declared.trees.TSet.TheVariants as ts
use Rattle.type_schema.specs.declared.trees.TItem.{TItem}
use Rattle.type_schema.specs.declared.trees.TFilter.{TFilter}
use Rattle.type_schema.specs.declared.trees.TPolicy.{TPolicy}
use Rattle.type_schema.specs.declared.trees.TPolicy.TheVariants as tp
use Rattle.text_tree.specs.Stripped.{stripped_expr, stripped_filter, stripped_item, stripped_policy, stripped_set}
use Rattle.type_schema.specs.Trees.{Name, Expr, flag, num, str, var, nothing, just, get, within, negation, both, either, if_expr, match_expr, SetExpr, everyone, nobody, listed, union, minus, find, path, mapped, flat_mapped, if_set, match_set, Items, Filters, static_item, record_item, filter_and}
use Rattle.type_schema.specs.Schema.{Schema}
use Rattle.type_schema.specs.Views.{expr_of, set_of, item_of, filter_of, items_of, filters_of, policy_of}
use Rattle.type_typing.specs.declared.asked.Content.{Content}
use Rattle.type_typing.specs.declared.asked.Content.TheVariants.{Principals, Records}
use Rattle.type_typing.specs.declared.asked.Source.{Source}
use Rattle.type_typing.specs.declared.asked.Typed.{Typed}
use Rattle.type_typing.specs.declared.vars.Var.{Var}
use Rattle.type_typing.specs.declared.type_err.TypeErr.TheVariants.{Unknown, WrongType}
use Rattle.type_typing.specs.Asked.{field_of_record, fits, id_of, none_of, of_type, source}
use Rattle.type_typing.specs.Compared.{alike, compared}
use Rattle.type_typing.specs.Exprs.{typed_expr, typed_set, typed_source, typed_item, typed_filter}
use Rattle.type_typing.specs.Names.{field_named, model_named, static_named}
use Rattle.type_typing.specs.Policies.{record_var, typed_policy}
use Rattle.type_typing.specs.Outcome.{Checked, or_else}
use Rattle.type_typing.proofs.Fitted.{fits_is, known}
use Rattle.type_typing.proofs.Forms as form
use Rattle.type_typing.proofs.Parts as part
use Rattle.type_typing.proofs.Parts.{ok_same}
use Rattle.type_typing.proofs.Seen as seen
use Rattle.type_typing.proofs.Shown.{EachOk, each_ok}
use Rattle.text_print.proofs.Layers as layer
use Rattle.type_anew.specs.Names.{Names, named}
use Rattle.type_anew.specs.Trees.{says_not, written_expr, written_filters, written_items, written_policy, written_set}

-- What a name names has that name.
pub record AreRight (s : Schema) (n : Names) : Type 0 where
  pub model : (name : Name) (m : ℕ) → model_named s name ≡ Some m → n.model m ≡ name
  pub field : (m : ℕ) (name : Name) (k : ℕ) → option_map (λ (f : ℕ × TTy). f.0) (field_named s m name) ≡ Some k → n.field m k ≡ name
  pub static : (name : Name) (k : ℕ) → static_named s name ≡ Some k → n.static k ≡ name

module _ (s : Schema) (n : Names) where
  -- ---- what comes back of each tree

  -- It is written as the tree, and is no comparison that hides a negation.
  abbrev pub Back : Expr → tree.Expr → Type 0
  Back x y = (written_expr n x ≡ y) × (says_not x ≡ false)

  abbrev pub ExprBack : tree.Expr → Type 0
  ExprBack x = (vars : List Var) (asked : Option TTy) (r : Typed) → typed_expr s vars asked x ≡ Ok r → Back (expr_of r.tree) (stripped_expr x)

  abbrev pub ContentBack : tree_set.SetExpr → Type 0
  ContentBack x = (vars : List Var) (content : Content) (r : TSet) → typed_set s vars content x ≡ Ok r → written_set n (set_of r) ≡ stripped_set x

  abbrev pub SourceBack : tree_set.SetExpr → Type 0
  SourceBack x = (vars : List Var) (r : Source) → typed_source s vars x ≡ Ok r → written_set n (set_of r.set) ≡ stripped_set x

  abbrev pub SetBack : tree_set.SetExpr → Type 0
  SetBack x = ContentBack x × SourceBack x

  abbrev pub ItemBack : Item → Type 0
  ItemBack x =
      (vars : List Var) (content : Content) (r : TItem) → typed_item s vars content x ≡ Ok r → (rest : Items)
      → written_items n (item_of r rest) ≡ stripped_item x ∷ written_items n rest

  abbrev pub FilterBack : Filter → Type 0
  FilterBack x =
      (vars : List Var) (m : ℕ) (r : TFilter) → typed_filter s vars m x ≡ Ok r → (rest : Filters)
      → written_filters n m (filter_of r rest) ≡ stripped_filter x ∷ written_filters n m rest

  abbrev SureItem : Type 0
  SureItem = (x : Item) × ItemBack x

  abbrev SureFilter : Type 0
  SureFilter = (x : Filter) × FilterBack x

  items_back : (vars : List Var) (content : Content) (xs : List SureItem) (rs : List TItem)
      → EachOk (typed_item s vars content) (map (λ (x : SureItem). x.0) xs) rs → written_items n (items_of (map item_of rs)) ≡ map stripped_item (map (λ (x : SureItem). x.0) xs)
  items_back vars content [] [] each = refl
  items_back vars content [] (r ∷ rs) each = absurd each
  items_back vars content (x ∷ xs) [] each = absurd each
  items_back vars content (x ∷ xs) (r ∷ rs) each =
      x.1 vars content r each.0 (items_of (map item_of rs)) ∙ ap (λ ys. stripped_item x.0 ∷ ys) (items_back vars content xs rs each.1)

  filters_back : (vars : List Var) (m : ℕ) (xs : List SureFilter) (rs : List TFilter)
      → EachOk (typed_filter s vars m) (map (λ (x : SureFilter). x.0) xs) rs → written_filters n m (filters_of (map filter_of rs)) ≡ map stripped_filter (map (λ (x : SureFilter). x.0) xs)
  filters_back vars m [] [] each = refl
  filters_back vars m [] (r ∷ rs) each = absurd each
  filters_back vars m (x ∷ xs) [] each = absurd each
  filters_back vars m (x ∷ xs) (r ∷ rs) each =
      x.1 vars m r each.0 (filters_of (map filter_of rs)) ∙ ap (λ ys. stripped_filter x.0 ∷ ys) (filters_back vars m xs rs each.1)

  -- ---- what fits the place

  fitted : (asked : Option TTy) (at : ℕ) (ty : TTy) (made : TExpr) (x : Expr) (y : tree.Expr) (r : Typed) → expr_of made ≡ x → fits (of_type at ty made) asked ≡ Ok r → Back x y → Back (expr_of r.tree) y
  fitted asked at ty made x y r saw h back =
      let k = fits_is (of_type at ty made) asked r h in
      let there : Back (expr_of made) y = subst (λ z. Back z y) (sym saw) back in
      subst (λ (z : Typed). Back (expr_of z.tree) y) k.0 there

  -- ---- comparisons

  abbrev pub Compared : CmpOp → TExpr → TExpr → TExpr → Type 0
  Compared op x y tree = Back (expr_of tree) (e.Cmp 0 op (written_expr n (expr_of x)) (written_expr n (expr_of y)))

  same_back : (made : TExpr) (x : Expr) (y : tree.Expr) → expr_of made ≡ x → Back x y → Back (expr_of made) y
  same_back made x y saw back = subst (λ z. Back z y) (sym saw) back

  eq_back : (b : TBase) (x y : TExpr) → Compared Eq x y (alike Eq b x y)
  unfolding alike
  eq_back base.Bool x y = same_back (t.Iff x y Eq) _ _ (seen.Iff_seen x y Eq) (refl, refl)
  eq_back base.Int x y = same_back (t.Eq x y Eq) _ _ (seen.Eq_seen x y Eq) (refl, refl)
  eq_back base.Text x y = same_back (t.Eq x y Eq) _ _ (seen.Eq_seen x y Eq) (refl, refl)
  eq_back (base.Id m) x y = same_back (t.Eq x y Eq) _ _ (seen.Eq_seen x y Eq) (refl, refl)

  ne_back : (b : TBase) (x y : TExpr) → Compared Ne x y (t.Not (alike Ne b x y))
  unfolding alike
  ne_back base.Bool x y = same_back (t.Not (t.Iff x y Ne)) _ _ (seen.Not_seen (t.Iff x y Ne) ∙ ap negation (seen.Iff_seen x y Ne)) (refl, refl)
  ne_back base.Int x y = same_back (t.Not (t.Eq x y Ne)) _ _ (seen.Not_seen (t.Eq x y Ne) ∙ ap negation (seen.Eq_seen x y Ne)) (refl, refl)
  ne_back base.Text x y = same_back (t.Not (t.Eq x y Ne)) _ _ (seen.Not_seen (t.Eq x y Ne) ∙ ap negation (seen.Eq_seen x y Ne)) (refl, refl)
  ne_back (base.Id m) x y = same_back (t.Not (t.Eq x y Ne)) _ _ (seen.Not_seen (t.Eq x y Ne) ∙ ap negation (seen.Eq_seen x y Ne)) (refl, refl)

  compared_back : (op : CmpOp) (b : TBase) (x y : TExpr) → Compared op x y (compared op b x y)
  unfolding compared
  compared_back Eq b x y = eq_back b x y
  compared_back Ne b x y = ne_back b x y
  compared_back Lt b x y = same_back (t.Less x y Lt) _ _ (seen.Less_seen x y Lt) (refl, refl)
  compared_back Le b x y = same_back (t.Not (t.Less y x Le)) _ _ (seen.Not_seen (t.Less y x Le) ∙ ap negation (seen.Less_seen y x Le)) (refl, refl)
  compared_back Gt b x y = same_back (t.Less y x Gt) _ _ (seen.Less_seen y x Gt) (refl, refl)
  compared_back Ge b x y = same_back (t.Not (t.Less x y Ge)) _ _ (seen.Not_seen (t.Less x y Ge) ∙ ap negation (seen.Less_seen x y Ge)) (refl, refl)

  -- ---- each form, of its parts

  Flag_back : (value : Bool) (at : ℕ) → ExprBack (e.Flag at value)
  Flag_back value at vars asked r h =
      fitted asked at (Plain base.Bool) (t.Flag value) (flag value) _ r (seen.Flag_seen value) (sym (form.Flag_is s vars asked value at) ∙ h) (sym (layer.Flag_stripped value at), refl)

  Num_back : (value : ℤ) (at : ℕ) → ExprBack (e.Num at value)
  Num_back value at vars asked r h =
      fitted asked at (Plain base.Int) (t.Num value) (num value) _ r (seen.Num_seen value) (sym (form.Num_is s vars asked value at) ∙ h) (sym (layer.Num_stripped value at), refl)

  Str_back : (text : List ℕ) (at : ℕ) → ExprBack (e.Str at text)
  Str_back text at vars asked r h =
      fitted asked at (Plain base.Text) (t.Str text) (str text) _ r (seen.Str_seen text) (sym (form.Str_is s vars asked text at) ∙ h) (sym (layer.Str_stripped text at), refl)

  Var_back : (x : Named) (at : ℕ) → ExprBack (e.Var at x)
  Var_back x at vars asked r h =
      let k = part.Var_parts s vars asked x at r h in
      fitted asked at k.0.1 (t.Var k.0.0 x.name) (var k.0.0 x.name) _ r (seen.Var_seen k.0.0 x.name) k.2 (sym (layer.Var_stripped x at), refl)

  none_back : (at : ℕ) (asked : Option TTy) (r : Typed) → none_of asked at ≡ Ok r → Back (expr_of r.tree) (stripped_expr (e.NoneLit at))
  unfolding none_of
  none_back at None r h = let never : ⊥ = cc in absurd never
  none_back at (Some (Plain b)) r h = let never : ⊥ = cc in absurd never
  none_back at (Some (Set m)) r h = let never : ⊥ = cc in absurd never
  none_back at (Some (Opt b)) r h =
      let made : Back (expr_of t.NoneLit) (stripped_expr (e.NoneLit at)) = same_back t.NoneLit nothing _ seen.NoneLit_seen (sym (layer.NoneLit_stripped at), refl) in
      subst (λ (z : Typed). Back (expr_of z.tree) (stripped_expr (e.NoneLit at))) (ok_same (of_type at (Opt b) t.NoneLit) r h) made

  NoneLit_back : (at : ℕ) → ExprBack (e.NoneLit at)
  NoneLit_back at vars asked r h = none_back at asked r (sym (form.NoneLit_is s vars asked at) ∙ h)

  SomeLit_back : (x : tree.Expr) (at : ℕ) → ExprBack x → ExprBack (e.SomeLit at x)
  SomeLit_back x at gx vars asked r h =
      let k = part.SomeLit_parts s vars asked x at r h in
      let a = gx vars _ k.0 k.2 in
      fitted asked at (Opt k.1) (t.SomeLit k.0.tree) (just (expr_of k.0.tree)) _ r (seen.SomeLit_seen k.0.tree) k.4
      (ap (λ z. e.SomeLit 0 z) a.0 ∙ sym (layer.SomeLit_stripped x at), refl)

  Member_back : (x : tree.Expr) (set : tree_set.SetExpr) (at : ℕ) → ExprBack x → SetBack set → ExprBack (e.Member at x set)
  Member_back x set at gx gset vars asked r h =
      let k = part.Member_parts s vars asked x set at r h in
      let a = gx vars None k.0 k.3 in
      let all = gset.0 vars (Records k.1) k.2 k.5 in
      fitted asked at (Plain base.Bool) (t.Member k.0.tree k.1 k.2) (within (expr_of k.0.tree) k.1 (set_of k.2)) _ r (seen.Member_seen k.0.tree k.1 k.2) k.6
      (ap (λ z. e.Member 0 z (written_set n (set_of k.2))) a.0 ∙ ap (λ z. e.Member 0 (stripped_expr x) z) all ∙ sym (layer.Member_stripped x set at), refl)

  Cmp_back : (op : CmpOp) (x y : tree.Expr) (at : ℕ) → ExprBack x → ExprBack y → ExprBack (e.Cmp at op x y)
  Cmp_back op x y at gx gy vars asked r h =
      let k = part.Cmp_parts s vars asked op x y at r h in
      let whole : TExpr = compared op k.1 k.0.tree k.2.tree in
      let a = gx vars _ k.0 k.3 in
      let b = gy vars _ k.2 k.5 in
      let made = compared_back op k.1 k.0.tree k.2.tree in
      fitted asked at (Plain base.Bool) whole (expr_of whole) _ r refl k.6
      (made.0 ∙ ap (λ z. e.Cmp 0 op z (written_expr n (expr_of k.2.tree))) a.0 ∙ ap (λ z. e.Cmp 0 op (stripped_expr x) z) b.0 ∙ sym (layer.Cmp_stripped op x y at), made.1)

  not_written : (x : Expr) (y : tree.Expr) → Back x y → written_expr n (negation x) ≡ e.Not 0 y
  not_written x y back =
      ap (λ c. if c then written_expr n x else e.Not 0 (written_expr n x)) back.1 ∙ ap (λ z. e.Not 0 z) back.0

  Not_back : (x : tree.Expr) (at : ℕ) → ExprBack x → ExprBack (e.Not at x)
  Not_back x at gx vars asked r h =
      let k = part.Not_parts s vars asked x at r h in
      let a = gx vars _ k.0 k.1 in
      fitted asked at (Plain base.Bool) (t.Not k.0.tree) (negation (expr_of k.0.tree)) _ r (seen.Not_seen k.0.tree) k.2
      (not_written (expr_of k.0.tree) (stripped_expr x) a ∙ sym (layer.Not_stripped x at), refl)

  And_back : (x y : tree.Expr) (at : ℕ) → ExprBack x → ExprBack y → ExprBack (e.And at x y)
  And_back x y at gx gy vars asked r h =
      let k = part.And_parts s vars asked x y at r h in
      let a = gx vars _ k.0 k.2 in
      let b = gy vars _ k.1 k.3 in
      fitted asked at (Plain base.Bool) (t.And k.0.tree k.1.tree) (both (expr_of k.0.tree) (expr_of k.1.tree)) _ r (seen.And_seen k.0.tree k.1.tree) k.4
      (ap (λ z. e.And 0 z (written_expr n (expr_of k.1.tree))) a.0 ∙ ap (λ z. e.And 0 (stripped_expr x) z) b.0 ∙ sym (layer.And_stripped x y at), refl)

  Or_back : (x y : tree.Expr) (at : ℕ) → ExprBack x → ExprBack y → ExprBack (e.Or at x y)
  Or_back x y at gx gy vars asked r h =
      let k = part.Or_parts s vars asked x y at r h in
      let a = gx vars _ k.0 k.2 in
      let b = gy vars _ k.1 k.3 in
      fitted asked at (Plain base.Bool) (t.Or k.0.tree k.1.tree) (either (expr_of k.0.tree) (expr_of k.1.tree)) _ r (seen.Or_seen k.0.tree k.1.tree) k.4
      (ap (λ z. e.Or 0 z (written_expr n (expr_of k.1.tree))) a.0 ∙ ap (λ z. e.Or 0 (stripped_expr x) z) b.0 ∙ sym (layer.Or_stripped x y at), refl)

  -- a choice, which is not asked for a type
  chosen : (made : TExpr) (x : Expr) (y : tree.Expr) (r : Typed) (at : ℕ) (ty : TTy) → expr_of made ≡ x → of_type at ty made ≡ r → Back x y → Back (expr_of r.tree) y
  chosen made x y r at ty saw same back =
      let there : Back (expr_of made) y = subst (λ z. Back z y) (sym saw) back in
      subst (λ (z : Typed). Back (expr_of z.tree) y) same there

  IfE_back : (c x y : tree.Expr) (at : ℕ) → ExprBack c → ExprBack x → ExprBack y → ExprBack (e.IfE at c x y)
  IfE_back c x y at gc gx gy vars asked r h =
      let k = part.IfE_parts s vars asked c x y at r h in
      let a = gc vars _ k.0 k.3 in
      let b = gx vars asked k.1 k.4 in
      let d = gy vars (Some k.1.ty) k.2 k.5 in
      chosen (t.IfE k.0.tree k.1.tree k.2.tree) (if_expr (expr_of k.0.tree) (expr_of k.1.tree) (expr_of k.2.tree)) _ r at k.1.ty (seen.IfE_seen k.0.tree k.1.tree k.2.tree) k.6 (
        ap (λ z. e.IfE 0 z (written_expr n (expr_of k.1.tree)) (written_expr n (expr_of k.2.tree))) a.0
            ∙ ap (λ z. e.IfE 0 (stripped_expr c) z (written_expr n (expr_of k.2.tree))) b.0
            ∙ ap (λ z. e.IfE 0 (stripped_expr c) (stripped_expr x) z) d.0
            ∙ sym (layer.IfE_stripped c x y at),
        refl,
      )

  MatchE_back : (x y : tree.Expr) (v : Named) (z : tree.Expr) (at : ℕ) → ExprBack x → ExprBack y → ExprBack z → ExprBack (e.MatchE at x y (v, z))
  MatchE_back x y v z at gx gy gz vars asked r h =
      let k = part.MatchE_parts s vars asked x y v z at r h in
      let a = gx vars None k.0 k.5 in
      let b = gy vars asked k.2 k.7 in
      let d = gz k.3 (Some k.2.ty) k.4 k.9 in
      chosen (t.MatchE k.0.tree k.2.tree v.name k.4.tree) (match_expr (expr_of k.0.tree) (expr_of k.2.tree) v.name (expr_of k.4.tree)) _ r at k.2.ty
      (seen.MatchE_seen k.0.tree k.2.tree v.name k.4.tree) k.10 (
        ap (λ w. e.MatchE 0 w (written_expr n (expr_of k.2.tree)) (named v.name, written_expr n (expr_of k.4.tree))) a.0
            ∙ ap (λ w. e.MatchE 0 (stripped_expr x) w (named v.name, written_expr n (expr_of k.4.tree))) b.0
            ∙ ap (λ w. e.MatchE 0 (stripped_expr x) (stripped_expr y) (named v.name, w)) d.0
            ∙ sym (layer.MatchE_stripped x y v z at),
        refl,
      )

  -- ---- sets

  as_seen : (a r : TSet) (x : SetExpr) (y : tree_set.SetExpr) → set_of a ≡ x → a ≡ r → written_set n x ≡ y → written_set n (set_of r) ≡ y
  as_seen a r x y saw same back = ap (λ (z : TSet). written_set n (set_of z)) (sym same) ∙ ap (written_set n) saw ∙ back

  no_source : (vars : List Var) (x : tree_set.SetExpr) (at : ℕ) (r : Source) → typed_source s vars x ≡ Err (WrongType at) → typed_source s vars x ≡ Ok r → written_set n (set_of r.set) ≡ stripped_set x
  no_source vars x at r none h = let never : ⊥ = cc in absurd never

  Everyone_back : (word at : ℕ) → SetBack (se.Everyone at word)
  Everyone_back word at = (
    λ vars content r h.
        let k = part.Everyone_parts s vars content word at r h in
        as_seen ts.Everyone r everyone _ seen.Everyone_seen k.2 (sym (layer.Everyone_stripped word at)),
    λ vars r h. no_source vars (se.Everyone at word) at r (form.Everyone_no_source s vars word at) h,
  )

  Nobody_back : (at : ℕ) → SetBack (se.Nobody at)
  Nobody_back at = (
    λ vars content r h. as_seen ts.Nobody r nobody _ seen.Nobody_seen (ok_same ts.Nobody r (sym (form.Nobody_is s vars content at) ∙ h)) (sym (layer.Nobody_stripped at)),
    λ vars r h. no_source vars (se.Nobody at) at r (form.Nobody_no_source s vars at) h,
  )

  List_back : (xs : List SureItem) (at : ℕ) → SetBack (se.List at (map (λ (x : SureItem). x.0) xs))
  List_back xs at =
      let plain : List Item = map (λ (x : SureItem). x.0) xs in (
        λ vars content r h.
            let k = part.List_parts s vars content plain at r h in
            let each = each_ok (typed_item s vars content) plain [] k.0 k.1 in
            let all : EachOk (typed_item s vars content) plain k.0 = subst (EachOk (typed_item s vars content) plain) each.1 each.2 in
            as_seen (ts.List k.0) r (listed (items_of (map item_of k.0))) _ (seen.List_seen k.0) k.2
            (ap (λ ys. se.List 0 ys) (items_back vars content xs k.0 all) ∙ sym (layer.List_stripped plain at)),
        λ vars r h. no_source vars (se.List at plain) at r (form.List_no_source s vars plain at) h,
      )

  Sum_back : (x y : tree_set.SetExpr) (at : ℕ) → SetBack x → SetBack y → SetBack (se.Sum at x y)
  Sum_back x y at gx gy = (
    λ vars content r h.
        let k = part.Sum_parts s vars content x y at r h in
        as_seen (ts.Sum k.0 k.1) r (union (set_of k.0) (set_of k.1)) _ (seen.Sum_seen k.0 k.1) k.4
        (ap (λ z. se.Sum 0 z (written_set n (set_of k.1))) (gx.0 vars content k.0 k.2) ∙ ap (λ z. se.Sum 0 (stripped_set x) z) (gy.0 vars content k.1 k.3) ∙ sym (layer.Sum_stripped x y at)),
    λ vars r h. no_source vars (se.Sum at x y) at r (form.Sum_no_source s vars x y at) h,
  )

  Less_back : (x y : tree_set.SetExpr) (at : ℕ) → SetBack x → SetBack y → SetBack (se.Less at x y)
  Less_back x y at gx gy = (
    λ vars content r h.
        let k = part.Less_parts s vars content x y at r h in
        as_seen (ts.Less k.0 k.1) r (minus (set_of k.0) (set_of k.1)) _ (seen.Minus_seen k.0 k.1) k.4
        (ap (λ z. se.Less 0 z (written_set n (set_of k.1))) (gx.0 vars content k.0 k.2) ∙ ap (λ z. se.Less 0 (stripped_set x) z) (gy.0 vars content k.1 k.3) ∙ sym (layer.Less_stripped x y at)),
    λ vars r h. no_source vars (se.Less at x y) at r (form.Less_no_source s vars x y at) h,
  )

  -- a source as what it stands for
  source_seen : (at m : ℕ) (a : TSet) (x : SetExpr) (y : tree_set.SetExpr) (r : Source) → set_of a ≡ x → source at m a ≡ r → written_set n x ≡ y → written_set n (set_of r.set) ≡ y
  source_seen at m a x y r saw h back = ap (λ (z : Source). written_set n (set_of z.set)) (sym h) ∙ ap (written_set n) saw ∙ back

  -- a chain where it holds what is asked
  chain_back : (of : Source) (r : TSet) (y : tree_set.SetExpr) → written_set n (set_of of.set) ≡ y → of.set ≡ r → written_set n (set_of r) ≡ y
  chain_back of r y back h = ap (λ (z : TSet). written_set n (set_of z)) (sym h) ∙ back

  Path_source_back : (x : tree.Expr) (at : ℕ) → ExprBack x → SourceBack (se.Path at x)
  Path_source_back x at gx vars r h =
      let k = part.Path_source_parts s vars x at r h in
      let a = gx vars None k.0 k.2 in
      source_seen k.0.at k.1 (ts.Path k.1 k.0.tree) (path k.1 (expr_of k.0.tree)) _ r (seen.Path_seen k.1 k.0.tree) k.4 (ap (λ z. se.Path 0 z) a.0 ∙ sym (layer.Path_stripped x at))

  MapS_source_back : (x : tree_set.SetExpr) (v : Named) (y : tree.Expr) (at : ℕ) → SetBack x → ExprBack y → SourceBack (se.MapS at x v y)
  MapS_source_back x v y at gx gy vars r h =
      let k = part.MapS_source_parts s vars x v y at r h in
      let over = gx.1 vars k.0 k.4 in
      let a = gy k.1 None k.2 k.6 in
      source_seen k.0.at k.3 (ts.MapS k.0.set k.0.model v.name k.3 k.2.tree) (mapped (set_of k.0.set) k.0.model v.name k.3 (expr_of k.2.tree)) _ r
      (seen.MapS_seen k.0.set k.0.model v.name k.3 k.2.tree) k.8
      (ap (λ z. se.MapS 0 z (named v.name) (written_expr n (expr_of k.2.tree))) over ∙ ap (λ z. se.MapS 0 (stripped_set x) (named v.name) z) a.0 ∙ sym (layer.MapS_stripped x v y at))

  Path_back : (x : tree.Expr) (at : ℕ) → ExprBack x → SetBack (se.Path at x)
  Path_back x at gx =
      let source = Path_source_back x at gx in (
        λ vars content r h.
            let k = part.Path_parts s vars content x at r h in
            chain_back k.0 r _ (source vars k.0 k.2) k.4,
        source,
      )

  MapS_back : (x : tree_set.SetExpr) (v : Named) (y : tree.Expr) (at : ℕ) → SetBack x → ExprBack y → SetBack (se.MapS at x v y)
  MapS_back x v y at gx gy =
      let source = MapS_source_back x v y at gx gy in (
        λ vars content r h.
            let k = part.MapS_parts s vars content x v y at r h in
            chain_back k.0 r _ (source vars k.0 k.2) k.4,
        source,
      )

  FlatS_back : (x : tree_set.SetExpr) (v : Named) (y : tree_set.SetExpr) (at : ℕ) → SetBack x → SetBack y → SetBack (se.FlatS at x v y)
  FlatS_back x v y at gx gy = (
    λ vars content r h.
        let k = part.FlatS_parts s vars content x v y at r h in
        let over = gx.1 vars k.0 k.3 in
        as_seen (ts.FlatS k.0.set k.0.model v.name k.2) r (flat_mapped (set_of k.0.set) k.0.model v.name (set_of k.2)) _ (seen.FlatS_seen k.0.set k.0.model v.name k.2) k.6
        (ap (λ z. se.FlatS 0 z (named v.name) (written_set n (set_of k.2))) over ∙ ap (λ z. se.FlatS 0 (stripped_set x) (named v.name) z) (gy.0 k.1 content k.2 k.5) ∙ sym (layer.FlatS_stripped x v y at)),
    λ vars r h. no_source vars (se.FlatS at x v y) at r (form.FlatS_no_source s vars x v y at) h,
  )

  IfS_back : (c : tree.Expr) (x y : tree_set.SetExpr) (at : ℕ) → ExprBack c → SetBack x → SetBack y → SetBack (se.IfS at c x y)
  IfS_back c x y at gc gx gy = (
    λ vars content r h.
        let k = part.IfS_parts s vars content c x y at r h in
        let a = gc vars _ k.0 k.3 in
        as_seen (ts.IfS k.0.tree k.1 k.2) r (if_set (expr_of k.0.tree) (set_of k.1) (set_of k.2)) _ (seen.IfS_seen k.0.tree k.1 k.2) k.6
        (ap (λ z. se.IfS 0 z (written_set n (set_of k.1)) (written_set n (set_of k.2))) a.0
        ∙ ap (λ z. se.IfS 0 (stripped_expr c) z (written_set n (set_of k.2))) (gx.0 vars content k.1 k.4)
        ∙ ap (λ z. se.IfS 0 (stripped_expr c) (stripped_set x) z) (gy.0 vars content k.2 k.5)
        ∙ sym (layer.IfS_stripped c x y at)),
    λ vars r h. no_source vars (se.IfS at c x y) at r (form.IfS_no_source s vars c x y at) h,
  )

  MatchS_back : (x : tree.Expr) (y : tree_set.SetExpr) (v : Named) (z : tree_set.SetExpr) (at : ℕ) → ExprBack x → SetBack y → SetBack z → SetBack (se.MatchS at x y v z)
  MatchS_back x y v z at gx gy gz = (
    λ vars content r h.
        let k = part.MatchS_parts s vars content x y v z at r h in
        let a = gx vars None k.0 k.5 in
        as_seen (ts.MatchS k.0.tree k.2 v.name k.4) r (match_set (expr_of k.0.tree) (set_of k.2) v.name (set_of k.4)) _ (seen.MatchS_seen k.0.tree k.2 v.name k.4) k.10
        (ap (λ w. se.MatchS 0 w (written_set n (set_of k.2)) (named v.name) (written_set n (set_of k.4))) a.0
        ∙ ap (λ w. se.MatchS 0 (stripped_expr x) w (named v.name) (written_set n (set_of k.4))) (gy.0 vars content k.2 k.7)
        ∙ ap (λ w. se.MatchS 0 (stripped_expr x) (stripped_set y) (named v.name) w) (gz.0 k.3 content k.4 k.9)
        ∙ sym (layer.MatchS_stripped x y v z at)),
    λ vars r h. no_source vars (se.MatchS at x y v z) at r (form.MatchS_no_source s vars x y v z at) h,
  )

  One_back : (x : tree.Expr) → ExprBack x → ItemBack (i.One x)
  One_back x gx vars content r h rest =
      let k = part.One_parts s vars content x r h in
      let there : item_of r rest ≡ record_item k.1 (expr_of k.0.tree) rest
      = sym (ap (λ z. item_of z rest) k.6) ∙ ap (λ (f : Items → Items). f rest) (seen.One_seen k.1 k.0.tree) in
      let a = gx vars _ k.0 k.3 in
      ap (written_items n) there ∙ ap (λ z. i.One z ∷ written_items n rest) a.0 ∙ ap (λ z. z ∷ written_items n rest) (sym (layer.One_stripped x))

  -- ---- what has a name

  module _ (right : AreRight s n) where
    field_right : (ty : TTy) (at : ℕ) (f : Named) (field : ℕ × ℕ × TTy) → field_of_record s ty at f ≡ Ok field → n.field field.0 field.1 ≡ f.name
    unfolding field_of_record
    field_right ty at f field h =
        let k = part.first_part (id_of ty at) _ field h in
        let l = part.first_part (or_else (field_named s k.0 f.name) (Unknown f.at)) _ field k.2 in
        let there : (k.0, l.0.0, l.0.1) ≡ field = ok_same _ field l.2 in
        ap (λ (z : ℕ × ℕ × TTy). n.field z.0 z.1) (sym there) ∙ right.field k.0 f.name l.0.0 (ap (option_map (λ (z : ℕ × TTy). z.0)) (known (field_named s k.0 f.name) (Unknown f.at) l.0 l.1))

    Get_back : (x : tree.Expr) (f : Named) (at : ℕ) → ExprBack x → ExprBack (e.Get at x f)
    Get_back x f at gx vars asked r h =
        let k = part.Get_parts s vars asked x f at r h in
        let a = gx vars None k.0 k.2 in
        fitted asked at k.1.2 (t.Get k.0.tree k.1.0 k.1.1) (get (expr_of k.0.tree) k.1.0 k.1.1) _ r (seen.Get_seen k.0.tree k.1.0 k.1.1) k.4
        (ap (λ z. e.Get 0 z (named (n.field k.1.0 k.1.1))) a.0 ∙ ap (λ z. e.Get 0 (stripped_expr x) (named z)) (field_right k.0.ty k.0.at f k.1 k.3) ∙ sym (layer.Get_stripped x f at), refl)

    Find_source_back : (model : Named) (xs : List SureFilter) (at : ℕ) → SourceBack (se.Find at model (map (λ (x : SureFilter). x.0) xs))
    Find_source_back model xs at vars r h =
        let plain : List Filter = map (λ (x : SureFilter). x.0) xs in
        let k = part.Find_source_parts s vars model plain at r h in
        let each = each_ok (typed_filter s vars k.0) plain [] k.1 k.3 in
        let all : EachOk (typed_filter s vars k.0) plain k.1 = subst (EachOk (typed_filter s vars k.0) plain) each.1 each.2 in
        source_seen model.at k.0 (ts.Find k.0 k.1) (find k.0 (filters_of (map filter_of k.1))) _ r (seen.Find_seen k.0 k.1) k.4
        (ap (λ ys. se.Find 0 (named (n.model k.0)) ys) (filters_back vars k.0 xs k.1 all)
        ∙ ap (λ z. se.Find 0 (named z) (map stripped_filter plain)) (right.model model.name k.0 (known (model_named s model.name) (Unknown model.at) k.0 k.2))
        ∙ sym (layer.Find_stripped model plain at))

    Find_back : (model : Named) (xs : List SureFilter) (at : ℕ) → SetBack (se.Find at model (map (λ (x : SureFilter). x.0) xs))
    Find_back model xs at =
        let source = Find_source_back model xs at in (
          λ vars content r h.
              let k = part.Find_parts s vars content model (map (λ (x : SureFilter). x.0) xs) at r h in
              chain_back k.0 r _ (source vars k.0 k.2) k.4,
          source,
        )

    Static_back : (x : Named) → ItemBack (i.Static x)
    Static_back x vars content r h rest =
        let k = part.Static_parts s vars content x r h in
        let there : item_of r rest ≡ static_item k.1 rest = sym (ap (λ z. item_of z rest) k.4) ∙ ap (λ (f : Items → Items). f rest) (seen.Static_seen k.1) in
        ap (written_items n) there
        ∙ ap (λ z. i.Static (named z) ∷ written_items n rest) (right.static x.name k.1 (known (static_named s x.name) (Unknown x.at) k.1 k.3))
        ∙ ap (λ z. z ∷ written_items n rest) (sym (layer.Static_stripped x))

    Filter_back : (f : Named) (op : FilterOp) (x : tree.Expr) → ExprBack x → FilterBack (roll-Filter (record { field = f; op = op; value = x }))
    Filter_back f op x gx vars m r h rest =
        let k = part.Filter_parts s vars m f op x r h in
        let there : filter_of r rest ≡ filter_and k.0.0 op (expr_of k.2.tree) rest
        = sym (ap (λ z. filter_of z rest) k.6) ∙ ap (λ (g : Filters → Filters). g rest) (seen.Test_seen k.0.0 op k.2.tree) in
        let a = gx vars (Some k.1) k.2 k.5 in
        ap (written_filters n m) there
        ∙ ap (λ z. roll-Filter (record { field = named (n.field m k.0.0); op = op; value = z }) ∷ written_filters n m rest) a.0
        ∙ ap (λ z. roll-Filter (record { field = named z; op = op; value = stripped_expr x }) ∷ written_filters n m rest) (right.field m f.name k.0.0 (ap (option_map (λ (z : ℕ × TTy). z.0)) (known (field_named s m f.name) (Unknown f.at) k.0 k.3)))
        ∙ ap (λ z. z ∷ written_filters n m rest) (sym (layer.Filter_stripped f op x))

    -- ---- whole trees

    abbrev SureExpr : Type 0
    SureExpr = (x : tree.Expr) × ExprBack x

    abbrev SureSet : Type 0
    SureSet = (x : tree_set.SetExpr) × SetBack x

    expr_step : (y : Expr-F SureExpr SureItem SureSet SureFilter)
        → ExprBack (roll-Expr (map-Expr SureExpr SureItem SureSet SureFilter tree.Expr Item tree_set.SetExpr Filter (λ e. e.0) (λ e. e.0) (λ e. e.0) (λ e. e.0) y))
    expr_step (Expr-F.Flag at value) = subst (ExprBack) (sym (e.rolls-Flag at value)) (Flag_back value at)
    expr_step (Expr-F.Num at value) = subst (ExprBack) (sym (e.rolls-Num at value)) (Num_back value at)
    expr_step (Expr-F.Str at text) = subst (ExprBack) (sym (e.rolls-Str at text)) (Str_back text at)
    expr_step (Expr-F.Var at x) = subst (ExprBack) (sym (e.rolls-Var at x)) (Var_back x at)
    expr_step (Expr-F.NoneLit at) = subst (ExprBack) (sym (e.rolls-NoneLit at)) (NoneLit_back at)
    expr_step (Expr-F.SomeLit at x) = subst (ExprBack) (sym (e.rolls-SomeLit at x.0)) (SomeLit_back x.0 at x.1)
    expr_step (Expr-F.Get at x f) = subst (ExprBack) (sym (e.rolls-Get at x.0 f)) (Get_back x.0 f at x.1)
    expr_step (Expr-F.Cmp at op x y) = subst (ExprBack) (sym (e.rolls-Cmp at op x.0 y.0)) (Cmp_back op x.0 y.0 at x.1 y.1)
    expr_step (Expr-F.Member at x set) = subst (ExprBack) (sym (e.rolls-Member at x.0 set.0)) (Member_back x.0 set.0 at x.1 set.1)
    expr_step (Expr-F.Not at x) = subst (ExprBack) (sym (e.rolls-Not at x.0)) (Not_back x.0 at x.1)
    expr_step (Expr-F.And at x y) = subst (ExprBack) (sym (e.rolls-And at x.0 y.0)) (And_back x.0 y.0 at x.1 y.1)
    expr_step (Expr-F.Or at x y) = subst (ExprBack) (sym (e.rolls-Or at x.0 y.0)) (Or_back x.0 y.0 at x.1 y.1)
    expr_step (Expr-F.IfE at c x y) = subst (ExprBack) (sym (e.rolls-IfE at c.0 x.0 y.0)) (IfE_back c.0 x.0 y.0 at c.1 x.1 y.1)
    expr_step (Expr-F.MatchE at x y (v, z)) = subst (ExprBack) (sym (e.rolls-MatchE at x.0 y.0 (v, z.0))) (MatchE_back x.0 y.0 v z.0 at x.1 y.1 z.1)

    set_step : (y : SetExpr-F SureExpr SureItem SureSet SureFilter)
        → SetBack (roll-SetExpr (map-SetExpr SureExpr SureItem SureSet SureFilter tree.Expr Item tree_set.SetExpr Filter (λ e. e.0) (λ e. e.0) (λ e. e.0) (λ e. e.0) y))
    set_step (SetExpr-F.Everyone at word) = subst (SetBack) (sym (se.rolls-Everyone at word)) (Everyone_back word at)
    set_step (SetExpr-F.Nobody at) = subst (SetBack) (sym (se.rolls-Nobody at)) (Nobody_back at)
    set_step (SetExpr-F.Sum at x y) = subst (SetBack) (sym (se.rolls-Sum at x.0 y.0)) (Sum_back x.0 y.0 at x.1 y.1)
    set_step (SetExpr-F.Less at x y) = subst (SetBack) (sym (se.rolls-Less at x.0 y.0)) (Less_back x.0 y.0 at x.1 y.1)
    set_step (SetExpr-F.Path at x) = subst (SetBack) (sym (se.rolls-Path at x.0)) (Path_back x.0 at x.1)
    set_step (SetExpr-F.MapS at x v y) = subst (SetBack) (sym (se.rolls-MapS at x.0 v y.0)) (MapS_back x.0 v y.0 at x.1 y.1)
    set_step (SetExpr-F.FlatS at x v y) = subst (SetBack) (sym (se.rolls-FlatS at x.0 v y.0)) (FlatS_back x.0 v y.0 at x.1 y.1)
    set_step (SetExpr-F.IfS at c x y) = subst (SetBack) (sym (se.rolls-IfS at c.0 x.0 y.0)) (IfS_back c.0 x.0 y.0 at c.1 x.1 y.1)
    set_step (SetExpr-F.MatchS at x y v z) = subst (SetBack) (sym (se.rolls-MatchS at x.0 y.0 v z.0)) (MatchS_back x.0 y.0 v z.0 at x.1 y.1 z.1)
    set_step (SetExpr-F.List at xs) = subst (SetBack) (sym (se.rolls-List at (map (λ (x : SureItem). x.0) xs))) (List_back xs at)
    set_step (SetExpr-F.Find at model xs) = subst (SetBack) (sym (se.rolls-Find at model (map (λ (x : SureFilter). x.0) xs))) (Find_back model xs at)

    item_step : (y : Item-F SureExpr SureItem SureSet SureFilter)
        → ItemBack (roll-Item (map-Item SureExpr SureItem SureSet SureFilter tree.Expr Item tree_set.SetExpr Filter (λ e. e.0) (λ e. e.0) (λ e. e.0) (λ e. e.0) y))
    item_step (Item-F.Static x) = subst (ItemBack) (sym (i.rolls-Static x)) (Static_back x)
    item_step (Item-F.One x) = subst (ItemBack) (sym (i.rolls-One x.0)) (One_back x.0 x.1)

    filter_step : (y : Filter-F SureExpr SureItem SureSet SureFilter)
        → FilterBack (roll-Filter (map-Filter SureExpr SureItem SureSet SureFilter tree.Expr Item tree_set.SetExpr Filter (λ e. e.0) (λ e. e.0) (λ e. e.0) (λ e. e.0) y))
    filter_step y = Filter_back y.field y.op y.value.0 y.value.1

    pub expr_back : (x : tree.Expr) → ExprBack x
    expr_back =
        ind-Expr (ExprBack) (ItemBack) (SetBack) (FilterBack) (λ x y is. subst (λ z. ExprBack (roll-Expr z)) is (expr_step y)) (λ x y is. subst (λ z. ItemBack (roll-Item z)) is (item_step y))
        (λ x y is. subst (λ z. SetBack (roll-SetExpr z)) is (set_step y)) (λ x y is. subst (λ z. FilterBack (roll-Filter z)) is (filter_step y))

    pub set_back : (x : tree_set.SetExpr) → SetBack x
    set_back =
        ind-SetExpr (ExprBack) (ItemBack) (SetBack) (FilterBack) (λ x y is. subst (λ z. ExprBack (roll-Expr z)) is (expr_step y)) (λ x y is. subst (λ z. ItemBack (roll-Item z)) is (item_step y))
        (λ x y is. subst (λ z. SetBack (roll-SetExpr z)) is (set_step y)) (λ x y is. subst (λ z. FilterBack (roll-Filter z)) is (filter_step y))

    -- ---- policies

    pub policy_back : (m : ℕ) (p : tree_policy.Policy) (typed : TPolicy) → typed_policy s m p ≡ Ok typed → written_policy n (policy_of typed) ≡ stripped_policy p
    policy_back m (p.Everyone at) typed h = sym (ap (λ (z : TPolicy). written_policy n (policy_of z)) (ok_same tp.Everyone typed h))
    policy_back m (p.Nobody at) typed h = sym (ap (λ (z : TPolicy). written_policy n (policy_of z)) (ok_same tp.Nobody typed h))
    policy_back m (p.Fun x set) typed h =
        let rest : TSet → Checked TPolicy = λ z. Ok (tp.Fun x.name z) in
        let k = part.first_part (typed_set s (record_var m x) Principals set) rest typed h in
        sym (ap (λ (z : TPolicy). written_policy n (policy_of z)) (ok_same (tp.Fun x.name k.0) typed k.2))
        ∙ ap (λ z. p.Fun (named x.name) z) ((set_back set).0 (record_var m x) Principals k.0 k.1)
