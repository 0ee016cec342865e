-- By induction on the tree: what typing gives has the names and the signs of what it was typed of.
use Rattle.std.proofs.Common.{◌≡◌, ℕ, ℤ, Bool, true, false, List, [], ◌∷◌, ◌++◌, map, refl, sym, ◌∙◌, ap, subst}
use Rattle.std.specs.Prelude.{Option, Some, None, Ok, Err, option_and_then, option_map, position, slice_get, if◌then◌else◌}
use Rattle.std.specs.List.{list_any}
use Rattle.std.specs.Str.{bytes_eq}
use Rattle.std.proofs.lemmas.List.{map-append}
use Rattle.text_tree.specs.declared.named.Named.{Named}
use Rattle.text_tree.specs.declared.exprs.CmpOp.{CmpOp}
use Rattle.text_tree.specs.declared.exprs.CmpOp.TheVariants.{Eq, Ne, Lt, Le, Gt, Ge}
use Rattle.text_tree.specs.declared.exprs.FilterOp.{FilterOp}
use Rattle.text_tree.specs.declared.exprs.Expr as tree
use Rattle.text_tree.specs.declared.exprs.Expr.{map-Expr, roll-Expr}
use Rattle.text_tree.specs.declared.exprs.SetExpr as tree_set
use Rattle.text_tree.specs.declared.exprs.SetExpr.{map-SetExpr, roll-SetExpr}
use Rattle.text_tree.specs.declared.exprs.Item.{Item, map-Item, roll-Item}
use Rattle.text_tree.specs.declared.exprs.Filter.{Filter, map-Filter, roll-Filter}
use Rattle.text_tree.specs.declared.exprs.Expr.TheOpen.{Expr-F, SetExpr-F, Item-F, Filter-F}
use Rattle.text_tree.specs.declared.exprs.Expr.TheFolds.{ind-Expr, ind-SetExpr}
use Rattle.text_tree.specs.declared.exprs.Expr.TheVariants as e
use Rattle.text_tree.specs.declared.exprs.SetExpr.TheVariants as se
use Rattle.text_tree.specs.declared.exprs.Item.TheVariants as i
use Rattle.text_tree.specs.declared.policies.Policy as tree_policy
use Rattle.text_tree.specs.declared.policies.Policy.TheVariants as p
use Rattle.type_schema.specs.declared.types.TBase.{TBase}
use Rattle.type_schema.specs.declared.types.TBase.TheVariants as base
use Rattle.type_schema.specs.declared.types.TTy.{TTy}
use Rattle.type_schema.specs.declared.types.TTy.TheVariants.{Plain, Set, Opt}
use Rattle.type_schema.specs.declared.trees.TExpr.{TExpr}
use Rattle.type_schema.specs.declared.trees.TExpr.TheVariants as t
use Rattle.type_schema.specs.declared.trees.TSet.{TSet}
use Rattle.type_schema.specs.declared.trees.TSet.TheVariants as ts
use Rattle.type_schema.specs.declared.trees.TItem.{TItem}
use Rattle.type_schema.specs.declared.trees.TFilter.{TFilter}
use Rattle.type_schema.specs.declared.trees.TPolicy.{TPolicy}
use Rattle.type_schema.specs.declared.trees.TPolicy.TheVariants as tp
use Rattle.type_schema.specs.Trees.{Name, Expr, flag, num, str, var, just, get, within, negation, both, either, if_expr, match_expr, SetExpr, everyone, nobody, listed, union, minus, find, path, mapped, flat_mapped, if_set, match_set, Items, Filters, static_item, record_item, filter_and}
use Rattle.type_schema.specs.Schema.{Schema}
use Rattle.type_schema.specs.Views.{expr_of, set_of, item_of, filter_of, items_of, filters_of, policy_of}
use Rattle.type_typing.specs.declared.asked.Content.{Content}
use Rattle.type_typing.specs.declared.asked.Content.TheVariants.{Principals, Records}
use Rattle.type_typing.specs.declared.asked.Source.{Source}
use Rattle.type_typing.specs.declared.asked.Typed.{Typed}
use Rattle.type_typing.specs.declared.vars.Var.{Var}
use Rattle.type_typing.specs.declared.type_err.TypeErr.TheVariants.{Twice, Unknown, WrongType}
use Rattle.type_typing.specs.Asked.{fits, none_of, of_type, source, under}
use Rattle.type_typing.specs.Names.{var_named}
use Rattle.type_typing.specs.Compared.{alike, compared}
use Rattle.type_typing.specs.Exprs.{typed_expr, typed_set, typed_source, typed_item, typed_filter}
use Rattle.type_typing.specs.Policies.{record_var, typed_policy}
use Rattle.type_typing.specs.Outcome.{Checked}
use Rattle.type_typing.proofs.Fitted.{fits_is, known}
use Rattle.type_typing.proofs.Forms as form
use Rattle.type_typing.proofs.Parts as part
use Rattle.type_typing.proofs.Parts.{ok_same}
use Rattle.type_typing.proofs.Seen as seen
use Rattle.type_typing.proofs.Shown.{EachOk, each_ok}
use Rattle.type_anew.specs.Trees.{says_not}
use Rattle.type_anew.specs.Labels.{IsDirect, IsFree, IsLabelled, IsNamed, IsOrder, SetIsLabelled, ItemsAreLabelled, FiltersAreLabelled, PolicyIsLabelled}
use Rattle.type_anew.proofs.Scopes.{any-map, at_depth, name_of, position-map}

-- ---- names of variables

abbrev names_of : List Var → List Name
names_of vars = map name_of vars

one-more : (vars inner : List Var) (x : Named) (ty : TTy) (b : Bool) → (if b then Err (Twice x.at) else Ok (vars ++ (record { name = x.name; ty = ty }) ∷ [])) ≡ Ok inner
    → (b ≡ false) × (names_of inner ≡ names_of vars ++ x.name ∷ [])
one-more vars inner x ty true h = let never : ⊥ = cc in absurd never
one-more vars inner x ty false h =
    (refl, sym (ap names_of (ok_same (vars ++ (record { name = x.name; ty = ty }) ∷ []) inner h)) ∙ map-append name_of vars ((record { name = x.name; ty = ty }) ∷ []))

-- one more variable has a name that is free
under-names : (vars inner : List Var) (x : Named) (ty : TTy) → under vars x ty ≡ Ok inner → IsFree (names_of vars) x.name × (names_of inner ≡ names_of vars ++ x.name ∷ [])
unfolding under
under-names vars inner x ty h =
    let k = one-more vars inner x ty (list_any (λ (v : Var). bytes_eq v.name x.name) vars) h in
    (any-map name_of (λ y. bytes_eq y x.name) vars ∙ k.0, k.1)

-- a variable has its depth among the names
var-labelled : (vars : List Var) (name : Name) (r : ℕ × TTy) → var_named vars name ≡ Some r → IsNamed (names_of vars) r.0 name
unfolding var_named
var-labelled vars name r h = position-map name_of (λ x. bytes_eq x name) vars ∙ out (position (λ (v : Var). bytes_eq v.name name) vars) h
  where
    within : (d : ℕ) (o : Option Var) → option_map (at_depth d) o ≡ Some r → Some d ≡ Some r.0
    within d None h = absurd (cc h)
    within d (Some v) h = let same : at_depth d v ≡ r = cc h in ap (λ (z : ℕ × TTy). Some z.0) same

    out : (o : Option ℕ) → option_and_then (λ d. option_map (at_depth d) (slice_get vars d)) o ≡ Some r → o ≡ Some r.0
    out None h = absurd (cc h)
    out (Some d) h = within d (slice_get vars d) h

-- ---- how each tree is labelled

abbrev pub Both : List Var → Expr → Type 0
Both vars x = IsDirect x × IsLabelled (names_of vars) x

abbrev pub ExprLabelled : Schema → tree.Expr → Type 0
ExprLabelled s x = (vars : List Var) (asked : Option TTy) (r : Typed) → typed_expr s vars asked x ≡ Ok r → Both vars (expr_of r.tree)

abbrev pub ContentLabelled : Schema → tree_set.SetExpr → Type 0
ContentLabelled s x = (vars : List Var) (content : Content) (r : TSet) → typed_set s vars content x ≡ Ok r → SetIsLabelled (names_of vars) (set_of r)

abbrev pub SourceLabelled : Schema → tree_set.SetExpr → Type 0
SourceLabelled s x = (vars : List Var) (r : Source) → typed_source s vars x ≡ Ok r → SetIsLabelled (names_of vars) (set_of r.set)

abbrev pub SetLabelled : Schema → tree_set.SetExpr → Type 0
SetLabelled s x = ContentLabelled s x × SourceLabelled s x

abbrev pub ItemLabelled : Schema → Item → Type 0
ItemLabelled s x =
    (vars : List Var) (content : Content) (r : TItem) → typed_item s vars content x ≡ Ok r → (rest : Items) → ItemsAreLabelled (names_of vars) rest → ItemsAreLabelled (names_of vars) (item_of r rest)

abbrev pub FilterLabelled : Schema → Filter → Type 0
FilterLabelled s x =
    (vars : List Var) (m : ℕ) (r : TFilter) → typed_filter s vars m x ≡ Ok r → (rest : Filters) → FiltersAreLabelled (names_of vars) rest → FiltersAreLabelled (names_of vars) (filter_of r rest)

abbrev SureItem : Schema → Type 0
SureItem s = (x : Item) × ItemLabelled s x

abbrev SureFilter : Schema → Type 0
SureFilter s = (x : Filter) × FilterLabelled s x

items_labelled : (s : Schema) (vars : List Var) (content : Content) (xs : List (SureItem s)) (rs : List TItem)
    → EachOk (typed_item s vars content) (map (λ (x : SureItem s). x.0) xs) rs → ItemsAreLabelled (names_of vars) (items_of (map item_of rs))
items_labelled s vars content [] [] each = tt
items_labelled s vars content [] (r ∷ rs) each = absurd each
items_labelled s vars content (x ∷ xs) [] each = absurd each
items_labelled s vars content (x ∷ xs) (r ∷ rs) each = x.1 vars content r each.0 (items_of (map item_of rs)) (items_labelled s vars content xs rs each.1)

filters_labelled : (s : Schema) (vars : List Var) (m : ℕ) (xs : List (SureFilter s)) (rs : List TFilter)
    → EachOk (typed_filter s vars m) (map (λ (x : SureFilter s). x.0) xs) rs → FiltersAreLabelled (names_of vars) (filters_of (map filter_of rs))
filters_labelled s vars m [] [] each = tt
filters_labelled s vars m [] (r ∷ rs) each = absurd each
filters_labelled s vars m (x ∷ xs) [] each = absurd each
filters_labelled s vars m (x ∷ xs) (r ∷ rs) each = x.1 vars m r each.0 (filters_of (map filter_of rs)) (filters_labelled s vars m xs rs each.1)

-- ---- what fits the place

fitted : (vars : List Var) (asked : Option TTy) (at : ℕ) (ty : TTy) (tree : TExpr) (x : Expr) (r : Typed) → expr_of tree ≡ x → fits (of_type at ty tree) asked ≡ Ok r → Both vars x
    → Both vars (expr_of r.tree)
fitted vars asked at ty tree x r saw h lab =
    let k = fits_is (of_type at ty tree) asked r h in
    subst (λ (z : Typed). Both vars (expr_of z.tree)) k.0 (subst (Both vars) (sym saw) lab)

-- ---- comparisons

eq_labelled : (vars : List Var) (b : TBase) (x y : TExpr) → Both vars (expr_of x) → Both vars (expr_of y) → Both vars (expr_of (alike Eq b x y))
unfolding alike
eq_labelled vars base.Bool x y gx gy = subst (Both vars) (sym (seen.Iff_seen x y Eq)) (refl, (tt, gx, gy))
eq_labelled vars base.Int x y gx gy = subst (Both vars) (sym (seen.Eq_seen x y Eq)) (refl, (tt, gx, gy))
eq_labelled vars base.Text x y gx gy = subst (Both vars) (sym (seen.Eq_seen x y Eq)) (refl, (tt, gx, gy))
eq_labelled vars (base.Id m) x y gx gy = subst (Both vars) (sym (seen.Eq_seen x y Eq)) (refl, (tt, gx, gy))

ne_labelled : (vars : List Var) (b : TBase) (x y : TExpr) → Both vars (expr_of x) → Both vars (expr_of y) → IsLabelled (names_of vars) (expr_of (alike Ne b x y))
unfolding alike
ne_labelled vars base.Bool x y gx gy = subst (IsLabelled (names_of vars)) (sym (seen.Iff_seen x y Ne)) (tt, gx, gy)
ne_labelled vars base.Int x y gx gy = subst (IsLabelled (names_of vars)) (sym (seen.Eq_seen x y Ne)) (tt, gx, gy)
ne_labelled vars base.Text x y gx gy = subst (IsLabelled (names_of vars)) (sym (seen.Eq_seen x y Ne)) (tt, gx, gy)
ne_labelled vars (base.Id m) x y gx gy = subst (IsLabelled (names_of vars)) (sym (seen.Eq_seen x y Ne)) (tt, gx, gy)

not_labelled : (vars : List Var) (x : TExpr) → IsLabelled (names_of vars) (expr_of x) → Both vars (expr_of (t.Not x))
not_labelled vars x gx = subst (Both vars) (sym (seen.Not_seen x)) (refl, gx)

less_labelled : (vars : List Var) (op : CmpOp) (x y : TExpr) → IsOrder op → Both vars (expr_of x) → Both vars (expr_of y) → IsLabelled (names_of vars) (expr_of (t.Less x y op))
less_labelled vars op x y is gx gy = subst (IsLabelled (names_of vars)) (sym (seen.Less_seen x y op)) (is, gx, gy)

compared_labelled : (vars : List Var) (op : CmpOp) (b : TBase) (x y : TExpr) → Both vars (expr_of x) → Both vars (expr_of y) → Both vars (expr_of (compared op b x y))
unfolding compared
compared_labelled vars Eq b x y gx gy = eq_labelled vars b x y gx gy
compared_labelled vars Ne b x y gx gy = not_labelled vars (alike Ne b x y) (ne_labelled vars b x y gx gy)
compared_labelled vars Lt b x y gx gy = (ap says_not (seen.Less_seen x y Lt), less_labelled vars Lt x y tt gx gy)
compared_labelled vars Le b x y gx gy = not_labelled vars (t.Less y x Le) (less_labelled vars Le y x tt gy gx)
compared_labelled vars Gt b x y gx gy = (ap says_not (seen.Less_seen y x Gt), less_labelled vars Gt y x tt gy gx)
compared_labelled vars Ge b x y gx gy = not_labelled vars (t.Less x y Ge) (less_labelled vars Ge x y tt gx gy)

-- ---- each form, of its parts

module _ (s : Schema) where
  Flag_labelled : (value : Bool) (at : ℕ) → ExprLabelled s (e.Flag at value)
  Flag_labelled value at vars asked r h =
      fitted vars asked at (Plain base.Bool) (t.Flag value) (flag value) r (seen.Flag_seen value) (sym (form.Flag_is s vars asked value at) ∙ h) (refl, tt)

  Num_labelled : (value : ℤ) (at : ℕ) → ExprLabelled s (e.Num at value)
  Num_labelled value at vars asked r h =
      fitted vars asked at (Plain base.Int) (t.Num value) (num value) r (seen.Num_seen value) (sym (form.Num_is s vars asked value at) ∙ h) (refl, tt)

  Str_labelled : (text : List ℕ) (at : ℕ) → ExprLabelled s (e.Str at text)
  Str_labelled text at vars asked r h =
      fitted vars asked at (Plain base.Text) (t.Str text) (str text) r (seen.Str_seen text) (sym (form.Str_is s vars asked text at) ∙ h) (refl, tt)

  Var_labelled : (x : Named) (at : ℕ) → ExprLabelled s (e.Var at x)
  Var_labelled x at vars asked r h =
      let k = part.Var_parts s vars asked x at r h in
      fitted vars asked at k.0.1 (t.Var k.0.0 x.name) (var k.0.0 x.name) r (seen.Var_seen k.0.0 x.name) k.2
      (refl, var-labelled vars x.name k.0 (known (var_named vars x.name) (Unknown x.at) k.0 k.1))

  none_labelled : (vars : List Var) (at : ℕ) (asked : Option TTy) (r : Typed) → none_of asked at ≡ Ok r → Both vars (expr_of r.tree)
  unfolding none_of
  none_labelled vars at None r h = let never : ⊥ = cc in absurd never
  none_labelled vars at (Some (Plain b)) r h = let never : ⊥ = cc in absurd never
  none_labelled vars at (Some (Set m)) r h = let never : ⊥ = cc in absurd never
  none_labelled vars at (Some (Opt b)) r h =
      let made : Both vars (expr_of t.NoneLit) = subst (Both vars) (sym seen.NoneLit_seen) (refl, tt) in
      subst (λ (z : Typed). Both vars (expr_of z.tree)) (ok_same (of_type at (Opt b) t.NoneLit) r h) made

  NoneLit_labelled : (at : ℕ) → ExprLabelled s (e.NoneLit at)
  NoneLit_labelled at vars asked r h = none_labelled vars at asked r (sym (form.NoneLit_is s vars asked at) ∙ h)

  SomeLit_labelled : (x : tree.Expr) (at : ℕ) → ExprLabelled s x → ExprLabelled s (e.SomeLit at x)
  SomeLit_labelled x at gx vars asked r h =
      let k = part.SomeLit_parts s vars asked x at r h in
      let a = gx vars _ k.0 k.2 in
      fitted vars asked at (Opt k.1) (t.SomeLit k.0.tree) (just (expr_of k.0.tree)) r (seen.SomeLit_seen k.0.tree) k.4 (refl, a)

  Get_labelled : (x : tree.Expr) (f : Named) (at : ℕ) → ExprLabelled s x → ExprLabelled s (e.Get at x f)
  Get_labelled x f at gx vars asked r h =
      let k = part.Get_parts s vars asked x f at r h in
      let a = gx vars None k.0 k.2 in
      fitted vars asked at k.1.2 (t.Get k.0.tree k.1.0 k.1.1) (get (expr_of k.0.tree) k.1.0 k.1.1) r (seen.Get_seen k.0.tree k.1.0 k.1.1) k.4 (refl, a)

  Cmp_labelled : (op : CmpOp) (x y : tree.Expr) (at : ℕ) → ExprLabelled s x → ExprLabelled s y → ExprLabelled s (e.Cmp at op x y)
  Cmp_labelled op x y at gx gy vars asked r h =
      let k = part.Cmp_parts s vars asked op x y at r h in
      let whole : TExpr = compared op k.1 k.0.tree k.2.tree in
      let a = gx vars _ k.0 k.3 in
      let b = gy vars _ k.2 k.5 in
      fitted vars asked at (Plain base.Bool) whole (expr_of whole) r refl k.6 (compared_labelled vars op k.1 k.0.tree k.2.tree a b)

  Member_labelled : (x : tree.Expr) (set : tree_set.SetExpr) (at : ℕ) → ExprLabelled s x → SetLabelled s set → ExprLabelled s (e.Member at x set)
  Member_labelled x set at gx gset vars asked r h =
      let k = part.Member_parts s vars asked x set at r h in
      let a = gx vars None k.0 k.3 in
      let all = gset.0 vars (Records k.1) k.2 k.5 in
      fitted vars asked at (Plain base.Bool) (t.Member k.0.tree k.1 k.2) (within (expr_of k.0.tree) k.1 (set_of k.2)) r (seen.Member_seen k.0.tree k.1 k.2) k.6 (refl, (a, all))

  Not_labelled : (x : tree.Expr) (at : ℕ) → ExprLabelled s x → ExprLabelled s (e.Not at x)
  Not_labelled x at gx vars asked r h =
      let k = part.Not_parts s vars asked x at r h in
      let a = gx vars _ k.0 k.1 in
      fitted vars asked at (Plain base.Bool) (t.Not k.0.tree) (negation (expr_of k.0.tree)) r (seen.Not_seen k.0.tree) k.2 (refl, a.1)

  And_labelled : (x y : tree.Expr) (at : ℕ) → ExprLabelled s x → ExprLabelled s y → ExprLabelled s (e.And at x y)
  And_labelled x y at gx gy vars asked r h =
      let k = part.And_parts s vars asked x y at r h in
      let a = gx vars _ k.0 k.2 in
      let b = gy vars _ k.1 k.3 in
      fitted vars asked at (Plain base.Bool) (t.And k.0.tree k.1.tree) (both (expr_of k.0.tree) (expr_of k.1.tree)) r (seen.And_seen k.0.tree k.1.tree) k.4 (refl, (a, b))

  Or_labelled : (x y : tree.Expr) (at : ℕ) → ExprLabelled s x → ExprLabelled s y → ExprLabelled s (e.Or at x y)
  Or_labelled x y at gx gy vars asked r h =
      let k = part.Or_parts s vars asked x y at r h in
      let a = gx vars _ k.0 k.2 in
      let b = gy vars _ k.1 k.3 in
      fitted vars asked at (Plain base.Bool) (t.Or k.0.tree k.1.tree) (either (expr_of k.0.tree) (expr_of k.1.tree)) r (seen.Or_seen k.0.tree k.1.tree) k.4 (refl, (a, b))

  branched : (vars : List Var) (tree : TExpr) (x : Expr) (r : Typed) (at : ℕ) (ty : TTy) → expr_of tree ≡ x → of_type at ty tree ≡ r → Both vars x → Both vars (expr_of r.tree)
  branched vars tree x r at ty saw made lab = subst (λ (z : Typed). Both vars (expr_of z.tree)) made (subst (Both vars) (sym saw) lab)

  IfE_labelled : (c x y : tree.Expr) (at : ℕ) → ExprLabelled s c → ExprLabelled s x → ExprLabelled s y → ExprLabelled s (e.IfE at c x y)
  IfE_labelled c x y at gc gx gy vars asked r h =
      let k = part.IfE_parts s vars asked c x y at r h in
      let a = gc vars _ k.0 k.3 in
      let b = gx vars asked k.1 k.4 in
      let d = gy vars (Some k.1.ty) k.2 k.5 in
      branched vars (t.IfE k.0.tree k.1.tree k.2.tree) (if_expr (expr_of k.0.tree) (expr_of k.1.tree) (expr_of k.2.tree)) r at k.1.ty
      (seen.IfE_seen k.0.tree k.1.tree k.2.tree) k.6 (refl, (a, b, d))

  MatchE_labelled : (x y : tree.Expr) (v : Named) (z : tree.Expr) (at : ℕ) → ExprLabelled s x → ExprLabelled s y → ExprLabelled s z → ExprLabelled s (e.MatchE at x y (v, z))
  MatchE_labelled x y v z at gx gy gz vars asked r h =
      let k = part.MatchE_parts s vars asked x y v z at r h in
      let a = gx vars None k.0 k.5 in
      let b = gy vars asked k.2 k.7 in
      let d = gz k.3 (Some k.2.ty) k.4 k.9 in
      let new = under-names vars k.3 v (Plain k.1) k.8 in
      branched vars (t.MatchE k.0.tree k.2.tree v.name k.4.tree) (match_expr (expr_of k.0.tree) (expr_of k.2.tree) v.name (expr_of k.4.tree)) r at k.2.ty
      (seen.MatchE_seen k.0.tree k.2.tree v.name k.4.tree) k.10 (refl, (a, b, new.0, (d.0, subst (λ ns. IsLabelled ns (expr_of k.4.tree)) new.1 d.1)))

  -- ---- sets

  as_seen : (vars : List Var) (a r : TSet) (x : SetExpr) → set_of a ≡ x → a ≡ r → SetIsLabelled (names_of vars) x → SetIsLabelled (names_of vars) (set_of r)
  as_seen vars a r x saw e lab = subst (λ (z : TSet). SetIsLabelled (names_of vars) (set_of z)) e (subst (SetIsLabelled (names_of vars)) (sym saw) lab)

  no_source : (vars : List Var) (x : tree_set.SetExpr) (at : ℕ) (r : Source) → typed_source s vars x ≡ Err (WrongType at) → typed_source s vars x ≡ Ok r → SetIsLabelled (names_of vars) (set_of r.set)
  no_source vars x at r none h = let never : ⊥ = cc in absurd never

  Everyone_labelled : (word at : ℕ) → SetLabelled s (se.Everyone at word)
  Everyone_labelled word at = (
    λ vars content r h.
        let k = part.Everyone_parts s vars content word at r h in
        as_seen vars ts.Everyone r everyone seen.Everyone_seen k.2 tt,
    λ vars r h. no_source vars (se.Everyone at word) at r (form.Everyone_no_source s vars word at) h,
  )

  Nobody_labelled : (at : ℕ) → SetLabelled s (se.Nobody at)
  Nobody_labelled at = (
    λ vars content r h. as_seen vars ts.Nobody r nobody seen.Nobody_seen (ok_same ts.Nobody r (sym (form.Nobody_is s vars content at) ∙ h)) tt,
    λ vars r h. no_source vars (se.Nobody at) at r (form.Nobody_no_source s vars at) h,
  )

  List_labelled : (xs : List (SureItem s)) (at : ℕ) → SetLabelled s (se.List at (map (λ (x : SureItem s). x.0) xs))
  List_labelled xs at =
      let plain : List Item = map (λ (x : SureItem s). x.0) xs in (
        λ vars content r h.
            let k = part.List_parts s vars content plain at r h in
            let each = each_ok (typed_item s vars content) plain [] k.0 k.1 in
            let all : EachOk (typed_item s vars content) plain k.0 = subst (EachOk (typed_item s vars content) plain) each.1 each.2 in
            as_seen vars (ts.List k.0) r (listed (items_of (map item_of k.0))) (seen.List_seen k.0) k.2 (items_labelled s vars content xs k.0 all),
        λ vars r h. no_source vars (se.List at plain) at r (form.List_no_source s vars plain at) h,
      )

  Sum_labelled : (x y : tree_set.SetExpr) (at : ℕ) → SetLabelled s x → SetLabelled s y → SetLabelled s (se.Sum at x y)
  Sum_labelled x y at gx gy = (
    λ vars content r h.
        let k = part.Sum_parts s vars content x y at r h in
        as_seen vars (ts.Sum k.0 k.1) r (union (set_of k.0) (set_of k.1)) (seen.Sum_seen k.0 k.1) k.4 (gx.0 vars content k.0 k.2, gy.0 vars content k.1 k.3),
    λ vars r h. no_source vars (se.Sum at x y) at r (form.Sum_no_source s vars x y at) h,
  )

  Less_labelled : (x y : tree_set.SetExpr) (at : ℕ) → SetLabelled s x → SetLabelled s y → SetLabelled s (se.Less at x y)
  Less_labelled x y at gx gy = (
    λ vars content r h.
        let k = part.Less_parts s vars content x y at r h in
        as_seen vars (ts.Less k.0 k.1) r (minus (set_of k.0) (set_of k.1)) (seen.Minus_seen k.0 k.1) k.4 (gx.0 vars content k.0 k.2, gy.0 vars content k.1 k.3),
    λ vars r h. no_source vars (se.Less at x y) at r (form.Less_no_source s vars x y at) h,
  )

  -- a source as what it stands for
  source_seen : (vars : List Var) (at m : ℕ) (a : TSet) (x : SetExpr) (r : Source) → set_of a ≡ x → source at m a ≡ r → SetIsLabelled (names_of vars) x → SetIsLabelled (names_of vars) (set_of r.set)
  source_seen vars at m a x r saw h lab = subst (λ (z : Source). SetIsLabelled (names_of vars) (set_of z.set)) h (subst (SetIsLabelled (names_of vars)) (sym saw) lab)

  -- a chain where it holds what is asked
  chain_labelled : (vars : List Var) (of : Source) (r : TSet) → SetIsLabelled (names_of vars) (set_of of.set) → of.set ≡ r → SetIsLabelled (names_of vars) (set_of r)
  chain_labelled vars of r lab h = subst (λ (z : TSet). SetIsLabelled (names_of vars) (set_of z)) h lab

  Find_source_labelled : (model : Named) (xs : List (SureFilter s)) (at : ℕ) → SourceLabelled s (se.Find at model (map (λ (x : SureFilter s). x.0) xs))
  Find_source_labelled model xs at vars r h =
      let plain : List Filter = map (λ (x : SureFilter s). x.0) xs in
      let k = part.Find_source_parts s vars model plain at r h in
      let each = each_ok (typed_filter s vars k.0) plain [] k.1 k.3 in
      let all : EachOk (typed_filter s vars k.0) plain k.1 = subst (EachOk (typed_filter s vars k.0) plain) each.1 each.2 in
      source_seen vars model.at k.0 (ts.Find k.0 k.1) (find k.0 (filters_of (map filter_of k.1))) r (seen.Find_seen k.0 k.1) k.4 (filters_labelled s vars k.0 xs k.1 all)

  Path_source_labelled : (x : tree.Expr) (at : ℕ) → ExprLabelled s x → SourceLabelled s (se.Path at x)
  Path_source_labelled x at gx vars r h =
      let k = part.Path_source_parts s vars x at r h in
      let a = gx vars None k.0 k.2 in
      source_seen vars k.0.at k.1 (ts.Path k.1 k.0.tree) (path k.1 (expr_of k.0.tree)) r (seen.Path_seen k.1 k.0.tree) k.4 a

  MapS_source_labelled : (x : tree_set.SetExpr) (v : Named) (y : tree.Expr) (at : ℕ) → SetLabelled s x → ExprLabelled s y → SourceLabelled s (se.MapS at x v y)
  MapS_source_labelled x v y at gx gy vars r h =
      let k = part.MapS_source_parts s vars x v y at r h in
      let over = gx.1 vars k.0 k.4 in
      let a = gy k.1 None k.2 k.6 in
      let new = under-names vars k.1 v (Plain (base.Id k.0.model)) k.5 in
      source_seen vars k.0.at k.3 (ts.MapS k.0.set k.0.model v.name k.3 k.2.tree) (mapped (set_of k.0.set) k.0.model v.name k.3 (expr_of k.2.tree)) r
      (seen.MapS_seen k.0.set k.0.model v.name k.3 k.2.tree) k.8 (over, new.0, (a.0, subst (λ ns. IsLabelled ns (expr_of k.2.tree)) new.1 a.1))

  Find_labelled : (model : Named) (xs : List (SureFilter s)) (at : ℕ) → SetLabelled s (se.Find at model (map (λ (x : SureFilter s). x.0) xs))
  Find_labelled model xs at =
      let source = Find_source_labelled model xs at in (
        λ vars content r h.
            let k = part.Find_parts s vars content model (map (λ (x : SureFilter s). x.0) xs) at r h in
            chain_labelled vars k.0 r (source vars k.0 k.2) k.4,
        source,
      )

  Path_labelled : (x : tree.Expr) (at : ℕ) → ExprLabelled s x → SetLabelled s (se.Path at x)
  Path_labelled x at gx =
      let source = Path_source_labelled x at gx in (
        λ vars content r h.
            let k = part.Path_parts s vars content x at r h in
            chain_labelled vars k.0 r (source vars k.0 k.2) k.4,
        source,
      )

  MapS_labelled : (x : tree_set.SetExpr) (v : Named) (y : tree.Expr) (at : ℕ) → SetLabelled s x → ExprLabelled s y → SetLabelled s (se.MapS at x v y)
  MapS_labelled x v y at gx gy =
      let source = MapS_source_labelled x v y at gx gy in (
        λ vars content r h.
            let k = part.MapS_parts s vars content x v y at r h in
            chain_labelled vars k.0 r (source vars k.0 k.2) k.4,
        source,
      )

  FlatS_labelled : (x : tree_set.SetExpr) (v : Named) (y : tree_set.SetExpr) (at : ℕ) → SetLabelled s x → SetLabelled s y → SetLabelled s (se.FlatS at x v y)
  FlatS_labelled x v y at gx gy = (
    λ vars content r h.
        let k = part.FlatS_parts s vars content x v y at r h in
        let over = gx.1 vars k.0 k.3 in
        let new = under-names vars k.1 v (Plain (base.Id k.0.model)) k.4 in
        as_seen vars (ts.FlatS k.0.set k.0.model v.name k.2) r (flat_mapped (set_of k.0.set) k.0.model v.name (set_of k.2)) (seen.FlatS_seen k.0.set k.0.model v.name k.2) k.6
        (over, new.0, subst (λ ns. SetIsLabelled ns (set_of k.2)) new.1 (gy.0 k.1 content k.2 k.5)),
    λ vars r h. no_source vars (se.FlatS at x v y) at r (form.FlatS_no_source s vars x v y at) h,
  )

  IfS_labelled : (c : tree.Expr) (x y : tree_set.SetExpr) (at : ℕ) → ExprLabelled s c → SetLabelled s x → SetLabelled s y → SetLabelled s (se.IfS at c x y)
  IfS_labelled c x y at gc gx gy = (
    λ vars content r h.
        let k = part.IfS_parts s vars content c x y at r h in
        let a = gc vars _ k.0 k.3 in
        as_seen vars (ts.IfS k.0.tree k.1 k.2) r (if_set (expr_of k.0.tree) (set_of k.1) (set_of k.2)) (seen.IfS_seen k.0.tree k.1 k.2) k.6
        (a, gx.0 vars content k.1 k.4, gy.0 vars content k.2 k.5),
    λ vars r h. no_source vars (se.IfS at c x y) at r (form.IfS_no_source s vars c x y at) h,
  )

  MatchS_labelled : (x : tree.Expr) (y : tree_set.SetExpr) (v : Named) (z : tree_set.SetExpr) (at : ℕ) → ExprLabelled s x → SetLabelled s y → SetLabelled s z → SetLabelled s (se.MatchS at x y v z)
  MatchS_labelled x y v z at gx gy gz = (
    λ vars content r h.
        let k = part.MatchS_parts s vars content x y v z at r h in
        let a = gx vars None k.0 k.5 in
        let new = under-names vars k.3 v (Plain k.1) k.8 in
        as_seen vars (ts.MatchS k.0.tree k.2 v.name k.4) r (match_set (expr_of k.0.tree) (set_of k.2) v.name (set_of k.4)) (seen.MatchS_seen k.0.tree k.2 v.name k.4) k.10
        (a, gy.0 vars content k.2 k.7, new.0, subst (λ ns. SetIsLabelled ns (set_of k.4)) new.1 (gz.0 k.3 content k.4 k.9)),
    λ vars r h. no_source vars (se.MatchS at x y v z) at r (form.MatchS_no_source s vars x y v z at) h,
  )

  -- ---- items and filters

  Static_labelled : (x : Named) → ItemLabelled s (i.Static x)
  Static_labelled x vars content r h rest lab =
      let k = part.Static_parts s vars content x r h in
      let there : item_of r rest ≡ static_item k.1 rest = sym (ap (λ z. item_of z rest) k.4) ∙ ap (λ (f : Items → Items). f rest) (seen.Static_seen k.1) in
      subst (ItemsAreLabelled (names_of vars)) (sym there) lab

  One_labelled : (x : tree.Expr) → ExprLabelled s x → ItemLabelled s (i.One x)
  One_labelled x gx vars content r h rest lab =
      let k = part.One_parts s vars content x r h in
      let there : item_of r rest ≡ record_item k.1 (expr_of k.0.tree) rest
      = sym (ap (λ z. item_of z rest) k.6) ∙ ap (λ (f : Items → Items). f rest) (seen.One_seen k.1 k.0.tree) in
      let a = gx vars _ k.0 k.3 in
      subst (ItemsAreLabelled (names_of vars)) (sym there) (a, lab)

  Filter_labelled : (f : Named) (op : FilterOp) (x : tree.Expr) → ExprLabelled s x → FilterLabelled s (roll-Filter (record { field = f; op = op; value = x }))
  Filter_labelled f op x gx vars m r h rest lab =
      let k = part.Filter_parts s vars m f op x r h in
      let there : filter_of r rest ≡ filter_and k.0.0 op (expr_of k.2.tree) rest
      = sym (ap (λ z. filter_of z rest) k.6) ∙ ap (λ (g : Filters → Filters). g rest) (seen.Test_seen k.0.0 op k.2.tree) in
      let a = gx vars (Some k.1) k.2 k.5 in
      subst (FiltersAreLabelled (names_of vars)) (sym there) (a, lab)

  -- ---- whole trees

  abbrev SureExpr : Type 0
  SureExpr = (x : tree.Expr) × ExprLabelled s x

  abbrev SureSet : Type 0
  SureSet = (x : tree_set.SetExpr) × SetLabelled s x

  expr_step : (y : Expr-F SureExpr (SureItem s) SureSet (SureFilter s))
      → ExprLabelled s (roll-Expr (map-Expr SureExpr (SureItem s) SureSet (SureFilter s) tree.Expr Item tree_set.SetExpr Filter (λ e. e.0) (λ e. e.0) (λ e. e.0) (λ e. e.0) y))
  expr_step (Expr-F.Flag at value) = subst (ExprLabelled s) (sym (e.rolls-Flag at value)) (Flag_labelled value at)
  expr_step (Expr-F.Num at value) = subst (ExprLabelled s) (sym (e.rolls-Num at value)) (Num_labelled value at)
  expr_step (Expr-F.Str at text) = subst (ExprLabelled s) (sym (e.rolls-Str at text)) (Str_labelled text at)
  expr_step (Expr-F.Var at x) = subst (ExprLabelled s) (sym (e.rolls-Var at x)) (Var_labelled x at)
  expr_step (Expr-F.NoneLit at) = subst (ExprLabelled s) (sym (e.rolls-NoneLit at)) (NoneLit_labelled at)
  expr_step (Expr-F.SomeLit at x) = subst (ExprLabelled s) (sym (e.rolls-SomeLit at x.0)) (SomeLit_labelled x.0 at x.1)
  expr_step (Expr-F.Get at x f) = subst (ExprLabelled s) (sym (e.rolls-Get at x.0 f)) (Get_labelled x.0 f at x.1)
  expr_step (Expr-F.Cmp at op x y) = subst (ExprLabelled s) (sym (e.rolls-Cmp at op x.0 y.0)) (Cmp_labelled op x.0 y.0 at x.1 y.1)
  expr_step (Expr-F.Member at x set) = subst (ExprLabelled s) (sym (e.rolls-Member at x.0 set.0)) (Member_labelled x.0 set.0 at x.1 set.1)
  expr_step (Expr-F.Not at x) = subst (ExprLabelled s) (sym (e.rolls-Not at x.0)) (Not_labelled x.0 at x.1)
  expr_step (Expr-F.And at x y) = subst (ExprLabelled s) (sym (e.rolls-And at x.0 y.0)) (And_labelled x.0 y.0 at x.1 y.1)
  expr_step (Expr-F.Or at x y) = subst (ExprLabelled s) (sym (e.rolls-Or at x.0 y.0)) (Or_labelled x.0 y.0 at x.1 y.1)
  expr_step (Expr-F.IfE at c x y) = subst (ExprLabelled s) (sym (e.rolls-IfE at c.0 x.0 y.0)) (IfE_labelled c.0 x.0 y.0 at c.1 x.1 y.1)
  expr_step (Expr-F.MatchE at x y (v, z)) = subst (ExprLabelled s) (sym (e.rolls-MatchE at x.0 y.0 (v, z.0))) (MatchE_labelled x.0 y.0 v z.0 at x.1 y.1 z.1)

  set_step : (y : SetExpr-F SureExpr (SureItem s) SureSet (SureFilter s))
      → SetLabelled s (roll-SetExpr (map-SetExpr SureExpr (SureItem s) SureSet (SureFilter s) tree.Expr Item tree_set.SetExpr Filter (λ e. e.0) (λ e. e.0) (λ e. e.0) (λ e. e.0) y))
  set_step (SetExpr-F.Everyone at word) = subst (SetLabelled s) (sym (se.rolls-Everyone at word)) (Everyone_labelled word at)
  set_step (SetExpr-F.Nobody at) = subst (SetLabelled s) (sym (se.rolls-Nobody at)) (Nobody_labelled at)
  set_step (SetExpr-F.Sum at x y) = subst (SetLabelled s) (sym (se.rolls-Sum at x.0 y.0)) (Sum_labelled x.0 y.0 at x.1 y.1)
  set_step (SetExpr-F.Less at x y) = subst (SetLabelled s) (sym (se.rolls-Less at x.0 y.0)) (Less_labelled x.0 y.0 at x.1 y.1)
  set_step (SetExpr-F.Path at x) = subst (SetLabelled s) (sym (se.rolls-Path at x.0)) (Path_labelled x.0 at x.1)
  set_step (SetExpr-F.MapS at x v y) = subst (SetLabelled s) (sym (se.rolls-MapS at x.0 v y.0)) (MapS_labelled x.0 v y.0 at x.1 y.1)
  set_step (SetExpr-F.FlatS at x v y) = subst (SetLabelled s) (sym (se.rolls-FlatS at x.0 v y.0)) (FlatS_labelled x.0 v y.0 at x.1 y.1)
  set_step (SetExpr-F.IfS at c x y) = subst (SetLabelled s) (sym (se.rolls-IfS at c.0 x.0 y.0)) (IfS_labelled c.0 x.0 y.0 at c.1 x.1 y.1)
  set_step (SetExpr-F.MatchS at x y v z) = subst (SetLabelled s) (sym (se.rolls-MatchS at x.0 y.0 v z.0)) (MatchS_labelled x.0 y.0 v z.0 at x.1 y.1 z.1)
  set_step (SetExpr-F.List at xs) = subst (SetLabelled s) (sym (se.rolls-List at (map (λ (x : SureItem s). x.0) xs))) (List_labelled xs at)
  set_step (SetExpr-F.Find at model xs) = subst (SetLabelled s) (sym (se.rolls-Find at model (map (λ (x : SureFilter s). x.0) xs))) (Find_labelled model xs at)

  item_step : (y : Item-F SureExpr (SureItem s) SureSet (SureFilter s))
      → ItemLabelled s (roll-Item (map-Item SureExpr (SureItem s) SureSet (SureFilter s) tree.Expr Item tree_set.SetExpr Filter (λ e. e.0) (λ e. e.0) (λ e. e.0) (λ e. e.0) y))
  item_step (Item-F.Static x) = subst (ItemLabelled s) (sym (i.rolls-Static x)) (Static_labelled x)
  item_step (Item-F.One x) = subst (ItemLabelled s) (sym (i.rolls-One x.0)) (One_labelled x.0 x.1)

  filter_step : (y : Filter-F SureExpr (SureItem s) SureSet (SureFilter s))
      → FilterLabelled s (roll-Filter (map-Filter SureExpr (SureItem s) SureSet (SureFilter s) tree.Expr Item tree_set.SetExpr Filter (λ e. e.0) (λ e. e.0) (λ e. e.0) (λ e. e.0) y))
  filter_step y = Filter_labelled y.field y.op y.value.0 y.value.1

  pub expr_labelled : (x : tree.Expr) → ExprLabelled s x
  expr_labelled =
      ind-Expr (ExprLabelled s) (ItemLabelled s) (SetLabelled s) (FilterLabelled s) (λ x y is. subst (λ z. ExprLabelled s (roll-Expr z)) is (expr_step y)) (λ x y is. subst (λ z. ItemLabelled s (roll-Item z)) is (item_step y))
      (λ x y is. subst (λ z. SetLabelled s (roll-SetExpr z)) is (set_step y)) (λ x y is. subst (λ z. FilterLabelled s (roll-Filter z)) is (filter_step y))

  pub set_labelled : (x : tree_set.SetExpr) → SetLabelled s x
  set_labelled =
      ind-SetExpr (ExprLabelled s) (ItemLabelled s) (SetLabelled s) (FilterLabelled s) (λ x y is. subst (λ z. ExprLabelled s (roll-Expr z)) is (expr_step y)) (λ x y is. subst (λ z. ItemLabelled s (roll-Item z)) is (item_step y))
      (λ x y is. subst (λ z. SetLabelled s (roll-SetExpr z)) is (set_step y)) (λ x y is. subst (λ z. FilterLabelled s (roll-Filter z)) is (filter_step y))

-- ---- policies

pub policy-labelled : (s : Schema) (m : ℕ) (p : tree_policy.Policy) (typed : TPolicy) → typed_policy s m p ≡ Ok typed → PolicyIsLabelled (policy_of typed)
policy-labelled s m (p.Everyone at) typed h = subst (λ (z : TPolicy). PolicyIsLabelled (policy_of z)) (ok_same tp.Everyone typed h) tt
policy-labelled s m (p.Nobody at) typed h = subst (λ (z : TPolicy). PolicyIsLabelled (policy_of z)) (ok_same tp.Nobody typed h) tt
policy-labelled s m (p.Fun x set) typed h =
    let rest : TSet → Checked TPolicy = λ z. Ok (tp.Fun x.name z) in
    let k = part.first_part (typed_set s (record_var m x) Principals set) rest typed h in
    let made = ok_same (tp.Fun x.name k.0) typed k.2 in
    subst (λ (z : TPolicy). PolicyIsLabelled (policy_of z)) made ((set_labelled s set).0 (record_var m x) Principals k.0 k.1)
