-- By induction on the tree: what is typed shows the type of each option that is taken apart.
use Rattle.std.proofs.Common.{◌≡◌, ℕ, ℤ, Bool, List, [], ◌∷◌, map, refl, sym, ◌∙◌, ap, subst}
use Rattle.std.specs.Prelude.{Option, Some, None, Ok, Err, IsTrue}
use Rattle.text_tree.specs.declared.named.Named.{Named}
use Rattle.text_tree.specs.declared.exprs.CmpOp.{CmpOp}
use Rattle.text_tree.specs.declared.exprs.CmpOp.TheVariants.{Eq, Ne, Lt, Le, Gt, Ge}
use Rattle.text_tree.specs.declared.exprs.FilterOp.{FilterOp}
use Rattle.text_tree.specs.declared.exprs.Expr as tree
use Rattle.text_tree.specs.declared.exprs.Expr.{map-Expr, roll-Expr}
use Rattle.text_tree.specs.declared.exprs.SetExpr as tree_set
use Rattle.text_tree.specs.declared.exprs.SetExpr.{map-SetExpr, roll-SetExpr}
use Rattle.text_tree.specs.declared.exprs.Item.{Item, map-Item, roll-Item}
use Rattle.text_tree.specs.declared.exprs.Filter.{Filter, map-Filter, roll-Filter}
use Rattle.text_tree.specs.declared.exprs.Expr.TheOpen.{Expr-F, SetExpr-F, Item-F, Filter-F}
use Rattle.text_tree.specs.declared.exprs.Expr.TheFolds.{ind-Expr, ind-SetExpr}
use Rattle.text_tree.specs.declared.exprs.Expr.TheVariants as e
use Rattle.text_tree.specs.declared.exprs.SetExpr.TheVariants as se
use Rattle.text_tree.specs.declared.exprs.Item.TheVariants as i
use Rattle.text_tree.specs.declared.policies.Policy as tree_policy
use Rattle.text_tree.specs.declared.policies.Policy.TheVariants as p
use Rattle.text_tree.specs.declared.policies.Init as tree_init
use Rattle.text_tree.specs.declared.policies.Init.TheVariants as pi
use Rattle.type_schema.specs.declared.types.TBase.{TBase}
use Rattle.type_schema.specs.declared.types.TBase.TheVariants as base
use Rattle.type_schema.specs.declared.types.TTy.{TTy}
use Rattle.type_schema.specs.declared.types.TTy.TheVariants.{Plain, Set, Opt}
use Rattle.type_schema.specs.declared.trees.TExpr.{TExpr}
use Rattle.type_schema.specs.declared.trees.TExpr.TheVariants as t
use Rattle.type_schema.specs.declared.trees.TSet.{TSet}
use Rattle.type_schema.specs.declared.trees.TSet.TheVariants as ts
use Rattle.type_schema.specs.declared.trees.TItem.{TItem}
use Rattle.type_schema.specs.declared.trees.TFilter.{TFilter}
use Rattle.type_schema.specs.declared.trees.TPolicy.{TPolicy}
use Rattle.type_schema.specs.declared.trees.TPolicy.TheVariants as tp
use Rattle.type_schema.specs.declared.trees.TInit.{TInit}
use Rattle.type_schema.specs.declared.trees.TInit.TheVariants as tin
use Rattle.type_schema.specs.Trees.{Expr, flag, num, str, var, just, get, within, negation, both, either, if_expr, match_expr, SetExpr, everyone, nobody, listed, union, minus, find, path, mapped, flat_mapped, if_set, match_set, Items, Filters, static_item, record_item, filter_and}
use Rattle.type_schema.specs.Schema.{Schema}
use Rattle.type_schema.specs.Views.{expr_of, set_of, item_of, filter_of, items_of, filters_of, policy_of, init_of}
use Rattle.type_typing.specs.declared.asked.Content.{Content}
use Rattle.type_typing.specs.declared.asked.Content.TheVariants.{Principals, Records}
use Rattle.type_typing.specs.declared.asked.Source.{Source}
use Rattle.type_typing.specs.declared.asked.Typed.{Typed}
use Rattle.type_typing.specs.declared.vars.Var.{Var}
use Rattle.type_typing.specs.declared.type_err.TypeErr.TheVariants.{WrongType}
use Rattle.type_typing.specs.Asked.{fits, none_of, of_type, source}
use Rattle.type_typing.specs.Compared.{alike, compared}
use Rattle.type_typing.specs.Exprs.{typed_expr, typed_set, typed_source, typed_item, typed_filter}
use Rattle.type_typing.specs.Policies.{plain_init, record_var, set_init, typed_policy, typed_init}
use Rattle.type_typing.specs.Outcome.{Checked}
use Rattle.type_typing.proofs.Fitted.{fits_is}
use Rattle.type_typing.proofs.Forms as form
use Rattle.type_typing.proofs.Parts as part
use Rattle.type_typing.proofs.Parts.{ok_same}
use Rattle.type_typing.proofs.Seen as seen
use Rattle.type_typing.proofs.Shown.{EachOk, each_ok}
use Rattle.type_proper.specs.Shown.{IsShown, SetIsShown, ItemsAreShown, FiltersAreShown, PolicyIsShown, InitIsShown, TypedAreShown, is_source, shows}

-- ---- what is shown of each tree

-- an expression in which each option shows its type, and which shows its own
abbrev pub Both : Expr → Type 0
Both x = IsShown x × IsTrue (shows x)

-- the same, where no type was asked of the expression
abbrev pub BothAlone : Option TTy → Expr → Type 0
BothAlone asked x = IsShown x × (asked ≡ None → IsTrue (shows x))

abbrev pub ExprShown : Schema → tree.Expr → Type 0
ExprShown s x = (vars : List Var) (asked : Option TTy) (r : Typed) → typed_expr s vars asked x ≡ Ok r → BothAlone asked (expr_of r.tree)

abbrev pub ContentShown : Schema → tree_set.SetExpr → Type 0
ContentShown s x = (vars : List Var) (content : Content) (r : TSet) → typed_set s vars content x ≡ Ok r → SetIsShown (set_of r)

abbrev pub BothSource : SetExpr → Type 0
BothSource x = SetIsShown x × IsTrue (is_source x)

abbrev pub SourceShown : Schema → tree_set.SetExpr → Type 0
SourceShown s x = (vars : List Var) (r : Source) → typed_source s vars x ≡ Ok r → BothSource (set_of r.set)

abbrev pub SetShown : Schema → tree_set.SetExpr → Type 0
SetShown s x = ContentShown s x × SourceShown s x

abbrev pub ItemShown : Schema → Item → Type 0
ItemShown s x = (vars : List Var) (content : Content) (r : TItem) → typed_item s vars content x ≡ Ok r → (rest : Items) → ItemsAreShown rest → ItemsAreShown (item_of r rest)

abbrev pub FilterShown : Schema → Filter → Type 0
FilterShown s x = (vars : List Var) (m : ℕ) (r : TFilter) → typed_filter s vars m x ≡ Ok r → (rest : Filters) → FiltersAreShown rest → FiltersAreShown (filter_of r rest)

abbrev SureItem : Schema → Type 0
SureItem s = (x : Item) × ItemShown s x

abbrev SureFilter : Schema → Type 0
SureFilter s = (x : Filter) × FilterShown s x

items_shown : (s : Schema) (vars : List Var) (content : Content) (xs : List (SureItem s)) (rs : List TItem)
    → EachOk (typed_item s vars content) (map (λ (x : SureItem s). x.0) xs) rs → ItemsAreShown (items_of (map item_of rs))
items_shown s vars content [] [] each = tt
items_shown s vars content [] (r ∷ rs) each = absurd each
items_shown s vars content (x ∷ xs) [] each = absurd each
items_shown s vars content (x ∷ xs) (r ∷ rs) each = x.1 vars content r each.0 (items_of (map item_of rs)) (items_shown s vars content xs rs each.1)

filters_shown : (s : Schema) (vars : List Var) (m : ℕ) (xs : List (SureFilter s)) (rs : List TFilter)
    → EachOk (typed_filter s vars m) (map (λ (x : SureFilter s). x.0) xs) rs → FiltersAreShown (filters_of (map filter_of rs))
filters_shown s vars m [] [] each = tt
filters_shown s vars m [] (r ∷ rs) each = absurd each
filters_shown s vars m (x ∷ xs) [] each = absurd each
filters_shown s vars m (x ∷ xs) (r ∷ rs) each = x.1 vars m r each.0 (filters_of (map filter_of rs)) (filters_shown s vars m xs rs each.1)

-- ---- what fits the place

fitted : (asked : Option TTy) (at : ℕ) (ty : TTy) (tree : TExpr) (x : Expr) (r : Typed) → expr_of tree ≡ x → fits (of_type at ty tree) asked ≡ Ok r → Both x → BothAlone asked (expr_of r.tree)
fitted asked at ty tree x r saw h shown =
    let k = fits_is (of_type at ty tree) asked r h in
    let there : Both (expr_of tree) = subst Both (sym saw) shown in
    let made : Both (expr_of r.tree) = subst (λ (z : Typed). Both (expr_of z.tree)) k.0 there in
    (made.0, λ none. made.1)

-- ---- comparisons

alike_shown : (op : CmpOp) (b : TBase) (x y : TExpr) → IsShown (expr_of x) → IsShown (expr_of y) → Both (expr_of (alike op b x y))
unfolding alike
alike_shown op base.Bool x y gx gy = subst Both (sym (seen.Iff_seen x y op)) ((gx, gy), refl)
alike_shown op base.Int x y gx gy = subst Both (sym (seen.Eq_seen x y op)) ((gx, gy), refl)
alike_shown op base.Text x y gx gy = subst Both (sym (seen.Eq_seen x y op)) ((gx, gy), refl)
alike_shown op (base.Id m) x y gx gy = subst Both (sym (seen.Eq_seen x y op)) ((gx, gy), refl)

not_shown : (x : TExpr) → Both (expr_of x) → Both (expr_of (t.Not x))
not_shown x gx = subst Both (sym (seen.Not_seen x)) (gx.0, refl)

less_shown : (op : CmpOp) (x y : TExpr) → IsShown (expr_of x) → IsShown (expr_of y) → Both (expr_of (t.Less x y op))
less_shown op x y gx gy = subst Both (sym (seen.Less_seen x y op)) ((gx, gy), refl)

compared_shown : (op : CmpOp) (b : TBase) (x y : TExpr) → IsShown (expr_of x) → IsShown (expr_of y) → Both (expr_of (compared op b x y))
unfolding compared
compared_shown Eq b x y gx gy = alike_shown Eq b x y gx gy
compared_shown Ne b x y gx gy = not_shown (alike Ne b x y) (alike_shown Ne b x y gx gy)
compared_shown Lt b x y gx gy = less_shown Lt x y gx gy
compared_shown Le b x y gx gy = not_shown (t.Less y x Le) (less_shown Le y x gy gx)
compared_shown Gt b x y gx gy = less_shown Gt y x gy gx
compared_shown Ge b x y gx gy = not_shown (t.Less x y Ge) (less_shown Ge x y gx gy)

-- ---- each form, of its parts

module _ (s : Schema) where
  Flag_shown : (value : Bool) (at : ℕ) → ExprShown s (e.Flag at value)
  Flag_shown value at vars asked r h =
      fitted asked at (Plain base.Bool) (t.Flag value) (flag value) r (seen.Flag_seen value) (sym (form.Flag_is s vars asked value at) ∙ h) (tt, refl)

  Num_shown : (value : ℤ) (at : ℕ) → ExprShown s (e.Num at value)
  Num_shown value at vars asked r h =
      fitted asked at (Plain base.Int) (t.Num value) (num value) r (seen.Num_seen value) (sym (form.Num_is s vars asked value at) ∙ h) (tt, refl)

  Str_shown : (text : List ℕ) (at : ℕ) → ExprShown s (e.Str at text)
  Str_shown text at vars asked r h =
      fitted asked at (Plain base.Text) (t.Str text) (str text) r (seen.Str_seen text) (sym (form.Str_is s vars asked text at) ∙ h) (tt, refl)

  Var_shown : (x : Named) (at : ℕ) → ExprShown s (e.Var at x)
  Var_shown x at vars asked r h =
      let k = part.Var_parts s vars asked x at r h in
      fitted asked at k.0.1 (t.Var k.0.0 x.name) (var k.0.0 x.name) r (seen.Var_seen k.0.0 x.name) k.2 (tt, refl)

  none_shown : (at : ℕ) (asked : Option TTy) (r : Typed) → none_of asked at ≡ Ok r → BothAlone asked (expr_of r.tree)
  unfolding none_of
  none_shown at None r h = let never : ⊥ = cc in absurd never
  none_shown at (Some (Plain b)) r h = let never : ⊥ = cc in absurd never
  none_shown at (Some (Set m)) r h = let never : ⊥ = cc in absurd never
  none_shown at (Some (Opt b)) r h =
      let made : IsShown (expr_of t.NoneLit) = subst IsShown (sym seen.NoneLit_seen) tt in
      (subst (λ (z : Typed). IsShown (expr_of z.tree)) (ok_same (of_type at (Opt b) t.NoneLit) r h) made, λ none. absurd (cc none))

  NoneLit_shown : (at : ℕ) → ExprShown s (e.NoneLit at)
  NoneLit_shown at vars asked r h = none_shown at asked r (sym (form.NoneLit_is s vars asked at) ∙ h)

  SomeLit_shown : (x : tree.Expr) (at : ℕ) → ExprShown s x → ExprShown s (e.SomeLit at x)
  SomeLit_shown x at gx vars asked r h =
      let k = part.SomeLit_parts s vars asked x at r h in
      let a = gx vars _ k.0 k.2 in
      fitted asked at (Opt k.1) (t.SomeLit k.0.tree) (just (expr_of k.0.tree)) r (seen.SomeLit_seen k.0.tree) k.4 (a.0, refl)

  Get_shown : (x : tree.Expr) (f : Named) (at : ℕ) → ExprShown s x → ExprShown s (e.Get at x f)
  Get_shown x f at gx vars asked r h =
      let k = part.Get_parts s vars asked x f at r h in
      let a = gx vars None k.0 k.2 in
      fitted asked at k.1.2 (t.Get k.0.tree k.1.0 k.1.1) (get (expr_of k.0.tree) k.1.0 k.1.1) r (seen.Get_seen k.0.tree k.1.0 k.1.1) k.4 (a.0, refl)

  Cmp_shown : (op : CmpOp) (x y : tree.Expr) (at : ℕ) → ExprShown s x → ExprShown s y → ExprShown s (e.Cmp at op x y)
  Cmp_shown op x y at gx gy vars asked r h =
      let k = part.Cmp_parts s vars asked op x y at r h in
      let whole : TExpr = compared op k.1 k.0.tree k.2.tree in
      let a = gx vars _ k.0 k.3 in
      let b = gy vars _ k.2 k.5 in
      fitted asked at (Plain base.Bool) whole (expr_of whole) r refl k.6 (compared_shown op k.1 k.0.tree k.2.tree a.0 b.0)

  Member_shown : (x : tree.Expr) (set : tree_set.SetExpr) (at : ℕ) → ExprShown s x → SetShown s set → ExprShown s (e.Member at x set)
  Member_shown x set at gx gset vars asked r h =
      let k = part.Member_parts s vars asked x set at r h in
      let a = gx vars None k.0 k.3 in
      let all = gset.0 vars (Records k.1) k.2 k.5 in
      fitted asked at (Plain base.Bool) (t.Member k.0.tree k.1 k.2) (within (expr_of k.0.tree) k.1 (set_of k.2)) r (seen.Member_seen k.0.tree k.1 k.2) k.6 ((a.0, all), refl)

  Not_shown : (x : tree.Expr) (at : ℕ) → ExprShown s x → ExprShown s (e.Not at x)
  Not_shown x at gx vars asked r h =
      let k = part.Not_parts s vars asked x at r h in
      let a = gx vars _ k.0 k.1 in
      fitted asked at (Plain base.Bool) (t.Not k.0.tree) (negation (expr_of k.0.tree)) r (seen.Not_seen k.0.tree) k.2 (a.0, refl)

  And_shown : (x y : tree.Expr) (at : ℕ) → ExprShown s x → ExprShown s y → ExprShown s (e.And at x y)
  And_shown x y at gx gy vars asked r h =
      let k = part.And_parts s vars asked x y at r h in
      let a = gx vars _ k.0 k.2 in
      let b = gy vars _ k.1 k.3 in
      fitted asked at (Plain base.Bool) (t.And k.0.tree k.1.tree) (both (expr_of k.0.tree) (expr_of k.1.tree)) r (seen.And_seen k.0.tree k.1.tree) k.4 ((a.0, b.0), refl)

  Or_shown : (x y : tree.Expr) (at : ℕ) → ExprShown s x → ExprShown s y → ExprShown s (e.Or at x y)
  Or_shown x y at gx gy vars asked r h =
      let k = part.Or_parts s vars asked x y at r h in
      let a = gx vars _ k.0 k.2 in
      let b = gy vars _ k.1 k.3 in
      fitted asked at (Plain base.Bool) (t.Or k.0.tree k.1.tree) (either (expr_of k.0.tree) (expr_of k.1.tree)) r (seen.Or_seen k.0.tree k.1.tree) k.4 ((a.0, b.0), refl)

  -- as the first branch shows it
  of_branch : (asked : Option TTy) (tree : TExpr) (x : Expr) (r : Typed) (at : ℕ) (ty : TTy) → expr_of tree ≡ x → of_type at ty tree ≡ r → BothAlone asked x → BothAlone asked (expr_of r.tree)
  of_branch asked tree x r at ty saw made shown =
      subst (λ (z : Typed). BothAlone asked (expr_of z.tree)) made (subst (BothAlone asked) (sym saw) shown)

  IfE_shown : (c x y : tree.Expr) (at : ℕ) → ExprShown s c → ExprShown s x → ExprShown s y → ExprShown s (e.IfE at c x y)
  IfE_shown c x y at gc gx gy vars asked r h =
      let k = part.IfE_parts s vars asked c x y at r h in
      let a = gc vars _ k.0 k.3 in
      let b = gx vars asked k.1 k.4 in
      let d = gy vars (Some k.1.ty) k.2 k.5 in
      of_branch asked (t.IfE k.0.tree k.1.tree k.2.tree) (if_expr (expr_of k.0.tree) (expr_of k.1.tree) (expr_of k.2.tree)) r at k.1.ty
      (seen.IfE_seen k.0.tree k.1.tree k.2.tree) k.6 ((a.0, b.0, d.0), b.1)

  MatchE_shown : (x y : tree.Expr) (v : Named) (z : tree.Expr) (at : ℕ) → ExprShown s x → ExprShown s y → ExprShown s z → ExprShown s (e.MatchE at x y (v, z))
  MatchE_shown x y v z at gx gy gz vars asked r h =
      let k = part.MatchE_parts s vars asked x y v z at r h in
      let a = gx vars None k.0 k.5 in
      let b = gy vars asked k.2 k.7 in
      let d = gz k.3 (Some k.2.ty) k.4 k.9 in
      of_branch asked (t.MatchE k.0.tree k.2.tree v.name k.4.tree) (match_expr (expr_of k.0.tree) (expr_of k.2.tree) v.name (expr_of k.4.tree)) r at k.2.ty
      (seen.MatchE_seen k.0.tree k.2.tree v.name k.4.tree) k.10 ((a.1 refl, a.0, b.0, d.0), b.1)

  -- ---- sets

  as_seen : (a r : TSet) (x : SetExpr) → set_of a ≡ x → a ≡ r → SetIsShown x → SetIsShown (set_of r)
  as_seen a r x saw e shown = subst (λ (z : TSet). SetIsShown (set_of z)) e (subst SetIsShown (sym saw) shown)

  no_source : (vars : List Var) (x : tree_set.SetExpr) (at : ℕ) (r : Source) → typed_source s vars x ≡ Err (WrongType at) → typed_source s vars x ≡ Ok r → BothSource (set_of r.set)
  no_source vars x at r none h = let never : ⊥ = cc in absurd never

  Everyone_shown : (word at : ℕ) → SetShown s (se.Everyone at word)
  Everyone_shown word at = (
    λ vars content r h.
        let k = part.Everyone_parts s vars content word at r h in
        as_seen ts.Everyone r everyone seen.Everyone_seen k.2 tt,
    λ vars r h. no_source vars (se.Everyone at word) at r (form.Everyone_no_source s vars word at) h,
  )

  Nobody_shown : (at : ℕ) → SetShown s (se.Nobody at)
  Nobody_shown at = (
    λ vars content r h. as_seen ts.Nobody r nobody seen.Nobody_seen (ok_same ts.Nobody r (sym (form.Nobody_is s vars content at) ∙ h)) tt,
    λ vars r h. no_source vars (se.Nobody at) at r (form.Nobody_no_source s vars at) h,
  )

  List_shown : (xs : List (SureItem s)) (at : ℕ) → SetShown s (se.List at (map (λ (x : SureItem s). x.0) xs))
  List_shown xs at =
      let plain : List Item = map (λ (x : SureItem s). x.0) xs in (
        λ vars content r h.
            let k = part.List_parts s vars content plain at r h in
            let each = each_ok (typed_item s vars content) plain [] k.0 k.1 in
            let all : EachOk (typed_item s vars content) plain k.0 = subst (EachOk (typed_item s vars content) plain) each.1 each.2 in
            as_seen (ts.List k.0) r (listed (items_of (map item_of k.0))) (seen.List_seen k.0) k.2 (items_shown s vars content xs k.0 all),
        λ vars r h. no_source vars (se.List at plain) at r (form.List_no_source s vars plain at) h,
      )

  Sum_shown : (x y : tree_set.SetExpr) (at : ℕ) → SetShown s x → SetShown s y → SetShown s (se.Sum at x y)
  Sum_shown x y at gx gy = (
    λ vars content r h.
        let k = part.Sum_parts s vars content x y at r h in
        as_seen (ts.Sum k.0 k.1) r (union (set_of k.0) (set_of k.1)) (seen.Sum_seen k.0 k.1) k.4 (gx.0 vars content k.0 k.2, gy.0 vars content k.1 k.3),
    λ vars r h. no_source vars (se.Sum at x y) at r (form.Sum_no_source s vars x y at) h,
  )

  Less_shown : (x y : tree_set.SetExpr) (at : ℕ) → SetShown s x → SetShown s y → SetShown s (se.Less at x y)
  Less_shown x y at gx gy = (
    λ vars content r h.
        let k = part.Less_parts s vars content x y at r h in
        as_seen (ts.Less k.0 k.1) r (minus (set_of k.0) (set_of k.1)) (seen.Minus_seen k.0 k.1) k.4 (gx.0 vars content k.0 k.2, gy.0 vars content k.1 k.3),
    λ vars r h. no_source vars (se.Less at x y) at r (form.Less_no_source s vars x y at) h,
  )

  -- a source as what it stands for
  source_seen : (at m : ℕ) (a : TSet) (x : SetExpr) (r : Source) → set_of a ≡ x → source at m a ≡ r → BothSource x → BothSource (set_of r.set)
  source_seen at m a x r saw h shown = subst (λ (z : Source). BothSource (set_of z.set)) h (subst BothSource (sym saw) shown)

  -- a chain where it holds what is asked
  chain_shown : (of : Source) (r : TSet) → BothSource (set_of of.set) → of.set ≡ r → SetIsShown (set_of r)
  chain_shown of r shown h = subst (λ (z : TSet). SetIsShown (set_of z)) h shown.0

  Find_source_shown : (model : Named) (xs : List (SureFilter s)) (at : ℕ) → SourceShown s (se.Find at model (map (λ (x : SureFilter s). x.0) xs))
  Find_source_shown model xs at vars r h =
      let plain : List Filter = map (λ (x : SureFilter s). x.0) xs in
      let k = part.Find_source_parts s vars model plain at r h in
      let each = each_ok (typed_filter s vars k.0) plain [] k.1 k.3 in
      let all : EachOk (typed_filter s vars k.0) plain k.1 = subst (EachOk (typed_filter s vars k.0) plain) each.1 each.2 in
      source_seen model.at k.0 (ts.Find k.0 k.1) (find k.0 (filters_of (map filter_of k.1))) r (seen.Find_seen k.0 k.1) k.4 (filters_shown s vars k.0 xs k.1 all, refl)

  Path_source_shown : (x : tree.Expr) (at : ℕ) → ExprShown s x → SourceShown s (se.Path at x)
  Path_source_shown x at gx vars r h =
      let k = part.Path_source_parts s vars x at r h in
      let a = gx vars None k.0 k.2 in
      source_seen k.0.at k.1 (ts.Path k.1 k.0.tree) (path k.1 (expr_of k.0.tree)) r (seen.Path_seen k.1 k.0.tree) k.4 (a.0, refl)

  MapS_source_shown : (x : tree_set.SetExpr) (v : Named) (y : tree.Expr) (at : ℕ) → SetShown s x → ExprShown s y → SourceShown s (se.MapS at x v y)
  MapS_source_shown x v y at gx gy vars r h =
      let k = part.MapS_source_parts s vars x v y at r h in
      let over = gx.1 vars k.0 k.4 in
      let a = gy k.1 None k.2 k.6 in
      source_seen k.0.at k.3 (ts.MapS k.0.set k.0.model v.name k.3 k.2.tree) (mapped (set_of k.0.set) k.0.model v.name k.3 (expr_of k.2.tree)) r
      (seen.MapS_seen k.0.set k.0.model v.name k.3 k.2.tree) k.8 ((over.1, over.0, a.0), refl)

  Find_shown : (model : Named) (xs : List (SureFilter s)) (at : ℕ) → SetShown s (se.Find at model (map (λ (x : SureFilter s). x.0) xs))
  Find_shown model xs at =
      let source = Find_source_shown model xs at in (
        λ vars content r h.
            let k = part.Find_parts s vars content model (map (λ (x : SureFilter s). x.0) xs) at r h in
            chain_shown k.0 r (source vars k.0 k.2) k.4,
        source,
      )

  Path_shown : (x : tree.Expr) (at : ℕ) → ExprShown s x → SetShown s (se.Path at x)
  Path_shown x at gx =
      let source = Path_source_shown x at gx in (
        λ vars content r h.
            let k = part.Path_parts s vars content x at r h in
            chain_shown k.0 r (source vars k.0 k.2) k.4,
        source,
      )

  MapS_shown : (x : tree_set.SetExpr) (v : Named) (y : tree.Expr) (at : ℕ) → SetShown s x → ExprShown s y → SetShown s (se.MapS at x v y)
  MapS_shown x v y at gx gy =
      let source = MapS_source_shown x v y at gx gy in (
        λ vars content r h.
            let k = part.MapS_parts s vars content x v y at r h in
            chain_shown k.0 r (source vars k.0 k.2) k.4,
        source,
      )

  FlatS_shown : (x : tree_set.SetExpr) (v : Named) (y : tree_set.SetExpr) (at : ℕ) → SetShown s x → SetShown s y → SetShown s (se.FlatS at x v y)
  FlatS_shown x v y at gx gy = (
    λ vars content r h.
        let k = part.FlatS_parts s vars content x v y at r h in
        let over = gx.1 vars k.0 k.3 in
        as_seen (ts.FlatS k.0.set k.0.model v.name k.2) r (flat_mapped (set_of k.0.set) k.0.model v.name (set_of k.2)) (seen.FlatS_seen k.0.set k.0.model v.name k.2) k.6
        (over.1, over.0, gy.0 k.1 content k.2 k.5),
    λ vars r h. no_source vars (se.FlatS at x v y) at r (form.FlatS_no_source s vars x v y at) h,
  )

  IfS_shown : (c : tree.Expr) (x y : tree_set.SetExpr) (at : ℕ) → ExprShown s c → SetShown s x → SetShown s y → SetShown s (se.IfS at c x y)
  IfS_shown c x y at gc gx gy = (
    λ vars content r h.
        let k = part.IfS_parts s vars content c x y at r h in
        let a = gc vars _ k.0 k.3 in
        as_seen (ts.IfS k.0.tree k.1 k.2) r (if_set (expr_of k.0.tree) (set_of k.1) (set_of k.2)) (seen.IfS_seen k.0.tree k.1 k.2) k.6
        (a.0, gx.0 vars content k.1 k.4, gy.0 vars content k.2 k.5),
    λ vars r h. no_source vars (se.IfS at c x y) at r (form.IfS_no_source s vars c x y at) h,
  )

  MatchS_shown : (x : tree.Expr) (y : tree_set.SetExpr) (v : Named) (z : tree_set.SetExpr) (at : ℕ) → ExprShown s x → SetShown s y → SetShown s z → SetShown s (se.MatchS at x y v z)
  MatchS_shown x y v z at gx gy gz = (
    λ vars content r h.
        let k = part.MatchS_parts s vars content x y v z at r h in
        let a = gx vars None k.0 k.5 in
        as_seen (ts.MatchS k.0.tree k.2 v.name k.4) r (match_set (expr_of k.0.tree) (set_of k.2) v.name (set_of k.4)) (seen.MatchS_seen k.0.tree k.2 v.name k.4) k.10
        (a.1 refl, a.0, gy.0 vars content k.2 k.7, gz.0 k.3 content k.4 k.9),
    λ vars r h. no_source vars (se.MatchS at x y v z) at r (form.MatchS_no_source s vars x y v z at) h,
  )

  -- ---- items and filters

  Static_shown : (x : Named) → ItemShown s (i.Static x)
  Static_shown x vars content r h rest shown =
      let k = part.Static_parts s vars content x r h in
      let there : item_of r rest ≡ static_item k.1 rest = sym (ap (λ z. item_of z rest) k.4) ∙ ap (λ (f : Items → Items). f rest) (seen.Static_seen k.1) in
      subst ItemsAreShown (sym there) shown

  One_shown : (x : tree.Expr) → ExprShown s x → ItemShown s (i.One x)
  One_shown x gx vars content r h rest shown =
      let k = part.One_parts s vars content x r h in
      let there : item_of r rest ≡ record_item k.1 (expr_of k.0.tree) rest
      = sym (ap (λ z. item_of z rest) k.6) ∙ ap (λ (f : Items → Items). f rest) (seen.One_seen k.1 k.0.tree) in
      let a = gx vars _ k.0 k.3 in
      subst ItemsAreShown (sym there) (a.0, shown)

  Filter_shown : (f : Named) (op : FilterOp) (x : tree.Expr) → ExprShown s x → FilterShown s (roll-Filter (record { field = f; op = op; value = x }))
  Filter_shown f op x gx vars m r h rest shown =
      let k = part.Filter_parts s vars m f op x r h in
      let there : filter_of r rest ≡ filter_and k.0.0 op (expr_of k.2.tree) rest
      = sym (ap (λ z. filter_of z rest) k.6) ∙ ap (λ (g : Filters → Filters). g rest) (seen.Test_seen k.0.0 op k.2.tree) in
      let a = gx vars (Some k.1) k.2 k.5 in
      subst FiltersAreShown (sym there) (a.0, shown)

  -- ---- whole trees

  abbrev SureExpr : Type 0
  SureExpr = (x : tree.Expr) × ExprShown s x

  abbrev SureSet : Type 0
  SureSet = (x : tree_set.SetExpr) × SetShown s x

  expr_step : (y : Expr-F SureExpr (SureItem s) SureSet (SureFilter s))
      → ExprShown s (roll-Expr (map-Expr SureExpr (SureItem s) SureSet (SureFilter s) tree.Expr Item tree_set.SetExpr Filter (λ e. e.0) (λ e. e.0) (λ e. e.0) (λ e. e.0) y))
  expr_step (Expr-F.Flag at value) = subst (ExprShown s) (sym (e.rolls-Flag at value)) (Flag_shown value at)
  expr_step (Expr-F.Num at value) = subst (ExprShown s) (sym (e.rolls-Num at value)) (Num_shown value at)
  expr_step (Expr-F.Str at text) = subst (ExprShown s) (sym (e.rolls-Str at text)) (Str_shown text at)
  expr_step (Expr-F.Var at x) = subst (ExprShown s) (sym (e.rolls-Var at x)) (Var_shown x at)
  expr_step (Expr-F.NoneLit at) = subst (ExprShown s) (sym (e.rolls-NoneLit at)) (NoneLit_shown at)
  expr_step (Expr-F.SomeLit at x) = subst (ExprShown s) (sym (e.rolls-SomeLit at x.0)) (SomeLit_shown x.0 at x.1)
  expr_step (Expr-F.Get at x f) = subst (ExprShown s) (sym (e.rolls-Get at x.0 f)) (Get_shown x.0 f at x.1)
  expr_step (Expr-F.Cmp at op x y) = subst (ExprShown s) (sym (e.rolls-Cmp at op x.0 y.0)) (Cmp_shown op x.0 y.0 at x.1 y.1)
  expr_step (Expr-F.Member at x set) = subst (ExprShown s) (sym (e.rolls-Member at x.0 set.0)) (Member_shown x.0 set.0 at x.1 set.1)
  expr_step (Expr-F.Not at x) = subst (ExprShown s) (sym (e.rolls-Not at x.0)) (Not_shown x.0 at x.1)
  expr_step (Expr-F.And at x y) = subst (ExprShown s) (sym (e.rolls-And at x.0 y.0)) (And_shown x.0 y.0 at x.1 y.1)
  expr_step (Expr-F.Or at x y) = subst (ExprShown s) (sym (e.rolls-Or at x.0 y.0)) (Or_shown x.0 y.0 at x.1 y.1)
  expr_step (Expr-F.IfE at c x y) = subst (ExprShown s) (sym (e.rolls-IfE at c.0 x.0 y.0)) (IfE_shown c.0 x.0 y.0 at c.1 x.1 y.1)
  expr_step (Expr-F.MatchE at x y (v, z)) = subst (ExprShown s) (sym (e.rolls-MatchE at x.0 y.0 (v, z.0))) (MatchE_shown x.0 y.0 v z.0 at x.1 y.1 z.1)

  set_step : (y : SetExpr-F SureExpr (SureItem s) SureSet (SureFilter s))
      → SetShown s (roll-SetExpr (map-SetExpr SureExpr (SureItem s) SureSet (SureFilter s) tree.Expr Item tree_set.SetExpr Filter (λ e. e.0) (λ e. e.0) (λ e. e.0) (λ e. e.0) y))
  set_step (SetExpr-F.Everyone at word) = subst (SetShown s) (sym (se.rolls-Everyone at word)) (Everyone_shown word at)
  set_step (SetExpr-F.Nobody at) = subst (SetShown s) (sym (se.rolls-Nobody at)) (Nobody_shown at)
  set_step (SetExpr-F.Sum at x y) = subst (SetShown s) (sym (se.rolls-Sum at x.0 y.0)) (Sum_shown x.0 y.0 at x.1 y.1)
  set_step (SetExpr-F.Less at x y) = subst (SetShown s) (sym (se.rolls-Less at x.0 y.0)) (Less_shown x.0 y.0 at x.1 y.1)
  set_step (SetExpr-F.Path at x) = subst (SetShown s) (sym (se.rolls-Path at x.0)) (Path_shown x.0 at x.1)
  set_step (SetExpr-F.MapS at x v y) = subst (SetShown s) (sym (se.rolls-MapS at x.0 v y.0)) (MapS_shown x.0 v y.0 at x.1 y.1)
  set_step (SetExpr-F.FlatS at x v y) = subst (SetShown s) (sym (se.rolls-FlatS at x.0 v y.0)) (FlatS_shown x.0 v y.0 at x.1 y.1)
  set_step (SetExpr-F.IfS at c x y) = subst (SetShown s) (sym (se.rolls-IfS at c.0 x.0 y.0)) (IfS_shown c.0 x.0 y.0 at c.1 x.1 y.1)
  set_step (SetExpr-F.MatchS at x y v z) = subst (SetShown s) (sym (se.rolls-MatchS at x.0 y.0 v z.0)) (MatchS_shown x.0 y.0 v z.0 at x.1 y.1 z.1)
  set_step (SetExpr-F.List at xs) = subst (SetShown s) (sym (se.rolls-List at (map (λ (x : SureItem s). x.0) xs))) (List_shown xs at)
  set_step (SetExpr-F.Find at model xs) = subst (SetShown s) (sym (se.rolls-Find at model (map (λ (x : SureFilter s). x.0) xs))) (Find_shown model xs at)

  item_step : (y : Item-F SureExpr (SureItem s) SureSet (SureFilter s))
      → ItemShown s (roll-Item (map-Item SureExpr (SureItem s) SureSet (SureFilter s) tree.Expr Item tree_set.SetExpr Filter (λ e. e.0) (λ e. e.0) (λ e. e.0) (λ e. e.0) y))
  item_step (Item-F.Static x) = subst (ItemShown s) (sym (i.rolls-Static x)) (Static_shown x)
  item_step (Item-F.One x) = subst (ItemShown s) (sym (i.rolls-One x.0)) (One_shown x.0 x.1)

  filter_step : (y : Filter-F SureExpr (SureItem s) SureSet (SureFilter s))
      → FilterShown s (roll-Filter (map-Filter SureExpr (SureItem s) SureSet (SureFilter s) tree.Expr Item tree_set.SetExpr Filter (λ e. e.0) (λ e. e.0) (λ e. e.0) (λ e. e.0) y))
  filter_step y = Filter_shown y.field y.op y.value.0 y.value.1

  pub expr_shown : (x : tree.Expr) → ExprShown s x
  expr_shown =
      ind-Expr (ExprShown s) (ItemShown s) (SetShown s) (FilterShown s) (λ x y is. subst (λ z. ExprShown s (roll-Expr z)) is (expr_step y)) (λ x y is. subst (λ z. ItemShown s (roll-Item z)) is (item_step y))
      (λ x y is. subst (λ z. SetShown s (roll-SetExpr z)) is (set_step y)) (λ x y is. subst (λ z. FilterShown s (roll-Filter z)) is (filter_step y))

  pub set_shown : (x : tree_set.SetExpr) → SetShown s x
  set_shown =
      ind-SetExpr (ExprShown s) (ItemShown s) (SetShown s) (FilterShown s) (λ x y is. subst (λ z. ExprShown s (roll-Expr z)) is (expr_step y)) (λ x y is. subst (λ z. ItemShown s (roll-Item z)) is (item_step y))
      (λ x y is. subst (λ z. SetShown s (roll-SetExpr z)) is (set_step y)) (λ x y is. subst (λ z. FilterShown s (roll-Filter z)) is (filter_step y))

-- ---- policies and initialisers

policies : (s : Schema) (m : ℕ) (p : tree_policy.Policy) (typed : TPolicy) → typed_policy s m p ≡ Ok typed → PolicyIsShown (policy_of typed)
policies s m (p.Everyone at) typed h = subst (λ (z : TPolicy). PolicyIsShown (policy_of z)) (ok_same tp.Everyone typed h) tt
policies s m (p.Nobody at) typed h = subst (λ (z : TPolicy). PolicyIsShown (policy_of z)) (ok_same tp.Nobody typed h) tt
policies s m (p.Fun x set) typed h =
    let rest : TSet → Checked TPolicy = λ z. Ok (tp.Fun x.name z) in
    let k = part.first_part (typed_set s (record_var m x) Principals set) rest typed h in
    let made = ok_same (tp.Fun x.name k.0) typed k.2 in
    subst (λ (z : TPolicy). PolicyIsShown (policy_of z)) made ((set_shown s set).0 (record_var m x) Principals k.0 k.1)

inits_plain : (s : Schema) (m : ℕ) (ty : TTy) (x : Named) (init : tree_init.Init) (typed : TInit) → plain_init s (record_var m x) ty init ≡ Ok typed → InitIsShown (init_of typed)
inits_plain s m ty x (pi.Plain y) typed h =
    let rest : Typed → Checked TInit = λ z. Ok (tin.Plain z.tree) in
    let k = part.first_part (typed_expr s (record_var m x) (Some ty) y) rest typed h in
    let made = ok_same (tin.Plain k.0.tree) typed k.2 in
    let shown = expr_shown s y (record_var m x) (Some ty) k.0 k.1 in
    subst (λ (z : TInit). InitIsShown (init_of z)) made shown.0
inits_plain s m ty x (pi.OfSet set) typed h = let never : ⊥ = cc in absurd never

inits_set : (s : Schema) (m n : ℕ) (x : Named) (init : tree_init.Init) (typed : TInit) → set_init s (record_var m x) n init ≡ Ok typed → InitIsShown (init_of typed)
inits_set s m n x (pi.Plain y) typed h = let never : ⊥ = cc in absurd never
inits_set s m n x (pi.OfSet set) typed h =
    let rest : TSet → Checked TInit = λ z. Ok (tin.OfSet n z) in
    let k = part.first_part (typed_set s (record_var m x) (Records n) set) rest typed h in
    let made = ok_same (tin.OfSet n k.0) typed k.2 in
    subst (λ (z : TInit). InitIsShown (init_of z)) made ((set_shown s set).0 (record_var m x) (Records n) k.0 k.1)

inits : (s : Schema) (m : ℕ) (t : TTy) (x : Named) (init : tree_init.Init) (typed : TInit) → typed_init s m t x init ≡ Ok typed → InitIsShown (init_of typed)
inits s m (Plain b) x init typed h = inits_plain s m (Plain b) x init typed h
inits s m (Set n) x init typed h = inits_set s m n x init typed h
inits s m (Opt b) x init typed h = inits_plain s m (Opt b) x init typed h

pub typed_are_shown : TypedAreShown
typed_are_shown = record { policies = policies; inits = inits }
