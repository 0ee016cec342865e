-- What is shown of each tree that is typed, of lists and of comparisons.
use Rattle.std.proofs.Common.{◌≡◌, ℕ, List, [], ◌∷◌, ◌++◌, map, refl, sym, ◌∙◌, subst, append_assoc, append-nil}
use Rattle.std.specs.Prelude.{IfSome, Option, Ok}
use Rattle.text_tree.specs.declared.exprs.CmpOp.{CmpOp}
use Rattle.text_tree.specs.declared.exprs.CmpOp.TheVariants.{Eq, Ne, Lt, Le, Gt, Ge}
use Rattle.text_tree.specs.declared.exprs.FilterOp.{FilterOp}
use Rattle.text_tree.specs.declared.exprs.FilterOp.TheVariants.{Cmp, Has}
use Rattle.text_tree.specs.declared.exprs.Expr as tree
use Rattle.text_tree.specs.declared.exprs.SetExpr as tree_set
use Rattle.text_tree.specs.declared.exprs.Item.{Item}
use Rattle.text_tree.specs.declared.exprs.Filter.{Filter}
use Rattle.type_schema.specs.declared.types.TBase.{TBase}
use Rattle.type_schema.specs.declared.types.TBase.TheVariants as base
use Rattle.type_schema.specs.declared.types.TTy.{TTy}
use Rattle.type_schema.specs.declared.types.TTy.TheVariants.{Plain, Set, Opt}
use Rattle.type_schema.specs.declared.trees.TExpr.{TExpr}
use Rattle.type_schema.specs.declared.trees.TExpr.TheVariants as t
use Rattle.type_schema.specs.declared.trees.TSet.{TSet}
use Rattle.type_schema.specs.declared.trees.TItem.{TItem}
use Rattle.type_schema.specs.declared.trees.TFilter.{TFilter}
use Rattle.type_schema.specs.Trees.{Items, Filters}
use Rattle.type_schema.specs.Schema.{Schema}
use Rattle.type_schema.specs.Typing as typing
use Rattle.type_schema.specs.Typing.{HasModel, MayHold, MayTest, IsExpr, IsSet, AreItems, AreFilters, IsType}
use Rattle.type_schema.specs.Views.{expr_of, set_of, item_of, filter_of, items_of, filters_of}
use Rattle.type_typing.specs.declared.asked.Content.{Content}
use Rattle.type_typing.specs.declared.asked.Content.TheVariants.{Principals, Records}
use Rattle.type_typing.specs.declared.asked.Source.{Source}
use Rattle.type_typing.specs.declared.asked.Typed.{Typed}
use Rattle.type_typing.specs.declared.vars.Var.{Var}
use Rattle.type_typing.specs.Compared.{alike, compared, left_asked, ordered, signed, tested}
use Rattle.type_typing.specs.Exprs.{typed_expr, typed_set, typed_source, typed_item, typed_filter}
use Rattle.type_typing.specs.Outcome.{Checked, checked_from}
use Rattle.type_typing.specs.WellTyped.{HasLiterals, SetHasLiterals, ItemsHaveLiterals, FiltersHaveLiterals}
use Rattle.type_typing.proofs.Fitted.{AreTyped, IsOf, content_of, scope_of}
use Rattle.type_typing.proofs.Parts as part
use Rattle.type_typing.proofs.Parts.{ok_same}
use Rattle.type_typing.proofs.Seen as seen

-- ---- what is shown of each tree

-- the models of what is asked are there
abbrev pub AskedIs : Schema → Option TTy → Type 0
AskedIs s asked = IfSome asked (IsType s)

abbrev pub ContentIs : Schema → Content → Type 0
ContentIs s Principals = Unit {0}
ContentIs s (Records m) = HasModel s m

abbrev pub ExprGood : Schema → tree.Expr → Type 0
ExprGood s x =
    (vars : List Var) → AreTyped s vars → (asked : Option TTy) → AskedIs s asked → (r : Typed) → typed_expr s vars asked x ≡ Ok r → HasLiterals (expr_of r.tree)
    → IsOf s vars asked r

-- a chain of records
pub record IsSource (s : Schema) (vars : List Var) (r : Source) : Type 0 where
  pub model : HasModel s r.model
  pub set : (w : typing.Content) → MayHold s w r.model → IsSet s (scope_of vars) w (set_of r.set)

abbrev pub SourceGood : Schema → tree_set.SetExpr → Type 0
SourceGood s x = (vars : List Var) → AreTyped s vars → (r : Source) → typed_source s vars x ≡ Ok r → SetHasLiterals (set_of r.set) → IsSource s vars r

abbrev pub ContentGood : Schema → tree_set.SetExpr → Type 0
ContentGood s x =
    (vars : List Var) → AreTyped s vars → (content : Content) → ContentIs s content → (r : TSet) → typed_set s vars content x ≡ Ok r → SetHasLiterals (set_of r)
    → IsSet s (scope_of vars) (content_of content) (set_of r)

abbrev pub SetGood : Schema → tree_set.SetExpr → Type 0
SetGood s x = ContentGood s x × SourceGood s x

abbrev pub ItemGood : Schema → Item → Type 0
ItemGood s x =
    (vars : List Var) → AreTyped s vars → (content : Content) → ContentIs s content → (r : TItem) → typed_item s vars content x ≡ Ok r → (rest : Items) → ItemsHaveLiterals (item_of r rest)
    → ItemsHaveLiterals rest × (AreItems s (scope_of vars) (content_of content) rest → AreItems s (scope_of vars) (content_of content) (item_of r rest))

abbrev pub FilterGood : Schema → Filter → Type 0
FilterGood s x =
    (vars : List Var) → AreTyped s vars → (m : ℕ) → (r : TFilter) → typed_filter s vars m x ≡ Ok r → (rest : Filters) → FiltersHaveLiterals (filter_of r rest)
    → FiltersHaveLiterals rest × (AreFilters s (scope_of vars) m rest → AreFilters s (scope_of vars) m (filter_of r rest))

-- ---- lists

abbrev pub EachOk : {A B : Type 0} → (A → Checked B) → List A → List B → Type 0
EachOk f [] [] = Unit {0}
EachOk f [] (b ∷ bs) = ⊥
EachOk f (a ∷ as') [] = ⊥
EachOk f (a ∷ as') (b ∷ bs) = (f a ≡ Ok b) × EachOk f as' bs

pub each_ok : {A B : Type 0} (f : A → Checked B) (xs : List A) (done rs : List B) → checked_from done (map f xs) ≡ Ok rs → (rest : List B) × (done ++ rest ≡ rs) × EachOk f xs rest
each_ok f [] done rs h = ([], append-nil done ∙ ok_same done rs h, tt)
each_ok {A} {B} f (x ∷ xs) done rs h =
    let rest : B → Checked (List B) = λ b. checked_from (done ++ b ∷ []) (map f xs) in
    let first = part.first_part (f x) rest rs h in
    let more = each_ok f xs (done ++ first.0 ∷ []) rs first.2 in
    (first.0 ∷ more.0, sym (append_assoc done (first.0 ∷ []) more.0) ∙ more.1, (first.1, more.2))

abbrev pub SureItem : Schema → Type 0
SureItem s = (x : Item) × ItemGood s x

abbrev pub SureFilter : Schema → Type 0
SureFilter s = (x : Filter) × FilterGood s x

pub items_good : (s : Schema) (vars : List Var) (ok : AreTyped s vars) (content : Content) (is : ContentIs s content) (xs : List (SureItem s)) (rs : List TItem)
    → EachOk (typed_item s vars content) (map (λ (x : SureItem s). x.0) xs) rs → ItemsHaveLiterals (items_of (map item_of rs))
    → AreItems s (scope_of vars) (content_of content) (items_of (map item_of rs))
items_good s vars ok content is [] [] each lit = tt
items_good s vars ok content is [] (r ∷ rs) each lit = absurd each
items_good s vars ok content is (x ∷ xs) [] each lit = absurd each
items_good s vars ok content is (x ∷ xs) (r ∷ rs) each lit =
    let here = x.1 vars ok content is r each.0 (items_of (map item_of rs)) lit in
    here.1 (items_good s vars ok content is xs rs each.1 here.0)

pub filters_good : (s : Schema) (vars : List Var) (ok : AreTyped s vars) (m : ℕ) (xs : List (SureFilter s)) (rs : List TFilter)
    → EachOk (typed_filter s vars m) (map (λ (x : SureFilter s). x.0) xs) rs → FiltersHaveLiterals (filters_of (map filter_of rs))
    → AreFilters s (scope_of vars) m (filters_of (map filter_of rs))
filters_good s vars ok m [] [] each lit = tt
filters_good s vars ok m [] (r ∷ rs) each lit = absurd each
filters_good s vars ok m (x ∷ xs) [] each lit = absurd each
filters_good s vars ok m (x ∷ xs) (r ∷ rs) each lit =
    let here = x.1 vars ok m r each.0 (filters_of (map filter_of rs)) lit in
    here.1 (filters_good s vars ok m xs rs each.1 here.0)

-- ---- comparisons

-- what is compared is of one base type, and of numbers where it is ordered
abbrev pub IsOrdered : CmpOp → TBase → Type 0
IsOrdered Eq b = Unit {0}
IsOrdered Ne b = Unit {0}
IsOrdered Lt b = b ≡ base.Int
IsOrdered Le b = b ≡ base.Int
IsOrdered Gt b = b ≡ base.Int
IsOrdered Ge b = b ≡ base.Int

module _ (s : Schema) (vars : List Var) where
  abbrev Truth : TExpr → Type 0
  Truth a = IsExpr s (scope_of vars) (Plain base.Bool) (expr_of a)

  alike_good : (op : CmpOp) (b : TBase) (x y : TExpr) → IsExpr s (scope_of vars) (Plain b) (expr_of x) → IsExpr s (scope_of vars) (Plain b) (expr_of y) → Truth (alike op b x y)
  unfolding alike
  alike_good op base.Bool x y gx gy = rw (seen.Iff_seen x y op) (refl, gx, gy)
  alike_good op base.Int x y gx gy = rw (seen.Eq_seen x y op) (refl, (base.Int, tt, gx, gy))
  alike_good op base.Text x y gx gy = rw (seen.Eq_seen x y op) (refl, (base.Text, tt, gx, gy))
  alike_good op (base.Id m) x y gx gy = rw (seen.Eq_seen x y op) (refl, (base.Id m, tt, gx, gy))

  alike_literals : (op : CmpOp) (b : TBase) (x y : TExpr) → HasLiterals (expr_of (alike op b x y)) → HasLiterals (expr_of x) × HasLiterals (expr_of y)
  unfolding alike
  alike_literals op base.Bool x y lit = subst HasLiterals (seen.Iff_seen x y op) lit
  alike_literals op base.Int x y lit = subst HasLiterals (seen.Eq_seen x y op) lit
  alike_literals op base.Text x y lit = subst HasLiterals (seen.Eq_seen x y op) lit
  alike_literals op (base.Id m) x y lit = subst HasLiterals (seen.Eq_seen x y op) lit

  less_good : (op : CmpOp) (b : TBase) (x y : TExpr) → b ≡ base.Int → IsExpr s (scope_of vars) (Plain b) (expr_of x) → IsExpr s (scope_of vars) (Plain b) (expr_of y) → Truth (t.Less x y op)
  less_good op b x y is gx gy =
      let P : TExpr → TBase → Type 0 = λ z c. IsExpr s (scope_of vars) (Plain c) (expr_of z) in
      rw (seen.Less_seen x y op) (refl, subst (P x) is gx, subst (P y) is gy)

  not_good : (x : TExpr) → Truth x → Truth (t.Not x)
  not_good x gx = rw (seen.Not_seen x) (refl, gx)

  pub compared_good : (op : CmpOp) (b : TBase) (x y : TExpr) → IsOrdered op b → IsExpr s (scope_of vars) (Plain b) (expr_of x) → IsExpr s (scope_of vars) (Plain b) (expr_of y)
      → Truth (compared op b x y)
  unfolding compared
  compared_good Eq b x y is gx gy = alike_good Eq b x y gx gy
  compared_good Ne b x y is gx gy = not_good (alike Ne b x y) (alike_good Ne b x y gx gy)
  compared_good Lt b x y is gx gy = less_good Lt b x y is gx gy
  compared_good Le b x y is gx gy = not_good (t.Less y x Le) (less_good Le b y x is gy gx)
  compared_good Gt b x y is gx gy = less_good Gt b y x is gy gx
  compared_good Ge b x y is gx gy = not_good (t.Less x y Ge) (less_good Ge b x y is gx gy)

  less_literals : (op : CmpOp) (x y : TExpr) → HasLiterals (expr_of (t.Less x y op)) → HasLiterals (expr_of x) × HasLiterals (expr_of y)
  less_literals op x y lit = subst HasLiterals (seen.Less_seen x y op) lit

  pub compared_literals : (op : CmpOp) (b : TBase) (x y : TExpr) → HasLiterals (expr_of (compared op b x y)) → HasLiterals (expr_of x) × HasLiterals (expr_of y)
  unfolding compared
  compared_literals Eq b x y lit = alike_literals Eq b x y lit
  compared_literals Ne b x y lit = alike_literals Ne b x y (subst HasLiterals (seen.Not_seen (alike Ne b x y)) lit)
  compared_literals Lt b x y lit = less_literals Lt x y lit
  compared_literals Le b x y lit = let both = less_literals Le y x (subst HasLiterals (seen.Not_seen (t.Less y x Le)) lit) in (both.1, both.0)
  compared_literals Gt b x y lit = let both = less_literals Gt y x lit in (both.1, both.0)
  compared_literals Ge b x y lit = less_literals Ge x y (subst HasLiterals (seen.Not_seen (t.Less x y Ge)) lit)

pub int_same : (b : TBase) (ty : TTy) → ty ≡ Plain b → ty ≡ Plain base.Int → b ≡ base.Int
int_same b ty e h = cc

-- the base type of a left side of which this was asked
pub ordered_left : (s : Schema) (vars : List Var) (op : CmpOp) (b : TBase) (r : Typed) → IsOf s vars (left_asked op) r → r.ty ≡ Plain b → IsOrdered op b
unfolding left_asked
ordered_left s vars Eq b r a e = tt
ordered_left s vars Ne b r a e = tt
ordered_left s vars Lt b r a e = int_same b r.ty e a.same
ordered_left s vars Le b r a e = int_same b r.ty e a.same
ordered_left s vars Gt b r a e = int_same b r.ty e a.same
ordered_left s vars Ge b r a e = int_same b r.ty e a.same

-- what a filter asks of its value
pub ordered_is : (b : TBase) (at : ℕ) (asked : TTy) → ordered b at ≡ Ok asked → (b ≡ base.Int) × (asked ≡ Plain b)
unfolding ordered
ordered_is base.Bool at asked h = let never : ⊥ = cc in absurd never
ordered_is base.Int at asked h = (refl, sym (ok_same (Plain base.Int) asked h))
ordered_is base.Text at asked h = let never : ⊥ = cc in absurd never
ordered_is (base.Id m) at asked h = let never : ⊥ = cc in absurd never

pub signed_is : (s : Schema) (op : CmpOp) (b : TBase) (at : ℕ) (asked : TTy) → signed op b at ≡ Ok asked → MayTest s (Cmp op) (Plain b) asked
unfolding signed
signed_is s Eq b at asked h = (tt, sym (ok_same (Plain b) asked h))
signed_is s Ne b at asked h = (tt, sym (ok_same (Plain b) asked h))
signed_is s Lt b at asked h = ordered_is b at asked h
signed_is s Le b at asked h = ordered_is b at asked h
signed_is s Gt b at asked h = ordered_is b at asked h
signed_is s Ge b at asked h = ordered_is b at asked h

pub tested_is : (s : Schema) (op : FilterOp) (held : TTy) (at : ℕ) (asked : TTy) → tested op held at ≡ Ok asked → MayTest s op held asked
unfolding tested
tested_is s (Cmp op) (Plain b) at asked h = signed_is s op b at asked h
tested_is s (Cmp op) (Set m) at asked h = cc
tested_is s (Cmp op) (Opt b) at asked h = cc
tested_is s Has (Plain b) at asked h = cc
tested_is s Has (Set m) at asked h = sym (ok_same (Plain (base.Id m)) asked h)
tested_is s Has (Opt b) at asked h = cc
