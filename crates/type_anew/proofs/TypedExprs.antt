-- The typing of each form of expression that a tree is written as, by that of its parts.
use Rattle.std.proofs.Common.{◌≡◌, ℕ, ℤ, Bool, true, false, List, refl, ◌∙◌, ap}
use Rattle.std.specs.Prelude.{Option, Some, None, Ok, Err, if◌then◌else◌}
use Rattle.std.proofs.lemmas.Bool.{eq-eqb}
use Rattle.text_tree.specs.declared.exprs.CmpOp.{CmpOp}
use Rattle.text_tree.specs.declared.exprs.CmpOp.TheVariants.{Eq, Ne, Lt, Le, Gt, Ge}
use Rattle.text_tree.specs.declared.exprs.Expr as tree
use Rattle.text_tree.specs.declared.exprs.SetExpr as tree_set
use Rattle.text_tree.specs.declared.exprs.Expr.TheVariants as e
use Rattle.type_schema.specs.declared.types.TBase.{TBase}
use Rattle.type_schema.specs.declared.types.TBase.TheVariants as base
use Rattle.type_schema.specs.declared.types.TTy.{TTy}
use Rattle.type_schema.specs.declared.types.TTy.TheVariants.{Plain, Set, Opt}
use Rattle.type_schema.specs.declared.trees.TExpr.{TExpr}
use Rattle.type_schema.specs.declared.trees.TExpr.TheVariants as t
use Rattle.type_schema.specs.declared.trees.TSet.{TSet}
use Rattle.type_schema.specs.Trees.{Name, Expr, flag, num, str, var, nothing, just, get, equal, iff, less, within, negation, both, either, if_expr, match_expr, SetExpr}
use Rattle.type_schema.specs.Schema.{Schema}
use Rattle.type_schema.specs.Views.{expr_of, set_of}
use Rattle.type_typing.specs.declared.asked.Content.{Content}
use Rattle.type_typing.specs.declared.asked.Content.TheVariants.{Records}
use Rattle.type_typing.specs.declared.asked.Typed.{Typed}
use Rattle.type_typing.specs.declared.vars.Var.{Var}
use Rattle.type_typing.specs.declared.type_err.TypeErr.TheVariants.{Unknown, WrongType}
use Rattle.type_typing.specs.Names.{field_named, var_named}
use Rattle.type_typing.specs.Asked.{base_of, field_of_record, fits, id_of, inner_asked, none_of, of_type, option_of, same_base, same_type, under}
use Rattle.type_typing.specs.Compared.{alike, compared, left_asked}
use Rattle.type_typing.specs.Exprs.{typed_expr, typed_set}
use Rattle.type_typing.specs.Outcome.{Checked, ◌>>=◌, or_else}
use Rattle.type_typing.proofs.Forms as form
use Rattle.type_typing.proofs.Seen as seen
use Rattle.type_anew.specs.Names.{named}

-- ---- what goes on where a part is typed

pub then-ok : {A B : Type 0} (whole : Checked B) (o : Checked A) (a : A) (f : A → Checked B) → whole ≡ (o >>= f) → o ≡ Ok a → whole ≡ f a
then-ok whole o a f e is = e ∙ ap (λ z. z >>= f) is

-- what a place asks: nothing, or just this type
abbrev pub place : (alone : Bool) → TTy → Option TTy
place true ty = None
place false ty = Some ty

same-base-self : (b : TBase) → same_base b b ≡ true
same-base-self base.Bool = refl
same-base-self base.Int = refl
same-base-self base.Text = refl
same-base-self (base.Id m) = eq-eqb m m refl

same-self : (ty : TTy) → same_type ty ty ≡ true
unfolding same_type
same-self (Plain b) = same-base-self b
same-self (Set m) = eq-eqb m m refl
same-self (Opt b) = same-base-self b

fit : (alone : Bool) (at : ℕ) (ty : TTy) (made : TExpr) → fits (of_type at ty made) (place alone ty) ≡ Ok (of_type at ty made)
unfolding fits
fit true at ty made = refl
fit false at ty made = ap (λ b. if b then Ok (of_type at ty made) else Err (WrongType at)) (same-self ty)

inner-place : (alone : Bool) (b : TBase) → inner_asked (place alone (Opt b)) ≡ place alone (Plain b)
unfolding inner_asked
inner-place true b = refl
inner-place false b = refl

base-is : (r : Typed) (b : TBase) → r.ty ≡ Plain b → base_of r.ty r.at ≡ Ok b
unfolding base_of
base-is r b e = ap (λ ty. base_of ty r.at) e

pub id-is : (r : Typed) (m : ℕ) → r.ty ≡ Plain (base.Id m) → id_of r.ty r.at ≡ Ok m
unfolding id_of
id-is r m e = ap (λ ty. id_of ty r.at) e

pub option-is : (r : Typed) (b : TBase) → r.ty ≡ Opt b → option_of r.ty r.at ≡ Ok b
unfolding option_of
option-is r b e = ap (λ ty. option_of ty r.at) e

none-is : (b : TBase) → none_of (Some (Opt b)) 0 ≡ Ok (of_type 0 (Opt b) t.NoneLit)
unfolding none_of
none-is b = refl

module _ (s : Schema) where
  -- ---- what comes of a tree: where nothing or this type is asked, it is typed as this expression, of this type

  abbrev pub Comes : List Var → (alone : Bool) → TTy → tree.Expr → Expr → Type 0
  Comes vars alone ty x y = (r : Typed) × (typed_expr s vars (place alone ty) x ≡ Ok r) × (expr_of r.tree ≡ y) × (r.ty ≡ ty)

  abbrev pub SetComes : List Var → Content → tree_set.SetExpr → SetExpr → Type 0
  SetComes vars content x y = (r : TSet) × (typed_set s vars content x ≡ Ok r) × (set_of r ≡ y)

  comes : (vars : List Var) (alone : Bool) (ty : TTy) (x : tree.Expr) (y : Expr) (made : TExpr) → typed_expr s vars (place alone ty) x ≡ fits (of_type 0 ty made) (place alone ty) → expr_of made ≡ y
      → Comes vars alone ty x y
  comes vars alone ty x y made is saw = (of_type 0 ty made, is ∙ fit alone 0 ty made, saw, refl)

  pub Flag-comes : (vars : List Var) (alone b : Bool) → Comes vars alone (Plain base.Bool) (e.Flag 0 b) (flag b)
  Flag-comes vars alone b = comes vars alone (Plain base.Bool) _ _ (t.Flag b) (form.Flag_is s vars _ b 0) (seen.Flag_seen b)

  pub Num-comes : (vars : List Var) (alone : Bool) (n : ℤ) → Comes vars alone (Plain base.Int) (e.Num 0 n) (num n)
  Num-comes vars alone n = comes vars alone (Plain base.Int) _ _ (t.Num n) (form.Num_is s vars _ n 0) (seen.Num_seen n)

  pub Str-comes : (vars : List Var) (alone : Bool) (text : List ℕ) → Comes vars alone (Plain base.Text) (e.Str 0 text) (str text)
  Str-comes vars alone text = comes vars alone (Plain base.Text) _ _ (t.Str text) (form.Str_is s vars _ text 0) (seen.Str_seen text)

  pub Var-comes : (vars : List Var) (alone : Bool) (ty : TTy) (depth : ℕ) (name : Name) → var_named vars name ≡ Some (depth, ty) → Comes vars alone ty (e.Var 0 (named name)) (var depth name)
  Var-comes vars alone ty depth name is =
      comes vars alone ty _ _ (t.Var depth name) (then-ok _ _ (depth, ty) _ (form.Var_is s vars _ (named name) 0) (ap (λ o. or_else o (Unknown 0)) is)) (seen.Var_seen depth name)

  pub None-comes : (vars : List Var) (b : TBase) → Comes vars false (Opt b) (e.NoneLit 0) nothing
  None-comes vars b = (of_type 0 (Opt b) t.NoneLit, form.NoneLit_is s vars _ 0 ∙ none-is b, seen.NoneLit_seen, refl)

  pub Some-comes : (vars : List Var) (alone : Bool) (b : TBase) (x : tree.Expr) (y : Expr) → Comes vars alone (Plain b) x y → Comes vars alone (Opt b) (e.SomeLit 0 x) (just y)
  Some-comes vars alone b x y k =
      let inner : typed_expr s vars (inner_asked (place alone (Opt b))) x ≡ Ok k.0 = ap (λ o. typed_expr s vars o x) (inner-place alone b) ∙ k.1 in
      let one = then-ok _ _ k.0 _ (form.SomeLit_is s vars (place alone (Opt b)) x 0) inner in
      comes vars alone (Opt b) _ _ (t.SomeLit k.0.tree) (then-ok _ _ b _ one (base-is k.0 b k.3)) (seen.SomeLit_seen k.0.tree ∙ ap just k.2)

  -- ---- a field of a record

  record-field : (r : Typed) (m : ℕ) (name : Name) (f : ℕ) (ty : TTy) → r.ty ≡ Plain (base.Id m) → field_named s m name ≡ Some (f, ty) → field_of_record s r.ty r.at (named name) ≡ Ok (m, f, ty)
  unfolding field_of_record id_of
  record-field r m name f ty is has =
      ap (λ of. field_of_record s of r.at (named name)) is ∙ ap (λ o. or_else o (Unknown 0) >>= (λ (field : ℕ × TTy). Ok (m, field.0, field.1))) has

  pub Get-comes : (vars : List Var) (alone : Bool) (m : ℕ) (name : Name) (f : ℕ) (ty : TTy) (x : tree.Expr) (y : Expr) → field_named s m name ≡ Some (f, ty)
      → Comes vars true (Plain (base.Id m)) x y → Comes vars alone ty (e.Get 0 x (named name)) (get y m f)
  Get-comes vars alone m name f ty x y has k =
      let one = then-ok _ _ k.0 _ (form.Get_is s vars (place alone ty) x (named name) 0) k.1 in
      comes vars alone ty _ _ (t.Get k.0.tree m f) (then-ok _ _ (m, f, ty) _ one (record-field k.0 m name f ty k.3 has)) (seen.Get_seen k.0.tree m f ∙ ap (λ z. get z m f) k.2)

  -- ---- comparisons

  compared-comes : (vars : List Var) (alone : Bool) (op : CmpOp) (b : TBase) (x y : tree.Expr) (l r : Typed) (z : Expr) → typed_expr s vars (left_asked op) x ≡ Ok l → l.ty ≡ Plain b
      → typed_expr s vars (Some (Plain b)) y ≡ Ok r → expr_of (compared op b l.tree r.tree) ≡ z → Comes vars alone (Plain base.Bool) (e.Cmp 0 op x y) z
  compared-comes vars alone op b x y l r z left is right saw =
      let one = then-ok _ _ l _ (form.Cmp_is s vars (place alone (Plain base.Bool)) op x y 0) left in
      let two = then-ok _ _ b _ one (base-is l b is) in
      let there : typed_expr s vars (Some l.ty) y ≡ Ok r = ap (λ ty. typed_expr s vars (Some ty) y) is ∙ right in
      comes vars alone (Plain base.Bool) _ _ (compared op b l.tree r.tree) (then-ok _ _ r _ two there) saw

  equal-left : (vars : List Var) (x : tree.Expr) → typed_expr s vars (left_asked Eq) x ≡ typed_expr s vars None x
  unfolding left_asked
  equal-left vars x = refl

  unlike-left : (vars : List Var) (x : tree.Expr) → typed_expr s vars (left_asked Ne) x ≡ typed_expr s vars None x
  unfolding left_asked
  unlike-left vars x = refl

  -- what two values of a base type, that are compared for equality, are seen as
  abbrev pub Alike : CmpOp → TBase → (Expr → Expr → Expr) → Type 0
  Alike op b made = (l r : TExpr) → expr_of (alike op b l r) ≡ made (expr_of l) (expr_of r)

  eq-seen : (b : TBase) (made : Expr → Expr → Expr) → Alike Eq b made → (l r : TExpr) → expr_of (compared Eq b l r) ≡ made (expr_of l) (expr_of r)
  unfolding compared
  eq-seen b made saw l r = saw l r

  ne-seen : (b : TBase) (made : Expr → Expr → Expr) → Alike Ne b made → (l r : TExpr) → expr_of (compared Ne b l r) ≡ negation (made (expr_of l) (expr_of r))
  unfolding compared
  ne-seen b made saw l r = seen.Not_seen (alike Ne b l r) ∙ ap negation (saw l r)

  both-same : (made : Expr → Expr → Expr) (a b c d : Expr) → a ≡ c → b ≡ d → made a b ≡ made c d
  both-same made a b c d p q = ap (λ z. made z b) p ∙ ap (λ z. made c z) q

  pub Eq-comes : (vars : List Var) (alone : Bool) (b : TBase) (made : Expr → Expr → Expr) (x y : tree.Expr) (v w : Expr) → Alike Eq b made → Comes vars true (Plain b) x v → Comes vars false (Plain b) y w
      → Comes vars alone (Plain base.Bool) (e.Cmp 0 Eq x y) (made v w)
  Eq-comes vars alone b made x y v w saw k l =
      compared-comes vars alone Eq b x y k.0 l.0 _ (equal-left vars x ∙ k.1) k.3 l.1 (eq-seen b made saw k.0.tree l.0.tree ∙ both-same made _ _ v w k.2 l.2)

  pub Ne-comes : (vars : List Var) (alone : Bool) (b : TBase) (made : Expr → Expr → Expr) (x y : tree.Expr) (v w : Expr) → Alike Ne b made → Comes vars true (Plain b) x v → Comes vars false (Plain b) y w
      → Comes vars alone (Plain base.Bool) (e.Cmp 0 Ne x y) (negation (made v w))
  Ne-comes vars alone b made x y v w saw k l =
      compared-comes vars alone Ne b x y k.0 l.0 _ (unlike-left vars x ∙ k.1) k.3 l.1 (ne-seen b made saw k.0.tree l.0.tree ∙ ap negation (both-same made _ _ v w k.2 l.2))

  pub alike-bool : (op : CmpOp) → Alike op base.Bool (λ v w. iff v w op)
  unfolding alike
  alike-bool op l r = seen.Iff_seen l r op

  pub alike-int : (op : CmpOp) → Alike op base.Int (λ v w. equal v w op)
  unfolding alike
  alike-int op l r = seen.Eq_seen l r op

  pub alike-text : (op : CmpOp) → Alike op base.Text (λ v w. equal v w op)
  unfolding alike
  alike-text op l r = seen.Eq_seen l r op

  pub alike-id : (op : CmpOp) (m : ℕ) → Alike op (base.Id m) (λ v w. equal v w op)
  unfolding alike
  alike-id op m l r = seen.Eq_seen l r op

  abbrev int : TTy
  int = Plain base.Int

  pub Lt-comes : (vars : List Var) (alone : Bool) (x y : tree.Expr) (v w : Expr) → Comes vars false int x v → Comes vars false int y w → Comes vars alone (Plain base.Bool) (e.Cmp 0 Lt x y) (less v w Lt)
  unfolding left_asked compared
  Lt-comes vars alone x y v w k l =
      compared-comes vars alone Lt base.Int x y k.0 l.0 _ k.1 k.3 l.1 (seen.Less_seen k.0.tree l.0.tree Lt ∙ both-same (λ a b. less a b Lt) _ _ v w k.2 l.2)

  pub Le-comes : (vars : List Var) (alone : Bool) (x y : tree.Expr) (v w : Expr) → Comes vars false int x v → Comes vars false int y w → Comes vars alone (Plain base.Bool) (e.Cmp 0 Le y x) (negation (less v w Le))
  unfolding left_asked compared
  Le-comes vars alone x y v w k l =
      compared-comes vars alone Le base.Int y x l.0 k.0 _ l.1 l.3 k.1
      (seen.Not_seen (t.Less k.0.tree l.0.tree Le) ∙ ap negation (seen.Less_seen k.0.tree l.0.tree Le ∙ both-same (λ a b. less a b Le) _ _ v w k.2 l.2))

  pub Gt-comes : (vars : List Var) (alone : Bool) (x y : tree.Expr) (v w : Expr) → Comes vars false int x v → Comes vars false int y w → Comes vars alone (Plain base.Bool) (e.Cmp 0 Gt y x) (less v w Gt)
  unfolding left_asked compared
  Gt-comes vars alone x y v w k l =
      compared-comes vars alone Gt base.Int y x l.0 k.0 _ l.1 l.3 k.1 (seen.Less_seen k.0.tree l.0.tree Gt ∙ both-same (λ a b. less a b Gt) _ _ v w k.2 l.2)

  pub Ge-comes : (vars : List Var) (alone : Bool) (x y : tree.Expr) (v w : Expr) → Comes vars false int x v → Comes vars false int y w → Comes vars alone (Plain base.Bool) (e.Cmp 0 Ge x y) (negation (less v w Ge))
  unfolding left_asked compared
  Ge-comes vars alone x y v w k l =
      compared-comes vars alone Ge base.Int x y k.0 l.0 _ k.1 k.3 l.1
      (seen.Not_seen (t.Less k.0.tree l.0.tree Ge) ∙ ap negation (seen.Less_seen k.0.tree l.0.tree Ge ∙ both-same (λ a b. less a b Ge) _ _ v w k.2 l.2))

  -- ---- truth values

  pub Member-comes : (vars : List Var) (alone : Bool) (m : ℕ) (x : tree.Expr) (set : tree_set.SetExpr) (y : Expr) (z : SetExpr) → Comes vars true (Plain (base.Id m)) x y → SetComes vars (Records m) set z
      → Comes vars alone (Plain base.Bool) (e.Member 0 x set) (within y m z)
  Member-comes vars alone m x set y z k l =
      let one = then-ok _ _ k.0 _ (form.Member_is s vars (place alone (Plain base.Bool)) x set 0) k.1 in
      let two = then-ok _ _ m _ one (id-is k.0 m k.3) in
      comes vars alone (Plain base.Bool) _ _ (t.Member k.0.tree m l.0) (then-ok _ _ l.0 _ two l.1)
      (seen.Member_seen k.0.tree m l.0 ∙ ap (λ a. within a m (set_of l.0)) k.2 ∙ ap (λ a. within y m a) l.2)

  pub Not-comes : (vars : List Var) (alone : Bool) (x : tree.Expr) (y : Expr) → Comes vars false (Plain base.Bool) x y → Comes vars alone (Plain base.Bool) (e.Not 0 x) (negation y)
  Not-comes vars alone x y k =
      comes vars alone (Plain base.Bool) _ _ (t.Not k.0.tree) (then-ok _ _ k.0 _ (form.Not_is s vars (place alone (Plain base.Bool)) x 0) k.1) (seen.Not_seen k.0.tree ∙ ap negation k.2)

  pub And-comes : (vars : List Var) (alone : Bool) (x y : tree.Expr) (v w : Expr) → Comes vars false (Plain base.Bool) x v → Comes vars false (Plain base.Bool) y w
      → Comes vars alone (Plain base.Bool) (e.And 0 x y) (both v w)
  And-comes vars alone x y v w k l =
      let one = then-ok _ _ k.0 _ (form.And_is s vars (place alone (Plain base.Bool)) x y 0) k.1 in
      comes vars alone (Plain base.Bool) _ _ (t.And k.0.tree l.0.tree) (then-ok _ _ l.0 _ one l.1) (seen.And_seen k.0.tree l.0.tree ∙ both-same both _ _ v w k.2 l.2)

  pub Or-comes : (vars : List Var) (alone : Bool) (x y : tree.Expr) (v w : Expr) → Comes vars false (Plain base.Bool) x v → Comes vars false (Plain base.Bool) y w
      → Comes vars alone (Plain base.Bool) (e.Or 0 x y) (either v w)
  Or-comes vars alone x y v w k l =
      let one = then-ok _ _ k.0 _ (form.Or_is s vars (place alone (Plain base.Bool)) x y 0) k.1 in
      comes vars alone (Plain base.Bool) _ _ (t.Or k.0.tree l.0.tree) (then-ok _ _ l.0 _ one l.1) (seen.Or_seen k.0.tree l.0.tree ∙ both-same either _ _ v w k.2 l.2)

  -- ---- choices

  pub If-comes : (vars : List Var) (alone : Bool) (ty : TTy) (c x y : tree.Expr) (u v w : Expr) → Comes vars false (Plain base.Bool) c u → Comes vars alone ty x v → Comes vars false ty y w
      → Comes vars alone ty (e.IfE 0 c x y) (if_expr u v w)
  If-comes vars alone ty c x y u v w h k l =
      let one = then-ok _ _ h.0 _ (form.IfE_is s vars (place alone ty) c x y 0) h.1 in
      let two = then-ok _ _ k.0 _ one k.1 in
      let there : typed_expr s vars (Some k.0.ty) y ≡ Ok l.0 = ap (λ z. typed_expr s vars (Some z) y) k.3 ∙ l.1 in (
        of_type 0 k.0.ty (t.IfE h.0.tree k.0.tree l.0.tree),
        then-ok _ _ l.0 _ two there,
        seen.IfE_seen h.0.tree k.0.tree l.0.tree ∙ ap (λ z. if_expr z (expr_of k.0.tree) (expr_of l.0.tree)) h.2 ∙ both-same (if_expr u) _ _ v w k.2 l.2,
        k.3,
      )

  pub Match-comes : (vars inner : List Var) (alone : Bool) (b : TBase) (name : Name) (ty : TTy) (x y z : tree.Expr) (u v w : Expr) → under vars (named name) (Plain b) ≡ Ok inner
      → Comes vars true (Opt b) x u → Comes vars alone ty y v → Comes inner false ty z w → Comes vars alone ty (e.MatchE 0 x y (named name, z)) (match_expr u v name w)
  Match-comes vars inner alone b name ty x y z u v w new h k l =
      let one = then-ok _ _ h.0 _ (form.MatchE_is s vars (place alone ty) x y (named name) z 0) h.1 in
      let two = then-ok _ _ b _ one (option-is h.0 b h.3) in
      let three = then-ok _ _ k.0 _ two k.1 in
      let four = then-ok _ _ inner _ three new in
      let there : typed_expr s inner (Some k.0.ty) z ≡ Ok l.0 = ap (λ q. typed_expr s inner (Some q) z) k.3 ∙ l.1 in (
        of_type 0 k.0.ty (t.MatchE h.0.tree k.0.tree name l.0.tree),
        then-ok _ _ l.0 _ four there,
        seen.MatchE_seen h.0.tree k.0.tree name l.0.tree ∙ ap (λ q. match_expr q (expr_of k.0.tree) name (expr_of l.0.tree)) h.2 ∙ both-same (λ a b. match_expr u a name b) _ _ v w k.2 l.2,
        k.3,
      )
