-- By induction on the expression: what is well typed, shown and labelled is written as a tree that a schema with the same names types as the
-- expression with its numbers.
use Rattle.std.proofs.Common.{◌≡◌, ℕ, Bool, true, false, List, [], ◌∷◌, ◌++◌, refl, sym, subst}
use Rattle.std.specs.Prelude.{Some, None, IsTrue, is_some, if◌then◌else◌}
use Rattle.text_tree.specs.declared.exprs.CmpOp.{CmpOp}
use Rattle.text_tree.specs.declared.exprs.CmpOp.TheVariants.{Eq, Ne, Lt, Le, Gt, Ge}
use Rattle.text_tree.specs.declared.exprs.Expr as tree
use Rattle.text_tree.specs.declared.exprs.Expr.TheVariants as e
use Rattle.text_tree.specs.declared.exprs.SetExpr as tree_set
use Rattle.type_schema.specs.declared.types.TBase.{TBase}
use Rattle.type_schema.specs.declared.types.TBase.TheVariants as base
use Rattle.type_schema.specs.declared.types.TTy.{TTy}
use Rattle.type_schema.specs.declared.types.TTy.TheVariants.{Plain, Set, Opt}
use Rattle.type_schema.specs.Trees.{Name, Expr, flag, num, str, var, nothing, just, get, equal, iff, less, within, negation, both, either, if_expr, match_expr, SetExpr, everyone, nobody, listed, union, minus, find, path, mapped, flat_mapped, if_set, match_set, Items, no_items, static_item, record_item, Filters, no_filters, filter_and}
use Rattle.type_schema.specs.Schema.{Schema, static_of, type_of, is_principal_model}
use Rattle.type_schema.specs.Typing.{HasModel, Scope, Content, principals, records, IsCompared, IsExpr, IsSet, AreItems, AreFilters, MayHold}
use Rattle.type_typing.specs.declared.asked.Content as code
use Rattle.type_typing.specs.declared.asked.Content.TheVariants.{Principals, Records}
use Rattle.type_typing.specs.declared.vars.Var.{Var}
use Rattle.type_typing.specs.Names.{field_named, model_named, static_named}
use Rattle.type_typing.specs.Asked.{id_asked}
use Rattle.type_proper.specs.Shown.{IsShown, SetIsShown, ItemsAreShown, FiltersAreShown, is_source, shows}
use Rattle.type_anew.specs.Names.{Names}
use Rattle.type_anew.specs.Trees.{is_negative, says_not, sides, written_expr, written_set, written_items, written_filters}
use Rattle.data_records.specs.Renumbered.{new_field, new_model}
use Rattle.type_anew.specs.RenumberedAnew.{renumbered_base, renumbered_type}
use Rattle.type_anew.specs.Policies.{new_static, renumbered_expr, renumbered_set, renumbered_items, renumbered_filters}
use Rattle.type_anew.specs.Labels.{IsDirect, IsEquality, IsOrder, IsLabelled, SetIsLabelled, ItemsAreLabelled, FiltersAreLabelled}
use Rattle.type_anew.proofs.TypedExprs as of
use Rattle.type_anew.proofs.TypedExprs.{Alike, Comes, SetComes, place}
use Rattle.type_anew.proofs.Sets as set
use Rattle.type_anew.proofs.Sets.{FiltersCome, Held, ItemsCome, SourceComes}
use Rattle.type_anew.proofs.Scopes.{IsScoped, more_vars, scoped-more, single-shows, tested-new, under-more, var-there}

-- What s has is found in t by its name, under its new number.
pub record IsFound (s t : Schema) (n : Names) : Type 0 where
  pub model : (m : ℕ) → HasModel s m → model_named t (n.model m) ≡ Some (new_model s.models m)
  pub field : (m f : ℕ) (ty : TTy) → type_of s m f ≡ Some ty → field_named t (new_model s.models m) (n.field m f) ≡ Some (new_field s.models m f, renumbered_type s.models ty)
  pub static : (k : ℕ) → IsTrue (is_some (static_of s k)) → static_named t (n.static k) ≡ Some (new_static s k)
  pub principal : (m : ℕ) → IsTrue (is_principal_model s m) → IsTrue (is_principal_model t (new_model s.models m))

-- the negation that a sign says
abbrev pub wrapped : Bool → Expr → Expr
wrapped true x = negation x
wrapped false x = x

abbrev pub content_anew : Schema → Content → code.Content
content_anew s principals = Principals
content_anew s (records m) = Records (new_model s.models m)

module _ (s t : Schema) (n : Names) (found : IsFound s t n) where
  abbrev new : ℕ → ℕ
  new m = new_model s.models m

  abbrev type : TTy → TTy
  type ty = renumbered_type s.models ty

  held : (w : Content) (m : ℕ) → MayHold s w m → Held t (content_anew s w) (new m)
  held principals m may = λ at. set.principals-held t (new m) at (found.principal m may)
  held (records k) m may = subst (λ j. Held t (Records (new j)) (new m)) may.1 (λ at. set.records-held t (new m) at)

  at-type : (vars : List Var) (alone : Bool) (ty u : TTy) (x : tree.Expr) (y : Expr) → ty ≡ u → Comes t vars alone (type u) x y → Comes t vars alone (type ty) x y
  at-type vars alone ty u x y is k = subst (λ z. Comes t vars alone (type z) x y) (sym is) k

  straight : (vars : List Var) (alone : Bool) (ty : TTy) (a : tree.Expr) (x y : Expr) → IsDirect x → Comes t vars alone ty a (wrapped (says_not x) y) → Comes t vars alone ty a y
  straight vars alone ty a x y direct k = subst (λ b. Comes t vars alone ty a (wrapped b y)) direct k

  -- ---- comparisons

  alike-at : (c : TBase) (op : CmpOp) → IsCompared c → Alike t op (renumbered_base s.models c) (λ v w. equal v w op)
  alike-at base.Bool op is = absurd is
  alike-at base.Int op is = of.alike-int t op
  alike-at base.Text op is = of.alike-text t op
  alike-at (base.Id m) op is = of.alike-id t op (new m)

  module _ (vars : List Var) (alone : Bool) (x y : tree.Expr) (v w : Expr) where
    equal-signed : (b : TBase) (made : CmpOp → Expr → Expr → Expr) → ((op : CmpOp) → Alike t op b (made op)) → (op : CmpOp) → IsEquality op → Comes t vars true (Plain b) x v → Comes t vars false (Plain b) y w
        → Comes t vars alone (Plain base.Bool) (e.Cmp 0 op x y) (wrapped (is_negative op) (made op v w))
    equal-signed b made alike Eq is k l = of.Eq-comes t vars alone b (made Eq) x y v w (alike Eq) k l
    equal-signed b made alike Ne is k l = of.Ne-comes t vars alone b (made Ne) x y v w (alike Ne) k l
    equal-signed b made alike Lt is k l = absurd is
    equal-signed b made alike Le is k l = absurd is
    equal-signed b made alike Gt is k l = absurd is
    equal-signed b made alike Ge is k l = absurd is

    less-signed : (op : CmpOp) → IsOrder op → Comes t vars false (Plain base.Int) x v → Comes t vars false (Plain base.Int) y w
        → Comes t vars alone (Plain base.Bool) (sides op x y) (wrapped (is_negative op) (less v w op))
    less-signed Eq is k l = absurd is
    less-signed Ne is k l = absurd is
    less-signed Lt is k l = of.Lt-comes t vars alone x y v w k l
    less-signed Le is k l = of.Le-comes t vars alone x y v w k l
    less-signed Gt is k l = of.Gt-comes t vars alone x y v w k l
    less-signed Ge is k l = of.Ge-comes t vars alone x y v w k l

  -- below a negation that its sign says, or not
  negated : (vars : List Var) (alone : Bool) (x : tree.Expr) (y : Expr) (b : Bool) → Comes t vars alone (Plain base.Bool) x (wrapped b y) → Comes t vars false (Plain base.Bool) x (wrapped b y)
      → Comes t vars alone (Plain base.Bool) (if b then x else e.Not 0 x) (negation y)
  negated vars alone x y true here below = here
  negated vars alone x y false here below = of.Not-comes t vars alone x y below

  -- ---- what is shown of each

  abbrev pub ExprComes : Expr → Type 0
  ExprComes x =
      (names : List Name) (scope : Scope) (vars : List Var) (alone : Bool) (ty : TTy) → IsScoped s.models names scope vars → IsExpr s scope ty x → IsShown x → IsLabelled names x
      → (alone ≡ true → IsTrue (shows x)) → Comes t vars alone (type ty) (written_expr n x) (wrapped (says_not x) (renumbered_expr s x))

  abbrev pub ContentComes : SetExpr → Type 0
  ContentComes x =
      (names : List Name) (scope : Scope) (vars : List Var) (w : Content) → IsScoped s.models names scope vars → IsSet s scope w x → SetIsShown x → SetIsLabelled names x
      → SetComes t vars (content_anew s w) (written_set n x) (renumbered_set s x)

  abbrev pub ChainComes : SetExpr → Type 0
  ChainComes x =
      (names : List Name) (scope : Scope) (vars : List Var) (m : ℕ) → IsScoped s.models names scope vars → IsSet s scope (records m) x → SetIsShown x → SetIsLabelled names x → IsTrue (is_source x)
      → SourceComes t vars (new m) (written_set n x) (renumbered_set s x)

  -- a chain of records of the model m, as one of the model that may be held there
  moved : (vars : List Var) (m k : ℕ) (x : tree_set.SetExpr) (y : SetExpr) → MayHold s (records m) k → SourceComes t vars (new k) x y → SourceComes t vars (new m) x y
  moved vars m k x y may = subst (λ j. SourceComes t vars (new j) x y) may.1

  none-asked : id_asked Principals ≡ None
  unfolding id_asked
  none-asked = refl

  record-asked : (m : ℕ) → id_asked (Records m) ≡ Some (Plain (base.Id m))
  unfolding id_asked
  record-asked m = refl

  mutual
    pub expr-comes : (x : Expr) → ExprComes x
    expr-comes (flag b) names scope vars alone ty sc h shown lab all = at-type vars alone ty _ _ _ h (of.Flag-comes t vars alone b)
    expr-comes (num k) names scope vars alone ty sc h shown lab all = at-type vars alone ty _ _ _ h.0 (of.Num-comes t vars alone k)
    expr-comes (str bytes) names scope vars alone ty sc h shown lab all = at-type vars alone ty _ _ _ h.0 (of.Str-comes t vars alone bytes)
    expr-comes (var depth name) names scope vars alone ty sc h shown lab all = of.Var-comes t vars alone (type ty) depth name (var-there s.models names scope vars depth name ty sc lab h)
    expr-comes nothing names scope vars true ty sc h shown lab all = absurd (cc (all refl))
    expr-comes nothing names scope vars false ty sc h shown lab all = at-type vars false ty _ _ _ h.1 (of.None-comes t vars (renumbered_base s.models h.0))
    expr-comes (just x) names scope vars alone ty sc h shown lab all =
        at-type vars alone ty _ _ _ h.1 (of.Some-comes t vars alone (renumbered_base s.models h.0) _ _
        (straight vars alone _ _ x _ lab.0 (expr-comes x names scope vars alone (Plain h.0) sc h.2 shown lab.1 (λ _. single-shows s scope (Plain h.0) x tt h.2))))
    expr-comes (get x m f) names scope vars alone ty sc h shown lab all =
        of.Get-comes t vars alone (new m) (n.field m f) (new_field s.models m f) (type ty) _ _ (found.field m f ty h.0)
        (straight vars true _ _ x _ lab.0 (expr-comes x names scope vars true (Plain (base.Id m)) sc h.1 shown lab.1 (λ _. single-shows s scope (Plain (base.Id m)) x tt h.1)))
    expr-comes (equal x y op) names scope vars alone ty sc h shown lab all =
        at-type vars alone ty _ _ _ h.0 (equal-signed vars alone _ _ _ _ (renumbered_base s.models h.1.0) (λ o v w. equal v w o) (λ o. alike-at h.1.0 o h.1.1) op lab.0
        (straight vars true _ _ x _ lab.1.0 (expr-comes x names scope vars true (Plain h.1.0) sc h.1.2 shown.0 lab.1.1 (λ _. single-shows s scope (Plain h.1.0) x tt h.1.2)))
        (straight vars false _ _ y _ lab.2.0 (expr-comes y names scope vars false (Plain h.1.0) sc h.1.3 shown.1 lab.2.1 (λ e. absurd (cc e)))))
    expr-comes (iff x y op) names scope vars alone ty sc h shown lab all =
        at-type vars alone ty _ _ _ h.0 (equal-signed vars alone _ _ _ _ base.Bool (λ o v w. iff v w o) (λ o. of.alike-bool t o) op lab.0
        (straight vars true _ _ x _ lab.1.0 (expr-comes x names scope vars true (Plain base.Bool) sc h.1 shown.0 lab.1.1 (λ _. single-shows s scope (Plain base.Bool) x tt h.1)))
        (straight vars false _ _ y _ lab.2.0 (expr-comes y names scope vars false (Plain base.Bool) sc h.2 shown.1 lab.2.1 (λ e. absurd (cc e)))))
    expr-comes (less x y op) names scope vars alone ty sc h shown lab all =
        at-type vars alone ty _ _ _ h.0 (less-signed vars alone _ _ _ _ op lab.0
        (straight vars false _ _ x _ lab.1.0 (expr-comes x names scope vars false (Plain base.Int) sc h.1 shown.0 lab.1.1 (λ e. absurd (cc e))))
        (straight vars false _ _ y _ lab.2.0 (expr-comes y names scope vars false (Plain base.Int) sc h.2 shown.1 lab.2.1 (λ e. absurd (cc e)))))
    expr-comes (within x m all) names scope vars alone ty sc h shown lab show =
        at-type vars alone ty _ _ _ h.0 (of.Member-comes t vars alone (new m) _ _ _ _
        (straight vars true _ _ x _ lab.0.0 (expr-comes x names scope vars true (Plain (base.Id m)) sc h.1 shown.0 lab.0.1 (λ _. single-shows s scope (Plain (base.Id m)) x tt h.1)))
        (set-comes all names scope vars (records m) sc h.2 shown.1 lab.1))
    expr-comes (negation x) names scope vars alone ty sc h shown lab all =
        at-type vars alone ty _ _ _ h.0 (negated vars alone _ _ (says_not x)
        (expr-comes x names scope vars alone (Plain base.Bool) sc h.1 shown lab (λ _. single-shows s scope (Plain base.Bool) x tt h.1))
        (expr-comes x names scope vars false (Plain base.Bool) sc h.1 shown lab (λ e. absurd (cc e))))
    expr-comes (both x y) names scope vars alone ty sc h shown lab all =
        at-type vars alone ty _ _ _ h.0 (of.And-comes t vars alone _ _ _ _
        (straight vars false _ _ x _ lab.0.0 (expr-comes x names scope vars false (Plain base.Bool) sc h.1 shown.0 lab.0.1 (λ e. absurd (cc e))))
        (straight vars false _ _ y _ lab.1.0 (expr-comes y names scope vars false (Plain base.Bool) sc h.2 shown.1 lab.1.1 (λ e. absurd (cc e)))))
    expr-comes (either x y) names scope vars alone ty sc h shown lab all =
        at-type vars alone ty _ _ _ h.0 (of.Or-comes t vars alone _ _ _ _
        (straight vars false _ _ x _ lab.0.0 (expr-comes x names scope vars false (Plain base.Bool) sc h.1 shown.0 lab.0.1 (λ e. absurd (cc e))))
        (straight vars false _ _ y _ lab.1.0 (expr-comes y names scope vars false (Plain base.Bool) sc h.2 shown.1 lab.1.1 (λ e. absurd (cc e)))))
    expr-comes (if_expr c x y) names scope vars alone ty sc h shown lab all =
        of.If-comes t vars alone (type ty) _ _ _ _ _ _
        (straight vars false _ _ c _ lab.0.0 (expr-comes c names scope vars false (Plain base.Bool) sc h.0 shown.0 lab.0.1 (λ e. absurd (cc e))))
        (straight vars alone _ _ x _ lab.1.0 (expr-comes x names scope vars alone ty sc h.1 shown.1 lab.1.1 all))
        (straight vars false _ _ y _ lab.2.0 (expr-comes y names scope vars false ty sc h.2 shown.2 lab.2.1 (λ e. absurd (cc e))))
    expr-comes (match_expr x y name z) names scope vars alone ty sc h shown lab all =
        of.Match-comes t vars (more_vars s.models vars name (Plain h.0)) alone (renumbered_base s.models h.0) name (type ty) _ _ _ _ _ _
        (under-more s.models names scope vars name (Plain h.0) sc lab.2)
        (straight vars true _ _ x _ lab.0.0 (expr-comes x names scope vars true (Opt h.0) sc h.1 shown.1 lab.0.1 (λ _. shown.0)))
        (straight vars alone _ _ y _ lab.1.0 (expr-comes y names scope vars alone ty sc h.2 shown.2 lab.1.1 all))
        (straight (more_vars s.models vars name (Plain h.0)) false _ _ z _ lab.3.0
        (expr-comes z (names ++ name ∷ []) (scope ++ Plain h.0 ∷ []) (more_vars s.models vars name (Plain h.0)) false ty (scoped-more s.models names scope vars name (Plain h.0) sc) h.3 shown.3 lab.3.1 (λ e. absurd (cc e))))

    pub set-comes : (x : SetExpr) → ContentComes x
    set-comes everyone names scope vars w sc h shown lab = subst (λ z. SetComes t vars (content_anew s z) (written_set n everyone) everyone) (sym h) (set.Everyone-comes t vars)
    set-comes nobody names scope vars w sc h shown lab = set.Nobody-comes t vars (content_anew s w)
    set-comes (listed items) names scope vars w sc h shown lab = set.List-comes t vars (content_anew s w) _ _ (items-come items names scope vars w sc h shown lab)
    set-comes (union x y) names scope vars w sc h shown lab =
        set.Sum-comes t vars (content_anew s w) _ _ _ _ (set-comes x names scope vars w sc h.0 shown.0 lab.0) (set-comes y names scope vars w sc h.1 shown.1 lab.1)
    set-comes (minus x y) names scope vars w sc h shown lab =
        set.Less-comes t vars (content_anew s w) _ _ _ _ (set-comes x names scope vars w sc h.0 shown.0 lab.0) (set-comes y names scope vars w sc h.1 shown.1 lab.1)
    set-comes (find m tests) names scope vars w sc h shown lab =
        set.Find-comes t vars (content_anew s w) (new m) (n.model m) _ _ (held w m h.0)
        (set.Find-source t vars (new m) (n.model m) _ _ (found.model m h.1) (filters-come tests names scope vars m sc h.2 shown lab))
    set-comes (path m x) names scope vars w sc h shown lab =
        set.Path-comes t vars (content_anew s w) (new m) _ _ (held w m h.0)
        (set.Path-source t vars (new m) _ _ (straight vars true _ _ x _ lab.0 (expr-comes x names scope vars true (Set m) sc h.1 shown lab.1 (λ _. single-shows s scope (Set m) x tt h.1))))
    set-comes (mapped x k name m y) names scope vars w sc h shown lab =
        let sc' = scoped-more s.models names scope vars name (Plain (base.Id k)) sc in
        set.Map-comes t vars (content_anew s w) (new m) name _ _ _ (held w m h.0)
        (set.Map-source t vars (more_vars s.models vars name (Plain (base.Id k))) (new k) (new m) name _ _ _ _ (under-more s.models names scope vars name (Plain (base.Id k)) sc lab.1)
        (chain-comes x names scope vars k sc h.2 shown.1 lab.0 shown.0)
        (straight (more_vars s.models vars name (Plain (base.Id k))) true _ _ y _ lab.2.0
        (expr-comes y (names ++ name ∷ []) (scope ++ Plain (base.Id k) ∷ []) (more_vars s.models vars name (Plain (base.Id k))) true (Plain (base.Id m)) sc' h.3 shown.2 lab.2.1
        (λ _. single-shows s (scope ++ Plain (base.Id k) ∷ []) (Plain (base.Id m)) y tt h.3))))
    set-comes (flat_mapped x k name y) names scope vars w sc h shown lab =
        set.Flat-comes t vars (more_vars s.models vars name (Plain (base.Id k))) (content_anew s w) (new k) name _ _ _ _ (under-more s.models names scope vars name (Plain (base.Id k)) sc lab.1)
        (chain-comes x names scope vars k sc h.1 shown.1 lab.0 shown.0)
        (set-comes y (names ++ name ∷ []) (scope ++ Plain (base.Id k) ∷ []) (more_vars s.models vars name (Plain (base.Id k))) w (scoped-more s.models names scope vars name (Plain (base.Id k)) sc) h.2 shown.2 lab.2)
    set-comes (if_set c x y) names scope vars w sc h shown lab =
        set.IfS-comes t vars (content_anew s w) _ _ _ _ _ _
        (straight vars false _ _ c _ lab.0.0 (expr-comes c names scope vars false (Plain base.Bool) sc h.0 shown.0 lab.0.1 (λ e. absurd (cc e))))
        (set-comes x names scope vars w sc h.1 shown.1 lab.1) (set-comes y names scope vars w sc h.2 shown.2 lab.2)
    set-comes (match_set x y name z) names scope vars w sc h shown lab =
        set.MatchS-comes t vars (more_vars s.models vars name (Plain h.0)) (content_anew s w) (renumbered_base s.models h.0) name _ _ _ _ _ _
        (under-more s.models names scope vars name (Plain h.0) sc lab.2)
        (straight vars true _ _ x _ lab.0.0 (expr-comes x names scope vars true (Opt h.0) sc h.1 shown.1 lab.0.1 (λ _. shown.0)))
        (set-comes y names scope vars w sc h.2 shown.2 lab.1)
        (set-comes z (names ++ name ∷ []) (scope ++ Plain h.0 ∷ []) (more_vars s.models vars name (Plain h.0)) w (scoped-more s.models names scope vars name (Plain h.0) sc) h.3 shown.3 lab.3)

    chain-comes : (x : SetExpr) → ChainComes x
    chain-comes everyone names scope vars m sc h shown lab is = absurd (cc is)
    chain-comes nobody names scope vars m sc h shown lab is = absurd (cc is)
    chain-comes (listed items) names scope vars m sc h shown lab is = absurd (cc is)
    chain-comes (union x y) names scope vars m sc h shown lab is = absurd (cc is)
    chain-comes (minus x y) names scope vars m sc h shown lab is = absurd (cc is)
    chain-comes (find j tests) names scope vars m sc h shown lab is =
        moved vars m j _ _ h.0 (set.Find-source t vars (new j) (n.model j) _ _ (found.model j h.1) (filters-come tests names scope vars j sc h.2 shown lab))
    chain-comes (path j x) names scope vars m sc h shown lab is =
        moved vars m j _ _ h.0
        (set.Path-source t vars (new j) _ _ (straight vars true _ _ x _ lab.0 (expr-comes x names scope vars true (Set j) sc h.1 shown lab.1 (λ _. single-shows s scope (Set j) x tt h.1))))
    chain-comes (mapped x k name j y) names scope vars m sc h shown lab is =
        let sc' = scoped-more s.models names scope vars name (Plain (base.Id k)) sc in
        moved vars m j _ _ h.0
        (set.Map-source t vars (more_vars s.models vars name (Plain (base.Id k))) (new k) (new j) name _ _ _ _ (under-more s.models names scope vars name (Plain (base.Id k)) sc lab.1)
        (chain-comes x names scope vars k sc h.2 shown.1 lab.0 shown.0)
        (straight (more_vars s.models vars name (Plain (base.Id k))) true _ _ y _ lab.2.0
        (expr-comes y (names ++ name ∷ []) (scope ++ Plain (base.Id k) ∷ []) (more_vars s.models vars name (Plain (base.Id k))) true (Plain (base.Id j)) sc' h.3 shown.2 lab.2.1
        (λ _. single-shows s (scope ++ Plain (base.Id k) ∷ []) (Plain (base.Id j)) y tt h.3))))
    chain-comes (flat_mapped x k name y) names scope vars m sc h shown lab is = absurd (cc is)
    chain-comes (if_set c x y) names scope vars m sc h shown lab is = absurd (cc is)
    chain-comes (match_set x y name z) names scope vars m sc h shown lab is = absurd (cc is)

    items-come : (x : Items) (names : List Name) (scope : Scope) (vars : List Var) (w : Content) → IsScoped s.models names scope vars → AreItems s scope w x → ItemsAreShown x → ItemsAreLabelled names x
        → ItemsCome t vars (content_anew s w) (written_items n x) (renumbered_items s x)
    items-come no_items names scope vars w sc h shown lab = set.none-come t vars (content_anew s w)
    items-come (static_item k items) names scope vars w sc h shown lab =
        subst (λ z. ItemsCome t vars (content_anew s z) (written_items n (static_item k items)) (renumbered_items s (static_item k items))) (sym h.0)
        (set.Static-comes t vars (new_static s k) (n.static k) _ _ (found.static k h.1)
        (subst (λ z. ItemsCome t vars (content_anew s z) (written_items n items) (renumbered_items s items)) h.0 (items-come items names scope vars w sc h.2 shown lab)))
    items-come (record_item m x items) names scope vars principals sc h shown lab =
        set.One-comes t vars Principals true (new m) _ _ _ _ none-asked (held principals m h.0)
        (straight vars true _ _ x _ lab.0.0 (expr-comes x names scope vars true (Plain (base.Id m)) sc h.1 shown.0 lab.0.1 (λ _. single-shows s scope (Plain (base.Id m)) x tt h.1)))
        (items-come items names scope vars principals sc h.2 shown.1 lab.1)
    items-come (record_item m x items) names scope vars (records k) sc h shown lab =
        set.One-comes t vars (Records (new k)) false (new m) _ _ _ _ (subst (λ j. id_asked (Records (new j)) ≡ Some (Plain (base.Id (new m)))) h.0.1 (record-asked (new m))) (held (records k) m h.0)
        (straight vars false _ _ x _ lab.0.0 (expr-comes x names scope vars false (Plain (base.Id m)) sc h.1 shown.0 lab.0.1 (λ e. absurd (cc e))))
        (items-come items names scope vars (records k) sc h.2 shown.1 lab.1)

    filters-come : (x : Filters) (names : List Name) (scope : Scope) (vars : List Var) (m : ℕ) → IsScoped s.models names scope vars → AreFilters s scope m x → FiltersAreShown x → FiltersAreLabelled names x
        → FiltersCome t vars (new m) (written_filters n m x) (renumbered_filters s m x)
    filters-come no_filters names scope vars m sc h shown lab = set.no-filters-come t vars (new m)
    filters-come (filter_and f op x tests) names scope vars m sc h shown lab =
        set.Filter-comes t vars (new m) (new_field s.models m f) (n.field m f) op (type h.0.0) (type h.0.1) _ _ _ _ (found.field m f h.0.0 h.0.2) (tested-new s.models s op h.0.0 h.0.1 h.0.3)
        (straight vars false _ _ x _ lab.0.0 (expr-comes x names scope vars false h.0.1 sc h.0.4 shown.0 lab.0.1 (λ e. absurd (cc e))))
        (filters-come tests names scope vars m sc h.1 shown.1 lab.1)
