-- The typing of each form of set that a tree is written as, by that of its parts.
use Rattle.std.proofs.Common.{◌≡◌, ℕ, Bool, true, false, List, [], ◌∷◌, ◌++◌, map, refl, sym, ◌∙◌, ap, append_assoc, append-nil}
use Rattle.std.specs.Prelude.{Some, Ok, Err, if◌then◌else◌, IsTrue}
use Rattle.std.proofs.lemmas.Bool.{eq-eqb}
use Rattle.text_tree.specs.declared.exprs.FilterOp.{FilterOp}
use Rattle.text_tree.specs.declared.exprs.Expr as tree
use Rattle.text_tree.specs.declared.exprs.SetExpr as tree_set
use Rattle.text_tree.specs.declared.exprs.Item.{Item}
use Rattle.text_tree.specs.declared.exprs.Filter.{Filter, roll-Filter}
use Rattle.text_tree.specs.declared.exprs.SetExpr.TheVariants as se
use Rattle.text_tree.specs.declared.exprs.Item.TheVariants as i
use Rattle.type_schema.specs.declared.types.TBase.{TBase}
use Rattle.type_schema.specs.declared.types.TBase.TheVariants as base
use Rattle.type_schema.specs.declared.types.TTy.{TTy}
use Rattle.type_schema.specs.declared.types.TTy.TheVariants.{Plain, Set, Opt}
use Rattle.type_schema.specs.declared.trees.TSet.TheVariants as ts
use Rattle.type_schema.specs.declared.trees.TItem.{TItem}
use Rattle.type_schema.specs.declared.trees.TItem.TheVariants as ti
use Rattle.type_schema.specs.declared.trees.TFilter.{TFilter}
use Rattle.type_schema.specs.declared.trees.TFilter.TheVariants as tf
use Rattle.type_schema.specs.Trees.{Name, Expr, SetExpr, everyone, nobody, listed, union, minus, find, path, mapped, flat_mapped, if_set, match_set, Items, no_items, static_item, record_item, Filters, no_filters, filter_and}
use Rattle.type_schema.specs.Schema.{Schema, is_principal_model}
use Rattle.type_schema.specs.Views.{expr_of, set_of, item_of, filter_of, items_of, filters_of}
use Rattle.type_typing.specs.declared.asked.Content.{Content}
use Rattle.type_typing.specs.declared.asked.Content.TheVariants.{Principals, Records}
use Rattle.type_typing.specs.declared.asked.Source.{Source}
use Rattle.type_typing.specs.declared.asked.Typed.{Typed}
use Rattle.type_typing.specs.declared.vars.Var.{Var}
use Rattle.type_typing.specs.declared.type_err.TypeErr.TheVariants.{NotPrincipal, Unknown, WrongType}
use Rattle.type_typing.specs.Names.{field_named, model_named, static_named}
use Rattle.type_typing.specs.Asked.{among_principals, id_asked, may_hold, set_of_ids, source, under}
use Rattle.type_typing.specs.Compared.{tested}
use Rattle.type_typing.specs.Exprs.{typed_expr, typed_set, typed_source, typed_item, typed_filter}
use Rattle.type_typing.specs.Outcome.{Checked, ◌>>=◌, checked_from, or_else}
use Rattle.type_typing.proofs.Forms as form
use Rattle.type_typing.proofs.Seen as seen
use Rattle.type_typing.proofs.Shown.{EachOk}
use Rattle.type_anew.specs.Names.{named}
use Rattle.type_anew.proofs.TypedExprs.{Comes, SetComes, id-is, option-is, place, then-ok}

-- ---- lists

each-all : {A B : Type 0} (f : A → Checked B) (xs : List A) (done rs : List B) → EachOk f xs rs → checked_from done (map f xs) ≡ Ok (done ++ rs)
each-all f [] done [] each = ap Ok (sym (append-nil done))
each-all f [] done (r ∷ rs) each = absurd each
each-all f (x ∷ xs) done [] each = absurd each
each-all {A} {B} f (x ∷ xs) done (r ∷ rs) each =
    ap (λ (o : Checked B). o >>= (λ y. checked_from (done ++ y ∷ []) (map f xs))) each.0
    ∙ each-all f xs (done ++ r ∷ []) rs each.1
    ∙ ap Ok (append_assoc done (r ∷ []) rs)

set-is : (r : Typed) (m : ℕ) → r.ty ≡ Set m → set_of_ids r.ty r.at ≡ Ok m
unfolding set_of_ids
set-is r m e = ap (λ ty. set_of_ids ty r.at) e

among : (at : ℕ) → among_principals Principals at ≡ Ok tt
unfolding among_principals
among at = refl

-- the records of this model, where they are asked
pub records-held : (s : Schema) (m at : ℕ) → may_hold s (Records m) m at ≡ Ok tt
unfolding may_hold
records-held s m at = ap (λ b. if b then Ok tt else Err (WrongType at)) (eq-eqb m m refl)

pub principals-held : (s : Schema) (m at : ℕ) → IsTrue (is_principal_model s m) → may_hold s Principals m at ≡ Ok tt
unfolding may_hold
principals-held s m at is = ap (λ b. if b then Ok tt else Err (NotPrincipal at)) is

module _ (s : Schema) where
  -- ---- what comes of a tree: a chain of records of this model, items, and filters

  abbrev pub SourceComes : List Var → ℕ → tree_set.SetExpr → SetExpr → Type 0
  SourceComes vars m x y = (r : Source) × (typed_source s vars x ≡ Ok r) × (set_of r.set ≡ y) × (r.model ≡ m)

  abbrev pub ItemsCome : List Var → Content → List Item → Items → Type 0
  ItemsCome vars content xs y = (rs : List TItem) × EachOk (typed_item s vars content) xs rs × (items_of (map item_of rs) ≡ y)

  abbrev pub FiltersCome : List Var → ℕ → List Filter → Filters → Type 0
  FiltersCome vars m xs y = (rs : List TFilter) × EachOk (typed_filter s vars m) xs rs × (filters_of (map filter_of rs) ≡ y)

  -- records of the model may be held here
  abbrev pub Held : Content → ℕ → Type 0
  Held content m = (at : ℕ) → may_hold s content m at ≡ Ok tt

  -- ---- sets

  pub Everyone-comes : (vars : List Var) → SetComes s vars Principals (se.Everyone 0 0) everyone
  Everyone-comes vars = (ts.Everyone, then-ok _ _ tt _ (form.Everyone_is s vars Principals 0 0) (among 0), seen.Everyone_seen)

  pub Nobody-comes : (vars : List Var) (content : Content) → SetComes s vars content (se.Nobody 0) nobody
  Nobody-comes vars content = (ts.Nobody, form.Nobody_is s vars content 0, seen.Nobody_seen)

  pub List-comes : (vars : List Var) (content : Content) (xs : List Item) (y : Items) → ItemsCome vars content xs y → SetComes s vars content (se.List 0 xs) (listed y)
  List-comes vars content xs y k =
      (ts.List k.0, then-ok _ _ k.0 _ (form.List_is s vars content xs 0) (each-all (typed_item s vars content) xs [] k.0 k.1), seen.List_seen k.0 ∙ ap listed k.2)

  both-sets : (made : SetExpr → SetExpr → SetExpr) (a b c d : SetExpr) → a ≡ c → b ≡ d → made a b ≡ made c d
  both-sets made a b c d p q = ap (λ z. made z b) p ∙ ap (λ z. made c z) q

  pub Sum-comes : (vars : List Var) (content : Content) (x y : tree_set.SetExpr) (v w : SetExpr) → SetComes s vars content x v → SetComes s vars content y w → SetComes s vars content (se.Sum 0 x y) (union v w)
  Sum-comes vars content x y v w k l =
      let one = then-ok _ _ k.0 _ (form.Sum_is s vars content x y 0) k.1 in
      (ts.Sum k.0 l.0, then-ok _ _ l.0 _ one l.1, seen.Sum_seen k.0 l.0 ∙ both-sets union _ _ v w k.2 l.2)

  pub Less-comes : (vars : List Var) (content : Content) (x y : tree_set.SetExpr) (v w : SetExpr) → SetComes s vars content x v → SetComes s vars content y w → SetComes s vars content (se.Less 0 x y) (minus v w)
  Less-comes vars content x y v w k l =
      let one = then-ok _ _ k.0 _ (form.Less_is s vars content x y 0) k.1 in
      (ts.Less k.0 l.0, then-ok _ _ l.0 _ one l.1, seen.Minus_seen k.0 l.0 ∙ both-sets minus _ _ v w k.2 l.2)

  -- a chain, where its records may be held
  chain-comes : (vars : List Var) (content : Content) (m : ℕ) (x : tree_set.SetExpr) (y : SetExpr) → Held content m → SourceComes vars m x y
      → typed_set s vars content x ≡ (typed_source s vars x >>= (λ of. may_hold s content of.model of.at >>= (λ _. Ok of.set))) → SetComes s vars content x y
  chain-comes vars content m x y held k is =
      let one = then-ok _ _ k.0 _ is k.1 in
      let there : may_hold s content k.0.model k.0.at ≡ Ok tt = ap (λ n. may_hold s content n k.0.at) k.3 ∙ held k.0.at in
      (k.0.set, then-ok _ _ tt _ one there, k.2)

  pub Find-source : (vars : List Var) (m : ℕ) (name : Name) (xs : List Filter) (y : Filters) → model_named s name ≡ Some m → FiltersCome vars m xs y → SourceComes vars m (se.Find 0 (named name) xs) (find m y)
  Find-source vars m name xs y has k =
      let one = then-ok _ _ m _ (form.Find_source s vars (named name) xs 0) (ap (λ o. or_else o (Unknown 0)) has) in
      let two = then-ok _ _ k.0 _ one (each-all (typed_filter s vars m) xs [] k.0 k.1) in
      (source 0 m (ts.Find m k.0), two, seen.Find_seen m k.0 ∙ ap (find m) k.2, refl)

  pub Find-comes : (vars : List Var) (content : Content) (m : ℕ) (name : Name) (xs : List Filter) (y : SetExpr) → Held content m → SourceComes vars m (se.Find 0 (named name) xs) y
      → SetComes s vars content (se.Find 0 (named name) xs) y
  Find-comes vars content m name xs y held k = chain-comes vars content m _ y held k (form.Find_is s vars content (named name) xs 0)

  pub Path-source : (vars : List Var) (m : ℕ) (x : tree.Expr) (y : Expr) → Comes s vars true (Set m) x y → SourceComes vars m (se.Path 0 x) (path m y)
  Path-source vars m x y k =
      let one = then-ok _ _ k.0 _ (form.Path_source s vars x 0) k.1 in
      (source k.0.at m (ts.Path m k.0.tree), then-ok _ _ m _ one (set-is k.0 m k.3), seen.Path_seen m k.0.tree ∙ ap (path m) k.2, refl)

  pub Path-comes : (vars : List Var) (content : Content) (m : ℕ) (x : tree.Expr) (y : SetExpr) → Held content m → SourceComes vars m (se.Path 0 x) y → SetComes s vars content (se.Path 0 x) y
  Path-comes vars content m x y held k = chain-comes vars content m _ y held k (form.Path_is s vars content x 0)

  -- one more variable, a record of the model of a chain
  record-under : (vars inner : List Var) (name : Name) (m n : ℕ) → m ≡ n → under vars (named name) (Plain (base.Id n)) ≡ Ok inner → under vars (named name) (Plain (base.Id m)) ≡ Ok inner
  record-under vars inner name m n same is = ap (λ k. under vars (named name) (Plain (base.Id k))) same ∙ is

  pub Map-source : (vars inner : List Var) (n m : ℕ) (name : Name) (x : tree_set.SetExpr) (y : tree.Expr) (v : SetExpr) (w : Expr) → under vars (named name) (Plain (base.Id n)) ≡ Ok inner
      → SourceComes vars n x v → Comes s inner true (Plain (base.Id m)) y w → SourceComes vars m (se.MapS 0 x (named name) y) (mapped v n name m w)
  Map-source vars inner n m name x y v w new k l =
      let one = then-ok _ _ k.0 _ (form.MapS_source s vars x (named name) y 0) k.1 in
      let two = then-ok _ _ inner _ one (record-under vars inner name k.0.model n k.3 new) in
      let three = then-ok _ _ l.0 _ two l.1 in (
        source k.0.at m (ts.MapS k.0.set k.0.model name m l.0.tree),
        then-ok _ _ m _ three (id-is l.0 m l.3),
        seen.MapS_seen k.0.set k.0.model name m l.0.tree
            ∙ ap (λ z. mapped z k.0.model name m (expr_of l.0.tree)) k.2
            ∙ ap (λ z. mapped v z name m (expr_of l.0.tree)) k.3
            ∙ ap (λ z. mapped v n name m z) l.2,
        refl,
      )

  pub Map-comes : (vars : List Var) (content : Content) (m : ℕ) (name : Name) (x : tree_set.SetExpr) (y : tree.Expr) (z : SetExpr) → Held content m → SourceComes vars m (se.MapS 0 x (named name) y) z
      → SetComes s vars content (se.MapS 0 x (named name) y) z
  Map-comes vars content m name x y z held k = chain-comes vars content m _ z held k (form.MapS_is s vars content x (named name) y 0)

  pub Flat-comes : (vars inner : List Var) (content : Content) (n : ℕ) (name : Name) (x y : tree_set.SetExpr) (v w : SetExpr) → under vars (named name) (Plain (base.Id n)) ≡ Ok inner
      → SourceComes vars n x v → SetComes s inner content y w → SetComes s vars content (se.FlatS 0 x (named name) y) (flat_mapped v n name w)
  Flat-comes vars inner content n name x y v w new k l =
      let one = then-ok _ _ k.0 _ (form.FlatS_is s vars content x (named name) y 0) k.1 in
      let two = then-ok _ _ inner _ one (record-under vars inner name k.0.model n k.3 new) in (
        ts.FlatS k.0.set k.0.model name l.0,
        then-ok _ _ l.0 _ two l.1,
        seen.FlatS_seen k.0.set k.0.model name l.0
            ∙ ap (λ z. flat_mapped z k.0.model name (set_of l.0)) k.2
            ∙ ap (λ z. flat_mapped v z name (set_of l.0)) k.3
            ∙ ap (λ z. flat_mapped v n name z) l.2,
      )

  pub IfS-comes : (vars : List Var) (content : Content) (c : tree.Expr) (x y : tree_set.SetExpr) (u : Expr) (v w : SetExpr) → Comes s vars false (Plain base.Bool) c u
      → SetComes s vars content x v → SetComes s vars content y w → SetComes s vars content (se.IfS 0 c x y) (if_set u v w)
  IfS-comes vars content c x y u v w h k l =
      let one = then-ok _ _ h.0 _ (form.IfS_is s vars content c x y 0) h.1 in
      let two = then-ok _ _ k.0 _ one k.1 in (
        ts.IfS h.0.tree k.0 l.0,
        then-ok _ _ l.0 _ two l.1,
        seen.IfS_seen h.0.tree k.0 l.0 ∙ ap (λ z. if_set z (set_of k.0) (set_of l.0)) h.2 ∙ both-sets (if_set u) _ _ v w k.2 l.2,
      )

  pub MatchS-comes : (vars inner : List Var) (content : Content) (b : TBase) (name : Name) (x : tree.Expr) (y z : tree_set.SetExpr) (u : Expr) (v w : SetExpr) → under vars (named name) (Plain b) ≡ Ok inner
      → Comes s vars true (Opt b) x u → SetComes s vars content y v → SetComes s inner content z w → SetComes s vars content (se.MatchS 0 x y (named name) z) (match_set u v name w)
  MatchS-comes vars inner content b name x y z u v w new h k l =
      let one = then-ok _ _ h.0 _ (form.MatchS_is s vars content x y (named name) z 0) h.1 in
      let two = then-ok _ _ b _ one (option-is h.0 b h.3) in
      let three = then-ok _ _ k.0 _ two k.1 in
      let four = then-ok _ _ inner _ three new in (
        ts.MatchS h.0.tree k.0 name l.0,
        then-ok _ _ l.0 _ four l.1,
        seen.MatchS_seen h.0.tree k.0 name l.0 ∙ ap (λ q. match_set q (set_of k.0) name (set_of l.0)) h.2 ∙ both-sets (λ a b. match_set u a name b) _ _ v w k.2 l.2,
      )

  -- ---- items and filters

  pub none-come : (vars : List Var) (content : Content) → ItemsCome vars content [] no_items
  none-come vars content = ([], tt, refl)

  pub Static-comes : (vars : List Var) (n : ℕ) (name : Name) (xs : List Item) (y : Items) → static_named s name ≡ Some n → ItemsCome vars Principals xs y
      → ItemsCome vars Principals (i.Static (named name) ∷ xs) (static_item n y)
  Static-comes vars n name xs y has k =
      let one = then-ok _ _ tt _ (form.Static_is s vars Principals (named name)) (among 0) in (
        ti.Static n ∷ k.0,
        (then-ok _ _ n _ one (ap (λ o. or_else o (Unknown 0)) has), k.1),
        ap (λ (f : Items → Items). f (items_of (map item_of k.0))) (seen.Static_seen n) ∙ ap (static_item n) k.2,
      )

  pub One-comes : (vars : List Var) (content : Content) (alone : Bool) (m : ℕ) (x : tree.Expr) (v : Expr) (xs : List Item) (y : Items) → id_asked content ≡ place alone (Plain (base.Id m)) → Held content m
      → Comes s vars alone (Plain (base.Id m)) x v → ItemsCome vars content xs y → ItemsCome vars content (i.One x ∷ xs) (record_item m v y)
  One-comes vars content alone m x v xs y asks held h k =
      let there : typed_expr s vars (id_asked content) x ≡ Ok h.0 = ap (λ o. typed_expr s vars o x) asks ∙ h.1 in
      let one = then-ok _ _ h.0 _ (form.One_is s vars content x) there in
      let two = then-ok _ _ m _ one (id-is h.0 m h.3) in (
        ti.One m h.0.tree ∷ k.0,
        (then-ok _ _ tt _ two (held h.0.at), k.1),
        ap (λ (f : Items → Items). f (items_of (map item_of k.0))) (seen.One_seen m h.0.tree) ∙ ap (λ z. record_item m z (items_of (map item_of k.0))) h.2 ∙ ap (record_item m v) k.2,
      )

  pub no-filters-come : (vars : List Var) (m : ℕ) → FiltersCome vars m [] no_filters
  no-filters-come vars m = ([], tt, refl)

  pub Filter-comes : (vars : List Var) (m f : ℕ) (name : Name) (op : FilterOp) (held asked : TTy) (x : tree.Expr) (v : Expr) (xs : List Filter) (y : Filters) → field_named s m name ≡ Some (f, held)
      → tested op held 0 ≡ Ok asked → Comes s vars false asked x v → FiltersCome vars m xs y
      → FiltersCome vars m (roll-Filter (record { field = named name; op = op; value = x }) ∷ xs) (filter_and f op v y)
  Filter-comes vars m f name op held asked x v xs y has may h k =
      let one = then-ok _ _ (f, held) _ (form.rolled_filter s vars m (named name) op x) (ap (λ o. or_else o (Unknown 0)) has) in
      let two = then-ok _ _ asked _ one may in (
        tf.Test f op h.0.tree ∷ k.0,
        (then-ok _ _ h.0 _ two h.1, k.1),
        ap (λ (g : Filters → Filters). g (filters_of (map filter_of k.0))) (seen.Test_seen f op h.0.tree) ∙ ap (λ z. filter_and f op z (filters_of (map filter_of k.0))) h.2 ∙ ap (filter_and f op v) k.2,
      )
