-- What is well typed over a schema is written the same with names that agree on what the schema has.
use Rattle.std.proofs.Common.{◌≡◌, ℕ, List, [], ◌∷◌, ◌++◌, map, refl, ◌∙◌, ap}
use Rattle.std.specs.Prelude.{IsTrue, is_some, Some, if◌then◌else◌}
use Rattle.std.specs.List.{AllByRecursion}
use Rattle.text_tree.specs.declared.exprs.Expr.TheVariants as e
use Rattle.text_tree.specs.declared.exprs.SetExpr.TheVariants as se
use Rattle.text_tree.specs.declared.exprs.Item.TheVariants as i
use Rattle.text_tree.specs.declared.exprs.Filter.{roll-Filter}
use Rattle.text_tree.specs.declared.policies.Policy.TheVariants as p
use Rattle.text_tree.specs.declared.models.Base.TheVariants as b
use Rattle.text_tree.specs.declared.models.Ty.TheVariants as ty
use Rattle.type_schema.specs.declared.types.TBase.{TBase}
use Rattle.type_schema.specs.declared.types.TBase.TheVariants as base
use Rattle.type_schema.specs.declared.types.TTy.{TTy}
use Rattle.type_schema.specs.declared.types.TTy.TheVariants.{Plain, Set, Opt}
use Rattle.type_schema.specs.Trees.{Expr, flag, num, str, var, nothing, just, get, equal, iff, less, within, negation, both, either, if_expr, match_expr, SetExpr, everyone, nobody, listed, union, minus, find, path, mapped, flat_mapped, if_set, match_set, Items, no_items, static_item, record_item, Filters, no_filters, filter_and, Policy, to_all, to_none, by_record}
use Rattle.type_schema.specs.Schema.{FieldInfo, ModelInfo, Schema, static_of, type_of}
use Rattle.type_schema.specs.Typing.{AreFilters, AreItems, Content, HasModel, IsBase, IsExpr, IsField, IsModel, IsPolicy, IsSet, IsType, Scope, principals, records}
use Rattle.type_anew.specs.Names.{Names, named}
use Rattle.type_anew.specs.Trees.{says_not, sides, written_expr, written_filters, written_items, written_policy, written_set}
use Rattle.type_anew.specs.Specs.{written_base, written_field, written_model, written_type}

pub record Agree (w : Schema) (n k : Names) : Type 0 where
  pub model : (m : ℕ) → HasModel w m → n.model m ≡ k.model m
  pub field : (m f : ℕ) (t : TTy) → type_of w m f ≡ Some t → n.field m f ≡ k.field m f
  pub static : (j : ℕ) → IsTrue (is_some (static_of w j)) → n.static j ≡ k.static j

module _ (w : Schema) (n k : Names) (agree : Agree w n k) where
  mutual
    expr-agrees : (scope : Scope) (t : TTy) (x : Expr) → IsExpr w scope t x → written_expr n x ≡ written_expr k x
    expr-agrees scope t (flag v) is = refl
    expr-agrees scope t (num v) is = refl
    expr-agrees scope t (str bytes) is = refl
    expr-agrees scope t (var depth name) is = refl
    expr-agrees scope t nothing is = refl
    expr-agrees scope t (just x) is = ap (λ z. e.SomeLit 0 z) (expr-agrees scope (Plain is.0) x is.2)
    expr-agrees scope t (get x m f) is =
        ap (λ z. e.Get 0 z (named (n.field m f))) (expr-agrees scope (Plain (base.Id m)) x is.1) ∙ ap (λ z. e.Get 0 (written_expr k x) (named z)) (agree.field m f t is.0)
    expr-agrees scope t (equal x y op) is =
        ap (λ z. e.Cmp 0 op z (written_expr n y)) (expr-agrees scope (Plain is.1.0) x is.1.2) ∙ ap (λ z. e.Cmp 0 op (written_expr k x) z) (expr-agrees scope (Plain is.1.0) y is.1.3)
    expr-agrees scope t (iff x y op) is =
        ap (λ z. e.Cmp 0 op z (written_expr n y)) (expr-agrees scope (Plain base.Bool) x is.1) ∙ ap (λ z. e.Cmp 0 op (written_expr k x) z) (expr-agrees scope (Plain base.Bool) y is.2)
    expr-agrees scope t (less x y op) is =
        ap (λ z. sides op z (written_expr n y)) (expr-agrees scope (Plain base.Int) x is.1) ∙ ap (λ z. sides op (written_expr k x) z) (expr-agrees scope (Plain base.Int) y is.2)
    expr-agrees scope t (within x m set) is =
        ap (λ z. e.Member 0 z (written_set n set)) (expr-agrees scope (Plain (base.Id m)) x is.1) ∙ ap (λ z. e.Member 0 (written_expr k x) z) (set-agrees scope (records m) set is.2)
    expr-agrees scope t (negation x) is = ap (λ z. if says_not x then z else e.Not 0 z) (expr-agrees scope (Plain base.Bool) x is.1)
    expr-agrees scope t (both x y) is =
        ap (λ z. e.And 0 z (written_expr n y)) (expr-agrees scope (Plain base.Bool) x is.1) ∙ ap (λ z. e.And 0 (written_expr k x) z) (expr-agrees scope (Plain base.Bool) y is.2)
    expr-agrees scope t (either x y) is =
        ap (λ z. e.Or 0 z (written_expr n y)) (expr-agrees scope (Plain base.Bool) x is.1) ∙ ap (λ z. e.Or 0 (written_expr k x) z) (expr-agrees scope (Plain base.Bool) y is.2)
    expr-agrees scope t (if_expr c x y) is =
        ap (λ z. e.IfE 0 z (written_expr n x) (written_expr n y)) (expr-agrees scope (Plain base.Bool) c is.0)
        ∙ ap (λ z. e.IfE 0 (written_expr k c) z (written_expr n y)) (expr-agrees scope t x is.1)
        ∙ ap (λ z. e.IfE 0 (written_expr k c) (written_expr k x) z) (expr-agrees scope t y is.2)
    expr-agrees scope t (match_expr x y name c) is =
        ap (λ z. e.MatchE 0 z (written_expr n y) (named name, written_expr n c)) (expr-agrees scope (Opt is.0) x is.1)
        ∙ ap (λ z. e.MatchE 0 (written_expr k x) z (named name, written_expr n c)) (expr-agrees scope t y is.2)
        ∙ ap (λ z. e.MatchE 0 (written_expr k x) (written_expr k y) (named name, z)) (expr-agrees (scope ++ Plain is.0 ∷ []) t c is.3)

    set-agrees : (scope : Scope) (c : Content) (x : SetExpr) → IsSet w scope c x → written_set n x ≡ written_set k x
    set-agrees scope c everyone is = refl
    set-agrees scope c nobody is = refl
    set-agrees scope c (listed items) is = ap (λ z. se.List 0 z) (items-agree scope c items is)
    set-agrees scope c (union x y) is =
        ap (λ z. se.Sum 0 z (written_set n y)) (set-agrees scope c x is.0) ∙ ap (λ z. se.Sum 0 (written_set k x) z) (set-agrees scope c y is.1)
    set-agrees scope c (minus x y) is =
        ap (λ z. se.Less 0 z (written_set n y)) (set-agrees scope c x is.0) ∙ ap (λ z. se.Less 0 (written_set k x) z) (set-agrees scope c y is.1)
    set-agrees scope c (find m filters) is =
        ap (λ z. se.Find 0 (named z) (written_filters n m filters)) (agree.model m is.1) ∙ ap (λ z. se.Find 0 (named (k.model m)) z) (filters-agree scope m filters is.2)
    set-agrees scope c (path m x) is = ap (λ z. se.Path 0 z) (expr-agrees scope (Set m) x is.1)
    set-agrees scope c (mapped set j name m x) is =
        ap (λ z. se.MapS 0 z (named name) (written_expr n x)) (set-agrees scope (records j) set is.2)
        ∙ ap (λ z. se.MapS 0 (written_set k set) (named name) z) (expr-agrees (scope ++ Plain (base.Id j) ∷ []) (Plain (base.Id m)) x is.3)
    set-agrees scope c (flat_mapped set j name body) is =
        ap (λ z. se.FlatS 0 z (named name) (written_set n body)) (set-agrees scope (records j) set is.1)
        ∙ ap (λ z. se.FlatS 0 (written_set k set) (named name) z) (set-agrees (scope ++ Plain (base.Id j) ∷ []) c body is.2)
    set-agrees scope c (if_set x y z) is =
        ap (λ a. se.IfS 0 a (written_set n y) (written_set n z)) (expr-agrees scope (Plain base.Bool) x is.0)
        ∙ ap (λ a. se.IfS 0 (written_expr k x) a (written_set n z)) (set-agrees scope c y is.1)
        ∙ ap (λ a. se.IfS 0 (written_expr k x) (written_set k y) a) (set-agrees scope c z is.2)
    set-agrees scope c (match_set x y name z) is =
        ap (λ a. se.MatchS 0 a (written_set n y) (named name) (written_set n z)) (expr-agrees scope (Opt is.0) x is.1)
        ∙ ap (λ a. se.MatchS 0 (written_expr k x) a (named name) (written_set n z)) (set-agrees scope c y is.2)
        ∙ ap (λ a. se.MatchS 0 (written_expr k x) (written_set k y) (named name) a) (set-agrees (scope ++ Plain is.0 ∷ []) c z is.3)

    items-agree : (scope : Scope) (c : Content) (xs : Items) → AreItems w scope c xs → written_items n xs ≡ written_items k xs
    items-agree scope c no_items is = refl
    items-agree scope c (static_item j xs) is =
        ap (λ z. i.Static (named z) ∷ written_items n xs) (agree.static j is.1) ∙ ap (λ zs. i.Static (named (k.static j)) ∷ zs) (items-agree scope c xs is.2)
    items-agree scope c (record_item m x xs) is =
        ap (λ z. i.One z ∷ written_items n xs) (expr-agrees scope (Plain (base.Id m)) x is.1) ∙ ap (λ zs. i.One (written_expr k x) ∷ zs) (items-agree scope c xs is.2)

    filters-agree : (scope : Scope) (m : ℕ) (xs : Filters) → AreFilters w scope m xs → written_filters n m xs ≡ written_filters k m xs
    filters-agree scope m no_filters is = refl
    filters-agree scope m (filter_and f op x xs) is =
        ap (λ z. roll-Filter (record { field = named z; op = op; value = written_expr n x }) ∷ written_filters n m xs) (agree.field m f is.0.0 is.0.2)
        ∙ ap (λ z. roll-Filter (record { field = named (k.field m f); op = op; value = z }) ∷ written_filters n m xs) (expr-agrees scope is.0.1 x is.0.4)
        ∙ ap (λ zs. roll-Filter (record { field = named (k.field m f); op = op; value = written_expr k x }) ∷ zs) (filters-agree scope m xs is.1)

  pub policy-agrees : (m : ℕ) (x : Policy) → IsPolicy w m x → written_policy n x ≡ written_policy k x
  policy-agrees m to_all is = refl
  policy-agrees m to_none is = refl
  policy-agrees m (by_record name set) is = ap (λ z. p.Fun (named name) z) (set-agrees (Plain (base.Id m) ∷ []) principals set is)

  base-agrees : (t : TBase) → IsBase w t → written_base n t ≡ written_base k t
  base-agrees base.Bool is = refl
  base-agrees base.Int is = refl
  base-agrees base.Text is = refl
  base-agrees (base.Id m) is = ap (λ z. b.Id (named z) 0) (agree.model m is)

  pub type-agrees : (t : TTy) → IsType w t → written_type n t ≡ written_type k t
  type-agrees (Plain t) is = ap ty.Plain (base-agrees t is)
  type-agrees (Set m) is = ap (λ z. ty.Set (named z) 0) (agree.model m is)
  type-agrees (Opt t) is = ap (λ z. ty.Opt z 0) (base-agrees t is)

  pub field-agrees : (m : ℕ) (f : FieldInfo) → IsField w m f → written_field n f ≡ written_field k f
  field-agrees m f is =
      ap (λ z. record { name = named f.name; ty = z; read = written_policy n f.read; write = written_policy n f.write }) (type-agrees f.ty is.ty)
      ∙ ap (λ z. record { name = named f.name; ty = written_type k f.ty; read = z; write = written_policy n f.write }) (policy-agrees m f.read is.read)
      ∙ ap (λ z. record { name = named f.name; ty = written_type k f.ty; read = written_policy k f.read; write = z }) (policy-agrees m f.write is.write)

  pub fields-agree : (m : ℕ) (fs : List FieldInfo) → AllByRecursion (IsField w m) fs → map (written_field n) fs ≡ map (written_field k) fs
  fields-agree m [] is = refl
  fields-agree m (f ∷ fs) is = ap (λ z. z ∷ map (written_field n) fs) (field-agrees m f is.0) ∙ ap (λ zs. written_field k f ∷ zs) (fields-agree m fs is.1)

  pub model-agrees : (m : ModelInfo) → IsModel w m → written_model n m ≡ written_model k m
  model-agrees m is =
      ap (λ z. record { principal = m.principal; name = named m.name; create = z; delete = written_policy n m.delete; fields = map (written_field n) m.fields; at = 0 }) (policy-agrees m.number m.create is.create)
      ∙ ap (λ z. record { principal = m.principal; name = named m.name; create = written_policy k m.create; delete = z; fields = map (written_field n) m.fields; at = 0 }) (policy-agrees m.number m.delete is.delete)
      ∙ ap (λ z. record { principal = m.principal; name = named m.name; create = written_policy k m.create; delete = written_policy k m.delete; fields = z; at = 0 }) (fields-agree m.number m.fields is.fields)

  pub models-agree : (ms : List ModelInfo) → AllByRecursion (IsModel w) ms → map (written_model n) ms ≡ map (written_model k) ms
  models-agree [] is = refl
  models-agree (m ∷ ms) is = ap (λ z. z ∷ map (written_model n) ms) (model-agrees m is.0) ∙ ap (λ zs. written_model k m ∷ zs) (models-agree ms is.1)
