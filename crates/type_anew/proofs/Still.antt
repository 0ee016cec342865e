-- What a schema is written as has no offsets to take away.
use Rattle.std.proofs.Common.{◌≡◌, ℕ, Bool, true, false, List, [], ◌∷◌, map, refl, ◌∙◌, ap}
use Rattle.std.specs.Prelude.{if◌then◌else◌}
use Rattle.text_tree.specs.declared.exprs.CmpOp.{CmpOp}
use Rattle.text_tree.specs.declared.exprs.CmpOp.TheVariants.{Eq, Ne, Lt, Le, Gt, Ge}
use Rattle.text_tree.specs.declared.exprs.Expr as tree
use Rattle.text_tree.specs.declared.exprs.Expr.TheVariants as e
use Rattle.text_tree.specs.declared.exprs.SetExpr.TheVariants as se
use Rattle.text_tree.specs.declared.exprs.Item.TheVariants as i
use Rattle.text_tree.specs.declared.exprs.Filter.{roll-Filter}
use Rattle.text_tree.specs.declared.policies.Policy.TheVariants as p
use Rattle.text_tree.specs.declared.models.Ty.TheVariants as ty
use Rattle.text_tree.specs.Stripped.{stripped_base, stripped_expr, stripped_field, stripped_filter, stripped_item, stripped_model, stripped_name, stripped_policy, stripped_set, stripped_type}
use Rattle.type_schema.specs.declared.types.TBase.{TBase}
use Rattle.type_schema.specs.declared.types.TBase.TheVariants as base
use Rattle.type_schema.specs.declared.types.TTy.{TTy}
use Rattle.type_schema.specs.declared.types.TTy.TheVariants.{Plain, Set, Opt}
use Rattle.type_schema.specs.Trees.{Expr, flag, num, str, var, nothing, just, get, equal, iff, less, within, negation, both, either, if_expr, match_expr, SetExpr, everyone, nobody, listed, union, minus, find, path, mapped, flat_mapped, if_set, match_set, Items, no_items, static_item, record_item, Filters, no_filters, filter_and, Policy, to_all, to_none, by_record}
use Rattle.type_schema.specs.Schema.{StaticInfo, FieldInfo, ModelInfo}
use Rattle.text_print.proofs.Layers as layer
use Rattle.type_anew.specs.Names.{Names, named, names_in}
use Rattle.type_anew.specs.Trees.{says_not, sides, written_expr, written_filters, written_items, written_policy, written_set}
use Rattle.type_anew.specs.Specs.{written_base, written_field, written_model, written_type}
use Rattle.type_anew.specs.RoundTrip.{WrittenIsStripped}

cmp-still : (op : CmpOp) (a b : tree.Expr) → stripped_expr a ≡ a → stripped_expr b ≡ b → stripped_expr (e.Cmp 0 op a b) ≡ e.Cmp 0 op a b
cmp-still op a b one other = layer.Cmp_stripped op a b 0 ∙ ap (λ z. e.Cmp 0 op z (stripped_expr b)) one ∙ ap (λ z. e.Cmp 0 op a z) other

sides-still : (op : CmpOp) (a b : tree.Expr) → stripped_expr a ≡ a → stripped_expr b ≡ b → stripped_expr (sides op a b) ≡ sides op a b
sides-still Eq a b one other = cmp-still Eq a b one other
sides-still Ne a b one other = cmp-still Ne a b one other
sides-still Lt a b one other = cmp-still Lt a b one other
sides-still Le a b one other = cmp-still Le b a other one
sides-still Gt a b one other = cmp-still Gt b a other one
sides-still Ge a b one other = cmp-still Ge a b one other

not-still : (c : Bool) (a : tree.Expr) → stripped_expr a ≡ a → stripped_expr (if c then a else e.Not 0 a) ≡ (if c then a else e.Not 0 a)
not-still true a same = same
not-still false a same = layer.Not_stripped a 0 ∙ ap (λ z. e.Not 0 z) same

module _ (n : Names) where
  mutual
    expr-still : (x : Expr) → stripped_expr (written_expr n x) ≡ written_expr n x
    expr-still (flag b) = layer.Flag_stripped b 0
    expr-still (num k) = layer.Num_stripped k 0
    expr-still (str bytes) = layer.Str_stripped bytes 0
    expr-still (var depth name) = layer.Var_stripped (named name) 0
    expr-still nothing = layer.NoneLit_stripped 0
    expr-still (just x) = layer.SomeLit_stripped (written_expr n x) 0 ∙ ap (λ z. e.SomeLit 0 z) (expr-still x)
    expr-still (get x m f) = layer.Get_stripped (written_expr n x) (named (n.field m f)) 0 ∙ ap (λ z. e.Get 0 z (named (n.field m f))) (expr-still x)
    expr-still (equal a b op) = cmp-still op (written_expr n a) (written_expr n b) (expr-still a) (expr-still b)
    expr-still (iff a b op) = cmp-still op (written_expr n a) (written_expr n b) (expr-still a) (expr-still b)
    expr-still (less a b op) = sides-still op (written_expr n a) (written_expr n b) (expr-still a) (expr-still b)
    expr-still (within x m set) =
        layer.Member_stripped (written_expr n x) (written_set n set) 0 ∙ ap (λ z. e.Member 0 z (stripped_set (written_set n set))) (expr-still x) ∙ ap (λ z. e.Member 0 (written_expr n x) z) (set-still set)
    expr-still (negation x) = not-still (says_not x) (written_expr n x) (expr-still x)
    expr-still (both a b) =
        layer.And_stripped (written_expr n a) (written_expr n b) 0 ∙ ap (λ z. e.And 0 z (stripped_expr (written_expr n b))) (expr-still a) ∙ ap (λ z. e.And 0 (written_expr n a) z) (expr-still b)
    expr-still (either a b) =
        layer.Or_stripped (written_expr n a) (written_expr n b) 0 ∙ ap (λ z. e.Or 0 z (stripped_expr (written_expr n b))) (expr-still a) ∙ ap (λ z. e.Or 0 (written_expr n a) z) (expr-still b)
    expr-still (if_expr c a b) =
        layer.IfE_stripped (written_expr n c) (written_expr n a) (written_expr n b) 0
        ∙ ap (λ z. e.IfE 0 z (stripped_expr (written_expr n a)) (stripped_expr (written_expr n b))) (expr-still c)
        ∙ ap (λ z. e.IfE 0 (written_expr n c) z (stripped_expr (written_expr n b))) (expr-still a)
        ∙ ap (λ z. e.IfE 0 (written_expr n c) (written_expr n a) z) (expr-still b)
    expr-still (match_expr x a name b) =
        layer.MatchE_stripped (written_expr n x) (written_expr n a) (named name) (written_expr n b) 0
        ∙ ap (λ z. e.MatchE 0 z (stripped_expr (written_expr n a)) (named name, stripped_expr (written_expr n b))) (expr-still x)
        ∙ ap (λ z. e.MatchE 0 (written_expr n x) z (named name, stripped_expr (written_expr n b))) (expr-still a)
        ∙ ap (λ z. e.MatchE 0 (written_expr n x) (written_expr n a) (named name, z)) (expr-still b)

    set-still : (x : SetExpr) → stripped_set (written_set n x) ≡ written_set n x
    set-still everyone = layer.Everyone_stripped 0 0
    set-still nobody = layer.Nobody_stripped 0
    set-still (listed items) = layer.List_stripped (written_items n items) 0 ∙ ap (λ z. se.List 0 z) (items-still items)
    set-still (union a b) =
        layer.Sum_stripped (written_set n a) (written_set n b) 0 ∙ ap (λ z. se.Sum 0 z (stripped_set (written_set n b))) (set-still a) ∙ ap (λ z. se.Sum 0 (written_set n a) z) (set-still b)
    set-still (minus a b) =
        layer.Less_stripped (written_set n a) (written_set n b) 0 ∙ ap (λ z. se.Less 0 z (stripped_set (written_set n b))) (set-still a) ∙ ap (λ z. se.Less 0 (written_set n a) z) (set-still b)
    set-still (find m filters) = layer.Find_stripped (named (n.model m)) (written_filters n m filters) 0 ∙ ap (λ z. se.Find 0 (named (n.model m)) z) (filters-still m filters)
    set-still (path m x) = layer.Path_stripped (written_expr n x) 0 ∙ ap (λ z. se.Path 0 z) (expr-still x)
    set-still (mapped set k name m x) =
        layer.MapS_stripped (written_set n set) (named name) (written_expr n x) 0
        ∙ ap (λ z. se.MapS 0 z (named name) (stripped_expr (written_expr n x))) (set-still set)
        ∙ ap (λ z. se.MapS 0 (written_set n set) (named name) z) (expr-still x)
    set-still (flat_mapped set k name body) =
        layer.FlatS_stripped (written_set n set) (named name) (written_set n body) 0
        ∙ ap (λ z. se.FlatS 0 z (named name) (stripped_set (written_set n body))) (set-still set)
        ∙ ap (λ z. se.FlatS 0 (written_set n set) (named name) z) (set-still body)
    set-still (if_set c a b) =
        layer.IfS_stripped (written_expr n c) (written_set n a) (written_set n b) 0
        ∙ ap (λ z. se.IfS 0 z (stripped_set (written_set n a)) (stripped_set (written_set n b))) (expr-still c)
        ∙ ap (λ z. se.IfS 0 (written_expr n c) z (stripped_set (written_set n b))) (set-still a)
        ∙ ap (λ z. se.IfS 0 (written_expr n c) (written_set n a) z) (set-still b)
    set-still (match_set x a name b) =
        layer.MatchS_stripped (written_expr n x) (written_set n a) (named name) (written_set n b) 0
        ∙ ap (λ z. se.MatchS 0 z (stripped_set (written_set n a)) (named name) (stripped_set (written_set n b))) (expr-still x)
        ∙ ap (λ z. se.MatchS 0 (written_expr n x) z (named name) (stripped_set (written_set n b))) (set-still a)
        ∙ ap (λ z. se.MatchS 0 (written_expr n x) (written_set n a) (named name) z) (set-still b)

    items-still : (xs : Items) → map stripped_item (written_items n xs) ≡ written_items n xs
    items-still no_items = refl
    items-still (static_item k xs) =
        ap (λ z. z ∷ map stripped_item (written_items n xs)) (layer.Static_stripped (named (n.static k))) ∙ ap (λ zs. i.Static (named (n.static k)) ∷ zs) (items-still xs)
    items-still (record_item m x xs) =
        ap (λ z. z ∷ map stripped_item (written_items n xs)) (layer.One_stripped (written_expr n x))
        ∙ ap (λ z. i.One z ∷ map stripped_item (written_items n xs)) (expr-still x)
        ∙ ap (λ zs. i.One (written_expr n x) ∷ zs) (items-still xs)

    filters-still : (m : ℕ) (xs : Filters) → map stripped_filter (written_filters n m xs) ≡ written_filters n m xs
    filters-still m no_filters = refl
    filters-still m (filter_and f op x xs) =
        ap (λ z. z ∷ map stripped_filter (written_filters n m xs)) (layer.Filter_stripped (named (n.field m f)) op (written_expr n x))
        ∙ ap (λ z. roll-Filter (record { field = named (n.field m f); op = op; value = z }) ∷ map stripped_filter (written_filters n m xs)) (expr-still x)
        ∙ ap (λ zs. roll-Filter (record { field = named (n.field m f); op = op; value = written_expr n x }) ∷ zs) (filters-still m xs)

  policy-still : (x : Policy) → stripped_policy (written_policy n x) ≡ written_policy n x
  policy-still to_all = refl
  policy-still to_none = refl
  policy-still (by_record name set) = ap (λ z. p.Fun (named name) z) (set-still set)

  base-still : (t : TBase) → stripped_base (written_base n t) ≡ written_base n t
  base-still base.Bool = refl
  base-still base.Int = refl
  base-still base.Text = refl
  base-still (base.Id m) = refl

  type-still : (t : TTy) → stripped_type (written_type n t) ≡ written_type n t
  type-still (Plain t) = ap ty.Plain (base-still t)
  type-still (Set m) = refl
  type-still (Opt t) = ap (λ z. ty.Opt z 0) (base-still t)

  field-still : (f : FieldInfo) → stripped_field (written_field n f) ≡ written_field n f
  field-still f =
      ap (λ z. record { name = named f.name; ty = z; read = stripped_policy (written_policy n f.read); write = stripped_policy (written_policy n f.write) }) (type-still f.ty)
      ∙ ap (λ z. record { name = named f.name; ty = written_type n f.ty; read = z; write = stripped_policy (written_policy n f.write) }) (policy-still f.read)
      ∙ ap (λ z. record { name = named f.name; ty = written_type n f.ty; read = written_policy n f.read; write = z }) (policy-still f.write)

  fields-still : (fs : List FieldInfo) → map stripped_field (map (written_field n) fs) ≡ map (written_field n) fs
  fields-still [] = refl
  fields-still (f ∷ fs) = ap (λ z. z ∷ map stripped_field (map (written_field n) fs)) (field-still f) ∙ ap (λ zs. written_field n f ∷ zs) (fields-still fs)

  model-still : (m : ModelInfo) → stripped_model (written_model n m) ≡ written_model n m
  model-still m =
      ap (λ z. record { principal = m.principal; name = named m.name; create = z; delete = stripped_policy (written_policy n m.delete); fields = map stripped_field (map (written_field n) m.fields); at = 0 }) (policy-still m.create)
      ∙ ap (λ z. record { principal = m.principal; name = named m.name; create = written_policy n m.create; delete = z; fields = map stripped_field (map (written_field n) m.fields); at = 0 }) (policy-still m.delete)
      ∙ ap (λ z. record { principal = m.principal; name = named m.name; create = written_policy n m.create; delete = written_policy n m.delete; fields = z; at = 0 }) (fields-still m.fields)

  models-still : (ms : List ModelInfo) → map stripped_model (map (written_model n) ms) ≡ map (written_model n) ms
  models-still [] = refl
  models-still (m ∷ ms) = ap (λ z. z ∷ map stripped_model (map (written_model n) ms)) (model-still m) ∙ ap (λ zs. written_model n m ∷ zs) (models-still ms)

statics-still : (ns : List StaticInfo) → map stripped_name (map (λ (k : StaticInfo). named k.name) ns) ≡ map (λ (k : StaticInfo). named k.name) ns
statics-still [] = refl
statics-still (k ∷ ns) = ap (λ zs. named k.name ∷ zs) (statics-still ns)

pub written_is_stripped : WrittenIsStripped
written_is_stripped s =
    ap (λ z. record { statics = z; models = map stripped_model (map (written_model (names_in s)) s.models) }) (statics-still s.statics)
    ∙ ap (λ z. record { statics = map (λ (k : StaticInfo). named k.name) s.statics; models = z }) (models-still (names_in s) s.models)
