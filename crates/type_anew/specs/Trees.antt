-- The trees that typed expressions, sets and policies are written as, with names in the place of numbers. A comparison that was reduced
-- stands again with the sign that it was written with.
use Rattle.std.specs.Prelude.{ℕ, Bool, true, false, List, [], ◌∷◌, if◌then◌else◌}
use Rattle.text_tree.specs.declared.exprs.CmpOp.{CmpOp}
use Rattle.text_tree.specs.declared.exprs.CmpOp.TheVariants.{Eq, Ne, Lt, Le, Gt, Ge}
use Rattle.text_tree.specs.declared.exprs.Expr as tree
use Rattle.text_tree.specs.declared.exprs.Expr.TheVariants as e
use Rattle.text_tree.specs.declared.exprs.SetExpr as tree_set
use Rattle.text_tree.specs.declared.exprs.SetExpr.TheVariants as s
use Rattle.text_tree.specs.declared.exprs.Item as tree_item
use Rattle.text_tree.specs.declared.exprs.Item.TheVariants as item
use Rattle.text_tree.specs.declared.exprs.Filter as tree_filter
use Rattle.text_tree.specs.declared.exprs.Filter.{roll-Filter}
use Rattle.text_tree.specs.declared.policies.Policy as tree_policy
use Rattle.text_tree.specs.declared.policies.Policy.TheVariants as p
use Rattle.type_schema.specs.Trees.{Expr, flag, num, str, var, nothing, just, get, equal, iff, less, within, negation, both, either, if_expr, match_expr, SetExpr, everyone, nobody, listed, union, minus, find, path, mapped, flat_mapped, if_set, match_set, Items, no_items, static_item, record_item, Filters, no_filters, filter_and, Policy, to_all, to_none, by_record}
use Rattle.type_anew.specs.Names.{Names, named}

-- whether the sign says the negation of what its comparison was reduced to
abbrev pub is_negative : CmpOp → Bool
is_negative Eq = false
is_negative Ne = true
is_negative Lt = false
is_negative Le = true
is_negative Gt = false
is_negative Ge = true

-- whether the expression is a comparison whose sign says its negation, which is then not written
abbrev pub says_not : Expr → Bool
says_not (flag b) = false
says_not (num n) = false
says_not (str bytes) = false
says_not (var depth name) = false
says_not nothing = false
says_not (just x) = false
says_not (get x m f) = false
says_not (equal a b op) = is_negative op
says_not (iff a b op) = is_negative op
says_not (less a b op) = is_negative op
says_not (within x m set) = false
says_not (negation x) = false
says_not (both a b) = false
says_not (either a b) = false
says_not (if_expr c a b) = false
says_not (match_expr x a name b) = false

-- the sides of `less` as they were written: with `>` and `<=` they were exchanged
abbrev pub sides : CmpOp → tree.Expr → tree.Expr → tree.Expr
sides Eq low high = e.Cmp 0 Eq low high
sides Ne low high = e.Cmp 0 Ne low high
sides Lt low high = e.Cmp 0 Lt low high
sides Le low high = e.Cmp 0 Le high low
sides Gt low high = e.Cmp 0 Gt high low
sides Ge low high = e.Cmp 0 Ge low high

module _ (names : Names) where
  abbrev mutual
    pub written_expr : Expr → tree.Expr
    written_expr (flag b) = e.Flag 0 b
    written_expr (num n) = e.Num 0 n
    written_expr (str bytes) = e.Str 0 bytes
    written_expr (var depth name) = e.Var 0 (named name)
    written_expr nothing = e.NoneLit 0
    written_expr (just x) = e.SomeLit 0 (written_expr x)
    written_expr (get x m f) = e.Get 0 (written_expr x) (named (names.field m f))
    written_expr (equal a b op) = e.Cmp 0 op (written_expr a) (written_expr b)
    written_expr (iff a b op) = e.Cmp 0 op (written_expr a) (written_expr b)
    written_expr (less a b op) = sides op (written_expr a) (written_expr b)
    written_expr (within x m set) = e.Member 0 (written_expr x) (written_set set)
    written_expr (negation x) = if says_not x then written_expr x else e.Not 0 (written_expr x)
    written_expr (both a b) = e.And 0 (written_expr a) (written_expr b)
    written_expr (either a b) = e.Or 0 (written_expr a) (written_expr b)
    written_expr (if_expr c a b) = e.IfE 0 (written_expr c) (written_expr a) (written_expr b)
    written_expr (match_expr x a name b) = e.MatchE 0 (written_expr x) (written_expr a) (named name, written_expr b)

    pub written_set : SetExpr → tree_set.SetExpr
    written_set everyone = s.Everyone 0 0
    written_set nobody = s.Nobody 0
    written_set (listed items) = s.List 0 (written_items items)
    written_set (union a b) = s.Sum 0 (written_set a) (written_set b)
    written_set (minus a b) = s.Less 0 (written_set a) (written_set b)
    written_set (find m filters) = s.Find 0 (named (names.model m)) (written_filters m filters)
    written_set (path m x) = s.Path 0 (written_expr x)
    written_set (mapped set n name m x) = s.MapS 0 (written_set set) (named name) (written_expr x)
    written_set (flat_mapped set n name body) = s.FlatS 0 (written_set set) (named name) (written_set body)
    written_set (if_set c a b) = s.IfS 0 (written_expr c) (written_set a) (written_set b)
    written_set (match_set x a name b) = s.MatchS 0 (written_expr x) (written_set a) (named name) (written_set b)

    pub written_items : Items → List tree_item.Item
    written_items no_items = []
    written_items (static_item n items) = item.Static (named (names.static n)) ∷ written_items items
    written_items (record_item m x items) = item.One (written_expr x) ∷ written_items items

    -- on records of the model
    pub written_filters : (model : ℕ) → Filters → List tree_filter.Filter
    written_filters m no_filters = []
    written_filters m (filter_and f op x filters) =
        roll-Filter (record { field = named (names.field m f); op = op; value = written_expr x }) ∷ written_filters m filters

  abbrev pub written_policy : Policy → tree_policy.Policy
  written_policy to_all = p.Everyone 0
  written_policy to_none = p.Nobody 0
  written_policy (by_record name set) = p.Fun (named name) (written_set set)
