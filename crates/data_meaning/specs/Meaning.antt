-- The value of an expression, who is in a set, and whom a policy allows, on a database of any size.
use Rattle.std.specs.Prelude.{ℕ, ℤ, pos, Bool, true, false, not, ◌&&◌, ◌||◌, ◌==◌, List, [], ◌∷◌, ◌++◌, slice_index_or, int_lt, if◌then◌else◌}
use Rattle.std.specs.List.{list_any}
use Rattle.std.specs.Ordering.{int_eq}
use Rattle.std.specs.Str.{bytes_eq}
use Rattle.text_tree.specs.declared.exprs.CmpOp.{CmpOp}
use Rattle.text_tree.specs.declared.exprs.CmpOp.TheVariants.{Eq, Ne, Lt, Le, Gt, Ge}
use Rattle.text_tree.specs.declared.exprs.FilterOp.{FilterOp}
use Rattle.text_tree.specs.declared.exprs.FilterOp.TheVariants.{Cmp, Has}
use Rattle.type_schema.specs.Trees.{Expr, flag, num, str, var, nothing, just, get, equal, iff, less, within, negation, both, either, if_expr, match_expr, SetExpr, everyone, nobody, listed, union, minus, find, path, mapped, flat_mapped, if_set, match_set, Items, no_items, static_item, record_item, Filters, no_filters, filter_and, Policy, to_all, to_none, by_record}
use Rattle.data_meaning.specs.declared.principals.Principal.{Principal}
use Rattle.data_meaning.specs.declared.principals.Principal.TheVariants.{Static, Rec}
use Rattle.data_meaning.specs.Values.{Value, Flag, Num, Str, Id, Ids, Nothing, Just}
use Rattle.data_meaning.specs.Database.{Database, ids_of, field_at}

-- ---- parts of values; of a value of another type, which typing rules out, the part is false, 0 or empty

abbrev pub truth_of : Value → Bool
truth_of (Flag b) = b
truth_of (Num n) = false
truth_of (Str bytes) = false
truth_of (Id id) = false
truth_of (Ids ids) = false
truth_of Nothing = false
truth_of (Just v) = false

abbrev pub number_of : Value → ℤ
number_of (Flag b) = pos 0
number_of (Num n) = n
number_of (Str bytes) = pos 0
number_of (Id id) = pos 0
number_of (Ids ids) = pos 0
number_of Nothing = pos 0
number_of (Just v) = pos 0

abbrev pub text_of : Value → List ℕ
text_of (Flag b) = []
text_of (Num n) = []
text_of (Str bytes) = bytes
text_of (Id id) = []
text_of (Ids ids) = []
text_of Nothing = []
text_of (Just v) = []

abbrev pub id_of : Value → ℕ
id_of (Flag b) = 0
id_of (Num n) = 0
id_of (Str bytes) = 0
id_of (Id id) = id
id_of (Ids ids) = 0
id_of Nothing = 0
id_of (Just v) = 0

abbrev pub set_of : Value → List ℕ
set_of (Flag b) = []
set_of (Num n) = []
set_of (Str bytes) = []
set_of (Id id) = []
set_of (Ids ids) = ids
set_of Nothing = []
set_of (Just v) = []

-- ---- comparisons

abbrev pub same_truth : Bool → Bool → Bool
same_truth true b = b
same_truth false b = not b

-- whether two truth values, numbers, texts or ids are equal; sets and options are not compared
abbrev pub are_equal : Value → Value → Bool
are_equal (Flag b) v = same_truth b (truth_of v)
are_equal (Num n) v = int_eq n (number_of v)
are_equal (Str bytes) v = bytes_eq bytes (text_of v)
are_equal (Id id) v = id == id_of v
are_equal (Ids ids) v = false
are_equal Nothing v = false
are_equal (Just w) v = false

abbrev pub is_less : Value → Value → Bool
is_less v w = int_lt (number_of v) (number_of w)

abbrev pub compares : CmpOp → Value → Value → Bool
compares Eq v w = are_equal v w
compares Ne v w = not (are_equal v w)
compares Lt v w = is_less v w
compares Le v w = not (is_less w v)
compares Gt v w = is_less w v
compares Ge v w = not (is_less v w)

-- whether what a field holds passes the test of a filter with this value
abbrev pub passes : FilterOp → Value → Value → Bool
passes (Cmp op) held v = compares op held v
passes Has held v = list_any (λ id. id == id_of v) (set_of held)

-- what stands for none, or what stands for the value in an option
abbrev pub taken_apart : {A : Type 0} → Value → A → (Value → A) → A
taken_apart (Flag b) none some = none
taken_apart (Num n) none some = none
taken_apart (Str bytes) none some = none
taken_apart (Id id) none some = none
taken_apart (Ids ids) none some = none
taken_apart Nothing none some = none
taken_apart (Just v) none some = some v

-- whether the principal is the record of the model that the value names
abbrev pub is_record : ℕ → Value → Principal → Bool
is_record m v (Static n) = false
is_record m v (Rec n id) = (n == m) && (id == id_of v)

-- whether the principal is a record of the model, in this list of ids
abbrev pub is_among : ℕ → List ℕ → Principal → Bool
is_among m ids (Static n) = false
is_among m ids (Rec n id) = (n == m) && list_any (λ i. i == id) ids

abbrev pub is_static : ℕ → Principal → Bool
is_static n (Static k) = k == n
is_static n (Rec m id) = false

abbrev pub id_of_record : Principal → ℕ
id_of_record (Static n) = 0
id_of_record (Rec m id) = id

-- ---- the meaning

-- the values of the variables, the outermost first
abbrev pub Env : Type 0
Env = List Value

module _ (d : Database) where
  abbrev mutual
    pub value_of : Env → Expr → Value
    value_of env (flag b) = Flag b
    value_of env (num n) = Num n
    value_of env (str bytes) = Str bytes
    value_of env (var depth name) = slice_index_or env depth Nothing
    value_of env nothing = Nothing
    value_of env (just e) = Just (value_of env e)
    value_of env (get e m f) = field_at d m (id_of (value_of env e)) f
    value_of env (equal a b op) = Flag (are_equal (value_of env a) (value_of env b))
    value_of env (iff a b op) = Flag (same_truth (truth_of (value_of env a)) (truth_of (value_of env b)))
    value_of env (less a b op) = Flag (is_less (value_of env a) (value_of env b))
    value_of env (within e m set) = Flag (member env set (Rec m (id_of (value_of env e))))
    value_of env (negation e) = Flag (not (truth_of (value_of env e)))
    value_of env (both a b) = Flag (truth_of (value_of env a) && truth_of (value_of env b))
    value_of env (either a b) = Flag (truth_of (value_of env a) || truth_of (value_of env b))
    value_of env (if_expr c a b) = if truth_of (value_of env c) then value_of env a else value_of env b
    value_of env (match_expr e a name c) = taken_apart (value_of env e) (value_of env a) (λ v. value_of (env ++ v ∷ []) c)

    -- whether a principal, or a record, is in the set
    pub member : Env → SetExpr → Principal → Bool
    member env everyone q = true
    member env nobody q = false
    member env (listed items) q = is_listed env items q
    member env (union a b) q = member env a q || member env b q
    member env (minus a b) q = member env a q && not (member env b q)
    member env (find m filters) q = is_among m (ids_of d m) q && meets env m filters (id_of_record q)
    member env (path m e) q = is_among m (set_of (value_of env e)) q
    member env (mapped set n name m e) q =
        list_any (λ y. member env set (Rec n y) && is_record m (value_of (env ++ Id y ∷ []) e) q) (ids_of d n)
    member env (flat_mapped set n name body) q =
        list_any (λ y. member env set (Rec n y) && member (env ++ Id y ∷ []) body q) (ids_of d n)
    member env (if_set c a b) q = if truth_of (value_of env c) then member env a q else member env b q
    member env (match_set e a name c) q = taken_apart (value_of env e) (member env a q) (λ v. member (env ++ v ∷ []) c q)

    pub is_listed : Env → Items → Principal → Bool
    is_listed env no_items q = false
    is_listed env (static_item n items) q = is_static n q || is_listed env items q
    is_listed env (record_item m e items) q = is_record m (value_of env e) q || is_listed env items q

    -- whether the record of the model with this id meets every filter
    pub meets : Env → ℕ → Filters → ℕ → Bool
    meets env m no_filters id = true
    meets env m (filter_and f op e filters) id = passes op (field_at d m id f) (value_of env e) && meets env m filters id

  -- whether the policy allows the principal the right on the record with this id
  abbrev pub allows : Policy → ℕ → Principal → Bool
  allows to_all id q = true
  allows to_none id q = false
  allows (by_record name set) id q = member (Id id ∷ []) set q
