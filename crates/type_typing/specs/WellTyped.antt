-- What is typed is well typed, where the types of the schema's fields name models that are there.
use Rattle.std.specs.Prelude.{◌≡◌, ℕ, nat_eq, Ok, FitsSigned}
use Rattle.std.specs.Int.{w64}
use Rattle.std.specs.List.{AllByRecursion, IsDistinct}
use Rattle.text_ast.specs.Words.{IsText}
use Rattle.text_tree.specs.declared.named.Named.{Named}
use Rattle.text_tree.specs.declared.policies.Policy as tree_policy
use Rattle.text_tree.specs.declared.policies.Init as tree_init
use Rattle.type_schema.specs.declared.types.TTy.{TTy}
use Rattle.type_schema.specs.declared.trees.TPolicy.{TPolicy}
use Rattle.type_schema.specs.declared.trees.TInit.{TInit}
use Rattle.type_schema.specs.Trees.{Expr, flag, num, str, var, nothing, just, get, equal, iff, less, within, negation, both, either, if_expr, match_expr, SetExpr, everyone, nobody, listed, union, minus, find, path, mapped, flat_mapped, if_set, match_set, Items, no_items, static_item, record_item, Filters, no_filters, filter_and, Policy, to_all, to_none, by_record, Init, plain, of_set}
use Rattle.type_schema.specs.Schema.{FieldInfo, ModelInfo, Schema}
use Rattle.type_schema.specs.Typing.{HasModel, IsPolicy, IsInit, IsType}
use Rattle.type_schema.specs.Proper.{field_numbers}
use Rattle.type_schema.specs.Views.{policy_of, init_of}
use Rattle.type_typing.specs.Policies.{typed_policy, typed_init}

-- ---- literals that are values: numbers of 64 bits, and texts

abbrev mutual
  pub HasLiterals : Expr → Type 0
  HasLiterals (flag b) = Unit {0}
  HasLiterals (num n) = FitsSigned w64 n
  HasLiterals (str bytes) = IsText bytes
  HasLiterals (var depth name) = Unit {0}
  HasLiterals nothing = Unit {0}
  HasLiterals (just e) = HasLiterals e
  HasLiterals (get e m f) = HasLiterals e
  HasLiterals (equal a b op) = HasLiterals a × HasLiterals b
  HasLiterals (iff a b op) = HasLiterals a × HasLiterals b
  HasLiterals (less a b op) = HasLiterals a × HasLiterals b
  HasLiterals (within e m set) = HasLiterals e × SetHasLiterals set
  HasLiterals (negation e) = HasLiterals e
  HasLiterals (both a b) = HasLiterals a × HasLiterals b
  HasLiterals (either a b) = HasLiterals a × HasLiterals b
  HasLiterals (if_expr c a b) = HasLiterals c × HasLiterals a × HasLiterals b
  HasLiterals (match_expr e a name c) = HasLiterals e × HasLiterals a × HasLiterals c

  pub SetHasLiterals : SetExpr → Type 0
  SetHasLiterals everyone = Unit {0}
  SetHasLiterals nobody = Unit {0}
  SetHasLiterals (listed items) = ItemsHaveLiterals items
  SetHasLiterals (union a b) = SetHasLiterals a × SetHasLiterals b
  SetHasLiterals (minus a b) = SetHasLiterals a × SetHasLiterals b
  SetHasLiterals (find m filters) = FiltersHaveLiterals filters
  SetHasLiterals (path m e) = HasLiterals e
  SetHasLiterals (mapped set n name m e) = SetHasLiterals set × HasLiterals e
  SetHasLiterals (flat_mapped set n name body) = SetHasLiterals set × SetHasLiterals body
  SetHasLiterals (if_set c a b) = HasLiterals c × SetHasLiterals a × SetHasLiterals b
  SetHasLiterals (match_set e a name c) = HasLiterals e × SetHasLiterals a × SetHasLiterals c

  pub ItemsHaveLiterals : Items → Type 0
  ItemsHaveLiterals no_items = Unit {0}
  ItemsHaveLiterals (static_item n items) = ItemsHaveLiterals items
  ItemsHaveLiterals (record_item m e items) = HasLiterals e × ItemsHaveLiterals items

  pub FiltersHaveLiterals : Filters → Type 0
  FiltersHaveLiterals no_filters = Unit {0}
  FiltersHaveLiterals (filter_and f op e filters) = HasLiterals e × FiltersHaveLiterals filters

abbrev pub PolicyHasLiterals : Policy → Type 0
PolicyHasLiterals to_all = Unit {0}
PolicyHasLiterals to_none = Unit {0}
PolicyHasLiterals (by_record name set) = SetHasLiterals set

abbrev pub InitHasLiterals : Init → Type 0
InitHasLiterals (plain e) = HasLiterals e
InitHasLiterals (of_set m set) = SetHasLiterals set

-- ---- the law

-- the fields of a model have numbers of their own, and types whose models are there
pub record HasFields (s : Schema) (m : ModelInfo) : Type 0 where
  pub numbers : IsDistinct nat_eq (field_numbers m.fields)
  pub types : AllByRecursion (λ (f : FieldInfo). IsType s f.ty) m.fields

abbrev pub HaveFields : Schema → Type 0
HaveFields s = AllByRecursion (HasFields s) s.models

-- a policy on records of a model that is there
abbrev pub PoliciesAreTyped : Type 0
PoliciesAreTyped =
    (s : Schema) (m : ℕ) (p : tree_policy.Policy) (typed : TPolicy) → HaveFields s → HasModel s m → typed_policy s m p ≡ Ok typed
    → PolicyHasLiterals (policy_of typed) → IsPolicy s m (policy_of typed)

-- an initialiser of a field of a type whose models are there
abbrev pub InitsAreTyped : Type 0
InitsAreTyped =
    (s : Schema) (m : ℕ) (t : TTy) (x : Named) (init : tree_init.Init) (typed : TInit) → HaveFields s → HasModel s m → IsType s t
    → typed_init s m t x init ≡ Ok typed → InitHasLiterals (init_of typed) → IsInit s m t (init_of typed)

pub record TypedIsWellTyped : Type 0 where
  pub policies : PoliciesAreTyped
  pub inits : InitsAreTyped
