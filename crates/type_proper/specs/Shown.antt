-- Trees in which each option that is taken apart shows its type. `none` alone is of every option, so it does not show of which it is; typing takes
-- apart only what has a type by itself. So a tree that names no record of a model has none of its ids.
use Rattle.std.specs.Prelude.{◌≡◌, ℕ, Bool, true, false, IsTrue, Ok}
use Rattle.text_tree.specs.declared.named.Named.{Named}
use Rattle.text_tree.specs.declared.policies.Policy as tree_policy
use Rattle.text_tree.specs.declared.policies.Init as tree_init
use Rattle.type_schema.specs.declared.types.TTy.{TTy}
use Rattle.type_schema.specs.declared.trees.TPolicy.{TPolicy}
use Rattle.type_schema.specs.declared.trees.TInit.{TInit}
use Rattle.type_schema.specs.Trees.{Expr, flag, num, str, var, nothing, just, get, equal, iff, less, within, negation, both, either, if_expr, match_expr, SetExpr, everyone, nobody, listed, union, minus, find, path, mapped, flat_mapped, if_set, match_set, Items, no_items, static_item, record_item, Filters, no_filters, filter_and, Policy, to_all, to_none, by_record, Init, plain, of_set}
use Rattle.type_schema.specs.Schema.{Schema}
use Rattle.type_schema.specs.Views.{policy_of, init_of}
use Rattle.type_typing.specs.Policies.{typed_policy, typed_init}

-- the expression shows its type
abbrev pub shows : Expr → Bool
shows (flag b) = true
shows (num n) = true
shows (str bytes) = true
shows (var depth name) = true
shows nothing = false
shows (just e) = true
shows (get e m f) = true
shows (equal a b op) = true
shows (iff a b op) = true
shows (less a b op) = true
shows (within e m set) = true
shows (negation e) = true
shows (both a b) = true
shows (either a b) = true
shows (if_expr c a b) = shows a
shows (match_expr e a name c) = shows a

-- the set shows of which model its records are
abbrev pub is_source : SetExpr → Bool
is_source everyone = false
is_source nobody = false
is_source (listed items) = false
is_source (union a b) = false
is_source (minus a b) = false
is_source (find m tests) = true
is_source (path m e) = true
is_source (mapped set n name m e) = true
is_source (flat_mapped set n name body) = false
is_source (if_set c a b) = false
is_source (match_set e a name c) = false

-- so does each option that is taken apart, and each set that is gone over
abbrev mutual
  pub IsShown : Expr → Type 0
  IsShown (flag b) = Unit {0}
  IsShown (num n) = Unit {0}
  IsShown (str bytes) = Unit {0}
  IsShown (var depth name) = Unit {0}
  IsShown nothing = Unit {0}
  IsShown (just e) = IsShown e
  IsShown (get e m f) = IsShown e
  IsShown (equal a b op) = IsShown a × IsShown b
  IsShown (iff a b op) = IsShown a × IsShown b
  IsShown (less a b op) = IsShown a × IsShown b
  IsShown (within e m set) = IsShown e × SetIsShown set
  IsShown (negation e) = IsShown e
  IsShown (both a b) = IsShown a × IsShown b
  IsShown (either a b) = IsShown a × IsShown b
  IsShown (if_expr c a b) = IsShown c × IsShown a × IsShown b
  IsShown (match_expr e a name c) = IsTrue (shows e) × IsShown e × IsShown a × IsShown c

  pub SetIsShown : SetExpr → Type 0
  SetIsShown everyone = Unit {0}
  SetIsShown nobody = Unit {0}
  SetIsShown (listed items) = ItemsAreShown items
  SetIsShown (union a b) = SetIsShown a × SetIsShown b
  SetIsShown (minus a b) = SetIsShown a × SetIsShown b
  SetIsShown (find m tests) = FiltersAreShown tests
  SetIsShown (path m e) = IsShown e
  SetIsShown (mapped set n name m e) = IsTrue (is_source set) × SetIsShown set × IsShown e
  SetIsShown (flat_mapped set n name body) = IsTrue (is_source set) × SetIsShown set × SetIsShown body
  SetIsShown (if_set c a b) = IsShown c × SetIsShown a × SetIsShown b
  SetIsShown (match_set e a name c) = IsTrue (shows e) × IsShown e × SetIsShown a × SetIsShown c

  pub ItemsAreShown : Items → Type 0
  ItemsAreShown no_items = Unit {0}
  ItemsAreShown (static_item n items) = ItemsAreShown items
  ItemsAreShown (record_item m e items) = IsShown e × ItemsAreShown items

  pub FiltersAreShown : Filters → Type 0
  FiltersAreShown no_filters = Unit {0}
  FiltersAreShown (filter_and f op e tests) = IsShown e × FiltersAreShown tests

abbrev pub PolicyIsShown : Policy → Type 0
PolicyIsShown to_all = Unit {0}
PolicyIsShown to_none = Unit {0}
PolicyIsShown (by_record name set) = SetIsShown set

abbrev pub InitIsShown : Init → Type 0
InitIsShown (plain e) = IsShown e
InitIsShown (of_set m set) = SetIsShown set

pub record TypedAreShown : Type 0 where
  pub policies : (s : Schema) (m : ℕ) (p : tree_policy.Policy) (typed : TPolicy) → typed_policy s m p ≡ Ok typed → PolicyIsShown (policy_of typed)
  pub inits : (s : Schema) (m : ℕ) (t : TTy) (x : Named) (init : tree_init.Init) (typed : TInit) → typed_init s m t x init ≡ Ok typed → InitIsShown (init_of typed)
