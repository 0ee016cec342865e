-- What is well typed over a schema.
use Rattle.std.specs.Prelude.{◌≡◌, ℕ, IsTrue, is_some, List, [], ◌∷◌, ◌++◌, Some, slice_get, FitsSigned}
use Rattle.std.specs.List.{AllByRecursion}
use Rattle.std.specs.Int.{w64}
use Rattle.text_ast.specs.Words.{IsText}
use Rattle.type_schema.specs.declared.types.TBase.{TBase}
use Rattle.type_schema.specs.declared.types.TBase.TheVariants as base
use Rattle.type_schema.specs.declared.types.TTy.{TTy}
use Rattle.type_schema.specs.declared.types.TTy.TheVariants.{Plain, Set, Opt}
use Rattle.text_tree.specs.declared.exprs.CmpOp.{CmpOp}
use Rattle.text_tree.specs.declared.exprs.CmpOp.TheVariants.{Eq, Ne, Lt, Le, Gt, Ge}
use Rattle.text_tree.specs.declared.exprs.FilterOp.{FilterOp}
use Rattle.text_tree.specs.declared.exprs.FilterOp.TheVariants.{Cmp, Has}
use Rattle.type_schema.specs.Trees.{Expr, flag, num, str, var, nothing, just, get, equal, iff, less, within, negation, both, either, if_expr, match_expr, SetExpr, everyone, nobody, listed, union, minus, find, path, mapped, flat_mapped, if_set, match_set, Items, no_items, static_item, record_item, Filters, no_filters, filter_and, Policy, to_all, to_none, by_record, Init, plain, of_set}
use Rattle.type_schema.specs.Schema.{FieldInfo, ModelInfo, Schema, model_of, static_of, type_of, is_principal_model}

abbrev pub HasModel : Schema → ℕ → Type 0
HasModel s m = IsTrue (is_some (model_of s m))

-- the types of the variables, the outermost first
abbrev pub Scope : Type 0
Scope = List TTy

-- what a set may hold: principals, or records of one model
pub data Content : Type 0 where
  principals : Content
  records : (model : ℕ) → Content

-- whether a set of this content may hold records of the model
abbrev pub MayHold : Schema → Content → ℕ → Type 0
MayHold s principals m = IsTrue (is_principal_model s m)
MayHold s (records n) m = HasModel s m × (m ≡ n)

-- what equality compares but truth values
abbrev pub IsCompared : TBase → Type 0
IsCompared base.Bool = ⊥
IsCompared base.Int = Unit {0}
IsCompared base.Text = Unit {0}
IsCompared (base.Id m) = Unit {0}

-- the type of the field and of the value, by the sign of the filter
abbrev pub MaySign : CmpOp → TBase → Type 0
MaySign Eq b = Unit {0}
MaySign Ne b = Unit {0}
MaySign Lt b = b ≡ base.Int
MaySign Le b = b ≡ base.Int
MaySign Gt b = b ≡ base.Int
MaySign Ge b = b ≡ base.Int

module _ (s : Schema) where
  -- the field has a type that the filter's test allows, and this is the type that it asks of the value
  abbrev pub MayTest : FilterOp → TTy → TTy → Type 0
  MayTest (Cmp op) (Plain b) asked = MaySign op b × (asked ≡ Plain b)
  MayTest (Cmp op) (Set m) asked = ⊥
  MayTest (Cmp op) (Opt b) asked = ⊥
  MayTest Has (Plain b) asked = ⊥
  MayTest Has (Set m) asked = asked ≡ Plain (base.Id m)
  MayTest Has (Opt b) asked = ⊥

  abbrev mutual
    -- the expression has the type
    pub IsExpr : Scope → TTy → Expr → Type 0
    IsExpr scope t (flag b) = t ≡ Plain base.Bool
    IsExpr scope t (num n) = (t ≡ Plain base.Int) × FitsSigned w64 n
    IsExpr scope t (str bytes) = (t ≡ Plain base.Text) × IsText bytes
    IsExpr scope t (var depth name) = slice_get scope depth ≡ Some t
    IsExpr scope t nothing = (b : TBase) × (t ≡ Opt b)
    IsExpr scope t (just e) = (b : TBase) × (t ≡ Opt b) × IsExpr scope (Plain b) e
    IsExpr scope t (get e m f) = (type_of s m f ≡ Some t) × IsExpr scope (Plain (base.Id m)) e
    IsExpr scope t (equal a b op) =
        (t ≡ Plain base.Bool) × ((c : TBase) × IsCompared c × IsExpr scope (Plain c) a × IsExpr scope (Plain c) b)
    IsExpr scope t (iff a b op) = (t ≡ Plain base.Bool) × IsExpr scope (Plain base.Bool) a × IsExpr scope (Plain base.Bool) b
    IsExpr scope t (less a b op) = (t ≡ Plain base.Bool) × IsExpr scope (Plain base.Int) a × IsExpr scope (Plain base.Int) b
    IsExpr scope t (within e m set) = (t ≡ Plain base.Bool) × IsExpr scope (Plain (base.Id m)) e × IsSet scope (records m) set
    IsExpr scope t (negation e) = (t ≡ Plain base.Bool) × IsExpr scope (Plain base.Bool) e
    IsExpr scope t (both a b) = (t ≡ Plain base.Bool) × IsExpr scope (Plain base.Bool) a × IsExpr scope (Plain base.Bool) b
    IsExpr scope t (either a b) = (t ≡ Plain base.Bool) × IsExpr scope (Plain base.Bool) a × IsExpr scope (Plain base.Bool) b
    IsExpr scope t (if_expr c a b) = IsExpr scope (Plain base.Bool) c × IsExpr scope t a × IsExpr scope t b
    IsExpr scope t (match_expr e a name c) =
        (b : TBase) × IsExpr scope (Opt b) e × IsExpr scope t a × IsExpr (scope ++ Plain b ∷ []) t c

    -- the set has this content
    pub IsSet : Scope → Content → SetExpr → Type 0
    IsSet scope w everyone = w ≡ principals
    IsSet scope w nobody = Unit {0}
    IsSet scope w (listed items) = AreItems scope w items
    IsSet scope w (union a b) = IsSet scope w a × IsSet scope w b
    IsSet scope w (minus a b) = IsSet scope w a × IsSet scope w b
    IsSet scope w (find m filters) = MayHold s w m × HasModel s m × AreFilters scope m filters
    IsSet scope w (path m e) = MayHold s w m × IsExpr scope (Set m) e
    IsSet scope w (mapped set n name m e) =
        MayHold s w m × HasModel s n × IsSet scope (records n) set × IsExpr (scope ++ Plain (base.Id n) ∷ []) (Plain (base.Id m)) e
    IsSet scope w (flat_mapped set n name body) =
        HasModel s n × IsSet scope (records n) set × IsSet (scope ++ Plain (base.Id n) ∷ []) w body
    IsSet scope w (if_set c a b) = IsExpr scope (Plain base.Bool) c × IsSet scope w a × IsSet scope w b
    IsSet scope w (match_set e a name c) =
        (b : TBase) × IsExpr scope (Opt b) e × IsSet scope w a × IsSet (scope ++ Plain b ∷ []) w c

    pub AreItems : Scope → Content → Items → Type 0
    AreItems scope w no_items = Unit {0}
    AreItems scope w (static_item n items) = (w ≡ principals) × IsTrue (is_some (static_of s n)) × AreItems scope w items
    AreItems scope w (record_item m e items) = MayHold s w m × IsExpr scope (Plain (base.Id m)) e × AreItems scope w items

    -- filters on records of the model; their values do not see the record that is sought
    pub AreFilters : Scope → ℕ → Filters → Type 0
    AreFilters scope m no_filters = Unit {0}
    AreFilters scope m (filter_and f op e filters) =
        ((held : TTy) × (asked : TTy) × (type_of s m f ≡ Some held) × MayTest op held asked × IsExpr scope asked e) × AreFilters scope m filters

  -- a policy on records of the model
  abbrev pub IsPolicy : ℕ → Policy → Type 0
  IsPolicy m to_all = Unit {0}
  IsPolicy m to_none = Unit {0}
  IsPolicy m (by_record name set) = IsSet (Plain (base.Id m) ∷ []) principals set

  -- an initialiser of a field of the type, at records of the model
  abbrev pub IsInit : ℕ → TTy → Init → Type 0
  IsInit m t (plain e) = IsNoSet t × IsExpr (Plain (base.Id m) ∷ []) t e
    where
      IsNoSet : TTy → Type 0
      IsNoSet (Plain b) = Unit {0}
      IsNoSet (Set n) = ⊥
      IsNoSet (Opt b) = Unit {0}
  IsInit m t (of_set n set) = (t ≡ Set n) × IsSet (Plain (base.Id m) ∷ []) (records n) set

  -- the models that the type names are there
  abbrev pub IsBase : TBase → Type 0
  IsBase base.Bool = Unit {0}
  IsBase base.Int = Unit {0}
  IsBase base.Text = Unit {0}
  IsBase (base.Id m) = HasModel s m

  abbrev pub IsType : TTy → Type 0
  IsType (Plain b) = IsBase b
  IsType (Set m) = HasModel s m
  IsType (Opt b) = IsBase b

  pub record IsField (m : ℕ) (f : FieldInfo) : Type 0 where
    pub ty : IsType f.ty
    pub read : IsPolicy m f.read
    pub write : IsPolicy m f.write

  pub record IsModel (m : ModelInfo) : Type 0 where
    pub create : IsPolicy m.number m.create
    pub delete : IsPolicy m.number m.delete
    pub fields : AllByRecursion (IsField m.number) m.fields

  -- the types and policies of the schema are
  abbrev pub IsTyped : Type 0
  IsTyped = AllByRecursion IsModel s.models
