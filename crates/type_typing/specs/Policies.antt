-- The types of fields, policies and initialisers, or the first fault.
use Rattle.std.specs.Prelude.{ℕ, List, [], ◌∷◌, Some, Ok, Err}
use Rattle.text_tree.specs.declared.named.Named.{Named}
use Rattle.text_tree.specs.declared.models.Base.{Base}
use Rattle.text_tree.specs.declared.models.Base.TheVariants as b
use Rattle.text_tree.specs.declared.models.Ty.{Ty}
use Rattle.text_tree.specs.declared.models.Ty.TheVariants as ty
use Rattle.text_tree.specs.declared.policies.Policy.{Policy}
use Rattle.text_tree.specs.declared.policies.Policy.TheVariants as p
use Rattle.text_tree.specs.declared.policies.Init.{Init}
use Rattle.text_tree.specs.declared.policies.Init.TheVariants as i
use Rattle.text_tree.specs.Placed.{expr_at, set_at}
use Rattle.type_schema.specs.declared.types.TBase.{TBase}
use Rattle.type_schema.specs.declared.types.TBase.TheVariants as base
use Rattle.type_schema.specs.declared.types.TTy.{TTy}
use Rattle.type_schema.specs.declared.types.TTy.TheVariants.{Plain, Set, Opt}
use Rattle.type_schema.specs.declared.trees.TPolicy.{TPolicy}
use Rattle.type_schema.specs.declared.trees.TPolicy.TheVariants as tp
use Rattle.type_schema.specs.declared.trees.TInit.{TInit}
use Rattle.type_schema.specs.declared.trees.TInit.TheVariants as ti
use Rattle.type_schema.specs.Schema.{Schema}
use Rattle.type_typing.specs.declared.asked.Content.TheVariants.{Principals, Records}
use Rattle.type_typing.specs.declared.vars.Var.{Var}
use Rattle.type_typing.specs.declared.type_err.TypeErr.TheVariants.{Unknown, WrongType}
use Rattle.type_typing.specs.Exprs.{typed_expr, typed_set}
use Rattle.type_typing.specs.Names.{model_named}
use Rattle.type_typing.specs.Outcome.{Checked, ◌>>=◌, or_else}

-- a model that a type names
abbrev pub typed_model : Schema → Named → Checked ℕ
typed_model s model = or_else (model_named s model.name) (Unknown model.at)

unfoldable pub typed_base : Schema → Base → Checked TBase
typed_base s (b.Bool at) = Ok base.Bool
typed_base s (b.Int at) = Ok base.Int
typed_base s (b.Text at) = Ok base.Text
typed_base s (b.Id model at) = typed_model s model >>= (λ m. Ok (base.Id m))

unfoldable pub typed_type : Schema → Ty → Checked TTy
typed_type s (ty.Plain plain) = typed_base s plain >>= (λ t. Ok (Plain t))
typed_type s (ty.Set model at) = typed_model s model >>= (λ m. Ok (Set m))
typed_type s (ty.Opt inside at) = typed_base s inside >>= (λ t. Ok (Opt t))

-- the variable of a policy or an initialiser, which is a record of the model
abbrev pub record_var : ℕ → Named → List Var
record_var m x = (record { name = x.name; ty = Plain (base.Id m) }) ∷ []

-- a policy on records of the model
abbrev pub typed_policy : Schema → ℕ → Policy → Checked TPolicy
typed_policy s m (p.Everyone at) = Ok tp.Everyone
typed_policy s m (p.Nobody at) = Ok tp.Nobody
typed_policy s m (p.Fun x set) = typed_set s (record_var m x) Principals set >>= (λ typed. Ok (tp.Fun x.name typed))

-- an initialiser of a field of the type, which is no set, and of one that is a set of records of the model
abbrev pub plain_init : Schema → List Var → TTy → Init → Checked TInit
plain_init s vars ty (i.Plain e) = typed_expr s vars (Some ty) e >>= (λ typed. Ok (ti.Plain typed.tree))
plain_init s vars ty (i.OfSet set) = Err (WrongType (set_at set))

abbrev pub set_init : Schema → List Var → ℕ → Init → Checked TInit
set_init s vars n (i.Plain e) = Err (WrongType (expr_at e))
set_init s vars n (i.OfSet set) = typed_set s vars (Records n) set >>= (λ typed. Ok (ti.OfSet n typed))

-- an initialiser of a field of the type, on records of the model
abbrev pub typed_init : Schema → ℕ → TTy → Named → Init → Checked TInit
typed_init s m (Plain b) x init = plain_init s (record_var m x) (Plain b) init
typed_init s m (Set n) x init = set_init s (record_var m x) n init
typed_init s m (Opt b) x init = plain_init s (record_var m x) (Opt b) init
