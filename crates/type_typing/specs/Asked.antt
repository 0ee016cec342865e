-- What a place asks of an expression or a set, and what is done where it is something else.
use Rattle.std.specs.Prelude.{ℕ, Bool, true, false, ◌==◌, List, [], ◌∷◌, ◌++◌, Option, Some, None, Ok, Err, if◌then◌else◌}
use Rattle.std.specs.List.{list_any}
use Rattle.std.specs.Str.{bytes_eq}
use Rattle.text_tree.specs.declared.named.Named.{Named}
use Rattle.type_schema.specs.declared.types.TBase.{TBase}
use Rattle.type_schema.specs.declared.types.TBase.TheVariants as base
use Rattle.type_schema.specs.declared.types.TTy.{TTy}
use Rattle.type_schema.specs.declared.types.TTy.TheVariants.{Plain, Set, Opt}
use Rattle.type_schema.specs.declared.trees.TExpr.{TExpr}
use Rattle.type_schema.specs.declared.trees.TExpr.TheVariants as t
use Rattle.type_schema.specs.declared.trees.TSet.{TSet}
use Rattle.type_schema.specs.Schema.{Schema, is_principal_model}
use Rattle.type_typing.specs.declared.asked.Content.{Content}
use Rattle.type_typing.specs.declared.asked.Content.TheVariants.{Principals, Records}
use Rattle.type_typing.specs.declared.asked.Source.{Source}
use Rattle.type_typing.specs.declared.asked.Typed.{Typed}
use Rattle.type_typing.specs.declared.vars.Var.{Var}
use Rattle.type_typing.specs.declared.type_err.TypeErr.TheVariants.{Unknown, Twice, WrongType, NotPrincipal}
use Rattle.type_typing.specs.Names.{field_named}
use Rattle.type_typing.specs.Outcome.{Checked, ◌>>=◌, or_else}

-- ---- types

abbrev pub same_base : TBase → TBase → Bool
same_base base.Bool base.Bool = true
same_base base.Bool base.Int = false
same_base base.Bool base.Text = false
same_base base.Bool (base.Id n) = false
same_base base.Int base.Bool = false
same_base base.Int base.Int = true
same_base base.Int base.Text = false
same_base base.Int (base.Id n) = false
same_base base.Text base.Bool = false
same_base base.Text base.Int = false
same_base base.Text base.Text = true
same_base base.Text (base.Id n) = false
same_base (base.Id m) base.Bool = false
same_base (base.Id m) base.Int = false
same_base (base.Id m) base.Text = false
same_base (base.Id m) (base.Id n) = m == n

abbrev pub same_type_as : TTy → TTy → Bool
same_type_as (Plain a) (Plain b) = same_base a b
same_type_as (Plain a) (Set n) = false
same_type_as (Plain a) (Opt b) = false
same_type_as (Set m) (Plain b) = false
same_type_as (Set m) (Set n) = m == n
same_type_as (Set m) (Opt b) = false
same_type_as (Opt a) (Plain b) = false
same_type_as (Opt a) (Set n) = false
same_type_as (Opt a) (Opt b) = same_base a b

unfoldable pub same_type : TTy → TTy → Bool
same_type a b = same_type_as a b

-- what was found, where the place asks for nothing else
unfoldable pub fits : Typed → Option TTy → Checked Typed
fits found None = Ok found
fits found (Some asked) = if same_type found.ty asked then Ok found else Err (WrongType found.at)

abbrev pub of_type : ℕ → TTy → TExpr → Typed
of_type at ty tree = record { at = at; ty = ty; tree = tree }

-- an expression that is true or false
abbrev pub truth : ℕ → TExpr → Typed
truth at tree = of_type at (Plain base.Bool) tree

-- `none` is of each option that is asked, and of nothing else.
unfoldable pub none_of : Option TTy → ℕ → Checked Typed
none_of None at = Err (WrongType at)
none_of (Some (Plain b)) at = Err (WrongType at)
none_of (Some (Set m)) at = Err (WrongType at)
none_of (Some (Opt b)) at = Ok (of_type at (Opt b) t.NoneLit)

-- what `some(e)` asks of e
unfoldable pub inner_asked : Option TTy → Option TTy
inner_asked None = None
inner_asked (Some (Plain b)) = None
inner_asked (Some (Set m)) = None
inner_asked (Some (Opt b)) = Some (Plain b)

-- ---- what is found has to be: an id of a model, of a base type, an option, a set

unfoldable pub id_of : TTy → ℕ → Checked ℕ
id_of (Plain base.Bool) at = Err (WrongType at)
id_of (Plain base.Int) at = Err (WrongType at)
id_of (Plain base.Text) at = Err (WrongType at)
id_of (Plain (base.Id m)) at = Ok m
id_of (Set m) at = Err (WrongType at)
id_of (Opt b) at = Err (WrongType at)

unfoldable pub base_of : TTy → ℕ → Checked TBase
base_of (Plain b) at = Ok b
base_of (Set m) at = Err (WrongType at)
base_of (Opt b) at = Err (WrongType at)

unfoldable pub option_of : TTy → ℕ → Checked TBase
option_of (Plain b) at = Err (WrongType at)
option_of (Set m) at = Err (WrongType at)
option_of (Opt b) at = Ok b

unfoldable pub set_of_ids : TTy → ℕ → Checked ℕ
set_of_ids (Plain b) at = Err (WrongType at)
set_of_ids (Set m) at = Ok m
set_of_ids (Opt b) at = Err (WrongType at)

-- the field of a record of this type: its model, its number and its type
unfoldable pub field_of_record : Schema → TTy → ℕ → Named → Checked (ℕ × ℕ × TTy)
field_of_record s of at f =
    id_of of at >>= (λ m. or_else (field_named s m f.name) (Unknown f.at) >>= (λ field. Ok (m, field.0, field.1)))

-- ---- sets

-- whether a set with this content may hold records of the model
unfoldable pub may_hold : Schema → Content → ℕ → ℕ → Checked (Unit {0})
may_hold s Principals m at = if is_principal_model s m then Ok tt else Err (NotPrincipal at)
may_hold s (Records n) m at = if n == m then Ok tt else Err (WrongType at)

-- what holds principals alone stands where principals are asked
unfoldable pub among_principals : Content → ℕ → Checked (Unit {0})
among_principals Principals at = Ok tt
among_principals (Records n) at = Err (WrongType at)

-- a chain of records of the model
abbrev pub source : ℕ → ℕ → TSet → Source
source at m set = record { at = at; model = m; set = set }

-- what a set with this content asks of an item
unfoldable pub id_asked : Content → Option TTy
id_asked Principals = None
id_asked (Records n) = Some (Plain (base.Id n))

-- ---- variables

-- One more variable. It hides none.
unfoldable pub under : List Var → Named → TTy → Checked (List Var)
under vars x ty =
    if list_any (λ (v : Var). bytes_eq v.name x.name) vars then Err (Twice x.at) else Ok (vars ++ (record { name = x.name; ty = ty }) ∷ [])
