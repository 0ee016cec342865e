-- Trees without their places: two trees are equal, offsets aside, where what is left of them is equal.
use Rattle.std.specs.Prelude.{map, Option, Some, None}
use Rattle.text_tree.specs.declared.named.Named.{Named}
use Rattle.text_tree.specs.declared.named.Reason.{Reason}
use Rattle.text_tree.specs.declared.exprs.Expr.{Expr}
use Rattle.text_tree.specs.declared.exprs.Expr.TheVariants as e
use Rattle.text_tree.specs.declared.exprs.Expr.TheOpen.{Expr-F, SetExpr-F, Item-F, Filter-F}
use Rattle.text_tree.specs.declared.exprs.Expr.TheFolds.{fold-Expr, fold-SetExpr, fold-Item, fold-Filter}
use Rattle.text_tree.specs.declared.exprs.SetExpr.{SetExpr}
use Rattle.text_tree.specs.declared.exprs.SetExpr.TheVariants as s
use Rattle.text_tree.specs.declared.exprs.Item.{Item}
use Rattle.text_tree.specs.declared.exprs.Item.TheVariants as item
use Rattle.text_tree.specs.declared.exprs.Filter.{Filter, roll-Filter}
use Rattle.text_tree.specs.declared.policies.Policy.{Policy}
use Rattle.text_tree.specs.declared.policies.Policy.TheVariants as policy
use Rattle.text_tree.specs.declared.policies.Init.{Init}
use Rattle.text_tree.specs.declared.policies.Init.TheVariants as init
use Rattle.text_tree.specs.declared.models.Base.{Base}
use Rattle.text_tree.specs.declared.models.Base.TheVariants as base
use Rattle.text_tree.specs.declared.models.Ty.{Ty}
use Rattle.text_tree.specs.declared.models.Ty.TheVariants as ty
use Rattle.text_tree.specs.declared.models.FieldDef.{FieldDef}
use Rattle.text_tree.specs.declared.models.ModelDef.{ModelDef}
use Rattle.text_tree.specs.declared.models.Spec.{Spec}
use Rattle.text_tree.specs.declared.commands.Command.{Command}
use Rattle.text_tree.specs.declared.commands.Command.TheVariants as command
use Rattle.text_tree.specs.declared.commands.Script.{Script}
use Rattle.text_tree.specs.Placed.{ExprLayer, SetLayer}

abbrev pub stripped_name : Named → Named
stripped_name x = record { name = x.name; at = 0 }

abbrev pub stripped_reason : Reason → Reason
stripped_reason r = record { text = r.text; at = 0 }

-- ---- one level, of which the parts are stripped

abbrev pub expr_level : ExprLayer → Expr
expr_level (Expr-F.Flag at value) = e.Flag 0 value
expr_level (Expr-F.Num at value) = e.Num 0 value
expr_level (Expr-F.Str at text) = e.Str 0 text
expr_level (Expr-F.Var at x) = e.Var 0 (stripped_name x)
expr_level (Expr-F.NoneLit at) = e.NoneLit 0
expr_level (Expr-F.SomeLit at inner) = e.SomeLit 0 inner
expr_level (Expr-F.Get at of field) = e.Get 0 of (stripped_name field)
expr_level (Expr-F.Cmp at op left right) = e.Cmp 0 op left right
expr_level (Expr-F.Member at of set) = e.Member 0 of set
expr_level (Expr-F.Not at inner) = e.Not 0 inner
expr_level (Expr-F.And at left right) = e.And 0 left right
expr_level (Expr-F.Or at left right) = e.Or 0 left right
expr_level (Expr-F.IfE at test one other) = e.IfE 0 test one other
expr_level (Expr-F.MatchE at of none (x, some)) = e.MatchE 0 of none (stripped_name x, some)

abbrev pub item_level : Item-F Expr Item SetExpr Filter → Item
item_level (Item-F.Static x) = item.Static (stripped_name x)
item_level (Item-F.One x) = item.One x

abbrev pub filter_level : Filter-F Expr Item SetExpr Filter → Filter
filter_level f = roll-Filter (record { field = stripped_name f.field; op = f.op; value = f.value })

abbrev pub set_level : SetLayer → SetExpr
set_level (SetExpr-F.Everyone at word) = s.Everyone 0 0
set_level (SetExpr-F.Nobody at) = s.Nobody 0
set_level (SetExpr-F.List at items) = s.List 0 items
set_level (SetExpr-F.Sum at left right) = s.Sum 0 left right
set_level (SetExpr-F.Less at left right) = s.Less 0 left right
set_level (SetExpr-F.Find at model filters) = s.Find 0 (stripped_name model) filters
set_level (SetExpr-F.Path at path) = s.Path 0 path
set_level (SetExpr-F.MapS at of x each) = s.MapS 0 of (stripped_name x) each
set_level (SetExpr-F.FlatS at of x each) = s.FlatS 0 of (stripped_name x) each
set_level (SetExpr-F.IfS at test one other) = s.IfS 0 test one other
set_level (SetExpr-F.MatchS at of none x some) = s.MatchS 0 of none (stripped_name x) some

-- ---- whole trees

abbrev pub stripped_expr : Expr → Expr
stripped_expr = fold-Expr Expr Item SetExpr Filter expr_level item_level set_level filter_level

abbrev pub stripped_set : SetExpr → SetExpr
stripped_set = fold-SetExpr Expr Item SetExpr Filter expr_level item_level set_level filter_level

abbrev pub stripped_item : Item → Item
stripped_item = fold-Item Expr Item SetExpr Filter expr_level item_level set_level filter_level

abbrev pub stripped_filter : Filter → Filter
stripped_filter = fold-Filter Expr Item SetExpr Filter expr_level item_level set_level filter_level

abbrev pub stripped_policy : Policy → Policy
stripped_policy (policy.Everyone at) = policy.Everyone 0
stripped_policy (policy.Nobody at) = policy.Nobody 0
stripped_policy (policy.Fun x set) = policy.Fun (stripped_name x) (stripped_set set)

abbrev pub stripped_init : Init → Init
stripped_init (init.Plain x) = init.Plain (stripped_expr x)
stripped_init (init.OfSet set) = init.OfSet (stripped_set set)

-- ---- specifications

abbrev pub stripped_base : Base → Base
stripped_base (base.Bool at) = base.Bool 0
stripped_base (base.Int at) = base.Int 0
stripped_base (base.Text at) = base.Text 0
stripped_base (base.Id model at) = base.Id (stripped_name model) 0

abbrev pub stripped_type : Ty → Ty
stripped_type (ty.Plain base) = ty.Plain (stripped_base base)
stripped_type (ty.Set model at) = ty.Set (stripped_name model) 0
stripped_type (ty.Opt base at) = ty.Opt (stripped_base base) 0

abbrev pub stripped_field : FieldDef → FieldDef
stripped_field f = record {
  name = stripped_name f.name;
  ty = stripped_type f.ty;
  read = stripped_policy f.read;
  write = stripped_policy f.write;
}

abbrev pub stripped_model : ModelDef → ModelDef
stripped_model m = record {
  principal = m.principal;
  name = stripped_name m.name;
  create = stripped_policy m.create;
  delete = stripped_policy m.delete;
  fields = map stripped_field m.fields;
  at = 0;
}

abbrev pub stripped_spec : Spec → Spec
stripped_spec s = record { statics = map stripped_name s.statics; models = map stripped_model s.models }

-- ---- scripts

-- a right that may be given
abbrev pub stripped_right : Option Policy → Option Policy
stripped_right None = None
stripped_right (Some policy) = Some (stripped_policy policy)

abbrev pub stripped_command : Command → Command
stripped_command (command.CreateModel model at) = command.CreateModel (stripped_model model) 0
stripped_command (command.DeleteModel model at) = command.DeleteModel (stripped_name model) 0
stripped_command (command.AddStatic static at) = command.AddStatic (stripped_name static) 0
stripped_command (command.RemoveStatic static at) = command.RemoveStatic (stripped_name static) 0
stripped_command (command.AddPrincipal model at) = command.AddPrincipal (stripped_name model) 0
stripped_command (command.AddField model field x init at) =
    command.AddField (stripped_name model) (stripped_field field) (stripped_name x) (stripped_init init) 0
stripped_command (command.RemoveField model field at) = command.RemoveField (stripped_name model) (stripped_name field) 0
stripped_command (command.UpdateFieldPolicy model field read write at) =
    command.UpdateFieldPolicy (stripped_name model) (stripped_name field) (stripped_right read) (stripped_right write) 0
stripped_command (command.WeakenFieldPolicy model field read write reason at) =
    command.WeakenFieldPolicy (stripped_name model) (stripped_name field) (stripped_right read) (stripped_right write) (stripped_reason reason) 0
stripped_command (command.UpdatePolicy model create delete at) =
    command.UpdatePolicy (stripped_name model) (stripped_right create) (stripped_right delete) 0
stripped_command (command.WeakenPolicy model create delete reason at) =
    command.WeakenPolicy (stripped_name model) (stripped_right create) (stripped_right delete) (stripped_reason reason) 0

abbrev pub stripped_script : Script → Script
stripped_script s = record { commands = map stripped_command s.commands }
