-- The canonical spelling of commands and scripts.
use Rattle.std.specs.Prelude.{ℕ, List, [], ◌∷◌, ◌++◌, Option, Some, None, codes}
use Rattle.std.specs.List.{flat_map}
use Rattle.text_lexer.specs.declared.token.TokenKind.TheVariants as k
use Rattle.text_tree.specs.declared.named.Named.{Named}
use Rattle.text_tree.specs.declared.named.Reason.{Reason}
use Rattle.text_tree.specs.declared.models.FieldDef.{FieldDef}
use Rattle.text_tree.specs.declared.policies.Policy.{Policy}
use Rattle.text_tree.specs.declared.policies.Init.{Init}
use Rattle.text_tree.specs.declared.policies.Init.TheVariants as init
use Rattle.text_tree.specs.declared.commands.Command.{Command}
use Rattle.text_tree.specs.declared.commands.Command.TheVariants as command
use Rattle.text_tree.specs.declared.commands.Script.{Script}
use Rattle.text_print.specs.Exprs.{spelled_expr, spelled_set}
use Rattle.text_print.specs.Marks.{Mark, lower, newline, sign, sp, text, upper}
use Rattle.text_print.specs.Models.{applied, braced, lambda, right, spelled_field, spelled_model}

abbrev pub spelled_init : Init → List Mark
spelled_init (init.Plain e) = (spelled_expr e).marks
spelled_init (init.OfSet set) = (spelled_set set).marks

-- the rights that are given, with a comma between two
abbrev pub given_rights : List ℕ → List ℕ → Option Policy → Option Policy → List Mark
given_rights one other None None = []
given_rights one other None (Some second) = right other second
given_rights one other (Some first) None = right one first
given_rights one other (Some first) (Some second) = right one first ++ sign k.Comma ∷ sp ∷ right other second

abbrev pub rights : List ℕ → List ℕ → Option Policy → Option Policy → List Mark
rights one other first second = braced (given_rights one other first second)

-- a command that names a static principal or a model
abbrev pub naming : List ℕ → Named → List Mark
naming word name = applied word (upper name.name ∷ [])

-- a command to a model, up to the parenthesis
abbrev pub on_model : Named → List ℕ → List Mark
on_model model word = upper model.name ∷ sign k.ColonColon ∷ upper word ∷ sign k.ParenOpen ∷ []

-- a field, and what it holds at first
abbrev pub added : FieldDef → Named → Init → List Mark
added field x init = spelled_field field ++ sign k.Comma ∷ sp ∷ lambda x.name (spelled_init init)

abbrev pub field_rights : Named → Option Policy → Option Policy → List Mark
field_rights field read write = lower field.name ∷ sign k.Comma ∷ sp ∷ rights (codes "read") (codes "write") read write

abbrev pub model_rights : Option Policy → Option Policy → List Mark
model_rights = rights (codes "create") (codes "delete")

abbrev pub because : Reason → List Mark
because reason = sign k.Comma ∷ sp ∷ text reason.text ∷ []

abbrev pub close : List Mark
close = sign k.ParenClose ∷ []

abbrev pub spelled_command : Command → List Mark
spelled_command (command.CreateModel model at) = applied (codes "CreateModel") (spelled_model model)
spelled_command (command.DeleteModel model at) = naming (codes "DeleteModel") model
spelled_command (command.AddStatic static at) = naming (codes "AddStatic") static
spelled_command (command.RemoveStatic static at) = naming (codes "RemoveStatic") static
spelled_command (command.AddPrincipal model at) = naming (codes "AddPrincipal") model
spelled_command (command.AddField model field x init at) = on_model model (codes "AddField") ++ (added field x init ++ close)
spelled_command (command.RemoveField model field at) = on_model model (codes "RemoveField") ++ lower field.name ∷ close
spelled_command (command.UpdateFieldPolicy model field read write at) =
    on_model model (codes "UpdateFieldPolicy") ++ (field_rights field read write ++ close)
spelled_command (command.WeakenFieldPolicy model field read write reason at) =
    on_model model (codes "WeakenFieldPolicy") ++ (field_rights field read write ++ (because reason ++ close))
spelled_command (command.UpdatePolicy model create delete at) =
    on_model model (codes "UpdatePolicy") ++ (model_rights create delete ++ close)
spelled_command (command.WeakenPolicy model create delete reason at) =
    on_model model (codes "WeakenPolicy") ++ (model_rights create delete ++ (because reason ++ close))

-- a command on a line of its own
abbrev pub command_line : Command → List Mark
command_line command = spelled_command command ++ newline ∷ []

abbrev pub spelled_script : Script → List Mark
spelled_script s = flat_map command_line s.commands
