-- The grammar of specifications and scripts.
use Rattle.std.specs.Prelude.{ℕ, Bool, true, false, List, Option, Some, None, codes}
use Rattle.text_lexer.specs.declared.token.TokenKind.TheVariants as k
use Rattle.text_tree.specs.declared.named.Named.{Named}
use Rattle.text_tree.specs.declared.named.Reason.{Reason}
use Rattle.text_tree.specs.declared.policies.Policy.{Policy}
use Rattle.text_tree.specs.declared.policies.Policy.TheVariants as policy
use Rattle.text_tree.specs.declared.policies.Init.{Init}
use Rattle.text_tree.specs.declared.policies.Init.TheVariants as init
use Rattle.text_tree.specs.declared.models.Base.{Base}
use Rattle.text_tree.specs.declared.models.Base.TheVariants as base
use Rattle.text_tree.specs.declared.models.Ty.{Ty}
use Rattle.text_tree.specs.declared.models.Ty.TheVariants as ty
use Rattle.text_tree.specs.declared.models.FieldDef.{FieldDef}
use Rattle.text_tree.specs.declared.models.ModelDef.{ModelDef}
use Rattle.text_tree.specs.declared.models.Spec.{Spec}
use Rattle.text_tree.specs.declared.commands.Command.{Command}
use Rattle.text_tree.specs.declared.commands.Command.TheVariants as command
use Rattle.text_tree.specs.declared.commands.Script.{Script}
pub use Rattle.text_ast.specs.Limits.{most_levels, most_tokens, most_statics, most_models, most_fields, most_commands}
use Rattle.text_ast.specs.Pieces.{Piece}
use Rattle.text_tree.specs.Forms.{AtMost, Sign, Upper, Lower, Literal, TooManyStatics, TooManyModels, TooManyFields, TooManyCommands, nothing, token, either, each, ended, mapped, part, within}
use Rattle.text_tree.specs.LiteralValue.{literal_value}
use Rattle.text_tree.specs.ExprGrammar.{G, Expression, Set, ◌⨾◌, keyword, upper_keyword, sign, parens, braces, behind, lambda, named}

-- ---- policies

-- policy = "public" | "none" | LOWER "->" set
unfoldable pub policy_form : G Policy
policy_form =
    either (mapped (λ l. policy.Everyone l.at) (keyword (codes "public"))) (either (mapped (λ l. policy.Nobody l.at) (keyword (codes "none")))
    (mapped (λ v. policy.Fun (named v.0) v.1) (lambda (within most_tokens (part Set)))))

-- a right with its policy
abbrev pub right : List ℕ → G Policy
right word = behind (keyword word) (behind (sign k.Colon) policy_form)

-- ---- specifications

-- base = "Bool" | "Int" | "Text" | "Id" "(" UPPER ")"
unfoldable pub base_form : G Base
base_form =
    either (mapped (λ l. base.Bool l.at) (upper_keyword (codes "Bool"))) (either (mapped (λ l. base.Int l.at) (upper_keyword (codes "Int")))
    (either (mapped (λ l. base.Text l.at) (upper_keyword (codes "Text")))
    (mapped (λ v. base.Id v.1 v.0.at) (upper_keyword (codes "Id") ⨾ parens (mapped named (token Upper))))))

-- "Set" "(" "Id" "(" UPPER ")" ")"
unfoldable pub set_type : G Ty
set_type = mapped (λ v. ty.Set v.1 v.0.at) (upper_keyword (codes "Set") ⨾ parens (behind (upper_keyword (codes "Id")) (parens (mapped named (token Upper)))))

-- base | "Option" "(" base ")"
unfoldable pub plain_type : G Ty
plain_type = either (mapped (λ v. ty.Opt v.1 v.0.at) (upper_keyword (codes "Option") ⨾ parens base_form)) (mapped ty.Plain base_form)

-- the two rights of a field, and of a model
unfoldable pub field_rights : G (Policy × Policy)
field_rights = braces (right (codes "read") ⨾ behind (sign k.Comma) (right (codes "write")))

abbrev pub field_of : Piece → Ty → Policy × Policy → FieldDef
field_of name type rights = record { name = named name; ty = type; read = rights.0; write = rights.1 }

-- field = LOWER ":" type "{" "read" ":" policy "," "write" ":" policy "}"
unfoldable pub field_form : G FieldDef
field_form = mapped (λ v. field_of v.0 v.1.0 v.1.1) (token Lower ⨾ behind (sign k.Colon) (either set_type plain_type ⨾ field_rights))

-- the fields of a model, with a comma before each and maybe one at the end
unfoldable pub fields_form : G (List FieldDef)
fields_form =
    mapped (λ v. v.0) (ended (AtMost most_fields TooManyFields) (Sign k.Comma) field_form (sign k.BraceClose) (sign k.BraceClose))

-- what stands before the name of a model
unfoldable pub model_head : G (Bool × Piece)
model_head = either (mapped (λ v. (true, v.0)) (keyword (codes "principal") ⨾ keyword (codes "model"))) (mapped (λ l. (false, l)) (keyword (codes "model")))

-- model = ["principal"] "model" UPPER "{" "create" ":" policy "," "delete" ":" policy {"," field} [","] "}"
unfoldable pub model_form : G ModelDef
model_form =
    mapped (λ v. record {
      principal = v.0.0;
      name = named v.1.0;
      create = v.1.1.0;
      delete = v.1.1.1.0;
      fields = v.1.1.1.1;
      at = v.0.1.at;
    })
    (model_head ⨾ token Upper ⨾ behind (sign k.BraceOpen) (right (codes "create") ⨾ behind (sign k.Comma) (right (codes "delete")) ⨾ fields_form))

-- "static" UPPER
unfoldable pub static_form : G Named
static_form = mapped named (behind (keyword (codes "static")) (token Upper))

-- spec = {"static" UPPER} {model}
unfoldable pub spec_form : G Spec
spec_form =
    mapped (λ v. record { statics = v.0; models = v.1 })
    (each (AtMost most_statics TooManyStatics) static_form ⨾ each (AtMost most_models TooManyModels) model_form)

-- ---- scripts

-- one right or both, in their order
abbrev pub rights : List ℕ → List ℕ → G (Option Policy × Option Policy)
rights one two =
    braces (either (mapped (λ v. (Some v.0, v.1)) (right one ⨾ either (mapped Some (behind (sign k.Comma) (right two))) (nothing None)))
    (mapped (λ p. (None, Some p)) (right two)))

-- frights and mrights
unfoldable pub field_right_list : G (Option Policy × Option Policy)
field_right_list = rights (codes "read") (codes "write")

unfoldable pub model_right_list : G (Option Policy × Option Policy)
model_right_list = rights (codes "create") (codes "delete")

-- TEXT
unfoldable pub reason_form : G Reason
reason_form = mapped (λ l. record { text = literal_value l.bytes; at = l.at }) (token Literal)

-- a type with its rights, and after it what the field holds at first, for sets and for other types
unfoldable pub added_set : G ((Ty × Policy × Policy) × Piece × Init)
added_set =
    mapped (λ v. ((v.0, v.1.0.0, v.1.0.1), v.1.1.0, init.OfSet v.1.1.1))
    (set_type ⨾ field_rights ⨾ behind (sign k.Comma) (lambda (within most_tokens (part Set))))

unfoldable pub added_plain : G ((Ty × Policy × Policy) × Piece × Init)
added_plain =
    mapped (λ v. ((v.0, v.1.0.0, v.1.0.1), v.1.1.0, init.Plain v.1.1.1))
    (plain_type ⨾ field_rights ⨾ behind (sign k.Comma) (lambda (within most_tokens (part Expression))))

-- what stands after UPPER "::" in each command that begins so
unfoldable pub add_field : G (Piece → Command)
add_field =
    mapped (λ v model. command.AddField (named model) (field_of v.0 v.1.0.0 (v.1.0.1, v.1.0.2)) (named v.1.1) v.1.2 model.at)
    (behind (upper_keyword (codes "AddField")) (parens (token Lower ⨾ behind (sign k.Colon) (either added_set added_plain))))

unfoldable pub remove_field : G (Piece → Command)
remove_field =
    mapped (λ l model. command.RemoveField (named model) (named l) model.at) (behind (upper_keyword (codes "RemoveField")) (parens (token Lower)))

unfoldable pub update_field : G (Piece → Command)
update_field =
    mapped (λ v model. command.UpdateFieldPolicy (named model) (named v.0) v.1.0 v.1.1 model.at)
    (behind (upper_keyword (codes "UpdateFieldPolicy")) (parens (token Lower ⨾ behind (sign k.Comma) field_right_list)))

unfoldable pub weaken_field : G (Piece → Command)
weaken_field =
    mapped (λ v model. command.WeakenFieldPolicy (named model) (named v.0) v.1.0.0 v.1.0.1 v.1.1 model.at)
    (behind (upper_keyword (codes "WeakenFieldPolicy"))
    (parens (token Lower ⨾ (behind (sign k.Comma) field_right_list ⨾ behind (sign k.Comma) reason_form))))

unfoldable pub update_model : G (Piece → Command)
update_model =
    mapped (λ v model. command.UpdatePolicy (named model) v.0 v.1 model.at) (behind (upper_keyword (codes "UpdatePolicy")) (parens model_right_list))

unfoldable pub weaken_model : G (Piece → Command)
weaken_model =
    mapped (λ v model. command.WeakenPolicy (named model) v.0.0 v.0.1 v.1 model.at)
    (behind (upper_keyword (codes "WeakenPolicy")) (parens (model_right_list ⨾ behind (sign k.Comma) reason_form)))

-- a command that begins with the name of a model
unfoldable pub model_command : G Command
model_command =
    mapped (λ v. v.1 v.0)
    (token Upper ⨾ behind (sign k.ColonColon) (either add_field (either remove_field (either update_field (either weaken_field (either update_model weaken_model))))))

-- a command that is a word with a name in parentheses
abbrev pub named_command : List ℕ → (Named → ℕ → Command) → G Command
named_command word make = mapped (λ v. make (named v.1) v.0.at) (upper_keyword word ⨾ parens (token Upper))

-- command
unfoldable pub command_form : G Command
command_form =
    either (mapped (λ v. command.CreateModel v.1 v.0.at) (upper_keyword (codes "CreateModel") ⨾ parens model_form))
    (either (named_command (codes "DeleteModel") command.DeleteModel) (either (named_command (codes "AddStatic") command.AddStatic)
    (either (named_command (codes "RemoveStatic") command.RemoveStatic)
    (either (named_command (codes "AddPrincipal") command.AddPrincipal) model_command))))

-- script = {command}
unfoldable pub script_form : G Script
script_form = mapped (λ commands. record { commands = commands }) (each (AtMost most_commands TooManyCommands) command_form)
