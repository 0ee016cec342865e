-- Worked commands on users and notes, of whom users are principals: which fault is the first, and where it stands.
use Rattle.std.specs.Prelude.{◌≡◌, ℕ, pos, true, false, List, [], ◌∷◌, codes, Some, None, Ok, Err, map}
use Rattle.std.specs.List.{range_with_len}
use Rattle.text_tree.specs.declared.named.Named.{Named}
use Rattle.text_tree.specs.declared.exprs.CmpOp.TheVariants.{Eq}
use Rattle.text_tree.specs.declared.exprs.FilterOp.TheVariants.{Cmp}
use Rattle.text_tree.specs.declared.exprs.Expr.TheVariants as e
use Rattle.text_tree.specs.declared.policies.Policy.TheVariants as p
use Rattle.text_tree.specs.declared.policies.Init.TheVariants as i
use Rattle.text_tree.specs.declared.commands.Command as written
use Rattle.text_tree.specs.declared.commands.Command.TheVariants as w
use Rattle.type_schema.specs.declared.types.TBase.TheVariants as base
use Rattle.type_schema.specs.declared.types.TTy.{TTy}
use Rattle.type_schema.specs.declared.types.TTy.TheVariants.{Plain}
use Rattle.type_schema.specs.declared.rights.Right.TheVariants.{Read, Create}
use Rattle.type_schema.specs.declared.rights.Target.TheVariants as on
use Rattle.type_schema.specs.Trees.{Policy, to_all, to_none, by_record, listed, static_item, no_items, find, filter_and, no_filters, flag}
use Rattle.type_schema.specs.Schema.{FieldInfo, Schema}
use Rattle.type_schema.specs.Commands.{Command, remove_field}
use Rattle.type_typing.specs.Outcome.{Checked}
use Rattle.type_typing.specs.declared.type_err.TypeErr.TheVariants.{Crowded, EmptyReason, Expanded, NotPrincipal, StillUsed, Twice, Unknown, WrongType}
use Rattle.type_typing.specs.declared.type_err.UsedBy.TheVariants as by
use Rattle.type_specs.specs.Worked.{at_place, field_def, int, model_def, nobody, only_field, only_x, sized}
use Rattle.type_commands.specs.declared.script_err.ScriptErr.TheVariants.{Bad}
use Rattle.type_commands.specs.Commands.{typed_command}
use Rattle.type_commands.specs.Resolved.{resolved}
use Rattle.type_commands.specs.Scripts.{steps}

abbrev pub field : ℕ → List ℕ → TTy → Policy → FieldInfo
field number name ty read = record { number = number; name = name; ty = ty; read = read; write = to_none }

-- Users have an email 0, a mark 1 and a secret 2, which those may read whose mark is set; notes have a body 3 and an owner 4. Robots may create notes.
abbrev pub app : Schema
app = record {
  statics = (record { number = 0; name = codes "Robot" }) ∷ [];
  models =
      (record {
        number = 0;
        name = codes "User";
        principal = true;
        create = to_all;
        delete = to_none;
        fields =
            field 0 (codes "email") (Plain base.Text) to_all ∷ field 1 (codes "isAdmin") (Plain base.Bool) to_all
            ∷ field 2 (codes "secret") (Plain base.Text) (by_record (codes "u") (find 0 (filter_and 1 (Cmp Eq) (flag true) no_filters))) ∷ [];
      })
      ∷ (record {
        number = 1;
        name = codes "Note";
        principal = false;
        create = by_record (codes "n") (listed (static_item 0 no_items));
        delete = to_none;
        fields = field 3 (codes "body") (Plain base.Text) to_all ∷ field 4 (codes "owner") (Plain (base.Id 0)) to_all ∷ [];
      }) ∷ [];
  next_static = 1;
  next_model = 2;
  next_field = 5;
  added = [];
  removed = [];
}

-- as many statics as may be
abbrev pub full : Schema
full = record app { statics = map (λ n. record { number = n; name = n ∷ [] }) (range_with_len 0 64) }

abbrev pub user : Named
user = at_place (codes "User") 0

abbrev pub note : Named
note = at_place (codes "Note") 0

-- an added number `x` that holds `u.name` at first
abbrev pub add_number : List ℕ → written.Command
add_number name =
    w.AddField user (field_def (at_place (codes "x") 15) int nobody) (at_place (codes "u") 51)
    (i.Plain (e.Get 56 (e.Var 56 (at_place (codes "u") 56)) (at_place name 58))) 0

abbrev pub run : written.Command → Checked Command
run c = resolved app c

pub record WorkedCommands : Type 0 where
  pub unknown_model : run (w.DeleteModel (at_place (codes "Team") 12) 0) ≡ Err (Unknown 12)
  pub unknown_field : run (add_number (codes "nope")) ≡ Err (Unknown 58)
  pub another_type : run (add_number (codes "email")) ≡ Err (WrongType 56)
  -- The initialiser does not see the field.
  pub not_seen : run (add_number (codes "x")) ≡ Err (Unknown 58)
  pub no_principals : run (w.UpdateFieldPolicy note (at_place (codes "body") 24) None (Some (only_x (at_place (codes "n") 38) 44)) 0) ≡ Err (NotPrincipal 44)
  pub static_twice : run (w.AddStatic (at_place (codes "Robot") 10) 0) ≡ Err (Twice 10)
  -- a model's name for a static, a field of the model once more, and a principal that is one
  pub shared_names : run (w.AddStatic (at_place (codes "Note") 10) 0) ≡ Err (Twice 10)
  pub principal_twice : run (w.AddPrincipal (at_place (codes "User") 13) 0) ≡ Err (Twice 13)
  -- of two fields with one name in a created model the second
  pub field_twice :
      run
      (w.CreateModel
      (model_def false (at_place (codes "Team") 18) (field_def (at_place (codes "f") 50) int nobody ∷ field_def (at_place (codes "f") 90) int nobody ∷ [])) 0)
      ≡ Err (Twice 90)
  -- The secret is read by whom the mark is set.
  pub filter_uses : run (w.RemoveField user (at_place (codes "isAdmin") 18) 0) ≡ Err (StillUsed 18 (by.Policy (on.Field 0 2) Read))
  -- A field's own policies do not hold it.
  pub own_policy : run (w.RemoveField user (at_place (codes "secret") 18) 0) ≡ Ok (remove_field 0 2)
  pub type_uses : run (w.DeleteModel (at_place (codes "User") 12) 0) ≡ Err (StillUsed 12 (by.FieldType 1 4))
  pub list_uses : run (w.RemoveStatic (at_place (codes "Robot") 13) 0) ≡ Err (StillUsed 13 (by.Policy (on.Model 1) Create))
  pub no_reason :
      run (w.WeakenFieldPolicy user (at_place (codes "email") 24) None (Some (p.Everyone 39)) (record { text = []; at = 48 }) 0) ≡ Err (EmptyReason 48)
  -- A static too many stands at its name; that the name is taken comes first.
  pub crowded : resolved full (w.AddStatic (at_place (codes "More") 10) 0) ≡ Err (Crowded 10)
  pub crowded_twice : resolved full (w.AddStatic (at_place (codes "Note") 10) 0) ≡ Err (Twice 10)
  -- The first policy that is too large is the fault, at the first token of its set.
  pub too_large :
      typed_command (sized 20001) app (w.UpdateFieldPolicy user (at_place (codes "email") 24) None (Some (only_x (at_place (codes "u") 39) 44)) 0)
      ≡ Err (Expanded 9 20001)
  -- a policy that sees the field that is added
  pub seen_by_policies :
      run
      (w.AddField user (field_def (at_place (codes "x") 15) int (only_field (at_place (codes "u") 40) (at_place (codes "x") 48) 46)) (at_place (codes "u") 60)
      (i.Plain (e.Num 64 (pos 3))) 0)
      ≡ Err (WrongType 46)
  -- The second command is bad; the third is not looked at.
  pub second_is_bad :
      steps (sized 1) 1 app
      (w.AddStatic (at_place (codes "One") 10) 0 ∷ w.AddStatic (at_place (codes "One") 25) 15 ∷ w.AddPrincipal (at_place (codes "Nobody") 50) 40 ∷ [])
      ≡ Err (Bad 2 (Twice 25))
