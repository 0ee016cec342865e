-- Worked texts of witnesses.
use Rattle.std.specs.Prelude.{◌≡◌, ℕ, false, List, [], ◌∷◌, ◌++◌, None, Some, codes}
use Rattle.type_schema.specs.declared.types.TBase.TheVariants as base
use Rattle.type_schema.specs.declared.types.TTy.TheVariants.{Plain}
use Rattle.type_schema.specs.declared.rights.Right.TheVariants.{Read, Delete}
use Rattle.type_schema.specs.declared.rights.Target.TheVariants as on
use Rattle.type_schema.specs.Trees.{to_none}
use Rattle.type_schema.specs.Schema.{ModelInfo}
use Rattle.type_schema.specs.Commands.{Command, create_model, add_static}
use Rattle.type_schema.specs.Script.{Script, start_of}
use Rattle.data_meaning.specs.declared.principals.Principal.TheVariants.{Static, Rec}
use Rattle.data_meaning.specs.Values.{Id}
use Rattle.data_meaning.specs.Database.{Database}
use Rattle.data_meaning.specs.Worked as worked
use Rattle.duty_meaning.specs.Worked.{open_field, script_of, leveled, read_by}
use Rattle.check_witness.specs.Printed.{witness_text}
use Rattle.check_witness.specs.Worked.{each_other}

-- model Grant {create: none, delete: none, user: Id(User) {read: public, write: none}}
abbrev pub grant : ModelInfo
grant = record {
  number = 1;
  name = codes "Grant";
  principal = false;
  create = to_none;
  delete = to_none;
  fields = open_field 7 (codes "user") (Plain (base.Id 0)) ∷ [];
}

-- the model is created, a static added, and the read policy of age becomes another
abbrev pub commands : List Command
commands = create_model grant ∷ add_static (record { number = 1; name = codes "Robot" }) ∷ read_by 1 worked.oneself ∷ []

abbrev pub granting : Script
granting = record (script_of commands) { start = start_of (script_of commands) }

abbrev pub granted : Database
granted = each_other ++ (record { model = 1; next = 2; records = (record { id = 1; slots = (record { field = 7; value = Id 2 }) ∷ [] }) ∷ [] }) ∷ []

abbrev pub of_users : List ℕ
of_users =
    codes "User @3 {\n"
    ++ codes "  @1 {email: \"a\", age: 30, isAdmin: true, secret: \"\", manager: @2, friends: [@2], deputy: none}\n"
    ++ codes "  @2 {email: \"b\", age: 20, isAdmin: false, secret: \"\", manager: @1, friends: [@1, @2], deputy: some(@1)}\n"
    ++ codes "}\n"

abbrev pub of_grants : List ℕ
of_grants = codes "Grant@1 @2 {\n" ++ codes "  @1 {user: @2}\n" ++ codes "}\n"

pub record WorkedTexts : Type 0 where
  -- a gain of a record, where the script creates a model
  pub of_gain : witness_text granting (record { command = 3; target = on.Field 0 1; right = Read; base = granted; row = 1; who = Rec 0 2; cell = None })
      ≡ codes "leak command 3 field User.age right read\n" ++ codes "row User @1\n" ++ codes "principal User @2\n"
      ++ codes "database\n" ++ of_users ++ of_grants ++ codes "end\n"
  -- a right on the created model, of a static that the script adds
  pub of_model : witness_text granting (record { command = 3; target = on.Model 1; right = Delete; base = granted; row = 1; who = Static 1; cell = None })
      ≡ codes "leak command 3 model Grant@1 right delete\n" ++ codes "row Grant@1 @1\n" ++ codes "principal Robot@2\n"
      ++ codes "database\n" ++ of_users ++ of_grants ++ codes "end\n"
  -- a flow leak, of an added field
  pub of_flow : witness_text leveled (record {
    command = 1;
    target = on.Field 0 7;
    right = Read;
    base = each_other;
    row = 2;
    who = Static 0;
    cell = Some (worked.cell 2 2);
  })
      ≡ codes "leak command 1 field User.level right read\n" ++ codes "row User @2\n" ++ codes "principal Visitor\n" ++ codes "touched User @2 isAdmin\n"
      ++ codes "database\n" ++ of_users ++ codes "end\n"
