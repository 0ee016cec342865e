-- A worked rollout: two users, of whom the first is an administrator and the manager of both, get a level by whether they are administrators.
use Rattle.std.specs.Prelude.{◌≡◌, ℕ, pos, true, false, [], ◌∷◌, map, codes, Some}
use Rattle.std.specs.Option.{option_map_or}
use Rattle.type_schema.specs.declared.types.TBase.TheVariants as base
use Rattle.type_schema.specs.declared.types.TTy.{TTy}
use Rattle.type_schema.specs.declared.types.TTy.TheVariants.{Plain}
use Rattle.text_tree.specs.declared.exprs.CmpOp.TheVariants.{Gt}
use Rattle.text_tree.specs.declared.exprs.FilterOp.TheVariants.{Cmp}
use Rattle.type_schema.specs.Trees.{num, get, within, find, no_filters, filter_and, to_none, Init, plain}
use Rattle.type_schema.specs.Schema.{FieldInfo, ModelInfo, Schema}
use Rattle.type_schema.specs.Commands.{Command, add_field, schema_after}
use Rattle.type_schema.specs.Script.{Script}
use Rattle.data_meaning.specs.Values.{Flag, Num, Str, Id}
use Rattle.data_meaning.specs.Database.{Database, field_at}
use Rattle.data_meaning.specs.Worked.{users, u, cell, level}
use Rattle.data_records.specs.Removed.{first_reference}
use Rattle.online_meaning.specs.Deep.{deep_cells, deep_finds}
use Rattle.online_meaning.specs.Marks.{RecordId}
use Rattle.online_meaning.specs.Events.{batch, put, make, switch}
use Rattle.online_meaning.specs.Rollouts.{Rollout, begun, evaluations, after_event}

abbrev pub field : ℕ → TTy → FieldInfo
field number ty = record { number = number; name = codes "f"; ty = ty; read = to_none; write = to_none }

abbrev pub user_model : ModelInfo
user_model = record {
  number = 0;
  name = codes "User";
  principal = true;
  create = to_none;
  delete = to_none;
  fields =
      field 0 (Plain base.Text) ∷ field 1 (Plain base.Int) ∷ field 2 (Plain base.Bool) ∷ field 3 (Plain base.Text) ∷ field 4 (Plain (base.Id 0)) ∷ [];
}

abbrev pub user_schema : Schema
user_schema = record { statics = []; models = user_model ∷ []; next_static = 0; next_model = 1; next_field = 5; added = []; removed = [] }

-- the level; that of the manager; and whether somebody has a level above 1 who is one's manager
abbrev pub add_level : Command
add_level = add_field 0 (field 5 (Plain base.Int)) level

abbrev pub above : Init
above = plain (get (get u 0 4) 0 5)

abbrev pub led : Init
led = plain (within (get u 0 4) 0 (find 0 (filter_and 6 (Cmp Gt) (num (pos 1)) no_filters)))

abbrev pub add_above : Command
add_above = add_field 0 (field 6 (Plain base.Int)) above

abbrev pub add_led : Command
add_led = add_field 0 (field 7 (Plain base.Bool)) led

abbrev pub levels : Script
levels = record { start = user_schema; commands = add_level ∷ []; schemas = user_schema ∷ schema_after user_schema add_level ∷ [] }

abbrev pub chained : Script
chained = record {
  start = user_schema;
  commands = add_level ∷ add_above ∷ add_led ∷ [];
  schemas =
      user_schema ∷ schema_after user_schema add_level ∷ schema_after (schema_after user_schema add_level) add_above
      ∷ schema_after (schema_after (schema_after user_schema add_level) add_above) add_led ∷ [];
}

abbrev pub user : ℕ → RecordId
user id = record { model = 0; id = id }

-- the state after each event
abbrev pub after_first : Rollout
after_first = after_event levels (batch 1) (begun levels users)

abbrev pub after_admin : Rollout
after_admin = after_event levels (put 0 1 2 (Flag false)) after_first

abbrev pub after_email : Rollout
after_email = after_event levels (put 0 1 0 (Str (codes "z"))) after_admin

abbrev pub after_other : Rollout
after_other = after_event levels (put 0 2 2 (Flag true)) after_email

abbrev pub after_second : Rollout
after_second = after_event levels (batch 1) after_other

abbrev pub after_made : Rollout
after_made = after_event levels (make 0 (Str (codes "n") ∷ Num (pos 1) ∷ Flag true ∷ Str [] ∷ Id 3 ∷ [])) after_second

abbrev pub after_switch : Rollout
after_switch = after_event levels switch after_made

pub record WorkedRollout : Type 0 where
  -- what is marked after each event
  pub at_first : (begun levels users).queue ≡ user 1 ∷ user 2 ∷ []
  pub one_is_done : after_first.queue ≡ user 2 ∷ []
  pub what_is_read_marks : after_admin.queue ≡ user 2 ∷ user 1 ∷ []
  pub nothing_else_marks : after_email.queue ≡ user 2 ∷ user 1 ∷ []
  pub marked_goes_last : after_other.queue ≡ user 1 ∷ user 2 ∷ []
  pub another_is_done : after_second.queue ≡ user 2 ∷ []
  pub made_is_marked : after_made.queue ≡ user 2 ∷ user 3 ∷ []
  pub first_stays : first_reference user_schema after_made.database 0 1 ≡ Some (record { model = 0; id = 2; field = 4 })
  -- the levels that the switch makes, and how often it evaluates an initialiser
  pub made : option_map_or (λ (d : Database). map (λ id. field_at d 0 id 5) (1 ∷ 2 ∷ 3 ∷ [])) after_switch.result []
      ≡ Num (pos 0) ∷ Num (pos 2) ∷ Num (pos 2) ∷ []
  pub evaluated : evaluations levels after_made.queue ≡ 2
  -- what is read deeply
  pub through_a_field : deep_cells chained users 1 above 2 ≡ cell 2 4 ∷ cell 1 2 ∷ []
  pub through_a_find : deep_cells chained users 2 led 2 ≡ cell 2 4 ∷ cell 1 4 ∷ cell 1 2 ∷ cell 2 4 ∷ cell 1 2 ∷ []
  pub no_find_behind : deep_finds chained 1 above ≡ []
  pub a_find : deep_finds chained 2 led ≡ 0 ∷ []
