-- Worked values: two users, of whom the first is an administrator and the manager of both.
use Rattle.std.specs.Prelude.{◌≡◌, ℕ, pos, true, false, List, [], ◌∷◌, codes}
use Rattle.type_schema.specs.declared.types.TBase.TheVariants as base
use Rattle.type_schema.specs.declared.types.TTy.TheVariants.{Plain}
use Rattle.text_tree.specs.declared.exprs.CmpOp.TheVariants.{Eq, Gt}
use Rattle.text_tree.specs.declared.exprs.FilterOp.TheVariants.{Cmp}
use Rattle.type_schema.specs.Trees.{Expr, flag, num, var, get, within, if_expr, SetExpr, everyone, listed, minus, find, mapped, no_items, record_item, no_filters, filter_and, to_none, by_record, Init, plain, of_set}
use Rattle.type_schema.specs.Commands.{add_field, remove_field}
use Rattle.data_meaning.specs.declared.principals.Principal.{Principal}
use Rattle.data_meaning.specs.declared.principals.Principal.TheVariants.{Static, Rec}
use Rattle.data_meaning.specs.Values.{Value, Flag, Num, Str, Id, Ids}
use Rattle.data_meaning.specs.Database.{Slot, Database}
use Rattle.data_meaning.specs.declared.cells.Cell.{Cell}
use Rattle.data_meaning.specs.Meaning.{value_of, member, allows}
use Rattle.data_meaning.specs.Touched.{init_touched}
use Rattle.data_meaning.specs.Run.{init_value, after_command}

abbrev pub slots : List ℕ → ℕ → Value → List ℕ → ℕ → List Slot
slots email age admin secret manager =
    (record { field = 0; value = Str email }) ∷ (record { field = 1; value = Num (pos age) }) ∷ (record { field = 2; value = admin })
    ∷ (record { field = 3; value = Str secret }) ∷ (record { field = 4; value = Id manager }) ∷ []

-- the fields: email 0, age 1, isAdmin 2, secret 3, manager 4
abbrev pub users : Database
users = (record {
  model = 0;
  next = 3;
  records =
      (record { id = 1; slots = slots (codes "a@x") 30 (Flag true) (codes "s1") 1 })
      ∷ (record { id = 2; slots = slots (codes "b@x") 20 (Flag false) (codes "s2") 1 }) ∷ [];
}) ∷ []

-- the record, and the variable of a `map` in it
abbrev pub u : Expr
u = var 0 (codes "u")

abbrev pub x : Expr
x = var 1 (codes "x")

-- User::Find({isAdmin: true}), and the users above 25
abbrev pub admins : SetExpr
admins = find 0 (filter_and 2 (Cmp Eq) (flag true) no_filters)

abbrev pub older : SetExpr
older = find 0 (filter_and 1 (Cmp Gt) (num (pos 25)) no_filters)

-- [u], and [u.manager]
abbrev pub oneself : SetExpr
oneself = listed (record_item 0 u no_items)

abbrev pub manager : SetExpr
manager = listed (record_item 0 (get u 0 4) no_items)

-- if u.isAdmin then 2 else 0
abbrev pub level : Init
level = plain (if_expr (get u 0 2) (num (pos 2)) (num (pos 0)))

-- User::Find({}).map(x -> x.manager)
abbrev pub managers : Init
managers = of_set 0 (mapped (find 0 no_filters) 0 (codes "x") 0 (get x 0 4))

abbrev pub first : Principal
first = Rec 0 1

abbrev pub second : Principal
second = Rec 0 2

abbrev pub cell : ℕ → ℕ → Cell
cell id field = record { model = 0; id = id; field = field }

pub record WorkedValues : Type 0 where
  pub admin_is_allowed : allows users (by_record (codes "u") admins) 2 first ≡ true
  pub other_is_not : allows users (by_record (codes "u") admins) 2 second ≡ false
  pub older_than_25 : allows users (by_record (codes "u") older) 2 first ≡ true
  pub all_but_oneself : allows users (by_record (codes "u") (minus everyone oneself)) 1 (Static 0) ≡ true
  pub not_oneself : allows users (by_record (codes "u") (minus everyone oneself)) 1 first ≡ false
  pub admins_but_manager : member users (Id 2 ∷ []) (minus admins manager) first ≡ false
  pub in_a_set : value_of users (Id 2 ∷ []) (within u 0 admins) ≡ Flag false
  pub value_of_level : init_value users level 1 ≡ Num (pos 2)
  pub one_branch_is_touched : init_touched users level 2 ≡ cell 2 2 ∷ []
  pub value_of_map : init_value users managers 2 ≡ Ids (1 ∷ [])
  pub map_touches_each : init_touched users managers 2 ≡ cell 1 4 ∷ cell 2 4 ∷ []
  pub filter_touches_each : init_touched users (of_set 0 admins) 1 ≡ cell 1 2 ∷ cell 2 2 ∷ []
  pub added_and_removed :
      value_of (after_command (remove_field 0 2) (after_command (add_field 0 (record {
        number = 5;
        name = codes "level";
        ty = Plain base.Int;
        read = to_none;
        write = to_none;
      }) level) users)) (Id 1 ∷ []) (get u 0 5) ≡ Num (pos 2)
