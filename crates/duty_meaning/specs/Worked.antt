-- Worked formulas and sizes, over the users of the worked values: email, age, isAdmin, secret and manager, in this order.
use Rattle.std.specs.Prelude.{◌≡◌, ℕ, zero, suc, pos, true, false, List, [], ◌∷◌, None, Some, codes}
use Rattle.text_tree.specs.declared.exprs.CmpOp.TheVariants.{Eq, Ge}
use Rattle.text_tree.specs.declared.exprs.FilterOp.TheVariants.{Cmp}
use Rattle.type_schema.specs.declared.types.TBase.TheVariants as base
use Rattle.type_schema.specs.declared.types.TTy.{TTy}
use Rattle.type_schema.specs.declared.types.TTy.TheVariants.{Plain, Set, Opt}
use Rattle.type_schema.specs.declared.rights.Kind.TheVariants as kind
use Rattle.type_schema.specs.declared.rights.Right.{Right}
use Rattle.type_schema.specs.declared.rights.Right.TheVariants.{Read, Write}
use Rattle.type_schema.specs.declared.rights.Target.TheVariants as on
use Rattle.type_schema.specs.Trees.{Expr, num, var, just, get, iff, SetExpr, listed, minus, find, path, mapped, match_set, no_items, static_item, record_item, no_filters, filter_and, to_all, to_none, by_record, plain, of_set}
use Rattle.type_schema.specs.Schema.{FieldInfo, Schema}
use Rattle.type_schema.specs.Commands.{Command, add_field, update_field, schema_after}
use Rattle.type_schema.specs.Script.{Script}
use Rattle.data_meaning.specs.Worked as worked
use Rattle.form_formula.specs.declared.structure.SVal.TheVariants as sval
use Rattle.form_formula.specs.Trees.{Term, Formula, yes, no, bound, app}
use Rattle.form_formula.specs.Trees as formula
use Rattle.form_formula.specs.Truth.{truth}
use Rattle.duty_meaning.specs.declared.duty.Duty.{Duty}
use Rattle.duty_meaning.specs.Structures.{function_of, structure_of}
use Rattle.duty_meaning.specs.Formulas.{record_at, nothing_written, is_allowed}
use Rattle.duty_meaning.specs.Duties.{obligations_of, formula_of}
use Rattle.duty_meaning.specs.Sizes.{policy_size, init_size}

abbrev pub open_field : ℕ → List ℕ → TTy → FieldInfo
open_field number name ty = record { number = number; name = name; ty = ty; read = to_all; write = to_none }

-- those of the worked values, a static principal, and a sixth field: an option of a user
abbrev pub start : Schema
start = record {
  statics = (record { number = 0; name = codes "Visitor" }) ∷ [];
  models = (record {
    number = 0;
    name = codes "User";
    principal = true;
    create = to_all;
    delete = to_none;
    fields =
        open_field 0 (codes "email") (Plain base.Text) ∷ open_field 1 (codes "age") (Plain base.Int)
        ∷ open_field 2 (codes "isAdmin") (Plain base.Bool) ∷ open_field 3 (codes "secret") (Plain base.Text)
        ∷ open_field 4 (codes "manager") (Plain (base.Id 0)) ∷ open_field 5 (codes "friends") (Set 0)
        ∷ open_field 6 (codes "deputy") (Opt (base.Id 0)) ∷ [];
  }) ∷ [];
  next_static = 1;
  next_model = 1;
  next_field = 7;
  added = [];
  removed = [];
}

abbrev pub after_all : Schema → List Command → List Schema
after_all s [] = s ∷ []
after_all s (c ∷ commands) = s ∷ after_all (schema_after s c) commands

abbrev pub script_of : List Command → Script
script_of commands = record { start = start; commands = commands; schemas = after_all start commands }

-- ---- terms of the formulas: the record, the principal, and the variable of the next quantifier

abbrev pub r : Term
r = bound 0 0

abbrev pub q : Term
q = bound 0 1

abbrev pub x : Term
x = bound 0 2

-- the formula of a policy, and of that it does not allow, at the record r and the principal q
abbrev pub allowed_by : SetExpr → Formula
allowed_by set = is_allowed start nothing_written (by_record (codes "u") set) r (record_at 0 q) true 2

abbrev pub denied_by : SetExpr → Formula
denied_by set = is_allowed start nothing_written (by_record (codes "u") set) r (record_at 0 q) false 2

-- u.friends; match u.deputy with none -> none | some d -> [d]; User::Find({}).map(x -> x.manager)
abbrev pub friends : SetExpr
friends = path 0 (get worked.u 0 5)

abbrev pub deputy : SetExpr
deputy = match_set (get worked.u 0 6) (listed no_items) (codes "d") (listed (record_item 0 (var 1 (codes "d")) no_items))

abbrev pub managers : SetExpr
managers = mapped (find 0 no_filters) 0 (codes "x") 0 (get worked.x 0 4)

-- ---- b 0 is u.isAdmin, and each further one compares the one before it with itself

abbrev pub compared_with_itself : ℕ → Expr
compared_with_itself zero = get worked.u 0 2
compared_with_itself (suc n) = iff (compared_with_itself n) (compared_with_itself n) Eq

abbrev pub truth_size : Expr → ℕ
truth_size e = init_size start (Plain base.Bool) (plain e)

-- ---- scripts

abbrev pub read_by : ℕ → SetExpr → Command
read_by f set = update_field 0 f (Some (by_record (codes "u") set)) None

-- the read policy of email becomes u -> [u]; its write policy becomes public
abbrev pub narrowed : Script
narrowed = script_of (read_by 0 worked.oneself ∷ [])

abbrev pub widened : Script
widened = script_of (update_field 0 0 None (Some to_all) ∷ [])

-- a field level is added, and the read policy of secret becomes User::Find({level >= 2})
abbrev pub leveled : Script
leveled = script_of (
    add_field 0 (open_field 7 (codes "level") (Plain base.Int)) worked.level
    ∷ read_by 3 (find 0 (filter_and 7 (Cmp Ge) (num (pos 2)) no_filters)) ∷ []
    )

-- a public field peers is added: the users above 25
abbrev pub peers : Script
peers = script_of (add_field 0 (open_field 7 (codes "peers") (Set 0)) (of_set 0 worked.older) ∷ [])

abbrev pub gain : ℕ → ℕ → Right → Duty
gain k f right = record { command = k; target = on.Field 0 f; right = right; spot = None; kind = kind.Model 0 }

abbrev pub flow : ℕ → ℕ → ℕ → Duty
flow k f spot = record { command = k; target = on.Field 0 f; right = Read; spot = Some spot; kind = kind.Model 0 }

-- the kind of the static principal
abbrev pub of_visitor : Duty → Duty
of_visitor duty = record duty { kind = kind.Static 0 }

-- ---- rows

-- a test of isAdmin at a term, with the literal true
abbrev pub is_admin : Term → Formula
is_admin t = formula.either (formula.both (formula.flag 2 t) yes) (formula.both (formula.negation (formula.flag 2 t)) no)

abbrev pub is_no_admin : Term → Formula
is_no_admin t = formula.either (formula.both (formula.flag 2 t) no) (formula.both (formula.negation (formula.flag 2 t)) yes)

-- 2 or 0, by isAdmin at a term, is not below 2
abbrev pub level_is_high : Term → Formula
level_is_high t =
    formula.either (formula.both (formula.flag 2 t) (formula.negation (formula.less (formula.num (pos 2)) (formula.num (pos 2)))))
    (formula.both (formula.negation (formula.flag 2 t)) (formula.negation (formula.less (formula.num (pos 0)) (formula.num (pos 2)))))

pub record WorkedFormulas : Type 0 where
  -- sets are numbered apart
  pub number_of_option : function_of start 0 6 ≡ 5
  pub as_structure : structure_of start worked.users ≡ record {
    sizes = 2 ∷ [];
    funs =
        (Some (sval.Str (codes "a@x")) ∷ Some (sval.Str (codes "b@x")) ∷ []) ∷ (Some (sval.Num (pos 30)) ∷ Some (sval.Num (pos 20)) ∷ [])
        ∷ (Some (sval.Flag true) ∷ Some (sval.Flag false) ∷ []) ∷ (Some (sval.Str (codes "s1")) ∷ Some (sval.Str (codes "s2")) ∷ [])
        ∷ (Some (sval.Rec 0) ∷ Some (sval.Rec 0) ∷ []) ∷ (None ∷ None ∷ []) ∷ [];
    sets = [] ∷ [];
  }
  pub filter_of_truth : allowed_by worked.admins ≡ is_admin q
  pub negated_filter : denied_by worked.admins ≡ is_no_admin q
  pub negated_list : denied_by (listed (record_item 0 worked.u (static_item 0 no_items)))
      ≡ formula.both (formula.negation (formula.equal q r)) yes
  pub set_field : denied_by friends ≡ formula.negation (formula.has 0 r q)
  pub option_field : denied_by deputy
      ≡ formula.either (formula.both (formula.negation (formula.present 5 r)) yes)
      (formula.both (formula.present 5 r) (formula.negation (formula.equal q (app 5 r))))
  pub map_is_some : allowed_by managers ≡ formula.exists 0 (formula.both yes (formula.equal q (app 4 x)))
  pub negated_map : denied_by managers ≡ formula.forall 0 (formula.either no (formula.negation (formula.equal q (app 4 x))))
  pub difference : denied_by (minus managers worked.oneself)
      ≡ formula.either (formula.forall 0 (formula.either no (formula.negation (formula.equal q (app 4 x))))) (formula.equal q r)
  -- the list of obligations: of two rights and two kinds, and of one use
  pub two_kinds : obligations_of widened ≡ of_visitor (gain 1 0 Write) ∷ gain 1 0 Write ∷ []
  pub of_added : obligations_of leveled
      ≡ of_visitor (flow 1 7 1) ∷ flow 1 7 1 ∷ of_visitor (gain 2 3 Read) ∷ gain 2 3 Read ∷ []
  pub gain_of_list : formula_of narrowed (gain 1 0 Read)
      ≡ formula.exists 0 (formula.exists 0 (formula.both (formula.equal q r) no))
  pub gain_of_static : formula_of widened (of_visitor (gain 1 0 Write)) ≡ formula.exists 0 (formula.both yes yes)
  pub narrowed_is_safe : truth (structure_of start worked.users) [] (formula_of narrowed (gain 1 0 Read)) ≡ false
  pub widened_is_not : truth (structure_of start worked.users) [] (formula_of widened (gain 1 0 Write)) ≡ true
  pub added_written_out : formula_of leveled (gain 2 3 Read)
      ≡ formula.exists 0 (formula.exists 0 (formula.both (level_is_high q) no))
  pub use_is_reached : formula_of leveled (flow 1 7 1)
      ≡ formula.exists 0 (formula.exists 0 (formula.exists 0 (formula.both yes (formula.both (formula.equal x r) no))))
  pub filter_is_reached : formula_of peers (flow 1 7 1)
      ≡ formula.exists 0 (formula.exists 0 (formula.exists 0 (formula.both yes (formula.both yes no))))
  pub size_of_filter : policy_size start (by_record (codes "u") worked.admins) ≡ 9
  pub size_of_map : policy_size start (by_record (codes "u") managers) ≡ 7
  pub size_of_value : init_size start (Plain base.Int) worked.level ≡ 16
  pub size_of_option : init_size start (Opt base.Bool) (plain (just (get worked.u 0 2))) ≡ 6
  pub expanded_a_little : truth_size (compared_with_itself 3) ≡ 215
  pub expanded_to_the_limit : truth_size (compared_with_itself 6) ≡ 12479

-- the expression whose size is above the limit
abbrev pub ExpandedIsCounted : Type 0
ExpandedIsCounted = truth_size (compared_with_itself 7) ≡ 49535
