-- Scripts that take away fields of truth values whose values stay in fields that they add.
use Rattle.std.specs.Prelude.{◌≡◌, ℕ, zero, suc, true, List, [], ◌∷◌, ◌++◌, None, Some, codes}
use Rattle.text_tree.specs.declared.exprs.CmpOp.TheVariants.{Eq}
use Rattle.text_tree.specs.declared.exprs.FilterOp.TheVariants.{Cmp}
use Rattle.type_schema.specs.declared.types.TBase.TheVariants as base
use Rattle.type_schema.specs.declared.types.TTy.TheVariants.{Plain}
use Rattle.type_schema.specs.declared.rights.Kind.TheVariants as kind
use Rattle.type_schema.specs.declared.rights.Right.TheVariants.{Read}
use Rattle.type_schema.specs.declared.rights.Target.TheVariants as on
use Rattle.type_schema.specs.Trees.{Expr, var, just, get, within, both, if_expr, match_expr, SetExpr, find, no_filters, filter_and, Policy, to_none, by_record, plain}
use Rattle.type_schema.specs.Schema.{FieldInfo, Schema}
use Rattle.type_schema.specs.Commands.{Command, add_field, remove_field, update_field, schema_after}
use Rattle.type_schema.specs.Script.{Script}
use Rattle.duty_meaning.specs.declared.duty.Duty.{Duty}
use Rattle.duty_meaning.specs.Formulas.{written_out}
use Rattle.duty_meaning.specs.Duties.{formula_of}
use Rattle.duty_meaning.specs.Sizes.{size, policy_size, init_size_over, init_size}

abbrev pub truth_field : ℕ → List ℕ → FieldInfo
truth_field number name = record { number = number; name = name; ty = Plain base.Bool; read = to_none; write = to_none }

-- one principal model, with two fields of truth values
abbrev pub start : Schema
start = record {
  statics = [];
  models = (record {
    number = 0;
    name = codes "X";
    principal = true;
    create = to_none;
    delete = to_none;
    fields = truth_field 0 (codes "a") ∷ truth_field 1 (codes "d") ∷ [];
  }) ∷ [];
  next_static = 0;
  next_model = 1;
  next_field = 2;
  added = [];
  removed = [];
}

abbrev pub x : Expr
x = var 0 (codes "x")

-- X::Find({f: x.c}), where c is field 3
abbrev pub alike : ℕ → SetExpr
alike f = find 0 (filter_and f (Cmp Eq) (get x 0 3) no_filters)

-- X::AddField(n: Bool {read: none, write: none}, x -> ..)
abbrev pub added : ℕ → List ℕ → Expr → Command
added number name e = add_field 0 (truth_field number name) (plain e)

-- if x in {X::Find({f: x.c})} then x.b else x.b, where b is field 2
abbrev pub chosen_by : ℕ → Expr
chosen_by f = if_expr (within x 0 (alike f)) (get x 0 2) (get x 0 2)

-- b is x.a and c is x.d; then a and d go; then fields 4, 5 and 6 are chosen by the one before, first by b
abbrev pub before : List Command
before =
    added 2 (codes "b") (get x 0 0) ∷ added 3 (codes "c") (get x 0 1) ∷ remove_field 0 0 ∷ remove_field 0 1
    ∷ added 4 (codes "e") (chosen_by 2) ∷ added 5 (codes "f") (chosen_by 4) ∷ added 6 (codes "g") (chosen_by 5) ∷ []

-- x -> X::Find({g: x.c})
abbrev pub last_policy : Policy
last_policy = by_record (codes "x") (alike 6)

abbrev pub after_all : Schema → List Command → List Schema
after_all s [] = s ∷ []
after_all s (c ∷ commands) = s ∷ after_all (schema_after s c) commands

abbrev pub last_schema : Schema → List Command → Schema
last_schema s [] = s
last_schema s (c ∷ commands) = last_schema (schema_after s c) commands

-- and then the read policy of b is the last one
abbrev pub commands : List Command
commands = before ++ update_field 0 2 (Some last_policy) None ∷ []

abbrev pub comparing : Script
comparing = record { start = start; commands = commands; schemas = after_all start commands }

abbrev pub gain : Duty
gain = record { command = 8; target = on.Field 0 2; right = Read; spot = None; kind = kind.Model 0 }

-- ---- options of such values

-- y, and so often more
abbrev pub all_of : ℕ → Expr
all_of zero = var 1 (codes "y")
all_of (suc n) = both (var 1 (codes "y")) (all_of n)

-- match some(x.f) with none -> x.b | some y -> if y && .. && y then x.b else x.b
abbrev pub taken_apart : ℕ → Expr
taken_apart f = match_expr (just (get x 0 f)) (get x 0 2) (codes "y") (if_expr (all_of 7) (get x 0 2) (get x 0 2))

-- b is x.a, which goes; then field 3 takes b apart, field 4 takes field 3 apart, and field 5 field 4
abbrev pub options : List Command
options = added 2 (codes "b") (get x 0 0) ∷ remove_field 0 0 ∷ added 3 (codes "e") (taken_apart 2) ∷ added 4 (codes "f") (taken_apart 3) ∷ added 5 (codes "g") (taken_apart 4) ∷ []

-- What initialisers read from fields of truth values that are gone is counted as what it was. If it were counted as terms are, the last initialiser
-- of the first script would count 255, its policy 131 and the last initialiser of the second 1,023.
pub record WorkedRemoved : Type 0 where
  pub last_field : init_size (last_schema start before) (Plain base.Bool) (plain (chosen_by 5)) ≡ 1143
  pub last_right : policy_size (last_schema start commands) last_policy ≡ 1145
  pub formula : size (formula_of comparing gain) ≡ 1149
  pub last_option : init_size (last_schema start options) (Plain base.Bool) (plain (taken_apart 4)) ≡ 27855
  pub over_start : init_size_over start (written_out start (last_schema start options).added) (Plain base.Bool) (plain (taken_apart 4)) ≡ 27855
