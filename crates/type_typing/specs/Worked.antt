-- Worked types and faults: users and notes, of whom users are principals, and a static visitor.
use Rattle.std.specs.Prelude.{◌≡◌, ℕ, true, false, List, [], ◌∷◌, codes, Some, None, Ok, Err}
use Rattle.text_tree.specs.declared.named.Named.{Named}
use Rattle.text_tree.specs.declared.exprs.CmpOp.TheVariants.{Ne, Gt}
use Rattle.text_tree.specs.declared.exprs.FilterOp.TheVariants.{Cmp}
use Rattle.text_tree.specs.declared.exprs.Expr.{Expr}
use Rattle.text_tree.specs.declared.exprs.Expr.TheVariants as e
use Rattle.text_tree.specs.declared.exprs.SetExpr.TheVariants as s
use Rattle.text_tree.specs.declared.exprs.Item.TheVariants as item
use Rattle.type_schema.specs.declared.types.TBase.TheVariants as base
use Rattle.type_schema.specs.declared.types.TTy.{TTy}
use Rattle.type_schema.specs.declared.types.TTy.TheVariants.{Plain, Opt}
use Rattle.type_schema.specs.declared.trees.TExpr.TheVariants as t
use Rattle.type_schema.specs.declared.trees.TSet.TheVariants as ts
use Rattle.type_schema.specs.declared.trees.TItem.TheVariants as ti
use Rattle.type_schema.specs.Trees.{to_all, to_none}
use Rattle.type_schema.specs.Schema.{FieldInfo, Schema}
use Rattle.type_typing.specs.declared.asked.Content.TheVariants.{Principals, Records}
use Rattle.type_typing.specs.declared.vars.Var.{Var}
use Rattle.type_typing.specs.declared.type_err.TypeErr.TheVariants.{NotPrincipal, Twice, Unknown, WrongType}
use Rattle.type_typing.specs.Asked.{of_type}
use Rattle.type_typing.specs.Exprs.{typed_expr, typed_set}

abbrev pub field : ℕ → List ℕ → TTy → FieldInfo
field number name ty = record { number = number; name = name; ty = ty; read = to_all; write = to_none }

-- the fields: email 0, age 1, manager 2 of users, body 3 of notes
abbrev pub app : Schema
app = record {
  statics = (record { number = 0; name = codes "Visitor" }) ∷ [];
  models =
      (record {
        number = 0;
        name = codes "User";
        principal = true;
        create = to_all;
        delete = to_none;
        fields =
            field 0 (codes "email") (Plain base.Text) ∷ field 1 (codes "age") (Plain base.Int)
            ∷ field 2 (codes "manager") (Plain (base.Id 0)) ∷ [];
      })
      ∷ (record {
        number = 1;
        name = codes "Note";
        principal = false;
        create = to_all;
        delete = to_none;
        fields = field 3 (codes "body") (Plain base.Text) ∷ [];
      }) ∷ [];
  next_static = 1;
  next_model = 2;
  next_field = 4;
  added = [];
  removed = [];
}

abbrev pub named : List ℕ → ℕ → Named
named name at = record { name = name; at = at }

-- the variable u at this offset, and a field of it
abbrev pub u_at : ℕ → Expr
u_at at = e.Var at (named (codes "u") at)

abbrev pub field_of_u : List ℕ → ℕ → ℕ → Expr
field_of_u name u at = e.Get u (u_at u) (named name at)

-- the variable u, which is a record of the model
abbrev pub u_of : ℕ → List Var
u_of m = (record { name = codes "u"; ty = Plain (base.Id m) }) ∷ []

abbrev pub int : TTy
int = Plain base.Int

pub record WorkedTypes : Type 0 where
  -- u.age
  pub field_is_found : typed_expr app (u_of 0) (Some int) (field_of_u (codes "age") 56 58) ≡ Ok (of_type 56 int (t.Get (t.Var 0 (codes "u")) 0 1))
  -- u.nope
  pub unknown_field : typed_expr app (u_of 0) (Some int) (field_of_u (codes "nope") 56 58) ≡ Err (Unknown 58)
  -- u.email, where a number is asked
  pub another_type : typed_expr app (u_of 0) (Some int) (field_of_u (codes "email") 56 58) ≡ Err (WrongType 56)
  -- w
  pub unknown_variable : typed_expr app (u_of 0) None (e.Var 6 (named (codes "w") 7)) ≡ Err (Unknown 7)
  -- none, where nothing is asked
  pub none_alone : typed_expr app (u_of 0) None (e.NoneLit 9) ≡ Err (WrongType 9)
  -- some(true), where an option of numbers is asked: its part is asked for a number
  pub part_of_some : typed_expr app [] (Some (Opt base.Int)) (e.SomeLit 70 (e.Flag 75 true)) ≡ Err (WrongType 75)
  -- u.age != u.age is not an equality
  pub unequal :
      typed_expr app (u_of 0) None (e.Cmp 0 Ne (field_of_u (codes "age") 0 2) (field_of_u (codes "age") 9 11))
      ≡ Ok (of_type 0 (Plain base.Bool) (t.Not (t.Eq (t.Get (t.Var 0 (codes "u")) 0 1) (t.Get (t.Var 0 (codes "u")) 0 1) Ne)))
  -- u.age > u.email: the first fault is that of the right side
  pub order_of_text :
      typed_expr app (u_of 0) None (e.Cmp 0 Gt (field_of_u (codes "age") 0 2) (field_of_u (codes "email") 8 10)) ≡ Err (WrongType 8)
  -- match some(true) with none -> false | some u -> u
  pub variable_hides_none :
      typed_expr app (u_of 0) None (e.MatchE 0 (e.SomeLit 6 (e.Flag 11 true)) (e.Flag 30 false) (named (codes "u") 43, u_at 48)) ≡ Err (Twice 43)
  -- [u], where u is a user and where u is a note
  pub principal_is_listed :
      typed_set app (u_of 0) Principals (s.List 43 (item.One (u_at 44) ∷ [])) ≡ Ok (ts.List (ti.One 0 (t.Var 0 (codes "u")) ∷ []))
  pub note_is_no_principal : typed_set app (u_of 1) Principals (s.List 43 (item.One (u_at 44) ∷ [])) ≡ Err (NotPrincipal 44)
  -- [Visitor], where principals are asked and where users are
  pub static_is_listed : typed_set app [] Principals (s.List 2 (item.Static (named (codes "Visitor") 3) ∷ [])) ≡ Ok (ts.List (ti.Static 0 ∷ []))
  pub static_is_no_record : typed_set app [] (Records 0) (s.List 2 (item.Static (named (codes "Visitor") 3) ∷ [])) ≡ Err (WrongType 3)
  -- Note::Find({}) in parentheses, in a policy: the fault stands at the chain
  pub notes_are_no_principals : typed_set app [] Principals (s.Find 5 (named (codes "Note") 6) []) ≡ Err (NotPrincipal 6)
  -- Note::Find({body > true}): the sign does not fit the field
  pub sign_of_filter :
      typed_set app [] (Records 1) (s.Find 6 (named (codes "Note") 6) ((record { field = named (codes "body") 18; op = Cmp Gt; value = e.Flag 25 true }) ∷ []))
      ≡ Err (WrongType 18)
  -- User::Find({}).map(x -> x.age): no id
  pub map_needs_ids :
      typed_set app [] Principals
      (s.MapS 0 (s.Find 0 (named (codes "User") 0) []) (named (codes "x") 19) (e.Get 24 (e.Var 24 (named (codes "x") 24)) (named (codes "age") 26)))
      ≡ Err (WrongType 24)
