-- Worked texts of databases: what is wrong with them first, and what they write.
use Rattle.std.specs.Prelude.{◌≡◌, ◌+◌, ℕ, ℤ, Bool, true, false, List, [], ◌∷◌, None, Some, codes, pos}
use Rattle.text_tree.specs.declared.named.Named.{Named}
use Rattle.data_tree.specs.declared.literals.WrittenId.{WrittenId}
use Rattle.data_tree.specs.declared.literals.Lit.{Lit}
use Rattle.data_tree.specs.declared.literals.Lit.TheVariants as lit
use Rattle.data_tree.specs.declared.tables.FieldLit.{FieldLit}
use Rattle.data_tree.specs.declared.tables.RecordLit.{RecordLit}
use Rattle.data_tree.specs.declared.tables.TableLit.{TableLit}
use Rattle.type_schema.specs.declared.types.TBase.TheVariants as base
use Rattle.type_schema.specs.declared.types.TTy.{TTy}
use Rattle.type_schema.specs.declared.types.TTy.TheVariants.{Plain, Set, Opt}
use Rattle.type_schema.specs.Trees.{to_all}
use Rattle.type_schema.specs.Schema.{FieldInfo, ModelInfo, Schema}
use Rattle.data_meaning.specs.Values.{Flag, Num, Str, Id, Ids, Just}
use Rattle.data_meaning.specs.Database.{Record, Database}
use Rattle.data_judge.specs.declared.fault.Fault.TheVariants.{Unknown, Absent, Twice, WrongShape, BadId}
use Rattle.data_judge.specs.Faults.{rule_fault}
use Rattle.data_judge.specs.Meaning.{records_for}
use Rattle.data_judge.specs.References.{lost}

-- ---- the schema: users with a manager, and teams of them

abbrev field : ℕ → List ℕ → TTy → FieldInfo
field number name ty = record { number = number; name = name; ty = ty; read = to_all; write = to_all }

abbrev model : ℕ → List ℕ → List FieldInfo → ModelInfo
model number name fields = record { number = number; name = name; principal = true; create = to_all; delete = to_all; fields = fields }

abbrev user : ModelInfo
user =
    model 0 (codes "User")
    (field 0 (codes "email") (Plain base.Text) ∷ field 1 (codes "age") (Plain base.Int) ∷ field 2 (codes "isAdmin") (Plain base.Bool)
    ∷ field 3 (codes "secret") (Plain base.Text) ∷ field 4 (codes "manager") (Plain (base.Id 0)) ∷ [])

abbrev team : ModelInfo
team = model 1 (codes "Team") (field 5 (codes "members") (Set 0) ∷ field 6 (codes "lead") (Opt (base.Id 0)) ∷ [])

abbrev pub company : Schema
company = record { statics = []; models = user ∷ team ∷ []; next_static = 0; next_model = 2; next_field = 7; added = []; removed = [] }

-- ---- what is written

abbrev named : List ℕ → ℕ → Named
named name at = record { name = name; at = at }

abbrev number : ℕ → ℕ → WrittenId
number n at = record { number = n; at = at }

-- an id behind an `@` of this offset
abbrev id : ℕ → ℕ → Lit
id n at = lit.Id (number n (at + 1)) at

abbrev given : List ℕ → ℕ → Lit → FieldLit
given name at value = record { name = named name at; value = value }

-- the first record, and the second
abbrev first : RecordLit
first = record {
  id = number 1 13;
  fields =
      given (codes "email") 16 (lit.Str (codes "a@x") 23) ∷ given (codes "age") 30 (lit.Num (pos 30) 35) ∷ given (codes "isAdmin") 39 (lit.Flag true 48)
      ∷ given (codes "secret") 54 (lit.Str (codes "s1") 62) ∷ given (codes "manager") 68 (id 1 77) ∷ [];
  «end» = 79;
}

abbrev second_with : List FieldLit → RecordLit
second_with fields = record { id = number 2 84; fields = fields; «end» = 151 }

abbrev second_fields : Lit → Lit → List FieldLit
second_fields age manager =
    given (codes "email") 87 (lit.Str (codes "b@x") 94) ∷ given (codes "age") 101 age ∷ given (codes "isAdmin") 110 (lit.Flag false 119)
    ∷ given (codes "secret") 126 (lit.Str (codes "s2") 134) ∷ given (codes "manager") 140 manager ∷ []

abbrev users : ℕ → List RecordLit → TableLit
users next rows = record { name = named (codes "User") 0; next = number next 6; records = rows }

-- `User @3 {` with two records
abbrev two_users : List TableLit
two_users = users 3 (first ∷ second_with (second_fields (lit.Num (pos 20) 106) (id 1 149)) ∷ []) ∷ []

abbrev changed : ℕ → List FieldLit → List TableLit
changed next fields = users next (first ∷ second_with fields ∷ []) ∷ []

abbrev teams : Lit → Lit → List TableLit
teams members lead =
    users 2 (first ∷ [])
    ∷ (record {
      name = named (codes "Team") 83;
      next = number 2 89;
      records =
          (record { id = number 1 96; fields = given (codes "members") 99 members ∷ given (codes "lead") 120 lead ∷ []; «end» = 140 }) ∷ [];
    }) ∷ []

-- ---- what they are

-- the database that `two_users` writes
abbrev row : ℕ → List ℕ → ℤ → Bool → List ℕ → Record
row id email age admin secret = record {
  id = id;
  slots =
      (record { field = 0; value = Str email }) ∷ (record { field = 1; value = Num age }) ∷ (record { field = 2; value = Flag admin })
      ∷ (record { field = 3; value = Str secret }) ∷ (record { field = 4; value = Id 1 }) ∷ [];
}

abbrev first_row : Record
first_row = row 1 (codes "a@x") (pos 30) true (codes "s1")

-- a user and a team
abbrev with_team : Database
with_team =
    (record { model = 0; next = 2; records = first_row ∷ [] })
    ∷ (record { model = 1; next = 2; records = [] }) ∷ []

pub record WorkedData : Type 0 where
  pub two : rule_fault company two_users ≡ None
  -- `User @2 {`: the second record's number is not below the next
  pub bad_id : rule_fault company (changed 2 (second_fields (lit.Num (pos 20) 106) (id 1 149))) ≡ Some (BadId 84)
  -- a negative number in place of the second field's, which may stand there; a text may not
  pub wrong_shape : rule_fault company (changed 3 (second_fields (lit.Str (codes "20") 106) (id 1 149))) ≡ Some (WrongShape 106)
  -- `manager` is called `boss`: an unknown name comes before the field that is not given
  pub unknown_field :
      rule_fault company (changed 3 (given (codes "boss") 87 (id 1 93) ∷ [])) ≡ Some (Unknown 87)
  pub absent_field : rule_fault company (changed 3 (given (codes "email") 87 (lit.Str (codes "b@x") 94) ∷ [])) ≡ Some (Absent 151)
  pub field_twice :
      rule_fault company (changed 3 (given (codes "age") 87 (lit.Num (pos 1) 92) ∷ given (codes "age") 95 (lit.Flag true 100) ∷ [])) ≡ Some (Twice 95)
  -- the same record again, and the same model
  pub record_twice : rule_fault company (users 3 (first ∷ first ∷ []) ∷ []) ≡ Some (Twice 13)
  pub model_twice : rule_fault company (users 2 [] ∷ (record { name = named (codes "User") 12; next = number 0 18; records = [] }) ∷ []) ≡ Some (Twice 12)
  pub unknown_model : rule_fault company ((record { name = named (codes "Ghost") 0; next = number 0 7; records = [] }) ∷ []) ≡ Some (Unknown 0)
  -- a next of zero
  pub bad_next : rule_fault company (users 0 (first ∷ []) ∷ []) ≡ Some (BadId 6)
  -- a repeated id stands before an item that is no id; ids may stand in any order
  pub id_twice :
      rule_fault company (teams (lit.List (id 2 109 ∷ id 1 113 ∷ id 2 117 ∷ lit.Flag true 121 ∷ []) 108) (lit.NoneLit 126)) ≡ Some (Twice 118)
  pub no_id : rule_fault company (teams (lit.List (id 2 109 ∷ lit.Flag true 113 ∷ []) 108) (lit.NoneLit 126)) ≡ Some (WrongShape 113)
  -- an option in an option, and an option of another type
  pub option_twice : rule_fault company (teams (lit.List [] 108) (lit.SomeLit (lit.SomeLit (id 1 136) 131) 126)) ≡ Some (WrongShape 131)
  pub other_option : rule_fault company (teams (lit.List [] 108) (lit.SomeLit (lit.Num (pos 1) 131) 126)) ≡ Some (WrongShape 131)
  -- the records that are written
  pub rows : records_for two_users user ≡ first_row ∷ row 2 (codes "b@x") (pos 20) false (codes "s2") ∷ []
  pub set : records_for (teams (lit.List (id 2 109 ∷ id 1 113 ∷ []) 108) (lit.SomeLit (id 1 131) 126)) team
      ≡ (record { id = 1; slots = (record { field = 5; value = Ids (1 ∷ 2 ∷ []) }) ∷ (record { field = 6; value = Just (Id 1) }) ∷ [] }) ∷ []
  -- zero names no record, and is no wrong shape; the first in the text is named
  pub zero : rule_fault company (teams (lit.List (id 0 109 ∷ []) 108) (lit.SomeLit (id 9 131) 126)) ≡ None
  pub zero_lost : lost company with_team (teams (lit.List (id 0 109 ∷ []) 108) (lit.SomeLit (id 9 131) 126)) ≡ Some 110
  pub option_lost : lost company with_team (teams (lit.List (id 1 109 ∷ []) 108) (lit.SomeLit (id 9 131) 126)) ≡ Some 132
  pub none_lost : lost company with_team (teams (lit.List (id 1 109 ∷ []) 108) (lit.NoneLit 126)) ≡ None
