-- Worked specifications: what they give, and which fault is the first.
use Rattle.std.specs.Prelude.{◌≡◌, ℕ, Bool, true, false, List, [], ◌∷◌, codes, Ok, Err}
use Rattle.text_tree.specs.declared.named.Named.{Named}
use Rattle.text_tree.specs.declared.exprs.Expr.TheVariants as e
use Rattle.text_tree.specs.declared.exprs.SetExpr.TheVariants as s
use Rattle.text_tree.specs.declared.exprs.Item.TheVariants as item
use Rattle.text_tree.specs.declared.policies.Policy.{Policy}
use Rattle.text_tree.specs.declared.policies.Policy.TheVariants as p
use Rattle.text_tree.specs.declared.models.Base.TheVariants as b
use Rattle.text_tree.specs.declared.models.Ty.{Ty}
use Rattle.text_tree.specs.declared.models.Ty.TheVariants as ty
use Rattle.text_tree.specs.declared.models.FieldDef.{FieldDef}
use Rattle.text_tree.specs.declared.models.ModelDef.{ModelDef}
use Rattle.text_tree.specs.declared.models.Spec.{Spec}
use Rattle.type_schema.specs.declared.types.TBase.TheVariants as base
use Rattle.type_schema.specs.declared.types.TTy.TheVariants.{Plain}
use Rattle.type_schema.specs.Trees.{to_all, to_none, by_record, listed, record_item, no_items, var, get}
use Rattle.type_schema.specs.Schema.{Schema}
use Rattle.type_typing.specs.Outcome.{Checked}
use Rattle.type_typing.specs.declared.type_err.TypeErr.TheVariants.{Expanded, NotPrincipal, Twice, Unknown, WrongType}
use Rattle.type_specs.specs.Sizes.{Sizes}
use Rattle.type_specs.specs.Specs.{typed_spec}

-- sizes that are all this one
abbrev pub sized : ℕ → Sizes
sized n = record { policy = λ s p. n; init = λ s t i. n }

abbrev pub schema_of_text : Spec → Checked Schema
schema_of_text = typed_spec (sized 20000)

abbrev pub at_place : List ℕ → ℕ → Named
at_place name at = record { name = name; at = at }

-- `name: ty {read: public, write: write}`
abbrev pub field_def : Named → Ty → Policy → FieldDef
field_def name ty write = record { name = name; ty = ty; read = p.Everyone 1; write = write }

-- `model name {create: public, delete: none, fields}`
abbrev pub model_def : Bool → Named → List FieldDef → ModelDef
model_def principal name fields = record { principal = principal; name = name; create = p.Everyone 2; delete = p.Nobody 3; fields = fields; at = 0 }

abbrev pub spec_of_parts : List Named → List ModelDef → Spec
spec_of_parts statics models = record { statics = statics; models = models }

-- `x -> [x]`, and `x -> [x.name]`
abbrev pub only_x : Named → ℕ → Policy
only_x x at = p.Fun x (s.List 9 (item.One (e.Var at (at_place x.name at)) ∷ []))

abbrev pub only_field : Named → Named → ℕ → Policy
only_field x f at = p.Fun x (s.List 9 (item.One (e.Get at (e.Var at (at_place x.name at)) f) ∷ []))

abbrev pub nobody : Policy
nobody = p.Nobody 3

abbrev pub int : Ty
int = ty.Plain (b.Int 5)

abbrev pub id_of : Named → Ty
id_of model = ty.Plain (b.Id model 5)

pub record WorkedSpecs : Type 0 where
  -- Notes refer to users, who stand behind them. Fields are numbered on through all models.
  pub numbers :
      schema_of_text
      (spec_of_parts (at_place (codes "Robot") 7 ∷ [])
      (model_def false (at_place (codes "Note") 20)
      (field_def (at_place (codes "by") 30) (id_of (at_place (codes "User") 40)) (only_field (at_place (codes "n") 50) (at_place (codes "by") 58) 56) ∷ [])
      ∷ model_def true (at_place (codes "User") 70) (field_def (at_place (codes "age") 80) int nobody ∷ []) ∷ []))
      ≡ Ok (record {
        statics = (record { number = 0; name = codes "Robot" }) ∷ [];
        models =
            (record {
              number = 0;
              name = codes "Note";
              principal = false;
              create = to_all;
              delete = to_none;
              fields =
                  (record {
                    number = 0;
                    name = codes "by";
                    ty = Plain (base.Id 1);
                    read = to_all;
                    write = by_record (codes "n") (listed (record_item 1 (get (var 0 (codes "n")) 0 0) no_items));
                  }) ∷ [];
            })
            ∷ (record {
              number = 1;
              name = codes "User";
              principal = true;
              create = to_all;
              delete = to_none;
              fields = (record { number = 1; name = codes "age"; ty = Plain base.Int; read = to_all; write = to_none }) ∷ [];
            }) ∷ [];
        next_static = 1;
        next_model = 2;
        next_field = 2;
        added = [];
        removed = [];
      })
  -- a model with a static's name
  pub model_of_a_static : schema_of_text (spec_of_parts (at_place (codes "A") 7 ∷ []) (model_def false (at_place (codes "A") 20) [] ∷ [])) ≡ Err (Twice 20)
  -- Two fields of one name: all names come before the type that is unknown.
  pub names_first :
      schema_of_text
      (spec_of_parts []
      (model_def false (at_place (codes "A") 20)
      (field_def (at_place (codes "f") 30) (id_of (at_place (codes "B") 40)) nobody ∷ field_def (at_place (codes "f") 60) int nobody ∷ []) ∷ []))
      ≡ Err (Twice 60)
  -- A type of the second model comes before a policy of the first.
  pub types_next :
      schema_of_text
      (spec_of_parts []
      (model_def false (at_place (codes "A") 20) (field_def (at_place (codes "f") 30) int (only_x (at_place (codes "a") 40) 46) ∷ [])
      ∷ model_def false (at_place (codes "B") 60) (field_def (at_place (codes "g") 70) (id_of (at_place (codes "C") 76)) nobody ∷ []) ∷ []))
      ≡ Err (Unknown 76)
  -- records that are no principals, in a policy
  pub no_principals :
      schema_of_text
      (spec_of_parts []
      (model_def false (at_place (codes "A") 20) (field_def (at_place (codes "f") 30) int (only_x (at_place (codes "a") 40) 46) ∷ []) ∷ []))
      ≡ Err (NotPrincipal 46)
  -- a number, where records are asked
  pub number_is_no_record :
      schema_of_text
      (spec_of_parts []
      (model_def true (at_place (codes "A") 20)
      (field_def (at_place (codes "f") 30) int (only_field (at_place (codes "a") 40) (at_place (codes "f") 48) 46) ∷ []) ∷ []))
      ≡ Err (WrongType 46)
  -- Each policy is above the limit, and the first stands at the word of `create`.
  pub too_large : typed_spec (sized 20001) (spec_of_parts [] (model_def true (at_place (codes "A") 20) [] ∷ [])) ≡ Err (Expanded 2 20001)
