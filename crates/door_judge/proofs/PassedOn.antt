-- What the parts of requests on records pass on, where they do.
use Rattle.std.proofs.Common.{◌≡◌, ℕ, Bool, true, false, List, Option, None, Some, refl, subst}
use Rattle.std.specs.Prelude.{◌==◌, not, nat_eq, Result, Ok, Err}
use Rattle.std.specs.List.{IsDistinct}
use Rattle.text_tree.specs.declared.named.Named.{Named}
use Rattle.data_tree.specs.declared.literals.Lit.{Lit}
use Rattle.data_tree.specs.declared.tables.FieldLit.{FieldLit}
use Rattle.type_schema.specs.Schema.{FieldInfo, ModelInfo, Schema, model_of}
use Rattle.type_schema.specs.Proper.{AreProperFields, IsProper, field_numbers}
use Rattle.data_meaning.specs.declared.principals.Principal.{Principal}
use Rattle.data_judge.specs.Named.{row_named, value_named}
use Rattle.data_meaning.specs.Values.{Value}
use Rattle.data_meaning.specs.Database.{Database, has_record}
use Rattle.data_records.specs.Inserted.{next_of}
use Rattle.data_records.proofs.Firsts.{found-among}
use Rattle.door_meaning.specs.Names.{field_in_at, model_at}
use Rattle.door_meaning.specs.declared.reply.Denial.TheVariants as denial
use Rattle.door_meaning.specs.Conditions.{may}
use Rattle.door_meaning.specs.Orders.{finds, goes, stops, unless}
use Rattle.door_meaning.specs.Records.{Making, Setting, first_unknown, named_field, named_making, named_setting, row_reply}
use Rattle.door_meaning.specs.Replies.{Reply, Denied, NoRecord, WrongShape}
use Rattle.door_judge.specs.Parts.{IsKnown}
use Rattle.door_judge.proofs.Known.{named-field, named-model}

past : {S : Type 0} (u : Result (Unit {0}) Reply) (k : Result S Reply) (set : S) → goes u (λ _. k) ≡ Ok set → (u ≡ Ok tt) × (k ≡ Ok set)
past (Err r) k set e = absurd (let never : ⊥ = cc in never)
past (Ok t) k set e = (refl, e)

last : {X S : Type 0} (mk : X → S) (x : Result X Reply) (set : S) → goes x (λ y. Ok (mk y)) ≡ Ok set → (y : X) × (mk y ≡ set)
last mk (Err r) set e = absurd (let never : ⊥ = cc in never)
last mk (Ok y) set e = (y, cc)

-- what is named, and what is asked of it
taken : {V X S : Type 0} (mk : V → X → S) (a : Result V Reply) (b : V → Result (Unit {0}) Reply) (c : V → Result X Reply) (set : S)
    → goes a (λ v. goes (b v) (λ _. goes (c v) (λ x. Ok (mk v x)))) ≡ Ok set → (v : V) × (a ≡ Ok v) × ((x : X) × (mk v x ≡ set))
taken mk (Err r) b c set e = absurd (let never : ⊥ = cc in never)
taken mk (Ok v) b c set e = (v, refl, last (mk v) (c v) set (past (b v) (goes (c v) (λ x. Ok (mk v x))) set e).1)

-- a thing and one in it
paired : {M F : Type 0} (a : Result M Reply) (b : M → Result F Reply) (c : M → Result (Unit {0}) Reply) (v : M × F)
    → goes a (λ m. goes (b m) (λ f. goes (c m) (λ _. Ok (m, f)))) ≡ Ok v → (m : M) × (f : F) × (a ≡ Ok m) × (b m ≡ Ok f) × (c m ≡ Ok tt) × ((m, f) ≡ v)
paired (Err r) b c v e = absurd (let never : ⊥ = cc in never)
paired {M} {F} (Ok m) b c v e =
    elim (b m) as (λ (r : Result F Reply). b m ≡ r → goes r (λ f. goes (c m) (λ _. Ok (m, f))) ≡ Ok v
    → (n : M) × (f : F) × (let l : Result M Reply = Ok m in let r : Result M Reply = Ok n in l ≡ r) × (b n ≡ Ok f) × (c n ≡ Ok tt) × ((n, f) ≡ v)) [
      | Err reply ↦ λ is h. absurd (let never : ⊥ = cc in never)
      | Ok f ↦ λ is h. let p = past (c m) (Ok (m, f)) v h in (m, f, refl, is, p.0, (let same : (m, f) ≡ v = cc in same))
    ] refl e

pub unless-true : (b : Bool) (reply : Reply) (u : Unit {0}) → unless (not b) reply ≡ Ok u → b ≡ true
unless-true true reply u e = refl
unless-true false reply u e = cc

module _ (s : Schema) (proper : IsProper s) (d : Database) where
  pub setting-known : (who : Option Principal) (model : Named) (id : ℕ) (field : Named) (l : Lit) (set : Setting) → named_setting s d who model id field l ≡ Ok set → IsKnown s d id set
  setting-known who model id field l set e =
      let t = taken (λ (v : ModelInfo × FieldInfo) (value : Value). let made : Setting = record { info = v.0; field = v.1; value = value } in made)
      (named_field s d model id field) (λ v. unless (not (may d v.1.write id who)) (Denied (denial.Field v.1.name)))
      (λ v. finds (value_named v.0.number None v.1.ty l) (WrongShape v.1.name)) set e in
      let p = paired (model_at s model) (λ m. field_in_at m field) (λ m. unless (not (has_record d m.number id)) NoRecord) t.0 t.1 in
      let known = named-model s proper model p.0 p.2 in
      subst (IsKnown s d id) t.2.1
      (subst (λ (v : ModelInfo × FieldInfo). IsKnown s d id (record { info = v.0; field = v.1; value = t.2.0 })) p.5 (record {
        model = known;
        field = named-field s proper p.0 known field p.1 p.3;
        there = unless-true (has_record d p.0.number id) NoRecord tt p.4;
      }))

  -- the model is one of the schema, no two of its fields have one number, and the record is to have the next id
  pub record IsNamedMaking (made : Making) : Type 0 where
    pub model : model_of s made.info.number ≡ Some made.info
    pub apart : IsDistinct nat_eq (field_numbers made.info.fields)
    pub number : made.id ≡ next_of d made.info.number

  pub making-known : (model : Named) (ws : List FieldLit) (made : Making) → named_making s d model ws ≡ Ok made → IsNamedMaking made
  making-known model ws made e =
      let t = taken (λ (m : ModelInfo) (row : List Value). let x : Making = record { info = m; row = row; id = next_of d m.number } in x) (model_at s model)
      (λ m. stops (first_unknown m.fields ws)) (λ m. row_reply m (row_named m.number (next_of d m.number) ws m.fields)) made e in
      let known = named-model s proper model t.0 t.1 in
      subst IsNamedMaking t.2.1 (record {
        model = known;
        apart = (found-among (AreProperFields s.next_field) (λ (i : ModelInfo). i.number == t.0.number) s.models t.0 proper.fields known).numbers.distinct;
        number = refl;
      })
