-- Principals that requests name are of the schema.
use Rattle.std.proofs.Common.{◌≡◌, ℕ, Bool, true, false, List, [], ◌∷◌, Option, None, Some, refl, ap, sym, subst, cond, is_some}
use Rattle.std.specs.Prelude.{◌==◌, Result, Ok}
use Rattle.std.specs.List.{find}
use Rattle.std.specs.Str.{bytes_eq}
use Rattle.std.proofs.lemmas.Bool.{eq-eqb}
use Rattle.text_tree.specs.declared.named.Named.{Named}
use Rattle.data_judge.specs.Faults.{model_named}
use Rattle.data_meaning.specs.declared.principals.Principal.{Principal}
use Rattle.data_meaning.specs.declared.principals.Principal.TheVariants.{Static, Rec}
use Rattle.door_requests.specs.declared.requests.Who.{Who}
use Rattle.door_requests.specs.declared.requests.Who.TheVariants as who
use Rattle.door_meaning.specs.Names.{principal_named, stands_in, static_named}
use Rattle.door_meaning.specs.Orders.{finds, goes, unless}
use Rattle.door_meaning.specs.Replies.{Reply, SessionTaken, Unknown}
use Rattle.door_meaning.specs.Sessions.{joined, outcome_of}
use Rattle.door_meaning.specs.State.{has_session}
use Rattle.type_schema.specs.Schema.{ModelInfo, Schema, StaticInfo}
use Rattle.door_serve.specs.Laws.{EnteringIsOpening}

-- what is found by a name is found by its number, or one before it is
found-by : {A : Type 0} (p : A → Bool) (number : A → ℕ) (xs : List A) (x : A) → find p xs ≡ Some x → is_some (find (λ y. number y == number x) xs) ≡ true
found-by p number [] x is = absurd (let never : ⊥ = cc in never)
found-by p number (y ∷ xs) x is =
    elim (p y) as (λ (b : Bool). cond b (Some y) (find p xs) ≡ Some x → is_some (cond (number y == number x) (Some y) (find (λ z. number z == number x) xs)) ≡ true) [
      | true ↦ λ h.
          let same : y ≡ x = cc in
          ap (λ b. is_some (cond b (Some y) (find (λ z. number z == number x) xs))) (eq-eqb (number y) (number x) (ap number same))
      | false ↦ λ h.
          elim (number y == number x) as (λ (b : Bool). is_some (cond b (Some y) (find (λ z. number z == number x) xs)) ≡ true) [
            | true ↦ refl
            | false ↦ found-by p number xs x h
          ]
    ] is

named-static : (s : Schema) (name : Named) (p : Principal) (o : Option StaticInfo) → static_named s name.name ≡ o
    → goes (finds o (Unknown name.at)) (λ (info : StaticInfo). Ok (Static info.number)) ≡ Ok p → stands_in s p ≡ true
named-static s name p None is e = absurd (let never : ⊥ = cc in never)
named-static s name p (Some info) is e =
    let same : Static info.number ≡ p = cc in
    subst (λ (q : Principal). stands_in s q ≡ true) same (found-by (λ (i : StaticInfo). bytes_eq i.name name.name) (λ (i : StaticInfo). i.number) s.statics info is)

named-record : (s : Schema) (model : Named) (id : ℕ) (p : Principal) (o : Option ModelInfo) → model_named s.models model.name ≡ o
    → goes (finds o (Unknown model.at)) (λ (info : ModelInfo). Ok (Rec info.number id)) ≡ Ok p → stands_in s p ≡ true
named-record s model id p None is e = absurd (let never : ⊥ = cc in never)
named-record s model id p (Some info) is e =
    let same : Rec info.number id ≡ p = cc in
    subst (λ (q : Principal). stands_in s q ≡ true) same (found-by (λ (i : ModelInfo). bytes_eq i.name model.name) (λ (i : ModelInfo). i.number) s.models info is)

named-stands : (s : Schema) (w : Who) (p : Principal) → principal_named s w ≡ Ok p → stands_in s p ≡ true
named-stands s (who.Static name) p e = named-static s name p (static_named s name.name) refl e
named-stands s (who.Record model id) p e = named-record s model id.number p (model_named s.models model.name) refl e

pub entering-opens : EnteringIsOpening
entering-opens st session named p is = (
  named-stands st.stored.schema named p is,
  sym (ap (λ (r : Result Principal Reply). outcome_of st (goes (unless (has_session st session) SessionTaken) (λ _. goes r (joined st session)))) is),
)
