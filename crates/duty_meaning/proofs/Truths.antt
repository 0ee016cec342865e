-- The formulas of conditions and policies tell what they mean on a database.
use Rattle.std.proofs.Common.{◌≡◌, ℕ, true, List, [], ◌∷◌, refl, ap}
use Rattle.std.specs.Prelude.{slice_get}
use Rattle.std.specs.Option.{option_map}
use Rattle.type_schema.specs.declared.types.TBase.TheVariants as base
use Rattle.type_schema.specs.declared.types.TTy.TheVariants.{Plain}
use Rattle.type_schema.specs.Schema.{Schema}
use Rattle.data_meaning.specs.declared.principals.Principal.{Principal}
use Rattle.data_meaning.specs.declared.principals.Principal.TheVariants.{Static, Rec}
use Rattle.data_meaning.specs.Values.{Id}
use Rattle.data_meaning.specs.Database.{Database, has_record, is_there}
use Rattle.data_meaning.specs.Meaning.{value_of}
use Rattle.form_formula.specs.declared.structure.SVal.TheVariants as sval
use Rattle.form_formula.specs.declared.structure.Structure.{Structure}
use Rattle.form_formula.specs.Trees.{bound}
use Rattle.duty_meaning.specs.Structures.{sort_of, element_of, structure_of}
use Rattle.duty_meaning.specs.Cases.{at_term}
use Rattle.duty_meaning.specs.Formulas.{nothing_written, cases_of}
use Rattle.duty_meaning.specs.Truths.{who_at, own_element, FormulasAreTrue}
use Rattle.duty_meaning.proofs.Means.{prefix-itself, IsTermOf, Stands, stands-typed, IsWho}
use Rattle.duty_meaning.proofs.Ends.{condition-means}
use Rattle.duty_meaning.proofs.Meanings.{means, typed, allowed-means, Shows}
use Rattle.duty_meaning.proofs.Starting.{shows-itself}

module _ (b : Schema) (st : Structure) (d : Database) where
  -- the first variable, and the second
  pub first-is : (m id sort : ℕ) (more : List ℕ) → has_record d m id ≡ true → IsTermOf b st d (element_of d m id ∷ more) (base.Id m) (Id id) (bound sort 0)
  first-is m id sort more there = λ zs q. (id, refl, there, ap (λ l. option_map (λ x. sval.Rec x) (slice_get l 0)) q.1)

  pub second-is : (x m id sort : ℕ) → has_record d m id ≡ true → IsTermOf b st d (x ∷ element_of d m id ∷ []) (base.Id m) (Id id) (bound sort 1)
  second-is x m id sort there = λ zs q. (id, refl, there, ap (λ l. option_map (λ x. sval.Rec x) (slice_get l 1)) q.1)

  pub who-is : (s : Schema) (x : ℕ) (q : Principal) → is_there d q ≡ true → IsWho b st d (x ∷ own_element d q) q (who_at s 1 q)
  who-is s x (Static n) there = refl
  who-is s x (Rec m id) there = (refl, second-is x m id (sort_of s m) there)

pub true_formulas : FormulasAreTrue
true_formulas s d is =
    let st : Structure = structure_of s d in
    let shows : Shows s s nothing_written st d d = shows-itself s d is in
    record {
      conditions = λ m x e id there sign.
          let xs : List ℕ = element_of d m id ∷ [] in
          let it = first-is s st d m id (sort_of s m) [] there in
          let h : Stands s st d xs (Plain (base.Id m) ∷ []) (Id id ∷ []) (at_term (bound (sort_of s m) 0) ∷ []) = ((base.Id m, refl, refl, it), (base.Id m, refl, refl), tt) in
          condition-means s st d xs (value_of d (Id id ∷ []) x) (cases_of s nothing_written (at_term (bound (sort_of s m) 0) ∷ []) x)
          (means s s nothing_written st d d shows x (Plain (base.Id m) ∷ []) (Id id ∷ []) (at_term (bound (sort_of s m) 0) ∷ []) xs h (Plain base.Bool) e)
          (typed s s nothing_written shows.types x (Plain (base.Id m) ∷ []) (at_term (bound (sort_of s m) 0) ∷ [])
          (stands-typed s st d xs (Plain (base.Id m) ∷ []) (Id id ∷ []) (at_term (bound (sort_of s m) 0) ∷ []) h) (Plain base.Bool) e)
          xs (prefix-itself xs) sign;
      policies = λ m p e id there q here sign.
          allowed-means s s nothing_written st d d shows m p e (element_of d m id ∷ own_element d q) id (bound (sort_of s m) 0)
          (first-is s st d m id (sort_of s m) (own_element d q) there) q (who_at s 1 q) (who-is s st d s (element_of d m id) q here) sign;
    }
