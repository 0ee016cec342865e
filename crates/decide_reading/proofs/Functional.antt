-- Where what terms and pairs have is a function of their keys, a table is congruent.
use Rattle.std.proofs.Common.{◌≡◌, ℕ, sym, ◌∙◌, List, [], ◌∷◌, ◌++◌, Some, Option, ap, subst, refl, map, slice_get, Contains}
use Rattle.std.specs.Prelude.{option_and_then}
use Rattle.std.specs.Option.{option_map}
use Rattle.std.proofs.lemmas.List.Elements.{Contains-append_left}
use Rattle.std.proofs.lemmas.Option.{slice_get-get_or}
use Rattle.form_formula.specs.declared.structure.Signature.{Signature}
use Rattle.form_formula.specs.declared.structure.SVal.{SVal}
use Rattle.form_terms.specs.GroundTerms.{GroundTerm, GroundTerms, skolem, field, no_terms, term_and}
use Rattle.form_terms.proofs.Listed.{in_map}
use Rattle.ground_terms.specs.Standing.{terms_at}
use Rattle.ground_terms.proofs.Standing.{map-append}
use Rattle.ground_terms.specs.declared.node.TermNode.{TermNode}
use Rattle.ground_terms.specs.Nodes.{term_of}
use Rattle.form_tables.specs.Table.{Table, AreSame}
use Rattle.form_tables.specs.Vocabulary.{Pair, told}
use Rattle.decide_models.specs.declared.found.Found.{Found}
use Rattle.decide_models.specs.Found.{IsFound}
use Rattle.ground_problem.specs.declared.words.PairNode.{PairNode}
use Rattle.ground_problem.specs.declared.words.Words.{Words}
use Rattle.ground_problem.specs.Words.{pair_at, vocabulary_at}
use Rattle.decide_reading.specs.Congruent.{IsCongruent}
use Rattle.decide_reading.specs.Keys.{HaveValues, class_of, classes_of, key_of, pair_key_of}
use Rattle.decide_reading.specs.Settled.{AreFunctional, IsPairSettled, IsSettled, first_related, first_value}
use Rattle.decide_reading.specs.declared.keys.Key.{Key}
use Rattle.decide_reading.specs.declared.keys.Key.TheVariants.{Function, Variable}
use Rattle.decide_reading.specs.declared.keys.PairKey.{PairKey}

-- terms that are the same have the same classes
module _ (table : Table) where
  classes_same : (ts us : GroundTerms) → AreSame table ts us
      → (xs : List ℕ) × (classes_of table.value ts ≡ Some xs) × (classes_of table.value us ≡ Some xs)
  classes_same no_terms no_terms h = ([], refl, refl)
  classes_same no_terms (term_and u us) h = absurd h
  classes_same (term_and t ts) no_terms h = absurd h
  classes_same (term_and t ts) (term_and u us) h =
      let (x, p, q) = h.0 in
      let (xs, left, right) = classes_same ts us h.1 in
      let here : classes_of table.value (term_and t ts) ≡ Some (class_of x ∷ xs) =
      ap (λ o. option_and_then (λ x. option_map (λ xs. class_of x ∷ xs) (classes_of table.value ts)) o) p ∙ ap (λ o. option_map (λ xs. class_of x ∷ xs) o) left in
      let there : classes_of table.value (term_and u us) ≡ Some (class_of x ∷ xs) =
      ap (λ o. option_and_then (λ x. option_map (λ xs. class_of x ∷ xs) (classes_of table.value us)) o) q ∙ ap (λ o. option_map (λ xs. class_of x ∷ xs) o) right in
      (class_of x ∷ xs, here, there)

place : {X : Type 0} (xs : List X) (x : X) → Contains xs x → (k : ℕ) × (slice_get xs k ≡ Some x)
place xs x h = (h.0, slice_get-get_or xs h.0 x h.1 ∙ ap (λ y. Some y) h.2)

module _ (terms : List TermNode) (w : Words) (found : Found) (g : Signature) (table : Table) (is : IsFound g terms w.pairs.items found table)
    (functional : (values : GroundTerm → Option SVal) → HaveValues terms found values → AreFunctional values (terms_at terms (w.named.items ++ w.others.items)))
    (settled : (places : PairKey → Option ℕ) × ((k : ℕ) (pair : PairNode) → slice_get w.pairs.items k ≡ Some pair → IsPairSettled terms found places k pair)) where
  have : HaveValues terms found table.value
  have = is.values

  -- a told term with this key
  by_key : AreFunctional table.value (told (vocabulary_at terms w))
  by_key =
      let (by, all) = functional table.value have in
      (by, λ t k there e. all t k (subst (λ ts. Contains ts t) (sym (map-append (term_of terms) w.named.items w.others.items)) there) e)

  -- the set relation of a told pair with this key
  related_by : (p : Pair) (k : PairKey) → Contains (map (pair_at terms) w.pairs.items) p → pair_key_of table.value p ≡ Some k
      → table.has p.relation p.holder p.member ≡ first_related found settled.0 k
  related_by p k there e =
      let (pair, own, same) = in_map (pair_at terms) w.pairs.items p there in
      let (j, at) = place w.pairs.items pair own in
      let P : Pair → Type 0 = λ p. pair_key_of table.value p ≡ Some k → table.has p.relation p.holder p.member ≡ first_related found settled.0 k in
      subst P same (λ e. is.related j pair at ∙ settled.1 j pair at table.value k have e) e

  pub congruent : IsCongruent (vocabulary_at terms w) table
  congruent = record {
    functions = λ h t u c d same.
        let (x, p, q) = same in
        let k : Key = Function h (class_of x) in
        by_key.1 (field h t) k c (ap (λ o. option_map (λ x. Function h (class_of x)) o) p)
        ∙ sym (by_key.1 (field h u) k d (ap (λ o. option_map (λ x. Function h (class_of x)) o) q));
    variables = λ number sort ts us c d same.
        let v = vocabulary_at terms w in
        let (xs, left, right) = classes_same table ts us same in
        let k : Key = Variable number sort xs in
        by_key.1 (skolem number sort ts) k (Contains-append_left v.named v.others (skolem number sort ts) c) (ap (λ o. option_map (λ xs. Variable number sort xs) o) left)
        ∙ sym (by_key.1 (skolem number sort us) k (Contains-append_left v.named v.others (skolem number sort us) d) (ap (λ o. option_map (λ xs. Variable number sort xs) o) right));
    relations = λ p q c d relation holders members.
        let (x, left, right) = holders in
        let (y, left', right') = members in
        let k : PairKey = record { relation = p.relation; holder = class_of x; member = class_of y } in
        let first : pair_key_of table.value p ≡ Some k = keyed p x y left left' in
        let second : pair_key_of table.value q ≡ Some k = keyed q x y right right' ∙ ap (λ r. Some (record { relation = r; holder = class_of x; member = class_of y })) (sym relation) in
        related_by p k c first ∙ sym (related_by q k d second);
  }
    where
      keyed : (p : Pair) (x y : SVal) → table.value p.holder ≡ Some x → table.value p.member ≡ Some y
          → pair_key_of table.value p ≡ Some (record { relation = p.relation; holder = class_of x; member = class_of y })
      keyed p x y e e' =
          ap (λ o. option_and_then (λ x. option_map (λ y. record { relation = p.relation; holder = class_of x; member = class_of y }) (table.value p.member)) o) e
          ∙ ap (λ o. option_map (λ y. record { relation = p.relation; holder = class_of x; member = class_of y }) o) e'

-- terms that are settled have what is a function of their keys
pub functional_by : (terms : List TermNode) (found : Found) (ids : List ℕ) (places : Key → Option ℕ) (values : GroundTerm → Option SVal) → HaveValues terms found values
    → ((k id : ℕ) → slice_get ids k ≡ Some id → IsSettled terms found ids places id) → AreFunctional values (terms_at terms ids)
functional_by terms found ids places values have settled = (
  first_value found ids places,
  λ t k there e.
      let (id, own, same) = in_map (term_of terms) ids t there in
      let (j, at) = place ids id own in
      let P : GroundTerm → Type 0 = λ t. key_of values t ≡ Some k → values t ≡ first_value found ids places k in subst P same (λ e. settled j id at values k have e) e,
)
