-- Terms and pairs that are settled, as more keys have first places.
use Rattle.std.proofs.Common.{◌≡◌, ◌∙◌, ℕ, ◌+◌, ◌<◌, List, [], Option, None, Some, sym, ap, subst, slice_get, get_or, length}
use Rattle.std.specs.Prelude.{false, option_and_then, unwrap_or}
use Rattle.std.proofs.lemmas.Option.{get_or_from_slice_get, none-some, slice_get-get_or}
use Rattle.form_formula.specs.declared.structure.SVal.{SVal}
use Rattle.form_terms.specs.GroundTerms.{GroundTerm}
use Rattle.ground_terms.specs.Nodes.{IsOne, term_of}
use Rattle.ground_terms.specs.Standing.{AreOnes}
use Rattle.ground_terms.proofs.Standing.{one_at}
use Rattle.ground_problem.specs.Words.{pair_at}
use Rattle.ground_terms.specs.declared.node.TermNode.{TermNode}
use Rattle.ground_problem.specs.declared.words.PairNode.{PairNode}
use Rattle.decide_models.specs.declared.found.Found.{Found}
use Rattle.decide_reading.specs.Firsts.{KeepsPlaces}
use Rattle.decide_reading.specs.Keys.{HaveValues, key_of, pair_key_of, value_at}
use Rattle.decide_reading.specs.Settled.{HasPairSettled, HasSettled, IsPairSettled, IsSettled, related_at}
use Rattle.decide_reading.specs.declared.keys.Key.{Key}
use Rattle.decide_reading.specs.declared.keys.PairKey.{PairKey}
use Rattle.decide_reading.proofs.DemandSteps.{so_more}

some_same : {X : Type 0} (x y : X) → Some x ≡ Some y → x ≡ y
some_same x y e = ap (λ o. unwrap_or o x) e

module _ (terms : List TermNode) (found : Found) where
  pub settled_still : (ids : List ℕ) (old new : Key → Option ℕ) (id : ℕ) → KeepsPlaces old new → HasSettled terms found ids old id → HasSettled terms found ids new id
  settled_still ids old new id kept h = λ values k have e. let (first, at, own) = h values k have e in (first, kept k first at, own)

  pub settled : (ids : List ℕ) (places : Key → Option ℕ) (id : ℕ) → HasSettled terms found ids places id → IsSettled terms found ids places id
  settled ids places id h = λ values k have e.
      let (first, at, own) = h values k have e in own ∙ ap (λ o. option_and_then (λ place. option_and_then (value_at found) (slice_get ids place)) o) (sym at)

  pub pair_settled_still : (old new : PairKey → Option ℕ) (place : ℕ) (pair : PairNode) → KeepsPlaces old new → HasPairSettled terms found old place pair
      → HasPairSettled terms found new place pair
  pair_settled_still old new place pair kept h = λ values k have e. let (first, at, own) = h values k have e in (first, kept k first at, own)

  pub pair_settled : (places : PairKey → Option ℕ) (place : ℕ) (pair : PairNode) → HasPairSettled terms found places place pair → IsPairSettled terms found places place pair
  pair_settled places place pair h = λ values k have e.
      let (first, at, own) = h values k have e in own ∙ ap (λ o. unwrap_or (option_and_then (slice_get found.related) o) false) (sym at)

  -- a term without a key, and one that has what the first with its key has
  pub settled_none : (ids : List ℕ) (places : Key → Option ℕ) (one : ℕ) (o : Option Key) → o ≡ None
      → ((values : GroundTerm → Option SVal) → HaveValues terms found values → o ≡ key_of values (term_of terms (get_or ids one 0)))
      → (id : ℕ) → slice_get ids one ≡ Some id → HasSettled terms found ids places id
  settled_none ids places one o none is id at = λ values k have e.
      let item : get_or ids one 0 ≡ id = get_or_from_slice_get ids one id 0 at in
      absurd (none-some k (sym none ∙ (is values have ∙ (ap (λ id. key_of values (term_of terms id)) item ∙ e))))

  pub settled_first : (ids : List ℕ) (places : Key → Option ℕ) (one first : ℕ) (o : Option Key) (key : Key) → AreOnes terms ids → one < length ids → first < length ids → o ≡ Some key
      → ((values : GroundTerm → Option SVal) → HaveValues terms found values → o ≡ key_of values (term_of terms (get_or ids one 0))) → places key ≡ Some first
      → value_at found (get_or ids one 0) ≡ value_at found (get_or ids first 0) → (id : ℕ) → slice_get ids one ≡ Some id → HasSettled terms found ids places id
  settled_first ids places one first o key ones lt lt' some is at same id there = λ values k have e.
      let item : get_or ids one 0 ≡ id = get_or_from_slice_get ids one id 0 there in
      let key_is : key ≡ k = some_same key k (sym some ∙ (is values have ∙ (ap (λ id. key_of values (term_of terms id)) item ∙ e))) in
      let P : Key → Type 0 = λ k. places k ≡ Some first in
      let is_one : IsOne terms id = subst (IsOne terms) item (one_at terms ids one 0 ones lt) in (
        first,
        subst P key_is at,
        have id is_one
            ∙ (ap (value_at found) (sym item) ∙ (same ∙ ap (option_and_then (value_at found)) (sym (slice_get-get_or ids first 0 lt')))),
      )

  pub pair_settled_none : (pairs : List PairNode) (places : PairKey → Option ℕ) (one : ℕ) (d : PairNode) (o : Option PairKey) → o ≡ None
      → ((values : GroundTerm → Option SVal) → HaveValues terms found values → o ≡ pair_key_of values (pair_at terms (get_or pairs one d)))
      → (pair : PairNode) → slice_get pairs one ≡ Some pair → HasPairSettled terms found places one pair
  pair_settled_none pairs places one d o none is pair at = λ values k have e.
      let item : get_or pairs one d ≡ pair = get_or_from_slice_get pairs one pair d at in
      absurd (none-some k (sym none ∙ (is values have ∙ (ap (λ p. pair_key_of values (pair_at terms p)) item ∙ e))))

  pub pair_settled_first : (pairs : List PairNode) (places : PairKey → Option ℕ) (one first : ℕ) (d : PairNode) (o : Option PairKey) (key : PairKey) → o ≡ Some key
      → ((values : GroundTerm → Option SVal) → HaveValues terms found values → o ≡ pair_key_of values (pair_at terms (get_or pairs one d))) → places key ≡ Some first
      → related_at found one ≡ related_at found first → (pair : PairNode) → slice_get pairs one ≡ Some pair → HasPairSettled terms found places one pair
  pair_settled_first pairs places one first d o key some is at same pair there = λ values k have e.
      let item : get_or pairs one d ≡ pair = get_or_from_slice_get pairs one pair d there in
      let key_is : key ≡ k = some_same key k (sym some ∙ (is values have ∙ (ap (λ p. pair_key_of values (pair_at terms p)) item ∙ e))) in
      let P : PairKey → Type 0 = λ k. places k ≡ Some first in
      (first, subst P key_is at, same)

-- what holds as long as a list is empty, which does not become so again
pub empty_more : {X Y : Type 0} (P Q : ℕ → X → Type 0) (xs : List X) (k : ℕ) (old new : List Y) → ((j : ℕ) (x : X) → P j x → Q j x) → (new ≡ [] → old ≡ [])
    → (new ≡ [] → (x : X) → slice_get xs k ≡ Some x → Q k x) → ((j : ℕ) (x : X) → j < k → slice_get xs j ≡ Some x → old ≡ [] → P j x)
    → (j : ℕ) (x : X) → j < k + 1 → slice_get xs j ≡ Some x → new ≡ [] → Q j x
empty_more P Q xs k old new still back here before j x less e none = so_more Q xs k (λ j x lt e. still j x (before j x lt e (back none))) (here none) j x less e
