-- Inputs that have variables, and those that are parts of disjunctions.
use Rattle.std.proofs.Common.{◌≡◌, ℕ, ◌+◌, ◌<◌, ◌≤◌, Bool, true, false, not, ◌||◌, inl, inr, refl, sym, ◌∙◌, List, [], ◌∷◌, ◌++◌, Some, length, length-append, map, ap, subst, arith, slice_get, slice_index_or, Contains}
use Rattle.std.proofs.lemmas.List.Elements.{Contains-append_right}
use Rattle.form_formula.proofs.Placement.{slice_get_last, slice_get_pushed}
use Rattle.form_terms.proofs.Listed.{to_map, in_map}
use Rattle.form_terms.proofs.Lists.{Contains-cons_cases, Contains-none, list_all-Contains}
use Rattle.form_terms.proofs.Kept.{list_all-from}
use Rattle.ground_gates.specs.declared.gate.Gate.{Gate as AnyGate}
use Rattle.ground_gates.specs.declared.gate.Literal.{Literal}
use Rattle.ground_gates.specs.Clauses.{HaveVarsBelow, Meets, meets_clause}
use Rattle.ground_gates.specs.declared.board.Board.{Board}
use Rattle.ground_gates.specs.declared.names.Owner.{Owner}
use Rattle.ground_gates.specs.declared.names.Owner.TheVariants.{Input}
use Rattle.ground_gates.specs.Literals.{is_true, is_false}
use Rattle.ground_gates.specs.Meaning.{IsFaithful, input_truth}
use Rattle.ground_gates.specs.Names.{IsInputAdded, IsOwnerBelow, IsNamed, end_of}
use Rattle.ground_gates.specs.Said.{AreInputsPlaced, clauses_in, Goes, HasInput}
use Rattle.ground_gates.proofs.Going.{goes_same, meets_more}
use Rattle.ground_gates.proofs.VarsBelow.{clauses_each, clauses_more, facts_at, facts_later, named_below, vars_one}

module _ (gates : List AnyGate) (inputs : List (List ℕ)) (j k x : ℕ) (old new : Board) where
  abbrev facts : List ℕ
  facts = slice_index_or inputs k []

  abbrev clause : ℕ → List Literal
  clause y = is_false x ∷ is_true y ∷ []

  follows : (a b : Bool) → (not a || (b || false)) ≡ true → a ≡ true → b ≡ true
  follows true true e h = refl
  follows true false e h = cc
  follows false b e h = cc

  following : (a b : Bool) → (a ≡ true → b ≡ true) → (not a || (b || false)) ≡ true
  following true b h = ap (λ c. c || false) (h refl)
  following false b h = refl

  module _ (added : IsInputAdded k old.names new.names x) (more : clauses_in new ≡ clauses_in old ++ map clause facts) (inputs_in : AreInputsPlaced inputs old) where
    here : slice_get new.names.owners (length old.names.owners) ≡ Some (Input k)
    here = ap (λ os. slice_get os (length old.names.owners)) added.whole ∙ slice_get_last old.names.owners (Input k)

    variable : x ≡ new.names.base + length old.names.owners
    variable = added.is ∙ ap (λ b. b + length old.names.owners) (sym added.base)

    said : (w : ℕ → Bool) → Meets (clauses_in new) w → w x ≡ true → input_truth gates inputs w k ≡ true
    said w met on =
        list_all-from w facts
        (λ y c.
        let P : List (List Literal) → Type 0 = λ cs. Contains cs (clause y) in
        follows (w x) (w y) (met (clause y) (subst P (sym more) (Contains-append_right (clauses_in old) (map clause facts) (clause y) (to_map clause facts y c)))) on)

    met : (w : ℕ → Bool) → IsFaithful gates inputs w new.names → Meets (map clause facts) w
    met w faithful c c-in =
        let (y, y-in, is) = in_map clause facts c c-in in
        let P : List Literal → Type 0 = λ c. meets_clause w c ≡ true in
        subst P is (following (w x) (w y) (λ on. list_all-Contains w facts y (sym (ap w variable ∙ faithful (length old.names.owners) (Input k) here) ∙ on) y-in))

    rises : end_of old.names ≤ end_of new.names
    rises = omega (arith, added.base, ap length added.whole, length-append old.names.owners (Input k ∷ []))

    within : HaveVarsBelow (end_of old.names) (clauses_in old) → HaveVarsBelow (end_of new.names) (clauses_in new)
    within before =
        let end = end_of new.names in
        let here-below : x < end = named_below new.names (Input k) x (length old.names.owners, variable, here) in
        clauses_more (clauses_in old) (map clause facts) (clauses_in new) (end_of old.names) end more rises
        (clauses_each end (is_false x ∷ []) facts (vars_one end (is_false x) here-below) (facts_later (end_of old.names) end facts rises (facts_at inputs old k inputs_in))) before

    own_goes : (asked : (ℕ → Bool) → Bool) → Goes gates inputs j old new asked asked
    own_goes asked = record {
      names = record {
        base = added.base;
        places = added.places;
        input_places = added.input_places;
        more = Input k ∷ [];
        whole = added.whole;
        below = λ o c. elim (Contains-cons_cases (Input k) [] o c) [
          | inl same ↦ let P : Owner → Type 0 = λ o. IsOwnerBelow j o in subst P same tt
          | inr none ↦ Contains-none o none
        ];
      };
      more = map clause facts;
      whole = more;
      within = within;
      inputs_too = λ w met own n i at on.
          elim (slice_get_pushed old.names.owners (Input k) n (Input i) (ap (λ os. slice_get os n) (sym added.whole) ∙ at)) [
            | inl before ↦ own n i before (ap (λ b. w (b + n)) (sym added.base) ∙ on)
            | inr (place, is) ↦
                let same : k ≡ i = cc in
                let P : ℕ → Type 0 = λ i. input_truth gates inputs w i ≡ true in
                subst P same (said w met (ap w (variable ∙ ap (λ m. new.names.base + m) (sym place)) ∙ on))
          ];
      sound = λ w met below own on. on;
      complete = λ w faithful on met-old.
          let P : List (List Literal) → Type 0 = λ cs. Meets cs w in
          (subst P (sym more) (meets_more (clauses_in old) (map clause facts) w met-old (met w faithful)), on);
    }

    pub has_input : HasInput gates inputs j k old new x
    has_input = record { goes = own_goes; is = (length old.names.owners, variable, here) }

pub had_input : (gates : List AnyGate) (inputs : List (List ℕ)) (j k x : ℕ) (board : Board) → IsNamed board.names (Input k) x → HasInput gates inputs j k board board x
had_input gates inputs j k x board is = record { goes = λ asked. goes_same gates inputs j board board asked refl refl; is = is }
