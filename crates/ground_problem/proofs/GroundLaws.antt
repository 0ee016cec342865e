-- Facts as the first variables, inputs as those of their facts, and all clauses together.
use Rattle.std.proofs.Common.{◌≡◌, ℕ, zero, suc, ◌<◌, inl, inr, ◌∙◌, sym, refl, ap, subst, List, [], ◌∷◌, ◌++◌, Some, All, length, map, Contains, Vec, Global}
use Rattle.std.specs.Prelude.{slice_get, slice_index_or}
use Rattle.std.proofs.lemmas.Option.{slice_get_within}
use Rattle.std.proofs.lemmas.List.Elements.{All-cons, All-nil, Contains-append_cases, Contains-append_left, Contains-append_right}
use Rattle.form_terms.proofs.Lists.{Contains-none, Contains-head, Contains-tail, Contains-cons_cases}
use Rattle.form_formula.specs.declared.node.Node.{Node}
use Rattle.ground_gates.specs.declared.gate.Gate.{Gate}
use Rattle.ground_gates.specs.declared.gate.Literal.{Literal}
use Rattle.ground_gates.specs.Clauses.{HaveInputsBelow, IsEncoding}
use Rattle.ground_terms.specs.declared.node.TermNode.{TermNode}
use Rattle.form_tables.specs.Facts.{Clause, Fact}
use Rattle.ground_instances.specs.declared.input.Input.{Input}
use Rattle.ground_instances.specs.declared.instantiation.Instances.{Instances}
use Rattle.ground_problem.specs.GroundClauses.{AreGroundClauses, AreTied, AreVariables, IsClauseFor}
use Rattle.ground_problem.specs.declared.facts.FactNode.{FactNode}
use Rattle.ground_problem.specs.declared.facts.FactLiteral.{FactLiteral}
use Rattle.ground_problem.specs.declared.numbering.Numbering.{Numbering}
use Rattle.ground_problem.specs.Facts.{clause_at, clauses_at, fact_at}
use Rattle.ground_problem.specs.Ground.{AreVariablesOf}
use Rattle.ground_problem.specs.Numbers.{AreLiterals, AreNumbers, KeepsFacts, Zips}
use Rattle.ground_problem.proofs.NumberLaws.{literals_kept, numbers_kept, zips_as}

pub variables_kept : (nodes : List Node) (terms : List TermNode) (old new : Numbering) → KeepsFacts old new → (xs : List ℕ) (input : Input) → AreVariablesOf nodes terms old.facts.keys xs input
    → AreVariablesOf nodes terms new.facts.keys xs input
variables_kept nodes terms old new kept xs input h = record { parts = h.parts; stand = h.stand; numbers = numbers_kept old new kept xs h.parts h.numbers }

zips_mapped : {A B D E : Type 0} (R : D → E → Type 0) (f : A → D) (h : B → E) (xs : List A) (ys : List B) → Zips (λ x y. R (f x) (h y)) xs ys → Zips R (map f xs) (map h ys)
zips_mapped R f h [] [] z = tt
zips_mapped R f h [] (y ∷ ys) z = absurd z
zips_mapped R f h (x ∷ xs) [] z = absurd z
zips_mapped R f h (x ∷ xs) (y ∷ ys) z = (z.0, zips_mapped R f h xs ys z.1)

zips_long : {A B : Type 0} (R : A → B → Type 0) (xs : List A) (ys : List B) → Zips R xs ys → length xs ≡ length ys
zips_long R [] [] z = refl
zips_long R [] (y ∷ ys) z = absurd z
zips_long R (x ∷ xs) [] z = absurd z
zips_long R (x ∷ xs) (y ∷ ys) z = ap suc (zips_long R xs ys z.1)

zips_at : {A B D : Type 0} (R : D → B → Type 0) (f : A → D) (d : D) (xs : List A) (ys : List B) → Zips (λ x y. R (f x) y) xs ys → (k : ℕ) (y : B) → slice_get ys k ≡ Some y → R (slice_index_or (map f xs) k d) y
zips_at R f d [] [] z k y e = cc
zips_at R f d [] (y' ∷ ys) z k y e = absurd z
zips_at R f d (x ∷ xs) [] z k y e = absurd z
zips_at {B = B} R f d (x ∷ xs) (y' ∷ ys) z zero y e = let same : y' ≡ y = cc in let P : B → Type 0 = λ y. R (f x) y in subst P same z.0
zips_at R f d (x ∷ xs) (y' ∷ ys) z (suc k) y e = zips_at R f d xs ys z.1 k y e

pub length-map : {A B : Type 0} (f : A → B) (xs : List A) → length (map f xs) ≡ length xs
length-map f [] = refl
length-map f (x ∷ xs) = ap suc (length-map f xs)

-- what was numbered is so among the facts
module _ (nodes : List Node) (terms : List TermNode) (keys : List FactNode) where
  abbrev facts : List Fact
  facts = map (fact_at nodes terms) keys

  mapped : (ks : List FactNode) (k : ℕ) (p : FactNode) → slice_get ks k ≡ Some p → slice_get (map (fact_at nodes terms) ks) k ≡ Some (fact_at nodes terms p)
  mapped [] k p e = cc
  mapped (q ∷ ks) zero p e = let same : q ≡ p = cc in ap (λ p. Some (fact_at nodes terms p)) same
  mapped (q ∷ ks) (suc k) p e = mapped ks k p e

  are_variables : (xs : List ℕ) (ps : List FactNode) → AreNumbers keys xs ps → AreVariables facts xs (map (fact_at nodes terms) ps)
  are_variables [] [] h = tt
  are_variables [] (p ∷ ps) h = absurd h
  are_variables (x ∷ xs) [] h = absurd h
  are_variables (x ∷ xs) (p ∷ ps) h = (mapped keys x p h.0, are_variables xs ps h.1)

  is_clause : (ls : List Literal) (ps : List FactLiteral) → AreLiterals keys ls ps → IsClauseFor facts ls (clause_at nodes terms ps)
  is_clause [] [] h = tt
  is_clause [] (p ∷ ps) h = absurd h
  is_clause (l ∷ ls) [] h = absurd h
  is_clause (l ∷ ls) (p ∷ ps) h = (mapped keys l.var p.fact h.0.0, h.0.1, is_clause ls ps h.1)

  -- each clause of two lists that stand for each other
  to_numbered : (cs : List (List Literal)) (ps : List (List FactLiteral)) → Zips (AreLiterals keys) cs ps → (c : Clause) → Contains (clauses_at nodes terms ps) c
      → (clause : List Literal) × IsClauseFor facts clause c × Contains cs clause
  to_numbered [] [] h c here = Contains-none c here
  to_numbered [] (p ∷ ps) h c here = absurd h
  to_numbered (x ∷ cs) [] h c here = absurd h
  to_numbered (x ∷ cs) (p ∷ ps) h c here =
      elim (Contains-cons_cases (clause_at nodes terms p) (clauses_at nodes terms ps) c here) [
        | inl e ↦ let P : Clause → Type 0 = λ c. IsClauseFor facts x c in (x, subst P e (is_clause x p h.0), Contains-head x cs)
        | inr rest ↦ let (clause, is, listed) = to_numbered cs ps h.1 c rest in (clause, is, Contains-tail x cs clause listed)
      ]

  from_numbered : (cs : List (List Literal)) (ps : List (List FactLiteral)) → Zips (AreLiterals keys) cs ps → (clause : List Literal) → Contains cs clause
      → (c : Clause) × Contains (clauses_at nodes terms ps) c × IsClauseFor facts clause c
  from_numbered [] [] h clause here = Contains-none clause here
  from_numbered [] (p ∷ ps) h clause here = absurd h
  from_numbered (x ∷ cs) [] h clause here = absurd h
  from_numbered (x ∷ cs) (p ∷ ps) h clause here =
      elim (Contains-cons_cases x cs clause here) [
        | inl e ↦
            let P : List Literal → Type 0 = λ x. IsClauseFor facts x (clause_at nodes terms p) in
            (clause_at nodes terms p, Contains-head (clause_at nodes terms p) (clauses_at nodes terms ps), subst P e (is_clause x p h.0))
        | inr rest ↦ let (c, listed, is) = from_numbered cs ps h.1 clause rest in (c, Contains-tail (clause_at nodes terms p) (clauses_at nodes terms ps) c listed, is)
      ]

-- the variables of inputs are places of facts
module _ (nodes : List Node) (terms : List TermNode) (keys : List FactNode) where
  numbers_below : (xs : List ℕ) (ps : List FactNode) → AreNumbers keys xs ps → All (λ x. x < length keys) xs
  numbers_below [] [] h = All-nil (λ x. x < length keys)
  numbers_below [] (p ∷ ps) h = absurd h
  numbers_below (x ∷ xs) [] h = absurd h
  numbers_below (x ∷ xs) (p ∷ ps) h = All-cons (λ x. x < length keys) x xs (slice_get_within keys x p h.0) (numbers_below xs ps h.1)

  all_below : (all : List (Vec ℕ Global)) (inputs : List Input) → Zips (λ xs i. AreVariablesOf nodes terms keys xs.items i) all inputs → All (λ xs. All (λ x. x < length keys) xs.items) all
  all_below [] [] h = All-nil (λ xs. All (λ x. x < length keys) xs.items)
  all_below [] (i ∷ is) h = absurd h
  all_below (xs ∷ all) [] h = absurd h
  all_below (xs ∷ all) (i ∷ is) h = All-cons (λ xs. All (λ x. x < length keys) xs.items) xs all (numbers_below xs.items h.0.parts h.0.numbers) (all_below all is h.1)

  pub variables_below : (all here : List (Vec ℕ Global)) (inputs : List Input) (base : ℕ) → here ≡ all → base ≡ length keys → Zips (λ xs i. AreVariablesOf nodes terms keys xs.items i) all inputs
      → All (λ xs. All (λ x. x < base) xs.items) here
  variables_below all here inputs base e d h =
      let P : List (Vec ℕ Global) → Type 0 = λ all. All (λ xs. All (λ x. x < base) xs.items) all in
      let Q : ℕ → Type 0 = λ n. All (λ xs. All (λ x. x < n) xs.items) all in
      subst P (sym e) (subst Q (sym d) (all_below all inputs h))

  pub inputs_below : (all here : List (Vec ℕ Global)) (inputs own : List Input) (gates : List Gate) → here ≡ all → inputs ≡ own → Zips (λ xs i. AreVariablesOf nodes terms keys xs.items i) all inputs
      → HaveInputsBelow (length own) gates → HaveInputsBelow (length here) gates
  inputs_below all here inputs own gates e d h below =
      let P : ℕ → Type 0 = λ n. HaveInputsBelow n gates in
      subst P (sym (ap length e ∙ (zips_long (λ xs i. AreVariablesOf nodes terms keys xs.items i) all inputs h ∙ ap length d))) below

module _ (made : Instances) (nodes : List Node) (keys : List FactNode) (inputs : List (Vec ℕ Global)) (are : Zips (λ xs i. AreVariablesOf nodes made.terms keys xs.items i) inputs made.inputs) where
  abbrev all_facts : List Fact
  all_facts = map (fact_at nodes made.terms) keys

  tied : AreTied all_facts made nodes (map (λ xs. xs.items) inputs)
  tied = record {
    one_each = length-map (λ xs. xs.items) inputs ∙ zips_long (λ xs i. AreVariablesOf nodes made.terms keys xs.items i) inputs made.inputs are;
    each = λ k i at.
        let own = zips_at (AreVariablesOf nodes made.terms keys) (λ xs. xs.items) [] inputs made.inputs are k i at in
        (map (fact_at nodes made.terms) own.parts, own.stand, are_variables nodes made.terms keys _ own.parts own.numbers);
  }

  -- all clauses: those on facts, and those of gates
  pub ground : (end : ℕ) (tables gates : List (List Literal)) (ps : List (List FactLiteral)) → Zips (AreLiterals keys) tables ps
      → IsEncoding (length keys) end (map (λ xs. xs.items) inputs) made.gates made.root gates → AreGroundClauses all_facts made nodes (clauses_at nodes made.terms ps) end (tables ++ gates)
  ground end tables gates ps numbered encoding = record {
    inputs = map (λ xs. xs.items) inputs;
    tied = tied;
    gates = gates;
    encoding = let P : ℕ → Type 0 = λ n. IsEncoding n end (map (λ xs. xs.items) inputs) made.gates made.root gates in subst P (sym (length-map (fact_at nodes made.terms) keys)) encoding;
    listed = λ clause here. Contains-append_right tables gates clause here;
    tables = λ c here.
        let (clause, is, listed) = to_numbered nodes made.terms keys tables ps numbered c here in
        (clause, is, Contains-append_left tables gates clause listed);
    only = λ clause here.
        elim (Contains-append_cases tables gates clause here) [
          | inl table ↦ inr (from_numbered nodes made.terms keys tables ps numbered clause table)
          | inr gate ↦ inl gate
        ];
  }

-- the same of what the code has
pub all_ground : (made : Instances) (nodes : List Node) (start mid : Numbering) (facts : List (Vec FactLiteral Global)) (tables : List (Vec Literal Global)) (all : List Input) (inputs inputs' : List (Vec ℕ Global))
    (keys : List FactNode) (base end : ℕ) (gates : List (List Literal)) → KeepsFacts start mid → Zips (λ c p. AreLiterals start.facts.keys c.items p.items) tables facts
    → all ≡ made.inputs → Zips (λ xs i. AreVariablesOf nodes made.terms mid.facts.keys xs.items i) inputs all → keys ≡ mid.facts.keys → base ≡ length mid.facts.keys → inputs' ≡ inputs
    → IsEncoding base end (map (λ xs. xs.items) inputs') made.gates made.root gates
    → AreGroundClauses (map (fact_at nodes made.terms) keys) made nodes (clauses_at nodes made.terms (map (λ c. c.items) facts)) end (map (λ c. c.items) tables ++ gates)
all_ground made nodes start mid facts tables all inputs inputs' keys base end gates kept numbered same are here count same' encoding =
    let now = mid.facts.keys in
    let later : Zips (λ c p. AreLiterals now c.items p.items) tables facts =
    zips_as (λ c p. AreLiterals start.facts.keys c.items p.items) (λ c p. AreLiterals now c.items p.items) (λ c p h. literals_kept start mid kept c.items p.items h) tables facts numbered in
    let listed : Zips (AreLiterals now) (map (λ c. c.items) tables) (map (λ c. c.items) facts) = zips_mapped (AreLiterals now) (λ c. c.items) (λ c. c.items) tables facts later in
    let P : List Input → Type 0 = λ all. Zips (λ xs i. AreVariablesOf nodes made.terms now xs.items i) inputs all in
    let Q : ℕ → Type 0 = λ n. IsEncoding n end (map (λ xs. xs.items) inputs) made.gates made.root gates in
    let Q' : List (Vec ℕ Global) → Type 0 = λ inputs. IsEncoding base end (map (λ xs. xs.items) inputs) made.gates made.root gates in
    let R : List FactNode → Type 0 = λ keys. AreGroundClauses (map (fact_at nodes made.terms) keys) made nodes (clauses_at nodes made.terms (map (λ c. c.items) facts)) end (map (λ c. c.items) tables ++ gates) in
    subst R (sym here) (ground made nodes now inputs (subst P same are) end (map (λ c. c.items) tables) gates (map (λ c. c.items) facts) listed (subst Q count (subst Q' same' encoding)))
