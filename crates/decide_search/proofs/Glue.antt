-- What the search finds, as a table.
use Rattle.std.proofs.Common.{Vec, Global, All, IfSome, Option, ◌≢◌, inl, inr, ◌≡◌, ℕ, zero, suc, Bool, true, false, refl, sym, ◌∙◌, List, [], ◌∷◌, ◌++◌, Some, map, ap, subst, Contains, slice_get}
use Rattle.std.specs.Prelude.{unwrap_or}
use Rattle.std.proofs.lemmas.List.Elements.{Contains-append_cases, Contains-append_left, Contains-append_right}
use Rattle.std.proofs.lemmas.Option.{slice_get-get_or}
use Rattle.text_ast.specs.Words.{IsText}
use Rattle.form_formula.specs.NormalForm.{IsNormal}
use Rattle.form_formula.specs.Nodes.{ArePlaced as AreNodesPlaced}
use Rattle.form_formula.specs.Over.{IsOver}
use Rattle.form_formula.specs.Trees.{Formula}
use Rattle.form_formula.specs.declared.node.Node.{Node}
use Rattle.form_formula.specs.declared.structure.Signature.{Signature}
use Rattle.ground_gates.specs.Clauses.{meets_clause}
use Rattle.ground_gates.specs.declared.gate.Literal.{Literal}
use Rattle.form_terms.specs.GroundTerms.{GroundTerm}
use Rattle.form_terms.specs.Passing.{IsSatisfiableOver}
use Rattle.ground_terms.specs.Nodes.{ArePlaced, AreOnce}
use Rattle.form_tables.specs.Clauses.{base_clauses, congruence_clauses}
use Rattle.form_tables.specs.Facts.{Assignment, Clause, Fact, is_fact, is_met, table_for}
use Rattle.form_tables.proofs.Assignments.{consistent_from}
use Rattle.form_tables.proofs.ClausesMet.{each_met, met_append, met_each}
use Rattle.form_terms.proofs.Kept.{All-Contains, list_all-from}
use Rattle.form_terms.proofs.Listed.{in_map}
use Rattle.form_terms.proofs.Lists.{list_all-Contains}
use Rattle.decide_reading.proofs.BrokenLaws.{broken_unmet}
use Rattle.decide_reading.proofs.CongruentMet.{congruence_met}
use Rattle.ground_problem.specs.GroundClauses.{AreGroundClauses, HaveFacts}
use Rattle.ground_problem.proofs.Grounded.{grounded, met_tables, met_read}
use Rattle.ground_problem.proofs.Tied.{clause_value}
use Rattle.ground_problem.specs.Spoken.{IsSpoken}
use Rattle.ground_problem.specs.Words.{IsWords, vocabulary_at}
use Rattle.ground_problem.specs.declared.spoken.Spoken.{Spoken}
use Rattle.ground_problem.specs.declared.words.PairNode.{PairNode}
use Rattle.ground_problem.specs.declared.words.Words.{Words}
use Rattle.ground_problem.specs.Facts.{fact_at, clause_at, clauses_at}
use Rattle.ground_problem.specs.declared.facts.FactLiteral.{FactLiteral}
use Rattle.ground_problem.specs.declared.facts.FactNode.{FactNode}
use Rattle.ground_problem.specs.declared.ground.GroundClauses.{GroundClauses}
use Rattle.decide_models.specs.declared.found.Found.{Found}
use Rattle.decide_search.specs.Ranged.{AreRanged}
use Rattle.decide_search.proofs.RangedLaws.{typed_all}
use Rattle.decide_search.specs.declared.mixture.Mixture.{Mixture}
use Rattle.decide_reading.specs.Columns.{AreFound, AreTyped, IsTypedAt, IsSo, assignment_by}
use Rattle.decide_reading.specs.declared.columns.Columns.{Columns}
use Rattle.ground_terms.specs.declared.node.TermNode.{TermNode}
use Rattle.decide_reading.proofs.ByColumns.{so_same, typed_same, found_same}
use Rattle.decide_reading.specs.Broken.{IsBroken}
use Rattle.decide_reading.specs.Congruent.{AreCongruences}
use Rattle.decide_search.specs.Problem.{AreSolved, IsNowhere}
use Rattle.decide_search.specs.Tabled.{AreBrokenBy, AreListed, AreNewCongruences, HaveBase, HasColumns, HasTable, IsFoundCongruent, IsGroundFor, IsTabled}
use Rattle.decide_search.specs.declared.tabled.Tabled.{Tabled}
use Rattle.decide_search.proofs.Encoded.{map-append}
use Rattle.decide_search.specs.Texts.{AreTexts}

mapped : {X Y : Type 0} (f : X → Y) (xs : List X) (k : ℕ) (x : X) → slice_get xs k ≡ Some x → slice_get (map f xs) k ≡ Some (f x)
mapped f [] k x e = cc
mapped f (y ∷ xs) zero x e = let same : y ≡ x = cc in ap (λ x. Some (f x)) same
mapped f (y ∷ xs) (suc k) x e = mapped f xs k x e

unmapped : {X Y : Type 0} (f : X → Y) (xs : List X) (k : ℕ) (y : Y) → slice_get (map f xs) k ≡ Some y → (x : X) × (slice_get xs k ≡ Some x) × (f x ≡ y)
unmapped f [] k y e = cc
unmapped f (x ∷ xs) zero y e = (x, refl, (let same : f x ≡ y = cc in same))
unmapped f (x ∷ xs) (suc k) y e = unmapped f xs k y e

-- all texts of a list are texts
texts_are : (texts : List (List ℕ)) → AreTexts texts → (w : List ℕ) → Contains texts w → IsText w
texts_are texts h w (k, lt, same) = h k w (slice_get-get_or texts k w lt ∙ ap (λ t. Some t) same)

typed_both : (g : Signature) (terms : List TermNode) (c : Columns) (xs ys : List ℕ) → AreTyped g terms c xs → AreTyped g terms c ys → AreTyped g terms c (xs ++ ys)
typed_both g terms c [] ys h k = k
typed_both g terms c (x ∷ xs) ys h k = by (typed_both g terms c xs ys (λ j id e. h (suc j) id e) k)
  where
    by : AreTyped g terms c (xs ++ ys) → (i id : ℕ) → slice_get (x ∷ xs ++ ys) i ≡ Some id → IsTypedAt g terms c id
    by rest zero id e = h 0 id e
    by rest (suc i) id e = rest i id e

module _ (g : Signature) (nodes : List Node) (s : Spoken) (ground : GroundClauses) (gr : IsGroundFor g nodes s ground) (m : Mixture)
    (found : Found) (formed : AreNodesPlaced nodes) (placed : ArePlaced s.made.terms) (once : AreOnce s.made.terms) (words : IsWords s.made.terms s.words) where
  -- the variables of facts have the values of the assignment of columns
  pub facts_have : (has : HasColumns g nodes s.made.terms s.words ground.facts.items m.values.items found)
      → HaveFacts (map (fact_at nodes s.made.terms) ground.facts.items) (assignment_by s.made.terms s.words.pairs.items has.columns) (λ x. unwrap_or (slice_get m.values.items x) false)
  facts_have has k q e =
      let terms = s.made.terms in
      let values : ℕ → Bool = λ x. unwrap_or (slice_get m.values.items x) false in
      let (p, there, same) = unmapped (fact_at nodes terms) ground.facts.items k q e in
      so_same terms placed once nodes formed s.words.pairs.items words.pairs has.columns p (values k) (has.so k p there)
      ∙ ap (is_fact (assignment_by terms s.words.pairs.items has.columns)) same

-- where values meet the clauses, those of congruence that what was found breaks were not listed
module _ (g : Signature) (nodes : List Node) (s : Spoken) (ground : GroundClauses) (gr : IsGroundFor g nodes s ground) (m : Mixture)
    (formed : AreNodesPlaced nodes) (placed : ArePlaced s.made.terms) (once : AreOnce s.made.terms) (words : IsWords s.made.terms s.words) where
  broken_new : (more : List (List FactLiteral)) → AreSolved (map (λ c. c.items) ground.clauses.items ++ map (λ c. c.items) ground.gates.items) m
      → AreBrokenBy g nodes s.made.terms s.words ground.facts.items m.values.items more → AreNewCongruences g nodes s.made.terms s.words gr.cs more
  broken_new more solved h = record {
    congruences = h.congruences;
    new = λ c there listed.
        let terms = s.made.terms in
        let pairs = s.words.pairs.items in
        let has = h.has in
        let a : Assignment = assignment_by terms pairs has.columns in
        let facts = map (fact_at nodes terms) ground.facts.items in
        let all = map (λ c. c.items) ground.clauses.items ++ map (λ c. c.items) ground.gates.items in
        let values : ℕ → Bool = λ x. unwrap_or (slice_get m.values.items x) false in
        let have = facts_have g nodes s ground gr m h.found formed placed once words has in
        let (clause, own, inside) = gr.clauses.tables c listed in
        let met : is_met a c ≡ true = sym (clause_value facts a values have clause c own) ∙ list_all-Contains (meets_clause values) all clause solved.meet inside in
        let is_found = found_same terms placed once nodes formed pairs words.pairs has.columns g h.found has.is_found in
        let (x, here, same) = in_map (clause_at nodes terms) more c there in
        let unmet = broken_unmet g nodes terms pairs h.found a is_found
        (λ sort so e. ap (λ xs. unwrap_or (slice_get xs sort) false) (sym has.is_found.empty) ∙ ap (λ o. unwrap_or o false) e) x
        (All-Contains (IsBroken terms h.found pairs) more x h.broken here) in
        let unmet_too : is_met a c ≡ false = sym (ap (is_met a) same) ∙ unmet in cc;
    some = h.some;
  }

  -- and so where the lists are these
  pub broken_as : (fs : List FactNode) (cs : List (List Literal)) (more : List (List FactLiteral)) → fs ≡ ground.facts.items
      → cs ≡ map (λ c. c.items) ground.clauses.items ++ map (λ c. c.items) ground.gates.items → AreSolved cs m
      → AreBrokenBy g nodes s.made.terms s.words fs m.values.items more → AreNewCongruences g nodes s.made.terms s.words gr.cs more
  broken_as fs cs more e k solved h =
      broken_new more (subst (λ (cs : List (List Literal)). AreSolved cs m) k solved)
      (subst (λ (fs : List FactNode). AreBrokenBy g nodes s.made.terms s.words fs m.values.items more) e h)

module _ (g : Signature) (nodes : List Node) (f : Formula) (ts : List GroundTerm) (closed : Bool) (s : Spoken) (ground : GroundClauses) (over : IsOver g [] f) (normal : IsNormal f)
    (is : IsSpoken g nodes f ts closed s) (gr : IsGroundFor g nodes s ground) where
  abbrev all : List (List Literal)
  all = map (λ c. c.items) ground.clauses.items ++ map (λ c. c.items) ground.gates.items

  abbrev facts : List Fact
  facts = map (fact_at nodes s.made.terms) ground.facts.items

  -- where no values are, no structure passes the formula
  pub nowhere : (texts : List (List ℕ)) → AreTexts texts → IsNowhere g nodes s.made.terms s.words texts ground.facts.items all → IsSatisfiableOver g f (Contains ts) → ⊥
  nowhere texts are none sat =
      let v = vocabulary_at s.made.terms s.words in
      let (spare, m, values, law, have, meet) =
      grounded g f ts v gr.cs texts nodes s.made facts ground.end all over normal is.vocabulary (texts_are texts are) is.instances gr.clauses gr.listed.only sat in
      none spare m values law (λ k p e. have k (fact_at nodes s.made.terms p) (mapped (fact_at nodes s.made.terms) ground.facts.items k p e)) meet

  -- and where there are values and columns, and what was found is congruent, there is a table
  pub found_table : (m : Mixture) (found : Found) → AreNodesPlaced nodes → ArePlaced s.made.terms → AreOnce s.made.terms → AreSolved all m
      → HasColumns g nodes s.made.terms s.words ground.facts.items m.values.items found → IsFoundCongruent s.made.terms s.words found → HasTable g f ts s found
  found_table m found formed placed once solved has fits =
      let terms = s.made.terms in
      let pairs = s.words.pairs.items in
      let v = vocabulary_at terms s.words in
      let a : Assignment = assignment_by terms pairs has.columns in
      let values : ℕ → Bool = λ x. unwrap_or (slice_get m.values.items x) false in
      let have = facts_have g nodes s ground gr m found formed placed once is.words has in
      let met = met_tables g f ts gr.cs nodes s.made facts ground.end all over is.instances gr.clauses a values have solved.meet in
      let read = met_read g f ts gr.cs nodes s.made facts ground.end all over is.instances gr.clauses a values have solved.meet in
      let typed = typed_same terms placed once nodes formed pairs is.words.pairs has.columns g s.words (typed_both g terms has.columns s.words.named.items s.words.others.items has.named_typed has.others_typed) in
      let is_found = found_same terms placed once nodes formed pairs is.words.pairs has.columns g found has.is_found in
      let base = list_all-from (is_met a) (base_clauses g v) (λ c here. list_all-Contains (is_met a) gr.cs c met (gr.listed.base c here)) in
      let whole = each_met a (base_clauses g v ++ congruence_clauses g v)
      (met_append a (base_clauses g v) (congruence_clauses g v) (met_each a (base_clauses g v) base) (congruence_met g f ts v a is.vocabulary typed (fits g (table_for a) is_found))) in
      record {
        table = table_for a;
        is_found = is_found;
        consistent = consistent_from g f ts v a is.vocabulary typed whole;
        reads = read;
      }

  -- and so where the lists are these
  pub nowhere_as : (texts : List (List ℕ)) → AreTexts texts → (fs : List FactNode) (cs : List (List Literal)) → fs ≡ ground.facts.items → cs ≡ all
      → IsNowhere g nodes s.made.terms s.words texts fs cs → IsSatisfiableOver g f (Contains ts) → ⊥
  nowhere_as texts are fs cs e k none =
      nowhere texts are
      (subst (λ (fs : List FactNode). IsNowhere g nodes s.made.terms s.words texts fs all) e
      (subst (λ (cs : List (List Literal)). IsNowhere g nodes s.made.terms s.words texts fs cs) k none))

  pub found_as : (m : Mixture) (found : Found) → AreNodesPlaced nodes → ArePlaced s.made.terms → AreOnce s.made.terms → (fs : List FactNode) (cs : List (List Literal)) → fs ≡ ground.facts.items → cs ≡ all
      → AreSolved cs m → HasColumns g nodes s.made.terms s.words fs m.values.items found → IsFoundCongruent s.made.terms s.words found → HasTable g f ts s found
  found_as m found formed placed once fs cs e k solved has fits =
      found_table m found formed placed once (subst (λ (cs : List (List Literal)). AreSolved cs m) k solved)
      (subst (λ (fs : List FactNode). HasColumns g nodes s.made.terms s.words fs m.values.items found) e has) fits

-- clauses that are broken by what was found by columns
pub broken_by : (g : Signature) (nodes : List Node) (terms : List TermNode) (w : Words) (facts : List FactNode) (values : List Bool) (found : Found)
    (o : Option (Vec (Vec FactLiteral Global) Global)) (clauses : Vec (Vec FactLiteral Global) Global) → o ≡ Some clauses → HasColumns g nodes terms w facts values found
    → IfSome o (λ cs. AreCongruences g nodes terms w (map (λ c. c.items) cs.items)) → IfSome o (λ cs. All (IsBroken terms found w.pairs.items) (map (λ c. c.items) cs.items))
    → IfSome o (λ cs. cs.items ≢ []) → AreBrokenBy g nodes terms w facts values (map (λ c. c.items) clauses.items)
broken_by g nodes terms w facts values found o clauses e has congruences broken some =
    let P : Option (Vec (Vec FactLiteral Global) Global) → Type 0 = λ o. IfSome o (λ cs. AreCongruences g nodes terms w (map (λ c. c.items) cs.items)) in
    let Q : Option (Vec (Vec FactLiteral Global) Global) → Type 0 = λ o. IfSome o (λ cs. All (IsBroken terms found w.pairs.items) (map (λ c. c.items) cs.items)) in
    let R : Option (Vec (Vec FactLiteral Global) Global) → Type 0 = λ o. IfSome o (λ cs. cs.items ≢ []) in
    record {
      found = found;
      has = has;
      congruences = subst P e congruences;
      broken = subst Q e broken;
      some = λ none. subst R e some (none_from clauses.items none);
    }
  where
    none_from : (cs : List (Vec FactLiteral Global)) → map (λ c. c.items) cs ≡ [] → cs ≡ []
    none_from [] e = refl
    none_from (c ∷ cs) e = cc

-- the columns of what was found, where the lists are these
pub columns_as : (g : Signature) (nodes : List Node) (terms : List TermNode) (w : Words) (facts : List FactNode) (values : List Bool) (found : Found) (c : Columns)
    (pairs : List PairNode) (vs : List Bool) → pairs ≡ w.pairs.items → vs ≡ values → IsWords terms w
    → ((k : ℕ) (p : FactNode) → slice_get facts k ≡ Some p → IsSo nodes terms pairs c p (unwrap_or (slice_get vs k) false)) → AreRanged g terms c
    → AreFound terms pairs c found → HasColumns g nodes terms w facts values found
columns_as g nodes terms w facts values found c pairs vs p q words so ranged is = record {
  columns = c;
  so = λ k fact e.
      subst (λ (ps : List PairNode). IsSo nodes terms ps c fact (unwrap_or (slice_get values k) false)) p
      (subst (λ (vs : List Bool). IsSo nodes terms pairs c fact (unwrap_or (slice_get vs k) false)) q (so k fact e));
  named_typed = typed_all g terms c w.named.items ranged words.named;
  others_typed = typed_all g terms c w.others.items ranged words.others;
  is_found = subst (λ (ps : List PairNode). AreFound terms ps c found) p is;
}

tabled_same : (t : Tabled) (x : List TermNode) (y : Words) (z : Found) → t.terms ≡ x → t.words ≡ y → t.found ≡ z → record { terms = x; words = y; found = z } ≡ t
tabled_same t x y z p q r =
    let P : List TermNode → Tabled = λ u. record { terms = u; words = y; found = z } in
    let Q : Words → Tabled = λ u. record { terms = t.terms; words = u; found = z } in
    let R : Found → Tabled = λ u. record { terms = t.terms; words = t.words; found = u } in
    ap P (sym p) ∙ (ap Q (sym q) ∙ ap R (sym r))

-- what was found, with what it is read by
pub tabled_by : (g : Signature) (nodes : List Node) (f : Formula) (ts : List GroundTerm) (closed : Bool) (s : Spoken) (found : Found) (t : Tabled) → IsSpoken g nodes f ts closed s → HasTable g f ts s found
    → t.terms ≡ s.made.terms → t.words ≡ s.words → t.found ≡ found → IsTabled g f ts closed t
tabled_by g nodes f ts closed s found t is has p q r =
    subst (λ (t : Tabled). IsTabled g f ts closed t) (tabled_same t s.made.terms s.words found p q r)
    (record {
      numbers = is.words;
      words = is.vocabulary;
      within = is.within;
      table = has.table;
      found = has.is_found;
      consistent = has.consistent;
      reads = has.reads;
    })

-- the clauses say that the formula holds, and what the clauses on facts say
pub ground_for : (g : Signature) (nodes : List Node) (s : Spoken) (ground : GroundClauses) (cs : List Clause)
    → AreGroundClauses (map (fact_at nodes s.made.terms) ground.facts.items) s.made nodes cs ground.end (map (λ c. c.items) ground.clauses.items ++ map (λ c. c.items) ground.gates.items)
    → HaveBase g (vocabulary_at s.made.terms s.words) cs → IsGroundFor g nodes s ground
ground_for g nodes s ground cs h is = record { cs = cs; listed = is; clauses = h }

-- all clauses are listed where each is
pub all_listed : (g : Signature) (nodes : List Node) (terms : List TermNode) (w : Words) (clauses : List (List FactLiteral))
    → clauses_at nodes terms clauses ≡ base_clauses g (vocabulary_at terms w) ++ congruence_clauses g (vocabulary_at terms w) → AreListed g nodes terms w clauses
all_listed g nodes terms w clauses e =
    let v = vocabulary_at terms w in
    record {
      base = λ c here. subst (λ cs. Contains cs c) (sym e) (Contains-append_left (base_clauses g v) (congruence_clauses g v) c here);
      only = λ c here. subst (λ cs. Contains cs c) e here;
    }

-- and so are the base alone
pub base_listed : (g : Signature) (nodes : List Node) (terms : List TermNode) (w : Words) (clauses : List (List FactLiteral))
    → clauses_at nodes terms clauses ≡ base_clauses g (vocabulary_at terms w) → AreListed g nodes terms w clauses
base_listed g nodes terms w clauses e =
    let v = vocabulary_at terms w in
    record {
      base = λ c here. subst (λ cs. Contains cs c) (sym e) here;
      only = λ c here. Contains-append_left (base_clauses g v) (congruence_clauses g v) c (subst (λ cs. Contains cs c) e here);
    }

-- and with more of congruence
pub more_listed : (g : Signature) (nodes : List Node) (terms : List TermNode) (w : Words) (old more new : List (List FactLiteral)) → new ≡ old ++ more
    → AreCongruences g nodes terms w more → AreListed g nodes terms w old → AreListed g nodes terms w new
more_listed g nodes terms w old more new e fits is =
    let v = vocabulary_at terms w in
    let split : clauses_at nodes terms new ≡ clauses_at nodes terms old ++ clauses_at nodes terms more = ap (clauses_at nodes terms) e ∙ map-append (clause_at nodes terms) old more in
    record {
      base = λ c here. subst (λ cs. Contains cs c) (sym split) (Contains-append_left (clauses_at nodes terms old) (clauses_at nodes terms more) c (is.base c here));
      only = λ c here.
          elim (Contains-append_cases (clauses_at nodes terms old) (clauses_at nodes terms more) c (subst (λ cs. Contains cs c) split here)) [
            | inl before ↦ is.only c before
            | inr later ↦ Contains-append_right (base_clauses g v) (congruence_clauses g v) c (fits c later)
          ];
    }
