-- Words among others, and their clauses.
use Rattle.std.proofs.Common.{◌≡◌, ℕ, ◌∙◌, sym, List, [], ◌∷◌, ◌++◌, ap, subst, map, inl, inr, All, Contains}
use Rattle.std.specs.List.{flat_map}
use Rattle.std.proofs.lemmas.List.Elements.{All-nil, All-push, Contains-append_cases, Contains-append_left, Contains-append_right}
use Rattle.form_formula.specs.declared.node.Node.{Node}
use Rattle.form_formula.specs.declared.structure.Signature.{Signature}
use Rattle.form_terms.proofs.Lists.{Contains-head, Contains-tail, Contains-cons_cases, Contains-none, Contains-flat_map, flat_map-Contains}
use Rattle.form_terms.proofs.Listed.{in_map, to_map}
use Rattle.ground_terms.specs.Standing.{AreOnes}
use Rattle.ground_terms.proofs.Standing.{map-append}
use Rattle.ground_terms.specs.declared.node.TermNode.{TermNode}
use Rattle.ground_terms.specs.Nodes.{IsOne, term_of}
use Rattle.form_tables.specs.Clauses.{alike_clauses, congruence_clauses, element_clauses, for_pairs, relation_clauses, value_clauses}
use Rattle.form_tables.specs.Facts.{Clause}
use Rattle.form_tables.specs.Vocabulary.{told}
use Rattle.ground_problem.specs.declared.words.PairNode.{PairNode}
use Rattle.ground_problem.specs.declared.words.Words.{Words}
use Rattle.ground_problem.specs.Words.{ArePairs, IsWords, pair_at, vocabulary_at}
use Rattle.ground_problem.specs.Facts.{clause_at, clauses_at}
use Rattle.ground_problem.specs.declared.facts.FactLiteral.{FactLiteral}
use Rattle.decide_models.specs.declared.found.Found.{Found}
use Rattle.decide_reading.specs.Broken.{IsBroken}
use Rattle.decide_reading.specs.Congruent.{AreCongruences}
use Rattle.decide_reading.specs.Few.{AreBrokenOnes, IsPart}

module _ (terms : List TermNode) where
  pub one_in : (ids : List ℕ) → AreOnes terms ids → (id : ℕ) → Contains ids id → IsOne terms id
  one_in [] h id c = Contains-none id c
  one_in (x ∷ ids) h id c =
      let P : ℕ → Type 0 = λ id. IsOne terms id in
      elim (Contains-cons_cases x ids id c) [ inl e ↦ subst P e h.0 | inr later ↦ one_in ids h.1 id later ]

  ones_by : (ids : List ℕ) → ((id : ℕ) → Contains ids id → IsOne terms id) → AreOnes terms ids
  ones_by [] h = tt
  ones_by (x ∷ ids) h = (h x (Contains-head x ids), ones_by ids (λ id c. h id (Contains-tail x ids id c)))

  pub pair_in : (ps : List PairNode) → ArePairs terms ps → (p : PairNode) → Contains ps p → IsOne terms p.holder × IsOne terms p.member
  pair_in [] h p c = Contains-none p c
  pair_in (q ∷ ps) h p c =
      let P : PairNode → Type 0 = λ p. IsOne terms p.holder × IsOne terms p.member in
      elim (Contains-cons_cases q ps p c) [ inl e ↦ subst P e h.0 | inr later ↦ pair_in ps h.1 p later ]

  pairs_by : (ps : List PairNode) → ((p : PairNode) → Contains ps p → IsOne terms p.holder × IsOne terms p.member) → ArePairs terms ps
  pairs_by [] h = tt
  pairs_by (p ∷ ps) h = (h p (Contains-head p ps), pairs_by ps (λ q c. h q (Contains-tail p ps q c)))

  pub words_part : (whole part : Words) → IsWords terms whole → IsPart whole part → IsWords terms part
  words_part whole part h is = record {
    named = ones_by part.named.items (λ id c. one_in whole.named.items h.named id (is.named id c));
    others = ones_by part.others.items (λ id c. one_in whole.others.items h.others id (is.others id c));
    pairs = pairs_by part.pairs.items (λ p c. pair_in whole.pairs.items h.pairs p (is.pairs p c));
  }

mapped_more : {A B : Type 0} (h : A → B) (xs ys : List A) → ((x : A) → Contains xs x → Contains ys x) → (y : B) → Contains (map h xs) y → Contains (map h ys) y
mapped_more {A} {B} h xs ys more y c =
    let (x, own, same) = in_map h xs y c in
    let P : B → Type 0 = λ y. Contains (map h ys) y in subst P same (to_map h ys x (more x own))

append_more : {A : Type 0} (xs ys us vs : List A) → ((x : A) → Contains xs x → Contains us x) → ((x : A) → Contains ys x → Contains vs x) → (x : A) → Contains (xs ++ ys) x → Contains (us ++ vs) x
append_more xs ys us vs p q x c =
    elim (Contains-append_cases xs ys x c) [ inl here ↦ Contains-append_left us vs x (p x here) | inr later ↦ Contains-append_right us vs x (q x later) ]

module _ (g : Signature) where
  pairs_more : {A : Type 0} (clauses : A → A → List Clause) (xs ys : List A) → ((x : A) → Contains xs x → Contains ys x) → (c : Clause)
      → Contains (for_pairs g clauses xs) c → Contains (for_pairs g clauses ys) c
  pairs_more clauses xs ys more c h =
      let (x, here, inner) = Contains-flat_map (λ x. flat_map (clauses x) xs) xs c h in
      let (y, there, own) = Contains-flat_map (clauses x) xs c inner in
      flat_map-Contains (λ x. flat_map (clauses x) ys) ys x c (more x here) (flat_map-Contains (clauses x) ys y c (more y there) own)

  -- the clauses of congruence of words are among those of the whole
  pub congruences_part : (terms : List TermNode) (whole part : Words) → IsPart whole part → (c : Clause) → Contains (congruence_clauses g (vocabulary_at terms part)) c
      → Contains (congruence_clauses g (vocabulary_at terms whole)) c
  congruences_part terms whole part is =
      let v = vocabulary_at terms part in
      let u = vocabulary_at terms whole in
      let named = mapped_more (term_of terms) part.named.items whole.named.items is.named in
      let others = mapped_more (term_of terms) part.others.items whole.others.items is.others in
      let pairs = mapped_more (pair_at terms) part.pairs.items whole.pairs.items is.pairs in
      append_more (for_pairs g (alike_clauses g) (told v)) _ (for_pairs g (alike_clauses g) (told u)) _
      (pairs_more (alike_clauses g) (told v) (told u) (append_more v.named v.others u.named u.others named others))
      (append_more (for_pairs g (element_clauses g) v.named) _ (for_pairs g (element_clauses g) u.named) _ (pairs_more (element_clauses g) v.named u.named named)
      (append_more (for_pairs g (value_clauses g) v.others) _ (for_pairs g (value_clauses g) u.others) _ (pairs_more (value_clauses g) v.others u.others others)
      (pairs_more (relation_clauses g) v.pairs u.pairs pairs)))

  -- and so is each of them
  pub one_congruence : {V : Type 0} (items : V → List FactLiteral) (nodes : List Node) (terms : List TermNode) (whole part : Words) (more : List V) (v : V) (clause : List FactLiteral)
      → Contains more v → items v ≡ clause → IsPart whole part → clauses_at nodes terms (map items more) ≡ congruence_clauses g (vocabulary_at terms part) → AreCongruences g nodes terms whole (clause ∷ [])
  one_congruence items nodes terms whole part more v clause listed same is own c there =
      let P : Clause → Type 0 = λ c. Contains (congruence_clauses g (vocabulary_at terms whole)) c in
      let Q : List FactLiteral → Type 0 = λ clause. Contains (clauses_at nodes terms (map items more)) (clause_at nodes terms clause) in
      let here : Contains (clauses_at nodes terms (map items more)) (clause_at nodes terms clause) =
      subst Q same (to_map (clause_at nodes terms) (map items more) (items v) (to_map items more v listed)) in
      let inside : P (clause_at nodes terms clause) = congruences_part terms whole part is (clause_at nodes terms clause) (subst (λ cs. Contains cs (clause_at nodes terms clause)) own here) in
      elim (Contains-cons_cases (clause_at nodes terms clause) [] c there) [ inl e ↦ subst P e inside | inr never ↦ Contains-none c never ]

  -- and can be put at the end of others, where what was found breaks it
  pub broken_after : {V : Type 0} (items : V → List FactLiteral) (nodes : List Node) (terms : List TermNode) (whole : Words) (found : Found) (old new : List V) (v : V) (clause : List FactLiteral)
      → new ≡ old ++ v ∷ [] → items v ≡ clause → AreCongruences g nodes terms whole (clause ∷ []) → IsBroken terms found whole.pairs.items clause
      → AreBrokenOnes g nodes terms whole found (map items old) → AreBrokenOnes g nodes terms whole found (map items new)
  broken_after items nodes terms whole found old new v clause e same one broken h =
      let before = map items old in
      let split : map items new ≡ before ++ clause ∷ [] = ap (map items) e ∙ (map-append items old (v ∷ []) ∙ ap (λ c. before ++ c ∷ []) same) in
      let parts : clauses_at nodes terms (map items new) ≡ clauses_at nodes terms before ++ clauses_at nodes terms (clause ∷ []) =
      ap (clauses_at nodes terms) split ∙ map-append (clause_at nodes terms) before (clause ∷ []) in
      record {
        congruences = λ c there.
            elim (Contains-append_cases (clauses_at nodes terms before) (clauses_at nodes terms (clause ∷ [])) c (subst (λ cs. Contains cs c) parts there)) [
              | inl earlier ↦ h.congruences c earlier
              | inr last ↦ one c last
            ];
        broken = subst (λ (cs : List (List FactLiteral)). All (IsBroken terms found whole.pairs.items) cs) (sym split)
            (All-push (IsBroken terms found whole.pairs.items) before clause h.broken broken);
      }

  pub none_broken : {V : Type 0} (items : V → List FactLiteral) (nodes : List Node) (terms : List TermNode) (whole : Words) (found : Found) (cs : List V) → cs ≡ []
      → AreBrokenOnes g nodes terms whole found (map items cs)
  none_broken items nodes terms whole found cs e = record {
    congruences = λ c there. Contains-none c (subst (λ cs. Contains (clauses_at nodes terms (map items cs)) c) e there);
    broken = subst (λ cs. All (IsBroken terms found whole.pairs.items) (map items cs)) (sym e) (All-nil (IsBroken terms found whole.pairs.items));
  }

one_more : {A : Type 0} (whole old : List A) (x : A) → Contains whole x → ((y : A) → Contains old y → Contains whole y) → (y : A) → Contains (old ++ x ∷ []) y → Contains whole y
one_more {A} whole old x here before y c =
    let P : A → Type 0 = λ y. Contains whole y in
    elim (Contains-append_cases old (x ∷ []) y c) [
      | inl there ↦ before y there
      | inr last ↦ elim (Contains-cons_cases x [] y last) [ inl e ↦ subst P e here | inr never ↦ Contains-none y never ]
    ]

-- one more word
pub part_named : (whole old new : Words) (id : ℕ) → Contains whole.named.items id → new.named.items ≡ old.named.items ++ id ∷ [] → new.others ≡ old.others → new.pairs ≡ old.pairs
    → IsPart whole old → IsPart whole new
part_named whole old new id here e o p is = record {
  named = λ y c. one_more whole.named.items old.named.items id here is.named y (subst (λ ys. Contains ys y) e c);
  others = λ y c. is.others y (subst (λ v. Contains v.items y) o c);
  pairs = λ y c. is.pairs y (subst (λ v. Contains v.items y) p c);
}

pub part_others : (whole old new : Words) (id : ℕ) → Contains whole.others.items id → new.named ≡ old.named → new.others.items ≡ old.others.items ++ id ∷ [] → new.pairs ≡ old.pairs
    → IsPart whole old → IsPart whole new
part_others whole old new id here n e p is = record {
  named = λ y c. is.named y (subst (λ v. Contains v.items y) n c);
  others = λ y c. one_more whole.others.items old.others.items id here is.others y (subst (λ ys. Contains ys y) e c);
  pairs = λ y c. is.pairs y (subst (λ v. Contains v.items y) p c);
}

pub part_pairs : (whole old new : Words) (q : PairNode) → Contains whole.pairs.items q → new.named ≡ old.named → new.others ≡ old.others → new.pairs.items ≡ old.pairs.items ++ q ∷ []
    → IsPart whole old → IsPart whole new
part_pairs whole old new q here n o e is = record {
  named = λ y c. is.named y (subst (λ v. Contains v.items y) n c);
  others = λ y c. is.others y (subst (λ v. Contains v.items y) o c);
  pairs = λ y c. one_more whole.pairs.items old.pairs.items q here is.pairs y (subst (λ ys. Contains ys y) e c);
}
