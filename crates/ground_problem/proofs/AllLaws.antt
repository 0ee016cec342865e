-- All clauses of a table, from those of its parts.
use Rattle.std.proofs.Common.{◌≡◌, ℕ, ◌∙◌, sym, ap, subst, List, [], ◌∷◌, ◌++◌, map, Vec, Global}
use Rattle.std.specs.List.{flat_map}
use Rattle.form_formula.specs.declared.node.Node.{Node}
use Rattle.form_formula.specs.declared.structure.Signature.{Signature}
use Rattle.ground_terms.specs.declared.node.TermNode.{TermNode}
use Rattle.ground_terms.specs.Nodes.{term_of}
use Rattle.ground_terms.specs.Standing.{AreOnes, terms_at}
use Rattle.ground_terms.proofs.Standing.{map-append}
use Rattle.form_tables.specs.Clauses.{alike_clauses, base_clauses, congruence_clauses, element_clauses, for_pairs, function_clauses, pair_clauses, relation_clauses, sort_clauses, term_clauses, value_clauses}
use Rattle.form_tables.specs.Facts.{Clause}
use Rattle.ground_problem.specs.declared.words.PairNode.{PairNode}
use Rattle.ground_problem.specs.declared.words.Words.{Words}
use Rattle.ground_problem.specs.Words.{pair_at, vocabulary_at}
use Rattle.ground_problem.specs.declared.facts.FactLiteral.{FactLiteral}
use Rattle.ground_problem.specs.Facts.{AreAdded, clauses_at}
use Rattle.ground_problem.proofs.Adding.{added_as, added_both, added_to_none}

ones_append : (nodes : List TermNode) (xs ys : List ℕ) → AreOnes nodes xs → AreOnes nodes ys → AreOnes nodes (xs ++ ys)
ones_append nodes [] ys p q = q
ones_append nodes (x ∷ xs) ys p q = (p.0, ones_append nodes xs ys p.1 q)

pub told_ones : (nodes : List TermNode) (named others told : List ℕ) → told ≡ named ++ others → AreOnes nodes named → AreOnes nodes others → AreOnes nodes told
told_ones nodes named others told e p q = let P : List ℕ → Type 0 = λ ids. AreOnes nodes ids in subst P (sym e) (ones_append nodes named others p q)

module _ (g : Signature) (nodes : List Node) (terms : List TermNode) (w : Words) where
  told_terms : (ids : List ℕ) → ids ≡ w.named.items ++ w.others.items → terms_at terms ids ≡ terms_at terms w.named.items ++ terms_at terms w.others.items
  told_terms ids e = ap (terms_at terms) e ∙ map-append (term_of terms) w.named.items w.others.items

  -- four lists, one after another
  four : (a b c d e : List (List FactLiteral)) (xs ys zs us : List Clause) → a ≡ [] → AreAdded nodes terms a b xs → AreAdded nodes terms b c ys → AreAdded nodes terms c d zs → AreAdded nodes terms d e us
      → clauses_at nodes terms e ≡ xs ++ (ys ++ (zs ++ us))
  four a b c d e xs ys zs us none p q r s =
      let P : List (List FactLiteral) → Type 0 = λ a. AreAdded nodes terms a b xs in
      added_to_none nodes terms e (xs ++ (ys ++ (zs ++ us)))
      (added_both nodes terms [] b e xs (ys ++ (zs ++ us)) (subst P none p) (added_both nodes terms b c e ys (zs ++ us) q (added_both nodes terms c d e zs us r s)))

  pub base_are : (s1 s2 : List ℕ) (s3 : List PairNode) (start : List (Vec FactLiteral Global)) (b c d e : List (List FactLiteral)) → start ≡ [] → s1 ≡ w.named.items ++ w.others.items → s2 ≡ w.named.items ++ w.others.items → s3 ≡ w.pairs.items
      → AreAdded nodes terms (map (λ c. c.items) start) b (flat_map (term_clauses g) (terms_at terms s1)) → AreAdded nodes terms b c (flat_map (sort_clauses g) (terms_at terms s2))
      → AreAdded nodes terms c d (flat_map (pair_clauses g) (map (pair_at terms) s3)) → AreAdded nodes terms d e (flat_map (function_clauses g) g.funs) → clauses_at nodes terms e ≡ base_clauses g (vocabulary_at terms w)
  base_are s1 s2 s3 start b c d e none e1 e2 e3 p q r s =
      let told = terms_at terms w.named.items ++ terms_at terms w.others.items in
      four (map (λ c. c.items) start) b c d e (flat_map (term_clauses g) told) (flat_map (sort_clauses g) told) (flat_map (pair_clauses g) (map (pair_at terms) w.pairs.items)) (flat_map (function_clauses g) g.funs)
      (ap (map (λ (c : Vec FactLiteral Global). c.items)) none)
      (added_as nodes terms (map (λ c. c.items) start) b (flat_map (term_clauses g) (terms_at terms s1)) (flat_map (term_clauses g) told) (ap (flat_map (term_clauses g)) (told_terms s1 e1)) p)
      (added_as nodes terms b c (flat_map (sort_clauses g) (terms_at terms s2)) (flat_map (sort_clauses g) told) (ap (flat_map (sort_clauses g)) (told_terms s2 e2)) q)
      (added_as nodes terms c d (flat_map (pair_clauses g) (map (pair_at terms) s3)) (flat_map (pair_clauses g) (map (pair_at terms) w.pairs.items)) (ap (λ ps. flat_map (pair_clauses g) (map (pair_at terms) ps)) e3) r) s

  pub congruent : (s1 s2 s3 : List ℕ) (s4 : List PairNode) (start : List (Vec FactLiteral Global)) (b c d e : List (List FactLiteral)) → start ≡ [] → s1 ≡ w.named.items ++ w.others.items → s2 ≡ w.named.items → s3 ≡ w.others.items → s4 ≡ w.pairs.items
      → AreAdded nodes terms (map (λ c. c.items) start) b (for_pairs g (alike_clauses g) (terms_at terms s1)) → AreAdded nodes terms b c (for_pairs g (element_clauses g) (terms_at terms s2))
      → AreAdded nodes terms c d (for_pairs g (value_clauses g) (terms_at terms s3)) → AreAdded nodes terms d e (for_pairs g (relation_clauses g) (map (pair_at terms) s4)) → clauses_at nodes terms e ≡ congruence_clauses g (vocabulary_at terms w)
  congruent s1 s2 s3 s4 start b c d e none e1 e2 e3 e4 p q r s =
      let told = terms_at terms w.named.items ++ terms_at terms w.others.items in
      four (map (λ c. c.items) start) b c d e (for_pairs g (alike_clauses g) told) (for_pairs g (element_clauses g) (terms_at terms w.named.items)) (for_pairs g (value_clauses g) (terms_at terms w.others.items))
      (for_pairs g (relation_clauses g) (map (pair_at terms) w.pairs.items))
      (ap (map (λ (c : Vec FactLiteral Global). c.items)) none)
      (added_as nodes terms (map (λ c. c.items) start) b (for_pairs g (alike_clauses g) (terms_at terms s1)) (for_pairs g (alike_clauses g) told) (ap (for_pairs g (alike_clauses g)) (told_terms s1 e1)) p)
      (added_as nodes terms b c (for_pairs g (element_clauses g) (terms_at terms s2)) (for_pairs g (element_clauses g) (terms_at terms w.named.items)) (ap (λ ids. for_pairs g (element_clauses g) (terms_at terms ids)) e2) q)
      (added_as nodes terms c d (for_pairs g (value_clauses g) (terms_at terms s3)) (for_pairs g (value_clauses g) (terms_at terms w.others.items)) (ap (λ ids. for_pairs g (value_clauses g) (terms_at terms ids)) e3) r)
      (added_as nodes terms d e (for_pairs g (relation_clauses g) (map (pair_at terms) s4)) (for_pairs g (relation_clauses g) (map (pair_at terms) w.pairs.items)) (ap (λ ps. for_pairs g (relation_clauses g) (map (pair_at terms) ps)) e4) s)
