-- Vocabularies, by numbers of ground terms.
use Rattle.std.specs.Prelude.{List, [], ◌∷◌, map}
use Rattle.ground_terms.specs.declared.node.TermNode.{TermNode}
use Rattle.ground_terms.specs.Nodes.{IsOne, term_of}
use Rattle.ground_terms.specs.Standing.{AreOnes, terms_at}
use Rattle.form_tables.specs.Vocabulary.{Pair, Vocabulary}
use Rattle.ground_problem.specs.declared.words.PairNode.{PairNode}
use Rattle.ground_problem.specs.declared.words.Words.{Words}

module _ (nodes : List TermNode) where
  -- a set relation at the terms of two numbers
  abbrev pub pair_at : PairNode → Pair
  pair_at p = record { relation = p.relation; holder = term_of nodes p.holder; member = term_of nodes p.member }

  -- the vocabulary of these terms and pairs
  abbrev pub vocabulary_at : Words → Vocabulary
  vocabulary_at w = record { named = terms_at nodes w.named.items; others = terms_at nodes w.others.items; pairs = map pair_at w.pairs.items }

  abbrev pub ArePairs : List PairNode → Type 0
  ArePairs [] = Unit {0}
  ArePairs (p ∷ ps) = (IsOne nodes p.holder × IsOne nodes p.member) × ArePairs ps

  -- the numbers are those of terms
  pub record IsWords (w : Words) : Type 0 where
    pub named : AreOnes nodes w.named.items
    pub others : AreOnes nodes w.others.items
    pub pairs : ArePairs w.pairs.items
