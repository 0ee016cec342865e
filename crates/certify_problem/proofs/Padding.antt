-- What facts say, in memory: as many things as facts, and behind them nothing.
use Rattle.std.proofs.Common.{◌≡◌, ◌∙◌, ℕ, zero, suc, List, [], ◌∷◌, true, Option, None, ap, length, refl, replicate, subst, sym}
use Rattle.std.specs.List.{list_all}
use Rattle.std.proofs.lemmas.Bool.{and_from}
use Rattle.std.proofs.lemmas.List.Folds.{list_all-append}
use Rattle.form_formula.specs.declared.node.Node.{Node}
use Rattle.form_formula.specs.declared.structure.Signature.{Signature}
use Rattle.ground_terms.specs.declared.node.TermNode.{TermNode}
use Rattle.ground_problem.specs.declared.facts.FactNode.{FactNode}
use Rattle.ground_problem.specs.declared.words.Words.{Words}
use Rattle.certify_clauses.specs.Listed.{AreTaken, is_taken}
use Rattle.certify_atoms.specs.Atoms.{AreAtomsOf, Both}
use Rattle.certify_problem.specs.Listing.{IsPadded}

module _ (g : Signature) (nodes : List Node) (terms : List TermNode) (w : Words) (texts : List (List ℕ)) where
  pub atoms_long : (ps : List FactNode) (ls : List (Option Both)) → AreAtomsOf g nodes terms w texts ps ls → length ls ≡ length ps
  atoms_long [] [] h = refl
  atoms_long [] (a ∷ ls) h = absurd h
  atoms_long (p ∷ ps) [] h = absurd h
  atoms_long (p ∷ ps) (a ∷ ls) h = ap suc (atoms_long ps ls h.1)

-- what says nothing is taken
none_taken : (terms numbers gap : ℕ) → list_all (is_taken terms numbers) (replicate gap None) ≡ true
none_taken terms numbers zero = refl
none_taken terms numbers (suc gap) = none_taken terms numbers gap

pub padded_taken : (terms numbers count : ℕ) (old new : List (Option Both)) → IsPadded count old new → AreTaken terms numbers old → AreTaken terms numbers new
padded_taken terms numbers count old new pad h =
    subst (AreTaken terms numbers) (sym pad.whole)
    (list_all-append (is_taken terms numbers) old (replicate pad.gap None) ∙ and_from _ _ h (none_taken terms numbers pad.gap))
