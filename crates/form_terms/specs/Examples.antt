-- Formulas whose terms and nodes were counted by hand.
use Rattle.std.specs.Prelude.{ℕ, zero, suc, ◌+◌, List, [], ◌∷◌, refl, false}
use Rattle.form_formula.specs.declared.structure.Range.TheVariants as range
use Rattle.form_formula.specs.declared.structure.FunSig.{FunSig}
use Rattle.form_formula.specs.declared.structure.Signature.{Signature}
use Rattle.form_formula.specs.Trees.{Formula, bound, app, yes, no, equal, has, negation, both, either, exists, forall}
use Rattle.form_terms.specs.GroundTerms.{GroundTerm, constant, skolem, no_terms, term_and}

-- two sorts, and a set relation from the second to the first
abbrev pub two_sorts : Signature
two_sorts = record { sorts = 2; funs = []; sets = record { from = 1; to = 0 } ∷ []; fits = refl }

-- some x of the first, each x has some y of the second, and there is no y
abbrev pub nothing_left : Formula
nothing_left = both (exists 0 yes) (both (forall 0 (exists 1 (has 0 (bound 1 1) (bound 0 0)))) (forall 1 no))

-- its terms: the constants, x, and y at each term of the first sort
abbrev pub nothing_left_terms : List GroundTerm
nothing_left_terms =
    constant 0 ∷ constant 1 ∷ skolem 0 0 no_terms ∷ skolem 2 1 (term_and (constant 0) no_terms)
    ∷ skolem 2 1 (term_and (skolem 0 0 no_terms) no_terms) ∷ []

-- three sorts, with so many total functions from the first to the second, and as many from there to the third
abbrev pub rows_of : FunSig → ℕ → List FunSig → List FunSig
rows_of sig zero rest = rest
rows_of sig (suc n) rest = sig ∷ rows_of sig n rest

abbrev pub first_to_second : FunSig
first_to_second = record { from = 0; to = range.Rec 1; partial = false }

abbrev pub second_to_third : FunSig
second_to_third = record { from = 1; to = range.Rec 2; partial = false }

-- q is none of the elements that two functions in a row give at a
abbrev pub differs_at : ℕ → ℕ → Formula
differs_at k i = negation (equal (bound 2 1) (app (k + i) (app i (bound 0 2))))

abbrev pub differs_from_all : ℕ → ℕ → Formula
differs_from_all k zero = differs_at k 0
differs_from_all k (suc i) = both (differs_from_all k i) (differs_at k (suc i))

-- a principal q of the third sort that no element a of the first leads to
abbrev pub unreached : ℕ → Formula
unreached k = exists 2 (exists 2 (both yes (forall 0 (either no (differs_from_all (suc k) k)))))

abbrev pub twenty : Signature
twenty = record { sorts = 3; funs = rows_of first_to_second 20 (rows_of second_to_third 20 []); sets = []; fits = refl }

abbrev pub nineteen : Signature
nineteen = record { sorts = 3; funs = rows_of first_to_second 19 (rows_of second_to_third 19 []); sets = []; fits = refl }

abbrev pub eighteen : Signature
eighteen = record { sorts = 3; funs = rows_of first_to_second 18 (rows_of second_to_third 18 []); sets = []; fits = refl }
