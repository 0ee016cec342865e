-- Certificates of scripts.
use Rattle.std.specs.Prelude.{◌≡◌, ℕ, ◌+◌, List, [], ◌∷◌, ◌++◌, length}
use Rattle.type_schema.specs.Script.{Script}
use Rattle.form_formula.specs.NormalForm.{normal_form}
use Rattle.form_formula.specs.declared.structure.Signature.{Signature}
use Rattle.duty_meaning.specs.Duties.{formula_of, obligations_of}
use Rattle.duty_meaning.specs.declared.duty.Duty.{Duty}
use Rattle.certify_clauses.specs.Problem.{Problem}
use Rattle.certify_problem.specs.Grounded.{IsProblemFor}
use Rattle.certify_recheck.specs.Due.{Due, ending, heading, part}
use Rattle.certify_recheck.specs.Spots.{Passes}
use Rattle.certify_recheck.specs.declared.spot.Spot.{Spot}

-- the parts of obligations over these clauses, numbered from one on; and the first line and the parts
abbrev pub parts_from : ℕ → List Problem → List Due
parts_from n [] = []
parts_from n (c ∷ cs) = part c n ∷ parts_from (n + 1) cs

abbrev pub front_of : List Problem → List Due
front_of cs = heading ∷ parts_from 1 cs

-- the spot of a text's first line
abbrev pub start : Spot
start = record { at = 0; line = 1 }

module _ (t : Script) (g : Signature) where
  -- the clauses are those of the formulas of obligations, one by one
  abbrev pub AreProblemsOf : List Duty → List Problem → Type 0
  AreProblemsOf [] [] = Unit {0}
  AreProblemsOf [] (c ∷ cs) = ⊥
  AreProblemsOf (d ∷ ds) [] = ⊥
  AreProblemsOf (d ∷ ds) (c ∷ cs) = IsProblemFor g (formula_of t d) (normal_form (formula_of t d)) c × AreProblemsOf ds cs

  -- the text is a first line, a lawful part for each obligation over its clauses, and a last line, and no byte stands behind
  pub record IsCertificate (text : List ℕ) : Type 0 where
    pub problems : List Problem
    pub are : AreProblemsOf (obligations_of t) problems
    pub to : Spot
    pub passes : Passes text start (front_of problems ++ ending ∷ []) to
    pub whole : to.at ≡ length text
