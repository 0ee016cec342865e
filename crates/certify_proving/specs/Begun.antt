-- How far a certificate was written.
use Rattle.std.specs.Prelude.{◌≡◌, ℕ, List, All, length, take}
use Rattle.type_schema.specs.Script.{Script}
use Rattle.form_formula.specs.declared.structure.Signature.{Signature}
use Rattle.duty_meaning.specs.Duties.{obligations_of}
use Rattle.certify_clauses.specs.Problem.{Problem}
use Rattle.certify_making.specs.Texts.{IsSmall, text_of}
use Rattle.certify_recheck.specs.Due.{AreDue, Due}
use Rattle.certify_recheck.specs.declared.line.Line.{Line}
use Rattle.certify_scripts.specs.Certificates.{AreProblemsOf, front_of, parts_from}

-- the text is that of lines that are just what is due
pub record IsTextOf (ds : List Due) (text : List ℕ) : Type 0 where
  pub lines : List Line
  pub small : All IsSmall lines
  pub due : AreDue ds lines (length lines)
  pub is : text ≡ text_of lines

module _ (t : Script) (g : Signature) (count : ℕ) (text : List ℕ) where
  -- the text is the parts of the first so many obligations, each its line and those of a lawful tree over its clauses
  pub record AreParts : Type 0 where
    pub problems : List Problem
    pub are : AreProblemsOf t g (take count (obligations_of t)) problems
    pub of : IsTextOf (parts_from 1 problems) text

  -- and in front of them stands a first line
  pub record IsBegun : Type 0 where
    pub problems : List Problem
    pub are : AreProblemsOf t g (take count (obligations_of t)) problems
    pub of : IsTextOf (front_of problems) text
