-- What the check of a certificate finds.
use Rattle.std.specs.Prelude.{◌≡◌, ◌⊎◌, ℕ, ◌<◌, List, [], ◌∷◌, ◌++◌, Some, length, slice_get, take}
use Rattle.type_schema.specs.Script.{Script}
use Rattle.form_formula.specs.NormalForm.{normal_form}
use Rattle.form_formula.specs.declared.structure.Signature.{Signature}
use Rattle.duty_meaning.specs.Duties.{formula_of, obligations_of}
use Rattle.duty_meaning.specs.Over.{IsSignatureOf}
use Rattle.duty_meaning.specs.declared.duty.Duty.{Duty}
use Rattle.certify_clauses.specs.Problem.{Problem}
use Rattle.certify_problem.specs.Grounded.{IsCyclic, IsTooLargeBy}
use Rattle.certify_recheck.specs.Due.{ending}
use Rattle.certify_recheck.specs.Spots.{IsBadLine, Passes}
use Rattle.certify_recheck.specs.declared.spot.Spot.{Spot}
use Rattle.certify_scripts.specs.Certificates.{AreProblemsOf, IsCertificate, front_of, start}
use Rattle.certify_scripts.specs.declared.rechecked.Rechecked.{Rechecked}
use Rattle.certify_scripts.specs.declared.rechecked.Rechecked.TheVariants.{Certified, BadLine, Cyclic, TooLarge}

module _ (t : Script) (g : Signature) (text : List ℕ) where
  -- the line is the first that is not the next one of a first line and the parts of so many obligations
  pub record IsBadPart (line : ℕ) : Type 0 where
    pub count : ℕ
    pub problems : List Problem
    pub are : AreProblemsOf t g (take count (obligations_of t)) problems
    pub bad : IsBadLine text start (front_of problems) line

  -- the line is the first that is not the next one of a first line, the parts of all obligations and a last line
  pub record IsBadEnd (line : ℕ) : Type 0 where
    pub problems : List Problem
    pub are : AreProblemsOf t g (obligations_of t) problems
    pub bad : IsBadLine text start (front_of problems ++ ending ∷ []) line

  -- the line is the one behind the last line, and bytes stand there
  pub record IsBehindEnd (line : ℕ) : Type 0 where
    pub problems : List Problem
    pub are : AreProblemsOf t g (obligations_of t) problems
    pub to : Spot
    pub passes : Passes text start (front_of problems ++ ending ∷ []) to
    pub more : to.at < length text
    pub is : line ≡ to.line

  -- the obligation is one of the script, and the text begins with a first line and the parts of those before it
  pub record IsReached (duty : Duty) : Type 0 where
    pub place : ℕ
    pub at : slice_get (obligations_of t) place ≡ Some duty
    pub problems : List Problem
    pub are : AreProblemsOf t g (take place (obligations_of t)) problems
    pub to : Spot
    pub passes : Passes text start (front_of problems) to

  abbrev pub IsRecheckedOver : Rechecked → Type 0
  IsRecheckedOver (Certified n) = (n ≡ length (obligations_of t)) × IsCertificate t g text
  IsRecheckedOver (BadLine line) = IsBadPart line ⊎ (IsBadEnd line ⊎ IsBehindEnd line)
  IsRecheckedOver (Cyclic duty cycle) = IsReached duty × IsCyclic g (formula_of t duty) (normal_form (formula_of t duty)) cycle
  IsRecheckedOver (TooLarge duty terms nodes) = IsReached duty × IsTooLargeBy g (formula_of t duty) (normal_form (formula_of t duty)) terms nodes

-- what is found, over the signature of the schema of the script's start databases
pub record IsRechecked (t : Script) (text : List ℕ) (found : Rechecked) : Type 0 where
  pub signature : Signature
  pub signature_of : IsSignatureOf t.start signature
  pub over : IsRecheckedOver t signature text found
