-- How far a certificate was checked.
use Rattle.std.specs.Prelude.{◌≡◌, ℕ, ◌+◌, ◌≤◌, List, [], ◌∷◌, length, take}
use Rattle.type_schema.specs.Script.{Script}
use Rattle.form_formula.specs.NormalForm.{normal_form}
use Rattle.form_formula.specs.declared.structure.Signature.{Signature}
use Rattle.duty_meaning.specs.Duties.{formula_of, obligations_of}
use Rattle.duty_meaning.specs.declared.duty.Duty.{Duty}
use Rattle.certify_clauses.specs.Problem.{Problem}
use Rattle.certify_problem.specs.Grounded.{IsCyclic, IsProblemFor, IsTooLargeBy}
use Rattle.certify_recheck.specs.Due.{part}
use Rattle.certify_recheck.specs.Spots.{IsBadLine, Passes}
use Rattle.certify_recheck.specs.declared.spot.Spot.{Spot}
use Rattle.certify_scripts.specs.Certificates.{AreProblemsOf, front_of, start}
use Rattle.certify_scripts.specs.Rechecked.{IsBadPart, IsRecheckedOver}
use Rattle.certify_scripts.specs.declared.rechecked.Rechecked.TheVariants as rechecked
use Rattle.certify_scripts.specs.declared.parts.Part.{Part}
use Rattle.certify_scripts.specs.declared.parts.Part.TheVariants.{Passed, Bad, Cyclic, TooLarge}

-- the spot is in the text, and no more lines than bytes are in front of it
pub record IsWithin (text : List ℕ) (to : Spot) : Type 0 where
  pub at : to.at ≤ length text
  pub line : to.line ≤ to.at + 1

-- the part of an obligation of this number stands between the spots, over its clauses; or this line is bad for it
abbrev pub IsPartOver : List ℕ → Problem → ℕ → Spot → Part → Type 0
IsPartOver text c number from (Passed to) = Passes text from (part c number ∷ []) to × IsWithin text to
IsPartOver text c number from (Bad line) = IsBadLine text from (part c number ∷ []) line
IsPartOver text c number from (Cyclic duty cycle) = ⊥
IsPartOver text c number from (TooLarge duty terms nodes) = ⊥

module _ (t : Script) (g : Signature) (text : List ℕ) where
  -- and over the clauses of the obligation's formula
  pub record IsOver (duty : Duty) (number : ℕ) (from : Spot) (found : Part) : Type 0 where
    pub problem : Problem
    pub is : IsProblemFor g (formula_of t duty) (normal_form (formula_of t duty)) problem
    pub over : IsPartOver text problem number from found

  -- what a part comes to
  abbrev pub IsPartOf : Duty → ℕ → Spot → Part → Type 0
  IsPartOf duty number from (Passed to) = IsOver duty number from (Passed to)
  IsPartOf duty number from (Bad line) = IsOver duty number from (Bad line)
  IsPartOf duty number from (Cyclic of_duty cycle) = (of_duty ≡ duty) × IsCyclic g (formula_of t duty) (normal_form (formula_of t duty)) cycle
  IsPartOf duty number from (TooLarge of_duty terms nodes) = (of_duty ≡ duty) × IsTooLargeBy g (formula_of t duty) (normal_form (formula_of t duty)) terms nodes

  -- the text begins with a first line and the parts of so many obligations, up to the spot
  pub record HasParts (count : ℕ) (to : Spot) : Type 0 where
    pub problems : List Problem
    pub are : AreProblemsOf t g (take count (obligations_of t)) problems
    pub passes : Passes text start (front_of problems) to
    pub within : IsWithin text to

  -- what the parts of all obligations come to
  abbrev pub ArePartsOf : Part → Type 0
  ArePartsOf (Passed to) = HasParts (length (obligations_of t)) to
  ArePartsOf (Bad line) = IsBadPart t g text line
  ArePartsOf (Cyclic duty cycle) = IsRecheckedOver t g text (rechecked.Cyclic duty cycle)
  ArePartsOf (TooLarge duty terms nodes) = IsRecheckedOver t g text (rechecked.TooLarge duty terms nodes)
