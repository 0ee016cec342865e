-- What was written of the parts of obligations, and why no more was.
use Rattle.std.specs.Prelude.{◌≡◌, ℕ, List, Option, Some, slice_get}
use Rattle.app_flow.specs.Faults.{Rose}
use Rattle.app_flow.specs.Told.{Appends, AppendsFront}
use Rattle.type_schema.specs.Script.{Script}
use Rattle.form_formula.specs.NormalForm.{normal_form}
use Rattle.form_formula.specs.declared.structure.Signature.{Signature}
use Rattle.duty_meaning.specs.Duties.{formula_of, obligations_of}
use Rattle.duty_meaning.specs.declared.duty.Duty.{Duty}
use Rattle.certify_clauses.specs.Problem.{Problem}
use Rattle.certify_making.specs.Faults.{IsWrittenPart}
use Rattle.certify_making.specs.Open.{HasAssignment}
use Rattle.certify_making.specs.Texts.{IsPartText}
use Rattle.certify_problem.specs.Grounded.{IsProblemFor}
use Rattle.certify_proving.specs.Begun.{AreParts}
use Rattle.certify_proving.specs.declared.fault.ProveErr.{ProveErr}
use Rattle.certify_proving.specs.declared.fault.ProveErr.TheVariants.{NotRefuted, WriteFault, OutOfMemory}

-- why no part was written over these clauses: some assignment is lawful; or a fault was counted, and a front of a part was appended; or nothing was
abbrev pub IsFaultOver : {O : Type 0} (told : O → Option (List ℕ)) (faults : O → ℕ) (old new : O) (c : Problem) (number : ℕ) (duty : Duty) → ProveErr → Type 0
IsFaultOver told faults old new c number duty (NotRefuted d) = (d ≡ duty) × HasAssignment c × (new ≡ old)
IsFaultOver told faults old new c number duty WriteFault = Rose (faults old) (faults new) × ((text : List ℕ) × IsPartText c number text × AppendsFront (told old) (told new) text)
IsFaultOver told faults old new c number duty OutOfMemory = new ≡ old

module _ (t : Script) (g : Signature) where
  abbrev pub IsProblem : Duty → Problem → Type 0
  IsProblem duty c = IsProblemFor g (formula_of t duty) (normal_form (formula_of t duty)) c

  -- the part of the obligation was appended, over its clauses
  pub record IsPartWritten (duty : Duty) (number : ℕ) (old new : Option (List ℕ)) : Type 0 where
    pub problem : Problem
    pub is : IsProblem duty problem
    pub written : IsWrittenPart old new problem number

  pub record IsPartCut (duty : Duty) (number : ℕ) (old new : Option (List ℕ)) : Type 0 where
    pub problem : Problem
    pub is : IsProblem duty problem
    pub text : List ℕ
    pub is_part : IsPartText problem number text
    pub front : AppendsFront old new text

  -- some assignment is lawful for the clauses of the obligation
  pub record IsOpen (duty : Duty) : Type 0 where
    pub problem : Problem
    pub is : IsProblem duty problem
    pub open_ : HasAssignment problem

  abbrev pub IsPartFault : {O : Type 0} (duty : Duty) (number : ℕ) (told : O → Option (List ℕ)) (faults : O → ℕ) (old new : O) → ProveErr → Type 0
  IsPartFault duty number told faults old new (NotRefuted d) = (d ≡ duty) × IsOpen duty × (new ≡ old)
  IsPartFault duty number told faults old new WriteFault = Rose (faults old) (faults new) × IsPartCut duty number (told old) (told new)
  IsPartFault duty number told faults old new OutOfMemory = new ≡ old

  -- the parts of the first so many obligations were appended
  pub record ArePartsWritten (count : ℕ) (old new : Option (List ℕ)) : Type 0 where
    pub text : List ℕ
    pub parts : AreParts t g count text
    pub appended : Appends old new text

  -- and then the clauses of the next obligation have a lawful assignment
  pub record AreOpenBehind (duty : Duty) (old new : Option (List ℕ)) : Type 0 where
    pub count : ℕ
    pub at : slice_get (obligations_of t) count ≡ Some duty
    pub open_ : IsOpen duty
    pub written : ArePartsWritten count old new

  -- a front of some parts was appended
  pub record ArePartsCut (old new : Option (List ℕ)) : Type 0 where
    pub count : ℕ
    pub text : List ℕ
    pub parts : AreParts t g count text
    pub front : AppendsFront old new text

  abbrev pub IsPartsFault : {O : Type 0} (told : O → Option (List ℕ)) (faults : O → ℕ) (old new : O) → ProveErr → Type 0
  IsPartsFault told faults old new (NotRefuted d) = AreOpenBehind d (told old) (told new)
  IsPartsFault told faults old new WriteFault = Rose (faults old) (faults new) × ArePartsCut (told old) (told new)
  IsPartsFault told faults old new OutOfMemory = (count : ℕ) × ArePartsWritten count (told old) (told new)
