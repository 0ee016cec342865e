-- What writing a formula does.
use Rattle.std.specs.Prelude.{◌≡◌, ℕ, ◌+◌, ◌<◌, Bool, Some, List, Result, Ok, Err}
use Rattle.form_formula.specs.declared.node.Node.{Node}
use Rattle.form_formula.specs.Trees.{Term, Formula}
use Rattle.form_formula.specs.Nodes.{kind_at, tree_of, IsTerm, IsFormula, term_of, StandsFor}
use Rattle.duty_meaning.specs.Sizes.{size}
use Rattle.duty_writer.specs.declared.make_err.MakeErr.{MakeErr}
use Rattle.duty_writer.specs.declared.make_err.MakeErr.TheVariants.{Full, OutOfMemory}
use Rattle.duty_writer.specs.declared.writer.Mode.TheVariants.{Build}
use Rattle.duty_writer.specs.declared.writer.Writer.{Writer}

-- each number of a node keeps what it stands for
abbrev pub Keeps : List Node → List Node → Type 0
Keeps old new = (id : ℕ) (kind : Bool) → kind_at old id ≡ Some kind → (kind_at new id ≡ Some kind) × (tree_of new id ≡ tree_of old id)

-- the number stands for the term, for the formula, and the others for what they stood for
pub record IsPut (old new : List Node) (t : Term) (id : ℕ) : Type 0 where
  pub is : IsTerm new id
  pub means : term_of new id ≡ t
  pub kept : Keeps old new

pub record IsSet (old new : List Node) (f : Formula) (id : ℕ) : Type 0 where
  pub stands : StandsFor new id f
  pub kept : Keeps old new

-- Where the writer stops at a formula of this size, that is larger than what was left. Want of memory has no cause.
abbrev pub IsCause : ℕ → Writer → MakeErr → Type 0
IsCause cost old Full = old.left < cost
IsCause cost old OutOfMemory = Unit {0}

-- so much was taken off what was left, and nothing else changed
pub record IsPaid (cost : ℕ) (old new : Writer) : Type 0 where
  pub left : old.left ≡ new.left + cost
  pub arena : new.arena ≡ old.arena
  pub mode : new.mode ≡ old.mode

abbrev pub Pays : {A : Type 0} → ℕ → Writer → Result A MakeErr → Writer → Type 0
Pays cost old (Ok v) new = IsPaid cost old new
Pays cost old (Err e) new = IsCause cost old e

-- where formulas are written, the number stands for the formula
abbrev pub Stands : Writer → ℕ → Formula → Type 0
Stands w id f = w.mode ≡ Build → StandsFor w.arena id f

-- the formula was written, which took so much off what was left
pub record IsMade (cost : ℕ) (old new : Writer) (f : Formula) (id : ℕ) : Type 0 where
  pub left : old.left ≡ new.left + cost
  pub stands : Stands new id f
  pub mode : new.mode ≡ old.mode
  pub kept : Keeps old.arena new.arena

abbrev pub MakesFor : ℕ → Writer → Result ℕ MakeErr → Writer → Formula → Type 0
MakesFor cost old (Ok id) new f = IsMade cost old new f id
MakesFor cost old (Err e) new f = IsCause cost old e

-- The formula was written, or counted, which took its size off what was left; or it was too large.
abbrev pub Makes : Writer → Result ℕ MakeErr → Writer → Formula → Type 0
Makes old result new f = MakesFor (size f) old result new f

-- where formulas are written, the number is that of a formula
abbrev pub IsPart : Writer → ℕ → Type 0
IsPart w id = w.mode ≡ Build → IsFormula w.arena id
