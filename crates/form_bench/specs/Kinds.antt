-- What calls of makers leave as it was.
use Rattle.std.specs.Prelude.{◌≡◌, ℕ, Bool, List, Some}
use Rattle.form_formula.specs.declared.node.Node.{Node}
use Rattle.form_formula.specs.Nodes.{kind_at}

-- each node that was a term or a formula is one still
abbrev pub KeepsKinds : List Node → List Node → Type 0
KeepsKinds old new = (k : ℕ) (kind : Bool) → kind_at old k ≡ Some kind → kind_at new k ≡ Some kind
