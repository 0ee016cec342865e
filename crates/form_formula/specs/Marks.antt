-- Which normal forms of which formulas are wanted.
use Rattle.std.specs.Prelude.{◌≡◌, ℕ, ◌≤◌, ◌<◌, true, false, List, length, Some, slice_get, slice_index_or}
use Rattle.form_formula.specs.declared.node.Node.{Node}
use Rattle.form_formula.specs.declared.node.Node.TheVariants.{Bound, Num, Str, App, Yes, No, Eq, Less, Has, Flag, Present, Not, And, Or, Exists, Forall}
use Rattle.form_formula.specs.declared.marks.Wanted.{Wanted}

-- what is wanted of a number
abbrev pub wanted_at : List Wanted → ℕ → Wanted
wanted_at marks id = slice_index_or marks id (record { positive = false; negative = false })

-- all that is asked is wanted
abbrev pub Covers : Wanted → Wanted → Type 0
Covers wanted asked = (asked.positive ≡ true → wanted.positive ≡ true) × (asked.negative ≡ true → wanted.negative ≡ true)

-- no mark is lost
abbrev pub AreKept : List Wanted → List Wanted → Type 0
AreKept old new = (length new ≡ length old) × ((k : ℕ) → Covers (wanted_at new k) (wanted_at old k))

-- the same of the negation
abbrev pub opposite : Wanted → Wanted
opposite wanted = record { positive = wanted.negative; negative = wanted.positive }

-- where this is wanted of the node, what it is made of is wanted of its parts
abbrev pub PassesOn : List Wanted → Node → Wanted → Type 0
PassesOn marks (Bound sort depth) wanted = Unit {0}
PassesOn marks (Num n) wanted = Unit {0}
PassesOn marks (Str t) wanted = Unit {0}
PassesOn marks (App f t) wanted = Unit {0}
PassesOn marks Yes wanted = Unit {0}
PassesOn marks No wanted = Unit {0}
PassesOn marks (Eq s t) wanted = Unit {0}
PassesOn marks (Less s t) wanted = Unit {0}
PassesOn marks (Has f s t) wanted = Unit {0}
PassesOn marks (Flag f t) wanted = Unit {0}
PassesOn marks (Present f t) wanted = Unit {0}
PassesOn marks (Not a) wanted = Covers (wanted_at marks a) (opposite wanted)
PassesOn marks (And a b) wanted = Covers (wanted_at marks a) wanted × Covers (wanted_at marks b) wanted
PassesOn marks (Or a b) wanted = Covers (wanted_at marks a) wanted × Covers (wanted_at marks b) wanted
PassesOn marks (Exists sort a) wanted = Covers (wanted_at marks a) wanted
PassesOn marks (Forall sort a) wanted = Covers (wanted_at marks a) wanted

-- the marked nodes from a number on pass on what is wanted of them
abbrev pub ArePassedOn : List Node → List Wanted → ℕ → Type 0
ArePassedOn nodes marks from =
    (k : ℕ) (node : Node) → from ≤ k → k < length marks → slice_get nodes k ≡ Some node → PassesOn marks node (wanted_at marks k)
