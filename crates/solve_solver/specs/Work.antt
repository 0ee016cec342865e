-- How much is left of a search, which is why it ends.
use Rattle.std.specs.Prelude.{ℕ, zero, suc, ◌+◌, ◌-◌, ◌*◌, List, [], ◌∷◌, length, if◌then◌else◌}
use Rattle.solve_solver.specs.declared.trail.Entry.{Entry}

-- more than the steps below a trail on which so many variables are not set
abbrev pub tree_size : ℕ → ℕ
tree_size zero = 1
tree_size (suc n) = 4 * tree_size n

-- the other side of each decision
abbrev pub pending : ℕ → List Entry → ℕ
pending vars [] = 0
pending vars (e ∷ es) = (if e.decided then tree_size (vars - suc (length es)) + 1 else 0) + pending vars es

-- what is left below a trail once one more literal follows
abbrev pub rest : ℕ → List Entry → ℕ
rest vars es = tree_size (vars - suc (length es)) + 1 + pending vars es
