-- How large an instantiation may be.
use Rattle.std.specs.Prelude.{ℕ}
use Rattle.form_terms.specs.declared.limits.TheConstants.{MOST_GROUND_NODES, MOST_TERMS}

-- the terms at most
abbrev pub most_terms : ℕ
most_terms = MOST_TERMS

-- the nodes of the formula with each `forall` written out over its terms, at most
abbrev pub most_nodes : ℕ
most_nodes = MOST_GROUND_NODES

-- a count stays at this number when it would pass it
abbrev pub most_counted : ℕ
most_counted = 18446744073709551615
