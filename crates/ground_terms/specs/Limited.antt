-- Terms within the limits.
use Rattle.std.specs.Prelude.{◌≡◌, ℕ}
use Rattle.form_formula.specs.declared.structure.Signature.{Signature}
use Rattle.form_formula.specs.Trees.{Formula}
use Rattle.form_terms.specs.Counts.{IsTooLarge, count_after, counted, node_count, nodes_over, term_count, terms_counted}
use Rattle.form_terms.specs.Listing.{terms_after}
use Rattle.ground_terms.specs.declared.ground_err.GroundErr.{GroundErr}
use Rattle.ground_terms.specs.declared.ground_err.GroundErr.TheVariants.{TooLarge, OutOfMemory}
use Rattle.ground_terms.specs.declared.limited.Limited.{Limited}
use Rattle.ground_terms.specs.declared.limited.Limited.TheVariants as limited
use Rattle.ground_terms.specs.TermLists.{terms_in}

-- the terms of a stratified formula are not listed for this reason: a count is above its limit, and these are the counts. Memory may
-- be wanting at any time
abbrev pub IsRefusal : Signature → Formula → GroundErr → Type 0
IsRefusal g f (TooLarge terms nodes) = (terms ≡ term_count g f) × (nodes ≡ node_count g f) × IsTooLarge terms nodes
IsRefusal g f OutOfMemory = Unit {0}

-- the counts of so many rounds
abbrev pub terms_within : Signature → Formula → ℕ → ℕ
terms_within g f n = counted (terms_counted g f n)

abbrev pub nodes_within : Signature → Formula → ℕ → ℕ
nodes_within g f n = counted (nodes_over (count_after g f n) f)

-- the terms that arise within so many rounds, where they are within the limits, and else the counts
abbrev pub IsLimited : Signature → Formula → ℕ → Limited → Type 0
IsLimited g f n (limited.Listed terms) = (terms_in terms ≡ terms_after g f n) × (IsTooLarge (terms_within g f n) (nodes_within g f n) → ⊥)
IsLimited g f n (limited.TooLarge m) = (m.terms ≡ terms_within g f n) × (m.nodes ≡ nodes_within g f n) × IsTooLarge m.terms m.nodes
