-- Chains of fields, and what they give at a term.
use Rattle.std.specs.Prelude.{ℕ, List, Option, None, Some, fold, take}
use Rattle.type_schema.specs.Schema.{Schema}
use Rattle.form_formula.specs.Trees.{Term, app}
use Rattle.duty_meaning.specs.Structures.{function_of}
use Rattle.duty_meaning.specs.Cases.{Cases, at_term, held}
use Rattle.duty_builder.specs.declared.chains.Chain.{Chain}

-- functions one after another at a term, the first of them first
abbrev pub applied : List ℕ → Term → Term
applied functions t = fold (λ u f. app f u) t functions

-- what a field holds at a term, or without a field the term
abbrev pub held_at : Option (ℕ × ℕ) → Term → Cases
held_at None t = at_term t
held_at (Some field) t = held field.0 field.1 t

-- what the last field of a chain holds at the term that the others give, whose functions are the first of the row
abbrev pub chain_cases : List ℕ → Chain → Term → Cases
chain_cases row chain t = held_at chain.last (applied (take chain.count row) t)

module _ (s : Schema) where
  -- that value as a term
  abbrev pub term_at : Option (ℕ × ℕ) → Term → Term
  term_at None t = t
  term_at (Some field) t = app (function_of s field.0 field.1) t

  abbrev pub chain_term : List ℕ → Chain → Term → Term
  chain_term row chain t = term_at chain.last (applied (take chain.count row) t)
