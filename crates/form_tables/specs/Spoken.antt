-- Terms and pairs of which a table tells.
use Rattle.std.specs.Prelude.{ℕ, List, ◌++◌, Option, None, slice_get}
use Rattle.std.specs.Option.{option_map}
use Rattle.form_formula.specs.Trees.{Term, bound, num, str, app}
use Rattle.form_terms.specs.GroundTerms.{GroundTerm, field}

-- a set relation at two terms
pub record Pair : Type 0 where
  pub relation : ℕ
  pub holder : GroundTerm
  pub member : GroundTerm

-- the terms that name elements; further functions at these, which have numbers, texts or truth values, or of which it only matters
-- whether they have anything; and the set relations at two of the first terms
pub record Vocabulary : Type 0 where
  pub named : List GroundTerm
  pub others : List GroundTerm
  pub pairs : List Pair

-- all terms
abbrev pub told : Vocabulary → List GroundTerm
told v = v.named ++ v.others

-- the ground term that a term of the formula is where the variables above are these terms
abbrev pub term_at : List GroundTerm → Term → Option GroundTerm
term_at env (bound sort depth) = slice_get env depth
term_at env (num n) = None
term_at env (str t) = None
term_at env (app h t) = option_map (field h) (term_at env t)
