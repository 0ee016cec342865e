-- The edges of terms.
use Rattle.std.proofs.Common.{◌≡◌, Bool, false, cond, refl, ◌∙◌, List, [], ◌++◌, ap}
use Rattle.std.specs.Prelude.{slice_get}
use Rattle.form_formula.specs.declared.structure.Signature.{Signature}
use Rattle.form_formula.specs.Trees.{Term, bound, num, str, app}
use Rattle.form_strata.specs.SortGraph.{is_dependent, term_edges, function_edge}

-- a term without dependent variables has none
pub no_edges : (dependent : List Bool) (g : Signature) (t : Term) → is_dependent dependent t ≡ false → term_edges dependent g t ≡ []
no_edges dependent g (bound sort depth) e = refl
no_edges dependent g (num n) e = refl
no_edges dependent g (str t) e = refl
no_edges dependent g (app f t) e = ap (λ b. cond b (function_edge (slice_get g.funs f)) [] ++ term_edges dependent g t) e ∙ no_edges dependent g t e
