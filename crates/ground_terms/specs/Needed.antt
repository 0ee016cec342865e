-- Sorts that are needed, by rounds.
use Rattle.std.specs.Prelude.{◌≡◌, ℕ, ◌<◌, Bool, ◌||◌, ◌&&◌, List, length}
use Rattle.std.specs.List.{list_any}
use Rattle.form_formula.specs.declared.structure.FunSig.{FunSig}
use Rattle.form_formula.specs.declared.structure.Signature.{Signature}
use Rattle.form_formula.specs.Trees.{Formula}
use Rattle.form_terms.specs.Universe.{leads_to, is_needed_after}
use Rattle.ground_terms.specs.Codes.{is_marked}

-- what total functions lead to from the sorts that are marked is marked too
pub record AreSpread (funs : List FunSig) (from old new : List Bool) : Type 0 where
  pub size : length new ≡ length old
  pub marked : (sort : ℕ) → sort < length old → is_marked new sort ≡ (is_marked old sort || list_any (λ sig. leads_to sort sig && is_marked from sig.from) funs)

-- the marks are those of the sorts that are needed after so many rounds
pub record AreNeededAfter (g : Signature) (f : Formula) (n : ℕ) (marks : List Bool) : Type 0 where
  pub size : length marks ≡ g.sorts
  pub marked : (sort : ℕ) → sort < g.sorts → is_marked marks sort ≡ is_needed_after g f n sort
