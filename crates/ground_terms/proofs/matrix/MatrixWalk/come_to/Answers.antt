use Rattle.std.proofs.Common.{◌≡◌, ℕ, Bool, true, false, List, [], ◌∷◌, ◌++◌, refl, ap, ◌∙◌}
use Rattle.std.specs.Prelude.{not, ◌==◌, if◌then◌else◌}
use Rattle.std.specs.List.{list_any}
use Rattle.std.proofs.lemmas.Bool.{eqb-true}
use Rattle.std.proofs.lemmas.Map.Views.{Contains-from_any}
use Rattle.ground_terms.specs.Matrices.{Before}
use Rattle.ground_terms.proofs.matrix.MatrixWalk.come_to.Goals as goal

found_before : (found new : Bool) → new ≡ not found → new ≡ false → found ≡ true
found_before true new e h = refl
found_before false new e h = cc

pub returns-else-branch : goal.returns-else-branch
returns-else-branch g c =
    let keys : List ℕ = c.args.self.now.seen.keys in
    let there : list_any (λ k. c.args.id == k) keys ≡ true = found_before _ _ c.in_ok-insert.ensures.added c.if-branch.false in
    Before (Contains-from_any eqb-true c.args.id keys there) (c.in_ok-insert.ensures.keys ∙ ap (λ b. if b then keys else keys ++ c.args.id ∷ []) there) (refl {A = List ℕ}) (refl {A = List ℕ})
