use Rattle.std.proofs.Common.{◌≡◌, List, subst, sym, ap}
use Rattle.std.specs.Option.{option_to_list}
use Rattle.form_formula.specs.declared.node.Node.{Node}
use Rattle.form_formula.specs.Trees.{Term, app}
use Rattle.form_formula.specs.Nodes.{IsPlaced, term_of, term_part, tree_of, tree_from, trees_of}
use Rattle.form_terms.specs.GroundTerms.{target_of}
use Rattle.form_terms.specs.Parts.{sorts_in}
use Rattle.ground_terms.specs.Codes.{AreMarked}
use Rattle.ground_terms.proofs.Marks.{marked_both}
use Rattle.ground_terms.proofs.needed.mark_term.Goals as goal

pub down-preserved : goal.down-preserved
down-preserved c =
    let nodes : List Node = c.args.arena.now in
    let g = c.args.signature.now in
    let P : Node → Type 0 = λ n. IsPlaced nodes n in
    let M : Node → Type 0 = λ n. tree_of nodes c.down.at ≡ tree_from (trees_of nodes) n in
    let at : term_of nodes c.down.at ≡ app c.in-App.f (term_of nodes c.in-App.t) = ap term_part (subst M c.in-App.is c.node.ensures.means) in (
      subst P c.in-App.is c.node.ensures.placed,
      (λ final h.
          let S : Term → Type 0 = λ t. AreMarked (sorts_in g t) c.down.marks final in
          c.down.invariant.1 final
          (subst S (sym at) (marked_both (option_to_list (target_of g c.in-App.f)) (sorts_in g (term_of nodes c.in-App.t)) c.down.marks c.mark_target.new.marks final c.mark_target.ensures h))),
    )
