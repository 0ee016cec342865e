use Rattle.std.proofs.Common.{◌≡◌, ◌<◌, ◌++◌, ◌∷◌, [], List, Some, Bool, get_or, subst, sym, refl, inl, inr, length, rules}
use Rattle.std.specs.Prelude.{slice_get}
use Rattle.std.proofs.lemmas.Option.{slice_get-get_or}
use Rattle.form_formula.specs.declared.node.Node.{Node}
use Rattle.form_formula.specs.declared.node.Node.TheVariants.{Yes}
use Rattle.form_formula.specs.Nodes.{formula_of}
use Rattle.form_formula.proofs.Placement.{kind_within, parts_placed}
use Rattle.form_formula.proofs.TreeLemmas.{tree_of-at}
use Rattle.form_terms.specs.Parts.{parts_of}
use Rattle.ground_terms.specs.declared.walk.Pending.{Pending}
use Rattle.ground_terms.specs.declared.walk.Walk.{Walk}
use Rattle.ground_terms.specs.Matrices.{AreMatrices}
use Rattle.ground_terms.specs.Walk.{ArePending, IsWalkOf, steps_left}
use Rattle.ground_terms.proofs.WalkLemmas.{pending_split, walk_expanded, walk_matrix, all_found, none_left}
use Rattle.ground_terms.proofs.walk.parts_of.Goals as goal

-- the node of what is walked over next
there : (nodes : List Node) (rest pending : List Pending) (p : Pending) → pending ≡ rest ++ p ∷ [] → ArePending nodes pending → slice_get nodes p.id ≡ Some (get_or nodes p.id Yes)
there nodes rest pending p e sound =
    let P : List Pending → Type 0 = λ xs. ArePending nodes xs in
    slice_get-get_or nodes p.id Yes (kind_within nodes p.id _ (pending_split nodes rest p (subst P e sound)).1)

pub advance-requires : goal.advance-requires
advance-requires c =
    let nodes : List Node = c.args.arena.now in
    let P : List Pending → Type 0 = λ xs. ArePending nodes xs in
    let M : List Bool → Type 0 = λ marks. AreMatrices nodes marks in (
      there nodes c.pop.new.self.items c.steps.walk.pending.items c.in-Some.whole c.in-Some.ensures.items c.steps.invariant.sound,
      (
        (pending_split nodes c.pop.new.self.items c.in-Some.whole (subst P c.in-Some.ensures.items c.steps.invariant.sound)).1,
        subst M (sym c.as_slice.ensures.value) c.in_ok-matrices.ensures,
      ),
    )

-- the walk after a step, and what is left then
after : (c : goal.In_ok-advance)
    → IsWalkOf c.args.arena.now (parts_of (formula_of c.args.arena.now c.args.id)) c.advance.new.walk
    × (steps_left c.args.arena.now c.advance.new.walk.pending.items < steps_left c.args.arena.now c.steps.walk.pending.items)
after c =
    let nodes : List Node = c.args.arena.now in
    let n : Node = get_or nodes c.in-Some.whole.id Yes in
    let at : slice_get nodes c.in-Some.whole.id ≡ Some n =
    there nodes c.pop.new.self.items c.steps.walk.pending.items c.in-Some.whole c.in-Some.ensures.items c.steps.invariant.sound in
    let before : Walk = record { pending = c.pop.new.self; names = c.truncate.new.self; above = c.truncate-in-Some.new.self; number = c.steps.walk.number; parts = c.steps.walk.parts } in
    let total = parts_of (formula_of nodes c.args.id) in
    elim c.in_ok-advance.ensures [
      | inl expanded ↦
          walk_expanded nodes total c.steps.walk before c.advance.new.walk c.in-Some.whole n c.in-Some.ensures.items c.steps.invariant c.truncate.ensures.items
          c.truncate-in-Some.ensures.items refl refl (tree_of-at nodes c.in-Some.whole.id n c.len-nodes.ensures.placed at)
          (parts_placed nodes c.in-Some.whole.id n c.len-nodes.ensures.placed at) expanded
      | inr matrix ↦
          walk_matrix nodes total c.steps.walk before c.advance.new.walk c.in-Some.whole c.in-Some.ensures.items c.steps.invariant c.truncate.ensures.items
          c.truncate-in-Some.ensures.items refl refl matrix
    ]

pub steps-preserved : goal.steps-preserved
steps-preserved c = (after c).0

pub steps-smaller : goal.steps-smaller
steps-smaller c = (after c).1

pub returns : goal.returns
returns c = all_found _ _ c.steps.walk c.steps.invariant (let e : length c.steps.walk.pending.items ≡ 0 = search rules in none_left c.steps.walk.pending.items e)
