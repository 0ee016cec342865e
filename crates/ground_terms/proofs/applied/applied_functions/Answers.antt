use Rattle.std.proofs.Common.{◌∙◌, List, ℕ, subst, sym, take, length}
use Rattle.ground_terms.specs.Keeping.{AreBelow}
use Rattle.ground_terms.proofs.Codes.{have_at}
use Rattle.ground_terms.proofs.Fewer.{functions_below}
use Rattle.ground_terms.proofs.applied.applied_functions.Goals as goal

pub push_functions_of-requires : goal.push_functions_of-requires
push_functions_of-requires c = have_at c.args.arena.now c.args.parts.now c.loop-part.part-index c.part-item.result c.requires c.loop-part-test.true c.part-item.is

pub unique-requires : goal.unique-requires
unique-requires c =
    let g = c.args.signature.now in
    let P : ℕ → Type 0 = λ n. AreBelow n c.as_slice.result.now in
    let Q : List ℕ → Type 0 = λ xs. AreBelow (length g.funs) xs in
    subst P (sym c.len.ensures) (subst Q (sym (c.as_slice.ensures.value ∙ c.loop-part.invariant)) (functions_below g c.args.arena.now (take c.loop-part.part-index c.args.parts.now)))
