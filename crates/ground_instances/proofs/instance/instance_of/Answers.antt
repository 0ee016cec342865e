use Rattle.std.proofs.Common.{◌≡◌, ◌∙◌, List, ℕ, [], true, false, refl, subst, sym}
use Rattle.ground_terms.specs.Standing.{AreOnes}
use Rattle.ground_terms.proofs.Standing.{extends_both, ones_kept, terms_kept}
use Rattle.ground_instances.proofs.MaskLaws.{instance_is}
use Rattle.ground_instances.proofs.instance.instance_of.Goals as goal

pub list_from-requires : goal.list_from-requires
list_from-requires c = let A : List ℕ → Type 0 = λ ids. AreOnes c.masked.new.terms ids in subst A (sym c.as_slice.ensures.value) c.in_ok-kept.ensures.ones

pub list_from-requires-then-shape : goal.list_from-requires-then-shape
list_from-requires-then-shape c =
    ones_kept c.args.terms.now _ c.args.above.arguments.now (extends_both _ _ _ c.in_ok-kept.ensures.grown c.in_ok-variables.ensures.kept) c.requires.arguments

pub returns-then-shape : goal.returns-then-shape
returns-then-shape c =
    instance_is c.args.shape c.args.node c.args.above.number c.args.above.variables.now c.args.above.arguments.now c.in_ok-kept.kept.items _ c.args.above.arguments.now c.args.terms.now c.masked.new.terms c.list_from.new.terms _ _
    c.in_ok-kept.ensures c.as_slice.ensures.value c.requires.variables c.in_ok-variables.ensures c.in_ok-arguments.ensures refl (λ h. refl)
    (λ h. terms_kept c.args.terms.now _ c.args.above.arguments.now (extends_both _ _ _ c.in_ok-kept.ensures.grown c.in_ok-variables.ensures.kept) c.requires.arguments)

pub returns : goal.returns
returns c =
    instance_is c.args.shape c.args.node c.args.above.number c.args.above.variables.now c.args.above.arguments.now c.in_ok-kept.kept.items _ [] c.args.terms.now c.masked.new.terms c.list_from.new.terms _ _ c.in_ok-kept.ensures
    c.as_slice.ensures.value c.requires.variables c.in_ok-variables.ensures c.in_ok-arguments-2.ensures refl (λ h. let no : true ≡ false = sym h ∙ c.if-shape.false in cc) (λ h. let no : true ≡ false = sym h ∙ c.if-shape.false in cc)
