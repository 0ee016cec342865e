use Rattle.std.proofs.Common.{◌≡◌, ◌∙◌, ap, arith, refl, sym, Some}
use Rattle.std.proofs.lemmas.Option.{slice_get-get_or}
use Rattle.certify_atoms.proofs.Items.{so_more}
use Rattle.certify_atoms.proofs.Items.{item_at}
use Rattle.certify_atoms.proofs.TextLists.{absent}
use Rattle.certify_atoms.proofs.sides.place_of.Goals as goal

pub loop-place-preserved : goal.loop-place-preserved
loop-place-preserved c =
    so_more (λ k t. t ≡ c.args.text.now → ⊥) c.args.texts.now c.loop-place.place c.loop-place.invariant
    (λ t e same. c.if-is_same_text.ensures.no refl (c.index-texts-place.is ∙ (item_at c.args.texts.now c.loop-place.place t c.index-texts-place.result e ∙ same)))

pub returns-then-is_same_text-clause-found : goal.returns-then-is_same_text-clause-found
returns-then-is_same_text-clause-found c =
    slice_get-get_or c.args.texts.now c.loop-place.place c.index-texts-place.result c.loop-place-test.true ∙ ap (λ t. Some t) (sym c.index-texts-place.is ∙ c.if-is_same_text.ensures.yes refl)

pub returns-clause-absent : goal.returns-clause-absent
returns-clause-absent c = absent c.args.texts.now c.args.text.now c.loop-place.place (omega arith) c.loop-place.invariant
