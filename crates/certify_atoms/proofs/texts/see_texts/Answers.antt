use Rattle.std.proofs.Common.{◌∙◌, ℕ, List, subst, arith}
use Rattle.text_ast.specs.Words.{IsText}
use Rattle.certify_atoms.proofs.Items.{so_more, so_within}
use Rattle.certify_atoms.proofs.Items.{item_at}
use Rattle.certify_atoms.proofs.texts.see_texts.Goals as goal

pub loop-text-preserved : goal.loop-text-preserved
loop-text-preserved c =
    so_more (λ k t. IsText t) c.args.texts.now c.loop-text.text-index c.loop-text.invariant
    (λ t e. subst (λ (t : List ℕ). IsText t) (c.bytes-bytes.ensures.bytes ∙ (c.text-item.is ∙ item_at c.args.texts.now c.loop-text.text-index t c.text-item.result e)) c.bytes-bytes.ensures.text)

pub returns : goal.returns
returns c = so_within (λ k t. IsText t) c.args.texts.now c.loop-text.text-index (omega arith) c.loop-text.invariant
