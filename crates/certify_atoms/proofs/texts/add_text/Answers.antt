use Rattle.std.proofs.Common.{List, ℕ, Contains, subst}
use Rattle.certify_atoms.proofs.TextLists.{keeps}
use Rattle.certify_atoms.proofs.texts.add_text.Goals as goal

pub returns-in_ok-push-in-None : goal.returns-in_ok-push-in-None
returns-in_ok-push-in-None c =
    keeps c.args.text.now _ c.args.texts.now.items _ c.in_ok-copy-in-None.ensures (subst (λ (ts : List (List ℕ)). Contains ts c.args.text.now → ⊥) c.as_slice.ensures.value c.in-None.ensures.absent)
    c.in_ok-push-in-None.ensures.items
