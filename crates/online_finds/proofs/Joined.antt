-- Lists in parts, and as a whole.
use Rattle.std.proofs.Common.{◌≡◌, ap, sym, ◌∙◌, List, ◌++◌, append_assoc}

pub joined : {X : Type 0} (old mid new whole a b : List X) → whole ≡ a ++ b → mid ≡ old ++ a → new ≡ mid ++ b → new ≡ old ++ whole
joined old mid new whole a b w p q = q ∙ (ap (λ xs. xs ++ b) p ∙ (append_assoc old a b ∙ ap (λ xs. old ++ xs) (sym w)))
