-- A text to which seven parts were written in turn.
use Rattle.std.proofs.Common.{◌≡◌, ℕ, List, [], ◌∷◌, ◌++◌, append_assoc, append-nil}
use Rattle.std.specs.List.{concat}

pub grown : (n o p q r s t u a b c d e f g : List ℕ) → n ≡ [] → o ≡ n ++ a → p ≡ o ++ b → q ≡ p ++ c → r ≡ q ++ d → s ≡ r ++ e → t ≡ s ++ f → u ≡ t ++ g
    → u ≡ concat (a ∷ b ∷ c ∷ d ∷ e ∷ f ∷ g ∷ [])
grown n o p q r s t u a b c d e f g en eo ep eq er es et eu = rw (eu, et, es, er, eq, ep, eo, en) (simp (append_assoc, append-nil))
