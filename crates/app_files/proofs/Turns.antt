-- Parts in turn, the first and the rest.
use Rattle.std.proofs.Common.{◌≡◌, ℕ, ◌<◌, ◌≤◌, List, [], ◌∷◌, length, drop, get_or, refl, sym, ap, subst, arith}
use Rattle.std.specs.Prelude.{Ok}
use Rattle.type_typing.specs.Outcome.{Checked, ◌>>=◌}
use Rattle.type_specs.specs.InTurn.{in_turn, GivesSeen}

pub in_turn-none : {S A : Type 0} (add : S → A → Checked S) (s : S) (parts : List A) → length parts < 1 → in_turn add s parts ≡ Ok s
in_turn-none add s [] few = refl
in_turn-none add s (part ∷ parts) few = absurd (omega arith)

pub in_turn-first : {S A B : Type 0} (add : S → A → Checked S) (s after : S) (parts : List A) (d : A) (seen : B → S) (r : Checked B)
    → 1 ≤ length parts → add s (get_or parts 0 d) ≡ Ok after → GivesSeen seen (in_turn add after (drop 1 parts)) r → GivesSeen seen (in_turn add s parts) r
in_turn-first add s after [] d seen r some e h = absurd (omega arith)
in_turn-first {S} add s after (part ∷ parts) d seen r some e h =
    subst (λ (first : Checked S). GivesSeen seen (first >>= (λ z. in_turn add z parts)) r) (sym e) h
