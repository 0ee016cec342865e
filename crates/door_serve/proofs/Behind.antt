-- What requests on records come to behind their session.
use Rattle.std.proofs.Common.{◌≡◌, ◌∙◌}
use Rattle.std.specs.Prelude.{Result, Ok, Err}
use Rattle.door_meaning.specs.Orders.{goes}
use Rattle.door_meaning.specs.Replies.{Reply}
use Rattle.door_judge.proofs.Passing.{goes-err, goes-ok}

-- two stages, of which the second is taken over what the first passes on
module _ {S A B : Type 0} (live : Result S Reply) (part : S → Result A Reply) (whole : S → A → Result B Reply) where
  abbrev pub both : Result B Reply
  both = goes live (λ s. goes (part s) (whole s))

  -- the first one refuses
  pub stops-first : (reply : Reply) → live ≡ Err reply → both ≡ Err reply
  stops-first reply is = goes-err live reply (λ s. goes (part s) (whole s)) is

  -- the second one does
  pub stops-second : (s : S) (reply : Reply) → live ≡ Ok s → part s ≡ Err reply → both ≡ Err reply
  stops-second s reply is stops = goes-ok live s (λ s. goes (part s) (whole s)) is ∙ goes-err (part s) reply (whole s) stops

  -- both pass on
  pub goes-through : (s : S) (x : A) → live ≡ Ok s → part s ≡ Ok x → both ≡ whole s x
  goes-through s x is goes_on = goes-ok live s (λ s. goes (part s) (whole s)) is ∙ goes-ok (part s) x (whole s) goes_on
