-- A first stage that refuses, or passes on.
use Rattle.std.proofs.Common.{◌≡◌, ap}
use Rattle.std.specs.Prelude.{Result, Ok, Err}
use Rattle.door_meaning.specs.Orders.{goes}
use Rattle.door_meaning.specs.Replies.{Reply}

pub goes-err : {A B : Type 0} (a : Result A Reply) (reply : Reply) (f : A → Result B Reply) → a ≡ Err reply → goes a f ≡ Err reply
goes-err (Err r) reply f is = let same : r ≡ reply = cc in cc
goes-err (Ok x) reply f is = cc

pub goes-ok : {A B : Type 0} (a : Result A Reply) (x : A) (f : A → Result B Reply) → a ≡ Ok x → goes a f ≡ f x
goes-ok {A} {B} a x f is = ap (λ (r : Result A Reply). goes r f) is
