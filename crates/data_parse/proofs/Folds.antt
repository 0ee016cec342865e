-- What a loop makes of all elements.
use Rattle.std.proofs.Common.{◌≡◌, ◌∙◌, List, [], ◌∷◌, ◌++◌, refl, ap, sym, append_assoc, append-nil}
use Rattle.std.specs.List.{fold}
use Rattle.text_grammar.specs.Reading.{Answer, Got, Stuck, made}
use Rattle.text_syntax.specs.Parts.{pushed}

pushes : {A : Type 0} (xs ys : List A) → fold pushed xs ys ≡ xs ++ ys
pushes xs [] = sym (append-nil xs)
pushes xs (y ∷ ys) = pushes (xs ++ y ∷ []) ys ∙ append_assoc xs (y ∷ []) ys

pub folded_all : {A : Type 0} (a : Answer (List A)) → made (fold pushed []) a ≡ a
folded_all (Got xs rest) = ap (λ ys. Got ys rest) (pushes [] xs)
folded_all (Stuck c rest) = refl
