-- What a call comes to that goes through stages, whatever their reasons to stop are.
use Rattle.std.proofs.Common.{◌≡◌, refl, ap, ◌∙◌}
use Rattle.std.specs.Prelude.{Result, Ok, Err}
use Rattle.app_files.specs.Stages.{StageOf, Then, Stops, Goes, ComesTo}

pub comes-stopped : {S A B C : Type 0} (first : StageOf S A) (second : A → StageOf S B) (seen : C → B) (r : Result C S) (s : S) → first (Err s) → r ≡ Err s → ComesTo (Then first second) seen r
comes-stopped first second seen (Ok y) s p e = absurd cc
comes-stopped first second seen (Err t) s p e =
    let same : t ≡ s = cc in
    Stops s p (ap (λ z. Err z) same)

pub comes-behind : {S A B C : Type 0} (first : StageOf S A) (second : A → StageOf S B) (seen : C → B) (r : Result C S) (x : A) → first (Ok x) → ComesTo (second x) seen r → ComesTo (Then first second) seen r
comes-behind first second seen (Ok y) x p h = Goes x p h
comes-behind first second seen (Err t) x p h = Goes x p h

-- the second of three stages goes on after the first
pub then-join : {S A B C : Type 0} (first : StageOf S A) (second : A → StageOf S B) (third : B → StageOf S C) (r : Result C S) (x : A) → first (Ok x) → Then (second x) third r → Then (Then first second) third r
then-join first second third r x p (Stops s q e) = Stops s (Goes x p q) e
then-join first second third r x p (Goes y q h) = Goes y (Goes x p q) h

-- the first of three stages stops
pub then-cut : {S A B C : Type 0} (first : StageOf S A) (second : A → StageOf S B) (third : B → StageOf S C) (r : Result C S) (s : S) → first (Err s) → r ≡ Err s → Then (Then first second) third r
then-cut first second third r s p e = Stops s (Stops s p refl) e

-- what stops is handed on as an answer of another type
pub stopped-too : {S A B : Type 0} (r : Result A S) (q : Result B S) (s t : S) → r ≡ Err s → q ≡ Err s → q ≡ Err t → r ≡ Err t
stopped-too r q s t stopped other at =
    let same : s ≡ t = cc in
    stopped ∙ ap (λ z. Err z) same
