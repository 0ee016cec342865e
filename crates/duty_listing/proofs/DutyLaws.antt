-- Obligations command by command.
use Rattle.std.proofs.Common.{◌≡◌, ℕ, suc, ◌+◌, ◌-◌, refl, ap, sym, ◌∙◌, List, [], ◌∷◌, ◌++◌, append_assoc, arith}
use Rattle.std.specs.Prelude.{flat_map}
use Rattle.std.specs.List.{range_with_len}
use Rattle.std.specs.Option.{option_map_or}
use Rattle.std.proofs.lemmas.Grind.{flat_map-append}
use Rattle.std.proofs.lemmas.List.{append-nil}
use Rattle.type_schema.specs.Script.{Script, command_at}
use Rattle.type_schema.specs.Kinds.{kinds_at}
use Rattle.duty_meaning.specs.declared.duty.Duty.{Duty}
use Rattle.duty_meaning.specs.Duties.{obligations_at}
use Rattle.duty_listing.specs.Duties.{obligations_behind}
use Rattle.duty_listing.proofs.KindLaws.{range-more}

pub from-one : {X : Type 0} (f : ℕ → List X) (n : ℕ) → flat_map f (range_with_len 1 (n + 1)) ≡ flat_map f (range_with_len 1 n) ++ f (n + 1)
from-one f n =
    let next : 1 + n ≡ n + 1 = omega arith in
    ap (flat_map f) (range-more 1 n ∙ ap (λ i. range_with_len 1 n ++ i ∷ []) next)
    ∙ (flat_map-append f (range_with_len 1 n) ((n + 1) ∷ []) ∙ ap (λ xs. flat_map f (range_with_len 1 n) ++ xs) (append-nil (f (n + 1))))

-- those of the command of a number, from 1
abbrev pub obligations_of_one : Script → ℕ → List Duty
obligations_of_one t k = option_map_or (obligations_at k (kinds_at t k)) (command_at t (k - 1)) []

-- those of the first commands
abbrev pub obligations_to : Script → ℕ → List Duty
obligations_to t n = flat_map (obligations_of_one t) (range_with_len 1 n)

pub obligations-more : (t : Script) (n : ℕ) → obligations_to t (n + 1) ≡ obligations_to t n ++ obligations_behind t n
obligations-more t n =
    let back : (n + 1) - 1 ≡ n = omega arith in
    from-one (obligations_of_one t) n
    ∙ ap (λ k. obligations_to t n ++ option_map_or (obligations_at (n + 1) (kinds_at t (n + 1))) (command_at t k) []) back
