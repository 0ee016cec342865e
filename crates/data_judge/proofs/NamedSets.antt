-- Sets of ids that literals name rise.
use Rattle.std.proofs.Common.{ℕ, Bool, true, false, List, [], ◌∷◌, Option, None, Some}
use Rattle.std.specs.Prelude.{IfSome, if◌then◌else◌, option_and_then}
use Rattle.std.specs.List.Sorted.{IsStrictlyIncreasing}
use Rattle.std.proofs.lemmas.Map.Keys.{IsStrictlyIncreasing-from_sorted}
use Rattle.data_tree.specs.declared.literals.Lit.{Lit, out-Lit}
use Rattle.data_judge.specs.Faults.{has}
use Rattle.data_judge.specs.Meaning.{with_number}
use Rattle.data_judge.specs.Named.{id_named, ids_named}
use Rattle.data_judge.proofs.Sets.{Rises, rises-with, sorted}

with-new : (o : Option (List ℕ)) (b : Bool) → IfSome o IsStrictlyIncreasing → IfSome (if b then None else o) IsStrictlyIncreasing
with-new o true h = tt
with-new o false h = h

with-id : (f : ℕ → Option (List ℕ)) (o : Option ℕ) → ((n : ℕ) → IfSome (f n) IsStrictlyIncreasing) → IfSome (option_and_then f o) IsStrictlyIncreasing
with-id f None h = tt
with-id f (Some n) h = h n

pub named-rise : (own : Option ℕ) (seen : List ℕ) (items : List Lit) → Rises seen → IfSome (ids_named own seen items) IsStrictlyIncreasing
named-rise own seen [] r = IsStrictlyIncreasing-from_sorted seen (sorted seen r)
named-rise own seen (l ∷ items) r =
    with-id (λ n. if has seen n then None else ids_named own (with_number seen n) items) (id_named own (out-Lit l))
    (λ n. with-new (ids_named own (with_number seen n) items) (has seen n) (named-rise own (with_number seen n) items (rises-with seen n r)))
