-- What a read up to a limit tells of the whole.
use Rattle.std.proofs.Common.{◌≡◌, ℕ, ◌+◌, ◌<◌, ◌≤◌, min, List, [], ◌++◌, length, take, take_all, length-take, Option, None, Some, IfSome, sym, ap, ◌∙◌, inl, inr, arith}
use Rattle.std.proofs.lemmas.Bool.{cases_lt}
use Rattle.std.specs.Option.{option_map}

-- no more came than the limit, though one more was asked for: this was all
pub read_whole : (told : Option (List ℕ)) (limit most : ℕ) (items : List ℕ) → most ≡ min (limit + 1) 18446744073709551615 → length items ≤ limit → length items < 9223372036854775808
    → IfSome (option_map (take most) told) (λ xs. items ≡ [] ++ xs)
    → IfSome told (λ bytes. Some bytes ≡ Some items)
read_whole None limit most items e within small read = tt
read_whole (Some bytes) limit most items e within small read =
    elim (cases_lt most (length bytes)) [
      | inl cut ↦ absurd (omega (arith, ap length read, length-take most bytes))
      | inr all ↦ ap (λ l. Some l) (sym (read ∙ take_all most bytes all))
    ]
