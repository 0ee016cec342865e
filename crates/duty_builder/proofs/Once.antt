-- Sizes where no field was added, of which one is counted.
use Rattle.std.proofs.Common.{◌≡◌, ℕ, zero, suc, refl, sym, ◌∙◌, List, [], ◌∷◌, length, take, ap, arith}
use Rattle.std.specs.Prelude.{map, max, min}
use Rattle.type_schema.specs.Schema.{Schema}
use Rattle.type_schema.specs.SchemaViews.{added_of}
use Rattle.duty_meaning.specs.Formulas.{Written, nothing_written, written_out}
use Rattle.duty_builder.proofs.Written.{Adding}

nothing_of : (xs : List Adding) → length xs ≡ 0 → xs ≡ []
nothing_of [] none = refl
nothing_of (x ∷ xs) none = absurd (omega arith)

nothing_taken : (s : Schema) (n : ℕ) → written_out s (take n []) ≡ nothing_written
nothing_taken s zero = refl
nothing_taken s (suc n) = refl

once : (size a b : ℕ) → a ≡ b → size ≡ min a 1000000 → size ≡ min (max a b) 1000000
once size a b same is = omega arith

-- the larger of both sizes
pub counted_once : (over : Written → ℕ) (s : Schema) (xs : List Adding) (n size : ℕ) → length xs ≡ 0 → map added_of xs ≡ s.added
    → size ≡ min (over (written_out s (take n (map added_of xs)))) 1000000
    → size ≡ min (max (over (written_out s s.added)) (over nothing_written)) 1000000
counted_once over s xs n size none all is =
    let nothing : map added_of xs ≡ [] = ap (map added_of) (nothing_of xs none) in
    let upto : written_out s (take n (map added_of xs)) ≡ nothing_written = ap (λ ys. written_out s (take n ys)) nothing ∙ nothing_taken s n in
    let out : written_out s s.added ≡ nothing_written = ap (written_out s) (sym all ∙ nothing) in
    once size (over (written_out s s.added)) (over nothing_written) (ap over out)
    (is ∙ ap (λ w. min (over w) 1000000) (upto ∙ sym out))
