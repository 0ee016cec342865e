-- What a literal without a backslash stands for.
use Rattle.std.proofs.Common.{◌≡◌, ◌∙◌, ℕ, Bool, true, false, ◌&&◌, ◌||◌, List, [], ◌∷◌, ◌++◌, ap, refl, arith}
use Rattle.std.specs.Prelude.{◌==◌, not}
use Rattle.std.specs.List.{list_all, list_any}
use Rattle.text_tree.specs.LiteralValue.{literal_value, value_from}
use Rattle.data_parse.specs.Bare.{is_bare, IsBareLiteral}

bare_byte : (b : ℕ) (rest : List ℕ) → is_bare b ≡ true → value_from 0 (b ∷ rest) ≡ b ∷ value_from 0 rest
bare_byte b rest bare = grind arith

bare_inside : (inside : List ℕ) → list_all is_bare inside ≡ true → value_from 0 (inside ++ 34 ∷ []) ≡ inside
bare_inside [] bare = refl
bare_inside (b ∷ inside) bare =
    let first : is_bare b ≡ true = grind arith in
    let rest : list_all is_bare inside ≡ true = grind arith in
    rw (bare_byte b (inside ++ 34 ∷ []) first, bare_inside inside rest) refl

pub bare_literal : (bytes inside : List ℕ) → IsBareLiteral bytes inside → literal_value bytes ≡ inside
bare_literal bytes inside is = rw is.0 (bare_inside inside is.1)

without_either : (p q a b : Bool) → not ((p || a) || (q || b)) ≡ (not (p || q) && not (a || b))
without_either true q a b = refl
without_either false true true b = refl
without_either false true false b = refl
without_either false false a b = refl

-- each byte is bare where there is no quote, and no backslash
pub bare_without : (bytes : List ℕ) → not (list_any (λ b. b == 34) bytes || list_any (λ b. b == 92) bytes) ≡ list_all is_bare bytes
bare_without [] = refl
bare_without (b ∷ bytes) =
    without_either (b == 34) (b == 92) (list_any (λ c. c == 34) bytes) (list_any (λ c. c == 92) bytes) ∙ ap (λ t. is_bare b && t) (bare_without bytes)
