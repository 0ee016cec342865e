-- A text whose bytes stand for themselves.
use Rattle.std.proofs.Common.{◌≡◌, ℕ, true, List, [], ◌∷◌, refl, arith}
use Rattle.std.specs.List.{flat_map, list_all}
use Rattle.text_print.specs.Marks.{escape, is_plain}

plain-byte : (b : ℕ) → is_plain b ≡ true → escape b ≡ b ∷ []
plain-byte b p = grind arith

pub plain_text : (bytes : List ℕ) → list_all is_plain bytes ≡ true → flat_map escape bytes ≡ bytes
plain_text [] p = refl
plain_text (b ∷ bytes) p =
    let first : is_plain b ≡ true = grind arith in
    let rest : list_all is_plain bytes ≡ true = grind arith in
    rw (plain-byte b first, plain_text bytes rest) refl
