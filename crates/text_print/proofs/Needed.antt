-- No spelling is shorter than the canonical one.
use Rattle.std.proofs.Common.{◌≡◌, ◌≤◌, ◌<◌, ◌+◌, ℕ, suc, arith, List, [], ◌∷◌, ◌++◌, map, length, refl, sym, ◌∙◌, ap, length-append}
use Rattle.text_lexer.specs.Lexeme.{Lexeme}
use Rattle.text_ast.specs.Pieces.{Piece}
use Rattle.text_tree.specs.declared.policies.Policy.{Policy}
use Rattle.text_tree.specs.declared.policies.Policy.TheVariants as policy
use Rattle.text_tree.specs.Stripped.{stripped_policy}
use Rattle.text_print.specs.Models.{lambda, spelled_policy}
use Rattle.text_print.specs.Reprinted.{lexeme}
use Rattle.text_print.proofs.Canonical.{Canonical, lexemes}
use Rattle.text_print.proofs.Fusion.{set_same}

-- the lexemes as pieces
abbrev placed : List Lexeme → List Piece
placed [] = []
placed (w ∷ ws) = record { kind = w.kind; bytes = w.bytes; at = 0 } ∷ placed ws

placed_is : (ws : List Lexeme) → lexemes (placed ws) ≡ ws
placed_is [] = refl
placed_is (w ∷ ws) = ap (λ z. w ∷ z) (placed_is ws)

placed_length : (ws : List Lexeme) → length (placed ws) ≡ length ws
placed_length [] = refl
placed_length (w ∷ ws) = ap suc (placed_length ws)

pub at_most : {A : Type 0} (R : A → Type 0) (F : A → List Piece → Type 0) (ws : List Lexeme) (n : ℕ) → Canonical R F ws n → length ws ≤ n
at_most R F ws n h =
    let r = h.reads (placed ws) (placed_is ws) in
    let short : length (placed ws) ≤ n = r.short in
    omega (arith, placed_length ws)

pub policy_same : (x : Policy) → spelled_policy (stripped_policy x) ≡ spelled_policy x
policy_same (policy.Everyone at) = refl
policy_same (policy.Nobody at) = refl
policy_same (policy.Fun x set) = ap (λ z. lambda x.name z.marks) (set_same set)

pub one_policy : (x y : Policy) → stripped_policy x ≡ stripped_policy y → spelled_policy x ≡ spelled_policy y
one_policy x y same = sym (policy_same x) ∙ ap spelled_policy same ∙ policy_same y

lexemes_length : (ls : List Piece) → length (map lexeme ls) ≡ length ls
lexemes_length [] = refl
lexemes_length (l ∷ ls) = ap suc (lexemes_length ls)

-- what is left of lexemes without two of them is shorter
pub two_less : (a b d m : List Lexeme) (v w : Lexeme) (ls : List Piece) → m ≡ a ++ v ∷ (b ++ w ∷ d) → map lexeme ls ≡ a ++ (b ++ d) → length ls < length m
two_less a b d m v w ls is of =
    let whole : length m ≡ length a + suc (length b + suc (length d)) =
    ap length is ∙ length-append a (v ∷ (b ++ w ∷ d)) ∙ ap (λ z. length a + suc z) (length-append b (w ∷ d)) in
    let left : length ls ≡ length a + (length b + length d) =
    sym (lexemes_length ls) ∙ ap length of ∙ length-append a (b ++ d) ∙ ap (λ z. length a + z) (length-append b d) in
    omega arith
