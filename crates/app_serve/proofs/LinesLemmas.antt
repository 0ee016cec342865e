-- The lines of bytes.
use Rattle.std.proofs.Common.{◌≡◌, ◌≢◌, ℕ, ◌==◌, Bool, false, cond, List, [], ◌∷◌, ◌++◌, refl, ap, sym, ◌∙◌, append_assoc, append-nil, arith}
use Rattle.std.proofs.lemmas.Bool.Decides.{nat_tests}
use Rattle.std.proofs.lemmas.List.Elements.{All-head, All-tail}
use Rattle.door_lines.specs.Lines.{IsInLine}
use Rattle.app_serve.specs.Lines.{NoLine, Ended, Last, LinesAreFirst, lines_of, with_first}

no_newline : (b : ℕ) → b ≢ 10 → (b == 10) ≡ false
no_newline b ne = grind (arith, nat_tests)

-- the first line of bytes that begin with it
line-first : (line rest : List ℕ) → IsInLine line → lines_of (line ++ 10 ∷ rest) ≡ line ∷ lines_of rest
line-first [] rest in_line = refl
line-first (b ∷ line) rest in_line =
    ap (λ (t : Bool). cond t ([] ∷ lines_of (line ++ 10 ∷ rest)) (with_first b (lines_of (line ++ 10 ∷ rest)))) (no_newline b (All-head (λ (c : ℕ). c ≢ 10) b line in_line))
    ∙ ap (with_first b) (line-first line rest (All-tail (λ (c : ℕ). c ≢ 10) b line in_line))

-- bytes that are one line
line-only : (b : ℕ) (line : List ℕ) → IsInLine (b ∷ line) → lines_of (b ∷ line) ≡ (b ∷ line) ∷ []
line-only b [] in_line =
    ap (λ (t : Bool). cond t ([] ∷ []) ((b ∷ []) ∷ [])) (no_newline b (All-head (λ (c : ℕ). c ≢ 10) b [] in_line))
line-only b (c ∷ line) in_line =
    ap (λ (t : Bool). cond t ([] ∷ lines_of (c ∷ line)) (with_first b (lines_of (c ∷ line)))) (no_newline b (All-head (λ (c : ℕ). c ≢ 10) b (c ∷ line) in_line))
    ∙ ap (with_first b) (line-only c line (All-tail (λ (c : ℕ). c ≢ 10) b (c ∷ line) in_line))

line-last : (line : List ℕ) → line ≢ [] → IsInLine line → lines_of line ≡ line ∷ []
line-last [] some in_line = absurd (some refl)
line-last (b ∷ line) some in_line = line-only b line in_line

nothing-behind : (xs ys : List ℕ) → xs ≡ xs ++ ys → ys ≡ []
nothing-behind [] ys e = sym e
nothing-behind (x ∷ xs) ys e = nothing-behind xs ys (cc)

pub lines_are_first : LinesAreFirst
lines_are_first all _ rest _ NoLine e = ap lines_of e
lines_are_first all _ rest _ (Ended bytes lines line front in_line) e =
    let split : all ≡ bytes ++ (line ++ 10 ∷ rest) = e ∙ append_assoc bytes (line ++ 10 ∷ []) rest ∙ ap (λ l. bytes ++ l) (append_assoc line (10 ∷ []) rest) in
    lines_are_first all bytes (line ++ 10 ∷ rest) lines front split ∙ ap (λ l. lines ++ l) (line-first line rest in_line) ∙ sym (append_assoc lines (line ∷ []) (lines_of rest))
lines_are_first all _ rest _ (Last bytes lines line front in_line some whole) e =
    let none : rest ≡ [] = nothing-behind (bytes ++ line) rest (sym whole ∙ e) in
    lines_are_first all bytes line lines front whole ∙ ap (λ l. lines ++ l) (line-last line some in_line) ∙ sym (append-nil (lines ++ line ∷ []))
    ∙ ap (λ l. (lines ++ line ∷ []) ++ lines_of l) (sym none)
