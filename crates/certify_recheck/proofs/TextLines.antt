-- The whole lines of a text, one after another.
use Rattle.std.proofs.Common.{◌≡◌, ◌≢◌, ℕ, zero, suc, ◌+◌, ◌-◌, ◌<◌, List, [], ◌∷◌, ◌++◌, length, take, drop, get_or, eqb, refl, sym, ◌∙◌, ap, arith}
use Rattle.std.proofs.lemmas.Bool.{cond-true, cond-false, eq-eqb, ne_eqb}
use Rattle.std.proofs.lemmas.List.{append-nil, append_assoc, drop-drop, length-drop, length-take-le}
use Rattle.certify_recheck.specs.Lines.{line_of, whole_lines, whole_lines_behind}
use Rattle.certify_recheck.specs.Spots.{IsRead}
use Rattle.certify_recheck.specs.declared.line.Line.{Line}

-- where no byte ends a line there is no whole one
pub lines_none : (front xs : List ℕ) → ((k : ℕ) → k < length xs → get_or xs k 0 ≢ 10) → whole_lines_behind front xs ≡ []
lines_none front [] h = refl
lines_none front (x ∷ xs) h =
    cond-false (eqb x 10) _ _ (ne_eqb x 10 (h 0 (omega arith)))
    ∙ lines_none (front ++ x ∷ []) xs (λ k within. h (suc k) (omega arith))

-- the first byte that ends a line ends the first line
lines_more_behind : (front xs : List ℕ) (n : ℕ) → n < length xs → ((k : ℕ) → k < n → get_or xs k 0 ≢ 10) → get_or xs n 0 ≡ 10 → whole_lines_behind front xs ≡ (front ++ take n xs) ∷ whole_lines (drop (suc n) xs)
lines_more_behind front [] n within none end = absurd (omega arith)
lines_more_behind front (x ∷ xs) zero within none end =
    cond-true (eqb x 10) _ _ (eq-eqb x 10 end) ∙ ap (λ l. l ∷ whole_lines xs) (sym (append-nil front))
lines_more_behind front (x ∷ xs) (suc n) within none end =
    cond-false (eqb x 10) _ _ (ne_eqb x 10 (none 0 (omega arith)))
    ∙ lines_more_behind (front ++ x ∷ []) xs n (omega arith) (λ k below. none (suc k) (omega arith)) end
    ∙ ap (λ l. l ∷ whole_lines (drop (suc n) xs)) (append_assoc front (x ∷ []) (take n xs))

pub lines_more : (xs : List ℕ) (n : ℕ) → n < length xs → ((k : ℕ) → k < n → get_or xs k 0 ≢ 10) → get_or xs n 0 ≡ 10 → whole_lines xs ≡ take n xs ∷ whole_lines (drop (suc n) xs)
lines_more xs n within none end = lines_more_behind [] xs n within none end

-- the first line from a byte on, where its end is
pub read_first : (text : List ℕ) (at len : ℕ) (l : Line) → len < length (drop at text) → ((k : ℕ) → k < len → get_or (drop at text) k 0 ≢ 10) → get_or (drop at text) len 0 ≡ 10 → l ≡ line_of (take len (drop at text)) → IsRead text at l (at + len + 1)
read_first text at len l within none end says =
    let rest = drop at text in
    let size : length (drop at text) ≡ length text - at = length-drop at text in
    let whole : length (take len (drop at text)) ≡ len = length-take-le len rest (omega arith) in
    let e : at + suc len ≡ at + len + 1 = omega arith in
    record {
      bytes = take len rest;
      is_first = lines_more rest len within none end ∙ ap (λ xs. take len rest ∷ whole_lines xs) (drop-drop (suc len) at text ∙ ap (λ n. drop n text) e);
      says = says;
      behind = omega arith;
      within = omega arith;
    }
