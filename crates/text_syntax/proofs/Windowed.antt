-- What is read in a window on the first tokens, and what is read among all tokens.
use Rattle.std.proofs.Common.{◌≡◌, ℕ, ◌-◌, ◌++◌, List, suc, length, drop, take, arith, length-append, ap, sym, ◌∙◌, subst, append_assoc, Ok, Err, Result}
use Rattle.std.proofs.lemmas.List.{drop_at, take-append-drop}
use Rattle.text_ast.specs.Pieces.{Piece}
use Rattle.text_tree.specs.ExprGrammar.{Part, rule, tree_of}
use Rattle.text_tree.specs.Texts.{first_of}
use Rattle.text_grammar.specs.Reading.{Got, Stuck, Reader, at_most, read_part}
use Rattle.text_grammar.proofs.Windows.{IsEnd, Looks, left, before, at_most_looks, window}
use Rattle.text_grammar.proofs.FormWindows.{part_looks}
use Rattle.text_grammar.proofs.GrammarFits.{fits, goes_on}
use Rattle.text_syntax.specs.declared.stop.Stop.{Stop}
use Rattle.text_syntax.specs.Reads.{Reads}

-- what is left behind the window's rest
beyond : (n : ℕ) (ls rest : List Piece) → IsEnd (take n ls) rest → drop (length (take n ls) - length rest) ls ≡ rest ++ drop n ls
beyond n ls rest e =
    let all : ls ≡ e.front ++ (rest ++ drop n ls) = sym (take-append-drop n ls) ∙ ap (λ z. z ++ drop n ls) e.glued ∙ append_assoc e.front rest (drop n ls) in
    let size : length e.front ≡ length (take n ls) - length rest = omega (arith, ap length e.glued, length-append e.front rest) in
    ap (drop (length (take n ls) - length rest)) all ∙ drop_at e.front (rest ++ drop n ls) (length (take n ls) - length rest) size

windowed : {T : Type 0} (most : ℕ) (rd : Reader T) → Looks rd → (ls rest end : List Piece) (r : Result T Stop)
    → Reads (at_most most (take (suc most) ls) (rd (take (suc most) ls))) r rest → end ≡ drop (length (take (suc most) ls) - length rest) ls → Reads (at_most most ls (rd ls)) r end
windowed {T} most rd looks ls rest end (Ok x) is e =
    let ends : IsEnd (take (suc most) ls) rest = subst (λ z. IsEnd (take (suc most) ls) (left z)) is ((at_most_looks most rd looks).ends (take (suc most) ls)) in
    window most rd looks ls ∙ ap (before (drop (suc most) ls)) is ∙ ap (λ z. Got x z) (sym (e ∙ beyond (suc most) ls rest ends))
windowed {T} most rd looks ls rest end (Err stop) is e = λ c was.
    let stuck = is c was in
    let ends : IsEnd (take (suc most) ls) rest = subst (λ z. IsEnd (take (suc most) ls) (left z)) stuck ((at_most_looks most rd looks).ends (take (suc most) ls)) in
    window most rd looks ls ∙ ap (before (drop (suc most) ls)) stuck ∙ ap (λ z. Stuck c z) (sym (e ∙ beyond (suc most) ls rest ends))

pub part_windowed : (most levels : ℕ) (p : Part) (ls rest end : List Piece) (r : Result (tree_of p) Stop)
    → Reads (at_most most (take (suc most) ls) (read_part rule first_of levels p (take (suc most) ls))) r rest → end ≡ drop (length (take (suc most) ls) - length rest) ls
    → Reads (at_most most ls (read_part rule first_of levels p ls)) r end
part_windowed most levels p = windowed most (read_part rule first_of levels p) (part_looks rule first_of goes_on fits levels p)

-- as the code has it: the window, the mark at its start, and where the cursor stands at last
pub through : (most levels : ℕ) (p : Part) (ls within start rest end : List Piece) (r : Result (tree_of p) Stop) → within ≡ take (suc most) ls → start ≡ within
    → Reads (at_most most start (read_part rule first_of levels p within)) r rest → end ≡ drop (length (take (suc most) ls) - length rest) ls
    → Reads (at_most most ls (read_part rule first_of levels p ls)) r end
through most levels p ls within start rest end r is same read e =
    part_windowed most levels p ls rest end r (subst (λ z. Reads (at_most most z (read_part rule first_of levels p z)) r rest) is
    (subst (λ z. Reads (at_most most z (read_part rule first_of levels p within)) r rest) same read)) e
