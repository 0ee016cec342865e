-- Which tokens begin a value.
use Rattle.std.proofs.Common.{◌≡◌, List, ◌++◌, ◌||◌, ap, ◌∙◌}
use Rattle.text_ast.specs.Pieces.{Piece}
use Rattle.text_tree.specs.Forms.{Want, first}
use Rattle.data_tree.specs.Grammar as g
use Rattle.data_tree.specs.Grammar.{Value}
use Rattle.data_tree.specs.Texts.{first_of}
use Rattle.text_grammar.specs.Reading.{starts}
use Rattle.text_syntax.proofs.Starts.{starts_append}

six : (a b c d e f : List Want) (ls : List Piece)
    → starts (a ++ (b ++ (c ++ (d ++ (e ++ f))))) ls ≡ (starts a ls || (starts b ls || (starts c ls || (starts d ls || (starts e ls || starts f ls)))))
six a b c d e f ls =
    starts_append a (b ++ (c ++ (d ++ (e ++ f)))) ls
    ∙ ap (λ z. starts a ls || z) (starts_append b (c ++ (d ++ (e ++ f))) ls
    ∙ ap (λ z. starts b ls || z) (starts_append c (d ++ (e ++ f)) ls
    ∙ ap (λ z. starts c ls || z) (starts_append d (e ++ f) ls
    ∙ ap (λ z. starts d ls || z) (starts_append e f ls))))

pub value_starts : (ls : List Piece)
    → starts (first_of Value) ls
    ≡ (starts (first first_of g.flag) ls || (starts (first first_of g.number) ls || (starts (first first_of g.text) ls
    || (starts (first first_of g.id) ls || (starts (first first_of g.option) ls || starts (first first_of g.list) ls)))))
unfolding g.flag g.number g.text g.id_form g.id g.option g.list g.value
value_starts ls = six (first first_of g.flag) (first first_of g.number) (first first_of g.text) (first first_of g.id) (first first_of g.option) (first first_of g.list) ls
