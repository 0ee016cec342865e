-- Which tokens begin a value.
use Rattle.std.proofs.Common.{◌≡◌, List, ◌++◌, ◌||◌, refl, ap, ◌∙◌}
use Rattle.text_ast.specs.Pieces.{Piece}
use Rattle.text_tree.specs.Forms.{Want, first}
use Rattle.door_requests.specs.declared.place.Place.{Place}
use Rattle.door_requests.specs.declared.place.Place.TheVariants as place
use Rattle.door_requests.specs.Grammar as g
use Rattle.door_requests.specs.Texts.{first_of}
use Rattle.text_grammar.specs.Reading.{starts}
use Rattle.text_syntax.proofs.Starts.{starts_append}

six : (a b c d e f : List Want) (ls : List Piece)
    → starts (a ++ (b ++ (c ++ (d ++ (e ++ f))))) ls ≡ (starts a ls || (starts b ls || (starts c ls || (starts d ls || (starts e ls || starts f ls)))))
six a b c d e f ls =
    starts_append a (b ++ (c ++ (d ++ (e ++ f)))) ls
    ∙ ap (λ z. starts a ls || z) (starts_append b (c ++ (d ++ (e ++ f))) ls
    ∙ ap (λ z. starts b ls || z) (starts_append c (d ++ (e ++ f)) ls
    ∙ ap (λ z. starts c ls || z) (starts_append d (e ++ f) ls
    ∙ ap (λ z. starts d ls || z) (starts_append e f ls))))

pub common_starts : (p : Place) (ls : List Piece)
    → starts (first first_of (g.common p)) ls
    ≡ (starts (first first_of g.flag) ls || (starts (first first_of g.number) ls || (starts (first first_of g.text) ls
    || (starts (first first_of g.id) ls || (starts (first first_of (g.option p)) ls || starts (first first_of (g.list p)) ls)))))
unfolding g.flag g.number g.text g.id_form g.id g.option g.list g.common
common_starts p ls = six (first first_of g.flag) (first first_of g.number) (first first_of g.text) (first first_of g.id) (first first_of (g.option p)) (first first_of (g.list p)) ls

pub plain_starts : (ls : List Piece) → starts (first_of place.Plain) ls ≡ starts (first first_of (g.common place.Plain)) ls
unfolding g.flag g.number g.text g.id_form g.id g.option g.list g.common
plain_starts ls = refl

pub row_starts : (ls : List Piece) → starts (first_of place.NewRow) ls ≡ (starts (first first_of g.own) ls || starts (first first_of (g.common place.NewRow)) ls)
unfolding g.flag g.number g.text g.id_form g.id g.option g.list g.common g.own
row_starts ls = starts_append (first first_of g.own) (first first_of (g.common place.NewRow)) ls

-- ---- requests

three : (a b c : List Want) (ls : List Piece) → starts (a ++ (b ++ c)) ls ≡ (starts a ls || (starts b ls || starts c ls))
three a b c ls = starts_append a (b ++ c) ls ∙ ap (λ z. starts a ls || z) (starts_append b c ls)

pub session_starts : (ls : List Piece)
    → starts (first first_of g.session_form) ls ≡ (starts (first first_of g.open_form) ls || (starts (first first_of g.renew_form) ls || starts (first first_of g.close_form) ls))
unfolding g.session_form
session_starts ls = three (first first_of g.open_form) (first first_of g.renew_form) (first first_of g.close_form) ls

pub looking_starts : (ls : List Piece) → starts (first first_of g.looking_form) ls ≡ (starts (first first_of g.read_form) ls || starts (first first_of g.find_form) ls)
unfolding g.looking_form
looking_starts ls = starts_append (first first_of g.read_form) (first first_of g.find_form) ls

pub changing_starts : (ls : List Piece)
    → starts (first first_of g.changing_form) ls ≡ (starts (first first_of g.write_form) ls || (starts (first first_of g.create_form) ls || starts (first first_of g.delete_form) ls))
unfolding g.changing_form
changing_starts ls = three (first first_of g.write_form) (first first_of g.create_form) (first first_of g.delete_form) ls

pub request_starts : (ls : List Piece)
    → starts (first first_of g.request_form) ls
    ≡ (starts (first first_of g.session_form) ls || (starts (first first_of g.looking_form) ls
    || (starts (first first_of g.changing_form) ls || starts (first first_of g.migrate_form) ls)))
unfolding g.request_form
request_starts ls =
    starts_append (first first_of g.session_form) (first first_of g.looking_form ++ (first first_of g.changing_form ++ first first_of g.migrate_form)) ls
    ∙ ap (λ z. starts (first first_of g.session_form) ls || z) (three (first first_of g.looking_form) (first first_of g.changing_form) (first first_of g.migrate_form) ls)
