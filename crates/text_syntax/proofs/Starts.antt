-- Which tokens begin one of several forms.
use Rattle.std.proofs.Common.{◌≡◌, List, [], ◌∷◌, ◌++◌, Bool, true, false, ◌||◌, refl, ap, ◌∙◌}
use Rattle.std.specs.Prelude.{codes}
use Rattle.text_ast.specs.Pieces.{Piece}
use Rattle.text_lexer.specs.declared.token.TokenKind.TheVariants as k
use Rattle.text_tree.specs.Forms.{Want, Sign, Word, Lower, admits, first, may}
use Rattle.text_tree.specs.ExprGrammar as e
use Rattle.text_tree.specs.ExprGrammar.{Expression, Set}
use Rattle.text_tree.specs.Texts.{first_of}
use Rattle.text_grammar.specs.Reading.{starts}

or_assoc : (a b c : Bool) → (a || (b || c)) ≡ ((a || b) || c)
or_assoc true b c = refl
or_assoc false b c = refl

may_append : (us vs : List Want) (l : Piece) → may (us ++ vs) l ≡ (may us l || may vs l)
may_append [] vs l = refl
may_append (u ∷ us) vs l = ap (λ b. admits u l || b) (may_append us vs l) ∙ or_assoc (admits u l) (may us l) (may vs l)

pub starts_append : (us vs : List Want) (ls : List Piece) → starts (us ++ vs) ls ≡ (starts us ls || starts vs ls)
starts_append us vs [] = refl
starts_append us vs (l ∷ ls) = may_append us vs l

four : (a b c d : List Want) (ls : List Piece) → starts (a ++ (b ++ (c ++ d))) ls ≡ (starts a ls || (starts b ls || (starts c ls || starts d ls)))
four a b c d ls =
    starts_append a (b ++ (c ++ d)) ls
    ∙ ap (λ z. starts a ls || z) (starts_append b (c ++ d) ls ∙ ap (λ z. starts b ls || z) (starts_append c d ls))

pub expression_starts : (ls : List Piece)
    → starts (first_of Expression) ls
    ≡ (starts (first first_of e.if_expr) ls || (starts (first first_of e.match_expr) ls || (starts (Sign k.Not ∷ []) ls || starts (first first_of e.atom) ls)))
unfolding e.path_root e.path e.flag e.number e.literal e.option e.atom e.unary e.compared e.conjunction e.disjunction e.condition e.if_expr e.scrutinee e.match_expr e.expression
expression_starts ls = four (first first_of e.if_expr) (first first_of e.match_expr) (Sign k.Not ∷ []) (first first_of e.atom) ls

pub term_starts : (ls : List Piece)
    → starts (first first_of e.set_term) ls
    ≡ (starts (Word k.Lower (codes "public") ∷ []) ls || (starts (Word k.Lower (codes "none") ∷ []) ls || (starts (first first_of e.list) ls
    || (starts (Sign k.ParenOpen ∷ []) ls || (starts (first first_of e.found) ls || starts (Lower ∷ []) ls)))))
unfolding e.set_term e.path_chain
term_starts ls =
    four (Word k.Lower (codes "public") ∷ []) (Word k.Lower (codes "none") ∷ []) (first first_of e.list) _ ls
    ∙ ap (λ z. starts (Word k.Lower (codes "public") ∷ []) ls || (starts (Word k.Lower (codes "none") ∷ []) ls || (starts (first first_of e.list) ls || z)))
    (starts_append (Sign k.ParenOpen ∷ []) (first first_of e.found ++ (Lower ∷ [])) ls
    ∙ ap (λ z. starts (Sign k.ParenOpen ∷ []) ls || z) (starts_append (first first_of e.found) (Lower ∷ []) ls))

three : (a b c : List Want) (ls : List Piece) → starts (a ++ (b ++ c)) ls ≡ (starts a ls || (starts b ls || starts c ls))
three a b c ls = starts_append a (b ++ c) ls ∙ ap (λ z. starts a ls || z) (starts_append b c ls)

pub set_starts : (ls : List Piece)
    → starts (first_of Set) ls ≡ (starts (first first_of e.if_set) ls || (starts (first first_of e.match_set) ls || starts (first first_of e.set_term) ls))
unfolding e.condition e.scrutinee e.if_set e.match_set e.set e.sum e.set_term e.list e.found e.find e.path_chain
set_starts ls = three (first first_of e.if_set) (first first_of e.match_set) (first first_of e.set_term) ls
