-- The same pieces elsewhere spell no other tree, offsets aside.
use Rattle.std.proofs.Common.{◌≡◌, ◌≤◌, ◌+◌, ℕ, List, [], ap, sym, ◌∙◌, arith, true, subst, refl}
use Rattle.text_ast.specs.Words.{is_type_word, is_command_word, is_reserved_lower}
use Rattle.text_ast.specs.Pieces.{Piece}
use Rattle.text_tree.specs.Forms.{Spells, loosened, same_kind}
use Rattle.text_tree.specs.Levels.{SpellsPart}
use Rattle.text_tree.specs.ExprGrammar as e
use Rattle.text_tree.specs.ExprGrammar.{G, rule}
use Rattle.text_tree.specs.Grammar as g
use Rattle.text_tree.specs.Texts.{IsSpelledAt, first_of}
use Rattle.text_grammar.specs.Reading.{Got}
use Rattle.text_grammar.proofs.Tables.{fine}
use Rattle.text_grammar.proofs.LevelsAgree.{form_agrees}
use Rattle.text_grammar.proofs.GrammarFits.{fits, goes_on, limited_loosened}
use Rattle.text_print.proofs.Canonical.{lexemes}
use Rattle.text_print.proofs.Elsewhere.{Steady}

got_one : {A : Type 0} {x y : A} {a b : List Piece} → Got x a ≡ Got y b → x ≡ y
got_one {A} {x} {y} {a} {b} e = cc

-- what so many levels spell, more levels spell
more : {A : Type 0} (f : G A) → fine first_of goes_on (loosened f) ≡ true → loosened (loosened f) ≡ loosened f → (n m : ℕ) → n ≤ m → (ls : List Piece) (s : A)
    → IsSpelledAt n f s ls → IsSpelledAt m f s ls
more {A} f e same n m le ls s h =
    let a = form_agrees rule first_of goes_on fits n m le (loosened f) e (limited_loosened f) in
    let L : G A → Type 0 = λ f. Spells (SpellsPart rule m) f s ls in
    subst L same (a.free s ls h)

-- both are what is read
one : {A : Type 0} (f : G A) → fine first_of goes_on (loosened f) ≡ true → loosened (loosened f) ≡ loosened f → (n m : ℕ) (ls : List Piece) (s t : A)
    → IsSpelledAt n f s ls → IsSpelledAt m f t ls → s ≡ t
one {A} f e same n m ls s t hs ht =
    let a = form_agrees rule first_of goes_on fits (n + m) (n + m) (omega arith) (loosened f) e (limited_loosened f) in
    got_one (sym (a.complete s ls [] (more f e same n (n + m) (omega arith) ls s hs) tt) ∙ a.complete t ls [] (more f e same m (n + m) (omega arith) ls t ht) tt)

pub one_elsewhere : {A : Type 0} (f : G A) (stripped : A → A) → fine first_of goes_on (loosened f) ≡ true → loosened (loosened f) ≡ loosened f → (n m : ℕ)
    → Steady (SpellsPart rule n) f (λ x y. stripped y ≡ stripped x) → (x y : A) (ls ks : List Piece) → lexemes ks ≡ lexemes ls
    → IsSpelledAt n f x ls → IsSpelledAt m f y ks → stripped x ≡ stripped y
one_elsewhere {A} f stripped e same n m steady x y ls ks alike hx hy =
    let there = steady.loose.go x ls ks alike hx in
    sym there.is ∙ ap stripped (one f e same n m ks there.value y there.spells hy)

pub policy_fine : fine first_of goes_on (loosened g.policy_form) ≡ true
unfolding same_kind is_type_word is_command_word is_reserved_lower e.path_root e.path e.flag e.number e.literal e.option e.atom e.unary e.cmp_op e.container e.comparison e.compared e.conjunction e.disjunction e.condition e.if_expr e.scrutinee e.match_expr e.expression e.item_form e.list e.filter_op e.filter_form e.find e.map_step e.flat_step e.steps e.found e.path_steps e.path_chain e.set_term e.set_step e.sum e.if_set e.match_set e.set g.policy_form g.base_form g.set_type g.plain_type g.field_rights g.field_form g.fields_form g.model_head g.model_form g.static_form g.spec_form g.field_right_list g.model_right_list g.reason_form g.added_set g.added_plain g.add_field g.remove_field g.update_field g.weaken_field g.update_model g.weaken_model g.model_command g.command_form g.script_form
policy_fine = refl

pub policy_loose : loosened (loosened g.policy_form) ≡ loosened g.policy_form
unfolding g.policy_form
policy_loose = refl
