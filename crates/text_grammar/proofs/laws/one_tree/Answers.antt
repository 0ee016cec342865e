use Rattle.std.proofs.Common.{◌≡◌, ◌≤◌, ◌+◌, ℕ, List, [], sym, ◌∙◌, arith, true, subst}
use Rattle.text_ast.specs.Pieces.{Piece}
use Rattle.text_tree.specs.Forms.{loosened, Form, Spells}
use Rattle.text_tree.specs.Levels.{SpellsPart}
use Rattle.text_tree.specs.ExprGrammar.{Part, tree_of, rule}
use Rattle.text_tree.specs.Texts.{IsSpelledAt, first_of}
use Rattle.text_tree.specs.Grammar.{spec_form, script_form}
use Rattle.text_grammar.specs.Reading.{Got}
use Rattle.text_grammar.proofs.Tables.{fine}
use Rattle.text_grammar.proofs.LevelsAgree.{form_agrees}
use Rattle.text_grammar.proofs.GrammarFits.{fits, goes_on, limited_loosened, spec_fine, script_fine, spec_loose, script_loose}
use Rattle.text_grammar.proofs.laws.one_tree.Goals as goal

got_one : {A : Type 0} {x y : A} {a b : List Piece} → Got x a ≡ Got y b → x ≡ y
got_one {A} {x} {y} {a} {b} e = cc

-- what so many levels spell, more levels spell
more : {A : Type 0} (f : Form Part tree_of A) → fine first_of goes_on (loosened f) ≡ true → loosened (loosened f) ≡ loosened f → (n m : ℕ) → n ≤ m → (ls : List Piece) (s : A)
    → IsSpelledAt n f s ls → IsSpelledAt m f s ls
more {A} f e same n m le ls s h =
    let a = form_agrees rule first_of goes_on fits n m le (loosened f) e (limited_loosened f) in
    let L : Form Part tree_of A → Type 0 = λ f. Spells (SpellsPart rule m) f s ls in
    subst L same (a.free s ls h)

-- both are what is read
one : {A : Type 0} (f : Form Part tree_of A) → fine first_of goes_on (loosened f) ≡ true → loosened (loosened f) ≡ loosened f → (n m : ℕ) (ls : List Piece) (s t : A)
    → IsSpelledAt n f s ls → IsSpelledAt m f t ls → s ≡ t
one {A} f e same n m ls s t hs ht =
    let a = form_agrees rule first_of goes_on fits (n + m) (n + m) (omega arith) (loosened f) e (limited_loosened f) in
    got_one (sym (a.complete s ls [] (more f e same n (n + m) (omega arith) ls s hs) tt) ∙ a.complete t ls [] (more f e same m (n + m) (omega arith) ls t ht) tt)

pub returns-clause-spec : goal.returns-clause-spec
returns-clause-spec c = one spec_form spec_fine spec_loose

pub returns-clause-script : goal.returns-clause-script
returns-clause-script c = one script_form script_fine script_loose
