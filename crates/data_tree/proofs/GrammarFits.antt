-- The tables of the grammar fit its forms: each choice is decided by the next token.
use Rattle.std.proofs.Common.{◌≡◌, List, [], refl, subst, true, false}
use Rattle.text_ast.specs.Words.{is_type_word, is_command_word, is_reserved_lower}
use Rattle.text_tree.specs.Forms.{Form, Want, same_kind, loosened, first, empty, nothing, token, both, either, each, ended, mapped, part, within}
use Rattle.data_tree.specs.Grammar as g
use Rattle.data_tree.specs.Grammar.{Part, Value, rule, tree_of}
use Rattle.data_tree.specs.Texts.{first_of}
use Rattle.text_grammar.proofs.Tables.{mores, fine}
use Rattle.text_grammar.proofs.FormAgrees.{Limited}
use Rattle.text_grammar.proofs.LevelsAgree.{Fits, Unlimited}
use Rattle.text_grammar.proofs.GrammarFits.{limited_loosened}
use Rattle.text_grammar.proofs.Covers.{covers, covers_sound}
use Rattle.text_grammar.proofs.WholeLists.{limited}
use Rattle.text_grammar.proofs.FormCaught.{counts_parts}

-- what may go on with a value
abbrev pub goes_on : Part → List Want
goes_on p = mores first_of (λ q. []) (rule p)

unlimited_loosened : {P : Type 0} {T : P → Type 0} {A : Type 0} (f : Form P T A) → Unlimited (loosened f)
unlimited_loosened (nothing x) = tt
unlimited_loosened (token w) = tt
unlimited_loosened (both f g) = (unlimited_loosened f, unlimited_loosened g)
unlimited_loosened (either f g) = (unlimited_loosened f, unlimited_loosened g)
unlimited_loosened (each times f) = unlimited_loosened f
unlimited_loosened (ended times w f g h) = (unlimited_loosened f, unlimited_loosened g, unlimited_loosened h)
unlimited_loosened (mapped make f) = unlimited_loosened f
unlimited_loosened (part p) = tt
unlimited_loosened (within most f) = unlimited_loosened f

tight : (p : Part) → loosened (rule p) ≡ rule p
unfolding same_kind is_reserved_lower is_type_word is_command_word g.id_form g.flag g.number g.text g.id g.option g.list g.value g.field_form g.record_form g.table_form g.data_form
tight Value = refl

firsts : (p : Part) → first first_of (rule p) ≡ first_of p
unfolding same_kind is_reserved_lower is_type_word is_command_word g.id_form g.flag g.number g.text g.id g.option g.list g.value g.field_form g.record_form g.table_form g.data_form
firsts Value = refl

full : (p : Part) → empty (rule p) ≡ false
unfolding same_kind is_reserved_lower is_type_word is_command_word g.id_form g.flag g.number g.text g.id g.option g.list g.value g.field_form g.record_form g.table_form g.data_form
full Value = refl

covered : (p : Part) → covers (goes_on p) (mores first_of goes_on (rule p)) ≡ true
unfolding same_kind is_reserved_lower is_type_word is_command_word g.id_form g.flag g.number g.text g.id g.option g.list g.value g.field_form g.record_form g.table_form g.data_form
covered Value = refl

rule_fine : (p : Part) → fine first_of goes_on (rule p) ≡ true
unfolding same_kind is_reserved_lower is_type_word is_command_word g.id_form g.flag g.number g.text g.id g.option g.list g.value g.field_form g.record_form g.table_form g.data_form
rule_fine Value = refl

pub fits : Fits rule first_of goes_on
fits = record {
  tight = tight;
  firsts = firsts;
  goes = λ p. covers_sound (goes_on p) (mores first_of goes_on (rule p)) (covered p);
  full = full;
  is_fine = rule_fine;
  limited = λ p. (let L : Form Part tree_of (tree_of p) → Type 0 = λ f. Limited f in subst L (tight p) (limited_loosened (rule p)));
  unlimited = λ p. (let U : Form Part tree_of (tree_of p) → Type 0 = λ f. Unlimited f in subst U (tight p) (unlimited_loosened (rule p)));
}

pub data_fits : fine first_of goes_on g.data_form ≡ true
unfolding same_kind is_reserved_lower is_type_word is_command_word g.id_form g.flag g.number g.text g.id g.option g.list g.value g.field_form g.record_form g.table_form g.data_form
data_fits = refl

pub data_limited : limited g.data_form ≡ true
unfolding same_kind is_reserved_lower is_type_word is_command_word g.id_form g.flag g.number g.text g.id g.option g.list g.value g.field_form g.record_form g.table_form g.data_form
data_limited = refl

pub data_counts : counts_parts g.data_form ≡ true
unfolding same_kind is_reserved_lower is_type_word is_command_word g.id_form g.flag g.number g.text g.id g.option g.list g.value g.field_form g.record_form g.table_form g.data_form
data_counts = refl
