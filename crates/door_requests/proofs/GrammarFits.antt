-- The tables of the grammar fit its forms: each choice is decided by the next token.
use Rattle.std.proofs.Common.{◌≡◌, List, [], refl, subst, true, false}
use Rattle.text_ast.specs.Words.{is_type_word, is_command_word, is_reserved_lower}
use Rattle.text_tree.specs.Forms.{Form, Want, same_kind, loosened, first, empty, nothing, token, both, either, each, ended, mapped, part, within}
use Rattle.door_requests.specs.declared.place.Place.{Place}
use Rattle.door_requests.specs.declared.place.Place.TheVariants as place
use Rattle.door_requests.specs.Grammar as g
use Rattle.door_requests.specs.Grammar.{rule, tree_of}
use Rattle.door_requests.specs.Texts.{first_of}
use Rattle.text_grammar.proofs.Tables.{mores, fine}
use Rattle.text_grammar.proofs.FormAgrees.{Limited}
use Rattle.text_grammar.proofs.LevelsAgree.{Fits, Unlimited}
use Rattle.text_grammar.proofs.GrammarFits.{limited_loosened}
use Rattle.text_grammar.proofs.Covers.{covers, covers_sound}
use Rattle.text_grammar.proofs.WholeLists.{limited}
use Rattle.text_grammar.proofs.FormCaught.{counts_parts}

unlimited_loosened : {P : Type 0} {T : P → Type 0} {A : Type 0} (f : Form P T A) → Unlimited (loosened f)
unlimited_loosened (nothing x) = tt
unlimited_loosened (token w) = tt
unlimited_loosened (both f g) = (unlimited_loosened f, unlimited_loosened g)
unlimited_loosened (either f g) = (unlimited_loosened f, unlimited_loosened g)
unlimited_loosened (each times f) = unlimited_loosened f
unlimited_loosened (ended times w f g h) = (unlimited_loosened f, unlimited_loosened g, unlimited_loosened h)
unlimited_loosened (mapped make f) = unlimited_loosened f
unlimited_loosened (part p) = tt
unlimited_loosened (within most f) = unlimited_loosened f

-- what may go on with a value
abbrev pub goes_on : Place → List Want
goes_on p = mores first_of (λ q. []) (rule p)

tight : (p : Place) → loosened (rule p) ≡ rule p
unfolding same_kind is_reserved_lower is_type_word is_command_word g.id_form g.flag g.number g.text g.id g.option g.list g.common g.own g.head_form g.model_form g.name_form g.spot_form g.record_form g.whose_form g.who_form g.order_form g.op_form g.condition_form g.field_form g.conditions_form g.row_form g.open_form g.renew_form g.close_form g.read_form g.find_form g.write_form g.create_form g.delete_form g.migrate_form g.session_form g.looking_form g.changing_form g.request_form g.line_form
tight place.Plain = refl
tight place.NewRow = refl

firsts : (p : Place) → first first_of (rule p) ≡ first_of p
unfolding same_kind is_reserved_lower is_type_word is_command_word g.id_form g.flag g.number g.text g.id g.option g.list g.common g.own g.head_form g.model_form g.name_form g.spot_form g.record_form g.whose_form g.who_form g.order_form g.op_form g.condition_form g.field_form g.conditions_form g.row_form g.open_form g.renew_form g.close_form g.read_form g.find_form g.write_form g.create_form g.delete_form g.migrate_form g.session_form g.looking_form g.changing_form g.request_form g.line_form
firsts place.Plain = refl
firsts place.NewRow = refl

full : (p : Place) → empty (rule p) ≡ false
unfolding same_kind is_reserved_lower is_type_word is_command_word g.id_form g.flag g.number g.text g.id g.option g.list g.common g.own g.head_form g.model_form g.name_form g.spot_form g.record_form g.whose_form g.who_form g.order_form g.op_form g.condition_form g.field_form g.conditions_form g.row_form g.open_form g.renew_form g.close_form g.read_form g.find_form g.write_form g.create_form g.delete_form g.migrate_form g.session_form g.looking_form g.changing_form g.request_form g.line_form
full place.Plain = refl
full place.NewRow = refl

covered : (p : Place) → covers (goes_on p) (mores first_of goes_on (rule p)) ≡ true
unfolding same_kind is_reserved_lower is_type_word is_command_word g.id_form g.flag g.number g.text g.id g.option g.list g.common g.own g.head_form g.model_form g.name_form g.spot_form g.record_form g.whose_form g.who_form g.order_form g.op_form g.condition_form g.field_form g.conditions_form g.row_form g.open_form g.renew_form g.close_form g.read_form g.find_form g.write_form g.create_form g.delete_form g.migrate_form g.session_form g.looking_form g.changing_form g.request_form g.line_form
covered place.Plain = refl
covered place.NewRow = refl

rule_fine : (p : Place) → fine first_of goes_on (rule p) ≡ true
unfolding same_kind is_reserved_lower is_type_word is_command_word g.id_form g.flag g.number g.text g.id g.option g.list g.common g.own g.head_form g.model_form g.name_form g.spot_form g.record_form g.whose_form g.who_form g.order_form g.op_form g.condition_form g.field_form g.conditions_form g.row_form g.open_form g.renew_form g.close_form g.read_form g.find_form g.write_form g.create_form g.delete_form g.migrate_form g.session_form g.looking_form g.changing_form g.request_form g.line_form
rule_fine place.Plain = refl
rule_fine place.NewRow = refl

pub fits : Fits rule first_of goes_on
fits = record {
  tight = tight;
  firsts = firsts;
  goes = λ p. covers_sound (goes_on p) (mores first_of goes_on (rule p)) (covered p);
  full = full;
  is_fine = rule_fine;
  limited = λ p. (let L : Form Place tree_of (tree_of p) → Type 0 = λ f. Limited f in subst L (tight p) (limited_loosened (rule p)));
  unlimited = λ p. (let U : Form Place tree_of (tree_of p) → Type 0 = λ f. Unlimited f in subst U (tight p) (unlimited_loosened (rule p)));
}

pub line_fits : fine first_of goes_on g.line_form ≡ true
unfolding same_kind is_reserved_lower is_type_word is_command_word g.id_form g.flag g.number g.text g.id g.option g.list g.common g.own g.head_form g.model_form g.name_form g.spot_form g.record_form g.whose_form g.who_form g.order_form g.op_form g.condition_form g.field_form g.conditions_form g.row_form g.open_form g.renew_form g.close_form g.read_form g.find_form g.write_form g.create_form g.delete_form g.migrate_form g.session_form g.looking_form g.changing_form g.request_form g.line_form
line_fits = refl

pub line_limited : limited g.line_form ≡ true
unfolding same_kind is_reserved_lower is_type_word is_command_word g.id_form g.flag g.number g.text g.id g.option g.list g.common g.own g.head_form g.model_form g.name_form g.spot_form g.record_form g.whose_form g.who_form g.order_form g.op_form g.condition_form g.field_form g.conditions_form g.row_form g.open_form g.renew_form g.close_form g.read_form g.find_form g.write_form g.create_form g.delete_form g.migrate_form g.session_form g.looking_form g.changing_form g.request_form g.line_form
line_limited = refl

pub line_counts : counts_parts g.line_form ≡ true
unfolding same_kind is_reserved_lower is_type_word is_command_word g.id_form g.flag g.number g.text g.id g.option g.list g.common g.own g.head_form g.model_form g.name_form g.spot_form g.record_form g.whose_form g.who_form g.order_form g.op_form g.condition_form g.field_form g.conditions_form g.row_form g.open_form g.renew_form g.close_form g.read_form g.find_form g.write_form g.create_form g.delete_form g.migrate_form g.session_form g.looking_form g.changing_form g.request_form g.line_form
line_counts = refl
