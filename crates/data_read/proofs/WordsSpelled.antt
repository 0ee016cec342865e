-- The names of models and fields in texts are words.
use Rattle.std.proofs.Common.{◌≡◌, not, ℕ, Bool, true, false, inl, inr, List, [], ◌∷◌, refl, sym, ◌∙◌, ap, subst}
use Rattle.std.specs.List.{AllByRecursion}
use Rattle.text_lexer.specs.declared.token.TokenKind.TheVariants as k
use Rattle.text_lexer.specs.Written.{IsPart}
use Rattle.text_ast.specs.Pieces.{Piece, pieces_of}
use Rattle.text_ast.specs.Words.{is_reserved_lower, is_reserved_upper}
use Rattle.text_tree.specs.declared.models.FieldDef.{FieldDef}
use Rattle.text_tree.specs.declared.models.ModelDef.{ModelDef}
use Rattle.text_tree.specs.declared.models.Spec.{Spec}
use Rattle.text_tree.specs.declared.commands.Command.{Command}
use Rattle.text_tree.specs.declared.commands.Command.TheVariants as command
use Rattle.text_tree.specs.declared.commands.Script.{Script}
use Rattle.text_tree.specs.Forms.{IsToken, Lower, Sign, Spells, SpellsEach, Upper, admits, same_kind, ◌then◌}
use Rattle.text_tree.specs.ExprGrammar.{rule}
use Rattle.text_tree.specs.Grammar.{add_field, command_form, field_form, fields_form, model_command, model_form, most_levels, remove_field, script_form, spec_form, update_field, update_model, weaken_field, weaken_model}
use Rattle.text_tree.specs.Levels.{SpellsPart}
use Rattle.text_tree.specs.Texts.{IsScriptText, IsSpecText}
use Rattle.text_print.proofs.Canonical.{AreGood, good_back, good_front, good_one, lexeme}
use Rattle.text_print.proofs.TextLaw.{good_text}
use Rattle.text_print.proofs.Tokens.{Pieces, as_kind, both_true}
use Rattle.data_read.specs.Words.{IsFieldName, IsModelName}

-- ---- in trees

abbrev pub FieldHasWords : FieldDef → Type 0
FieldHasWords f = IsFieldName f.name.name

pub record DefHasWords (d : ModelDef) : Type 0 where
  pub model : IsModelName d.name.name
  pub fields : AllByRecursion FieldHasWords d.fields

abbrev pub SpecHasWords : Spec → Type 0
SpecHasWords x = AllByRecursion DefHasWords x.models

-- those that a command brings
abbrev pub CommandHasWords : Command → Type 0
CommandHasWords (command.CreateModel d at) = DefHasWords d
CommandHasWords (command.DeleteModel x at) = Unit {0}
CommandHasWords (command.AddStatic x at) = Unit {0}
CommandHasWords (command.RemoveStatic x at) = Unit {0}
CommandHasWords (command.AddPrincipal x at) = Unit {0}
CommandHasWords (command.AddField m f x i at) = FieldHasWords f
CommandHasWords (command.RemoveField m f at) = Unit {0}
CommandHasWords (command.UpdateFieldPolicy m f a b at) = Unit {0}
CommandHasWords (command.WeakenFieldPolicy m f a b p at) = Unit {0}
CommandHasWords (command.UpdatePolicy m a b at) = Unit {0}
CommandHasWords (command.WeakenPolicy m a b p at) = Unit {0}

-- ---- tokens

not-true : (b : Bool) → not b ≡ true → b ≡ false
not-true true e = cc
not-true false e = refl

lower-name : (l : Piece) → IsPart (lexeme l) → admits Lower l ≡ true → IsFieldName l.bytes
unfolding admits
lower-name l part h =
    let tests = both_true (same_kind l.kind k.Lower) (not (is_reserved_lower l.bytes)) h in
    record { word = (as_kind l k.Lower tests.0 part).lexeme; free = not-true (is_reserved_lower l.bytes) tests.1 }

upper-name : (l : Piece) → IsPart (lexeme l) → admits Upper l ≡ true → IsModelName l.bytes
unfolding admits
upper-name l part h =
    let tests = both_true (same_kind l.kind k.Upper) (not (is_reserved_upper l.bytes)) h in
    record { word = (as_kind l k.Upper tests.0 part).lexeme; free = not-true (is_reserved_upper l.bytes) tests.1 }

each-words : {A : Type 0} (F : A → List Piece → Type 0) (P : A → Type 0) → ((x : A) (ls : List Piece) → AreGood ls → F x ls → P x) → (xs : List A) (ls : List Piece) → AreGood ls
    → SpellsEach F xs ls → AllByRecursion P xs
each-words F P one [] ls good h = tt
each-words F P one (x ∷ xs) ls good (p, q, g, first, more) =
    (one x p (good_front ls p q g good) first, each-words F P one xs q (good_back ls p q g good) more)

module _ (S : Pieces) where
  -- ---- specifications

  field-words : (x : FieldDef) (ls : List Piece) → AreGood ls → Spells S field_form x ls → FieldHasWords x
  unfolding field_form
  field-words x ls good (v, is, (p, q, g, (one, a), rest)) =
      subst FieldHasWords (sym is) (lower-name v.0 (good_one p v.0 one (good_front ls p q g good)) a)

  abbrev Behind : FieldDef → List Piece → Type 0
  Behind x ls = (IsToken (Sign k.Comma) then Spells S field_form x) ls

  behind-words : (x : FieldDef) (ls : List Piece) → AreGood ls → Behind x ls → FieldHasWords x
  behind-words x ls good (p, q, g, comma, field) = field-words x q (good_back ls p q g good) field

  fields-words : (xs : List FieldDef) (ls : List Piece) → AreGood ls → Spells S fields_form xs ls → AllByRecursion FieldHasWords xs
  unfolding fields_form
  fields-words xs ls good (v, is, ((p, q, g, items, end), few)) =
      subst (AllByRecursion FieldHasWords) (sym is) (each-words Behind FieldHasWords behind-words v.0 p (good_front ls p q g good) items)

  model-words : (d : ModelDef) (ls : List Piece) → AreGood ls → Spells S model_form d ls → DefHasWords d
  unfolding model_form
  model-words d ls good (v, is, (p, q, g, head, (p2, q2, g2, (one, a), (w, is2, (p3, q3, g3, brace, (p4, q4, g4, create, (p5, q5, g5, delete, fields))))))) =
      let behind-head = good_back ls p q g good in
      let behind-name = good_back q p2 q2 g2 behind-head in
      let behind-brace = good_back q2 p3 q3 g3 behind-name in
      let behind-create = good_back q3 p4 q4 g4 behind-brace in
      let behind-delete = good_back q4 p5 q5 g5 behind-create in
      let words = fields-words w.1.1.1 q5 behind-delete fields in
      subst DefHasWords (sym is)
      (record {
        model = upper-name v.1.0 (good_one p2 v.1.0 one (good_front q p2 q2 g2 behind-head)) a;
        fields = subst (AllByRecursion FieldHasWords) (ap (λ z. z.1.1) (sym is2)) words;
      })

  spec-words : (x : Spec) (ls : List Piece) → AreGood ls → Spells S spec_form x ls → SpecHasWords x
  unfolding spec_form
  spec-words x ls good (v, is, (p, q, g, statics, (models, few))) =
      subst SpecHasWords (sym is) (each-words (Spells S model_form) DefHasWords model-words v.1 q (good_back ls p q g good) models)

  -- ---- scripts

  added-words : (make : Piece → Command) (model : Piece) (ls : List Piece) → AreGood ls → Spells S add_field make ls → CommandHasWords (make model)
  unfolding add_field
  added-words make model ls good (v, is, (w, is2, (p, q, g, word, (u, is3, (p2, q2, g2, open_, (p3, q3, g3, (p4, q4, g4, (one, a), rest), close)))))) =
      let inner = good_front q2 p3 q3 g3 (good_back q p2 q2 g2 (good_back ls p q g good)) in
      let name = lower-name u.1.0.0 (good_one p4 u.1.0.0 one (good_front p3 p4 q4 g4 inner)) a in
      let same : v.0 ≡ u.1.0.0 = ap (λ z. z.0) (is2 ∙ is3) in
      subst (λ (z : Piece → Command). CommandHasWords (z model)) (sym is) (subst (λ (z : Piece). IsFieldName z.bytes) (sym same) name)

  model_command-words : (c : Command) (ls : List Piece) → AreGood ls → Spells S model_command c ls → CommandHasWords c
  unfolding model_command remove_field update_field weaken_field update_model weaken_model
  model_command-words c ls good (v, is, (p, q, g, name, (u, is2, (p2, q2, g2, colons, inl added)))) =
      subst CommandHasWords (sym (is ∙ ap (λ (z : Piece → Command). z v.0) is2)) (added-words u.1 v.0 q2 (good_back q p2 q2 g2 (good_back ls p q g good)) added)
  model_command-words c ls good (v, is, (p, q, g, name, (u, is2, (p2, q2, g2, colons, inr (inl (w, made, rest)))))) =
      subst CommandHasWords (sym (is ∙ ap (λ (z : Piece → Command). z v.0) (is2 ∙ made))) tt
  model_command-words c ls good (v, is, (p, q, g, name, (u, is2, (p2, q2, g2, colons, inr (inr (inl (w, made, rest))))))) =
      subst CommandHasWords (sym (is ∙ ap (λ (z : Piece → Command). z v.0) (is2 ∙ made))) tt
  model_command-words c ls good (v, is, (p, q, g, name, (u, is2, (p2, q2, g2, colons, inr (inr (inr (inl (w, made, rest)))))))) =
      subst CommandHasWords (sym (is ∙ ap (λ (z : Piece → Command). z v.0) (is2 ∙ made))) tt
  model_command-words c ls good (v, is, (p, q, g, name, (u, is2, (p2, q2, g2, colons, inr (inr (inr (inr (inl (w, made, rest))))))))) =
      subst CommandHasWords (sym (is ∙ ap (λ (z : Piece → Command). z v.0) (is2 ∙ made))) tt
  model_command-words c ls good (v, is, (p, q, g, name, (u, is2, (p2, q2, g2, colons, inr (inr (inr (inr (inr (w, made, rest))))))))) =
      subst CommandHasWords (sym (is ∙ ap (λ (z : Piece → Command). z v.0) (is2 ∙ made))) tt

  command-words : (c : Command) (ls : List Piece) → AreGood ls → Spells S command_form c ls → CommandHasWords c
  unfolding command_form
  command-words c ls good (inl (v, is, (p, q, g, word, (u, is2, (p2, q2, g2, open_, (p3, q3, g3, model, close)))))) =
      let words = model-words u.1.0 p3 (good_front q2 p3 q3 g3 (good_back q p2 q2 g2 (good_back ls p q g good))) model in
      subst CommandHasWords (sym is) (subst DefHasWords (sym is2) words)
  command-words c ls good (inr (inl (v, is, rest))) = subst CommandHasWords (sym is) tt
  command-words c ls good (inr (inr (inl (v, is, rest)))) = subst CommandHasWords (sym is) tt
  command-words c ls good (inr (inr (inr (inl (v, is, rest))))) = subst CommandHasWords (sym is) tt
  command-words c ls good (inr (inr (inr (inr (inl (v, is, rest)))))) = subst CommandHasWords (sym is) tt
  command-words c ls good (inr (inr (inr (inr (inr named))))) = model_command-words c ls good named

  script-words : (x : Script) (ls : List Piece) → AreGood ls → Spells S script_form x ls → AllByRecursion CommandHasWords x.commands
  unfolding script_form
  script-words x ls good (cs, is, (each, few)) =
      subst (λ (z : Script). AllByRecursion CommandHasWords z.commands) (sym is) (each-words (Spells S command_form) CommandHasWords command-words cs ls good each)

-- ---- texts

pub spec-text-words : (text : List ℕ) (x : Spec) → IsSpecText text x → SpecHasWords x
spec-text-words text x (tokens, lexes, spells) = spec-words (SpellsPart rule most_levels) x (pieces_of text tokens) (good_text text tokens lexes) spells

pub script-text-words : (text : List ℕ) (x : Script) → IsScriptText text x → AllByRecursion CommandHasWords x.commands
script-text-words text x (tokens, lexes, spells) = script-words (SpellsPart rule most_levels) x (pieces_of text tokens) (good_text text tokens lexes) spells
