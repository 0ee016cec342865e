-- What is printed of models and specifications spells them.
use Rattle.std.proofs.Common.{◌≡◌, ◌≤◌, ◌+◌, ◌⊎◌, inl, inr, ℕ, arith, length, Bool, true, false, List, [], ◌∷◌, ◌++◌, map, codes, refl, sym, ◌∙◌, ap, subst, append_assoc}
use Rattle.std.specs.List.{flat_map}
use Rattle.text_lexer.specs.declared.token.TokenKind.TheVariants as k
use Rattle.text_lexer.specs.Lexeme.{Lexeme, sign_of}
use Rattle.text_ast.specs.Pieces.{Piece}
use Rattle.text_tree.specs.declared.named.Named.{Named}
use Rattle.text_tree.specs.declared.policies.Policy.{Policy}
use Rattle.text_tree.specs.declared.models.FieldDef.{FieldDef}
use Rattle.text_tree.specs.declared.models.ModelDef.{ModelDef}
use Rattle.text_tree.specs.declared.models.Spec.{Spec}
use Rattle.text_tree.specs.Forms.{AtMost, TooManyModels, TooManyStatics, Spells, SpellsEach, IsToken, same_kind, ◌then◌, Sign, Word, Upper, token, each}
use Rattle.text_tree.specs.ExprGrammar.{◌⨾◌, behind, keyword, named, sign}
use Rattle.text_tree.specs.Grammar.{base_form, field_rights, plain_type, policy_form, set_type, field_form, fields_form, model_form, model_head, most_fields, most_models, most_statics, right, spec_form, static_form}
use Rattle.text_tree.specs.Stripped.{stripped_field, stripped_model, stripped_name, stripped_policy, stripped_spec}
use Rattle.text_print.specs.Exprs.{joined}
use Rattle.text_print.specs.Models.{entry_line, field_line, model_lines, principal_mark, spelled_field, spelled_model, spelled_spec, static_line}
use Rattle.text_print.specs.Models as model
use Rattle.text_print.specs.Marks.{Mark, lexemes_of_marks}
use Rattle.text_print.specs.Marks as mark
use Rattle.text_print.proofs.Canonical as c
use Rattle.text_print.proofs.Canonical.{AreGood, Canonical, Same, each_same, flat, moved, good_back, good_front, size_of, size_one}
use Rattle.text_print.proofs.ExprForms.{name_as}
use Rattle.text_print.proofs.LastCommas.{Calm, Facts, Silent, behind_silent, both_facts, each_facts, each_keeps, ends, facts, keeps, kinds, lasts, lasts_short, not_last, silent, silent_list, token_facts, token_keeps, two_keeps}
use Rattle.text_print.proofs.PolicyForms.{AsField, AsName, AsPolicy, comma, field_lexemes, p_field, p_right, right_lexemes, type, word}
use Rattle.text_print.proofs.Printed.{Prints, PrintsTo, Within, counted, each_more, p_behind, p_behind_to, p_both_to, p_each, p_mapped, p_mapped_to, p_upper, same_length, within_count}
use Rattle.text_print.proofs.Ranks.{lexemes_append}
use Rattle.text_print.proofs.SetForms.{joined_lexemes, same_map}
use Rattle.text_print.proofs.SetRanks.{Knows}
use Rattle.text_print.proofs.Tokens.{Pieces, Any, Tok, at, brace_close_token, brace_open_token, comma_token, lower_word}

abbrev pub brace_open : Lexeme
brace_open = at k.BraceOpen (sign_of k.BraceOpen)

abbrev pub brace_close : Lexeme
brace_close = at k.BraceClose (sign_of k.BraceClose)

-- ---- the fields of a model

-- a field behind a comma
abbrev pub Behind : Pieces → FieldDef → List Piece → Type 0
Behind S x ls = (IsToken (Sign k.Comma) then Spells S field_form x) ls

behind_again : (S : Pieces) → Knows S → (x : FieldDef) (ls : List Piece) → AreGood ls → Behind S x ls → Canonical (AsField x) (Behind S) (comma ∷ field_lexemes x) (length ls)
behind_again S know x ls good (a, b, g, l, d) =
    c.rewritten refl (omega (arith, size_of ls a b g, size_one a l.0 l.1))
    (moved (λ v. v.1) (λ v r. r.1) (λ v ks (p, q, h, (ci, ca), e). (p, q, h, (v.0, ci, ca), e))
    (c.both (comma_token S) (p_field S know x b (good_back ls a b g good) d)))

abbrev pub items_lexemes : List FieldDef → List Lexeme
items_lexemes = flat (λ x. comma ∷ field_lexemes x)

-- what ends the fields
abbrev pub End : Pieces → Piece → List Piece → Type 0
End S x ls = (IsToken (Sign k.Comma) then Tok S (Sign k.BraceClose) x) ls ⊎ Tok S (Sign k.BraceClose) x ls

closed : (S : Pieces) → Canonical Any (End S) (brace_close ∷ []) 1
closed S = moved (λ x. x) (λ x r. r) (λ x ks d. inr d) (brace_close_token S)

closed_behind : (S : Pieces) → Canonical Any (End S) (comma ∷ brace_close ∷ []) 2
closed_behind S =
    moved (λ v. v.1) (λ v r. tt) (λ v ks (p, q, h, (ci, ca), e). inl (p, q, h, (v.0, ci, ca), e)) (c.both (comma_token S) (brace_close_token S))

-- a closing brace at least, which a comma may stand before
end_long : (S : Pieces) (x : Piece) (ls : List Piece) → End S x ls → 1 + lasts (kinds ls) ≤ length ls
end_long S x ls (inl (a, b, g, l, t)) =
    let e : ls ≡ l.0 ∷ (x ∷ []) = g ∙ ap (λ z. z ++ b) l.1 ∙ ap (λ z. l.0 ∷ z) t.0 in
    let short : lasts (kinds (l.0 ∷ (x ∷ []))) ≤ 1 = lasts_short l.0.kind (x.kind ∷ []) in
    let same : lasts (kinds ls) ≡ lasts (kinds (l.0 ∷ (x ∷ []))) = ap (λ z. lasts (kinds z)) e in
    let long : length ls ≡ 2 = ap length e in
    omega (arith, short, same, long)
end_long S x ls (inr t) =
    let short : lasts (kinds (x ∷ [])) ≤ 0 = lasts_short x.kind [] in
    let same : lasts (kinds ls) ≡ lasts (kinds (x ∷ [])) = ap (λ z. lasts (kinds z)) t.0 in
    omega (arith, short, same, size_one ls x t.0)

-- the fields before the end
abbrev pub behind_facts : Facts
behind_facts = both_facts (token_facts (Sign k.Comma)) (facts field_form)

fields_silent : (S : Pieces) → Calm S → (xs : List FieldDef) (ls : List Piece) → SpellsEach (Behind S) xs ls → (lasts (kinds ls) ≡ 0) × (ends (kinds ls) ≡ false)
unfolding same_kind base_form set_type plain_type field_rights field_form policy_form
fields_silent S calm xs ls h =
    silent_list (each_facts behind_facts) (kinds ls) refl refl
    (each_keeps behind_facts (Behind S)
    (λ x r e. two_keeps (token_facts (Sign k.Comma)) (facts field_form) r (λ t (l, is, b). token_keeps (Sign k.Comma) l t is b) (λ t b. keeps S calm field_form x t b) e) xs ls h)

p_fields : (n : ℕ) (S : Pieces) → Knows S → Calm S → (m : List Lexeme) → Canonical Any (End S) m (n + 1) → PrintsTo n S fields_form (Same AsField) (λ xs. items_lexemes xs ++ m)
unfolding fields_form
p_fields n S know calm m h xs ls good (v, is, ((p, q, g, items, end), few)) =
    let a = each_same AsField (Behind S) (λ x. comma ∷ field_lexemes x) (behind_again S know) v.0 p (good_front ls p q g good) items in
    let silent_fields = fields_silent S calm v.0 p items in
    subst (λ zs. Within (Same AsField zs) (Spells S fields_form) (items_lexemes zs ++ m) n ls) (sym is)
    (record {
      most = length p + (n + 1);
      canon = c.found (λ w ks r d. (w.0, r.0, (w, refl, (d, subst (λ z. z ≤ most_fields) (sym (same_length AsField v.0 w.0 r.0)) few)))) (c.both a h);
      few = omega (arith, size_of ls p q g, behind_silent ls p q g silent_fields, end_long S v.1 q end);
    })

pub p_fields_flat : (S : Pieces) → Knows S → Calm S → PrintsTo 0 S fields_form (Same AsField) (λ xs. items_lexemes xs ++ brace_close ∷ [])
p_fields_flat S know calm = p_fields 0 S know calm (brace_close ∷ []) (closed S)

-- with a comma at the end, which may be left out
pub p_fields_lines : (S : Pieces) → Knows S → Calm S → PrintsTo 1 S fields_form (Same AsField) (λ xs. items_lexemes xs ++ comma ∷ brace_close ∷ [])
p_fields_lines S know calm = p_fields 1 S know calm (comma ∷ brace_close ∷ []) (closed_behind S)

-- ---- models

abbrev pub head_lexemes : Bool → List Lexeme
head_lexemes principal = lexemes_of_marks (principal_mark principal) ++ word (codes "model") ∷ []

abbrev pub SameHead : Bool × Piece → Bool × Piece → Type 0
SameHead v w = w.0 ≡ v.0

p_head : (S : Pieces) → Prints S model_head SameHead (λ v. head_lexemes v.0)
unfolding model_head
p_head S x ls good (inl (v, is, (p, q, g, i, j))) =
    subst (λ z. Canonical (SameHead z) (Spells S model_head) (head_lexemes z.0) (length ls)) (sym is)
    (c.rewritten refl (omega (arith, size_of ls p q g, size_one p v.0 i.0, size_one q v.1 j.0))
    (moved (λ w. (true, w.0)) (λ w r. refl) (λ w ks e. inl (w, refl, e))
    (c.both (lower_word S (codes "principal") refl refl refl) (lower_word S (codes "model") refl refl refl))))
p_head S x ls good (inr (l, is, d)) =
    subst (λ z. Canonical (SameHead z) (Spells S model_head) (head_lexemes z.0) (length ls)) (sym is)
    (c.rewritten refl (omega (arith, size_one ls l d.0))
    (moved (λ w. (false, w)) (λ w r. refl) (λ w ks e. inr (w, refl, e)) (lower_word S (codes "model") refl refl refl)))

abbrev pub AsModel : ModelDef → ModelDef → Type 0
AsModel x y = stripped_model y ≡ stripped_model x

abbrev pub made_model : Bool → Named → Policy → Policy → List FieldDef → ℕ → ModelDef
made_model p n a d fs place = record { principal = p; name = n; create = a; delete = d; fields = fs; at = place }

pub model_as : (p q : Bool) (m l : Piece) (a b d e : Policy) (fs gs : List FieldDef) (i j : ℕ) → q ≡ p → m.bytes ≡ l.bytes → AsPolicy a b → AsPolicy d e → Same AsField fs gs
    → AsModel (made_model p (named l) a d fs i) (made_model q (named m) b e gs j)
model_as p q m l a b d e fs gs i j h n r t f =
    ap (λ z. made_model z (stripped_name (named m)) (stripped_policy b) (stripped_policy e) (map stripped_field gs) 0) h
    ∙ ap (λ z. made_model p z (stripped_policy b) (stripped_policy e) (map stripped_field gs) 0) (name_as m l n)
    ∙ ap (λ z. made_model p (stripped_name (named l)) z (stripped_policy e) (map stripped_field gs) 0) r
    ∙ ap (λ z. made_model p (stripped_name (named l)) (stripped_policy a) z (map stripped_field gs) 0) t
    ∙ ap (λ z. made_model p (stripped_name (named l)) (stripped_policy a) (stripped_policy d) z 0) (same_map stripped_field fs gs f)

-- a model whose fields are printed so
abbrev pub model_lexemes : (List FieldDef → List Lexeme) → ModelDef → List Lexeme
model_lexemes m x =
    head_lexemes x.principal ++ (type x.name.name ∷ brace_open ∷ (right_lexemes (codes "create") x.create ++ comma ∷ (right_lexemes (codes "delete") x.delete ++ m x.fields)))

pub p_model : (n : ℕ) (S : Pieces) → Knows S → Calm S → (m : List FieldDef → List Lexeme) → PrintsTo n S fields_form (Same AsField) m → PrintsTo n S model_form AsModel (model_lexemes m)
unfolding same_kind base_form set_type plain_type field_rights field_form policy_form model_form model_head
p_model n S know calm m fields =
    p_mapped_to n S (λ v. made_model v.0.0 (named v.1.0) v.1.1.0 v.1.1.1.0 v.1.1.1.1 v.0.1.at)
    (model_head ⨾ (token Upper ⨾ behind (sign k.BraceOpen) (right (codes "create") ⨾ (behind (sign k.Comma) (right (codes "delete")) ⨾ fields_form))))
    (λ v w. SameHead v.0 w.0 × ((w.1.0.bytes ≡ v.1.0.bytes) × (AsPolicy v.1.1.0 w.1.1.0 × (AsPolicy v.1.1.1.0 w.1.1.1.0 × Same AsField v.1.1.1.1 w.1.1.1.1))))
    (λ v. head_lexemes v.0.0 ++ (type v.1.0.bytes ∷ [] ++ brace_open ∷ (right_lexemes (codes "create") v.1.1.0 ++ (comma ∷ right_lexemes (codes "delete") v.1.1.1.0 ++ m v.1.1.1.1))))
    AsModel (model_lexemes m)
    (λ v w r. model_as v.0.0 w.0.0 w.1.0 v.1.0 v.1.1.0 w.1.1.0 v.1.1.1.0 w.1.1.1.0 v.1.1.1.1 w.1.1.1.1 v.0.1.at w.0.1.at r.0 r.1.0 r.1.1.0 r.1.1.1.0 r.1.1.1.1) (λ v. refl)
    (p_both_to n S model_head (token Upper ⨾ behind (sign k.BraceOpen) (right (codes "create") ⨾ (behind (sign k.Comma) (right (codes "delete")) ⨾ fields_form)))
    SameHead (λ v w. (w.0.bytes ≡ v.0.bytes) × (AsPolicy v.1.0 w.1.0 × (AsPolicy v.1.1.0 w.1.1.0 × Same AsField v.1.1.1 w.1.1.1))) (λ v. head_lexemes v.0)
    (λ v. type v.0.bytes ∷ [] ++ brace_open ∷ (right_lexemes (codes "create") v.1.0 ++ (comma ∷ right_lexemes (codes "delete") v.1.1.0 ++ m v.1.1.1)))
    (silent S calm model_head refl refl) (p_head S)
    (p_both_to n S (token Upper) (behind (sign k.BraceOpen) (right (codes "create") ⨾ (behind (sign k.Comma) (right (codes "delete")) ⨾ fields_form)))
    (λ l n. n.bytes ≡ l.bytes) (λ v w. AsPolicy v.0 w.0 × (AsPolicy v.1.0 w.1.0 × Same AsField v.1.1 w.1.1)) (λ l. type l.bytes ∷ [])
    (λ v. brace_open ∷ (right_lexemes (codes "create") v.0 ++ (comma ∷ right_lexemes (codes "delete") v.1.0 ++ m v.1.1))) (silent S calm (token Upper) refl refl) (p_upper S)
    (p_behind_to n S (Sign k.BraceOpen) brace_open (right (codes "create") ⨾ (behind (sign k.Comma) (right (codes "delete")) ⨾ fields_form))
    (λ v w. AsPolicy v.0 w.0 × (AsPolicy v.1.0 w.1.0 × Same AsField v.1.1 w.1.1))
    (λ v. right_lexemes (codes "create") v.0 ++ (comma ∷ right_lexemes (codes "delete") v.1.0 ++ m v.1.1)) (silent S calm (token (Sign k.BraceOpen)) refl refl) (brace_open_token S)
    (p_both_to n S (right (codes "create")) (behind (sign k.Comma) (right (codes "delete")) ⨾ fields_form) AsPolicy (λ v w. AsPolicy v.0 w.0 × Same AsField v.1 w.1)
    (right_lexemes (codes "create")) (λ v. comma ∷ right_lexemes (codes "delete") v.0 ++ m v.1) (silent S calm (right (codes "create")) refl refl) (p_right S know (codes "create") (lower_word S (codes "create") refl refl refl))
    (p_both_to n S (behind (sign k.Comma) (right (codes "delete"))) fields_form AsPolicy (Same AsField) (λ x. comma ∷ right_lexemes (codes "delete") x) m
    (silent S calm (behind (sign k.Comma) (right (codes "delete"))) refl refl) (p_behind S (Sign k.Comma) comma (right (codes "delete")) AsPolicy (right_lexemes (codes "delete")) (comma_token S)
    (p_right S know (codes "delete") (lower_word S (codes "delete") refl refl refl))) fields)))))

-- ---- what models print

head_marks : (x : ModelDef) (rest : List Mark)
    → lexemes_of_marks (model.model_head x ++ rest) ≡ head_lexemes x.principal ++ (type x.name.name ∷ lexemes_of_marks rest)
head_marks x rest =
    lexemes_append (model.model_head x) rest
    ∙ ap (λ (z : List Lexeme). z ++ lexemes_of_marks rest) (lexemes_append (principal_mark x.principal) (mark.lower (codes "model") ∷ mark.sp ∷ mark.upper x.name.name ∷ mark.sp ∷ []))
    ∙ append_assoc (lexemes_of_marks (principal_mark x.principal)) (word (codes "model") ∷ type x.name.name ∷ []) (lexemes_of_marks rest)
    ∙ sym (append_assoc (lexemes_of_marks (principal_mark x.principal)) (word (codes "model") ∷ []) (type x.name.name ∷ lexemes_of_marks rest))

pub flat_marks : (x : ModelDef) → lexemes_of_marks (spelled_model x) ≡ model_lexemes (λ xs. items_lexemes xs ++ brace_close ∷ []) x
flat_marks x =
    let one = model.right (codes "create") x.create in
    let other = model.right (codes "delete") x.delete in
    let rest = joined (mark.sign k.Comma ∷ mark.sp ∷ []) (map spelled_field x.fields) in
    let inner = one ++ mark.sign k.Comma ∷ mark.sp ∷ (other ++ rest) in
    head_marks x (model.braced inner)
    ∙ ap (λ z. head_lexemes x.principal ++ type x.name.name ∷ brace_open ∷ z)
    (lexemes_append inner (mark.sign k.BraceClose ∷ [])
    ∙ ap (λ (z : List Lexeme). z ++ brace_close ∷ [])
    (lexemes_append one (mark.sign k.Comma ∷ mark.sp ∷ (other ++ rest))
    ∙ ap (λ z. lexemes_of_marks one ++ comma ∷ z) (lexemes_append other rest ∙ ap (λ z. lexemes_of_marks other ++ z) (joined_lexemes spelled_field x.fields)))
    ∙ append_assoc (lexemes_of_marks one) (comma ∷ (lexemes_of_marks other ++ items_lexemes x.fields)) (brace_close ∷ [])
    ∙ ap (λ z. lexemes_of_marks one ++ comma ∷ z) (append_assoc (lexemes_of_marks other) (items_lexemes x.fields) (brace_close ∷ [])))

-- commas move from before to behind
moved_commas : (xs : List FieldDef) (rest : List Mark)
    → comma ∷ lexemes_of_marks (flat_map field_line xs ++ rest) ≡ items_lexemes xs ++ comma ∷ lexemes_of_marks rest
moved_commas [] rest = refl
moved_commas (x ∷ xs) rest =
    ap (λ z. comma ∷ z)
    (ap lexemes_of_marks (append_assoc (spelled_field x ++ mark.sign k.Comma ∷ mark.newline ∷ []) (flat_map field_line xs) rest)
    ∙ lexemes_append (spelled_field x ++ mark.sign k.Comma ∷ mark.newline ∷ []) (flat_map field_line xs ++ rest)
    ∙ ap (λ (z : List Lexeme). z ++ lexemes_of_marks (flat_map field_line xs ++ rest)) (lexemes_append (spelled_field x) (mark.sign k.Comma ∷ mark.newline ∷ []))
    ∙ append_assoc (field_lexemes x) (comma ∷ []) (lexemes_of_marks (flat_map field_line xs ++ rest))
    ∙ ap (λ z. field_lexemes x ++ z) (moved_commas xs rest)
    ∙ sym (append_assoc (field_lexemes x) (items_lexemes xs) (comma ∷ lexemes_of_marks rest)))

line_marks : (a rest : List Mark) → lexemes_of_marks (entry_line a ++ rest) ≡ lexemes_of_marks a ++ comma ∷ lexemes_of_marks rest
line_marks a rest =
    ap lexemes_of_marks (append_assoc a (mark.sign k.Comma ∷ mark.newline ∷ []) rest) ∙ lexemes_append a (mark.sign k.Comma ∷ mark.newline ∷ rest)

pub lines_marks : (x : ModelDef) → lexemes_of_marks (model_lines x) ≡ model_lexemes (λ xs. items_lexemes xs ++ comma ∷ brace_close ∷ []) x
lines_marks x =
    let one = model.right (codes "create") x.create in
    let other = model.right (codes "delete") x.delete in
    let end = mark.sign k.BraceClose ∷ mark.newline ∷ [] in
    head_marks x (mark.sign k.BraceOpen ∷ mark.newline ∷ (entry_line one ++ (entry_line other ++ (flat_map field_line x.fields ++ end))))
    ∙ ap (λ z. head_lexemes x.principal ++ type x.name.name ∷ brace_open ∷ z)
    (line_marks one (entry_line other ++ (flat_map field_line x.fields ++ end))
    ∙ ap (λ z. lexemes_of_marks one ++ comma ∷ z)
    (line_marks other (flat_map field_line x.fields ++ end) ∙ ap (λ z. lexemes_of_marks other ++ z) (moved_commas x.fields end)))

-- ---- specifications

abbrev pub static_lexemes : Named → List Lexeme
static_lexemes x = word (codes "static") ∷ type x.name ∷ []

p_static : (S : Pieces) → Prints S static_form AsName static_lexemes
unfolding static_form
p_static S =
    p_mapped S named (behind (keyword (codes "static")) (token Upper)) (λ l m. m.bytes ≡ l.bytes) (λ l. word (codes "static") ∷ type l.bytes ∷ []) AsName static_lexemes
    (λ v w r. name_as w v r) (λ v. refl)
    (p_behind S (Word k.Lower (codes "static")) (word (codes "static")) (token Upper) (λ l m. m.bytes ≡ l.bytes) (λ l. type l.bytes ∷ [])
    (lower_word S (codes "static") refl refl refl) (p_upper S))

pub flat_lexemes : {A : Type 0} (m : A → List Mark) (n : A → List Lexeme) → ((x : A) → lexemes_of_marks (m x) ≡ n x) → (xs : List A)
    → lexemes_of_marks (flat_map m xs) ≡ flat n xs
flat_lexemes m n same [] = refl
flat_lexemes m n same (x ∷ xs) =
    lexemes_append (m x) (flat_map m xs) ∙ ap (λ (z : List Lexeme). z ++ lexemes_of_marks (flat_map m xs)) (same x) ∙ ap (λ z. n x ++ z) (flat_lexemes m n same xs)

abbrev pub AsSpec : Spec → Spec → Type 0
AsSpec x y = stripped_spec y ≡ stripped_spec x

abbrev pub made_spec : List Named → List ModelDef → Spec
made_spec s m = record { statics = s; models = m }

abbrev pub lines_lexemes : ModelDef → List Lexeme
lines_lexemes = model_lexemes (λ xs. items_lexemes xs ++ comma ∷ brace_close ∷ [])

-- a model does not end with a comma
model_quiet : (S : Pieces) → Calm S → (x : ModelDef) (ls : List Piece) → Spells S model_form x ls → ends (kinds ls) ≡ false
unfolding same_kind base_form set_type plain_type field_rights field_form policy_form fields_form model_form model_head
model_quiet S calm x ls h = not_last (facts model_form) (kinds ls) refl (keeps S calm model_form x ls h)

statics_silent : (S : Pieces) → Calm S → Silent S (each (AtMost most_statics TooManyStatics) static_form)
unfolding same_kind static_form
statics_silent S calm = silent S calm (each (AtMost most_statics TooManyStatics) static_form) refl refl

-- in a piece more for each model at most
pub p_spec : (S : Pieces) → Knows S → Calm S → (x : Spec) (ls : List Piece) → AreGood ls → Spells S spec_form x ls
    → Within (AsSpec x) (Spells S spec_form) (lexemes_of_marks (spelled_spec x)) (length x.models) ls
unfolding spec_form
p_spec S know calm x ls good (v, is, (p, q, g, (statics, few), (models, some))) =
    let one = p_each S (AtMost most_statics TooManyStatics) static_form AsName static_lexemes (p_static S) v.0 p (good_front ls p q g good) (statics, few) in
    let each = each_more (Spells S model_form) AsModel lines_lexemes (p_model 1 S know calm (λ xs. items_lexemes xs ++ comma ∷ brace_close ∷ []) (p_fields_lines S know calm))
    (model_quiet S calm) v.1 q (good_back ls p q g good) models in
    let other = counted (λ ys ks r e. (e, within_count (AtMost most_models TooManyModels) (length v.1) (length ys) (same_length AsModel v.1 ys r) some)) each.canon in
    let printed : lexemes_of_marks (spelled_spec (made_spec v.0 v.1)) ≡ flat static_lexemes v.0 ++ flat lines_lexemes v.1 =
    lexemes_append (flat_map static_line v.0) (flat_map model_lines v.1)
    ∙ ap (λ (z : List Lexeme). z ++ lexemes_of_marks (flat_map model_lines v.1)) (flat_lexemes static_line static_lexemes (λ x. refl) v.0)
    ∙ ap (λ z. flat static_lexemes v.0 ++ z) (flat_lexemes model_lines lines_lexemes lines_marks v.1) in
    subst (λ z. Within (AsSpec z) (Spells S spec_form) (lexemes_of_marks (spelled_spec z)) (length z.models) ls) (sym is)
    (record {
      most = length p + each.most;
      canon =
          c.rewritten printed (omega arith)
          (moved (λ w. made_spec w.0 w.1)
          (λ w r. ap (λ z. made_spec z (map stripped_model w.1)) (same_map stripped_name v.0 w.0 r.0) ∙ ap (λ z. made_spec (map stripped_name v.0) z) (same_map stripped_model v.1 w.1 r.1))
          (λ w ks e. (w, refl, e)) (c.both one other));
      few = omega (arith, size_of ls p q g, behind_silent ls p q g (statics_silent S calm v.0 p (statics, few)), each.few);
    })
