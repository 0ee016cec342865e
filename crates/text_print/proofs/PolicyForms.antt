-- What is printed of policies, types and fields spells them.
use Rattle.std.proofs.Common.{◌≡◌, ◌+◌, inl, inr, ℕ, arith, List, [], ◌∷◌, ◌++◌, length, codes, refl, sym, ◌∙◌, ap, subst}
use Rattle.text_lexer.specs.declared.token.TokenKind.TheVariants as k
use Rattle.text_lexer.specs.Lexeme.{Lexeme, sign_of}
use Rattle.text_ast.specs.Pieces.{Piece}
use Rattle.text_tree.specs.declared.named.Named.{Named}
use Rattle.text_tree.specs.declared.policies.Policy.{Policy}
use Rattle.text_tree.specs.declared.policies.Policy.TheVariants as policy
use Rattle.text_tree.specs.declared.models.Base.{Base}
use Rattle.text_tree.specs.declared.models.Base.TheVariants as base
use Rattle.text_tree.specs.declared.models.Ty.{Ty}
use Rattle.text_tree.specs.declared.models.Ty.TheVariants as ty
use Rattle.text_tree.specs.declared.models.FieldDef.{FieldDef}
use Rattle.text_tree.specs.declared.exprs.SetExpr.{SetExpr}
use Rattle.text_tree.specs.Forms.{Spells, Sign, Word, Upper, Lower, token, either, mapped, part, within}
use Rattle.text_tree.specs.ExprGrammar.{Set, ◌⨾◌, behind, named, parens, sign, upper_keyword}
use Rattle.text_tree.specs.Grammar.{base_form, field_form, field_of, field_rights, most_tokens, plain_type, policy_form, right, set_type}
use Rattle.text_tree.specs.Stripped.{stripped_base, stripped_field, stripped_name, stripped_policy, stripped_set, stripped_type}
use Rattle.text_print.specs.Models.{spelled_base, spelled_field, spelled_policy, spelled_type}
use Rattle.text_print.specs.Models as model
use Rattle.text_print.specs.Marks.{lexemes_of_marks}
use Rattle.text_print.specs.Marks as mark
use Rattle.text_print.proofs.Canonical as c
use Rattle.text_print.proofs.Canonical.{AreGood, Canonical, moved, good_back, good_front, good_one, size_of, size_one}
use Rattle.text_print.proofs.ExprForms.{name_as}
use Rattle.text_print.proofs.Printed.{Prints, p_behind, p_both, p_braces, p_either, p_lower, p_mapped, p_parens, p_token, p_upper, within_c}
use Rattle.text_print.proofs.Ranks.{lexemes_append}
use Rattle.text_print.proofs.SetRanks.{AsSet, Knows}
use Rattle.text_print.proofs.Steps.{lambda_c}
use Rattle.text_print.proofs.Tokens.{Pieces, Any, Tok, at, colon_token, comma_token, lower_word, upper_word}

-- ---- policies

abbrev pub AsPolicy : Policy → Policy → Type 0
AsPolicy x y = stripped_policy y ≡ stripped_policy x

abbrev pub policy_lexemes : Policy → List Lexeme
policy_lexemes x = lexemes_of_marks (spelled_policy x)

pub fun_as : (m l : Piece) (u t : SetExpr) → m.bytes ≡ l.bytes → AsSet t u → AsPolicy (policy.Fun (named l) t) (policy.Fun (named m) u)
fun_as m l u t n r = ap (λ z. policy.Fun z (stripped_set u)) (name_as m l n) ∙ ap (λ z. policy.Fun (stripped_name (named l)) z) r

pub policy_c : (S : Pieces) → Knows S → (x : Policy) (ls : List Piece) → AreGood ls → Spells S policy_form x ls
    → Canonical (AsPolicy x) (Spells S policy_form) (policy_lexemes x) (length ls)
unfolding policy_form
policy_c S know x ls good (inl (l, is, (g, a))) =
    subst (λ z. Canonical (AsPolicy z) (Spells S policy_form) (policy_lexemes z) (length ls)) (sym is)
    (c.rewritten refl (omega (arith, size_one ls l g))
    (moved (λ m. policy.Everyone m.at) (λ m r. refl) (λ m ks d. inl (m, refl, d)) (lower_word S (codes "public") refl refl refl)))
policy_c S know x ls good (inr (inl (l, is, (g, a)))) =
    subst (λ z. Canonical (AsPolicy z) (Spells S policy_form) (policy_lexemes z) (length ls)) (sym is)
    (c.rewritten refl (omega (arith, size_one ls l g))
    (moved (λ m. policy.Nobody m.at) (λ m r. refl) (λ m ks d. inr (inl (m, refl, d))) (lower_word S (codes "none") refl refl refl)))
policy_c S know x ls good (inr (inr (v, is, (p, q, g, (ni, na), (y, yis, (a, b, g2, (ai, aa), (d, few))))))) =
    let a1 : length ls ≡ length p + length q = size_of ls p q g in
    let a2 : length q ≡ length a + length b = size_of q a b g2 in
    let c1 : length p ≡ 1 = size_one p v.0 ni in
    let c2 : length a ≡ 1 = size_one a y.0 ai in
    let known = know.set y.1 b (good_back q a b g2 (good_back ls p q g good)) d in
    subst (λ z. Canonical (AsPolicy z) (Spells S policy_form) (policy_lexemes z) (length ls)) (sym (is ∙ ap (λ z. policy.Fun (named v.0) z) yis))
    (c.rewritten refl (omega arith)
    (moved (λ z. policy.Fun (named z.0) z.1) (λ z r. fun_as z.0 v.0 z.1 y.1 r.0 r.1) (λ z ks e. inr (inr (z, refl, e)))
    (lambda_c S (within most_tokens (part Set)) v.0 (good_one p v.0 ni (good_front ls p q g good)) na
    (within_c S most_tokens (length b) (part Set) few known.1))))

pub p_policy : (S : Pieces) → Knows S → Prints S policy_form AsPolicy policy_lexemes
p_policy S know x ls good d = policy_c S know x ls good d

abbrev pub colon : Lexeme
colon = at k.Colon (sign_of k.Colon)

abbrev pub comma : Lexeme
comma = at k.Comma (sign_of k.Comma)

abbrev pub word : List ℕ → Lexeme
word bytes = at k.Lower bytes

abbrev pub type : List ℕ → Lexeme
type bytes = at k.Upper bytes

abbrev pub right_lexemes : List ℕ → Policy → List Lexeme
right_lexemes name x = word name ∷ colon ∷ policy_lexemes x

pub p_right : (S : Pieces) → Knows S → (name : List ℕ) → Canonical Any (Tok S (Word k.Lower name)) (word name ∷ []) 1 → Prints S (right name) AsPolicy (right_lexemes name)
p_right S know name h =
    p_behind S (Word k.Lower name) (word name) (behind (sign k.Colon) policy_form) AsPolicy (λ x. colon ∷ policy_lexemes x) h
    (p_behind S (Sign k.Colon) colon policy_form AsPolicy policy_lexemes (colon_token S) (p_policy S know))

-- ---- types

abbrev pub AsName : Named → Named → Type 0
AsName x y = stripped_name y ≡ stripped_name x

abbrev pub upper_lexemes : Named → List Lexeme
upper_lexemes x = type x.name ∷ []

pub p_name : (S : Pieces) → Prints S (mapped named (token Upper)) AsName upper_lexemes
p_name S =
    p_mapped S named (token Upper) (λ l m. m.bytes ≡ l.bytes) (λ l. type l.bytes ∷ []) AsName upper_lexemes (λ v w r. name_as w v r) (λ v. refl) (p_upper S)

abbrev pub enclosed : List Lexeme → List Lexeme
enclosed m = at k.ParenOpen (sign_of k.ParenOpen) ∷ (m ++ at k.ParenClose (sign_of k.ParenClose) ∷ [])

abbrev pub braced : List Lexeme → List Lexeme
braced m = at k.BraceOpen (sign_of k.BraceOpen) ∷ (m ++ at k.BraceClose (sign_of k.BraceClose) ∷ [])

pub p_id : (S : Pieces) → Prints S (parens (mapped named (token Upper))) AsName (λ x. enclosed (upper_lexemes x))
p_id S = p_parens S (mapped named (token Upper)) AsName upper_lexemes (p_name S)

abbrev pub Unseen : Piece → Piece → Type 0
Unseen l m = Unit {0}

pub p_type_word : (S : Pieces) (name : List ℕ) → Canonical Any (Tok S (Word k.Upper name)) (type name ∷ []) 1 → Prints S (upper_keyword name) Unseen (λ l. type name ∷ [])
p_type_word S name h = p_token S (Word k.Upper name) (type name) h

abbrev pub AsBase : Base → Base → Type 0
AsBase x y = stripped_base y ≡ stripped_base x

abbrev pub base_lexemes : Base → List Lexeme
base_lexemes x = lexemes_of_marks (spelled_base x)

pub p_base : (S : Pieces) → Prints S base_form AsBase base_lexemes
unfolding base_form
p_base S x ls good (inl d) =
    let a = p_mapped S (λ l. base.Bool l.at) (upper_keyword (codes "Bool")) Unseen (λ l. type (codes "Bool") ∷ []) AsBase base_lexemes (λ v w r. refl) (λ v. refl)
    (p_type_word S (codes "Bool") (upper_word S (codes "Bool") refl refl refl)) x ls good d in
    moved (λ y. y) (λ y r. r) (λ y ks e. inl e) a
p_base S x ls good (inr (inl d)) =
    let a = p_mapped S (λ l. base.Int l.at) (upper_keyword (codes "Int")) Unseen (λ l. type (codes "Int") ∷ []) AsBase base_lexemes (λ v w r. refl) (λ v. refl)
    (p_type_word S (codes "Int") (upper_word S (codes "Int") refl refl refl)) x ls good d in
    moved (λ y. y) (λ y r. r) (λ y ks e. inr (inl e)) a
p_base S x ls good (inr (inr (inl d))) =
    let a = p_mapped S (λ l. base.Text l.at) (upper_keyword (codes "Text")) Unseen (λ l. type (codes "Text") ∷ []) AsBase base_lexemes (λ v w r. refl) (λ v. refl)
    (p_type_word S (codes "Text") (upper_word S (codes "Text") refl refl refl)) x ls good d in
    moved (λ y. y) (λ y r. r) (λ y ks e. inr (inr (inl e))) a
p_base S x ls good (inr (inr (inr d))) =
    let a = p_mapped S (λ v. base.Id v.1 v.0.at) (upper_keyword (codes "Id") ⨾ parens (mapped named (token Upper))) (λ v w. Unseen v.0 w.0 × AsName v.1 w.1)
    (λ v. type (codes "Id") ∷ [] ++ enclosed (upper_lexemes v.1)) AsBase base_lexemes (λ v w r. ap (λ z. base.Id z 0) r.1) (λ v. refl)
    (p_both S (upper_keyword (codes "Id")) (parens (mapped named (token Upper))) Unseen AsName (λ l. type (codes "Id") ∷ []) (λ y. enclosed (upper_lexemes y))
    (p_type_word S (codes "Id") (upper_word S (codes "Id") refl refl refl)) (p_id S)) x ls good d in
    moved (λ y. y) (λ y r. r) (λ y ks e. inr (inr (inr e))) a

abbrev pub AsType : Ty → Ty → Type 0
AsType x y = stripped_type y ≡ stripped_type x

abbrev pub type_lexemes : Ty → List Lexeme
type_lexemes x = lexemes_of_marks (spelled_type x)

pub p_set_type : (S : Pieces) → Prints S set_type AsType type_lexemes
unfolding set_type
p_set_type S =
    p_mapped S (λ v. ty.Set v.1 v.0.at) (upper_keyword (codes "Set") ⨾ parens (behind (upper_keyword (codes "Id")) (parens (mapped named (token Upper)))))
    (λ v w. Unseen v.0 w.0 × AsName v.1 w.1) (λ v. type (codes "Set") ∷ [] ++ enclosed (type (codes "Id") ∷ enclosed (upper_lexemes v.1))) AsType type_lexemes
    (λ v w r. ap (λ z. ty.Set z 0) r.1) (λ v. refl)
    (p_both S (upper_keyword (codes "Set")) (parens (behind (upper_keyword (codes "Id")) (parens (mapped named (token Upper))))) Unseen AsName (λ l. type (codes "Set") ∷ [])
    (λ y. enclosed (type (codes "Id") ∷ enclosed (upper_lexemes y))) (p_type_word S (codes "Set") (upper_word S (codes "Set") refl refl refl))
    (p_parens S (behind (upper_keyword (codes "Id")) (parens (mapped named (token Upper)))) AsName (λ y. type (codes "Id") ∷ enclosed (upper_lexemes y))
    (p_behind S (Word k.Upper (codes "Id")) (type (codes "Id")) (parens (mapped named (token Upper))) AsName (λ y. enclosed (upper_lexemes y))
    (upper_word S (codes "Id") refl refl refl) (p_id S))))

pub p_plain_type : (S : Pieces) → Prints S plain_type AsType type_lexemes
unfolding plain_type
p_plain_type S x ls good (inl d) =
    let a = p_mapped S (λ v. ty.Opt v.1 v.0.at) (upper_keyword (codes "Option") ⨾ parens base_form) (λ v w. Unseen v.0 w.0 × AsBase v.1 w.1)
    (λ v. type (codes "Option") ∷ [] ++ enclosed (base_lexemes v.1)) AsType type_lexemes (λ v w r. ap (λ z. ty.Opt z 0) r.1)
    (λ v. ap (λ z. type (codes "Option") ∷ at k.ParenOpen (sign_of k.ParenOpen) ∷ z) (lexemes_append (spelled_base v.1) (mark.sign k.ParenClose ∷ [])))
    (p_both S (upper_keyword (codes "Option")) (parens base_form) Unseen AsBase (λ l. type (codes "Option") ∷ []) (λ y. enclosed (base_lexemes y))
    (p_type_word S (codes "Option") (upper_word S (codes "Option") refl refl refl)) (p_parens S base_form AsBase base_lexemes (p_base S))) x ls good d in
    moved (λ y. y) (λ y r. r) (λ y ks e. inl e) a
p_plain_type S x ls good (inr d) =
    let a = p_mapped S ty.Plain base_form AsBase base_lexemes AsType type_lexemes (λ v w r. ap ty.Plain r) (λ v. refl) (p_base S) x ls good d in
    moved (λ y. y) (λ y r. r) (λ y ks e. inr e) a

-- ---- fields

abbrev pub AsRights : Policy × Policy → Policy × Policy → Type 0
AsRights v w = AsPolicy v.0 w.0 × AsPolicy v.1 w.1

abbrev pub rights_lexemes : List ℕ → List ℕ → Policy × Policy → List Lexeme
rights_lexemes one other v = right_lexemes one v.0 ++ comma ∷ right_lexemes other v.1

pub p_field_rights : (S : Pieces) → Knows S → Prints S field_rights AsRights (λ v. braced (rights_lexemes (codes "read") (codes "write") v))
unfolding field_rights
p_field_rights S know =
    p_braces S (right (codes "read") ⨾ behind (sign k.Comma) (right (codes "write"))) AsRights (rights_lexemes (codes "read") (codes "write"))
    (p_both S (right (codes "read")) (behind (sign k.Comma) (right (codes "write"))) AsPolicy AsPolicy (right_lexemes (codes "read"))
    (λ x. comma ∷ right_lexemes (codes "write") x) (p_right S know (codes "read") (lower_word S (codes "read") refl refl refl))
    (p_behind S (Sign k.Comma) comma (right (codes "write")) AsPolicy (right_lexemes (codes "write")) (comma_token S)
    (p_right S know (codes "write") (lower_word S (codes "write") refl refl refl))))

pub rights_marks : (one other : List ℕ) (v : Policy × Policy)
    → lexemes_of_marks (model.braced (model.right one v.0 ++ mark.sign k.Comma ∷ mark.sp ∷ model.right other v.1)) ≡ braced (rights_lexemes one other v)
rights_marks one other v =
    ap (λ z. at k.BraceOpen (sign_of k.BraceOpen) ∷ z)
    (lexemes_append (model.right one v.0 ++ mark.sign k.Comma ∷ mark.sp ∷ model.right other v.1) (mark.sign k.BraceClose ∷ [])
    ∙ ap (λ (z : List Lexeme). z ++ at k.BraceClose (sign_of k.BraceClose) ∷ []) (lexemes_append (model.right one v.0) (mark.sign k.Comma ∷ mark.sp ∷ model.right other v.1)))

abbrev pub AsField : FieldDef → FieldDef → Type 0
AsField x y = stripped_field y ≡ stripped_field x

abbrev pub field_lexemes : FieldDef → List Lexeme
field_lexemes x = lexemes_of_marks (spelled_field x)

abbrev pub made_field : Named → Ty → Policy → Policy → FieldDef
made_field n t r w = record { name = n; ty = t; read = r; write = w }

pub field_as : (m l : Piece) (u t : Ty) (w v : Policy × Policy) → m.bytes ≡ l.bytes → AsType t u → AsRights v w → AsField (field_of l t v) (field_of m u w)
field_as m l u t w v n r h =
    ap (λ z. made_field z (stripped_type u) (stripped_policy w.0) (stripped_policy w.1)) (name_as m l n)
    ∙ ap (λ z. made_field (stripped_name (named l)) z (stripped_policy w.0) (stripped_policy w.1)) r
    ∙ ap (λ z. made_field (stripped_name (named l)) (stripped_type t) z (stripped_policy w.1)) h.0
    ∙ ap (λ z. made_field (stripped_name (named l)) (stripped_type t) (stripped_policy v.0) z) h.1

pub field_marks : (l : Piece) (t : Ty) (v : Policy × Policy)
    → field_lexemes (field_of l t v) ≡ word l.bytes ∷ colon ∷ (type_lexemes t ++ braced (rights_lexemes (codes "read") (codes "write") v))
field_marks l t v =
    ap (λ z. word l.bytes ∷ colon ∷ z)
    (lexemes_append (spelled_type t) (mark.sp ∷ model.rights_of_field (field_of l t v)) ∙ ap (λ z. type_lexemes t ++ z) (rights_marks (codes "read") (codes "write") v))

pub p_field : (S : Pieces) → Knows S → Prints S field_form AsField field_lexemes
unfolding field_form
p_field S know =
    p_mapped S (λ v. field_of v.0 v.1.0 v.1.1) (token Lower ⨾ behind (sign k.Colon) (either set_type plain_type ⨾ field_rights))
    (λ v w. (w.0.bytes ≡ v.0.bytes) × (AsType v.1.0 w.1.0 × AsRights v.1.1 w.1.1))
    (λ v. word v.0.bytes ∷ [] ++ colon ∷ (type_lexemes v.1.0 ++ braced (rights_lexemes (codes "read") (codes "write") v.1.1))) AsField field_lexemes
    (λ v w r. field_as w.0 v.0 w.1.0 v.1.0 w.1.1 v.1.1 r.0 r.1.0 r.1.1) (λ v. field_marks v.0 v.1.0 v.1.1)
    (p_both S (token Lower) (behind (sign k.Colon) (either set_type plain_type ⨾ field_rights)) (λ l m. m.bytes ≡ l.bytes) (λ v w. AsType v.0 w.0 × AsRights v.1 w.1)
    (λ l. word l.bytes ∷ []) (λ v. colon ∷ (type_lexemes v.0 ++ braced (rights_lexemes (codes "read") (codes "write") v.1))) (p_lower S)
    (p_behind S (Sign k.Colon) colon (either set_type plain_type ⨾ field_rights) (λ v w. AsType v.0 w.0 × AsRights v.1 w.1)
    (λ v. type_lexemes v.0 ++ braced (rights_lexemes (codes "read") (codes "write") v.1)) (colon_token S)
    (p_both S (either set_type plain_type) field_rights AsType AsRights type_lexemes (λ v. braced (rights_lexemes (codes "read") (codes "write") v))
    (p_either S set_type plain_type AsType type_lexemes (p_set_type S) (p_plain_type S)) (p_field_rights S know))))
