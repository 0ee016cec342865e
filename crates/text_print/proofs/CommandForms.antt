-- What is printed of commands and scripts spells them.
use Rattle.std.proofs.Common.{◌≡◌, inl, inr, ℕ, arith, List, [], ◌∷◌, ◌++◌, length, codes, refl, sym, ◌∙◌, ap, subst, append_assoc, append-nil, Some, None}
use Rattle.std.specs.Prelude.{Option}
use Rattle.text_lexer.specs.declared.token.TokenKind.TheVariants as k
use Rattle.text_lexer.specs.Lexeme.{Lexeme, sign_of}
use Rattle.text_ast.specs.Pieces.{Piece}
use Rattle.text_tree.specs.declared.named.Named.{Named}
use Rattle.text_tree.specs.declared.named.Reason.{Reason}
use Rattle.text_tree.specs.declared.policies.Policy.{Policy}
use Rattle.text_tree.specs.declared.policies.Init.{Init}
use Rattle.text_tree.specs.declared.policies.Init.TheVariants as init
use Rattle.text_tree.specs.declared.models.Ty.{Ty}
use Rattle.text_tree.specs.declared.models.ModelDef.{ModelDef}
use Rattle.text_tree.specs.declared.commands.Command.{Command}
use Rattle.text_tree.specs.declared.commands.Command.TheVariants as command
use Rattle.text_tree.specs.declared.commands.Script.{Script}
use Rattle.text_tree.specs.Forms.{AtMost, TooManyCommands, Spells, Sign, Word, Upper, Lower, Literal, nothing, token, either, each, mapped, part, within}
use Rattle.text_tree.specs.ExprGrammar.{G, Expression, Set, ◌⨾◌, behind, lambda, named, parens, sign, upper_keyword}
use Rattle.text_tree.specs.Grammar.{add_field, added_plain, added_set, command_form, field_of, field_right_list, field_rights, model_command, model_form, model_right_list, most_commands, most_tokens, named_command, plain_type, reason_form, remove_field, right, rights, script_form, set_type, update_field, update_model, weaken_field, weaken_model}
use Rattle.text_tree.specs.LiteralValue.{literal_value}
use Rattle.text_tree.specs.Stripped.{stripped_command, stripped_field, stripped_init, stripped_name, stripped_reason, stripped_right, stripped_script}
use Rattle.text_print.specs.Commands.{command_line, spelled_command, spelled_init, spelled_script}
use Rattle.text_print.specs.Commands as print
use Rattle.text_print.specs.Models as model
use Rattle.text_print.specs.Models.{spelled_model}
use Rattle.text_print.specs.Marks.{Mark, lexemes_of_marks, quoted}
use Rattle.text_print.specs.Marks as mark
use Rattle.text_print.proofs.Canonical as c
use Rattle.text_print.proofs.Canonical.{AreGood, Canonical, Same, flat, moved, good_back, good_front, good_one, size_of, size_one}
use Rattle.text_print.proofs.ExprForms.{name_as}
use Rattle.text_print.proofs.LastCommas.{Calm}
use Rattle.text_print.proofs.ModelForms.{AsModel, brace_close, flat_lexemes, flat_marks, items_lexemes, model_lexemes, p_fields_flat, p_model}
use Rattle.text_print.proofs.PolicyForms.{AsPolicy, AsRights, AsType, Unseen, braced, colon, comma, enclosed, field_as, field_marks, p_field_rights, p_plain_type, p_right, p_set_type, p_type_word, right_lexemes, rights_lexemes, type, type_lexemes, word}
use Rattle.text_print.proofs.Printed.{Prints, p_behind, p_both, p_braces, p_each, p_either, p_literal, p_lower, p_mapped, p_parens, p_upper, within_c, without}
use Rattle.text_print.proofs.Ranks.{AsExpr, expr_lexemes, lexemes_append}
use Rattle.text_print.proofs.SetForms.{same_map}
use Rattle.text_print.proofs.SetRanks.{AsSet, Knows, set_lexemes}
use Rattle.text_print.proofs.Steps.{lambda_c}
use Rattle.text_print.proofs.Tokens.{Pieces, Any, Tok, at, colon_token, colons_token, comma_token, lower_word, upper_token, upper_word}

-- ---- rights that may be given

abbrev pub AsGiven : Option Policy → Option Policy → Type 0
AsGiven x y = stripped_right y ≡ stripped_right x

abbrev pub AsBoth : Option Policy × Option Policy → Option Policy × Option Policy → Type 0
AsBoth v w = AsGiven v.0 w.0 × AsGiven v.1 w.1

abbrev pub given_lexemes : List ℕ → List ℕ → Option Policy × Option Policy → List Lexeme
given_lexemes one other v = lexemes_of_marks (print.given_rights one other v.0 v.1)

abbrev pub Inner : List ℕ → List ℕ → G (Option Policy × Option Policy)
Inner one two =
    either (mapped (λ v. (Some v.0, v.1)) (right one ⨾ either (mapped Some (behind (sign k.Comma) (right two))) (nothing None))) (mapped (λ p. (None, Some p)) (right two))

p_inner : (S : Pieces) → Knows S → (one two : List ℕ) → Canonical Any (Tok S (Word k.Lower one)) (word one ∷ []) 1 → Canonical Any (Tok S (Word k.Lower two)) (word two ∷ []) 1
    → Prints S (Inner one two) AsBoth (given_lexemes one two)
p_inner S know one two h j x ls good (inl (v, is, (p, q, g, first, inl (b, same, d)))) =
    let a = p_right S know one h v.0 p (good_front ls p q g good) first in
    let e = p_behind S (Sign k.Comma) comma (right two) AsPolicy (right_lexemes two) (comma_token S) (p_right S know two j) b q (good_back ls p q g good) d in
    subst (λ z. Canonical (AsBoth z) (Spells S (Inner one two)) (given_lexemes one two z) (length ls)) (sym (is ∙ ap (λ z. (Some v.0, z)) same))
    (c.rewritten (lexemes_append (model.right one v.0) (mark.sign k.Comma ∷ mark.sp ∷ model.right two b)) (omega (arith, size_of ls p q g))
    (moved (λ w. (Some w.0, Some w.1)) (λ w r. (ap Some r.0, ap Some r.1)) (λ w ks (p2, q2, g2, d1, d2). inl ((w.0, Some w.1), refl, (p2, q2, g2, d1, inl (w.1, refl, d2))))
    (c.both a e)))
p_inner S know one two h j x ls good (inl (v, is, (p, q, g, first, inr (none, nil)))) =
    let a = p_right S know one h v.0 p (good_front ls p q g good) first in
    subst (λ z. Canonical (AsBoth z) (Spells S (Inner one two)) (given_lexemes one two z) (length ls)) (sym (is ∙ ap (λ z. (Some v.0, z)) none))
    (c.rewritten refl (omega (arith, size_of ls p q g))
    (moved (λ w. (Some w, None)) (λ w r. (ap Some r, refl)) (λ w ks d. inl ((w, None), refl, (ks, [], sym (append-nil ks), d, inr (refl, refl)))) a))
p_inner S know one two h j x ls good (inr (b, is, d)) =
    let a = p_right S know two j b ls good d in
    subst (λ z. Canonical (AsBoth z) (Spells S (Inner one two)) (given_lexemes one two z) (length ls)) (sym is)
    (moved (λ w. (None, Some w)) (λ w r. (refl, ap Some r)) (λ w ks d. inr (w, refl, d)) a)

pub p_rights : (S : Pieces) → Knows S → (one two : List ℕ) → Canonical Any (Tok S (Word k.Lower one)) (word one ∷ []) 1 → Canonical Any (Tok S (Word k.Lower two)) (word two ∷ []) 1
    → Prints S (rights one two) AsBoth (λ v. braced (given_lexemes one two v))
p_rights S know one two h j = p_braces S (Inner one two) AsBoth (given_lexemes one two) (p_inner S know one two h j)

given_marks : (one two : List ℕ) (v : Option Policy × Option Policy) → lexemes_of_marks (print.rights one two v.0 v.1) ≡ braced (given_lexemes one two v)
given_marks one two v = ap (λ z. at k.BraceOpen (sign_of k.BraceOpen) ∷ z) (lexemes_append (print.given_rights one two v.0 v.1) (mark.sign k.BraceClose ∷ []))

abbrev pub field_given : Option Policy × Option Policy → List Lexeme
field_given v = braced (given_lexemes (codes "read") (codes "write") v)

abbrev pub model_given : Option Policy × Option Policy → List Lexeme
model_given v = braced (given_lexemes (codes "create") (codes "delete") v)

p_field_given : (S : Pieces) → Knows S → Prints S field_right_list AsBoth field_given
unfolding field_right_list
p_field_given S know = p_rights S know (codes "read") (codes "write") (lower_word S (codes "read") refl refl refl) (lower_word S (codes "write") refl refl refl)

p_model_given : (S : Pieces) → Knows S → Prints S model_right_list AsBoth model_given
unfolding model_right_list
p_model_given S know = p_rights S know (codes "create") (codes "delete") (lower_word S (codes "create") refl refl refl) (lower_word S (codes "delete") refl refl refl)

-- ---- reasons and first values

abbrev pub AsReason : Reason → Reason → Type 0
AsReason x y = stripped_reason y ≡ stripped_reason x

abbrev pub reason_lexemes : Reason → List Lexeme
reason_lexemes x = at k.Text (quoted x.text) ∷ []

abbrev pub made_reason : List ℕ → ℕ → Reason
made_reason t i = record { text = t; at = i }

p_reason : (S : Pieces) → Prints S reason_form AsReason reason_lexemes
unfolding reason_form
p_reason S =
    p_mapped S (λ l. made_reason (literal_value l.bytes) l.at) (token Literal) (λ l m. literal_value m.bytes ≡ literal_value l.bytes)
    (λ l. at k.Text (quoted (literal_value l.bytes)) ∷ []) AsReason reason_lexemes (λ v w r. ap (λ z. made_reason z 0) r) (λ v. refl) (p_literal S)

abbrev pub AsInit : Init → Init → Type 0
AsInit x y = stripped_init y ≡ stripped_init x

abbrev pub init_lexemes : Init → List Lexeme
init_lexemes x = lexemes_of_marks (spelled_init x)

abbrev pub arrow : Lexeme
arrow = at k.Arrow (sign_of k.Arrow)

p_lambda : {A : Type 0} (S : Pieces) (f : G A) (R : A → A → Type 0) (m : A → List Lexeme)
    → ((x : A) (ls : List Piece) → AreGood ls → Spells S f x ls → Canonical (R x) (Spells S f) (m x) (length ls))
    → Prints S (lambda (within most_tokens f)) (λ v w. (w.0.bytes ≡ v.0.bytes) × R v.1 w.1) (λ v. word v.0.bytes ∷ arrow ∷ m v.1)
p_lambda S f R m one v ls good (p, q, g, (ni, na), (y, yis, (a, b, g2, i, (d, few)))) =
    let known = one y.1 b (good_back q a b g2 (good_back ls p q g good)) d in
    let h = lambda_c S (within most_tokens f) v.0 (good_one p v.0 ni (good_front ls p q g good)) na (within_c S most_tokens (length b) f few known) in
    subst (λ z. Canonical (λ (w : Piece × _). (w.0.bytes ≡ v.0.bytes) × R z w.1) (Spells S (lambda (within most_tokens f))) (word v.0.bytes ∷ arrow ∷ m z) (length ls)) (sym yis)
    (c.rewritten refl (omega (arith, size_of ls p q g, size_of q a b g2, size_one p v.0 ni, size_one a y.0 i.0)) h)

abbrev pub Added : Type 0
Added = (Ty × Policy × Policy) × Piece × Init

abbrev pub AsAdded : Added → Added → Type 0
AsAdded v w = (AsType v.0.0 w.0.0 × AsRights (v.0.1, v.0.2) (w.0.1, w.0.2)) × (w.1.bytes ≡ v.1.bytes) × AsInit v.2 w.2

abbrev pub added_lexemes : Added → List Lexeme
added_lexemes v =
    type_lexemes v.0.0 ++ (braced (rights_lexemes (codes "read") (codes "write") (v.0.1, v.0.2)) ++ comma ∷ word v.1.bytes ∷ arrow ∷ init_lexemes v.2)

p_added : {A : Type 0} (S : Pieces) → Knows S → (t : G Ty) → Prints S t AsType type_lexemes → (f : G A) (make : A → Init) (R : A → A → Type 0) (m : A → List Lexeme)
    → ((x y : A) → R x y → AsInit (make x) (make y)) → ((x : A) → init_lexemes (make x) ≡ m x)
    → ((x : A) (ls : List Piece) → AreGood ls → Spells S f x ls → Canonical (R x) (Spells S f) (m x) (length ls))
    → Prints S (mapped (λ v. ((v.0, v.1.0.0, v.1.0.1), v.1.1.0, make v.1.1.1)) (t ⨾ (field_rights ⨾ behind (sign k.Comma) (lambda (within most_tokens f))))) AsAdded added_lexemes
p_added S know t types f make R m same spelled one =
    p_mapped S (λ v. ((v.0, v.1.0.0, v.1.0.1), v.1.1.0, make v.1.1.1)) (t ⨾ (field_rights ⨾ behind (sign k.Comma) (lambda (within most_tokens f))))
    (λ v w. AsType v.0 w.0 × (AsRights v.1.0 w.1.0 × ((w.1.1.0.bytes ≡ v.1.1.0.bytes) × R v.1.1.1 w.1.1.1)))
    (λ v. type_lexemes v.0 ++ (braced (rights_lexemes (codes "read") (codes "write") v.1.0) ++ comma ∷ word v.1.1.0.bytes ∷ arrow ∷ m v.1.1.1)) AsAdded added_lexemes
    (λ v w r. ((r.0, r.1.0), r.1.1.0, same v.1.1.1 w.1.1.1 r.1.1.1))
    (λ v. ap (λ z. type_lexemes v.0 ++ (braced (rights_lexemes (codes "read") (codes "write") v.1.0) ++ comma ∷ word v.1.1.0.bytes ∷ arrow ∷ z)) (spelled v.1.1.1))
    (p_both S t (field_rights ⨾ behind (sign k.Comma) (lambda (within most_tokens f))) AsType (λ v w. AsRights v.0 w.0 × ((w.1.0.bytes ≡ v.1.0.bytes) × R v.1.1 w.1.1)) type_lexemes
    (λ v. braced (rights_lexemes (codes "read") (codes "write") v.0) ++ comma ∷ word v.1.0.bytes ∷ arrow ∷ m v.1.1) types
    (p_both S field_rights (behind (sign k.Comma) (lambda (within most_tokens f))) AsRights (λ v w. (w.0.bytes ≡ v.0.bytes) × R v.1 w.1)
    (λ v. braced (rights_lexemes (codes "read") (codes "write") v)) (λ v. comma ∷ word v.0.bytes ∷ arrow ∷ m v.1) (p_field_rights S know)
    (p_behind S (Sign k.Comma) comma (lambda (within most_tokens f)) (λ v w. (w.0.bytes ≡ v.0.bytes) × R v.1 w.1) (λ v. word v.0.bytes ∷ arrow ∷ m v.1) (comma_token S)
    (p_lambda S f R m one))))

p_added_set : (S : Pieces) → Knows S → Prints S added_set AsAdded added_lexemes
unfolding added_set
p_added_set S know =
    p_added S know set_type (p_set_type S) (part Set) init.OfSet AsSet set_lexemes (λ x y r. ap init.OfSet r) (λ x. refl) (λ x ls good d. (know.set x ls good d).1)

p_added_plain : (S : Pieces) → Knows S → Prints S added_plain AsAdded added_lexemes
unfolding added_plain
p_added_plain S know =
    p_added S know plain_type (p_plain_type S) (part Expression) init.Plain AsExpr expr_lexemes (λ x y r. ap init.Plain r) (λ x. refl) (λ x ls good d. (know.expr x ls good d).1)

-- ---- commands to a model

abbrev pub AsCommand : Command → Command → Type 0
AsCommand x y = stripped_command y ≡ stripped_command x

abbrev pub Tail : Type 0
Tail = Piece → Command

abbrev pub AsTail : Tail → Tail → Type 0
AsTail f g = (l m : Piece) → m.bytes ≡ l.bytes → AsCommand (f l) (g m)

abbrev pub colons : Lexeme
colons = at k.ColonColon (sign_of k.ColonColon)

abbrev pub command_lexemes : Command → List Lexeme
command_lexemes x = lexemes_of_marks (spelled_command x)

-- what follows the name of the model
pub record Behind (S : Pieces) (form : G Tail) (f : Tail) (most : ℕ) : Type 0 where
  pub marks : List Lexeme
  pub begins : (l : Piece) → command_lexemes (f l) ≡ type l.bytes ∷ colons ∷ marks
  pub canon : Canonical (AsTail f) (Spells S form) marks most

behind_model : {A : Type 0} (S : Pieces) (make : A → Tail) (form : G A) (R : A → A → Type 0) (m : A → List Lexeme)
    → ((v w : A) → R v w → AsTail (make v) (make w)) → ((v : A) (l : Piece) → command_lexemes (make v l) ≡ type l.bytes ∷ colons ∷ m v) → Prints S form R m
    → (f : Tail) (ls : List Piece) → AreGood ls → Spells S (mapped make form) f ls → Behind S (mapped make form) f (length ls)
behind_model S make form R m same begins one f ls good (v, is, d) =
    subst (λ z. Behind S (mapped make form) z (length ls)) (sym is)
    (record { marks = m v; begins = begins v; canon = moved make (same v) (λ w ks e. (w, refl, e)) (one v ls good d) })

either_behind : (S : Pieces) (f g : G Tail) → ((x : Tail) (ls : List Piece) → AreGood ls → Spells S f x ls → Behind S f x (length ls))
    → ((x : Tail) (ls : List Piece) → AreGood ls → Spells S g x ls → Behind S g x (length ls)) → (x : Tail) (ls : List Piece) → AreGood ls → Spells S (either f g) x ls → Behind S (either f g) x (length ls)
either_behind S f g one other x ls good (inl d) =
    let b = one x ls good d in record { marks = b.marks; begins = b.begins; canon = moved (λ y. y) (λ y r. r) (λ y ks e. inl e) b.canon }
either_behind S f g one other x ls good (inr d) =
    let b = other x ls good d in record { marks = b.marks; begins = b.begins; canon = moved (λ y. y) (λ y r. r) (λ y ks e. inr e) b.canon }

abbrev pub named_word : List ℕ → List Lexeme → List Lexeme
named_word name m = type name ∷ enclosed m

p_applied : {A : Type 0} (S : Pieces) (name : List ℕ) (f : G A) (R : A → A → Type 0) (m : A → List Lexeme) → Canonical Any (Tok S (Word k.Upper name)) (type name ∷ []) 1 → Prints S f R m
    → Prints S (behind (upper_keyword name) (parens f)) R (λ x. named_word name (m x))
p_applied S name f R m h one = p_behind S (Word k.Upper name) (type name) (parens f) R (λ x. enclosed (m x)) h (p_parens S f R m one)

pub add_as : (n l : Piece) (w v : Added) → n.bytes ≡ l.bytes → AsAdded v w
    → AsTail (λ model. command.AddField (named model) (field_of l v.0.0 (v.0.1, v.0.2)) (named v.1) v.2 model.at)
    (λ model. command.AddField (named model) (field_of n w.0.0 (w.0.1, w.0.2)) (named w.1) w.2 model.at)
add_as n l w v e r i j h =
    ap (λ z. command.AddField z (stripped_field (field_of n w.0.0 (w.0.1, w.0.2))) (stripped_name (named w.1)) (stripped_init w.2) 0) (name_as j i h)
    ∙ ap (λ z. command.AddField (stripped_name (named i)) z (stripped_name (named w.1)) (stripped_init w.2) 0)
    (field_as n l w.0.0 v.0.0 (w.0.1, w.0.2) (v.0.1, v.0.2) e r.0.0 r.0.1)
    ∙ ap (λ z. command.AddField (stripped_name (named i)) (stripped_field (field_of l v.0.0 (v.0.1, v.0.2))) z (stripped_init w.2) 0) (name_as w.1 v.1 r.1)
    ∙ ap (λ z. command.AddField (stripped_name (named i)) (stripped_field (field_of l v.0.0 (v.0.1, v.0.2))) (stripped_name (named v.1)) z 0) r.2

abbrev pub close : List Lexeme
close = at k.ParenClose (sign_of k.ParenClose) ∷ []

add_marks : (l : Piece) (v : Added) (owner : Piece)
    → command_lexemes (command.AddField (named owner) (field_of l v.0.0 (v.0.1, v.0.2)) (named v.1) v.2 owner.at)
    ≡ type owner.bytes ∷ colons ∷ named_word (codes "AddField") (word l.bytes ∷ colon ∷ added_lexemes v)
add_marks l v owner =
    let field = field_of l v.0.0 (v.0.1, v.0.2) in
    let given = braced (rights_lexemes (codes "read") (codes "write") (v.0.1, v.0.2)) in
    let rest : List Lexeme = comma ∷ word v.1.bytes ∷ arrow ∷ init_lexemes v.2 in
    let whole : lexemes_of_marks (print.added field (named v.1) v.2) ≡ word l.bytes ∷ colon ∷ added_lexemes v =
    lexemes_append (model.spelled_field field) (mark.sign k.Comma ∷ mark.sp ∷ model.lambda v.1.bytes (spelled_init v.2))
    ∙ ap (λ (z : List Lexeme). z ++ rest) (field_marks l v.0.0 (v.0.1, v.0.2))
    ∙ ap (λ z. word l.bytes ∷ colon ∷ z) (append_assoc (type_lexemes v.0.0) given rest) in
    ap (λ z. type owner.bytes ∷ colons ∷ type (codes "AddField") ∷ at k.ParenOpen (sign_of k.ParenOpen) ∷ z)
    (lexemes_append (print.added field (named v.1) v.2) print.close ∙ ap (λ (z : List Lexeme). z ++ close) whole)

p_add : (S : Pieces) → Knows S → (f : Tail) (ls : List Piece) → AreGood ls → Spells S add_field f ls → Behind S add_field f (length ls)
unfolding add_field
p_add S know =
    behind_model S (λ v model. command.AddField (named model) (field_of v.0 v.1.0.0 (v.1.0.1, v.1.0.2)) (named v.1.1) v.1.2 model.at)
    (behind (upper_keyword (codes "AddField")) (parens (token Lower ⨾ behind (sign k.Colon) (either added_set added_plain))))
    (λ v w. (w.0.bytes ≡ v.0.bytes) × AsAdded v.1 w.1) (λ v. named_word (codes "AddField") (word v.0.bytes ∷ [] ++ colon ∷ added_lexemes v.1))
    (λ v w r. add_as w.0 v.0 w.1 v.1 r.0 r.1) (λ v l. add_marks v.0 v.1 l)
    (p_applied S (codes "AddField") (token Lower ⨾ behind (sign k.Colon) (either added_set added_plain)) (λ v w. (w.0.bytes ≡ v.0.bytes) × AsAdded v.1 w.1)
    (λ v. word v.0.bytes ∷ [] ++ colon ∷ added_lexemes v.1) (upper_word S (codes "AddField") refl refl refl)
    (p_both S (token Lower) (behind (sign k.Colon) (either added_set added_plain)) (λ l m. m.bytes ≡ l.bytes) AsAdded (λ l. word l.bytes ∷ []) (λ v. colon ∷ added_lexemes v) (p_lower S)
    (p_behind S (Sign k.Colon) colon (either added_set added_plain) AsAdded added_lexemes (colon_token S)
    (p_either S added_set added_plain AsAdded added_lexemes (p_added_set S know) (p_added_plain S know)))))

pub remove_as : (n l : Piece) → n.bytes ≡ l.bytes → AsTail (λ model. command.RemoveField (named model) (named l) model.at) (λ model. command.RemoveField (named model) (named n) model.at)
remove_as n l e i j h =
    ap (λ z. command.RemoveField z (stripped_name (named n)) 0) (name_as j i h) ∙ ap (λ z. command.RemoveField (stripped_name (named i)) z 0) (name_as n l e)

p_remove : (S : Pieces) → (f : Tail) (ls : List Piece) → AreGood ls → Spells S remove_field f ls → Behind S remove_field f (length ls)
unfolding remove_field
p_remove S =
    behind_model S (λ l model. command.RemoveField (named model) (named l) model.at) (behind (upper_keyword (codes "RemoveField")) (parens (token Lower)))
    (λ l m. m.bytes ≡ l.bytes) (λ l. named_word (codes "RemoveField") (word l.bytes ∷ [])) (λ v w r. remove_as w v r) (λ v l. refl)
    (p_applied S (codes "RemoveField") (token Lower) (λ l m. m.bytes ≡ l.bytes) (λ l. word l.bytes ∷ []) (upper_word S (codes "RemoveField") refl refl refl) (p_lower S))

abbrev pub Given : Type 0
Given = Option Policy × Option Policy

pub update_as : (n l : Piece) (w v : Given) → n.bytes ≡ l.bytes → AsBoth v w
    → AsTail (λ model. command.UpdateFieldPolicy (named model) (named l) v.0 v.1 model.at) (λ model. command.UpdateFieldPolicy (named model) (named n) w.0 w.1 model.at)
update_as n l w v e r i j h =
    ap (λ z. command.UpdateFieldPolicy z (stripped_name (named n)) (stripped_right w.0) (stripped_right w.1) 0) (name_as j i h)
    ∙ ap (λ z. command.UpdateFieldPolicy (stripped_name (named i)) z (stripped_right w.0) (stripped_right w.1) 0) (name_as n l e)
    ∙ ap (λ z. command.UpdateFieldPolicy (stripped_name (named i)) (stripped_name (named l)) z (stripped_right w.1) 0) r.0
    ∙ ap (λ z. command.UpdateFieldPolicy (stripped_name (named i)) (stripped_name (named l)) (stripped_right v.0) z 0) r.1

update_marks : (l : Piece) (v : Given) (model : Piece)
    → command_lexemes (command.UpdateFieldPolicy (named model) (named l) v.0 v.1 model.at)
    ≡ type model.bytes ∷ colons ∷ named_word (codes "UpdateFieldPolicy") (word l.bytes ∷ comma ∷ field_given v)
update_marks l v model =
    ap (λ z. type model.bytes ∷ colons ∷ type (codes "UpdateFieldPolicy") ∷ at k.ParenOpen (sign_of k.ParenOpen) ∷ word l.bytes ∷ comma ∷ z)
    (lexemes_append (print.rights (codes "read") (codes "write") v.0 v.1) print.close ∙ ap (λ (z : List Lexeme). z ++ close) (given_marks (codes "read") (codes "write") v))

p_update : (S : Pieces) → Knows S → (f : Tail) (ls : List Piece) → AreGood ls → Spells S update_field f ls → Behind S update_field f (length ls)
unfolding update_field
p_update S know =
    behind_model S (λ v model. command.UpdateFieldPolicy (named model) (named v.0) v.1.0 v.1.1 model.at)
    (behind (upper_keyword (codes "UpdateFieldPolicy")) (parens (token Lower ⨾ behind (sign k.Comma) field_right_list)))
    (λ v w. (w.0.bytes ≡ v.0.bytes) × AsBoth v.1 w.1) (λ v. named_word (codes "UpdateFieldPolicy") (word v.0.bytes ∷ [] ++ comma ∷ field_given v.1))
    (λ v w r. update_as w.0 v.0 w.1 v.1 r.0 r.1) (λ v l. update_marks v.0 v.1 l)
    (p_applied S (codes "UpdateFieldPolicy") (token Lower ⨾ behind (sign k.Comma) field_right_list) (λ v w. (w.0.bytes ≡ v.0.bytes) × AsBoth v.1 w.1)
    (λ v. word v.0.bytes ∷ [] ++ comma ∷ field_given v.1) (upper_word S (codes "UpdateFieldPolicy") refl refl refl)
    (p_both S (token Lower) (behind (sign k.Comma) field_right_list) (λ l m. m.bytes ≡ l.bytes) AsBoth (λ l. word l.bytes ∷ []) (λ v. comma ∷ field_given v) (p_lower S)
    (p_behind S (Sign k.Comma) comma field_right_list AsBoth field_given (comma_token S) (p_field_given S know))))

pub weaken_as : (n l : Piece) (w v : Given) (q p : Reason) → n.bytes ≡ l.bytes → AsBoth v w → AsReason p q
    → AsTail (λ model. command.WeakenFieldPolicy (named model) (named l) v.0 v.1 p model.at) (λ model. command.WeakenFieldPolicy (named model) (named n) w.0 w.1 q model.at)
weaken_as n l w v q p e r f i j h =
    ap (λ z. command.WeakenFieldPolicy z (stripped_name (named n)) (stripped_right w.0) (stripped_right w.1) (stripped_reason q) 0) (name_as j i h)
    ∙ ap (λ z. command.WeakenFieldPolicy (stripped_name (named i)) z (stripped_right w.0) (stripped_right w.1) (stripped_reason q) 0) (name_as n l e)
    ∙ ap (λ z. command.WeakenFieldPolicy (stripped_name (named i)) (stripped_name (named l)) z (stripped_right w.1) (stripped_reason q) 0) r.0
    ∙ ap (λ z. command.WeakenFieldPolicy (stripped_name (named i)) (stripped_name (named l)) (stripped_right v.0) z (stripped_reason q) 0) r.1
    ∙ ap (λ z. command.WeakenFieldPolicy (stripped_name (named i)) (stripped_name (named l)) (stripped_right v.0) (stripped_right v.1) z 0) f

-- rights and a reason, and what they are printed as
because_marks : (one two : List ℕ) (v : Given) (p : Reason)
    → lexemes_of_marks (print.rights one two v.0 v.1 ++ (print.because p ++ print.close)) ≡ (braced (given_lexemes one two v) ++ comma ∷ reason_lexemes p) ++ close
because_marks one two v p =
    lexemes_append (print.rights one two v.0 v.1) (print.because p ++ print.close)
    ∙ ap (λ (z : List Lexeme). z ++ comma ∷ at k.Text (quoted p.text) ∷ close) (given_marks one two v)
    ∙ sym (append_assoc (braced (given_lexemes one two v)) (comma ∷ reason_lexemes p) close)

p_weaken : (S : Pieces) → Knows S → (f : Tail) (ls : List Piece) → AreGood ls → Spells S weaken_field f ls → Behind S weaken_field f (length ls)
unfolding weaken_field
p_weaken S know =
    behind_model S (λ v model. command.WeakenFieldPolicy (named model) (named v.0) v.1.0.0 v.1.0.1 v.1.1 model.at)
    (behind (upper_keyword (codes "WeakenFieldPolicy")) (parens (token Lower ⨾ (behind (sign k.Comma) field_right_list ⨾ behind (sign k.Comma) reason_form))))
    (λ v w. (w.0.bytes ≡ v.0.bytes) × (AsBoth v.1.0 w.1.0 × AsReason v.1.1 w.1.1))
    (λ v. named_word (codes "WeakenFieldPolicy") (word v.0.bytes ∷ [] ++ (comma ∷ field_given v.1.0 ++ comma ∷ reason_lexemes v.1.1)))
    (λ v w r. weaken_as w.0 v.0 w.1.0 v.1.0 w.1.1 v.1.1 r.0 r.1.0 r.1.1)
    (λ v l. ap (λ z. type l.bytes ∷ colons ∷ type (codes "WeakenFieldPolicy") ∷ at k.ParenOpen (sign_of k.ParenOpen) ∷ word v.0.bytes ∷ comma ∷ z)
    (because_marks (codes "read") (codes "write") v.1.0 v.1.1))
    (p_applied S (codes "WeakenFieldPolicy") (token Lower ⨾ (behind (sign k.Comma) field_right_list ⨾ behind (sign k.Comma) reason_form))
    (λ v w. (w.0.bytes ≡ v.0.bytes) × (AsBoth v.1.0 w.1.0 × AsReason v.1.1 w.1.1))
    (λ v. word v.0.bytes ∷ [] ++ (comma ∷ field_given v.1.0 ++ comma ∷ reason_lexemes v.1.1)) (upper_word S (codes "WeakenFieldPolicy") refl refl refl)
    (p_both S (token Lower) (behind (sign k.Comma) field_right_list ⨾ behind (sign k.Comma) reason_form) (λ l m. m.bytes ≡ l.bytes)
    (λ v w. AsBoth v.0 w.0 × AsReason v.1 w.1) (λ l. word l.bytes ∷ []) (λ v. comma ∷ field_given v.0 ++ comma ∷ reason_lexemes v.1) (p_lower S)
    (p_both S (behind (sign k.Comma) field_right_list) (behind (sign k.Comma) reason_form) AsBoth AsReason (λ v. comma ∷ field_given v) (λ p. comma ∷ reason_lexemes p)
    (p_behind S (Sign k.Comma) comma field_right_list AsBoth field_given (comma_token S) (p_field_given S know))
    (p_behind S (Sign k.Comma) comma reason_form AsReason reason_lexemes (comma_token S) (p_reason S)))))

pub update_model_as : (w v : Given) → AsBoth v w → AsTail (λ model. command.UpdatePolicy (named model) v.0 v.1 model.at) (λ model. command.UpdatePolicy (named model) w.0 w.1 model.at)
update_model_as w v r i j h =
    ap (λ z. command.UpdatePolicy z (stripped_right w.0) (stripped_right w.1) 0) (name_as j i h)
    ∙ ap (λ z. command.UpdatePolicy (stripped_name (named i)) z (stripped_right w.1) 0) r.0 ∙ ap (λ z. command.UpdatePolicy (stripped_name (named i)) (stripped_right v.0) z 0) r.1

p_update_model : (S : Pieces) → Knows S → (f : Tail) (ls : List Piece) → AreGood ls → Spells S update_model f ls → Behind S update_model f (length ls)
unfolding update_model
p_update_model S know =
    behind_model S (λ v model. command.UpdatePolicy (named model) v.0 v.1 model.at) (behind (upper_keyword (codes "UpdatePolicy")) (parens model_right_list)) AsBoth
    (λ v. named_word (codes "UpdatePolicy") (model_given v)) (λ v w r. update_model_as w v r)
    (λ v l. ap (λ z. type l.bytes ∷ colons ∷ type (codes "UpdatePolicy") ∷ at k.ParenOpen (sign_of k.ParenOpen) ∷ z)
    (lexemes_append (print.rights (codes "create") (codes "delete") v.0 v.1) print.close ∙ ap (λ (z : List Lexeme). z ++ close) (given_marks (codes "create") (codes "delete") v)))
    (p_applied S (codes "UpdatePolicy") model_right_list AsBoth model_given (upper_word S (codes "UpdatePolicy") refl refl refl) (p_model_given S know))

pub weaken_model_as : (w v : Given) (q p : Reason) → AsBoth v w → AsReason p q
    → AsTail (λ model. command.WeakenPolicy (named model) v.0 v.1 p model.at) (λ model. command.WeakenPolicy (named model) w.0 w.1 q model.at)
weaken_model_as w v q p r f i j h =
    ap (λ z. command.WeakenPolicy z (stripped_right w.0) (stripped_right w.1) (stripped_reason q) 0) (name_as j i h)
    ∙ ap (λ z. command.WeakenPolicy (stripped_name (named i)) z (stripped_right w.1) (stripped_reason q) 0) r.0
    ∙ ap (λ z. command.WeakenPolicy (stripped_name (named i)) (stripped_right v.0) z (stripped_reason q) 0) r.1
    ∙ ap (λ z. command.WeakenPolicy (stripped_name (named i)) (stripped_right v.0) (stripped_right v.1) z 0) f

p_weaken_model : (S : Pieces) → Knows S → (f : Tail) (ls : List Piece) → AreGood ls → Spells S weaken_model f ls → Behind S weaken_model f (length ls)
unfolding weaken_model
p_weaken_model S know =
    behind_model S (λ v model. command.WeakenPolicy (named model) v.0.0 v.0.1 v.1 model.at)
    (behind (upper_keyword (codes "WeakenPolicy")) (parens (model_right_list ⨾ behind (sign k.Comma) reason_form))) (λ v w. AsBoth v.0 w.0 × AsReason v.1 w.1)
    (λ v. named_word (codes "WeakenPolicy") (model_given v.0 ++ comma ∷ reason_lexemes v.1)) (λ v w r. weaken_model_as w.0 v.0 w.1 v.1 r.0 r.1)
    (λ v l. ap (λ z. type l.bytes ∷ colons ∷ type (codes "WeakenPolicy") ∷ at k.ParenOpen (sign_of k.ParenOpen) ∷ z) (because_marks (codes "create") (codes "delete") v.0 v.1))
    (p_applied S (codes "WeakenPolicy") (model_right_list ⨾ behind (sign k.Comma) reason_form) (λ v w. AsBoth v.0 w.0 × AsReason v.1 w.1)
    (λ v. model_given v.0 ++ comma ∷ reason_lexemes v.1) (upper_word S (codes "WeakenPolicy") refl refl refl)
    (p_both S model_right_list (behind (sign k.Comma) reason_form) AsBoth AsReason model_given (λ p. comma ∷ reason_lexemes p) (p_model_given S know)
    (p_behind S (Sign k.Comma) comma reason_form AsReason reason_lexemes (comma_token S) (p_reason S))))

abbrev pub Tails : G Tail
Tails = either add_field (either remove_field (either update_field (either weaken_field (either update_model weaken_model))))

tails : (S : Pieces) → Knows S → (f : Tail) (ls : List Piece) → AreGood ls → Spells S Tails f ls → Behind S Tails f (length ls)
tails S know =
    either_behind S add_field (either remove_field (either update_field (either weaken_field (either update_model weaken_model)))) (p_add S know)
    (either_behind S remove_field (either update_field (either weaken_field (either update_model weaken_model))) (p_remove S)
    (either_behind S update_field (either weaken_field (either update_model weaken_model)) (p_update S know)
    (either_behind S weaken_field (either update_model weaken_model) (p_weaken S know)
    (either_behind S update_model weaken_model (p_update_model S know) (p_weaken_model S know)))))

p_on_model : (S : Pieces) → Knows S → Prints S model_command AsCommand command_lexemes
unfolding model_command
p_on_model S know x ls good (v, is, (p, q, g, (ni, na), (u, uis, (a, b, g2, i, d)))) =
    let rest = tails S know u.1 b (good_back q a b g2 (good_back ls p q g good)) d in
    subst (λ z. Canonical (AsCommand z) (Spells S model_command) (command_lexemes z) (length ls)) (sym (is ∙ ap (λ f. f v.0) uis))
    (c.rewritten (rest.begins v.0) (omega (arith, size_of ls p q g, size_of q a b g2, size_one p v.0 ni, size_one a u.0 i.0))
    (moved (λ w. w.1.1 w.0) (λ w r. r.1.1 v.0 w.0 r.0) (λ w ks (p2, q2, h, n, e). ((w.0, w.1.1), refl, (p2, q2, h, n, (w.1, refl, e))))
    (c.both (upper_token S v.0 (good_one p v.0 ni (good_front ls p q g good)) na) (c.both (colons_token S) rest.canon))))

-- ---- the other commands, and scripts

p_naming : (S : Pieces) (name : List ℕ) (make : Named → ℕ → Command) → Canonical Any (Tok S (Word k.Upper name)) (type name ∷ []) 1
    → ((l m : Piece) (i j : ℕ) → m.bytes ≡ l.bytes → AsCommand (make (named l) i) (make (named m) j))
    → ((l : Piece) (i : ℕ) → command_lexemes (make (named l) i) ≡ type name ∷ enclosed (type l.bytes ∷ [])) → Prints S (named_command name make) AsCommand command_lexemes
p_naming S name make h same spelled =
    p_mapped S (λ v. make (named v.1) v.0.at) (upper_keyword name ⨾ parens (token Upper)) (λ v w. Unseen v.0 w.0 × (w.1.bytes ≡ v.1.bytes))
    (λ v. type name ∷ [] ++ enclosed (type v.1.bytes ∷ [])) AsCommand command_lexemes (λ v w r. same v.1 w.1 v.0.at w.0.at r.1) (λ v. spelled v.1 v.0.at)
    (p_both S (upper_keyword name) (parens (token Upper)) Unseen (λ l m. m.bytes ≡ l.bytes) (λ l. type name ∷ []) (λ l. enclosed (type l.bytes ∷ [])) (p_type_word S name h)
    (p_parens S (token Upper) (λ l m. m.bytes ≡ l.bytes) (λ l. type l.bytes ∷ []) (p_upper S)))

abbrev pub Create : G Command
Create = mapped (λ v. command.CreateModel v.1 v.0.at) (upper_keyword (codes "CreateModel") ⨾ parens model_form)

abbrev pub one_line : ModelDef → List Lexeme
one_line = model_lexemes (λ xs. items_lexemes xs ++ brace_close ∷ [])

p_create : (S : Pieces) → Knows S → Calm S → Prints S Create AsCommand command_lexemes
p_create S know calm =
    p_mapped S (λ v. command.CreateModel v.1 v.0.at) (upper_keyword (codes "CreateModel") ⨾ parens model_form) (λ v w. Unseen v.0 w.0 × AsModel v.1 w.1)
    (λ v. type (codes "CreateModel") ∷ [] ++ enclosed (one_line v.1)) AsCommand command_lexemes (λ v w r. ap (λ z. command.CreateModel z 0) r.1)
    (λ v. ap (λ z. type (codes "CreateModel") ∷ at k.ParenOpen (sign_of k.ParenOpen) ∷ z)
    (lexemes_append (spelled_model v.1) (mark.sign k.ParenClose ∷ []) ∙ ap (λ (z : List Lexeme). z ++ close) (flat_marks v.1)))
    (p_both S (upper_keyword (codes "CreateModel")) (parens model_form) Unseen AsModel (λ l. type (codes "CreateModel") ∷ []) (λ x. enclosed (one_line x))
    (p_type_word S (codes "CreateModel") (upper_word S (codes "CreateModel") refl refl refl))
    (p_parens S model_form AsModel one_line (without S model_form (p_model 0 S know calm (λ xs. items_lexemes xs ++ brace_close ∷ []) (p_fields_flat S know calm)))))

pub p_command : (S : Pieces) → Knows S → Calm S → Prints S command_form AsCommand command_lexemes
unfolding command_form
p_command S know calm =
    let delete = named_command (codes "DeleteModel") command.DeleteModel in
    let add = named_command (codes "AddStatic") command.AddStatic in
    let remove = named_command (codes "RemoveStatic") command.RemoveStatic in
    let principal = named_command (codes "AddPrincipal") command.AddPrincipal in
    p_either S Create (either delete (either add (either remove (either principal model_command)))) AsCommand command_lexemes (p_create S know calm)
    (p_either S delete (either add (either remove (either principal model_command))) AsCommand command_lexemes
    (p_naming S (codes "DeleteModel") command.DeleteModel (upper_word S (codes "DeleteModel") refl refl refl) (λ l m i j r. ap (λ z. command.DeleteModel z 0) (name_as m l r)) (λ l i. refl))
    (p_either S add (either remove (either principal model_command)) AsCommand command_lexemes
    (p_naming S (codes "AddStatic") command.AddStatic (upper_word S (codes "AddStatic") refl refl refl) (λ l m i j r. ap (λ z. command.AddStatic z 0) (name_as m l r)) (λ l i. refl))
    (p_either S remove (either principal model_command) AsCommand command_lexemes
    (p_naming S (codes "RemoveStatic") command.RemoveStatic (upper_word S (codes "RemoveStatic") refl refl refl) (λ l m i j r. ap (λ z. command.RemoveStatic z 0) (name_as m l r)) (λ l i. refl))
    (p_either S principal model_command AsCommand command_lexemes
    (p_naming S (codes "AddPrincipal") command.AddPrincipal (upper_word S (codes "AddPrincipal") refl refl refl) (λ l m i j r. ap (λ z. command.AddPrincipal z 0) (name_as m l r)) (λ l i. refl))
    (p_on_model S know)))))

abbrev pub AsScript : Script → Script → Type 0
AsScript x y = stripped_script y ≡ stripped_script x

abbrev pub made_script : List Command → Script
made_script xs = record { commands = xs }

pub p_script : (S : Pieces) → Knows S → Calm S → Prints S script_form AsScript (λ x. lexemes_of_marks (spelled_script x))
unfolding script_form
p_script S know calm =
    p_mapped S made_script (each (AtMost most_commands TooManyCommands) command_form) (Same AsCommand) (flat command_lexemes) AsScript (λ x. lexemes_of_marks (spelled_script x))
    (λ v w r. ap made_script (same_map stripped_command v w r))
    (λ v. flat_lexemes command_line command_lexemes (λ x. lexemes_append (spelled_command x) (mark.newline ∷ []) ∙ append-nil (command_lexemes x)) v)
    (p_each S (AtMost most_commands TooManyCommands) command_form AsCommand command_lexemes (p_command S know calm))
