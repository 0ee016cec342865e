-- The last comma of each printed model, and what is left of it without a pair of parentheses.
use Rattle.std.proofs.Common.{◌≡◌, ◌≤◌, ◌+◌, arith, Bool, true, false, List, [], ◌∷◌, ◌++◌, map, codes, length, refl, sym, ◌∙◌, ap, subst, append_assoc}
use Rattle.std.specs.Prelude.{◌&&◌}
use Rattle.std.specs.List.{flat_map}
use Rattle.text_lexer.specs.declared.token.TokenKind.{TokenKind}
use Rattle.text_lexer.specs.declared.token.TokenKind.TheVariants as k
use Rattle.text_lexer.specs.Lexeme.{Lexeme}
use Rattle.text_ast.specs.Pieces.{Piece}
use Rattle.text_tree.specs.declared.models.ModelDef.{ModelDef}
use Rattle.text_tree.specs.declared.models.Spec.{Spec}
use Rattle.text_tree.specs.Forms.{same_kind}
use Rattle.text_print.specs.Models.{model_lines, spelled_spec, static_line}
use Rattle.text_print.specs.Marks.{lexemes_of_marks}
use Rattle.text_print.specs.Reprinted.{lexeme}
use Rattle.text_print.proofs.Canonical.{flat}
use Rattle.text_print.proofs.LastCommas.{begins, counted_if, is_brace, is_comma, kinds, lasts}
use Rattle.text_print.proofs.ModelForms.{brace_close, brace_open, flat_lexemes, head_lexemes, items_lexemes, lines_lexemes, lines_marks}
use Rattle.text_print.proofs.PolicyForms.{comma, right_lexemes, type}
use Rattle.text_print.proofs.Ranks.{lexemes_append}

abbrev pub lexeme_kinds : List Lexeme → List TokenKind
lexeme_kinds ws = map (λ (w : Lexeme). w.kind) ws

pub kinds_of : (ls : List Piece) → kinds ls ≡ lexeme_kinds (map lexeme ls)
kinds_of [] = refl
kinds_of (l ∷ ls) = ap (λ z. l.kind ∷ z) (kinds_of ls)

lexeme_kinds_append : (a b : List Lexeme) → lexeme_kinds (a ++ b) ≡ lexeme_kinds a ++ lexeme_kinds b
lexeme_kinds_append [] b = refl
lexeme_kinds_append (w ∷ a) b = ap (λ z. w.kind ∷ z) (lexeme_kinds_append a b)

-- ---- of two lists

lasts_back : (xs ys : List TokenKind) → lasts ys ≤ lasts (xs ++ ys)
lasts_back [] ys = omega arith
lasts_back (x ∷ xs) ys = omega (arith, lasts_back xs ys)

lasts_both : (xs ys : List TokenKind) → lasts xs + lasts ys ≤ lasts (xs ++ ys)
lasts_both [] ys = omega arith
lasts_both (x ∷ []) ys =
    let none : counted_if (is_comma x && false) ≡ 0 = and_none (is_comma x) in
    omega (arith, none)
  where
    and_none : (b : Bool) → counted_if (b && false) ≡ 0
    and_none true = refl
    and_none false = refl
lasts_both (x ∷ y ∷ xs) ys = omega (arith, lasts_both (y ∷ xs) ys)

-- what is neither of the two may be left out
left_out : (xs ys : List TokenKind) (x : TokenKind) → is_comma x ≡ false → is_brace x ≡ false → lasts (xs ++ x ∷ ys) ≤ lasts (xs ++ ys)
left_out [] ys x c b =
    let none : counted_if (is_comma x && begins ys) ≡ 0 = ap (λ z. counted_if (z && begins ys)) c in
    omega (arith, none)
left_out (z ∷ []) ys x c b =
    let none : counted_if (is_comma z && is_brace x) ≡ 0 = ap (λ t. counted_if (is_comma z && t)) b ∙ and_none (is_comma z) in
    let rest = left_out [] ys x c b in
    omega (arith, none, rest)
  where
    and_none : (b : Bool) → counted_if (b && false) ≡ 0
    and_none true = refl
    and_none false = refl
left_out (z ∷ y ∷ xs) ys x c b = omega (arith, left_out (y ∷ xs) ys x c b)

open_is : (is_comma k.ParenOpen ≡ false) × (is_brace k.ParenOpen ≡ false)
unfolding same_kind
open_is = (refl, refl)

close_is : (is_comma k.ParenClose ≡ false) × (is_brace k.ParenClose ≡ false)
unfolding same_kind
close_is = (refl, refl)

pub pair_kept : (a b d : List Lexeme) (v w : Lexeme) → v.kind ≡ k.ParenOpen → w.kind ≡ k.ParenClose
    → lasts (lexeme_kinds (a ++ v ∷ (b ++ w ∷ d))) ≤ lasts (lexeme_kinds (a ++ (b ++ d)))
pair_kept a b d v w begun done =
    let A = lexeme_kinds a in
    let B = lexeme_kinds b in
    let D = lexeme_kinds d in
    let whole : lexeme_kinds (a ++ v ∷ (b ++ w ∷ d)) ≡ A ++ k.ParenOpen ∷ (B ++ k.ParenClose ∷ D) =
    lexeme_kinds_append a (v ∷ (b ++ w ∷ d)) ∙ ap (λ z. A ++ v.kind ∷ z) (lexeme_kinds_append b (w ∷ d))
    ∙ ap (λ z. A ++ z ∷ (B ++ w.kind ∷ D)) begun ∙ ap (λ z. A ++ k.ParenOpen ∷ (B ++ z ∷ D)) done in
    let rest : lexeme_kinds (a ++ (b ++ d)) ≡ (A ++ B) ++ D =
    lexeme_kinds_append a (b ++ d) ∙ ap (λ z. A ++ z) (lexeme_kinds_append b d) ∙ sym (append_assoc A B D) in
    let one : lasts (A ++ k.ParenOpen ∷ (B ++ k.ParenClose ∷ D)) ≤ lasts (A ++ (B ++ k.ParenClose ∷ D)) = left_out A (B ++ k.ParenClose ∷ D) k.ParenOpen open_is.0 open_is.1 in
    let other : lasts ((A ++ B) ++ k.ParenClose ∷ D) ≤ lasts ((A ++ B) ++ D) = left_out (A ++ B) D k.ParenClose close_is.0 close_is.1 in
    let same : lasts (A ++ (B ++ k.ParenClose ∷ D)) ≡ lasts ((A ++ B) ++ k.ParenClose ∷ D) = ap lasts (sym (append_assoc A B (k.ParenClose ∷ D))) in
    let first : lasts (lexeme_kinds (a ++ v ∷ (b ++ w ∷ d))) ≡ lasts (A ++ k.ParenOpen ∷ (B ++ k.ParenClose ∷ D)) = ap lasts whole in
    let last : lasts (lexeme_kinds (a ++ (b ++ d))) ≡ lasts ((A ++ B) ++ D) = ap lasts rest in
    omega (arith, one, other, same, first, last)

-- ---- of a specification

end_one : 1 ≤ lasts (lexeme_kinds (comma ∷ brace_close ∷ []))
unfolding same_kind
end_one = omega arith

back_of : (a b : List Lexeme) → lasts (lexeme_kinds b) ≤ lasts (lexeme_kinds (a ++ b))
back_of a b = subst (λ z. lasts (lexeme_kinds b) ≤ lasts z) (sym (lexeme_kinds_append a b)) (lasts_back (lexeme_kinds a) (lexeme_kinds b))

model_one : (x : ModelDef) → 1 ≤ lasts (lexeme_kinds (lines_lexemes x))
model_one x =
    let end : List Lexeme = comma ∷ brace_close ∷ [] in
    let fields : List Lexeme = items_lexemes x.fields ++ end in
    let deleted : List Lexeme = right_lexemes (codes "delete") x.delete ++ fields in
    let created : List Lexeme = right_lexemes (codes "create") x.create ++ comma ∷ deleted in
    let a = back_of (items_lexemes x.fields) end in
    let b = back_of (right_lexemes (codes "delete") x.delete) fields in
    let c = back_of (right_lexemes (codes "create") x.create ++ comma ∷ []) deleted in
    let same : (right_lexemes (codes "create") x.create ++ comma ∷ []) ++ deleted ≡ created = append_assoc (right_lexemes (codes "create") x.create) (comma ∷ []) deleted in
    let d : lasts (lexeme_kinds ((right_lexemes (codes "create") x.create ++ comma ∷ []) ++ deleted)) ≡ lasts (lexeme_kinds created) = ap (λ z. lasts (lexeme_kinds z)) same in
    let e = back_of (type x.name.name ∷ brace_open ∷ []) created in
    let f = back_of (head_lexemes x.principal) (type x.name.name ∷ brace_open ∷ created) in
    omega (arith, end_one, a, b, c, d, e, f)

models_one : (xs : List ModelDef) → length xs ≤ lasts (lexeme_kinds (flat lines_lexemes xs))
models_one [] = omega arith
models_one (x ∷ xs) =
    let both : lasts (lexeme_kinds (lines_lexemes x)) + lasts (lexeme_kinds (flat lines_lexemes xs)) ≤ lasts (lexeme_kinds (lines_lexemes x) ++ lexeme_kinds (flat lines_lexemes xs)) =
    lasts_both (lexeme_kinds (lines_lexemes x)) (lexeme_kinds (flat lines_lexemes xs)) in
    let same : lasts (lexeme_kinds (lines_lexemes x ++ flat lines_lexemes xs)) ≡ lasts (lexeme_kinds (lines_lexemes x) ++ lexeme_kinds (flat lines_lexemes xs)) =
    ap lasts (lexeme_kinds_append (lines_lexemes x) (flat lines_lexemes xs)) in
    omega (arith, both, same, model_one x, models_one xs)

-- a comma before the brace of each model
pub lasts_of_spec : (x : Spec) → length x.models ≤ lasts (lexeme_kinds (lexemes_of_marks (spelled_spec x)))
lasts_of_spec x =
    let printed : lexemes_of_marks (spelled_spec x) ≡ lexemes_of_marks (flat_map static_line x.statics) ++ flat lines_lexemes x.models =
    lexemes_append (flat_map static_line x.statics) (flat_map model_lines x.models)
    ∙ ap (λ z. lexemes_of_marks (flat_map static_line x.statics) ++ z) (flat_lexemes model_lines lines_lexemes lines_marks x.models) in
    let same : lasts (lexeme_kinds (lexemes_of_marks (spelled_spec x))) ≡ lasts (lexeme_kinds (lexemes_of_marks (flat_map static_line x.statics) ++ flat lines_lexemes x.models)) =
    ap (λ z. lasts (lexeme_kinds z)) printed in
    omega (arith, same, back_of (lexemes_of_marks (flat_map static_line x.statics)) (flat lines_lexemes x.models), models_one x.models)
