use Rattle.std.proofs.Common.{◌≡◌, List, ℕ, Option, Some, None}
use Rattle.std.proofs.lemmas.Result.{err_from_is_err_and}
use Rattle.text_lexer.specs.declared.token.TokenKind.TheVariants as k
use Rattle.text_tree.specs.declared.policies.Policy.{Policy}
use Rattle.text_tree.specs.Forms.{either, mapped, nothing}
use Rattle.text_tree.specs.ExprGrammar.{G, behind, sign}
use Rattle.text_tree.specs.Grammar.{right}
use Rattle.text_syntax.specs.Reads.{cause_of}
use Rattle.text_parse.proofs.Steps.{both_first, both_second, both_got}
use Rattle.text_parse.proofs.rights.first_and_more.Goals as goal

abbrev pair : Policy × Option Policy → Option Policy × Option Policy
pair v = (Some v.0, v.1)

abbrev more : List ℕ → G (Option Policy)
more two = either (mapped Some (behind (sign k.Comma) (right two))) (nothing None)

pub returns-in_err-first : goal.returns-in_err-first
returns-in_err-first c =
    let p = err_from_is_err_and c.from_residual.result c.from_residual.ensures.1 in
    rw p.1 (λ d e.
    let same : cause_of c.in_err-first.field-0.0 ≡ Some d = cc (p.2, e) in
    both_first pair (right c.args.one.now) (more c.args.two.now) c.args.cursor.now c.right.new.cursor d (c.in_err-first.ensures d same))

pub returns-in_err-second : goal.returns-in_err-second
returns-in_err-second c =
    let p = err_from_is_err_and c.from_residual-in_err-second.result c.from_residual-in_err-second.ensures.1 in
    rw p.1 (λ d e.
    let same : cause_of c.in_err-second.field-0.0 ≡ Some d = cc (p.2, e) in
    both_second pair (right c.args.one.now) (more c.args.two.now) c.args.cursor.now c.right.new.cursor c.second_right.new.cursor _ d c.in_ok-first.ensures (c.in_err-second.ensures d same))

pub returns : goal.returns
returns c =
    both_got pair (right c.args.one.now) (more c.args.two.now) c.args.cursor.now c.right.new.cursor c.second_right.new.cursor _ _ c.in_ok-first.ensures c.in_ok-second.ensures
