use Rattle.std.proofs.Common.{◌≡◌, List, ℕ, Option, Some}
use Rattle.std.proofs.lemmas.Result.{err_from_is_err_and}
use Rattle.text_tree.specs.declared.policies.Policy.{Policy}
use Rattle.text_tree.specs.Forms.{either}
use Rattle.text_tree.specs.ExprGrammar.{G}
use Rattle.text_syntax.specs.Reads.{cause_of}
use Rattle.text_parse.specs.Parts.{first_and_more, second_alone}
use Rattle.text_parse.proofs.Steps.{braces_first, braces_second, braces_last, reads_same}
use Rattle.text_parse.proofs.rights.rights.Goals as goal

abbrev inner : List ℕ → List ℕ → G (Option Policy × Option Policy)
inner one two = either (first_and_more one two) (second_alone two)

pub returns-in_err-sign : goal.returns-in_err-sign
returns-in_err-sign c =
    let p = err_from_is_err_and c.from_residual.result c.from_residual.ensures.1 in
    rw p.1 (λ d e.
    let same : cause_of c.in_err-sign.field-0.0 ≡ Some d = cc (p.2, e) in
    braces_first (inner c.args.one.now c.args.two.now) c.args.cursor.now c.sign.new.self d (c.in_err-sign.ensures d same))

pub returns-in_err-rights : goal.returns-in_err-rights
returns-in_err-rights c =
    let p = err_from_is_err_and c.from_residual-in_err-rights.result c.from_residual-in_err-rights.ensures.1 in
    rw p.1 (λ d e.
    let same : cause_of c.in_err-rights.field-0.0 ≡ Some d = cc (p.2, e) in
    braces_second (inner c.args.one.now c.args.two.now) c.args.cursor.now c.sign.new.self c.one_or_both.new.cursor _ d c.in_ok-sign.ensures (c.in_err-rights.ensures d same))

pub returns : goal.returns
returns c =
    reads_same _ _ c.closed.result c.closed.new.cursor
    (braces_last (inner c.args.one.now c.args.two.now) c.args.cursor.now c.sign.new.self c.one_or_both.new.cursor _ _ c.in_ok-sign.ensures c.in_ok-rights.ensures) c.closed.ensures
