use Rattle.std.proofs.Common.{arith, refl, sym, ap, ◌∙◌}
use Rattle.std.proofs.lemmas.List.{take_rest}
use Rattle.text_lexer.specs.Front.{placed}
use Rattle.text_lexer.proofs.TokenLists.{front_within, placed_token, token_from_front}
use Rattle.text_lexer.proofs.text.token_at.Goals as goal

pub overflow_add-result : goal.overflow_add-result
overflow_add-result c =
    let found = rw take_rest at c.in-Ok.ensures.value in
    omega (arith, front_within c.args.text.now c.args.at c.in-Ok.front (omega arith) (sym found))

pub overflow_cast-result-in-Ok : goal.overflow_cast-result-in-Ok
overflow_cast-result-in-Ok c =
    let found = rw take_rest at c.in-Ok.ensures.value in
    omega (arith, front_within c.args.text.now c.args.at c.in-Ok.front (omega arith) (sym found))

pub returns-in-Ok-clause-value : goal.returns-in-Ok-clause-value
returns-in-Ok-clause-value c =
    let found = rw take_rest at c.in-Ok.ensures.value in ap (placed c.args.at) found

pub returns-in-Ok-clause-ok : goal.returns-in-Ok-clause-ok
returns-in-Ok-clause-ok c =
    let found = rw take_rest at c.in-Ok.ensures.value in
    (refl, token_from_front c.args.text.now c.args.at c.in-Ok.front (omega arith) (sym found))

pub returns-in-Ok-clause-only : goal.returns-in-Ok-clause-only
returns-in-Ok-clause-only c token same is =
    let found = rw take_rest at c.in-Ok.ensures.value in
    ap (placed c.args.at) found ∙ placed_token c.args.text.now c.args.at token same is

pub returns-in-Ok-clause-within : goal.returns-in-Ok-clause-within
returns-in-Ok-clause-within c =
    let found = rw take_rest at c.in-Ok.ensures.value in
    front_within c.args.text.now c.args.at c.in-Ok.front (omega arith) (sym found)

pub returns-in-Err-clause-value : goal.returns-in-Err-clause-value
returns-in-Err-clause-value c =
    let found = rw take_rest at c.in-Err.ensures.value in
    rw c.refusal.ensures (ap (placed c.args.at) found)

pub returns-in-Err-clause-only : goal.returns-in-Err-clause-only
returns-in-Err-clause-only c token same is =
    let found = rw take_rest at c.in-Err.ensures.value in
    rw c.refusal.ensures (ap (placed c.args.at) found) ∙ placed_token c.args.text.now c.args.at token same is
