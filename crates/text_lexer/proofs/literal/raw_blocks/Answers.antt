use Rattle.std.proofs.Common.{◌≡◌, ◌∙◌, ◌+◌, ◌-◌, ap, arith, drop, length-drop, sym, take, true}
use Rattle.std.proofs.lemmas.List.{drop-drop}
use Rattle.std.specs.List.{list_all}
use Rattle.text_lexer.specs.Literal.{is_raw}
use Rattle.text_lexer.proofs.Runs.{prefix_len-past}
use Rattle.text_lexer.proofs.literal.raw_blocks.Goals as goal

pub loop-end-preserved : goal.loop-end-preserved
loop-end-preserved c =
    let z = c.args.text.now in
    let at = c.loop-end.end in
    let rest = drop at z in
    let size = length-drop at z in
    let block : at + 16 - at ≡ 16 = omega arith in
    let passes : list_all is_raw (take 16 rest) ≡ true = ap (λ n. list_all is_raw (take n rest)) (sym block) ∙ sym c.if-are_raw.ensures in
    let past = prefix_len-past is_raw 16 rest (omega (arith, size, c.loop-end-test.true)) passes in
    rw (← drop-drop 16 at z) (omega (arith, past, c.loop-end.invariant), omega (arith, c.loop-end-test.true, c.loop-end.invariant))
