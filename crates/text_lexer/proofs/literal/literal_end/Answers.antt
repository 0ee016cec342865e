use Rattle.std.proofs.Common.{◌≡◌, ◌+◌, ◌≤◌, arith, drop, length, sym, ◌∙◌, Ok, length-drop}
use Rattle.std.proofs.lemmas.Bool.{ne_eqb}
use Rattle.std.proofs.lemmas.List.{drop-drop, take_rest}
use Rattle.std.specs.List.{prefix_len}
use Rattle.text_lexer.specs.Literal.{is_raw}
use Rattle.text_lexer.specs.LiteralEnd.{character_front}
use Rattle.text_lexer.proofs.Literals.{literal_from-after_raw, literal_from-character}
use Rattle.text_lexer.proofs.literal.literal_end.Goals as goal

pub loop-rest-init : goal.loop-rest-init
loop-rest-init c =
    let z = c.args.text.now in
    let raw = c.raw_end-raw.result in
    let within : raw ≤ length z = c.raw_end-raw.ensures.within in
    let size = length-drop raw z in
    rw (take_rest z raw) (literal_from-after_raw 1 0 raw (1 + raw) raw z c.raw_end-raw.ensures.value (omega arith) (omega arith), omega (arith, size, within), omega arith, omega arith)

pub loop-rest-preserved : goal.loop-rest-preserved
loop-rest-preserved c =
    let l = c.loop-rest in
    let z = l.rest.now in
    let len = c.in_ok-len.len in
    let raw = c.raw_end-raw-in-len1-up.result in
    let after = drop len z in
    let read : character_front l.at z ≡ Ok len = sym c.character_len.ensures.value ∙ c.in_ok-len.was in
    let step = literal_from-character l.at l.count z len (ne_eqb _ 34 c.if-byte-eq34.false) read c.in_ok-len.ensures.within.0 in
    let is : raw ≡ prefix_len is_raw after = rw (← take_rest z len) c.raw_end-raw-in-len1-up.ensures.value in
    let on = literal_from-after_raw (l.at + len) (l.count + 1) raw (l.at + (len + raw)) (l.count + (1 + raw)) after is (omega arith) (omega arith) in
    let size = length-drop len z in
    let whole = length-drop (len + raw) z in
    let inside : raw ≤ length after = rw (← take_rest z len) c.raw_end-raw-in-len1-up.ensures.within in
    rw (take_rest z (len + raw), ← drop-drop raw len z) (on ∙ sym step ∙ l.invariant.0, omega (arith, l.invariant, size, inside, c.in_ok-len.ensures.within, length-drop raw after), omega (arith, l.invariant, c.in_ok-len.ensures.within), omega (arith, l.invariant))
