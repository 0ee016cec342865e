use Rattle.std.proofs.Common.{rules, arith, ◌≤◌, ◌<◌, ◌-◌, length, slice_range}
use Rattle.std.proofs.lemmas.List.{take_rest}
use Rattle.text_lexer.proofs.Values.{begin_unescaping, character_left, literal_long, unescape_more, unescaped_literal}
use Rattle.text_lexer.proofs.literal.unescape.Goals as goal

pub overflow_sub-rest : goal.overflow_sub-rest
overflow_sub-rest c = let long = literal_long c.args.literal.now c.requires.0 c.requires.1 in omega arith

pub slice_bounds-rest-end : goal.slice_bounds-rest-end
slice_bounds-rest-end c = let long = literal_long c.args.literal.now c.requires.0 c.requires.1 in omega arith

pub loop-rest-init : goal.loop-rest-init
loop-rest-init c = rw c.new-value.ensures.items (begin_unescaping c.args.literal.now c.requires.0 c.requires.1)

pub character-byte-requires : goal.character-byte-requires
character-byte-requires c =
    let some : 0 < length c.loop-rest.rest.now = search rules in
    character_left _ c.loop-rest.rest.now c.loop-rest.value.items c.loop-rest.invariant some

pub loop-rest-preserved : goal.loop-rest-preserved
loop-rest-preserved c =
    let some : 0 < length c.loop-rest.rest.now = search rules in
    let inside = slice_range c.args.literal.now 1 (length c.args.literal.now - 1) in
    let byte = c.character-byte.result.0 in
    let len = c.character-byte.result.1 in
    rw (c.in_ok-push.ensures.items, take_rest) (unescape_more inside c.loop-rest.rest.now c.loop-rest.value.items len byte c.loop-rest.invariant some c.character-byte.ensures.writes)

pub returns : goal.returns
returns c =
    let over : length c.loop-rest.rest.now ≤ 0 = search rules in
    unescaped_literal c.args.literal.now c.requires.0 c.loop-rest.rest.now c.loop-rest.value.items c.requires.1 c.loop-rest.invariant over
