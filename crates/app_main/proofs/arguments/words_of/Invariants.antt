use Rattle.std.proofs.Common.{◌≡◌, ◌++◌, length, map, string_bytes}
use Rattle.std.specs.Prelude.{All}
use Rattle.std.specs.Vec.Iter.{into_iter_items, into_iter_len}
use Rattle.text_ast.specs.Words.{IsText}
use Rattle.app_main.proofs.arguments.words_of.Given as goal

-- the words so far and the arguments left are all arguments
abbrev pub invariant-loop-argument : goal.invariant-loop-argument
invariant-loop-argument l =
    (goal.iterator-loop-argument).can_next l.argument-iterator
    × (goal.iterator-loop-argument).is_finite l.argument-iterator
    × (into_iter_len l.argument-iterator ≡ length (into_iter_items l.argument-iterator))
    × All IsText l.words.items
    × (map string_bytes l.fn.arguments.items ≡ l.words.items ++ map string_bytes (into_iter_items l.argument-iterator))
