use Rattle.std.proofs.Common.{map}
use Rattle.std.specs.List.{filter, range_with_len}
use Rattle.form_terms.specs.GroundTerms.{constant}
use Rattle.ground_terms.specs.Codes.{is_marked}
use Rattle.ground_terms.specs.Standing.{AreListed}
use Rattle.ground_terms.proofs.first.list_constants.Given as goal

abbrev pub invariant-loop-sort : goal.invariant-loop-sort
invariant-loop-sort l = AreListed (map constant (filter (is_marked l.needed) (range_with_len 0 l.sort))) l.initial.terms l.terms l.initial.listed.items l.listed.items
