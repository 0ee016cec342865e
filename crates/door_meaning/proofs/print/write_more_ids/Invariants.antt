use Rattle.std.proofs.Common.{◌≡◌, ◌++◌, codes, take}
use Rattle.std.specs.List.{flat_map}
use Rattle.data_print.specs.Texts.{id_text}
use Rattle.door_meaning.proofs.print.write_more_ids.Given as goal

abbrev pub invariant-loop-id : goal.invariant-loop-id
invariant-loop-id l = l.out ≡ l.fn.out ++ flat_map (λ id. codes ", " ++ id_text id) (take l.id-index l.ids)
