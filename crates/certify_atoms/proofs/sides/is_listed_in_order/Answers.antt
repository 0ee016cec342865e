use Rattle.std.proofs.lemmas.List.Elements.{Contains-append_right}
use Rattle.certify_atoms.proofs.sides.is_listed_in_order.Goals as goal

pub returns-else-is_found : goal.returns-else-is_found
returns-else-is_found c = λ e. Contains-append_right c.args.words.now.named.items c.args.words.now.others.items c.args.id (c.is_found-else-is_found.ensures e)
