use Rattle.std.proofs.lemmas.List.Elements.{Contains-append_right}
use Rattle.certify_atoms.proofs.sides.is_listed_anywhere.Goals as goal

pub returns-else-is_in : goal.returns-else-is_in
returns-else-is_in c = λ e. Contains-append_right c.args.words.now.named.items c.args.words.now.others.items c.args.id (c.is_in-else-is_in.ensures e)
