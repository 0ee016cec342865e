use Rattle.std.proofs.Common.{◌++◌, ◌∷◌, ◌+◌, [], ◌∙◌, ap, sym, append-nil}
use Rattle.std.specs.Prelude.{if◌then◌else◌}
use Rattle.check_witness.proofs.values.push_id.Goals as goal

pub returns-else-is_among : goal.returns-else-is_among
returns-else-is_among c =
    sym (ap (λ b. c.args.ids.now ++ (if b then (c.args.y + 1) ∷ [] else [])) (sym c.is_among.ensures ∙ c.if-is_among.false) ∙ append-nil c.args.ids.now)
